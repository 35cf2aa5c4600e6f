-- What a writer does to its buffer.
use Rattle.std.specs.Prelude.{◌≡◌, ℕ, List, length}
use Rattle.text.specs.declared.put.Writer.{Writer}
use Rattle.text.specs.Answers.{Wrote}

-- the bytes stand in the same buffer, as long as it was, from the old place on, and the new place is where they end
pub record Writes (was new : Writer) (bs : List ℕ) : Type 0 where
  pub same : new.out.ghost_name ≡ was.out.ghost_name
  pub long : length new.out.now ≡ length was.out.now
  pub text : Wrote was.out.now new.out.now was.at new.at bs

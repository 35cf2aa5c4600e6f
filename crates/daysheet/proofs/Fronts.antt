-- An answer read back from the front of its buffer.
use Rattle.std.proofs.Common.{◌≡◌, ℕ, ◌+◌, ◌<◌, List, length, take, drop, ap, ◌∙◌, arith}
use Rattle.std.proofs.lemmas.List.{take_at}
use Rattle.text.specs.Answers.{Wrote, no_text}
use Rattle.table.specs.declared.refusal.Reason.TheVariants.{LongInput}
use Rattle.std.proofs.lemmas.Bool.{lt-leb}
use Rattle.daysheet.specs.Sheets.{most_bytes, sheet_text}

pub front : (was new : List ℕ) (n : ℕ) (bs : List ℕ) → Wrote was new 0 n bs → take n new ≡ bs
front was new n bs w = ap (take n) w.after ∙ take_at bs (drop (0 + length bs) was) n (omega (arith, w.len))

-- a sheet that is too long
pub too_long : (input : List ℕ) → most_bytes < length input → no_text LongInput 0 ≡ sheet_text input
too_long input long = let w = lt-leb (length input) most_bytes long in simp w

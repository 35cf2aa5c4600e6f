use Rattle.std.proofs.Common.{◌≡◌, ℕ, Bool, ◌==◌, List, length, ap, ◌∙◌, ⊎_elim, arith, not, position, lt-ltb, le-ltb}
use Rattle.std.proofs.lemmas.Bool.{cases_lt}
use Rattle.std.proofs.lemmas.List.Sums.{prefix_len-le-length}
use Rattle.std.specs.List.{position_or_len}
use Rattle.std.specs.Option.{unwrap_or}
use Rattle.text.proofs.bytes.bytes_before.Goals as goal

first_or_all : (p : ℕ → Bool) (xs : List ℕ) → unwrap_or (position p xs) (length xs) ≡ position_or_len p xs
first_or_all p xs =
    let n : ℕ = position_or_len p xs in
    ⊎_elim
    (λ lt. rw (lt-ltb n (length xs) lt))
    (λ ge. rw (le-ltb n (length xs) ge) (omega (arith, prefix_len-le-length (λ x. not (p x)) xs)))
    (cases_lt n (length xs))

pub returns-clause-value : goal.returns-clause-value
returns-clause-value c =
    c.unwrap_or.ensures ∙ ap (λ o. unwrap_or o (length c.args.text.now)) c.place_of.ensures ∙ first_or_all (λ b. b == c.args.byte) c.args.text.now

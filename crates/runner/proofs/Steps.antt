-- The first step of a script, by its first byte.
use Rattle.std.proofs.Common.{◌≡◌, ℕ, ◌-◌, ◌<◌, ◌≤◌, List, [], ◌∷◌, length, get_or, take, drop, None, refl, ap, arith}
use Rattle.std.proofs.lemmas.List.{take_all}
use Rattle.runner.specs.Commands.{command_from, step_of}

pub step_none : (bs : List ℕ) → length bs < 1 → None ≡ step_of bs
unfolding step_of
step_none [] h = refl
step_none (kind ∷ bs) h = absurd (omega arith)

pub step_more : (bs : List ℕ) → 1 ≤ length bs → command_from (get_or bs 0 0) (take (length bs - 1) (drop 1 bs)) ≡ step_of bs
unfolding step_of
step_more [] h = absurd (omega arith)
step_more (kind ∷ bs) h = ap (command_from kind) (take_all (length (kind ∷ bs) - 1) bs (omega arith))

-- A rule of a table, proved at every entry by one test that is computed over the whole table.
use Rattle.std.proofs.Common.{◌≡◌, ℕ, zero, suc, ◌<◌, Bool, true, ◌&&◌, List, [], ◌∷◌, length, get_or, arith}
use Rattle.std.proofs.lemmas.Bool.{and_parts}

-- the test passes at every entry
abbrev pub every : {A : Type 0} → (A → Bool) → List A → Bool
every test [] = true
every test (x ∷ xs) = test x && every test xs

pub every_at : {A : Type 0} (test : A → Bool) (xs : List A) (k : ℕ) (d : A) → every test xs ≡ true → k < length xs → test (get_or xs k d) ≡ true
every_at test [] k d all h = absurd (omega arith)
every_at test (x ∷ xs) zero d all h = (and_parts (test x) (every test xs) all).0
every_at test (x ∷ xs) (suc k) d all h = every_at test xs k d (and_parts (test x) (every test xs) all).1 (omega arith)

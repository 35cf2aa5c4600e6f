-- Scans along a list: what is left decides.
use Rattle.std.proofs.Common.{◌≡◌, ℕ, zero, suc, ◌+◌, ◌<◌, Bool, true, false, cond, eqb, not, ◌||◌, List, [], ◌∷◌, map, length, get_or, drop, Some, None, Option, Ok, Err, Result, refl, ap, ◌∙◌, arith}
use Rattle.std.proofs.lemmas.List.{drop_more}
use Rattle.std.specs.List.{find, list_any, range_with_len}
use Rattle.std.proofs.lemmas.List.Recursion.{same_from_clauses}
use Rattle.fabric.specs.declared.declined.Declined.{Declined}
use Rattle.fabric.specs.Questions.{ask_each}
use Rattle.fabric.specs.Reserving.{among}

module _ {X : Type 0} (test : ℕ → X → Bool) (declined : ℕ → Declined) (xs : List X) (i : ℕ) where
  -- the questions from place i on decide
  abbrev pub Left : Type 0
  Left = ask_each test declined i (drop i xs) ≡ ask_each test declined 0 xs

  pub each_stop : (d : X) → i < length xs → test i (get_or xs i d) ≡ false → Left → Err (declined i) ≡ ask_each test declined 0 xs
  each_stop d more bad was = simp (drop_more xs i d more, ask_each, bad) at was

  pub each_go : (d : X) → i < length xs → test i (get_or xs i d) ≡ true → Left → ask_each test declined (i + 1) (drop (i + 1) xs) ≡ ask_each test declined 0 xs
  each_go d more good was = simp (drop_more xs i d more, ask_each, good) at was

-- a test of what is made of each
pub each_map : {X Y : Type 0} (test : ℕ → Y → Bool) (declined : ℕ → Declined) (f : X → Y) (k : ℕ) (xs : List X) → ask_each (λ i x. test i (f x)) declined k xs ≡ ask_each test declined k (map f xs)
each_map test declined f k [] = refl
each_map test declined f k (x ∷ xs) = ap (λ r. cond (test k (f x)) r (Err (declined k))) (each_map test declined f (k + 1) xs)

eq_swap : (a b : ℕ) → eqb a b ≡ eqb b a
eq_swap a b = grind arith

-- what `contains` answers
pub among_any : (p : ℕ) (xs : List ℕ) → list_any (λ x. eqb x p) xs ≡ among p xs
among_any p = same_from_clauses (list_any (λ x. eqb x p)) (among p) (λ x found. eqb p x || found) refl (λ x xs. ap (λ b. b || list_any (λ y. eqb y p) xs) (eq_swap x p)) (λ x xs. refl)

-- one answer of yes, and then the others
first_yes : (b : Bool) (e : Declined) (next : Result (Unit {0}) Declined) → Ok tt ≡ cond b next (Err e) → (b ≡ true) × (Ok tt ≡ next)
first_yes true e next is = (refl, is)
first_yes false e next is = let w : ◌≡◌ {A = ℕ} 0 1 = cc in absurd (omega arith)

-- where no place declines, the answer is yes at each
pub each_yes : {X : Type 0} (test : ℕ → X → Bool) (declined : ℕ → Declined) (k : ℕ) (xs : List X) → Ok tt ≡ ask_each test declined k xs
    → (i : ℕ) (d : X) → i < length xs → test (k + i) (get_or xs i d) ≡ true
each_yes test declined k [] all i d h = absurd (omega arith)
each_yes test declined k (x ∷ xs) all zero d h =
    ap (λ n. test n x) {x = k + 0} {y = k} (omega arith) ∙ (first_yes (test k x) (declined k) (ask_each test declined (k + 1) xs) all).0
each_yes test declined k (x ∷ xs) all (suc i) d h =
    ap (λ n. test n (get_or xs i d)) {x = k + suc i} {y = (k + 1) + i} (omega arith)
    ∙ each_yes test declined (k + 1) xs (first_yes (test k x) (declined k) (ask_each test declined (k + 1) xs) all).1 i d (omega arith)

-- what is said of the place that was found, if one was
abbrev pub declined_at : (ℕ → Declined) → Option ℕ → Result (Unit {0}) Declined
declined_at declined None = Ok tt
declined_at declined (Some k) = Err (declined k)

one_place : (declined : ℕ → Declined) (k : ℕ) (no? yes? : Bool) (later : Option ℕ) → no? ≡ not yes? → declined_at declined (cond no? (Some k) later) ≡ cond yes? (declined_at declined later) (Err (declined k))
one_place declined k no? true later is = ap (λ b. declined_at declined (cond b (Some k) later)) is
one_place declined k no? false later is = ap (λ b. declined_at declined (cond b (Some k) later)) is

-- the first place that is found to have the answer no declines
pub each_found : {X : Type 0} (test : X → Bool) (declined : ℕ → Declined) (no? : ℕ → Bool) (d : X) (k : ℕ) (xs : List X) → ((i : ℕ) → no? (k + i) ≡ not (test (get_or xs i d)))
    → declined_at declined (find no? (range_with_len k (length xs))) ≡ ask_each (λ i x. test x) declined k xs
each_found test declined no? d k [] same = refl
each_found test declined no? d k (x ∷ xs) same =
    one_place declined k (no? k) (test x) (find no? (range_with_len (k + 1) (length xs))) (ap no? {x = k} {y = k + 0} (omega arith) ∙ same 0)
    ∙ ap (λ r. cond (test x) r (Err (declined k))) (each_found test declined no? d (k + 1) xs (λ i. ap no? {x = (k + 1) + i} {y = k + suc i} (omega arith) ∙ same (suc i)))

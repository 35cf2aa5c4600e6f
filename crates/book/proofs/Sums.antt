-- Sums over the sessions of a book.
use Rattle.std.proofs.Common.{◌≡◌, ℕ, zero, suc, ◌+◌, ◌<◌, ◌≤◌, Bool, true, false, cond, not, ◌||◌, eqb, ◌⊎◌, List, [], ◌∷◌, length, get_or, Some, None, sum_by, Option, sym, refl, ◌∙◌, subst, inl, inr, arith}
use Rattle.std.proofs.lemmas.List.Sums.{sum_by-cons, get_or-le-sum_by}
use Rattle.std.proofs.lemmas.Bool.{cases_Bool, cases_lt, both_ways, eqb-true, cond-true, cond-false, and_parts, not-true}
use Rattle.book.specs.declared.session.Session.{Session}
use Rattle.book.specs.Entries.{Ranks, size_of, holds}
use Rattle.book.specs.Tests.{once}
use Rattle.book.specs.Sessions.{sessions_of, without, listed, SameSessions}

-- what an entry adds to a sum
abbrev pub opt : (Session → ℕ) → Option Session → ℕ
opt g None = 0
opt g (Some s) = g s

pub sum_sessions : (g : Session → ℕ) (xs : Ranks) → sum_by g (sessions_of xs) ≡ sum_by (opt g) xs
unfolding sessions_of
sum_sessions g [] = refl
sum_sessions g (None ∷ xs) = omega (arith, sum_by-cons (opt g) None xs, sum_sessions g xs)
sum_sessions g (Some s ∷ xs) = omega (arith, sum_by-cons (opt g) (Some s) xs, sum_by-cons g s (sessions_of xs), sum_sessions g xs)

-- the part of a sum that one number has
abbrev pub only : (Session → ℕ) → ℕ → Session → ℕ
only g number s = cond (eqb s.number number) (g s) 0

abbrev pub called : ℕ → Session → ℕ
called number s = cond (eqb s.number number) 1 0

pub sum_without : (g : Session → ℕ) (number : ℕ) (ss : List Session) → sum_by g (without number ss) + sum_by (only g number) ss ≡ sum_by g ss
unfolding without
sum_without g number [] = refl
sum_without g number (s ∷ ss) =
    go (eqb s.number number) refl (sum_without g number ss)
  where
    go : (t : Bool) → t ≡ eqb s.number number → sum_by g (without number ss) + sum_by (only g number) ss ≡ sum_by g ss
        → sum_by g (cond t (without number ss) (s ∷ without number ss)) + sum_by (only g number) (s ∷ ss) ≡ sum_by g (s ∷ ss)
    go true e ih = omega (arith, ih, sum_by-cons (only g number) s ss, sum_by-cons g s ss, cond-true {A = ℕ} (eqb s.number number) (g s) 0 (sym e))
    go false e ih = omega (arith, ih, sum_by-cons (only g number) s ss, sum_by-cons g s ss, sum_by-cons g s (without number ss), cond-false {A = ℕ} (eqb s.number number) (g s) 0 (sym e))

-- a number that is not there
pub only_none : (g : Session → ℕ) (number : ℕ) (xs : Ranks) → sum_by (opt (called number)) xs ≡ 0 → sum_by (opt (only g number)) xs ≡ 0
only_none g number [] e = refl
only_none g number (None ∷ xs) e = omega (arith, sum_by-cons (opt (only g number)) None xs, only_none g number xs (omega (arith, sum_by-cons (opt (called number)) None xs, e)))
only_none g number (Some s ∷ xs) e =
    go (cases_Bool (eqb s.number number)) (only_none g number xs (omega (arith, sum_by-cons (opt (called number)) (Some s) xs, e)))
  where
    go : (eqb s.number number ≡ true) ⊎ (eqb s.number number ≡ false) → sum_by (opt (only g number)) xs ≡ 0 → sum_by (opt (only g number)) (Some s ∷ xs) ≡ 0
    go (inl t) ih = absurd (omega (arith, sum_by-cons (opt (called number)) (Some s) xs, e, cond-true {A = ℕ} (eqb s.number number) 1 0 t))
    go (inr t) ih = omega (arith, sum_by-cons (opt (only g number)) (Some s) xs, ih, cond-false {A = ℕ} (eqb s.number number) (g s) 0 t)

pub holds_none : (number : ℕ) (xs : Ranks) → holds number xs ≡ false → sum_by (opt (called number)) xs ≡ 0
unfolding holds
holds_none number [] h = refl
holds_none number (None ∷ xs) h = omega (arith, sum_by-cons (opt (called number)) None xs, holds_none number xs h)
holds_none number (Some s ∷ xs) h = go (eqb s.number number) refl (holds_none number xs) h
  where
    go : (t : Bool) → t ≡ eqb s.number number → (holds number xs ≡ false → sum_by (opt (called number)) xs ≡ 0) → (t || holds number xs) ≡ false → sum_by (opt (called number)) (Some s ∷ xs) ≡ 0
    go true e ih h = absurd (both_ways true h refl)
    go false e ih h = omega (arith, sum_by-cons (opt (called number)) (Some s) xs, ih h, cond-false {A = ℕ} (eqb s.number number) 1 0 (sym e))

pub holds_some : (number : ℕ) (xs : Ranks) → holds number xs ≡ true → 1 ≤ sum_by (opt (called number)) xs
unfolding holds
holds_some number [] h = absurd (both_ways false refl h)
holds_some number (None ∷ xs) h = omega (arith, sum_by-cons (opt (called number)) None xs, holds_some number xs h)
holds_some number (Some s ∷ xs) h = go (eqb s.number number) refl (holds_some number xs) h
  where
    go : (t : Bool) → t ≡ eqb s.number number → (holds number xs ≡ true → 1 ≤ sum_by (opt (called number)) xs) → (t || holds number xs) ≡ true → 1 ≤ sum_by (opt (called number)) (Some s ∷ xs)
    go true e ih h = omega (arith, sum_by-cons (opt (called number)) (Some s) xs, cond-true {A = ℕ} (eqb s.number number) 1 0 (sym e))
    go false e ih h = omega (arith, sum_by-cons (opt (called number)) (Some s) xs, ih h)

-- the same of a list
listed_none : (number : ℕ) (ss : List Session) → listed number ss ≡ false → sum_by (called number) ss ≡ 0
unfolding listed
listed_none number [] h = refl
listed_none number (s ∷ ss) h = go (eqb s.number number) refl (listed_none number ss) h
  where
    go : (t : Bool) → t ≡ eqb s.number number → (listed number ss ≡ false → sum_by (called number) ss ≡ 0) → (t || listed number ss) ≡ false → sum_by (called number) (s ∷ ss) ≡ 0
    go true e ih h = absurd (both_ways true h refl)
    go false e ih h = omega (arith, sum_by-cons (called number) s ss, ih h, cond-false {A = ℕ} (eqb s.number number) 1 0 (sym e))

listed_some : (number : ℕ) (ss : List Session) → listed number ss ≡ true → 1 ≤ sum_by (called number) ss
unfolding listed
listed_some number [] h = absurd (both_ways false refl h)
listed_some number (s ∷ ss) h = go (eqb s.number number) refl (listed_some number ss) h
  where
    go : (t : Bool) → t ≡ eqb s.number number → (listed number ss ≡ true → 1 ≤ sum_by (called number) ss) → (t || listed number ss) ≡ true → 1 ≤ sum_by (called number) (s ∷ ss)
    go true e ih h = omega (arith, sum_by-cons (called number) s ss, cond-true {A = ℕ} (eqb s.number number) 1 0 (sym e))
    go false e ih h = omega (arith, sum_by-cons (called number) s ss, ih h)

-- a book holds the number that one of its sessions has, in whatever order they are listed
pub holds_listed : (xs : Ranks) (number : ℕ) (live : List Session) → SameSessions live (sessions_of xs) → holds number xs ≡ listed number live
holds_listed xs number live same = go (cases_Bool (holds number xs)) (cases_Bool (listed number live))
  where
    sums : sum_by (called number) live ≡ sum_by (opt (called number)) xs
    sums = same (called number) ∙ sum_sessions (called number) xs

    go : (holds number xs ≡ true) ⊎ (holds number xs ≡ false) → (listed number live ≡ true) ⊎ (listed number live ≡ false) → holds number xs ≡ listed number live
    go (inl a) (inl b) = a ∙ sym b
    go (inl a) (inr b) = absurd (omega (arith, holds_some number xs a, listed_none number live b, sums))
    go (inr a) (inl b) = absurd (omega (arith, holds_none number xs a, listed_some number live b, sums))
    go (inr a) (inr b) = a ∙ sym b

-- numbers that stand once are counted once
pub once_count : (xs : Ranks) → once xs ≡ true → (number : ℕ) → sum_by (opt (called number)) xs ≤ 1
unfolding once
once_count [] h number = omega arith
once_count (None ∷ xs) h number = omega (arith, sum_by-cons (opt (called number)) None xs, once_count xs h number)
once_count (Some s ∷ xs) h number =
    let p = and_parts (not (holds s.number xs)) (once xs) h in
    go (cases_Bool (eqb s.number number)) (not-true (holds s.number xs) p.0) (once_count xs p.1 number)
  where
    go : (eqb s.number number ≡ true) ⊎ (eqb s.number number ≡ false) → holds s.number xs ≡ false → sum_by (opt (called number)) xs ≤ 1 → sum_by (opt (called number)) (Some s ∷ xs) ≤ 1
    go (inl t) new ih =
        let e : s.number ≡ number = eqb-true s.number number t in
        omega (arith, sum_by-cons (opt (called number)) (Some s) xs, holds_none number xs (subst (λ y. holds y xs ≡ false) e new), cond-true {A = ℕ} (eqb s.number number) 1 0 t)
    go (inr t) new ih = omega (arith, sum_by-cons (opt (called number)) (Some s) xs, ih, cond-false {A = ℕ} (eqb s.number number) 1 0 t)

-- at most one element adds to a sum of one
pub sum_one : {X : Type 0} (g : X → ℕ) (xs : List X) (d : X) (i j : ℕ) → i < length xs → j < length xs → 1 ≤ g (get_or xs i d) → 1 ≤ g (get_or xs j d) → sum_by g xs ≤ 1 → i ≡ j
sum_one g [] d i j a c p q l = absurd (omega arith)
sum_one g (x ∷ xs) d zero zero a c p q l = refl
sum_one g (x ∷ xs) d zero (suc j) a c p q l = absurd (omega (arith, sum_by-cons g x xs, get_or-le-sum_by g xs j d (omega arith)))
sum_one g (x ∷ xs) d (suc i) zero a c p q l = absurd (omega (arith, sum_by-cons g x xs, get_or-le-sum_by g xs i d (omega arith)))
sum_one g (x ∷ xs) d (suc i) (suc j) a c p q l = omega (arith, sum_one g xs d i j (omega arith) (omega arith) p q (omega (arith, sum_by-cons g x xs)))

-- a sum above 0 has an element that adds to it
pub sum_part : {X : Type 0} (g : X → ℕ) (xs : List X) (d : X) → 1 ≤ sum_by g xs → (i : ℕ) × (i < length xs) × (1 ≤ g (get_or xs i d))
sum_part g [] d l = absurd (omega arith)
sum_part g (x ∷ xs) d l = go (cases_lt 0 (g x)) (sum_part g xs d)
  where
    go : (0 < g x) ⊎ (g x ≤ 0) → (1 ≤ sum_by g xs → (i : ℕ) × (i < length xs) × (1 ≤ g (get_or xs i d))) → (i : ℕ) × (i < suc (length xs)) × (1 ≤ g (get_or (x ∷ xs) i d))
    go (inl p) ih = (0, omega arith, omega arith)
    go (inr z) ih = let r = ih (omega (arith, sum_by-cons g x xs)) in (suc r.0, omega (arith, r.1), r.2)

-- the size of the sessions together
pub sum_sizes : (xs : Ranks) → sum_by size_of xs ≡ sum_by (λ (s : Session). s.size) (sessions_of xs)
unfolding sessions_of
sum_sizes [] = refl
sum_sizes (None ∷ xs) = omega (arith, sum_by-cons size_of None xs, sum_sizes xs)
sum_sizes (Some s ∷ xs) = omega (arith, sum_by-cons size_of (Some s) xs, sum_by-cons (λ (s : Session). s.size) s (sessions_of xs), sum_sizes xs)

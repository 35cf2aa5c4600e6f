-- An even placement has no more slots than the table: each session has its share of them, and no slot is counted twice.
use Rattle.std.proofs.Common.{◌≡◌, ℕ, zero, suc, ◌+◌, ◌*◌, ◌/◌, ◌%◌, ◌<◌, ◌≤◌, Bool, true, false, cond, ◌||◌, eqb, ltb, ◌⊎◌, List, [], ◌∷◌, length, sum_by, refl, ap, ◌∙◌, inl, inr, add-zero, add-suc, div-add-mod', arith}
use Rattle.std.specs.List.{AllByRecursion}
use Rattle.std.proofs.lemmas.List.Sums.{sum_by-cons}
use Rattle.std.proofs.lemmas.Nat.{mod-mul-add}
use Rattle.std.proofs.lemmas.Bool.{false≢true, eqb-true, lt-ltb, le-ltb, or_cases, cases_order}
use Rattle.book.specs.Searches.{count}
use Rattle.book.specs.Even.{Has, Even}

abbrev one : Bool → ℕ
one b = cond b 1 0

one_le : (b : Bool) → one b ≤ 1
one_le true = omega arith
one_le false = omega arith

count_le : (p : ℕ → Bool) (n : ℕ) → count p n ≤ n
count_le p zero = omega arith
count_le p (suc n) = omega (arith, count_le p n, one_le (p n))

one_or : (a b : Bool) → (a ≡ true → b ≡ true → ⊥) → one a + one b ≤ one (a || b)
one_or true true h = absurd (h refl refl)
one_or true false h = omega arith
one_or false b h = omega arith

-- Tests that no slot passes both.
count_or : (p q : ℕ → Bool) (n : ℕ) → ((s : ℕ) → s < n → p s ≡ true → q s ≡ true → ⊥) → count p n + count q n ≤ count (λ s. p s || q s) n
count_or p q zero h = omega arith
count_or p q (suc n) h = omega (arith, count_or p q n (λ s l. h s (omega arith)), one_or (p n) (q n) (h n (omega arith)))

-- One of t slots in a row has remainder o.
count_part : (q t o r : ℕ) → o < t → r ≤ t → count (λ s. eqb (s % t) o) (q * t + r) ≡ count (λ s. eqb (s % t) o) (q * t) + one (ltb o r)
count_part q t o zero l m = rw add-zero (omega (arith, ap one (le-ltb o 0 (omega arith))))
count_part q t o (suc r) l m = rw add-suc (omega (arith, count_part q t o r l (omega arith), ap (λ x. one (eqb x o)) (mod-mul-add q t r m), ends r))
  where
    ends : (r : ℕ) → one (ltb o r) + one (eqb r o) ≡ one (ltb o (suc r))
    ends r = grind (arith, cases_order r o)

count_mod : (t o q : ℕ) → o < t → count (λ s. eqb (s % t) o) (q * t) ≡ q
count_mod t o zero l = ap (count (λ s. eqb (s % t) o)) {x = 0 * t} {y = 0} (omega arith)
count_mod t o (suc q) l = ap (count (λ s. eqb (s % t) o)) {x = suc q * t} {y = q * t + t} (omega arith) ∙ omega (arith, count_part q t o t l (omega arith), count_mod t o q l, ap one (lt-ltb o t l))

-- Whether a slot is some session's.
abbrev held : List ℕ → List ℕ → ℕ → Bool
held [] os s = false
held (t ∷ ts) [] s = false
held (t ∷ ts) (o ∷ os) s = eqb (s % t) o || held ts os s

held_by : (ts os : List ℕ) (s : ℕ) → held ts os s ≡ true → (i : ℕ) × (i < length ts) × Has ts os i s
held_by [] os s h = absurd (false≢true h)
held_by (t ∷ ts) [] s h = absurd (false≢true h)
held_by (t ∷ ts) (o ∷ os) s h = go (or_cases (eqb (s % t) o) (held ts os s) h) (held_by ts os s)
  where
    go : (eqb (s % t) o ≡ true) ⊎ (held ts os s ≡ true) → (held ts os s ≡ true → (i : ℕ) × (i < length ts) × Has ts os i s) → (i : ℕ) × (i < suc (length ts)) × Has (t ∷ ts) (o ∷ os) i s
    go (inl e) ih = (0, omega arith, eqb-true (s % t) o e)
    go (inr e) ih = let r = ih e in (suc r.0, omega (arith, r.1), r.2)

even_rest : (n t o : ℕ) (ts os : List ℕ) → Even n (t ∷ ts) (o ∷ os) → Even n ts os
even_rest n t o ts os e = record {
  same = omega (arith, e.same);
  inside = λ i l. e.inside (suc i) (omega arith);
  apart = λ i j s l m b x y. omega (arith, e.apart (suc i) (suc j) s (omega arith) (omega arith) b x y);
}

slots_had : (n : ℕ) (ts os : List ℕ) → AllByRecursion (λ t. n % t ≡ 0) ts → Even n ts os → sum_by (λ t. n / t) ts ≤ count (held ts os) n
slots_had n [] os d e = omega arith
slots_had n (t ∷ ts) [] d e = absurd (omega (arith, e.same))
slots_had n (t ∷ ts) (o ∷ os) d e = rw (sum_by-cons (λ t. n / t) t ts) (omega (
  arith,
  slots_had n ts os d.1 (even_rest n t o ts os e),
  share,
  count_or (λ s. eqb (s % t) o) (held ts os) n (λ s l x y. let r = held_by ts os s y in
      omega (arith, e.apart 0 (suc r.0) s (omega arith) (omega (arith, r.1)) l (eqb-true (s % t) o x) r.2)),
))
  where
    share : count (λ s. eqb (s % t) o) n ≡ n / t
    share = ap (count (λ s. eqb (s % t) o)) {x = n} {y = n / t * t} (omega (arith, div-add-mod' n t, d.0)) ∙ count_mod t o (n / t) (e.inside 0 (omega arith))

pub pigeonhole : (n : ℕ) (spacings offsets : List ℕ) → AllByRecursion (λ t. n % t ≡ 0) spacings → Even n spacings offsets → sum_by (λ t. n / t) spacings ≤ n
pigeonhole n ts os d e = omega (arith, slots_had n ts os d e, count_le (held ts os) n)

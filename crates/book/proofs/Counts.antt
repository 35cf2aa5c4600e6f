-- How many sets are free at each level: where whole free sets differ in size, so many free ranks give a free set.
use Rattle.std.proofs.Common.{◌≡◌, ℕ, zero, suc, ◌+◌, ◌*◌, ◌/◌, ◌^◌, ◌<◌, ◌≤◌, Bool, true, false, cond, ◌&&◌, ◌⊎◌, sym, refl, ap, ◌∙◌, subst, inl, inr, mul_assoc, mul_comm, arith}
use native.Mathlib.Nat.{pow-succ'}
use Rattle.std.proofs.lemmas.Bool.{cases_eq, cases_lt, cases_Bool, and_from, and_parts, both_ways}
use Rattle.book.specs.Levels.{Free, Whole, Differ, dbl}
use Rattle.book.specs.Searches.{count}

-- the sets of level i that are free, as a test
abbrev pub freeb : (ℕ → Bool) → ℕ → ℕ → Bool
freeb f zero q = f q
freeb f (suc i) q = freeb f i (2 * q) && freeb f i (2 * q + 1)

abbrev pub Is : (ℕ → Bool) → ℕ → Type 0
Is f r = f r ≡ true

pub free_true : (f : ℕ → Bool) (i q : ℕ) → freeb f i q ≡ true → Free (Is f) i q
free_true f zero q h = h
free_true f (suc i) q h =
    let k = and_parts (freeb f i (2 * q)) (freeb f i (2 * q + 1)) h in
    (free_true f i (2 * q) k.0, free_true f i (2 * q + 1) k.1)

pub true_free : (f : ℕ → Bool) (i q : ℕ) → Free (Is f) i q → freeb f i q ≡ true
true_free f zero q h = h
true_free f (suc i) q h = and_from (freeb f i (2 * q)) (freeb f i (2 * q + 1)) (true_free f i (2 * q) h.0) (true_free f i (2 * q + 1) h.1)

-- pairs of which one is there and the other not
abbrev lone : (ℕ → Bool) → ℕ → Bool
lone g q = cond (g (2 * q)) (cond (g (2 * q + 1)) false true) (g (2 * q + 1))

two : (x y : Bool) → cond y 1 0 + cond x 1 0 ≡ 2 * cond (x && y) 1 0 + cond (cond x (cond y false true) y) 1 0
two true true = refl
two true false = refl
two false true = refl
two false false = refl

pub count_pairs : (g : ℕ → Bool) (m k : ℕ) → k ≡ 2 * m → count g k ≡ 2 * count (λ q. g (2 * q) && g (2 * q + 1)) m + count (lone g) m
count_pairs g zero zero e = refl
count_pairs g zero (suc k) e = absurd (omega arith)
count_pairs g (suc m) zero e = absurd (omega arith)
count_pairs g (suc m) (suc zero) e = absurd (omega arith)
count_pairs g (suc m) (suc (suc k)) e =
    let h = count_pairs g m k (omega arith) in
    let y : k ≡ 2 * m = omega arith in
    let z : suc k ≡ 2 * m + 1 = omega arith in
    let a = ap (λ n. cond {A = ℕ} (g n) 1 0) y in
    let b = ap (λ n. cond {A = ℕ} (g n) 1 0) z in
    omega (arith, two (g (2 * m)) (g (2 * m + 1)), a, b)

pub count_none : (g : ℕ → Bool) (m : ℕ) → ((a : ℕ) → a < m → g a ≡ true → ⊥) → count g m ≡ 0
count_none g zero h = refl
count_none g (suc m) h =
    elim (cases_Bool (g m)) [
      | inl e ↦ absurd (h m (omega arith) e)
      | inr e ↦ ap (λ b. cond b 1 0 + count g m) e ∙ omega (arith, count_none g m (λ a l. h a (omega arith)))
    ]

pub count_one : (g : ℕ → Bool) (m : ℕ) → ((a b : ℕ) → g a ≡ true → g b ≡ true → a ≡ b) → count g m ≤ 1
count_one g zero h = omega arith
count_one g (suc m) h =
    elim (cases_Bool (g m)) [
      | inl e ↦
          let k = count_none g m (λ a l z. let y = h a m z e in omega arith) in
          let c = ap (λ b. cond {A = ℕ} b 1 0) e in
          omega (arith, k, c)
      | inr e ↦
          let c = ap (λ b. cond {A = ℕ} b 1 0) e in
          omega (arith, c, count_one g m h)
    ]

lone_cases : (x y : Bool) → cond x (cond y false true) y ≡ true → ((x ≡ true) × (y ≡ false)) ⊎ ((x ≡ false) × (y ≡ true))
lone_cases true true h = absurd (both_ways false refl h)
lone_cases true false h = inl (refl, refl)
lone_cases false true h = inr (refl, refl)
lone_cases false false h = absurd (both_ways false refl h)

-- a pair of which one is free has a whole set
lone_whole : (f : ℕ → Bool) (i q : ℕ) → lone (freeb f i) q ≡ true → (a : ℕ) × (a / 2 ≡ q) × Whole (Is f) i a
lone_whole f i q h =
    elim (lone_cases (freeb f i (2 * q)) (freeb f i (2 * q + 1)) h) [
      | inl k ↦
          let e : 2 * q / 2 ≡ q = omega arith in (
            2 * q,
            e,
            (
              free_true f i (2 * q) k.0,
              λ w. both_ways (freeb f i (2 * q + 1)) k.1 (true_free f i (2 * q + 1) (subst (Free (Is f) (suc i)) e w).1),
            ),
          )
      | inr k ↦
          let e : (2 * q + 1) / 2 ≡ q = omega arith in (
            2 * q + 1,
            e,
            (
              free_true f i (2 * q + 1) k.1,
              λ w. both_ways (freeb f i (2 * q)) k.0 (true_free f i (2 * q) (subst (Free (Is f) (suc i)) e w).0),
            ),
          )
    ]

pub dbl_mono : (i a b : ℕ) → a ≤ b → dbl i a ≤ dbl i b
dbl_mono zero a b h = h
dbl_mono (suc i) a b h = dbl_mono i (2 * a) (2 * b) (omega arith)

pub dbl_pow : (i a : ℕ) → dbl i a ≡ a * 2 ^ i
dbl_pow zero a = omega arith
dbl_pow (suc i) a = dbl_pow i (2 * a) ∙ ap (λ x. x * 2 ^ i) (mul_comm 2 a) ∙ mul_assoc a 2 (2 ^ i) ∙ ap (λ x. a * x) (sym (pow-succ' 2 i))

pub count_some : (g : ℕ → Bool) (m q : ℕ) → q < m → g q ≡ true → 1 ≤ count g m
count_some g zero q l h = absurd (omega arith)
count_some g (suc m) q l h =
    elim (cases_eq q m) [
      | inl e ↦ let c = ap (λ x. cond {A = ℕ} (g x) 1 0) (sym e) ∙ ap (λ b. cond {A = ℕ} b 1 0) h in omega (arith, c)
      | inr n ↦ omega (arith, count_some g m q (omega arith) h)
    ]

pub first_true : (g : ℕ → Bool) (m : ℕ) → 0 < count g m → (q : ℕ) × (q < m) × (g q ≡ true) × ((a : ℕ) → a < q → g a ≡ true → ⊥)
first_true g zero h = absurd (omega arith)
first_true g (suc m) h =
    elim (cases_eq (count g m) 0) [
      | inl e ↦ elim (cases_Bool (g m)) [
        | inl t ↦ (m, omega arith, t, λ a l z. let k = count_some g m a l z in omega (arith, k))
        | inr t ↦ let c = ap (λ b. cond {A = ℕ} b 1 0) t in absurd (omega (arith, c, h, e))
      ]
      | inr n ↦ let r = first_true g m (omega arith) in (r.0, omega (arith, r.1), r.2, r.3)
    ]

module _ (f : ℕ → Bool) (differ : Differ (Is f)) where
  lone_one : (i m : ℕ) → count (lone (freeb f i)) m ≤ 1
  lone_one i m =
      count_one (lone (freeb f i)) m (λ a b h k.
      let x = lone_whole f i a h in
      let y = lone_whole f i b k in
      let e = differ i x.0 y.0 x.2 y.2 in
      sym x.1 ∙ ap (λ z. z / 2) e ∙ y.1)

  -- fewer than 2 ^ i free ranks are outside of the free sets of level i
  pub outside : (i m : ℕ) → count f (dbl i m) < dbl i (count (freeb f i) m + 1)
  outside zero m = omega arith
  outside (suc i) m =
      let h = outside i (2 * m) in
      let c = count_pairs (freeb f i) m (2 * m) refl in
      let l : count (freeb f i) (2 * m) + 1 ≤ 2 * (count (freeb f (suc i)) m + 1) = omega (arith, c, lone_one i m) in
      omega (arith, dbl_mono i (count (freeb f i) (2 * m) + 1) (2 * (count (freeb f (suc i)) m + 1)) l, h)

  -- so many free ranks, and there is a free set
  pub room : (i m : ℕ) → dbl i 1 ≤ count f (dbl i m) → (q : ℕ) × (q < m) × Free (Is f) i q × ((a : ℕ) → Free (Is f) i a → q ≤ a)
  room i m h =
      let r = first_true (freeb f i) m (elim (cases_eq (count (freeb f i) m) 0) [
        | inl e ↦ absurd (omega (arith, outside i m, ap (λ x. dbl i (x + 1)) e))
        | inr e ↦ omega arith
      ]) in (
        r.0,
        r.1,
        free_true f i r.0 r.2,
        λ a k. elim (cases_lt a r.0) [ inl l ↦ absurd (r.3 a l (true_free f i a k)) | inr l ↦ l ],
      )

-- the other way round: no invariant is needed
pub inside : (f : ℕ → Bool) (i m : ℕ) → dbl i (count (freeb f i) m) ≤ count f (dbl i m)
inside f zero m = omega arith
inside f (suc i) m =
    let c = count_pairs (freeb f i) m (2 * m) refl in
    let l : 2 * count (freeb f (suc i)) m ≤ count (freeb f i) (2 * m) = omega (arith, c) in
    omega (arith, inside f i (2 * m), dbl_mono i (2 * count (freeb f (suc i)) m) (count (freeb f i) (2 * m)) l)

pub no_room : (f : ℕ → Bool) (i m q : ℕ) → q < m → Free (Is f) i q → dbl i 1 ≤ count f (dbl i m)
no_room f i m q l h =
    omega (arith, inside f i m, dbl_mono i 1 (count (freeb f i) m) (count_some (freeb f i) m q l (true_free f i q h)))

-- Sets by first rank and size are sets by level and index.
use Rattle.std.proofs.Common.{◌≡◌, ℕ, zero, suc, ◌+◌, ◌-◌, ◌*◌, ◌/◌, ◌%◌, ◌^◌, ◌<◌, ◌≤◌, sym, ap, ◌∙◌, subst, inl, inr, div-add-mod', arith, pow_pos}
use native.Mathlib.Nat.{mul-mod_left}
use lib.Pow.{pow-lt}
use Rattle.std.proofs.lemmas.Bool.{cases_lt}
use Rattle.book.specs.Levels.{up, dbl, Free, Whole, Grow, Differ}
use Rattle.book.specs.Sound.{FreeRank, Set, WholeSet, Ordered, Distinct}
use Rattle.book.proofs.Levels.{up_up, up_mono, down, over}
use Rattle.book.proofs.Counts.{dbl_mono, dbl_pow}
use Rattle.book.proofs.Filling.{up_dbl}
use Rattle.book.proofs.Freeing.{fill_free}
use Rattle.book.proofs.Doubles.{dbl_two, dbl_add, dbl_dbl}

-- a rank is in the set a of level i if it lies between the set's ends
pub in_set : (i a r : ℕ) → dbl i a ≤ r → r < dbl i a + dbl i 1 → up i r ≡ a
in_set zero a r h k = omega arith
in_set (suc i) a r h k = in_set i a (r / 2) (omega (arith, dbl_two i a)) (omega (arith, dbl_two i a, dbl_two i 1))

pub set_in : (i a r : ℕ) → up i r ≡ a → (dbl i a ≤ r) × (r < dbl i a + dbl i 1)
set_in zero a r e = (omega arith, omega arith)
set_in (suc i) a r e =
    let k = set_in i a (r / 2) e in
    (omega (arith, k.0, dbl_two i a), omega (arith, k.1, dbl_two i a, dbl_two i 1))

pub size_pow : (i : ℕ) → dbl i 1 ≡ 2 ^ i
size_pow i = omega (arith, dbl_pow i 1)

-- a free set is one of which every rank is free
module _ (F : ℕ → Type 0) where
  pub free_all : (i q : ℕ) → ((r : ℕ) → dbl i q ≤ r → r < dbl i q + dbl i 1 → F r) → Free F i q
  free_all i q h = fill_free F i q (λ r e. let k = set_in i q r e in h r k.0 k.1)

  pub all_free : (i q : ℕ) → Free F i q → (r : ℕ) → dbl i q ≤ r → r < dbl i q + dbl i 1 → F r
  all_free i q h r l m = down F i 0 i r (omega arith) (subst (Free F i) (sym (in_set i q r l m)) h)

-- the level and the index of a set
pub set_index : (n f m : ℕ) → Set n f m → (i q : ℕ) × (m ≡ dbl i 1) × (f ≡ dbl i q)
set_index n f m h =
    let i : ℕ = h.0.0 in
    let e : m ≡ dbl i 1 = h.0.1 ∙ sym (size_pow i) in
    let z : f / m * m ≡ f / m * 2 ^ i = ap (λ x. f / m * x) h.0.1 in
    (i, f / m, e, omega (arith, div-add-mod' f m, z, dbl_pow i (f / m), h.1))

pub index_set : (n i q : ℕ) → dbl i q + dbl i 1 ≤ 2 ^ n → Set n (dbl i q) (dbl i 1)
index_set n i q h = (
  (i, size_pow i),
  let e : dbl i q ≡ q * dbl i 1 = dbl_pow i q ∙ ap (λ x. q * x) (sym (size_pow i)) in ap (λ x. x % dbl i 1) e ∙ mul-mod_left q (dbl i 1),
  h,
)

pub dbl_pos : (i : ℕ) → 0 < dbl i 1
dbl_pos i = omega (arith, size_pow i, pow_pos i)

pub level_lt : (i j : ℕ) → dbl i 1 < dbl j 1 → i < j
level_lt i j h =
    elim (cases_lt i j) [
      | inl l ↦ l
      | inr l ↦
          let d : ℕ = i - j in
          absurd (omega (arith, dbl_dbl j d i 1 (omega arith), dbl_mono j 1 (dbl d 1) (dbl_pos d)))
    ]

module _ (n : ℕ) (sz : ℕ → ℕ) where
  abbrev F : ℕ → Type 0
  F = FreeRank n sz

  pub table : (r : ℕ) → F r → r < dbl n 1
  table r h = omega (arith, h.0, size_pow n)

  pub within : (i q : ℕ) → Free F i q → dbl i q + dbl i 1 ≤ 2 ^ n
  within i q h =
      let k = all_free F i q h (dbl i q + dbl i 1 - 1) (omega (arith, dbl_pos i)) (omega (arith, dbl_pos i)) in
      omega (arith, k.0, dbl_pos i)

  pub whole_to : (f m : ℕ) → WholeSet n sz f m → (i q : ℕ) × (m ≡ dbl i 1) × (f ≡ dbl i q) × Whole F i q
  whole_to f m h =
      let k = set_index n f m h.0 in
      let i : ℕ = k.0 in
      let q : ℕ = k.1 in (
        i,
        q,
        k.2,
        k.3,
        (
          free_all F i q (λ r a b. h.1 r (omega (arith, k.3, a)) (omega (arith, k.2, k.3, b))),
          λ z. h.2 (dbl (suc i) (q / 2)) (dbl (suc i) 1) (index_set n (suc i) (q / 2) (within (suc i) (q / 2) z))
              (omega (arith, k.2, dbl_two i 1, dbl_pos i))
              (omega (arith, k.3, dbl_mono i (2 * (q / 2)) q (omega arith)))
              (omega (arith, k.2, k.3, dbl_add i q 1, dbl_add i (2 * (q / 2)) 2, dbl_mono i (q + 1) (2 * (q / 2) + 2) (omega arith)))
              (all_free F (suc i) (q / 2) z),
        ),
      )

  pub whole_from : (i q : ℕ) → Whole F i q → WholeSet n sz (dbl i q) (dbl i 1)
  whole_from i q h = (
    index_set n i q (within i q h.0),
    all_free F i q h.0,
    λ g m s l a b z.
        let k = set_index n g m s in
        let j : ℕ = k.0 in
        let x : ℕ = k.1 in
        let lt : i < j = level_lt i j (omega (arith, k.2, l)) in
        let d : ℕ = j - suc i in
        let e : up j (dbl i q) ≡ x = in_set j x (dbl i q) (omega (arith, k.3, a)) (omega (arith, k.2, k.3, b, dbl_pos i)) in
        let e2 : up (suc d) q ≡ x = ap (up (suc d)) (sym (up_dbl i q)) ∙ sym (up_up (suc d) i j (dbl i q) (omega arith)) ∙ e in
        over F i j d q (omega arith) h (subst (Free F j) (sym e2)
        (free_all F j x (λ r u v. z r (omega (arith, k.3, u)) (omega (arith, k.2, k.3, v))))),
  )

  -- the bridge
  pub ordered_grow : Ordered n sz → Grow F
  ordered_grow ord i j d p q e hp hq =
      elim (cases_lt q (up d p)) [
        | inr l ↦ l
        | inl l ↦
            let f : ℕ = dbl i p in
            let g : ℕ = dbl j q in
            let a : up j f ≡ up d p = up_up d i j f e ∙ ap (up d) (up_dbl i p) in
            let gf : g < f = elim (cases_lt g f) [ inl z ↦ z | inr z ↦ absurd (omega (arith, a, up_mono j f g z, up_dbl j q)) ] in
            let ji = level_lt j i (ord g (dbl j 1) f (dbl i 1) (whole_from j q hq) (whole_from i p hp) gf) in
            absurd (omega arith)
      ]

  pub grow_ordered : Grow F → Ordered n sz
  grow_ordered grow f m g l hf hg lt =
      let a = whole_to f m hf in
      let b = whole_to g l hg in
      let i : ℕ = a.0 in
      let p : ℕ = a.1 in
      let j : ℕ = b.0 in
      let q : ℕ = b.1 in
      elim (cases_lt i j) [
        | inl h ↦ let z : 2 ^ i < 2 ^ j = pow-lt h in omega (arith, a.2, b.2, size_pow i, size_pow j)
        | inr h ↦
            let d : ℕ = i - j in
            let up1 = grow j i d q p (omega arith) b.4 a.4 in
            let up2 = up_mono i f g (omega arith) in
            let z1 = ap (up i) a.3 ∙ up_dbl i p in
            let z2 = ap (up i) b.3 ∙ up_up d j i (dbl j q) (omega arith) ∙ ap (up d) (up_dbl j q) in
            absurd (same_place j i d q p (omega arith) (omega (arith, up1, up2, z1, z2)) b.4 a.4 (omega (arith, a.3, b.3)))
      ]
    where
      same_place : (j i d q p : ℕ) → d + j ≡ i → up d q ≡ p → Whole F j q → Whole F i p → dbl i p < dbl j q → ⊥
      same_place j i zero q p e k hq hp l =
          let z : j ≡ i = omega arith in
          omega (arith, ap (λ x. dbl x q) z, ap (dbl i) k)
      same_place j i (suc d) q p e k hq hp l = over F j i d q (omega arith) hq (subst (Free F i) (sym k) hp.0)

  pub differ_distinct : Differ F → Distinct n sz
  differ_distinct dif f g m hf hg =
      let a = whole_to f m hf in
      let b = whole_to g m hg in
      let z : a.0 ≡ b.0 = elim (cases_lt a.0 b.0) [
        | inl l ↦ let k : 2 ^ a.0 < 2 ^ b.0 = pow-lt l in absurd (omega (arith, a.2, b.2, size_pow a.0, size_pow b.0))
        | inr l ↦ elim (cases_lt b.0 a.0) [
          | inl m ↦ let k : 2 ^ b.0 < 2 ^ a.0 = pow-lt m in absurd (omega (arith, a.2, b.2, size_pow a.0, size_pow b.0))
          | inr m ↦ omega arith
        ]
      ] in
      let y = dif b.0 a.1 b.1 (subst (λ x. Whole F x a.1) z a.4) b.4 in
      a.3 ∙ ap (λ x. dbl x a.1) z ∙ ap (dbl b.0) y ∙ sym b.3

-- which indices the sets of a level have
pub index_below : (n j a : ℕ) → j ≤ n → dbl j a + dbl j 1 ≤ 2 ^ n → a < 2 ^ (n - j)
index_below n j a h l =
    elim (cases_lt a (2 ^ (n - j))) [
      | inl z ↦ z
      | inr z ↦
          let m = dbl_mono j (2 ^ (n - j)) a z in
          let e : dbl j (2 ^ (n - j)) ≡ 2 ^ n = ap (dbl j) (sym (size_pow (n - j))) ∙ sym (dbl_dbl j (n - j) n 1 (omega arith)) ∙ size_pow n in
          absurd (omega (arith, m, e, l, dbl_pos j))
    ]

pub below_index : (n j a : ℕ) → j ≤ n → a < 2 ^ (n - j) → dbl j a + dbl j 1 ≤ 2 ^ n
below_index n j a h l =
    let m = dbl_mono j (a + 1) (2 ^ (n - j)) (omega arith) in
    let e : dbl j (2 ^ (n - j)) ≡ 2 ^ n = ap (dbl j) (sym (size_pow (n - j))) ∙ sym (dbl_dbl j (n - j) n 1 (omega arith)) ∙ size_pow n in
    omega (arith, m, e, dbl_add j a 1)

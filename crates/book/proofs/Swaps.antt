-- An exchange of sets, told by the sizes of the sessions: they still hold disjoint sets.
use Rattle.std.proofs.Common.{◌≡◌, ℕ, zero, suc, ◌+◌, ◌-◌, ◌*◌, ◌/◌, ◌^◌, ◌<◌, ◌↔◌, sym, ap, ◌∙◌, subst, inl, inr, arith}
use Rattle.std.proofs.lemmas.Bool.{cases_eq, cases_lt}
use Rattle.book.specs.Levels.{up, dbl, sw}
use Rattle.book.specs.Sound.{Holds, FreeRank, Set, Sound}
use Rattle.book.proofs.Levels.{up_half, up_up, up_sw, sw_sw, sw_half, sw_even, tr_left, tr_right, tr_other}
use Rattle.book.proofs.Filling.{up_dbl}
use Rattle.book.proofs.Doubles.{dbl_two, up_below}
use Rattle.book.proofs.Places.{in_set, set_in, size_pow, set_index, index_set, dbl_pos}

pub sw_dbl : (p q d i s a : ℕ) → d + i ≡ s → sw p q s (dbl i a) ≡ dbl i (sw p q d a)
sw_dbl p q d zero s a e = let z : s ≡ d = omega arith in ap (λ x. sw p q x a) z
sw_dbl p q d (suc i) s a e = sw_dbl p q (suc d) i s (2 * a) (omega arith) ∙ ap (dbl i) (sw_even p q d a)

pub up_sw_part : (p q d i s r : ℕ) → d + i ≡ s → up i (sw p q s r) ≡ sw p q d (up i r)
up_sw_part p q d zero s r e = let z : s ≡ d = omega arith in ap (λ x. sw p q x r) z
up_sw_part p q d (suc i) s r e =
    up_half i (sw p q s r)
    ∙ ap (λ x. x / 2) (up_sw_part p q (suc d) i s r (omega arith))
    ∙ sw_half p q d (up i r)
    ∙ ap (sw p q d) (sym (up_half i r))

pub sw_fix : (p q d a : ℕ) → (up d a ≡ p → ⊥) → (up d a ≡ q → ⊥) → sw p q d a ≡ a
sw_fix p q zero a n m = tr_other p q a n m
sw_fix p q (suc d) a n m = omega (arith, sw_fix p q d (a / 2) n m)

pub below_up : (i x : ℕ) → up i x ≡ 0 → x < dbl i 1
below_up zero x h = omega arith
below_up (suc i) x h = omega (arith, below_up i (x / 2) h, dbl_two i 1)

pub sw_below : (p q k s n r : ℕ) → k + s ≡ n → p < dbl k 1 → q < dbl k 1 → r < dbl n 1 → sw p q s r < dbl n 1
sw_below p q k s n r e hp hq h =
    below_up n (sw p q s r)
    (up_up k s n (sw p q s r) e
    ∙ ap (up k) (up_sw p q s r)
    ∙ go
    )
  where
    zr : up k (up s r) ≡ 0
    zr = sym (up_up k s n r e) ∙ up_below n r h

    go : up k (sw p q 0 (up s r)) ≡ 0
    go =
        elim (cases_eq (up s r) p) [
          | inl z ↦ ap (λ x. up k (sw p q 0 x)) z ∙ ap (up k) (tr_left p q) ∙ up_below k q hq
          | inr a ↦ elim (cases_eq (up s r) q) [
            | inl z ↦ ap (λ x. up k (sw p q 0 x)) z ∙ ap (up k) (tr_right p q) ∙ up_below k p hp
            | inr b ↦ ap (up k) (tr_other p q (up s r) a b) ∙ zr
          ]
        ]

pub held_up : (sz : ℕ → ℕ) (f i y r : ℕ) → f ≡ dbl i y → sz f ≡ dbl i 1 → Holds sz f r → up i r ≡ y
held_up sz f i y r e k h = in_set i y r (omega (arith, h.0)) (omega (arith, h.1))

pub up_held : (sz : ℕ → ℕ) (f i y r : ℕ) → f ≡ dbl i y → sz f ≡ dbl i 1 → up i r ≡ y → Holds sz f r
up_held sz f i y r e k h = let z = set_in i y r h in (omega (arith, z.0), omega (arith, z.1))

-- a rank that is held is in the table
pub below : (n : ℕ) (sz : ℕ → ℕ) → Sound n sz → (f r : ℕ) → Holds sz f r → r < 2 ^ n
below n sz sound f r h =
    let z = sound.sets f (omega (arith, h.0, h.1)) in
    omega (arith, z.2, h.1)

-- The exchange of the sets p and q of level s, neither of them inside a session: tz is the book after.
module _ (n k s p q : ℕ) (table : k + s ≡ n) (hp : p < dbl k 1) (hq : q < dbl k 1)
    (sz tz : ℕ → ℕ) (sound : Sound n sz) (swapped : (r : ℕ) → tz r ≡ sz (sw p q s r))
    (a b : ℕ) (free-a : FreeRank n sz a) (at_a : up (suc s) a ≡ p / 2) (free-b : FreeRank n sz b) (at_b : up (suc s) b ≡ q / 2) where
  -- no session around a set whose double has a free rank
  uncut : (r x : ℕ) → FreeRank n sz r → up (suc s) r ≡ x / 2 → (i f y c : ℕ) → f ≡ dbl i y → sz f ≡ dbl i 1 → suc c + s ≡ i → up (suc c) x ≡ y → ⊥
  uncut r x free e i f y c fy size v h =
      let z = set_in i y r (up_up c (suc s) i r (omega arith) ∙ ap (up c) e ∙ h) in
      free.1 f (omega (arith, z.0), omega (arith, z.1))

  -- a rank of a session that is larger than the two sets stays
  fixed : (i f y c : ℕ) → f ≡ dbl i y → sz f ≡ dbl i 1 → suc c + s ≡ i → (r : ℕ) → up i r ≡ y → sw p q s r ≡ r
  fixed i f y c fy size v r h =
      sw_fix p q s r
      (λ z. uncut a p free-a at_a i f y c fy size v (ap (up (suc c)) (sym z) ∙ sym (up_up (suc c) s i r v) ∙ h))
      (λ z. uncut b q free-b at_b i f y c fy size v (ap (up (suc c)) (sym z) ∙ sym (up_up (suc c) s i r v) ∙ h))

  abbrev At : ℕ → ℕ → ℕ → Type 0
  At f i y = (f ≡ dbl i y) × (sz (sw p q s f) ≡ dbl i 1) × ((r : ℕ) → (up i r ≡ y) ↔ Holds sz (sw p q s f) (sw p q s r))

  at_small : (f i y d : ℕ) → d + i ≡ s → sw p q s f ≡ dbl i y → sz (sw p q s f) ≡ dbl i 1 → At f i (sw p q d y)
  at_small f i y d v e size = (
    sym (sw_sw p q s f) ∙ ap (sw p q s) e ∙ sw_dbl p q d i s y v,
    size,
    λ r. (
      (λ h. up_held sz (sw p q s f) i y (sw p q s r) e size (up_sw_part p q d i s r v ∙ ap (sw p q d) h ∙ sw_sw p q d y)),
      (λ h. sym (sw_sw p q d (up i r)) ∙ ap (sw p q d) (sym (up_sw_part p q d i s r v) ∙ held_up sz (sw p q s f) i y (sw p q s r) e size h)),
    ),
  )

  at_large : (f i y c : ℕ) → suc c + s ≡ i → sw p q s f ≡ dbl i y → sz (sw p q s f) ≡ dbl i 1 → At f i y
  at_large f i y c v e size =
      let z : f ≡ sw p q s f = sym (sw_sw p q s f) ∙ fixed i (sw p q s f) y c e size v (sw p q s f) (ap (up i) e ∙ up_dbl i y) in (
        z ∙ e,
        size,
        λ r. (
          (λ h. up_held sz (sw p q s f) i y (sw p q s r) e size (ap (up i) (fixed i (sw p q s f) y c e size v r h) ∙ h)),
          (λ h.
              let k = held_up sz (sw p q s f) i y (sw p q s r) e size h in
              ap (up i) (sym (sw_sw p q s r) ∙ fixed i (sw p q s f) y c e size v (sw p q s r) k) ∙ k),
        ),
      )

  session : (f : ℕ) → 0 < sz (sw p q s f) → (i y : ℕ) × At f i y
  session f pos =
      let t = set_index n (sw p q s f) (sz (sw p q s f)) (sound.sets (sw p q s f) pos) in
      elim (cases_lt s t.0) [
        | inl l ↦ (t.0, t.1, at_large f t.0 t.1 (t.0 - suc s) (omega arith) t.3 t.2)
        | inr l ↦ (t.0, sw p q (s - t.0) t.1, at_small f t.0 t.1 (s - t.0) (omega arith) t.3 t.2)
      ]

  -- who holds what
  pub holds_to : (f r : ℕ) → Holds tz f r → Holds sz (sw p q s f) (sw p q s r)
  holds_to f r h =
      let t = session f (omega (arith, h.0, h.1, swapped f)) in
      let k = t.2 in
      (k.2 r).0 (in_set t.0 t.1 r (omega (arith, h.0, k.0)) (omega (arith, h.1, k.0, k.1, swapped f)))

  pub holds_from : (f r : ℕ) → Holds sz (sw p q s f) (sw p q s r) → Holds tz f r
  holds_from f r h =
      let t = session f (omega (arith, h.0, h.1)) in
      let k = t.2 in
      let z = set_in t.0 t.1 r ((k.2 r).1 h) in
      (omega (arith, k.0, z.0), omega (arith, k.0, k.1, z.1, swapped f))

  inside : (r : ℕ) → r < 2 ^ n → sw p q s r < 2 ^ n
  inside r h = omega (arith, size_pow n, sw_below p q k s n r table hp hq (omega (arith, size_pow n)))

  outside : (r : ℕ) → sw p q s r < 2 ^ n → r < 2 ^ n
  outside r h = omega (arith, inside (sw p q s r) h, sw_sw p q s r)

  -- the ranks that are free then
  pub free_to : (r : ℕ) → FreeRank n tz r → FreeRank n sz (sw p q s r)
  free_to r h = (
    inside r h.0,
    λ f z. h.1 (sw p q s f) (holds_from (sw p q s f) r (subst (λ x. Holds sz x (sw p q s r)) (sym (sw_sw p q s f)) z)),
  )

  pub free_from : (r : ℕ) → FreeRank n sz (sw p q s r) → FreeRank n tz r
  free_from r h = (outside r h.0, λ f z. h.1 (sw p q s f) (holds_to f r z))

  -- sessions hold disjoint sets, of the sizes that they had
  pub exchanged : Sound n tz
  exchanged =
      record {
        sets = λ f pos.
            let t = session f (omega (arith, swapped f)) in
            let i : ℕ = t.0 in
            let y : ℕ = t.1 in
            let k = t.2 in
            let top : ℕ = dbl i y + dbl i 1 - 1 in
            let lt = outside top (below n sz sound (sw p q s f) (sw p q s top)
            ((k.2 top).0 (in_set i y top (omega (arith, dbl_pos i)) (omega (arith, dbl_pos i))))) in
            let m : tz f ≡ dbl i 1 = swapped f ∙ k.1 in
            subst (λ x. Set n x (tz f)) (sym k.0) (subst (Set n (dbl i y)) (sym m) (index_set n i y (omega (arith, lt, dbl_pos i))));
        apart = λ f g r x y.
            sym (sw_sw p q s f) ∙ ap (sw p q s) (sound.apart (sw p q s f) (sw p q s g) (sw p q s r) (holds_to f r x) (holds_to g r y)) ∙ sw_sw p q s g;
      }

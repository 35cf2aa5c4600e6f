-- A set becomes free: all whole free sets but the one around it still differ in size. And what ordering begins and ends with.
use Rattle.std.proofs.Common.{◌≡◌, ℕ, zero, suc, ◌+◌, ◌-◌, ◌*◌, ◌/◌, ◌<◌, ◌≤◌, ◌⊎◌, sym, refl, ap, ◌∙◌, subst, inl, inr, arith}
use Rattle.std.proofs.lemmas.Bool.{cases_eq, cases_lt}
use Rattle.book.specs.Levels.{up, Free, Whole, Differ, Grow, Others, GrowFrom, dbl}
use Rattle.book.proofs.Levels.{down, over, one_around, up_up, up_half, up_mono}
use Rattle.book.proofs.Filling.{up_dbl, free_first, bounded, around}

pub grow_differ : (F : ℕ → Type 0) → Grow F → Differ F
grow_differ F grow i x y hx hy = omega (arith, grow i i 0 x y (omega arith) hx hy, grow i i 0 y x (omega arith) hy hx)

-- where no start set is left beside another of its size, all differ
pub others_differ : (F : ℕ → Type 0) (s p : ℕ) → Others F s p → ((o : ℕ) → Whole F s o → o ≡ p) → Differ F
others_differ F s p others alone i x y hx hy =
    elim (cases_eq i s) [
      | inl k ↦ alone x (subst (λ z. Whole F z x) k hx) ∙ sym (alone y (subst (λ z. Whole F z y) k hy))
      | inr n ↦ others i x y hx hy (λ k _. n k) (λ k _. n k)
    ]

-- a set is free where each of its ranks is
pub fill_free : (F : ℕ → Type 0) (i x : ℕ) → ((r : ℕ) → up i r ≡ x → F r) → Free F i x
fill_free F zero x h = h x refl
fill_free F (suc i) x h = (
  fill_free F i (2 * x) (λ r e. h r (up_half i r ∙ ap (λ y. y / 2) e ∙ omega arith)),
  fill_free F i (2 * x + 1) (λ r e. h r (up_half i r ∙ ap (λ y. y / 2) e ∙ omega arith)),
)

-- Release: the session of the set a of level j lets go of it.
module _ (F G : ℕ → Type 0) (j a : ℕ)
    (more : (r : ℕ) → F r → G r) (given : (r : ℕ) → up j r ≡ a → G r) (only : (r : ℕ) → G r → (up j r ≡ a → ⊥) → F r) where
  still : (i x : ℕ) → Free F i x → Free G i x
  still zero x h = more x h
  still (suc i) x h = (still i (2 * x) h.0, still i (2 * x + 1) h.1)

  was : (i x : ℕ) → Free G i x → ((r : ℕ) → up i r ≡ x → up j r ≡ a → ⊥) → Free F i x
  was zero x h n = only x h (n x refl)
  was (suc i) x h n = (
    was i (2 * x) h.0 (λ r e. n r (up_half i r ∙ ap (λ y. y / 2) e ∙ omega arith)),
    was i (2 * x + 1) h.1 (λ r e. n r (up_half i r ∙ ap (λ y. y / 2) e ∙ omega arith)),
  )

  -- the released set is free
  pub released : Free G j a
  released = fill_free G j a given

  -- what is whole then and is not the set around the released one was whole before
  before : (e w : ℕ) → e + j ≡ w → Whole G w (up e a) → (i x : ℕ) → Whole G i x → (i ≡ w → x ≡ up e a → ⊥) → Whole F i x
  before e w u new i x h n = (
    was i x h.0 (λ r k z.
        elim (cases_lt i j) [
          | inl l ↦
              let d : ℕ = j - suc i in
              over G i j d x (omega arith) h (subst (Free G j) (sym z ∙ up_up (suc d) i j r (omega arith) ∙ ap (up (suc d)) k) released)
          | inr l ↦
              let d : ℕ = i - j in
              let y : x ≡ up d a = sym k ∙ up_up d j i r (omega arith) ∙ ap (up d) z in
              let t : d ≡ e = one_around G j i w d e a (omega arith) u (subst (Whole G i) y h) new in
              n (omega arith) (y ∙ ap (λ b. up b a) t)
        ]),
    λ k. h.1 (still (suc i) (x / 2) k),
  )

  pub release : Differ F → (e w : ℕ) → e + j ≡ w → Whole G w (up e a) → Others G w (up e a)
  release differ e w u new i x y hx hy nx ny = differ i x y (before e w u new i x hx nx) (before e w u new i y hy ny)

-- Ordering: no set is larger than the table, a level where nothing is to do, and the end.
pub order_top : (F : ℕ → Type 0) (n : ℕ) → ((r : ℕ) → F r → r < dbl n 1) → GrowFrom F (suc n)
order_top F n b i j d x y l e hx hy =
    let c : ℕ = j - suc n in
    absurd (bounded F n (dbl c y) b (down F c (suc n) j (dbl c y) (omega arith) (subst (Free F j) (sym (up_dbl c y)) hy.0)))

pub order_skip : (F : ℕ → Type 0) (s : ℕ) → Differ F → GrowFrom F (suc s)
    → ((p i c z : ℕ) → Whole F s p → suc c + i ≡ s → Whole F i z → up (suc c) z ≤ p) → GrowFrom F s
order_skip F s differ grow left i j zero x y l e hx hy =
    let k : i ≡ j = omega arith in
    omega (arith, differ j x y (subst (λ z. Whole F z x) k hx) hy)
order_skip F s differ grow left i j (suc d) x y l e hx hy =
    elim (cases_eq j s) [
      | inl k ↦ left y i d x (subst (λ z. Whole F z y) k hy) (omega arith) hx
      | inr n ↦ grow i j (suc d) x y (omega arith) e hx hy
    ]

pub order_end : (F : ℕ → Type 0) → GrowFrom F 0 → Grow F
order_end F grow i j d x y e hx hy = grow i j d x y (omega arith) e hx hy

-- a free rank outside of the free sets of level s is in a smaller whole set
pub loose_whole : (F : ℕ → Type 0) (dec : (i x : ℕ) → Free F i x ⊎ (Free F i x → ⊥)) (s r : ℕ) → F r → (Free F s (up s r) → ⊥)
    → (t d u : ℕ) × (suc d + t ≡ s) × Whole F t u × (up (suc d) u ≡ up s r)
loose_whole F dec zero r h n = absurd (n h)
loose_whole F dec (suc c) r h n =
    let a = around F dec c 0 c r (omega arith) h n in (
      a.0,
      c - a.0,
      up a.0 r,
      omega (arith, a.1),
      (let e : a.0 + 0 ≡ a.0 = omega arith in subst (λ z. Whole F z (up a.0 r)) e a.2),
      sym (up_up (suc (c - a.0)) a.0 (suc c) r (omega (arith, a.1))),
    )

-- and the other way round
pub whole_loose : (F : ℕ → Type 0) (s i c z : ℕ) → suc c + i ≡ s → Whole F i z → F (dbl i z) × (Free F s (up s (dbl i z)) → ⊥) × (up s (dbl i z) ≡ up (suc c) z)
whole_loose F s i c z e h =
    let k : up s (dbl i z) ≡ up (suc c) z = up_up (suc c) i s (dbl i z) e ∙ ap (up (suc c)) (up_dbl i z) in
    (free_first F i z h.0, (λ n. over F i s c z (omega arith) h (subst (Free F s) k n)), k)

-- so the rightmost such rank tells how far right smaller whole sets are
pub loose_last : (F : ℕ → Type 0) (s r : ℕ) → ((a : ℕ) → F a → (Free F s (up s a) → ⊥) → a ≤ r)
    → (i c z : ℕ) → suc c + i ≡ s → Whole F i z → up (suc c) z ≤ up s r
loose_last F s r last i c z e h =
    let k = whole_loose F s i c z e h in
    omega (arith, k.2, up_mono s (dbl i z) r (last (dbl i z) k.0 k.1))

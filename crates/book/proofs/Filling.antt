-- The lowest free set of a size is taken: the whole free sets still grow from left to right.
use Rattle.std.proofs.Common.{◌≡◌, ℕ, zero, suc, ◌+◌, ◌-◌, ◌*◌, ◌/◌, ◌<◌, ◌≤◌, ◌⊎◌, sym, refl, ap, ◌∙◌, subst, inl, inr, arith}
use Rattle.std.proofs.lemmas.Bool.{cases_eq, cases_lt}
use Rattle.book.specs.Levels.{up, Free, Whole, Grow, dbl}
use Rattle.book.proofs.Levels.{down, over, up_up, up_half, up_mono}
use Rattle.book.proofs.Counts.{dbl_mono}

pub up_dbl : (i q : ℕ) → up i (dbl i q) ≡ q
up_dbl zero q = refl
up_dbl (suc i) q = up_half i (dbl i (2 * q)) ∙ ap (λ x. x / 2) (up_dbl i (2 * q)) ∙ omega arith

pub free_first : (F : ℕ → Type 0) (i q : ℕ) → Free F i q → F (dbl i q)
free_first F zero q h = h
free_first F (suc i) q h = free_first F i (2 * q) h.0

-- the first set of level j in a free set of level i is free
pub free_part : (F : ℕ → Type 0) (c j i q : ℕ) → c + j ≡ i → Free F i q → Free F j (dbl c q)
free_part F c j i q e h = down F c j i (dbl c q) e (subst (Free F i) (sym (up_dbl c q)) h)

-- a larger free set is not in a table of 2 ^ n ranks
pub bounded : (F : ℕ → Type 0) (n q : ℕ) → ((r : ℕ) → F r → r < dbl n 1) → Free F (suc n) q → ⊥
bounded F n q b h = omega (arith, b (dbl n (2 * q + 1)) (free_first F n (2 * q + 1) h.1), dbl_mono n 1 (2 * q + 1) (omega arith))

-- the whole set around a free one, at most c levels up
pub around : (F : ℕ → Type 0) (dec : (i x : ℕ) → Free F i x ⊎ (Free F i x → ⊥)) (c i k q : ℕ) → c + i ≡ k → Free F i q → (Free F (suc k) (up (suc c) q) → ⊥) → (d : ℕ) × (d ≤ c) × Whole F (d + i) (up d q)
around F dec zero i k q v h top =
    let e : i ≡ 0 + i = omega arith in
    let z : suc i ≡ suc k = omega arith in
    (0, omega arith, subst (λ x. Whole F x q) e (h, λ n. top (subst (λ x. Free F x (q / 2)) z n)))
around F dec (suc c) i k q v h top =
    elim (dec (suc i) (q / 2)) [
      | inl n ↦
          let r = around F dec c (suc i) k (q / 2) (omega arith) n top in
          let e : r.0 + suc i ≡ suc r.0 + i = omega arith in
          (suc r.0, omega (arith, r.1), subst (λ x. Whole F x (up (suc r.0) q)) e r.2)
      | inr n ↦ let e : i ≡ 0 + i = omega arith in (0, omega arith, subst (λ x. Whole F x q) e (h, n))
    ]

-- Fill-in: the free set q of level j, the lowest of its size, is taken from the table F, and G is left.
module _ (F G : ℕ → Type 0) (dec : (i x : ℕ) → Free F i x ⊎ (Free F i x → ⊥)) (j q : ℕ)
    (least : (a : ℕ) → Free F j a → q ≤ a)
    (to : (r : ℕ) → G r → F r × (up j r ≡ q → ⊥)) (from : (r : ℕ) → F r → (up j r ≡ q → ⊥) → G r) where
  was_free : (i x : ℕ) → Free G i x → Free F i x
  was_free zero x h = (to x h).0
  was_free (suc i) x h = (was_free i (2 * x) h.0, was_free i (2 * x + 1) h.1)

  keep : (i x : ℕ) → Free F i x → ((r : ℕ) → up i r ≡ x → up j r ≡ q → ⊥) → Free G i x
  keep zero x h n = from x h (n x refl)
  keep (suc i) x h n = (
    keep i (2 * x) h.0 (λ r e. n r (up_half i r ∙ ap (λ y. y / 2) e ∙ omega arith)),
    keep i (2 * x + 1) h.1 (λ r e. n r (up_half i r ∙ ap (λ y. y / 2) e ∙ omega arith)),
  )

  clear_below : (d i x : ℕ) → d + i ≡ j → Free G i x → up d x ≡ q → ⊥
  clear_below d i x e h k =
      (to (dbl i x) (free_first G i x h)).1 (up_up d i j (dbl i x) e ∙ ap (up d) (up_dbl i x) ∙ k)

  clear_above : (d i x : ℕ) → d + j ≡ i → Free G i x → x ≡ up d q → ⊥
  clear_above d i x e h k = clear_below 0 j q (omega arith) (down G d j i q e (subst (Free G i) k h)) refl

  -- what is left of the set that q was taken from
  abbrev Left : ℕ → ℕ → Type 0
  Left i x = (c : ℕ) × (c + j ≡ i) × (x ≡ up c q + 1) × (x / 2 ≡ up (suc c) q) × Free F (suc i) (x / 2)

  whole_new : (i x : ℕ) → Whole G i x → Whole F i x ⊎ Left i x
  whole_new i x h =
      elim (dec (suc i) (x / 2)) [
        | inr n ↦ inl (was_free i x h.0, n)
        | inl k ↦ elim (cases_lt i j) [
          | inl l ↦
              let d : ℕ = j - suc i in
              absurd (h.1 (keep (suc i) (x / 2) k (λ r e z.
              clear_below (suc d) i x (omega arith) h.0
              (ap (up d) (sym e) ∙ sym (up_up d (suc i) j r (omega arith)) ∙ z))))
          | inr l ↦
              let c : ℕ = i - j in
              elim (cases_eq (x / 2) (up (suc c) q)) [
                | inl e ↦
                    let a : x ≡ up c q → ⊥ = clear_above c i x (omega arith) h.0 in
                    let b = least (dbl c x) (free_part F c j i x (omega arith) (was_free i x h.0)) in
                    let m = up_mono c q (dbl c x) b in
                    inr (c, omega arith, omega (arith, a, m, up_dbl c x, up_half c q, e), e, k)
                | inr n ↦ absurd (h.1 (keep (suc i) (x / 2) k (λ r e z.
                    n (sym e ∙ up_up (suc c) j (suc i) r (omega arith) ∙ ap (up (suc c)) z))))
              ]
        ]
      ]

  module _ (e w : ℕ) (size : e + j ≡ w) (host : Whole F w (up e q)) (grow : Grow F) where
    -- nothing else that is whole is in the host
    absorbed : (d i x : ℕ) → suc d + i ≡ w → Whole F i x → up (suc d) x ≡ up e q → ⊥
    absorbed d i x v h k = over F i w d x (omega arith) h (subst (Free F w) (sym k) host.0)

    small : (c i x : ℕ) → c + j ≡ i → x ≡ up (suc c) q → Free F (suc i) x → c < e
    small c i x v k h =
        elim (cases_lt c e) [
          | inl l ↦ l
          | inr l ↦
              let d : ℕ = c - e in
              absurd (over F w (suc i) d (up e q) (omega arith) host
              (subst (Free F (suc i)) (k ∙ up_up (suc d) e (suc c) q (omega arith)) h))
        ]

    -- a rest of the host, seen from the host's level
    rest_up : (c i x d : ℕ) → c + j ≡ i → suc d + i ≡ w → x / 2 ≡ up (suc c) q → up (suc d) x ≡ up e q
    rest_up c i x d u v k = ap (up d) k ∙ sym (up_up d (suc c) e q (omega arith))

    rest_rest : (i k d x y : ℕ) → d + i ≡ k → Left i x → Left k y → up d x ≤ y
    rest_rest i k zero x y u a b =
        let z : a.0 ≡ b.0 = omega (arith, a.1, b.1) in
        omega (arith, a.2, b.2, ap (λ c. up c q) z)
    rest_rest i k (suc d) x y u a b =
        let z = ap (up d) a.3 ∙ sym (up_up d (suc a.0) b.0 q (omega (arith, a.1, b.1))) in
        omega (arith, b.2, z)

    rest_old : (i k d x y : ℕ) → d + i ≡ k → Left i x → Whole F k y → Free G k y → up d x ≤ y
    rest_old i k d x y u a hy gy =
        let l : a.0 < e = small a.0 i (x / 2) a.1 a.3 a.4 in
        elim (cases_lt w k) [
          | inl m ↦
              let c : ℕ = w - suc i in
              let b : ℕ = k - w in
              let z = up_up b (suc c) d x (omega (arith, a.1)) ∙ ap (up b) (rest_up a.0 i x c a.1 (omega (arith, a.1)) a.3) in
              omega (arith, z, grow w k b (up e q) y (omega arith) host hy)
          | inr m ↦
              let b : ℕ = w - k in
              let c : ℕ = k - j in
              let v : c + j ≡ k = omega (arith, a.1) in
              let h1 = grow k w b y (up e q) (omega arith) hy host in
              let h2 = up_mono c q (dbl c y) (least (dbl c y) (free_part F c j k y v hy.0)) in
              let h3 = up_mono b (up c q) y (omega (arith, h2, up_dbl c y)) in
              let h4 : up b y ≡ up e q = omega (arith, h1, h3, up_up b c e q (omega arith)) in
              absurd (not_inside k y hy gy c v b (omega arith) h4)
        ]
      where
        not_inside : (k y : ℕ) → Whole F k y → Free G k y → (c : ℕ) → c + j ≡ k → (b : ℕ) → b + k ≡ w → up b y ≡ up e q → ⊥
        not_inside k y hy gy c v zero t h =
            let z : e ≡ c = omega arith in
            clear_above c k y v gy (h ∙ ap (λ a. up a q) z)
        not_inside k y hy gy c v (suc b) t h = absorbed b k y t hy h

    old_rest : (i k d x y : ℕ) → d + i ≡ k → Whole F i x → Left k y → up d x ≤ y
    old_rest i k d x y u hx b =
        elim (cases_lt y (up d x)) [
          | inr m ↦ m
          | inl m ↦
              let l : b.0 < e = small b.0 k (y / 2) b.1 b.3 b.4 in
              let c : ℕ = w - k in
              let a : ℕ = w - suc i in
              let h1 = grow i w (suc a) x (up e q) (omega (arith, b.1)) hx host in
              let h2 = up_mono c (up b.0 q) (up d x) (omega (arith, b.2)) in
              let h3 : up (suc a) x ≡ up e q =
              omega (arith, h1, h2, up_up c b.0 e q (omega (arith, b.1)), up_up c d (suc a) x (omega (arith, b.1))) in
              absurd (absorbed a i x (omega (arith, b.1)) hx h3)
        ]

    -- the whole free sets still grow from left to right
    pub fill : Grow G
    fill i k d x y u hx hy =
        elim (whole_new i x hx) [
          | inl a ↦ elim (whole_new k y hy) [
            | inl b ↦ grow i k d x y u a b
            | inr b ↦ old_rest i k d x y u a b
          ]
          | inr a ↦ elim (whole_new k y hy) [
            | inl b ↦ rest_old i k d x y u a b hy.0
            | inr b ↦ rest_rest i k d x y u a b
          ]
        ]

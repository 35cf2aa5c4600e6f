-- A session takes a free set, or lets go of its own: the sets stay disjoint, and which ranks are free then.
use Rattle.std.proofs.Common.{◌≡◌, ℕ, ◌+◌, ◌<◌, sym, refl, ap, ◌∙◌, subst, inl, inr, arith}
use Rattle.std.proofs.lemmas.Bool.{cases_eq}
use Rattle.book.specs.Levels.{up, dbl, Free}
use Rattle.book.specs.Sound.{Holds, FreeRank, Set, Sound}
use Rattle.book.proofs.Places.{set_in, index_set, dbl_pos, all_free, within}
use Rattle.book.proofs.Swaps.{held_up, up_held, below}

-- A session takes the free set q of level j.
module _ (n : ℕ) (sz tz : ℕ → ℕ) (j q : ℕ) (sound : Sound n sz) (free : Free (FreeRank n sz) j q)
    (new : tz (dbl j q) ≡ dbl j 1) (same : (r : ℕ) → (r ≡ dbl j q → ⊥) → tz r ≡ sz r) where
  held_new : (r : ℕ) → Holds tz (dbl j q) r → up j r ≡ q
  held_new r h = held_up tz (dbl j q) j q r refl new h

  held_old : (f r : ℕ) → (f ≡ dbl j q → ⊥) → Holds tz f r → Holds sz f r
  held_old f r n h = (h.0, omega (arith, h.1, same f n))

  -- the new session's ranks were free
  pub taken_to : (r : ℕ) → FreeRank n tz r → FreeRank n sz r × (up j r ≡ q → ⊥)
  taken_to r h =
      let a : up j r ≡ q → ⊥ = λ k. h.1 (dbl j q) (up_held tz (dbl j q) j q r refl new k) in (
        (
          h.0,
          λ f k. elim (cases_eq f (dbl j q)) [
            | inl e ↦
                let z = all_free (FreeRank n sz) j q free (dbl j q) (omega arith) (omega (arith, dbl_pos j)) in
                z.1 (dbl j q) (omega arith, subst (λ x. dbl j q < dbl j q + sz x) e (omega (arith, k.0, k.1)))
            | inr e ↦ h.1 f (k.0, omega (arith, k.1, same f e))
          ],
        ),
        a,
      )

  pub taken_from : (r : ℕ) → FreeRank n sz r → (up j r ≡ q → ⊥) → FreeRank n tz r
  taken_from r h m = (
    h.0,
    λ f k. elim (cases_eq f (dbl j q)) [
      | inl e ↦ m (held_new r (subst (λ x. Holds tz x r) e k))
      | inr e ↦ h.1 f (held_old f r e k)
    ],
  )

  pub taken : Sound n tz
  taken =
      record {
        sets = λ f pos. elim (cases_eq f (dbl j q)) [
          | inl e ↦ subst (λ x. Set n x (tz x)) (sym e) (subst (Set n (dbl j q)) (sym new) (index_set n j q (within n sz j q free)))
          | inr e ↦ subst (Set n f) (sym (same f e)) (sound.sets f (omega (arith, same f e, pos)))
        ];
        apart = λ f g r x y. elim (cases_eq f (dbl j q)) [
          | inl e ↦ elim (cases_eq g (dbl j q)) [
            | inl u ↦ e ∙ sym u
            | inr u ↦ absurd (clash g r u y (held_new r (subst (λ x. Holds tz x r) e x)))
          ]
          | inr e ↦ elim (cases_eq g (dbl j q)) [
            | inl u ↦ absurd (clash f r e x (held_new r (subst (λ x. Holds tz x r) u y)))
            | inr u ↦ sound.apart f g r (held_old f r e x) (held_old g r u y)
          ]
        ];
      }
    where
      clash : (f r : ℕ) → (f ≡ dbl j q → ⊥) → Holds tz f r → up j r ≡ q → ⊥
      clash f r e x k =
          let z = set_in j q r k in
          (all_free (FreeRank n sz) j q free r z.0 z.1).1 f (held_old f r e x)

-- The session at the rank f, which is the set a of level j, is released.
module _ (n : ℕ) (sz tz : ℕ → ℕ) (f j a : ℕ) (sound : Sound n sz) (is : f ≡ dbl j a) (size : sz f ≡ dbl j 1)
    (gone : tz f ≡ 0) (same : (r : ℕ) → (r ≡ f → ⊥) → tz r ≡ sz r) where
  still_held : (g r : ℕ) → Holds tz g r → Holds sz g r × (g ≡ f → ⊥)
  still_held g r h =
      elim (cases_eq g f) [
        | inl e ↦ absurd (omega (arith, h.0, h.1, ap tz e))
        | inr e ↦ ((h.0, omega (arith, h.1, same g e)), e)
      ]

  pub gone_more : (r : ℕ) → FreeRank n sz r → FreeRank n tz r
  gone_more r h = (h.0, λ g k. h.1 g (still_held g r k).0)

  pub gone_given : (r : ℕ) → up j r ≡ a → FreeRank n tz r
  gone_given r k =
      let h = up_held sz f j a r is size k in
      (below n sz sound f r h, λ g x. let y = still_held g r x in y.1 (sound.apart g f r y.0 h))

  pub gone_only : (r : ℕ) → FreeRank n tz r → (up j r ≡ a → ⊥) → FreeRank n sz r
  gone_only r h m = (
    h.0,
    λ g k. elim (cases_eq g f) [
      | inl e ↦ m (held_up sz f j a r is size (subst (λ x. Holds sz x r) e k))
      | inr e ↦ h.1 g (k.0, omega (arith, k.1, same g e))
    ],
  )

  pub let_go : Sound n tz
  let_go =
      record {
        sets = λ g pos. elim (cases_eq g f) [
          | inl e ↦ absurd (omega (arith, pos, gone, ap tz e))
          | inr e ↦ subst (Set n g) (sym (same g e)) (sound.sets g (omega (arith, same g e, pos)))
        ];
        apart = λ g h r x y. sound.apart g h r (still_held g r x).0 (still_held h r y).0;
      }

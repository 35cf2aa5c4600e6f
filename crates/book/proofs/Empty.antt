-- A book without sessions.
use Rattle.std.proofs.Common.{◌≡◌, ℕ, suc, ◌-◌, ◌/◌, ◌<◌, sym, ap, ◌∙◌, inl, inr, arith}
use Rattle.std.proofs.lemmas.Bool.{cases_eq, cases_lt}
use Rattle.book.specs.Levels.{up, dbl, Whole, Grow}
use Rattle.book.specs.Sound.{FreeRank, Sound, Ordered}
use Rattle.book.proofs.Levels.{up_half, up_up}
use Rattle.book.proofs.Doubles.{up_below}
use Rattle.book.proofs.Filling.{up_dbl, free_first, free_part, bounded}
use Rattle.book.proofs.Freeing.{fill_free}
use Rattle.book.proofs.Places.{size_pow, grow_ordered}
use Rattle.book.proofs.Swaps.{below_up}

-- the empty table has one whole set
only_whole : (F : ℕ → Type 0) (n : ℕ) → ((r : ℕ) → r < dbl n 1 → F r) → ((r : ℕ) → F r → r < dbl n 1) → (i p : ℕ) → Whole F i p → (i ≡ n) × (p ≡ 0)
only_whole F n all only i p h =
    let x : ℕ = dbl i p in
    let zero-up : up n x ≡ 0 = up_below n x (only x (free_first F i p h.0)) in
    elim (cases_lt i n) [
      | inl l ↦
          let c : ℕ = n - suc i in
          absurd (h.1 (fill_free F (suc i) (p / 2) (λ r e.
          all r (below_up n r
          (up_up c (suc i) n r (omega arith)
          ∙ ap (up c) (e ∙ ap (λ y. y / 2) (sym (up_dbl i p)) ∙ sym (up_half i x))
          ∙ sym (up_up c (suc i) n x (omega arith))
          ∙ zero-up
          )))))
      | inr l ↦ elim (cases_eq i n) [
        | inl e ↦ (e, sym (up_dbl i p) ∙ ap (λ y. up y x) e ∙ zero-up)
        | inr m ↦
            let c : ℕ = i - suc n in
            absurd (bounded F n (dbl c p) only (free_part F c (suc n) i p (omega arith) h.0))
      ]
    ]

pub empty_grow : (F : ℕ → Type 0) (n : ℕ) → ((r : ℕ) → r < dbl n 1 → F r) → ((r : ℕ) → F r → r < dbl n 1) → Grow F
empty_grow F n all only i j d p q e hp hq =
    let a = only_whole F n all only i p hp in
    let b = only_whole F n all only j q hq in
    let z : d ≡ 0 = omega (arith, a.0, b.0) in
    omega (arith, ap (λ x. up x p) z, a.1)

-- the empty book
pub empty_sound : (n : ℕ) (sz : ℕ → ℕ) → ((f : ℕ) → sz f ≡ 0) → Sound n sz
empty_sound n sz none = record { sets = λ f pos. absurd (omega (arith, none f)); apart = λ f g r x y. absurd (omega (arith, none f, x.0, x.1)) }

pub empty_ordered : (n : ℕ) (sz : ℕ → ℕ) → ((f : ℕ) → sz f ≡ 0) → Ordered n sz
empty_ordered n sz none =
    grow_ordered n sz (empty_grow (FreeRank n sz) n
    (λ r l. (omega (arith, size_pow n), λ f k. omega (arith, none f, k.0, k.1)))
    (λ r h. omega (arith, h.0, size_pow n)))

-- How many ranks are free, and that so many free ranks have a free set.
use Rattle.std.proofs.Common.{◌≡◌, ℕ, zero, suc, ◌+◌, ◌-◌, ◌*◌, ◌/◌, ◌^◌, ◌<◌, ◌≤◌, min, Bool, true, false, cond, not, ◌&&◌, ◌||◌, ltb, leb, ◌⊎◌, Decides, sym, refl, ap, ◌∙◌, inl, inr, arith}
use Rattle.std.proofs.lemmas.Bool.{cases_eq, cases_Bool, both_ways, lt-ltb, le-leb, leb-true}
use Rattle.std.proofs.lemmas.Bool.Decides.{nat_tests, Decides-below_or, Decides-and, Decides-like, Decides-not, Decides-ltb}
use Rattle.book.specs.Levels.{dbl, Free, Differ}
use Rattle.book.specs.Searches.{count}
use Rattle.book.specs.Sound.{Holds, FreeRank, Sound}
use Rattle.book.proofs.Views.{total}
use Rattle.book.proofs.Counts.{Is, freeb, free_true, true_free, count_none, room, no_room}
use Rattle.book.proofs.Doubles.{dbl_dbl}
use Rattle.book.proofs.Places.{size_pow}

-- the ranks from a on, l of them
abbrev pub span : ℕ → ℕ → ℕ → Bool
span a l r = leb a r && ltb r (a + l)

pub count_span : (a l m : ℕ) → count (span a l) m ≡ min m (a + l) - min m a
count_span a l zero = omega arith
count_span a l (suc m) = let h = count_span a l m in grind (arith, nat_tests)

-- the ranks that a session holds which begins below m
abbrev pub held : (ℕ → ℕ) → ℕ → ℕ → Bool
held sz r zero = false
held sz r (suc m) = span m (sz m) r || held sz r m

span_decides : (sz : ℕ → ℕ) (f r : ℕ) → Decides (span f (sz f) r) (Holds sz f r)
span_decides sz f r = Decides-and (leb f r) (ltb r (f + sz f)) (leb-true f r, le-leb f r) (Decides-ltb r (f + sz f))

held_decides : (sz : ℕ → ℕ) (r m : ℕ) → Decides (held sz r m) ((f : ℕ) × (f < m) × Holds sz f r)
held_decides sz r m =
    Decides-below_or (λ f. span f (sz f) r) (λ f. Holds sz f r) (held sz r) (λ f. span_decides sz f r) refl (λ f. refl) m

or_sum : (x y : Bool) → (x ≡ true → y ≡ true → ⊥) → cond {A = ℕ} (x || y) 1 0 ≡ cond {A = ℕ} x 1 0 + cond {A = ℕ} y 1 0
or_sum true true n = absurd (n refl refl)
or_sum true false n = refl
or_sum false true n = refl
or_sum false false n = refl

pub count_or : (f g : ℕ → Bool) (m : ℕ) → ((r : ℕ) → f r ≡ true → g r ≡ true → ⊥) → count (λ r. f r || g r) m ≡ count f m + count g m
count_or f g zero n = refl
count_or f g (suc m) n = omega (arith, count_or f g m n, or_sum (f m) (g m) (n m))

count_held : (n : ℕ) (sz : ℕ → ℕ) → Sound n sz → (m : ℕ) → count (λ r. held sz r m) (2 ^ n) ≡ total sz m
count_held n sz sound zero = count_none (λ r. false) (2 ^ n) (λ a l h. both_ways false refl h)
count_held n sz sound (suc m) =
    let a = count_or (span m (sz m)) (λ r. held sz r m) (2 ^ n) (λ r x y.
    let u = (held_decides sz r m).0 y in
    let z = (span_decides sz m r).0 x in
    let e = sound.apart u.0 m r u.2 z in
    omega (arith, u.1, e)) in
    let b = count_span m (sz m) (2 ^ n) in
    let c : m + sz m ≤ 2 ^ n ⊎ (sz m ≡ 0) = elim (cases_eq (sz m) 0) [ inl e ↦ inr e | inr e ↦ inl (sound.sets m (omega arith)).2 ] in
    omega (arith, a, b, c, count_held n sz sound m)

pub invert : (f : ℕ → Bool) (m : ℕ) → count (λ r. not (f r)) m + count f m ≡ m
invert f zero = refl
invert f (suc m) = omega (arith, invert f m, go (f m))
  where
    go : (b : Bool) → cond {A = ℕ} (not b) 1 0 + cond {A = ℕ} b 1 0 ≡ 1
    go true = refl
    go false = refl

-- the free ranks as a test
abbrev pub vacant : ℕ → (ℕ → ℕ) → ℕ → Bool
vacant n sz r = ltb r (2 ^ n) && not (held sz r (2 ^ n))

pub vacant_decides : (n : ℕ) (sz : ℕ → ℕ) → (r : ℕ) → Decides (vacant n sz r) (FreeRank n sz r)
vacant_decides n sz r =
    Decides-like (vacant n sz r)
    (λ h. (h.0, λ f k. h.1 (f, omega (arith, h.0, k.0), k)))
    (λ h. (h.0, λ k. h.1 k.0 k.2))
    (Decides-and (ltb r (2 ^ n)) (not (held sz r (2 ^ n))) (Decides-ltb r (2 ^ n)) (Decides-not (held sz r (2 ^ n)) (held_decides sz r (2 ^ n))))

pub count_same : (f g : ℕ → Bool) (m : ℕ) → ((r : ℕ) → r < m → f r ≡ g r) → count f m ≡ count g m
count_same f g zero h = refl
count_same f g (suc m) h =
    let e = ap (λ b. cond {A = ℕ} b 1 0) (h m (omega arith)) in
    omega (arith, e, count_same f g m (λ r l. h r (omega arith)))

-- what the sessions do not hold is free
pub count_free : (n : ℕ) (sz : ℕ → ℕ) → Sound n sz → count (vacant n sz) (2 ^ n) + total sz (2 ^ n) ≡ 2 ^ n
count_free n sz sound =
    let a = count_same (vacant n sz) (λ r. not (held sz r (2 ^ n))) (2 ^ n) (λ r l. ap (λ b. b && not (held sz r (2 ^ n))) (lt-ltb r (2 ^ n) l)) in
    omega (arith, a, invert (λ r. held sz r (2 ^ n)) (2 ^ n), count_held n sz sound (2 ^ n))

pub free_map : (F G : ℕ → Type 0) → ((r : ℕ) → F r → G r) → (i q : ℕ) → Free F i q → Free G i q
free_map F G h zero q k = h q k
free_map F G h (suc i) q k = (free_map F G h i (2 * q) k.0, free_map F G h i (2 * q + 1) k.1)

module _ (n : ℕ) (sz : ℕ → ℕ) where
  abbrev V : ℕ → Type 0
  V = Is (vacant n sz)

  pub seen : (i q : ℕ) → Free (FreeRank n sz) i q → Free V i q
  seen = free_map (FreeRank n sz) V (λ r. (vacant_decides n sz r).1)

  pub real : (i q : ℕ) → Free V i q → Free (FreeRank n sz) i q
  real = free_map V (FreeRank n sz) (λ r. (vacant_decides n sz r).0)

  differ_seen : Differ (FreeRank n sz) → Differ V
  differ_seen dif i p q hp hq =
      dif i p q (real i p hp.0, λ k. hp.1 (seen (suc i) (p / 2) k)) (real i q hq.0, λ k. hq.1 (seen (suc i) (q / 2) k))

  -- where there are so many free ranks there is a free set, and so a lowest one
  pub fits : Sound n sz → Differ (FreeRank n sz) → (j k : ℕ) → k + j ≡ n → total sz (2 ^ n) + 2 ^ j ≤ 2 ^ n
      → (q : ℕ) × (q < 2 ^ k) × Free (FreeRank n sz) j q × ((a : ℕ) → Free (FreeRank n sz) j a → q ≤ a)
  fits sound dif j k e h =
      let z : dbl j (2 ^ k) ≡ 2 ^ n = ap (dbl j) (sym (size_pow k)) ∙ sym (dbl_dbl j k n 1 (omega arith)) ∙ size_pow n in
      let c = ap (count (vacant n sz)) z in
      let r = room (vacant n sz) (differ_seen dif) j (2 ^ k) (omega (arith, c, count_free n sz sound, size_pow j)) in
      (r.0, r.1, real j r.0 r.2, λ a x. r.3 a (seen j a x))

  -- and a free set only there
  pub fits_only : Sound n sz → (j k q : ℕ) → k + j ≡ n → q < 2 ^ k → Free (FreeRank n sz) j q → total sz (2 ^ n) + 2 ^ j ≤ 2 ^ n
  fits_only sound j k q e l h =
      let z : dbl j (2 ^ k) ≡ 2 ^ n = ap (dbl j) (sym (size_pow k)) ∙ sym (dbl_dbl j k n 1 (omega arith)) ∙ size_pow n in
      let c = ap (count (vacant n sz)) z in
      omega (arith, c, no_room (vacant n sz) j (2 ^ k) q l (seen j q h), count_free n sz sound, size_pow j)

  -- a set is free or not
  pub free_or_not : (i x : ℕ) → Free (FreeRank n sz) i x ⊎ (Free (FreeRank n sz) i x → ⊥)
  free_or_not i x =
      elim (cases_Bool (freeb (vacant n sz) i x)) [
        | inl h ↦ inl (real i x (free_true (vacant n sz) i x h))
        | inr h ↦ inr (λ k. both_ways (freeb (vacant n sz) i x) h (true_free (vacant n sz) i x (seen i x k)))
      ]

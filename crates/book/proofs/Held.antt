-- The held ranks of a book as bits: which sets are free by them, and what a change of the book makes of them.
use Rattle.std.proofs.Common.{◌≡◌, ℕ, zero, suc, ◌+◌, ◌-◌, ◌*◌, ◌/◌, ◌%◌, ◌^◌, ◌<◌, ◌≤◌, Bool, true, false, cond, not, ◌&&◌, eqb, leb, ◌⊎◌, length, set, is_some, Some, None, Decides, Option, sym, refl, ap, ◌∙◌, subst, inl, inr, mod-lt, div-mul-le_self, arith, pow_pos, pow_mono, length-set, shl_exact}
use lib.Pow.{pow-lt}
use native.Mathlib.Nat.{mod-le}
use Rattle.std.proofs.lemmas.Nat.{mul-le}
use Rattle.std.proofs.lemmas.Bool.{cases_eq, cases_Bool, both_ways, le-leb, lt-leb, eqb-true, eq-eqb, ne_eqb, leb-true, cond-true, cond-false, not-false, not_from_true}
use Rattle.std.proofs.lemmas.Bool.Decides.{same_from_decides}
use Rattle.book.specs.FreeSets.{around_by, climb_by, loose_by, lowest_by, lowest_first_by, other_by}
use Rattle.book.specs.declared.session.Session.{Session}
use Rattle.book.specs.Entries.{Ranks, size_of, size_at, level_for, fits, place_of, holds}
use Rattle.book.specs.Standing.{Seated, Standing}
use Rattle.book.specs.Sets.{clear, is_free}
use Rattle.book.specs.Bits.{bits_of, held_bits, part, free_bits}
use Rattle.book.specs.Levels.{up, dbl, sw, FreeIn, Free, Beside}
use Rattle.book.specs.Sound.{FreeSet, Sound}
use Rattle.book.specs.Searches.{count}
use Rattle.book.specs.Moves.{brother, exchanged_sets, other_whole, loose_rank, climb, whole_around}
use Rattle.book.specs.Books.{empty_ranks, lowest_first, place_for, free_ranks}
use Rattle.book.specs.RankSets.{Found, PutOn}
use Rattle.book.specs.declared.rank_set.RankSet.{RankSet}
use Rattle.book.proofs.Placed.{Place, level_found, first_is, first_none, place_is}
use Rattle.book.proofs.Keeping.{none_at, number_found}
use Rattle.book.proofs.Numbers.{place_holds}
use Rattle.book.proofs.Bits.{bits_below, bits_same, bits_none, none_bits, bits_all, part_bits, bits_change}
use Rattle.book.proofs.Views.{Swapped}
use Rattle.book.proofs.Levels.{up_half, tr_left, tr_right}
use Rattle.book.proofs.Filling.{up_dbl, free_first}
use Rattle.book.proofs.Places.{in_set, set_in, size_pow, all_free, within, index_below}
use Rattle.book.proofs.Steps.{filled_to, filled_from, freed_to, freed_from, gone_free, gone_sound, session_at, level_in, index_in, exchange_sound, exchange_to, exchange_from}
use Rattle.book.proofs.Moved.{brother_near, sets_swapped}
use Rattle.book.proofs.Blocks.{sw_place, table_small}
use Rattle.book.proofs.Swaps.{sw_fix, up_held}
use Rattle.book.proofs.Decided.{firsts, sizes, around, inside_dbl, free_inside, clear_decides, is_free_decides}

-- a rank is held
abbrev held_at : ℕ → Ranks → ℕ → Bool
held_at n xs r = not (is_free n xs 0 r)

free_at : (n : ℕ) (xs : Ranks) (r : ℕ) → FreeIn n xs r → held_at n xs r ≡ false
free_at n xs r h = not_from_true (is_free n xs 0 r) ((is_free_decides n xs 0 r).1 h)

at_free : (n : ℕ) (xs : Ranks) (r : ℕ) → held_at n xs r ≡ false → FreeIn n xs r
at_free n xs r h = (is_free_decides n xs 0 r).0 (not-false (is_free n xs 0 r) h)

held_at_lem : (n : ℕ) (xs : Ranks) (r : ℕ) → (FreeIn n xs r → ⊥) → held_at n xs r ≡ true
held_at_lem n xs r h = elim (cases_Bool (held_at n xs r)) [ inl e ↦ e | inr e ↦ absurd (h (at_free n xs r e)) ]

same_at : (n : ℕ) (xs ys : Ranks) (r t : ℕ) → (FreeIn n xs r → FreeIn n ys t) → (FreeIn n ys t → FreeIn n xs r) → held_at n xs r ≡ held_at n ys t
same_at n xs ys r t a b =
    elim (cases_Bool (held_at n ys t)) [
      | inl e ↦ held_at_lem n xs r (λ h. both_ways (held_at n ys t) (free_at n ys t (a h)) e) ∙ sym e
      | inr e ↦ free_at n xs r (b (at_free n ys t e)) ∙ sym e
    ]

-- a number of so many bits
held_below : (n : ℕ) (xs : Ranks) → held_bits n xs < 2 ^ 2 ^ n
unfolding held_bits
held_below n xs = bits_below (held_at n xs) (2 ^ n)

pub held_fits : (n : ℕ) (xs : Ranks) → n ≤ 6 → held_bits n xs < 2 ^ 64
held_fits n xs top = let l : 2 ^ 2 ^ n ≤ 2 ^ 64 = pow_mono (table_small n top) in omega (arith, held_below n xs, l)

-- the bits tell which sets are free
window_decides : (n : ℕ) (xs : Ranks) (f m : ℕ) → f + m ≤ 2 ^ n → Decides (eqb (part (held_bits n xs) f m) 0) (FreeSet n (size_at xs) f m)
unfolding held_bits
window_decides n xs f m l =
    let e = part_bits (held_at n xs) (2 ^ n) f m l in (
      (λ h r u v.
          let z : r ≡ f + (r - f) = omega arith in
          subst (FreeIn n xs) (sym z) (at_free n xs (f + (r - f)) (none_bits (λ k. held_at n xs (f + k)) m (sym e ∙ eqb-true (part (bits_of (held_at n xs) (2 ^ n)) f m) 0 h) (r - f) (omega arith)))),
      λ h. eq-eqb (part (bits_of (held_at n xs) (2 ^ n)) f m) 0 (e ∙ bits_none (λ k. held_at n xs (f + k)) m (λ k u. free_at n xs (f + k) (h (f + k) (omega arith) (omega arith)))),
    )

free_bits_lem : (n : ℕ) (xs : Ranks) (i q : ℕ) → free_bits n (held_bits n xs) i q ≡ is_free n xs i q
unfolding free_bits
free_bits_lem n xs i q =
    elim (cases_Bool (leb (q * 2 ^ i + 2 ^ i) (2 ^ n))) [
      | inl e ↦
          let l = leb-true (q * 2 ^ i + 2 ^ i) (2 ^ n) e in
          ap (λ b. leb (q * 2 ^ i + 2 ^ i) (2 ^ n) && b) (same_from_decides (eqb (part (held_bits n xs) (q * 2 ^ i) (2 ^ i)) 0) (clear xs (q * 2 ^ i) (2 ^ i))
          (window_decides n xs (q * 2 ^ i) (2 ^ i) l) (clear_decides n xs (q * 2 ^ i) (2 ^ i) l (pow_pos i)))
      | inr e ↦
          ap (λ b. b && eqb (part (held_bits n xs) (q * 2 ^ i) (2 ^ i)) 0) e ∙ ap (λ b. b && clear xs (q * 2 ^ i) (2 ^ i)) (sym e)
    ]

pub bits_free : (n : ℕ) (xs : Ranks) (held : ℕ) → held ≡ held_bits n xs → free_bits n held ≡ is_free n xs
bits_free n xs held e = ap (free_bits n) e ∙ (λ k i q. free_bits_lem n xs i q k)

-- no set is larger than the table
pub none_above : (n held i q : ℕ) → n < i → free_bits n held i q ≡ false
unfolding free_bits
none_above n held i q l = ap (λ b. b && eqb (part held (q * 2 ^ i) (2 ^ i)) 0) (lt-leb (q * 2 ^ i + 2 ^ i) (2 ^ n) (omega (arith, pow-lt l)))

-- a book without sessions holds none
pub empty_bits : (n : ℕ) → held_bits n (empty_ranks n) ≡ 0
unfolding held_bits
empty_bits n = bits_none (held_at n (empty_ranks n)) (2 ^ n) (λ r l. free_at n (empty_ranks n) r (l, λ f h. omega (arith, h.0, h.1, ap size_of (none_at (2 ^ n) f))))

-- and a book that holds no rank is without sessions
pub none_held : (n number : ℕ) (xs : Ranks) → Standing n xs → 0 ≡ held_bits n xs → false ≡ holds number xs
unfolding held_bits
none_held n number xs h e = none (place_of number xs) refl
  where
    free : (r : ℕ) → r < 2 ^ n → FreeIn n xs r
    free r l = at_free n xs r (none_bits (held_at n xs) (2 ^ n) (sym e) r l)

    none : (o : Option ℕ) → o ≡ place_of number xs → false ≡ holds number xs
    none None d = ap is_some d ∙ place_holds number xs
    none (Some f) d =
        let t = number_found number xs f d in
        let p = h.fit f t.0 t.1 in
        absurd ((free f (omega (arith, t.3, h.long))).1 f (omega arith, omega (arith, ap size_of t.1, p.size_is, pow_pos p.level)))

-- no rank of a set is outside of it
outside : (i a r : ℕ) → up i r ≡ a → (r < dbl i a) ⊎ (dbl i a + dbl i 1 ≤ r) → ⊥
outside i a r e out = let z = set_in i a r e in elim out [ inl u ↦ omega (arith, z.0) | inr u ↦ omega (arith, z.1) ]

-- One set, a of level j, is free in xs and held in ys, and the other ranks are as they were.
pub set_bits : (n j a : ℕ) (xs ys : Ranks) → dbl j a + dbl j 1 ≤ 2 ^ n → Free (FreeIn n xs) j a → ((r : ℕ) → FreeIn n ys r → up j r ≡ a → ⊥)
    → ((r : ℕ) → (up j r ≡ a → ⊥) → FreeIn n xs r → FreeIn n ys r) → ((r : ℕ) → FreeIn n ys r → FreeIn n xs r)
    → held_bits n ys ≡ held_bits n xs + (2 ^ 2 ^ j - 1) * 2 ^ (a * 2 ^ j)
unfolding held_bits
set_bits n j a xs ys l free taken to from =
    let f : ℕ = dbl j a in
    let m : ℕ = dbl j 1 in
    let change = bits_change (held_at n xs) (held_at n ys) (2 ^ n) f m l
    (λ r u out. same_at n xs ys r r (to r (λ e. outside j a r e out)) (from r)) in
    let was : bits_of (λ k. held_at n xs (f + k)) m ≡ 0 = bits_none (λ k. held_at n xs (f + k)) m
    (λ k u. free_at n xs (f + k) (all_free (FreeIn n xs) j a free (f + k) (omega arith) (omega arith))) in
    let is : bits_of (λ k. held_at n ys (f + k)) m ≡ 2 ^ m - 1 = bits_all (λ k. held_at n ys (f + k)) m
    (λ k u. held_at_lem n ys (f + k) (λ h. taken (f + k) h (in_set j a (f + k) (omega arith) (omega arith)))) in
    let e : (2 ^ m - 1) * 2 ^ f ≡ (2 ^ 2 ^ j - 1) * 2 ^ (a * 2 ^ j) = ap (λ x. (2 ^ x - 1) * 2 ^ f) (size_pow j) ∙ ap (λ x. (2 ^ 2 ^ j - 1) * 2 ^ x) (sym (firsts j a)) in
    omega (arith, change, ap (λ x. x * 2 ^ f) was, ap (λ x. x * 2 ^ f) is, e)

-- a session takes a free set
pub filled_bits : (n j q : ℕ) (xs : Ranks) (h : Session) → 2 ^ n ≤ length xs → j ≤ n → h.size ≡ 2 ^ j → Sound n (size_at xs) → Free (FreeIn n xs) j q
    → ((a : ℕ) → Free (FreeIn n xs) j a → q ≤ a) → held_bits n (set xs (dbl j q) (Some h)) ≡ held_bits n xs + (2 ^ 2 ^ j - 1) * 2 ^ (q * 2 ^ j)
filled_bits n j q xs h len low size sound free least =
    let to = filled_to n j q xs h len low size sound free least in
    set_bits n j q xs (set xs (dbl j q) (Some h)) (within n (size_at xs) j q free) free (λ r u. (to r u).1)
    (λ r e u. filled_from n j q xs h len low size sound free least r u e) (λ r u. (to r u).0)

pub taken_bits : (n : ℕ) (xs : Ranks) (s : Session) (f held taken : ℕ) → Place n xs s f → Seated n xs → held ≡ held_bits n xs → taken ≡ (2 ^ s.size - 1) * 2 ^ f
    → held + taken ≡ held_bits n (set xs f (Some s))
taken_bits n xs s f held taken p h is et =
    let j : ℕ = p.level in
    let q : ℕ = p.index in
    ap (λ x. x + taken) is
    ∙ ap (λ x. held_bits n xs + x) (et ∙ ap (λ m. (2 ^ m - 1) * 2 ^ f) p.size_is ∙ ap (λ x. (2 ^ 2 ^ j - 1) * 2 ^ x) p.first)
    ∙ sym (filled_bits n j q xs s (omega (arith, h.long)) p.low p.size_is h.sound p.free p.least)
    ∙ ap (λ x. held_bits n (set xs x (Some s))) (sym (p.first ∙ firsts j q))

-- the session at rank f, whose set is of level j, ends
pub freed_bits : (n f j : ℕ) (xs : Ranks) → 2 ^ n ≤ length xs → size_at xs f ≡ 2 ^ j → Sound n (size_at xs)
    → held_bits n xs ≡ held_bits n (set xs f None) + (2 ^ 2 ^ j - 1) * 2 ^ f
freed_bits n f j xs len size sound =
    let t = session_at n xs f j sound size in
    let a : ℕ = up j f in
    let free = gone_free n f j a xs len t.0 t.1 t.2 sound in
    set_bits n j a (set xs f None) xs (within n (size_at (set xs f None)) j a free) free
    (λ r u e. u.1 f (up_held (size_at xs) f j a r t.0 t.1 e))
    (λ r e u. freed_to n f j a xs len t.0 t.1 t.2 sound r u e)
    (freed_from n f j a xs len t.0 t.1 t.2 sound)
    ∙ ap (λ x. held_bits n (set xs f None) + (2 ^ 2 ^ j - 1) * 2 ^ x) (firsts j a ∙ sym t.0)

pub freed_held : (n : ℕ) (xs : Ranks) (f j held freed : ℕ) → Seated n xs → held ≡ held_bits n xs → size_at xs f ≡ 2 ^ j → freed ≡ (2 ^ 2 ^ j - 1) * 2 ^ f
    → held ≡ held_bits n (set xs f None) + freed
freed_held n xs f j held freed h is size e = is ∙ freed_bits n f j xs (omega (arith, h.long)) size h.sound ∙ ap (λ x. held_bits n (set xs f None) + x) (sym e)

pub gone_seated : (n : ℕ) (xs : Ranks) (f j : ℕ) → Seated n xs → size_at xs f ≡ 2 ^ j → Seated n (set xs f None)
gone_seated n xs f j h size =
    let t = session_at n xs f j h.sound size in
    record { long = length-set xs f None ∙ h.long; sound = gone_sound n f j (up j f) xs (omega (arith, h.long)) t.0 t.1 t.2 h.sound }

-- The sets p and q of level s are exchanged, of which p was free: the bits of q move to p.
module _ (n s p q : ℕ) (xs ys : Ranks) (hp : dbl s p + dbl s 1 ≤ 2 ^ n) (hq : dbl s q + dbl s 1 ≤ 2 ^ n) (apart : p ≡ q → ⊥)
    (free : Free (FreeIn n xs) s p) (to : (r : ℕ) → FreeIn n ys r → FreeIn n xs (sw p q s r)) (from : (r : ℕ) → FreeIn n xs (sw p q s r) → FreeIn n ys r) where
  -- as after the exchange in p, and as before it elsewhere
  mid : ℕ → Bool
  mid r = cond (eqb (up s r) p) (held_at n ys r) (held_at n xs r)

  mid_in : (r : ℕ) → up s r ≡ p → mid r ≡ held_at n ys r
  unfolding mid
  mid_in r e = cond-true (eqb (up s r) p) (held_at n ys r) (held_at n xs r) (eq-eqb (up s r) p e)

  mid_out : (r : ℕ) → (up s r ≡ p → ⊥) → mid r ≡ held_at n xs r
  unfolding mid
  mid_out r e = cond-false (eqb (up s r) p) (held_at n ys r) (held_at n xs r) (ne_eqb (up s r) p e)

  moved : (r : ℕ) → held_at n ys r ≡ held_at n xs (sw p q s r)
  moved r = same_at n ys xs r (sw p q s r) (to r) (from r)

  bits_q : ℕ
  bits_q = bits_of (λ k. held_at n xs (dbl s q + k)) (dbl s 1)

  first_change : bits_of mid (2 ^ n) ≡ bits_of (held_at n xs) (2 ^ n) + bits_q * 2 ^ dbl s p
  unfolding bits_q
  first_change =
      let f : ℕ = dbl s p in
      let m : ℕ = dbl s 1 in
      let change = bits_change (held_at n xs) mid (2 ^ n) f m hp (λ r u out. sym (mid_out r (λ e. outside s p r e out))) in
      let none = bits_none (λ k. held_at n xs (f + k)) m (λ k u. free_at n xs (f + k) (all_free (FreeIn n xs) s p free (f + k) (omega arith) (omega arith))) in
      let some = bits_same (λ k. mid (f + k)) (λ k. held_at n xs (dbl s q + k)) m
      (λ k u. mid_in (f + k) (in_set s p (f + k) (omega arith) (omega arith)) ∙ moved (f + k) ∙ ap (held_at n xs) (sw_place p q p q s k (tr_left p q) u)) in
      omega (arith, change, ap (λ x. x * 2 ^ f) none, ap (λ x. x * 2 ^ f) some)

  second_change : bits_of (held_at n ys) (2 ^ n) + bits_q * 2 ^ dbl s q ≡ bits_of mid (2 ^ n)
  unfolding bits_q
  second_change =
      let g : ℕ = dbl s q in
      let m : ℕ = dbl s 1 in
      let change = bits_change mid (held_at n ys) (2 ^ n) g m hq
      (λ r u out. elim (cases_eq (up s r) p) [
        | inl e ↦ mid_in r e
        | inr e ↦ mid_out r e ∙ sym (moved r ∙ ap (held_at n xs) (sw_fix p q s r e (λ z. outside s q r z out)))
      ]) in
      let none = bits_none (λ k. held_at n ys (g + k)) m
      (λ k u. moved (g + k) ∙ ap (held_at n xs) (sw_place p q q p s k (tr_right p q) u) ∙ free_at n xs (dbl s p + k) (all_free (FreeIn n xs) s p free (dbl s p + k) (omega arith) (omega arith))) in
      let some = bits_same (λ k. mid (g + k)) (λ k. held_at n xs (g + k)) m
      (λ k u. mid_out (g + k) (λ e. apart (sym e ∙ in_set s q (g + k) (omega arith) (omega arith)))) in
      omega (arith, change, ap (λ x. x * 2 ^ g) none, ap (λ x. x * 2 ^ g) some)

  pub exchange_bits : held_bits n ys + part (held_bits n xs) (q * 2 ^ s) (2 ^ s) * 2 ^ (q * 2 ^ s) ≡ held_bits n xs + part (held_bits n xs) (q * 2 ^ s) (2 ^ s) * 2 ^ (p * 2 ^ s)
  unfolding held_bits bits_q
  exchange_bits =
      let held : ℕ = bits_of (held_at n xs) (2 ^ n) in
      let y : part held (q * 2 ^ s) (2 ^ s) ≡ bits_q =
      ap (λ x. part held x (2 ^ s)) (firsts s q) ∙ ap (part held (dbl s q)) (sizes s) ∙ part_bits (held_at n xs) (2 ^ n) (dbl s q) (dbl s 1) hq in
      let at : (a : ℕ) → part held (q * 2 ^ s) (2 ^ s) * 2 ^ (a * 2 ^ s) ≡ bits_q * 2 ^ dbl s a = λ a. ap (λ x. x * 2 ^ (a * 2 ^ s)) y ∙ ap (λ x. bits_q * 2 ^ x) (firsts s a) in
      omega (arith, first_change, second_change, at p, at q)

-- what the code's test of a set answers
pub free_is : (n held i q f m : ℕ) → q * 2 ^ i + 2 ^ i ≤ 2 ^ n → f ≡ q * 2 ^ i → m ≡ 2 ^ i → eqb (part held f m) 0 ≡ free_bits n held i q
unfolding free_bits
free_is n held i q f m w e z =
    ap (λ x. eqb (part held x m) 0) e ∙ ap (λ x. eqb (part held (q * 2 ^ i) x) 0) z
    ∙ ap (λ b. b && eqb (part held (q * 2 ^ i) (2 ^ i)) 0) (sym (le-leb (q * 2 ^ i + 2 ^ i) (2 ^ n) w))

-- a free rank beside a set: one of its brother, or one of its own
pub beside_brother : (n : ℕ) (xs : Ranks) (s o q : ℕ) → Free (FreeIn n xs) s o → q ≡ brother o → Beside n xs s q
beside_brother n xs s o q h e =
    (dbl s o, free_first (FreeIn n xs) s o h, up_half s (dbl s o) ∙ ap (λ x. x / 2) (up_dbl s o) ∙ sym (ap (λ x. x / 2) e ∙ brother_near o))

pub beside_rank : (n : ℕ) (xs : Ranks) (s r q : ℕ) → FreeIn n xs r → q ≡ r / 2 ^ s → Beside n xs s q
beside_rank n xs s r q h e = (r, h, up_half s r ∙ ap (λ x. x / 2) (sym (e ∙ around s r)))

-- The exchange of a free set with one that has a free rank beside it, in a sound book.
module _ (n s p q : ℕ) (xs : Ranks) (len : 2 ^ n ≤ length xs) (sound : Sound n (size_at xs)) (free : Free (FreeIn n xs) s p)
    (within-q : q * 2 ^ s + 2 ^ s ≤ 2 ^ n) (beside : Beside n xs s q) (apart : p ≡ q → ⊥) where
  exchange_low : s ≤ n
  exchange_low = level_in n xs s p free

  swapped : Swapped (dbl s p) (dbl s q) (dbl s 1) xs (exchanged_sets xs s p q)
  swapped = sets_swapped n xs s p q len (within n (size_at xs) s p free) (inside_dbl n s q within-q) apart

  below_q : q < dbl (n - s) 1
  below_q = omega (arith, index_below n s q exchange_low (inside_dbl n s q within-q), size_pow (n - s))

  pub exchange_held : held_bits n (exchanged_sets xs s p q) + part (held_bits n xs) (q * 2 ^ s) (2 ^ s) * 2 ^ (q * 2 ^ s)
      ≡ held_bits n xs + part (held_bits n xs) (q * 2 ^ s) (2 ^ s) * 2 ^ (p * 2 ^ s)
  exchange_held =
      let a = free_first (FreeIn n xs) s p free in
      let at = up_half s (dbl s p) ∙ ap (λ x. x / 2) (up_dbl s p) in
      let ys : Ranks = exchanged_sets xs s p q in
      exchange_bits n s p q xs ys (within n (size_at xs) s p free) (inside_dbl n s q within-q) apart free
      (exchange_to n (n - s) s p q xs ys (omega (arith, exchange_low)) (index_in n xs s p free) below_q sound swapped (dbl s p) beside.0 a at beside.1 beside.2)
      (exchange_from n (n - s) s p q xs ys (omega (arith, exchange_low)) (index_in n xs s p free) below_q sound swapped (dbl s p) beside.0 a at beside.1 beside.2)

  pub exchange_keeps : Sound n (size_at (exchanged_sets xs s p q))
  exchange_keeps =
      exchange_sound n (n - s) s p q xs (exchanged_sets xs s p q) (omega (arith, exchange_low)) (index_in n xs s p free) below_q sound swapped (dbl s p) beside.0
      (free_first (FreeIn n xs) s p free) (up_half s (dbl s p) ∙ ap (λ x. x / 2) (up_dbl s p)) beside.1 beside.2

  pub exchange_seated : length xs ≡ 2 ^ n → Seated n (exchanged_sets xs s p q)
  exchange_seated long = record { long = swapped.len ∙ long; sound = exchange_keeps }

  -- the same as the code computes it, in numbers of 64 bits
  module _ (top : n ≤ 6) (held f g m y : ℕ) (is : held ≡ held_bits n xs) (ef : f ≡ p * 2 ^ s) (eg : g ≡ q * 2 ^ s) (em : m ≡ 2 ^ s) (ey : y ≡ part held g m) where
    whole_shift : (a x : ℕ) → x ≡ a * 2 ^ s → a * 2 ^ s + 2 ^ s ≤ 2 ^ n → (y * 2 ^ x) % 2 ^ 64 ≡ y * 2 ^ x
    whole_shift a x e l = shl_exact m x 64 (omega (arith, ey, mod-lt (held / 2 ^ g) (pow_pos m))) (omega (arith, table_small n top))

    shift_g : (y * 2 ^ g) % 2 ^ 64 ≡ y * 2 ^ g
    shift_g = whole_shift q g eg within-q

    shift_f : (y * 2 ^ f) % 2 ^ 64 ≡ y * 2 ^ f
    shift_f = whole_shift p f ef (free_inside n xs s p free)

    pub moved_part : (y * 2 ^ g) % 2 ^ 64 ≤ held
    moved_part = omega (arith, shift_g, ap (λ x. x * 2 ^ g) ey, mul-le (part held g m) (2 ^ g) (held / 2 ^ g) (2 ^ g) (mod-le (held / 2 ^ g) (2 ^ m)) (omega arith), div-mul-le_self held (2 ^ g))

    pub moved_is : held - (y * 2 ^ g) % 2 ^ 64 + (y * 2 ^ f) % 2 ^ 64 ≡ held_bits n (exchanged_sets xs s p q)
    moved_is =
        let moved : ℕ = part (held_bits n xs) (q * 2 ^ s) (2 ^ s) in
        let e : y ≡ moved = ey ∙ ap (λ h. part h g m) is ∙ ap (λ x. part (held_bits n xs) x m) eg ∙ ap (part (held_bits n xs) (q * 2 ^ s)) em in
        let at_g : y * 2 ^ g ≡ moved * 2 ^ (q * 2 ^ s) = ap (λ x. x * 2 ^ g) e ∙ ap (λ x. moved * 2 ^ x) eg in
        let at_f : y * 2 ^ f ≡ moved * 2 ^ (p * 2 ^ s) = ap (λ x. x * 2 ^ f) e ∙ ap (λ x. moved * 2 ^ x) ef in
        omega (arith, moved_part, shift_g, shift_f, at_g, at_f, is, exchange_held)

-- the climb by the book's free sets
climb_is : (n : ℕ) (xs : Ranks) (i q k : ℕ) → climb n xs i q k ≡ climb_by (is_free n xs) i q k
climb_is n xs i q zero = refl
climb_is n xs i q (suc k) = ap (λ w. cond (is_free n xs (suc i) (q / 2)) w (i, q)) (climb_is n xs (suc i) (q / 2) k)

-- what the code finds by the bits is what the book has
module _ (n : ℕ) (xs : Ranks) (held : ℕ) (is : held ≡ held_bits n xs) where
  pub other_is : (i p : ℕ) (o : Option ℕ) → o ≡ other_by n (free_bits n held) i p → o ≡ other_whole n xs i p
  other_is i p o e = e ∙ ap (λ free. other_by n free i p) (bits_free n xs held is)

  pub loose_is : (i : ℕ) (o : Option ℕ) → o ≡ loose_by n (free_bits n held) i → o ≡ loose_rank n xs i
  loose_is i o e = e ∙ ap (λ free. loose_by n free i) (bits_free n xs held is)

  pub around_is : (i q : ℕ) (w : ℕ × ℕ) → w ≡ around_by n (free_bits n held) i q → w ≡ whole_around n xs i q
  around_is i q w e = e ∙ ap (λ free. around_by n free i q) (bits_free n xs held is) ∙ sym (climb_is n xs i q (n - i))

  pub lowest_is : (size : ℕ) (o : Option ℕ) → o ≡ lowest_first_by n (free_bits n held) size → o ≡ lowest_first n xs size
  unfolding lowest_first
  lowest_is size o e = e ∙ ap (λ free. lowest_first_by n free size) (bits_free n xs held is)

  pub free_ranks_is : (k : ℕ) → k ≡ count (free_bits n held 0) (2 ^ n) → k ≡ free_ranks n xs
  unfolding free_ranks
  free_ranks_is k e = e ∙ ap (λ free. count (free 0) (2 ^ n)) (bits_free n xs held is)

  -- the set where the code puts a session
  pub put_on : (s : Session) (i : ℕ) (set : Option RankSet) → fits n s ≡ true → is_some (place_of s.number xs) ≡ false → Some i ≡ level_for n s.size
      → Found i (lowest_by n (free_bits n held) i) set → PutOn s (place_for n xs s) set
  put_on s i None a b l h = sym (lowest_is s.size None (first_none (free_bits n held) n s.size i l (sym h)) ∙ place_is n xs s a b)
  put_on s i (Some t) a b l h =
      let z : t.index * 2 ^ t.level ≡ t.index * 2 ^ i = ap (λ k. t.index * 2 ^ k) h.0 in (
        (level_found n s.size i l).1 ∙ ap (λ k. 2 ^ k) (sym h.0),
        sym (lowest_is s.size (Some (t.index * 2 ^ t.level)) (first_is (free_bits n held) n s.size i t.index (t.index * 2 ^ t.level) l (sym h.1) z) ∙ place_is n xs s a b),
      )

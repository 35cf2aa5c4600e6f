-- What joining and ordering keep, and that they end in order.
use Rattle.std.proofs.Common.{◌≡◌, ℕ, zero, suc, ◌+◌, ◌-◌, ◌*◌, ◌/◌, ◌%◌, ◌^◌, ◌<◌, ◌≤◌, cond, eqb, ltb, length, set, Some, None, sym, refl, ap, ◌∙◌, subst, inl, inr, arith, length-set}
use Rattle.std.specs.List.Sorted.{IsPermutation}
use Rattle.std.proofs.lemmas.List.Sorted.{IsPermutation-refl, IsPermutation-trans, length_permutation}
use Rattle.std.proofs.lemmas.Bool.{cases_eq, cond_both, ltb-true, ltb-false}
use Rattle.std.proofs.lemmas.Bool.Decides.{nat_tests}
use Rattle.book.specs.Levels.{up, dbl, Free, Whole, Differ, Others, GrowFrom, FreeIn}
use Rattle.book.specs.Sound.{Sound, Ordered}
use Rattle.book.specs.Standing.{Seated, Standing}
use Rattle.book.proofs.Views.{Swapped}
use Rattle.book.specs.Entries.{size_at, Ranks}
use Rattle.book.specs.Moves.{brother, whole_around, other_whole, exchanged, exchanged_sets, joining, joined, loose_rank, ordered_at, ordering, ordered, released_set}
use Rattle.book.specs.Searches.{when_some}
use Rattle.book.proofs.Found.{when_some_by}
use Rattle.book.proofs.Places.{within, dbl_pos, table, grow_ordered}
use Rattle.book.proofs.Freeing.{others_differ, order_top, order_end}
use Rattle.book.proofs.Steps.{in_table, sets_apart, rank_in, dbl_grows, session_at, gone_sound, gone_free, gone_others, join_low, join_in, join_apart, joined_sound, joined_free, joined_again, ordered_sound, ordered_differ, ordered_from, skip_none, skip_loose, skip_left}
use Rattle.book.proofs.Decided.{firsts, sizes, around, exchanged_swapped, exchanged_shuffled, climb_whole, other_whole_cases, loose_rank_cases, other_found}

pub brother_near : (o : ℕ) → brother o / 2 ≡ o / 2
brother_near o = cond_both (eqb (o % 2) 0) (o + 1) (o - 1) (λ x. x / 2 ≡ o / 2) (λ e. grind (arith, nat_tests)) (λ e. grind (arith, nat_tests))

pub brother_other : (o : ℕ) → brother o ≡ o → ⊥
brother_other o = cond_both (eqb (o % 2) 0) (o + 1) (o - 1) (λ x. x ≡ o → ⊥) (λ e h. omega arith) (λ e h. grind (arith, nat_tests))

sets_are : (xs : Ranks) (s p q : ℕ) → exchanged xs (dbl s p) (dbl s q) (dbl s 1) ≡ exchanged_sets xs s p q
sets_are xs s p q =
    sym (ap (λ x. exchanged xs x (q * 2 ^ s) (2 ^ s)) (firsts s p) ∙ ap (λ x. exchanged xs (dbl s p) x (2 ^ s)) (firsts s q) ∙ ap (exchanged xs (dbl s p) (dbl s q)) (sizes s))

pub sets_swapped : (n : ℕ) (xs : Ranks) (s p q : ℕ) → 2 ^ n ≤ length xs → dbl s p + dbl s 1 ≤ 2 ^ n → dbl s q + dbl s 1 ≤ 2 ^ n → (p ≡ q → ⊥)
    → Swapped (dbl s p) (dbl s q) (dbl s 1) xs (exchanged_sets xs s p q)
sets_swapped n xs s p q len hp hq ne =
    subst (Swapped (dbl s p) (dbl s q) (dbl s 1) xs) (sets_are xs s p q) (exchanged_swapped xs (dbl s p) (dbl s q) (dbl s 1) (sets_apart s p q ne) (omega arith) (omega arith))

pub sets_shuffled : (n : ℕ) (xs : Ranks) (s p q : ℕ) → 2 ^ n ≤ length xs → dbl s p + dbl s 1 ≤ 2 ^ n → dbl s q + dbl s 1 ≤ 2 ^ n → (p ≡ q → ⊥)
    → IsPermutation xs (exchanged_sets xs s p q)
sets_shuffled n xs s p q len hp hq ne =
    subst (IsPermutation xs) (sets_are xs s p q) (exchanged_shuffled xs (dbl s p) (dbl s q) (dbl s 1) (sets_apart s p q ne) (omega arith) (omega arith))

-- One step of joining
pub record Stepped (n : ℕ) (xs : Ranks) (i p o : ℕ) (ys : Ranks) (w : ℕ × ℕ) : Type 0 where
  pub low : i < n
  pub inside : dbl i (brother o) + dbl i 1 ≤ 2 ^ n
  pub apart : p ≡ brother o → ⊥
  pub free : Free (FreeIn n ys) (suc i) (o / 2)
  pub sound : Sound n (size_at ys)
  pub whole : Whole (FreeIn n ys) w.0 w.1
  pub others : Others (FreeIn n ys) w.0 w.1
  pub larger : suc i ≤ w.0
  pub kept : IsPermutation xs ys

pub join_step : (n : ℕ) (xs : Ranks) (i p o : ℕ) → 2 ^ n ≤ length xs → Sound n (size_at xs) → Whole (FreeIn n xs) i p → Others (FreeIn n xs) i p
    → Whole (FreeIn n xs) i o → (o ≡ p → ⊥)
    → Stepped n xs i p o (exchanged_sets xs i p (brother o)) (whole_around n (exchanged_sets xs i p (brother o)) (suc i) (o / 2))
join_step n xs i p o len sound start others other ne =
    let q : ℕ = brother o in
    let ys : Ranks = exchanged_sets xs i p q in
    let near = brother_near o in
    let bro = brother_other o in
    let low = join_low n i p o q xs start other ne near bro in
    let inside = in_table n i q (omega (arith, low)) (join_in n i p o q xs start other ne near bro) in
    let apart = join_apart n i p o q xs start other ne near bro in
    let sw = sets_swapped n xs i p q len (within n (size_at xs) i p start.0) inside apart in
    let free = joined_free n i p o q xs start other ne near bro ys sound sw in
    let w : ℕ × ℕ = whole_around n ys (suc i) (o / 2) in
    let c = climb_whole n ys (suc i) (o / 2) (n - suc i) (omega (arith, low)) free in
    let z : w.0 - suc i ≡ w.0 - (i + 1) = omega arith in
    record {
      low = low;
      inside = inside;
      apart = apart;
      free = free;
      sound = joined_sound n i p o q xs start other ne near bro ys sound sw;
      whole = c.0;
      others = joined_again n i p o q xs start other ne near bro ys sound sw others w.0 w.1 (omega (arith, c.1)) (c.2 ∙ ap (λ x. up x (o / 2)) z) c.0;
      larger = c.1;
      kept = sets_shuffled n xs i p q len (within n (size_at xs) i p start.0) inside apart;
    }

pub joining_keeps : (n : ℕ) (xs : Ranks) (i p k : ℕ) → 2 ^ n ≤ length xs → n ≤ k + i
    → Sound n (size_at xs) → Whole (FreeIn n xs) i p → Others (FreeIn n xs) i p
    → Sound n (size_at (joining n xs i p k)) × Differ (FreeIn n (joining n xs i p k)) × IsPermutation xs (joining n xs i p k)
joining_keeps n xs i p zero len e sound start others = (
  sound,
  others_differ (FreeIn n xs) i p others (λ o h. elim (cases_eq o p) [
    | inl z ↦ z
    | inr z ↦ absurd (omega (arith, join_low n i p o (brother o) xs start h z (brother_near o) (brother_other o)))
  ]),
  IsPermutation-refl xs,
)
joining_keeps n xs i p (suc k) len e sound start others =
    when_some_by (other_whole n xs i p) xs
    (λ o. joining n (exchanged_sets xs i p (brother o)) (whole_around n (exchanged_sets xs i p (brother o)) (suc i) (o / 2)).0 (whole_around n (exchanged_sets xs i p (brother o)) (suc i) (o / 2)).1 k)
    (λ ys. Sound n (size_at ys) × Differ (FreeIn n ys) × IsPermutation xs ys)
    (other_whole_cases n xs i p)
    (λ none. (sound, others_differ (FreeIn n xs) i p others none, IsPermutation-refl xs))
    (λ o t.
    let m = join_step n xs i p o len sound start others t.0 t.1 in
    let ys : Ranks = exchanged_sets xs i p (brother o) in
    let w : ℕ × ℕ = whole_around n ys (suc i) (o / 2) in
    let r = joining_keeps n ys w.0 w.1 k (omega (arith, length_permutation xs ys m.kept)) (omega (arith, m.larger)) m.sound m.whole m.others in
    (r.0, r.1, IsPermutation-trans xs ys (joining n ys w.0 w.1 k) m.kept r.2))

-- The state of a loop that joins: what is left to do, in k steps at most, ends at zs.
abbrev pub Joins : ℕ → Ranks → Ranks → ℕ × ℕ → Type 0
Joins n zs xs w = Whole (FreeIn n xs) w.0 w.1 × Others (FreeIn n xs) w.0 w.1
    × ((k : ℕ) × (n ≤ k + w.0) × (zs ≡ joining n xs w.0 w.1 k))

-- and the sessions hold disjoint sets
abbrev pub Joining : ℕ → Ranks → Ranks → ℕ × ℕ → Type 0
Joining n zs xs w = Sound n (size_at xs) × Joins n zs xs w

-- its step, as the code takes it
module _ (n : ℕ) (zs xs : Ranks) (i p o : ℕ) (len : 2 ^ n ≤ length xs) (h : Joining n zs xs (i, p)) (found : Some o ≡ other_whole n xs i p) where
  abbrev Y : Ranks
  Y = exchanged_sets xs i p (brother o)

  abbrev W : ℕ × ℕ
  W = whole_around n Y (suc i) (o / 2)

  one : suc i ≡ i + 1
  one = omega arith

  pub joining_step : Stepped n xs i p o (exchanged_sets xs i p (brother o)) (whole_around n (exchanged_sets xs i p (brother o)) (suc i) (o / 2))
  joining_step = let t = other_found n xs i p o found in join_step n xs i p o len h.0 h.1.0 h.1.1 t.0 t.1

  left : (k : ℕ) → n ≤ k + i → zs ≡ joining n xs i p k → (k : ℕ) × (n ≤ k + W.0) × (zs ≡ joining n Y W.0 W.1 k)
  left zero l e = absurd (omega (arith, joining_step.low))
  left (suc k) l e = (
    k,
    omega (arith, joining_step.larger),
    e ∙ ap (λ r. when_some r xs (λ o. joining n (exchanged_sets xs i p (brother o))
        (whole_around n (exchanged_sets xs i p (brother o)) (suc i) (o / 2)).0 (whole_around n (exchanged_sets xs i p (brother o)) (suc i) (o / 2)).1 k)) (sym found),
  )

  module _ (q : ℕ) (ys : Ranks) (bro : q ≡ brother o) (moved : ys ≡ exchanged_sets xs i p q) where
    module _ (w : ℕ × ℕ) (climbed : w ≡ whole_around n ys (i + 1) (o / 2)) where
      climbed_from : w ≡ W
      climbed_from = climbed ∙ ap (λ y. whole_around n y (i + 1) (o / 2)) (moved ∙ ap (exchanged_sets xs i p) bro) ∙ ap (λ x. whole_around n Y x (o / 2)) (sym one)

      pub joining_more : i < w.0
      joining_more = omega (arith, joining_step.larger, ap (λ (x : ℕ × ℕ). x.0) climbed_from)

      pub joining_again : Joining n zs ys w
      joining_again =
          subst (Joining n zs ys) (sym climbed_from)
          (subst (λ y. Joining n zs y W) (sym (moved ∙ ap (exchanged_sets xs i p) bro))
          (joining_step.sound, (joining_step.whole, joining_step.others, left h.1.2.0 h.1.2.1 h.1.2.2)))

pub joining_done : (n : ℕ) (zs xs : Ranks) (i p : ℕ) → Joining n zs xs (i, p) → None ≡ other_whole n xs i p → xs ≡ zs
joining_done n zs xs i p h none = left h.1.2.0 h.1.2.2
  where
    left : (k : ℕ) → zs ≡ joining n xs i p k → xs ≡ zs
    left zero e = sym e
    left (suc k) e = sym (e ∙ ap (λ r. when_some r xs (λ o. joining n (exchanged_sets xs i p (brother o))
        (whole_around n (exchanged_sets xs i p (brother o)) (suc i) (o / 2)).0 (whole_around n (exchanged_sets xs i p (brother o)) (suc i) (o / 2)).1 k)) (sym none))

-- the same of the book's entries
module _ (n : ℕ) (zs xs : Ranks) (i p o : ℕ) (seated : Seated n xs) (joins : Joins n zs xs (i, p)) (found : other_whole n xs i p ≡ Some o) where
  pub turn : Stepped n xs i p o (exchanged_sets xs i p (brother o)) (whole_around n (exchanged_sets xs i p (brother o)) (suc i) (o / 2))
  turn = joining_step n zs xs i p o (omega (arith, seated.long)) (seated.sound, joins) (sym found)

  pub turned : (q : ℕ) (ys : Ranks) (w : ℕ × ℕ) → q ≡ brother o → ys ≡ exchanged_sets xs i p q → w ≡ whole_around n ys (i + 1) (o / 2) → (i < w.0) × Joins n zs ys w
  turned q ys w bro moved climbed = (
    joining_more n zs xs i p o (omega (arith, seated.long)) (seated.sound, joins) (sym found) q ys bro moved w climbed,
    (joining_again n zs xs i p o (omega (arith, seated.long)) (seated.sound, joins) (sym found) q ys bro moved w climbed).1,
  )

pub ordered_at_keeps : (n : ℕ) (xs : Ranks) (i : ℕ) → 2 ^ n ≤ length xs → i ≤ n
    → Sound n (size_at xs) → Differ (FreeIn n xs) → GrowFrom (FreeIn n xs) (suc i)
    → Sound n (size_at (ordered_at n xs i)) × Differ (FreeIn n (ordered_at n xs i)) × GrowFrom (FreeIn n (ordered_at n xs i)) i × IsPermutation xs (ordered_at n xs i)
ordered_at_keeps n xs i len low sound differ grow =
    when_some_by (other_whole n xs i (2 ^ n)) xs
    (λ p. when_some (loose_rank n xs i) xs (λ r. cond (ltb p (r / 2 ^ i)) (exchanged_sets xs i p (r / 2 ^ i)) xs))
    P (other_whole_cases n xs i (2 ^ n))
    (λ none. (
      sound,
      differ,
      skip_none n i xs differ grow (λ p h. omega (arith, none p h, within n (size_at xs) i p h.0, dbl_grows i p, dbl_pos i)),
      IsPermutation-refl xs,
    ))
    (λ p t. when_some_by (loose_rank n xs i) xs (λ r. cond (ltb p (r / 2 ^ i)) (exchanged_sets xs i p (r / 2 ^ i)) xs) P (loose_rank_cases n xs i)
    (λ none. (sound, differ, skip_loose n i xs differ grow (λ a u v. none a (u, v)), IsPermutation-refl xs))
    (λ r h. subst (λ x. P (cond (ltb p x) (exchanged_sets xs i p x) xs)) (sym (around i r)) (cond_both (ltb p (up i r)) (exchanged_sets xs i p (up i r)) xs P
    (λ e.
    let l = ltb-true p (up i r) e in
    let ys : Ranks = exchanged_sets xs i p (up i r) in
    let hp = within n (size_at xs) i p t.0.0 in
    let hq = rank_in n i r (up i r) low h.0.0.0 refl in
    let sw = sets_swapped n xs i p (up i r) len hp hq (λ z. omega arith) in (
      ordered_sound n i p r xs t.0 h.0.0 h.0.1 ys sound sw,
      ordered_differ n i p r xs t.0 h.0.0 h.0.1 ys sound sw differ,
      ordered_from n i p r xs t.0 h.0.0 h.0.1 ys sound sw differ l (λ a u v. h.1 a (u, v)) grow,
      sets_shuffled n xs i p (up i r) len hp hq (λ z. omega arith),
    ))
    (λ e. (sound, differ, skip_left n i xs differ grow p r t.0 (λ a u v. h.1 a (u, v)) (ltb-false p (up i r) e), IsPermutation-refl xs)))))
  where
    P : Ranks → Type 0
    P ys = Sound n (size_at ys) × Differ (FreeIn n ys) × GrowFrom (FreeIn n ys) i × IsPermutation xs ys

pub ordering_keeps : (n : ℕ) (xs : Ranks) (k : ℕ) → 2 ^ n ≤ length xs → k ≤ suc n
    → Sound n (size_at xs) → Differ (FreeIn n xs) → GrowFrom (FreeIn n xs) k
    → Sound n (size_at (ordering n xs k)) × Ordered n (size_at (ordering n xs k)) × IsPermutation xs (ordering n xs k)
ordering_keeps n xs zero len l sound differ grow = (sound, grow_ordered n (size_at xs) (order_end (FreeIn n xs) grow), IsPermutation-refl xs)
ordering_keeps n xs (suc k) len l sound differ grow =
    let t = ordered_at_keeps n xs k len (omega arith) sound differ grow in
    let r = ordering_keeps n (ordered_at n xs k) k (omega (arith, length_permutation xs (ordered_at n xs k) t.3)) (omega arith) t.0 t.1 t.2 in
    (r.0, r.1, IsPermutation-trans xs (ordered_at n xs k) (ordering n (ordered_at n xs k) k) t.3 r.2)

-- The start of a release
pub record Started (n : ℕ) (ys : Ranks) (j a : ℕ) (w : ℕ × ℕ) : Type 0 where
  pub low : j ≤ n
  pub sound : Sound n (size_at ys)
  pub free : Free (FreeIn n ys) j a
  pub whole : Whole (FreeIn n ys) w.0 w.1
  pub others : Others (FreeIn n ys) w.0 w.1

pub release_start : (n : ℕ) (xs : Ranks) (j f : ℕ) → 2 ^ n ≤ length xs → size_at xs f ≡ 2 ^ j → Sound n (size_at xs) → Ordered n (size_at xs)
    → Started n (set xs f None) j (f / 2 ^ j) (whole_around n (set xs f None) j (f / 2 ^ j))
release_start n xs j f len held sound ord =
    subst (λ x. Started n (set xs f None) j x (whole_around n (set xs f None) j x)) (sym (around j f)) (
    let ys : Ranks = set xs f None in
    let a : ℕ = up j f in
    let t = session_at n xs f j sound held in
    let free = gone_free n f j a xs len t.0 t.1 t.2 sound in
    let c = climb_whole n ys j a (n - j) (omega (arith, t.3)) free in
    let w : ℕ × ℕ = whole_around n ys j a in
    record {
      low = t.3;
      sound = gone_sound n f j a xs len t.0 t.1 t.2 sound;
      free = free;
      whole = c.0;
      others = subst (Others (FreeIn n ys) w.0) (sym c.2)
          (gone_others n f j a xs len t.0 t.1 t.2 sound ord (w.0 - j) w.0 (omega (arith, c.1)) (subst (Whole (FreeIn n ys) w.0) c.2 c.0));
    })

-- a session's set begins at its rank
pub set_first : (n : ℕ) (xs : Ranks) (f j : ℕ) → Sound n (size_at xs) → size_at xs f ≡ 2 ^ j → f / 2 ^ j * 2 ^ j ≡ f
set_first n xs f j sound size = let t = session_at n xs f j sound size in ap (λ x. x * 2 ^ j) (around j f) ∙ firsts j (up j f) ∙ sym t.0

module _ (n : ℕ) (xs : Ranks) (j f : ℕ) (ys : Ranks) (w : ℕ × ℕ) (gone : ys ≡ set xs f None) (climbed : w ≡ whole_around n ys j (f / 2 ^ j)) where
  climbed_gone : w ≡ whole_around n (set xs f None) j (f / 2 ^ j)
  climbed_gone = climbed ∙ ap (λ y. whole_around n y j (f / 2 ^ j)) gone

  pub released_from : Standing n xs → size_at xs f ≡ 2 ^ j → Whole (FreeIn n ys) w.0 w.1 × Others (FreeIn n ys) w.0 w.1
  released_from h size =
      let t = release_start n xs j f (omega (arith, h.long)) size h.sound h.ordered in
      subst (λ y. Whole (FreeIn n y) w.0 w.1 × Others (FreeIn n y) w.0 w.1) (sym gone)
      (subst (λ (x : ℕ × ℕ). Whole (FreeIn n (set xs f None)) x.0 x.1 × Others (FreeIn n (set xs f None)) x.0 x.1) (sym climbed_gone) (t.whole, t.others))

  pub released_to : (zs us : Ranks) → zs ≡ joined n ys w.0 w.1 → us ≡ ordered n zs → us ≡ released_set n xs j f
  released_to zs us e d =
      d ∙ ap (ordered n) (e ∙ ap (λ y. joined n y w.0 w.1) gone ∙ ap (λ (x : ℕ × ℕ). joined n (set xs f None) x.0 x.1) climbed_gone)

pub released_set_keeps : (n : ℕ) (xs : Ranks) (j f : ℕ) → 2 ^ n ≤ length xs → size_at xs f ≡ 2 ^ j → Sound n (size_at xs) → Ordered n (size_at xs)
    → Sound n (size_at (released_set n xs j f)) × Ordered n (size_at (released_set n xs j f)) × IsPermutation (set xs f None) (released_set n xs j f)
released_set_keeps n xs j f len held sound ord =
    let ys : Ranks = set xs f None in
    let w : ℕ × ℕ = whole_around n ys j (f / 2 ^ j) in
    let t = release_start n xs j f len held sound ord in
    let m = length-set xs f None in
    let g = joining_keeps n ys w.0 w.1 n (omega arith) (omega arith) t.sound t.whole t.others in
    let zs : Ranks = joined n ys w.0 w.1 in
    let o = ordering_keeps n zs (suc n) (omega (arith, m, length_permutation ys zs g.2)) (omega arith) g.0 g.1 (order_top (FreeIn n zs) n (table n (size_at zs))) in
    (o.0, o.1, IsPermutation-trans ys zs (ordered n zs) g.2 o.2)

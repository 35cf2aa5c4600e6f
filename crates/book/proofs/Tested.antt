-- The tests of a book's entries say what every book keeps.
use Rattle.std.proofs.Common.{◌≡◌, ℕ, zero, suc, ◌+◌, ◌*◌, ◌%◌, ◌^◌, ◌<◌, ◌≤◌, Bool, true, false, not, ◌&&◌, ◌||◌, eqb, ltb, leb, ◌⊎◌, [], ◌∷◌, length, get_or, is_some, Some, None, Decides, Option, sym, refl, ap, ◌∙◌, subst, inl, inr, arith, pow_pos, MatchOption}
use lib.Pow.{pow-lt}
use Rattle.std.specs.List.{AllByRecursion}
use Rattle.std.proofs.ByRecursion.{All-get_or, All-from_get_or, Decides-by_and}
use Rattle.std.proofs.lemmas.List.{get_or_past}
use Rattle.std.proofs.lemmas.Bool.{cases_lt, cases_Bool, both_ways, and_parts, and_from, eq-eqb, eqb-true, le-leb, leb-true, not-true, not_from_false, or_cases, cond_both}
use Rattle.std.proofs.lemmas.Bool.Decides.{Decides-and, Decides-ltb, Decides-eqb, Decides-below_and}
use Rattle.table.specs.Slots.{most_weight, lane_count}
use Rattle.book.specs.declared.session.Session.{Session}
use Rattle.book.specs.Searches.{all_below}
use Rattle.book.specs.Entries.{Ranks, size_of, size_at, level_for, fits, is_number, holds}
use Rattle.book.specs.Sets.{is_whole}
use Rattle.book.specs.Slots.{holder_from, carried}
use Rattle.book.specs.Tests.{implies, fits_in, all_fit, is_set, are_sets, holds_rank, are_apart, once, left_smaller, sizes_grow}
use Rattle.book.specs.Sound.{Holds, Set, Sound, Ordered, FreeRank}
use Rattle.book.specs.Levels.{Whole, FreeIn, dbl}
use Rattle.book.specs.Standing.{Fits, Standing}
use Rattle.book.proofs.Found.{first_cases}
use Rattle.book.proofs.Placed.{level_found}
use Rattle.book.proofs.Places.{within, whole_to, whole_from, level_lt, size_pow, ordered_grow, differ_distinct}
use Rattle.book.proofs.Freeing.{grow_differ}
use Rattle.book.proofs.Steps.{level_in, dbl_grows}
use Rattle.book.proofs.Decided.{firsts, is_whole_decides}

decides_implies : {P Q : Type 0} (a b : Bool) → Decides a P → Decides b Q → Decides (implies a b) (P → Q)
decides_implies true b p q = ((λ h x. q.0 h), λ h. q.1 (h (p.0 refl)))
decides_implies false b p q = ((λ h x. absurd (both_ways false refl (p.1 x))), λ h. refl)

decides_all : (test : ℕ → Bool) (P : ℕ → Type 0) → ((i : ℕ) → Decides (test i) (P i)) → (k : ℕ) → Decides (all_below test k) ((i : ℕ) → i < k → P i)
decides_all test P each k = Decides-below_and test P (all_below test) each refl (λ _. refl) k

decides_leb : (a b : ℕ) → Decides (leb a b) (a ≤ b)
decides_leb a b = (leb-true a b, le-leb a b)

-- powers of two
pub pow_same : (i j : ℕ) → 2 ^ i ≡ 2 ^ j → i ≡ j
pow_same i j e =
    elim (cases_lt i j) [
      | inl l ↦ let z : 2 ^ i < 2 ^ j = pow-lt l in absurd (omega arith)
      | inr l ↦ elim (cases_lt j i) [ inl m ↦ let z : 2 ^ j < 2 ^ i = pow-lt m in absurd (omega arith) | inr m ↦ omega arith ]
    ]

pub pow_low : (i n : ℕ) → 2 ^ i ≤ 2 ^ n → i ≤ n
pow_low i n h = elim (cases_lt n i) [ inl l ↦ let z : 2 ^ n < 2 ^ i = pow-lt l in absurd (omega arith) | inr l ↦ l ]

pub level_is : (n m i : ℕ) → i ≤ n → m ≡ 2 ^ i → level_for n m ≡ Some i
level_is n m i l e = go (level_for n m) refl (first_cases (λ i. eqb (2 ^ i) m) 0 (suc n))
  where
    go : (o : Option ℕ) → o ≡ level_for n m
        → MatchOption (level_for n m) ((a : ℕ) → 0 ≤ a → a < 0 + suc n → eqb (2 ^ a) m ≡ true → ⊥)
        (λ a. (eqb (2 ^ a) m ≡ true) × (a < 0 + suc n) × ((b : ℕ) → 0 ≤ b → b < a → eqb (2 ^ b) m ≡ true → ⊥))
        → level_for n m ≡ Some i
    go None d t = absurd (subst (λ o. MatchOption o ((a : ℕ) → 0 ≤ a → a < 0 + suc n → eqb (2 ^ a) m ≡ true → ⊥)
        (λ a. (eqb (2 ^ a) m ≡ true) × (a < 0 + suc n) × ((b : ℕ) → 0 ≤ b → b < a → eqb (2 ^ b) m ≡ true → ⊥))) (sym d) t i (omega arith) (omega arith) (eq-eqb (2 ^ i) m (sym e)))
    go (Some a) d t = let f = level_found n m a d in sym d ∙ ap Some (pow_same a i (sym f.1 ∙ e))

level_some : (n m : ℕ) → is_some (level_for n m) ≡ true → (i : ℕ) × (i ≤ n) × (m ≡ 2 ^ i)
level_some n m h = go (level_for n m) refl
  where
    go : (o : Option ℕ) → o ≡ level_for n m → (i : ℕ) × (i ≤ n) × (m ≡ 2 ^ i)
    go None e = absurd (both_ways (is_some (level_for n m)) (ap is_some (sym e)) h)
    go (Some i) e = let l = level_found n m i e in (i, l.0, l.1)

-- sessions that a book takes
pub fits_decides : (n : ℕ) (s : Session) → Decides (fits n s) (Fits n s)
fits_decides n s = (
  (λ h.
      let p = and_parts (is_some (level_for n s.size)) (leb 1 s.weight && (leb s.weight (most_weight * s.size) && ltb s.lane lane_count)) h in
      let q = and_parts (leb 1 s.weight) (leb s.weight (most_weight * s.size) && ltb s.lane lane_count) p.1 in
      let r = and_parts (leb s.weight (most_weight * s.size)) (ltb s.lane lane_count) q.1 in
      let l = level_some n s.size p.0 in
      record { level = l.0; low = l.1; size_is = l.2; some = leb-true 1 s.weight q.0; most = leb-true s.weight (most_weight * s.size) r.0; lane = (Decides-ltb s.lane lane_count).0 r.1 }),
  λ h.
      and_from (is_some (level_for n s.size)) (leb 1 s.weight && (leb s.weight (most_weight * s.size) && ltb s.lane lane_count)) (ap is_some (level_is n s.size h.level h.low h.size_is))
      (and_from (leb 1 s.weight) (leb s.weight (most_weight * s.size) && ltb s.lane lane_count) (le-leb 1 s.weight h.some)
      (and_from (leb s.weight (most_weight * s.size)) (ltb s.lane lane_count) (le-leb s.weight (most_weight * s.size) h.most) ((Decides-ltb s.lane lane_count).1 h.lane))),
)

pub fit_decides : (n : ℕ) (xs : Ranks) → Decides (all_fit n xs) (AllByRecursion (λ x. fits_in n x ≡ true) xs)
unfolding all_fit
fit_decides n xs = Decides-by_and (fits_in n) (λ x. fits_in n x ≡ true) (all_fit n) (λ x. ((λ h. h), λ h. h)) refl (λ _ _. refl) xs

-- sets of ranks
pub is_set_decides : (n f m : ℕ) → Decides (is_set n f m) (Set n f m)
is_set_decides n f m = (
  (λ h.
      let p = and_parts (is_some (level_for n m)) (eqb (f % m) 0 && leb (f + m) (2 ^ n)) h in
      let q = and_parts (eqb (f % m) 0) (leb (f + m) (2 ^ n)) p.1 in
      ((let l = level_some n m p.0 in (l.0, l.2)), eqb-true (f % m) 0 q.0, leb-true (f + m) (2 ^ n) q.1)),
  λ h.
      let i : ℕ = h.0.0 in
      and_from (is_some (level_for n m)) (eqb (f % m) 0 && leb (f + m) (2 ^ n)) (ap is_some (level_is n m i (pow_low i n (omega (arith, h.0.1, h.2))) h.0.1))
      (and_from (eqb (f % m) 0) (leb (f + m) (2 ^ n)) (eq-eqb (f % m) 0 h.1) (le-leb (f + m) (2 ^ n) h.2)),
)

sets_decides : (n : ℕ) (xs : Ranks) → Decides (are_sets n xs) ((f : ℕ) → f < length xs → 0 < size_at xs f → Set n f (size_at xs f))
unfolding are_sets
sets_decides n xs =
    decides_all (λ f. implies (ltb 0 (size_at xs f)) (is_set n f (size_at xs f))) (λ f. 0 < size_at xs f → Set n f (size_at xs f))
    (λ f. decides_implies (ltb 0 (size_at xs f)) (is_set n f (size_at xs f)) (Decides-ltb 0 (size_at xs f)) (is_set_decides n f (size_at xs f))) (length xs)

holds_rank_decides : (xs : Ranks) (f r : ℕ) → Decides (holds_rank xs f r) (Holds (size_at xs) f r)
holds_rank_decides xs f r = Decides-and (leb f r) (ltb r (f + size_at xs f)) (decides_leb f r) (Decides-ltb r (f + size_at xs f))

apart_decides : (n : ℕ) (xs : Ranks)
    → Decides (are_apart n xs) ((f : ℕ) → f < length xs → (g : ℕ) → g < length xs → (r : ℕ) → r < 2 ^ n → Holds (size_at xs) f r × Holds (size_at xs) g r → f ≡ g)
unfolding are_apart
apart_decides n xs =
    decides_all (λ f. all_below (λ g. all_below (λ r. implies (holds_rank xs f r && holds_rank xs g r) (eqb f g)) (2 ^ n)) (length xs))
    (λ f. (g : ℕ) → g < length xs → (r : ℕ) → r < 2 ^ n → Holds (size_at xs) f r × Holds (size_at xs) g r → f ≡ g)
    (λ f. decides_all (λ g. all_below (λ r. implies (holds_rank xs f r && holds_rank xs g r) (eqb f g)) (2 ^ n)) (λ g. (r : ℕ) → r < 2 ^ n → Holds (size_at xs) f r × Holds (size_at xs) g r → f ≡ g)
    (λ g. decides_all (λ r. implies (holds_rank xs f r && holds_rank xs g r) (eqb f g)) (λ r. Holds (size_at xs) f r × Holds (size_at xs) g r → f ≡ g)
    (λ r. decides_implies (holds_rank xs f r && holds_rank xs g r) (eqb f g)
    (Decides-and (holds_rank xs f r) (holds_rank xs g r) (holds_rank_decides xs f r) (holds_rank_decides xs g r)) (Decides-eqb f g)) (2 ^ n)) (length xs)) (length xs)

-- past the last entry nothing begins
begins : (xs : Ranks) (f : ℕ) → 0 < size_at xs f → f < length xs
begins xs f pos = elim (cases_lt f (length xs)) [ inl l ↦ l | inr l ↦ absurd (omega (arith, ap size_of (get_or_past xs f None l))) ]

pub sound_tested : (n : ℕ) (xs : Ranks) → are_sets n xs ≡ true → are_apart n xs ≡ true → Sound n (size_at xs)
sound_tested n xs a b = record { sets = sets; apart = apart }
  where
    sets : (f : ℕ) → 0 < size_at xs f → Set n f (size_at xs f)
    sets f pos = (sets_decides n xs).0 a f (begins xs f pos) pos

    apart : (f g r : ℕ) → Holds (size_at xs) f r → Holds (size_at xs) g r → f ≡ g
    apart f g r x y =
        let pf : 0 < size_at xs f = omega (arith, x.0, x.1) in
        let pg : 0 < size_at xs g = omega (arith, y.0, y.1) in
        (apart_decides n xs).0 b f (begins xs f pf) g (begins xs g pg) r (omega (arith, (sets f pf).2, x.1)) (x, y)

pub tested_sound : (n : ℕ) (xs : Ranks) → Sound n (size_at xs) → (are_sets n xs ≡ true) × (are_apart n xs ≡ true)
tested_sound n xs h = ((sets_decides n xs).1 (λ f l. h.sets f), (apart_decides n xs).1 (λ f k g l r m x. h.apart f g r x.0 x.1))

-- the order of whole free sets
Left : (n : ℕ) (xs : Ranks) → ℕ → ℕ → ℕ → ℕ → Type 0
Left n xs i p j q = Whole (FreeIn n xs) i p × (Whole (FreeIn n xs) j q × (p * 2 ^ i < q * 2 ^ j)) → i < j

grow_decides : (n : ℕ) (xs : Ranks)
    → Decides (sizes_grow n xs) ((i : ℕ) → i < suc n → (p : ℕ) → p < 2 ^ n → (j : ℕ) → j < suc n → (q : ℕ) → q < 2 ^ n → Left n xs i p j q)
unfolding sizes_grow Left
grow_decides n xs =
    decides_all (λ i. all_below (λ p. all_below (λ j. all_below (left_smaller n xs i p j) (2 ^ n)) (suc n)) (2 ^ n))
    (λ i. (p : ℕ) → p < 2 ^ n → (j : ℕ) → j < suc n → (q : ℕ) → q < 2 ^ n → Left n xs i p j q)
    (λ i. decides_all (λ p. all_below (λ j. all_below (left_smaller n xs i p j) (2 ^ n)) (suc n)) (λ p. (j : ℕ) → j < suc n → (q : ℕ) → q < 2 ^ n → Left n xs i p j q)
    (λ p. decides_all (λ j. all_below (left_smaller n xs i p j) (2 ^ n)) (λ j. (q : ℕ) → q < 2 ^ n → Left n xs i p j q)
    (λ j. decides_all (left_smaller n xs i p j) (Left n xs i p j)
    (λ q. decides_implies (is_whole n xs i p && (is_whole n xs j q && ltb (p * 2 ^ i) (q * 2 ^ j))) (ltb i j)
    (Decides-and (is_whole n xs i p) (is_whole n xs j q && ltb (p * 2 ^ i) (q * 2 ^ j)) (is_whole_decides n xs i p)
    (Decides-and (is_whole n xs j q) (ltb (p * 2 ^ i) (q * 2 ^ j)) (is_whole_decides n xs j q) (Decides-ltb (p * 2 ^ i) (q * 2 ^ j))))
    (Decides-ltb i j)) (2 ^ n)) (suc n)) (2 ^ n)) (suc n)

pub ordered_tested : (n : ℕ) (xs : Ranks) → sizes_grow n xs ≡ true → Ordered n (size_at xs)
unfolding Left
ordered_tested n xs h f m g l hf hg lt =
    let a = whole_to n (size_at xs) f m hf in
    let b = whole_to n (size_at xs) g l hg in
    let i : ℕ = a.0 in
    let p : ℕ = a.1 in
    let j : ℕ = b.0 in
    let q : ℕ = b.1 in
    let less = (grow_decides n xs).0 h i (omega (arith, level_in n xs i p a.4.0)) p (index i p a.4) j (omega (arith, level_in n xs j q b.4.0)) q (index j q b.4)
    (a.4, (b.4, omega (arith, firsts i p, firsts j q, a.3, b.3))) in
    let z : 2 ^ i < 2 ^ j = pow-lt less in
    omega (arith, a.2, b.2, size_pow i, size_pow j)
  where
    index : (i p : ℕ) → Whole (FreeIn n xs) i p → p < 2 ^ n
    index i p w = omega (arith, within n (size_at xs) i p w.0, dbl_grows i p, size_pow i, pow_pos i)

pub tested_ordered : (n : ℕ) (xs : Ranks) → Ordered n (size_at xs) → sizes_grow n xs ≡ true
unfolding Left
tested_ordered n xs h =
    (grow_decides n xs).1 (λ i _ p _ j _ q _ t.
    level_lt i j (h (dbl i p) (dbl i 1) (dbl j q) (dbl j 1) (whole_from n (size_at xs) i p t.0) (whole_from n (size_at xs) j q t.1.0) (omega (arith, t.1.1, firsts i p, firsts j q))))

-- numbers that stand once
number_of : (number : ℕ) (x : Option Session) → is_number number x ≡ true → (s : Session) × (x ≡ Some s) × (s.number ≡ number)
number_of number None h = absurd (both_ways false refl h)
number_of number (Some s) h = (s, refl, eqb-true s.number number h)

pub holds_at : (number : ℕ) (xs : Ranks) → holds number xs ≡ true → (f : ℕ) × (s : Session) × (get_or xs f None ≡ Some s) × (s.number ≡ number)
unfolding holds
holds_at number [] h = absurd (both_ways false refl h)
holds_at number (x ∷ xs) h = go (holds_at number xs) (or_cases (is_number number x) (holds number xs) h)
  where
    go : (holds number xs ≡ true → (f : ℕ) × (s : Session) × (get_or xs f None ≡ Some s) × (s.number ≡ number))
        → (is_number number x ≡ true) ⊎ (holds number xs ≡ true) → (f : ℕ) × (s : Session) × (get_or (x ∷ xs) f None ≡ Some s) × (s.number ≡ number)
    go ih (inl e) = let r = number_of number x e in (0, r.0, r.1, r.2)
    go ih (inr e) = let r = ih e in (suc r.0, r.1, r.2, r.3)

pub at_holds : (number : ℕ) (xs : Ranks) (f : ℕ) (s : Session) → get_or xs f None ≡ Some s → s.number ≡ number → holds number xs ≡ true
unfolding holds
at_holds number [] f s e n = let z : ◌≡◌ {A = ℕ} 0 1 = cc in absurd (omega arith)
at_holds number (x ∷ xs) zero s e n = ap (λ b. b || holds number xs) (ap (is_number number) e ∙ eq-eqb s.number number n)
at_holds number (x ∷ xs) (suc f) s e n = go (is_number number x) (at_holds number xs f s e n)
  where
    go : (b : Bool) → holds number xs ≡ true → (b || holds number xs) ≡ true
    go true h = refl
    go false h = h

abbrev pub Once : Ranks → Type 0
Once xs = (f g : ℕ) (s t : Session) → get_or xs f None ≡ Some s → get_or xs g None ≡ Some t → s.number ≡ t.number → f ≡ g

none_some : {A : Type 0} (s : Session) → None ≡ Some s → A
none_some s e = let z : ◌≡◌ {A = ℕ} 0 1 = cc in absurd (omega arith)

pub once_tested : (xs : Ranks) → once xs ≡ true → Once xs
unfolding once
once_tested [] h f g s t a b e = none_some s a
once_tested (None ∷ xs) h zero g s t a b e = none_some s a
once_tested (None ∷ xs) h (suc f) zero s t a b e = none_some t b
once_tested (None ∷ xs) h (suc f) (suc g) s t a b e = ap suc (once_tested xs h f g s t a b e)
once_tested (Some x ∷ xs) h zero zero s t a b e = refl
once_tested (Some x ∷ xs) h zero (suc g) s t a b e =
    let p = and_parts (not (holds x.number xs)) (once xs) h in
    let z : x ≡ s = cc in
    absurd (both_ways (holds x.number xs) (not-true (holds x.number xs) p.0) (at_holds x.number xs g t b (sym e ∙ ap (λ (y : Session). y.number) (sym z))))
once_tested (Some x ∷ xs) h (suc f) zero s t a b e =
    let p = and_parts (not (holds x.number xs)) (once xs) h in
    let z : x ≡ t = cc in
    absurd (both_ways (holds x.number xs) (not-true (holds x.number xs) p.0) (at_holds x.number xs f s a (e ∙ ap (λ (y : Session). y.number) (sym z))))
once_tested (Some x ∷ xs) h (suc f) (suc g) s t a b e =
    ap suc (once_tested xs (and_parts (not (holds x.number xs)) (once xs) h).1 f g s t a b e)

pub tested_once : (xs : Ranks) → Once xs → once xs ≡ true
unfolding once
tested_once [] h = refl
tested_once (None ∷ xs) h = tested_once xs (λ f g s t a b e. omega (arith, h (suc f) (suc g) s t a b e))
tested_once (Some x ∷ xs) h =
    and_from (not (holds x.number xs)) (once xs)
    (elim (cases_Bool (holds x.number xs)) [
      | inl e ↦ let r = holds_at x.number xs e in absurd (omega (arith, h 0 (suc r.0) x r.1 refl r.2 (sym r.3)))
      | inr e ↦ not_from_false (holds x.number xs) e
    ])
    (tested_once xs (λ f g s t a b e. omega (arith, h (suc f) (suc g) s t a b e)))

-- all tests together
pub record Tested (n : ℕ) (xs : Ranks) : Type 0 where
  pub long : length xs ≡ 2 ^ n
  pub fit : all_fit n xs ≡ true
  pub sets : are_sets n xs ≡ true
  pub apart : are_apart n xs ≡ true
  pub once : once xs ≡ true
  pub ordered : sizes_grow n xs ≡ true

entry_fits : (n : ℕ) (x : Option Session) (s : Session) → x ≡ Some s → fits_in n x ≡ true → fits n s ≡ true
entry_fits n x s e h = sym (ap (fits_in n) e) ∙ h

pub standing : (n : ℕ) (xs : Ranks) → Tested n xs → Standing n xs
standing n xs h =
    let order = ordered_tested n xs h.ordered in
    record {
      long = h.long;
      fit = λ f s e. (fits_decides n s).0 (entry_fits n (get_or xs f None) s e (All-get_or (λ x. fits_in n x ≡ true) xs f None (in_list f s e) ((fit_decides n xs).0 h.fit)));
      sound = sound_tested n xs h.sets h.apart;
      once = once_tested xs h.once;
      distinct = differ_distinct n (size_at xs) (grow_differ (FreeRank n (size_at xs)) (ordered_grow n (size_at xs) order));
      ordered = order;
    }
  where
    in_list : (f : ℕ) (s : Session) → get_or xs f None ≡ Some s → f < length xs
    in_list f s e = elim (cases_lt f (length xs)) [ inl l ↦ l | inr l ↦ none_some s (sym (get_or_past xs f None l) ∙ e) ]

pub tested : (n : ℕ) (xs : Ranks) → Standing n xs → Tested n xs
tested n xs h =
    let a = tested_sound n xs h.sound in
    record {
      long = h.long;
      fit = (fit_decides n xs).1 (All-from_get_or (λ x. fits_in n x ≡ true) xs None (λ f l. one f (get_or xs f None) refl));
      sets = a.0;
      apart = a.1;
      once = tested_once xs h.once;
      ordered = tested_ordered n xs h.ordered;
    }
  where
    one : (f : ℕ) (x : Option Session) → x ≡ get_or xs f None → fits_in n (get_or xs f None) ≡ true
    one f None e = ap (fits_in n) (sym e)
    one f (Some s) e = ap (fits_in n) (sym e) ∙ (fits_decides n s).1 (h.fit f s (sym e))

-- what holds of each entry and of none holds of the session that holds a rank
pub holder_has : (P : Option Session → Type 0) → P None → (xs : Ranks) → ((i : ℕ) → i < length xs → P (get_or xs i None)) → (k r : ℕ) → P (holder_from k xs r)
holder_has P none [] h k r = none
holder_has P none (x ∷ xs) h k r =
    cond_both (leb k r && ltb r (k + size_of x)) x (holder_from (suc k) xs r) P (λ _. h 0 (omega arith)) (λ _. holder_has P none xs (λ i l. h (suc i) (omega arith)) (suc k) r)

-- a session's slots carry its weight
pub all_carried : (n : ℕ) (xs : Ranks) → Standing n xs → (f : ℕ) (s : Session) → Some s ≡ get_or xs f None → carried (Some s) ≡ true
all_carried n xs h f s e =
    let p = h.fit f s (sym e) in
    and_from (leb 1 s.size) (leb s.weight (most_weight * s.size)) (le-leb 1 s.size (omega (arith, p.size_is, pow_pos p.level))) (le-leb s.weight (most_weight * s.size) p.most)

-- and its ranks are a set
pub session_set : (n : ℕ) (xs : Ranks) → Standing n xs → (f : ℕ) (s : Session) → Some s ≡ get_or xs f None → (f % s.size ≡ 0) × (f + s.size ≤ 2 ^ n)
session_set n xs h f s e =
    let p = h.fit f s (sym e) in
    let size : size_at xs f ≡ s.size = ap size_of (sym e) in
    let t = h.sound.sets f (omega (arith, size, p.size_is, pow_pos p.level)) in
    (subst (λ m. f % m ≡ 0) size t.1, omega (arith, size, t.2))

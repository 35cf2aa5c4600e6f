-- Fill-in and release keep what every book keeps, and its sessions.
use Rattle.std.proofs.Common.{◌≡◌, ℕ, zero, suc, ◌+◌, ◌-◌, ◌*◌, ◌^◌, ◌<◌, ◌≤◌, true, false, cond, not, ◌&&◌, eqb, ◌⊎◌, [], ◌∷◌, length, get_or, set, replicate, is_some, Some, None, sum_by, Option, sym, refl, ap, ◌∙◌, subst, inl, inr, arith, length-set, pow_pos, MatchOption}
use lib.ListN.{length-replicate}
use Rattle.std.specs.List.Sorted.{IsPermutation}
use Rattle.std.specs.List.{AllByRecursion}
use Rattle.std.proofs.ByRecursion.{All-get_or, All-from_get_or, All-set, all_shuffled}
use Rattle.std.proofs.lemmas.List.{get_or-set_same, get_or-set_other, get_or_past}
use Rattle.std.proofs.lemmas.List.Sorted.{sum_by-IsPermutation, length_permutation}
use Rattle.std.proofs.lemmas.List.Sums.{sum_by-cons, sum_by-set}
use Rattle.std.proofs.lemmas.Bool.{cases_eq, cases_lt, cases_Bool, both_ways, eqb-true, eq-eqb, cond-true}
use Rattle.std.proofs.lemmas.Bool.Decides.{same_from_decides}
use Rattle.table.specs.Slots.{bits}
use Rattle.book.specs.declared.book.Book.{Book}
use Rattle.book.specs.declared.session.Session.{Session}
use Rattle.book.specs.Searches.{when_some}
use Rattle.book.specs.Entries.{Ranks, size_of, size_at, level_for, fits, is_number, place_of, holds}
use Rattle.book.specs.Sets.{is_free, lowest_free}
use Rattle.book.specs.Moves.{released_set}
use Rattle.book.specs.Books.{empty_ranks, free_ranks, lowest_first, place_for, filled, released_at, released}
use Rattle.book.specs.Tests.{fits_in}
use Rattle.book.specs.Sound.{FreeRank, Set, FreeSet, Sound, Ordered, Distinct}
use Rattle.book.specs.Levels.{Free, FreeIn, up, dbl}
use Rattle.book.specs.Standing.{Fits, Seated, Standing}
use Rattle.book.specs.Sessions.{sessions_of, without, SameSessions}
use Rattle.book.specs.Laws.{InBook, Taken, FillLaw, Ended}
use Rattle.book.proofs.Views.{total}
use Rattle.book.proofs.Empty.{empty_sound, empty_ordered}
use Rattle.book.proofs.Found.{first_cases}
use Rattle.book.proofs.Freeing.{grow_differ}
use Rattle.book.proofs.Places.{within, size_pow, all_free, ordered_grow, differ_distinct, index_below}
use Rattle.book.proofs.Room.{fits as room_fits, fits_only, vacant, vacant_decides, count_same, count_free}
use Rattle.book.proofs.Steps.{set_of, lowest_first_lem, session_at, total_change, gone_sound, filled_sound, filled_ordered}
use Rattle.book.proofs.Totals.{total_kept}
use Rattle.book.proofs.Decided.{firsts, is_free_decides, lowest_free_cases}
use Rattle.book.proofs.Moved.{released_set_keeps}
use Rattle.book.proofs.Numbers.{place_holds}
use Rattle.book.proofs.Placed.{Place, place_found, filled_at, filled_none}
use Rattle.book.proofs.Tested.{standing, tested, fits_decides, level_is, holds_at, at_holds}
use Rattle.book.proofs.Sums.{opt, only, called, sum_sessions, sum_without, only_none, holds_none, once_count, sum_one}

some_none : {A X : Type 0} (x : X) → Some x ≡ None → A
some_none x e = let z : ◌≡◌ {A = ℕ} 0 1 = cc in absurd (omega arith)

ordered_distinct : (n : ℕ) (xs : Ranks) → Ordered n (size_at xs) → Distinct n (size_at xs)
ordered_distinct n xs h = differ_distinct n (size_at xs) (grow_differ (FreeRank n (size_at xs)) (ordered_grow n (size_at xs) h))

-- A book without sessions.

pub none_at : (k f : ℕ) → get_or {A = Option Session} (replicate k None) f None ≡ None
none_at zero f = refl
none_at (suc k) zero = refl
none_at (suc k) (suc f) = none_at k f

pub empty_sessions : (k : ℕ) → sessions_of (replicate k None) ≡ []
unfolding sessions_of
empty_sessions zero = refl
empty_sessions (suc k) = empty_sessions k

pub empty_stands : (n : ℕ) → Standing n (empty_ranks n)
empty_stands n =
    let xs : Ranks = empty_ranks n in
    let none : (f : ℕ) → size_at xs f ≡ 0 = λ f. ap size_of (none_at (2 ^ n) f) in
    let order : Ordered n (size_at xs) = empty_ordered n (size_at xs) none in
    record {
      long = length-replicate (2 ^ n) None;
      fit = λ f s e. some_none s (sym e ∙ none_at (2 ^ n) f);
      sound = empty_sound n (size_at xs) none;
      once = λ f g s t a b e. some_none s (sym a ∙ none_at (2 ^ n) f);
      distinct = ordered_distinct n xs order;
      ordered = order;
    }

-- what is free and what is held make the table
pub free_and_held : (n : ℕ) (xs : Ranks) → Sound n (size_at xs) → free_ranks n xs + total (size_at xs) (2 ^ n) ≡ 2 ^ n
unfolding free_ranks
free_and_held n xs sound =
    omega (
      arith,
      count_free n (size_at xs) sound,
      count_same (is_free n xs 0) (vacant n (size_at xs)) (2 ^ n) (λ r l.
          same_from_decides (is_free n xs 0 r) (vacant n (size_at xs) r) (is_free_decides n xs 0 r) (vacant_decides n (size_at xs) r)),
    )

-- Fill-in.

-- an entry is at a place where it was, or is the new one
set_cases : (xs : Ranks) (f g : ℕ) (x : Option Session) (s : Session) → get_or (set xs f x) g None ≡ Some s → ((g ≡ f) × (x ≡ Some s)) ⊎ ((g ≡ f → ⊥) × (get_or xs g None ≡ Some s))
set_cases xs f g x s e =
    elim (cases_eq g f) [
      | inl z ↦ elim (cases_lt f (length xs)) [
        | inl l ↦ inl (z, sym (ap (λ y. get_or (set xs f x) y None) z ∙ get_or-set_same xs f x None l) ∙ e)
        | inr l ↦ some_none s (sym e ∙ get_or_past (set xs f x) g None (omega (arith, length-set xs f x)))
      ]
      | inr z ↦ inr (z, sym (get_or-set_other xs f g x None z) ∙ e)
    ]

pub put_seated : (n : ℕ) (xs : Ranks) (s : Session) (f : ℕ) → Place n xs s f → Seated n xs → Seated n (set xs f (Some s))
put_seated n xs s f p h = record {
  long = length-set xs f (Some s) ∙ h.long;
  sound = subst (λ y. Sound n (size_at (set xs y (Some s)))) (sym (p.first ∙ firsts p.level p.index))
      (filled_sound n p.level p.index xs s (omega (arith, h.long)) p.low p.size_is h.sound p.free p.least);
}

module _ (n : ℕ) (xs : Ranks) (s : Session) (f : ℕ) (p : Place n xs s f) (h : Standing n xs) where
  at : f ≡ dbl p.level p.index
  at = p.first ∙ firsts p.level p.index

  set_sound : Sound n (size_at (set xs f (Some s)))
  set_sound = (put_seated n xs s f p (record { long = h.long; sound = h.sound })).sound

  set_ordered : Ordered n (size_at (set xs f (Some s)))
  set_ordered = subst (λ y. Ordered n (size_at (set xs y (Some s)))) (sym at)
      (filled_ordered n p.level p.index xs s (omega (arith, h.long)) p.low p.size_is h.sound p.free p.least h.ordered)

  set_fits : (g : ℕ) (t : Session) → get_or (set xs f (Some s)) g None ≡ Some t → Fits n t
  set_fits g t e =
      elim (set_cases xs f g (Some s) t e) [
        | inl k ↦ let z : s ≡ t = some_same s t k.1 in subst (Fits n) z ((fits_decides n s).0 p.fit)
        | inr k ↦ h.fit g t k.1
      ]
    where
      some_same : (a b : Session) → Some a ≡ Some b → a ≡ b
      some_same a b e = cc

  not_there : (g : ℕ) (t : Session) → get_or xs g None ≡ Some t → s.number ≡ t.number → ⊥
  not_there g t e same = both_ways (holds s.number xs) p.new (at_holds s.number xs g t e (sym same))

  set_once : (g k : ℕ) (t u : Session) → get_or (set xs f (Some s)) g None ≡ Some t → get_or (set xs f (Some s)) k None ≡ Some u → t.number ≡ u.number → g ≡ k
  set_once g k t u a b e = go (set_cases xs f g (Some s) t a) (set_cases xs f k (Some s) u b)
    where
      number : (a b : Session) → Some a ≡ Some b → a.number ≡ b.number
      number a b e = let z : a ≡ b = cc in ap (λ (y : Session). y.number) z

      go : ((g ≡ f) × (Some s ≡ Some t)) ⊎ ((g ≡ f → ⊥) × (get_or xs g None ≡ Some t)) → ((k ≡ f) × (Some s ≡ Some u)) ⊎ ((k ≡ f → ⊥) × (get_or xs k None ≡ Some u)) → g ≡ k
      go (inl x) (inl y) = x.0 ∙ sym y.0
      go (inl x) (inr y) = absurd (not_there k u y.1 (number s t x.1 ∙ e))
      go (inr x) (inl y) = absurd (not_there g t x.1 (number s u y.1 ∙ sym e))
      go (inr x) (inr y) = h.once g k t u x.1 y.1 e

  pub set_stands : Standing n (set xs f (Some s))
  set_stands =
      record {
        long = length-set xs f (Some s) ∙ h.long;
        fit = set_fits;
        sound = set_sound;
        once = set_once;
        distinct = ordered_distinct n (set xs f (Some s)) set_ordered;
        ordered = set_ordered;
      }

  inside : f < length xs
  inside = omega (arith, p.first, p.inside, h.long, pow_pos p.level)

  -- nothing stood there
  pub was_none : get_or xs f None ≡ None
  was_none = go (get_or xs f None) refl
    where
      go : (x : Option Session) → x ≡ get_or xs f None → x ≡ None
      go None e = refl
      go (Some t) e =
          let k = h.fit f t (sym e) in
          let free = all_free (FreeIn n xs) p.level p.index p.free f (omega (arith, at)) (omega (arith, at, size_pow p.level, pow_pos p.level)) in
          absurd (free.1 f (omega arith, omega (arith, ap size_of e, k.size_is, pow_pos k.level)))

  set_sums : SameSessions (sessions_of (set xs f (Some s))) (s ∷ sessions_of xs)
  set_sums g =
      omega (arith, sum_sessions g (set xs f (Some s)), sum_sessions g xs, sum_by-cons g s (sessions_of xs), sum_by-set (opt g) xs f (Some s) None inside, ap (opt g) was_none)

  pub set_taken : Taken n xs s (set xs f (Some s)) f
  set_taken =
      let j : ℕ = p.level in
      let q : ℕ = p.index in
      let w = within n (size_at xs) j q p.free in
      record {
        fit = (fits_decides n s).0 p.fit;
        new = λ b. not_there b.0 b.1 b.2 (sym b.3);
        room = subst (λ m. m ≤ free_ranks n xs) (sym p.size_is)
            (omega (arith, free_and_held n xs h.sound, fits_only n (size_at xs) h.sound j (n - j) q (omega (arith, p.low)) (index_below n j q p.low w) p.free));
        set = subst (Set n f) (sym p.size_is) (set_of n j q f at w);
        free = subst (FreeSet n (size_at xs) f) (sym p.size_is) (λ r u v. all_free (FreeIn n xs) j q p.free r (omega (arith, at)) (omega (arith, at, size_pow j)));
        lowest = subst (λ m. (g : ℕ) → Set n g m → FreeSet n (size_at xs) g m → f ≤ g) (sym p.size_is) (lowest_first_lem n xs j q f at p.least);
        sessions = set_sums;
      }

-- where no set of a size is free, fewer ranks are
none_free : (n : ℕ) (xs : Ranks) (j : ℕ) → j ≤ n → Standing n xs → ((a : ℕ) → Free (FreeIn n xs) j a → ⊥) → free_ranks n xs < 2 ^ j
none_free n xs j low h none =
    elim (cases_lt (free_ranks n xs) (2 ^ j)) [
      | inl l ↦ l
      | inr l ↦
          let r = room_fits n (size_at xs) h.sound (grow_differ (FreeRank n (size_at xs)) (ordered_grow n (size_at xs) h.ordered)) j (n - j) (omega arith) (omega (arith, free_and_held n xs h.sound)) in
          absurd (none r.0 r.2)
    ]

unplaced : (n : ℕ) (xs : Ranks) (s : Session) → Standing n xs → None ≡ place_for n xs s → Fits n s → (InBook xs s.number → ⊥) → free_ranks n xs < s.size
unfolding place_for lowest_first
unplaced n xs s h e fit new =
    let t : fits n s ≡ true = (fits_decides n s).1 fit in
    let u : holds s.number xs ≡ false = elim (cases_Bool (holds s.number xs)) [ inl y ↦ absurd (new (holds_at s.number xs y)) | inr y ↦ y ] in
    let level = level_is n s.size fit.level fit.low fit.size_is in
    subst (λ m. free_ranks n xs < m) (sym fit.size_is) (none_free n xs fit.level fit.low h
    (lowest (lowest_free n xs fit.level) refl
    (e ∙ ap (λ b. cond (b && not (holds s.number xs)) (lowest_first n xs s.size) None) t
    ∙ ap (λ b. cond (not b) (lowest_first n xs s.size) None) u
    ∙ ap (λ o. when_some o None (λ i. when_some (lowest_free n xs i) None (λ q. Some (q * 2 ^ i)))) level)))
  where
    lowest : (o : Option ℕ) → o ≡ lowest_free n xs fit.level → None ≡ when_some (lowest_free n xs fit.level) None (λ q. Some (q * 2 ^ fit.level)) → (a : ℕ) → Free (FreeIn n xs) fit.level a → ⊥
    lowest None d z = subst (λ o. MatchOption o ((a : ℕ) → Free (FreeIn n xs) fit.level a → ⊥) (λ q. Free (FreeIn n xs) fit.level q × ((a : ℕ) → Free (FreeIn n xs) fit.level a → q ≤ a)))
        (sym d) (lowest_free_cases n xs fit.level)
    lowest (Some q) d z = some_none (q * 2 ^ fit.level) (sym (z ∙ ap (λ o. when_some o None (λ q. Some (q * 2 ^ fit.level))) (sym d)))

pub filled_stands : (n : ℕ) (xs : Ranks) (s : Session) → Standing n xs → Standing n (filled n xs s)
filled_stands n xs s h = go (place_for n xs s) refl
  where
    go : (o : Option ℕ) → o ≡ place_for n xs s → Standing n (filled n xs s)
    go None e = subst (Standing n) (filled_none n xs s e) h
    go (Some f) e = subst (Standing n) (filled_at n xs s f e) (set_stands n xs s f (place_found n xs s f e) h)

pub fill_law : (n : ℕ) (xs : Ranks) (s : Session) → Standing n xs → FillLaw n xs s (place_for n xs s) (filled n xs s)
fill_law n xs s h = go (place_for n xs s) refl
  where
    go : (o : Option ℕ) → o ≡ place_for n xs s → FillLaw n xs s (place_for n xs s) (filled n xs s)
    go None e = subst (λ o. FillLaw n xs s o (filled n xs s)) e (record { why = unplaced n xs s h e; same = sym (filled_none n xs s e) })
    go (Some f) e = subst (λ o. FillLaw n xs s o (filled n xs s)) e (subst (λ ys. Taken n xs s ys f) (filled_at n xs s f e) (set_taken n xs s f (place_found n xs s f e) h))

-- Release.

pub number_found : (number : ℕ) (xs : Ranks) (f : ℕ) → Some f ≡ place_of number xs → (s : Session) × (get_or xs f None ≡ Some s) × (s.number ≡ number) × (f < length xs)
number_found number xs f e =
    let t = subst (λ o. MatchOption o ((a : ℕ) → 0 ≤ a → a < 0 + length xs → is_number number (get_or xs a None) ≡ true → ⊥)
    (λ a. (is_number number (get_or xs a None) ≡ true) × (a < 0 + length xs) × ((b : ℕ) → 0 ≤ b → b < a → is_number number (get_or xs b None) ≡ true → ⊥))) (sym e)
    (first_cases (λ f. is_number number (get_or xs f None)) 0 (length xs)) in
    let r = number_of (get_or xs f None) t.0 in
    (r.0, r.1, r.2, omega (arith, t.1))
  where
    number_of : (x : Option Session) → is_number number x ≡ true → (s : Session) × (x ≡ Some s) × (s.number ≡ number)
    number_of None h = absurd (both_ways false refl h)
    number_of (Some s) h = (s, refl, eqb-true s.number number h)

-- the level of the session, as the code finds it
pub released_level : (n : ℕ) (xs : Ranks) (f j : ℕ) → Some j ≡ level_for n (size_at xs f) → released_set n xs j f ≡ released_at n xs f
unfolding released_at
released_level n xs f j e = ap (λ o. when_some o xs (λ j. released_set n xs j f)) e

pub released_odd : (n : ℕ) (xs : Ranks) (f : ℕ) → None ≡ level_for n (size_at xs f) → xs ≡ released_at n xs f
unfolding released_at
released_odd n xs f e = ap (λ o. when_some o xs (λ j. released_set n xs j f)) e

pub released_at_lem : (n : ℕ) (xs : Ranks) (number f : ℕ) → Some f ≡ place_of number xs → released_at n xs f ≡ released n xs number
unfolding released
released_at_lem n xs number f e = ap (λ o. when_some o xs (released_at n xs)) e

released_is : (n : ℕ) (xs : Ranks) (number f j : ℕ) (s : Session) → Some f ≡ place_of number xs → get_or xs f None ≡ Some s → j ≤ n → s.size ≡ 2 ^ j → released_set n xs j f ≡ released n xs number
released_is n xs number f j s at is low size =
    released_level n xs f j (sym (ap (λ x. level_for n (size_of x)) is ∙ level_is n s.size j low size)) ∙ released_at_lem n xs number f at

pub released_none : (n : ℕ) (xs : Ranks) (number : ℕ) → None ≡ place_of number xs → xs ≡ released n xs number
unfolding released
released_none n xs number e = ap (λ o. when_some o xs (released_at n xs)) e

module _ (n : ℕ) (xs : Ranks) (f j : ℕ) (s : Session) (is : get_or xs f None ≡ Some s) (there : f < length xs) (low : j ≤ n) (size : s.size ≡ 2 ^ j) (h : Standing n xs) where
  held : size_at xs f ≡ 2 ^ j
  held = ap size_of is ∙ size

  kept : Sound n (size_at (released_set n xs j f)) × Ordered n (size_at (released_set n xs j f)) × IsPermutation (set xs f None) (released_set n xs j f)
  kept = released_set_keeps n xs j f (omega (arith, h.long)) held h.sound h.ordered

  fit_all : AllByRecursion (λ x. fits_in n x ≡ true) xs
  fit_all = All-from_get_or (λ x. fits_in n x ≡ true) xs None (λ i l. one i (get_or xs i None) refl)
    where
      one : (i : ℕ) (x : Option Session) → x ≡ get_or xs i None → fits_in n (get_or xs i None) ≡ true
      one i None e = ap (fits_in n) (sym e)
      one i (Some t) e = ap (fits_in n) (sym e) ∙ (fits_decides n t).1 (h.fit i t (sym e))

  sum_gone : (g : Session → ℕ) → sum_by (opt g) (released_set n xs j f) + g s ≡ sum_by (opt g) xs
  sum_gone g = omega (arith, sum_by-IsPermutation (opt g) (set xs f None) (released_set n xs j f) kept.2, sum_by-set (opt g) xs f None None there, ap (opt g) is)

  long_after : length (released_set n xs j f) ≡ 2 ^ n
  long_after = length_permutation (set xs f None) (released_set n xs j f) kept.2 ∙ length-set xs f None ∙ h.long

  in_after : (g : ℕ) (t : Session) → get_or (released_set n xs j f) g None ≡ Some t → g < length (released_set n xs j f)
  in_after g t e = elim (cases_lt g (length (released_set n xs j f))) [ inl l ↦ l | inr l ↦ some_none t (sym e ∙ get_or_past (released_set n xs j f) g None l) ]

  pub end_stands : Standing n (released_set n xs j f)
  end_stands =
      record {
        long = long_after;
        fit = λ g t e. (fits_decides n t).0 (sym (ap (fits_in n) e) ∙ All-get_or (λ x. fits_in n x ≡ true) (released_set n xs j f) g None (in_after g t e)
            (all_shuffled (λ x. fits_in n x ≡ true) (set xs f None) (released_set n xs j f) kept.2 (All-set (λ x. fits_in n x ≡ true) xs f None refl fit_all)));
        sound = kept.0;
        once = λ g k t u a b e.
            let one : (v : Session) → v.number ≡ t.number → called t.number v ≡ 1 = λ v z. cond-true {A = ℕ} (eqb v.number t.number) 1 0 (eq-eqb v.number t.number z) in
            sum_one (opt (called t.number)) (released_set n xs j f) None g k (in_after g t a) (in_after k u b)
            (omega (arith, ap (opt (called t.number)) a, one t refl)) (omega (arith, ap (opt (called t.number)) b, one u (sym e)))
            (omega (arith, sum_gone (called t.number), once_count xs (tested n xs h).once t.number));
        distinct = ordered_distinct n (released_set n xs j f) kept.1;
        ordered = kept.1;
      }

  pub end_sums : SameSessions (sessions_of (released_set n xs j f)) (without s.number (sessions_of xs))
  end_sums g =
      let m = s.number in
      let one : called m s ≡ 1 = cond-true {A = ℕ} (eqb s.number m) 1 0 (eq-eqb s.number m refl) in
      let none : sum_by (opt (called m)) (released_set n xs j f) ≡ 0 = omega (arith, sum_gone (called m), once_count xs (tested n xs h).once m, one) in
      let all : sum_by (opt (only g m)) xs ≡ g s = omega (arith, sum_gone (only g m), only_none g m (released_set n xs j f) none, cond-true {A = ℕ} (eqb s.number m) (g s) 0 (eq-eqb s.number m refl)) in
      omega (arith, sum_sessions g (released_set n xs j f), sum_gone g, sum_without g m (sessions_of xs), sum_sessions g xs, sum_sessions (only g m) xs, all)

  pub end_room : free_ranks n (released_set n xs j f) ≡ free_ranks n xs + s.size
  end_room =
      let zs : Ranks = set xs f None in
      let t = session_at n xs f j h.sound held in
      let gone = gone_sound n f j (up j f) xs (omega (arith, h.long)) t.0 t.1 t.2 h.sound in
      let a = total_kept n zs (released_set n xs j f) gone kept.0 (omega (arith, length-set xs f None, h.long)) kept.2 in
      let b = total_change (size_at xs) (size_at zs) f (2 ^ n) (λ r ne. ap size_of (get_or-set_other xs f r None None ne)) t.2 in
      let c = ap size_of (get_or-set_same xs f None None there) in
      omega (arith, a, b, c, held, size, free_and_held n xs h.sound, free_and_held n (released_set n xs j f) kept.0)

pub released_stands : (n : ℕ) (xs : Ranks) (number : ℕ) → Standing n xs → Standing n (released n xs number)
released_stands n xs number h = go (place_of number xs) refl
  where
    go : (o : Option ℕ) → o ≡ place_of number xs → Standing n (released n xs number)
    go None e = subst (Standing n) (released_none n xs number e) h
    go (Some f) e =
        let r = number_found number xs f e in
        let k = h.fit f r.0 r.1 in
        subst (Standing n) (released_is n xs number f k.level r.0 e r.1 k.low k.size_is) (end_stands n xs f k.level r.0 r.1 r.3 k.low k.size_is h)

pub release_law : (n : ℕ) (xs : Ranks) (number : ℕ) → Standing n xs → Ended n xs number (released n xs number)
release_law n xs number h = go (place_of number xs) refl
  where
    go : (o : Option ℕ) → o ≡ place_of number xs → Ended n xs number (released n xs number)
    go None e =
        let none : holds number xs ≡ false = sym (place_holds number xs) ∙ ap is_some (sym e) in
        subst (Ended n xs number) (released_none n xs number e) (record {
          sessions = λ g. omega (arith, sum_without g number (sessions_of xs), sum_sessions (only g number) xs, only_none g number xs (holds_none number xs none));
          room = λ f s is same. absurd (both_ways (holds number xs) none (at_holds number xs f s is same));
        })
    go (Some f) e =
        let r = number_found number xs f e in
        let k = h.fit f r.0 r.1 in
        subst (Ended n xs number) (released_is n xs number f k.level r.0 e r.1 k.low k.size_is) (record {
          sessions = subst (λ m. SameSessions (sessions_of (released_set n xs k.level f)) (without m (sessions_of xs))) r.2 (end_sums n xs f k.level r.0 r.1 r.3 k.low k.size_is h);
          room = λ g s is same.
              let z : g ≡ f = h.once g f s r.0 is r.1 (same ∙ sym r.2) in
              let e : Some s ≡ Some r.0 = sym is ∙ ap (λ y. get_or xs y None) z ∙ r.1 in
              let y : s ≡ r.0 = cc in
              end_room n xs f k.level r.0 r.1 r.3 k.low k.size_is h ∙ ap (λ (t : Session). free_ranks n xs + t.size) (sym y);
        })

-- What a book's fields say, and back.
pub book_stands : (b : Book) → Standing bits b.ranks
book_stands b = standing bits b.ranks (record { long = b.long; fit = b.fit; sets = b.sets; apart = b.apart; once = b.single; ordered = b.ordered })

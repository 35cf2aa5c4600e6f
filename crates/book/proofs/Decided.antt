-- The tests of sets decide what they test.
use Rattle.std.proofs.Common.{◌≡◌, ℕ, zero, suc, ◌+◌, ◌-◌, ◌*◌, ◌/◌, ◌^◌, ◌<◌, ◌≤◌, true, false, not, ◌&&◌, eqb, ltb, leb, ◌⊎◌, [], ◌∷◌, length, get_or, Some, None, Decides, sym, refl, ap, ◌∙◌, subst, inl, inr, arith, pow-add, pow_pos, MatchOption}
use lib.ListN.{get_or-eq_default}
use Rattle.std.specs.List.{swap}
use Rattle.std.specs.List.Sorted.{IsPermutation}
use Rattle.std.proofs.lemmas.List.Edits.{swapped_from_swap, length-swap}
use Rattle.std.proofs.lemmas.List.Sorted.{IsPermutation-refl, IsPermutation-trans, IsPermutation-swap}
use Rattle.std.proofs.lemmas.List.FromFn.{length-map-range_with_len, get_or-map-range_with_len, fill_by_all}
use Rattle.std.proofs.lemmas.Bool.{cases_eq, cases_lt, cases_Bool, both_ways, not-true, not_from_false, and_parts, and_from, leb-true, le-leb, cond-true, cond-false, cond_both}
use Rattle.std.proofs.lemmas.Bool.Decides.{nat_tests, Decides-and, Decides-not, Decides-ltb, Decides-eqb}
use Rattle.book.specs.FreeSets.{FreeSets, climb_by}
use Rattle.book.specs.Levels.{up, dbl, Free, Whole, FreeIn}
use Rattle.book.specs.Sound.{FreeSet}
use Rattle.book.proofs.Views.{Swapped, Loose}
use Rattle.book.specs.Entries.{size_at, size_of, Ranks}
use Rattle.book.specs.Sets.{meets, clear_from, clear, is_free, is_whole, lowest_free}
use Rattle.book.specs.Moves.{other_whole, climb, loose_rank, source, exchanged}
use Rattle.std.proofs.lemmas.Nat.{mul-le}
use Rattle.book.proofs.Found.{cases_map, first_cases, last_cases}
use Rattle.book.proofs.Places.{within, size_pow}
use Rattle.book.proofs.Counts.{dbl_pow}
use Rattle.book.proofs.Blocks.{decides_set, sets_count, swapped_more}
use Rattle.book.proofs.Steps.{top_whole, up_pow, parent_in, rank_in, sets_apart}

-- Sets by their first rank and size, and by halves and doubles.
pub firsts : (i q : ℕ) → q * 2 ^ i ≡ dbl i q
firsts i q = sym (dbl_pow i q)

pub sizes : (i : ℕ) → 2 ^ i ≡ dbl i 1
sizes i = sym (size_pow i)

pub inside : (n i q : ℕ) → dbl i q + dbl i 1 ≤ 2 ^ n → q * 2 ^ i + 2 ^ i ≤ 2 ^ n
inside n i q h = omega (arith, firsts i q, sizes i)

pub inside_dbl : (n i q : ℕ) → q * 2 ^ i + 2 ^ i ≤ 2 ^ n → dbl i q + dbl i 1 ≤ 2 ^ n
inside_dbl n i q h = omega (arith, firsts i q, sizes i)

pub around : (i r : ℕ) → r / 2 ^ i ≡ up i r
around i r = sym (up_pow i r)

-- The tests decide the predicates.

meets_decides : (f held first size : ℕ) → Decides (meets f held first size) ((f < first + size) × ((first < f + held) × (0 < held)))
meets_decides f held first size =
    Decides-and (ltb f (first + size)) (ltb first (f + held) && ltb 0 held) (Decides-ltb f (first + size))
    (Decides-and (ltb first (f + held)) (ltb 0 held) (Decides-ltb first (f + held)) (Decides-ltb 0 held))

clear_to : (f : ℕ) (xs : Ranks) (first size : ℕ) → clear_from f xs first size ≡ true
    → (k g : ℕ) → f + k ≡ g → meets g (size_at xs k) first size ≡ true → ⊥
clear_to f [] first size h k g e m = omega (arith, ((meets_decides g 0 first size).0 m).1.1)
clear_to f (x ∷ xs) first size h zero g e m =
    let z : f ≡ g = omega arith in
    both_ways (meets g (size_of x) first size)
    (subst (λ y. meets y (size_of x) first size ≡ false) z (not-true (meets f (size_of x) first size)
    (and_parts (not (meets f (size_of x) first size)) (clear_from (suc f) xs first size) h).0))
    m
clear_to f (x ∷ xs) first size h (suc k) g e m =
    clear_to (suc f) xs first size (and_parts (not (meets f (size_of x) first size)) (clear_from (suc f) xs first size) h).1 k g (omega arith) m

clear_from_lem : (f : ℕ) (xs : Ranks) (first size : ℕ)
    → ((k g : ℕ) → f + k ≡ g → meets g (size_at xs k) first size ≡ true → ⊥) → clear_from f xs first size ≡ true
clear_from_lem f [] first size h = refl
clear_from_lem f (x ∷ xs) first size h =
    and_from (not (meets f (size_of x) first size)) (clear_from (suc f) xs first size)
    (elim (cases_Bool (meets f (size_of x) first size)) [
      | inl e ↦ absurd (h 0 f (omega arith) e)
      | inr e ↦ not_from_false (meets f (size_of x) first size) e
    ])
    (clear_from_lem (suc f) xs first size (λ k g e m. h (suc k) g (omega arith) m))

pub clear_decides : (n : ℕ) (xs : Ranks) (first size : ℕ) → first + size ≤ 2 ^ n → 0 < size → Decides (clear xs first size) (FreeSet n (size_at xs) first size)
clear_decides n xs first size fit some = (
  (λ h r l m. (
    omega arith,
    λ f k. clear_to 0 xs first size h f f (omega arith)
        ((meets_decides f (size_at xs f) first size).1 (omega (arith, k.0), (omega (arith, k.1), omega (arith, k.0, k.1)))),
  )),
  λ h. clear_from_lem 0 xs first size (λ k g e m.
      let p = (meets_decides g (size_at xs k) first size).0 m in
      elim (cases_lt g first) [
        | inl l ↦ (h first (omega arith) (omega arith)).1 k (omega arith, omega (arith, p.1.0))
        | inr l ↦ (h g l p.0).1 k (omega arith, omega (arith, p.1.1))
      ]),
)

pub is_free_decides : (n : ℕ) (xs : Ranks) (i q : ℕ) → Decides (is_free n xs i q) (Free (FreeIn n xs) i q)
is_free_decides n xs i q = (
  (λ h.
      let p = and_parts (leb (q * 2 ^ i + 2 ^ i) (2 ^ n)) (clear xs (q * 2 ^ i) (2 ^ i)) h in
      (at (leb-true (q * 2 ^ i + 2 ^ i) (2 ^ n) p.0)).0 p.1),
  λ h.
      let w = inside n i q (within n (size_at xs) i q h) in
      and_from (leb (q * 2 ^ i + 2 ^ i) (2 ^ n)) (clear xs (q * 2 ^ i) (2 ^ i)) (le-leb (q * 2 ^ i + 2 ^ i) (2 ^ n) w) ((at w).1 h),
)
  where
    at : q * 2 ^ i + 2 ^ i ≤ 2 ^ n → Decides (clear xs (q * 2 ^ i) (2 ^ i)) (Free (FreeIn n xs) i q)
    at w = decides_set n (size_at xs) (clear xs (q * 2 ^ i) (2 ^ i)) i q (q * 2 ^ i) (2 ^ i) (firsts i q) (sizes i) (clear_decides n xs (q * 2 ^ i) (2 ^ i) w (pow_pos i))

pub is_whole_decides : (n : ℕ) (xs : Ranks) (i q : ℕ) → Decides (is_whole n xs i q) (Whole (FreeIn n xs) i q)
is_whole_decides n xs i q =
    Decides-and (is_free n xs i q) (not (is_free n xs (suc i) (q / 2))) (is_free_decides n xs i q)
    (Decides-not (is_free n xs (suc i) (q / 2)) (is_free_decides n xs (suc i) (q / 2)))

-- the exchange
source_left : (f g m k : ℕ) → k < m → source f g m (f + k) ≡ g + k
source_left f g m k l = grind (arith, nat_tests)

source_right : (f g m k : ℕ) → (f + m ≤ g) ⊎ (g + m ≤ f) → k < m → source f g m (g + k) ≡ f + k
source_right f g m k (inl a) l = grind (arith, nat_tests)
source_right f g m k (inr a) l = grind (arith, nat_tests)

source_rest : (f g m r : ℕ) → ((k : ℕ) → k < m → r ≡ f + k → ⊥) → ((k : ℕ) → k < m → r ≡ g + k → ⊥) → source f g m r ≡ r
source_rest f g m r u v =
    let a : (r < f) ⊎ (f + m ≤ r) = elim (cases_lt r f) [ inl l ↦ inl l | inr l ↦ elim (cases_lt r (f + m)) [ inl k ↦ absurd (u (r - f) (omega arith) (omega arith)) | inr k ↦ inr k ] ] in
    let b : (r < g) ⊎ (g + m ≤ r) = elim (cases_lt r g) [ inl l ↦ inl l | inr l ↦ elim (cases_lt r (g + m)) [ inl k ↦ absurd (v (r - g) (omega arith) (omega arith)) | inr k ↦ inr k ] ] in
    grind (arith, nat_tests)

ranges : (f m r : ℕ) → ((k : ℕ) × (k < m) × (r ≡ f + k)) ⊎ ((k : ℕ) → k < m → r ≡ f + k → ⊥)
ranges f m r =
    elim (cases_lt r f) [
      | inl l ↦ inr (λ k u v. omega arith)
      | inr l ↦ elim (cases_lt r (f + m)) [ inl h ↦ inl (r - f, omega arith, omega arith) | inr h ↦ inr (λ k u v. omega arith) ]
    ]

module _ (xs : Ranks) (f g m : ℕ) (apart : (f + m ≤ g) ⊎ (g + m ≤ f)) where
  exchanged_at : f + m ≤ length xs → g + m ≤ length xs → (r : ℕ) → get_or (exchanged xs f g m) r None ≡ get_or xs (source f g m r) None
  exchanged_at hf hg r =
      elim (cases_lt r (length xs)) [
        | inl l ↦ get_or-map-range_with_len (λ x. get_or xs (source f g m x) None) 0 (length xs) r r None l (omega arith)
        | inr l ↦
            get_or-eq_default (exchanged xs f g m) None (omega (arith, length-map-range_with_len (λ x. get_or xs (source f g m x) None) 0 (length xs)))
            ∙ sym (ap (λ x. get_or xs x None) (source_rest f g m r (λ k u v. omega arith) (λ k u v. omega arith)) ∙ get_or-eq_default xs None l)
      ]

  pub exchanged_swapped : f + m ≤ length xs → g + m ≤ length xs → Swapped f g m xs (exchanged xs f g m)
  exchanged_swapped hf hg =
      record {
        len = length-map-range_with_len (λ x. get_or xs (source f g m x) None) 0 (length xs);
        left = λ k l. exchanged_at hf hg (f + k) ∙ ap (λ x. get_or xs x None) (source_left f g m k l);
        right = λ k l. exchanged_at hf hg (g + k) ∙ ap (λ x. get_or xs x None) (source_right f g m k apart l);
        rest = λ r u v. exchanged_at hf hg r ∙ ap (λ x. get_or xs x None) (source_rest f g m r u v);
      }

  -- the relation determines the list
  pub swapped_is : (ys : Ranks) → Swapped f g m xs ys → ys ≡ exchanged xs f g m
  swapped_is ys h =
      fill_by_all (λ x. get_or xs (source f g m x) None) ys (length xs) None h.len (λ r _.
      elim (ranges f m r) [
        | inl t ↦ ap (λ x. get_or ys x None) t.2 ∙ h.left t.0 t.1
            ∙ ap (λ x. get_or xs x None) (sym (ap (source f g m) t.2 ∙ source_left f g m t.0 t.1))
        | inr u ↦ elim (ranges g m r) [
          | inl t ↦ ap (λ x. get_or ys x None) t.2 ∙ h.right t.0 t.1
              ∙ ap (λ x. get_or xs x None) (sym (ap (source f g m) t.2 ∙ source_right f g m t.0 apart t.1))
          | inr v ↦ h.rest r u v ∙ ap (λ x. get_or xs x None) (sym (source_rest f g m r u v))
        ]
      ])

-- the climb
pub climb_whole : (n : ℕ) (xs : Ranks) (i q k : ℕ) → k + i ≡ n → Free (FreeIn n xs) i q
    → Whole (FreeIn n xs) (climb n xs i q k).0 (climb n xs i q k).1 × (i ≤ (climb n xs i q k).0) × ((climb n xs i q k).1 ≡ up ((climb n xs i q k).0 - i) q)
climb_whole n xs i q zero e h =
    let z : i - i ≡ 0 = omega arith in
    (top_whole n xs i q (omega arith) h, omega arith, ap (λ x. up x q) (sym z))
climb_whole n xs i q (suc k) e h =
    cond_both (is_free n xs (suc i) (q / 2)) (climb n xs (suc i) (q / 2) k) (i, q)
    (λ w. Whole (FreeIn n xs) w.0 w.1 × (i ≤ w.0) × (w.1 ≡ up (w.0 - i) q))
    (λ t.
    let r = climb_whole n xs (suc i) (q / 2) k (omega arith) ((is_free_decides n xs (suc i) (q / 2)).0 t) in
    let d : ℕ = (climb n xs (suc i) (q / 2) k).0 in
    let z : d - i ≡ suc (d - suc i) = omega (arith, r.1) in
    (r.0, omega (arith, r.1), r.2 ∙ ap (λ x. up x q) (sym z)))
    (λ t.
    let z : i - i ≡ 0 = omega arith in
    ((h, λ y. both_ways (is_free n xs (suc i) (q / 2)) t ((is_free_decides n xs (suc i) (q / 2)).1 y)), omega arith, ap (λ x. up x q) (sym z)))

-- the steps of a loop that climbs
module _ (free : FreeSets) (n i q : ℕ) (l : i < n) where
  pub climb_more : free (i + 1) (q / 2) ≡ true → climb_by free i q (n - i) ≡ climb_by free (i + 1) (q / 2) (n - (i + 1))
  climb_more e =
      let z : n - i ≡ suc (n - (i + 1)) = omega arith in
      let y : suc i ≡ i + 1 = omega arith in
      ap (climb_by free i q) z
      ∙ cond-true (free (suc i) (q / 2)) (climb_by free (suc i) (q / 2) (n - (i + 1))) (i, q) (ap (λ x. free x (q / 2)) y ∙ e)
      ∙ ap (λ x. climb_by free x (q / 2) (n - (i + 1))) y

  pub climb_stop : free (i + 1) (q / 2) ≡ false → climb_by free i q (n - i) ≡ (i, q)
  climb_stop e =
      let z : n - i ≡ suc (n - (i + 1)) = omega arith in
      let y : suc i ≡ i + 1 = omega arith in
      ap (climb_by free i q) z
      ∙ cond-false (free (suc i) (q / 2)) (climb_by free (suc i) (q / 2) (n - (i + 1))) (i, q) (ap (λ x. free x (q / 2)) y ∙ e)

-- what the searches find
pub lowest_free_cases : (n : ℕ) (xs : Ranks) (i : ℕ)
    → MatchOption (lowest_free n xs i) ((a : ℕ) → Free (FreeIn n xs) i a → ⊥) (λ q. Free (FreeIn n xs) i q × ((a : ℕ) → Free (FreeIn n xs) i a → q ≤ a))
lowest_free_cases n xs i =
    cases_map (lowest_free n xs i)
    (λ h a t. h a (omega arith) (omega (arith, (sets_count (2 ^ n) i a).1 (within n (size_at xs) i a t))) ((is_free_decides n xs i a).1 t))
    (λ q h. ((is_free_decides n xs i q).0 h.0, λ a t. elim (cases_lt a q) [ inl l ↦ absurd (h.2 a (omega arith) l ((is_free_decides n xs i a).1 t)) | inr l ↦ l ]))
    (first_cases (is_free n xs i) 0 (2 ^ n / 2 ^ i))

other_decides : (n : ℕ) (xs : Ranks) (i p o : ℕ) → Decides (not (eqb o p) && is_whole n xs i o) ((o ≡ p → ⊥) × Whole (FreeIn n xs) i o)
other_decides n xs i p o = Decides-and (not (eqb o p)) (is_whole n xs i o) (Decides-not (eqb o p) (Decides-eqb o p)) (is_whole_decides n xs i o)

pub other_whole_cases : (n : ℕ) (xs : Ranks) (i p : ℕ)
    → MatchOption (other_whole n xs i p) ((o : ℕ) → Whole (FreeIn n xs) i o → o ≡ p) (λ o. Whole (FreeIn n xs) i o × (o ≡ p → ⊥))
other_whole_cases n xs i p =
    cases_map (other_whole n xs i p)
    (λ h o t. elim (cases_eq o p) [
      | inl e ↦ e
      | inr e ↦ absurd (h o (omega arith) (omega (arith, (sets_count (2 ^ n) i o).1 (within n (size_at xs) i o t.0))) ((other_decides n xs i p o).1 (e, t)))
    ])
    (λ o h. let d = (other_decides n xs i p o).0 h.0 in (d.1, d.0))
    (first_cases (λ o. not (eqb o p) && is_whole n xs i o) 0 (2 ^ n / 2 ^ i))

loose_decides : (n : ℕ) (xs : Ranks) (i r : ℕ) → Decides (is_free n xs 0 r && not (is_free n xs i (r / 2 ^ i))) (Loose n xs i r)
loose_decides n xs i r =
    Decides-and (is_free n xs 0 r) (not (is_free n xs i (r / 2 ^ i))) (is_free_decides n xs 0 r)
    (Decides-not (is_free n xs i (r / 2 ^ i)) (subst (λ x. Decides (is_free n xs i (r / 2 ^ i)) (Free (FreeIn n xs) i x)) (around i r) (is_free_decides n xs i (r / 2 ^ i))))

pub loose_rank_cases : (n : ℕ) (xs : Ranks) (i : ℕ)
    → MatchOption (loose_rank n xs i) ((a : ℕ) → Loose n xs i a → ⊥) (λ x. Loose n xs i x × ((a : ℕ) → Loose n xs i a → a ≤ x))
loose_rank_cases n xs i =
    cases_map (loose_rank n xs i)
    (λ h a t. h a t.0.0 ((loose_decides n xs i a).1 t))
    (λ x h. ((loose_decides n xs i x).0 h.0, λ a t. h.2 a t.0.0 ((loose_decides n xs i a).1 t)))
    (last_cases (λ r. is_free n xs 0 r && not (is_free n xs i (r / 2 ^ i))) (2 ^ n))

-- what is found, as the code has it
pub lowest_found : (n : ℕ) (xs : Ranks) (i q : ℕ) → Some q ≡ lowest_free n xs i → Free (FreeIn n xs) i q × ((a : ℕ) → Free (FreeIn n xs) i a → q ≤ a)
lowest_found n xs i q e =
    subst (λ r. MatchOption r ((a : ℕ) → Free (FreeIn n xs) i a → ⊥) (λ q. Free (FreeIn n xs) i q × ((a : ℕ) → Free (FreeIn n xs) i a → q ≤ a))) (sym e) (lowest_free_cases n xs i)

pub other_found : (n : ℕ) (xs : Ranks) (i p o : ℕ) → Some o ≡ other_whole n xs i p → Whole (FreeIn n xs) i o × (o ≡ p → ⊥)
other_found n xs i p o e =
    subst (λ r. MatchOption r ((o : ℕ) → Whole (FreeIn n xs) i o → o ≡ p) (λ o. Whole (FreeIn n xs) i o × (o ≡ p → ⊥))) (sym e) (other_whole_cases n xs i p)

pub loose_found : (n : ℕ) (xs : Ranks) (i x : ℕ) → Some x ≡ loose_rank n xs i → Loose n xs i x × ((a : ℕ) → Loose n xs i a → a ≤ x)
loose_found n xs i x e =
    subst (λ r. MatchOption r ((a : ℕ) → Loose n xs i a → ⊥) (λ x. Loose n xs i x × ((a : ℕ) → Loose n xs i a → a ≤ x))) (sym e) (loose_rank_cases n xs i)

pub lowest_in : (n : ℕ) (xs : Ranks) (i q : ℕ) → Some q ≡ lowest_free n xs i → q * 2 ^ i + 2 ^ i ≤ 2 ^ n
lowest_in n xs i q e = inside n i q (within n (size_at xs) i q (lowest_found n xs i q e).0)

-- the exchange keeps the sessions
module _ (xs : Ranks) (f g m : ℕ) (apart : (f + m ≤ g) ⊎ (g + m ≤ f)) (hf : f + m ≤ length xs) (hg : g + m ≤ length xs) where
  swaps : (k : ℕ) → k ≤ m → (ys : Ranks) × Swapped f g k xs ys × IsPermutation xs ys
  swaps zero l = (xs, record { len = refl; left = λ i u. absurd (omega arith); right = λ i u. absurd (omega arith); rest = λ r u v. refl }, IsPermutation-refl xs)
  swaps (suc k) l =
      let t = swaps k (omega arith) in
      let ys : Ranks = t.0 in
      let zs : Ranks = swap ys (f + k) (g + k) in
      let a : f + k < length ys = omega (arith, t.1.len) in
      let b : g + k < length ys = omega (arith, t.1.len) in
      let s = swapped_from_swap ys zs (f + k) (g + k) None a b refl in
      let e : k + 1 ≡ suc k = omega arith in (
        zs,
        subst (λ i. Swapped f g i xs zs) e (swapped_more f g m k xs ys zs apart (omega arith) t.1 (length-swap ys (f + k) (g + k)) s.0 s.1 s.2),
        IsPermutation-trans xs ys zs t.2 (IsPermutation-swap ys zs (f + k) (g + k) a b refl),
      )

  pub exchanged_shuffled : IsPermutation xs (exchanged xs f g m)
  exchanged_shuffled = let t = swaps m (omega arith) in subst (IsPermutation xs) (swapped_is xs f g m apart t.0 t.1) t.2

-- where sets are, by first rank and size
pub free_inside : (n : ℕ) (xs : Ranks) (i q : ℕ) → Free (FreeIn n xs) i q → q * 2 ^ i + 2 ^ i ≤ 2 ^ n
free_inside n xs i q h = inside n i q (within n (size_at xs) i q h)

pub parent_inside : (n l q : ℕ) → l < n → q * 2 ^ l + 2 ^ l ≤ 2 ^ n → q / 2 * 2 ^ (l + 1) + 2 ^ (l + 1) ≤ 2 ^ n
parent_inside n l q lt h = inside n (l + 1) (q / 2) (parent_in n l q lt (inside_dbl n l q h))

pub brother_inside : (n l q b : ℕ) → l < n → q * 2 ^ l + 2 ^ l ≤ 2 ^ n → b / 2 ≡ q / 2 → b * 2 ^ l + 2 ^ l ≤ 2 ^ n
brother_inside n l q b lt h e =
    let two : 2 ^ (l + 1) ≡ 2 * 2 ^ l = omega (arith, pow-add 2 l 1) in
    let below : b + 1 ≤ 2 * (q / 2) + 2 = omega (arith, e) in
    let one : (b + 1) * 2 ^ l ≡ b * 2 ^ l + 2 ^ l = omega arith in
    let both : (2 * (q / 2) + 2) * 2 ^ l ≡ q / 2 * 2 ^ (l + 1) + 2 ^ (l + 1) = ap (λ x. x) (omega arith) ∙ ap (λ x. q / 2 * x + x) (sym two) in
    omega (arith, parent_inside n l q lt h, mul-le (b + 1) (2 ^ l) (2 * (q / 2) + 2) (2 ^ l) below (omega arith), one, both)

pub rank_inside : (n s r q : ℕ) → s ≤ n → r < 2 ^ n → q ≡ r / 2 ^ s → q * 2 ^ s + 2 ^ s ≤ 2 ^ n
rank_inside n s r q l h e = inside n s q (rank_in n s r q l h (e ∙ around s r))

pub apart_inside : (s p q : ℕ) → (p ≡ q → ⊥) → (p * 2 ^ s + 2 ^ s ≤ q * 2 ^ s) ⊎ (q * 2 ^ s + 2 ^ s ≤ p * 2 ^ s)
apart_inside s p q ne =
    elim (sets_apart s p q ne) [ inl h ↦ inl (omega (arith, firsts s p, firsts s q, sizes s)) | inr h ↦ inr (omega (arith, firsts s p, firsts s q, sizes s)) ]

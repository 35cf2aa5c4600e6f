-- What searches find.
use Rattle.std.proofs.Common.{◌≡◌, ℕ, zero, suc, ◌+◌, ◌-◌, ◌<◌, ◌≤◌, Bool, true, false, cond, List, [], ◌∷◌, map, length, get_or, position, Some, None, Option, sym, refl, ap, ◌∙◌, inl, inr, arith, MatchOption}
use Rattle.std.specs.declared.ops.Range.{Range}
use Rattle.std.specs.Bool.{⊤}
use Rattle.std.specs.Fn.{CalledAt}
use Rattle.std.specs.declared.iter.Rev.{Rev}
use Rattle.std.specs.Iterator.{YieldsThen}
use Rattle.std.specs.Iterator.Adapters.{rev_source, rev_steps}
use Rattle.std.specs.Option.{option_map}
use Rattle.std.proofs.lemmas.Iterator.Consumers.{YieldsList-from_shown}
use Rattle.std.proofs.lemmas.Iterator.Search.{find_from_yields_List}
use Rattle.std.specs.List.{FoldsTo, find, position_from, range_with_len}
use Rattle.book.specs.declared.rank_set.RankSet.{RankSet}
use Rattle.book.specs.RankSets.{Found}
use Rattle.std.proofs.iter.Yields.{nat_range_steps}
use Rattle.std.proofs.lemmas.Iterator.{YieldsList, first_from_Range}
use denote.Param.Members.{Mut}
use denote.Ref.{Bor}
use Rattle.std.proofs.lemmas.Iterator.Adapters.{position_from-zero}
use Rattle.std.proofs.lemmas.Bool.{cases_eq, both_ways, cond-true, cond-false, cond_both}
use Rattle.book.specs.Searches.{first_from, last_below, when_some}

pub when_some_by : {A N : Type 0} {Q : ℕ → Type 0} (o : Option ℕ) (x : A) (f : ℕ → A) (P : A → Type 0) → MatchOption o N Q → (N → P x) → ((a : ℕ) → Q a → P (f a)) → P (when_some o x f)
when_some_by None x f P h a b = a h
when_some_by (Some y) x f P h a b = b y h

pub cases_map : {A : Type 0} {P P' : Type 0} {Q Q' : A → Type 0} (o : Option A) → (P → P') → ((a : A) → Q a → Q' a) → MatchOption o P Q → MatchOption o P' Q'
cases_map None f g h = f h
cases_map (Some x) f g h = g x h

pub first_cases : (f : ℕ → Bool) (i k : ℕ) → MatchOption (first_from f i k) ((a : ℕ) → i ≤ a → a < i + k → f a ≡ true → ⊥)
    (λ a. (f a ≡ true) × (a < i + k) × ((b : ℕ) → i ≤ b → b < a → f b ≡ true → ⊥))
first_cases f i zero = λ a l m h. omega arith
first_cases f i (suc k) =
    cond_both (f i) (Some i) (first_from f (suc i) k)
    (λ o. MatchOption o ((a : ℕ) → i ≤ a → a < i + suc k → f a ≡ true → ⊥) (λ a. (f a ≡ true) × (a < i + suc k) × ((b : ℕ) → i ≤ b → b < a → f b ≡ true → ⊥)))
    (λ e. (e, omega arith, λ b l m h. omega arith))
    (λ e. cases_map (first_from f (suc i) k)
    (λ h a l m t. elim (cases_eq a i) [ inl z ↦ both_ways (f a) (ap f z ∙ e) t | inr z ↦ h a (omega arith) (omega arith) t ])
    (λ a h. (h.0, omega (arith, h.1), λ b l m t. elim (cases_eq b i) [ inl z ↦ both_ways (f b) (ap f z ∙ e) t | inr z ↦ h.2 b (omega arith) m t ]))
    (first_cases f (suc i) k))

pub last_cases : (f : ℕ → Bool) (k : ℕ) → MatchOption (last_below f k) ((a : ℕ) → a < k → f a ≡ true → ⊥)
    (λ a. (f a ≡ true) × (a < k) × ((b : ℕ) → b < k → f b ≡ true → b ≤ a))
last_cases f zero = λ a l h. omega arith
last_cases f (suc k) =
    cond_both (f k) (Some k) (last_below f k)
    (λ o. MatchOption o ((a : ℕ) → a < suc k → f a ≡ true → ⊥) (λ a. (f a ≡ true) × (a < suc k) × ((b : ℕ) → b < suc k → f b ≡ true → b ≤ a)))
    (λ e. (e, omega arith, λ b l h. omega arith))
    (λ e. cases_map (last_below f k)
    (λ h a l t. elim (cases_eq a k) [ inl z ↦ both_ways (f a) (ap f z ∙ e) t | inr z ↦ h a (omega arith) t ])
    (λ a h. (h.0, omega (arith, h.1), λ b l t. elim (cases_eq b k) [ inl z ↦ absurd (both_ways (f b) (ap f z ∙ e) t) | inr z ↦ h.2 b (omega arith) t ]))
    (last_cases f k))

-- a search, by what it found
pub first_none : (f : ℕ → Bool) (i k : ℕ) → ((a : ℕ) → i ≤ a → a < i + k → f a ≡ false) → first_from f i k ≡ None
first_none f i zero h = refl
first_none f i (suc k) h = cond-false (f i) (Some i) (first_from f (suc i) k) (h i (omega arith) (omega arith)) ∙ first_none f (suc i) k (λ a l m. h a (omega arith) (omega arith))

pub first_some : (f : ℕ → Bool) (i k a : ℕ) → i ≤ a → a < i + k → f a ≡ true → ((b : ℕ) → i ≤ b → b < a → f b ≡ false) → first_from f i k ≡ Some a
first_some f i zero a l m e h = absurd (omega arith)
first_some f i (suc k) a l m e h = elim (cases_eq a i) [
  | inl z ↦ cond-true (f i) (Some i) (first_from f (suc i) k) (ap f (sym z) ∙ e) ∙ ap Some (sym z)
  | inr z ↦ cond-false (f i) (Some i) (first_from f (suc i) k) (h i (omega arith) (omega arith)) ∙ first_some f (suc i) k a (omega arith) (omega arith) e (λ b u v. h b (omega arith) v)
]

-- a closure that tests numbers, and leaves itself as it was
abbrev pub Tests : {F : Type 0} → Mut F (Bor ℕ × Unit {0}) Bool → F → (ℕ → Bool) → Type 0
Tests {F} g f test = (x : ℕ) (b : Bool) (q : F) → CalledAt g f x b q → (q ≡ f) × (b ≡ test x)

-- `find` over a range
pub first_is : {F : Type 0} {g : Mut F (Bor ℕ × Unit {0}) Bool} (s u : Range ℕ) (f : F) (r : Option ℕ) (test : ℕ → Bool) → s.start ≡ 0
    → (xs : List ℕ) × (j : F) × YieldsThen nat_range_steps s xs r u × FoldsTo (λ p x q. CalledAt g p x false q) f xs j × MatchOption r ⊤ (λ x. (h : F) × CalledAt g j x true h)
    → Tests g f test → r ≡ first_from test 0 s.end
first_is s u f r test z ran is =
    found r (first_from_Range s u f r (λ i. test i ≡ true) (λ i. test i ≡ false) ran (λ x q k. sym (is x true q k).1) (λ x q k. ((is x false q k).0, sym (is x false q k).1)))
  where
    found : (o : Option ℕ) → MatchOption o ((k : ℕ) → s.start ≤ k → k < s.end → test k ≡ false) (λ i. (s.start ≤ i) × (i < s.end) × (test i ≡ true) × ((k : ℕ) → s.start ≤ k → k < i → test k ≡ false))
        → o ≡ first_from test 0 s.end
    found None h = sym (first_none test 0 s.end (λ a l m. h a (omega (arith, z)) (omega arith)))
    found (Some a) h = sym (first_some test 0 s.end a (omega arith) (omega (arith, h.1)) h.2 (λ b l m. h.3 b (omega (arith, z)) m))

-- `find` over the sets of a level
pairs_found : (test : ℕ → ℕ → Bool) (i a k : ℕ) → find (λ (p : ℕ × ℕ). test p.0 p.1) (map {B = ℕ × ℕ} (λ q. (i, q)) (range_with_len a k)) ≡ option_map {U = ℕ × ℕ} (λ q. (i, q)) (first_from (test i) a k)
pairs_found test i a zero = refl
pairs_found test i a (suc k) =
    let z : a + 1 ≡ suc a = omega arith in
    ap (cond {A = Option (ℕ × ℕ)} (test i a) (Some (i, a))) (pairs_found test i (a + 1) k ∙ ap (λ b. option_map {U = ℕ × ℕ} (λ q. (i, q)) (first_from (test i) b k)) z)
    ∙ one (test i a) (first_from (test i) (suc a) k)
  where
    one : (t : Bool) (o : Option ℕ) → cond {A = Option (ℕ × ℕ)} t (Some (i, a)) (option_map (λ q. (i, q)) o) ≡ option_map {U = ℕ × ℕ} (λ q. (i, q)) (cond t (Some a) o)
    one true o = refl
    one false o = refl

pub set_found : (test : ℕ → ℕ → Bool) (i n : ℕ) (set : Option RankSet) → option_map {U = ℕ × ℕ} (λ (s : RankSet). (s.level, s.index)) set ≡ find (λ (p : ℕ × ℕ). test p.0 p.1) (map {B = ℕ × ℕ} (λ q. (i, q)) (range_with_len 0 n))
    → Found i (first_from (test i) 0 n) set
set_found test i n set e = at set (first_from (test i) 0 n) (e ∙ pairs_found test i 0 n)
  where
    at : (set : Option RankSet) (o : Option ℕ) → option_map {U = ℕ × ℕ} (λ (s : RankSet). (s.level, s.index)) set ≡ option_map {U = ℕ × ℕ} (λ q. (i, q)) o → Found i o set
    at None None e = refl
    at None (Some q) e = let z : ◌≡◌ {A = ℕ} 0 1 = cc in absurd (omega arith)
    at (Some s) None e = let z : ◌≡◌ {A = ℕ} 0 1 = cc in absurd (omega arith)
    at (Some s) (Some q) e =
        let z : ◌≡◌ {A = ℕ × ℕ} (s.level, s.index) (i, q) = cc in
        (ap (λ (p : ℕ × ℕ). p.0) z, ap Some (sym (ap (λ (p : ℕ × ℕ). p.1) z)))

-- the same from the right
abbrev downto : ℕ → ℕ → List ℕ
downto a zero = []
downto a (suc k) = (a + k) ∷ downto a k

downto_none : (a k : ℕ) → k ≡ 0 → length (downto a k) ≡ 0
downto_none a zero e = refl
downto_none a (suc k) e = absurd (omega arith)

abbrev pub back_steps : Range ℕ → Option ℕ → Range ℕ → Type 0
back_steps s r t = (t.start ≡ s.start) × MatchOption r ((s.end - s.start ≡ 0) × (t.end ≡ s.end)) (λ x. (0 < s.end - s.start) × (x ≡ t.end) × (s.end ≡ t.end + 1))

backwards : (s : Rev (Range ℕ)) → YieldsList (rev_steps back_steps) (λ x. x) s (downto (rev_source s).start ((rev_source s).end - (rev_source s).start))
backwards s = YieldsList-from_shown (rev_steps back_steps) (λ x. x) (λ z. downto (rev_source z).start ((rev_source z).end - (rev_source z).start))
    (λ z t h. downto_none (rev_source z).start ((rev_source z).end - (rev_source z).start) h.1.0)
    (λ z x t h. one (rev_source z) x (rev_source t) h)
    s
  where
    one : (z : Range ℕ) (x : ℕ) (t : Range ℕ) → back_steps z (Some x) t → downto z.start (z.end - z.start) ≡ x ∷ downto t.start (t.end - t.start)
    one z x t h =
        let e : z.end - z.start ≡ suc (t.end - t.start) = omega (arith, h.0, h.1.0, h.1.2) in
        let y : z.start + (t.end - t.start) ≡ x = omega (arith, h.0, h.1.0, h.1.1, h.1.2) in
        ap (downto z.start) e ∙ ap {B = List ℕ} (λ i. i ∷ downto z.start (t.end - t.start)) y ∙ ap {B = List ℕ} (λ a. x ∷ downto a (t.end - t.start)) (sym h.0)

find_down : (test : ℕ → Bool) (k : ℕ) → find test (downto 0 k) ≡ last_below test k
find_down test zero = refl
find_down test (suc k) =
    let z : 0 + k ≡ k = omega arith in
    ap (λ i. find test (i ∷ downto 0 k)) z ∙ ap (cond (test k) (Some k)) (find_down test k)

as_found : (o : Option ℕ) → option_map (λ x. x) o ≡ o
as_found None = refl
as_found (Some x) = refl

pub last_is : {F : Type 0} {g : Mut F (Bor ℕ × Unit {0}) Bool} (s u : Rev (Range ℕ)) (f : F) (r : Option ℕ) (test : ℕ → Bool) (n : ℕ) → rev_source s ≡ record { start = 0; end = n }
    → (xs : List ℕ) × (j : F) × YieldsThen (rev_steps back_steps) s xs r u × FoldsTo (λ p x q. CalledAt g p x false q) f xs j × MatchOption r ⊤ (λ x. (h : F) × CalledAt g j x true h)
    → Tests g f test → r ≡ last_below test n
last_is s u f r test n e ran is =
    let z : n - 0 ≡ n = omega arith in
    sym (as_found r) ∙ find_from_yields_List test u f r ran (backwards s) is
    ∙ ap (λ (t : Range ℕ). find test (downto t.start (t.end - t.start))) e ∙ ap (λ k. find test (downto 0 k)) z ∙ find_down test n

-- `position` in a list
position_first : {A : Type 0} (test : A → Bool) (f : ℕ → Bool) (a : ℕ) (xs : List A) (d : A) → ((k : ℕ) → f (a + k) ≡ test (get_or xs k d)) → position_from test a xs ≡ first_from f a (length xs)
position_first test f a [] d h = refl
position_first test f a (x ∷ xs) d h =
    let e : a + 0 ≡ a = omega arith in
    let z : a + 1 ≡ suc a = omega arith in
    ap (λ b. cond b (Some a) (position_from test (a + 1) xs)) (sym (h 0) ∙ ap f e)
    ∙ ap (λ i. cond (f a) (Some a) (position_from test i xs)) z
    ∙ ap (cond (f a) (Some a)) (position_first test f (suc a) xs d (λ k. let y : suc a + k ≡ a + suc k = omega arith in ap f y ∙ h (suc k)))

pub position_is : {A : Type 0} (test : A → Bool) (xs : List A) (d : A) → position test xs ≡ first_from (λ k. test (get_or xs k d)) 0 (length xs)
position_is test xs d = position_from-zero test xs ∙ position_first test (λ k. test (get_or xs k d)) 0 xs d (λ k. let y : 0 + k ≡ k = omega arith in ap (λ i. test (get_or xs i d)) y)

-- The session that holds a rank, and the slots that follow.
use Rattle.std.proofs.Common.{◌≡◌, ℕ, zero, suc, ◌+◌, ◌-◌, ◌/◌, ◌%◌, ◌^◌, ◌<◌, ◌≤◌, Bool, true, false, cond, ◌&&◌, ltb, leb, ◌⊎◌, List, [], ◌∷◌, length, get_or, set, Some, None, Option, sym, refl, ap, ◌∙◌, inl, inr, div-add-mod', arith, length-set}
use Rattle.std.proofs.lemmas.Nat.{mod-mul-add, mod_below}
use Rattle.table.proofs.Reversals.{reversed_below, reversed_twice}
use Rattle.std.proofs.lemmas.List.{get_or-set_same, get_or-set_other}
use Rattle.std.proofs.lemmas.Bool.{cases_Bool, cases_eq, cases_lt, cond_both, cond-true, cond-false, ltb-true, and_from, and_parts, leb-true, le-leb, lt-ltb, le-ltb}
use Rattle.book.specs.declared.session.Session.{Session}
use Rattle.book.specs.Entries.{Ranks, size_of, size_at, grant_of}
use Rattle.book.specs.Sound.{Sound}
use Rattle.book.specs.Slots.{holder_from, slot_for, Lays, slot_in, contents}
use Rattle.table.specs.declared.slot.Slot.{Slot}
use Rattle.table.specs.Slots.{empty_slot}
use Rattle.table.specs.Reversal.{reversed}
use Rattle.table.specs.Services.{weight_at}
use Rattle.std.proofs.lemmas.List.FromFn.{fill_by_all}

-- who holds a rank
pub holder_hit : (xs : Ranks) (k r i : ℕ) → i < length xs → k + i ≤ r → r < k + i + size_at xs i
    → ((j : ℕ) → j < i → k + j ≤ r → r < k + j + size_at xs j → ⊥) → holder_from k xs r ≡ get_or xs i None
holder_hit [] k r i l a c none = absurd (omega arith)
holder_hit (x ∷ xs) k r zero l a c none =
    cond-true (leb k r && ltb r (k + size_of x)) x (holder_from (suc k) xs r) (and_from (leb k r) (ltb r (k + size_of x)) (le-leb k r (omega arith)) (lt-ltb r (k + size_of x) (omega arith)))
holder_hit (x ∷ xs) k r (suc i) l a c none =
    go (cases_Bool (leb k r && ltb r (k + size_of x))) (holder_hit xs (suc k) r i (omega arith) (omega arith) (omega arith) (λ j m p q. none (suc j) (omega arith) (omega arith) (omega arith)))
  where
    go : ((leb k r && ltb r (k + size_of x)) ≡ true) ⊎ ((leb k r && ltb r (k + size_of x)) ≡ false) → holder_from (suc k) xs r ≡ get_or xs i None → holder_from k (x ∷ xs) r ≡ get_or xs i None
    go (inl t) ih =
        let p = and_parts (leb k r) (ltb r (k + size_of x)) t in
        absurd (none 0 (omega arith) (omega (arith, leb-true k r p.0)) (omega (arith, ltb-true r (k + size_of x) p.1)))
    go (inr t) ih = cond-false (leb k r && ltb r (k + size_of x)) x (holder_from (suc k) xs r) t ∙ ih

pub holder_found : (xs : Ranks) (k r : ℕ) (s : Session) → holder_from k xs r ≡ Some s → (i : ℕ) × (i < length xs) × (get_or xs i None ≡ Some s) × (k + i ≤ r) × (r < k + i + s.size)
holder_found [] k r s e = let z : ◌≡◌ {A = ℕ} 0 1 = cc in absurd (omega arith)
holder_found (x ∷ xs) k r s e = go (cases_Bool (leb k r && ltb r (k + size_of x))) (holder_found xs (suc k) r s)
  where
    go : ((leb k r && ltb r (k + size_of x)) ≡ true) ⊎ ((leb k r && ltb r (k + size_of x)) ≡ false)
        → (holder_from (suc k) xs r ≡ Some s → (i : ℕ) × (i < length xs) × (get_or xs i None ≡ Some s) × (suc k + i ≤ r) × (r < suc k + i + s.size))
        → (i : ℕ) × (i < suc (length xs)) × (get_or (x ∷ xs) i None ≡ Some s) × (k + i ≤ r) × (r < k + i + s.size)
    go (inl t) ih =
        let p = and_parts (leb k r) (ltb r (k + size_of x)) t in
        let is_x : x ≡ Some s = sym (cond-true (leb k r && ltb r (k + size_of x)) x (holder_from (suc k) xs r) t) ∙ e in
        (0, omega arith, is_x, omega (arith, leb-true k r p.0), omega (arith, ltb-true r (k + size_of x) p.1, ap size_of is_x))
    go (inr t) ih =
        let q = ih (sym (cond-false (leb k r && ltb r (k + size_of x)) x (holder_from (suc k) xs r) t) ∙ e) in
        (suc q.0, omega (arith, q.1), q.2, omega (arith, q.3), omega (arith, q.4))

pub holder_is : (n : ℕ) (xs : Ranks) → Sound n (size_at xs) → (f r : ℕ) (s : Session) → f < length xs → get_or xs f None ≡ Some s → f ≤ r → r < f + s.size → holder_from 0 xs r ≡ Some s
holder_is n xs sound f r s l e a c =
    holder_hit xs 0 r f l (omega arith) (omega (arith, ap size_of e))
    (λ g m p q. absurd (omega (arith, m, sound.apart g f r (omega arith, omega arith) (a, omega (arith, ap size_of e))))) ∙ e

-- the session of the entry g holds the rank r
abbrev pub Sits : Ranks → ℕ → Session → ℕ → Type 0
Sits xs g s r = (Some s ≡ get_or xs g None) × (g ≤ r) × (r < g + s.size)

-- the slots of the entries below f are written, and all others are empty
pub record LaidTo (n : ℕ) (xs : Ranks) (f : ℕ) (table : List Slot) : Type 0 where
  pub long : length table ≡ 2 ^ n
  pub held : (z g : ℕ) (s : Session) → z < 2 ^ n → g < f → Sits xs g s (reversed n z) → get_or table z empty_slot ≡ slot_for (reversed n z) (Some s)
  pub others : (z : ℕ) → z < 2 ^ n → ((g : ℕ) (s : Session) → g < f → Sits xs g s (reversed n z) → ⊥) → get_or table z empty_slot ≡ empty_slot

pub laid_none : (n : ℕ) (xs : Ranks) (table : List Slot) → length table ≡ 2 ^ n → ((z : ℕ) → z < 2 ^ n → get_or table z empty_slot ≡ empty_slot) → LaidTo n xs 0 table
laid_none n xs table len h = record { long = len; held = λ z g s lt l at. absurd (omega arith); others = λ z lt none. h z lt }

-- one entry more: it is a session, or none
module _ (n : ℕ) (xs : Ranks) (f : ℕ) (table : List Slot) (laid : LaidTo n xs f table) where
  pub laid_empty : None ≡ get_or xs f None → LaidTo n xs (f + 1) table
  laid_empty e = record {
    long = laid.long;
    held = λ z g s lt l at. elim (cases_eq g f) [
      | inl y ↦ let e2 : ◌≡◌ {A = Option Session} (Some s) None = at.0 ∙ ap (λ i. get_or xs i None) y ∙ sym e in let bad : ◌≡◌ {A = ℕ} 0 1 = cc in absurd (omega arith)
      | inr y ↦ laid.held z g s lt (omega arith) at
    ];
    others = λ z lt none. laid.others z lt (λ g s l at. none g s (omega arith) at);
  }

  pub laid_more : Sound n (size_at xs) → (s : Session) (new : List Slot) → Some s ≡ get_or xs f None → Lays n table new f s.size (λ r. slot_for r (Some s)) → LaidTo n xs (f + 1) new
  laid_more sound s new e h = record {
    long = h.long ∙ laid.long;
    held = λ z g t lt l at. elim (cases_eq g f) [
      | inl y ↦
          let same : ◌≡◌ {A = Option Session} (Some s) (Some t) = e ∙ ap (λ i. get_or xs i None) (sym y) ∙ sym at.0 in
          h.held z lt (omega (arith, y, at.1)) (omega (arith, y, at.2, ap size_of same)) ∙ ap (slot_for (reversed n z)) same
      | inr y ↦
          h.others z lt (out (reversed n z) (λ a b. y (sound.apart g f (reversed n z) (at.1, omega (arith, at.2, ap size_of at.0)) (a, omega (arith, b, ap size_of e)))))
          ∙ laid.held z g t lt (omega arith) at
    ];
    others = λ z lt none. h.others z lt (out (reversed n z) (λ a b. none f s (omega arith) (e, a, b))) ∙ laid.others z lt (λ g t l at. none g t (omega arith) at);
  }
    where
      out : (r : ℕ) → (f ≤ r → r < f + s.size → ⊥) → (r < f) ⊎ (f + s.size ≤ r)
      out r not_in = elim (cases_lt r f) [ inl a ↦ inl a | inr a ↦ elim (cases_lt r (f + s.size)) [ inl b ↦ absurd (not_in a b) | inr b ↦ inr b ] ]

pub laid_all : (n : ℕ) (xs : Ranks) (table : List Slot) → Sound n (size_at xs) → LaidTo n xs (length xs) table → table ≡ contents n xs
unfolding contents
laid_all n xs table sound laid = fill_by_all (slot_in n xs) table (2 ^ n) empty_slot laid.long (λ z lt. at z lt (holder_from 0 xs (reversed n z)) refl)
  where
    at : (z : ℕ) → z < 2 ^ n → (x : Option Session) → x ≡ holder_from 0 xs (reversed n z) → get_or table z empty_slot ≡ slot_in n xs z
    at z lt None e =
        laid.others z lt
        (λ g s l sits. let e2 : ◌≡◌ {A = Option Session} None (Some s) = e ∙ holder_is n xs sound g (reversed n z) s l (sym sits.0) sits.1 sits.2 in let bad : ◌≡◌ {A = ℕ} 0 1 = cc in absurd (omega arith))
        ∙ ap (slot_for (reversed n z)) e
    at z lt (Some s) e = let q = holder_found xs 0 (reversed n z) s (sym e) in laid.held z q.0 s lt q.1 (sym q.2, omega (arith, q.3), omega (arith, q.4)) ∙ ap (slot_for (reversed n z)) e

-- one more rank's slot
pub lays_more : (n : ℕ) (was new : List Slot) (f k r : ℕ) (what : ℕ → Slot) (x : Slot) → length was ≡ 2 ^ n → Lays n was new f k what → f + k < 2 ^ n
    → r ≡ reversed n (f + k) → x ≡ what (f + k) → Lays n was (set new r x) f (k + 1) what
lays_more n was new f k r what x len h lt e is =
    record {
      long = length-set new r x ∙ h.long;
      held = λ z lz a b. elim (cases_eq (reversed n z) (f + k)) [
        | inl y ↦
            ap (λ i. get_or (set new r x) i empty_slot) (sym (reversed_twice n z lz) ∙ ap (reversed n) y ∙ sym e)
            ∙ get_or-set_same new r x empty_slot (omega (arith, e, h.long, reversed_below n (f + k))) ∙ is ∙ ap what (sym y)
        | inr y ↦ get_or-set_other new r z x empty_slot (other z lz y) ∙ h.held z lz a (omega arith)
      ];
      others = λ z lz out.
          get_or-set_other new r z x empty_slot (other z lz (λ y. elim out [ inl a ↦ omega arith | inr a ↦ omega arith ]))
          ∙ h.others z lz (elim out [ inl a ↦ inl a | inr a ↦ inr (omega arith) ]);
    }
  where
    other : (z : ℕ) → z < 2 ^ n → (reversed n z ≡ f + k → ⊥) → z ≡ r → ⊥
    other z lz y q = y (ap (reversed n) (q ∙ e) ∙ reversed_twice n (f + k) lt)

pub lays_like : (n : ℕ) (was new : List Slot) (f m : ℕ) (what that : ℕ → Slot) → ((r : ℕ) → f ≤ r → r < f + m → what r ≡ that r) → Lays n was new f m what → Lays n was new f m that
lays_like n was new f m what that e h = record { long = h.long; held = λ z lz a b. h.held z lz a b ∙ e (reversed n z) a b; others = h.others }

-- of a set's ranks in rising order, the first carry as much as the very first, and the others as much as the last
module _ (g m f : ℕ) (some : 0 < m) (at : f % m ≡ 0) where
  place : (k : ℕ) → k < m → (f + k) % m ≡ k
  place k l = ap (λ x. (x + k) % m) (omega (arith, div-add-mod' f m)) ∙ mod-mul-add (f / m) m k l

  weights : (k : ℕ) → k < m → weight_at g m (f + k) ≡ cond (ltb k (g % m)) (weight_at g m f) (weight_at g m (f + m - 1))
  weights k l =
      cond_both (ltb k (g % m)) (weight_at g m f) (weight_at g m (f + m - 1)) (λ w. weight_at g m (f + k) ≡ w)
      (λ e. ap more (ap (λ x. ltb x (g % m)) (place k l) ∙ e ∙ sym (ap (λ x. ltb x (g % m)) at ∙ lt-ltb 0 (g % m) (omega (arith, ltb-true k (g % m) e)))))
      (λ e. ap more (ap (λ x. ltb x (g % m)) (place k l) ∙ e ∙ sym (last ∙ le-ltb (m - 1) (g % m) (omega (arith, mod_below g m some)))))
    where
      more : Bool → ℕ
      more b = g / m + cond b 1 0

      last : ltb ((f + m - 1) % m) (g % m) ≡ ltb (m - 1) (g % m)
      last = let z : f + m - 1 ≡ f + (m - 1) = omega arith in ap (λ x. ltb x (g % m)) (ap (λ x. x % m) z ∙ place (m - 1) (omega arith))

module _ (s : Session) where
  abbrev of_weight : ℕ → Slot
  of_weight w = record { lane = s.lane; weight = w }

  pushed : (t : Bool) (u v : ℕ) → cond t (of_weight u) (of_weight v) ≡ of_weight (cond t u v)
  pushed true u v = refl
  pushed false u v = refl

  pub share_is : (f r more : ℕ) (heavy light : Slot) → 0 < s.size → f % s.size ≡ 0 → f ≤ r → r < f + s.size → more ≡ grant_of s % s.size
      → heavy ≡ slot_for f (Some s) → light ≡ slot_for (f + s.size - 1) (Some s) → cond (ltb (r - f) more) heavy light ≡ slot_for r (Some s)
  share_is f r more heavy light some at u v e a b =
      let test : Bool = ltb (r - f) (grant_of s % s.size) in
      let z : f + (r - f) ≡ r = omega arith in
      ap (λ y. cond (ltb (r - f) y) heavy light) e
      ∙ ap (λ y. cond test y light) a
      ∙ ap (cond test (slot_for f (Some s))) b
      ∙ pushed test (weight_at (grant_of s) s.size f) (weight_at (grant_of s) s.size (f + s.size - 1))
      ∙ ap of_weight (sym (weights (grant_of s) s.size f some at (r - f) (omega arith)))
      ∙ ap (λ x. slot_for x (Some s)) z

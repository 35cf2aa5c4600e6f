-- The sessions of a book stand evenly in its slots.
use Rattle.std.proofs.Common.{◌≡◌, ℕ, zero, suc, ◌+◌, ◌-◌, ◌*◌, ◌/◌, ◌%◌, ◌^◌, ◌<◌, ◌≤◌, Bool, true, cond, ◌&&◌, eqb, ltb, leb, ◌⊎◌, ◌↔◌, List, [], ◌∷◌, length, get_or, Some, None, sum_by, Option, sym, refl, ap, ◌∙◌, subst, inl, inr, div-lt_iff_lt-mul, div-add-mod', arith, pow_pos, pow-add}
use native.Mathlib.Nat.{mul-div_left}
use Rattle.std.proofs.lemmas.List.Sums.{get_or-le-sum_by}
use Rattle.std.proofs.lemmas.List.{get_or-map, length-map, get_or_past}
use Rattle.std.proofs.lemmas.List.FromFn.{get_or-map-range_with_len}
use Rattle.std.proofs.lemmas.Bool.{cond-true, cond-false, cases_Bool, cases_eq, cases_lt, eqb-true, eq-eqb, ne_eqb, and_parts, and_from, leb-true, le-leb, ltb-true, lt-ltb}
use Rattle.table.specs.declared.slot.Slot.{Slot}
use Rattle.table.specs.Slots.{empty_slot}
use Rattle.table.specs.Reversal.{reversed, Spaced}
use Rattle.table.specs.Services.{weight_at, total}
use Rattle.table.proofs.Reversals.{offset_of_set}
use Rattle.table.proofs.Weights.{carries}
use Rattle.book.specs.declared.session.Session.{Session}
use Rattle.book.specs.Entries.{Ranks, size_of, size_at, grant_of}
use Rattle.book.specs.Slots.{holder_from, slot_for, slot_in, contents}
use Rattle.book.specs.Sound.{Set}
use Rattle.book.specs.Standing.{Fits, Standing}
use Rattle.book.specs.Sessions.{sessions_of, SameSessions, spacing_of, spacings}
use Rattle.book.specs.Even.{Has}
use Rattle.book.specs.Laws.{no_session, sum_below, Placed, PlacedLaw}
use Rattle.book.proofs.Reversed.{sum_same, sum_reversed, sum_set}
use Rattle.book.proofs.Sums.{opt, called, sum_sessions, once_count, sum_one, sum_part}
use Rattle.book.proofs.Holders.{holder_found, holder_is}
use Rattle.book.proofs.Tested.{tested}

-- whether two sessions are the same in all
same? : Session → Session → Bool
same? a b = eqb a.number b.number && (eqb a.lane b.lane && (eqb a.size b.size && eqb a.weight b.weight))

same_eq : (a b : Session) → same? a b ≡ true → a ≡ b
unfolding same?
same_eq a b e =
    let p = and_parts (eqb a.number b.number) _ e in
    let q = and_parts (eqb a.lane b.lane) _ p.1 in
    let r = and_parts (eqb a.size b.size) (eqb a.weight b.weight) q.1 in
    let w = eqb-true a.number b.number p.0 in
    let x = eqb-true a.lane b.lane q.0 in
    let y = eqb-true a.size b.size r.0 in
    let z = eqb-true a.weight b.weight r.1 in
    λ i. record { number = w i; lane = x i; size = y i; weight = z i }

same_refl : (a : Session) → same? a a ≡ true
unfolding same?
same_refl a =
    and_from _ _ (eq-eqb a.number a.number refl)
    (and_from _ _ (eq-eqb a.lane a.lane refl) (and_from _ _ (eq-eqb a.size a.size refl) (eq-eqb a.weight a.weight refl)))

abbrev is : Session → Session → ℕ
is a b = cond (same? a b) 1 0

is_eq : (a b : Session) → 1 ≤ is a b → a ≡ b
is_eq a b l = elim (cases_Bool (same? a b)) [ inl e ↦ same_eq a b e | inr e ↦ absurd (omega (arith, cond-false {A = ℕ} (same? a b) 1 0 e)) ]

is_one : (a : Session) → is a a ≡ 1
is_one a = cond-true {A = ℕ} (same? a a) 1 0 (same_refl a)

some_held : (g : Session → ℕ) (x : Option Session) → 1 ≤ opt g x → (s : Session) × (x ≡ Some s) × (1 ≤ g s)
some_held g None l = absurd (omega arith)
some_held g (Some s) l = (s, refl, l)

-- a list of what there is for each number below k
choose : (P : ℕ → ℕ → Type 0) (k : ℕ) → ((i : ℕ) → i < k → (o : ℕ) × P i o) → (os : List ℕ) × (length os ≡ k) × ((i : ℕ) → i < k → P i (get_or os i 0))
choose P zero h = ([], refl, λ i l. absurd (omega arith))
choose P (suc k) h = go (h 0 (omega arith)) (choose (λ i. P (suc i)) k (λ i l. h (suc i) (omega arith)))
  where
    go : (o : ℕ) × P 0 o → (os : List ℕ) × (length os ≡ k) × ((i : ℕ) → i < k → P (suc i) (get_or os i 0)) → (os : List ℕ) × (length os ≡ suc k) × ((i : ℕ) → i < suc k → P i (get_or os i 0))
    go (o, p) (os, e, f) = (o ∷ os, ap suc e, at)
      where
        at : (i : ℕ) → i < suc k → P i (get_or (o ∷ os) i 0)
        at zero l = p
        at (suc i) l = f i (omega arith)

-- a set of 2 ^ j ranks has turns 2 ^ (n - j) apart
pub apart_pow : (n j : ℕ) → j ≤ n → 2 ^ n / 2 ^ j ≡ 2 ^ (n - j)
apart_pow n j h =
    let e : n ≡ (n - j) + j = omega arith in
    ap (λ x. 2 ^ x / 2 ^ j) e ∙ ap (λ x. x / 2 ^ j) (pow-add 2 (n - j) j) ∙ mul-div_left (2 ^ (n - j)) (pow_pos j)

pub split_pow : (n j : ℕ) → j ≤ n → 2 ^ (n - j) * 2 ^ j ≡ 2 ^ n
split_pow n j l = sym (pow-add 2 (n - j) j) ∙ ap (λ x. 2 ^ x) {x = n - j + j} {y = n} (omega arith)

-- where a session stands: from rank f on, which are the slots of offset o
record Spot (n : ℕ) (xs : Ranks) (s : Session) (o : ℕ) : Type 0 where
  f : ℕ
  inside : f < length xs
  stands : get_or xs f None ≡ Some s
  offset : o ≡ reversed n f
  index : ℕ
  first : f ≡ index * s.size
  within : f + s.size ≤ 2 ^ n
  below : o < spacing_of n s
  slots : (z : ℕ) → z < 2 ^ n → ((f ≤ reversed n z) × (reversed n z < f + s.size)) ↔ (z % spacing_of n s ≡ o)

module _ (n : ℕ) (xs : Ranks) (h : Standing n xs) where
  in_book : (f : ℕ) (s : Session) → get_or xs f None ≡ Some s → f < length xs
  in_book f s e = elim (cases_lt f (length xs)) [ inl l ↦ l | inr l ↦ (let e : None ≡ Some s = sym (get_or_past xs f None l) ∙ e in let z : ◌≡◌ {A = ℕ} 0 1 = cc in absurd (omega arith)) ]

  spot_at : (f : ℕ) (s : Session) → get_or xs f None ≡ Some s → Spot n xs s (reversed n f)
  spot_at f s e =
      record {
        f = f;
        inside = in_book f s e;
        stands = e;
        offset = refl;
        index = q;
        first = whole ∙ ap (λ y. q * y) (sym k.size_is);
        within = fits;
        below = subst (λ y. reversed n f < y) (sym t) sp.below;
        slots = λ z l.
            let w = sp.slots z l in (
              (λ p. subst (λ y. z % y ≡ reversed n f) (sym t) (w.0 (omega (arith, p.0, whole), omega (arith, p.1, whole, k.size_is)))),
              λ p. let r = w.1 (subst (λ y. z % y ≡ reversed n f) t p) in (omega (arith, r.0, whole), omega (arith, r.1, whole, k.size_is)),
            );
      }
    where
      k : Fits n s
      k = h.fit f s e

      j : ℕ
      j = k.level

      size_at_lem : size_at xs f ≡ s.size
      size_at_lem = ap size_of e

      shape : Set n f (size_at xs f)
      shape = h.sound.sets f (omega (arith, size_at_lem, k.size_is, pow_pos j))

      fits : f + s.size ≤ 2 ^ n
      fits = subst (λ y. f + y ≤ 2 ^ n) size_at_lem shape.2

      q : ℕ
      q = f / 2 ^ j

      whole : f ≡ q * 2 ^ j
      whole = let z : f % 2 ^ j ≡ 0 = subst (λ y. f % y ≡ 0) (size_at_lem ∙ k.size_is) shape.1 in omega (arith, div-add-mod' f (2 ^ j))

      low : q < 2 ^ (n - j)
      low = (div-lt_iff_lt-mul {k = 2 ^ j} {x = f} {y = 2 ^ (n - j)} (pow_pos j)).1 (omega (arith, split_pow n j k.low, fits, k.size_is, pow_pos j))

      sp : Spaced n j q (reversed n f)
      sp = offset_of_set n f j q k.low low whole

      t : spacing_of n s ≡ 2 ^ (n - j)
      t = ap (λ y. 2 ^ n / y) k.size_is ∙ apart_pow n j k.low

  holder_at : (f r : ℕ) (s : Session) → get_or xs f None ≡ Some s → f ≤ r → r < f + s.size → holder_from 0 xs r ≡ Some s
  holder_at f r s e = holder_is n xs h.sound f r s (in_book f s e) e

  slot_is : (z : ℕ) → z < 2 ^ n → get_or (contents n xs) z empty_slot ≡ slot_in n xs z
  unfolding contents
  slot_is z l = get_or-map-range_with_len (slot_in n xs) 0 (2 ^ n) z z empty_slot l (omega arith)

  -- its weights add up to its grant
  weights_add : (s : Session) (o : ℕ) → Fits n s → Spot n xs s o
      → sum_below (λ z. cond (eqb (z % spacing_of n s) o) (weight_at (grant_of s) s.size (reversed n z)) 0) (2 ^ n) ≡ grant_of s
  weights_add s o k sp =
      sum_same (2 ^ n) (λ z. cond (eqb (z % spacing_of n s) o) (w (reversed n z)) 0) (λ z. cond (row (reversed n z)) (w (reversed n z)) 0) (λ z l. ap (λ b. cond b (w (reversed n z)) 0) (same z l (cases_eq (z % spacing_of n s) o)))
      ∙ sum_reversed n (λ r. cond (row r) (w r) 0)
      ∙ sum_set w sp.f s.size (2 ^ n) sp.within
      ∙ ap (λ y. total w y s.size) sp.first
      ∙ (carries (grant_of s) s.size (omega (arith, k.size_is, pow_pos k.level)) (omega arith) (omega (arith, k.most))).sum sp.index
    where
      w : ℕ → ℕ
      w r = weight_at (grant_of s) s.size r

      row : ℕ → Bool
      row r = leb sp.f r && ltb r (sp.f + s.size)

      same : (z : ℕ) → z < 2 ^ n → (z % spacing_of n s ≡ o) ⊎ (z % spacing_of n s ≡ o → ⊥) → eqb (z % spacing_of n s) o ≡ row (reversed n z)
      same z l (inl e) =
          let r = (sp.slots z l).1 e in
          eq-eqb (z % spacing_of n s) o e ∙ sym (and_from (leb sp.f (reversed n z)) (ltb (reversed n z) (sp.f + s.size)) (le-leb sp.f (reversed n z) r.0) (lt-ltb (reversed n z) (sp.f + s.size) r.1))
      same z l (inr ne) =
          ne_eqb (z % spacing_of n s) o ne ∙ sym (elim (cases_Bool (row (reversed n z))) [
            | inl y ↦
                let p = and_parts (leb sp.f (reversed n z)) (ltb (reversed n z) (sp.f + s.size)) y in
                absurd (ne ((sp.slots z l).0 (leb-true sp.f (reversed n z) p.0, ltb-true (reversed n z) (sp.f + s.size) p.1)))
            | inr y ↦ y
          ])

  module _ (live : List Session) (same : SameSessions live (sessions_of xs)) where
    sums : (g : Session → ℕ) → sum_by g live ≡ sum_by (opt g) xs
    sums g = same g ∙ sum_sessions g xs

    abbrev at : ℕ → Session
    at i = get_or live i no_session

    -- each session of the list stands in the book, and each in the book is of the list
    spot : (i : ℕ) → i < length live → (o : ℕ) × Spot n xs (at i) o
    spot i l =
        let s = at i in
        let r = sum_part (opt (is s)) xs None (omega (arith, sums (is s), get_or-le-sum_by (is s) live i no_session l, is_one s)) in
        let t = some_held (is s) (get_or xs r.0 None) r.2 in
        (reversed n r.0, spot_at r.0 s (t.1 ∙ ap Some (sym (is_eq s t.0 t.2))))

    listed : (f : ℕ) (s : Session) → get_or xs f None ≡ Some s → (i : ℕ) × (i < length live) × (at i ≡ s)
    listed f s e =
        let r = sum_part (is s) live no_session (omega (arith, sums (is s), get_or-le-sum_by (opt (is s)) xs f None (in_book f s e), ap (opt (is s)) e, is_one s)) in
        (r.0, r.1, sym (is_eq s (at r.0) r.2))

    pub fit_at : (i : ℕ) → i < length live → Fits n (at i)
    fit_at i l = let sp = (spot i l).1 in h.fit sp.f (at i) sp.stands

    -- no number is listed twice
    one_index : (i j : ℕ) → i < length live → j < length live → (at i).number ≡ (at j).number → i ≡ j
    one_index i j a b e =
        let m = (at j).number in
        let one : (v : Session) → v.number ≡ m → called m v ≡ 1 = λ v z. cond-true {A = ℕ} (eqb v.number m) 1 0 (eq-eqb v.number m z) in
        sum_one (called m) live no_session i j a b (omega (arith, one (at i) e)) (omega (arith, one (at j) refl)) (omega (arith, sums (called m), once_count xs (tested n xs h).once m))

    picks : (os : List ℕ) × (length os ≡ length live) × ((i : ℕ) → i < length live → Spot n xs (at i) (get_or os i 0))
    picks = choose (λ i o. Spot n xs (at i) o) (length live) spot

    os : List ℕ
    os = picks.0

    sp : (i : ℕ) → i < length live → Spot n xs (at i) (get_or picks.0 i 0)
    sp = picks.2

    fewer : (i : ℕ) → i < length (spacings n live) → i < length live
    fewer i l = omega (arith, length-map live (spacing_of n))

    spacing_at : (i : ℕ) → i < length live → get_or (spacings n live) i 0 ≡ spacing_of n (at i)
    spacing_at i l = get_or-map (spacing_of n) live i no_session 0 l

    covers : (i z : ℕ) (l : i < length live) → z < 2 ^ n → Has (spacings n live) picks.0 i z → ((sp i l).f ≤ reversed n z) × (reversed n z < (sp i l).f + (at i).size)
    covers i z l low e = ((sp i l).slots z low).1 (sym (ap (λ y. z % y) (spacing_at i l)) ∙ e)

    covered : (i z : ℕ) (l : i < length live) → z < 2 ^ n → (sp i l).f ≤ reversed n z → reversed n z < (sp i l).f + (at i).size → Has (spacings n live) picks.0 i z
    covered i z l low a b = ap (λ y. z % y) (spacing_at i l) ∙ ((sp i l).slots z low).0 (a, b)

    same_session : (i j z : ℕ) → i < length live → j < length live → z < 2 ^ n → Has (spacings n live) picks.0 i z → Has (spacings n live) picks.0 j z → i ≡ j
    same_session i j z a b low x y =
        let p = sp i a in
        let q = sp j b in
        let u = covers i z a low x in
        let v = covers j z b low y in
        let e : p.f ≡ q.f = h.sound.apart p.f q.f (reversed n z) (u.0, omega (arith, u.1, ap size_of p.stands)) (v.0, omega (arith, v.1, ap size_of q.stands)) in
        one_index i j a b (number (at i) (at j) (sym p.stands ∙ ap (λ f. get_or xs f None) e ∙ q.stands))
      where
        number : (s t : Session) → Some s ≡ Some t → s.number ≡ t.number
        number s t e = let z : s ≡ t = cc in ap (λ (y : Session). y.number) z

    here : (i z : ℕ) → i < length live → z < 2 ^ n → Has (spacings n live) picks.0 i z → get_or (contents n xs) z empty_slot ≡ slot_for (reversed n z) (Some (at i))
    here i z l low e =
        let u = covers i z l low e in
        slot_is z low ∙ ap (slot_for (reversed n z)) (holder_at (sp i l).f (reversed n z) (at i) (sp i l).stands u.0 u.1)

    nobody : (z : ℕ) → z < 2 ^ n → ((i : ℕ) → i < length live → Has (spacings n live) picks.0 i z → ⊥) → (x : Option Session) → x ≡ holder_from 0 xs (reversed n z) → slot_in n xs z ≡ empty_slot
    nobody z low none None e = ap (slot_for (reversed n z)) (sym e)
    nobody z low none (Some s) e =
        let r = holder_found xs 0 (reversed n z) s (sym e) in
        let w = listed r.0 s r.2 in
        let p = sp w.0 w.1 in
        let first : p.f ≡ r.0 = h.once p.f r.0 (at w.0) s p.stands r.2 (ap (λ (y : Session). y.number) w.2) in
        let wide : (at w.0).size ≡ s.size = ap (λ (y : Session). y.size) w.2 in
        absurd (none w.0 w.1 (covered w.0 z w.1 low (omega (arith, r.3, first)) (omega (arith, r.4, first, wide))))

    pub placed_in : Placed n xs live (contents n xs)
    placed_in =
        record {
          offsets = picks.0;
          even = record {
            same = picks.1 ∙ sym (length-map live (spacing_of n));
            inside = λ i l. subst (λ y. get_or picks.0 i 0 < y) (sym (spacing_at i (fewer i l))) (sp i (fewer i l)).below;
            apart = λ i j z l m low x y. same_session i j z (fewer i l) (fewer j m) low x y;
          };
          sets = λ i l. ((sp i l).f, (sp i l).stands, (sp i l).offset);
          lane = λ i z l low e. ap (λ (c : Slot). c.lane) (here i z l low e);
          weight = λ i z l low e. ap (λ (c : Slot). c.weight) (here i z l low e);
          granted = λ i l.
              sum_same (2 ^ n) (λ z. cond (eqb (z % get_or (spacings n live) i 0) (get_or picks.0 i 0)) (get_or (contents n xs) z empty_slot).weight 0)
              (λ z. cond (eqb (z % spacing_of n (at i)) (get_or picks.0 i 0)) (weight_at (grant_of (at i)) (at i).size (reversed n z)) 0) (λ z low. each i l z low (cases_eq (z % get_or (spacings n live) i 0) (get_or picks.0 i 0)))
              ∙ weights_add (at i) (get_or picks.0 i 0) (fit_at i l) (sp i l);
          empty = λ z low none. slot_is z low ∙ nobody z low none (holder_from 0 xs (reversed n z)) refl;
        }
      where
        each : (i : ℕ) → i < length live → (z : ℕ) → z < 2 ^ n → (z % get_or (spacings n live) i 0 ≡ get_or picks.0 i 0) ⊎ (z % get_or (spacings n live) i 0 ≡ get_or picks.0 i 0 → ⊥)
            → cond (eqb (z % get_or (spacings n live) i 0) (get_or picks.0 i 0)) (get_or (contents n xs) z empty_slot).weight 0
            ≡ cond (eqb (z % spacing_of n (at i)) (get_or picks.0 i 0)) (weight_at (grant_of (at i)) (at i).size (reversed n z)) 0
        each i l z low (inl e) =
            cond-true {A = ℕ} (eqb (z % get_or (spacings n live) i 0) (get_or picks.0 i 0)) (get_or (contents n xs) z empty_slot).weight 0 (eq-eqb (z % get_or (spacings n live) i 0) (get_or picks.0 i 0) e)
            ∙ ap (λ (c : Slot). c.weight) (here i z l low e)
            ∙ sym (cond-true {A = ℕ} (eqb (z % spacing_of n (at i)) (get_or picks.0 i 0)) (weight_at (grant_of (at i)) (at i).size (reversed n z)) 0
            (eq-eqb (z % spacing_of n (at i)) (get_or picks.0 i 0) (sym (ap (λ y. z % y) (spacing_at i l)) ∙ e)))
        each i l z low (inr ne) =
            cond-false {A = ℕ} (eqb (z % get_or (spacings n live) i 0) (get_or picks.0 i 0)) (get_or (contents n xs) z empty_slot).weight 0 (ne_eqb (z % get_or (spacings n live) i 0) (get_or picks.0 i 0) ne)
            ∙ sym (cond-false {A = ℕ} (eqb (z % spacing_of n (at i)) (get_or picks.0 i 0)) (weight_at (grant_of (at i)) (at i).size (reversed n z)) 0
            (ne_eqb (z % spacing_of n (at i)) (get_or picks.0 i 0) (λ e. ne (ap (λ y. z % y) (spacing_at i l) ∙ e))))

pub placed_law : (n : ℕ) (xs : Ranks) → Standing n xs → PlacedLaw n xs (contents n xs)
placed_law n xs h live same = placed_in n xs h live same

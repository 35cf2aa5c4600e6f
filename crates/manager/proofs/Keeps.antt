-- A book keeps the sessions of a list: what the laws of books say of it.
use Rattle.std.proofs.Common.{◌≡◌, ℕ, ◌+◌, ◌-◌, ◌*◌, ◌/◌, ◌%◌, ◌^◌, ◌<◌, ◌≤◌, Bool, true, false, ◌||◌, eqb, leb, ◌⊎◌, ◌↔◌, List, [], ◌∷◌, map, length, get_or, Some, None, sum_by, Option, sym, refl, ap, ◌∙◌, inl, inr, arith, pow_pos}
use Rattle.std.specs.List.{range_with_len, AllByRecursion}
use Rattle.std.proofs.lemmas.Nat.{mod-mul-add}
use Rattle.std.proofs.lemmas.List.{get_or_past}
use Rattle.std.proofs.lemmas.List.Sums.{sum_by-cons, get_or-le-sum_by}
use Rattle.std.proofs.lemmas.Bool.{cases_Bool, cases_lt, both_ways, cond-true, cond-false, eq-eqb, leb-true}
use Rattle.table.specs.declared.slot.Slot.{Slot}
use Rattle.table.specs.Slots.{bits, slots, most_weight, lane_count}
use Rattle.table.specs.Services.{distances, size_of, Carries, IsSpacing}
use Rattle.table.specs.Reversal.{reversed}
use Rattle.table.proofs.Given.{served}
use Rattle.table.proofs.Weights.{carries}
use Rattle.book.specs.declared.session.Session.{Session}
use Rattle.book.specs.Books.{Ranks, empty_ranks, free_ranks, place_for, filled, released, holds, contents, grant_of}
use Rattle.book.specs.Slots.{slot_for, slot_in, holder_from}
use Rattle.book.specs.Standing.{Fits, Standing}
use Rattle.book.specs.Sessions.{sessions_of, without, SameSessions, spacing_of, spacings}
use Rattle.book.specs.Even.{Placeable}
use Rattle.book.specs.Laws.{InBook, FillLaw, Placed, no_session}
use Rattle.book.proofs.Keeping.{empty_stands, filled_stands, fill_law, released_stands, release_law}
use Rattle.book.proofs.Spots.{placed_law, fit_at, apart_pow, split_pow}
use Rattle.book.proofs.Admits.{room_law}
use Rattle.book.proofs.Sums.{opt, only, called, sum_sessions, sum_without, holds_none}
use Rattle.book.proofs.Tested.{holds_at, at_holds, holder_has}
use Rattle.manager.specs.Histories.{spacing_for, booked, has}

-- The book is in order, and its sessions are those of the list.
pub record Keeps (xs : List Session) (b : Ranks) : Type 0 where
  pub stands : Standing bits b
  pub same : SameSessions xs (sessions_of b)

pub keeps_none : Keeps [] (empty_ranks bits)
unfolding sessions_of
keeps_none = record { stands = empty_stands bits; same = λ g. refl }

-- counts of a number
has_count : (n : ℕ) (xs : List Session) → has n xs ≡ true → 1 ≤ sum_by (called n) xs
has_count n [] h = absurd (both_ways false refl h)
has_count n (x ∷ xs) h = go (eqb x.number n) refl (has_count n xs) h
  where
    go : (t : Bool) → t ≡ eqb x.number n → (has n xs ≡ true → 1 ≤ sum_by (called n) xs) → (t || has n xs) ≡ true → 1 ≤ sum_by (called n) (x ∷ xs)
    go true e ih h = omega (arith, sum_by-cons (called n) x xs, cond-true {A = ℕ} (eqb x.number n) 1 0 (sym e))
    go false e ih h = omega (arith, sum_by-cons (called n) x xs, ih h)

hasnt_count : (n : ℕ) (xs : List Session) → has n xs ≡ false → sum_by (called n) xs ≡ 0
hasnt_count n [] h = refl
hasnt_count n (x ∷ xs) h = go (eqb x.number n) refl (hasnt_count n xs) h
  where
    go : (t : Bool) → t ≡ eqb x.number n → (has n xs ≡ false → sum_by (called n) xs ≡ 0) → (t || has n xs) ≡ false → sum_by (called n) (x ∷ xs) ≡ 0
    go true e ih h = absurd (both_ways true h refl)
    go false e ih h = omega (arith, sum_by-cons (called n) x xs, ih h, cond-false {A = ℕ} (eqb x.number n) 1 0 (sym e))

-- the book has a number where the list has it
held_count : (n : ℕ) (b : Ranks) → Standing bits b → holds n b ≡ true → 1 ≤ sum_by (opt (called n)) b
held_count n b s h = at (holds_at n b h)
  where
    at : InBook b n → 1 ≤ sum_by (opt (called n)) b
    at (f, x, is, number_is) =
        let inside : f < length b = low f x is (cases_lt f (length b)) in
        omega (arith, get_or-le-sum_by (opt (called n)) b f None inside, ap (opt (called n)) is, cond-true {A = ℕ} (eqb x.number n) 1 0 (eq-eqb x.number n number_is))
      where
        low : (f : ℕ) (x : Session) → get_or b f None ≡ Some x → (f < length b) ⊎ (length b ≤ f) → f < length b
        low f x is (inl l) = l
        low f x is (inr m) = let e : Some x ≡ None = sym is ∙ get_or_past b f None m in let z : ◌≡◌ {A = ℕ} 0 1 = cc in absurd (omega arith)

pub holding : (xs : List Session) (b : Ranks) (n : ℕ) → Keeps xs b → holds n b ≡ has n xs
holding xs b n k = go (cases_Bool (holds n b)) (cases_Bool (has n xs))
  where
    go : (holds n b ≡ true) ⊎ (holds n b ≡ false) → (has n xs ≡ true) ⊎ (has n xs ≡ false) → holds n b ≡ has n xs
    go (inl a) (inl c) = a ∙ sym c
    go (inl a) (inr c) = absurd (omega (arith, held_count n b k.stands a, hasnt_count n xs c, k.same (called n), sum_sessions (called n) b))
    go (inr a) (inl c) = absurd (omega (arith, holds_none n b a, has_count n xs c, k.same (called n), sum_sessions (called n) b))
    go (inr a) (inr c) = a ∙ sym c

-- a session that is asked for with a level and a weight that can be served
module _ (n level weight : ℕ) (known : level < length distances) (some : 1 ≤ weight) (most : weight ≤ most_weight * slots) where
  is_spacing : IsSpacing bits (get_or distances level 0) weight (spacing_for level weight)
  is_spacing = (served level weight known some most).spacing

  pub power : (k : ℕ) × (k ≤ bits) × (spacing_for level weight ≡ 2 ^ k)
  power = is_spacing.power

  pub booked_fits : level < lane_count → Fits bits (booked n level weight)
  booked_fits lane = record {
    level = bits - power.0;
    low = omega arith;
    size_is = ap (λ t. 2 ^ bits / t) power.2 ∙ apart_pow bits power.0 power.1;
    some = some;
    most = is_spacing.serves.carried;
    lane = lane;
  }

  pub keeps_more : (xs : List Session) (b : Ranks) → Keeps xs b → has n xs ≡ false → leb (size_of bits (spacing_for level weight)) (free_ranks bits b) ≡ true
      → Keeps (booked n level weight ∷ xs) (filled bits b (booked n level weight))
  keeps_more xs b k new enough = record { stands = filled_stands bits b s k.stands; same = go (place_for bits b s) (fill_law bits b s k.stands) }
    where
      s : Session
      s = booked n level weight

      not_there : InBook b n → ⊥
      not_there (f, x, is, number_is) = both_ways (holds n b) (holding xs b n k ∙ new) (held f x is number_is)
        where
          held : (f : ℕ) (x : Session) → get_or b f None ≡ Some x → x.number ≡ n → holds n b ≡ true
          held f x is e = at_holds n b f x is e

      go : (o : Option ℕ) → FillLaw bits b s o (filled bits b s) → SameSessions (s ∷ xs) (sessions_of (filled bits b s))
      go None law = absurd (clash (free_ranks bits b) s.size (law.why (booked_fits (omega arith)) not_there) (leb-true s.size (free_ranks bits b) enough))
        where
          clash : (x y : ℕ) → x < y → y ≤ x → ⊥
          clash x y a b = omega arith
      go (Some f) law = λ g. omega (arith, sum_by-cons g s xs, k.same g, law.sessions g, sum_by-cons g s (sessions_of b))

  -- room exactly where there is an even placement
  pub room : (xs : List Session) (b : Ranks) → Keeps xs b → (leb (size_of bits (spacing_for level weight)) (free_ranks bits b) ≡ true) ↔ Placeable slots (spacing_for level weight ∷ spacings bits xs)
  room xs b k = room_law bits b (size_of bits (spacing_for level weight)) k.stands xs k.same power.0 (spacing_for level weight) power.1 power.2 refl

pub keeps_less : (xs : List Session) (b : Ranks) (n : ℕ) → Keeps xs b → Keeps (without n xs) (released bits b n)
keeps_less xs b n k = record {
  stands = released_stands bits b n k.stands;
  same = λ g. omega (arith, sum_without g n xs, sum_without g n (sessions_of b), k.same g, k.same (only g n), (release_law bits b n k.stands).sessions g);
}

pub placed : (xs : List Session) (b : Ranks) → Keeps xs b → Placed bits b xs (contents bits b)
placed xs b k = placed_law bits b k.stands xs k.same

pub fits_at : (xs : List Session) (b : Ranks) → Keeps xs b → (i : ℕ) → i < length xs → Fits bits (get_or xs i no_session)
fits_at xs b k i l = fit_at bits b k.stands xs k.same i l

-- a session's spacing divides the table, and its grant gives each of its slots something
module _ (x : Session) (ft : Fits bits x) where
  pub spacing_is : spacing_of bits x ≡ 2 ^ (bits - ft.level)
  spacing_is = ap (λ m. 2 ^ bits / m) ft.size_is ∙ apart_pow bits ft.level ft.low

  pub divides : slots % spacing_of bits x ≡ 0
  divides =
      ap (λ y. y % spacing_of bits x) {x = slots} {y = 2 ^ ft.level * spacing_of bits x + 0}
      (omega (arith, split_pow bits ft.level ft.low, ap (λ y. 2 ^ ft.level * y) spacing_is))
      ∙ mod-mul-add (2 ^ ft.level) (spacing_of bits x) 0 (omega (arith, spacing_is, pow_pos (bits - ft.level)))

  pub weights : Carries (grant_of x) x.size
  weights = carries (grant_of x) x.size (omega (arith, ft.size_is, pow_pos ft.level)) (omega arith) (omega (arith, ft.most, ft.size_is, pow_pos ft.level))

-- no slot carries more than the most, and each slot's lane is one that ports have
all_map : {X : Type 0} (P : X → Type 0) (f : ℕ → X) (ns : List ℕ) → ((n : ℕ) → P (f n)) → AllByRecursion P (map f ns)
all_map P f [] h = tt
all_map P f (n ∷ ns) h = (h n, all_map P f ns h)

abbrev pub Proper : Slot → Type 0
Proper c = (c.weight ≤ most_weight) × (c.lane < lane_count)

pub proper : (b : Ranks) → Standing bits b → AllByRecursion Proper (contents bits b)
unfolding contents
proper b s = all_map Proper (slot_in bits b) (range_with_len 0 (2 ^ bits)) (λ z. at (reversed bits z))
  where
    one : (r : ℕ) (o : Option Session) → ((x : Session) → o ≡ Some x → Fits bits x) → Proper (slot_for r o)
    one r None h = (omega arith, omega arith)
    one r (Some x) h = ((weights x (h x refl)).most r, (h x refl).lane)

    at : (r : ℕ) → Proper (slot_for r (holder_from 0 b r))
    at r = one r (holder_from 0 b r) (holder_has (λ o. (x : Session) → o ≡ Some x → Fits bits x) (λ x e. let z : ◌≡◌ {A = ℕ} 0 1 = cc in absurd (omega arith)) b (λ i l x e. s.fit i x e) 0 r)

pub contents_length : (b : Ranks) → length (contents bits b) ≡ slots
unfolding contents
contents_length b = refl

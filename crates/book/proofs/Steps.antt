-- What fill-in, release, joining and ordering do to the entries of a book, one step each.
use Rattle.std.proofs.Common.{◌≡◌, ℕ, zero, suc, ◌+◌, ◌-◌, ◌*◌, ◌/◌, ◌^◌, ◌<◌, ◌≤◌, ◌⊎◌, length, set, Some, None, sym, refl, ap, ◌∙◌, subst, inl, inr, pow-suc, div-add-mod', arith, pow_pos}
use lib.Pow.{high, pow-lt}
use Rattle.std.proofs.lemmas.List.{get_or-set_same, get_or-set_other}
use Rattle.std.proofs.lemmas.Bool.{cases_eq, cases_lt}
use Rattle.book.specs.declared.session.Session.{Session}
use Rattle.book.proofs.Views.{Swapped, total}
use Rattle.book.specs.Levels.{FreeIn, up, dbl, sw, Free, Whole, Differ, Others, GrowFrom}
use Rattle.book.specs.Entries.{size_at, size_of, Ranks}
use Rattle.book.specs.Sound.{Set, FreeSet, Sound, Ordered}
use Rattle.book.proofs.Levels.{up_half, up_up, both, join_frees, join, order_differ, order}
use Rattle.book.proofs.Counts.{dbl_pow, dbl_mono}
use Rattle.book.proofs.Doubles.{dbl_two, dbl_add, up_below}
use Rattle.book.proofs.Filling.{around, bounded, fill, free_first, free_part, up_dbl}
use Rattle.book.proofs.Freeing.{release, released, grow_differ, loose_whole, whole_loose, loose_last, order_skip}
use Rattle.book.proofs.Places.{index_below, below_index, set_in, size_pow, set_index, index_set, free_all, dbl_pos, within, table, ordered_grow, grow_ordered}
use Rattle.book.proofs.Room.{free_or_not}
use Rattle.book.proofs.Change.{taken, taken_to, taken_from, let_go, gone_more, gone_given, gone_only}
use Rattle.book.proofs.Swaps.{exchanged, free_to, free_from, below_up}
use Rattle.book.proofs.Blocks.{swapped_sw}

-- the whole set around a free one
pub host : (n : ℕ) (xs : Ranks) (j q : ℕ) → j ≤ n → Free (FreeIn n xs) j q → (d : ℕ) × (d ≤ n - j) × Whole (FreeIn n xs) (d + j) (up d q)
host n xs j q l h =
    around (FreeIn n xs) (free_or_not n (size_at xs)) (n - j) j n q (omega arith) h (bounded (FreeIn n xs) n (up (suc (n - j)) q) (table n (size_at xs)))

-- Fill-in
module _ (n j q : ℕ) (xs : Ranks) (h : Session) (len : 2 ^ n ≤ length xs) (low : j ≤ n) (size : h.size ≡ 2 ^ j)
    (sound : Sound n (size_at xs)) (free : Free (FreeIn n xs) j q) (least : (a : ℕ) → Free (FreeIn n xs) j a → q ≤ a) where
  filled_new : size_at (set xs (dbl j q) (Some h)) (dbl j q) ≡ dbl j 1
  filled_new =
      ap size_of (get_or-set_same xs (dbl j q) (Some h) None (omega (arith, within n (size_at xs) j q free, dbl_pos j)))
      ∙ size ∙ sym (size_pow j)

  filled_same : (r : ℕ) → (r ≡ dbl j q → ⊥) → size_at (set xs (dbl j q) (Some h)) r ≡ size_at xs r
  filled_same r ne = ap size_of (get_or-set_other xs (dbl j q) r (Some h) None ne)

  pub filled_to : (r : ℕ) → FreeIn n (set xs (dbl j q) (Some h)) r → FreeIn n xs r × (up j r ≡ q → ⊥)
  filled_to = taken_to n (size_at xs) (size_at (set xs (dbl j q) (Some h))) j q sound free filled_new filled_same

  pub filled_from : (r : ℕ) → FreeIn n xs r → (up j r ≡ q → ⊥) → FreeIn n (set xs (dbl j q) (Some h)) r
  filled_from = taken_from n (size_at xs) (size_at (set xs (dbl j q) (Some h))) j q sound free filled_new filled_same

  pub filled_sound : Sound n (size_at (set xs (dbl j q) (Some h)))
  filled_sound = taken n (size_at xs) (size_at (set xs (dbl j q) (Some h))) j q sound free filled_new filled_same

  pub filled_ordered : Ordered n (size_at xs) → Ordered n (size_at (set xs (dbl j q) (Some h)))
  filled_ordered ord =
      let ys : Ranks = set xs (dbl j q) (Some h) in
      let t = host n xs j q low free in
      grow_ordered n (size_at ys)
      (fill (FreeIn n xs) (FreeIn n ys) (free_or_not n (size_at xs)) j q least
      filled_to
      filled_from
      t.0 (t.0 + j) refl t.2 (ordered_grow n (size_at xs) ord))

-- Release
module _ (n f j a : ℕ) (xs : Ranks) (len : 2 ^ n ≤ length xs) (at : f ≡ dbl j a) (size : size_at xs f ≡ dbl j 1) (lt : f < 2 ^ n)
    (sound : Sound n (size_at xs)) where
  gone : size_at (set xs f None) f ≡ 0
  gone = ap size_of (get_or-set_same xs f None None (omega arith))

  gone_same : (r : ℕ) → (r ≡ f → ⊥) → size_at (set xs f None) r ≡ size_at xs r
  gone_same r ne = ap size_of (get_or-set_other xs f r None None ne)

  pub freed_from : (r : ℕ) → FreeIn n xs r → FreeIn n (set xs f None) r
  freed_from = gone_more n (size_at xs) (size_at (set xs f None)) f j a sound at size gone gone_same

  pub freed_to : (r : ℕ) → FreeIn n (set xs f None) r → (up j r ≡ a → ⊥) → FreeIn n xs r
  freed_to = gone_only n (size_at xs) (size_at (set xs f None)) f j a sound at size gone gone_same

  pub gone_sound : Sound n (size_at (set xs f None))
  gone_sound = let_go n (size_at xs) (size_at (set xs f None)) f j a sound at size gone gone_same

  pub gone_free : Free (FreeIn n (set xs f None)) j a
  gone_free =
      let ys : Ranks = set xs f None in
      released (FreeIn n xs) (FreeIn n ys) j a
      freed_from
      (gone_given n (size_at xs) (size_at ys) f j a sound at size gone gone_same)
      freed_to

  pub gone_others : Ordered n (size_at xs) → (e w : ℕ) → e + j ≡ w → Whole (FreeIn n (set xs f None)) w (up e a) → Others (FreeIn n (set xs f None)) w (up e a)
  gone_others ord =
      let ys : Ranks = set xs f None in
      release (FreeIn n xs) (FreeIn n ys) j a
      freed_from
      (gone_given n (size_at xs) (size_at ys) f j a sound at size gone gone_same)
      freed_to
      (grow_differ (FreeIn n xs) (ordered_grow n (size_at xs) ord))

-- Exchange: two sets, each with a free rank in its double
module _ (n k s p q : ℕ) (xs ys : Ranks) (levels : k + s ≡ n) (hp : p < dbl k 1) (hq : q < dbl k 1)
    (sound : Sound n (size_at xs)) (swapped : Swapped (dbl s p) (dbl s q) (dbl s 1) xs ys)
    (a b : ℕ) (fa : FreeIn n xs a) (ea : up (suc s) a ≡ p / 2) (fb : FreeIn n xs b) (eb : up (suc s) b ≡ q / 2) where
  sized : (r : ℕ) → size_at ys r ≡ size_at xs (sw p q s r)
  sized r = ap size_of (swapped_sw p q s xs ys swapped r)

  pub exchange_sound : Sound n (size_at ys)
  exchange_sound = exchanged n k s p q levels hp hq (size_at xs) (size_at ys) sound sized a b fa ea fb eb

  pub exchange_to : (r : ℕ) → FreeIn n ys r → FreeIn n xs (sw p q s r)
  exchange_to = free_to n k s p q levels hp hq (size_at xs) (size_at ys) sound sized a b fa ea fb eb

  pub exchange_from : (r : ℕ) → FreeIn n xs (sw p q s r) → FreeIn n ys r
  exchange_from = free_from n k s p q levels hp hq (size_at xs) (size_at ys) sound sized a b fa ea fb eb

-- where sets are
pub level_in : (n : ℕ) (xs : Ranks) (s p : ℕ) → Free (FreeIn n xs) s p → s ≤ n
level_in n xs s p h =
    elim (cases_lt n s) [
      | inr l ↦ l
      | inl l ↦ absurd (bounded (FreeIn n xs) n (dbl (s - suc n) p) (table n (size_at xs)) (free_part (FreeIn n xs) (s - suc n) (suc n) s p (omega arith) h))
    ]

pub index_in : (n : ℕ) (xs : Ranks) (s p : ℕ) → Free (FreeIn n xs) s p → p < dbl (n - s) 1
index_in n xs s p h = omega (arith, index_below n s p (level_in n xs s p h) (within n (size_at xs) s p h), size_pow (n - s))

pub in_table : (n s q : ℕ) → s ≤ n → q < dbl (n - s) 1 → dbl s q + dbl s 1 ≤ 2 ^ n
in_table n s q l h = below_index n s q l (omega (arith, size_pow (n - s)))

pub sets_apart : (s p q : ℕ) → (p ≡ q → ⊥) → (dbl s p + dbl s 1 ≤ dbl s q) ⊎ (dbl s q + dbl s 1 ≤ dbl s p)
sets_apart s p q n =
    elim (cases_lt p q) [
      | inl l ↦ inl (omega (arith, dbl_mono s (p + 1) q (omega arith), dbl_add s p 1))
      | inr l ↦ inr (omega (arith, dbl_mono s (q + 1) p (omega arith), dbl_add s q 1))
    ]

-- Joining: the start set p and the other's brother q
module _ (n s p o q : ℕ) (xs : Ranks) (start : Whole (FreeIn n xs) s p) (other : Whole (FreeIn n xs) s o)
    (apart : o ≡ p → ⊥) (near : q / 2 ≡ o / 2) (brother : q ≡ o → ⊥) where
  pub join_low : s < n
  join_low =
      elim (cases_lt s n) [
        | inl l ↦ l
        | inr l ↦
            let z : n - s ≡ 0 = omega arith in
            let e = ap (λ x. dbl x 1) z in
            absurd (apart (omega (arith, e, index_in n xs s p start.0, index_in n xs s o other.0)))
      ]

  pub join_in : q < dbl (n - s) 1
  join_in =
      let k : ℕ = n - suc s in
      let z : n - s ≡ suc k = omega (arith, join_low) in
      let e = ap (λ x. dbl x 1) z in
      omega (arith, e, dbl_two k 1, index_in n xs s o other.0)

  pub join_apart : p ≡ q → ⊥
  join_apart e = other.1 (both (FreeIn n xs) s o q near brother other.0 (subst (Free (FreeIn n xs) s) e start.0))

  module _ (ys : Ranks) (sound : Sound n (size_at xs)) (swapped : Swapped (dbl s p) (dbl s q) (dbl s 1) xs ys) where
    j_to : (r : ℕ) → FreeIn n ys r → FreeIn n xs (sw p q s r)
    j_to = exchange_to n (n - s) s p q xs ys (omega (arith, join_low)) (index_in n xs s p start.0) join_in sound swapped
        (dbl s p) (dbl s o) (free_first (FreeIn n xs) s p start.0) (up_half s (dbl s p) ∙ ap (λ x. x / 2) (up_dbl s p))
        (free_first (FreeIn n xs) s o other.0) (up_half s (dbl s o) ∙ ap (λ x. x / 2) (up_dbl s o) ∙ sym near)

    j_from : (r : ℕ) → FreeIn n xs (sw p q s r) → FreeIn n ys r
    j_from = exchange_from n (n - s) s p q xs ys (omega (arith, join_low)) (index_in n xs s p start.0) join_in sound swapped
        (dbl s p) (dbl s o) (free_first (FreeIn n xs) s p start.0) (up_half s (dbl s p) ∙ ap (λ x. x / 2) (up_dbl s p))
        (free_first (FreeIn n xs) s o other.0) (up_half s (dbl s o) ∙ ap (λ x. x / 2) (up_dbl s o) ∙ sym near)

    pub joined_sound : Sound n (size_at ys)
    joined_sound = exchange_sound n (n - s) s p q xs ys (omega (arith, join_low)) (index_in n xs s p start.0) join_in sound swapped
        (dbl s p) (dbl s o) (free_first (FreeIn n xs) s p start.0) (up_half s (dbl s p) ∙ ap (λ x. x / 2) (up_dbl s p))
        (free_first (FreeIn n xs) s o other.0) (up_half s (dbl s o) ∙ ap (λ x. x / 2) (up_dbl s o) ∙ sym near)

    pub joined_free : Free (FreeIn n ys) (suc s) (o / 2)
    joined_free = join_frees (FreeIn n xs) (FreeIn n ys) s p q j_to j_from start o other apart near brother

    pub joined_others : Others (FreeIn n xs) s p → (w e : ℕ) → e + s ≡ w → Whole (FreeIn n ys) w (up e o) → Others (FreeIn n ys) w (up e o)
    joined_others = join (FreeIn n xs) (FreeIn n ys) s p q j_to j_from start o other apart near brother

    -- the new start set, as the climb finds it
    pub joined_again : Others (FreeIn n xs) s p → (w x : ℕ) → s + 1 ≤ w → x ≡ up (w - (s + 1)) (o / 2) → Whole (FreeIn n ys) w x → Others (FreeIn n ys) w x
    joined_again oth w x l e h =
        subst (Others (FreeIn n ys) w) (sym e) (joined_others oth w (suc (w - (s + 1))) (omega arith) (subst (Whole (FreeIn n ys) w) e h))

-- Ordering: the whole set p, and the rightmost free rank r outside of the free sets of its size
module _ (n s p r : ℕ) (xs : Ranks) (start : Whole (FreeIn n xs) s p) (free : FreeIn n xs r) (loose : Free (FreeIn n xs) s (up s r) → ⊥) where
  pub order_in : up s r < dbl (n - s) 1
  order_in = below_up (n - s) (up s r) (sym (up_up (n - s) s n r (omega (arith, level_in n xs s p start.0))) ∙ up_below n r (omega (arith, free.0, size_pow n)))

  module _ (ys : Ranks) (sound : Sound n (size_at xs)) (swapped : Swapped (dbl s p) (dbl s (up s r)) (dbl s 1) xs ys) where
    o_to : (a : ℕ) → FreeIn n ys a → FreeIn n xs (sw p (up s r) s a)
    o_to = exchange_to n (n - s) s p (up s r) xs ys (omega (arith, level_in n xs s p start.0)) (index_in n xs s p start.0) order_in sound swapped
        (dbl s p) r (free_first (FreeIn n xs) s p start.0) (up_half s (dbl s p) ∙ ap (λ x. x / 2) (up_dbl s p)) free (up_half s r)

    o_from : (a : ℕ) → FreeIn n xs (sw p (up s r) s a) → FreeIn n ys a
    o_from = exchange_from n (n - s) s p (up s r) xs ys (omega (arith, level_in n xs s p start.0)) (index_in n xs s p start.0) order_in sound swapped
        (dbl s p) r (free_first (FreeIn n xs) s p start.0) (up_half s (dbl s p) ∙ ap (λ x. x / 2) (up_dbl s p)) free (up_half s r)

    pub ordered_sound : Sound n (size_at ys)
    ordered_sound = exchange_sound n (n - s) s p (up s r) xs ys (omega (arith, level_in n xs s p start.0)) (index_in n xs s p start.0) order_in sound swapped
        (dbl s p) r (free_first (FreeIn n xs) s p start.0) (up_half s (dbl s p) ∙ ap (λ x. x / 2) (up_dbl s p)) free (up_half s r)

    pub ordered_differ : Differ (FreeIn n xs) → Differ (FreeIn n ys)
    ordered_differ differ =
        let t = loose_whole (FreeIn n xs) (free_or_not n (size_at xs)) s r free loose in
        order_differ (FreeIn n xs) (FreeIn n ys) s p (up s r) o_to o_from differ start t.0 t.1 t.2 t.4 t.3 t.5

    pub ordered_from : Differ (FreeIn n xs) → p < up s r → ((a : ℕ) → FreeIn n xs a → (Free (FreeIn n xs) s (up s a) → ⊥) → a ≤ r)
        → GrowFrom (FreeIn n xs) (suc s) → GrowFrom (FreeIn n ys) s
    ordered_from differ right last grow =
        let t = loose_whole (FreeIn n xs) (free_or_not n (size_at xs)) s r free loose in
        order (FreeIn n xs) (FreeIn n ys) s p (up s r) o_to o_from differ start t.0 t.1 t.2 t.4 t.3 t.5 right (loose_last (FreeIn n xs) s r last) grow

-- the double of a set
pub parent_in : (n l q : ℕ) → l < n → dbl l q + dbl l 1 ≤ 2 ^ n → dbl (l + 1) (q / 2) + dbl (l + 1) 1 ≤ 2 ^ n
parent_in n l q lt h =
    let a = index_below n l q (omega arith) h in
    let k : ℕ = n - (l + 1) in
    let z : n - l ≡ suc k = omega arith in
    let e = ap (λ x. 2 ^ x) z ∙ pow-suc 2 k in
    below_index n (l + 1) (q / 2) (omega arith) (omega (arith, a, e))

-- the table itself is in no larger set
pub top_whole : (n : ℕ) (xs : Ranks) (l q : ℕ) → n ≤ l → Free (FreeIn n xs) l q → Whole (FreeIn n xs) l q
top_whole n xs l q le h =
    let e : l ≡ n = omega (arith, level_in n xs l q h) in
    (h, λ k. let z : suc l ≡ suc n = omega arith in bounded (FreeIn n xs) n (q / 2) (table n (size_at xs)) (subst (λ x. Free (FreeIn n xs) x (q / 2)) z k))

pub up_pow : (i r : ℕ) → up i r ≡ r / 2 ^ i
up_pow i r =
    sym (ap (λ x. x / 2 ^ i) (omega (arith, e)) ∙ high (up i r) i {lo = r - dbl i (up i r)} (omega (arith, z.0, z.1, size_pow i)))
  where
    z : (dbl i (up i r) ≤ r) × (r < dbl i (up i r) + dbl i 1)
    z = set_in i (up i r) r refl

    e : r ≡ up i r * 2 ^ i + (r - dbl i (up i r))
    e = omega (arith, dbl_pow i (up i r), z.0)

-- the ways in which there is nothing to exchange at a level
module _ (n s : ℕ) (xs : Ranks) (differ : Differ (FreeIn n xs)) (grow : GrowFrom (FreeIn n xs) (suc s)) where
  pub skip_none : ((p : ℕ) → Whole (FreeIn n xs) s p → ⊥) → GrowFrom (FreeIn n xs) s
  skip_none none = order_skip (FreeIn n xs) s differ grow (λ p i c z h. absurd (none p h))

  pub skip_loose : ((a : ℕ) → FreeIn n xs a → (Free (FreeIn n xs) s (up s a) → ⊥) → ⊥) → GrowFrom (FreeIn n xs) s
  skip_loose none =
      order_skip (FreeIn n xs) s differ grow (λ p i c z h e k.
      let t = whole_loose (FreeIn n xs) s i c z e k in absurd (none (dbl i z) t.0 t.1))

  pub skip_left : (p r : ℕ) → Whole (FreeIn n xs) s p → ((a : ℕ) → FreeIn n xs a → (Free (FreeIn n xs) s (up s a) → ⊥) → a ≤ r) → up s r ≤ p → GrowFrom (FreeIn n xs) s
  skip_left p r w last le =
      order_skip (FreeIn n xs) s differ grow (λ y i c z h e k.
      omega (arith, loose_last (FreeIn n xs) s r last i c z e k, differ s y p h w, le))

-- the set around a rank is in the table
pub rank_in : (n s r q : ℕ) → s ≤ n → r < 2 ^ n → q ≡ up s r → dbl s q + dbl s 1 ≤ 2 ^ n
rank_in n s r q l h e =
    in_table n s q l (subst (λ x. x < dbl (n - s) 1) (sym e)
    (below_up (n - s) (up s r) (sym (up_up (n - s) s n r (omega arith)) ∙ up_below n r (omega (arith, size_pow n)))))

pub dbl_grows : (s p : ℕ) → p ≤ dbl s p
dbl_grows zero p = omega arith
dbl_grows (suc s) p = omega (arith, dbl_grows s (2 * p))

-- the set of a session
pub session_at : (n : ℕ) (xs : Ranks) (f j : ℕ) → Sound n (size_at xs) → size_at xs f ≡ 2 ^ j → (f ≡ dbl j (up j f)) × (size_at xs f ≡ dbl j 1) × (f < 2 ^ n) × (j ≤ n)
session_at n xs f j sound e =
    let s = sound.sets f (omega (arith, pow_pos j)) in
    let t = set_index n f (size_at xs f) s in
    let k : t.0 ≡ j = elim (cases_lt t.0 j) [
      | inl l ↦ let z : 2 ^ t.0 < 2 ^ j = pow-lt l in absurd (omega (arith, t.2, size_pow t.0))
      | inr l ↦ elim (cases_lt j t.0) [
        | inl m ↦ let z : 2 ^ j < 2 ^ t.0 = pow-lt m in absurd (omega (arith, t.2, size_pow t.0))
        | inr m ↦ omega arith
      ]
    ] in
    let y : f ≡ dbl j t.1 = t.3 ∙ ap (λ x. dbl x t.1) k in (
      y ∙ ap (dbl j) (sym (ap (up j) y ∙ up_dbl j t.1)),
      e ∙ sym (size_pow j),
      omega (arith, s.2, pow_pos j),
      elim (cases_lt n j) [ inl l ↦ let z : 2 ^ n < 2 ^ j = pow-lt l in absurd (omega (arith, s.2)) | inr l ↦ l ],
    )

-- sets by their first rank
pub set_of : (n j q f : ℕ) → f ≡ dbl j q → dbl j q + dbl j 1 ≤ 2 ^ n → Set n f (2 ^ j)
set_of n j q f e h = subst (λ x. Set n x (2 ^ j)) (sym e) (subst (Set n (dbl j q)) (size_pow j) (index_set n j q h))

pub lowest_first_lem : (n : ℕ) (xs : Ranks) (j q f : ℕ) → f ≡ dbl j q → ((a : ℕ) → Free (FreeIn n xs) j a → q ≤ a)
    → (g : ℕ) → Set n g (2 ^ j) → FreeSet n (size_at xs) g (2 ^ j) → f ≤ g
lowest_first_lem n xs j q f e least g s free =
    let a : ℕ = g / 2 ^ j in
    let z : g ≡ dbl j a = omega (arith, div-add-mod' g (2 ^ j), dbl_pow j a, s.1) in
    let l = least a (free_all (FreeIn n xs) j a (λ r u v. free r (omega arith) (omega (arith, size_pow j)))) in
    omega (arith, dbl_mono j q a l)

-- the sum of sizes, where one place changes
pub total_change : (sz tz : ℕ → ℕ) (f m : ℕ) → ((r : ℕ) → (r ≡ f → ⊥) → tz r ≡ sz r) → f < m → total tz m + sz f ≡ total sz m + tz f
total_change sz tz f zero same l = absurd (omega arith)
total_change sz tz f (suc m) same l =
    elim (cases_eq f m) [
      | inl e ↦ omega (arith, ap sz e, ap tz e, total_same sz tz m (λ r k. same r (λ z. omega arith)))
      | inr n ↦ omega (arith, same m (λ z. n (sym z)), total_change sz tz f m same (omega arith))
    ]
  where
    total_same : (sz tz : ℕ → ℕ) (m : ℕ) → ((r : ℕ) → r < m → tz r ≡ sz r) → total tz m ≡ total sz m
    total_same sz tz zero h = refl
    total_same sz tz (suc m) h = omega (arith, h m (omega arith), total_same sz tz m (λ r l. h r (omega arith)))

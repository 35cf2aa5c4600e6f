-- A ring seen from its front: what a write behind the last item, and a step of the front, make of its items.
use Rattle.std.proofs.Common.{◌≡◌, ℕ, zero, suc, ◌+◌, ◌-◌, ◌%◌, ◌<◌, ◌≤◌, ◌⊎◌, List, [], ◌∷◌, ◌++◌, length, get_or, Some, take, drop, slice_index_or, slice_set, sym, ap, ◌∙◌, refl, ⊎_elim, inl, inr, append_assoc, append-nil, mod-eq_of_lt, arith, length-append, length-take, length-drop}
use native.Mathlib.Nat.{mod-eq-sub-mod}
use Rattle.std.proofs.Math.Seq.{take-set-lt}
use Rattle.std.proofs.lemmas.List.{take-set-le, drop-set-add, drop-set-lt, set-append_left, set-append_right, take_more_set, take_more, take_all, drop_all, drop_more, take-append-le, length-take-le, get_or_default}
use Rattle.std.proofs.lemmas.Bool.{cases_lt}
use Rattle.lanes.specs.Queues.{first_of, rest}
use Rattle.lanes.specs.Rings.{turned, items}

-- a place below twice the length wraps once at most
wraps : (n j : ℕ) → j < n + n → ((j < n) × (j % n ≡ j)) ⊎ ((n ≤ j) × (j % n ≡ j - n))
wraps n j h = ⊎_elim (λ low. inl (low, mod-eq_of_lt low)) (λ high. inr (high, mod-eq-sub-mod high ∙ mod-eq_of_lt (omega arith))) (cases_lt j n)

module _ {X : Type 0} (n first : ℕ) (rows : List X) (long : length rows ≡ n) (within : first < n) where
  length_turned : length (turned first rows) ≡ n
  length_turned = simp (length-append, length-take, length-drop) (omega arith)

  -- as many items as it counts
  pub length_items : (len : ℕ) → len ≤ n → length (items first len rows) ≡ len
  length_items len h = length-take-le len (turned first rows) (omega (arith, length_turned))

  set_turned : (k : ℕ) (x : X) → k < n → turned first (slice_set rows ((first + k) % n) x) ≡ slice_set (turned first rows) k x
  set_turned k x h =
      let tail = length-drop first rows in
      ⊎_elim
      (λ low.
      ap (λ i. turned first (slice_set rows i x)) low.1
      ∙ (λ j. drop-set-add first rows k x j ++ take-set-le first rows (first + k) x (omega arith) j)
      ∙ sym (set-append_left (drop first rows) (take first rows) k x (omega arith)))
      (λ high.
      let i : ℕ = k - (n - first) in
      let is : (first + k) % n ≡ i = high.1 ∙ omega arith in
      ap (λ i. turned first (slice_set rows i x)) is
      ∙ (λ j. drop-set-lt first rows i x (omega arith) j ++ take-set-lt first rows i x (omega arith) j)
      ∙ sym (set-append_right (drop first rows) (take first rows) (n - first) k x (omega arith) (omega arith)))
      (wraps n (first + k) (omega arith))

  pub pushed : (len : ℕ) (x : X) → len < n → items first (len + 1) (slice_set rows ((first + len) % n) x) ≡ items first len rows ++ (x ∷ [])
  pushed len x h = ap (take (len + 1)) (set_turned len x h) ∙ take_more_set (turned first rows) len x (omega (arith, length_turned))

  -- the item at the front goes to the end
  turned_once : (x : X) → x ≡ slice_index_or rows first x
      → (tail : List X) × (suc (length tail) ≡ n) × (turned first rows ≡ x ∷ tail) × (turned ((first + 1) % n) rows ≡ tail ++ (x ∷ []))
  turned_once x is =
      let tail : List X = drop (first + 1) rows ++ take first rows in
      let front : turned first rows ≡ x ∷ tail =
      ap (λ l. l ++ take first rows) (drop_more rows first x (omega arith) ∙ ap (λ y. y ∷ drop (first + 1) rows) (sym is)) in
      let more : take (first + 1) rows ≡ take first rows ++ (x ∷ []) = take_more rows first x (omega arith) ∙ ap (λ y. take first rows ++ (y ∷ [])) (sym is) in
      let back : turned ((first + 1) % n) rows ≡ tail ++ (x ∷ []) =
      ⊎_elim
      (λ low. ap (λ i. turned i rows) low.1 ∙ ap (λ l. drop (first + 1) rows ++ l) more ∙ sym (append_assoc (drop (first + 1) rows) (take first rows) (x ∷ [])))
      (λ high.
      let start : (first + 1) % n ≡ 0 = high.1 ∙ omega arith in
      let none : drop (first + 1) rows ≡ [] = drop_all (first + 1) rows (omega arith) in
      ap (λ i. turned i rows) start
      ∙ append-nil rows
      ∙ sym (take_all (first + 1) rows (omega arith))
      ∙ more
      ∙ ap (λ l. (l ++ take first rows) ++ (x ∷ [])) (sym none))
      (wraps n (first + 1) (omega arith)) in
      (tail, sym (ap length front) ∙ length_turned, front, back)

pub front_item : {X : Type 0} (n first len : ℕ) (rows : List X) (d : X) → length rows ≡ n → first < n → 0 < len → Some (slice_index_or rows first d) ≡ first_of (items first len rows)
front_item n first len rows d long within some =
    let x = slice_index_or rows first d in
    let t = turned_once n first rows long within x (get_or_default rows first d x (omega arith)) in
    let e : len ≡ suc (len - 1) = omega arith in
    sym (ap (λ k. first_of (items first k rows)) e ∙ ap (λ l. first_of (take (suc (len - 1)) l)) t.2)

dropped_from : {X : Type 0} (n first len : ℕ) (rows : List X) (x : X) → length rows ≡ n → first < n → suc len ≤ n → x ≡ slice_index_or rows first x
    → items ((first + 1) % n) len rows ≡ rest (items first (suc len) rows)
dropped_from n first len rows x long within room is =
    let t = turned_once n first rows long within x is in
    ap (take len) t.3 ∙ take-append-le len t.0 (x ∷ []) (omega (arith, t.1)) ∙ sym (ap (λ l. rest (take (suc len) l)) t.2)

-- the items behind the front
pub dropped : {X : Type 0} (n first len : ℕ) (rows : List X) → length rows ≡ n → first < n → len ≤ n → items ((first + 1) % n) (len - 1) rows ≡ rest (items first len rows)
dropped n first len [] long within room = absurd (omega arith)
dropped n first zero (y ∷ ys) long within room = refl
dropped n first (suc len) (y ∷ ys) long within room =
    let x = get_or (y ∷ ys) first y in
    let e : suc len - 1 ≡ len = omega arith in
    ap (λ k. items ((first + 1) % n) k (y ∷ ys)) e
    ∙ dropped_from n first len (y ∷ ys) x long within room (get_or_default (y ∷ ys) first y x (omega arith))

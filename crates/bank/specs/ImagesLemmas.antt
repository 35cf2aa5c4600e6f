-- Images byte by byte: writing one slot after another, and reading a slot back.
use Rattle.std.specs.Prelude.{◌≡◌, ℕ, zero, suc, ◌+◌, ◌*◌, ◌/◌, ◌%◌, ◌<◌, ◌≤◌, List, [], ◌∷◌, ◌++◌, length, get_or, take, drop, set, Ok, Err, slice_index, slice_index_or, slice_set, refl}
use Rattle.std.proofs.Common.{sym, ap, ◌∙◌, append_assoc, le_of_suc-le-suc, not-suc-le-zero, arith, length-append, lt-ltb, le-ltb, le-leb}
use Rattle.std.proofs.lemmas.List.{take_more, drop_more, get_or_append_left, length-take-le}
use Rattle.table.specs.declared.slot.Slot.{Slot}
use Rattle.table.specs.declared.refusal.Layer.TheVariants.{Bank}
use Rattle.table.specs.declared.refusal.Reason.TheVariants.{NoSuchSlot}
use Rattle.table.specs.Refusals.{refusal}
use Rattle.table.specs.Slots.{slots, lane_count, empty_slot}
use Rattle.bank.specs.Images.{image_bytes, image_of, read_slot, put_slot, slots_of}

next_pair : (s : ℕ) → 2 * suc s ≡ suc (suc (2 * s))
next_pair s = omega arith

pub length_image : (xs : List Slot) → length (image_of xs) ≡ 2 * length xs
length_image [] = refl
length_image (x ∷ xs) = ap (λ n. suc (suc n)) (length_image xs) ∙ sym (next_pair (length xs))

image_append : (xs ys : List Slot) → image_of (xs ++ ys) ≡ image_of xs ++ image_of ys
image_append [] ys = refl
image_append (x ∷ xs) ys = ap (λ (r : List ℕ). x.lane ∷ (x.weight ∷ r)) (image_append xs ys)

-- two bytes behind a front
put_two : (front rest : List ℕ) (p q a b : ℕ) → slice_set (slice_set (front ++ (p ∷ (q ∷ rest))) (length front) a) (length front + 1) b ≡ front ++ (a ∷ (b ∷ rest))
put_two [] rest p q a b = refl
put_two (x ∷ front) rest p q a b =
    let e : suc (length front) + 1 ≡ suc (length front + 1) = omega arith in
    ap (λ n. set (x ∷ slice_set (front ++ (p ∷ (q ∷ rest))) (length front) a) n b) e ∙ ap (λ r. x ∷ r) (put_two front rest p q a b)

put_pair : (front out : List ℕ) (k a b : ℕ) → length front ≡ k → k + 1 < length out
    → slice_set (slice_set (front ++ drop k out) k a) (k + 1) b ≡ front ++ (a ∷ (b ∷ drop (k + 2) out))
put_pair front out k a b n h =
    let e : (k + 1) + 1 ≡ k + 2 = omega arith in
    let split : drop k out ≡ slice_index out k ∷ (slice_index out (k + 1) ∷ drop (k + 2) out) =
    drop_more out k 0 (omega arith) ∙ ap (λ r. slice_index out k ∷ r) (drop_more out (k + 1) 0 h ∙ ap (λ m. slice_index out (k + 1) ∷ drop m out) e) in
    ap (λ r. set (slice_set (front ++ r) k a) (k + 1) b) split
    ∙ (λ i. set (slice_set (front ++ (slice_index out k ∷ (slice_index out (k + 1) ∷ drop (k + 2) out))) (sym n i) a) (sym n i + 1) b)
    ∙ put_two front (drop (k + 2) out) (slice_index out k) (slice_index out (k + 1)) a b

-- One more slot is written: the image so far, and the bytes behind it.
pub image_more : (xs : List Slot) (out : List ℕ) (s : ℕ) → s < length xs → 2 * length xs ≤ length out
    → put_slot (image_of (take s xs) ++ drop (2 * s) out) s (slice_index_or xs s empty_slot) ≡ image_of (take (s + 1) xs) ++ drop (2 * (s + 1)) out
image_more xs out s h long =
    let x : Slot = get_or xs s empty_slot in
    let n : length (image_of (take s xs)) ≡ 2 * s = length_image (take s xs) ∙ ap (λ m. 2 * m) (length-take-le s xs (omega arith)) in
    let e : 2 * s + 2 ≡ 2 * (s + 1) = omega arith in
    let more : image_of (take (s + 1) xs) ≡ image_of (take s xs) ++ (x.lane ∷ (x.weight ∷ [])) =
    ap image_of (take_more xs s empty_slot h) ∙ image_append (take s xs) (x ∷ []) in
    put_pair (image_of (take s xs)) out (2 * s) x.lane x.weight n (omega arith)
    ∙ ap (λ m. image_of (take s xs) ++ (x.lane ∷ (x.weight ∷ drop m out))) e
    ∙ sym (append_assoc (image_of (take s xs)) (x.lane ∷ (x.weight ∷ [])) (drop (2 * (s + 1)) out))
    ∙ ap (λ r. r ++ drop (2 * (s + 1)) out) (sym more)

-- what stands in the image at a slot
lane_at_lem : (xs : List Slot) (s : ℕ) → s < length xs → slice_index (image_of xs) (2 * s) ≡ (get_or xs s empty_slot).lane
lane_at_lem [] s h = absurd (not-suc-le-zero h)
lane_at_lem (x ∷ xs) zero h = refl
lane_at_lem (x ∷ xs) (suc s) h = ap (λ n. slice_index (image_of (x ∷ xs)) n) (next_pair s) ∙ lane_at_lem xs s (le_of_suc-le-suc h)

weight_at_lem : (xs : List Slot) (s : ℕ) → s < length xs → slice_index (image_of xs) (2 * s + 1) ≡ (get_or xs s empty_slot).weight
weight_at_lem [] s h = absurd (not-suc-le-zero h)
weight_at_lem (x ∷ xs) zero h = refl
weight_at_lem (x ∷ xs) (suc s) h =
    let e : 2 * suc s + 1 ≡ suc (suc (2 * s + 1)) = omega arith in
    ap (λ n. slice_index (image_of (x ∷ xs)) n) e ∙ weight_at_lem xs s (le_of_suc-le-suc h)

-- a slot with a lane that there is, is read as it stands
pub read_as : (image : List ℕ) (s : ℕ) (x : Slot) → image_bytes ≤ length image → s < slots → slice_index image (2 * s) ≡ x.lane → slice_index image (2 * s + 1) ≡ x.weight
    → x.lane < lane_count → read_slot image s ≡ Ok x
read_as image s x long low lane weight fits =
    let high : x.lane / 16 ≡ 0 = omega arith in
    let same : x.lane % 16 ≡ x.lane = omega arith in
    simp (le-leb image_bytes (length image) long, lt-ltb s slots low, lane, weight, high, same, lt-ltb x.lane lane_count fits)

pub read_past : (image : List ℕ) (s : ℕ) → image_bytes ≤ length image → slots ≤ s → read_slot image s ≡ Err (refusal Bank NoSuchSlot 0)
read_past image s long past = simp (le-leb image_bytes (length image) long, le-ltb s slots past)

pub reads_back : (xs : List Slot) (more : List ℕ) (s : ℕ) → length xs ≡ slots → s < slots → (get_or xs s empty_slot).lane < lane_count
    → read_slot (image_of xs ++ more) s ≡ Ok (slice_index_or xs s empty_slot)
reads_back xs more s long low fits =
    let n : length (image_of xs) ≡ image_bytes = length_image xs ∙ ap (λ n. 2 * n) long in
    read_as (image_of xs ++ more) s (slice_index_or xs s empty_slot) (simp length-append (omega arith)) low
    (get_or_append_left (image_of xs) more 0 (2 * s) (omega arith) ∙ lane_at_lem xs s (omega arith))
    (get_or_append_left (image_of xs) more 0 (2 * s + 1) (omega arith) ∙ weight_at_lem xs s (omega arith))
    fits

-- the slots of an image
pub length_slots : (n : ℕ) (bs : List ℕ) → length bs ≡ 2 * n → length (slots_of bs) ≡ n
length_slots zero [] e = refl
length_slots zero (a ∷ bs) e = absurd (omega arith)
length_slots (suc n) [] e = absurd (omega arith)
length_slots (suc n) (a ∷ []) e = absurd (omega arith)
length_slots (suc n) (a ∷ (b ∷ bs)) e = ap suc (length_slots n bs (omega arith))

pub slot_of : (bs : List ℕ) (s : ℕ) → 2 * s + 1 < length bs → slice_index_or (slots_of bs) s empty_slot ≡ record { lane = slice_index bs (2 * s); weight = slice_index bs (2 * s + 1) }
slot_of [] s h = absurd (omega arith)
slot_of (a ∷ []) s h = absurd (omega arith)
slot_of (a ∷ (b ∷ bs)) zero h = refl
slot_of (a ∷ (b ∷ bs)) (suc s) h =
    let e : suc (suc (2 * s + 1)) ≡ 2 * suc s + 1 = omega arith in
    slot_of bs s (omega arith) ∙ (λ i. record { lane = slice_index (a ∷ (b ∷ bs)) (sym (next_pair s) i); weight = slice_index (a ∷ (b ∷ bs)) (e i) })

pub slots_put : (bs : List ℕ) (s : ℕ) (x : Slot) → 2 * s + 1 < length bs → slots_of (put_slot bs s x) ≡ slice_set (slots_of bs) s x
slots_put [] s x h = absurd (omega arith)
slots_put (a ∷ []) s x h = absurd (omega arith)
slots_put (a ∷ (b ∷ bs)) zero x h = refl
slots_put (a ∷ (b ∷ bs)) (suc s) x h =
    let e : 2 * suc s + 1 ≡ suc (suc (2 * s + 1)) = omega arith in
    (λ i. slots_of (slice_set (slice_set (a ∷ (b ∷ bs)) (next_pair s i) x.lane) (e i) x.weight))
    ∙ ap (λ r. record { lane = a; weight = b } ∷ r) (slots_put bs s x (omega arith))

-- The image of a bank's port, as it is written into a buffer.
use Rattle.std.proofs.Common.{◌≡◌, ℕ, ◌<◌, ◌≤◌, List, ◌++◌, length, take, drop, Ok, ap, ◌∙◌, arith, lt-ltb, le-leb}
use Rattle.std.proofs.lemmas.List.{take_all}
use Rattle.table.specs.declared.slot.Slot.{Slot}
use Rattle.table.specs.Slots.{slots}
use Rattle.bank.specs.declared.port.Port.{Port}
use Rattle.bank.specs.Ports.{BankFits, port_at, slot_at, slot_answer}
use Rattle.bank.specs.Images.{image_bytes, image_of, image_answer, image_after, read_slot, ReadsBack}
use Rattle.bank.specs.ImagesLemmas.{reads_back}

-- what the bank answers is the slot
pub slot_read : (ps : List Port) (p : ℕ) → p < length ps → (s : ℕ) → s < slots → (x : Slot) → Ok x ≡ slot_answer ps p s → x ≡ slot_at ps p s
slot_read ps p within s low x h =
    let e : Ok x ≡ Ok (slot_at ps p s) = h ∙ simp (lt-ltb p (length ps) within, lt-ltb s slots low) in
    cc

module _ (ps : List Port) (fits : BankFits ps) (p : ℕ) (out new : List ℕ) (within : p < length ps) (room : image_bytes ≤ length out)
    (done : new ≡ image_of (take slots (port_at ps p).slots) ++ drop image_bytes out) where
  whole : new ≡ image_of (port_at ps p).slots ++ drop image_bytes out
  whole = done ∙ ap (λ xs. image_of xs ++ drop image_bytes out) (take_all slots (port_at ps p).slots (omega (arith, fits.long p within)))

  pub image_answer_lem : Ok tt ≡ image_answer ps p (length out)
  image_answer_lem = simp (lt-ltb p (length ps) within, le-leb image_bytes (length out) room)

  pub image_after_lem : new ≡ image_after ps p out
  image_after_lem = whole ∙ simp (lt-ltb p (length ps) within, le-leb image_bytes (length out) room)

  pub image_trip : ReadsBack ps p new
  image_trip s low = ap (λ bs. read_slot bs s) whole ∙ reads_back (port_at ps p).slots (drop image_bytes out) s (fits.long p within) low (fits.lanes p s within low)

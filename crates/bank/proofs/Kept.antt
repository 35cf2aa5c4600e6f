-- A bank after one of its kept ports is written.
use Rattle.std.proofs.Common.{◌≡◌, ℕ, ◌<◌, Bool, true, ltb, length, map, take, set, get_or, sym, ap, ◌∙◌, arith, get_or-take, lt-ltb}
use Rattle.std.proofs.Math.Seq.{take-set-lt}
use Rattle.std.proofs.lemmas.List.{map-set, get_or-map}
use Rattle.table.specs.declared.slot.Slot.{Slot}
use Rattle.table.specs.Slots.{slots, lane_count}
use Rattle.bank.specs.declared.port.Port.{Port}
use Rattle.bank.specs.declared.port_bank.PortBank.{PortBank}
use Rattle.bank.specs.Ports.{no_port, port_at, port_with_slot, port_with_state, state_after, write_after}
use Rattle.bank.specs.PortBanks.{bank_ports}
use Rattle.bank.specs.PortBanksLemmas.{length_ports}

module _ {P : Type 0} (port : P → Port) (b : PortBank P) (p : ℕ) (within : p < b.count) (d : P) where
  has_port : ltb p (length (bank_ports port b)) ≡ true
  has_port = rw (length_ports port b) (lt-ltb p b.count within)

  means : port (get_or b.ports p d) ≡ port_at (bank_ports port b) p
  means = sym (get_or-take b.count (map port b.ports) p no_port within ∙ get_or-map port b.ports p d no_port (omega (arith, b.long, b.most)))

  -- the ports with another port p
  with_port : (new : P) (q : Port → Port) → port new ≡ q (port (get_or b.ports p d)) → take b.count (map port (set b.ports p new)) ≡ set (bank_ports port b) p (q (port_at (bank_ports port b) p))
  with_port new q done =
      ap (take b.count) (map-set port b.ports p new)
      ∙ take-set-lt b.count (map port b.ports) p (port new) within
      ∙ ap (set (bank_ports port b) p) (done ∙ ap q means)

  pub state_kept : (new : P) (o : Bool) → port new ≡ port_with_state (port (get_or b.ports p d)) o → take b.count (map port (set b.ports p new)) ≡ state_after (bank_ports port b) p o
  state_kept new o done = with_port new (λ (r : Port). port_with_state r o) done ∙ simp has_port

  pub slot_kept : (new : P) (s : ℕ) (w : Slot) → s < slots → w.lane < lane_count → (port (get_or b.ports p d)).«open» ≡ true
      → port new ≡ port_with_slot (port (get_or b.ports p d)) s w → take b.count (map port (set b.ports p new)) ≡ write_after (bank_ports port b) p s w
  slot_kept new s w low lane opened done =
      with_port new (λ (r : Port). port_with_slot r s w) done
      ∙ simp (has_port, lt-ltb s slots low, lt-ltb w.lane lane_count lane, ap (λ (r : Port). r.«open») (sym means) ∙ opened)

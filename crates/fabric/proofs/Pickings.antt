-- A pick that is accepted.
use Rattle.std.proofs.Common.{◌≡◌, ℕ, ◌<◌, List, Option, Ok, ltb, length, get_or, set, sym, refl, ap, ◌∙◌}
use Rattle.std.proofs.lemmas.Bool.{ltb-true}
use Rattle.table.specs.declared.refusal.Reason.TheVariants.{NoSuchPort}
use Rattle.bank.specs.declared.port.Port.{Port}
use Rattle.bank.specs.Ports.{port_at}
use Rattle.fabric.specs.declared.fabric.Pointer.{Pointer}
use Rattle.fabric.specs.declared.fabric.PortState.{PortState}
use Rattle.fabric.specs.declared.picked.Picked.{Picked}
use Rattle.fabric.specs.Declines.{by_bank}
use Rattle.fabric.specs.States.{State, state_of}
use Rattle.fabric.specs.Reserving.{ask_started}
use Rattle.fabric.specs.Picking.{Turn, turning, turn, with_pointer, pick_answer, picking, if_picked, pick_call}
use Rattle.fabric.proofs.Paths.{then_ok, asked_yes}
use Rattle.fabric.proofs.Books.{pointer_at_lem, pointer_put}

-- a pick that asks its questions with success names a port of the bank
pub port_there : (s : State) (ps : List Port) (p : ℕ) → Ok tt ≡ pick_answer s ps p → p < length ps
port_there s ps p asked =
    let started = then_ok (ask_started s ps) _ tt asked in
    ltb-true p (length ps) (asked_yes (ltb p (length ps)) (by_bank NoSuchPort 0) _ tt started.2).0

pub picked : (started : Option ℕ) (ports : List PortState) (p : ℕ) (d : PortState) (ps : List Port) (qs rs : List (List ℕ)) (answer : Picked) (to : Pointer) → p < length ports
    → Ok tt ≡ pick_answer (state_of started ports) ps p → turning answer to rs ≡ turn (port_at ps p).slots (get_or ports p d).pointer qs
    → picking (Ok answer) (state_of started (set ports p (record { book = (get_or ports p d).book; pointer = to }))) rs ≡ pick_call (state_of started ports) ps qs p
picked started ports p d ps qs rs answer to within asked is =
    let s = state_of started ports in
    ap (λ x. picking (Ok answer) x rs) (pointer_put ports p d within started (record { book = (get_or ports p d).book; pointer = to }) refl)
    ∙ ap (λ (t : Turn). picking (Ok t.answer) (with_pointer s p t.pointer) t.queues) (is ∙ ap (λ at. turn (port_at ps p).slots at qs) (sym (pointer_at_lem ports p d within)))
    ∙ ap (λ r. if_picked r s ps qs p) asked

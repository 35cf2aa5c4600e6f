-- What a whole sheet answers.
use Rattle.std.specs.Prelude.{ℕ, cond, List, [], ◌∷◌, ◌++◌, length, nat_le}
use Rattle.table.specs.declared.refusal.Reason.TheVariants.{LongInput}
use Rattle.bank.specs.declared.port.Port.{Port}
use Rattle.bank.specs.Ports.{new_ports}
use Rattle.lanes.specs.Queues.{no_packets}
use Rattle.fabric.specs.States.{State}
use Rattle.fabric.specs.Starting.{unstarted}
use Rattle.manager.specs.Calls.{start, performed}
use Rattle.text.specs.Answers.{no_text}
use Rattle.text.specs.Lines.{lines_of}
use Rattle.daysheet.specs.Replies.{obeyed, answer_text}

-- a sheet has at most so many bytes
abbrev pub most_bytes : ℕ
most_bytes = 65536

-- a sheet is served on a bank of so many ports
abbrev pub sheet_ports : ℕ
sheet_ports = 4

-- the answers to lines, each with the fabric, the ports and the lanes that those before it left
abbrev pub answers_from : State → List Port → List (List ℕ) → List (List ℕ) → List ℕ
answers_from s ps qs [] = []
answers_from s ps qs (line ∷ lines) =
    let o = obeyed s ps qs line in
    answer_text o.answer ++ answers_from o.state o.ports o.queues lines

-- what a sheet answers on a fabric that was just started on a new bank, while no packet waits: a sheet that is too long only that it is
abbrev pub sheet_text : List ℕ → List ℕ
sheet_text input =
    cond (nat_le (length input) most_bytes)
    (let o = performed unstarted (new_ports sheet_ports) no_packets start in answers_from o.state o.ports o.queues (lines_of input))
    (no_text LongInput 0)

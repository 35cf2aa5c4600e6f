use Rattle.std.proofs.Common.{◌≡◌, ◌++◌, vec_items}
use Rattle.fabric.specs.States.{meaning}
use Rattle.text.specs.Feed.{lines_left}
use Rattle.daysheet.specs.Sheets.{answers_from}
use Rattle.daysheet.proofs.sheet.answer_lines.Given as goal

-- what is answered so far, and the lines to come answered from here, are the whole
abbrev pub invariant-loop-line : goal.invariant-loop-line
invariant-loop-line g l =
    vec_items l.answers ++ answers_from (meaning l.fabric) (g.B.Bank.ports l.bank) (g.L.Lanes.queues l.lanes) (lines_left l.line-iterator)
    ≡ answers_from (meaning l.initial.fabric) (g.B.Bank.ports l.initial.bank) (g.L.Lanes.queues l.initial.lanes) (lines_left l.initial.line-iterator)

-- A command by what it asks for, wherever its ports are kept.
use Rattle.std.specs.Prelude.{ℕ, List, Ok, Err, Result}
use Rattle.table.specs.declared.refusal.Refusal.{Refusal}
use Rattle.text.specs.declared.row.Row.{Row}
use Rattle.text.specs.declared.command.Command.{Command}
use Rattle.text.specs.declared.command.Command.TheVariants.{Reserve, Release, Shut, Reopen, Table}
use Rattle.text.specs.Sizes.{most_ports}
use Rattle.text.specs.Rows.{row_of}
use Rattle.text.specs.Commands.{Asked, reserve, release, shut, reopen, table}

-- the ports of a path
abbrev pub ports_of : Row ℕ most_ports → List ℕ
ports_of p = row_of p

abbrev pub asked_by : Command → Asked
asked_by (Reserve n l w p) = reserve n l w (ports_of p)
asked_by (Release n) = release n
asked_by (Shut p) = shut p
asked_by (Reopen p) = reopen p
asked_by (Table p) = table p

abbrev pub answered : Result Command Refusal → Result Asked Refusal
answered (Ok c) = Ok (asked_by c)
answered (Err e) = Err e

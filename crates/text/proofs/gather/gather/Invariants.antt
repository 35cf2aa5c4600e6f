use Rattle.std.proofs.Common.{◌≡◌}
use Rattle.text.specs.Commands.{numbers_in}
use Rattle.text.specs.Cursor.{to_come}
use Rattle.text.specs.Gathered.{items_of, kept}
use Rattle.text.proofs.Gathers.{onward}
use Rattle.text.proofs.gather.gather.Given as goal

abbrev pub invariant-loop-field : goal.invariant-loop-field
invariant-loop-field l = onward (items_of l.numbers) (numbers_in (to_come l.field-iterator)) ≡ kept (numbers_in (to_come l.initial.field-iterator))

use Rattle.std.proofs.Common.{length, ap, ◌∙◌}
use Rattle.text.specs.Commands.{by_count}
use Rattle.text.specs.Gathered.{items_of}
use Rattle.text.proofs.Gathers.{to_count}
use Rattle.text.proofs.parse.read_command.Goals as goal

pub returns : goal.returns
returns c =
    c.counted.ensures
    ∙ ap (by_count (length c.args.line.now) c.in_ok-form.form) c.as_slice.ensures
    ∙ to_count c.fields-rest.result c.next.new.self c.next.result c.args.line.now c.in_ok-form.form (items_of c.in_ok-numbers.numbers) c.fields-rest.ensures.all c.next.ensures.steps c.in_ok-form.ensures c.in_ok-numbers.ensures

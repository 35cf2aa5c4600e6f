-- The first numbers of a line: as many as a form takes, and one more, which is surplus to every form.
use Rattle.std.specs.Prelude.{List, take, Some, None, Ok, Err, Option, Result}
use Rattle.table.specs.declared.refusal.Reason.TheVariants.{UnknownWord}
use Rattle.table.specs.declared.refusal.Refusal.{Refusal}
use Rattle.text.specs.declared.field.Field.{Field}
use Rattle.text.specs.declared.form.Form.{Form}
use Rattle.text.specs.declared.numbers.Given.{Given}
use Rattle.text.specs.declared.row.Row.{Row}
use Rattle.text.specs.Sizes.{keep}
use Rattle.text.specs.Rows.{row_of}
use Rattle.text.specs.Tokens.{told}
use Rattle.text.specs.Commands.{refused, form_named}

abbrev pub items_of : Row Given keep → List Given
items_of n = row_of n

abbrev pub gathered : Result (Row Given keep) Refusal → Result (List Given) Refusal
gathered (Ok n) = Ok (items_of n)
gathered (Err e) = Err e

abbrev pub kept : Result (List Given) Refusal → Result (List Given) Refusal
kept (Ok gs) = Ok (take keep gs)
kept (Err e) = Err e

-- the form of a line's first field
abbrev pub formed : Option Form → Result Form Refusal
formed None = refused UnknownWord 0
formed (Some form) = Ok form

abbrev pub form_first : Option Field → Result Form Refusal
form_first None = refused UnknownWord 0
form_first (Some f) = formed (form_named (told f))

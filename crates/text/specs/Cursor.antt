-- The fields that are still to come.
use Rattle.std.specs.Prelude.{◌≡◌, ℕ, ◌+◌, ◌-◌, List, [], ◌∷◌, map, length, drop, Some, None, Option}
use Rattle.text.specs.declared.field.Field.{Field}
use Rattle.text.specs.declared.fields.Fields.{Fields}
use Rattle.text.specs.Parts.{parts_from}
use Rattle.text.specs.Tokens.{Token, token_of, told}

-- the fields of a line from a place on, or none
abbrev pub fields_from : List ℕ → Option ℕ → List Token
fields_from line None = []
fields_from line (Some at) = map token_of (parts_from at (drop at line))

abbrev pub to_come : Fields → List Token
to_come f = fields_from f.line.now f.next

-- how many fields a line has from a place on, at most
abbrev pub most_from : List ℕ → Option ℕ → ℕ
most_from line None = 0
most_from line (Some at) = length line - at + 1

-- how many fields are to come, at most
abbrev pub most_fields : Fields → ℕ
most_fields f = most_from f.line.now f.next

-- a step gives the first field to come, and leaves the others; where none is to come it changes nothing
abbrev pub Step : Fields → Option Field → Fields → Type 0
Step f None g = (to_come f ≡ []) × (g ≡ f)
Step f (Some x) g = to_come f ≡ told x ∷ to_come g

-- A row by the values that it has.
use Rattle.std.specs.Prelude.{ℕ, List, take}
use Rattle.text.specs.declared.row.Row.{Row}

-- the values of a row, in their order
abbrev pub row_of : {T : Type 0} {N : ℕ} → Row T N → List T
row_of r = take r.len r.items

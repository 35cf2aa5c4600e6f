-- Refusals as the fabric hands them on: the finding layer's refusal whole, and the place that the fabric's question names.
use Rattle.std.specs.Prelude.{ℕ}
use Rattle.table.specs.declared.refusal.Reason.{Reason}
use Rattle.table.specs.declared.refusal.Refusal.{Refusal}
use Rattle.table.specs.declared.refusal.Layer.TheVariants.{Bank, Fabric}
use Rattle.table.specs.Refusals.{refusal}
use Rattle.fabric.specs.declared.declined.Declined.{Declined}

-- found by the fabric
abbrev pub by_fabric : Reason → ℕ → Declined
by_fabric reason k = record { refusal = refusal Fabric reason k; place = k }

-- found by the bank, which names no place
abbrev pub by_bank : Reason → ℕ → Declined
by_bank reason k = record { refusal = refusal Bank reason 0; place = k }

-- handed on by a question that names no place
abbrev pub handed_on : Refusal → Declined
handed_on r = record { refusal = r; place = 0 }

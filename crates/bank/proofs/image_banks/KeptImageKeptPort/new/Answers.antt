use Rattle.std.proofs.Common.{refl}
use Rattle.table.specs.Slots.{empty_slot}
use Rattle.bank.proofs.Fitting.{fits_new}
use Rattle.bank.proofs.image_banks.KeptImageKeptPort.new.Goals as goal

pub invariant_of-result : goal.invariant_of-result
invariant_of-result c = record { full = refl; fits = fits_new empty_slot refl }

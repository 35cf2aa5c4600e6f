use Rattle.bank.proofs.Fitting.{fits_new}
use Rattle.bank.proofs.records.KeptRecordKeptPort.new.Goals as goal

pub invariant_of-result : goal.invariant_of-result
invariant_of-result c = record { fits = fits_new c.empty.result c.empty.ensures }

use Rattle.manager.proofs.Examples.{bookings}
use Rattle.manager.proofs.Examples.{witness}
use Rattle.manager.proofs.Theorem.{joins}
use Rattle.std.proofs.Common.{refl}
use Rattle.manager.proofs.shown.claims_stand.Goals as goal

pub returns : goal.returns
returns c = record { value = refl; premises = witness; joins = joins; bookings = bookings }

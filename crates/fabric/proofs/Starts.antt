-- What a start asks: the first shut port declines, and where none does, every port is open.
use Rattle.std.proofs.Common.{◌≡◌, ℕ, ◌+◌, ◌<◌, true, not, List, length, Option, Ok, ap, ◌∙◌, arith}
use Rattle.std.specs.List.{find, range_with_len}
use Rattle.table.specs.declared.refusal.Reason.TheVariants.{PortShut}
use Rattle.bank.specs.declared.port.Port.{Port}
use Rattle.bank.specs.Ports.{port_at, no_port}
use Rattle.fabric.specs.Declines.{by_bank}
use Rattle.fabric.specs.Starting.{start_answer}
use Rattle.fabric.proofs.Scans.{declined_at, each_found, each_yes}

module _ (ps : List Port) (u : Unit {0}) (yes? : Ok u ≡ start_answer ps) where
  pub all_open : (p : ℕ) → p < length ps → (port_at ps p).«open» ≡ true
  all_open p h = each_yes (λ k (x : Port). x.«open») (by_bank PortShut) 0 ps yes? p no_port h

-- the questions of a start, by the first shut port
pub start_found : (ps : List Port) (r : Option ℕ) → r ≡ find (λ p. not (port_at ps p).«open») (range_with_len 0 (length ps)) → declined_at (by_bank PortShut) r ≡ start_answer ps
start_found ps r is =
    ap (declined_at (by_bank PortShut)) is
    ∙ each_found (λ (p : Port). p.«open») (by_bank PortShut) (λ p. not (port_at ps p).«open») no_port 0 ps (λ i. ap (λ k. not (port_at ps k).«open») {x = 0 + i} {y = i} (omega arith))

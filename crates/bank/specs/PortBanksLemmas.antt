-- What holds of the ports of a bank follows from what holds of each kept port.
use Rattle.std.specs.Prelude.{◌≡◌, ℕ, ◌<◌, map, length, slice_index_or}
use Rattle.std.specs.List.{All}
use Rattle.std.proofs.Common.{arith, length-take-le}
use Rattle.std.proofs.lemmas.List.{length-map}
use Rattle.std.proofs.lemmas.List.Elements.{All-map, All-take}
use Rattle.table.specs.Slots.{empty_slot}
use Rattle.bank.specs.declared.port.Port.{Port}
use Rattle.bank.specs.declared.port_bank.PortBank.{PortBank}
use Rattle.bank.specs.Ports.{BankFits, PortFits, no_port, port_at}
use Rattle.bank.specs.PortBanks.{bank_ports}

pub length_ports : {P : Type 0} (port : P → Port) (b : PortBank P) → length (bank_ports port b) ≡ b.count
length_ports port b =
    let m : length (map port b.ports) ≡ length b.ports = length-map b.ports port in
    length-take-le b.count (map port b.ports) (omega (arith, b.long, b.most))

pub bank_fits : {P : Type 0} (port : P → Port) → ((q : P) → PortFits (port q)) → (b : PortBank P) → BankFits (bank_ports port b)
bank_fits port fits b =
    let n : length (bank_ports port b) ≡ b.count = length_ports port b in
    let all : All PortFits (bank_ports port b) =
    All-take PortFits b.count (map port b.ports) (All-map PortFits port b.ports (λ k d h. fits (slice_index_or b.ports k d))) in
    let each : (p : ℕ) → p < length (bank_ports port b) → PortFits (port_at (bank_ports port b) p) = λ p h. all p no_port h in
    record {
      some = omega (arith, b.some);
      most = omega (arith, b.most);
      long = λ p h. (each p h).long;
      lanes = λ p s h l. (each p h).lanes s empty_slot (omega (arith, (each p h).long));
      weights = λ p s h l. (each p h).weights s empty_slot (omega (arith, (each p h).long));
    }

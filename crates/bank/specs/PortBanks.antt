-- What a bank means that keeps each port in one way.
use Rattle.std.specs.Prelude.{List, map, take}
use Rattle.bank.specs.declared.port.Port.{Port}
use Rattle.bank.specs.declared.port_bank.PortBank.{PortBank}

-- its first ports, as many as it counts, by what a kept port means
abbrev pub bank_ports : {P : Type 0} → (P → Port) → PortBank P → List Port
bank_ports port b = take b.count (map port b.ports)

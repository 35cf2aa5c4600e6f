-- What a record bank means.
use Rattle.std.specs.Prelude.{List}
use Rattle.bank.specs.declared.port.Port.{Port}
use Rattle.bank.specs.declared.port_bank.PortBank.{PortBank}
use Rattle.bank.specs.declared.record.KeptRecord.{KeptRecord}
use Rattle.bank.specs.PortBanks.{bank_ports}

-- a kept record means the port that it is
abbrev pub record_port : KeptRecord → Port
record_port q = q.port

-- its first ports, as many as it counts
abbrev pub record_ports : PortBank KeptRecord → List Port
record_ports = bank_ports record_port

-- What an image bank means.
use Rattle.std.specs.Prelude.{List}
use Rattle.bank.specs.declared.port.Port.{Port}
use Rattle.bank.specs.declared.port_bank.PortBank.{PortBank}
use Rattle.bank.specs.declared.image_bank.KeptImage.{KeptImage}
use Rattle.bank.specs.ImagePorts.{port_of}
use Rattle.bank.specs.PortBanks.{bank_ports}

-- a kept image means the port that it holds
abbrev pub image_port : KeptImage → Port
image_port q = port_of q.port

-- its first ports, as many as it counts
abbrev pub image_ports : PortBank KeptImage → List Port
image_ports = bank_ports image_port

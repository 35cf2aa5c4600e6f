use Rattle.std.proofs.Common.{min, replicate, take, ap, ◌∙◌, arith}
use Rattle.std.proofs.lemmas.List.{take-replicate}
use Rattle.bank.specs.declared.port.Port.{Port}
use Rattle.bank.specs.Ports.{most_ports, new_port}
use Rattle.bank.proofs.port_bank.PortBank.new.Goals as goal

pub returns : goal.returns
returns g c =
    ap (λ (q : Port). take c.min.result (replicate most_ports q)) c.new.ensures
    ∙ take-replicate c.min.result most_ports new_port (omega arith)
    ∙ ap (λ n. replicate n new_port) (c.min.ensures ∙ ap (λ m. min m most_ports) c.max.ensures)

use Rattle.std.proofs.Common.{◌≡◌, ◌/◌, max, get_or, Ok, sym, ap, ◌∙◌, subst, arith}
use Rattle.table.specs.declared.service.Service.{Service}
use Rattle.table.specs.Slots.{bits, slots}
use Rattle.table.specs.Services.{distances, service_in, Served}
use Rattle.table.proofs.Given.{accepted, served}
use Rattle.table.proofs.service.Service.asked.Goals as goal

pub returns : goal.returns
returns c =
    let level = c.args.level in
    let weight = c.args.weight in
    let t = c.spacing-spacing.ensures.value in
    let size : slots / c.spacing-spacing.result ≡ (service_in bits (get_or distances level 0) weight).size = ap (λ x. slots / x) t in
    let grant : c.max.result ≡ (service_in bits (get_or distances level 0) weight).grant = c.max.ensures ∙ ap (λ x. max weight x) size in
    let same : service_in bits (get_or distances level 0) weight ≡ record { spacing = c.spacing-spacing.result; size = slots / c.spacing-spacing.result; grant = c.max.result } =
    sym (λ i. record { spacing = t i; size = size i; grant = grant i }) in
    record {
      value = sym (accepted level weight (omega arith) (omega arith) (omega arith) ∙ ap (λ (s : Service). Ok s) same);
      served = subst (Served level weight) same (served level weight (omega arith) (omega arith) (omega arith));
    }

use Rattle.std.proofs.Common.{◌≡◌, ◌-◌, ◌*◌, ◌^◌, ℕ, sym, ap, ◌∙◌, arith}
use Rattle.table.specs.Slots.{bits}
use Rattle.book.specs.Entries.{size_at}
use Rattle.book.proofs.Held.{freed_held, gone_seated}
use Rattle.book.proofs.entries.Entries.remove.Goals as goal

pub overflow_sub-self : goal.overflow_sub-self
overflow_sub-self c =
    let xs = c.self.inside.sessions in
    let j : ℕ = c.args.set.level in
    let size : size_at xs c.first.result ≡ 2 ^ j = ap (λ xs. size_at xs c.first.result) c.self.view_is ∙ ap (size_at c.args.self.now) c.first.ensures ∙ c.requires in
    omega (arith, freed_held bits xs c.first.result j c.self.inside.held.bits c.mask.result c.self.invariant.0 c.self.invariant.1 size (c.mask.ensures ∙ ap (λ f. (2 ^ 2 ^ j - 1) * 2 ^ f) (sym c.first.ensures)))

pub invariant_of-self : goal.invariant_of-self
invariant_of-self c =
    let xs = c.self.inside.sessions in
    let j : ℕ = c.args.set.level in
    let size : size_at xs c.first.result ≡ 2 ^ j = ap (λ xs. size_at xs c.first.result) c.self.view_is ∙ ap (size_at c.args.self.now) c.first.ensures ∙ c.requires in (
      gone_seated bits xs c.first.result j c.self.invariant.0 size,
      omega (arith, freed_held bits xs c.first.result j c.self.inside.held.bits c.mask.result c.self.invariant.0 c.self.invariant.1 size (c.mask.ensures ∙ ap (λ f. (2 ^ 2 ^ j - 1) * 2 ^ f) (sym c.first.ensures))),
    )

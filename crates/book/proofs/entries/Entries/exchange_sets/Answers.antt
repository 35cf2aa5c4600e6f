use Rattle.std.proofs.Common.{◌≡◌, ℕ, ◌+◌, ◌*◌, ◌^◌, ◌≤◌, length, sym, ap, ◌∙◌, subst, inl, inr, arith}
use Rattle.table.specs.Slots.{bits}
use Rattle.book.specs.Bits.{held_bits, part}
use Rattle.book.specs.Entries.{Ranks}
use Rattle.book.specs.Levels.{Free, FreeIn, Beside}
use Rattle.book.specs.Standing.{Seated}
use Rattle.book.specs.Moves.{exchanged, exchanged_sets}
use Rattle.book.proofs.Decided.{apart_inside}
use Rattle.book.proofs.Held.{held_fits, exchange_seated, moved_is}
use Rattle.book.proofs.entries.Entries.exchange_sets.Goals as goal

pub exchange-requires-clause-apart : goal.exchange-requires-clause-apart
exchange-requires-clause-apart c =
    let s : ℕ = c.args.p.level in
    let q : ℕ = c.args.q.index in
    let at : c.first-g.result ≡ q * 2 ^ s = c.first-g.ensures ∙ ap (λ l. q * 2 ^ l) c.requires.level in
    elim (apart_inside s c.args.p.index q c.requires.apart) [ inl h ↦ inl (omega (arith, c.first-f.ensures, at, c.size.ensures)) | inr h ↦ inr (omega (arith, c.first-f.ensures, at, c.size.ensures)) ]

pub overflow_add-self : goal.overflow_add-self
overflow_add-self c =
    let xs : Ranks = c.self.inside.sessions in
    let s : ℕ = c.args.p.level in
    let p : ℕ = c.args.p.index in
    let q : ℕ = c.args.q.index in
    let back = sym c.self.view_is in
    let free : Free (FreeIn bits xs) s p = subst (λ ys. Free (FreeIn bits ys) s p) back c.requires.free in
    let beside : Beside bits xs s q = subst (λ ys. Beside bits ys s q) back c.requires.beside in
    let within : q * 2 ^ s + 2 ^ s ≤ 2 ^ bits = subst (λ l. q * 2 ^ l + 2 ^ l ≤ 2 ^ bits) c.requires.level c.args.q.within in
    let at : c.first-g.result ≡ q * 2 ^ s = c.first-g.ensures ∙ ap (λ l. q * 2 ^ l) c.requires.level in
    let moved : c.part-moved.result ≡ part c.self.inside.held.bits c.first-g.result c.size.result =
    c.part-moved.ensures ∙ ap (λ l. part c.self.inside.held.bits (q * 2 ^ l) (2 ^ l)) c.requires.level ∙ ap (λ m. part c.self.inside.held.bits (q * 2 ^ s) m) (sym c.size.ensures) ∙ ap (λ x. part c.self.inside.held.bits x c.size.result) (sym at) in
    let long : 2 ^ bits ≤ length xs = omega (arith, c.self.invariant.0.long) in
    omega (
      arith,
      moved_is bits s p q xs long c.self.invariant.0.sound free within beside c.requires.apart (omega arith)
          c.self.inside.held.bits c.first-f.result c.first-g.result c.size.result c.part-moved.result c.self.invariant.1 c.first-f.ensures at c.size.ensures moved,
      held_fits bits (exchanged_sets xs s p q) (omega arith),
    )

pub invariant_of-self : goal.invariant_of-self
invariant_of-self c =
    let xs : Ranks = c.self.inside.sessions in
    let s : ℕ = c.args.p.level in
    let p : ℕ = c.args.p.index in
    let q : ℕ = c.args.q.index in
    let back = sym c.self.view_is in
    let free : Free (FreeIn bits xs) s p = subst (λ ys. Free (FreeIn bits ys) s p) back c.requires.free in
    let beside : Beside bits xs s q = subst (λ ys. Beside bits ys s q) back c.requires.beside in
    let within : q * 2 ^ s + 2 ^ s ≤ 2 ^ bits = subst (λ l. q * 2 ^ l + 2 ^ l ≤ 2 ^ bits) c.requires.level c.args.q.within in
    let at : c.first-g.result ≡ q * 2 ^ s = c.first-g.ensures ∙ ap (λ l. q * 2 ^ l) c.requires.level in
    let moved : c.part-moved.result ≡ part c.self.inside.held.bits c.first-g.result c.size.result =
    c.part-moved.ensures ∙ ap (λ l. part c.self.inside.held.bits (q * 2 ^ l) (2 ^ l)) c.requires.level ∙ ap (λ m. part c.self.inside.held.bits (q * 2 ^ s) m) (sym c.size.ensures) ∙ ap (λ x. part c.self.inside.held.bits x c.size.result) (sym at) in
    let long : 2 ^ bits ≤ length xs = omega (arith, c.self.invariant.0.long) in
    let after : c.exchange.new.sessions ≡ exchanged_sets xs s p q = c.exchange.ensures
    ∙ ap (λ x. exchanged xs x c.first-g.result c.size.result) c.first-f.ensures
    ∙ ap (λ x. exchanged xs (p * 2 ^ s) x c.size.result) at
    ∙ ap (exchanged xs (p * 2 ^ s) (q * 2 ^ s)) c.size.ensures in (
      subst (Seated bits) (sym after) (exchange_seated bits s p q xs long c.self.invariant.0.sound free within beside c.requires.apart c.self.invariant.0.long),
      moved_is bits s p q xs long c.self.invariant.0.sound free within beside c.requires.apart (omega arith)
          c.self.inside.held.bits c.first-f.result c.first-g.result c.size.result c.part-moved.result c.self.invariant.1 c.first-f.ensures at c.size.ensures moved ∙ ap (held_bits bits) (sym after),
    )

pub returns : goal.returns
returns c =
    let s : ℕ = c.args.p.level in
    let p : ℕ = c.args.p.index in
    let q : ℕ = c.args.q.index in
    let xs : Ranks = c.self.inside.sessions in
    let at : c.first-g.result ≡ q * 2 ^ s = c.first-g.ensures ∙ ap (λ l. q * 2 ^ l) c.requires.level in
    let after : c.exchange.new.sessions ≡ exchanged_sets xs s p q = c.exchange.ensures
    ∙ ap (λ x. exchanged xs x c.first-g.result c.size.result) c.first-f.ensures
    ∙ ap (λ x. exchanged xs (p * 2 ^ s) x c.size.result) at
    ∙ ap (exchanged xs (p * 2 ^ s) (q * 2 ^ s)) c.size.ensures in
    after ∙ ap (λ ys. exchanged_sets ys s p q) c.self.view_is

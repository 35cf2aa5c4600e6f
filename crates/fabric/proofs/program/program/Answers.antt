use Rattle.std.proofs.Common.{◌≡◌, ◌+◌, ◌∷◌, length, ◌⊎◌, ⊎_elim, inl, inr, rules}
use Rattle.fabric.proofs.Programs.{going_more, going_all}
use Rattle.fabric.proofs.program.program.Goals as goal

pub loop-slot-preserved : goal.loop-slot-preserved
loop-slot-preserved g c =
    let it = c.loop-slot.slot-iterator in
    let on = c.next.new.self in
    let old = c.in-Some.before.now in
    let new = c.in-Some.after.now in
    let xs : it.iter.a.rest.now ≡ old ∷ on.iter.a.rest.now = search rules in
    let ys : it.iter.b.rest.now ≡ new ∷ on.iter.b.rest.now = search rules in
    let at : c.in-Some.slot ≡ it.count = search rules in
    let next : on.count ≡ it.count + 1 = search rules in
    going_more _ _ _ _ _ _ _ _ _ old new _ _ c.in-Some.slot on.count c.write_changed-written.result _ xs ys at next c.loop-slot.invariant c.write_changed-written.ensures.count c.write_changed-written.ensures.after

pub returns-clause-count : goal.returns-clause-count
returns-clause-count g c =
    let it = c.loop-slot.slot-iterator in
    let none : (length it.iter.a.rest.now ≡ 0) ⊎ (length it.iter.b.rest.now ≡ 0) = ⊎_elim (λ l. inl (search (rules, l))) (λ r. inr (search (rules, r))) c.in-None.ensures.steps.0 in
    (going_all _ _ _ _ _ _ _ _ _ none c.loop-slot.invariant).0

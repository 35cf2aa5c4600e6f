use Rattle.std.proofs.Common.{◌+◌, replicate, sym, refl, ◌∙◌, subst, arith}
use lib.ListN.{get_or-replicate}
use Rattle.table.specs.Slots.{bits, empty_slot}
use Rattle.book.proofs.Tested.{all_carried, session_set}
use Rattle.book.proofs.Holders.{LaidTo, laid_none, laid_empty, laid_more, laid_all}
use Rattle.book.proofs.slots.slots_of.Goals as goal
use Rattle.book.proofs.slots.slots_of.Goals.{in-Some, in_default}

pub loop-first-init : goal.loop-first-init
loop-first-init c =
    laid_none bits c.args.book.now (replicate 64 c.empty-table.result) refl
    (λ z l. get_or-replicate 64 z c.empty-table.result empty_slot l ∙ c.empty-table.ensures)

pub lay-requires-clause-carried : goal.lay-requires-clause-carried
lay-requires-clause-carried c = all_carried bits c.args.book.now c.requires c.loop-first.first c.in-Some.session (sym c.in-Some.is)

pub lay-requires-clause-set : goal.lay-requires-clause-set
lay-requires-clause-set c = (session_set bits c.args.book.now c.requires c.loop-first.first c.in-Some.session (sym c.in-Some.is)).0

pub loop-first-preserved : goal.loop-first-preserved
loop-first-preserved c =
    let laid = laid_more bits c.args.book.now c.loop-first.first c.loop-first.table c.loop-first.invariant c.requires.sound in
    elim c.match-entry.branch [
      | in-Some w ↦ subst (LaidTo bits c.args.book.now (c.loop-first.first + 1)) (sym w.table-is) (laid w.in-Some.session w.lay.new.table (sym w.in-Some.is) w.lay.ensures)
      | in_default w ↦ subst (LaidTo bits c.args.book.now (c.loop-first.first + 1)) (sym w.table-is) (laid_empty bits c.args.book.now c.loop-first.first c.loop-first.table c.loop-first.invariant (sym w.in_default.is))
    ]

pub returns : goal.returns
returns c = laid_all bits c.args.book.now c.loop-first.table c.requires.sound (subst (λ f. LaidTo bits c.args.book.now f c.loop-first.table) (omega arith) c.loop-first.invariant)

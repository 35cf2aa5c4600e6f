use Rattle.std.proofs.Common.{◌≡◌, suc, ◌+◌, ◌-◌, sym, ap, ◌∙◌, subst, arith, pow-add}
use Rattle.table.specs.Slots.{bits}
use Rattle.table.specs.Reversal.{reversed, OffsetOfSet, SetOfOffset}
use Rattle.table.proofs.Reversals.{turn, reversed_none, reversed_below, reversed_twice, offset_of_set, set_of_offset}
use Rattle.table.proofs.rank.reverse.Goals as goal

pub loop-i-preserved : goal.loop-i-preserved
loop-i-preserved c =
    let i = c.loop-i.i in
    let e : bits - i ≡ suc (bits - (i + 1)) = omega arith in
    (sym (turn (bits - (i + 1)) c.loop-i.out c.loop-i.left) ∙ (rw e at c.loop-i.invariant.0), omega (arith, pow-add 2 i 1))

pub returns : goal.returns
returns c =
    let slot = c.args.slot in
    let none : bits - c.loop-i.i ≡ 0 = omega arith in
    let is : c.loop-i.out ≡ reversed bits slot = omega (arith, rw none at c.loop-i.invariant.0, reversed_none c.loop-i.left) in
    record {
      value = is;
      within = omega (arith, reversed_below bits slot);
      inverse = λ h. ap (reversed bits) is ∙ reversed_twice bits slot h;
      offset = subst (OffsetOfSet bits slot) (sym is) (offset_of_set bits slot);
      set = subst (SetOfOffset bits slot) (sym is) (set_of_offset bits slot);
    }

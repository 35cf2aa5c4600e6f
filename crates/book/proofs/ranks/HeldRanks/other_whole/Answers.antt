use Rattle.std.proofs.Common.{ℕ, ◌/◌, ◌^◌, Bool, not, ◌&&◌, eqb, refl, arith, rules, tests}
use Rattle.std.proofs.lemmas.Iterator.{YieldsList-from_range, YieldsList-from_map_by}
use Rattle.std.proofs.lemmas.Iterator.Consumers.{YieldsList-at}
use Rattle.std.proofs.lemmas.Iterator.Search.{find_from_yields_List}
use Rattle.table.specs.Slots.{bits}
use Rattle.book.specs.declared.rank_set.RankSet.{RankSet}
use Rattle.book.specs.FreeSets.{whole_by}
use Rattle.book.specs.Bits.{free_bits}
use Rattle.book.proofs.Found.{set_found}
use Rattle.book.proofs.ranks.HeldRanks.other_whole.Goals as goal

pub returns : goal.returns
returns c =
    let test : ℕ → ℕ → Bool = λ i o. not (eqb o c.args.index) && whole_by (free_bits bits c.args.self.bits) i o in
    let n : ℕ = 64 / 2 ^ c.args.level in
    let pair : RankSet → ℕ × ℕ = λ s. (s.level, s.index) in
    set_found test c.args.level n c.find.result
    (find_from_yields_List (λ (p : ℕ × ℕ). test p.0 p.1) _ _ c.find.result c.find.ensures.ran
    (YieldsList-from_map_by _ pair (λ q. (c.args.level, q)) (YieldsList-at c.map.ensures.source (YieldsList-from_range 0 n n refl (omega arith))) c.map.ensures.closure (λ x r q k. search (rules, tests)))
    (λ x b q k. search (rules, tests)))

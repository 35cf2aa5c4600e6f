use Rattle.std.proofs.Common.{rules, tests, ◌∙◌}
use Rattle.std.proofs.lemmas.Iterator.{YieldsList-from_slice}
use Rattle.std.proofs.lemmas.Iterator.Search.{any_from_yields_List}
use Rattle.book.specs.Books.{holds}
use Rattle.fabric.specs.declared.fabric.PortState.{PortState}
use Rattle.fabric.proofs.Books.{live_any}
use Rattle.fabric.proofs.fabric.Fabric.is_live.Goals as goal

pub returns : goal.returns
returns c =
    any_from_yields_List (λ (p : PortState). holds c.args.number p.book.ranks) _ _ _ c.any.ensures.ran (YieldsList-from_slice c.args.self.now.ports cc) (λ x b q k. search (rules, tests))
    ∙ live_any c.args.number c.args.self.now.ports

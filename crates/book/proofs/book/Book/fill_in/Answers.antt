use Rattle.std.proofs.Common.{◌≡◌, ℕ, ◌+◌, ◌-◌, ◌*◌, ◌^◌, set, Some, sym, ap, ◌∙◌, subst, arith}
use Rattle.table.specs.Slots.{bits}
use Rattle.book.specs.declared.book.Book.{Book}
use Rattle.book.specs.declared.session.Session.{Session}
use Rattle.book.specs.declared.rank_set.RankSet.{RankSet}
use Rattle.book.specs.Bits.{held_bits}
use Rattle.book.specs.Books.{place_for}
use Rattle.book.specs.Laws.{FillLaw}
use Rattle.book.proofs.Held.{held_fits, taken_bits}
use Rattle.book.proofs.Tested.{tested}
use Rattle.book.proofs.Keeping.{book_stands, fill_law, set_stands}
use Rattle.book.proofs.Placed.{place_found, filled_at, filled_none}
use Rattle.book.proofs.book.Book.fill_in.Goals as goal

pub returns-in_err-set-clause-after : goal.returns-in_err-set-clause-after
returns-in_err-set-clause-after c = filled_none bits c.args.self.now.ranks c.args.session (sym c.in_err-set.ensures)

pub returns-in_err-set-clause-law : goal.returns-in_err-set-clause-law
returns-in_err-set-clause-law c =
    let b = c.args.self.now in
    let s = c.args.session in
    let place = c.from_residual.ensures ∙ sym c.in_err-set.ensures in
    let after = filled_none bits b.ranks s (sym c.in_err-set.ensures) in
    subst (λ o. FillLaw bits b.ranks s o b.ranks) (sym place) (subst (FillLaw bits b.ranks s (place_for bits b.ranks s)) (sym after) (fill_law bits b.ranks s (book_stands b)))

-- the set's ranks are held now
added : (b : Book) (s : Session) (t : RankSet) (f mask : ℕ) → f ≡ t.index * 2 ^ t.level → (s.size ≡ 2 ^ t.level) × (place_for bits b.ranks s ≡ Some (t.index * 2 ^ t.level))
    → mask ≡ (2 ^ 2 ^ t.level - 1) * 2 ^ (t.index * 2 ^ t.level) → b.held.bits + mask ≡ held_bits bits (set b.ranks f (Some s))
added b s t f mask first on is =
    let h = book_stands b in
    taken_bits bits b.ranks s f b.held.bits mask (place_found bits b.ranks s f (ap Some first ∙ sym on.1)) (record { long = h.long; sound = h.sound }) b.taken
    (is ∙ ap (λ m. (2 ^ m - 1) * 2 ^ (t.index * 2 ^ t.level)) (sym on.0) ∙ ap (λ x. (2 ^ s.size - 1) * 2 ^ x) (sym first))

pub overflow_add-self : goal.overflow_add-self
overflow_add-self c =
    omega (
      arith,
      added c.args.self.now c.args.session c.in_ok-set.set c.first-first.result c.mask.result c.first-first.ensures c.in_ok-set.ensures c.mask.ensures,
      held_fits bits (set c.args.self.now.ranks c.first-first.result (Some c.args.session)) (omega arith),
    )

pub invariant_of-self : goal.invariant_of-self
invariant_of-self c =
    let b = c.args.self.now in
    let s = c.args.session in
    let f = c.first-first.result in
    let place : Some f ≡ place_for bits b.ranks s = ap Some c.first-first.ensures ∙ sym c.in_ok-set.ensures.1 in
    let t = tested bits (set b.ranks f (Some s)) (set_stands bits b.ranks s f (place_found bits b.ranks s f place) (book_stands b)) in
    record {
      long = t.long;
      fit = t.fit;
      sets = t.sets;
      apart = t.apart;
      single = t.once;
      ordered = t.ordered;
      taken = added b s c.in_ok-set.set f c.mask.result c.first-first.ensures c.in_ok-set.ensures c.mask.ensures;
    }

pub returns-clause-after : goal.returns-clause-after
returns-clause-after c = filled_at bits c.args.self.now.ranks c.args.session c.first-first.result (ap Some c.first-first.ensures ∙ sym c.in_ok-set.ensures.1)

pub returns-clause-law : goal.returns-clause-law
returns-clause-law c =
    let b = c.args.self.now in
    let s = c.args.session in
    let f = c.first-first.result in
    let place : Some f ≡ place_for bits b.ranks s = ap Some c.first-first.ensures ∙ sym c.in_ok-set.ensures.1 in
    let after = filled_at bits b.ranks s f place in
    subst (λ o. FillLaw bits b.ranks s o (set b.ranks f (Some s))) (sym place) (subst (FillLaw bits b.ranks s (place_for bits b.ranks s)) (sym after) (fill_law bits b.ranks s (book_stands b)))

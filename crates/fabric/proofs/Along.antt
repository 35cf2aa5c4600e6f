-- One port's change, then the others'.
use Rattle.std.proofs.Common.{◌≡◌, ℕ, ◌+◌, ◌<◌, List, length, get_or, drop, sym, ap, ◌∙◌, arith}
use Rattle.std.proofs.lemmas.List.{drop_more}
use Rattle.table.specs.declared.slot.Slot.{Slot}
use Rattle.table.specs.Slots.{bits}
use Rattle.bank.specs.declared.port.Port.{Port}
use Rattle.book.specs.Books.{Ranks, contents, changed_slots}
use Rattle.fabric.specs.States.{State, book_at, with_book}
use Rattle.fabric.specs.Changes.{programmed, Change, changing, changed_at, changed_along}

-- the port's contents before and after, programmed
pub changed_at_lem : (change : Ranks → Ranks) (p n : ℕ) (s t : State) (ps qs : List Port) (old new : List Slot)
    → old ≡ contents bits (book_at s.books p) → t ≡ with_book s p (change (book_at s.books p)) → new ≡ contents bits (change (book_at s.books p))
    → n ≡ changed_slots old new → qs ≡ programmed p 0 old new ps → changing n t qs ≡ changed_at change p (changing 0 s ps)
changed_at_lem change p n s t ps qs old new was is becomes count wrote =
    (λ i. changing (count i) (is i) (wrote i))
    ∙ (λ i. changing (changed_slots (was i) (becomes i)) (with_book s p (change (book_at s.books p))) (programmed p 0 (was i) (becomes i) ps))
    ∙ ap (λ m. changing m (with_book s p (change (book_at s.books p))) (programmed p 0 (contents bits (book_at s.books p)) (contents bits (change (book_at s.books p))) ps)) (omega arith)

-- slots counted from n on
pub changed_from : (change : Ranks → Ranks) (p n m : ℕ) (s t : State) (ps qs : List Port)
    → changing m t qs ≡ changed_at change p (changing 0 s ps) → changing (n + m) t qs ≡ changed_at change p (changing n s ps)
changed_from change p n m s t ps qs is =
    ap (λ (c : Change). changing (n + c.slots) c.state c.ports) is
    ∙ ap (λ k. changing k (with_book s p (change (book_at s.books p))) (programmed p 0 (contents bits (book_at s.books p)) (contents bits (change (book_at s.books p))) ps)) (omega arith)

-- along a path
module _ (change : Ranks → Ranks) (path : List ℕ) (i : ℕ) where
  pub along_more : (n m : ℕ) (s t : State) (ps qs : List Port) → i < length path → changing m t qs ≡ changed_at change (get_or path i 0) (changing 0 s ps)
      → changed_along change (drop (i + 1) path) (changing (n + m) t qs) ≡ changed_along change (drop i path) (changing n s ps)
  along_more n m s t ps qs more is =
      ap (changed_along change (drop (i + 1) path)) (changed_from change (get_or path i 0) n m s t ps qs is)
      ∙ sym (ap (λ (xs : List ℕ). changed_along change xs (changing n s ps)) (drop_more path i 0 more))

-- The ports that hold a session, one after the other.
use Rattle.std.proofs.Common.{◌≡◌, ℕ, ◌+◌, ◌<◌, Bool, true, false, cond, List, [], ◌∷◌, length, drop, Ok, sym, refl, ap, ◌∙◌, arith}
use Rattle.std.proofs.lemmas.List.{drop_more, drop-set-lt, length-set}
use Rattle.table.specs.Slots.{bits}
use Rattle.bank.specs.declared.port.Port.{Port}
use Rattle.book.specs.Books.{Ranks, holds, released}
use Rattle.fabric.specs.States.{State, book_at, outcome}
use Rattle.fabric.specs.Questions.{and_then}
use Rattle.fabric.specs.Reserving.{ask_started, ask_number}
use Rattle.fabric.specs.Changes.{Change, changing, changed_at, changed_along}
use Rattle.fabric.specs.Releasing.{ask_live, ask_holders, release_answer, holders, released_at, ended, if_released, release_call}
use Rattle.fabric.proofs.Along.{changed_from}

-- what the loop over the ports knows at port p: what is left, done from here, comes to the whole, and the books from p on are as they were
pub record Sofar (number : ℕ) (was : State) (before : List Port) (p n : ℕ) (s : State) (ps : List Port) : Type 0 where
  pub whole : changed_along (λ b. released bits b number) (holders number p (drop p was.books)) (changing n s ps)
      ≡ changed_along (λ b. released bits b number) (holders number 0 was.books) (changing 0 was before)
  pub rest : drop p s.books ≡ drop p was.books
  pub long : length s.books ≡ length was.books

module _ (number : ℕ) (was : State) (before : List Port) where
  module _ (p n : ℕ) (s : State) (ps : List Port) (inv : Sofar number was before p n s ps) where
    module _ (more : p < length was.books) where
      -- the books from p on: this one, and the others
      here : drop p was.books ≡ book_at s.books p ∷ drop (p + 1) s.books
      here = sym inv.rest ∙ drop_more s.books p [] (omega (arith, inv.long))

      others : drop (p + 1) s.books ≡ drop (p + 1) was.books
      others = tails (drop p was.books) here
        where
          tails : (xs : List Ranks) → drop p was.books ≡ book_at s.books p ∷ drop (p + 1) s.books → drop (p + 1) s.books ≡ drop (p + 1) was.books
          tails xs e = let f = drop_more was.books p [] more in cc

      next : (b : Bool) (m : ℕ) (t : State) (qs : List Port) → holds number (book_at s.books p) ≡ b
          → changing m t qs ≡ cond b (changed_at (λ b. released bits b number) p (changing 0 s ps)) (changing 0 s ps) → Sofar number was before (p + 1) (n + m) t qs
      next true m t qs held is = record {
        whole =
            (λ i. changed_along (λ b. released bits b number) (holders number (p + 1) (sym others i)) (changed_from (λ b. released bits b number) p n m s t ps qs is i))
            ∙ sym (ap (λ bs. changed_along (λ b. released bits b number) (holders number p bs) (changing n s ps)) here ∙ simp (held, holders, changed_along))
            ∙ inv.whole;
        rest = ap (λ (c : Change). drop (p + 1) c.state.books) is ∙ drop-set-lt (p + 1) s.books p (released bits (book_at s.books p) number) (omega arith) ∙ others;
        long = ap (λ (c : Change). length c.state.books) is ∙ length-set s.books p (released bits (book_at s.books p) number) ∙ inv.long;
      }
      next false m t qs held is = record {
        whole =
            (λ i. changed_along (λ b. released bits b number) (holders number (p + 1) (sym others i)) (ap (λ (c : Change). changing (n + c.slots) c.state c.ports) is i))
            ∙ ap (λ k. changed_along (λ b. released bits b number) (holders number (p + 1) (drop (p + 1) s.books)) (changing k s ps)) {x = n + 0} {y = n} (omega arith)
            ∙ sym (ap (λ bs. changed_along (λ b. released bits b number) (holders number p bs) (changing n s ps)) here ∙ simp (held, holders))
            ∙ inv.whole;
        rest = ap (λ (c : Change). drop (p + 1) c.state.books) is ∙ others;
        long = ap (λ (c : Change). length c.state.books) is ∙ inv.long;
      }

      pub sofar_more : (m : ℕ) (t : State) (qs : List Port) → changing m t qs ≡ released_at number p (changing 0 s ps) → Sofar number was before (p + 1) (n + m) t qs
      sofar_more m t qs is = next (holds number (book_at s.books p)) m t qs refl is

-- a release that is accepted
pub release_accepted : (s t : State) (ps qs : List Port) (number n m : ℕ) → n ≡ number → Ok tt ≡ ask_started s ps → Ok tt ≡ ask_number number → Ok tt ≡ ask_live n s.books → Ok tt ≡ ask_holders n s.books ps
    → changing m t qs ≡ changed_along (λ b. released bits b n) (holders n 0 s.books) (changing 0 s ps) → outcome (Ok m) t qs ≡ release_call s ps number
release_accepted s t ps qs number n m same started asked live opened is =
    ap (λ (c : Change). outcome (Ok c.slots) c.state c.ports) is
    ∙ ap (ended s ps) same
    ∙ ap (λ r. if_released r s ps number) yes
  where
    yes : Ok tt ≡ release_answer s ps number
    yes = λ i. and_then (started i) (λ _. and_then (asked i) (λ _. and_then ((live ∙ ap (λ k. ask_live k s.books) same) i) (λ _. (opened ∙ ap (λ k. ask_holders k s.books ps) same) i)))

-- Reading what is kept of a port among the ports.
use Rattle.std.proofs.Common.{◌≡◌, ℕ, ◌<◌, Bool, true, false, cond, ◌||◌, List, Option, [], map, length, get_or, set, sym, refl, ap, ◌∙◌}
use Rattle.std.proofs.lemmas.List.{get_or-map, map-set, set-get_or, length-map}
use Rattle.std.specs.List.{list_any}
use Rattle.std.proofs.lemmas.List.Recursion.{same_from_clauses}
use Rattle.bank.specs.declared.port.Port.{Port}
use Rattle.table.specs.Slots.{bits}
use Rattle.book.specs.Books.{Ranks, contents, holds, released}
use Rattle.fabric.specs.declared.fabric.PortState.{PortState}
use Rattle.fabric.specs.States.{ranks_of, pointer_of, state_of, book_at, with_book}
use Rattle.fabric.specs.Changes.{IsWritten, changing, changed_at}
use Rattle.fabric.specs.Reserving.{is_live}
use Rattle.fabric.specs.Releasing.{released_at}
use Rattle.fabric.specs.Picking.{pointer_at, with_pointer}
use Rattle.fabric.proofs.Along.{changed_at_lem}

-- whether one of the books has the session
pub live_any : (number : ℕ) (ports : List PortState) → list_any (λ (p : PortState). holds number p.book.ranks) ports ≡ is_live number (map ranks_of ports)
live_any number =
    same_from_clauses (list_any (λ (p : PortState). holds number p.book.ranks)) (λ ports. is_live number (map ranks_of ports)) (λ p found. holds number p.book.ranks || found) refl (λ p ports. refl)
    (λ p ports. refl)

-- as many books as ports
pub books_long : (ports : List PortState) → length (map ranks_of ports) ≡ length ports
books_long ports = length-map ports ranks_of

module _ (ports : List PortState) (p : ℕ) (d : PortState) (within : p < length ports) where
  -- the book and the pointer of a port
  pub book_at_lem : book_at (map ranks_of ports) p ≡ (get_or ports p d).book.ranks
  book_at_lem = get_or-map ranks_of ports p d [] within

  pub pointer_at_lem : pointer_at (map pointer_of ports) p ≡ (get_or ports p d).pointer
  pointer_at_lem = get_or-map pointer_of ports p d (record { slot = 0; credit = 0 }) within

  -- another book at a port
  pub book_put : (started : Option ℕ) (new : PortState) → new.pointer ≡ (get_or ports p d).pointer → state_of started (set ports p new) ≡ with_book (state_of started ports) p new.book.ranks
  book_put started new same =
      λ i. record {
        started = started;
        books = map-set ranks_of ports p new i;
        pointers = (map-set pointer_of ports p new ∙ ap (set (map pointer_of ports) p) (same ∙ sym pointer_at_lem) ∙ set-get_or (map pointer_of ports) p (record { slot = 0; credit = 0 })) i;
      }

  -- another pointer at a port
  pub pointer_put : (started : Option ℕ) (new : PortState) → new.book.ranks ≡ (get_or ports p d).book.ranks → state_of started (set ports p new) ≡ with_pointer (state_of started ports) p new.pointer
  pointer_put started new same =
      λ i. record {
        started = started;
        books = (map-set ranks_of ports p new ∙ ap (set (map ranks_of ports) p) (same ∙ sym book_at_lem) ∙ set-get_or (map ranks_of ports) p []) i;
        pointers = map-set pointer_of ports p new i;
      }

  -- a book changed in its place
  pub changed_in_place : (change : Ranks → Ranks) (started : Option ℕ) (new : PortState) (n : ℕ) (before after : List Port) → new.book.ranks ≡ change (get_or ports p d).book.ranks
      → IsWritten p n (get_or ports p d) new before after → changing n (state_of started (set ports p new)) after ≡ changed_at change p (changing 0 (state_of started ports) before)
  changed_in_place change started new n before after book wrote =
      let becomes : new.book.ranks ≡ change (book_at (map ranks_of ports) p) = book ∙ ap change (sym book_at_lem) in
      changed_at_lem change p n (state_of started ports) (state_of started (set ports p new)) before after _ _
      (ap (contents bits) (sym book_at_lem)) (book_put started new wrote.pointer ∙ ap (with_book (state_of started ports) p) becomes)
      (ap (contents bits) becomes) wrote.count wrote.written

  release_by : (number : ℕ) (started : Option ℕ) (new : PortState) (n : ℕ) (before after : List Port) (b : Bool) → holds number (get_or ports p d).book.ranks ≡ b
      → (b ≡ true → new.book.ranks ≡ released bits (get_or ports p d).book.ranks number) → (b ≡ true → IsWritten p n (get_or ports p d) new before after)
      → (b ≡ false → (n ≡ 0) × (new ≡ get_or ports p d) × (after ≡ before))
      → changing n (state_of started (set ports p new)) after ≡ cond b (changed_at (λ x. released bits x number) p (changing 0 (state_of started ports) before)) (changing 0 (state_of started ports) before)
  release_by number started new n before after true is held wrote free =
      changed_in_place (λ x. released bits x number) started new n before after (held refl) (wrote refl)
  release_by number started new n before after false is held wrote free =
      let same = free refl in
      (λ i. changing (same.0 i) (state_of started (set ports p (same.1 i))) (same.2 i))
      ∙ ap (λ xs. changing 0 (state_of started xs) before) (set-get_or ports p d)

  -- a session ended in its place, if it was there
  pub released_in_place : (number : ℕ) (started : Option ℕ) (new : PortState) (n : ℕ) (before after : List Port)
      → (holds number (get_or ports p d).book.ranks ≡ true → new.book.ranks ≡ released bits (get_or ports p d).book.ranks number)
      → (holds number (get_or ports p d).book.ranks ≡ true → IsWritten p n (get_or ports p d) new before after)
      → (holds number (get_or ports p d).book.ranks ≡ false → (n ≡ 0) × (new ≡ get_or ports p d) × (after ≡ before))
      → changing n (state_of started (set ports p new)) after ≡ released_at number p (changing 0 (state_of started ports) before)
  released_in_place number started new n before after held wrote free =
      release_by number started new n before after (holds number (get_or ports p d).book.ranks) refl held wrote free
      ∙ ap (λ x. cond (holds number x) (changed_at (λ y. released bits y number) p (changing 0 (state_of started ports) before)) (changing 0 (state_of started ports) before)) (sym book_at_lem)

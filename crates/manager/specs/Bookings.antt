-- Worked bookings, on a bank of four open ports after a start.
use Rattle.std.specs.Prelude.{◌≡◌, ℕ, true, false, List, [], ◌∷◌, ◌++◌, map, replicate, Ok, Err, Result}
use Rattle.std.specs.List.{range_with_len}
use Rattle.table.specs.declared.refusal.Reason.TheVariants.{BadWeight, NoRoom}
use Rattle.table.specs.declared.slot.Slot.{Slot}
use Rattle.table.specs.Slots.{bits}
use Rattle.bank.specs.Ports.{slot_at}
use Rattle.book.specs.Sets.{is_free}
use Rattle.fabric.specs.declared.declined.Declined.{Declined}
use Rattle.fabric.specs.Declines.{by_fabric}
use Rattle.fabric.specs.States.{book_at}
use Rattle.manager.specs.declared.call.Answer.{Answer}
use Rattle.manager.specs.declared.call.Answer.TheVariants.{Reserved, Released}
use Rattle.manager.specs.Calls.{Ask, reserve, release}
use Rattle.manager.specs.Worlds.{World, begun, result, after_call}

-- calls one after the other, the first first
abbrev pub after_all : World → List Ask → World
after_all w [] = w
after_all w (c ∷ cs) = after_all (after_call w c) cs

-- what each of them is answered
abbrev pub answers_of : World → List Ask → List (Result Answer Declined)
answers_of w [] = []
answers_of w (c ∷ cs) = (result w c).answer ∷ answers_of (after_call w c) cs

-- four ports, just started
abbrev pub four : World
four = begun (record { count = 4; waiting = [] })

-- what slot s of port p holds
abbrev pub holding : World → ℕ → ℕ → Slot
holding w p s = slot_at w.ports p s

abbrev pub slot : ℕ → ℕ → Slot
slot lane weight = record { lane = lane; weight = weight }

-- the calls of one evening
abbrev pub evening : List Ask
evening =
    reserve 1 7 20 (0 ∷ [])
    ∷ reserve 2 0 300 (0 ∷ 1 ∷ [])
    ∷ reserve 3 13 40 (0 ∷ [])
    ∷ reserve 4 13 32 (1 ∷ 0 ∷ [])
    ∷ reserve 5 11 16 (0 ∷ [])
    ∷ release 1
    ∷ []

abbrev pub answers : List (Result Answer Declined)
answers =
    Ok (Reserved 8 20 8)
    ∷ Ok (Reserved 32 300 4)
    ∷ Ok (Reserved 2 40 32)
    ∷ Err (by_fabric NoRoom 1)
    ∷ Ok (Reserved 4 16 16)
    ∷ Ok (Released 10)
    ∷ []

-- before and after the release
abbrev pub full : World
full = after_all four (reserve 1 7 20 (0 ∷ []) ∷ reserve 2 0 300 (0 ∷ 1 ∷ []) ∷ reserve 3 13 40 (0 ∷ []) ∷ reserve 4 13 32 (1 ∷ 0 ∷ []) ∷ reserve 5 11 16 (0 ∷ []) ∷ [])

abbrev pub less : World
less = after_call full (release 1)

-- eight sessions of level 7 and weight 8, numbered from 1
abbrev pub eight : List Ask
eight = map (λ n. reserve n 7 8 (0 ∷ [])) (range_with_len 1 8)

-- all that is answered, and what stands in the slots
pub record Bookings : Type 0 where
  pub answered : answers_of four evening ≡ answers
  -- session 1 first holds four slots at weight 3 and four at weight 2
  pub first : map (holding (after_call four (reserve 1 7 20 (0 ∷ []))) 0) (0 ∷ 32 ∷ 16 ∷ 48 ∷ 8 ∷ 40 ∷ 24 ∷ 56 ∷ []) ≡ replicate 4 (slot 7 3) ++ replicate 4 (slot 7 2)
  -- the release moves session 2 at port 0 from the slots 4 and 36 to 0 and 32
  pub before : map (holding full 0) (0 ∷ 32 ∷ 4 ∷ 36 ∷ []) ≡ slot 7 3 ∷ slot 7 3 ∷ slot 0 150 ∷ slot 0 150 ∷ []
  pub after : map (holding less 0) (0 ∷ 32 ∷ 4 ∷ 36 ∷ []) ≡ slot 0 150 ∷ slot 0 150 ∷ slot 0 0 ∷ slot 0 0 ∷ []
  -- a slot carries 255 units, and all slots together 16,320
  pub one : answers_of four (reserve 6 0 255 (2 ∷ []) ∷ []) ≡ Ok (Reserved 64 255 1) ∷ []
  pub two : answers_of four (reserve 6 0 256 (2 ∷ []) ∷ []) ≡ Ok (Reserved 32 256 2) ∷ []
  pub most : answers_of four (reserve 6 0 16320 (2 ∷ []) ∷ []) ≡ Ok (Reserved 1 16320 64) ∷ []
  pub more : answers_of four (reserve 6 0 16321 (2 ∷ []) ∷ []) ≡ Err (by_fabric BadWeight 0) ∷ []
  -- eight sessions fill the port, so that a ninth has no room, and of the ranks 0 to 63 none is free
  pub filled : answers_of four (eight ++ (reserve 9 13 1 (0 ∷ []) ∷ [])) ≡ replicate 8 (Ok (Reserved 8 8 8)) ++ (Err (by_fabric NoRoom 0) ∷ [])
  -- after the release of the session at the ranks 16 to 23 and of the one at 32 to 39 just the ranks 16 to 31 are free
  pub joined : map (is_free bits (book_at (after_all four (eight ++ (release 3 ∷ release 5 ∷ []))).state.books 0) 0) (range_with_len 0 64) ≡ replicate 16 false ++ (replicate 16 true ++ replicate 32 false)

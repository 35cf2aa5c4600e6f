-- The premises of the guarantee are met: a history with reserves, a refusal, arrivals, a pick that another lane waits through, a release that moves
-- sessions, a shut and a reopened port, and a second start.
use Rattle.std.specs.Prelude.{◌≡◌, [], ◌∷◌, ◌++◌, replicate, Ok, Err, slice_index_or}
use Rattle.table.specs.declared.refusal.Reason.TheVariants.{PortShut, NoRoom, NoSuchPort}
use Rattle.book.specs.Laws.{no_session}
use Rattle.fabric.specs.declared.picked.Picked.TheVariants.{Sent, Idle}
use Rattle.fabric.specs.Declines.{by_fabric, by_bank}
use Rattle.manager.specs.declared.call.Answer.TheVariants.{Started, Reserved, Released, Shut, Reopened, Picked}
use Rattle.manager.specs.Calls.{start, reserve, release, shut, reopen, pick}
use Rattle.manager.specs.Histories.{called, joined, History, live, Unchanged, waits, PassedBy, spent}
use Rattle.manager.specs.Worlds.{Beginning, world}
use Rattle.manager.specs.Guarantee.{Stands}

-- a bank of two ports, while one packet of 200 bytes waits in lane 3 of port 1
abbrev pub beginning : Beginning
beginning = record { count = 2; waiting = replicate 15 [] ∷ ([] ∷ [] ∷ [] ∷ (200 ∷ []) ∷ replicate 11 []) ∷ [] }

-- three sessions, one that has no room, and a packet for each of two lanes
abbrev pub earlier : History
earlier =
    joined 0 0 64
    ∷ joined 0 7 100
    ∷ called (reserve 4 13 32 (1 ∷ 0 ∷ [])) (Err (by_fabric NoRoom 1))
    ∷ called (reserve 3 13 40 (0 ∷ [])) (Ok (Reserved 2 40 32))
    ∷ called (reserve 2 0 300 (0 ∷ 1 ∷ [])) (Ok (Reserved 32 300 4))
    ∷ called (reserve 1 7 20 (0 ∷ [])) (Ok (Reserved 8 20 8))
    ∷ []

-- a packet of lane 7 goes first, and port 1 is shut
abbrev pub later : History
later = called (shut 1) (Ok Shut) ∷ called (pick 0) (Ok (Picked (Sent 7 100 1))) ∷ []

abbrev pub history : History
history =
    called (pick 0) (Ok (Picked (Idle 64)))
    ∷ called start (Ok Started)
    ∷ called (reopen 1) (Ok Reopened)
    ∷ called (pick 1) (Err (by_bank PortShut 0))
    ∷ called start (Err (by_bank PortShut 1))
    ∷ called (release 2) (Err (by_bank PortShut 1))
    ∷ called (release 1) (Ok (Released 10))
    ∷ called (pick 7) (Err (by_bank NoSuchPort 0))
    ∷ (later ++ earlier)

abbrev pub Witness : Type 0
Witness =
    -- the whole history stands
    Stands beginning history (world beginning history).state (world beginning history).ports
    -- session 2, of lane 0, is the second that is live at port 0, and its packet waits first
    × (slice_index_or (live earlier 0) 1 no_session ≡ record { number = 2; lane = 0; size = 2; weight = 300 })
    × (waits beginning.waiting earlier 0 0 ≡ 64 ∷ [])
    -- the port's sessions do not change, and the pick, which costs two units, takes from another lane
    × Unchanged 0 later earlier
    × PassedBy 0 0 later
    × (spent 0 later ≡ 2)

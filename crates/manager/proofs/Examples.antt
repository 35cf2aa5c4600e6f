-- A history of which the premises hold, and worked bookings, by computation.
use Rattle.std.proofs.Common.{ℕ, zero, suc, ◌<◌, [], ◌∷◌, get_or, replicate, refl, arith}
use Rattle.std.specs.List.{AllByRecursion}
use Rattle.table.specs.Reversal.{reversed}
use Rattle.table.specs.Services.{spacing}
use Rattle.lanes.specs.Queues.{queue, Packet, LanesFit}
use Rattle.book.specs.Books.{free_ranks, lowest_first, place_for, filled, released_at, released, holds, contents, changed_slots}
use Rattle.book.specs.Sessions.{without}
use Rattle.fabric.specs.Picking.{turn}
use Rattle.manager.specs.Calls.{performed}
use Rattle.manager.specs.Worlds.{Sound, Genuine}
use Rattle.manager.specs.Witness.{beginning, history, Witness}
use Rattle.manager.specs.Bookings.{Bookings}

none_fit : (n v : ℕ) → AllByRecursion Packet (queue (replicate n []) v)
none_fit zero v = tt
none_fit (suc n) zero = tt
none_fit (suc n) (suc v) = none_fit n v

sound : Sound beginning
sound = record { some = omega arith; most = omega arith; ports = refl; lanes = each }
  where
    one_fits : (v : ℕ) → AllByRecursion Packet (queue ([] ∷ [] ∷ [] ∷ (200 ∷ []) ∷ replicate 11 []) v)
    one_fits zero = tt
    one_fits (suc zero) = tt
    one_fits (suc (suc zero)) = tt
    one_fits (suc (suc (suc zero))) = ((omega arith, omega arith), tt)
    one_fits (suc (suc (suc (suc v)))) = none_fit 11 v

    each : (p : ℕ) → p < 2 → LanesFit (get_or beginning.waiting p [])
    each zero l = record { count = refl; packets = none_fit 15 }
    each (suc zero) l = record { count = refl; packets = one_fits }
    each (suc (suc p)) l = absurd (omega arith)

genuine : Genuine beginning history
unfolding performed reversed spacing free_ranks lowest_first place_for filled released_at released holds contents changed_slots turn
genuine = (
  refl,
  (
    refl,
    (
      refl,
      (
        refl,
        (
          refl,
          (
            refl,
            (
              refl,
              (
                refl,
                (
                  refl,
                  (
                    refl,
                    (omega arith, omega arith, (omega arith, omega arith), (omega arith, omega arith, (omega arith, omega arith), (refl, (refl, (refl, (refl, tt)))))),
                  ),
                ),
              ),
            ),
          ),
        ),
      ),
    ),
  ),
)

pub witness : Witness
unfolding spacing without
witness = (record { sound = sound; genuine = genuine; state_is = refl; ports_are = refl }, refl, refl, (refl, (refl, tt)), ((λ e. refl), ((λ e. refl), tt)), refl)

pub bookings : Bookings
unfolding performed reversed spacing free_ranks lowest_first place_for filled released_at released holds contents changed_slots
bookings = record { answered = refl; first = refl; before = refl; after = refl; one = refl; two = refl; most = refl; more = refl; filled = refl; joined = refl }

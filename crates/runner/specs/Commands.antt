-- The commands of a script: each a byte that says which, and its arguments, of fixed width and high byte first.
use Rattle.std.specs.Prelude.{ℕ, zero, suc, ◌+◌, cond, List, [], ◌∷◌, length, take, drop, Some, None, Option, ◌==◌, nat_le, slice_index}
use Rattle.std.specs.Int.{from_be_bytes, w16, w32}
use Rattle.manager.specs.Calls.{Ask, start, reserve, release, shut, reopen, pick}
use Rattle.runner.specs.declared.script.Command.{Command}
use Rattle.runner.specs.declared.script.Command.TheVariants.{Call, Arrive}
use Rattle.runner.specs.declared.script.Request.{Request}
use Rattle.runner.specs.declared.script.Request.TheVariants.{Start, Reserve, Release, Shut, Reopen, Pick}
use Rattle.runner.specs.declared.script.Step.{Step}

-- what a command asks for: a call of the manager, or a packet's arrival at a lane of a port
pub data Order : Type 0 where
  call : Ask → Order
  arrive : (port lane bytes : ℕ) → Order

-- what a request read from a script asks for
abbrev pub ask_of : Request → Ask
ask_of Start = start
ask_of (Reserve number level weight hops) = reserve number level weight hops.now
ask_of (Release number) = release number
ask_of (Shut port) = shut port
ask_of (Reopen port) = reopen port
ask_of (Pick port) = pick port

-- what a command read from a script asks for
abbrev pub order_of : Command → Order
order_of (Call request) = call (ask_of request)
order_of (Arrive port lane bytes) = arrive port lane bytes

-- a step: what the first command asks for, and the bytes behind it
abbrev pub Told : Type 0
Told = Option (Order × List ℕ)

abbrev pub told : Option Step → Told
told None = None
told (Some s) = Some (order_of s.command, s.rest.now)

-- the number of two bytes, and of four, from a place on
abbrev pub half_at : List ℕ → ℕ → ℕ
half_at bs at = from_be_bytes w16 (slice_index bs at ∷ slice_index bs (at + 1) ∷ [])

abbrev pub word_at : List ℕ → ℕ → ℕ
word_at bs at = from_be_bytes w32 (slice_index bs at ∷ slice_index bs (at + 1) ∷ slice_index bs (at + 2) ∷ slice_index bs (at + 3) ∷ [])

-- a command whose arguments are the first n bytes, if there are so many
abbrev pub with_bytes : ℕ → List ℕ → Order → Told
with_bytes n bs order = cond (nat_le n (length bs)) (Some (order, drop n bs)) None

-- a reserve: number, level, weight and a count of hops, and then each hop's port
abbrev pub reserve_from : List ℕ → Told
reserve_from bs =
    let hops = slice_index bs 12 in
    with_bytes (13 + hops) bs (call (reserve (word_at bs 0) (word_at bs 4) (word_at bs 8) (take hops (drop 13 bs))))

-- the command of a kind, by its arguments
abbrev pub command_from : ℕ → List ℕ → Told
command_from kind bs =
    cond (kind == 0) (with_bytes 0 bs (call start))
    (cond (kind == 1) (reserve_from bs)
    (cond (kind == 2) (with_bytes 4 bs (call (release (word_at bs 0))))
    (cond (kind == 3) (with_bytes 1 bs (call (shut (slice_index bs 0))))
    (cond (kind == 4) (with_bytes 1 bs (call (reopen (slice_index bs 0))))
    (cond (kind == 5) (with_bytes 1 bs (call (pick (slice_index bs 0))))
    (cond (kind == 6) (with_bytes 4 bs (arrive (slice_index bs 0) (slice_index bs 1) (half_at bs 2)))
    None))))))

-- the first step of a script
unfoldable pub step_of : List ℕ → Told
step_of [] = None
step_of (kind ∷ bs) = command_from kind bs

-- what follows a step, if there is one
abbrev pub behind : Told → (List ℕ → List Order) → List Order
behind None f = []
behind (Some (order, rest)) f = order ∷ f rest

-- the orders of a script, at most k of them: it ends before a byte that is no command, or a command that is cut off
unfoldable pub orders_upto : ℕ → List ℕ → List Order
orders_upto zero bs = []
orders_upto (suc k) bs = behind (step_of bs) (orders_upto k)

-- the orders of a script: each has a byte at least
abbrev pub orders_of : List ℕ → List Order
orders_of bs = orders_upto (length bs) bs

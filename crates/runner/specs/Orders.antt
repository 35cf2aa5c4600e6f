-- The commands of a script that are still to come.
use Rattle.std.specs.Prelude.{◌≡◌, ℕ, List, [], ◌∷◌, length, Some, None, Option}
use Rattle.runner.specs.declared.script.Command.{Command}
use Rattle.runner.specs.declared.script.Commands.{Commands}
use Rattle.runner.specs.Commands.{Order, order_of, orders_of}

abbrev pub orders_left : Commands → List Order
orders_left s = orders_of s.rest.now

-- how many are to come, at most
abbrev pub bytes_left : Commands → ℕ
bytes_left s = length s.rest.now

-- a step gives the first command to come, and leaves the others; where none is to come it changes nothing
abbrev pub Orders : Commands → Option Command → Commands → Type 0
Orders s None t = (orders_left s ≡ []) × (t ≡ s)
Orders s (Some command) t = orders_left s ≡ order_of command ∷ orders_left t

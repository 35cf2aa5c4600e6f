-- The number of every question that can be answered no.
use Rattle.std.specs.Prelude.{ℕ, List, codes}
use Rattle.table.specs.declared.refusal.Layer.{Layer}
use Rattle.table.specs.declared.refusal.Layer.TheVariants.{Bank, Lanes, Fabric, Sheet}
use Rattle.table.specs.declared.refusal.Reason.{Reason}
use Rattle.table.specs.declared.refusal.Reason.TheVariants.{NotStarted, BadNumber, BadLevel, BadWeight, BadPath, PortShut, AlreadyLive, NoRoom, NotLive, NoSuchPort, NoSuchSlot, NoSuchLane, NoPacket, LaneFull, BadLength, ShortBuffer, LongInput, UnknownWord, NotANumber, WrongCount}
use Rattle.table.specs.declared.refusal.Refusal.{Refusal}

abbrev pub number_of : Reason → ℕ
-- was the fabric started on a bank with this port count?
number_of NotStarted = 1
-- is the session number 1 to 65,535?
number_of BadNumber = 2
-- does the level carry a guarantee?
number_of BadLevel = 3
-- is the weight 1 to the most that a table carries?
number_of BadWeight = 4
-- has the path 1 to 8 ports, each below the port count and none listed twice?
number_of BadPath = 5
-- is the port open?
number_of PortShut = 6
-- is the session number not live?
number_of AlreadyLive = 7
-- has the port room for the session?
number_of NoRoom = 8
-- is the session number live?
number_of NotLive = 9
-- is the port below the port count?
number_of NoSuchPort = 10
-- is the slot below the slot count?
number_of NoSuchSlot = 11
-- is the lane one that the port carries?
number_of NoSuchLane = 12
-- does a packet wait in the lane?
number_of NoPacket = 13
-- has the lane room for a packet?
number_of LaneFull = 14
-- has the packet 1 to 4,096 bytes?
number_of BadLength = 15
-- has the buffer enough bytes?
number_of ShortBuffer = 16
-- has the input at most 65,536 bytes?
number_of LongInput = 17
-- is the first field one of the command words?
number_of UnknownWord = 18
-- is every other field a number?
number_of NotANumber = 19
-- are there as many fields as the form wants?
number_of WrongCount = 20

-- the name that is printed for a layer
abbrev pub layer_name : Layer → List ℕ
layer_name Bank = codes "bank"
layer_name Lanes = codes "lanes"
layer_name Fabric = codes "fabric"
layer_name Sheet = codes "sheet"

-- a refusal by a layer at a place
abbrev pub refusal : Layer → Reason → ℕ → Refusal
refusal layer reason place = record { reason = reason; place = place; layer = layer }

-- The answers to the commands of a script, as bytes.
use Rattle.std.specs.Prelude.{ℕ, ◌%◌, List, [], ◌∷◌, ◌++◌, Some, None, Option, Ok, Err, Result}
use Rattle.std.specs.Int.{to_be_bytes, w32}
use Rattle.table.specs.declared.refusal.Layer.{Layer}
use Rattle.table.specs.declared.refusal.Layer.TheVariants.{Bank, Lanes, Fabric, Sheet}
use Rattle.table.specs.Refusals.{number_of}
use Rattle.fabric.specs.declared.declined.Declined.{Declined}
use Rattle.fabric.specs.declared.picked.Picked.{Picked}
use Rattle.fabric.specs.declared.picked.Picked.TheVariants.{Sent, Idle}
use Rattle.manager.specs.declared.call.Answer.{Answer}
use Rattle.manager.specs.declared.call.Answer.TheVariants.{Started, Reserved, Released, Shut, Reopened, Picked as PickedNow}

-- no answer has more bytes
abbrev pub longest : ℕ
longest = 17

-- a number as four bytes, the high one first; greater ones do not occur
abbrev pub word : ℕ → List ℕ
word n = to_be_bytes w32 (n % 4294967296)

-- numbers, each as four bytes
abbrev pub words : List ℕ → List ℕ
words [] = []
words (n ∷ ns) = word n ++ words ns

-- the byte of the layer that found a refusal
abbrev pub layer_byte : Layer → ℕ
layer_byte Bank = 0
layer_byte Lanes = 1
layer_byte Fabric = 2
layer_byte Sheet = 3

-- a pick: whether a packet was sent, its lane and length, and the slots passed
abbrev pub picked_bytes : Picked → List ℕ
picked_bytes (Sent lane length passed) = words (1 ∷ lane ∷ length ∷ passed ∷ [])
picked_bytes (Idle passed) = words (0 ∷ passed ∷ [])

-- the fields of an accepted call
abbrev pub fields_bytes : Answer → List ℕ
fields_bytes Started = []
fields_bytes (Reserved spacing grant slots) = words (spacing ∷ grant ∷ slots ∷ [])
fields_bytes (Released slots) = words (slots ∷ [])
fields_bytes Shut = []
fields_bytes Reopened = []
fields_bytes (PickedNow p) = picked_bytes p

-- what a command comes to: what the manager answers, or nothing more for a packet that joins
abbrev pub Came : Type 0
Came = Result (Option Answer) Declined

-- An accepted command answers 0 and its fields; a refused one 1, the refusal's number, the place that its question names, the layer that found it
-- and the place that this layer named.
abbrev pub came_bytes : Came → List ℕ
came_bytes (Ok None) = 0 ∷ []
came_bytes (Ok (Some a)) = (0 ∷ []) ++ fields_bytes a
came_bytes (Err d) = (1 ∷ []) ++ ((number_of d.refusal.reason ∷ []) ++ (word d.place ++ ((layer_byte d.refusal.layer ∷ []) ++ word d.refusal.place)))

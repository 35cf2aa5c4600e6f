-- A port that is kept as its image.
use Rattle.std.specs.Prelude.{ℕ, false, List, [], slice_index_or}
use Rattle.bank.specs.declared.port.Port.{Port}
use Rattle.bank.specs.declared.image_port.ImagePort.{ImagePort}
use Rattle.bank.specs.Images.{slots_of}

-- what is read past the last port
abbrev pub no_image : ImagePort
no_image = record { «open» = false; image = [] }

-- the image of the port p
abbrev pub image_at : List ImagePort → ℕ → List ℕ
image_at ps p = (slice_index_or ps p no_image).image

-- what it means
abbrev pub port_of : ImagePort → Port
port_of q = record { «open» = q.«open»; slots = slots_of q.image }

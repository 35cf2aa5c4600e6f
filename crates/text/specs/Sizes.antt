-- How many ports, numbers and bytes there can be.
use Rattle.std.specs.Prelude.{ℕ, ◌+◌, ◌*◌}

-- the most ports of a path
abbrev pub most_ports : ℕ
most_ports = 8

-- how many numbers of a line are kept: one more than any form takes
abbrev pub keep : ℕ
keep = 4 + most_ports

-- the bytes of a table's image
abbrev pub image_bytes : ℕ
image_bytes = 128

-- the bytes of a buffer for an answer: `ok ` with an image's hexadecimal digits and the line's end
abbrev pub answer_bytes : ℕ
answer_bytes = 3 + 2 * image_bytes + 1

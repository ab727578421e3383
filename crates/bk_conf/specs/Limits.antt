-- How much a configuration has at most.
use Rattle.std.specs.Prelude.{ℕ, ◌-◌, ◌^◌}

-- bytes of its text
abbrev pub most_bytes : ℕ
most_bytes = 1048576

-- letters of a program's name
abbrev pub most_letters : ℕ
most_letters = 16

-- the largest numbers of one byte
abbrev pub largest_byte : ℕ
largest_byte = 255

-- of two bytes
abbrev pub largest_word : ℕ
largest_word = 65535

-- of the bits of 48 categories
abbrev pub largest_mask : ℕ
largest_mask = 2 ^ 48 - 1

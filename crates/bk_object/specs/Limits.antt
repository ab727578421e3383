-- How large objects can be.
use Rattle.std.specs.Prelude.{ℕ}

-- a block has 64 bytes, which are 32 words
abbrev pub bytes_of_block : ℕ
bytes_of_block = 64

-- words of a block
abbrev pub words_of_block : ℕ
words_of_block = 32

-- a segment has 1 to so many blocks
abbrev pub most_blocks : ℕ
most_blocks = 128

-- a quota is 1 to so many
abbrev pub largest_quota : ℕ
largest_quota = 3904

-- a mailbox keeps so many messages at most, each of so many words, and counts those that are lost up to this number
abbrev pub most_messages : ℕ
most_messages = 16

-- words of a message
abbrev pub words_of_message : ℕ
words_of_message = 4

-- so many lost messages are counted at most
abbrev pub most_lost : ℕ
most_lost = 65535

-- a line keeps so many typed bytes at most
abbrev pub most_typed : ℕ
most_typed = 64

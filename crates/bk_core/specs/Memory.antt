-- The physical words of core.
use Rattle.std.specs.Prelude.{◌≡◌, ℕ, ◌+◌, ◌*◌, ◌/◌, ◌≤◌, ◌⊎◌, List, length, take, drop, replicate, slice_index_or, slice_set}
use lib.Seq.{paste}
use Rattle.bk_object.specs.Limits.{bytes_of_block, words_of_block}
use Rattle.bk_space.specs.Parts.{byte_in, merged}
use Rattle.bk_space.specs.declared.reference.Width.TheVariants.{Byte}

-- core has so many blocks
abbrev pub blocks_of_core : ℕ
blocks_of_core = 3968

-- so many words
abbrev pub words_of_core : ℕ
words_of_core = words_of_block * blocks_of_core

-- and so many bytes
abbrev pub bytes_of_core : ℕ
bytes_of_core = bytes_of_block * blocks_of_core

-- the first blocks are the kernel's own, so many; the others are as many as the largest quota
abbrev pub kernel_blocks : ℕ
kernel_blocks = 64

-- the words of all blocks
pub record Memory : Type 0 where
  pub words : List ℕ
  pub full : length words ≡ words_of_core

-- the words of so many blocks from a first one on
abbrev pub block_words : List ℕ → (first count : ℕ) → List ℕ
block_words words first count = take (words_of_block * count) (drop (words_of_block * first) words)

-- all blocks but so many from a first one on keep their words
pub record KeepsOthers (first count : ℕ) (old new : List ℕ) : Type 0 where
  pub others : (at n : ℕ) → (at + n ≤ first) ⊎ (first + count ≤ at) → block_words new at n ≡ block_words old at n

-- the word that holds the byte at an address
abbrev pub word_at : List ℕ → (addr : ℕ) → ℕ
word_at words addr = slice_index_or words (addr / 2) 0

-- the words once that word is this one
abbrev pub with_word : List ℕ → (addr value : ℕ) → List ℕ
with_word words addr value = slice_set words (addr / 2) value

-- the byte at an address
abbrev pub byte_at : List ℕ → (addr : ℕ) → ℕ
byte_at words addr = byte_in addr (word_at words addr)

-- the words once the byte at an address is this one
abbrev pub with_byte : List ℕ → (addr value : ℕ) → List ℕ
with_byte words addr value = with_word words addr (merged Byte addr value (word_at words addr))

-- the words once so many blocks from a first one on are zero
abbrev pub zeroed : List ℕ → (first count : ℕ) → List ℕ
zeroed words first count = paste words (words_of_block * first) (replicate (words_of_block * count) 0) (words_of_block * count)

-- the words once so many blocks stand a second time, from another block on, as they stood before
abbrev pub slid : List ℕ → (from to count : ℕ) → List ℕ
slid words from to count = paste words (words_of_block * to) (drop (words_of_block * from) words) (words_of_block * count)

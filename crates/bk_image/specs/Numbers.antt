-- Numbers, words and paths in the bytes of a part.
use Rattle.std.specs.Prelude.{ℕ, ◌+◌, ◌*◌, List, [], ◌∷◌, get_or, Option, unwrap_or}
use Rattle.bk_path.specs.Paths.{Path, unpack}

-- the byte at the place
abbrev pub byte : List ℕ → ℕ → ℕ
byte bytes i = get_or bytes i 0

-- the number of two bytes, the low one first
abbrev pub word : List ℕ → ℕ → ℕ
word bytes i = get_or bytes i 0 + 256 * get_or bytes (i + 1) 0

-- the words of an even number of bytes
abbrev pub words_of : List ℕ → List ℕ
words_of [] = []
words_of (low ∷ []) = []
words_of (low ∷ high ∷ bytes) = (low + 256 * high) ∷ words_of bytes

-- the path that two words spell, where they spell one
abbrev pub path_in : List ℕ → ℕ → Option Path
path_in bytes i = unpack (word bytes i) (word bytes (i + 2))

-- the same, and root where they spell none
abbrev pub path_at : List ℕ → ℕ → Path
path_at bytes i = unwrap_or (path_in bytes i) []

-- The trap vectors in the kernel's blocks of core: at each of them a new program counter, and behind it a new status (own).
use Rattle.std.specs.Prelude.{◌≡◌, ℕ, ◌+◌, List, [], ◌∷◌, All}
use Rattle.bk_core.specs.Memory.{with_word, word_at}

-- the addresses of the vectors: 4 odd address, 10 reserved, 14 BPT and T, 20 IOT, 30 EMT, 34 TRAP, 250 memory management
abbrev pub vectors : List ℕ
vectors = 0o4 ∷ 0o10 ∷ 0o14 ∷ 0o20 ∷ 0o30 ∷ 0o34 ∷ 0o250 ∷ []

-- the new status is kernel mode with priority 7
abbrev pub kernel_status : ℕ
kernel_status = 0o340

-- where the vector's program begins
abbrev pub program_of : (at : ℕ) → ℕ
program_of at = at + 0o400

-- the vector at the address is made
abbrev pub with_vector : List ℕ → (at : ℕ) → List ℕ
with_vector words at = with_word (with_word words at (program_of at)) (at + 2) kernel_status

-- each of so many vectors is made
abbrev pub with_each : List ℕ → List ℕ → List ℕ
with_each [] words = words
with_each (at ∷ ats) words = with_vector (with_each ats words) at

-- all vectors are made, and no other word has changed
abbrev pub with_vectors : List ℕ → List ℕ
with_vectors words = with_each vectors words

-- the vector stands at the address
pub record HasVector (words : List ℕ) (at : ℕ) : Type 0 where
  pub program : word_at words at ≡ program_of at
  pub status : word_at words (at + 2) ≡ kernel_status

-- each vector stands at its address
abbrev pub HasVectors : List ℕ → Type 0
HasVectors words = All (HasVector words) vectors

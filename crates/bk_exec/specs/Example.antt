-- Pages and registers of a user process at MOV (R1)+,@#040000, as the words 012137 040000 at address 0. R1 points to the word
-- 000123 in D page 1, which may be read; what may be done with D page 2, in which 040000 lies, is for the reader to choose.
use Rattle.std.specs.Prelude.{ℕ, List, [], ◌∷◌, ◌++◌, ◌==◌, if◌then◌else◌, replicate}
use Rattle.bk_space.specs.declared.reference.Mode.TheVariants.{User}
use Rattle.bk_space.specs.declared.reference.Rights.{Rights}
use Rattle.bk_space.specs.declared.reference.Rights.TheVariants as rights
use Rattle.bk_space.specs.declared.registers.Regs.{Regs}
use Rattle.bk_space.specs.AddrSpace.{AddrSpace, Page}
use Rattle.bk_space.specs.Registers.{registers_of}
use Rattle.bk_space.specs.Status.{status_of}

-- a page of one block that begins with these words
abbrev pub page_with : Rights → List ℕ → Page
page_with r words = record { rights = r; words = words ++ replicate 30 0 }

-- user I page 0 has number 16, user D page 1 has 25, and user D page 2 has 26
abbrev pub pages_with : Rights → AddrSpace
pages_with r n =
    if n == 16 then page_with rights.Read (0o012137 ∷ 0o040000 ∷ []) else (
    if n == 25 then page_with rights.Read (0o000123 ∷ 0 ∷ []) else (
    if n == 26 then page_with r (0 ∷ 0 ∷ []) else record { rights = rights.None; words = [] }))

-- R1, and the address of the instruction
abbrev pub registers_with : (r1 pc : ℕ) → Regs
registers_with r1 pc = record (registers_of (status_of User User)) { general = 0 ∷ r1 ∷ 0 ∷ 0 ∷ 0 ∷ 0 ∷ []; pc = pc }

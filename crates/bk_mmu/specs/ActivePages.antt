-- The active page registers of the KT11-C, by the fields of the processor handbook, and where a reference goes by them.
use Rattle.std.specs.Prelude.{◌≡◌, ℕ, ◌+◌, ◌-◌, ◌*◌, ◌/◌, ◌%◌, ◌<◌, ◌≤◌, ◌==◌, nat_lt, Bool, true, false, ◌&&◌, ◌||◌, if◌then◌else◌}
use Rattle.std.specs.Prelude.{List, length, slice_index_or, Option, Some, None, Result}
use Rattle.bk_space.specs.declared.address.TheConstants.{PAGES}
use Rattle.bk_space.specs.declared.reference.Mode.{Mode}
use Rattle.bk_space.specs.declared.reference.Space.{Space}
use Rattle.bk_space.specs.declared.reference.Rights.{Rights}
use Rattle.bk_space.specs.declared.reference.Rights.TheVariants as rights
use Rattle.bk_space.specs.declared.reference.Abort.{Abort}
use Rattle.bk_space.specs.declared.reference.Abort.TheVariants.{NonResident, Length, ReadOnly}
use Rattle.bk_space.specs.AddrSpace.{offset_of, page_number, unless}
use Rattle.bk_space.specs.Status.{digit}
use Rattle.bk_object.specs.Limits.{bytes_of_block, most_blocks}
use Rattle.bk_core.specs.Memory.{blocks_of_core, kernel_blocks}

-- a page descriptor register: the page length field in bits 14 to 8 is the number of the page's last block; the expansion
-- direction in bit 3 is 1 where the page grows downward; the access control field in bits 2 to 0 is 0 for non-resident, 2
-- for read-only, and 6 for read and write
pub record Descriptor : Type 0 where
  pub length_field : ℕ
  pub downward : Bool
  pub access_control : ℕ

-- an active page register: the page address register, whose bits 11 to 0, the page address field, are the number of the
-- page's first block of 64 bytes, and the page descriptor register
pub record ActivePage : Type 0 where
  pub address_field : ℕ
  pub descriptor : Descriptor

-- the page address register as a word
abbrev pub address_word : ActivePage → ℕ
address_word page = page.address_field

-- the page descriptor register as a word
abbrev pub descriptor_word : ActivePage → ℕ
descriptor_word page = page.descriptor.length_field * 0o400 + digit page.descriptor.downward * 0o10 + page.descriptor.access_control

-- these fields, of a page that grows upward
abbrev pub with_fields : (address last control : ℕ) → ActivePage
with_fields address last control = record { address_field = address; descriptor = record { length_field = last; downward = false; access_control = control } }

-- a page that is not there
abbrev pub non_resident : ActivePage
non_resident = with_fields 0 0 0

-- a page of so many blocks from a first one on, with these rights
abbrev pub loaded : (base blocks : ℕ) → Rights → ActivePage
loaded base blocks rights.None = non_resident
loaded base blocks rights.Read = with_fields base (blocks - 1) 2
loaded base blocks rights.Write = with_fields base (blocks - 1) 6

-- how many blocks the page has
abbrev pub blocks_of : ActivePage → ℕ
blocks_of page = if page.descriptor.access_control == 0 then 0 else page.descriptor.length_field + 1

-- one of the three access controls
abbrev pub is_control : ℕ → Bool
is_control n = n == 0 || n == 2 || n == 6

-- what the registers of each page keep: it grows upward, by one of the three access controls, has at most 128 blocks, and lies
-- in core, above the kernel's blocks where it is there
pub record IsPlaced (page : ActivePage) : Type 0 where
  pub upward : page.descriptor.downward ≡ false
  pub control : is_control page.descriptor.access_control ≡ true
  pub most : page.descriptor.length_field < most_blocks
  pub above : 0 < blocks_of page → kernel_blocks ≤ page.address_field
  pub below : page.address_field + blocks_of page ≤ blocks_of_core

-- the registers of the page of a number
abbrev pub active_page : List ActivePage → ℕ → ActivePage
active_page registers n = slice_index_or registers n non_resident

-- the registers of the 32 pages, by the numbers of the pages
pub record ActivePages : Type 0 where
  pub registers : List ActivePage
  pub full : length registers ≡ PAGES
  pub placed : (n : ℕ) → IsPlaced (active_page registers n)

-- the block of the page in which an offset lies, bits 12 to 6 of an address
abbrev pub block_number : ℕ → ℕ
block_number offset = offset / bytes_of_block

-- the byte of that block, bits 5 to 0 of an address
abbrev pub byte_of_block : ℕ → ℕ
byte_of_block offset = offset % bytes_of_block

-- why a reference at an offset in the page doesn't complete, if it doesn't: the access control is non-resident, the block is
-- behind the last one, a write meets an access control of read-only
abbrev pub refused_by : ActivePage → (offset : ℕ) → (writes : Bool) → Option Abort
refused_by page offset writes =
    if page.descriptor.access_control == 0 then Some NonResident else (
    if nat_lt page.descriptor.length_field (block_number offset) then Some Length else (
    if writes && page.descriptor.access_control == 2 then Some ReadOnly else None))

-- the physical address of the byte at an offset: the block number is added to the page address field
abbrev pub physical : ActivePage → (offset : ℕ) → ℕ
physical page offset = bytes_of_block * (page.address_field + block_number offset) + byte_of_block offset

-- the physical address of a reference to a page, or why it doesn't complete
unfoldable pub relocated : ActivePage → (offset : ℕ) → (writes : Bool) → Result ℕ Abort
relocated page offset writes = unless (refused_by page offset writes) (physical page offset)

-- the same, of the page that an address chooses
abbrev pub relocated_in : List ActivePage → Mode → Space → (addr : ℕ) → (writes : Bool) → Result ℕ Abort
relocated_in registers mode space addr writes = relocated (active_page registers (page_number mode space addr)) (offset_of addr) writes

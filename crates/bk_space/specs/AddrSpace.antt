-- The pages of a process, and what they answer to a reference.
use Rattle.std.specs.Prelude.{◌≡◌, ◌<◌, ℕ, ◌+◌, ◌*◌, ◌/◌, ◌%◌, ◌==◌, Bool, true, false, ◌&&◌, nat_le, if◌then◌else◌}
use Rattle.std.specs.Prelude.{List, length, slice_index, slice_set, Option, Some, None, Result, Ok, Err}
use Rattle.bk_space.specs.declared.reference.Mode.{Mode}
use Rattle.bk_space.specs.declared.reference.Mode.TheVariants.{Supervisor, User}
use Rattle.bk_space.specs.declared.reference.Space.{Space}
use Rattle.bk_space.specs.declared.reference.Space.TheVariants.{I, D}
use Rattle.bk_space.specs.declared.reference.Width.{Width}
use Rattle.bk_space.specs.declared.reference.Width.TheVariants.{Word, Byte}
use Rattle.bk_space.specs.declared.reference.Rights.{Rights}
use Rattle.bk_space.specs.declared.reference.Rights.TheVariants as rights
use Rattle.bk_space.specs.declared.reference.Abort.{Abort}
use Rattle.bk_space.specs.declared.reference.Abort.TheVariants.{Odd, NonResident, Length, ReadOnly}
use Rattle.bk_space.specs.Parts.{byte_in, merged}

-- a page: what may be done with it, and its words
pub record Page : Type 0 where
  pub rights : Rights
  pub words : List ℕ

-- the pages by their numbers, 0 to 31
abbrev pub AddrSpace : Type 0
AddrSpace = ℕ → Page

-- 16 for user, 0 for supervisor
abbrev pub mode_part : Mode → ℕ
mode_part Supervisor = 0
mode_part User = 16

-- 8 for D space, 0 for I space
abbrev pub space_part : Space → ℕ
space_part I = 0
space_part D = 8

-- the number of the page that an address chooses by its bits 15 to 13
abbrev pub page_number : Mode → Space → ℕ → ℕ
page_number mode space addr = mode_part mode + space_part space + addr / 8192

-- the page that an address chooses
unfoldable pub page_at : AddrSpace → Mode → Space → ℕ → Page
page_at pages mode space addr = pages (page_number mode space addr)

-- the byte offset in the page, bits 12 to 0 of an address
abbrev pub offset_of : ℕ → ℕ
offset_of addr = addr % 8192

-- a word at an odd address
abbrev pub is_odd : Width → ℕ → Bool
is_odd Word addr = addr % 2 == 1
is_odd Byte addr = false

-- a page without rights
abbrev pub is_absent : Rights → Bool
is_absent rights.None = true
is_absent rights.Read = false
is_absent rights.Write = false

-- a page that may only be read
abbrev pub is_read_only : Rights → Bool
is_read_only rights.None = false
is_read_only rights.Read = true
is_read_only rights.Write = false

-- a byte offset beyond so many words
abbrev pub is_past : ℕ → ℕ → Bool
is_past words offset = nat_le (2 * words) offset

-- a byte offset beyond the page's words
abbrev pub is_beyond : Page → ℕ → Bool
is_beyond page offset = is_past (length page.words) offset

-- why a reference to a page of these rights and so many words doesn't complete, if it doesn't: odd, non-resident, length, read-only
abbrev pub refused : Rights → ℕ → Width → ℕ → Bool → Option Abort
refused rights words width addr writes =
    if is_odd width addr then Some Odd else (
    if is_absent rights then Some NonResident else (
    if is_past words (offset_of addr) then Some Length else (
    if writes && is_read_only rights then Some ReadOnly else None)))

-- why a reference to the page doesn't complete, if it doesn't
abbrev pub refusal : Page → Width → ℕ → Bool → Option Abort
refusal page width addr writes = refused page.rights (length page.words) width addr writes

-- the reference completes: a word is aligned, the page is there, the address is inside it, and a write is allowed
pub record Completes (page : Page) (width : Width) (addr : ℕ) (writes : Bool) : Type 0 where
  pub aligned : is_odd width addr ≡ false
  pub resident : is_absent page.rights ≡ false
  pub inside : offset_of addr < 2 * length page.words
  pub allowed : (writes && is_read_only page.rights) ≡ false

-- the word or the byte at an address of the page
abbrev pub content : Page → Width → ℕ → ℕ
content page Word addr = slice_index page.words (offset_of addr / 2)
content page Byte addr = byte_in addr (slice_index page.words (offset_of addr / 2))

-- a page's words after a write at an address of it
abbrev pub put : Width → (addr value : ℕ) → List ℕ → List ℕ
put width addr value words = slice_set words (offset_of addr / 2) (merged width addr value (slice_index words (offset_of addr / 2)))

-- the value, unless there is an abort
abbrev pub unless : {X : Type 0} → Option Abort → X → Result X Abort
unless (Some abort) x = Err abort
unless None x = Ok x

-- what a read answers
unfoldable pub read_at : AddrSpace → Mode → Space → Width → ℕ → Result ℕ Abort
read_at pages mode space width addr =
    let page = page_at pages mode space addr in
    unless (refusal page width addr false) (content page width addr)

-- what a write answers
unfoldable pub write_at : AddrSpace → Mode → Space → Width → ℕ → Result (Unit {0}) Abort
write_at pages mode space width addr = unless (refusal (page_at pages mode space addr) width addr true) tt

-- a write that completes
pub record Write : Type 0 where
  pub mode : Mode
  pub space : Space
  pub width : Width
  pub addr : ℕ
  pub value : ℕ

-- what is left after at most one write
abbrev pub applied : {S : Type 0} → (S → Write → S) → S → Option Write → S
applied after state None = state
applied after state (Some write) = after state write

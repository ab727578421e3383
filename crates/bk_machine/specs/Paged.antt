-- What the machine's bus holds, and the pages that it shows: blocks of core, by the registers of the pages.
use Rattle.std.specs.Prelude.{◌≡◌, ℕ, ◌*◌, ◌/◌, ◌%◌, ◌<◌, ◌≤◌, ◌==◌, Bool, true, false, if◌then◌else◌}
use Rattle.std.specs.Prelude.{List, Option, Some, None, Result, Ok, Err, slice_index}
use Rattle.bk_space.specs.declared.reference.Mode.{Mode}
use Rattle.bk_space.specs.declared.reference.Space.{Space}
use Rattle.bk_space.specs.declared.reference.Width.{Width}
use Rattle.bk_space.specs.declared.reference.Rights.{Rights}
use Rattle.bk_space.specs.declared.reference.Rights.TheVariants as rights
use Rattle.bk_space.specs.declared.reference.Abort.{Abort}
use Rattle.bk_space.specs.declared.reference.Abort.TheVariants.{Odd}
use Rattle.bk_space.specs.AddrSpace.{AddrSpace, Page, Write, is_odd, offset_of, page_number}
use Rattle.bk_space.specs.Parts.{merged}
use Rattle.bk_object.specs.Limits.{bytes_of_block}
use Rattle.bk_core.specs.Memory.{block_words, bytes_of_core, kernel_blocks, with_word, word_at}
use Rattle.bk_mmu.specs.ActivePages.{ActivePage, active_page, blocks_of, physical, refused_by}

-- the registers of the pages, and the words of core
pub record Paged : Type 0 where
  pub registers : List ActivePage
  pub words : List ℕ

-- these registers and these words
abbrev pub paged : List ActivePage → List ℕ → Paged
paged registers words = record { registers = registers; words = words }

-- ---- the pages that are shown

-- none where the page is absent, else to read, or to read and write
abbrev pub rights_by : (absent read_only : Bool) → Rights
rights_by true read_only = rights.None
rights_by false true = rights.Read
rights_by false false = rights.Write

-- what may be done with a page by its access control
abbrev pub rights_of : ActivePage → Rights
rights_of page = rights_by (page.descriptor.access_control == 0) (page.descriptor.access_control == 2)

-- the page of these registers: its rights, and its blocks out of core
abbrev pub page_of : ActivePage → List ℕ → Page
page_of page words = record { rights = rights_of page; words = block_words words page.address_field (blocks_of page) }

-- the pages by their numbers
abbrev pub shown_in : Paged → AddrSpace
shown_in state n = page_of (active_page state.registers n) state.words

-- ---- one reference

-- why it doesn't complete, by the registers of its page alone, if it doesn't: a word's odd address comes first
abbrev pub refused_at : List ActivePage → Mode → Space → Width → (addr : ℕ) → (writes : Bool) → Option Abort
refused_at registers mode space width addr writes =
    if is_odd width addr then Some Odd else refused_by (active_page registers (page_number mode space addr)) (offset_of addr) writes

-- the physical address that an address chooses
abbrev pub physical_at : List ActivePage → Mode → Space → (addr : ℕ) → ℕ
physical_at registers mode space addr = physical (active_page registers (page_number mode space addr)) (offset_of addr)

-- the words of core once the word or the byte at a physical address is this value
abbrev pub with_value : Width → List ℕ → (at value : ℕ) → List ℕ
with_value width words at value = with_word words at (merged width at value (word_at words at))

-- what a completed write leaves: that word or byte of core has changed, and nothing else
abbrev pub after_write : Paged → Write → Paged
after_write state w = record state { words = with_value w.width state.words (physical_at state.registers w.mode w.space w.addr) w.value }

-- why a reference was refused, if it was
abbrev pub abort_of : {X : Type 0} → Result X Abort → Option Abort
abort_of (Ok x) = None
abort_of (Err abort) = Some abort

-- the physical address lies in core, above the kernel's blocks, and holds what the page has at the address
pub record Locates (state : Paged) (mode : Mode) (space : Space) (addr at : ℕ) : Type 0 where
  pub place : at ≡ physical_at state.registers mode space addr
  pub inside : at < bytes_of_core
  pub above : bytes_of_block * kernel_blocks ≤ at
  pub half : at % 2 ≡ addr % 2
  pub content : slice_index (shown_in state (page_number mode space addr)).words (offset_of addr / 2) ≡ word_at state.words at

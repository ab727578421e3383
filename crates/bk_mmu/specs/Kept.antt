-- How the code keeps a page: by its first byte, and by how many bytes may be read and written.
use Rattle.std.specs.Prelude.{◌≡◌, ℕ, Bool, ◌-◌, ◌*◌, ◌/◌, ◌<◌, ◌==◌, if◌then◌else◌, List, length, map, slice_index_or}
use Rattle.bk_space.specs.declared.address.TheConstants.{PAGES}
use Rattle.bk_object.specs.Limits.{bytes_of_block}
use Rattle.bk_mmu.specs.declared.page.Page.{Page}
use Rattle.bk_mmu.specs.ActivePages.{ActivePage, IsPlaced, active_page, with_fields}

-- the access control of a page with so many bytes to be read and written
abbrev pub control_of : (readable writable : ℕ) → ℕ
control_of readable writable = if readable == 0 then 0 else (if writable == 0 then 2 else 6)

-- the registers that a page is kept for
abbrev pub kept_as : Page → ActivePage
kept_as page = with_fields (page.base / bytes_of_block) (page.readable / bytes_of_block - 1) (control_of page.readable page.writable)

-- the registers that pages are kept for
abbrev pub all_kept_as : List Page → List ActivePage
all_kept_as pages = map kept_as pages

-- no page
abbrev pub no_page : Page
no_page = record { base = 0; readable = 0; writable = 0 }

-- a page is of whole blocks, all of them may be written where one may, and its registers are as they have to be
pub record IsWhole (page : Page) : Type 0 where
  pub base : page.base ≡ bytes_of_block * (page.base / bytes_of_block)
  pub size : page.readable ≡ bytes_of_block * (page.readable / bytes_of_block)
  pub both : 0 < page.writable → page.writable ≡ page.readable
  pub placed : IsPlaced (kept_as page)

-- 32 pages, each of them so
pub record AreWhole (pages : List Page) : Type 0 where
  pub full : length (all_kept_as pages) ≡ PAGES
  pub whole : (n : ℕ) → IsWhole (slice_index_or pages n no_page)
  pub placed : (n : ℕ) → IsPlaced (active_page (all_kept_as pages) n)

-- how many bytes of the page a reference may reach
abbrev pub limit : Page → (writes : Bool) → ℕ
limit page writes = if writes then page.writable else page.readable

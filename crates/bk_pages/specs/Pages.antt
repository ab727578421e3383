-- The registers of the pages of a subject: what a store shows through the windows of its process.
use Rattle.std.specs.Prelude.{ℕ, List, map, Option, Some, None, slice_get}
use Rattle.std.specs.List.{range_with_len}
use Rattle.bk_space.specs.declared.address.TheConstants.{PAGES}
use Rattle.bk_space.specs.declared.reference.Rights.{Rights}
use Rattle.bk_object.specs.Modes.{Read, Execute, Write}
use Rattle.bk_path.specs.Paths.{Path}
use Rattle.bk_frames.specs.Extents.{Extent}
use Rattle.bk_store.specs.Stored.{Stored, extent_in, holds}
use Rattle.bk_system.specs.Space.{is_data, rights_by}
use Rattle.bk_mmu.specs.ActivePages.{ActivePage, loaded, non_resident}

-- what may be done in a window with the object at the path, by what the subject holds now
abbrev pub rights_held : Stored → (subject window : ℕ) → Path → Rights
rights_held store subject window path =
    rights_by (is_data window) (holds store subject path Read) (holds store subject path Execute) (holds store subject path Write)

-- the registers of the page over an extent, with these rights; none where nothing has its words there
abbrev pub page_over : Option Extent → Rights → ActivePage
page_over None rights = non_resident
page_over (Some extent) rights = loaded extent.first extent.blocks rights

-- the registers of the page of a window: none where the window is free, shows no segment, or where what is held now gives no
-- rights; else the extent of the segment with these rights
abbrev pub page_for : Stored → (subject window : ℕ) → Option (Option Path) → ActivePage
page_for store subject window None = non_resident
page_for store subject window (Some None) = non_resident
page_for store subject window (Some (Some path)) = page_over (extent_in store path) (rights_held store subject window path)

-- the registers of the 32 pages of a subject whose process has these windows
unfoldable pub pages_for : Stored → (subject : ℕ) → (windows : List (Option Path)) → List ActivePage
pages_for store subject windows = map (λ window. page_for store subject window (slice_get windows window)) (range_with_len 0 PAGES)

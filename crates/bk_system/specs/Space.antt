-- What a process sees of segments through its windows.
use Rattle.std.specs.Prelude.{ℕ, ◌/◌, ◌%◌, Bool, true, false, List, [], Option, Some, None, ◌==◌, slice_get}
use Rattle.bk_space.specs.AddrSpace.{AddrSpace, Page}
use Rattle.bk_space.specs.declared.Rights.{Rights}
use Rattle.bk_space.specs.declared.Rights.TheVariants as rights
use Rattle.bk_path.specs.Paths.{Path}
use Rattle.bk_object.specs.Modes.{Read, Execute, Write}
use Rattle.bk_state.specs.State.{Contents, Children, Words, Messages, Typed, Object, State, find, holds}

-- a page that is not there
abbrev pub no_page : Page
no_page = record { rights = rights.None; words = [] }

-- instruction space is read by execute access; data space is written by write access, and read by read access alone
abbrev pub rights_by : (is_data reads executes writes : Bool) → Rights
rights_by false reads true writes = rights.Read
rights_by false reads false writes = rights.None
rights_by true reads executes true = rights.Write
rights_by true true executes false = rights.Read
rights_by true false executes false = rights.None

-- a window of data space: instruction space and data space take turns, eight windows each
abbrev pub is_data : (window : ℕ) → Bool
is_data window = window / 8 % 2 == 1

-- the rights that the access held now gives in a window that shows the path
abbrev pub rights_of : State → ℕ → ℕ → Path → Rights
rights_of v s window p = rights_by (is_data window) (holds v s p Read) (holds v s p Execute) (holds v s p Write)

-- the words, where there are rights to them
abbrev pub page_with : Rights → List ℕ → Page
page_with rights.None words = no_page
page_with rights.Read words = record { rights = rights.Read; words = words }
page_with rights.Write words = record { rights = rights.Write; words = words }

-- a segment shows its words; nothing else shows
abbrev pub page_from : Rights → Contents → Page
page_from rights Children = no_page
page_from rights (Words words) = page_with rights words
page_from rights (Messages waiting lost) = no_page
page_from rights (Typed bytes) = no_page

-- the page of an object, if there is one
abbrev pub page_by : Rights → Option Object → Page
page_by rights None = no_page
page_by rights (Some o) = page_from rights o.contents

-- the page of a window, by the path that it shows
abbrev pub page_shown : State → ℕ → ℕ → Option (Option Path) → Page
page_shown v s window (Some (Some p)) = page_by (rights_of v s window p) (find v p)
page_shown v s window (Some None) = no_page
page_shown v s window None = no_page

-- the page of each window of a subject
unfoldable pub space_of : State → ℕ → List (Option Path) → AddrSpace
space_of v s windows window = page_shown v s window (slice_get windows window)

-- What a plain bus holds and shows.
use Rattle.std.specs.Prelude.{ℕ, List, [], slice_index_or, slice_set}
use Rattle.bk_space.specs.declared.reference.Rights.TheVariants as rights
use Rattle.bk_space.specs.AddrSpace.{Page, Write, page_number, put}

-- a plain bus: its pages by their numbers, and how many references were made
pub record Plain : Type 0 where
  pub pages : List Page
  pub references : ℕ

-- a page without rights
abbrev pub no_page : Page
no_page = record { rights = rights.None; words = [] }

-- the pages as an address space
abbrev pub page_in : List Page → ℕ → Page
page_in pages n = slice_index_or pages n no_page

-- the pages after a write: its page alone has changed, at its place
unfoldable pub pages_written : List Page → Write → List Page
pages_written pages w =
    let n = page_number w.mode w.space w.addr in
    slice_set pages n (record (page_in pages n) { words = put w.width w.addr w.value (page_in pages n).words })

use Rattle.std.specs.Prelude.{List, map}
use Rattle.bk_space.specs.AddrSpace.{Page}
use Rattle.bk_cpu.specs.declared.page.PlainPage.{PlainPage}

-- a page as the bus shows it
abbrev pub page_of : PlainPage → Page
page_of page = record { rights = page.rights; words = page.words.items }

-- all of them
abbrev pub pages_of : List PlainPage → List Page
pages_of pages = map page_of pages

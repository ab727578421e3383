-- The registers of a new unit once page 25, which is page 1 of user D space, has block 64 of core to be read.
use Rattle.std.specs.Prelude.{List, replicate, slice_set}
use Rattle.bk_space.specs.declared.address.TheConstants.{PAGES}
use Rattle.bk_space.specs.declared.reference.Rights.TheVariants as rights
use Rattle.bk_mmu.specs.ActivePages.{ActivePage, loaded, non_resident}

-- the registers of that unit
abbrev pub one_page : List ActivePage
one_page = slice_set (replicate PAGES non_resident) 25 (loaded 64 1 rights.Read)

use Rattle.std.proofs.Common.{◌≡◌, replicate}
use Rattle.bk_cpu.specs.Pages.{pages_of}
use Rattle.bk_cpu.specs.Plain.{no_page}
use Rattle.bk_cpu.proofs.plain.free_pages.Given as goal

abbrev pub invariant-pages : goal.invariant-pages
invariant-pages l = pages_of l.pages.items ≡ replicate l._n no_page

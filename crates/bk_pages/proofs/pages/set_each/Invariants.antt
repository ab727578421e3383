use Rattle.std.proofs.Common.{◌≡◌, ◌<◌, ◌≤◌, ℕ}
use Rattle.std.specs.Prelude.{slice_get}
use Rattle.bk_mmu.specs.ActivePages.{active_page, non_resident}
use Rattle.bk_pages.specs.Pages.{page_for}
use Rattle.bk_pages.proofs.pages.set_each.Given as goal

-- the pages of the windows that were looked at are set, the others are not there; nothing else has changed
abbrev pub invariant-loop-window : goal.invariant-loop-window
invariant-loop-window l = record {
  set : (n : ℕ) → n < l.window → active_page l.machine.pages.registers n ≡ page_for l.store l.subject n (slice_get l.windows n);
  clear : (n : ℕ) → l.window ≤ n → active_page l.machine.pages.registers n ≡ non_resident;
  rest : l.machine ≡ record l.fn.machine { pages = l.machine.pages };
}

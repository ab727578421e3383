use Rattle.std.proofs.Common.{ℕ, slice_get, refl, sym, ap, ◌∙◌, arith}
use Rattle.std.proofs.lemmas.List.FromFn.{fill_by_all}
use Rattle.std.proofs.lemmas.Option.{slice_get-get_or}
use Rattle.bk_mmu.specs.ActivePages.{ActivePage, active_page, non_resident}
use Rattle.bk_machine.specs.Machine.{MachineState}
use Rattle.bk_pages.specs.Pages.{page_for, pages_for}
use Rattle.bk_pages.proofs.Setting.{none-there, still-clear, still-set}
use Rattle.bk_pages.proofs.pages.set_each.Goals as goal

pub loop-window-init : goal.loop-window-init
loop-window-init c = record {
  set = λ n lt. absurd (omega (arith, lt));
  clear = λ n le. ap (λ registers. active_page registers n) c.requires.clear ∙ none-there 32 n;
  rest = refl;
}

pub loop-window-preserved : goal.loop-window-preserved
loop-window-preserved c =
    let window : ℕ = c.loop-window.window in
    let shows : ℕ → ActivePage = λ n. page_for c.args.store.now c.args.subject n (slice_get c.args.windows.now n) in
    let one = ap (page_for c.args.store.now c.args.subject window)
    (sym (slice_get-get_or c.args.windows.now window c.index-windows-window.result (omega (arith, c.type_inv.windows, c.loop-window-test.true)))) in
    record {
      set = λ n lt. ap (λ registers. active_page registers n) c.set_page.ensures.page
          ∙ still-set c.loop-window.machine.pages.registers window _ shows (omega (arith, c.loop-window-test.true, c.loop-window.machine.pages.full)) one c.loop-window.invariant.set n lt;
      clear = λ n le. ap (λ registers. active_page registers n) c.set_page.ensures.page
          ∙ still-clear c.loop-window.machine.pages.registers window n _ le ∙ c.loop-window.invariant.clear n (omega (arith, le));
      rest = c.set_page.ensures.rest ∙ ap (λ (m : MachineState). record m { pages = c.set_page.new.machine.pages }) c.loop-window.invariant.rest;
    }

pub returns-clause-pages : goal.returns-clause-pages
unfolding pages_for
returns-clause-pages c =
    fill_by_all (λ n. page_for c.args.store.now c.args.subject n (slice_get c.args.windows.now n)) c.loop-window.machine.pages.registers 32 non_resident c.loop-window.machine.pages.full
    (λ n lt. c.loop-window.invariant.set n (omega (arith, lt, c.loop-window-test.false)))

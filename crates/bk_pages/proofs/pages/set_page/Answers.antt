use Rattle.std.proofs.Common.{Option, Some, slice_set, sym, ap, ◌∙◌}
use Rattle.bk_path.specs.Paths.{Path}
use Rattle.bk_pages.specs.Pages.{page_for}
use Rattle.bk_pages.proofs.Setting.{page-set}
use Rattle.bk_pages.proofs.pages.set_page.Goals as goal

pub returns-in-Some-shown-clause-page : goal.returns-in-Some-shown-clause-page
returns-in-Some-shown-clause-page c =
    c.load_page.ensures.page
    ∙ ap (slice_set c.args.machine.now.pages.registers c.args.window) (page-set c.args.store.now c.args.subject c.args.window c.in-Some.path c.in-Some-shown.first c.in-Some-shown.size c.in-Some-shown.modes c.rights_by.result
    (sym c.shown.ensures ∙ c.in-Some-shown.is) c.rights_by.ensures
    ∙ ap (λ (shown : Option Path). page_for c.args.store.now c.args.subject c.args.window (Some shown)) (sym c.in-Some.is))

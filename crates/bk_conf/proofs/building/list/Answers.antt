use Rattle.std.proofs.Common.{Ok, ap, sym, ◌∙◌}
use Rattle.bk_conf.specs.Built.{listings_of}
use Rattle.bk_conf.specs.Views.{said_of}
use Rattle.bk_conf.proofs.Images.{listing_ok}
use Rattle.bk_conf.proofs.building.list.Goals as goal

pub returns-in-Ok-list_all-clause-ok : goal.returns-in-Ok-list_all-clause-ok
returns-in-Ok-list_all-clause-ok c =
    listing_ok c.args.text.now (said_of c.in-Ok.said) c.in-Ok.ensures
    ∙ ap (λ text. Ok text) (ap listings_of (sym c.deref.ensures.value) ∙ sym c.in-Ok-list_all.ensures)

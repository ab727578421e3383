use Rattle.std.proofs.Common.{◌<◌, ◌∙◌, sym, ap, subst}
use Rattle.bk_object.specs.Rows.{most_subjects}
use Rattle.bk_access.specs.Held.{cleared}
use Rattle.bk_access.specs.Table.{held_by}
use Rattle.bk_access.proofs.TableLemmas.{held_by-cleared}
use Rattle.bk_access.proofs.access.Access.clear_object.Goals as goal

pub clear_in-requires : goal.clear_in-requires
clear_in-requires c = subst (λ held. c.args.slot.n < held.slots) (sym c.self.view_is) c.requires

pub returns : goal.returns
returns c =
    ap held_by c.clear_in.ensures.value
    ∙ held_by-cleared c.self.inside.rows.items c.args.slot.n most_subjects (subst (λ held. c.args.slot.n < held.slots) (sym c.self.view_is) c.requires)
    ∙ ap (cleared c.args.slot.n) c.self.view_is

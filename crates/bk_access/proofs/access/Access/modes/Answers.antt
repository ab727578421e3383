use Rattle.std.proofs.Common.{◌<◌, ◌∙◌, sym, ap, subst}
use Rattle.bk_object.specs.Rows.{most_subjects}
use Rattle.bk_access.specs.Held.{modes_at}
use Rattle.bk_access.proofs.TableLemmas.{modes_at-held_by, outside_rows}
use Rattle.bk_access.proofs.access.Access.modes.Goals as goal

pub modes_in-requires-clause-slot : goal.modes_in-requires-clause-slot
modes_in-requires-clause-slot c = subst (λ held. c.args.slot.n < held.slots) (sym c.self.view_is) c.requires.slot

pub returns-clause-value : goal.returns-clause-value
returns-clause-value c =
    c.modes_in.ensures.value
    ∙ sym (modes_at-held_by c.self.inside.rows.items c.args.subject c.args.slot.n)
    ∙ ap (λ held. modes_at held c.args.subject c.args.slot.n) c.self.view_is

pub returns-clause-outside : goal.returns-clause-outside
returns-clause-outside c = λ s k out.
    ap (λ held. modes_at held s k) (sym c.self.view_is)
    ∙ modes_at-held_by c.self.inside.rows.items s k
    ∙ outside_rows c.self.inside.rows.items most_subjects s k c.self.invariant.whole (subst (λ held. ¬ ((s < most_subjects) × (k < held.slots))) (sym c.self.view_is) out)

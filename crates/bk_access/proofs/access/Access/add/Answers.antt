use Rattle.std.proofs.Common.{◌≡◌, ◌<◌, ◌∙◌, get_or, length, sym, ap, subst, []}
use Rattle.std.proofs.lemmas.List.Elements.{All-get_or}
use Rattle.bk_object.specs.Modes.{no_modes, union}
use Rattle.bk_object.specs.Rows.{most_subjects}
use Rattle.bk_access.specs.Held.{added, with_modes}
use Rattle.bk_access.specs.Table.{held_by}
use Rattle.bk_access.proofs.TableLemmas.{modes_at-held_by, held_by-set}
use Rattle.bk_access.proofs.access.Access.add.Goals as goal

pub add_in-requires-clause-slot : goal.add_in-requires-clause-slot
add_in-requires-clause-slot c = subst (λ held. c.args.slot.n < held.slots) (sym c.self.view_is) c.requires.slot

pub returns : goal.returns
returns c =
    let rows = c.self.inside.rows.items in
    let below = subst (λ held. c.args.slot.n < held.slots) (sym c.self.view_is) c.requires.slot in
    let whole : length (get_or rows c.args.slot.n []) ≡ most_subjects = All-get_or (λ row. length row ≡ most_subjects) rows c.args.slot.n [] below c.self.invariant.whole in
    ap held_by c.add_in.ensures.value
    ∙ held_by-set rows c.args.subject c.args.slot.n (union (get_or (get_or rows c.args.slot.n []) c.args.subject no_modes) c.args.modes) below (subst (λ n. c.args.subject < n) (sym whole) c.requires.subject)
    ∙ ap (λ old. with_modes c.args.subject c.args.slot.n (union old c.args.modes) (held_by rows)) (sym (modes_at-held_by rows c.args.subject c.args.slot.n))
    ∙ ap (added c.args.subject c.args.slot.n c.args.modes) c.self.view_is

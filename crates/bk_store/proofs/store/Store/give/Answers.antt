use Rattle.std.proofs.Common.{◌∙◌, sym, ap, is_some, refl, subst}
use Rattle.std.specs.FinMap.{get}
use Rattle.bk_object.specs.Rows.{given}
use Rattle.bk_store.specs.Stored.{with_given}
use Rattle.bk_store.specs.Joined.{tables_of, IsStore}
use Rattle.bk_store.proofs.Entries.{at_slot, some_slot}
use Rattle.bk_store.proofs.Rows.{store-row, row-changed}
use Rattle.bk_store.proofs.store.Store.give.Goals as goal

pub unwrap-slot-requires : goal.unwrap-slot-requires
unwrap-slot-requires c = some_slot c.self.inside.tree (tables_of c.self.inside.frames c.self.inside.mailboxes.items c.self.inside.inputs.items) c.args.path c.find.result c.find.ensures.value (ap (λ v. is_some (get v.objects c.args.path)) c.self.view_is ∙ c.requires.there)

pub invariant_of-self : goal.invariant_of-self
invariant_of-self c =
    let (facts, at) = at_slot c.self.inside.tree c.args.path c.unwrap-slot.result (sym c.unwrap-slot.ensures ∙ c.find.ensures.value) in
    subst (λ m. IsStore c.self.inside.lines m c.self.inside.access (tables_of c.self.inside.frames c.self.inside.mailboxes.items c.self.inside.inputs.items)) (sym (c.set_row.ensures c.args.path facts at))
    (store-row c.self.inside.tree c.args.path c.unwrap-slot.result.n facts c.given-row.result at c.self.inside.lines c.self.inside.access c.self.inside.access (tables_of c.self.inside.frames c.self.inside.mailboxes.items c.self.inside.inputs.items) refl (λ k none s. refl) c.self.invariant)

pub returns : goal.returns
returns c =
    let (facts, at) = at_slot c.self.inside.tree c.args.path c.unwrap-slot.result (sym c.unwrap-slot.ensures ∙ c.find.ensures.value) in
    row-changed c.self.inside.levels c.self.inside.lines c.self.inside.tree c.set_row.new.self c.self.inside.access (tables_of c.self.inside.frames c.self.inside.mailboxes.items c.self.inside.inputs.items) c.args.path c.unwrap-slot.result.n facts (given c.args.subject c.args.modes) c.given-row.result at
    (c.given-row.ensures.row ∙ ap (λ f. given c.args.subject c.args.modes f.row) (c.facts-held.ensures c.args.path facts at)) (c.set_row.ensures c.args.path facts at)
    ∙ ap (with_given c.args.subject c.args.path c.args.modes) c.self.view_is

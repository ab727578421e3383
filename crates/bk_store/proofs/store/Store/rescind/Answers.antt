use Rattle.std.proofs.Common.{◌∙◌, sym, ap, is_some, subst}
use Rattle.std.specs.FinMap.{get}
use Rattle.bk_object.specs.Rows.{rescinded}
use Rattle.bk_access.specs.Held.{modes_at}
use Rattle.bk_store.specs.Stored.{changed_at, with_row, with_rescinded}
use Rattle.bk_store.specs.Joined.{entries_of, store_of, tables_of, IsStore}
use Rattle.bk_store.proofs.Entries.{as_stored, at_slot, its_slot, some_slot}
use Rattle.bk_store.proofs.Changes.{access-removed, others-removed}
use Rattle.bk_store.proofs.Rows.{store-row, row-changed}
use Rattle.bk_store.proofs.store.Store.rescind.Goals as goal

pub unwrap-slot-requires : goal.unwrap-slot-requires
unwrap-slot-requires c = some_slot c.self.inside.tree (tables_of c.self.inside.frames c.self.inside.mailboxes.items c.self.inside.inputs.items) c.args.path c.find.result c.find.ensures.value (ap (λ v. is_some (get v.objects c.args.path)) c.self.view_is ∙ c.requires.there)

pub remove-requires-2-clause-slot : goal.remove-requires-2-clause-slot
remove-requires-2-clause-slot c =
    let (facts, at) = at_slot c.self.inside.tree c.args.path c.unwrap-slot.result (sym c.unwrap-slot.ensures ∙ c.find.ensures.value) in
    c.self.invariant.slots.within c.args.path c.unwrap-slot.result.n (its_slot c.self.inside.tree c.args.path c.unwrap-slot.result.n facts at)

pub invariant_of-self : goal.invariant_of-self
invariant_of-self c =
    let (facts, at) = at_slot c.self.inside.tree c.args.path c.unwrap-slot.result (sym c.unwrap-slot.ensures ∙ c.find.ensures.value) in
    subst (λ m. IsStore c.self.inside.lines m c.remove-2.new.self (tables_of c.self.inside.frames c.self.inside.mailboxes.items c.self.inside.inputs.items)) (sym (c.set_row.ensures c.args.path facts at))
    (store-row c.self.inside.tree c.args.path c.unwrap-slot.result.n facts c.remove.new.self at c.self.inside.lines c.self.inside.access c.remove-2.new.self (tables_of c.self.inside.frames c.self.inside.mailboxes.items c.self.inside.inputs.items) (ap (λ held. held.slots) (sym c.remove-2.ensures))
    (λ k none s. ap (λ held. modes_at held s k) c.remove-2.ensures ∙ others-removed c.self.inside.tree c.self.inside.access c.self.invariant.slots c.args.path c.unwrap-slot.result.n (its_slot c.self.inside.tree c.args.path c.unwrap-slot.result.n facts at) c.args.subject c.args.modes k none s) c.self.invariant)

pub returns : goal.returns
returns c =
    let (facts, at) = at_slot c.self.inside.tree c.args.path c.unwrap-slot.result (sym c.unwrap-slot.ensures ∙ c.find.ensures.value) in
    let slot = its_slot c.self.inside.tree c.args.path c.unwrap-slot.result.n facts at in
    row-changed c.self.inside.levels c.self.inside.lines c.self.inside.tree c.set_row.new.self c.remove-2.new.self (tables_of c.self.inside.frames c.self.inside.mailboxes.items c.self.inside.inputs.items) c.args.path c.unwrap-slot.result.n facts (rescinded c.args.subject c.args.modes) c.remove.new.self at
    (c.remove.ensures ∙ ap (λ f. rescinded c.args.subject c.args.modes f.row) (c.facts-row.ensures c.args.path facts at)) (c.set_row.ensures c.args.path facts at)
    ∙ ap (λ held. changed_at c.args.path (with_row (rescinded c.args.subject c.args.modes)) (store_of c.self.inside.levels c.self.inside.lines c.self.inside.tree held (tables_of c.self.inside.frames c.self.inside.mailboxes.items c.self.inside.inputs.items))) c.remove-2.ensures
    ∙ ap (λ access. changed_at c.args.path (with_row (rescinded c.args.subject c.args.modes)) (as_stored c.self.inside.levels c.self.inside.lines (entries_of c.self.inside.tree (tables_of c.self.inside.frames c.self.inside.mailboxes.items c.self.inside.inputs.items)) access))
    (access-removed c.self.inside.tree c.self.inside.access c.self.invariant.slots c.args.path c.unwrap-slot.result.n slot c.args.subject c.args.modes)
    ∙ ap (with_rescinded c.args.subject c.args.path c.args.modes) c.self.view_is

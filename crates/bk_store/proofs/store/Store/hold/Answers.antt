use Rattle.std.proofs.Common.{◌∙◌, sym, ap, subst, is_some}
use Rattle.std.specs.FinMap.{get}
use Rattle.bk_store.specs.Stored.{with_held}
use Rattle.bk_store.specs.Joined.{entries_of, store_of, tables_of, IsStore}
use Rattle.bk_store.proofs.Entries.{as_stored, at_slot, its_slot, some_slot}
use Rattle.bk_store.proofs.Changes.{access-added, store-added}
use Rattle.bk_store.proofs.store.Store.hold.Goals as goal

pub unwrap-slot-requires : goal.unwrap-slot-requires
unwrap-slot-requires c = some_slot c.self.inside.tree (tables_of c.self.inside.frames c.self.inside.mailboxes.items c.self.inside.inputs.items) c.args.path c.find.result c.find.ensures.value (ap (λ v. is_some (get v.objects c.args.path)) c.self.view_is ∙ c.requires.there)

pub add-requires-clause-slot : goal.add-requires-clause-slot
add-requires-clause-slot c =
    let (facts, at) = at_slot c.self.inside.tree c.args.path c.unwrap-slot.result (sym c.unwrap-slot.ensures ∙ c.find.ensures.value) in
    c.self.invariant.slots.within c.args.path c.unwrap-slot.result.n (its_slot c.self.inside.tree c.args.path c.unwrap-slot.result.n facts at)

pub invariant_of-self : goal.invariant_of-self
invariant_of-self c =
    let (facts, at) = at_slot c.self.inside.tree c.args.path c.unwrap-slot.result (sym c.unwrap-slot.ensures ∙ c.find.ensures.value) in
    subst (λ held. IsStore c.self.inside.lines c.self.inside.tree held (tables_of c.self.inside.frames c.self.inside.mailboxes.items c.self.inside.inputs.items)) (sym c.add.ensures) (record {
      slots = store-added c.self.inside.tree c.self.inside.access c.self.invariant.slots c.args.path c.unwrap-slot.result.n (its_slot c.self.inside.tree c.args.path c.unwrap-slot.result.n facts at) c.args.subject c.args.modes;
      extents = c.self.invariant.extents;
      queues = c.self.invariant.queues;
    })

pub returns : goal.returns
returns c =
    let (facts, at) = at_slot c.self.inside.tree c.args.path c.unwrap-slot.result (sym c.unwrap-slot.ensures ∙ c.find.ensures.value) in
    ap (λ held. store_of c.self.inside.levels c.self.inside.lines c.self.inside.tree held (tables_of c.self.inside.frames c.self.inside.mailboxes.items c.self.inside.inputs.items)) c.add.ensures
    ∙ ap (as_stored c.self.inside.levels c.self.inside.lines (entries_of c.self.inside.tree (tables_of c.self.inside.frames c.self.inside.mailboxes.items c.self.inside.inputs.items)))
    (access-added c.self.inside.tree c.self.inside.access c.self.invariant.slots c.args.path c.unwrap-slot.result.n (its_slot c.self.inside.tree c.args.path c.unwrap-slot.result.n facts at) c.args.subject c.args.modes c.requires.subject)
    ∙ ap (with_held c.args.subject c.args.path c.args.modes) c.self.view_is

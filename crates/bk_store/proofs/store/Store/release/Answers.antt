use Rattle.std.proofs.Common.{◌∙◌, sym, ap, subst}
use Rattle.bk_store.specs.Stored.{without_held}
use Rattle.bk_store.specs.Joined.{entries_of, store_of, tables_of, IsStore}
use Rattle.bk_store.proofs.Entries.{as_stored, at_slot, none_at, its_slot}
use Rattle.bk_store.proofs.Changes.{access-removed, access-none, store-removed}
use Rattle.bk_store.proofs.store.Store.release.Goals as goal

pub remove-requires-clause-slot : goal.remove-requires-clause-slot
remove-requires-clause-slot c =
    let (facts, at) = at_slot c.self.inside.tree c.args.path c.in-Some.place c.in-Some.ensures.value in
    c.self.invariant.slots.within c.args.path c.in-Some.place.n (its_slot c.self.inside.tree c.args.path c.in-Some.place.n facts at)

pub invariant_of-self : goal.invariant_of-self
invariant_of-self c =
    let (facts, at) = at_slot c.self.inside.tree c.args.path c.in-Some.place c.in-Some.ensures.value in
    subst (λ held. IsStore c.self.inside.lines c.self.inside.tree held (tables_of c.self.inside.frames c.self.inside.mailboxes.items c.self.inside.inputs.items)) (sym c.remove.ensures) (record {
      slots = store-removed c.self.inside.tree c.self.inside.access c.self.invariant.slots c.args.path c.in-Some.place.n (its_slot c.self.inside.tree c.args.path c.in-Some.place.n facts at) c.args.subject c.args.modes;
      extents = c.self.invariant.extents;
      queues = c.self.invariant.queues;
    })

pub returns-in-Some : goal.returns-in-Some
returns-in-Some c =
    let (facts, at) = at_slot c.self.inside.tree c.args.path c.in-Some.place c.in-Some.ensures.value in
    ap (λ held. store_of c.self.inside.levels c.self.inside.lines c.self.inside.tree held (tables_of c.self.inside.frames c.self.inside.mailboxes.items c.self.inside.inputs.items)) c.remove.ensures
    ∙ ap (as_stored c.self.inside.levels c.self.inside.lines (entries_of c.self.inside.tree (tables_of c.self.inside.frames c.self.inside.mailboxes.items c.self.inside.inputs.items)))
    (access-removed c.self.inside.tree c.self.inside.access c.self.invariant.slots c.args.path c.in-Some.place.n (its_slot c.self.inside.tree c.args.path c.in-Some.place.n facts at) c.args.subject c.args.modes)
    ∙ ap (without_held c.args.subject c.args.path c.args.modes) c.self.view_is

pub returns-in_default : goal.returns-in_default
returns-in_default c =
    sym c.self.view_is
    ∙ ap (as_stored c.self.inside.levels c.self.inside.lines (entries_of c.self.inside.tree (tables_of c.self.inside.frames c.self.inside.mailboxes.items c.self.inside.inputs.items)))
    (access-none c.self.inside.tree c.self.inside.access c.args.path (none_at c.self.inside.tree c.args.path (sym c.in_default.is ∙ c.find.ensures.value)) c.args.subject c.args.modes)
    ∙ ap (without_held c.args.subject c.args.path c.args.modes) c.self.view_is

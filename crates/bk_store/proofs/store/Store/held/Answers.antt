use Rattle.std.proofs.Common.{◌∙◌, ap}
use Rattle.bk_store.specs.Stored.{modes_held}
use Rattle.bk_store.proofs.Entries.{at_slot, none_at, its_slot}
use Rattle.bk_store.proofs.Looked.{held_there, held_none}
use Rattle.bk_store.proofs.store.Store.held.Goals as goal

pub modes-requires-clause-slot : goal.modes-requires-clause-slot
modes-requires-clause-slot c =
    let (facts, at) = at_slot c.self.inside.tree c.args.path c.in-Some.slot c.in-Some.ensures.value in
    c.self.invariant.slots.within c.args.path c.in-Some.slot.n (its_slot c.self.inside.tree c.args.path c.in-Some.slot.n facts at)

pub returns-in-Some : goal.returns-in-Some
returns-in-Some c =
    let (facts, at) = at_slot c.self.inside.tree c.args.path c.in-Some.slot c.in-Some.ensures.value in
    held_there c.self.inside.tree c.self.inside.access c.args.subject c.in-Some.slot.n c.args.path c.modes.result c.requires (its_slot c.self.inside.tree c.args.path c.in-Some.slot.n facts at) c.modes.ensures.value c.modes.ensures.four
    ∙ ap (λ v. modes_held v c.args.subject c.args.path) c.self.view_is

pub returns-in-None : goal.returns-in-None
returns-in-None c =
    held_none c.self.inside.tree c.self.inside.access c.args.subject c.args.path c.from_bits_retain.result (none_at c.self.inside.tree c.args.path c.in-None.ensures.value) (c.from_bits_retain.ensures tt)
    ∙ ap (λ v. modes_held v c.args.subject c.args.path) c.self.view_is

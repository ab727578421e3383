use Rattle.std.proofs.Common.{◌∙◌, ◌+◌, ◌*◌, ◌/◌, sym, ap, slice_index_or, arith}
use Rattle.std.specs.FinMap.{get}
use Rattle.bk_quota.specs.Charges.{passes}
use Rattle.bk_store.specs.Stored.{objects_of, word_at}
use Rattle.bk_store.specs.Joined.{entries_of, tables_of}
use Rattle.bk_store.proofs.Entries.{at_slot, some_slot, there}
use Rattle.bk_store.proofs.Written.{has_offset, index_is, some_extent, word_is, word_place}
use Rattle.bk_store.proofs.store.Store.word.Goals as goal

pub unwrap-slot-requires : goal.unwrap-slot-requires
unwrap-slot-requires c = some_slot c.self.inside.tree (tables_of c.self.inside.frames c.self.inside.mailboxes.items c.self.inside.inputs.items) c.args.path c.find.result c.find.ensures.value (there (has_offset c.args.offset) (get (entries_of c.self.inside.tree (tables_of c.self.inside.frames c.self.inside.mailboxes.items c.self.inside.inputs.items)) c.args.path) (ap (λ v. passes (has_offset c.args.offset) (get v.objects c.args.path)) c.self.view_is ∙ c.requires.inside))

pub unwrap-first-requires : goal.unwrap-first-requires
unwrap-first-requires c =
    let (facts, at) = at_slot c.self.inside.tree c.args.path c.unwrap-slot.result (sym c.unwrap-slot.ensures ∙ c.find.ensures.value) in
    some_extent c.self.inside.levels c.self.inside.lines c.self.inside.tree c.self.inside.access (tables_of c.self.inside.frames c.self.inside.mailboxes.items c.self.inside.inputs.items) c.self.invariant c.args.path c.unwrap-slot.result.n facts at c.args.offset (ap (λ v. passes (has_offset c.args.offset) (get v.objects c.args.path)) c.self.view_is ∙ c.requires.inside) c.extent.result c.extent.ensures.extent

pub word-requires-clause-inside : goal.word-requires-clause-inside
word-requires-clause-inside c =
    let (facts, at) = at_slot c.self.inside.tree c.args.path c.unwrap-slot.result (sym c.unwrap-slot.ensures ∙ c.find.ensures.value) in
    let place = word_place c.self.inside.levels c.self.inside.lines c.self.inside.tree c.self.inside.access (tables_of c.self.inside.frames c.self.inside.mailboxes.items c.self.inside.inputs.items) c.self.invariant c.args.path c.unwrap-slot.result.n facts at c.args.offset (ap (λ v. passes (has_offset c.args.offset) (get v.objects c.args.path)) c.self.view_is ∙ c.requires.inside) c.unwrap-first.result (sym c.extent.ensures.extent ∙ c.unwrap-first.ensures) in
    omega (arith, place.inside, place.below, c.from.ensures)

pub returns : goal.returns
returns c =
    let (facts, at) = at_slot c.self.inside.tree c.args.path c.unwrap-slot.result (sym c.unwrap-slot.ensures ∙ c.find.ensures.value) in
    word_is c.self.inside.levels c.self.inside.lines c.self.inside.tree c.self.inside.access (tables_of c.self.inside.frames c.self.inside.mailboxes.items c.self.inside.inputs.items) c.self.invariant c.args.path c.unwrap-slot.result.n facts at c.args.offset (ap (λ v. passes (has_offset c.args.offset) (get v.objects c.args.path)) c.self.view_is ∙ c.requires.inside)
    c.args.core.now.words c.unwrap-first.result c.word.result (sym c.extent.ensures.extent ∙ c.unwrap-first.ensures)
    (c.word.ensures ∙ ap (λ n. slice_index_or c.args.core.now.words ((c.unwrap-first.result.0 * 64 + n) / 2) 0) c.from.ensures ∙ ap (λ j. slice_index_or c.args.core.now.words j 0) (index_is c.unwrap-first.result.0 c.args.offset c.requires.even))
    ∙ ap (λ v. word_at (c.args.offset / 2) (get (objects_of v c.args.core.now.words) c.args.path)) c.self.view_is

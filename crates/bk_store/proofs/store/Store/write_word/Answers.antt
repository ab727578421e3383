use Rattle.std.proofs.Common.{◌≡◌, ◌∙◌, ◌+◌, ◌*◌, ◌/◌, sym, ap, subst, take, slice_set, arith}
use Rattle.std.specs.FinMap.{get}
use Rattle.bk_quota.specs.Charges.{passes}
use Rattle.bk_store.specs.Stored.{objects_of, word_written}
use Rattle.bk_store.specs.Joined.{entries_of, tables_of}
use Rattle.bk_store.proofs.Entries.{at_slot, some_slot, there}
use Rattle.bk_store.proofs.Written.{has_offset, half_inside, index_is, kernel_kept, objects-written, some_extent, stands_at, word_place}
use Rattle.bk_store.proofs.store.Store.write_word.Goals as goal

pub unwrap-slot-requires : goal.unwrap-slot-requires
unwrap-slot-requires c = some_slot c.self.inside.tree (tables_of c.self.inside.frames c.self.inside.mailboxes.items c.self.inside.inputs.items) c.args.path c.find.result c.find.ensures.value (there (has_offset c.args.offset) (get (entries_of c.self.inside.tree (tables_of c.self.inside.frames c.self.inside.mailboxes.items c.self.inside.inputs.items)) c.args.path) (ap (λ v. passes (has_offset c.args.offset) (get v.objects c.args.path)) c.self.view_is ∙ c.requires.inside))

pub unwrap-first-requires : goal.unwrap-first-requires
unwrap-first-requires c =
    let (facts, at) = at_slot c.self.inside.tree c.args.path c.unwrap-slot.result (sym c.unwrap-slot.ensures ∙ c.find.ensures.value) in
    some_extent c.self.inside.levels c.self.inside.lines c.self.inside.tree c.self.inside.access (tables_of c.self.inside.frames c.self.inside.mailboxes.items c.self.inside.inputs.items) c.self.invariant c.args.path c.unwrap-slot.result.n facts at c.args.offset (ap (λ v. passes (has_offset c.args.offset) (get v.objects c.args.path)) c.self.view_is ∙ c.requires.inside) c.extent.result c.extent.ensures.extent

pub set_word-requires-clause-inside : goal.set_word-requires-clause-inside
set_word-requires-clause-inside c =
    let (facts, at) = at_slot c.self.inside.tree c.args.path c.unwrap-slot.result (sym c.unwrap-slot.ensures ∙ c.find.ensures.value) in
    let place = word_place c.self.inside.levels c.self.inside.lines c.self.inside.tree c.self.inside.access (tables_of c.self.inside.frames c.self.inside.mailboxes.items c.self.inside.inputs.items) c.self.invariant c.args.path c.unwrap-slot.result.n facts at c.args.offset (ap (λ v. passes (has_offset c.args.offset) (get v.objects c.args.path)) c.self.view_is ∙ c.requires.inside) c.unwrap-first.result (sym c.extent.ensures.extent ∙ c.unwrap-first.ensures) in
    omega (arith, place.inside, place.below, c.from.ensures)

pub returns-clause-words : goal.returns-clause-words
returns-clause-words c =
    let (facts, at) = at_slot c.self.inside.tree c.args.path c.unwrap-slot.result (sym c.unwrap-slot.ensures ∙ c.find.ensures.value) in
    let place = word_place c.self.inside.levels c.self.inside.lines c.self.inside.tree c.self.inside.access (tables_of c.self.inside.frames c.self.inside.mailboxes.items c.self.inside.inputs.items) c.self.invariant c.args.path c.unwrap-slot.result.n facts at c.args.offset (ap (λ v. passes (has_offset c.args.offset) (get v.objects c.args.path)) c.self.view_is ∙ c.requires.inside) c.unwrap-first.result (sym c.extent.ensures.extent ∙ c.unwrap-first.ensures) in
    ap (objects_of c.args.self.now) (c.set_word.ensures ∙ ap (λ n. slice_set c.args.core.now.words ((c.unwrap-first.result.0 * 64 + n) / 2) c.args.value) c.from.ensures ∙ ap (λ j. slice_set c.args.core.now.words j c.args.value) (index_is c.unwrap-first.result.0 c.args.offset c.requires.even))
    ∙ subst (λ v. objects_of v (slice_set c.args.core.now.words (32 * c.unwrap-first.result.0 + c.args.offset / 2) c.args.value) ≡ word_written c.args.path (c.args.offset / 2) c.args.value (objects_of v c.args.core.now.words)) c.self.view_is
    (objects-written c.self.inside.levels c.self.inside.lines c.self.inside.tree c.self.inside.access (tables_of c.self.inside.frames c.self.inside.mailboxes.items c.self.inside.inputs.items) c.self.invariant c.args.core.now.words c.args.path (record { slot = c.unwrap-slot.result.n; facts = facts }) (record { first = c.unwrap-first.result.0; blocks = c.unwrap-first.result.1 }) at
    (stands_at c.self.inside.levels c.self.inside.lines c.self.inside.tree c.self.inside.access (tables_of c.self.inside.frames c.self.inside.mailboxes.items c.self.inside.inputs.items) c.self.invariant c.args.path c.unwrap-slot.result.n facts at c.args.offset (ap (λ v. passes (has_offset c.args.offset) (get v.objects c.args.path)) c.self.view_is ∙ c.requires.inside) c.unwrap-first.result (sym c.extent.ensures.extent ∙ c.unwrap-first.ensures))
    (c.args.offset / 2) c.args.value (half_inside c.args.offset c.unwrap-first.result.1 place.inside))

pub returns-clause-kernel : goal.returns-clause-kernel
returns-clause-kernel c =
    let (facts, at) = at_slot c.self.inside.tree c.args.path c.unwrap-slot.result (sym c.unwrap-slot.ensures ∙ c.find.ensures.value) in
    let place = word_place c.self.inside.levels c.self.inside.lines c.self.inside.tree c.self.inside.access (tables_of c.self.inside.frames c.self.inside.mailboxes.items c.self.inside.inputs.items) c.self.invariant c.args.path c.unwrap-slot.result.n facts at c.args.offset (ap (λ v. passes (has_offset c.args.offset) (get v.objects c.args.path)) c.self.view_is ∙ c.requires.inside) c.unwrap-first.result (sym c.extent.ensures.extent ∙ c.unwrap-first.ensures) in
    ap (take 2048) (c.set_word.ensures ∙ ap (λ n. slice_set c.args.core.now.words ((c.unwrap-first.result.0 * 64 + n) / 2) c.args.value) c.from.ensures ∙ ap (λ j. slice_set c.args.core.now.words j c.args.value) (index_is c.unwrap-first.result.0 c.args.offset c.requires.even))
    ∙ kernel_kept c.args.core.now.words c.unwrap-first.result.0 (c.args.offset / 2) c.args.value place.above

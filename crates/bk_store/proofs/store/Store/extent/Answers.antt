use Rattle.std.proofs.Common.{◌∙◌, sym, ap, is_some}
use Rattle.std.specs.Prelude.{option_map}
use Rattle.std.specs.FinMap.{get}
use Rattle.bk_object.specs.Kinds.{is_segment}
use Rattle.bk_frames.specs.Extents.{Extent}
use Rattle.bk_quota.specs.Charges.{passes}
use Rattle.bk_store.specs.Stored.{Entry, extent_at, extent_in}
use Rattle.bk_store.specs.Joined.{entry_of, tables_of}
use Rattle.bk_store.proofs.Entries.{at_slot, none_at, get-entry}
use Rattle.bk_store.proofs.Contents.{extent_of_kind, its_blocks, some_mapped}
use Rattle.bk_store.proofs.store.Store.extent.Goals as goal

pub returns-in-Some-clause-value : goal.returns-in-Some-clause-value
returns-in-Some-clause-value c =
    let (facts, at) = at_slot c.self.inside.tree c.args.path c.in-Some.slot c.in-Some.ensures.value in
    c.extent.ensures.extent
    ∙ ap (λ o. option_map (λ (e : Extent). (e.first, e.blocks)) (extent_at o)) (sym (get-entry c.self.inside.tree (tables_of c.self.inside.frames c.self.inside.mailboxes.items c.self.inside.inputs.items) c.args.path ∙ ap (option_map (entry_of (tables_of c.self.inside.frames c.self.inside.mailboxes.items c.self.inside.inputs.items))) at))
    ∙ ap (λ v. option_map (λ (e : Extent). (e.first, e.blocks)) (extent_in v c.args.path)) c.self.view_is

pub returns-in-Some-clause-there : goal.returns-in-Some-clause-there
returns-in-Some-clause-there c =
    let (facts, at) = at_slot c.self.inside.tree c.args.path c.in-Some.slot c.in-Some.ensures.value in
    let found = ap is_some c.extent.ensures.extent ∙ some_mapped (λ (e : Extent). (e.first, e.blocks)) (get c.self.inside.frames.extents c.in-Some.slot.n)
    ∙ extent_of_kind facts.kind facts.blocks (get c.self.inside.frames.extents c.in-Some.slot.n) (its_blocks c.self.inside.levels c.self.inside.lines c.self.inside.tree c.self.inside.access (tables_of c.self.inside.frames c.self.inside.mailboxes.items c.self.inside.inputs.items) c.self.invariant c.args.path (record { slot = c.in-Some.slot.n; facts = facts }) at) in
    let test = ap (λ v. passes (λ (e : Entry). is_segment e.facts.kind) (get v.objects c.args.path)) (sym c.self.view_is) ∙ ap (passes (λ (e : Entry). is_segment e.facts.kind)) (get-entry c.self.inside.tree (tables_of c.self.inside.frames c.self.inside.mailboxes.items c.self.inside.inputs.items) c.args.path ∙ ap (option_map (entry_of (tables_of c.self.inside.frames c.self.inside.mailboxes.items c.self.inside.inputs.items))) at) in
    (λ h. test ∙ sym found ∙ h, λ h. found ∙ sym test ∙ h)

pub returns-in-None-clause-value : goal.returns-in-None-clause-value
returns-in-None-clause-value c =
    ap (λ o. option_map (λ (e : Extent). (e.first, e.blocks)) (extent_at o)) (sym (get-entry c.self.inside.tree (tables_of c.self.inside.frames c.self.inside.mailboxes.items c.self.inside.inputs.items) c.args.path ∙ ap (option_map (entry_of (tables_of c.self.inside.frames c.self.inside.mailboxes.items c.self.inside.inputs.items))) (none_at c.self.inside.tree c.args.path c.in-None.ensures.value)))
    ∙ ap (λ v. option_map (λ (e : Extent). (e.first, e.blocks)) (extent_in v c.args.path)) c.self.view_is

pub returns-in-None-clause-there : goal.returns-in-None-clause-there
returns-in-None-clause-there c =
    let test = ap (λ v. passes (λ (e : Entry). is_segment e.facts.kind) (get v.objects c.args.path)) (sym c.self.view_is) ∙ ap (passes (λ (e : Entry). is_segment e.facts.kind)) (get-entry c.self.inside.tree (tables_of c.self.inside.frames c.self.inside.mailboxes.items c.self.inside.inputs.items) c.args.path ∙ ap (option_map (entry_of (tables_of c.self.inside.frames c.self.inside.mailboxes.items c.self.inside.inputs.items))) (none_at c.self.inside.tree c.args.path c.in-None.ensures.value)) in
    (λ h. test ∙ h, λ h. sym test ∙ h)

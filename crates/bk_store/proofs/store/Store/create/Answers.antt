use Rattle.std.proofs.Common.{◌≡◌, ◌∙◌, ◌*◌, sym, ap, subst, is_some, arith, take}
use Rattle.std.specs.FinMap.{get, insert}
use Rattle.std.proofs.lemmas.List.{length-map}
use Rattle.bk_path.specs.Paths.{parent}
use Rattle.bk_quota.specs.Charges.{passes}
use Rattle.bk_object.specs.Kinds.{is_directory}
use Rattle.bk_object.specs.Limits.{words_of_block}
use Rattle.bk_tree.specs.Kept.{IsFit}
use Rattle.bk_store.specs.Stored.{Entry, IsCreated, IsFreeLine}
use Rattle.bk_store.specs.Joined.{bytes_of, store_of, tables_of, waiting_of, IsStore}
use Rattle.bk_store.proofs.Cells.{directory_in_tree, number-same}
use Rattle.bk_store.proofs.Created.{created, extent_free, grown, later, line_in_tree, none_is, not_over, not_taken, over_where, own_slots}
use Rattle.bk_store.proofs.Created.{room_in, room_there, slot_below, store-created, taken_where}
use Rattle.bk_store.proofs.store.Store.create.Goals as goal

pub create-requires-clause-parent : goal.create-requires-clause-parent
create-requires-clause-parent c = directory_in_tree c.self.inside.tree (tables_of c.self.inside.frames c.self.inside.mailboxes.items c.self.inside.inputs.items) (parent c.args.path) (ap (λ v. passes (λ (e : Entry). is_directory e.facts.kind) (get v.objects (parent c.args.path))) c.self.view_is ∙ c.requires.parent)

pub create-requires-clause-fit : goal.create-requires-clause-fit
create-requires-clause-fit c = subst (IsFit c.args.facts) (number-same c.self.inside.tree (tables_of c.self.inside.frames c.self.inside.mailboxes.items c.self.inside.inputs.items) c.args.self.now (ap (λ v. v.objects) (sym c.self.view_is)) (parent c.args.path)) c.requires.fit

pub place_for-requires-clause-known : goal.place_for-requires-clause-known
place_for-requires-clause-known c = omega (arith, slot_below c.self.inside.tree c.args.path c.in-Ok.slot.n c.args.facts (none_is (get c.self.inside.tree c.args.path) c.in-Ok.ensures.ok.0) (own_slots c.create.new.self (insert c.self.inside.tree c.args.path (record { slot = c.in-Ok.slot.n; facts = c.args.facts })) c.in-Ok.ensures.ok.2 c.law_slots.ensures.within c.law_slots.ensures.apart) c.requires.below_root c.self.inside.access c.self.invariant.slots, c.self.invariant.extents.places)

pub place_for-requires-clause-room : goal.place_for-requires-clause-room
place_for-requires-clause-room c =
    room_there c.self.inside.tree c.args.path c.in-Ok.slot.n c.args.facts (none_is (get c.self.inside.tree c.args.path) c.in-Ok.ensures.ok.0) (own_slots c.create.new.self (insert c.self.inside.tree c.args.path (record { slot = c.in-Ok.slot.n; facts = c.args.facts })) c.in-Ok.ensures.ok.2 c.law_slots.ensures.within c.law_slots.ensures.apart) c.requires.below_root c.self.inside.access.slots c.self.inside.frames c.self.inside.frames c.self.invariant.extents
    (room_in c.create.new.self (insert c.self.inside.tree c.args.path (record { slot = c.in-Ok.slot.n; facts = c.args.facts })) c.in-Ok.ensures.ok.2 c.law_room.ensures.blocks c.law_room.ensures.quota)

pub place_for-requires-clause-free : goal.place_for-requires-clause-free
place_for-requires-clause-free c = ap is_some (extent_free c.self.inside.tree c.args.path c.in-Ok.slot.n c.args.facts (none_is (get c.self.inside.tree c.args.path) c.in-Ok.ensures.ok.0) (own_slots c.create.new.self (insert c.self.inside.tree c.args.path (record { slot = c.in-Ok.slot.n; facts = c.args.facts })) c.in-Ok.ensures.ok.2 c.law_slots.ensures.within c.law_slots.ensures.apart) c.requires.below_root c.self.inside.access.slots c.self.inside.frames c.self.inside.frames c.self.invariant.extents)

pub clear_mailbox-requires : goal.clear_mailbox-requires
clear_mailbox-requires c = omega (arith, slot_below c.self.inside.tree c.args.path c.in-Ok.slot.n c.args.facts (none_is (get c.self.inside.tree c.args.path) c.in-Ok.ensures.ok.0) (own_slots c.create.new.self (insert c.self.inside.tree c.args.path (record { slot = c.in-Ok.slot.n; facts = c.args.facts })) c.in-Ok.ensures.ok.2 c.law_slots.ensures.within c.law_slots.ensures.apart) c.requires.below_root c.self.inside.access c.self.invariant.slots, c.self.invariant.queues.mailboxes, length-map c.self.inside.mailboxes.items waiting_of)

pub clear_input-requires : goal.clear_input-requires
clear_input-requires c = λ n e. omega (arith, ((line_in_tree c.self.inside.levels c.self.inside.lines c.self.inside.tree c.self.inside.access (tables_of c.self.inside.frames c.self.inside.mailboxes.items c.self.inside.inputs.items) c.args.facts.kind (subst (λ v. IsFreeLine v c.args.facts.kind) (sym c.self.view_is) c.requires.line)) n e).0, c.self.invariant.queues.inputs, length-map c.self.inside.inputs.items bytes_of)

pub invariant_of-self : goal.invariant_of-self
invariant_of-self c =
    subst (λ m. IsStore c.self.inside.lines m c.self.inside.access (tables_of c.place_for.new.frames c.clear_mailbox.new.mailboxes.items c.clear_input.new.inputs.items)) (sym c.in-Ok.ensures.ok.2)
    (subst (IsStore c.self.inside.lines (grown c.self.inside.tree c.args.path c.in-Ok.slot.n c.args.facts (none_is (get c.self.inside.tree c.args.path) c.in-Ok.ensures.ok.0) (own_slots c.create.new.self (insert c.self.inside.tree c.args.path (record { slot = c.in-Ok.slot.n; facts = c.args.facts })) c.in-Ok.ensures.ok.2 c.law_slots.ensures.within c.law_slots.ensures.apart) c.requires.below_root) c.self.inside.access) (λ i. record { frames = c.place_for.new.frames; mailboxes = sym c.clear_mailbox.ensures i; inputs = sym c.clear_input.ensures i })
    (store-created c.self.inside.tree c.args.path c.in-Ok.slot.n c.args.facts (none_is (get c.self.inside.tree c.args.path) c.in-Ok.ensures.ok.0) (own_slots c.create.new.self (insert c.self.inside.tree c.args.path (record { slot = c.in-Ok.slot.n; facts = c.args.facts })) c.in-Ok.ensures.ok.2 c.law_slots.ensures.within c.law_slots.ensures.apart) c.requires.below_root c.self.inside.lines c.self.inside.access (tables_of c.self.inside.frames c.self.inside.mailboxes.items c.self.inside.inputs.items) c.self.invariant (line_in_tree c.self.inside.levels c.self.inside.lines c.self.inside.tree c.self.inside.access (tables_of c.self.inside.frames c.self.inside.mailboxes.items c.self.inside.inputs.items) c.args.facts.kind (subst (λ v. IsFreeLine v c.args.facts.kind) (sym c.self.view_is) c.requires.line)) c.place_for.new.frames c.place_for.ensures.sizes c.place_for.ensures.apart c.place_for.ensures.room))

pub returns-in-Ok-clause-ok : goal.returns-in-Ok-clause-ok
returns-in-Ok-clause-ok c =
    subst (λ v. IsCreated c.args.self.now v c.args.core.now.words c.place_for.new.core.words c.args.path c.args.facts)
    (λ i. store_of c.self.inside.levels c.self.inside.lines (sym c.in-Ok.ensures.ok.2 i) c.self.inside.access (record { frames = c.place_for.new.frames; mailboxes = sym c.clear_mailbox.ensures i; inputs = sym c.clear_input.ensures i }))
    (subst (λ v. IsCreated v (store_of c.self.inside.levels c.self.inside.lines (grown c.self.inside.tree c.args.path c.in-Ok.slot.n c.args.facts (none_is (get c.self.inside.tree c.args.path) c.in-Ok.ensures.ok.0) (own_slots c.create.new.self (insert c.self.inside.tree c.args.path (record { slot = c.in-Ok.slot.n; facts = c.args.facts })) c.in-Ok.ensures.ok.2 c.law_slots.ensures.within c.law_slots.ensures.apart) c.requires.below_root) c.self.inside.access (later c.self.inside.tree c.args.path c.in-Ok.slot.n c.args.facts (none_is (get c.self.inside.tree c.args.path) c.in-Ok.ensures.ok.0) (own_slots c.create.new.self (insert c.self.inside.tree c.args.path (record { slot = c.in-Ok.slot.n; facts = c.args.facts })) c.in-Ok.ensures.ok.2 c.law_slots.ensures.within c.law_slots.ensures.apart) c.requires.below_root c.self.inside.lines c.self.inside.access (tables_of c.self.inside.frames c.self.inside.mailboxes.items c.self.inside.inputs.items) c.self.invariant (line_in_tree c.self.inside.levels c.self.inside.lines c.self.inside.tree c.self.inside.access (tables_of c.self.inside.frames c.self.inside.mailboxes.items c.self.inside.inputs.items) c.args.facts.kind (subst (λ v. IsFreeLine v c.args.facts.kind) (sym c.self.view_is) c.requires.line)) c.place_for.new.frames)) c.args.core.now.words c.place_for.new.core.words c.args.path c.args.facts) c.self.view_is
    (created c.self.inside.tree c.args.path c.in-Ok.slot.n c.args.facts (none_is (get c.self.inside.tree c.args.path) c.in-Ok.ensures.ok.0) (own_slots c.create.new.self (insert c.self.inside.tree c.args.path (record { slot = c.in-Ok.slot.n; facts = c.args.facts })) c.in-Ok.ensures.ok.2 c.law_slots.ensures.within c.law_slots.ensures.apart) c.requires.below_root c.self.inside.lines c.self.inside.access (tables_of c.self.inside.frames c.self.inside.mailboxes.items c.self.inside.inputs.items) c.self.invariant (line_in_tree c.self.inside.levels c.self.inside.lines c.self.inside.tree c.self.inside.access (tables_of c.self.inside.frames c.self.inside.mailboxes.items c.self.inside.inputs.items) c.args.facts.kind (subst (λ v. IsFreeLine v c.args.facts.kind) (sym c.self.view_is) c.requires.line)) c.self.inside.levels c.place_for.new.frames c.args.core.now.words c.place_for.new.core.words c.place_for.ensures.segments))

pub returns-in-Ok-clause-taken : goal.returns-in-Ok-clause-taken
returns-in-Ok-clause-taken c = (λ e. cc, λ h. absurd (not_taken c.self.inside.tree (tables_of c.self.inside.frames c.self.inside.mailboxes.items c.self.inside.inputs.items) c.args.path c.args.facts c.args.self.now (ap (λ v. v.objects) (sym c.self.view_is)) c.in-Ok.ensures.ok.0 h))

pub returns-in-Ok-clause-quota : goal.returns-in-Ok-clause-quota
returns-in-Ok-clause-quota c = (λ e. cc, λ h. absurd (not_over c.self.inside.tree (tables_of c.self.inside.frames c.self.inside.mailboxes.items c.self.inside.inputs.items) c.args.path c.args.facts c.args.self.now (ap (λ v. v.objects) (sym c.self.view_is)) c.in-Ok.ensures.ok.1 h))

pub returns-in-Ok-clause-kernel : goal.returns-in-Ok-clause-kernel
returns-in-Ok-clause-kernel c = subst (λ n. take (words_of_block * n) c.place_for.new.core.words ≡ take (words_of_block * n) c.args.core.now.words) c.self.invariant.extents.first c.place_for.ensures.below

pub returns-in-Err-clause-taken : goal.returns-in-Err-clause-taken
returns-in-Err-clause-taken c = taken_where c.self.inside.tree (tables_of c.self.inside.frames c.self.inside.mailboxes.items c.self.inside.inputs.items) c.args.path c.args.facts c.args.self.now (ap (λ v. v.objects) (sym c.self.view_is)) c.in-Err.no c.in-Err.ensures.err.0

pub returns-in-Err-clause-quota : goal.returns-in-Err-clause-quota
returns-in-Err-clause-quota c = over_where c.self.inside.tree (tables_of c.self.inside.frames c.self.inside.mailboxes.items c.self.inside.inputs.items) c.args.path c.args.facts c.args.self.now (ap (λ v. v.objects) (sym c.self.view_is)) c.in-Err.no c.in-Err.ensures.err.0

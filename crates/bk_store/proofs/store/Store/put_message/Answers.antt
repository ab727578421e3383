use Rattle.std.proofs.Common.{◌∙◌, sym, ap, arith, length, map, length-set, get_or}
use Rattle.std.specs.Prelude.{option_map}
use Rattle.std.specs.FinMap.{get}
use Rattle.std.proofs.lemmas.List.{length-map}
use Rattle.bk_object.specs.Kinds.{is_mailbox}
use Rattle.bk_object.proofs.KindLemmas.{mailbox_kind}
use Rattle.bk_quota.specs.Charges.{passes}
use Rattle.bk_store.specs.Stored.{Entry, has_place_in, place_at, place_of, sent, with_message}
use Rattle.bk_store.specs.Joined.{bytes_of, entries_of, entry_of, no_mail, queue_at, store_of, tables_of, waiting_of}
use Rattle.bk_store.proofs.Entries.{at_slot, get-entry, its_slot, kind_is, some_slot, there}
use Rattle.bk_store.proofs.Waits.{mail-changed, mailboxes-kept}
use Rattle.bk_store.proofs.store.Store.put_message.Goals as goal

pub unwrap-slot-requires : goal.unwrap-slot-requires
unwrap-slot-requires c = some_slot c.self.inside.tree (tables_of c.self.inside.frames c.self.inside.mailboxes.items c.self.inside.inputs.items) c.args.path c.find.result c.find.ensures.value (there (λ (e : Entry). is_mailbox e.facts.kind) (get (entries_of c.self.inside.tree (tables_of c.self.inside.frames c.self.inside.mailboxes.items c.self.inside.inputs.items)) c.args.path) (ap (λ v. passes (λ (e : Entry). is_mailbox e.facts.kind) (get v.objects c.args.path)) c.self.view_is ∙ c.requires))

pub put_at-requires : goal.put_at-requires
put_at-requires c =
    let (facts, at) = at_slot c.self.inside.tree c.args.path c.unwrap-slot.result (sym c.unwrap-slot.ensures ∙ c.find.ensures.value) in
    omega (arith, c.self.invariant.slots.within c.args.path c.unwrap-slot.result.n (its_slot c.self.inside.tree c.args.path c.unwrap-slot.result.n facts at), c.self.invariant.queues.mailboxes, length-map c.self.inside.mailboxes.items waiting_of)

pub invariant_of-self : goal.invariant_of-self
invariant_of-self c = mailboxes-kept c.self.inside.lines c.self.inside.tree c.self.inside.access (tables_of c.self.inside.frames c.self.inside.mailboxes.items c.self.inside.inputs.items) c.self.invariant (map waiting_of c.put_at.new.mailboxes.items) (ap length c.put_at.ensures.rest ∙ length-set (map waiting_of c.self.inside.mailboxes.items) c.unwrap-slot.result.n (sent c.args.words (get_or (map waiting_of c.self.inside.mailboxes.items) c.unwrap-slot.result.n no_mail)))

pub returns-clause-kept : goal.returns-clause-kept
returns-clause-kept c =
    let (facts, at) = at_slot c.self.inside.tree c.args.path c.unwrap-slot.result (sym c.unwrap-slot.ensures ∙ c.find.ensures.value) in
    let kind = mailbox_kind facts.kind (kind_is c.self.inside.tree (tables_of c.self.inside.frames c.self.inside.mailboxes.items c.self.inside.inputs.items) c.args.path c.unwrap-slot.result.n facts (λ (e : Entry). is_mailbox e.facts.kind) at (ap (λ v. passes (λ (e : Entry). is_mailbox e.facts.kind) (get v.objects c.args.path)) c.self.view_is ∙ c.requires)) in
    c.put_at.ensures.kept
    ∙ sym (ap place_at (get-entry c.self.inside.tree (tables_of c.self.inside.frames c.self.inside.mailboxes.items c.self.inside.inputs.items) c.args.path ∙ ap (option_map (entry_of (tables_of c.self.inside.frames c.self.inside.mailboxes.items c.self.inside.inputs.items))) at) ∙ ap (λ k. place_of (queue_at (tables_of c.self.inside.frames c.self.inside.mailboxes.items c.self.inside.inputs.items) c.unwrap-slot.result.n k)) kind)
    ∙ ap (λ v. has_place_in v c.args.path) c.self.view_is

pub returns-clause-rest : goal.returns-clause-rest
returns-clause-rest c =
    let (facts, at) = at_slot c.self.inside.tree c.args.path c.unwrap-slot.result (sym c.unwrap-slot.ensures ∙ c.find.ensures.value) in
    let kind = mailbox_kind facts.kind (kind_is c.self.inside.tree (tables_of c.self.inside.frames c.self.inside.mailboxes.items c.self.inside.inputs.items) c.args.path c.unwrap-slot.result.n facts (λ (e : Entry). is_mailbox e.facts.kind) at (ap (λ v. passes (λ (e : Entry). is_mailbox e.facts.kind) (get v.objects c.args.path)) c.self.view_is ∙ c.requires)) in
    ap (λ mailboxes. store_of c.self.inside.levels c.self.inside.lines c.self.inside.tree c.self.inside.access (record { frames = c.self.inside.frames; mailboxes = mailboxes; inputs = map bytes_of c.self.inside.inputs.items })) c.put_at.ensures.rest
    ∙ mail-changed c.self.inside.lines c.self.inside.tree c.self.inside.access (tables_of c.self.inside.frames c.self.inside.mailboxes.items c.self.inside.inputs.items) c.self.invariant c.self.inside.levels c.args.path (record { slot = c.unwrap-slot.result.n; facts = facts }) at (sent c.args.words) kind
    ∙ ap (with_message c.args.path c.args.words) c.self.view_is

use Rattle.std.proofs.Common.{◌∙◌, sym, ap, is_some, arith, length, map, length-set, get_or, []}
use Rattle.std.specs.Prelude.{option_map}
use Rattle.std.specs.FinMap.{get}
use Rattle.std.proofs.lemmas.List.{length-map}
use Rattle.bk_object.specs.Kinds.{is_any_line}
use Rattle.bk_quota.specs.Charges.{passes}
use Rattle.bk_state.specs.QueueCalls.{line_of}
use Rattle.bk_store.specs.Stored.{Entry, byte_at, byte_in, byte_of, without_byte, without_first}
use Rattle.bk_store.specs.Joined.{bytes_of, entries_of, entry_of, queue_at, store_of, tables_of, waiting_of}
use Rattle.bk_store.proofs.Entries.{at_slot, get-entry, kind_is, some_slot, there}
use Rattle.bk_store.proofs.Waits.{inputs-kept, line-changed, line_inside, line_kind, some_number}
use Rattle.bk_store.proofs.store.Store.take_byte.Goals as goal

pub unwrap-slot-requires : goal.unwrap-slot-requires
unwrap-slot-requires c = some_slot c.self.inside.tree (tables_of c.self.inside.frames c.self.inside.mailboxes.items c.self.inside.inputs.items) c.args.path c.find.result c.find.ensures.value (there (λ (e : Entry). is_any_line e.facts.kind) (get (entries_of c.self.inside.tree (tables_of c.self.inside.frames c.self.inside.mailboxes.items c.self.inside.inputs.items)) c.args.path) (ap (λ v. passes (λ (e : Entry). is_any_line e.facts.kind) (get v.objects c.args.path)) c.self.view_is ∙ c.requires))

pub unwrap-line-requires : goal.unwrap-line-requires
unwrap-line-requires c =
    let (facts, at) = at_slot c.self.inside.tree c.args.path c.unwrap-slot.result (sym c.unwrap-slot.ensures ∙ c.find.ensures.value) in
    ap is_some (c.line_of.ensures ∙ ap (λ f. line_of f.kind) (c.facts.ensures c.args.path facts at)) ∙ some_number facts.kind (kind_is c.self.inside.tree (tables_of c.self.inside.frames c.self.inside.mailboxes.items c.self.inside.inputs.items) c.args.path c.unwrap-slot.result.n facts (λ (e : Entry). is_any_line e.facts.kind) at (ap (λ v. passes (λ (e : Entry). is_any_line e.facts.kind) (get v.objects c.args.path)) c.self.view_is ∙ c.requires))

pub take_typed-requires : goal.take_typed-requires
take_typed-requires c =
    let (facts, at) = at_slot c.self.inside.tree c.args.path c.unwrap-slot.result (sym c.unwrap-slot.ensures ∙ c.find.ensures.value) in
    omega (arith, line_inside c.self.inside.lines c.self.inside.tree c.self.inside.access (tables_of c.self.inside.frames c.self.inside.mailboxes.items c.self.inside.inputs.items) c.self.invariant c.self.inside.levels c.args.path (record { slot = c.unwrap-slot.result.n; facts = facts }) at without_first c.unwrap-line.result (line_kind facts.kind c.unwrap-line.result (sym (ap (λ f. line_of f.kind) (c.facts.ensures c.args.path facts at)) ∙ sym c.line_of.ensures ∙ c.unwrap-line.ensures)), length-map c.self.inside.inputs.items bytes_of)

pub invariant_of-self : goal.invariant_of-self
invariant_of-self c = inputs-kept c.self.inside.lines c.self.inside.tree c.self.inside.access (tables_of c.self.inside.frames c.self.inside.mailboxes.items c.self.inside.inputs.items) c.self.invariant (map bytes_of c.take_typed.new.inputs.items) (ap length c.take_typed.ensures.rest ∙ length-set (map bytes_of c.self.inside.inputs.items) c.unwrap-line.result (without_first (get_or (map bytes_of c.self.inside.inputs.items) c.unwrap-line.result [])))

pub returns-clause-byte : goal.returns-clause-byte
returns-clause-byte c =
    let (facts, at) = at_slot c.self.inside.tree c.args.path c.unwrap-slot.result (sym c.unwrap-slot.ensures ∙ c.find.ensures.value) in
    c.take_typed.ensures.byte
    ∙ sym (ap byte_at (get-entry c.self.inside.tree (tables_of c.self.inside.frames c.self.inside.mailboxes.items c.self.inside.inputs.items) c.args.path ∙ ap (option_map (entry_of (tables_of c.self.inside.frames c.self.inside.mailboxes.items c.self.inside.inputs.items))) at) ∙ ap (λ k. byte_of (queue_at (tables_of c.self.inside.frames c.self.inside.mailboxes.items c.self.inside.inputs.items) c.unwrap-slot.result.n k)) (line_kind facts.kind c.unwrap-line.result (sym (ap (λ f. line_of f.kind) (c.facts.ensures c.args.path facts at)) ∙ sym c.line_of.ensures ∙ c.unwrap-line.ensures)))
    ∙ ap (λ v. byte_in v c.args.path) c.self.view_is

pub returns-clause-rest : goal.returns-clause-rest
returns-clause-rest c =
    let (facts, at) = at_slot c.self.inside.tree c.args.path c.unwrap-slot.result (sym c.unwrap-slot.ensures ∙ c.find.ensures.value) in
    ap (λ inputs. store_of c.self.inside.levels c.self.inside.lines c.self.inside.tree c.self.inside.access (record { frames = c.self.inside.frames; mailboxes = map waiting_of c.self.inside.mailboxes.items; inputs = inputs })) c.take_typed.ensures.rest
    ∙ line-changed c.self.inside.lines c.self.inside.tree c.self.inside.access (tables_of c.self.inside.frames c.self.inside.mailboxes.items c.self.inside.inputs.items) c.self.invariant c.self.inside.levels c.args.path (record { slot = c.unwrap-slot.result.n; facts = facts }) at without_first c.unwrap-line.result (line_kind facts.kind c.unwrap-line.result (sym (ap (λ f. line_of f.kind) (c.facts.ensures c.args.path facts at)) ∙ sym c.line_of.ensures ∙ c.unwrap-line.ensures))
    ∙ ap (without_byte c.args.path) c.self.view_is

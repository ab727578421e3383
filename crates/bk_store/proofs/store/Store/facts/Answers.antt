use Rattle.std.proofs.Common.{◌∙◌, sym, ap, Some}
use Rattle.std.specs.Prelude.{option_map}
use Rattle.bk_store.specs.Stored.{Entry, facts_in}
use Rattle.bk_store.specs.Joined.{entry_of, tables_of}
use Rattle.bk_store.proofs.Entries.{at_slot, none_at, get-entry}
use Rattle.bk_store.proofs.store.Store.facts.Goals as goal

pub returns-in-Some : goal.returns-in-Some
returns-in-Some c =
    let (facts, at) = at_slot c.self.inside.tree c.args.path c.in-Some.slot c.in-Some.ensures.value in
    ap Some (c.facts.ensures c.args.path facts at)
    ∙ sym (ap (option_map (λ (e : Entry). e.facts)) (get-entry c.self.inside.tree (tables_of c.self.inside.frames c.self.inside.mailboxes.items c.self.inside.inputs.items) c.args.path ∙ ap (option_map (entry_of (tables_of c.self.inside.frames c.self.inside.mailboxes.items c.self.inside.inputs.items))) at))
    ∙ ap (λ v. facts_in v c.args.path) c.self.view_is

pub returns-in-None : goal.returns-in-None
returns-in-None c =
    sym (ap (option_map (λ (e : Entry). e.facts)) (get-entry c.self.inside.tree (tables_of c.self.inside.frames c.self.inside.mailboxes.items c.self.inside.inputs.items) c.args.path ∙ ap (option_map (entry_of (tables_of c.self.inside.frames c.self.inside.mailboxes.items c.self.inside.inputs.items))) (none_at c.self.inside.tree c.args.path c.in-None.ensures.value)))
    ∙ ap (λ v. facts_in v c.args.path) c.self.view_is

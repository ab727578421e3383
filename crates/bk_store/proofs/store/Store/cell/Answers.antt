use Rattle.std.proofs.Common.{◌∙◌, sym, ap, is_some}
use Rattle.std.specs.FinMap.{get}
use Rattle.bk_object.specs.Kinds.{is_directory}
use Rattle.bk_store.specs.Stored.{Entry}
use Rattle.bk_store.specs.Joined.{tables_of}
use Rattle.bk_store.proofs.Entries.{at_slot, some_slot, there}
use Rattle.bk_store.proofs.Cells.{cell-same}
use Rattle.bk_store.proofs.store.Store.cell.Goals as goal

pub unwrap-slot-requires : goal.unwrap-slot-requires
unwrap-slot-requires c = some_slot c.self.inside.tree (tables_of c.self.inside.frames c.self.inside.mailboxes.items c.self.inside.inputs.items) c.args.path c.find.result c.find.ensures.value (ap (λ v. is_some (get v.objects c.args.path)) c.self.view_is ∙ there (λ (e : Entry). is_directory e.facts.kind) (get c.args.self.now.objects c.args.path) c.requires)

pub returns : goal.returns
returns c =
    let (facts, at) = at_slot c.self.inside.tree c.args.path c.unwrap-slot.result (sym c.unwrap-slot.ensures ∙ c.find.ensures.value) in
    c.cell.ensures c.args.path facts at ∙ cell-same c.self.inside.tree (tables_of c.self.inside.frames c.self.inside.mailboxes.items c.self.inside.inputs.items) c.args.self.now (ap (λ v. v.objects) (sym c.self.view_is)) c.args.path

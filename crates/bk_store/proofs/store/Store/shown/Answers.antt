use Rattle.std.proofs.Common.{◌≡◌, ℕ, List, Option, Some, None, sym, ap, ◌∙◌}
use Rattle.std.specs.Prelude.{option_map}
use Rattle.std.specs.FinMap as finite
use Rattle.std.proofs.lemmas.Option.{same_Some}
use Rattle.bk_level.specs.Levels.{Level}
use Rattle.bk_object.specs.declared.modes.Modes.{Modes}
use Rattle.bk_path.specs.Paths.{Path}
use Rattle.bk_access.specs.Held.{Held}
use Rattle.bk_frames.specs.Extents.{Extent}
use Rattle.bk_tree.specs.declared.place.Placed.{Placed}
use Rattle.bk_tree.specs.Objects.{Objects}
use Rattle.bk_store.specs.Stored.{Stored, extent_at, extent_in, modes_held}
use Rattle.bk_store.specs.Joined.{Tables, entry_of, store_of, tables_of}
use Rattle.bk_store.proofs.Contents.{none_of_map}
use Rattle.bk_store.proofs.Entries.{at_slot, none_at, get-entry, its_slot}
use Rattle.bk_store.proofs.Looked.{held_there}
use Rattle.bk_store.proofs.store.Store.shown.Goals as goal

-- what is answered of an extent
abbrev answer : Stored → (s : ℕ) → Path → Option Extent → Option (ℕ × ℕ × Modes)
answer v s path o = option_map (λ (e : Extent). (e.first, e.blocks, modes_held v s path)) o

-- the extent of the object at the path is that of its slot
extent-there : (levels : List Level) (lines : ℕ) (tree : Objects) (held : Held) (tables : Tables) (path : Path) (a : Placed) → finite.get tree path ≡ Some a →
    extent_in (store_of levels lines tree held tables) path ≡ finite.get tables.frames.extents a.slot
extent-there levels lines tree held tables path a at = ap extent_at (get-entry tree tables path ∙ ap (option_map (entry_of tables)) at)

extent-none : (levels : List Level) (lines : ℕ) (tree : Objects) (held : Held) (tables : Tables) (path : Path) → finite.get tree path ≡ None → extent_in (store_of levels lines tree held tables) path ≡ None
extent-none levels lines tree held tables path none = ap extent_at (get-entry tree tables path ∙ ap (option_map (entry_of tables)) none)

abbrev pair_of : Extent → ℕ × ℕ
pair_of e = (e.first, e.blocks)

extent_is : (o : Option Extent) (first blocks : ℕ) → option_map pair_of o ≡ Some (first, blocks) → o ≡ Some (record { first = first; blocks = blocks })
extent_is None first blocks h = cc
extent_is (Some e) first blocks h = ap (λ (p : ℕ × ℕ). Some (record { first = p.0; blocks = p.1 })) (same_Some (e.first, e.blocks) (first, blocks) h)

pub modes-requires-clause-slot : goal.modes-requires-clause-slot
modes-requires-clause-slot c =
    let (facts, at) = at_slot c.self.inside.tree c.args.path c.in_ok-slot.slot c.in_ok-slot.ensures.value in
    c.self.invariant.slots.within c.args.path c.in_ok-slot.slot.n (its_slot c.self.inside.tree c.args.path c.in_ok-slot.slot.n facts at)

pub returns-in_err-slot : goal.returns-in_err-slot
returns-in_err-slot c =
    let tables : Tables = tables_of c.self.inside.frames c.self.inside.mailboxes.items c.self.inside.inputs.items in
    let v : Stored = store_of c.self.inside.levels c.self.inside.lines c.self.inside.tree c.self.inside.access tables in
    c.from_residual.ensures
    ∙ sym (ap (answer v c.args.subject c.args.path) (extent-none c.self.inside.levels c.self.inside.lines c.self.inside.tree c.self.inside.access tables c.args.path (none_at c.self.inside.tree c.args.path c.in_err-slot.ensures.value)))
    ∙ ap (λ (w : Stored). answer w c.args.subject c.args.path (extent_in w c.args.path)) c.self.view_is

pub returns-in_err-first : goal.returns-in_err-first
returns-in_err-first c =
    let tables : Tables = tables_of c.self.inside.frames c.self.inside.mailboxes.items c.self.inside.inputs.items in
    let v : Stored = store_of c.self.inside.levels c.self.inside.lines c.self.inside.tree c.self.inside.access tables in
    let (facts, at) = at_slot c.self.inside.tree c.args.path c.in_ok-slot.slot c.in_ok-slot.ensures.value in
    c.from_residual-in_err-first.ensures
    ∙ sym (ap (answer v c.args.subject c.args.path) (extent-there c.self.inside.levels c.self.inside.lines c.self.inside.tree c.self.inside.access tables c.args.path (record { slot = c.in_ok-slot.slot.n; facts = facts }) at
    ∙ none_of_map pair_of (finite.get c.self.inside.frames.extents c.in_ok-slot.slot.n) (sym c.in_err-first.ensures.extent)))
    ∙ ap (λ (w : Stored). answer w c.args.subject c.args.path (extent_in w c.args.path)) c.self.view_is

pub returns : goal.returns
returns c =
    let tables : Tables = tables_of c.self.inside.frames c.self.inside.mailboxes.items c.self.inside.inputs.items in
    let v : Stored = store_of c.self.inside.levels c.self.inside.lines c.self.inside.tree c.self.inside.access tables in
    let (facts, at) = at_slot c.self.inside.tree c.args.path c.in_ok-slot.slot c.in_ok-slot.ensures.value in
    ap (λ (m : Modes). Some (c.in_ok-first.first, c.in_ok-first.blocks, m))
    (held_there c.self.inside.tree c.self.inside.access c.args.subject c.in_ok-slot.slot.n c.args.path c.modes.result c.requires (its_slot c.self.inside.tree c.args.path c.in_ok-slot.slot.n facts at) c.modes.ensures.value c.modes.ensures.four)
    ∙ sym (ap (answer v c.args.subject c.args.path) (extent-there c.self.inside.levels c.self.inside.lines c.self.inside.tree c.self.inside.access tables c.args.path (record { slot = c.in_ok-slot.slot.n; facts = facts }) at
    ∙ extent_is (finite.get c.self.inside.frames.extents c.in_ok-slot.slot.n) c.in_ok-first.first c.in_ok-first.blocks (sym c.in_ok-first.ensures.extent)))
    ∙ ap (λ (w : Stored). answer w c.args.subject c.args.path (extent_in w c.args.path)) c.self.view_is

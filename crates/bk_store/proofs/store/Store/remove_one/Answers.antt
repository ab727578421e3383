use Rattle.std.proofs.Common.{◌∙◌, sym, ap, subst, is_some, refl}
use Rattle.std.specs.Prelude.{option_map}
use Rattle.std.specs.FinMap.{get}
use Rattle.bk_tree.specs.Objects.{without}
use Rattle.bk_store.specs.Stored.{without_group, without_one}
use Rattle.bk_store.specs.Joined.{entry_of, store_of, tables_of, IsStore}
use Rattle.bk_store.proofs.Entries.{get-entry, its_slot}
use Rattle.bk_store.proofs.Deleted.{store-left, one-left, all-left, below_root}
use Rattle.bk_store.proofs.store.Store.remove_one.Goals as goal

pub drop_all-requires : goal.drop_all-requires
drop_all-requires c =
    let leaf = c.in-Some.ensures.some in
    c.self.invariant.slots.within leaf.path c.in-Some.place.n (its_slot c.self.inside.tree leaf.path c.in-Some.place.n leaf.facts leaf.there)

pub remove_leaf-requires : goal.remove_leaf-requires
remove_leaf-requires c =
    let leaf = c.in-Some.ensures.some in
    record { path = leaf.path; facts = leaf.facts; there = leaf.there; below_root = below_root c.args.of leaf.path c.requires leaf.inferior; childless = leaf.childless }

pub invariant_of-self : goal.invariant_of-self
invariant_of-self c =
    let leaf = c.in-Some.ensures.some in
    subst (λ m. IsStore c.self.inside.lines m c.drop_all.new.access (tables_of c.free.new.self c.self.inside.mailboxes.items c.self.inside.inputs.items)) (sym (c.remove_leaf.ensures leaf.path leaf.facts leaf.there))
    (subst (λ held. IsStore c.self.inside.lines (without c.self.inside.tree leaf.path) held (tables_of c.free.new.self c.self.inside.mailboxes.items c.self.inside.inputs.items)) (sym c.drop_all.ensures.held)
    (store-left c.self.inside.lines c.self.inside.tree c.self.inside.access (tables_of c.self.inside.frames c.self.inside.mailboxes.items c.self.inside.inputs.items) c.self.invariant leaf.path c.in-Some.place.n leaf.facts leaf.there (below_root c.args.of leaf.path c.requires leaf.inferior) c.free.new.self c.free.ensures.extents c.free.ensures.room c.free.ensures.apart))

pub returns-in-Some-clause-some : goal.returns-in-Some-clause-some
returns-in-Some-clause-some c = λ _.
    let leaf = c.in-Some.ensures.some in
    record {
      path = leaf.path;
      inferior = leaf.inferior;
      was = ap (λ v. is_some (get v.objects leaf.path)) (sym c.self.view_is) ∙ ap is_some (get-entry c.self.inside.tree (tables_of c.self.inside.frames c.self.inside.mailboxes.items c.self.inside.inputs.items) leaf.path ∙ ap (option_map (entry_of (tables_of c.self.inside.frames c.self.inside.mailboxes.items c.self.inside.inputs.items))) leaf.there);
      gone = (λ i. store_of c.self.inside.levels c.self.inside.lines (c.remove_leaf.ensures leaf.path leaf.facts leaf.there i) (c.drop_all.ensures.held i) (tables_of c.free.new.self c.self.inside.mailboxes.items c.self.inside.inputs.items))
          ∙ one-left c.self.inside.lines c.self.inside.tree c.self.inside.access (tables_of c.self.inside.frames c.self.inside.mailboxes.items c.self.inside.inputs.items) c.self.invariant leaf.path c.in-Some.place.n leaf.facts leaf.there (below_root c.args.of leaf.path c.requires leaf.inferior) c.free.new.self c.free.ensures.extents c.free.ensures.room c.free.ensures.apart c.self.inside.levels
          ∙ ap (without_one leaf.path) c.self.view_is;
    }

pub returns-in-None-clause-none : goal.returns-in-None-clause-none
returns-in-None-clause-none c = λ _. (
  refl,
  ap (without_group c.args.of) (sym c.self.view_is) ∙ all-left c.self.inside.levels c.self.inside.lines c.self.inside.tree c.self.inside.access (tables_of c.self.inside.frames c.self.inside.mailboxes.items c.self.inside.inputs.items) c.args.of (c.in-None.ensures.none.0 refl) ∙ c.self.view_is,
)

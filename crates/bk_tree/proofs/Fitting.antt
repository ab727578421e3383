-- What the objects of a tree need fits root's quota.
use Rattle.std.proofs.Common.{◌≡◌, ◌+◌, ◌≤◌, true, List, [], Option, Some, sym, ap, ◌∙◌, subst, arith}
use Rattle.std.specs.FinMap.{get, len}
use Rattle.bk_object.specs.Kinds.{is_directory}
use Rattle.bk_quota.specs.Charges.{quota_in}
use Rattle.bk_tree.specs.declared.place.Placed.{Placed}
use Rattle.bk_tree.specs.declared.place.Object.{Object}
use Rattle.bk_tree.specs.Objects.{Objects, facts_of}
use Rattle.bk_tree.specs.Kept.{IsKept}
use Rattle.bk_tree.specs.Needs.{needs_in, blocks_in}
use Rattle.bk_tree.specs.Places.{tree_of, IsTree}
use Rattle.bk_tree.proofs.Found.{is_there}
use Rattle.bk_tree.proofs.Smaller.{quota_at}
use Rattle.bk_tree.proofs.Room as room

-- what is kept of the objects gives room for them
module _ (m : Objects) (kept : IsKept m) (root : Placed) (top : get m [] ≡ Some root) where
  pub has_parents : room.HasParents facts_of m
  has_parents e p x h = let (d, hd, kind) = kept.parents e p x h in (d, hd)

  pub needs_kept : 1 + needs_in facts_of m ≤ root.facts.quota
  needs_kept = room.needs facts_of m root top has_parents kept.charges kept.within

  pub objects_kept : len m ≤ root.facts.quota
  objects_kept = room.objects facts_of m root top has_parents kept.charges kept.within

  pub blocks_kept : is_directory root.facts.kind ≡ true → 1 + blocks_in facts_of m ≤ root.facts.quota
  blocks_kept = room.blocks facts_of m root top has_parents kept.charges kept.within

-- the room in a tree
module _ (places : List (Option Object)) (tree : IsTree places) (m : Objects) (view : tree_of places ≡ m) where
  abbrev root : Placed
  root = record { slot = 0; facts = tree.rooted.0 }

  top : get m [] ≡ Some root
  top = sym (ap (λ t. get t []) view) ∙ is_there places tree.apart 0 (record { path = []; facts = tree.rooted.0 }) tree.rooted.1.first

  kept : IsKept m
  kept = subst IsKept view tree.kept

  limit : quota_in facts_of m [] ≡ tree.rooted.0.quota
  limit = quota_at m [] root top

  pub needs_fit : 1 + needs_in facts_of m ≤ quota_in facts_of m []
  needs_fit = omega (arith, limit, needs_kept m kept root top)

  pub objects_fit : len m ≤ quota_in facts_of m []
  objects_fit = omega (arith, limit, objects_kept m kept root top)

  pub blocks_fit : 1 + blocks_in facts_of m ≤ quota_in facts_of m []
  blocks_fit = omega (arith, limit, blocks_kept m kept root top tree.rooted.1.kind)

  pub quota_fits : quota_in facts_of m [] ≤ 3904
  quota_fits = omega (arith, limit, tree.rooted.1.quota, tree.short)

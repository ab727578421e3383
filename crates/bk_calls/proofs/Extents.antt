-- Changes of a store that leave each segment where it stands.
use Rattle.std.proofs.Common.{◌≡◌, Bool, true, false, cond, Option, Some, None, refl, sym, ap, subst, ◌∙◌}
use Rattle.std.specs.Ordering.{eq_by_cmp}
use Rattle.std.specs.FinMap as finite
use Rattle.bk_path.specs.Paths.{Path, path_cmp}
use Rattle.bk_path.specs.Orders.{path_total, same_path, ties-same}
use Rattle.bk_store.specs.Stored.{Entry, Stored, changed_at, changed_by, extent_at}
use Rattle.bk_calls.specs.Shown.{SameExtents}

-- an object that is put where one with its extent stands
insert-extents : (m : finite.FinMap path_cmp Entry) (path : Path) (old new : Entry) → finite.get m path ≡ Some old → new.extent ≡ old.extent →
    (q : Path) → extent_at (finite.get (finite.insert m path new) q) ≡ extent_at (finite.get m q)
insert-extents m path old new has same q = ap extent_at (finite.get-insert path_total m path new q) ∙ by (eq_by_cmp path_cmp q path) refl
  where
    by : (b : Bool) → eq_by_cmp path_cmp q path ≡ b → extent_at (cond b (Some new) (finite.get m q)) ≡ extent_at (finite.get m q)
    by true is = same ∙ ap extent_at (sym has ∙ ap (finite.get m) (sym (same_path q path (sym (ties-same q path) ∙ is))))
    by false is = refl

-- a change of one object that leaves its extent
pub changed-extents : (store : Stored) (path : Path) (change : Entry → Entry) → ((e : Entry) → (change e).extent ≡ e.extent) → SameExtents store (changed_at path change store)
changed-extents store path change keeps = by (finite.get store.objects path) refl
  where
    by : (o : Option Entry) → finite.get store.objects path ≡ o → SameExtents store (changed_by store path change o)
    by None is = λ q. refl
    by (Some e) is = insert-extents store.objects path e (change e) is (keeps e)

-- a store that came of such a change
pub moved-extents : (before after : Stored) (path : Path) (change : Entry → Entry) → after ≡ changed_at path change before → ((e : Entry) → (change e).extent ≡ e.extent) → SameExtents before after
moved-extents before after path change is keeps = subst (λ (x : Stored). SameExtents before x) (sym is) (changed-extents before path change keeps)

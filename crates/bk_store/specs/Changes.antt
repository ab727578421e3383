-- Changes of one object, objects that go, and objects that come.
use Rattle.std.specs.Prelude.{true, ℕ, not, List, Option, Some, None, ◌≡◌, ◌<◌, ◌≢◌}
use Rattle.std.specs.FinMap as finite
use Rattle.std.specs.FinSet as set
use Rattle.bk_object.specs.declared.Facts.{Facts}
use Rattle.bk_object.specs.declared.kind.Kind.{Kind}
use Rattle.bk_object.specs.declared.kind.Kind.TheVariants.{Line}
use Rattle.bk_object.specs.declared.modes.Modes.{Modes}
use Rattle.bk_object.specs.Rows.{given, rescinded}
use Rattle.bk_path.specs.Paths.{Path, is_same, is_inferior}
use Rattle.bk_state.specs.Contents.{new_contents}
use Rattle.bk_state.specs.State.{Object}
use Rattle.bk_store.specs.Entries.{Entry, Stored, objects_of, IsThere}
use Rattle.bk_store.specs.Holding.{without_held}

-- the object that is there, if one is, becomes another
abbrev pub changed_by : Stored → Path → (Entry → Entry) → Option Entry → Stored
changed_by v path change None = v
changed_by v path change (Some e) = record v { objects = finite.insert v.objects path (change e) }

-- the object at the path, if one is there, becomes another
abbrev pub changed_at : Path → (Entry → Entry) → Stored → Stored
changed_at path change v = changed_by v path change (finite.get v.objects path)

-- the row of an object becomes another
abbrev pub with_row : (List Modes → List Modes) → Entry → Entry
with_row change e = record e { facts = record e.facts { row = change e.facts.row } }

-- the object's row grants the subject these modes too
abbrev pub with_given : ℕ → Path → Modes → Stored → Stored
with_given subject path modes v = changed_at path (with_row (given subject modes)) v

-- the object's row no longer grants the subject these modes, and the subject no longer holds the object by them
abbrev pub with_rescinded : ℕ → Path → Modes → Stored → Stored
with_rescinded subject path modes v = changed_at path (with_row (rescinded subject modes)) (without_held subject path modes v)

-- ---- objects that go

-- the object at the path and its inferiors go, with all that any subject holds of them
abbrev pub without_group : Path → Stored → Stored
without_group path v = record v {
  objects = finite.retain_keys v.objects (λ other. not (is_inferior other path));
  access = set.retain v.access (λ t. not (is_inferior t.1 path));
}

-- the object at the path goes, with all that any subject holds of it
abbrev pub without_one : Path → Stored → Stored
without_one path v = record v {
  objects = finite.retain_keys v.objects (λ other. not (is_same other path));
  access = set.retain v.access (λ t. not (is_same t.1 path));
}

-- one object at or below the path was there, and is gone
pub record IsOneLess (old new : Stored) (of : Path) : Type 0 where
  pub path : Path
  pub inferior : is_inferior path of ≡ true
  pub was : IsThere old path
  pub gone : new ≡ without_one path old

-- ---- objects that come

-- a new object: its segment has words that are zero, and nothing waits in it
abbrev pub fresh : Facts → Object
fresh facts = record { facts = facts; contents = new_contents facts.kind facts.blocks }

-- if it is a line, its number is below the number of lines and no object's
abbrev pub IsFreeLine : Stored → Kind → Type 0
IsFreeLine v kind = (n : ℕ) → kind ≡ Line n → (n < v.lines) × ((path : Path) (e : Entry) → finite.get v.objects path ≡ Some e → e.facts.kind ≢ Line n)

-- a new object with these facts is at the path, and nothing else has changed
pub record IsCreated (old new : Stored) (words now : List ℕ) (path : Path) (facts : Facts) : Type 0 where
  pub objects : objects_of new now ≡ finite.insert (objects_of old words) path (fresh facts)
  pub access : new.access ≡ old.access
  pub levels : new.levels ≡ old.levels
  pub lines : new.lines ≡ old.lines

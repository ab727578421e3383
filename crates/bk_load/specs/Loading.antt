-- What a store has while the objects and the holds of an image are loaded into it, one after another.
use Rattle.std.specs.Prelude.{◌≡◌, ◌≢◌, ℕ, ◌<◌, ◌≤◌, List, [], length, take, flat_map, None}
use Rattle.std.specs.FinMap as map
use Rattle.std.specs.FinSet as set
use Rattle.bk_object.specs.Rows.{most_subjects}
use Rattle.bk_path.specs.Paths.{parent}
use Rattle.bk_state.specs.Start.{object_from, state_of, triples_from}
use Rattle.bk_state.specs.declared.image.Hold.{Hold}
use Rattle.bk_state.specs.declared.image.Image.{Image}
use Rattle.bk_state.specs.declared.image.ObjectRec.{ObjectRec}
use Rattle.bk_image.specs.Objects.{objects_in, room}
use Rattle.bk_store.specs.Stored.{Stored, level_number, objects_of, Fits, HasDirectory, IsFreeLine, IsThere}
use Rattle.bk_tree.specs.Kept.{IsFit}

-- the objects of the image's state with their contents, its current access set, its levels and its lines
pub record IsLoaded (image : Image) (v : Stored) (words : List ℕ) : Type 0 where
  pub objects : objects_of v words ≡ (state_of image).objects
  pub access : v.access ≡ (state_of image).access
  pub levels : v.levels ≡ image.levels
  pub lines : v.lines ≡ image.lines

-- the first n objects of the image are there with their contents, and nobody holds anything
pub record HasFront (image : Image) (n : ℕ) (v : Stored) (words : List ℕ) : Type 0 where
  pub objects : objects_of v words ≡ objects_in (take n image.objects)
  pub access : v.access ≡ set.empty
  pub levels : v.levels ≡ image.levels
  pub lines : v.lines ≡ image.lines

-- the object can be created, and its words fit into its blocks
pub record CanTake (v : Stored) (o : ObjectRec) : Type 0 where
  pub below_root : o.path ≢ []
  pub above : HasDirectory v (parent o.path)
  pub fit : IsFit o.facts (level_number v (parent o.path))
  pub level : o.facts.level < length v.levels
  pub line : IsFreeLine v o.facts.kind
  pub free : map.get v.objects o.path ≡ None
  pub charge : Fits v o.path o.facts
  pub words : length o.words ≤ room o.facts

-- the object is there too, with its words, and nothing else has changed
pub record HasOneMore (old new : Stored) (words now : List ℕ) (o : ObjectRec) : Type 0 where
  pub objects : objects_of new now ≡ map.insert (objects_of old words) o.path (object_from o)
  pub access : new.access ≡ old.access
  pub levels : new.levels ≡ old.levels
  pub lines : new.lines ≡ old.lines

-- the hold is of one of the subjects, and of an object that is there
pub record CanHold (v : Stored) (hold : Hold) : Type 0 where
  pub subject : hold.subject < most_subjects
  pub there : IsThere v hold.path

-- the subjects hold the objects by all these modes too
abbrev pub with_holds : List Hold → Stored → Stored
with_holds holds v = record v { access = set.union v.access (set.from_list (flat_map triples_from holds)) }

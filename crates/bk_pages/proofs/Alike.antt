-- A reference looks at the objects and the current access set of a state, and at nothing else of it.
use Rattle.std.proofs.Common.{◌≡◌, ℕ, List, [], Option, Some, None, refl, sym, ap, subst, ◌∙◌}
use Rattle.std.specs.Prelude.{slice_get}
use Rattle.std.specs.FinMap as finite
use Rattle.std.specs.FinSet as set
use Rattle.bk_space.specs.AddrSpace.{Write, page_number}
use Rattle.bk_object.specs.Modes.{Read, Execute, Write as Writing}
use Rattle.bk_path.specs.Paths.{Path}
use Rattle.bk_state.specs.State.{State, Object}
use Rattle.bk_state.specs.Contents.{with_contents}
use Rattle.bk_state.specs.RowCalls.{changed_by}
use Rattle.bk_store.specs.Stored.{Stored, objects_of}
use Rattle.bk_store.specs.Stands.{StandsFor}
use Rattle.bk_system.specs.Space.{is_data, page_by, page_shown, rights_by, space_of}
use Rattle.bk_system.specs.Turn.{stored_in, written, written_by}

module _ (a b : State) (objects : a.objects ≡ b.objects) (access : a.access ≡ b.access) where
  page-alike : (s window : ℕ) (o : Option (Option Path)) → page_shown a s window o ≡ page_shown b s window o
  page-alike s window None = refl
  page-alike s window (Some None) = refl
  page-alike s window (Some (Some path)) = λ i.
      page_by (rights_by (is_data window) (set.contains (access i) (s, path, Read)) (set.contains (access i) (s, path, Execute)) (set.contains (access i) (s, path, Writing)))
      (finite.get (objects i) path)

  pub space-alike : (s : ℕ) (windows : List (Option Path)) → space_of a s windows ≡ space_of b s windows
  unfolding space_of
  space-alike s windows = λ i window. page-alike s window (slice_get windows window) i

-- a write changes the objects alone
module _ (a b : State) (objects : a.objects ≡ b.objects) where
  changed-alike : (path : Path) (w : Write) (o : Option Object) → (changed_by a path (with_contents (stored_in w)) o).objects ≡ (changed_by b path (with_contents (stored_in w)) o).objects
  changed-alike path w None = objects
  changed-alike path w (Some o) = λ i. finite.insert (objects i) path (with_contents (stored_in w) o)

  by_window : (w : Write) (o : Option (Option Path)) → (written_by a w o).objects ≡ (written_by b w o).objects
  by_window w None = objects
  by_window w (Some None) = objects
  by_window w (Some (Some path)) = changed-alike path w (finite.get a.objects path) ∙ ap (λ o. (changed_by b path (with_contents (stored_in w)) o).objects) (ap (λ m. finite.get m path) objects)

  pub written-alike : (windows : List (Option Path)) (w : Write) → (written windows a w).objects ≡ (written windows b w).objects
  unfolding written
  written-alike windows w = by_window w (slice_get windows (page_number w.mode w.space w.addr))

-- all else of a state stays
module _ (v : State) where
  changed-only : (path : Path) (w : Write) (o : Option Object) → changed_by v path (with_contents (stored_in w)) o ≡ record v { objects = (changed_by v path (with_contents (stored_in w)) o).objects }
  changed-only path w None = refl
  changed-only path w (Some o) = refl

  only_by : (w : Write) (o : Option (Option Path)) → written_by v w o ≡ record v { objects = (written_by v w o).objects }
  only_by w None = refl
  only_by w (Some None) = refl
  only_by w (Some (Some path)) = changed-only path w (finite.get v.objects path)

  pub written-only : (windows : List (Option Path)) (w : Write) → written windows v w ≡ record v { objects = (written windows v w).objects }
  unfolding written
  written-only windows w = only_by w (slice_get windows (page_number w.mode w.space w.addr))

-- the state of a store's objects and accesses; no reference looks at the subjects, the lines, the schedule or the processes
abbrev pub state_in : Stored → List ℕ → State
state_in store words = record {
  fixed = record { levels = store.levels; subjects = []; lines = []; turns = 0; schedule = [] };
  current = [];
  objects = objects_of store words;
  access = store.access;
  processes = [];
}

-- where the objects after are those that the write leaves, store and core stand for the state after it
pub stands-written : (store : Stored) (words after : List ℕ) (windows : List (Option Path)) (v : State) (w : Write) → StandsFor store words v →
    objects_of store after ≡ (written windows (state_in store words) w).objects → StandsFor store after (written windows v w)
stands-written store words after windows v w stands objects = subst (StandsFor store after) (sym (written-only v windows w)) (record {
  levels = stands.levels;
  lines = stands.lines;
  objects = objects ∙ written-alike (state_in store words) v stands.objects windows w;
  access = stands.access;
})

-- Where the same lies under a level in two states, it still does after the same change of current access, of a process or of
-- the current level of a subject under it in both.
use Rattle.std.proofs.Common.{◌≡◌, ℕ, ◌<◌, Bool, true, false, ◌&&◌, ◌||◌, length, refl, sym, ap, ◌∙◌, ◌==◌, arith, nat_lt, map as list_map}
use Rattle.std.proofs.lemmas.Bool.Decides.{nat_tests}
use Rattle.std.proofs.lemmas.Option.{slice_get-map}
use Rattle.std.specs.Prelude.{option_map, slice_index, slice_set, if◌then◌else◌}
use Rattle.std.specs.Ordering.{eq_by_cmp}
use Rattle.std.specs.FinSet as set
use Rattle.bk_level.specs.Levels.{Level, dominates, level_at}
use Rattle.bk_path.specs.Paths.{Path}
use Rattle.bk_object.specs.Modes.{AccessMode}
use Rattle.bk_process.specs.declared.process.Process.{Process}
use Rattle.bk_state.specs.State.{State, Triple, triple_cmp}
use Rattle.bk_state.specs.AccessCalls.{with_triple}
use Rattle.bk_state.specs.Low.{is_subject_under}
use Rattle.bk_system.specs.Event.{with_resumed}
use Rattle.bk_laws.proofs.Changes.{holds-with_triple, holds-retain, slice_get-set, index-set_same, index-set_other}
use Rattle.bk_laws.proofs.Alike.{Alike, fixed_to}

module _ (level : Level) (v w : State) (alike : Alike level v (fixed_to v.fixed w)) where
  -- a subject holds an object by one mode more
  pub alike-with_triple : (s : ℕ) (path : Path) (mode : AccessMode) → Alike level (with_triple v s path mode) (with_triple (fixed_to v.fixed w) s path mode)
  alike-with_triple s path mode = record {
    subjects = alike.subjects;
    current = alike.current;
    process = alike.process;
    holds_same =
        λ j other x h. holds-with_triple v s path mode j other x ∙ ap (λ b. eq_by_cmp triple_cmp (j, other, x) (s, path, mode) || b) (alike.holds_same j other x h)
        ∙ sym (holds-with_triple (fixed_to v.fixed w) s path mode j other x);
    shows_same = alike.shows_same;
    facts = alike.facts;
    contents = alike.contents;
  }

  -- what is held no longer is, where it is not kept
  pub alike-retain : (keep : Triple → Bool) → Alike level (record v { access = set.retain v.access keep }) (record w { fixed = v.fixed; access = set.retain w.access keep })
  alike-retain keep = record {
    subjects = alike.subjects;
    current = alike.current;
    process = alike.process;
    holds_same = λ j other x h. holds-retain v keep j other x ∙ ap (λ b. b && keep (j, other, x)) (alike.holds_same j other x h) ∙ sym (holds-retain (fixed_to v.fixed w) keep j other x);
    shows_same = alike.shows_same;
    facts = alike.facts;
    contents = alike.contents;
  }

  -- a process that lies under the level becomes another
  pub alike-with_process : (s : ℕ) (p : Process) → Alike level (record v { processes = slice_set v.processes s p }) (record w { fixed = v.fixed; processes = slice_set w.processes s p })
  alike-with_process s p = record {
    subjects = alike.subjects;
    current = alike.current;
    process = λ j h. slice_get-set v.processes s p j ∙ ap (λ o. if j == s then option_map (λ _. p) o else o) (alike.process j h) ∙ sym (slice_get-set w.processes s p j);
    holds_same = alike.holds_same;
    shows_same = alike.shows_same;
    facts = alike.facts;
    contents = alike.contents;
  }

  -- each paused process runs again
  pub alike-resumed : Alike level (record v { processes = list_map with_resumed v.processes }) (record w { fixed = v.fixed; processes = list_map with_resumed w.processes })
  alike-resumed = record {
    subjects = alike.subjects;
    current = alike.current;
    process = λ j h. slice_get-map with_resumed v.processes j ∙ ap (option_map with_resumed) (alike.process j h) ∙ sym (slice_get-map with_resumed w.processes j);
    holds_same = alike.holds_same;
    shows_same = alike.shows_same;
    facts = alike.facts;
    contents = alike.contents;
  }

  -- the level of a subject under the level becomes another, the same in both
  module _ (s n : ℕ) (seen : is_subject_under level v s ≡ true) (in_v : s < length v.current) (in_w : s < length w.current) where
    abbrev under : (j k : ℕ) → Bool
    under j k = nat_lt j (length v.fixed.subjects) && dominates level (level_at v.fixed.levels k)

    -- who is under the level after was before
    before : (j : ℕ) → (b : Bool) → (j == s) ≡ b → under j (slice_index (slice_set v.current s n) j) ≡ true → is_subject_under level v j ≡ true
    before j true is h = let at : j ≡ s = grind (arith, nat_tests, is) in ap (is_subject_under level v) at ∙ seen
    before j false is h = sym (ap (under j) (index-set_other v.current s n j is)) ∙ h

    subjects : (j : ℕ) (b : Bool) → (j == s) ≡ b → under j (slice_index (slice_set v.current s n) j) ≡ under j (slice_index (slice_set w.current s n) j)
    subjects j true is = ap (under j) (index-set_same v.current s n j in_v is ∙ sym (index-set_same w.current s n j in_w is))
    subjects j false is = ap (under j) (index-set_other v.current s n j is) ∙ alike.subjects j ∙ sym (ap (under j) (index-set_other w.current s n j is))

    current : (j : ℕ) (b : Bool) → (j == s) ≡ b → is_subject_under level v j ≡ true → slice_index (slice_set v.current s n) j ≡ slice_index (slice_set w.current s n) j
    current j true is h = index-set_same v.current s n j in_v is ∙ sym (index-set_same w.current s n j in_w is)
    current j false is h = index-set_other v.current s n j is ∙ alike.current j h ∙ sym (index-set_other w.current s n j is)

    pub alike-with_current : Alike level (record v { current = slice_set v.current s n }) (record w { fixed = v.fixed; current = slice_set w.current s n })
    alike-with_current = record {
      subjects = λ j. subjects j (j == s) refl;
      current = λ j h. current j (j == s) refl (before j (j == s) refl h);
      process = λ j h. alike.process j (before j (j == s) refl h);
      holds_same = λ j other x h. alike.holds_same j other x (before j (j == s) refl h);
      shows_same = alike.shows_same;
      facts = alike.facts;
      contents = alike.contents;
    }

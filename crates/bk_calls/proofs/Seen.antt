-- What a call sees of a store: its facts, what is held and named, and the levels of the caller.
use Rattle.std.proofs.Common.{◌≡◌, ℕ, ◌<◌, Bool, true, false, ◌&&◌, ◌||◌, ◌==◌, not, List, [], ◌∷◌, length, Option, Some, None, refl, sym, ap, ◌∙◌, replicate}
use Rattle.std.specs.Prelude.{◌+◌, nat_le, option_map}
use Rattle.std.specs.FinMap as finite
use Rattle.std.specs.FinSet as set
use Rattle.std.specs.List.{list_all, list_any}
use Rattle.std.proofs.lemmas.List.{get_or-replicate, length-replicate}
use Rattle.bk_level.specs.Levels.{level_at}
use Rattle.bk_object.specs.Kinds.{is_directory}
use Rattle.bk_object.specs.Modes.{Read, Write}
use Rattle.bk_path.specs.Paths.{Path, is_root, parent}
use Rattle.bk_quota.specs.Charges.{passes, charge_of}
use Rattle.bk_quota.specs.Usage.{Usage}
use Rattle.bk_state.specs.Allowed.{is_star_of_putting, may_rise}
use Rattle.bk_state.specs.Named.{is_named}
use Rattle.bk_state.specs.State.{State, Object, find, facts_at, clearance_of}
use Rattle.bk_state.specs.Request.{Request, new_facts}
use Rattle.bk_state.specs.KernelCall.{has_room}
use Rattle.bk_state.specs.Quota.{level_number}
use Rattle.bk_store.specs.Stored.{Entry, Stored, HasDirectory, object_of, facts_in, holds, cell_of, level_number as level_in_store, may_rise as may_rise_in_store}
use Rattle.bk_store.specs.Stands.{StandsFor}
use Rattle.bk_store.proofs.Stands.{get-objects_of, stands-cell, stands-level}
use Rattle.bk_calls.specs.declared.caller.Caller.{Caller}
use Rattle.bk_calls.specs.Made.{seen_by}

-- the facts of an object stay, whatever the words of core are
facts-object : (words : List ℕ) (o : Option Entry) → option_map (λ (x : Object). x.facts) (option_map (object_of words) o) ≡ option_map (λ (e : Entry). e.facts) o
facts-object words None = refl
facts-object words (Some e) = refl

module _ (caller : Caller) (store : Stored) (words : List ℕ) where
  pub found-seen : (path : Path) → find (seen_by caller store words) path ≡ option_map (object_of words) (finite.get store.objects path)
  found-seen path = get-objects_of store words path

  pub facts-seen : (path : Path) → facts_at (seen_by caller store words) path ≡ facts_in store path
  facts-seen path = ap (option_map (λ (x : Object). x.facts)) (found-seen path) ∙ facts-object words (finite.get store.objects path)

  pub subjects-seen : length (seen_by caller store words).fixed.subjects ≡ caller.subjects
  subjects-seen = length-replicate caller.subjects caller.f_s

  -- each subject's levels stand as the caller's
  pub clearance-seen : (s : ℕ) → s < caller.subjects → clearance_of (seen_by caller store words) s ≡ record { greatest = caller.f_s; current = caller.f_c }
  clearance-seen s below = λ i. record { greatest = get_or-replicate caller.subjects s caller.f_s 0 below i; current = get_or-replicate caller.subjects s caller.f_c 0 below i }

  -- and what a subject holds lets it rise where the store says so
  pub rises-seen : (s level : ℕ) → may_rise (seen_by caller store words) s level ≡ may_rise_in_store store s level
  rises-seen s level = λ i. list_all
      (λ t. not (t.0 == s) || passes (λ facts. is_star_of_putting t.2 (level_at store.levels level) (level_at store.levels facts.level)) (facts-seen t.1 i))
      (set.items store.access)

  -- who may name what is a child of another
  pub named-child : (s : ℕ) (path above : Path) → (path ≡ [] → ⊥) → above ≡ parent path →
      (directory either : Bool) → directory ≡ passes (λ facts. is_directory facts.kind) (facts_in store above) → either ≡ list_any (holds store s above) (Read ∷ Write ∷ []) →
      (directory && either) ≡ is_named (seen_by caller store words) s path
  named-child s [] above below is directory either directory_is either_is = absurd (below refl)
  named-child s (entry ∷ path) above below is directory either directory_is either_is = λ i.
      (directory_is ∙ ap (λ p. passes (λ facts. is_directory facts.kind) (facts_in store p)) is ∙ ap (passes (λ facts. is_directory facts.kind)) (sym (facts-seen path))) i
      && (either_is ∙ ap (λ p. list_any (holds store s p) (Read ∷ Write ∷ [])) is ∙ last (holds store s path Read) (holds store s path Write)) i
    where
      last : (a b : Bool) → (a || (b || false)) ≡ (a || b)
      last true b = refl
      last false true = refl
      last false false = refl

  -- a directory in the store
  pub directory-test : (path : Path) → passes (λ facts. is_directory facts.kind) (facts_in store path) ≡ passes (λ (e : Entry). is_directory e.facts.kind) (finite.get store.objects path)
  directory-test path = by (finite.get store.objects path)
    where
      by : (o : Option Entry) → passes (λ facts. is_directory facts.kind) (option_map (λ (e : Entry). e.facts) o) ≡ passes (λ (e : Entry). is_directory e.facts.kind) o
      by None = refl
      by (Some e) = refl

  -- what is named, and isn't root, is below a directory
  pub named-below : (s : ℕ) (path : Path) → is_named (seen_by caller store words) s path ≡ true → is_root path ≡ false → HasDirectory store (parent path)
  named-below s [] named below = cc
  named-below s (entry ∷ path) named below = sym (directory-test path) ∙ sym (ap (passes (λ facts. is_directory facts.kind)) (facts-seen path)) ∙ first_of _ _ named
    where
      first_of : (a b : Bool) → (a && b) ≡ true → a ≡ true
      first_of true b e = refl
      first_of false b e = cc

-- the seen state with as many lines as the store has, for which the store stands
abbrev pub with_lines : Stored → State → State
with_lines store v = record v { fixed = record v.fixed { lines = replicate store.lines 0 } }

pub stands-seen : (caller : Caller) (store : Stored) (words : List ℕ) → StandsFor store words (with_lines store (seen_by caller store words))
stands-seen caller store words = record {
  levels = refl;
  lines = sym (length-replicate store.lines 0);
  objects = refl;
  access = refl;
}

-- the charge of a new object fits in the state as it does by the cell that governs the parent
pub room-seen : (caller : Caller) (store : Stored) (words : List ℕ) (request : Request) (above : Path) (cell : Usage) (number charge : ℕ) →
    parent request.path ≡ above → cell ≡ cell_of store above → number ≡ level_in_store store above → charge ≡ charge_of (new_facts request number) number →
    nat_le (cell.used + charge) cell.limit ≡ has_room (seen_by caller store words) request
room-seen caller store words request above cell number charge parent_is cell_is number_is charge_is =
    let stands = stands-seen caller store words in
    let level : number ≡ level_number (seen_by caller store words) (parent request.path) = number_is ∙ ap (level_in_store store) (sym parent_is) ∙ stands-level store words (with_lines store (seen_by caller store words)) stands (parent request.path) in
    let usage = cell_is ∙ ap (cell_of store) (sym parent_is) ∙ stands-cell store words (with_lines store (seen_by caller store words)) stands (parent request.path) in
    λ i. nat_le ((usage i).used + (charge_is ∙ ap (λ n. charge_of (new_facts request n) n) level) i) (usage i).limit

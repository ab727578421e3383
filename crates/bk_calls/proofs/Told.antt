-- What a directory tells of a child and of its cell, as the state that a call sees.
use Rattle.std.proofs.Common.{◌≡◌, ℕ, true, List, ◌∷◌, length, replicate, Option, Some, None, refl, sym, ap, ◌∙◌}
use Rattle.std.specs.Prelude.{is_none, nat_lt, option_map, if◌then◌else◌}
use Rattle.std.proofs.lemmas.List.{length-replicate}
use Rattle.std.proofs.lemmas.Option.{same_Some}
use Rattle.bk_path.specs.Paths.{Path}
use Rattle.bk_object.specs.declared.Facts.{Facts}
use Rattle.bk_quota.specs.Usage.{Usage}
use Rattle.bk_state.specs.Quota.{governing, quota_at, used}
use Rattle.bk_state.specs.State.{State}
use Rattle.bk_state.specs.TellingCalls.{child_at}
use Rattle.bk_store.specs.Stands.{StandsFor}
use Rattle.bk_store.specs.Stored.{Stored, cell_of, facts_in}
use Rattle.bk_store.proofs.Stands.{stands-cell}
use Rattle.bk_calls.specs.declared.caller.Caller.{Caller}
use Rattle.bk_calls.specs.declared.reach.Reached.{Reached}
use Rattle.bk_calls.specs.Made.{seen_by}
use Rattle.bk_calls.proofs.Seen.{facts-seen}

module _ (caller : Caller) (store : Stored) (words : List ℕ) where
  abbrev seen : State
  seen = seen_by caller store words

  -- the child that a call sees is that of the store
  child-seen : (path : Path) (entry : ℕ) → child_at seen path entry ≡ (if nat_lt (length path) 7 then facts_in store (entry ∷ path) else None)
  child-seen path entry = ap (λ o. if nat_lt (length path) 7 then o else None) (facts-seen caller store words (entry ∷ path))

  abbrev pub child_of : (path : Path) (entry : ℕ) → Facts → Reached
  child_of path entry facts = record { path = entry ∷ path; facts = facts }

  pub no_child : (asked path : Path) (entry : ℕ) (r : Option Reached) → asked ≡ path → r ≡ option_map (child_of path entry) (if nat_lt (length path) 7 then facts_in store (entry ∷ path) else None) → r ≡ None →
      is_none (child_at seen asked entry) ≡ true
  no_child asked path entry r same is none = ap (λ p. is_none (child_at seen p entry)) same ∙ ap is_none (child-seen path entry) ∙ by (if nat_lt (length path) 7 then facts_in store (entry ∷ path) else None) (sym is ∙ none)
    where
      by : (o : Option Facts) → option_map (child_of path entry) o ≡ None → is_none o ≡ true
      by None e = refl
      by (Some facts) e = cc

  pub one_child : (asked path : Path) (entry : ℕ) (r : Option Reached) (child : Reached) → asked ≡ path →
      r ≡ option_map (child_of path entry) (if nat_lt (length path) 7 then facts_in store (entry ∷ path) else None) → r ≡ Some child →
      child_at seen asked entry ≡ Some child.facts
  one_child asked path entry r child same is some = ap (λ p. child_at seen p entry) same ∙ child-seen path entry ∙ by (if nat_lt (length path) 7 then facts_in store (entry ∷ path) else None) (sym is ∙ some)
    where
      by : (o : Option Facts) → option_map (child_of path entry) o ≡ Some child → o ≡ Some child.facts
      by None e = cc
      by (Some f) e = ap (λ (x : Reached). Some x.facts) (same_Some (child_of path entry f) child e)

  pub its_path : (path : Path) (entry : ℕ) (r : Option Reached) (child : Reached) → r ≡ option_map (child_of path entry) (if nat_lt (length path) 7 then facts_in store (entry ∷ path) else None) → r ≡ Some child →
      child.path ≡ entry ∷ path
  its_path path entry r child is some = by (if nat_lt (length path) 7 then facts_in store (entry ∷ path) else None) (sym is ∙ some)
    where
      by : (o : Option Facts) → option_map (child_of path entry) o ≡ Some child → child.path ≡ entry ∷ path
      by None e = cc
      by (Some f) e = sym (ap (λ (x : Reached). x.path) (same_Some (child_of path entry f) child e))

  -- the cell that governs the directory is that of the state
  pub cell-seen : (asked path : Path) (cell : Usage) → asked ≡ path → cell ≡ cell_of store path → cell ≡ record { limit = quota_at seen (governing seen asked); used = used seen (governing seen asked) }
  cell-seen asked path cell same is =
      let lines : State = record seen { fixed = record seen.fixed { lines = replicate store.lines 0 } } in
      let stands : StandsFor store words lines = record { levels = refl; lines = sym (length-replicate store.lines 0); objects = refl; access = refl } in
      is ∙ ap (cell_of store) (sym same) ∙ stands-cell store words lines stands asked

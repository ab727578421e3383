-- The words of a segment, as the state that a call sees.
use Rattle.std.proofs.Common.{◌≡◌, ℕ, ◌*◌, Bool, List, Option, Some, None, refl, sym, ap, ◌∙◌}
use Rattle.std.specs.Prelude.{not, nat_lt}
use Rattle.bk_path.specs.Paths.{Path}
use Rattle.bk_object.specs.declared.Facts.{Facts}
use Rattle.bk_quota.specs.Charges.{passes}
use Rattle.bk_state.specs.State.{Object, facts_at, find}
use Rattle.bk_state.specs.Contents.{with_contents, with_word}
use Rattle.bk_state.specs.RowCalls.{changed_at, changed_by}
use Rattle.bk_store.specs.Stored.{Stored, facts_in, objects_of, word_written, word_written_by}
use Rattle.bk_calls.specs.declared.caller.Caller.{Caller}
use Rattle.bk_calls.specs.Made.{seen_by}
use Rattle.bk_calls.proofs.Seen.{facts-seen}
use Rattle.bk_calls.proofs.Served.{Moved, changed-access}

module _ (caller : Caller) (store : Stored) (words : List ℕ) where
  written-object : (path : Path) (place word : ℕ) → word_written path place word (objects_of store words) ≡ (changed_at (seen_by caller store words) path (with_contents (with_word place word))).objects
  written-object path place word = by (find (seen_by caller store words) path)
    where
      by : (o : Option Object) → word_written_by (objects_of store words) path place word o ≡ (changed_by (seen_by caller store words) path (with_contents (with_word place word)) o).objects
      by None = refl
      by (Some o) = refl

  -- the word written is that of the state
  pub deposit-moved : (words_after : List ℕ) (asked path : Path) → asked ≡ path → (place word : ℕ) → objects_of store words_after ≡ word_written path place word (objects_of store words) →
      Moved store store words words_after (changed_at (seen_by caller store words) asked (with_contents (with_word place word)))
  deposit-moved words_after asked path same place word is = record {
    objects = is ∙ written-object path place word ∙ ap (λ p. (changed_at (seen_by caller store words) p (with_contents (with_word place word))).objects) (sym same);
    access = sym (changed-access caller store words asked (with_contents (with_word place word)));
    levels = refl;
    lines = refl;
  }

  -- the length that a call sees is that of the facts
  pub length-seen : (asked path : Path) (facts : Facts) (offset : ℕ) (b : Bool) → asked ≡ path → facts_in store path ≡ Some facts → nat_lt offset (64 * facts.blocks) ≡ b →
      not (passes (λ (f : Facts). nat_lt offset (64 * f.blocks)) (facts_at (seen_by caller store words) asked)) ≡ not b
  length-seen asked path facts offset b same has is =
      ap (λ p. not (passes (λ (f : Facts). nat_lt offset (64 * f.blocks)) (facts_at (seen_by caller store words) p))) same
      ∙ ap (λ o. not (passes (λ (f : Facts). nat_lt offset (64 * f.blocks)) o)) (facts-seen caller store words path ∙ has)
      ∙ ap not is

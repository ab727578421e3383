-- A subject that is not under a level and raises its own stays one that is not under it, so that the level sees nothing of that.
use Rattle.std.proofs.Common.{◌≡◌, ℕ, Bool, true, false, ◌&&◌, length, Option, Some, None, refl, sym, ap, ◌∙◌, nat_lt, true≢false, unwrap_or, ◌⊎◌, inl, inr}
use Rattle.std.specs.Prelude.{slice_index, slice_set}
use Rattle.bk_level.specs.Levels.{Level, dominates, level_at}
use Rattle.bk_level.proofs.LevelOrder.{and_first, and_second, and_both, dominates-trans}
use Rattle.bk_state.specs.State.{State, current_level, with_raised}
use Rattle.bk_state.specs.Low.{is_subject_under, low}
use Rattle.bk_laws.proofs.Changes.{with_changes, index-set, set_itself}
use Rattle.bk_laws.proofs.Tests.{false_if}
use Rattle.bk_laws.proofs.Alike.{Alike, low_from_alike}

module _ (level : Level) (v : State) (s : ℕ) (blind : is_subject_under level v s ≡ false) where
  module _ (n : ℕ) (above : dominates (level_at v.fixed.levels n) (current_level v s) ≡ true) where
    abbrev under : (j k : ℕ) → Bool
    under j k = nat_lt j (length v.fixed.subjects) && dominates level (level_at v.fixed.levels k)

    -- what dominates the new level dominates the old one
    still_high : under s n ≡ false
    still_high = false_if (under s n) (λ h. true≢false (sym (and_both (nat_lt s (length v.fixed.subjects)) (dominates level (current_level v s)) (and_first (nat_lt s (length v.fixed.subjects)) _ h)
        (dominates-trans level (level_at v.fixed.levels n) (current_level v s) (and_second (nat_lt s (length v.fixed.subjects)) _ h) above)) ∙ blind))

    -- the number of a subject's level after the raise is what it was, or the new one
    abbrev After : (j : ℕ) → Type 0
    After j = (slice_index (slice_set v.current s n) j ≡ slice_index v.current j) ⊎ ((j ≡ s) × (slice_index (slice_set v.current s n) j ≡ n))

    subjects : (j : ℕ) → After j → is_subject_under level v j ≡ under j (slice_index (slice_set v.current s n) j)
    subjects j (inl e) = ap (under j) (sym e)
    subjects j (inr (at, e)) = ap (is_subject_under level v) at ∙ blind ∙ sym (ap (under j) e ∙ ap (λ k. under k n) at ∙ still_high)

    current : (j : ℕ) → is_subject_under level v j ≡ true → After j → slice_index v.current j ≡ slice_index (slice_set v.current s n) j
    current j h (inl e) = sym e
    current j h (inr (at, e)) = absurd (true≢false (sym h ∙ ap (is_subject_under level v) at ∙ blind))

    alike_raised : Alike level v (record v { current = slice_set v.current s n })
    alike_raised = record {
      subjects = λ j. subjects j (index-set v.current s n j);
      current = λ j h. current j h (index-set v.current s n j);
      process = λ j h. refl;
      holds_same = λ j path mode h. refl;
      shows_same = λ path. refl;
      facts = λ path h. refl;
      contents = λ path. refl;
    }

  -- the level of the subject stays, or is raised
  raised_low : (number : Option ℕ) → ((n : ℕ) → number ≡ Some n → dominates (level_at v.fixed.levels n) (current_level v s) ≡ true) →
      low level v ≡ low level (record v { current = slice_set v.current s (unwrap_or number (slice_index v.current s)) })
  raised_low None above = ap (λ current. low level (record v { current = current })) (sym (set_itself v.current s))
  raised_low (Some n) above = low_from_alike level v _ _ _ _ (alike_raised n (above n refl))

-- what a level doesn't see of a change, it doesn't see with a raise besides
pub unseen_raised : (level : Level) (v w : State) (s : ℕ) → is_subject_under level v s ≡ false → (number : Option ℕ) →
    ((n : ℕ) → number ≡ Some n → dominates (level_at v.fixed.levels n) (current_level v s) ≡ true) → low level v ≡ low level (with_changes v w) →
    low level v ≡ low level (record (with_changes v (with_raised s number w)) { current = slice_set v.current s (unwrap_or number (slice_index v.current s)) })
unseen_raised level v w s blind None above same = same ∙ raised_low level (with_changes v w) s blind None above
unseen_raised level v w s blind (Some n) above same = same ∙ raised_low level (with_changes v w) s blind (Some n) above

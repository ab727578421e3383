-- A subject that raises its current level keeps a secure state secure: what it reads and executes lies below the new level as it
-- lay below the old one, and of what it writes and appends to the call itself asks.
use Rattle.std.proofs.Common.{◌≡◌, ℕ, Bool, true, false, ◌&&◌, ◌∷◌, length, Some, sym, ap, ◌∙◌, arith}
use Rattle.std.proofs.Common.{nat_lt, nat_le, length-set, ◌⊎◌, inl, inr}
use Rattle.std.proofs.lemmas.Bool.Decides.{nat_tests}
use Rattle.std.specs.Prelude.{slice_index, slice_set}
use Rattle.bk_level.specs.Levels.{Level, dominates, level_at}
use Rattle.bk_level.proofs.LevelOrder.{and_first, and_second, and_both, dominates-trans}
use Rattle.bk_path.specs.Paths.{Path}
use Rattle.bk_object.specs.Modes.{AccessMode, Read, Execute, Write, Append, has}
use Rattle.bk_object.specs.Rows.{in_row}
use Rattle.bk_object.specs.declared.Facts.{Facts}
use Rattle.bk_quota.specs.Charges.{passes}
use Rattle.bk_state.specs.Secure.{Secure}
use Rattle.bk_state.specs.State.{State, facts_at, holds, current_level, greatest_level, level_of, with_raised}
use Rattle.bk_state.specs.Allowed.{allows, is_star_of_putting, may_rise}
use Rattle.bk_state.proofs.Holding.{each_of_own, all_of_own}
use Rattle.bk_laws.proofs.Changes.{index-set}
use Rattle.bk_laws.proofs.Tests.{passes_both, passes_more}
use Rattle.bk_laws.proofs.SecureProcesses.{all_set}

-- what is held by the subject may be held so at the level with that number, as far as something is put into it
abbrev pub may_put : State → (n : ℕ) → AccessMode → Facts → Bool
may_put v n mode facts = is_star_of_putting mode (level_at v.fixed.levels n) (level_of v facts)

-- a subject that may rise may hold at the new level all that it holds
pub held_may_rise : (v : State) (s n : ℕ) → may_rise v s n ≡ true → (path : Path) (mode : AccessMode) → holds v s path mode ≡ true → passes (may_put v n mode) (facts_at v path) ≡ true
held_may_rise v s n rises path mode held = each_of_own v.access s (λ q x. passes (may_put v n x) (facts_at v q)) rises path mode held

-- and the other way round
pub may_rise-from : (v : State) (s n : ℕ) → ((path : Path) (mode : AccessMode) → holds v s path mode ≡ true → passes (may_put v n mode) (facts_at v path) ≡ true) → may_rise v s n ≡ true
may_rise-from v s n each = all_of_own v.access s (λ q x. passes (may_put v n x) (facts_at v q)) each

-- ---- the state after a raise

-- what may be held at a level may be held at one that dominates it, where something is put into it only if that may be
allows_above : (mode : AccessMode) (greatest current new object : Level) → dominates new current ≡ true →
    allows mode greatest current object ≡ true → is_star_of_putting mode new object ≡ true → allows mode greatest new object ≡ true
allows_above Read greatest current new object above h putting =
    and_both _ _ (and_first (dominates greatest object) _ h) (dominates-trans new current object above (and_second (dominates greatest object) _ h))
allows_above Execute greatest current new object above h putting =
    and_both _ _ (and_first (dominates greatest object) _ h) (dominates-trans new current object above (and_second (dominates greatest object) _ h))
allows_above Write greatest current new object above h putting = and_both _ _ (and_first (dominates greatest object) _ h) putting
allows_above Append greatest current new object above h putting = putting

below : (n m : ℕ) → nat_le m n ≡ false → nat_lt n m ≡ true
below n m few = grind (arith, nat_tests, few)

module _ (v : State) (s n : ℕ) (sec : Secure v) (listed : nat_le (length v.fixed.levels) n ≡ false) (under : dominates (greatest_level v s) (level_at v.fixed.levels n) ≡ true)
    (above : dominates (level_at v.fixed.levels n) (current_level v s) ≡ true) (star : may_rise v s n ≡ true) where
  abbrev new : Level
  new = level_at v.fixed.levels n

  -- the number of a subject's level after the raise is what it was, or the new one
  abbrev After : (j : ℕ) → Type 0
  After j = (slice_index (slice_set v.current s n) j ≡ slice_index v.current j) ⊎ ((j ≡ s) × (slice_index (slice_set v.current s n) j ≡ n))

  own_above : (j : ℕ) → j ≡ s → dominates new (current_level v j) ≡ true
  own_above j at = ap (λ k. dominates new (current_level v k)) at ∙ above

  clearance : (j : ℕ) → dominates (greatest_level v j) (current_level v j) ≡ true → After j →
      dominates (greatest_level v j) (level_at v.fixed.levels (slice_index (slice_set v.current s n) j)) ≡ true
  clearance j old (inl e) = ap (λ k. dominates (greatest_level v j) (level_at v.fixed.levels k)) e ∙ old
  clearance j old (inr (at, e)) = ap (λ k. dominates (greatest_level v j) (level_at v.fixed.levels k)) e ∙ ap (λ i. dominates (greatest_level v i) new) at ∙ under

  abbrev may_hold_at : (j k : ℕ) → AccessMode → Facts → Bool
  may_hold_at j k mode facts = has (in_row facts.row j) mode && allows mode (greatest_level v j) (level_at v.fixed.levels k) (level_of v facts)

  access : (j : ℕ) (path : Path) (mode : AccessMode) → holds v j path mode ≡ true → After j →
      passes (may_hold_at j (slice_index (slice_set v.current s n) j) mode) (facts_at v path) ≡ true
  access j path mode held (inl e) = ap (λ k. passes (may_hold_at j k mode) (facts_at v path)) e ∙ sec.access j path mode held
  access j path mode held (inr (at, e)) =
      ap (λ k. passes (may_hold_at j k mode) (facts_at v path)) e
      ∙ passes_more (λ facts. may_hold_at j (slice_index v.current j) mode facts && may_put v n mode facts) (may_hold_at j n mode) (facts_at v path)
      (λ facts is h.
      let old = and_first (may_hold_at j (slice_index v.current j) mode facts) (may_put v n mode facts) h in
      and_both _ _ (and_first (has (in_row facts.row j) mode) _ old)
      (allows_above mode (greatest_level v j) (current_level v j) new (level_of v facts) (own_above j at) (and_second (has (in_row facts.row j) mode) _ old)
      (and_second (may_hold_at j (slice_index v.current j) mode facts) _ h)))
      (passes_both _ _ (facts_at v path) (sec.access j path mode held) (held_may_rise v s n star path mode (ap (λ k. holds v k path mode) (sym at) ∙ held)))

  naming : (j entry : ℕ) (path : Path) (mode : AccessMode) → holds v j (entry ∷ path) mode ≡ true → After j →
      passes (λ facts. dominates (level_at v.fixed.levels (slice_index (slice_set v.current s n) j)) (level_of v facts)) (facts_at v path) ≡ true
  naming j entry path mode held (inl e) =
      ap (λ k. passes (λ facts. dominates (level_at v.fixed.levels k) (level_of v facts)) (facts_at v path)) e ∙ sec.naming j entry path mode held
  naming j entry path mode held (inr (at, e)) =
      ap (λ k. passes (λ facts. dominates (level_at v.fixed.levels k) (level_of v facts)) (facts_at v path)) e
      ∙ passes_more (λ facts. dominates (current_level v j) (level_of v facts)) (λ facts. dominates new (level_of v facts)) (facts_at v path)
      (λ facts is h. dominates-trans new (current_level v j) (level_of v facts) (own_above j at) h) (sec.naming j entry path mode held)

  -- all items of security hold at the new level
  pub secure_raised : Secure (with_raised s (Some n) v)
  secure_raised = record {
    processes = sec.processes;
    shape = record {
      current = length-set v.current s n ∙ sec.shape.current;
      listed = all_set (λ level. nat_lt level (length v.fixed.levels)) v.current s n sec.shape.listed (below n (length v.fixed.levels) listed);
      rows = sec.shape.rows;
      processes = sec.shape.processes;
    };
    distinct = sec.distinct;
    root = sec.root;
    parents = sec.parents;
    clearances = λ j real. clearance j (sec.clearances j real) (index-set v.current s n j);
    levels = sec.levels;
    kinds = sec.kinds;
    lines = sec.lines;
    limits = sec.limits;
    no_limits = sec.no_limits;
    quotas = sec.quotas;
    rows = sec.rows;
    access = λ j path mode held. access j path mode held (index-set v.current s n j);
    naming = λ j entry path mode held. naming j entry path mode held (index-set v.current s n j);
    entries = sec.entries;
  }

-- Create keeps a secure state secure.
use Rattle.std.proofs.Common.{◌≡◌, ℕ, zero, suc, ◌+◌, ◌≤◌, ◌<◌, ◌/◌, ◌%◌, true, false, ◌||◌, not, List, [], ◌∷◌, length, Option, Some, None, refl, ap}
use Rattle.std.proofs.Common.{subst, sym, ◌==◌, arith, nat_le, is_some}
use Rattle.std.proofs.lemmas.Bool.Decides.{nat_tests}
use Rattle.std.proofs.lemmas.List.{length-replicate}
use Rattle.std.specs.Prelude.{slice_index, if◌then◌else◌}
use Rattle.std.specs.FinMap as map
use Rattle.bk_level.specs.Levels.{dominates, level_at}
use Rattle.bk_level.proofs.LevelOrder.{and_first}
use Rattle.bk_path.specs.Paths.{Path, is_root, parent}
use Rattle.bk_object.specs.Limits.{most_blocks, largest_quota}
use Rattle.bk_object.specs.Rows.{most_subjects}
use Rattle.bk_object.specs.Modes.{has, no_modes}
use Rattle.bk_laws.proofs.Changes.{with_objects}
use Rattle.bk_object.specs.Kinds.{is_directory}
use Rattle.bk_object.specs.declared.Kind.TheVariants.{Line}
use Rattle.bk_object.specs.declared.Facts.{Facts}
use Rattle.bk_quota.specs.Charges.{passes, charge_of}
use Rattle.bk_state.specs.State.{State, Fixed, facts_at, level_of}
use Rattle.bk_state.specs.Quota.{governing, level_number, quota_at, used}
use Rattle.bk_state.specs.Secure.{Secure, FitsKind}
use Rattle.bk_state.specs.Request.{Request, new_facts, request_in, path_in, kind_from, is_outside}
use Rattle.bk_state.specs.Contents.{new_contents}
use Rattle.bk_state.specs.TreeCalls.{create, new_object, is_no_object}
use Rattle.bk_laws.proofs.Tests.{Passes, not_false, or_first, or_second, passes_both, passed}
use Rattle.bk_laws.proofs.Rows.{in_row-empty, has-no_modes}
use Rattle.bk_laws.proofs.SecureAccess.{named_parent}
use Rattle.bk_laws.proofs.NewObject.{Joins, is_cell}
use Rattle.bk_laws.proofs.SecureCreate.{secure_joined}

inside : (low high n : ℕ) → is_outside low high n ≡ false → (low ≤ n) × (n ≤ high)
inside low high n bad = (grind (arith, nat_tests, bad), grind (arith, nat_tests, bad))

none_of : (n : ℕ) → not (n == 0) ≡ false → n ≡ 0
none_of n bad = grind (arith, nat_tests, bad)

-- ---- what the bounds of a new object say

-- a number from 3 on is no kind
past_kinds : (n blocks quota : ℕ) → is_no_object (suc (suc (suc n))) blocks quota ≡ true
past_kinds n blocks quota = λ i. if at 0 (omega arith) i then not (blocks == 0) || is_outside 1 largest_quota quota else (
    if at 1 (omega arith) i then is_outside 1 most_blocks blocks else (
    if at 2 (omega arith) i then not (blocks == 0) else true))
  where
    at : (k : ℕ) → k < 3 → (suc (suc (suc n)) == k) ≡ false
    at k below = grind (arith, nat_tests, below)

-- the blocks and the contents of a new object are those of its kind
fits_kind : (fixed : Fixed) (n quota : ℕ) (facts : Facts) → is_no_object n facts.blocks quota ≡ false → FitsKind fixed (kind_from n) facts (new_contents (kind_from n) facts.blocks)
fits_kind fixed zero quota facts bad = (none_of facts.blocks (or_first _ _ bad), refl)
fits_kind fixed (suc zero) quota facts bad = let (low, high) = inside 1 most_blocks facts.blocks bad in (low, high, length-replicate _ _)
fits_kind fixed (suc (suc zero)) quota facts bad = (none_of facts.blocks bad, omega arith, refl, omega arith)
fits_kind fixed (suc (suc (suc n))) quota facts bad = absurd (cc (bad, past_kinds n facts.blocks quota))

no_line : (n blocks quota k : ℕ) → is_no_object n blocks quota ≡ false → kind_from n ≡ Line k → ⊥
no_line zero blocks quota k bad e = cc
no_line (suc zero) blocks quota k bad e = cc
no_line (suc (suc zero)) blocks quota k bad e = cc
no_line (suc (suc (suc n))) blocks quota k bad e = cc (bad, past_kinds n blocks quota)

-- a new directory has a quota within the bounds
directory_quota : (n blocks quota : ℕ) → is_no_object n blocks quota ≡ false → is_directory (kind_from n) ≡ true → (1 ≤ quota) × (quota ≤ largest_quota)
directory_quota zero blocks quota bad is = inside 1 largest_quota quota (or_second (not (blocks == 0)) _ bad)
directory_quota (suc zero) blocks quota bad is = cc
directory_quota (suc (suc zero)) blocks quota bad is = cc
directory_quota (suc (suc (suc n))) blocks quota bad is = absurd (cc (bad, past_kinds n blocks quota))

module _ (v : State) (general : List ℕ) (path : Path) (bad : create.is_wrong v (request_in general) ≡ false) where
  abbrev asked : Request
  asked = request_in general

  bounds : is_no_object (slice_index general 3 / 256) (slice_index general 3 % 256) (slice_index general 5) ≡ false
  bounds = or_first _ (nat_le (length v.fixed.levels) (slice_index general 4)) bad

  a_level : slice_index general 4 < length v.fixed.levels
  a_level =
      let few = or_second (is_no_object (slice_index general 3 / 256) (slice_index general 3 % 256) (slice_index general 5)) (nat_le (length v.fixed.levels) (slice_index general 4)) bad in
      grind (arith, nat_tests, few)

  -- the quota of the new object is that of the call in a directory at another level, and 0 in all else
  own_quota : (above : ℕ) → is_cell (new_facts asked above) above ≡ true → (1 ≤ (new_facts asked above).quota) × ((new_facts asked above).quota ≤ largest_quota)
  own_quota above cell =
      subst (λ n. (1 ≤ n) × (n ≤ largest_quota)) (sym (ap (λ b. if b then asked.quota else 0) cell))
      (directory_quota (slice_index general 3 / 256) (slice_index general 3 % 256) asked.quota bounds (and_first (is_directory asked.kind) (not (asked.level == above)) cell))

  no_quota : (above : ℕ) → is_cell (new_facts asked above) above ≡ false → (new_facts asked above).quota ≡ 0
  no_quota above plain = ap (λ b. if b then asked.quota else 0) plain

  joins : passes (λ above. is_directory above.kind) (facts_at v path) ≡ true →
      passes (λ above. dominates (level_at v.fixed.levels asked.level) (level_of v above)) (facts_at v path) ≡ true →
      used v (governing v path) + charge_of (new_facts asked (level_number v path)) (level_number v path) ≤ quota_at v (governing v path) →
      Joins v path (new_object asked (level_number v path))
  joins dir falls room = record {
    parent_ok = passes_both _ _ (facts_at v path) dir falls;
    level = a_level;
    kind = fits_kind v.fixed (slice_index general 3 / 256) (slice_index general 5) (new_facts asked (level_number v path)) bounds;
    no_line = λ n e. no_line (slice_index general 3 / 256) (slice_index general 3 % 256) (slice_index general 5) n bounds e;
    places = length-replicate most_subjects no_modes;
    row = λ s mode h. has-no_modes mode (subst (λ modes. has modes mode ≡ true) (in_row-empty most_subjects s) h);
    room = room;
    limit = own_quota (level_number v path);
    no_limit = no_quota (level_number v path);
  }

-- the state with an object as the call asks for, at a free path below a directory
secure_at : (v : State) (general : List ℕ) (path : Path) → Secure v → create.is_wrong v (request_in general) ≡ false → is_root path ≡ false → facts_at v path ≡ None →
    passes (λ above. is_directory above.kind) (facts_at v (parent path)) ≡ true →
    passes (λ above. dominates (level_at v.fixed.levels (request_in general).level) (level_of v above)) (facts_at v (parent path)) ≡ true →
    nat_le (used v (governing v (parent path)) + charge_of (new_facts (request_in general) (level_number v (parent path))) (level_number v (parent path)))
    (quota_at v (governing v (parent path))) ≡ true →
    Secure (with_objects v (map.insert v.objects path (new_object (request_in general) (level_number v (parent path)))))
secure_at v general [] sec bad root free dir falls room = cc
secure_at v general (entry ∷ path) sec bad root free dir falls room =
    secure_joined v entry path (new_object (request_in general) (level_number v path)) sec free (joins v general path bad dir falls (enough _ _ room))
  where
    enough : (n m : ℕ) → nat_le n m ≡ true → n ≤ m
    enough n m h = grind (arith, nat_tests, h)

is_none-some : {A : Type 0} (o : Option A) → is_some o ≡ false → o ≡ None
is_none-some None e = refl
is_none-some (Some x) e = cc

pub secure_create : (v : State) (s : ℕ) (general : List ℕ) → Secure v → Passes v s create (request_in general) → Secure (create.changes v s (request_in general))
secure_create v s general sec none =
    let (path, (bad, (named, (root, (write, (falls, (taken, (quota, end)))))))) = passed v s create (request_in general) none in
    secure_at v general (path_in general) sec bad root (is_none-some _ taken) (named_parent v s (path_in general) root (not_false _ named)) (not_false _ falls) (not_false _ quota)

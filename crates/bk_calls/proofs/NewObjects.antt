-- What create finds: a place below a directory, in bounds, free and paid for.
use Rattle.std.proofs.Common.{◌≡◌, ◌≢◌, ℕ, zero, suc, ◌<◌, ◌≤◌, ◌/◌, ◌%◌, ◌==◌, Bool, true, false, ◌||◌, ◌&&◌, List, [], length, Option, Some, None}
use Rattle.std.proofs.Common.{refl, sym, ap, subst, ◌∙◌, arith}
use Rattle.std.specs.Prelude.{◌+◌, not, is_some, nat_le, nat_lt, slice_index, option_map, if◌then◌else◌, Result, Ok, Err, IsOk}
use Rattle.std.proofs.lemmas.Bool.Decides.{nat_tests}
use Rattle.std.specs.FinMap as finite
use Rattle.bk_object.specs.declared.Facts.{Facts}
use Rattle.bk_object.specs.declared.kind.Kind.{Kind}
use Rattle.bk_object.specs.declared.kind.Kind.TheVariants.{Directory, Segment, Mailbox, Line}
use Rattle.bk_object.specs.Kinds.{is_directory}
use Rattle.bk_path.specs.Paths.{Path, path_cmp, is_root, parent}
use Rattle.bk_tree.specs.declared.tree.TreeNo.{TreeNo}
use Rattle.bk_tree.specs.declared.tree.TreeNo.TheVariants.{Taken, Quota as OverQuota}
use Rattle.bk_tree.specs.Kept.{HasBlocks, HasQuota, IsFit}
use Rattle.bk_state.specs.State.{State, Object}
use Rattle.bk_state.specs.KernelCall.{has_room}
use Rattle.bk_state.specs.Quota.{level_number}
use Rattle.bk_state.specs.Request.{is_outside, kind_from, new_facts, path_in, request_in}
use Rattle.bk_state.specs.TreeCalls.{is_no_object}
use Rattle.bk_state.specs.Calls.{call_refusal, changed}
use Rattle.bk_state.specs.declared.call.Call.TheVariants.{ByRule}
use Rattle.bk_state.specs.declared.rule.Rule.TheVariants.{Create}
use Rattle.bk_store.specs.Stored.{Entry, Stored, Fits, HasDirectory, IsCreated, IsFreeLine, cell_of, fresh, level_number as level_in_store}
use Rattle.bk_store.specs.Stands.{StandsFor}
use Rattle.bk_store.proofs.Stands.{stands-created, stands-level}
use Rattle.bk_quota.specs.Charges.{charge_of}
use Rattle.bk_calls.specs.Made.{seen_by}
use Rattle.bk_calls.specs.declared.caller.Caller.{Caller}
use Rattle.bk_calls.proofs.RuleChecks.{level-there}
use Rattle.bk_calls.proofs.RuleChanges.{bounds-kept, checks-passed}
use Rattle.bk_calls.proofs.Seen.{facts-seen, named-below, room-seen, stands-seen, with_lines}

-- ---- arguments in their bounds

same_order : (a b : ℕ) → (a == b) ≡ (b == a)
same_order a b = by (a == b) refl (b == a) refl
  where
    by : (x : Bool) → (a == b) ≡ x → (y : Bool) → (b == a) ≡ y → x ≡ y
    by true ab true ba = refl
    by false ab false ba = refl
    by true ab false ba = absurd (grind (arith, nat_tests, ab, ba))
    by false ab true ba = absurd (grind (arith, nat_tests, ab, ba))

no_blocks : (blocks : ℕ) → not (blocks == 0) ≡ false → blocks ≡ 0
no_blocks blocks e = by (blocks == 0) refl e
  where
    by : (b : Bool) → (blocks == 0) ≡ b → not b ≡ false → blocks ≡ 0
    by true is h = grind (arith, nat_tests, is)
    by false is h = cc

inside : (low high n : ℕ) → is_outside low high n ≡ false → (low ≤ n) × (n ≤ high)
inside low high n e = by (nat_lt n low) refl (nat_lt high n) refl e
  where
    by : (a : Bool) → nat_lt n low ≡ a → (b : Bool) → nat_lt high n ≡ b → (a || b) ≡ false → (low ≤ n) × (n ≤ high)
    by true first b second h = cc
    by false first true second h = cc
    by false first false second h = (grind (arith, nat_tests, first), grind (arith, nat_tests, second))

-- a kind that has no cell keeps no quota
abbrev pub kept_quota : Kind → (level above quota : ℕ) → ℕ
kept_quota kind level above quota = if is_directory kind && not (level == above) then quota else 0

quota_fits : (level above quota : ℕ) → (1 ≤ quota) × (quota ≤ 3904) → HasQuota (not (above == level)) (if not (level == above) then quota else 0)
quota_fits level above quota bounds = subst (λ b. HasQuota (not b) (if not (level == above) then quota else 0)) (same_order level above) (by (level == above))
  where
    by : (b : Bool) → HasQuota (not b) (if not b then quota else 0)
    by true = refl
    by false = bounds

either_false : (a b : Bool) → (a || b) ≡ false → (a ≡ false) × (b ≡ false)
either_false true b e = cc
either_false false b e = (refl, e)

fits-kind : (number blocks level above quota : ℕ) → is_no_object number blocks quota ≡ false →
    HasBlocks (kind_from number) blocks × HasQuota (is_directory (kind_from number) && not (above == level)) (kept_quota (kind_from number) level above quota)
fits-kind zero blocks level above quota e =
    let (none, bounds) = either_false (not (blocks == 0)) (is_outside 1 3904 quota) e in
    (no_blocks blocks none, quota_fits level above quota (inside 1 3904 quota bounds))
fits-kind (suc zero) blocks level above quota e = (inside 1 128 blocks e, refl)
fits-kind (suc (suc zero)) blocks level above quota e = (no_blocks blocks e, refl)
fits-kind (suc (suc (suc n))) blocks level above quota e = absurd (more (suc (suc (suc n)) == 0) refl (suc (suc (suc n)) == 1) refl (suc (suc (suc n)) == 2) refl e)
  where
    more : (a : Bool) → (suc (suc (suc n)) == 0) ≡ a → (b : Bool) → (suc (suc (suc n)) == 1) ≡ b → (d : Bool) → (suc (suc (suc n)) == 2) ≡ d →
        (if a then not (blocks == 0) || is_outside 1 3904 quota else (if b then is_outside 1 128 blocks else (if d then not (blocks == 0) else true))) ≡ false → ⊥
    more true is b second d third h = grind (arith, nat_tests, is)
    more false is true second d third h = grind (arith, nat_tests, second)
    more false is false second true third h = grind (arith, nat_tests, third)
    more false is false second false third h = cc

-- nobody creates a line
no_line : (number n : ℕ) → kind_from number ≢ Line n
no_line number n is = by (number == 1) (number == 2) is
  where
    by : (a b : Bool) → (if a then Segment else (if b then Mailbox else Directory)) ≡ Line n → ⊥
    by true b e = cc
    by false true e = cc
    by false false e = cc

pub no-line : (store : Stored) (general : List ℕ) (above : ℕ) → IsFreeLine store (new_facts (request_in general) above).kind
no-line store general above n is = absurd (no_line (slice_index general 3 / 256) n is)

module _ (caller : Caller) (store : Stored) (words general : List ℕ) (none : call_refusal (seen_by caller store words) caller.subject (ByRule Create) general ≡ None) where
  abbrev v : State
  v = seen_by caller store words

  pub new-fits : (above : ℕ) → IsFit (new_facts (request_in general) above) above
  new-fits above =
      let (object, level) = either_false (is_no_object (slice_index general 3 / 256) (slice_index general 3 % 256) (slice_index general 5)) (nat_le (length store.levels) (slice_index general 4)) (bounds-kept caller store words general Create none) in
      let (blocks, quota) = fits-kind (slice_index general 3 / 256) (slice_index general 3 % 256) (slice_index general 4) above (slice_index general 5) object in
      record { blocks = blocks; quota = quota }

  pub new-level : slice_index general 4 < length store.levels
  new-level = level-there v general (bounds-kept caller store words general Create none)

  not_false : (b : Bool) → not b ≡ false → b ≡ true
  not_false true e = refl
  not_false false e = cc

  below_root : is_root (path_in general) ≡ false
  below_root = (checks-passed caller store words general Create none).1.0

  pub new-below : path_in general ≢ []
  new-below is = let root : is_root (path_in general) ≡ true = ap is_root is in let below = below_root in cc

  pub new-parent : HasDirectory store (parent (path_in general))
  new-parent = named-below caller store words caller.subject (path_in general) (not_false _ (checks-passed caller store words general Create none).0) below_root

  -- the place is free
  pub new-free : is_some (finite.get store.objects (path_in general)) ≡ false
  new-free = by (finite.get store.objects (path_in general)) (ap is_some (sym (facts-seen caller store words (path_in general))) ∙ (checks-passed caller store words general Create none).1.1.1.1.0)
    where
      by : (o : Option Entry) → is_some (option_map (λ (e : Entry). e.facts) o) ≡ false → is_some o ≡ false
      by None e = refl
      by (Some x) e = cc

  -- and there is room
  pub new-room : (number : ℕ) → number ≡ level_in_store store (parent (path_in general)) → Fits store (path_in general) (new_facts (request_in general) number)
  new-room number is =
      let seen = room-seen caller store words (request_in general) (parent (path_in general)) (cell_of store (parent (path_in general))) number (charge_of (new_facts (request_in general) number) number) refl refl is refl in
      let room = seen ∙ not_false (has_room v (request_in general)) (checks-passed caller store words general Create none).1.1.1.1.1.0 in
      subst (λ n. (cell_of store (parent (path_in general))).used + charge_of (new_facts (request_in general) number) n ≤ (cell_of store (parent (path_in general))).limit) is
      (grind (arith, nat_tests, room))

-- the new object has come
pub stands-new : (caller : Caller) (store after : Stored) (words now general : List ℕ) (path : Path) (facts : Facts) (number : ℕ) → path_in general ≡ path →
    number ≡ level_in_store store (parent path) → facts ≡ new_facts (request_in general) number → IsCreated store after words now path facts →
    StandsFor after now (changed (with_lines store (seen_by caller store words)) caller.subject Create (request_in general))
unfolding changed
stands-new caller store after words now general path facts number at is made created =
    let state = with_lines store (seen_by caller store words) in
    let stands = stands-created store words state (stands-seen caller store words) after now path facts created in
    let level : number ≡ level_number state (parent (path_in general)) = is ∙ ap (λ p. level_in_store store (parent p)) (sym at) ∙ stands-level store words state (stands-seen caller store words) (parent (path_in general)) in
    subst (λ (m : finite.FinMap path_cmp Object). StandsFor after now (record state { objects = m }))
    (λ i. finite.insert state.objects (sym at i) (fresh ((made ∙ ap (new_facts (request_in general)) level) i))) stands

-- what is neither taken nor over its quota was created
pub created-ok : (r : Result (Unit {0}) TreeNo) → (r ≡ Err Taken → ⊥) → (r ≡ Err OverQuota → ⊥) → IsOk r
created-ok (Ok x) free room = refl
created-ok (Err Taken) free room = absurd (free refl)
created-ok (Err OverQuota) free room = absurd (room refl)

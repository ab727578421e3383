-- A new object under its cell's quota keeps a secure state secure.
use Rattle.std.proofs.Common.{◌≡◌, ℕ, ◌+◌, ◌≤◌, Bool, true, false, ◌&&◌, [], ◌∷◌, length, Some, None, refl, sym, ap, ◌∙◌, subst, arith, inl, inr}
use Rattle.std.specs.Prelude.{if◌then◌else◌}
use Rattle.bk_level.specs.Levels.{dominates}
use Rattle.bk_path.specs.Paths.{Path, is_same, parent}
use Rattle.bk_path.specs.Orders.{same_path}
use Rattle.bk_object.specs.Limits.{largest_quota}
use Rattle.bk_object.specs.Modes.{has}
use Rattle.bk_object.specs.Kinds.{is_directory}
use Rattle.bk_object.specs.Rows.{in_row}
use Rattle.bk_object.specs.declared.Facts.{Facts}
use Rattle.bk_quota.specs.Charges.{passes, charge_of}
use Rattle.bk_state.specs.State.{State, Object, find, facts_at, level_of}
use Rattle.bk_state.specs.Quota.{governing, level_number, quota_at, used}
use Rattle.bk_state.specs.Secure.{Secure, FitsKind, HasCell}
use Rattle.bk_laws.proofs.Changes.{find-insert, facts_at-insert}
use Rattle.bk_laws.proofs.Tests.{false_if, some_same, passes_there}
use Rattle.bk_laws.proofs.NewObject.{Joins, joined, facts_at-old, quota_at-new, quota_at-old, kept, is_upgraded-kept, extra, used-joined, used-new}
use Rattle.bk_laws.proofs.NewObject.{is_upgraded-new}

module _ (v : State) (entry : ℕ) (path : Path) (o : Object) (sec : Secure v) (free : facts_at v (entry ∷ path) ≡ None) (joins : Joins v path o) where
  abbrev w : State
  w = joined v entry path o

  passes-kept : (t : Facts → Bool) (q : Path) → passes t (facts_at v q) ≡ true → passes t (facts_at w q) ≡ true
  passes-kept t q h = let (g, there) = passes_there t _ h in ap (passes t) (kept v entry path o sec free joins q g there) ∙ h

  -- what is there is the new object, or was there
  split : (P : Type 0) (q : Path) (f : Facts) → facts_at w q ≡ Some f → (q ≡ entry ∷ path → f ≡ o.facts → P) → (facts_at v q ≡ Some f → P) → P
  split P q f is here there = by (is_same q (entry ∷ path)) refl (sym (facts_at-insert v (entry ∷ path) o q) ∙ is)
    where
      by : (b : Bool) → is_same q (entry ∷ path) ≡ b → (if b then Some o.facts else facts_at v q) ≡ Some f → P
      by true same e = here (same_path q (entry ∷ path) same) (sym (some_same e))
      by false same e = there e

  tail : {e : ℕ} {p : Path} → e ∷ p ≡ entry ∷ path → p ≡ path
  tail e = ap parent e

  kinds : (q : Path) (x : Object) (b : Bool) → is_same q (entry ∷ path) ≡ b → (if b then Some o else find v q) ≡ Some x → FitsKind v.fixed x.facts.kind x.facts x.contents
  kinds q x true same is = subst (λ y. FitsKind v.fixed y.facts.kind y.facts y.contents) (some_same is) joins.kind
  kinds q x false same is = sec.kinds q x is

  -- ---- cells

  -- a cell at another path was one
  had_cell : (q : Path) → is_same q (entry ∷ path) ≡ false → HasCell w q → HasCell v q
  had_cell [] apart cell = inl refl
  had_cell (e ∷ q) apart (inl empty) = cc
  had_cell (e ∷ q) apart (inr up) =
      let (f, there) = passes_there _ _ up in
      inr (sym (is_upgraded-kept v entry path o sec free joins (e ∷ q) f (sym (facts_at-old v entry path o (e ∷ q) apart) ∙ there)) ∙ up)

  -- and stays one
  has_cell : (q : Path) → HasCell v q → HasCell w q
  has_cell [] cell = inl refl
  has_cell (e ∷ q) (inl empty) = cc
  has_cell (e ∷ q) (inr up) =
      let (f, there) = passes_there _ _ up in
      inr (is_upgraded-kept v entry path o sec free joins (e ∷ q) f there ∙ up)

  -- the new object has a cell where it is one by its facts
  new_cell : HasCell w (entry ∷ path) → (1 ≤ o.facts.quota) × (o.facts.quota ≤ largest_quota)
  new_cell (inl empty) = cc
  new_cell (inr up) = joins.limit (sym (is_upgraded-new v entry path o sec free joins) ∙ up)

  limits : (q : Path) (b : Bool) → is_same q (entry ∷ path) ≡ b → HasCell w q → (1 ≤ quota_at w q) × (quota_at w q ≤ largest_quota)
  limits q true same cell =
      subst (λ p. (1 ≤ quota_at w p) × (quota_at w p ≤ largest_quota)) (sym (same_path q (entry ∷ path) same))
      (subst (λ n. (1 ≤ n) × (n ≤ largest_quota)) (sym (quota_at-new v entry path o)) (new_cell (subst (HasCell w) (same_path q (entry ∷ path) same) cell)))
  limits q false same cell = subst (λ n. (1 ≤ n) × (n ≤ largest_quota)) (sym (quota_at-old v entry path o q same)) (sec.limits q (had_cell q same cell))

  no_limits : (q : Path) (b : Bool) → is_same q (entry ∷ path) ≡ b → ¬ HasCell w q → quota_at w q ≡ 0
  no_limits q true same none =
      let at = same_path q (entry ∷ path) same in
      ap (quota_at w) at ∙ quota_at-new v entry path o
      ∙ joins.no_limit (false_if _ (λ up. none (subst (HasCell w) (sym at) (inr (is_upgraded-new v entry path o sec free joins ∙ up)))))
  no_limits q false same none = quota_at-old v entry path o q same ∙ sec.no_limits q (λ cell. none (has_cell q cell))

  -- a cell that was there takes the charge where it governs the new object's parent
  old_cell : (q : Path) → is_same q (entry ∷ path) ≡ false → used v q ≤ quota_at v q → used w q ≤ quota_at w q
  old_cell q apart under = by (is_same (governing v path) q) refl
    where
      grown : used w q ≡ used v q + extra v entry path o sec free joins q
      grown = used-joined v entry path o sec free joins q

      by : (b : Bool) → is_same (governing v path) q ≡ b → used w q ≤ quota_at w q
      by true same =
          let at : governing v path ≡ q = same_path (governing v path) q same in
          let cell : used v q + charge_of o.facts (level_number v path) ≤ quota_at v q = subst (λ p. used v p + charge_of o.facts (level_number v path) ≤ quota_at v p) at joins.room in
          let more : extra v entry path o sec free joins q ≡ charge_of o.facts (level_number v path) = ap (λ b. if b then charge_of o.facts (level_number v path) else 0) same in
          omega (arith, cell, more, grown, quota_at-old v entry path o q apart)
      by false same =
          let more : extra v entry path o sec free joins q ≡ 0 = ap (λ b. if b then charge_of o.facts (level_number v path) else 0) same in
          omega (arith, under, more, grown, quota_at-old v entry path o q apart)

  quotas : (q : Path) (b : Bool) → is_same q (entry ∷ path) ≡ b → HasCell w q → used w q ≤ quota_at w q
  quotas q true same cell =
      let at = same_path q (entry ∷ path) same in
      let enough = (new_cell (subst (HasCell w) at cell)).0 in
      subst (λ p. used w p ≤ quota_at w p) (sym at) (omega (arith, enough, used-new v entry path o sec free joins, quota_at-new v entry path o))
  quotas q false same cell = old_cell q same (sec.quotas q (had_cell q same cell))

  -- all items of security hold with the new object
  pub secure_joined : Secure w
  secure_joined = record {
    processes = sec.processes;
    shape = record {
      current = sec.shape.current;
      listed = sec.shape.listed;
      rows = λ p f is. split _ p f is (λ at same. ap (λ g. length g.row) same ∙ joins.places) (λ there. sec.shape.rows p f there);
      processes = sec.shape.processes;
    };
    distinct = sec.distinct;
    root = passes-kept _ [] sec.root;
    parents = λ e p f is. split _ (e ∷ p) f is
        (λ at same. subst (λ g. passes (λ above. is_directory above.kind && dominates (level_of v g) (level_of v above)) (facts_at w p) ≡ true) (sym same)
        (passes-kept (λ above. is_directory above.kind && dominates (level_of v o.facts) (level_of v above)) p (rw (tail at) joins.parent_ok)))
        (λ there. passes-kept _ p (sec.parents e p f there));
    clearances = sec.clearances;
    levels = λ p f is. split _ p f is (λ at same. rw same joins.level) (sec.levels p f);
    kinds = λ q x is. kinds q x (is_same q (entry ∷ path)) refl (sym (find-insert v (entry ∷ path) o q) ∙ is);
    lines = λ p q f h n isf ish kf kh. split _ p f isf
        (λ at same. absurd (joins.no_line n (sym (ap (λ g. g.kind) same) ∙ kf)))
        (λ there. split _ q h ish (λ at same. absurd (joins.no_line n (sym (ap (λ g. g.kind) same) ∙ kh))) (λ there'. sec.lines p q f h n there there' kf kh));
    limits = λ q cell. limits q (is_same q (entry ∷ path)) refl cell;
    no_limits = λ q none. no_limits q (is_same q (entry ∷ path)) refl none;
    quotas = λ q cell. quotas q (is_same q (entry ∷ path)) refl cell;
    rows = λ p f s mode is h. split _ p f is (λ at same. absurd (joins.row s mode (subst (λ g. has (in_row g.row s) mode ≡ true) same h)))
        (λ there. sec.rows p f s mode there h);
    access = λ s p mode h. passes-kept _ p (sec.access s p mode h);
    naming = λ s e p mode h. passes-kept _ p (sec.naming s e p mode h);
    entries = sec.entries;
  }

-- To delete a group keeps a secure state secure.
use Rattle.std.proofs.Common.{◌≡◌, ℕ, ◌≤◌, Bool, true, false, ◌||◌, not, [], ◌∷◌, Option, Some, None, refl, sym, ap, ◌∙◌, subst, arith}
use Rattle.std.proofs.Common.{unwrap_or, le_of_eq, le_trans, inl, inr}
use Rattle.std.specs.Prelude.{option_map, if◌then◌else◌}
use Rattle.bk_level.proofs.LevelOrder.{and_first, and_second}
use Rattle.bk_path.specs.Paths.{Path, is_same, is_inferior, is_root}
use Rattle.bk_object.specs.Limits.{largest_quota}
use Rattle.bk_object.specs.Modes.{AccessMode}
use Rattle.bk_object.specs.declared.Facts.{Facts}
use Rattle.bk_quota.specs.Charges.{passes, charge_of}
use Rattle.bk_state.specs.State.{State, Object, find, facts_at, holds}
use Rattle.bk_state.specs.Quota.{is_upgraded, governing, level_number, quota_at, used}
use Rattle.bk_state.specs.Secure.{Secure, FitsKind, HasCell}
use Rattle.bk_state.specs.TreeCalls.{without_group, delete_group}
use Rattle.bk_state.specs.Request.{Request}
use Rattle.bk_laws.proofs.Changes.{find-without_group, facts_at-without_group, holds-retain}
use Rattle.bk_laws.proofs.Tests.{Passes, passed, passes_there}
use Rattle.bk_laws.proofs.Shapes.{is_upgraded-by, level_number-by, quota_at-by, share_at, used_le}

-- what stands outside a group has its parent outside
pub outside : (entry : ℕ) (q path : Path) → is_inferior (entry ∷ q) path ≡ false → is_inferior q path ≡ false
outside entry q path h = by (is_same (entry ∷ q) path) h
  where
    by : (b : Bool) → (b || is_inferior q path) ≡ false → is_inferior q path ≡ false
    by true h = cc
    by false h = h

module _ (v : State) (path : Path) where
  abbrev w : State
  w = without_group v path

  -- facts outside the group stay, those in it go
  pub group_kept : (q : Path) → is_inferior q path ≡ false → facts_at w q ≡ facts_at v q
  group_kept q out = facts_at-without_group v path q ∙ ap (λ b. if not b then facts_at v q else None) out

  pub group_gone : (q : Path) → is_inferior q path ≡ true → facts_at w q ≡ None
  group_gone q in_group = facts_at-without_group v path q ∙ ap (λ b. if not b then facts_at v q else None) in_group

  -- what is there still stands outside
  pub group_left : (q : Path) (f : Facts) → facts_at w q ≡ Some f → (is_inferior q path ≡ false) × (facts_at v q ≡ Some f)
  group_left q f is = by (is_inferior q path) refl
    where
      by : (b : Bool) → is_inferior q path ≡ b → (is_inferior q path ≡ false) × (facts_at v q ≡ Some f)
      by true i = cc (group_gone q i, is)
      by false i = (i, sym (group_kept q i) ∙ is)

  -- so cells, levels and quotas outside stay
  pub is_upgraded-group : (q : Path) → is_inferior q path ≡ false → is_upgraded w q ≡ is_upgraded v q
  is_upgraded-group [] out = refl
  is_upgraded-group (entry ∷ q) out = is_upgraded-by w v entry q (group_kept q (outside entry q path out)) (group_kept (entry ∷ q) out)

  pub governing-group : (q : Path) → is_inferior q path ≡ false → governing w q ≡ governing v q
  governing-group [] out = refl
  governing-group (entry ∷ q) out = λ i. if is_upgraded-group (entry ∷ q) out i then entry ∷ q else governing-group q (outside entry q path out) i

  pub level_number-group : (q : Path) → is_inferior q path ≡ false → level_number w q ≡ level_number v q
  level_number-group q out = level_number-by w v q (group_kept q out)

  pub quota_at-group : (q : Path) → is_inferior q path ≡ false → quota_at w q ≡ quota_at v q
  quota_at-group q out = quota_at-by w v q (group_kept q out)

  pub quota_at-gone : (q : Path) → is_inferior q path ≡ true → quota_at w q ≡ 0
  quota_at-gone q in_group = ap (λ a. unwrap_or (option_map (λ facts. facts.quota) a) 0) (group_gone q in_group)

  used-less : (cell : Path) → used w cell ≤ used v cell
  used-less cell = used_le w v cell (λ q. less q (is_inferior q path) refl)
    where
      same : (q : Path) (a : Option Facts) → is_inferior q path ≡ false → share_at w cell q a ≡ share_at v cell q a
      same q None out = refl
      same [] (Some f) out = refl
      same (entry ∷ q) (Some f) out = λ i. if is_same (governing-group q (outside entry q path out) i) cell then charge_of f (level_number-group q (outside entry q path out) i) else 0

      less : (q : Path) (b : Bool) → is_inferior q path ≡ b → share_at w cell q (facts_at w q) ≤ share_at v cell q (facts_at v q)
      less q true is = rw (group_gone q is) (omega arith)
      less q false is = le_of_eq (ap (share_at w cell q) (group_kept q is) ∙ same q (facts_at v q) is)

  -- an access that is left is to an object outside
  pub held_left : (s : ℕ) (q : Path) (mode : AccessMode) → holds w s q mode ≡ true → (holds v s q mode ≡ true) × (is_inferior q path ≡ false)
  held_left s q mode h =
      let both = sym (holds-retain v (λ t. not (is_inferior t.1 path)) s q mode) ∙ h in
      (and_first _ _ both, turned (is_inferior q path) (and_second (holds v s q mode) (not (is_inferior q path)) both))
    where
      turned : (b : Bool) → not b ≡ true → b ≡ false
      turned true is = cc
      turned false is = refl

  module _ (sec : Secure v) (below : is_root path ≡ false) where
    root_outside : (q : Path) → is_root q ≡ false → is_inferior [] q ≡ false
    root_outside [] h = cc
    root_outside (entry ∷ q) h = refl

    passes-kept : (t : Facts → Bool) (q : Path) → is_inferior q path ≡ false → passes t (facts_at v q) ≡ true → passes t (facts_at w q) ≡ true
    passes-kept t q out h = ap (passes t) (group_kept q out) ∙ h

    -- what has a cell stands outside, and had it
    cell_left : (q : Path) → HasCell w q → (is_inferior q path ≡ false) × HasCell v q
    cell_left [] cell = (root_outside path below, inl refl)
    cell_left (entry ∷ q) (inl none) = cc
    cell_left (entry ∷ q) (inr up) =
        let (f, there) = passes_there _ _ up in
        let (out, was) = group_left (entry ∷ q) f there in
        (out, inr (sym (is_upgraded-group (entry ∷ q) out) ∙ up))

    cell_kept : (q : Path) → is_inferior q path ≡ false → HasCell v q → HasCell w q
    cell_kept q out (inl root) = inl root
    cell_kept q out (inr up) = inr (is_upgraded-group q out ∙ up)

    limits : (q : Path) → (is_inferior q path ≡ false) × HasCell v q → (1 ≤ quota_at w q) × (quota_at w q ≤ largest_quota)
    limits q (out, cell) = subst (λ n. (1 ≤ n) × (n ≤ largest_quota)) (sym (quota_at-group q out)) (sec.limits q cell)

    no_limits : (q : Path) (b : Bool) → is_inferior q path ≡ b → ¬ HasCell w q → quota_at w q ≡ 0
    no_limits q true in_group none = quota_at-gone q in_group
    no_limits q false out none = quota_at-group q out ∙ sec.no_limits q (λ cell. none (cell_kept q out cell))

    quotas : (q : Path) → (is_inferior q path ≡ false) × HasCell v q → used w q ≤ quota_at w q
    quotas q (out, cell) = subst (λ n. used w q ≤ n) (sym (quota_at-group q out)) (le_trans (used-less q) (sec.quotas q cell))

    kinds : (q : Path) (o : Object) (b : Bool) → (if not b then find v q else None) ≡ Some o → FitsKind v.fixed o.facts.kind o.facts o.contents
    kinds q o true is = cc
    kinds q o false is = sec.kinds q o is

    -- all items of security hold without the group
    pub secure_without_group : Secure w
    secure_without_group = record {
      processes = sec.processes;
      shape = record { current = sec.shape.current; listed = sec.shape.listed; rows = λ q f is. sec.shape.rows q f (group_left q f is).1; processes = sec.shape.processes };
      distinct = sec.distinct;
      root = passes-kept _ [] (root_outside path below) sec.root;
      parents = λ entry q f is. let (out, was) = group_left (entry ∷ q) f is in passes-kept _ q (outside entry q path out) (sec.parents entry q f was);
      clearances = sec.clearances;
      levels = λ q f is. sec.levels q f (group_left q f is).1;
      kinds = λ q o is. kinds q o (is_inferior q path) (sym (find-without_group v path q) ∙ is);
      lines = λ a b f h n isf ish. sec.lines a b f h n (group_left a f isf).1 (group_left b h ish).1;
      limits = λ q cell. limits q (cell_left q cell);
      no_limits = λ q none. no_limits q (is_inferior q path) refl none;
      quotas = λ q cell. quotas q (cell_left q cell);
      rows = λ q f s mode is. sec.rows q f s mode (group_left q f is).1;
      access = λ s q mode h. let (was, out) = held_left s q mode h in passes-kept _ q out (sec.access s q mode was);
      naming = λ s entry q mode h. let (was, out) = held_left s (entry ∷ q) mode h in passes-kept _ q (outside entry q path out) (sec.naming s entry q mode was);
      entries = sec.entries;
    }

pub secure_delete_group : (v : State) (s : ℕ) (request : Request) → Secure v → Passes v s delete_group request → Secure (delete_group.changes v s request)
secure_delete_group v s request sec none =
    let (path, (named, (there, (root, (write, end))))) = passed v s delete_group request none in
    secure_without_group v request.path sec root

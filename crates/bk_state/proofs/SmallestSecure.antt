-- The smallest state is secure.
use Rattle.std.proofs.Common.{◌≡◌, ℕ, zero, suc, ◌+◌, ◌<◌, ◌≤◌, Bool, true, false, ◌||◌, ◌&&◌, [], ◌∷◌, Option, Some, None, refl, sym, ap, subst, ◌∙◌}
use Rattle.std.proofs.Common.{inl, inr, replicate, unwrap_or, get_or, cond, arith}
use Rattle.std.specs.Prelude.{option_map, sum_by, length}
use Rattle.std.specs.List.{IsDistinct}
use Rattle.std.specs.Ordering.{eq_by_cmp}
use Rattle.std.specs.FinMap as map
use Rattle.std.specs.FinSet as set
use Rattle.bk_level.specs.Levels.{dominates, is_same_level}
use Rattle.bk_object.specs.Modes.{AccessMode, Read, Execute, Write, Append, has, no_modes}
use Rattle.bk_object.specs.Kinds.{kind_modes, is_directory}
use Rattle.bk_object.specs.Rows.{in_row, most_subjects}
use Rattle.bk_object.specs.declared.Kind.TheVariants.{Directory}
use Rattle.bk_object.specs.declared.Facts.{Facts}
use Rattle.bk_path.specs.Paths.{Path, path_cmp}
use Rattle.bk_quota.specs.Charges.{passes, share_in}
use Rattle.bk_state.specs.State.{Object, Triple, triple_cmp, find, facts_at, holds, current_level, greatest_level}
use Rattle.bk_state.specs.Quota.{used, quota_at, is_upgraded}
use Rattle.bk_state.specs.Allowed.{is_allowed}
use Rattle.bk_state.specs.Secure.{Secure, FitsKind, HasCell}
use Rattle.bk_state.specs.Smallest.{smallest, only_root, only_row}
use Rattle.bk_state.proofs.Orders.{triple_total, same_tests}
use Rattle.bk_state.proofs.Triples.{same_triple}

found : (p : Path) → find smallest p ≡ map.find path_cmp p (([], only_root) ∷ [])
found p = map.get-from_sorted path_cmp (([], only_root) ∷ []) p tt

-- nothing is below root
none_below : (e : ℕ) (p : Path) → find smallest (e ∷ p) ≡ None
none_below e p = found (e ∷ p) ∙ ap (λ b. cond b (Some only_root) None) (sym (same_tests [] (e ∷ p)))

-- what is there is root
is_root : (p : Path) (o : Object) → find smallest p ≡ Some o → (p ≡ []) × (only_root ≡ o)
is_root [] o is = (refl, ap (λ a. unwrap_or a only_root) (sym (found []) ∙ is))
is_root (e ∷ p) o is = absurd (cc (sym (none_below e p) ∙ is))

facts_root : (p : Path) (f : Facts) → facts_at smallest p ≡ Some f → (p ≡ []) × (only_root.facts ≡ f)
facts_root [] f is = (refl, ap (λ a. unwrap_or a only_root.facts) (sym (ap (option_map (λ o. o.facts)) (found [])) ∙ is))
facts_root (e ∷ p) f is = absurd (cc (sym (ap (option_map (λ o. o.facts)) (none_below e p)) ∙ is))

nothing_below : (e : ℕ) (p : Path) → facts_at smallest (e ∷ p) ≡ None
nothing_below e p = ap (option_map (λ o. o.facts)) (none_below e p)

-- the row has nothing but w for subject 0
no_modes_at : (n s : ℕ) → get_or (replicate n no_modes) s no_modes ≡ no_modes
no_modes_at zero s = refl
no_modes_at (suc n) zero = refl
no_modes_at (suc n) (suc s) = no_modes_at n s

in_only_row : (s : ℕ) (x : AccessMode) → has (in_row only_row s) x ≡ true → (has (kind_modes Directory) x ≡ true) × (s < 1)
in_only_row zero Read h = cc
in_only_row zero Execute h = cc
in_only_row zero Write h = (refl, omega arith)
in_only_row zero Append h = cc
in_only_row (suc s) x h = absurd (none x (subst (λ modes. has modes x ≡ true) (no_modes_at 63 s) h))
  where
    none : (x : AccessMode) → has no_modes x ≡ true → ⊥
    none Read h = cc
    none Execute h = cc
    none Write h = cc
    none Append h = cc

-- what is held is root, by subject 0, by write
held_root : (s : ℕ) (p : Path) (x : AccessMode) → holds smallest s p x ≡ true → (s ≡ 0) × (p ≡ []) × (x ≡ Write)
held_root s p x h = by (eq_by_cmp triple_cmp (s, p, x) (0, [], Write)) refl (sym (set.contains-from_list triple_total ((0, [], Write) ∷ []) (s, p, x)) ∙ h)
  where
    by : (b : Bool) → eq_by_cmp triple_cmp (s, p, x) (0, [], Write) ≡ b → (b || false) ≡ true → (s ≡ 0) × (p ≡ []) × (x ≡ Write)
    by true is e = same_triple (s, p, x) (0, [], Write) is
    by false is e = cc

used_root : used smallest [] ≡ 1
used_root = ap (λ es. 1 + sum_by (λ e. share_in (λ o. o.facts) smallest.objects [] e.0 e.1.facts) es) (map.entries-from_sorted path_cmp (([], only_root) ∷ []) tt)

quota_root : quota_at smallest [] ≡ 1
quota_root = ap (λ a. unwrap_or (option_map (λ f. f.quota) (option_map (λ o. o.facts) a)) 0) (found [])

-- nothing below root has a cell
no_cell : (e : ℕ) (p : Path) → is_upgraded smallest (e ∷ p) ≡ true → ⊥
no_cell e p up = none _ (facts_at smallest (e ∷ p)) (nothing_below e p) up
  where
    none : (t : Facts → Bool) (a : Option Facts) → a ≡ None → passes t a ≡ true → ⊥
    none t None is h = cc
    none t (Some f) is h = cc

limits : (p : Path) → HasCell smallest p → (1 ≤ quota_at smallest p) × (quota_at smallest p ≤ 3904)
limits [] cell = (omega (arith, quota_root), omega (arith, quota_root))
limits (e ∷ p) (inl root) = cc
limits (e ∷ p) (inr up) = absurd (no_cell e p up)

no_limits : (p : Path) → ¬ HasCell smallest p → quota_at smallest p ≡ 0
no_limits [] none = absurd (none (inl refl))
no_limits (e ∷ p) none = ap (λ a. unwrap_or (option_map (λ f. f.quota) a) 0) (nothing_below e p)

quotas : (p : Path) → HasCell smallest p → used smallest p ≤ quota_at smallest p
quotas [] cell = omega (arith, used_root, quota_root)
quotas (e ∷ p) (inl root) = cc
quotas (e ∷ p) (inr up) = absurd (no_cell e p up)

clearances : (s : ℕ) → s < 1 → dominates (greatest_level smallest s) (current_level smallest s) ≡ true
clearances zero lt = refl
clearances (suc s) lt = absurd (omega arith)

root_allows : passes (λ facts. has (in_row facts.row 0) Write && is_allowed smallest 0 facts Write) (facts_at smallest []) ≡ true
root_allows = ap (λ a. passes (λ facts. has (in_row facts.row 0) Write && is_allowed smallest 0 facts Write) (option_map (λ o. o.facts) a)) (found [])

one_level : IsDistinct is_same_level smallest.fixed.levels
unfolding IsDistinct
one_level = (tt, tt)

pub smallest-Secure : Secure smallest
smallest-Secure = record {
  processes = refl;
  shape = record { current = refl; listed = refl; rows = λ p f is. subst (λ g. length g.row ≡ most_subjects) (facts_root p f is).1 refl; processes = refl };
  distinct = one_level;
  root = ap (λ a. passes (λ f. is_directory f.kind) a) (ap (option_map (λ o. o.facts)) (found []));
  parents = λ e p f is. cc ((facts_root (e ∷ p) f is).0);
  clearances = clearances;
  levels = λ p f is. subst (λ g. g.level < 1) (facts_root p f is).1 (omega arith);
  kinds = λ p o is. subst (λ y. FitsKind smallest.fixed y.facts.kind y.facts y.contents) (is_root p o is).1 (refl, refl);
  lines = λ p q f h n isf ish kf kh. cc ((facts_root p f isf).1, kf);
  limits = limits;
  no_limits = no_limits;
  quotas = quotas;
  rows = λ p f s x is h. subst (λ g. (has (kind_modes g.kind) x ≡ true) × (s < 1)) (facts_root p f is).1 (in_only_row s x (subst (λ g. has (in_row g.row s) x ≡ true) (sym (facts_root p f is).1) h));
  access = λ s p x h. let (subject, path, mode) = held_root s p x h in
      subst (λ t. passes (λ facts. has (in_row facts.row t.0) t.2 && is_allowed smallest t.0 facts t.2) (facts_at smallest t.1) ≡ true)
      (λ i. let t : Triple = (sym subject i, sym path i, sym mode i) in t) root_allows;
  naming = λ s e p x h. cc ((held_root s (e ∷ p) x h).1);
  entries = refl;
}

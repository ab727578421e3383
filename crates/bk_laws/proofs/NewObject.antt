-- What a new object at a free path leaves of facts, cells, levels and used numbers.
use Rattle.std.proofs.Common.{◌≡◌, ℕ, ◌+◌, ◌≤◌, ◌<◌, Bool, true, false, ◌&&◌, not, List, [], ◌∷◌, length, Option, Some, None, refl, sym, ap, ◌∙◌}
use Rattle.std.proofs.Common.{◌==◌, arith, unwrap_or}
use Rattle.std.proofs.lemmas.Cmp.{nat_eq_equiv}
use Rattle.std.proofs.lemmas.List.Sums.{sum_by-cons}
use Rattle.std.specs.Prelude.{option_map, if◌then◌else◌}
use Rattle.std.specs.FinMap as map
use Rattle.bk_base.proofs.Totals.{part, total_of, total-alike, total-le, total-insert}
use Rattle.bk_level.specs.Levels.{dominates}
use Rattle.bk_path.specs.Paths.{Path, path_cmp, is_same}
use Rattle.bk_path.specs.Orders.{path_total, path_apart, same_path, is_same-itself}
use Rattle.bk_object.specs.Limits.{largest_quota}
use Rattle.bk_object.specs.Modes.{AccessMode, has}
use Rattle.bk_object.specs.Kinds.{is_directory}
use Rattle.bk_object.specs.Rows.{in_row, most_subjects}
use Rattle.bk_object.specs.declared.Kind.TheVariants.{Line}
use Rattle.bk_object.specs.declared.Facts.{Facts}
use Rattle.bk_quota.specs.Charges.{passes, charge_of}
use Rattle.bk_state.specs.State.{State, Object, find, facts_at, level_of}
use Rattle.bk_state.specs.Quota.{is_upgraded, governing, level_number, quota_at, used}
use Rattle.bk_state.specs.Secure.{Secure, FitsKind}
use Rattle.bk_laws.proofs.Changes.{facts_in, with_objects, facts_at-insert}
use Rattle.bk_laws.proofs.Tests.{passes_there}
use Rattle.bk_laws.proofs.Shapes.{is_upgraded-by, level_number-by, quota_at-by, share, share_at, part-share}

no_facts : (o : Option Object) → facts_in o ≡ None → o ≡ None
no_facts None e = refl
no_facts (Some x) e = cc

zeros : {K X : Type 0} (es : List (K × X)) → total_of (λ (k : K) (x : X). 0) es ≡ 0
zeros [] = refl
zeros {K} {X} (e ∷ es) = omega (arith, sum_by-cons (λ (e : K × X). 0) e es, zeros es)

-- a directory at another level than its parent's, which has that number, has a cell
abbrev pub is_cell : Facts → (above : ℕ) → Bool
is_cell facts above = is_directory facts.kind && not (facts.level == above)

-- what a new object below the path has to meet
pub record Joins (v : State) (path : Path) (o : Object) : Type 0 where
  pub parent_ok : passes (λ above. is_directory above.kind && dominates (level_of v o.facts) (level_of v above)) (facts_at v path) ≡ true
  pub level : o.facts.level < length v.fixed.levels
  pub kind : FitsKind v.fixed o.facts.kind o.facts o.contents
  pub no_line : (n : ℕ) → o.facts.kind ≡ Line n → ⊥
  pub places : length o.facts.row ≡ most_subjects
  pub row : (s : ℕ) (mode : AccessMode) → has (in_row o.facts.row s) mode ≡ true → ⊥
  pub room : used v (governing v path) + charge_of o.facts (level_number v path) ≤ quota_at v (governing v path)
  pub limit : is_cell o.facts (level_number v path) ≡ true → (1 ≤ o.facts.quota) × (o.facts.quota ≤ largest_quota)
  pub no_limit : is_cell o.facts (level_number v path) ≡ false → o.facts.quota ≡ 0

module _ (v : State) (entry : ℕ) (path : Path) (o : Object) where
  -- the state with the new object
  abbrev pub joined : State
  joined = with_objects v (map.insert v.objects (entry ∷ path) o)

  -- facts and quotas at the new path and at all others
  pub facts_at-new : facts_at joined (entry ∷ path) ≡ Some o.facts
  facts_at-new = facts_at-insert v (entry ∷ path) o (entry ∷ path) ∙ ap (λ b. if b then Some o.facts else facts_at v (entry ∷ path)) (is_same-itself (entry ∷ path))

  pub facts_at-old : (q : Path) → is_same q (entry ∷ path) ≡ false → facts_at joined q ≡ facts_at v q
  facts_at-old q other = facts_at-insert v (entry ∷ path) o q ∙ ap (λ b. if b then Some o.facts else facts_at v q) other

  pub quota_at-new : quota_at joined (entry ∷ path) ≡ o.facts.quota
  quota_at-new = ap (λ a. unwrap_or (option_map (λ facts. facts.quota) a) 0) facts_at-new

  pub quota_at-old : (q : Path) → is_same q (entry ∷ path) ≡ false → quota_at joined q ≡ quota_at v q
  quota_at-old q other = quota_at-by joined v q (facts_at-old q other)

  module _ (sec : Secure v) (free : facts_at v (entry ∷ path) ≡ None) (joins : Joins v path o) where
    -- what was there is another path
    pub other : (q : Path) (f : Facts) → facts_at v q ≡ Some f → is_same q (entry ∷ path) ≡ false
    other q f is = by (is_same q (entry ∷ path)) refl
      where
        by : (b : Bool) → is_same q (entry ∷ path) ≡ b → b ≡ false
        by true same = cc (is, free, ap (facts_at v) (same_path q (entry ∷ path) same))
        by false same = refl

    -- so its facts, its cell and its level are as before
    pub kept : (q : Path) (f : Facts) → facts_at v q ≡ Some f → facts_at joined q ≡ facts_at v q
    kept q f is = facts_at-old q (other q f is)

    above_there : (e : ℕ) (q : Path) (f : Facts) → facts_at v (e ∷ q) ≡ Some f → (g : Facts) × (facts_at v q ≡ Some g)
    above_there e q f is = passes_there _ _ (sec.parents e q f is)

    pub is_upgraded-kept : (q : Path) (f : Facts) → facts_at v q ≡ Some f → is_upgraded joined q ≡ is_upgraded v q
    is_upgraded-kept [] f is = refl
    is_upgraded-kept (e ∷ q) f is =
        let (g, there) = above_there e q f is in
        is_upgraded-by joined v e q (kept q g there) (kept (e ∷ q) f is)

    pub governing-kept : (q : Path) (f : Facts) → facts_at v q ≡ Some f → governing joined q ≡ governing v q
    governing-kept [] f is = refl
    governing-kept (e ∷ q) f is =
        let (g, there) = above_there e q f is in
        λ i. if is_upgraded-kept (e ∷ q) f is i then e ∷ q else governing-kept q g there i

    pub level_number-kept : (q : Path) (f : Facts) → facts_at v q ≡ Some f → level_number joined q ≡ level_number v q
    level_number-kept q f is = level_number-by joined v q (kept q f is)

    -- no cell that was there is the new path
    governing_other : (q : Path) (f : Facts) → facts_at v q ≡ Some f → is_same (governing v q) (entry ∷ path) ≡ false
    governing_other [] f is = refl
    governing_other (e ∷ q) f is =
        let (g, there) = above_there e q f is in
        let here = other (e ∷ q) f is in
        let rest = governing_other q g there in
        elim (is_upgraded v (e ∷ q)) as (λ b. is_same (if b then e ∷ q else governing v q) (entry ∷ path) ≡ false) [ true ↦ here | false ↦ rest ]

    share_at-kept : (cell q : Path) (a : Option Facts) → facts_at v q ≡ a → share_at joined cell q a ≡ share_at v cell q a
    share_at-kept cell q None is = refl
    share_at-kept cell [] (Some f) is = refl
    share_at-kept cell (e ∷ q) (Some f) is =
        let (g, there) = above_there e q f is in
        λ i. if is_same (governing-kept q g there i) cell then charge_of f (level_number-kept q g there i) else 0

    -- what the new object adds to a cell
    abbrev pub extra : Path → ℕ
    extra cell = if is_same (governing v path) cell then charge_of o.facts (level_number v path) else 0

    -- a cell is charged for the new object where it governs its parent
    pub used-joined : (cell : Path) → used joined cell ≡ used v cell + extra cell
    used-joined cell =
        let (g, there) = passes_there _ _ joins.parent_ok in
        let grown = total-insert path_cmp path_apart path_total (λ p x. share joined cell p x.facts) v.objects (entry ∷ path) o (no_facts _ free) in
        let rest = total-alike path_cmp path_apart path_total (λ p x. share joined cell p x.facts) (λ p x. share v cell p x.facts) v.objects v.objects
        (λ q. part-share joined cell q (find v q) ∙ share_at-kept cell q (facts_at v q) refl ∙ sym (part-share v cell q (find v q))) in
        let new : share joined cell (entry ∷ path) o.facts ≡ extra cell = λ i. if is_same (governing-kept path g there i) cell then charge_of o.facts (level_number-kept path g there i) else 0 in
        omega (arith, grown, rest, new)

    used-free : used v (entry ∷ path) ≡ 1
    used-free =
        let none = total-le path_cmp path_apart path_total (λ p x. share v (entry ∷ path) p x.facts) (λ p x. 0) v.objects v.objects
        (λ q. rw (part-share v (entry ∷ path) q (find v q)) (nothing q (facts_at v q) refl (find v q))) in
        omega (arith, none, zeros (map.entries v.objects))
      where
        nothing : (q : Path) (a : Option Facts) → facts_at v q ≡ a → (x : Option Object) → share_at v (entry ∷ path) q a ≤ part (λ p x. 0) q x
        nothing q None is x = omega arith
        nothing [] (Some f) is x = omega arith
        nothing (e ∷ q) (Some f) is x =
            let (g, there) = above_there e q f is in
            rw (governing_other q g there) (omega arith)

    -- of its own cell nothing is used yet
    pub used-new : used joined (entry ∷ path) ≡ 1
    used-new =
        let (g, above) = passes_there _ _ joins.parent_ok in
        let none : extra (entry ∷ path) ≡ 0 = ap (λ b. if b then charge_of o.facts (level_number v path) else 0) (governing_other path g above) in
        omega (arith, used-joined (entry ∷ path), used-free, none)

    -- the new object has a cell where its facts say so
    pub is_upgraded-new : is_upgraded joined (entry ∷ path) ≡ is_cell o.facts (level_number v path)
    is_upgraded-new =
        let (g, above) = passes_there _ _ joins.parent_ok in
        let level : level_number v path ≡ g.level = ap (λ a. unwrap_or (option_map (λ facts. facts.level) a) 0) above in
        let there : facts_at joined path ≡ Some g = kept path g above ∙ above in
        (λ i. passes (λ facts. is_directory facts.kind && passes (λ up. not (up.level == facts.level)) (there i)) (facts_at-new i))
        ∙ ap (λ b. is_directory o.facts.kind && not b) (nat_eq_equiv.symm g.level o.facts.level)
        ∙ ap (λ n. is_cell o.facts n) (sym level)

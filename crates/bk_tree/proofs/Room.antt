-- Where no cell is overdrawn, what all objects need fits root's quota: over a map from paths to values that have facts.
use Rattle.std.proofs.Common.{◌≡◌, ℕ, ◌+◌, ◌≤◌, Bool, true, false, cond, not, ◌&&◌, ◌||◌, ◌==◌, List, [], ◌∷◌, Option, Some, None, refl, sym, ap, ◌∙◌, arith}
use Rattle.std.specs.Prelude.{sum_by, unwrap_or, option_map, if◌then◌else◌}
use Rattle.std.specs.Cmp.{first_so}
use Rattle.std.specs.FinMap.{FinMap, get, entries, len, len-entries}
use Rattle.std.specs.Ordering.{eq_by_cmp}
use Rattle.bk_base.proofs.Totals.{total_of}
use Rattle.bk_object.specs.declared.Facts.{Facts}
use Rattle.bk_object.specs.declared.Kind.{Kind}
use Rattle.bk_object.specs.declared.Kind.TheVariants.{Directory, Segment, Mailbox, Line}
use Rattle.bk_object.specs.Kinds.{is_directory}
use Rattle.bk_path.specs.Paths.{Path, path_cmp, is_root}
use Rattle.bk_path.specs.Orders.{path_total, path_apart, is_same-itself}
use Rattle.bk_quota.specs.Charges.{charge_of, passes, facts_in, level_in, is_upgraded_in, governing_in, share_in, used_in}
use Rattle.bk_tree.specs.Needs.{need_by, need_of, needs_in, core_by, blocks_of, blocks_in}
use Rattle.bk_tree.proofs.Sums.{zeros, ones, plus, swap_sums, found_le, pointwise, only_le}
use Rattle.bk_tree.proofs.Smaller.{charge_kind, charge_is, charge_by}

no_and : (b : Bool) → (b && false) ≡ true → ⊥
no_and true h = cc
no_and false h = cc

-- an upgraded directory is charged its quota
upgraded_charge : (f : Facts) (above : Option Facts) → (is_directory f.kind && passes (λ (a : Facts). not (a.level == f.level)) above) ≡ true →
    charge_of f (unwrap_or (option_map (λ (a : Facts). a.level) above) 0) ≡ f.quota
upgraded_charge f None up = absurd (no_and (is_directory f.kind) up)
upgraded_charge f (Some a) up = charge_is f.kind f a.level ∙ charge_kind f.kind f.blocks f.level f.quota a.level up

need_directory : (kind : Kind) (blocks : ℕ) → is_directory kind ≡ true → need_by kind blocks ≡ 1
need_directory Directory blocks h = refl
need_directory Segment blocks h = cc
need_directory Mailbox blocks h = cc
need_directory (Line n) blocks h = cc

-- what is charged is needed
need_le : (kind : Kind) (blocks level quota above : ℕ) → 1 ≤ charge_by kind blocks level quota above → need_by kind blocks ≤ charge_by kind blocks level quota above
need_le Directory blocks level quota above some = some
need_le Segment blocks level quota above some = omega arith
need_le Mailbox blocks level quota above some = omega arith
need_le (Line n) blocks level quota above some = omega arith

need_some : (kind : Kind) (blocks level quota above : ℕ) → 1 ≤ charge_by kind blocks level quota above → 1 ≤ need_by kind blocks
need_some Directory blocks level quota above some = omega arith
need_some Segment blocks level quota above some = some
need_some Mailbox blocks level quota above some = omega arith
need_some (Line n) blocks level quota above some = omega arith

core_le : (kind : Kind) (blocks : ℕ) → core_by kind blocks ≤ need_by kind blocks
core_le Directory blocks = omega arith
core_le Segment blocks = omega arith
core_le Mailbox blocks = omega arith
core_le (Line n) blocks = omega arith

core_directory : (kind : Kind) (blocks : ℕ) → is_directory kind ≡ true → core_by kind blocks ≡ 0
core_directory Directory blocks h = refl
core_directory Segment blocks h = cc
core_directory Mailbox blocks h = cc
core_directory (Line n) blocks h = cc

module _ {X : Type 0} (facts_of : X → Facts) (m : FinMap path_cmp X) where
  -- root and each upgraded directory have a cell
  abbrev pub has_cell_in : Path → Bool
  has_cell_in path = is_root path || is_upgraded_in facts_of m path

  -- what governs has a cell
  pub governing-has_cell : (p : Path) → has_cell_in (governing_in facts_of m p) ≡ true
  governing-has_cell [] = refl
  governing-has_cell (e ∷ p) = by (is_upgraded_in facts_of m (e ∷ p)) refl (governing-has_cell p)
    where
      by : (b : Bool) → is_upgraded_in facts_of m (e ∷ p) ≡ b → has_cell_in (governing_in facts_of m p) ≡ true → has_cell_in (if b then e ∷ p else governing_in facts_of m p) ≡ true
      by true is rest = is
      by false is rest = rest

  abbrev pub HasParents : Type 0
  HasParents = (e : ℕ) (p : Path) (x : X) → get m (e ∷ p) ≡ Some x → (d : X) × (get m p ≡ Some d)

  -- the cell that governs a directory that is there is there
  pub governing_there : HasParents → (q : Path) (x : X) → get m q ≡ Some x → (c : X) × (get m (governing_in facts_of m q) ≡ Some c)
  governing_there parents [] x h = (x, h)
  governing_there parents (e ∷ p) x h =
      let (d, hd) = parents e p x h in
      by (is_upgraded_in facts_of m (e ∷ p)) (governing_there parents p d hd)
    where
      by : (t : Bool) → (c : X) × (get m (governing_in facts_of m p) ≡ Some c) → (c : X) × (get m (if t then e ∷ p else governing_in facts_of m p) ≡ Some c)
      by true rest = (x, h)
      by false rest = rest

  -- root is there, parents are, each object is charged something, and no cell is overdrawn
  module _ (root : X) (top : get m [] ≡ Some root) (parents : HasParents)
      (charges : (e : ℕ) (p : Path) (x : X) → get m (e ∷ p) ≡ Some x → 1 ≤ charge_of (facts_of x) (level_in facts_of m p))
      (within : (q : Path) (x : X) → get m q ≡ Some x → has_cell_in q ≡ true → used_in facts_of m q ≤ (facts_of x).quota) where
    abbrev es : List (Path × X)
    es = entries m

    -- what an object takes from a cell, if the path has one
    abbrev taken_by : Path → Path × X → ℕ
    taken_by cell o = cond (has_cell_in cell) (share_in facts_of m cell o.0 (facts_of o.1)) 0

    abbrev cell_at : Path → X → ℕ
    cell_at q x = cond (has_cell_in q) 1 0

    abbrev limit_at : Path → X → ℕ
    limit_at q x = cond (has_cell_in q) ((facts_of x).quota) 0

    abbrev taken_at : Path → X → ℕ
    taken_at q x = sum_by (λ o. taken_by q o) es

    abbrev charge_at : Path → X → ℕ
    charge_at [] x = 0
    charge_at (e ∷ p) x = charge_of (facts_of x) (level_in facts_of m p)

    abbrev need_at : Path → X → ℕ
    need_at q x = need_of q (facts_of x)

    -- 1 and the quota of root, and nothing of any other
    abbrev one_at : Path → X → ℕ
    one_at [] x = 1
    one_at (e ∷ p) x = 0

    abbrev root_at : Path → X → ℕ
    root_at [] x = (facts_of x).quota
    root_at (e ∷ p) x = 0

    -- some cell is charged for each object
    charged : (q : Path) (x : X) → get m q ≡ Some x → charge_at q x ≤ sum_by (λ c. taken_by c.0 (q, x)) es
    charged [] x h = omega arith
    charged (e ∷ p) x h =
        let (d, hd) = parents e p x h in
        let (c, hc) = governing_there parents p d hd in
        let value : taken_by (governing_in facts_of m p) (e ∷ p, x) ≡ charge_of (facts_of x) (level_in facts_of m p) =
        (λ i. cond (governing-has_cell p i) (cond (is_same-itself (governing_in facts_of m p) i) (charge_of (facts_of x) (level_in facts_of m p)) 0) 0) in
        omega (arith, value, found_le path_cmp path_apart path_total (λ q (y : X). taken_by q (e ∷ p, x)) m (governing_in facts_of m p) c hc)

    -- no cell is overdrawn
    within_limit : (q : Path) (x : X) → get m q ≡ Some x → cell_at q x + taken_at q x ≤ limit_at q x
    within_limit q x h = by (has_cell_in q) refl
      where
        by : (b : Bool) → has_cell_in q ≡ b → cond b 1 0 + sum_by (λ o. cond b (share_in facts_of m q o.0 (facts_of o.1)) 0) es ≤ cond b ((facts_of x).quota) 0
        by true is = within q x h is
        by false is = omega (arith, zeros es)

    upgraded_is : (e : ℕ) (p : Path) (x : X) → get m (e ∷ p) ≡ Some x →
        is_upgraded_in facts_of m (e ∷ p) ≡ (is_directory ((facts_of x).kind) && passes (λ (a : Facts). not (a.level == (facts_of x).level)) (facts_in facts_of m p))
    upgraded_is e p x h =
        ap (λ o. passes (λ (f : Facts). is_directory f.kind && passes (λ (a : Facts). not (a.level == f.level)) (facts_in facts_of m p)) (option_map facts_of o)) h

    each_one : (q : Path) (x : X) → get m q ≡ Some x → one_at q x + need_at q x + limit_at q x ≤ cell_at q x + charge_at q x + root_at q x
    each_one [] x h = omega arith
    each_one (e ∷ p) x h = by (is_upgraded_in facts_of m (e ∷ p)) refl
      where
        f : Facts
        f = facts_of x

        by : (b : Bool) → is_upgraded_in facts_of m (e ∷ p) ≡ b →
            0 + need_by f.kind f.blocks + cond b f.quota 0 ≤ cond b 1 0 + charge_of f (level_in facts_of m p) + 0
        by true is =
            let up = sym (upgraded_is e p x h) ∙ is in
            let charge = upgraded_charge (facts_of x) (facts_in facts_of m p) up in
            let need = need_directory ((facts_of x).kind) ((facts_of x).blocks) (first_so (is_directory ((facts_of x).kind)) _ up) in
            omega (arith, charge, need)
        by false is =
            let charge = charge_is ((facts_of x).kind) (facts_of x) (level_in facts_of m p) in
            let some = charges e p x h in
            let need = need_le ((facts_of x).kind) ((facts_of x).blocks) ((facts_of x).level) ((facts_of x).quota) (level_in facts_of m p) (omega (arith, charge, some)) in
            omega (arith, charge, need)

    root_total : total_of root_at es ≤ (facts_of root).quota
    root_total = only_le path_cmp path_apart path_total root_at m [] ((facts_of root).quota) (λ q x h other. alone q other x) (λ x h. same x h)
      where
        alone : (q : Path) → eq_by_cmp path_cmp q [] ≡ false → (x : X) → root_at q x ≡ 0
        alone [] other x = cc
        alone (e ∷ p) other x = refl

        same : (x : X) → get m [] ≡ Some x → (facts_of x).quota ≤ (facts_of root).quota
        same x h =
            let is : (facts_of root).quota ≡ (facts_of x).quota = ap (λ o. unwrap_or (option_map (λ y. (facts_of y).quota) o) 0) (sym top ∙ h) in
            omega (arith, is)

    -- what all objects need, and 1, is at most root's quota
    pub needs : 1 + needs_in facts_of m ≤ (facts_of root).quota
    needs =
        let overdrawn = pointwise path_cmp path_apart path_total m (λ q x. cell_at q x + taken_at q x) limit_at within_limit in
        let cells = plus (λ (e : Path × X). cell_at e.0 e.1) (λ e. taken_at e.0 e.1) es in
        let swapped = swap_sums (λ (c o : Path × X). taken_by c.0 o) es es in
        let all = pointwise path_cmp path_apart path_total m charge_at (λ q x. sum_by (λ c. taken_by c.0 (q, x)) es) charged in
        let every = pointwise path_cmp path_apart path_total m (λ q x. one_at q x + need_at q x + limit_at q x) (λ q x. cell_at q x + charge_at q x + root_at q x) each_one in
        let left = plus (λ (e : Path × X). one_at e.0 e.1 + need_at e.0 e.1) (λ e. limit_at e.0 e.1) es in
        let left' = plus (λ (e : Path × X). one_at e.0 e.1) (λ e. need_at e.0 e.1) es in
        let right = plus (λ (e : Path × X). cell_at e.0 e.1 + charge_at e.0 e.1) (λ e. root_at e.0 e.1) es in
        let right' = plus (λ (e : Path × X). cell_at e.0 e.1) (λ e. charge_at e.0 e.1) es in
        let one = found_le path_cmp path_apart path_total one_at m [] root top in
        omega (arith, overdrawn, cells, swapped, all, every, left, left', right, right', one, root_total)

    -- there are no more objects than root's quota
    pub objects : len m ≤ (facts_of root).quota
    objects =
        let each = pointwise path_cmp path_apart path_total m (λ q x. 1) (λ q x. one_at q x + need_at q x) at_least in
        let split = plus (λ (e : Path × X). one_at e.0 e.1) (λ e. need_at e.0 e.1) es in
        let one = only_le path_cmp path_apart path_total one_at m [] 1 (λ q x h other. alone q other x) (λ x h. omega arith) in
        omega (arith, each, split, one, ones es, len-entries m, needs)
      where
        alone : (q : Path) → eq_by_cmp path_cmp q [] ≡ false → (x : X) → one_at q x ≡ 0
        alone [] other x = cc
        alone (e ∷ p) other x = refl

        at_least : (q : Path) (x : X) → get m q ≡ Some x → 1 ≤ one_at q x + need_at q x
        at_least [] x h = omega arith
        at_least (e ∷ p) x h =
            let charge = charge_is ((facts_of x).kind) (facts_of x) (level_in facts_of m p) in
            let some = charges e p x h in
            let need = need_some ((facts_of x).kind) ((facts_of x).blocks) ((facts_of x).level) ((facts_of x).quota) (level_in facts_of m p) (omega (arith, charge, some)) in
            omega (arith, need)

    -- the blocks of all segments are fewer than root's quota
    pub blocks : is_directory ((facts_of root).kind) ≡ true → 1 + blocks_in facts_of m ≤ (facts_of root).quota
    blocks kind =
        let each = pointwise path_cmp path_apart path_total m (λ q x. blocks_of (facts_of x)) need_at within_need in
        omega (arith, each, needs)
      where
        within_need : (q : Path) (x : X) → get m q ≡ Some x → blocks_of (facts_of x) ≤ need_at q x
        within_need [] x h =
            let is : is_directory ((facts_of root).kind) ≡ is_directory ((facts_of x).kind) = ap (λ o. unwrap_or (option_map (λ y. is_directory ((facts_of y).kind)) o) false) (sym top ∙ h) in
            let none = core_directory ((facts_of x).kind) ((facts_of x).blocks) (sym is ∙ kind) in
            omega (arith, none)
        within_need (e ∷ p) x h = core_le ((facts_of x).kind) ((facts_of x).blocks)

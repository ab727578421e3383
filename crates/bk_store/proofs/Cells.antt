-- Cells are counted by the facts alone: in a map with each value changed, where the facts stay.
use Rattle.std.proofs.Common.{◌≡◌, ◌+◌, ◌≤◌, ℕ, true, ◌&&◌, not, ◌==◌, List, [], ◌∷◌, map, Option, Some, None, refl, sym, ap, ◌∙◌, arith, T, is_lt, subst}
use Rattle.std.specs.Prelude.{option_map, unwrap_or, if◌then◌else◌, sum_by}
use Rattle.std.specs.FinMap as finite
use Rattle.std.specs.FinMap.Entries.{below_all}
use Rattle.std.proofs.lemmas.List.Sums.{sum_by-cons}
use Rattle.bk_base.specs.Maps.{map_values}
use Rattle.bk_base.proofs.MapValues.{get-map_values}
use Rattle.bk_base.proofs.Totals.{total_of}
use Rattle.bk_object.specs.declared.Facts.{Facts}
use Rattle.bk_object.specs.declared.kind.Kind.{Kind}
use Rattle.bk_object.specs.declared.kind.Kind.TheVariants.{Directory, Segment, Mailbox, Line}
use Rattle.bk_object.specs.Kinds.{is_directory}
use Rattle.bk_path.specs.Paths.{Path, parent, path_cmp, is_same}
use Rattle.bk_quota.specs.Charges.{passes, charge_of, level_in, facts_in, is_upgraded_in, governing_in, quota_in, share_in, used_in}
use Rattle.bk_quota.specs.Usage.{Usage}
use Rattle.bk_tree.specs.declared.place.Placed.{Placed}
use Rattle.bk_tree.specs.Objects.{Objects, facts_of}
use Rattle.bk_tree.specs.Kept.{cell_in, HasDirectory, Fits as FitsTree}
use Rattle.bk_tree.specs.Needs.{blocks_of, core_by}
use Rattle.bk_store.specs.Stored.{Entry, Stored, Fits, cell_of, level_number}
use Rattle.bk_store.specs.Joined.{Tables, entry_of, entries_of, or_zero, size_of, blocks_of as blocks_of_kind}
use Rattle.bk_store.proofs.Entries.{get-entry}

-- limit and used number of the cell that governs a directory
abbrev pub usage_in : {X : Type 0} → (X → Facts) → finite.FinMap path_cmp X → Path → Usage
usage_in of m path = record { limit = quota_in of m (governing_in of m path); used = used_in of m (governing_in of m path) }

module _ {X Y : Type 0} (f : X → Y) (of : Y → Facts) where
  abbrev each : List (Path × X) → List (Path × Y)
  each es = map (λ e. (e.0, f e.1)) es

  below-each : (x : Path) (es : List (Path × X)) → below_all path_cmp x (each es) ≡ below_all path_cmp x es
  below-each x [] = refl
  below-each x (e ∷ es) = ap (λ b. is_lt (path_cmp x e.0) && b) (below-each x es)

  sorted-each : (es : List (Path × X)) → finite.is_sorted path_cmp (each es) ≡ finite.is_sorted path_cmp es
  sorted-each [] = refl
  sorted-each (e ∷ es) = λ i. below-each e.0 es i && sorted-each es i

  -- the facts before the change
  abbrev before : X → Facts
  before x = of (f x)

  module _ (m : finite.FinMap path_cmp X) where
    abbrev later : finite.FinMap path_cmp Y
    later = map_values f m

    entries-later : finite.entries later ≡ each (finite.entries m)
    entries-later = finite.entries-from_sorted path_cmp (each (finite.entries m)) (subst T (sym (sorted-each (finite.entries m))) (finite.entries_sorted m))

    pub facts-same : (p : Path) → facts_in of later p ≡ facts_in before m p
    facts-same p = ap (option_map of) (get-map_values path_cmp f m p) ∙ by (finite.get m p)
      where
        by : (o : Option X) → option_map of (option_map f o) ≡ option_map before o
        by None = refl
        by (Some a) = refl

    upgraded-same : (p : Path) → is_upgraded_in of later p ≡ is_upgraded_in before m p
    upgraded-same [] = refl
    upgraded-same (e ∷ p) = λ i. passes (λ facts. is_directory facts.kind && passes (λ above. not (above.level == facts.level)) (facts-same p i)) (facts-same (e ∷ p) i)

    pub governing-same : (p : Path) → governing_in of later p ≡ governing_in before m p
    governing-same [] = refl
    governing-same (e ∷ p) = λ i. if upgraded-same (e ∷ p) i then e ∷ p else governing-same p i

    share-same : (cell p : Path) (facts : Facts) → share_in of later cell p facts ≡ share_in before m cell p facts
    share-same cell [] facts = refl
    share-same cell (e ∷ p) facts = λ i. if is_same (governing-same p i) cell then charge_of facts (unwrap_or (option_map (λ (g : Facts). g.level) (facts-same p i)) 0) else 0

    pub used-same : (cell : Path) → used_in of later cell ≡ used_in before m cell
    used-same cell = ap (λ es. 1 + sum_by (λ o. share_in of later cell o.0 (of o.1)) es) entries-later ∙ ap (λ n. 1 + n) (sums (finite.entries m))
      where
        sums : (es : List (Path × X)) → sum_by (λ o. share_in of later cell o.0 (of o.1)) (each es) ≡ sum_by (λ o. share_in before m cell o.0 (before o.1)) es
        sums [] = refl
        sums (e ∷ es) = omega (
          arith,
          sums es,
          share-same cell e.0 (before e.1),
          sum_by-cons (λ (o : Path × Y). share_in of later cell o.0 (of o.1)) (e.0, f e.1) (each es),
          sum_by-cons (λ (o : Path × X). share_in before m cell o.0 (before o.1)) e es,
        )

    pub level-same : (p : Path) → level_in of later p ≡ level_in before m p
    level-same p = λ i. unwrap_or (option_map (λ (g : Facts). g.level) (facts-same p i)) 0

    pub quota-same : (p : Path) → quota_in of later p ≡ quota_in before m p
    quota-same p = λ i. unwrap_or (option_map (λ (g : Facts). g.quota) (facts-same p i)) 0

    -- the cell that governs a directory
    pub usage-same : (p : Path) → usage_in of later p ≡ usage_in before m p
    usage-same p = λ i. record {
      limit = (ap (quota_in of later) (governing-same p) ∙ quota-same (governing_in before m p)) i;
      used = (ap (used_in of later) (governing-same p) ∙ used-same (governing_in before m p)) i;
    }

module _ (tree : Objects) (tables : Tables) where
  pub cell-same : (v : Stored) → v.objects ≡ entries_of tree tables → (path : Path) → cell_in tree (governing_in facts_of tree path) ≡ cell_of v path
  cell-same v is path = sym (ap (λ m. usage_in (λ (e : Entry). e.facts) m path) is ∙ usage-same (entry_of tables) (λ (e : Entry). e.facts) tree path)

  -- the level of a parent
  pub number-same : (v : Stored) → v.objects ≡ entries_of tree tables → (p : Path) → level_number v p ≡ level_in facts_of tree p
  number-same v is p = ap (λ m. level_in (λ (e : Entry). e.facts) m p) is ∙ level-same (entry_of tables) (λ (e : Entry). e.facts) tree p

  -- what fits in the tree fits in the store
  pub fits-same : (v : Stored) → v.objects ≡ entries_of tree tables → (path : Path) (facts : Facts) → FitsTree tree path facts ≡ Fits v path facts
  fits-same v is path facts = λ i. (cell-same v is (parent path) i).used + charge_of facts (sym (number-same v is (parent path)) i) ≤ (cell-same v is (parent path) i).limit

-- a directory is in the tree
pub directory_in_tree : (tree : Objects) (tables : Tables) (p : Path) → passes (λ (e : Entry). is_directory e.facts.kind) (finite.get (entries_of tree tables) p) ≡ true → HasDirectory tree p
directory_in_tree tree tables p h = by (finite.get tree p) refl (sym (ap (passes (λ (e : Entry). is_directory e.facts.kind)) (get-entry tree tables p)) ∙ h)
  where
    by : (o : Option Placed) → finite.get tree p ≡ o → passes (λ (e : Entry). is_directory e.facts.kind) (option_map (entry_of tables) o) ≡ true → HasDirectory tree p
    by None is k = cc
    by (Some a) is k = (a, is, k)

-- the blocks of all segments, counted in two words
pub blocks-same : (es : List (Path × Placed)) → sum_by (λ o. blocks_of (facts_of o.1)) es ≡ total_of (λ p (a : Placed). size_of a.facts) es
blocks-same [] = refl
blocks-same (e ∷ es) = omega (
  arith,
  blocks-same es,
  by e.1.facts.kind e.1.facts.blocks,
  sum_by-cons (λ (o : Path × Placed). blocks_of (facts_of o.1)) e es,
  sum_by-cons (λ (o : Path × Placed). size_of o.1.facts) e es,
)
  where
    by : (kind : Kind) (blocks : ℕ) → core_by kind blocks ≡ or_zero (blocks_of_kind kind blocks)
    by Directory blocks = refl
    by Segment blocks = refl
    by Mailbox blocks = refl
    by (Line n) blocks = refl

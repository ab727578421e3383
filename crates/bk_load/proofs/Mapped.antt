-- What a store's objects with their contents say of the store itself: facts, levels, cells.
use Rattle.std.proofs.Common.{◌≡◌, ℕ, ◌+◌, ◌≤◌, Bool, not, ◌&&◌, ◌==◌, List, [], ◌∷◌, map as each_of, Option, Some, None, refl, sym, ap}
use Rattle.std.proofs.Common.{subst, ◌∙◌, arith, T, is_lt}
use Rattle.std.specs.Prelude.{option_map, unwrap_or, if◌then◌else◌, sum_by}
use Rattle.std.specs.FinMap as map
use Rattle.std.specs.FinMap.Entries.{below_all}
use Rattle.std.proofs.lemmas.List.Sums.{sum_by-cons}
use Rattle.bk_object.specs.Kinds.{is_directory}
use Rattle.bk_object.specs.declared.facts.Facts.{Facts}
use Rattle.bk_path.specs.Paths.{Path, parent, path_cmp, is_same}
use Rattle.bk_quota.specs.Charges.{passes, charge_of, governing_in, is_upgraded_in, level_in, quota_in, share_in, used_in}
use Rattle.bk_state.specs.State.{Object}
use Rattle.bk_image.specs.Objects.{Objects, facts_at}
use Rattle.bk_store.specs.Stored.{Entry, Stored, Fits, level_number, object_of, objects_of}
use Rattle.bk_store.proofs.Stands.{get-objects_of}
use Rattle.bk_load.proofs.Parts.{facts_of}

abbrev pub entry_facts : Entry → Facts
entry_facts e = e.facts

module _ (words : List ℕ) where
  abbrev each : List (Path × Entry) → List (Path × Object)
  each es = each_of (λ e. (e.0, object_of words e.1)) es

  below-each : (x : Path) (es : List (Path × Entry)) → below_all path_cmp x (each es) ≡ below_all path_cmp x es
  below-each x [] = refl
  below-each x (e ∷ es) = ap (λ b. is_lt (path_cmp x e.0) && b) (below-each x es)

  sorted-each : (es : List (Path × Entry)) → map.is_sorted path_cmp (each es) ≡ map.is_sorted path_cmp es
  sorted-each [] = refl
  sorted-each (e ∷ es) = λ i. below-each e.0 es i && sorted-each es i

  module _ (v : Stored) where
    abbrev all : Objects
    all = objects_of v words

    entries-all : map.entries all ≡ each (map.entries v.objects)
    entries-all = map.entries-from_sorted path_cmp (each (map.entries v.objects)) (subst T (sym (sorted-each (map.entries v.objects))) (map.entries_sorted v.objects))

    pub facts-same : (p : Path) → facts_at all p ≡ option_map entry_facts (map.get v.objects p)
    facts-same p = ap (option_map facts_of) (get-objects_of v words p) ∙ by (map.get v.objects p)
      where
        by : (o : Option Entry) → option_map facts_of (option_map (object_of words) o) ≡ option_map entry_facts o
        by None = refl
        by (Some e) = refl

    -- a test of the facts of what is there
    pub passes-same : (test : Facts → Bool) (p : Path) → passes (λ (e : Entry). test e.facts) (map.get v.objects p) ≡ passes test (facts_at all p)
    passes-same test p = by (map.get v.objects p) ∙ ap (passes test) (sym (facts-same p))
      where
        by : (o : Option Entry) → passes (λ (e : Entry). test e.facts) o ≡ passes test (option_map entry_facts o)
        by None = refl
        by (Some e) = refl

    upgraded-same : (p : Path) → is_upgraded_in facts_of all p ≡ is_upgraded_in entry_facts v.objects p
    upgraded-same [] = refl
    upgraded-same (entry ∷ p) = λ i. passes (λ facts. is_directory facts.kind && passes (λ above. not (above.level == facts.level)) (facts-same p i)) (facts-same (entry ∷ p) i)

    governing-same : (p : Path) → governing_in facts_of all p ≡ governing_in entry_facts v.objects p
    governing-same [] = refl
    governing-same (entry ∷ p) = λ i. if upgraded-same (entry ∷ p) i then entry ∷ p else governing-same p i

    pub level-same : (p : Path) → level_in facts_of all p ≡ level_in entry_facts v.objects p
    level-same p = ap (λ o. unwrap_or (option_map (λ (f : Facts). f.level) o) 0) (facts-same p)

    quota-same : (p : Path) → quota_in facts_of all p ≡ quota_in entry_facts v.objects p
    quota-same p = ap (λ o. unwrap_or (option_map (λ (f : Facts). f.quota) o) 0) (facts-same p)

    share-same : (cell p : Path) (facts : Facts) → share_in facts_of all cell p facts ≡ share_in entry_facts v.objects cell p facts
    share-same cell [] facts = refl
    share-same cell (entry ∷ p) facts = λ i. if is_same (governing-same p i) cell then charge_of facts (level-same p i) else 0

    used-same : (cell : Path) → used_in facts_of all cell ≡ used_in entry_facts v.objects cell
    used-same cell = ap (λ es. 1 + sum_by (λ (o : Path × Object). share_in facts_of all cell o.0 o.1.facts) es) entries-all ∙ ap (λ n. 1 + n) (sums (map.entries v.objects))
      where
        sums : (es : List (Path × Entry)) → sum_by (λ (o : Path × Object). share_in facts_of all cell o.0 o.1.facts) (each es) ≡ sum_by (λ (o : Path × Entry). share_in entry_facts v.objects cell o.0 o.1.facts) es
        sums [] = refl
        sums (e ∷ es) = omega (
          arith,
          sums es,
          share-same cell e.0 e.1.facts,
          sum_by-cons (λ (o : Path × Object). share_in facts_of all cell o.0 o.1.facts) (e.0, object_of words e.1) (each es),
          sum_by-cons (λ (o : Path × Entry). share_in entry_facts v.objects cell o.0 o.1.facts) e es,
        )

    -- what fits beside the objects fits in the store
    pub fits-stored : (path : Path) (facts : Facts) →
        used_in facts_of all (governing_in facts_of all (parent path)) + charge_of facts (level_in facts_of all (parent path)) ≤ quota_in facts_of all (governing_in facts_of all (parent path)) → Fits v path facts
    fits-stored path facts fits =
        let cell = governing_in entry_facts v.objects (parent path) in
        let used : used_in facts_of all (governing_in facts_of all (parent path)) ≡ used_in entry_facts v.objects cell = ap (used_in facts_of all) (governing-same (parent path)) ∙ used-same cell in
        let charge : charge_of facts (level_in facts_of all (parent path)) ≡ charge_of facts (level_number v (parent path)) = ap (charge_of facts) (level-same (parent path)) in
        let quota : quota_in facts_of all (governing_in facts_of all (parent path)) ≡ quota_in entry_facts v.objects cell = ap (quota_in facts_of all) (governing-same (parent path)) ∙ quota-same cell in
        omega (arith, fits, used, charge, quota)

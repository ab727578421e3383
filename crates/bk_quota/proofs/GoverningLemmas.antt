-- What governs a directory is the longest of its prefixes that has a cell.
use Rattle.std.proofs.Common.{◌≡◌, ◌≢◌, Bool, true, false, cond, ◌&&◌, [], ◌∷◌, Some, refl, sym, ap, subst, ◌∙◌, ◌⊎◌, inl, inr}
use Rattle.std.specs.Prelude.{not, ◌==◌}
use Rattle.std.specs.FinMap as map
use Rattle.bk_object.specs.declared.Facts.{Facts}
use Rattle.bk_path.specs.Paths.{Path, path_cmp, parent, IsInferior}
use Rattle.bk_object.specs.Kinds.{is_directory}
use Rattle.bk_quota.specs.Charges.{facts_in, governing_in, is_upgraded_in, passes}

module _ {X : Type 0} (facts_of : X → Facts) (m : map.FinMap path_cmp X) where
  pub governing-prefix : (path : Path) → IsInferior path (governing_in facts_of m path)
  governing-prefix [] = ([], refl)
  governing-prefix (entry ∷ path) = by (is_upgraded_in facts_of m (entry ∷ path)) (governing-prefix path)
    where
      by : (b : Bool) → IsInferior path (governing_in facts_of m path) → IsInferior (entry ∷ path) (cond b (entry ∷ path) (governing_in facts_of m path))
      by true rest = ([], refl)
      by false (below, whole) = (entry ∷ below, ap (λ p. entry ∷ p) whole)

  pub governing-cell : (path : Path) → (governing_in facts_of m path ≡ []) ⊎ (is_upgraded_in facts_of m (governing_in facts_of m path) ≡ true)
  governing-cell [] = inl refl
  governing-cell (entry ∷ path) = by (is_upgraded_in facts_of m (entry ∷ path)) refl (governing-cell path)
    where
      by : (b : Bool) → is_upgraded_in facts_of m (entry ∷ path) ≡ b → (governing_in facts_of m path ≡ []) ⊎ (is_upgraded_in facts_of m (governing_in facts_of m path) ≡ true) →
          (cond b (entry ∷ path) (governing_in facts_of m path) ≡ []) ⊎ (is_upgraded_in facts_of m (cond b (entry ∷ path) (governing_in facts_of m path)) ≡ true)
      by true is rest = inr is
      by false is rest = rest

  pub governing-longest : (path between : Path) → IsInferior path between → is_upgraded_in facts_of m between ≡ true → IsInferior (governing_in facts_of m path) between
  governing-longest [] between ([], whole) up = absurd (cc (subst (λ p. is_upgraded_in facts_of m p ≡ true) whole up))
  governing-longest [] between (entry ∷ below, whole) up = absurd (cc whole)
  governing-longest (entry ∷ path) between inside up = by (is_upgraded_in facts_of m (entry ∷ path)) refl (governing-longest path between)
    where
      by : (b : Bool) → is_upgraded_in facts_of m (entry ∷ path) ≡ b → (IsInferior path between → is_upgraded_in facts_of m between ≡ true → IsInferior (governing_in facts_of m path) between) →
          IsInferior (cond b (entry ∷ path) (governing_in facts_of m path)) between
      by true is rest = inside
      by false is rest = shorter inside
        where
          shorter : IsInferior (entry ∷ path) between → IsInferior (governing_in facts_of m path) between
          shorter ([], whole) = absurd (cc (sym is ∙ subst (λ p. is_upgraded_in facts_of m p ≡ true) whole up))
          shorter (first ∷ below, whole) = rest (below, ap parent whole) up

  -- what the test for an upgraded directory comes to where an object is at the path
  upgraded-there : (path above : Path) (facts : Facts) → path ≢ [] → above ≡ parent path → Some facts ≡ facts_in facts_of m path →
      is_upgraded_in facts_of m path ≡ (is_directory facts.kind && passes (λ (up : Facts). not (up.level == facts.level)) (facts_in facts_of m above))
  upgraded-there [] above facts below is there = absurd (below refl)
  upgraded-there (entry ∷ path) above facts below is there =
      λ i. passes (λ f. is_directory f.kind && passes (λ (up : Facts). not (up.level == f.level)) (facts_in facts_of m (sym is i))) (sym there i)

  pub upgraded-directory : (path above : Path) (facts : Facts) → path ≢ [] → above ≡ parent path → Some facts ≡ facts_in facts_of m path → is_directory facts.kind ≡ true →
      passes (λ (up : Facts). not (up.level == facts.level)) (facts_in facts_of m above) ≡ is_upgraded_in facts_of m path
  upgraded-directory path above facts below is there kind =
      sym (upgraded-there path above facts below is there ∙ ap (λ b. b && passes (λ (up : Facts). not (up.level == facts.level)) (facts_in facts_of m above)) kind)

  pub upgraded-other : (path above : Path) (facts : Facts) → path ≢ [] → above ≡ parent path → Some facts ≡ facts_in facts_of m path → is_directory facts.kind ≡ false →
      is_directory facts.kind ≡ is_upgraded_in facts_of m path
  upgraded-other path above facts below is there kind =
      kind ∙ sym (upgraded-there path above facts below is there ∙ ap (λ b. b && passes (λ (up : Facts). not (up.level == facts.level)) (facts_in facts_of m above)) kind)

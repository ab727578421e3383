-- The cells and used numbers of the example.
use Rattle.std.proofs.Common.{◌≡◌, ◌+◌, [], ◌∷◌, Some, refl, ap, ◌∙◌}
use Rattle.std.specs.Prelude.{option_map, sum_by}
use Rattle.std.specs.FinMap as map
use Rattle.bk_object.specs.declared.Kind.TheVariants.{Directory}
use Rattle.bk_path.specs.Paths.{Path, path_cmp}
use Rattle.bk_quota.specs.Charges.{facts_in, governing_in, share_in, used_in}
use Rattle.bk_quota.specs.Example.{example, example_entries, facts_with}

found : (p : Path) → facts_in (λ f. f) example p ≡ option_map (λ f. f) (map.find path_cmp p example_entries)
found p = ap (option_map (λ f. f)) (map.get-from_sorted path_cmp example_entries p tt)

at_root : facts_in (λ f. f) example [] ≡ Some (facts_with Directory 0 0 16)
at_root = found []

at_upgraded : facts_in (λ f. f) example (1 ∷ []) ≡ Some (facts_with Directory 0 1 5)
at_upgraded = found (1 ∷ [])

at_plain : facts_in (λ f. f) example (1 ∷ 1 ∷ []) ≡ Some (facts_with Directory 0 1 0)
at_plain = found (1 ∷ 1 ∷ [])

pub governs_plain : governing_in (λ f. f) example (1 ∷ 1 ∷ []) ≡ 1 ∷ []
governs_plain = rw (at_root, at_upgraded, at_plain) refl

pub used_root : used_in (λ f. f) example [] ≡ 8
used_root =
    ap (λ es. 1 + sum_by (λ e. share_in (λ f. f) example [] e.0 e.1) es) (map.entries-from_sorted path_cmp example_entries tt)
    ∙ rw (at_root, at_upgraded, at_plain) refl

pub used_upgraded : used_in (λ f. f) example (1 ∷ []) ≡ 5
used_upgraded =
    ap (λ es. 1 + sum_by (λ e. share_in (λ f. f) example (1 ∷ []) e.0 e.1) es) (map.entries-from_sorted path_cmp example_entries tt)
    ∙ rw (at_root, at_upgraded, at_plain) refl

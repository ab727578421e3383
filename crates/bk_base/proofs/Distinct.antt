-- Lists of entries in which no key stands twice.
use Rattle.std.proofs.Common.{◌≡◌, ℕ, Bool, true, false, cond, List, [], ◌∷◌, ◌++◌, length, Some, None, refl, sym, ap, ◌∙◌, arith, Ordering}
use Rattle.std.specs.Ordering.{eq_by_cmp}
use Rattle.std.specs.Cmp.{IsTotalOrder, eq_by_cmp_equiv}
use Rattle.std.specs.FinMap.{IsAntisymmetric, find, entries, from_entries, get-from_entries, len-empty, len-entries}
use Rattle.std.specs.FinMap.Entries.{where_key, find-where_key, find-append}
use Rattle.std.proofs.lemmas.List.Sums.{sum_by-cons}
use Rattle.bk_base.specs.Maps.{IsDistinct}
use Rattle.bk_base.proofs.Totals.{total_of, total-insert}

module _ {K X : Type 0} (R : K → K → Ordering) (apart : IsAntisymmetric R) (laws : IsTotalOrder R) where
  -- the sum over a map that is made of a list in which no key stands twice
  pub total_of-from_entries : (f : K → X → ℕ) (es : List (K × X)) → IsDistinct R es → total_of f (entries (from_entries {R = R} es)) ≡ total_of f es
  total_of-from_entries f [] distinct = nothing (entries (from_entries {R = R} [])) (sym (len-entries _) ∙ len-empty R X)
    where
      nothing : (es : List (K × X)) → length es ≡ 0 → total_of f es ≡ 0
      nothing [] e = refl
      nothing (x ∷ es) e = absurd (omega arith)
  total_of-from_entries f (e ∷ es) distinct =
      let rest = total_of-from_entries f es distinct.1 in
      let here = total-insert R apart laws f (from_entries es) e.0 e.1 (get-from_entries laws es e.0 ∙ distinct.0) in
      omega (arith, rest, here, sum_by-cons (λ (e : K × X). f e.0 e.1) e es)

  -- a choice of keys, and one entry more, keep each key once
  pub none_kept : (keep : K → Bool) (k : K) (es : List (K × X)) → find R k es ≡ None → find R k (where_key R keep es) ≡ None
  none_kept keep k es none = find-where_key R keep k (λ x same. ap keep (sym (apart k x same))) es ∙ by (keep k)
    where
      by : (b : Bool) → cond b (find R k es) None ≡ None
      by true = none
      by false = refl

  pub distinct-kept : (keep : K → Bool) (es : List (K × X)) → IsDistinct R es → IsDistinct R (where_key R keep es)
  distinct-kept keep [] distinct = tt
  distinct-kept keep (e ∷ es) distinct = by (keep e.0) (distinct-kept keep es distinct.1)
    where
      by : (b : Bool) → IsDistinct R (where_key R keep es) → IsDistinct R (cond b (e ∷ where_key R keep es) (where_key R keep es))
      by true rest = (none_kept keep e.0 es distinct.0, rest)
      by false rest = rest

  pub distinct-push : (es : List (K × X)) (k : K) (x : X) → IsDistinct R es → find R k es ≡ None → IsDistinct R (es ++ (k, x) ∷ [])
  distinct-push [] k x distinct free = (refl, tt)
  distinct-push (e ∷ es) k x distinct free = by (eq_by_cmp R k e.0) refl free (distinct-push es k x distinct.1)
    where
      flipped : (b : Bool) → eq_by_cmp R k e.0 ≡ b → eq_by_cmp R e.0 k ≡ b
      flipped b is = (eq_by_cmp_equiv laws).symm e.0 k ∙ is

      by : (b : Bool) → eq_by_cmp R k e.0 ≡ b → cond b (Some e.1) (find R k es) ≡ None → (find R k es ≡ None → IsDistinct R (es ++ (k, x) ∷ [])) → IsDistinct R ((e ∷ es) ++ (k, x) ∷ [])
      by true is h rest = cc
      by false is h rest = (find-append R laws es k x e.0 h ∙ ap (λ b. cond b (Some x) (find R e.0 es)) (flipped false is) ∙ distinct.0, rest h)

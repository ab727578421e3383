-- What a map has after each value changed, and the sum over it.
use Rattle.std.proofs.Common.{◌≡◌, ℕ, Bool, true, false, ◌&&◌, cond, List, [], ◌∷◌, map, Some, refl, sym, ap, ◌∙◌, subst, arith, T, Ordering, is_lt}
use Rattle.std.specs.Prelude.{option_map}
use Rattle.std.specs.Ordering.{eq_by_cmp}
use Rattle.std.specs.FinMap.{FinMap, get, entries, entries_sorted, entries-from_sorted, find, is_sorted, get-entries, get-from_sorted}
use Rattle.std.specs.FinMap.Entries.{below_all}
use Rattle.std.proofs.lemmas.List.Sums.{sum_by-cons}
use Rattle.bk_base.specs.Maps.{map_values}
use Rattle.bk_base.proofs.Totals.{total_of}

module _ {K X Y : Type 0} (R : K → K → Ordering) (f : X → Y) where
  abbrev pub each : List (K × X) → List (K × Y)
  each es = map (λ e. (e.0, f e.1)) es

  below-each : (x : K) (es : List (K × X)) → below_all R x (each es) ≡ below_all R x es
  below-each x [] = refl
  below-each x (e ∷ es) = ap (λ b. is_lt (R x e.0) && b) (below-each x es)

  sorted-each : (es : List (K × X)) → is_sorted R (each es) ≡ is_sorted R es
  sorted-each [] = refl
  sorted-each (e ∷ es) = λ i. below-each e.0 es i && sorted-each es i

  -- what is found under a key, in the list and in the map
  pub find-each : (q : K) (es : List (K × X)) → find R q (each es) ≡ option_map f (find R q es)
  find-each q [] = refl
  find-each q (e ∷ es) = ap (cond (eq_by_cmp R q e.0) (Some (f e.1))) (find-each q es) ∙ by (eq_by_cmp R q e.0)
    where
      by : (b : Bool) → cond b (Some (f e.1)) (option_map f (find R q es)) ≡ option_map f (cond b (Some e.1) (find R q es))
      by true = refl
      by false = refl

  pub get-map_values : (m : FinMap R X) (q : K) → get (map_values f m) q ≡ option_map f (get m q)
  get-map_values m q = get-from_sorted R (each (entries m)) q (subst T (sym (sorted-each (entries m))) (entries_sorted m)) ∙ find-each q (entries m) ∙ ap (option_map f) (sym (get-entries m q))

  -- the entries of the changed map
  pub entries-map_values : (m : FinMap R X) → entries (map_values {R = R} f m) ≡ each (entries m)
  entries-map_values m = entries-from_sorted R (each (entries m)) (subst T (sym (sorted-each (entries m))) (entries_sorted m))

  -- the sum over the changed values
  pub total-map_values : (g : K → Y → ℕ) (m : FinMap R X) → total_of g (entries (map_values {R = R} f m)) ≡ total_of (λ k x. g k (f x)) (entries m)
  total-map_values g m = ap (total_of g) (entries-map_values m) ∙ sums (entries m)
    where
      sums : (es : List (K × X)) → total_of g (each es) ≡ total_of (λ k x. g k (f x)) es
      sums [] = refl
      sums (e ∷ es) = omega (arith, sums es, sum_by-cons (λ (e : K × Y). g e.0 e.1) (e.0, f e.1) (each es), sum_by-cons (λ (e : K × X). g e.0 (f e.1)) e es)

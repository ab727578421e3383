-- Lists of distinct levels.
use Rattle.std.proofs.Common.{◌≡◌, ℕ, ◌+◌, ◌-◌, ◌<◌, Bool, false, ◌||◌, List, [], ◌∷◌, ◌++◌, length, take, drop, replicate, sym, ap, subst, ◌∙◌, arith}
use Rattle.std.specs.Prelude.{slice_set}
use Rattle.std.specs.List.{IsDistinct, AllByRecursion}
use Rattle.std.proofs.lemmas.List.{take_more_set, drop-set-lt, drop-replicate, drop-drop, length-set}
use Rattle.std.proofs.lemmas.Map.Keys.{IsDistinct-head, IsDistinct-tail, IsDistinct-cons}
use Rattle.bk_level.specs.Levels.{Level, is_same_level, has_level, lowest}
use Rattle.bk_level.specs.Tables.{IsTable}

no_first : (a b : Bool) → (a || b) ≡ false → a ≡ false
no_first a b neither = grind (arith, neither)

no_second : (a b : Bool) → (a || b) ≡ false → b ≡ false
no_second a b neither = grind (arith, neither)

none_append : (x level : Level) (levels : List Level) → AllByRecursion (λ y. is_same_level x y ≡ false) levels → is_same_level x level ≡ false → AllByRecursion (λ y. is_same_level x y ≡ false) (levels ++ level ∷ [])
none_append x level [] others last = (last, tt)
none_append x level (y ∷ levels) others last = (others.0, none_append x level levels others.1 last)

pub IsDistinct-append : (level : Level) (levels : List Level) → IsDistinct is_same_level levels → has_level levels level ≡ false → IsDistinct is_same_level (levels ++ level ∷ [])
IsDistinct-append level [] distinct new = IsDistinct-cons is_same_level level [] tt distinct
IsDistinct-append level (x ∷ levels) distinct new =
    IsDistinct-cons is_same_level x (levels ++ level ∷ [])
    (none_append x level levels (IsDistinct-head is_same_level x levels distinct) (no_first (is_same_level x level) _ new))
    (IsDistinct-append level levels (IsDistinct-tail is_same_level x levels distinct) (no_second (is_same_level x level) _ new))

-- the table after a push into a free place
pub IsTable-push : (places : List Level) (used : ℕ) (level : Level) →
    IsTable (record { levels = places; len = used }) → used < 64 → has_level (take used places) level ≡ false →
    IsTable (record { levels = slice_set places used level; len = used + 1 })
IsTable-push places used level is room new = record {
  places = length-set places used level ∙ is.places;
  used = omega arith;
  unused = drop-set-lt (used + 1) places used level (omega arith) ∙ sym (drop-drop 1 used places) ∙ ap (drop 1) is.unused ∙ drop-replicate 1 (64 - used) lowest ∙ ap (λ n. replicate n lowest) (omega arith);
  distinct = subst (IsDistinct is_same_level) (sym (take_more_set places used level within)) (IsDistinct-append level (take used places) is.distinct new);
}
  where
    within : used < length places
    within = let whole = is.places in omega (arith, whole, room)

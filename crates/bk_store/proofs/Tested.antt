-- That the test meets the conditions of the calls: root stays a directory.
use Rattle.std.proofs.Common.{◌≡◌, ℕ, ◌<◌, Bool, true, false, cond, List, [], ◌∷◌, Some, None, sym, ap, ◌∙◌, subst}
use Rattle.std.specs.FinMap.{get, get-from_entries}
use Rattle.bk_level.specs.Levels.{Level}
use Rattle.bk_object.specs.declared.Facts.{Facts}
use Rattle.bk_object.specs.Kinds.{is_directory}
use Rattle.bk_path.specs.Paths.{Path, path_cmp}
use Rattle.std.specs.Ordering.{eq_by_cmp}
use Rattle.std.proofs.lemmas.Option.{same_Some}
use Rattle.bk_path.specs.Orders.{path_total}
use Rattle.bk_quota.specs.Charges.{passes}
use Rattle.bk_store.specs.Stored.{Stored, Entry, NoQueue, HasDirectory, IsFreeLine, begun}
use Rattle.bk_object.specs.declared.kind.Kind.{Kind}
use Rattle.bk_object.specs.declared.kind.Kind.TheVariants.{Line}

-- ---- a store of root alone

module _ (v : Stored) (levels : List Level) (lines : ℕ) (root : Facts) (is : v ≡ begun levels lines root) (directory : is_directory root.kind ≡ true) where
  abbrev only : Entry
  only = record { facts = root; extent = None; queue = NoQueue }

  get-begun : (p : Path) → get v.objects p ≡ cond (eq_by_cmp path_cmp p []) (Some only) None
  get-begun p = ap (λ (w : Stored). get w.objects p) is ∙ get-from_entries path_total (([], only) ∷ []) p

  pub begun_directory : (p : Path) → p ≡ [] → HasDirectory v p
  begun_directory p at = ap (λ q. passes (λ (e : Entry). is_directory e.facts.kind) (get v.objects q)) at ∙ ap (passes (λ (e : Entry). is_directory e.facts.kind)) (get-begun []) ∙ directory

  pub begun_line : (n : ℕ) → n < lines → IsFreeLine v (Line n)
  begun_line n small = λ m e. (
    let same : n ≡ m = cc in subst (λ k. k < v.lines) same (subst (λ (w : Stored). n < w.lines) (sym is) small),
    λ p x h kind. by (eq_by_cmp path_cmp p []) x m (sym (get-begun p) ∙ h) kind,
  )
    where
      no_directory : (kind : Kind) (m : ℕ) → is_directory kind ≡ true → kind ≡ Line m → ⊥
      no_directory kind m yes_directory line = let both : true ≡ false = sym yes_directory ∙ ap is_directory line in cc

      by : (b : Bool) (x : Entry) (m : ℕ) → cond b (Some only) None ≡ Some x → x.facts.kind ≡ Line m → ⊥
      by true x m h kind = no_directory root.kind m directory (ap (λ (e : Entry). e.facts.kind) (same_Some only x h) ∙ kind)
      by false x m h kind = cc

-- Facts but for their rows decide cells, charges and levels.
use Rattle.std.proofs.Common.{◌≡◌, ℕ, ◌+◌, ◌≤◌, Bool, ◌&&◌, not, [], ◌∷◌, Option, Some, None, refl, sym, ap, ◌∙◌, ◌==◌, arith, unwrap_or}
use Rattle.std.specs.Prelude.{option_map, if◌then◌else◌}
use Rattle.bk_base.proofs.Totals.{part, total-alike, total-le}
use Rattle.bk_path.specs.Paths.{Path, path_cmp, is_same}
use Rattle.bk_path.specs.Orders.{path_total, path_apart}
use Rattle.bk_object.specs.Kinds.{is_directory}
use Rattle.bk_object.specs.declared.Facts.{Facts}
use Rattle.bk_quota.specs.Charges.{passes, charge_of, share_in}
use Rattle.bk_state.specs.State.{State, Object, find, facts_at}
use Rattle.bk_state.specs.Quota.{is_upgraded, governing, level_number, quota_at, used}
use Rattle.bk_laws.proofs.Changes.{facts_in}
use Rattle.bk_laws.proofs.Tests.{some_same}

-- the facts with an empty row
abbrev pub shape : Facts → Facts
shape facts = record { kind = facts.kind; blocks = facts.blocks; level = facts.level; quota = facts.quota; row = [] }

abbrev pub shape_at : State → Path → Option Facts
shape_at v path = option_map shape (facts_at v path)

-- a test that does not look at the row
pub passes-shape : (t : Facts → Bool) (o : Option Facts) → ((f : Facts) → t (shape f) ≡ t f) → passes t (option_map shape o) ≡ passes t o
passes-shape t None same = refl
passes-shape t (Some f) same = same f

-- what has the shape of something that is there is there
pub shape_back : (a b : Option Facts) (f : Facts) → option_map shape a ≡ option_map shape b → a ≡ Some f → (g : Facts) × ((b ≡ Some g) × (shape f ≡ shape g))
shape_back None None f e is = cc
shape_back None (Some g) f e is = cc
shape_back (Some h) None f e is = cc
shape_back (Some h) (Some g) f e is = (g, (refl, ap shape (sym (some_same is)) ∙ some_same e))

-- what an object adds to the used number of a cell
abbrev pub share : State → (cell path : Path) → Facts → ℕ
share v cell path facts = share_in (λ object. object.facts) v.objects cell path facts

-- what an object adds, or nothing
abbrev pub share_at : State → (cell path : Path) → Option Facts → ℕ
share_at v cell path None = 0
share_at v cell path (Some facts) = share v cell path facts

pub part-share : (v : State) (cell q : Path) (o : Option Object) → part (λ path x. share v cell path x.facts) q o ≡ share_at v cell q (facts_in o)
part-share v cell q None = refl
part-share v cell q (Some x) = refl

-- used numbers compare as what each object adds
pub used_alike : (v w : State) (cell : Path) → ((q : Path) → share_at v cell q (facts_at v q) ≡ share_at w cell q (facts_at w q)) → used v cell ≡ used w cell
used_alike v w cell same = ap (λ n. 1 + n) (total-alike path_cmp path_apart path_total (λ path x. share v cell path x.facts) (λ path x. share w cell path x.facts) v.objects w.objects
    (λ q. part-share v cell q (find v q) ∙ same q ∙ sym (part-share w cell q (find w q))))

pub used_le : (v w : State) (cell : Path) → ((q : Path) → share_at v cell q (facts_at v q) ≤ share_at w cell q (facts_at w q)) → used v cell ≤ used w cell
used_le v w cell less =
    let all = total-le path_cmp path_apart path_total (λ path x. share v cell path x.facts) (λ path x. share w cell path x.facts) v.objects w.objects
    (λ q. rw (part-share v cell q (find v q), part-share w cell q (find w q)) (less q)) in
    omega (arith, all)

-- facts of a path and of its parent decide whether it is upgraded, those of a path its level and its quota
pub is_upgraded-by : (v w : State) (entry : ℕ) (path : Path) → facts_at v path ≡ facts_at w path → facts_at v (entry ∷ path) ≡ facts_at w (entry ∷ path) →
    is_upgraded v (entry ∷ path) ≡ is_upgraded w (entry ∷ path)
is_upgraded-by v w entry path above own = λ i. passes (λ facts. is_directory facts.kind && passes (λ up. not (up.level == facts.level)) (above i)) (own i)

pub level_number-by : (v w : State) (path : Path) → facts_at v path ≡ facts_at w path → level_number v path ≡ level_number w path
level_number-by v w path same = ap (λ a. unwrap_or (option_map (λ facts. facts.level) a) 0) same

pub quota_at-by : (v w : State) (path : Path) → facts_at v path ≡ facts_at w path → quota_at v path ≡ quota_at w path
quota_at-by v w path same = ap (λ a. unwrap_or (option_map (λ facts. facts.quota) a) 0) same

module _ (v w : State) (same : (q : Path) → shape_at v q ≡ shape_at w q) where
  upgrades : (a b : Option Facts) → Bool
  upgrades above below = passes (λ facts. is_directory facts.kind && passes (λ up. not (up.level == facts.level)) above) below

  upgrades-shape : (a b : Option Facts) → upgrades (option_map shape a) (option_map shape b) ≡ upgrades a b
  unfolding upgrades
  upgrades-shape None None = refl
  upgrades-shape (Some f) None = refl
  upgrades-shape None (Some g) = refl
  upgrades-shape (Some f) (Some g) = refl

  -- states of the same shape have the same cells, levels, quotas and used numbers
  pub is_upgraded-same : (q : Path) → is_upgraded v q ≡ is_upgraded w q
  unfolding upgrades
  is_upgraded-same [] = refl
  is_upgraded-same (entry ∷ path) =
      sym (upgrades-shape (facts_at v path) (facts_at v (entry ∷ path))) ∙ (λ i. upgrades (same path i) (same (entry ∷ path) i)) ∙ upgrades-shape (facts_at w path) (facts_at w (entry ∷ path))

  pub governing-same : (q : Path) → governing v q ≡ governing w q
  governing-same [] = refl
  governing-same (entry ∷ path) = λ i. if is_upgraded-same (entry ∷ path) i then entry ∷ path else governing-same path i

  level_of_shape : (o : Option Facts) → unwrap_or (option_map (λ f. f.level) (option_map shape o)) 0 ≡ unwrap_or (option_map (λ f. f.level) o) 0
  level_of_shape None = refl
  level_of_shape (Some f) = refl

  quota_of_shape : (o : Option Facts) → unwrap_or (option_map (λ f. f.quota) (option_map shape o)) 0 ≡ unwrap_or (option_map (λ f. f.quota) o) 0
  quota_of_shape None = refl
  quota_of_shape (Some f) = refl

  pub level_number-same : (q : Path) → level_number v q ≡ level_number w q
  level_number-same q = sym (level_of_shape (facts_at v q)) ∙ ap (λ o. unwrap_or (option_map (λ f. f.level) o) 0) (same q) ∙ level_of_shape (facts_at w q)

  pub quota_at-same : (q : Path) → quota_at v q ≡ quota_at w q
  quota_at-same q = sym (quota_of_shape (facts_at v q)) ∙ ap (λ o. unwrap_or (option_map (λ f. f.quota) o) 0) (same q) ∙ quota_of_shape (facts_at w q)

  share_shape : (u : State) (cell q : Path) (o : Option Facts) → share_at u cell q (option_map shape o) ≡ share_at u cell q o
  share_shape u cell q None = refl
  share_shape u cell [] (Some f) = refl
  share_shape u cell (entry ∷ path) (Some f) = refl

  share-same : (cell q : Path) (o : Option Facts) → share_at v cell q o ≡ share_at w cell q o
  share-same cell q None = refl
  share-same cell [] (Some f) = refl
  share-same cell (entry ∷ path) (Some f) = λ i. if is_same (governing-same path i) cell then charge_of f (level_number-same path i) else 0

  pub used-same : (cell : Path) → used v cell ≡ used w cell
  used-same cell = used_alike v w cell (λ q.
      sym (share_shape v cell q (facts_at v q)) ∙ ap (share_at v cell q) (same q) ∙ share_shape v cell q (facts_at w q) ∙ share-same cell q (facts_at w q))

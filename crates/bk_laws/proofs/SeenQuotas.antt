-- The cell of a directory under a level, its limit and its used number depend on what lies under the level: each object that
-- the cell pays for shows.
use Rattle.std.proofs.Common.{◌≡◌, ℕ, Bool, true, false, ◌&&◌, not, [], ◌∷◌, Option, Some, None, refl, sym, ap, ◌∙◌, subst, ◌==◌, arith, unwrap_or, true≢false}
use Rattle.std.proofs.lemmas.Bool.Decides.{nat_tests}
use Rattle.std.specs.Prelude.{option_map, if◌then◌else◌}
use Rattle.bk_level.specs.Levels.{Level, dominates, level_at}
use Rattle.bk_level.proofs.LevelOrder.{and_first}
use Rattle.bk_path.specs.Paths.{Path, is_same}
use Rattle.bk_path.specs.Orders.{same_path}
use Rattle.bk_object.specs.Kinds.{is_directory}
use Rattle.bk_object.specs.declared.Facts.{Facts}
use Rattle.bk_quota.specs.Charges.{passes, charge_of}
use Rattle.bk_state.specs.State.{State, facts_at, level_of}
use Rattle.bk_state.specs.Quota.{is_upgraded, governing, level_number, quota_at, used}
use Rattle.bk_state.specs.Secure.{Secure}
use Rattle.bk_state.specs.Low.{is_under, shows}
use Rattle.bk_laws.proofs.Tests.{passes_there, false_if}
use Rattle.bk_laws.proofs.Shapes.{is_upgraded-by, level_number-by, quota_at-by, share_at, used_alike}
use Rattle.bk_laws.proofs.Alike.{Alike, fixed_to, shows_under}
use Rattle.bk_laws.proofs.Seen.{facts_under}

-- ---- the cell of a directory

level-there : (v : State) (path : Path) (facts : Facts) → facts_at v path ≡ Some facts → level_number v path ≡ facts.level
level-there v path facts is = ap (λ a. unwrap_or (option_map (λ x. x.level) a) 0) is

module _ (v : State) (sec : Secure v) where
  above-there : (entry : ℕ) (path : Path) (facts above : Facts) → facts_at v (entry ∷ path) ≡ Some facts → facts_at v path ≡ Some above →
      (is_directory above.kind && dominates (level_of v facts) (level_of v above)) ≡ true
  above-there entry path facts above is there = subst (λ a. passes (λ x. is_directory x.kind && dominates (level_of v facts) (level_of v x)) a ≡ true) there (sec.parents entry path facts is)

  -- it is at the level of the directories that it governs
  pub governing_level : (path : Path) (facts : Facts) → facts_at v path ≡ Some facts → is_directory facts.kind ≡ true → level_number v (governing v path) ≡ level_number v path
  governing_level [] facts is dir = refl
  governing_level (entry ∷ path) facts is dir =
      let (above, there) = passes_there _ _ (sec.parents entry path facts is) in
      by above there (governing_level path above there (and_first (is_directory above.kind) _ (above-there entry path facts above is there))) (is_upgraded v (entry ∷ path)) refl
    where
      equal : (a b : ℕ) → not (a == b) ≡ false → a ≡ b
      equal a b h = grind (arith, nat_tests, h)

      by : (above : Facts) → facts_at v path ≡ Some above → level_number v (governing v path) ≡ level_number v path → (b : Bool) → is_upgraded v (entry ∷ path) ≡ b →
          level_number v (if b then entry ∷ path else governing v path) ≡ level_number v (entry ∷ path)
      by above there rest true up = refl
      by above there rest false up =
          let here : (is_directory facts.kind && not (above.level == facts.level)) ≡ false =
          subst (λ a. passes (λ x. is_directory x.kind && passes (λ y. not (y.level == x.level)) (Some above)) a ≡ false) is
          (subst (λ a. passes (λ x. is_directory x.kind && passes (λ y. not (y.level == x.level)) a) (facts_at v (entry ∷ path)) ≡ false) there up) in
          let differs : not (above.level == facts.level) ≡ false = subst (λ b. (b && not (above.level == facts.level)) ≡ false) dir here in
          rest ∙ level-there v path above there ∙ equal above.level facts.level differs ∙ sym (level-there v (entry ∷ path) facts is)

  -- it is there
  pub governing_there : (path : Path) (facts : Facts) → facts_at v path ≡ Some facts → (cell : Facts) × (facts_at v (governing v path) ≡ Some cell)
  governing_there [] facts is = (facts, is)
  governing_there (entry ∷ path) facts is =
      let (above, there) = passes_there _ _ (sec.parents entry path facts is) in
      let rest = governing_there path above there in
      elim (is_upgraded v (entry ∷ path)) as (λ b. (cell : Facts) × (facts_at v (if b then entry ∷ path else governing v path) ≡ Some cell)) [ true ↦ (facts, is) | false ↦ rest ]

  -- a cell under the level pays for nothing that doesn't show
  hidden_share : (level : Level) (cell : Path) → dominates level (level_at v.fixed.levels (level_number v cell)) ≡ true → (entry : ℕ) (path : Path) → shows level v (entry ∷ path) ≡ false →
      share_at v cell (entry ∷ path) (facts_at v (entry ∷ path)) ≡ 0
  hidden_share level cell under entry path hidden = by (facts_at v (entry ∷ path)) refl
    where
      by : (a : Option Facts) → facts_at v (entry ∷ path) ≡ a → share_at v cell (entry ∷ path) a ≡ 0
      by None is = refl
      by (Some facts) is =
          let (above, there) = passes_there _ _ (sec.parents entry path facts is) in
          let high : dominates level (level_of v above) ≡ false = subst (λ a. passes (is_under level v) a ≡ false) there hidden in
          let same = governing_level path above there (and_first (is_directory above.kind) _ (above-there entry path facts above is there)) ∙ level-there v path above there in
          ap (λ b. if b then charge_of facts (level_number v path) else 0) (false_if _ (λ at.
          let cell_is : cell ≡ governing v path = sym (same_path (governing v path) cell at) in
          true≢false (sym under ∙ ap (λ q. dominates level (level_at v.fixed.levels (level_number v q))) cell_is ∙ ap (λ n. dominates level (level_at v.fixed.levels n)) same ∙ high)))

-- ---- two states in which the same lies under the level

module _ (level : Level) (v w0 : State) (sv : Secure v) (sw : Secure (fixed_to v.fixed w0)) (alike : Alike level v (fixed_to v.fixed w0)) where
  abbrev w : State
  w = fixed_to v.fixed w0

  governing_seen : (path : Path) → passes (is_under level v) (facts_at v path) ≡ true → governing v path ≡ governing w path
  governing_seen [] under = refl
  governing_seen (entry ∷ path) under =
      let above : passes (is_under level v) (facts_at v path) ≡ true = shows_under level v (entry ∷ path) sv under in
      let upgraded = is_upgraded-by v w entry path (facts_under level v w0 sv sw alike path above) (facts_under level v w0 sv sw alike (entry ∷ path) under) in
      λ i. if upgraded i then entry ∷ path else governing_seen path above i

  -- the level of what lies under the level has the same number in both
  pub number_seen : (path : Path) → passes (is_under level v) (facts_at v path) ≡ true → level_number v path ≡ level_number w path
  number_seen path under = level_number-by v w path (facts_under level v w0 sv sw alike path under)

  used_seen : (cell : Path) → dominates level (level_at v.fixed.levels (level_number v cell)) ≡ true → level_number v cell ≡ level_number w cell → used v cell ≡ used w cell
  used_seen cell under same = used_alike v w cell each
    where
      root_share : (u : State) (a : Option Facts) → share_at u cell [] a ≡ 0
      root_share u None = refl
      root_share u (Some facts) = refl

      shared : (entry : ℕ) (path : Path) → passes (is_under level v) (facts_at v path) ≡ true → (a : Option Facts) → share_at v cell (entry ∷ path) a ≡ share_at w cell (entry ∷ path) a
      shared entry path h None = refl
      shared entry path h (Some facts) = λ i. if is_same (governing_seen path h i) cell then charge_of facts (number_seen path h i) else 0

      by : (entry : ℕ) (path : Path) (b : Bool) → shows level v (entry ∷ path) ≡ b →
          share_at v cell (entry ∷ path) (facts_at v (entry ∷ path)) ≡ share_at w cell (entry ∷ path) (facts_at w (entry ∷ path))
      by entry path true h = shared entry path h (facts_at v (entry ∷ path)) ∙ ap (share_at w cell (entry ∷ path)) (alike.facts (entry ∷ path) h)
      by entry path false h = hidden_share v sv level cell under entry path h
          ∙ sym (hidden_share w sw level cell (subst (λ n. dominates level (level_at v.fixed.levels n) ≡ true) same under) entry path (sym (alike.shows_same (entry ∷ path)) ∙ h))

      each : (path : Path) → share_at v cell path (facts_at v path) ≡ share_at w cell path (facts_at w path)
      each [] = root_share v (facts_at v []) ∙ sym (root_share w (facts_at w []))
      each (entry ∷ path) = by entry path (shows level v (entry ∷ path)) refl

  -- the limit and the used number of the cell that governs a directory under the level
  pub quota_seen : (path : Path) → passes (is_under level v) (facts_at v path) ≡ true → (facts : Facts) → facts_at v path ≡ Some facts → is_directory facts.kind ≡ true →
      (quota_at v (governing v path) ≡ quota_at w (governing w path)) × (used v (governing v path) ≡ used w (governing w path))
  quota_seen path under facts there dir =
      let here : level_number v (governing v path) ≡ level_number v path = governing_level v sv path facts there dir in
      let here_w : level_number w (governing w path) ≡ level_number w path = governing_level w sw path facts (sym (facts_under level v w0 sv sw alike path under) ∙ there) dir in
      let same : governing v path ≡ governing w path = governing_seen path under in
      let low_cell : dominates level (level_at v.fixed.levels (level_number v (governing v path))) ≡ true =
      ap (λ n. dominates level (level_at v.fixed.levels n)) (here ∙ level-there v path facts there) ∙ subst (λ a. passes (is_under level v) a ≡ true) there under in
      let numbers : level_number v (governing v path) ≡ level_number w (governing v path) = here ∙ number_seen path under ∙ sym here_w ∙ ap (level_number w) (sym same) in
      let (cell, is) = governing_there v sv path facts there in
      let facts_same : facts_at v (governing v path) ≡ facts_at w (governing v path) = facts_under level v w0 sv sw alike (governing v path) (cell_under (governing v path) cell is low_cell) in
      (quota_at-by v w (governing v path) facts_same ∙ ap (quota_at w) same, used_seen (governing v path) low_cell numbers ∙ ap (used w) same)
    where
      cell_under : (q : Path) (cell : Facts) → facts_at v q ≡ Some cell → dominates level (level_at v.fixed.levels (level_number v q)) ≡ true → passes (is_under level v) (facts_at v q) ≡ true
      cell_under q cell is low = subst (λ a. passes (is_under level v) a ≡ true) (sym is) (ap (λ n. dominates level (level_at v.fixed.levels n)) (sym (level-there v q cell is)) ∙ low)

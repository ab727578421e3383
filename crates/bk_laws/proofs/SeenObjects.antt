-- Where the same lies under a level in two states, it still does after the same change of objects in both.
use Rattle.std.proofs.Common.{◌≡◌, ℕ, Bool, true, false, ◌&&◌, not, List, [], ◌∷◌, Option, Some, None, refl, sym, ap, ◌∙◌, unwrap_or, ◌⊎◌, inl, inr}
use Rattle.std.specs.Prelude.{option_map, if◌then◌else◌}
use Rattle.std.specs.FinMap as map
use Rattle.bk_level.specs.Levels.{Level}
use Rattle.bk_path.specs.Paths.{Path, path_cmp, is_same, is_inferior}
use Rattle.bk_path.specs.Orders.{same_path}
use Rattle.bk_object.specs.declared.Facts.{Facts}
use Rattle.bk_object.specs.declared.Modes.{Modes}
use Rattle.bk_quota.specs.Charges.{passes}
use Rattle.bk_state.specs.State.{State, Object, Contents, find, facts_at}
use Rattle.bk_state.specs.RowCalls.{changed_by, changed_at, with_row}
use Rattle.bk_state.specs.TreeCalls.{without_group}
use Rattle.bk_state.specs.Contents.{with_contents}
use Rattle.bk_state.specs.Secure.{Secure}
use Rattle.bk_system.specs.Arrivals.{taking, arrived}
use Rattle.bk_laws.proofs.Changes.{facts_in, holds-retain, find-insert, find-changed_at, facts_at-contents, find-arrived, facts_at-arrived}
use Rattle.bk_laws.proofs.Changes.{find-without_group, facts_at-without_group}
use Rattle.bk_state.specs.Low.{is_under, shows, contents_under}
use Rattle.bk_laws.proofs.Alike.{Alike, fixed_to, nothing_under, same_object, alike-contents}

module _ (level : Level) (v w : State) (alike : Alike level v (fixed_to v.fixed w)) where
  abbrev pub with_v : map.FinMap path_cmp Object → State
  with_v objects = record v { objects = objects }

  abbrev pub with_w : map.FinMap path_cmp Object → State
  with_w objects = record w { fixed = v.fixed; objects = objects }

  -- ---- contents

  contents-with_contents : (change : Contents → Contents) (o : Option Object) → contents_under level v (option_map (with_contents change) o) ≡ option_map change (contents_under level v o)
  contents-with_contents change None = refl
  contents-with_contents change (Some o) = by (is_under level v o.facts)
    where
      by : (b : Bool) → (if b then Some (change o.contents) else None) ≡ option_map change (if b then Some o.contents else None)
      by true = refl
      by false = refl

  contents-changed : (path : Path) (change : Contents → Contents) (q : Path) →
      contents_under level v (find (changed_at v path (with_contents change)) q) ≡ contents_under level v (find (changed_at (fixed_to v.fixed w) path (with_contents change)) q)
  contents-changed path change q =
      ap (contents_under level v) (find-changed_at v path (with_contents change) q) ∙ by (is_same q path)
      ∙ sym (ap (contents_under level v) (find-changed_at (fixed_to v.fixed w) path (with_contents change) q))
    where
      by : (b : Bool) →
          contents_under level v (if b then option_map (with_contents change) (find v path) else find v q)
          ≡ contents_under level v (if b then option_map (with_contents change) (find w path) else find w q)
      by true = contents-with_contents change (find v path) ∙ ap (option_map change) (alike.contents path) ∙ sym (contents-with_contents change (find w path))
      by false = alike.contents q

  -- the contents of an object, wherever it lies, become others
  pub alike-with_contents : (path : Path) (change : Contents → Contents) →
      Alike level (with_v (changed_at v path (with_contents change)).objects) (with_w (changed_at (fixed_to v.fixed w) path (with_contents change)).objects)
  alike-with_contents path change = alike-contents level v w alike _ _ (facts_at-contents v path change) (facts_at-contents (fixed_to v.fixed w) path change) (contents-changed path change)

  -- bytes arrive on a line
  pub alike-arrived : Secure v → (line : ℕ) (bytes : List ℕ) → Alike level (arrived v line bytes) (arrived (fixed_to v.fixed w) line bytes)
  unfolding arrived
  alike-arrived sec line bytes = alike-contents level v w alike _ _ (facts_at-arrived v line bytes) (facts_at-arrived w line bytes) taken
    where
      hidden : (o : Option Object) → contents_under level v o ≡ None → contents_under level v (option_map (taking line bytes) o) ≡ None
      hidden None none = refl
      hidden (Some o) none = by (is_under level v o.facts) none
        where
          by : (b : Bool) → (if b then Some o.contents else None) ≡ None → (if b then Some (taking line bytes o).contents else None) ≡ None
          by true none = cc
          by false none = refl

      same : (path : Path) (b : Bool) → passes (is_under level v) (facts_at v path) ≡ b →
          contents_under level v (option_map (taking line bytes) (find v path)) ≡ contents_under level v (option_map (taking line bytes) (find w path))
      same path true h = ap (λ o. contents_under level v (option_map (taking line bytes) o)) (same_object level v (fixed_to v.fixed w) alike sec path h)
      same path false h =
          let none : contents_under level v (find v path) ≡ None = nothing_under level v (find v path) h in
          hidden (find v path) none ∙ sym (hidden (find w path) (sym (alike.contents path) ∙ none))

      taken : (path : Path) → contents_under level v (find (arrived v line bytes) path) ≡ contents_under level v (find (arrived w line bytes) path)
      taken path =
          ap (contents_under level v) (find-arrived v line bytes path) ∙ same path (passes (is_under level v) (facts_at v path)) refl
          ∙ sym (ap (contents_under level v) (find-arrived w line bytes path))

  -- ---- facts

  -- at one path come two objects with the same facts, and with the same contents where these lie under the level: what stood
  -- there lay under the level already, or nothing stands below it
  pub alike-insert : (path : Path) (x y : Object) → x.facts ≡ y.facts → contents_under level v (Some x) ≡ contents_under level v (Some y) →
      (is_under level v x.facts ≡ true → (passes (is_under level v) (facts_at v path) ≡ true) ⊎ ((entry : ℕ) → (facts_at v (entry ∷ path) ≡ None) × (facts_at w (entry ∷ path) ≡ None))) →
      Alike level (with_v (map.insert v.objects path x)) (with_w (map.insert w.objects path y))
  alike-insert path x y same shown before = record {
    subjects = alike.subjects;
    current = alike.current;
    process = alike.process;
    holds_same = alike.holds_same;
    shows_same = shows_same;
    facts = λ q h. ap facts_in (find-insert v path x q) ∙ facts q h (is_same q path) refl ∙ sym (ap facts_in (find-insert (fixed_to v.fixed w) path y q));
    contents = λ q. ap (contents_under level v) (find-insert v path x q) ∙ contents q (is_same q path) ∙ sym (ap (contents_under level v) (find-insert (fixed_to v.fixed w) path y q));
  }
    where
      contents : (q : Path) (b : Bool) → contents_under level v (if b then Some x else find v q) ≡ contents_under level v (if b then Some y else find w q)
      contents q true = shown
      contents q false = alike.contents q

      under : (q : Path) (b : Bool) → passes (is_under level v) (facts_in (if b then Some x else find v q)) ≡ passes (is_under level v) (facts_in (if b then Some y else find w q))
      under q true = ap (is_under level v) same
      under q false = alike.shows_same (0 ∷ q)

      shows_same : (q : Path) → shows level (with_v (map.insert v.objects path x)) q ≡ shows level (with_w (map.insert w.objects path y)) q
      shows_same [] = refl
      shows_same (entry ∷ q) =
          ap (λ o. passes (is_under level v) (facts_in o)) (find-insert v path x q) ∙ under q (is_same q path)
          ∙ sym (ap (λ o. passes (is_under level v) (facts_in o)) (find-insert (fixed_to v.fixed w) path y q))

      child : (entry : ℕ) (q : Path) (b : Bool) → is_same q path ≡ b → passes (is_under level v) (facts_in (if b then Some x else find v q)) ≡ true → facts_at v (entry ∷ q) ≡ facts_at w (entry ∷ q)
      child entry q false at h = alike.facts (entry ∷ q) h
      child entry q true at h = elim (before h) [
        | inl low ↦ alike.facts (entry ∷ q) (ap (λ r. passes (is_under level v) (facts_at v r)) (same_path q path at) ∙ low)
        | inr none ↦ let (none_v, none_w) = none entry in
            ap (λ r. facts_at v (entry ∷ r)) (same_path q path at) ∙ none_v ∙ sym none_w ∙ sym (ap (λ r. facts_at w (entry ∷ r)) (same_path q path at))
      ]

      facts : (q : Path) → shows level (with_v (map.insert v.objects path x)) q ≡ true → (b : Bool) → is_same q path ≡ b →
          facts_in (if b then Some x else find v q) ≡ facts_in (if b then Some y else find w q)
      facts q h true is = ap Some same
      facts [] h false is = alike.facts [] refl
      facts (entry ∷ q) h false is = child entry q (is_same q path) refl (sym (ap (λ o. passes (is_under level v) (facts_in o)) (find-insert v path x q)) ∙ h)

  -- the row of an object that shows becomes another
  pub alike-with_row : (path : Path) (change : List Modes → List Modes) → shows level v path ≡ true →
      Alike level (with_v (changed_at v path (with_row change)).objects) (with_w (changed_at (fixed_to v.fixed w) path (with_row change)).objects)
  alike-with_row path change h = by (find v path) (find w path) refl (alike.facts path h) (alike.contents path)
    where
      changed_row : Facts → Facts
      changed_row facts = record facts { row = change facts.row }

      by : (a b : Option Object) → find v path ≡ a → facts_in a ≡ facts_in b → contents_under level v a ≡ contents_under level v b →
          Alike level (with_v (changed_by v path (with_row change) a).objects) (with_w (changed_by (fixed_to v.fixed w) path (with_row change) b).objects)
      by None None at f c = alike
      by None (Some y) at f c = cc
      by (Some x) None at f c = cc
      by (Some x) (Some y) at f c = alike-insert path (with_row change x) (with_row change y) (ap changed_row (ap (λ o. unwrap_or o x.facts) f)) c
          (λ under. inl (ap (λ o. passes (is_under level v) (facts_in o)) at ∙ under))

  -- an object and its inferiors go, with all that is held of them
  pub alike-without_group : (path : Path) → Alike level (without_group v path) (without_group (fixed_to v.fixed w) path)
  alike-without_group path = record {
    subjects = alike.subjects;
    current = alike.current;
    process = alike.process;
    holds_same = λ j other x h. holds-retain v (λ t. not (is_inferior t.1 path)) j other x ∙ ap (λ b. b && not (is_inferior other path)) (alike.holds_same j other x h)
        ∙ sym (holds-retain (fixed_to v.fixed w) (λ t. not (is_inferior t.1 path)) j other x);
    shows_same = shows_same;
    facts = λ q h. facts_at-without_group v path q ∙ facts q (is_inferior q path) refl h ∙ sym (facts_at-without_group (fixed_to v.fixed w) path q);
    contents = λ q. ap (contents_under level v) (find-without_group v path q) ∙ contents q (is_inferior q path) ∙ sym (ap (contents_under level v) (find-without_group (fixed_to v.fixed w) path q));
  }
    where
      contents : (q : Path) (b : Bool) → contents_under level v (if not b then find v q else None) ≡ contents_under level v (if not b then find w q else None)
      contents q true = refl
      contents q false = alike.contents q

      under : (q : Path) (b : Bool) → passes (is_under level v) (if not b then facts_at v q else None) ≡ passes (is_under level v) (if not b then facts_at w q else None)
      under q true = refl
      under q false = alike.shows_same (0 ∷ q)

      shows_same : (q : Path) → shows level (without_group v path) q ≡ shows level (without_group (fixed_to v.fixed w) path) q
      shows_same [] = refl
      shows_same (entry ∷ q) =
          ap (passes (is_under level v)) (facts_at-without_group v path q) ∙ under q (is_inferior q path) ∙ sym (ap (passes (is_under level v)) (facts_at-without_group (fixed_to v.fixed w) path q))

      -- what shows after, showed before
      before : (q : Path) → shows level (without_group v path) q ≡ true → shows level v q ≡ true
      before [] h = refl
      before (entry ∷ q) h = by (is_inferior q path) (sym (ap (passes (is_under level v)) (facts_at-without_group v path q)) ∙ h)
        where
          by : (b : Bool) → passes (is_under level v) (if not b then facts_at v q else None) ≡ true → passes (is_under level v) (facts_at v q) ≡ true
          by true h = cc
          by false h = h

      facts : (q : Path) (b : Bool) → is_inferior q path ≡ b → shows level (without_group v path) q ≡ true → (if not b then facts_at v q else None) ≡ (if not b then facts_at w q else None)
      facts q true is h = refl
      facts q false is h = alike.facts q (before q h)

-- What does not lie under a level may change without a trace: objects that are not under it, what is held by subjects that
-- are not under it, and objects of which not even the facts show.
use Rattle.std.proofs.Common.{◌≡◌, ◌≢◌, ℕ, ◌<◌, Bool, true, false, ◌&&◌, ◌||◌, not, [], ◌∷◌, length, Option, Some, None, refl, sym, ap, ◌∙◌, ◌==◌}
use Rattle.std.proofs.Common.{arith, nat_lt, true≢false, ◌⊎◌, inl, inr}
use Rattle.std.proofs.lemmas.Bool.Decides.{nat_tests}
use Rattle.std.specs.Prelude.{option_map, if◌then◌else◌}
use Rattle.std.specs.List.{list_any}
use Rattle.std.specs.Ordering.{eq_by_cmp}
use Rattle.std.specs.FinMap as map
use Rattle.bk_level.specs.Levels.{Level, dominates}
use Rattle.bk_level.proofs.LevelOrder.{and_second, and_both, dominates-trans}
use Rattle.bk_state.specs.Secure.{Secure}
use Rattle.bk_state.specs.Allowed.{is_allowed}
use Rattle.bk_state.specs.RowCalls.{changed_at}
use Rattle.bk_state.specs.AccessCalls.{with_triple, without_triples}
use Rattle.bk_state.specs.TreeCalls.{without_group}
use Rattle.bk_state.specs.Contents.{with_contents}
use Rattle.bk_laws.proofs.Changes.{facts_in, with_objects, holds-with_triple, holds-retain, find-insert, find-changed_at, facts-with_contents}
use Rattle.bk_laws.proofs.Changes.{facts_at-contents, find-without_group}
use Rattle.bk_path.specs.Paths.{Path, is_same, is_inferior}
use Rattle.bk_path.specs.Orders.{same_path}
use Rattle.bk_object.specs.Modes.{AccessMode, Write, Append, has}
use Rattle.bk_object.specs.Rows.{in_row}
use Rattle.bk_object.specs.declared.Facts.{Facts}
use Rattle.bk_object.specs.declared.Modes.{Modes}
use Rattle.bk_quota.specs.Charges.{passes}
use Rattle.bk_state.specs.State.{State, Object, Contents, triple_cmp, find, facts_at, holds, current_level, level_of}
use Rattle.bk_state.specs.Low.{is_subject_under, is_under, shows, contents_under}
use Rattle.bk_state.proofs.Triples.{same_triple}
use Rattle.bk_laws.proofs.Tests.{false_if}
use Rattle.bk_laws.proofs.SecureAccess.{star_above, star_of}
use Rattle.bk_laws.proofs.Alike.{Alike, shows_under, held_shows, nothing_under, alike_itself, alike-contents}

-- the object at the path is another
abbrev pub with_object_at : State → Path → Object → State
with_object_at v path object = with_objects v (map.insert v.objects path object)

module _ (level : Level) (v : State) (sec : Secure v) where
  -- an object that does not show is not under the level
  pub not_under : (path : Path) → shows level v path ≡ false → passes (is_under level v) (facts_at v path) ≡ false
  not_under path hidden = false_if _ (λ h. true≢false (sym (shows_under level v path sec h) ∙ hidden))

  -- no inferior of an object that does not show shows
  pub inferior_hidden : (path : Path) → shows level v path ≡ false → (q : Path) → is_inferior q path ≡ true → shows level v q ≡ false
  inferior_hidden path hidden [] h = cc (hidden, ap (shows level v) (same_path [] path h))
  inferior_hidden path hidden (entry ∷ q) h = by (is_same (entry ∷ q) path) refl h (λ i. not_under q (inferior_hidden path hidden q i))
    where
      by : (b : Bool) → is_same (entry ∷ q) path ≡ b → (b || is_inferior q path) ≡ true →
          (is_inferior q path ≡ true → passes (is_under level v) (facts_at v q) ≡ false) → shows level v (entry ∷ q) ≡ false
      by true is i rest = ap (shows level v) (same_path (entry ∷ q) path is) ∙ hidden
      by false is i rest = rest i

  -- an object at a path that does not show
  pub alike_insert : (path : Path) (o : Object) → shows level v path ≡ false → is_under level v o.facts ≡ false → Alike level v (with_object_at v path o)
  alike_insert path o hidden high = record {
    subjects = λ j. refl;
    current = λ j h. refl;
    process = λ s h. refl;
    holds_same = λ s q mode h. refl;
    shows_same = shows_same;
    facts = λ q h. facts q (is_same q path) refl h;
    contents = λ q. contents q (is_same q path) refl;
  }
    where
      under : (q : Path) (b : Bool) → is_same q path ≡ b → passes (is_under level v) (facts_at v q) ≡ passes (is_under level v) (facts_in (if b then Some o else find v q))
      under q true is = ap (λ r. passes (is_under level v) (facts_at v r)) (same_path q path is) ∙ not_under path hidden ∙ sym high
      under q false is = refl

      shows_same : (q : Path) → shows level v q ≡ shows level (with_object_at v path o) q
      shows_same [] = refl
      shows_same (entry ∷ q) = under q (is_same q path) refl ∙ sym (ap (λ a. passes (is_under level v) (facts_in a)) (find-insert v path o q))

      facts : (q : Path) (b : Bool) → is_same q path ≡ b → shows level v q ≡ true → facts_at v q ≡ facts_at (with_object_at v path o) q
      facts q true is h = absurd (true≢false (sym h ∙ ap (shows level v) (same_path q path is) ∙ hidden))
      facts q false is h = sym (ap facts_in (find-insert v path o q ∙ ap (λ b. if b then Some o else find v q) is))

      contents : (q : Path) (b : Bool) → is_same q path ≡ b → contents_under level v (find v q) ≡ contents_under level v (find (with_object_at v path o) q)
      contents q true is =
          nothing_under level v (find v q) (ap (λ r. passes (is_under level v) (facts_at v r)) (same_path q path is) ∙ not_under path hidden) ∙ sym (nothing_under level v (Some o) high)
          ∙ sym (ap (contents_under level v) (find-insert v path o q ∙ ap (λ b. if b then Some o else find v q) is))
      contents q false is = sym (ap (contents_under level v) (find-insert v path o q ∙ ap (λ b. if b then Some o else find v q) is))

  -- other contents of an object that is not under the level
  pub alike_contents : (path : Path) (change : Contents → Contents) → passes (is_under level v) (facts_at v path) ≡ false →
      Alike level v (with_objects v (changed_at v path (with_contents change)).objects)
  alike_contents path change high = alike-contents level v v (alike_itself level v) v.objects _ (λ q. refl) (facts_at-contents v path change)
      (λ q. contents q (is_same q path) refl ∙ sym (ap (contents_under level v) (find-changed_at v path (with_contents change) q)))
    where
      contents : (q : Path) (b : Bool) → is_same q path ≡ b →
          contents_under level v (find v q) ≡ contents_under level v (if b then option_map (with_contents change) (find v path) else find v q)
      contents q true is =
          ap (λ r. contents_under level v (find v r)) (same_path q path is) ∙ nothing_under level v (find v path) high
          ∙ sym (nothing_under level v (option_map (with_contents change) (find v path)) (ap (passes (is_under level v)) (facts-with_contents change (find v path)) ∙ high))
      contents q false is = refl

  -- a group whose top does not show goes
  pub alike_without_group : (path : Path) → shows level v path ≡ false → Alike level v (without_group v path)
  alike_without_group path hidden = record {
    subjects = λ j. refl;
    current = λ j h. refl;
    process = λ s h. refl;
    holds_same = λ s q mode h. sym (holds-retain v (λ t. not (is_inferior t.1 path)) s q mode ∙ held s q mode h (holds v s q mode) refl (is_inferior q path) refl);
    shows_same = shows_same;
    facts = λ q h. facts q h (is_inferior q path) refl;
    contents = λ q. contents q (is_inferior q path) refl ∙ sym (ap (contents_under level v) (find-without_group v path q));
  }
    where
      held : (s : ℕ) (q : Path) (mode : AccessMode) → is_subject_under level v s ≡ true → (a : Bool) → holds v s q mode ≡ a → (b : Bool) → is_inferior q path ≡ b → (a && not b) ≡ a
      held s q mode under true is true i = absurd (true≢false (sym (held_shows level v s under sec q mode is) ∙ inferior_hidden path hidden q i))
      held s q mode under true is false i = refl
      held s q mode under false is b i = refl

      left : (q : Path) (b : Bool) → is_inferior q path ≡ b →
          passes (is_under level v) (facts_at v q) ≡ passes (is_under level v) (facts_in (if not b then find v q else None))
      left q true i = not_under q (inferior_hidden path hidden q i)
      left q false i = refl

      shows_same : (q : Path) → shows level v q ≡ shows level (without_group v path) q
      shows_same [] = refl
      shows_same (entry ∷ q) = left q (is_inferior q path) refl ∙ sym (ap (λ a. passes (is_under level v) (facts_in a)) (find-without_group v path q))

      facts : (q : Path) → shows level v q ≡ true → (b : Bool) → is_inferior q path ≡ b → facts_at v q ≡ facts_at (without_group v path) q
      facts q h true i = absurd (true≢false (sym h ∙ inferior_hidden path hidden q i))
      facts q h false i = sym (ap facts_in (find-without_group v path q ∙ ap (λ b. if not b then find v q else None) i))

      contents : (q : Path) (b : Bool) → is_inferior q path ≡ b → contents_under level v (find v q) ≡ contents_under level v (if not b then find v q else None)
      contents q true i = nothing_under level v (find v q) (not_under q (inferior_hidden path hidden q i))
      contents q false i = refl

  -- what is held of a path that does not show goes
  pub alike_without_triples : (s : ℕ) (path : Path) (modes : Modes) → shows level v path ≡ false → Alike level v (without_triples v s path modes)
  alike_without_triples s path modes hidden = record {
    subjects = λ j. refl;
    current = λ j h. refl;
    process = λ j h. refl;
    shows_same = λ q. refl;
    facts = λ q h. refl;
    contents = λ q. refl;
    holds_same = λ j q mode h. sym (holds-retain v (λ t. not ((t.0 == s) && is_same t.1 path && has modes t.2)) j q mode ∙ held j q mode h (holds v j q mode) refl (is_same q path) refl);
  }
    where
      stays : (a b c : Bool) → b ≡ false → (true && not (a && b && c)) ≡ true
      stays true true c e = cc
      stays true false c e = refl
      stays false b c e = refl

      held : (j : ℕ) (q : Path) (mode : AccessMode) → is_subject_under level v j ≡ true → (a : Bool) → holds v j q mode ≡ a → (b : Bool) → is_same q path ≡ b →
          (a && not ((j == s) && is_same q path && has modes mode)) ≡ a
      held j q mode under true is true i = absurd (true≢false (sym (held_shows level v j under sec q mode is) ∙ ap (shows level v) (same_path q path i) ∙ hidden))
      held j q mode under true is false i = stays (j == s) (is_same q path) (has modes mode) i
      held j q mode under false is b i = refl

  -- a subject that is there, and not under the level
  module _ (s : ℕ) (real : s < length v.fixed.subjects) (blind : is_subject_under level v s ≡ false) where
    pub not_current : dominates level (current_level v s) ≡ false
    not_current = false_if _ (λ h. true≢false (sym (and_both (nat_lt s (length v.fixed.subjects)) _ (grind (arith, nat_tests, real)) h) ∙ blind))

    pub other_subject : (j : ℕ) → is_subject_under level v j ≡ true → j ≢ s
    other_subject j under same = true≢false (sym under ∙ ap (is_subject_under level v) same ∙ blind)

    -- it holds something more
    pub alike_with_triple : (path : Path) (mode : AccessMode) → Alike level v (with_triple v s path mode)
    alike_with_triple path mode = record {
      subjects = λ j. refl;
      current = λ j h. refl;
      process = λ j h. refl;
      holds_same = λ j q x h. by j q x h (eq_by_cmp triple_cmp (j, q, x) (s, path, mode)) refl ∙ sym (holds-with_triple v s path mode j q x);
      shows_same = λ q. refl;
      facts = λ q h. refl;
      contents = λ q. refl;
    }
      where
        by : (j : ℕ) (q : Path) (x : AccessMode) → is_subject_under level v j ≡ true → (b : Bool) → eq_by_cmp triple_cmp (j, q, x) (s, path, mode) ≡ b → holds v j q x ≡ (b || holds v j q x)
        by j q x h true is = absurd (other_subject j h (same_triple (j, q, x) (s, path, mode) is).0)
        by j q x h false is = refl

    -- it holds something no more
    pub alike_release : (path : Path) (modes : Modes) → Alike level v (without_triples v s path modes)
    alike_release path modes = record {
      subjects = λ j. refl;
      current = λ j h. refl;
      process = λ j h. refl;
      shows_same = λ q. refl;
      facts = λ q h. refl;
      contents = λ q. refl;
      holds_same = λ j q mode h. sym (holds-retain v (λ t. not ((t.0 == s) && is_same t.1 path && has modes t.2)) j q mode ∙ held j q mode (other_subject j h) (j == s) refl);
    }
      where
        stays : (a : Bool) → (a && true) ≡ a
        stays true = refl
        stays false = refl

        held : (j : ℕ) (q : Path) (mode : AccessMode) → j ≢ s → (b : Bool) → (j == s) ≡ b → (holds v j q mode && not ((j == s) && is_same q path && has modes mode)) ≡ holds v j q mode
        held j q mode apart true is = absurd (apart (grind (arith, nat_tests, is)))
        held j q mode apart false is = ap (λ b. holds v j q mode && not (b && is_same q path && has modes mode)) is ∙ stays (holds v j q mode)

    -- an object that dominates its current level is not under the level
    above_high : (facts : Facts) → dominates (level_of v facts) (current_level v s) ≡ true → is_under level v facts ≡ false
    above_high facts h = false_if _ (λ under. true≢false (sym (dominates-trans level (level_of v facts) (current_level v s) under h) ∙ not_current))

    -- so what it holds by write or append is not, by the *-property
    high_by : (mode : AccessMode) → (mode ≡ Write) ⊎ (mode ≡ Append) → (path : Path) → holds v s path mode ≡ true → passes (is_under level v) (facts_at v path) ≡ false
    high_by mode one path held = by (facts_at v path) (sec.access s path mode held)
      where
        by : (a : Option Facts) → passes (λ facts. has (in_row facts.row s) mode && is_allowed v s facts mode) a ≡ true → passes (is_under level v) a ≡ false
        by None h = refl
        by (Some facts) h = above_high facts (star_above mode (current_level v s) (level_of v facts) one (star_of v s mode facts (and_second (has (in_row facts.row s) mode) _ h)))

    -- what it holds by write is not under the level
    pub high_written : (path : Path) → holds v s path Write ≡ true → passes (is_under level v) (facts_at v path) ≡ false
    high_written path held = high_by Write (inl refl) path held

    -- so what is below a directory that it holds by write does not show
    pub hidden_below : (entry : ℕ) (path : Path) → holds v s path Write ≡ true → shows level v (entry ∷ path) ≡ false
    hidden_below entry path held = high_written path held

    -- the same, as the checks of calls say it
    pub high_by_write : (path : Path) → list_any (holds v s path) (Write ∷ []) ≡ true → passes (is_under level v) (facts_at v path) ≡ false
    high_by_write path held = by (holds v s path Write) refl held
      where
        by : (b : Bool) → holds v s path Write ≡ b → (b || false) ≡ true → passes (is_under level v) (facts_at v path) ≡ false
        by true is h = high_written path is
        by false is h = cc

    -- nor is what it holds by write or by append
    pub high_object : (path : Path) → list_any (holds v s path) (Write ∷ Append ∷ []) ≡ true → passes (is_under level v) (facts_at v path) ≡ false
    high_object path held = by (holds v s path Write) refl (holds v s path Append) refl held
      where
        by : (b : Bool) → holds v s path Write ≡ b → (c : Bool) → holds v s path Append ≡ c → (b || (c || false)) ≡ true → passes (is_under level v) (facts_at v path) ≡ false
        by true is c also h = high_written path is
        by false is true also h = high_by Append (inr refl) path also
        by false is false also h = cc

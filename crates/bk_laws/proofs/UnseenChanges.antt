-- No change that a subject which is not under a level can make shows at the level, nor does a byte that it can send.
use Rattle.std.proofs.Common.{◌≡◌, ℕ, ◌<◌, true, false, List, [], ◌∷◌, length, Option, Some, None, refl, sym, ap, ◌∙◌, true≢false, cond}
use Rattle.std.specs.FinMap as map
use Rattle.bk_level.specs.Levels.{Level, dominates, level_at}
use Rattle.bk_level.proofs.LevelOrder.{and_second, dominates-trans}
use Rattle.bk_path.specs.Paths.{Path, parent, is_root}
use Rattle.bk_object.specs.Modes.{Write}
use Rattle.bk_object.specs.Rows.{rescinded}
use Rattle.bk_object.specs.declared.Kind.{Kind}
use Rattle.bk_object.specs.declared.Kind.TheVariants.{Directory, Segment, Mailbox, Line}
use Rattle.bk_object.specs.declared.Modes.{Modes}
use Rattle.bk_quota.specs.Charges.{passes}
use Rattle.bk_report.specs.declared.ReportItem.TheVariants as items
use Rattle.bk_state.specs.State.{State, Object, Contents, Children, Words, Messages, Typed, find, facts_at, holds, level_of}
use Rattle.bk_state.specs.Quota.{level_number}
use Rattle.bk_state.specs.Secure.{Secure, FitsKind}
use Rattle.bk_state.specs.Request.{Request}
use Rattle.bk_state.specs.RowCalls.{changed_by, changed_at, with_row}
use Rattle.bk_state.specs.AccessCalls.{without_triples}
use Rattle.bk_state.specs.TreeCalls.{new_object}
use Rattle.bk_state.specs.Contents.{with_contents}
use Rattle.bk_state.specs.QueueCalls.{byte_on}
use Rattle.bk_system.specs.declared.at.At.{At}
use Rattle.bk_system.specs.Turn.{byte_item}
use Rattle.bk_laws.specs.Seen.{seen_items}
use Rattle.bk_laws.proofs.Changes.{facts_in, with_changes, changed_at-is, changed_at-changes}
use Rattle.bk_state.specs.Low.{is_subject_under, is_line_under, is_under, shows, low}
use Rattle.bk_laws.proofs.Tests.{false_if, passes_more}
use Rattle.bk_laws.proofs.Alike.{Alike, low_from_alike}
use Rattle.bk_laws.proofs.Unseen.{with_object_at, not_under, alike_insert, alike_contents, alike_without_triples}
use Rattle.bk_laws.proofs.Unseen.{hidden_below}

-- a subject that is there, and not under the level
module _ (level : Level) (v : State) (sec : Secure v) (s : ℕ) (real : s < length v.fixed.subjects) (blind : is_subject_under level v s ≡ false) where
  -- ---- objects

  -- an object whose parent it holds by write does not show
  pub hidden_path : (path : Path) → is_root path ≡ false → holds v s (parent path) Write ≡ true → shows level v path ≡ false
  hidden_path [] root write = cc
  hidden_path (entry ∷ path) root write = hidden_below level v sec s real blind entry path write

  high_facts : (path : Path) (o : Object) → find v path ≡ Some o → passes (is_under level v) (facts_at v path) ≡ false → is_under level v o.facts ≡ false
  high_facts path o there high = sym (ap (λ a. passes (is_under level v) (facts_in a)) there) ∙ high

  -- another row of an object that does not show
  pub row_changed : (path : Path) (change : List Modes → List Modes) (o : Option Object) → find v path ≡ o → shows level v path ≡ false →
      low level v ≡ low level (with_changes v (changed_by v path (with_row change) o))
  row_changed path change None is hidden = refl
  row_changed path change (Some o) is hidden =
      low_from_alike level v _ _ _ _ (alike_insert level v sec path (with_row change o) hidden (high_facts path o is (not_under level v sec path hidden)))

  -- the row of an object that does not show, and what a subject holds of it
  pub row_rescinded : (path : Path) (j : ℕ) (modes : Modes) (o : Option Object) → find v path ≡ o → shows level v path ≡ false →
      low level v ≡ low level (with_changes v (changed_by (without_triples v j path modes) path (with_row (rescinded j modes)) o))
  row_rescinded path j modes None is hidden = low_from_alike level v _ _ _ _ (alike_without_triples level v sec j path modes hidden)
  row_rescinded path j modes (Some o) is hidden = low_from_alike level v _ _ _ _ (record {
    subjects = λ j. refl;
    current = λ j h. refl;
    process = λ i h. refl;
    holds_same = triples.holds_same;
    shows_same = shows_same;
    facts = objects.facts;
    contents = objects.contents;
  })
    where
      triples : Alike level v (without_triples v j path modes)
      triples = alike_without_triples level v sec j path modes hidden

      objects : Alike level v (with_object_at v path (with_row (rescinded j modes) o))
      objects = alike_insert level v sec path (with_row (rescinded j modes) o) hidden (high_facts path o is (not_under level v sec path hidden))

      shows_same : (q : Path) → shows level v q ≡ shows level (record (without_triples v j path modes) { objects = map.insert v.objects path (with_row (rescinded j modes) o) }) q
      shows_same [] = refl
      shows_same (entry ∷ q) = objects.shows_same (entry ∷ q)

  -- a new object, whose level dominates that of its parent
  pub created : (request : Request) (path : Path) → is_root path ≡ false → holds v s (parent path) Write ≡ true →
      passes (λ above. dominates (level_at v.fixed.levels request.level) (level_of v above)) (facts_at v (parent path)) ≡ true →
      low level v ≡ low level (with_object_at v path (new_object request (level_number v (parent path))))
  created request [] root write above = cc
  created request (entry ∷ path) root write above =
      let hidden = hidden_below level v sec s real blind entry path write in
      low_from_alike level v _ _ _ _ (alike_insert level v sec (entry ∷ path) (new_object request (level_number v path)) hidden
      (false_if _ (λ under. true≢false (sym (passes_more _ _ (facts_at v path)
      (λ f is d. dominates-trans level (level_at v.fixed.levels request.level) (level_of v f) under d) above) ∙ hidden))))

  -- other contents of an object that is not under the level
  pub contents_changed : (path : Path) (change : Contents → Contents) → passes (is_under level v) (facts_at v path) ≡ false →
      low level v ≡ low level (changed_at v path (with_contents change))
  contents_changed path change high =
      low_from_alike level v _ _ _ _ (alike_contents level v sec path change high) ∙ sym (ap (low level) (changed_at-is v path (with_contents change)))

  pub contents_by_call : (path : Path) (change : Contents → Contents) → passes (is_under level v) (facts_at v path) ≡ false →
      low level v ≡ low level (with_changes v (changed_at v path (with_contents change)))
  contents_by_call path change high = contents_changed path change high ∙ ap (low level) (changed_at-changes v path (with_contents change))

  -- ---- the byte that a call sends

  -- the items of a byte that goes out on the line of that object, if it is of one
  unseen_byte : (at : At) (byte : ℕ) (o : Object) → FitsKind v.fixed o.facts.kind o.facts o.contents → is_under level v o.facts ≡ false →
      seen_items level v (byte_item at (byte_on byte (Some o))) ≡ []
  unseen_byte at byte o fits high = by o.facts.kind o.contents fits
    where
      by : (kind : Kind) (contents : Contents) → FitsKind v.fixed kind o.facts contents →
          seen_items level v (byte_item at (byte_on byte (Some (record { facts = record o.facts { kind = kind }; contents = contents })))) ≡ []
      by Directory contents fits = refl
      by Segment contents fits = refl
      by Mailbox contents fits = refl
      by (Line n) Children fits = absurd fits
      by (Line n) (Words words) fits = absurd fits
      by (Line n) (Messages waiting lost) fits = absurd fits
      by (Line n) (Typed bytes) (none, few, there, is) = ap (λ b. cond b (items.Byte at.slot at.turn n byte ∷ []) []) hidden
        where
          hidden : is_line_under level v n ≡ false
          hidden = false_if _ (λ under. true≢false (sym (and_second _ _ under) ∙ sym (ap (λ k. dominates level (level_at v.fixed.levels k)) is) ∙ high))

  pub unseen_line : (at : At) (byte : ℕ) (path : Path) (o : Option Object) → find v path ≡ o → passes (is_under level v) (facts_at v path) ≡ false →
      seen_items level v (byte_item at (byte_on byte o)) ≡ []
  unseen_line at byte path None is high = refl
  unseen_line at byte path (Some o) is high = unseen_byte at byte o (sec.kinds path o is) (high_facts path o is high)

-- What a level does not see leaves what lies under it, and tells nothing of it.
use Rattle.std.proofs.Common.{◌≡◌, ℕ, Bool, true, false, List, length, Option, Some, None, refl, sym, ap, ◌∙◌, arith, nat_lt, true≢false}
use Rattle.std.proofs.lemmas.Bool.Decides.{nat_tests}
use Rattle.std.specs.Prelude.{option_map, if◌then◌else◌, slice_index, ◌<◌}
use Rattle.bk_level.specs.Levels.{Level, dominates, level_at}
use Rattle.bk_level.proofs.LevelOrder.{and_both}
use Rattle.bk_path.specs.Paths.{Path}
use Rattle.bk_object.specs.declared.Facts.{Facts}
use Rattle.bk_object.specs.declared.Kind.{Kind}
use Rattle.bk_object.specs.declared.Kind.TheVariants.{Directory, Segment, Mailbox, Line}
use Rattle.bk_state.specs.State.{State, Object, Contents, Children, Words, Messages, Typed, find}
use Rattle.bk_state.specs.Secure.{Secure, FitsKind}
use Rattle.bk_system.specs.Arrivals.{typed, taking, arrived}
use Rattle.bk_system.specs.Event.{Arrive, Turn, EndSlot, happens}
use Rattle.bk_laws.proofs.Changes.{find-arrived, facts_at-arrived}
use Rattle.bk_state.specs.Start.{is_line}
use Rattle.bk_state.specs.Low.{is_line_under, is_under, contents_under, low}
use Rattle.bk_laws.specs.Laws.{LawUnseen}
use Rattle.bk_laws.proofs.Tests.{false_if}
use Rattle.bk_laws.proofs.Alike.{low_from_alike, alike_itself, alike-contents}
use Rattle.bk_laws.proofs.UnseenTurns.{unseen_turn}

-- ---- bytes that arrive on a line which is not under the level, or not there

module _ (level : Level) (v : State) (line : ℕ) (bytes : List ℕ) (sec : Secure v) (blind : is_line_under level v line ≡ false) where
  line_high : (facts : Facts) → line < length v.fixed.lines → facts.level ≡ slice_index v.fixed.lines line → is_under level v facts ≡ false
  line_high facts there is = false_if _ (λ under. true≢false (sym (and_both (nat_lt line (length v.fixed.lines)) (dominates level (level_at v.fixed.levels (slice_index v.fixed.lines line)))
      (grind (arith, nat_tests, there)) (sym (ap (λ n. dominates level (level_at v.fixed.levels n)) is) ∙ under)) ∙ blind))

  -- the object of the line is not under the level
  object_high : (kind : Kind) (facts : Facts) (contents : Contents) → is_line line kind ≡ true → FitsKind v.fixed kind facts contents → is_under level v facts ≡ false
  object_high Directory facts contents is fits = cc
  object_high Segment facts contents is fits = cc
  object_high Mailbox facts contents is fits = cc
  object_high (Line n) facts Children is fits = absurd fits
  object_high (Line n) facts (Words words) is fits = absurd fits
  object_high (Line n) facts (Messages waiting lost) is fits = absurd fits
  object_high (Line n) facts (Typed waiting) is (none, few, there, same) =
      let number : n ≡ line = grind (arith, nat_tests, is) in
      line_high facts (rw (← number) there) (rw (← number) same)

  contents_taking : (q : Path) (o : Option Object) → find v q ≡ o → contents_under level v o ≡ contents_under level v (option_map (taking line bytes) o)
  contents_taking q None is = refl
  contents_taking q (Some o) is = by (is_line line o.facts.kind) refl
    where
      by : (b : Bool) → is_line line o.facts.kind ≡ b →
          (if is_under level v o.facts then Some o.contents else None) ≡ (if is_under level v o.facts then Some (if b then typed bytes o.contents else o.contents) else None)
      by true its =
          let high = object_high o.facts.kind o.facts o.contents its (sec.kinds q o is) in
          ap (λ b. if b then Some o.contents else None) high ∙ sym (ap (λ b. if b then Some (typed bytes o.contents) else None) high)
      by false its = refl

  unseen_arrived : low level v ≡ low level (arrived v line bytes)
  unfolding arrived
  unseen_arrived = low_from_alike level v _ _ _ _ (alike-contents level v v (alike_itself level v) v.objects _ (λ q. refl) (facts_at-arrived v line bytes)
      (λ q. contents_taking q (find v q) refl ∙ sym (ap (contents_under level v) (find-arrived v line bytes q))))

-- the law
pub law_unseen : LawUnseen
unfolding happens
law_unseen level v (Turn at) sec blind =
    let step = unseen_turn level at v sec blind in
    record { state = sym step.state; items = step.items }
law_unseen level v (Arrive line bytes) sec blind = record { state = sym (unseen_arrived level v line bytes sec blind); items = refl }
law_unseen level v EndSlot sec no_way = cc

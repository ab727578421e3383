-- An event that a level sees does the same in two secure states in which the same lies under the level.
use Rattle.std.proofs.Common.{◌≡◌, ℕ, List, refl, sym, ap, ◌∙◌}
use Rattle.bk_level.specs.Levels.{Level}
use Rattle.bk_state.specs.State.{State}
use Rattle.bk_state.specs.Secure.{Secure}
use Rattle.bk_system.specs.Event.{Arrive, Turn, EndSlot, happens, slot_ended}
use Rattle.bk_system.specs.Arrivals.{arrived}
use Rattle.bk_state.specs.Low.{is_line_under, low}
use Rattle.bk_laws.specs.Laws.{LawSeen}
use Rattle.bk_laws.proofs.Alike.{fixed_to, low_from_alike, subject-low}
use Rattle.bk_laws.proofs.SeenAccess.{alike-resumed}
use Rattle.bk_laws.proofs.SeenObjects.{alike-arrived}
use Rattle.bk_laws.proofs.SeenTurns.{SameStep, from_alike, turn-low}

module _ (level : Level) (v w : State) (sv : Secure v) (sw : Secure w) (same : low level v ≡ low level w) where
  arrived-low : (line : ℕ) (bytes : List ℕ) → low level (arrived v line bytes) ≡ low level (arrived w line bytes)
  unfolding arrived
  arrived-low line bytes = from_alike level v w (λ u. low level (arrived v line bytes) ≡ low level (arrived u line bytes)) sv sw same
      (λ secure alike. low_from_alike level (arrived v line bytes) _ _ _ _ (alike-arrived level v w alike sv line bytes))

  slot_ended-low : low level (slot_ended v) ≡ low level (slot_ended w)
  unfolding slot_ended
  slot_ended-low = from_alike level v w (λ u. low level (slot_ended v) ≡ low level (slot_ended u)) sv sw same
      (λ secure alike. low_from_alike level (slot_ended v) _ _ _ _ (alike-resumed level v w alike))

  -- the line is under the level in both
  line-low : (line : ℕ) → is_line_under level v line ≡ is_line_under level w line
  unfolding low
  line-low line = ap (λ view. is_line_under level (fixed_to view.fixed v) line) same

-- the law
pub law_seen : LawSeen
unfolding happens
law_seen level v w (Arrive line bytes) sv sw same seen = record {
  seen = sym (line-low level v w sv sw same line) ∙ seen;
  state = arrived-low level v w sv sw same line bytes;
  items = refl;
}
law_seen level v w (Turn at) sv sw same seen =
    let step : SameStep level (happens v (Turn at)) (happens w (Turn at)) = turn-low level v w sv sw same at seen in
    record { seen = sym (subject-low level v w same at.subject) ∙ seen; state = step.state; items = step.items }
law_seen level v w EndSlot sv sw same seen = record { seen = refl; state = slot_ended-low level v w sv sw same; items = refl }

-- Whole runs, by induction on the list of their events.
use Rattle.std.proofs.Common.{◌≡◌, Bool, true, false, List, [], ◌∷◌, ◌++◌, refl, sym, ap, ◌∙◌}
use Rattle.std.specs.Prelude.{if◌then◌else◌}
use Rattle.bk_level.specs.Levels.{Level}
use Rattle.bk_state.specs.State.{State}
use Rattle.bk_state.specs.Secure.{Secure}
use Rattle.bk_state.specs.Low.{low}
use Rattle.bk_system.specs.Event.{Event, happens, all_happen}
use Rattle.bk_laws.specs.Seen.{is_seen, seen_events, seen_items, seen_told}
use Rattle.bk_laws.specs.Laws.{LawSecure, LawUnseen, LawSeen, LawRuns, RunAlike}
use Rattle.bk_laws.proofs.SeenItems.{items_by_low}

module _ (law_secure : LawSecure) (law_unseen : LawUnseen) (law_seen : LawSeen) (level : Level) where
  -- a run from two states in which the same lies under the level, where one has only the events that are seen
  purged : (events : List Event) (v w : State) → Secure v → Secure w → low level v ≡ low level w → RunAlike level v w events (seen_events level v events)
  purged [] v w sv sw same = record { state = same; items = refl }
  purged (e ∷ es) v w sv sw same = by (is_seen level v e) refl (purged es)
    where
      after_v : State
      after_v = (happens v e).state

      after_w : State
      after_w = (happens w e).state

      by : (b : Bool) → is_seen level v e ≡ b → ((x y : State) → Secure x → Secure y → low level x ≡ low level y → RunAlike level x y es (seen_events level x es)) →
          RunAlike level v w (e ∷ es) (if b then e ∷ seen_events level after_v es else seen_events level after_v es)
      by true seen rest =
          let step = law_seen level v w e sv sw same seen in
          let after = rest after_v after_w (law_secure v e sv).secure (law_secure w e sw).secure step.state in
          let told = items_by_low level v w same (happens v e).items ∙ ap (seen_items level w) step.items in
          record { state = after.state; items = λ i. told i ++ after.items i }
      by false blind rest =
          let step = law_unseen level v e sv blind in
          let after = rest after_v w (law_secure v e sv).secure sw (step.state ∙ same) in
          record { state = after.state; items = ap (λ told. told ++ seen_told level after_v es) step.items ∙ after.items }

-- the law of runs follows from the other three
pub runs_alike : LawSecure → LawUnseen → LawSeen → LawRuns
runs_alike law_secure law_unseen law_seen level v w events others sv sw same seen =
    let first = purged law_secure law_unseen law_seen level events v w sv sw same in
    let second = purged law_secure law_unseen law_seen level others w w sw sw refl in
    record {
      state = first.state ∙ ap (λ es. low level (all_happen w es).state) seen ∙ sym second.state;
      items = first.items ∙ ap (seen_told level w) seen ∙ sym second.items;
    }

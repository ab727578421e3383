-- Without the bytes typed on lines that are not under a level, a run tells the same of it.
use Rattle.std.proofs.Common.{◌≡◌, ℕ, Bool, true, false, List, [], ◌∷◌, ◌++◌, map, filter, refl, sym, ap, ◌∙◌, ◌==◌, cond, true≢false}
use Rattle.std.specs.Prelude.{flat_map, if◌then◌else◌}
use Rattle.std.specs.List.{range_with_len}
use Rattle.std.proofs.lemmas.List.Elements.{filter-append}
use Rattle.bk_level.specs.Levels.{Level}
use Rattle.bk_state.specs.Start.{state_of}
use Rattle.bk_state.specs.State.{State, Fixed}
use Rattle.bk_state.specs.Secure.{Secure}
use Rattle.bk_state.specs.Low.{is_line_under, low}
use Rattle.bk_system.specs.declared.script.TypedAt.{TypedAt}
use Rattle.bk_system.specs.Kept.{keep}
use Rattle.bk_system.specs.Slot.{records_for, subject_of, slot_events, run_events}
use Rattle.bk_system.specs.Event.{Event, Arrive, Turn, EndSlot, happens}
use Rattle.bk_laws.specs.Seen.{is_seen, seen_events}
use Rattle.bk_laws.specs.Laws.{LawSecure, LawUnseen, LawSeen, LawRuns, LawKept}
use Rattle.bk_laws.proofs.Alike.{fixed_to}
use Rattle.bk_laws.proofs.Tests.{false_if}

-- ---- the events of the script without these bytes

module _ (level : Level) (start : State) where
  -- all events but arrivals on lines that are not under the level
  abbrev pub is_kept : Event → Bool
  is_kept (Arrive line bytes) = is_line_under level start line
  is_kept (Turn at) = true
  is_kept EndSlot = true

  abbrev typed : List TypedAt → List Event
  typed records = map (λ r. Arrive r.line r.bytes) records

  arrivals : (k : ℕ) (records : List TypedAt) → typed (records_for k (keep level start records)) ≡ filter is_kept (typed (records_for k records))
  arrivals k [] = refl
  arrivals k (r ∷ records) = by (is_line_under level start r.line) refl (r.slot == k) refl (arrivals k records)
    where
      by : (b : Bool) → is_line_under level start r.line ≡ b → (c : Bool) → (r.slot == k) ≡ c → typed (records_for k (keep level start records)) ≡ filter is_kept (typed (records_for k records)) →
          typed (records_for k (if b then r ∷ keep level start records else keep level start records)) ≡ filter is_kept (typed (if c then r ∷ records_for k records else records_for k records))
      by true under true here rest = rw (here, under) (ap (λ es. Arrive r.line r.bytes ∷ es) rest)
      by true under false here rest = rw here rest
      by false under true here rest = rw under rest
      by false under false here rest = rest

  turns : (slot s : ℕ) (ns : List ℕ) → map (λ turn. Turn (record { slot = slot; turn = turn; subject = s })) ns ≡ filter is_kept (map (λ turn. Turn (record { slot = slot; turn = turn; subject = s })) ns)
  turns slot s [] = refl
  turns slot s (n ∷ ns) = ap (λ es. Turn (record { slot = slot; turn = n; subject = s }) ∷ es) (turns slot s ns)

  slot : (fixed : Fixed) (k : ℕ) (records : List TypedAt) → slot_events fixed k (records_for k (keep level start records)) ≡ filter is_kept (slot_events fixed k (records_for k records))
  slot fixed k records =
      let those = map (λ turn. Turn (record { slot = k; turn = turn; subject = subject_of fixed k })) (range_with_len 0 fixed.turns) in
      (λ i. (arrivals k records i ++ turns k (subject_of fixed k) (range_with_len 0 fixed.turns) i) ++ EndSlot ∷ [])
      ∙ ap (λ es. es ++ EndSlot ∷ []) (sym (filter-append is_kept (typed (records_for k records)) those))
      ∙ sym (filter-append is_kept (typed (records_for k records) ++ those) (EndSlot ∷ []))

  slots : (fixed : Fixed) (records : List TypedAt) (ks : List ℕ) →
      flat_map (λ k. slot_events fixed k (records_for k (keep level start records))) ks ≡ filter is_kept (flat_map (λ k. slot_events fixed k (records_for k records)) ks)
  slots fixed records [] = refl
  slots fixed records (k ∷ ks) =
      (λ i. slot fixed k records i ++ slots fixed records ks i)
      ∙ sym (filter-append is_kept (slot_events fixed k (records_for k records)) (flat_map (λ k. slot_events fixed k (records_for k records)) ks))

-- ---- what is seen of them

module _ (law_secure : LawSecure) (law_unseen : LawUnseen) (law_seen : LawSeen) (level : Level) (start : State) where
  -- an event that is not kept is not seen
  unkept_unseen : (v : State) (e : Event) → v.fixed ≡ start.fixed → is_kept level start e ≡ false → is_seen level v e ≡ false
  unkept_unseen v (Arrive line bytes) begun left_out = ap (λ fixed. is_line_under level (fixed_to fixed start) line) begun ∙ left_out
  unkept_unseen v (Turn at) begun left_out = cc
  unkept_unseen v EndSlot begun left_out = cc

  -- what is not seen in one of two states in which the same lies under the level is not seen in the other
  unseen_too : (v w : State) (e : Event) → Secure v → Secure w → low level v ≡ low level w → is_seen level v e ≡ false → is_seen level w e ≡ false
  unseen_too v w e sv sw same blind = false_if _ (λ seen. true≢false (sym (law_seen level w v e sw sv (sym same) seen).seen ∙ blind))

  -- of two runs, from states in which the same lies under the level, of which one has the kept events alone, the same is seen
  same_seen : (events : List Event) (v w : State) → Secure v → Secure w → low level v ≡ low level w → v.fixed ≡ start.fixed →
      seen_events level v events ≡ seen_events level w (filter (is_kept level start) events)
  same_seen [] v w sv sw same begun = refl
  same_seen (e ∷ es) v w sv sw same begun = by (is_kept level start e) refl (is_seen level v e) refl (same_seen es)
    where
      after_v : State
      after_v = (happens v e).state

      after_w : State
      after_w = (happens w e).state

      those : List Event
      those = filter (is_kept level start) es

      seen_of : Bool → State → List Event → List Event
      seen_of b u rest = if b then e ∷ seen_events level u rest else seen_events level u rest

      by : (a : Bool) → is_kept level start e ≡ a → (b : Bool) → is_seen level v e ≡ b →
          ((x y : State) → Secure x → Secure y → low level x ≡ low level y → x.fixed ≡ start.fixed → seen_events level x es ≡ seen_events level y those) →
          seen_of b after_v es ≡ seen_events level w (cond a (e ∷ those) those)
      by false left_out true seen rest = absurd (true≢false (sym seen ∙ unkept_unseen v e begun left_out))
      by false left_out false blind rest =
          let kept = law_secure v e sv in
          rest after_v w kept.secure sw ((law_unseen level v e sv blind).state ∙ same) (kept.fixed ∙ begun)
      by true stays true seen rest =
          let kept = law_secure v e sv in
          let step = law_seen level v w e sv sw same seen in
          ap (λ xs. e ∷ xs) (rest after_v after_w kept.secure (law_secure w e sw).secure step.state (kept.fixed ∙ begun))
          ∙ ap (λ b. seen_of b after_w those) (sym step.seen)
      by true stays false blind rest =
          let kept = law_secure v e sv in
          let blind_too = unseen_too v w e sv sw same blind in
          rest after_v after_w kept.secure (law_secure w e sw).secure ((law_unseen level v e sv blind).state ∙ same ∙ sym (law_unseen level w e sw blind_too).state) (kept.fixed ∙ begun)
          ∙ ap (λ b. seen_of b after_w those) (sym blind_too)

-- by the law of runs, over the events of the two scripts
pub law_kept : LawSecure → LawUnseen → LawSeen → LawRuns → LawKept
law_kept law_secure law_unseen law_seen law_runs level image records n sec =
    let v = state_of image in
    law_runs level v v (run_events v.fixed records n) (run_events v.fixed (keep level v records) n) sec sec refl
    (same_seen law_secure law_unseen law_seen level v (run_events v.fixed records n) v v sec sec refl refl
    ∙ ap (seen_events level v) (sym (slots level v v.fixed records (range_with_len 0 n))))

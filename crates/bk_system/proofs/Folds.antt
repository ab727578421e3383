-- Slots and runs, which are folds over events, are what loops make: the last turn last, and the last slot last.
use Rattle.std.proofs.Common.{◌≡◌, ℕ, zero, suc, ◌+◌, List, [], ◌∷◌, ◌++◌, map, refl, sym, ap, ◌∙◌, arith, append_assoc, append-nil}
use Rattle.std.specs.Prelude.{flat_map}
use Rattle.std.specs.List.{range_with_len}
use Rattle.std.proofs.lemmas.Grind.{flat_map-append}
use Rattle.std.proofs.lemmas.List.FromFn.{map-range_with_len_more}
use Rattle.bk_state.specs.declared.image.Image.{Image}
use Rattle.bk_state.specs.Start.{state_of}
use Rattle.bk_state.specs.State.{State}
use Rattle.bk_system.specs.declared.script.TypedAt.{TypedAt}
use Rattle.bk_system.specs.Step.{Step, nothing, joined}
use Rattle.bk_system.specs.Turn.{turn_of}
use Rattle.bk_system.specs.Arrivals.{arrived}
use Rattle.bk_system.specs.Example.{turn_at}
use Rattle.bk_system.specs.Event.{Event, Arrive, Turn, EndSlot, slot_ended, happens, all_happen}
use Rattle.bk_system.specs.Loops.{all_arrived, turns_of, with_slot_ended, slots_of}
use Rattle.bk_system.specs.Slot.{subject_of, slot_events, slot_of, records_for, run_events, run_of}
use Rattle.bk_system.proofs.FixedPart.{all_happen-fixed}

-- ---- one part after another

nothing_plus : (n : ℕ) → 0 + n ≡ n
nothing_plus n = omega arith

plus_nothing : (n : ℕ) → n + 0 ≡ n
plus_nothing n = omega arith

one_more : (n : ℕ) → suc n ≡ n + 1
one_more n = omega arith

nothing_first : (a : Step) → joined (nothing a.state) a ≡ a
nothing_first a = λ i. record { state = a.state; items = a.items; references = nothing_plus a.references i }

nothing_last : (a : Step) → joined a (nothing a.state) ≡ a
nothing_last a = λ i. record { state = a.state; items = append-nil a.items i; references = plus_nothing a.references i }

joined_assoc : (a b c : Step) → joined (joined a b) c ≡ joined a (joined b c)
joined_assoc a b c = λ i. record { state = c.state; items = append_assoc a.items b.items c.items i; references = sums a.references b.references c.references i }
  where
    sums : (n m k : ℕ) → (n + m) + k ≡ n + (m + k)
    sums n m k = omega arith

-- one list of events after another
pub all_happen-append : (v : State) (first second : List Event) →
    all_happen v (first ++ second) ≡ joined (all_happen v first) (all_happen (all_happen v first).state second)
all_happen-append v [] second = sym (nothing_first (all_happen v second))
all_happen-append v (e ∷ es) second =
    ap (joined (happens v e)) (all_happen-append (happens v e).state es second)
    ∙ sym (joined_assoc (happens v e) (all_happen (happens v e).state es) (all_happen (all_happen (happens v e).state es).state second))

all_happen-one : (v : State) (e : Event) → all_happen v (e ∷ []) ≡ happens v e
all_happen-one v e = nothing_last (happens v e)

-- ---- a slot

arrivals : (v : State) (records : List TypedAt) → all_happen v (map (λ r. Arrive r.line r.bytes) records) ≡ nothing (all_arrived v records)
unfolding happens
arrivals v [] = refl
arrivals v (r ∷ records) = ap (joined (nothing (arrived v r.line r.bytes))) (arrivals (arrived v r.line r.bytes) records)

turns : (slot s : ℕ) (v : State) (n : ℕ) → all_happen v (map (λ turn. Turn (turn_at slot turn s)) (range_with_len 0 n)) ≡ turns_of slot s v n
unfolding happens
turns slot s v zero = refl
turns slot s v (suc n) =
    ap (λ k. all_happen v (map (λ turn. Turn (turn_at slot turn s)) (range_with_len 0 k))) (one_more n)
    ∙ ap (all_happen v) (map-range_with_len_more (λ turn. Turn (turn_at slot turn s)) 0 n n (nothing_plus n))
    ∙ all_happen-append v (map (λ turn. Turn (turn_at slot turn s)) (range_with_len 0 n)) (Turn (turn_at slot n s) ∷ [])
    ∙ (λ i. joined (turns slot s v n i) (last (turns slot s v n i).state i))
  where
    last : (w : State) → all_happen w (Turn (turn_at slot n s) ∷ []) ≡ turn_of (turn_at slot n s) w
    last w = all_happen-one w (Turn (turn_at slot n s))

-- a slot is its arrivals, its turns and its end
pub slot_of-turns : (slot : ℕ) (v : State) (records : List TypedAt) →
    slot_of slot v records ≡ with_slot_ended (turns_of slot (subject_of v.fixed slot) (all_arrived v records) v.fixed.turns)
unfolding slot_of happens
slot_of-turns k v records =
    let typed = map (λ r. Arrive r.line r.bytes) records in
    let start = all_arrived v records in
    let run = map (λ turn. Turn (turn_at k turn (subject_of v.fixed k))) (range_with_len 0 v.fixed.turns) in
    ap (all_happen v) (append_assoc typed run (EndSlot ∷ []))
    ∙ all_happen-append v typed (run ++ EndSlot ∷ [])
    ∙ (λ i. joined (arrivals v records i) (all_happen (arrivals v records i).state (run ++ EndSlot ∷ [])))
    ∙ nothing_first (all_happen start (run ++ EndSlot ∷ []))
    ∙ all_happen-append start run (EndSlot ∷ [])
    ∙ (λ i. joined (turns k (subject_of v.fixed k) start v.fixed.turns i) (ended (turns k (subject_of v.fixed k) start v.fixed.turns i).state i))
    ∙ with_end (turns_of k (subject_of v.fixed k) start v.fixed.turns)
  where
    ended : (w : State) → all_happen w (EndSlot ∷ []) ≡ nothing (slot_ended w)
    ended w = all_happen-one w EndSlot

    with_end : (step : Step) → joined step (nothing (slot_ended step.state)) ≡ with_slot_ended step
    with_end step = λ i. record { state = slot_ended step.state; items = append-nil step.items i; references = plus_nothing step.references i }

-- ---- a run

range_more : (n : ℕ) → range_with_len 0 (n + 1) ≡ range_with_len 0 n ++ n ∷ []
range_more n = sym (map_itself (range_with_len 0 (n + 1))) ∙ map-range_with_len_more (λ k. k) 0 n n (nothing_plus n) ∙ ap (λ xs. xs ++ n ∷ []) (map_itself (range_with_len 0 n))
  where
    map_itself : (xs : List ℕ) → map (λ k. k) xs ≡ xs
    map_itself [] = refl
    map_itself (x ∷ xs) = ap (λ ys. x ∷ ys) (map_itself xs)

abbrev events_of : State → List TypedAt → ℕ → List Event
events_of v records slot = slot_events v.fixed slot (records_for slot records)

slots : (v : State) (records : List TypedAt) (n : ℕ) → all_happen v (run_events v.fixed records n) ≡ slots_of v records n
unfolding slot_of
slots v records zero = refl
slots v records (suc n) =
    let before = run_events v.fixed records n in
    ap (λ k. all_happen v (flat_map (events_of v records) (range_with_len 0 k))) (one_more n)
    ∙ ap (λ ks. all_happen v (flat_map (events_of v records) ks)) (range_more n)
    ∙ ap (all_happen v) (flat_map-append (events_of v records) (range_with_len 0 n) (n ∷ []))
    ∙ ap (λ es. all_happen v (before ++ es)) (append-nil (events_of v records n))
    ∙ all_happen-append v before (events_of v records n)
    ∙ ap (λ fixed. joined (all_happen v before) (all_happen (all_happen v before).state (slot_events fixed n (records_for n records)))) (sym (all_happen-fixed v before))
    ∙ (λ i. joined (slots v records n i) (slot_of n (slots v records n i).state (records_for n records)))

-- a run from an image is its slots, one after another
pub run_of-slots : (image : Image) (records : List TypedAt) (n : ℕ) → run_of image records n ≡ slots_of (state_of image) records n
unfolding run_of
run_of-slots image records n = slots (state_of image) records n

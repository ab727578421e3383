-- The line records of a report that a level sees are those of the report without the bytes typed on other lines.
use Rattle.std.proofs.Common.{◌≡◌, ℕ, zero, suc, ◌+◌, ◌*◌, ◌<◌, ◌≤◌, ◌^◌, Bool, true, false, List, [], ◌∷◌, ◌++◌, length, map, filter, refl, sym, ap}
use Rattle.std.proofs.Common.{◌∙◌, subst, arith, append-nil, cond}
use Rattle.std.specs.Prelude.{flat_map}
use Rattle.std.specs.List.{AllByRecursion, range_with_len}
use Rattle.std.proofs.lemmas.Grind.{flat_map-append}
use Rattle.std.proofs.lemmas.List.{length-map}
use Rattle.std.proofs.lemmas.List.Elements.{filter-append}
use Rattle.std.proofs.lemmas.List.FromFn.{length-range_with_len}
use Rattle.bk_level.specs.Levels.{Level}
use Rattle.bk_report.specs.declared.ReportItem.{ReportItem}
use Rattle.bk_report.specs.declared.ReportItem.TheVariants as items
use Rattle.bk_report.specs.Text.{text_of, lines_of, IsNumbered}
use Rattle.bk_report.specs.Lines.{line_records_of, is_byte_in}
use Rattle.bk_report.proofs.Plain.{by_recursion}
use Rattle.bk_state.specs.declared.image.Image.{Image}
use Rattle.bk_state.specs.Start.{state_of}
use Rattle.bk_state.specs.State.{State, Fixed}
use Rattle.bk_state.specs.Secure.{Secure}
use Rattle.bk_system.specs.Slot.{records_for, subject_of, run_of, slot_events, run_events}
use Rattle.bk_system.specs.Event.{Event, Arrive, Turn, EndSlot, happens, all_happen}
use Rattle.bk_laws.specs.Seen.{seen_items, seen_told}
use Rattle.bk_system.specs.Kept.{keep}
use Rattle.bk_state.specs.Low.{is_subject_under, is_line_under}
use Rattle.bk_system.specs.declared.script.TypedAt.{TypedAt}
use Rattle.bk_system.specs.Report.{calls_in, report_of}
use Rattle.bk_system.proofs.FixedPart.{Bounded, happens-fixed}
use Rattle.bk_system.proofs.Folds.{run_of-slots}
use Rattle.bk_system.proofs.Bounds.{slots_of-Bounded}
use Rattle.bk_laws.proofs.Alike.{fixed_to}
use Rattle.bk_laws.specs.Laws.{LawSecure, LawKept, IsLimited, LawLines}
use Rattle.bk_laws.proofs.Tests.{every-append}
use Rattle.bk_laws.proofs.Numbered.{Numbered, IsEventNumbered, all_numbered}

-- ---- the events of a run have small numbers

abbrev EventsNumbered : List Event → Type 0
EventsNumbered es = AllByRecursion IsEventNumbered es

typed_small : (rs : List TypedAt) → EventsNumbered (map (λ r. Arrive r.line r.bytes) rs)
typed_small [] = tt
typed_small (r ∷ rs) = (tt, typed_small rs)

turns_small : (k s a n : ℕ) → k < 2 ^ 64 → a + n < 2 ^ 64 → EventsNumbered (map (λ turn. Turn (record { slot = k; turn = turn; subject = s })) (range_with_len a n))
turns_small k s a zero slot few = tt
turns_small k s a (suc n) slot few = ((slot, omega (arith, few)), turns_small k s (a + 1) n slot (omega (arith, few)))

module _ (fixed : Fixed) (records : List TypedAt) where
  slot_small : (k : ℕ) → k < 2 ^ 64 → fixed.turns < 2 ^ 64 → EventsNumbered (slot_events fixed k (records_for k records))
  slot_small k slot few =
      let turns = map (λ turn. Turn (record { slot = k; turn = turn; subject = subject_of fixed k })) (range_with_len 0 fixed.turns) in
      let arrivals = map (λ r. Arrive r.line r.bytes) (records_for k records) in
      every-append IsEventNumbered (arrivals ++ turns) (EndSlot ∷ [])
      (every-append IsEventNumbered arrivals turns (typed_small (records_for k records)) (turns_small k (subject_of fixed k) 0 fixed.turns slot (omega (arith, few)))) (tt, tt)

  slots_small : (a n : ℕ) → a + n < 2 ^ 64 → fixed.turns < 2 ^ 64 → EventsNumbered (flat_map (λ k. slot_events fixed k (records_for k records)) (range_with_len a n))
  slots_small a zero slots few = tt
  slots_small a (suc n) slots few =
      every-append IsEventNumbered (slot_events fixed a (records_for a records)) (flat_map (λ k. slot_events fixed k (records_for k records)) (range_with_len (a + 1) n))
      (slot_small a (omega (arith, slots)) few) (slots_small (a + 1) n (omega (arith, slots)) few)

-- ---- the records of a report are lines of its bytes

with_last : (told : List ReportItem) (last : ReportItem) → lines_of told ++ text_of last ≡ lines_of (told ++ last ∷ [])
unfolding lines_of
with_last told last = sym (flat_map-append text_of told (last ∷ []) ∙ ap (λ t. flat_map text_of told ++ t) (append-nil (text_of last)))

-- the bytes on lines under the level are among the items that it sees
bytes_seen : (level : Level) (v : State) (told : List ReportItem) → filter (is_byte_in (is_line_under level v)) told ≡ filter (is_byte_in (is_line_under level v)) (seen_items level v told)
bytes_seen level v [] = refl
bytes_seen level v (items.Call slot turn s number general answer cause ∷ told) = by (is_subject_under level v s) (bytes_seen level v told)
  where
    by : (b : Bool) → filter (is_byte_in (is_line_under level v)) told ≡ filter (is_byte_in (is_line_under level v)) (seen_items level v told) →
        filter (is_byte_in (is_line_under level v)) told ≡ filter (is_byte_in (is_line_under level v))
        (cond b (items.Call slot turn s number general answer cause ∷ seen_items level v told) (seen_items level v told))
    by true rest = rest
    by false rest = rest
bytes_seen level v (items.Fault slot turn s cause pc entered ∷ told) = by (is_subject_under level v s) (bytes_seen level v told)
  where
    by : (b : Bool) → filter (is_byte_in (is_line_under level v)) told ≡ filter (is_byte_in (is_line_under level v)) (seen_items level v told) →
        filter (is_byte_in (is_line_under level v)) told ≡ filter (is_byte_in (is_line_under level v))
        (cond b (items.Fault slot turn s cause pc entered ∷ seen_items level v told) (seen_items level v told))
    by true rest = rest
    by false rest = rest
bytes_seen level v (items.Byte slot turn line byte ∷ told) = by (is_line_under level v line) refl (bytes_seen level v told)
  where
    by : (b : Bool) → is_line_under level v line ≡ b → filter (is_byte_in (is_line_under level v)) told ≡ filter (is_byte_in (is_line_under level v)) (seen_items level v told) →
        cond b (items.Byte slot turn line byte ∷ filter (is_byte_in (is_line_under level v)) told) (filter (is_byte_in (is_line_under level v)) told)
        ≡ filter (is_byte_in (is_line_under level v)) (cond b (items.Byte slot turn line byte ∷ seen_items level v told) (seen_items level v told))
    by true is rest = rw is (ap (λ xs. items.Byte slot turn line byte ∷ xs) rest)
    by false is rest = rest
bytes_seen level v (items.End slots turns references calls ∷ told) = bytes_seen level v told

-- so they are among those that are told of a whole run, each in the state in which its event comes
all_bytes : (level : Level) (start : State) (events : List Event) (v : State) → v.fixed ≡ start.fixed →
    filter (is_byte_in (is_line_under level start)) (all_happen v events).items ≡ filter (is_byte_in (is_line_under level start)) (seen_told level v events)
all_bytes level start [] v same = refl
all_bytes level start (e ∷ es) v same =
    filter-append kept (happens v e).items (all_happen (happens v e).state es).items
    ∙ (λ i. first i ++ all_bytes level start es (happens v e).state (happens-fixed v e ∙ same) i)
    ∙ sym (filter-append kept (seen_items level v (happens v e).items) (seen_told level (happens v e).state es))
  where
    kept : ReportItem → Bool
    kept = is_byte_in (is_line_under level start)

    first : filter kept (happens v e).items ≡ filter kept (seen_items level v (happens v e).items)
    first = subst (λ set. filter (is_byte_in set) (happens v e).items ≡ filter (is_byte_in set) (seen_items level v (happens v e).items))
        (ap (λ fixed. is_line_under level (fixed_to fixed start)) same) (bytes_seen level v (happens v e).items)

module _ (law_secure : LawSecure) (image : Image) (n : ℕ) (sec : Secure (state_of image)) (limits : IsLimited image n) where
  turns_are : (state_of image).fixed.turns ≡ image.turns
  unfolding state_of
  turns_are = refl

  lines_are : length (state_of image).fixed.lines ≡ image.lines
  unfolding state_of
  lines_are = length-map (range_with_len 0 image.lines) _ ∙ length-range_with_len 0 image.lines

  subjects_are : length (state_of image).fixed.subjects ≡ length image.subjects
  unfolding state_of
  subjects_are = length-map image.subjects _

  told_whole : (records : List TypedAt) → Numbered (run_of image records n).items
  unfolding run_of
  told_whole records =
      all_numbered law_secure (state_of image) sec (omega (arith, lines_are, limits.lines)) (omega (arith, subjects_are, limits.subjects)) (run_events (state_of image).fixed records n)
      (slots_small (state_of image).fixed records 0 n (omega (arith, limits.slots)) (omega (arith, turns_are, limits.turns)))

  end_whole : (records : List TypedAt) → IsNumbered (items.End n (n * image.turns) (run_of image records n).references (calls_in (run_of image records n).items))
  end_whole records =
      let step = run_of image records n in
      let b = subst (Bounded (state_of image) (10 * (n * (state_of image).fixed.turns)) (n * (state_of image).fixed.turns)) (sym (run_of-slots image records n)) (slots_of-Bounded (state_of image) records n) in
      let made : step.references ≤ 10 * (n * image.turns) = subst (λ turns. step.references ≤ 10 * (n * turns)) turns_are b.references_are in
      let called : calls_in step.items ≤ n * image.turns = subst (λ turns. calls_in step.items ≤ n * turns) turns_are b.calls_are in
      (omega (arith, limits.slots), omega (arith, limits.within), omega (arith, made, limits.within), omega (arith, called, limits.within))

  -- the line records of a report are the lines of its bytes on these lines
  records_are : (set : ℕ → Bool) (records : List TypedAt) → line_records_of set (report_of image records n) ≡ lines_of (filter (is_byte_in set) (run_of image records n).items)
  unfolding report_of
  records_are set records =
      let step = run_of image records n in
      let last = items.End n (n * image.turns) step.references (calls_in step.items) in
      ap (line_records_of set) (with_last step.items last)
      ∙ by_recursion set (step.items ++ last ∷ []) (every-append IsNumbered step.items (last ∷ []) (told_whole records) (end_whole records, tt))
      ∙ ap lines_of (filter-append (is_byte_in set) step.items (last ∷ []) ∙ append-nil (filter (is_byte_in set) step.items))

-- of a run from an image
run_bytes : (level : Level) (image : Image) (records : List TypedAt) (n : ℕ) → filter (is_byte_in (is_line_under level (state_of image))) (run_of image records n).items
    ≡ filter (is_byte_in (is_line_under level (state_of image))) (seen_told level (state_of image) (run_events (state_of image).fixed records n))
unfolding run_of
run_bytes level image records n = all_bytes level (state_of image) (run_events (state_of image).fixed records n) (state_of image) refl

-- over reports in place of items
pub law_lines : LawSecure → LawKept → LawLines
law_lines law_secure law_kept level image records n sec limits =
    let v = state_of image in
    let set = is_line_under level v in
    records_are law_secure image n sec limits set records
    ∙ ap lines_of (run_bytes level image records n ∙ ap (filter (is_byte_in set)) (law_kept level image records n sec).items ∙ sym (run_bytes level image (keep level v records) n))
    ∙ sym (records_are law_secure image n sec limits set (keep level v records))

-- What is loaded of an accepted image fits together.
use Rattle.std.proofs.Common.{◌≡◌, ℕ, List, length, map, sym, ap, subst, ◌∙◌, arith}
use Rattle.std.specs.Prelude.{All}
use Rattle.std.proofs.lemmas.List.{length-map}
use Rattle.std.proofs.lemmas.List.Elements.{All-from_get_or}
use Rattle.std.proofs.lemmas.List.FromFn.{length-map-range_with_len}
use Rattle.bk_state.specs.Start.{line_level, process_from, state_of}
use Rattle.bk_state.specs.declared.clearance.Clearance.{Clearance}
use Rattle.bk_state.specs.declared.image.Image.{Image}
use Rattle.bk_store.specs.Stored.{Stored}
use Rattle.bk_image.specs.Accepted.{IsAccepted}
use Rattle.bk_image.proofs.SecureLists.{lt_of, mapped_at, not_false}
use Rattle.bk_load.specs.declared.beginning.Beginning.{Beginning}
use Rattle.bk_load.specs.Beginning.{clearance_from, HasBegun}
use Rattle.bk_load.specs.Kept.{IsKept, IsKnown}
use Rattle.bk_load.specs.Loading.{IsLoaded}

known : (image : Image) → IsAccepted image → All (IsKnown (length image.levels)) (map clearance_from image.subjects)
known image accepted = All-from_get_or (IsKnown (length image.levels)) (map clearance_from image.subjects) (record { greatest = 0; current = 0 }) (λ s lt.
    let (subject, at, is) = mapped_at clearance_from image.subjects s (record { greatest = 0; current = 0 }) (omega (arith, length-map image.subjects clearance_from)) in
    let checks = accepted.subjects at.front subject at.tail at.whole in
    subst (λ (c : Clearance). IsKnown (length image.levels) c) (sym is) (record {
      greatest = lt_of subject.f_s (length image.levels) (not_false _ checks.0);
      current = lt_of subject.f_c (length image.levels) (not_false _ checks.1.0);
    }))

-- the state of an accepted image can be kept
pub start-kept : (image : Image) (store : Stored) (words : List ℕ) (b : Beginning) → IsAccepted image → IsLoaded image store words → HasBegun image b →
    IsKept b.clearances.items (length b.lines.items) (length b.processes.items) (length store.levels) store.lines
unfolding state_of
start-kept image store words b accepted loaded beside =
    let clearances : b.clearances.items ≡ map clearance_from image.subjects = beside.clearances in
    let levels : store.levels ≡ image.levels = loaded.levels in
    let size : length b.clearances.items ≡ length image.subjects = ap length clearances ∙ length-map image.subjects clearance_from in
    let made : length b.processes.items ≡ length image.subjects = ap length beside.processes ∙ length-map image.subjects process_from in
    record {
      few = omega (arith, size, accepted.counts.subjects);
      processes_are = made ∙ sym size;
      known = subst (λ n. All (IsKnown n) b.clearances.items) (sym (ap length levels)) (subst (λ cs. All (IsKnown (length image.levels)) cs) (sym clearances) (known image accepted));
      lines_are = loaded.lines ∙ sym (ap length beside.lines ∙ length-map-range_with_len (line_level image.objects) 0 image.lines);
    }

-- An image that was read is accepted, and its state is secure.
use Rattle.std.proofs.Common.{◌≡◌, ℕ, ◌≤◌, true, List, [], ◌∷◌, ◌++◌, length, Result, Ok, Err, sym, subst, arith}
use Rattle.std.specs.Prelude.{IfOk}
use Rattle.bk_level.specs.Levels.{Level}
use Rattle.bk_state.specs.Secure.{Secure}
use Rattle.bk_state.specs.Start.{state_of}
use Rattle.bk_state.specs.declared.image.Image.{Image}
use Rattle.bk_state.specs.declared.image.Hold.{Hold}
use Rattle.bk_state.specs.declared.image.ObjectRec.{ObjectRec}
use Rattle.bk_state.specs.declared.image.SubjectRec.{SubjectRec}
use Rattle.bk_base.specs.declared.stop.Stop.{Stop}
use Rattle.bk_image.specs.declared.fault.ImageFault.{ImageFault}
use Rattle.bk_image.specs.Parts.{Rest, Gives, Passes, each_of}
use Rattle.bk_image.specs.declared.version.Version.{Version}
use Rattle.bk_image.specs.declared.version.Version.TheVariants.{One, Two}
use Rattle.bk_image.specs.Header.{Header, header_at}
use Rattle.bk_image.specs.Versions.{subjects_of}
use Rattle.bk_image.specs.Subjects.{level_checks, level_at, after_levels, schedule_checks, schedule_at, subject_at}
use Rattle.bk_image.specs.Objects.{objects_in, object_at, after_objects}
use Rattle.bk_image.specs.Holds.{hold_checks, hold_at}
use Rattle.bk_image.specs.Image.{image_at, image_of}
use Rattle.bk_image.specs.Accepted.{IsAccepted}
use Rattle.bk_base.proofs.FaultLemmas.{bind_ok, ok_is}
use Rattle.bk_image.proofs.Steps as step
use Rattle.bk_image.proofs.PassedParts.{each_read}
use Rattle.bk_image.proofs.PassedKinds.{level_passed, schedule_passed, SubjectPassed, subject_passed, ObjectPassed, object_passed, hold_passed, AfterPassed}
use Rattle.bk_image.proofs.PassedKinds.{after_passed}
use Rattle.bk_image.proofs.Secure.{accepted_secure}
use Rattle.bk_image.proofs.Headers.{HeaderCounted, header_counted}

-- ---- the image

-- what each of a list's parts says, of those before it, where they are as many as were asked for
abbrev ReadAs : {X : Type 0} → (List X → X → Type 0) → (n : ℕ) → List X → Type 0
ReadAs {X} P n xs = (length xs ≡ n) × ((front : List X) (y : X) (tail : List X) → front ++ y ∷ tail ≡ xs → P front y)

-- the parts of an image that was read, and what each of them says
pub record PartsRead (h : Header) (levels : List Level) (schedule : List ℕ) (subjects : List SubjectRec) (objects : List ObjectRec) (holds : List Hold) : Type 0 where
  pub header : HeaderCounted h
  pub levels_read : ReadAs (λ before level. Passes (level_checks before true level)) h.levels levels
  pub schedule_read : ReadAs (λ before subject. Passes (schedule_checks h.subjects subject)) h.schedule schedule
  pub subjects_read : ReadAs (λ before subject. SubjectPassed levels subject) h.subjects subjects
  pub objects_read : ReadAs (λ before o. ObjectPassed levels h.subjects h.lines before o) h.objects objects
  pub after : AfterPassed h.lines objects
  pub holds_read : ReadAs (λ before hold. Passes (hold_checks levels subjects (objects_in objects) before true hold)) h.holds holds

-- a version has at most 64 subjects
few : (version : Version) → subjects_of version ≤ 64
few One = omega arith
few Two = omega arith

accepted_parts : (h : Header) (levels : List Level) (schedule : List ℕ) (subjects : List SubjectRec) (objects : List ObjectRec) (holds : List Hold) →
    PartsRead h levels schedule subjects objects holds → IsAccepted (step.made h.turns h.lines levels schedule subjects objects holds)
accepted_parts h levels schedule subjects objects holds p =
    let count = p.subjects_read.0 in
    record {
      counts = record {
        some_turns = p.header.turns.0;
        turns = p.header.turns.1;
        some_levels = subst (λ n. 1 ≤ n) (sym p.levels_read.0) p.header.levels.0;
        levels = subst (λ n. n ≤ 64) (sym p.levels_read.0) p.header.levels.1;
        some_subjects = subst (λ n. 1 ≤ n) (sym count) p.header.subjects.0;
        subjects = subst (λ n. n ≤ 64) (sym count) (omega (arith, p.header.subjects.1, few h.version));
        lines = p.header.lines.1;
        some_places = subst (λ n. 1 ≤ n) (sym p.schedule_read.0) p.header.schedule.0;
        places = subst (λ n. n ≤ 64) (sym p.schedule_read.0) p.header.schedule.1;
        some_objects = subst (λ n. 1 ≤ n) (sym p.objects_read.0) p.header.objects.0;
        objects = subst (λ n. n ≤ 3904) (sym p.objects_read.0) p.header.objects.1;
        holds = subst (λ n. n ≤ 65535) (sym p.holds_read.0) p.header.holds.1;
      };
      places = record {
        rows = λ front o tail whole. (p.objects_read.1 front o tail whole).row;
        subjects = λ front subject tail whole. (p.subjects_read.1 front subject tail whole).places;
      };
      levels = p.levels_read.1;
      schedule = λ front subject tail whole. subst (λ n. Passes (schedule_checks n subject)) (sym count) (p.schedule_read.1 front subject tail whole);
      subjects = λ front subject tail whole. (p.subjects_read.1 front subject tail whole).passed;
      windows = λ front subject tail whole. (p.subjects_read.1 front subject tail whole).windows;
      objects = λ front o tail whole. (subst (λ n. ObjectPassed levels n h.lines front o) (sym count) (p.objects_read.1 front o tail whole)).passed;
      words = λ front o tail whole. (p.objects_read.1 front o tail whole).words;
      quotas = p.after.quotas;
      lines = p.after.lines_there;
      holds = p.holds_read.1;
    }

image_passed : (rest : Rest) (x : Image × Rest) → image_at rest ≡ Ok x → IsAccepted x.0
unfolding image_at
image_passed rest x e =
    let h = bind_ok (header_at rest) step.image_from_header x e in
    let l = bind_ok (each_of (level_at h.0.0.version) h.0.0.levels [] h.0.1) (step.image_from_levels h.0.0) x h.2 in
    let v = bind_ok (after_levels h.0.0.version h.0.0.subjects l.0.0) (λ said. step.image_from_said h.0.0 l.0.0 l.0.1) x l.2 in
    let c = bind_ok (each_of (schedule_at h.0.0.subjects) h.0.0.schedule [] l.0.1) (step.image_from_schedule h.0.0 l.0.0) x v.2 in
    let s = bind_ok (each_of (subject_at l.0.0) h.0.0.subjects [] c.0.1) (step.image_from_subjects h.0.0 l.0.0 c.0.0) x c.2 in
    let o = bind_ok (each_of (object_at h.0.0.version l.0.0 h.0.0.subjects h.0.0.lines) h.0.0.objects [] s.0.1) (step.image_from_objects h.0.0 l.0.0 c.0.0 s.0.0 s.0.1.at) x s.2 in
    let a = bind_ok (after_objects h.0.0.version h.0.0.lines o.0.0 s.0.1.at) (λ passed. step.image_from_checks h.0.0 l.0.0 c.0.0 s.0.0 o.0.0 o.0.1) x o.2 in
    let d = bind_ok (each_of (hold_at l.0.0 s.0.0 (objects_in o.0.0)) h.0.0.holds [] o.0.1) (step.image_from_holds h.0.0 l.0.0 c.0.0 s.0.0 o.0.0) x a.2 in
    let q = ok_is (step.made h.0.0.turns h.0.0.lines l.0.0 c.0.0 s.0.0 o.0.0 d.0.0, d.0.1) x d.2 in
    subst (λ (y : Image × Rest). IsAccepted y.0) q (accepted_parts h.0.0 l.0.0 c.0.0 s.0.0 o.0.0 d.0.0 (record {
      header = header_counted rest h.0 h.1;
      levels_read = each_read (λ before level. Passes (level_checks before true level)) (level_at h.0.0.version) (level_passed h.0.0.version) h.0.0.levels h.0.1 l.0 l.1;
      schedule_read = each_read (λ before subject. Passes (schedule_checks h.0.0.subjects subject)) (schedule_at h.0.0.subjects) (schedule_passed h.0.0.subjects) h.0.0.schedule l.0.1 c.0 c.1;
      subjects_read = each_read (λ before subject. SubjectPassed l.0.0 subject) (subject_at l.0.0) (subject_passed l.0.0) h.0.0.subjects c.0.1 s.0 s.1;
      objects_read = each_read (λ before o. ObjectPassed l.0.0 h.0.0.subjects h.0.0.lines before o) (object_at h.0.0.version l.0.0 h.0.0.subjects h.0.0.lines) (object_passed h.0.0.version l.0.0 h.0.0.subjects h.0.0.lines) h.0.0.objects s.0.1 o.0 o.1;
      after = after_passed h.0.0.version h.0.0.lines o.0.0 s.0.1.at a.0 a.1;
      holds_read = each_read (λ before hold. Passes (hold_checks l.0.0 s.0.0 (objects_in o.0.0) before true hold)) (hold_at l.0.0 s.0.0 (objects_in o.0.0)) (hold_passed l.0.0 s.0.0 (objects_in o.0.0)) h.0.0.holds o.0.1 d.0 d.1;
    }))

-- no fault was found, so all checks of the image passed
pub image_accepted : (bytes : List ℕ) (image : Image) (n : ℕ) → image_of bytes ≡ Ok (image, n) → IsAccepted image
unfolding image_of
image_accepted bytes image n e =
    let start : Rest = record { at = 0; bytes = bytes } in
    let a = bind_ok (image_at start) (λ i. Ok (i.0, i.1.at)) (image, n) e in
    subst (λ (y : Image × ℕ). IsAccepted y.0) (ok_is (a.0.0, a.0.1.at) (image, n) a.2) (image_passed start a.0 a.1)

pub image_secure : (bytes : List ℕ) (image : Image) (n : ℕ) → image_of bytes ≡ Ok (image, n) → Secure (state_of image)
image_secure bytes image n e = accepted_secure image (image_accepted bytes image n e)

-- the same of what a function returned
pub is_accepted : {Y : Type 0} (bytes : List ℕ) (view : Y → Image × ℕ) (r : Result Y (Stop ImageFault)) → Gives view r (image_of bytes) → IfOk r (λ x. IsAccepted (view x).0)
is_accepted bytes view (Ok x) given = image_accepted bytes (view x).0 (view x).1 given
is_accepted bytes view (Err e) given = tt

pub is_secure : {Y : Type 0} (bytes : List ℕ) (view : Y → Image × ℕ) (r : Result Y (Stop ImageFault)) → Gives view r (image_of bytes) → IfOk r (λ x. Secure (state_of (view x).0))
is_secure bytes view (Ok x) given = image_secure bytes (view x).0 (view x).1 given
is_secure bytes view (Err e) given = tt

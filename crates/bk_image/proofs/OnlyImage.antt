-- What is spelt as an image is read as that image, if it is read.
use Rattle.std.proofs.Common.{◌≡◌, ℕ, refl, List, [], ◌∷◌, ◌++◌, length, Ok, sym, ap, ◌∙◌, append_assoc, arith}
use Rattle.std.specs.Prelude.{not, flat_map, All}
use Rattle.std.proofs.lemmas.List.{length-append}
use Rattle.std.proofs.lemmas.List.Elements.{All-nil, All-cons}
use Rattle.bk_state.specs.declared.image.Image.{Image}
use Rattle.bk_level.specs.Levels.{most_levels}
use Rattle.bk_state.specs.Limits.{most_turns, most_lines, most_places, most_objects, most_holds}
use Rattle.bk_image.specs.declared.fault.ImageField.TheVariants as field
use Rattle.bk_image.specs.declared.version.Version.{Version}
use Rattle.bk_image.specs.declared.version.Version.TheVariants.{One, Two}
use Rattle.bk_image.specs.Versions.{version_number, version_of, subjects_of, version_for}
use Rattle.bk_image.specs.Parts.{Reads, each_of}
use Rattle.bk_image.specs.Header.{is_magic, magic_at, byte_at, word_at, header_at}
use Rattle.bk_image.specs.Subjects.{level_at, after_levels, schedule_at, subject_at}
use Rattle.bk_image.specs.Objects.{objects_in, object_at, after_objects}
use Rattle.bk_image.specs.Holds.{hold_at}
use Rattle.bk_image.specs.Image.{image_at, image_of}
use Rattle.bk_image.specs.Spelling.{word_bytes, header_bytes, header_of, level_bytes, subject_bytes, object_bytes, hold_bytes, spelling}
use Rattle.bk_image.specs.Writing.{SubjectFits, HoldFits}
use Rattle.bk_base.proofs.FaultLemmas.{bind_ok, ok_is}
use Rattle.bk_image.proofs.SpeltImage.{flat_map-single}
use Rattle.bk_base.specs.Parts.{from}
use Rattle.bk_image.proofs.Fronts.{image_framed}
use Rattle.bk_image.proofs.Only.{Only, only_then, only_checked, only_done, checked_only, Any, Rereads, all_only, byte_only, word_only, LevelIsSpelt, level_only}
use Rattle.bk_image.proofs.Only.{schedule_only, subject_only, hold_only}
use Rattle.bk_image.proofs.OnlyObjects.{ObjectIsSpelt, object_only}
use Rattle.bk_image.proofs.Steps as step

magic_only : (at : ℕ) (more : List ℕ) → Only tt more (magic_at (from at (66 ∷ 76 ∷ 80 ∷ 75 ∷ more)))
unfolding magic_at
magic_only at more = checked_only 4 (λ b. (field.Magic, not (is_magic b)) ∷ []) (λ b. tt) tt at (66 ∷ 76 ∷ 80 ∷ 75 ∷ []) more (λ i. 4) (λ i. tt)

version_again : (version : Version) → version_of (version_number version) ≡ version
version_again One = refl
version_again Two = refl

header_only : Rereads Any header_bytes header_at
unfolding header_at
header_only x fit at more =
    let version = version_of (version_number x.version) in
    let m7 = word_bytes x.holds ++ more in
    let m6 = word_bytes x.objects ++ m7 in
    let m5 = (x.schedule ∷ []) ++ m6 in
    let m4 = (x.lines ∷ []) ++ m5 in
    let m3 = (x.subjects ∷ []) ++ m4 in
    let m2 = (x.levels ∷ []) ++ m3 in
    let m1 = word_bytes x.turns ++ m2 in
    let m0 = word_bytes (version_number x.version) ++ m1 in
    only_then tt m0 (magic_at (from at (66 ∷ 76 ∷ 80 ∷ 75 ∷ m0))) step.from_magic x more (magic_only at m0) (λ at.
    only_then (version_number x.version) m1 (word_at field.Version 1 2 (from at m0)) step.from_version x more (word_only field.Version 1 2 (version_number x.version) tt at m1) (λ at.
    only_then x.turns m2 (word_at field.Turns 1 most_turns (from at m1)) (step.from_turns version) x more (word_only field.Turns 1 most_turns x.turns tt at m2) (λ at.
    only_then x.levels m3 (byte_at field.Counts 1 most_levels (from at m2)) (step.from_levels version x.turns) x more (byte_only field.Counts 1 most_levels x.levels tt at m3) (λ at.
    only_then x.subjects m4 (byte_at field.Counts 1 (subjects_of version) (from at m3)) (step.from_subjects version x.turns x.levels) x more (byte_only field.Counts 1 (subjects_of version) x.subjects tt at m4) (λ at.
    only_then x.lines m5 (byte_at field.Counts 0 most_lines (from at m4)) (step.from_lines version x.turns x.levels x.subjects) x more (byte_only field.Counts 0 most_lines x.lines tt at m5) (λ at.
    only_then x.schedule m6 (byte_at field.Counts 1 most_places (from at m5)) (step.from_schedule version x.turns x.levels x.subjects x.lines) x more (byte_only field.Counts 1 most_places x.schedule tt at m6) (λ at.
    only_then x.objects m7 (word_at field.Counts 1 most_objects (from at m6)) (step.from_objects version x.turns x.levels x.subjects x.lines x.schedule) x more (word_only field.Counts 1 most_objects x.objects tt at m7) (λ at.
    only_then x.holds more (word_at field.Counts 0 most_holds (from at m7)) (step.from_holds version x.turns x.levels x.subjects x.lines x.schedule x.objects) x more (word_only field.Counts 0 most_holds x.holds tt at more) (λ at.
    only_done x (record x { version = version }) at more (λ i. record x { version = sym (version_again x.version) i }))))))))))

-- what is asked of an image's parts for their spelling to be read as themselves
pub record IsWritable (image : Image) : Type 0 where
  pub levels : All (LevelIsSpelt (version_for image)) image.levels
  pub subjects : All SubjectFits image.subjects
  pub objects : All (ObjectIsSpelt (version_for image)) image.objects
  pub holds : All HoldFits image.holds

any_all : (xs : List ℕ) → All Any xs
any_all [] = All-nil Any
any_all (x ∷ xs) = All-cons Any x xs tt (any_all xs)

image_only_at : (v : Image) → IsWritable v → (at : ℕ) (more : List ℕ) →
    Only v more (image_at (from at (header_bytes (header_of v) ++ (flat_map (level_bytes (version_for v)) v.levels ++ (flat_map (λ x. x ∷ []) v.schedule ++ (flat_map subject_bytes v.subjects ++ (flat_map (object_bytes (version_for v)) v.objects ++ (flat_map hold_bytes v.holds ++ more))))))))
unfolding image_at
image_only_at v is at more =
    let h = header_of v in
    let m5 = flat_map hold_bytes v.holds ++ more in
    let m4 = flat_map (object_bytes (version_for v)) v.objects ++ m5 in
    let m3 = flat_map subject_bytes v.subjects ++ m4 in
    let m2 = flat_map (λ x. x ∷ []) v.schedule ++ m3 in
    let m1 = flat_map (level_bytes (version_for v)) v.levels ++ m2 in
    let checked_holds : ℕ → Reads Image = λ at. step.image_from_checks h v.levels v.schedule v.subjects v.objects (from at m5) in
    only_then h m1 (header_at (from at (header_bytes h ++ m1))) step.image_from_header v more (header_only h tt at m1) (λ at.
    only_then v.levels m2 (each_of (level_at h.version) h.levels [] (from at m1)) (step.image_from_levels h) v more (all_only (LevelIsSpelt h.version) (level_bytes h.version) (level_at h.version) (level_only h.version) v.levels is.levels at m2) (λ at.
    only_checked (after_levels h.version h.subjects v.levels) v more (step.image_from_said h v.levels (from at m2))
    (only_then v.schedule m3 (each_of (schedule_at h.subjects) h.schedule [] (from at m2)) (step.image_from_schedule h v.levels) v more (all_only Any (λ x. x ∷ []) (schedule_at h.subjects) (schedule_only h.subjects) v.schedule (any_all v.schedule) at m3) (λ at.
    only_then v.subjects m4 (each_of (subject_at v.levels) h.subjects [] (from at m3)) (step.image_from_subjects h v.levels v.schedule) v more (all_only SubjectFits subject_bytes (subject_at v.levels) (subject_only v.levels) v.subjects is.subjects at m4) (λ start.
    only_then v.objects m5 (each_of (object_at h.version v.levels h.subjects h.lines) h.objects [] (from start m4)) (step.image_from_objects h v.levels v.schedule v.subjects start) v more (all_only (ObjectIsSpelt h.version) (object_bytes h.version) (object_at h.version v.levels h.subjects h.lines) (object_only h.version v.levels h.subjects h.lines) v.objects is.objects start m5) (λ at.
    only_checked (after_objects h.version h.lines v.objects start) v more (checked_holds at)
    (only_then v.holds more (each_of (hold_at v.levels v.subjects (objects_in v.objects)) h.holds [] (from at m5)) (step.image_from_holds h v.levels v.schedule v.subjects v.objects) v more (all_only HoldFits hold_bytes (hold_at v.levels v.subjects (objects_in v.objects)) (hold_only v.levels v.subjects (objects_in v.objects)) v.holds is.holds at more) (λ at.
    only_done v v at more (λ i. v)))))))))

regroup : (a b c d e f m : List ℕ) → (a ++ b ++ c ++ d ++ e ++ f) ++ m ≡ a ++ (b ++ (c ++ (d ++ (e ++ (f ++ m)))))
regroup a b c d e f m = simp append_assoc

spelling_parts : (v : Image) (more : List ℕ) → spelling v ++ more ≡ header_bytes (header_of v) ++ (flat_map (level_bytes (version_for v)) v.levels ++ (flat_map (λ x. x ∷ []) v.schedule ++ (flat_map subject_bytes v.subjects ++ (flat_map (object_bytes (version_for v)) v.objects ++ (flat_map hold_bytes v.holds ++ more)))))
unfolding spelling
spelling_parts v more =
    regroup (header_bytes (header_of v)) (flat_map (level_bytes (version_for v)) v.levels) v.schedule (flat_map subject_bytes v.subjects) (flat_map (object_bytes (version_for v)) v.objects) (flat_map hold_bytes v.holds) more
    ∙ (λ i. header_bytes (header_of v) ++ (flat_map (level_bytes (version_for v)) v.levels ++ (sym (flat_map-single v.schedule) i ++ (flat_map subject_bytes v.subjects ++ (flat_map (object_bytes (version_for v)) v.objects ++ (flat_map hold_bytes v.holds ++ more))))))

pair_same : {A B : Type 0} {a c : A} {b d : B} → a ≡ c → b ≡ d → (let p : A × B = (a, b) in p) ≡ (c, d)
pair_same e f = λ i. (e i, f i)

-- an image's spelling is read as that image to its end, if it is read, whatever follows
pub spelling_only : (v : Image) → IsWritable v → (more : List ℕ) (x : Image × ℕ) → image_of (spelling v ++ more) ≡ Ok x → x ≡ (v, length (spelling v))
unfolding image_of
spelling_only v is more x e =
    let bytes = spelling v ++ more in
    let a = bind_ok (image_at (from 0 bytes)) (λ i. Ok (i.0, i.1.at)) x e in
    let o = (image_only_at v is 0 more).is a.0 (ap (λ (t : List ℕ). image_at (from 0 t)) (sym (spelling_parts v more)) ∙ a.1) in
    let f = image_framed bytes a.0 a.1 in
    let left = length-append f.front a.0.1.bytes in
    let right = length-append (spelling v) more in
    let whole : length bytes ≡ length (f.front ++ a.0.1.bytes) = ap length f.parts in
    let rest : length more ≡ length a.0.1.bytes = ap length o.1 in
    let count : a.0.1.at ≡ length (spelling v) = omega (arith, f.place, left, right, whole, rest) in
    sym (ok_is (a.0.0, a.0.1.at) x a.2) ∙ pair_same (sym o.0) count

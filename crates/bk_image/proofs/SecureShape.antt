-- The current levels, the rows and the processes of the state of an accepted image have all their places, and no two levels of its list are one.
use Rattle.std.proofs.Common.{◌≡◌, ℕ, true, false, ◌==◌, List, [], ◌∷◌, ◌++◌, ◌∙◌, length, nat_lt, refl, sym, ap, subst, append_assoc, arith}
use Rattle.std.specs.List.{IsDistinct}
use Rattle.std.proofs.lemmas.Bool.{and_from}
use Rattle.std.proofs.lemmas.Bool.Decides.{nat_tests}
use Rattle.std.proofs.lemmas.List.{append-nil, length-map}
use Rattle.std.proofs.lemmas.List.FromFn.{length-map-range_with_len}
use Rattle.bk_level.specs.Levels.{Level, has_level, is_same_level}
use Rattle.bk_level.proofs.TableLemmas.{IsDistinct-append}
use Rattle.bk_object.specs.declared.facts.Facts.{Facts}
use Rattle.bk_object.specs.Rows.{most_subjects}
use Rattle.bk_process.specs.NewProcess.{windows_of_process}
use Rattle.bk_state.specs.Secure.{HasShape, is_whole}
use Rattle.bk_state.specs.Start.{state_of, process_from, windows_from, shown_in}
use Rattle.bk_state.specs.declared.image.Image.{Image}
use Rattle.bk_state.specs.declared.image.SubjectRec.{SubjectRec}
use Rattle.bk_state.specs.declared.image.WindowRec.{WindowRec}
use Rattle.bk_image.specs.Objects.{objects_in}
use Rattle.bk_image.specs.Accepted.{IsAccepted}
use Rattle.bk_image.proofs.SecureLists.{all_mapped, not_false}
use Rattle.bk_image.proofs.SecureFound.{found_facts}

-- ---- levels

-- levels of which none stands before it are distinct, behind others that are
distinct_from : (before levels : List Level) → IsDistinct is_same_level before
    → ((front : List Level) (level : Level) (tail : List Level) → front ++ level ∷ tail ≡ levels → has_level (before ++ front) level ≡ false)
    → IsDistinct is_same_level (before ++ levels)
distinct_from before [] distinct new = subst (IsDistinct is_same_level) (sym (append-nil before)) distinct
distinct_from before (level ∷ levels) distinct new =
    let here : has_level before level ≡ false = subst (λ (ls : List Level). has_level ls level ≡ false) (append-nil before) (new [] level levels refl) in
    subst (IsDistinct is_same_level) (append_assoc before (level ∷ []) levels)
    (distinct_from (before ++ level ∷ []) levels (IsDistinct-append level before distinct here)
    (λ front x tail whole. subst (λ (ls : List Level). has_level ls x ≡ false) (sym (append_assoc before (level ∷ []) front)) (new (level ∷ front) x tail (ap (λ ls. level ∷ ls) whole))))

none_distinct : IsDistinct is_same_level []
unfolding IsDistinct
none_distinct = tt

pub distinct_secure : (image : Image) → IsAccepted image → IsDistinct is_same_level (state_of image).fixed.levels
unfolding state_of
distinct_secure image accepted = distinct_from [] image.levels none_distinct (λ front level tail whole. (accepted.levels front level tail whole).1.0)

-- ---- current levels, rows and processes

same_number : (n m : ℕ) → n ≡ m → (n == m) ≡ true
same_number n m e = grind (arith, nat_tests, e)

windows_all : (windows : List WindowRec) → length (windows_from windows) ≡ windows_of_process
unfolding windows_from
windows_all windows = length-map-range_with_len (shown_in windows) 0 windows_of_process

pub shape_secure : (image : Image) → IsAccepted image → HasShape (state_of image)
unfolding state_of objects_in
shape_secure image accepted = record {
  current = length-map image.subjects (λ (s : SubjectRec). s.f_c) ∙ sym (length-map image.subjects (λ (s : SubjectRec). s.f_s));
  listed =
      all_mapped (λ level. nat_lt level (length image.levels)) (λ (s : SubjectRec). s.f_c) image.subjects
      (λ subject at. not_false _ (accepted.subjects at.front subject at.tail at.whole).1.0);
  rows = λ path facts is.
      let f = found_facts image.objects path facts is in
      subst (λ (x : Facts). length x.row ≡ most_subjects) f.facts_are (accepted.places.rows f.stands.front f.o f.stands.tail f.stands.whole);
  processes =
      all_mapped is_whole process_from image.subjects (λ subject at.
      let (regs, entries) = accepted.places.subjects at.front subject at.tail at.whole in
      and_from _ _ (and_from _ _ (same_number _ _ (windows_all subject.windows)) (same_number _ _ entries)) (same_number _ _ regs));
}

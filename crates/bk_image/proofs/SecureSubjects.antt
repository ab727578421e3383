-- The subjects of the state of an accepted image: their levels and their fault entries.
use Rattle.std.proofs.Common.{◌≡◌, ℕ, zero, suc, ◌<◌, ◌%◌, true, ◌==◌, List, [], ◌∷◌, length, map, get_or, refl, sym, ◌∙◌, arith}
use Rattle.std.specs.List.{list_all}
use Rattle.std.proofs.lemmas.List.{length-map}
use Rattle.bk_level.specs.Levels.{dominates, level_at}
use Rattle.bk_state.specs.State.{greatest_level, current_level}
use Rattle.bk_state.specs.Start.{state_of, process_from}
use Rattle.bk_state.specs.declared.image.Image.{Image}
use Rattle.bk_state.specs.declared.image.SubjectRec.{SubjectRec}
use Rattle.bk_image.specs.Accepted.{IsAccepted}
use Rattle.bk_image.proofs.SecureLists.{not_false, all_mapped, stands_first, stands_later, Stands}

-- the value at a place, which each map of the list has there
each_mapped : (xs : List SubjectRec) (i : ℕ) → i < length xs → (x : SubjectRec) × Stands xs x × ((f : SubjectRec → ℕ) → get_or (map f xs) i 0 ≡ f x)
each_mapped [] i lt = absurd (omega arith)
each_mapped (x ∷ xs) zero lt = (x, stands_first x xs, λ f. refl)
each_mapped (x ∷ xs) (suc i) lt = let (y, at, is) = each_mapped xs i (omega arith) in (y, stands_later x y xs at, is)

pub processes_secure : (image : Image) → length (state_of image).processes ≡ length (state_of image).fixed.subjects
unfolding state_of
processes_secure image = length-map image.subjects process_from ∙ sym (length-map image.subjects (λ (s : SubjectRec). s.f_s))

pub clearances_secure : (image : Image) → IsAccepted image → (s : ℕ) → s < length (state_of image).fixed.subjects → dominates (greatest_level (state_of image) s) (current_level (state_of image) s) ≡ true
unfolding state_of
clearances_secure image accepted s lt =
    let (subject, at, is) = each_mapped image.subjects s (omega (arith, length-map image.subjects (λ (x : SubjectRec). x.f_s))) in
    (λ i. dominates (level_at image.levels (is (λ x. x.f_s) i)) (level_at image.levels (is (λ x. x.f_c) i)))
    ∙ not_false _ (accepted.subjects at.front subject at.tail at.whole).1.1.0

pub entries_secure : (image : Image) → IsAccepted image → list_all (λ process. list_all (λ entry. entry % 2 == 0) process.entries) (state_of image).processes ≡ true
unfolding state_of
entries_secure image accepted =
    all_mapped (λ process. list_all (λ entry. entry % 2 == 0) process.entries) process_from image.subjects
    (λ subject at. not_false _ (accepted.subjects at.front subject at.tail at.whole).1.1.1.1.0)

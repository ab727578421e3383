-- A directory and its segments, behind other objects.
use Rattle.std.proofs.Common.{◌≡◌, ℕ, List, [], ◌∷◌, ◌++◌, map, ap, ◌∙◌, append_assoc}
use Rattle.bk_state.specs.declared.image.ObjectRec.{ObjectRec}
use Rattle.bk_gen.specs.Subjects.{numbers_below}
use Rattle.bk_gen.specs.Objects.{directory, segment, group}

pub group_behind : (a : ℕ) (before pushed after : List ObjectRec) (d : ObjectRec) → d ≡ directory (a ∷ 5 ∷ []) → pushed ≡ before ++ d ∷ [] → after ≡ pushed ++ map (segment a) (numbers_below 16)
    → after ≡ before ++ group a
unfolding group
group_behind a before pushed after d is first rest =
    let segments = map (segment a) (numbers_below 16) in
    rest
    ∙ ap (λ objects. objects ++ segments) first
    ∙ append_assoc before (d ∷ []) segments
    ∙ ap (λ d. before ++ d ∷ segments) is

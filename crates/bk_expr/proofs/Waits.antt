-- What waits while an expression is read: one that comes last comes first to the part.
use Rattle.std.specs.Prelude.{◌≡◌, List, [], ◌∷◌, ◌++◌, None, refl}
use Rattle.std.proofs.Common.{ap, ◌∙◌}
use Rattle.bk_expr.specs.declared.reading.Waiting.{Waiting}
use Rattle.bk_expr.specs.declared.reading.Waiting.TheVariants.{Negation, Closing, More, Right}
use Rattle.bk_expr.specs.Text.{Front}
use Rattle.bk_expr.specs.Tree.{Expression}
use Rattle.bk_expr.specs.Waiting.{through, through_all}

pub through_last : (waiting : List Waiting) (one : Waiting) (front : Front Expression) → through_all (waiting ++ (one ∷ [])) front ≡ through_all waiting (through one front)
through_last [] one front = refl
through_last (first ∷ waiting) one front = ap (through first) (through_last waiting one front)

through_none : (one : Waiting) → through one None ≡ None
through_none Negation = refl
through_none Closing = refl
through_none More = refl
through_none (Right op left) = refl

pub through_all_none : (waiting : List Waiting) → through_all waiting None ≡ None
through_all_none [] = refl
through_all_none (first ∷ waiting) = ap (through first) (through_all_none waiting) ∙ through_none first

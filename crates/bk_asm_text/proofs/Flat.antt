-- Statements in their lists: how many, and one more behind all.
use Rattle.std.proofs.Common.{◌≡◌, ℕ, ◌≤◌, List, [], ◌∷◌, ◌++◌, length, take, drop, refl, ap, sym, ◌∙◌, arith, length-drop}
use Rattle.std.specs.Prelude.{sum_by}
use Rattle.std.proofs.lemmas.List.{take-append-le, drop-append-le, nil_from_length}
use Rattle.std.proofs.lemmas.List.Sums.{sum_by-cons}
use Rattle.std.proofs.Math.Seq.{take-length}
use Rattle.bk_expr.specs.declared.tree.Expr.{Expr}
use Rattle.bk_asm_text.specs.declared.statement.Label.{Label}
use Rattle.bk_asm_text.specs.declared.statements.Head.{Head}
use Rattle.bk_asm_text.specs.declared.statements.Rest.{Rest}
use Rattle.bk_asm_text.specs.Flat.{all_said, plain_rest, said}

-- how many labels and expressions are theirs
abbrev pub labels_of : List Head → ℕ
labels_of heads = sum_by (λ head. head.labels) heads

abbrev pub values_of : List Head → ℕ
values_of heads = sum_by (λ head. head.values) heads

-- as many at the front as there are, behind none
taken : {A : Type 0} (n : ℕ) (none xs : List A) → 0 ≡ length none → n ≡ length xs → take n (none ++ xs) ≡ xs
taken {A} n none xs e is =
    ap (λ (none : List A). take n (none ++ xs)) (nil_from_length none (sym e)) ∙ ap (λ n. take n xs) is ∙ take-length xs

-- one statement more, behind as many labels and expressions as those before it have
pub one_more : (heads : List Head) (labels : List Label) (values : List Expr) (head : Head) (more : List Label) (others : List Expr)
    → labels_of heads ≡ length labels → values_of heads ≡ length values → head.labels ≡ length more → head.values ≡ length others
    → all_said (heads ++ head ∷ []) (labels ++ more) (values ++ others) ≡ all_said heads labels values ++ said head.line more others head.body ∷ []
one_more [] labels values head more others all_labels all_values few fewer =
    λ i. said head.line (taken head.labels labels more all_labels few i) (taken head.values values others all_values fewer i) head.body ∷ []
one_more (h ∷ heads) labels values head more others all_labels all_values few fewer =
    let own = sum_by-cons (λ (head : Head). head.labels) h heads in
    let its = sum_by-cons (λ (head : Head). head.values) h heads in
    let within : h.labels ≤ length labels = omega (arith, all_labels, own) in
    let inside : h.values ≤ length values = omega (arith, all_values, its) in
    let left : labels_of heads ≡ length (drop h.labels labels) = omega (arith, all_labels, own, length-drop h.labels labels) in
    let over : values_of heads ≡ length (drop h.values values) = omega (arith, all_values, its, length-drop h.values values) in
    (λ i. said h.line (take-append-le h.labels labels more within i) (take-append-le h.values values others inside i) h.body
    ∷ all_said (heads ++ head ∷ []) (drop-append-le h.labels labels more within i) (drop-append-le h.values values others inside i))
    ∙ ap (λ xs. said h.line (take h.labels labels) (take h.values values) h.body ∷ xs) (one_more heads (drop h.labels labels) (drop h.values values) head more others left over few fewer)

-- as many statements as heads
pub count : (heads : List Head) (labels : List Label) (values : List Expr) → length (all_said heads labels values) ≡ length heads
count [] labels values = refl
count (head ∷ heads) labels values = omega (arith, count heads (drop head.labels labels) (drop head.values values))

-- what is left, by its first
pub none_left : (rest : Rest) → rest.heads.now ≡ [] → plain_rest rest ≡ []
unfolding plain_rest
none_left rest none = ap (λ heads. all_said heads rest.labels.now rest.values.now) none

pub first_left : (rest : Rest) (head : Head) (heads : List Head) → rest.heads.now ≡ head ∷ heads
    → plain_rest rest ≡ said head.line (take head.labels rest.labels.now) (take head.values rest.values.now) head.body
    ∷ all_said heads (drop head.labels rest.labels.now) (drop head.values rest.values.now)
unfolding plain_rest
first_left rest head heads is = ap (λ heads. all_said heads rest.labels.now rest.values.now) is

-- What fields say, one after the other.
use Rattle.std.proofs.Common.{◌≡◌, ℕ, ◌+◌, ◌<◌, ◌≤◌, List, [], ◌∷◌, ◌++◌, length, get_or, drop, Ok, Err, refl, ap, ◌∙◌, sym, add-one, drop-cons}
use Rattle.std.proofs.lemmas.List.{drop_all}
use Rattle.std.specs.Borrow.{Bor}
use Rattle.bk_base.specs.Faults.{◌>>=◌}
use Rattle.bk_path.specs.Paths.{Path}
use Rattle.bk_conf.specs.declared.fault.BuildKind.{BuildKind}
use Rattle.bk_conf.specs.Lines.{Text}
use Rattle.bk_conf.specs.Fields.{deeper, deepest}
use Rattle.bk_conf.specs.Kinds.{subject_in, subjects_in}
use Rattle.bk_conf.specs.Views.{texts}

-- an entry that is one
pub deepest_ok : (path : Path) (all : List Text) (next : Path) (entry : Text) (entries : List Text)
    → all ≡ entry ∷ entries → deeper path entry ≡ Ok next → deepest path all ≡ deepest next entries
unfolding deepest
deepest_ok path all next entry entries is said = ap (deepest path) is ∙ ap (λ r. r >>= (λ next. deepest next entries)) said

-- an entry that is none
pub deepest_err : (path : Path) (all : List Text) (kind : BuildKind) (entry : Text) (entries : List Text)
    → all ≡ entry ∷ entries → deeper path entry ≡ Err kind → deepest path all ≡ Err kind
unfolding deepest
deepest_err path all kind entry entries is said = ap (deepest path) is ∙ ap (λ r. r >>= (λ next. deepest next entries)) said

-- the last entry
pub deepest_last : (path : Path) (all : List Text) (entry : Text) → all ≡ entry ∷ [] → deepest path all ≡ deeper path entry
unfolding deepest
deepest_last path all entry is = ap (deepest path) is ∙ by (deeper path entry)
  where
    by : (r : _) → r >>= (λ next. deepest next []) ≡ r
    by (Ok next) = refl
    by (Err kind) = refl

-- the fields from one on
texts_drop : (fields : List (Bor Text)) (i : ℕ) (d : Bor Text) → i < length fields → texts (drop i fields) ≡ (get_or fields i d).now ∷ texts (drop (i + 1) fields)
texts_drop fields i d within =
    let front : drop i fields ≡ get_or fields i d ∷ drop (i + 1) fields =
    drop-cons fields i d within ∙ ap (λ (n : ℕ). get_or fields i d ∷ drop n fields) (sym (add-one i)) in
    ap (λ (fs : List (Bor Text)). texts fs) front

-- a field that is a subject's number
pub subjects_next : (before : List ℕ) (fields : List (Bor Text)) (i : ℕ) (d : Bor Text) (subject : ℕ) → i < length fields
    → subject_in (get_or fields i d).now ≡ Ok subject
    → subjects_in (before ++ subject ∷ []) (texts (drop (i + 1) fields)) ≡ subjects_in before (texts (drop i fields))
unfolding subjects_in
subjects_next before fields i d subject within said =
    sym (ap (subjects_in before) (texts_drop fields i d within) ∙ ap (λ r. r >>= (λ subject. subjects_in (before ++ subject ∷ []) (texts (drop (i + 1) fields)))) said)

-- a field that is none
pub subjects_stop : (before : List ℕ) (fields : List (Bor Text)) (i : ℕ) (d : Bor Text) (kind : BuildKind) → i < length fields
    → subject_in (get_or fields i d).now ≡ Err kind → subjects_in before (texts (drop i fields)) ≡ Err kind
unfolding subjects_in
subjects_stop before fields i d kind within said =
    ap (subjects_in before) (texts_drop fields i d within) ∙ ap (λ r. r >>= (λ subject. subjects_in (before ++ subject ∷ []) (texts (drop (i + 1) fields)))) said

-- no field is left
pub subjects_end : (before : List ℕ) (fields : List (Bor Text)) (i : ℕ) → length fields ≤ i → subjects_in before (texts (drop i fields)) ≡ Ok before
unfolding subjects_in
subjects_end before fields i past = ap (λ fs. subjects_in before (texts fs)) (drop_all i fields past)

-- The lines of items one after another.
use Rattle.std.proofs.Common.{◌≡◌, true, false, List, [], ◌∷◌, ◌++◌, refl, sym, ◌∙◌, ap, append_assoc, append-nil}
use Rattle.std.specs.Prelude.{All, Option, Some, None, option_to_list, slice_get}
use Rattle.std.proofs.lemmas.List.Elements.{All-cons}
use Rattle.bk_base.specs.Written.{IsFront}
use Rattle.bk_report.specs.Text.{IsAnswered, text_of, lines_of}
use Rattle.bk_report.specs.declared.item.ReportItem.{ReportItem}
use Rattle.bk_kernel.specs.Items.{items_of, IsInOrder}

pub lines_more : (xs ys : List ReportItem) → lines_of (xs ++ ys) ≡ lines_of xs ++ lines_of ys
unfolding lines_of
lines_more [] ys = refl
lines_more (x ∷ xs) ys = ap (λ l. text_of x ++ l) (lines_more xs ys) ∙ sym (append_assoc (text_of x) (lines_of xs) (lines_of ys))

pub lines_front : (xs ys zs : List ReportItem) → ys ≡ xs ++ zs → IsFront (lines_of xs) (lines_of ys)
lines_front xs ys zs e = (lines_of zs, ap lines_of e ∙ lines_more xs zs)

pub lines_none : lines_of [] ≡ []
unfolding lines_of
lines_none = refl

pub lines_one : (x : ReportItem) → lines_of (x ∷ []) ≡ text_of x
unfolding lines_of
lines_one x = append-nil (text_of x)

-- ---- the items of a turn

first_of : (a b : Option ReportItem) → IsInOrder (a, b) → a ≡ slice_get (items_of (a, b)) 0
first_of None None order = refl
first_of None (Some y) order = let none : false ≡ true = order refl in cc
first_of (Some x) b order = refl

second_of : (a b : Option ReportItem) → IsInOrder (a, b) → b ≡ slice_get (items_of (a, b)) 1
second_of None None order = refl
second_of None (Some y) order = let none : false ≡ true = order refl in cc
second_of (Some x) None order = refl
second_of (Some x) (Some y) order = refl

-- of two items in order that are a list, the first is its first item, and the second its second
pub first_item : (a b : Option ReportItem) (xs : List ReportItem) → items_of (a, b) ≡ xs → IsInOrder (a, b) → a ≡ slice_get xs 0
first_item a b xs is order = first_of a b order ∙ ap (λ l. slice_get l 0) is

pub second_item : (a b : Option ReportItem) (xs : List ReportItem) → items_of (a, b) ≡ xs → IsInOrder (a, b) → b ≡ slice_get xs 1
second_item a b xs is order = second_of a b order ∙ ap (λ l. slice_get l 1) is

-- two items that are answered
pub all_answered : (a : ReportItem) (b : Option ReportItem) → IsAnswered a → All IsAnswered (option_to_list b) → All IsAnswered (items_of (Some a, b))
all_answered a b first second = All-cons IsAnswered a (option_to_list b) first second

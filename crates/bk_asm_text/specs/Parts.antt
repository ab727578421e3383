-- Where a statement and an operand end, and parts of one kind that stand one after another.
use Rattle.std.specs.Prelude.{ℕ, zero, suc, ◌==◌, Bool, true, ◌||◌, List, [], ◌∷◌, length, Some, None}
use Rattle.bk_expr.specs.Text.{Front, past_blanks}

-- nothing is left, or a comment
abbrev pub is_end_in : List ℕ → Bool
is_end_in [] = true
is_end_in (c ∷ text) = c == 59

-- the statement ends: nothing but blanks and a comment is left
unfoldable pub is_end : List ℕ → Bool
is_end text = is_end_in (past_blanks text)

-- nothing is left, or a comma or a comment
abbrev pub is_operand_end_in : List ℕ → Bool
is_operand_end_in [] = true
is_operand_end_in (c ∷ text) = c == 44 || c == 59

-- an operand ends: a comma follows, or the statement ends
unfoldable pub is_operand_end : List ℕ → Bool
is_operand_end text = is_operand_end_in (past_blanks text)

-- one part in front of others of its kind
abbrev pub with_others : {X : Type 0} → Front X → List ℕ → (List ℕ → List X × List ℕ) → List X × List ℕ
with_others None text others = ([], text)
with_others (Some x) text others = (x.0 ∷ (others x.1).0, (others x.1).1)

-- the parts of one kind that stand one after another, and the text after them; n bounds how many there are
abbrev pub many : {X : Type 0} → (List ℕ → Front X) → ℕ → List ℕ → List X × List ℕ
many part zero text = ([], text)
many part (suc n) text = with_others (part text) text (many part n)

-- .. however many
unfoldable pub all_of : {X : Type 0} → (List ℕ → Front X) → List ℕ → List X × List ℕ
all_of part text = many part (length text) text

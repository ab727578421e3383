-- Pieces written one behind another, as their bytes and by what fails in them.
use Rattle.std.proofs.Common.{◌≡◌, ℕ, ◌+◌, Bool, true, false, List, [], ◌∷◌, ◌++◌, refl, ap, ◌∙◌, append_assoc}
use Rattle.std.specs.Prelude.{◌||◌}
use Rattle.std.specs.List.{list_any}
use Rattle.bk_expr.specs.Value.{Values}
use Rattle.bk_asm.specs.Codes.{bytes_at, divides_in, is_beyond, is_undefined_in, pieces_bytes, worked_in}
use Rattle.bk_asm.specs.Pieces.{Piece, size_of}
use Rattle.bk_asm.specs.Places.{as_value, number_in}
use Rattle.bk_asm.specs.Written.{Written, all_written, begun, written}
use Rattle.bk_asm.proofs.Coding.{Failing}

-- no byte behind others
none_behind : (xs : List ℕ) → xs ≡ xs ++ []
none_behind [] = refl
none_behind (x ∷ xs) = ap (λ ys. x ∷ ys) (none_behind xs)

none_else : (a : Bool) → a ≡ (a || false)
none_else true = refl
none_else false = refl

or_in_turn : (a b c : Bool) → ((a || b) || c) ≡ (b || (a || c))
or_in_turn true true c = refl
or_in_turn true false c = refl
or_in_turn false true c = refl
or_in_turn false false c = refl

module _ (values : Values) (here : ℕ) where
  bytes_written : (pieces : List Piece) (before : Written) → (all_written values here before pieces).bytes ≡ before.bytes ++ pieces_bytes values here before.at pieces
  bytes_written [] before = none_behind before.bytes
  bytes_written (piece ∷ pieces) before =
      bytes_written pieces (written values here before piece)
      ∙ append_assoc before.bytes (bytes_at before.at piece (number_in (worked_in values here piece))) (pieces_bytes values here (as_value (before.at + size_of piece)) pieces)

  undefined_written : (pieces : List Piece) (before : Written) → (all_written values here before pieces).undefined ≡ (before.undefined || list_any (is_undefined_in values here) pieces)
  undefined_written [] before = none_else before.undefined
  undefined_written (piece ∷ pieces) before =
      undefined_written pieces (written values here before piece)
      ∙ or_in_turn (is_undefined_in values here piece) before.undefined (list_any (is_undefined_in values here) pieces)

  divides_written : (pieces : List Piece) (before : Written) → (all_written values here before pieces).divides ≡ (before.divides || list_any (divides_in values here) pieces)
  divides_written [] before = none_else before.divides
  divides_written (piece ∷ pieces) before =
      divides_written pieces (written values here before piece)
      ∙ or_in_turn (divides_in values here piece) before.divides (list_any (divides_in values here) pieces)

  beyond_written : (pieces : List Piece) (before : Written) → (all_written values here before pieces).beyond ≡ (before.beyond || list_any (is_beyond values here) pieces)
  beyond_written [] before = none_else before.beyond
  beyond_written (piece ∷ pieces) before =
      beyond_written pieces (written values here before piece)
      ∙ or_in_turn (is_beyond values here piece) before.beyond (list_any (is_beyond values here) pieces)

  -- the pieces of a statement: its bytes stand behind those before it
  pub whole_bytes : (before : List ℕ) (pieces : List Piece) (now : Written) → now ≡ all_written values here (begun before here) pieces
      → now.bytes ≡ before ++ pieces_bytes values here here pieces
  whole_bytes before pieces now is = ap (λ (w : Written). w.bytes) is ∙ bytes_written pieces (begun before here)

  -- .. and it fails where one of them does
  pub whole_failing : (before : List ℕ) (pieces : List Piece) (now : Written) → now ≡ all_written values here (begun before here) pieces
      → Failing values here pieces now.undefined now.divides now.beyond
  whole_failing before pieces now is = record {
    undefined_is = ap (λ (w : Written). w.undefined) is ∙ undefined_written pieces (begun before here);
    divides_is = ap (λ (w : Written). w.divides) is ∙ divides_written pieces (begun before here);
    beyond_is = ap (λ (w : Written). w.beyond) is ∙ beyond_written pieces (begun before here);
  }

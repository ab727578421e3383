-- A statement has as many bytes as its size says.
use Rattle.std.proofs.Common.{◌≡◌, ℕ, ◌+◌, List, [], ◌∷◌, ◌++◌, length, refl, arith, length-append}
use Rattle.std.specs.Prelude.{sum_by}
use Rattle.std.proofs.lemmas.List.{length-replicate}
use Rattle.std.proofs.lemmas.List.Sums.{sum_by-cons}
use Rattle.bk_expr.specs.declared.worked.Worked.{Worked}
use Rattle.bk_expr.specs.Value.{Values}
use Rattle.bk_asm_text.specs.Plain.{PlainBody}
use Rattle.bk_asm_text.specs.Plain as plain
use Rattle.bk_asm.specs.Codes.{bytes_at, pieces_bytes, worked_in, zeros_of}
use Rattle.bk_asm.specs.Pieces.{Piece, Fixed, Value, Distance, Byte, Branch, Back, Number, Text, form_size, pieces_of, role_of, size_of}
use Rattle.bk_asm.specs.Places.{as_value, number_in, size_by}

piece_length : (at : ℕ) (piece : Piece) (n : ℕ) → length (bytes_at at piece n) ≡ size_of piece
piece_length at (Fixed word) n = refl
piece_length at (Value value) n = refl
piece_length at (Distance value) n = refl
piece_length at (Byte value) n = refl
piece_length at (Branch base to) n = refl
piece_length at (Back base to) n = refl
piece_length at (Number base limit value) n = refl
piece_length at (Text text) n = refl

pieces_length : (values : Values) (here at : ℕ) (pieces : List Piece) → length (pieces_bytes values here at pieces) ≡ sum_by size_of pieces
pieces_length values here at [] = refl
pieces_length values here at (piece ∷ pieces) =
    let n = number_in (worked_in values here piece) in
    omega (
      arith,
      length-append (bytes_at at piece n) (pieces_bytes values here (as_value (at + size_of piece)) pieces),
      piece_length at piece n,
      pieces_length values here (as_value (at + size_of piece)) pieces,
      sum_by-cons size_of piece pieces,
    )

module _ (values : Values) (here address : ℕ) (count : Worked) where
  abbrev HasSize : PlainBody → Type 0
  HasSize body =
      let size = size_by address (form_size body) count (role_of body) in
      length (pieces_bytes values here here (pieces_of body) ++ zeros_of size (role_of body)) ≡ size

  by_pieces : (pieces : List Piece) → length (pieces_bytes values here here pieces ++ []) ≡ sum_by size_of pieces
  by_pieces pieces = omega (arith, length-append (pieces_bytes values here here pieces) [], pieces_length values here here pieces)

  pub has_size : (body : PlainBody) → HasSize body
  has_size plain.Nothing = refl
  has_size (plain.Assign name value) = refl
  has_size (plain.Double base src dst) = by_pieces (pieces_of (plain.Double base src dst))
  has_size (plain.Eis base src reg) = by_pieces (pieces_of (plain.Eis base src reg))
  has_size (plain.Xor reg dst) = by_pieces (pieces_of (plain.Xor reg dst))
  has_size (plain.Jsr reg dst) = by_pieces (pieces_of (plain.Jsr reg dst))
  has_size (plain.Single base dst) = by_pieces (pieces_of (plain.Single base dst))
  has_size (plain.Rts reg) = by_pieces (pieces_of (plain.Rts reg))
  has_size (plain.Sob reg to) = by_pieces (pieces_of (plain.Sob reg to))
  has_size (plain.Branch base to) = by_pieces (pieces_of (plain.Branch base to))
  has_size (plain.Mark count) = by_pieces (pieces_of (plain.Mark count))
  has_size (plain.Spl level) = by_pieces (pieces_of (plain.Spl level))
  has_size (plain.Number base n) = by_pieces (pieces_of (plain.Number base n))
  has_size (plain.Alone base) = by_pieces (pieces_of (plain.Alone base))
  has_size (plain.WordList values) = by_pieces (pieces_of (plain.WordList values))
  has_size (plain.ByteList values) = by_pieces (pieces_of (plain.ByteList values))
  has_size (plain.Ascii text zero) = by_pieces (pieces_of (plain.Ascii text zero))
  has_size (plain.Blkw value) = length-replicate (size_by address (form_size (plain.Blkw value)) count (role_of (plain.Blkw value))) 0
  has_size plain.Even = length-replicate (size_by address (form_size plain.Even) count (role_of plain.Even)) 0

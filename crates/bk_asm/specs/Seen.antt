-- What the code's tables stand for.
use Rattle.std.specs.Prelude.{ℕ, List, map, Option, Some, None, nat_lt, if◌then◌else◌}
use Rattle.std.specs.Global.{Vec}
use Rattle.bk_expr.specs.Tree.{Expression}
use Rattle.bk_expr.specs.Value.{Values}
use Rattle.bk_asm_text.specs.Flat.{plain_statement}
use Rattle.bk_asm.specs.declared.piece.Kind.{Kind}
use Rattle.bk_asm.specs.declared.piece.Kind.TheVariants as kind
use Rattle.bk_asm.specs.declared.place.Known.{Known as KnownInMemory}
use Rattle.bk_asm.specs.declared.place.Placed.{Placed as PlacedInMemory}
use Rattle.bk_asm.specs.declared.putting.Coding.{Coding}
use Rattle.bk_asm.specs.declared.table.Table.{Table}
use Rattle.bk_asm.specs.declared.table.Scope.{Scope}
use Rattle.bk_asm.specs.Names.{Defined, values_in}
use Rattle.bk_asm.specs.Pieces.{Piece, Value, Distance, Byte, Branch, Back, Number}
use Rattle.bk_asm.specs.Places.{Known, Placed}
use Rattle.bk_asm.specs.Written.{Written}

-- a name in memory with its value
abbrev pub entry_of : Vec ℕ × ℕ → List ℕ × ℕ
entry_of entry = (entry.0.items, entry.1)

-- what a table defines
abbrev pub seen : Table → Defined
seen table = record { names = map entry_of table.names.entries; locals = table.locals.entries }

-- the values that a scope gives
abbrev pub given_by : Scope → Values
given_by scope = values_in (seen scope.table.now) scope.range

-- a statement at its place, by its labels and its expressions
abbrev pub plain_placed : PlacedInMemory → Placed
plain_placed placed =
    record { statement = plain_statement placed.statement; address = placed.address; range = placed.range; size = placed.size }

-- what the code knows behind some statements
abbrev pub plain_known : KnownInMemory → Known
plain_known known = record { address = known.address; range = known.range; defined = seen known.table }

-- a piece with its expression
abbrev pub piece_of : Kind → Expression → Piece
piece_of kind.Value value = Value value
piece_of kind.Distance value = Distance value
piece_of kind.Byte value = Byte value
piece_of (kind.Branch base) to = Branch base to
piece_of (kind.Back base) to = Back base to
piece_of (kind.Number base limit) value = Number base limit value

-- what is written so far
abbrev pub written_so : Coding → Written
written_so coding = record {
  bytes = coding.bytes.items;
  at = coding.at;
  undefined = coding.failing.undefined;
  divides = coding.failing.divides;
  beyond = coding.failing.beyond;
}

-- a size of at most 8,192; no greater one is told
abbrev pub at_most : ℕ → Option ℕ
at_most size = if nat_lt 8192 size then None else Some size

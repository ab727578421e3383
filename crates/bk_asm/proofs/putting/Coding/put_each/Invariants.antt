use Rattle.std.proofs.Common.{◌≡◌, drop}
use Rattle.std.specs.Prelude.{map}
use Rattle.bk_expr.specs.Tree.{plain}
use Rattle.bk_asm.specs.Seen.{given_by, piece_of, written_so}
use Rattle.bk_asm.specs.Written.{all_written}
use Rattle.bk_asm.proofs.putting.Coding.put_each.Given as goal

abbrev pub invariant-loop-value : goal.invariant-loop-value
invariant-loop-value l =
    all_written (given_by l.site.scope) l.site.here (written_so l.self) (map (piece_of l.kind) (map plain (drop l.value-index l.values)))
    ≡ all_written (given_by l.site.scope) l.site.here (written_so l.fn.self) (map (piece_of l.kind) (map plain l.values))

use Rattle.std.proofs.Common.{◌≡◌, ◌++◌, take}
use Rattle.std.specs.Prelude.{flat_map}
use Rattle.bk_asm.specs.Listing.{symbol_line}
use Rattle.bk_asm.proofs.lines.push_symbols.Given as goal

abbrev pub invariant-loop-symbol : goal.invariant-loop-symbol
invariant-loop-symbol l = l.out.items ≡ l.fn.out.items ++ flat_map symbol_line (take l.symbol-index l.symbol-items)

use Rattle.std.proofs.Common.{◌≡◌, ◌++◌}
use Rattle.std.specs.Prelude.{map}
use Rattle.bk_asm.specs.Assembled.{symbol, symbols_of}
use Rattle.bk_asm.specs.Seen.{entry_of, seen}
use Rattle.bk_asm.proofs.table.Table.into_symbols.Given as goal

abbrev pub invariant-loop-name : goal.invariant-loop-name
invariant-loop-name l = l.symbols.items ++ map symbol (map entry_of l.name-iterator) ≡ symbols_of (seen l.fn.self)

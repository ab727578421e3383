use Rattle.std.proofs.Common.{◌≡◌, ◌≤◌, drop}
use Rattle.bk_expr.specs.Names.{value_on}
use Rattle.bk_expr.proofs.word.word_of_digits.Given as goal

-- the digits that are left make the whole number of what is read
abbrev pub invariant-loop-digit : goal.invariant-loop-digit
invariant-loop-digit l = record {
  same : value_on l.base l.value (drop l.digit-index l.digits) ≡ value_on l.base 0 l.digits;
  fits : l.value ≤ 65535;
}

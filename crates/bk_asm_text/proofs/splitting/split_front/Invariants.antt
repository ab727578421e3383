use Rattle.std.proofs.Common.{◌≡◌, [], length}
use Rattle.bk_asm_text.specs.Before.{before_at, before_fault}
use Rattle.bk_asm_text.specs.Flat.{Fits, plain_statements}
use Rattle.bk_asm_text.specs.Statements.{lines_of}
use Rattle.bk_asm_text.proofs.splitting.split_front.Given as goal

abbrev pub invariant-each : goal.invariant-each
invariant-each l = record {
  read : before_at l.at (plain_statements l.statements) (lines_of l.rest) ≡ before_fault l.text;
  fits : Fits l.statements;
  labels : l.parts.labels.items ≡ [];
  values : l.parts.values.items ≡ [];
}

abbrev pub decreases-each : goal.decreases-each
decreases-each l = length l.rest

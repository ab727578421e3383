use Rattle.std.proofs.Common.{◌≡◌, ◌^◌, take}
use Rattle.std.specs.Prelude.{min}
use Rattle.bk_conf.specs.Fields.{value_of}
use Rattle.bk_conf.proofs.field.value_of.Given as goal

abbrev pub invariant-loop-digit : goal.invariant-loop-digit
invariant-loop-digit l = l.n ≡ min (2 ^ 48) (value_of l.base (take l.digit-index l.text))

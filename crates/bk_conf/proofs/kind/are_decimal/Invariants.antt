use Rattle.std.proofs.Common.{◌≡◌, drop}
use Rattle.std.specs.List.{list_all}
use Rattle.bk_conf.specs.Fields.{is_decimal}
use Rattle.bk_conf.specs.Views.{texts}
use Rattle.bk_conf.proofs.kind.are_decimal.Given as goal

abbrev pub invariant-loop-field : goal.invariant-loop-field
invariant-loop-field l = list_all is_decimal (texts (drop l.field-index l.f)) ≡ list_all is_decimal (texts l.f)

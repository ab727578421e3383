use Rattle.std.proofs.Common.{◌≡◌, ◌++◌, drop, length, ◌==◌}
use Rattle.std.specs.Prelude.{filter, not}
use Rattle.bk_conf.specs.Views.{texts}
use Rattle.bk_conf.proofs.text.some_of.Given as goal

abbrev pub invariant-loop-part : goal.invariant-loop-part
invariant-loop-part l =
    texts l.fields.items ++ filter (λ field. not (length field == 0)) (texts (drop l.part-index l.parts))
    ≡ filter (λ field. not (length field == 0)) (texts l.parts)

use Rattle.std.proofs.Common.{◌≡◌, [], drop}
use Rattle.bk_conf.specs.Kinds.{subjects_in}
use Rattle.bk_conf.specs.Views.{texts}
use Rattle.bk_conf.proofs.kind.subjects_in.Given as goal

abbrev pub invariant-loop-field : goal.invariant-loop-field
invariant-loop-field l = subjects_in l.subjects.items (texts (drop l.field-index l.f)) ≡ subjects_in [] (texts l.f)

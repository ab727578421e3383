use Rattle.std.proofs.Common.{◌<◌, ◌∙◌, sym, ap, subst, arith}
use Rattle.bk_object.specs.declared.Facts.{Facts}
use Rattle.bk_object.specs.Kinds.{is_directory}
use Rattle.bk_path.specs.Paths.{parent}
use Rattle.bk_store.specs.Stored.{IsFreeLine}
use Rattle.bk_store.proofs.Tested.{begun_directory, begun_line}
use Rattle.bk_suite.proofs.store.bytes_of_line.Goals as goal

pub create-requires-clause-parent : goal.create-requires-clause-parent
create-requires-clause-parent c =
    begun_directory c.in-Ok.store c.push.new.self 2 c.root-2.result c.in-Ok.ensures (ap (λ (f : Facts). is_directory f.kind) c.root-2.ensures) (parent c.in_ok-path.path)
    (ap parent c.in_ok-path.ensures.some ∙ c.root.ensures)

pub create-requires-clause-line : goal.create-requires-clause-line
create-requires-clause-line c =
    let small : 1 < 2 = omega arith in
    subst (IsFreeLine c.in-Ok.store) (ap (λ (f : Facts). f.kind) (sym c.facts_of.ensures))
    (begun_line c.in-Ok.store c.push.new.self 2 c.root-2.result c.in-Ok.ensures (ap (λ (f : Facts). is_directory f.kind) c.root-2.ensures) 1 small)

use Rattle.bk_pages.proofs.Pushed.{counted-none}
use Rattle.bk_pages.proofs.reflection.reflect.Goals as goal

pub returns-then-not-takes-clause-count : goal.returns-then-not-takes-clause-count
returns-then-not-takes-clause-count c = counted-none c.args.machine.now.references

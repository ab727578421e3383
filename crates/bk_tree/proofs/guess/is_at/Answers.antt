use Rattle.std.proofs.Common.{◌∙◌, sym}
use Rattle.bk_path.specs.Orders.{same_path}
use Rattle.bk_tree.proofs.guess.is_at.Goals as goal

pub returns-in-Some : goal.returns-in-Some
returns-in-Some c = λ e. (c.in-Some.object, sym c.in-Some.ensures, same_path c.in-Some.object.path c.args.path (sym c.eq.ensures ∙ e))

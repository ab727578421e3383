use Rattle.std.proofs.Common.{length}
use Rattle.bk_quota.proofs.by_path.+governing.Given as goal

abbrev pub decreases-governing : goal.decreases-governing
decreases-governing g l = length l.path

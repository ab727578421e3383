use Rattle.std.proofs.Common.{◌≡◌, ◌≤◌, true, false, nat_lt, length, sym, subst, rules}
use Rattle.std.specs.List.Sorted.{IsNonDecreasingBy, IsPartitionPoint}
use Rattle.std.proofs.lemmas.List.Sorted.{IsPartitionPoint-from_clause, IsPartitionedBy-ltb}
use Rattle.bk_tree.specs.declared.order.Entry.{Entry}
use Rattle.bk_tree.proofs.OrderLemmas.{rising_from}
use Rattle.bk_tree.proofs.Ranks.{rank-point, rises}
use Rattle.bk_tree.proofs.order.rank.Goals as goal

pub returns-clause-value : goal.returns-clause-value
returns-clause-value c =
    let order = c.args.order.now.items in
    let seen = c.deref.result.now in
    let same : seen ≡ order = c.deref.ensures.value in
    let sorted = rises 0 order (rising_from 0 order c.requires) in
    let point : IsPartitionPoint (λ (e : Entry). nat_lt e.key c.args.key ≡ true) (λ e. nat_lt e.key c.args.key ≡ false) seen c.partition_point.result =
    IsPartitionPoint-from_clause (λ (e : Entry). nat_lt e.key c.args.key) seen c.partition_point.result c.partition_point.ensures.partitioned
    (IsPartitionedBy-ltb (λ (e : Entry). e.key) seen c.args.key (subst (λ xs. IsNonDecreasingBy (λ (e : Entry). e.key) xs) (sym same) sorted)) (λ a r f h. search rules) in
    rank-point c.args.key order c.partition_point.result (subst (λ xs. c.partition_point.result ≤ length xs) same c.partition_point.ensures.bound)
    (subst (λ xs. IsPartitionPoint (λ (e : Entry). nat_lt e.key c.args.key ≡ true) (λ e. nat_lt e.key c.args.key ≡ false) xs c.partition_point.result) same point)

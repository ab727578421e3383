use Rattle.std.proofs.Common.{◌≡◌, ◌&&◌, ◌∙◌, nat_le, nat_lt, arith}
use Rattle.std.proofs.lemmas.Bool.Decides.{nat_tests}
use Rattle.bk_path.specs.Keys.{past_of}
use Rattle.bk_path.proofs.KeyOrder.{inferior-between}
use Rattle.bk_path.proofs.PathLemmas.{inferior_both}
use Rattle.bk_path.proofs.path.Path.is_inferior.Goals as goal

pub returns-then-key-clause-value : goal.returns-then-key-clause-value
returns-then-key-clause-value c =
    let from = c.if-key.true in
    let both : nat_lt c.key-key.result c.past.result ≡ (nat_le c.key.result c.key-key.result && nat_lt c.key-key.result c.past.result) = grind (arith, nat_tests, from) in
    inferior-between c.args.self c.args.of _ c.key-key.ensures.path c.key.ensures.path
    (both ∙ (λ i. nat_le (c.key.ensures.value i) (c.key-key.ensures.value i) && nat_lt (c.key-key.ensures.value i) (c.past.ensures i)))

pub returns-then-key-clause-fact : goal.returns-then-key-clause-fact
returns-then-key-clause-fact c = inferior_both c.args.self c.args.of _ (returns-then-key-clause-value c)

pub returns-else-key-clause-value : goal.returns-else-key-clause-value
returns-else-key-clause-value c =
    let before = c.if-key.false in
    let both : nat_le c.key.result c.key-key.result ≡ (nat_le c.key.result c.key-key.result && nat_lt c.key-key.result (past_of c.args.of)) = grind (arith, nat_tests, before) in
    inferior-between c.args.self c.args.of _ c.key-key.ensures.path c.key.ensures.path
    (both ∙ (λ i. nat_le (c.key.ensures.value i) (c.key-key.ensures.value i) && nat_lt (c.key-key.ensures.value i) (past_of c.args.of)))

pub returns-else-key-clause-fact : goal.returns-else-key-clause-fact
returns-else-key-clause-fact c = inferior_both c.args.self c.args.of _ (returns-else-key-clause-value c)

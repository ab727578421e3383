use Rattle.std.proofs.Common.{◌-◌, ◌*◌, ◌%◌, ◌^◌, ◌∙◌, refl, arith}
use Rattle.bk_path.proofs.KeyWords.{past_is, past_small}
use Rattle.bk_path.proofs.path.Path.past.Goals as goal

pub returns : goal.returns
returns c = past_is c.args.self c.key.ensures.path c.key.result c.from.result (1 * 2 ^ (28 - 4 * c.from.result) % 4294967296) c.key.ensures.value (c.from.ensures ∙ c.depth.ensures.value) refl

pub overflow_mul-result : goal.overflow_mul-result
overflow_mul-result c =
    let is = past_is c.args.self c.key.ensures.path c.key.result c.from.result (1 * 2 ^ (28 - 4 * c.from.result) % 4294967296) c.key.ensures.value (c.from.ensures ∙ c.depth.ensures.value) refl in
    let small = past_small c.args.self c.key.ensures.path in
    omega (arith, is, small)

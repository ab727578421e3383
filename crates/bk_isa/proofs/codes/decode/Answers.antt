use Rattle.std.proofs.Common.{◌≡◌, ℕ, ◌+◌, ◌*◌, ◌/◌, ◌%◌, IfSome, sym, ◌∙◌, ap, subst, arith, bit_and}
use Rattle.std.proofs.lemmas.Grind.{common_steps}
use Rattle.bk_isa.specs.Codes.{code_of, IsListed}
use Rattle.bk_isa.specs.Decode.{parts_of, decode_of}
use Rattle.bk_isa.proofs.Inverse.{decode_of-code_of, none_listed}
use Rattle.bk_isa.proofs.codes.decode.Goals as goal

-- the six low bits are the rest by 64
bit_and-63 : (word : ℕ) → bit_and word 63 ≡ word % 64
bit_and-63 word = grind (arith, common_steps)

pub returns-clause-found : goal.returns-clause-found
returns-clause-found c =
    let e : c.args.word / 64 * 64 + bit_and c.args.word 63 ≡ c.args.word = grind (arith, common_steps) in
    subst (λ n. IfSome c.parts.result (λ i. IsListed i × (code_of i ≡ n))) e c.parts.ensures.listed

pub returns-clause-none : goal.returns-clause-none
returns-clause-none c = none_listed c.parts.result c.args.word (c.parts.ensures.value ∙ ap (parts_of (c.args.word / 64)) (bit_and-63 c.args.word))

pub returns-clause-again : goal.returns-clause-again
returns-clause-again c = λ i h e.
    c.parts.ensures.value ∙ ap (parts_of (c.args.word / 64)) (bit_and-63 c.args.word) ∙ ap decode_of (sym e) ∙ decode_of-code_of i h

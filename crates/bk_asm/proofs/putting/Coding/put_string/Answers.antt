use Rattle.std.proofs.Common.{◌≡◌, [], ◌∷◌, OnOk, subst}
use Rattle.bk_asm.specs.Pieces.{Text}
use Rattle.bk_asm.specs.Seen.{written_so}
use Rattle.bk_asm.specs.Written.{Written, written}
use Rattle.bk_asm.proofs.putting.Coding.put_string.Goals as goal

pub returns-then-zero : goal.returns-then-zero
returns-then-zero c = λ values here.
    let text : written_so c.put_text.new.self ≡ written values here (written_so c.args.self.now) (Text c.args.text.now) = c.in_ok-put_text.ensures values here in
    rw c.if-zero.true (subst (λ (w : Written). OnOk c.put_text-then-zero.result (written_so c.put_text-then-zero.new.self ≡ written values here w (Text (0 ∷ [])))) text (c.put_text-then-zero.ensures values here))

pub returns-else-zero : goal.returns-else-zero
returns-else-zero c = λ values here.
    let text : written_so c.put_text.new.self ≡ written values here (written_so c.args.self.now) (Text c.args.text.now) = c.in_ok-put_text.ensures values here in
    rw c.if-zero.false text

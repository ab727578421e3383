use Rattle.std.proofs.Common.{◌≡◌, ℕ, ◌<◌, ◌^◌, sym, ◌∙◌, ap, subst, arith, Result, Ok, Err, List, string_bytes, bytes_eq, decimal, true, false}
use Rattle.std.proofs.lemmas.Fmt.{parse-decimal}
use Rattle.std.proofs.lemmas.Slice.Eq.{bytes_eq-Decides}
use Rattle.blpk.proofs.Numbers.{own_text, no_text}
use Rattle.blpk.proofs.words.number_of.Goals as goal

pub returns-then-is_text_of : goal.returns-then-is_text_of
returns-then-is_text_of c =
    let told = c.in-Ok.ensures.value in
    let is : decimal c.in-Ok.n ≡ string_bytes c.args.word.now = (bytes_eq-Decides (decimal c.in-Ok.n) (string_bytes c.args.word.now)).0 (sym c.is_text_of.ensures ∙ c.if-is_text_of.true) in
    sym (own_text c.in-Ok.n (omega (arith, told.0.0.1, told.0.1)) (string_bytes c.args.word.now) (sym is))

pub returns-else-is_text_of : goal.returns-else-is_text_of
returns-else-is_text_of c =
    sym (no_text (string_bytes c.args.word.now) (λ n small is.
    let read : c.parse.result ≡ Ok n = parse-decimal 32 n c.as_str.result.now c.parse.result small (omega (arith, small)) (c.as_str.ensures.value ∙ is) c.parse.ensures.value.0 in
    let told : Ok c.in-Ok.n ≡ Ok n = sym c.in-Ok.is ∙ read in
    let same : c.in-Ok.n ≡ n = cc in
    let is_text : bytes_eq (decimal c.in-Ok.n) (string_bytes c.args.word.now) ≡ true = (bytes_eq-Decides (decimal c.in-Ok.n) (string_bytes c.args.word.now)).1 (ap decimal same ∙ sym is) in
    cc (c.is_text_of.ensures, is_text, c.if-is_text_of.false)))

pub returns-in-Err : goal.returns-in-Err
returns-in-Err c =
    sym (no_text (string_bytes c.args.word.now) (λ n small is.
    let read : c.parse.result ≡ Ok n = parse-decimal 32 n c.as_str.result.now c.parse.result small (omega (arith, small)) (c.as_str.ensures.value ∙ is) c.parse.ensures.value.0 in
    cc (read, c.in-Err.is)))

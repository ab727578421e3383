use Rattle.std.proofs.Common.{◌≡◌, ℕ, suc, ◌+◌, ◌*◌, ◌<◌, length, List, [], ◌∷◌, ◌++◌, take, drop, true, ◌==◌, sym, ap, subst, ◌∙◌, append_assoc, arith}
use Rattle.std.specs.List.{list_all}
use Rattle.bk_object.specs.Pairs.{joined_pairs}
use Rattle.bk_object.specs.Rows.{in_row}
use Rattle.bk_image.specs.Spelling.{row_bytes}
use Rattle.bk_image.proofs.PutLemmas.{two_more, row_sets, rest_sets, some_row}
use Rattle.bk_image.proofs.Pairs.{joined-more}
use Rattle.bk_image.proofs.put.put_row.Goals as goal

pub loop-place-preserved : goal.loop-place-preserved
loop-place-preserved c =
    let row = c.args.row.now in
    let place = c.loop-place.place in
    let before = c.args.out.now.items in
    let byte = (in_row row (2 * place)).0 + 16 * (in_row row (2 * place + 1)).0 in
    let pushed : c.push.new.self.items ≡ c.loop-place.out.items ++ byte ∷ [] = c.in_ok-push.ensures.items ∙ ap (λ (b : ℕ). c.loop-place.out.items ++ b ∷ []) c.row_byte.ensures.value in
    let few : place < 32 = omega (arith, c.loop-place-test.true, c.row_size-place-end.ensures.few) in
    let first : suc (2 * place) ≡ 2 * place + 1 = omega arith in
    let second : suc (suc (2 * place)) ≡ 2 * (place + 1) = omega arith in
    let more : joined_pairs (take (2 * (place + 1)) row) ≡ joined_pairs (take (2 * place) row) ++ byte ∷ [] =
    ap (λ (n : ℕ). joined_pairs (take n row)) (sym second)
    ∙ joined-more row place (2 * place) (omega arith) (omega (arith, c.row_byte.ensures.sets, few))
    ∙ ap (λ (n : ℕ). joined_pairs (take (2 * place) row) ++ ((in_row row (2 * place)).0 + 16 * (in_row row n).0) ∷ []) first in
    record {
      text = pushed
          ∙ ap (λ (t : List ℕ). t ++ byte ∷ []) c.loop-place.invariant.text
          ∙ append_assoc before (joined_pairs (take (2 * place) row)) (byte ∷ [])
          ∙ ap (λ (t : List ℕ). before ++ t) (sym more);
      fits = two_more (λ n. (in_row row n).0 < 16) place c.loop-place.invariant.fits c.row_byte.ensures.low c.row_byte.ensures.high;
      sets = λ _. c.row_byte.ensures.sets;
    }

pub returns-clause-text : goal.returns-clause-text
unfolding row_bytes
returns-clause-text c =
    let last : c.loop-place.place ≡ c.row_size-place-end.result = omega (arith, c.loop-place-test.false, c.loop-place.auto.place-end) in
    c.loop-place.invariant.text ∙ ap (λ (n : ℕ). c.args.out.now.items ++ joined_pairs (take (2 * n) c.args.row.now)) (last ∙ c.row_size-place-end.ensures.value)

pub returns-clause-fits : goal.returns-clause-fits
returns-clause-fits c =
    let row = c.args.row.now in
    let last : c.loop-place.place ≡ c.row_size-place-end.result = omega (arith, c.loop-place-test.false, c.loop-place.auto.place-end) in
    let same = last ∙ c.row_size-place-end.ensures.value in
    let whole : length row ≡ 64 = c.loop-place.invariant.sets (omega (arith, same, some_row c.args.version)) in
    record { whole = whole; sets = row_sets row (rest_sets row (2 * c.loop-place.place) c.loop-place.invariant.fits (subst (λ n. list_all (λ modes. modes.0 == 0) (drop (2 * n) row) ≡ true) (sym same) c.requires)) }

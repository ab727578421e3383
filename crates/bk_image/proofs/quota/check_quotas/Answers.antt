use Rattle.std.proofs.Common.{◌≡◌, ◌+◌, ◌*◌, drop, length, sym, ap, ◌∙◌, arith}
use Rattle.std.specs.Prelude.{sum_by}
use Rattle.std.proofs.Math.ListN.{drop_of_length-le}
use Rattle.std.proofs.lemmas.List.Sums.{sum_by-cons}
use Rattle.bk_image.specs.Objects.{objects_in, quotas_at, is_over, size}
use Rattle.bk_image.specs.Views.{first_of}
use Rattle.bk_image.proofs.Shares.{from_place, told, told_next, told_none}
use Rattle.bk_image.proofs.quota.check_quotas.Goals as goal

pub loop-object-preserved : goal.loop-object-preserved
loop-object-preserved c =
    let all = objects_in c.args.objects.now in
    let o = c.object-item.result in
    let later = drop (c.loop-object.object-index + 1) c.args.objects.now in
    let here = from_place c.args.objects.now c.loop-object.object-index o c.loop-object-test.true c.object-item.is in
    let words : length c.as_slice.result.now ≡ length o.words = ap length c.as_slice.ensures in
    let next : c.loop-object.at + (c.record_size.result + 2 * length c.as_slice.result.now) ≡ c.loop-object.at + size c.args.version o = λ i. c.loop-object.at + (c.record_size.ensures.value i + 2 * words i) in
    let found : c.first_of-found.result ≡ first_of c.loop-object.found c.loop-object.at (is_over all o) = c.first_of-found.ensures ∙ ap (first_of c.loop-object.found c.loop-object.at) c.is_over.ensures in
    record {
      exact =
          (λ i. told (found i) (quotas_at c.args.version all later (next i)))
          ∙ sym (told_next c.args.version all o later c.loop-object.found c.loop-object.at)
          ∙ ap (λ objects. told c.loop-object.found (quotas_at c.args.version all objects c.loop-object.at)) (sym here)
          ∙ c.loop-object.invariant.exact;
      fits = omega (arith, next, ap (sum_by (size c.args.version)) here, sum_by-cons (size c.args.version) o later, c.loop-object.invariant.fits);
    }

pub returns-in-None : goal.returns-in-None
returns-in-None c =
    let all = objects_in c.args.objects.now in
    sym c.loop-object.invariant.exact
    ∙ ap (λ found. told found (quotas_at c.args.version all (drop c.loop-object.object-index c.args.objects.now) c.loop-object.at)) c.in-None.is
    ∙ ap (λ objects. quotas_at c.args.version all objects c.loop-object.at) (drop_of_length-le c.args.objects.now c.loop-object-test.false)
    ∙ told_none c.args.version all c.loop-object.at

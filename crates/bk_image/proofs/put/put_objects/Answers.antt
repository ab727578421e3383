use Rattle.bk_image.specs.Spelling.{object_bytes}
use Rattle.bk_image.specs.Writing.{ObjectFits, object_fits}
use Rattle.bk_image.proofs.PutLemmas.{StandsAt, text_next, fits_next, left_next}
use Rattle.bk_image.proofs.put.put_objects.Goals as goal

pub loop-o-preserved : goal.loop-o-preserved
loop-o-preserved c =
    let all = c.args.objects.now in
    let i = c.loop-o.o-index in
    let one = c.o-item.result in
    let here : StandsAt all i one = record { within = c.loop-o-test.true; is = c.o-item.is } in
    record {
      text = text_next (object_bytes c.args.version) all i one here c.args.out.now.items c.loop-o.out.items c.put_object.new.out.items c.loop-o.invariant.text (c.in_ok-put_object.ensures.text);
      fits = fits_next ObjectFits all i one here c.loop-o.invariant.fits c.in_ok-put_object.ensures.fits;
      left = left_next (object_fits c.args.version) all i c.loop-o.invariant.left;
    }

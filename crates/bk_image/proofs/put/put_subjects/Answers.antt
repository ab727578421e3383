use Rattle.bk_image.specs.Spelling.{subject_bytes}
use Rattle.bk_image.specs.Writing.{SubjectFits, windows_fit}
use Rattle.bk_image.proofs.PutLemmas.{StandsAt, text_next, fits_next, left_next}
use Rattle.bk_image.proofs.put.put_subjects.Goals as goal

pub loop-s-preserved : goal.loop-s-preserved
loop-s-preserved c =
    let all = c.args.subjects.now in
    let i = c.loop-s.s-index in
    let one = c.s-item.result in
    let here : StandsAt all i one = record { within = c.loop-s-test.true; is = c.s-item.is } in
    record {
      text = text_next subject_bytes all i one here c.args.out.now.items c.loop-s.out.items c.put_subject.new.out.items c.loop-s.invariant.text (c.in_ok-put_subject.ensures.text);
      fits = fits_next SubjectFits all i one here c.loop-s.invariant.fits c.in_ok-put_subject.ensures.fits;
      left = left_next windows_fit all i c.loop-s.invariant.left;
    }

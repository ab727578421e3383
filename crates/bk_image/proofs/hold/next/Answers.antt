use Rattle.std.proofs.Common.{◌≡◌, ◌∙◌, ℕ, Bool, not, List, Option, Some, None, is_none, is_some, Ok, refl, sym, ap}
use Rattle.std.proofs.lemmas.Result.{err_from_is_err_and}
use Rattle.bk_base.specs.declared.stop.Stop.{Stop}
use Rattle.bk_base.specs.declared.stop.Stop.TheVariants.{NoMemory, Bad}
use Rattle.bk_level.specs.Levels.{Level}
use Rattle.bk_path.specs.Paths.{Path}
use Rattle.bk_state.specs.declared.image.Hold.{Hold}
use Rattle.bk_state.specs.declared.image.SubjectRec.{SubjectRec}
use Rattle.bk_image.specs.declared.fault.ImageFault.{ImageFault}
use Rattle.bk_image.specs.Numbers.{path_in}
use Rattle.bk_image.specs.Parts.{Rest, Refuses, part, first_failing, ◌>>=◌}
use Rattle.bk_image.specs.Objects.{Objects, objects_in}
use Rattle.bk_image.specs.Holds.{hold_of, hold_checks, hold_at}
use Rattle.bk_image.specs.Views.{rest_of}
use Rattle.bk_image.proofs.hold.next.Goals as goal

some_not : (o : Option Path) → is_some o ≡ not (is_none o)
some_not None = refl
some_not (Some p) = refl

-- where the bytes are there, the stop of the checks is that of the hold
refused : (levels : List Level) (subjects : List SubjectRec) (objects : Objects) (before : List Hold) (rest next : Rest) (bytes : List ℕ) (is_path : Bool) (hold : Hold) (stop : Stop ImageFault) →
    part 6 rest ≡ Ok (bytes, next) → is_path ≡ not (is_none (path_in bytes 2)) → hold ≡ hold_of bytes →
    Refuses stop (first_failing rest.at (hold_checks levels subjects objects before is_path hold)) → Refuses stop (hold_at levels subjects objects before rest)
unfolding hold_at
refused levels subjects objects before rest next bytes is_path hold NoMemory whole path is h = h
refused levels subjects objects before rest next bytes is_path hold (Bad fault) whole path is h =
    (λ i. whole i >>= (λ p. first_failing rest.at (hold_checks levels subjects objects before (not (is_none (path_in p.0 2))) (hold_of p.0)) >>= (λ passed. Ok (hold_of p.0, p.1))))
    ∙ (λ i. first_failing rest.at (hold_checks levels subjects objects before (sym path i) (sym is i)) >>= (λ passed. Ok (hold_of bytes, next)))
    ∙ (λ i. h i >>= (λ passed. Ok (hold_of bytes, next)))

pub returns-in_err-check : goal.returns-in_err-check
returns-in_err-check c =
    let p = err_from_is_err_and c.from_residual-in_err-check.result c.from_residual-in_err-check.ensures.1 in
    rw (p.1, p.2) (refused c.args.levels.now c.args.subjects.now (objects_in c.args.objects.now) c.args.before.now (rest_of c.args.rest.now) (rest_of c.part.new.rest) c.in_ok-bytes.bytes.now c.is_some-is_path.result c.hold_of.result c.in_err-check.field-0.0 c.in_ok-bytes.ensures.exact (c.is_some-is_path.ensures ∙ ap is_some c.path_in.ensures ∙ some_not (path_in c.in_ok-bytes.bytes.now 2)) c.hold_of.ensures c.in_err-check.ensures.exact)

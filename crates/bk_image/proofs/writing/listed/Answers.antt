use Rattle.std.proofs.Common.{◌≡◌, ◌++◌, ◌∷◌, [], Some, take, sym, ap, ◌∙◌}
use Rattle.std.specs.Prelude.{slice_get}
use Rattle.std.proofs.lemmas.List.{take_more}
use Rattle.std.proofs.lemmas.Option.{slice_get_within, get_or_from_slice_get}
use Rattle.bk_image.proofs.writing.listed.Goals as goal

pub loop-n-preserved : goal.loop-n-preserved
loop-n-preserved c =
    let levels = c.args.table.now in
    let n = c.loop-n.n in
    let level = c.unwrap.result in
    let found : slice_get levels n ≡ Some level = cc in
    c.in_ok-push.ensures.items
    ∙ ap (λ before. before ++ level ∷ []) c.loop-n.invariant
    ∙ ap (λ next. take n levels ++ next ∷ []) (sym (get_or_from_slice_get levels n level level found))
    ∙ sym (take_more levels n level (slice_get_within levels n level found))

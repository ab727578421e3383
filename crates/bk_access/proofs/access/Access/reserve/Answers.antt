use Rattle.std.proofs.Common.{◌≡◌, ◌∙◌, replicate, ap}
use Rattle.bk_object.specs.Rows.{empty_row, most_subjects}
use Rattle.bk_access.specs.Table.{held_by}
use Rattle.bk_access.proofs.TableLemmas.{held_by-none}
use Rattle.bk_access.proofs.access.Access.reserve.Goals as goal

pub returns : goal.returns
returns c =
    let fresh : c.new.result ≡ empty_row = c.new.ensures in
    ap held_by (c.in_ok-rows.ensures.items_if_clones_equal (λ y h. h) ∙ ap (replicate c.args.slots) fresh)
    ∙ held_by-none c.args.slots most_subjects

use Rattle.std.proofs.Common.{◌≡◌, ◌+◌, ◌&&◌, true, sym, ap, ◌∙◌}
use Rattle.std.specs.Prelude.{nat_lt, sum_by}
use Rattle.bk_image.specs.Objects.{objects_in, has_cell, used_at}
use Rattle.bk_image.specs.Views.{part_of}
use Rattle.bk_image.proofs.Shares.{used_is}
use Rattle.bk_image.proofs.quota.is_over.Goals as goal

pub returns-then-has_cell : goal.returns-then-has_cell
returns-then-has_cell c =
    let o = c.args.object.now in
    let has : has_cell (objects_in c.args.objects.now) o ≡ true = sym c.has_cell.ensures ∙ c.if-has_cell.true in
    let used : c.used.result ≡ used_at (objects_in c.args.objects.now) o.path =
    c.used.ensures ∙ ap (λ shares. 1 + sum_by (part_of o.path) shares) c.requires.shares ∙ used_is c.args.objects.now o.path c.requires.ascending in
    (λ i. nat_lt (c.from.ensures i) (used i))
    ∙ ap (λ b. b && nat_lt o.facts.quota (used_at (objects_in c.args.objects.now) o.path)) (sym has)

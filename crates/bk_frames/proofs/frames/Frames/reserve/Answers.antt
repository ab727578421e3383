use Rattle.std.proofs.Common.{◌∙◌, ap, arith, rules}
use Rattle.bk_frames.specs.Table.{extents_in}
use Rattle.bk_frames.proofs.Tables.{nothing}
use Rattle.bk_frames.proofs.Searched.{begun}
use Rattle.bk_frames.proofs.frames.Frames.reserve.Goals as goal

pub invariant_of-result : goal.invariant_of-result
invariant_of-result c =
    let places = c.in_ok-places.ensures.items_if_clones_equal (λ y h. search rules) in
    let owners = c.in_ok-owners.ensures.items_if_clones_equal (λ y h. search rules) in
    rw (places, owners) (begun c.args.first c.args.blocks c.args.slots _ c.requires.inside (omega (arith, c.in_ok-segments.ensures.capacity)))

pub returns : goal.returns
returns c =
    let places = c.in_ok-places.ensures.items_if_clones_equal (λ y h. search rules) in
    λ i. record { first = c.args.first; blocks = c.args.blocks; slots = c.args.slots; extents = (ap extents_in places ∙ nothing c.args.slots) i }

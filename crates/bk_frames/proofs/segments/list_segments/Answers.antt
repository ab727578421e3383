use Rattle.std.proofs.Common.{◌≡◌, ℕ, ◌+◌, ◌<◌, [], length, Option, None, ap, ◌∙◌, subst, arith, get_or}
use Rattle.std.specs.Prelude.{unwrap_or}
use Rattle.std.proofs.lemmas.Option.{slice_get-get_or}
use Rattle.bk_frames.specs.Ordered.{segment_for, IsListed}
use Rattle.bk_frames.proofs.Listed.{few, listed-none, listed-owner}
use Rattle.bk_frames.proofs.segments.list_segments.Goals as goal

pub push_last-requires : goal.push_last-requires
push_last-requires c =
    let few = few c.args.first (c.args.first + c.loop-block.block) c.loop-block.segments.items c.loop-block.invariant.listed.stacked in
    let room = c.requires.room in
    let capacity = c.loop-block.invariant.capacity in
    omega (arith, few, room, capacity)

pub loop-block-init : goal.loop-block-init
loop-block-init c = record {
  listed = rw c.clear.ensures.items (subst (λ n. IsListed c.args.first n c.args.places.now.items []) (let e : c.args.first ≡ c.args.first + 0 = omega arith in e) (listed-none c.args.first c.args.places.now.items c.args.owners.now.items c.requires.table));
  within = omega arith;
  capacity = omega (arith, c.clear.ensures.capacity);
}

pub loop-block-preserved-in-Some : goal.loop-block-preserved-in-Some
loop-block-preserved-in-Some c =
    let owners = c.args.owners.now.items in
    let none : Option ℕ = None in
    let lt : c.loop-block.block < length owners = omega arith in
    let owner = slice_get-get_or owners c.loop-block.block none lt in
    let both = listed-owner c.args.first c.args.places.now.items owners c.requires.table c.loop-block.block c.loop-block.segments.items lt c.loop-block.invariant.listed (get_or owners c.loop-block.block none) owner
    c.segment_at.result (c.segment_at.ensures ∙ ap (λ o. segment_for c.args.places.now.items (unwrap_or o None)) owner) in
    let here = both.1 c.in-Some.segment c.in-Some.is in
    record {
      listed = rw c.push_last.ensures.items here.2;
      within = here.1;
      capacity = omega (arith, c.loop-block.invariant.capacity, c.push_last.ensures.capacity);
    }

pub loop-block-preserved : goal.loop-block-preserved
loop-block-preserved c =
    let owners = c.args.owners.now.items in
    let none : Option ℕ = None in
    let lt : c.loop-block.block < length owners = omega arith in
    let owner = slice_get-get_or owners c.loop-block.block none lt in
    let both = listed-owner c.args.first c.args.places.now.items owners c.requires.table c.loop-block.block c.loop-block.segments.items lt c.loop-block.invariant.listed (get_or owners c.loop-block.block none) owner
    c.segment_at.result (c.segment_at.ensures ∙ ap (λ o. segment_for c.args.places.now.items (unwrap_or o None)) owner) in
    record {
      listed = both.0 c.in-None.is;
      within = omega arith;
      capacity = c.loop-block.invariant.capacity;
    }

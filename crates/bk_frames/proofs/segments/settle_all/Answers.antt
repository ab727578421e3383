use Rattle.std.proofs.Common.{◌≡◌, ℕ, ◌+◌, ◌<◌, ◌≤◌, ◌∷◌, List, length, length-set, set, drop, slice_index_or, replicate, Option, None, Some, refl, subst, sym, ap, ◌∙◌, arith, rules}
use Rattle.std.proofs.lemmas.List.{drop_all, drop_more, length-replicate}
use Rattle.bk_frames.specs.declared.segments.Segment.{Segment}
use Rattle.bk_frames.specs.declared.table.Placed.{Placed}
use Rattle.bk_frames.specs.Segments.{total, entries_of}
use Rattle.bk_frames.specs.Table.{extent_at, place_of, IsMarked}
use Rattle.std.specs.Prelude.{option_map}
use Rattle.std.specs.Ordering.{nat_cmp}
use Rattle.std.specs.Vec.{vec_len}
use Rattle.std.specs.FinMap.{find}
use Rattle.bk_frames.specs.Extents.{Extent}
use Rattle.bk_frames.specs.Ordered.{or_else, IsSettled}
use Rattle.bk_frames.proofs.Stacked.{nothing}
use Rattle.bk_frames.proofs.Packed.{head_ends, head_within, settle-begun, settle-next}
use Rattle.bk_frames.proofs.segments.settle_all.Goals as goal

or_none : (o : Option Extent) → or_else o None ≡ o
or_none None = refl
or_none (Some e) = refl

-- the next segment, where one is left
module _ (first n : ℕ) (places : List (Option Placed)) (owners : List (Option ℕ)) (segs seen : List Segment) (i : ℕ) (same : seen ≡ segs) (lt : i < length segs) (settled : IsSettled first n places owners segs (drop i segs)) where
  abbrev here : Segment
  here = slice_index_or seen i nothing

  next : IsSettled first n places owners segs (here ∷ drop (i + 1) segs)
  next = subst (λ xs. IsSettled first n places owners segs (slice_index_or xs i nothing ∷ drop (i + 1) segs)) (sym same) (subst (IsSettled first n places owners segs) (drop_more segs i nothing lt) settled)

  within : here.slot < length places
  within = head_within first n places owners segs (drop (i + 1) segs) here next

  ends : n + here.blocks ≤ length owners
  ends = head_ends first n places owners segs (drop (i + 1) segs) here next

  after : (new : List (Option ℕ)) (marked : IsMarked owners new n here.blocks (Some here.slot)) (put : List (Option Placed)) → put ≡ set places here.slot (Some (record { first = first + n; blocks = here.blocks })) → IsSettled first (n + here.blocks) put new segs (drop (i + 1) segs)
  after new marked put is = rw is (settle-next first n places owners segs (drop (i + 1) segs) here next new marked)

  sum : (all : ℕ) → n + total (drop i segs) ≡ all → n + here.blocks + total (drop (i + 1) segs) ≡ all
  sum all was =
      let rest = ap total (drop_more segs i nothing lt) in
      let here_is : here.blocks ≡ (slice_index_or segs i nothing).blocks = ap (λ xs. (slice_index_or xs i nothing).blocks) same in
      omega (arith, rest, was, here_is)

pub overflow_add-first : goal.overflow_add-first
overflow_add-first c =
    let ends = ends c.args.first c.loop-segment.taken c.loop-segment.places.items c.loop-segment.owners.items c.args.segments.now.items c.deref-segment-items.result.now c.loop-segment.segment-index c.deref-segment-items.ensures.value (omega arith) c.loop-segment.invariant.settled in
    let owners = c.loop-segment.invariant.owners in
    omega (arith, ends, owners, c.requires.inside)

pub put-requires : goal.put-requires
put-requires c = within c.args.first c.loop-segment.taken c.loop-segment.places.items c.loop-segment.owners.items c.args.segments.now.items c.deref-segment-items.result.now c.loop-segment.segment-index c.deref-segment-items.ensures.value (omega arith) c.loop-segment.invariant.settled

pub mark-requires-clause-within : goal.mark-requires-clause-within
mark-requires-clause-within c = ends c.args.first c.loop-segment.taken c.loop-segment.places.items c.loop-segment.owners.items c.args.segments.now.items c.deref-segment-items.result.now c.loop-segment.segment-index c.deref-segment-items.ensures.value (omega arith) c.loop-segment.invariant.settled

pub overflow_add-taken : goal.overflow_add-taken
overflow_add-taken c =
    let ends = ends c.args.first c.loop-segment.taken c.loop-segment.places.items c.loop-segment.owners.items c.args.segments.now.items c.deref-segment-items.result.now c.loop-segment.segment-index c.deref-segment-items.ensures.value (omega arith) c.loop-segment.invariant.settled in
    let owners = c.loop-segment.invariant.owners in
    omega (arith, ends, owners, c.requires.inside, c.from-taken.ensures)

pub loop-segment-init : goal.loop-segment-init
loop-segment-init c =
    let slots = length c.args.places.now.items in
    let many : vec_len c.args.places.now ≡ slots = omega (arith, c.args.places.now.ok.0) in
    let blocks : vec_len c.args.owners.now ≡ length c.args.owners.now.items = omega (arith, c.args.owners.now.ok.0) in
    let places : c.fill.new.self.items ≡ replicate slots None = c.fill.ensures.items (λ y h. search rules) ∙ ap (λ n. replicate n None) many in
    let owners : c.fill-2.new.self.items ≡ replicate (length c.args.owners.now.items) None = c.fill-2.ensures.items (λ y h. search rules) ∙ ap (λ n. replicate n None) blocks in
    record {
      settled = rw (places, owners) (settle-begun c.args.first slots c.args.owners.now.items c.args.segments.now.items c.requires.packed c.requires.stacked c.requires.distinct c.requires.slots);
      places = ap length places ∙ length-replicate slots None;
      owners = ap length owners ∙ length-replicate (length c.args.owners.now.items) None;
      end = omega arith;
    }

pub loop-segment-preserved : goal.loop-segment-preserved
loop-segment-preserved c = record {
  settled = rw c.from-taken.ensures (after c.args.first c.loop-segment.taken c.loop-segment.places.items c.loop-segment.owners.items c.args.segments.now.items c.deref-segment-items.result.now c.loop-segment.segment-index c.deref-segment-items.ensures.value (omega arith) c.loop-segment.invariant.settled
      c.mark.new.owners.items c.mark.ensures c.put.new.places.items (c.put.ensures ∙ ap (λ p. set c.loop-segment.places.items (slice_index_or c.deref-segment-items.result.now c.loop-segment.segment-index nothing).slot (Some p)) c.place_at.ensures));
  places = ap length c.put.ensures ∙ length-set c.loop-segment.places.items _ _ ∙ c.loop-segment.invariant.places;
  owners = c.mark.ensures.same_length ∙ c.loop-segment.invariant.owners;
  end = rw c.from-taken.ensures (sum c.args.first c.loop-segment.taken c.loop-segment.places.items c.loop-segment.owners.items c.args.segments.now.items c.deref-segment-items.result.now c.loop-segment.segment-index c.deref-segment-items.ensures.value (omega arith) c.loop-segment.invariant.settled _ c.loop-segment.invariant.end);
}

pub returns : goal.returns
returns c =
    let none = drop_all c.loop-segment.segment-index c.args.segments.now.items (omega (arith, ap length c.deref-segment-items.ensures.value)) in
    let settled = c.loop-segment.invariant.settled in
    let end = c.loop-segment.invariant.end in
    record {
      table = settled.table;
      same = λ slot. settled.same slot ∙ ap (λ ss. or_else (option_map extent_at (place_of c.loop-segment.places.items slot)) (find nat_cmp slot (entries_of ss))) none ∙ or_none (option_map extent_at (place_of c.loop-segment.places.items slot));
      full = settled.full;
      places = c.loop-segment.invariant.places;
      owners = c.loop-segment.invariant.owners;
      end = let rest = ap total none in omega (arith, end, rest);
    }

-- Frames without a segment; what a search of the owners says of the value; and what stays once segments have moved.
use Rattle.std.proofs.Common.{◌≡◌, inr, ℕ, ◌+◌, ◌-◌, ◌≤◌, cond, List, replicate, Option, Some, None}
use Rattle.std.proofs.Common.{sym, ap, ◌∙◌, subst, arith}
use Rattle.std.specs.Prelude.{option_map, IsNone}
use Rattle.std.specs.Ordering.{nat_cmp}
use Rattle.std.specs.Cmp.{nat_cmp_total}
use Rattle.std.specs.FinMap.{FinMap, get, insert, entries, get-insert}
use Rattle.std.proofs.lemmas.List.{length-replicate}
use Rattle.bk_base.specs.Maps.{map_values}
use Rattle.bk_base.proofs.MapValues.{get-map_values, total-map_values}
use Rattle.bk_base.proofs.Totals.{total_of}
use Rattle.bk_frames.specs.declared.table.Placed.{Placed}
use Rattle.bk_frames.specs.Extents.{Extent, Standing, HasRoomAt, HasNoRoom, IsLowestRoom, StandsLast, free_in, moved_down, sizes_of, taken_in}
use Rattle.bk_frames.specs.Table.{IsFrames, IsHole}
use Rattle.bk_frames.proofs.Entries.{number_itself}
use Rattle.bk_frames.proofs.Tables.{none_taken, empty_table, other_number}
use Rattle.bk_frames.proofs.Owners.{hole_of, room_of}
use Rattle.bk_frames.proofs.Settled.{seen, none_is}

-- no segments at all
pub begun : (first size slots room : ℕ) → first + size ≤ 3968 → size ≤ room → IsFrames first size slots 0 0 (replicate slots None) (replicate size None) room
begun first size slots room inside enough = record {
  table = empty_table first slots size;
  known = length-replicate slots None;
  whole = length-replicate size None;
  inside = inside;
  counted = none_taken slots;
  fits = omega arith;
  none_free = λ b below free. absurd (omega (arith, below));
  reach = omega arith;
  enough = enough;
}

-- the sum that the blocks of one segment more would make
pub room_behind : (v : Standing) (blocks at : ℕ) → blocks ≤ free_in v → taken_in v ≤ v.blocks → at ≡ v.first + taken_in v → ((slot : ℕ) → StandsLast v slot at) → (slot : ℕ) → get v.extents slot ≡ None → HasRoomAt v at blocks
room_behind v blocks at room fits is last slot none = record {
  above = omega (arith, is);
  within = omega (arith, room, fits, is);
  apart = λ s e h. inr (last slot s e (λ same. absurd (cc (sym none ∙ ap (get v.extents) (sym same) ∙ h))) h);
}

-- what a search of the owners says of the value
pub lowest_seen : (first size slots taken low room : ℕ) (places : List (Option Placed)) (owners : List (Option ℕ)) → IsFrames first size slots taken low places owners room → (v : Standing) → seen first size slots places ≡ v →
    (n at : ℕ) → 1 ≤ n → IsHole owners at n → ((k : ℕ) → IsHole owners k n → at ≤ k) → IsLowestRoom v (first + at) n
lowest_seen first size slots taken low room places owners frames v view n at some hole least = subst (λ v. IsLowestRoom v (first + at) n) view (record {
  room = room_of first places owners frames.table size slots at n frames.whole some hole;
  lowest = λ other has.
      let above = has.above in
      let k : ℕ = other - first in
      let is : other ≡ first + k = omega arith in
      let low = least k (hole_of first places owners frames.table size slots other n k frames.whole is has) in
      omega (arith, low, is);
})

pub none_seen : (first size slots taken low room : ℕ) (places : List (Option Placed)) (owners : List (Option ℕ)) → IsFrames first size slots taken low places owners room → (v : Standing) → seen first size slots places ≡ v →
    (n : ℕ) → ((k : ℕ) → IsHole owners k n → ⊥) → HasNoRoom v n
none_seen first size slots taken low room places owners frames v view n none = subst (λ v. HasNoRoom v n) view (λ other has.
    let above = has.above in
    let k : ℕ = other - first in
    let is : other ≡ first + k = omega arith in
    none k (hole_of first places owners frames.table size slots other n k frames.whole is has))

-- what is found under the slot of a new entry
pub there_inserted : (m : FinMap nat_cmp Extent) (slot : ℕ) (e : Extent) → get (insert m slot e) slot ≡ Some e
there_inserted m slot e = get-insert nat_cmp_total m slot e slot ∙ ap (λ b. cond b (Some e) (get m slot)) (number_itself slot)

-- the others still end below
pub behind_last : (v w : Standing) (slot at : ℕ) (e : Extent) → w.extents ≡ insert v.extents slot e → StandsLast v slot at → StandsLast w slot at
behind_last v w slot at e is last s f differ h =
    last s f differ (sym (get-insert nat_cmp_total v.extents slot e s ∙ ap (λ b. cond b (Some e) (get v.extents s)) (other_number s slot differ)) ∙ sym (ap (λ m. get m s) is) ∙ h)

-- moving keeps what is taken
sizes_taken : (v : Standing) → taken_in v ≡ total_of (λ (s n : ℕ). n) (entries (sizes_of v))
sizes_taken v = sym (total-map_values nat_cmp (λ (e : Extent). e.blocks) (λ s n. n) v.extents)

pub free_moved : (v w : Standing) (blocks : ℕ) → blocks ≤ free_in v → w.blocks ≡ v.blocks → sizes_of w ≡ sizes_of v → blocks ≤ free_in w
free_moved v w blocks room same sizes =
    let taken : taken_in w ≡ taken_in v = sizes_taken w ∙ ap (λ m. total_of (λ (s n : ℕ). n) (entries m)) sizes ∙ sym (sizes_taken v) in
    omega (arith, room, same, taken)

pub none_moved : (v w : Standing) (slot : ℕ) → w.extents ≡ map_values (moved_down v) v.extents → IsNone (get v.extents slot) → get w.extents slot ≡ None
none_moved v w slot is none = ap (λ m. get m slot) is ∙ get-map_values nat_cmp (moved_down v) v.extents slot ∙ ap (option_map (moved_down v)) (none_is (get v.extents slot) none)

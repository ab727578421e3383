-- What is so once all segments have moved down.
use Rattle.std.proofs.Common.{Bool, cond, ◌≡◌, ℕ, ◌+◌, ◌<◌, ◌≤◌, Option, Some, None, List, [], ◌∷◌, map, length, true, false, refl, sym, ap, subst, ◌∙◌, arith}
use Rattle.std.specs.Prelude.{nat_lt, if◌then◌else◌, option_map}
use Rattle.std.proofs.lemmas.Bool.Decides.{nat_tests}
use Rattle.std.proofs.lemmas.List.Sums.{sum_by-cons}
use Rattle.std.specs.Ordering.{nat_cmp, eq_by_cmp}
use Rattle.std.proofs.lemmas.Option.{same_Some}
use Rattle.std.specs.Cmp.{nat_cmp_total}
use Rattle.std.specs.FinMap.{find, get, from_entries, get-from_entries, same_map, nat_cmp-IsAntisymmetric}
use Rattle.bk_base.specs.Maps.{map_values, IsDistinct}
use Rattle.bk_base.proofs.Totals.{total_of}
use Rattle.bk_base.proofs.Distinct.{total_of-from_entries}
use Rattle.bk_frames.specs.declared.segments.Segment.{Segment}
use Rattle.bk_frames.specs.Extents.{Extent, Standing, segments_of, sizes_of, taken_in, words_at, blocks_below, moved_down, SameOutside, IsApart, StandsLast}
use Rattle.bk_frames.specs.Segments.{IsStacked, compacted, total, words_after, entries_of, extents_of, extent_of}
use Rattle.bk_frames.proofs.Entries.{each_of, values_is, distinct-compacted, free-compacted, sizes-compacted, found_within}
use Rattle.bk_frames.specs.declared.table.Placed.{Placed}
use Rattle.bk_frames.specs.Table.{extent_at, place_of, extents_in, IsFrames, IsFull, IsTable}
use Rattle.bk_frames.specs.Ordered.{IsListed}
use Rattle.bk_frames.proofs.Tables.{get-extents, place_within}
use Rattle.bk_frames.proofs.Settled.{seen, table_apart}
use Rattle.bk_frames.proofs.Listed.{listed-all}
use Rattle.bk_frames.proofs.Packed.{stacked-tight, total-compacted}
use Rattle.bk_frames.proofs.WordsKept.{Kept, kept}

-- the value of frames whose segments are those of the list
abbrev pub standing : ℕ → ℕ → ℕ → List Segment → Standing
standing first size slots segs = record { first = first; blocks = size; slots = slots; extents = extents_of segs }

-- the blocks that are taken
total_is : (first size slots : ℕ) (segs : List Segment) → IsDistinct nat_cmp (entries_of segs) → taken_in (standing first size slots segs) ≡ total segs
total_is first size slots segs distinct = total_of-from_entries nat_cmp nat_cmp-IsAntisymmetric nat_cmp_total (λ s e. e.blocks) (entries_of segs) distinct ∙ sums segs
  where
    sums : (segs : List Segment) → total_of (λ s (e : Extent). e.blocks) (entries_of segs) ≡ total segs
    sums [] = refl
    sums (s ∷ ss) = omega (arith, sums ss, sum_by-cons (λ (e : ℕ × Extent). e.1.blocks) (s.slot, extent_of s) (entries_of ss))

-- the tests of two numbers
not_below : (m n : ℕ) → n ≤ m → nat_lt m n ≡ false
not_below m n le = grind (arith, nat_tests, le)

is_below : (m n : ℕ) → m < n → nat_lt m n ≡ true
is_below m n lt = grind (arith, nat_tests, lt)

-- the blocks of the segments in a list that stand below a block
abbrev pub below : ℕ → List Segment → ℕ
below block [] = 0
below block (s ∷ ss) = (if nat_lt s.first block then s.blocks else 0) + below block ss

-- none stands below the block from which they are stacked
below_none : (block at limit : ℕ) (ss : List Segment) → block ≤ at → IsStacked at limit ss → below block ss ≡ 0
below_none block at limit [] le stacked = refl
below_none block at limit (s ∷ ss) le stacked =
    let rest : below block ss ≡ 0 = below_none block (s.first + s.blocks) limit ss (omega (arith, le, stacked.0)) stacked.2 in
    rw (not_below s.first block (omega (arith, le, stacked.0))) (omega (arith, rest))

-- a segment that stands with so many blocks below it, from a block on
abbrev behind : ℕ → List Segment → Segment → ℕ × Extent
behind at all t = (t.slot, record { first = at + below t.first all; blocks = t.blocks })

-- a segment below all others counts for each of them
behind_one : (at p limit : ℕ) (s : Segment) (all us : List Segment) → s.first < p → IsStacked p limit us → map (behind (at + s.blocks) all) us ≡ map (behind at (s ∷ all)) us
behind_one at p limit s all [] lt stacked = refl
behind_one at p limit s all (u ∷ us) lt stacked = λ i. (u.slot, record { first = here i; blocks = u.blocks }) ∷ behind_one at (u.first + u.blocks) limit s all us (omega (arith, lt, stacked.0)) stacked.2 i
  where
    here : at + s.blocks + below u.first all ≡ at + below u.first (s ∷ all)
    here = rw (is_below s.first u.first (omega (arith, lt, stacked.0))) (omega arith)

-- each segment of a stacked list moves to where the blocks below it end
compacted_is : (at from limit : ℕ) (ss : List Segment) → IsStacked from limit ss → entries_of (compacted at ss) ≡ map (behind at ss) ss
compacted_is at from limit [] stacked = refl
compacted_is at from limit (s ∷ ss) stacked = λ i.
    (s.slot, record { first = here i; blocks = s.blocks })
    ∷ (compacted_is (at + s.blocks) (s.first + s.blocks) limit ss stacked.2
    ∙ behind_one at (s.first + s.blocks) limit s ss ss (omega (arith, stacked.1)) stacked.2) i
  where
    here : at ≡ at + below s.first (s ∷ ss)
    here =
        let none : below s.first (s ∷ ss) ≡ 0 = below_none s.first s.first limit (s ∷ ss) (omega arith) (omega arith, stacked.1, stacked.2) in
        omega (arith, none)

-- once moved down they are stacked from the first block on
pub stacked-compacted : (at from limit : ℕ) (ss : List Segment) → at ≤ from → IsStacked from limit ss → IsStacked at limit (compacted at ss)
stacked-compacted at from limit [] le stacked = omega (arith, le, stacked)
stacked-compacted at from limit (s ∷ ss) le stacked =
    (omega arith, stacked.1, stacked-compacted (at + s.blocks) (s.first + s.blocks) limit ss (omega (arith, le, stacked.0)) stacked.2)

module _ (first size slots : ℕ) (segs : List Segment) (stacked : IsStacked first (first + size) segs) (distinct : IsDistinct nat_cmp (entries_of segs)) where
  abbrev v : Standing
  v = standing first size slots segs

  abbrev part_below : ℕ → ℕ → Extent → ℕ
  part_below block slot e = if nat_lt e.first block then e.blocks else 0

  -- the sum over the map is that over the list
  below_is : (block : ℕ) → blocks_below v block ≡ below block segs
  below_is block = total_of-from_entries nat_cmp nat_cmp-IsAntisymmetric nat_cmp_total (part_below block) (entries_of segs) distinct ∙ sums segs
    where
      sums : (ss : List Segment) → total_of (part_below block) (entries_of ss) ≡ below block ss
      sums [] = refl
      sums (s ∷ ss) = sum_by-cons (λ (e : ℕ × Extent). part_below block e.0 e.1) (s.slot, extent_of s) (entries_of ss) ∙ ap (λ n. part_below block s.slot (extent_of s) + n) (sums ss)

  each_down : (ss : List Segment) → map (behind first segs) ss ≡ each_of (moved_down v) ss
  each_down [] = refl
  each_down (s ∷ ss) = λ i. (s.slot, record { first = first + sym (below_is s.first) i; blocks = s.blocks }) ∷ each_down ss i

  -- the map of extents once all have moved down
  pub compacted-extents : extents_of (compacted first segs) ≡ map_values (moved_down v) (extents_of segs)
  compacted-extents = ap from_entries (compacted_is first first (first + size) segs stacked ∙ each_down segs) ∙ sym (values_is (moved_down v) segs)

-- the map of the places is that of the list
same_extents : (places : List (Option Placed)) (segs : List Segment) → ((s : ℕ) → find nat_cmp s (entries_of segs) ≡ option_map extent_at (place_of places s)) → extents_in places ≡ extents_of segs
same_extents places segs same = same_map nat_cmp_total nat_cmp-IsAntisymmetric _ _ (λ s. get-extents places s ∙ sym (same s) ∙ sym (get-from_entries nat_cmp_total (entries_of segs) s))

-- a segment that moves down keeps its size
same_size : (q : ℕ) (ss : List Segment) (at : ℕ) (e : Extent) → find nat_cmp q (entries_of (compacted at ss)) ≡ Some e → (f : Extent) → find nat_cmp q (entries_of ss) ≡ Some f → e.blocks ≡ f.blocks
same_size q [] at e h f k = cc
same_size q (s ∷ ss) at e h f k = by (eq_by_cmp nat_cmp q s.slot) h k (same_size q ss (at + s.blocks) e)
  where
    by : (b : Bool) → cond b (Some (record { first = at; blocks = s.blocks })) (find nat_cmp q (entries_of (compacted (at + s.blocks) ss))) ≡ Some e → cond b (Some (extent_of s)) (find nat_cmp q (entries_of ss)) ≡ Some f →
        (find nat_cmp q (entries_of (compacted (at + s.blocks) ss)) ≡ Some e → (f : Extent) → find nat_cmp q (entries_of ss) ≡ Some f → e.blocks ≡ f.blocks) → e.blocks ≡ f.blocks
    by true h k rest = sym (ap (λ (x : Extent). x.blocks) (same_Some (record { first = at; blocks = s.blocks }) e h)) ∙ ap (λ (x : Extent). x.blocks) (same_Some (extent_of s) f k)
    by false h k rest = rest h f k

-- all of it, seen from the value that the frames had
pub record Compacting (v : Standing) (first size slots taken low room : ℕ) (words after : List ℕ) (places : List (Option Placed)) (owners : List (Option ℕ)) : Type 0 where
  pub frames : IsFrames first size slots taken low places owners room
  pub extents : extents_in places ≡ map_values (moved_down v) v.extents
  pub segments : segments_of (seen first size slots places) after ≡ segments_of v words
  pub sizes : sizes_of (seen first size slots places) ≡ sizes_of v
  pub dense : (at : ℕ) → at ≡ first + taken_in (seen first size slots places) → (slot : ℕ) → StandsLast (seen first size slots places) slot at
  pub outside : SameOutside v words after
  pub apart : IsApart (seen first size slots places)

module _ (first size slots taken low room : ℕ) (places : List (Option Placed)) (owners : List (Option ℕ)) (frames : IsFrames first size slots taken low places owners room)
    (segs : List Segment) (listed : IsListed first (first + length owners) places segs) where
  stacked : IsStacked first (first + size) segs
  stacked = subst (λ n. IsStacked first (first + n) segs) frames.whole listed.stacked

  stacked_new : IsStacked first (first + size) (compacted first segs)
  stacked_new = stacked-compacted first first (first + size) segs (omega arith) stacked

  -- what the tables are made of once all have moved down
  pub now_stacked : (limit : ℕ) → limit ≡ length owners → IsStacked first (first + limit) (compacted first segs)
  now_stacked limit is = subst (λ n. IsStacked first (first + n) (compacted first segs)) (sym frames.whole ∙ sym is) stacked_new

  pub now_within : (s : ℕ) (e : Extent) → find nat_cmp s (entries_of (compacted first segs)) ≡ Some e → (s < length places) × (e.blocks ≤ 128)
  now_within s e h = by (place_of places s) refl
    where
      by : (o : Option Placed) → place_of places s ≡ o → (s < length places) × (e.blocks ≤ 128)
      by None is =
          let none = free-compacted s first segs (listed-all first places owners frames.table segs listed s ∙ ap (option_map extent_at) is) in
          absurd (cc (sym none ∙ h))
      by (Some p) is =
          let size : e.blocks ≡ p.blocks = same_size s segs first e h (extent_at p) (listed-all first places owners frames.table segs listed s ∙ ap (option_map extent_at) is) in
          let own = frames.table.owned s p is in
          let small = own.small in
          (place_within places s p is, omega (arith, size, small))

  pub compacting : (v : Standing) → seen first size slots places ≡ v → (words after : List ℕ) → length words ≡ 126976 → (moved : List Segment) → moved ≡ compacted first segs → after ≡ words_after first segs words →
      (new : List (Option Placed)) (owned : List (Option ℕ)) (end room' : ℕ) → IsTable first new owned → ((s : ℕ) → find nat_cmp s (entries_of moved) ≡ option_map extent_at (place_of new s)) → IsFull owned end →
      length new ≡ length places → length owned ≡ length owners → end ≡ total moved → room ≤ room' → Compacting v first size slots taken end room' words after new owned
  compacting v view words after full moved is_moved is_after new owned end room' table same low same_places same_owners is_end more =
      subst (λ v. Compacting v first size slots taken end room' words after new owned) view
      (subst (λ a. Compacting (seen first size slots places) first size slots taken end room' words a new owned) (sym is_after) (record {
        frames = record {
          table = table;
          known = same_places ∙ frames.known;
          whole = same_owners ∙ frames.whole;
          inside = frames.inside;
          counted = taken_now ∙ sym taken_was ∙ frames.counted;
          fits = frames.fits;
          none_free = low;
          reach = omega (arith, is_end, total_moved, taken_was, frames.counted, frames.fits);
          enough = omega (arith, more, frames.enough);
        };
        extents = now_is ∙ compacted-extents first size slots segs stacked listed.distinct ∙ (λ i. map_values (moved_down (record { first = first; blocks = size; slots = slots; extents = was_is' i })) (was_is' i));
        segments = ap (map_values (words_at (words_after first segs words))) now_is ∙ values_is (words_at (words_after first segs words)) (compacted first segs) ∙ ap from_entries keeps.words_kept ∙ sym (values_is (words_at words) segs)
            ∙ ap (map_values (words_at words)) was_is';
        sizes = ap (map_values (λ e. e.blocks)) now_is ∙ values_is (λ e. e.blocks) (compacted first segs) ∙ ap from_entries (sizes-compacted first segs) ∙ sym (values_is (λ e. e.blocks) segs)
            ∙ ap (map_values (λ e. e.blocks)) was_is';
        dense = λ at is slot s e differ h. last at is s e h;
        outside = record { below = keeps.below; above = keeps.above };
        apart = table_apart first size slots new owned table (same_owners ∙ frames.whole);
      }))
    where
      now_is : extents_in new ≡ extents_of (compacted first segs)
      now_is = same_extents new moved same ∙ ap extents_of is_moved

      was_is' : extents_of segs ≡ extents_in places
      was_is' = sym (same_extents places segs (listed-all first places owners frames.table segs listed))

      keeps : Kept first (first + size) segs words
      keeps = kept first (first + size) segs words stacked (omega (arith, frames.inside, full))

      total_moved : total moved ≡ total segs
      total_moved = ap total is_moved ∙ total-compacted first segs

      taken_was : taken_in (seen first size slots places) ≡ total segs
      taken_was = (λ i. taken_in (record { first = first; blocks = size; slots = slots; extents = sym was_is' i })) ∙ total_is first size slots segs listed.distinct

      taken_now : taken_in (seen first size slots new) ≡ total segs
      taken_now = (λ i. taken_in (record { first = first; blocks = size; slots = slots; extents = now_is i })) ∙ total_is first size slots (compacted first segs) (distinct-compacted first segs listed.distinct) ∙ total-compacted first segs

      last : (at : ℕ) → at ≡ first + taken_in (seen first size slots new) → (s : ℕ) (e : Extent) → get (extents_in new) s ≡ Some e → e.first + e.blocks ≤ at
      last at is s e h =
          let found = sym (get-from_entries nat_cmp_total (entries_of (compacted first segs)) s) ∙ ap (λ m. get m s) (sym now_is) ∙ h in
          let within = (found_within first (first + total segs) s e (compacted first segs) (stacked-tight first first (first + size) segs stacked) found).1 in
          omega (arith, is, taken_now, within)

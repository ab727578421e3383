-- What is so once a segment stands in free blocks, and once one is forgotten.
use Rattle.std.proofs.Common.{◌≡◌, ◌≢◌, ◌⊎◌, inl, inr, ℕ, ◌+◌, ◌-◌, ◌*◌, ◌<◌, ◌≤◌, Bool, true, false, cond, List, length, replicate, set, Option, Some, None}
use Rattle.std.proofs.Common.{refl, sym, ap, ◌∙◌, subst, arith, length-set, take, drop}
use Rattle.std.specs.Prelude.{option_map, IsNone}
use Rattle.std.specs.Ordering.{nat_cmp, eq_by_cmp}
use Rattle.std.specs.Cmp.{nat_cmp_total}
use Rattle.std.specs.FinMap.{FinMap, get, insert, entries, get-insert, same_map, nat_cmp-IsAntisymmetric}
use Rattle.std.proofs.lemmas.List.{length-replicate}
use Rattle.bk_base.specs.Maps.{map_values}
use Rattle.bk_base.proofs.MapValues.{get-map_values}
use Rattle.bk_base.proofs.Totals.{total_of, total-insert}
use Rattle.bk_core.specs.Memory.{block_words, KeepsOthers, zeroed}
use Rattle.bk_core.proofs.Blocks.{take-below, drop-above}
use Rattle.bk_frames.specs.declared.table.Placed.{Placed}
use Rattle.bk_frames.specs.Extents.{Extent, Standing, AreApart, HasRoomAt, IsApart, SameOutside, free_in, segments_of, sizes_of, taken_in, words_at}
use Rattle.bk_frames.specs.Table.{extent_at, place_of, extents_in, IsFrames, IsFull, IsHole, IsMarked, IsOwned, IsTable}
use Rattle.bk_frames.proofs.Entries.{same_number, number_itself}
use Rattle.bk_frames.proofs.Tables.{stands, no_place, place_within, get-extents, get-set, extents-put}
use Rattle.bk_frames.proofs.Owners.{hole_of, parts, put-table, drop-table}

-- the value of frames that keep these places
abbrev pub seen : (first size slots : ℕ) → List (Option Placed) → Standing
seen first size slots places = record { first = first; blocks = size; slots = slots; extents = extents_in places }

pub none_is : {X : Type 0} (o : Option X) → IsNone o → o ≡ None
none_is None h = refl
none_is (Some x) h = cc

both : (s t : ℕ) → Some (Some s) ≡ Some (Some t) → s ≡ t
both s t e = cc

-- segments of tables are apart
pub table_apart : (first size slots : ℕ) (places : List (Option Placed)) (owners : List (Option ℕ)) → IsTable first places owners → length owners ≡ size → IsApart (seen first size slots places)
table_apart first size slots places owners table long = record {
  within = λ s e h.
      let (p, there, is) = stands places s e h in
      let own = table.owned s p there in
      let within = own.within in
      subst (λ x. (first ≤ x.first) × (x.first + x.blocks ≤ first + size)) is (own.above, omega (arith, within, long));
  sized = λ s e h. let (p, there, is) = stands places s e h in let own = table.owned s p there in subst (λ x. (1 ≤ x.blocks) × (x.blocks ≤ 128)) is (own.some, own.small);
  apart = λ s t e f h k differ.
      let (p, ps, is) = stands places s e h in
      let (q, qs, its) = stands places t f k in
      subst (λ x. AreApart x f) is (subst (AreApart (extent_at p)) its (apart s t p q ps qs differ));
}
  where
    apart : (s t : ℕ) (p q : Placed) → place_of places s ≡ Some p → place_of places t ≡ Some q → s ≢ t → AreApart (extent_at p) (extent_at q)
    apart s t p q ps qs differ =
        let mine = table.owned s p ps in
        let its = table.owned t q qs in
        let low = mine.above in
        let under = its.above in
        let one = mine.some in
        let other = its.some in
        by mine its low under one other (parts q.first p.first p.blocks) (parts p.first q.first q.blocks)
      where
        by : IsOwned first owners s p → IsOwned first owners t q → first ≤ p.first → first ≤ q.first → 1 ≤ p.blocks → 1 ≤ q.blocks →
            ((q.first < p.first) ⊎ (p.first + p.blocks ≤ q.first)) ⊎ ((p.first ≤ q.first) × (q.first < p.first + p.blocks)) →
            ((p.first < q.first) ⊎ (q.first + q.blocks ≤ p.first)) ⊎ ((q.first ≤ p.first) × (p.first < q.first + q.blocks)) → AreApart (extent_at p) (extent_at q)
        by mine its low under one other (inl (inr past)) b = inl past
        by mine its low under one other a (inl (inr past)) = inr past
        by mine its low under one other (inr inside) b =
            absurd (differ (both s t (sym (mine.blocks (q.first - first) (omega (arith, under, inside.0)) (omega (arith, under, inside.1))) ∙ its.blocks (q.first - first) (omega (arith, under)) (omega (arith, under, other)))))
        by mine its low under one other a (inr inside) =
            absurd (differ (both s t (sym (mine.blocks (p.first - first) (omega (arith, low)) (omega (arith, low, one))) ∙ its.blocks (p.first - first) (omega (arith, low, inside.0)) (omega (arith, low, inside.1)))))
        by mine its low under one other (inl (inl a)) (inl (inl b)) = absurd (omega (arith, a, b))

-- values of a map with one entry more
pub values-insert : {Y : Type 0} (g : Extent → Y) (m : FinMap nat_cmp Extent) (slot : ℕ) (e : Extent) → map_values g (insert m slot e) ≡ insert (map_values g m) slot (g e)
values-insert g m slot e = same_map nat_cmp_total nat_cmp-IsAntisymmetric _ _ (λ s.
    get-map_values nat_cmp g (insert m slot e) s ∙ ap (option_map g) (get-insert nat_cmp_total m slot e s) ∙ by s (eq_by_cmp nat_cmp s slot)
    ∙ ap (λ o. cond (eq_by_cmp nat_cmp s slot) (Some (g e)) o) (sym (get-map_values nat_cmp g m s)) ∙ sym (get-insert nat_cmp_total (map_values g m) slot (g e) s))
  where
    by : (s : ℕ) (b : Bool) → option_map g (cond b (Some e) (get m s)) ≡ cond b (Some (g e)) (option_map g (get m s))
    by s true = refl
    by s false = refl

-- segments apart from blocks that are written keep their words
words-insert : (m : FinMap nat_cmp Extent) (slot : ℕ) (e : Extent) (words after : List ℕ) → KeepsOthers e.first e.blocks words after → ((s : ℕ) (f : Extent) → get m s ≡ Some f → AreApart e f) →
    insert (map_values (words_at after) m) slot (words_at after e) ≡ insert (map_values (words_at words) m) slot (words_at after e)
words-insert m slot e words after others apart = ap (λ v. insert v slot (words_at after e)) (same_map nat_cmp_total nat_cmp-IsAntisymmetric _ _ (λ s.
    get-map_values nat_cmp (words_at after) m s ∙ by s (get m s) refl ∙ sym (get-map_values nat_cmp (words_at words) m s)))
  where
    turned : (f : Extent) → AreApart e f → (f.first + f.blocks ≤ e.first) ⊎ (e.first + e.blocks ≤ f.first)
    turned f (inl a) = inr a
    turned f (inr b) = inl b

    by : (s : ℕ) (o : Option Extent) → get m s ≡ o → option_map (words_at after) o ≡ option_map (words_at words) o
    by s None h = refl
    by s (Some f) h = ap Some (others.others f.first f.blocks (turned f (apart s f h)))

-- a segment has its blocks in the sum, and the others theirs
taken-insert : (m : FinMap nat_cmp Extent) (slot : ℕ) (e : Extent) → get m slot ≡ None → total_of (λ (s : ℕ) (x : Extent). x.blocks) (entries (insert m slot e)) ≡ e.blocks + total_of (λ s x. x.blocks) (entries m)
taken-insert m slot e none = total-insert nat_cmp nat_cmp-IsAntisymmetric nat_cmp_total (λ s x. x.blocks) m slot e none

-- all of it, seen from the value that the frames had
pub record Settling (v : Standing) (first size slots taken low room slot at blocks : ℕ) (words after : List ℕ) (places : List (Option Placed)) (owners : List (Option ℕ)) : Type 0 where
  pub frames : IsFrames first size slots taken low places owners room
  pub extents : extents_in places ≡ insert v.extents slot (record { first = at; blocks = blocks })
  pub segments : segments_of (seen first size slots places) after ≡ insert (segments_of v words) slot (replicate (32 * blocks) 0)
  pub sizes : sizes_of (seen first size slots places) ≡ insert (sizes_of v) slot blocks
  pub outside : SameOutside v words after
  pub apart : IsApart (seen first size slots places)

module _ (first size slots taken low room : ℕ) (places : List (Option Placed)) (owners : List (Option ℕ)) (frames : IsFrames first size slots taken low places owners room) where
  -- a block that isn't free stays so where only some are given an owner, and is so where those are
  still_full : (new : List (Option ℕ)) (slot k n more : ℕ) → IsMarked owners new k n (Some slot) → (more ≡ low) ⊎ ((k ≡ low) × (more ≡ low + n)) → IsFull new more
  still_full new slot k n more marked raised b below free = by (parts b k n)
    where
      by : ((b < k) ⊎ (k + n ≤ b)) ⊎ ((k ≤ b) × (b < k + n)) → ⊥
      by (inr inside) = cc (sym (marked.inside b inside.0 inside.1) ∙ free)
      by (inl outside) = frames.none_free b (elim raised [
        | inl same ↦ omega (arith, same, below)
        | inr (at, is) ↦ elim outside [ inl under ↦ omega (arith, under, at) | inr over ↦ absurd (omega (arith, over, below, is, at)) ]
      ]) (sym (marked.outside b outside) ∙ free)

  pub settling : (v : Standing) → seen first size slots places ≡ v → (slot at k blocks more taken' : ℕ) (words after : List ℕ) (new : List (Option ℕ)) (put : List (Option Placed)) → slot < slots → 1 ≤ blocks → blocks ≤ 128 →
      HasRoomAt v at blocks → blocks ≤ free_in v → IsNone (get v.extents slot) → at ≡ first + k → length words ≡ 126976 → after ≡ zeroed words at blocks → block_words after at blocks ≡ replicate (32 * blocks) 0 →
      KeepsOthers at blocks words after → IsMarked owners new k blocks (Some slot) → put ≡ set places slot (Some (record { first = at; blocks = blocks })) → (more ≡ low) ⊎ ((k ≡ low) × (more ≡ low + blocks)) → taken' ≡ taken + blocks →
      Settling v first size slots taken' more room slot at blocks words after put new
  settling v view slot at k blocks more taken' words after new put known some small room_v free_v none_v is full is_after zero others marked is_put raised is_taken =
      subst (λ v. Settling v first size slots taken' more room slot at blocks words after put new) view
      (subst (λ put. Settling (seen first size slots places) first size slots taken' more room slot at blocks words after put new) (sym is_put) (record {
        frames = record {
          table = subst (λ a. IsTable first (set places slot (Some (record { first = a; blocks = blocks }))) new) (sym is) (put-table first places owners frames.table new slot k blocks lt no some small hole marked);
          known = length-set places slot (Some p) ∙ frames.known;
          whole = marked.same_length ∙ frames.whole;
          inside = frames.inside;
          counted = ap (λ m. total_of (λ (s : ℕ) (x : Extent). x.blocks) (entries m)) map_is ∙ taken-insert (extents_in places) slot (extent_at p) none ∙ more_taken;
          fits = omega (arith, free, was, is_taken, frames.fits);
          none_free = still_full new slot k blocks more marked raised;
          reach = elim raised [
            | inl same ↦ omega (arith, same, reaches)
            | inr (here, more_is) ↦ omega (arith, here, more_is, ends)
          ];
          enough = frames.enough;
        };
        extents = map_is;
        segments = ap (map_values (words_at after)) map_is ∙ values-insert (words_at after) (extents_in places) slot (extent_at p)
            ∙ words-insert (extents_in places) slot (extent_at p) words after others here.apart ∙ ap (insert (map_values (words_at words) (extents_in places)) slot) zero;
        sizes = ap (map_values (λ e. e.blocks)) map_is ∙ values-insert (λ e. e.blocks) (extents_in places) slot (extent_at p);
        outside = record {
          below = ap (take (32 * first)) is_after ∙ take-below words (32 * at) zeros (32 * blocks) (32 * first) (omega (arith, here.above)) in_words;
          above = ap (drop (32 * (first + size))) is_after ∙ drop-above words (32 * at) zeros (32 * blocks) (32 * (first + size)) (omega (arith, here.within)) in_words (omega (arith, length-replicate {A = ℕ} (32 * blocks) 0));
        };
        apart = table_apart first size slots (set places slot (Some p)) new
            (subst (λ a. IsTable first (set places slot (Some (record { first = a; blocks = blocks }))) new) (sym is) (put-table first places owners frames.table new slot k blocks lt no some small hole marked))
            (marked.same_length ∙ frames.whole);
      }))
    where
      p : Placed
      p = record { first = at; blocks = blocks }

      zeros : List ℕ
      zeros = replicate (32 * blocks) 0

      here : HasRoomAt (seen first size slots places) at blocks
      here = subst (λ v. HasRoomAt v at blocks) (sym view) room_v

      free : blocks ≤ size - taken_in (seen first size slots places)
      free = subst (λ v. blocks ≤ free_in v) (sym view) free_v

      was : taken_in (seen first size slots places) ≡ taken
      was = frames.counted

      more_taken : blocks + taken_in (seen first size slots places) ≡ taken'
      more_taken = omega (arith, was, is_taken)

      none : get (extents_in places) slot ≡ None
      none = none_is (get (extents_in places) slot) (subst (λ v. IsNone (get v.extents slot)) (sym view) none_v)

      no : place_of places slot ≡ None
      no = no_place places slot none

      lt : slot < length places
      lt = omega (arith, known, frames.known)

      hole : IsHole owners k blocks
      hole = hole_of first places owners frames.table size slots at blocks k frames.whole is here

      ends : k + blocks ≤ size
      ends = omega (arith, hole.within, frames.whole)

      reaches : low ≤ size
      reaches = frames.reach

      map_is : extents_in (set places slot (Some p)) ≡ insert (extents_in places) slot (extent_at p)
      map_is = extents-put places slot p lt

      in_words : 32 * at ≤ length words
      in_words = omega (arith, here.within, frames.inside, full)

  -- a segment goes
  module _ (slot : ℕ) (p : Placed) (there : place_of places slot ≡ Some p) where
    lt : slot < length places
    lt = place_within places slot p there

    gone : get (extents_in (set places slot None)) slot ≡ None
    gone = get-set places slot None lt slot ∙ ap (λ b. cond b None (get (extents_in places) slot)) (number_itself slot)

    again : insert (extents_in (set places slot None)) slot (extent_at p) ≡ extents_in places
    again = same_map nat_cmp_total nat_cmp-IsAntisymmetric _ _ (λ s. get-insert nat_cmp_total (extents_in (set places slot None)) slot (extent_at p) s ∙ ap (cond (eq_by_cmp nat_cmp s slot) (Some (extent_at p))) (get-set places slot None lt s) ∙ by s (eq_by_cmp nat_cmp s slot) refl)
      where
        by : (s : ℕ) (b : Bool) → eq_by_cmp nat_cmp s slot ≡ b → cond b (Some (extent_at p)) (cond b None (get (extents_in places) s)) ≡ get (extents_in places) s
        by s true e = sym (ap (get (extents_in places)) (same_number s slot e) ∙ get-extents places slot ∙ ap (option_map extent_at) there)
        by s false e = refl

    rest_taken : taken_in (seen first size slots places) ≡ p.blocks + taken_in (seen first size slots (set places slot None))
    rest_taken = sym (ap (λ m. total_of (λ (s : ℕ) (x : Extent). x.blocks) (entries m)) again) ∙ taken-insert (extents_in (set places slot None)) slot (extent_at p) gone

    pub blocks_taken : p.blocks ≤ taken
    blocks_taken = omega (arith, rest_taken, frames.counted)

    pub freeing : (k : ℕ) (new : List (Option ℕ)) → p.first ≡ first + k → IsMarked owners new k p.blocks None → (less lower : ℕ) → less + p.blocks ≡ taken → lower ≤ low → lower ≤ k → IsFrames first size slots less lower (set places slot None) new room
    freeing k new is marked less lower rest under at = record {
      table = drop-table first places owners frames.table new slot k p.blocks p there is refl marked;
      known = length-set places slot None ∙ frames.known;
      whole = marked.same_length ∙ frames.whole;
      inside = frames.inside;
      counted = omega (arith, rest_taken, rest, frames.counted);
      fits = omega (arith, rest, frames.fits);
      none_free = λ b below free. frames.none_free b (omega (arith, below, under)) (sym (marked.outside b (inl (omega (arith, below, at)))) ∙ free);
      reach = omega (arith, under, frames.reach);
      enough = frames.enough;
    }

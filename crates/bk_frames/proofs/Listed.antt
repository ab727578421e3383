-- The list of all segments of the tables, block by block.
use Rattle.std.proofs.Common.{◌≡◌, ◌≢◌, ◌⊎◌, inl, inr, ℕ, ◌+◌, ◌-◌, ◌<◌, ◌≤◌, Bool, true, false, cond, List, [], ◌∷◌, ◌++◌, length}
use Rattle.std.proofs.Common.{Option, Some, None, refl, sym, ap, ◌∙◌, subst, arith}
use Rattle.std.specs.Prelude.{slice_get, option_map, nat_lt, if◌then◌else◌}
use Rattle.std.proofs.lemmas.Bool.{cases_lt}
use Rattle.std.proofs.lemmas.Bool.Decides.{nat_tests}
use Rattle.std.proofs.lemmas.Option.{same_Some}
use Rattle.std.specs.Ordering.{nat_cmp, eq_by_cmp}
use Rattle.std.specs.Cmp.{nat_cmp_total}
use Rattle.std.specs.FinMap.{find, nat_cmp-IsAntisymmetric}
use Rattle.bk_base.specs.Maps.{IsDistinct}
use Rattle.bk_base.proofs.Distinct.{distinct-push}
use Rattle.bk_frames.specs.declared.segments.Segment.{Segment}
use Rattle.bk_frames.specs.declared.table.Placed.{Placed}
use Rattle.bk_frames.specs.Segments.{IsStacked, entries_of, extent_of}
use Rattle.bk_frames.specs.Table.{extent_at, place_of, IsOwned, IsTable}
use Rattle.bk_frames.specs.Ordered.{segment_for, segment_in, before, IsListed}
use Rattle.bk_frames.proofs.Entries.{same_number, number_itself, each_of-append}
use Rattle.bk_frames.proofs.Tables.{same_or_not}

-- what is found in a list with one entry more behind it
find-push : {X : Type 0} (q slot : ℕ) (x : X) (es : List (ℕ × X)) → find nat_cmp slot es ≡ None → find nat_cmp q (es ++ (slot, x) ∷ []) ≡ cond (eq_by_cmp nat_cmp q slot) (Some x) (find nat_cmp q es)
find-push q slot x [] none = refl
find-push q slot x (e ∷ es) none = by (eq_by_cmp nat_cmp slot e.0) refl none (find-push q slot x es)
  where
    by : (b : Bool) → eq_by_cmp nat_cmp slot e.0 ≡ b → cond b (Some e.1) (find nat_cmp slot es) ≡ None →
        (find nat_cmp slot es ≡ None → find nat_cmp q (es ++ (slot, x) ∷ []) ≡ cond (eq_by_cmp nat_cmp q slot) (Some x) (find nat_cmp q es)) →
        cond (eq_by_cmp nat_cmp q e.0) (Some e.1) (find nat_cmp q (es ++ (slot, x) ∷ [])) ≡ cond (eq_by_cmp nat_cmp q slot) (Some x) (cond (eq_by_cmp nat_cmp q e.0) (Some e.1) (find nat_cmp q es))
    by true here h rest = cc
    by false here h rest = ap (cond (eq_by_cmp nat_cmp q e.0) (Some e.1)) (rest h) ∙ split (eq_by_cmp nat_cmp q e.0) (eq_by_cmp nat_cmp q slot) refl refl
      where
        split : (a b : Bool) → eq_by_cmp nat_cmp q e.0 ≡ a → eq_by_cmp nat_cmp q slot ≡ b → cond a (Some e.1) (cond b (Some x) (find nat_cmp q es)) ≡ cond b (Some x) (cond a (Some e.1) (find nat_cmp q es))
        split true true f g = absurd (cc (sym here ∙ ap (λ n. eq_by_cmp nat_cmp n e.0) (sym (same_number q slot g)) ∙ f))
        split true false f g = refl
        split false true f g = refl
        split false false f g = refl

stacked-push : (at end limit : ℕ) (s : Segment) (ss : List Segment) → IsStacked at end ss → end ≤ s.first → 1 ≤ s.blocks → s.first + s.blocks ≤ limit → IsStacked at limit (ss ++ s ∷ [])
stacked-push at end limit s [] stacked le some room = (omega (arith, stacked, le), some, room)
stacked-push at end limit s (t ∷ ss) stacked le some room = (stacked.0, stacked.1, stacked-push (t.first + t.blocks) end limit s ss stacked.2 le some room)

stacked-more : (at end limit : ℕ) (ss : List Segment) → end ≤ limit → IsStacked at end ss → IsStacked at limit ss
stacked-more at end limit [] le stacked = omega (arith, stacked, le)
stacked-more at end limit (s ∷ ss) le stacked = (stacked.0, stacked.1, stacked-more (s.first + s.blocks) end limit ss le stacked.2)

before_past : (block : ℕ) (p : Placed) → block ≤ p.first → before block (Some p) ≡ None
before_past block p le = let past : nat_lt p.first block ≡ false = grind (arith, nat_tests, le) in ap (λ b. if b then Some (extent_at p) else None) past

before_below : (block : ℕ) (p : Placed) → p.first < block → before block (Some p) ≡ Some (extent_at p)
before_below block p lt = let below : nat_lt p.first block ≡ true = grind (arith, nat_tests, lt) in ap (λ b. if b then Some (extent_at p) else None) below

module _ (first : ℕ) (places : List (Option Placed)) (owners : List (Option ℕ)) (table : IsTable first places owners) where
  -- none at first
  pub listed-none : IsListed first first places []
  listed-none = record {
    stacked = omega arith;
    distinct = tt;
    same = λ s. by s (place_of places s) refl;
    clear = λ s p h. inr ((table.owned s p h).above);
  }
    where
      by : (s : ℕ) (o : Option Placed) → place_of places s ≡ o → None ≡ before first (place_of places s)
      by s None h = sym (ap (before first) h)
      by s (Some p) h = sym (ap (before first) h ∙ before_past first p ((table.owned s p h).above))

  -- all at the end
  pub listed-all : (segs : List Segment) → IsListed first (first + length owners) places segs → (s : ℕ) → find nat_cmp s (entries_of segs) ≡ option_map extent_at (place_of places s)
  listed-all segs listed s = listed.same s ∙ by (place_of places s) refl
    where
      by : (o : Option Placed) → place_of places s ≡ o → before (first + length owners) o ≡ option_map extent_at o
      by None h = refl
      by (Some p) h =
          let own = table.owned s p h in
          let within = own.within in
          let some = own.some in
          before_below (first + length owners) p (omega (arith, within, some))

  module _ (b : ℕ) (segs : List Segment) (inside : b < length owners) (listed : IsListed first (first + b) places segs) where
    -- the block is nobody's
    pub listed-free : slice_get owners b ≡ Some None → IsListed first (first + (b + 1)) places segs
    listed-free free = record {
      stacked = stacked-more first (first + b) (first + (b + 1)) segs (omega arith) listed.stacked;
      distinct = listed.distinct;
      same = λ s. listed.same s ∙ by s (place_of places s) refl;
      clear = λ s p h. clear s p h (listed.clear s p h);
    }
      where
        not_here : (s : ℕ) (p : Placed) → place_of places s ≡ Some p → p.first ≢ first + b
        not_here s p h at = let own = table.owned s p h in let some = own.some in absurd (cc (sym free ∙ own.blocks b (omega (arith, at)) (omega (arith, at, some))))

        clear : (s : ℕ) (p : Placed) → place_of places s ≡ Some p → (p.first + p.blocks ≤ first + b) ⊎ (first + b ≤ p.first) → (p.first + p.blocks ≤ first + (b + 1)) ⊎ (first + (b + 1) ≤ p.first)
        clear s p h (inl under) = inl (omega (arith, under))
        clear s p h (inr over) = let other = not_here s p h in inr (omega (arith, over, other))

        by : (s : ℕ) (o : Option Placed) → place_of places s ≡ o → before (first + b) o ≡ before (first + (b + 1)) o
        by s None h = refl
        by s (Some p) h = elim (cases_lt p.first (first + b)) [
          | inl below ↦ before_below (first + b) p below ∙ sym (before_below (first + (b + 1)) p (omega (arith, below)))
          | inr past ↦ let other = not_here s p h in before_past (first + b) p past ∙ sym (before_past (first + (b + 1)) p (omega (arith, past, other)))
        ]

    -- it is the first of a segment
    module _ (slot : ℕ) (p : Placed) (there : place_of places slot ≡ Some p) (owner : slice_get owners b ≡ Some (Some slot)) where
      own : IsOwned first owners slot p
      own = table.owned slot p there

      starts : p.first ≡ first + b
      starts =
          let held = table.held b slot owner in
          let is : held.place ≡ p = same_Some held.place p (sym held.there ∙ there) in
          let from = held.from in
          let to = held.to in
          let first_is : held.place.first ≡ p.first = ap (λ (x : Placed). x.first) is in
          let blocks_is : held.place.blocks ≡ p.blocks = ap (λ (x : Placed). x.blocks) is in
          elim (listed.clear slot p there) [
            | inl under ↦ absurd (omega (arith, under, to, first_is, blocks_is))
            | inr over ↦ omega (arith, over, from, first_is)
          ]

      abbrev pub here : Segment
      here = record { slot = slot; first = p.first; blocks = p.blocks }

      not_listed : find nat_cmp slot (entries_of segs) ≡ None
      not_listed = listed.same slot ∙ ap (before (first + b)) there ∙ before_past (first + b) p (omega (arith, starts))

      -- no other segment begins in its blocks
      others_apart : (s : ℕ) (q : Placed) → place_of places s ≡ Some q → s ≢ slot → first + b ≤ q.first → q.first < first + b + p.blocks → ⊥
      others_apart s q h differ low high =
          let its = table.owned s q h in
          let some = its.some in
          let mine = own.blocks (q.first - first) (omega (arith, low, starts)) (omega (arith, low, high, starts)) in
          let hers = its.blocks (q.first - first) (omega (arith, low)) (omega (arith, low, some)) in
          let e : slot ≡ s = same_Some slot s (same_Some (Some slot) (Some s) (sym mine ∙ hers)) in
          differ (sym e)

      pub listed-push : IsListed first (first + (b + p.blocks)) places (segs ++ here ∷ [])
      listed-push = record {
        stacked = let some = own.some in stacked-push first (first + b) (first + (b + p.blocks)) here segs listed.stacked (omega (arith, starts)) some (omega (arith, starts));
        distinct = subst (IsDistinct nat_cmp) (sym (each_of-append (λ e. e) segs (here ∷ []))) (distinct-push nat_cmp nat_cmp-IsAntisymmetric nat_cmp_total (entries_of segs) slot (extent_of here) listed.distinct not_listed);
        same = λ s. ap (find nat_cmp s) (each_of-append (λ e. e) segs (here ∷ [])) ∙ find-push s slot (extent_of here) (entries_of segs) not_listed ∙ same s (eq_by_cmp nat_cmp s slot) refl;
        clear = λ s q h. clear s q h (same_or_not s slot) (listed.clear s q h);
      }
        where
          some : 1 ≤ p.blocks
          some = own.some

          same : (s : ℕ) (t : Bool) → eq_by_cmp nat_cmp s slot ≡ t → cond t (Some (extent_of here)) (find nat_cmp s (entries_of segs)) ≡ before (first + (b + p.blocks)) (place_of places s)
          same s true e =
              let at : place_of places s ≡ Some p = ap (place_of places) (same_number s slot e) ∙ there in
              sym (ap (before (first + (b + p.blocks))) at ∙ before_below (first + (b + p.blocks)) p (omega (arith, starts, some)))
          same s false e = listed.same s ∙ by (place_of places s) refl
            where
              differ : s ≢ slot
              differ is = absurd (cc (sym e ∙ ap (λ n. eq_by_cmp nat_cmp n slot) is ∙ number_itself slot))

              by : (o : Option Placed) → place_of places s ≡ o → before (first + b) o ≡ before (first + (b + p.blocks)) o
              by None h = refl
              by (Some q) h = elim (cases_lt q.first (first + b)) [
                | inl below ↦ before_below (first + b) q below ∙ sym (before_below (first + (b + p.blocks)) q (omega (arith, below)))
                | inr past ↦ elim (cases_lt q.first (first + b + p.blocks)) [
                  | inl under ↦ absurd (others_apart s q h differ past under)
                  | inr over ↦ before_past (first + b) q past ∙ sym (before_past (first + (b + p.blocks)) q (omega (arith, over)))
                ]
              ]

          clear : (s : ℕ) (q : Placed) → place_of places s ≡ Some q → (s ≡ slot) ⊎ (s ≢ slot) → (q.first + q.blocks ≤ first + b) ⊎ (first + b ≤ q.first) → (q.first + q.blocks ≤ first + (b + p.blocks)) ⊎ (first + (b + p.blocks) ≤ q.first)
          clear s q h (inl e) old =
              let is : p ≡ q = same_Some p q (sym there ∙ ap (place_of places) (sym e) ∙ h) in
              let first_is : p.first ≡ q.first = ap (λ (x : Placed). x.first) is in
              let blocks_is : p.blocks ≡ q.blocks = ap (λ (x : Placed). x.blocks) is in
              inl (omega (arith, starts, first_is, blocks_is))
          clear s q h (inr differ) (inl under) = inl (omega (arith, under))
          clear s q h (inr differ) (inr over) = elim (cases_lt q.first (first + b + p.blocks)) [
            | inl inside ↦ absurd (others_apart s q h differ over inside)
            | inr past ↦ inr (omega (arith, past))
          ]

    -- what the owner of the block says
    pub listed-owner : (o : Option ℕ) → slice_get owners b ≡ Some o → (r : Option Segment) → r ≡ segment_for places o →
        (r ≡ None → IsListed first (first + (b + 1)) places segs) × ((s : Segment) → r ≡ Some s → (1 ≤ s.blocks) × (b + s.blocks ≤ length owners) × IsListed first (first + (b + s.blocks)) places (segs ++ s ∷ []))
    listed-owner None owner r is = (λ none. listed-free owner, λ s e. absurd (cc (sym is ∙ e)))
    listed-owner (Some slot) owner r is =
        let held = table.held b slot owner in
        let p : Placed = held.place in
        let is_here : segment_for places (Some slot) ≡ Some (here slot p held.there owner) = ap (segment_in slot) held.there in
        let mine = table.owned slot p held.there in
        let some = mine.some in
        let within = mine.within in
        let at = starts slot p held.there owner in (
          λ none. absurd (cc (sym none ∙ is ∙ is_here)),
          λ s e.
              let one : here slot p held.there owner ≡ s = same_Some (here slot p held.there owner) s (sym (is ∙ is_here) ∙ e) in
              subst (λ s. (1 ≤ s.blocks) × (b + s.blocks ≤ length owners) × IsListed first (first + (b + s.blocks)) places (segs ++ s ∷ [])) one
              (some, omega (arith, within, at), listed-push slot p held.there owner),
        )

-- no more segments than blocks
pub few : (at limit : ℕ) (ss : List Segment) → IsStacked at limit ss → length ss + at ≤ limit
few at limit [] stacked = omega (arith, stacked)
few at limit (s ∷ ss) stacked = omega (arith, stacked.0, stacked.1, few (s.first + s.blocks) limit ss stacked.2)

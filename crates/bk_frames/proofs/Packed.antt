-- The tables of a list without a gap, segment by segment.
use Rattle.std.proofs.Common.{◌≡◌, ◌≢◌, ◌⊎◌, inl, inr, ℕ, ◌+◌, ◌<◌, ◌≤◌, cond, List, [], ◌∷◌, length, set, replicate}
use Rattle.std.proofs.Common.{Option, Some, None, refl, sym, ap, ◌∙◌, subst, arith, length-set}
use Rattle.std.specs.Prelude.{slice_get, option_map}
use Rattle.std.proofs.lemmas.List.{length-replicate}
use Rattle.std.specs.Ordering.{nat_cmp}
use Rattle.std.specs.FinMap.{find}
use Rattle.bk_base.specs.Maps.{IsDistinct}
use Rattle.bk_frames.specs.declared.segments.Segment.{Segment}
use Rattle.bk_frames.specs.declared.table.Placed.{Placed}
use Rattle.bk_frames.specs.Extents.{Extent}
use Rattle.bk_frames.specs.Segments.{IsStacked, compacted, total, entries_of, extent_of}
use Rattle.bk_frames.specs.Table.{extent_at, place_of, IsMarked}
use Rattle.bk_frames.specs.Ordered.{or_else, IsPacked, IsSettled}
use Rattle.bk_frames.proofs.Entries.{number_itself}
use Rattle.bk_frames.proofs.Stacked.{below_limit}
use Rattle.bk_frames.proofs.Tables.{same_or_not, other_number, place-same, place-other, empty_table, empty_owners, empty_places}
use Rattle.bk_frames.proofs.Owners.{parts, put-table}

pub packed-compacted : (at : ℕ) (ss : List Segment) → IsPacked at (compacted at ss)
packed-compacted at [] = tt
packed-compacted at (s ∷ ss) = (refl, packed-compacted (at + s.blocks) ss)

pub total-compacted : (at : ℕ) (ss : List Segment) → total (compacted at ss) ≡ total ss
total-compacted at [] = refl
total-compacted at (s ∷ ss) = omega (arith, total-compacted (at + s.blocks) ss)

pub stacked-tight : (at from limit : ℕ) (ss : List Segment) → IsStacked from limit ss → IsStacked at (at + total ss) (compacted at ss)
stacked-tight at from limit [] stacked = omega arith
stacked-tight at from limit (s ∷ ss) stacked =
    let more : at + s.blocks + total ss ≡ at + total (s ∷ ss) = omega arith in
    (omega arith, stacked.1, subst (λ l. IsStacked (at + s.blocks) l (compacted (at + s.blocks) ss)) more (stacked-tight (at + s.blocks) (s.first + s.blocks) limit ss stacked.2))

module _ (first n : ℕ) (places : List (Option Placed)) (owners : List (Option ℕ)) (all rest : List Segment) (s0 : Segment) (settled : IsSettled first n places owners all (s0 ∷ rest)) where
  abbrev pub next : Placed
  next = record { first = first + n; blocks = s0.blocks }

  head_found : find nat_cmp s0.slot (entries_of (s0 ∷ rest)) ≡ Some (extent_of s0)
  head_found = ap (λ b. cond b (Some (extent_of s0)) (find nat_cmp s0.slot (entries_of rest))) (number_itself s0.slot)

  pub head_within : s0.slot < length places
  head_within = (settled.later s0.slot (extent_of s0) head_found).0

  head_at : s0.first ≡ first + n
  head_at = settled.packed.0

  pub head_ends : n + s0.blocks ≤ length owners
  head_ends = omega (arith, head_at, below_limit (s0.first + s0.blocks) (first + length owners) rest settled.stacked.2)

  module _ (new : List (Option ℕ)) (marked : IsMarked owners new n s0.blocks (Some s0.slot)) where
    pub settle-next : IsSettled first (n + s0.blocks) (set places s0.slot (Some next)) new all rest
    settle-next = record {
      packed = subst (λ x. IsPacked x rest) more settled.packed.1;
      stacked = subst (λ l. IsStacked (first + (n + s0.blocks)) l rest) (ap (λ l. first + l) (sym marked.same_length)) (subst (λ x. IsStacked x (first + length owners) rest) more' settled.stacked.2);
      distinct = settled.distinct.1;
      table = put-table first places owners settled.table new s0.slot n s0.blocks head_within (settled.later s0.slot (extent_of s0) head_found).2 settled.stacked.1 (settled.later s0.slot (extent_of s0) head_found).1
          (record { within = head_ends; free = λ b low high. settled.free b low (omega (arith, high, head_ends)) }) marked;
      full = λ b below free. full b below free (parts b n s0.blocks);
      free = λ b low high. marked.outside b (inr low) ∙ settled.free b (omega (arith, low)) (omega (arith, high, long));
      same = λ s. settled.same s ∙ same s (same_or_not s s0.slot);
      later = λ s e h. later s e h (same_or_not s s0.slot);
    }
      where
        more : first + n + s0.blocks ≡ first + (n + s0.blocks)
        more = omega arith

        more' : s0.first + s0.blocks ≡ first + (n + s0.blocks)
        more' = omega (arith, head_at)

        long : length new ≡ length owners
        long = marked.same_length

        after : List (Option Placed)
        after = set places s0.slot (Some next)

        full : (b : ℕ) → b < n + s0.blocks → slice_get new b ≡ Some None → ((b < n) ⊎ (n + s0.blocks ≤ b)) ⊎ ((n ≤ b) × (b < n + s0.blocks)) → ⊥
        full b below free (inr inside) = cc (sym (marked.inside b inside.0 inside.1) ∙ free)
        full b below free (inl (inr past)) = absurd (omega (arith, past, below))
        full b below free (inl (inl under)) = settled.full b under (sym (marked.outside b (inl under)) ∙ free)

        not_here : (s : ℕ) → s ≢ s0.slot → find nat_cmp s (entries_of (s0 ∷ rest)) ≡ find nat_cmp s (entries_of rest)
        not_here s differ = ap (λ b. cond b (Some (extent_of s0)) (find nat_cmp s (entries_of rest))) (other_number s s0.slot differ)

        same : (s : ℕ) → (s ≡ s0.slot) ⊎ (s ≢ s0.slot) → or_else (option_map extent_at (place_of places s)) (find nat_cmp s (entries_of (s0 ∷ rest))) ≡ or_else (option_map extent_at (place_of after s)) (find nat_cmp s (entries_of rest))
        same s (inr differ) = (λ i. or_else (option_map extent_at (sym (place-other places s0.slot (Some next) s differ) i)) (not_here s differ i))
        same s (inl e) =
            let none : place_of places s ≡ None = ap (place_of places) e ∙ (settled.later s0.slot (extent_of s0) head_found).2 in
            let there : place_of after s ≡ Some next = ap (place_of after) e ∙ place-same places s0.slot (Some next) head_within in
            let found : find nat_cmp s (entries_of (s0 ∷ rest)) ≡ Some (extent_of s0) = ap (λ k. find nat_cmp k (entries_of (s0 ∷ rest))) e ∙ head_found in
            (λ i. or_else (option_map extent_at (none i)) (found i)) ∙ (λ i. Some (record { first = head_at i; blocks = s0.blocks })) ∙ sym (ap (λ o. or_else (option_map extent_at o) (find nat_cmp s (entries_of rest))) there)

        later : (s : ℕ) (e : Extent) → find nat_cmp s (entries_of rest) ≡ Some e → (s ≡ s0.slot) ⊎ (s ≢ s0.slot) → (s < length after) × (e.blocks ≤ 128) × (place_of after s ≡ None)
        later s e h (inl is) = absurd (cc (sym settled.distinct.0 ∙ ap (λ k. find nat_cmp k (entries_of rest)) (sym is) ∙ h))
        later s e h (inr differ) =
            let old = settled.later s e (not_here s differ ∙ h) in
            let same_length = length-set places s0.slot (Some next) in
            let within = old.0 in
            (omega (arith, within, same_length), old.1, place-other places s0.slot (Some next) s differ ∙ old.2)

-- no segment stands yet
pub settle-begun : (first slots : ℕ) (owners : List (Option ℕ)) (all : List Segment) → IsPacked first all → IsStacked first (first + length owners) all → IsDistinct nat_cmp (entries_of all) →
    ((s : ℕ) (e : Extent) → find nat_cmp s (entries_of all) ≡ Some e → (s < slots) × (e.blocks ≤ 128)) → IsSettled first 0 (replicate slots None) (replicate (length owners) None) all all
settle-begun first slots owners all packed stacked distinct known = record {
  packed = subst (λ x. IsPacked x all) none packed;
  stacked = stacked_at;
  distinct = distinct;
  table = empty_table first slots (length owners);
  full = λ b below free. absurd (omega (arith, below));
  free = λ b low high. empty_owners (length owners) b (omega (arith, high, long));
  same = λ s. ap (λ o. or_else (option_map extent_at o) (find nat_cmp s (entries_of all))) (sym (empty_places slots s));
  later = λ s e h. let (lt, small) = known s e h in let places = length-replicate {A = Option Placed} slots None in (omega (arith, lt, places), small, empty_places slots s);
}
  where
    none : first ≡ first + 0
    none = omega arith

    long : length (replicate {A = Option ℕ} (length owners) None) ≡ length owners
    long = length-replicate (length owners) None

    stacked_at : IsStacked (first + 0) (first + length (replicate {A = Option ℕ} (length owners) None)) all
    stacked_at = subst (λ x. IsStacked x (first + length (replicate {A = Option ℕ} (length owners) None)) all) none (subst (λ l. IsStacked first (first + l) all) (sym long) stacked)

-- One step down the list of segments.
use Rattle.std.proofs.Common.{◌≡◌, ℕ, ◌+◌, ◌*◌, ◌<◌, ◌≤◌, List, [], ◌∷◌, ◌++◌, length, take, drop, slice_index_or, slice_set, sym, ap, subst, ◌∙◌, arith}
use lib.Seq.{paste}
use Rattle.std.proofs.lemmas.List.{drop_more, drop-set, take_more_set, append_assoc, drop-drop}
use Rattle.bk_frames.specs.declared.segments.Segment.{Segment}
use Rattle.bk_frames.specs.Segments.{IsStacked, compacted, total, words_after, moved_to}

-- a segment for a place that no list has
abbrev pub nothing : Segment
nothing = record { slot = 0; first = 0; blocks = 0 }

-- segments stacked from a block are stacked from any lower one, and that block is below the last
pub lower : (low at limit : ℕ) (ss : List Segment) → low ≤ at → IsStacked at limit ss → IsStacked low limit ss
lower low at limit [] le stacked = omega (arith, le, stacked)
lower low at limit (s ∷ ss) le stacked = (omega (arith, le, stacked.0), stacked.1, stacked.2)

pub below_limit : (at limit : ℕ) (ss : List Segment) → IsStacked at limit ss → at ≤ limit
below_limit at limit [] stacked = stacked
below_limit at limit (s ∷ ss) stacked = omega (arith, stacked.0, stacked.1, below_limit (s.first + s.blocks) limit ss stacked.2)

-- stacked segments fit between the blocks
pub total_room : (at limit : ℕ) (ss : List Segment) → IsStacked at limit ss → at + total ss ≤ limit
total_room at limit [] stacked = omega (arith, stacked)
total_room at limit (s ∷ ss) stacked = omega (arith, stacked.0, total_room (s.first + s.blocks) limit ss stacked.2)

-- the segment at a place of a list has moved: what is left, and what is done followed by what is left
module _ (segs : List Segment) (i at : ℕ) (inside : i < length segs) where
  abbrev here : Segment
  here = slice_index_or segs i nothing

  pub rest : drop i segs ≡ here ∷ drop (i + 1) segs
  rest = drop_more segs i nothing inside

  pub rest-set : (y : Segment) → drop (i + 1) (slice_set segs i y) ≡ drop (i + 1) segs
  rest-set y = sym (drop-drop 1 i (slice_set segs i y)) ∙ ap (drop 1) (drop-set segs i y inside)

  pub at_here : (limit : ℕ) → IsStacked at limit (drop i segs) → IsStacked at limit (here ∷ drop (i + 1) segs)
  at_here limit stacked = subst (IsStacked at limit) rest stacked

  pub step-stacked : (limit : ℕ) → IsStacked at limit (drop i segs) → IsStacked (at + here.blocks) limit (drop (i + 1) (slice_set segs i (moved_to at here)))
  step-stacked limit stacked =
      let now = at_here limit stacked in
      subst (IsStacked (at + here.blocks) limit) (sym (rest-set (moved_to at here)))
      (lower (at + here.blocks) (here.first + here.blocks) limit (drop (i + 1) segs) (omega (arith, now.0)) now.2)

  pub step-segments : (all : List Segment) → take i segs ++ compacted at (drop i segs) ≡ all →
      take (i + 1) (slice_set segs i (moved_to at here)) ++ compacted (at + here.blocks) (drop (i + 1) (slice_set segs i (moved_to at here))) ≡ all
  step-segments all was =
      (λ k. take_more_set segs i (moved_to at here) inside k ++ compacted (at + here.blocks) (rest-set (moved_to at here) k))
      ∙ append_assoc (take i segs) (moved_to at here ∷ []) (compacted (at + here.blocks) (drop (i + 1) segs))
      ∙ ap (λ ss. take i segs ++ compacted at ss) (sym rest) ∙ was

  pub step-words : (words all : List ℕ) → words_after at (drop i segs) words ≡ all →
      words_after (at + here.blocks) (drop (i + 1) (slice_set segs i (moved_to at here))) (paste words (32 * at) (drop (32 * here.first) words) (32 * here.blocks)) ≡ all
  step-words words all was =
      ap (λ ss. words_after (at + here.blocks) ss (paste words (32 * at) (drop (32 * here.first) words) (32 * here.blocks))) (rest-set (moved_to at here))
      ∙ ap (λ ss. words_after at ss words) (sym rest) ∙ was

  pub step-end : (all : ℕ) → at + total (drop i segs) ≡ all → at + here.blocks + total (drop (i + 1) (slice_set segs i (moved_to at here))) ≡ all
  step-end all was =
      let less = ap total rest in
      let same = ap total (rest-set (moved_to at here)) in
      omega (arith, was, less, same)

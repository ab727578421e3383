-- Segments that have moved down have the same words.
use Rattle.std.proofs.Common.{◌≡◌, ℕ, ◌+◌, ◌-◌, ◌*◌, ◌≤◌, List, [], ◌∷◌, map, length, take, drop, refl, sym, ap, ◌∙◌, arith}
use lib.Seq.{paste}
use Rattle.std.proofs.lemmas.List.{length-drop, take-take}
use Rattle.std.proofs.lemmas.List.Edits.{length-paste}
use Rattle.bk_core.proofs.Blocks.{piece, piece-of-take, piece-of-drop, piece-at, take-below, drop-above}
use Rattle.bk_frames.specs.declared.segments.Segment.{Segment}
use Rattle.bk_frames.specs.Extents.{words_at}
use Rattle.bk_frames.specs.Segments.{IsStacked, compacted, words_after, extent_of}
use Rattle.bk_frames.proofs.Stacked.{below_limit}

-- the slot of a segment and its words
abbrev pub slot_words : List ℕ → Segment → ℕ × List ℕ
slot_words words s = (s.slot, words_at words (extent_of s))

-- segments that stand from a block on have the same words where all words from there on are the same
pub same-above : (v w : List ℕ) (from at limit : ℕ) (ss : List Segment) → from ≤ at → IsStacked at limit ss → drop (32 * from) v ≡ drop (32 * from) w → map (slot_words v) ss ≡ map (slot_words w) ss
same-above v w from at limit [] le stacked same = refl
same-above v w from at limit (s ∷ ss) le stacked same = λ i. (s.slot, here i) ∷ same-above v w from (s.first + s.blocks) limit ss (omega (arith, le, stacked.0)) stacked.2 same i
  where
    here : words_at v (extent_of s) ≡ words_at w (extent_of s)
    here = sym (piece-of-drop v (32 * s.first) (32 * s.blocks) (32 * from) (omega (arith, le, stacked.0)))
        ∙ ap (λ xs. piece xs (32 * s.first - 32 * from) (32 * s.blocks)) same
        ∙ piece-of-drop w (32 * s.first) (32 * s.blocks) (32 * from) (omega (arith, le, stacked.0))

pub record Kept (at limit : ℕ) (ss : List Segment) (words : List ℕ) : Type 0 where
  pub words_kept : map (slot_words (words_after at ss words)) (compacted at ss) ≡ map (slot_words words) ss
  pub below : take (32 * at) (words_after at ss words) ≡ take (32 * at) words
  pub above : drop (32 * limit) (words_after at ss words) ≡ drop (32 * limit) words
  pub same_length : length (words_after at ss words) ≡ length words

pub kept : (at limit : ℕ) (ss : List Segment) (words : List ℕ) → IsStacked at limit ss → 32 * limit ≤ length words → Kept at limit ss words
kept at limit [] words stacked long = record { words_kept = refl; below = refl; above = refl; same_length = refl }
kept at limit (s ∷ ss) words stacked long = after (kept (at + s.blocks) limit ss once (low ss stacked.2) (omega (arith, long, len)))
  where
    once : List ℕ
    once = paste words (32 * at) (drop (32 * s.first) words) (32 * s.blocks)

    top : s.first + s.blocks ≤ limit
    top = below_limit (s.first + s.blocks) limit ss stacked.2

    in_d : 32 * at ≤ length words
    in_d = omega (arith, top, long, stacked.0)

    in_s : 32 * s.blocks ≤ length (drop (32 * s.first) words)
    in_s = omega (arith, top, long, length-drop (32 * s.first) words)

    len : length once ≡ length words
    len = length-paste words (32 * at) (drop (32 * s.first) words) (32 * s.blocks) (omega (arith, top, long, stacked.0)) in_s

    low : (ss : List Segment) → IsStacked (s.first + s.blocks) limit ss → IsStacked (at + s.blocks) limit ss
    low [] st = omega (arith, st, stacked.0)
    low (t ∷ ts) st = (omega (arith, st.0, stacked.0), st.1, st.2)

    after : Kept (at + s.blocks) limit ss once → Kept at limit (s ∷ ss) words
    after rest = record {
      words_kept = λ i. (s.slot, here i) ∷ (rest.words_kept ∙ others) i;
      below = below;
      above = rest.above ∙ drop-above words (32 * at) (drop (32 * s.first) words) (32 * s.blocks) (32 * limit) (omega (arith, top, stacked.0)) in_d in_s;
      same_length = rest.same_length ∙ len;
    }
      where
        end : List ℕ
        end = words_after (at + s.blocks) ss once

        here : piece end (32 * at) (32 * s.blocks) ≡ piece words (32 * s.first) (32 * s.blocks)
        here = sym (piece-of-take end (32 * at) (32 * s.blocks) (32 * (at + s.blocks)) (omega arith))
            ∙ ap (λ xs. piece xs (32 * at) (32 * s.blocks)) rest.below
            ∙ piece-of-take once (32 * at) (32 * s.blocks) (32 * (at + s.blocks)) (omega arith)
            ∙ piece-at words (32 * at) (drop (32 * s.first) words) (32 * s.blocks) in_d in_s

        others : map (slot_words once) ss ≡ map (slot_words words) ss
        others = same-above once words (s.first + s.blocks) (s.first + s.blocks) limit ss (omega arith) stacked.2
            (drop-above words (32 * at) (drop (32 * s.first) words) (32 * s.blocks) (32 * (s.first + s.blocks)) (omega (arith, stacked.0)) in_d in_s)

        below : take (32 * at) end ≡ take (32 * at) words
        below = sym (take-take (32 * at) (32 * (at + s.blocks)) end (omega arith))
            ∙ ap (take (32 * at)) rest.below
            ∙ take-take (32 * at) (32 * (at + s.blocks)) once (omega arith)
            ∙ take-below words (32 * at) (drop (32 * s.first) words) (32 * s.blocks) (32 * at) (omega arith) in_d

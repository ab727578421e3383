use Rattle.std.proofs.Common.{◌≡◌, ◌≢◌, ◌⊎◌, inl, inr, ℕ, ◌+◌, ◌<◌, ◌≤◌, Some, length, set, length-set, ap, ◌∙◌, arith}
use Rattle.std.specs.Prelude.{slice_get}
use Rattle.bk_frames.proofs.Tables.{same_or_not, set-same, set-other}
use Rattle.bk_frames.proofs.table.mark.Goals as goal

pub loop-block-preserved : goal.loop-block-preserved
loop-block-preserved c = record {
  same_length = ap length c.set_owner.ensures ∙ length-set c.loop-block.owners.items c.loop-block.block c.args.owner ∙ c.loop-block.invariant.same_length;
  inside = λ b low high. inside b low high (same_or_not b c.loop-block.block);
  outside = λ b out. ap (λ xs. slice_get xs b) c.set_owner.ensures ∙ set-other c.loop-block.owners.items c.loop-block.block b c.args.owner (differs b out) ∙ c.loop-block.invariant.outside b (less b out);
}
  where
    inside : (b : ℕ) → c.args.first ≤ b → b < c.loop-block.block + 1 → (b ≡ c.loop-block.block) ⊎ (b ≢ c.loop-block.block) → slice_get c.set_owner.new.owners.items b ≡ Some c.args.owner
    inside b low high (inl e) =
        ap (λ xs. slice_get xs b) c.set_owner.ensures ∙ ap (slice_get (set c.loop-block.owners.items c.loop-block.block c.args.owner)) e
        ∙ set-same c.loop-block.owners.items c.loop-block.block c.args.owner (let long = c.loop-block.invariant.same_length in omega arith)
    inside b low high (inr differ) =
        ap (λ xs. slice_get xs b) c.set_owner.ensures ∙ set-other c.loop-block.owners.items c.loop-block.block b c.args.owner differ ∙ c.loop-block.invariant.inside b low (omega (arith, high, differ))

    differs : (b : ℕ) → (b < c.args.first) ⊎ (c.loop-block.block + 1 ≤ b) → b ≢ c.loop-block.block
    differs b (inl under) e = absurd (omega (arith, under, e))
    differs b (inr over) e = absurd (omega (arith, over, e))

    less : (b : ℕ) → (b < c.args.first) ⊎ (c.loop-block.block + 1 ≤ b) → (b < c.args.first) ⊎ (c.loop-block.block ≤ b)
    less b (inl under) = inl under
    less b (inr over) = inr (omega (arith, over))

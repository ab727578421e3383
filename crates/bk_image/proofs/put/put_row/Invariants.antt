use Rattle.std.proofs.Common.{◌≡◌, ◌++◌, ℕ, ◌<◌, ◌*◌, length, take}
use Rattle.bk_object.specs.Pairs.{joined_pairs}
use Rattle.bk_object.specs.Rows.{in_row}
use Rattle.bk_image.proofs.put.put_row.Given as goal

abbrev pub invariant-loop-place : goal.invariant-loop-place
invariant-loop-place l = record {
  text : l.out.items ≡ l.fn.out.items ++ joined_pairs (take (2 * l.place) l.row);
  fits : (subject : ℕ) → subject < 2 * l.place → (in_row l.row subject).0 < 16;
  sets : 0 < l.place → length l.row ≡ 64;
}

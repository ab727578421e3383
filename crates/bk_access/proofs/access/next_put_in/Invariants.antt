use Rattle.std.proofs.Common.{◌≡◌, ◌≤◌, ◌<◌, ◌-◌, ℕ, [], false}
use Rattle.std.specs.Prelude.{slice_index_or}
use Rattle.bk_object.specs.Rows.{in_row}
use Rattle.bk_access.specs.Held.{puts}
use Rattle.bk_access.proofs.access.next_put_in.Given as goal

-- the subject has neither write nor append at the places so far
abbrev pub invariant-loop-at : goal.invariant-loop-at
invariant-loop-at l = record {
  within : l.from ≤ l.at;
  first : (k : ℕ) → l.from ≤ k → k < l.at → puts (in_row (slice_index_or l.rows.items k []) l.subject) ≡ false;
}

abbrev pub decreases-loop-at : goal.decreases-loop-at
decreases-loop-at l = l.to - l.at

-- The lines of the fixed part and the subjects under a level decide which items the level sees, and so does what it sees of the
-- state.
use Rattle.std.proofs.Common.{◌≡◌, ℕ, List, refl, ap}
use Rattle.std.specs.Prelude.{filter}
use Rattle.bk_level.specs.Levels.{Level}
use Rattle.bk_report.specs.declared.ReportItem.{ReportItem}
use Rattle.bk_report.specs.declared.ReportItem.TheVariants as items
use Rattle.bk_state.specs.State.{State}
use Rattle.bk_state.specs.Low.{is_subject_under, low}
use Rattle.bk_laws.specs.Seen.{is_seen_item, seen_items}
use Rattle.bk_laws.proofs.Alike.{fixed_to, subject-low}

module _ (level : Level) (v w : State) (same : v.fixed ≡ w.fixed) (subjects : (s : ℕ) → is_subject_under level v s ≡ is_subject_under level w s) where
  item_by : (item : ReportItem) → is_seen_item level v item ≡ is_seen_item level w item
  item_by (items.Call slot turn s number general answer cause) = subjects s
  item_by (items.Fault slot turn s cause pc entered) = subjects s
  item_by (items.Byte slot turn line byte) = ap (λ f. is_seen_item level (fixed_to f v) (items.Byte slot turn line byte)) same
  item_by (items.End slots turns references calls) = refl

  -- so the same of a list
  pub items_by : (told : List ReportItem) → seen_items level v told ≡ seen_items level w told
  items_by told = λ i. filter (λ item. item_by item i) told

-- so states in which the same lies under the level agree
pub items_by_low : (level : Level) (v w : State) → low level v ≡ low level w → (told : List ReportItem) → seen_items level v told ≡ seen_items level w told
unfolding low
items_by_low level v w same told = items_by level v w (ap (λ view. view.fixed) same) (subject-low level v w same) told

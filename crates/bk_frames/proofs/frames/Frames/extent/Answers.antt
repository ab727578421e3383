use Rattle.std.proofs.Common.{◌≡◌, ◌∙◌, sym, ap, subst, Option, ℕ, List}
use Rattle.std.specs.Prelude.{option_map}
use Rattle.std.specs.FinMap.{get}
use Rattle.bk_frames.specs.declared.table.Placed.{Placed}
use Rattle.bk_frames.specs.Extents.{Extent, Standing, IsApart}
use Rattle.bk_frames.specs.Table.{extent_at, extents_in, place_of}
use Rattle.bk_frames.proofs.Tables.{get-extents}
use Rattle.bk_frames.proofs.Settled.{table_apart}
use Rattle.bk_frames.proofs.frames.Frames.extent.Goals as goal

abbrev shown : Option Extent → Option (ℕ × ℕ)
shown o = option_map (λ e. (e.first, e.blocks)) o

-- what stands at the slot's place is what the value has
told : (places : List (Option Placed)) (v : Standing) (slot : ℕ) → extents_in places ≡ v.extents → shown (option_map extent_at (place_of places slot)) ≡ shown (get v.extents slot)
told places v slot view = ap shown (sym (get-extents places slot) ∙ ap (λ m. get m slot) view)

pub returns-in_err-place-clause-extent : goal.returns-in_err-place-clause-extent
returns-in_err-place-clause-extent c = c.from_residual.ensures ∙ ap (λ o. shown (option_map extent_at o)) (sym c.in_err-place.was ∙ c.place_for.ensures) ∙ told c.self.inside.places.items c.args.self.now c.args.slot.n (ap (λ (v : Standing). v.extents) c.self.view_is)

pub returns-in_err-place-clause-apart : goal.returns-in_err-place-clause-apart
returns-in_err-place-clause-apart c = subst IsApart c.self.view_is (table_apart _ _ _ _ _ c.self.invariant.table c.self.invariant.whole)

pub returns-clause-extent : goal.returns-clause-extent
returns-clause-extent c = ap (λ o. shown (option_map extent_at o)) c.in_ok-place.ensures ∙ told c.self.inside.places.items c.args.self.now c.args.slot.n (ap (λ (v : Standing). v.extents) c.self.view_is)

pub returns-clause-apart : goal.returns-clause-apart
returns-clause-apart c = subst IsApart c.self.view_is (table_apart _ _ _ _ _ c.self.invariant.table c.self.invariant.whole)

-- The pages as they are set, one after another.
use Rattle.std.proofs.Common.{◌≡◌, ℕ, zero, suc, ◌+◌, ◌<◌, ◌≤◌, List, length, replicate, slice_set, Option, Some, None, refl, sym, ap, ◌∙◌, arith}
use Rattle.std.specs.Prelude.{option_map}
use Rattle.std.proofs.lemmas.List.{get_or-set_other}
use Rattle.std.proofs.lemmas.List.Edits.{fill_by_more}
use Rattle.std.proofs.lemmas.Option.{same_Some}
use Rattle.bk_space.specs.declared.reference.Rights.{Rights}
use Rattle.bk_object.specs.declared.modes.Modes.{Modes}
use Rattle.bk_object.specs.Modes.{Read, Execute, Write, has}
use Rattle.bk_object.proofs.ModeLemmas.{has-modes_where}
use Rattle.bk_path.specs.Paths.{Path}
use Rattle.bk_frames.specs.Extents.{Extent}
use Rattle.bk_store.specs.Stored.{Stored, extent_in, holds, modes_held}
use Rattle.bk_system.specs.Space.{is_data, rights_by}
use Rattle.bk_mmu.specs.ActivePages.{ActivePage, active_page, loaded, non_resident}
use Rattle.bk_pages.specs.Pages.{page_over, rights_held}

-- what the store answers of an extent that is held by these modes
abbrev pub answer_of : Modes → Extent → ℕ × ℕ × Modes
answer_of held e = (e.first, e.blocks, held)

-- an extent and the modes by the answer
record IsTold (o : Option Extent) (held : Modes) (first blocks : ℕ) (modes : Modes) : Type 0 where
  extent : o ≡ Some (record { first = first; blocks = blocks })
  same : modes ≡ held

told : (o : Option Extent) (held modes : Modes) (first blocks : ℕ) → option_map (answer_of held) o ≡ Some (first, blocks, modes) → IsTold o held first blocks modes
told None held modes first blocks h = cc
told (Some e) held modes first blocks h =
    let same = same_Some (e.first, e.blocks, held) (first, blocks, modes) h in
    record { extent = ap (λ (t : ℕ × ℕ × Modes). Some (record { first = t.0; blocks = t.1 })) same; same = ap (λ (t : ℕ × ℕ × Modes). t.2) (sym same) }

-- the rights by the modes that are held
held-rights : (store : Stored) (s window : ℕ) (path : Path) (modes : Modes) → modes ≡ modes_held store s path → rights_by (is_data window) (has modes Read) (has modes Execute) (has modes Write) ≡ rights_held store s window path
held-rights store s window path modes is =
    ap (λ m. rights_by (is_data window) (has m Read) (has m Execute) (has m Write)) is
    ∙ (λ i. rights_by (is_data window) (has-modes_where (holds store s path) Read i) (has-modes_where (holds store s path) Execute i) (has-modes_where (holds store s path) Write i))

-- the page over the extent that the store answers, with the rights by the modes that it answers
pub page-set : (store : Stored) (s window : ℕ) (path : Path) (first blocks : ℕ) (modes : Modes) (r : Rights) → option_map (answer_of (modes_held store s path)) (extent_in store path) ≡ Some (first, blocks, modes) →
    r ≡ rights_by (is_data window) (has modes Read) (has modes Execute) (has modes Write) → loaded first blocks r ≡ page_over (extent_in store path) (rights_held store s window path)
page-set store s window path first blocks modes r answer rights_are =
    let is = told (extent_in store path) (modes_held store s path) modes first blocks answer in
    λ i. page_over (sym is.extent i) ((rights_are ∙ held-rights store s window path modes is.same) i)

-- no page is there
pub none-there : (count n : ℕ) → active_page (replicate count non_resident) n ≡ non_resident
none-there zero n = refl
none-there (suc count) zero = refl
none-there (suc count) (suc n) = none-there count n

-- the pages below a number are set, once that one is too
pub still-set : (registers : List ActivePage) (window : ℕ) (page : ActivePage) (shows : ℕ → ActivePage) → window < length registers → page ≡ shows window →
    ((n : ℕ) → n < window → active_page registers n ≡ shows n) → (n : ℕ) → n < window + 1 → active_page (slice_set registers window page) n ≡ shows n
still-set registers window page shows inside is below n lt = ap (λ p. active_page (slice_set registers window p) n) is ∙ fill_by_more shows registers window non_resident inside below n lt

-- those above it are as before
pub still-clear : (registers : List ActivePage) (window n : ℕ) (page : ActivePage) → window + 1 ≤ n → active_page (slice_set registers window page) n ≡ active_page registers n
still-clear registers window n page above = get_or-set_other registers window n page non_resident (λ same. omega (arith, above, same))

-- A machine in which a process is loaded, while the tables beside it change.
use Rattle.std.proofs.Common.{◌≡◌, ◌<◌, ◌≤◌, ℕ, zero, suc, List, [], ◌∷◌, ◌++◌, take, map, length, get_or, Option, Some, None, refl, sym, ap, subst, ◌∙◌, arith}
use Rattle.std.specs.Prelude.{option_map, slice_get, slice_set}
use Rattle.std.specs.List.{range_with_len}
use Rattle.std.proofs.lemmas.List.{length-map}
use Rattle.std.proofs.lemmas.List.Elements.{All-set}
use Rattle.std.proofs.lemmas.Option.{same_Some, slice_get-map, slice_get_within}
use Rattle.std.specs.FinMap as finite
use Rattle.bk_base.proofs.MapValues.{get-map_values}
use Rattle.bk_object.specs.Rows.{most_subjects}
use Rattle.bk_path.specs.Paths.{Path, path_cmp}
use Rattle.bk_machine.specs.Machine.{MachineState}
use Rattle.bk_process.specs.declared.process.Process.{Process}
use Rattle.bk_state.specs.declared.clearance.Clearance.{Clearance}
use Rattle.bk_state.specs.State.{State, process_of}
use Rattle.bk_store.specs.Stored.{Entry, Stored, extent_at, extent_in, typing, with_typed}
use Rattle.bk_load.specs.Kept.{IsKept, IsKnown}
use Rattle.bk_pages.specs.Pages.{page_for, page_over, pages_for, rights_held}
use Rattle.bk_pages.specs.StandsFor.{IsLoaded}
use Rattle.bk_system.specs.Event.{with_resumed}
use Rattle.bk_machine.specs.Vectors.{HasVectors}
use Rattle.bk_kernel.specs.Tables.{HasLoaded, RanNothing}
use Rattle.bk_kernel.proofs.Kept.{found-process}
use Rattle.bk_kernel.proofs.Placed.{set-length, set-there}

-- ---- what the pages are made of

page-alike : (store new : Stored) (subject window : ℕ) → ((path : Path) → extent_in new path ≡ extent_in store path) → new.access ≡ store.access →
    (o : Option (Option Path)) → page_for store subject window o ≡ page_for new subject window o
page-alike store new subject window extents access None = refl
page-alike store new subject window extents access (Some None) = refl
page-alike store new subject window extents access (Some (Some path)) = λ i.
    page_over (sym (extents path) i) (rights_held (record store { access = sym access i }) subject window path)

-- the pages of a subject are the same where each segment stands where it stood, and the same is held
pub pages-alike : (store new : Stored) (subject : ℕ) (windows : List (Option Path)) → ((path : Path) → extent_in new path ≡ extent_in store path) → new.access ≡ store.access →
    pages_for store subject windows ≡ pages_for new subject windows
unfolding pages_for
pages-alike store new subject windows extents access = λ i. map (λ window. page-alike store new subject window extents access (slice_get windows window) i) (range_with_len 0 32)

-- ---- a byte arrives

typing-extent : (line byte : ℕ) (o : Option Entry) → extent_at (option_map (typing line byte) o) ≡ extent_at o
typing-extent line byte None = refl
typing-extent line byte (Some e) = refl

typed-extent : (store : Stored) (line byte : ℕ) (path : Path) → extent_in (with_typed line byte store) path ≡ extent_in store path
typed-extent store line byte path = ap extent_at (get-map_values path_cmp (typing line byte) store.objects path) ∙ typing-extent line byte (finite.get store.objects path)

-- the process is still loaded
pub typed-loaded : (processes : List Process) (store new_store : Stored) (machine : MachineState) (loaded line byte : ℕ) → HasLoaded processes store machine loaded → new_store ≡ with_typed line byte store → HasLoaded processes new_store machine loaded
typed-loaded processes store new_store machine loaded line byte has becomes = record {
  there = has.there;
  is = λ p at. let old = has.is p at in record {
    registers = old.registers;
    outside = old.outside;
    vectors = old.vectors;
    pages = old.pages ∙ pages-alike store (with_typed line byte store) loaded p.windows (typed-extent store line byte) refl ∙ ap (λ (s : Stored). pages_for s loaded p.windows) (sym becomes);
  };
}

-- ---- a slot ends

resumed-loaded : (store : Stored) (machine : MachineState) (loaded : ℕ) (o : Option Process) (p : Process) → ((q : Process) → o ≡ Some q → IsLoaded machine store loaded q) → option_map with_resumed o ≡ Some p → IsLoaded machine store loaded p
resumed-loaded store machine loaded None p has is = cc
resumed-loaded store machine loaded (Some q) p has is =
    let old = has q refl in
    subst (λ x. IsLoaded machine store loaded x) (same_Some (with_resumed q) p is) (record {
      registers = old.registers;
      outside = old.outside;
      vectors = old.vectors;
      pages = old.pages;
    })

pub resumed-all : (processes now : List Process) (store : Stored) (machine : MachineState) (loaded : ℕ) → HasLoaded processes store machine loaded → now ≡ map with_resumed processes → HasLoaded now store machine loaded
resumed-all processes now store machine loaded has becomes = subst (λ (ps : List Process). HasLoaded ps store machine loaded) (sym becomes) (record {
  there = subst (λ n. loaded < n) (sym (length-map processes with_resumed)) has.there;
  is = λ p at. resumed-loaded store machine loaded (slice_get processes loaded) p has.is (sym (slice_get-map with_resumed processes loaded) ∙ at);
})

-- the items of a list that is put over another of its length
pub all-items : {X : Type 0} (ys zs : List X) (n : ℕ) → n ≡ length ys → take n (ys ++ zs) ≡ ys
all-items [] zs zero is = refl
all-items [] zs (suc n) is = absurd (omega (arith, is))
all-items (y ∷ ys) zs zero is = absurd (omega (arith, is))
all-items (y ∷ ys) zs (suc n) is = ap (λ xs. y ∷ xs) (all-items ys zs n (omega (arith, is)))

-- ---- a process is loaded

-- the item that is read at a place stands there
pub item-there : {X : Type 0} (xs : List X) (n : ℕ) (x : X) → n < length xs → x ≡ get_or xs n x → slice_get xs n ≡ Some x
item-there [] n x within is = absurd (omega (arith, within))
item-there (y ∷ xs) zero x within is = ap Some (sym is)
item-there (y ∷ xs) (suc n) x within is = item-there xs n x (omega (arith, within)) is

-- the process that stands in the subject's place is loaded
pub has-loaded : (processes : List Process) (store : Stored) (machine : MachineState) (s : ℕ) (q : Process) → slice_get processes s ≡ Some q → IsLoaded machine store s q → HasLoaded processes store machine s
has-loaded processes store machine s q at loaded = record {
  there = slice_get_within processes s q at;
  is = λ p there. subst (λ x. IsLoaded machine store s x) (same_Some q p (sym at ∙ there)) loaded;
}

-- the tables still fit together once a process is put in its place
pub kept-set : {clearances : List Clearance} {lines levels places : ℕ} (processes : List Process) (s : ℕ) (q : Process) → IsKept clearances lines (length processes) levels places → IsKept clearances lines (length (slice_set processes s q)) levels places
kept-set {clearances} {lines} {levels} {places} processes s q kept = subst (λ n. IsKept clearances lines n levels places) (sym (set-length processes s q)) kept

-- and once a subject's levels are others that are known
pub kept-levels : {lines processes levels places : ℕ} (clearances : List Clearance) (s : ℕ) (c : Clearance) → IsKept clearances lines processes levels places → IsKnown levels c → IsKept (slice_set clearances s c) lines processes levels places
kept-levels {lines} {processes} {levels} {places} clearances s c kept known = record {
  few = subst (λ n. n ≤ most_subjects) (sym (set-length clearances s c)) kept.few;
  processes_are = kept.processes_are ∙ sym (set-length clearances s c);
  known = All-set (IsKnown levels) clearances s c known kept.known;
  lines_are = kept.lines_are;
}

-- so is one that is put there
pub has-set : (processes : List Process) (store : Stored) (machine : MachineState) (s : ℕ) (q : Process) → s < length processes → IsLoaded machine store s q → HasLoaded (slice_set processes s q) store machine s
has-set processes store machine s q within loaded = has-loaded (slice_set processes s q) store machine s q (set-there processes s q within) loaded

-- the process of the loaded subject
pub loaded-there : (processes : List Process) (store : Stored) (machine : MachineState) (s : ℕ) → HasLoaded processes store machine s → (p : Process) × (slice_get processes s ≡ Some p) × IsLoaded machine store s p
loaded-there processes store machine s has = by processes s has.there has.is
  where
    by : (ps : List Process) (n : ℕ) → n < length ps → ((p : Process) → slice_get ps n ≡ Some p → IsLoaded machine store s p) → (p : Process) × (slice_get ps n ≡ Some p) × IsLoaded machine store s p
    by [] n within is = absurd (omega (arith, within))
    by (p ∷ ps) zero within is = (p, refl, is p refl)
    by (p ∷ ps) (suc n) within is = by ps n (omega (arith, within)) is

-- the process of the tables is that of the state
pub found-loaded : (processes : List Process) (v : State) (s loaded : ℕ) (p q : Process) → processes ≡ v.processes → s ≡ loaded → process_of v loaded ≡ Some p → q ≡ get_or processes s q → q ≡ p
found-loaded processes v s loaded p q same is there found = found-process processes v s p q same (ap (process_of v) is ∙ there) found

-- registers and pages are set, outside kernel mode, and with the vectors in core
pub set-loaded : (old middle new : MachineState) (store : Stored) (s : ℕ) (p : Process) → middle ≡ record old { process = p.registers } → new ≡ record middle { pages = new.pages } → new.pages.registers ≡ pages_for store s p.windows →
    old.kernel ≡ None → HasVectors old.core.words → IsLoaded new store s p
set-loaded old middle new store s p registers rest pages outside vectors =
    let same : new ≡ record old { process = p.registers; pages = new.pages } = rest ∙ ap (λ (m : MachineState). record m { pages = new.pages }) registers in
    record {
      registers = ap (λ (m : MachineState). m.process) same;
      outside = ap (λ (m : MachineState). m.kernel) same ∙ outside;
      vectors = subst (λ (m : MachineState). HasVectors m.core.words) (sym same) vectors;
      pages = pages;
    }

-- no instruction has run by that, and no word of core has changed
pub set-nothing : (old middle new : MachineState) (p : Process) → middle ≡ record old { process = p.registers } → new ≡ record middle { pages = new.pages } → RanNothing old new × (new.core ≡ old.core)
set-nothing old middle new p registers rest =
    let same : new ≡ record old { process = p.registers; pages = new.pages } = rest ∙ ap (λ (m : MachineState). record m { pages = new.pages }) registers in (
      record {
        references = ap (λ (m : MachineState). m.references) same;
        runs = ap (λ (m : MachineState). m.runs) same;
        last = ap (λ (m : MachineState). m.last) same;
      },
      ap (λ (m : MachineState). m.core) same,
    )

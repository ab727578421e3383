-- A write of a subject that completes goes to an object which it holds by write.
use Rattle.std.proofs.Common.{◌≡◌, ℕ, Bool, true, false, ◌&&◌, List, Option, Some, None, refl, sym, ap, ◌∙◌}
use Rattle.std.specs.Prelude.{slice_get, if◌then◌else◌, IsOk}
use Rattle.bk_path.specs.Paths.{Path}
use Rattle.bk_object.specs.Modes.{Write as ByWrite}
use Rattle.bk_space.specs.AddrSpace.{Write, page_number, offset_of, page_at, is_odd, is_absent, is_read_only, is_beyond, refusal, unless, write_at}
use Rattle.bk_space.specs.declared.reference.Abort.{Abort}
use Rattle.bk_space.specs.declared.reference.Abort.TheVariants.{Odd, NonResident, Length, ReadOnly}
use Rattle.bk_space.specs.declared.reference.Mode.{Mode}
use Rattle.bk_space.specs.declared.reference.Space.{Space}
use Rattle.bk_space.specs.declared.reference.Width.{Width}
use Rattle.bk_space.specs.declared.reference.Rights.{Rights}
use Rattle.bk_space.specs.declared.reference.Rights.TheVariants as rights
use Rattle.bk_exec.specs.Laws.{IsAllowed}
use Rattle.bk_state.specs.State.{State, Object, Contents, Children, Words, Messages, Typed, find, holds}
use Rattle.bk_system.specs.Space.{rights_by, is_data, rights_of, page_from, page_by, page_shown, space_of}
use Rattle.bk_system.specs.Turn.{completes}

-- ---- the page that is written

-- a page that takes a write may be written
page_writes : (r : Rights) (odd beyond : Bool) →
    (if odd then Some Odd else (if is_absent r then Some NonResident else (if beyond then Some Length else (if true && is_read_only r then Some ReadOnly else None)))) ≡ None → r ≡ rights.Write
page_writes rights.None true beyond e = cc
page_writes rights.None false beyond e = cc
page_writes rights.Read true beyond e = cc
page_writes rights.Read false true e = cc
page_writes rights.Read false false e = cc
page_writes rights.Write odd beyond e = refl

contents_write : (r : Rights) (c : Contents) → (page_from r c).rights ≡ rights.Write → r ≡ rights.Write
contents_write r Children e = cc
contents_write rights.None (Words words) e = e
contents_write rights.Read (Words words) e = e
contents_write rights.Write (Words words) e = e
contents_write r (Messages waiting lost) e = cc
contents_write r (Typed bytes) e = cc

object_writes : (r : Rights) (o : Option Object) → (page_by r o).rights ≡ rights.Write → r ≡ rights.Write
object_writes r None e = cc
object_writes r (Some o) e = contents_write r o.contents e

held_by : (of_data reads executes writes : Bool) → rights_by of_data reads executes writes ≡ rights.Write → writes ≡ true
held_by false reads true writes e = cc
held_by false reads false writes e = cc
held_by true reads executes true e = refl
held_by true true executes false e = cc
held_by true false executes false e = cc

none_if_ok : {X : Type 0} (a : Option Abort) (x : X) → IsOk (unless a x) → a ≡ None
none_if_ok None x ok = refl
none_if_ok (Some abort) x ok = cc

none_if_completes : {X : Type 0} (a : Option Abort) (x : X) → completes (unless a x) ≡ true → a ≡ None
none_if_completes None x ok = refl
none_if_completes (Some abort) x ok = cc

module _ (v : State) (s : ℕ) (windows : List (Option Path)) where
  -- the window shows an object that the subject holds by write
  passes_held : (mode : Mode) (space : Space) (width : Width) (addr : ℕ) (path : Path) → slice_get windows (page_number mode space addr) ≡ Some (Some path) →
      refusal (page_at (space_of v s windows) mode space addr) width addr true ≡ None → holds v s path ByWrite ≡ true
  unfolding page_at space_of
  passes_held mode space width addr path shown passes =
      let n = page_number mode space addr in
      let page = page_shown v s n (slice_get windows n) in
      let writes = page_writes page.rights (is_odd width addr) (is_beyond page (offset_of addr)) passes in
      held_by (is_data n) _ _ _ (object_writes (rights_of v s n path) (find v path) (ap (λ o. (page_shown v s n o).rights) (sym shown) ∙ writes))

  -- the write of an instruction goes to what the subject holds by write
  pub allowed_held : (w : Write) (path : Path) → IsAllowed (space_of v s windows) (Some w) →
      slice_get windows (page_number w.mode w.space w.addr) ≡ Some (Some path) → holds v s path ByWrite ≡ true
  unfolding write_at
  allowed_held w path ok shown = passes_held w.mode w.space w.width w.addr path shown (none_if_ok _ _ ok)

  -- so does a write that would complete
  pub completes_held : (mode : Mode) (space : Space) (width : Width) (addr : ℕ) (path : Path) → completes (write_at (space_of v s windows) mode space width addr) ≡ true →
      slice_get windows (page_number mode space addr) ≡ Some (Some path) → holds v s path ByWrite ≡ true
  unfolding write_at
  completes_held mode space width addr path ok shown = passes_held mode space width addr path shown (none_if_completes _ _ ok)

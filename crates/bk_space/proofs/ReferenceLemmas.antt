use Rattle.std.proofs.Common.{◌≡◌, ◌<◌, ◌*◌, ℕ, Bool, true, false, ◌&&◌, IsOk, Some, None, length, refl, arith, if◌then◌else◌}
use Rattle.std.specs.Prelude.{Option}
use Rattle.std.proofs.lemmas.Bool.Decides.{nat_tests}
use Rattle.bk_space.specs.declared.reference.Width.{Width}
use Rattle.bk_space.specs.declared.reference.Abort.{Abort}
use Rattle.bk_space.specs.declared.reference.Abort.TheVariants.{Odd, NonResident, Length, ReadOnly}
use Rattle.bk_space.specs.AddrSpace.{Page, is_odd, is_absent, is_read_only, is_beyond, offset_of, refusal, unless, Completes}

-- the four checks of a reference in their order
abbrev refused_by : (odd absent beyond forbidden : Bool) → Option Abort
refused_by odd absent beyond forbidden = if odd then Some Odd else (if absent then Some NonResident else (if beyond then Some Length else (if forbidden then Some ReadOnly else None)))

record Passes (odd absent beyond forbidden : Bool) : Type 0 where
  aligned : odd ≡ false
  resident : absent ≡ false
  inside : beyond ≡ false
  allowed : forbidden ≡ false

passed : {X : Type 0} (x : X) (odd absent beyond forbidden : Bool) → IsOk (unless (refused_by odd absent beyond forbidden) x) → Passes odd absent beyond forbidden
passed x true absent beyond forbidden h = cc
passed x false true beyond forbidden h = cc
passed x false false true forbidden h = cc
passed x false false false true h = cc
passed x false false false false h = record { aligned = refl; resident = refl; inside = refl; allowed = refl }

passes : {X : Type 0} (x : X) (odd absent beyond forbidden : Bool) → Passes odd absent beyond forbidden → IsOk (unless (refused_by odd absent beyond forbidden) x)
passes x odd absent beyond forbidden p = rw (p.aligned, p.resident, p.inside, p.allowed) refl

within : (page : Page) (offset : ℕ) → is_beyond page offset ≡ false → offset < 2 * length page.words
within page offset h = grind (arith, nat_tests)

not_beyond : (page : Page) (offset : ℕ) → offset < 2 * length page.words → is_beyond page offset ≡ false
not_beyond page offset h = grind (arith, nat_tests)

-- where the answer is Ok all four checks passed, and where they pass it is
pub Completes-ok : {X : Type 0} (x : X) (page : Page) (width : Width) (addr : ℕ) (writes : Bool) → IsOk (unless (refusal page width addr writes) x) → Completes page width addr writes
Completes-ok x page width addr writes h =
    let p = passed x (is_odd width addr) (is_absent page.rights) (is_beyond page (offset_of addr)) (writes && is_read_only page.rights) h in
    record { aligned = p.aligned; resident = p.resident; inside = within page (offset_of addr) p.inside; allowed = p.allowed }

pub ok-Completes : {X : Type 0} (x : X) (page : Page) (width : Width) (addr : ℕ) (writes : Bool) → Completes page width addr writes → IsOk (unless (refusal page width addr writes) x)
ok-Completes x page width addr writes c =
    passes x (is_odd width addr) (is_absent page.rights) (is_beyond page (offset_of addr)) (writes && is_read_only page.rights)
    (record { aligned = c.aligned; resident = c.resident; inside = not_beyond page (offset_of addr) c.inside; allowed = c.allowed })

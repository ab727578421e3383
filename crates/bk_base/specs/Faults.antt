-- First faults: checks in their order, the first that fails, and what a reader gives by them.
use Rattle.std.specs.Prelude.{◌≡◌, Bool, false, if◌then◌else◌, List, [], ◌∷◌, Result, Ok, Err}
use Rattle.bk_base.specs.declared.stop.Stop.{Stop}
use Rattle.bk_base.specs.declared.stop.Stop.TheVariants.{Bad, NoMemory}

-- what follows where nothing was at fault before
infixl 10 ◌>>=◌
abbrev pub ◌>>=◌ : {A B F : Type 0} → Result A F → (A → Result B F) → Result B F
(Ok x) >>= f = f x
(Err e) >>= f = Err e

-- the first check that fails, if one does, and the fault that it is by its kind
abbrev pub first_failing : {K F : Type 0} → (K → F) → List (K × Bool) → Result (Unit {0}) F
first_failing fault [] = Ok tt
first_failing fault (check ∷ checks) = if check.1 then Err (fault check.0) else first_failing fault checks

-- no check fails
abbrev pub Passes : {K : Type 0} → List (K × Bool) → Type 0
Passes [] = Unit {0}
Passes (check ∷ checks) = (check.1 ≡ false) × Passes checks

-- a reader stopped with the fault that the definition gives, or for want of memory
abbrev pub Refuses : {Y F : Type 0} → Stop F → Result Y F → Type 0
Refuses NoMemory read = Unit {0}
Refuses (Bad fault) read = read ≡ Err fault

-- what a reader gave, seen by a view, is what the definition gives; or it stopped so
abbrev pub Gives : {X Y F : Type 0} → (X → Y) → Result X (Stop F) → Result Y F → Type 0
Gives view (Ok x) read = read ≡ Ok (view x)
Gives view (Err stop) read = Refuses stop read

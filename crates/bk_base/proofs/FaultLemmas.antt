-- Steps of a reader that found no fault.
use Rattle.std.proofs.Common.{◌≡◌, Bool, true, false, cond, List, [], ◌∷◌, Result, Ok, Err, refl}
use Rattle.bk_base.specs.Faults.{◌>>=◌, first_failing, Passes}

-- the value of a step that didn't fail
pub bind_ok : {A B F : Type 0} (r : Result A F) (f : A → Result B F) (y : B) → (r >>= f) ≡ Ok y → (x : A) × (r ≡ Ok x) × (f x ≡ Ok y)
bind_ok (Ok x) f y e = (x, refl, e)
bind_ok (Err d) f y e = absurd cc

-- a test that didn't fail
pub guard_ok : {A F : Type 0} (b : Bool) (d : F) (r : Result A F) (y : A) → cond b (Err d) r ≡ Ok y → (b ≡ false) × (r ≡ Ok y)
guard_ok true d r y e = absurd cc
guard_ok false d r y e = (refl, e)

abbrev pub done : {A F : Type 0} → A → Result A F
done x = Ok x

pub ok_is : {A F : Type 0} (x y : A) → done {F = F} x ≡ done y → x ≡ y
ok_is x y e = cc

-- where no first check fails, none does
pub all_pass : {K F : Type 0} (fault : K → F) (checks : List (K × Bool)) (u : Unit {0}) → first_failing fault checks ≡ Ok u → Passes checks
all_pass fault [] u e = tt
all_pass fault (c ∷ cs) u e =
    let g = guard_ok c.1 (fault c.0) (first_failing fault cs) u e in
    (g.0, all_pass fault cs u g.1)

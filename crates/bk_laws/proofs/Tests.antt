-- What tests that failed or passed say, and what a refusal that did not come says.
use Rattle.std.proofs.Common.{◌≡◌, ℕ, Bool, true, false, ◌&&◌, ◌||◌, not, List, [], ◌∷◌, ◌++◌, Option, Some, None, refl, ap, unwrap_or, cond}
use Rattle.std.specs.List.{find as first, AllByRecursion}
use Rattle.bk_level.proofs.LevelOrder.{and_both}
use Rattle.bk_quota.specs.Charges.{passes}
use Rattle.bk_state.specs.State.{State}
use Rattle.bk_state.specs.declared.call.Call.{Call}
use Rattle.bk_state.specs.Request.{Request, request_in}
use Rattle.bk_state.specs.KernelCall.{KernelCall, fails}
use Rattle.bk_state.specs.Calls.{definition_of, call_refusal}

pub not_false : (b : Bool) → not b ≡ false → b ≡ true
not_false true e = refl
not_false false e = cc

pub false_if : (b : Bool) → (b ≡ true → ⊥) → b ≡ false
false_if true no_way = absurd (no_way refl)
false_if false no_way = refl

pub or_first : (a b : Bool) → (a || b) ≡ false → a ≡ false
or_first true b e = e
or_first false b e = refl

pub or_second : (a b : Bool) → (a || b) ≡ false → b ≡ false
or_second true b e = cc
or_second false b e = e

-- what is there twice is the same
pub some_same : {A : Type 0} {x y : A} → Some x ≡ Some y → x ≡ y
some_same {x = x} e = ap (λ o. unwrap_or o x) e

-- what passes two tests passes both together
pub passes_both : {A : Type 0} (f g : A → Bool) (o : Option A) → passes f o ≡ true → passes g o ≡ true → passes (λ x. f x && g x) o ≡ true
passes_both f g None e h = e
passes_both f g (Some x) e h = and_both (f x) (g x) e h

-- what every value that passes one test passes too
pub passes_more : {A : Type 0} (f g : A → Bool) (o : Option A) → ((x : A) → o ≡ Some x → f x ≡ true → g x ≡ true) → passes f o ≡ true → passes g o ≡ true
passes_more f g None more e = e
passes_more f g (Some x) more e = more x refl e

-- what passes a test is there
pub passes_there : {A : Type 0} (f : A → Bool) (o : Option A) → passes f o ≡ true → (x : A) × (o ≡ Some x)
passes_there f None e = cc
passes_there f (Some x) e = (x, refl)

none_first : {A : Type 0} (p : A → Bool) (xs : List A) → first p xs ≡ None → AllByRecursion (λ x. p x ≡ false) xs
none_first p [] e = tt
none_first p (x ∷ xs) e = by (p x) refl e (none_first p xs)
  where
    by : (b : Bool) → p x ≡ b → cond b (Some x) (first p xs) ≡ None → (first p xs ≡ None → AllByRecursion (λ x. p x ≡ false) xs) → AllByRecursion (λ x. p x ≡ false) (x ∷ xs)
    by true is h rest = cc
    by false is h rest = (is, rest h)

-- no check of the call fails
abbrev pub Passes : State → (s : ℕ) → KernelCall → Request → Type 0
Passes v s call request = first (fails v s call request) call.checks ≡ None

-- so each of them passed
pub passed : (v : State) (s : ℕ) (call : KernelCall) (request : Request) → Passes v s call request → AllByRecursion (λ c. fails v s call request c ≡ false) call.checks
passed v s call request e = none_first (fails v s call request) call.checks e

-- a call that is not refused passed its checks
pub not_refused : (v : State) (s : ℕ) (call : Call) (general : List ℕ) → call_refusal v s call general ≡ None → Passes v s (definition_of call) (request_in general)
unfolding call_refusal
not_refused v s call general e = e

-- what holds of each element of two lists holds of each of both
pub every-append : {A : Type 0} (P : A → Type 0) (a b : List A) → AllByRecursion P a → AllByRecursion P b → AllByRecursion P (a ++ b)
every-append P [] b p q = q
every-append P (x ∷ a) b p q = (p.0, every-append P a b p.1 q)

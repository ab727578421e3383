-- The definitions of a script's lines, at what was cut off in front.
use Rattle.std.proofs.Common.{◌≡◌, ℕ, ◌+◌, Bool, true, false, List, [], ◌∷◌, length, None, Ok, refl, cond, arith, ◌≢◌, ◌≤◌, ◌<◌, nat_lt}
use Rattle.std.proofs.lemmas.Bool.Decides.{nat_tests}
use Rattle.std.specs.Prelude.{◌==◌}
use Rattle.std.specs.List.{slice_split, onto_first}
use Rattle.bk_script.specs.Limits.{most_bytes}
use Rattle.bk_script.specs.declared.fault.ScriptKind.TheVariants as kind
use Rattle.bk_system.specs.declared.TypedAt.{TypedAt}
use Rattle.bk_script.specs.Fault.{fault}
use Rattle.bk_script.specs.Lines.{fields_of, line_of, ended, line_at, lines_at, script_of}
use Rattle.bk_report.proofs.Splitting.{split_some}

-- a fourth field is one too many
pub fields_of-four : (one two three : List ℕ) (p : ℕ → Bool) (more : List ℕ) → fields_of (one ∷ two ∷ three ∷ slice_split p more) ≡ None
fields_of-four one two three p more =
    let rest = split_some p more in
    rw rest.2 refl

-- a script that isn't too long is its lines
pub script_of-short : (lines turns : ℕ) (bytes : List ℕ) → length bytes ≤ most_bytes
    → script_of lines turns bytes ≡ lines_at lines turns 1 [] (slice_split (λ b. b == 10) bytes)
unfolding script_of
script_of-short lines turns bytes short =
    let test : nat_lt most_bytes (length bytes) ≡ false = grind (arith, nat_tests, short) in
    rw test refl

pub script_of-long : (lines turns : ℕ) (bytes : List ℕ) → most_bytes < length bytes
    → script_of lines turns bytes ≡ fault 0 kind.Long
unfolding script_of
script_of-long lines turns bytes long =
    let test : nat_lt most_bytes (length bytes) ≡ true = grind (arith, nat_tests, long) in
    rw test refl

-- the lines of a line and what follows its LF
pub lines_at-cut : (lines turns at : ℕ) (before : List TypedAt) (text : List ℕ) (p : ℕ → Bool) (more : List ℕ)
    → lines_at lines turns at before (text ∷ slice_split p more)
    ≡ line_at lines turns at before (line_of text) (slice_split p more) (λ then_. lines_at lines turns (at + 1) then_ (slice_split p more))
unfolding lines_at
lines_at-cut lines turns at before text p more =
    let rest = split_some p more in
    rw rest.2 refl

-- nothing follows the END line
pub ended-nothing : (at : ℕ) (before : List TypedAt) (slots : ℕ) (more : List ℕ) → length more ≡ 0
    → ended at before slots (slice_split (λ b. b == 10) more) ≡ Ok (before, slots)
ended-nothing at before slots [] none = refl
ended-nothing at before slots (b ∷ more) none = absurd (omega (arith, none))

-- something follows it
pub ended-more : (at : ℕ) (before : List TypedAt) (slots : ℕ) (more : List ℕ) → length more ≢ 0
    → ended at before slots (slice_split (λ b. b == 10) more) ≡ fault at kind.After
ended-more at before slots [] some = absurd (some refl)
ended-more at before slots (b ∷ more) some =
    let rest = split_some (λ b. b == 10) more in
    by (b == 10) rest.0 rest.1 rest.2 where
      by : (c : Bool) (part : List ℕ) (parts : List (List ℕ)) → slice_split (λ b. b == 10) more ≡ part ∷ parts
          → ended at before slots (cond c ([] ∷ slice_split (λ b. b == 10) more) (onto_first b (slice_split (λ b. b == 10) more))) ≡ fault at kind.After
      by true part parts e = rw e refl
      by false part parts e = rw e refl

-- the end of a script by what follows its END line
pub ruleset end_lemmas = (ended-nothing, ended-more)

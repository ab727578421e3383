-- What a program's line comes to, check by check.
use Rattle.std.proofs.Common.{◌≡◌, ℕ, ◌+◌, ◌%◌, true, false, List, length, Some, None, Ok, Err, refl, sym, ap, subst, ◌∙◌, arith, ◌==◌, ◌≢◌}
use Rattle.std.proofs.lemmas.Bool.Decides.{nat_tests}
use Rattle.bk_asm.specs.Assembled.{assembled}
use Rattle.bk_asm.specs.declared.Program.{Program}
use Rattle.bk_base.specs.Faults.{◌>>=◌, Refuses}
use Rattle.bk_base.specs.declared.stop.Stop.{Stop}
use Rattle.bk_conf.specs.declared.fault.BuildFault.{BuildFault}
use Rattle.bk_conf.specs.declared.fault.BuildKind.TheVariants as kind
use Rattle.bk_conf.specs.Fault.{fault_at}
use Rattle.bk_conf.specs.Lines.{Text, text_of}
use Rattle.bk_conf.specs.Said.{Said, has, name_cmp}
use Rattle.bk_conf.specs.Steps.{in_program, with_lines, with_words}
use Rattle.bk_conf.proofs.Reached.{stopped}

even : (origin : ℕ) → origin % 2 ≡ 0 → (origin % 2 == 0) ≡ true
even origin is = grind (arith, nat_tests, is)

odd : (origin : ℕ) → origin % 2 ≢ 0 → (origin % 2 == 0) ≡ false
odd origin is = grind (arith, nat_tests, is)

pub origin_none : (said : Said) (at : ℕ) (name : Text) (body : List Text) → with_lines said at name None body ≡ Err (fault_at at kind.Range)
origin_none said at name body = refl

pub origin_odd : (said : Said) (at : ℕ) (name : Text) (origin : ℕ) (body : List Text) → origin % 2 ≢ 0 → with_lines said at name (Some origin) body ≡ Err (fault_at at kind.Range)
origin_odd said at name origin body is = rw (odd origin is) refl

pub name_doubled : (said : Said) (at : ℕ) (name : Text) (origin : ℕ) (body : List Text) → origin % 2 ≡ 0 → has name_cmp said.words name ≡ true
    → with_lines said at name (Some origin) body ≡ Err (fault_at at kind.Doubled)
name_doubled said at name origin body is doubled = rw (even origin is, doubled) refl

-- the checks passed
passed : (said : Said) (at : ℕ) (name : Text) (origin : ℕ) (body : List Text) → origin % 2 ≡ 0 → has name_cmp said.words name ≡ false
    → with_lines said at name (Some origin) body ≡ in_program at (assembled (text_of body) origin) >>= (λ program. Ok (with_words said name program, length body + 1))
passed said at name origin body is new = rw (even origin is, new) refl

pub text_refused : (said : Said) (at : ℕ) (name : Text) (origin : ℕ) (body : List Text) (stop : Stop BuildFault) → origin % 2 ≡ 0 → has name_cmp said.words name ≡ false
    → Refuses stop (in_program at (assembled (text_of body) origin)) → Refuses stop (with_lines said at name (Some origin) body)
text_refused said at name origin body stop is new refused =
    subst (Refuses stop) (sym (passed said at name origin body is new)) (stopped stop (in_program at (assembled (text_of body) origin)) _ refused)

pub text_taken : (said : Said) (at : ℕ) (name : Text) (origin : ℕ) (body : List Text) (program : Program) → origin % 2 ≡ 0 → has name_cmp said.words name ≡ false
    → in_program at (assembled (text_of body) origin) ≡ Ok program → with_lines said at name (Some origin) body ≡ Ok (with_words said name program, length body + 1)
text_taken said at name origin body program is new taken = passed said at name origin body is new ∙ ap (λ r. r >>= (λ program. Ok (with_words said name program, length body + 1))) taken

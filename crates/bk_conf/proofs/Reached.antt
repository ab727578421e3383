-- What a reader of a configuration has reached, line by line.
use Rattle.std.proofs.Common.{◌≡◌, ℕ, suc, ◌+◌, ◌-◌, ◌^◌, ◌<◌, ◌≤◌, true, false, List, [], ◌∷◌, length, None, Ok, Err, refl, sym, ap, subst, ◌∙◌, arith, add-one}
use Rattle.std.specs.Prelude.{min, nat_lt, Option, Result}
use Rattle.std.proofs.lemmas.Bool.Decides.{nat_tests}
use Rattle.bk_base.specs.Faults.{◌>>=◌, Refuses}
use Rattle.bk_base.specs.declared.stop.Stop.{Stop}
use Rattle.bk_base.specs.declared.stop.Stop.TheVariants.{Bad, NoMemory}
use Rattle.bk_conf.specs.declared.fault.BuildFault.{BuildFault}
use Rattle.bk_conf.specs.declared.fault.BuildKind.{BuildKind}
use Rattle.bk_conf.specs.declared.fault.BuildKind.TheVariants as kind
use Rattle.bk_conf.specs.declared.line.Line.{Line}
use Rattle.bk_conf.specs.declared.program.Body.{Body}
use Rattle.bk_conf.specs.Fault.{fault_at, line_after}
use Rattle.bk_conf.specs.Kinds.{line_of}
use Rattle.bk_conf.specs.Lines.{Text, lines_of, fields_of, program_lines}
use Rattle.bk_conf.specs.Said.{Said, nothing}
use Rattle.bk_conf.specs.Steps.{all_said, all_there, configuration_of, is_complete, is_missing, with_all, with_lines, with_program, with_reading}
use Rattle.bk_conf.specs.Limits.{most_bytes}
use Rattle.bk_conf.specs.Views.{lines_left, with_following, HasBody}
use Rattle.bk_conf.proofs.Passing.{with_all-passed}

-- all lines, by the first one
pub with_all_first : (said : Said) (at : ℕ) (line : Text) (following : List Text)
    → with_all said at 0 (line ∷ following) ≡ with_following at following (with_reading said at (line_of (fields_of line)) following)
unfolding with_all
with_all_first said at line following = refl

-- no line is left
pub with_all_none : (said : Said) (at : ℕ) → with_all said at 0 [] ≡ Ok said
unfolding with_all
with_all_none said at = refl

-- a fault of one step is one of the steps that begin with it
pub stopped : {A B : Type 0} (stop : Stop BuildFault) (r : Result A BuildFault) (f : A → Result B BuildFault) → Refuses stop r → Refuses stop (r >>= f)
stopped NoMemory r f refused = tt
stopped (Bad fault) r f refused = ap (λ r. r >>= f) refused

-- a line that has a fault, told by its number
pub reading_stopped : (said : Said) (at : ℕ) (following : List Text) (reading : Result (Option Line) BuildKind) (stop : Stop BuildKind) (result : Stop BuildFault)
    → Refuses stop reading → ((kind : BuildKind) → stop ≡ Bad kind → result ≡ Bad (fault_at at kind)) → (stop ≡ NoMemory → result ≡ NoMemory)
    → Refuses result (with_following at following (with_reading said at reading following))
reading_stopped said at following reading NoMemory result refused bad none =
    subst (λ r. Refuses r (with_following at following (with_reading said at reading following))) (sym (none refl)) tt
reading_stopped said at following reading (Bad kind) result refused bad none =
    subst (λ r. Refuses r (with_following at following (with_reading said at reading following))) (sym (bad kind refl))
    (ap (λ r. with_following at following (with_reading said at r following)) refused)

-- a program without an end
pub program_endless : (said : Said) (at : ℕ) (name : Text) (origin : Option ℕ) (following : List Text) → program_lines following ≡ None
    → with_following at following (with_program said at name origin (program_lines following)) ≡ Err (fault_at at kind.Form)
unfolding with_program
program_endless said at name origin following none = ap (λ lines. with_following at following (with_program said at name origin lines)) none

-- behind nothing there is no end
pub program_lines_none : program_lines [] ≡ None
unfolding program_lines
program_lines_none = refl

-- a program that is refused
pub program_stopped : (said : Said) (at : ℕ) (name : Text) (origin : Option ℕ) (text : Text) (body : Body) (has : HasBody text body) (stop : Stop BuildFault)
    → Refuses stop (with_lines said at name origin has.lines)
    → Refuses stop (with_following at (lines_of text) (with_program said at name origin (program_lines (lines_of text))))
unfolding with_program
program_stopped said at name origin text body has stop refused =
    subst (λ lines. Refuses stop (with_following at (lines_of text) (with_program said at name origin lines))) (sym has.found)
    (stopped stop (with_lines said at name origin has.lines) (λ next. with_all next.0 (line_after at 1) next.1 (lines_of text)) refused)

-- the number of the line behind a program
line_behind : (at lines : ℕ) → line_after (line_after at 1) (suc lines) ≡ min (min (at + min lines (2 ^ 32 - 1)) (2 ^ 32 - 1) + 2) (2 ^ 32 - 1)
line_behind at lines = omega arith

-- a program that is taken
pub program_reached : (said new : Said) (at : ℕ) (name : Text) (origin : Option ℕ) (text : Text) (body : Body) (has : HasBody text body) (next : ℕ)
    → with_lines said at name origin has.lines ≡ Ok (new, length has.lines + 1)
    → next ≡ min (min (at + body.lines) (2 ^ 32 - 1) + 2) (2 ^ 32 - 1)
    → with_following at (lines_of text) (with_program said at name origin (program_lines (lines_of text))) ≡ with_all new next 0 (lines_left body.left)
unfolding with_program
program_reached said new at name origin text body has next taken is =
    ap (λ lines. with_following at (lines_of text) (with_program said at name origin lines)) has.found
    ∙ ap (with_following at (lines_of text)) taken
    ∙ ap (λ n. with_all new (line_after at 1) n (lines_of text)) (add-one (length has.lines))
    ∙ ap (with_all new (line_after at 1) (suc (length has.lines))) has.stands
    ∙ with_all-passed new (line_after at 1) has.lines has.end (lines_left body.left)
    ∙ ap (λ n. with_all new n 0 (lines_left body.left)) (line_behind at (length has.lines) ∙ ap (λ n. min (min (at + n) (2 ^ 32 - 1) + 2) (2 ^ 32 - 1)) (sym has.count) ∙ sym is)

-- ---- all steps

-- a text that is too long
pub said_long : (text : Text) → most_bytes < length text → all_said text ≡ Err (fault_at 0 kind.Long)
unfolding all_said
said_long text long = let test : nat_lt most_bytes (length text) ≡ true = grind (arith, nat_tests, long) in rw test refl

-- and one that isn't
pub said_short : (text : Text) → length text ≤ most_bytes → all_said text ≡ with_all nothing 1 0 (lines_of text)
unfolding all_said
said_short text short = let test : nat_lt most_bytes (length text) ≡ false = grind (arith, nat_tests, short) in rw test refl

-- something that is named isn't there
pub complete_unknown : (said : Said) (stop : Stop BuildFault) → Refuses stop (all_there said said.mentions) → Refuses stop (is_complete said)
unfolding is_complete
complete_unknown said stop refused = stopped stop (all_there said said.mentions) _ refused

-- something is missing
pub complete_missing : (said : Said) → all_there said said.mentions ≡ Ok tt → is_missing said ≡ true → is_complete said ≡ Err (fault_at 0 kind.Missing)
unfolding is_complete
complete_missing said there missing = rw (there, missing) refl

-- nothing is
pub complete_whole : (said : Said) → all_there said said.mentions ≡ Ok tt → is_missing said ≡ false → is_complete said ≡ Ok tt
unfolding is_complete
complete_whole said there whole = rw (there, whole) refl

-- the lines have a fault
pub configuration_stopped : (text : Text) (stop : Stop BuildFault) → Refuses stop (all_said text) → Refuses stop (configuration_of text)
unfolding configuration_of
configuration_stopped text stop refused = stopped stop (all_said text) _ refused

-- what they say has one
pub configuration_incomplete : (text : Text) (said : Said) (stop : Stop BuildFault) → all_said text ≡ Ok said → Refuses stop (is_complete said) → Refuses stop (configuration_of text)
unfolding configuration_of
configuration_incomplete text said stop all refused =
    subst (λ r. Refuses stop (r >>= (λ said. is_complete said >>= (λ passed. Ok said)))) (sym all) (stopped stop (is_complete said) (λ passed. Ok said) refused)

-- neither has
pub configuration_whole : (text : Text) (said : Said) → all_said text ≡ Ok said → is_complete said ≡ Ok tt → configuration_of text ≡ Ok said
unfolding configuration_of
configuration_whole text said all complete = rw (all, complete) refl

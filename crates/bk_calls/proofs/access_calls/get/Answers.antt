use Rattle.std.proofs.Common.{◌≡◌, sym, subst, refl, true}
use Rattle.bk_state.specs.Request.{request_in}
use Rattle.bk_state.specs.declared.rule.Rule.{Rule}
use Rattle.bk_state.specs.declared.rule.Rule.TheVariants.{GetRead, GetAppend, GetExecute, GetWrite, Release, Give, Rescind, Create, DeleteGroup, RaiseLevel}
use Rattle.bk_rules.specs.Decisions.{is_get}
use Rattle.bk_state.specs.Calls.{changed}
use Rattle.bk_store.specs.Stands.{StandsFor}
use Rattle.bk_store.specs.Stored.{Stored}
use Rattle.bk_calls.specs.Decided.{has_path}
use Rattle.bk_calls.specs.Made.{seen_by}
use Rattle.bk_calls.proofs.Seen.{with_lines}
use Rattle.bk_calls.proofs.RuleChecks.{none-wrong}
use Rattle.bk_calls.proofs.RuleChanges.{is_of_object, object-there, rule-made, stands-got}
use Rattle.bk_calls.specs.Shown.{SameExtents}
use Rattle.bk_calls.proofs.access_calls.get.Goals as goal

-- what comes to be held is told by its path
has : (r : Rule) → is_get r ≡ true → has_path r ≡ true
has GetRead h = refl
has GetAppend h = refl
has GetExecute h = refl
has GetWrite h = refl
has Release h = refl
has Give h = refl
has Rescind h = refl
has Create h = refl
has DeleteGroup h = refl
has RaiseLevel h = cc

pub allowed-requires-clause-path : goal.allowed-requires-clause-path
allowed-requires-clause-path c = has c.args.rule c.requires.get

pub allowed-requires-clause-argument : goal.allowed-requires-clause-argument
allowed-requires-clause-argument c = λ words. none-wrong (seen_by c.args.caller.now c.args.store.now words) c.args.rule c.args.process.now.registers.general c.requires.get

pub hold-requires-clause-there : goal.hold-requires-clause-there
hold-requires-clause-there c = object-there c.args.caller.now c.args.store.now c.args.process.now.registers.general c.args.rule c.in-Ok.path c.in-Ok.ensures.0 (of c.args.rule c.requires.get) c.in-Ok.ensures.1
  where
    of : (r : Rule) → is_get r ≡ true → is_of_object r ≡ true
    of GetRead h = refl
    of GetAppend h = refl
    of GetExecute h = refl
    of GetWrite h = refl
    of Release h = cc
    of Give h = cc
    of Rescind h = cc
    of Create h = cc
    of DeleteGroup h = cc
    of RaiseLevel h = cc

pub returns-in-Ok-clause-made : goal.returns-in-Ok-clause-made
returns-in-Ok-clause-made c = λ words.
    let store = c.args.store.now in
    let caller = c.args.caller.now in
    let request = request_in c.args.process.now.registers.general in
    rule-made caller store c.hold.new.self words words c.args.process.now c.agree.new.process c.agree.result c.args.rule (has c.args.rule c.requires.get) c.in-Ok.ensures.1
    (subst (λ (x : Stored). StandsFor x words (changed (with_lines store (seen_by caller store words)) caller.subject c.args.rule request)) (sym c.hold.ensures)
    (stands-got caller store words caller.subject c.args.rule request c.in-Ok.path c.mode_of.result c.requires.get c.in-Ok.ensures.0 (c.mode_of.ensures.mode request)))
    refl c.agree.ensures.process c.agree.ensures.reply

pub returns-in-Ok-clause-extents : goal.returns-in-Ok-clause-extents
returns-in-Ok-clause-extents c = subst (λ (x : Stored). SameExtents c.args.store.now x) (sym c.hold.ensures) (λ path. refl)

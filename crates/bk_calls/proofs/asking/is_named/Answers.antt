use Rattle.std.proofs.Common.{◌≡◌, Bool, true, false, ◌&&◌, [], ◌∷◌, refl, sym, ap, ◌∙◌}
use Rattle.std.specs.List.{list_any}
use Rattle.bk_object.specs.Modes.{Read, Write}
use Rattle.bk_store.specs.Stored.{holds}
use Rattle.bk_calls.proofs.Seen.{named-child}
use Rattle.bk_calls.proofs.asking.is_named.Goals as goal

pub returns-then-is_directory : goal.returns-then-is_directory
returns-then-is_directory c = λ caller words.
    ap (λ b. b && c.reads_or_writes.result) (sym c.if-is_directory.true)
    ∙ named-child caller c.args.store.now words c.args.subject c.args.path c.in-Some.above (λ e. cc (c.in-Some.ensures.none.1 e)) c.in-Some.ensures.some c.is_directory.result c.reads_or_writes.result c.is_directory.ensures c.reads_or_writes.ensures

pub returns-else-is_directory : goal.returns-else-is_directory
returns-else-is_directory c = λ caller words.
    none c.is_directory.result (list_any (holds c.args.store.now c.args.subject c.in-Some.above) (Read ∷ Write ∷ [])) c.if-is_directory.false
    ∙ named-child caller c.args.store.now words c.args.subject c.args.path c.in-Some.above (λ e. cc (c.in-Some.ensures.none.1 e)) c.in-Some.ensures.some c.is_directory.result _ c.is_directory.ensures refl
  where
    none : (a b : Bool) → a ≡ false → a ≡ (a && b)
    none true b e = cc
    none false b e = refl

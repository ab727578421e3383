use Rattle.std.proofs.Common.{◌≡◌, ℕ, List, ap, ◌∙◌}
use Rattle.std.specs.Prelude.{map}
use Rattle.std.specs.FinMap.Entries.{find, put}
use Rattle.bk_expr.specs.Names.{upper_case}
use Rattle.bk_asm.specs.Names.{Defined, name_cmp}
use Rattle.bk_asm.specs.Seen.{entry_of}
use Rattle.bk_asm.proofs.Tables.{find_seen, put_seen}
use Rattle.bk_asm.proofs.table.Table.set_name.Goals as goal

abbrev with_names : List ((ℕ × ℕ) × ℕ) → List (List ℕ × ℕ) → Defined
with_names locals names = record { names = names; locals = locals }

pub returns-clause-same : goal.returns-clause-same
returns-clause-same c =
    let key : c.in_ok-key.key.items ≡ upper_case c.args.name.now = c.in_ok-key.ensures.ok in
    ap (with_names c.args.self.now.locals.entries) (
    ap (map entry_of) c.in-Ok.ensures.entries
    ∙ put_seen c.in_ok-key.key c.args.value c.args.self.now.names.entries
    ∙ ap (λ (name : List ℕ). put name_cmp name c.args.value (map entry_of c.args.self.now.names.entries)) key)

pub returns-clause-had : goal.returns-clause-had
returns-clause-had c =
    let key : c.in_ok-key.key.items ≡ upper_case c.args.name.now = c.in_ok-key.ensures.ok in
    c.in-Ok.ensures.old
    ∙ find_seen c.in_ok-key.key.items c.args.self.now.names.entries
    ∙ ap (λ (name : List ℕ). find name_cmp name (map entry_of c.args.self.now.names.entries)) key

use Rattle.std.proofs.Common.{ℕ, List, ap, ◌∙◌}
use Rattle.std.specs.Prelude.{map}
use Rattle.bk_asm.specs.Names.{Defined}
use Rattle.bk_asm.specs.Seen.{entry_of}
use Rattle.bk_asm.proofs.Tables.{find_local, put_local}
use Rattle.bk_asm.proofs.table.Table.set_local.Goals as goal

abbrev with_locals : List (List ℕ × ℕ) → List ((ℕ × ℕ) × ℕ) → Defined
with_locals names locals = record { names = names; locals = locals }

pub returns-clause-same : goal.returns-clause-same
returns-clause-same c =
    ap (with_locals (map entry_of c.args.self.now.names.entries))
    (c.in-Ok.ensures.entries ∙ put_local (c.args.range, c.args.n) c.args.value c.args.self.now.locals.entries)

pub returns-clause-had : goal.returns-clause-had
returns-clause-had c = c.in-Ok.ensures.old ∙ find_local (c.args.range, c.args.n) c.args.self.now.locals.entries

use Rattle.std.proofs.Common.{subst}
use Rattle.bk_store.specs.Joined.{tables_of, AreExtentsApart, HaveKinds}
use Rattle.bk_store.proofs.Contents.{extents_apart, have_kinds}
use Rattle.bk_store.proofs.store.Store.law_contents.Goals as goal

pub returns-clause-kinds : goal.returns-clause-kinds
returns-clause-kinds c = subst HaveKinds c.self.view_is (have_kinds c.self.inside.levels c.self.inside.lines c.self.inside.tree c.self.inside.access (tables_of c.self.inside.frames c.self.inside.mailboxes.items c.self.inside.inputs.items) c.self.invariant)

pub returns-clause-extents : goal.returns-clause-extents
returns-clause-extents c = subst AreExtentsApart c.self.view_is (extents_apart c.self.inside.levels c.self.inside.lines c.self.inside.tree c.self.inside.access (tables_of c.self.inside.frames c.self.inside.mailboxes.items c.self.inside.inputs.items) c.self.invariant)

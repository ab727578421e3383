use Rattle.std.proofs.Common.{◌∙◌, ◌<◌, ◌≤◌, sym, ap, arith, length, map, length-set, get_or, []}
use Rattle.std.proofs.lemmas.List.{length-map}
use Rattle.std.proofs.lemmas.Bool.Decides.{nat_tests}
use Rattle.bk_store.specs.Stored.{queued, with_typed}
use Rattle.bk_store.specs.Joined.{bytes_of, store_of, tables_of, waiting_of}
use Rattle.bk_store.proofs.Waits.{inputs-kept, typed-inside, typed-outside}
use Rattle.bk_store.proofs.store.Store.type_byte.Goals as goal

pub type_at-requires : goal.type_at-requires
type_at-requires c = omega (arith, c.self.invariant.queues.inputs, length-map c.self.inside.inputs.items bytes_of)

pub invariant_of-self : goal.invariant_of-self
invariant_of-self c = inputs-kept c.self.inside.lines c.self.inside.tree c.self.inside.access (tables_of c.self.inside.frames c.self.inside.mailboxes.items c.self.inside.inputs.items) c.self.invariant (map bytes_of c.type_at.new.inputs.items) (ap length c.type_at.ensures ∙ length-set (map bytes_of c.self.inside.inputs.items) c.args.line (queued (get_or (map bytes_of c.self.inside.inputs.items) c.args.line []) c.args.byte))

pub returns-then-line-self : goal.returns-then-line-self
returns-then-line-self c =
    let small : c.args.line < c.self.inside.lines = grind (arith, nat_tests) in
    ap (λ inputs. store_of c.self.inside.levels c.self.inside.lines c.self.inside.tree c.self.inside.access (record { frames = c.self.inside.frames; mailboxes = map waiting_of c.self.inside.mailboxes.items; inputs = inputs })) c.type_at.ensures
    ∙ typed-inside c.self.inside.lines c.self.inside.tree c.self.inside.access (tables_of c.self.inside.frames c.self.inside.mailboxes.items c.self.inside.inputs.items) c.self.invariant c.self.inside.levels c.args.line c.args.byte small
    ∙ ap (with_typed c.args.line c.args.byte) c.self.view_is

pub returns-else-line-self : goal.returns-else-line-self
returns-else-line-self c =
    let large : c.self.inside.lines ≤ c.args.line = grind (arith, nat_tests) in
    sym c.self.view_is
    ∙ typed-outside c.self.inside.lines c.self.inside.tree c.self.inside.access (tables_of c.self.inside.frames c.self.inside.mailboxes.items c.self.inside.inputs.items) c.self.invariant c.self.inside.levels c.args.line c.args.byte large
    ∙ ap (with_typed c.args.line c.args.byte) c.self.view_is

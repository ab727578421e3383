use Rattle.std.proofs.Common.{ap, sym, ◌∙◌}
use Rattle.std.proofs.lemmas.Bool.{and_parts}
use Rattle.bk_space.specs.Counts.{counted_on}
use Rattle.bk_system.specs.Turn.{less}
use Rattle.bk_machine.specs.Machine.{bus_of}
use Rattle.bk_machine.specs.Paged.{Paged}
use Rattle.bk_pages.specs.Pushing.{can_push, push_at}
use Rattle.bk_pages.proofs.Pushed.{can_push-written, counted-none, counted-twice}
use Rattle.bk_pages.proofs.reflection.push_both.Goals as goal

pub push-requires-2 : goal.push-requires-2
push-requires-2 c =
    let bus = bus_of c.args.machine.now in
    let stack = c.args.regs.now.supervisor in
    ap (λ (b : Paged). can_push b (less stack 4)) c.push.ensures.written
    ∙ can_push-written bus (push_at (less stack 2) c.word.result) (less stack 4)
    ∙ (and_parts (can_push bus (less stack 2)) (can_push bus (less stack 4)) (sym c.has_room.ensures ∙ c.if-not-has_room.false)).1

pub returns-clause-count : goal.returns-clause-count
returns-clause-count c = c.push-2.ensures.count ∙ ap (λ n. counted_on n 1) c.push.ensures.count ∙ counted-twice c.args.machine.now.references

pub returns-then-not-has_room-clause-count : goal.returns-then-not-has_room-clause-count
returns-then-not-has_room-clause-count c = counted-none c.args.machine.now.references

use Rattle.std.proofs.Common.{◌∙◌, sym, ap, map, set}
use Rattle.std.proofs.lemmas.List.{map-set}
use Rattle.bk_store.specs.Joined.{bytes_of, with_new_input}
use Rattle.bk_store.proofs.queues.clear_input.Goals as goal

pub returns-in-Line : goal.returns-in-Line
returns-in-Line c =
    map-set bytes_of c.args.inputs.now.items c.in-Line.n c.new.result
    ∙ ap (set (map bytes_of c.args.inputs.now.items) c.in-Line.n) c.new.ensures.empty
    ∙ ap (λ kind. with_new_input kind (map bytes_of c.args.inputs.now.items)) (sym c.in-Line.is)

use Rattle.std.proofs.Common.{refl}
use Rattle.std.specs.Prelude.{option_to_list}
use Rattle.bk_base.proofs.Written.{took_then, broke_then, broke_within, on_err_any, on_ok_map, on_err_map}
use Rattle.bk_kernel.specs.Items.{items_of}
use Rattle.bk_kernel.proofs.Lines.{lines_more, lines_front}
use Rattle.bk_kernel.proofs.kernel.write_items.Goals as goal

pub returns-in_err-write_item-clause-failed : goal.returns-in_err-write_item-clause-failed
returns-in_err-write_item-clause-failed g c =
    on_err_any c.from_residual.result
    (broke_within _ _ _ _ _ _ (lines_front (option_to_list c.args.items.now.0) (items_of c.args.items.now) (option_to_list c.args.items.now.1) refl) c.in_err-write_item.ensures.failed)

pub returns-clause-written : goal.returns-clause-written
returns-clause-written g c =
    rw (lines_more (option_to_list c.args.items.now.0) (option_to_list c.args.items.now.1))
    (on_ok_map c.write_item-2.result (took_then _ _ _ _ _ _ _ _ c.in_ok-write_item.ensures.written) c.write_item-2.ensures.written)

pub returns-clause-failed : goal.returns-clause-failed
returns-clause-failed g c =
    rw (lines_more (option_to_list c.args.items.now.0) (option_to_list c.args.items.now.1))
    (on_err_map c.write_item-2.result (broke_then _ _ _ _ _ _ _ _ c.in_ok-write_item.ensures.written) c.write_item-2.ensures.failed)

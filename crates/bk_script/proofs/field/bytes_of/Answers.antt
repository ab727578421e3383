use Rattle.bk_script.proofs.Hex.{decode_of-is_bytes}
use Rattle.bk_script.proofs.field.bytes_of.Goals as goal

pub returns-in-Ok : goal.returns-in-Ok
returns-in-Ok c = let e = decode_of-is_bytes c.args.text.now c.requires in cc (c.in-Ok.ensures.ok, e, c.from_vec.ensures)

use Rattle.std.proofs.Common.{[]}
use Rattle.bk_store.specs.Stored.{queued}
use Rattle.bk_store.specs.Joined.{bytes_of}
use Rattle.bk_store.proofs.Lists.{put_back}
use Rattle.bk_store.proofs.queues.type_at.Goals as goal

pub returns : goal.returns
returns c = put_back bytes_of c.args.inputs.now.items c.args.line c.index_mut.result.now c.type_on.new.input [] (λ bytes. queued bytes c.args.byte) c.requires c.index_mut.ensures.value c.type_on.ensures

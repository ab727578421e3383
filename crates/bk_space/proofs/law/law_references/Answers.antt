use Rattle.std.proofs.Common.{true, false}
use Rattle.bk_space.specs.AddrSpace.{page_at, read_at, write_at, content}
use Rattle.bk_space.proofs.ReferenceLemmas.{Completes-ok, ok-Completes}
use Rattle.bk_space.proofs.law.law_references.Goals as goal

pub returns-clause-read : goal.returns-clause-read
unfolding read_at
returns-clause-read c = λ pages mode space width addr. (
  Completes-ok (content (page_at pages mode space addr) width addr) (page_at pages mode space addr) width addr false,
  ok-Completes (content (page_at pages mode space addr) width addr) (page_at pages mode space addr) width addr false,
)

pub returns-clause-write : goal.returns-clause-write
unfolding write_at
returns-clause-write c = λ pages mode space width addr.
    (Completes-ok tt (page_at pages mode space addr) width addr true, ok-Completes tt (page_at pages mode space addr) width addr true)

use Rattle.std.proofs.Common.{◌≡◌, ℕ, ◌+◌, ◌++◌, min, length, take, drop, Some, sym, ap, ◌∙◌, subst, arith, take-add, drop-drop}
use Rattle.bk_base.specs.Memory.{MemInput, given_by, after_read}
use Rattle.bk_base.specs.Outside.{Reads}
use Rattle.bk_base.proofs.NextBytes.{reads_next}
use Rattle.bk_base.proofs.mem_source.MemSourceSource.read.Goals as goal

pub returns-clause-bytes : goal.returns-clause-bytes
returns-clause-bytes c =
    let at : ℕ = c.self.inside.at in
    let n : ℕ = c.copy_from-n.result in
    let rest : c.split_at.result.1.now ≡ drop at c.self.inside.bytes.items = c.split_at.ensures.back ∙ ap (drop at) c.deref.ensures.value in
    subst (λ l. Reads c.args.max n (Some l) (Some (drop (at + n) c.self.inside.bytes.items)) c.copy_from-n.new.self)
    (ap (λ s. s.left) c.self.view_is)
    (reads_next c.self.inside.bytes.items _ at n c.min.result c.args.max
    (c.copy_from-n.ensures.bytes ∙ ap (take n) rest)
    (c.copy_from-n.ensures.count ∙ ap (λ l. min c.min.result (min 4096 (length l))) rest)
    (omega (arith, c.min.ensures, c.self.invariant.1, c.requires))
    (omega (arith, c.min.ensures)))

pub returns-clause-given : goal.returns-clause-given
returns-clause-given c =
    let at : ℕ = c.self.inside.at in
    let n : ℕ = c.copy_from-n.result in
    let rest : c.split_at.result.1.now ≡ drop at c.self.inside.bytes.items = c.split_at.ensures.back ∙ ap (drop at) c.deref.ensures.value in
    let read : c.copy_from-n.new.self ≡ take n (drop at c.self.inside.bytes.items) = c.copy_from-n.ensures.bytes ∙ ap (take n) rest in
    take-add at n c.self.inside.bytes.items ∙ (λ i. (c.self.view_is i).given ++ sym read i)

pub returns-clause-after : goal.returns-clause-after
returns-clause-after c =
    let at : ℕ = c.self.inside.at in
    let n : ℕ = c.copy_from-n.result in
    let rest : c.split_at.result.1.now ≡ drop at c.self.inside.bytes.items = c.split_at.ensures.back ∙ ap (drop at) c.deref.ensures.value in
    let count : n ≡ min (min c.args.max c.self.inside.piece) (min 4096 (length (drop at c.self.inside.bytes.items))) =
    c.copy_from-n.ensures.count ∙ (λ i. min (c.min.ensures i) (min 4096 (length (rest i)))) in
    let after : MemInput = record {
      given = take (at + n) c.self.inside.bytes.items;
      left = drop (at + n) c.self.inside.bytes.items;
      piece = c.self.inside.piece;
      fails = c.self.inside.fails.items;
      calls = c.saturating_add-self-inside.result;
      faults = c.self.inside.faults;
    } in
    subst (λ (s : MemInput). (n ≡ given_by s c.args.max) × (after ≡ after_read s n)) c.self.view_is (
      count,
      (λ i. record {
        given = take-add at n c.self.inside.bytes.items i;
        left = sym (drop-drop n at c.self.inside.bytes.items) i;
        piece = c.self.inside.piece;
        fails = c.self.inside.fails.items;
        calls = c.saturating_add-self-inside.ensures i;
        faults = c.self.inside.faults;
      }),
    )

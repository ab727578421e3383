use Rattle.std.proofs.Common.{◌≡◌, ℕ, ◌+◌, ◌++◌, min, length, take, drop, Some, sym, ap, ◌∙◌, subst, arith, take-add, drop-drop}
use Rattle.bk_base.specs.Memory.{SteadyInput, after_steady_read}
use Rattle.bk_base.specs.Outside.{Reads}
use Rattle.bk_base.proofs.NextBytes.{reads_next}
use Rattle.bk_base.proofs.steady_source.SteadySourceSource.read.Goals as goal

pub returns-clause-bytes : goal.returns-clause-bytes
returns-clause-bytes c =
    let at : ℕ = c.self.inside.at in
    let n : ℕ = c.copy_from-n.result in
    let rest : c.split_at.result.1.now ≡ drop at c.self.inside.bytes.items = c.split_at.ensures.back ∙ ap (drop at) c.deref.ensures.value in
    subst (λ l. Reads c.args.max n (Some l) (Some (drop (at + n) c.self.inside.bytes.items)) c.copy_from-n.new.self)
    (ap (λ s. s.left) c.self.view_is)
    (reads_next c.self.inside.bytes.items _ at n c.args.max c.args.max
    (c.copy_from-n.ensures.bytes ∙ ap (take n) rest)
    (c.copy_from-n.ensures.count ∙ ap (λ l. min c.args.max (min 4096 (length l))) rest)
    c.requires
    (omega arith))

pub returns-clause-given : goal.returns-clause-given
returns-clause-given c =
    let at : ℕ = c.self.inside.at in
    let n : ℕ = c.copy_from-n.result in
    let rest : c.split_at.result.1.now ≡ drop at c.self.inside.bytes.items = c.split_at.ensures.back ∙ ap (drop at) c.deref.ensures.value in
    let read : c.copy_from-n.new.self ≡ take n (drop at c.self.inside.bytes.items) = c.copy_from-n.ensures.bytes ∙ ap (take n) rest in
    take-add at n c.self.inside.bytes.items ∙ (λ i. (c.self.view_is i).given ++ sym read i)

pub returns-clause-after : goal.returns-clause-after
returns-clause-after c =
    let at : ℕ = c.self.inside.at in
    let n : ℕ = c.copy_from-n.result in
    let rest : c.split_at.result.1.now ≡ drop at c.self.inside.bytes.items = c.split_at.ensures.back ∙ ap (drop at) c.deref.ensures.value in
    let count : n ≡ min c.args.max (min 4096 (length (drop at c.self.inside.bytes.items))) =
    c.copy_from-n.ensures.count ∙ ap (λ l. min c.args.max (min 4096 (length l))) rest in
    let after : SteadyInput = record { given = take (at + n) c.self.inside.bytes.items; left = drop (at + n) c.self.inside.bytes.items } in
    subst (λ (s : SteadyInput). (n ≡ min c.args.max (min 4096 (length s.left))) × (after ≡ after_steady_read s n)) c.self.view_is (
      count,
      (λ i. record {
        given = take-add at n c.self.inside.bytes.items i;
        left = sym (drop-drop n at c.self.inside.bytes.items) i;
      }),
    )

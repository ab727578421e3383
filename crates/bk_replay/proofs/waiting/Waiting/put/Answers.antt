use Rattle.std.proofs.Common.{◌∙◌, ◌≡◌, ◌+◌, ◌++◌, ℕ, List, drop, take, ap, arith, length, length-take}
use Rattle.std.proofs.lemmas.List.{drop-append-le}
use Rattle.std.proofs.lemmas.Slice.{take-put_mid}
use Rattle.bk_replay.specs.Gathered.{Waits, waiting_of}
use Rattle.bk_replay.proofs.waiting.Waiting.put.Goals as goal

pub returns-clause-waiting : goal.returns-clause-waiting
returns-clause-waiting c =
    let w = c.self.inside in
    let n : ℕ = c.min-n.result in
    let piece : List ℕ = c.args.piece.now in
    let copied : c.copy_from_slice.new.self ≡ take n piece = c.copy_from_slice.ensures.after in
    let whole = take-put_mid w.put _ w.bytes c.copy_from_slice.new.self (w.put + n) (omega (arith, ap length copied, length-take n piece, c.min-n.ensures)) (omega (arith, c.self.told, c.self.invariant)) in
    ap (drop w.sent) whole
    ∙ drop-append-le w.sent (take w.put w.bytes) c.copy_from_slice.new.self (omega (arith, length-take w.put w.bytes, c.self.told, c.self.invariant))
    ∙ ap (λ l. drop w.sent (take w.put w.bytes) ++ l) copied
    ∙ ap (λ (v : Waits). waiting_of v ++ take n piece) c.self.view_is

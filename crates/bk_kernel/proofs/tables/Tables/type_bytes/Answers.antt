use Rattle.std.proofs.Common.{◌∙◌, ℕ, suc, List, drop, get_or, sym, ap, add-one, drop-cons}
use Rattle.std.proofs.lemmas.List.{drop_all}
use Rattle.bk_state.specs.State.{State}
use Rattle.bk_system.specs.Arrivals.{arrived}
use Rattle.bk_kernel.proofs.Typing.{arrived-cons, arrived-none}
use Rattle.bk_kernel.proofs.tables.Tables.type_bytes.Goals as goal

pub loop-byte-preserved : goal.loop-byte-preserved
loop-byte-preserved c =
    let bytes = c.args.bytes.now in
    let i = c.loop-byte.byte-index in
    record {
      state =
          ap (λ n. arrived c.type_byte.new.self.state c.args.line (drop n bytes)) (add-one i)
          ∙ ap (λ (v : State). arrived v c.args.line (drop (suc i) bytes)) c.type_byte.ensures.state
          ∙ arrived-cons c.loop-byte.self.state c.args.line (get_or bytes i 0) (drop (suc i) bytes)
          ∙ ap (λ (bs : List ℕ). arrived c.loop-byte.self.state c.args.line bs) (sym (drop-cons bytes i 0 c.loop-byte-test.true))
          ∙ c.loop-byte.invariant.state;
      machine = c.type_byte.ensures.rest.0 ∙ c.loop-byte.invariant.machine;
      loaded = c.type_byte.ensures.rest.1 ∙ c.loop-byte.invariant.loaded;
    }

pub returns : goal.returns
returns c = record {
  state =
      sym (arrived-none c.loop-byte.self.state c.args.line)
      ∙ ap (λ (bs : List ℕ). arrived c.loop-byte.self.state c.args.line bs) (sym (drop_all c.loop-byte.byte-index c.args.bytes.now c.loop-byte-test.false))
      ∙ c.loop-byte.invariant.state;
  rest = (c.loop-byte.invariant.machine, c.loop-byte.invariant.loaded);
}

use Rattle.std.proofs.Common.{◌∙◌, false, ap, sym}
use Rattle.bk_level.specs.Levels.{level_at}
use Rattle.bk_object.specs.declared.kind.Kind.TheVariants.{Directory}
use Rattle.bk_state.specs.declared.clearance.Clearance.{Clearance}
use Rattle.bk_calls.proofs.Seen.{clearance-seen, rises-seen}
use Rattle.bk_calls.proofs.level_calls.facts_of_raise.Goals as goal

pub returns : goal.returns
returns c = λ words.
    let store = c.args.store.now in
    let caller = c.args.caller.now in
    let levels = sym (clearance-seen caller store words caller.subject c.requires.caller.subject) in
    λ i. record {
      named = false;
      there = false;
      root = false;
      kind = Directory;
      row = record { 0 = c.from_bits_retain.ensures tt i };
      f_s = (c.level_at.ensures ∙ ap (λ (k : Clearance). level_at store.levels k.greatest) levels) i;
      f_c = (c.level_at-2.ensures ∙ ap (λ (k : Clearance). level_at store.levels k.current) levels) i;
      f_o = c.lowest.ensures i;
      parent_write = false;
      parent_level = c.lowest-2.ensures i;
      new_level = c.level_at-3.ensures i;
      taken = false;
      fits = false;
      rises = (c.may_rise.ensures ∙ sym (rises-seen caller store words caller.subject c.args.level)) i;
      modes = record { 0 = c.from_bits_retain-2.ensures tt i };
    }

use Rattle.std.proofs.Common.{◌≡◌, false, Option, sym, ap, ◌∙◌, is_some}
use Rattle.std.specs.Prelude.{option_map, unwrap_or}
use Rattle.bk_level.specs.Levels.{level_at, lowest}
use Rattle.bk_object.specs.Modes.{Write, no_modes}
use Rattle.bk_object.specs.Rows.{in_row}
use Rattle.bk_object.specs.declared.Facts.{Facts}
use Rattle.bk_object.specs.declared.kind.Kind.TheVariants.{Directory}
use Rattle.bk_path.specs.Paths.{is_root, parent}
use Rattle.bk_state.specs.State.{facts_at}
use Rattle.bk_state.specs.Named.{is_named}
use Rattle.bk_state.specs.declared.clearance.Clearance.{Clearance}
use Rattle.bk_store.specs.Stored.{holds}
use Rattle.bk_calls.specs.Made.{seen_by}
use Rattle.bk_calls.proofs.Seen.{facts-seen, clearance-seen}
use Rattle.bk_calls.proofs.facts.facts_there.Goals as goal

pub returns : goal.returns
returns c = λ words rule request at modes.
    let store = c.args.store.now in
    let caller = c.args.caller.now in
    let object : c.facts-object.result ≡ facts_at (seen_by caller store words) request.path = c.facts-object.ensures ∙ sym (facts-seen caller store words c.args.path) ∙ ap (facts_at (seen_by caller store words)) (sym at) in
    let levels = sym (clearance-seen caller store words caller.subject c.requires.subject) in
    λ i. record {
      named = (c.is_named.ensures caller words ∙ ap (is_named (seen_by caller store words) caller.subject) (sym at)) i;
      there = (c.is_some.ensures ∙ ap (λ (o : Option Facts). is_some o) object) i;
      root = (c.is_root.ensures ∙ ap is_root (sym at)) i;
      kind = (c.kind_of.ensures ∙ ap (λ (o : Option Facts). unwrap_or (option_map (λ facts. facts.kind) o) Directory) object) i;
      row = (c.row_of.ensures ∙ ap (λ (o : Option Facts). unwrap_or (option_map (λ facts. in_row facts.row caller.subject) o) no_modes) object) i;
      f_s = (c.level_at.ensures ∙ ap (λ (k : Clearance). level_at store.levels k.greatest) levels) i;
      f_c = (c.level_at-2.ensures ∙ ap (λ (k : Clearance). level_at store.levels k.current) levels) i;
      f_o = (c.level_of.ensures ∙ ap (λ (o : Option Facts). unwrap_or (option_map (λ facts. level_at store.levels facts.level) o) lowest) object) i;
      parent_write = (c.writes.ensures ∙ ap (λ p. holds store caller.subject p Write) (c.above.ensures ∙ ap parent (sym at))) i;
      parent_level = c.lowest.ensures i;
      new_level = c.lowest-2.ensures i;
      taken = (c.is_some-2.ensures ∙ ap (λ (o : Option Facts). is_some o) object) i;
      fits = false;
      rises = false;
      modes = sym modes i;
    }

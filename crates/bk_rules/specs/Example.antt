-- Facts of which each answer was worked by hand: a named segment that grants the caller r, w and a, and levels that differ.
use Rattle.std.specs.Prelude.{Bool, true, false}
use Rattle.bk_level.specs.Levels.{Level}
use Rattle.bk_object.specs.Modes.{no_modes}
use Rattle.bk_object.specs.declared.Kind.TheVariants.{Segment}
use Rattle.bk_state.specs.Example.{low}
use Rattle.bk_rules.specs.declared.facts.RuleFacts.{RuleFacts}

-- an object of a level, for a caller whose greatest and current levels are these
abbrev pub seen_from : (greatest current object : Level) → RuleFacts
seen_from greatest current object = record {
  named = true;
  there = true;
  root = false;
  kind = Segment;
  row = record { 0 = 13 };
  f_s = greatest;
  f_c = current;
  f_o = object;
  parent_write = false;
  parent_level = low;
  new_level = low;
  taken = true;
  fits = false;
  rises = false;
  modes = no_modes;
}

-- a caller with these levels that asks for a new one, and whether what it holds allows that
abbrev pub rising : (greatest current new : Level) → Bool → RuleFacts
rising greatest current new allowed = record (seen_from greatest current low) { new_level = new; rises = allowed }

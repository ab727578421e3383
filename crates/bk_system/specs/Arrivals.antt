-- Typed bytes: what a line takes when they arrive.
use Rattle.std.specs.Prelude.{ℕ, List, fold, if◌then◌else◌}
use Rattle.bk_base.specs.Maps.{map_values}
use Rattle.bk_state.specs.State.{State, Object, Contents, Children, Words, Messages, Typed}
use Rattle.bk_state.specs.Contents.{queued}
use Rattle.bk_state.specs.Start.{is_line}

-- a line's contents after the bytes, one after another
abbrev pub typed : List ℕ → Contents → Contents
typed bytes Children = Children
typed bytes (Words words) = Words words
typed bytes (Messages waiting lost) = Messages waiting lost
typed bytes (Typed waiting) = Typed (fold queued waiting bytes)

-- the object of that line takes the bytes
abbrev pub taking : ℕ → List ℕ → Object → Object
taking line bytes o = record { facts = o.facts; contents = if is_line line o.facts.kind then typed bytes o.contents else o.contents }

-- bytes arrive on a line
unfoldable pub arrived : State → ℕ → List ℕ → State
arrived v line bytes = record v { objects = map_values (taking line bytes) v.objects }

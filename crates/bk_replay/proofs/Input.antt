-- What holds of the bytes that were read, carried on.
use Rattle.std.proofs.Common.{ℕ, List, Some, None, IfSome}
use Rattle.std.specs.Prelude.{Option}
use Rattle.bk_base.specs.Outside.{SourceState, given_since}
use Rattle.bk_replay.specs.Input.{OnInput}

pub some_all : (left : Option (List ℕ)) (Q : List ℕ → Type 0) → ((bytes : List ℕ) → Q bytes) → IfSome left Q
some_all None Q f = tt
some_all (Some bytes) Q f = f bytes

pub some_map : (left : Option (List ℕ)) (P Q : List ℕ → Type 0) → ((bytes : List ℕ) → P bytes → Q bytes) → IfSome left P → IfSome left Q
some_map None P Q f p = tt
some_map (Some bytes) P Q f p = f bytes p

pub input_map : (most : ℕ) (before after : SourceState) (P Q : List ℕ → Type 0) → ((bytes : List ℕ) → P bytes → Q bytes) → OnInput most before after P → OnInput most before after Q
input_map most before after P Q f p = record {
  given = f (given_since before after) p.given;
  within = p.within;
  whole = p.whole;
  left = some_map before.left P Q f p.left;
}

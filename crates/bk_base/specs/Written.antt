-- What a text that is written in pieces has done to a sink.
use Rattle.std.specs.Prelude.{◌≡◌, ℕ, ◌≤◌, List, ◌++◌, Option}
use Rattle.std.specs.Io.KnownBytes.{Appends}
use Rattle.bk_base.specs.Outside.{Rose}

-- a front of the text
abbrev pub IsFront : List ℕ → List ℕ → Type 0
IsFront front text = (rest : List ℕ) × (text ≡ front ++ rest)

-- the text went out: it was appended where the sink tells its bytes, and no write failed, so the count of faults is as before
pub record Took (before after : Option (List ℕ)) (faults_before faults_after : ℕ) (text : List ℕ) : Type 0 where
  pub bytes : Appends before after text
  pub told : faults_after ≡ faults_before

-- a write failed: a front of the text went out, and the count of faults rose
pub record Broke (before after : Option (List ℕ)) (faults_before faults_after : ℕ) (text : List ℕ) : Type 0 where
  pub part : (front : List ℕ) × IsFront front text × Appends before after front
  pub rose : Rose faults_before faults_after
  pub later : faults_before ≤ faults_after

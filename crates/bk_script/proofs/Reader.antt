-- Where a reader of a script stands, and what each kind of next line makes of the script.
use Rattle.std.proofs.Common.{◌≡◌, ℕ, ◌+◌, ◌≤◌, List, [], ◌∷◌, ◌++◌, length, Some, None, Ok, Err, sym, ap, ◌∙◌}
use Rattle.std.specs.Prelude.{Option, Result, ◌==◌}
use Rattle.std.specs.List.{slice_split}
use Rattle.bk_system.specs.declared.TypedAt.{TypedAt}
use Rattle.bk_script.specs.Limits.{most_bytes}
use Rattle.bk_script.specs.declared.fault.ScriptFault.{ScriptFault}
use Rattle.bk_script.specs.declared.fault.ScriptKind.TheVariants as kind
use Rattle.bk_script.specs.declared.line.Line.{Line}
use Rattle.bk_script.specs.declared.line.Line.TheVariants.{Record, Ends}
use Rattle.bk_script.specs.Fault.{fault, fault_at}
use Rattle.bk_base.specs.Faults.{first_failing, ◌>>=◌}
use Rattle.bk_script.specs.Lines.{line_of, record_checks, end_checks, ended, line_at, lines_at, script_of}
use Rattle.bk_script.proofs.Parts.{lines_at-cut, script_of-short}

-- before the line numbered at, after the records that were read, with the rest of the bytes
pub record Stands (lines turns at : ℕ) (bytes rest : List ℕ) (before : List TypedAt) : Type 0 where
  pub short : length bytes ≤ most_bytes
  pub same : lines_at lines turns at before (slice_split (λ b. b == 10) rest) ≡ lines_at lines turns 1 [] (slice_split (λ b. b == 10) bytes)

-- the next line, the bytes after it, and what it says
pub record Next (rest text more : List ℕ) (said : Option Line) : Type 0 where
  pub found : slice_split (λ b. b == 10) rest ≡ text ∷ slice_split (λ b. b == 10) more
  pub says : line_of text ≡ said

-- the lines after the next one
abbrev pub others : ℕ → ℕ → ℕ → List ℕ → List TypedAt → Result (List TypedAt × ℕ) ScriptFault
others lines turns at more records = lines_at lines turns (at + 1) records (slice_split (λ b. b == 10) more)

-- a record behind those before
abbrev pub with_record : List TypedAt → ℕ → ℕ → List ℕ → List TypedAt
with_record before slot line bytes = before ++ record { slot = slot; line = line; bytes = bytes } ∷ []

-- the script by its next line
next_line : {lines turns at : ℕ} {bytes rest text more : List ℕ} {before : List TypedAt} {said : Option Line}
    → Stands lines turns at bytes rest before → Next rest text more said
    → script_of lines turns bytes ≡ line_at lines turns at before said (slice_split (λ b. b == 10) more) (others lines turns at more)
next_line {lines} {turns} {at} {bytes} {rest} {text} {more} {before} stands next =
    script_of-short lines turns bytes stands.short
    ∙ sym stands.same
    ∙ ap (lines_at lines turns at before) next.found
    ∙ lines_at-cut lines turns at before text (λ b. b == 10) more
    ∙ ap (λ s. line_at lines turns at before s (slice_split (λ b. b == 10) more) (others lines turns at more)) next.says

pub none_left : {lines turns at : ℕ} {bytes rest : List ℕ} {before : List TypedAt}
    → Stands lines turns at bytes rest before → slice_split (λ b. b == 10) rest ≡ rest ∷ [] → script_of lines turns bytes ≡ fault at kind.End
unfolding lines_at
none_left {lines} {turns} {at} {bytes} {rest} {before} stands none =
    script_of-short lines turns bytes stands.short ∙ sym stands.same ∙ ap (lines_at lines turns at before) none

pub neither : {lines turns at : ℕ} {bytes rest text more : List ℕ} {before : List TypedAt}
    → Stands lines turns at bytes rest before → Next rest text more None → script_of lines turns bytes ≡ fault at kind.Form
neither stands next = next_line stands next

pub record_refused : {lines turns at : ℕ} {bytes rest text more : List ℕ} {before : List TypedAt} {slot line : ℕ} {hex : List ℕ} {f : ScriptFault}
    → Stands lines turns at bytes rest before → Next rest text more (Some (Record slot line hex))
    → first_failing (fault_at at) (record_checks lines before slot line) ≡ Err f → script_of lines turns bytes ≡ Err f
record_refused {lines} {turns} {at} {bytes} {rest} {text} {more} {before} {slot} {line} {hex} stands next bad =
    next_line stands next ∙ ap (λ r. r >>= (λ passed. others lines turns at more (with_record before slot line hex))) bad

pub record_taken : {lines turns at : ℕ} {bytes rest text more : List ℕ} {before : List TypedAt} {slot line : ℕ} {hex : List ℕ}
    → Stands lines turns at bytes rest before → Next rest text more (Some (Record slot line hex))
    → first_failing (fault_at at) (record_checks lines before slot line) ≡ Ok tt → Stands lines turns (at + 1) bytes more (with_record before slot line hex)
record_taken {lines} {turns} {at} {bytes} {rest} {text} {more} {before} {slot} {line} {hex} stands next good = record {
  short = stands.short;
  same =
      sym (next_line stands next ∙ ap (λ r. r >>= (λ passed. others lines turns at more (with_record before slot line hex))) good)
      ∙ script_of-short lines turns bytes stands.short;
}

pub end_refused : {lines turns at : ℕ} {bytes rest text more : List ℕ} {before : List TypedAt} {slots : ℕ} {f : ScriptFault}
    → Stands lines turns at bytes rest before → Next rest text more (Some (Ends slots))
    → first_failing (fault_at at) (end_checks turns before slots) ≡ Err f → script_of lines turns bytes ≡ Err f
end_refused {lines} {turns} {at} {bytes} {rest} {text} {more} {before} {slots} stands next bad =
    next_line stands next ∙ ap (λ r. r >>= (λ passed. ended (at + 1) before slots (slice_split (λ b. b == 10) more))) bad

-- the END line stands, and then what follows counts
pub end_taken : {lines turns at : ℕ} {bytes rest text more : List ℕ} {before : List TypedAt} {slots : ℕ}
    → Stands lines turns at bytes rest before → Next rest text more (Some (Ends slots))
    → first_failing (fault_at at) (end_checks turns before slots) ≡ Ok tt
    → script_of lines turns bytes ≡ ended (at + 1) before slots (slice_split (λ b. b == 10) more)
end_taken {lines} {turns} {at} {bytes} {rest} {text} {more} {before} {slots} stands next good =
    next_line stands next ∙ ap (λ r. r >>= (λ passed. ended (at + 1) before slots (slice_split (λ b. b == 10) more))) good

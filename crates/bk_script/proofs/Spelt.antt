-- What is read of a script is spelt by its bytes, and holds of them.
use Rattle.std.proofs.Common.{◌≡◌, ℕ, ◌+◌, ◌*◌, ◌^◌, ◌<◌, ◌≤◌, Bool, true, false, List, [], ◌∷◌, ◌++◌, length, Option, Some, None, Result, Ok, Err, refl, sym}
use Rattle.std.proofs.Common.{ap, ◌∙◌, arith, subst, cond, append_assoc, nat_lt}
use Rattle.std.specs.Prelude.{◌==◌, IfOk}
use Rattle.std.specs.List.{All, AllByRecursion, slice_split, join_with_byte}
use Rattle.std.proofs.lemmas.Bool.{not-false}
use Rattle.std.proofs.lemmas.Bool.Decides.{nat_tests}
use Rattle.std.proofs.lemmas.List.{append-nil}
use Rattle.std.proofs.lemmas.List.Elements.{All-from_recursion}
use Rattle.std.proofs.lemmas.List.Splits.{join_with_byte-slice_split}
use Rattle.bk_system.specs.declared.TypedAt.{TypedAt}
use Rattle.bk_script.specs.Limits.{most_bytes}
use Rattle.bk_system.specs.Limits.{most_slots, most_turns_of_run}
use Rattle.bk_script.specs.declared.fault.ScriptFault.{ScriptFault}
use Rattle.bk_script.specs.declared.fault.ScriptKind.TheVariants as kind
use Rattle.bk_script.specs.declared.line.Line.{Line}
use Rattle.bk_script.specs.declared.line.Line.TheVariants.{Record, Ends}
use Rattle.bk_script.specs.Fault.{fault, fault_at}
use Rattle.bk_base.specs.Faults.{first_failing}
use Rattle.bk_script.specs.Lines.{line_of, last, follows, is_below, record_checks, end_checks, ended, line_at, lines_at, script_of}
use Rattle.bk_script.specs.Script.{text_of, IsTyped, IsInOrder, IsScript, parts_of}
use Rattle.bk_base.specs.declared.stop.Stop.{Stop}
use Rattle.bk_base.specs.Faults.{Gives}
use Rattle.bk_base.proofs.FaultLemmas.{bind_ok, all_pass}
use Rattle.bk_system.specs.declared.Script.{Script}
use Rattle.bk_script.proofs.Order.{last-push, Follow, in_order_from_follow, slots-below}
use Rattle.bk_script.proofs.Says.{IsRecord, IsEnd, line_says}

-- a record of the image's lines, with its bytes within their bounds
pub record IsRead (lines : ℕ) (x : TypedAt) : Type 0 where
  pub line : x.line < lines
  pub some : 1 ≤ length x.bytes
  pub short : length x.bytes ≤ 128
  pub small : All (λ b. b < 2 ^ 8) x.bytes

-- the records that are read after those before, and the slots
pub record Reads (lines turns : ℕ) (before : List TypedAt) (text : List ℕ) (records : List TypedAt) (slots : ℕ) : Type 0 where
  pub added : List TypedAt
  pub all : records ≡ before ++ added
  pub spelt : text ≡ text_of added slots
  pub few : slots ≤ most_slots
  pub within : slots * turns ≤ most_turns_of_run
  pub read : AllByRecursion (IsRead lines) added
  pub follow : Follow (last before) added
  pub below : is_below (last records) slots ≡ true

pair_ok : (a c : List TypedAt) (b d : ℕ) → ◌≡◌ {A = Result (List TypedAt × ℕ) ScriptFault} (Ok (a, b)) (Ok (c, d)) → (a ≡ c) × (b ≡ d)
pair_ok a c b d h = let e : ◌≡◌ {A = List TypedAt × ℕ} (a, b) (c, d) = cc in (ap (λ p. p.0) e, ap (λ p. p.1) e)

ended_ok : (at : ℕ) (before : List TypedAt) (slots : ℕ) (rest : List (List ℕ)) (records : List TypedAt) (n : ℕ)
    → ended at before slots rest ≡ Ok (records, n) → (join_with_byte 10 rest ≡ []) × ((before ≡ records) × (slots ≡ n))
ended_ok at before slots [] records n h = (refl, pair_ok before records slots n h)
ended_ok at before slots ([] ∷ []) records n h = (refl, pair_ok before records slots n h)
ended_ok at before slots ([] ∷ next ∷ rest) records n h = cc
ended_ok at before slots ((b ∷ text) ∷ rest) records n h = cc

-- a record in front of what is read after it
record_reads : (lines turns at : ℕ) (before : List TypedAt) (text : List ℕ) (slot line : ℕ) (bytes tail : List ℕ) (records : List TypedAt) (slots : ℕ) (x : Unit {0})
    → IsRecord text slot line bytes → first_failing (fault_at at) (record_checks lines before slot line) ≡ Ok x
    → Reads lines turns (before ++ record { slot = slot; line = line; bytes = bytes } ∷ []) tail records slots
    → Reads lines turns before (text ++ (10 ∷ tail)) records slots
unfolding text_of
record_reads lines turns at before text slot line bytes tail records slots x is passed rest =
    let r : TypedAt = record { slot = slot; line = line; bytes = bytes } in
    let checks = all_pass (fault_at at) (record_checks lines before slot line) x passed in
    record {
      added = r ∷ rest.added;
      all = rest.all ∙ append_assoc before (r ∷ []) rest.added;
      spelt = rw (is.text_is, rest.spelt) (simp append_assoc);
      few = rest.few;
      within = rest.within;
      read = (record { line = grind (arith, nat_tests, checks.1.0); some = is.some; short = is.short; small = is.small }, rest.read);
      follow = (not-false (follows (last before) slot line) checks.1.1.0, subst (λ l. Follow l rest.added) (last-push before r) rest.follow);
      below = rest.below;
    }

-- the END line
end_reads : (lines turns at : ℕ) (before : List TypedAt) (text : List ℕ) (slots n : ℕ) (rest : List (List ℕ)) (records : List TypedAt) (x : Unit {0})
    → IsEnd text slots → first_failing (fault_at at) (end_checks turns before slots) ≡ Ok x → ended (at + 1) before slots rest ≡ Ok (records, n)
    → Reads lines turns before (text ++ (10 ∷ join_with_byte 10 rest)) records n
unfolding text_of
end_reads lines turns at before text slots n rest records x is passed ok =
    let checks = all_pass (fault_at at) (end_checks turns before slots) x passed in
    let e = ended_ok (at + 1) before slots rest records n ok in
    let below : is_below (last before) slots ≡ true = not-false (is_below (last before) slots) checks.1.0 in
    let few : slots ≤ most_slots = grind (arith, nat_tests, checks.0) in
    let within : slots * turns ≤ most_turns_of_run = grind (arith, nat_tests, checks.0) in
    record {
      added = [];
      all = sym e.1.0 ∙ sym (append-nil before);
      spelt = rw (is.text_is, e.0, ← e.1.1) refl;
      few = subst (λ k. k ≤ most_slots) e.1.1 few;
      within = subst (λ k. k * turns ≤ most_turns_of_run) e.1.1 within;
      read = tt;
      follow = tt;
      below = subst (λ rs. is_below (last rs) n ≡ true) e.1.0 (subst (λ k. is_below (last before) k ≡ true) e.1.1 below);
    }

reads_at : (lines turns at : ℕ) (before : List TypedAt) (parts : List (List ℕ)) (records : List TypedAt) (slots : ℕ)
    → lines_at lines turns at before parts ≡ Ok (records, slots) → Reads lines turns before (join_with_byte 10 parts) records slots
unfolding lines_at
reads_at lines turns at before [] records slots h = cc
reads_at lines turns at before (text ∷ []) records slots h = cc
reads_at lines turns at before (text ∷ next ∷ parts) records slots h =
    by (line_of text) refl h (λ more. reads_at lines turns (at + 1) more (next ∷ parts) records slots) where
      by : (said : Option Line) → line_of text ≡ said
          → line_at lines turns at before said (next ∷ parts) (λ more. lines_at lines turns (at + 1) more (next ∷ parts)) ≡ Ok (records, slots)
          → ((more : List TypedAt) → lines_at lines turns (at + 1) more (next ∷ parts) ≡ Ok (records, slots)
          → Reads lines turns more (join_with_byte 10 (next ∷ parts)) records slots)
          → Reads lines turns before (join_with_byte 10 (text ∷ next ∷ parts)) records slots
      by None said h others = cc
      by (Some (Record slot line bytes)) said h others =
          let b = bind_ok (first_failing (fault_at at) (record_checks lines before slot line))
          (λ passed. lines_at lines turns (at + 1) (before ++ record { slot = slot; line = line; bytes = bytes } ∷ []) (next ∷ parts)) (records, slots) h in
          record_reads lines turns at before text slot line bytes (join_with_byte 10 (next ∷ parts)) records slots b.0
          (line_says text (Record slot line bytes) said) b.1 (others (before ++ record { slot = slot; line = line; bytes = bytes } ∷ []) b.2)
      by (Some (Ends n)) said h others =
          let b = bind_ok (first_failing (fault_at at) (end_checks turns before n)) (λ passed. ended (at + 1) before n (next ∷ parts)) (records, slots) h in
          end_reads lines turns at before text n slots (next ∷ parts) records b.0 (line_says text (Ends n) said) b.1 b.2

typed : (lines slots : ℕ) (xs : List TypedAt) → AllByRecursion (IsRead lines) xs → AllByRecursion (λ x. x.slot < slots) xs → AllByRecursion (IsTyped lines slots) xs
typed lines slots [] read below = tt
typed lines slots (x ∷ xs) read below =
    let r = read.0 in
    (record { slot = below.0; line = r.line; some = r.some; short = r.short; bytes = r.small }, typed lines slots xs read.1 below.1)

script_from : (lines turns : ℕ) (bytes : List ℕ) (records : List TypedAt) (slots : ℕ) → Reads lines turns [] bytes records slots
    → (bytes ≡ text_of records slots) × IsScript lines turns records slots
script_from lines turns bytes records slots r =
    let order : IsInOrder records = rw r.all (in_order_from_follow (last []) r.added r.follow) in
    let read : AllByRecursion (IsRead lines) records = rw r.all r.read in (
      r.spelt ∙ ap (λ rs. text_of rs slots) (sym r.all),
      record {
        few = r.few;
        within = r.within;
        typed = All-from_recursion (IsTyped lines slots) records (typed lines slots records read (slots-below slots records order r.below));
        order = order;
      },
    )

-- what is read is spelt by exactly these bytes, and holds of a script
pub script_of-spelt : (lines turns : ℕ) (bytes : List ℕ) (records : List TypedAt) (slots : ℕ) → script_of lines turns bytes ≡ Ok (records, slots)
    → (bytes ≡ text_of records slots) × IsScript lines turns records slots
unfolding script_of
script_of-spelt lines turns bytes records slots h = by (nat_lt most_bytes (length bytes)) h where
  by : (b : Bool) → cond b (fault 0 kind.Long) (lines_at lines turns 1 [] (slice_split (λ b. b == 10) bytes)) ≡ Ok (records, slots)
      → (bytes ≡ text_of records slots) × IsScript lines turns records slots
  by true h = cc
  by false h =
      let r = reads_at lines turns 1 [] (slice_split (λ b. b == 10) bytes) records slots h in
      script_from lines turns bytes records slots (subst (λ t. Reads lines turns [] t records slots) (join_with_byte-slice_split 10 bytes) r)

pub text_from_gives : (lines turns : ℕ) (bytes : List ℕ) (r : Result Script (Stop ScriptFault)) → Gives parts_of r (script_of lines turns bytes)
    → IfOk r (λ script. bytes ≡ text_of script.typed script.slots)
text_from_gives lines turns bytes (Ok script) h = (script_of-spelt lines turns bytes script.typed script.slots h).0
text_from_gives lines turns bytes (Err stop) h = tt

pub script_from_gives : (lines turns : ℕ) (bytes : List ℕ) (r : Result Script (Stop ScriptFault)) → Gives parts_of r (script_of lines turns bytes)
    → IfOk r (λ script. IsScript lines turns script.typed script.slots)
script_from_gives lines turns bytes (Ok script) h = (script_of-spelt lines turns bytes script.typed script.slots h).1
script_from_gives lines turns bytes (Err stop) h = tt

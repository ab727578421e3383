-- The vectors: once they are made, once a trap has pushed its two words, and once words above them have changed.
use Rattle.std.proofs.Common.{◌≡◌, ◌≢◌, ℕ, ◌<◌, ◌≤◌, ◌+◌, ◌*◌, ◌/◌, ◌-◌, List, [], ◌∷◌, All}
use Rattle.std.proofs.Common.{length, take, refl, sym, ap, ◌∙◌, subst, arith, rules, Option, Some, None}
use Rattle.std.specs.List.{AllByRecursion}
use Rattle.std.proofs.lemmas.List.{get_or-set_other, get_or-set_same, get_or-take, length-set}
use Rattle.std.proofs.lemmas.List.Elements.{All-from_recursion, recursion_from_All}
use Rattle.bk_space.specs.declared.cause.Cause.TheVariants.{Odd, NonResident, Length, ReadOnly, Reserved, Break, Iot, Trap}
use Rattle.bk_space.specs.declared.registers.Regs.{Regs}
use Rattle.bk_space.specs.Status.{mode_bits, word_of}
use Rattle.bk_exec.specs.declared.event.Event.{Event}
use Rattle.bk_exec.specs.declared.event.Event.TheVariants.{Ran, Call, Fault}
use Rattle.bk_object.specs.Limits.{words_of_block}
use Rattle.bk_core.specs.Memory.{kernel_blocks, with_word, word_at, words_of_core}
use Rattle.bk_machine.specs.declared.registers.KernelRegs.{KernelRegs}
use Rattle.bk_machine.specs.Machine.{kernel_words}
use Rattle.bk_machine.specs.Trap.{entered, entered_at, entered_by, kernel_stack, pushed, trap_stack, trapped_by, vector_of, with_previous}
use Rattle.bk_machine.specs.Vectors.{HasVector, HasVectors, kernel_status, program_of, vectors, with_each, with_vector, with_vectors}

-- ---- words that have not changed

-- below this address all words are the same
abbrev pub SameLow : List ℕ → List ℕ → Type 0
SameLow old new = (addr : ℕ) → addr < 0o400 → word_at new addr ≡ word_at old addr

low : All (λ at. at + 2 < 0o400) vectors
low = All-from_recursion (λ at. at + 2 < 0o400) vectors (omega arith, (omega arith, (omega arith, (omega arith, (omega arith, (omega arith, (omega arith, tt)))))))

-- the vectors lie below it
pub vectors-same : (old new : List ℕ) → SameLow old new → HasVectors old → HasVectors new
vectors-same old new same has = λ k d inside.
    let below = low k d inside in
    record { program = same _ (omega (arith, below)) ∙ (has k d inside).program; status = same _ below ∙ (has k d inside).status }

word-take : (words : List ℕ) (n addr : ℕ) → addr / 2 < n → word_at (take n words) addr ≡ word_at words addr
word-take words n addr inside = get_or-take n words (addr / 2) 0 inside

-- the kernel's blocks keep their words
pub vectors-kept : (old new : List ℕ) → kernel_words new ≡ kernel_words old → HasVectors old → HasVectors new
vectors-kept old new kept = vectors-same old new (λ addr inside.
    let n : ℕ = words_of_block * kernel_blocks in
    let half : addr / 2 < n = omega (arith, inside) in
    sym (word-take new n addr half) ∙ ap (λ words. word_at words addr) kept ∙ word-take old n addr half)

-- a word above is another one
with_word-other : (words : List ℕ) (at value addr : ℕ) → addr / 2 ≢ at / 2 → word_at (with_word words at value) addr ≡ word_at words addr
with_word-other words at value addr other = get_or-set_other words (at / 2) (addr / 2) value 0 other

-- a trap pushes its words above
pub vectors-trapped : (at : Option ℕ) (process : Regs) (words : List ℕ) → HasVectors words → HasVectors (trapped_by at process words)
vectors-trapped None process words has = has
vectors-trapped (Some at) process words has = vectors-same words (pushed process words) (λ addr inside.
    with_word-other (with_word words (kernel_stack - 2) (word_of process.ps)) trap_stack process.pc addr (λ e. omega (arith, e, inside))
    ∙ with_word-other words (kernel_stack - 2) (word_of process.ps) addr (λ e. omega (arith, e, inside))) has

-- ---- the vectors are made

with_vector-length : (words : List ℕ) (at : ℕ) → length (with_vector words at) ≡ length words
with_vector-length words at = length-set (with_word words at (program_of at)) ((at + 2) / 2) kernel_status ∙ length-set words (at / 2) (program_of at)

with_each-length : (ats words : List ℕ) → length (with_each ats words) ≡ length words
with_each-length [] words = refl
with_each-length (at ∷ ats) words = with_vector-length (with_each ats words) at ∙ with_each-length ats words

made_here : (words : List ℕ) (at : ℕ) → (at + 2) / 2 < length words → HasVector (with_vector words at) at
made_here words at inside = record {
  program = with_word-other (with_word words at (program_of at)) (at + 2) kernel_status at (λ e. omega (arith, e)) ∙ get_or-set_same words (at / 2) (program_of at) 0 (omega (arith, inside));
  status = get_or-set_same (with_word words at (program_of at)) ((at + 2) / 2) kernel_status 0 (omega (arith, inside, length-set words (at / 2) (program_of at)));
}

-- a vector further up stays
made_below : (words : List ℕ) (at other : ℕ) → at + 4 ≤ other → HasVector words other → HasVector (with_vector words at) other
made_below words at other above has = record { program = same other (omega arith) ∙ has.program; status = same (other + 2) (omega arith) ∙ has.status }
  where
    same : (addr : ℕ) → at + 4 ≤ addr → word_at (with_vector words at) addr ≡ word_at words addr
    same addr past = with_word-other (with_word words at (program_of at)) (at + 2) kernel_status addr (λ e. omega (arith, e, past)) ∙ with_word-other words at (program_of at) addr (λ e. omega (arith, e, past))

-- each address is below the next ones, and inside core
abbrev Rising : List ℕ → Type 0
Rising [] = Unit {0}
Rising (at ∷ ats) = (at + 4 < words_of_core) × AllByRecursion (λ other. at + 4 ≤ other) ats × Rising ats

made_others : (at : ℕ) (ats words : List ℕ) → AllByRecursion (λ other. at + 4 ≤ other) ats → AllByRecursion (HasVector words) ats → AllByRecursion (HasVector (with_vector words at)) ats
made_others at [] words above has = tt
made_others at (other ∷ ats) words above has = (made_below words at other above.0 has.0, made_others at ats words above.1 has.1)

made_each : (ats words : List ℕ) → length words ≡ words_of_core → Rising ats → AllByRecursion (HasVector (with_each ats words)) ats
made_each [] words full rising = tt
made_each (at ∷ ats) words full rising =
    (made_here (with_each ats words) at (omega (arith, rising.0, with_each-length ats words, full)), made_others at ats (with_each ats words) rising.1 (made_each ats words full rising.2))

rising : Rising vectors
rising = search (rules)

pub vectors-made : (words : List ℕ) → length words ≡ words_of_core → HasVectors (with_vectors words)
vectors-made words full = All-from_recursion (HasVector (with_vectors words)) vectors (made_each vectors words full rising)

-- ---- kernel mode is entered through them

through : (words : List ℕ) (process : Regs) (at : ℕ) → HasVector words at →
    entered_at at process words ≡ record { pc = at + 0o400; sp = 0o7774; ps = mode_bits process.ps.mode * 0o10000 + 0o340 }
through words process at has = λ i. record { pc = has.program i; sp = 0o7774; ps = (ap (with_previous process.ps.mode) has.status ∙ status) i }
  where
    status : with_previous process.ps.mode kernel_status ≡ mode_bits process.ps.mode * 0o10000 + 0o340
    status = omega arith

-- the vector of an event is one of them
has_vector : (words : List ℕ) (event : Event) (at : ℕ) → AllByRecursion (HasVector words) vectors → vector_of event ≡ Some at → HasVector words at
has_vector words Ran at has is = cc
has_vector words (Call n) at has is = let e : 0o30 ≡ at = cc in subst (λ v. HasVector words v) e has.1.1.1.1.0
has_vector words (Fault Odd) at has is = let e : 0o4 ≡ at = cc in subst (λ v. HasVector words v) e has.0
has_vector words (Fault NonResident) at has is = let e : 0o250 ≡ at = cc in subst (λ v. HasVector words v) e has.1.1.1.1.1.1.0
has_vector words (Fault Length) at has is = let e : 0o250 ≡ at = cc in subst (λ v. HasVector words v) e has.1.1.1.1.1.1.0
has_vector words (Fault ReadOnly) at has is = let e : 0o250 ≡ at = cc in subst (λ v. HasVector words v) e has.1.1.1.1.1.1.0
has_vector words (Fault Reserved) at has is = let e : 0o10 ≡ at = cc in subst (λ v. HasVector words v) e has.1.0
has_vector words (Fault Break) at has is = let e : 0o14 ≡ at = cc in subst (λ v. HasVector words v) e has.1.1.0
has_vector words (Fault Iot) at has is = let e : 0o20 ≡ at = cc in subst (λ v. HasVector words v) e has.1.1.1.0
has_vector words (Fault Trap) at has is = let e : 0o34 ≡ at = cc in subst (λ v. HasVector words v) e has.1.1.1.1.1.0

pub entered-through : (words : List ℕ) (event : Event) (process : Regs) (at : ℕ) → HasVectors words → vector_of event ≡ Some at →
    entered event process words ≡ Some (record { pc = at + 0o400; sp = 0o7774; ps = mode_bits process.ps.mode * 0o10000 + 0o340 })
entered-through words event process at has is =
    ap (λ v. entered_by v process words) is ∙ ap (λ (k : KernelRegs). Some k) (through words process at (has_vector words event at (recursion_from_All (HasVector words) vectors has) is))

use Rattle.std.proofs.Common.{◌≡◌, ℕ, ℤ, pos, negsuc, ◌+ℤ◌, ◌-ℤ◌, ◌≤ℤ◌, ◌^◌, ◌<◌, ◌==◌, Bool, true, false, Some}
use Rattle.std.proofs.Common.{None, zero, suc, List, [], ◌∷◌, length, refl, sym, ◌∙◌, ap, arith, slice_index, slice_set, FitsSigned, w8}
use Rattle.std.specs.Prelude.{Option}
use Rattle.std.proofs.lemmas.List.{get_or-set_same, set-get_or, set-set, length-set}
use Rattle.std.proofs.lemmas.Int.{ints}
use Rattle.std.proofs.lemmas.Bool.Decides.{nat_tests}
use Rattle.bk_space.specs.declared.reference.Mode.{Mode}
use Rattle.bk_space.specs.declared.reference.Mode.TheVariants.{Supervisor, User}
use Rattle.bk_space.specs.declared.registers.Regs.{Regs}
use Rattle.bk_space.specs.Registers.{reg_by, with_reg_by, reg, with_reg, wrapped, moved, IsRegs}
use Rattle.bk_space.specs.declared.note.Note.{Note}
use Rattle.bk_space.specs.Trail.{Trail, pair_of}
use Rattle.bk_space.specs.Undo.{taken_back, undone, noted, noted_at, HasRoom, IsFresh, moved_by, HasMoved}

-- a list whose element is replaced and put back
put_back : (xs : List ℕ) (i v : ℕ) → slice_set (slice_set xs i v) i (slice_index xs i) ≡ xs
put_back xs i v = set-set xs i v (slice_index xs i) ∙ set-get_or xs i 0

back_by : (b c : Bool) (mode : Mode) (regs : Regs) (n v : ℕ) → with_reg_by b c mode (with_reg_by b c mode regs n v) n (reg_by b c mode regs n) ≡ regs
back_by true c mode regs n v = refl
back_by false true Supervisor regs n v = refl
back_by false true User regs n v = refl
back_by false false mode regs n v = ap (λ (g : List ℕ). record regs { general = g }) (put_back regs.general n v)

mode_stays : (b c : Bool) (mode : Mode) (regs : Regs) (n v : ℕ) → (with_reg_by b c mode regs n v).ps.mode ≡ regs.ps.mode
mode_stays true c mode regs n v = refl
mode_stays false true Supervisor regs n v = refl
mode_stays false true User regs n v = refl
mode_stays false false mode regs n v = refl

-- a register that is replaced and put back
with_reg-back : (regs : Regs) (n v : ℕ) → with_reg (with_reg regs n v) n (reg regs n) ≡ regs
unfolding with_reg reg
with_reg-back regs n v =
    ap (λ m. with_reg_by (n == 7) (n == 6) m (with_reg_by (n == 7) (n == 6) regs.ps.mode regs n v) n (reg_by (n == 7) (n == 6) regs.ps.mode regs n)) (mode_stays (n == 7) (n == 6) regs.ps.mode regs n v)
    ∙ back_by (n == 7) (n == 6) regs.ps.mode regs n v

got_by : (b c : Bool) (mode : Mode) (regs : Regs) (n v : ℕ) → (b ≡ false → c ≡ false → n < length regs.general) → reg_by b c mode (with_reg_by b c mode regs n v) n ≡ v
got_by true c mode regs n v h = refl
got_by false true Supervisor regs n v h = refl
got_by false true User regs n v h = refl
got_by false false mode regs n v h = get_or-set_same regs.general n v 0 (h refl refl)

below_six : (n m : ℕ) → n < 8 → m ≡ 6 → (n == 7) ≡ false → (n == 6) ≡ false → n < m
below_six n m h e p q = grind (arith, nat_tests)

-- a register that is replaced
pub reg-with_reg : (regs : Regs) (n v : ℕ) → n < 8 → length regs.general ≡ 6 → reg (with_reg regs n v) n ≡ v
unfolding with_reg reg
reg-with_reg regs n v h six =
    ap (λ m. reg_by (n == 7) (n == 6) m (with_reg_by (n == 7) (n == 6) regs.ps.mode regs n v) n) (mode_stays (n == 7) (n == 6) regs.ps.mode regs n v)
    ∙ got_by (n == 7) (n == 6) regs.ps.mode regs n v (λ p q. below_six n (length regs.general) h six p q)

-- back by the amount
wrapped-back : (v : ℕ) (a : ℤ) → v < 2 ^ 16 → FitsSigned w8 a → wrapped (pos (wrapped (pos v +ℤ a)) -ℤ a) ≡ v
wrapped-back v a h f = grind (arith, ints)

-- a noted change is taken back
taken_back-moved : (regs : Regs) (n : ℕ) (a : ℤ) → n < 8 → length regs.general ≡ 6 → reg regs n < 2 ^ 16 → FitsSigned w8 a → taken_back (Some (n, a)) (moved regs n a) ≡ regs
unfolding taken_back moved
taken_back-moved regs n a h six small f =
    ap (λ v. with_reg (with_reg regs n (wrapped (pos (reg regs n) +ℤ a))) n (wrapped (pos v -ℤ a))) (reg-with_reg regs n (wrapped (pos (reg regs n) +ℤ a)) h six)
    ∙ ap (with_reg (with_reg regs n (wrapped (pos (reg regs n) +ℤ a))) n) (wrapped-back (reg regs n) a small f)
    ∙ with_reg-back regs n (wrapped (pos (reg regs n) +ℤ a))

undone_by : (first : Option (ℕ × ℤ)) (trail : Trail) (regs back : Regs) (note : ℕ × ℤ) → trail.first ≡ first → trail.second ≡ None → taken_back (Some note) regs ≡ back → undone (noted_at first trail note) regs ≡ undone trail back
unfolding undone taken_back
undone_by None trail regs back note e f g =
    let one : taken_back (Some note) (taken_back trail.second regs) ≡ taken_back trail.first (taken_back trail.second back) = rw (e, f) g in
    ap (λ (r : Regs). record r { pc = trail.pc }) one
undone_by (Some p) trail regs back note e f g =
    let one : taken_back (Some note) regs ≡ taken_back trail.second back = rw f g in
    ap (λ (r : Regs). record (taken_back trail.first r) { pc = trail.pc }) one

-- what is undone after a noted change is what was to be undone before it
pub undone-noted : (trail : Trail) (regs : Regs) (n : ℕ) (a : ℤ) → HasRoom trail → n < 8 → length regs.general ≡ 6 → reg regs n < 2 ^ 16 → FitsSigned w8 a → undone (noted trail n a) (moved regs n a) ≡ undone trail regs
unfolding noted
undone-noted trail regs n a room h six small f =
    undone_by trail.first trail (moved regs n a) regs (n, a) refl room.second (taken_back-moved regs n a h six small f)

back_by-pc : (b c : Bool) (mode : Mode) (regs : Regs) (n : ℕ) (a : ℤ) (p q : ℕ) →
    ◌≡◌ {A = Regs} (record (with_reg_by b c mode (record regs { pc = p }) n (wrapped (pos (reg_by b c mode (record regs { pc = p }) n) -ℤ a))) { pc = q })
    (record (with_reg_by b c mode regs n (wrapped (pos (reg_by b c mode regs n) -ℤ a))) { pc = q })
back_by-pc true c mode regs n a p q = refl
back_by-pc false true Supervisor regs n a p q = refl
back_by-pc false true User regs n a p q = refl
back_by-pc false false mode regs n a p q = refl

taken_back-pc : (note : Option (ℕ × ℤ)) (regs : Regs) (p q : ℕ) → ◌≡◌ {A = Regs} (record (taken_back note (record regs { pc = p })) { pc = q }) (record (taken_back note regs) { pc = q })
unfolding taken_back with_reg reg
taken_back-pc None regs p q = refl
taken_back-pc (Some note) regs p q = back_by-pc (note.0 == 7) (note.0 == 6) regs.ps.mode regs note.0 note.1 p q

-- what is undone doesn't depend on the program counter
pub undone-pc : (trail : Trail) (regs : Regs) (p : ℕ) → undone trail (record regs { pc = p }) ≡ undone trail regs
unfolding undone
undone-pc trail regs p =
    let inner : taken_back trail.second (record regs { pc = p }) ≡ record (taken_back trail.second regs) { pc = (taken_back trail.second (record regs { pc = p })).pc } =
    taken_back-pc trail.second regs p (taken_back trail.second (record regs { pc = p })).pc in
    ap (λ r. record (taken_back trail.first r) { pc = trail.pc }) inner
    ∙ taken_back-pc trail.first (taken_back trail.second regs) (taken_back trail.second (record regs { pc = p })).pc trail.pc

fresh_by : (first : Option (ℕ × ℤ)) (trail : Trail) (note : ℕ × ℤ) → first ≡ None → trail.second ≡ None → (noted_at first trail note).second ≡ None
fresh_by None trail note e f = f
fresh_by (Some p) trail note e f = cc

-- after the first note there is room for another
pub HasRoom-noted : (trail : Trail) (n : ℕ) (a : ℤ) → IsFresh trail → HasRoom (noted trail n a)
unfolding noted
HasRoom-noted trail n a h = record { second = fresh_by trail.first trail (n, a) h.first h.second }

-- where nothing is noted nothing is undone
pub undone-fresh : (regs : Regs) → undone (record { pc = regs.pc; first = None; second = None }) regs ≡ regs
unfolding undone taken_back
undone-fresh regs = refl

-- a note that can be taken back
abbrev pub IsNote : Option (ℕ × ℤ) → Type 0
IsNote None = Unit {0}
IsNote (Some note) = (note.0 < 8) × FitsSigned w8 note.1

word_by : (b c : Bool) (mode : Mode) (regs : Regs) (n : ℕ) → IsRegs regs → reg_by b c mode regs n < 2 ^ 16
word_by true c mode regs n h = h.pc
word_by false true Supervisor regs n h = h.supervisor
word_by false true User regs n h = h.user
word_by false false mode regs n h = h.general n

-- each register is a word
reg-word : (regs : Regs) (n : ℕ) → IsRegs regs → reg regs n < 2 ^ 16
unfolding reg
reg-word regs n h = word_by (n == 7) (n == 6) regs.ps.mode regs n h

set-word : (xs : List ℕ) (i v n : ℕ) → ((k : ℕ) → slice_index xs k < 2 ^ 16) → v < 2 ^ 16 → slice_index (slice_set xs i v) n < 2 ^ 16
set-word [] i v n h small = h n
set-word (x ∷ xs) zero v zero h small = small
set-word (x ∷ xs) zero v (suc n) h small = h (suc n)
set-word (x ∷ xs) (suc i) v zero h small = h zero
set-word (x ∷ xs) (suc i) v (suc n) h small = set-word xs i v n (λ k. h (suc k)) small

regs_by : (b c : Bool) (mode : Mode) (regs : Regs) (n v : ℕ) → IsRegs regs → v < 2 ^ 16 → IsRegs (with_reg_by b c mode regs n v)
regs_by true c mode regs n v h small = record { six = h.six; general = h.general; supervisor = h.supervisor; user = h.user; pc = small }
regs_by false true Supervisor regs n v h small = record { six = h.six; general = h.general; supervisor = small; user = h.user; pc = h.pc }
regs_by false true User regs n v h small = record { six = h.six; general = h.general; supervisor = h.supervisor; user = small; pc = h.pc }
regs_by false false mode regs n v h small = record {
  six = length-set regs.general n v ∙ h.six;
  general = λ k. set-word regs.general n v k h.general small;
  supervisor = h.supervisor;
  user = h.user;
  pc = h.pc;
}

wrapped-word : (z : ℤ) → wrapped z < 2 ^ 16
wrapped-word (pos n) = omega arith
wrapped-word (negsuc n) = omega arith

moved_by-regs : (note : Option (ℕ × ℤ)) (regs : Regs) → IsRegs regs → IsRegs (moved_by note regs)
unfolding moved with_reg
moved_by-regs None regs h = h
moved_by-regs (Some note) regs h = regs_by (note.0 == 7) (note.0 == 6) regs.ps.mode regs note.0 _ h (wrapped-word (pos (reg regs note.0) +ℤ note.1))

taken_back-moved_by : (note : Option (ℕ × ℤ)) (regs : Regs) → IsNote note → IsRegs regs → taken_back note (moved_by note regs) ≡ regs
unfolding taken_back
taken_back-moved_by None regs n h = refl
taken_back-moved_by (Some note) regs n h = taken_back-moved regs note.0 note.1 n.0 h.six (reg-word regs note.0 h) n.1

-- where the registers have changed in the PC and by the noted amounts alone, they are again what they were
pub undone-moved : (trail : Trail) (before after : Regs) → IsNote trail.first → IsNote trail.second → IsRegs before → HasMoved trail before after → undone trail after ≡ before
unfolding undone
undone-moved trail before after first second h m =
    let once : Regs = moved_by trail.first before in
    sym (undone-pc trail after before.pc)
    ∙ ap (undone trail) m.alone
    ∙ undone-pc trail (moved_by trail.second once) before.pc
    ∙ ap (λ (r : Regs). record (taken_back trail.first r) { pc = trail.pc }) (taken_back-moved_by trail.second once second (moved_by-regs trail.first before h))
    ∙ ap (λ (r : Regs). record r { pc = trail.pc }) (taken_back-moved_by trail.first before first h)
    ∙ ap (λ p. record before { pc = p }) m.began

small-fits : (z : ℤ) → negsuc 15 ≤ℤ z → z ≤ℤ pos 15 → FitsSigned w8 z
small-fits z low high = grind (arith, ints)

-- what is noted can be taken back
pub IsNote-pair_of : (note : Option Note) → IsNote (pair_of note)
IsNote-pair_of None = tt
IsNote-pair_of (Some note) = (note.known, small-fits note.amount note.low note.high)

moved-pc_by : (b c : Bool) (mode : Mode) (regs : Regs) (n : ℕ) (a : ℤ) (p q : ℕ) →
    ◌≡◌ {A = Regs} (record (with_reg_by b c mode (record regs { pc = p }) n (wrapped (pos (reg_by b c mode (record regs { pc = p }) n) +ℤ a))) { pc = q })
    (record (with_reg_by b c mode regs n (wrapped (pos (reg_by b c mode regs n) +ℤ a))) { pc = q })
moved-pc_by true c mode regs n a p q = refl
moved-pc_by false true Supervisor regs n a p q = refl
moved-pc_by false true User regs n a p q = refl
moved-pc_by false false mode regs n a p q = refl

-- but for the program counter, what a move leaves doesn't depend on the program counter
moved-pc : (regs : Regs) (n : ℕ) (a : ℤ) (p q : ℕ) → ◌≡◌ {A = Regs} (record (moved (record regs { pc = p }) n a) { pc = q }) (record (moved regs n a) { pc = q })
unfolding moved with_reg reg
moved-pc regs n a p q = moved-pc_by (n == 7) (n == 6) regs.ps.mode regs n a p q

moved_alike : (regs other : Regs) (n : ℕ) (a : ℤ) (q : ℕ) → ◌≡◌ {A = Regs} (record regs { pc = q }) (record other { pc = q })
    → ◌≡◌ {A = Regs} (record (moved regs n a) { pc = q }) (record (moved other n a) { pc = q })
moved_alike regs other n a q e =
    sym (moved-pc regs n a q q) ∙ ap (λ (r : Regs). record (moved r n a) { pc = q }) e ∙ moved-pc other n a q q

moved_by_one : (first : Option (ℕ × ℤ)) (trail : Trail) (before after : Regs) (n : ℕ) (a : ℤ) → trail.first ≡ first → trail.second ≡ None
    → HasMoved trail before after → HasMoved (noted_at first trail (n, a)) before (moved after n a)
moved_by_one None trail before after n a e f m =
    let same : ◌≡◌ {A = Regs} (record after { pc = before.pc }) (record before { pc = before.pc }) = rw (e, f) at m.alone in
    let x = moved_alike after before n a before.pc same in
    record { began = m.began; alone = rw f x }
moved_by_one (Some p) trail before after n a e f m =
    let once : ◌≡◌ {A = Regs} (record after { pc = before.pc }) (record (moved_by trail.first before) { pc = before.pc }) = rw f at m.alone in
    record { began = m.began; alone = moved_alike after (moved_by trail.first before) n a before.pc once }

-- a noted change keeps it that the registers have changed by what is noted
pub HasMoved-noted : (trail : Trail) (before after : Regs) (n : ℕ) (a : ℤ) → HasRoom trail → HasMoved trail before after → HasMoved (noted trail n a) before (moved after n a)
unfolding noted
HasMoved-noted trail before after n a room m = moved_by_one trail.first trail before after n a refl room.second m

-- a change of the program counter is no change to be noted
pub HasMoved-pc : (trail : Trail) (before after : Regs) (p : ℕ) → HasMoved trail before after → HasMoved trail before (record after { pc = p })
HasMoved-pc trail before after p m = record { began = m.began; alone = m.alone }

-- what a change of the program counter needs
pub ruleset undone_lemmas = (undone-pc, undone-fresh, HasMoved-pc)

-- Of one part of each kind that was read, its checks passed; and those after all objects.
use Rattle.std.proofs.Common.{◌≡◌, ℕ, ◌+◌, ◌*◌, ◌≤◌, true, false, not, ◌==◌, List, [], ◌∷◌, ◌++◌, length, take, drop, Ok, refl, sym, subst, arith, length-take}
use Rattle.std.proofs.Common.{length-drop}
use Rattle.std.specs.Prelude.{nat_lt, is_none}
use Rattle.bk_level.specs.Levels.{Level}
use Rattle.bk_object.specs.Rows.{most_subjects}
use Rattle.bk_process.specs.NewProcess.{windows_of_process, entries_of_process, general_registers}
use Rattle.bk_state.specs.declared.image.Hold.{Hold}
use Rattle.bk_state.specs.declared.image.ObjectRec.{ObjectRec}
use Rattle.bk_state.specs.declared.image.SubjectRec.{SubjectRec}
use Rattle.bk_state.specs.declared.image.WindowRec.{WindowRec}
use Rattle.bk_image.specs.declared.fault.ImageField.TheVariants as field
use Rattle.bk_image.specs.declared.version.Version.{Version}
use Rattle.bk_image.specs.declared.version.Version.TheVariants.{One, Two}
use Rattle.bk_image.specs.Versions.{bytes_of_row, level_size, record_size}
use Rattle.bk_image.specs.Parts.{fault_at, Rest, Passes, ◌>>=◌, first_failing, part, checked, each_of}
use Rattle.bk_image.specs.Numbers.{byte, words_of, path_in}
use Rattle.bk_image.specs.Subjects.{level_of, level_checks, level_at, schedule_checks, schedule_at, window_of, window_checks, window_at, subject_of}
use Rattle.bk_image.specs.Subjects.{subject_checks, subject_fails, subject_at}
use Rattle.bk_image.specs.Objects.{Objects, objects_in, row_of, object_of, count_in, object_checks, object_fails, room, words_checks, object_at, size, is_over, quotas_at}
use Rattle.bk_image.specs.Objects.{lacks_lines, after_objects}
use Rattle.bk_image.specs.Holds.{hold_of, hold_checks, hold_at}
use Rattle.bk_image.specs.Accepted.{EachPasses, told_of}
use Rattle.bk_base.proofs.FaultLemmas.{bind_ok, ok_is, all_pass}
use Rattle.bk_image.proofs.PassedParts.{checked_passed, part_length, checked_length, words_length, each_read}
use Rattle.bk_image.proofs.Pairs.{row_length}

-- ---- one part of each kind

pub level_passed : (version : Version) (before : List Level) (rest : Rest) (x : Level × Rest) → level_at version before rest ≡ Ok x → Passes (level_checks before true x.0)
unfolding level_at
level_passed version before rest x e =
    let (b, p, is) = checked_passed (level_size version) (λ b. level_checks before (byte b 1 == 0) (level_of b)) level_of rest x e in
    subst (λ (level : Level). Passes (level_checks before true level)) is (refl, p.1)

pub schedule_passed : (subjects : ℕ) (before : List ℕ) (rest : Rest) (x : ℕ × Rest) → schedule_at subjects before rest ≡ Ok x → Passes (schedule_checks subjects x.0)
unfolding schedule_at
schedule_passed subjects before rest x e =
    let (b, p, is) = checked_passed 1 (λ b. schedule_checks subjects (byte b 0)) (λ b. byte b 0) rest x e in
    subst (λ n. Passes (schedule_checks subjects n)) is p

pub window_passed : (before : List WindowRec) (rest : Rest) (x : WindowRec × Rest) → window_at before rest ≡ Ok x → Passes (window_checks before true x.0)
unfolding window_at
window_passed before rest x e =
    let (b, p, is) = checked_passed 5 (λ b. window_checks before (not (is_none (path_in b 1))) (window_of b)) window_of rest x e in
    subst (λ (w : WindowRec). Passes (window_checks before true w)) is (p.0, (p.1.0, (refl, tt)))

pub record SubjectPassed (levels : List Level) (subject : SubjectRec) : Type 0 where
  pub passed : Passes (subject_checks levels true (length subject.windows) subject)
  pub windows : EachPasses (λ before window. window_checks before true window) subject.windows
  pub places : (length subject.regs ≡ general_registers) × (length subject.entries ≡ entries_of_process)

-- the registers and the fault entries of 39 bytes
subject_places : (b : List ℕ) → length b ≡ 39 → (length (words_of (take 12 (drop 4 b))) ≡ general_registers) × (length (words_of (take 16 (drop 22 b))) ≡ entries_of_process)
subject_places b count = (
  words_length 6 (take 12 (drop 4 b)) (omega (arith, count, length-take 12 (drop 4 b), length-drop 4 b)),
  words_length 8 (take 16 (drop 22 b)) (omega (arith, count, length-take 16 (drop 22 b), length-drop 22 b)),
)

-- the row of an object's bytes has a set for each subject
row_places : (version : Version) (b : List ℕ) → length b ≡ record_size version → length (row_of (take (bytes_of_row version) (drop 10 b))) ≡ most_subjects
row_places version b count = row_length (take (bytes_of_row version) (drop 10 b)) (within version)
  where
    within : (v : Version) → length (take (bytes_of_row v) (drop 10 b)) ≤ 32
    within One = omega (arith, length-take 16 (drop 10 b))
    within Two = omega (arith, length-take 32 (drop 10 b))

pub subject_passed : (levels : List Level) (before : List SubjectRec) (rest : Rest) (x : SubjectRec × Rest) → subject_at levels before rest ≡ Ok x → SubjectPassed levels x.0
unfolding subject_at
subject_passed levels before rest x e =
    let a = bind_ok (checked 39 (subject_fails levels) (λ b. b) rest) (λ b. each_of window_at (byte b.0 38) [] b.1 >>= λ windows. Ok (subject_of b.0 windows.0, windows.1)) x e in
    let w = bind_ok (each_of window_at (byte a.0.0 38) [] a.0.1) (λ windows. Ok (subject_of a.0.0 windows.0, windows.1)) x a.2 in
    let q = ok_is (subject_of a.0.0 w.0.0, w.0.1) x w.2 in
    let (bytes, passed, is) = checked_passed 39 (subject_fails levels) (λ b. b) rest a.0 a.1 in
    let p : Passes (subject_fails levels a.0.0) = subst (λ (b : List ℕ). Passes (subject_fails levels b)) is passed in
    let (count, windows) = each_read (λ front window. Passes (window_checks front true window)) window_at window_passed (byte a.0.0 38) a.0.1 w.0 w.1 in
    subst (λ (y : SubjectRec × Rest). SubjectPassed levels y.0) q (record {
      passed = (p.0, (p.1.0, (p.1.1.0, (refl, (p.1.1.1.1.0, (subst (λ n. nat_lt windows_of_process n ≡ false) (sym count) p.1.1.1.1.1.0, tt))))));
      windows = windows;
      places = subject_places a.0.0 (checked_length 39 (subject_fails levels) rest a.0 a.1);
    })

pub record ObjectPassed (levels : List Level) (subjects lines : ℕ) (before : List ObjectRec) (o : ObjectRec) : Type 0 where
  pub passed : Passes (object_checks levels subjects lines before (told_of o) o)
  pub words : Passes (words_checks o.words)
  pub row : length o.facts.row ≡ most_subjects

pub object_passed : (version : Version) (levels : List Level) (subjects lines : ℕ) (before : List ObjectRec) (rest : Rest) (x : ObjectRec × Rest) → object_at version levels subjects lines before rest ≡ Ok x → ObjectPassed levels subjects lines before x.0
unfolding object_at
object_passed version levels subjects lines before rest x e =
    let a = bind_ok (checked (record_size version) (object_fails version levels subjects lines before) (λ b. b) rest) (λ b. part (2 * count_in version b.0) b.1 >>= λ w. first_failing rest.at (words_checks (words_of w.0)) >>= λ passed. Ok (object_of version b.0 (words_of w.0), w.1)) x e in
    let d = bind_ok (part (2 * count_in version a.0.0) a.0.1) (λ w. first_failing rest.at (words_checks (words_of w.0)) >>= λ passed. Ok (object_of version a.0.0 (words_of w.0), w.1)) x a.2 in
    let f = bind_ok (first_failing rest.at (words_checks (words_of d.0.0))) (λ passed. Ok (object_of version a.0.0 (words_of d.0.0), d.0.1)) x d.2 in
    let q = ok_is (object_of version a.0.0 (words_of d.0.0), d.0.1) x f.2 in
    let (bytes, passed, is) = checked_passed (record_size version) (object_fails version levels subjects lines before) (λ b. b) rest a.0 a.1 in
    let p : Passes (object_fails version levels subjects lines before a.0.0) = subst (λ (b : List ℕ). Passes (object_fails version levels subjects lines before b)) is passed in
    let count : length (words_of d.0.0) ≡ count_in version a.0.0 = words_length (count_in version a.0.0) d.0.0 (part_length (2 * count_in version a.0.0) a.0.1 d.0 d.1) in
    subst (λ (y : ObjectRec × Rest). ObjectPassed levels subjects lines before y.0) q (record {
      passed = (
        refl,
        (
          p.1.0,
          (
            p.1.1.0,
            (
              refl,
              (
                p.1.1.1.1.0,
                (
                  p.1.1.1.1.1.0,
                  (
                    p.1.1.1.1.1.1.0,
                    (
                      p.1.1.1.1.1.1.1.0,
                      (
                        refl,
                        (
                          p.1.1.1.1.1.1.1.1.1.0,
                          (
                            p.1.1.1.1.1.1.1.1.1.1.0,
                            (
                              p.1.1.1.1.1.1.1.1.1.1.1.0,
                              (subst (λ n. nat_lt (room (object_of version a.0.0 []).facts) n ≡ false) (sym count) p.1.1.1.1.1.1.1.1.1.1.1.1.0, tt),
                            ),
                          ),
                        ),
                      ),
                    ),
                  ),
                ),
              ),
            ),
          ),
        ),
      );
      words = all_pass (fault_at rest.at) (words_checks (words_of d.0.0)) f.0 f.1;
      row = row_places version a.0.0 (checked_length (record_size version) (object_fails version levels subjects lines before) rest a.0 a.1);
    })

pub hold_passed : (levels : List Level) (subjects : List SubjectRec) (objects : Objects) (before : List Hold) (rest : Rest) (x : Hold × Rest) → hold_at levels subjects objects before rest ≡ Ok x → Passes (hold_checks levels subjects objects before true x.0)
unfolding hold_at
hold_passed levels subjects objects before rest x e =
    let (b, p, is) = checked_passed 6 (λ b. hold_checks levels subjects objects before (not (is_none (path_in b 2))) (hold_of b)) hold_of rest x e in
    subst (λ (hold : Hold). Passes (hold_checks levels subjects objects before true hold)) is (p.0, (p.1.0, (refl, p.1.1.1)))

-- ---- after all objects

quota_passed : (version : Version) (all : Objects) (front : List ObjectRec) (o : ObjectRec) (tail : List ObjectRec) (at : ℕ) (u : Unit {0}) → quotas_at version all (front ++ o ∷ tail) at ≡ Ok u → Passes ((field.Quota, is_over all o) ∷ [])
unfolding quotas_at
quota_passed version all [] o tail at u e =
    let a = bind_ok (first_failing at ((field.Quota, is_over all o) ∷ [])) (λ passed. quotas_at version all tail (at + size version o)) u e in
    all_pass (fault_at at) ((field.Quota, is_over all o) ∷ []) a.0 a.1
quota_passed version all (z ∷ front) o tail at u e =
    let a = bind_ok (first_failing at ((field.Quota, is_over all z) ∷ [])) (λ passed. quotas_at version all (front ++ o ∷ tail) (at + size version z)) u e in
    quota_passed version all front o tail (at + size version z) u a.2

pub record AfterPassed (lines : ℕ) (objects : List ObjectRec) : Type 0 where
  pub quotas : EachPasses (λ before o. (field.Quota, is_over (objects_in objects) o) ∷ []) objects
  pub lines_there : lacks_lines lines objects ≡ false

pub after_passed : (version : Version) (lines : ℕ) (objects : List ObjectRec) (start : ℕ) (u : Unit {0}) → after_objects version lines objects start ≡ Ok u → AfterPassed lines objects
unfolding after_objects
after_passed version lines objects start u e =
    let a = bind_ok (quotas_at version (objects_in objects) objects start) (λ quotas. first_failing 10 ((field.Lines, lacks_lines lines objects) ∷ [])) u e in
    record {
      quotas = λ front o tail whole. quota_passed version (objects_in objects) front o tail start a.0 (subst (λ os. quotas_at version (objects_in objects) os start ≡ Ok a.0) (sym whole) a.1);
      lines_there = (all_pass (fault_at 10) ((field.Lines, lacks_lines lines objects) ∷ []) u a.2).0;
    }

-- The turns and the counts of a header that was read.
use Rattle.std.proofs.Common.{◌≡◌, ◌≤◌, Ok, subst}
use Rattle.bk_level.specs.Levels.{most_levels}
use Rattle.bk_state.specs.Limits.{most_turns, most_lines, most_places, most_objects, most_holds}
use Rattle.bk_image.specs.declared.fault.ImageField.TheVariants as field
use Rattle.bk_image.specs.Parts.{Rest}
use Rattle.bk_image.specs.Header.{Header, magic_at, byte_at, word_at, header_at}
use Rattle.bk_image.specs.Versions.{version_of, subjects_of}
use Rattle.bk_base.proofs.FaultLemmas.{bind_ok, ok_is}
use Rattle.bk_image.proofs.Steps as step
use Rattle.bk_image.proofs.PassedParts.{byte_within, word_within}

-- the turns and the counts are in their ranges
pub record HeaderCounted (h : Header) : Type 0 where
  pub turns : (1 ≤ h.turns) × (h.turns ≤ 4096)
  pub levels : (1 ≤ h.levels) × (h.levels ≤ 64)
  pub subjects : (1 ≤ h.subjects) × (h.subjects ≤ subjects_of h.version)
  pub lines : (0 ≤ h.lines) × (h.lines ≤ 16)
  pub schedule : (1 ≤ h.schedule) × (h.schedule ≤ 64)
  pub objects : (1 ≤ h.objects) × (h.objects ≤ 3904)
  pub holds : (0 ≤ h.holds) × (h.holds ≤ 65535)

pub header_counted : (rest : Rest) (x : Header × Rest) → header_at rest ≡ Ok x → HeaderCounted x.0
unfolding header_at
header_counted rest x e =
    let m = bind_ok (magic_at rest) step.from_magic x e in
    let v = bind_ok (word_at field.Version 1 2 m.0.1) step.from_version x m.2 in
    let version = version_of v.0.0 in
    let t = bind_ok (word_at field.Turns 1 most_turns v.0.1) (step.from_turns version) x v.2 in
    let l = bind_ok (byte_at field.Counts 1 most_levels t.0.1) (step.from_levels version t.0.0) x t.2 in
    let s = bind_ok (byte_at field.Counts 1 (subjects_of version) l.0.1) (step.from_subjects version t.0.0 l.0.0) x l.2 in
    let n = bind_ok (byte_at field.Counts 0 most_lines s.0.1) (step.from_lines version t.0.0 l.0.0 s.0.0) x s.2 in
    let c = bind_ok (byte_at field.Counts 1 most_places n.0.1) (step.from_schedule version t.0.0 l.0.0 s.0.0 n.0.0) x n.2 in
    let o = bind_ok (word_at field.Counts 1 most_objects c.0.1) (step.from_objects version t.0.0 l.0.0 s.0.0 n.0.0 c.0.0) x c.2 in
    let h = bind_ok (word_at field.Counts 0 most_holds o.0.1) (step.from_holds version t.0.0 l.0.0 s.0.0 n.0.0 c.0.0 o.0.0) x o.2 in
    let q = ok_is (step.counted version t.0.0 l.0.0 s.0.0 n.0.0 c.0.0 o.0.0 h.0.0, h.0.1) x h.2 in
    subst (λ (y : Header × Rest). HeaderCounted y.0) q (record {
      turns = word_within field.Turns 1 most_turns v.0.1 t.0 t.1;
      levels = byte_within field.Counts 1 most_levels t.0.1 l.0 l.1;
      subjects = byte_within field.Counts 1 (subjects_of version) l.0.1 s.0 s.1;
      lines = byte_within field.Counts 0 most_lines s.0.1 n.0 n.1;
      schedule = byte_within field.Counts 1 most_places n.0.1 c.0 c.1;
      objects = word_within field.Counts 1 most_objects c.0.1 o.0 o.1;
      holds = word_within field.Counts 0 most_holds o.0.1 h.0 h.1;
    })

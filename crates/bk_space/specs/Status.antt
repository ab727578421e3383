use Rattle.std.specs.Prelude.{ℕ, Bool, true, false, ◌+◌, ◌*◌, ◌/◌, ◌%◌, ◌==◌, if◌then◌else◌}
use Rattle.bk_space.specs.declared.reference.Mode.{Mode}
use Rattle.bk_space.specs.declared.reference.Mode.TheVariants.{Supervisor, User}
use Rattle.bk_space.specs.declared.flags.Flags.{Flags}
use Rattle.bk_space.specs.declared.status.Ps.{Ps}

-- no condition code is set
abbrev pub clear : Flags
clear = record { n = false; z = false; v = false; c = false }

-- the status with which a process starts
abbrev pub status_of : Mode → Mode → Ps
status_of mode previous = record { mode = mode; previous = previous; trace = false; flags = clear }

-- the two bits of a mode
abbrev pub mode_bits : Mode → ℕ
mode_bits Supervisor = 0b01
mode_bits User = 0b11

-- 1 for true, 0 for false
abbrev pub digit : Bool → ℕ
digit true = 1
digit false = 0

-- bit k of a word
abbrev pub has_bit : ℕ → ℕ → Bool
has_bit w place = w / place % 2 == 1

-- mode in bits 15 and 14, previous mode in 13 and 12, register set 1 in bit 11, priority 0, T in bit 4, N, Z, V, C in bits 3 to 0
abbrev pub word_of : Ps → ℕ
word_of ps =
    mode_bits ps.mode * 0o40000 + mode_bits ps.previous * 0o10000 + 0o4000
    + digit ps.trace * 0o20 + digit ps.flags.n * 0o10 + digit ps.flags.z * 0o4 + digit ps.flags.v * 0o2 + digit ps.flags.c

-- the condition codes in bits 3 to 0
abbrev pub flags_in : ℕ → Flags
flags_in w = record { n = has_bit w 0o10; z = has_bit w 0o4; v = has_bit w 0o2; c = has_bit w 0o1 }

-- bits 4 to 0 are replaced
abbrev pub with_low : Ps → ℕ → Ps
with_low ps w = record { mode = ps.mode; previous = ps.previous; trace = has_bit w 0o20; flags = flags_in w }

-- a mode with two bits OR-ed in: supervisor is 01 and user is 11, so that the higher bit alone can change it
abbrev pub or_mode : Mode → ℕ → Mode
or_mode User bits = User
or_mode Supervisor bits = if has_bit bits 0b10 then User else Supervisor

-- the status after a word is popped outside kernel mode: modes are OR-ed in, T and the codes are taken, the rest stays
abbrev pub popped : Ps → ℕ → Ps
popped ps w = record {
  mode = or_mode ps.mode (w / 0o40000);
  previous = or_mode ps.previous (w / 0o10000);
  trace = has_bit w 0o20;
  flags = flags_in w;
}

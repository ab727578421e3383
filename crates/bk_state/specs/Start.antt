-- The state that an image stands for.
use Rattle.std.specs.Prelude.{ℕ, ◌-◌, ◌*◌, ◌==◌, Bool, false, List, [], ◌∷◌, ◌++◌, length, map, filter, flat_map, replicate, find as first, Option}
use Rattle.std.specs.Prelude.{option_map, unwrap_or}
use Rattle.std.specs.List.{range_with_len}
use Rattle.std.specs.FinMap as finmap
use Rattle.std.specs.FinSet as set
use Rattle.bk_path.specs.Paths.{Path}
use Rattle.bk_object.specs.Limits.{words_of_block}
use Rattle.bk_process.specs.NewProcess.{windows_of_process}
use Rattle.bk_object.specs.Modes.{AccessMode, Read, Execute, Write, Append, has}
use Rattle.bk_object.specs.declared.kind.Kind.{Kind}
use Rattle.bk_object.specs.declared.kind.Kind.TheVariants.{Directory, Segment, Mailbox, Line}
use Rattle.bk_object.specs.declared.modes.Modes.{Modes}
use Rattle.bk_state.specs.declared.image.Image.{Image}
use Rattle.bk_state.specs.declared.image.Hold.{Hold}
use Rattle.bk_state.specs.declared.image.ObjectRec.{ObjectRec}
use Rattle.bk_state.specs.declared.image.SubjectRec.{SubjectRec}
use Rattle.bk_state.specs.declared.image.WindowRec.{WindowRec}
use Rattle.bk_space.specs.Status.{status_of}
use Rattle.bk_process.specs.declared.process.Process.{Process}
use Rattle.bk_process.specs.declared.status.Status9.TheVariants.{Running}
use Rattle.bk_state.specs.State.{State, Object, Contents, Children, Words, Messages, Typed, Triple}

-- the given words, and zeros up to the words of so many blocks
abbrev pub padded : ℕ → List ℕ → List ℕ
padded blocks words = words ++ replicate (words_of_block * blocks - length words) 0

-- what an object of the kind holds at the start
abbrev pub contents_from : Kind → (blocks : ℕ) → List ℕ → Contents
contents_from Directory blocks words = Children
contents_from Segment blocks words = Words (padded blocks words)
contents_from Mailbox blocks words = Messages [] 0
contents_from (Line n) blocks words = Typed []

-- the object that a record of the image stands for
abbrev pub object_from : ObjectRec → Object
object_from o = record { facts = o.facts; contents = contents_from o.facts.kind o.facts.blocks o.words }

-- the path that the window of that number shows
abbrev pub shown_in : List WindowRec → ℕ → Option Path
shown_in windows n = option_map (λ w. w.path) (first (λ w. w.index == n) windows)

-- the paths that the 32 windows show, by their numbers
unfoldable pub windows_from : List WindowRec → List (Option Path)
windows_from windows = map (shown_in windows) (range_with_len 0 windows_of_process)

-- a process at the start: the given registers, no trace bit and no condition codes, and it runs
abbrev pub process_from : SubjectRec → Process
process_from s = record {
  registers = record {
    general = s.regs;
    supervisor = s.super_sp;
    user = s.user_sp;
    pc = s.pc;
    ps = status_of s.mode s.previous;
  };
  windows = windows_from s.windows;
  entries = s.entries;
  status = Running;
}

-- the modes of a set
abbrev pub modes_in : Modes → List AccessMode
modes_in modes = filter (has modes) (Read ∷ Execute ∷ Write ∷ Append ∷ [])

-- the triples that a hold stands for
abbrev pub triples_from : Hold → List Triple
triples_from h = map (λ x. (h.subject, h.path, x)) (modes_in h.modes)

-- the line of that number
abbrev pub is_line : ℕ → Kind → Bool
is_line n Directory = false
is_line n Segment = false
is_line n Mailbox = false
is_line n (Line k) = k == n

-- the number of the level of a line: that of its object
abbrev pub line_level : List ObjectRec → ℕ → ℕ
line_level objects n = unwrap_or (option_map (λ o. o.facts.level) (first (λ o. is_line n o.facts.kind) objects)) 0

-- the image's levels of subjects, objects, rows and holds; empty queues; each process with its registers, running
unfoldable pub state_of : Image → State
state_of image = record {
  fixed = record {
    levels = image.levels;
    subjects = map (λ s. s.f_s) image.subjects;
    lines = map (line_level image.objects) (range_with_len 0 image.lines);
    turns = image.turns;
    schedule = image.schedule;
  };
  current = map (λ s. s.f_c) image.subjects;
  objects = finmap.from_entries (map (λ o. (o.path, object_from o)) image.objects);
  access = set.from_list (flat_map triples_from image.holds);
  processes = map process_from image.subjects;
}

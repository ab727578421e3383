-- What the objects need of root's quota, over a map from paths to values that have facts.
use Rattle.std.specs.Prelude.{ℕ, [], ◌∷◌, sum_by}
use Rattle.std.specs.FinMap as map
use Rattle.bk_object.specs.declared.Facts.{Facts}
use Rattle.bk_object.specs.declared.Kind.{Kind}
use Rattle.bk_object.specs.declared.Kind.TheVariants.{Directory, Segment, Mailbox, Line}
use Rattle.bk_path.specs.Paths.{Path, path_cmp}

-- a segment needs its blocks, a mailbox 2, any other object 1
abbrev pub need_by : Kind → (blocks : ℕ) → ℕ
need_by Directory blocks = 1
need_by Segment blocks = blocks
need_by Mailbox blocks = 2
need_by (Line n) blocks = 1

-- root needs nothing
abbrev pub need_of : Path → Facts → ℕ
need_of [] facts = 0
need_of (entry ∷ path) facts = need_by facts.kind facts.blocks

-- of core a segment has its blocks, any other object nothing
abbrev pub core_by : Kind → (blocks : ℕ) → ℕ
core_by Directory blocks = 0
core_by Segment blocks = blocks
core_by Mailbox blocks = 0
core_by (Line n) blocks = 0

-- the blocks of core that an object has
abbrev pub blocks_of : Facts → ℕ
blocks_of facts = core_by facts.kind facts.blocks

module _ {X : Type 0} (facts_of : X → Facts) where
  -- what all objects need
  abbrev pub needs_in : map.FinMap path_cmp X → ℕ
  needs_in m = sum_by (λ object. need_of object.0 (facts_of object.1)) (map.entries m)

  -- the blocks of all segments
  abbrev pub blocks_in : map.FinMap path_cmp X → ℕ
  blocks_in m = sum_by (λ object. blocks_of (facts_of object.1)) (map.entries m)

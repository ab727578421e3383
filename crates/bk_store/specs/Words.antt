-- The words of segments, over the objects with their contents.
use Rattle.std.specs.Prelude.{ℕ, Option, Some, None, slice_index_or}
use Rattle.std.specs.FinMap as finite
use Rattle.bk_path.specs.Paths.{Path, path_cmp}
use Rattle.bk_state.specs.Contents.{with_word}
use Rattle.bk_state.specs.State.{Object, Contents, Children, Words, Messages, Typed}

-- the word with that number, or 0
abbrev pub word_of : ℕ → Contents → ℕ
word_of i Children = 0
word_of i (Words words) = slice_index_or words i 0
word_of i (Messages waiting lost) = 0
word_of i (Typed bytes) = 0

-- the word of the object that is there
abbrev pub word_at : ℕ → Option Object → ℕ
word_at i None = 0
word_at i (Some object) = word_of i object.contents

-- the objects once the word of the object that is there is this one
abbrev pub word_written_by : finite.FinMap path_cmp Object → Path → (i value : ℕ) → Option Object → finite.FinMap path_cmp Object
word_written_by objects path i value None = objects
word_written_by objects path i value (Some object) = finite.insert objects path (record { facts = object.facts; contents = with_word i value object.contents })

-- the objects once the word with that number of the segment at the path is this one
abbrev pub word_written : Path → (i value : ℕ) → finite.FinMap path_cmp Object → finite.FinMap path_cmp Object
word_written path i value objects = word_written_by objects path i value (finite.get objects path)

use Rattle.std.specs.Prelude.{ℕ, Bool, true, ◌&&◌, ◌||◌, not, ◌+◌, ◌==◌, nat_lt, nat_le, List, [], ◌∷◌, take, Option, option_map}
use Rattle.std.specs.Str.{bytes_eq}
use Rattle.std.specs.List.{list_all}
use Rattle.bk_isa.specs.declared.mnemonic.Mnemonic.{Mnemonic}
use Rattle.bk_isa.specs.declared.mnemonic.Form.{Form}
use Rattle.bk_isa.specs.declared.table.Row.{Row}
use Rattle.bk_isa.specs.Decode.{decode_of}
use Rattle.bk_isa.specs.Names.{form_of}

-- the name of a row; the empty one where it has none
abbrev pub row_name : Row → List ℕ
row_name row = take row.letters row.name

-- the row has a name, and it is this one
abbrev pub is_named : List ℕ → Row → Bool
is_named name row = nat_lt 0 row.letters && bytes_eq (row_name row) name

-- what the name of a row stands for
abbrev pub meaning_of : Row → Mnemonic
meaning_of row = record { base = row.base; form = row.form }

-- the word is one of the row's
abbrev pub covers : ℕ → Row → Bool
covers word row = nat_le row.base word && nat_lt word (row.base + row.words)

-- two rows cover no common word
abbrev pub is_apart : Row → Row → Bool
is_apart a b = nat_le (a.base + a.words) b.base || nat_le (b.base + b.words) a.base

-- each row is apart from each row after it
abbrev pub all_apart : List Row → Bool
all_apart [] = true
all_apart (row ∷ rows) = list_all (is_apart row) rows && all_apart rows

-- no two rows have one name
abbrev pub all_differ : List Row → Bool
all_differ [] = true
all_differ (row ∷ rows) = list_all (λ other. not (is_named (row_name row) other)) rows && all_differ rows

-- the row's name is another one for the words of a row above: it covers no word of its own
abbrev pub is_alias : Row → Bool
is_alias row = row.words == 0

-- how the first word of a row is written
abbrev pub first_form : Row → Option Form
first_form row = option_map form_of (decode_of row.base)

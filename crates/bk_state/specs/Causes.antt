-- Why a kernel call is refused: the numbers and the answers of the causes, and the order in which checks are made.
use Rattle.std.specs.Prelude.{ℕ, Bool, true, false, List, [], ◌∷◌, Option, Some, None, nat_lt, ◌==◌, if◌then◌else◌}
use Rattle.bk_state.specs.declared.cause.CallCause.{CallCause}
use Rattle.bk_state.specs.declared.cause.CallCause.TheVariants as causes

-- the number of a cause
abbrev pub cause_number : CallCause → ℕ
cause_number causes.NotInRow = 1
cause_number causes.AboveGreatest = 2
cause_number causes.WrongCurrent = 3
cause_number causes.NoParentWrite = 4
cause_number causes.LevelFalls = 5
cause_number causes.Taken = 6
cause_number causes.OverQuota = 7
cause_number causes.NotHeld = 8
cause_number causes.Empty = 9
cause_number causes.TooLong = 10
cause_number causes.IsRoot = 11
cause_number causes.StarProperty = 12
cause_number causes.NoCall = 20
cause_number causes.NoPath = 21
cause_number causes.NotNamed = 22
cause_number causes.WrongKind = 23
cause_number causes.BadArgument = 24
cause_number causes.NoObject = 25

-- the answer is no up to 12, and `?` from 20 on: the caller is not to know more
abbrev pub is_no : CallCause → Bool
is_no cause = nat_lt (cause_number cause) 20

-- the answers by their numbers: 0 yes, 1 no, 2 `?`
abbrev pub answer_yes : ℕ
answer_yes = 0

-- no is 1, and `?` is 2
abbrev pub answer_number : CallCause → ℕ
answer_number cause = if is_no cause then 1 else 2

-- the answer and the cause that are told: both 0 on yes
abbrev pub answer_in : Option CallCause → ℕ
answer_in None = answer_yes
answer_in (Some cause) = answer_number cause

-- the number of the cause that is told, which is 0 on yes
abbrev pub cause_in : Option CallCause → ℕ
cause_in None = 0
cause_in (Some cause) = cause_number cause

-- the order in which checks are made: each only where the call lists it
abbrev pub order : List CallCause
order =
    causes.NoCall ∷ causes.NoPath ∷ causes.BadArgument ∷ causes.NotNamed ∷ causes.NoObject ∷ causes.WrongKind
    ∷ causes.IsRoot ∷ causes.NoParentWrite ∷ causes.NotHeld ∷ causes.NotInRow ∷ causes.AboveGreatest ∷ causes.WrongCurrent
    ∷ causes.LevelFalls ∷ causes.Taken ∷ causes.OverQuota ∷ causes.TooLong ∷ causes.Empty ∷ causes.StarProperty ∷ []

-- the causes stand in the order in which all stand
abbrev pub is_in_order : (listed all : List CallCause) → Bool
is_in_order [] all = true
is_in_order (cause ∷ listed) [] = false
is_in_order (cause ∷ listed) (next ∷ all) =
    if cause_number cause == cause_number next then is_in_order listed all else is_in_order (cause ∷ listed) all

-- the check looks at the caller's words alone, and not at the state's objects
abbrev pub is_of_words : CallCause → Bool
is_of_words causes.NoCall = true
is_of_words causes.NoPath = true
is_of_words causes.BadArgument = true
is_of_words causes.NotInRow = false
is_of_words causes.AboveGreatest = false
is_of_words causes.WrongCurrent = false
is_of_words causes.NoParentWrite = false
is_of_words causes.LevelFalls = false
is_of_words causes.Taken = false
is_of_words causes.OverQuota = false
is_of_words causes.NotHeld = false
is_of_words causes.Empty = false
is_of_words causes.TooLong = false
is_of_words causes.IsRoot = false
is_of_words causes.StarProperty = false
is_of_words causes.NotNamed = false
is_of_words causes.WrongKind = false
is_of_words causes.NoObject = false

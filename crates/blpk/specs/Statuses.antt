-- The number of each status.
use Rattle.std.specs.Prelude.{ℕ}
use Rattle.blpk.specs.declared.status.Status.{Status}
use Rattle.blpk.specs.declared.status.Status.TheVariants.{Ok, Usage, ImageRefused, ScriptRefused, BuildRefused, ReadFault, WriteFault, NoMemory}

-- the number that the program ends with
abbrev pub number_of : Status → ℕ
number_of Ok = 0
number_of Usage = 2
number_of ImageRefused = 3
number_of ScriptRefused = 4
number_of BuildRefused = 5
number_of ReadFault = 6
number_of WriteFault = 7
number_of NoMemory = 8

-- The program that all subjects of a generated image run: each byte that is typed on the caller's line is sent back.
use Rattle.std.specs.Prelude.{ℕ, List, [], ◌∷◌, ◌++◌}

-- START (numbers are octal): takes a byte from the line whose path begins with R5, and lets the rest of the slot go where there is none:
-- MOV R5,R1; MOV #0,R2; EMT 20; TST R0; BEQ GOT; EMT 24; BR START
abbrev pub taking : List ℕ
taking = 0x1141 ∷ 0x15c2 ∷ 0 ∷ 0x8810 ∷ 0x0bc0 ∷ 0x0302 ∷ 0x8814 ∷ 0x01f8 ∷ []

-- GOT: sends the byte in R2 on the same line:
-- MOV R2,R3; MOV R5,R1; MOV #0,R2; EMT 17; BR START
abbrev pub sending : List ℕ
sending = 0x1083 ∷ 0x1141 ∷ 0x15c2 ∷ 0 ∷ 0x880f ∷ 0x01f2 ∷ []

-- the 14 words of the program
abbrev pub echo : List ℕ
echo = taking ++ sending

-- Instructions and their words, worked by hand. (PDP-11/40 Processor Handbook, "Instruction set" and "Addressing modes".)
use Rattle.std.specs.Prelude.{List, [], ◌∷◌, codes}
use Rattle.m11_obj.specs.declared.pieces.RelocationKind.TheVariants.{Internal, InternalDisplaced}
use Rattle.m11_asm_line_laws.specs.Worked.{Row, moved_word, row, word}

-- an instruction has its code word, and one more word for each operand that needs one
abbrev pub operand_rows : List Row
operand_rows =
    row (codes "MOV #1,R0" ∷ []) (codes "" ∷ []) (word 0 0o012700 ∷ word 2 1 ∷ [])
    ∷ row (codes "MOV R1,(SP)+" ∷ []) (codes "" ∷ []) (word 0 0o010126 ∷ [])
    ∷ row (codes "CLR @-(R3)" ∷ []) (codes "" ∷ []) (word 0 0o005053 ∷ [])
    ∷ row (codes "CMPB 4(R2),@(R5)" ∷ []) (codes "" ∷ []) (word 0 0o126275 ∷ word 2 4 ∷ word 4 0 ∷ [])
    ∷ row (codes "JSR PC,@#100" ∷ []) (codes "" ∷ []) (word 0 0o004737 ∷ word 2 0o100 ∷ [])
    ∷ row (codes "MUL #3,R1" ∷ []) (codes "" ∷ []) (word 0 0o070127 ∷ word 2 3 ∷ [])
    ∷ []

-- the word of a relative operand is the distance of the target from the location after that word, and the word of an absolute operand
-- is the target itself; an operand that only a later line makes a register is relative, and flagged R
abbrev pub location_rows : List Row
location_rows =
    row (codes "A: MOV A,A" ∷ []) (codes "" ∷ []) (word 0 0o016767 ∷ word 2 0o177774 ∷ word 4 0o177772 ∷ [])
    ∷ row (codes "CLR @#." ∷ []) (codes "" ∷ []) (word 0 0o005037 ∷ moved_word 2 Internal 0 ∷ [])
    ∷ row (codes "CLR L" ∷ codes "L=R3" ∷ []) (codes "R" ∷ codes "" ∷ [])
    (word 0 0o005067 ∷ moved_word 2 InternalDisplaced 3 ∷ [])
    ∷ []

-- missing operands and registers, which count as R0; missing expressions, which count as 0; operands without their `)`; and text that
-- is left over
abbrev pub missing_rows : List Row
missing_rows =
    row (codes "CLR" ∷ []) (codes "A" ∷ []) (word 0 0o005000 ∷ [])
    ∷ row (codes "MOV R1" ∷ []) (codes "A" ∷ []) (word 0 0o010100 ∷ [])
    ∷ row (codes "MOV R1 R2" ∷ []) (codes "AQ" ∷ []) (word 0 0o010100 ∷ [])
    ∷ row (codes "CLR R1,R2" ∷ []) (codes "Q" ∷ []) (word 0 0o005001 ∷ [])
    ∷ row (codes "SOB R1 X" ∷ []) (codes "AQ" ∷ []) (word 0 0o077100 ∷ [])
    ∷ row (codes "CLR ()" ∷ []) (codes "QR" ∷ []) (word 0 0o005010 ∷ [])
    ∷ row (codes "MOV #,@" ∷ []) (codes "Q" ∷ [])
    (word 0 0o012777 ∷ word 2 0 ∷ moved_word 4 InternalDisplaced 0 ∷ [])
    ∷ row (codes "CLR (R1" ∷ []) (codes "A" ∷ []) (word 0 0o005011 ∷ [])
    ∷ row (codes "CLR -?(R1)" ∷ []) (codes "IQ" ∷ []) (word 0 0o005061 ∷ word 2 0 ∷ [])
    ∷ []

-- whether an operand is a register depends on firm names alone; the number of the register depends on all names
abbrev pub register_rows : List Row
register_rows =
    row (codes "CLR R1+N" ∷ codes "N=1" ∷ []) (codes "" ∷ codes "" ∷ []) (word 0 0o005002 ∷ [])
    ∷ row (codes "CLR R1+Q" ∷ []) (codes "U" ∷ []) (word 0 0o005001 ∷ [])
    ∷ row (codes "CLR (L)" ∷ codes "RTS L" ∷ codes "L=R3" ∷ []) (codes "" ∷ codes "" ∷ codes "" ∷ [])
    (word 0 0o005013 ∷ word 2 0o000203 ∷ [])
    ∷ row (codes "L: CLR %R2" ∷ codes "CLR %L" ∷ []) (codes "R" ∷ codes "A" ∷ [])
    (word 0 0o005002 ∷ word 2 0o005000 ∷ [])
    ∷ []

-- branches, SOB and numbers
abbrev pub branch_rows : List Row
branch_rows =
    row (codes "BR ." ∷ []) (codes "" ∷ []) (word 0 0o000777 ∷ [])
    ∷ row (codes "A: BR A" ∷ []) (codes "" ∷ []) (word 0 0o000777 ∷ [])
    ∷ row (codes "BR 0" ∷ []) (codes "A" ∷ []) (word 0 0o000400 ∷ [])
    ∷ row (codes "BR Q" ∷ []) (codes "AU" ∷ []) (word 0 0o000400 ∷ [])
    ∷ row (codes "BR X" ∷ codes ".=400" ∷ codes ".=.+376" ∷ codes "X:" ∷ [])
    (codes "" ∷ codes "A" ∷ codes "" ∷ codes "" ∷ []) (word 0 0o000577 ∷ [])
    ∷ row (codes "BR X" ∷ codes ".=.+400" ∷ codes "X:" ∷ []) (codes "A" ∷ codes "" ∷ codes "" ∷ []) (word 0 0o000400 ∷ [])
    ∷ row (codes "1$: NOP" ∷ codes "SOB R2,1$" ∷ []) (codes "" ∷ codes "" ∷ []) (word 0 0o000240 ∷ word 2 0o077202 ∷ [])
    ∷ row (codes "MARK" ∷ codes "EMT 377" ∷ codes "TRAP 401" ∷ []) (codes "" ∷ codes "" ∷ codes "T" ∷ [])
    (word 0 0o006400 ∷ word 2 0o104377 ∷ word 4 0o104401 ∷ [])
    ∷ []

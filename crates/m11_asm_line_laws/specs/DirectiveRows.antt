-- Directives, labels and assignments, with what they emit and their flags, worked by hand. (MACRO-11 Language Reference Manual, "General
-- assembler directives", "Label field" and "Direct assignment statements".)
use Rattle.std.specs.Prelude.{List, [], ◌∷◌, codes}
use Rattle.m11_obj.specs.declared.pieces.RelocationKind.TheVariants.{Internal}
use Rattle.m11_asm_line_laws.specs.Worked.{Row, byte, moved_word, row, word}

-- words and bytes, with and without an operator
abbrev pub word_rows : List Row
word_rows =
    row (codes ".WORD 1+2*3,1+<2*3>" ∷ []) (codes "" ∷ []) (word 0 0o11 ∷ word 2 7 ∷ [])
    ∷ row (codes ".WORD 18" ∷ []) (codes "N" ∷ []) (word 0 0o22 ∷ [])
    ∷ row (codes ".WORD 200000" ∷ []) (codes "T" ∷ []) (word 0 0 ∷ [])
    ∷ row (codes ".WORD" ∷ codes ".WORD 1," ∷ codes ".WORD ,5," ∷ codes ".BYTE" ∷ [])
    (codes "" ∷ codes "" ∷ codes "" ∷ codes "" ∷ [])
    (word 0 0 ∷ word 2 1 ∷ word 4 0 ∷ word 6 0 ∷ word 0o10 5 ∷ word 0o12 0 ∷ byte 0o14 0 ∷ [])
    ∷ row (codes ".WORD 1 2,3" ∷ codes ".BYTE 1)2,3" ∷ []) (codes "Q" ∷ codes "Q" ∷ []) (word 0 1 ∷ byte 2 1 ∷ [])
    ∷ row (codes ",5" ∷ codes ")" ∷ codes "#5" ∷ []) (codes "" ∷ codes "Q" ∷ codes "Q" ∷ [])
    (word 0 0 ∷ word 2 5 ∷ word 4 0 ∷ word 6 0 ∷ [])
    ∷ row (codes ".WORD X" ∷ codes "X=Y" ∷ codes "Y=Z" ∷ codes "Z=5" ∷ []) (codes "U" ∷ codes "U" ∷ codes "" ∷ codes "" ∷ [])
    (word 0 0 ∷ [])
    ∷ []

-- even and odd locations, reserved room, and `.=`
abbrev pub location_rows : List Row
location_rows =
    row (codes ".BYTE 1" ∷ codes ".WORD 2" ∷ []) (codes "" ∷ codes "B" ∷ []) (byte 0 1 ∷ word 2 2 ∷ [])
    ∷ row (codes ".BYTE 1" ∷ codes "A: .WORD .,A" ∷ []) (codes "" ∷ codes "B" ∷ [])
    (byte 0 1 ∷ moved_word 2 Internal 2 ∷ moved_word 4 Internal 1 ∷ [])
    ∷ row (codes ".BYTE 1" ∷ codes ".BLKW 0" ∷ codes ".BYTE 2" ∷ codes "A: .RAD50" ∷ codes ".BYTE 3" ∷ [])
    (codes "" ∷ codes "B" ∷ codes "" ∷ codes "AB" ∷ codes "" ∷ []) (byte 0 1 ∷ byte 2 2 ∷ byte 4 3 ∷ [])
    ∷ row (codes ".BYTE 1" ∷ codes ".EVEN" ∷ codes ".EVEN" ∷ codes ".ODD" ∷ codes ".BYTE 2" ∷ [])
    (codes "" ∷ codes "" ∷ codes "" ∷ codes "" ∷ codes "" ∷ []) (byte 0 1 ∷ byte 3 2 ∷ [])
    ∷ row (codes "A=B" ∷ codes ".BLKB A" ∷ codes "B=4" ∷ codes ".BYTE 1" ∷ []) (codes "" ∷ codes "U" ∷ codes "" ∷ codes "" ∷ [])
    (byte 0 1 ∷ [])
    ∷ row (codes ".=" ∷ codes ".=Q" ∷ codes ".=.+10" ∷ codes "NOP" ∷ []) (codes "AQ" ∷ codes "AU" ∷ codes "" ∷ codes "" ∷ [])
    (word 0o10 0o240 ∷ [])
    ∷ []

-- texts, and expressions in brackets among them
abbrev pub text_rows : List Row
text_rows =
    row (codes ".ASCII /AB/" ∷ []) (codes "" ∷ []) (byte 0 0o101 ∷ byte 1 0o102 ∷ [])
    ∷ row (codes ".ASCIZ ;A;<15>/B/ ;c" ∷ []) (codes "" ∷ []) (byte 0 0o101 ∷ byte 1 0o15 ∷ byte 2 0o102 ∷ byte 3 0 ∷ [])
    ∷ row (codes ".RAD50 /ABC/" ∷ codes ".RAD50 /A/<1><50>" ∷ []) (codes "" ∷ codes "T" ∷ []) (word 0 0o003223 ∷ word 2 0o003220 ∷ [])
    ∷ row (codes ".RAD50 //" ∷ codes ".ASCII //" ∷ codes ".ASCII" ∷ codes ".ASCIZ" ∷ [])
    (codes "" ∷ codes "" ∷ codes "A" ∷ codes "A" ∷ []) (byte 0 0 ∷ [])
    ∷ row (codes ".ASCII <1 2>/a/" ∷ codes ".ASCII <15" ∷ []) (codes "Q" ∷ codes "Q" ∷ []) (byte 0 1 ∷ byte 1 0o15 ∷ [])
    ∷ row (codes ".ASCII /a ;" ∷ codes ".RAD50 /a/" ∷ []) (codes "A" ∷ codes "AB" ∷ [])
    (byte 0 0o141 ∷ byte 1 0o40 ∷ byte 2 0o73 ∷ word 4 0 ∷ [])
    ∷ []

-- the radix, labels, assignments, and directives that emit nothing
abbrev pub mode_rows : List Row
mode_rows =
    row (codes ".RADIX 10." ∷ codes ".WORD 12" ∷ codes ".RADIX 16 ?" ∷ codes ".WORD 12" ∷ codes ".RADIX" ∷ codes ".WORD 12" ∷ [])
    (codes "" ∷ codes "" ∷ codes "AI" ∷ codes "" ∷ codes "" ∷ codes "" ∷ []) (word 0 0o14 ∷ word 2 0o14 ∷ word 4 0o12 ∷ [])
    ∷ row (codes "X=1" ∷ codes "X:" ∷ codes "X=2" ∷ codes ".WORD X" ∷ []) (codes "" ∷ codes "M" ∷ codes "" ∷ codes "D" ∷ [])
    (word 0 2 ∷ [])
    ∷ row (codes "A: NOP" ∷ codes "1$: NOP" ∷ codes "A: BR 1$" ∷ []) (codes "" ∷ codes "" ∷ codes "M" ∷ [])
    (word 0 0o240 ∷ word 2 0o240 ∷ word 4 0o776 ∷ [])
    ∷ row (codes "X=5" ∷ codes "X=Y" ∷ codes ".GLOBL X" ∷ codes "Y=1" ∷ []) (codes "U" ∷ codes "U" ∷ codes "" ∷ codes "" ∷ []) []
    ∷ row (codes "X=Y" ∷ codes "Y=4" ∷ codes ".END X" ∷ []) (codes "" ∷ codes "" ∷ codes "U" ∷ []) []
    ∷ row (codes ".TITLE X ?" ∷ codes ".SBTTL ?" ∷ codes ".TITLE 5A" ∷ codes ".ENABL LC,GBL" ∷ codes ".DSABL LC" ∷ [])
    (codes "" ∷ codes "" ∷ codes "A" ∷ codes "" ∷ codes "A" ∷ []) []
    ∷ row (codes ".GLOBL 5+1,A,,B" ∷ codes ".GLOBL C D" ∷ codes ".IDENT" ∷ codes ".ENABL" ∷ codes ".PAGE 5" ∷ [])
    (codes "A" ∷ codes "Q" ∷ codes "A" ∷ codes "A" ∷ codes "Q" ∷ []) []
    ∷ []

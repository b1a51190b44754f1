-- Relocations of values, worked by hand. (RT-11 Volume and File Formats Manual, "Object file format", RLD block; MACRO-11 Language
-- Reference Manual, "Program section directives".)
use Rattle.std.specs.Prelude.{List, [], ◌∷◌, codes, unwrap_or}
use Rattle.m11_base.specs.Devices.{Bytes}
use Rattle.m11_base.specs.Names.{absolute_name, blank_name}
use Rattle.m11_base.specs.Rad50.{Name, name_of}
use Rattle.m11_obj.specs.declared.pieces.PieceContent.TheVariants.{Limits}
use Rattle.m11_obj.specs.declared.pieces.RelocationKind.TheVariants as kind
use Rattle.m11_asm_rules.specs.Contents.{fixed_word, piece}
use Rattle.m11_asm_line_laws.specs.Worked.{Row, byte, moved_byte, moved_word, row, word}

abbrev pub named : Bytes → Name
named text = unwrap_or (name_of text) (0, 0)

-- names of other objects, labels, and the limits of a program
abbrev pub name_rows : List Row
name_rows =
    row (codes "MOV F,R0" ∷ codes ".WORD F+2" ∷ []) (codes "" ∷ codes "" ∷ [])
    (word 0 0o016700 ∷ moved_word 2 (kind.GlobalDisplaced (named (codes "F     "))) 0
    ∷ moved_word 4 (kind.Global (named (codes "F     "))) 2 ∷ [])
    ∷ row (codes ".=.+400" ∷ codes "L: .BYTE L,L-400" ∷ []) (codes "" ∷ codes "T" ∷ [])
    (moved_byte 0o400 kind.Internal 0o400 ∷ moved_byte 0o401 kind.Internal 0 ∷ [])
    ∷ row (codes ".ASCII /a/<Q><.>" ∷ []) (codes "" ∷ [])
    (byte 0 0o141 ∷ moved_byte 1 (kind.Global (named (codes "Q     "))) 0 ∷ moved_byte 2 kind.Internal 2 ∷ [])
    ∷ row (codes ".LIMIT" ∷ codes ".WORD 1" ∷ []) (codes "" ∷ codes "" ∷ []) (piece blank_name 0 Limits ∷ word 4 1 ∷ [])
    ∷ []

-- sections, their attributes, and values that move with them
abbrev pub section_rows : List Row
section_rows =
    row (codes ".PSECT DATA" ∷ codes ".BYTE 1" ∷ codes ".PSECT PROG" ∷ codes "F:: .WORD D1" ∷ codes ".PSECT DATA" ∷ codes ".EVEN"
    ∷ codes "D1: .WORD 7" ∷ []) (codes "" ∷ codes "" ∷ codes "" ∷ codes "" ∷ codes "" ∷ codes "" ∷ codes "" ∷ [])
    (piece (named (codes "DATA  ")) 0 (byte 0 1).content
    ∷ piece (named (codes "PROG  ")) 0 (moved_word 0 (kind.Section (named (codes "DATA  "))) 2).content
    ∷ piece (named (codes "DATA  ")) 2 (fixed_word 7) ∷ [])
    ∷ row (codes ".WORD D" ∷ codes "TST D" ∷ codes ".BYTE D" ∷ codes ".PSECT DATA" ∷ codes "D: NOP" ∷ [])
    (codes "" ∷ codes "" ∷ codes "" ∷ codes "" ∷ codes "" ∷ [])
    (moved_word 0 (kind.Section (named (codes "DATA  "))) 0 ∷ word 2 0o005767
    ∷ moved_word 4 (kind.SectionDisplaced (named (codes "DATA  "))) 0 ∷ moved_byte 6 (kind.Section (named (codes "DATA  "))) 0
    ∷ piece (named (codes "DATA  ")) 0 (fixed_word 0o240) ∷ [])
    ∷ row (codes ".PSECT P,ABS" ∷ codes "L: NOP" ∷ codes ".ASECT" ∷ codes "BR L" ∷ codes ".CSECT" ∷ codes "BR 0" ∷ [])
    (codes "" ∷ codes "" ∷ codes "" ∷ codes "" ∷ codes "" ∷ codes "A" ∷ [])
    (piece (named (codes "P     ")) 0 (fixed_word 0o240) ∷ piece absolute_name 0 (fixed_word 0o777) ∷ word 0 0o400 ∷ [])
    ∷ row (codes ".PSECT P" ∷ codes "NOP" ∷ codes ".PSECT 5" ∷ codes "NOP" ∷ codes ".CSECT +" ∷ codes "NOP" ∷ [])
    (codes "" ∷ codes "" ∷ codes "A" ∷ codes "" ∷ codes "A" ∷ codes "" ∷ [])
    (piece (named (codes "P     ")) 0 (fixed_word 0o240) ∷ piece (named (codes "P     ")) 2 (fixed_word 0o240)
    ∷ piece (named (codes "P     ")) 4 (fixed_word 0o240) ∷ [])
    ∷ row (codes ".PSECT P,RO,RW,D" ∷ codes ".PSECT P,SAV" ∷ codes ".PSECT P,FOO,D" ∷ [])
    (codes "" ∷ codes "A" ∷ codes "A" ∷ []) []
    ∷ row (codes ".ASECT" ∷ codes ".=177774" ∷ codes "A: NOP" ∷ codes "BR 0" ∷ [])
    (codes "" ∷ codes "" ∷ codes "" ∷ codes "" ∷ [])
    (piece absolute_name 0o177774 (fixed_word 0o240) ∷ piece absolute_name 0o177776 (fixed_word 0o400) ∷ [])
    ∷ []

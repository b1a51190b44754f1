-- The operators that unfolding leaves to the assembly, by their names: directives and instructions. (MACRO-11 Language Reference Manual,
-- "Permanent symbol table".)
use Rattle.std.specs.Prelude.{List, [], ◌∷◌, codes, find, Option, Some, None, option_map}
use Rattle.std.specs.Str.{bytes_eq}
use Rattle.m11_base.specs.Devices.{Bytes}
use Rattle.m11_base.specs.Instructions.{other_names, rows}
use Rattle.m11_base.specs.Mnemonics.{named_in, or_else}
use Rattle.m11_asm_rules.specs.declared.operators.Directive.{Directive}
use Rattle.m11_asm_rules.specs.declared.operators.Directive.TheVariants as word
use Rattle.m11_asm_rules.specs.declared.operators.DirectiveRow.{DirectiveRow}
use Rattle.m11_asm_rules.specs.declared.operators.Operator.{Operator}
use Rattle.m11_asm_rules.specs.declared.operators.Operator.TheVariants as operators

-- a directive with its name: six characters, padded with blanks
abbrev pub named : Bytes → Directive → DirectiveRow
named name directive = record { name = name; directive = directive }

abbrev pub directive_rows : List DirectiveRow
directive_rows =
    named (codes ".WORD ") word.Word
    ∷ named (codes ".BYTE ") word.Byte
    ∷ named (codes ".ASCII") word.Ascii
    ∷ named (codes ".ASCIZ") word.Asciz
    ∷ named (codes ".RAD50") word.Rad50
    ∷ named (codes ".BLKB ") word.Blkb
    ∷ named (codes ".BLKW ") word.Blkw
    ∷ named (codes ".EVEN ") word.Even
    ∷ named (codes ".ODD  ") word.Odd
    ∷ named (codes ".LIMIT") word.Limit
    ∷ named (codes ".RADIX") word.Radix
    ∷ named (codes ".ASECT") word.Asect
    ∷ named (codes ".CSECT") word.Csect
    ∷ named (codes ".PSECT") word.Psect
    ∷ named (codes ".GLOBL") word.Globl
    ∷ named (codes ".WEAK ") word.Weak
    ∷ named (codes ".TITLE") word.Title
    ∷ named (codes ".IDENT") word.Ident
    ∷ named (codes ".SBTTL") word.Sbttl
    ∷ named (codes ".PAGE ") word.Page
    ∷ named (codes ".LIST ") word.List
    ∷ named (codes ".NLIST") word.Nlist
    ∷ named (codes ".ENABL") word.Enabl
    ∷ named (codes ".DSABL") word.Dsabl
    ∷ named (codes ".NARG ") word.Narg
    ∷ named (codes ".NCHR ") word.Nchr
    ∷ named (codes ".END  ") word.End
    ∷ []

-- the operator with this six-character name: a directive, or else an instruction; None if there is neither
abbrev pub operator_named : Bytes → Option Operator
operator_named name = elim (find (λ row. bytes_eq row.name name) directive_rows) [
  | Some row ↦ Some (operators.Directive row.directive)
  | None ↦ option_map operators.Instruction (or_else (named_in rows name) (named_in other_names name))
]

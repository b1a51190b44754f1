-- `.GLOBL`, `.WEAK`, `.TITLE`, `.IDENT` and `.END`. (MACRO-11 Language Reference Manual, ".GLOBL directive", ".WEAK directive", ".TITLE
-- directive", ".IDENT directive" and ".END directive". This project's own: a bad element of a list is skipped; a `.TITLE` without a valid
-- name and an `.IDENT` without a text do nothing; an `.IDENT` text that isn't closed, or has a character outside RADIX-50, is flagged A
-- but still used.)
use Rattle.std.specs.Prelude.{ℕ, ◌+◌, ◌-◌, ◌*◌, Bool, true, if◌then◌else◌, List, [], ◌∷◌, take, Option, Some, None}
use Rattle.std.specs.Int.RustNames.{bit_and, bit_or}
use Rattle.std.specs.Option.{option_map_or}
use Rattle.m11_scan_expressions.specs.Expressions.{value}
use Rattle.m11_scan_expressions.specs.Tokens.{Expression, expression, is_empty}
use Rattle.m11_scan_expressions.specs.LeftOvers.{left_over, flags_before, skip_flags}
use Rattle.m11_base.specs.Devices.{Bytes}
use Rattle.m11_base.specs.NameCharacters.{six_of}
use Rattle.m11_base.specs.Rad50.{Name, name_of}
use Rattle.m11_scan.specs.Cutting.{Lexeme, tokens_from}
use Rattle.m11_scan.specs.Ends.{expression_end}
use Rattle.m11_scan.specs.declared.sort.Sort.TheVariants as sorts
use Rattle.m11_scan_statements.specs.Parts.{next_part, part_flags}
use Rattle.m11_scan_statements.specs.declared.parts.Part.{Part}
use Rattle.m11_scan_statements.specs.declared.parts.PartKind.TheVariants.{Text, Expression as Coded}
use Rattle.m11_scan_expressions.specs.Quantities.{Quantity}
use Rattle.m11_asm_rules.specs.Actions.{Entitle, Export, Identify, Operation, Transfer, does, refused}
use Rattle.m11_asm_rules.specs.Contents.{register_flags}
use Rattle.m11_asm_rules.specs.Elements.{argument_flags, names_at, names_flags, names_of, texts_of}
use Rattle.m11_asm_rules.specs.Meanings.{LocalOnly, Map, known_at}
use Rattle.m11_asm_rules.specs.Strings.{character_flags, part_text, six_codes}
use Rattle.m11_asm_rules.specs.Tables.{Table, location}

-- ---- .GLOBL n,.. and .WEAK n,..

abbrev pub exported : Bool → Bytes → ℕ → Operation
exported is_weak line start =
    does (Export is_weak (names_of (texts_of line (names_at line start).list))) (names_flags line start (names_at line start))

-- ---- .TITLE n: any text may follow the name

-- the name in the first token; None if there is no token, or if the first one isn't a valid name
abbrev pub title_by : List Lexeme → Option Name
title_by [] = None
title_by (token ∷ tokens) = elim token.sort [ sorts.Name ↦ name_of (six_of token.text) | _ ↦ None ]

abbrev pub title : Bytes → ℕ → Operation
title line start =
    elim (title_by (tokens_from line start)) [ Some name ↦ does (Entitle name) (flags_before line start) | None ↦ refused line start ]

-- ---- .IDENT /text/: the first six characters count; any others are ignored

abbrev pub name_of_codes : List ℕ → Option Name
name_of_codes (a ∷ (b ∷ (c ∷ (d ∷ (e ∷ (f ∷ codes)))))) = Some (a * 1600 + b * 40 + c, d * 1600 + e * 40 + f)
name_of_codes codes = None

-- the flags of a text: I for characters skipped before it, A if its closing delimiter is missing or one of its first six characters is
-- outside RADIX-50, and those of what is left over
abbrev pub text_flags : Bytes → ℕ → Part → ℕ
text_flags line start part =
    bit_or (bit_or (skip_flags line start (part.inside.start - 1)) (part_flags part))
    (bit_or (character_flags (take 6 (part_text line part))) (left_over line part.end))

abbrev pub ident : Bytes → ℕ → Operation
ident line start = elim (next_part line start true) [
  | Some part ↦ elim part.kind [
    | Text ↦ does (Identify (name_of_codes (six_codes (part_text line part)))) (text_flags line start part)
    | Coded ↦ refused line start
  ]
  | None ↦ refused line start
]

-- ---- .END e: the transfer address. Its value, and the flags of the value that depend on names, come from the first pass; the flags that
-- depend on the text of the expression alone are flags of the line in each pass

abbrev pub transfer : Map → Table → Expression → Option Quantity
transfer map table tokens =
    if is_empty tokens then None else Some (value (known_at map LocalOnly table (location table)) tokens)

-- the flags that depend on names: A, D, R (also if the value is a register) and U
abbrev pub transfer_flags : Option Quantity → ℕ
transfer_flags address =
    option_map_or (λ (value : Quantity). bit_and (bit_or value.flags (register_flags value.kind)) 0o24005) address 0

-- the flags that the text of the expression decides, whatever the values of its names: N, Q and T
abbrev pub expression_flags : Option Quantity → ℕ
expression_flags address = option_map_or (λ (value : Quantity). bit_and value.flags 0o12200) address 0

abbrev pub ending : Bytes → ℕ → Operation
ending line start = does (Transfer (expression line start)) (argument_flags line start (expression_end line start))

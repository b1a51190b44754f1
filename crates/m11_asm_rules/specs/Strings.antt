-- `.ASCII`, `.ASCIZ` and `.RAD50`, and the codes of `.IDENT`. (MACRO-11 Language Reference Manual, ".ASCII directive", ".ASCIZ directive",
-- ".RAD50 directive" and ".IDENT directive". This project's own: a character outside RADIX-50 counts as a blank, flagged A; and a code over
-- octal 47 is cut to its low six bits, flagged T.)
use Rattle.std.specs.Prelude.{ℕ, zero, suc, ◌+◌, ◌-◌, ◌*◌, ◌/◌, ◌%◌, nat_lt, Bool, true, false, if◌then◌else◌, List, [], ◌∷◌, ◌++◌, length, map, Option, Some, None, unwrap_or, is_none, take, replicate}
use Rattle.std.specs.List.{list_any}
use Rattle.std.specs.Int.RustNames.{bit_or}
use Rattle.m11_scan_expressions.specs.Tokens.{expression}
use Rattle.m11_scan_expressions.specs.Expressions.{KnownSymbols, value}
use Rattle.m11_scan_expressions.specs.LeftOvers.{left_over, skip_flags}
use Rattle.m11_base.specs.Devices.{Bytes}
use Rattle.m11_base.specs.Rad50.{code_of}
use Rattle.m11_obj.specs.declared.pieces.PieceContent.{PieceContent}
use Rattle.m11_scan.specs.Cutting.{text_between}
use Rattle.m11_scan.specs.ErrorFlags.{flag_A, flag_T, flag_if}
use Rattle.m11_scan_statements.specs.Parts.{next_part, part_flags}
use Rattle.m11_scan_statements.specs.declared.parts.Part.{Part}
use Rattle.m11_scan_statements.specs.declared.parts.PartKind.TheVariants as kinds
use Rattle.m11_scan_expressions.specs.Operations.{absence}
use Rattle.m11_scan_expressions.specs.Quantities.{Quantity}
use Rattle.m11_asm_rules.specs.Actions.{Characters, Coded, Operation, PackedText, Store, Text, TextPart, does}
use Rattle.m11_asm_rules.specs.Contents.{Emission, byte, emission, fixed_byte, fixed_word, followed_by, further, nothing}
use Rattle.m11_asm_rules.specs.Elements.{ListAt, item_before}
use Rattle.m11_asm_rules.specs.Meanings.{LocalOnly, Map, MayBeGlobal, known_at}
use Rattle.m11_asm_rules.specs.Tables.{Table}

-- ---- the parts of a text

-- the parts that begin with this one, if there is one; an unclosed part is the last
abbrev pub parts_by : (ℕ → ListAt Part) → ℕ → Option Part → ListAt Part
parts_by more column None = record { list = []; end = column }
parts_by more column (Some part) =
    if part.is_closed then item_before part (more part.end) else record { list = part ∷ []; end = part.end }

abbrev pub parts_within : ℕ → Bytes → Bool → ℕ → ListAt Part
parts_within zero line is_first column = record { list = []; end = column }
parts_within (suc bound) line is_first column =
    parts_by (λ next. parts_within bound line false next) column (next_part line column is_first)

-- the parts that begin at a column, one after another, and the column after them
abbrev pub parts_at : Bytes → ℕ → ListAt Part
parts_at line start = parts_within (suc (length line)) line true start

-- the characters of a part
abbrev pub part_text : Bytes → Part → Bytes
part_text line part = text_between line part.inside.start part.inside.end

-- I for a character skipped before a part, or inside its expression
abbrev pub skipped_flags : Bytes → ℕ → Part → ℕ
skipped_flags line column part =
    bit_or (skip_flags line column (part.inside.start - 1))
    (elim part.kind [ kinds.Text ↦ 0 | kinds.Expression ↦ skip_flags line part.inside.start part.end ])

-- the flags of the parts after a column: those of skipped characters, and those of the parts themselves
abbrev pub parts_flags : Bytes → ℕ → List Part → ℕ
parts_flags line column [] = 0
parts_flags line column (part ∷ parts) =
    bit_or (bit_or (skipped_flags line column part) (part_flags part)) (parts_flags line part.end parts)

-- the flags of a text: A if it has no part, those of its parts, and those of what is left over
abbrev pub text_flags : Bytes → ℕ → ListAt Part → ℕ
text_flags line start parts =
    bit_or (bit_or (elim parts.list [ [] ↦ flag_A | _ ↦ 0 ]) (parts_flags line start parts.list))
    (left_over line parts.end)

-- the content of a part: its characters, or its expression
abbrev pub content_in : Bytes → Part → TextPart
content_in line part =
    elim part.kind [ kinds.Text ↦ Characters (part_text line part) | kinds.Expression ↦ Coded (expression line part.inside.start) ]

abbrev pub contents_of : Bytes → List Part → List TextPart
contents_of line parts = map (content_in line) parts

-- ---- .ASCII (false) and .ASCIZ (true): `.ASCIZ` puts a zero byte after the text

abbrev pub text : Bool → Bytes → ℕ → Operation
text is_ended line start =
    does (Store (Text (contents_of line (parts_at line start).list) is_ended)) (text_flags line start (parts_at line start))

-- the size of a part in bytes: one for each character, or one for an expression
abbrev pub part_size : TextPart → ℕ
part_size (Characters characters) = length characters
part_size (Coded tokens) = 1

abbrev pub parts_size : List TextPart → ℕ
parts_size [] = 0
parts_size (part ∷ parts) = part_size part + parts_size parts

-- the bytes of a part; an expression is a byte, as in `.BYTE`, and `.` in the expression is the location of that byte
abbrev pub part_bytes : Map → Table → ℕ → TextPart → Emission
part_bytes known table location (Characters characters) = emission (map fixed_byte characters) 0
part_bytes known table location (Coded tokens) = byte table location (value (known_at known MayBeGlobal table location) tokens)

abbrev pub parts_bytes : Map → Table → ℕ → List TextPart → Emission
parts_bytes known table location [] = nothing 0
parts_bytes known table location (part ∷ parts) =
    followed_by (part_bytes known table location part) (parts_bytes known table (further location (part_size part)) parts)

-- the zero byte at the end of `.ASCIZ` (true), or nothing
abbrev pub last_byte : Bool → Bytes
last_byte is_ended = if is_ended then 0 ∷ [] else []

abbrev pub text_size : List TextPart → Bool → ℕ
text_size parts is_ended = parts_size parts + length (last_byte is_ended)

abbrev pub text_bytes : Map → Table → ℕ → List TextPart → Bool → Emission
text_bytes known table location parts is_ended =
    followed_by (parts_bytes known table location parts) (emission (map fixed_byte (last_byte is_ended)) 0)

-- ---- .RAD50

abbrev pub rad50 : Bytes → ℕ → Operation
rad50 line start = does (Store (PackedText (contents_of line (parts_at line start).list))) (text_flags line start (parts_at line start))

-- RADIX-50 codes, and flags
pub record Codes : Type 0 where
  pub codes : List ℕ
  pub flags : ℕ

abbrev pub character_code : ℕ → ℕ
character_code character = unwrap_or (code_of character) 0

-- A for a character without a code
abbrev pub character_flags : Bytes → ℕ
character_flags text = flag_if (list_any (λ character. is_none (code_of character)) text) flag_A

-- the code of an expression: the low six bits of its number, with R for a register, A for any other value that isn't absolute, and T for a
-- number over octal 47
abbrev pub value_codes : Quantity → Codes
value_codes value = record {
  codes = value.number % 0o100 ∷ [];
  flags = bit_or (bit_or value.flags (absence value.kind)) (flag_if (nat_lt 0o47 value.number) flag_T);
}

abbrev pub part_codes : KnownSymbols → TextPart → Codes
part_codes known (Characters characters) = record { codes = map character_code characters; flags = character_flags characters }
part_codes known (Coded tokens) = value_codes (value known tokens)

abbrev pub codes_then : Codes → Codes → Codes
codes_then first next = record { codes = first.codes ++ next.codes; flags = bit_or first.flags next.flags }

abbrev pub parts_codes : KnownSymbols → List TextPart → Codes
parts_codes known [] = record { codes = []; flags = 0 }
parts_codes known (part ∷ parts) = codes_then (part_codes known part) (parts_codes known parts)

-- three codes in a word, modulo 65536
abbrev pub packed : ℕ → ℕ → ℕ → PieceContent
packed first second third = fixed_word ((first * 1600 + second * 40 + third) % 65536)

-- codes packed three to a word, the last word filled with blanks
abbrev pub packed_words : List ℕ → List PieceContent
packed_words [] = []
packed_words (first ∷ []) = packed first 0 0 ∷ []
packed_words (first ∷ (second ∷ [])) = packed first second 0 ∷ []
packed_words (first ∷ (second ∷ (third ∷ codes))) = packed first second third ∷ packed_words codes

-- the size of a packed text in bytes: a word for every three codes, and a word for one or two codes left over
abbrev pub packed_size : List TextPart → ℕ
packed_size parts = (parts_size parts + 2) / 3 * 2

abbrev pub packed_text : Map → Table → ℕ → List TextPart → Emission
packed_text known table location parts =
    let found = parts_codes (known_at known LocalOnly table location) parts in emission (packed_words found.codes) found.flags

-- ---- .IDENT /text/

-- the codes of the first six characters of a text, filled up with blanks
abbrev pub six_codes : Bytes → List ℕ
six_codes text = take 6 (map character_code text ++ replicate 6 0)

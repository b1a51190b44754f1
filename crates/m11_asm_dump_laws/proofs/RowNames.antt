-- The names of operations in the lines of a disassembly, and the numbers there.
use Rattle.std.proofs.Common.{◌≡◌, ◌∙◌, ℕ, zero, suc, ◌<◌, Bool, true, false, List, [], ◌∷◌, ◌++◌, find, length, drop, slice_index, Option, Some, None, refl, sym, ap, arith}
use Rattle.std.specs.Prelude.{◌==◌, ◌&&◌, ◌||◌, not, nat_le, if◌then◌else◌}
use Rattle.std.specs.List.{AllByRecursion, list_all}
use Rattle.std.proofs.lemmas.Bool.{and_parts}
use Rattle.m11_base.specs.Devices.{Bytes}
use Rattle.m11_base.specs.Instructions.{instruction_of, is_of, other_names, row_of, rows}
use Rattle.m11_base.specs.declared.instruction.Insn.{Insn}
use Rattle.m11_base.specs.declared.instruction.Insn.TheVariants as insn
use Rattle.m11_base.specs.declared.instruction_list.Row.{Row}
use Rattle.m11_base.specs.declared.operand.Mode.{Mode}
use Rattle.m11_base.specs.declared.operand.Mode.TheVariants as mode
use Rattle.m11_base.specs.declared.operand.Operand.{Operand}
use Rattle.m11_base.specs.declared.operand.Register.{Register}
use Rattle.m11_base.specs.declared.operand.Register.TheVariants.{R0, R1, R2, R3, R4, R5, Sp, Pc}
use Rattle.m11_base_disassembly.specs.Arguments.{argument_by, by_counter, by_register}
use Rattle.m11_base_disassembly.specs.Instructions.{named_row, operands_of, row_named, statement_by, statement_of, whole_row, words_after}
use Rattle.m11_base_disassembly.specs.Meaning.{AreWords}
use Rattle.m11_base_disassembly.specs.Statements.{Operands, Statement}
use Rattle.m11_base_disassembly.specs.Statements as statements
use Rattle.m11_base_disassembly.specs.Names.{bare_name}
use Rattle.m11_asm_dump_laws.specs.Operands.{IsWithinWord}
use Rattle.m11_asm_dump_laws.proofs.Tokens.{is_name_text}

-- ---- names

abbrev pub is_space : ℕ → Bool
is_space byte = byte == 0o40

abbrev pub begins_with_point : Bytes → Bool
begins_with_point [] = false
begins_with_point (byte ∷ text) = byte == 0o56

-- the characters of a name that are left after its first space, and that space
abbrev pub spaces : Bytes → Bytes
spaces name = drop (length (bare_name name)) name

-- a name up to its first space is a name that doesn't begin with a point, all that is left is spaces, and there are at most six characters
abbrev pub is_padded : Bytes → Bool
is_padded name = is_name_text (bare_name name) && (not (begins_with_point (bare_name name)) && (list_all is_space (spaces name) && nat_le (length name) 6))

abbrev is_blank : Row → Bool
is_blank row = slice_index row.name 0 == 32

-- P of the row that was found, if one was
abbrev pub OfFound : (Row → Type 0) → Option Row → Type 0
OfFound P None = Unit {0}
OfFound P (Some row) = P row

abbrev pub IsPadded : Row → Type 0
IsPadded row = is_padded row.name ≡ true

all_by : (test : Row → Bool) (list : List Row) → list_all test list ≡ true → AllByRecursion (λ row. test row ≡ true) list
all_by test [] e = tt
all_by test (row ∷ list) e =
    let parts = and_parts (test row) (list_all test list) e in (parts.0, all_by test list parts.1)

abbrev BlankOrPadded : Row → Type 0
BlankOrPadded row = (is_blank row || is_padded row.name) ≡ true

rows_padded : AllByRecursion BlankOrPadded rows
unfolding rows
rows_padded = all_by (λ row. is_blank row || is_padded row.name) rows refl

others_padded : AllByRecursion IsPadded other_names
unfolding other_names
others_padded = all_by (λ row. is_padded row.name) other_names refl

found_by : (P : Row → Type 0) (first : Row) (others : Option Row) (b : Bool) → P first → OfFound P others
    → OfFound P (if b then Some first else others)
found_by P first others true p rest = p
found_by P first others false p rest = rest

found : (test : Row → Bool) (P : Row → Type 0) (list : List Row) → AllByRecursion P list → OfFound P (find test list)
found test P [] all = tt
found test P (row ∷ list) all = found_by P row (find test list) (test row) all.0 (found test P list all.1)

row_found : (word : ℕ) → OfFound BlankOrPadded (row_of word)
unfolding row_of
row_found word = found (is_of word) BlankOrPadded rows rows_padded

named_by : (row : Row) (others : Option Row) (b : Bool) → is_blank row ≡ b → BlankOrPadded row → OfFound IsPadded others
    → OfFound IsPadded (if b then others else Some row)
named_by row others true is either rest = rest
named_by row others false is either rest = ap (λ b. b || is_padded row.name) (sym is) ∙ either

named_padded : (word : ℕ) (row : Option Row) → OfFound BlankOrPadded row → OfFound IsPadded (named_row row word)
named_padded word None either = tt
named_padded word (Some row) either =
    named_by row (find (is_of word) other_names) (is_blank row) refl either
    (found (is_of word) IsPadded other_names others_padded)

whole_by : (b : Bool) (row : Option Row) → OfFound IsPadded row → OfFound IsPadded (if b then row else None)
whole_by true row padded = padded
whole_by false row padded = tt

-- ---- numbers

-- so are the numbers in the operands of an operation
abbrev pub AreWithinWords : Operands → Type 0
AreWithinWords (statements.One first) = IsWithinWord first
AreWithinWords (statements.Two first second) = IsWithinWord first × IsWithinWord second
AreWithinWords (statements.Target address) = address < 65536
AreWithinWords (statements.Loop register address) = address < 65536
AreWithinWords other = Unit {0}

by_register_below : (m : Mode) (r : Register) (word : ℕ) → word < 65536 → IsWithinWord (by_register m r word)
by_register_below mode.Index r word within = within
by_register_below mode.IndexDeferred r word within = within
by_register_below other r word within = tt

by_counter_below : (m : Mode) (after word : ℕ) → word < 65536 → IsWithinWord (by_counter m after word)
by_counter_below mode.Autoincrement after word within = within
by_counter_below mode.AutoincrementDeferred after word within = within
by_counter_below mode.Index after word within = omega arith
by_counter_below mode.IndexDeferred after word within = omega arith
by_counter_below other after word within = tt

argument_below : (m : Mode) (r : Register) (after word : ℕ) → word < 65536 → IsWithinWord (argument_by m r after word)
argument_below m Pc after word within = by_counter_below m after word within
argument_below m R0 after word within = by_register_below m R0 word within
argument_below m R1 after word within = by_register_below m R1 word within
argument_below m R2 after word within = by_register_below m R2 word within
argument_below m R3 after word within = by_register_below m R3 word within
argument_below m R4 after word within = by_register_below m R4 word within
argument_below m R5 after word within = by_register_below m R5 word within
argument_below m Sp after word within = by_register_below m Sp word within

word_below : (more : List ℕ) (k : ℕ) → AreWords more → slice_index more k < 65536
word_below [] k all = omega arith
word_below (word ∷ more) zero all = all.0
word_below (word ∷ more) (suc k) all = word_below more k all.1

first_below : (o : Operand) (after k : ℕ) (more : List ℕ) → AreWords more
    → IsWithinWord (argument_by o.mode o.register after (slice_index more k))
first_below o after k more all = argument_below o.mode o.register after (slice_index more k) (word_below more k all)

operands_below : (location : ℕ) (more : List ℕ) → AreWords more → (i : Insn) → AreWithinWords (operands_of location more i)
operands_below location more all (insn.Double operation size source destination) =
    (first_below source _ 0 more all, first_below destination _ _ more all)
operands_below location more all (insn.Extended operation register source) = (first_below source _ 0 more all, tt)
operands_below location more all (insn.Register operation register destination) = (tt, first_below destination _ 0 more all)
operands_below location more all (insn.Sob register count) = omega arith
operands_below location more all (insn.Single operation size operand) = first_below operand _ 0 more all
operands_below location more all (insn.Rts register) = tt
operands_below location more all (insn.Number operation number) = tt
operands_below location more all (insn.Bare operation) = tt
operands_below location more all (insn.Condition operation condition_codes) = tt
operands_below location more all (insn.Branch operation offset) = omega arith
operands_below location more all (insn.Reserved word) = tt

-- ---- lines

-- the name of a line's operation is padded with spaces, and the numbers in its operands are words; so is a word of data
abbrev pub IsWellWritten : Statement → Type 0
IsWellWritten (statements.Named name operands) = (is_padded name ≡ true) × AreWithinWords operands
IsWellWritten (statements.DataWord word) = word < 65536
IsWellWritten (statements.DataByte byte) = Unit {0}

written_by : (row : Option Row) (location word : ℕ) (more : List ℕ) → word < 65536 → AreWords more → OfFound IsPadded row
    → IsWellWritten (statement_by row location word more)
written_by None location word more within all padded = within
written_by (Some row) location word more within all padded = (padded, operands_below location more all (instruction_of word))

pub row_padded : (word : ℕ) (more : List ℕ) → OfFound IsPadded (whole_row word more)
row_padded word more =
    whole_by (nat_le (words_after (instruction_of word)) (length more)) (row_named word) (named_padded word (row_of word) (row_found word))

pub well_written : (location word : ℕ) (more : List ℕ) → word < 65536 → AreWords more
    → IsWellWritten (statement_of location word more)
well_written location word more within all =
    written_by (whole_row word more) location word more within all (row_padded word more)

-- a name is what it has up to its first space, and the rest
bare_by : (character : ℕ) (characters : Bytes) (b : Bool) → characters ≡ bare_name characters ++ spaces characters
    → character ∷ characters
    ≡ (if b then [] else character ∷ bare_name characters)
    ++ drop (length (if b then [] else character ∷ bare_name characters)) (character ∷ characters)
bare_by character characters true rest = refl
bare_by character characters false rest = ap (λ cs. character ∷ cs) rest

pub bare_parts : (name : Bytes) → name ≡ bare_name name ++ spaces name
bare_parts [] = refl
bare_parts (character ∷ characters) = bare_by character characters (character == 32) (bare_parts characters)

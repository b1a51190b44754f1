-- The values that a line states at its locations, one after another, in terms of its source: numbers and the values of expressions, without
-- any relocation. (MACRO-11 Language Reference Manual, "Addressing modes", ".WORD directive", ".BYTE directive", ".ASCII directive",
-- ".RAD50 directive" and ".LIMIT directive".)
use Rattle.std.specs.Prelude.{ℕ, ◌+◌, ◌*◌, ◌%◌, true, if◌then◌else◌, List, [], ◌∷◌, ◌++◌, map}
use Rattle.std.specs.List.{flat_map}
use Rattle.m11_scan_expressions.specs.Expressions.{value}
use Rattle.m11_scan_expressions.specs.Tokens.{Expression}
use Rattle.m11_base.specs.Devices.{Bytes}
use Rattle.m11_base.specs.Encoding.{code_of}
use Rattle.m11_base.specs.declared.instruction.Op.{Op}
use Rattle.m11_asm_rules.specs.Alignment.{location_for}
use Rattle.m11_asm_rules.specs.Codes.{LineContext, instruction, is_relative}
use Rattle.m11_asm_rules.specs.Contents.{element_value, further}
use Rattle.m11_asm_rules.specs.Fields.{Fields, forms_of}
use Rattle.m11_asm_rules.specs.Effects.{is_even}
use Rattle.m11_asm_rules.specs.Instructions.{line_context, line_fields}
use Rattle.m11_asm_rules.specs.Actions as actions
use Rattle.m11_asm_rules.specs.Actions.{Action, AlignTo, ByteList, Characters, Coded, Operate, PackedText, Room, Storage, Store, Text, TextPart, WordList}
use Rattle.m11_asm_rules.specs.Operations.{action}
use Rattle.m11_asm_rules.specs.Meanings.{Map, known_at}
use Rattle.m11_asm_rules.specs.Strings.{last_byte, part_size, parts_codes}
use Rattle.m11_asm_rules.specs.Tables.{Table, location}
use Rattle.m11_asm_rules.specs.declared.meanings.Context.TheVariants.{LocalOnly, MayBeGlobal}
use Rattle.m11_asm_rules.specs.declared.operands.Form.{Form}
use Rattle.m11_asm_rules.specs.declared.operands.Form.TheVariants.{Absent, InRegister, Indexed, Unindexed, AfterCounter}
use Rattle.m11_unfold_rules.specs.Unfolding.{UnfoldedLine}
use Rattle.m11_scan_expressions.specs.Quantities.{Quantity}

pub data Stated : Type 0 where
  -- a word or a byte that is the same in every program
  PlainWord : ℕ → Stated
  PlainByte : ℕ → Stated
  -- a word with the value of an expression, or a byte with its low half
  ValueWord : Quantity → Stated
  ValueByte : Quantity → Stated
  -- a word with the distance of an expression's value from the location after that word
  DistanceWord : Quantity → Stated
  -- two words: the first address of the relocatable sections, and the first one after them
  LimitWords : Stated

abbrev pub stated_size : Stated → ℕ
stated_size (PlainWord number) = 2
stated_size (PlainByte number) = 1
stated_size (ValueWord value) = 2
stated_size (ValueByte value) = 1
stated_size (DistanceWord value) = 2
stated_size LimitWords = 4

-- ---- lists of expressions; `.` in each expression is the location of that expression's own word or byte

abbrev pub words_stated : Map → Table → ℕ → List Expression → List Stated
words_stated map table location [] = []
words_stated map table location (element ∷ elements) =
    ValueWord (element_value (known_at map MayBeGlobal table location) element) ∷ words_stated map table (further location 2) elements

abbrev pub bytes_stated : Map → Table → ℕ → List Expression → List Stated
bytes_stated map table location [] = []
bytes_stated map table location (element ∷ elements) =
    ValueByte (element_value (known_at map MayBeGlobal table location) element) ∷ bytes_stated map table (further location 1) elements

-- ---- texts: characters, expressions between `<` and `>`, and Radix-50 codes

abbrev pub part_stated : Map → Table → ℕ → TextPart → List Stated
part_stated known table location (Characters text) = map PlainByte text
part_stated known table location (Coded tokens) = ValueByte (value (known_at known MayBeGlobal table location) tokens) ∷ []

abbrev pub parts_stated : Map → Table → ℕ → List TextPart → List Stated
parts_stated known table location [] = []
parts_stated known table location (part ∷ parts) =
    part_stated known table location part ++ parts_stated known table (further location (part_size part)) parts

-- Radix-50 codes, three in a word; missing codes of the last word are 0
abbrev pub packed_stated : List ℕ → List Stated
packed_stated [] = []
packed_stated (first ∷ []) = PlainWord ((first * 1600 + 0 * 40 + 0) % 65536) ∷ []
packed_stated (first ∷ (second ∷ [])) = PlainWord ((first * 1600 + second * 40 + 0) % 65536) ∷ []
packed_stated (first ∷ (second ∷ (third ∷ codes))) =
    PlainWord ((first * 1600 + second * 40 + third) % 65536) ∷ packed_stated codes

-- ---- instructions: the code word, and a word for each operand that has one

-- the words that an operand states, one or none: for an index its value, and for `@(Rn)` the word 0; in the modes that use PC, for `#n` and
-- `@#n` the value of n, and for `A` and `@A` the distance of A from the location after the word
abbrev pub form_stated : LineContext → Form Expression → List Stated
form_stated line_context Absent = []
form_stated line_context (InRegister kind register) = []
form_stated line_context (Indexed kind register index) = ValueWord (value line_context.refers index) ∷ []
form_stated line_context (Unindexed register) = PlainWord 0 ∷ []
form_stated line_context (AfterCounter kind number) =
    (if is_relative kind then DistanceWord (value line_context.refers number)
    else ValueWord (value line_context.refers number)) ∷ []

abbrev pub instruction_stated : LineContext → Op → Fields → List Stated
instruction_stated line_context operation fields =
    PlainWord (code_of (instruction line_context operation fields.first fields.second))
    ∷ flat_map (form_stated line_context) (forms_of fields)

-- ---- lines

-- the values that a directive states at location `here`
abbrev pub storage_stated : Map → Table → ℕ → Storage → List Stated
storage_stated known table here (WordList elements) = words_stated known table here elements
storage_stated known table here (ByteList elements) = bytes_stated known table here elements
storage_stated known table here (Text parts is_ended) = parts_stated known table here parts ++ map PlainByte (last_byte is_ended)
storage_stated known table here (PackedText parts) = packed_stated (parts_codes (known_at known LocalOnly table here) parts).codes
storage_stated known table here actions.LimitWords = LimitWords ∷ []
storage_stated known table here (Room unit count) = []
storage_stated known table here (AlignTo is_even) = []

abbrev pub action_stated : Map → Table → Bytes → Action → List Stated
action_stated known table line (Store storage) = storage_stated known table (location_for (is_even storage) (location table)) storage
action_stated known table line (Operate operation start) =
    instruction_stated (line_context known table (location_for true (location table))) operation (line_fields table line start operation)
action_stated known table line other = []

-- the values that a line states; `stood` is the table after its labels
unfoldable pub line_stated : Map → Table → UnfoldedLine → List Stated
line_stated map stood given =
    action_stated map stood given.live.line.text (action given.is_own given.arguments given.live.line.text)

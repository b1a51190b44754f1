-- What an operator emits has as many bytes as it adds to the counter.
use Rattle.std.proofs.Common.{◌≡◌, ◌∙◌, ℕ, suc, ◌+◌, ◌*◌, ◌/◌, Bool, true, false, List, [], ◌∷◌, ◌++◌, length, map, refl, ap, arith}
use Rattle.m11_scan_expressions.specs.Expressions.{KnownSymbols}
use Rattle.m11_base.specs.Devices.{Bytes}
use Rattle.m11_obj.specs.declared.pieces.PieceContent.{PieceContent}
use Rattle.m11_asm_rules.specs.Actions.{Characters, Coded, TextPart}
use Rattle.m11_asm_rules.specs.Codes.{LineContext, form_words, words_from}
use Rattle.m11_asm_rules.specs.Contents.{contents_size, fixed_byte, further}
use Rattle.m11_base.specs.Rad50.{Name}
use Rattle.m11_asm_rules.specs.Definitions.{Definition, Definitions, Standing, firm_entry, firm_parts, firm_standing}
use Rattle.m11_asm_rules.specs.Meanings.{Map}
use Rattle.m11_scan_expressions.specs.Tokens.{Expression}
use Rattle.m11_asm_rules.specs.declared.operands.Form.{Form}
use Rattle.m11_asm_rules.specs.declared.operands.Form.TheVariants.{Absent, InRegister, Indexed, Unindexed, AfterCounter}
use Rattle.m11_asm_rules.specs.Operands.{instruction_size, words_of}
use Rattle.m11_asm_rules.specs.Storage as storage
use Rattle.m11_asm_rules.specs.Strings as strings
use Rattle.m11_asm_rules.specs.Tables.{Table, firm_table}

-- ---- one emission after another

pub sizes_add : (first next : List PieceContent) → contents_size (first ++ next) ≡ contents_size first + contents_size next
sizes_add [] next = omega arith
sizes_add (content ∷ first) next =
    let rest : contents_size (first ++ next) ≡ contents_size first + contents_size next = sizes_add first next in
    rw rest (omega arith)

-- ---- .WORD, .BYTE

pub words_fill : (map : Map) (table : Table) (location : ℕ) (elements : List Expression)
    → contents_size (storage.words_from map table location elements).contents ≡ length elements * 2
words_fill map table location [] = refl
words_fill map table location (element ∷ elements) =
    let rest : contents_size (storage.words_from map table (further location 2) elements).contents ≡ length elements * 2
    = words_fill map table (further location 2) elements in
    omega (arith, rest)

pub bytes_fill : (map : Map) (table : Table) (location : ℕ) (elements : List Expression)
    → contents_size (storage.bytes_from map table location elements).contents ≡ length elements
bytes_fill map table location [] = refl
bytes_fill map table location (element ∷ elements) =
    let rest : contents_size (storage.bytes_from map table (further location 1) elements).contents ≡ length elements
    = bytes_fill map table (further location 1) elements in
    omega (arith, rest)

-- ---- texts

pub characters_fill : (text : Bytes) → contents_size (map fixed_byte text) ≡ length text
characters_fill [] = refl
characters_fill (character ∷ text) =
    let rest : contents_size (map fixed_byte text) ≡ length text = characters_fill text in
    omega (arith, rest)

part_fills : (known : Map) (table : Table) (location : ℕ) (part : TextPart)
    → contents_size (strings.part_bytes known table location part).contents ≡ strings.part_size part
part_fills known table location (Characters text) = characters_fill text
part_fills known table location (Coded tokens) = refl

pub parts_fill : (known : Map) (table : Table) (location : ℕ) (parts : List TextPart)
    → contents_size (strings.parts_bytes known table location parts).contents ≡ strings.parts_size parts
parts_fill known table location [] = refl
parts_fill known table location (part ∷ parts) =
    sizes_add (strings.part_bytes known table location part).contents
    (strings.parts_bytes known table (further location (strings.part_size part)) parts).contents
    ∙ ap (λ (n : ℕ). n + contents_size (strings.parts_bytes known table (further location (strings.part_size part)) parts).contents)
    (part_fills known table location part)
    ∙ ap (λ (n : ℕ). strings.part_size part + n) (parts_fill known table (further location (strings.part_size part)) parts)

-- ---- .RAD50

length_map : (f : ℕ → ℕ) (text : List ℕ) → length (map f text) ≡ length text
length_map f [] = refl
length_map f (character ∷ text) = ap suc (length_map f text)

length_joined : (first next : List ℕ) → length (first ++ next) ≡ length first + length next
length_joined [] next = omega arith
length_joined (code ∷ first) next =
    let rest : length (first ++ next) ≡ length first + length next = length_joined first next in
    omega (arith, rest)

part_counts : (known : KnownSymbols) (part : TextPart) → length (strings.part_codes known part).codes ≡ strings.part_size part
part_counts known (Characters text) = length_map strings.character_code text
part_counts known (Coded tokens) = refl

pub parts_count : (known : KnownSymbols) (parts : List TextPart)
    → length (strings.parts_codes known parts).codes ≡ strings.parts_size parts
parts_count known [] = refl
parts_count known (part ∷ parts) =
    length_joined (strings.part_codes known part).codes (strings.parts_codes known parts).codes
    ∙ ap (λ (n : ℕ). n + length (strings.parts_codes known parts).codes) (part_counts known part)
    ∙ ap (λ (n : ℕ). strings.part_size part + n) (parts_count known parts)

pub packed_fill : (codes : List ℕ) → contents_size (strings.packed_words codes) ≡ (length codes + 2) / 3 * 2
packed_fill [] = refl
packed_fill (first ∷ []) = refl
packed_fill (first ∷ (second ∷ [])) = refl
packed_fill (first ∷ (second ∷ (third ∷ codes))) =
    let rest : contents_size (strings.packed_words codes) ≡ (length codes + 2) / 3 * 2 = packed_fill codes in
    omega (arith, rest)

-- ---- instructions

form_fills : (line_context : LineContext) (location : ℕ) (form : Form Expression)
    → contents_size (form_words line_context location form).contents ≡ words_of form * 2
form_fills line_context location Absent = refl
form_fills line_context location (InRegister kind register) = refl
form_fills line_context location (Indexed kind register index) = refl
form_fills line_context location (Unindexed register) = refl
form_fills line_context location (AfterCounter kind start) = refl

pub forms_fill : (line_context : LineContext) (location : ℕ) (forms : List (Form Expression))
    → 2 + contents_size (words_from line_context location forms).contents ≡ instruction_size forms
forms_fill line_context location [] = refl
forms_fill line_context location (form ∷ forms) =
    let both : contents_size (words_from line_context location (form ∷ forms)).contents
    ≡ contents_size (form_words line_context location form).contents
    + contents_size (words_from line_context (further location (words_of form * 2)) forms).contents
    = sizes_add (form_words line_context location form).contents
    (words_from line_context (further location (words_of form * 2)) forms).contents in
    let first : contents_size (form_words line_context location form).contents ≡ words_of form * 2 = form_fills line_context location form in
    let rest : 2 + contents_size (words_from line_context (further location (words_of form * 2)) forms).contents ≡ instruction_size forms
    = forms_fill line_context (further location (words_of form * 2)) forms in
    omega (arith, both, first, rest)

-- ---- firm parts

standing_twice : (firm : Bool) (standing : Standing) → firm_standing firm (firm_standing firm standing) ≡ firm_standing firm standing
standing_twice true standing = refl
standing_twice false standing = refl

entries_twice : {A : Type 0} (entries : List (A × Definition)) → map firm_entry (map firm_entry entries) ≡ map firm_entry entries
entries_twice [] = refl
entries_twice {A} (entry ∷ entries) =
    let first : Standing → A × Definition = λ standing. (entry.0, record { standing = standing; is_firm = entry.1.is_firm; label = entry.1.label }) in
    ap (λ (s : Standing). first s ∷ map firm_entry (map firm_entry entries)) (standing_twice entry.1.is_firm entry.1.standing)
    ∙ ap (λ (l : List (A × Definition)). firm_entry entry ∷ l) (entries_twice entries)

parts_twice : (definitions : Definitions) → firm_parts (firm_parts definitions) ≡ firm_parts definitions
parts_twice definitions =
    ap (λ (l : List (Name × Definition)). record (firm_parts (firm_parts definitions)) { names = l }) (entries_twice definitions.names)
    ∙ ap (λ (l : List ((ℕ × ℕ) × Definition)). record (firm_parts definitions) { local_symbols = l })
    (entries_twice definitions.local_symbols)

pub table_twice : (table : Table) → firm_table (firm_table table) ≡ firm_table table
table_twice table =
    ap (λ (d : Definitions). record table { definitions = d }) (parts_twice table.definitions)

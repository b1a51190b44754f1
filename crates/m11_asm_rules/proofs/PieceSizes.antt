-- The sizes of what a line emits depend on firm names alone.
use Rattle.std.proofs.Common.{◌≡◌, ◌∙◌, ℕ, Bool, true, List, [], ◌∷◌, ◌++◌, ◌*◌, map, refl, sym, ap}
use Rattle.std.proofs.lemmas.List.{map-append}
use Rattle.m11_scan_expressions.specs.Expressions.{KnownSymbols}
use Rattle.m11_base.specs.Devices.{Bytes}
use Rattle.m11_base.specs.Rad50.{Name}
use Rattle.m11_obj.specs.declared.pieces.PieceContent.{PieceContent}
use Rattle.m11_unfold_rules.specs.Unfolding.{UnfoldedLine}
use Rattle.m11_asm_rules.proofs.FirmLines.{line_alike, stands_alike}
use Rattle.m11_asm_rules.specs.Alignment.{location_for}
use Rattle.m11_asm_rules.specs.Codes as codes
use Rattle.m11_asm_rules.specs.Contents.{content_size, fixed_byte, further, pieces_from}
use Rattle.m11_asm_rules.specs.Effects.{is_even, stored}
use Rattle.m11_asm_rules.specs.Fields.{fields_at, forms_of}
use Rattle.m11_asm_rules.specs.Instructions as instructions
use Rattle.m11_asm_rules.specs.Lines.{after_line, line_emission, pieces, emission_by, put_location, stands}
use Rattle.m11_asm_rules.specs.Actions.{Action, AlignTo, ByteList, Characters, Coded, LimitWords, Operate, PackedText, Room, Storage, Store, Text, TextPart, WordList}
use Rattle.m11_asm_rules.specs.Operations.{action}
use Rattle.m11_asm_rules.specs.Meanings.{LocalOnly, Map, empty_map, known_at}
use Rattle.m11_scan_expressions.specs.Tokens.{Expression}
use Rattle.m11_asm_rules.specs.declared.operands.Form.{Form}
use Rattle.m11_asm_rules.specs.declared.operands.Form.TheVariants.{Absent, InRegister, Indexed, Unindexed, AfterCounter}
use Rattle.m11_asm_rules.specs.Operands.{words_of}
use Rattle.m11_asm_rules.specs.Placements.{placed_from, placement}
use Rattle.m11_asm_rules.specs.Shapes.{Shape, shape_of, shapes_in}
use Rattle.m11_asm_rules.specs.Storage as storage
use Rattle.m11_asm_rules.specs.Strings as strings
use Rattle.m11_asm_rules.specs.Tables.{Table, firm_table, first_table, location, section_name}

abbrev sizes : List PieceContent → List ℕ
sizes contents = map content_size contents

-- a list with the number 2 for each item of another list
abbrev twos : {A : Type 0} → List A → List ℕ
twos list = map (λ one. 2) list

abbrev ones : {A : Type 0} → List A → List ℕ
ones list = map (λ one. 1) list

words_sized : (known : Map) (table : Table) (here : ℕ) (elements : List Expression)
    → sizes (storage.words_from known table here elements).contents ≡ twos elements
words_sized known table here [] = refl
words_sized known table here (element ∷ elements) =
    ap (λ (l : List ℕ). 2 ∷ l) (words_sized known table (further here 2) elements)

bytes_sized : (known : Map) (table : Table) (here : ℕ) (elements : List Expression)
    → sizes (storage.bytes_from known table here elements).contents ≡ ones elements
bytes_sized known table here [] = refl
bytes_sized known table here (element ∷ elements) =
    ap (λ (l : List ℕ). 1 ∷ l) (bytes_sized known table (further here 1) elements)

-- ---- texts

characters_sized : (text : Bytes) → sizes (map fixed_byte text) ≡ ones text
characters_sized [] = refl
characters_sized (character ∷ text) = ap (λ (l : List ℕ). 1 ∷ l) (characters_sized text)

abbrev part_ones : TextPart → List ℕ
part_ones (Characters text) = ones text
part_ones (Coded tokens) = 1 ∷ []

abbrev parts_ones : List TextPart → List ℕ
parts_ones [] = []
parts_ones (part ∷ parts) = part_ones part ++ parts_ones parts

part_sized : (known : Map) (table : Table) (here : ℕ) (part : TextPart)
    → sizes (strings.part_bytes known table here part).contents ≡ part_ones part
part_sized known table here (Characters text) = characters_sized text
part_sized known table here (Coded tokens) = refl

parts_sized : (known : Map) (table : Table) (here : ℕ) (parts : List TextPart)
    → sizes (strings.parts_bytes known table here parts).contents ≡ parts_ones parts
parts_sized known table here [] = refl
parts_sized known table here (part ∷ parts) =
    map-append content_size (strings.part_bytes known table here part).contents
    (strings.parts_bytes known table (further here (strings.part_size part)) parts).contents
    ∙ ap (λ (l : List ℕ). l ++ sizes (strings.parts_bytes known table (further here (strings.part_size part)) parts).contents)
    (part_sized known table here part)
    ∙ ap (λ (l : List ℕ). part_ones part ++ l) (parts_sized known table (further here (strings.part_size part)) parts)

text_sized : (known : Map) (table : Table) (here : ℕ) (parts : List TextPart) (is_ended : Bool)
    → sizes (strings.text_bytes known table here parts is_ended).contents ≡ parts_ones parts ++ ones (strings.last_byte is_ended)
text_sized known table here parts is_ended =
    map-append content_size (strings.parts_bytes known table here parts).contents (map fixed_byte (strings.last_byte is_ended))
    ∙ ap (λ (l : List ℕ). l ++ sizes (map fixed_byte (strings.last_byte is_ended))) (parts_sized known table here parts)
    ∙ ap (λ (l : List ℕ). parts_ones parts ++ l) (characters_sized (strings.last_byte is_ended))

-- ---- .RAD50

abbrev triples : List ℕ → List ℕ
triples [] = []
triples (first ∷ []) = 2 ∷ []
triples (first ∷ (second ∷ [])) = 2 ∷ []
triples (first ∷ (second ∷ (third ∷ others))) = 2 ∷ triples others

packed_sized : (found : List ℕ) → sizes (strings.packed_words found) ≡ triples (ones found)
packed_sized [] = refl
packed_sized (first ∷ []) = refl
packed_sized (first ∷ (second ∷ [])) = refl
packed_sized (first ∷ (second ∷ (third ∷ others))) = ap (λ (l : List ℕ). 2 ∷ l) (packed_sized others)

ones_of : (f : ℕ → ℕ) (text : List ℕ) → ones (map f text) ≡ ones text
ones_of f [] = refl
ones_of f (character ∷ text) = ap (λ (l : List ℕ). 1 ∷ l) (ones_of f text)

part_coded : (known : KnownSymbols) (part : TextPart) → ones (strings.part_codes known part).codes ≡ part_ones part
part_coded known (Characters text) = ones_of strings.character_code text
part_coded known (Coded tokens) = refl

parts_coded : (known : KnownSymbols) (parts : List TextPart) → ones (strings.parts_codes known parts).codes ≡ parts_ones parts
parts_coded known [] = refl
parts_coded known (part ∷ parts) =
    map-append (λ one. 1) (strings.part_codes known part).codes (strings.parts_codes known parts).codes
    ∙ ap (λ (l : List ℕ). l ++ ones (strings.parts_codes known parts).codes) (part_coded known part)
    ∙ ap (λ (l : List ℕ). part_ones part ++ l) (parts_coded known parts)

-- ---- instructions

abbrev form_twos : Form Expression → List ℕ
form_twos Absent = []
form_twos (InRegister kind register) = []
form_twos (Indexed kind register index) = 2 ∷ []
form_twos (Unindexed register) = 2 ∷ []
form_twos (AfterCounter kind start) = 2 ∷ []

abbrev forms_twos : List (Form Expression) → List ℕ
forms_twos [] = []
forms_twos (form ∷ forms) = form_twos form ++ forms_twos forms

form_sized : (line_context : codes.LineContext) (here : ℕ) (form : Form Expression)
    → sizes (codes.form_words line_context here form).contents ≡ form_twos form
form_sized line_context here Absent = refl
form_sized line_context here (InRegister kind register) = refl
form_sized line_context here (Indexed kind register index) = refl
form_sized line_context here (Unindexed register) = refl
form_sized line_context here (AfterCounter kind start) = refl

forms_sized : (line_context : codes.LineContext) (here : ℕ) (forms : List (Form Expression))
    → sizes (codes.words_from line_context here forms).contents ≡ forms_twos forms
forms_sized line_context here [] = refl
forms_sized line_context here (form ∷ forms) =
    map-append content_size (codes.form_words line_context here form).contents
    (codes.words_from line_context (further here (words_of form * 2)) forms).contents
    ∙ ap (λ (l : List ℕ). l ++ sizes (codes.words_from line_context (further here (words_of form * 2)) forms).contents)
    (form_sized line_context here form)
    ∙ ap (λ (l : List ℕ). form_twos form ++ l) (forms_sized line_context (further here (words_of form * 2)) forms)

-- ---- from the firm table alone

abbrev storage_sizes : Storage → List ℕ
storage_sizes (WordList elements) = twos elements
storage_sizes (ByteList elements) = ones elements
storage_sizes (Text parts is_ended) = parts_ones parts ++ ones (strings.last_byte is_ended)
storage_sizes (PackedText parts) = triples (parts_ones parts)
storage_sizes LimitWords = 4 ∷ []
storage_sizes (Room unit count) = []
storage_sizes (AlignTo is_even) = []

storage_sized : (known : Map) (table : Table) (here : ℕ) (storage : Storage)
    → sizes (stored known table here storage).contents ≡ storage_sizes storage
storage_sized known table here (WordList elements) = words_sized known table here elements
storage_sized known table here (ByteList elements) = bytes_sized known table here elements
storage_sized known table here (Text parts is_ended) = text_sized known table here parts is_ended
storage_sized known table here (PackedText parts) =
    packed_sized (strings.parts_codes (known_at known LocalOnly table here) parts).codes
    ∙ ap triples (parts_coded (known_at known LocalOnly table here) parts)
storage_sized known table here LimitWords = refl
storage_sized known table here (Room unit count) = refl
storage_sized known table here (AlignTo is_even) = refl

abbrev action_sizes : Table → Bytes → Action → List ℕ
action_sizes firm line (Store storage) = storage_sizes storage
action_sizes firm line (Operate operation start) =
    2 ∷ forms_twos (forms_of (fields_at (known_at empty_map LocalOnly firm (location_for true (location firm))) line start operation))
action_sizes firm line other = []

action_sized : (known : Map) (table : Table) (line : Bytes) (does : Action)
    → sizes (emission_by known table line does).contents ≡ action_sizes (firm_table table) line does
action_sized known table line (Store storage) =
    storage_sized known table (location_for (is_even storage) (location table)) storage
action_sized known table line (Operate operation start) =
    let here : ℕ = location_for true (location table) in
    ap (λ (l : List ℕ). 2 ∷ l) (forms_sized (instructions.line_context known table here) (further here 2)
    (forms_of (instructions.fields table here line start operation)))
action_sized known table line other = refl

line_sized : (known : Map) (stood : Table) (given : UnfoldedLine)
    → sizes (line_emission known stood given).contents
    ≡ action_sizes (firm_table stood) given.live.line.text (action given.is_own given.arguments given.live.line.text)
unfolding line_emission
line_sized known stood given =
    action_sized known stood given.live.line.text (action given.is_own given.arguments given.live.line.text)

-- ---- shapes

abbrev shape : Name → ℕ → ℕ → Shape
shape section here size = record { section = section; location = here; size = size }

abbrev shapes : Name → ℕ → List ℕ → List Shape
shapes section here [] = []
shapes section here (size ∷ more) = shape section here size ∷ shapes section (further here size) more

shaped : (section : Name) (here : ℕ) (contents : List PieceContent)
    → map shape_of (pieces_from section here contents) ≡ shapes section here (sizes contents)
shaped section here [] = refl
shaped section here (content ∷ contents) =
    ap (λ (l : List Shape). shape section here (content_size content) ∷ l)
    (shaped section (further here (content_size content)) contents)

abbrev firm_shapes : Table → Bytes → Action → List Shape
firm_shapes firm line does = shapes (section_name firm) (put_location firm does) (action_sizes firm line does)

start_firm : (table : Table) (does : Action) → put_location table does ≡ put_location (firm_table table) does
start_firm table (Store storage) = refl
start_firm table (Operate operation start) = refl
start_firm table other = refl

line_shaped : (known : Map) (table : Table) (given : UnfoldedLine)
    → map shape_of (pieces known table given)
    ≡ firm_shapes (firm_table (stands table given)) given.live.line.text (action given.is_own given.arguments given.live.line.text)
line_shaped known table given =
    shaped (section_name (stands table given)) (put_location (stands table given) (action given.is_own given.arguments given.live.line.text))
    (line_emission known (stands table given) given).contents
    ∙ ap (λ (l : List ℕ). shapes (section_name (stands table given))
    (put_location (stands table given) (action given.is_own given.arguments given.live.line.text)) l)
    (line_sized known (stands table given) given)
    ∙ ap (λ (n : ℕ). shapes (section_name (stands table given)) n
    (action_sizes (firm_table (stands table given)) given.live.line.text (action given.is_own given.arguments given.live.line.text)))
    (start_firm (stands table given) (action given.is_own given.arguments given.live.line.text))

lines_shaped : (one other : Map) (lines : List UnfoldedLine) (first second : Table) → firm_table first ≡ firm_table second
    → map shapes_in (placed_from one first lines) ≡ map shapes_in (placed_from other second lines)
lines_shaped one other [] first second same = refl
lines_shaped one other (given ∷ lines) first second same =
    ap (λ (l : List Shape). l ∷ map shapes_in (placed_from one (after_line one first given) lines))
    (line_shaped one first given
    ∙ ap (λ (t : Table). firm_shapes t given.live.line.text (action given.is_own given.arguments given.live.line.text))
    (stands_alike given first second same)
    ∙ sym (line_shaped other second given))
    ∙ ap (λ (l : List (List Shape)). map shape_of (pieces other second given) ∷ l)
    (lines_shaped one other lines (after_line one first given) (after_line other second given)
    (line_alike one other given first second same))

pub shapes_alike : (one other : Map) (lines : List UnfoldedLine)
    → map shapes_in (placement one lines) ≡ map shapes_in (placement other lines)
shapes_alike one other lines = lines_shaped one other lines first_table first_table refl

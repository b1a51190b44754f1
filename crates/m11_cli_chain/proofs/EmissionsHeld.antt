-- If a property holds of the sections of all definitions and of all sections, it holds of the sections that a line's emission names.
use Rattle.std.proofs.Common.{ℕ, Bool, true, false, if◌then◌else◌, List, [], ◌∷◌, ◌++◌, map}
use Rattle.std.specs.Prelude.{⊤}
use Rattle.std.specs.List.{AllByRecursion}
use Rattle.m11_base.specs.Devices.{Bytes}
use Rattle.m11_base.specs.Names.{blank_name}
use Rattle.m11_base.specs.Rad50.{Name, is_same_name}
use Rattle.m11_obj.specs.declared.pieces.PieceContent.{PieceContent}
use Rattle.m11_obj.specs.declared.pieces.PieceContent.TheVariants.{Byte, Word, Limits}
use Rattle.m11_obj.specs.declared.pieces.RelocationKind.{RelocationKind}
use Rattle.m11_obj.specs.declared.pieces.RelocationKind.TheVariants as relocation
use Rattle.m11_scan_expressions.specs.Expressions.{value}
use Rattle.m11_scan_expressions.specs.Tokens.{Expression, is_empty}
use Rattle.m11_scan_expressions.specs.Quantities.{Quantity, absolute}
use Rattle.m11_scan_expressions.specs.declared.kinds.Kind.{Kind}
use Rattle.m11_scan_expressions.specs.declared.kinds.Kind.TheVariants as kind
use Rattle.m11_unfold_rules.specs.Unfolding.{UnfoldedLine}
use Rattle.m11_asm_rules.specs.Alignment.{location_for}
use Rattle.m11_asm_rules.specs.Codes.{is_relative}
use Rattle.m11_asm_rules.specs.Codes as codes
use Rattle.m11_asm_rules.specs.Contents.{element_value, fixed_byte, further}
use Rattle.m11_asm_rules.specs.Effects as effects
use Rattle.m11_asm_rules.specs.Effects.{is_even}
use Rattle.m11_asm_rules.specs.Fields.{forms_of}
use Rattle.m11_asm_rules.specs.Instructions.{fields, line_context}
use Rattle.m11_asm_rules.specs.Actions.{Action, AlignTo, ByteList, Characters, Coded, LimitWords, Operate, PackedText, Room, Storage, Store, Text, TextPart, WordList}
use Rattle.m11_asm_rules.specs.Lines.{emission_by, line_emission}
use Rattle.m11_asm_rules.specs.Operations.{action}
use Rattle.m11_asm_rules.specs.Meanings.{Map, known_at}
use Rattle.m11_asm_rules.specs.Relocations.{Here, InObject, InSection, Origin, Zero, is_moved, origin_of, relocation_by, row_of, stored}
use Rattle.m11_asm_rules.specs.Storage.{bytes_from, words_from}
use Rattle.m11_asm_rules.specs.Strings.{last_byte, packed_words, part_bytes, part_size, parts_bytes, parts_codes}
use Rattle.m11_asm_rules.specs.Tables.{Table, location, section_name}
use Rattle.m11_asm_rules.specs.declared.meanings.Context.{Context}
use Rattle.m11_asm_rules.specs.declared.meanings.Context.TheVariants.{LocalOnly, MayBeGlobal}
use Rattle.m11_asm_rules.specs.declared.operands.Form.{Form}
use Rattle.m11_asm_rules.specs.declared.operands.Form.TheVariants.{Absent, InRegister, Indexed, Unindexed, AfterCounter}
use Rattle.m11_cli_chain.proofs.KindsHeld.{AllDefined, KindHolds, TableHolds, ValueHolds, known_holds}

module _ (P : Name → Type 0) where
  abbrev pub RelocationHolds : RelocationKind → Type 0
  RelocationHolds (relocation.Section name) = P name
  RelocationHolds (relocation.SectionDisplaced name) = P name
  RelocationHolds other = ⊤

  abbrev pub ContentHolds : PieceContent → Type 0
  ContentHolds (Byte stored) = RelocationHolds stored.kind
  ContentHolds (Word stored) = RelocationHolds stored.kind
  ContentHolds Limits = ⊤

  -- ---- one value

  abbrev OriginHolds : Origin → Type 0
  OriginHolds (InSection name) = P name
  OriginHolds other = ⊤

  section_origin : (b : Bool) (name : Name) → P name → OriginHolds (if b then Here else InSection name)
  section_origin true name h = tt
  section_origin false name h = h

  origin_holds : (table : Table) (counted : Kind) → KindHolds P counted → OriginHolds (origin_of table counted)
  origin_holds table kind.Absolute h = tt
  origin_holds table kind.Register h = tt
  origin_holds table (kind.Section name) h = section_origin (is_same_name name (section_name table)) name h
  origin_holds table (kind.Reference name) h = tt

  row_holds : (origin : Origin) (is_relative moves : Bool) → OriginHolds origin
      → RelocationHolds (relocation_by is_relative moves (row_of origin))
  row_holds Here false moves h = tt
  row_holds Here true true h = tt
  row_holds Here true false h = tt
  row_holds Zero false moves h = tt
  row_holds Zero true true h = tt
  row_holds Zero true false h = tt
  row_holds (InSection name) false moves h = h
  row_holds (InSection name) true true h = h
  row_holds (InSection name) true false h = h
  row_holds (InObject name) false moves h = tt
  row_holds (InObject name) true true h = tt
  row_holds (InObject name) true false h = tt

  stored_holds : (table : Table) (is_relative : Bool) (here : ℕ) (value : Quantity) → ValueHolds P value
      → RelocationHolds (stored table is_relative here value).kind
  stored_holds table is_relative here value h =
      row_holds (origin_of table value.kind) is_relative (is_moved table) (origin_holds table value.kind h)

  abbrev pub AllHold : List PieceContent → Type 0
  AllHold contents = AllByRecursion ContentHolds contents

  both_hold : (some more : List PieceContent) → AllHold some → AllHold more → AllHold (some ++ more)
  both_hold [] more h k = k
  both_hold (one ∷ some) more h k = (h.0, both_hold some more h.1 k)

  characters_hold : (text : Bytes) → AllHold (map fixed_byte text)
  characters_hold [] = tt
  characters_hold (byte ∷ text) = (tt, characters_hold text)

  packed_hold : (found : List ℕ) → AllHold (packed_words found)
  packed_hold [] = tt
  packed_hold (first ∷ []) = (tt, tt)
  packed_hold (first ∷ (second ∷ [])) = (tt, tt)
  packed_hold (first ∷ (second ∷ (third ∷ found))) = (tt, packed_hold found)

  -- ---- lines

  module _ (blank : P blank_name) (known : Map) (defined : AllDefined P known.definitions) (table : Table)
      (held : TableHolds P blank table) where
    value_held : (context : Context) (here : ℕ) (tokens : Expression)
        → ValueHolds P (value (known_at known context table here) tokens)
    value_held context here tokens = known_holds P blank known context table here defined held tokens

    either_held : (b : Bool) (one : Quantity) → ValueHolds P one → ValueHolds P (if b then absolute 0 0 else one)
    either_held true one h = tt
    either_held false one h = h

    element_held : (here : ℕ) (element : Expression)
        → ValueHolds P (element_value (known_at known MayBeGlobal table here) element)
    element_held here element =
        either_held (is_empty element) (value (known_at known MayBeGlobal table here) element) (value_held MayBeGlobal here element)

    words_held : (here : ℕ) (elements : List Expression) → AllHold (words_from known table here elements).contents
    words_held here [] = tt
    words_held here (element ∷ elements) = (
      stored_holds table false here (element_value (known_at known MayBeGlobal table here) element) (element_held here element),
      words_held (further here 2) elements,
    )

    bytes_held : (here : ℕ) (elements : List Expression) → AllHold (bytes_from known table here elements).contents
    bytes_held here [] = tt
    bytes_held here (element ∷ elements) = (
      stored_holds table false here (element_value (known_at known MayBeGlobal table here) element) (element_held here element),
      bytes_held (further here 1) elements,
    )

    part_held : (here : ℕ) (part : TextPart) → AllHold (part_bytes known table here part).contents
    part_held here (Characters text) = characters_hold text
    part_held here (Coded tokens) = (
      stored_holds table false here (value (known_at known MayBeGlobal table here) tokens) (value_held MayBeGlobal here tokens),
      tt,
    )

    parts_held : (here : ℕ) (parts : List TextPart) → AllHold (parts_bytes known table here parts).contents
    parts_held here [] = tt
    parts_held here (part ∷ parts) =
        both_hold (part_bytes known table here part).contents _ (part_held here part) (parts_held (further here (part_size part)) parts)

    forms_held : (own here : ℕ) (forms : List (Form Expression))
        → AllHold (codes.words_from (line_context known table own) here forms).contents
    forms_held own here [] = tt
    forms_held own here (Absent ∷ forms) = forms_held own (further here 0) forms
    forms_held own here (InRegister mode register ∷ forms) = forms_held own (further here 0) forms
    forms_held own here (Indexed mode register index ∷ forms) = (
      stored_holds table false here (value (known_at known MayBeGlobal table own) index) (value_held MayBeGlobal own index),
      forms_held own (further here 2) forms,
    )
    forms_held own here (Unindexed register ∷ forms) = (tt, forms_held own (further here 2) forms)
    forms_held own here (AfterCounter mode number ∷ forms) = (
      stored_holds table (is_relative mode) here (value (known_at known MayBeGlobal table own) number) (value_held MayBeGlobal own number),
      forms_held own (further here 2) forms,
    )

    storage_held : (here : ℕ) (storage : Storage) → AllHold (effects.stored known table here storage).contents
    storage_held here (WordList elements) = words_held here elements
    storage_held here (ByteList elements) = bytes_held here elements
    storage_held here (Text parts is_ended) =
        both_hold (parts_bytes known table here parts).contents (map fixed_byte (last_byte is_ended))
        (parts_held here parts) (characters_hold (last_byte is_ended))
    storage_held here (PackedText parts) = packed_hold (parts_codes (known_at known LocalOnly table here) parts).codes
    storage_held here LimitWords = (tt, tt)
    storage_held here (Room unit count) = tt
    storage_held here (AlignTo is_even) = tt

    action_held : (line : Bytes) (done : Action) → AllHold (emission_by known table line done).contents
    action_held line (Store storage) = storage_held (location_for (is_even storage) (location table)) storage
    action_held line (Operate operation start) =
        let here = location_for true (location table) in
        (tt, forms_held here (further here 2) (forms_of (fields table here line start operation)))
    action_held line other = tt

    pub emission_held : (given : UnfoldedLine) → AllHold (line_emission known table given).contents
    unfolding line_emission
    emission_held given = action_held given.live.line.text (action given.is_own given.arguments given.live.line.text)

-- Under maps that agree, a line emits the same contents and makes the same change, with the same flags and the same fault.
use Rattle.std.proofs.Common.{◌≡◌, ◌∙◌, ℕ, Bool, if◌then◌else◌, List, [], ◌∷◌, true, map, Option, Some, None, refl, ap}
use Rattle.std.proofs.Math.Path.{fun_ext}
use Rattle.std.specs.Int.RustNames.{bit_or}
use Rattle.std.specs.Prelude.{false, not, ◌&&◌, option_map}
use Rattle.std.specs.Option.{option_or}
use Rattle.m11_asm_faults.specs.Faults.{of_unfolding}
use Rattle.m11_unfold_rules.specs.Definedness.{flag_U}
use Rattle.m11_scan_expressions.specs.Expressions as expressions
use Rattle.m11_scan_expressions.specs.Expressions.{known_by}
use Rattle.m11_scan_expressions.specs.Tokens.{Expression, is_empty}
use Rattle.m11_scan_expressions.specs.LeftOvers.{skip_flags}
use Rattle.m11_base.specs.Devices.{Bytes}
use Rattle.m11_base.specs.Rad50.{Name}
use Rattle.m11_scan_statements.specs.Labels.{labels_at, labels_end}
use Rattle.m11_scan.specs.ErrorFlags.{flag_if}
use Rattle.m11_scan_statements.specs.Statements.{body_of, label_flags}
use Rattle.m11_scan_statements.specs.declared.labels.Label.{Label}
use Rattle.m11_scan_statements.specs.declared.labels.LabelKind.{LabelKind}
use Rattle.m11_scan_statements.specs.declared.labels.LabelKind.TheVariants as label
use Rattle.m11_unfold_rules.specs.Acting.{act_fault}
use Rattle.m11_unfold_rules.specs.Stages.{Stage}
use Rattle.m11_unfold_rules.specs.Taking.{Live}
use Rattle.m11_unfold_rules.specs.Unfolding.{UnfoldedLine}
use Rattle.m11_scan_expressions.specs.Quantities.{Quantity}
use Rattle.m11_scan_expressions.specs.declared.names.Symbol.{Symbol}
use Rattle.m11_scan_expressions.specs.declared.names.Symbol.TheVariants.{Ordinary, Local, Counter}
use Rattle.m11_asm_rules.specs.Alignment.{gap_flags, location_for}
use Rattle.m11_asm_rules.specs.Assigning as assigning
use Rattle.m11_asm_rules.specs.Assignments.{all_firm, assigned, standing_of}
use Rattle.m11_asm_rules.specs.Changes.{Assigns, Change, changed, with_value}
use Rattle.m11_asm_rules.specs.Codes.{LineContext}
use Rattle.m11_asm_rules.specs.Contents.{Emission, byte, element_value, fixed_byte, followed_by, further, nothing, pieces_from, emission, with_flags, word}
use Rattle.m11_asm_rules.specs.Definitions.{Keys, has_key, is_defined, last_definition}
use Rattle.m11_asm_rules.specs.Effects.{is_even, stored}
use Rattle.m11_asm_rules.specs.Exports as exports
use Rattle.m11_asm_rules.specs.Instructions.{assembled, fields, line_context}
use Rattle.m11_asm_rules.specs.Labels.{label_name, labels_flags, with_label}
use Rattle.m11_asm_rules.specs.Limits.{limit_fault}
use Rattle.m11_asm_rules.specs.Actions.{Action, Assign, ByteList, Characters, Coded, Operate, PackedText, SetNumber, Storage, Store, Text, TextPart, Transfer, WordList}
use Rattle.m11_asm_rules.specs.Lines.{after_line, known_end, flags, line_change, line_emission, pieces, emission_by, put_location, stands}
use Rattle.m11_asm_rules.specs.Operations.{action, operation}
use Rattle.m11_asm_rules.specs.Meanings.{Map, defined_or, known_at, flag_D, meaning_of, quantity_of, value_of_symbol, undefined}
use Rattle.m11_asm_rules.specs.SymbolUses.{symbol_uses}
use Rattle.m11_asm_rules.specs.Storage as storage
use Rattle.m11_asm_rules.specs.Strings as strings
use Rattle.m11_asm_rules.specs.Tables.{Table, firm_table, location, section_name}
use Rattle.m11_asm_rules.specs.declared.definitions.Definition.{Definition}
use Rattle.m11_asm_rules.specs.declared.definitions.Key.{Key}
use Rattle.m11_asm_rules.specs.declared.definitions.Key.TheVariants.{Named, Numbered}
use Rattle.m11_asm_rules.specs.declared.meanings.Context.{Context}
use Rattle.m11_asm_rules.specs.declared.meanings.Context.TheVariants.{LocalOnly, MayBeGlobal}
use Rattle.m11_asm_lines.specs.Moved.{is_location_of, flag_P, moved_key, moved_kind, moved_flags, moved_name}
use Rattle.m11_asm_passes.specs.Placed.{all_flags}
use Rattle.m11_asm_lines.specs.Counting.{names_counted, with_counted}
use Rattle.m11_asm_lines.specs.declared.counting.Counting.{Counting}
use Rattle.m11_asm_passes.specs.Refusals.{given_by, labels_fault, line_fault, of_limit}
use Rattle.m11_asm_passes.specs.Maps.{MapsAgree}

-- ---- the value of a key

same_doubly_defined : (key : Key) (one other : Keys) (unknown : Quantity) → has_key key one ≡ has_key key other
    → (found : Option Definition) → defined_or key one unknown found ≡ defined_or key other unknown found
same_doubly_defined key one other unknown same (Some definition) =
    ap (λ (b : Bool). quantity_of (flag_if b flag_D) definition.standing) same
same_doubly_defined key one other unknown same None = refl

module _ (one other : Map) (same : MapsAgree one other) where
  map_same : (key : Key) (unknown : Quantity)
      → defined_or key one.doubly_defined unknown (last_definition key one.definitions)
      ≡ defined_or key other.doubly_defined unknown (last_definition key other.definitions)
  map_same key unknown =
      same_doubly_defined key one.doubly_defined other.doubly_defined unknown (same.doubly_defined key) (last_definition key one.definitions)
      ∙ ap (defined_or key other.doubly_defined unknown) (same.definitions key)

  meaning_same : (unknown : Quantity) (table : Table) (key : Key) → meaning_of one unknown table key ≡ meaning_of other unknown table key
  meaning_same unknown table key =
      ap (λ (q : Quantity). defined_or key table.doubly_defined q (last_definition key table.definitions)) (map_same key unknown)

  symbol_same : (context : Context) (table : Table) (here : ℕ) (symbol : Symbol)
      → value_of_symbol one context table here symbol ≡ value_of_symbol other context table here symbol
  symbol_same context table here (Ordinary name) = meaning_same (undefined context (Ordinary name)) table (Named name)
  symbol_same context table here (Local number) =
      meaning_same (undefined context (Local number)) table (Numbered table.modes.block number)
  symbol_same context table here Counter = refl

  known_same : (context : Context) (table : Table) (here : ℕ) → known_at one context table here ≡ known_at other context table here
  known_same context table here = ap (known_by table.modes.radix) (fun_ext (λ symbol. symbol_same context table here symbol))

  -- ---- the changes of a line

  assigned_same : (table : Table) (tokens : Expression) → assigned one table tokens ≡ assigned other table tokens
  assigned_same table tokens =
      let of : expressions.KnownSymbols → Definition = λ known. record {
        standing = standing_of (expressions.value known tokens);
        is_firm = all_firm table (expressions.symbols tokens);
        label = None;
      } in
      ap of (known_same LocalOnly table (location table))

  changed_same : (change : Change) (table : Table) → changed one change table ≡ changed other change table
  changed_same (Assigns name is_global tokens) table =
      ap (λ (d : Definition). with_value name is_global d table) (assigned_same table tokens)
  changed_same change table = refl

  pub after_line_same : (table : Table) (given : UnfoldedLine) → after_line one table given ≡ after_line other table given
  after_line_same table given =
      changed_same (line_change (firm_table (stands table given)) given) (stands table given)

  -- ---- flags of the names that it defines

  global_same : (name : Name) → assigning.globl_flags one name ≡ assigning.globl_flags other name
  global_same name =
      ap (λ (b : Bool). flag_if (b && assigning.is_unknown (last_definition (Named name) one.definitions)) flag_U) (same.globals name)
      ∙ ap (λ (d : Option Definition). flag_if (assigning.is_exported name other && assigning.is_unknown d) flag_U)
      (same.definitions (Named name))

  definition_same : (table : Table) (name : Name)
      → assigning.definition_flags one table name ≡ assigning.definition_flags other table name
  definition_same table name = ap (bit_or (assigning.label_flags table name)) (global_same name)

  target_same : (table : Table) (name : Option Name)
      → assigning.target_flags one table name ≡ assigning.target_flags other table name
  target_same table (Some name) = definition_same table name
  target_same table None = refl

  assignment_same : (table : Table) (name : Option Name) (tokens : Expression)
      → assigning.assignment_flags one table name tokens ≡ assigning.assignment_flags other table name tokens
  assignment_same table name tokens =
      let with_value : ℕ → expressions.KnownSymbols → ℕ = λ flags known. bit_or flags (expressions.value known tokens).flags in
      ap (λ (n : ℕ). with_value n (known_at one LocalOnly table (location table))) (target_same table name)
      ∙ ap (with_value (assigning.target_flags other table name)) (known_same LocalOnly table (location table))

  -- ---- what is emitted

  module _ (table : Table) where
    words_same : (elements : List Expression) (here : ℕ)
        → storage.words_from one table here elements ≡ storage.words_from other table here elements
    words_same [] here = refl
    words_same (element ∷ elements) here =
        ap (λ (k : expressions.KnownSymbols). followed_by (word table false here (element_value k element))
        (storage.words_from one table (further here 2) elements)) (known_same MayBeGlobal table here)
        ∙ ap (followed_by (word table false here (element_value (known_at other MayBeGlobal table here) element)))
        (words_same elements (further here 2))

    bytes_same : (elements : List Expression) (here : ℕ)
        → storage.bytes_from one table here elements ≡ storage.bytes_from other table here elements
    bytes_same [] here = refl
    bytes_same (element ∷ elements) here =
        ap (λ (k : expressions.KnownSymbols). followed_by (byte table here (element_value k element))
        (storage.bytes_from one table (further here 1) elements)) (known_same MayBeGlobal table here)
        ∙ ap (followed_by (byte table here (element_value (known_at other MayBeGlobal table here) element)))
        (bytes_same elements (further here 1))

    part_same : (here : ℕ) (part : TextPart) → strings.part_bytes one table here part ≡ strings.part_bytes other table here part
    part_same here (Characters text) = refl
    part_same here (Coded tokens) =
        ap (λ (k : expressions.KnownSymbols). byte table here (expressions.value k tokens)) (known_same MayBeGlobal table here)

    parts_same : (parts : List TextPart) (here : ℕ) → strings.parts_bytes one table here parts ≡ strings.parts_bytes other table here parts
    parts_same [] here = refl
    parts_same (part ∷ parts) here =
        ap (λ (p : Emission). followed_by p (strings.parts_bytes one table (further here (strings.part_size part)) parts)) (part_same here part)
        ∙ ap (followed_by (strings.part_bytes other table here part)) (parts_same parts (further here (strings.part_size part)))

    storage_same : (here : ℕ) (of : Storage) → stored one table here of ≡ stored other table here of
    storage_same here (WordList elements) = words_same elements here
    storage_same here (ByteList elements) = bytes_same elements here
    storage_same here (Text parts is_ended) =
        ap (λ (p : Emission). followed_by p (emission (map fixed_byte (strings.last_byte is_ended)) 0)) (parts_same parts here)
    storage_same here (PackedText parts) =
        ap (λ (k : expressions.KnownSymbols).
        let found = strings.parts_codes k parts in emission (strings.packed_words found.codes) found.flags) (known_same LocalOnly table here)
    storage_same here of = refl

    line_context_same : (here : ℕ) → line_context one table here ≡ line_context other table here
    line_context_same here =
        let at : expressions.KnownSymbols → expressions.KnownSymbols → LineContext = λ known refers.
        record { table = table; location = here; known = known; refers = refers } in
        ap (λ (k : expressions.KnownSymbols). at k (known_at one MayBeGlobal table here)) (known_same LocalOnly table here)
        ∙ ap (at (known_at other LocalOnly table here)) (known_same MayBeGlobal table here)

    put_same : (line : Bytes) (action : Action) → emission_by one table line action ≡ emission_by other table line action
    put_same line (Assign name is_global tokens) = ap nothing (assignment_same table name tokens)
    put_same line (SetNumber name number) = ap nothing (definition_same table name)
    put_same line (Transfer tokens) =
        ap (λ (k : expressions.KnownSymbols). nothing (exports.expression_flags
        (if is_empty tokens then None else Some (expressions.value k tokens)))) (known_same LocalOnly table (location table))
    put_same line (Store of) =
        ap (with_flags (gap_flags (is_even of) (location table))) (storage_same (location_for (is_even of) (location table)) of)
    put_same line (Operate operation start) =
        let here : ℕ = location_for true (location table) in
        ap (λ (s : LineContext). with_flags (gap_flags true (location table))
        (assembled s line start operation (fields table here line start operation))) (line_context_same here)
    put_same line other = refl

  pub line_put_same : (table : Table) (given : UnfoldedLine) → line_emission one table given ≡ line_emission other table given
  unfolding line_emission
  line_put_same table given = put_same table given.live.line.text (action given.is_own given.arguments given.live.line.text)

  -- ---- pieces

  pub pieces_same : (table : Table) (given : UnfoldedLine) → pieces one table given ≡ pieces other table given
  pieces_same table given =
      ap (λ (p : Emission). pieces_from (section_name (stands table given))
      (put_location (stands table given) (action given.is_own given.arguments given.live.line.text)) p.contents)
      (line_put_same (stands table given) given)

  -- ---- flags

  pub flags_same : (table : Table) (given : UnfoldedLine) → flags one table given ≡ flags other table given
  flags_same table given =
      let text = given.live.line.text in
      ap (λ (p : Emission). bit_or
      (bit_or (label_flags given.live.line) (labels_flags text table (labels_at text)))
      (bit_or (skip_flags text (labels_end text) (known_end text (body_of text)))
      (bit_or (operation given.is_own given.arguments text).flags (bit_or p.flags given.remarks.flags))))
      (line_put_same (stands table given) given)

  moved_key_same : (table : Table) (key : Key) → moved_key one table key ≡ moved_key other table key
  moved_key_same table key =
      ap (λ (d : Option Definition). flag_if (not (is_defined key table.definitions) && not (is_location_of table d)) flag_P)
      (same.definitions key)

  moved_name_same : (table : Table) (name : Option Name) → moved_name one table name ≡ moved_name other table name
  moved_name_same table (Some name) = moved_key_same table (Named name)
  moved_name_same table None = refl

  moved_kind_same : (table : Table) (name : Option Name) (kind : LabelKind)
      → moved_kind one table name kind ≡ moved_kind other table name kind
  moved_kind_same table name label.Ordinary = moved_name_same table name
  moved_kind_same table name label.Global = moved_name_same table name
  moved_kind_same table name (label.Local number) = moved_key_same table (Numbered table.modes.block number)
  moved_kind_same table name label.Outside = refl

  pub moved_same : (line : Bytes) (table : Table) (labels : List Label)
      → moved_flags one line table labels ≡ moved_flags other line table labels
  moved_same line table [] = refl
  moved_same line table (named ∷ labels) =
      ap (λ (n : ℕ). bit_or n (moved_flags one line (with_label line table named) labels))
      (moved_kind_same table (label_name line named) named.kind)
      ∙ ap (bit_or (moved_kind other table (label_name line named) named.kind)) (moved_same line (with_label line table named) labels)

  pub all_flags_same : (table : Table) (given : UnfoldedLine) → all_flags one table given ≡ all_flags other table given
  all_flags_same table given =
      ap (λ (n : ℕ). bit_or n (moved_flags one given.live.line.text table (labels_at given.live.line.text))) (flags_same table given)
      ∙ ap (bit_or (flags other table given)) (moved_same given.live.line.text table (labels_at given.live.line.text))

  -- ---- limits

  pub line_fault_same : (table : Table) (counting : Counting) (live : Live) (stage : Stage)
      → line_fault one table counting live stage ≡ line_fault other table counting live stage
  line_fault_same table counting live stage =
      let given = given_by table live stage in
      ap (λ (t : Table). option_or (labels_fault counting table live.line.text)
      (option_or (option_map of_unfolding (act_fault stage live.line.text)) (of_limit (limit_fault (names_counted (with_counted (symbol_uses table given) counting)) t))))
      (after_line_same table given)

-- The values of symbols and expressions, the sizes of lines and their moves are the same by a table and by what has been said.
use Rattle.std.proofs.Common.{◌≡◌, ◌∙◌, ℕ, ◌*◌, not, Bool, true, false, if◌then◌else◌, [], ◌∷◌, Option, Some, None, option_map, refl, ap}
use Rattle.std.specs.List.{list_all}
use Rattle.m11_base.specs.Devices.{Bytes}
use Rattle.m11_base.specs.Rad50.{is_same_name}
use Rattle.m11_scan.specs.declared.radix.Radix.{Radix}
use Rattle.m11_scan_expressions.specs.Expressions.{KnownSymbols, known_by, symbols, value}
use Rattle.m11_scan_expressions.specs.Quantities.{Quantity}
use Rattle.m11_scan_expressions.specs.Tokens.{Expression}
use Rattle.m11_scan_expressions.specs.declared.kinds.Kind.{Kind}
use Rattle.m11_scan_expressions.specs.declared.kinds.Kind.TheVariants as kind
use Rattle.m11_scan_expressions.specs.declared.names.Symbol.{Symbol}
use Rattle.m11_scan_expressions.specs.declared.names.Symbol.TheVariants as symbol
use Rattle.m11_asm_rules.specs.Actions.{Action, AlignTo, Assign, ByteList, LimitWords, Operate, PackedText, Room, SetCounter, Storage, Store, Text, WordList}
use Rattle.m11_asm_rules.specs.Assignments as tables
use Rattle.m11_asm_rules.specs.Assignments.{standing_of}
use Rattle.m11_asm_rules.specs.Changes.{Counts, Keeps}
use Rattle.m11_asm_rules.specs.Definitions.{Definitions, Keys, firm_part, firm_parts, firm_standing, has_key, last_definition}
use Rattle.m11_asm_rules.specs.declared.definitions.Definition.{Definition}
use Rattle.m11_asm_rules.specs.declared.definitions.Key.{Key}
use Rattle.m11_asm_rules.specs.declared.definitions.Key.TheVariants.{Named, Numbered}
use Rattle.m11_asm_rules.specs.declared.definitions.Standing.{Standing}
use Rattle.m11_asm_rules.specs.Effects as effects
use Rattle.m11_asm_rules.specs.Effects.{is_even}
use Rattle.m11_asm_rules.specs.Fields.{fields_at, forms_of}
use Rattle.m11_asm_rules.specs.History.{change_moves}
use Rattle.m11_asm_rules.specs.Lines.{change_of}
use Rattle.m11_asm_rules.specs.Locations.{Goes, Move, in_section}
use Rattle.m11_asm_rules.specs.Meanings as meanings
use Rattle.m11_asm_rules.specs.Meanings.{Map, defined_or, empty_map, is_firm_in, known_at, meaning_of, value_of_symbol}
use Rattle.m11_asm_rules.specs.declared.meanings.Context.TheVariants.{LocalOnly}
use Rattle.m11_asm_rules.specs.Operands.{instruction_size}
use Rattle.m11_asm_rules.specs.Relocations as relocations
use Rattle.m11_asm_rules.specs.Sections.{is_relocatable}
use Rattle.m11_asm_rules.specs.declared.sections.Section.{Section}
use Rattle.m11_asm_rules.specs.Storage.{block_count}
use Rattle.m11_asm_rules.specs.Tables as tables_before
use Rattle.m11_asm_rules.specs.Tables.{Table, firm_table}
use Rattle.m11_asm_rules.proofs.NamesByMaps.{firm_option, last_firm}
use Rattle.m11_asm_table_laws.specs.Places.{Place, is_here, number}
use Rattle.m11_asm_table_laws.specs.Said.{Said, block, is_doubly_defined, last_said, location}
use Rattle.m11_asm_table_laws.specs.Symbols.{firm, firm_meaning, given_by, is_firm, known, meaning, symbol_value, unknown}
use Rattle.m11_asm_table_laws.specs.Lines.{assigned, move_by, moves_by, size, stepping}
use Rattle.m11_asm_table_laws.proofs.Knowing.{Agrees, block_known, radix_known, section_known}
use Rattle.m11_asm_table_laws.proofs.LabelsRecorded.{kind_same, location_same, name_same, section_same}

equal_functions : {A B : Type 0} {f g : A → B} → ((a : A) → f a ≡ g a) → f ≡ g
equal_functions same = λ i a. same a i

-- ---- keys

given_too : (key : Key) (keys : Keys) (other : Quantity) (found : Option Definition)
    → defined_or key keys other found ≡ given_by (has_key key keys) other found
given_too key keys other None = refl
given_too key keys other (Some definition) = refl

twice_by : (is_firm : Bool) (standing : Standing) → firm_standing is_firm (firm_standing is_firm standing) ≡ firm_standing is_firm standing
twice_by true standing = refl
twice_by false standing = refl

-- the firm part of a firm part is the same firm part
twice_firm : (found : Option Definition) → firm_option (firm_option found) ≡ option_map firm_part found
twice_firm None = refl
twice_firm (Some definition) =
    ap (λ (s : Standing). Some (record definition { standing = s })) (twice_by definition.is_firm definition.standing)

last_twice : (key : Key) (definitions : Definitions)
    → last_definition key (firm_parts (firm_parts definitions)) ≡ option_map firm_part (last_definition key definitions)
last_twice key definitions =
    last_firm key (firm_parts definitions) ∙ ap firm_option (last_firm key definitions) ∙ twice_firm (last_definition key definitions)

module _ (place : Place) (said : Said) (table : Table) (agrees : Agrees place said table) where
  abbrev twice : Table
  twice = firm_table (firm_table table)

  by_last : (key : Key) (one other : Quantity) (first second : Option Definition) → one ≡ other → first ≡ second
      → defined_or key table.doubly_defined one first ≡ given_by (is_doubly_defined key said) other second
  by_last key one other first second e f =
      given_too key table.doubly_defined one first
      ∙ ap (λ (b : Bool). given_by b one first) (agrees.knows.doubly_defined key)
      ∙ ap (λ (q : Quantity). given_by (is_doubly_defined key said) q first) e
      ∙ ap (given_by (is_doubly_defined key said) other) f

  meaning_same : (map : Map) (key : Key) → meaning_of map unknown table key ≡ meaning map said key
  meaning_same map key =
      by_last key _ _ _ _ (given_too key map.doubly_defined unknown (last_definition key map.definitions))
      (agrees.knows.definitions key)

  nothing_else : (key : Key) → defined_or key empty_map.doubly_defined unknown (last_definition key empty_map.definitions) ≡ unknown
  nothing_else (Named name) = refl
  nothing_else (Numbered block number) = refl

  firm_meaning_same : (key : Key) → meaning_of empty_map unknown twice key ≡ firm_meaning said key
  firm_meaning_same key =
      by_last key _ _ _ _ (nothing_else key)
      (last_twice key table.definitions ∙ ap (option_map firm_part) (agrees.knows.definitions key))

  -- ---- symbols

  symbol_same : (map : Map) (here : ℕ) (symbol : Symbol)
      → value_of_symbol map LocalOnly table here symbol ≡ symbol_value place said here (meaning map said) symbol
  symbol_same map here (symbol.Ordinary name) = meaning_same map (Named name)
  symbol_same map here (symbol.Local number) =
      meaning_same map (Numbered table.modes.block number)
      ∙ ap (λ (n : ℕ). meaning map said (Numbered n number)) (block_known place said table agrees.knows)
  symbol_same map here symbol.Counter =
      ap (λ (k : Kind). record { number = here; kind = k; flags = 0 }) (kind_same place said table agrees)

  firm_symbol_same : (here : ℕ) (symbol : Symbol)
      → value_of_symbol empty_map LocalOnly twice here symbol ≡ symbol_value place said here (firm_meaning said) symbol
  firm_symbol_same here (symbol.Ordinary name) = firm_meaning_same (Named name)
  firm_symbol_same here (symbol.Local number) =
      firm_meaning_same (Numbered table.modes.block number)
      ∙ ap (λ (n : ℕ). firm_meaning said (Numbered n number)) (block_known place said table agrees.knows)
  firm_symbol_same here symbol.Counter =
      ap (λ (k : Kind). record { number = here; kind = k; flags = 0 }) (kind_same place said table agrees)

  known_same : (map : Map) (here : ℕ) → known_at map LocalOnly table here ≡ known place said here (meaning map said)
  known_same map here =
      ap (λ (r : Radix). known_by r (value_of_symbol map LocalOnly table here)) (radix_known place said table agrees.knows)
      ∙ ap (known_by place.radix) (equal_functions (symbol_same map here))

  firm_same : (here : ℕ) → known_at empty_map LocalOnly twice here ≡ firm place said here
  firm_same here =
      ap (λ (r : Radix). known_by r (value_of_symbol empty_map LocalOnly twice here)) (radix_known place said table agrees.knows)
      ∙ ap (known_by place.radix) (equal_functions (firm_symbol_same here))

  -- ---- assignments

  is_firm_same : (symbol : Symbol) → meanings.is_firm table symbol ≡ is_firm place said symbol
  is_firm_same (symbol.Ordinary name) = ap is_firm_in (agrees.knows.definitions (Named name))
  is_firm_same (symbol.Local number) =
      ap is_firm_in (agrees.knows.definitions (Numbered table.modes.block number))
      ∙ ap (λ (n : ℕ). is_firm_in (last_said (Numbered n number) said)) (block_known place said table agrees.knows)
  is_firm_same symbol.Counter = refl

  abbrev assigning : KnownSymbols → Bool → Expression → Definition
  assigning known is_firm tokens = record { standing = standing_of (value known tokens); is_firm = is_firm; label = None }

  pub assigned_same : (map : Map) (tokens : Expression) → tables.assigned map table tokens ≡ assigned map place said tokens
  assigned_same map tokens =
      ap (λ (n : ℕ). assigning (known_at map LocalOnly table n) (tables.all_firm table (symbols tokens)) tokens) (location_same place said table agrees)
      ∙ ap (λ (k : KnownSymbols). assigning k (tables.all_firm table (symbols tokens)) tokens) (known_same map (location place said))
      ∙ ap (λ (f : Symbol → Bool). assigning (known place said (location place said) (meaning map said)) (list_all f (symbols tokens)) tokens)
      (equal_functions is_firm_same)

  -- ---- moves

  size_same : (here : ℕ) (storage : Storage) → effects.size (firm_table table) here storage ≡ size (firm place said here) here storage
  size_same here (WordList elements) = refl
  size_same here (ByteList elements) = refl
  size_same here (Text parts is_ended) = refl
  size_same here (PackedText parts) = refl
  size_same here LimitWords = refl
  size_same here (Room unit count) = ap (λ (k : KnownSymbols). block_count k count * unit) (firm_same here)
  size_same here (AlignTo is_even) = refl

  is_here_same : (kind : Kind) → relocations.is_here (firm_table table) kind ≡ is_here place kind
  is_here_same kind.Absolute = ap (λ (s : Section). not (is_relocatable s)) (section_same place said table agrees)
  is_here_same kind.Register = ap (λ (s : Section). not (is_relocatable s)) (section_same place said table agrees)
  is_here_same (kind.Section name) = ap (is_same_name name) (name_same place said table agrees)
  is_here_same (kind.Reference name) = refl

  abbrev setting : Bool → ℕ → Option Move
  setting is_here number = if is_here then Some (Goes number) else None

  -- the moves by a change of the counter, if it is made
  set_by : (is_here : Bool) (number : ℕ)
      → change_moves table.modes.section (if is_here then Counts (Goes number) else Keeps) ≡ moves_by place (setting is_here number)
  set_by true number = ap (λ (n : ℕ). in_section n (Goes number) ∷ []) (section_known place said table agrees.knows)
  set_by false number = refl

  counter_same : (tokens : Expression)
      → value (known_at empty_map LocalOnly twice (tables_before.location table)) tokens ≡ value (firm place said (location place said)) tokens
  counter_same tokens =
      ap (λ (n : ℕ). value (known_at empty_map LocalOnly twice n) tokens) (location_same place said table agrees)
      ∙ ap (λ (k : KnownSymbols). value k tokens) (firm_same (location place said))

  steps_same : (is_even : Bool) (one other : ℕ → ℕ) → ((here : ℕ) → one here ≡ other here)
      → change_moves table.modes.section (Counts (stepping is_even (tables_before.location table) one))
      ≡ moves_by place (Some (stepping is_even (location place said) other))
  steps_same is_even one other same =
      ap (λ (n : ℕ). in_section n (stepping is_even (tables_before.location table) one) ∷ []) (section_known place said table agrees.knows)
      ∙ ap (λ (n : ℕ). in_section (number place) (stepping is_even n one) ∷ []) (location_same place said table agrees)
      ∙ ap (λ (f : ℕ → ℕ). in_section (number place) (stepping is_even (location place said) f) ∷ []) (equal_functions same)

  pub moves_same : (line : Bytes) (action : Action)
      → change_moves table.modes.section (change_of (firm_table table) line action) ≡ moves_by place (move_by place said line action)
  moves_same line (Assign None is_global tokens) = refl
  moves_same line (Assign (Some name) is_global tokens) = refl
  moves_same line (SetCounter tokens) =
      ap (λ (q : Quantity). change_moves table.modes.section (if relocations.is_here (firm_table table) q.kind then Counts (Goes q.number) else Keeps))
      (counter_same tokens)
      ∙ set_by (relocations.is_here (firm_table table) (value (firm place said (location place said)) tokens).kind)
      (value (firm place said (location place said)) tokens).number
      ∙ ap (λ (b : Bool). moves_by place (setting b (value (firm place said (location place said)) tokens).number))
      (is_here_same (value (firm place said (location place said)) tokens).kind)
  moves_same line (Store storage) =
      steps_same (is_even storage) (λ here. effects.size (firm_table table) here storage) (λ here. size (firm place said here) here storage)
      (λ here. size_same here storage)
  moves_same line (Operate operation start) =
      steps_same true (λ here. instruction_size (forms_of (fields_at (known_at empty_map LocalOnly twice here) line start operation)))
      (λ here. instruction_size (forms_of (fields_at (firm place said here) line start operation)))
      (λ here. ap (λ (k : KnownSymbols). instruction_size (forms_of (fields_at k line start operation))) (firm_same here))
  moves_same line other = refl

-- If a property holds of the sections of all definitions and of all sections, it holds of the sections of values.
use Rattle.std.proofs.Common.{◌≡◌, ℕ, zero, suc, ◌&&◌, Bool, true, false, if◌then◌else◌, List, [], ◌∷◌, length, map, take, drop, Option, Some, None, refl, sym, subst}
use Rattle.std.specs.Prelude.{⊤, nat_lt, option_map, unwrap_or}
use Rattle.std.specs.List.{AllByRecursion}
use Rattle.std.specs.Int.RustNames.{bit_or}
use Rattle.m11_base.specs.Devices.{Bytes}
use Rattle.m11_base.specs.Names.{blank_name}
use Rattle.m11_base.specs.Rad50.{Name, is_same_name}
use Rattle.m11_scan.specs.Expressions.{begin}
use Rattle.m11_scan.specs.declared.radix.Radix.{Radix}
use Rattle.m11_scan.specs.declared.sort.Sort.{Sort}
use Rattle.m11_scan.specs.declared.sort.Sort.TheVariants as sorts
use Rattle.m11_scan_expressions.specs.Expressions.{KnownSymbols, value}
use Rattle.m11_scan_expressions.specs.Tokens.{Expression}
use Rattle.m11_scan_expressions.specs.Kinds.{flag_R, is_register, kind_of}
use Rattle.m11_scan_expressions.specs.Operations.{absence, settled}
use Rattle.m11_scan_expressions.specs.Prefixes.{applied, prefix_of, radix_under, reach}
use Rattle.m11_scan_expressions.specs.Quantities.{Quantity, absolute, missing}
use Rattle.m11_scan_expressions.specs.Splits.{last_operator}
use Rattle.m11_scan_expressions.specs.Terms.{Atom, Digits, Fixed, Item, atom_of, atom_value, character, plain_item, packed, symbol_in, two_characters}
use Rattle.m11_scan_expressions.specs.Values.{sorts_of, split_value, term_value, value_of, value_within}
use Rattle.m11_scan_expressions.specs.Splits.{Split}
use Rattle.m11_scan_expressions.specs.declared.kinds.Kind.{Kind}
use Rattle.m11_scan_expressions.specs.declared.kinds.Kind.TheVariants as kind
use Rattle.m11_scan_expressions.specs.declared.names.Symbol.{Symbol}
use Rattle.m11_scan_expressions.specs.declared.names.Symbol.TheVariants.{Ordinary, Local, Counter}
use Rattle.m11_scan_expressions.specs.declared.operators.Operator.{Operator}
use Rattle.m11_scan_expressions.specs.declared.operators.Operator.TheVariants.{Add, Subtract}
use Rattle.m11_scan_expressions.specs.declared.prefixes.Prefix.{Prefix}
use Rattle.m11_scan_expressions.specs.declared.prefixes.Prefix.TheVariants as prefix
use Rattle.m11_asm_rules.specs.declared.definitions.Definition.{Definition}
use Rattle.m11_asm_rules.specs.declared.definitions.Key.{Key}
use Rattle.m11_asm_rules.specs.declared.definitions.Key.TheVariants.{Named, Numbered}
use Rattle.m11_asm_rules.specs.declared.definitions.Standing.{Standing}
use Rattle.m11_asm_rules.specs.declared.definitions.Standing.TheVariants.{Known, Unknown}
use Rattle.m11_asm_rules.specs.declared.meanings.Context.{Context}
use Rattle.m11_asm_rules.specs.declared.meanings.Context.TheVariants.{LocalOnly, MayBeGlobal}
use Rattle.m11_asm_rules.specs.declared.sections.Section.{Section}
use Rattle.m11_asm_rules.proofs.LastDefinitions.{last_more}
use Rattle.m11_asm_rules.specs.Definitions.{Definitions, Keys, first_definitions, is_same, last_definition, no_definitions, registers, with_last}
use Rattle.m11_asm_rules.specs.Meanings.{Map, defined_or, known_at, meaning_of, quantity_of, value_of_symbol, undefined}
use Rattle.m11_asm_rules.specs.Sections.{is_relocatable, numbered}
use Rattle.m11_asm_rules.specs.Tables.{Table, kind_here}

module _ (P : Name → Type 0) where
  abbrev pub KindHolds : Kind → Type 0
  KindHolds (kind.Section name) = P name
  KindHolds other = ⊤

  abbrev pub ValueHolds : Quantity → Type 0
  ValueHolds value = KindHolds value.kind

  abbrev FoundHolds : Option Kind → Type 0
  FoundHolds (Some found) = KindHolds found
  FoundHolds None = ⊤

  -- ---- operators

  same_section : (b : Bool) → FoundHolds (if b then Some kind.Absolute else None)
  same_section true = tt
  same_section false = tt

  kinds_join : (operator : Operator) (left right : Kind) → KindHolds left → KindHolds right → FoundHolds (kind_of operator left right)
  kinds_join Add left kind.Absolute h k = h
  kinds_join Add kind.Absolute right h k = k
  kinds_join Subtract left kind.Absolute h k = h
  kinds_join Subtract (kind.Section one) (kind.Section other) h k = same_section (is_same_name one other)
  kinds_join operator kind.Absolute kind.Absolute h k = tt
  kinds_join operator left right h k = tt

  limited_by : (b : Bool) (value : Quantity) (flags : ℕ) → ValueHolds value
      → ValueHolds (if b then absolute value.number flags else value)
  limited_by true value flags h = tt
  limited_by false value flags h = h

  is_settled : (found : Option Kind) (number flags : ℕ) (has_register : Bool) → FoundHolds found
      → ValueHolds (settled found number flags has_register)
  is_settled (Some found) number flags has_register h =
      limited_by (is_register found && nat_lt 7 number) (record { number = number; kind = found; flags = flags }) _ h
  is_settled None number flags has_register h = tt

  flagged : (b : Bool) (value other : Quantity) → other.kind ≡ value.kind → ValueHolds value → ValueHolds (if b then value else other)
  flagged true value other e h = h
  flagged false value other e h = subst KindHolds (sym e) h

  is_applied : (before : Prefix) (closed : Bool) (value : Quantity) → ValueHolds value → ValueHolds (applied before closed value)
  is_applied prefix.Plus closed value h = h
  is_applied prefix.Minus closed value h = tt
  is_applied prefix.Complement closed value h = tt
  is_applied prefix.Register closed value h =
      limited_by (nat_lt 7 value.number)
      (record { number = value.number; kind = kind.Register; flags = bit_or value.flags (absence value.kind) })
      (bit_or (bit_or value.flags (absence value.kind)) flag_R) tt
  is_applied (prefix.InRadix radix) closed value h = h
  is_applied prefix.Bracket closed value h = flagged closed value _ refl h

  -- ---- expressions

  abbrev AtomHolds : Atom → Type 0
  AtomHolds (Digits digits) = ⊤
  AtomHolds (Fixed value) = ValueHolds value

  abbrev ItemHolds : Item → Type 0
  ItemHolds one = AtomHolds one.atom

  atom_holds : (radix : Radix) (atom : Atom) → AtomHolds atom → ValueHolds (atom_value radix atom)
  atom_holds radix (Digits digits) h = tt
  atom_holds radix (Fixed value) h = h

  front_holds : (count : ℕ) (items : List Item) → AllByRecursion ItemHolds items → AllByRecursion ItemHolds (take count items)
  front_holds zero items h = tt
  front_holds (suc count) [] h = tt
  front_holds (suc count) (one ∷ items) h = (h.0, front_holds count items h.1)

  rest_holds : (count : ℕ) (items : List Item) → AllByRecursion ItemHolds items → AllByRecursion ItemHolds (drop count items)
  rest_holds zero items h = h
  rest_holds (suc count) [] h = tt
  rest_holds (suc count) (one ∷ items) h = rest_holds count items h.1

  module _ (value : Radix → List Item → Quantity)
      (shorter : (radix : Radix) (items : List Item) → AllByRecursion ItemHolds items → ValueHolds (value radix items)) where
    term_holds : (radix : Radix) (one : Item) (items : List Item) (found : Option Prefix) → ItemHolds one
        → AllByRecursion ItemHolds items → ValueHolds (term_value value radix one items found)
    term_holds radix one items None h k = atom_holds radix one.atom h
    term_holds radix one items (Some before) h k =
        is_applied before _ _ (shorter (radix_under before radix) (take (reach before (sorts_of items)) items)
        (front_holds (reach before (sorts_of items)) items k))

    split_holds : (radix : Radix) (items : List Item) (found : Option Split) → AllByRecursion ItemHolds items
        → ValueHolds (split_value value radix items found)
    split_holds radix items (Some split) h =
        let left = value radix (take split.index items) in
        let right = value radix (drop (suc split.index) items) in
        is_settled (kind_of split.operator left.kind right.kind) _ _ _ (kinds_join split.operator left.kind right.kind
        (shorter radix (take split.index items) (front_holds split.index items h))
        (shorter radix (drop (suc split.index) items) (rest_holds (suc split.index) items h)))
    split_holds radix [] None h = tt
    split_holds radix (one ∷ items) None h = term_holds radix one items (prefix_of one.sort) h.0 h.1

  within_holds : (bound : ℕ) (radix : Radix) (items : List Item) → AllByRecursion ItemHolds items
      → ValueHolds (value_within bound radix items)
  within_holds zero radix items h = tt
  within_holds (suc bound) radix items h =
      split_holds (λ r i. value_within bound r i) (within_holds bound) radix items (last_operator begin (sorts_of items)) h

  meaning_holds : (value_of_symbol : Symbol → Quantity) → ((symbol : Symbol) → ValueHolds (value_of_symbol symbol)) → (other : Quantity)
      → ValueHolds other → (found : Option Symbol) → ValueHolds (unwrap_or (option_map value_of_symbol found) other)
  meaning_holds value_of_symbol all other h (Some symbol) = all symbol
  meaning_holds value_of_symbol all other h None = h

  character_holds : (text : Bytes) → ValueHolds (character text)
  character_holds (mark ∷ first ∷ rest) = tt
  character_holds (mark ∷ []) = tt
  character_holds [] = tt

  characters_hold : (text : Bytes) → ValueHolds (two_characters text)
  characters_hold (mark ∷ first ∷ second ∷ rest) = tt
  characters_hold (mark ∷ first ∷ []) = tt
  characters_hold (mark ∷ []) = tt
  characters_hold [] = tt

  packed_holds : (text : Bytes) → ValueHolds (packed text)
  packed_holds (mark ∷ flag ∷ characters) = tt
  packed_holds (mark ∷ []) = tt
  packed_holds [] = tt

  token_holds : (value_of_symbol : Symbol → Quantity) → ((symbol : Symbol) → ValueHolds (value_of_symbol symbol)) → (sort : Sort) (text : Bytes)
      → AtomHolds (atom_of value_of_symbol sort text)
  token_holds value_of_symbol all sorts.Name text = meaning_holds value_of_symbol all missing tt (symbol_in sorts.Name text)
  token_holds value_of_symbol all sorts.LocalSymbol text = meaning_holds value_of_symbol all (absolute 0 _) tt (symbol_in sorts.LocalSymbol text)
  token_holds value_of_symbol all sorts.Number text = tt
  token_holds value_of_symbol all sorts.DecimalNumber text = tt
  token_holds value_of_symbol all sorts.Character text = character_holds text
  token_holds value_of_symbol all sorts.TwoCharacters text = characters_hold text
  token_holds value_of_symbol all sorts.Packed text = packed_holds text
  token_holds value_of_symbol all sort text = tt

  items_hold : (value_of_symbol : Symbol → Quantity) → ((symbol : Symbol) → ValueHolds (value_of_symbol symbol)) → (tokens : Expression)
      → AllByRecursion ItemHolds (map (plain_item value_of_symbol) tokens)
  items_hold value_of_symbol all [] = tt
  items_hold value_of_symbol all (token ∷ tokens) =
      (token_holds value_of_symbol all token.sort token.text, items_hold value_of_symbol all tokens)

  pub value_holds : (known : KnownSymbols) → ((symbol : Symbol) → ValueHolds (known.value_of_symbol symbol)) → (tokens : Expression)
      → ValueHolds (value known tokens)
  unfolding value_of
  value_holds known all tokens =
      let items = map (plain_item known.value_of_symbol) tokens in
      within_holds (length items) known.radix items (items_hold known.value_of_symbol all tokens)

  -- ---- symbols

  abbrev pub StandingHolds : Standing → Type 0
  StandingHolds (Known number counted) = KindHolds counted
  StandingHolds Unknown = ⊤

  abbrev pub DefinitionHolds : Definition → Type 0
  DefinitionHolds one = StandingHolds one.standing

  abbrev pub LastHolds : Option Definition → Type 0
  LastHolds (Some one) = DefinitionHolds one
  LastHolds None = ⊤

  -- the last definition of each key has the property
  abbrev pub AllDefined : Definitions → Type 0
  AllDefined definitions = (key : Key) → LastHolds (last_definition key definitions)

  pub none_defined : AllDefined no_definitions
  none_defined (Named name) = tt
  none_defined (Numbered block number) = tt

  pub one_more_defined : (definitions : Definitions) (key : Key) (one : Definition) → AllDefined definitions → DefinitionHolds one
      → AllDefined (with_last key one definitions)
  one_more_defined definitions key one h k asked = subst LastHolds (sym (last_more asked definitions key one)) (by (is_same key asked))
    where
      by : (b : Bool) → LastHolds (if b then Some one else last_definition asked definitions)
      by true = k
      by false = h asked

  abbrev with_entries : Definitions → List (Name × Definition) → Definitions
  with_entries definitions [] = definitions
  with_entries definitions (entry ∷ entries) = with_entries (with_last (Named entry.0) entry.1 definitions) entries

  entries_defined : (definitions : Definitions) (entries : List (Name × Definition)) → AllDefined definitions
      → AllByRecursion (λ (entry : Name × Definition). DefinitionHolds entry.1) entries → AllDefined (with_entries definitions entries)
  entries_defined definitions [] h all = h
  entries_defined definitions (entry ∷ entries) h all =
      entries_defined (with_last (Named entry.0) entry.1 definitions) entries (one_more_defined definitions (Named entry.0) entry.1 h all.0) all.1

  pub registers_defined : AllDefined first_definitions
  registers_defined = entries_defined no_definitions registers none_defined (tt, (tt, (tt, (tt, (tt, (tt, (tt, (tt, tt))))))))

  standing_holds : (flags : ℕ) (standing : Standing) → StandingHolds standing → ValueHolds (quantity_of flags standing)
  standing_holds flags (Known number counted) h = h
  standing_holds flags Unknown h = tt

  defined_holds : (key : Key) (doubly_defined : Keys) (other : Quantity) (found : Option Definition) → ValueHolds other
      → LastHolds found → ValueHolds (defined_or key doubly_defined other found)
  defined_holds key doubly_defined other (Some one) h k = standing_holds _ one.standing k
  defined_holds key doubly_defined other None h k = h

  undefined_holds : (context : Context) (symbol : Symbol) → ValueHolds (undefined context symbol)
  undefined_holds MayBeGlobal (Ordinary name) = tt
  undefined_holds MayBeGlobal (Local number) = tt
  undefined_holds MayBeGlobal Counter = tt
  undefined_holds LocalOnly symbol = tt

  abbrev pub SectionHolds : Section → Type 0
  SectionHolds section = P section.name

  module _ (blank : P blank_name) where
    pub numbered_holds : (number : ℕ) (sections : List Section) → AllByRecursion SectionHolds sections
        → P (numbered number sections).name
    numbered_holds number [] h = blank
    numbered_holds zero (section ∷ sections) h = h.0
    numbered_holds (suc number) (section ∷ sections) h = numbered_holds number sections h.1

    here_by : (b : Bool) (name : Name) → P name → KindHolds (if b then kind.Section name else kind.Absolute)
    here_by true name h = h
    here_by false name h = tt

    pub here_holds : (table : Table) → AllByRecursion SectionHolds table.sections → KindHolds (kind_here table)
    here_holds table h = here_by (is_relocatable (numbered table.modes.section table.sections)) _ (numbered_holds table.modes.section table.sections h)

    -- all definitions and all sections have the property
    pub record TableHolds (table : Table) : Type 0 where
      pub definitions : AllDefined table.definitions
      pub sections : AllByRecursion SectionHolds table.sections

    meanings_hold : (map : Map) (other : Quantity) (table : Table) (key : Key) → AllDefined map.definitions
        → TableHolds table → ValueHolds other → ValueHolds (meaning_of map other table key)
    meanings_hold map other table key m h k =
        defined_holds key table.doubly_defined _ (last_definition key table.definitions)
        (defined_holds key map.doubly_defined other (last_definition key map.definitions) k (m key)) (h.definitions key)

    pub symbols_hold : (map : Map) (context : Context) (table : Table) (here : ℕ) → AllDefined map.definitions
        → TableHolds table → (symbol : Symbol) → ValueHolds (value_of_symbol map context table here symbol)
    symbols_hold map context table here m h (Ordinary name) =
        meanings_hold map (undefined context (Ordinary name)) table (Named name) m h (undefined_holds context (Ordinary name))
    symbols_hold map context table here m h (Local number) =
        meanings_hold map (undefined context (Local number)) table (Numbered table.modes.block number) m h
        (undefined_holds context (Local number))
    symbols_hold map context table here m h Counter = here_holds table h.sections

    -- if all definitions and all sections have the property, the section of an expression's value in a line has it too
    pub known_holds : (map : Map) (context : Context) (table : Table) (here : ℕ) → AllDefined map.definitions
        → TableHolds table → (tokens : Expression) → ValueHolds (value (known_at map context table here) tokens)
    known_holds map context table here m h tokens =
        value_holds (known_at map context table here) (symbols_hold map context table here m h) tokens

-- What is known of the registers under a table that has their first definitions, and of names that have their values.
use Rattle.std.proofs.Common.{◌≡◌, ◌∙◌, ℕ, Bool, true, false, List, [], ◌∷◌, Option, Some, None, refl, sym, ap, ap₂, subst}
use Rattle.std.specs.List.{AllByRecursion}
use Rattle.m11_base.specs.Operand.{register_number}
use Rattle.m11_base.specs.declared.operand.Register.{Register}
use Rattle.m11_base_disassembly.specs.declared.symbols.Symbol.{Symbol}
use Rattle.m11_scan.specs.ErrorFlags.{flag_if}
use Rattle.m11_scan_expressions.specs.Kinds.{is_register}
use Rattle.m11_scan_expressions.specs.Quantities.{Quantity, absolute}
use Rattle.m11_scan_expressions.specs.declared.names.Symbol.TheVariants.{Ordinary}
use Rattle.m11_asm_rules.specs.Definitions.{has_key, last_definition}
use Rattle.m11_asm_rules.specs.declared.definitions.Key.TheVariants.{Named}
use Rattle.m11_asm_rules.specs.Definitions as definitions
use Rattle.m11_asm_rules.specs.Definitions.{firm_standing}
use Rattle.m11_asm_rules.specs.declared.definitions.Definition.{Definition}
use Rattle.m11_asm_rules.specs.declared.definitions.Standing.{Standing}
use Rattle.m11_asm_rules.specs.Meanings.{Map, defined_or, empty_map, firm_known, flag_D, is_firm_in, known_at, quantity_of, undefined, value_of_symbol}
use Rattle.m11_asm_rules.specs.Tables.{Table, firm_table}
use Rattle.m11_asm_rules.specs.declared.meanings.Context.{Context}
use Rattle.m11_asm_rules.specs.declared.meanings.Context.TheVariants.{LocalOnly}
use Rattle.m11_asm_rules.proofs.NamesByMaps.{firm_option, last_firm, symbol_alike}
use Rattle.m11_asm_dump_laws.specs.Knowledge.{AtMostDefines, HasValue, KnowsNames, KnowsRegisters, ReadsAsMeant, TakesNoRegister, register_name, register_value, standing_of}

module _ (table : Table) (reads : ReadsAsMeant table) (location : ℕ) where
  value_is : (map : Map) (context : Context) (register : Register)
      → value_of_symbol map context table location (Ordinary (register_name register)) ≡ register_value register
  value_is map context register =
      let name = register_name register in
      let other : Quantity = defined_or (Named name) map.doubly_defined (undefined context (Ordinary name))
      (last_definition (Named name) map.definitions) in
      ap (defined_or (Named name) table.doubly_defined other) (reads.registers register)
      ∙ ap (λ b. quantity_of (flag_if b flag_D) (definitions.register (register_number register)).standing) (reads.once register)

  pub table_knows : (map : Map) (context : Context) → KnowsRegisters (known_at map context table location)
  table_knows map context = record { radix = reads.radix; registers = value_is map context }

  pub firm_knows : KnowsRegisters (firm_known table location)
  firm_knows = record {
    radix = reads.radix;
    registers = λ register. sym (symbol_alike empty_map LocalOnly table location (Ordinary (register_name register))
        (ap is_firm_in (reads.registers register))) ∙ value_is empty_map LocalOnly register;
  }

-- the firm part of such a table is one too
pub firm_reads : (table : Table) → ReadsAsMeant table → ReadsAsMeant (firm_table table)
firm_reads table reads = record {
  section = reads.section;
  radix = reads.radix;
  registers = λ register. last_firm (Named (register_name register)) table.definitions ∙ ap firm_option (reads.registers register);
  once = reads.once;
}

-- ---- names

module _ (map : Map) (table : Table) (location : ℕ) where
  -- a definition that gives a symbol its value gives its name that value
  quantity_is : (symbol : Symbol) (flags : ℕ) (standing : Standing) → standing ≡ standing_of symbol → flags ≡ 0
      → quantity_of flags standing ≡ absolute symbol.value 0
  quantity_is symbol flags standing is unflagged = ap₂ (λ f s. quantity_of f s) unflagged is

  defined_is : (symbol : Symbol) (other : Quantity) (found : Option Definition) → AtMostDefines symbol found
      → has_key (Named symbol.name) table.doubly_defined ≡ false → other ≡ absolute symbol.value 0
      → defined_or (Named symbol.name) table.doubly_defined other found ≡ absolute symbol.value 0
  defined_is symbol other None is once also = also
  defined_is symbol other (Some definition) is once also =
      quantity_is symbol _ definition.standing is (ap (λ b. flag_if b flag_D) once)

  name_is : (context : Context) (symbol : Symbol) → HasValue map table symbol
      → value_of_symbol map context table location (Ordinary symbol.name) ≡ absolute symbol.value 0
  name_is context symbol means =
      let key = Named symbol.name in
      defined_is symbol (defined_or key map.doubly_defined (undefined context (Ordinary symbol.name)) (last_definition key map.definitions))
      (last_definition key table.definitions) means.before means.once
      (ap (defined_or key map.doubly_defined (undefined context (Ordinary symbol.name))) means.finally
      ∙ quantity_is symbol _ means.definition.standing means.is (ap (λ b. flag_if b flag_D) means.finally_once))

  names_are : (context : Context) (symbols : List Symbol) → AllByRecursion (HasValue map table) symbols
      → AllByRecursion (λ (symbol : Symbol). value_of_symbol map context table location (Ordinary symbol.name) ≡ absolute symbol.value 0) symbols
  names_are context [] all = tt
  names_are context (symbol ∷ symbols) all = (name_is context symbol all.0, names_are context symbols all.1)

  pub table_names : (context : Context) (symbols : List Symbol) → ReadsAsMeant table → AllByRecursion (HasValue map table) symbols
      → KnowsNames symbols (known_at map context table location)
  table_names context symbols reads means =
      record { registers = table_knows table reads location map context; names = names_are context symbols means }

-- ---- names, as far as they are firm

-- a value by this standing is no register
abbrev IsNone : Standing → Type 0
IsNone standing = (flags : ℕ) → is_register (quantity_of flags standing).kind ≡ false

-- if there is a definition, it doesn't define a register
abbrev pub DefinesNone : Option Definition → Type 0
DefinesNone None = Unit {0}
DefinesNone (Some definition) = IsNone definition.standing

pub defines_none : (symbol : Symbol) (found : Option Definition) → AtMostDefines symbol found → DefinesNone found
defines_none symbol None is = tt
defines_none symbol (Some definition) is = λ flags. ap (λ (s : Standing). is_register (quantity_of flags s).kind) is

firm_standing_none : (is_firm : Bool) (standing : Standing) → IsNone standing → IsNone (firm_standing is_firm standing)
firm_standing_none true standing is = is
firm_standing_none false standing is = λ flags. refl

firm_none : (found : Option Definition) → DefinesNone found → DefinesNone (firm_option found)
firm_none None is = tt
firm_none (Some definition) is = firm_standing_none definition.is_firm definition.standing is

-- a name isn't defined as a register
abbrev pub NamesNone : Table → Symbol → Type 0
NamesNone table symbol = DefinesNone (last_definition (Named symbol.name) table.definitions)

firm_part_none : (table : Table) (symbol : Symbol) → NamesNone table symbol → NamesNone (firm_table table) symbol
firm_part_none table symbol is =
    subst DefinesNone (sym (last_firm (Named symbol.name) table.definitions))
    (firm_none (last_definition (Named symbol.name) table.definitions) is)

module _ (table : Table) (location : ℕ) where
  value_none : (symbol : Symbol) (other : Quantity) (found : Option Definition) → is_register other.kind ≡ false → DefinesNone found
      → is_register (defined_or (Named symbol.name) table.doubly_defined other found).kind ≡ false
  value_none symbol other None none is = none
  value_none symbol other (Some definition) none is = is (flag_if (has_key (Named symbol.name) table.doubly_defined) flag_D)

  names_none : (symbols : List Symbol) → AllByRecursion (NamesNone table) symbols
      → AllByRecursion (λ (symbol : Symbol). is_register ((firm_known table location).value_of_symbol (Ordinary symbol.name)).kind ≡ false) symbols
  names_none [] all = tt
  names_none (symbol ∷ symbols) all = (
    value_none symbol (undefined LocalOnly (Ordinary symbol.name))
        (last_definition (Named symbol.name) (firm_table table).definitions) refl (firm_part_none table symbol all.0),
    names_none symbols all.1,
  )

  takes_none : (symbols : List Symbol) → ReadsAsMeant table → AllByRecursion (NamesNone table) symbols
      → TakesNoRegister symbols (firm_known table location)
  takes_none symbols reads all = record { registers = firm_knows table reads location; names = names_none symbols all }

all_none : (map : Map) (table : Table) (symbols : List Symbol) → AllByRecursion (HasValue map table) symbols
    → AllByRecursion (NamesNone table) symbols
all_none map table [] all = tt
all_none map table (symbol ∷ symbols) all =
    (defines_none symbol (last_definition (Named symbol.name) table.definitions) all.0.before, all_none map table symbols all.1)

firm_all_none : (table : Table) (symbols : List Symbol) → AllByRecursion (NamesNone table) symbols
    → AllByRecursion (NamesNone (firm_table table)) symbols
firm_all_none table [] all = tt
firm_all_none table (symbol ∷ symbols) all = (firm_part_none table symbol all.0, firm_all_none table symbols all.1)

module _ (map : Map) (table : Table) (location : ℕ) (symbols : List Symbol) (reads : ReadsAsMeant table)
    (means : AllByRecursion (HasValue map table) symbols) where
  pub firm_takes : TakesNoRegister symbols (firm_known table location)
  firm_takes = takes_none table location symbols reads (all_none map table symbols means)

  pub twice_firm_takes : TakesNoRegister symbols (firm_known (firm_table table) location)
  twice_firm_takes =
      takes_none (firm_table table) location symbols (firm_reads table reads)
      (firm_all_none table symbols (all_none map table symbols means))

-- What an assembly has to know where it reads a line of a disassembly: that numbers are octal, which names mean registers, and which names
-- mean addresses. (MACRO-11 Language Reference Manual, "Symbols", "Register symbols" and ".RADIX directive".)
use Rattle.std.specs.Prelude.{◌≡◌, true, false, List, Option, Some, None}
use Rattle.std.specs.List.{AllByRecursion}
use Rattle.m11_base.specs.NameCharacters.{six_of}
use Rattle.m11_base.specs.Names.{name_in_words}
use Rattle.m11_base.specs.Operand.{register_number}
use Rattle.m11_base.specs.Rad50.{Name, name_text}
use Rattle.m11_base.specs.declared.operand.Register.{Register}
use Rattle.m11_base_disassembly.specs.Names.{bare_name}
use Rattle.m11_base_disassembly.specs.Texts.{register_text}
use Rattle.m11_base_disassembly.specs.declared.symbols.Scope.TheVariants.{Unknown}
use Rattle.m11_base_disassembly.specs.declared.symbols.Symbol.{Symbol}
use Rattle.m11_scan.specs.declared.radix.Radix.TheVariants.{Octal}
use Rattle.m11_scan_expressions.specs.Expressions.{KnownSymbols}
use Rattle.m11_scan_expressions.specs.Kinds.{is_register}
use Rattle.m11_scan_expressions.specs.Quantities.{Quantity, absolute}
use Rattle.m11_scan_expressions.specs.Terms.{name_symbol}
use Rattle.m11_scan_expressions.specs.declared.kinds.Kind.TheVariants as kind
use Rattle.m11_scan_expressions.specs.declared.names.Symbol.TheVariants.{Ordinary}
use Rattle.m11_asm_rules.specs.Definitions as definitions
use Rattle.m11_asm_rules.specs.Definitions.{has_key, last_definition}
use Rattle.m11_asm_rules.specs.declared.definitions.Definition.{Definition}
use Rattle.m11_asm_rules.specs.declared.definitions.Key.TheVariants.{Named}
use Rattle.m11_asm_rules.specs.declared.definitions.Standing.{Standing}
use Rattle.m11_asm_rules.specs.declared.definitions.Standing.TheVariants.{Known}
use Rattle.m11_asm_rules.specs.Meanings.{Map}
use Rattle.m11_asm_rules.specs.Relocations.{is_moved}
use Rattle.m11_asm_rules.specs.Tables.{Table}
use Rattle.m11_asm_dump_laws.specs.Operands.{is_name_text}

-- the name of a register as a symbol
abbrev pub register_name : Register → Name
register_name register = name_in_words (six_of (register_text register))

-- what the name of a register means before the first line
abbrev pub register_value : Register → Quantity
register_value register = record { number = register_number register; kind = kind.Register; flags = 0 }

-- numbers are octal, and R0 to R5, SP and PC mean the registers
pub record KnowsRegisters (known : KnownSymbols) : Type 0 where
  pub radix : known.radix ≡ Octal
  pub registers : (register : Register) → known.value_of_symbol (Ordinary (register_name register)) ≡ register_value register

-- a table under which the lines of a disassembly mean what they say: the section is absolute, numbers are octal, and the names of the
-- registers have the definitions that they have before the first line
pub record ReadsAsMeant (table : Table) : Type 0 where
  pub section : is_moved table ≡ false
  pub radix : table.modes.radix ≡ Octal
  pub registers : (register : Register)
      → last_definition (Named (register_name register)) table.definitions ≡ Some (definitions.register (register_number register))
  pub once : (register : Register) → has_key (Named (register_name register)) table.doubly_defined ≡ false

-- ---- names of addresses

-- a symbol that a source can define and whose name stands for its value alone: the six characters, up to their first space, are a name that
-- spells the symbol
pub record IsSpelled (symbol : Symbol) : Type 0 where
  pub alone : symbol.scope ≡ Unknown
  pub is_name : is_name_text (bare_name (name_text symbol.name)) ≡ true
  pub spelled : name_symbol (bare_name (name_text symbol.name)) ≡ Some (Ordinary symbol.name)

-- where these are known, the names of registers mean registers, and each symbol has its value
pub record KnowsNames (symbols : List Symbol) (known : KnownSymbols) : Type 0 where
  pub registers : KnowsRegisters known
  pub names : AllByRecursion (λ symbol. known.value_of_symbol (Ordinary symbol.name) ≡ absolute symbol.value 0) symbols

-- where only what the lines before say is known, the name of a symbol may have no value yet, but it never means a register
pub record TakesNoRegister (symbols : List Symbol) (firm : KnownSymbols) : Type 0 where
  pub registers : KnowsRegisters firm
  pub names : AllByRecursion (λ symbol. is_register (firm.value_of_symbol (Ordinary symbol.name)).kind ≡ false) symbols

-- ---- the definitions of these names

-- a symbol's value, as an assembly keeps it
abbrev pub standing_of : Symbol → Standing
standing_of symbol = Known symbol.value kind.Absolute

-- if there is a definition, it gives the symbol its value
abbrev pub AtMostDefines : Symbol → Option Definition → Type 0
AtMostDefines symbol None = Unit {0}
AtMostDefines symbol (Some definition) = definition.standing ≡ standing_of symbol

-- a symbol's name has its value in a line: no line before defines it otherwise, and the whole source defines it so, once
pub record HasValue (map : Map) (table : Table) (symbol : Symbol) : Type 0 where
  pub before : AtMostDefines symbol (last_definition (Named symbol.name) table.definitions)
  pub once : has_key (Named symbol.name) table.doubly_defined ≡ false
  pub definition : Definition
  pub finally : last_definition (Named symbol.name) map.definitions ≡ Some definition
  pub is : definition.standing ≡ standing_of symbol
  pub finally_once : has_key (Named symbol.name) map.doubly_defined ≡ false

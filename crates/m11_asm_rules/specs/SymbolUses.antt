-- The symbols that a line defines, makes global or reads, in order of appearance. (MACRO-11 Language Reference Manual, "Symbols", "Table of
-- contents and symbol table" and ".GLOBL directive". This project's own: text left over in a line uses no symbols.)
use Rattle.std.specs.Prelude.{List, [], ◌∷◌, ◌++◌, map, Option}
use Rattle.std.specs.List.{flat_map}
use Rattle.std.specs.Option.{option_to_list}
use Rattle.m11_scan_expressions.specs.Expressions.{symbols}
use Rattle.m11_scan_expressions.specs.Tokens.{Expression}
use Rattle.m11_base.specs.Devices.{Bytes}
use Rattle.m11_base.specs.Rad50.{Name}
use Rattle.m11_scan_statements.specs.Labels.{labels_at}
use Rattle.m11_scan_statements.specs.declared.labels.Label.{Label}
use Rattle.m11_scan_statements.specs.declared.labels.LabelKind.{LabelKind}
use Rattle.m11_scan_statements.specs.declared.labels.LabelKind.TheVariants as label
use Rattle.m11_unfold_rules.specs.Unfolding.{UnfoldedLine}
use Rattle.m11_scan_expressions.specs.declared.names.Symbol.{Symbol}
use Rattle.m11_scan_expressions.specs.declared.names.Symbol.TheVariants.{Ordinary, Local}
use Rattle.m11_asm_rules.specs.declared.fields.Field.{Field}
use Rattle.m11_asm_rules.specs.declared.fields.Field.TheVariants.{Operand, Register, Target, Number, Missing}
use Rattle.m11_asm_rules.specs.Fields.{Fields}
use Rattle.m11_asm_rules.specs.Instructions.{line_fields}
use Rattle.m11_asm_rules.specs.Labels.{label_name}
use Rattle.m11_asm_rules.specs.Actions.{Action, Assign, ByteList, Characters, Coded, Export, Operate, PackedText, Room, SetCounter, SetNumber, Storage, Store, Text, TextPart, Transfer, WordList}
use Rattle.m11_asm_rules.specs.Lines.{stands}
use Rattle.m11_asm_rules.specs.Operations.{action}
use Rattle.m11_asm_rules.specs.Meanings.{Context, LocalOnly, MayBeGlobal}
use Rattle.m11_asm_rules.specs.declared.operands.Form.{Form}
use Rattle.m11_asm_rules.specs.declared.operands.Form.TheVariants.{Absent, InRegister, Indexed, Unindexed, AfterCounter}
use Rattle.m11_asm_rules.specs.Tables.{Table}

-- a symbol that a line uses, and whether an undefined name at that place refers to another object
pub record SymbolUse : Type 0 where
  pub symbol : Symbol
  pub context : Context

abbrev pub symbol_use : Context → Symbol → SymbolUse
symbol_use context symbol = record { symbol = symbol; context = context }

-- the symbols that an expression reads
abbrev pub reads : Context → Expression → List SymbolUse
reads context tokens = map (symbol_use context) (symbols tokens)

-- the use of a name that a line defines or makes global
abbrev pub named : Name → SymbolUse
named name = symbol_use LocalOnly (Ordinary name)

-- the use of a name that a line defines or makes global, if the name is valid
abbrev pub defined : Option Name → List SymbolUse
defined name = map named (option_to_list name)

-- ---- labels

abbrev pub label_use : Option Name → LabelKind → List SymbolUse
label_use name (label.Local number) = symbol_use LocalOnly (Local number) ∷ []
label_use name label.Outside = []
label_use name kind = defined name

abbrev pub label_uses : Bytes → Label → List SymbolUse
label_uses line label = label_use (label_name line label) label.kind

-- ---- instructions

-- the symbols of an operand: those of its word may refer to other objects, those of its register may not
abbrev pub form_uses : Form Expression → List SymbolUse
form_uses Absent = []
form_uses (InRegister kind register) = reads LocalOnly register
form_uses (Indexed kind register index) = reads MayBeGlobal index ++ reads LocalOnly register
form_uses (Unindexed register) = reads LocalOnly register
form_uses (AfterCounter kind number) = reads MayBeGlobal number

abbrev pub field_uses : Field Expression → List SymbolUse
field_uses (Operand form) = form_uses form
field_uses (Register register) = reads LocalOnly register
field_uses (Target target) = reads LocalOnly target
field_uses (Number number) = reads LocalOnly number
field_uses Missing = []

abbrev pub uses_of_fields : Fields → List SymbolUse
uses_of_fields fields = field_uses fields.first ++ field_uses fields.second

-- ---- storage

abbrev pub part_use : Context → TextPart → List SymbolUse
part_use context (Characters characters) = []
part_use context (Coded tokens) = reads context tokens

abbrev pub storage_uses : Storage → List SymbolUse
storage_uses (WordList elements) = flat_map (reads MayBeGlobal) elements
storage_uses (ByteList elements) = flat_map (reads MayBeGlobal) elements
storage_uses (Text parts is_ended) = flat_map (part_use MayBeGlobal) parts
storage_uses (PackedText parts) = flat_map (part_use LocalOnly) parts
storage_uses (Room unit count) = reads LocalOnly count
storage_uses other = []

-- ---- a line

abbrev pub action_uses : Table → Bytes → Action → List SymbolUse
action_uses table line (Assign name is_global tokens) = defined name ++ reads LocalOnly tokens
action_uses table line (SetCounter tokens) = reads LocalOnly tokens
action_uses table line (Export is_weak names) = map named names
action_uses table line (SetNumber name number) = named name ∷ []
action_uses table line (Transfer tokens) = reads LocalOnly tokens
action_uses table line (Store storage) = storage_uses storage
action_uses table line (Operate operation start) = uses_of_fields (line_fields table line start operation)
action_uses table line other = []

-- the symbols that a line uses: its labels, those that unfolding read, and those of its operator
abbrev pub symbol_uses : Table → UnfoldedLine → List SymbolUse
symbol_uses table given =
    flat_map (label_uses given.live.line.text) (labels_at given.live.line.text)
    ++ map (symbol_use LocalOnly) given.remarks.symbols
    ++ action_uses (stands table given) given.live.line.text (action given.is_own given.arguments given.live.line.text)

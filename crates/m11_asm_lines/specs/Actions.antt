-- The code's actions and operations, which it reads from the text after the labels of a line, as the definitions represent them. (MACRO-11
-- Language Reference Manual, "Operator field".)
use Rattle.std.specs.Prelude.{◌≡◌, Bool, true, false}
use Rattle.m11_base.specs.Devices.{Bytes}
use Rattle.m11_scan.specs.Views.{bits_of}
use Rattle.m11_asm_operands.specs.ListedOperations as operations
use Rattle.m11_asm_operands.specs.Reads.{fields_model}
use Rattle.m11_asm_rules.specs.Actions as actions
use Rattle.m11_asm_rules.specs.Changes.{changed}
use Rattle.m11_asm_rules.specs.Fields.{Fields, no_fields}
use Rattle.m11_asm_rules.specs.Instructions.{line_fields}
use Rattle.m11_asm_rules.specs.Lines.{change_of}
use Rattle.m11_asm_rules.specs.Meanings.{Map}
use Rattle.m11_asm_rules.specs.Tables.{Table, firm_table}
use Rattle.m11_scan_expressions.specs.Tokens.{expression_of}
use Rattle.m11_asm_directives.specs.Settings.{setting_model}
use Rattle.m11_asm_directives.specs.Stored.{storage_model}
use Rattle.m11_asm_directives.specs.declared.stored.Arguments.{Arguments}
use Rattle.m11_asm_lines.specs.declared.actions.Action.{Action}
use Rattle.m11_asm_lines.specs.declared.actions.Action.TheVariants.{NoAction, Assign, SetCounter, Set, Store, Operate}
use Rattle.m11_asm_lines.specs.declared.actions.Reading.{Reading}
use Rattle.m11_asm_lines.specs.declared.actions.Operation.{Operation}

abbrev pub action_model : Bytes → Arguments → Action → actions.Action
action_model line arguments NoAction = actions.NoAction
action_model line arguments (Assign name is_global place) = actions.Assign name is_global (expression_of line place)
action_model line arguments (SetCounter place) = actions.SetCounter (expression_of line place)
action_model line arguments (Set setting) = setting_model line arguments.names.list.items setting
action_model line arguments (Store storage) = actions.Store (storage_model line arguments storage)
action_model line arguments (Operate operation start) = actions.Operate operation start

abbrev pub reading_model : Bytes → Arguments → Reading → actions.Operation
reading_model line arguments reading = actions.does (action_model line arguments reading.action) (bits_of reading.flags)

-- what an operation does; `operation_model` adds its flags
abbrev pub action_in : Bytes → Operation → actions.Action
action_in line operation = action_model line operation.arguments operation.action

abbrev pub operation_model : Bytes → Operation → actions.Operation
operation_model line operation = actions.does (action_in line operation) (bits_of operation.flags)

-- whether an instruction's operation is in the list of instructions; true of any other action
abbrev pub is_listed : Action → Bool
is_listed (Operate operation start) = operations.is_listed operation
is_listed other = true

-- the fields of an action: only an instruction has any
abbrev pub action_fields : Table → Bytes → Action → Fields
action_fields table line (Operate operation start) = line_fields table line start operation
action_fields table line other = no_fields 0

-- an operation was read from its line: its instruction, if it has one, is in the list of instructions, and its fields are those of its
-- action under a table
pub record IsRead (table : Table) (line : Bytes) (operation : Operation) : Type 0 where
  pub listed : is_listed operation.action ≡ true
  pub fields : fields_model line operation.fields ≡ action_fields table line operation.action

-- whether an action selects a section
abbrev pub selects : actions.Action → Bool
selects (actions.Select name bits attributes) = true
selects other = false

-- ---- the table after an action, from the table after the labels of its line

abbrev pub after_action : Map → Bytes → actions.Action → Table → Table
after_action map line action table = changed map (change_of (firm_table table) line action) table

-- A change leaves the same firm part under every map.
use Rattle.std.proofs.Common.{◌≡◌, ◌∙◌, ℕ, Bool, true, false, refl, sym, ap}
use Rattle.std.specs.Prelude.{if◌then◌else◌, ◌&&◌, not}
use Rattle.m11_scan_expressions.specs.Tokens.{Expression}
use Rattle.m11_base.specs.Rad50.{Name}
use Rattle.m11_asm_rules.proofs.FirmAssignments.{part_alike}
use Rattle.m11_asm_rules.proofs.FirmLabels.{definition_firm, labelled_firm}
use Rattle.m11_asm_rules.specs.Assignments.{assigned, with_assigned}
use Rattle.m11_asm_rules.specs.Changes.{Change, Keeps, Counts, Selects, Assigns, Numbers, Exports, Sets, changed, numbered, with_globals, with_move, with_section, with_modes, with_value}
use Rattle.m11_asm_rules.specs.Definitions.{Definition, Named, firm_part, is_labelled}
use Rattle.m11_asm_rules.specs.Labels.{global_if, with_definition, with_doubly_defined, with_global}
use Rattle.m11_asm_rules.specs.Meanings.{Map}
use Rattle.m11_asm_rules.specs.Tables.{Table, firm_table}

number_by : (is_there : Bool) (name : Name) (number : ℕ) (table : Table)
    → firm_table (if is_there then with_doubly_defined (Named name) table else with_definition (Named name) (numbered number) table)
    ≡ (if is_there then with_doubly_defined (Named name) (firm_table table) else with_definition (Named name) (numbered number) (firm_table table))
number_by true name number table = refl
number_by false name number table = definition_firm (Named name) (numbered number) table

number_firm : (name : Name) (number : ℕ) (table : Table)
    → firm_table (with_assigned (Named name) (numbered number) table) ≡ with_assigned (Named name) (numbered number) (firm_table table)
number_firm name number table =
    rw (labelled_firm (Named name) table.definitions)
    (number_by (is_labelled (Named name) table.definitions) name number table)

-- the table after an assignment, from its definition and from whether its name is a label's
abbrev written : Bool → Bool → Name → Definition → Table → Table
written is_label is_global name definition table =
    global_if (is_global && not is_label) name
    (if is_label then with_doubly_defined (Named name) table else with_definition (Named name) definition table)

written_firm : (is_label is_global : Bool) (name : Name) (definition : Definition) (table : Table)
    → firm_table (written is_label is_global name definition table)
    ≡ written is_label is_global name (firm_part definition) (firm_table table)
written_firm true true name definition table = refl
written_firm true false name definition table = refl
written_firm false true name definition table = ap (λ (t : Table). with_global name t) (definition_firm (Named name) definition table)
written_firm false false name definition table = definition_firm (Named name) definition table

-- the firm part of the table after an assignment follows from the firm parts of the table and of the definition
value_by_firm : (map : Map) (name : Name) (is_global : Bool) (tokens : Expression) (table : Table)
    → firm_table (with_value name is_global (assigned map table tokens) table)
    ≡ written (is_labelled (Named name) (firm_table table).definitions) is_global name
    (firm_part (assigned map table tokens)) (firm_table table)
value_by_firm map name is_global tokens table =
    written_firm (is_labelled (Named name) table.definitions) is_global name
    (assigned map table tokens) table
    ∙ ap (λ (b : Bool). written b is_global name (firm_part (assigned map table tokens)) (firm_table table))
    (sym (labelled_firm (Named name) table.definitions))

value_alike : (one other : Map) (name : Name) (is_global : Bool) (tokens : Expression) (first second : Table)
    → firm_table first ≡ firm_table second
    → firm_table (with_value name is_global (assigned one first tokens) first)
    ≡ firm_table (with_value name is_global (assigned other second tokens) second)
value_alike one other name is_global tokens first second same =
    value_by_firm one name is_global tokens first
    ∙ ap (λ (d : Definition). written (is_labelled (Named name) (firm_table first).definitions) is_global name d (firm_table first))
    (part_alike one other first second tokens same)
    ∙ ap (λ (t : Table). written (is_labelled (Named name) t.definitions) is_global name
    (firm_part (assigned other second tokens)) t) same
    ∙ sym (value_by_firm other name is_global tokens second)

pub change_alike : (one other : Map) (change : Change) (first second : Table)
    → firm_table first ≡ firm_table second
    → firm_table (changed one change first) ≡ firm_table (changed other change second)
change_alike one other Keeps first second same = same
change_alike one other (Counts move) first second same = ap (λ (t : Table). with_move move t) same
change_alike one other (Selects name attributes) first second same = ap (λ (t : Table). with_section name attributes t) same
change_alike one other (Assigns name is_global tokens) first second same =
    value_alike one other name is_global tokens first second same
change_alike one other (Numbers name number) first second same =
    number_firm name number first ∙ ap (λ (t : Table). with_assigned (Named name) (numbered number) t) same ∙ sym (number_firm name number second)
change_alike one other (Exports names) first second same =
    ap (λ (t : Table). with_globals names t) same
change_alike one other (Sets modes) first second same = ap (λ (t : Table). with_modes modes t) same

-- After what a line does after its labels, a table knows what has been said.
use Rattle.std.proofs.Common.{◌≡◌, ◌∙◌, ℕ, ◌+◌, ◌&&◌, not, Bool, true, false, if◌then◌else◌, List, ◌++◌, length, Option, Some, None, unwrap_or, refl, sym, ap, subst}
use Rattle.m11_base.specs.Devices.{Bytes}
use Rattle.m11_base.specs.Rad50.{Name}
use Rattle.m11_asm_rules.specs.Actions.{Action, Assign, Entitle, Export, Identify, ListExpansions, MoveLevel, NoAction, Operate, Select, SetCounter, SetNumber, SetRadix, Store, Transfer}
use Rattle.m11_asm_rules.specs.Assigning.{counter_value}
use Rattle.m11_asm_rules.specs.Assignments as tables
use Rattle.m11_asm_rules.specs.Changes.{Counts, Keeps, Selects, Sets, changed, in_number, numbered, with_globals, with_new}
use Rattle.m11_asm_rules.specs.Definitions.{is_labelled, is_of_label}
use Rattle.m11_asm_rules.specs.declared.definitions.Definition.{Definition}
use Rattle.m11_asm_rules.specs.declared.definitions.Key.TheVariants.{Named}
use Rattle.m11_asm_rules.specs.Effects as effects
use Rattle.m11_asm_rules.specs.Effects.{is_even}
use Rattle.m11_asm_rules.specs.History.{defining}
use Rattle.m11_asm_rules.specs.Instructions as instructions
use Rattle.m11_asm_rules.specs.Labels.{global_if, one_more, with_definition, with_doubly_defined}
use Rattle.m11_asm_rules.specs.Lines.{change_of}
use Rattle.m11_asm_rules.specs.Locations.{Goes, Move, SectionMove}
use Rattle.m11_asm_rules.specs.Meanings.{Map}
use Rattle.m11_asm_rules.specs.Psects.{with_attributes}
use Rattle.m11_asm_rules.specs.Relocations as relocations
use Rattle.m11_asm_rules.specs.Sections.{number_of, section}
use Rattle.m11_asm_rules.specs.declared.sections.Section.{Section}
use Rattle.m11_asm_rules.specs.Tables.{Table, firm_table, location}
use Rattle.m11_asm_rules.specs.declared.modes.Modes.{Modes}
use Rattle.m11_asm_table_laws.specs.Places.{Place, expansions_set, index_of, lists, name_selected, radix_set, selected_by, selects, unlists, with_selected}
use Rattle.m11_asm_table_laws.specs.Said.{Said, also_defining, begins_block, doubly_defining, last_said, moving}
use Rattle.m11_asm_table_laws.specs.Lines.{Assignment, after_action, also_exporting, assigned, assigning, assignment_by, by_assignment, by_export, move_by, moves_by, stepping}
use Rattle.m11_asm_table_laws.specs.Tables.{modes_at}
use Rattle.m11_asm_table_laws.proofs.Knowing.{Knows, Agrees, counted_more, knows_also, knows_doubly, knows_exporting, knows_moving, knows_name_if, next_selection}
use Rattle.m11_asm_table_laws.proofs.Selecting.{section_selected, sections_selected}
use Rattle.m11_asm_table_laws.proofs.Values.{assigned_same}

-- ---- assignments

and_true : (b : Bool) → b ≡ (b && not false)
and_true true = refl
and_true false = refl

module _ (place : Place) (said : Said) (table : Table) (knows : Knows place said table) (name : Name) where
  assigned_by : (is_label is_global : Bool) (one other : Definition) → one ≡ other → begins_block (defining (Named name) other) ≡ false
      → Knows place (if is_label then doubly_defining (Named name) said else also_exporting is_global (Named name) other said)
      (global_if (is_global && not is_label) name
      (if is_label then with_doubly_defined (Named name) table else with_definition (Named name) one table))
  assigned_by true true one other same none = knows_doubly place said table knows (Named name)
  assigned_by true false one other same none = knows_doubly place said table knows (Named name)
  assigned_by false is_global one other same none =
      let P : Bool → Definition → Type 0 = λ b d. Knows place (also_exporting is_global (Named name) other said)
      (global_if b name (with_definition (Named name) d table)) in
      subst (λ (b : Bool). P b one) (and_true is_global)
      (subst (λ (d : Definition). P is_global d) (sym same)
      (knows_name_if place (also_defining (Named name) other said) (with_definition (Named name) other table)
      (knows_also place said table knows (Named name) other none) is_global name))

  assignment_known : (is_global : Bool) (one other : Definition) → one ≡ other → begins_block (defining (Named name) other) ≡ false
      → Knows place (by_assignment said (Some (assigning is_global other name)))
      (global_if (is_global && not (is_labelled (Named name) table.definitions)) name (tables.with_assigned (Named name) one table))
  assignment_known is_global one other same none =
      let P : Bool → Type 0 = λ b. Knows place
      (if b then doubly_defining (Named name) said else also_exporting is_global (Named name) other said)
      (global_if (is_global && not (is_labelled (Named name) table.definitions)) name (tables.with_assigned (Named name) one table)) in
      subst P (ap is_of_label (knows.definitions (Named name)))
      (assigned_by (is_labelled (Named name) table.definitions) is_global one other same none)

-- ---- actions

module _ (map : Map) (place : Place) (said : Said) (table : Table) (agrees : Agrees place said table) (line : Bytes) where
  abbrev knows : Knows place said table
  knows = agrees.knows

  moved_known : (move : Move) (moves : List SectionMove) → Knows place (moving moves said) (changed map (Counts move) table)
  moved_known move moves = record {
    definitions = knows.definitions;
    doubly_defined = knows.doubly_defined;
    globals = knows.globals;
    sections = knows.sections;
    modes = knows.modes;
  }

  counter_by : (is_here : Bool) (location : ℕ) (moves : List SectionMove)
      → Knows place (moving moves said) (changed map (if is_here then Counts (Goes location) else Keeps) table)
  counter_by true location moves = moved_known (Goes location) moves
  counter_by false location moves = knows_moving place said table knows moves

  -- modes that are set, if they are those at a place with the same sections
  modes_known : (new : Modes) (next : Place) (moves : List SectionMove) → next.sections ≡ place.sections → new ≡ modes_at next said
      → Knows next (moving moves said) (changed map (Sets new) table)
  modes_known new next moves same_sections same_modes = record {
    definitions = knows.definitions;
    doubly_defined = knows.doubly_defined;
    globals = knows.globals;
    sections = knows.sections ∙ sym same_sections;
    modes = same_modes;
  }

  -- the place of the next line
  abbrev after : Action → Place
  after action = record {
    sections = with_selected place.sections (selected_by action);
    section = unwrap_or (name_selected action) place.section;
    selections = if selects action then place.selections + 1 else place.selections;
    radix = unwrap_or (radix_set action) place.radix;
    listed = if lists action then place.listed + 1 else place.listed;
    unlisted = if unlists action then place.unlisted + 1 else place.unlisted;
    shows_expansions = unwrap_or (expansions_set action) place.shows_expansions;
  }

  abbrev after_selecting : Section → Place
  after_selecting new =
      record place { sections = with_selected place.sections (Some new); section = new.name; selections = place.selections + 1 }

  select_known : (name : Name) (attributes : ℕ) (moves : List SectionMove)
      → Knows (after_selecting (section name attributes)) (moving moves said) (changed map (Selects name attributes) table)
  select_known name attributes moves =
      let new : Section = section name attributes in
      let found : unwrap_or (number_of name table.sections) (length table.sections) ≡ index_of name (with_selected place.sections (Some new)) =
      ap (λ (s : List Section). unwrap_or (number_of name s) (length s)) knows.sections
      ∙ section_selected name attributes place.sections in
      record {
        definitions = knows.definitions;
        doubly_defined = knows.doubly_defined;
        globals = knows.globals;
        sections = ap (λ (s : List Section). with_new (number_of name s) new s) knows.sections
            ∙ sections_selected name attributes place.sections;
        modes = ap (in_number (unwrap_or (number_of name table.sections) (length table.sections))) knows.modes
            ∙ ap (λ (n : ℕ). in_number n (modes_at place said)) found
            ∙ ap (λ (n : ℕ). record (modes_at place said) { section = index_of name (with_selected place.sections (Some new)); block = n })
            (next_selection place said);
      }

  pub action_known : (action : Action)
      → Knows (after action) (after_action map place line action said) (changed map (change_of (firm_table table) line action) table)
  action_known NoAction = knows_moving place said table knows _
  action_known (Assign None is_global tokens) = knows_moving place said table knows _
  action_known (Assign (Some assigned_name) is_global tokens) =
      knows_moving place _ _
      (assignment_known place said table knows assigned_name is_global (tables.assigned map table tokens) (assigned map place said tokens)
      (assigned_same place said table agrees map tokens) refl) _
  action_known (SetNumber assigned_name number) =
      knows_moving place _ _
      (assignment_known place said table knows assigned_name false (numbered number) (numbered number) refl refl) _
  action_known (SetCounter tokens) =
      counter_by (relocations.is_here (firm_table table) (counter_value (firm_table table) tokens).kind)
      (counter_value (firm_table table) tokens).number _
  action_known (Select name bits attributes) = select_known name (with_attributes bits attributes) _
  action_known (Export is_weak names) =
      knows_moving place _ (with_globals names table) (knows_exporting place said table knows names) _
  action_known (SetRadix new) =
      modes_known (record table.modes { radix = new }) (after (SetRadix new)) _ refl
      (ap (λ (m : Modes). record m { radix = new }) knows.modes)
  action_known (MoveLevel true) =
      modes_known (record table.modes { listed = one_more table.modes.listed }) (after (MoveLevel true)) _ refl
      (ap (λ (m : Modes). record m { listed = one_more m.listed }) knows.modes
      ∙ ap (λ (n : ℕ). record (modes_at place said) { listed = n }) (counted_more place.listed))
  action_known (MoveLevel false) =
      modes_known (record table.modes { unlisted = one_more table.modes.unlisted }) (after (MoveLevel false)) _ refl
      (ap (λ (m : Modes). record m { unlisted = one_more m.unlisted }) knows.modes
      ∙ ap (λ (n : ℕ). record (modes_at place said) { unlisted = n }) (counted_more place.unlisted))
  action_known (ListExpansions are_listed) =
      modes_known (record table.modes { shows_expansions = are_listed }) (after (ListExpansions are_listed)) _ refl
      (ap (λ (m : Modes). record m { shows_expansions = are_listed }) knows.modes)
  action_known (Store storage) =
      moved_known (stepping (is_even storage) (location (firm_table table)) (λ here. effects.size (firm_table table) here storage)) _
  action_known (Operate operation start) =
      moved_known (stepping true (location (firm_table table)) (λ here. instructions.size (firm_table table) here line start operation)) _
  action_known (Entitle title) = knows_moving place said table knows _
  action_known (Identify identification) = knows_moving place said table knows _
  action_known (Transfer tokens) = knows_moving place said table knows _

-- ---- only the move of an action is added to the moves

made_moves : (is_label : Bool) (said : Said) (made : Assignment)
    → (if is_label then doubly_defining (Named made.name) said else also_exporting made.is_global (Named made.name) made.definition said).moves
    ≡ said.moves
made_moves true said made = refl
made_moves false said made = refl

assignment_moves : (said : Said) (made : Option Assignment) → (by_assignment said made).moves ≡ said.moves
assignment_moves said None = refl
assignment_moves said (Some made) = made_moves (is_of_label (last_said (Named made.name) said)) said made

export_moves : (said : Said) (action : Action) → (by_export said action).moves ≡ said.moves
export_moves said (Export is_weak names) = refl
export_moves said other = refl

pub action_moves : (map : Map) (place : Place) (line : Bytes) (action : Action) (said : Said)
    → (after_action map place line action said).moves ≡ said.moves ++ moves_by place (move_by place said line action)
action_moves map place line action said =
    ap (λ (m : List SectionMove). m ++ moves_by place (move_by place said line action))
    (export_moves (by_assignment said (assignment_by map place said action)) action
    ∙ assignment_moves said (assignment_by map place said action))

-- How far the labels and the change of a line move the modes and the sections of a table.
use Rattle.std.proofs.Common.{◌≡◌, ◌∙◌, ◌<◌, ◌≤◌, ℕ, ◌+◌, Bool, true, false, if◌then◌else◌, List, [], ◌∷◌, length, Option, Some, None, refl, sym, subst, arith}
use Rattle.std.specs.Prelude.{unwrap_or}
use Rattle.std.proofs.lemmas.List.{length-append}
use Rattle.std.proofs.lemmas.List.Quantifiers.{position-Some}
use Rattle.m11_base.specs.Devices.{Bytes}
use Rattle.m11_base.specs.Rad50.{Name, is_same_name}
use Rattle.m11_scan_statements.specs.declared.labels.Label.{Label}
use Rattle.m11_scan_statements.specs.declared.labels.LabelKind.{LabelKind}
use Rattle.m11_scan_statements.specs.declared.labels.LabelKind.TheVariants as label
use Rattle.m11_asm_rules.specs.Assigning as assigning
use Rattle.m11_asm_rules.specs.Changes.{Change, Keeps, Counts, Selects, Assigns, Numbers, Exports, Sets, changed, with_new}
use Rattle.m11_asm_rules.specs.Definitions.{is_defined, is_labelled}
use Rattle.m11_asm_rules.specs.declared.definitions.Key.TheVariants.{Named, Numbered}
use Rattle.m11_asm_rules.specs.Labels.{global_if, label_name, one_more, with_kind, with_label, with_labels, with_name}
use Rattle.m11_scan_expressions.specs.Tokens.{Expression}
use Rattle.m11_asm_rules.specs.Actions.{Action, Assign, SetCounter, SetRadix, MoveLevel, ListExpansions}
use Rattle.m11_asm_rules.specs.Lines.{change_of}
use Rattle.m11_asm_rules.specs.Meanings.{Map}
use Rattle.m11_asm_rules.specs.Locations.{Goes}
use Rattle.m11_asm_rules.specs.Relocations.{is_here}
use Rattle.m11_asm_rules.specs.Sections.{number_of, section}
use Rattle.m11_asm_rules.specs.declared.sections.Section.{Section}
use Rattle.m11_asm_rules.specs.Tables.{Table}
use Rattle.m11_asm_rules.specs.declared.modes.Modes.{Modes}

one_at_most : (count : ℕ) → one_more count ≤ count + 1
one_at_most count = grind arith

-- ---- labels: at most one block for each; nothing else changes

pub record Blocks (most : ℕ) (old new : Table) : Type 0 where
  pub block : new.modes.block ≤ old.modes.block + most
  pub listed : new.modes.listed ≡ old.modes.listed
  pub unlisted : new.modes.unlisted ≡ old.modes.unlisted
  pub section : new.modes.section ≡ old.modes.section
  pub sections : new.sections ≡ old.sections

same_blocks : (most : ℕ) (table : Table) → Blocks most table table
same_blocks most table =
    record { block = omega arith; listed = refl; unlisted = refl; section = refl; sections = refl }

global_blocks : (is_global : Bool) (name : Name) (most : ℕ) (old new : Table) → Blocks most old new
    → Blocks most old (global_if is_global name new)
global_blocks true name most old new blocks = record {
  block = blocks.block;
  listed = blocks.listed;
  unlisted = blocks.unlisted;
  section = blocks.section;
  sections = blocks.sections;
}
global_blocks false name most old new blocks = blocks

choice_blocks : (choice : Bool) (most : ℕ) (old one other : Table) → Blocks most old one → Blocks most old other
    → Blocks most old (if choice then one else other)
choice_blocks true most old one other first second = first
choice_blocks false most old one other first second = second

name_blocks : (is_global : Bool) (table : Table) (name : Option Name) → Blocks 1 table (with_name is_global table name)
name_blocks is_global table (Some name) =
    choice_blocks (is_defined (Named name) table.definitions) 1 table _ _
    (record { block = omega arith; listed = refl; unlisted = refl; section = refl; sections = refl })
    (global_blocks is_global name 1 table _
    (record { block = one_at_most table.modes.block; listed = refl; unlisted = refl; section = refl; sections = refl }))
name_blocks is_global table None = same_blocks 1 table

kind_blocks : (table : Table) (name : Option Name) (kind : LabelKind) → Blocks 1 table (with_kind table name kind)
kind_blocks table name label.Ordinary = name_blocks false table name
kind_blocks table name label.Global = name_blocks true table name
kind_blocks table name (label.Local number) =
    choice_blocks (is_defined (Numbered table.modes.block number) table.definitions) 1 table _ _
    (record { block = omega arith; listed = refl; unlisted = refl; section = refl; sections = refl })
    (record { block = omega arith; listed = refl; unlisted = refl; section = refl; sections = refl })
kind_blocks table name label.Outside = same_blocks 1 table

pub labels_blocks : (line : Bytes) (table : Table) (labels : List Label)
    → Blocks (length labels) table (with_labels line table labels)
labels_blocks line table [] = same_blocks 0 table
labels_blocks line table (named ∷ labels) =
    let one = kind_blocks table (label_name line named) named.kind in
    let rest = labels_blocks line (with_label line table named) labels in
    let first = one.block in
    let others = rest.block in
    record {
      block = omega (arith, first, others);
      listed = rest.listed ∙ one.listed;
      unlisted = rest.unlisted ∙ one.unlisted;
      section = rest.section ∙ one.section;
      sections = rest.sections ∙ one.sections;
    }

-- ---- a change: at most one block, and one level

pub record Moves (old new : Table) : Type 0 where
  pub block : new.modes.block ≤ old.modes.block + 1
  pub listed : new.modes.listed ≤ old.modes.listed + 1
  pub unlisted : new.modes.unlisted ≤ old.modes.unlisted + 1
  pub section : old.modes.section < length old.sections → new.modes.section < length new.sections

-- modes that a change may set: the section is the same, and each count is at most 1 higher
pub record IsNear (old new : Modes) : Type 0 where
  pub block : new.block ≤ old.block + 1
  pub listed : new.listed ≤ old.listed + 1
  pub unlisted : new.unlisted ≤ old.unlisted + 1
  pub section : new.section ≡ old.section

abbrev pub IsModest : Modes → Change → Type 0
IsModest modes (Sets new) = IsNear modes new
IsModest modes Keeps = Unit {0}
IsModest modes (Counts move) = Unit {0}
IsModest modes (Selects name attributes) = Unit {0}
IsModest modes (Assigns name is_global tokens) = Unit {0}
IsModest modes (Numbers name number) = Unit {0}
IsModest modes (Exports names) = Unit {0}

choice_modest : (choice : Bool) (modes : Modes) (one other : Change) → IsModest modes one → IsModest modes other
    → IsModest modes (if choice then one else other)
choice_modest true modes one other first second = first
choice_modest false modes one other first second = second

target_modest : (modes : Modes) (is_global : Bool) (tokens : Expression) (name : Option Name)
    → IsModest modes (assigning.assignment name is_global tokens)
target_modest modes is_global tokens (Some name) = tt
target_modest modes is_global tokens None = tt

pub change_modest : (table : Table) (line : Bytes) (action : Action) → IsModest table.modes (change_of table line action)
change_modest table line (Assign name is_global tokens) = target_modest table.modes is_global tokens name
change_modest table line (SetCounter tokens) =
    let value = assigning.counter_value table tokens in
    choice_modest (is_here table value.kind) table.modes (Counts (Goes value.number)) Keeps tt tt
change_modest table line (SetRadix radix) =
    record { block = omega arith; listed = omega arith; unlisted = omega arith; section = refl }
change_modest table line (MoveLevel true) =
    record { block = omega arith; listed = one_at_most table.modes.listed; unlisted = omega arith; section = refl }
change_modest table line (MoveLevel false) =
    record { block = omega arith; listed = omega arith; unlisted = one_at_most table.modes.unlisted; section = refl }
change_modest table line (ListExpansions are_listed) =
    record { block = omega arith; listed = omega arith; unlisted = omega arith; section = refl }
change_modest table line other = tt

-- ---- the table after a change

-- if a section is found by its name, its number is below the number of sections
pub found_within : (name : Name) (all : List Section) (number : ℕ) → number_of name all ≡ Some number → number < length all
found_within name all number found =
    (position-Some (λ (known : Section). is_same_name known.name name) all number (section name 0) found).0

pub number_within : (found : Option ℕ) (new : Section) (all : List Section)
    → ((number : ℕ) → found ≡ Some number → number < length all)
    → unwrap_or found (length all) < length (with_new found new all)
number_within (Some number) new all within = within number refl
number_within None new all within = let one = length-append all (new ∷ []) in omega (arith, one)

choice_moves : (choice : Bool) (old one other : Table) → Moves old one → Moves old other
    → Moves old (if choice then one else other)
choice_moves true old one other first second = first
choice_moves false old one other first second = second

global_moves : (is_global : Bool) (name : Name) (old new : Table) → Moves old new → Moves old (global_if is_global name new)
global_moves true name old new moves =
    record { block = moves.block; listed = moves.listed; unlisted = moves.unlisted; section = moves.section }
global_moves false name old new moves = moves

pub changed_moves : (map : Map) (change : Change) (table : Table) → IsModest table.modes change
    → Moves table (changed map change table)
changed_moves map Keeps table modest =
    record { block = omega arith; listed = omega arith; unlisted = omega arith; section = λ within. within }
changed_moves map (Counts move) table modest =
    record { block = omega arith; listed = omega arith; unlisted = omega arith; section = λ within. within }
changed_moves map (Selects name attributes) table modest = record {
  block = one_at_most table.modes.block;
  listed = omega arith;
  unlisted = omega arith;
  section = λ within. number_within (number_of name table.sections) (section name attributes) table.sections
      (found_within name table.sections);
}
changed_moves map (Assigns name is_global tokens) table modest =
    global_moves _ name table _
    (choice_moves (is_labelled (Named name) table.definitions) table _ _
    (record { block = omega arith; listed = omega arith; unlisted = omega arith; section = λ within. within })
    (record { block = omega arith; listed = omega arith; unlisted = omega arith; section = λ within. within }))
changed_moves map (Numbers name number) table modest =
    choice_moves (is_labelled (Named name) table.definitions) table _ _
    (record { block = omega arith; listed = omega arith; unlisted = omega arith; section = λ within. within })
    (record { block = omega arith; listed = omega arith; unlisted = omega arith; section = λ within. within })
changed_moves map (Exports names) table modest =
    record { block = omega arith; listed = omega arith; unlisted = omega arith; section = λ within. within }
changed_moves map (Sets modes) table modest = record {
  block = modest.block;
  listed = modest.listed;
  unlisted = modest.unlisted;
  section = λ within. subst (λ (n : ℕ). n < length table.sections) (sym modest.section) within;
}

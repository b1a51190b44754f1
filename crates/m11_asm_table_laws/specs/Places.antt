-- Where a line stands, as the operators of the lines before it say: in which section, with which radix, and with which listing levels.
-- (MACRO-11 Language Reference Manual, "Program section directives", "Radix control" and "Listing control directives". This project's own:
-- a section keeps the attributes of the line that selects it first.) The lines before a line are a list, the last one first.
use Rattle.std.specs.Prelude.{ℕ, ◌+◌, not, Bool, true, false, if◌then◌else◌, List, [], ◌∷◌, ◌++◌, Option, Some, None, is_some, option_map, unwrap_or}
use Rattle.std.specs.List.{list_any, position_or_len}
use Rattle.m11_base.specs.Names.{blank_name}
use Rattle.m11_base.specs.Rad50.{Name, is_same_name}
use Rattle.m11_scan.specs.declared.radix.Radix.{Radix}
use Rattle.m11_scan.specs.declared.radix.Radix.TheVariants.{Octal}
use Rattle.m11_scan_expressions.specs.declared.kinds.Kind.{Kind}
use Rattle.m11_scan_expressions.specs.declared.kinds.Kind.TheVariants as kind
use Rattle.m11_unfold_rules.specs.Unfolding.{UnfoldedLine}
use Rattle.m11_asm_rules.specs.Actions.{Action, ListExpansions, MoveLevel, Select, SetRadix}
use Rattle.m11_asm_rules.specs.Operations.{action}
use Rattle.m11_asm_rules.specs.Psects.{with_attributes}
use Rattle.m11_asm_rules.specs.Sections.{first_sections, is_relocatable, numbered, section}
use Rattle.m11_asm_rules.specs.declared.sections.Section.{Section}

-- ---- the operators of lines

-- what a line does after its labels, as read from its text
unfoldable pub action_in : UnfoldedLine → Action
action_in given = action given.is_own given.arguments given.live.line.text

-- what the last line that sets something sets it to; if no line sets it, what it is before the first line
abbrev pub last_set : {A : Type 0} → (Action → Option A) → A → List UnfoldedLine → A
last_set set_by first [] = first
last_set set_by first (given ∷ before) = unwrap_or (set_by (action_in given)) (last_set set_by first before)

-- how many lines pass a test
abbrev pub how_many : (Action → Bool) → List UnfoldedLine → ℕ
how_many passes [] = 0
how_many passes (given ∷ before) = if passes (action_in given) then how_many passes before + 1 else how_many passes before

-- ---- sections

-- the section that `.ASECT`, `.CSECT` or `.PSECT` selects, with the attributes that it gives the section if no line before selects it
abbrev pub selected_by : Action → Option Section
selected_by (Select name bits attributes) = Some (section name (with_attributes bits attributes))
selected_by other = None

abbrev pub selects : Action → Bool
selects action = is_some (selected_by action)

abbrev pub name_selected : Action → Option Name
name_selected action = option_map (λ (one : Section). one.name) (selected_by action)

-- whether one of these sections has this name
abbrev pub has_section : Name → List Section → Bool
has_section name known = list_any (λ (one : Section). is_same_name one.name name) known

-- how many sections come before the one with this name
abbrev pub index_of : Name → List Section → ℕ
index_of name known = position_or_len (λ (one : Section). is_same_name one.name name) known

abbrev pub with_selected : List Section → Option Section → List Section
with_selected known None = known
with_selected known (Some new) = if has_section new.name known then known else known ++ new ∷ []

-- the absolute section, the blank one, and the others in the order in which the lines first select them
abbrev pub sections_after : List UnfoldedLine → List Section
sections_after [] = first_sections
sections_after (given ∷ before) = with_selected (sections_after before) (selected_by (action_in given))

-- ---- the radix, and the listing

abbrev pub radix_set : Action → Option Radix
radix_set (SetRadix radix) = Some radix
radix_set other = None

-- whether an action is `.LIST` (true) or `.NLIST` (false) without arguments
abbrev pub lists : Action → Bool
lists (MoveLevel goes_up) = goes_up
lists other = false

abbrev pub unlists : Action → Bool
unlists (MoveLevel true) = false
unlists (MoveLevel false) = true
unlists other = false

abbrev pub expansions_set : Action → Option Bool
expansions_set (ListExpansions are_listed) = Some are_listed
expansions_set other = None

-- ---- the place of the line after these

pub record Place : Type 0 where
  -- the sections so far, and the name of the line's section
  pub sections : List Section
  pub section : Name
  -- how many lines before select a section
  pub selections : ℕ
  pub radix : Radix
  -- how many lines before are `.LIST` without arguments, and `.NLIST` without arguments; and whether lines of expansions are listed
  pub listed : ℕ
  pub unlisted : ℕ
  pub shows_expansions : Bool

abbrev pub place_after : List UnfoldedLine → Place
place_after before = record {
  sections = sections_after before;
  section = last_set name_selected blank_name before;
  selections = how_many selects before;
  radix = last_set radix_set Octal before;
  listed = how_many lists before;
  unlisted = how_many unlists before;
  shows_expansions = last_set expansions_set false before;
}

-- ---- the section at a place

-- its number: how many sections come before it
abbrev pub number : Place → ℕ
number place = index_of place.section place.sections

-- whether it is REL
abbrev pub is_moved : Place → Bool
is_moved place = is_relocatable (numbered (number place) place.sections)

-- the kind of its locations
abbrev pub kind_here : Place → Kind
kind_here place = if is_moved place then kind.Section place.section else kind.Absolute

-- whether a value of this kind is a location of the section; in an ABS section every absolute number is, and every register
abbrev pub is_here : Place → Kind → Bool
is_here place (kind.Section name) = is_same_name name place.section
is_here place (kind.Reference name) = false
is_here place other = not (is_moved place)

-- A live line as a pass places it. (MACRO-11 Language Reference Manual, "Source program format" and "Diagnostic error message summary".)
use Rattle.std.specs.Prelude.{◌≡◌, ℕ}
use Rattle.std.specs.Int.RustNames.{bit_or}
use Rattle.std.specs.Option.{option_to_list}
use Rattle.m11_scan.specs.Views.{bits_of}
use Rattle.m11_scan_statements.specs.Labels.{labels_at}
use Rattle.m11_unfold_rules.specs.Taking.{Live}
use Rattle.m11_unfold_rules.specs.Unfolding.{UnfoldedLine}
use Rattle.m11_asm_rules.specs.Contents.{Emission}
use Rattle.m11_asm_rules.specs.Items.{assigned_items, is_shown}
use Rattle.m11_asm_rules.specs.Lines.{after_line, flags, line_emission, put_location, stands}
use Rattle.m11_asm_rules.specs.Operations.{action}
use Rattle.m11_asm_rules.specs.Meanings.{Map}
use Rattle.m11_asm_rules.specs.Tables.{Table, location, section_name}
use Rattle.m11_asm_lines.specs.Actions.{action_in}
use Rattle.m11_asm_lines.specs.Moved.{moved_flags}
use Rattle.m11_asm_passes.specs.declared.placed.LiveLine.{LiveLine}
use Rattle.m11_asm_passes.specs.declared.placed.PlacedLine.{PlacedLine}

abbrev pub live_in : LiveLine → Live
live_in live = record { line = live.line; is_expanded = live.is_expanded }

-- the code's live line is this one, with the same action after its labels
pub record IsLive (given : UnfoldedLine) (live : LiveLine) : Type 0 where
  pub live_is : live_in live ≡ given.live
  pub action_is : action_in given.live.line.text live.operation ≡ action given.is_own given.arguments given.live.line.text

-- the flags of a line, with P if a label that the line defines isn't at the same location in the map
abbrev pub all_flags : Map → Table → UnfoldedLine → ℕ
all_flags map table given =
    bit_or (flags map table given) (moved_flags map given.live.line.text table (labels_at given.live.line.text))

-- the code's placed line is this line, placed with this table before it, and the emission has the contents that the line emits
pub record IsPlaced (map : Map) (table : Table) (given : UnfoldedLine) (placed : PlacedLine) (emission : Emission) : Type 0 where
  pub is_live : IsLive given placed.live
  pub flags_are : bits_of placed.flags ≡ all_flags map table given
  pub section_is : placed.section ≡ section_name (stands table given)
  pub location_is : placed.location ≡ put_location (stands table given) (action given.is_own given.arguments given.live.line.text)
  pub contents_are : emission.contents ≡ (line_emission map (stands table given) given).contents
  -- what only a listing uses
  pub counter_is : placed.counter ≡ location (stands table given)
  pub assigned_is : option_to_list placed.assigned ≡ assigned_items map table given
  pub shown_is : placed.is_shown ≡ is_shown (after_line map table given).modes given.live.is_expanded

-- The gap before what a line emits, and whether the line moves its counter by exactly the gap and the emitted bytes. (MACRO-11 Language
-- Reference Manual, "Current location counter".)
use Rattle.std.specs.Prelude.{◌≡◌, ◌⊎◌, ℕ, ◌+◌, true, List, []}
use Rattle.m11_obj.specs.declared.pieces.PieceContent.{PieceContent}
use Rattle.m11_asm_rules.specs.Alignment.{gap}
use Rattle.m11_asm_rules.specs.Changes.{Change, Counts}
use Rattle.m11_asm_rules.specs.Contents.{contents_size}
use Rattle.m11_asm_rules.specs.Actions.{Action, Store, Operate}
use Rattle.m11_asm_rules.specs.Effects.{is_even}
use Rattle.m11_asm_rules.specs.Locations.{Steps}
use Rattle.m11_asm_rules.specs.Tables.{Table, location}

-- the number of bytes skipped before what a line emits
abbrev pub gap_before : Table → Action → ℕ
gap_before table (Store storage) = gap (is_even storage) (location table)
gap_before table (Operate operation start) = gap true (location table)
gap_before table other = 0

-- either nothing is emitted, or the counter moves by the gap and the emitted bytes
abbrev pub Fills : ℕ → List PieceContent → Change → Type 0
Fills gap contents change = (contents ≡ []) ⊎ (change ≡ Counts (Steps (gap + contents_size contents)))

-- Bounds of the counts that lines increase. (This project's own: blocks of local symbols and listing levels are counted in 64 bits, and a
-- count stops at the greatest number.)
use Rattle.std.specs.Prelude.{◌<◌, ◌≤◌, ◌-◌, ◌^◌, length}
use Rattle.m11_scan.specs.Line.{line_limit}
use Rattle.m11_unfold_rules.specs.Unfolding.{UnfoldedLine}
use Rattle.m11_asm_rules.specs.declared.modes.Modes.{Modes}

-- the text of a line has at most `line_limit` characters
abbrev pub IsInWidth : UnfoldedLine → Type 0
IsInWidth given = length given.live.line.text ≤ line_limit

-- each count is below the greatest 64-bit number, so it can still increase
pub record AreBelowGreatest (modes : Modes) : Type 0 where
  pub block : modes.block < 2 ^ 64 - 1
  pub listed : modes.listed < 2 ^ 64 - 1
  pub unlisted : modes.unlisted < 2 ^ 64 - 1

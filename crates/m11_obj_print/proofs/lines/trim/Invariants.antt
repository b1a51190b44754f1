use Rattle.std.proofs.Common.{◌≡◌, ◌≤◌, length}
use Rattle.m11_base.specs.Blanks.{without_last_blanks}
use Rattle.m11_obj_print.proofs.lines.trim.Given as goal

abbrev pub invariant-blanks : goal.invariant-blanks
invariant-blanks l = (without_last_blanks l.line.items ≡ without_last_blanks l.initial.line.items)
    × (length l.line.items ≤ length l.initial.line.items)

abbrev pub decreases-blanks : goal.decreases-blanks
decreases-blanks l = length l.line.items

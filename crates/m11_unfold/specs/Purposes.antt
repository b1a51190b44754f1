-- The purpose of a body that the code's value represents. (This project's own.)
use Rattle.std.specs.Prelude.{◌≤◌, length, Option, Some, None}
use Rattle.m11_unfold_rules.specs.Headers.{MacroNamed}
use Rattle.m11_scan.specs.Line.{line_limit}
use Rattle.m11_unfold_rules.specs.Stages as stages
use Rattle.m11_unfold.specs.declared.opening.Purpose.{Purpose}
use Rattle.m11_unfold.specs.declared.opening.Purpose.TheVariants.{Defines, Repeats, Drops}

abbrev pub purpose_of : Purpose → stages.Purpose
purpose_of (Defines name formals) = stages.Defines name formals.items
purpose_of (Repeats formals rounds) = stages.Repeats formals.items rounds
purpose_of Drops = stages.Drops

-- a body that defines a macro has at most as many formals as a line may have characters; other bodies have no such limit
abbrev pub IsPurpose : Purpose → Type 0
IsPurpose (Defines name formals) = length formals.items ≤ line_limit
IsPurpose (Repeats formals rounds) = Unit {0}
IsPurpose Drops = Unit {0}

-- the header of a macro keeps the same limit, if it has a valid name
abbrev pub IsFew : Option MacroNamed → Type 0
IsFew None = Unit {0}
IsFew (Some named) = length named.formals ≤ line_limit

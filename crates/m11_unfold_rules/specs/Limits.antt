-- The limits of an unfolding, and which of them the next move exceeds. (This project's own.)
use Rattle.std.specs.Prelude.{ℕ, ◌+◌, ◌&&◌, Bool, nat_le, nat_lt, if◌then◌else◌, List, [], ◌∷◌, length, Option, Some, None}
use Rattle.std.specs.Option.{is_none}
use Rattle.m11_base.specs.Devices.{Bytes}
use Rattle.m11_unfold_bodies.specs.Bodies.{depth_after, size_of}
use Rattle.m11_unfold_bodies.specs.Conditions.{most_conditions}
use Rattle.m11_unfold_bodies.specs.Left.{RemainingItem, Line, End, bytes_held, conditions_open, depth, most_expansions}
use Rattle.m11_unfold_rules.specs.Macros.{macro_named}
use Rattle.m11_unfold_rules.specs.Stages.{Purpose, Defines, Repeats, Drops, Stage}
use Rattle.m11_unfold_rules.specs.Taking.{nesting}
use Rattle.m11_unfold_rules.specs.declared.fault.UnfoldFault.{UnfoldFault}
use Rattle.m11_unfold_rules.specs.declared.fault.UnfoldFault.TheVariants.{TooDeep, TooManyLines, TooMuchText, TooManyMacros}

-- the most lines that may be read, live or not
abbrev pub most_lines : ℕ
most_lines = 200000

-- the most bytes of all bodies together; the end of each line counts as one
abbrev pub most_bytes : ℕ
most_bytes = 65536

-- the most macros that may be defined
abbrev pub most_macros : ℕ
most_macros = 256

-- the number of bytes of all bodies: of macros, including replaced ones, of open repeats, and of the open body
abbrev pub bytes_of : Stage → ℕ
bytes_of stage =
    let opened : ℕ = elim stage.opening [ None ↦ 0 | Some opening ↦ size_of opening.taken.body ] in
    stage.defined_bytes + bytes_held stage.left + opened

-- whether one more condition may be opened: fewer than 32 are open, including those around each open expansion
abbrev pub has_room : Stage → Bool
has_room stage = nat_lt (length stage.conditions.entered + conditions_open stage.left) most_conditions

abbrev pub fault_if : Bool → UnfoldFault → Option UnfoldFault
fault_if holds fault = if holds then Some fault else None

-- the fault of one more expansion, if 16 are open already
abbrev pub depth_fault : List RemainingItem → Option UnfoldFault
depth_fault left = fault_if (nat_le most_expansions (depth left)) TooDeep

-- the fault of closing a body, if it exceeds a limit: one macro too many, or for a repeat one expansion too many
abbrev pub closing_fault : Purpose → Stage → Option UnfoldFault
closing_fault (Defines name formals) stage =
    fault_if (is_none (macro_named stage.macros name) && nat_le most_macros (length stage.macros)) TooManyMacros
closing_fault (Repeats formals rounds) stage = depth_fault stage.left
closing_fault Drops stage = None

-- the fault of one more line in a body, if the bodies then have too many bytes; or the fault of closing the body
abbrev pub body_fault : Purpose → Stage → Bytes → Option ℕ → Option UnfoldFault
body_fault purpose stage text None = closing_fault purpose stage
body_fault purpose stage text (Some depth) = fault_if (nat_lt most_bytes (bytes_of stage + (length text + 1))) TooMuchText

-- the fault of reading a line, if it exceeds a limit; the number of lines is checked first
abbrev pub line_fault : Stage → Bytes → Option UnfoldFault
line_fault stage text =
    if nat_le most_lines stage.taken then Some TooManyLines
    else elim stage.opening [
      | None ↦ None
      | Some opening ↦ body_fault opening.purpose stage text (depth_after (nesting text) opening.taken.depth)
    ]

-- the fault of the next move, if it exceeds a limit; only reading a line can do so
abbrev pub next_fault : Stage → Option UnfoldFault
next_fault stage =
    if stage.has_ended then None
    else elim stage.left [ [] ↦ None | End mark ∷ left ↦ None | Line line ∷ left ↦ line_fault stage line.text ]

-- The columns of the labels and the body of a line. (MACRO-11 Language Reference Manual, "Source program format".)
use Rattle.std.specs.Prelude.{ℕ, ◌<◌, ◌≤◌, List, [], ◌∷◌}
use Rattle.m11_scan_statements.specs.declared.bodies.Body.{Body}
use Rattle.m11_scan_statements.specs.declared.bodies.Body.TheVariants.{Nothing, Assign, SetCounter, Operate, Words}
use Rattle.m11_scan_statements.specs.declared.labels.Label.{Label}

-- labels are in order and don't overlap, and none is empty; the first begins at this column or later, and all are within a line of this
-- many characters; without labels, the column is at most that number
abbrev pub LabelsLie : ℕ → ℕ → List Label → Type 0
LabelsLie size column [] = column ≤ size
LabelsLie size column (label ∷ labels) =
    (column ≤ label.name.start) × (label.name.start < label.name.end) × (label.name.end < label.end)
    × LabelsLie size label.end labels

-- the body begins at this column or later, and is within a line of this many characters; its name, if it has one, isn't empty. If the body
-- is nothing, the column is at most that number
abbrev pub BodyLies : ℕ → ℕ → Body → Type 0
BodyLies column size Nothing = column ≤ size
BodyLies column size (Assign assignment) =
    (column ≤ assignment.name.start) × (assignment.name.start < assignment.name.end)
    × (assignment.name.end < assignment.value) × (assignment.value ≤ size)
BodyLies column size (SetCounter value) = (column < value) × (value ≤ size)
BodyLies column size (Operate name) = (column ≤ name.start) × (name.start < name.end) × (name.end ≤ size)
BodyLies column size (Words start) = (column ≤ start) × (start < size)

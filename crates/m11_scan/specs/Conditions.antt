-- The names of conditions. (MACRO-11 Language Reference Manual, "Conditional assembly block directives".)
use Rattle.std.specs.Prelude.{List, [], ◌∷◌, codes, find, Option, option_map}
use Rattle.std.specs.Str.{bytes_eq}
use Rattle.m11_base.specs.Devices.{Bytes}
use Rattle.m11_scan.specs.declared.conditions.Condition.{Condition}
use Rattle.m11_scan.specs.declared.conditions.Condition.TheVariants.{Zero, NotZero, Positive, Negative, NotNegative, NotPositive, Defined, NotDefined, Blank, NotBlank, Identical, Different}
use Rattle.m11_scan.specs.declared.conditions.ConditionRow.{ConditionRow}

abbrev pub named : Bytes → Condition → ConditionRow
named name condition = record { name = name; condition = condition }

-- the conditions, each with its six-character name
abbrev pub condition_rows : List ConditionRow
condition_rows =
    named (codes "EQ    ") Zero
    ∷ named (codes "NE    ") NotZero
    ∷ named (codes "GT    ") Positive
    ∷ named (codes "LT    ") Negative
    ∷ named (codes "GE    ") NotNegative
    ∷ named (codes "LE    ") NotPositive
    ∷ named (codes "DF    ") Defined
    ∷ named (codes "NDF   ") NotDefined
    ∷ named (codes "B     ") Blank
    ∷ named (codes "NB    ") NotBlank
    ∷ named (codes "IDN   ") Identical
    ∷ named (codes "DIF   ") Different
    ∷ []

-- the condition with this six-character name, if there is one
abbrev pub condition_named : Bytes → Option Condition
condition_named name = option_map (λ row. row.condition) (find (λ row. bytes_eq row.name name) condition_rows)

-- Facts about a source besides its pieces: title, identification, weak names and transfer address. The last title and the last
-- identification count. (MACRO-11 Language Reference Manual, ".TITLE directive", ".IDENT directive", ".WEAK directive" and ".END
-- directive". This project's own: the transfer address is that of the first pass.)
use Rattle.std.specs.Prelude.{ℕ, true, List, [], ◌∷◌, Option, Some, None}
use Rattle.std.specs.Option.{option_or}
use Rattle.m11_base.specs.Rad50.{Name}
use Rattle.m11_unfold_rules.specs.Unfolding.{UnfoldedLine}
use Rattle.m11_scan_expressions.specs.Quantities.{Quantity}
use Rattle.m11_asm_rules.specs.Actions.{Action, Entitle, Export, Identify, Transfer}
use Rattle.m11_asm_rules.specs.Exports.{transfer}
use Rattle.m11_asm_rules.specs.Lines.{after_line, stands}
use Rattle.m11_asm_rules.specs.Meanings.{Map}
use Rattle.m11_asm_rules.specs.Operations.{action}
use Rattle.m11_asm_rules.specs.Tables.{Table}

abbrev pub last_of : {A : Type 0} → List (Option A) → Option A
last_of [] = None
last_of (found ∷ more) = option_or (last_of more) found

-- ---- title and identification

abbrev pub line_title : UnfoldedLine → Option Name
line_title given = elim (action given.is_own given.arguments given.live.line.text) [ Entitle name ↦ Some name | _ ↦ None ]

abbrev pub line_identification : UnfoldedLine → Option Name
line_identification given = elim (action given.is_own given.arguments given.live.line.text) [ Identify name ↦ name | _ ↦ None ]

-- ---- the names that a line makes weak

abbrev pub line_weak_names : UnfoldedLine → List Name
line_weak_names given = elim (action given.is_own given.arguments given.live.line.text) [ Export true names ↦ names | _ ↦ [] ]

-- ---- the transfer address: the value that the expression of the live `.END` has in the first pass

abbrev pub transfer_by : Map → Table → Action → Option Quantity
transfer_by map table action = elim action [ Transfer tokens ↦ transfer map table tokens | _ ↦ None ]

abbrev pub line_transfer : Map → Table → UnfoldedLine → Option Quantity
line_transfer map table given =
    transfer_by map (stands table given) (action given.is_own given.arguments given.live.line.text)

abbrev pub transfer_after : Map → Table → List UnfoldedLine → Option Quantity
transfer_after map table [] = None
transfer_after map table (given ∷ lines) =
    option_or (transfer_after map (after_line map table given) lines) (line_transfer map table given)

-- ---- the flags of the transfer address that depend on names, from the first pass: at the line of `.END`, and at no other

abbrev pub end_flags : ℕ → Action → ℕ
end_flags flags action = elim action [ Transfer tokens ↦ flags | _ ↦ 0 ]

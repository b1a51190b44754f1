-- The faults that a line of a pass can have: neither those of devices nor too many source lines.
use Rattle.std.proofs.Common.{◌≡◌, Bool, true, false, if◌then◌else◌, ◌||◌, nat_lt, length, Option, Some, None, IfSome, subst}
use Rattle.std.specs.Option.{option_or}
use Rattle.std.specs.Prelude.{option_map}
use Rattle.m11_asm_faults.specs.Faults.{of_unfolding}
use Rattle.m11_asm_faults.specs.declared.fault.AsmFault.{AsmFault}
use Rattle.m11_asm_faults.specs.declared.fault.AsmFault.TheVariants.{Read, Write, TooManySymbols, TooMuchSource}
use Rattle.m11_unfold_rules.specs.Acting.{act_fault}
use Rattle.m11_unfold_rules.specs.Stages.{Stage}
use Rattle.m11_unfold_rules.specs.Taking.{Live}
use Rattle.m11_unfold_rules.specs.declared.fault.UnfoldFault.{UnfoldFault}
use Rattle.m11_unfold_rules.specs.declared.fault.UnfoldFault.TheVariants as limit
use Rattle.m11_asm_rules.specs.Labels.{after_labels_in}
use Rattle.m11_asm_rules.specs.Limits as limits
use Rattle.m11_asm_rules.specs.Limits.{LimitFault, has_too_many, limit_fault, most_names}
use Rattle.m11_asm_rules.specs.Lines.{after_line}
use Rattle.m11_asm_rules.specs.Meanings.{Map}
use Rattle.m11_asm_rules.specs.SymbolUses.{symbol_uses}
use Rattle.m11_asm_rules.specs.Tables.{Table}
use Rattle.m11_asm_lines.specs.Counting.{names_counted, with_counted}
use Rattle.m11_asm_lines.specs.declared.counting.Counting.{Counting}
use Rattle.m11_asm_passes.specs.Refusals.{given_by, labels_fault, line_fault, uses_of_labels, of_limit, placing_fault}

abbrev pub IsOfPass : AsmFault → Type 0
IsOfPass Read = ⊥
IsOfPass (Write output) = ⊥
IsOfPass TooMuchSource = ⊥
IsOfPass other = Unit {0}

first_or : (first second : Option AsmFault) → IfSome first IsOfPass → IfSome second IsOfPass → IfSome (option_or first second) IsOfPass
first_or (Some fault) second one other = one
first_or None second one other = other

symbols_if : (past : Bool) → IfSome (if past then Some TooManySymbols else None) IsOfPass
symbols_if true = tt
symbols_if false = tt

unfolds : (inner : UnfoldFault) → IsOfPass (of_unfolding inner)
unfolds limit.NoMemory = tt
unfolds other = tt

acts : (inner : Option UnfoldFault) → IfSome (option_map of_unfolding inner) IsOfPass
acts (Some inner) = unfolds inner
acts None = tt

places : (limit : Option LimitFault) → IfSome (of_limit limit) IsOfPass
places (Some limits.TooManySymbols) = tt
places (Some limits.TooManySections) = tt
places None = tt

pub line_fault_is_of_pass : (map_ : Map) (table : Table) (counting : Counting) (live : Live) (stage : Stage) (fault : AsmFault)
    → line_fault map_ table counting live stage ≡ Some fault → IsOfPass fault
line_fault_is_of_pass map_ table counting live stage fault is =
    let placing : Option AsmFault = placing_fault map_ table counting (given_by table live stage) in
    let acting : Option AsmFault = option_map of_unfolding (act_fault stage live.line.text) in
    let P : Option AsmFault → Type 0 = λ f. IfSome f IsOfPass in
    subst P is
    (first_or (labels_fault counting table live.line.text) (option_or acting placing)
    (symbols_if (nat_lt most_names (length (names_counted (with_counted (uses_of_labels live.line.text) counting)))
    || has_too_many (after_labels_in table live.line.text)))
    (first_or acting placing (acts (act_fault stage live.line.text))
    (places (limit_fault (names_counted (with_counted (symbol_uses table (given_by table live stage)) counting))
    (after_line map_ table (given_by table live stage))))))

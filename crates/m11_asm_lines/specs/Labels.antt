-- The flags and the limits of a line's labels. (MACRO-11 Language Reference Manual, "Label field".)
use Rattle.std.specs.Prelude.{◌≡◌, ◌≢◌, ◌≤◌, ℕ, false, List, [], ◌∷◌, ◌++◌, length}
use Rattle.std.specs.List.{flat_map}
use Rattle.m11_base.specs.Devices.{Bytes}
use Rattle.m11_base.specs.Rad50.{Name}
use Rattle.m11_scan.specs.Views.{bits_of}
use Rattle.m11_scan_statements.specs.declared.labels.Label.{Label}
use Rattle.m11_scan_statements.specs.declared.labels.LabelKind.TheVariants.{Outside}
use Rattle.m11_asm_rules.specs.Labels.{with_labels}
use Rattle.m11_asm_rules.specs.Limits.{has_too_many, most_names}
use Rattle.m11_asm_rules.specs.SymbolUses.{label_uses, named}
use Rattle.m11_asm_rules.specs.Tables.{Table}
use Rattle.m11_asm_lines.specs.UsedSymbols.{UsedNames, with_all}
use Rattle.m11_asm_lines.specs.declared.labels.LabelFlags.{LabelFlags}

-- these are the flags of labels: those of labels that were defined before, and those of labels that have moved
pub record AreFlags (flags : LabelFlags) (doubly_defined moved : ℕ) : Type 0 where
  pub doubles : bits_of flags.doubly_defined ≡ doubly_defined
  pub moves : bits_of flags.moved ≡ moved

-- memory is refused for one of the labels of a line, which grows something, and `Fits` holds of the labels up to and including that one
pub record FitsUpToLabel (labels : List Label) (Grows : Label → Type 0) (Fits : List Label → Type 0) : Type 0 where
  pub done : List Label
  pub label : Label
  pub rest : List Label
  pub are : labels ≡ done ++ label ∷ rest
  pub grows : Grows label
  pub fits : Fits (done ++ label ∷ [])

-- a label adds a name to those that are counted
abbrev pub HasName : Bytes → Label → Type 0
HasName line label = (name : Name) × (label_uses line label ≡ named name ∷ [])

-- memory is refused for the name of a label, and the names counted up to and including that one are within their limit
abbrev pub FitsUpToName : Bytes → List Label → UsedNames → Type 0
FitsUpToName line labels used =
    FitsUpToLabel labels (HasName line) (λ some. length (with_all (flat_map (label_uses line) some) used).names ≤ most_names)

-- a label can define something: its number, if it has one, is in range
abbrev pub Defines : Label → Type 0
Defines label = label.kind ≢ Outside

-- memory is refused for a label, and the names and local symbols defined up to and including that one are within their limits
abbrev pub FitsUpToDefined : Bytes → List Label → Table → Type 0
FitsUpToDefined line labels table = FitsUpToLabel labels Defines (λ some. has_too_many (with_labels line table some) ≡ false)

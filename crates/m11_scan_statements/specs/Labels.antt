-- The labels of a line. (MACRO-11 Language Reference Manual, "Label field" and "Local symbols". That a colon must directly follow the name,
-- that `.` can't be a label, and the treatment of a number outside 1 to 65535 are this project's own choices.)
use Rattle.std.specs.Prelude.{ℕ, Bool, false, ◌&&◌, ◌==◌, nat_le, if◌then◌else◌, List, [], ◌∷◌, take, Option, Some, None, option_map}
use Rattle.std.specs.List.{prefix_len}
use Rattle.m11_base.specs.Devices.{Bytes}
use Rattle.m11_scan.specs.Classes.{is_digit}
use Rattle.m11_scan.specs.declared.radix.Radix.TheVariants.{Decimal}
use Rattle.m11_scan.specs.declared.sort.Sort.{Sort}
use Rattle.m11_scan.specs.declared.sort.Sort.TheVariants.{Name, LocalSymbol, Colon, TwoColons}
use Rattle.m11_scan.specs.Cutting.{Lexeme, tokens_of}
use Rattle.m11_scan.specs.Numbers.{number_of}
use Rattle.m11_scan_statements.specs.declared.labels.Label.{Label}
use Rattle.m11_scan_statements.specs.declared.labels.LabelKind.{LabelKind}
use Rattle.m11_scan_statements.specs.declared.labels.LabelKind.TheVariants.{Ordinary, Global, Local, Outside}

-- whether a name is the location counter, which can't be a label
abbrev pub is_counter : Bytes → Bool
is_counter (byte ∷ []) = byte == 0o56
is_counter _ = false

-- the kind of a label that is a local symbol with this text, digits and a `$`: local if its number is 1 to 65535, otherwise outside
abbrev pub numbered : Bytes → LabelKind
numbered text =
    let number = number_of Decimal (take (prefix_len is_digit text) text) in
    if nat_le 1 number && nat_le number 65535 then Local number else Outside

-- the kind of the label that two tokens form: one of the first sort, with this text, and one of the second sort; none if they form no
-- label. After a local symbol `::` counts as `:`
abbrev pub kind_of : Sort → Sort → Bytes → Option LabelKind
kind_of Name Colon text = if is_counter text then None else Some Ordinary
kind_of Name TwoColons text = if is_counter text then None else Some Global
kind_of LocalSymbol Colon text = Some (numbered text)
kind_of LocalSymbol TwoColons text = Some (numbered text)
kind_of _ _ text = None

-- the label that a token and the next one form: a name other than `.` or a local symbol, directly followed by `:` or `::`; otherwise none
abbrev pub label_of : Lexeme → Lexeme → Option Label
label_of name colon =
    if name.end == colon.start
    then option_map (λ kind. record { kind = kind; name = record { start = name.start; end = name.end }; end = colon.end })
    (kind_of name.sort colon.sort name.text)
    else None

-- the labels at the beginning of these tokens
abbrev pub labels_in : List Lexeme → List Label
labels_in (name ∷ (colon ∷ tokens)) = elim (label_of name colon) [ None ↦ [] | Some label ↦ label ∷ labels_in tokens ]
labels_in _ = []

-- the labels of a line
abbrev pub labels_at : Bytes → List Label
labels_at line = labels_in (tokens_of line)

-- the column after the last of these labels, or this column if there are none
abbrev pub end_of : ℕ → List Label → ℕ
end_of column [] = column
end_of column (label ∷ labels) = end_of label.end labels

-- the column after a line's labels; 0 if it has none
abbrev pub labels_end : Bytes → ℕ
labels_end line = end_of 0 (labels_at line)

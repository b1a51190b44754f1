-- The written form of a line: labels, and then an assignment, a setting of the location counter, an operator, words or nothing.
-- (MACRO-11 Language Reference Manual, "Label field", "Operator field" and "Direct assignment statements".)
use Rattle.std.specs.Prelude.{◌≡◌, Bool, true, false, List, [], ◌∷◌}
use Rattle.m11_base.specs.Devices.{Bytes}
use Rattle.m11_scan.specs.Cutting.{Lexeme}
use Rattle.m11_scan.specs.Skipped.{skipped_between}
use Rattle.m11_scan.specs.declared.sort.Sort.{Sort}
use Rattle.m11_scan.specs.declared.sort.Sort.TheVariants.{Name, LocalSymbol, Colon, TwoColons, Equals, TwoEquals}
use Rattle.m11_scan_statements.specs.Labels.{is_counter, numbered}
use Rattle.m11_scan_statements.specs.declared.bodies.Body.{Body}
use Rattle.m11_scan_statements.specs.declared.bodies.Body.TheVariants.{Nothing, Assign, SetCounter, Operate, Words}
use Rattle.m11_scan_statements.specs.declared.labels.Label.{Label}
use Rattle.m11_scan_statements.specs.declared.labels.LabelKind.{LabelKind}
use Rattle.m11_scan_statements.specs.declared.labels.LabelKind.TheVariants.{Ordinary, Global}

-- the token is a name that a line can define; `.` isn't one
pub record IsNamed (token : Lexeme) : Type 0 where
  pub sort : token.sort ≡ Name
  pub text : is_counter token.text ≡ false

-- the token is the name `.`, which is the location counter
pub record IsPoint (token : Lexeme) : Type 0 where
  pub sort : token.sort ≡ Name
  pub text : is_counter token.text ≡ true

-- ---- labels

-- `::` if the flag is true, otherwise `:`; after a name, `::` makes that name global
abbrev pub colon_of : Bool → Sort
colon_of false = Colon
colon_of true = TwoColons

abbrev pub ordinary_kind : Bool → LabelKind
ordinary_kind false = Ordinary
ordinary_kind true = Global

-- the tokens are a label of this kind: a name or a local symbol, and one or two colons directly after it
pub data IsLabel (name colon : Lexeme) : LabelKind → Type 0 where
  NamedLabel : (is_global : Bool) → name.end ≡ colon.start → IsNamed name → colon.sort ≡ colon_of is_global
      → IsLabel name colon (ordinary_kind is_global)
  LocalLabel : (has_two : Bool) → name.end ≡ colon.start → name.sort ≡ LocalSymbol → colon.sort ≡ colon_of has_two
      → IsLabel name colon (numbered name.text)

-- the tokens don't begin with a label
abbrev pub BeginUnlabelled : List Lexeme → Type 0
BeginUnlabelled [] = Unit {0}
BeginUnlabelled (name ∷ []) = Unit {0}
BeginUnlabelled (name ∷ (colon ∷ tokens)) = (kind : LabelKind) → IsLabel name colon kind → ⊥

abbrev pub label_with : Lexeme → Lexeme → LabelKind → Label
label_with name colon kind =
    record { kind = kind; name = record { start = name.start; end = name.end }; end = colon.end }

-- these are all the labels with which the tokens begin
pub data AreLabelled : List Lexeme → List Label → Type 0 where
  Unlabelled : (tokens : List Lexeme) → BeginUnlabelled tokens → AreLabelled tokens []
  Labelled : (name colon : Lexeme) (tokens : List Lexeme) (kind : LabelKind) (labels : List Label) → IsLabel name colon kind
      → AreLabelled tokens labels → AreLabelled (name ∷ (colon ∷ tokens)) (label_with name colon kind ∷ labels)

-- ---- after the labels

-- `==`, which makes the name global, if the flag is true; otherwise `=`
abbrev pub equals_of : Bool → Sort
equals_of false = Equals
equals_of true = TwoEquals

-- a token follows another one with nothing but blanks between them
abbrev pub IsBehind : Bytes → Lexeme → Lexeme → Type 0
IsBehind line first second = skipped_between line first.end second.start ≡ false

-- neither `=` nor `==` follows a token
abbrev pub IsUnassigned : Bytes → Lexeme → List Lexeme → Type 0
IsUnassigned line first [] = Unit {0}
IsUnassigned line first (second ∷ tokens) =
    (is_global : Bool) → IsBehind line first second → second.sort ≡ equals_of is_global → ⊥

-- no `=` follows a token
abbrev pub IsUnset : Bytes → Lexeme → List Lexeme → Type 0
IsUnset line first [] = Unit {0}
IsUnset line first (second ∷ tokens) = IsBehind line first second → second.sort ≡ Equals → ⊥

-- the tokens after the labels of a line have this meaning
pub data Says (line : Bytes) : List Lexeme → Body → Type 0 where
  SaysNothing : Says line [] Nothing
  -- a name before `=` or `==` is assigned a value
  SaysAssignment : (name equals : Lexeme) (tokens : List Lexeme) (is_global : Bool) → IsNamed name → IsBehind line name equals
      → equals.sort ≡ equals_of is_global
      → Says line (name ∷ (equals ∷ tokens))
      (Assign (record { name = record { start = name.start; end = name.end }; is_global = is_global; value = equals.end }))
  -- `.` before `=` sets the location counter
  SaysCounter : (point equals : Lexeme) (tokens : List Lexeme) → IsPoint point → IsBehind line point equals → equals.sort ≡ Equals
      → Says line (point ∷ (equals ∷ tokens)) (SetCounter equals.end)
  -- any other name is an operator
  SaysOperator : (name : Lexeme) (tokens : List Lexeme) → IsNamed name → IsUnassigned line name tokens
      → Says line (name ∷ tokens) (Operate (record { start = name.start; end = name.end }))
  -- any other `.` begins a list of words
  SaysPoint : (point : Lexeme) (tokens : List Lexeme) → IsPoint point → IsUnset line point tokens
      → Says line (point ∷ tokens) (Words point.start)
  -- a token that isn't a name begins a list of words
  SaysWords : (first : Lexeme) (tokens : List Lexeme) → (first.sort ≡ Name → ⊥) → Says line (first ∷ tokens) (Words first.start)

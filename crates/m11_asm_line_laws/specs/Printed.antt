-- Statements as trees of texts, without columns: a line read as such a tree, and the lines in which a tree is written. (MACRO-11 Language
-- Reference Manual, "Source program format", "Label field", "Operator field" and "Direct assignment statements".)
use Rattle.std.specs.Prelude.{◌≡◌, ℕ, ◌<◌, Bool, true, false, not, ◌&&◌, ◌||◌, ◌==◌, if◌then◌else◌, List, [], ◌∷◌, ◌++◌, length, map, drop, codes, Option, Some, None}
use Rattle.std.specs.Bool.{IsTrue}
use Rattle.std.specs.List.{AllByRecursion, list_all}
use Rattle.m11_base.specs.Devices.{Bytes}
use Rattle.m11_base.specs.NameCharacters.{is_name_character, six_of}
use Rattle.m11_base.specs.Rad50.{name_of}
use Rattle.m11_scan.specs.Classes.{is_blank, is_digit}
use Rattle.m11_scan.specs.Cutting.{text_between}
use Rattle.m11_scan.specs.Pieces.{first_piece}
use Rattle.m11_scan.specs.declared.sort.Form.{Form}
use Rattle.m11_scan.specs.declared.sort.Form.TheVariants.{Cut}
use Rattle.m11_scan.specs.declared.sort.Sort.TheVariants.{Name, LocalSymbol, Colon, TwoColons, Equals, TwoEquals}
use Rattle.m11_scan_expressions.specs.Tokens.{expression}
use Rattle.m11_scan_statements.specs.Labels.{is_counter, labels_at, numbered}
use Rattle.m11_scan_statements.specs.Statements.{body_of}
use Rattle.m11_scan_statements.specs.declared.bodies.Body.{Body}
use Rattle.m11_scan_statements.specs.declared.bodies.Body.TheVariants as bodies
use Rattle.m11_scan_statements.specs.declared.labels.Label.{Label}
use Rattle.m11_scan_statements.specs.declared.labels.LabelKind.{LabelKind}
use Rattle.m11_scan_statements.specs.declared.labels.LabelKind.TheVariants.{Global}
use Rattle.m11_asm_rules.specs.Actions.{Assign, NoAction, Operation, SetCounter, does}
use Rattle.m11_asm_rules.specs.Assigning.{after_expression}
use Rattle.m11_asm_rules.specs.Operations.{directive}
use Rattle.m11_asm_rules.specs.Operators.{operator_named}
use Rattle.m11_asm_rules.specs.Storage.{words}
use Rattle.m11_asm_rules.specs.declared.operators.Operator.TheVariants as operators
use Rattle.m11_asm_line_laws.specs.Written.{ordinary_kind}

-- a label: its characters without the colons, and its kind
pub record LabelTree : Type 0 where
  pub text : Bytes
  pub kind : LabelKind

-- what follows the labels of a statement
pub data BodyTree : Type 0 where
  -- nothing, or only a comment
  Nothing : BodyTree
  -- an assignment: the name, whether it becomes global, and the text after the `=` or `==`
  Assignment : Bytes → Bool → Bytes → BodyTree
  -- a setting of the location counter: the text after the `=`
  Counter : Bytes → BodyTree
  -- an operator: its name, and the text after it
  Operator : Bytes → Bytes → BodyTree
  -- a list of words, without an operator
  Words : Bytes → BodyTree

pub record StatementTree : Type 0 where
  pub labels : List LabelTree
  pub body : BodyTree

-- ---- a line, read as a tree

abbrev pub label_tree : Bytes → Label → LabelTree
label_tree line label = record { text = text_between line label.name.start label.name.end; kind = label.kind }

abbrev pub body_tree : Bytes → Body → BodyTree
body_tree line bodies.Nothing = Nothing
body_tree line (bodies.Assign made) =
    Assignment (text_between line made.name.start made.name.end) made.is_global (drop made.value line)
body_tree line (bodies.SetCounter value) = Counter (drop value line)
body_tree line (bodies.Operate name) = Operator (text_between line name.start name.end) (drop name.end line)
body_tree line (bodies.Words start) = Words (drop start line)

-- the statement of a line, without its columns
abbrev pub tree_of : Bytes → StatementTree
tree_of line = record { labels = map (label_tree line) (labels_at line); body = body_tree line (body_of line) }

-- ---- a tree, written as a line

-- blanks and tabs, or nothing
abbrev pub AreBlanks : Bytes → Type 0
AreBlanks text = AllByRecursion (λ byte. IsTrue (is_blank byte)) text

-- whether a text is a name: characters of names, the first of which isn't a digit. `.` is such a text, but no name
abbrev pub is_name_text : Bytes → Bool
is_name_text [] = false
is_name_text (byte ∷ text) = not (is_digit byte) && list_all is_name_character (byte ∷ text)

pub record IsNameText (text : Bytes) : Type 0 where
  pub named : is_name_text text ≡ true
  pub other : is_counter text ≡ false

-- whether a text begins with this character
abbrev pub begins_with : ℕ → Bytes → Bool
begins_with byte [] = false
begins_with byte (first ∷ text) = first == byte

-- `::` if the flag is true, otherwise `:`
abbrev pub colons : Bool → Bytes
colons false = 0o72 ∷ []
colons true = 0o72 ∷ 0o72 ∷ []

-- `==` if the flag is true, otherwise `=`
abbrev pub equals : Bool → Bytes
equals false = 0o75 ∷ []
equals true = 0o75 ∷ 0o75 ∷ []

-- a label is written so: a name, or digits and a `$`, and then one or two colons. Two colons make a name global
pub data IsWrittenLabel : LabelTree → Bytes → Type 0 where
  WrittenName : (name : Bytes) (is_global : Bool) → IsNameText name
      → IsWrittenLabel (record { text = name; kind = ordinary_kind is_global }) (name ++ colons is_global)
  WrittenNumber : (digits : Bytes) (has_two : Bool) → 0 < length digits → list_all is_digit digits ≡ true
      → IsWrittenLabel (record { text = digits ++ 0o44 ∷ []; kind = numbered (digits ++ 0o44 ∷ []) })
      ((digits ++ 0o44 ∷ []) ++ colons has_two)

-- whether a piece can begin the arguments of an operator: a token other than `=` and `==`
abbrev pub opens_arguments : Form → Bool
opens_arguments (Cut Equals) = false
opens_arguments (Cut TwoEquals) = false
opens_arguments (Cut sort) = true
opens_arguments form = false

-- whether a piece directly after a name leaves that name an operator: it can begin arguments, and isn't `:` or `::`
abbrev pub leaves_operator : Form → Bool
leaves_operator (Cut Colon) = false
leaves_operator (Cut TwoColons) = false
leaves_operator form = opens_arguments form

-- whether a text, after any blanks and tabs, is empty, a comment, or begins with such a piece
abbrev pub are_arguments : Bytes → Bool
are_arguments [] = true
are_arguments (byte ∷ text) =
    if is_blank byte then are_arguments text else byte == 0o73 || opens_arguments (first_piece (byte ∷ text)).form

-- whether a text can follow the name of an operator
abbrev pub follows_operator : Bytes → Bool
follows_operator [] = true
follows_operator (byte ∷ text) =
    if is_blank byte then are_arguments text
    else not (is_name_character byte) && (byte == 0o73 || leaves_operator (first_piece (byte ∷ text)).form)

-- whether a token can begin a list of words: it is no name and no local symbol, since these may begin other statements
abbrev pub opens_words : Form → Bool
opens_words (Cut Name) = false
opens_words (Cut LocalSymbol) = false
opens_words (Cut sort) = true
opens_words form = false

-- what follows the labels is written so
pub data IsWrittenBody : BodyTree → Bytes → Type 0 where
  WrittenNothing : IsWrittenBody Nothing []
  -- after a `;`, any text is a comment
  WrittenComment : (text : Bytes) → IsWrittenBody Nothing (0o73 ∷ text)
  WrittenAssignment : (name blanks : Bytes) (is_global : Bool) (value : Bytes) → IsNameText name → AreBlanks blanks
      → begins_with 0o75 value ≡ false
      → IsWrittenBody (Assignment name is_global value) (name ++ (blanks ++ (equals is_global ++ value)))
  WrittenCounter : (blanks value : Bytes) → AreBlanks blanks → begins_with 0o75 value ≡ false
      → IsWrittenBody (Counter value) (0o56 ∷ (blanks ++ (0o75 ∷ value)))
  WrittenOperator : (name arguments : Bytes) → IsNameText name → follows_operator arguments ≡ true
      → IsWrittenBody (Operator name arguments) (name ++ arguments)
  WrittenWords : (text : Bytes) → 0 < length text → opens_words (first_piece text).form ≡ true → IsWrittenBody (Words text) text

-- a statement is written so: its labels and its body, with any blanks and tabs before each
pub data IsWritten : StatementTree → Bytes → Type 0 where
  WithLabel : (blanks written rest : Bytes) (label : LabelTree) (statement : StatementTree) → AreBlanks blanks
      → IsWrittenLabel label written → begins_with 0o72 rest ≡ false → IsWritten statement rest
      → IsWritten (record { labels = label ∷ statement.labels; body = statement.body }) (blanks ++ (written ++ rest))
  WithBody : (blanks text : Bytes) (body : BodyTree) → AreBlanks blanks → IsWrittenBody body text
      → IsWritten (record { labels = []; body = body }) (blanks ++ text)

-- ---- what a statement does

-- what the body of a statement does, by its texts alone; `arguments` is the number of actuals of the innermost macro call around the
-- statement, None if there is no such call. None for an instruction: the forms of its operands depend on which names are registers
abbrev pub tree_operation : Option ℕ → BodyTree → Option Operation
tree_operation arguments Nothing = Some (does NoAction 0)
tree_operation arguments (Assignment name is_global value) =
    Some (does (Assign (name_of (six_of name)) is_global (expression value 0)) (after_expression value 0))
tree_operation arguments (Counter value) = Some (does (SetCounter (expression value 0)) (after_expression value 0))
tree_operation arguments (Operator name text) = elim (operator_named (six_of name)) [
  | Some (operators.Directive found) ↦ Some (directive arguments text 0 found)
  | Some (operators.Instruction operation) ↦ None
  | None ↦ Some (words (name ++ text) 0)
]
tree_operation arguments (Words text) = Some (words text 0)

-- ---- an example

-- the statement of the line `L:: MOV (R1)+,@-(R2) ;X`
abbrev pub example_tree : StatementTree
example_tree = record {
  labels = record { text = codes "L"; kind = Global } ∷ [];
  body = Operator (codes "MOV") (codes " (R1)+,@-(R2) ;X");
}

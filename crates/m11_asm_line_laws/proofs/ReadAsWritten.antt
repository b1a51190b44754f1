-- A line is read as it is written.
use Rattle.std.proofs.Common.{◌≡◌, ℕ, Bool, true, false, not, List, [], ◌∷◌, Option, Some, None, ◌⊎◌, inl, inr, refl, sym, ap, ◌∙◌, subst, eq-eqb}
use Rattle.std.specs.Prelude.{◌==◌, if◌then◌else◌, option_map, unwrap_or}
use Rattle.std.proofs.lemmas.Bool.{eqb-true}
use Rattle.std.proofs.lemmas.Option.{none-some}
use Rattle.m11_base.specs.Devices.{Bytes}
use Rattle.m11_scan.specs.Cutting.{Lexeme, tokens_from, tokens_of}
use Rattle.m11_scan.specs.Skipped.{skipped_between}
use Rattle.m11_scan.specs.declared.sort.Sort.{Sort}
use Rattle.m11_scan.specs.declared.sort.Sort.TheVariants.{Name, LocalSymbol, Colon, TwoColons, Equals, TwoEquals}
use Rattle.m11_scan_statements.specs.Bodies.{assignment_to, body_in, operation, set_by}
use Rattle.m11_scan_statements.specs.Labels.{is_counter, kind_of, label_of, labels_at, labels_end, labels_in, numbered}
use Rattle.m11_scan_statements.specs.Listed.{span_of}
use Rattle.m11_scan_statements.specs.Statements.{body_of}
use Rattle.m11_scan_statements.specs.declared.bodies.Body.{Body}
use Rattle.m11_scan_statements.specs.declared.bodies.Body.TheVariants.{Nothing, Assign, SetCounter, Operate, Words}
use Rattle.m11_scan_statements.specs.declared.labels.Label.{Label}
use Rattle.m11_scan_statements.specs.declared.labels.LabelKind.{LabelKind}
use Rattle.m11_scan_statements.specs.declared.labels.LabelKind.TheVariants.{Global, Ordinary}
use Rattle.m11_asm_line_laws.specs.Written.{AreLabelled, IsBehind, IsLabel, IsNamed, IsPoint, IsUnassigned, IsUnset, Says, colon_of, equals_of, label_with, ordinary_kind}
use Rattle.m11_asm_line_laws.specs.Written.AreLabelled.{Labelled, Unlabelled}
use Rattle.m11_asm_line_laws.specs.Written.IsLabel.{LocalLabel, NamedLabel}
use Rattle.m11_asm_line_laws.specs.Written.Says.{SaysAssignment, SaysCounter, SaysNothing, SaysOperator, SaysPoint, SaysWords}

-- ---- labels

module _ (name colon : Lexeme) where
  -- the label of this kind, if there is one
  abbrev labelled : Option LabelKind → Option Label
  labelled found = option_map (λ kind. label_with name colon kind) found

  with_kind : (is_global : Bool) → is_counter name.text ≡ false
      → labelled (kind_of Name (colon_of is_global) name.text) ≡ Some (label_with name colon (ordinary_kind is_global))
  with_kind true other = ap (λ (b : Bool). labelled (if b then None else Some Global)) other
  with_kind false other = ap (λ (b : Bool). labelled (if b then None else Some Ordinary)) other

  with_number : (has_two : Bool) → labelled (kind_of LocalSymbol (colon_of has_two) name.text)
      ≡ Some (label_with name colon (numbered name.text))
  with_number true = refl
  with_number false = refl

  directly : name.end ≡ colon.start → label_of name colon ≡ labelled (kind_of name.sort colon.sort name.text)
  directly direct =
      ap (λ (b : Bool). if b then labelled (kind_of name.sort colon.sort name.text) else None)
      (eq-eqb name.end colon.start direct)

  read : (kind : LabelKind) → IsLabel name colon kind → label_of name colon ≡ Some (label_with name colon kind)
  read _ (NamedLabel is_global direct named is) =
      directly direct
      ∙ ap (λ (s : Sort). labelled (kind_of s colon.sort name.text)) named.sort
      ∙ ap (λ (s : Sort). labelled (kind_of Name s name.text)) is
      ∙ with_kind is_global named.text
  read _ (LocalLabel has_two direct local is) =
      directly direct
      ∙ ap (λ (s : Sort). labelled (kind_of s colon.sort name.text)) local
      ∙ ap (λ (s : Sort). labelled (kind_of LocalSymbol s name.text)) is
      ∙ with_number has_two

  -- a label is read, or there is none
  abbrev ReadOr : Option LabelKind → Type 0
  ReadOr found = ((kind : LabelKind) × IsLabel name colon kind) ⊎ (labelled found ≡ None)

  by_text : (is_point : Bool) (kind : LabelKind) → is_counter name.text ≡ is_point
      → (is_counter name.text ≡ false → IsLabel name colon kind) → ReadOr (if is_point then None else Some kind)
  by_text true kind text label = inr refl
  by_text false kind text label = inl (kind, label text)

  by_colon : (sort : Sort) → colon.sort ≡ sort → name.end ≡ colon.start → name.sort ≡ Name → ReadOr (kind_of Name sort name.text)
  by_colon Colon is direct named = by_text (is_counter name.text) Ordinary refl
      (λ text. NamedLabel false direct (record { sort = named; text = text }) is)
  by_colon TwoColons is direct named = by_text (is_counter name.text) Global refl
      (λ text. NamedLabel true direct (record { sort = named; text = text }) is)
  by_colon _ is direct named = inr refl

  by_local : (sort : Sort) → colon.sort ≡ sort → name.end ≡ colon.start → name.sort ≡ LocalSymbol
      → ReadOr (kind_of LocalSymbol sort name.text)
  by_local Colon is direct local = inl (numbered name.text, LocalLabel false direct local is)
  by_local TwoColons is direct local = inl (numbered name.text, LocalLabel true direct local is)
  by_local _ is direct local = inr refl

  by_sort : (sort : Sort) → name.sort ≡ sort → name.end ≡ colon.start → ReadOr (kind_of sort colon.sort name.text)
  by_sort Name is direct = by_colon colon.sort refl direct is
  by_sort LocalSymbol is direct = by_local colon.sort refl direct is
  by_sort _ is direct = inr refl

  by_next : (is_next : Bool) → (name.end == colon.start) ≡ is_next
      → ((kind : LabelKind) × IsLabel name colon kind)
      ⊎ ((if is_next then labelled (kind_of name.sort colon.sort name.text) else None) ≡ None)
  by_next true is = by_sort name.sort refl (eqb-true name.end colon.start is)
  by_next false is = inr refl

  read_or_none : ((kind : LabelKind) × IsLabel name colon kind) ⊎ (label_of name colon ≡ None)
  read_or_none = by_next (name.end == colon.start) refl

abbrev before_labels : Option Label → List Label → List Label
before_labels found labels = elim found [ None ↦ [] | Some label ↦ label ∷ labels ]

read_labels : (tokens : List Lexeme) (labels : List Label) → AreLabelled tokens labels → labels_in tokens ≡ labels
read_labels _ _ (Unlabelled [] none) = refl
read_labels _ _ (Unlabelled (name ∷ []) none) = refl
read_labels _ _ (Unlabelled (name ∷ (colon ∷ tokens)) none) = elim (read_or_none name colon) [
  | inl (kind, is) ↦ absurd (none kind is)
  | inr e ↦ ap (λ (l : Option Label). before_labels l (labels_in tokens)) e
]
read_labels _ _ (Labelled name colon tokens kind labels is rest) =
    ap (λ (l : Option Label). before_labels l (labels_in tokens)) (read name colon kind is)
    ∙ ap (λ (ls : List Label). label_with name colon kind ∷ ls) (read_labels tokens labels rest)

unlabelled : (name colon : Lexeme) → label_of name colon ≡ None → (kind : LabelKind) → IsLabel name colon kind → ⊥
unlabelled name colon none kind is = absurd (none-some (label_with name colon kind) (sym none ∙ read name colon kind is))

some_labels : (tokens : List Lexeme) → (labels : List Label) × AreLabelled tokens labels
some_labels [] = ([], Unlabelled [] tt)
some_labels (name ∷ []) = ([], Unlabelled (name ∷ []) tt)
some_labels (name ∷ (colon ∷ tokens)) = elim (read_or_none name colon) [
  | inl (kind, is) ↦
      let rest : (labels : List Label) × AreLabelled tokens labels = some_labels tokens in
      (label_with name colon kind ∷ rest.0, Labelled name colon tokens kind rest.0 is rest.1)
  | inr e ↦ ([], Unlabelled (name ∷ (colon ∷ tokens)) (unlabelled name colon e))
]

pub labels-written : (line : Bytes) (labels : List Label) → AreLabelled (tokens_of line) labels → labels_at line ≡ labels
labels-written line labels are = read_labels (tokens_of line) labels are

pub labels-exists : (line : Bytes) → AreLabelled (tokens_of line) (labels_at line)
labels-exists line =
    let found = some_labels (tokens_of line) in
    subst (AreLabelled (tokens_of line)) (sym (read_labels (tokens_of line) found.0 found.1)) found.1

-- ---- after the labels

-- whether a token of this sort and text is a name other than `.`
abbrev names : Sort → List ℕ → Bool
names sort text = elim sort [ Name ↦ not (is_counter text) | _ ↦ false ]

-- a name is an operator, and nothing else
named_operation : (name : Lexeme) → IsNamed name → operation name ≡ Operate (span_of name)
named_operation name named =
    ap (λ (s : Sort). if names s name.text then Operate (span_of name) else Words name.start) named.sort
    ∙ ap (λ (b : Bool). if not b then Operate (span_of name) else Words name.start) named.text

point_operation : (point : Lexeme) → IsPoint point → operation point ≡ Words point.start
point_operation point is =
    ap (λ (s : Sort). if names s point.text then Operate (span_of point) else Words point.start) is.sort
    ∙ ap (λ (b : Bool). if not b then Operate (span_of point) else Words point.start) is.text

no_name : (sort : Sort) (text : List ℕ) → (sort ≡ Name → ⊥) → names sort text ≡ false
no_name Name text other = absurd (other refl)
no_name _ text other = refl

other_operation : (first : Lexeme) → (first.sort ≡ Name → ⊥) → operation first ≡ Words first.start
other_operation first other =
    ap (λ (b : Bool). if b then Operate (span_of first) else Words first.start) (no_name first.sort first.text other)

abbrev assign_to : Lexeme → Bool → ℕ → Body
assign_to name is_global value = Assign (record { name = span_of name; is_global = is_global; value = value })

-- a token of this sort is `=` or `==`, or there is no assignment
abbrev SignOr : Lexeme → Lexeme → Sort → Type 0
SignOr name equals sort =
    ((is_global : Bool) × (sort ≡ equals_of is_global)) ⊎ (set_by Name sort name equals.end ≡ None)

sign_or : (name equals : Lexeme) (sort : Sort) → SignOr name equals sort
sign_or name equals Equals = inl (false, refl)
sign_or name equals TwoEquals = inl (true, refl)
sign_or name equals _ = inr refl

equals_or : (point equals : Lexeme) → IsPoint point → (sort : Sort) → (sort ≡ Equals) ⊎ (set_by Name sort point equals.end ≡ None)
equals_or point equals is Equals = inl refl
equals_or point equals is TwoEquals = inr (ap (λ (b : Bool). if b then None else Some (assign_to point true equals.end)) is.text)
equals_or point equals is _ = inr refl

module _ (line : List ℕ) (first second : Lexeme) (tokens : List Lexeme) where
  abbrev assigned : Option Body
  assigned = set_by first.sort second.sort first second.end

  abbrev if_apart : Bool → Option Body
  if_apart is_apart = if is_apart then None else assigned

  behind : IsBehind line first second → assignment_to line first (second ∷ tokens) ≡ assigned
  behind is = ap if_apart is

  name_assigned : first.sort ≡ Name → assigned ≡ set_by Name second.sort first second.end
  name_assigned is = ap (λ (s : Sort). set_by s second.sort first second.end) is

  -- without an assigning token there is no assignment
  unassigned_by : (is_apart : Bool) → skipped_between line first.end second.start ≡ is_apart
      → (IsBehind line first second → assigned ≡ None) → if_apart is_apart ≡ None
  unassigned_by true is none = refl
  unassigned_by false is none = none is

  none_assigned : (IsBehind line first second → assigned ≡ None)
      → assignment_to line first (second ∷ tokens) ≡ None
  none_assigned none = unassigned_by (skipped_between line first.end second.start) refl none

unassigned : (line : List ℕ) (first : Lexeme) (tokens : List Lexeme) → IsNamed first → IsUnassigned line first tokens
    → assignment_to line first tokens ≡ None
unassigned line first [] named unset = refl
unassigned line first (second ∷ tokens) named unset =
    none_assigned line first second tokens (λ is. elim (sign_or first second second.sort) [
      | inl (is_global, sign) ↦ absurd (unset is_global is sign)
      | inr none ↦ name_assigned line first second tokens named.sort ∙ none
    ])

unset : (line : List ℕ) (first : Lexeme) (tokens : List Lexeme) → IsPoint first → IsUnset line first tokens
    → assignment_to line first tokens ≡ None
unset line first [] point none = refl
unset line first (second ∷ tokens) point none =
    none_assigned line first second tokens (λ is. elim (equals_or first second point second.sort) [
      | inl sign ↦ absurd (none is sign)
      | inr same ↦ name_assigned line first second tokens point.sort ∙ same
    ])

other_set : (sort sign : Sort) (first : Lexeme) (value : ℕ) → (sort ≡ Name → ⊥) → set_by sort sign first value ≡ None
other_set Name sign first value other = absurd (other refl)
other_set _ sign first value other = refl

other_assigned : (line : List ℕ) (first : Lexeme) (tokens : List Lexeme) → (first.sort ≡ Name → ⊥)
    → assignment_to line first tokens ≡ None
other_assigned line first [] other = refl
other_assigned line first (second ∷ tokens) other =
    none_assigned line first second tokens (λ is. other_set first.sort second.sort first second.end other)

assigned_to : (name : Lexeme) (value : ℕ) (is_global : Bool) → IsNamed name
    → set_by Name (equals_of is_global) name value ≡ Some (assign_to name is_global value)
assigned_to name value true named = ap (λ (b : Bool). if b then None else Some (assign_to name true value)) named.text
assigned_to name value false named =
    ap (λ (b : Bool). if b then Some (SetCounter value) else Some (assign_to name false value)) named.text

counter_to : (point : Lexeme) (value : ℕ) → IsPoint point → set_by Name Equals point value ≡ Some (SetCounter value)
counter_to point value is = ap (λ (b : Bool). if b then Some (SetCounter value) else Some (assign_to point false value)) is.text

-- a line without an assignment is read by its operator
otherwise : (line : List ℕ) (first : Lexeme) (tokens : List Lexeme) (body : Body) → assignment_to line first tokens ≡ None
    → operation first ≡ body → body_in line (first ∷ tokens) ≡ body
otherwise line first tokens body none is = ap (λ (b : Option Body). unwrap_or b (operation first)) none ∙ is

assigning : (line : List ℕ) (first : Lexeme) (tokens : List Lexeme) (body : Body) → assignment_to line first tokens ≡ Some body
    → body_in line (first ∷ tokens) ≡ body
assigning line first tokens body some = ap (λ (b : Option Body). unwrap_or b (operation first)) some

read_body : (line : List ℕ) (tokens : List Lexeme) (body : Body) → Says line tokens body → body_in line tokens ≡ body
read_body line _ _ SaysNothing = refl
read_body line _ _ (SaysAssignment name equals tokens is_global named is sign) =
    assigning line name (equals ∷ tokens) _
    (behind line name equals tokens is ∙ name_assigned line name equals tokens named.sort
    ∙ ap (λ (s : Sort). set_by Name s name equals.end) sign ∙ assigned_to name equals.end is_global named)
read_body line _ _ (SaysCounter point equals tokens is_point is sign) =
    assigning line point (equals ∷ tokens) (SetCounter equals.end)
    (behind line point equals tokens is ∙ name_assigned line point equals tokens is_point.sort
    ∙ ap (λ (s : Sort). set_by Name s point equals.end) sign ∙ counter_to point equals.end is_point)
read_body line _ _ (SaysOperator name tokens named none) =
    otherwise line name tokens (Operate (span_of name)) (unassigned line name tokens named none) (named_operation name named)
read_body line _ _ (SaysPoint point tokens is none) =
    otherwise line point tokens (Words point.start) (unset line point tokens is none) (point_operation point is)
read_body line _ _ (SaysWords first tokens other) =
    otherwise line first tokens (Words first.start) (other_assigned line first tokens other) (other_operation first other)

-- ---- each line is read as something

is_name_or : (sort : Sort) → (sort ≡ Name) ⊎ (sort ≡ Name → ⊥)
is_name_or Name = inl refl
is_name_or _ = inr (λ e. cc)

abbrev SomeBody : List ℕ → List Lexeme → Type 0
SomeBody line tokens = (body : Body) × Says line tokens body

-- the token doesn't assign
abbrev IsNoSign : Sort → Type 0
IsNoSign sort = (is_global : Bool) → sort ≡ equals_of is_global → ⊥

no_sign : (sort : Sort) → (sort ≡ Equals → ⊥) → (sort ≡ TwoEquals → ⊥) → IsNoSign sort
no_sign sort one two true sign = two sign
no_sign sort one two false sign = one sign

is_sign_or : (sort : Sort) → ((is_global : Bool) × (sort ≡ equals_of is_global)) ⊎ IsNoSign sort
is_sign_or Equals = inl (false, refl)
is_sign_or TwoEquals = inl (true, refl)
is_sign_or _ = inr (no_sign _ (λ e. cc) (λ e. cc))

is_equals_or : (sort : Sort) → (sort ≡ Equals) ⊎ (sort ≡ Equals → ⊥)
is_equals_or Equals = inl refl
is_equals_or _ = inr (λ e. cc)

module _ (line : List ℕ) (first : Lexeme) where
  named_by : (second : Lexeme) (tokens : List Lexeme) → IsNamed first → (is_apart : Bool)
      → skipped_between line first.end second.start ≡ is_apart → SomeBody line (first ∷ (second ∷ tokens))
  named_by second tokens named true apart =
      (Operate (span_of first), SaysOperator first (second ∷ tokens) named (λ is_global is sign. absurd (cc)))
  named_by second tokens named false is = elim (is_sign_or second.sort) [
    | inl (is_global, sign) ↦ (_, SaysAssignment first second tokens is_global named is sign)
    | inr none ↦
        (Operate (span_of first), SaysOperator first (second ∷ tokens) named (λ is_global is sign. none is_global sign))
  ]

  point_by : (second : Lexeme) (tokens : List Lexeme) → IsPoint first → (is_apart : Bool)
      → skipped_between line first.end second.start ≡ is_apart → SomeBody line (first ∷ (second ∷ tokens))
  point_by second tokens point true apart =
      (Words first.start, SaysPoint first (second ∷ tokens) point (λ is sign. absurd (cc)))
  point_by second tokens point false is = elim (is_equals_or second.sort) [
    | inl sign ↦ (SetCounter second.end, SaysCounter first second tokens point is sign)
    | inr none ↦ (Words first.start, SaysPoint first (second ∷ tokens) point (λ is sign. none sign))
  ]

  named_says : (tokens : List Lexeme) → IsNamed first → SomeBody line (first ∷ tokens)
  named_says [] named = (Operate (span_of first), SaysOperator first [] named tt)
  named_says (second ∷ tokens) named = named_by second tokens named (skipped_between line first.end second.start) refl

  point_says : (tokens : List Lexeme) → IsPoint first → SomeBody line (first ∷ tokens)
  point_says [] point = (Words first.start, SaysPoint first [] point tt)
  point_says (second ∷ tokens) point = point_by second tokens point (skipped_between line first.end second.start) refl

  text_says : (tokens : List Lexeme) → first.sort ≡ Name → (is_point : Bool) → is_counter first.text ≡ is_point
      → SomeBody line (first ∷ tokens)
  text_says tokens sort true text = point_says tokens (record { sort = sort; text = text })
  text_says tokens sort false text = named_says tokens (record { sort = sort; text = text })

some_body : (line : List ℕ) (tokens : List Lexeme) → SomeBody line tokens
some_body line [] = (Nothing, SaysNothing)
some_body line (first ∷ tokens) = elim (is_name_or first.sort) [
  | inl sort ↦ text_says line first tokens sort (is_counter first.text) refl
  | inr other ↦ (Words first.start, SaysWords first tokens other)
]

pub bodies-written : (line : Bytes) (body : Body) → Says line (tokens_from line (labels_end line)) body → body_of line ≡ body
bodies-written line body says = read_body line (tokens_from line (labels_end line)) body says

pub bodies-exists : (line : Bytes) → Says line (tokens_from line (labels_end line)) (body_of line)
bodies-exists line =
    let tokens = tokens_from line (labels_end line) in
    let found = some_body line tokens in
    subst (Says line tokens) (sym (read_body line tokens found.0 found.1)) found.1

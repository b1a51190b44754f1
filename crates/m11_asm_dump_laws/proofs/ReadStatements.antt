-- A line of a tab and a name, or a name and operands, has no labels, and the name is its operator.
use Rattle.std.proofs.Common.{◌≡◌, ◌∙◌, ℕ, ◌+◌, Bool, true, false, not, List, [], ◌∷◌, ◌++◌, length, Option, Some, None, option_map, refl, ap}
use Rattle.std.specs.Prelude.{◌==◌, if◌then◌else◌, unwrap_or}
use Rattle.std.proofs.lemmas.Bool.{false≢true}
use Rattle.m11_base.specs.Devices.{Bytes}
use Rattle.m11_scan.specs.Cutting.{Lexeme, tokens_from}
use Rattle.m11_scan.specs.Skipped.{skipped_between}
use Rattle.m11_scan.specs.declared.sort.Sort.{Sort}
use Rattle.m11_scan.specs.declared.sort.Sort.TheVariants as sorts
use Rattle.m11_scan_statements.specs.Bodies.{assignment_to, body_in, operation, set_by}
use Rattle.m11_scan_statements.specs.Labels.{end_of, is_counter, kind_of, labels_at, labels_in}
use Rattle.m11_scan_statements.specs.Listed.{span_of}
use Rattle.m11_scan_statements.specs.Statements.{body_of}
use Rattle.m11_scan_statements.specs.declared.bodies.Body.TheVariants as bodies
use Rattle.m11_scan_statements.specs.declared.labels.Label.{Label}
use Rattle.m11_scan_statements.specs.declared.labels.LabelKind.{LabelKind}
use Rattle.m11_asm_dump_laws.proofs.Tokens.{Stops, is_name_text, name_begins, past, tab_first, token_at, token_first}

-- whether operands can begin with a token of this sort
abbrev pub is_opening : Sort → Bool
is_opening sorts.Name = true
is_opening sorts.Number = true
is_opening sorts.Open = true
is_opening sorts.Minus = true
is_opening sorts.At = true
is_opening sorts.NumberSign = true
is_opening sort = false

-- there is no token, or operands can begin with the first one
abbrev pub Opens : List Lexeme → Type 0
Opens [] = Unit {0}
Opens (token ∷ tokens) = is_opening token.sort ≡ true

no_kind : (sort : Sort) (text : Bytes) → is_opening sort ≡ true → kind_of sorts.Name sort text ≡ None
no_kind sorts.Colon text opens = absurd (false≢true opens)
no_kind sorts.TwoColons text opens = absurd (false≢true opens)
no_kind sort text opens = refl

no_setting : (sort : Sort) (target : Lexeme) (end : ℕ) → is_opening sort ≡ true → set_by sorts.Name sort target end ≡ None
no_setting sorts.Equals target end opens = absurd (false≢true opens)
no_setting sorts.TwoEquals target end opens = absurd (false≢true opens)
no_setting sort target end opens = refl

pub either_same : {A : Type 0} (b : Bool) (x : A) → (if b then x else x) ≡ x
either_same true x = refl
either_same false x = refl

module _ (name : Bytes) where
  abbrev named : Lexeme
  named = token_at sorts.Name 1 name

  abbrev before_labels : Option Label → List Label → List Label
  before_labels found labels = elim found [ None ↦ [] | Some label ↦ label ∷ labels ]

  no_labels : (tokens : List Lexeme) → Opens tokens → labels_in (named ∷ tokens) ≡ []
  no_labels [] opens = refl
  no_labels (token ∷ tokens) opens =
      let label : LabelKind → Label =
      λ kind. record { kind = kind; name = record { start = named.start; end = named.end }; end = token.end } in
      ap (λ k. before_labels (if named.end == token.start then option_map label k else None) (labels_in tokens))
      (no_kind token.sort name opens)
      ∙ ap (λ l. before_labels l (labels_in tokens)) (either_same (named.end == token.start) None)

  no_assignment : (line : Bytes) (tokens : List Lexeme) → Opens tokens → assignment_to line named tokens ≡ None
  no_assignment line [] opens = refl
  no_assignment line (token ∷ tokens) opens =
      ap (λ s. if skipped_between line named.end token.start then None else s) (no_setting token.sort named token.end opens)
      ∙ either_same (skipped_between line named.end token.start) None

  module _ (line rest : Bytes) (is_name : is_name_text name ≡ true) (other : is_counter name ≡ false) (at : line ≡ 9 ∷ (name ++ rest))
      (stops : Stops rest) (opens : Opens (tokens_from line (1 + length name))) where
    tokens_are : tokens_from line 0 ≡ named ∷ tokens_from line (1 + length name)
    tokens_are =
        tab_first line (name ++ rest) at
        ∙ token_first sorts.Name name rest line 1 (name_begins name rest is_name stops) (past line (9 ∷ []) (name ++ rest) 0 at)

    pub labels_none : labels_at line ≡ []
    labels_none = ap labels_in tokens_are ∙ no_labels (tokens_from line (1 + length name)) opens

    pub body_named : body_of line ≡ bodies.Operate (record { start = 1; end = 1 + length name })
    body_named =
        ap (λ labels. body_in line (tokens_from line (end_of 0 labels))) labels_none
        ∙ ap (body_in line) tokens_are
        ∙ ap (λ a. unwrap_or a (operation named)) (no_assignment line (tokens_from line (1 + length name)) opens)
        ∙ ap (λ b. if not b then bodies.Operate (span_of named) else bodies.Words 1) other

-- The ends of bodies and of texts, and the kinds of operators.
use Rattle.std.proofs.Common.{◌≡◌, ◌∙◌, ℕ, zero, suc, Bool, true, false, List, [], ◌∷◌, ◌++◌, map, Option, Some, None, refl, sym, ap, subst, arith}
use Rattle.std.specs.Prelude.{◌==◌, ◌||◌, not, if◌then◌else◌}
use Rattle.std.proofs.lemmas.Bool.Decides.{nat_tests}
use Rattle.m11_base.specs.Devices.{Bytes}
use Rattle.m11_base.specs.NameCharacters.{six_of}
use Rattle.m11_base.specs.Rad50.{Name, name_of}
use Rattle.m11_scan.specs.Line.{SourceLine}
use Rattle.m11_scan.specs.Cutting.{text_between}
use Rattle.m11_scan_statements.specs.declared.spans.Span.{Span}
use Rattle.m11_unfold_rules.specs.Directives.{directive, directive_named, operator}
use Rattle.m11_scan_expressions.specs.Expressions.{KnownSymbols}
use Rattle.m11_scan_expressions.specs.Remarks.{Remarks}
use Rattle.m11_unfold_rules.specs.declared.directives.Directive.{Directive}
use Rattle.m11_unfold_rules.specs.declared.directives.Directive.TheVariants as word
use Rattle.m11_unfold_bodies.specs.Bodies.{cut_after, cut_at, depth_after, with_line}
use Rattle.m11_unfold_bodies.specs.Conditions.{OpenConditions, is_skipping}
use Rattle.m11_unfold_bodies.specs.declared.conditions.Part.{Part}
use Rattle.m11_unfold_rules.specs.Acting.{Calls, OwnDirective, Foreign, Operation, macro_of, operation}
use Rattle.m11_unfold_rules.specs.Macros.{macro_named}
use Rattle.m11_unfold_rules.specs.Stages.{Macro, Purpose, line_left}
use Rattle.m11_unfold_rules.specs.Taking.{nesting}
use Rattle.m11_unfold_rules.proofs.Cases.{called, directed, directive_at, operation_in}
use Rattle.m11_unfold_laws.specs.Putting.{Opens}
use Rattle.m11_unfold_laws.specs.Putting as putting
use Rattle.m11_unfold_laws.specs.Shapes.{Begins, IsOther, IsText, is_plain}
use Rattle.m11_unfold_laws.specs.Shapes as shapes

-- ---- bodies

-- lines begin with a body and its closing line, and other lines follow
pub record BodySplit (lines : List SourceLine) (depth : ℕ) : Type 0 where
  pub body : List Bytes
  pub front : List SourceLine
  pub others : List SourceLine
  pub whole : lines ≡ front ++ others
  pub is : (after : List SourceLine)
      → cut_at nesting depth (map line_left (front ++ after)) ≡ record {
        body = body;
        is_closed = true;
        after
            = map line_left after;
      }

body_line : (line : SourceLine) (lines : List SourceLine) (depth : ℕ)
    → ((inner : ℕ) → (cut_at nesting inner (map line_left lines)).is_closed ≡ true → BodySplit lines inner)
    → (next : Option ℕ) → depth_after (nesting line.text) depth ≡ next
    → (cut_after line.text (map line_left lines) (λ d. cut_at nesting d (map line_left lines)) next).is_closed ≡ true
    → BodySplit (line ∷ lines) depth
body_line line lines depth more None came closed = record {
  body = [];
  front = line ∷ [];
  others = lines;
  whole = refl;
  is = λ after. ap (λ (d : Option ℕ). cut_after line.text (map line_left after) (λ i. cut_at nesting i (map line_left after)) d)
      came;
}
body_line line lines depth more (Some inner) came closed =
    let split = more inner closed in
    record {
      body = line.text ∷ split.body;
      front = line ∷ split.front;
      others = split.others;
      whole = ap (λ (ls : List SourceLine). line ∷ ls) split.whole;
      is = λ after.
          ap (λ (d : Option ℕ). cut_after line.text (map line_left (split.front ++ after))
          (λ i. cut_at nesting i (map line_left (split.front ++ after))) d) came
          ∙ ap (with_line line.text) (split.is after);
    }

pub body_split : (lines : List SourceLine) (depth : ℕ) → (cut_at nesting depth (map line_left lines)).is_closed ≡ true
    → BodySplit lines depth
body_split [] depth closed = absurd (let bad : false ≡ true = closed in cc)
body_split (line ∷ lines) depth closed =
    body_line line lines depth (λ inner shut. body_split lines inner shut) (depth_after (nesting line.text) depth) refl closed

-- ---- text

-- a directive that belongs to the condition whose lines are skipped
pub data IsOwnWord (is_past : Bool) : Option Directive → Type 0 where
  EndCondition : IsOwnWord is_past (Some word.Endc)
  IfFalse : is_past ≡ false → IsOwnWord is_past (Some word.Iff)
  IfTrue : is_past ≡ false → IsOwnWord is_past (Some word.Ift)
  IfTrueFalse : is_past ≡ false → IsOwnWord is_past (Some word.Iftf)

-- lines are text to their end, or up to such a directive
pub data TextSplit (is_past : Bool) : ℕ → List SourceLine → Type 0 where
  All : (inner last : ℕ) (lines : List SourceLine) → IsText is_past inner lines last → TextSplit is_past inner lines
  UpTo : (inner : ℕ) (text : List SourceLine) (line : SourceLine) (others : List SourceLine) → IsText is_past inner text 0
      → IsOwnWord is_past (directive line.text) → TextSplit is_past inner (text ++ line ∷ others)

module _ (is_past : Bool) where
  plain_line : (inner : ℕ) (line : SourceLine) (lines : List SourceLine) → is_plain is_past inner (directive line.text) ≡ true
      → TextSplit is_past inner lines → TextSplit is_past inner (line ∷ lines)
  plain_line _ line _ plain (TextSplit.All inner last lines text) =
      TextSplit.All inner last (line ∷ lines) (shapes.IsText.Plain inner last line lines plain text)
  plain_line _ line _ plain (TextSplit.UpTo inner text other others is own) =
      TextSplit.UpTo inner (line ∷ text) other others (shapes.IsText.Plain inner 0 line text plain is) own

  if_line : (inner deeper : ℕ) (line : SourceLine) (lines : List SourceLine) → deeper ≡ suc inner
      → directive line.text ≡ Some word.If
      → TextSplit is_past deeper lines → TextSplit is_past inner (line ∷ lines)
  if_line inner _ line _ same is (TextSplit.All deeper last lines text) =
      TextSplit.All inner last (line ∷ lines)
      (shapes.IsText.If inner last line lines is (subst (λ (n : ℕ). IsText is_past n lines last) same text))
  if_line inner _ line _ same is (TextSplit.UpTo deeper text other others skipped own) =
      TextSplit.UpTo inner (line ∷ text) other others
      (shapes.IsText.If inner 0 line text is (subst (λ (n : ℕ). IsText is_past n text 0) same skipped)) own

  end_line : (inner : ℕ) (line : SourceLine) (lines : List SourceLine) → directive line.text ≡ Some word.Endc
      → TextSplit is_past inner lines → TextSplit is_past (suc inner) (line ∷ lines)
  end_line _ line _ is (TextSplit.All inner last lines text) =
      TextSplit.All (suc inner) last (line ∷ lines) (shapes.IsText.EndCondition inner last line lines is text)
  end_line _ line _ is (TextSplit.UpTo inner text other others skipped own) =
      TextSplit.UpTo (suc inner) (line ∷ text) other others (shapes.IsText.EndCondition inner 0 line text is skipped) own

  own_line : (line : SourceLine) (lines : List SourceLine) → IsOwnWord is_past (directive line.text)
      → TextSplit is_past 0 (line ∷ lines)
  own_line line lines own = TextSplit.UpTo 0 [] line lines (shapes.IsText.Nothing 0) own

  module _ (line : SourceLine) (lines : List SourceLine) (more : (inner : ℕ) → TextSplit is_past inner lines) where
    plain_by : (inner : ℕ) (d : Option Directive) → directive line.text ≡ d → is_plain is_past inner d ≡ true
        → TextSplit is_past inner (line ∷ lines)
    plain_by inner d is plain = plain_line inner line lines (ap (is_plain is_past inner) is ∙ plain) (more inner)

    part_by : (past : Bool) → is_past ≡ past → (inner : ℕ) (d : Option Directive) → directive line.text ≡ d
        → ((i : ℕ) → is_plain is_past i d ≡ (is_past || not (i == 0))) → (is_past ≡ false → IsOwnWord is_past d)
        → TextSplit is_past inner (line ∷ lines)
    part_by true past inner d is plain own =
        plain_by inner d is (plain inner ∙ ap (λ (b : Bool). b || not (inner == 0)) past)
    part_by false past zero d is plain own = own_line line lines (subst (IsOwnWord is_past) (sym is) (own past))
    part_by false past (suc inner) d is plain own =
        let some : (suc inner == 0) ≡ false = grind (arith, nat_tests) in
        plain_by (suc inner) d is (plain (suc inner) ∙ ap (λ (b : Bool). b || not (suc inner == 0)) past ∙ ap not some)

    by_word : (inner : ℕ) (d : Option Directive) → directive line.text ≡ d → TextSplit is_past inner (line ∷ lines)
    by_word inner None is = plain_by inner None is refl
    by_word inner (Some word.If) is = if_line inner (suc inner) line lines refl is (more (suc inner))
    by_word zero (Some word.Endc) is = own_line line lines (subst (IsOwnWord is_past) (sym is) IsOwnWord.EndCondition)
    by_word (suc inner) (Some word.Endc) is = end_line inner line lines is (more inner)
    by_word inner (Some word.Iff) is
        = part_by is_past refl inner (Some word.Iff) is (λ i. refl) (λ no. IsOwnWord.IfFalse no)
    by_word inner (Some word.Ift) is = part_by is_past refl inner (Some word.Ift) is (λ i. refl) (λ no. IsOwnWord.IfTrue no)
    by_word inner (Some word.Iftf) is =
        part_by is_past refl inner (Some word.Iftf) is (λ i. refl) (λ no. IsOwnWord.IfTrueFalse no)
    by_word inner (Some word.Iif) is = plain_by inner (Some word.Iif) is refl
    by_word inner (Some word.Macro) is = plain_by inner (Some word.Macro) is refl
    by_word inner (Some word.Endm) is = plain_by inner (Some word.Endm) is refl
    by_word inner (Some word.Rept) is = plain_by inner (Some word.Rept) is refl
    by_word inner (Some word.Endr) is = plain_by inner (Some word.Endr) is refl
    by_word inner (Some word.Irp) is = plain_by inner (Some word.Irp) is refl
    by_word inner (Some word.Irpc) is = plain_by inner (Some word.Irpc) is refl
    by_word inner (Some word.Mexit) is = plain_by inner (Some word.Mexit) is refl
    by_word inner (Some word.Narg) is = plain_by inner (Some word.Narg) is refl
    by_word inner (Some word.Nchr) is = plain_by inner (Some word.Nchr) is refl
    by_word inner (Some word.End) is = plain_by inner (Some word.End) is refl

  pub text_split : (lines : List SourceLine) (inner : ℕ) → TextSplit is_past inner lines
  text_split [] inner = TextSplit.All inner inner [] (shapes.IsText.Nothing inner)
  text_split (line ∷ lines) inner = by_word line lines (λ i. text_split lines i) inner (directive line.text) refl

-- ---- a word in skipped lines is a directive

pub record IsDirected (conditions : OpenConditions) (macros : List (Name × Macro)) (text : Bytes) (word : Directive) : Type 0
  where
    pub at : ℕ
    pub is : operation conditions macros text ≡ OwnDirective word at

module _ (conditions : OpenConditions) (macros : List (Name × Macro)) (text : Bytes) (word : Directive)
    (skips : is_skipping conditions ≡ true) where
  no_macro : (name : Option Name) → macro_of conditions macros name ≡ None
  no_macro None = refl
  no_macro (Some name) = ap (λ (b : Bool). if b then None else macro_named macros name) skips

  directed_in : (name : Option Span) → operator text ≡ name → directive_at text name ≡ Some word
      → IsDirected conditions macros text word
  directed_in None is none = absurd (let bad = none in cc)
  directed_in (Some name) is has =
      let six : Bytes = six_of (text_between text name.start name.end) in
      record {
        at = name.end;
        is = ap (operation_in conditions macros text) is
            ∙ ap (λ (m : Option Macro). called m (directive_named six) name.end) (no_macro (name_of six))
            ∙ ap (λ (d : Option Directive). directed d name.end) has;
      }

  pub directed_so : directive text ≡ Some word → IsDirected conditions macros text word
  directed_so has = directed_in (operator text) refl has

-- ---- kinds of operators

pub record SomePurpose (known : KnownSymbols) (text : Bytes) (operator : Operation) : Type 0 where
  pub remarks : Remarks
  pub purpose : Purpose
  pub opens : Opens known text operator remarks purpose

pub data Kind : Operation → Type 0 where
  Others : (operator : Operation) → IsOther operator → Kind operator
  Called : (macro : Macro) (at : ℕ) → Kind (Calls macro at)
  Condition : (at : ℕ) → Kind (OwnDirective word.If at)
  OfPart : (operator : Operation) (part : Part) (at : ℕ) → Begins operator part at → Kind operator
  EndCondition : (at : ℕ) → Kind (OwnDirective word.Endc at)
  Immediate : (at : ℕ) → Kind (OwnDirective word.Iif at)
  Body : (operator : Operation) → ((known : KnownSymbols) (text : Bytes) → SomePurpose known text operator) → Kind operator
  EndMacro : (at : ℕ) → Kind (OwnDirective word.Endm at)
  EndRepeat : (at : ℕ) → Kind (OwnDirective word.Endr at)
  Exit : (at : ℕ) → Kind (OwnDirective word.Mexit at)
  End : (at : ℕ) → Kind (OwnDirective word.End at)

pub kind : (operator : Operation) → Kind operator
kind Foreign = Kind.Others Foreign shapes.IsOther.Other
kind (Calls macro at) = Kind.Called macro at
kind (OwnDirective word.If at) = Kind.Condition at
kind (OwnDirective word.Iff at) = Kind.OfPart (OwnDirective word.Iff at) _ at (shapes.Begins.IfFalse at)
kind (OwnDirective word.Ift at) = Kind.OfPart (OwnDirective word.Ift at) _ at (shapes.Begins.IfTrue at)
kind (OwnDirective word.Iftf at) = Kind.OfPart (OwnDirective word.Iftf at) _ at (shapes.Begins.IfTrueFalse at)
kind (OwnDirective word.Endc at) = Kind.EndCondition at
kind (OwnDirective word.Iif at) = Kind.Immediate at
kind (OwnDirective word.Macro at) =
    Kind.Body (OwnDirective word.Macro at) (λ known text. record { remarks = _; purpose = _; opens = putting.Opens.Macro at })
kind (OwnDirective word.Endm at) = Kind.EndMacro at
kind (OwnDirective word.Rept at) =
    Kind.Body (OwnDirective word.Rept at) (λ known text. record { remarks = _; purpose = _; opens = putting.Opens.Repeat at })
kind (OwnDirective word.Endr at) = Kind.EndRepeat at
kind (OwnDirective word.Irp at) =
    Kind.Body (OwnDirective word.Irp at) (λ known text. record {
      remarks = _;
      purpose = _;
      opens
          = putting.Opens.IndefiniteRepeat at;
    })
kind (OwnDirective word.Irpc at) =
    Kind.Body (OwnDirective word.Irpc at) (λ known text. record {
      remarks = _;
      purpose = _;
      opens
          = putting.Opens.CharacterRepeat at;
    })
kind (OwnDirective word.Mexit at) = Kind.Exit at
kind (OwnDirective word.Narg at) = Kind.Others (OwnDirective word.Narg at) (shapes.IsOther.ArgumentCount at)
kind (OwnDirective word.Nchr at) = Kind.Others (OwnDirective word.Nchr at) (shapes.IsOther.CharacterCount at)
kind (OwnDirective word.End at) = Kind.End at

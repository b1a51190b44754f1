-- While no lines are skipped, an operator is looked up in the same way, whatever conditions are open.
use Rattle.std.proofs.Common.{◌≡◌, ◌∙◌, ℕ, Bool, true, List, [], ◌∷◌, Option, Some, None, refl, sym, ap}
use Rattle.std.specs.Prelude.{if◌then◌else◌}
use Rattle.m11_base.specs.Devices.{Bytes}
use Rattle.m11_base.specs.NameCharacters.{six_of}
use Rattle.m11_base.specs.Rad50.{Name, name_of}
use Rattle.m11_scan.specs.Line.{SourceLine}
use Rattle.m11_scan.specs.Cutting.{text_between}
use Rattle.m11_scan_statements.specs.declared.spans.Span.{Span}
use Rattle.m11_unfold_rules.specs.Directives.{directive, directive_named, operator}
use Rattle.m11_unfold_rules.specs.declared.directives.Directive.{Directive}
use Rattle.m11_unfold_bodies.specs.Conditions.{OpenConditions, is_skipping}
use Rattle.m11_unfold_rules.specs.Acting.{OwnDirective, Foreign, macro_of, operation}
use Rattle.m11_unfold_rules.specs.Macros.{macro_named}
use Rattle.m11_unfold_rules.specs.Stages.{Macro}
use Rattle.m11_unfold_rules.proofs.Cases.{called, directed, directive_at, operation_in}
use Rattle.m11_unfold_rules.proofs.OtherLines.{ForeignHere}

module _ (macros : List (Name × Macro)) where
  alike_macro : (one other : OpenConditions) (name : Option Name) → is_skipping one ≡ is_skipping other
      → macro_of one macros name ≡ macro_of other macros name
  alike_macro one other None same = refl
  alike_macro one other (Some name) same = ap (λ (b : Bool). if b then None else macro_named macros name) same

  alike_in : (one other : OpenConditions) (text : Bytes) (name : Option Span) → is_skipping one ≡ is_skipping other
      → operation_in one macros text name ≡ operation_in other macros text name
  alike_in one other text None same = refl
  alike_in one other text (Some name) same =
      let word : Bytes = six_of (text_between text name.start name.end) in
      ap (λ (m : Option Macro). called m (directive_named word) name.end) (alike_macro one other (name_of word) same)

  pub alike : (one other : OpenConditions) (text : Bytes) → is_skipping one ≡ is_skipping other
      → operation one macros text ≡ operation other macros text
  alike one other text same = alike_in one other text (operator text) same

  pub foreign_alike : (one other : OpenConditions) (lines : List SourceLine) → is_skipping one ≡ is_skipping other
      → ForeignHere one macros lines → ForeignHere other macros lines
  foreign_alike one other [] same foreign = foreign
  foreign_alike one other (line ∷ lines) same foreign =
      (sym (alike one other line.text same) ∙ foreign.0, foreign_alike one other lines same foreign.1)

  -- ---- the directive of a word

  word_of_called : (macro : Option Macro) (word : Option Directive) (end column : ℕ) (directive : Directive)
      → called macro word end ≡ OwnDirective directive column → (word ≡ Some directive) × (directed word end ≡ OwnDirective directive column)
  word_of_called (Some macro) word end column directive is = absurd (let bad = is in cc)
  word_of_called None None end column directive is = absurd (let bad = is in cc)
  word_of_called None (Some word) end column directive is =
      let same : word ≡ directive = cc in
      (ap (λ (d : Directive). Some d) same, is)

  no_word_of_called : (macro : Option Macro) (word : Option Directive) (end : ℕ) → called macro word end ≡ Foreign → word ≡ None
  no_word_of_called (Some macro) word end is = absurd (let bad = is in cc)
  no_word_of_called None None end is = refl
  no_word_of_called None (Some word) end is = absurd (let bad = is in cc)

  word_in : (conditions : OpenConditions) (text : Bytes) (name : Option Span) (column : ℕ) (directive : Directive)
      → operation_in conditions macros text name ≡ OwnDirective directive column → directive_at text name ≡ Some directive
  word_in conditions text None column directive is = absurd (let bad = is in cc)
  word_in conditions text (Some name) column directive is =
      let word : Bytes = six_of (text_between text name.start name.end) in
      (word_of_called (macro_of conditions macros (name_of word)) (directive_named word) name.end column directive is).0

  -- if the operation of a line is a directive, the word of its operator names this directive
  pub has_word : (conditions : OpenConditions) (text : Bytes) (column : ℕ) (word : Directive)
      → operation conditions macros text ≡ OwnDirective word column → directive text ≡ Some word
  has_word conditions text column word is = word_in conditions text (operator text) column word is

  no_word_in : (conditions : OpenConditions) (text : Bytes) (name : Option Span)
      → operation_in conditions macros text name ≡ Foreign → directive_at text name ≡ None
  no_word_in conditions text None is = refl
  no_word_in conditions text (Some name) is =
      let word : Bytes = six_of (text_between text name.start name.end) in
      no_word_of_called (macro_of conditions macros (name_of word)) (directive_named word) name.end is

  -- if the operation of a line is foreign, the word of its operator names no directive
  pub has_no_word : (conditions : OpenConditions) (text : Bytes) → operation conditions macros text ≡ Foreign → directive text ≡ None
  has_no_word conditions text is = no_word_in conditions text (operator text) is

  no_macro : (conditions : OpenConditions) (name : Option Name) → is_skipping conditions ≡ true → macro_of conditions macros name ≡ None
  no_macro conditions None skips = refl
  no_macro conditions (Some name) skips = ap (λ (b : Bool). if b then None else macro_named macros name) skips

  skipping_in : (one other : OpenConditions) (text : Bytes) (name : Option Span) (column : ℕ) (directive : Directive)
      → is_skipping other ≡ true → operation_in one macros text name ≡ OwnDirective directive column
      → operation_in other macros text name ≡ OwnDirective directive column
  skipping_in one other text None column directive skips is = is
  skipping_in one other text (Some name) column directive skips is =
      let word : Bytes = six_of (text_between text name.start name.end) in
      let directs = word_of_called (macro_of one macros (name_of word)) (directive_named word) name.end column directive is in
      ap (λ (m : Option Macro). called m (directive_named word) name.end) (no_macro other (name_of word) skips) ∙ directs.1

  -- if the operation of a line is a directive, it is the same directive while lines are skipped
  pub directive_skipping : (one other : OpenConditions) (text : Bytes) (column : ℕ) (word : Directive)
      → is_skipping other ≡ true → operation one macros text ≡ OwnDirective word column → operation other macros text ≡ OwnDirective word column
  directive_skipping one other text column word skips is = skipping_in one other text (operator text) column word skips is

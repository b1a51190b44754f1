-- The fields of an instruction are read as they are written.
use Rattle.std.proofs.Common.{◌≡◌, ◌∙◌, ℕ, ◌+◌, true, List, [], ◌∷◌, ◌++◌, length, drop, Option, Some, None, refl, sym, ap, append-nil}
use Rattle.std.specs.Prelude.{if◌then◌else◌}
use Rattle.std.specs.List.{AllByRecursion}
use Rattle.std.specs.Int.RustNames.{bit_or}
use Rattle.m11_base.specs.Devices.{Bytes}
use Rattle.m11_base.specs.declared.instruction.Op.{Op}
use Rattle.m11_base.specs.declared.operand.Register.{Register}
use Rattle.m11_base_disassembly.specs.Arguments.{Argument}
use Rattle.m11_base_disassembly.specs.Numbers.{number_text}
use Rattle.m11_base_disassembly.specs.Texts.{register_text}
use Rattle.m11_base_disassembly.specs.Symbols.{address_text}
use Rattle.m11_base_disassembly.specs.declared.symbols.Symbol.{Symbol}
use Rattle.m11_asm_dump_laws.specs.Texts.{argument_text}
use Rattle.m11_scan.specs.Cutting.{tokens_from}
use Rattle.m11_scan.specs.Ends.{expression_end}
use Rattle.m11_scan.specs.ErrorFlags.{flag_A}
use Rattle.m11_scan.specs.Expressions.{role_of}
use Rattle.m11_scan.specs.declared.expressions.Role.TheVariants as roles
use Rattle.m11_scan.specs.declared.sort.Sort.{Sort}
use Rattle.m11_scan.specs.declared.sort.Sort.TheVariants as sorts
use Rattle.m11_scan_expressions.specs.Expressions.{KnownSymbols}
use Rattle.m11_scan_expressions.specs.Tokens.{Expression, is_empty}
use Rattle.m11_unfold_rules.specs.Immediate.{after_comma, column_after_comma}
use Rattle.m11_asm_rules.specs.Fields.{FieldAt, Fields, field_after, field_at, field_read, fields_at, first_kind, missing_field, no_fields, second_kind}
use Rattle.m11_asm_rules.specs.Fields as fields
use Rattle.m11_asm_rules.specs.Operands.{form_of}
use Rattle.m11_asm_rules.specs.declared.fields.Field.{Field}
use Rattle.m11_asm_rules.specs.declared.fields.Field.TheVariants as content
use Rattle.m11_asm_rules.specs.declared.fields.FieldKind.{FieldKind}
use Rattle.m11_asm_rules.specs.declared.fields.FieldKind.TheVariants as kinds
use Rattle.m11_asm_dump_laws.specs.Knowledge.{IsSpelled, TakesNoRegister}
use Rattle.m11_asm_dump_laws.specs.Operands.{IsWithinWord, address_written, ends_operand, number_written, register_written, single}
use Rattle.m11_asm_dump_laws.proofs.Addresses.{address_token, term_sort}
use Rattle.m11_asm_dump_laws.proofs.FirstTokens.{digits_begin, register_begins}
use Rattle.m11_asm_dump_laws.proofs.Forms.{form_read, form_written}
use Rattle.m11_asm_dump_laws.proofs.ReadOperands.{operand_read, term_role}
use Rattle.m11_asm_dump_laws.proofs.Terms.{closes_term, end_read, ended_closes, ended_stops, expression_read}
use Rattle.m11_asm_dump_laws.proofs.Tokens.{Begins, comma_begins, past, token_first}

-- a field of a disassembly
pub data Written : Type 0 where
  OperandField : Argument → Written
  RegisterField : Register → Written
  TargetField : ℕ → Written
  NumberField : ℕ → Written

abbrev pub kind_of : Written → FieldKind
kind_of (OperandField a) = kinds.Operand
kind_of (RegisterField register) = kinds.Register
kind_of (TargetField address) = kinds.Target
kind_of (NumberField number) = kinds.Number

abbrev pub text_of : List Symbol → Written → Bytes
text_of symbols (OperandField a) = argument_text symbols a
text_of symbols (RegisterField register) = register_text register
text_of symbols (TargetField address) = address_text symbols address
text_of symbols (NumberField number) = number_text number

abbrev pub field_of : List Symbol → Written → Field Expression
field_of symbols (OperandField a) = content.Operand (form_written symbols a)
field_of symbols (RegisterField register) = content.Register (register_written register)
field_of symbols (TargetField address) = content.Target (address_written symbols address)
field_of symbols (NumberField number) = content.Number (number_written number)

abbrev pub AreWordsIn : Written → Type 0
AreWordsIn (OperandField a) = IsWithinWord a
AreWordsIn other = Unit {0}

-- ---- one field; it is read from any column with the same tokens after it

module _ (symbols : List Symbol) (spelled : AllByRecursion IsSpelled symbols) (firm : KnownSymbols) (knows : TakesNoRegister symbols firm)
    (line rest : Bytes) (ends : ends_operand rest ≡ true) (start column : ℕ) (same : tokens_from line start ≡ tokens_from line column) where
  term_field : (field : Expression → Field Expression) (flags : ℕ) (sort : Sort) (text : Bytes) → Begins sort text rest
      → role_of sort ≡ roles.Term → drop column line ≡ text ++ rest
      → fields.expression_read field flags line start ≡ field_read (field (single sort text)) (column + length text) 0
  term_field field flags sort text begins term at =
      let ended = closes_term (tokens_from line (column + length text))
      (ended_closes rest line (column + length text) ends (past line text rest column at)) in
      ap (λ e. if is_empty e then field_read content.Missing start flags else field_read (field e) (expression_end line start) 0)
      (expression_read line start column same sort text rest begins term at ended)
      ∙ ap (λ n. field_read (field (single sort text)) n 0) (end_read line start column same sort text rest begins term at ended)

  pub field_is_read : (f : Written) → AreWordsIn f → drop column line ≡ text_of symbols f ++ rest
      → field_at firm line start (kind_of f) ≡ field_read (field_of symbols f) (column + length (text_of symbols f)) 0
  field_is_read (OperandField a) below at =
      ap (λ r. field_read (content.Operand (form_of firm r.operand)) r.end r.flags) (operand_read symbols spelled line rest ends start column same a at)
      ∙ ap (λ form. field_read (content.Operand form) (column + length (argument_text symbols a)) 0) (form_read symbols spelled firm knows a below)
  field_is_read (RegisterField register) below at =
      term_field content.Register flag_A sorts.Name (register_text register) (register_begins register rest (ended_stops rest ends)) refl at
  field_is_read (TargetField address) below at =
      let text : Bytes = address_text symbols address in
      let one = address_token symbols spelled address in
      term_field content.Target flag_A (term_sort one.is_name) text (one.begins rest (ended_stops rest ends)) (term_role one.is_name) at
      ∙ ap (λ e. field_read (content.Target e) (column + length text) 0) (sym one.written)
  field_is_read (NumberField number) below at =
      term_field content.Number 0 sorts.Number (number_text number) (digits_begin number rest (ended_stops rest ends)) refl at

-- ---- the fields of an operation, up to the end of a line

abbrev field_by : KnownSymbols → Bytes → ℕ → FieldKind → Option ℕ → FieldAt
field_by firm line end kind found = elim found [ Some next ↦ field_at firm line next kind | None ↦ missing_field end kind ]

abbrev fields_of : FieldAt → FieldAt → Fields
fields_of first second =
    record { first = first.field; second = second.field; end = second.end; flags = bit_or first.flags second.flags }

-- these two fields, without a flag
abbrev pub fields_written : Field Expression → Field Expression → ℕ → Fields
fields_written first second end = record { first = first; second = second; end = end; flags = 0 }

module _ (symbols : List Symbol) (spelled : AllByRecursion IsSpelled symbols) (firm : KnownSymbols) (knows : TakesNoRegister symbols firm)
    (line : Bytes) where
  comma_found : (rest : Bytes) (end : ℕ) → drop end line ≡ 0o54 ∷ rest → column_after_comma line end ≡ Some (end + 1)
  comma_found rest end at = ap after_comma (token_first sorts.Comma (0o54 ∷ []) rest line end (comma_begins rest) at)

  second_read : (f : Written) (end : ℕ) → AreWordsIn f → drop end line ≡ 0o54 ∷ (text_of symbols f ++ [])
      → field_by firm line end (kind_of f) (column_after_comma line end)
      ≡ field_read (field_of symbols f) (end + 1 + length (text_of symbols f)) 0
  second_read f end below at =
      let text : Bytes = text_of symbols f ++ [] in
      ap (field_by firm line end (kind_of f)) (comma_found text end at)
      ∙ field_is_read symbols spelled firm knows line [] refl (end + 1) (end + 1) refl f below (past line (0o54 ∷ []) text end at)

  second_is_read : (f : Written) (end : ℕ) → AreWordsIn f → drop end line ≡ 0o54 ∷ (text_of symbols f ++ [])
      → field_after firm line end (kind_of f) ≡ field_read (field_of symbols f) (end + 1 + length (text_of symbols f)) 0
  second_is_read (OperandField a) end below at = second_read (OperandField a) end below at
  second_is_read (RegisterField register) end below at = second_read (RegisterField register) end below at
  second_is_read (TargetField address) end below at = second_read (TargetField address) end below at
  second_is_read (NumberField number) end below at = second_read (NumberField number) end below at

  module _ (start column : ℕ) (same : tokens_from line start ≡ tokens_from line column) (operation : Op) where
    pub two_read : (f g : Written) → AreWordsIn f → AreWordsIn g → first_kind operation ≡ kind_of f → second_kind operation ≡ kind_of g
        → drop column line ≡ text_of symbols f ++ 0o54 ∷ text_of symbols g
        → fields_at firm line start operation
        ≡ fields_written (field_of symbols f) (field_of symbols g) (column + length (text_of symbols f) + 1 + length (text_of symbols g))
    two_read f g below_f below_g first second at =
        let text : Bytes = text_of symbols g ++ [] in
        let written : drop column line ≡ text_of symbols f ++ 0o54 ∷ text =
        at ∙ ap (λ t. text_of symbols f ++ 0o54 ∷ t) (sym (append-nil (text_of symbols g))) in
        let end : ℕ = column + length (text_of symbols f) in
        ap (λ k. fields_of (field_at firm line start k) (field_after firm line (field_at firm line start k).end (second_kind operation)))
        first
        ∙ ap (λ x. fields_of x (field_after firm line x.end (second_kind operation)))
        (field_is_read symbols spelled firm knows line (0o54 ∷ text) refl start column same f below_f written)
        ∙ ap (λ k. fields_of (field_read (field_of symbols f) end 0) (field_after firm line end k)) second
        ∙ ap (fields_of (field_read (field_of symbols f) end 0))
        (second_is_read g end below_g (past line (text_of symbols f) (0o54 ∷ text) column written))

    pub one_read : (f : Written) → AreWordsIn f → first_kind operation ≡ kind_of f → second_kind operation ≡ kinds.NoField
        → drop column line ≡ text_of symbols f
        → fields_at firm line start operation
        ≡ fields_written (field_of symbols f) content.Missing (column + length (text_of symbols f))
    one_read f below first second at =
        let written = at ∙ sym (append-nil (text_of symbols f)) in
        let end : ℕ = column + length (text_of symbols f) in
        ap (λ k. fields_of (field_at firm line start k) (field_after firm line (field_at firm line start k).end (second_kind operation)))
        first
        ∙ ap (λ x. fields_of x (field_after firm line x.end (second_kind operation)))
        (field_is_read symbols spelled firm knows line [] refl start column same f below written)
        ∙ ap (λ k. fields_of (field_read (field_of symbols f) end 0) (field_after firm line end k)) second

    pub none_read : first_kind operation ≡ kinds.NoField → second_kind operation ≡ kinds.NoField
        → fields_at firm line start operation ≡ fields_written content.Missing content.Missing start
    none_read first second =
        ap (λ k. fields_of (field_at firm line start k) (field_after firm line (field_at firm line start k).end (second_kind operation)))
        first
        ∙ ap (λ k. fields_of (field_read content.Missing start 0) (field_after firm line start k)) second

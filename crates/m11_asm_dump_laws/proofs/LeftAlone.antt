-- Unfolding leaves the lines of a disassembly alone: their operators are none of its directives.
use Rattle.std.proofs.Common.{◌≡◌, ◌∙◌, ℕ, ◌+◌, ◌<◌, Bool, true, false, List, [], ◌∷◌, ◌++◌, length, drop, Option, Some, None, option_map, refl, sym, ap, subst, arith, append-nil, codes}
use Rattle.std.specs.Prelude.{if◌then◌else◌}
use Rattle.std.specs.List.{AllByRecursion}
use Rattle.m11_base.specs.Devices.{Bytes}
use Rattle.m11_base.specs.NameCharacters.{six_of}
use Rattle.m11_base.specs.Rad50.{Name, name_of}
use Rattle.m11_base.specs.declared.instruction_list.Row.{Row}
use Rattle.m11_base.specs.Instructions.{instruction_of}
use Rattle.m11_base_disassembly.specs.Instructions.{operands_of, statement_by, statement_of, whole_row}
use Rattle.m11_base_disassembly.specs.Numbers.{number_text}
use Rattle.m11_base_disassembly.specs.Statements.{Operands}
use Rattle.m11_base_disassembly.specs.Statements as statements
use Rattle.m11_base_disassembly.specs.Names.{bare_name}
use Rattle.m11_base_disassembly.specs.Texts.{prefixed}
use Rattle.m11_base_disassembly.specs.declared.symbols.Symbol.{Symbol}
use Rattle.m11_asm_dump_laws.specs.Knowledge.{IsSpelled}
use Rattle.m11_asm_dump_laws.specs.Texts.{line_text}
use Rattle.m11_asm_dump_laws.proofs.UnreferredOperands.{operands_text}
use Rattle.m11_scan.specs.Cutting.{text_between}
use Rattle.m11_scan_statements.specs.Statements.{body_of}
use Rattle.m11_scan_statements.specs.declared.spans.Span.{Span}
use Rattle.m11_unfold_bodies.specs.Conditions.{OpenConditions, is_skipping, no_conditions}
use Rattle.m11_unfold_rules.specs.Acting.{Calls, Foreign, Operation, OwnDirective, macro_of, operation, operation_of}
use Rattle.m11_unfold_rules.specs.Directives.{directive_named, directive_rows, operator_in}
use Rattle.m11_unfold_rules.specs.Stages.{Macro}
use Rattle.m11_unfold_rules.specs.declared.directives.Directive.{Directive}
use Rattle.m11_unfold_rules.specs.declared.directives.Directive.TheVariants.{End}
use Rattle.m11_asm_dump_laws.proofs.Assembled.{operator_ending}
use Rattle.m11_asm_dump_laws.proofs.Beginnings.{asect_body, set_body}
use Rattle.m11_asm_dump_laws.proofs.Emitted.{HasOperands}
use Rattle.m11_asm_dump_laws.proofs.OperandTexts.{operands_open, spaced, spaces_first, spaces_stop}
use Rattle.m11_asm_dump_laws.proofs.OperatorNames.{all_pointed, none_found, six_point}
use Rattle.m11_asm_dump_laws.proofs.ReadData.{gap, opens}
use Rattle.m11_asm_dump_laws.proofs.ReadLines.{name_parts, no_counter, some_name, with_operands}
use Rattle.m11_asm_dump_laws.proofs.ReadStatements.{Opens, body_named}
use Rattle.m11_asm_dump_laws.proofs.RowNames.{IsPadded, OfFound, begins_with_point, is_padded, row_padded, spaces}
use Rattle.m11_asm_dump_laws.proofs.Tokens.{between, is_name_text, no_token, none_stops, past}

-- ---- lines whose operator is a name

-- the operator of a line is this name, after a tab
record NamedLine (text name : Bytes) : Type 0 where
  body : body_of text ≡ operator_ending (1 + length name)
  name_is : text_between text 1 (1 + length name) ≡ name

module _ (symbols : List Symbol) (spelled : AllByRecursion IsSpelled symbols) (text name : Bytes) (padded : is_padded name ≡ true) where
  abbrev bare : Bytes
  bare = bare_name name

  abbrev after : ℕ
  after = 1 + length bare

  bare_line : text ≡ 9 ∷ bare → NamedLine text bare
  bare_line is =
      let parts = name_parts name padded in
      let at : text ≡ 9 ∷ (bare ++ []) = is ∙ ap (λ (t : Bytes). 9 ∷ t) (sym (append-nil bare)) in
      let begun : drop 1 text ≡ bare ++ [] = past text (9 ∷ []) (bare ++ []) 0 at in
      let left : drop after text ≡ [] = past text bare [] 1 begun in record {
        body = body_named bare text [] parts.named (no_counter bare parts.other) at none_stops (subst Opens (sym (no_token text after left)) tt);
        name_is = between text bare [] 1 begun (some_name bare parts.named);
      }

  operands_line : (operands : Operands) → HasOperands operands → text ≡ line_text symbols (statements.Named name operands)
      → NamedLine text bare
  operands_line operands there is =
      let parts = name_parts name padded in
      let written : Bytes = operands_text symbols operands in
      let at : text ≡ 9 ∷ (bare ++ spaced (spaces name) written) = is ∙ with_operands symbols name operands there in
      let named : drop 1 text ≡ bare ++ spaced (spaces name) written = past text (9 ∷ []) (bare ++ spaced (spaces name) written) 0 at in
      let left : drop after text ≡ spaced (spaces name) written = past text bare (spaced (spaces name) written) 1 named in
      let column : ℕ = after + length (spaces name) + 1 in
      let begun : drop column text ≡ written =
      past text (0o40 ∷ []) written (after + length (spaces name)) (past text (spaces name) (0o40 ∷ written) after left) in
      let same = spaces_first (spaces name) written text after parts.spaced left in record {
        body = body_named bare text (spaced (spaces name) written) parts.named (no_counter bare parts.other) at
            (spaces_stop (spaces name) written parts.spaced) (subst Opens (sym same) (operands_open symbols spelled text column operands begun));
        name_is = between text bare (spaced (spaces name) written) 1 named (some_name bare parts.named);
      }

  named_line : (operands : Operands) → text ≡ line_text symbols (statements.Named name operands) → NamedLine text bare
  named_line statements.Nothing is = bare_line is
  named_line (statements.One a) is = operands_line (statements.One a) tt is
  named_line (statements.Two a b) is = operands_line (statements.Two a b) tt is
  named_line (statements.Target address) is = operands_line (statements.Target address) tt is
  named_line (statements.Loop register address) is = operands_line (statements.Loop register address) tt is
  named_line (statements.Number number) is = operands_line (statements.Number number) tt is

-- ---- no macro, and no directive

either_none : (b : Bool) (found : Option Macro) → found ≡ None → (if b then None else found) ≡ None
either_none true found is = refl
either_none false found is = is

no_macro : (conditions : OpenConditions) (name : Option Name) → macro_of conditions [] name ≡ None
no_macro conditions None = refl
no_macro conditions (Some name) = either_none (is_skipping conditions) None refl

abbrev by_macro : Bytes → ℕ → Option Macro → Operation
by_macro characters column found = elim found [
  | Some macro ↦ Calls macro column
  | None ↦ elim (directive_named (six_of characters)) [ Some directive ↦ OwnDirective directive column | None ↦ Foreign ]
]

abbrev by_directive : ℕ → Option Directive → Operation
by_directive column found = elim found [ Some directive ↦ OwnDirective directive column | None ↦ Foreign ]

foreign_name : (conditions : OpenConditions) (characters : Bytes) (column : ℕ) → directive_named (six_of characters) ≡ None
    → operation_of conditions [] characters column ≡ Foreign
foreign_name conditions characters column none =
    ap (by_macro characters column) (no_macro conditions (name_of (six_of characters))) ∙ ap (by_directive column) none

no_directive : (name : Bytes) → is_name_text name ≡ true → begins_with_point name ≡ false → directive_named (six_of name) ≡ None
no_directive name named other =
    ap (option_map (λ row. row.directive))
    (none_found (λ row. row.name) directive_rows (six_of name) (all_pointed (λ row. row.name) directive_rows refl)
    (six_point name named other))

-- ---- the operation of each line, where no macro is defined

abbrev pub by_operator : OpenConditions → Bytes → Option Span → Operation
by_operator conditions text found = elim found [
  | None ↦ Foreign
  | Some name ↦ operation_of conditions [] (text_between text name.start name.end) name.end
]

foreign_line : (conditions : OpenConditions) (text name : Bytes) → NamedLine text name → directive_named (six_of name) ≡ None
    → operation conditions [] text ≡ Foreign
foreign_line conditions text name line none =
    ap (λ b. by_operator conditions text (operator_in b)) line.body
    ∙ ap (λ t. operation_of conditions [] t (1 + length name)) line.name_is
    ∙ foreign_name conditions name (1 + length name) none

data_line : (text name : Bytes) (number : ℕ) → is_name_text name ≡ true → begins_with_point name ≡ true → 1 < length name
    → text ≡ 9 ∷ (name ++ spaced gap (number_text number)) → NamedLine text name
data_line text (first ∷ (second ∷ name)) number named pointed long at = record {
  body = body_named (first ∷ (second ∷ name)) text (spaced gap (number_text number)) named refl at
      (spaces_stop gap (number_text number) refl) (opens text (first ∷ (second ∷ name)) number at);
  name_is = between text (first ∷ (second ∷ name)) (spaced gap (number_text number)) 1
      (past text (9 ∷ []) ((first ∷ (second ∷ name)) ++ spaced gap (number_text number)) 0 at) (omega arith);
}
data_line text (first ∷ []) number named pointed long at = absurd (omega arith)
data_line text [] number named pointed long at = absurd (omega arith)

statement_foreign : (symbols : List Symbol) → AllByRecursion IsSpelled symbols → (conditions : OpenConditions) (row : Option Row) (location word : ℕ) (more : List ℕ) → OfFound IsPadded row
    → operation conditions [] (line_text symbols (statement_by row location word more)) ≡ Foreign
statement_foreign symbols spelled conditions None location word more padded =
    foreign_line conditions (line_text symbols (statements.DataWord word)) (codes ".WORD")
    (data_line (line_text symbols (statements.DataWord word)) (codes ".WORD") word refl refl (omega arith) refl) refl
statement_foreign symbols spelled conditions (Some row) location word more padded =
    let operands = operands_of location more (instruction_of word) in
    let text : Bytes = line_text symbols (statements.Named row.name operands) in
    let parts = name_parts row.name padded in
    foreign_line conditions text (bare_name row.name) (named_line symbols spelled text row.name padded operands refl)
    (no_directive (bare_name row.name) parts.named parts.other)

pub word_foreign : (symbols : List Symbol) → AllByRecursion IsSpelled symbols → (conditions : OpenConditions) (location word : ℕ) (more : List ℕ)
    → operation conditions [] (line_text symbols (statement_of location word more)) ≡ Foreign
word_foreign symbols spelled conditions location word more =
    statement_foreign symbols spelled conditions (whole_row word more) location word more (row_padded word more)

pub asect_foreign : (conditions : OpenConditions) → operation conditions [] (codes "\t.ASECT") ≡ Foreign
asect_foreign conditions =
    ap (λ b. by_operator conditions (codes "\t.ASECT") (operator_in b)) asect_body ∙ foreign_name conditions (codes ".ASECT") 7 refl

pub set_foreign : (conditions : OpenConditions) (address : ℕ) → operation conditions [] (prefixed (codes "\t.=") address) ≡ Foreign
set_foreign conditions address =
    let text : Bytes = prefixed (codes "\t.=") address in
    ap (λ b. by_operator conditions text (operator_in b)) (set_body text address refl)

pub byte_foreign : (conditions : OpenConditions) (byte : ℕ) → operation conditions [] (line_text [] (statements.DataByte byte)) ≡ Foreign
byte_foreign conditions byte =
    foreign_line conditions (line_text [] (statements.DataByte byte)) (codes ".BYTE")
    (data_line (line_text [] (statements.DataByte byte)) (codes ".BYTE") byte refl refl (omega arith) refl) refl

-- `.END` ends the source
pub end_is_own : (text : Bytes) → body_of text ≡ operator_ending 5 → text_between text 1 5 ≡ codes ".END"
    → operation no_conditions [] text ≡ OwnDirective End 5
end_is_own text body name =
    ap (λ b. by_operator no_conditions text (operator_in b)) body
    ∙ ap (λ t. operation_of no_conditions [] t 5) name
    ∙ ap (by_macro (codes ".END") 5) (no_macro no_conditions (name_of (six_of (codes ".END"))))

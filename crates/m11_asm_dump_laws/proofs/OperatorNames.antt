-- The name of an operation is the operator of its line.
use Rattle.std.proofs.Common.{◌≡◌, ◌∙◌, ℕ, ◌-◌, ◌≤◌, true, false, List, [], ◌∷◌, find, length, Option, Some, None, option_map, inl, inr, refl, sym, ap, arith}
use Rattle.std.specs.Prelude.{◌==◌, ◌&&◌, not, nat_le, if◌then◌else◌}
use Rattle.std.specs.List.{AllByRecursion, list_all}
use Rattle.std.specs.Str.{bytes_eq}
use Rattle.std.proofs.lemmas.Bool.{and_parts, cases_Bool, false≢true, leb-true, lt-ltb, ne_eqb}
use Rattle.std.proofs.lemmas.Slice.Eq.{bytes_eq-Decides}
use Rattle.m11_base.specs.Devices.{Bytes}
use Rattle.m11_base.specs.Instructions.{other_names, rows}
use Rattle.m11_base.specs.Mnemonics.{named_in, operation_named, or_else}
use Rattle.m11_base.specs.NameCharacters.{folded, is_name_character, six_of}
use Rattle.m11_base.specs.declared.instruction.Op.{Op}
use Rattle.m11_scan.specs.Classes.{is_digit}
use Rattle.m11_asm_rules.specs.Operators.{directive_rows, operator_named}
use Rattle.m11_asm_rules.specs.declared.operators.DirectiveRow.{DirectiveRow}
use Rattle.m11_asm_rules.specs.declared.operators.Operator.{Operator}
use Rattle.m11_asm_rules.specs.declared.operators.Operator.TheVariants as operators
use Rattle.m11_asm_dump_laws.proofs.RowNames.{begins_with_point}
use Rattle.m11_asm_dump_laws.proofs.Tokens.{is_name_text}

-- ---- no directive has a name without a point

-- the names of these rows begin with a point
abbrev pub ArePointed : {R : Type 0} → (R → Bytes) → List R → Type 0
ArePointed name_of rows = AllByRecursion (λ row. begins_with_point (name_of row) ≡ true) rows

pub all_pointed : {R : Type 0} (name_of : R → Bytes) (list : List R) → list_all (λ row. begins_with_point (name_of row)) list ≡ true
    → ArePointed name_of list
all_pointed name_of [] e = tt
all_pointed name_of (row ∷ list) e =
    let parts = and_parts (begins_with_point (name_of row)) (list_all (λ r. begins_with_point (name_of r)) list) e in
    (parts.0, all_pointed name_of list parts.1)

differs : (name text : Bytes) → begins_with_point name ≡ true → begins_with_point text ≡ false → bytes_eq name text ≡ false
differs name text pointed other =
    elim (cases_Bool (bytes_eq name text)) [
      | inl is ↦
          let same : name ≡ text = (bytes_eq-Decides name text).0 is in
          absurd (false≢true (sym other ∙ sym (ap begins_with_point same) ∙ pointed))
      | inr is ↦ is
    ]

pub none_found : {R : Type 0} (name_of : R → Bytes) (list : List R) (text : Bytes) → ArePointed name_of list
    → begins_with_point text ≡ false → find (λ row. bytes_eq (name_of row) text) list ≡ None
none_found name_of [] text all other = refl
none_found name_of (row ∷ list) text all other =
    ap (λ b. if b then Some row else find (λ r. bytes_eq (name_of r) text) list) (differs (name_of row) text all.0 other)
    ∙ none_found name_of list text all.1 other

-- a character in upper case is a point only if the character is one
folded_point : (byte : ℕ) → (byte == 0o56) ≡ false → (folded byte == 0o56) ≡ false
folded_point byte other =
    elim (cases_Bool (nat_le 0o141 byte && nat_le byte 0o172)) [
      | inl is ↦
          let least : 0o141 ≤ byte = leb-true 0o141 byte (and_parts (nat_le 0o141 byte) (nat_le byte 0o172) is).0 in
          ap (λ b. (if b then byte - 0o40 else byte) == 0o56) is ∙ ne_eqb (byte - 0o40) 0o56 (λ e. absurd (omega (arith, least, e)))
      | inr is ↦ ap (λ b. (if b then byte - 0o40 else byte) == 0o56) is ∙ other
    ]

pub six_point : (name : Bytes) → is_name_text name ≡ true → begins_with_point name ≡ false → begins_with_point (six_of name) ≡ false
six_point [] named other = refl
six_point (byte ∷ name) named other =
    ap (λ b. (if b then folded byte else 0o40) == 0o56) (lt-ltb 0 (length (byte ∷ name)) (omega arith)) ∙ folded_point byte other

-- ---- the operation

instruction_found : (name : Bytes) → is_name_text name ≡ true
    → operation_named name ≡ or_else (named_in rows (six_of name)) (named_in other_names (six_of name))
instruction_found [] named = absurd (false≢true named)
instruction_found (byte ∷ name) named =
    let parts = and_parts (not (is_digit byte)) (list_all is_name_character (byte ∷ name)) named in
    ap (λ b. if b then or_else (named_in rows (six_of (byte ∷ name))) (named_in other_names (six_of (byte ∷ name))) else None) parts.1

abbrev operator_by : Option DirectiveRow → Option Op → Option Operator
operator_by directive operation = elim directive [
  | Some row ↦ Some (operators.Directive row.directive)
  | None ↦ option_map operators.Instruction operation
]

pub operator_is : (name : Bytes) (operation : Op) → is_name_text name ≡ true → begins_with_point name ≡ false
    → operation_named name ≡ Some operation → operator_named (six_of name) ≡ Some (operators.Instruction operation)
operator_is name operation named other is =
    ap (λ d. operator_by d (or_else (named_in rows (six_of name)) (named_in other_names (six_of name))))
    (none_found (λ (row : DirectiveRow). row.name) directive_rows (six_of name)
    (all_pointed (λ (row : DirectiveRow). row.name) directive_rows refl) (six_point name named other))
    ∙ ap (option_map operators.Instruction) (sym (instruction_found name named) ∙ is)

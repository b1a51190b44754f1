-- The lines of a disassembly fit into lines of a source.
use Rattle.std.proofs.Common.{◌≡◌, ◌∙◌, ℕ, suc, ◌≤◌, ◌<◌, true, false, List, [], ◌∷◌, ◌++◌, length, refl, sym, subst, ap, arith, codes}
use Rattle.std.specs.List.{AllByRecursion}
use Rattle.std.proofs.lemmas.Bool.{le-ltb}
use Rattle.std.proofs.lemmas.List.{length-append, take_all}
use Rattle.m11_base.specs.Devices.{Bytes}
use Rattle.m11_base.specs.declared.operand.Register.{Register}
use Rattle.m11_base.specs.declared.operand.Register.TheVariants.{R0, R1, R2, R3, R4, R5, Sp, Pc}
use Rattle.m11_base_disassembly.specs.Arguments.{Argument}
use Rattle.m11_base_disassembly.specs.Arguments as argument
use Rattle.m11_base_disassembly.specs.Numbers.{number_text}
use Rattle.m11_base_disassembly.specs.Statements.{Operands, Statement}
use Rattle.m11_base_disassembly.specs.Statements as statements
use Rattle.m11_base_disassembly.specs.Names.{bare_name}
use Rattle.m11_base_disassembly.specs.Symbols.{address_text}
use Rattle.m11_base_disassembly.specs.Texts.{name_text, register_text}
use Rattle.m11_base_disassembly.specs.declared.symbols.Symbol.{Symbol}
use Rattle.m11_asm_dump_laws.specs.Knowledge.{IsSpelled}
use Rattle.m11_asm_dump_laws.specs.Texts.{argument_text, line_text}
use Rattle.m11_asm_dump_laws.proofs.UnreferredOperands.{operands_text, operands_unreferred}
use Rattle.m11_scan.specs.Line.{SourceLine, line_limit}
use Rattle.m11_unfold_rules.specs.Unfolding.{UnfoldedLine}
use Rattle.m11_asm_dump_laws.specs.Lines.{IsLine}
use Rattle.m11_asm_dump_laws.proofs.Addresses.{address_token}
use Rattle.m11_asm_dump_laws.proofs.ArgumentTexts.{between_length, index_length}
use Rattle.m11_asm_dump_laws.proofs.Digits.{number_width}
use Rattle.m11_asm_dump_laws.proofs.RowNames.{bare_parts, spaces}

-- ---- operands

register_width : (register : Register) → length (register_text register) ≡ 2
register_width R0 = refl
register_width R1 = refl
register_width R2 = refl
register_width R3 = refl
register_width R4 = refl
register_width R5 = refl
register_width Sp = refl
register_width Pc = refl

module _ (symbols : List Symbol) (spelled : AllByRecursion IsSpelled symbols) where
  address_width : (address : ℕ) → length (address_text symbols address) ≤ 6
  address_width address = (address_token symbols spelled address).short

  argument_width : (a : Argument) → length (argument_text symbols a) ≤ 11
  argument_width (argument.Plain register) = let r = register_width register in omega (arith, r)
  argument_width (argument.Deferred register) =
      let r = register_width register in let e = between_length (codes "(") (codes ")") register in omega (arith, r, e)
  argument_width (argument.Forward register) =
      let r = register_width register in let e = between_length (codes "(") (codes ")+") register in omega (arith, r, e)
  argument_width (argument.DeferredForward register) =
      let r = register_width register in let e = between_length (codes "@(") (codes ")+") register in omega (arith, r, e)
  argument_width (argument.Backward register) =
      let r = register_width register in let e = between_length (codes "-(") (codes ")") register in omega (arith, r, e)
  argument_width (argument.DeferredBackward register) =
      let r = register_width register in let e = between_length (codes "@-(") (codes ")") register in omega (arith, r, e)
  argument_width (argument.Indexed number register) =
      let r = register_width register in let n = number_width number in let e = index_length number register in omega (arith, r, n, e)
  argument_width (argument.DeferredIndexed number register) =
      let r = register_width register in let n = number_width number in let e = index_length number register in omega (arith, r, n, e)
  argument_width (argument.Immediate number) = let n = number_width number in omega (arith, n)
  argument_width (argument.Absolute address) = let n = address_width address in omega (arith, n)
  argument_width (argument.Relative address) = let n = address_width address in omega (arith, n)
  argument_width (argument.DeferredRelative address) = let n = address_width address in omega (arith, n)

  pair_width : (a b : Argument) → length (argument_text symbols a ++ 0o54 ∷ argument_text symbols b) ≤ 23
  pair_width a b =
      let one = argument_width a in let other = argument_width b in
      let e = length-append (argument_text symbols a) (0o54 ∷ argument_text symbols b) in omega (arith, one, other, e)

  operands_width : (operands : Operands) → length (operands_text symbols operands) ≤ 23
  operands_width statements.Nothing = omega arith
  operands_width (statements.One a) = let one = argument_width a in omega (arith, one)
  operands_width (statements.Two a b) = pair_width a b
  operands_width (statements.Target address) = let n = address_width address in omega (arith, n)
  operands_width (statements.Loop register address) = pair_width (argument.Plain register) (argument.Relative address)
  operands_width (statements.Number number) = let n = number_width number in omega (arith, n)

  -- ---- lines

  -- a name that has at most six characters, and after it operands
  named_width : (name text : Bytes) → length name ≤ 6 → length text ≤ 23 → length (9 ∷ (name_text name ++ text)) ≤ line_limit
  named_width name text short most =
      let e = length-append (name_text name) text in let f = length-append name (0o40 ∷ []) in omega (arith, short, most, e, f)

  bare_width : (name : Bytes) → length name ≤ 6 → length (9 ∷ bare_name name) ≤ line_limit
  bare_width name short =
      let e = ap length (bare_parts name) in let f = length-append (bare_name name) (spaces name) in omega (arith, short, e, f)

  pub line_width : (name : Bytes) (operands : Operands) → length name ≤ 6
      → length (line_text symbols (statements.Named name operands)) ≤ line_limit
  line_width name statements.Nothing short = bare_width name short
  line_width name (statements.One a) short = named_width name _ short (operands_width (statements.One a))
  line_width name (statements.Two a b) short =
      let P : Bytes → Type 0 = λ text. length text ≤ 23 in
      named_width name _ short (subst P (sym (operands_unreferred symbols (statements.Two a b))) (operands_width (statements.Two a b)))
  line_width name (statements.Target address) short = named_width name _ short (operands_width (statements.Target address))
  line_width name (statements.Loop register address) short =
      named_width name _ short (operands_width (statements.Loop register address))
  line_width name (statements.Number number) short = named_width name _ short (operands_width (statements.Number number))

  pub word_width : (word : ℕ) → length (line_text symbols (statements.DataWord word)) ≤ line_limit
  word_width word = let n = number_width word in omega (arith, n)

  pub byte_width : (byte : ℕ) → length (line_text symbols (statements.DataByte byte)) ≤ line_limit
  byte_width byte = let n = number_width byte in omega (arith, n)

-- a line has all of these characters
pub record IsWhole (given : UnfoldedLine) (written : Bytes) : Type 0 where
  pub text : given.live.line.text ≡ written
  pub whole : given.live.line.is_over_long ≡ false
  pub own : given.is_own ≡ false

pub whole_line : (given : UnfoldedLine) (written : Bytes) → length written ≤ line_limit → IsLine given written → IsWhole given written
whole_line given written most this = record {
  text = ap (λ (l : SourceLine). l.text) this.line ∙ take_all line_limit written most;
  whole = ap (λ (l : SourceLine). l.is_over_long) this.line ∙ le-ltb line_limit (length written) most;
  own = this.own;
}

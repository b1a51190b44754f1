-- The forms of operands, and the words that they emit.
use Rattle.std.proofs.Common.{◌≡◌, ◌∙◌, ℕ, ◌%◌, ◌<◌, Bool, true, false, List, [], ◌∷◌, length, map, refl, ap, arith}
use Rattle.std.specs.Prelude.{if◌then◌else◌}
use Rattle.std.specs.List.{AllByRecursion}
use Rattle.m11_base.specs.Operand.{register_number, register_of}
use Rattle.m11_base.specs.declared.operand.Mode.TheVariants as mode
use Rattle.m11_base.specs.declared.operand.Register.{Register}
use Rattle.m11_base.specs.declared.operand.Register.TheVariants.{R0, R1, R2, R3, R4, R5, Sp, Pc}
use Rattle.m11_base_disassembly.specs.Arguments.{Argument, operand_meant, words_meant}
use Rattle.m11_base_disassembly.specs.Arguments as argument
use Rattle.m11_base_disassembly.specs.declared.symbols.Symbol.{Symbol}
use Rattle.m11_obj.specs.declared.pieces.PieceContent.TheVariants.{Word}
use Rattle.m11_scan_expressions.specs.Expressions.{KnownSymbols, value}
use Rattle.m11_scan_expressions.specs.Kinds.{is_register}
use Rattle.m11_scan_expressions.specs.Quantities.{Quantity}
use Rattle.m11_scan_expressions.specs.Tokens.{Expression}
use Rattle.m11_asm_rules.specs.Codes.{LineContext, as_register, as_register_flags, form_flags, form_words, operand, operand_of}
use Rattle.m11_asm_rules.specs.Contents.{Emission, emission, fixed_word, further, word}
use Rattle.m11_asm_rules.specs.Operands.{direct, form_of, indexed, words_of}
use Rattle.m11_asm_rules.specs.Relocations.{Zero, distance, is_moved, relocation_by, row_of, stored_as}
use Rattle.m11_asm_rules.specs.declared.operands.Form.{Form}
use Rattle.m11_asm_rules.specs.declared.operands.Form.TheVariants.{AfterCounter, InRegister}
use Rattle.m11_asm_rules.specs.declared.operands.Form.TheVariants as form
use Rattle.m11_asm_dump_laws.specs.Knowledge.{IsSpelled, KnowsNames, KnowsRegisters, TakesNoRegister}
use Rattle.m11_asm_dump_laws.specs.Operands.{IsWithinWord, address_written, number_written, operand_written, register_written}
use Rattle.m11_asm_dump_laws.proofs.Addresses.{address_kind, address_value}
use Rattle.m11_asm_dump_laws.proofs.Quantities.{number_value, register_read}

-- the form that an operand of a disassembly has
abbrev pub form_written : List Symbol → Argument → Form Expression
form_written symbols (argument.Plain register) = InRegister mode.Register (register_written register)
form_written symbols (argument.Deferred register) = InRegister mode.RegisterDeferred (register_written register)
form_written symbols (argument.Forward register) = InRegister mode.Autoincrement (register_written register)
form_written symbols (argument.DeferredForward register) = InRegister mode.AutoincrementDeferred (register_written register)
form_written symbols (argument.Backward register) = InRegister mode.Autodecrement (register_written register)
form_written symbols (argument.DeferredBackward register) = InRegister mode.AutodecrementDeferred (register_written register)
form_written symbols (argument.Indexed number register) = form.Indexed mode.Index (register_written register) (number_written number)
form_written symbols (argument.DeferredIndexed number register) =
    form.Indexed mode.IndexDeferred (register_written register) (number_written number)
form_written symbols (argument.Immediate number) = AfterCounter mode.Autoincrement (number_written number)
form_written symbols (argument.Absolute address) = AfterCounter mode.AutoincrementDeferred (address_written symbols address)
form_written symbols (argument.Relative address) = AfterCounter mode.Index (address_written symbols address)
form_written symbols (argument.DeferredRelative address) = AfterCounter mode.IndexDeferred (address_written symbols address)

-- a plain expression is a register if its value is one
abbrev plain_form : Bool → Expression → Quantity → Form Expression
plain_form is_deferred place found =
    if is_register found.kind then InRegister (direct is_deferred) place else AfterCounter (indexed is_deferred) place

-- an address is no register
unregistered : (is_deferred : Bool) (place : Expression) (found : Quantity) → is_register found.kind ≡ false
    → plain_form is_deferred place found ≡ AfterCounter (indexed is_deferred) place
unregistered is_deferred place found none =
    ap (λ b. if b then InRegister (direct is_deferred) place else AfterCounter (indexed is_deferred) place) none

module _ (symbols : List Symbol) (spelled : AllByRecursion IsSpelled symbols) (firm : KnownSymbols) (knows : TakesNoRegister symbols firm) where
  placed : (is_deferred : Bool) (address : ℕ) → address < 65536
      → plain_form is_deferred (address_written symbols address) (value firm (address_written symbols address))
      ≡ AfterCounter (indexed is_deferred) (address_written symbols address)
  placed is_deferred address below =
      unregistered is_deferred (address_written symbols address) (value firm (address_written symbols address))
      (address_kind symbols spelled address below firm knows)

  pub form_read : (a : Argument) → IsWithinWord a
      → form_of firm (operand_written symbols a) ≡ form_written symbols a
  form_read (argument.Plain register) below =
      ap (plain_form false (register_written register)) (register_read firm register knows.registers)
  form_read (argument.Relative address) below = placed false address below
  form_read (argument.DeferredRelative address) below = placed true address below
  form_read (argument.Deferred register) below = refl
  form_read (argument.Forward register) below = refl
  form_read (argument.DeferredForward register) below = refl
  form_read (argument.Backward register) below = refl
  form_read (argument.DeferredBackward register) below = refl
  form_read (argument.Indexed number register) below = refl
  form_read (argument.DeferredIndexed number register) below = refl
  form_read (argument.Immediate number) below = refl
  form_read (argument.Absolute number) below = refl

-- ---- the code of an operand, and its flags

numbered : (register : Register) → register_of (register_number register % 8) ≡ register
numbered R0 = refl
numbered R1 = refl
numbered R2 = refl
numbered R3 = refl
numbered R4 = refl
numbered R5 = refl
numbered Sp = refl
numbered Pc = refl

module _ (context : LineContext) (knows : KnowsRegisters context.known) where
  pub register_again : (register : Register) → as_register context (register_written register) ≡ register
  register_again register =
      ap (λ q. register_of (q.number % 8)) (register_read context.known register knows) ∙ numbered register

  pub register_unflagged : (register : Register) → as_register_flags (value context.known (register_written register)) ≡ 0
  register_unflagged register = ap as_register_flags (register_read context.known register knows)

module _ (symbols : List Symbol) (context : LineContext) (knows : KnowsRegisters context.known) where
  again : (register : Register) → as_register context (register_written register) ≡ register
  again register = register_again context knows register

  unflagged : (register : Register) → as_register_flags (value context.known (register_written register)) ≡ 0
  unflagged register = register_unflagged context knows register

  pub operand_coded : (a : Argument) → operand_of context (form_written symbols a) ≡ operand_meant a
  operand_coded (argument.Plain register) = ap (operand mode.Register) (again register)
  operand_coded (argument.Deferred register) = ap (operand mode.RegisterDeferred) (again register)
  operand_coded (argument.Forward register) = ap (operand mode.Autoincrement) (again register)
  operand_coded (argument.DeferredForward register) = ap (operand mode.AutoincrementDeferred) (again register)
  operand_coded (argument.Backward register) = ap (operand mode.Autodecrement) (again register)
  operand_coded (argument.DeferredBackward register) = ap (operand mode.AutodecrementDeferred) (again register)
  operand_coded (argument.Indexed number register) = ap (operand mode.Index) (again register)
  operand_coded (argument.DeferredIndexed number register) = ap (operand mode.IndexDeferred) (again register)
  operand_coded (argument.Immediate number) = refl
  operand_coded (argument.Absolute number) = refl
  operand_coded (argument.Relative address) = refl
  operand_coded (argument.DeferredRelative address) = refl

  pub form_unflagged : (a : Argument) → form_flags context (form_written symbols a) ≡ 0
  form_unflagged (argument.Plain register) = unflagged register
  form_unflagged (argument.Deferred register) = unflagged register
  form_unflagged (argument.Forward register) = unflagged register
  form_unflagged (argument.DeferredForward register) = unflagged register
  form_unflagged (argument.Backward register) = unflagged register
  form_unflagged (argument.DeferredBackward register) = unflagged register
  form_unflagged (argument.Indexed number register) = unflagged register
  form_unflagged (argument.DeferredIndexed number register) = unflagged register
  form_unflagged (argument.Immediate number) = refl
  form_unflagged (argument.Absolute number) = refl
  form_unflagged (argument.Relative address) = refl
  form_unflagged (argument.DeferredRelative address) = refl

-- ---- the word of an operand

pub form_size : (symbols : List Symbol) (after : ℕ) (a : Argument) → words_of (form_written symbols a) ≡ length (words_meant after a)
form_size symbols after (argument.Plain register) = refl
form_size symbols after (argument.Deferred register) = refl
form_size symbols after (argument.Forward register) = refl
form_size symbols after (argument.DeferredForward register) = refl
form_size symbols after (argument.Backward register) = refl
form_size symbols after (argument.DeferredBackward register) = refl
form_size symbols after (argument.Indexed number register) = refl
form_size symbols after (argument.DeferredIndexed number register) = refl
form_size symbols after (argument.Immediate number) = refl
form_size symbols after (argument.Absolute number) = refl
form_size symbols after (argument.Relative address) = refl
form_size symbols after (argument.DeferredRelative address) = refl

same_distance : (location address : ℕ) → location < 65536 → distance location address ≡ argument.distance (further location 2) address
same_distance location address within = omega arith

-- the emission of these words, without a flag
abbrev pub of_words : List ℕ → Emission
of_words words = emission (map fixed_word words) 0

module _ (symbols : List Symbol) (spelled : AllByRecursion IsSpelled symbols) (context : LineContext) (location : ℕ)
    (within : location < 65536) (knows : KnowsNames symbols context.refers) (still : is_moved context.table ≡ false) where
  number_emitted : (number : ℕ) → number < 65536
      → word context.table false location (value context.refers (number_written number)) ≡ of_words (number ∷ [])
  number_emitted number below = ap (λ q. word context.table false location q) (number_value context.refers number knows.registers below)

  address_emitted : (address : ℕ) → address < 65536
      → word context.table false location (value context.refers (address_written symbols address)) ≡ of_words (address ∷ [])
  address_emitted address below =
      ap (λ q. word context.table false location q) (address_value symbols spelled address below context.refers knows)

  distance_emitted : (address : ℕ) → address < 65536
      → word context.table true location (value context.refers (address_written symbols address))
      ≡ of_words (argument.distance (further location 2) address ∷ [])
  distance_emitted address below =
      ap (λ q. word context.table true location q) (address_value symbols spelled address below context.refers knows)
      ∙ ap (λ b. emission (Word (stored_as true (relocation_by true b (row_of Zero)) location address) ∷ []) 0) still
      ∙ ap (λ n. of_words (n ∷ [])) (same_distance location address within)

  pub form_emitted : (a : Argument) → IsWithinWord a
      → form_words context location (form_written symbols a) ≡ of_words (words_meant (further location 2) a)
  form_emitted (argument.Plain register) below = refl
  form_emitted (argument.Deferred register) below = refl
  form_emitted (argument.Forward register) below = refl
  form_emitted (argument.DeferredForward register) below = refl
  form_emitted (argument.Backward register) below = refl
  form_emitted (argument.DeferredBackward register) below = refl
  form_emitted (argument.Indexed number register) below = number_emitted number below
  form_emitted (argument.DeferredIndexed number register) below = number_emitted number below
  form_emitted (argument.Immediate number) below = number_emitted number below
  form_emitted (argument.Absolute address) below = address_emitted address below
  form_emitted (argument.Relative address) below = distance_emitted address below
  form_emitted (argument.DeferredRelative address) below = distance_emitted address below

pub argument_is_meant : (symbols : List Symbol) → AllByRecursion IsSpelled symbols → (firm : KnownSymbols) (context : LineContext)
    (a : Argument) → TakesNoRegister symbols firm → KnowsRegisters context.known → IsWithinWord a
    → operand_of context (form_of firm (operand_written symbols a)) ≡ operand_meant a
argument_is_meant symbols spelled firm context a firmly knows within =
    ap (operand_of context) (form_read symbols spelled firm firmly a within) ∙ operand_coded symbols context knows a

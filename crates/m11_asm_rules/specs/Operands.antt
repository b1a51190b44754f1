-- Operands as written, and their forms. (MACRO-11 Language Reference Manual, "Addressing modes"; PDP-11/40 Processor Handbook,
-- "Addressing modes". This project's own: a missing operand counts as R0, and `(` without its `)` is flagged A.)
use Rattle.std.specs.Prelude.{ℕ, ◌+◌, ◌*◌, ◌&&◌, not, Bool, true, false, if◌then◌else◌, List, [], ◌∷◌}
use Rattle.m11_base.specs.Devices.{Bytes}
use Rattle.m11_base.specs.declared.operand.Mode.{Mode}
use Rattle.m11_base.specs.declared.operand.Mode.TheVariants as mode
use Rattle.m11_scan.specs.Cutting.{Lexeme, tokens_from}
use Rattle.m11_scan.specs.Ends.{expression_end}
use Rattle.m11_scan.specs.ErrorFlags.{flag_A}
use Rattle.m11_scan.specs.Skipped.{skipped_between}
use Rattle.m11_scan.specs.declared.sort.Sort.{Sort}
use Rattle.m11_scan.specs.declared.sort.Sort.TheVariants as sorts
use Rattle.m11_scan_expressions.specs.Expressions.{KnownSymbols, value}
use Rattle.m11_scan_expressions.specs.Kinds.{is_register}
use Rattle.m11_scan_expressions.specs.Tokens.{Expression, expression}
use Rattle.m11_asm_rules.specs.declared.operands.Form.{Form}
use Rattle.m11_asm_rules.specs.declared.operands.Form.TheVariants.{InRegister, Unindexed, AfterCounter}
use Rattle.m11_asm_rules.specs.declared.operands.Form.TheVariants as form
use Rattle.m11_asm_rules.specs.declared.operands.WrittenOperand.{WrittenOperand}
use Rattle.m11_asm_rules.specs.declared.operands.WrittenOperand.TheVariants.{Absent, Plain, Pointed, Stepped, Before, Indexed, Immediate}

-- ---- the forms
--   R      register                 (R) or @R   register deferred
--   (R)+   autoincrement            @(R)+       autoincrement deferred
--   -(R)   autodecrement            @-(R)       autodecrement deferred
--   X(R)   index                    @X(R)       index deferred        @(R)   as @X(R), with the word 0
--   #n     immediate: 27            @#n         absolute: 37
--   A      relative: 67             @A          relative deferred: 77

-- the mode without `@` (false) or with it (true)
abbrev pub autoincrement : Bool → Mode
autoincrement is_deferred = if is_deferred then mode.AutoincrementDeferred else mode.Autoincrement

abbrev pub autodecrement : Bool → Mode
autodecrement is_deferred = if is_deferred then mode.AutodecrementDeferred else mode.Autodecrement

abbrev pub indexed : Bool → Mode
indexed is_deferred = if is_deferred then mode.IndexDeferred else mode.Index

abbrev pub direct : Bool → Mode
direct is_deferred = if is_deferred then mode.RegisterDeferred else mode.Register

-- the form of an operand as written; firm names decide whether an operand without `#` or `(` is a register, and other names count as 0
abbrev pub form_of : KnownSymbols → WrittenOperand Expression → Form Expression
form_of firm Absent = form.Absent
form_of firm (Plain is_deferred place) =
    if is_register (value firm place).kind then InRegister (direct is_deferred) place else AfterCounter (indexed is_deferred) place
form_of firm (Pointed is_deferred register) =
    if is_deferred then Unindexed register else InRegister mode.RegisterDeferred register
form_of firm (Stepped is_deferred register) = InRegister (autoincrement is_deferred) register
form_of firm (Before is_deferred register) = InRegister (autodecrement is_deferred) register
form_of firm (Indexed is_deferred index register) = form.Indexed (indexed is_deferred) register index
form_of firm (Immediate is_deferred number) = AfterCounter (autoincrement is_deferred) number

-- the number of words, 0 or 1, that an operand adds after the code word
abbrev pub words_of : {E : Type 0} → Form E → ℕ
words_of form.Absent = 0
words_of (InRegister kind register) = 0
words_of other = 1

-- the size in bytes of an instruction: its code word, and the words of its operands
abbrev pub instruction_size : {E : Type 0} → List (Form E) → ℕ
instruction_size [] = 2
instruction_size (form ∷ forms) = words_of form * 2 + instruction_size forms

-- ---- an operand in a line, the column after it, and its flags

pub record Read : Type 0 where
  pub operand : WrittenOperand Expression
  pub end : ℕ
  pub flags : ℕ

abbrev pub read : WrittenOperand Expression → ℕ → ℕ → Read
read operand end flags = record { operand = operand; end = end; flags = flags }

abbrev pub is_plus : Sort → Bool
is_plus sorts.Plus = true
is_plus sort = false

abbrev pub is_open : Sort → Bool
is_open sorts.Open = true
is_open sort = false

abbrev pub is_close : Sort → Bool
is_close sorts.Close = true
is_close sort = false

-- an operand with `(` and a register: complete if `)` follows, otherwise flagged A
abbrev pub closed_by : WrittenOperand Expression → ℕ → List Lexeme → Read
closed_by operand end [] = read operand end flag_A
closed_by operand end (token ∷ tokens) =
    if is_close token.sort then read operand token.end 0 else read operand end flag_A

-- an operand whose register begins at a column, after its `(`
abbrev pub closed : (Expression → WrittenOperand Expression) → Bytes → ℕ → Read
closed operand line start =
    closed_by (operand (expression line start)) (expression_end line start) (tokens_from line (expression_end line start))

-- an operand that begins with `(R)`, or with `@(R)` if the flag is true; the tokens after the `)` decide: `(R)+` if the first is `+`,
-- otherwise `(R)`
abbrev pub stepped_by : Bool → Expression → ℕ → List Lexeme → Read
stepped_by is_deferred register end [] = read (Pointed is_deferred register) end 0
stepped_by is_deferred register end (token ∷ tokens) =
    if is_plus token.sort then read (Stepped is_deferred register) token.end 0 else read (Pointed is_deferred register) end 0

-- an operand that begins with `(`, or with `@(` if the flag is true; its register begins at a column. It is `(R)` or `(R)+`, flagged A if
-- the `)` is missing
abbrev pub bracketed : Bool → Bytes → ℕ → Read
bracketed is_deferred line start =
    let register = expression line start in let end = expression_end line start in elim (tokens_from line end) [
      | [] ↦ read (Pointed is_deferred register) end flag_A
      | token ∷ tokens ↦ if is_close token.sort then stepped_by is_deferred register token.end tokens else read (Pointed is_deferred register) end flag_A
    ]

-- an operand that begins with an expression, which is an index if `(` follows
abbrev pub place : Bool → Bytes → ℕ → Read
place is_deferred line start =
    let written = expression line start in let end = expression_end line start in elim (tokens_from line end) [
      | [] ↦ read (Plain is_deferred written) end 0
      | token ∷ tokens ↦ if is_open token.sort then closed (Indexed is_deferred written) line token.end else read (Plain is_deferred written) end 0
    ]

-- an operand that begins with `-`: autodecrement if `(` follows with nothing but blanks between them; any other `-` is a sign
abbrev pub after_minus : Bool → Bytes → ℕ → ℕ → List Lexeme → Read
after_minus is_deferred line start end [] = place is_deferred line start
after_minus is_deferred line start end (token ∷ tokens) =
    if is_open token.sort && not (skipped_between line end token.start) then closed (Before is_deferred) line token.end
    else place is_deferred line start

-- the operand that begins with a token, with or without `@` before it
abbrev pub begun_by : Bool → Bytes → ℕ → Sort → ℕ → List Lexeme → Read
begun_by is_deferred line start sorts.NumberSign end tokens =
    read (Immediate is_deferred (expression line end)) (expression_end line end) 0
begun_by is_deferred line start sorts.Open end tokens = bracketed is_deferred line end
begun_by is_deferred line start sorts.Minus end tokens = after_minus is_deferred line start end tokens
begun_by is_deferred line start sort end tokens = place is_deferred line start

-- the operand after `@`
abbrev pub deferred_by : Bytes → ℕ → List Lexeme → Read
deferred_by line start [] = place true line start
deferred_by line start (token ∷ tokens) = begun_by true line start token.sort token.end tokens

-- the operand at a column of a line; flagged A if it is missing
abbrev pub operand_at : Bytes → ℕ → Read
operand_at line start = elim (tokens_from line start) [
  | [] ↦ read Absent start flag_A
  | token ∷ tokens ↦ elim token.sort [
    | sorts.At ↦ deferred_by line token.end tokens
    | sorts.Comma ↦ read Absent start flag_A
    | _ ↦ begun_by false line start token.sort token.end tokens
  ]
]

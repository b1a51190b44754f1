-- An instruction emits the words that its line means.
use Rattle.std.proofs.Common.{◌≡◌, ◌∙◌, ℕ, ◌+◌, ◌*◌, ◌%◌, ◌<◌, false, not, List, [], ◌∷◌, ◌++◌, length, map, drop, refl, sym, ap, ap₂, arith, append-nil}
use Rattle.std.specs.Int.{cast_signed, w8}
use Rattle.std.specs.List.{AllByRecursion}
use Rattle.std.specs.Int.RustNames.{bit_or}
use Rattle.std.proofs.lemmas.Bool.{lt-leb}
use Rattle.std.proofs.lemmas.List.{length-append, map-append}
use Rattle.m11_base.specs.Devices.{Bytes}
use Rattle.m11_base.specs.Encoding.{code_of, number_limit}
use Rattle.m11_base.specs.declared.instruction.Insn.{Insn}
use Rattle.m11_base.specs.declared.instruction.Insn.TheVariants as insn
use Rattle.m11_base.specs.declared.instruction.BranchOp.{BranchOp}
use Rattle.m11_base.specs.declared.instruction.DoubleOp.{DoubleOp}
use Rattle.m11_base.specs.declared.instruction.ExtendedOp.{ExtendedOp}
use Rattle.m11_base.specs.declared.instruction.RegisterOp.{RegisterOp}
use Rattle.m11_base.specs.declared.instruction.SingleOp.{SingleOp}
use Rattle.m11_base.specs.declared.operand.Register.{Register}
use Rattle.m11_base.specs.declared.operand.Size.{Size}
use Rattle.m11_base.specs.declared.instruction.NumberOp.{NumberOp}
use Rattle.m11_base.specs.declared.instruction.NumberOp.TheVariants.{Mark, Emt, Trap}
use Rattle.m11_base.specs.declared.instruction.Op.{Op}
use Rattle.m11_base.specs.declared.instruction.Op.TheVariants as op
use Rattle.m11_base_disassembly.specs.Arguments.{Argument, operand_meant, words_meant}
use Rattle.m11_base_disassembly.specs.Arguments as argument
use Rattle.m11_base_disassembly.specs.Instructions.{location_after}
use Rattle.m11_base_disassembly.specs.Meaning.{Means, first_words, second_words}
use Rattle.m11_base_disassembly.specs.Numbers.{number_text}
use Rattle.m11_base_disassembly.specs.Statements.{Operands}
use Rattle.m11_base_disassembly.specs.Statements as statements
use Rattle.m11_base_disassembly.specs.Texts.{register_text}
use Rattle.m11_base_disassembly.specs.Symbols.{address_text}
use Rattle.m11_base_disassembly.specs.declared.symbols.Symbol.{Symbol}
use Rattle.m11_asm_dump_laws.specs.Texts.{argument_text}
use Rattle.m11_asm_dump_laws.proofs.UnreferredOperands.{operands_text}
use Rattle.m11_scan.specs.Cutting.{tokens_from}
use Rattle.m11_scan.specs.ErrorFlags.{flag_A, flag_T, flag_if}
use Rattle.m11_scan_expressions.specs.Expressions.{KnownSymbols, value}
use Rattle.m11_scan_expressions.specs.Quantities.{absolute}
use Rattle.m11_scan_expressions.specs.Tokens.{Expression}
use Rattle.m11_asm_rules.specs.Branches.{branch_offset, loop_offset}
use Rattle.m11_asm_rules.specs.Codes.{LineContext, code, field_flags, instruction, numbered_flags, targeted_flags, words_from}
use Rattle.m11_asm_rules.specs.Contents.{emission, fixed_word, followed_by, further, nothing, with_flags}
use Rattle.m11_asm_rules.specs.Elements.{argument_flags}
use Rattle.m11_asm_rules.specs.Fields.{fields_at, forms_of}
use Rattle.m11_asm_rules.specs.Instructions.{assembled}
use Rattle.m11_asm_rules.specs.Operands.{instruction_size, words_of}
use Rattle.m11_asm_rules.specs.Relocations.{is_moved}
use Rattle.m11_asm_rules.specs.declared.fields.Field.{Field}
use Rattle.m11_asm_rules.specs.declared.fields.Field.TheVariants as content
use Rattle.m11_asm_dump_laws.specs.Knowledge.{IsSpelled, KnowsNames, TakesNoRegister}
use Rattle.m11_asm_dump_laws.specs.Operands.{IsWithinWord, address_written, number_written}
use Rattle.m11_asm_dump_laws.proofs.Addresses.{address_value}
use Rattle.m11_asm_dump_laws.proofs.Forms.{form_emitted, form_size, form_unflagged, form_written, of_words, operand_coded, register_again, register_unflagged}
use Rattle.m11_asm_dump_laws.proofs.Reaches.{branch_counted, branch_reached, loop_counted, loop_reached}
use Rattle.m11_asm_dump_laws.proofs.ReadFields.{NumberField, OperandField, RegisterField, TargetField, Written, field_of, fields_written, none_read, one_read, text_of, two_read}
use Rattle.m11_asm_dump_laws.proofs.RowNames.{AreWithinWords}
use Rattle.m11_asm_dump_laws.proofs.Tokens.{past}
use Rattle.m11_asm_dump_laws.proofs.Quantities.{number_value}

-- there are operands
abbrev pub HasOperands : Operands → Type 0
HasOperands statements.Nothing = ⊥
HasOperands other = Unit {0}

first_after : (location : ℕ) → further (further location 2) 2 ≡ location_after location 4
first_after location = omega arith

second_after : (location size count : ℕ) → size ≡ count
    → further (further (further location 2) (size * 2)) 2 ≡ location_after location (4 + 2 * count)
second_after location size count e = omega arith

more_size : (code : ℕ) (more : List ℕ) → length (code ∷ more) * 2 ≡ 2 + length more * 2
more_size code more = omega arith

further_within : (location size : ℕ) → further location size < 65536
further_within location size = omega arith

limit_word : (o : NumberOp) (number : ℕ) → number < number_limit o → number < 65536
limit_word Mark number fits = omega arith
limit_word Emt number fits = omega arith
limit_word Trap number fits = omega arith

number_kept : (o : NumberOp) (number : ℕ) → number < number_limit o → number % number_limit o ≡ number
number_kept Mark number fits = omega arith
number_kept Emt number fits = omega arith
number_kept Trap number fits = omega arith

-- what an instruction emits: these words, which are as many as its operands need; its name ends at the column `start`
pub record Emits (context : LineContext) (firm : KnownSymbols) (line : Bytes) (start : ℕ) (operation : Op) (words : List ℕ) : Type 0 where
  pub emitted : assembled context line start operation (fields_at firm line start operation) ≡ of_words words
  pub sized : instruction_size (forms_of (fields_at firm line start operation)) ≡ length words * 2

one_sized : (symbols : List Symbol) (location : ℕ) (a : Argument)
    → instruction_size (form_written symbols a ∷ []) ≡ 2 + length (first_words location a) * 2
one_sized symbols location a = let size = form_size symbols (location_after location 4) a in omega (arith, size)

two_sized : (symbols : List Symbol) (location : ℕ) (a b : Argument)
    → instruction_size (form_written symbols a ∷ form_written symbols b ∷ [])
    ≡ 2 + length (first_words location a ++ second_words location a b) * 2
two_sized symbols location a b =
    let size = form_size symbols (location_after location 4) a in
    let other = form_size symbols (location_after location (4 + 2 * length (first_words location a))) b in
    let both = length-append (first_words location a) (second_words location a b) in omega (arith, size, other, both)

module _ (symbols : List Symbol) (spelled : AllByRecursion IsSpelled symbols) (context : LineContext) (knows : KnowsNames symbols context.known)
    (refers : KnowsNames symbols context.refers) (still : is_moved context.table ≡ false) (within : context.location < 65536) where
  -- ---- the words of operands

  one_emitted : (a : Argument) → IsWithinWord a
      → words_from context (further context.location 2) (form_written symbols a ∷ []) ≡ of_words (first_words context.location a)
  one_emitted a below =
      let at : ℕ = further context.location 2 in
      ap (λ x. followed_by x (nothing 0)) (form_emitted symbols spelled context at (further_within context.location 2) refers still a below)
      ∙ ap (λ c. emission c 0) (append-nil (map fixed_word (words_meant (further at 2) a)))
      ∙ ap (λ n. of_words (words_meant n a)) (first_after context.location)

  two_emitted : (a b : Argument) → IsWithinWord a → IsWithinWord b
      → words_from context (further context.location 2) (form_written symbols a ∷ form_written symbols b ∷ [])
      ≡ of_words (first_words context.location a ++ second_words context.location a b)
  two_emitted a b below_a below_b =
      let at : ℕ = further context.location 2 in
      let next : ℕ = further at (words_of (form_written symbols a) * 2) in
      let first : List ℕ = words_meant (further at 2) a in
      let second : List ℕ = words_meant (further next 2) b in
      let size = form_size symbols (location_after context.location 4) a in
      ap (λ x. followed_by x (words_from context next (form_written symbols b ∷ [])))
      (form_emitted symbols spelled context at (further_within context.location 2) refers still a below_a)
      ∙ ap (λ x. followed_by (of_words first) (followed_by x (nothing 0)))
      (form_emitted symbols spelled context next (further_within at (words_of (form_written symbols a) * 2)) refers still b below_b)
      ∙ ap (λ c. emission (map fixed_word first ++ c) 0) (append-nil (map fixed_word second))
      ∙ ap (λ c. emission c 0) (sym (map-append fixed_word first second))
      ∙ ap₂ (λ m n. of_words (words_meant m a ++ words_meant n b)) (first_after context.location)
      (second_after context.location (words_of (form_written symbols a)) (length (first_words context.location a)) size)

  -- ---- the code word, with what follows it

  coded : (operation : Op) (first second : Field Expression) (i : Insn) → instruction context operation first second ≡ i
      → field_flags context operation first ≡ 0 → field_flags context operation second ≡ 0
      → code context operation first second ≡ of_words (code_of i ∷ [])
  coded operation first second i is one other =
      ap (λ x. emission (fixed_word (code_of x) ∷ []) (bit_or (field_flags context operation first) (field_flags context operation second))) is
      ∙ ap₂ (λ m n. emission (fixed_word (code_of i) ∷ []) (bit_or m n)) one other

  module _ (firm : KnownSymbols) (known : TakesNoRegister symbols firm) (line : Bytes) (start column : ℕ)
      (same : tokens_from line start ≡ tokens_from line column)
      (clean : (end : ℕ) → drop end line ≡ [] → argument_flags line start end ≡ 0) where
    -- what is emitted where the fields are these, and no text is left over
    put : (operation : Op) (first second : Field Expression) (end : ℕ) (i : Insn) (more words : List ℕ)
        → fields_at firm line start operation ≡ fields_written first second end → drop end line ≡ []
        → instruction context operation first second ≡ i → field_flags context operation first ≡ 0
        → field_flags context operation second ≡ 0
        → words_from context (further context.location 2) (forms_of (fields_written first second end)) ≡ of_words more
        → instruction_size (forms_of (fields_written first second end)) ≡ 2 + length more * 2
        → words ≡ code_of i ∷ more → Emits context firm line start operation words
    put operation first second end i more words read left is one other operands size means = record {
      emitted = ap (assembled context line start operation) read
          ∙ ap (λ f. with_flags (bit_or 0 f) (followed_by (code context operation first second)
          (words_from context (further context.location 2) (forms_of (fields_written first second end))))) (clean end left)
          ∙ ap₂ (λ x y. with_flags 0 (followed_by x y)) (coded operation first second i is one other) operands
          ∙ ap of_words (sym means);
      sized = ap (λ f. instruction_size (forms_of f)) read ∙ size ∙ sym (ap (λ ws. length ws * 2) means ∙ more_size (code_of i) more);
    }

    -- the text of two fields is the rest of the line
    two_left : (f g : Written) → drop column line ≡ text_of symbols f ++ 0o54 ∷ text_of symbols g
        → drop (column + length (text_of symbols f) + 1 + length (text_of symbols g)) line ≡ []
    two_left f g at =
        let end : ℕ = column + length (text_of symbols f) in
        past line (text_of symbols g) [] (end + 1)
        (past line (0o54 ∷ []) (text_of symbols g) end (past line (text_of symbols f) (0o54 ∷ text_of symbols g) column at) ∙ sym (append-nil (text_of symbols g)))

    one_left : (f : Written) → drop column line ≡ text_of symbols f → drop (column + length (text_of symbols f)) line ≡ []
    one_left f at = past line (text_of symbols f) [] column (at ∙ sym (append-nil (text_of symbols f)))

    pub none_emitted : (operation : Op) (words : List ℕ) → Means operation statements.Nothing context.location words → drop start line ≡ []
        → Emits context firm line start operation words
    none_emitted (op.Bare operation) words means left =
        put (op.Bare operation) content.Missing content.Missing start (insn.Bare operation) [] words
        (none_read symbols spelled firm known line start column same (op.Bare operation) refl refl) left refl refl refl refl refl means
    none_emitted (op.Codes operation condition_codes) words means left =
        put (op.Codes operation condition_codes) content.Missing content.Missing start (insn.Condition operation condition_codes) [] words
        (none_read symbols spelled firm known line start column same (op.Codes operation condition_codes) refl refl) left refl refl refl refl refl means
    none_emitted operation words means left = absurd means

    -- ---- two operands

    double_emitted : (operation : DoubleOp) (size : Size) (a b : Argument) (words : List ℕ)
        → Means (op.Double operation size) (statements.Two a b) context.location words → IsWithinWord a → IsWithinWord b
        → drop column line ≡ argument_text symbols a ++ 0o54 ∷ argument_text symbols b
        → Emits context firm line start (op.Double operation size) words
    double_emitted operation size a b words means below_a below_b at =
        put (op.Double operation size) (field_of symbols (OperandField a)) (field_of symbols (OperandField b)) _
        (insn.Double operation size (operand_meant a) (operand_meant b))
        (first_words context.location a ++ second_words context.location a b) words
        (two_read symbols spelled firm known line start column same (op.Double operation size) (OperandField a) (OperandField b) below_a below_b refl refl at)
        (two_left (OperandField a) (OperandField b) at)
        (ap₂ (λ x y. insn.Double operation size x y) (operand_coded symbols context knows.registers a) (operand_coded symbols context knows.registers b))
        (form_unflagged symbols context knows.registers a) (form_unflagged symbols context knows.registers b) (two_emitted a b below_a below_b) (two_sized symbols context.location a b) means

    extended_emitted : (operation : ExtendedOp) (a : Argument) (register : Register) (words : List ℕ)
        → Means (op.Extended operation) (statements.Two a (argument.Plain register)) context.location words → IsWithinWord a
        → drop column line ≡ argument_text symbols a ++ 0o54 ∷ register_text register
        → Emits context firm line start (op.Extended operation) words
    extended_emitted operation a register words means below at =
        put (op.Extended operation) (field_of symbols (OperandField a)) (field_of symbols (RegisterField register)) _
        (insn.Extended operation register (operand_meant a)) (first_words context.location a) words
        (two_read symbols spelled firm known line start column same (op.Extended operation) (OperandField a) (RegisterField register) below tt refl refl at)
        (two_left (OperandField a) (RegisterField register) at)
        (ap₂ (λ x y. insn.Extended operation x y) (register_again context knows.registers register) (operand_coded symbols context knows.registers a))
        (form_unflagged symbols context knows.registers a) (register_unflagged context knows.registers register) (one_emitted a below) (one_sized symbols context.location a) means

    register_emitted : (operation : RegisterOp) (register : Register) (b : Argument) (words : List ℕ)
        → Means (op.Register operation) (statements.Two (argument.Plain register) b) context.location words → IsWithinWord b
        → drop column line ≡ register_text register ++ 0o54 ∷ argument_text symbols b
        → Emits context firm line start (op.Register operation) words
    register_emitted operation register b words means below at =
        put (op.Register operation) (field_of symbols (RegisterField register)) (field_of symbols (OperandField b)) _
        (insn.Register operation register (operand_meant b)) (first_words context.location b) words
        (two_read symbols spelled firm known line start column same (op.Register operation) (RegisterField register) (OperandField b) tt below refl refl at)
        (two_left (RegisterField register) (OperandField b) at)
        (ap₂ (λ x y. insn.Register operation x y) (register_again context knows.registers register) (operand_coded symbols context knows.registers b))
        (register_unflagged context knows.registers register) (form_unflagged symbols context knows.registers b) (one_emitted b below) (one_sized symbols context.location b) means

    loop_emitted : (register : Register) (address : ℕ) (words : List ℕ)
        → Means op.Sob (statements.Loop register address) context.location words → address < 65536
        → drop column line ≡ register_text register ++ 0o54 ∷ address_text symbols address
        → Emits context firm line start op.Sob words
    loop_emitted register address words means below at =
        let target : value context.known (address_written symbols address) ≡ absolute address 0 =
        address_value symbols spelled address below context.known knows in
        let reached = loop_reached context.table still context.location within means.0 means.1 address means.2 in
        put op.Sob (field_of symbols (RegisterField register)) (field_of symbols (TargetField address)) _ (insn.Sob register means.0) [] words
        (two_read symbols spelled firm known line start column same op.Sob (RegisterField register) (TargetField address) tt tt refl refl at)
        (two_left (RegisterField register) (TargetField address) at)
        (ap₂ (λ x y. insn.Sob x y) (register_again context knows.registers register)
        (ap (loop_offset context.table context.location) target
        ∙ loop_counted context.table still context.location within means.0 means.1 address means.2))
        (register_unflagged context knows.registers register)
        (ap (targeted_flags context op.Sob) target ∙ ap (λ b. flag_if (not b) flag_A) reached) refl refl means.3

    -- ---- one operand

    single_emitted : (operation : SingleOp) (size : Size) (a : Argument) (words : List ℕ)
        → Means (op.Single operation size) (statements.One a) context.location words → IsWithinWord a → drop column line ≡ argument_text symbols a
        → Emits context firm line start (op.Single operation size) words
    single_emitted operation size a words means below at =
        put (op.Single operation size) (field_of symbols (OperandField a)) content.Missing _ (insn.Single operation size (operand_meant a))
        (first_words context.location a) words
        (one_read symbols spelled firm known line start column same (op.Single operation size) (OperandField a) below refl refl at)
        (one_left (OperandField a) at) (ap (λ x. insn.Single operation size x) (operand_coded symbols context knows.registers a))
        (form_unflagged symbols context knows.registers a) refl (one_emitted a below) (one_sized symbols context.location a) means

    rts_emitted : (register : Register) (words : List ℕ)
        → Means op.Rts (statements.One (argument.Plain register)) context.location words → drop column line ≡ register_text register
        → Emits context firm line start op.Rts words
    rts_emitted register words means at =
        put op.Rts (field_of symbols (RegisterField register)) content.Missing _ (insn.Rts register) [] words
        (one_read symbols spelled firm known line start column same op.Rts (RegisterField register) tt refl refl at)
        (one_left (RegisterField register) at) (ap insn.Rts (register_again context knows.registers register))
        (register_unflagged context knows.registers register) refl refl refl means

    number_emitted : (operation : NumberOp) (number : ℕ) (words : List ℕ)
        → Means (op.Number operation) (statements.Number number) context.location words → drop column line ≡ number_text number
        → Emits context firm line start (op.Number operation) words
    number_emitted operation number words means at =
        let found : value context.known (number_written number) ≡ absolute number 0 =
        number_value context.known number knows.registers (limit_word operation number means.0) in
        put (op.Number operation) (field_of symbols (NumberField number)) content.Missing _ (insn.Number operation number) [] words
        (one_read symbols spelled firm known line start column same (op.Number operation) (NumberField number) tt refl refl at)
        (one_left (NumberField number) at)
        (ap (λ q. insn.Number operation (q.number % number_limit operation)) found
        ∙ ap (λ n. insn.Number operation n) (number_kept operation number means.0))
        (ap (numbered_flags (op.Number operation)) found ∙ ap (λ b. flag_if b flag_T) (lt-leb (number_limit operation) number means.0))
        refl refl refl means.1

    branch_emitted : (operation : BranchOp) (address : ℕ) (words : List ℕ)
        → Means (op.Branch operation) (statements.Target address) context.location words → address < 65536
        → drop column line ≡ address_text symbols address
        → Emits context firm line start (op.Branch operation) words
    branch_emitted operation address words means below at =
        let target : value context.known (address_written symbols address) ≡ absolute address 0 =
        address_value symbols spelled address below context.known knows in
        let reached = branch_reached context.table still context.location within means.0 means.1 address means.2 in
        put (op.Branch operation) (field_of symbols (TargetField address)) content.Missing _ (insn.Branch operation means.0) [] words
        (one_read symbols spelled firm known line start column same (op.Branch operation) (TargetField address) tt refl refl at)
        (one_left (TargetField address) at)
        (ap (λ q. insn.Branch operation (cast_signed w8 (branch_offset context.table context.location q))) target
        ∙ ap (λ z. insn.Branch operation z)
        (branch_counted context.table still context.location within means.0 means.1 address means.2))
        (ap (targeted_flags context (op.Branch operation)) target ∙ ap (λ b. flag_if (not b) flag_A) reached) refl refl refl means.3

    -- ---- any operands

    pub some_emitted : (operation : Op) (operands : Operands) (words : List ℕ)
        → Means operation operands context.location words → AreWithinWords operands → HasOperands operands
        → drop column line ≡ operands_text symbols operands
        → Emits context firm line start operation words
    some_emitted (op.Double operation size) (statements.Two a b) words means below there at =
        double_emitted operation size a b words means below.0 below.1 at
    some_emitted (op.Extended operation) (statements.Two a (argument.Plain register)) words means below there at =
        extended_emitted operation a register words means below.0 at
    some_emitted (op.Register operation) (statements.Two (argument.Plain register) b) words means below there at =
        register_emitted operation register b words means below.1 at
    some_emitted op.Sob (statements.Loop register address) words means below there at =
        loop_emitted register address words means below at
    some_emitted (op.Single operation size) (statements.One a) words means below there at =
        single_emitted operation size a words means below at
    some_emitted op.Rts (statements.One (argument.Plain register)) words means below there at = rts_emitted register words means at
    some_emitted (op.Number operation) (statements.Number number) words means below there at =
        number_emitted operation number words means at
    some_emitted (op.Branch operation) (statements.Target address) words means below there at =
        branch_emitted operation address words means below at
    some_emitted (op.Bare operation) statements.Nothing words means below there at = absurd there
    some_emitted (op.Codes operation condition_codes) statements.Nothing words means below there at = absurd there
    some_emitted operation operands words means below there at = absurd means

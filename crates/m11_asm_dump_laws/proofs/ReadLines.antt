-- A line of a disassembly is assembled as it means.
use Rattle.std.proofs.Common.{◌≡◌, ◌∙◌, ℕ, ◌+◌, ◌*◌, ◌%◌, ◌≤◌, ◌<◌, Bool, true, false, not, List, [], ◌∷◌, ◌++◌, length, map, drop, Option, Some, None, refl, sym, ap, ap₂, subst, arith, append-nil, append_assoc}
use Rattle.std.specs.Prelude.{◌==◌, ◌&&◌, nat_le}
use Rattle.std.specs.List.{AllByRecursion, list_all}
use Rattle.std.proofs.lemmas.Bool.{and_parts, leb-true}
use Rattle.m11_base.specs.Devices.{Bytes}
use Rattle.m11_base.specs.Mnemonics.{operation_named}
use Rattle.m11_base.specs.NameCharacters.{six_of}
use Rattle.m11_base.specs.declared.instruction.Op.{Op}
use Rattle.m11_base_disassembly.specs.Meaning.{Means}
use Rattle.m11_base_disassembly.specs.Statements.{Operands}
use Rattle.m11_base_disassembly.specs.Statements as statements
use Rattle.m11_base_disassembly.specs.Names.{bare_name}
use Rattle.m11_base_disassembly.specs.Texts.{name_text}
use Rattle.m11_base_disassembly.specs.declared.symbols.Symbol.{Symbol}
use Rattle.m11_asm_dump_laws.specs.Texts.{line_text}
use Rattle.m11_asm_dump_laws.proofs.UnreferredOperands.{operands_text, operands_unreferred}
use Rattle.m11_base_disassembly.specs.References.{no_references}
use Rattle.m11_base_disassembly.specs.Texts as named
use Rattle.m11_scan.specs.Cutting.{tokens_from}
use Rattle.m11_scan.specs.ErrorFlags.{flag_if}
use Rattle.m11_scan_expressions.specs.Expressions.{KnownSymbols}
use Rattle.m11_scan_statements.specs.Labels.{is_counter}
use Rattle.m11_unfold_rules.specs.Unfolding.{UnfoldedLine}
use Rattle.m11_asm_rules.specs.Actions.{Operate, Operation, does}
use Rattle.m11_asm_rules.specs.Alignment.{flag_B, gap_flags, location_for}
use Rattle.m11_asm_rules.specs.Changes.{Counts}
use Rattle.m11_asm_rules.specs.Codes.{LineContext}
use Rattle.m11_asm_rules.specs.Contents.{contents_size, fixed_word, with_flags}
use Rattle.m11_asm_rules.specs.Instructions as instructions
use Rattle.m11_asm_rules.specs.Lines.{change_of, emission_by}
use Rattle.m11_asm_rules.specs.Locations.{Steps}
use Rattle.m11_asm_rules.specs.Meanings.{Map, firm_known}
use Rattle.m11_asm_rules.specs.Operations.{directive, operation_of}
use Rattle.m11_asm_rules.specs.Operators.{operator_named}
use Rattle.m11_asm_rules.specs.Storage as storage
use Rattle.m11_asm_rules.specs.Tables.{Table, firm_table, location}
use Rattle.m11_asm_rules.specs.declared.operators.Operator.{Operator}
use Rattle.m11_asm_rules.specs.declared.operators.Operator.TheVariants as operators
use Rattle.m11_asm_rules.specs.declared.meanings.Context.TheVariants.{LocalOnly, MayBeGlobal}
use Rattle.m11_asm_dump_laws.specs.Knowledge.{HasValue, IsSpelled, KnowsNames, ReadsAsMeant, TakesNoRegister}
use Rattle.m11_asm_dump_laws.specs.Lines.{Assembles, IsLine}
use Rattle.m11_asm_dump_laws.proofs.Assembled.{assembles, operator_ending}
use Rattle.m11_asm_dump_laws.proofs.Emitted.{Emits, HasOperands, none_emitted, some_emitted}
use Rattle.m11_asm_dump_laws.proofs.Forms.{of_words}
use Rattle.m11_asm_dump_laws.proofs.Known.{firm_takes, table_names, twice_firm_takes}
use Rattle.m11_asm_dump_laws.proofs.LineEnds.{clean}
use Rattle.m11_asm_dump_laws.proofs.OperandTexts.{operands_kept, operands_open, spaced, spaces_first, spaces_kept, spaces_stop}
use Rattle.m11_asm_dump_laws.proofs.OperatorNames.{operator_is}
use Rattle.m11_asm_dump_laws.proofs.ReadStatements.{Opens, body_named, labels_none}
use Rattle.m11_asm_dump_laws.proofs.RowNames.{AreWithinWords, bare_parts, begins_with_point, is_padded, is_space, spaces}
use Rattle.m11_asm_dump_laws.proofs.Widths.{IsWhole, line_width, whole_line}
use Rattle.m11_asm_dump_laws.proofs.Tokens.{Stops, between, is_name_text, no_token, none_stops, past}

-- ---- an even location

pub even_place : (here : ℕ) → here % 2 ≡ 0 → here < 65536 → location_for true here ≡ here
even_place here even within = omega arith

pub even_flags : (here : ℕ) → here % 2 ≡ 0 → gap_flags true here ≡ 0
even_flags here even = ap (λ n. flag_if (n == 1) flag_B) even

pub even_gap : (here size : ℕ) → here % 2 ≡ 0 → here % 2 + size ≡ size
even_gap here size even = omega arith

-- each word has two bytes
pub words_size : (words : List ℕ) → length words * 2 ≡ contents_size (map fixed_word words)
words_size [] = refl
words_size (word ∷ words) = let rest = words_size words in omega (arith, rest)

-- ---- a line with a name alone, or with a name and operands

not_so : (b : Bool) → not b ≡ true → b ≡ false
not_so true e = absurd (cc)
not_so false e = refl

pub no_counter : (name : Bytes) → begins_with_point name ≡ false → is_counter name ≡ false
no_counter [] other = refl
no_counter (byte ∷ []) other = other
no_counter (byte ∷ (next ∷ name)) other = refl

pub some_name : (name : Bytes) → is_name_text name ≡ true → 0 < length name
some_name [] named = absurd (cc)
some_name (byte ∷ name) named = omega arith

-- what the operator of a line does, by the operator
abbrev pub does_by : Option ℕ → Bytes → ℕ → ℕ → Option Operator → Operation
does_by arguments line start end found = elim found [
  | Some (operators.Directive directive_) ↦ directive arguments line end directive_
  | Some (operators.Instruction operation) ↦ does (Operate operation end) 0
  | None ↦ storage.words line start
]

module _ (map_ : Map) (table : Table) (reads : ReadsAsMeant table) (even : location table % 2 ≡ 0) (within : location table < 65536)
    (given : UnfoldedLine) (whole : given.live.line.is_over_long ≡ false) (own : given.is_own ≡ false)
    (name : Bytes) (named : is_name_text name ≡ true) (other : begins_with_point name ≡ false)
    (operation : Op) (is : operation_named name ≡ Some operation) (words : List ℕ) (rest : Bytes)
    (at : given.live.line.text ≡ 9 ∷ (name ++ rest)) (stops : Stops rest)
    (opens : Opens (tokens_from given.live.line.text (1 + length name)))
    (emitted : instructions.words map_ table (location table) given.live.line.text (1 + length name) operation ≡ of_words words)
    (sized : instructions.size (firm_table table) (location table) given.live.line.text (1 + length name) operation ≡ length words * 2) where
  abbrev line : Bytes
  line = given.live.line.text

  abbrev end : ℕ
  end = 1 + length name

  does_it : operation_of given.arguments line (operator_ending end) ≡ does (Operate operation end) 0
  does_it =
      ap (λ t. does_by given.arguments line 1 end (operator_named (six_of t))) (between line name rest 1 (past line (9 ∷ []) (name ++ rest) 0 at) (some_name name named))
      ∙ ap (does_by given.arguments line 1 end) (operator_is name operation named other is)

  emits : emission_by map_ table line (Operate operation end) ≡ of_words words
  emits =
      ap₂ (λ f l. with_flags f (instructions.words map_ table l line end operation)) (even_flags (location table) even)
      (even_place (location table) even within)
      ∙ ap (with_flags 0) emitted

  counts : change_of (firm_table table) line (Operate operation end) ≡ Counts (Steps (contents_size (map fixed_word words)))
  counts =
      ap (λ l. Counts (Steps (location table % 2 + instructions.size (firm_table table) l line end operation)))
      (even_place (location table) even within)
      ∙ ap (λ n. Counts (Steps n)) (even_gap (location table) _ even ∙ sized ∙ words_size words)

  name_assembled : Assembles map_ table given (map fixed_word words)
  name_assembled =
      assembles map_ table given (name ++ rest) at whole own end (Operate operation end) (map fixed_word words)
      (labels_none name line rest named (no_counter name other) at stops opens)
      (body_named name line rest named (no_counter name other) at stops opens) does_it emits
      (even_place (location table) even within) counts refl

-- ---- lines of operations

pub record NameParts (name : Bytes) : Type 0 where
  pub named : is_name_text (bare_name name) ≡ true
  pub other : begins_with_point (bare_name name) ≡ false
  pub spaced : list_all is_space (spaces name) ≡ true
  pub short : length name ≤ 6

pub name_parts : (name : Bytes) → is_padded name ≡ true → NameParts name
name_parts name padded =
    let ends : Bool = nat_le (length name) 6 in
    let blank : Bool = list_all is_space (spaces name) in
    let first = and_parts (is_name_text (bare_name name)) _ padded in
    let second = and_parts (not (begins_with_point (bare_name name))) (blank && ends) first.1 in
    let third = and_parts blank ends second.1 in record {
      named = first.0;
      other = not_so (begins_with_point (bare_name name)) second.0;
      spaced = third.0;
      short = leb-true (length name) 6 third.1;
    }

-- a line with operands: the name, spaces, and the operands
with_spaces : (name text : Bytes) → 9 ∷ (name_text name ++ text) ≡ 9 ∷ (bare_name name ++ spaced (spaces name) text)
with_spaces name text =
    ap (λ (line : Bytes). 9 ∷ line)
    (append_assoc name (0o40 ∷ []) text
    ∙ ap (λ n. n ++ 0o40 ∷ text) (bare_parts name)
    ∙ append_assoc (bare_name name) (spaces name) (0o40 ∷ text))

pub with_operands : (symbols : List Symbol) (name : Bytes) (operands : Operands) → HasOperands operands
    → line_text symbols (statements.Named name operands) ≡ 9 ∷ (bare_name name ++ spaced (spaces name) (operands_text symbols operands))
with_operands symbols name statements.Nothing there = absurd there
with_operands symbols name (statements.One a) there = with_spaces name (operands_text symbols (statements.One a))
with_operands symbols name (statements.Two a b) there =
    let operands = statements.Two a b in
    with_spaces name (named.operands_text symbols no_references operands)
    ∙ ap (λ (text : Bytes). 9 ∷ (bare_name name ++ spaced (spaces name) text)) (operands_unreferred symbols operands)
with_operands symbols name (statements.Target address) there = with_spaces name (operands_text symbols (statements.Target address))
with_operands symbols name (statements.Loop register address) there = with_spaces name (operands_text symbols (statements.Loop register address))
with_operands symbols name (statements.Number number) there = with_spaces name (operands_text symbols (statements.Number number))

module _ (symbols : List Symbol) (spelled : AllByRecursion IsSpelled symbols) (map_ : Map) (table : Table) (reads : ReadsAsMeant table)
    (has : AllByRecursion (HasValue map_ table) symbols) (even : location table % 2 ≡ 0) (within : location table < 65536)
    (given : UnfoldedLine) (name : Bytes) (padded : is_padded name ≡ true) (operation : Op)
    (is : operation_named (bare_name name) ≡ Some operation) (words : List ℕ) where
  abbrev text : Bytes
  text = given.live.line.text

  abbrev after : ℕ
  after = 1 + length (bare_name name)

  abbrev here : ℕ
  here = location table

  abbrev context : LineContext
  context = instructions.line_context map_ table here

  local : KnowsNames symbols context.known
  local = table_names map_ table here LocalOnly symbols reads has

  global : KnowsNames symbols context.refers
  global = table_names map_ table here MayBeGlobal symbols reads has

  firmly_known : TakesNoRegister symbols (firm_known table here)
  firmly_known = firm_takes map_ table here symbols reads has

  twice_known : TakesNoRegister symbols (firm_known (firm_table table) here)
  twice_known = twice_firm_takes map_ table here symbols reads has

  bare_assembled : IsWhole given (9 ∷ bare_name name) → Means operation statements.Nothing (location table) words
      → Assembles map_ table given (map fixed_word words)
  bare_assembled this means =
      let parts = name_parts name padded in
      let at : text ≡ 9 ∷ (bare_name name ++ []) = this.text ∙ ap (λ (t : Bytes). 9 ∷ t) (sym (append-nil (bare_name name))) in
      let left : drop after text ≡ [] = past text (bare_name name) [] 1 (past text (9 ∷ []) (bare_name name ++ []) 0 at) in
      let emits_by : (firm : KnownSymbols) → TakesNoRegister symbols firm → Emits context firm text after operation words =
      λ firm firmly. none_emitted symbols spelled context local global reads.section within firm firmly text after after refl
      (clean text [] after left refl) operation words means left in
      name_assembled map_ table reads even within given this.whole this.own (bare_name name) parts.named parts.other operation is words [] at
      none_stops (subst Opens (sym (no_token text after left)) tt) (emits_by (firm_known table here) firmly_known).emitted
      (emits_by (firm_known (firm_table table) here) twice_known).sized

  operands_assembled : (operands : Operands) → HasOperands operands → IsWhole given (line_text symbols (statements.Named name operands))
      → Means operation operands (location table) words → AreWithinWords operands → Assembles map_ table given (map fixed_word words)
  operands_assembled operands there this means below =
      let parts = name_parts name padded in
      let gap : Bytes = spaces name in
      let written : Bytes = operands_text symbols operands in
      let at : text ≡ 9 ∷ (bare_name name ++ spaced gap written) = this.text ∙ with_operands symbols name operands there in
      let left : drop after text ≡ spaced gap written =
      past text (bare_name name) (spaced gap written) 1 (past text (9 ∷ []) (bare_name name ++ spaced gap written) 0 at) in
      let column : ℕ = after + length gap + 1 in
      let begun : drop column text ≡ written =
      past text (0o40 ∷ []) written (after + length gap) (past text gap (0o40 ∷ written) after left) in
      let same = spaces_first gap written text after parts.spaced left in
      let emits_by : (firm : KnownSymbols) → TakesNoRegister symbols firm → Emits context firm text after operation words =
      λ firm firmly. some_emitted symbols spelled context local global reads.section within firm firmly text after column same
      (clean text (spaced gap written) after left (spaces_kept gap written parts.spaced ∙ operands_kept symbols spelled operands))
      operation operands words means below there begun in
      name_assembled map_ table reads even within given this.whole this.own (bare_name name) parts.named parts.other operation is words
      (spaced gap written) at (spaces_stop gap written parts.spaced) (subst Opens (sym same) (operands_open symbols spelled text column operands begun))
      (emits_by (firm_known table here) firmly_known).emitted (emits_by (firm_known (firm_table table) here) twice_known).sized

  any_assembled : (operands : Operands) → IsWhole given (line_text symbols (statements.Named name operands))
      → Means operation operands (location table) words → AreWithinWords operands → Assembles map_ table given (map fixed_word words)
  any_assembled statements.Nothing this means below = bare_assembled this means
  any_assembled (statements.One a) this means below = operands_assembled (statements.One a) tt this means below
  any_assembled (statements.Two a b) this means below = operands_assembled (statements.Two a b) tt this means below
  any_assembled (statements.Target address) this means below = operands_assembled (statements.Target address) tt this means below
  any_assembled (statements.Loop register address) this means below =
      operands_assembled (statements.Loop register address) tt this means below
  any_assembled (statements.Number number) this means below = operands_assembled (statements.Number number) tt this means below

  pub named_assembled : (operands : Operands) → IsLine given (line_text symbols (statements.Named name operands))
      → Means operation operands (location table) words → AreWithinWords operands → Assembles map_ table given (map fixed_word words)
  named_assembled operands this means below =
      any_assembled operands
      (whole_line given (line_text symbols (statements.Named name operands))
      (line_width symbols spelled name operands (name_parts name padded).short) this)
      means below

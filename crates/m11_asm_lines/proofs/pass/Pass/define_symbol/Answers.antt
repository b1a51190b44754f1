use Rattle.std.proofs.Common.{◌≡◌, ◌∙◌, true≢false, arith, sym, subst}
use Rattle.m11_asm_faults.specs.declared.fault.AsmFault.TheVariants.{NoMemory, TooManySymbols}
use Rattle.m11_asm_rules.specs.Labels.{with_definition}
use Rattle.m11_asm_rules.specs.Limits.{local_count}
use Rattle.m11_asm_rules.specs.Tables.{Table}
use Rattle.m11_asm_rules.specs.declared.definitions.Key.TheVariants.{Numbered}
use Rattle.m11_asm_lines.proofs.Room.{overfills_first, symbol_fits, symbol_full}
use Rattle.m11_asm_lines.specs.Faults.{OverfillsFirst}
use Rattle.m11_asm_lines.proofs.pass.Pass.define_symbol.Goals.{else-local_symbol_count-ge-MOST_LOCAL_SYMBOLS-via-then-local_symbol_count-ge-MOST_LOCAL_SYMBOLS+else-not-is_defined, else-local_symbol_count-ge-MOST_LOCAL_SYMBOLS-via-else-local_symbol_count-ge-MOST_LOCAL_SYMBOLS}
use Rattle.m11_asm_lines.proofs.pass.Pass.define_symbol.Goals as goal

pub returns-then-not-is_defined-clause-refuses : goal.returns-then-not-is_defined-clause-refuses
returns-then-not-is_defined-clause-refuses c =
    let count : c.local_symbol_count.result ≡ local_count c.self.inside.table = c.local_symbol_count.ensures in
    let P : Table → Type 0 = λ t. OverfillsFirst TooManySymbols (with_definition (Numbered c.args.block c.args.number) c.args.definition t) in
    subst P c.self.view_is
    (symbol_full c.args.block c.args.number c.args.definition c.self.inside.table (sym c.if-not-is_defined.ensures)
    (omega (arith, count, c.if-local_symbol_count-ge-MOST_LOCAL_SYMBOLS.true)))

pub returns-in_err-insert_symbol-clause-refuses : goal.returns-in_err-insert_symbol-clause-refuses
returns-in_err-insert_symbol-clause-refuses c =
    let count : c.local_symbol_count.result ≡ local_count c.self.inside.table = c.local_symbol_count.ensures in
    let P : Table → Type 0 = λ t. OverfillsFirst NoMemory (with_definition (Numbered c.args.block c.args.number) c.args.definition t) in
    overfills_first c.from_residual.result (with_definition (Numbered c.args.block c.args.number) c.args.definition c.args.self.now)
    (subst P c.self.view_is
    (symbol_fits c.args.block c.args.number c.args.definition c.self.inside.table c.counts_are_within_the_limits.ensures.names
    c.counts_are_within_the_limits.ensures.symbols
    (λ new. elim c.else-local_symbol_count-ge-MOST_LOCAL_SYMBOLS.branch [
      | else-local_symbol_count-ge-MOST_LOCAL_SYMBOLS-via-then-local_symbol_count-ge-MOST_LOCAL_SYMBOLS+else-not-is_defined w ↦
          absurd (true≢false (sym w.if-not-is_defined.false ∙ w.is_defined.ensures ∙ new))
      | else-local_symbol_count-ge-MOST_LOCAL_SYMBOLS-via-else-local_symbol_count-ge-MOST_LOCAL_SYMBOLS w ↦
          omega (arith, count, w.if-local_symbol_count-ge-MOST_LOCAL_SYMBOLS.false)
    ])))
    c.from_residual.ensures.1

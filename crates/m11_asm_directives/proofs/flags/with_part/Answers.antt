use Rattle.std.proofs.Common.{ℕ, ap, ◌∙◌}
use Rattle.std.specs.Int.RustNames.{bit_or}
use Rattle.m11_scan_expressions.proofs.Joining.{or_joins}
use Rattle.m11_asm_rules.specs.Strings.{parts_flags, skipped_flags}
use Rattle.m11_scan.specs.Views.{bits_of}
use Rattle.m11_scan_statements.specs.Parts.{part_flags}
use Rattle.m11_asm_directives.proofs.flags.with_part.Goals as goal

pub returns : goal.returns
returns c = λ parts.
    let line = c.args.line.now.text in
    let others = parts_flags line c.args.part.end parts in
    let own = λ (n : ℕ). bit_or (skipped_flags line n c.args.part) (part_flags c.args.part) in
    ap (λ (n : ℕ). bit_or n others)
    (c.with.ensures
    ∙ ap (λ (n : ℕ). bit_or (bits_of c.args.flags) n) c.flags_of.ensures)
    ∙ or_joins (bits_of c.args.flags) (own c.args.column) others

use Rattle.std.proofs.Common.{ℕ, List, sym, ap, ◌∙◌}
use Rattle.std.proofs.lemmas.List.{drop_all}
use Rattle.std.specs.Int.Bits.{or_zero_l, or_zero_r}
use Rattle.std.specs.Int.RustNames.{bit_or}
use Rattle.m11_asm_rules.specs.Strings.{parts_flags}
use Rattle.m11_scan.specs.Views.{bits_of}
use Rattle.m11_scan_statements.specs.declared.parts.Part.{Part}
use Rattle.m11_asm_directives.proofs.flags.parts_flags.Goals as goal

pub parts-init : goal.parts-init
parts-init c =
    ap (λ (n : ℕ). bit_or n (parts_flags c.args.line.now.text c.args.start c.args.parts.now)) c.none-flags.ensures

pub returns : goal.returns
returns c =
    sym (or_zero_r (bits_of c.parts.flags))
    ∙ ap (λ (r : List Part). bit_or (bits_of c.parts.flags) (parts_flags c.args.line.now.text c.parts.column r))
    (sym (drop_all c.parts.part-index c.args.parts.now c.parts-test.false))
    ∙ c.parts.invariant ∙ or_zero_l (parts_flags c.args.line.now.text c.args.start c.args.parts.now)

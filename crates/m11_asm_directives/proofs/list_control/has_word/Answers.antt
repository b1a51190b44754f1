use Rattle.std.proofs.Common.{◌∙◌, sym, refl}
use Rattle.std.specs.Str.{bytes_eq}
use Rattle.m11_asm_rules.specs.Elements.{texts_of}
use Rattle.m11_asm_directives.proofs.Listed.{later_first, texts_first}
use Rattle.m11_asm_directives.proofs.list_control.has_word.Goals as goal

pub names-preserved : goal.names-preserved
names-preserved c =
    let line = c.args.line.now.text in
    later_first (λ other. bytes_eq other c.args.word.now) (texts_of line) (texts_first line) c.names.rest.now _ _
    c.in-len1-up.len_at_least refl (sym c.is_word.ensures ∙ c.if-is_word.false)
    ∙ c.names.invariant

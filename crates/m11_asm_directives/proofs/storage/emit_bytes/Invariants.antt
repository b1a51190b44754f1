use Rattle.std.proofs.Common.{◌≡◌, drop}
use Rattle.m11_asm_rules.specs.Contents.{followed_by}
use Rattle.m11_asm_operands.specs.Elements.{elements_model}
use Rattle.m11_asm_rules.specs.Storage.{bytes_from}
use Rattle.m11_asm_directives.proofs.storage.emit_bytes.Given as goal

abbrev pub invariant-elements : goal.invariant-elements
invariant-elements l =
    followed_by l.emission
    (bytes_from l.line_context.map l.line_context.table l.location (elements_model l.line_context.line (drop l.element-index l.elements)))
    ≡ followed_by l.initial.emission
    (bytes_from l.line_context.map l.line_context.table l.line_context.location (elements_model l.line_context.line l.elements))

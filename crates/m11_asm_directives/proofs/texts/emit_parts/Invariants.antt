use Rattle.std.proofs.Common.{◌≡◌, drop}
use Rattle.m11_asm_rules.specs.Contents.{followed_by}
use Rattle.m11_asm_rules.specs.Strings.{contents_of, parts_bytes}
use Rattle.m11_asm_directives.proofs.texts.emit_parts.Given as goal

abbrev pub invariant-parts : goal.invariant-parts
invariant-parts l =
    followed_by l.emission (parts_bytes l.line_context.map l.line_context.table l.location
    (contents_of l.line_context.line (drop l.part-index l.parts)))
    ≡ followed_by l.initial.emission (parts_bytes l.line_context.map l.line_context.table l.initial.location
    (contents_of l.line_context.line l.parts))

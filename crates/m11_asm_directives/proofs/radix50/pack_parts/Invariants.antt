use Rattle.std.proofs.Common.{◌≡◌, drop}
use Rattle.m11_asm_operands.specs.LineContext.{line_context_of}
use Rattle.m11_asm_rules.specs.Strings.{contents_of, parts_codes}
use Rattle.m11_asm_directives.specs.Packing.{packing}
use Rattle.m11_asm_directives.proofs.radix50.pack_parts.Given as goal

abbrev pub invariant-parts : goal.invariant-parts
invariant-parts l =
    packing l.emission l.waiting (parts_codes (line_context_of l.line_context).known (contents_of l.line_context.line (drop l.part-index l.parts)))
    ≡ packing l.initial.emission l.initial.waiting (parts_codes (line_context_of l.line_context).known (contents_of l.line_context.line l.parts))

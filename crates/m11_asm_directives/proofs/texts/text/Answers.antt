use Rattle.std.proofs.Common.{◌∙◌, ℕ, ap}
use Rattle.m11_asm_rules.specs.Elements.{ListAt}
use Rattle.m11_scan_statements.specs.declared.parts.Part.{Part}
use Rattle.m11_asm_rules.specs.Actions.{Store, Text, does}
use Rattle.m11_asm_rules.specs.Strings as spec
use Rattle.m11_asm_directives.proofs.texts.text.Goals as goal

pub returns : goal.returns
returns c =
    let line = c.args.line.now.text in
    ap (λ (flags : ℕ). does (Store (Text (spec.contents_of line c.read.new.self.list.items) c.args.is_ended)) flags) c.text_flags.ensures
    ∙ ap (λ (parts : ListAt Part). does (Store (Text (spec.contents_of line parts.list) c.args.is_ended))
    (spec.text_flags line c.args.start parts))
    c.read.ensures

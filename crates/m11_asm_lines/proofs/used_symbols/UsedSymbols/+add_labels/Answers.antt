use Rattle.std.proofs.Common.{◌≡◌, refl}
use Rattle.m11_asm_rules.specs.SymbolUses.{label_uses}
use Rattle.m11_asm_lines.proofs.Gathering.{failed_item, first_label, item_then, later_label}
use Rattle.m11_asm_lines.proofs.Refusals.{handed_on, refused_so}
use Rattle.m11_asm_lines.specs.Labels.{FitsUpToName}
use Rattle.m11_asm_faults.specs.declared.fault.AsmFault.{AsmFault}
use Rattle.m11_asm_faults.specs.declared.fault.AsmFault.TheVariants.{NoMemory}
use Rattle.m11_asm_lines.proofs.used_symbols.UsedSymbols.+add_labels.Goals as goal

pub returns-in_err-add_label-in-len1-up-clause-adds : goal.returns-in_err-add_label-in-len1-up-clause-adds
returns-in_err-add_label-in-len1-up-clause-adds t c =
    failed_item (label_uses c.args.line.now.text) c.args.labels.now _ _ c.args.self.now c.from_residual.result c.add_label.new.self
    c.in_err-add_label-in-len1-up.field-0.0 c.in-len1-up.len_at_least refl c.in_err-add_label-in-len1-up.ensures.adds c.from_residual.ensures.1

pub returns-in_err-add_label-in-len1-up-clause-limit_first : goal.returns-in_err-add_label-in-len1-up-clause-limit_first
returns-in_err-add_label-in-len1-up-clause-limit_first t c =
    let P : AsmFault → Type 0 = λ fault. fault ≡ NoMemory → FitsUpToName c.args.line.now.text c.args.labels.now c.args.self.now in
    handed_on P c.in_err-add_label-in-len1-up.field-0.0 c.from_residual.result
    (λ none. first_label c.args.line.now.text c.args.labels.now _ c.args.self.now c.in-len1-up.len_at_least
    c.in_err-add_label-in-len1-up.ensures.names (c.in_err-add_label-in-len1-up.ensures.limit_first none))
    c.from_residual.ensures.1

pub returns-in_ok-add_label-in-len1-up-clause-adds : goal.returns-in_ok-add_label-in-len1-up-clause-adds
returns-in_ok-add_label-in-len1-up-clause-adds t c =
    item_then (label_uses c.args.line.now.text) c.args.labels.now _ _ c.args.self.now c.add_labels.result c.add_label.new.self c.add_labels.new.self
    c.in-len1-up.len_at_least refl c.in_ok-add_label-in-len1-up.ensures.adds c.add_labels.ensures.adds

pub returns-in_ok-add_label-in-len1-up-clause-limit_first : goal.returns-in_ok-add_label-in-len1-up-clause-limit_first
returns-in_ok-add_label-in-len1-up-clause-limit_first t c =
    refused_so c.add_labels.result _ _
    (later_label c.args.line.now.text c.args.labels.now _ c.args.self.now c.add_label.new.self
    c.in-len1-up.len_at_least c.in_ok-add_label-in-len1-up.ensures.adds)
    c.add_labels.ensures.limit_first

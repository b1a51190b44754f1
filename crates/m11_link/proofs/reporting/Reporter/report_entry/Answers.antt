use Rattle.m11_link.proofs.Entering.{entry_control, entry_identified, entry_internal, entry_named, entry_program, entry_symbol, entry_transfer}
use Rattle.m11_link.proofs.reporting.Reporter.report_entry.Goals as goal

pub returns-in-ControlSection : goal.returns-in-ControlSection
returns-in-ControlSection g c = λ tape map. entry_control _ _ c.args.self.now _ c.args.module_index c.args.entry.now _
    c.in-ControlSection.is (c.report_section.ensures tape map)

pub returns-in-ProgramSection : goal.returns-in-ProgramSection
returns-in-ProgramSection g c = λ tape map. entry_program _ _ c.args.self.now _ c.args.module_index c.args.entry.now _
    c.in-ProgramSection.is (c.report_section-in-ProgramSection.ensures tape map)

pub returns-in-GlobalSymbol : goal.returns-in-GlobalSymbol
returns-in-GlobalSymbol g c = λ tape map. entry_symbol _ _ c.args.self.now _ c.args.module_index c.args.entry.now _
    c.in-GlobalSymbol.is (c.report_symbol.ensures tape map)

pub returns-in-ModuleName : goal.returns-in-ModuleName
returns-in-ModuleName g c = λ tape map. entry_named _ c.args.self.now c.args.module_index c.args.entry.now c.in-ModuleName.is

pub returns-in-InternalSymbol : goal.returns-in-InternalSymbol
returns-in-InternalSymbol g c = λ tape map. entry_internal _ c.args.self.now c.args.module_index c.args.entry.now c.in-InternalSymbol.is

pub returns-in-TransferAddress : goal.returns-in-TransferAddress
returns-in-TransferAddress g c = λ tape map. entry_transfer _ c.args.self.now c.args.module_index c.args.entry.now c.in-TransferAddress.is

pub returns-in-Identification : goal.returns-in-Identification
returns-in-Identification g c = λ tape map. entry_identified _ c.args.self.now c.args.module_index c.args.entry.now c.in-Identification.is

-- The lines printed for the faults of each command. (This project's own.)
use Rattle.std.specs.Prelude.{List, [], ◌∷◌, Ok, Err, codes}
use Rattle.std.specs.Fmt.{decimal}
use Rattle.m11_asm_faults.specs.Faults.{name_of, number_of}
use Rattle.m11_asm_faults.specs.declared.fault.AsmFault.{AsmFault}
use Rattle.m11_asm_faults.specs.declared.fault.AsmFault.TheVariants as asm
use Rattle.m11_base.specs.Devices.{Bytes}
use Rattle.m11_base_writes.specs.declared.outputs.Output.{Output}
use Rattle.m11_base_writes.specs.declared.outputs.Output.TheVariants.{Product, Report, Messages}
use Rattle.m11_link_layout.specs.Fault.{link_fault_name, link_fault_number}
use Rattle.m11_link_layout.specs.declared.fault.LinkFault.{LinkFault}
use Rattle.m11_link_layout.specs.declared.fault.LinkFault.TheVariants as link
use Rattle.m11_obj_blocks.specs.Blocks.{block_fault_name, block_fault_number}
use Rattle.m11_obj.specs.Fault.{record_fault_name, record_fault_number}
use Rattle.m11_cli_reports.specs.Lines.{line_for}
use Rattle.m11_cli_reports.specs.Runs.{sim_line}
use Rattle.m11_cli_reports.specs.Usage.{usage_line}
use Rattle.m11_cli.specs.declared.outcome.Outcome.{Outcome}
use Rattle.m11_cli.specs.declared.outcome.Outcome.TheVariants.{Usage, Asm, Link, Sim, NotOpened}
use Rattle.m11_unfold_rules.specs.Fault as unfolded

-- the name of an output of an assembly
abbrev pub asm_output_name : Output → Bytes
asm_output_name Product = codes "OBJECT"
asm_output_name Report = codes "LISTING"
asm_output_name Messages = codes "MESSAGES"

-- the additions of an assembly's fault: the name of the output that could not be written, or the number and the name of the fault of
-- unfolding; other faults have none
abbrev pub added : AsmFault → List Bytes
added asm.Read = []
added (asm.Write output) = asm_output_name output ∷ []
added asm.TooManySymbols = []
added asm.TooManySections = []
added (asm.Unfold inner) = decimal (unfolded.number_of inner) ∷ unfolded.name_of inner ∷ []
added asm.TooMuchSource = []
added asm.NoMemory = []

-- the line for a fault of an assembly
abbrev pub asm_line : AsmFault → Bytes
asm_line fault = line_for (codes "ASM") (number_of fault) (name_of fault) (added fault)

-- the name of an output of a link
abbrev pub link_output_name : Output → Bytes
link_output_name Product = codes "TAPE"
link_output_name Report = codes "MAP"
link_output_name Messages = codes "MESSAGES"

-- the additions of a link's fault: the name of the output that could not be written, or the number and the name of the fault of a block or
-- a record; other faults have none
abbrev pub link_added : LinkFault → List Bytes
link_added link.Read = []
link_added (link.Write output) = link_output_name output ∷ []
link_added (link.Block inner) = decimal (block_fault_number inner) ∷ block_fault_name inner ∷ []
link_added (link.Record inner) = decimal (record_fault_number inner) ∷ record_fault_name inner ∷ []
link_added link.BadOrder = []
link_added link.NoText = []
link_added link.BadDisplacement = []
link_added link.UnknownSection = []
link_added link.TooLarge = []
link_added link.TooManyGlobals = []
link_added link.TooManySections = []
link_added link.TooManyModules = []
link_added link.TooMuch = []
link_added link.TextOutside = []
link_added link.NoMemory = []

-- the line for a fault of a link
abbrev pub link_line : LinkFault → Bytes
link_line fault =
    line_for (codes "LINK") (link_fault_number fault) (link_fault_name fault) (link_added fault)

-- the line for an outcome; empty if there is no fault, and for help, a command line that the parser refuses and a file that can't be
-- opened or created, which have texts of their own
abbrev pub line_of : Outcome → Bytes
line_of (Usage fault) = usage_line fault
line_of (Asm (Ok done)) = []
line_of (Asm (Err fault)) = asm_line fault
line_of (Link (Ok done)) = []
line_of (Link (Err fault)) = link_line fault
line_of (Sim (Ok done)) = []
line_of (Sim (Err fault)) = sim_line fault
line_of NotOpened = []

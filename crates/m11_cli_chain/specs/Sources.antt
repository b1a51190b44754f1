-- Texts as the sources of a link. (MACRO-11 Language Reference Manual, "Source program format" and "Relocation and linking". This project's
-- own: the first assembly that is refused decides the fault of several assemblies.)
use Rattle.std.specs.Prelude.{◌≡◌, List, [], ◌∷◌, ◌++◌, map, ⊤}
use Rattle.m11_asm.specs.Outcome.{Ends}
use Rattle.m11_asm.specs.Program.{directory_facts_of}
use Rattle.m11_asm.specs.Written.{EndOfSource, pieces_in}
use Rattle.m11_asm_faults.specs.declared.fault.AsmFault.{AsmFault}
use Rattle.m11_base.specs.Devices.{Bytes}
use Rattle.m11_cli_image.specs.Sources.{Source}
use Rattle.m11_asm_outcome_laws.specs.Live.{AreRefused}
use Rattle.m11_asm_passes.specs.Lines.{NumberedLine, givens}
use Rattle.m11_asm_rules.specs.Meanings.{empty_map}
use Rattle.m11_asm_rules.specs.Placements.{program_map}
use Rattle.m11_asm_lines.specs.Counting.{none_used}
use Rattle.m11_scan_line_laws.specs.Readings.{reading_of}

-- the source that live lines define for a link: sections, names and `.END` of the first pass, and the pieces that the lines emit under the
-- map of the first pass
abbrev pub source_of : List NumberedLine → Source
source_of lines = record {
  facts = directory_facts_of (givens lines);
  pieces = pieces_in (program_map (givens lines)) lines;
}

abbrev pub sources_of : List (List NumberedLine) → List Source
sources_of all = map source_of all

-- ---- texts

-- these are the live lines of texts that are assembled together
abbrev pub AreLive : List Bytes → List NumberedLine → Type 0
AreLive texts lines = (ended : EndOfSource) × Ends empty_map none_used (reading_of texts) lines ended

-- these are the live lines of several assemblies, each with its texts
abbrev pub AllLive : List (List Bytes) → List (List NumberedLine) → Type 0
AllLive [] [] = ⊤
AllLive [] (lines ∷ others) = ⊥
AllLive (texts ∷ more) [] = ⊥
AllLive (texts ∷ more) (lines ∷ others) = AreLive texts lines × AllLive more others

-- the texts of one assembly are refused with this fault, and those of the assemblies before it aren't refused
pub record IsFirstRefused (all : List (List Bytes)) (stopped : AsmFault) : Type 0 where
  pub before : List (List Bytes)
  pub texts : List Bytes
  pub more : List (List Bytes)
  pub whole : all ≡ before ++ texts ∷ more
  pub lines : List (List NumberedLine)
  pub live : AllLive before lines
  pub refused : AreRefused texts stopped

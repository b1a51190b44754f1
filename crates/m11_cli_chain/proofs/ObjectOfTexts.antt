-- An assembly of known texts writes the object of a source that fits.
use Rattle.std.proofs.Common.{◌≡◌, ◌∙◌, List, [], ◌∷◌, ◌++◌, map, Result, Ok, Err, refl, ap, subst}
use Rattle.std.specs.Io.KnownBytes.{Appends}
use Rattle.std.specs.List.{flat_map}
use Rattle.m11_asm.specs.Program.{Program}
use Rattle.m11_asm.specs.Written.{EndOfSource, pieces_in, program_writes}
use Rattle.m11_asm.specs.declared.done.AsmDone.{AsmDone}
use Rattle.m11_asm_faults.specs.declared.fault.AsmFault.{AsmFault}
use Rattle.m11_base_writes.specs.declared.outputs.Output.TheVariants.{Product}
use Rattle.m11_asm_outputs.specs.Object.{AllFit, object_contents}
use Rattle.m11_asm_outputs.specs.Outputs.{assembly}
use Rattle.m11_base_writes.specs.Outputs.{Outputs}
use Rattle.m11_base.specs.Devices.{Bytes}
use Rattle.m11_obj_blocks.specs.Frames.{block}
use Rattle.m11_cli_image.specs.Objects.{SourceFits, contents_of}
use Rattle.m11_obj.specs.Records.{Content, record_data}
use Rattle.m11_asm_outcome_laws.specs.Live.{ComesTo, WritesLive}
use Rattle.m11_asm_outcome_laws.specs.OneText.{program_after}
use Rattle.m11_asm_outcome_laws.specs.Outputs.{content_block}
use Rattle.m11_asm_passes.specs.Lines.{NumberedLine, givens}
use Rattle.m11_asm_rules.specs.Placements.{program_map}
use Rattle.m11_base_writes.specs.Writes.{gained}
use Rattle.m11_cli_chain.specs.Assemblies.{AssemblyYields, WritesObject}
use Rattle.m11_cli_chain.specs.Sources.{source_of}
use Rattle.m11_cli_chain.proofs.FirstSection.{begins_with_absolute}
use Rattle.m11_cli_chain.proofs.LiveLocations.{pieces_at_words}

-- the object of an assembly consists of the blocks of its contents
abbrev pub ObjectLaw : Type 0
ObjectLaw = (program : Program) (lines : List NumberedLine) (ended : EndOfSource)
    → gained assembly Product (program_writes program lines ended)
    ≡ flat_map content_block (object_contents program.rows (pieces_in program.map lines))

data_blocks : (contents : List Content) → flat_map content_block contents ≡ flat_map block (map record_data contents)
data_blocks [] = refl
data_blocks (content ∷ contents) = ap (λ (t : Bytes). block (record_data content) ++ t) (data_blocks contents)

source_fits : (lines : List NumberedLine)
    → AllFit (object_contents (program_after lines).rows (pieces_in (program_after lines).map lines)) → SourceFits (source_of lines)
source_fits lines fit = record {
  records = fit;
  locations = pieces_at_words (program_map (givens lines)) lines;
  others = (begins_with_absolute lines).0;
  absolute = (begins_with_absolute lines).1;
}

module _ (law : ObjectLaw) (texts : List Bytes) (old new : Outputs) where
  writes_object : WritesLive texts old new → WritesObject texts old new
  writes_object w = record {
    lines = w.lines;
    live = (w.ended, w.ends);
    fits = source_fits w.lines w.fit;
    appends = subst (λ (bytes : Bytes). Appends (old Product).text (new Product).text bytes)
        (law (program_after w.lines) w.lines w.ended ∙ data_blocks (contents_of (source_of w.lines))) (w.gains.texts Product);
  }

  pub assembly_yields : (returned : Result AsmDone AsmFault) → ComesTo texts old new returned → AssemblyYields texts old new returned
  assembly_yields (Ok done) w = writes_object w
  assembly_yields (Err stopped) h = h

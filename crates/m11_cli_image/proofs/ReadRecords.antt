-- Each block of a source's object is read as the record for which it was written.
use Rattle.std.proofs.Common.{◌≡◌, ◌*◌, ◌≤◌, List, [], ◌∷◌, length, map, flat_map, Ok, refl, ap₂, arith, length-append}
use Rattle.std.specs.List.{AllByRecursion}
use Rattle.m11_obj_blocks.specs.Frames.{AreBlocks, block, content_limit}
use Rattle.m11_obj_blocks.specs.Frames as frames
use Rattle.m11_obj.specs.declared.gsd.GsdEntry.{GsdEntry}
use Rattle.m11_obj.specs.Gsd.{entries_bytes, entry_bytes}
use Rattle.m11_obj.specs.Reading.{content_of}
use Rattle.m11_obj.specs.Records.{Content, EndOfGsd, EndOfModule, Fits, Gsd, InternalSymbols, Relocations, Text, record_data}
use Rattle.m11_obj.proofs.RecordsAgain.{record_again}
use Rattle.m11_cli_image.specs.Objects.{IsReadBack, SourceFits, contents_of}
use Rattle.m11_cli_image.specs.Sources.{Source}
use Rattle.m11_cli_image.proofs.ReadModules.{is_module, module_of}

entries_length : (entries : List GsdEntry) → length (entries_bytes entries) ≡ 8 * length entries
entries_length [] = refl
entries_length (entry ∷ entries) =
    omega (arith, entries_length entries, length-append (entry_bytes entry) (entries_bytes entries))

held : (content : Content) → Fits content → length (record_data content) ≤ content_limit
held (Gsd entries) fits = omega (arith, fits.0, entries_length entries)
held EndOfGsd fits = omega arith
held (Text address bytes) fits = omega (arith, fits.1)
held (Relocations relocations) fits = omega (arith, fits.0)
held InternalSymbols fits = omega arith
held EndOfModule fits = omega arith

pub are_blocks : (contents : List Content) → AllByRecursion Fits contents
    → AreBlocks (map record_data contents) (flat_map block (map record_data contents))
are_blocks [] fit = frames.AreBlocks.Nothing
are_blocks (content ∷ contents) fit =
    frames.AreBlocks.Block (record_data content) (held content fit.0) (are_blocks contents fit.1)

are_records : (contents : List Content) → AllByRecursion Fits contents
    → map content_of (map record_data contents) ≡ map (λ content. Ok content) contents
are_records [] fit = refl
are_records (content ∷ contents) fit =
    ap₂ (λ first more. first ∷ more) (record_again content fit.0) (are_records contents fit.1)

pub is_read_back : (source : Source) → SourceFits source → IsReadBack source
is_read_back source fits = record {
  blocks = are_blocks (contents_of source) fits.records;
  records = are_records (contents_of source) fits.records;
  whole = module_of source;
  is_whole = is_module source;
}

-- The pieces of the items of memory, placed in a program whose absolute section begins at 0.
use Rattle.std.proofs.Common.{◌≡◌, ◌∙◌, ℕ, ◌+◌, ◌%◌, List, [], ◌∷◌, map, get_or, None, ap, ap₂, arith}
use Rattle.m11_base.specs.Names.{absolute_name}
use Rattle.m11_base_disassembly.specs.declared.symbols.Symbol.{Symbol}
use Rattle.m11_cpu_laws.specs.Image.{byte_of}
use Rattle.m11_asm_rules.specs.Contents.{fixed_byte, fixed_word}
use Rattle.m11_cli_image.specs.Addresses.{Addresses}
use Rattle.m11_cli_image.specs.Pieces.{bytes_at, laid, placed, spot}
use Rattle.m11_asm_dump_laws.specs.Items.{pieces_of}
use Rattle.m11_dump_source.specs.Labels.{kept_of, left_out, symbols_in}
use Rattle.m11_dump_source.specs.Lines.{lines_of}
use Rattle.m11_dump_source.specs.Memory.{Cells}
use Rattle.m11_dump_laws.specs.Items.{AreCells, items_of}
use Rattle.m11_dump_laws.proofs.BytesStored.{LiesFixed, memory_found}

module _ (program : Addresses) (source : ℕ) (at_zero : program.base source absolute_name ≡ 0) where
  placed_fixed : LiesFixed (placed program source)
  placed_fixed = record {
    word = λ location word below.
        let same : (0 + location) % 65536 ≡ location = omega arith in
        ap (λ (base : ℕ). laid program (spot source base (base + location)) (fixed_word word)) at_zero
        ∙ ap (λ (n : ℕ). (n, bytes_at program (spot source 0 (0 + location)) (fixed_word word))) same;
    byte = λ location byte below small.
        let same : (0 + location) % 65536 ≡ location = omega arith in
        let stays : byte % 256 ≡ byte = omega arith in
        ap (λ (base : ℕ). laid program (spot source base (base + location)) (fixed_byte byte)) at_zero
        ∙ ap₂ (λ (n b : ℕ). (n, b ∷ [])) same stays;
  }

  pub bytes_are_those_of_memory : (names : List Symbol) (start : ℕ) (cells : Cells) (address : ℕ) → AreCells cells
      → byte_of (map (placed program source) (pieces_of 0 (items_of names start cells))) address ≡ get_or cells address None
  bytes_are_those_of_memory names start cells address are =
      memory_found (placed program source) placed_fixed address (kept_of names) (left_out names)
      (symbols_in (kept_of names) start (lines_of cells)) cells are.bytes are.few

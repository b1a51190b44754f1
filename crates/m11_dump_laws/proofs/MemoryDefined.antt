-- The source that shows what memory holds defines it, and a chain of that source alone leaves it.
use Rattle.std.proofs.Common.{◌≡◌, ◌∙◌, ℕ, ◌*◌, ◌%◌, ◌≤◌, ◌<◌, Bool, true, false, List, [], ◌∷◌, ◌++◌, length, map, find, Option, Some, None, option_map, refl, sym, ap, ap₂, subst, arith, append-nil}
use Rattle.std.specs.Prelude.{◌==◌, if◌then◌else◌, slice_index_or, Ok}
use Rattle.std.specs.List.{AllByRecursion, flat_map}
use Rattle.std.specs.Option.{option_to_list, unwrap_or}
use Rattle.m11_base.specs.Devices.{Bytes}
use Rattle.m11_base.specs.Names.{absolute_name}
use Rattle.m11_base_disassembly.specs.declared.symbols.Symbol.{Symbol}
use Rattle.m11_obj.specs.declared.pieces.Piece.{Piece}
use Rattle.m11_cpu_laws.specs.Image.{byte_of}
use Rattle.m11_scan.specs.Line.{SourceLine, line_of}
use Rattle.m11_scan_expressions.specs.Quantities.{Quantity, absolute}
use Rattle.m11_scan_line_laws.specs.Readings.{Reading, reading_of}
use Rattle.m11_unfold_rules.specs.Stages.{Stage}
use Rattle.m11_unfold_rules.specs.Taking.{NothingLeft, move}
use Rattle.m11_unfold_rules.specs.Unfolding.{UnfoldedLine, Unfolds}
use Rattle.m11_asm_rules.specs.Exports.{transfer_flags}
use Rattle.m11_asm_rules.specs.Meanings.{empty_map}
use Rattle.m11_asm_rules.specs.Placements.{placement, program_map}
use Rattle.m11_asm_lines.specs.Counting.{none_used}
use Rattle.m11_asm_passes.specs.Lines.{NumberedLine, givens}
use Rattle.m11_asm.specs.Outcome.{Ends}
use Rattle.m11_asm.specs.Written.{EndOfSource, pieces_in}
use Rattle.m11_asm_outcome_laws.specs.OneText.{Repeats, program_after}
use Rattle.m11_cli_image.proofs.AbsoluteSection.{BeginsAbsolute, first_at_zero}
use Rattle.m11_cli_image.specs.Addresses.{Addresses}
use Rattle.m11_cli_image.specs.Image.{addresses_of, image_of, start_at}
use Rattle.m11_cli_image.specs.Pieces.{placed}
use Rattle.m11_cli_image.specs.Sources.{Source}
use Rattle.m11_cli_chain.specs.Chain.{Chains, HasImage}
use Rattle.m11_cli_chain.specs.Sources.{AllLive, AreLive, source_of, sources_of}
use Rattle.m11_cli_chain.specs.declared.chain.Chained.{Chained}
use Rattle.m11_asm_dump_laws.proofs.PlainTexts.{source_plain}
use Rattle.m11_asm_dump_laws.proofs.ItemsPlaced.{members}
use Rattle.m11_asm_dump_laws.specs.Items as items
use Rattle.m11_asm_dump_laws.specs.Items.{AreWellFormed, AssembleAs, Item, all_defined, pieces_of}
use Rattle.m11_asm_dump_laws.specs.Knowledge.{IsSpelled}
use Rattle.m11_dump_source.specs.Memory.{Cells}
use Rattle.m11_dump_source.specs.Texts.{source_text}
use Rattle.m11_dump_laws.specs.Items.{AreCells, AreNames, all_symbols, items_of}
use Rattle.m11_dump_laws.specs.Memory.{DefinesMemory, HoldsMemory, IsWithinLimits}
use Rattle.m11_dump_laws.proofs.LinesLive.{HasAllLines, ReadsPlain, all_unflagged, lines_unfolded, start_unflagged, text_read, written_flat}

-- ---- the image of a source that is assembled as its items say

itself : (number : ℕ) → number < 65536 → number % 65536 ≡ number
itself number below = omega arith

module _ (bottom : ℕ) (lines : List NumberedLine) (start : ℕ) (list : List Item) (made : AssembleAs (givens lines) start list) where
  abbrev source : Source
  source = source_of lines

  abbrev program : Addresses
  program = addresses_of bottom (source ∷ [])

  pieces_are : source.pieces ≡ pieces_of 0 list
  unfolding pieces_in
  pieces_are = made.pieces

  pub image_bytes : (address : ℕ)
      → (image_of bottom (source ∷ [])).byte address ≡ byte_of (map (placed program 0) (pieces_of 0 list)) address
  unfolding image_of
  image_bytes address =
      ap (λ (ps : List Piece). byte_of (map (placed program 0) ps ++ []) address) pieces_are
      ∙ ap (λ blocks. byte_of blocks address) (append-nil (map (placed program 0) (pieces_of 0 list)))

  pub base_is : BeginsAbsolute source → program.base 0 absolute_name ≡ 0
  unfolding addresses_of
  base_is begins = first_at_zero bottom source [] 0 begins

  abbrev is_even : ℕ → Bool
  is_even number = number % 2 == 0

  abbrev starts_by : Option Quantity → Option ℕ
  starts_by address = find is_even (option_to_list (option_map (start_at program 0) address) ++ [])

  start_by : start < 65536 → (b : Bool) → (start % 2 == 0) ≡ b
      → starts_by (if b then Some (absolute start 0) else None) ≡ (if b then Some start else None)
  start_by below true even =
      ap (λ n. if is_even n then Some n else None) (itself start below) ∙ ap (λ b. if b then Some start else None) even
  start_by below false odd = refl

  pub image_start : start < 65536 → (image_of bottom (source ∷ [])).start ≡ (if start % 2 == 0 then Some start else None)
  unfolding image_of
  image_start below = ap starts_by made.transfer ∙ start_by below (start % 2 == 0) refl

-- ---- the source of memory

abbrev pub BeginFirst : Type 0
BeginFirst = (lines : List NumberedLine) → BeginsAbsolute (source_of lines)

abbrev pub TextIsItems : Type 0
TextIsItems = (names : List Symbol) (start : ℕ) (cells : Cells) → length cells ≤ 65536
    → source_text names start cells
    ≡ flat_map (λ text. text ++ 10 ∷ []) (items.source_of (all_symbols names start cells) start (items_of names start cells))

abbrev pub StoresBytes : Type 0
StoresBytes = (program : Addresses) (source : ℕ) (names : List Symbol) (start : ℕ) (cells : Cells) (address : ℕ) → AreCells cells
    → program.base source absolute_name ≡ 0
    → byte_of (map (placed program source) (pieces_of 0 (items_of names start cells))) address ≡ slice_index_or cells address None

abbrev pub IsAssembled : Type 0
IsAssembled = (symbols : List Symbol) (start : ℕ) (list : List Item) (lines : List UnfoldedLine) (stage : Stage)
    → AreWellFormed symbols list → start < 65536 → Unfolds (map line_of (items.source_of symbols start list)) lines stage
    → move stage ≡ NothingLeft → AssembleAs lines start list

abbrev pub IsRepeated : Type 0
IsRepeated = (reading : Reading) (lines : List NumberedLine) (ended : EndOfSource) → Ends empty_map none_used reading lines ended
    → Repeats reading lines ended

-- the laws that this one stands on
pub record Laws : Type 0 where
  pub reads : ReadsPlain
  pub has_all : HasAllLines
  pub repeats : IsRepeated
  pub first : BeginFirst
  pub text : TextIsItems
  pub stores : StoresBytes
  pub assembled : IsAssembled

module _ (laws : Laws) (names : List Symbol) (start : ℕ) (cells : Cells) (bytes : AreCells cells) (below : start < 65536)
    (well : AreWellFormed (all_symbols names start cells) (items_of names start cells)) (short : IsWithinLimits names start cells) where
  abbrev symbols : List Symbol
  symbols = all_symbols names start cells

  abbrev list : List Item
  list = items_of names start cells

  abbrev texts : List Bytes
  texts = items.source_of symbols start list

  abbrev text : Bytes
  text = source_text names start cells

  reading_is : reading_of (text ∷ []) ≡ record { lines = map line_of texts; fault = None }
  reading_is =
      text_read laws.reads text texts (laws.text names start cells bytes.few ∙ written_flat texts)
      (source_plain symbols (members IsSpelled (all_defined list) symbols well.spelled well.known) start list well.spelled well.sound) short.bytes
      short.lines

  module _ (bottom : ℕ) (lines : List NumberedLine) (live : AreLive (text ∷ []) lines) where
    made : AssembleAs (givens lines) start list
    made =
        let all = lines_unfolded laws.has_all (reading_of (text ∷ [])) lines live.0 live.1 in
        let P : Reading → Type 0 = λ r. Unfolds r.lines (givens lines) all.stage in
        laws.assembled symbols start list (givens lines) all.stage well below (subst P reading_is all.unfolds) all.rests

    transfer_unflagged : transfer_flags (program_after lines).transfer ≡ 0
    transfer_unflagged = ap transfer_flags made.transfer ∙ start_unflagged start (start % 2 == 0)

    pub memory_defined : DefinesMemory bottom cells start lines
    memory_defined = record {
      byte = λ address. image_bytes bottom lines start list made address
          ∙ laws.stores (addresses_of bottom (source_of lines ∷ [])) 0 names start cells address bytes
          (base_is bottom lines start list made (laws.first lines));
      start_is = image_start bottom lines start list made below;
      unflagged = all_unflagged lines (laws.repeats (reading_of (text ∷ [])) lines live.0 live.1).unmoved made.unflagged transfer_unflagged;
    }

  -- ---- a chain

  start_found : (b : Bool) → unwrap_or (if b then Some start else None) 1 ≡ (if b then start else 1)
  start_found true = refl
  start_found false = refl

  held_by : (bottom words : ℕ) (done : Chained) (all : List (List NumberedLine)) → AllLive ((text ∷ []) ∷ []) all
      → HasImage (image_of bottom (sources_of all)) words done.machine done.start → HoldsMemory words cells start done.machine done.start
  held_by bottom words done [] live has = absurd live
  held_by bottom words done (lines ∷ []) live has =
      let defined = memory_defined bottom lines live.0 in record {
        byte = λ address within. has.bytes address within ∙ ap (λ (b : Option ℕ). unwrap_or b 0) (defined.byte address);
        start_is = has.start_is ∙ ap (λ (s : Option ℕ). unwrap_or s 1) defined.start_is ∙ start_found (start % 2 == 0);
      }
  held_by bottom words done (lines ∷ (more ∷ all)) live has = absurd live.1

  pub memory_held : (bottom words : ℕ) (done : Chained) → Chains ((text ∷ []) ∷ []) bottom words (Ok done)
      → HoldsMemory words cells start done.machine done.start
  memory_held bottom words done chains = held_by bottom words done chains.lines chains.live chains.holds

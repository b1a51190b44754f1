-- The feeds of an assembly and their inputs, which are the texts and counts of failures of the feeds, were read equally far.
use Rattle.std.proofs.Common.{◌≡◌, ◌∙◌, ℕ, List, [], ◌∷◌, map, inl, inr, ap, sym, refl, Option, Result, Ok, Err}
use Rattle.std.proofs.lemmas.List.{length-map}
use Rattle.m11_base_writes.specs.Passes.{pass_of}
use Rattle.m11_base.specs.Feed.{Text}
use Rattle.m11_scan.specs.Line.{SourceLine}
use Rattle.m11_scan.specs.declared.fault.LineFault.{LineFault}
use Rattle.m11_scan_line_laws.specs.Extents.{GaveAll, GaveLines, GavePast, GaveTill, GaveTo}
use Rattle.m11_asm.specs.Extents.{AsmGives, GivesToEnd, GivesToFault, GivesToLack, LacksWriting, SecondGives, StopsWriting}
use Rattle.m11_base_writes.specs.Outputs.{Outputs, Write}
use Rattle.m11_cli.proofs.Assembled.{have}
use Rattle.m11_asm.specs.Extents as extents
use Rattle.m11_asm.specs.Program.{Program, program_of}
use Rattle.m11_asm.specs.declared.done.AsmDone.{AsmDone}
use Rattle.m11_asm_faults.specs.declared.fault.AsmFault.{AsmFault}
use Rattle.m11_asm_faults.specs.declared.fault.AsmFault.TheVariants as fault
use Rattle.m11_asm_lines.specs.declared.counting.Counting.{Counting}
use Rattle.m11_asm_lines.specs.declared.counting.Counting.TheVariants.{Definitions}
use Rattle.m11_asm_lines.specs.Counting.{none_used}
use Rattle.m11_asm_passes.specs.Lines.{NumberedLine, givens}
use Rattle.m11_asm_rules.specs.Meanings.{Map, empty_map}
use Rattle.m11_cli.proofs.Sources.{seen}

module _ {F : Type 0} (text : F → Option Text) (faults : F → ℕ) where
  texts : (feeds : List F) → map (λ s. s.text) (seen text faults feeds) ≡ map text feeds
  texts [] = refl
  texts (x ∷ xs) = ap (λ ts. text x ∷ ts) (texts xs)

  gave_to : (olds news : List F) (sources : List (List ℕ)) (beginning : List ℕ) → GaveTo text olds news sources beginning
      → GaveTo (λ s. s.text) (seen text faults olds) (seen text faults news) sources beginning
  gave_to [] news [] beginning h = (ap (seen text faults) h.0, h.1)
  gave_to [] news (s ∷ ss) beginning h = absurd h
  gave_to (x ∷ xs) [] ss beginning h = absurd h
  gave_to (x ∷ xs) (y ∷ ys) [] beginning h = (h.0, texts ys ∙ h.1 ∙ sym (texts xs))
  gave_to (x ∷ xs) (y ∷ ys) (s ∷ ss) beginning h = (h.0, gave_to xs ys ss beginning h.1)

  gave_lines : (olds news : List F) (lines : List SourceLine) → GaveLines text olds news lines
      → GaveLines (λ s. s.text) (seen text faults olds) (seen text faults news) lines
  gave_lines olds news lines h = record {
    sources = h.sources;
    beginning = h.beginning;
    gave = gave_to olds news h.sources h.beginning h.gave;
    comes = h.comes;
  }

  gave_all : (olds news : List F) (lines : List SourceLine) → GaveAll text olds news lines
      → GaveAll (λ s. s.text) (seen text faults olds) (seen text faults news) lines
  gave_all olds news lines h = record {
    sources = h.sources;
    gave = gave_to olds news h.sources [] h.gave;
    each = h.each ∙ sym (length-map olds _);
    is_reading = h.is_reading;
  }

  gave_till : (olds news : List F) (lines : List SourceLine) → GaveTill text olds news lines
      → GaveTill (λ s. s.text) (seen text faults olds) (seen text faults news) lines
  gave_till olds news lines h = record {
    sources = h.sources;
    beginning = h.beginning;
    gave = gave_to olds news h.sources h.beginning h.gave;
    is_reading = h.is_reading;
  }

  gave_past : (olds news : List F) (lines : List SourceLine) (limit : LineFault) → GavePast text olds news lines limit
      → GavePast (λ s. s.text) (seen text faults olds) (seen text faults news) lines limit
  gave_past olds news lines limit h = record {
    sources = h.sources;
    beginning = h.beginning;
    byte = h.byte;
    gave = gave_to olds news h.sources _ h.gave;
    before = h.before;
    passes = h.passes;
  }

  to_end : (olds news : List F) (names : Map) (counting : Counting) (lines : List NumberedLine)
      → GivesToEnd (pass_of text faults olds news) names counting lines
      → GivesToEnd (pass_of (λ s. s.text) (λ s. s.faults) (seen text faults olds) (seen text faults news)) names counting lines
  to_end olds news names counting lines (extents.GivesToEnd.AtEnd source stage live ended gave) =
      extents.GivesToEnd.AtEnd source stage live ended (gave_lines olds news source gave)
  to_end olds news names counting lines (extents.GivesToEnd.WithoutEnd source live gave) =
      extents.GivesToEnd.WithoutEnd source live (gave_all olds news source gave)

  to_lack : (olds news : List F) (names : Map) (counting : Counting)
      → GivesToLack (pass_of text faults olds news) names counting
      → GivesToLack (pass_of (λ s. s.text) (λ s. s.faults) (seen text faults olds) (seen text faults news)) names counting
  to_lack olds news names counting (extents.GivesToLack.AtStart gave) = extents.GivesToLack.AtStart (gave_lines olds news [] gave)
  to_lack olds news names counting (extents.GivesToLack.InLine source lines may_lack gave) =
      extents.GivesToLack.InLine source lines may_lack (gave_lines olds news source gave)

  to_fault : (olds news : List F) (names : Map) (counting : Counting) (stopped : AsmFault)
      → GivesToFault (pass_of text faults olds news) names counting stopped
      → GivesToFault (pass_of (λ s. s.text) (λ s. s.faults) (seen text faults olds) (seen text faults news)) names counting stopped
  to_fault olds news names counting fault.Read h = (h.0, h.1, h.2, gave_till olds news h.0 h.3)
  to_fault olds news names counting fault.TooMuchSource h = (h.0, h.1, h.2, h.3, gave_past olds news h.0 h.3 h.4)
  to_fault olds news names counting fault.NoMemory h = to_lack olds news names counting h
  to_fault olds news names counting (fault.Write output) h = absurd h
  to_fault olds news names counting fault.TooManySymbols h = (h.0, h.1, h.2, gave_lines olds news h.0 h.3)
  to_fault olds news names counting fault.TooManySections h = (h.0, h.1, h.2, gave_lines olds news h.0 h.3)
  to_fault olds news names counting (fault.Unfold inner) h = (h.0, h.1, h.2, gave_lines olds news h.0 h.3)

  stops : (olds news : List F) (program : Program) (Stop : List Write → Type 0)
      → StopsWriting (pass_of text faults olds news) program Stop
      → StopsWriting (pass_of (λ s. s.text) (λ s. s.faults) (seen text faults olds) (seen text faults news)) program Stop
  stops olds news program Stop (extents.StopsWriting.InLine source among gave) =
      extents.StopsWriting.InLine source among (gave_lines olds news source gave)
  stops olds news program Stop (extents.StopsWriting.AtEnd reading lines ended reads ends gave stop) =
      extents.StopsWriting.AtEnd reading lines ended (have text faults olds news reading reads) ends
      (to_end olds news program.map Definitions lines gave) stop

  lacks : (olds news : List F) (program : Program) (old new : Outputs) → LacksWriting (pass_of text faults olds news) program old new
      → LacksWriting (pass_of (λ s. s.text) (λ s. s.faults) (seen text faults olds) (seen text faults news)) program old new
  lacks olds news program old new (extents.LacksWriting.AtStart gave same) = extents.LacksWriting.AtStart (gave_lines olds news [] gave) same
  lacks olds news program old new (extents.LacksWriting.InLine source stop gave) =
      extents.LacksWriting.InLine source stop (gave_lines olds news source gave)
  lacks olds news program old new (extents.LacksWriting.AtEnd reading lines ended reads ends gave stop) =
      extents.LacksWriting.AtEnd reading lines ended (have text faults olds news reading reads) ends
      (to_end olds news program.map Definitions lines gave) stop

  second : (olds news : List F) (program : Program) (old new : Outputs) (result : Result AsmDone AsmFault)
      → SecondGives (pass_of text faults olds news) program old new result
      → SecondGives (pass_of (λ s. s.text) (λ s. s.faults) (seen text faults olds) (seen text faults news)) program old new result
  second olds news program old new (Ok done) h = (h.0, to_end olds news program.map Definitions h.0 h.1)
  second olds news program old new (Err fault.NoMemory) h = lacks olds news program old new h
  second olds news program old new (Err (fault.Write output)) h = stops olds news program _ h
  second olds news program old new (Err stopped) h = to_fault olds news program.map Definitions stopped h

  pub asm_gives : (olds news again later : List F) (old new : Outputs) (result : Result AsmDone AsmFault)
      → AsmGives (pass_of text faults olds news) (pass_of text faults again later) old new result
      → AsmGives (pass_of (λ s. s.text) (λ s. s.faults) (seen text faults olds) (seen text faults news))
      (pass_of (λ s. s.text) (λ s. s.faults) (seen text faults again) (seen text faults later)) old new result
  asm_gives olds news again later old new (Ok done) h =
      (h.0, to_end olds news empty_map none_used h.0 h.1, second again later (program_of (givens h.0)) old new (Ok done) h.2)
  asm_gives olds news again later old new (Err stopped) (inl h) =
      inl (to_fault olds news empty_map none_used stopped h.0, ap (seen text faults) h.1)
  asm_gives olds news again later old new (Err stopped) (inr h) =
      inr (h.0, to_end olds news empty_map none_used h.0 h.1, second again later (program_of (givens h.0)) old new (Err stopped) h.2)

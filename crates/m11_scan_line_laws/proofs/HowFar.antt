-- How far feeds have been read when a reading of them stops.
use Rattle.std.proofs.Common.{◌≡◌, ℕ, ◌≤◌, zero, suc, List, [], ◌∷◌, ◌++◌, length, map, drop, get_or, Option, Some, None, Ok, Err, refl, sym, ap, subst, ◌∙◌, arith, append_assoc}
use Rattle.std.proofs.lemmas.List.{length-map, length-drop, length-set, append-nil, map-append}
use Rattle.m11_base.specs.Feed.{Text, GivesBytes, GivesFailure}
use Rattle.m11_scan.specs.declared.fault.LineFault.{LineFault}
use Rattle.m11_scan.specs.declared.fault.LineFault.TheVariants.{Read, TooMuchSource, TooManyLines}
use Rattle.m11_scan.specs.Line.{SourceLine}
use Rattle.m11_scan.specs.Lines.{cut, input_of}
use Rattle.m11_scan.specs.Reader.{Position, position_at, Gave, Fails, ReadsNext}
use Rattle.m11_scan.proofs.Cuts.{bytes_of}
use Rattle.m11_scan.proofs.SourceSteps.{gave_one, gave_then}
use Rattle.m11_scan_line_laws.specs.Readings.{reading_of_input}
use Rattle.m11_scan_line_laws.specs.Calls.{HasRead, start}
use Rattle.m11_scan_line_laws.specs.Extents.{GaveAll, GaveLines, GavePast, GaveTill, GaveTo, came_of}
use Rattle.m11_scan_line_laws.proofs.Given.{GiveParts, GiveSources, ended, parts_of}
use Rattle.m11_scan_line_laws.proofs.Reached.{Reached, after_more, reading_so_far, stops_at_bytes, stops_at_lines}

abbrev Texts : Type 0
Texts = List (Option Text)

text_first : (t t' : Option Text) (ts ts' : Texts) → t ∷ ts ≡ t' ∷ ts' → t ≡ t'
text_first t t' ts ts' e = ap (λ (l : Texts). get_or l 0 None) e

texts_after : (t t' : Option Text) (ts ts' : Texts) → t ∷ ts ≡ t' ∷ ts' → ts ≡ ts'
texts_after t t' ts ts' e = ap (λ (l : Texts). drop 1 l) e

-- ---- the feeds at their positions

no_more_texts : (texts new : Texts) (sources : List (List ℕ)) (beginning : List ℕ) → GiveParts texts new sources beginning
    → length new ≤ length texts
no_more_texts [] new [] beginning h = omega (arith, ap length h.0)
no_more_texts [] new (source ∷ sources) beginning h = absurd h
no_more_texts (text ∷ texts) new [] beginning h = omega (arith, ap length h.2)
no_more_texts (text ∷ texts) new (source ∷ sources) beginning h =
    omega (arith, no_more_texts texts new sources beginning h.1)

module _ {F : Type 0} (text : F → Option Text) where
  pub gave_to : (old new : List F) (count : ℕ) (sources : List (List ℕ)) (beginning : List ℕ) → length new ≡ length old
      → GiveParts (map text old) (drop count (map text new)) sources beginning → GaveTo text old new sources beginning
  gave_to [] [] count [] beginning e h = (refl, h.1)
  gave_to [] [] count (source ∷ sources) beginning e h = absurd h
  gave_to [] (y ∷ new) count sources beginning e h = absurd (omega (arith, e))
  gave_to (x ∷ old) [] count sources beginning e h = absurd (omega (arith, e))
  gave_to (x ∷ old) (y ∷ new) zero [] beginning e h =
      let P : Option Text → Type 0 = λ t. GivesBytes (text x) t beginning in (
        subst P (sym (text_first (text y) h.0 (map text new) (map text old) h.2)) h.1,
        texts_after (text y) h.0 (map text new) (map text old) h.2,
      )
  gave_to (x ∷ old) (y ∷ new) (suc count) [] beginning e h =
      absurd (omega (arith, e, ap length h.2, length-drop count (map text new), length-map new text, length-map old text))
  gave_to (x ∷ old) (y ∷ new) zero (source ∷ sources) beginning e h =
      absurd (omega (
        arith,
        e,
        no_more_texts (map text old) (text y ∷ map text new) sources beginning h.1,
        length-map new text,
        length-map old text,
      ))
  gave_to (x ∷ old) (y ∷ new) (suc count) (source ∷ sources) beginning e h =
      (h.0, gave_to old new count sources beginning (omega (arith, e)) h.1)

each_given : (texts : Texts) (sources : List (List ℕ)) → GiveSources texts sources → length sources ≡ length texts
each_given [] [] h = refl
each_given [] (source ∷ sources) h = absurd h
each_given (text ∷ texts) [] h = absurd h
each_given (text ∷ texts) (source ∷ sources) h = omega (arith, each_given texts sources h.1)

-- ---- further bytes from one feed

gives_more : (texts new later : Texts) (sources : List (List ℕ)) (beginning more : List ℕ) (t t' : Option Text) (rest : Texts)
    → GiveParts texts new sources beginning → new ≡ t ∷ rest → later ≡ t' ∷ rest → GivesBytes t t' more
    → GiveParts texts later sources (beginning ++ more)
gives_more [] new later [] beginning more t t' rest h is is' g = let some : t ∷ rest ≡ [] = sym is ∙ h.0 in absurd (cc)
gives_more [] new later (source ∷ sources) beginning more t t' rest h is is' g = absurd h
gives_more (text ∷ texts) new later [] beginning more t t' rest h is is' g =
    let same : h.0 ∷ texts ≡ t ∷ rest = sym h.2 ∙ is in
    let P : Option Text → Type 0 = λ s. GivesBytes s t' more in (
      t',
      gave_then text h.0 t' beginning more h.1 (subst P (sym (text_first h.0 t texts rest same)) g),
      is' ∙ ap (λ (ts : Texts). t' ∷ ts) (sym (texts_after h.0 t texts rest same)),
    )
gives_more (text ∷ texts) new later (source ∷ sources) beginning more t t' rest h is is' g =
    (h.0, gives_more texts new later sources beginning more t t' rest h.1 is is' g)

failed_gives_nothing : (t t' : Option Text) (count : ℕ) → GivesFailure t t' count → GivesBytes t t' []
failed_gives_nothing None t' count g = tt
failed_gives_nothing (Some t) t' count g = (t.bytes, refl, g.1)

-- one byte was read from the first of these texts, and nothing from the others
record GaveByte (texts new : Texts) (byte : ℕ) : Type 0 where
  pub text : Option Text
  pub text' : Option Text
  pub rest : Texts
  pub was : texts ≡ text ∷ rest
  pub is : new ≡ text' ∷ rest
  pub gives : GivesBytes text text' (byte ∷ [])

gave_byte : (texts new : Texts) (byte : ℕ) → Gave texts new (Some byte ∷ []) → GaveByte texts new byte
gave_byte [] new byte g = absurd g
gave_byte (t ∷ texts) new byte g = record {
  text = t;
  text' = g.2.0;
  rest = texts;
  was = refl;
  is = g.2.2;
  gives = gave_then t g.0 g.2.0 (byte ∷ []) [] (gave_one t g.0 byte g.1) g.2.1;
}

came_more : (sources : List (List ℕ)) (beginning : List ℕ) (byte : ℕ)
    → came_of sources (beginning ++ byte ∷ []) ≡ came_of sources beginning ++ Some byte ∷ []
came_more sources beginning byte =
    ap (λ (l : List (Option ℕ)). input_of sources ++ l) (map-append (λ b. Some b) beginning (byte ∷ []))
    ∙ sym (append_assoc (input_of sources) (bytes_of beginning) (Some byte ∷ []))

-- ---- the bytes that a new reader has read

module _ {F : Type 0} (text : F → Option Text) (faults : F → ℕ) where
  same_length : (old new : List F) → map faults new ≡ map faults old → length new ≡ length old
  same_length old new e = omega (arith, length-map new faults, length-map old faults, ap length e)

  module _ (old new : List F) (source bytes_left lines_left : ℕ) (lines : List SourceLine) where
    abbrev first : Position
    first = start text faults old

    abbrev last : Position
    last = position_at text faults new source bytes_left lines_left

    pub just_lines : HasRead first last lines → GaveLines text old new lines
    just_lines h =
        let parts = parts_of (map text old) last.texts h.given h.gave in
        record {
          sources = parts.sources;
          beginning = parts.beginning;
          gave = gave_to text old new source parts.sources parts.beginning (same_length old new h.faults) parts.give;
          comes = record { pieces = h.pieces; is_cut = ap cut (sym parts.is) ∙ h.is_cut; are = h.are; ends = h.ends };
        }

    module _ (middle : Position) (h : HasRead first middle lines) where
      pub all_given : ReadsNext middle last (Ok None) → GaveAll text old new lines
      all_given read =
          let r = after_more first middle last lines read.given h read.came in
          let parts = parts_of (map text old) last.texts r.given r.gave in
          let gone = ended (map text old) last.texts parts.sources parts.beginning read.ended parts.give in
          let P : List ℕ → Type 0 = λ b. GiveParts (map text old) last.texts parts.sources b in
          let is : r.given ≡ input_of parts.sources =
          parts.is ∙ ap (λ (b : List ℕ). input_of parts.sources ++ bytes_of b) gone.1
          ∙ append-nil (input_of parts.sources) in
          record {
            sources = parts.sources;
            gave = gave_to text old new source parts.sources [] (same_length old new r.faults) (subst P gone.1 parts.give);
            each = each_given (map text old) parts.sources gone.0 ∙ length-map old text;
            is_reading = ap reading_of_input (sym is) ∙ reading_so_far first last lines r refl refl;
          }

      pub till_failure : ReadsNext middle last (Err Read) → GaveTill text old new lines
      till_failure read =
          let now : Position = read.1 in
          let r = after_more first middle now lines read.0 h read.2 in
          let fails : Fails now last = read.3 in
          let parts = parts_of (map text old) now.texts r.given r.gave in
          let P : List ℕ → Type 0 = λ b. GiveParts (map text old) last.texts parts.sources b in
          let changed : length (map faults new) ≡ length (map faults old) =
          ap length fails.faults ∙ length-set now.faults now.source fails.count ∙ ap length r.faults in
          record {
            sources = parts.sources;
            beginning = parts.beginning;
            gave = gave_to text old new source parts.sources parts.beginning
                (omega (arith, changed, length-map new faults, length-map old faults))
                (subst P (append-nil parts.beginning) (gives_more (map text old) now.texts last.texts parts.sources parts.beginning [] fails.text fails.text'
                fails.texts parts.give fails.was fails.is (failed_gives_nothing fails.text fails.text' _ fails.gives)));
            is_reading = ap reading_of_input (sym parts.is) ∙ reading_so_far first now lines r refl refl;
          }

      module _ (now : Position) (r : Reached first now lines) (byte : ℕ) (gave : Gave now.texts last.texts (Some byte ∷ []))
          (same : last.faults ≡ now.faults) (limit : LineFault)
          (stops : reading_of_input (r.given ++ Some byte ∷ []) ≡ record { lines = lines; fault = Some limit }) where
        past_byte : GavePast text old new lines limit
        past_byte =
            let parts = parts_of (map text old) now.texts r.given r.gave in
            let one = gave_byte now.texts last.texts byte gave in
            record {
              sources = parts.sources;
              beginning = parts.beginning;
              byte = byte;
              gave = gave_to text old new source parts.sources (parts.beginning ++ byte ∷ [])
                  (same_length old new (same ∙ r.faults))
                  (gives_more (map text old) now.texts last.texts parts.sources parts.beginning (byte ∷ []) one.text one.text' one.rest
                  parts.give one.was one.is one.gives);
              before = ap reading_of_input (sym parts.is) ∙ reading_so_far first now lines r refl refl;
              passes = ap reading_of_input
                  (came_more parts.sources parts.beginning byte ∙ ap (λ (l : List (Option ℕ)). l ++ Some byte ∷ []) (sym parts.is))
                  ∙ stops;
            }

      pub past_bytes : ReadsNext middle last (Err TooMuchSource) → GavePast text old new lines TooMuchSource
      past_bytes read =
          let r = after_more first middle read.1 lines read.0 h read.2 in
          let came = read.3 in
          past_byte read.1 r came.0 came.1 came.2 TooMuchSource (stops_at_bytes first read.1 lines r refl refl came.0 [] came.3)

      pub past_lines : ReadsNext middle last (Err TooManyLines) → GavePast text old new lines TooManyLines
      past_lines read =
          let r = after_more first middle read.1 lines read.0 h read.2 in
          let came = read.3 in
          past_byte read.1 r came.0 came.1 came.2 TooManyLines
          (stops_at_lines first read.1 lines r refl refl came.0 bytes_left [] came.3 came.4 came.5)

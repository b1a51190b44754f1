-- Sources from which an input was read.
use Rattle.std.proofs.Common.{◌≡◌, ℕ, List, [], ◌∷◌, ◌++◌, Option, Some, None, refl, sym, ap, ◌∙◌, append_assoc}
use Rattle.std.proofs.lemmas.List.{map-append}
use Rattle.m11_base.specs.Feed.{Text, GivesByte, GivesBytes, GivesEnd, HasBytes, BeginsWith, GiveAll}
use Rattle.m11_scan.specs.Lines.{input_of}
use Rattle.m11_scan.specs.Reader.{Gave}
use Rattle.m11_scan.proofs.Cuts.{bytes_of}

-- these sources are all bytes of the first texts, and this beginning was read from the next text; without a next text the beginning
-- is empty
abbrev pub GiveParts : List (Option Text) → List (Option Text) → List (List ℕ) → List ℕ → Type 0
GiveParts [] new [] beginning = (new ≡ []) × (beginning ≡ [])
GiveParts [] new (source ∷ sources) beginning = ⊥
GiveParts (text ∷ texts) new [] beginning =
    (text' : Option Text) × GivesBytes text text' beginning × (new ≡ text' ∷ texts)
GiveParts (text ∷ texts) new (source ∷ sources) beginning =
    HasBytes text source × GiveParts texts new sources beginning

-- ---- the input, source by source

pub begins_with : (text text' : Option Text) (bytes : List ℕ) → GivesBytes text text' bytes → BeginsWith text bytes
begins_with None text' bytes g = tt
begins_with (Some t) text' bytes g = (g.0, g.1)

more_bytes : (text text' text'' : Option Text) (byte : ℕ) (bytes : List ℕ) → GivesByte text text' byte
    → GivesBytes text' text'' bytes → GivesBytes text text'' (byte ∷ bytes)
more_bytes None text' text'' byte bytes g h = tt
more_bytes (Some t) text' text'' byte bytes g h =
    let rest = rw g.2 at h in (rest.0, g.1 ∙ ap (λ (t : List ℕ). byte ∷ t) rest.1, rest.2)

more_has : (text text' : Option Text) (byte : ℕ) (bytes : List ℕ) → GivesByte text text' byte → HasBytes text' bytes
    → HasBytes text (byte ∷ bytes)
more_has None text' byte bytes g h = tt
more_has (Some t) text' byte bytes g h =
    let rest = rw g.2 at h in g.1 ∙ ap (λ (t : List ℕ). byte ∷ t) rest

ends_empty : (text text' : Option Text) → GivesEnd text text' → HasBytes text []
ends_empty None text' g = tt
ends_empty (Some t) text' g = g.0.0

-- an input: the sources that were read to their ends, and the bytes read from the next one
pub record Parts (texts new : List (Option Text)) (input : List (Option ℕ)) : Type 0 where
  pub sources : List (List ℕ)
  pub beginning : List ℕ
  pub is : input ≡ input_of sources ++ bytes_of beginning
  pub give : GiveParts texts new sources beginning

module _ (text text' : Option Text) (texts new : List (Option Text)) (byte : ℕ) (input : List (Option ℕ))
    (g : GivesByte text text' byte) (beginning : List ℕ) where
  byte_part : (sources : List (List ℕ)) → input ≡ input_of sources ++ bytes_of beginning
      → GiveParts (text' ∷ texts) new sources beginning → Parts (text ∷ texts) new (Some byte ∷ input)
  byte_part [] e h = record {
    sources = [];
    beginning = byte ∷ beginning;
    is = ap (λ (t : List (Option ℕ)). Some byte ∷ t) e;
    give = (h.0, more_bytes text text' h.0 byte beginning g h.1, h.2);
  }
  byte_part (source ∷ sources) e h = record {
    sources = (byte ∷ source) ∷ sources;
    beginning = beginning;
    is = ap (λ (t : List (Option ℕ)). Some byte ∷ t) e;
    give = (more_has text text' byte source g h.0, h.1);
  }

pub parts_of : (texts new : List (Option Text)) (input : List (Option ℕ)) → Gave texts new input
    → Parts texts new input
parts_of [] new [] g = record { sources = []; beginning = []; is = refl; give = (g, refl) }
parts_of [] new (symbol ∷ input) g = absurd g
parts_of (text ∷ texts) new [] g = record { sources = []; beginning = []; is = refl; give = g }
parts_of (text ∷ texts) new (Some byte ∷ input) g =
    let later = parts_of (g.0 ∷ texts) new input g.2 in
    byte_part text g.0 texts new byte input g.1 later.beginning later.sources later.is later.give
parts_of (text ∷ texts) new (None ∷ input) g =
    let later = parts_of texts new input g.2 in
    record {
      sources = [] ∷ later.sources;
      beginning = later.beginning;
      is = ap (λ (t : List (Option ℕ)). None ∷ t) later.is;
      give = (ends_empty text g.0 g.1, later.give);
    }

-- ---- complete sources that continue an input

abbrev pub GiveSources : List (Option Text) → List (List ℕ) → Type 0
GiveSources texts sources = GiveAll (λ text. text) texts sources

any_bytes : (text : Option Text) → (source : List ℕ) × HasBytes text source
any_bytes None = ([], tt)
any_bytes (Some t) = (t.bytes, refl)

any_sources : (texts : List (Option Text)) → (sources : List (List ℕ)) × GiveSources texts sources
any_sources [] = ([], tt)
any_sources (text ∷ texts) =
    let one = any_bytes text in let rest = any_sources texts in (one.0 ∷ rest.0, (one.1, rest.1))

whole_source : (text : Option Text) (beginning : List ℕ) → BeginsWith text beginning
    → (more : List ℕ) × HasBytes text (beginning ++ more)
whole_source None beginning h = ([], tt)
whole_source (Some t) beginning h = h

-- complete sources whose input begins with this one, whatever follows
pub record Whole (texts : List (Option Text)) (input : List (Option ℕ)) : Type 0 where
  pub sources : List (List ℕ)
  pub rest : List (Option ℕ)
  pub is : input_of sources ≡ input ++ rest
  pub give : GiveSources texts sources

go_on : (texts new : List (Option Text)) (sources : List (List ℕ)) (beginning : List ℕ)
    → GiveParts texts new sources beginning → Whole texts (input_of sources ++ bytes_of beginning)
go_on [] new [] beginning h =
    record { sources = []; rest = []; is = ap (λ (b : List ℕ). bytes_of b ++ []) (sym h.1); give = tt }
go_on [] new (source ∷ sources) beginning h = absurd h
go_on (text ∷ texts) new [] beginning h =
    let one = whole_source text beginning (begins_with text h.0 beginning h.1) in
    let others = any_sources texts in
    let later = input_of others.0 in
    record {
      sources = (beginning ++ one.0) ∷ others.0;
      rest = (bytes_of one.0 ++ None ∷ []) ++ later;
      is = ap (λ (t : List (Option ℕ)). (t ++ None ∷ []) ++ later) (map-append (λ byte. Some byte) beginning one.0)
          ∙ ap (λ (t : List (Option ℕ)). t ++ later) (append_assoc (bytes_of beginning) (bytes_of one.0) (None ∷ []))
          ∙ append_assoc (bytes_of beginning) (bytes_of one.0 ++ None ∷ []) later;
      give = (one.1, others.1);
    }
go_on (text ∷ texts) new (source ∷ sources) beginning h =
    let later = go_on texts new sources beginning h.1 in
    let own : List (Option ℕ) = bytes_of source ++ None ∷ [] in
    record {
      sources = source ∷ later.sources;
      rest = later.rest;
      is = ap (λ (t : List (Option ℕ)). own ++ t) later.is
          ∙ sym (append_assoc own (input_of sources ++ bytes_of beginning) later.rest)
          ∙ ap (λ (t : List (Option ℕ)). t ++ later.rest) (sym (append_assoc own (input_of sources) (bytes_of beginning)));
      give = (h.0, later.give);
    }

pub whole_of : (texts new : List (Option Text)) (input : List (Option ℕ)) → Gave texts new input → Whole texts input
whole_of texts new input g =
    let parts = parts_of texts new input g in
    let whole = go_on texts new parts.sources parts.beginning parts.give in
    record {
      sources = whole.sources;
      rest = whole.rest;
      is = whole.is ∙ ap (λ (t : List (Option ℕ)). t ++ whole.rest) (sym parts.is);
      give = whole.give;
    }

-- ---- no source is left

pub ended : (texts new : List (Option Text)) (sources : List (List ℕ)) (beginning : List ℕ) → new ≡ []
    → GiveParts texts new sources beginning → GiveSources texts sources × (beginning ≡ [])
ended [] new [] beginning e h = (tt, h.1)
ended [] new (source ∷ sources) beginning e h = absurd h
ended (text ∷ texts) new [] beginning e h = let some : h.0 ∷ texts ≡ [] = sym h.2 ∙ e in absurd (cc)
ended (text ∷ texts) new (source ∷ sources) beginning e h =
    let later = ended texts new sources beginning e h.1 in ((h.0, later.0), later.1)

-- The bytes that a new reader has read from its feeds.
use Rattle.std.proofs.Common.{◌≡◌, ℕ, ◌+◌, ◌-◌, List, [], ◌∷◌, ◌++◌, length, map, drop, get_or, set, Option, Some, None, Ok, Err, refl, sym, ap, subst, ◌∙◌, arith, append_assoc}
use Rattle.std.proofs.lemmas.List.{length-map, length-drop, length-set, append-nil}
use Rattle.m11_base.specs.Devices.{Rises}
use Rattle.m11_base.specs.Feed.{Text, GiveAll, NoneFailed, OneFailed}
use Rattle.m11_scan.specs.declared.fault.LineFault.TheVariants.{Read, TooMuchSource, TooManyLines}
use Rattle.m11_scan.specs.Line.{SourceLine}
use Rattle.m11_scan.specs.Lines.{input_of}
use Rattle.m11_scan.specs.Reader.{Position, position_at, Gave, Fails, ReadsNext}
use Rattle.m11_scan.proofs.Cuts.{bytes_of}
use Rattle.m11_scan.proofs.Gaves.{gave_both}
use Rattle.m11_scan_line_laws.specs.Readings.{reading_of_input}
use Rattle.m11_scan_line_laws.specs.Calls.{HasRead, HaveReading, BeginReading, FailReading, start}
use Rattle.m11_scan_line_laws.proofs.Given.{GiveParts, GiveSources, Whole, begins_with, parts_of, whole_of, ended}
use Rattle.m11_scan_line_laws.proofs.Reached.{Reached, after_lines, after_more, lines_go_on, reading_so_far, stops_at_bytes, stops_at_lines}

head_is : (x y : ℕ) (xs ys : List ℕ) → x ∷ xs ≡ y ∷ ys → x ≡ y
head_is x y xs ys e = ap (λ (l : List ℕ). get_or l 0 0) e

tail_is : (x y : ℕ) (xs ys : List ℕ) → x ∷ xs ≡ y ∷ ys → xs ≡ ys
tail_is x y xs ys e = ap (λ (l : List ℕ). drop 1 l) e

module _ {F : Type 0} (text : F → Option Text) (faults : F → ℕ) where
  none_failed : (old new : List F) → map faults new ≡ map faults old → NoneFailed faults old new
  none_failed [] [] e = tt
  none_failed [] (y ∷ new) e = absurd (cc)
  none_failed (x ∷ old) [] e = absurd (cc)
  none_failed (x ∷ old) (y ∷ new) e = (
    head_is (faults y) (faults x) (map faults new) (map faults old) e,
    none_failed old new (tail_is (faults y) (faults x) (map faults new) (map faults old) e),
  )

  given : (feeds : List F) (sources : List (List ℕ)) → GiveSources (map text feeds) sources
      → GiveAll text feeds sources
  given [] [] h = tt
  given [] (source ∷ sources) h = absurd h
  given (feed ∷ feeds) [] h = absurd h
  given (feed ∷ feeds) (source ∷ sources) h = (h.0, given feeds sources h.1)

  -- the feed after those that were read to their ends failed, if its number of failures rose and no other number changed
  one_failed : (old new : List F) (texts : List (Option Text)) (left : Option Text) (later : List (Option Text))
      (count : ℕ) (sources : List (List ℕ)) (beginning : List ℕ) → GiveParts (map text old) texts sources beginning
      → texts ≡ left ∷ later → Rises (get_or (map faults old) (length sources) 0) count
      → map faults new ≡ set (map faults old) (length sources) count
      → OneFailed text faults old new sources beginning
  one_failed [] new texts left later count [] beginning h here rises e =
      let some : left ∷ later ≡ [] = sym here ∙ h.0 in absurd (cc)
  one_failed [] new texts left later count (source ∷ sources) beginning h here rises e = absurd h
  one_failed (x ∷ old) [] texts left later count [] beginning h here rises e = absurd (cc)
  one_failed (x ∷ old) (y ∷ new) texts left later count [] beginning h here rises e =
      let P : ℕ → Type 0 = λ n. Rises (faults x) n in (
        begins_with (text x) h.0 beginning h.1,
        subst P (sym (head_is (faults y) count (map faults new) (map faults old) e)) rises,
        none_failed old new (tail_is (faults y) count (map faults new) (map faults old) e),
      )
  one_failed (x ∷ old) [] texts left later count (source ∷ sources) beginning h here rises e = absurd (cc)
  one_failed (x ∷ old) (y ∷ new) texts left later count (source ∷ sources) beginning h here rises e = (
    h.0,
    head_is (faults y) (faults x) (map faults new) (set (map faults old) (length sources) count) e,
    one_failed old new texts left later count sources beginning h.1 here rises
        (tail_is (faults y) (faults x) (map faults new) (set (map faults old) (length sources) count) e),
  )

  -- there are as many texts as sources that were read to their ends, and then the next one and those after it
  parts_length : (texts new : List (Option Text)) (left : Option Text) (later : List (Option Text))
      (sources : List (List ℕ)) (beginning : List ℕ) → GiveParts texts new sources beginning → new ≡ left ∷ later
      → length texts ≡ length sources + (1 + length later)
  parts_length [] new left later [] beginning h here =
      let some : left ∷ later ≡ [] = sym here ∙ h.0 in absurd (cc)
  parts_length [] new left later (source ∷ sources) beginning h here = absurd h
  parts_length (text ∷ texts) new left later [] beginning h here =
      omega (arith, ap length h.2, ap length here)
  parts_length (text ∷ texts) new left later (source ∷ sources) beginning h here =
      omega (arith, parts_length texts new left later sources beginning h.1 here)

  position_is : (old new : List F) (texts : List (Option Text)) (left left' : Option Text) (later : List (Option Text))
      (source count : ℕ) (sources : List (List ℕ)) (beginning : List ℕ)
      → GiveParts (map text old) texts sources beginning → texts ≡ left ∷ later
      → drop source (map text new) ≡ left' ∷ later → map faults new ≡ set (map faults old) source count
      → source ≡ length sources
  position_is old new texts left left' later source count sources beginning h here there e =
      let olds = parts_length (map text old) texts left later sources beginning h here in
      let one : length (map text old) ≡ length old = length-map old text in
      let two : length (map text new) ≡ length new = length-map new text in
      let three : length (map faults new) ≡ length new = length-map new faults in
      let four : length (map faults old) ≡ length old = length-map old faults in
      let five : length (drop source (map text new)) ≡ length (map text new) - source = length-drop source (map text new) in
      let six : length (set (map faults old) source count) ≡ length (map faults old) =
      length-set (map faults old) source count in
      let seven : length (drop source (map text new)) ≡ length (left' ∷ later) = ap length there in
      let eight : length (map faults new) ≡ length (set (map faults old) source count) = ap length e in
      omega arith

  module _ (old new : List F) (source bytes_left lines_left : ℕ) (lines : List SourceLine) where
    abbrev first : Position
    first = start text faults old

    abbrev last : Position
    last = position_at text faults new source bytes_left lines_left

    pub so_far : HasRead first last lines → BeginReading text faults old new lines
    so_far h =
        let r = after_lines first last lines h in
        let whole = whole_of (map text old) last.texts r.given r.gave in
        let more = lines_go_on first last lines r refl refl whole.rest in (
          none_failed old new h.faults,
          whole.sources,
          given old whole.sources whole.give,
          more.0,
          ap (λ (input : List (Option ℕ)). (reading_of_input input).lines) whole.is ∙ more.1,
        )

    module _ (middle : Position) (h : HasRead first middle lines) where
      pub all : ReadsNext middle last (Ok None)
          → HaveReading text faults old new (record { lines = lines; fault = None })
      all read =
          let r = after_more first middle last lines read.given h read.came in
          let parts = parts_of (map text old) last.texts r.given r.gave in
          let gone = ended (map text old) last.texts parts.sources parts.beginning read.ended parts.give in
          let is : r.given ≡ input_of parts.sources =
          parts.is ∙ ap (λ (b : List ℕ). input_of parts.sources ++ bytes_of b) gone.1
          ∙ append-nil (input_of parts.sources) in (
            none_failed old new r.faults,
            parts.sources,
            given old parts.sources gone.0,
            ap reading_of_input (sym is) ∙ reading_so_far first last lines r refl refl,
          )

      -- one more byte was read, and the sources may continue after it
      module _ (now : Position) (r : Reached first now lines) (byte : ℕ)
          (gave : Gave now.texts last.texts (Some byte ∷ [])) where
        pub whole_more : Whole (map text old) (r.given ++ Some byte ∷ [])
        whole_more = whole_of (map text old) last.texts (r.given ++ Some byte ∷ [])
            (gave_both (map text old) now.texts last.texts r.given (Some byte ∷ []) r.gave gave)

        pub input_is : input_of whole_more.sources ≡ r.given ++ Some byte ∷ whole_more.rest
        input_is = whole_more.is ∙ append_assoc r.given (Some byte ∷ []) whole_more.rest

      pub too_much : ReadsNext middle last (Err TooMuchSource)
          → HaveReading text faults old new (record { lines = lines; fault = Some TooMuchSource })
      too_much read =
          let now : Position = read.1 in
          let r = after_more first middle now lines read.0 h read.2 in
          let came = read.3 in
          let whole = whole_more now r came.0 came.1 in (
            none_failed old new (came.2 ∙ r.faults),
            whole.sources,
            given old whole.sources whole.give,
            ap reading_of_input (input_is now r came.0 came.1)
                ∙ stops_at_bytes first now lines r refl refl came.0 whole.rest came.3,
          )

      pub too_many : ReadsNext middle last (Err TooManyLines)
          → HaveReading text faults old new (record { lines = lines; fault = Some TooManyLines })
      too_many read =
          let now : Position = read.1 in
          let r = after_more first middle now lines read.0 h read.2 in
          let came = read.3 in
          let whole = whole_more now r came.0 came.1 in (
            none_failed old new (came.2 ∙ r.faults),
            whole.sources,
            given old whole.sources whole.give,
            ap reading_of_input (input_is now r came.0 came.1)
                ∙ stops_at_lines first now lines r refl refl came.0 bytes_left whole.rest came.3 came.4 came.5,
          )

      -- if a call returns that a feed failed, the lines so far are the reading of the bytes before the failure
      pub failed : ReadsNext middle last (Err Read)
          → FailReading text faults old new (record { lines = lines; fault = None })
      failed read =
          let now : Position = read.1 in
          let r = after_more first middle now lines read.0 h read.2 in
          let fails : Fails now last = read.3 in
          let at : now.source ≡ source = sym fails.source in
          let parts = parts_of (map text old) now.texts r.given r.gave in
          let changed : map faults new ≡ set (map faults old) source fails.count =
          fails.faults ∙ ap (λ (l : List ℕ). set l now.source fails.count) r.faults
          ∙ ap (λ i. set (map faults old) i fails.count) at in
          let position : source ≡ length parts.sources =
          position_is old new now.texts fails.text fails.text' fails.texts source fails.count parts.sources parts.beginning
          parts.give fails.was fails.is changed in
          let P : ℕ → Type 0 = λ n. Rises n fails.count in
          let rises : Rises (get_or (map faults old) (length parts.sources) 0) fails.count =
          subst P (ap (λ (l : List ℕ). get_or l now.source 0) r.faults ∙ ap (λ i. get_or (map faults old) i 0) (at ∙ position))
          fails.rises in (
            parts.sources,
            parts.beginning,
            one_failed old new now.texts fails.text fails.texts fails.count parts.sources parts.beginning parts.give
                fails.was rises (changed ∙ ap (λ i. set (map faults old) i fails.count) position),
            ap reading_of_input (sym parts.is) ∙ reading_so_far first now lines r refl refl,
          )

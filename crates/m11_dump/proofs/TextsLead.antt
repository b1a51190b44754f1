-- The pending text, and the record after it.
use Rattle.std.proofs.Common.{◌≡◌, ◌∙◌, ℕ, ◌<◌, ◌≤◌, Bool, true, false, List, [], ◌∷◌, ◌++◌, append-nil, append_assoc, length, length-append, Option, Some, None, Ok, Err, refl, sym, ap, subst, arith}
use Rattle.std.specs.Prelude.{if◌then◌else◌, is_none, option_map}
use Rattle.std.specs.List.{concat}
use Rattle.m11_obj_blocks.specs.Frames.{content_limit}
use Rattle.m11_obj.specs.Reading.{content_of}
use Rattle.m11_obj.specs.Records.{Content, Gsd, EndOfGsd, Text, Relocations, InternalSymbols, EndOfModule}
use Rattle.m11_obj.specs.declared.relocations.Relocation.{Relocation}
use Rattle.m11_base_writes.specs.States.{OutputState}
use Rattle.m11_base_writes.specs.States as writes
use Rattle.m11_dump.proofs.Gaining.{gained_nothing, gained_texts}
use Rattle.m11_dump.specs.ObjectTexts.{beyond, point, stays, text_lines, text_over, texts_from}
use Rattle.m11_dump.specs.Objects.{FailsAt, FailsToPut, Gained, HeldAt, HeldFits, IsOther, IsOtherThan, PutsTexts, ShowsHeld, Takes, Waits, held_beyond, held_lines, held_over, held_places, held_records, places_in, places_records, point_of, texts_held, texts_next}
use Rattle.m11_dump.specs.Records.{address_after, address_then, kept, lines_then, record_lines}
use Rattle.m11_dump.specs.declared.fault.DumpFault.{DumpFault}
use Rattle.m11_dump.specs.declared.fault.DumpFault.TheVariants as fault
use Rattle.m11_dump.specs.declared.held.HeldText.{HeldText}
use Rattle.m11_dump.specs.declared.view.View.{View}

-- ---- what is shown about a text, and about its relocations, if their record was read

abbrev rest_texts : Option (List Relocation) → List (List ℕ)
rest_texts None = []
rest_texts (Some relocations) = [] ∷ []

abbrev pub own_texts : View → Option HeldText → List ℕ → List (List ℕ)
own_texts view None after = []
own_texts view (Some held) after = held_lines view held after ∷ rest_texts (places_in held)

abbrev pub own_over : View → Option HeldText → List ℕ → ℕ
own_over view None after = 0
own_over view (Some held) after = held_over view held after

rest_few : (places : Option (List Relocation)) → length (rest_texts places) ≤ 1
rest_few None = omega arith
rest_few (Some relocations) = omega arith

rest_empty : (places : Option (List Relocation)) → concat (rest_texts places) ≡ []
rest_empty None = refl
rest_empty (Some relocations) = refl

nothing_by : (b : Bool) → ◌≡◌ {A = List ℕ} (if b then [] else []) []
nothing_by true = refl
nothing_by false = refl

module _ (view : View) (address own shown : ℕ) (bytes : List ℕ) where
  abbrev texts_here : Option (List Relocation) → List Content → List (List ℕ)
  texts_here places records = texts_from view (point address shown false) ((Text own bytes ∷ places_records places) ++ records)

  abbrev lines_here : Option (List Relocation) → List ℕ → List (List ℕ)
  lines_here places after = text_lines view own shown bytes (held_places places) after ∷ rest_texts places

  last_text : (places : Option (List Relocation)) → texts_here places [] ≡ lines_here places []
  last_text None = refl
  last_text (Some relocations) =
      ap (λ (after : List ℕ). text_lines view own shown bytes relocations after ∷ [] ∷ []) (nothing_by (stays relocations))

  text_before : (places : Option (List Relocation)) (own' : ℕ) (bytes' : List ℕ) (more : List Content) (address' : ℕ)
      → texts_here places (Text own' bytes' ∷ more)
      ≡ lines_here places (beyond own bytes (places_records places ++ Text own' bytes' ∷ []))
      ++ texts_from view (point address' (text_over view own shown bytes (held_places places) (beyond own bytes (places_records places ++ Text own' bytes' ∷ []))) false)
      (Text own' bytes' ∷ more)
  text_before None own' bytes' more address' = refl
  text_before (Some relocations) own' bytes' more address' = refl

  record_after : (places : Option (List Relocation)) (next : Content) (more : List Content) → IsOtherThan (places ≡ None) next
      → texts_here places (next ∷ more) ≡ lines_here places []
      ++ (record_lines own next ∷ texts_from view (point (address_after own next) 0 false) more)
  record_after places (Text own' bytes') more other = absurd other
  record_after None (Relocations relocations) more other = absurd (other refl)
  record_after None (Gsd entries) more other = refl
  record_after None EndOfGsd more other = refl
  record_after None InternalSymbols more other = refl
  record_after None EndOfModule more other = refl
  record_after (Some places) (Relocations relocations) more other =
      ap (λ (after : List ℕ). text_lines view own shown bytes places after ∷ [] ∷ record_lines own (Relocations relocations)
      ∷ texts_from view (point own 0 false) more) (nothing_by (stays places))
  record_after (Some places) (Gsd entries) more other =
      ap (λ (after : List ℕ). text_lines view own shown bytes places after ∷ [] ∷ record_lines own (Gsd entries)
      ∷ texts_from view (point own 0 false) more) (nothing_by (stays places))
  record_after (Some places) EndOfGsd more other =
      ap (λ (after : List ℕ). text_lines view own shown bytes places after ∷ [] ∷ record_lines own EndOfGsd
      ∷ texts_from view (point own 0 false) more) (nothing_by (stays places))
  record_after (Some places) InternalSymbols more other =
      ap (λ (after : List ℕ). text_lines view own shown bytes places after ∷ [] ∷ record_lines own InternalSymbols
      ∷ texts_from view (point own 0 false) more) (nothing_by (stays places))
  record_after (Some places) EndOfModule more other =
      ap (λ (after : List ℕ). text_lines view own shown bytes places after ∷ [] ∷ record_lines own EndOfModule
      ∷ texts_from view (point own 0 false) more) (nothing_by (stays places))

plain_before : (view : View) (address : ℕ) (next : Content) (more : List Content) → IsOtherThan ⊥ next
    → texts_from view (point address 0 false) (next ∷ more)
    ≡ record_lines address next ∷ texts_from view (point (address_after address next) 0 false) more
plain_before view address (Gsd entries) more other = refl
plain_before view address EndOfGsd more other = refl
plain_before view address (Text own bytes) more other = absurd other
plain_before view address (Relocations relocations) more other = refl
plain_before view address InternalSymbols more other = refl
plain_before view address EndOfModule more other = refl

-- ---- the pending text at the end, before another text, and before another record

pub held_last : (view : View) (address : ℕ) (held : Option HeldText) → texts_held view address held ≡ own_texts view held []
held_last view address None = refl
held_last view address (Some held) = last_text view address held.address held.shown held.bytes.items (places_in held)

held_before : (view : View) (address : ℕ) (held : Option HeldText) (own : ℕ) (bytes : List ℕ) (more : List Content) (address' : ℕ)
    → texts_from view (point_of address held) (held_records held ++ (Text own bytes ∷ more))
    ≡ own_texts view held (held_beyond held (Text own bytes ∷ []))
    ++ texts_from view (point address' (own_over view held (held_beyond held (Text own bytes ∷ []))) false) (Text own bytes ∷ more)
held_before view address None own bytes more address' = refl
held_before view address (Some held) own bytes more address' =
    text_before view address held.address held.shown held.bytes.items (places_in held) own bytes more address'

other_before : (view : View) (address : ℕ) (held : Option HeldText) (next : Content) (more : List Content)
    → IsOtherThan (Waits held) next → HeldAt address held
    → texts_from view (point_of address held) (held_records held ++ (next ∷ more))
    ≡ own_texts view held [] ++ (record_lines address next ∷ texts_from view (point (address_after address next) 0 false) more)
other_before view address None next more other at = plain_before view address next more other
other_before view address (Some held) next more other at =
    let P : ℕ → Type 0 = λ a. texts_from view (point_of address (Some held)) (held_records (Some held) ++ (next ∷ more))
    ≡ own_texts view (Some held) [] ++ (record_lines a next ∷ texts_from view (point (address_after a next) 0 false) more) in
    subst P at (record_after view address held.address held.shown held.bytes.items (places_in held) next more other)

-- ---- the pending text was shown, or couldn't be

pub held_gained : (view : View) (held : Option HeldText) (after : List ℕ) (output output' : OutputState) (n : ℕ)
    → ShowsHeld view held after output output' (Ok n)
    → Gained (concat (own_texts view held after)) output output' × (n ≡ own_over view held after)
held_gained view None after output output' n s =
    let P : OutputState → Type 0 = λ x. Gained [] output x in
    let none : n ≡ 0 = cc s.0 in (subst P (sym s.1) (gained_nothing output), none)
held_gained view (Some held) after output output' n s =
    let P : List ℕ → Type 0 = λ text. Gained text output output' in
    let all : held_lines view held after ++ concat (rest_texts (places_in held)) ≡ held_lines view held after =
    ap (λ (l : List ℕ). held_lines view held after ++ l) (rest_empty (places_in held)) ∙ append-nil (held_lines view held after) in
    (subst P (sym all) s.0, s.1)

text_fails : (text : List ℕ) (rest others : List (List ℕ)) (output output' : OutputState) (f : DumpFault) → length (rest ++ others) ≤ 2
    → FailsToPut text output output' f → PutsTexts {A = Unit {0}} (text ∷ (rest ++ others)) output output' (Err f)
text_fails text rest others output output' fault.Write few s = record {
  put = [];
  text = text;
  others = rest ++ others;
  all = refl;
  last = few;
  middle = output;
  gained = gained_nothing output;
  fails = s;
}
text_fails text rest others output output' fault.NoMemory few s =
    let P : OutputState → Type 0 = λ x. Gained [] output x in
    let some : 0 < length (text ∷ (rest ++ others)) = omega arith in
    let last : length (text ∷ (rest ++ others)) ≤ 3 = omega (arith, few) in record {
      put = [];
      others = text ∷ (rest ++ others);
      all = refl;
      some = some;
      last = last;
      gained = subst P (sym s) (gained_nothing output);
    }
text_fails text rest others output output' (fault.Block inner) few s = absurd s
text_fails text rest others output output' (fault.Record inner) few s = absurd s
text_fails text rest others output output' (fault.Rule inner) few s = absurd s
text_fails text rest others output output' (fault.Tape inner) few s = absurd s

pub held_fails : (view : View) (held : Option HeldText) (after : List ℕ) (others texts : List (List ℕ)) (output output' : OutputState)
    (f : DumpFault) → length others ≤ 1 → texts ≡ own_texts view held after ++ others → ShowsHeld view held after output output' (Err f)
    → PutsTexts {A = Unit {0}} texts output output' (Err f)
held_fails view None after others texts output output' f one is s = absurd (cc s.0)
held_fails view (Some held) after others texts output output' f one is s =
    let P : List (List ℕ) → Type 0 = λ l. PutsTexts {A = Unit {0}} l output output' (Err f) in
    let few : length (rest_texts (places_in held) ++ others) ≤ 2 =
    omega (arith, one, rest_few (places_in held), length-append (rest_texts (places_in held)) others) in
    subst P (sym is) (text_fails (held_lines view held after) (rest_texts (places_in held)) others output output' f few s)

-- ---- a text is accepted

records_as : (own own' : ℕ) (bytes bytes' : List ℕ) (places places' : Option (List Relocation)) → own ≡ own' → bytes ≡ bytes'
    → places ≡ places' → Text own bytes ∷ places_records places ≡ Text own' bytes' ∷ places_records places'
records_as own own' bytes bytes' places places' a b c = rw (a, b, c) refl

module _ (view : View) (address : ℕ) (held : Option HeldText) (content : List ℕ) (own : ℕ) (bytes : List ℕ)
    (is : kept (content_of content) ≡ Text own bytes ∷ []) (output output' : OutputState) where
  abbrev after : List ℕ
  after = held_beyond held (Text own bytes ∷ [])

  abbrev others : List (List ℕ)
  others = texts_from view (point own (own_over view held after) false) (Text own bytes ∷ [])

  next_texts : texts_next view address held content ≡ own_texts view held after ++ others
  next_texts =
      ap (λ (l : List Content). texts_from view (point_of address held) (held_records held ++ (l ++ []))) is
      ∙ held_before view address held own bytes [] own

  pub text_unshown : (f : DumpFault) → ShowsHeld view held after output output' (Err f)
      → Takes view address held content output output' (Err f)
  text_unshown f s =
      let one : length others ≤ 1 = omega arith in
      held_fails view held after others (texts_next view address held content) output output' f one next_texts s

  pub text_lacks : (n : ℕ) → ShowsHeld view held after output output' (Ok n)
      → Takes view address held content output output' (Err fault.NoMemory)
  text_lacks n s =
      let some : 0 < length others = omega arith in
      let few : length others ≤ 3 = omega arith in record {
        put = own_texts view held after;
        others = others;
        all = next_texts;
        some = some;
        last = few;
        gained = (held_gained view held after output output' n s).0;
      }

  pub text_taken : (n : ℕ) (next : HeldText) → ShowsHeld view held after output output' (Ok n)
      → own ≡ address_then address (content_of content) → next.address ≡ own → next.bytes.items ≡ bytes → next.shown ≡ n
      → places_in next ≡ None → length bytes ≤ content_limit → Takes view address held content output output' (Ok (Some next))
  text_taken n next s at own_is bytes_is shown_is none few =
      let g = held_gained view held after output output' n s in
      let there = address_then address (content_of content) in
      let over : own_over view held after ≡ next.shown = sym (shown_is ∙ g.1) in
      let records : Text own bytes ∷ [] ≡ held_records (Some next) =
      sym (records_as next.address own next.bytes.items bytes (places_in next) None own_is bytes_is none) in (
        own_texts view held after,
        g.0,
        λ more.
            ap (λ (l : List Content). texts_from view (point_of address held) (held_records held ++ (l ++ more))) is
            ∙ held_before view address held own bytes more there
            ∙ ap (λ (k : ℕ). own_texts view held after ++ texts_from view (point there k false) (Text own bytes ∷ more)) over
            ∙ ap (λ (l : List Content). own_texts view held after ++ texts_from view (point there next.shown false) (l ++ more)) records,
        omega (arith, few, ap (λ (l : List ℕ). length l) bytes_is),
        own_is ∙ at,
      )

-- ---- another record is accepted

module _ (view : View) (address : ℕ) (held : Option HeldText) (content : List ℕ) (other : IsOther held content) (at : HeldAt address held)
    (output : OutputState) where
  kept_is : kept (content_of content) ≡ other.0 ∷ []
  kept_is = ap kept other.1

  lines_are : lines_then address (content_of content) ≡ record_lines address other.0
  lines_are = ap (lines_then address) other.1

  there_is : address_then address (content_of content) ≡ address_after address other.0
  there_is = ap (address_then address) other.1

  leads : (more : List Content) → texts_from view (point_of address held) (held_records held ++ (kept (content_of content) ++ more))
      ≡ own_texts view held [] ++ (lines_then address (content_of content)
      ∷ texts_from view (point (address_then address (content_of content)) 0 false) more)
  leads more =
      ap (λ (l : List Content). texts_from view (point_of address held) (held_records held ++ (l ++ more))) kept_is
      ∙ other_before view address held other.0 more other.2 at
      ∙ ap (λ (t : List ℕ). own_texts view held [] ++ (t ∷ texts_from view (point (address_after address other.0) 0 false) more)) (sym lines_are)
      ∙ ap (λ (a : ℕ). own_texts view held [] ++ (lines_then address (content_of content) ∷ texts_from view (point a 0 false) more))
      (sym there_is)

  abbrev lines : List (List ℕ)
  lines = lines_then address (content_of content) ∷ []

  pub other_unshown : (output' : OutputState) (f : DumpFault) → ShowsHeld view held [] output output' (Err f)
      → Takes view address held content output output' (Err f)
  other_unshown output' f s =
      let one : length lines ≤ 1 = omega arith in
      held_fails view held [] lines (texts_next view address held content) output output' f one (leads []) s

  module _ (middle : OutputState) (n : ℕ) (s : ShowsHeld view held [] output middle (Ok n)) where
    shown : Gained (concat (own_texts view held [])) output middle
    shown = (held_gained view held [] output middle n s).0

    pub other_lacks : Takes view address held content output middle (Err fault.NoMemory)
    other_lacks =
        let some : 0 < length lines = omega arith in
        let few : length lines ≤ 3 = omega arith in record {
          put = own_texts view held [];
          others = lines;
          all = leads [];
          some = some;
          last = few;
          gained = shown;
        }

    other_fails : (output' : OutputState) (text : List ℕ) → text ≡ lines_then address (content_of content)
        → FailsAt text middle output' → Takes view address held content output output' (Err fault.Write)
    other_fails output' text is fails =
        let P : List ℕ → Type 0 = λ t. FailsAt t middle output' in
        let none : 0 ≤ 2 = omega arith in record {
          put = own_texts view held [];
          text = lines_then address (content_of content);
          others = [];
          all = leads [];
          last = none;
          middle = middle;
          gained = shown;
          fails = subst P is fails;
        }

    pub other_refused : (output' : OutputState) (text : List ℕ) (f : DumpFault) → text ≡ lines_then address (content_of content)
        → writes.Puts {A = Unit {0}} middle output' text fault.Write (Err f) → Takes view address held content output output' (Err f)
    other_refused output' text f is p =
        let P : DumpFault → Type 0 = λ x. Takes view address held content output output' (Err x) in
        subst P (sym p.0) (other_fails output' text is (p.1, p.2))

    pub other_taken : (output' : OutputState) (text : List ℕ) → text ≡ lines_then address (content_of content)
        → Gained text middle output' → Takes view address held content output output' (Ok None)
    other_taken output' text is gained =
        let P : List ℕ → Type 0 = λ t. Gained t middle output' in
        let one : Gained (concat lines) middle output' =
        subst P (is ∙ sym (append-nil (lines_then address (content_of content)))) gained in (
          own_texts view held [] ++ lines,
          gained_texts output middle output' (own_texts view held []) lines shown one,
          λ more. leads more ∙ sym (append_assoc (own_texts view held []) lines
              (texts_from view (point (address_then address (content_of content)) 0 false) more)),
          tt,
          tt,
        )

-- ---- relocations stay pending with their text

module _ (view : View) (address : ℕ) (text : HeldText) (content : List ℕ) (relocations : List Relocation)
    (is : kept (content_of content) ≡ Relocations relocations ∷ []) (output : OutputState) (none : places_in text ≡ None) where
  waits : held_records (Some text) ≡ Text text.address text.bytes.items ∷ []
  waits = records_as text.address text.address text.bytes.items text.bytes.items (places_in text) None refl refl none

  pub places_lack : Takes view address (Some text) content output output (Err fault.NoMemory)
  places_lack =
      let both : texts_next view address (Some text) content
      ≡ texts_from view (point address text.shown false) (Text text.address text.bytes.items ∷ Relocations relocations ∷ []) =
      ap (λ (l : List Content). texts_from view (point address text.shown false) (held_records (Some text) ++ (l ++ []))) is
      ∙ ap (λ (l : List Content). texts_from view (point address text.shown false) (l ++ (Relocations relocations ∷ []))) waits in
      let others = texts_from view (point address text.shown false) (Text text.address text.bytes.items ∷ Relocations relocations ∷ []) in
      let some : 0 < length others = omega arith in
      let few : length others ≤ 3 = omega arith in record {
        put = [];
        others = others;
        all = both;
        some = some;
        last = few;
        gained = gained_nothing output;
      }

  pub places_taken : (next : HeldText) → address_then address (content_of content) ≡ address → next.address ≡ text.address
      → next.bytes.items ≡ text.bytes.items → next.shown ≡ text.shown → places_in next ≡ Some relocations
      → HeldFits (Some text) → HeldAt address (Some text) → Takes view address (Some text) content output output (Ok (Some next))
  places_taken next there own_is bytes_is shown_is places fits at =
      let both : held_records (Some next) ≡ Text text.address text.bytes.items ∷ Relocations relocations ∷ [] =
      records_as next.address text.address next.bytes.items text.bytes.items (places_in next) (Some relocations) own_is bytes_is places in (
        [],
        gained_nothing output,
        λ more.
            ap (λ (l : List Content). texts_from view (point address text.shown false) (held_records (Some text) ++ (l ++ more))) is
            ∙ ap (λ (l : List Content). texts_from view (point address text.shown false) (l ++ (Relocations relocations ∷ more))) waits
            ∙ ap (λ (k : ℕ). texts_from view (point address k false) (Text text.address text.bytes.items ∷ Relocations relocations ∷ more))
            (sym shown_is)
            ∙ ap (λ (l : List Content). texts_from view (point address next.shown false) (l ++ more)) (sym both)
            ∙ ap (λ (a : ℕ). texts_from view (point a next.shown false) (held_records (Some next) ++ more)) (sym there),
        omega (arith, fits, ap (λ (l : List ℕ). length l) bytes_is),
        own_is ∙ at ∙ sym there,
      )

-- ---- the end

pub last_refused : (view : View) (address : ℕ) (held : Option HeldText) (output output' : OutputState) (f : DumpFault)
    → ShowsHeld view held [] output output' (Err f) → PutsTexts {A = Unit {0}} (texts_held view address held) output output' (Err f)
last_refused view address held output output' f s =
    let none : length {A = List ℕ} [] ≤ 1 = omega arith in
    held_fails view held [] [] (texts_held view address held) output output' f none
    (held_last view address held ∙ sym (append-nil (own_texts view held []))) s

-- if an option is None, it stays None when a function is applied to it
pub none_mapped : {A B : Type 0} (f : A → B) (o : Option A) → is_none o ≡ true → option_map f o ≡ None
none_mapped f None e = refl
none_mapped f (Some x) e = absurd cc

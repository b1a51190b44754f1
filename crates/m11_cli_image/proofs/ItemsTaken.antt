-- A link of the objects of sources is refused for a limit, or for a source with a byte at the last location of a section.
use Rattle.std.proofs.Common.{◌≡◌, ◌∙◌, ℕ, ◌<◌, Bool, true, false, if◌then◌else◌, List, [], ◌∷◌, ◌++◌, append-nil, append_assoc, length, map, flat_map, Option, Some, None, Result, Ok, Err, refl, sym, ap, subst, arith}
use Rattle.std.proofs.lemmas.Bool.{or_left, or_right}
use Rattle.std.specs.Prelude.{⊤, nat_lt}
use Rattle.std.specs.List.{AllByRecursion, list_any}
use Rattle.std.specs.Option.{option_or}
use Rattle.std.proofs.Math.Seq.{append_snoc}
use Rattle.std.proofs.lemmas.Bool.Decides.{nat_tests}
use Rattle.m11_base.specs.Rad50.{Name}
use Rattle.m11_obj_blocks.specs.Blocks.{AreRead, first_block}
use Rattle.m11_obj_blocks.specs.Limited.{Between, most_bytes}
use Rattle.m11_obj_blocks.proofs.BlockFrames.{blocks_read}
use Rattle.m11_obj_blocks.proofs.ReadSteps.{rest_is, value_is}
use Rattle.m11_obj.specs.Reading.{content_of}
use Rattle.m11_obj.specs.Records.{Content, Fits, record_data}
use Rattle.m11_obj.specs.declared.fault.RecordFault.{RecordFault}
use Rattle.m11_obj.proofs.RecordsAgain.{record_again}
use Rattle.m11_link_modules.specs.Parts.{Part, EndOfFile, parts_of}
use Rattle.m11_link_modules.specs.Positions.{global_names, section_names}
use Rattle.m11_link_modules.specs.Rules.{fault_of, first_fault, most_globals, most_sections}
use Rattle.m11_link_modules.specs.declared.fault.ModuleFault.{ModuleFault}
use Rattle.m11_link_modules.specs.declared.fault.ModuleFault.TheVariants as rule
use Rattle.m11_link_layout.specs.Fault.{of_module}
use Rattle.m11_link_layout.specs.Sections.{is_too_large}
use Rattle.m11_link_layout.specs.declared.fault.LinkFault.{LinkFault}
use Rattle.m11_link_layout.specs.declared.fault.LinkFault.TheVariants as fault
use Rattle.m11_link.specs.Objects.{◌>>=◌, AreItems, BlockOf, Item, ObjectEnds, ObjectItems, Refused, outcome, parts_or_fault, taken, accepted_item, accepted_parts, unless_fault, unless_too_large}
use Rattle.m11_link.specs.Objects as objects
use Rattle.m11_cli_image.proofs.GlobalsNamed.{globals_same}
use Rattle.m11_cli_image.proofs.LinkedLocations.{large_same, names_same}
use Rattle.m11_cli_image.proofs.ReadRecords.{are_blocks}
use Rattle.m11_cli_image.proofs.YieldedParts.{yields_parts}
use Rattle.m11_cli_image.specs.Objects.{SourceFits, contents_of, link_parts, object_of, object_parts}
use Rattle.m11_cli_image.specs.Sources.{Source}
use Rattle.m11_cli_image.specs.Refusals.{IsConsistent, IsOfSizes, IsWithinSizes, fills_last, is_large, is_long}
use Rattle.m11_cli_image.proofs.LimitsPassed.{Passes, first_passes}
use Rattle.m11_cli_image.proofs.SourcesTaken.{IsLimit, sources_go}

-- ---- parts after others

or_assoc : (one two three : Option ModuleFault) → option_or (option_or one two) three ≡ option_or one (option_or two three)
or_assoc None two three = refl
or_assoc (Some fault) two three = refl

then_fault : (before some more : List Part)
    → first_fault before (some ++ more) ≡ option_or (first_fault before some) (first_fault (before ++ some) more)
unfolding first_fault
then_fault before [] more = ap (λ (these : List Part). first_fault these more) (sym (append-nil before))
then_fault before (part ∷ some) more =
    ap (option_or (fault_of before part)) (then_fault (before ++ part ∷ []) some more
    ∙ ap (λ (these : List Part). option_or (first_fault (before ++ part ∷ []) some) (first_fault these more)) (append_snoc before part some))
    ∙ sym (or_assoc (fault_of before part) (first_fault (before ++ part ∷ []) some) (first_fault (before ++ part ∷ some) more))

module _ (bottom : ℕ) (sources : List Source) where
  abbrev MayStop : LinkFault → Type 0
  MayStop stopped = IsOfSizes bottom sources stopped

  -- no fault, or one by which a link may stop
  abbrev Legit : Option ModuleFault → Type 0
  Legit None = ⊤
  Legit (Some found) = MayStop (of_module found)

  -- ---- the parts of all sources

  -- if the parts have too many names of sections, or of globals, a link may stop for that, since the names are those of the sources
  sections_passed : most_sections < length (section_names (link_parts sources)) → MayStop fault.TooManySections
  sections_passed lt =
      let P : List Name → Type 0 = λ names. most_sections < length names in subst P (names_same sources) lt

  globals_passed : most_globals < length (global_names (link_parts sources)) → MayStop fault.TooManyGlobals
  globals_passed lt =
      let P : List Name → Type 0 = λ names. most_globals < length names in subst P (globals_same sources) lt

  one_legit : (found : ModuleFault) → IsLimit sources (Some found) → Passes (link_parts sources) found → MayStop (of_module found)
  one_legit rule.TooManyModules limit passes = limit
  one_legit rule.TextOutside limit passes = limit
  one_legit rule.TooManySections limit passes = sections_passed passes
  one_legit rule.TooManyGlobals limit passes = globals_passed passes
  one_legit other limit passes = absurd limit

  all_legit : AllByRecursion IsConsistent sources → Legit (first_fault [] (link_parts sources))
  all_legit are = by (first_fault [] (link_parts sources)) refl (sources_go sources are)
    where
      by : (found : Option ModuleFault) → first_fault [] (link_parts sources) ≡ found → IsLimit sources found → Legit found
      by None e limit = tt
      by (Some found) e limit = one_legit found limit (first_passes [] (link_parts sources) found e)

  -- ---- one item

  abbrev refused : LinkFault → Result (List Part) LinkFault
  refused stopped = Err stopped

  err_is : (one other : LinkFault) → refused one ≡ refused other → one ≡ other
  err_is one other e = cc

  stops_by : (found stopped : LinkFault) → MayStop found → refused found ≡ refused stopped → MayStop stopped
  stops_by found stopped may e = subst MayStop (err_is found stopped e) may

  -- if a link stops at parts, or accepts them and stops at the items after them, its fault is one by which it may stop
  parts_stop : (before parts more : List Part) (items : List Item) (stopped : LinkFault) → Legit (first_fault before (parts ++ more))
      → (Legit (first_fault (before ++ parts) more) → taken (before ++ parts) items ≡ Err stopped → MayStop stopped)
      → (accepted_parts before parts >>= λ these. taken these items) ≡ Err stopped → MayStop stopped
  parts_stop before parts more items stopped legit later e =
      by (first_fault before parts) (subst Legit (then_fault before parts more) legit) e
    where
      by : (found : Option ModuleFault) → Legit (option_or found (first_fault (before ++ parts) more))
          → (unless_fault found (before ++ parts) >>= λ these. taken these items) ≡ Err stopped → MayStop stopped
      by (Some found) may e = stops_by (of_module found) stopped may e
      by None may e = later may e

  -- ---- one object

  abbrev ends : List Content → List Part
  ends contents = flat_map parts_of contents ++ EndOfFile ∷ []

  -- if a link accepts all parts before these items and stops at the items, its fault is one by which it may stop
  abbrev Later : List Part → List Part → List Item → LinkFault → Type 0
  Later all more items stopped = (these : List Part) → these ≡ all → Legit (first_fault these more) → taken these items ≡ Err stopped
      → MayStop stopped

  none_stops : (room : ℕ) (bytes : List ℕ) (own items : List Item) (before more : List Part) (stopped : LinkFault)
      → first_block bytes ≡ Err Between → ObjectItems room bytes own → (room < length bytes → MayStop fault.TooMuch)
      → Legit (first_fault before ((EndOfFile ∷ []) ++ more)) → Later (before ++ EndOfFile ∷ []) more items stopped
      → taken before (own ++ items) ≡ Err stopped → MayStop stopped
  none_stops room bytes _ items before more stopped h (objects.ObjectItems.Begins e f more_items) long legit later stops =
      absurd (let bad = sym h ∙ e in cc)
  none_stops room bytes _ items before more stopped h (objects.ObjectItems.Ends e le) long legit later stops =
      parts_stop before (EndOfFile ∷ []) more items stopped legit (later (before ++ EndOfFile ∷ []) refl) stops
  none_stops room bytes _ items before more stopped h (objects.ObjectItems.IsCut e le) long legit later stops =
      absurd (let bad = sym h ∙ e in cc)
  none_stops room bytes _ items before more stopped h (objects.ObjectItems.IsBad e le) long legit later stops =
      absurd (let bad = sym h ∙ e in cc)
  none_stops room bytes _ items before more stopped h (objects.ObjectItems.Passes lt short) long legit later stops =
      stops_by fault.TooMuch stopped (long lt) stops

  one_stops : (content : Content) (parts : List Part) (contents : List (List ℕ)) (room : ℕ) (bytes : List ℕ) (own items : List Item)
      (before more : List Part) (stopped : LinkFault) → content_of (record_data content) ≡ Ok content
      → AreRead (record_data content ∷ contents) bytes → ObjectItems room bytes own → (room < length bytes → MayStop fault.TooMuch)
      → Legit (first_fault before (parts_of content ++ more))
      → ((left : ℕ) (rest : List ℕ) (others : List Item) → AreRead contents rest → ObjectItems left rest others
      → (left < length rest → MayStop fault.TooMuch) → Legit (first_fault (before ++ parts_of content) more)
      → taken (before ++ parts_of content) (others ++ items) ≡ Err stopped → MayStop stopped)
      → taken before (own ++ items) ≡ Err stopped → MayStop stopped
  one_stops content parts contents room bytes _ items before more stopped is h
      (objects.ObjectItems.Begins {left = left} {rest = rest} {content = found} {items = others} e f more_items) long legit later stops =
      let both = sym e ∙ h.1 in
      let same = value_is found (record_data content) rest h.0 both in
      let P : List ℕ → Type 0 = λ these. AreRead contents these in
      let Q : Result Content RecordFault → Type 0 = λ read.
      (parts_or_fault read >>= accepted_parts before >>= λ these. taken these (others ++ items)) ≡ Err stopped in
      parts_stop before (parts_of content) more (others ++ items) stopped legit
      (λ fine e. later left rest others (subst P (sym (rest_is found (record_data content) rest h.0 both)) h.2) more_items
      (λ lt. long (omega (arith, f, lt))) fine e)
      (subst Q (ap content_of same ∙ is) stops)
  one_stops content parts contents room bytes _ items before more stopped is h (objects.ObjectItems.Ends e le) long legit later stops =
      absurd (let bad = sym e ∙ h.1 in cc)
  one_stops content parts contents room bytes _ items before more stopped is h (objects.ObjectItems.IsCut e le) long legit later stops =
      absurd (let bad = sym e ∙ h.1 in cc)
  one_stops content parts contents room bytes _ items before more stopped is h (objects.ObjectItems.IsBad e le) long legit later stops =
      absurd (let bad = sym e ∙ h.1 in cc)
  one_stops content parts contents room bytes _ items before more stopped is h (objects.ObjectItems.Passes lt short) long legit later stops =
      stops_by fault.TooMuch stopped (long lt) stops

  object_stops : (contents : List Content) (room : ℕ) (bytes : List ℕ) (own items : List Item) (before more : List Part)
      (stopped : LinkFault) → AllByRecursion Fits contents → AreRead (map record_data contents) bytes → ObjectItems room bytes own
      → (room < length bytes → MayStop fault.TooMuch) → Legit (first_fault before (ends contents ++ more))
      → Later (before ++ ends contents) more items stopped → taken before (own ++ items) ≡ Err stopped → MayStop stopped
  object_stops [] room bytes own items before more stopped fit read are long legit later stops =
      none_stops room bytes own items before more stopped read are long legit later stops
  object_stops (content ∷ contents) room bytes own items before more stopped fit read are long legit later stops =
      let these = parts_of content in
      let P : List Part → Type 0 = λ parts. Legit (first_fault before parts) in
      let first : ends (content ∷ contents) ≡ these ++ ends contents = append_assoc these (flat_map parts_of contents) (EndOfFile ∷ []) in
      let whole : ends (content ∷ contents) ++ more ≡ these ++ (ends contents ++ more) =
      ap (λ (parts : List Part). parts ++ more) first ∙ append_assoc these (ends contents) more in
      let same : (before ++ these) ++ ends contents ≡ before ++ ends (content ∷ contents) =
      append_assoc before these (ends contents) ∙ ap (λ (parts : List Part). before ++ parts) (sym first) in
      one_stops content these (map record_data contents) room bytes own items before (ends contents ++ more) stopped
      (record_again content fit.0) read are long (subst P whole legit)
      (λ left rest others r o l fine e. object_stops contents left rest others items (before ++ these) more stopped fit.1 r o l fine
      (λ parts is f t. later parts (is ∙ same) f t) e) stops

  -- ---- all objects

  is_longer : (bytes : ℕ) → most_bytes < bytes → nat_lt most_bytes bytes ≡ true
  is_longer bytes lt = grind (arith, nat_tests)

  no_more : (items : List Item) (before : List Part) (stopped : LinkFault) → AreItems [] items → taken before items ≡ Err stopped
      → MayStop stopped
  no_more _ before stopped objects.AreItems.Nothing e = absurd cc

  first_stops : (source : Source) (rest : List (List ℕ)) (more : List Part) (items : List Item) (before : List Part) (stopped : LinkFault)
      → SourceFits source → (most_bytes < length (object_of source) → MayStop fault.TooMuch)
      → AreItems (object_of source ∷ rest) items → Legit (first_fault before (object_parts source ++ more))
      → ((others : List Item) (these : List Part) → AreItems rest others → Legit (first_fault these more)
      → taken these others ≡ Err stopped → MayStop stopped)
      → taken before items ≡ Err stopped → MayStop stopped
  first_stops source rest more _ before stopped fits long (objects.AreItems.Object {own = own} {items = others} o h) legit later stops =
      object_stops (contents_of source) most_bytes (object_of source) own others before more stopped fits.records
      (blocks_read (map record_data (contents_of source)) (object_of source) (are_blocks (contents_of source) fits.records)) o long legit
      (λ these is fine e. later others these h fine e) stops

  rest_stop : (rest : List Source) (items : List Item) (before : List Part) (stopped : LinkFault) → AllByRecursion SourceFits rest
      → (list_any is_long rest ≡ true → MayStop fault.TooMuch) → AreItems (map object_of rest) items
      → Legit (first_fault before (link_parts rest)) → taken before items ≡ Err stopped → MayStop stopped
  rest_stop [] items before stopped fit long are legit stops = no_more items before stopped are stops
  rest_stop (source ∷ rest) items before stopped fit long are legit stops =
      first_stops source (map object_of rest) (link_parts rest) items before stopped fit.0
      (λ lt. long (or_left (is_long source) (list_any is_long rest) (is_longer (length (object_of source)) lt))) are legit
      (λ others these h fine e. rest_stop rest others these stopped fit.1
      (λ e. long (or_right (is_long source) (list_any is_long rest) e)) h fine e) stops

  -- ---- the outcome

  too_large : (b : Bool) (parts : List Part) (stopped : LinkFault) → (b ≡ true → MayStop fault.TooLarge)
      → (if b then Err fault.TooLarge else Ok parts) ≡ refused stopped → MayStop stopped
  too_large true parts stopped may e = stops_by fault.TooLarge stopped (may refl) e
  too_large false parts stopped may e = absurd cc

  pub may_stop : (items : List Item) (stopped : LinkFault) → AllByRecursion SourceFits sources → AllByRecursion IsConsistent sources
      → AreItems (map object_of sources) items → outcome bottom items ≡ Err stopped → MayStop stopped
  may_stop items stopped fit consistent are e = by (taken [] items) refl e
    where
      by : (found : Result (List Part) LinkFault) → taken [] items ≡ found → (found >>= unless_too_large bottom) ≡ Err stopped
          → MayStop stopped
      by (Err found) f e =
          rest_stop sources items [] stopped fit (λ long. long) are (all_legit consistent) (f ∙ ap refused (err_is found stopped e))
      by (Ok parts) f e =
          let P : List Part → Type 0 = λ these. is_too_large bottom these ≡ true in
          too_large (is_too_large bottom parts) parts stopped
          (λ large. sym (large_same sources bottom) ∙ subst P (yields_parts sources items parts fit are f) large) e

  -- ---- within the sizes

  no_truth : (b : Bool) → b ≡ false → b ≡ true → ⊥
  no_truth b e f = let bad = sym e ∙ f in cc

  none_within : (stopped : LinkFault) → IsWithinSizes bottom sources → MayStop stopped → ⊥
  none_within fault.TooManyModules within may = let most = within.modules in omega arith
  none_within fault.TooManySections within may = let most = within.sections in omega arith
  none_within fault.TooManyGlobals within may = let most = within.globals in omega arith
  none_within fault.TooMuch within may = no_truth (list_any is_long sources) within.objects may
  none_within fault.TooLarge within may = no_truth (is_large bottom sources) within.low may
  none_within fault.TextOutside within may = no_truth (list_any fills_last sources) within.inside may
  none_within other within may = may

  pub are_taken : (items : List Item) → AllByRecursion SourceFits sources → AllByRecursion IsConsistent sources
      → IsWithinSizes bottom sources → AreItems (map object_of sources) items → (parts : List Part) × (outcome bottom items ≡ Ok parts)
  are_taken items fit consistent within are = by (outcome bottom items) refl
    where
      by : (found : Result (List Part) LinkFault) → outcome bottom items ≡ found → (parts : List Part) × (outcome bottom items ≡ Ok parts)
      by (Ok parts) e = (parts, e)
      by (Err stopped) e = absurd (none_within stopped within (may_stop items stopped fit consistent are e))

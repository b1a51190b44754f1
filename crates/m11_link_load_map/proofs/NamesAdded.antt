-- Names that are added file by file.
use Rattle.std.proofs.Common.{◌≡◌, ◌∙◌, ℕ, ◌-◌, ◌<◌, ◌≤◌, Bool, true, false, cond, List, [], ◌∷◌, ◌++◌, append_assoc, append-nil, length, get_or, take, drop, map, Option, Result, Ok, Err, inr, refl, sym, subst, ap, arith}
use Rattle.std.proofs.lemmas.List.{take_all}
use Rattle.std.specs.Prelude.{IfErr}
use Rattle.std.specs.Borrow.{Bor}
use Rattle.m11_base.specs.Feed.{Text}
use Rattle.m11_base_files.specs.Opens.{AreFiles, Files, Holds, Lacks}
use Rattle.m11_link_load_map.specs.NameFiles.{AddsFile, AddsFiles, GiveAll, HasFile, HoldsObject, LacksNames, Names, NoneNamed, ObjectsLack, is_object}
use Rattle.m11_base_disassembly.specs.ListedLines.{listing_of}
use Rattle.m11_base_disassembly.specs.declared.listed_lines.PlacedListing as declared
use Rattle.m11_base_disassembly.specs.declared.symbols.Symbol.{Symbol}
use Rattle.m11_base_disassembly.specs.Maps.{NamesSoFar, nothing, with_text}
use Rattle.m11_base_disassembly.specs.declared.kept.Kept.{Kept}
use Rattle.m11_base_disassembly.specs.declared.map_fault.MapFault.{MapFault}
use Rattle.m11_link_load_map.specs.declared.name_files.NoNames.{NoNames}
use Rattle.m11_link_load_map.specs.declared.name_files.NoNames.TheVariants.{NotOpened, InFile}

-- if a list was extended twice, it was extended by both additions together
longer : {X : Type 0} (old middle new first more : List X) → middle ≡ old ++ first → new ≡ middle ++ more
    → new ≡ old ++ (first ++ more)
longer old middle new first more a b = b ∙ ap (λ xs. xs ++ more) a ∙ append_assoc old first more

abbrev pub texts : List (Bor (List ℕ)) → List (List ℕ)
texts paths = map (λ path. path.now) paths

module _ {I : Type 0} (text : I → Option Text) where
  -- if the files at some paths and those at others are open, those at all these paths are
  are_more : (files : Option Files) (paths others : List (List ℕ)) (inputs more : List I) → AreFiles text files paths inputs
      → AreFiles text files others more → AreFiles text files (paths ++ others) (inputs ++ more)
  are_more files [] others [] more h k = k
  are_more files [] others (input ∷ inputs) more h k = absurd h
  are_more files (path ∷ paths) others [] more h k = absurd h
  are_more files (path ∷ paths) others (input ∷ inputs) more h k = (h.0, are_more files paths others inputs more h.1 k)

  -- if one file was added, and then others were added or gave no names, the same holds of all of them together
  pub more_added : (bottom : ℕ) (files : Option Files) (path : List ℕ) (paths : List (List ℕ)) (old middle new : NamesSoFar)
      (held between held' : List (List ℕ)) (opened open' opened' : List I) (done : Unit {0}) (result : Result (Unit {0}) NoNames)
      → AddsFile text bottom files path old held opened middle between open' (Ok done)
      → AddsFiles text bottom files paths middle between open' new held' opened' result
      → AddsFiles text bottom files (path ∷ paths) old held opened new held' opened' result
  more_added bottom files path paths old middle new held between held' opened open' opened' done (Ok all) h s = (
    h.0 ++ s.0,
    h.1 ++ s.1,
    (middle, h.0, s.0, h.2, s.2, refl),
    are_more files h.0 s.0 h.1 s.1 h.3 s.3,
    longer held between held' h.0 s.0 h.4 s.4,
    longer opened open' opened' h.1 s.1 h.5 s.5,
  )
  more_added bottom files path paths old middle new held between held' opened open' opened' done (Err none) h s =
      inr (middle, h.0, h.2, s)

  -- the same holds if the file is at the first of these paths, and the others are at the rest
  pub first_added : (bottom : ℕ) (files middle_files : Option Files) (paths : List (Bor (List ℕ))) (path other : Bor (List ℕ))
      (old middle new : NamesSoFar) (held between held' : List (List ℕ)) (opened open' opened' : List I) (done : Unit {0})
      (result : Result (Unit {0}) NoNames) → 1 ≤ length paths → get_or paths 0 other ≡ path
      → AddsFile text bottom files path.now old held opened middle between open' (Ok done) → middle_files ≡ files
      → AddsFiles text bottom middle_files (texts (take (length paths - 1) (drop 1 paths))) middle between open' new held' opened' result
      → AddsFiles text bottom files (texts paths) old held opened new held' opened' result
  first_added bottom files middle_files [] path other old middle new held between held' opened open' opened' done result some first h same s =
      absurd (omega (arith, some))
  first_added bottom files middle_files (item ∷ rest) path other old middle new held between held' opened open' opened' done result some first h same s =
      let P : Option Files → Type 0 = λ f. AddsFiles text bottom f (texts rest) middle between open' new held' opened' result in
      let Q : List (Bor (List ℕ)) → Type 0 = λ l. AddsFiles text bottom middle_files (texts l) middle between open' new held' opened' result in
      let R : Bor (List ℕ) → Type 0 = λ p. AddsFile text bottom files p.now old held opened middle between open' (Ok done) in
      more_added bottom files item.now (texts rest) old middle new held between held' opened open' opened' done result
      (subst R (sym first) h) (subst P same (subst Q (take_all (length (item ∷ rest) - 1) rest (omega arith)) s))

  -- without paths, nothing is added
  pub none_added : (bottom : ℕ) (files : Option Files) (paths : List (Bor (List ℕ))) (old : NamesSoFar) (held : List (List ℕ))
      (opened : List I) → length paths < 1 → AddsFiles text bottom files (texts paths) old held opened old held opened (Ok tt)
  none_added bottom files [] old held opened few = ([], [], (refl, refl), tt, sym (append-nil held), sym (append-nil opened))
  none_added bottom files (path ∷ paths) old held opened few = absurd (omega (arith, few))

  -- if a file is an object, what opening it again adds is what the file adds
  pub object_added : (bottom : ℕ) (files middle_files : Option Files) (path bytes : List ℕ) (old new : NamesSoFar)
      (held held' : List (List ℕ)) (opened opened' : List I) (result : Result (Unit {0}) NoNames) → HasFile files path bytes
      → is_object bytes ≡ true → middle_files ≡ files
      → HoldsObject text middle_files path old held opened new held' opened' result
      → AddsFile text bottom files path old held opened new held' opened' result
  object_added bottom files middle_files path bytes old new held held' opened opened' (Ok done) has is same h =
      let P : Option Files → Type 0 = λ f. Holds f path (text h.2.0) in (
        path ∷ [],
        h.2.0 ∷ [],
        (
          bytes,
          has,
          ap (λ (b : Bool). cond b (Ok old) (with_text bottom old bytes)) is ∙ ap Ok (sym h.0),
          sym (ap (λ (b : Bool). cond b (path ∷ []) []) is),
        ),
        (subst P same h.2.1, tt),
        h.1,
        h.2.2,
      )
  object_added bottom files middle_files path bytes old new held held' opened opened' (Err (NotOpened named)) has is same h =
      (h.0, subst (λ f. Lacks f path) same h.1)
  object_added bottom files middle_files path bytes old new held held' opened opened' (Err (InFile named fault)) has is same h =
      let P : MapFault → Type 0 = λ f. LacksNames bottom files path old f in (h.0, subst P (sym h.1) tt)

  -- if a file isn't an object, and what its text gives was added, the file was added
  pub text_added : (bottom : ℕ) (files : Option Files) (path bytes : List ℕ) (old new : NamesSoFar)
      (held : List (List ℕ)) (opened : List I) → HasFile files path bytes → is_object bytes ≡ false
      → with_text bottom old bytes ≡ Ok new → AddsFile text bottom files path old held opened new held opened (Ok tt)
  text_added bottom files path bytes old new held opened has is added = (
    [],
    [],
    (
      bytes,
      has,
      ap (λ (b : Bool). cond b (Ok old) (with_text bottom old bytes)) is ∙ added,
      sym (ap (λ (b : Bool). cond b (path ∷ []) []) is),
    ),
    tt,
    sym (append-nil held),
    sym (append-nil opened),
  )

-- if all files give names, but a link of the objects among them is refused, there are no names
pub none_named : {A I : Type 0} (text : I → Option Text) (faults : I → ℕ) (kept : Kept) (bottom : ℕ) (files : Option Files) (paths : List (List ℕ))
    (found : NamesSoFar) (objects own : List (List ℕ)) (inputs opened : List I) (result : Result A NoNames)
    → GiveAll bottom files paths (nothing kept) found own → AreFiles text files own opened → objects ≡ own → inputs ≡ opened
    → IfErr result (ObjectsLack text faults bottom objects inputs) → IfErr result (NoneNamed text faults kept bottom files paths)
none_named text faults kept bottom files paths found objects own inputs opened (Ok x) given are o i h = tt
none_named {A} {I} text faults kept bottom files paths found objects own inputs opened (Err none) given are o i h =
    let P : List (List ℕ) → Type 0 = λ these. ObjectsLack text faults bottom these opened none in
    let Q : List I → Type 0 = λ these. ObjectsLack text faults bottom objects these none in
    inr (found, own, opened, given, are, subst P o (subst Q i h))

-- no files give no names
pub none_from : {I : Type 0} (text : I → Option Text) (faults : I → ℕ) (kept : Kept) (bottom : ℕ) (files : Option Files)
    (paths : List (Bor (List ℕ))) (symbols : List Symbol) (listings : List declared.PlacedListing) → length paths < 1 → symbols ≡ []
    → listings ≡ [] → Names text faults kept bottom files (texts paths) symbols (map listing_of listings)
none_from text faults kept bottom files [] symbols listings none no_symbols no_listings =
    (nothing kept, [], [], (refl, refl), tt, ([], refl, no_symbols), ap (map listing_of) no_listings)
none_from text faults kept bottom files (path ∷ paths) symbols listings none no_symbols no_listings = absurd (omega (arith, none))

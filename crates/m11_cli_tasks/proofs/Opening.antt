-- Files opened one after another, up to the first that can't be.
use Rattle.std.proofs.Common.{◌≡◌, ◌∙◌, sym, ap, refl, subst, ℕ, suc, ◌<◌, List, [], ◌∷◌, ◌++◌, map, take, drop, length, inl, inr, append_assoc, Option, Some, None, Result, Ok, Err, IsSome, zero, arith, add-one, ◌+◌}
use Rattle.std.proofs.lemmas.List.{append-nil, take_all}
use Rattle.std.specs.Prelude.{IfErr, IsErrAnd}
use Rattle.std.specs.Borrow.{Bor}
use Rattle.std.specs.List.{slice_index_or}
use Rattle.m11_base.specs.Feed.{Text}
use Rattle.m11_base_files.specs.Opens.{Files, AreFiles, Has, HasAll, Holds, Lacks, creating, is_made}
use Rattle.m11_cli_tasks.specs.Opened.{LacksFirst, LacksOne, Names, Stops, texts}
use Rattle.m11_cli_tasks.specs.declared.opened.OpenFault.{OpenFault}
use Rattle.m11_cli_tasks.specs.declared.opened.OpenFault.TheVariants.{NotOpened, NoMemory}

-- if the file at a path has a text, there is a file at this path
pub there : (files : Option Files) (path : List ℕ) (text : Option Text) → Holds files path text → Has files path
there None path text h = tt
there (Some files) path text h = let P : Option Text → Type 0 = λ t. IsSome t in subst P (sym h.0) h.1

module _ {I : Type 0} (text : I → Option Text) (files : Option Files) where
  pub all_there : (paths : List (List ℕ)) (inputs : List I) → AreFiles text files paths inputs → HasAll files paths
  all_there [] [] h = tt
  all_there [] (input ∷ inputs) h = absurd h
  all_there (path ∷ paths) [] h = absurd h
  all_there (path ∷ paths) (input ∷ inputs) h = (there files path (text input) h.0, all_there paths inputs h.1)

  pub one_more : (paths : List (List ℕ)) (inputs : List I) (path : List ℕ) (input : I) → AreFiles text files paths inputs
      → Holds files path (text input) → AreFiles text files (paths ++ path ∷ []) (inputs ++ input ∷ [])
  one_more [] [] path input h more = (more, tt)
  one_more [] (x ∷ inputs) path input h more = absurd h
  one_more (p ∷ paths) [] path input h more = absurd h
  one_more (p ∷ paths) (x ∷ inputs) path input h more = (h.0, one_more paths inputs path input h.1 more)

-- the first i + 1 paths are the first i paths and the path at index i
pub texts_more : (paths : List (Bor (List ℕ))) (i : ℕ) (d : Bor (List ℕ)) → i < length paths
    → texts (take (suc i) paths) ≡ texts (take i paths) ++ (slice_index_or paths i d).now ∷ []
texts_more [] i d lt = absurd (omega arith)
texts_more (p ∷ paths) zero d lt = refl
texts_more (p ∷ paths) (suc i) d lt = ap (λ rest. p.now ∷ rest) (texts_more paths i d (omega arith))

-- the paths are the first i paths, the path at index i, and the paths after it
pub texts_split : (paths : List (Bor (List ℕ))) (i : ℕ) (d : Bor (List ℕ)) → i < length paths
    → texts paths ≡ texts (take i paths) ++ (slice_index_or paths i d).now ∷ texts (drop (suc i) paths)
texts_split [] i d lt = absurd (omega arith)
texts_split (p ∷ paths) zero d lt = refl
texts_split (p ∷ paths) (suc i) d lt = ap (λ rest. p.now ∷ rest) (texts_split paths i d (omega arith))

-- ---- inputs

-- if inputs are the files at the first i paths, and one more input is the file at the next path, then they are the files at the first i + 1
-- paths
pub next_input : {I : Type 0} (text : I → Option Text) (files : Option Files) (paths : List (Bor (List ℕ))) (i : ℕ)
    (d : Bor (List ℕ)) (inputs : List I) (input : I) → i < length paths
    → AreFiles text files (texts (take i paths)) inputs → Holds files (slice_index_or paths i d).now (text input)
    → AreFiles text files (texts (take (i + 1) paths)) (inputs ++ input ∷ [])
next_input {I} text files paths i d inputs input lt before h =
    let P : List (List ℕ) → Type 0 = λ these. AreFiles text files these (inputs ++ input ∷ []) in
    rw (add-one i) (subst P (sym (texts_more paths i d lt))
    (one_more text files (texts (take i paths)) inputs (slice_index_or paths i d).now input before h))

-- if inputs are the files at the first i paths, and there are no more paths, they are the files at all paths
pub all_inputs : {I : Type 0} (text : I → Option Text) (files : Option Files) (paths : List (Bor (List ℕ))) (i : ℕ)
    (inputs : List I) → i ≡ length paths → AreFiles text files (texts (take i paths)) inputs
    → AreFiles text files (texts paths) inputs
all_inputs {I} text files paths i inputs all h =
    let P : List (Bor (List ℕ)) → Type 0 = λ these. AreFiles text files (texts these) inputs in
    subst P (take_all i paths (omega arith)) h

lacking : (files : Option Files) (paths : List (Bor (List ℕ))) (i : ℕ) (d : Bor (List ℕ)) (fault : OpenFault)
    → i < length paths → HasAll files (texts (take i paths)) → LacksOne files (slice_index_or paths i d).now fault
    → LacksFirst files (texts paths) fault
lacking files paths i d (NotOpened reported) lt before h =
    let P : List ℕ → Type 0 = λ p. Lacks files p in (
      texts (take i paths),
      texts (drop (suc i) paths),
      texts_split paths i d lt ∙ ap (λ p. texts (take i paths) ++ p ∷ texts (drop (suc i) paths)) (sym h.0),
      before,
      subst P (sym h.0) h.1,
    )
lacking files paths i d NoMemory lt before h = tt

-- if inputs are the files at the first i paths, and the next one can't be opened, then its path is the first without a file, or memory was
-- refused
pub first_lacking : {I : Type 0} (text : I → Option Text) (files : Option Files) (paths : List (Bor (List ℕ))) (i : ℕ)
    (d : Bor (List ℕ)) (inputs : List I) (fault : OpenFault) → i < length paths
    → AreFiles text files (texts (take i paths)) inputs → LacksOne files (slice_index_or paths i d).now fault
    → LacksFirst files (texts paths) fault
first_lacking text files paths i d inputs fault lt before h =
    lacking files paths i d fault lt (all_there text files (texts (take i paths)) inputs before) h

-- ---- outputs

-- a property of a fault holds of a result with this fault
pub at_fault : {X E : Type 0} (r : Result X E) (e : E) (P : E → Type 0) → IsErrAnd r (λ y. y ≡ e) → P e → IfErr r P
at_fault (Ok x) e P h p = absurd h
at_fault (Err y) e P h p = subst P (sym h) p

creates_none : (files : Option Files) → creating [] files ≡ files
creates_none None = refl
creates_none (Some files) =
    ap (λ made. let f : Files = record { held = files.held; made = made } in Some f) (append-nil files.made)

-- to create a file and then more files is to create all of them in order
pub creates_more : (first : List ℕ) (more : List (List ℕ)) (files : Option Files)
    → creating more (creating (first ∷ []) files) ≡ creating (first ∷ more) files
creates_more first more None = refl
creates_more first more (Some files) =
    ap (λ made. let f : Files = record { held = files.held; made = made } in Some f)
    (append_assoc files.made (is_made first ∷ []) (map is_made more))

-- if an input can't be opened and nothing was created, opening stopped at that input
pub stops_at_input : (old new : Option Files) (inputs outputs : List (List ℕ)) (fault : OpenFault) → new ≡ old
    → LacksFirst old inputs fault → Stops old new inputs outputs fault
stops_at_input old new inputs outputs (NotOpened reported) same h = inl (h, same)
stops_at_input old new inputs outputs NoMemory same h = inl same

-- if the only input can't be opened and nothing was created, opening stopped at it
pub stops_at_one : (old new : Option Files) (path : List ℕ) (outputs : List (List ℕ)) (fault : OpenFault) → new ≡ old
    → LacksOne old path fault → Stops old new (path ∷ []) outputs fault
stops_at_one old new path outputs (NotOpened reported) same h =
    let P : List ℕ → Type 0 = λ p. Lacks old p in
    inl (([], [], ap (λ p. p ∷ []) (sym h.0), tt, subst P (sym h.0) h.1), same)
stops_at_one old new path outputs NoMemory same h = inl same

at_first : (old new : Option Files) (inputs rest : List (List ℕ)) (path : List ℕ) (fault : OpenFault)
    → HasAll old inputs → new ≡ old → Names (path ∷ []) fault → Stops old new inputs (path ∷ rest) fault
at_first old new inputs rest path (NotOpened reported) there same h = inr (
  there,
  [],
  rest,
  ap (λ paths. slice_index_or paths 0 [] ∷ rest) h,
  same ∙ sym (creates_none old),
)
at_first old new inputs rest path NoMemory there same h = inl same

-- if all inputs were opened and the first output couldn't be created, opening stopped at that output
pub stops_at_first : {I : Type 0} (text : I → Option Text) (old middle new : Option Files) (inputs rest : List (List ℕ))
    (opened : List I) (path : List ℕ) (fault : OpenFault) → AreFiles text old inputs opened → middle ≡ old
    → new ≡ middle → Names (path ∷ []) fault → Stops old new inputs (path ∷ rest) fault
stops_at_first text old middle new inputs rest opened path fault are same-middle same h =
    at_first old new inputs rest path fault (all_there text old inputs opened are) (same ∙ same-middle) h

at_second : (old new : Option Files) (inputs rest : List (List ℕ)) (path : List ℕ) (fault : OpenFault)
    → HasAll old inputs → new ≡ creating (path ∷ []) old → Names rest fault
    → Stops old new inputs (path ∷ rest) fault
at_second old new inputs rest path (NotOpened reported) there made h =
    inr (there, path ∷ [], [], ap (λ last. path ∷ last) h, made)
at_second old new inputs rest path NoMemory there made h = inr (there, path ∷ [], rest, refl, made)

-- if all inputs were opened and the first output was created, but not the second one, opening stopped at the second one
pub stops_at_second : {I : Type 0} (text : I → Option Text) (old first second new : Option Files)
    (inputs rest : List (List ℕ)) (opened : List I) (path : List ℕ) (fault : OpenFault)
    → AreFiles text old inputs opened → first ≡ old → second ≡ creating (path ∷ []) first → new ≡ second
    → Names rest fault → Stops old new inputs (path ∷ rest) fault
stops_at_second text old first second new inputs rest opened path fault are same made same-new h =
    at_second old new inputs rest path fault (all_there text old inputs opened are)
    (same-new ∙ made ∙ ap (λ files. creating (path ∷ []) files) same) h

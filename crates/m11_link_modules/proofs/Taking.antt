-- Parts that are accepted one after another.
use Rattle.std.proofs.Common.{◌≡◌, ℕ, ◌+◌, ◌≤◌, List, [], ◌∷◌, length, map, drop, slice_get, ap, ◌++◌, Option, Some, None, Result, Ok, Err, refl, sym, subst}
use Rattle.std.proofs.lemmas.List.{drop_all}
use Rattle.std.specs.Option.{option_or}
use Rattle.m11_link_modules.specs.declared.fault.ModuleFault.{ModuleFault}
use Rattle.m11_link_modules.specs.declared.fault.ModuleFault.TheVariants.{BadOrder, NoText, BadDisplacement, UnknownSection, TextOutside, TooManyGlobals, TooManySections, TooManyModules, NoMemory}
use Rattle.m11_obj.specs.declared.relocations.Relocation.{Relocation}
use Rattle.m11_link_modules.specs.Parts.{Part, Relocated}
use Rattle.m11_link_modules.specs.Positions.{RulesState}
use Rattle.m11_link_modules.specs.Rules.{returned, fault_known, relocation_fault}
use Rattle.m11_link_modules.specs.Steps.{RulesAccept, AcceptsOne, known_after, known_after_all, first_known_fault}
use Rattle.m11_link_modules.proofs.Indexing.{drop_at}
use Rattle.m11_link_modules.proofs.Refusals.{no_memory}

abbrev pub Outcome : Type 0
Outcome = Result (Unit {0}) ModuleFault

pub none_taken : (known : RulesState) (done : Unit {0}) → RulesAccept known known [] (Ok done)
unfolding RulesAccept
none_taken known done = (refl, refl)

-- the fault of a part is a result of accepting it and the parts after it
pub refused_first : (old new other : RulesState) (part : Part) (parts : List Part) (fault : ModuleFault)
    → AcceptsOne old other part (Err fault) → RulesAccept old new (part ∷ parts) (Err fault)
unfolding RulesAccept AcceptsOne
refused_first old new other part parts NoMemory h = record {
  taken = [];
  part = part;
  left = parts;
  split = refl;
  sound = rw h.0;
  adds = h.1;
}
refused_first old new other part parts BadOrder h = rw h
refused_first old new other part parts NoText h = rw h
refused_first old new other part parts BadDisplacement h = rw h
refused_first old new other part parts UnknownSection h = rw h
refused_first old new other part parts TextOutside h = rw h
refused_first old new other part parts TooManyGlobals h = rw h
refused_first old new other part parts TooManySections h = rw h
refused_first old new other part parts TooManyModules h = rw h

-- if a part has no fault, the first fault of it and the parts after it is that of the parts after it
then_fault : (old middle : RulesState) (part : Part) (parts : List Part) (fault : Option ModuleFault)
    → fault_known old part ≡ None → middle ≡ known_after old part → first_known_fault middle parts ≡ fault
    → first_known_fault old (part ∷ parts) ≡ fault
then_fault old middle part parts fault none e h =
    let P : RulesState → Type 0 = λ k. first_known_fault k parts ≡ fault in
    let g : option_or None (first_known_fault (known_after old part) parts) ≡ fault = subst P e h in
    let Q : Option ModuleFault → Type 0 = λ o. option_or o (first_known_fault (known_after old part) parts) ≡ fault in
    subst Q (sym none) g

pub accepted_then : (old middle new : RulesState) (part : Part) (parts : List Part) (done : Unit {0}) (result : Outcome)
    → AcceptsOne old middle part (Ok done) → RulesAccept middle new parts result → RulesAccept old new (part ∷ parts) result
unfolding RulesAccept AcceptsOne
accepted_then old middle new part parts done (Ok x) h k =
    let P : RulesState → Type 0 = λ m. new ≡ known_after_all m parts in
    (then_fault old middle part parts None h.0 h.1 k.0, subst P h.1 k.1)
accepted_then old middle new part parts done (Err NoMemory) h k = record {
  taken = part ∷ k.taken;
  part = k.part;
  left = k.left;
  split = ap (λ all. part ∷ all) k.split;
  sound = then_fault old middle part (k.taken ++ k.part ∷ []) None h.0 h.1 k.sound;
  adds = k.adds;
}
accepted_then old middle new part parts done (Err BadOrder) h k = then_fault old middle part parts (Some BadOrder) h.0 h.1 k
accepted_then old middle new part parts done (Err NoText) h k = then_fault old middle part parts (Some NoText) h.0 h.1 k
accepted_then old middle new part parts done (Err BadDisplacement) h k = then_fault old middle part parts (Some BadDisplacement) h.0 h.1 k
accepted_then old middle new part parts done (Err UnknownSection) h k = then_fault old middle part parts (Some UnknownSection) h.0 h.1 k
accepted_then old middle new part parts done (Err TextOutside) h k = then_fault old middle part parts (Some TextOutside) h.0 h.1 k
accepted_then old middle new part parts done (Err TooManyGlobals) h k = then_fault old middle part parts (Some TooManyGlobals) h.0 h.1 k
accepted_then old middle new part parts done (Err TooManySections) h k = then_fault old middle part parts (Some TooManySections) h.0 h.1 k
accepted_then old middle new part parts done (Err TooManyModules) h k = then_fault old middle part parts (Some TooManyModules) h.0 h.1 k

-- a result of accepting one part is a result of accepting a list of this part
pub accepted_one : (old new : RulesState) (part : Part) (result : Outcome) → AcceptsOne old new part result → RulesAccept old new (part ∷ []) result
accepted_one old new part (Ok done) h = accepted_then old new new part [] done (Ok done) h (none_taken new done)
accepted_one old new part (Err fault) h = refused_first old new new part [] fault h

-- ---- loops: a result for the remaining parts is a result for all of them

abbrev pub GoesOn : RulesState → RulesState → List Part → List Part → Type 0
GoesOn old now rest all = (new : RulesState) (result : Outcome) → RulesAccept now new rest result → RulesAccept old new all result

pub begins : (old : RulesState) (all : List Part) → GoesOn old old all all
begins old all new result h = h

pub goes_on : (old now later : RulesState) (part : Part) (rest all : List Part) (done : Unit {0})
    → GoesOn old now (part ∷ rest) all → AcceptsOne now later part (Ok done) → GoesOn old later rest all
goes_on old now later part rest all done i h new result k = i new result (accepted_then now later new part rest done result h k)

pub stops : (old now new other : RulesState) (part : Part) (rest all : List Part) (fault : ModuleFault)
    → GoesOn old now (part ∷ rest) all → AcceptsOne now other part (Err fault) → RulesAccept old new all (Err fault)
stops old now new other part rest all fault i h = i new (Err fault) (refused_first now new other part rest fault h)

pub ends : (old now : RulesState) (all : List Part) (done : Unit {0}) → GoesOn old now [] all → RulesAccept old now all (Ok done)
ends old now all done i = i now (Ok done) (none_taken now done)

-- ---- refusals

returned_some : (fault : Option ModuleFault) (said : ModuleFault) → returned fault ≡ Err said → fault ≡ Some said
returned_some None said e = search
returned_some (Some fault) said e = search

-- the fault that the check of a part returned is a result of accepting the part
pub refused : (old new : RulesState) (part : Part) (fault : ModuleFault) → returned (fault_known old part) ≡ Err fault
    → AcceptsOne old new part (Err fault)
unfolding AcceptsOne
refused old new part NoMemory e = absurd (no_memory old part (returned_some (fault_known old part) NoMemory e))
refused old new part BadOrder e = returned_some (fault_known old part) BadOrder e
refused old new part NoText e = returned_some (fault_known old part) NoText e
refused old new part BadDisplacement e = returned_some (fault_known old part) BadDisplacement e
refused old new part UnknownSection e = returned_some (fault_known old part) UnknownSection e
refused old new part TextOutside e = returned_some (fault_known old part) TextOutside e
refused old new part TooManyGlobals e = returned_some (fault_known old part) TooManyGlobals e
refused old new part TooManySections e = returned_some (fault_known old part) TooManySections e
refused old new part TooManyModules e = returned_some (fault_known old part) TooManyModules e

opened : (known : RulesState) (relocation : Relocation) (fault : ModuleFault)
    → returned (relocation_fault relocation known.entered known.text known.globals) ≡ Err fault
    → returned (fault_known known (Relocated relocation)) ≡ Err fault
unfolding fault_known
opened known relocation fault e = e

pub relocation_refused : {seen : RulesState} (old new : RulesState) (relocation : Relocation) (fault : ModuleFault) → seen ≡ old
    → returned (relocation_fault relocation seen.entered seen.text seen.globals) ≡ Err fault
    → AcceptsOne old new (Relocated relocation) (Err fault)
relocation_refused {seen} old new relocation fault is e =
    let P : RulesState → Type 0 = λ known. AcceptsOne known new (Relocated relocation) (Err fault) in
    subst P is (refused seen new (Relocated relocation) fault (opened seen relocation fault e))

-- ---- loops over the items of a record, each of which is one part

module _ {X : Type 0} (make : X → Part) where
  -- if the result for the remaining items is that for all, so it is for those after the first, once the first is accepted
  pub walk_taken : (old now later : RulesState) (items rest following : List X) (item : X) (done : Unit {0}) → rest ≡ item ∷ following
      → GoesOn old now (map make rest) (map make items) → AcceptsOne now later (make item) (Ok done)
      → GoesOn old later (map make following) (map make items)
  walk_taken old now later items rest following item done e i h =
      let P : List X → Type 0 = λ left. GoesOn old now (map make left) (map make items) in
      goes_on old now later (make item) (map make following) (map make items) done (subst P e i) h

  pub walk_refused : (old now new other : RulesState) (items rest following : List X) (item : X) (fault : ModuleFault) → rest ≡ item ∷ following
      → GoesOn old now (map make rest) (map make items) → AcceptsOne now other (make item) (Err fault)
      → RulesAccept old new (map make items) (Err fault)
  walk_refused old now new other items rest following item fault e i h =
      let P : List X → Type 0 = λ left. GoesOn old now (map make left) (map make items) in
      stops old now new other (make item) (map make following) (map make items) fault (subst P e i) h

  pub walk_ended : (old now : RulesState) (items rest : List X) (done : Unit {0}) → rest ≡ []
      → GoesOn old now (map make rest) (map make items) → RulesAccept old now (map make items) (Ok done)
  walk_ended old now items rest done e i =
      let P : List X → Type 0 = λ left. GoesOn old now (map make left) (map make items) in
      ends old now (map make items) done (subst P e i)

  -- the same, if the remaining items are those at an index and after it
  pub item_taken : (old now later : RulesState) (items : List X) (index : ℕ) (item : X) (done : Unit {0}) → slice_get items index ≡ Some item
      → GoesOn old now (map make (drop index items)) (map make items) → AcceptsOne now later (make item) (Ok done)
      → GoesOn old later (map make (drop (index + 1) items)) (map make items)
  item_taken old now later items index item done e i h =
      walk_taken old now later items (drop index items) (drop (index + 1) items) item done (drop_at items index item e) i h

  pub item_refused : (old now new other : RulesState) (items : List X) (index : ℕ) (item : X) (fault : ModuleFault) → slice_get items index ≡ Some item
      → GoesOn old now (map make (drop index items)) (map make items) → AcceptsOne now other (make item) (Err fault)
      → RulesAccept old new (map make items) (Err fault)
  item_refused old now new other items index item fault e i h =
      walk_refused old now new other items (drop index items) (drop (index + 1) items) item fault (drop_at items index item e) i h

  pub items_taken : (old now : RulesState) (items : List X) (index : ℕ) (done : Unit {0}) → length items ≤ index
      → GoesOn old now (map make (drop index items)) (map make items) → RulesAccept old now (map make items) (Ok done)
  items_taken old now items index done le i = walk_ended old now items (drop index items) done (drop_all index items le) i

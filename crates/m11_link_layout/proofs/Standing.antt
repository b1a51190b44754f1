-- The state of a layout after some parts, and after further ones.
use Rattle.std.proofs.Common.{◌≡◌, ℕ, List, [], ◌∷◌, ◌++◌, map, append-nil, inl, inr, Option, Some, None, Result, Ok, Err, IsErrAnd, refl, sym, subst, ap, ◌∙◌}
use Rattle.std.specs.Option.{option_or}
use Rattle.std.specs.Prelude.{is_ok}
use Rattle.std.proofs.Math.Seq.{append_snoc}
use Rattle.m11_obj.specs.Reading.{IsRecord, content_of}
use Rattle.m11_obj.specs.Records.{Content}
use Rattle.m11_obj.specs.declared.fault.RecordFault.{RecordFault}
use Rattle.m11_obj.specs.declared.gsd.GsdEntry.{GsdEntry}
use Rattle.m11_link_modules.specs.declared.fault.ModuleFault.{ModuleFault}
use Rattle.m11_link_modules.specs.declared.fault.ModuleFault.TheVariants as rule
use Rattle.m11_link_modules.proofs.KnownAfter.{accepted_after}
use Rattle.m11_link_modules.specs.Grammar.{directory_parts}
use Rattle.m11_link_modules.specs.Laws.{AcceptsAfter}
use Rattle.m11_link_modules.specs.Parts.{Part, Entry, EndOfDirectory, EndOfFile, EndOfModule, Text, parts_in, parts_of, record_parts}
use Rattle.m11_link_modules.specs.Positions.{RulesState, known_of}
use Rattle.m11_link_modules.specs.Rules.{fault_of, first_fault}
use Rattle.m11_link_modules.specs.Steps.{RulesAccept}
use Rattle.m11_link_layout.specs.Fault.{of_module}
use Rattle.m11_link_layout.specs.Tables.{LayoutTables, collected_after, collected_after_all, nothing_collected, with_end}
use Rattle.m11_link_layout.specs.Layout.{FirstFault, LayoutState, LayoutAfter, AcceptsBlock, AcceptsParts}
use Rattle.m11_link_layout.specs.declared.fault.LinkFault.{LinkFault}
use Rattle.m11_link_layout.specs.declared.fault.LinkFault.TheVariants.{NoMemory, Record}

pub begins : (bottom : ℕ) (reading : LayoutState) → reading.known ≡ known_of [] → reading.gathered ≡ nothing_collected
    → reading.bottom ≡ bottom → reading.fault ≡ None → LayoutAfter bottom [] reading
unfolding first_fault
begins bottom reading k g b f = record { sound = refl; known = k; gathered = g; bottom_is = b; fault = f }

-- ---- parts after parts

both_none : (first rest : Option ModuleFault) → option_or first rest ≡ None → (first ≡ None) × (rest ≡ None)
both_none None rest e = (refl, e)
both_none (Some fault) rest e = search

joined_none : (first rest : Option ModuleFault) → first ≡ None → rest ≡ None → option_or first rest ≡ None
joined_none first rest e f = let P : Option ModuleFault → Type 0 = λ o. option_or o rest ≡ None in subst P (sym e) f

pub sound_after : (done before parts : List Part) → first_fault done before ≡ None
    → first_fault (done ++ before) parts ≡ None
    → first_fault done (before ++ parts) ≡ None
unfolding first_fault
sound_after done [] parts e f =
    let P : List Part → Type 0 = λ all. first_fault all parts ≡ None in subst P (append-nil done) f
sound_after done (part ∷ before) parts e f =
    let n = both_none (fault_of done part) (first_fault (done ++ part ∷ []) before) e in
    let P : List Part → Type 0 = λ all. first_fault all parts ≡ None in
    joined_none (fault_of done part) (first_fault (done ++ part ∷ []) (before ++ parts)) n.0
    (sound_after (done ++ part ∷ []) before parts n.1 (subst P (sym (append_snoc done part before)) f))

pub collected_append : (bottom : ℕ) (g : LayoutTables) (before parts : List Part)
    → collected_after_all bottom g (before ++ parts)
    ≡ collected_after_all bottom (collected_after_all bottom g before) parts
collected_append bottom g [] parts = refl
collected_append bottom g (part ∷ before) parts = collected_append bottom (collected_after bottom g part) before parts

-- if further parts were accepted and stored, the layout is in the state after all parts
pub goes_on : (bottom : ℕ) (before parts : List Part) (old new : LayoutState) → LayoutAfter bottom before old
    → AcceptsAfter before new.known parts (Ok tt) → new.gathered ≡ collected_after_all old.bottom old.gathered parts
    → new.bottom ≡ old.bottom → new.fault ≡ old.fault → LayoutAfter bottom (before ++ parts) new
goes_on bottom before parts old new s t g b f =
    let P : ℕ → Type 0 = λ n. new.gathered ≡ collected_after_all n old.gathered parts in
    let Q : LayoutTables → Type 0 = λ h. new.gathered ≡ collected_after_all bottom h parts in
    let R : LayoutTables → Type 0 = λ h. new.gathered ≡ h in
    let S : ℕ → Type 0 = λ n. new.bottom ≡ n in
    let T : Option LinkFault → Type 0 = λ o. new.fault ≡ o in
    record {
      sound = sound_after [] before parts s.sound t.0;
      known = t.1;
      gathered = subst R (sym (collected_append bottom nothing_collected before parts))
          (subst Q s.gathered (subst P s.bottom_is g));
      bottom_is = subst S s.bottom_is b;
      fault = subst T s.fault f;
    }

-- if further parts were judged from what was known and were stored, the layout is in the state after all parts
pub parts_taken : {seen new : LayoutState} (bottom : ℕ) (before parts : List Part) (old : LayoutState) → seen ≡ old
    → LayoutAfter bottom before old
    → (seen.known ≡ known_of before → AcceptsAfter before new.known parts (Ok tt))
    → new.gathered ≡ collected_after_all seen.bottom seen.gathered parts
    → new.bottom ≡ seen.bottom → new.fault ≡ seen.fault → LayoutAfter bottom (before ++ parts) new
parts_taken {seen} {new} bottom before parts old is s t g b f =
    let P : LayoutState → Type 0 = λ reading. LayoutAfter bottom before reading in
    let s' = subst P (sym is) s in
    goes_on bottom before parts seen new s' (t s'.known) g b f

-- a fault that is found from what is known before some parts is their first fault
pub fault_found : (before parts : List Part) (old new : RulesState) (broken : ModuleFault) → old ≡ known_of before
    → RulesAccept old new parts (Err broken) → FirstFault before parts (of_module broken)
fault_found before parts old new rule.NoMemory is h = inl (accepted_after before old new parts (Err rule.NoMemory) is h)
fault_found before parts old new rule.BadOrder is h =
    (rule.BadOrder, accepted_after before old new parts (Err rule.BadOrder) is h, refl)
fault_found before parts old new rule.NoText is h =
    (rule.NoText, accepted_after before old new parts (Err rule.NoText) is h, refl)
fault_found before parts old new rule.BadDisplacement is h =
    (rule.BadDisplacement, accepted_after before old new parts (Err rule.BadDisplacement) is h, refl)
fault_found before parts old new rule.UnknownSection is h =
    (rule.UnknownSection, accepted_after before old new parts (Err rule.UnknownSection) is h, refl)
fault_found before parts old new rule.TextOutside is h =
    (rule.TextOutside, accepted_after before old new parts (Err rule.TextOutside) is h, refl)
fault_found before parts old new rule.TooManyGlobals is h =
    (rule.TooManyGlobals, accepted_after before old new parts (Err rule.TooManyGlobals) is h, refl)
fault_found before parts old new rule.TooManySections is h =
    (rule.TooManySections, accepted_after before old new parts (Err rule.TooManySections) is h, refl)
fault_found before parts old new rule.TooManyModules is h =
    (rule.TooManyModules, accepted_after before old new parts (Err rule.TooManyModules) is h, refl)

pub fault_reported : (before parts : List Part) (old new : RulesState) (broken : ModuleFault) (state : LayoutState) (bottom : ℕ)
    (result : Result (Unit {0}) LinkFault) → old ≡ known_of before
    → RulesAccept old new parts (Err broken) → IsErrAnd result (λ e. e ≡ of_module broken)
    → AcceptsParts bottom before state parts result
fault_reported before parts old new broken state bottom (Ok done) is h e = absurd e
fault_reported before parts old new broken state bottom (Err stopped) is h e =
    let P : LinkFault → Type 0 = λ said. FirstFault before parts said in
    subst P (sym e) (fault_found before parts old new broken is h)

-- if parts have no fault, and memory is refused for the tables, this is a result of accepting them
pub memory_refused : {seen : LayoutState} (bottom : ℕ) (before parts : List Part) (old state : LayoutState) (new : RulesState)
    (result : Result (Unit {0}) LinkFault) → seen ≡ old → LayoutAfter bottom before old
    → RulesAccept seen.known new parts (Ok tt) → IsErrAnd result (λ e. e ≡ NoMemory) → AcceptsParts bottom before state parts result
memory_refused {seen} bottom before parts old state new (Ok done) is s h e = absurd e
memory_refused {seen} bottom before parts old state new (Err stopped) is s h e =
    let k = ap (λ (l : LayoutState). l.known) is ∙ s.known in
    let P : LinkFault → Type 0 = λ said. FirstFault before parts said in
    subst P (sym e) (inr (accepted_after before seen.known new parts (Ok tt) k h).0)

-- ---- a block

no_record : (broken : ModuleFault) (inner : RecordFault) → Record inner ≡ of_module broken → ⊥
no_record rule.NoMemory inner e = cc
no_record rule.BadOrder inner e = cc
no_record rule.NoText inner e = cc
no_record rule.BadDisplacement inner e = cc
no_record rule.UnknownSection inner e = cc
no_record rule.TextOutside inner e = cc
no_record rule.TooManyGlobals inner e = cc
no_record rule.TooManySections inner e = cc
no_record rule.TooManyModules inner e = cc

-- a result of accepting the parts of a block's record is a result of accepting the block
of_record : (bottom : ℕ) (before : List Part) (new : LayoutState) (bytes : List ℕ) (result : Result (Unit {0}) LinkFault)
    → IsRecord bytes → AcceptsParts bottom before new (record_parts bytes) result → AcceptsBlock bottom before new bytes result
of_record bottom before new bytes (Ok done) is h = h
of_record bottom before new bytes (Err (Record inner)) is h = absurd (no_record h.0 inner h.2)
of_record bottom before new bytes (Err NoMemory) is h = (is, h)
of_record bottom before new bytes (Err stopped) is h = h

-- a result of accepting the parts of a block's content is a result of accepting the block
pub block_taken : (bottom : ℕ) (before : List Part) (new : LayoutState) (bytes : List ℕ) (content : Content)
    (result : Result (Unit {0}) LinkFault) → content_of bytes ≡ Ok content → AcceptsParts bottom before new (parts_of content) result
    → AcceptsBlock bottom before new bytes result
block_taken bottom before new bytes content result e h =
    let P : Result Content RecordFault → Type 0 = λ r. AcceptsParts bottom before new (parts_in r) result in
    of_record bottom before new bytes result (ap (λ (r : Result Content RecordFault). is_ok r) e) (subst P (sym e) h)

-- a text changes no table
pub text_noted : (bottom address : ℕ) (bytes : List ℕ) (g : LayoutTables)
    → g ≡ collected_after_all bottom g (Text address bytes ∷ [])
unfolding collected_after
text_noted bottom address bytes g = refl

-- the end of a directory changes no table
pub end_of_directory_noted : (bottom : ℕ) (g : LayoutTables) → g ≡ collected_after_all bottom g (EndOfDirectory ∷ [])
unfolding collected_after
end_of_directory_noted bottom g = refl

-- ending a module in the tables is their step for its end
pub end_of_module_noted : (bottom : ℕ) (g later : LayoutTables) → later ≡ with_end g
    → later ≡ collected_after_all bottom g (EndOfModule ∷ [])
unfolding collected_after
end_of_module_noted bottom g later e = e

-- storing the entries of a directory record is the step of the tables for its parts
pub directory_noted : (bottom : ℕ) (entries : List GsdEntry) (g later : LayoutTables)
    → later ≡ collected_after_all bottom g (map (λ entry. Entry entry) entries)
    → later ≡ collected_after_all bottom g (directory_parts entries)
unfolding collected_after
directory_noted bottom entries g later e = e

-- the end of a file changes no table
nothing_noted : (bottom : ℕ) (g : LayoutTables) → g ≡ collected_after_all bottom g (EndOfFile ∷ [])
unfolding collected_after
nothing_noted bottom g = refl

pub end_taken : {seen new : LayoutState} (bottom : ℕ) (before : List Part) (old : LayoutState) → seen ≡ old
    → LayoutAfter bottom before old
    → (seen.known ≡ known_of before → AcceptsAfter before new.known (EndOfFile ∷ []) (Ok tt))
    → new.gathered ≡ seen.gathered → new.bottom ≡ seen.bottom → new.fault ≡ seen.fault
    → LayoutAfter bottom (before ++ EndOfFile ∷ []) new
end_taken {seen} {new} bottom before old is s t g b f =
    let P : LayoutState → Type 0 = λ reading. LayoutAfter bottom before reading in
    let Q : LayoutTables → Type 0 = λ h. new.gathered ≡ h in
    let s' = subst P (sym is) s in
    goes_on bottom before (EndOfFile ∷ []) seen new s' (t s'.known)
    (subst Q (nothing_noted seen.bottom seen.gathered) g) b f

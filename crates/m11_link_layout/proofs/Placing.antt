-- Sections that are placed one after another.
use Rattle.std.proofs.Common.{◌≡◌, ◌∙◌, option_and_then, ℕ, ◌+◌, ◌≤◌, List, [], ◌∷◌, ◌++◌, ap, length, drop, take, slice_get, true, Option, Some, None, Ok, Err, refl, sym, subst}
use Rattle.std.specs.Option.{is_some}
use Rattle.std.proofs.lemmas.List.{drop_all, take_more, take-append-drop}
use Rattle.std.proofs.lemmas.Option.{slice_get_within, get_or_from_slice_get}
use Rattle.m11_link_layout.specs.Plan.{Bases, Places, PlacesAll, StopsAtSection, bases_onto, placed}
use Rattle.m11_link_layout.specs.declared.definition.Total.{Total}
use Rattle.m11_link_layout.specs.declared.fault.LinkFault.{LinkFault}
use Rattle.m11_link_layout.specs.declared.fault.LinkFault.TheVariants as fault
use Rattle.m11_link_modules.proofs.Indexing.{drop_at}

abbrev pub Based : Type 0
Based = List ((ℕ × ℕ) × ℕ)

abbrev pub Sections : Type 0
Sections = List ((ℕ × ℕ) × Total)

-- if placing the remaining sections has a result, so does placing the first of them and then the others
opened : (now : Based) (next : ℕ) (sections : Sections) (index : ℕ) (section : (ℕ × ℕ) × Total) (all : Option Bases)
    → slice_get sections index ≡ Some section → bases_onto now next (drop index sections) ≡ all
    → option_and_then (λ following. bases_onto following.bases following.top (drop (index + 1) sections))
    (placed now next section) ≡ all
opened now next sections index section all e i =
    let P : Sections → Type 0 = λ left. bases_onto now next left ≡ all in subst P (drop_at sections index section e) i

pub placed_next : (now later : Based) (next top : ℕ) (sections : Sections) (index : ℕ) (section : (ℕ × ℕ) × Total)
    (all : Option Bases)
    → slice_get sections index ≡ Some section → bases_onto now next (drop index sections) ≡ all
    → placed now next section ≡ Some (record { bases = later; top = top })
    → bases_onto later top (drop (index + 1) sections) ≡ all
placed_next now later next top sections index section all e i h =
    let P : Option Bases → Type 0 = λ o. option_and_then
    (λ following. bases_onto following.bases following.top (drop (index + 1) sections)) o ≡ all in
    subst P h (opened now next sections index section all e i)

none_placed : (now : Based) (next : ℕ) (sections : Sections) (index : ℕ) (section : (ℕ × ℕ) × Total)
    (all : Option Bases)
    → slice_get sections index ≡ Some section → bases_onto now next (drop index sections) ≡ all
    → placed now next section ≡ None → all ≡ None
none_placed now next sections index section all e i h =
    let P : Option Bases → Type 0 = λ o. option_and_then
    (λ following. bases_onto following.bases following.top (drop (index + 1) sections)) o ≡ all in
    sym (subst P h (opened now next sections index section all e i))

-- the sections up to and including an index are those before it and the one at it
take_at : (sections : Sections) (index : ℕ) (section : (ℕ × ℕ) × Total) → slice_get sections index ≡ Some section
    → take (index + 1) sections ≡ take index sections ++ section ∷ []
take_at sections index section e =
    let P : (ℕ × ℕ) × Total → Type 0 = λ y. take (index + 1) sections ≡ take index sections ++ y ∷ [] in
    subst P (get_or_from_slice_get sections index section section e)
    (take_more sections index section (slice_get_within sections index section e))

parted_at : (sections : Sections) (index : ℕ) (section : (ℕ × ℕ) × Total) → slice_get sections index ≡ Some section
    → sections ≡ take index sections ++ section ∷ drop (index + 1) sections
parted_at sections index section e =
    let P : Sections → Type 0 = λ left. sections ≡ take index sections ++ left in
    subst P (drop_at sections index section e) (sym (take-append-drop index sections))

-- placing sections with further ones after them is placing the former and then the latter
abbrev PlacedOn : Sections → Sections → Type 0
PlacedOn before after = (bases : Based) (next : ℕ) → bases_onto bases next (before ++ after)
    ≡ option_and_then (λ following. bases_onto following.bases following.top after) (bases_onto bases next before)

then_on : (before after : Sections) → PlacedOn before after → (first : Option Bases)
    → option_and_then (λ following. bases_onto following.bases following.top (before ++ after)) first
    ≡ option_and_then (λ following. bases_onto following.bases following.top after)
    (option_and_then (λ following. bases_onto following.bases following.top before) first)
then_on before after h None = refl
then_on before after h (Some first) = h first.bases first.top

placed_on : (before after : Sections) → PlacedOn before after
placed_on [] after bases next = refl
placed_on (section ∷ before) after bases next =
    then_on before after (placed_on before after) (placed bases next section)

one_placed : (first : Option Bases) → option_and_then (λ following. bases_onto following.bases following.top []) first ≡ first
one_placed None = refl
one_placed (Some bases) = refl

one_more : (first now : Based) (bottom next : ℕ) (before : Sections) (section : (ℕ × ℕ) × Total)
    → bases_onto first bottom before ≡ Some (record { bases = now; top = next })
    → bases_onto first bottom (before ++ section ∷ []) ≡ placed now next section
one_more first now bottom next before section e =
    let P : Option Bases → Type 0 = λ o. bases_onto first bottom (before ++ section ∷ [])
    ≡ option_and_then (λ following. bases_onto following.bases following.top (section ∷ [])) o in
    subst P e (placed_on before (section ∷ []) first bottom) ∙ one_placed (placed now next section)

pub placed_so_far : (first now later : Based) (bottom next top : ℕ) (sections : Sections) (index : ℕ)
    (section : (ℕ × ℕ) × Total)
    → slice_get sections index ≡ Some section
    → bases_onto first bottom (take index sections) ≡ Some (record { bases = now; top = next })
    → placed now next section ≡ Some (record { bases = later; top = top })
    → bases_onto first bottom (take (index + 1) sections) ≡ Some (record { bases = later; top = top })
placed_so_far first now later bottom next top sections index section e i h =
    let P : Sections → Type 0 = λ these. bases_onto first bottom these ≡ Some (record { bases = later; top = top }) in
    subst P (sym (take_at sections index section e))
    (one_more first now bottom next (take index sections) section i ∙ h)

-- if the section at this index fits, and memory is refused for it, placing stops at one of the sections
refused_at : (first now : Based) (bottom next : ℕ) (sections : Sections) (index : ℕ) (section : (ℕ × ℕ) × Total)
    → slice_get sections index ≡ Some section
    → bases_onto first bottom (take index sections) ≡ Some (record { bases = now; top = next })
    → is_some (placed now next section) ≡ true → StopsAtSection first bottom sections
refused_at first now bottom next sections index section e i h = record {
  before = take index sections;
  section = section;
  left = drop (index + 1) sections;
  split = parted_at sections index section e;
  fits = ap is_some (one_more first now bottom next (take index sections) section i) ∙ h;
}

module _ (first now later new : Based) (bottom next : ℕ) (sections : Sections) (index : ℕ) (section : (ℕ × ℕ) × Total)
    (e : slice_get sections index ≡ Some section)
    (left : bases_onto now next (drop index sections) ≡ bases_onto first bottom sections)
    (done : bases_onto first bottom (take index sections) ≡ Some (record { bases = now; top = next })) where
  pub place_failed : (said : LinkFault) → Places (placed now next section) later (Err said)
      → PlacesAll first bottom sections new (Err said)
  place_failed fault.TooLarge h = none_placed now next sections index section (bases_onto first bottom sections) e left h
  place_failed fault.NoMemory h = refused_at first now bottom next sections index section e done h
  place_failed fault.Read h = h
  place_failed (fault.Write output) h = h
  place_failed (fault.Block inner) h = h
  place_failed (fault.Record inner) h = h
  place_failed fault.BadOrder h = h
  place_failed fault.NoText h = h
  place_failed fault.BadDisplacement h = h
  place_failed fault.UnknownSection h = h
  place_failed fault.TooManyGlobals h = h
  place_failed fault.TooManySections h = h
  place_failed fault.TooManyModules h = h
  place_failed fault.TooMuch h = h
  place_failed fault.TextOutside h = h

pub all_placed : (first now : Based) (bottom next : ℕ) (sections : Sections) (index : ℕ) → length sections ≤ index
    → bases_onto now next (drop index sections) ≡ bases_onto first bottom sections
    → PlacesAll first bottom sections now (Ok next)
all_placed first now bottom next sections index le i =
    let P : Sections → Type 0 = λ left. bases_onto now next left ≡ bases_onto first bottom sections in
    sym (subst P (drop_all index sections le) i)

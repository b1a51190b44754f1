-- Which object has a fault.
use Rattle.std.proofs.Common.{◌≡◌, ◌∙◌, ℕ, suc, ◌<◌, List, [], ◌∷◌, ◌++◌, length, get_or, Option, Some, None, Err, refl, sym, ap, subst, arith}
use Rattle.std.specs.Borrow.{Bor}
use Rattle.std.specs.Option.{option_map}
use Rattle.std.specs.Prelude.{slice_get}
use Rattle.std.proofs.lemmas.List.{length-append, length-map}
use Rattle.std.proofs.lemmas.Option.{slice_get-get_or, slice_get-map}
use Rattle.m11_base.specs.Feed.{Text}
use Rattle.m11_base_files.specs.Opens.{AreFiles, Files}
use Rattle.m11_base_writes.specs.Passes.{pass_of}
use Rattle.m11_base_writes.specs.States.{OutputState}
use Rattle.m11_cli_tasks.specs.Opened.{texts}
use Rattle.m11_link_load_map.specs.Stopping.{StopsAt}
use Rattle.m11_link_load_map.specs.declared.fault.LoadMapFault.TheVariants as map
use Rattle.m11_link_load_map.specs.declared.fault.ObjectsFault.{ObjectsFault}
use Rattle.m11_link_layout.specs.declared.fault.LinkFault.{LinkFault}
use Rattle.m11_dumper.specs.Mapping.{IsBelow, Runs, ShowsMap, Tells, of_all, of_one}
use Rattle.m11_dumper.specs.declared.stop.Stop.{Stop}
use Rattle.m11_dumper.specs.declared.stop.Stop.TheVariants.{InObject, InMap}

-- the path at an index of the borrowed paths is the path at that index of their texts
pub path_at : (paths : List (Bor (List ℕ))) (index : ℕ) (path : Bor (List ℕ)) → index < length paths → path ≡ get_or paths index path
    → slice_get (texts paths) index ≡ Some path.now
path_at paths index path inside is =
    slice_get-map (λ (p : Bor (List ℕ)). p.now) paths index
    ∙ ap (option_map (λ (p : Bor (List ℕ)). p.now)) (slice_get-get_or paths index path inside ∙ ap Some (sym is))

-- a fault with an index is the fault of that object, and a fault without one is that of all objects together
pub one_told : (stopped : ObjectsFault) (index : ℕ) → stopped.object_index ≡ Some index → stopped ≡ of_one index stopped.fault
one_told stopped index is = ap (λ (object : Option ℕ). record stopped { object_index = object }) is

pub all_told : (stopped : ObjectsFault) → stopped.object_index ≡ None → stopped ≡ of_all stopped.fault
all_told stopped is = ap (λ (object : Option ℕ). record stopped { object_index = object }) is

module _ {I : Type 0} (text : I → Option Text) (faults : I → ℕ) (files : Option Files) where
  -- there are as many open objects as paths
  same_length : (paths : List (List ℕ)) (objects : List I) → AreFiles text files paths objects → length objects ≡ length paths
  same_length [] [] h = refl
  same_length [] (object ∷ objects) h = absurd h
  same_length (path ∷ paths) [] h = absurd h
  same_length (path ∷ paths) (object ∷ objects) h = ap suc (same_length paths objects h.1)

  -- the index of the object at fault is below the number of paths
  pub is_below : (paths : List (Bor (List ℕ))) (objects objects' : List I) (bottom : ℕ) (index : Option ℕ) (stopped : LinkFault)
      → AreFiles text files (texts paths) objects → StopsAt (pass_of text faults objects objects') bottom [] index stopped
      → IsBelow index (length paths)
  is_below paths objects objects' bottom None stopped are h = tt
  is_below paths objects objects' bottom (Some index) stopped are h =
      let many : length objects ≡ length paths =
      same_length (texts paths) objects are ∙ length-map paths (λ (p : Bor (List ℕ)). p.now) in
      let all : objects ≡ h.done ++ h.object ∷ h.others = h.old-is in
      omega (arith, many, ap length all, length-append h.done (h.object ∷ h.others), h.index-is)

-- if a run ends with a fault that becomes this stop, showing the map ends with the stop
pub told : {I : Type 0} (text : I → Option Text) (faults : I → ℕ) (bottom : ℕ) (files : Option Files) (paths : List (List ℕ))
    (out out' : OutputState) (stopped : ObjectsFault) (stop : Stop) → Tells paths stopped stop
    → Runs text faults bottom files paths out out' (Err (map.Objects stopped))
    → ShowsMap text faults bottom files paths out out' (Err stop)
told text faults bottom files paths out out' stopped (InObject named fault) t r =
    let P : ObjectsFault → Type 0 = λ these. Runs text faults bottom files paths out out' (Err (map.Objects these)) in
    (t.0, t.1, subst P t.2 r)
told text faults bottom files paths out out' stopped (InMap fault) t r =
    let P : ObjectsFault → Type 0 = λ these. Runs text faults bottom files paths out out' (Err (map.Objects these)) in subst P t r
told text faults bottom files paths out out' stopped stop t r = absurd t

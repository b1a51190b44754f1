-- A pass without limits, whatever names are counted. Its steps are the same under every map, and each pass over the same lines makes
-- these steps, up to its end or a limit.
use Rattle.std.proofs.Common.{◌≡◌, ◌∙◌, Bool, false, List, [], ◌∷◌, ◌++◌, length, append-nil, Option, Some, None, inl, inr, refl, sym, ap}
use Rattle.std.specs.Prelude.{◌⊎◌}
use Rattle.m11_asm_faults.specs.declared.fault.AsmFault.{AsmFault}
use Rattle.m11_scan.specs.Line.{SourceLine}
use Rattle.m11_asm_lines.specs.declared.counting.Counting.{Counting}
use Rattle.m11_asm_passes.specs.Lines.{NumberedLine, PassLines, acted, counting_at, numbered, table_at}
use Rattle.m11_asm_passes.specs.Refusals.{given_by, line_fault}
use Rattle.m11_asm_rules.specs.Meanings.{Map}
use Rattle.m11_unfold_rules.specs.Acting.{act}
use Rattle.m11_unfold_rules.specs.Limits.{next_fault}
use Rattle.m11_unfold_rules.specs.Stages.{Stage}
use Rattle.m11_unfold_rules.specs.Taking.{Gives, Live, Move, Passes, NothingLeft, move}
use Rattle.m11_unfold_rules.specs.Unfolding.{UnfoldedLine}
use Rattle.m11_unfold_rules.specs.declared.fault.UnfoldFault.{UnfoldFault}
use Rattle.m11_asm_passes.specs.Beginnings.{BeginWith}
use Rattle.m11_asm_passes.specs.Ends.{EndsAfter, IsOver}
use Rattle.m11_asm_passes.proofs.Ending.{over_stops}
use Rattle.m11_asm_passes.proofs.Growing.{Grows, grown, grown_by, grows_read}
use Rattle.m11_asm_passes.proofs.Onward.{Onward, in_order, on_the_way, stays}
use Rattle.m11_asm_passes.proofs.Onward as onward
use Rattle.m11_asm_passes.proofs.Stepping.{At, LeadsTo, at, begin, ended_fits, ended_rests, moves_by, none_fits, none_rests, places, reached, reads, step, within}
use Rattle.m11_asm_passes.proofs.KnownAlike.{PlaceAlike, given_alike}

-- ---- a step

abbrev pub placed_at : Map → Live → Stage → At → At
placed_at map live after here = at here.source here.more
    (here.lines ++ numbered (length here.source) (given_by (table_at map here.lines) live after) ∷ [])
    (acted (table_at map here.lines) live after)

abbrev freely_by : Map → Move → At → Option At
freely_by map NothingLeft here = reads here.stage.has_ended here.more here
freely_by map (Passes after) here = Some (at here.source here.more here.lines after)
freely_by map (Gives live after) here = Some (placed_at map live after here)

abbrev freely_within : Map → Option UnfoldFault → At → Option At
freely_within map (Some fault) here = None
freely_within map None here = freely_by map (move here.stage) here

unfoldable pub freely : Map → At → Option At
freely map here = freely_within map (next_fault here.stage) here

freely_moved : (map : Map) (here : At) (next : Move) → next_fault here.stage ≡ None → move here.stage ≡ next
    → freely map here ≡ freely_by map next here
unfolding freely
freely_moved map here next fits moves =
    ap (λ (f : Option UnfoldFault). freely_within map f here) fits ∙ ap (λ (m : Move). freely_by map m here) moves

pub next_freely : (map : Map) (here : At) (live : Live) (after : Stage) → next_fault here.stage ≡ None
    → move here.stage ≡ Gives live after → freely map here ≡ Some (placed_at map live after here)
next_freely map here live after fits moves = freely_moved map here (Gives live after) fits moves

-- ---- a step of a pass is such a step

module _ (map : Map) (counting : Counting) where
  places_freely : (fault : Option AsmFault) (live : Live) (after : Stage) (here next : At)
      → places map counting fault live after here ≡ Some next → Some (placed_at map live after here) ≡ Some next
  places_freely (Some fault) live after here next goes = absurd (cc)
  places_freely None live after here next goes = goes

  moves_freely : (by : Move) (here next : At) → moves_by map counting by here ≡ Some next → freely_by map by here ≡ Some next
  moves_freely NothingLeft here next goes = goes
  moves_freely (Passes after) here next goes = goes
  moves_freely (Gives live after) here next goes =
      places_freely (line_fault map (table_at map here.lines) (counting_at map counting here.lines) live after) live after here next goes

  within_freely : (fault : Option UnfoldFault) (here next : At) → within map counting fault here ≡ Some next
      → freely_within map fault here ≡ Some next
  within_freely (Some fault) here next goes = goes
  within_freely None here next goes = moves_freely (move here.stage) here next goes

  pub is_freer : (here next : At) → step map counting here ≡ Some next → freely map here ≡ Some next
  unfolding step freely
  is_freer here next goes = within_freely (next_fault here.stage) here next goes

-- ---- the steps are the same under every map

module _ (alike : PlaceAlike) (one other : Map) where
  placed_alike : (live : Live) (after : Stage) (here : At) → placed_at one live after here ≡ placed_at other live after here
  placed_alike live after here =
      ap (λ (g : UnfoldedLine). at here.source here.more (here.lines ++ numbered (length here.source) g ∷ [])
      (act g.known after live.line.text).after) (given_alike alike one other here.lines live after)

  moved_alike : (by : Move) (here : At) → freely_by one by here ≡ freely_by other by here
  moved_alike NothingLeft here = refl
  moved_alike (Passes after) here = refl
  moved_alike (Gives live after) here = ap (λ (s : At). Some s) (placed_alike live after here)

  within_alike : (fault : Option UnfoldFault) (here : At) → freely_within one fault here ≡ freely_within other fault here
  within_alike (Some fault) here = refl
  within_alike None here = moved_alike (move here.stage) here

  freely_alike : (here : At) → freely one here ≡ freely other here
  unfolding freely
  freely_alike here = within_alike (next_fault here.stage) here

  pub goes_freely : (counting : Counting) (before after : At) → LeadsTo one counting before after → Onward At (freely other) before after
  goes_freely counting before _ onward.Onward.Stays = onward.Onward.Stays
  goes_freely counting before after (onward.Onward.Goes middle _ leads goes) =
      onward.Onward.Goes middle after (goes_freely counting before middle leads)
      (sym (freely_alike middle) ∙ is_freer one counting middle after goes)

-- ---- at the end of a pass, there is no step either

pub over_freely : (map : Map) (here : At) → IsOver here.more here.stage → freely map here ≡ None
over_freely map here (inl ended) =
    freely_moved map here NothingLeft (ended_fits here.stage ended) (ended_rests here.stage ended)
    ∙ ap (λ (b : Bool). reads b here.more here) ended
over_freely map here (inr (all, none, goes)) =
    freely_moved map here NothingLeft (none_fits here.stage none goes) (none_rests here.stage none goes)
    ∙ ap (λ (b : Bool). reads b here.more here) goes ∙ ap (λ (ls : List SourceLine). reads false ls here) all

-- ---- of two passes over prefixes of one source, the live lines of one begin with those of the other

module _ (map : Map) where
  grows_moved : (by : Move) (here : At) → Grows here (freely_by map by here)
  grows_moved NothingLeft here = grows_read here.stage.has_ended here.more here
  grows_moved (Passes after) here = ([], sym (append-nil here.lines))
  grows_moved (Gives live after) here = (numbered (length here.source) (given_by (table_at map here.lines) live after) ∷ [], refl)

  grows_within : (fault : Option UnfoldFault) (here : At) → Grows here (freely_within map fault here)
  grows_within (Some fault) here = tt
  grows_within None here = grows_moved (move here.stage) here

  grows_freely : (here : At) → Grows here (freely map here)
  unfolding freely
  grows_freely here = grows_within (next_fault here.stage) here

  follows : (here there : At) → Onward At (freely map) here there ⊎ Onward At (freely map) there here
      → BeginWith there.lines here.lines ⊎ BeginWith here.lines there.lines
  follows here there (inl on) = inl (grown_by (freely map) grows_freely here there on)
  follows here there (inr on) = inr (grown_by (freely map) grows_freely there here on)

pub go_on : PlaceAlike → (one other : Map) (counting others : Counting) (all source more read rest : List SourceLine)
    (first second : List NumberedLine) (stage after : Stage) → PassLines one counting source first stage
    → PassLines other others read second after → source ++ more ≡ all → read ++ rest ≡ all
    → BeginWith second first ⊎ BeginWith first second
go_on alike one other counting others all source more read rest first second stage after passes passes' whole whole' =
    let here : At = at source more first stage in
    let there : At = at read rest second after in
    follows one here there (in_order At (freely one) (begin all) here there
    (goes_freely alike one one counting (begin all) here (reached one counting all source more first stage passes whole))
    (goes_freely alike other one others (begin all) there (reached other others all read rest second after passes' whole')))

-- ---- a pass at its end has gone through each state of any other pass over the same lines

module _ (alike : PlaceAlike) (one other : Map) (counting others : Counting) (all source : List SourceLine) (lines : List NumberedLine)
    (stage : Stage) (end : EndsAfter one counting all source lines stage) where
  abbrev last : At
  last = at source end.more lines stage

  pub went_through : (here : At) → Onward At (freely one) (begin all) here → LeadsTo one counting here last
  went_through here leads =
      on_the_way At (step one counting) (freely one) (is_freer one counting) (begin all) last here (over_freely one last end.is_over)
      (reached one counting all source end.more lines stage end.lines_are end.whole) leads

  module _ (read rest : List SourceLine) (later : List NumberedLine) (after : Stage) (passes : PassLines other others read later after)
      (whole : read ++ rest ≡ all) where
    abbrev here : At
    here = at read rest later after

    pub came_by : LeadsTo one counting here last
    came_by =
        went_through here (goes_freely alike other one others (begin all) here (reached other others all read rest later after passes whole))

    pub begins_with : BeginWith lines later
    begins_with = grown one counting here last came_by

  pub ends_alike : (read : List SourceLine) (later : List NumberedLine) (after : Stage) → EndsAfter other others all read later after
      → (source ≡ read) × (lines ≡ later) × (stage ≡ after)
  ends_alike read later after ends =
      let there : At = at read ends.more later after in
      let same : last ≡ there
      = stays At (step one counting) there last (over_stops one counting there ends.is_over)
      (came_by read ends.more later after ends.lines_are ends.whole) in (
        ap (λ (a : At). a.source) same,
        ap (λ (a : At). a.lines) same,
        ap (λ (a : At). a.stage) same,
      )

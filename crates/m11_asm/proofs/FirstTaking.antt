-- The first pass on one line of the source: it defines each live line that follows from it and adds its facts.
use Rattle.std.proofs.Common.{◌≡◌, ◌∙◌, ◌<◌, ℕ, ◌+◌, Bool, true, false, List, [], ◌∷◌, ◌++◌, length, Option, None, Result, Ok, Err, IfOk, IfErr, IsErrAnd, refl, sym, ap, subst, inr}
use Rattle.std.proofs.lemmas.List.{map-append}
use Rattle.std.specs.Option.{option_or}
use Rattle.std.specs.Result.{result_err}
use Rattle.m11_asm_faults.specs.declared.fault.AsmFault.{AsmFault}
use Rattle.m11_asm_faults.specs.declared.fault.AsmFault.TheVariants.{TooMuchSource, NoMemory}
use Rattle.m11_scan.specs.Line.{SourceLine}
use Rattle.m11_scan.specs.Lines.{most_lines}
use Rattle.m11_unfold_rules.specs.Stages.{start}
use Rattle.m11_unfold_rules.specs.Unfolding.{UnfoldedLine}
use Rattle.m11_asm_rules.specs.Lines.{after_line}
use Rattle.m11_asm_rules.specs.Meanings.{Map, empty_map}
use Rattle.m11_asm_rules.specs.Placements.{after_lines, table_after}
use Rattle.m11_asm_rules.specs.Tables.{Table, first_table}
use Rattle.m11_asm_lines.specs.Counting.{none_used}
use Rattle.m11_asm_lines.specs.declared.counting.Counting.{Counting}
use Rattle.m11_asm_passes.specs.Lines.{NumberedLine, givens, numbered, table_at}
use Rattle.m11_asm_passes.specs.Placed.{IsLive, live_in}
use Rattle.m11_asm_passes.specs.Reaching.{PlacesLine, Reaches, Refused}
use Rattle.m11_asm_passes.specs.Refusals.{given_by}
use Rattle.m11_asm_passes.specs.States.{PassState, SourcePassState, PassAfter, fed}
use Rattle.m11_asm_passes.specs.Turns.{SaysLive, Turns}
use Rattle.m11_asm_passes.specs.declared.placed.LiveLine.{LiveLine}
use Rattle.m11_asm_passes.specs.declared.turns.Turn.{Turn}
use Rattle.m11_asm_passes.specs.declared.turns.Turn.TheVariants.{NeedLine, End, Line}
use Rattle.m11_asm.specs.Facts.{Facts, facts_of, no_facts, with_line}
use Rattle.m11_asm.specs.First.{AreFactsOf, FirstFails, FirstAfter, FirstState, FirstReadsLine, HasRoom, PlacesLeft, line_state}
use Rattle.m11_asm.specs.LinesDone.{LiveLinesDone, AllDone}
use Rattle.m11_asm.proofs.FactsFound.{finds_more}
use Rattle.m11_asm.proofs.Taking.{Feeds, SomeTaken, ends_all, number_so, places_line, read_more, refused_after, rests_all, stands_first, stands_more}

-- the contract of a call in a first pass
abbrev pub TurnsSo : Type 0
TurnsSo = (before : Counting) (source : List SourceLine) (lines : List NumberedLine) (old new : PassState)
    (live : LiveLine) (result : Result Turn AsmFault) → PassAfter empty_map before source lines old
    → Turns empty_map old new (live_in live) (SaysLive live) result
    → Reaches empty_map before source lines new (live_in live) (SaysLive live) result

-- ---- one more line

givens_more : (all : List NumberedLine) (one : NumberedLine) → givens (all ++ one ∷ []) ≡ givens all ++ one.given ∷ []
givens_more all one = map-append (λ (line : NumberedLine). line.given) all (one ∷ [])

tables_more : (table : Table) (all : List UnfoldedLine) (one : UnfoldedLine)
    → after_lines empty_map table (all ++ one ∷ []) ≡ after_line empty_map (after_lines empty_map table all) one
tables_more table [] one = refl
tables_more table (given ∷ all) one = tables_more (after_line empty_map table given) all one

table_more : (all : List NumberedLine) (one : NumberedLine)
    → table_at empty_map (all ++ one ∷ []) ≡ after_line empty_map (table_at empty_map all) one.given
table_more all one = ap (table_after empty_map) (givens_more all one) ∙ tables_more first_table (givens all) one.given

facts_more : (all : List NumberedLine) (one : NumberedLine)
    → facts_of (givens (all ++ one ∷ [])) ≡ with_line (table_at empty_map all) one.given (facts_of (givens all))
facts_more all one = ap facts_of (givens_more all one) ∙ finds_more (givens all) one.given

-- ---- one call

module _ (turn : TurnsSo) (source : List SourceLine) (old new : PassState) (live : LiveLine) (facts : Facts)
    (some : SomeTaken empty_map none_used (AreFactsOf facts) source old) where
  law : (lines : List NumberedLine) (result : Result Turn AsmFault) → PassAfter empty_map none_used source lines old
      → Turns empty_map old new (live_in live) (SaysLive live) result
      → Reaches empty_map none_used source lines new (live_in live) (SaysLive live) result
  law lines result stands turned = turn none_used source lines old new live result stands turned

  module _ (came : Turn) (turned : Turns empty_map old new (live_in live) (SaysLive live) (Ok came)) where
    -- the facts added for a live line are those of the line
    pub placed_more : came ≡ Line → (later : Facts) (table : Table) → table ≡ new.table
        → ((before : Table) (given : UnfoldedLine) → IsLive given live
        → table ≡ after_line empty_map before given → later ≡ with_line before given facts)
        → SomeTaken empty_map none_used (AreFactsOf later) source new
    placed_more is later table table_is notes =
        let here : PlacesLine empty_map none_used source some.0 new (live_in live) (SaysLive live) =
        places_line empty_map none_used source old new (live_in live) (SaysLive live) law (AreFactsOf facts) some came turned is in
        let one = numbered (length source) (given_by (table_at empty_map some.0) (live_in live) here.stage) in (
          some.0 ++ one ∷ [],
          record {
            stands = here.stands;
            done = notes (table_at empty_map some.0) one.given here.is_said
                (table_is ∙ here.stands.table ∙ table_more some.0 one)
                ∙ ap (with_line (table_at empty_map some.0) one.given) some.1.done
                ∙ sym (facts_more some.0 one);
          },
        )

    -- if memory is refused for the facts of a live line, the line itself exceeds no limit
    pub note_fails : came ≡ Line → (fault : AsmFault) → fault ≡ NoMemory → (later : Facts) (result : Result Bool AsmFault)
        → IsErrAnd result (λ f. f ≡ fault) → PlacesLeft source new later result
    note_fails is fault none later (Ok ended) said = absurd said
    note_fails is fault none later (Err other) said =
        let here : PlacesLine empty_map none_used source some.0 new (live_in live) (SaysLive live) =
        places_line empty_map none_used source old new (live_in live) (SaysLive live) law (AreFactsOf facts) some came turned is in
        let P : AsmFault → Type 0 = λ f. Refused empty_map none_used source some.0 f in
        (some.0, subst P (sym (said ∙ none)) here.may_lack)

    pub left_rests : came ≡ NeedLine → AllDone empty_map none_used (AreFactsOf facts) source new false
    left_rests is =
        rests_all empty_map none_used source old new (live_in live) (SaysLive live) law (AreFactsOf facts) some came turned is

    pub left_ends : came ≡ End → AllDone empty_map none_used (AreFactsOf facts) source new true
    left_ends is = ends_all empty_map none_used source old new (live_in live) (SaysLive live) law (AreFactsOf facts) some came turned is

  -- a fault that the pass returns is one with which the call may fail
  pub fails_all : (fault : AsmFault) (later : Facts) (result : Result Bool AsmFault) → Turns empty_map old new (live_in live) (SaysLive live) (Err fault)
      → IsErrAnd result (λ f. f ≡ fault) → PlacesLeft source new later result
  fails_all fault later (Ok ended) turned is = absurd is
  fails_all fault later (Err other) turned is =
      let P : AsmFault → Type 0 = λ f. Refused empty_map none_used source some.0 f in (
        some.0,
        subst P (sym is)
            (refused_after empty_map none_used source old new (live_in live) (SaysLive live) law (AreFactsOf facts) some fault turned),
      )

-- ---- a line of the source

-- before the first line, the pass is done with an empty source
pub begins : (pass_state : PassState) (counting : Counting) (facts : Facts) (fault : Option AsmFault)
    → ((map : Map) → PassAfter map counting [] [] pass_state) → counting ≡ none_used → pass_state.unfolder.stage ≡ start []
    → facts ≡ no_facts → fault ≡ None
    → FirstAfter [] (record { pass_state = pass_state; facts = facts; read = 0; has_ended = false; fault = fault })
begins pass_state counting facts fault stands none first untold goes =
    let P : Counting → Type 0 = λ g. PassAfter empty_map g [] [] pass_state in
    stands_first empty_map none_used (AreFactsOf facts) pass_state fault (subst P none (stands empty_map)) untold first goes

module _ (source : List SourceLine) (line : SourceLine) (pass : SourcePassState) (facts : Facts) (read : ℕ) (has_ended : Bool)
    (fault : Option AsmFault) (old : FirstState)
    (view_is : record { pass_state = pass.pass_state; facts = facts; read = read; has_ended = has_ended; fault = fault } ≡ old)
    (goes : has_ended ≡ false) (numbers : Result ℕ AsmFault) where
  goes_so : old.has_ended ≡ false
  goes_so = sym (ap (λ (s : FirstState). s.has_ended) view_is) ∙ goes

  -- if the next line has no number, since there are too many lines, the call may fail with that fault
  pub line_refused : (came : AsmFault) (new : FirstState) (result : Result (Unit {0}) AsmFault)
      → IfErr numbers (λ f. (f ≡ TooMuchSource) × (read ≡ most_lines)) → Err came ≡ numbers → IsErrAnd result (λ f. f ≡ came)
      → FirstReadsLine source line old new result
  line_refused came new (Ok done) refuses same is = absurd is
  line_refused came new (Err other) refuses same is =
      let R : Result ℕ AsmFault → Type 0 = λ r. IfErr r (λ f. (f ≡ TooMuchSource) × (read ≡ most_lines)) in
      let full : (came ≡ TooMuchSource) × (read ≡ most_lines) = subst R (sym same) refuses in
      let P : AsmFault → Type 0 = λ f. FirstFails (source ++ line ∷ []) old f in
      subst P (sym (is ∙ full.0)) (goes_so, sym (ap (λ (s : FirstState). s.read) view_is) ∙ full.1)

  module _ (feeds : Feeds) (fed_pass : SourcePassState) (fed_is : fed_pass ≡ record { pass_state = fed line pass.pass_state; fault = pass.fault })
      (number : ℕ) (counts : IfOk numbers (λ n. n ≡ read + 1)) (fits : IfOk numbers (λ n. read < most_lines))
      (number_is : Ok number ≡ numbers) (outcome : Result Bool AsmFault) (new_going : PassState) (new_facts : Facts)
      (takes : (source : List SourceLine) (lines : List NumberedLine) → LiveLinesDone empty_map none_used (AreFactsOf facts) source lines fed_pass.pass_state
      → PlacesLeft source new_going new_facts outcome)
      (stands : FirstAfter source old) where
    has_room : HasRoom old
    has_room =
        let R : Result ℕ AsmFault → Type 0 = λ r. IfOk r (λ n. read < most_lines) in
        let N : ℕ → Type 0 = λ n. n < most_lines in
        (goes_so, subst N (ap (λ (s : FirstState). s.read) view_is) (subst R (sym number_is) fits))

    abbrev state : FirstState
    state = record { pass_state = pass.pass_state; facts = facts; read = read; has_ended = has_ended; fault = fault }

    here : FirstAfter source state
    here = let S : FirstState → Type 0 = λ s. FirstAfter source s in subst S (sym view_is) stands

    left : PlacesLeft (source ++ line ∷ []) new_going new_facts outcome
    left =
        let G : PassState → Type 0 = λ g. LiveLinesDone empty_map none_used (AreFactsOf facts) (source ++ line ∷ []) here.lines g in
        takes (source ++ line ∷ []) here.lines (subst G (sym (ap (λ (p : SourcePassState). p.pass_state) fed_is))
        (read_more empty_map none_used (AreFactsOf facts) source line (line_state state) here feeds goes))

    fails_so : (stopped : AsmFault) → PlacesLeft (source ++ line ∷ []) new_going new_facts (Err stopped)
        → FirstFails (source ++ line ∷ []) old stopped
    fails_so TooMuchSource fails = absurd fails.1
    fails_so other fails = (has_room, fails.0, fails.1)

    pub line_fails : (came : AsmFault) (new : FirstState) (result : Result (Unit {0}) AsmFault) → Err came ≡ outcome
        → IsErrAnd result (λ f. f ≡ came) → FirstReadsLine source line old new result
    line_fails came new (Ok done) same is = absurd is
    line_fails came new (Err other) same is =
        let P : Result Bool AsmFault → Type 0 = λ r. PlacesLeft (source ++ line ∷ []) new_going new_facts r in
        let Q : AsmFault → Type 0 = λ f. FirstFails (source ++ line ∷ []) old f in
        subst Q (sym is) (fails_so came (subst P (sym same) left))

    pub line_takes : (ended : Bool) (kept before_fault : Option AsmFault) → Ok ended ≡ outcome
        → IfOk outcome (λ e. e ≡ false → new_going.unfolder.stage.left ≡ [])
        → kept ≡ option_or before_fault (result_err outcome) → before_fault ≡ None
        → FirstReadsLine source line old
        (record { pass_state = new_going; facts = new_facts; read = number; has_ended = ended; fault = kept }) (Ok tt)
    line_takes ended kept before_fault same needs kept_is none =
        let P : Result Bool AsmFault → Type 0 = λ r. PlacesLeft (source ++ line ∷ []) new_going new_facts r in
        inr (
          has_room,
          stands_more empty_map none_used (AreFactsOf facts) source line (line_state state) here (AreFactsOf new_facts) new_going number ended
              outcome kept before_fault
              (number_so empty_map none_used (AreFactsOf facts) source line (line_state state) here numbers number counts number_is) same
              (subst P (sym same) left) needs kept_is none,
        )

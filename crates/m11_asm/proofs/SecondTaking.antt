-- The second pass on one line of the source: it places and writes the live lines that follow from it, one by one.
use Rattle.std.proofs.Common.{◌≡◌, ℕ, Bool, true, false, List, [], ◌∷◌, ◌++◌, length, Result, Ok, Err, IsErrAnd, sym, subst}
use Rattle.m11_asm_faults.specs.declared.fault.AsmFault.{AsmFault}
use Rattle.m11_asm_faults.specs.declared.fault.AsmFault.TheVariants as fault
use Rattle.m11_asm_outputs.specs.Outputs.{Gains, Stops, assembly}
use Rattle.m11_base_writes.specs.Outputs.{Outputs, Write}
use Rattle.m11_scan.specs.Line.{SourceLine}
use Rattle.m11_obj.specs.declared.pieces.PieceContent.{PieceContent}
use Rattle.m11_asm_passes.specs.Lines.{NumberedLine, numbered, table_at}
use Rattle.m11_asm_passes.specs.Placed.{IsPlaced, live_in}
use Rattle.m11_asm_passes.specs.Reaching.{PlacesLine, Reaches, Refused}
use Rattle.m11_asm_passes.specs.Refusals.{given_by}
use Rattle.m11_asm_passes.specs.States.{PassState, PassAfter}
use Rattle.m11_asm_passes.specs.Turns.{SaysPlaced, Turns}
use Rattle.m11_asm_passes.specs.declared.placed.PlacedLine.{PlacedLine}
use Rattle.m11_asm_passes.specs.declared.turns.Turn.{Turn}
use Rattle.m11_asm_passes.specs.declared.turns.Turn.TheVariants.{NeedLine, End, Line}
use Rattle.m11_asm_rules.specs.Contents.{Emission}
use Rattle.m11_asm_rules.specs.Meanings.{Map}
use Rattle.m11_asm_lines.specs.declared.counting.Counting.{Counting}
use Rattle.m11_base_writes.proofs.Writing.{gains_then, stops_after}
use Rattle.m11_asm.specs.Program.{Program}
use Rattle.m11_asm.specs.Second as second
use Rattle.m11_asm.specs.Second.{SecondFails, PlacesLeft, Wrote}
use Rattle.m11_asm.specs.LinesDone.{AllDone}
use Rattle.m11_asm.specs.Writing.{Writing, WritingAfter}
use Rattle.m11_asm.specs.Written.{head_before, line_writes, written}
use Rattle.m11_asm.proofs.LinesWritten.{next_writes, written_more}
use Rattle.m11_asm.proofs.Taking.{SomeTaken, ends_all, places_line, refused_after, rests_all}
use Rattle.m11_asm_lines.specs.declared.counting.Counting.TheVariants.{Definitions}

-- the contract of a call in a second pass
abbrev pub TurnsSo : Type 0
TurnsSo = (map : Map) (before : Counting) (source : List SourceLine) (lines : List NumberedLine) (old new : PassState)
    (placed : PlacedLine) (result : Result Turn AsmFault) → PassAfter map before source lines old
    → Turns map old new (live_in placed.live) (SaysPlaced map placed new.emission) result
    → Reaches map before source lines new (live_in placed.live) (SaysPlaced map placed new.emission) result

module _ (turn : TurnsSo) (program : Program) (source : List SourceLine) (first now : Outputs) (old new : PassState) (placed : PlacedLine)
    (writing : Writing) (some : SomeTaken program.map Definitions (Wrote program first now writing) source old) (map_ : Map)
    (same : map_ ≡ program.map) where
  law : (lines : List NumberedLine) (result : Result Turn AsmFault) → PassAfter program.map Definitions source lines old
      → Turns program.map old new (live_in placed.live) (SaysPlaced program.map placed new.emission) result
      → Reaches program.map Definitions source lines new (live_in placed.live) (SaysPlaced program.map placed new.emission) result
  law lines result stands turned = turn program.map Definitions source lines old new placed result stands turned

  turned_so : (result : Result Turn AsmFault) → Turns map_ old new (live_in placed.live) (SaysPlaced map_ placed new.emission) result
      → Turns program.map old new (live_in placed.live) (SaysPlaced program.map placed new.emission) result
  turned_so result turned =
      let P : Map → Type 0 = λ m. Turns m old new (live_in placed.live) (SaysPlaced m placed new.emission) result in subst P same turned

  module _ (came : Turn) (turned : Turns map_ old new (live_in placed.live) (SaysPlaced map_ placed new.emission) (Ok came)) where
    pub left_rests : came ≡ NeedLine → AllDone program.map Definitions (Wrote program first now writing) source new false
    left_rests is =
        rests_all program.map Definitions source old new (live_in placed.live) (SaysPlaced program.map placed new.emission) law
        (Wrote program first now writing) some came (turned_so (Ok came) turned) is

    pub left_ends : came ≡ End → AllDone program.map Definitions (Wrote program first now writing) source new true
    left_ends is =
        ends_all program.map Definitions source old new (live_in placed.live) (SaysPlaced program.map placed new.emission) law
        (Wrote program first now writing) some came (turned_so (Ok came) turned) is

    module _ (is : came ≡ Line) where
      here : PlacesLine program.map Definitions source some.0 new (live_in placed.live) (SaysPlaced program.map placed new.emission)
      here =
          places_line program.map Definitions source old new (live_in placed.live) (SaysPlaced program.map placed new.emission) law
          (Wrote program first now writing) some came (turned_so (Ok came) turned) is

      one : NumberedLine
      one = numbered (length source) (given_by (table_at program.map some.0) (live_in placed.live) here.stage)

      module _ (number : ℕ) (number_is : number ≡ length source) (contents : List PieceContent) (contents_are : contents ≡ new.emission.contents)
          (later : Outputs) (writing' : Writing) where
        pub placed_more : ((one : NumberedLine) (emission : Emission)
            → WritingAfter program some.0 writing → IsPlaced program.map (table_at program.map some.0) one.given placed emission
            → emission.contents ≡ contents → number ≡ one.number
            → Gains now later (head_before program some.0 ++ line_writes program some.0 one))
            → ((one : NumberedLine) (emission : Emission)
            → WritingAfter program some.0 writing → IsPlaced program.map (table_at program.map some.0) one.given placed emission
            → emission.contents ≡ contents → number ≡ one.number → WritingAfter program (some.0 ++ one ∷ []) writing')
            → SomeTaken program.map Definitions (Wrote program first later writing') source new
        unfolding here one
        placed_more writes keeps = (
          some.0 ++ one ∷ [],
          record {
            stands = here.stands;
            done = record {
              keeps = keeps one new.emission some.1.done.keeps here.is_said (sym contents_are) number_is;
              gains = subst (λ (ws : List Write). Gains first later ws) (sym (written_more program some.0 one))
                  (gains_then assembly first now later (written program some.0) (next_writes program some.0 one) some.1.done.gains
                  (writes one new.emission some.1.done.keeps here.is_said (sym contents_are) number_is));
            };
          },
        )

        -- if the writes of the next line end early, so do those of all lines up to that one
        stops_more : (stopped : AsmFault) → Stops now later (next_writes program some.0 one) stopped
            → Stops first later (written program (some.0 ++ one ∷ [])) stopped
        stops_more stopped stops =
            subst (λ (ws : List Write). Stops first later ws stopped) (sym (written_more program some.0 one))
            (stops_after assembly first now later (written program some.0) (next_writes program some.0 one) stopped some.1.done.gains stops)

        stops_so : (stopped : AsmFault) → Stops first later (written program (some.0 ++ one ∷ [])) stopped
            → SecondFails program source first later stopped
        unfolding here one
        stops_so (fault.Write output) stops =
            record { lines = some.0 ++ one ∷ []; stage = new.unfolder.stage; live = here.stands.lines_are; stops = stops }
        stops_so fault.NoMemory stops =
            second.StopsForMemory.InLine some.0 one new.unfolder.stage here.may_lack here.stands.lines_are stops
        stops_so other stops = absurd stops

        pub stops_there : (stopped : AsmFault) (result : Result Bool AsmFault)
            → ((one : NumberedLine) (emission : Emission)
            → WritingAfter program some.0 writing → IsPlaced program.map (table_at program.map some.0) one.given placed emission
            → emission.contents ≡ contents → number ≡ one.number
            → Stops now later (head_before program some.0 ++ line_writes program some.0 one) stopped)
            → IsErrAnd result (λ f. f ≡ stopped) → PlacesLeft program source first later new writing' result
        unfolding here one
        stops_there stopped (Ok ended) writes is = absurd is
        stops_there stopped (Err other) writes is =
            let P : AsmFault → Type 0 = λ f. SecondFails program source first later f in
            subst P (sym is)
            (stops_so stopped (stops_more stopped (writes one new.emission some.1.done.keeps here.is_said (sym contents_are) number_is)))

  -- the source exceeds a limit, or memory is refused
  module _ (limit : AsmFault) (turned : Turns map_ old new (live_in placed.live) (SaysPlaced map_ placed new.emission) (Err limit)) where
    refused : Refused program.map Definitions source some.0 limit
    refused =
        refused_after program.map Definitions source old new (live_in placed.live) (SaysPlaced program.map placed new.emission) law
        (Wrote program first now writing) some limit (turned_so (Err limit) turned)

    fails_so : (stopped : AsmFault) → Refused program.map Definitions source some.0 stopped
        → SecondFails program source first now stopped
    fails_so fault.NoMemory r = second.StopsForMemory.BeforeLine some.0 r some.1.done.gains
    fails_so fault.Read r = absurd r
    fails_so (fault.Write output) r = absurd r
    fails_so fault.TooMuchSource r = absurd r
    fails_so other r = record { lines = some.0; exceeds = r; gains = some.1.done.gains }

    -- if that fault is returned, the call fails as `PlacesLeft` says
    pub fails_all : (later : Writing) (result : Result Bool AsmFault) → IsErrAnd result (λ f. f ≡ limit)
        → PlacesLeft program source first now new later result
    fails_all later (Ok ended) is = absurd is
    fails_all later (Err stopped) is =
        let P : AsmFault → Type 0 = λ f. SecondFails program source first now f in subst P (sym is) (fails_so limit refused)

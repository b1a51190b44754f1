-- The live lines of a pass are those of the unfolding of the whole source.
use Rattle.std.proofs.Common.{◌≡◌, ◌∙◌, List, [], ◌∷◌, ◌++◌, append_assoc, append-nil, length, map, Option, Some, None, inl, inr, refl, sym, ap, subst}
use Rattle.std.specs.Option.{option_or}
use Rattle.std.proofs.lemmas.List.{map-append}
use Rattle.std.specs.Prelude.{option_map}
use Rattle.m11_asm_faults.specs.Faults.{of_unfolding}
use Rattle.m11_scan_expressions.specs.Expressions.{KnownSymbols}
use Rattle.m11_asm_faults.specs.declared.fault.AsmFault.{AsmFault}
use Rattle.m11_unfold_bodies.specs.Left.{RemainingItem}
use Rattle.m11_scan.specs.Line.{SourceLine}
use Rattle.m11_asm_lines.specs.Counting.{with_counted}
use Rattle.m11_asm_passes.specs.Lines.{NumberedLine, PassLines, acted, counting_after, counting_at, givens, numbered, table_at, with_line}
use Rattle.m11_asm_passes.specs.Lines as lines
use Rattle.m11_asm_passes.specs.Refusals.{given_by, labels_fault, line_fault, placing_fault}
use Rattle.m11_asm_rules.specs.Labels.{after_labels_in}
use Rattle.m11_asm_rules.specs.Lines.{after_line, stands}
use Rattle.m11_asm_rules.specs.Meanings.{Map}
use Rattle.m11_asm_rules.specs.SymbolUses.{symbol_uses}
use Rattle.m11_asm_rules.specs.Placements.{after_lines, table_after}
use Rattle.m11_asm_rules.specs.Tables.{Table, first_table}
use Rattle.m11_asm_rules.specs.Unfolded.{AreLines, KnowLinesBefore, known_after_labels}
use Rattle.m11_unfold_rules.proofs.Following.{follows}
use Rattle.m11_unfold_rules.proofs.MoreLines.{leads_on}
use Rattle.m11_unfold_rules.specs.Acting.{act_fault}
use Rattle.m11_unfold_rules.specs.Histories.{IsKnownBy, with_more}
use Rattle.m11_unfold_rules.specs.Limits.{next_fault}
use Rattle.m11_unfold_rules.specs.Stages.{Stage, line_left, start}
use Rattle.m11_unfold_rules.specs.Taking.{Gives, Live, NothingLeft, move}
use Rattle.m11_unfold_rules.specs.Unfolding.{UnfoldedLine, Leads}
use Rattle.m11_unfold_rules.specs.Unfolding as steps
use Rattle.m11_unfold_rules.specs.declared.fault.UnfoldFault.{UnfoldFault}
use Rattle.m11_asm_passes.proofs.Stepping.{ended_rests, none_rests}
use Rattle.m11_asm_passes.specs.Ends.{EndsAfter, IsOver}
use Rattle.m11_asm_outcome_laws.specs.AllLines.{AreAllLines, AreWithinLimits}
use Rattle.m11_asm_lines.specs.declared.counting.Counting.{Counting}

-- ---- a line that exceeds no limit

pub first_none : (first second : Option AsmFault) → option_or first second ≡ None → first ≡ None
first_none None second is = refl
first_none (Some fault) second is = absurd (let bad : Some fault ≡ None = is in cc)

pub second_none : (first second : Option AsmFault) → option_or first second ≡ None → second ≡ None
second_none None second is = is
second_none (Some fault) second is = absurd (let bad : Some fault ≡ None = is in cc)

not_refused : (fault : Option UnfoldFault) → option_map of_unfolding fault ≡ None → fault ≡ None
not_refused None is = refl
not_refused (Some fault) is = absurd (let bad = is in cc)

pub acts_within : (map_ : Map) (table : Table) (counting : Counting) (live : Live) (after : Stage)
    → line_fault map_ table counting live after ≡ None → act_fault after live.line.text ≡ None
acts_within map_ table counting live after within =
    let acting : Option AsmFault = option_map of_unfolding (act_fault after live.line.text) in
    let placing : Option AsmFault = placing_fault map_ table counting (given_by table live after) in
    not_refused (act_fault after live.line.text)
    (first_none acting placing (second_none (labels_fault counting table live.line.text) (option_or acting placing) within))

-- ---- what is known at lines

pub know_more : (map_ : Map) (table : Table) (done : List UnfoldedLine) (one : UnfoldedLine) → KnowLinesBefore map_ table done
    → one.known ≡ known_after_labels (stands (after_lines map_ table done) one) → KnowLinesBefore map_ table (done ++ one ∷ [])
know_more map_ table [] one are_told is = (is, tt)
know_more map_ table (given ∷ done) one are_told is =
    (are_told.0, know_more map_ (after_line map_ table given) done one are_told.1 is)

-- what is known at a live line, from the lines before it
pub tells : Map → List UnfoldedLine → Live → KnownSymbols
tells map_ earlier live = known_after_labels (after_labels_in (table_after map_ earlier) live.line.text)

pub told_from : (map_ : Map) (table : Table) (done : List UnfoldedLine) → KnowLinesBefore map_ table done
    → (earlier later : List UnfoldedLine) (one : UnfoldedLine) → done ≡ earlier ++ one ∷ later
    → one.known ≡ known_after_labels (stands (after_lines map_ table earlier) one)
told_from map_ table [] are_told [] later one is = absurd (let bad = is in cc)
told_from map_ table [] are_told (first ∷ earlier) later one is = absurd (let bad = is in cc)
told_from map_ table (given ∷ done) are_told [] later one is =
    let same : given ≡ one = cc in
    let P : UnfoldedLine → Type 0 = λ g. g.known ≡ known_after_labels (stands table g) in
    subst P same are_told.0
told_from map_ table (given ∷ done) are_told (first ∷ earlier) later one is =
    let same : given ≡ first = cc in
    let rest : done ≡ earlier ++ one ∷ later = cc in
    let P : UnfoldedLine → Type 0 = λ g. one.known ≡ known_after_labels (stands (after_lines map_ (after_line map_ table g) earlier) one) in
    subst P same (told_from map_ (after_line map_ table given) done are_told.1 earlier later one rest)

pub known_by : (map_ : Map) (done : List UnfoldedLine) → KnowLinesBefore map_ first_table done → IsKnownBy (tells map_) done
unfolding tells
known_by map_ done are_told earlier later one is = told_from map_ first_table done are_told earlier later one is

-- ---- the lines of a pass

module _ (map_ : Map) (counting : Counting) where
  -- if a stage is reached with a line and further lines unread, then it is also reached with the line read and only the further lines
  -- unread
  read : (source more : List SourceLine) (done : List UnfoldedLine) (stage : Stage) (line : SourceLine) → stage.left ≡ []
      → Leads (start (source ++ line ∷ more)) done (with_more (line ∷ more) stage)
      → Leads (start ((source ++ line ∷ []) ++ more)) done (with_more more (with_line line stage))
  read source more done stage line none leads =
      let P : List RemainingItem → Type 0 = λ l. Leads (start (source ++ line ∷ more)) done
      (record stage { left = l ++ map line_left (line ∷ more) }) in
      let Q : List SourceLine → Type 0 = λ s. Leads (start s) done (with_more more (with_line line stage)) in
      subst Q (sym (append_assoc source (line ∷ []) more)) (subst P none leads)

  -- moves by which no line becomes live leave the live lines of the whole source as they are
  passed : (source more : List SourceLine) (done : List UnfoldedLine) (before after : Stage) → Leads before [] after
      → Leads (start (source ++ more)) done (with_more more before) → Leads (start (source ++ more)) done (with_more more after)
  passed source more done before after moves leads =
      let P : List UnfoldedLine → Type 0 = λ ds. Leads (start (source ++ more)) ds (with_more more after) in
      subst P (append-nil done) (follows (start (source ++ more)) (with_more more before) (with_more more after) done [] leads
      (leads_on more before after [] moves))

  -- if a line becomes live and exceeds no limit, it is the next live line of the whole source
  placed : (source more : List SourceLine) (placed_lines : List NumberedLine) (before after : Stage) (live : Live)
      → next_fault before ≡ None → move before ≡ Gives live after
      → line_fault map_ (table_at map_ placed_lines) (counting_at map_ counting placed_lines) live after ≡ None
      → AreLines map_ (source ++ more) (givens placed_lines) (with_more more before)
      → AreLines map_ (source ++ more) (givens placed_lines ++ given_by (table_at map_ placed_lines) live after ∷ [])
      (with_more more (acted (table_at map_ placed_lines) live after))
  placed source more placed_lines before after live fits moves within are =
      let one : UnfoldedLine = given_by (table_at map_ placed_lines) live after in
      let next : Stage = acted (table_at map_ placed_lines) live after in
      let here : Leads before (one ∷ []) next = steps.Leads.Giving [] before after live one.known steps.Leads.Stays fits moves
      (acts_within map_ (table_at map_ placed_lines) (counting_at map_ counting placed_lines) live after within) in (
        follows (start (source ++ more)) (with_more more before) (with_more more next) (givens placed_lines) (one ∷ []) are.0
            (leads_on more before next (one ∷ []) here),
        know_more map_ first_table (givens placed_lines) one are.1 refl,
      )

  pub so_far : (source more : List SourceLine) (placed_lines : List NumberedLine) (stage : Stage)
      → PassLines map_ counting source placed_lines stage → AreLines map_ (source ++ more) (givens placed_lines) (with_more more stage)
  so_far _ more _ _ lines.PassLines.Begins = (steps.Leads.Stays, tt)
  so_far _ more placed_lines _ (lines.PassLines.Reading source _ stage line before none goes) =
      let here = so_far source (line ∷ more) placed_lines stage before in
      (read source more (givens placed_lines) stage line none here.0, here.1)
  so_far source more placed_lines after (lines.PassLines.Passing _ _ stage _ before moves) =
      let here = so_far source more placed_lines stage before in
      (passed source more (givens placed_lines) stage after moves here.0, here.1)
  so_far source more _ _ (lines.PassLines.Placing _ placed_lines stage after live before fits moves within) =
      let here = so_far source more placed_lines stage before in
      let one : NumberedLine = numbered (length source) (given_by (table_at map_ placed_lines) live after) in
      let P : List UnfoldedLine → Type 0 = λ ds. AreLines map_ (source ++ more) ds (with_more more (acted (table_at map_ placed_lines) live after)) in
      subst P (sym (map-append (λ (line : NumberedLine). line.given) placed_lines (one ∷ []))) (placed source more placed_lines stage after live fits moves within here)

  -- ---- a pass that ends

  pub no_more : (stage : Stage) (more : List SourceLine) → IsOver more stage → move (with_more more stage) ≡ NothingLeft
  no_more stage more (inl ended) = ended_rests (with_more more stage) ended
  no_more stage more (inr (all, none, goes)) =
      none_rests (with_more more stage) (ap (λ (l : List RemainingItem). l ++ map line_left more) none ∙ ap (map line_left) all) goes

  pub all_lines : (all source : List SourceLine) (placed_lines : List NumberedLine) (stage : Stage)
      (end : EndsAfter map_ counting all source placed_lines stage)
      → AreAllLines map_ all (givens placed_lines) (with_more end.more stage)
  all_lines all source placed_lines stage end =
      let P : List SourceLine → Type 0 = λ s. AreLines map_ s (givens placed_lines) (with_more end.more stage) in record {
        are = subst P end.whole (so_far source end.more placed_lines stage end.lines_are);
        rests = no_more stage end.more end.is_over;
      }

-- ---- limits

kept_more : (map_ : Map) (table : Table) (counting : Counting) (done : List UnfoldedLine) (one : UnfoldedLine)
    → AreWithinLimits map_ table counting done
    → labels_fault (counting_after map_ table done counting) (after_lines map_ table done) one.live.line.text ≡ None
    → placing_fault map_ (after_lines map_ table done) (counting_after map_ table done counting) one ≡ None
    → AreWithinLimits map_ table counting (done ++ one ∷ [])
kept_more map_ table counting [] one kept labels placing = (labels, placing, tt)
kept_more map_ table counting (given ∷ done) one kept labels placing =
    (kept.0, kept.1, kept_more map_ (after_line map_ table given) (with_counted (symbol_uses table given) counting) done one kept.2 labels placing)

pub kept_at : (map_ : Map) (table : Table) (counting : Counting) (done more : List UnfoldedLine) (one : UnfoldedLine)
    → AreWithinLimits map_ table counting (done ++ one ∷ more)
    → (labels_fault (counting_after map_ table done counting) (after_lines map_ table done) one.live.line.text ≡ None)
    × (placing_fault map_ (after_lines map_ table done) (counting_after map_ table done counting) one ≡ None)
kept_at map_ table counting [] more one kept = (kept.0, kept.1)
kept_at map_ table counting (given ∷ done) more one kept =
    kept_at map_ (after_line map_ table given) (with_counted (symbol_uses table given) counting) done more one kept.2

module _ (map_ : Map) (counting : Counting) where
  pub keeps : (source : List SourceLine) (placed_lines : List NumberedLine) (stage : Stage)
      → PassLines map_ counting source placed_lines stage → AreWithinLimits map_ first_table counting (givens placed_lines)
  keeps _ _ _ lines.PassLines.Begins = tt
  keeps _ placed_lines _ (lines.PassLines.Reading source _ stage line before none goes) = keeps source placed_lines stage before
  keeps source placed_lines _ (lines.PassLines.Passing _ _ stage _ before moves) = keeps source placed_lines stage before
  keeps source _ _ (lines.PassLines.Placing _ placed_lines stage after live before fits moves within) =
      let table : Table = table_at map_ placed_lines in
      let named : Counting = counting_at map_ counting placed_lines in
      let one : NumberedLine = numbered (length source) (given_by table live after) in
      let acting : Option AsmFault = option_map of_unfolding (act_fault after live.line.text) in
      let placing : Option AsmFault = placing_fault map_ table named one.given in
      let labels : Option AsmFault = labels_fault named table live.line.text in
      let P : List UnfoldedLine → Type 0 = AreWithinLimits map_ first_table counting in
      subst P (sym (map-append (λ (line : NumberedLine). line.given) placed_lines (one ∷ [])))
      (kept_more map_ first_table counting (givens placed_lines) one.given (keeps source placed_lines stage before)
      (first_none labels (option_or acting placing) within)
      (second_none acting placing (second_none labels (option_or acting placing) within)))

-- A live line is placed as its definition says, or refused at its first limit.
use Rattle.std.proofs.Common.{◌≡◌, ◌∙◌, ◌<◌, ◌≤◌, ℕ, [], length, Option, None, Result, Ok, Err, IsErrAnd, refl, sym, ap, subst}
use Rattle.std.specs.Prelude.{false, true}
use Rattle.std.specs.Int.RustNames.{bit_or}
use Rattle.std.specs.Option.{option_to_list}
use Rattle.m11_scan_expressions.specs.Remarks.{Remarks}
use Rattle.m11_scan_expressions.specs.Expressions.{known_by}
use Rattle.m11_asm_faults.specs.declared.fault.AsmFault.{AsmFault}
use Rattle.m11_asm_faults.specs.declared.fault.AsmFault.TheVariants.{TooManySymbols, TooManySections, NoMemory}
use Rattle.m11_base.specs.Devices.{Bytes}
use Rattle.m11_scan.specs.Views.{bits_of}
use Rattle.m11_scan_statements.specs.Labels.{labels_at, labels_end}
use Rattle.m11_scan_statements.specs.Statements.{body_of, label_flags}
use Rattle.m11_scan_statements.specs.declared.bodies.Body.{Body}
use Rattle.m11_scan_statements.specs.declared.statements.Statement.{Statement}
use Rattle.m11_unfold.specs.Unfolder.{Acts, UnfolderState}
use Rattle.m11_unfold.specs.declared.steps.Act.{Act as Acting}
use Rattle.m11_unfold_rules.specs.Stages.{Stage, start}
use Rattle.m11_unfold_rules.specs.Taking.{Live}
use Rattle.m11_unfold_rules.specs.Unfolding.{UnfoldedLine}
use Rattle.m11_unfold_rules.specs.declared.fault.UnfoldFault.{UnfoldFault}
use Rattle.m11_asm_rules.specs.Changes.{changed}
use Rattle.m11_asm_rules.specs.Contents.{Emission}
use Rattle.m11_asm_rules.specs.Labels.{labels_flags}
use Rattle.m11_asm_rules.specs.Limits.{has_too_many, local_count, most_defined_names, most_local_symbols, most_names, most_sections, name_count}
use Rattle.m11_asm_rules.specs.Items.{action_items, is_shown}
use Rattle.m11_asm_rules.specs.Actions as actions
use Rattle.m11_asm_rules.specs.Operations.{action, operation}
use Rattle.m11_asm_rules.specs.Lines.{after_line, change_of, emission_by, line_emission, put_location, stands}
use Rattle.m11_asm_rules.specs.Meanings.{Map, empty_map, value_of_symbol}
use Rattle.m11_asm_rules.specs.declared.meanings.Context.TheVariants.{LocalOnly}
use Rattle.m11_asm_rules.specs.Tables.{Table, firm_table, first_table, location, section_name}
use Rattle.m11_asm_rules.specs.Unfolded.{known_after_labels}
use Rattle.m11_asm_rules.specs.Changes.{changed}
use Rattle.m11_asm_rules.specs.SymbolUses.{symbol_uses}
use Rattle.m11_asm_lines.specs.Lines.{flags_from}
use Rattle.m11_asm_lines.specs.Counting.{names_counted, with_counted}
use Rattle.m11_asm_lines.specs.declared.counting.Counting.{Counting}
use Rattle.m11_asm_lines.specs.Moved.{moved_flags}
use Rattle.m11_asm_lines.specs.declared.actions.Operation.{Operation}
use Rattle.m11_asm_rules.specs.Asking.{FirmContext, firm_asked}
use Rattle.m11_asm_passes.proofs.Placing.{Act, IsActOf, after_so, counting_so, defined_refused, line_fits, operation_so, put_so, remarks_so, sections_refused, shown_so, stage_so, uses_refused}
use Rattle.m11_asm_lines.proofs.Room.{few_of_both}
use Rattle.m11_asm_lines.specs.Actions.{action_in, after_action, operation_model, selects}
use Rattle.m11_asm_passes.specs.Begun.{Begins, Finishes, States}
use Rattle.m11_asm_passes.proofs.Lacking.{foreign_silent, selects_none}
use Rattle.m11_asm_passes.specs.Faults.{FailsAtLine, LacksMemory}
use Rattle.m11_asm_passes.specs.Faults as faults
use Rattle.m11_asm_lines.specs.Faults.{Overfills, Refuses}
use Rattle.m11_asm_passes.specs.Lines.{PassLines}
use Rattle.m11_asm_passes.specs.Lines as lines
use Rattle.m11_asm_passes.specs.Operated.{uses_after}
use Rattle.m11_asm_passes.specs.Placed.{live_in}
use Rattle.m11_asm_passes.specs.Refusals.{given_by}
use Rattle.m11_asm_passes.specs.States.{PassState, GoesOnUntil, PassAfter}
use Rattle.m11_asm_passes.specs.Turns.{Places, LineFact, SaysLive, SaysPlaced}
use Rattle.m11_asm_passes.specs.declared.begun.LabelledLine.{LabelledLine}
use Rattle.m11_asm_listing.specs.declared.items.Item.{Item}
use Rattle.m11_asm_passes.specs.declared.placed.LiveLine.{LiveLine}
use Rattle.m11_asm_passes.specs.declared.placed.PlacedLine.{PlacedLine}

-- ---- a new pass

module _ (unfolder : UnfolderState) (table : Table) (counting before : Counting)
    (is_fresh : unfolder ≡ record { stage = start []; has_statement = false; fault = None })
    (first : table ≡ first_table) (same : counting ≡ before) where
  pub new_goes_on : (fault : Option AsmFault) → fault ≡ None → GoesOnUntil fault unfolder.fault
  new_goes_on fault none =
      let G : UnfolderState → Type 0 = λ u. u.fault ≡ None in
      let P : Option AsmFault → Type 0 = λ f. GoesOnUntil f unfolder.fault in
      subst P (sym none) (subst G (sym is_fresh) refl)

  pub new_stands : (emission : Emission) (map_ : Map)
      → PassAfter map_ before [] [] (record { unfolder = unfolder; table = table; counting = counting; emission = emission })
  new_stands emission map_ =
      let L : UnfolderState → Type 0 = λ u. PassLines map_ before [] [] u.stage in
      record { lines_are = subst L (sym is_fresh) lines.PassLines.Begins; table = first; counting = same }

-- ---- what unfolding can ask

pub acts_told : (names : FirmContext) (table : Table) (at : ℕ) (text : Bytes) (before after : Stage) (result : Result Acting UnfoldFault)
    → names ≡ firm_asked table at → at ≡ location table
    → Acts (known_by names.table.modes.radix (value_of_symbol empty_map LocalOnly (firm_table names.table) names.location)) text before after result
    → Acts (known_after_labels table) text before after result
acts_told names table at text before after result is there acts =
    let P : FirmContext → Type 0 = λ n.
    Acts (known_by n.table.modes.radix (value_of_symbol empty_map LocalOnly (firm_table n.table) n.location)) text before after result in
    let Q : ℕ → Type 0 = λ p.
    Acts (known_by table.modes.radix (value_of_symbol empty_map LocalOnly (firm_table table) p)) text before after result in
    subst Q there (subst P is acts)

-- ---- one line

module _ (map_ : Map) (live : Live) (old middle : PassState) (does : Operation) (begun : LabelledLine)
    (begins : Begins map_ live old middle does begun) where
  abbrev text : Bytes
  text = live.line.text

  abbrev before : Stage
  before = old.unfolder.stage

  abbrev stood : Table
  stood = middle.table

  abbrev line : UnfoldedLine
  line = given_by old.table live before

  abbrev of : actions.Action
  of = action_in text does

  abbrev done : Act
  done = record { is_own = begun.act.is_own; remarks = begun.act.remarks; arguments = begun.act.arguments }

  acts : IsActOf (known_after_labels stood) text before middle.unfolder.stage done
  acts = record {
    fits = begins.acts.0;
    stage_is = begins.acts.1;
    own_is = begins.acts.2;
    remarks_are = begins.acts.3;
    arguments_are = begins.acts.4;
  }

  same_operation : operation_model text does ≡ operation line.is_own line.arguments text
  same_operation =
      begins.operation_is ∙ operation_so map_ old.table live before middle.unfolder.stage done stood old.counting begins.labels.table acts

  of_done : of ≡ action done.is_own done.arguments text
  of_done = ap (λ (o : actions.Operation). o.action) begins.operation_is

  own : of ≡ action line.is_own line.arguments text
  own = ap (λ (o : actions.Operation). o.action) same_operation

  -- the names counted with the uses of the line are those that its definition counts
  all_so : (all : Counting) → all ≡ with_counted (uses_after stood text done.remarks of) middle.counting
      → all ≡ with_counted (symbol_uses old.table line) old.counting
  all_so all all_are =
      all_are
      ∙ ap (λ (d : actions.Action). with_counted (uses_after stood text done.remarks d) middle.counting) of_done
      ∙ ap (with_counted (uses_after stood text done.remarks (action done.is_own done.arguments text))) begins.named
      ∙ counting_so map_ old.table live before middle.unfolder.stage done stood old.counting begins.labels.table acts

  -- the table after the action of the line is the one that its definition has
  table_so : after_action map_ text of stood ≡ after_line map_ old.table line
  table_so =
      ap (λ (d : actions.Action). changed map_ (change_of (firm_table stood) text d) stood) of_done
      ∙ after_so map_ old.table live before middle.unfolder.stage done stood old.counting begins.labels.table acts

  -- memory is refused for what a line uses or emits, if that isn't a selection of a section
  lacks : selects of ≡ false → LacksMemory map_ old.table old.counting live before
  lacks none =
      faults.LacksMemory.AtOperands begins.labels.fits begins.acts.0 (ap (λ (d : actions.Action). selects d) (sym own) ∙ none)

  -- nothing is selected, if that is so where unfolding has read no symbols
  selects_no_more : (done.remarks.symbols ≡ [] → selects of ≡ false) → selects of ≡ false
  selects_no_more none =
      let S : actions.Action → Type 0 = λ d. done.remarks.symbols ≡ [] → selects d ≡ false in
      ap (λ (d : actions.Action). selects d) of_done
      ∙ selects_none done.is_own done.remarks done.arguments text
      (λ foreign. acts.remarks_are ∙ foreign_silent (known_after_labels stood) before text (sym acts.own_is ∙ foreign)) (subst S of_done none)

  -- if memory is refused for what the line emits, the line fails for lack of memory
  pub emit_fails : (fault : AsmFault) → Refuses fault ⊥ ⊥ → selects of ≡ false
      → FailsAtLine map_ old.table old.counting live before fault
  emit_fails NoMemory refuses none = lacks none
  emit_fails other refuses none = absurd refuses

  -- if the uses of the line are refused, the line fails with the same fault
  pub use_fails : (fault : AsmFault)
      → Refuses fault (most_names < length (names_counted (with_counted (uses_after stood text done.remarks of) middle.counting))) ⊥
      → (done.remarks.symbols ≡ [] → selects of ≡ false)
      → FailsAtLine map_ old.table old.counting live before fault
  use_fails TooManySymbols many none =
      let P : Counting → Type 0 = λ g. most_names < length (names_counted g) in
      uses_refused map_ old.table live before middle.unfolder.stage done stood old.counting begins.labels.table acts begins.labels.fits
      (subst P (all_so _ refl) many)
  use_fails NoMemory many none = lacks (selects_no_more none)
  use_fails other many none = absurd many

  module _ (all : Counting) (all_are : all ≡ with_counted (uses_after stood text done.remarks of) middle.counting)
      (few : length (names_counted all) ≤ most_names) (defined : name_count stood ≤ most_defined_names)
      (symbols : local_count stood ≤ most_local_symbols) (within : length stood.sections ≤ most_sections) where
    few_used : length (names_counted (with_counted (symbol_uses old.table line) old.counting)) ≤ most_names
    few_used = let P : Counting → Type 0 = λ g. length (names_counted g) ≤ most_names in subst P (all_so all all_are) few

    -- if the line defines a name or a local symbol too many, or selects a section too many, it fails with the fault of that limit
    pub change_fails : (fault : AsmFault) → Overfills fault (after_action map_ text of stood)
        → FailsAtLine map_ old.table old.counting live before fault
    change_fails TooManySymbols many =
        let P : Table → Type 0 = λ t. has_too_many t ≡ true in
        defined_refused map_ old.table live before middle.unfolder.stage done stood old.counting begins.labels.table acts begins.labels.fits
        (subst P table_so many)
    change_fails TooManySections many =
        let P : Table → Type 0 = λ t. most_sections < length t.sections in
        let S : Table → Type 0 = λ t. length t.sections ≤ most_sections in
        let R : Table → Type 0 = λ t. has_too_many t ≡ false in
        sections_refused map_ old.table live before middle.unfolder.stage done stood old.counting begins.labels.table acts begins.labels.fits
        few_used (subst R begins.labels.table (few_of_both stood defined symbols)) (subst S begins.labels.table within)
        (subst P table_so many)
    change_fails NoMemory few =
        let R : Table → Type 0 = λ t. has_too_many t ≡ false in
        let S : Table → Type 0 = λ t. length t.sections ≤ most_sections in
        faults.LacksMemory.AfterLimits
        (line_fits map_ old.table live before middle.unfolder.stage done stood old.counting begins.labels.table acts begins.labels.fits few_used
        (subst R table_so few.0) (subst S table_so few.1))
    change_fails other many = absurd many

    -- if the line is changed and counted within the limits, the pass is in the state after the line
    pub finishes : (new : PassState) → new.unfolder ≡ middle.unfolder → new.counting ≡ all → (item : Option Item)
        → new.table ≡ after_action map_ text of stood
        → option_to_list item ≡ action_items map_ stood of
        → name_count new.table ≤ most_defined_names → local_count new.table ≤ most_local_symbols → length new.table.sections ≤ most_sections
        → Finishes map_ live before old new (Ok item)
    finishes new unfolder_is counting_is item changes shows names fewer sections =
        let table : new.table ≡ after_line map_ old.table line = changes ∙ table_so in
        let R : Table → Type 0 = λ t. has_too_many t ≡ false in
        let S : Table → Type 0 = λ t. length t.sections ≤ most_sections in (
          record {
            fits = line_fits map_ old.table live before middle.unfolder.stage done stood old.counting begins.labels.table acts
                begins.labels.fits few_used (subst R table (few_of_both new.table names fewer)) (subst S table sections);
            stage_is = ap (λ (u : UnfolderState). u.stage) unfolder_is
                ∙ stage_so map_ old.table live before middle.unfolder.stage done stood old.counting begins.labels.table acts;
            table = table;
            counting = counting_is ∙ all_so all all_are;
          },
          shows
              ∙ ap (action_items map_ stood) of_done
              ∙ shown_so map_ old.table live before middle.unfolder.stage done stood old.counting begins.labels.table acts,
        )

  -- ---- the line is placed

  pub placed_so : (statement : Statement) → States live statement
      → (new : PassState) (placed : PlacedLine) → live_in placed.live ≡ live → placed.live.operation ≡ does
      → new.emission ≡ emission_by map_ stood text of
      → placed.section ≡ section_name stood → placed.location ≡ put_location stood of → placed.counter ≡ location stood
      → placed.is_shown ≡ is_shown new.table.modes placed.live.is_expanded
      → bits_of placed.flags ≡ bit_or (flags_from text statement.labels_end statement.body
      (bits_of statement.label_flags) (bits_of begun.found.doubly_defined) (bits_of placed.live.operation.flags) new.emission.flags
      done.remarks.flags) (bits_of begun.found.moved)
      → Finishes map_ live before old new (Ok placed.assigned)
      → Places map_ live before old new (SaysPlaced map_ placed new.emission) (Ok tt)
  placed_so statement states new placed same action_so_far put_is section_is location_is counter_is shown_is flags_are finished =
      let put : new.emission ≡ line_emission map_ (stands old.table line) line
      = put_is ∙ ap (emission_by map_ stood text) of_done
      ∙ put_so map_ old.table live before middle.unfolder.stage done stood old.counting begins.labels.table acts in
      let remarks : done.remarks ≡ line.remarks
      = remarks_so map_ old.table live before middle.unfolder.stage done stood old.counting begins.labels.table acts in
      let stand : stood ≡ stands old.table line = begins.labels.table in
      record {
        leaves = finished.0;
        is_said = record {
          is_live = record { live_is = same; action_is = ap (λ (o : Operation). action_in text o) action_so_far ∙ own };
          flags_are = flags_are
              ∙ ap (λ (n : ℕ). bit_or (flags_from text n statement.body (bits_of statement.label_flags)
              (bits_of begun.found.doubly_defined) (bits_of placed.live.operation.flags) new.emission.flags done.remarks.flags)
              (bits_of begun.found.moved)) states.labels_end_is
              ∙ ap (λ (b : Body). bit_or (flags_from text (labels_end text) b (bits_of statement.label_flags)
              (bits_of begun.found.doubly_defined) (bits_of placed.live.operation.flags) new.emission.flags done.remarks.flags)
              (bits_of begun.found.moved)) states.body_is
              ∙ ap (λ (n : ℕ). bit_or (flags_from text (labels_end text) (body_of text) n
              (bits_of begun.found.doubly_defined) (bits_of placed.live.operation.flags) new.emission.flags done.remarks.flags)
              (bits_of begun.found.moved)) states.flags_are
              ∙ ap (λ (n : ℕ). bit_or (flags_from text (labels_end text) (body_of text) (label_flags live.line)
              (bits_of begun.found.doubly_defined) (bits_of placed.live.operation.flags) new.emission.flags done.remarks.flags) n)
              begins.labels.are.moves
              ∙ ap (λ (n : ℕ). bit_or n (moved_flags map_ text old.table (labels_at text)))
              (ap (λ (n : ℕ). flags_from text (labels_end text) (body_of text) (label_flags live.line)
              n (bits_of placed.live.operation.flags) new.emission.flags done.remarks.flags) begins.labels.are.doubles
              ∙ ap (λ (n : ℕ). flags_from text (labels_end text) (body_of text) (label_flags live.line)
              (labels_flags text old.table (labels_at text)) n new.emission.flags done.remarks.flags)
              (ap (λ (o : Operation). bits_of o.flags) action_so_far ∙ ap (λ (o : actions.Operation). o.flags) same_operation)
              ∙ ap (λ (p : Emission). flags_from text (labels_end text) (body_of text) (label_flags live.line)
              (labels_flags text old.table (labels_at text)) (operation line.is_own line.arguments text).flags p.flags done.remarks.flags) put
              ∙ ap (λ (n : Remarks). flags_from text (labels_end text) (body_of text) (label_flags live.line)
              (labels_flags text old.table (labels_at text)) (operation line.is_own line.arguments text).flags
              (line_emission map_ (stands old.table line) line).flags n.flags) remarks);
          section_is = section_is ∙ ap (λ (t : Table). section_name t) stand;
          location_is = location_is ∙ ap (λ (t : Table). put_location t of) stand ∙ ap (put_location (stands old.table line)) own;
          contents_are = ap (λ (p : Emission). p.contents) put;
          counter_is = counter_is ∙ ap (λ (t : Table). location t) stand;
          assigned_is = finished.1;
          shown_is = shown_is
              ∙ ap (λ (t : Table). is_shown t.modes placed.live.is_expanded) finished.0.table
              ∙ ap (λ (l : Live). is_shown (after_line map_ old.table line).modes l.is_expanded) same;
        };
      }

  -- ---- the line is defined

  pub defined_so : (new : PassState) (live_line : LiveLine) (item : Option Item) → live_in live_line ≡ live → live_line.operation ≡ does
      → Finishes map_ live before old new (Ok item)
      → Places map_ live before old new (SaysLive live_line) (Ok tt)
  defined_so new live_line item same action_so_far finished = record {
    leaves = finished.0;
    is_said = record { live_is = same; action_is = ap (λ (o : Operation). action_in text o) action_so_far ∙ own };
  }

-- the first half of handling a line says nothing about what the pass has emitted
pub begins_still : (map_ : Map) (live : Live) (old middle : PassState) (does : Operation) (begun : LabelledLine) (emission : Emission)
    → Begins map_ live old middle does begun → Begins map_ live old (record middle { emission = emission }) does begun
begins_still map_ live old middle does begun emission begins = record {
  labels = begins.labels;
  named = begins.named;
  acts = begins.acts;
  operation_is = begins.operation_is;
  is_read = begins.is_read;
}

-- ---- a refusal is returned

pub places_fails : (map_ : Map) (live : Live) (stage : Stage) (old new : PassState) (fault : AsmFault) (said : LineFact)
    (result : Result (Unit {0}) AsmFault) → FailsAtLine map_ old.table old.counting live stage fault
    → IsErrAnd result (λ f. f ≡ fault) → Places map_ live stage old new said result
places_fails map_ live stage old new fault said (Ok _) fails is = absurd is
places_fails map_ live stage old new fault said (Err other) fails is =
    let P : AsmFault → Type 0 = λ f. FailsAtLine map_ old.table old.counting live stage f in
    subst P (sym is) fails

pub finish_fails : (map_ : Map) (live : Live) (stage : Stage) (old new : PassState) (fault : AsmFault)
    (result : Result (Option Item) AsmFault) → FailsAtLine map_ old.table old.counting live stage fault
    → IsErrAnd result (λ f. f ≡ fault) → Finishes map_ live stage old new result
finish_fails map_ live stage old new fault (Ok _) fails is = absurd is
finish_fails map_ live stage old new fault (Err other) fails is =
    let P : AsmFault → Type 0 = λ f. FailsAtLine map_ old.table old.counting live stage f in
    subst P (sym is) fails

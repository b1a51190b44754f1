-- A blank line changes nothing and exceeds no limit.
use Rattle.std.proofs.Common.{◌≡◌, ◌∙◌, ◌≤◌, ℕ, ◌||◌, Bool, false, if◌then◌else◌, List, [], ◌++◌, length, map, Option, Some, None, Ok, refl, sym, ap}
use Rattle.std.specs.Prelude.{nat_lt}
use Rattle.std.specs.Int.Bits.{or_zero_r}
use Rattle.std.specs.Int.RustNames.{bit_or}
use Rattle.std.specs.List.{flat_map}
use Rattle.std.specs.Option.{option_to_list}
use Rattle.m11_unfold_rules.specs.Directives.{operator_in}
use Rattle.m11_scan_expressions.specs.LeftOvers.{rest_flags, skip_flags}
use Rattle.m11_asm_faults.specs.declared.fault.AsmFault.TheVariants.{TooManySymbols}
use Rattle.m11_base.specs.Devices.{Bytes}
use Rattle.m11_asm_listing.specs.declared.items.Item.{Item}
use Rattle.m11_scan.specs.Views.{bits_of}
use Rattle.m11_scan_statements.specs.Labels.{end_of, labels_at, labels_end}
use Rattle.m11_scan_statements.specs.Statements.{body_of, label_flags}
use Rattle.m11_scan_statements.specs.declared.bodies.Body.{Body}
use Rattle.m11_scan_statements.specs.declared.labels.Label.{Label}
use Rattle.m11_unfold_rules.specs.Acting.{Acted, Foreign, act, act_fault, acted_by, foreign, operation}
use Rattle.m11_unfold_rules.specs.Stages.{Stage}
use Rattle.m11_unfold_rules.specs.Taking.{Live}
use Rattle.m11_unfold_rules.specs.Unfolding.{UnfoldedLine}
use Rattle.m11_unfold_rules.proofs.Cases.{fault_by, operation_in}
use Rattle.m11_asm_rules.specs.Changes.{Change, Keeps, changed}
use Rattle.m11_asm_rules.specs.Contents.{Emission, nothing}
use Rattle.m11_asm_rules.specs.Items.{action_items, is_shown}
use Rattle.m11_asm_rules.specs.Labels.{labels_flags, with_labels}
use Rattle.m11_asm_rules.specs.Limits.{has_too_many, limit_fault, local_count, most_defined_names, most_local_symbols, most_names, most_sections, name_count}
use Rattle.m11_asm_rules.specs.Actions.{NoAction, Operation, does}
use Rattle.m11_asm_rules.specs.Operations as operations
use Rattle.m11_asm_rules.specs.Operations.{action, operation_of}
use Rattle.m11_asm_rules.specs.Lines.{after_line, change_of, known_end, line_change, line_emission, emission_by, put_location, stands}
use Rattle.m11_asm_rules.specs.Meanings.{Map}
use Rattle.m11_asm_rules.specs.declared.meanings.Context.TheVariants.{LocalOnly}
use Rattle.m11_asm_rules.specs.SymbolUses.{SymbolUse, action_uses, label_uses, symbol_use, symbol_uses}
use Rattle.m11_asm_rules.specs.Tables.{Table, firm_table, location, section_name}
use Rattle.m11_asm_lines.specs.Actions.{action_model}
use Rattle.m11_asm_lines.proofs.Room.{few_of_both}
use Rattle.m11_asm_lines.specs.Counting.{names_counted, with_counted}
use Rattle.m11_asm_lines.specs.declared.counting.Counting.{Counting}
use Rattle.m11_asm_lines.specs.declared.counting.Counting.TheVariants.{SymbolUses, Definitions}
use Rattle.m11_asm_lines.specs.Moved.{moved_flags}
use Rattle.m11_asm_lines.specs.declared.actions.Action.TheVariants as code
use Rattle.m11_asm_passes.proofs.Placing.{fits_limits, within}
use Rattle.m11_asm_passes.specs.Blank.{IsBlank}
use Rattle.m11_asm_passes.specs.Lines.{acted}
use Rattle.m11_asm_passes.specs.Placed.{IsLive, IsPlaced, all_flags, live_in}
use Rattle.m11_asm_passes.specs.Refusals.{given_by, labels_fault, line_fault, of_limit}
use Rattle.m11_asm_passes.specs.States.{PassState}
use Rattle.m11_asm_passes.specs.Turns.{Places, LineFact}
use Rattle.m11_asm_passes.specs.declared.placed.LiveLine.{LiveLine}
use Rattle.m11_asm_passes.specs.declared.placed.PlacedLine.{PlacedLine}

counts_none : (counting : Counting) → with_counted [] counting ≡ counting
counts_none (SymbolUses used_names) = refl
counts_none Definitions = refl

module _ (live : Live) (stage : Stage) (blank : IsBlank live.line.text) (table : Table) where
  abbrev text : Bytes
  text = live.line.text

  abbrev line : UnfoldedLine
  line = given_by table live stage

  -- ---- its effect

  stands_so : stands table line ≡ table
  stands_so = ap (with_labels text table) blank.unlabelled

  foreign_so : operation stage.conditions stage.macros text ≡ Foreign
  foreign_so = ap (λ (b : Body). operation_in stage.conditions stage.macros text (operator_in b)) blank.bodiless

  acts_so : act line.known stage text ≡ foreign stage
  acts_so = ap (acted_by line.known text stage) foreign_so

  stage_so : stage ≡ acted table live stage
  stage_so = sym (ap (λ (a : Acted). a.after) acts_so)

  pub operation_so : operations.operation line.is_own line.arguments text ≡ does NoAction 0
  operation_so =
      ap (λ (a : Acted). operations.operation a.is_own line.arguments text) acts_so
      ∙ ap (operation_of line.arguments text) blank.bodiless

  pub action_so : action line.is_own line.arguments text ≡ NoAction
  action_so = ap (λ (o : Operation). o.action) operation_so

  change_so : line_change (firm_table (stands table line)) line ≡ Keeps
  unfolding line_change
  change_so = ap (change_of (firm_table (stands table line)) text) action_so

  after_so : (map_ : Map) → after_line map_ table line ≡ table
  after_so map_ = ap (λ (c : Change). changed map_ c (stands table line)) change_so ∙ stands_so

  put_so : (map_ : Map) → line_emission map_ (stands table line) line ≡ nothing 0
  unfolding line_emission
  put_so map_ = ap (emission_by map_ (stands table line) text) action_so

  uses_so : symbol_uses table line ≡ []
  uses_so =
      ap (λ (ls : List Label). flat_map (label_uses text) ls
      ++ map (symbol_use LocalOnly) line.remarks.symbols ++ action_uses (stands table line) text (action line.is_own line.arguments text))
      blank.unlabelled
      ∙ ap (λ (a : Acted). map (symbol_use LocalOnly) a.remarks.symbols
      ++ action_uses (stands table line) text (action line.is_own line.arguments text)) acts_so
      ∙ ap (action_uses (stands table line) text) action_so

  counting_so : (counting : Counting) → counting ≡ with_counted (symbol_uses table line) counting
  counting_so counting = sym (ap (λ (ms : List SymbolUse). with_counted ms counting) uses_so ∙ counts_none counting)

  -- ---- limits

  labels_fit : (counting : Counting) → length (names_counted counting) ≤ most_names → has_too_many table ≡ false
      → labels_fault counting table text ≡ None
  labels_fit counting few room =
      ap (λ (ls : List Label).
      if nat_lt most_names (length (names_counted (with_counted (flat_map (label_uses text) ls) counting)))
      || has_too_many (with_labels text table ls) then Some TooManySymbols else None) blank.unlabelled
      ∙ ap (λ (c : Counting). if nat_lt most_names (length (names_counted c)) || has_too_many table then Some TooManySymbols else None)
      (counts_none counting)
      ∙ ap (λ (b : Bool). if b || has_too_many table then Some TooManySymbols else None)
      (within most_names (length (names_counted counting)) few)
      ∙ ap (λ (b : Bool). if b then Some TooManySymbols else None) room

  act_fits : act_fault stage text ≡ None
  act_fits = ap (fault_by stage) foreign_so

  line_fits : (map_ : Map) (counting : Counting) → length (names_counted counting) ≤ most_names → has_too_many table ≡ false
      → length table.sections ≤ most_sections → line_fault map_ table counting live stage ≡ None
  line_fits map_ counting few room sections =
      rw (labels_fit counting few room, act_fits)
      (ap (λ (ms : List SymbolUse). of_limit (limit_fault (names_counted (with_counted ms counting)) (after_line map_ table line))) uses_so
      ∙ ap (λ (c : Counting). of_limit (limit_fault (names_counted c) (after_line map_ table line))) (counts_none counting)
      ∙ ap (λ (t : Table). of_limit (limit_fault (names_counted counting) t)) (after_so map_)
      ∙ ap of_limit (fits_limits (names_counted counting) table few room sections))

  -- ---- flags

  flags_so : (map_ : Map) → all_flags map_ table line ≡ bit_or (label_flags live.line) (rest_flags text 0)
  flags_so map_ =
      ap (λ (p : Emission). bit_or (bit_or (bit_or (label_flags live.line) (labels_flags text table (labels_at text)))
      (bit_or (skip_flags text (labels_end text) (known_end text (body_of text)))
      (bit_or (operations.operation line.is_own line.arguments text).flags
      (bit_or p.flags line.remarks.flags)))) (moved_flags map_ text table (labels_at text))) (put_so map_)
      ∙ ap (λ (o : Operation). bit_or (bit_or (bit_or (label_flags live.line) (labels_flags text table (labels_at text)))
      (bit_or (skip_flags text (labels_end text) (known_end text (body_of text))) (bit_or o.flags
      (bit_or 0 line.remarks.flags)))) (moved_flags map_ text table (labels_at text))) operation_so
      ∙ ap (λ (a : Acted). bit_or (bit_or (bit_or (label_flags live.line) (labels_flags text table (labels_at text)))
      (bit_or (skip_flags text (labels_end text) (known_end text (body_of text))) (bit_or 0
      (bit_or 0 a.remarks.flags)))) (moved_flags map_ text table (labels_at text))) acts_so
      ∙ ap (λ (b : Body). bit_or (bit_or (bit_or (label_flags live.line) (labels_flags text table (labels_at text)))
      (bit_or (skip_flags text (labels_end text) (known_end text b)) (bit_or 0
      (bit_or 0 0)))) (moved_flags map_ text table (labels_at text))) blank.bodiless
      ∙ ap (λ (ls : List Label). bit_or (bit_or (bit_or (label_flags live.line) (labels_flags text table ls))
      (bit_or (skip_flags text (end_of 0 ls) (length text)) (bit_or 0 (bit_or 0 0)))) (moved_flags map_ text table ls)) blank.unlabelled
      ∙ or_zero_r (bit_or (bit_or (label_flags live.line) 0) (bit_or (rest_flags text 0) (bit_or 0 (bit_or 0 0))))
      ∙ ap (λ (n : ℕ). bit_or n (bit_or (rest_flags text 0) (bit_or 0 (bit_or 0 0)))) (or_zero_r (label_flags live.line))
      ∙ ap (λ (n : ℕ). bit_or (label_flags live.line) (bit_or (rest_flags text 0) (bit_or 0 n))) (or_zero_r 0)
      ∙ ap (λ (n : ℕ). bit_or (label_flags live.line) (bit_or (rest_flags text 0) n)) (or_zero_r 0)
      ∙ ap (bit_or (label_flags live.line)) (or_zero_r (rest_flags text 0))

  -- ---- the line is placed

  pub live_so : (here : LiveLine) → live_in here ≡ live → here.operation.action ≡ code.NoAction → IsLive line here
  live_so here same rests = record { live_is = same; action_is = ap (action_model text here.operation.arguments) rests ∙ sym action_so }

  pub placed_so : (map_ : Map) (placed : PlacedLine) (emission : Emission) → live_in placed.live ≡ live
      → placed.live.operation.action ≡ code.NoAction → emission ≡ nothing 0
      → bits_of placed.flags ≡ bit_or (label_flags live.line) (rest_flags text 0)
      → placed.section ≡ section_name table → placed.location ≡ location table → placed.counter ≡ location table
      → placed.assigned ≡ None → placed.is_shown ≡ is_shown table.modes live.is_expanded
      → IsPlaced map_ table line placed emission
  placed_so map_ placed emission same rests put_is flags_are section_is location_is counter_is assigned_is shown_is = record {
    is_live = live_so placed.live same rests;
    flags_are = flags_are ∙ sym (flags_so map_);
    section_is = section_is ∙ ap section_name (sym stands_so);
    location_is = location_is ∙ ap location (sym stands_so) ∙ ap (put_location (stands table line)) (sym action_so);
    contents_are = ap (λ (p : Emission). p.contents) (put_is ∙ sym (put_so map_));
    counter_is = counter_is ∙ ap location (sym stands_so);
    assigned_is = ap (λ (item : Option Item). option_to_list item) assigned_is
        ∙ sym (ap (action_items map_ (stands table line)) action_so);
    shown_is = shown_is ∙ ap (λ (t : Table). is_shown t.modes live.is_expanded) (sym (after_so map_));
  }

-- ---- the pass after the line

module _ (live : Live) (old : PassState) (blank : IsBlank live.line.text) (defined : name_count old.table ≤ most_defined_names)
    (symbols : local_count old.table ≤ most_local_symbols) (sections : length old.table.sections ≤ most_sections)
    (names : length (names_counted old.counting) ≤ most_names) where
  pub blank_places : (map_ : Map) (emission : Emission) (said : LineFact) → said old.table (given_by old.table live old.unfolder.stage)
      → Places map_ live old.unfolder.stage old (record old { emission = emission }) said (Ok tt)
  blank_places map_ emission said says = record {
    leaves = record {
      fits = line_fits live old.unfolder.stage blank old.table map_ old.counting names (few_of_both old.table defined symbols) sections;
      stage_is = stage_so live old.unfolder.stage blank old.table;
      table = sym (after_so live old.unfolder.stage blank old.table map_);
      counting = counting_so live old.unfolder.stage blank old.table old.counting;
    };
    is_said = says;
  }

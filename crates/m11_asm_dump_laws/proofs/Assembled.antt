-- A line without labels, whose operator or assignment has no flag, assembles to what that emits.
use Rattle.std.proofs.Common.{◌≡◌, ◌∙◌, ℕ, Bool, false, List, [], ◌∷◌, Option, None, ap, ap₂}
use Rattle.std.specs.Prelude.{if◌then◌else◌}
use Rattle.std.specs.Int.Bits.{or_zero_l}
use Rattle.std.specs.Int.RustNames.{bit_or}
use Rattle.m11_base.specs.Devices.{Bytes}
use Rattle.m11_obj.specs.declared.pieces.PieceContent.{PieceContent}
use Rattle.m11_scan.specs.ErrorFlags.{flag_A, flag_I, flag_L, flag_if}
use Rattle.m11_scan.specs.Skipped.{skipped_between}
use Rattle.m11_scan_expressions.specs.LeftOvers.{skip_flags}
use Rattle.m11_scan_expressions.specs.Quantities.{Quantity}
use Rattle.m11_scan_statements.specs.Labels.{end_of, labels_at}
use Rattle.m11_scan_statements.specs.Statements.{body_of, has_outside}
use Rattle.m11_scan_statements.specs.declared.bodies.Body.{Body}
use Rattle.m11_scan_statements.specs.declared.bodies.Body.TheVariants as bodies
use Rattle.m11_scan_statements.specs.declared.labels.Label.{Label}
use Rattle.m11_unfold_rules.specs.Unfolding.{UnfoldedLine}
use Rattle.m11_asm_rules.specs.Actions.{Action, NoAction, Operation, does}
use Rattle.m11_asm_rules.specs.Changes.{Change, Counts, changed}
use Rattle.m11_asm_rules.specs.Contents.{Emission, contents_size, emission, pieces_from}
use Rattle.m11_asm_rules.specs.Labels.{labels_flags, with_labels}
use Rattle.m11_asm_rules.specs.Lines.{after_line, change_of, emission_by, flags, known_end, line_change, line_emission, pieces, put_location, stands}
use Rattle.m11_asm_rules.specs.Locations.{Steps}
use Rattle.m11_asm_rules.specs.Meanings.{Map}
use Rattle.m11_asm_rules.specs.Operations.{operation, operation_of}
use Rattle.m11_asm_rules.specs.Sources.{line_transfer, transfer_by}
use Rattle.m11_asm_rules.specs.Tables.{Table, firm_table, location, section_name}
use Rattle.m11_asm_dump_laws.specs.Lines.{Assembles}
use Rattle.m11_asm_dump_laws.proofs.Terms.{first_tab_kept, nothing_skipped}

-- after a tab comes the operator, which ends at this column
abbrev pub operator_ending : ℕ → Body
operator_ending end = bodies.Operate (record { start = 1; end = end })

-- a line emits these contents and makes this change, has no flag but those of unfolding, and sets this transfer address, or none
pub record YieldsAll (map_ : Map) (table : Table) (given : UnfoldedLine) (contents : List PieceContent) (change : Change)
    (address : Option Quantity) : Type 0 where
  pub pieces : pieces map_ table given ≡ pieces_from (section_name table) (location table) contents
  pub flags : flags map_ table given ≡ given.remarks.flags
  pub after : after_line map_ table given ≡ changed map_ change table
  pub transfer : line_transfer map_ table given ≡ address

abbrev pub Yields : Map → Table → UnfoldedLine → List PieceContent → Change → Type 0
Yields map_ table given contents change = YieldsAll map_ table given contents change None

module _ (map_ : Map) (table : Table) (given : UnfoldedLine) (whole : given.live.line.is_over_long ≡ false) (own : given.is_own ≡ false)
    (written : Body) (act : Action) (contents : List PieceContent) (change : Change)
    (unlabelled : labels_at given.live.line.text ≡ []) (body : body_of given.live.line.text ≡ written)
    (acts : operation_of given.arguments given.live.line.text written ≡ does act 0)
    (kept : skip_flags given.live.line.text 0 (known_end given.live.line.text written) ≡ 0)
    (emits : emission_by map_ table given.live.line.text act ≡ emission contents 0)
    (place : put_location table act ≡ location table)
    (counts : change_of (firm_table table) given.live.line.text act ≡ change) where
  abbrev line : Bytes
  line = given.live.line.text

  operation_is : operation given.is_own given.arguments line ≡ does act 0
  operation_is =
      ap (λ b. if b then does NoAction 0 else operation_of given.arguments line (body_of line)) own
      ∙ ap (operation_of given.arguments line) body ∙ acts

  stands_is : stands table given ≡ table
  stands_is = ap (with_labels line table) unlabelled

  emission_is : line_emission map_ table given ≡ emission contents 0
  unfolding line_emission
  emission_is = ap (λ o. emission_by map_ table line o.action) operation_is ∙ emits

  pieces_are : pieces map_ table given ≡ pieces_from (section_name table) (location table) contents
  pieces_are =
      ap (λ t. pieces_from (section_name t) (put_location t (operation given.is_own given.arguments line).action)
      (line_emission map_ t given).contents) stands_is
      ∙ ap (λ o. pieces_from (section_name table) (put_location table o.action) (line_emission map_ table given).contents) operation_is
      ∙ ap₂ (λ l m. pieces_from (section_name table) l m.contents) place emission_is

  abbrev flags_by : Bool → List Label → Body → Operation → Emission → Bool → ℕ
  flags_by is_over_long labels statement what emitted skips =
      bit_or (bit_or (bit_or (bit_or (flag_if is_over_long flag_L) (flag_if (has_outside labels) flag_A)) (flag_if skips flag_I))
      (labels_flags line table labels))
      (bit_or (skip_flags line (end_of 0 labels) (known_end line statement)) (bit_or what.flags (bit_or emitted.flags given.remarks.flags)))

  flags_are : flags map_ table given ≡ given.remarks.flags
  flags_are =
      ap (λ t. bit_or
      (bit_or (bit_or (bit_or (flag_if given.live.line.is_over_long flag_L) (flag_if (has_outside (labels_at line)) flag_A))
      (flag_if (skipped_between line 0 (end_of 0 (labels_at line))) flag_I)) (labels_flags line table (labels_at line)))
      (bit_or (skip_flags line (end_of 0 (labels_at line)) (known_end line (body_of line)))
      (bit_or (operation given.is_own given.arguments line).flags (bit_or (line_emission map_ t given).flags given.remarks.flags))))
      stands_is
      ∙ ap (λ e. flags_by given.live.line.is_over_long (labels_at line) (body_of line) (operation given.is_own given.arguments line) e
      (skipped_between line 0 (end_of 0 (labels_at line)))) emission_is
      ∙ ap (λ o. flags_by given.live.line.is_over_long (labels_at line) (body_of line) o (emission contents 0)
      (skipped_between line 0 (end_of 0 (labels_at line)))) operation_is
      ∙ ap (λ b. flags_by given.live.line.is_over_long (labels_at line) b (does act 0) (emission contents 0)
      (skipped_between line 0 (end_of 0 (labels_at line)))) body
      ∙ ap (λ ls. flags_by given.live.line.is_over_long ls written (does act 0) (emission contents 0)
      (skipped_between line 0 (end_of 0 ls))) unlabelled
      ∙ ap₂ (λ b s. flags_by b [] written (does act 0) (emission contents 0) s) whole (nothing_skipped line 0)
      ∙ ap (λ n. bit_or 0 (bit_or n (bit_or 0 (bit_or 0 given.remarks.flags)))) kept
      ∙ or_zero_l _ ∙ or_zero_l _ ∙ or_zero_l _ ∙ or_zero_l given.remarks.flags

  moves_on : after_line map_ table given ≡ changed map_ change table
  unfolding line_change
  moves_on =
      ap (λ t. changed map_ (line_change (firm_table t) given) t) stands_is
      ∙ ap (λ o. changed map_ (change_of (firm_table table) line o.action) table) operation_is
      ∙ ap (λ c. changed map_ c table) counts

  transfer_is : line_transfer map_ table given ≡ transfer_by map_ table act
  transfer_is = ap₂ (λ t o. transfer_by map_ t o.action) stands_is operation_is

  pub yields_all : YieldsAll map_ table given contents change (transfer_by map_ table act)
  yields_all = record { pieces = pieces_are; flags = flags_are; after = moves_on; transfer = transfer_is }

  pub yields : transfer_by map_ table act ≡ None → Yields map_ table given contents change
  yields none = record { pieces = pieces_are; flags = flags_are; after = moves_on; transfer = transfer_is ∙ none }

-- a line whose operator ends at a column, and moves the counter on by what it emits
pub assembles : (map_ : Map) (table : Table) (given : UnfoldedLine) (rest : Bytes) → given.live.line.text ≡ 9 ∷ rest
    → given.live.line.is_over_long ≡ false → given.is_own ≡ false → (end : ℕ) (act : Action) (contents : List PieceContent)
    → labels_at given.live.line.text ≡ []
    → body_of given.live.line.text ≡ operator_ending end
    → operation_of given.arguments given.live.line.text (operator_ending end) ≡ does act 0
    → emission_by map_ table given.live.line.text act ≡ emission contents 0 → put_location table act ≡ location table
    → change_of (firm_table table) given.live.line.text act ≡ Counts (Steps (contents_size contents)) → transfer_by map_ table act ≡ None
    → Assembles map_ table given contents
assembles map_ table given rest at whole own end act contents unlabelled body acts emits place counts sets =
    let made = yields map_ table given whole own (operator_ending end) act contents (Counts (Steps (contents_size contents))) unlabelled
    body acts (ap (λ b. flag_if b flag_I) (first_tab_kept given.live.line.text rest at)) emits place counts sets in
    record { pieces = made.pieces; flags = made.flags; after = made.after; transfer = made.transfer }

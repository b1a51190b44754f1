-- A line that is a comment alone does nothing.
use Rattle.std.proofs.Common.{◌≡◌, ◌∙◌, ℕ, ◌-◌, Bool, true, false, ◌&&◌, [], ◌∷◌, length, take, None, refl, ap, ap₂, arith}
use Rattle.std.specs.Prelude.{if◌then◌else◌, nat_le}
use Rattle.std.specs.Int.Bits.{or_zero_l}
use Rattle.std.specs.Int.RustNames.{bit_or}
use Rattle.std.specs.List.{list_any}
use Rattle.std.proofs.lemmas.List.{drop_all}
use Rattle.m11_base.specs.Devices.{Bytes}
use Rattle.m11_scan.proofs.NextPieces.{pieces_of-first}
use Rattle.m11_scan.specs.Cutting.{lexemes_from, pieces_of, tokens_from}
use Rattle.m11_scan.specs.ErrorFlags.{flag_A, flag_I, flag_L, flag_if}
use Rattle.m11_scan.specs.Pieces.{first_piece}
use Rattle.m11_scan.specs.Skipped.{has_skipped, is_skipped, skipped_between}
use Rattle.m11_scan.specs.declared.pieces.Piece.{Piece}
use Rattle.m11_scan.specs.declared.sort.Form.TheVariants.{Comment}
use Rattle.m11_scan_statements.specs.Bodies.{body_in}
use Rattle.m11_scan_statements.specs.Labels.{end_of, labels_at, labels_in}
use Rattle.m11_scan_statements.specs.Statements.{body_of, has_outside}
use Rattle.m11_scan_statements.specs.declared.bodies.Body.TheVariants as bodies
use Rattle.m11_unfold_rules.specs.Unfolding.{UnfoldedLine}
use Rattle.m11_asm_rules.specs.Actions.{NoAction, does}
use Rattle.m11_asm_rules.specs.Changes.{changed}
use Rattle.m11_asm_rules.specs.Contents.{nothing, pieces_from}
use Rattle.m11_asm_rules.specs.Labels.{labels_flags, with_labels}
use Rattle.m11_asm_rules.specs.Lines.{after_line, change_of, emission_by, flags, known_end, line_change, line_emission, pieces, put_location, stands}
use Rattle.m11_asm_rules.specs.Meanings.{Map}
use Rattle.m11_asm_rules.specs.Operations.{operation, operation_of}
use Rattle.m11_asm_rules.specs.Sources.{line_transfer, transfer_by}
use Rattle.m11_asm_rules.specs.Tables.{Table, firm_table, section_name}
use Rattle.m11_asm_dump_laws.proofs.LineEnds.{kept_to_end}
use Rattle.m11_asm_dump_laws.proofs.Widths.{IsWhole}

-- ---- the tokens of a line that is a comment

module _ (text : Bytes) where
  abbrev comment : Bytes
  comment = 0o73 ∷ text

  one_piece : pieces_of comment ≡ record { form = Comment; length = length comment } ∷ []
  unfolding first_piece
  one_piece =
      pieces_of-first comment (omega arith) (omega arith)
      ∙ ap (λ rest. record { form = Comment; length = length comment } ∷ pieces_of rest) (drop_all (length comment) comment (omega arith))

  no_tokens : tokens_from comment 0 ≡ []
  no_tokens = ap (lexemes_from comment 0) one_piece

  none_skipped : has_skipped comment ≡ false
  none_skipped = ap (list_any (λ (piece : Piece). is_skipped piece.form)) one_piece

  no_labels : labels_at comment ≡ []
  no_labels = ap labels_in no_tokens

  pub no_body : body_of comment ≡ bodies.Nothing
  no_body = ap (λ labels. body_in comment (tokens_from comment (end_of 0 labels))) no_labels ∙ ap (body_in comment) no_tokens

  none_before : (b : Bool) → has_skipped (if b then take 0 comment else []) ≡ false
  none_before true = refl
  none_before false = refl

  first_kept : skipped_between comment 0 0 ≡ false
  first_kept = none_before (nat_le 0 0 && nat_le 0 (length comment))

  all_kept : skipped_between comment 0 (length comment) ≡ false
  all_kept = kept_to_end comment comment 0 (length comment) refl none_skipped (drop_all (length comment) comment (omega arith))

-- ---- the line

-- a line changes and emits nothing, has no flag but those of unfolding, and sets no transfer address
pub record DoesNothing (map_ : Map) (table : Table) (given : UnfoldedLine) : Type 0 where
  pub pieces : pieces map_ table given ≡ []
  pub flags : flags map_ table given ≡ given.remarks.flags
  pub after : after_line map_ table given ≡ table
  pub transfer : line_transfer map_ table given ≡ None

module _ (map_ : Map) (table : Table) (given : UnfoldedLine) (text : Bytes) (this : IsWhole given (0o73 ∷ text)) where
  abbrev line : Bytes
  line = given.live.line.text

  labels : labels_at line ≡ []
  labels = ap labels_at this.text ∙ no_labels text

  body : body_of line ≡ bodies.Nothing
  body = ap body_of this.text ∙ no_body text

  stands_is : stands table given ≡ table
  stands_is = ap (with_labels line table) labels

  operation_is : operation given.is_own given.arguments line ≡ does NoAction 0
  operation_is =
      ap (λ b. if b then does NoAction 0 else operation_of given.arguments line (body_of line)) this.own
      ∙ ap (operation_of given.arguments line) body

  emission_is : (stood : Table) → line_emission map_ stood given ≡ nothing 0
  unfolding line_emission
  emission_is stood = ap (λ o. emission_by map_ stood line o.action) operation_is

  pieces_are : pieces map_ table given ≡ []
  pieces_are =
      ap (λ e. pieces_from (section_name (stands table given))
      (put_location (stands table given) (operation given.is_own given.arguments line).action) e.contents) (emission_is (stands table given))

  abbrev flags_by : Bool → Bool → Bool → ℕ → Bool → ℕ → ℕ → ℕ
  flags_by is_over_long outside skips labelled_ skips_after what emitted =
      bit_or (bit_or (bit_or (bit_or (flag_if is_over_long flag_L) (flag_if outside flag_A)) (flag_if skips flag_I)) labelled_)
      (bit_or (flag_if skips_after flag_I) (bit_or what (bit_or emitted given.remarks.flags)))

  first_none : skipped_between line 0 0 ≡ false
  first_none = ap (λ l. skipped_between l 0 0) this.text ∙ first_kept text

  rest_none : skipped_between line 0 (length line) ≡ false
  rest_none = ap (λ l. skipped_between l 0 (length l)) this.text ∙ all_kept text

  flags_are : flags map_ table given ≡ given.remarks.flags
  flags_are =
      ap (λ e. flags_by given.live.line.is_over_long (has_outside (labels_at line)) (skipped_between line 0 (end_of 0 (labels_at line)))
      (labels_flags line table (labels_at line)) (skipped_between line (end_of 0 (labels_at line)) (known_end line (body_of line)))
      (operation given.is_own given.arguments line).flags e.flags) (emission_is (stands table given))
      ∙ ap (λ o. flags_by given.live.line.is_over_long (has_outside (labels_at line)) (skipped_between line 0 (end_of 0 (labels_at line)))
      (labels_flags line table (labels_at line)) (skipped_between line (end_of 0 (labels_at line)) (known_end line (body_of line))) o.flags 0)
      operation_is
      ∙ ap₂ (λ ls b. flags_by given.live.line.is_over_long (has_outside ls) (skipped_between line 0 (end_of 0 ls))
      (labels_flags line table ls) (skipped_between line (end_of 0 ls) (known_end line b)) 0 0) labels body
      ∙ ap₂ (λ l s. flags_by l false s 0 (skipped_between line 0 (length line)) 0 0) this.whole first_none
      ∙ ap (λ s. flags_by false false false 0 s 0 0) rest_none
      ∙ or_zero_l _ ∙ or_zero_l _ ∙ or_zero_l _ ∙ or_zero_l given.remarks.flags

  moves_on : after_line map_ table given ≡ table
  unfolding line_change
  moves_on =
      ap (λ t. changed map_ (line_change (firm_table t) given) t) stands_is
      ∙ ap (λ o. changed map_ (change_of (firm_table table) line o.action) table) operation_is

  transfer_is : line_transfer map_ table given ≡ None
  transfer_is = ap (λ o. transfer_by map_ (stands table given) o.action) operation_is

  pub comment_rests : DoesNothing map_ table given
  comment_rests = record { pieces = pieces_are; flags = flags_are; after = moves_on; transfer = transfer_is }

-- The meaning of a label in each line of a source: the location and the section of the line that has the label.
use Rattle.std.proofs.Common.{◌≡◌, ◌∙◌, inl, inr, ℕ, ◌+◌, ◌%◌, ◌<◌, get_or, Bool, true, false, if◌then◌else◌, List, [], ◌∷◌, ◌++◌, Option, Some, None, refl, sym, ap, ap₂, subst, true≢false, arith}
use Rattle.std.specs.Option.{is_some}
use Rattle.m11_base.specs.Devices.{Bytes}
use Rattle.m11_base.specs.Rad50.{Name}
use Rattle.m11_link_text.specs.Relocation.{modulo}
use Rattle.m11_asm_rules.proofs.NamesByMaps.{firm_option, last_firm}
use Rattle.m11_asm_rules.specs.Definitions.{Keys, firm_part, firm_standing, has_key, last_definition}
use Rattle.m11_asm_rules.specs.Labels.{label_name, labelled, with_label, with_labels}
use Rattle.m11_asm_rules.specs.Lines.{after_line, line_change, stands}
use Rattle.m11_asm_rules.specs.Meanings.{Map, defined_or, empty_map, flag_D, quantity_of}
use Rattle.m11_asm_rules.specs.Placements.{after_lines, program_map, table_after}
use Rattle.m11_asm_rules.specs.Relocations.{is_moved}
use Rattle.m11_asm_rules.specs.Sections.{location_kind, numbered}
use Rattle.m11_asm_rules.specs.Tables.{Table, firm_table, first_table, kind_here, location, section_name}
use Rattle.m11_asm_rules.specs.declared.definitions.Definition.{Definition}
use Rattle.m11_asm_rules.specs.declared.definitions.Key.TheVariants.{Named}
use Rattle.m11_asm_rules.specs.declared.definitions.Standing.{Standing}
use Rattle.m11_asm_rules.specs.declared.definitions.Standing.TheVariants.{Known, Unknown}
use Rattle.m11_scan_statements.specs.Labels.{labels_at}
use Rattle.m11_scan.specs.ErrorFlags.{flag_if}
use Rattle.m11_scan_statements.specs.declared.labels.Label.{Label}
use Rattle.m11_unfold_rules.specs.Unfolding.{UnfoldedLine}
use Rattle.m11_scan_expressions.specs.declared.kinds.Kind.{Kind}
use Rattle.m11_scan_expressions.specs.declared.kinds.Kind.TheVariants as kind
use Rattle.m11_scan_expressions.specs.Quantities.{Quantity}
use Rattle.m11_cli_image.specs.Addresses.{Addresses}
use Rattle.m11_cli_image.specs.Labels.{HasLabel, LineOf, at_line, before_line}
use Rattle.m11_cli_image.specs.Lines.{address_in}
use Rattle.m11_cli_image.specs.Targets.{target, target_by}
use Rattle.m11_cli_image.proofs.LabelTurns.{IsLabel, IsOrNone, LabelMarks, LineTurns, Marked, Marking, Stays, change_turns, kind_marks, label_stays, last, none_found, or_none_before}
use Rattle.m11_cli_image.proofs.SourcesLie.{Alike}
use Rattle.m11_cli_image.proofs.TablesGrow.{Where, kind_keeps, labels_keep, where_of}

-- ---- a label by its location

label_at : Where → Definition
label_at w = record {
  standing = Known (get_or w.counters w.section 0) (location_kind w.section w.sections);
  is_firm = true;
  label = Some (numbered w.section w.sections).name;
}

same_label : (one other : Table) → where_of one ≡ where_of other → labelled one ≡ labelled other
unfolding label_at
same_label one other e = ap label_at e

-- ---- lines in a row

pub lines_then : (known : Map) (table : Table) (some more : List UnfoldedLine)
    → after_lines known table (some ++ more) ≡ after_lines known (after_lines known table some) more
lines_then known table [] more = refl
lines_then known table (given ∷ some) more = lines_then known (after_line known table given) some more

pub whole_after : (known : Map) (lines before : List UnfoldedLine) (given : UnfoldedLine) (after : List UnfoldedLine) → lines ≡ before ++ given ∷ after
    → table_after known lines ≡ after_lines known (after_line known (table_after known before) given) after
whole_after known lines before given after e =
    ap (table_after known) e ∙ lines_then known first_table before (given ∷ after)

module _ (name : Name) where
  -- ---- the label's line

  mark_at : (table old new : Table) → where_of old ≡ where_of table → LabelMarks name old new → IsOrNone (labelled table) (last name old)
      → IsOrNone (labelled table) (last name new)
  mark_at table old new same (Stays e) is = subst (IsOrNone (labelled table)) (sym e) is
  mark_at table old new same (Marked e f) is = inr (f ∙ ap (λ (one : Definition). Some one) (same_label old table same))

  -- if a name isn't defined before the labels of a line, or is a label at the line's section and location, the same is true after the
  -- labels
  labels_mark : (table old : Table) (line : Bytes) (labels : List Label) → where_of old ≡ where_of table
      → IsOrNone (labelled table) (last name old) → IsOrNone (labelled table) (last name (with_labels line old labels))
  labels_mark table old line [] same is = is
  labels_mark table old line (named ∷ labels) same is =
      labels_mark table (with_label line old named) line labels
      (kind_keeps old (label_name line named) named.kind ∙ same)
      (mark_at table old (with_label line old named) same (kind_marks name old (label_name line named) named.kind) is)

  -- ---- steps of lines

  labels_before : (definition : Definition) → is_some definition.label ≡ true → (line : Bytes) (table : Table) (labels : List Label)
      → IsOrNone definition (last name (with_labels line table labels)) → IsOrNone definition (last name table)
  labels_before definition l line table [] is = is
  labels_before definition l line table (named ∷ labels) is =
      or_none_before table definition (last name table) (last name (with_label line table named))
      (Marking (kind_marks name table (label_name line named) named.kind)) l
      (labels_before definition l line (with_label line table named) labels is)

  line_turns : (known : Map) (table : Table) (given : UnfoldedLine) → LineTurns name (stands table given) (after_line known table given)
  line_turns known table given =
      change_turns name known (line_change (firm_table (stands table given)) given) (stands table given)

  -- labels of a line leave an earlier label as it is
  labels_after : (definition : Definition) (line : Bytes) (table : Table) (labels : List Label)
      → IsLabel definition (last name table) → IsLabel definition (last name (with_labels line table labels))
  labels_after definition line table [] is = is
  labels_after definition line table (named ∷ labels) is =
      labels_after definition line (with_label line table named) labels
      (label_stays table definition (last name table) (last name (with_label line table named))
      (Marking (kind_marks name table (label_name line named) named.kind)) is)

  operator_after : (definition : Definition) (known : Map) (table : Table) (given : UnfoldedLine)
      → IsLabel definition (last name (stands table given)) → IsLabel definition (last name (after_line known table given))
  operator_after definition known table given is =
      label_stays (stands table given) definition (last name (stands table given)) (last name (after_line known table given))
      (line_turns known table given) is

  lines_after : (definition : Definition) (known : Map) (table : Table) (lines : List UnfoldedLine)
      → IsLabel definition (last name table) → IsLabel definition (last name (after_lines known table lines))
  lines_after definition known table [] is = is
  lines_after definition known table (given ∷ lines) is =
      lines_after definition known (after_line known table given) lines
      (operator_after definition known table given
      (labels_after definition given.live.line.text table (labels_at given.live.line.text) is))

  operator_before : (definition : Definition) → is_some definition.label ≡ true → (known : Map) (table : Table) (given : UnfoldedLine)
      → IsOrNone definition (last name (after_line known table given)) → IsOrNone definition (last name (stands table given))
  operator_before definition l known table given is =
      or_none_before (stands table given) definition (last name (stands table given)) (last name (after_line known table given))
      (line_turns known table given) l is

  lines_before : (definition : Definition) → is_some definition.label ≡ true → (known : Map) (table : Table) (lines : List UnfoldedLine)
      → IsOrNone definition (last name (after_lines known table lines)) → IsOrNone definition (last name table)
  lines_before definition l known table [] is = is
  lines_before definition l known table (given ∷ lines) is =
      labels_before definition l given.live.line.text table (labels_at given.live.line.text)
      (operator_before definition l known table given
      (lines_before definition l known (after_line known table given) lines is))

  -- ---- the final definition of a label

  defined_is : (definition : Definition) (found : Option Definition) → is_some found ≡ true → IsOrNone definition found
      → found ≡ Some definition
  defined_is definition found some (inl none) = absurd (true≢false (sym some ∙ ap is_some none))
  defined_is definition found some (inr e) = e

  at_its_line : (lines : List UnfoldedLine) (line : LineOf lines) → HasLabel lines line name
      → IsLabel (labelled (at_line lines line)) (last name (at_line lines line))
  at_its_line lines line has =
      let before = before_line lines line in
      let text = line.given.live.line.text in
      let found = defined_is (labelled before) (last name (at_line lines line)) has.defined
      (labels_mark before before text (labels_at text) refl (inl (none_found (last name before) has.new))) in
      (found ∙ ap (λ (one : Definition). Some one) (sym (same_label (at_line lines line) before (labels_keep text before (labels_at text)))), refl)

  in_the_end : (lines : List UnfoldedLine) (line : LineOf lines) → HasLabel lines line name
      → IsLabel (labelled (at_line lines line)) (last name (table_after (program_map lines) lines))
  in_the_end lines line has =
      let known = program_map lines in
      let definition = labelled (at_line lines line) in
      subst (λ (t : Table). IsLabel definition (last name t)) (sym (whole_after known lines line.before line.given line.after line.whole))
      (lines_after definition known (after_line known (before_line lines line) line.given) line.after
      (operator_after definition known (before_line lines line) line.given (at_its_line lines line has)))

  -- in any line of the source, the name of the label has the label's definition, or none yet
  pub in_a_line : (lines : List UnfoldedLine) (line other : LineOf lines) → HasLabel lines line name
      → IsOrNone (labelled (at_line lines line)) (last name (at_line lines other))
  in_a_line lines line other has =
      let known = program_map lines in
      let definition = labelled (at_line lines line) in
      operator_before definition refl known (before_line lines other) other.given
      (lines_before definition refl known (after_line known (before_line lines other) other.given) other.after
      (inr (subst (λ (t : Table). last name t ≡ Some definition) (whole_after known lines other.before other.given other.after other.whole)
      (in_the_end lines line has).0)))

  -- ---- with the empty map, too

  standing_by : (found : Option Definition) (standing : Standing) (number : ℕ) (kind : Kind) → standing ≡ Known number kind
      → (definition : Definition) → definition.is_firm ≡ true → definition.standing ≡ standing
      → firm_option found ≡ Some (firm_part definition)
      → (one : Definition) × (found ≡ Some one) × (one.standing ≡ Known number kind)
  standing_by None standing number kind known definition firm is e = absurd (true≢false (sym (ap is_some e)))
  standing_by (Some one) standing number kind known definition firm is e = (one, refl, by one.is_firm refl)
    where
      given_in : Option Definition → Standing
      given_in (Some other) = other.standing
      given_in None = Unknown

      firm_given : firm_standing one.is_firm one.standing ≡ Known number kind
      firm_given = ap given_in e ∙ (ap (λ (b : Bool). firm_standing b definition.standing) firm ∙ (is ∙ known))

      unknown_not : Unknown ≡ Known number kind → ⊥
      unknown_not f = absurd cc

      by : (b : Bool) → one.is_firm ≡ b → one.standing ≡ Known number kind
      by true f = sym (ap (λ (b : Bool). firm_standing b one.standing) f) ∙ firm_given
      by false f = absurd (unknown_not (sym (ap (λ (b : Bool). firm_standing b one.standing) f) ∙ firm_given))

  pub under_the_empty_map : Alike → (lines : List UnfoldedLine) (line : LineOf lines) → HasLabel lines line name
      → (one : Definition) × (last_definition (Named name) (table_after empty_map lines).definitions ≡ Some one)
      × (one.standing ≡ Known (location (at_line lines line)) (kind_here (at_line lines line)))
  under_the_empty_map alike lines line has =
      let empty = table_after empty_map lines in
      let full = table_after (program_map lines) lines in
      let definition = labelled (at_line lines line) in
      standing_by (last name empty) definition.standing (location (at_line lines line)) (kind_here (at_line lines line)) refl definition refl refl
      (sym (last_firm (Named name) empty.definitions)
      ∙ (ap (λ (t : Table). last_definition (Named name) t.definitions) (alike empty_map (program_map lines) lines)
      ∙ (last_firm (Named name) full.definitions ∙ ap firm_option (in_the_end lines line has).0)))

-- ---- addresses

low_location : (location : ℕ) → location < 65536 → location ≡ (0 + location) % 65536
low_location location low = omega (arith, low)

module _ (program : Addresses) (source : ℕ) where
  pub kind_lies : (table : Table) → location table < 65536 → (moves : Bool) → is_moved table ≡ moves
      → (is_moved table ≡ false → program.base source (section_name table) ≡ 0)
      → target_by program source (location table) (kind_here table) ≡ address_in program source (section_name table) (location table)
  kind_lies table low true e absolute =
      ap (λ (b : Bool). target_by program source (location table) (if b then kind.Section (section_name table) else kind.Absolute)) e
  kind_lies table low false e absolute =
      ap (λ (b : Bool). target_by program source (location table) (if b then kind.Section (section_name table) else kind.Absolute)) e
      ∙ (low_location (location table) low ∙ ap (λ (base : ℕ). modulo (base + location table)) (sym (absolute e)))

  -- if a name has the value of a label in the map, and the label's definition or none in a line, its target in that line is that of the
  -- label
  pub meaning_lies : (name : Name) (doubly_defined more : Keys) (other : Quantity) (number : ℕ) (sort : Kind)
      (here : Option Definition) (map : Option Definition) (one label : Definition) → one.standing ≡ Known number sort → label.standing ≡ Known number sort
      → map ≡ Some one → IsOrNone label here
      → target program source (defined_or (Named name) doubly_defined (defined_or (Named name) more other map) here) ≡ target_by program source number sort
  meaning_lies name doubly_defined more other number sort here map one label s l m (inl e) =
      ap₂ (λ (h o : Option Definition). target program source (defined_or (Named name) doubly_defined (defined_or (Named name) more other o) h)) e m
      ∙ ap (λ (standing : Standing). target program source (quantity_of (flag_if (has_key (Named name) more) flag_D) standing)) s
  meaning_lies name doubly_defined more other number sort here map one label s l m (inr e) =
      ap (λ (h : Option Definition). target program source (defined_or (Named name) doubly_defined (defined_or (Named name) more other map) h)) e
      ∙ ap (λ (standing : Standing). target program source (quantity_of (flag_if (has_key (Named name) doubly_defined) flag_D) standing)) l

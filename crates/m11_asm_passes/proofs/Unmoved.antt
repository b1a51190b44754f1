-- Under a map that solves a source, the first label of each key is at the location in the map.
use Rattle.std.proofs.Common.{◌≡◌, ◌∙◌, ℕ, ◌&&◌, not, Bool, true, false, List, [], ◌∷◌, ◌++◌, append_assoc, Option, Some, None, refl, ap, subst}
use Rattle.std.proofs.lemmas.Bool.{eq-eqb}
use Rattle.std.proofs.lemmas.List.{map-append}
use Rattle.std.specs.Int.RustNames.{bit_or}
use Rattle.std.specs.Option.{is_some}
use Rattle.std.specs.Prelude.{if◌then◌else◌, ◌==◌}
use Rattle.m11_base.specs.Devices.{Bytes}
use Rattle.m11_base.proofs.SameNames.{same_name_itself}
use Rattle.m11_base.specs.Rad50.{Name, is_same_name}
use Rattle.m11_scan.specs.Line.{SourceLine}
use Rattle.m11_asm_lines.specs.declared.counting.Counting.{Counting}
use Rattle.m11_asm_passes.specs.Lines.{NumberedLine, PassLines, givens}
use Rattle.m11_asm_rules.specs.Definitions.{firm_part, firm_standing, is_defined, last_definition}
use Rattle.m11_asm_rules.specs.Equation.{Solves, is_label_or_firm, label_or_value, label_or_value_of}
use Rattle.m11_asm_rules.specs.Labels.{global_if, label_name, labelled, with_block, with_definition, with_doubly_defined, with_kind, with_label, with_labels, with_name}
use Rattle.m11_asm_rules.specs.Lines.{after_line, line_change, stands}
use Rattle.m11_asm_rules.specs.Meanings.{Map}
use Rattle.m11_asm_rules.specs.Placements.{after_lines, program_map, table_after}
use Rattle.m11_asm_rules.specs.Tables.{Table, firm_table, first_table, kind_here, location, section_name}
use Rattle.m11_asm_rules.specs.declared.definitions.Definition.{Definition}
use Rattle.m11_asm_rules.specs.declared.definitions.Key.{Key}
use Rattle.m11_asm_rules.specs.declared.definitions.Key.TheVariants.{Named}
use Rattle.m11_asm_rules.specs.declared.definitions.Key.TheVariants as of_key
use Rattle.m11_asm_rules.specs.declared.definitions.Standing.{Standing}
use Rattle.m11_asm_rules.specs.declared.definitions.Standing.TheVariants.{Known}
use Rattle.m11_asm_lines.specs.Moved.{is_at, is_in, is_location_of, flag_P, moved_key, moved_kind, moved_flags, moved_name}
use Rattle.m11_scan_statements.specs.Labels.{labels_at}
use Rattle.m11_scan.specs.ErrorFlags.{flag_if}
use Rattle.m11_scan_statements.specs.declared.labels.Label.{Label}
use Rattle.m11_scan_statements.specs.declared.labels.LabelKind.{LabelKind}
use Rattle.m11_scan_statements.specs.declared.labels.LabelKind.TheVariants as kind
use Rattle.m11_unfold_rules.specs.Stages.{Stage}
use Rattle.m11_unfold_rules.specs.Unfolding.{UnfoldedLine}
use Rattle.m11_asm_passes.proofs.Freely.{begins_with}
use Rattle.m11_asm_passes.proofs.Labelled.{IsAtLevel, change_stays, labels_stay, lines_stay, stands_now}
use Rattle.m11_asm_passes.proofs.KnownAlike.{PlaceAlike, after_both}
use Rattle.m11_asm_passes.specs.Beginnings.{BeginWith}
use Rattle.m11_asm_passes.specs.Ends.{EndsAfter}
use Rattle.m11_asm_passes.specs.Second.{map_from, moved_after}

-- each label that is the last definition of its key in the first table is so in the second
abbrev Keeps : Table → Table → Type 0
Keeps table final = (key : Key) (label : Definition) → is_some label.label ≡ true → IsAtLevel key label table → IsAtLevel key label final

-- ---- a location equals itself

same_location : (table : Table) → (is_same_name (section_name table) (section_name table) && (location table == location table)) ≡ true
same_location table =
    ap (λ (b : Bool). b && (location table == location table)) (same_name_itself (section_name table))
    ∙ eq-eqb (location table) (location table) refl

standing_by : (is_firm : Bool) (standing known : Standing) → is_firm ≡ true → firm_standing is_firm standing ≡ known → standing ≡ known
standing_by true standing known firm same = same
standing_by false standing known firm same = absurd (cc)

part_of : (is_asked : Bool) (part label : Definition) → (if is_asked then Some part else None) ≡ Some label → part ≡ label
part_of true part label same = cc
part_of false part label same = absurd (cc)

found_location : (table : Table) (key : Key) (found : Option Definition) → label_or_value found ≡ Some (labelled table)
    → is_location_of table found ≡ true
found_location table key None same = absurd (cc)
found_location table key (Some definition) same =
    let part : firm_part definition ≡ labelled table
    = part_of (is_label_or_firm definition) (firm_part definition) (labelled table) same in
    ap (λ (label : Option Name). is_in (section_name table) label && is_at (location table) definition.standing)
    (ap (λ (d : Definition). d.label) part)
    ∙ ap (λ (standing : Standing). is_in (section_name table) (Some (section_name table)) && is_at (location table) standing)
    (standing_by definition.is_firm definition.standing (Known (location table) (kind_here table))
    (ap (λ (d : Definition). d.is_firm) part) (ap (λ (d : Definition). d.standing) part))
    ∙ same_location table

-- ---- the labels of a line

module _ (map : Map) (final : Table)
    (solves : (key : Key) → label_or_value_of key map.definitions ≡ label_or_value_of key final.definitions) where
  unmoved_by : (is_known is_location : Bool) → (is_known ≡ false → is_location ≡ true)
      → flag_if (not is_known && not is_location) flag_P ≡ 0
  unmoved_by true is_location found = refl
  unmoved_by false true found = refl
  unmoved_by false false found = absurd (let same = found refl in cc same)

  key_unmoved : (table : Table) (key : Key) → (is_defined key table.definitions ≡ false → IsAtLevel key (labelled table) final)
      → moved_key map table key ≡ 0
  key_unmoved table key stands =
      unmoved_by (is_defined key table.definitions) (is_location_of table (last_definition key map.definitions))
      (λ none. found_location table key (last_definition key map.definitions) (solves key ∙ ap label_or_value (stands none)))

  -- a label whose key has no definition defines the key
  name_by : (is_there is_global : Bool) (table : Table) (name : Name) → is_there ≡ false
      → IsAtLevel (Named name) (labelled table) (if is_there then with_doubly_defined (Named name) table
      else global_if is_global name (with_block (with_definition (Named name) (labelled table) table)))
  name_by true is_global table name none = absurd (cc)
  name_by false true table name none = stands_now (Named name) (labelled table) table
  name_by false false table name none = stands_now (Named name) (labelled table) table

  key_by : (is_there : Bool) (table : Table) (key : Key) → is_there ≡ false
      → IsAtLevel key (labelled table) (if is_there then with_doubly_defined key table else with_definition key (labelled table) table)
  key_by true table key none = absurd (cc)
  key_by false table key none = stands_now key (labelled table) table

  name_unmoved : (is_global : Bool) (table : Table) (name : Option Name) → Keeps (with_name is_global table name) final
      → moved_name map table name ≡ 0
  name_unmoved is_global table (Some name) keeps =
      key_unmoved table (Named name) (λ none. keeps (Named name) (labelled table) refl
      (name_by (is_defined (Named name) table.definitions) is_global table name none))
  name_unmoved is_global table None keeps = refl

  kind_unmoved : (table : Table) (name : Option Name) (of : LabelKind) → Keeps (with_kind table name of) final
      → moved_kind map table name of ≡ 0
  kind_unmoved table name kind.Ordinary keeps = name_unmoved false table name keeps
  kind_unmoved table name kind.Global keeps = name_unmoved true table name keeps
  kind_unmoved table name (kind.Local number) keeps =
      let key : Key = of_key.Numbered table.modes.block number in
      key_unmoved table key (λ none. keeps key (labelled table) refl
      (key_by (is_defined key table.definitions) table key none))
  kind_unmoved table name kind.Outside keeps = refl

  labels_unmoved : (line : Bytes) (table : Table) (labels : List Label) → Keeps (with_labels line table labels) final
      → moved_flags map line table labels ≡ 0
  labels_unmoved line table [] keeps = refl
  labels_unmoved line table (named ∷ labels) keeps =
      let here : moved_kind map table (label_name line named) named.kind ≡ 0
      = kind_unmoved table (label_name line named) named.kind (λ key label is_label stood.
      keeps key label is_label (labels_stay key label is_label line (with_label line table named) labels stood)) in
      ap (λ (n : ℕ). bit_or n (moved_flags map line (with_label line table named) labels)) here
      ∙ ap (bit_or 0) (labels_unmoved line (with_label line table named) labels keeps)

-- ---- a line among others

line_unmoved : (map : Map) (before more : List UnfoldedLine) (one : UnfoldedLine) → Solves map (before ++ one ∷ more)
    → moved_flags map one.live.line.text (table_after map before) (labels_at one.live.line.text) ≡ 0
line_unmoved map before more one solves =
    let table : Table = table_after map before in
    let final : Table = table_after map (before ++ one ∷ more) in
    let whole : final ≡ after_lines map (after_line map table one) more = after_both map before (one ∷ more) first_table in
    labels_unmoved map final solves one.live.line.text table (labels_at one.live.line.text) (λ key label is_label stood.
    ap (λ (t : Table). last_definition key t.definitions) whole
    ∙ lines_stay key label is_label map (after_line map table one) more
    (change_stays key label is_label map (line_change (firm_table (stands table one)) one) (stands table one) stood))

pub none_moved : (map : Map) (before more : List NumberedLine) (one : NumberedLine) → Solves map (givens (before ++ one ∷ more))
    → moved_after map before one ≡ 0
none_moved map before more one solves =
    let same : givens (before ++ one ∷ more) ≡ givens before ++ one.given ∷ givens more
    = map-append (λ (line : NumberedLine). line.given) before (one ∷ more) in
    line_unmoved map (givens before) (givens more) one.given (subst (Solves map) same solves)

-- ---- in a second pass over the lines of a first one

-- the map of each source solves the source
abbrev pub MapSolves : Type 0
MapSolves = (lines : List UnfoldedLine) → Solves (program_map lines) lines

pub none_moves : PlaceAlike → MapSolves → (one : Map) (counting others : Counting) (all source read rest : List SourceLine)
    (lines later before more : List NumberedLine) (this : NumberedLine) (stage after : Stage) → EndsAfter one counting all source lines stage
    → PassLines (map_from lines) others read later after → read ++ rest ≡ all → later ≡ before ++ this ∷ more
    → moved_after (map_from lines) before this ≡ 0
none_moves alike solves one counting others all source read rest lines later before more this stage after ends passes whole parts =
    let begins : BeginWith lines later
    = begins_with alike one (map_from lines) counting others all source lines stage ends read rest later after passes whole in
    let same : lines ≡ before ++ this ∷ (more ++ begins.0)
    = begins.1 ∙ ap (λ (ls : List NumberedLine). ls ++ begins.0) parts ∙ append_assoc before (this ∷ more) begins.0 in
    none_moved (map_from lines) before (more ++ begins.0) this
    (subst (λ (ls : List NumberedLine). Solves (map_from lines) (givens ls)) same (solves (givens lines)))

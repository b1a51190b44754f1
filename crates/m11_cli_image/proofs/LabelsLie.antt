-- Labels have the addresses of their lines, and globals those of their definitions.
use Rattle.std.proofs.Common.{◌≡◌, ◌∙◌, ℕ, zero, suc, ◌+◌, get_or, List, [], ◌∷◌, Option, Some, None, refl, sym, ap, subst, true≢false, arith}
use Rattle.std.specs.Prelude.{slice_get}
use Rattle.std.specs.Option.{is_some}
use Rattle.m11_base.specs.Rad50.{Name}
use Rattle.m11_asm_rules.proofs.History.{says}
use Rattle.m11_asm_rules.specs.Definitions.{last_definition}
use Rattle.m11_asm_rules.specs.Labels.{labelled}
use Rattle.m11_asm_rules.specs.Meanings.{empty_map, undefined}
use Rattle.m11_asm_rules.specs.Placements.{program_map, table_after}
use Rattle.m11_asm_rules.specs.Relocations.{is_moved}
use Rattle.m11_asm_rules.specs.Sections.{numbered}
use Rattle.m11_asm_rules.specs.Tables.{Table, kind_here, location, section_name}
use Rattle.m11_asm_rules.specs.declared.definitions.Definition.{Definition}
use Rattle.m11_asm_rules.specs.declared.definitions.Key.TheVariants.{Named}
use Rattle.m11_asm_rules.specs.declared.definitions.Standing.TheVariants.{Known}
use Rattle.m11_asm_rules.specs.declared.meanings.Context.{Context}
use Rattle.m11_scan_statements.specs.Labels.{labels_at}
use Rattle.m11_unfold_rules.specs.Unfolding.{UnfoldedLine}
use Rattle.m11_scan_expressions.specs.declared.kinds.Kind.{Kind}
use Rattle.m11_scan_expressions.specs.declared.names.Symbol.TheVariants.{Ordinary}
use Rattle.m11_cli_image.specs.Addresses.{Addresses}
use Rattle.m11_cli_image.specs.Image.{addresses_of}
use Rattle.m11_cli_image.specs.Sources.{Source}
use Rattle.m11_cli_image.specs.Agreement.{AbsolutesAgree, AreOf, IsOf}
use Rattle.m11_cli_image.specs.Labels.{DefinesFirst, HasLabel, LineOf, at_line, before_line, meaning_at}
use Rattle.m11_cli_image.specs.Lines.{address_in}
use Rattle.m11_cli_image.specs.Targets.{target, target_by}
use Rattle.m11_cli_image.proofs.Absolutes.{AllAtZero, LieAtZero, LiesAtZero, all_at_zero, one_of}
use Rattle.m11_cli_image.proofs.GlobalsLie.{global_lies}
use Rattle.m11_cli_image.proofs.LabelsFound.{in_a_line, kind_lies, meaning_lies, under_the_empty_map, whole_after}
use Rattle.m11_cli_image.proofs.LabelTurns.{last}
use Rattle.m11_cli_image.proofs.SourcesLie.{Alike, zeros_of}
use Rattle.m11_cli_image.proofs.SourcesLie as sections
use Rattle.m11_cli_image.proofs.TablesGrow.{Where, labels_keep}

-- ---- the sections of the source with an index

module _ (alike : Alike) (bottom : ℕ) (sources : List Source) where
  abbrev program : Addresses
  program = addresses_of bottom sources

  zeros_at : (first index : ℕ) (all : List (List UnfoldedLine)) (others : List Source) (lines : List UnfoldedLine) → AreOf all others
      → AllAtZero bottom sources first others → slice_get all index ≡ Some lines
      → LieAtZero program (first + index) (table_after (program_map lines) lines).sections
  zeros_at first index [] others lines are zeros e = absurd (true≢false (sym (ap is_some e)))
  zeros_at first index (own ∷ all) [] lines are zeros e = absurd are
  zeros_at first zero (own ∷ all) (source ∷ others) lines are zeros e =
      let here = zeros_of alike program first own source are.0 zeros.0 in
      let at : first ≡ first + 0 = omega arith in
      subst (λ (i : ℕ). LieAtZero program i (table_after (program_map lines) lines).sections) at
      (subst (λ (o : Option (List UnfoldedLine)). SomeAtZero first o) e here)
    where
      SomeAtZero : ℕ → Option (List UnfoldedLine) → Type 0
      SomeAtZero i (Some some) = LieAtZero program i (table_after (program_map some) some).sections
      SomeAtZero i None = Unit {0}
  zeros_at first (suc index) (own ∷ all) (source ∷ others) lines are zeros e =
      let at : first + 1 + index ≡ first + suc index = omega arith in
      subst (λ (i : ℕ). LieAtZero program i (table_after (program_map lines) lines).sections) at
      (zeros_at (first + 1) index all others lines are.1 zeros.1 e)

  module _ (all : List (List UnfoldedLine)) (are : AreOf all sources) (agree : AbsolutesAgree sources) (index : ℕ) (lines : List UnfoldedLine)
      (own : slice_get all index ≡ Some lines) (name : Name) where
    zeros_here : LieAtZero program index (table_after (program_map lines) lines).sections
    zeros_here =
        let at : 0 + index ≡ index = omega arith in
        subst (λ (i : ℕ). LieAtZero program i (table_after (program_map lines) lines).sections) at
        (zeros_at 0 index all sources lines are (all_at_zero bottom sources 0 sources agree) own)

    zero_line : (line : LineOf lines) → LiesAtZero program index (numbered (at_line lines line).modes.section (at_line lines line).sections)
    zero_line line =
        let known = program_map lines in
        one_of program index (at_line lines line).modes.section (at_line lines line).sections
        (sections.at_line (LiesAtZero program index) known (before_line lines line) line.given line.after
        (subst (λ (t : Table). LieAtZero program index t.sections)
        (whole_after known lines line.before line.given line.after line.whole) zeros_here))

    pub location_lies : (line : LineOf lines) → target_by program index (location (at_line lines line)) (kind_here (at_line lines line))
        ≡ address_in program index (section_name (at_line lines line)) (location (at_line lines line))
    location_lies line =
        let at = at_line lines line in
        let before = before_line lines line in
        let text = line.given.live.line.text in
        let stays : location at ≡ location before =
        ap (λ (w : Where). get_or w.counters w.section 0) (labels_keep text before (labels_at text)) in
        let counted = (says (program_map lines) line.before).counters before.modes.section in
        kind_lies program index at (omega (arith, stays, counted)) (is_moved at) refl (zero_line line)

    pub label_lies : (line : LineOf lines) → HasLabel lines line name → (other : LineOf lines) (context : Context) (here : ℕ)
        → target program index (meaning_at lines other context here name)
        ≡ address_in program index (section_name (at_line lines line)) (location (at_line lines line))
    label_lies line has other context here =
        let at = at_line lines line in
        let one = under_the_empty_map name alike lines line has in
        meaning_lies program index name (at_line lines other).doubly_defined (program_map lines).doubly_defined (undefined context (Ordinary name))
        (location at) (kind_here at) (last name (at_line lines other)) (last_definition (Named name) (program_map lines).definitions)
        one.0 (labelled at) one.2 refl one.1 (in_a_line name lines line other has)
        ∙ location_lies line

    -- in the source's own table, the name of a label has a known value, whose target is the address of the label's line
    pub label_known : (line : LineOf lines) → HasLabel lines line name
        → (one : Definition) × (number : ℕ) × (sort : Kind)
        × (last_definition (Named name) (table_after empty_map lines).definitions ≡ Some one) × (one.standing ≡ Known number sort)
        × (target_by program index number sort ≡ address_in program index (section_name (at_line lines line)) (location (at_line lines line)))
    label_known line has =
        let one = under_the_empty_map name alike lines line has in
        (one.0, location (at_line lines line), kind_here (at_line lines line), one.1, one.2, location_lies line)

is_of_at : (all : List (List UnfoldedLine)) (sources : List Source) (index : ℕ) (lines : List UnfoldedLine) (source : Source) → AreOf all sources
    → slice_get all index ≡ Some lines → slice_get sources index ≡ Some source → IsOf lines source
is_of_at [] sources index lines source are own at = absurd (true≢false (sym (ap is_some own)))
is_of_at (here ∷ all) [] index lines source are own at = absurd are
is_of_at (here ∷ all) (one ∷ sources) zero lines source are own at = subst (λ (o : Option (List UnfoldedLine)). OfLines o (Some source)) own
    (subst (λ (o : Option Source). OfLines (Some here) o) at are.0)
  where
    OfLines : Option (List UnfoldedLine) → Option Source → Type 0
    OfLines (Some some) (Some other) = IsOf some other
    OfLines (Some some) None = Unit {0}
    OfLines None other = Unit {0}
is_of_at (here ∷ all) (one ∷ sources) (suc index) lines source are own at = is_of_at all sources index lines source are.1 own at

pub global_label_lies : (alike : Alike) (bottom : ℕ) (sources : List Source) (all : List (List UnfoldedLine)) (index : ℕ) (lines : List UnfoldedLine)
    (source : Source) (line : LineOf lines) (name : Name) → AreOf all sources → AbsolutesAgree sources → slice_get all index ≡ Some lines
    → HasLabel lines line name → DefinesFirst sources index source name
    → (addresses_of bottom sources).global name
    ≡ address_in (addresses_of bottom sources) index (section_name (at_line lines line)) (location (at_line lines line))
global_label_lies alike bottom sources all index lines source line name are agree own has first =
    let is = is_of_at all sources index lines source are own first.own in
    let known = label_known alike bottom sources all are agree index lines own name line has in
    global_lies name bottom sources index source known.1 known.2 first (record {
      definition = known.0;
      last = ap (λ (t : Table). last_definition (Named name) t.definitions) is.table ∙ known.3;
      known = known.4;
    })
    ∙ known.5

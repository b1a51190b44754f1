-- A whole source of items: it is assembled as they say.
use Rattle.std.proofs.Common.{◌≡◌, ◌∙◌, ℕ, ◌<◌, Bool, true, false, cond, List, [], ◌∷◌, ◌++◌, map, Option, Some, None, refl, sym, ap, ap₂, subst, append-nil, arith, codes}
use Rattle.std.specs.Prelude.{if◌then◌else◌}
use Rattle.std.specs.List.{AllByRecursion}
use Rattle.std.specs.Map.{lookup}
use Rattle.std.proofs.lemmas.List.{map-append}
use Rattle.m11_base.specs.Devices.{Bytes}
use Rattle.m11_base.specs.Names.{absolute_name}
use Rattle.m11_base.specs.Operand.{register_number}
use Rattle.m11_base.specs.Rad50.{Name, alphabet, code_of, is_same_name}
use Rattle.m11_base.specs.declared.operand.Register.{Register}
use Rattle.m11_base.specs.declared.operand.Register.TheVariants.{R0, R1, R2, R3, R4, R5, Sp, Pc}
use Rattle.m11_base_disassembly.specs.declared.symbols.Symbol.{Symbol}
use Rattle.m11_base.proofs.SameNames.{same_name_itself}
use Rattle.m11_scan.specs.ErrorFlags.{flag_if}
use Rattle.m11_scan.specs.Line.{line_of}
use Rattle.m11_scan_expressions.specs.Quantities.{Quantity, absolute}
use Rattle.m11_scan_expressions.specs.declared.names.Symbol.TheVariants.{Ordinary}
use Rattle.m11_unfold_rules.specs.Stages.{Stage}
use Rattle.m11_unfold_rules.specs.Taking.{NothingLeft, move}
use Rattle.m11_unfold_rules.specs.Unfolding.{UnfoldedLine, Unfolds}
use Rattle.m11_asm_rules.proofs.LastDefinitions.{names_swap}
use Rattle.m11_asm_rules.proofs.NamesByMaps.{firm_option, last_firm}
use Rattle.m11_asm_rules.specs.Changes.{Selects, numbered}
use Rattle.m11_asm_rules.specs.Definitions as definitions
use Rattle.m11_asm_rules.specs.Definitions.{firm_part, firm_standing, has_key, last_definition, no_keys}
use Rattle.m11_asm_rules.specs.Meanings.{Map, defined_or, empty_map, flag_D, known_at, map_of, quantity_of, undefined, value_of_symbol}
use Rattle.m11_asm_rules.specs.Placements.{LinePlacement, after_lines, placed_from, placement, program_map, table_after}
use Rattle.m11_asm_rules.specs.Relocations.{is_moved}
use Rattle.m11_asm_rules.specs.Sections.{of_absolute}
use Rattle.m11_asm_rules.specs.declared.meanings.Context.TheVariants.{LocalOnly}
use Rattle.m11_asm_rules.specs.Sources.{transfer_after}
use Rattle.m11_asm_rules.specs.Tables.{Table, firm_table, first_table, location}
use Rattle.m11_asm_rules.specs.declared.definitions.Definition.{Definition}
use Rattle.m11_asm_rules.specs.declared.definitions.Key.TheVariants.{Named}
use Rattle.m11_asm_dump_laws.specs.Items.{AreDistinct, AreWellFormed, AssembleAs, IsNoRegister, Item, all_defined, end_text, pieces_of, source_of, start_of, texts_of}
use Rattle.m11_asm_dump_laws.specs.Knowledge.{IsSpelled, KnowsNames, ReadsAsMeant, register_name}
use Rattle.m11_asm_dump_laws.specs.Lines.{AreRead, IsLine}
use Rattle.m11_asm_dump_laws.proofs.Assembled.{Yields}
use Rattle.m11_asm_dump_laws.proofs.Beginnings.{absolute_counts, absolute_reads, absolute_section, absolute_table, asect_yields}
use Rattle.m11_asm_dump_laws.proofs.PlacedLines.{flags_in, flags_zero, pieces_in}
use Rattle.m11_asm_dump_laws.proofs.EndLines.{EndsWith, end_ends, end_short}
use Rattle.m11_asm_dump_laws.proofs.EndedSources.{ended_source}
use Rattle.m11_asm_dump_laws.proofs.ItemsLeft.{all_left}
use Rattle.m11_asm_dump_laws.proofs.ItemsPlaced.{IsDefinedIn, IsFinal, IsNewIn, StandsAt, each, members}
use Rattle.m11_asm_dump_laws.proofs.ItemsWalked.{Walked, after_parts, flags_parts, pieces_parts, read_parts, sets_none, transfer_parts, walked}
use Rattle.m11_asm_dump_laws.proofs.Known.{table_knows}
use Rattle.m11_asm_dump_laws.proofs.PlainSources.{IsAlone, read_by}
use Rattle.m11_asm_dump_laws.proofs.Widths.{IsWhole, whole_line}

-- ---- a map that has the value of each symbol

abbrev entry : Symbol → Name × Definition
entry symbol = (symbol.name, numbered symbol.value)

abbrev pub map_for : List Symbol → Map
map_for symbols =
    record { definitions = record { names = map entry symbols; local_symbols = [] }; doubly_defined = no_keys; globals = [] }

abbrev IsEntry : List (Name × Definition) → Symbol → Type 0
IsEntry entries symbol = lookup (is_same_name symbol.name) entries ≡ Some (numbered symbol.value)

later_entries : (first : Symbol) (entries : List (Name × Definition)) (symbols : List Symbol)
    → AllByRecursion (λ other. is_same_name other.name first.name ≡ false) symbols → AllByRecursion (IsEntry entries) symbols
    → AllByRecursion (IsEntry (entry first ∷ entries)) symbols
later_entries first entries [] differ all = tt
later_entries first entries (symbol ∷ symbols) differ all = (
  ap (λ b. cond b (Some (numbered first.value)) (lookup (is_same_name symbol.name) entries)) differ.0 ∙ all.0,
  later_entries first entries symbols differ.1 all.1,
)

all_entries : (symbols : List Symbol) → AreDistinct symbols → AllByRecursion (IsEntry (map entry symbols)) symbols
all_entries [] distinct = tt
all_entries (symbol ∷ symbols) distinct = (
  ap (λ b. cond b (Some (numbered symbol.value)) (lookup (is_same_name symbol.name) (map entry symbols))) (same_name_itself symbol.name),
  later_entries symbol (map entry symbols) symbols distinct.0 (all_entries symbols distinct.1),
)

pub all_final : (symbols : List Symbol) → AreDistinct symbols → AllByRecursion (IsFinal (map_for symbols)) symbols
all_final symbols distinct =
    each (IsEntry (map entry symbols)) (IsFinal (map_for symbols))
    (λ symbol is. record { definition = numbered symbol.value; last = is; standing = refl; once = refl }) symbols
    (all_entries symbols distinct)

-- ---- before the first item

new_first : (symbol : Symbol) → IsNoRegister symbol → IsNewIn absolute_table symbol
unfolding code_of alphabet
new_first symbol other =
    rw (
      names_swap symbol.name _ ∙ other R0,
      names_swap symbol.name _ ∙ other R1,
      names_swap symbol.name _ ∙ other R2,
      names_swap symbol.name _ ∙ other R3,
      names_swap symbol.name _ ∙ other R4,
      names_swap symbol.name _ ∙ other R5,
      names_swap symbol.name _ ∙ other Sp,
      names_swap symbol.name _ ∙ other Pc,
    ) refl

all_new : (symbols : List Symbol) → AllByRecursion IsNoRegister symbols → AllByRecursion (IsNewIn absolute_table) symbols
all_new symbols others = each IsNoRegister (IsNewIn absolute_table) new_first symbols others

stands_first : StandsAt absolute_table 0 []
unfolding code_of alphabet
stands_first = record {
  reads = absolute_reads;
  counted = absolute_counts;
  section = absolute_section;
  place = refl;
  within = omega arith;
  once = refl;
  defined = tt;
}

-- ---- the same definitions under every map

-- a definition that is the firm part of another one, and is firm, is that one
firm_same : (one other : Definition) → firm_part one ≡ other → other.is_firm ≡ true → one ≡ other
firm_same one other is firm =
    let own : one.is_firm ≡ true = ap (λ (d : Definition). d.is_firm) is ∙ firm in
    ap (λ b. record one { standing = firm_standing b one.standing }) (sym own) ∙ is

found_same : (one : Option Definition) (other : Definition) → firm_option one ≡ Some (firm_part other) → other.is_firm ≡ true
    → one ≡ Some other
found_same None other is firm = absurd (cc)
found_same (Some one) other is firm =
    let same : firm_part one ≡ firm_part other = cc in
    let whole : firm_part other ≡ other = ap (λ b. record other { standing = firm_standing b other.standing }) firm in
    ap Some (firm_same one other (same ∙ whole) firm)

defined_alike : (one other : Table) (symbol : Symbol) → firm_table one ≡ firm_table other → IsDefinedIn other symbol → IsDefinedIn one symbol
defined_alike one other symbol same is = record {
  definition = is.definition;
  last = found_same (last_definition (Named symbol.name) one.definitions) is.definition
      (sym (last_firm (Named symbol.name) one.definitions)
      ∙ ap (λ (t : Table). last_definition (Named symbol.name) t.definitions) same
      ∙ last_firm (Named symbol.name) other.definitions ∙ ap firm_option is.last) is.firm;
  standing = is.standing;
  firm = is.firm;
}

reads_alike : (one other : Table) → firm_table one ≡ firm_table other → ReadsAsMeant other → ReadsAsMeant one
reads_alike one other same reads = record {
  section = ap (λ (t : Table). is_moved t) same ∙ reads.section;
  radix = ap (λ (t : Table). t.modes.radix) same ∙ reads.radix;
  registers = λ register. found_same (last_definition (Named (register_name register)) one.definitions)
      (definitions.register (register_number register))
      (sym (last_firm (Named (register_name register)) one.definitions)
      ∙ ap (λ (t : Table). last_definition (Named (register_name register)) t.definitions) same
      ∙ last_firm (Named (register_name register)) other.definitions ∙ ap firm_option (reads.registers register)) refl;
  once = λ register. ap (λ (t : Table). has_key (Named (register_name register)) t.doubly_defined) same ∙ reads.once register;
}

-- ---- names that a table defines

module _ (map_ : Map) (table : Table) (here : ℕ) (once : table.doubly_defined ≡ no_keys) where
  defined_value : (symbol : Symbol) → IsDefinedIn table symbol
      → value_of_symbol map_ LocalOnly table here (Ordinary symbol.name) ≡ absolute symbol.value 0
  defined_value symbol is =
      let key = Named symbol.name in
      let other : Quantity = defined_or key map_.doubly_defined (undefined LocalOnly (Ordinary symbol.name))
      (last_definition key map_.definitions) in
      ap (defined_or key table.doubly_defined other) is.last
      ∙ ap₂ (λ k s. quantity_of (flag_if (has_key key k) flag_D) s) once is.standing

  pub knows_defined : (symbols : List Symbol) → ReadsAsMeant table → AllByRecursion (IsDefinedIn table) symbols
      → KnowsNames symbols (known_at map_ LocalOnly table here)
  knows_defined symbols reads all = record {
    registers = table_knows table reads here map_ LocalOnly;
    names = each (IsDefinedIn table)
        (λ (symbol : Symbol). value_of_symbol map_ LocalOnly table here (Ordinary symbol.name) ≡ absolute symbol.value 0)
        defined_value symbols all;
  }

-- ---- the lines of a source

-- the first line, those of the items, and the last one
record Cut (symbols : List Symbol) (start : ℕ) (items : List Item) (lines : List UnfoldedLine) : Type 0 where
  first : UnfoldedLine
  middle : List UnfoldedLine
  last : UnfoldedLine
  whole : lines ≡ first ∷ (middle ++ last ∷ [])
  asect : IsLine first (codes "\t.ASECT")
  read : AreRead middle (texts_of symbols 0 items)
  end : IsLine last (end_text symbols start)

one_read : (lines : List UnfoldedLine) (text : Bytes) → AreRead lines (text ∷ []) → (last : UnfoldedLine) × (lines ≡ last ∷ []) × IsLine last text
one_read [] text read = absurd read
one_read (last ∷ []) text read = (last, refl, read.0)
one_read (last ∷ (more ∷ lines)) text read = absurd read.1

cut : (symbols : List Symbol) (start : ℕ) (items : List Item) (lines : List UnfoldedLine) → AreRead lines (source_of symbols start items)
    → Cut symbols start items lines
cut symbols start items [] read = absurd read
cut symbols start items (first ∷ lines) read =
    let parts = read_parts lines (texts_of symbols 0 items) (end_text symbols start ∷ []) read.1 in
    let last = one_read parts.second (end_text symbols start) parts.second_read in record {
      first = first;
      middle = parts.first;
      last = last.0;
      whole = ap (λ l. first ∷ l) (parts.whole ∙ ap (λ l. parts.first ++ l) last.1);
      asect = read.0;
      read = parts.first_read;
      end = last.2;
    }

-- lines are placed in the same way under any two maps
abbrev pub PlacedAlike : Type 0
PlacedAlike = (one other : Map) (lines : List UnfoldedLine) → firm_table (table_after one lines) ≡ firm_table (table_after other lines)

module _ (alike : PlacedAlike) (symbols : List Symbol) (start : ℕ) (items : List Item) (well : AreWellFormed symbols items)
    (below : start < 65536) (lines : List UnfoldedLine) (parts : Cut symbols start items lines) where
  abbrev all : List Symbol
  all = all_defined items

  abbrev front : List UnfoldedLine
  front = parts.first ∷ parts.middle

  spelled : AllByRecursion IsSpelled symbols
  spelled = members IsSpelled all symbols well.spelled well.known

  -- the walk over the lines of the items, under a map that has the value of each symbol
  walk : (map_ : Map) → AllByRecursion (IsFinal map_) all → Walked map_ absolute_table 0 items [] parts.middle
  walk map_ finals =
      walked map_ symbols spelled (members (IsFinal map_) all symbols finals well.known) items absolute_table 0 [] stands_first well.sound
      (record { spelled = well.spelled; others = well.others; finals = finals; distinct = well.distinct }) (all_new all well.others) well.known
      parts.middle parts.read

  front_after : (map_ : Map) (finals : AllByRecursion (IsFinal map_) all) → after_lines map_ first_table front ≡ (walk map_ finals).end
  front_after map_ finals =
      ap (λ t. after_lines map_ t parts.middle) (asect_yields map_ parts.first parts.asect).after ∙ (walk map_ finals).after

  -- ---- the first pass, which knows nothing before

  abbrev own_map : Map
  own_map = map_for all

  own_finals : AllByRecursion (IsFinal own_map) all
  own_finals = all_final all well.distinct

  abbrev own_walk : Walked own_map absolute_table 0 items [] parts.middle
  own_walk = walk own_map own_finals

  abbrev first_end : Table
  first_end = table_after empty_map front

  same : firm_table first_end ≡ firm_table own_walk.end
  same = alike empty_map own_map front ∙ ap firm_table (front_after own_map own_finals)

  first_defined : AllByRecursion (IsDefinedIn first_end) all
  first_defined =
      each (IsDefinedIn own_walk.end) (IsDefinedIn first_end) (λ symbol is. defined_alike first_end own_walk.end symbol same is) all
      own_walk.stands.defined

  first_once : first_end.doubly_defined ≡ no_keys
  first_once = ap (λ (t : Table). t.doubly_defined) same ∙ own_walk.stands.once

  whole_end : IsWhole parts.last (end_text symbols start)
  whole_end = whole_line parts.last (end_text symbols start) (end_short symbols spelled start) parts.end

  first_ends : EndsWith empty_map first_end parts.last (start_of start)
  first_ends =
      end_ends symbols spelled empty_map first_end parts.last start below
      (knows_defined empty_map first_end (location first_end) first_once symbols (reads_alike first_end own_walk.end same own_walk.stands.reads)
      (members (IsDefinedIn first_end) all symbols first_defined well.known)) whole_end

  table_is : table_after empty_map lines ≡ first_end
  table_is =
      ap (table_after empty_map) parts.whole ∙ after_parts empty_map first_table front (parts.last ∷ []) ∙ first_ends.after

  abbrev final : Map
  final = program_map lines

  finals : AllByRecursion (IsFinal final) all
  finals =
      let P : Table → Type 0 = λ t. AllByRecursion (IsFinal (map_of t)) all in
      subst P (sym table_is)
      (each (IsDefinedIn first_end) (IsFinal (map_of first_end))
      (λ symbol is. record {
        definition = is.definition;
        last = is.last;
        standing = is.standing;
        once = ap (has_key (Named symbol.name)) first_once;
      }) all first_defined)

  -- ---- the second pass

  abbrev second : Walked final absolute_table 0 items [] parts.middle
  second = walk final finals

  second_ends : EndsWith final second.end parts.last (start_of start)
  second_ends =
      end_ends symbols spelled final second.end parts.last start below
      (knows_defined final second.end (location second.end) second.stands.once symbols second.stands.reads
      (members (IsDefinedIn second.end) all symbols second.stands.defined well.known)) whole_end

  begins : Yields final first_table parts.first [] (Selects absolute_name of_absolute)
  begins = asect_yields final parts.first parts.asect

  pieces_are : pieces_in (placement final (parts.first ∷ (parts.middle ++ parts.last ∷ []))) ≡ pieces_of 0 items
  pieces_are =
      ap₂ (λ p t. p ++ pieces_in (placed_from final t (parts.middle ++ parts.last ∷ []))) begins.pieces begins.after
      ∙ pieces_parts final absolute_table parts.middle (parts.last ∷ [])
      ∙ ap₂ (λ p t. p ++ pieces_in (placed_from final t (parts.last ∷ []))) second.pieces second.after
      ∙ ap (λ p. pieces_of 0 items ++ (p ++ [])) second_ends.pieces ∙ append-nil (pieces_of 0 items)

  abbrev remarked : List UnfoldedLine → List ℕ
  remarked some = map (λ (given : UnfoldedLine). given.remarks.flags) some

  flags_are : flags_in (placement final (parts.first ∷ (parts.middle ++ parts.last ∷ [])))
      ≡ remarked (parts.first ∷ (parts.middle ++ parts.last ∷ []))
  flags_are =
      ap₂ (λ n t. n ∷ flags_in (placed_from final t (parts.middle ++ parts.last ∷ []))) begins.flags begins.after
      ∙ ap (λ l. parts.first.remarks.flags ∷ l)
      (flags_parts final absolute_table parts.middle (parts.last ∷ [])
      ∙ ap₂ (λ l t. l ++ flags_in (placed_from final t (parts.last ∷ []))) second.flags second.after
      ∙ ap (λ n. remarked parts.middle ++ n ∷ []) second_ends.flags
      ∙ sym (map-append (λ (given : UnfoldedLine). given.remarks.flags) parts.middle (parts.last ∷ [])))

  transfer_is : transfer_after empty_map first_table (front ++ parts.last ∷ []) ≡ start_of start
  transfer_is =
      transfer_parts empty_map first_table front (parts.last ∷ [])
      (sets_none final first_table parts.first begins.transfer, second.quiet) ∙ first_ends.transfer

  assembled : AllByRecursion IsAlone lines → AssembleAs lines start items
  assembled alone =
      let flagged : flags_in (placement final lines) ≡ remarked lines =
      ap (λ l. flags_in (placement final l)) parts.whole ∙ flags_are ∙ sym (ap remarked parts.whole) in record {
        pieces = ap (λ l. pieces_in (placement final l)) parts.whole ∙ pieces_are;
        unflagged = flags_zero (placement final lines) lines flagged alone;
        transfer = ap (transfer_after empty_map first_table) parts.whole ∙ transfer_is;
      }

pub items_assembled : PlacedAlike → (symbols : List Symbol) (start : ℕ) (items : List Item) (lines : List UnfoldedLine) (stage : Stage)
    → AreWellFormed symbols items → start < 65536 → Unfolds (map line_of (source_of symbols start items)) lines stage
    → move stage ≡ NothingLeft → AssembleAs lines start items
items_assembled alike symbols start items lines stage well below unfolds ends =
    let all : List Symbol = all_defined items in
    let spelled = members IsSpelled all symbols well.spelled well.known in
    let source = source_of symbols start items in
    let found = ended_source (map line_of source) (all_left symbols spelled start items well.spelled) lines stage unfolds ends in
    assembled alike symbols start items well below lines (cut symbols start items lines (read_by lines source found.0 found.1)) found.1

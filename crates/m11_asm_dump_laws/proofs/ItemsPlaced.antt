-- The lines of a source, one after another: each emits what it says, at its address, and defines its symbol.
use Rattle.std.proofs.Common.{◌≡◌, ◌∙◌, ℕ, suc, ◌+◌, ◌*◌, ◌%◌, ◌≤◌, ◌<◌, Bool, true, false, List, [], ◌∷◌, ◌++◌, length, map, take, fold, Option, Some, None, refl, sym, ap, ap₂, subst, arith, append_assoc, append-nil, codes}
use Rattle.std.specs.Prelude.{if◌then◌else◌, is_some}
use Rattle.std.specs.List.{AllByRecursion, flat_map}
use Rattle.std.specs.Option.{option_or}
use Rattle.std.proofs.lemmas.List.{length-append, take_all}
use Rattle.m11_base.specs.Devices.{Bytes}
use Rattle.m11_base.specs.Names.{absolute_name}
use Rattle.m11_base.specs.Rad50.{is_same_name}
use Rattle.m11_base.specs.declared.operand.Register.{Register}
use Rattle.m11_base_disassembly.specs.Instructions.{size_of, statement_of}
use Rattle.m11_base_disassembly.specs.Meaning.{AreWords}
use Rattle.m11_base_disassembly.specs.Numbers.{number_text}
use Rattle.m11_base_disassembly.specs.Statements.{DataByte}
use Rattle.m11_base_disassembly.specs.Texts.{prefixed}
use Rattle.m11_base_disassembly.specs.declared.symbols.Symbol.{Symbol}
use Rattle.m11_obj.specs.declared.pieces.PieceContent.{PieceContent}
use Rattle.m11_scan.specs.Line.{line_limit}
use Rattle.m11_scan_expressions.specs.declared.kinds.Kind.{Kind}
use Rattle.m11_scan_expressions.specs.declared.kinds.Kind.TheVariants as kind
use Rattle.m11_unfold_rules.specs.Unfolding.{UnfoldedLine}
use Rattle.m11_asm_rules.proofs.LastDefinitions.{key_equal, key_itself, last_more, names_swap}
use Rattle.m11_asm_rules.specs.Assigning.{is_unknown, is_unknown_as}
use Rattle.m11_asm_rules.specs.Changes.{moved, numbered, with_move}
use Rattle.m11_asm_rules.specs.Contents.{contents_size, fixed_byte, fixed_word, further, pieces_from}
use Rattle.m11_asm_rules.specs.Definitions.{has_key, last_definition, no_keys}
use Rattle.m11_asm_rules.specs.Labels.{labelled, with_block, with_definition}
use Rattle.m11_asm_rules.specs.Lines.{after_line, flags, pieces}
use Rattle.m11_asm_rules.specs.Locations.{Goes, Move, Steps}
use Rattle.m11_asm_rules.specs.Meanings.{Map}
use Rattle.m11_asm_rules.specs.Placements.{after_lines, placed_from}
use Rattle.m11_asm_rules.specs.Relocations.{is_moved}
use Rattle.m11_asm_rules.specs.Sources.{line_transfer, transfer_after}
use Rattle.m11_asm_rules.specs.Tables.{Table, kind_here, location, section_name}
use Rattle.m11_asm_rules.specs.declared.definitions.Definition.{Definition}
use Rattle.m11_asm_rules.specs.declared.definitions.Key.TheVariants.{Named}
use Rattle.m11_asm_rules.specs.declared.definitions.Standing.{Standing}
use Rattle.m11_asm_rules.specs.declared.definitions.Standing.TheVariants.{Known}
use Rattle.m11_asm_dump_laws.specs.Items.{AreDistinct, AreSound, Assigned, IsAmong, IsNoRegister, Item, Labelled, MovedTo, Noted, Shows, ShowsByte, after_item, all_defined, contents_in, defined_in, item_text, pieces_of, symbol_text, texts_of}
use Rattle.m11_asm_dump_laws.specs.Knowledge.{AtMostDefines, HasValue, IsSpelled, ReadsAsMeant, register_name, standing_of}
use Rattle.m11_asm_dump_laws.specs.Lines.{AreRead, Assembles, HasCounter, IsLine}
use Rattle.m11_asm_dump_laws.specs.Texts.{line_text}
use Rattle.m11_asm_dump_laws.proofs.Addresses.{bare_short}
use Rattle.m11_asm_dump_laws.proofs.AssignLines.{IsKnownIn, assigned_after, assigned_pieces}
use Rattle.m11_asm_dump_laws.proofs.Beginnings.{set_yields}
use Rattle.m11_asm_dump_laws.proofs.PlacedLines.{counter_is, flags_in, pieces_in, still_counted, still_reads}
use Rattle.m11_asm_dump_laws.proofs.Digits.{number_width}
use Rattle.m11_asm_dump_laws.proofs.DumpedLines.{line_assembled}
use Rattle.m11_asm_dump_laws.proofs.LabelLines.{label_defines}
use Rattle.m11_asm_dump_laws.proofs.NoteLines.{comment_rests}
use Rattle.m11_asm_dump_laws.proofs.ReadData.{byte_assembled}
use Rattle.m11_asm_dump_laws.proofs.ReadLines.{words_size}
use Rattle.m11_asm_dump_laws.proofs.Widths.{whole_line}

-- ---- members of lists

member_by : (P : Symbol → Type 0) (before after : List Symbol) (symbol : Symbol) → AllByRecursion P (before ++ symbol ∷ after) → P symbol
member_by P [] after symbol all = all.0
member_by P (first ∷ before) after symbol all = member_by P before after symbol all.1

pub member : (P : Symbol → Type 0) (all : List Symbol) (symbol : Symbol) → AllByRecursion P all → IsAmong all symbol → P symbol
member P all symbol holds is =
    let Q : List Symbol → Type 0 = λ l. AllByRecursion P l in member_by P is.0 is.1 symbol (subst Q is.2 holds)

pub members : (P : Symbol → Type 0) (all symbols : List Symbol) → AllByRecursion P all → AllByRecursion (IsAmong all) symbols
    → AllByRecursion P symbols
members P all [] holds among = tt
members P all (symbol ∷ symbols) holds among = (member P all symbol holds among.0, members P all symbols holds among.1)

pub joined : (P : Symbol → Type 0) (one other : List Symbol) → AllByRecursion P one → AllByRecursion P other → AllByRecursion P (one ++ other)
joined P [] other is also = also
joined P (first ∷ one) other is also = (is.0, joined P one other is.1 also)

pub each : (P Q : Symbol → Type 0) → ((symbol : Symbol) → P symbol → Q symbol) → (all : List Symbol) → AllByRecursion P all
    → AllByRecursion Q all
each P Q from [] all = tt
each P Q from (symbol ∷ rest) all = (from symbol all.0, each P Q from rest all.1)

-- ---- the definitions of symbols in a table

-- a table defines a symbol, with its value, whatever the map
pub record IsDefinedIn (table : Table) (symbol : Symbol) : Type 0 where
  pub definition : Definition
  pub last : last_definition (Named symbol.name) table.definitions ≡ Some definition
  pub standing : definition.standing ≡ standing_of symbol
  pub firm : definition.is_firm ≡ true

abbrev pub IsNewIn : Table → Symbol → Type 0
IsNewIn table symbol = last_definition (Named symbol.name) table.definitions ≡ None

at_most : (symbol : Symbol) (definition : Definition) (found : Option Definition) → found ≡ Some definition
    → definition.standing ≡ standing_of symbol → AtMostDefines symbol found
at_most symbol definition found is standing = let P : Option Definition → Type 0 = λ f. AtMostDefines symbol f in subst P (sym is) standing

none_yet : (symbol : Symbol) (found : Option Definition) → found ≡ None → AtMostDefines symbol found
none_yet symbol found is = let P : Option Definition → Type 0 = λ f. AtMostDefines symbol f in subst P (sym is) tt

abbrev pub Fits : Table → Symbol → Type 0
Fits table symbol = AtMostDefines symbol (last_definition (Named symbol.name) table.definitions)

pub defined_fits : (table : Table) (symbol : Symbol) → IsDefinedIn table symbol → Fits table symbol
defined_fits table symbol is =
    at_most symbol is.definition (last_definition (Named symbol.name) table.definitions) is.last is.standing

pub new_fits : (table : Table) (symbol : Symbol) → IsNewIn table symbol → Fits table symbol
new_fits table symbol is = none_yet symbol (last_definition (Named symbol.name) table.definitions) is

-- a map gives a symbol its value, once
pub record IsFinal (map_ : Map) (symbol : Symbol) : Type 0 where
  pub definition : Definition
  pub last : last_definition (Named symbol.name) map_.definitions ≡ Some definition
  pub standing : definition.standing ≡ standing_of symbol
  pub once : has_key (Named symbol.name) map_.doubly_defined ≡ false

final_known : (map_ : Map) (symbol : Symbol) → IsFinal map_ symbol → IsKnownIn map_ symbol
final_known map_ symbol is = ap is_unknown is.last ∙ ap (λ (s : Standing). is_unknown_as s) is.standing

-- ---- one more definition

module _ (table : Table) (symbol : Symbol) (definition : Definition) (standing : definition.standing ≡ standing_of symbol)
    (firm : definition.is_firm ≡ true) (new : IsNewIn table symbol) where
  abbrev more : Table
  more = with_definition (Named symbol.name) definition table

  abbrev found_by : Option Definition → Bool → Option Definition
  found_by before b = if b then Some definition else before

  others_stay : (other : Symbol) → is_same_name symbol.name other.name ≡ false
      → last_definition (Named other.name) more.definitions ≡ last_definition (Named other.name) table.definitions
  others_stay other differs =
      last_more (Named other.name) table.definitions (Named symbol.name) definition
      ∙ ap (found_by (last_definition (Named other.name) table.definitions)) differs

  pub new_stays : (other : Symbol) → is_same_name other.name symbol.name ≡ false → IsNewIn table other → IsNewIn more other
  new_stays other differs is = others_stay other (names_swap symbol.name other.name ∙ differs) ∙ is

  defined_by : (other : Symbol) (b : Bool) → is_same_name symbol.name other.name ≡ b → IsDefinedIn table other → IsDefinedIn more other
  defined_by other true same is =
      let e = key_equal (Named symbol.name) (Named other.name) same in
      let none : None ≡ Some is.definition =
      sym new ∙ ap (λ k. last_definition k table.definitions) e ∙ is.last in
      absurd (cc)
  defined_by other false differs is =
      record { definition = is.definition; last = others_stay other differs ∙ is.last; standing = is.standing; firm = is.firm }

  pub defined_stays : (other : Symbol) → IsDefinedIn table other → IsDefinedIn more other
  defined_stays other is = defined_by other (is_same_name symbol.name other.name) refl is

  pub defined_now : IsDefinedIn more symbol
  defined_now = record {
    definition = definition;
    last = last_more (Named symbol.name) table.definitions (Named symbol.name) definition
        ∙ ap (found_by (last_definition (Named symbol.name) table.definitions)) (key_itself (Named symbol.name));
    standing = standing;
    firm = firm;
  }

  pub more_reads : IsNoRegister symbol → ReadsAsMeant table → ReadsAsMeant more
  more_reads other reads = record {
    section = reads.section;
    radix = reads.radix;
    registers = λ register. last_more (Named (register_name register)) table.definitions (Named symbol.name) definition
        ∙ ap (found_by (last_definition (Named (register_name register)) table.definitions))
        (names_swap symbol.name (register_name register) ∙ other register) ∙ reads.registers register;
    once = reads.once;
  }

-- ---- where a line stands

-- a table is in the absolute section at this address; it defines the symbols of the lines so far, and none of those of the lines that follow
pub record StandsAt (table : Table) (here : ℕ) (done : List Symbol) : Type 0 where
  pub reads : ReadsAsMeant table
  pub counted : HasCounter table
  pub section : section_name table ≡ absolute_name
  pub place : location table ≡ here
  pub within : here < 65536
  pub once : table.doubly_defined ≡ no_keys
  pub defined : AllByRecursion (IsDefinedIn table) done

-- a line does what it says, and leads to this table
pub record Does (map_ : Map) (table : Table) (given : UnfoldedLine) (here : ℕ) (item : Item) (new : Table) : Type 0 where
  pub pieces : pieces map_ table given ≡ pieces_from absolute_name here (contents_in item)
  pub flags : flags map_ table given ≡ given.remarks.flags
  pub after : after_line map_ table given ≡ new
  pub transfer : line_transfer map_ table given ≡ None

kind_by : (b : Bool) (section : Kind) → b ≡ false → (if b then section else kind.Absolute) ≡ kind.Absolute
kind_by b section is = ap (λ c. if c then section else kind.Absolute) is

absolute_kind : (table : Table) → ReadsAsMeant table → kind_here table ≡ kind.Absolute
absolute_kind table reads = kind_by (is_moved table) (kind.Section (section_name table)) reads.section

new_undefined : (symbol : Symbol) (found : Option Definition) → found ≡ None → is_some found ≡ false
new_undefined symbol found is = ap is_some is

-- ---- each line

module _ (map_ : Map) (table : Table) (here : ℕ) (done : List Symbol) (at : StandsAt table here done) (given : UnfoldedLine) where
  -- a symbol that has no definition yet, and isn't that of the line, has none afterwards
  abbrev Keeps : Item → Table → Type 0
  Keeps item new = (other : Symbol) → AllByRecursion (λ symbol. is_same_name other.name symbol.name ≡ false) (defined_in item)
      → IsNewIn table other → IsNewIn new other

  abbrev pub Leads : Item → Type 0
  Leads item = (new : Table) × Does map_ table given here item new × StandsAt new (after_item here item) (done ++ defined_in item)
      × Keeps item new

  same_done : (new : Table) (next : ℕ) → StandsAt new next done → StandsAt new next (done ++ [])
  same_done new next stands =
      let P : List Symbol → Type 0 = λ l. StandsAt new next l in subst P (sym (append-nil done)) stands

  -- a definition of a symbol that has none yet; afterwards the new one is among those that are defined
  with_one : (symbol : Symbol) (definition : Definition) → definition.standing ≡ standing_of symbol → definition.is_firm ≡ true
      → IsNewIn table symbol → AllByRecursion (IsDefinedIn (with_definition (Named symbol.name) definition table)) (done ++ symbol ∷ [])
  with_one symbol definition standing firm new =
      let after : Table = with_definition (Named symbol.name) definition table in
      joined (IsDefinedIn after) done (symbol ∷ [])
      (each (IsDefinedIn table) (IsDefinedIn after) (defined_stays table symbol definition standing firm new) done at.defined)
      (defined_now table symbol definition standing firm new, tt)

  pub labelled_leads : (symbol : Symbol) → IsSpelled symbol → IsNoRegister symbol → symbol.value ≡ here → IsNewIn table symbol
      → IsLine given (symbol_text symbol ++ codes ":") → Leads (Labelled symbol)
  labelled_leads symbol spelled other value new this =
      let text : Bytes = symbol_text symbol ++ codes ":" in
      let size = length-append (symbol_text symbol) (codes ":") in
      let short = bare_short symbol in
      let made = label_defines map_ table given symbol spelled (whole_line given text (omega (arith, size, short)) this)
      (new_undefined symbol (last_definition (Named symbol.name) table.definitions) new) in
      let standing : (labelled table).standing ≡ standing_of symbol =
      ap₂ (λ n k. Known n k) (at.place ∙ sym value) (absolute_kind table at.reads) in
      let defined = with_definition (Named symbol.name) (labelled table) table in
      let reads = more_reads table symbol (labelled table) standing refl new other at.reads in (
        with_block defined,
        record { pieces = made.pieces; flags = made.flags; after = made.after; transfer = made.transfer },
        record {
          reads = record { section = reads.section; radix = reads.radix; registers = reads.registers; once = reads.once };
          counted = at.counted;
          section = at.section;
          place = at.place;
          within = at.within;
          once = at.once;
          defined = each (IsDefinedIn defined) (IsDefinedIn (with_block defined))
              (λ one is. record { definition = is.definition; last = is.last; standing = is.standing; firm = is.firm })
              (done ++ symbol ∷ []) (with_one symbol (labelled table) standing refl new);
        },
        λ one differs is. new_stays table symbol (labelled table) standing refl new one differs.0 is,
      )

  pub assigned_leads : (symbol : Symbol) → IsSpelled symbol → IsNoRegister symbol → symbol.value < 65536 → IsNewIn table symbol
      → IsFinal map_ symbol → IsLine given (symbol_text symbol ++ codes "=" ++ number_text symbol.value) → Leads (Assigned symbol)
  assigned_leads symbol spelled other below new final this =
      let text : Bytes = symbol_text symbol ++ 0o75 ∷ number_text symbol.value in
      let size = length-append (symbol_text symbol) (0o75 ∷ number_text symbol.value) in
      let short = bare_short symbol in
      let digits = number_width symbol.value in
      let P : Bytes → Type 0 = λ l. IsLine given l in
      let written : IsLine given text = subst P (append_assoc (symbol_text symbol) (codes "=") (number_text symbol.value)) this in
      let whole = whole_line given text (omega (arith, size, short, digits)) written in
      let known = final_known map_ symbol final in
      let made = assigned_pieces map_ table at.reads given symbol spelled below whole new known in
      let defined = with_definition (Named symbol.name) (numbered symbol.value) table in (
        defined,
        record {
          pieces = made.pieces;
          flags = made.flags;
          after = assigned_after map_ table at.reads given symbol spelled below whole new known;
          transfer = made.transfer;
        },
        record {
          reads = more_reads table symbol (numbered symbol.value) refl refl new other at.reads;
          counted = at.counted;
          section = at.section;
          place = at.place;
          within = at.within;
          once = at.once;
          defined = with_one symbol (numbered symbol.value) refl refl new;
        },
        λ one differs is. new_stays table symbol (numbered symbol.value) refl refl new one differs.0 is,
      )

  -- the line of a comment has at most fifteen characters
  pub noted_leads : (symbol : Symbol) → IsLine given (codes "; " ++ symbol_text symbol ++ codes "=" ++ number_text symbol.value)
      → Leads (Noted symbol)
  noted_leads symbol this =
      let name : Bytes = symbol_text symbol in
      let text : Bytes = 0o40 ∷ ((name ++ codes "=") ++ number_text symbol.value) in
      let size = length-append (name ++ codes "=") (number_text symbol.value) in
      let front = length-append name (codes "=") in
      let short = bare_short symbol in
      let digits = number_width symbol.value in
      let made = comment_rests map_ table given text (whole_line given (0o73 ∷ text) (omega (arith, size, front, short, digits)) this) in (
        table,
        record { pieces = made.pieces; flags = made.flags; after = made.after; transfer = made.transfer },
        same_done table here at,
        λ one differs is. is,
      )

  -- a line that moves the counter, and defines nothing
  abbrev moved_to : Move → Table
  moved_to move = with_move move table

  still : (move : Move) (next : ℕ) → moved move (location table) ≡ next → next < 65536 → StandsAt (moved_to move) next done
  still move next is within = record {
    reads = still_reads table move at.reads;
    counted = still_counted table move at.counted;
    section = at.section;
    place = counter_is table move at.counted ∙ is;
    within = within;
    once = at.once;
    defined = each (IsDefinedIn table) (IsDefinedIn (moved_to move))
        (λ one is. record { definition = is.definition; last = is.last; standing = is.standing; firm = is.firm }) done at.defined;
  }

  itself : (address : ℕ) → address < 65536 → address % 65536 ≡ address
  itself address below = omega arith

  further_within : (location_ size : ℕ) → further location_ size < 65536
  further_within location_ size = omega arith

  pub moved_leads : (address : ℕ) → address < 65536 → IsLine given (prefixed (codes "\t.=") address) → Leads (MovedTo address)
  moved_leads address below this =
      let made = set_yields map_ table at.reads given address below this in (
        moved_to (Goes address),
        record { pieces = made.pieces; flags = made.flags; after = made.after; transfer = made.transfer },
        same_done (moved_to (Goes address)) address (still (Goes address) address (itself address below) below),
        λ one differs is. is,
      )

  -- a line that emits contents of this size
  steps : (item : Item) (contents : List PieceContent) (size : ℕ) → contents_in item ≡ contents → contents_size contents ≡ size
      → after_item here item ≡ further here size → done ++ defined_in item ≡ done ++ [] → Assembles map_ table given contents → Leads item
  steps item contents size is sized next none made =
      let move : Move = Steps (contents_size contents) in
      let further_is : moved move (location table) ≡ after_item here item =
      ap₂ (λ l n. further l n) at.place sized ∙ sym next in
      let P : ℕ → Type 0 = λ n. n < 65536 in
      let Q : List Symbol → Type 0 = λ l. StandsAt (moved_to move) (after_item here item) l in (
        moved_to move,
        record {
          pieces = made.pieces ∙ ap₂ (λ s l. pieces_from s l contents) at.section at.place ∙ ap (pieces_from absolute_name here) (sym is);
          flags = made.flags;
          after = made.after;
          transfer = made.transfer;
        },
        subst Q (sym none) (same_done (moved_to move) (after_item here item)
            (still move (after_item here item) further_is (subst P (sym next) (further_within here size)))),
        λ one differs is. is,
      )

  pub byte_leads : (byte : ℕ) → byte < 256 → IsLine given (line_text [] (DataByte byte)) → Leads (ShowsByte byte)
  byte_leads byte small this =
      let W : ℕ → Type 0 = λ n. n < 65536 in
      steps (ShowsByte byte) (fixed_byte byte ∷ []) 1 refl refl refl refl
      (byte_assembled map_ table at.reads (subst W (sym at.place) at.within) given byte small this)

  module _ (symbols : List Symbol) (spelled : AllByRecursion IsSpelled symbols) (has : AllByRecursion (HasValue map_ table) symbols) where
    pub words_lead : (word : ℕ) (more : List ℕ) → here % 2 ≡ 0 → word < 65536 → AreWords more → size_of word more ≡ 1 + length more
        → IsLine given (line_text symbols (statement_of here word more)) → Leads (Shows word more)
    words_lead word more even fits all size this =
        let W : ℕ → Type 0 = λ n. n < 65536 in
        let E : ℕ → Type 0 = λ n. n % 2 ≡ 0 in
        let P : ℕ → Type 0 = λ n. IsLine given (line_text symbols (statement_of n word more)) in
        let Q : List ℕ → Type 0 = λ ws. Assembles map_ table given (map fixed_word ws) in
        let back = sym at.place in
        let taken : take (size_of word more) (word ∷ more) ≡ word ∷ more =
        ap (λ n. take n (word ∷ more)) size ∙ take_all (1 + length more) (word ∷ more) (omega arith) in
        steps (Shows word more) (map fixed_word (word ∷ more)) ((1 + length more) * 2) refl
        (sym (words_size (word ∷ more)) ∙ count (length more)) refl refl
        (subst Q taken (line_assembled symbols spelled map_ table at.reads has (subst E back even) (subst W back at.within) given word more fits
        all (subst P back this)))
      where
        count : (n : ℕ) → suc n * 2 ≡ (1 + n) * 2
        count n = omega arith

-- The lines of a source in order: together they emit what they say, and define their symbols, each once.
use Rattle.std.proofs.Common.{◌≡◌, ◌∙◌, ℕ, ◌<◌, Bool, true, false, List, [], ◌∷◌, ◌++◌, map, fold, Option, Some, None, refl, sym, ap, ap₂, subst, append_assoc, append-nil}
use Rattle.std.specs.Prelude.{if◌then◌else◌}
use Rattle.std.specs.List.{AllByRecursion, flat_map}
use Rattle.std.specs.Option.{option_or}
use Rattle.m11_base.specs.Devices.{Bytes}
use Rattle.m11_base.specs.Rad50.{is_same_name}
use Rattle.m11_base_disassembly.specs.declared.symbols.Symbol.{Symbol}
use Rattle.m11_scan_expressions.specs.Expressions.{value}
use Rattle.m11_scan_expressions.specs.Quantities.{Quantity}
use Rattle.m11_scan_expressions.specs.Tokens.{Expression, is_empty}
use Rattle.m11_unfold_rules.specs.Unfolding.{UnfoldedLine}
use Rattle.m11_asm_rules.specs.Actions.{Action, Transfer}
use Rattle.m11_base.specs.Names.{absolute_name}
use Rattle.m11_asm_rules.specs.Contents.{pieces_from}
use Rattle.m11_asm_rules.specs.Definitions.{has_key, last_definition}
use Rattle.m11_asm_rules.specs.Exports.{transfer}
use Rattle.m11_asm_rules.specs.Lines.{after_line, flags, pieces, stands}
use Rattle.m11_asm_rules.specs.Meanings.{Map, known_at}
use Rattle.m11_asm_rules.specs.declared.meanings.Context.TheVariants.{LocalOnly}
use Rattle.m11_asm_rules.specs.Operations.{action}
use Rattle.m11_asm_rules.specs.Placements.{after_lines, placed_from}
use Rattle.m11_asm_rules.specs.Sources.{line_transfer, transfer_after, transfer_by}
use Rattle.m11_asm_rules.specs.Tables.{Table, location}
use Rattle.m11_asm_rules.specs.declared.definitions.Key.TheVariants.{Named}
use Rattle.m11_asm_dump_laws.specs.Items.{AreDistinct, AreSound, Assigned, IsAmong, IsNoRegister, IsSound, Item, Labelled, MovedTo, Noted, Shows, ShowsByte, after_item, all_defined, contents_in, defined_in, item_text, pieces_of, texts_of}
use Rattle.m11_asm_dump_laws.specs.Knowledge.{HasValue, IsSpelled}
use Rattle.m11_asm_dump_laws.specs.Lines.{AreRead, IsLine}
use Rattle.m11_asm_dump_laws.proofs.PlacedLines.{flags_in, pieces_in}
use Rattle.m11_asm_dump_laws.proofs.ItemsPlaced.{Does, Fits, Leads, IsDefinedIn, IsFinal, IsNewIn, StandsAt, assigned_leads, byte_leads, defined_fits, each, joined, labelled_leads, members, moved_leads, new_fits, new_stays, noted_leads, words_lead}

-- ---- lines that set no transfer address

-- a line sets no transfer address, whatever is known
abbrev pub SetsNone : UnfoldedLine → Type 0
SetsNone given = (map_ : Map) (table : Table) → line_transfer map_ table given ≡ None

abbrev value_at : Map → Table → Expression → Quantity
value_at map_ table tokens = value (known_at map_ LocalOnly table (location table)) tokens

none_by : (one other : Map) (before table : Table) (tokens : Expression) (b : Bool) → is_empty tokens ≡ b
    → transfer one before tokens ≡ None → transfer other table tokens ≡ None
none_by one other before table tokens true is none =
    ap (λ c. if c then None else Some (value_at other table tokens)) is
none_by one other before table tokens false is none =
    let e : Some (value_at one before tokens) ≡ None =
    sym (ap (λ c. if c then None else Some (value_at one before tokens)) is) ∙ none in
    absurd (cc)

still_none : (one other : Map) (before table : Table) (act : Action) → transfer_by one before act ≡ None → transfer_by other table act ≡ None
still_none one other before table (Transfer tokens) none = none_by one other before table tokens (is_empty tokens) refl none
still_none one other before table act none = refl

pub sets_none : (map_ : Map) (table : Table) (given : UnfoldedLine) → line_transfer map_ table given ≡ None → SetsNone given
sets_none map_ table given none =
    λ other after. still_none map_ other (stands table given) (stands after given)
    (action given.is_own given.arguments given.live.line.text) none

-- ---- lines in two parts

pub pieces_parts : (map_ : Map) (table : Table) (lines others : List UnfoldedLine)
    → pieces_in (placed_from map_ table (lines ++ others))
    ≡ pieces_in (placed_from map_ table lines) ++ pieces_in (placed_from map_ (after_lines map_ table lines) others)
pieces_parts map_ table [] others = refl
pieces_parts map_ table (given ∷ lines) others =
    ap (λ ps. pieces map_ table given ++ ps) (pieces_parts map_ (after_line map_ table given) lines others)
    ∙ sym (append_assoc (pieces map_ table given) (pieces_in (placed_from map_ (after_line map_ table given) lines))
    (pieces_in (placed_from map_ (after_lines map_ (after_line map_ table given) lines) others)))

pub flags_parts : (map_ : Map) (table : Table) (lines others : List UnfoldedLine)
    → flags_in (placed_from map_ table (lines ++ others))
    ≡ flags_in (placed_from map_ table lines) ++ flags_in (placed_from map_ (after_lines map_ table lines) others)
flags_parts map_ table [] others = refl
flags_parts map_ table (given ∷ lines) others =
    ap (λ fs. flags map_ table given ∷ fs) (flags_parts map_ (after_line map_ table given) lines others)

pub after_parts : (map_ : Map) (table : Table) (lines others : List UnfoldedLine)
    → after_lines map_ table (lines ++ others) ≡ after_lines map_ (after_lines map_ table lines) others
after_parts map_ table [] others = refl
after_parts map_ table (given ∷ lines) others = after_parts map_ (after_line map_ table given) lines others

or_none : (found : Option Quantity) → option_or found None ≡ found
or_none None = refl
or_none (Some address) = refl

-- after lines that set no transfer address, it is that of the lines that follow
pub transfer_parts : (map_ : Map) (table : Table) (lines others : List UnfoldedLine) → AllByRecursion SetsNone lines
    → transfer_after map_ table (lines ++ others) ≡ transfer_after map_ (after_lines map_ table lines) others
transfer_parts map_ table [] others none = refl
transfer_parts map_ table (given ∷ lines) others none =
    ap (λ t. option_or (transfer_after map_ (after_line map_ table given) (lines ++ others)) t) (none.0 map_ table)
    ∙ or_none (transfer_after map_ (after_line map_ table given) (lines ++ others))
    ∙ transfer_parts map_ (after_line map_ table given) lines others none.1

-- the lines that are read from texts in two parts
pub record InParts (lines : List UnfoldedLine) (texts others : List Bytes) : Type 0 where
  pub first : List UnfoldedLine
  pub second : List UnfoldedLine
  pub whole : lines ≡ first ++ second
  pub first_read : AreRead first texts
  pub second_read : AreRead second others

pub read_parts : (lines : List UnfoldedLine) (texts others : List Bytes) → AreRead lines (texts ++ others) → InParts lines texts others
read_parts lines [] others read = record { first = []; second = lines; whole = refl; first_read = tt; second_read = read }
read_parts [] (text ∷ texts) others read = absurd read
read_parts (given ∷ lines) (text ∷ texts) others read =
    let parts = read_parts lines texts others read.1 in record {
      first = given ∷ parts.first;
      second = parts.second;
      whole = ap (λ l. given ∷ l) parts.whole;
      first_read = (read.0, parts.first_read);
      second_read = parts.second_read;
    }

-- ---- all lines

-- lines of items emit what these say, without a flag of their own, and lead to a table that defines all their symbols too
pub record Walked (map_ : Map) (table : Table) (here : ℕ) (items : List Item) (done : List Symbol) (lines : List UnfoldedLine) : Type 0 where
  pub pieces : pieces_in (placed_from map_ table lines) ≡ pieces_of here items
  pub flags : flags_in (placed_from map_ table lines) ≡ map (λ (given : UnfoldedLine). given.remarks.flags) lines
  pub quiet : AllByRecursion SetsNone lines
  pub end : Table
  pub after : after_lines map_ table lines ≡ end
  pub next : ℕ
  pub stands : StandsAt end next (done ++ all_defined items)

-- what is known of the symbols of the lines that are left
pub record CanDefine (map_ : Map) (todo : List Symbol) : Type 0 where
  pub spelled : AllByRecursion IsSpelled todo
  pub others : AllByRecursion IsNoRegister todo
  pub finals : AllByRecursion (IsFinal map_) todo
  pub distinct : AreDistinct todo

rest_defined : (map_ : Map) (symbol : Symbol) (todo : List Symbol) → CanDefine map_ (symbol ∷ todo) → CanDefine map_ todo
rest_defined map_ symbol todo can =
    record { spelled = can.spelled.1; others = can.others.1; finals = can.finals.1; distinct = can.distinct.1 }

module _ (map_ : Map) (symbols : List Symbol) (spelled : AllByRecursion IsSpelled symbols) (finals : AllByRecursion (IsFinal map_) symbols) where
  -- each symbol that may stand for an address has its value where a line stands
  has_values : (table : Table) (some : List Symbol) → AllByRecursion (Fits table) some → ((symbol : Symbol) → has_key (Named symbol.name) table.doubly_defined ≡ false)
      → AllByRecursion (IsFinal map_) some → AllByRecursion (HasValue map_ table) some
  has_values table [] fits once final = tt
  has_values table (symbol ∷ some) fits once final = (
    record {
      before = fits.0;
      once = once symbol;
      definition = final.0.definition;
      finally = final.0.last;
      is = final.0.standing;
      finally_once = final.0.once;
    },
    has_values table some fits.1 once final.1,
  )

  module _ (table : Table) (here : ℕ) (done todo : List Symbol) (at : StandsAt table here done) (new : AllByRecursion (IsNewIn table) todo)
      (among : AllByRecursion (IsAmong (done ++ todo)) symbols) where
    all_fit : AllByRecursion (Fits table) (done ++ todo)
    all_fit =
        joined (Fits table) done todo (each (IsDefinedIn table) (Fits table) (defined_fits table) done at.defined)
        (each (IsNewIn table) (Fits table) (new_fits table) todo new)

    pub all_have : AllByRecursion (HasValue map_ table) symbols
    all_have =
        has_values table symbols (members (Fits table) (done ++ todo) symbols all_fit among)
        (λ symbol. ap (has_key (Named symbol.name)) at.once) finals

  -- the lines after one that leads somewhere
  module _ (table : Table) (here : ℕ) (done : List Symbol) (item : Item) (items : List Item) (given : UnfoldedLine) (lines : List UnfoldedLine)
      (new : Table) (does : Does map_ table given here item new)
      (rest : Walked map_ new (after_item here item) items (done ++ defined_in item) lines) where
    one_more : Walked map_ table here (item ∷ items) done (given ∷ lines)
    one_more =
        let P : List Symbol → Type 0 = λ l. StandsAt rest.end rest.next l in record {
          pieces = ap₂ (λ p t. p ++ pieces_in (placed_from map_ t lines)) does.pieces does.after
              ∙ ap (λ ps. pieces_from absolute_name here (contents_in item) ++ ps) rest.pieces;
          flags = ap₂ (λ n t. n ∷ flags_in (placed_from map_ t lines)) does.flags does.after
              ∙ ap (λ l. given.remarks.flags ∷ l) rest.flags;
          quiet = (sets_none map_ table given does.transfer, rest.quiet);
          end = rest.end;
          after = ap (λ t. after_lines map_ t lines) does.after ∙ rest.after;
          next = rest.next;
          stands = subst P (append_assoc done (defined_in item) (all_defined items)) rest.stands;
        }

  -- the symbols of the lines that are left have no definition after a line either
  still_new : (table new : Table) (item : Item) (todo : List Symbol)
      → ((other : Symbol) → AllByRecursion (λ symbol. is_same_name other.name symbol.name ≡ false) (defined_in item)
      → IsNewIn table other → IsNewIn new other)
      → AllByRecursion (λ other. AllByRecursion (λ symbol. is_same_name other.name symbol.name ≡ false) (defined_in item)) todo
      → AllByRecursion (IsNewIn table) todo → AllByRecursion (IsNewIn new) todo
  still_new table new item [] keeps differ all = tt
  still_new table new item (symbol ∷ todo) keeps differ all =
      (keeps symbol differ.0 all.0, still_new table new item todo keeps differ.1 all.1)

  differ_one : (symbol : Symbol) (todo : List Symbol) → AllByRecursion (λ other. is_same_name other.name symbol.name ≡ false) todo
      → AllByRecursion (λ (other : Symbol). AllByRecursion (λ (one : Symbol). is_same_name other.name one.name ≡ false) (symbol ∷ [])) todo
  differ_one symbol [] all = tt
  differ_one symbol (other ∷ todo) all = ((all.0, tt), differ_one symbol todo all.1)

  differ_none : (todo : List Symbol)
      → AllByRecursion (λ (other : Symbol). AllByRecursion (λ (one : Symbol). is_same_name other.name one.name ≡ false) []) todo
  differ_none [] = tt
  differ_none (other ∷ todo) = (tt, differ_none todo)

  module _ (table : Table) (here : ℕ) (done : List Symbol) (at : StandsAt table here done) where
    -- a line that leads on, and the lines after it
    onward : (item : Item) (items : List Item) (given : UnfoldedLine) (lines : List UnfoldedLine)
        → AllByRecursion (IsNewIn table) (all_defined items)
        → AllByRecursion (λ other. AllByRecursion (λ symbol. is_same_name other.name symbol.name ≡ false) (defined_in item)) (all_defined items)
        → AllByRecursion (IsAmong (done ++ (defined_in item ++ all_defined items))) symbols
        → ((new : Table) → StandsAt new (after_item here item) (done ++ defined_in item) → AllByRecursion (IsNewIn new) (all_defined items)
        → AllByRecursion (IsAmong ((done ++ defined_in item) ++ all_defined items)) symbols
        → Walked map_ new (after_item here item) items (done ++ defined_in item) lines)
        → Leads map_ table here done at given item → Walked map_ table here (item ∷ items) done (given ∷ lines)
    onward item items given lines new differ among rest leads =
        let P : List Symbol → Type 0 = λ l. AllByRecursion (IsAmong l) symbols in
        one_more table here done item items given lines leads.0 leads.1
        (rest leads.0 leads.2 (still_new table leads.0 item (all_defined items) leads.3 differ new)
        (subst P (sym (append_assoc done (defined_in item) (all_defined items))) among))

  pub walked : (items : List Item) (table : Table) (here : ℕ) (done : List Symbol) → StandsAt table here done → AreSound here items
      → CanDefine map_ (all_defined items) → AllByRecursion (IsNewIn table) (all_defined items)
      → AllByRecursion (IsAmong (done ++ all_defined items)) symbols → (lines : List UnfoldedLine)
      → AreRead lines (texts_of symbols here items) → Walked map_ table here items done lines
  walked [] table here done at sound can new among [] read =
      let P : List Symbol → Type 0 = λ l. StandsAt table here l in record {
        pieces = refl;
        flags = refl;
        quiet = tt;
        end = table;
        after = refl;
        next = here;
        stands = subst P (sym (append-nil done)) at;
      }
  walked [] table here done at sound can new among (given ∷ lines) read = absurd read
  walked (item ∷ items) table here done at sound can new among [] read = absurd read
  walked (Labelled symbol ∷ items) table here done at sound can new among (given ∷ lines) read =
      onward table here done at (Labelled symbol) items given lines new.1 (differ_one symbol (all_defined items) can.distinct.0) among
      (λ t stands news amongs. walked items t here (done ++ symbol ∷ []) stands sound.1 (rest_defined map_ symbol (all_defined items) can) news
      amongs lines read.1)
      (labelled_leads map_ table here done at given symbol can.spelled.0 can.others.0 sound.0 new.0 read.0)
  walked (Assigned symbol ∷ items) table here done at sound can new among (given ∷ lines) read =
      onward table here done at (Assigned symbol) items given lines new.1 (differ_one symbol (all_defined items) can.distinct.0) among
      (λ t stands news amongs. walked items t here (done ++ symbol ∷ []) stands sound.1 (rest_defined map_ symbol (all_defined items) can) news
      amongs lines read.1)
      (assigned_leads map_ table here done at given symbol can.spelled.0 can.others.0 sound.0 new.0 can.finals.0 read.0)
  walked (Noted symbol ∷ items) table here done at sound can new among (given ∷ lines) read =
      onward table here done at (Noted symbol) items given lines new (differ_none (all_defined items)) among
      (λ t stands news amongs. walked items t here (done ++ []) stands sound.1 can news amongs lines read.1)
      (noted_leads map_ table here done at given symbol read.0)
  walked (MovedTo address ∷ items) table here done at sound can new among (given ∷ lines) read =
      onward table here done at (MovedTo address) items given lines new (differ_none (all_defined items)) among
      (λ t stands news amongs. walked items t address (done ++ []) stands sound.1 can news amongs lines read.1)
      (moved_leads map_ table here done at given address sound.0 read.0)
  walked (Shows word more ∷ items) table here done at sound can new among (given ∷ lines) read =
      onward table here done at (Shows word more) items given lines new (differ_none (all_defined items)) among
      (λ t stands news amongs. walked items t (after_item here (Shows word more)) (done ++ []) stands sound.1 can news amongs lines read.1)
      (words_lead map_ table here done at given symbols spelled (all_have table here done (all_defined items) at new among) word more sound.0.0
      sound.0.1 sound.0.2 sound.0.3 read.0)
  walked (ShowsByte byte ∷ items) table here done at sound can new among (given ∷ lines) read =
      onward table here done at (ShowsByte byte) items given lines new (differ_none (all_defined items)) among
      (λ t stands news amongs. walked items t (after_item here (ShowsByte byte)) (done ++ []) stands sound.1 can news amongs lines read.1)
      (byte_leads map_ table here done at given byte sound.0 read.0)

-- The writes of a line, part by part, and the state of the writing after it.
use Rattle.std.proofs.Common.{◌≡◌, ◌∙◌, ◌≤◌, ℕ, ◌+◌, min, Bool, true, false, not, if◌then◌else◌, List, [], ◌∷◌, ◌++◌, Option, Result, Ok, Err, IfOk, refl, sym, ap, subst, arith}
use Rattle.std.specs.Prelude.{◌==◌}
use Rattle.std.specs.Int.RustNames.{bit_or}
use Rattle.std.proofs.Math.Nat.{min-eq_left}
use Rattle.m11_asm_faults.specs.declared.fault.AsmFault.{AsmFault}
use Rattle.m11_asm_outputs.specs.Object.{IsOpenAfter, content_writes, head_contents, records_closed_by, AllFit, closed_records, last_records, object_contents}
use Rattle.m11_asm_outputs.proofs.Closing.{closed-append, closed_from_nothing, in_parts, no_closed_records}
use Rattle.m11_asm_outputs.proofs.Fitting.{all_fit-append, fit_as}
use Rattle.m11_obj.specs.Records.{EndOfModule}
use Rattle.m11_asm_outputs.specs.Outputs.{Gains, Stops, Writes, assembly}
use Rattle.m11_base_writes.specs.Outputs.{Outputs, Write, to_messages}
use Rattle.m11_base.specs.Devices.{Bytes}
use Rattle.m11_base.specs.Rad50.{Name}
use Rattle.m11_asm_directory.specs.Rows.{directory_rows}
use Rattle.m11_asm.specs.Facts.{Facts}
use Rattle.m11_asm.specs.Listed.{added_lines, all_to_listing, listing_writes}
use Rattle.m11_asm_listing.specs.Messages.{message_line}
use Rattle.m11_asm_listing.specs.SymbolTable.{last_lines}
use Rattle.m11_asm_listing.specs.declared.symbol_table.SectionEntry.{SectionEntry}
use Rattle.m11_asm_listing.specs.declared.symbol_table.SymbolEntry.{SymbolEntry}
use Rattle.m11_obj.specs.Texts.{TextParts}
use Rattle.m11_obj.specs.declared.directory.DirectoryRow.{DirectoryRow}
use Rattle.m11_obj.specs.declared.pieces.Piece.{Piece}
use Rattle.m11_obj.specs.declared.pieces.PieceContent.{PieceContent}
use Rattle.m11_asm_passes.specs.Lines.{NumberedLine, table_at}
use Rattle.m11_asm_passes.specs.Placed.{IsPlaced, all_flags}
use Rattle.m11_asm_passes.specs.declared.placed.PlacedLine.{PlacedLine}
use Rattle.m11_asm_rules.specs.Contents.{Emission, pieces_from}
use Rattle.m11_asm_rules.specs.Exports.{transfer_flags}
use Rattle.m11_asm_rules.specs.Actions.{Action}
use Rattle.m11_asm_rules.specs.Lines.{pieces, put_location, stands}
use Rattle.m11_asm_rules.specs.Operations.{action}
use Rattle.m11_asm_rules.specs.Sources.{end_flags}
use Rattle.m11_asm_rules.specs.Tables.{Table, section_name}
use Rattle.m11_asm_lines.specs.Actions.{action_in}
use Rattle.m11_asm_lines.specs.UsedSymbols.{UsedNames}
use Rattle.m11_scan.specs.ErrorFlags.{flags_text}
use Rattle.m11_scan.specs.Views.{bits_of}
use Rattle.m11_asm.specs.Sections.{section_entries}
use Rattle.m11_asm.specs.Symbols.{symbol_entries}
use Rattle.m11_unfold_rules.specs.Taking.{Live}
use Rattle.m11_scan_expressions.specs.Quantities.{Quantity}
use Rattle.m11_base_writes.proofs.Writing.{gains_nothing, stops_after, stops_before, writes_then}
use Rattle.m11_asm.specs.Program.{Program, program_by, directory_facts_by}
use Rattle.m11_asm.specs.Writing.{Writing, WritingAfter, begun, counted, counted_last, is_some_line, most_counted, opened}
use Rattle.m11_asm.specs.Written.{added_writes, closing_writes, flagged_count, flagged_in, head_before, is_flagged, flag_E, flags_at, line_writes, message_writes, pieces_in}
use Rattle.m11_asm_outputs.proofs.Looping.{writes_as}
use Rattle.m11_asm.proofs.LinesWritten.{flagged_more, none_flagged, pieces_more}

-- ---- writes

pub writes_nothing : (a : Outputs) (ws : List Write) → ws ≡ [] → Gains a a ws
writes_nothing a ws none = let P : List Write → Type 0 = λ w. Gains a a w in subst P (sym none) (gains_nothing assembly a)

pub gains_as : (a b : Outputs) (xs ys : List Write) → xs ≡ ys → Gains a b xs → Gains a b ys
gains_as a b xs ys e h = let P : List Write → Type 0 = λ these. Gains a b these in subst P e h

pub stops_as : (a b : Outputs) (xs ys : List Write) (stopped : AsmFault) → xs ≡ ys → Stops a b xs stopped → Stops a b ys stopped
stops_as a b xs ys stopped e h = let P : List Write → Type 0 = λ these. Stops a b these stopped in subst P e h

-- ---- the head

true_false : {b : Bool} → b ≡ true → b ≡ false → ⊥
true_false is other = no (sym is ∙ other)
  where
    no : true ≡ false → ⊥
    no e = cc

-- if some line was written before, the head isn't written again
head_stays_by : (program : Program) (lines : List NumberedLine) → is_some_line lines ≡ true → head_before program lines ≡ []
head_stays_by program [] is = absurd (true_false is refl)
head_stays_by program (line ∷ lines) is = refl

head_is_by : (program : Program) (lines : List NumberedLine) → is_some_line lines ≡ false
    → head_before program lines ≡ content_writes (head_contents program.rows)
head_is_by program [] is = refl
head_is_by program (line ∷ lines) is = absurd (true_false refl is)

module _ (program : Program) (lines : List NumberedLine) (writing : Writing) (stands : WritingAfter program lines writing) where
  pub head_stays : writing.has_begun ≡ true → head_before program lines ≡ []
  head_stays is = head_stays_by program lines (sym stands.begun ∙ is)

  pub head_is : writing.has_begun ≡ false → content_writes (head_contents writing.rows) ≡ head_before program lines
  head_is is =
      ap (λ (rows : List DirectoryRow). content_writes (head_contents rows)) stands.rows
      ∙ sym (head_is_by program lines (sym stands.begun ∙ is))

-- ---- messages

pub unflagged : (flags number : ℕ) (text : Bytes) → true ≡ (flags == 0) → message_writes flags number text ≡ []
unflagged flags number text none =
    ap (λ (b : Bool). if not b then to_messages (message_line (flags_text flags) number text) ∷ [] else []) (sym none)

pub flagged : (flags number : ℕ) (text : Bytes) → false ≡ (flags == 0)
    → to_messages (message_line (flags_text flags) number text) ∷ [] ≡ message_writes flags number text
flagged flags number text some =
    sym (ap (λ (b : Bool). if not b then to_messages (message_line (flags_text flags) number text) ∷ [] else []) (sym some))

pub counts_none : (flags count : ℕ) → true ≡ (flags == 0) → count ≡ counted flags count
counts_none flags count none = sym (ap (λ (b : Bool). if not b then min (count + 1) most_counted else count) (sym none))

pub counts_one : (flags count : ℕ) → false ≡ (flags == 0) → min (count + 1) most_counted ≡ counted flags count
counts_one flags count some = sym (ap (λ (b : Bool). if not b then min (count + 1) most_counted else count) (sym some))

-- ---- counts

least_by : (b : Bool) (count : ℕ) → (if b then min (min count most_counted + 1) most_counted else min count most_counted)
    ≡ min (count + (if b then 1 else 0)) most_counted
least_by true count = omega arith
least_by false count = omega arith

counted_least : (flags count : ℕ) → counted flags (min count most_counted)
    ≡ min (count + (if is_flagged flags then 1 else 0)) most_counted
counted_least flags count = least_by (is_flagged flags) count

pub counted_exactly : (program : Program) (lines : List NumberedLine) (has_end : Bool) → flagged_count program lines has_end ≤ most_counted
    → counted_last has_end (min (flagged_in program lines) most_counted) ≡ flagged_count program lines has_end
counted_exactly program lines true few = counted_least 0 (flagged_in program lines) ∙ min-eq_left few
counted_exactly program lines false few = counted_least 8 (flagged_in program lines) ∙ min-eq_left few

-- ---- a placed line

pub line_parts : (program : Program) (lines : List NumberedLine) (one : NumberedLine)
    → content_writes (records_closed_by (pieces_in program.map lines) (pieces program.map (table_at program.map lines) one.given))
    ++ (listing_writes program.map (table_at program.map lines) (flags_at program lines one) one.number one.given
    ++ message_writes (flags_at program lines one) one.number one.given.live.line.text) ≡ line_writes program lines one
unfolding line_writes
line_parts program lines one = refl

module _ (program : Program) (lines : List NumberedLine) (one : NumberedLine) (placed : PlacedLine) (emission : Emission) (contents : List PieceContent)
    (is : IsPlaced program.map (table_at program.map lines) one.given placed emission) (same : emission.contents ≡ contents) where
  pub pieces_so : pieces_from placed.section placed.location contents ≡ pieces program.map (table_at program.map lines) one.given
  pieces_so =
      let stood : Table = stands (table_at program.map lines) one.given in
      let location : ℕ = put_location stood (action one.given.is_own one.given.arguments one.given.live.line.text) in
      ap (λ (s : Name). pieces_from s placed.location contents) is.section_is
      ∙ ap (λ (p : ℕ). pieces_from (section_name stood) p contents) is.location_is
      ∙ ap (pieces_from (section_name stood) location) (sym same ∙ is.contents_are)

  pub text_so : placed.live.line.text ≡ one.given.live.line.text
  text_so = ap (λ (l : Live). l.line.text) is.is_live.live_is

  pub flags_so : (transfer : Option Quantity) → transfer ≡ program.transfer
      → bit_or (bits_of placed.flags) (end_flags (transfer_flags transfer) (action_in one.given.live.line.text placed.live.operation))
      ≡ flags_at program lines one
  flags_so transfer told =
      let own : ℕ = all_flags program.map (table_at program.map lines) one.given in
      ap (λ (l : ℕ). bit_or l (end_flags (transfer_flags transfer) (action_in one.given.live.line.text placed.live.operation))) is.flags_are
      ∙ ap (λ (t : Option Quantity). bit_or own (end_flags (transfer_flags t) (action_in one.given.live.line.text placed.live.operation))) told
      ∙ ap (λ (d : Action). bit_or own (end_flags (transfer_flags program.transfer) d)) is.is_live.action_is

-- the writes to the listing for a line with these flags and this number
abbrev pub shown : Program → List NumberedLine → NumberedLine → ℕ → ℕ → List Write
shown program lines one flags number = listing_writes program.map (table_at program.map lines) flags number one.given

-- the writes of a line's parts, one after the other
module _ (program : Program) (lines : List NumberedLine) (one : NumberedLine) (a b c : Outputs) where
  abbrev pub texts : List Piece → List Write
  texts ps = content_writes (records_closed_by (pieces_in program.map lines) ps)

  abbrev pub rest : List Write
  rest = shown program lines one (flags_at program lines one) one.number
      ++ message_writes (flags_at program lines one) one.number one.given.live.line.text

  abbrev pub here : List Piece
  here = pieces program.map (table_at program.map lines) one.given

  pub line_stops : (ps : List Piece) (stopped : AsmFault) → ps ≡ here → Gains a b (head_before program lines)
      → Stops b c (texts ps) stopped
      → Stops a c (head_before program lines ++ line_writes program lines one) stopped
  line_stops ps stopped are head stops =
      let P : List Write → Type 0 = λ ws. Stops a c (head_before program lines ++ ws) stopped in
      let Q : List Piece → Type 0 = λ these. Stops b c (texts these) stopped in
      subst P (line_parts program lines one)
      (stops_after assembly a b c (head_before program lines) (texts here ++ rest) stopped head
      (stops_before assembly b c (texts here) rest stopped (subst Q are stops)))

  -- if the head and the texts are written, the writes to the listing and to the messages complete those of the line
  pub line_goes_on : {A : Type 0} (d : Outputs) (ps : List Piece) (flags number : ℕ) (text : Bytes) (result : Result A AsmFault) → ps ≡ here
      → flags ≡ flags_at program lines one → number ≡ one.number → text ≡ one.given.live.line.text
      → Gains a b (head_before program lines) → Gains b c (texts ps)
      → Writes c d (shown program lines one flags number ++ message_writes flags number text) result
      → Writes a d (head_before program lines ++ line_writes program lines one) result
  line_goes_on d ps flags number text result are flags_are number_is text_is head emission goes =
      let P : List Write → Type 0 = λ ws. Writes a d (head_before program lines ++ ws) result in
      let Q : List Piece → Type 0 = λ these. Gains b c (texts these) in
      let own : ℕ = flags_at program lines one in
      let of : ℕ → ℕ → Bytes → List Write = λ l n t. shown program lines one l n ++ message_writes l n t in
      let same : of flags number text ≡ rest =
      ap (λ (l : ℕ). of l number text) flags_are ∙ ap (λ (n : ℕ). of own n text) number_is ∙ ap (of own one.number) text_is in
      subst P (line_parts program lines one)
      (writes_then assembly a b d (head_before program lines) (texts here ++ rest) result head
      (writes_then assembly b c d (texts here) rest result (subst Q are emission) (writes_as c d _ _ result same goes)))

-- the state of the writing after the line
module _ (program : Program) (lines : List NumberedLine) (one : NumberedLine) (old : Writing) (stands : WritingAfter program lines old) where
  some_more : (all : List NumberedLine) → true ≡ is_some_line (all ++ one ∷ [])
  some_more [] = refl
  some_more (line ∷ all) = refl

  pub stands_more : (text : Option TextParts) (more : List Piece) (flags : ℕ)
      → more ≡ pieces program.map (table_at program.map lines) one.given → flags ≡ flags_at program lines one
      → IsOpenAfter (pieces_in program.map lines ++ more) text
      → AllFit (head_contents program.rows) → AllFit (records_closed_by (pieces_in program.map lines) more)
      → WritingAfter program (lines ++ one ∷ [])
      (record {
        rows = old.rows;
        transfer = old.transfer;
        symbols = old.symbols;
        sections = old.sections;
        text = text;
        has_begun = true;
        flagged = counted flags old.flagged;
      })
  stands_more text more flags more_is flags_is opens head_fits more_fit = record {
    rows = stands.rows;
    transfer = stands.transfer;
    symbols = stands.symbols;
    sections = stands.sections;
    text = subst (λ (ps : List Piece). IsOpenAfter ps text)
        (ap (λ (ps : List Piece). pieces_in program.map lines ++ ps) more_is ∙ sym (pieces_more program.map lines one)) opens;
    begun = some_more lines;
    flagged = ap (counted flags) stands.flagged ∙ counted_least flags (flagged_in program lines)
        ∙ ap (λ (l : ℕ). min (flagged_in program lines + (if is_flagged l then 1 else 0)) most_counted) flags_is
        ∙ ap (λ (n : ℕ). min n most_counted) (sym (flagged_more program lines one));
    head = λ is. head_fits;
    closed = fit_as _ _
        (sym (closed-append (pieces_in program.map lines) more)
        ∙ ap (λ (ps : List Piece). closed_records (pieces_in program.map lines ++ ps)) more_is
        ∙ ap closed_records (sym (pieces_more program.map lines one)))
        (all_fit-append _ _ stands.closed more_fit);
  }

none_put : (program : Program) → pieces_in program.map [] ≡ []
unfolding pieces_in
none_put program = refl

pub keeps_more : {E : Type 0} (program : Program) (lines : List NumberedLine) (one : NumberedLine) (old : Writing)
    → WritingAfter program lines old → (began emission listed new : Writing) (more : List Piece) (flags : ℕ) (result : Result (Unit {0}) E)
    → began ≡ begun old → emission ≡ opened emission.text began → listed ≡ emission
    → more ≡ pieces program.map (table_at program.map lines) one.given
    → flags ≡ flags_at program lines one → IsOpenAfter (pieces_in program.map lines ++ more) emission.text
    → AllFit (head_contents program.rows) → AllFit (records_closed_by (pieces_in program.map lines) more)
    → IfOk result (λ _. new ≡ record listed { flagged = counted flags listed.flagged })
    → IfOk result (λ _. WritingAfter program (lines ++ one ∷ []) new)
keeps_more program lines one old stands began emission listed new more flags (Err stopped) begins opens stays more_is flags_is open_after head_fits more_fit so = tt
keeps_more program lines one old stands began emission listed new more flags (Ok done) begins opens stays more_is flags_is open_after head_fits more_fit so =
    let whole = so ∙ ap (λ (w : Writing). record w { flagged = counted flags w.flagged }) (stays ∙ opens ∙ ap (opened emission.text) begins) in
    subst (λ (w : Writing). WritingAfter program (lines ++ one ∷ []) w) (sym whole)
    (stands_more program lines one old stands emission.text more flags more_is flags_is open_after head_fits more_fit)

-- ---- the end

-- the writes for the line that is added if no `.END` became live
abbrev added_to_both : ℕ → ℕ → ℕ → List Write
added_to_both flags read counter = all_to_listing (added_lines flags read counter) ++ message_writes flags read []

pub none_added : (read counter : ℕ) (has_end : Bool) → has_end ≡ true
    → added_writes (record { read = read; has_end = has_end }) counter ≡ []
none_added read counter has_end is = ap (λ (b : Bool). if b then [] else added_to_both flag_E read counter) is

pub one_added : {A : Type 0} (a b : Outputs) (flags read counter : ℕ) (has_end : Bool) (result : Result A AsmFault) → has_end ≡ false
    → flags ≡ flag_E → Writes a b (added_to_both flags read counter) result
    → Writes a b (added_writes (record { read = read; has_end = has_end }) counter) result
one_added a b flags read counter has_end result is are h =
    writes_as a b (added_to_both flags read counter) (added_writes (record { read = read; has_end = has_end }) counter) result
    (ap (λ n. added_to_both n read counter) are ∙ sym (ap (λ (b : Bool). if b then [] else added_to_both flag_E read counter) is)) h

-- the symbol table of these entries and this count is that of the state of the writing
pub table_so : (writing : Writing) (symbols : List SymbolEntry) (sections : List SectionEntry) (count : ℕ)
    → symbols ≡ writing.symbols → sections ≡ writing.sections → count ≡ writing.flagged
    → all_to_listing (last_lines symbols sections count)
    ≡ all_to_listing (last_lines writing.symbols writing.sections writing.flagged)
table_so writing symbols sections count symbols_are sections_are counts =
    ap (λ (y : List SymbolEntry). all_to_listing (last_lines y sections count)) symbols_are
    ∙ ap (λ (s : List SectionEntry). all_to_listing (last_lines writing.symbols s count)) sections_are
    ∙ ap (λ (n : ℕ). all_to_listing (last_lines writing.symbols writing.sections n)) counts

-- the text that is open after all lines, and the closing writes
module _ (program : Program) (lines : List NumberedLine) (old begun_ new : Writing) (stands : WritingAfter program lines old)
    (has_end : Bool) (begins : begun_ ≡ begun old) (counts : new ≡ record begun_ { flagged = counted_last has_end begun_.flagged }) where
  pub last_open : IsOpenAfter (pieces_in program.map lines) new.text
  last_open =
      subst (λ (t : Option TextParts). IsOpenAfter (pieces_in program.map lines) t)
      (sym (ap (λ (w : Writing). w.text) counts ∙ ap (λ (w : Writing). w.text) begins)) stands.text

  pub last_count : flagged_count program lines has_end ≤ most_counted → new.flagged ≡ flagged_count program lines has_end
  last_count few =
      ap (λ (w : Writing). w.flagged) counts ∙ ap (λ (w : Writing). counted_last has_end w.flagged) begins
      ∙ ap (counted_last has_end) stands.flagged ∙ counted_exactly program lines has_end few

  pub closes_so : flagged_count program lines has_end ≤ most_counted
      → closing_writes (pieces_in program.map lines) new.symbols new.sections new.flagged
      ≡ closing_writes (pieces_in program.map lines) program.symbols program.sections (flagged_count program lines has_end)
  closes_so few =
      let ps = pieces_in program.map lines in
      ap (λ (y : List SymbolEntry). closing_writes ps y new.sections new.flagged)
      (ap (λ (w : Writing). w.symbols) counts ∙ ap (λ (w : Writing). w.symbols) begins ∙ stands.symbols)
      ∙ ap (λ (s : List SectionEntry). closing_writes ps program.symbols s new.flagged)
      (ap (λ (w : Writing). w.sections) counts ∙ ap (λ (w : Writing). w.sections) begins ∙ stands.sections)
      ∙ ap (λ (n : ℕ). closing_writes ps program.symbols program.sections n) (last_count few)

-- all records of the object fit if its head and its last records do
pub object_fits : (program : Program) (lines : List NumberedLine) (writing : Writing) → WritingAfter program lines writing
    → AllFit (head_contents program.rows) → AllFit (last_records (pieces_in program.map lines) ++ EndOfModule ∷ [])
    → AllFit (object_contents program.rows (pieces_in program.map lines))
object_fits program lines writing stands head last =
    let ps = pieces_in program.map lines in
    fit_as _ _ (sym (in_parts program.rows ps))
    (all_fit-append _ _ head (all_fit-append _ _ (fit_as _ _ (sym (closed_from_nothing ps)) stands.closed) last))

-- ---- before the first line

pub stands_first : (table : Table) (used_names : UsedNames) (facts : Facts) (rows : List DirectoryRow) (transfer : Option Quantity)
    (symbols : List SymbolEntry) (sections : List SectionEntry) (text : Option TextParts)
    → rows ≡ directory_rows (directory_facts_by table used_names facts) → transfer ≡ facts.transfer
    → symbols ≡ symbol_entries (directory_facts_by table used_names facts) (used_names.names ++ used_names.registers)
    → sections ≡ section_entries (directory_facts_by table used_names facts) → IsOpenAfter [] text
    → WritingAfter (program_by table used_names facts) [] (record {
      rows = rows;
      transfer = transfer;
      symbols = symbols;
      sections = sections;
      text = text;
      has_begun = false;
      flagged = 0;
    })
stands_first table used_names facts rows transfer symbols sections text rows_are told symbols_are sections_are opens =
    let program = program_by table used_names facts in
    record {
      rows = rows_are;
      transfer = told;
      symbols = symbols_are;
      sections = sections_are;
      text = subst (λ (ps : List Piece). IsOpenAfter ps text) (sym (none_put program)) opens;
      begun = refl;
      flagged = sym (ap (λ (n : ℕ). min n most_counted) (none_flagged program));
      head = λ is. absurd (true_false is refl);
      closed = fit_as [] _ (sym no_closed_records ∙ sym (ap closed_records (none_put program))) tt;
    }

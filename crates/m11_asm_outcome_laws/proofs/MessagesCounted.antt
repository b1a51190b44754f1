-- Each flagged line writes one message, and the only other message is the count.
use Rattle.std.proofs.Common.{◌≡◌, ◌∙◌, ℕ, ◌+◌, Bool, true, false, if◌then◌else◌, List, [], ◌∷◌, ◌++◌, cond, count_by, ap, arith, refl}
use Rattle.std.proofs.lemmas.List.Sums.{sum_by-append, sum_by-cons}
use Rattle.m11_asm_outputs.specs.Object.{content_writes, head_contents, last_records, records_closed_by}
use Rattle.m11_base_writes.specs.Outputs.{Write, flushes, to_messages, to_product, to_report}
use Rattle.m11_base.specs.Devices.{Bytes}
use Rattle.m11_asm.specs.Listed.{added_lines, all_to_listing, lines_of, listing_writes}
use Rattle.m11_asm_listing.specs.Messages.{count_line, message_line}
use Rattle.m11_asm_listing.specs.SymbolTable.{last_lines}
use Rattle.m11_obj.specs.Records.{Content, EndOfModule, record_data}
use Rattle.m11_obj_blocks.specs.Frames.{block}
use Rattle.m11_asm_passes.specs.Lines.{NumberedLine, table_at}
use Rattle.m11_asm_rules.specs.Items.{is_listed}
use Rattle.m11_asm_rules.specs.Lines.{after_line, pieces}
use Rattle.m11_asm_rules.specs.Meanings.{Map}
use Rattle.m11_asm_rules.specs.Tables.{Table}
use Rattle.m11_scan.specs.ErrorFlags.{flags_text}
use Rattle.m11_asm.specs.Program.{Program}
use Rattle.m11_asm.specs.Written.{EndOfSource, added_writes, closing_writes, flagged_count, flagged_in, head_before, is_flagged, last_location, last_writes, flag_E, flags_after, flags_at, line_writes, message_writes, pieces_in, program_writes, written, written_after}
use Rattle.m11_unfold_rules.specs.Unfolding.{UnfoldedLine}
use Rattle.m11_asm_outcome_laws.specs.Messages.{is_message, messages_in}

abbrev one_if_message : Write → ℕ
one_if_message write = cond (is_message write) 1 0

abbrev one_if_flagged : ℕ → ℕ
one_if_flagged flags = cond (is_flagged flags) 1 0

of_both : (xs ys : List Write) → messages_in (xs ++ ys) ≡ messages_in xs + messages_in ys
of_both xs ys = sum_by-append one_if_message xs ys

of_contents : (contents : List Content) → messages_in (content_writes contents) ≡ 0
unfolding content_writes
of_contents [] = refl
of_contents (content ∷ contents) =
    sum_by-cons one_if_message (to_product (block (record_data content))) (content_writes contents) ∙ omega (arith, of_contents contents)

of_listing : (lines : List Bytes) → messages_in (all_to_listing lines) ≡ 0
of_listing [] = refl
of_listing (line ∷ lines) =
    sum_by-cons one_if_message (to_report line) (all_to_listing lines) ∙ omega (arith, of_listing lines)

listed_or_not : (lines : List Bytes) (listed : Bool) → messages_in (if listed then all_to_listing lines else []) ≡ 0
listed_or_not lines true = of_listing lines
listed_or_not lines false = refl

of_listed_line : (map : Map) (table : Table) (flags number : ℕ) (given : UnfoldedLine)
    → messages_in (listing_writes map table flags number given) ≡ 0
unfolding listing_writes
of_listed_line map table flags number given =
    listed_or_not (lines_of map table flags number given) (is_listed (after_line map table given) given flags)

flagged_or_not : (message : Bytes) (flagged : Bool)
    → messages_in (if flagged then to_messages message ∷ [] else []) ≡ cond flagged 1 0
flagged_or_not message true = refl
flagged_or_not message false = refl

of_message : (flags number : ℕ) (text : Bytes) → messages_in (message_writes flags number text) ≡ one_if_flagged flags
of_message flags number text = flagged_or_not (message_line (flags_text flags) number text) (is_flagged flags)

module _ (program : Program) where
  of_head : (before : List NumberedLine) → messages_in (head_before program before) ≡ 0
  of_head [] = of_contents (head_contents program.rows)
  of_head (line ∷ before) = refl

  of_line : (before : List NumberedLine) (line : NumberedLine)
      → messages_in (line_writes program before line) ≡ one_if_flagged (flags_at program before line)
  unfolding line_writes
  of_line before line =
      let flags = flags_at program before line in
      let texts = content_writes (records_closed_by (pieces_in program.map before)
      (pieces program.map (table_at program.map before) line.given)) in
      let listed = listing_writes program.map (table_at program.map before) flags line.number line.given in
      let message = message_writes flags line.number line.given.live.line.text in
      of_both texts (listed ++ message) ∙ ap (λ (n : ℕ). messages_in texts + n) (of_both listed message)
      ∙ omega (
        arith,
        of_contents (records_closed_by (pieces_in program.map before)
            (pieces program.map (table_at program.map before) line.given)),
        of_listed_line program.map (table_at program.map before) flags line.number line.given,
        of_message flags line.number line.given.live.line.text,
      )

  of_lines : (before all : List NumberedLine)
      → messages_in (written_after program before all) ≡ count_by is_flagged (flags_after program before all)
  of_lines before [] = refl
  of_lines before (line ∷ all) =
      let head = head_before program before in
      let here = line_writes program before line in
      let rest = written_after program (before ++ line ∷ []) all in
      let flags = flags_at program before line in
      of_both (head ++ here) rest ∙ ap (λ (n : ℕ). n + messages_in rest) (of_both head here)
      ∙ omega (
        arith,
        of_head before,
        of_line before line,
        of_lines (before ++ line ∷ []) all,
        sum_by-cons one_if_flagged flags (flags_after program (before ++ line ∷ []) all),
      )

  of_written : (all : List NumberedLine) → messages_in (written program all) ≡ flagged_in program all
  unfolding written flagged_in
  of_written all = of_lines [] all

  of_added : (read counter : ℕ) (has_end : Bool)
      → messages_in (added_writes (record { read = read; has_end = has_end }) counter) ≡ (if has_end then 0 else 1)
  of_added read counter true = refl
  of_added read counter false =
      of_both (all_to_listing (added_lines flag_E read counter)) (message_writes flag_E read [])
      ∙ omega (arith, of_listing (added_lines flag_E read counter), of_message flag_E read [])

  of_closing : (all : List NumberedLine) (count : ℕ)
      → messages_in (closing_writes (pieces_in program.map all) program.symbols program.sections count) ≡ 1
  of_closing all count =
      let contents = last_records (pieces_in program.map all) ++ EndOfModule ∷ [] in
      let table = last_lines program.symbols program.sections count in
      of_both (content_writes contents) (all_to_listing table ++ (flushes ++ to_messages (count_line count) ∷ []))
      ∙ ap (λ (n : ℕ). messages_in (content_writes contents) + n) (of_both (all_to_listing table) (flushes ++ to_messages (count_line count) ∷ []))
      ∙ omega (arith, of_contents contents, of_listing table)

  pub as_many_messages : (all : List NumberedLine) (ended : EndOfSource)
      → messages_in (program_writes program all ended) ≡ flagged_count program all ended.has_end + 1
  as_many_messages all ended =
      let head = head_before program all in
      let added = added_writes ended (last_location program all) in
      let closing = closing_writes (pieces_in program.map all) program.symbols program.sections
      (flagged_count program all ended.has_end) in
      of_both (written program all) (last_writes program all ended)
      ∙ ap (λ (n : ℕ). messages_in (written program all) + n)
      (of_both head (added ++ closing) ∙ ap (λ (n : ℕ). messages_in head + n) (of_both added closing))
      ∙ omega (
        arith,
        of_written all,
        of_head all,
        of_added ended.read (last_location program all) ended.has_end,
        of_closing all (flagged_count program all ended.has_end),
      )

-- The writes of the lines of a source to the object are the blocks of its contents.
use Rattle.std.proofs.Common.{◌≡◌, ◌∙◌, ℕ, Bool, true, false, if◌then◌else◌, List, [], ◌∷◌, ◌++◌, append_assoc, append-nil, refl, sym, ap, ap₂}
use Rattle.std.specs.List.{flat_map}
use Rattle.std.proofs.lemmas.Grind.{flat_map-append}
use Rattle.m11_asm.proofs.LinesWritten.{pieces_more}
use Rattle.m11_asm.specs.Program.{Program}
use Rattle.m11_asm.specs.Written.{EndOfSource, added_writes, closing_writes, flagged_count, head_before, is_flagged, last_location, last_writes, flag_E, flags_at, line_writes, message_writes, pieces_in, program_writes, written, written_after}
use Rattle.m11_base_writes.specs.declared.outputs.Output.TheVariants.{Product}
use Rattle.m11_asm_outputs.proofs.Closing.{all_records, closed-append}
use Rattle.m11_asm_outputs.specs.Object.{closed_records, content_writes, head_contents, last_records, object_contents, records_closed_by}
use Rattle.m11_asm_outputs.specs.Outputs.{assembly}
use Rattle.m11_base_writes.specs.Outputs.{Write, flushes, to_messages}
use Rattle.m11_base.specs.Devices.{Bytes}
use Rattle.m11_asm.specs.Listed.{added_lines, all_to_listing, lines_of, listing_writes}
use Rattle.m11_asm_listing.specs.Messages.{count_line, message_line}
use Rattle.m11_asm_listing.specs.SymbolTable.{last_lines}
use Rattle.m11_obj.specs.Records.{Content, EndOfModule}
use Rattle.m11_obj.specs.Fronts.{fronts_of}
use Rattle.m11_obj.specs.Texts.{text_records}
use Rattle.m11_obj.specs.declared.pieces.Piece.{Piece}
use Rattle.m11_asm_passes.specs.Lines.{NumberedLine, table_at}
use Rattle.m11_asm_rules.specs.Items.{is_listed}
use Rattle.m11_asm_rules.specs.Lines.{after_line, pieces}
use Rattle.m11_asm_rules.specs.Meanings.{Map}
use Rattle.m11_asm_rules.specs.Tables.{Table}
use Rattle.m11_scan.specs.ErrorFlags.{flags_text}
use Rattle.m11_unfold_rules.specs.Unfolding.{UnfoldedLine}
use Rattle.m11_base_writes.proofs.Writing.{gained-append}
use Rattle.m11_base_writes.specs.Writes.{gained}
use Rattle.m11_asm_outcome_laws.specs.Outputs.{content_block}

-- ---- the bytes that the object gains

abbrev gains : List Write → Bytes
gains writes = gained assembly Product writes

abbrev blocks : List Content → Bytes
blocks contents = flat_map content_block contents

of_both : (xs ys : List Write) → gains (xs ++ ys) ≡ gains xs ++ gains ys
of_both xs ys = gained-append assembly Product xs ys

both_blocks : (xs ys : List Content) → blocks (xs ++ ys) ≡ blocks xs ++ blocks ys
both_blocks xs ys = flat_map-append content_block xs ys

of_nothing : gains [] ≡ []
unfolding gained
of_nothing = refl

of_contents : (contents : List Content) → gains (content_writes contents) ≡ blocks contents
unfolding content_writes gained
of_contents [] = refl
of_contents (content ∷ contents) = ap (λ (t : Bytes). content_block content ++ t) (of_contents contents)

of_listing : (lines : List Bytes) → gains (all_to_listing lines) ≡ []
unfolding gained
of_listing [] = refl
of_listing (line ∷ lines) = of_listing lines

listed_or_not : (lines : List Bytes) (listed : Bool) → gains (if listed then all_to_listing lines else []) ≡ []
listed_or_not lines true = of_listing lines
listed_or_not lines false = of_nothing

of_listed_line : (map : Map) (table : Table) (flags number : ℕ) (given : UnfoldedLine)
    → gains (listing_writes map table flags number given) ≡ []
unfolding listing_writes
of_listed_line map table flags number given =
    listed_or_not (lines_of map table flags number given) (is_listed (after_line map table given) given flags)

flagged_or_not : (message : Bytes) (flagged : Bool) → gains (if flagged then to_messages message ∷ [] else []) ≡ []
unfolding gained
flagged_or_not message true = refl
flagged_or_not message false = refl

of_message : (flags number : ℕ) (text : Bytes) → gains (message_writes flags number text) ≡ []
of_message flags number text =
    flagged_or_not (message_line (flags_text flags) number text) (is_flagged flags)

-- if the second and the third of three lists of writes add nothing to the object, the object gains what the first list adds
then_two : (xs ys zs : List Write) → gains ys ≡ [] → gains zs ≡ [] → gains (xs ++ (ys ++ zs)) ≡ gains xs
then_two xs ys zs none nothing =
    of_both xs (ys ++ zs) ∙ ap (λ (t : Bytes). gains xs ++ t) (of_both ys zs ∙ ap₂ (λ (s t : Bytes). s ++ t) none nothing)
    ∙ append-nil (gains xs)

no_closed_records : closed_records [] ≡ []
unfolding closed_records fronts_of
no_closed_records = refl

no_pieces : (map : Map) → pieces_in map [] ≡ []
unfolding pieces_in
no_pieces map = refl

module _ (program : Program) where
  abbrev head : Bytes
  head = blocks (head_contents program.rows)

  abbrev pieces_at : List NumberedLine → List Piece
  pieces_at before = pieces_in program.map before

  of_line : (before : List NumberedLine) (line : NumberedLine) → gains (line_writes program before line)
      ≡ blocks (records_closed_by (pieces_at before) (pieces program.map (table_at program.map before) line.given))
  unfolding line_writes
  of_line before line =
      let flags = flags_at program before line in
      let closed = records_closed_by (pieces_at before) (pieces program.map (table_at program.map before) line.given) in
      then_two (content_writes closed)
      (listing_writes program.map (table_at program.map before) flags line.number line.given)
      (message_writes flags line.number line.given.live.line.text)
      (of_listed_line program.map (table_at program.map before) flags line.number line.given)
      (of_message flags line.number line.given.live.line.text) ∙ of_contents closed

  -- ---- after some lines

  abbrev head_after : List NumberedLine → Bytes
  head_after [] = []
  head_after (line ∷ lines) = head

  abbrev so_far : List NumberedLine → Bytes
  so_far lines = head_after lines ++ blocks (closed_records (pieces_at lines))

  head_is_there : (before : List NumberedLine) (line : NumberedLine) → head_after (before ++ line ∷ []) ≡ head
  head_is_there [] line = refl
  head_is_there (first ∷ before) line = refl

  nothing_closed : blocks (closed_records (pieces_at [])) ≡ []
  nothing_closed = ap blocks (ap closed_records (no_pieces program.map) ∙ no_closed_records)

  -- after the head is written, the object has gained the head and the closed texts, in this order
  with_head : (before : List NumberedLine) → so_far before ++ gains (head_before program before)
      ≡ head ++ blocks (closed_records (pieces_at before))
  with_head [] =
      ap₂ (λ (s t : Bytes). s ++ t) nothing_closed (of_contents (head_contents program.rows))
      ∙ sym (append-nil head) ∙ ap (λ (t : Bytes). head ++ t) (sym nothing_closed)
  with_head (line ∷ before) = ap (λ (t : Bytes). so_far (line ∷ before) ++ t) of_nothing ∙ append-nil (so_far (line ∷ before))

  line_closes : (before : List NumberedLine) (line : NumberedLine)
      → blocks (closed_records (pieces_at before)) ++ gains (line_writes program before line)
      ≡ blocks (closed_records (pieces_at (before ++ line ∷ [])))
  line_closes before line =
      let here = pieces program.map (table_at program.map before) line.given in
      ap (λ (t : Bytes). blocks (closed_records (pieces_at before)) ++ t) (of_line before line)
      ∙ sym (both_blocks (closed_records (pieces_at before)) (records_closed_by (pieces_at before) here))
      ∙ ap blocks (sym (closed-append (pieces_at before) here))
      ∙ ap (λ (ps : List Piece). blocks (closed_records ps)) (sym (pieces_more program.map before line))

  one_more : (before : List NumberedLine) (line : NumberedLine)
      → so_far before ++ gains (head_before program before ++ line_writes program before line) ≡ so_far (before ++ line ∷ [])
  one_more before line =
      let closed = blocks (closed_records (pieces_at before)) in
      let own = gains (line_writes program before line) in
      ap (λ (t : Bytes). so_far before ++ t) (of_both (head_before program before) (line_writes program before line))
      ∙ sym (append_assoc (so_far before) (gains (head_before program before)) own)
      ∙ ap (λ (t : Bytes). t ++ own) (with_head before)
      ∙ append_assoc head closed own
      ∙ ap₂ (λ (s t : Bytes). s ++ t) (sym (head_is_there before line)) (line_closes before line)

  of_lines : (before lines : List NumberedLine)
      → so_far before ++ gains (written_after program before lines) ≡ so_far (before ++ lines)
  of_lines before [] =
      ap (λ (t : Bytes). so_far before ++ t) of_nothing ∙ append-nil (so_far before)
      ∙ ap so_far (sym (append-nil before))
  of_lines before (line ∷ lines) =
      let here = head_before program before ++ line_writes program before line in
      let rest = written_after program (before ++ line ∷ []) lines in
      ap (λ (t : Bytes). so_far before ++ t) (of_both here rest)
      ∙ sym (append_assoc (so_far before) (gains here) (gains rest))
      ∙ ap (λ (t : Bytes). t ++ gains rest) (one_more before line)
      ∙ of_lines (before ++ line ∷ []) lines
      ∙ ap so_far (append_assoc before (line ∷ []) lines)

  of_written : (lines : List NumberedLine) → gains (written program lines) ≡ so_far lines
  unfolding written
  of_written lines =
      ap (λ (t : Bytes). t ++ gains (written_after program [] lines)) (sym nothing_closed) ∙ of_lines [] lines

  -- ---- the end

  of_added : (ended : EndOfSource) (counter : ℕ) → gains (added_writes ended counter) ≡ []
  of_added ended counter = by_end ended.has_end
    where
      either : gains (all_to_listing (added_lines flag_E ended.read counter) ++ message_writes flag_E ended.read []) ≡ []
      either =
          of_both (all_to_listing (added_lines flag_E ended.read counter)) (message_writes flag_E ended.read [])
          ∙ ap₂ (λ (s t : Bytes). s ++ t) (of_listing (added_lines flag_E ended.read counter))
          (of_message flag_E ended.read [])

      by_end : (b : Bool) → gains (if b then []
          else all_to_listing (added_lines flag_E ended.read counter) ++ message_writes flag_E ended.read []) ≡ []
      by_end true = of_nothing
      by_end false = either

  of_count : (count : ℕ) → gains (flushes ++ to_messages (count_line count) ∷ []) ≡ []
  unfolding gained
  of_count count = refl

  of_closing : (lines : List NumberedLine) (count : ℕ)
      → gains (closing_writes (pieces_at lines) program.symbols program.sections count)
      ≡ blocks (last_records (pieces_at lines) ++ EndOfModule ∷ [])
  of_closing lines count =
      let last = last_records (pieces_at lines) ++ EndOfModule ∷ [] in
      then_two (content_writes last) (all_to_listing (last_lines program.symbols program.sections count))
      (flushes ++ to_messages (count_line count) ∷ []) (of_listing (last_lines program.symbols program.sections count))
      (of_count count) ∙ of_contents last

  -- the closed texts and the last text are all texts
  all_texts : (ps : List Piece) → blocks (closed_records ps) ++ blocks (last_records ps ++ EndOfModule ∷ [])
      ≡ blocks (text_records ps ++ EndOfModule ∷ [])
  all_texts ps =
      sym (both_blocks (closed_records ps) (last_records ps ++ EndOfModule ∷ []))
      ∙ ap blocks (sym (append_assoc (closed_records ps) (last_records ps) (EndOfModule ∷ [])))
      ∙ ap (λ (cs : List Content). blocks (cs ++ EndOfModule ∷ [])) (all_records ps)

  whole_object : (ps : List Piece)
      → head ++ blocks (text_records ps ++ EndOfModule ∷ []) ≡ blocks (object_contents program.rows ps)
  whole_object ps =
      sym (both_blocks (head_contents program.rows) (text_records ps ++ EndOfModule ∷ []))
      ∙ ap blocks (sym (append_assoc (head_contents program.rows) (text_records ps) (EndOfModule ∷ [])))

  pub object_is_its_blocks : (lines : List NumberedLine) (ended : EndOfSource)
      → gains (program_writes program lines ended) ≡ blocks (object_contents program.rows (pieces_at lines))
  object_is_its_blocks lines ended =
      let first = head_before program lines in
      let added = added_writes ended (last_location program lines) in
      let count = flagged_count program lines ended.has_end in
      let closing = closing_writes (pieces_at lines) program.symbols program.sections count in
      let closed = blocks (closed_records (pieces_at lines)) in
      of_both (written program lines) (last_writes program lines ended)
      ∙ ap₂ (λ (s t : Bytes). s ++ t) (of_written lines) (of_both first (added ++ closing))
      ∙ sym (append_assoc (so_far lines) (gains first) (gains (added ++ closing)))
      ∙ ap₂ (λ (s t : Bytes). s ++ t) (with_head lines)
      (of_both added closing ∙ ap₂ (λ (s t : Bytes). s ++ t) (of_added ended (last_location program lines)) (of_closing lines count))
      ∙ append_assoc head closed (blocks (last_records (pieces_at lines) ++ EndOfModule ∷ []))
      ∙ ap (λ (t : Bytes). head ++ t) (all_texts (pieces_at lines))
      ∙ whole_object (pieces_at lines)

-- The listing and the messages of an assembly are their lines, one after another.
use Rattle.std.proofs.Common.{◌≡◌, ◌∙◌, ℕ, Bool, true, false, if◌then◌else◌, List, [], ◌∷◌, ◌++◌, append-nil, Option, Some, None, refl, sym, ap, ap₂}
use Rattle.std.specs.List.{concat, cons_option}
use Rattle.std.proofs.lemmas.List.Folds.{concat-append}
use Rattle.m11_asm.specs.Program.{Program}
use Rattle.m11_asm.specs.Written.{EndOfSource, added_writes, closing_writes, flagged_count, head_before, is_flagged, last_location, last_writes, flag_E, flags_at, line_writes, message_writes, pieces_in, program_writes, written, written_after}
use Rattle.m11_base_writes.specs.declared.outputs.Output.{Output}
use Rattle.m11_base_writes.specs.declared.outputs.Output.TheVariants.{Report, Messages}
use Rattle.m11_asm_outputs.specs.Object.{content_writes, head_contents, last_records, records_closed_by}
use Rattle.m11_asm_outputs.specs.Outputs.{assembly}
use Rattle.m11_base_writes.specs.Outputs.{Write, flushes, to_messages}
use Rattle.m11_base.specs.Devices.{Bytes}
use Rattle.m11_asm.specs.Listed.{added_lines, all_to_listing, lines_of, listing_writes}
use Rattle.m11_asm_listing.specs.Messages.{count_line, message_line}
use Rattle.m11_asm_listing.specs.SymbolTable.{last_lines}
use Rattle.m11_obj.specs.Records.{Content, EndOfModule}
use Rattle.m11_asm_passes.specs.Lines.{NumberedLine, table_at}
use Rattle.m11_asm_rules.specs.Items.{is_listed}
use Rattle.m11_asm_rules.specs.Lines.{after_line, pieces}
use Rattle.m11_scan.specs.ErrorFlags.{flags_text}
use Rattle.m11_base_writes.proofs.Writing.{gained-append}
use Rattle.m11_base_writes.specs.Writes.{gained}
use Rattle.m11_asm_outcome_laws.specs.Outputs.{added_listed, added_message, listed, listed_after, listing_lines, message_lines, message_of, messages_after}

-- an output gains these lines by these writes
abbrev Makes : Output → List Write → List Bytes → Type 0
Makes output writes lines = gained assembly output writes ≡ concat lines

module _ (output : Output) where
  none_made : Makes output [] []
  unfolding gained
  none_made = refl

  then_made : (xs ys : List Write) (lines more : List Bytes) → Makes output xs lines → Makes output ys more
      → Makes output (xs ++ ys) (lines ++ more)
  then_made xs ys lines more first second =
      gained-append assembly output xs ys ∙ ap₂ (λ (s t : Bytes). s ++ t) first second ∙ sym (concat-append lines more)

  then_skipped : (xs ys : List Write) (lines : List Bytes) → Makes output xs lines → Makes output ys []
      → Makes output (xs ++ ys) lines
  then_skipped xs ys lines first second =
      gained-append assembly output xs ys ∙ ap₂ (λ (s t : Bytes). s ++ t) first second ∙ append-nil (concat lines)

  -- writes that make lines still do if both are left out
  if_added : (b : Bool) (writes : List Write) (lines : List Bytes) → Makes output writes lines
      → Makes output (if b then [] else writes) (if b then [] else lines)
  if_added true writes lines made = none_made
  if_added false writes lines made = made

-- ---- for the listing

contents_unlisted : (contents : List Content) → Makes Report (content_writes contents) []
unfolding content_writes gained
contents_unlisted [] = refl
contents_unlisted (content ∷ contents) = contents_unlisted contents

lines_made : (lines : List Bytes) → Makes Report (all_to_listing lines) lines
unfolding gained
lines_made [] = refl
lines_made (line ∷ lines) = ap (λ (t : Bytes). line ++ t) (lines_made lines)

message_unlisted : (bytes : Bytes) → Makes Report (to_messages bytes ∷ []) []
unfolding gained
message_unlisted bytes = refl

end_unlisted : (bytes : Bytes) → Makes Report (flushes ++ to_messages bytes ∷ []) []
unfolding gained
end_unlisted bytes = refl

if_listed : (lines : List Bytes) (b : Bool) → Makes Report (if b then all_to_listing lines else []) (if b then lines else [])
if_listed lines true = lines_made lines
if_listed lines false = none_made Report

if_unlisted : (bytes : Bytes) (b : Bool) → Makes Report (if b then to_messages bytes ∷ [] else []) []
if_unlisted bytes true = message_unlisted bytes
if_unlisted bytes false = none_made Report

-- ---- for the messages

contents_unsaid : (contents : List Content) → Makes Messages (content_writes contents) []
unfolding content_writes gained
contents_unsaid [] = refl
contents_unsaid (content ∷ contents) = contents_unsaid contents

lines_unsaid : (lines : List Bytes) → Makes Messages (all_to_listing lines) []
unfolding gained
lines_unsaid [] = refl
lines_unsaid (line ∷ lines) = lines_unsaid lines

message_made : (bytes : Bytes) → Makes Messages (to_messages bytes ∷ []) (bytes ∷ [])
unfolding gained
message_made bytes = refl

end_made : (bytes : Bytes) → Makes Messages (flushes ++ to_messages bytes ∷ []) (bytes ∷ [])
unfolding gained
end_made bytes = refl

lines_if_unsaid : (lines : List Bytes) (b : Bool) → Makes Messages (if b then all_to_listing lines else []) []
lines_if_unsaid lines true = lines_unsaid lines
lines_if_unsaid lines false = none_made Messages

-- the line of a message, if there is one
abbrev lines_if : Option Bytes → List Bytes
lines_if None = []
lines_if (Some line) = line ∷ []

if_said : (bytes : Bytes) (b : Bool)
    → Makes Messages (if b then to_messages bytes ∷ [] else []) (lines_if (if b then Some bytes else None))
if_said bytes true = message_made bytes
if_said bytes false = none_made Messages

one_more : (line : Option Bytes) (lines : List Bytes) → lines_if line ++ lines ≡ cons_option line lines
one_more None lines = refl
one_more (Some line) lines = refl

module _ (program : Program) where
  -- ---- the lines of a source

  head_unlisted : (before : List NumberedLine) → Makes Report (head_before program before) []
  head_unlisted [] = contents_unlisted (head_contents program.rows)
  head_unlisted (line ∷ before) = none_made Report

  head_unsaid : (before : List NumberedLine) → Makes Messages (head_before program before) []
  head_unsaid [] = contents_unsaid (head_contents program.rows)
  head_unsaid (line ∷ before) = none_made Messages

  abbrev closed : List NumberedLine → NumberedLine → List Content
  closed before line =
      records_closed_by (pieces_in program.map before) (pieces program.map (table_at program.map before) line.given)

  abbrev to_list : List NumberedLine → NumberedLine → List Write
  to_list before line =
      listing_writes program.map (table_at program.map before) (flags_at program before line) line.number line.given

  abbrev to_say : List NumberedLine → NumberedLine → List Write
  to_say before line = message_writes (flags_at program before line) line.number line.given.live.line.text

  listed_made : (before : List NumberedLine) (line : NumberedLine) → Makes Report (to_list before line) (listed program before line)
  unfolding listing_writes
  listed_made before line =
      if_listed (lines_of program.map (table_at program.map before) (flags_at program before line) line.number line.given)
      (is_listed (after_line program.map (table_at program.map before) line.given) line.given (flags_at program before line))

  listed_unsaid : (before : List NumberedLine) (line : NumberedLine) → Makes Messages (to_list before line) []
  unfolding listing_writes
  listed_unsaid before line =
      lines_if_unsaid (lines_of program.map (table_at program.map before) (flags_at program before line) line.number line.given)
      (is_listed (after_line program.map (table_at program.map before) line.given) line.given (flags_at program before line))

  line_made : (before : List NumberedLine) (line : NumberedLine)
      → Makes Report (head_before program before ++ line_writes program before line) (listed program before line)
  unfolding line_writes
  line_made before line =
      let text = message_line (flags_text (flags_at program before line)) line.number line.given.live.line.text in
      then_made Report (head_before program before) (line_writes program before line) [] (listed program before line)
      (head_unlisted before)
      (then_made Report (content_writes (closed before line)) (to_list before line ++ to_say before line) []
      (listed program before line) (contents_unlisted (closed before line))
      (then_skipped Report (to_list before line) (to_say before line) (listed program before line) (listed_made before line)
      (if_unlisted text (is_flagged (flags_at program before line)))))

  abbrev line_said : List NumberedLine → NumberedLine → Option Bytes
  line_said before line = message_of (flags_at program before line) line.number line.given.live.line.text

  line_says : (before : List NumberedLine) (line : NumberedLine)
      → Makes Messages (head_before program before ++ line_writes program before line) (lines_if (line_said before line))
  unfolding line_writes
  line_says before line =
      let text = message_line (flags_text (flags_at program before line)) line.number line.given.live.line.text in
      let said : List Bytes = lines_if (line_said before line) in
      then_made Messages (head_before program before) (line_writes program before line) [] said (head_unsaid before)
      (then_made Messages (content_writes (closed before line)) (to_list before line ++ to_say before line) [] said
      (contents_unsaid (closed before line))
      (then_made Messages (to_list before line) (to_say before line) [] said (listed_unsaid before line)
      (if_said text (is_flagged (flags_at program before line)))))

  all_listed : (before lines : List NumberedLine)
      → Makes Report (written_after program before lines) (listed_after program before lines)
  all_listed before [] = none_made Report
  all_listed before (line ∷ lines) =
      then_made Report (head_before program before ++ line_writes program before line)
      (written_after program (before ++ line ∷ []) lines) (listed program before line)
      (listed_after program (before ++ line ∷ []) lines) (line_made before line) (all_listed (before ++ line ∷ []) lines)

  all_said : (before lines : List NumberedLine)
      → Makes Messages (written_after program before lines) (messages_after program before lines)
  all_said before [] = none_made Messages
  all_said before (line ∷ lines) =
      let rest = messages_after program (before ++ line ∷ []) lines in
      then_made Messages (head_before program before ++ line_writes program before line)
      (written_after program (before ++ line ∷ []) lines) (lines_if (line_said before line)) rest (line_says before line)
      (all_said (before ++ line ∷ []) lines) ∙ ap concat (one_more (line_said before line) rest)

  written_listed : (lines : List NumberedLine) → Makes Report (written program lines) (listed_after program [] lines)
  unfolding written
  written_listed lines = all_listed [] lines

  written_said : (lines : List NumberedLine) → Makes Messages (written program lines) (messages_after program [] lines)
  unfolding written
  written_said lines = all_said [] lines

  -- ---- the end

  abbrev last_text : ℕ → Bytes
  last_text number = message_line (flags_text flag_E) number []

  added_is_listed : (ended : EndOfSource) (counter : ℕ) → Makes Report (added_writes ended counter) (added_listed ended counter)
  added_is_listed ended counter =
      let added = added_lines flag_E ended.read counter in
      let message = message_writes flag_E ended.read [] in
      if_added Report ended.has_end (all_to_listing added ++ message) added
      (then_skipped Report (all_to_listing added) message added (lines_made added)
      (if_unlisted (last_text ended.read) (is_flagged flag_E)))

  added_is_said : (ended : EndOfSource) (counter : ℕ) → Makes Messages (added_writes ended counter) (added_message ended)
  added_is_said ended counter =
      let added = added_lines flag_E ended.read counter in
      let message = message_writes flag_E ended.read [] in
      if_added Messages ended.has_end (all_to_listing added ++ message) (last_text ended.read ∷ [])
      (then_made Messages (all_to_listing added) message [] (last_text ended.read ∷ []) (lines_unsaid added)
      (message_made (last_text ended.read)))

  module _ (lines : List NumberedLine) (count : ℕ) where
    abbrev ends : List Content
    ends = last_records (pieces_in program.map lines) ++ EndOfModule ∷ []

    abbrev table : List Bytes
    table = last_lines program.symbols program.sections count

    closing_listed : Makes Report (closing_writes (pieces_in program.map lines) program.symbols program.sections count) table
    closing_listed =
        then_made Report (content_writes ends) (all_to_listing table ++ (flushes ++ to_messages (count_line count) ∷ [])) [] table
        (contents_unlisted ends)
        (then_skipped Report (all_to_listing table) (flushes ++ to_messages (count_line count) ∷ []) table (lines_made table)
        (end_unlisted (count_line count)))

    closing_said : Makes Messages (closing_writes (pieces_in program.map lines) program.symbols program.sections count)
        (count_line count ∷ [])
    closing_said =
        then_made Messages (content_writes ends) (all_to_listing table ++ (flushes ++ to_messages (count_line count) ∷ [])) []
        (count_line count ∷ []) (contents_unsaid ends)
        (then_made Messages (all_to_listing table) (flushes ++ to_messages (count_line count) ∷ []) [] (count_line count ∷ [])
        (lines_unsaid table) (end_made (count_line count)))

  module _ (lines : List NumberedLine) (ended : EndOfSource) where
    abbrev count : ℕ
    count = flagged_count program lines ended.has_end

    abbrev closing : List Write
    closing = closing_writes (pieces_in program.map lines) program.symbols program.sections count

    abbrev added_after : List Write
    added_after = added_writes ended (last_location program lines)

    pub listing_is_its_lines : Makes Report (program_writes program lines ended) (listing_lines program lines ended)
    listing_is_its_lines =
        let added = added_listed ended (last_location program lines) in
        then_made Report (written program lines) (last_writes program lines ended) (listed_after program [] lines)
        (added ++ table lines count) (written_listed lines)
        (then_made Report (head_before program lines) (added_after ++ closing) [] (added ++ table lines count)
        (head_unlisted lines)
        (then_made Report added_after closing added (table lines count) (added_is_listed ended (last_location program lines))
        (closing_listed lines count)))

    pub messages_are_their_lines : Makes Messages (program_writes program lines ended) (message_lines program lines ended)
    messages_are_their_lines =
        let last : List Bytes = added_message ended ++ count_line count ∷ [] in
        then_made Messages (written program lines) (last_writes program lines ended) (messages_after program [] lines) last
        (written_said lines)
        (then_made Messages (head_before program lines) (added_after ++ closing) [] last (head_unsaid lines)
        (then_made Messages added_after closing (added_message ended) (count_line count ∷ [])
        (added_is_said ended (last_location program lines)) (closing_said lines count)))

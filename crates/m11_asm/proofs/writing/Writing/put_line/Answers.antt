use Rattle.std.proofs.Common.{◌∙◌, ◌++◌, Option, refl, sym, ap, subst}
use Rattle.std.specs.Int.RustNames.{bit_or}
use Rattle.m11_asm_outputs.specs.Object.{IsOpenAfter}
use Rattle.m11_asm_outputs.specs.Outputs.{assembly}
use Rattle.m11_obj.specs.Texts.{TextParts}
use Rattle.m11_asm_passes.specs.Lines.{table_at}
use Rattle.m11_asm_rules.specs.Contents.{pieces_from}
use Rattle.m11_scan.specs.Views.{bits_of}
use Rattle.m11_base_writes.proofs.Writing.{stopped_alone, stopped_first, writes_then}
use Rattle.m11_asm.specs.Writing.{Writing}
use Rattle.m11_asm.specs.Written.{head_before, line_writes, message_writes, pieces_in}
use Rattle.m11_asm.proofs.Putting.{keeps_more, flags_so, line_goes_on, line_stops, pieces_so, shown, text_so}
use Rattle.m11_asm.proofs.writing.Writing.put_line.Goals as goal

pub returns-in_err-begin-clause-writes : goal.returns-in_err-begin-clause-writes
returns-in_err-begin-clause-writes g c = λ program lines one emission stands is same number.
    stopped_first assembly _ _ (head_before program lines) (line_writes program lines one) _ _
    (c.in_err-begin.ensures.writes program lines _ _ stands) c.from_residual.ensures.1

pub returns-in_err-put_pieces-clause-writes : goal.returns-in_err-put_pieces-clause-writes
returns-in_err-put_pieces-clause-writes g c = λ program lines one emission stands is same number.
    let P : Option TextParts → Type 0 = λ t. IsOpenAfter (pieces_in program.map lines) t in
    let opens = subst P (sym (ap (λ (w : Writing). w.text) c.in_ok-begin.ensures.begins)) stands.text in
    stopped_alone assembly _ _ (head_before program lines ++ line_writes program lines one) _ _
    (line_stops program lines one _ _ _ (pieces_from c.args.line.now.section c.args.line.now.location c.args.contents.now) _
    (pieces_so program lines one c.args.line.now emission c.args.contents.now is same)
    (c.in_ok-begin.ensures.writes program lines _ _ stands)
    (c.in_err-put_pieces.ensures.writes (pieces_in program.map lines) opens _ _))
    c.from_residual-in_err-put_pieces.ensures.1

pub returns-in_err-list-clause-writes : goal.returns-in_err-list-clause-writes
returns-in_err-list-clause-writes g c = λ program lines one emission stands is same number.
    let P : Option TextParts → Type 0 = λ t. IsOpenAfter (pieces_in program.map lines) t in
    let opens = subst P (sym (ap (λ (w : Writing). w.text) c.in_ok-begin.ensures.begins)) stands.text in
    let told = ap (λ (w : Writing). w.transfer) c.self.view_is ∙ ap (λ (w : Writing). w.transfer) c.in_ok-put_pieces.ensures.opens
    ∙ ap (λ (w : Writing). w.transfer) c.in_ok-begin.ensures.begins ∙ stands.transfer in
    let flags = bits_of c.with-flags.result in
    line_goes_on program lines one _ _ _ _ (pieces_from c.args.line.now.section c.args.line.now.location c.args.contents.now) flags
    c.args.number one.given.live.line.text _ (pieces_so program lines one c.args.line.now emission c.args.contents.now is same)
    (c.with-flags.ensures ∙ ap (bit_or (bits_of c.args.line.now.flags)) (c.end_flags.ensures one.given.live.line.text)
    ∙ flags_so program lines one c.args.line.now emission c.args.contents.now is same _ told)
    number refl (c.in_ok-begin.ensures.writes program lines _ _ stands)
    (c.in_ok-put_pieces.ensures.writes (pieces_in program.map lines) opens _ _)
    (stopped_first assembly _ _ (shown program lines one flags c.args.number)
    (message_writes flags c.args.number one.given.live.line.text) _ _
    (c.in_err-list.ensures.writes program.map (table_at program.map lines) one.given emission _ _ is same) c.from_residual-in_err-list.ensures.1)

pub returns-clause-writes : goal.returns-clause-writes
returns-clause-writes g c = λ program lines one emission stands is same number.
    let P : Option TextParts → Type 0 = λ t. IsOpenAfter (pieces_in program.map lines) t in
    let opens = subst P (sym (ap (λ (w : Writing). w.text) c.in_ok-begin.ensures.begins)) stands.text in
    let told = ap (λ (w : Writing). w.transfer) c.self.view_is ∙ ap (λ (w : Writing). w.transfer) c.in_ok-put_pieces.ensures.opens
    ∙ ap (λ (w : Writing). w.transfer) c.in_ok-begin.ensures.begins ∙ stands.transfer in
    let flags = bits_of c.with-flags.result in
    line_goes_on program lines one _ _ _ _ (pieces_from c.args.line.now.section c.args.line.now.location c.args.contents.now) flags
    c.args.number c.text.result.now c.report.result (pieces_so program lines one c.args.line.now emission c.args.contents.now is same)
    (c.with-flags.ensures ∙ ap (bit_or (bits_of c.args.line.now.flags)) (c.end_flags.ensures one.given.live.line.text)
    ∙ flags_so program lines one c.args.line.now emission c.args.contents.now is same _ told)
    number (c.text.ensures.text ∙ text_so program lines one c.args.line.now emission c.args.contents.now is same)
    (c.in_ok-begin.ensures.writes program lines _ _ stands)
    (c.in_ok-put_pieces.ensures.writes (pieces_in program.map lines) opens _ _)
    (writes_then assembly _ _ _ (shown program lines one flags c.args.number)
    (message_writes flags c.args.number c.text.result.now) _
    (c.in_ok-list.ensures.writes program.map (table_at program.map lines) one.given emission _ _ is same)
    (c.report.ensures.writes _ _))

pub returns-clause-stands : goal.returns-clause-stands
returns-clause-stands g c = λ program lines one emission stands is same number.
    let P : Option TextParts → Type 0 = λ t. IsOpenAfter (pieces_in program.map lines) t in
    let opens = subst P (sym (ap (λ (w : Writing). w.text) c.in_ok-begin.ensures.begins)) stands.text in
    let told = ap (λ (w : Writing). w.transfer) c.self.view_is ∙ ap (λ (w : Writing). w.transfer) c.in_ok-put_pieces.ensures.opens
    ∙ ap (λ (w : Writing). w.transfer) c.in_ok-begin.ensures.begins ∙ stands.transfer in
    keeps_more program lines one c.args.self.now stands c.begin.new.self c.put_pieces.new.self c.list.new.self c.report.new.self
    (pieces_from c.args.line.now.section c.args.line.now.location c.args.contents.now) (bits_of c.with-flags.result) c.report.result
    c.in_ok-begin.ensures.begins c.in_ok-put_pieces.ensures.opens c.in_ok-list.ensures.keeps
    (pieces_so program lines one c.args.line.now emission c.args.contents.now is same)
    (c.with-flags.ensures ∙ ap (bit_or (bits_of c.args.line.now.flags)) (c.end_flags.ensures one.given.live.line.text)
    ∙ flags_so program lines one c.args.line.now emission c.args.contents.now is same _ told)
    (c.in_ok-put_pieces.ensures.stands (pieces_in program.map lines) opens) (c.in_ok-begin.ensures.fit program lines stands)
    (c.in_ok-put_pieces.ensures.fit (pieces_in program.map lines) opens) c.report.ensures.counts

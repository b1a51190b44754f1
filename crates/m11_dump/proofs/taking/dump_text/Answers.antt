use Rattle.std.proofs.Common.{subst, ℕ, List, None, Ok, Err, refl}
use Rattle.std.proofs.lemmas.Result.{err_from_is_err_and}
use Rattle.m11_base_writes.specs.States.{output_of}
use Rattle.m11_dump.proofs.Fields.{kept_text, text_address}
use Rattle.m11_dump.proofs.TextsLead.{text_lacks, text_taken, text_unshown}
use Rattle.m11_dump.specs.Objects.{ShowsHeld}
use Rattle.m11_dump.specs.declared.held.HeldText.{HeldText}
use Rattle.m11_dump.proofs.taking.dump_text.Goals as goal

pub returns-in_err-shown : goal.returns-in_err-shown
returns-in_err-shown g c =
    let r = c.from_residual in
    let p = err_from_is_err_and r.result r.ensures.1 in
    let is = kept_text c.args.record.now c.text_address-own.result c.text_bytes-data.result.now c.text_address-own.ensures
    c.text_bytes-data.ensures.bytes in
    let P : List ℕ → Type 0 = λ after. ShowsHeld c.args.view c.args.held after (output_of g.S.Sink c.args.sink.now)
    (output_of g.S.Sink c.show_held.new.sink) (Err c.in_err-shown.field-0.0) in
    rw (p.1, p.2)
    (text_unshown c.args.view c.args.address c.args.held c.args.record.now c.text_address-own.result c.text_bytes-data.result.now is
    (output_of g.S.Sink c.args.sink.now) (output_of g.S.Sink c.show_held.new.sink) _
    (subst P c.beyond_of-beyond.ensures c.in_err-shown.ensures))

pub returns-in_err-bytes : goal.returns-in_err-bytes
returns-in_err-bytes g c =
    let r = c.from_residual-in_err-bytes in
    let p = err_from_is_err_and r.result r.ensures.1 in
    let is = kept_text c.args.record.now c.text_address-own.result c.text_bytes-data.result.now c.text_address-own.ensures
    c.text_bytes-data.ensures.bytes in
    let P : List ℕ → Type 0 = λ after. ShowsHeld c.args.view c.args.held after (output_of g.S.Sink c.args.sink.now)
    (output_of g.S.Sink c.show_held.new.sink) (Ok c.in_ok-shown.shown) in
    rw (p.1, p.2)
    (text_lacks c.args.view c.args.address c.args.held c.args.record.now c.text_address-own.result c.text_bytes-data.result.now is
    (output_of g.S.Sink c.args.sink.now) (output_of g.S.Sink c.show_held.new.sink) c.in_ok-shown.shown
    (subst P c.beyond_of-beyond.ensures c.in_ok-shown.ensures))

pub returns : goal.returns
returns g c =
    let is = kept_text c.args.record.now c.text_address-own.result c.text_bytes-data.result.now c.text_address-own.ensures
    c.text_bytes-data.ensures.bytes in
    let P : List ℕ → Type 0 = λ after. ShowsHeld c.args.view c.args.held after (output_of g.S.Sink c.args.sink.now)
    (output_of g.S.Sink c.show_held.new.sink) (Ok c.in_ok-shown.shown) in
    let next : HeldText = record {
      address = c.text_address-own.result;
      bytes = c.in_ok-bytes.bytes;
      shown = c.in_ok-shown.shown;
      places = None;
    } in
    text_taken c.args.view c.args.address c.args.held c.args.record.now c.text_address-own.result c.text_bytes-data.result.now is
    (output_of g.S.Sink c.args.sink.now) (output_of g.S.Sink c.show_held.new.sink) c.in_ok-shown.shown next
    (subst P c.beyond_of-beyond.ensures c.in_ok-shown.ensures)
    (text_address c.args.address c.args.record.now c.text_address-own.result c.text_address-own.ensures) refl
    c.in_ok-bytes.ensures.items refl refl c.text_bytes-data.ensures.fits

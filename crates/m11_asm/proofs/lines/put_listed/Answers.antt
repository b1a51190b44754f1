use Rattle.std.proofs.Common.{ℕ, List, [], ◌∷◌, take, drop, ap, ◌∙◌}
use Rattle.m11_base.specs.Devices.{Bytes}
use Rattle.m11_asm_listing.specs.Items.{location_after}
use Rattle.m11_asm_listing.specs.Listing.{further_lines, listed_line}
use Rattle.m11_asm_listing.specs.declared.items.Item.{Item}
use Rattle.m11_scan.specs.ErrorFlags.{flags_text}
use Rattle.m11_scan.specs.Views.{bits_of}
use Rattle.m11_asm_outputs.specs.Outputs.{assembly}
use Rattle.m11_base_writes.specs.Outputs.{to_report}
use Rattle.m11_asm.specs.Listed.{all_to_listing}
use Rattle.m11_base_writes.proofs.Writing.{stopped_first, writes_then}
use Rattle.m11_asm.proofs.ListedLines.{gains_line, stops_line}
use Rattle.m11_asm_outputs.proofs.Looping.{writes_as}
use Rattle.m11_asm.proofs.lines.put_listed.Goals as goal

pub returns-in_err-put_report : goal.returns-in_err-put_report
returns-in_err-put_report g c = λ object messages.
    let flags = flags_text (bits_of c.args.flags) in
    stopped_first assembly _ _
    (to_report (listed_line flags c.args.number c.args.location c.args.items.now c.args.text.now) ∷ [])
    (all_to_listing (further_lines (location_after c.args.first_item_location (take 3 c.args.items.now)) (drop 3 c.args.items.now))) _ _
    (stops_line _ _ _ _ _ (c.as_slice-2.ensures.value ∙ c.listed_line-line.ensures
    ∙ ap (λ (l : Bytes). listed_line l c.args.number c.args.location c.args.items.now c.args.text.now)
    (c.as_slice.ensures.value ∙ c.text.ensures))
    (c.in_err-put_report.ensures.writes object messages)) c.from_residual.ensures.1

pub returns : goal.returns
returns g c = λ object messages.
    let flags = flags_text (bits_of c.args.flags) in
    writes_then assembly _ _ _
    (to_report (listed_line flags c.args.number c.args.location c.args.items.now c.args.text.now) ∷ [])
    (all_to_listing (further_lines (location_after c.args.first_item_location (take 3 c.args.items.now)) (drop 3 c.args.items.now))) _
    (gains_line _ _ _ _ (c.as_slice-2.ensures.value ∙ c.listed_line-line.ensures
    ∙ ap (λ (l : Bytes). listed_line l c.args.number c.args.location c.args.items.now c.args.text.now)
    (c.as_slice.ensures.value ∙ c.text.ensures))
    (c.in_ok-put_report.ensures.writes object messages))
    (writes_as _ _ _ _ _
    (ap (λ (n : ℕ). all_to_listing (further_lines n c.three.result.1.now)) c.location_after.ensures
    ∙ ap (λ (l : List Item). all_to_listing (further_lines (location_after c.args.first_item_location l) c.three.result.1.now)) c.three.ensures.first
    ∙ ap (λ (l : List Item). all_to_listing (further_lines (location_after c.args.first_item_location (take 3 c.args.items.now)) l))
    c.three.ensures.more)
    (c.put_further.ensures object messages))

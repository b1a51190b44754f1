use Rattle.std.proofs.Common.{arith, ◌∙◌, ◌≡◌, ◌≤◌, ◌+◌, ◌-◌, ap, List, ℕ, true, length}
use Rattle.m11_scan.specs.Line.{SourceLine}
use Rattle.m11_scan.proofs.MoreBytes.{kept_in_part, kept_whole}
use Rattle.m11_scan.proofs.line.Line.push_all.Goals as goal

pub returns-then-bytes-room : goal.returns-then-bytes-room
returns-then-bytes-room c =
    let line = c.args.self.now in
    let size : length c.text.result.now ≡ length line.text = ap (λ (t : List ℕ). length t) c.text.ensures.text in
    let limited : length c.text.result.now ≤ 132 = c.text.ensures.limited in
    let room : length line.text + (132 - length c.text.result.now) ≡ 132 = omega arith in
    ap (λ (l : SourceLine). record { text = l.text; is_over_long = true })
    (c.self.view_is ∙ c.push_within.ensures)
    ∙ kept_in_part line.text c.args.bytes.now line.is_over_long _ room c.if-bytes-room.true

pub returns-else-bytes-room : goal.returns-else-bytes-room
returns-else-bytes-room c =
    let line = c.args.self.now in
    let size : length c.text.result.now ≡ length line.text = ap (λ (t : List ℕ). length t) c.text.ensures.text in
    let limited : length c.text.result.now ≤ 132 = c.text.ensures.limited in
    let fits : length line.text + length c.args.bytes.now ≤ 132 = omega arith in
    c.push_within-else-bytes-room.ensures ∙ kept_whole line.text c.args.bytes.now line.is_over_long fits

use Rattle.std.proofs.Common.{◌≡◌, arith, true, false, refl, sym, ◌∙◌}
use Rattle.std.specs.Cmp.Lexicographic.{other_text}
use Rattle.m11_dump.proofs.LibraryStarts.{none_changed, none_counted, none_long, none_other, none_short, none_unlisted}
use Rattle.m11_dump.proofs.library_start.content_in.Goals as goal
use Rattle.m11_dump.proofs.library_start.content_in.Goals.{in-Other, in_default, then-bytes-lt5-via-then-bytes-lt5, then-bytes-lt5-via-else-bytes-lt5+then-bytes-gt517, then-bytes-lt5-via-else-bytes-lt5+else-bytes-gt517+then-bytes-ne1}

pub returns-then-bytes-lt5 : goal.returns-then-bytes-lt5
returns-then-bytes-lt5 c = λ content e listed.
    elim c.then-bytes-lt5.branch [
      | then-bytes-lt5-via-then-bytes-lt5 w ↦ none_short c.args.bytes.now content w.if-bytes-lt5.true e listed
      | then-bytes-lt5-via-else-bytes-lt5+then-bytes-gt517 w ↦ none_long c.args.bytes.now content w.if-bytes-gt517.true e listed
      | then-bytes-lt5-via-else-bytes-lt5+else-bytes-gt517+then-bytes-ne1 w ↦ none_other c.args.bytes.now content w.if-bytes-ne1.true e listed
    ]

pub returns-then-count-bytes : goal.returns-then-count-bytes
returns-then-count-bytes c = λ content e listed.
    none_counted c.args.bytes.now content c.from-count.result (omega (arith, c.from-count.ensures, c.read_u16.ensures)) c.if-count-bytes.true
    e listed

pub returns-then-matches : goal.returns-then-matches
returns-then-matches c = λ content e listed.
    elim c.match-matches.branch [
      | in-Other w ↦ none_unlisted c.args.bytes.now _ content refl (sym c.part_of.ensures ∙ w.in-Other.is) e listed
      | in_default w ↦ (let bad : true ≡ false = sym c.if-matches.true ∙ w.matches-is in cc)
    ]

pub returns : goal.returns
returns c = λ content e listed.
    none_changed c.args.bytes.now _ content refl
    (λ same. other_text c.as_slice.result.now c.args.bytes.now c.if-eq.ensures (c.as_slice.ensures.value ∙ c.in_ok-frame.ensures.bytes ∙ same)) e listed

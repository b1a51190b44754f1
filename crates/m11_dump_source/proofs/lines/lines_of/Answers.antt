use Rattle.std.proofs.Common.{◌≡◌, ◌∙◌, ◌+◌, List, [], ◌∷◌, ◌++◌, ◌-◌, append_assoc, drop, length, take, sym, ap}
use Rattle.std.proofs.lemmas.List.{take_rest}
use Rattle.m11_dump_source.specs.Memory.{Cells}
use Rattle.m11_dump_source.specs.Lines.{leading, line_at, lines_from, shown_at, size_shown}
use Rattle.m11_dump_source.specs.declared.lines.Line.{Line}
use Rattle.m11_dump_source.proofs.LinesShown.{line_passed}
use Rattle.m11_dump_source.proofs.lines.lines_of.Goals as goal

pub cells-preserved : goal.cells-preserved
cells-preserved c =
    let memory = c.args.memory.now in
    let index = c.cells.index in
    let done = c.cells.lines.items in
    let bytes = leading 6 (drop index memory) in
    let left = drop index memory in
    let rest_is : take (length memory - index) left ≡ left = take_rest memory index in
    let line_is : c.line_at-line.result ≡ line_at index bytes =
    c.line_at-line.ensures ∙ ap (λ (cells : Cells). line_at index (leading 6 cells)) rest_is in
    let size_is : c.size-index.result ≡ size_shown (shown_at index bytes) =
    c.size-index.ensures.size ∙ ap (λ (line : Line). size_shown line.shown) line_is in
    let rest = lines_from (index + c.size-index.result) 0 (drop (index + c.size-index.result) memory) in
    ap (λ (l : List Line). l ++ rest) c.in_ok-push-in-Some.ensures.items ∙ append_assoc done (c.line_at-line.result ∷ []) rest
    ∙ ap (λ (line : Line). done ++ line ∷ rest) line_is
    ∙ ap (λ (l : List Line). done ++ l)
    (sym (line_passed memory index c.cells-test.true c.in-Some.field-0 c.size-index.result c.in-Some.is c.size-index.ensures.some size_is))
    ∙ c.cells.invariant

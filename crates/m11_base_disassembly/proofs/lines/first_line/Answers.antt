use Rattle.std.proofs.Common.{◌≡◌, ◌∙◌, ◌+◌, ◌-◌, ◌∷◌, List, ℕ, length, take, drop, sym, ap, ap₂, arith}
use Rattle.std.proofs.lemmas.List.{drop_all, length-drop, take_all}
use Rattle.m11_base_disassembly.specs.Lines.{lines_of}
use Rattle.m11_base_disassembly.proofs.FirstLines.{first_line_is}
use Rattle.m11_base_disassembly.proofs.lines.first_line.Goals as goal

pub returns-then-end-text-clause-lines : goal.returns-then-end-text-clause-lines
returns-then-end-text-clause-lines c =
    let text : List ℕ = c.args.text.now in
    let end : ℕ = c.line_length-end.result in
    let rest : List ℕ = drop (end + 1) text in
    let all : take (length text - (end + 1)) rest ≡ rest =
    take_all (length text - (end + 1)) rest (omega (arith, length-drop (end + 1) text)) in
    first_line_is text end c.requires c.line_length-end.ensures.within c.line_length-end.ensures.line c.line_length-end.ensures.end
    ∙ ap (λ (t : List ℕ). take end text ∷ lines_of t) (sym all)

pub returns-else-end-text-clause-lines : goal.returns-else-end-text-clause-lines
returns-else-end-text-clause-lines c =
    let text : List ℕ = c.args.text.now in
    let end : ℕ = c.line_length-end.result in
    first_line_is text end c.requires c.line_length-end.ensures.within c.line_length-end.ensures.line c.line_length-end.ensures.end
    ∙ ap₂ (λ (first rest : List ℕ). first ∷ lines_of rest) (take_all end text c.if-end-text.false)
    (drop_all (end + 1) text (omega (arith, c.if-end-text.false)))

use Rattle.std.proofs.Common.{◌≡◌, ◌∙◌, ℕ, ◌-◌, ◌++◌, ◌<◌, List, ap, drop, length, sym, take, arith}
use Rattle.std.proofs.lemmas.List.{length-take-le}
use Rattle.m11_base_disassembly.specs.References.{no_references}
use Rattle.m11_base_disassembly.specs.declared.references.References.{References}
use Rattle.m11_dump.specs.Instructions.{front_size, line_text, lines_from, over_from, unreferred}
use Rattle.m11_dump.proofs.LinesShown.{line_shown, lines_begin, over_begins, over_shown}
use Rattle.m11_dump.proofs.instructions.put_lines.Goals as goal

pub lines-init : goal.lines-init
lines-init c =
    let mine : List ℕ = take c.args.own c.args.bytes.now in
    let beyond : List ℕ = drop c.args.own c.args.bytes.now in
    let long : length mine ≡ c.args.own = length-take-le c.args.own c.args.bytes.now c.requires.there in record {
      leads = let now : List ℕ = c.args.text.now.items in
          ap (λ (t : List ℕ). now ++ t) (sym (lines_begin c.args.address beyond c.args.symbols.now c.args.shown mine));
      over = sym (over_begins c.args.address beyond c.args.shown c.args.own mine long);
    }

pub lines-preserved : goal.lines-preserved
lines-preserved c =
    let mine : List ℕ = take c.args.own c.args.bytes.now in
    let beyond : List ℕ = drop c.args.own c.args.bytes.now in
    let all = c.args.text.now.items ++ lines_from c.args.symbols.now unreferred c.args.address 0 c.args.shown mine beyond in
    let below : c.lines.index < c.args.own = omega arith in
    let bytes : List ℕ = take (length c.args.bytes.now - c.lines.index) (drop c.lines.index c.args.bytes.now) in
    let line : c.put_line.new.text.items
    ≡ c.lines.text.items ++ line_text c.args.symbols.now no_references c.location_after.result bytes =
    c.in_ok-index.ensures.text
    ∙ ap (λ (r : References). c.lines.text.items ++ line_text c.args.symbols.now r c.location_after.result bytes) c.no_references.ensures in
    let size : c.in_ok-index.field-0 ≡ front_size no_references c.location_after.result bytes =
    c.in_ok-index.ensures.size
    ∙ ap (λ (r : References). front_size r c.location_after.result bytes) c.no_references.ensures in
    record {
      leads = line_shown c.args.bytes.now c.args.address c.args.own c.lines.index c.in_ok-index.field-0 c.requires.there below
          c.in_ok-index.ensures.some c.location_after.result c.location_after.ensures size
          c.args.symbols.now all c.lines.text.items c.put_line.new.text.items c.lines.invariant.leads line;
      over = over_shown c.args.bytes.now c.args.address c.args.own c.lines.index c.in_ok-index.field-0 c.requires.there below
          c.in_ok-index.ensures.some c.location_after.result c.location_after.ensures size
          (over_from unreferred c.args.address 0 c.args.shown mine beyond) c.lines.invariant.over;
    }

use Rattle.std.proofs.Common.{length, sym, ap, ◌∙◌, arith, ◌+◌}
use Rattle.std.proofs.lemmas.List.{length-drop, take_rest}
use Rattle.m11_scan_expressions.specs.Quantities.{quantity}
use Rattle.m11_scan_expressions.proofs.Exits.{bracket_exit, first_exit, length_exit, next_exit, one_token, plain_exit, plain_size, some_left, value_exit}
use Rattle.m11_scan_expressions.proofs.expressions.+expression.Goals as goal

pub expression-operators-init : goal.expression-operators-init
expression-operators-init g t c = record {
  reads =
      first_exit (g.N.Names.value_of_symbol c.args.names.now) c.args.line.now.text c.args.in_bracket c.args.radix c.args.tokens.now
      c.first_term-first.result.length (quantity c.first_term-first.result.value) c.first_term-first.ensures.length c.first_term-first.ensures.value;
  within = c.first_term-first.ensures.within;
}

pub expression-returns-clause-length : goal.expression-returns-clause-length
expression-returns-clause-length g t c =
    length_exit (g.N.Names.value_of_symbol c.args.names.now) c.args.line.now.text c.args.in_bracket c.args.radix c.args.tokens.now
    c.operators.length (quantity c.operators.value) c.operators.invariant.reads c.operators.invariant.within c.in_default.ensures

pub expression-returns-clause-value : goal.expression-returns-clause-value
expression-returns-clause-value g t c =
    value_exit (g.N.Names.value_of_symbol c.args.names.now) c.args.line.now.text c.args.in_bracket c.args.radix c.args.tokens.now
    c.operators.length (quantity c.operators.value) c.operators.invariant.reads

pub expression-operators-preserved : goal.expression-operators-preserved
expression-operators-preserved g t c =
    let some = some_left c.operators.length c.args.tokens.now c.in-Some.operator c.in-Some.ensures in
    let rest = ap length (take_rest c.args.tokens.now (c.operators.length + 1)) in
    let size = length-drop (c.operators.length + 1) c.args.tokens.now in
    let term = c.term-next.ensures.within in
    record {
      reads =
          next_exit (g.N.Names.value_of_symbol c.args.names.now) c.args.line.now.text c.args.in_bracket c.args.radix c.args.tokens.now
          c.operators.length c.term-next.result.length c.in-Some.operator (quantity c.operators.value) (quantity c.term-next.result.value)
          (quantity c.combined-value.result) c.operators.invariant.reads c.in-Some.ensures c.term-next.ensures.length
          c.term-next.ensures.value c.combined-value.ensures;
      within = omega arith;
    }

pub first_term-returns-in-Bracket-clause-value : goal.first_term-returns-in-Bracket-clause-value
first_term-returns-in-Bracket-clause-value g t c =
    bracket_exit (g.N.Names.value_of_symbol c.args.names.now) c.args.line.now.text c.args.in_bracket c.args.radix c.args.tokens.now _ _
    c.expression-inner.result.length _ (quantity c.expression-inner.result.value) (quantity c.applied-value.result)
    c.in-len1-up.len_at_least c.in-Some.ensures c.in-Bracket.is c.expression-inner.ensures.length c.expression-inner.ensures.value
    c.bracketed_length-length.ensures.length c.applied-value.ensures

pub first_term-returns-in_default-prefix-clause-value : goal.first_term-returns-in_default-prefix-clause-value
first_term-returns-in_default-prefix-clause-value g t c =
    plain_exit (g.N.Names.value_of_symbol c.args.names.now) c.args.line.now.text c.args.in_bracket c.args.radix c.args.tokens.now _ _
    c.term-part.result.length (quantity c.term-part.result.value) (quantity c.applied-value-in_default-prefix.result) _
    c.in-len1-up.len_at_least c.in-Some.ensures c.in_default-prefix.not-Bracket c.radix_under.ensures c.term-part.ensures.length
    c.term-part.ensures.value c.applied-value-in_default-prefix.ensures

pub first_term-returns-in_default-prefix-clause-length : goal.first_term-returns-in_default-prefix-clause-length
first_term-returns-in_default-prefix-clause-length g t c =
    plain_size c.args.in_bracket c.args.tokens.now _ _ c.term-part.result.length c.in-len1-up.len_at_least c.in-Some.ensures
    c.in_default-prefix.not-Bracket c.term-part.ensures.length

pub term-returns-then-is_term-clause-value : goal.term-returns-then-is_term-clause-value
term-returns-then-is_term-clause-value g t c =
    one_token (g.N.Names.value_of_symbol c.args.names.now) c.args.line.now.text c.args.in_bracket c.args.radix c.args.tokens.now _
    c.term_length-length.result (quantity c.atom-value.result) c.in-len1-up.len_at_least
    (sym c.is_term.ensures ∙ c.if-is_term.true) c.atom-value.ensures

pub any_term-returns-in-Bracket-clause-value : goal.any_term-returns-in-Bracket-clause-value
any_term-returns-in-Bracket-clause-value g t c =
    bracket_exit (g.N.Names.value_of_symbol c.args.names.now) c.args.line.now.text c.args.in_bracket c.args.radix c.args.tokens.now _ _
    c.expression-inner.result.length _ (quantity c.expression-inner.result.value) (quantity c.applied.result)
    c.in-len1-up.len_at_least c.in-Some.ensures c.in-Bracket.is c.expression-inner.ensures.length c.expression-inner.ensures.value
    c.bracketed_length.ensures.length c.applied.ensures

pub any_term-returns-in_default-clause-value : goal.any_term-returns-in_default-clause-value
any_term-returns-in_default-clause-value g t c =
    plain_exit (g.N.Names.value_of_symbol c.args.names.now) c.args.line.now.text c.args.in_bracket c.args.radix c.args.tokens.now _ _
    c.first_term-part.result.length (quantity c.first_term-part.result.value) (quantity c.applied-in_default.result) _
    c.in-len1-up.len_at_least c.in-Some.ensures c.in_default.not-Bracket c.radix_under.ensures c.first_term-part.ensures.length
    c.first_term-part.ensures.value c.applied-in_default.ensures

pub any_term-returns-in_default-clause-length : goal.any_term-returns-in_default-clause-length
any_term-returns-in_default-clause-length g t c =
    plain_size c.args.in_bracket c.args.tokens.now _ _ c.first_term-part.result.length c.in-len1-up.len_at_least c.in-Some.ensures
    c.in_default.not-Bracket c.first_term-part.ensures.length

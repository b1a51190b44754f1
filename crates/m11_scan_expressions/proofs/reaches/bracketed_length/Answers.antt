use Rattle.m11_scan_expressions.proofs.Exits.{closed_exit, open_exit}
use Rattle.m11_scan_expressions.proofs.reaches.bracketed_length.Goals as goal

pub returns-then-inside-tokens-clause-length : goal.returns-then-inside-tokens-clause-length
returns-then-inside-tokens-clause-length c =
    closed_exit c.args.in_bracket c.args.tokens.now c.args.inside c.term_length.result c.requires c.if-inside-tokens.true
    c.term_length.ensures.length

pub returns-else-inside-tokens-clause-length : goal.returns-else-inside-tokens-clause-length
returns-else-inside-tokens-clause-length c =
    open_exit c.args.in_bracket c.args.tokens.now c.args.inside c.requires c.if-inside-tokens.false

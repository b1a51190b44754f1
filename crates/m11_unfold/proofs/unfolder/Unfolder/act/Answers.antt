use Rattle.m11_scan_expressions.specs.Expressions.{known_by}
use Rattle.m11_unfold.specs.Views.{stage_of}
use Rattle.m11_unfold.proofs.KeptActing.{kept_acted}
use Rattle.m11_unfold.proofs.unfolder.Unfolder.act.Goals as goal

pub invariant_of-self-2 : goal.invariant_of-self-2
invariant_of-self-2 g c =
    kept_acted (stage_of c.self.inside.state) (stage_of c.act-acted.new.self) c.act-acted.result
    (known_by (g.N.Names.base c.args.names.now) (g.N.Names.value_of_symbol c.args.names.now)) c.args.line.now.text c.self.invariant
    c.act-acted.ensures.within c.act-acted.ensures.after c.act-acted.ensures.kept

pub returns-clause-kept : goal.returns-clause-kept
returns-clause-kept g c =
    kept_acted (stage_of c.self.inside.state) (stage_of c.act-acted.new.self) c.act-acted.result
    (known_by (g.N.Names.base c.args.names.now) (g.N.Names.value_of_symbol c.args.names.now)) c.args.line.now.text c.self.invariant
    c.act-acted.ensures.within c.act-acted.ensures.after c.act-acted.ensures.kept

use Rattle.m11_base_writes.specs.Outputs.{outputs_of}
use Rattle.m11_cli_chain.proofs.Unfailing.{link_reads}
use Rattle.m11_cli_chain.proofs.chain.run_link.Goals as goal

pub returns-clause-reads : goal.returns-clause-reads
returns-clause-reads g c = λ never.
    link_reads g.F.Feed.text g.F.Feed.faults never c.args.first.now c.link_run.new.first c.args.second.now c.link_run.new.second c.args.bottom
    (outputs_of g.S.Sink g.T.Sink g.U.Sink c.args.tape.now c.args.map.now c.args.messages.now)
    (outputs_of g.S.Sink g.T.Sink g.U.Sink c.link_run.new.tape c.link_run.new.map c.link_run.new.messages)
    c.link_run.result c.link_run.ensures.runs

pub returns-clause-decided : goal.returns-clause-decided
returns-clause-decided g c = λ objects items are known known'.
    c.known_objects_decide_the_run.ensures c.args.first.now c.link_run.new.first c.args.second.now c.link_run.new.second c.args.bottom objects items
    (outputs_of g.S.Sink g.T.Sink g.U.Sink c.args.tape.now c.args.map.now c.args.messages.now)
    (outputs_of g.S.Sink g.T.Sink g.U.Sink c.link_run.new.tape c.link_run.new.map c.link_run.new.messages)
    c.link_run.result are known known' c.link_run.ensures.runs

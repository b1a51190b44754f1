use Rattle.m11_base_writes.specs.Outputs.{outputs_of}
use Rattle.m11_cli_chain.proofs.Unfailing.{assembly_reads}
use Rattle.m11_cli_chain.proofs.chain.run_assembly.Goals as goal

pub returns-clause-reads : goal.returns-clause-reads
returns-clause-reads g c = λ never.
    assembly_reads g.F.Feed.text g.F.Feed.faults never c.args.first.now c.asm_run.new.first c.args.second.now c.asm_run.new.second
    (outputs_of g.S.Sink g.T.Sink g.U.Sink c.args.object.now c.args.listing.now c.args.messages.now)
    (outputs_of g.S.Sink g.T.Sink g.U.Sink c.asm_run.new.object c.asm_run.new.listing c.asm_run.new.messages)
    c.asm_run.result c.asm_run.ensures.runs

pub returns-clause-yields : goal.returns-clause-yields
returns-clause-yields g c = λ texts known known'.
    c.known_sources_decide_the_assembly.ensures c.args.first.now c.asm_run.new.first c.args.second.now c.asm_run.new.second texts
    (outputs_of g.S.Sink g.T.Sink g.U.Sink c.args.object.now c.args.listing.now c.args.messages.now)
    (outputs_of g.S.Sink g.T.Sink g.U.Sink c.asm_run.new.object c.asm_run.new.listing c.asm_run.new.messages)
    c.asm_run.result known known' c.asm_run.ensures.runs

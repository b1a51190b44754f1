use Rattle.m11_base.specs.contracts.memory.MemoryFeedFeed.TheImpl as feed
use Rattle.m11_web.proofs.Started.{loaded, not_loaded}
use Rattle.m11_web.proofs.running.load_tape.Goals as goal

pub returns-in-Ok : goal.returns-in-Ok
returns-in-Ok c =
    loaded c.args.words c.in-Ok.start.address c.args.tape.now c.in_ok-machine.machine c.load.new.self c.start_at.new.self _
    (feed.ghosts.text c.load.new.tape) _ (feed.ghosts.faults c.load.new.tape) _ _ _ c.in_ok-machine.ensures c.new-feed.ensures.text
    c.new-feed.ensures.unfailed c.in-Ok.ensures c.start_at.ensures c.registers.ensures c.memory.ensures c.in_ok-state-in-Ok.ensures.state

pub returns : goal.returns
returns c =
    not_loaded c.args.words c.args.tape.now c.in_ok-machine.machine c.load.new.self _ (feed.ghosts.text c.load.new.tape) _
    (feed.ghosts.faults c.load.new.tape) _ c.in_ok-machine.ensures c.new-feed.ensures.text c.new-feed.ensures.unfailed c.in-Err.ensures

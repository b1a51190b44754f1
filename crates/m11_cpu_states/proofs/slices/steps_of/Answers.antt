use Rattle.std.proofs.Common.{◌∙◌, sym, ap}
use Rattle.m11_cpu_states.proofs.SlicesMade.{ran_so}
use Rattle.m11_cpu_states.specs.Typed.{typed}
use Rattle.m11_cpu_states.proofs.slices.steps_of.Goals as goal

pub returns-clause-steps : goal.returns-clause-steps
returns-clause-steps c =
    let unread = c.unread.ensures ∙ ap (typed _) (sym c.in_ok-from_slice.ensures.items) in
    record {
      machine = c.in_ok-machine.machine;
      machine' = c.run_counted-ran.new.machine;
      failures = _;
      losses = _;
      given = c.in_ok-machine.ensures.machine;
      runs = ran_so _ _ _ _ _ _ _ _ _ _ _ _ _ _ _ _ _ c.new-feed.ensures.text c.new-feed.ensures.unfailed c.new-sink.ensures.text
          c.new-sink.ensures.unfailed unread c.into_bytes.ensures c.run_counted-ran.ensures.runs;
      left = c.in_ok-state_of.ensures.state;
    }

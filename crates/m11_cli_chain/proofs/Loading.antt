-- A load of a tape in memory into a new machine.
use Rattle.std.proofs.Common.{◌≡◌, ℕ, Option, Result, subst}
use Rattle.m11_base.specs.Devices.{Bytes}
use Rattle.m11_base.specs.Feed.{Text}
use Rattle.m11_cpu.specs.Loading.{LoadsInto}
use Rattle.m11_cpu_machine.specs.Machine.{new_machine}
use Rattle.m11_cpu.specs.declared.fault.LoadFault.{LoadFault}
use Rattle.m11_cpu_machine.specs.declared.machine.Machine.{Machine}
use Rattle.m11_cli_chain.specs.Steps.{LoadsNew, whole_text}

pub loads_new : (tape : Bytes) (words : ℕ) (old left : Option Text) (before after : Machine) (came : Result ℕ LoadFault)
    → old ≡ whole_text tape → before ≡ new_machine words → LoadsInto old left 0 0 before after came → LoadsNew tape words after came
loads_new tape words old left before after came is_whole is_new l = (
  left,
  subst (λ (m : Machine). LoadsInto (whole_text tape) left 0 0 m after came) is_new
      (subst (λ (t : Option Text). LoadsInto t left 0 0 before after came) is_whole l),
)

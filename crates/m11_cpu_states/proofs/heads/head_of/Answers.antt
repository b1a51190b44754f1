use Rattle.std.proofs.Common.{◌++◌, ◌∙◌, ap, arith, length}
use Rattle.std.proofs.lemmas.List.{length-append}
use Rattle.m11_cpu_machine.specs.Memory.{bytes_of}
use Rattle.m11_cpu_states.proofs.NoState.{words_bytes}
use Rattle.m11_cpu_states.proofs.StateBytes.{first_twelve}
use Rattle.m11_cpu_states.proofs.heads.head_of.Goals as goal

pub returns-in-len12-up-clause-parts : goal.returns-in-len12-up-clause-parts
returns-in-len12-up-clause-parts c =
    let split = first_twelve c.in_ok-registers.rest.now (omega arith) in
    c.in_ok-registers.ensures.parts ∙ ap (λ l. bytes_of c.in_ok-registers.registers ++ l) split

pub returns-in_default-clause-few : goal.returns-in_default-clause-few
returns-in_default-clause-few c = λ none. omega (
  arith,
  ap length c.in_ok-registers.ensures.parts,
  length-append (bytes_of c.in_ok-registers.registers) c.in_ok-registers.rest.now,
  words_bytes c.in_ok-registers.registers,
  c.in_ok-registers.ensures.eight,
)

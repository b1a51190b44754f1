-- A dialogue with the console that ends within a list of exchanges. (This project's own.)
use Rattle.std.specs.Prelude.{◌≡◌, List, ◌++◌}
use Rattle.m11_cpu_machine.specs.Dialogue.{Dialogue, Exchange, Leads}

-- a prefix of these exchanges, perhaps none or all of them, leads the dialogue to this value
pub record ComesWithin {A : Type 0} (dialogue : Dialogue A) (exchanges : List Exchange) (value : A) : Type 0 where
  pub first : List Exchange
  pub rest : List Exchange
  pub joined : exchanges ≡ first ++ rest
  pub leads : Leads dialogue first value

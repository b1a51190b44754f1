-- Sequences of steps. (This project's own.)
use Rattle.std.specs.Prelude.{◌≡◌, ℕ, suc, ◌-◌, ◌%◌, ◌==◌, nat_le, nat_lt, if◌then◌else◌, List, [], ◌∷◌, ◌++◌, length, map, take}
use Rattle.m11_base.specs.Devices.{Bytes}
use Rattle.m11_base.specs.declared.operand.Register.TheVariants.{Pc}
use Rattle.m11_cpu_machine.specs.Dialogue.{Devices, Does}
use Rattle.m11_cpu_machine.specs.Machine.{with_register}
use Rattle.m11_cpu_machine.specs.Steps.{step}
use Rattle.m11_cpu_machine.specs.declared.machine.Machine.{Machine}
use Rattle.m11_cpu_machine.specs.declared.stop.Turn.{Turn}
use Rattle.m11_cpu_machine.specs.declared.stop.Turn.TheVariants.{Next}
use Rattle.m11_trace.specs.Lines.{short_line, step_line}
use Rattle.m11_trace.specs.Shots.{shot_of}
use Rattle.m11_trace.specs.declared.shots.Shot.{Shot}
use Rattle.m11_trace.specs.Known.{Known}

-- a step: the machine before it, its result and the machine after it
pub record TracedStep : Type 0 where
  pub before : Machine
  pub turn : Turn
  pub later : Machine

-- the result of the latest of these steps is `turn`; before the first step it is `Next`
abbrev pub Yielded : Turn → List TracedStep → Type 0
Yielded turn [] = turn ≡ Next
Yielded turn (taken ∷ earlier) = taken.turn ≡ turn

-- these steps, listed latest first, lead from one machine and the devices before to another machine and the devices after; the result
-- of each but the latest was `Next`
abbrev pub Follow : Machine → Devices → List TracedStep → Machine → Devices → Type 0
Follow m old [] m' new = (m' ≡ m) × (new ≡ old)
Follow m old (taken ∷ earlier) m' new = (middle : Devices) × Follow m old earlier taken.before middle × Yielded Next earlier
    × Does (step taken.before) middle new (taken.turn, taken.later) × (m' ≡ taken.later)

-- the machine before the first step, with its program counter at this address; unchanged if the address is odd
abbrev pub begun : ℕ → Machine → Machine
begun address m = if address % 2 == 1 then m else with_register Pc address m

-- what is recorded about a step for its trace line
abbrev pub kept : TracedStep → Shot
kept taken = shot_of taken.before taken.later

-- a line if its number is `first` or more, otherwise nothing
abbrev pub line_from : ℕ → ℕ → Bytes → Bytes
line_from first number line = if nat_le first number then line else []

-- the trace lines of the steps whose number is `first` or more; the steps are listed latest first, and the earliest has number 1
abbrev pub lines_from : Known → ℕ → List TracedStep → Bytes
lines_from known first [] = []
lines_from known first (taken ∷ earlier) = lines_from known first earlier
    ++ line_from first (suc (length earlier)) (step_line known (suc (length earlier)) taken.before taken.later)

-- the trace lines of recorded steps, without memory words; the steps are listed latest first, and the latest has this number
abbrev pub shots_text : Known → ℕ → List Shot → Bytes
shots_text known number [] = []
shots_text known number (shot ∷ earlier) = shots_text known (number - 1) earlier ++ short_line known number shot

-- the trace lines of the last `last` steps, if no step has a number of `first` or more; otherwise nothing
abbrev pub recent_lines : Known → ℕ → ℕ → List TracedStep → Bytes
recent_lines known first last taken =
    if nat_lt (length taken) first then shots_text known (length taken) (take last (map kept taken)) else []

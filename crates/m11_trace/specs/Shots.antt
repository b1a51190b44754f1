-- What is recorded about a step for its trace line: the words at the program counter, and the registers and the processor status word
-- before and after it. (This project's own.)
use Rattle.std.specs.Prelude.{ℕ, ◌+◌, ◌%◌, ◌==◌, nat_lt, if◌then◌else◌, List, [], ◌∷◌, length, slice_index_or, Option, Some, None}
use Rattle.m11_base.specs.Devices.{Bytes}
use Rattle.m11_cpu_machine.specs.Machine.{psw_in}
use Rattle.m11_cpu_machine.specs.Memory.{word_at}
use Rattle.m11_cpu_machine.specs.declared.machine.Machine.{Machine}
use Rattle.m11_trace.specs.declared.shots.InstructionWords.{InstructionWords}
use Rattle.m11_trace.specs.declared.shots.Shot.{Shot}
use Rattle.m11_trace.specs.declared.shots.View.{View}

-- the value of the register with this number
abbrev pub numbered : List ℕ → ℕ → ℕ
numbered registers number = slice_index_or registers number 0

abbrev pub counter_of : Machine → ℕ
counter_of m = numbered m.registers 7

-- the word `distance` bytes after a location, both even, if it lies in memory
abbrev pub word_past : Bytes → ℕ → ℕ → Option ℕ
word_past memory location distance =
    if nat_lt (location + distance) (length memory) then Some (word_at memory (location + distance)) else None

-- the word at this location and the two after it, since an instruction has at most three; each is None if it lies past the end of
-- memory, and all are None at an odd location
abbrev pub fetched_at : Bytes → ℕ → InstructionWords
fetched_at memory location =
    if location % 2 == 1 then record { first = None; second = None; third = None }
    else record {
      first = word_past memory location 0;
      second = word_past memory location 2;
      third = word_past memory location 4;
    }

-- a list of the words before the first missing one
abbrev pub words_by : Option ℕ → Option ℕ → Option ℕ → List ℕ
words_by None second third = []
words_by (Some first) None third = first ∷ []
words_by (Some first) (Some second) None = first ∷ second ∷ []
words_by (Some first) (Some second) (Some third) = first ∷ second ∷ third ∷ []

abbrev pub words_in : InstructionWords → List ℕ
words_in fetched = words_by fetched.first fetched.second fetched.third

-- the registers and the processor status word of a machine
abbrev pub view_of : Machine → View
view_of m = record { registers = m.registers; psw = psw_in m }

abbrev pub shot_of : Machine → Machine → Shot
shot_of before later = record {
  fetched = fetched_at before.memory (counter_of before);
  before = view_of before;
  later = view_of later;
}

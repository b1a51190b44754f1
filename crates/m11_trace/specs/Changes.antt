-- The memory words that a step changed, each with its address in MACRO-11's notation for absolute addresses. (This project's own; the
-- notation: MACRO-11 Language Reference Manual, "Absolute mode".)
use Rattle.std.specs.Prelude.{◌≡◌, ◌≢◌, ℕ, zero, suc, ◌*◌, ◌%◌, ◌<◌, ◌≤◌, ◌==◌, Bool, not, List, [], ◌∷◌, ◌++◌, codes, slice_index, filter, flat_map}
use Rattle.m11_base.specs.Devices.{Bytes}
use Rattle.m11_base.specs.Octal.{octal_text}
use Rattle.m11_cpu_machine.specs.Memory.{bytes_of, most_words, word_at}

-- the first `count` even addresses in order
unfoldable pub even_addresses : ℕ → List ℕ
even_addresses zero = []
even_addresses (suc count) = even_addresses count ++ 2 * count ∷ []

-- whether the words at this address differ between two memories; a word past the end of a memory is 0
abbrev pub has_changed : Bytes → Bytes → ℕ → Bool
has_changed before later address = not (word_at before address == word_at later address)

-- the addresses among the first `count` even ones at which the words differ
unfoldable pub changed_among : ℕ → Bytes → Bytes → List ℕ
changed_among count before later = filter (has_changed before later) (even_addresses count)

-- a word with its address, as a field of a trace line
abbrev pub word_text : ℕ → ℕ → Bytes
word_text address word = (codes "\t@#" ++ octal_text address) ++ (codes " " ++ octal_text word)

-- the fields of the words that changed at the first `count` even addresses, in order of address
unfoldable pub changes_among : ℕ → Bytes → Bytes → Bytes
changes_among count before later =
    flat_map (λ address. word_text address (word_at later address)) (changed_among count before later)

-- the addresses, in order and below those of the devices, of the memory words that a step changed
abbrev pub changed_addresses : Bytes → Bytes → List ℕ
changed_addresses before later = changed_among most_words before later

-- the fields of the memory words that a step changed below the addresses of the devices, in order of address
abbrev pub memory_changes : Bytes → Bytes → Bytes
memory_changes before later = changes_among most_words before later

-- the step changed the memory word at this address, which is even and below the addresses of the devices
abbrev pub HasAnotherWord : Bytes → Bytes → ℕ → Type 0
HasAnotherWord before later address =
    (address % 2 ≡ 0) × (address < 2 * most_words) × (word_at before address ≢ word_at later address)

-- two memories have the same words below the addresses of the devices; a word past the end of a memory is 0
abbrev pub HaveSameWords : Bytes → Bytes → Type 0
HaveSameWords memory other = (index : ℕ) → index < most_words → word_at memory (2 * index) ≡ word_at other (2 * index)

-- the words of a copy equal those of a memory, from the index `from` up to but not including the index `to`
abbrev pub AreAlike : List ℕ → Bytes → ℕ → ℕ → Type 0
AreAlike words memory from to =
    (index : ℕ) → from ≤ index → index < to → slice_index words index ≡ word_at memory (2 * index)

-- the words of a copy equal those of the memory after `count` steps, if the last of these steps has a trace line
abbrev pub CopyMatches : ℕ → ℕ → List ℕ → Bytes → Type 0
CopyMatches first count words memory = 1 ≤ count → first ≤ count → HaveSameWords (bytes_of words) memory

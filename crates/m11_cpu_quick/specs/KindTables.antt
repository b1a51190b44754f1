-- The kinds of all words. (This project's own.)
use Rattle.std.specs.Prelude.{ℕ, ◌<◌, List, slice_index_or}
use Rattle.m11_cpu_quick.specs.Kinds.{Describes}
use Rattle.m11_cpu_quick.specs.declared.kinds.Kind.{Kind}
use Rattle.m11_cpu_quick.specs.declared.kinds.Kind.TheVariants.{Rarer}

-- each kind of a list describes the word that is its index; `Rarer` and `Unseen` describe every word
abbrev pub AreKinds : List Kind → Type 0
AreKinds kinds = (word : ℕ) → word < 65536 → Describes (slice_index_or kinds word Rarer) word

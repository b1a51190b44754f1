-- Each line of a disassembly is assembled as the words from which it was written.
use Rattle.std.proofs.Common.{◌≡◌, ℕ, ◌%◌, ◌<◌, List, ◌∷◌, map, take, sym, subst}
use Rattle.std.specs.List.{AllByRecursion}
use Rattle.m11_base_disassembly.proofs.Meant.{line_meant}
use Rattle.m11_base_disassembly.specs.Instructions.{size_of, statement_of}
use Rattle.m11_base_disassembly.specs.Meaning.{AreWords, IsMeant}
use Rattle.m11_base_disassembly.specs.Statements.{Statement}
use Rattle.m11_base_disassembly.specs.Statements as statements
use Rattle.m11_base_disassembly.specs.declared.symbols.Symbol.{Symbol}
use Rattle.m11_asm_dump_laws.specs.Texts.{line_text}
use Rattle.m11_unfold_rules.specs.Unfolding.{UnfoldedLine}
use Rattle.m11_asm_rules.specs.Contents.{fixed_word}
use Rattle.m11_asm_rules.specs.Meanings.{Map}
use Rattle.m11_asm_rules.specs.Tables.{Table, location}
use Rattle.m11_asm_dump_laws.specs.Knowledge.{HasValue, IsSpelled, ReadsAsMeant}
use Rattle.m11_asm_dump_laws.specs.Lines.{Assembles, IsLine}
use Rattle.m11_asm_dump_laws.proofs.ReadData.{word_assembled}
use Rattle.m11_asm_dump_laws.proofs.ReadLines.{named_assembled}
use Rattle.m11_asm_dump_laws.proofs.RowNames.{IsWellWritten, well_written}

module _ (symbols : List Symbol) (spelled : AllByRecursion IsSpelled symbols) (map_ : Map) (table : Table) (reads : ReadsAsMeant table)
    (has : AllByRecursion (HasValue map_ table) symbols) (even : location table % 2 ≡ 0) (within : location table < 65536)
    (given : UnfoldedLine) where
  statement_assembled : (statement : Statement) (words : List ℕ) → IsMeant (location table) statement words → IsWellWritten statement
      → IsLine given (line_text symbols statement) → Assembles map_ table given (map fixed_word words)
  statement_assembled (statements.Named name operands) words means written this =
      named_assembled symbols spelled map_ table reads has even within given name written.0 means.0 means.1 words operands this means.2 written.1
  statement_assembled (statements.DataWord word) words means written this =
      let P : List ℕ → Type 0 = λ ws. Assembles map_ table given (map fixed_word ws) in
      subst P (sym means) (word_assembled map_ table reads within given word written even this)
  statement_assembled (statements.DataByte byte) words means written this = absurd means

  pub line_assembled : (word : ℕ) (more : List ℕ) → word < 65536 → AreWords more
      → IsLine given (line_text symbols (statement_of (location table) word more))
      → Assembles map_ table given (map fixed_word (take (size_of word more) (word ∷ more)))
  line_assembled word more fits all this =
      statement_assembled (statement_of (location table) word more) (take (size_of word more) (word ∷ more))
      (line_meant (location table) word more fits all) (well_written (location table) word more fits all) this

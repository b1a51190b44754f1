use Rattle.std.proofs.Common.{map, take}
use Rattle.m11_base_files.specs.MemoryFiles.{made_of}
use Rattle.m11_web.specs.Answers.{made_parts}
use Rattle.m11_web.specs.Blocks.{AreBlocks}
use Rattle.m11_web.proofs.answers.files_made.Given as goal

abbrev pub invariant-files : goal.invariant-files
invariant-files l = AreBlocks (made_parts (map made_of (take l.file-index l.made))) l.blocks.items

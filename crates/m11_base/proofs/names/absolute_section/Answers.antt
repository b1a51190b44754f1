use Rattle.std.proofs.Common.{◌∙◌, sym}
use Rattle.m11_base.proofs.NameWords.{absolute_words, never_none}
use Rattle.m11_base.proofs.names.absolute_section.Goals as goal

pub unreachable-requires : goal.unreachable-requires
unreachable-requires c = never_none _ _ (sym c.in-None.is ∙ c.pack.ensures) absolute_words

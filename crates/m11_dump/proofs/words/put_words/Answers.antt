use Rattle.std.proofs.Common.{◌++◌, ◌+◌, ◌<◌, length, arith, rules}
use Rattle.m11_dump.specs.Words.{words_from}
use Rattle.m11_dump.proofs.WordsShown.{word_shown}
use Rattle.m11_dump.proofs.words.put_words.Goals as goal

pub words-preserved : goal.words-preserved
words-preserved c =
    let more : c.words.index + 1 < length c.args.bytes.now = omega arith in record {
      within = omega arith;
      leads = word_shown (c.args.text.now.items ++ words_from c.args.address 0 c.args.bytes.now) c.words.text.items
          c.put_word.new.text.items c.args.bytes.now c.args.address c.words.index more c.words.invariant.leads (search rules);
    }

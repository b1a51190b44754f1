use Rattle.m11_link_text.proofs.lines.undefined_line.Goals as goal

pub returns : goal.returns
returns c = rw (c.ended.ensures, c.add_bytes-2.ensures.items, c.add_bytes.ensures.items, c.characters.ensures, c.new-line.ensures)

use Rattle.m11_link_text.proofs.map_lines.transfer_line.Goals as goal

pub returns : goal.returns
returns c = rw (c.ended.ensures, c.add_bytes-2.ensures.items, c.add_bytes.ensures.items, c.octal6.ensures.text, c.new-line.ensures)

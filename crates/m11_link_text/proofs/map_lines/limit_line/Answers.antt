use Rattle.m11_link_text.proofs.map_lines.limit_line.Goals as goal

pub returns : goal.returns
returns c = rw (
  c.ended.ensures,
  c.add_bytes-4.ensures.items,
  c.add_bytes-3.ensures.items,
  c.add_bytes-2.ensures.items,
  c.add_bytes.ensures.items,
  c.octal6-2.ensures.text,
  c.octal6.ensures.text,
  c.new-line.ensures,
)

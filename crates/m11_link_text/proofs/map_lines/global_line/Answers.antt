use Rattle.m11_link_text.proofs.map_lines.global_line.Goals as goal

pub returns : goal.returns
returns c = rw (
  c.ended.ensures,
  c.add_bytes-5.ensures.items,
  c.add_bytes-4.ensures.items,
  c.add_bytes-3.ensures.items,
  c.add_bytes-2.ensures.items,
  c.add_bytes.ensures.items,
  c.characters-2.ensures,
  c.octal6.ensures.text,
  c.characters.ensures,
  c.new-line.ensures,
)

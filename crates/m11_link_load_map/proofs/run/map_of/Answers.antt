use Rattle.std.proofs.Common.{List, subst}
use Rattle.m11_link_load_map.specs.Run.{IsMapBy}
use Rattle.m11_link_load_map.specs.declared.noted.MapFact.{MapFact}
use Rattle.m11_link_load_map.proofs.Texts.{map_is}
use Rattle.m11_link_load_map.proofs.run.map_of.Goals as goal

pub returns-in-Ok-map_text : goal.returns-in-Ok-map_text
returns-in-Ok-map_text g c =
    let n = c.in-Ok.ensures in
    let P : List MapFact → Type 0 = λ noted. IsMapBy c.in-Ok.plan noted c.in-Ok-map_text.text.items in (
      n.0,
      n.1,
      n.2,
      n.3,
      n.4,
      map_is c.args.bottom n.3 c.in-Ok.plan c.read_all.new.noted.items c.in-Ok-map_text.text.items n.5 n.6
          (subst P c.as_slice.ensures.value c.in-Ok-map_text.ensures),
    )

use Rattle.std.proofs.Common.{◌≡◌, List, None, Some, true, ap, refl, rules}
use Rattle.std.specs.Prelude.{is_none}
use Rattle.m11_obj.specs.Reading.{record_relocations}
use Rattle.m11_obj.specs.declared.relocations.Relocation.{Relocation}
use Rattle.m11_base_writes.specs.States.{output_of}
use Rattle.m11_dump.proofs.Fields.{kept_relocations, relocations_stay}
use Rattle.m11_dump.proofs.TextsLead.{none_mapped, places_taken}
use Rattle.m11_dump.specs.Objects.{places_in}
use Rattle.m11_dump.specs.declared.held.HeldText.{HeldText}
use Rattle.m11_dump.proofs.taking.take_places.Goals as goal

pub returns-in_ok-places : goal.returns-in_ok-places
returns-in_ok-places g c =
    let next : HeldText = record {
      address = c.args.text.address;
      bytes = c.args.text.bytes;
      shown = c.args.text.shown;
      places = Some c.in_ok-places.places;
    } in
    let gone : is_none c.args.text.places ≡ true = search rules in
    let none : places_in c.args.text ≡ None = none_mapped (λ relocations. relocations.items) c.args.text.places gone in
    places_taken c.args.view c.args.address c.args.text c.args.record.now (record_relocations c.args.record.now)
    (kept_relocations c.args.record.now c.requires.kind) (output_of g.S.Sink c.args.sink.now) none next
    (relocations_stay c.args.address c.args.record.now c.requires.kind) refl refl refl
    (ap (λ (l : List Relocation). Some l) c.in_ok-places.ensures) c.requires.fits c.requires.at

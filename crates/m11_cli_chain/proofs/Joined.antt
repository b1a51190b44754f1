-- The steps of a chain, one after another.
use Rattle.std.proofs.Common.{◌≡◌, ◌∙◌, ℕ, ◌*◌, ◌<◌, false, List, [], ◌∷◌, map, length, Option, Some, None, Result, Ok, Err, IfOk, IfErr, IsErrAnd, sym, ap, subst}
use Rattle.std.proofs.lemmas.List.{get_or-replicate, length-replicate}
use Rattle.std.specs.List.{AllByRecursion}
use Rattle.std.specs.Option.{unwrap_or}
use Rattle.m11_base.specs.Devices.{Bytes}
use Rattle.m11_base.specs.Feed.{Ends, Text}
use Rattle.m11_obj_blocks.specs.Limited.{most_bytes}
use Rattle.m11_obj_blocks.specs.declared.tape_fault.TapeFault.TheVariants as tape
use Rattle.m11_cpu.specs.Loading.{LoadsInto}
use Rattle.m11_cpu_machine.specs.Machine.{byte_in, memory_size, new_machine}
use Rattle.m11_cpu.specs.declared.fault.LoadFault.{LoadFault}
use Rattle.m11_cpu.specs.declared.fault.LoadFault.TheVariants.{Tape, OutsideMemory}
use Rattle.m11_cpu_machine.specs.declared.machine.Machine.{Machine}
use Rattle.m11_cli_image.specs.Image.{image_of}
use Rattle.m11_cli_image.specs.Links.{AreLinked}
use Rattle.m11_cli_image.specs.Objects.{SourceFits, link_parts, object_of}
use Rattle.m11_cli_image.specs.Refusals.{IsConsistent, IsOfSizes, IsWithinSizes}
use Rattle.m11_cli_image.specs.Sources.{Source}
use Rattle.m11_cli_image.specs.Tapes.{tape_size}
use Rattle.m11_link_layout.specs.Sections.{is_too_large}
use Rattle.m11_link_layout.specs.declared.fault.LinkFault.{LinkFault}
use Rattle.m11_base_writes.specs.declared.outputs.Output.TheVariants as output
use Rattle.m11_link.specs.Objects.{AreItems, Item, outcome}
use Rattle.m11_link.specs.Outputs.{link}
use Rattle.m11_link.specs.Written.{link_writes}
use Rattle.m11_link_text.specs.Findings.{findings_of}
use Rattle.m11_link_modules.specs.Parts.{Part}
use Rattle.m11_link_modules.specs.Rules.{first_fault}
use Rattle.m11_cpu_laws.specs.Image.{Image}
use Rattle.m11_cpu_laws.specs.Loaded.{HoldsImage, LiesInside, LiesPast, LoadYields}
use Rattle.m11_base_writes.specs.Writes.{gained}
use Rattle.m11_cli_chain.specs.Chain.{Chains, HasImage, Linked, StopsLoad}
use Rattle.m11_cli_chain.specs.Exact.{ChainsExactly, LinkAccepts, tape_of}
use Rattle.m11_asm_passes.specs.Lines.{NumberedLine}
use Rattle.m11_cli_chain.specs.Sources.{source_of, sources_of}
use Rattle.m11_cli_chain.specs.Steps.{AreObjectsOf, AssembliesFail, IsTapeOfObjects, LinkFails, LoadFails, LoadsNew}
use Rattle.m11_cli_chain.specs.declared.chain.Chained.{Chained}
use Rattle.m11_cli_chain.specs.declared.fault.ChainFault.{ChainFault}
use Rattle.m11_cli_chain.specs.declared.fault.ChainFault.TheVariants as chain
use Rattle.m11_cli_chain.proofs.Unfailing.{none_rises}

-- ---- links of sources

abbrev pub PartsLaw : Type 0
PartsLaw = (bottom : ℕ) (sources : List Source) (items : List Item) (parts : List Part) → AllByRecursion SourceFits sources
    → AreItems (map object_of sources) items → outcome bottom items ≡ Ok parts → AreLinked bottom sources parts

abbrev pub LoadLaw : Type 0
LoadLaw = (bottom : ℕ) (sources : List Source) (items : List Item) (parts : List Part) (text : Text) (left : Option Text)
    (faults faults' : ℕ) (before after : Machine) (result : Result ℕ LoadFault) → AllByRecursion SourceFits sources
    → AreItems (map object_of sources) items → outcome bottom items ≡ Ok parts
    → text.bytes ≡ gained link output.Product (link_writes (findings_of bottom parts) parts)
    → LoadsInto (Some text) left faults faults' before after result
    → LoadYields (image_of bottom sources) text.bytes faults faults' before after result

abbrev pub WithinLaw : Type 0
WithinLaw = (bottom : ℕ) (sources : List Source) (items : List Item) (parts : List Part) → AllByRecursion SourceFits sources
    → AreItems (map object_of sources) items → outcome bottom items ≡ Ok parts → IsWithinSizes bottom sources

abbrev pub SizeLaw : Type 0
SizeLaw = (bottom : ℕ) (sources : List Source) (items : List Item) (parts : List Part) → AllByRecursion SourceFits sources
    → AreItems (map object_of sources) items → outcome bottom items ≡ Ok parts
    → length (gained link output.Product (link_writes (findings_of bottom parts) parts)) ≡ tape_size sources

-- ---- a new machine

new_size : (words : ℕ) → memory_size (new_machine words) ≡ 2 * words
unfolding new_machine
new_size words = length-replicate {A = ℕ} (2 * words) 0

new_byte : (words address : ℕ) → address < 2 * words → byte_in address (new_machine words) ≡ 0
unfolding new_machine
new_byte words address lt = get_or-replicate {A = ℕ} (2 * words) address 0 0 lt

has_image : (image : Image) (words : ℕ) (after : Machine) (start : ℕ) → HoldsImage image (new_machine words) after start
    → HasImage image words after start
has_image image words after start h = record {
  bytes = λ address lt. h.bytes address (subst (λ (n : ℕ). address < n) (sym (new_size words)) lt)
      ∙ ap (λ (b : ℕ). unwrap_or (image.byte address) b) (new_byte words address lt);
  inside = subst (λ (n : ℕ). LiesInside n image) (new_size words) h.inside;
  size = h.size ∙ new_size words;
  others = h.others;
  start_is = h.start_is;
}

-- ---- a load of the tape of objects of sources

stops : (bottom words : ℕ) (sources : List Source) (bytes : Bytes) (after : Machine) (stopped : LoadFault) → length bytes ≡ tape_size sources
    → LoadYields (image_of bottom sources) bytes 0 0 (new_machine words) after (Err stopped) → StopsLoad bottom words stopped sources
stops bottom words sources bytes after OutsideMemory same h =
    subst (λ (n : ℕ). LiesPast n (image_of bottom sources)) (new_size words) h
stops bottom words sources bytes after (Tape tape.TooMuch) same h = subst (λ (n : ℕ). most_bytes < n) same h
stops bottom words sources bytes after (Tape tape.Device) same h = absurd (none_rises h)
stops bottom words sources bytes after (Tape other) same h = absurd h

module _ (parts_law : PartsLaw) (load_law : LoadLaw) (within_law : WithinLaw) (size_law : SizeLaw) (texts : List (List Bytes))
    (bottom words : ℕ) (objects : List Bytes) (bytes : Bytes) (o : AreObjectsOf texts objects) (t : IsTapeOfObjects bottom objects bytes) where
  abbrev sources : List Source
  sources = sources_of o.lines

  own_items : AreItems (map object_of sources) t.items
  own_items = subst (λ (xs : List Bytes). AreItems xs t.items) o.objects_are t.are

  own_link : AreLinked bottom sources t.parts
  own_link = parts_law bottom sources t.items t.parts o.fit own_items t.parts_are

  own_parts : t.parts ≡ link_parts sources
  own_parts = own_link.parts_are

  own_size : length bytes ≡ tape_size sources
  own_size = ap length t.tape_is ∙ size_law bottom sources t.items t.parts o.fit own_items t.parts_are

  own_tape : bytes ≡ tape_of bottom sources
  own_tape = t.tape_is ∙ ap (λ (ps : List Part). gained link output.Product (link_writes (findings_of bottom ps) ps)) own_parts

  takes : LinkAccepts bottom sources
  takes = record {
    sound = subst (λ (ps : List Part). first_fault [] ps ≡ None) own_parts own_link.sound;
    low = subst (λ (ps : List Part). is_too_large bottom ps ≡ false) own_parts own_link.low;
    size = subst (λ (bs : Bytes). length bs ≡ tape_size sources) own_tape own_size;
  }

  loaded : (after : Machine) (result : Result ℕ LoadFault) → LoadsNew bytes words after result
      → LoadYields (image_of bottom sources) bytes 0 0 (new_machine words) after result
  loaded after result l =
      load_law bottom sources t.items t.parts (record { bytes = bytes; ending = Ends }) l.0 0 0 (new_machine words) after result o.fit own_items
      t.parts_are t.tape_is l.1

  linked : (Holds : List Source → Type 0) → Holds sources → Linked texts bottom Holds
  linked Holds holds = record {
    lines = o.lines;
    live = o.live;
    links = within_law bottom sources t.items t.parts o.fit own_items t.parts_are;
    holds = holds;
  }

  -- the tape of the objects is that of the sources
  pub tape_linked : (Holds : Bytes → Type 0) → Holds bytes → Linked texts bottom (λ ss. Holds (tape_of bottom ss))
  tape_linked Holds h = linked (λ (ss : List Source). Holds (tape_of bottom ss)) (subst Holds own_tape h)

  -- a new machine that loaded the tape, from any feed, holds the image of the sources
  pub load_linked : (text : Text) (left : Option Text) (faults faults' : ℕ) (after : Machine) (start : ℕ) → text.bytes ≡ bytes
      → LoadsInto (Some text) left faults faults' (new_machine words) after (Ok start)
      → Linked texts bottom (λ ss. HasImage (image_of bottom ss) words after start)
  load_linked text left faults faults' after start same l =
      linked (λ (ss : List Source). HasImage (image_of bottom ss) words after start)
      (has_image (image_of bottom sources) words after start
      (load_law bottom sources t.items t.parts text left faults faults' (new_machine words) after (Ok start) o.fit own_items
      t.parts_are (same ∙ t.tape_is) l))

  load_fails : (stopped : ChainFault) → LoadFails bytes words stopped → ChainsExactly texts bottom words (Err stopped)
  load_fails (chain.Load stopped) (after, l) =
      linked (λ (ss : List Source). LinkAccepts bottom ss × StopsLoad bottom words stopped ss)
      (takes, stops bottom words sources bytes after stopped own_size (loaded after (Err stopped) l))
  load_fails chain.NoMemory h = tt
  load_fails (chain.Assembly stopped) h = absurd h
  load_fails (chain.Link stopped) h = absurd h

  pub chained : (result : Result Chained ChainFault) → IfOk result (λ done. LoadsNew bytes words done.machine (Ok done.start))
      → IfErr result (LoadFails bytes words) → ChainsExactly texts bottom words result
  chained (Ok done) l h =
      linked (λ (ss : List Source). LinkAccepts bottom ss × HasImage (image_of bottom ss) words done.machine done.start)
      (takes, has_image (image_of bottom sources) words done.machine done.start (loaded done.machine (Ok done.start) l))
  chained (Err stopped) l h = load_fails stopped h

-- ---- chains that end before the load

-- the sources of live lines are consistent
abbrev pub ConsistentLaw : Type 0
ConsistentLaw = (lines : List NumberedLine) → IsConsistent (source_of lines)

-- a link of the objects of sources that fit and are consistent is refused only for sizes
abbrev pub RefusalLaw : Type 0
RefusalLaw = (bottom : ℕ) (sources : List Source) (items : List Item) (stopped : LinkFault) → AllByRecursion SourceFits sources
    → AllByRecursion IsConsistent sources → AreItems (map object_of sources) items → outcome bottom items ≡ Err stopped
    → IsOfSizes bottom sources stopped

module _ (consistent : ConsistentLaw) (refusal : RefusalLaw) where
  all_consistent : (all : List (List NumberedLine)) → AllByRecursion IsConsistent (sources_of all)
  all_consistent [] = tt
  all_consistent (lines ∷ all) = (consistent lines, all_consistent all)

  link_refused : (texts : List (List Bytes)) (bottom words : ℕ) (objects : List Bytes) (stopped : ChainFault) → AreObjectsOf texts objects
      → LinkFails bottom objects stopped → ChainsExactly texts bottom words (Err stopped)
  link_refused texts bottom words objects (chain.Link stopped) o (of_objects, r) =
      let items = subst (λ (xs : List Bytes). AreItems xs r.items) o.objects_are r.are in (
        of_objects,
        record {
          lines = o.lines;
          live = o.live;
          items = r.items;
          are = items;
          refused = r.refused;
          of_sizes = refusal bottom (sources_of o.lines) r.items stopped o.fit (all_consistent o.lines) items r.refused;
        },
      )
  link_refused texts bottom words objects chain.NoMemory o h = tt
  link_refused texts bottom words objects (chain.Assembly stopped) o h = absurd h
  link_refused texts bottom words objects (chain.Load stopped) o h = absurd h

assembly_refused : (texts : List (List Bytes)) (bottom words : ℕ) (stopped : ChainFault) → AssembliesFail texts stopped
    → ChainsExactly texts bottom words (Err stopped)
assembly_refused texts bottom words (chain.Assembly stopped) h = h
assembly_refused texts bottom words chain.NoMemory h = tt
assembly_refused texts bottom words (chain.Link stopped) h = absurd h
assembly_refused texts bottom words (chain.Load stopped) h = absurd h

-- ---- faults passed on

pub assembly_stops : (texts : List (List Bytes)) (bottom words : ℕ) (stopped : ChainFault) (result : Result Chained ChainFault)
    → AssembliesFail texts stopped → IsErrAnd result (λ fault. fault ≡ stopped) → ChainsExactly texts bottom words result
assembly_stops texts bottom words stopped (Ok done) h e = absurd e
assembly_stops texts bottom words stopped (Err fault) h e =
    subst (λ (f : ChainFault). ChainsExactly texts bottom words (Err f)) (sym e) (assembly_refused texts bottom words stopped h)

pub link_stops : (consistent : ConsistentLaw) (refusal : RefusalLaw) (texts : List (List Bytes)) (bottom words : ℕ) (objects : List Bytes)
    (stopped : ChainFault) (result : Result Chained ChainFault) → AreObjectsOf texts objects → LinkFails bottom objects stopped
    → IsErrAnd result (λ fault. fault ≡ stopped) → ChainsExactly texts bottom words result
link_stops consistent refusal texts bottom words objects stopped (Ok done) o h e = absurd e
link_stops consistent refusal texts bottom words objects stopped (Err fault) o h e =
    subst (λ (f : ChainFault). ChainsExactly texts bottom words (Err f)) (sym e)
    (link_refused consistent refusal texts bottom words objects stopped o h)

-- ---- the outcome of a chain, without the linker's rules

weaker : (texts : List (List Bytes)) (bottom : ℕ) (Also Holds : List Source → Type 0) → Linked texts bottom (λ ss. Also ss × Holds ss)
    → Linked texts bottom Holds
weaker texts bottom Also Holds h = record { lines = h.lines; live = h.live; links = h.links; holds = h.holds.1 }

pub chains : (texts : List (List Bytes)) (bottom words : ℕ) (result : Result Chained ChainFault)
    → ChainsExactly texts bottom words result → Chains texts bottom words result
chains texts bottom words (Ok done) h =
    weaker texts bottom (LinkAccepts bottom) (λ ss. HasImage (image_of bottom ss) words done.machine done.start) h
chains texts bottom words (Err (chain.Load stopped)) h = weaker texts bottom (LinkAccepts bottom) (StopsLoad bottom words stopped) h
chains texts bottom words (Err (chain.Link stopped)) (of_objects, r) = (r.lines, r.live, r.of_sizes)
chains texts bottom words (Err (chain.Assembly stopped)) h = h
chains texts bottom words (Err chain.NoMemory) h = h

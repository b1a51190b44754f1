-- Assemblies, one after another.
use Rattle.std.proofs.Common.{◌≡◌, ◌∙◌, ◌<◌, ◌≤◌, ◌-◌, List, [], ◌∷◌, ◌++◌, length, get_or, take, drop, map, Result, Ok, Err, IfErr, IsErrAnd, append_assoc, append-nil, refl, sym, ap, subst, arith}
use Rattle.std.proofs.lemmas.Grind.{common_steps}
use Rattle.std.proofs.lemmas.List.{map-append}
use Rattle.m11_base.specs.Devices.{Bytes}
use Rattle.m11_cli_image.specs.Objects.{object_of}
use Rattle.m11_cli_chain.specs.Sources.{source_of}
use Rattle.m11_cli_chain.specs.Steps.{AreObjectsOf, AssembliesFail, AssemblyFails, IsObjectOf}
use Rattle.m11_cli_chain.specs.declared.fault.ChainFault.{ChainFault}
use Rattle.m11_cli_chain.specs.declared.fault.ChainFault.TheVariants as chain

-- after the first assemblies, which made `objects`, the other ones decide the outcome of all: their objects come after `objects`, and their
-- fault is the fault of all
pub record Continues (all rest : List (List Bytes)) (objects : List Bytes) : Type 0 where
  pub gives : (more : List Bytes) → AreObjectsOf rest more → AreObjectsOf all (objects ++ more)
  pub fails : (stopped : ChainFault) → AssembliesFail rest stopped → AssembliesFail all stopped

pub starts : (all : List (List Bytes)) → Continues all all []
starts all = record { gives = λ more o. o; fails = λ stopped h. h }

-- ---- one more

pub one_more : (texts : List Bytes) (rest : List (List Bytes)) (object : Bytes) (more : List Bytes) → IsObjectOf texts object
    → AreObjectsOf rest more → AreObjectsOf (texts ∷ rest) (object ∷ more)
one_more texts rest object more one o = record {
  lines = one.lines ∷ o.lines;
  live = (one.live, o.live);
  fit = (one.fits, o.fit);
  objects_are = ap (λ (b : Bytes). b ∷ more) one.object_is
      ∙ ap (λ (bs : List Bytes). object_of (source_of one.lines) ∷ bs) o.objects_are;
}

later_fails : (texts : List Bytes) (rest : List (List Bytes)) (object : Bytes) (stopped : ChainFault) → IsObjectOf texts object
    → AssembliesFail rest stopped → AssembliesFail (texts ∷ rest) stopped
later_fails texts rest object (chain.Assembly stopped) one (of_texts, r) = (
  of_texts,
  record {
    before = texts ∷ r.before;
    texts = r.texts;
    more = r.more;
    whole = ap (λ (ls : List (List Bytes)). texts ∷ ls) r.whole;
    lines = one.lines ∷ r.lines;
    live = (one.live, r.live);
    refused = r.refused;
  },
)
later_fails texts rest object chain.NoMemory one h = tt
later_fails texts rest object (chain.Link stopped) one h = absurd h
later_fails texts rest object (chain.Load stopped) one h = absurd h

here_fails : (texts : List Bytes) (rest : List (List Bytes)) (stopped : ChainFault) → AssemblyFails texts stopped
    → AssembliesFail (texts ∷ rest) stopped
here_fails texts rest (chain.Assembly stopped) (of_texts, refused) =
    (of_texts, record { before = []; texts = texts; more = rest; whole = refl; lines = []; live = tt; refused = refused })
here_fails texts rest chain.NoMemory h = tt
here_fails texts rest (chain.Link stopped) h = absurd h
here_fails texts rest (chain.Load stopped) h = absurd h

-- ---- the loop

module _ (all rest : List (List Bytes)) (texts : List Bytes) (objects : List Bytes) (c : Continues all (texts ∷ rest) objects) where
  pub continues : (object : Bytes) → IsObjectOf texts object → Continues all rest (objects ++ object ∷ [])
  continues object one = record {
    gives = λ more o. subst (λ (bs : List Bytes). AreObjectsOf all bs) (sym (append_assoc objects (object ∷ []) more))
        (c.gives (object ∷ more) (one_more texts rest object more one o));
    fails = λ stopped h. c.fails stopped (later_fails texts rest object stopped one h);
  }

  pub fails_here : (stopped : ChainFault) → AssemblyFails texts stopped → AssembliesFail all stopped
  fails_here stopped h = c.fails stopped (here_fails texts rest stopped h)

all_done : (all : List (List Bytes)) (objects : List Bytes) → Continues all [] objects → AreObjectsOf all objects
all_done all objects c = subst (λ (bs : List Bytes). AreObjectsOf all bs) (append-nil objects)
    (c.gives [] (record { lines = []; live = tt; fit = tt; objects_are = refl }))

-- ---- values that hold texts and objects

pub take_rest : {V : Type 0} (xs : List V) → take (length xs - 1) (drop 1 xs) ≡ drop 1 xs
take_rest xs = grind (arith, common_steps)

at_first : {V : Type 0} (xs : List V) (x : V) → 1 ≤ length xs → x ≡ get_or xs 0 x → xs ≡ x ∷ drop 1 xs
at_first [] x le e = absurd (omega (arith, le))
at_first {V} (y ∷ ys) x le e = ap (λ (z : V). z ∷ ys) (sym e)

module _ {V W : Type 0} (texts_of : V → List Bytes) (bytes_of : W → Bytes) (all : List (List Bytes)) (rest : List V) (first : V)
    (objects : List W) (le : 1 ≤ length rest) (is : first ≡ get_or rest 0 first)
    (c : Continues all (map texts_of rest) (map bytes_of objects)) where
  so_far : Continues all (texts_of first ∷ map texts_of (drop 1 rest)) (map bytes_of objects)
  so_far = subst (λ (vs : List V). Continues all (map texts_of vs) (map bytes_of objects)) (at_first rest first le is) c

  pub continues_with : (object : W) (new : List W) → IsObjectOf (texts_of first) (bytes_of object) → new ≡ objects ++ object ∷ []
      → Continues all (map texts_of (take (length rest - 1) (drop 1 rest))) (map bytes_of new)
  continues_with object new one same =
      subst (λ (vs : List V). Continues all (map texts_of vs) (map bytes_of new)) (sym (take_rest rest))
      (subst (λ (bs : List Bytes). Continues all (map texts_of (drop 1 rest)) bs)
      (sym (ap (map bytes_of) same ∙ map-append bytes_of objects (object ∷ [])))
      (continues all (map texts_of (drop 1 rest)) (texts_of first) (map bytes_of objects) so_far (bytes_of object) one))

  pub fails_with : {A : Type 0} (stopped : ChainFault) (result : Result A ChainFault) → AssemblyFails (texts_of first) stopped
      → IsErrAnd result (λ fault. fault ≡ stopped) → IfErr result (AssembliesFail all)
  fails_with stopped (Ok value) h e = tt
  fails_with stopped (Err fault) h e = subst (λ (f : ChainFault). AssembliesFail all f) (sym e)
      (fails_here all (map texts_of (drop 1 rest)) (texts_of first) (map bytes_of objects) so_far stopped h)

pub ends_with : {V : Type 0} (texts_of : V → List Bytes) (all : List (List Bytes)) (rest : List V) (objects : List Bytes) → length rest < 1
    → Continues all (map texts_of rest) objects → AreObjectsOf all objects
ends_with texts_of all [] objects lt c = all_done all objects c
ends_with texts_of all (x ∷ rest) objects lt c = absurd (omega (arith, lt))

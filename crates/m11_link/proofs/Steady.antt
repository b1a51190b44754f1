-- What is read from bytes is the same whatever follows them: so the bytes of objects always yield items.
use Rattle.std.proofs.Common.{◌≡◌, ◌∙◌, ℕ, zero, suc, ◌+◌, ◌*◌, ◌-◌, ◌<◌, ◌≤◌, false, cond, ltb, eqb, List, [], ◌∷◌, ◌++◌, length, take, drop, Ok, Err, refl, sym, ap, subst, append_assoc, arith, inl, inr}
use Rattle.std.proofs.Math.Seq.{take-append_seam, drop-append_seam}
use Rattle.std.proofs.lemmas.Bool.{le-ltb, cases_lt}
use Rattle.std.proofs.lemmas.List.{take-append-drop, length-append, length-take, take_all}
use Rattle.m11_obj_blocks.specs.declared.block_fault.BlockFault.{BlockFault}
use Rattle.m11_obj_blocks.specs.declared.block_fault.BlockFault.TheVariants as fault
use Rattle.m11_obj_blocks.specs.Frames.{sum_byte, header, content_limit}
use Rattle.m11_obj_blocks.specs.Limited.{Between, Inside, Refused, Read, ◌>>=◌, IsShort, most_bytes}
use Rattle.m11_obj_blocks.specs.Blocks.{start, second, count_of, count, content_of, summed, first_block}
use Rattle.m11_obj_blocks.proofs.BlockParts.{after_start, after_second, after_count, after_content}
use Rattle.m11_obj_blocks.proofs.BlockFrames.{content_takes}
use Rattle.m11_obj_blocks.proofs.ReadSteps.{bind_ok, bind_err, chosen, done, rest_is, value_is}
use Rattle.m11_link_layout.specs.declared.fault.LinkFault.TheVariants as fault'
use Rattle.m11_link.specs.Objects as objects
use Rattle.m11_link.specs.Objects.{Item, ObjectItems, AreItems}

-- a value or a refusal is the same whatever bytes follow, and no more bytes are left after a value than there were before it
pub record Steady {A : Type 0} (read : List ℕ → Read BlockFault A) : Type 0 where
  pub ok : (p q : List ℕ) (x : A) (rest : List ℕ) → read p ≡ Ok (x, rest) → read (p ++ q) ≡ Ok (x, rest ++ q)
  pub refused : (p q : List ℕ) (inner : BlockFault) (rest : List ℕ) → read p ≡ Err (Refused inner rest)
      → read (p ++ q) ≡ Err (Refused inner (rest ++ q))
  pub shorter : (p : List ℕ) (x : A) (rest : List ℕ) → read p ≡ Ok (x, rest) → length rest ≤ length p

-- ---- one part after another

module _ {A B : Type 0} (first : List ℕ → Read BlockFault A) (then : A × List ℕ → Read BlockFault B)
    (f : Steady first) (t : (x : A) → Steady (λ rest. then (x, rest))) where
  abbrev both : List ℕ → Read BlockFault B
  both bytes = first bytes >>= then

  goes_on : (p : List ℕ) (x : A × List ℕ) → first p ≡ Ok x → both p ≡ then x
  goes_on p x e = ap (λ (r : Read BlockFault A). r >>= then) e

  ok_both : (p q : List ℕ) (y : B) (rest : List ℕ) → both p ≡ Ok (y, rest) → both (p ++ q) ≡ Ok (y, rest ++ q)
  ok_both p q y rest e =
      let x = bind_ok (first p) then (y, rest) e in
      goes_on (p ++ q) (x.0.0, x.0.1 ++ q) (f.ok p q x.0.0 x.0.1 x.1) ∙ (t x.0.0).ok x.0.1 q y rest x.2

  refused_both : (p q : List ℕ) (inner : BlockFault) (rest : List ℕ) → both p ≡ Err (Refused inner rest)
      → both (p ++ q) ≡ Err (Refused inner (rest ++ q))
  refused_both p q inner rest e =
      elim (bind_err (first p) then (Refused inner rest) e) [
        | inl early ↦ ap (λ (r : Read BlockFault A). r >>= then) (f.refused p q inner rest early)
        | inr x ↦
            goes_on (p ++ q) (x.0.0, x.0.1 ++ q) (f.ok p q x.0.0 x.0.1 x.1)
            ∙ (t x.0.0).refused x.0.1 q inner rest x.2
      ]

  shorter_both : (p : List ℕ) (y : B) (rest : List ℕ) → both p ≡ Ok (y, rest) → length rest ≤ length p
  shorter_both p y rest e =
      let x = bind_ok (first p) then (y, rest) e in
      omega (arith, f.shorter p x.0.0 x.0.1 x.1, (t x.0.0).shorter x.0.1 y rest x.2)

  pub steady_then : Steady both
  steady_then = record { ok = ok_both; refused = refused_both; shorter = shorter_both }

-- ---- the parts of a block

abbrev pub refuse : {A : Type 0} → BlockFault → List ℕ → Read BlockFault A
refuse inner rest = Err (Refused inner rest)

pub stop_is : {A : Type 0} (a b : BlockFault) (xs ys : List ℕ) → refuse {A = A} a xs ≡ refuse b ys → (a ≡ b) × (xs ≡ ys)
stop_is a b xs ys e = (cc, cc)

refused_same : {A : Type 0} (a b : BlockFault) (xs ys q : List ℕ) → refuse {A = A} a xs ≡ refuse b ys
    → refuse {A = A} a (xs ++ q) ≡ refuse b (ys ++ q)
refused_same a b xs ys q e = let s = stop_is a b xs ys e in rw (s.0, s.1) refl

done_same : {A : Type 0} (x y : A) (xs ys q : List ℕ) → done {Fault = BlockFault} x xs ≡ done y ys
    → done {Fault = BlockFault} x (xs ++ q) ≡ done y (ys ++ q)
done_same x y xs ys q e = let v = value_is x y xs ys e in let r = rest_is x y xs ys e in rw (v, r) refl

done_shorter : {A : Type 0} (x y : A) (xs ys : List ℕ) → done {Fault = BlockFault} x xs ≡ done y ys
    → length ys ≤ length xs
done_shorter x y xs ys e = omega (arith, ap length (rest_is x y xs ys e))

-- the zeros and the 001 at the start of a block are at least one byte, and are read in the same way whatever follows
start_ok : (p q : List ℕ) (x : Unit {0}) (rest : List ℕ) → start p ≡ Ok (x, rest)
    → (start (p ++ q) ≡ Ok (x, rest ++ q)) × (length rest < length p)
start_ok [] q x rest e = absurd cc
start_ok (byte ∷ p) q x rest e =
    elim (chosen (eqb byte 0) (start p) (cond (eqb byte 1) (done tt p) (refuse fault.BadStart p)) (Ok (x, rest)) e) [
      | inl nul ↦ let more = start_ok p q x rest nul.1 in (rw nul.0 more.0, omega (arith, more.1))
      | inr some ↦ elim (chosen (eqb byte 1) (done tt p) (refuse fault.BadStart p) (Ok (x, rest)) some.1) [
        | inl one ↦ (
          rw (some.0, one.0) (done_same tt x p rest q one.1),
          omega (arith, done_shorter tt x p rest one.1),
        )
        | inr other ↦ absurd (let bad = other.1 in cc)
      ]
    ]

start_refused : (p q : List ℕ) (inner : BlockFault) (rest : List ℕ) → start p ≡ Err (Refused inner rest)
    → start (p ++ q) ≡ Err (Refused inner (rest ++ q))
start_refused [] q inner rest e = absurd cc
start_refused (byte ∷ p) q inner rest e =
    elim (chosen (eqb byte 0) (start p) (cond (eqb byte 1) (done tt p) (refuse fault.BadStart p))
    (refuse inner rest) e) [
      | inl nul ↦ rw nul.0 (start_refused p q inner rest nul.1)
      | inr some ↦ elim (chosen (eqb byte 1) (done tt p) (refuse fault.BadStart p) (refuse inner rest) some.1) [
        | inl one ↦ absurd (let bad = one.1 in cc)
        | inr other ↦ rw (some.0, other.0) (refused_same fault.BadStart inner p rest q other.1)
      ]
    ]

pub second_steady : Steady second
second_steady = record {
  ok = λ p q x rest e. second_ok p q x rest e;
  refused = λ p q inner rest e. second_refused p q inner rest e;
  shorter = λ p x rest e. second_shorter p x rest e;
}
  where
    second_ok : (p q : List ℕ) (x : Unit {0}) (rest : List ℕ) → second p ≡ Ok (x, rest)
        → second (p ++ q) ≡ Ok (x, rest ++ q)
    second_ok [] q x rest e = absurd cc
    second_ok (byte ∷ p) q x rest e =
        elim (chosen (eqb byte 0) (done tt p) (refuse fault.BadStart p) (Ok (x, rest)) e) [
          | inl nul ↦ rw nul.0 (done_same tt x p rest q nul.1)
          | inr some ↦ absurd (let bad = some.1 in cc)
        ]

    second_refused : (p q : List ℕ) (inner : BlockFault) (rest : List ℕ) → second p ≡ Err (Refused inner rest)
        → second (p ++ q) ≡ Err (Refused inner (rest ++ q))
    second_refused [] q inner rest e = absurd cc
    second_refused (byte ∷ p) q inner rest e =
        elim (chosen (eqb byte 0) (done tt p) (refuse fault.BadStart p) (refuse inner rest) e) [
          | inl nul ↦ absurd (let bad = nul.1 in cc)
          | inr some ↦ rw some.0 (refused_same fault.BadStart inner p rest q some.1)
        ]

    second_shorter : (p : List ℕ) (x : Unit {0}) (rest : List ℕ) → second p ≡ Ok (x, rest) → length rest ≤ length p
    second_shorter [] x rest e = absurd cc
    second_shorter (byte ∷ p) x rest e =
        elim (chosen (eqb byte 0) (done tt p) (refuse fault.BadStart p) (Ok (x, rest)) e) [
          | inl nul ↦ omega (arith, done_shorter tt x p rest nul.1)
          | inr some ↦ absurd (let bad = some.1 in cc)
        ]

-- if a length is accepted, it is within its bounds
pub count_within : (n : ℕ) (p : List ℕ) (x : ℕ) (rest : List ℕ) → count_of n p ≡ Ok (x, rest)
    → (ltb n 4 ≡ false) × (ltb (content_limit + 4) n ≡ false) × (done {Fault = BlockFault} (n - 4) p ≡ done x rest)
count_within n p x rest e =
    elim (chosen (ltb n 4) (refuse fault.TooShort p)
    (cond (ltb (content_limit + 4) n) (refuse fault.TooLong p) (done (n - 4) p)) (Ok (x, rest)) e) [
      | inl short ↦ absurd (let bad = short.1 in cc)
      | inr enough ↦ elim (chosen (ltb (content_limit + 4) n) (refuse fault.TooLong p) (done (n - 4) p) (Ok (x, rest))
          enough.1) [
            | inl long ↦ absurd (let bad = long.1 in cc)
            | inr fits ↦ (enough.0, fits.0, fits.1)
          ]
    ]

count_of_ok : (n : ℕ) (p q : List ℕ) (x : ℕ) (rest : List ℕ) → count_of n p ≡ Ok (x, rest)
    → (count_of n (p ++ q) ≡ Ok (x, rest ++ q)) × (length rest ≤ length p)
count_of_ok n p q x rest e =
    let h = count_within n p x rest e in
    (rw (h.0, h.1) (done_same (n - 4) x p rest q h.2), done_shorter (n - 4) x p rest h.2)

count_of_refused : (n : ℕ) (p q : List ℕ) (inner : BlockFault) (rest : List ℕ) → count_of n p ≡ Err (Refused inner rest)
    → count_of n (p ++ q) ≡ Err (Refused inner (rest ++ q))
count_of_refused n p q inner rest e =
    elim (chosen (ltb n 4) (refuse fault.TooShort p)
    (cond (ltb (content_limit + 4) n) (refuse fault.TooLong p) (done (n - 4) p)) (refuse inner rest) e) [
      | inl short ↦ rw short.0 (refused_same fault.TooShort inner p rest q short.1)
      | inr enough ↦ elim (chosen (ltb (content_limit + 4) n) (refuse fault.TooLong p) (done (n - 4) p)
          (refuse inner rest) enough.1) [
            | inl long ↦ rw (enough.0, long.0) (refused_same fault.TooLong inner p rest q long.1)
            | inr fits ↦ absurd (let bad = fits.1 in cc)
          ]
    ]

pub count_steady : Steady count
count_steady = record {
  ok = λ p q x rest e. count_ok p q x rest e;
  refused = λ p q inner rest e. count_refused p q inner rest e;
  shorter = λ p x rest e. count_shorter p x rest e;
}
  where
    count_ok : (p q : List ℕ) (x : ℕ) (rest : List ℕ) → count p ≡ Ok (x, rest) → count (p ++ q) ≡ Ok (x, rest ++ q)
    count_ok [] q x rest e = absurd cc
    count_ok (low ∷ []) q x rest e = absurd cc
    count_ok (low ∷ high ∷ p) q x rest e = (count_of_ok (low + 256 * high) p q x rest e).0

    count_refused : (p q : List ℕ) (inner : BlockFault) (rest : List ℕ) → count p ≡ Err (Refused inner rest)
        → count (p ++ q) ≡ Err (Refused inner (rest ++ q))
    count_refused [] q inner rest e = absurd cc
    count_refused (low ∷ []) q inner rest e = absurd cc
    count_refused (low ∷ high ∷ p) q inner rest e = count_of_refused (low + 256 * high) p q inner rest e

    count_shorter : (p : List ℕ) (x : ℕ) (rest : List ℕ) → count p ≡ Ok (x, rest) → length rest ≤ length p
    count_shorter [] x rest e = absurd cc
    count_shorter (low ∷ []) x rest e = absurd cc
    count_shorter (low ∷ high ∷ p) x rest e = omega (arith, (count_of_ok (low + 256 * high) p [] x rest e).1)

-- bytes that begin with a content of this length yield this content
pub content_again : (xs rest : List ℕ) → content_of (length xs) (xs ++ rest) ≡ Ok (xs, rest)
content_again xs rest =
    let long : ltb (length (xs ++ rest)) (length xs) ≡ false = le-ltb _ _ (omega (arith, length-append xs rest)) in
    rw (long, take-append_seam xs rest, drop-append_seam xs rest) refl

module _ (n : ℕ) where
  content_ok : (p q xs rest : List ℕ) → content_of n p ≡ Ok (xs, rest) → content_of n (p ++ q) ≡ Ok (xs, rest ++ q)
  content_ok p q xs rest e =
      let found = content_takes n p xs rest e in
      let whole : p ++ q ≡ xs ++ (rest ++ q) = ap (λ (l : List ℕ). l ++ q) found.1 ∙ append_assoc xs rest q in
      ap (content_of n) whole ∙ ap (λ k. content_of k (xs ++ (rest ++ q))) (sym found.0) ∙ content_again xs (rest ++ q)

  content_shorter : (p xs rest : List ℕ) → content_of n p ≡ Ok (xs, rest) → length rest ≤ length p
  content_shorter p xs rest e =
      omega (arith, ap length (content_takes n p xs rest e).1, length-append xs rest)

  pub content_refused : (p : List ℕ) (inner : BlockFault) (rest : List ℕ) → content_of n p ≡ Err (Refused inner rest)
      → ⊥
  content_refused p inner rest e =
      elim (chosen (ltb (length p) n) (Err Inside) (done (take n p) (drop n p)) (refuse inner rest) e) [
        | inl short ↦ (let bad = short.1 in cc)
        | inr enough ↦ (let bad = enough.1 in cc)
      ]

  pub content_steady : Steady (content_of n)
  content_steady = record {
    ok = content_ok;
    refused = λ p q inner rest e. absurd (content_refused p inner rest e);
    shorter = content_shorter;
  }

-- the sum byte after this content
module _ (xs : List ℕ) where
  abbrev last : ℕ
  last = sum_byte (header (length xs) ++ xs)

  summed_ok : (p q ys rest : List ℕ) → summed xs p ≡ Ok (ys, rest)
      → (summed xs (p ++ q) ≡ Ok (ys, rest ++ q)) × (length rest ≤ length p)
  summed_ok [] q ys rest e = absurd cc
  summed_ok (byte ∷ p) q ys rest e =
      elim (chosen (eqb byte last) (done xs p) (refuse fault.BadSum p) (Ok (ys, rest)) e) [
        | inl hit ↦ (
          rw hit.0 (done_same xs ys p rest q hit.1),
          omega (arith, done_shorter xs ys p rest hit.1),
        )
        | inr miss ↦ absurd (let bad = miss.1 in cc)
      ]

  summed_refused : (p q : List ℕ) (inner : BlockFault) (rest : List ℕ) → summed xs p ≡ Err (Refused inner rest)
      → summed xs (p ++ q) ≡ Err (Refused inner (rest ++ q))
  summed_refused [] q inner rest e = absurd cc
  summed_refused (byte ∷ p) q inner rest e =
      elim (chosen (eqb byte last) (done xs p) (refuse fault.BadSum p) (refuse inner rest) e) [
        | inl hit ↦ absurd (let bad = hit.1 in cc)
        | inr miss ↦ rw miss.0 (refused_same fault.BadSum inner p rest q miss.1)
      ]

  summed_steady : Steady (summed xs)
  summed_steady = record {
    ok = λ p q ys rest e. (summed_ok p q ys rest e).0;
    refused = summed_refused;
    shorter = λ p ys rest e. (summed_ok p [] ys rest e).1;
  }

-- ---- a block

content_then : (n : ℕ) → Steady (λ rest. after_count (n, rest))
content_then n = steady_then (content_of n) after_content (content_steady n) summed_steady

count_then : Steady (λ rest. after_second (tt, rest))
count_then = steady_then count after_count count_steady content_then

pub start_steady : Steady start
start_steady = record {
  ok = λ p q x rest e. (start_ok p q x rest e).0;
  refused = start_refused;
  shorter = λ p x rest e. omega (arith, (start_ok p [] x rest e).1);
}

second_then : (x : Unit {0}) → Steady (λ rest. after_start (x, rest))
second_then x = steady_then second after_second second_steady (λ y. count_then)

pub block_steady : Steady first_block
unfolding first_block
block_steady = steady_then start after_start start_steady second_then

-- a block has at least one byte
pub block_shorter : (p content rest : List ℕ) → first_block p ≡ Ok (content, rest) → length rest < length p
unfolding first_block
block_shorter p content rest e =
    let x = bind_ok (start p) after_start (content, rest) e in
    omega (arith, (start_ok p [] x.0.0 x.0.1 x.1).1, (second_then x.0.0).shorter x.0.1 content rest x.2)

-- ---- the items of an object

abbrev Come : ℕ → List ℕ → Type 0
Come room bytes = (items : List Item) × ObjectItems room bytes items

-- if the bytes within the limit are too few to decide, the object passes the limit or yields this item alone
past_or : (room : ℕ) (bytes : List ℕ) (item : Item) → IsShort (first_block (take room bytes))
    → (length bytes ≤ room → ObjectItems room bytes (item ∷ [])) → Come room bytes
past_or room bytes item short whole =
    elim (cases_lt room (length bytes)) [
      | inl lt ↦ (objects.Refused fault'.TooMuch ∷ [], objects.Passes lt short)
      | inr ge ↦ (item ∷ [], whole ge)
    ]

come_by : (bound room : ℕ) (bytes : List ℕ)
    → ((left : ℕ) (rest : List ℕ) → length rest < length bytes → Come left rest)
    → (r : Read BlockFault (List ℕ)) → first_block (take room bytes) ≡ r → Come room bytes
come_by bound room bytes more (Ok x) e =
    let seen = block_steady.ok (take room bytes) (drop room bytes) x.0 x.1 e in
    let is : first_block bytes ≡ Ok (x.0, x.1 ++ drop room bytes) =
    ap first_block (sym (take-append-drop room bytes)) ∙ seen in
    let fewer = block_shorter bytes x.0 (x.1 ++ drop room bytes) is in
    let front : length (take room bytes) ≤ room = omega (arith, length-take room bytes) in
    let left : ℕ = length (x.1 ++ drop room bytes) + room - length bytes in
    let fits : length bytes + left ≡ length (x.1 ++ drop room bytes) + room =
    omega (
      arith,
      front,
      length-append x.1 (drop room bytes),
      length-append (take room bytes) (drop room bytes),
      ap length (take-append-drop room bytes),
    ) in
    let others = more left (x.1 ++ drop room bytes) fewer in
    (objects.BlockOf x.0 ∷ others.0, objects.Begins is fits others.1)
come_by bound room bytes more (Err Between) e = past_or room bytes objects.ObjectEnds
    (let P : Read BlockFault (List ℕ) → Type 0 = λ r. IsShort r in subst P (sym e) tt)
    (λ le. objects.Ends (ap first_block (sym (take_all room bytes le)) ∙ e) le)
come_by bound room bytes more (Err Inside) e = past_or room bytes (objects.Refused (fault'.Block fault.Truncated))
    (let P : Read BlockFault (List ℕ) → Type 0 = λ r. IsShort r in subst P (sym e) tt)
    (λ le. objects.IsCut (ap first_block (sym (take_all room bytes le)) ∙ e) le)
come_by bound room bytes more (Err (Refused inner rest)) e =
    let seen = block_steady.refused (take room bytes) (drop room bytes) inner rest e in
    let is : first_block bytes ≡ Err (Refused inner (rest ++ drop room bytes)) =
    ap first_block (sym (take-append-drop room bytes)) ∙ seen in
    let front : length (take room bytes) ≤ room = omega (arith, length-take room bytes) in (
      objects.Refused (fault'.Block inner) ∷ [],
      objects.IsBad is (omega (
        arith,
        front,
        length-append rest (drop room bytes),
        length-append (take room bytes) (drop room bytes),
        ap length (take-append-drop room bytes),
      )),
    )

come_within : (bound room : ℕ) (bytes : List ℕ) → length bytes < bound → Come room bytes
come_within zero room bytes h = absurd (omega arith)
come_within (suc bound) room bytes h =
    come_by bound room bytes (λ left rest fewer. come_within bound left rest (omega arith))
    (first_block (take room bytes)) refl

pub object_comes : (room : ℕ) (bytes : List ℕ) → (items : List Item) × ObjectItems room bytes items
object_comes room bytes = come_within (suc (length bytes)) room bytes (omega arith)

pub objects_come : (sources : List (List ℕ)) → (items : List Item) × AreItems sources items
objects_come [] = ([], objects.Nothing)
objects_come (source ∷ sources) =
    let own = object_comes most_bytes source in
    let others = objects_come sources in
    (own.0 ++ others.0, objects.Object own.1 others.1)

-- Bytes yield their items in only one way: the bytes that were read decide which items they are.
use Rattle.std.proofs.Common.{◌≡◌, ◌∙◌, ℕ, ◌+◌, ◌*◌, ◌-◌, ◌<◌, ◌≤◌, cond, ltb, eqb, List, [], ◌∷◌, ◌++◌, length, take, Ok, Err, refl, sym, ap, subst, append_assoc, append-nil, arith, inl, inr}
use Rattle.std.proofs.Math.Seq.{take-append-add}
use Rattle.std.proofs.lemmas.List.{length-append}
use Rattle.m11_obj_blocks.specs.declared.block_fault.BlockFault.{BlockFault}
use Rattle.m11_obj_blocks.specs.declared.block_fault.BlockFault.TheVariants as fault
use Rattle.m11_obj_blocks.specs.Frames.{sum_byte, header, content_limit}
use Rattle.m11_obj_blocks.specs.Limited.{Between, Inside, Refused, Read, Stop, ◌>>=◌, IsShort, most_bytes}
use Rattle.m11_obj_blocks.specs.Blocks.{start, second, count_of, count, content_of, summed, first_block}
use Rattle.m11_obj_blocks.proofs.BlockParts.{after_start, after_second, after_count, after_content}
use Rattle.m11_obj_blocks.proofs.BlockFrames.{content_takes}
use Rattle.m11_obj_blocks.proofs.ReadSteps.{bind_ok, bind_err, chosen, done, rest_is, value_is}
use Rattle.m11_link_layout.specs.declared.fault.LinkFault.TheVariants as fault'
use Rattle.m11_link.specs.Objects.{AreItems, BlockOf, Item, ObjectEnds, ObjectItems}
use Rattle.m11_link.specs.Objects as objects
use Rattle.m11_link.proofs.Steady.{Steady, block_steady, content_again, content_refused, content_steady, count_steady, count_within, refuse, second_steady, start_steady, stop_is}

-- a value or a refusal needs no bytes after it: the bytes before the rest yield the same alone
pub record Sole {A : Type 0} (read : List ℕ → Read BlockFault A) : Type 0 where
  pub ok : (p : List ℕ) (x : A) (rest : List ℕ) → read p ≡ Ok (x, rest)
      → (front : List ℕ) × (p ≡ front ++ rest) × (read front ≡ Ok (x, []))
  pub refused : (p : List ℕ) (inner : BlockFault) (rest : List ℕ) → read p ≡ Err (Refused inner rest)
      → (front : List ℕ) × (p ≡ front ++ rest) × (read front ≡ Err (Refused inner []))

module _ {A B : Type 0} (first : List ℕ → Read BlockFault A) (then : A × List ℕ → Read BlockFault B)
    (f : Sole first) (s : Steady first) (t : (x : A) → Sole (λ rest. then (x, rest))) where
  abbrev both : List ℕ → Read BlockFault B
  both bytes = first bytes >>= then

  joined : (p one two rest : List ℕ) (x : A) → first one ≡ Ok (x, []) → both (one ++ two) ≡ then (x, two)
  joined p one two rest x e = ap (λ (r : Read BlockFault A). r >>= then) (s.ok one two x [] e)

  split : (p one two middle rest : List ℕ) → p ≡ one ++ middle → middle ≡ two ++ rest → p ≡ (one ++ two) ++ rest
  split p one two middle rest e g = e ∙ ap (λ (l : List ℕ). one ++ l) g ∙ sym (append_assoc one two rest)

  ok_both : (p : List ℕ) (y : B) (rest : List ℕ) → both p ≡ Ok (y, rest)
      → (front : List ℕ) × (p ≡ front ++ rest) × (both front ≡ Ok (y, []))
  ok_both p y rest e =
      let x = bind_ok (first p) then (y, rest) e in
      let one = f.ok p x.0.0 x.0.1 x.1 in
      let two = (t x.0.0).ok x.0.1 y rest x.2 in (
        one.0 ++ two.0,
        split p one.0 two.0 x.0.1 rest one.1 two.1,
        joined p one.0 two.0 rest x.0.0 one.2 ∙ two.2,
      )

  refused_both : (p : List ℕ) (inner : BlockFault) (rest : List ℕ) → both p ≡ Err (Refused inner rest)
      → (front : List ℕ) × (p ≡ front ++ rest) × (both front ≡ Err (Refused inner []))
  refused_both p inner rest e =
      elim (bind_err (first p) then (Refused inner rest) e) [
        | inl early ↦ let one = f.refused p inner rest early in
            (one.0, one.1, ap (λ (r : Read BlockFault A). r >>= then) one.2)
        | inr x ↦
            let one = f.ok p x.0.0 x.0.1 x.1 in
            let two = (t x.0.0).refused x.0.1 inner rest x.2 in (
              one.0 ++ two.0,
              split p one.0 two.0 x.0.1 rest one.1 two.1,
              joined p one.0 two.0 rest x.0.0 one.2 ∙ two.2,
            )
      ]

  pub sole_then : Sole both
  sole_then = record { ok = ok_both; refused = refused_both }

-- ---- the parts of a block

done_alone : {A : Type 0} (x y : A) (xs ys : List ℕ) → done {Fault = BlockFault} x xs ≡ done y ys
    → done {Fault = BlockFault} x [] ≡ done y []
done_alone x y xs ys e = let v = value_is x y xs ys e in rw v refl

refused_alone : {A : Type 0} (a b : BlockFault) (xs ys : List ℕ) → refuse {A = A} a xs ≡ refuse b ys
    → refuse {A = A} a [] ≡ refuse b []
refused_alone a b xs ys e = let s = stop_is a b xs ys e in rw s.0 refl

front_of : (byte : ℕ) (p rest : List ℕ) → p ≡ rest → byte ∷ p ≡ (byte ∷ []) ++ rest
front_of byte p rest e = ap (λ (l : List ℕ). byte ∷ l) e

start_sole : Sole start
start_sole = record { ok = start_ok; refused = start_refused }
  where
    start_ok : (p : List ℕ) (x : Unit {0}) (rest : List ℕ) → start p ≡ Ok (x, rest)
        → (front : List ℕ) × (p ≡ front ++ rest) × (start front ≡ Ok (x, []))
    start_ok [] x rest e = absurd cc
    start_ok (byte ∷ p) x rest e =
        elim (chosen (eqb byte 0) (start p) (cond (eqb byte 1) (done tt p) (refuse fault.BadStart p))
        (Ok (x, rest)) e) [
          | inl nul ↦ let more = start_ok p x rest nul.1 in
              (byte ∷ more.0, ap (λ (l : List ℕ). byte ∷ l) more.1, rw nul.0 more.2)
          | inr some ↦ elim (chosen (eqb byte 1) (done tt p) (refuse fault.BadStart p) (Ok (x, rest)) some.1) [
            | inl one ↦ (
              byte ∷ [],
              front_of byte p rest (rest_is tt x p rest one.1),
              rw (some.0, one.0) (done_alone tt x p rest one.1),
            )
            | inr other ↦ absurd (let bad = other.1 in cc)
          ]
        ]

    start_refused : (p : List ℕ) (inner : BlockFault) (rest : List ℕ) → start p ≡ Err (Refused inner rest)
        → (front : List ℕ) × (p ≡ front ++ rest) × (start front ≡ Err (Refused inner []))
    start_refused [] inner rest e = absurd cc
    start_refused (byte ∷ p) inner rest e =
        elim (chosen (eqb byte 0) (start p) (cond (eqb byte 1) (done tt p) (refuse fault.BadStart p))
        (refuse inner rest) e) [
          | inl nul ↦ let more = start_refused p inner rest nul.1 in
              (byte ∷ more.0, ap (λ (l : List ℕ). byte ∷ l) more.1, rw nul.0 more.2)
          | inr some ↦ elim (chosen (eqb byte 1) (done tt p) (refuse fault.BadStart p) (refuse inner rest) some.1) [
            | inl one ↦ absurd (let bad = one.1 in cc)
            | inr other ↦ (
              byte ∷ [],
              front_of byte p rest (stop_is fault.BadStart inner p rest other.1).1,
              rw (some.0, other.0) (refused_alone fault.BadStart inner p rest other.1),
            )
          ]
        ]

second_sole : Sole second
second_sole = record { ok = second_ok; refused = second_refused }
  where
    second_ok : (p : List ℕ) (x : Unit {0}) (rest : List ℕ) → second p ≡ Ok (x, rest)
        → (front : List ℕ) × (p ≡ front ++ rest) × (second front ≡ Ok (x, []))
    second_ok [] x rest e = absurd cc
    second_ok (byte ∷ p) x rest e =
        elim (chosen (eqb byte 0) (done tt p) (refuse fault.BadStart p) (Ok (x, rest)) e) [
          | inl nul ↦ (
            byte ∷ [],
            front_of byte p rest (rest_is tt x p rest nul.1),
            rw nul.0 (done_alone tt x p rest nul.1),
          )
          | inr some ↦ absurd (let bad = some.1 in cc)
        ]

    second_refused : (p : List ℕ) (inner : BlockFault) (rest : List ℕ) → second p ≡ Err (Refused inner rest)
        → (front : List ℕ) × (p ≡ front ++ rest) × (second front ≡ Err (Refused inner []))
    second_refused [] inner rest e = absurd cc
    second_refused (byte ∷ p) inner rest e =
        elim (chosen (eqb byte 0) (done tt p) (refuse fault.BadStart p) (refuse inner rest) e) [
          | inl nul ↦ absurd (let bad = nul.1 in cc)
          | inr some ↦ (
            byte ∷ [],
            front_of byte p rest (stop_is fault.BadStart inner p rest some.1).1,
            rw some.0 (refused_alone fault.BadStart inner p rest some.1),
          )
        ]

module _ (n : ℕ) (p : List ℕ) where
  count_of_ok : (x : ℕ) (rest : List ℕ) → count_of n p ≡ Ok (x, rest) → (p ≡ rest) × (count_of n [] ≡ Ok (x, []))
  count_of_ok x rest e =
      let h = count_within n p x rest e in
      (rest_is (n - 4) x p rest h.2, rw (h.0, h.1) (done_alone (n - 4) x p rest h.2))

  count_of_refused : (inner : BlockFault) (rest : List ℕ) → count_of n p ≡ Err (Refused inner rest)
      → (p ≡ rest) × (count_of n [] ≡ Err (Refused inner []))
  count_of_refused inner rest e =
      elim (chosen (ltb n 4) (refuse fault.TooShort p)
      (cond (ltb (content_limit + 4) n) (refuse fault.TooLong p) (done (n - 4) p)) (refuse inner rest) e) [
        | inl short ↦ (
          (stop_is fault.TooShort inner p rest short.1).1,
          rw short.0 (refused_alone fault.TooShort inner p rest short.1),
        )
        | inr enough ↦ elim (chosen (ltb (content_limit + 4) n) (refuse fault.TooLong p) (done (n - 4) p)
            (refuse inner rest) enough.1) [
              | inl long ↦ (
                (stop_is fault.TooLong inner p rest long.1).1,
                rw (enough.0, long.0) (refused_alone fault.TooLong inner p rest long.1),
              )
              | inr fits ↦ absurd (let bad = fits.1 in cc)
            ]
      ]

count_sole : Sole count
count_sole = record { ok = count_ok; refused = count_refused }
  where
    two_of : (low high : ℕ) (p rest : List ℕ) → p ≡ rest → low ∷ high ∷ p ≡ (low ∷ high ∷ []) ++ rest
    two_of low high p rest e = ap (λ (l : List ℕ). low ∷ high ∷ l) e

    count_ok : (p : List ℕ) (x : ℕ) (rest : List ℕ) → count p ≡ Ok (x, rest)
        → (front : List ℕ) × (p ≡ front ++ rest) × (count front ≡ Ok (x, []))
    count_ok [] x rest e = absurd cc
    count_ok (low ∷ []) x rest e = absurd cc
    count_ok (low ∷ high ∷ p) x rest e = let c = count_of_ok (low + 256 * high) p x rest e in
        (low ∷ high ∷ [], two_of low high p rest c.0, c.1)

    count_refused : (p : List ℕ) (inner : BlockFault) (rest : List ℕ) → count p ≡ Err (Refused inner rest)
        → (front : List ℕ) × (p ≡ front ++ rest) × (count front ≡ Err (Refused inner []))
    count_refused [] inner rest e = absurd cc
    count_refused (low ∷ []) inner rest e = absurd cc
    count_refused (low ∷ high ∷ p) inner rest e = let c = count_of_refused (low + 256 * high) p inner rest e in
        (low ∷ high ∷ [], two_of low high p rest c.0, c.1)

content_sole : (n : ℕ) → Sole (content_of n)
content_sole n = record {
  ok = λ p xs rest e.
      let found = content_takes n p xs rest e in (
        xs,
        found.1,
        ap (λ (k : ℕ). content_of k xs) (sym found.0) ∙ ap (content_of (length xs)) (sym (append-nil xs))
            ∙ content_again xs [],
      );
  refused = λ p inner rest e. absurd (content_refused n p inner rest e);
}

summed_sole : (xs : List ℕ) → Sole (summed xs)
summed_sole xs = record { ok = summed_ok; refused = summed_refused }
  where
    summed_ok : (p ys rest : List ℕ) → summed xs p ≡ Ok (ys, rest)
        → (front : List ℕ) × (p ≡ front ++ rest) × (summed xs front ≡ Ok (ys, []))
    summed_ok [] ys rest e = absurd cc
    summed_ok (byte ∷ p) ys rest e =
        elim (chosen (eqb byte (sum_byte (header (length xs) ++ xs))) (done xs p) (refuse fault.BadSum p)
        (Ok (ys, rest)) e) [
          | inl hit ↦ (
            byte ∷ [],
            front_of byte p rest (rest_is xs ys p rest hit.1),
            rw hit.0 (done_alone xs ys p rest hit.1),
          )
          | inr miss ↦ absurd (let bad = miss.1 in cc)
        ]

    summed_refused : (p : List ℕ) (inner : BlockFault) (rest : List ℕ) → summed xs p ≡ Err (Refused inner rest)
        → (front : List ℕ) × (p ≡ front ++ rest) × (summed xs front ≡ Err (Refused inner []))
    summed_refused [] inner rest e = absurd cc
    summed_refused (byte ∷ p) inner rest e =
        elim (chosen (eqb byte (sum_byte (header (length xs) ++ xs))) (done xs p) (refuse fault.BadSum p)
        (refuse inner rest) e) [
          | inl hit ↦ absurd (let bad = hit.1 in cc)
          | inr miss ↦ (
            byte ∷ [],
            front_of byte p rest (stop_is fault.BadSum inner p rest miss.1).1,
            rw miss.0 (refused_alone fault.BadSum inner p rest miss.1),
          )
        ]

content_then : (n : ℕ) → Sole (λ rest. after_count (n, rest))
content_then n = sole_then (content_of n) after_content (content_sole n) (content_steady n) summed_sole

count_then : Sole (λ rest. after_second (tt, rest))
count_then = sole_then count after_count count_sole count_steady content_then

second_then : (x : Unit {0}) → Sole (λ rest. after_start (x, rest))
second_then x = sole_then second after_second second_sole second_steady (λ y. count_then)

pub block_sole : Sole first_block
unfolding first_block
block_sole = sole_then start after_start start_sole start_steady second_then

-- ---- the items of an object

take_after : (front rest : List ℕ) (room : ℕ) → length front ≤ room
    → take room (front ++ rest) ≡ front ++ take (room - length front) rest
take_after front rest room le =
    ap (λ (n : ℕ). take n (front ++ rest)) (within_is (length front) room le)
    ∙ take-append-add front rest (room - length front)
  where
    within_is : (n room : ℕ) → n ≤ room → room ≡ n + (room - n)
    within_is n room le = omega (arith, le)

-- if the bytes that decide a read are within the limit, the bytes within the limit aren't too few to decide it
module _ (room : ℕ) (bytes front rest : List ℕ) (is : bytes ≡ front ++ rest)
    (within : length bytes ≤ length rest + room) where
  short_front : length front ≤ room
  short_front = omega (arith, within, ap length is, length-append front rest)

  taken_front : take room bytes ≡ front ++ take (room - length front) rest
  taken_front = ap (take room) is ∙ take_after front rest room short_front

decided_ok : (room : ℕ) (bytes content rest : List ℕ) → first_block bytes ≡ Ok (content, rest)
    → length bytes ≤ length rest + room → IsShort (first_block (take room bytes)) → ⊥
decided_ok room bytes content rest e within short =
    let f = block_sole.ok bytes content rest e in
    let more : List ℕ = take (room - length f.0) rest in
    let whole = ap first_block (taken_front room bytes f.0 rest f.1 within) ∙ block_steady.ok f.0 more content [] f.2 in
    let P : Read BlockFault (List ℕ) → Type 0 = λ r. IsShort r in subst P whole short

decided_refused : (room : ℕ) (bytes : List ℕ) (inner : BlockFault) (rest : List ℕ)
    → first_block bytes ≡ Err (Refused inner rest)
    → length bytes ≤ length rest + room → IsShort (first_block (take room bytes)) → ⊥
decided_refused room bytes inner rest e within short =
    let f = block_sole.refused bytes inner rest e in
    let more : List ℕ = take (room - length f.0) rest in
    let whole = ap first_block (taken_front room bytes f.0 rest f.1 within)
    ∙ block_steady.refused f.0 more inner [] f.2 in
    let P : Read BlockFault (List ℕ) → Type 0 = λ r. IsShort r in subst P whole short

value_same : (a b xs ys : List ℕ) (r : Read BlockFault (List ℕ)) → r ≡ Ok (a, xs) → r ≡ Ok (b, ys) → (a ≡ b) × (xs ≡ ys)
value_same a b xs ys r e f =
    let same : done {Fault = BlockFault} a xs ≡ done b ys = sym e ∙ f in
    (value_is a b xs ys same, rest_is a b xs ys same)

ok_or_err : (a : List ℕ × List ℕ) (stop : Stop BlockFault) (r : Read BlockFault (List ℕ)) → r ≡ Ok a → r ≡ Err stop → ⊥
ok_or_err a stop r e f = let bad : ◌≡◌ {A = Read BlockFault (List ℕ)} (Ok a) (Err stop) = sym e ∙ f in cc

between_inside : (r : Read BlockFault (List ℕ)) → r ≡ Err Between → r ≡ Err Inside → ⊥
between_inside r e f = let bad : ◌≡◌ {A = Read BlockFault (List ℕ)} (Err Between) (Err Inside) = sym e ∙ f in cc

between_refused : (inner : BlockFault) (rest : List ℕ) (r : Read BlockFault (List ℕ)) → r ≡ Err Between
    → r ≡ Err (Refused inner rest) → ⊥
between_refused inner rest r e f =
    let bad : ◌≡◌ {A = Read BlockFault (List ℕ)} (Err Between) (Err (Refused inner rest)) = sym e ∙ f in cc

inside_refused : (inner : BlockFault) (rest : List ℕ) (r : Read BlockFault (List ℕ)) → r ≡ Err Inside
    → r ≡ Err (Refused inner rest) → ⊥
inside_refused inner rest r e f =
    let bad : ◌≡◌ {A = Read BlockFault (List ℕ)} (Err Inside) (Err (Refused inner rest)) = sym e ∙ f in cc

begins_same : (room left : ℕ) (bytes rest content : List ℕ) (items others : List Item)
    → first_block bytes ≡ Ok (content, rest) → length bytes + left ≡ length rest + room
    → ((these : List Item) → ObjectItems left rest these → items ≡ these)
    → ObjectItems room bytes others → BlockOf content ∷ items ≡ others
begins_same room left bytes rest content items _ e f same
    (objects.ObjectItems.Begins {left = left'} {rest = rest'} {content = content'} {items = items'} e' f' h) =
    let v = value_same content content' rest rest' (first_block bytes) e e' in
    let l : left' ≡ left = omega (arith, f, f', ap length v.1) in
    let P : ℕ → Type 0 = λ n. ObjectItems n rest' items' in
    let Q : List ℕ → Type 0 = λ bytes'. ObjectItems left bytes' items' in
    let more = same items' (subst Q (sym v.1) (subst P l h)) in
    ap (λ (c : List ℕ). BlockOf c ∷ items) v.0 ∙ ap (λ (these : List Item). BlockOf content' ∷ these) more
begins_same room left bytes rest content items _ e f same (objects.ObjectItems.Ends e' le) =
    absurd (ok_or_err (content, rest) Between (first_block bytes) e e')
begins_same room left bytes rest content items _ e f same (objects.ObjectItems.IsCut e' le) =
    absurd (ok_or_err (content, rest) Inside (first_block bytes) e e')
begins_same room left bytes rest content items _ e f same
    (objects.ObjectItems.IsBad {rest = rest'} {inner = inner} e' le) =
    absurd (ok_or_err (content, rest) (Refused inner rest') (first_block bytes) e e')
begins_same room left bytes rest content items _ e f same (objects.ObjectItems.Passes lt short) =
    absurd (decided_ok room bytes content rest e (omega (arith, f)) short)

ends_same : (room : ℕ) (bytes : List ℕ) (others : List Item) → first_block bytes ≡ Err Between → length bytes ≤ room
    → ObjectItems room bytes others → ObjectEnds ∷ [] ≡ others
ends_same room bytes _ e le (objects.ObjectItems.Begins {rest = rest} {content = content} e' f h) =
    absurd (ok_or_err (content, rest) Between (first_block bytes) e' e)
ends_same room bytes _ e le (objects.ObjectItems.Ends e' le') = refl
ends_same room bytes _ e le (objects.ObjectItems.IsCut e' le') = absurd (between_inside (first_block bytes) e e')
ends_same room bytes _ e le (objects.ObjectItems.IsBad {rest = rest} {inner = inner} e' le') =
    absurd (between_refused inner rest (first_block bytes) e e')
ends_same room bytes _ e le (objects.ObjectItems.Passes lt short) = absurd (omega (arith, le, lt))

cut_same : (room : ℕ) (bytes : List ℕ) (others : List Item) → first_block bytes ≡ Err Inside → length bytes ≤ room
    → ObjectItems room bytes others → objects.Refused (fault'.Block fault.Truncated) ∷ [] ≡ others
cut_same room bytes _ e le (objects.ObjectItems.Begins {rest = rest} {content = content} e' f h) =
    absurd (ok_or_err (content, rest) Inside (first_block bytes) e' e)
cut_same room bytes _ e le (objects.ObjectItems.Ends e' le') = absurd (between_inside (first_block bytes) e' e)
cut_same room bytes _ e le (objects.ObjectItems.IsCut e' le') = refl
cut_same room bytes _ e le (objects.ObjectItems.IsBad {rest = rest} {inner = inner} e' le') =
    absurd (inside_refused inner rest (first_block bytes) e e')
cut_same room bytes _ e le (objects.ObjectItems.Passes lt short) = absurd (omega (arith, le, lt))

bad_same : (room : ℕ) (bytes rest : List ℕ) (inner : BlockFault) (others : List Item)
    → first_block bytes ≡ Err (Refused inner rest) → length bytes ≤ length rest + room
    → ObjectItems room bytes others → objects.Refused (fault'.Block inner) ∷ [] ≡ others
bad_same room bytes rest inner _ e le (objects.ObjectItems.Begins {rest = rest'} {content = content} e' f h) =
    absurd (ok_or_err (content, rest') (Refused inner rest) (first_block bytes) e' e)
bad_same room bytes rest inner _ e le (objects.ObjectItems.Ends e' le') =
    absurd (between_refused inner rest (first_block bytes) e' e)
bad_same room bytes rest inner _ e le (objects.ObjectItems.IsCut e' le') =
    absurd (inside_refused inner rest (first_block bytes) e' e)
bad_same room bytes rest inner _ e le (objects.ObjectItems.IsBad {rest = rest'} {inner = inner'} e' le') =
    ap (λ (broken : BlockFault). objects.Refused (fault'.Block broken) ∷ [])
    (stop_is {A = List ℕ} inner inner' rest rest' (sym e ∙ e')).0
bad_same room bytes rest inner _ e le (objects.ObjectItems.Passes lt short) =
    absurd (decided_refused room bytes inner rest e le short)

passes_same : (room : ℕ) (bytes : List ℕ) (others : List Item) → room < length bytes
    → IsShort (first_block (take room bytes))
    → ObjectItems room bytes others → objects.Refused fault'.TooMuch ∷ [] ≡ others
passes_same room bytes _ lt short (objects.ObjectItems.Begins {rest = rest} {content = content} e f h) =
    absurd (decided_ok room bytes content rest e (omega (arith, f)) short)
passes_same room bytes _ lt short (objects.ObjectItems.Ends e le) = absurd (omega (arith, le, lt))
passes_same room bytes _ lt short (objects.ObjectItems.IsCut e le) = absurd (omega (arith, le, lt))
passes_same room bytes _ lt short (objects.ObjectItems.IsBad {rest = rest} {inner = inner} e le) =
    absurd (decided_refused room bytes inner rest e le short)
passes_same room bytes _ lt short (objects.ObjectItems.Passes lt' short') = refl

object_same : (room : ℕ) (bytes : List ℕ) (items others : List Item) → ObjectItems room bytes items
    → ObjectItems room bytes others → items ≡ others
object_same room bytes _ others
    (objects.ObjectItems.Begins {left = left} {rest = rest} {content = content} {items = items} e f h) k =
    begins_same room left bytes rest content items others e f (λ these h'. object_same left rest items these h h') k
object_same room bytes _ others (objects.ObjectItems.Ends e le) k = ends_same room bytes others e le k
object_same room bytes _ others (objects.ObjectItems.IsCut e le) k = cut_same room bytes others e le k
object_same room bytes _ others (objects.ObjectItems.IsBad {rest = rest} {inner = inner} e le) k =
    bad_same room bytes rest inner others e le k
object_same room bytes _ others (objects.ObjectItems.Passes lt short) k = passes_same room bytes others lt short k

after_same : (source : List ℕ) (sources : List (List ℕ)) (own items others : List Item)
    → ObjectItems most_bytes source own → ((these : List Item) → AreItems sources these → items ≡ these)
    → AreItems (source ∷ sources) others → own ++ items ≡ others
after_same source sources own items _ o same (objects.AreItems.Object {own = own'} {items = items'} o' h) =
    ap (λ (these : List Item). these ++ items) (object_same most_bytes source own own' o o')
    ∙ ap (λ (these : List Item). own' ++ these) (same items' h)

nothing_same : (others : List Item) → AreItems [] others → [] ≡ others
nothing_same _ objects.AreItems.Nothing = refl

pub objects_same : (sources : List (List ℕ)) (items others : List Item) → AreItems sources items
    → AreItems sources others → items ≡ others
objects_same _ _ others objects.AreItems.Nothing k = nothing_same others k
objects_same _ _ others
    (objects.AreItems.Object {source = source} {sources = sources} {own = own} {items = items} o h) k =
    after_same source sources own items others o (λ these h'. objects_same sources items these h h') k

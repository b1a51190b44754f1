-- The front of the writes is whole before the writes after it begin.
use Rattle.std.proofs.Common.{◌≡◌, ℕ, ◌+◌, ◌<◌, Bool, true, false, cond, ◌||◌, filter, codes, List, [], ◌∷◌, ◌++◌, map, length, refl, sym, ap, ap₂, ◌∙◌, subst, arith, true≢false, length-append}
use Rattle.std.specs.List.{list_any}
use Rattle.std.proofs.lemmas.List.Elements.{filter-append}
use Rattle.std.proofs.lemmas.List.Folds.{list_any-append}
use Rattle.m11_obj_blocks.specs.Tapes.{tape_block}
use Rattle.m11_link_layout.proofs.Finding.{neither}
use Rattle.m11_link_text.specs.Findings.{Findings}
use Rattle.m11_link_text.specs.Lines.{limit_line, transfer_line}
use Rattle.m11_link.specs.Front.{front_writes, global_write, global_writes, last_writes, map_writes, name_write, name_writes, section_write, section_writes, undefined_names, undefined_write, undefined_writes, weak_writes}
use Rattle.m11_base_writes.specs.Outputs.{Write, to_product, to_report}
use Rattle.m11_link.specs.Written.{is_message, link_writes, parts_writes}
use Rattle.m11_link_modules.specs.Parts.{Part}
use Rattle.m11_link_laws.specs.Order.{BeginsWith, is_block, messages_in, reach_tape, undefined_count}

-- ---- lists that are split in two ways

module _ {X : Type 0} where
  same_first : (x y : X) (xs ys : List X) → x ∷ xs ≡ y ∷ ys → x ≡ y
  same_first x y xs ys e = cc

  same_rest : (x y : X) (xs ys : List X) → x ∷ xs ≡ y ∷ ys → xs ≡ ys
  same_rest x y xs ys e = cc

  nothing_before : (xs : List X) (y : X) (ys : List X) → xs ++ (y ∷ ys) ≡ [] → ⊥
  nothing_before [] y ys e = cc
  nothing_before (x ∷ xs) y ys e = cc

  begun : (x y : X) (xs ys rest : List X) → x ≡ y → xs ≡ ys ++ rest → x ∷ xs ≡ (y ∷ ys) ++ rest
  begun x y xs ys rest e f = λ j. e j ∷ f j

  module _ (test : X → Bool) where
    fewer : (b : Bool) (x : X) (xs ys : List X) → length (cond b (x ∷ xs) xs) < length (cond b (x ∷ ys) ys)
        → length xs < length ys
    fewer true x xs ys h = omega arith
    fewer false x xs ys h = h

    -- a beginning of a list includes the front if the test is true more often in the beginning than in the front
    past_front : (front following done more : List X) → done ++ more ≡ front ++ following
        → length (filter test front) < length (filter test done) → (rest : List X) × (done ≡ front ++ rest)
    past_front [] following done more e h = (done, refl)
    past_front (x ∷ front) following [] more e h = absurd (omega (arith, h))
    past_front (x ∷ front) following (y ∷ done) more e h =
        let same : y ≡ x = same_first y x (done ++ more) (front ++ following) e in
        let P : X → Type 0 = λ z. length (filter test (x ∷ front)) < length (filter test (z ∷ done)) in
        let h' = fewer (test x) x (filter test front) (filter test done) (subst P same h) in
        let found = past_front front following done more (same_rest y x (done ++ more) (front ++ following) e) h' in
        (found.0, begun y x done front found.0 same found.1)

    none_pass : (xs : List X) → list_any test xs ≡ false → filter test xs ≡ []
    none_pass [] e = refl
    none_pass (x ∷ xs) e =
        let n = neither (test x) (list_any test xs) e in
        ap (λ b. cond b (x ∷ filter test xs) (filter test xs)) n.0 ∙ none_pass xs n.1

    some_first : (b c : Bool) (x : X) (xs : List X) → (c ≡ true → 0 < length xs) → (b || c) ≡ true
        → 0 < length (cond b (x ∷ xs) xs)
    some_first true c x xs h e = omega arith
    some_first false c x xs h e = h e

    some_pass : (xs : List X) → list_any test xs ≡ true → 0 < length (filter test xs)
    some_pass [] e = absurd (true≢false (sym e))
    some_pass (x ∷ xs) e = some_first (test x) (list_any test xs) x (filter test xs) (some_pass xs) e

  -- a beginning of a list that lacks an item is a beginning of the list without its last item
  lacks_last : (front : List X) (last : X) (done : List X) (next : X) (more : List X)
      → done ++ (next ∷ more) ≡ front ++ last ∷ [] → (rest : List X) × (front ≡ done ++ rest)
  lacks_last front last [] next more e = (front, refl)
  lacks_last [] last (y ∷ done) next more e =
      absurd (nothing_before done next more (same_rest y last (done ++ (next ∷ more)) [] e))
  lacks_last (x ∷ front) last (y ∷ done) next more e =
      let found = lacks_last front last done next more
      (same_rest y x (done ++ (next ∷ more)) (front ++ last ∷ []) e) in (
        found.0,
        begun x y front done found.0
            (sym (same_first y x (done ++ (next ∷ more)) (front ++ last ∷ []) e)) found.1,
      )

-- ---- the writes before those to the tape

none_mapped : {X : Type 0} (test : Write → Bool) (write : X → Write) → ((x : X) → test (write x) ≡ false)
    → (xs : List X) → list_any test (map write xs) ≡ false
none_mapped test write h [] = refl
none_mapped test write h (x ∷ xs) = ap₂ (λ b c. b || c) (h x) (none_mapped test write h xs)

none_both : (test : Write → Bool) (xs ys : List Write) → list_any test xs ≡ false → list_any test ys ≡ false
    → list_any test (xs ++ ys) ≡ false
none_both test xs ys e f = list_any-append test xs ys ∙ ap₂ (λ b c. b || c) e f

headed : (test : Write → Bool) (write : Write) (writes : List Write) → test write ≡ false
    → list_any test writes ≡ false → list_any test (write ∷ writes) ≡ false
headed test write writes e f = ap₂ (λ b c. b || c) e f

-- a test that fails for every write to the map fails for the writes of the map
module _ (test : Write → Bool) (fails : (bytes : List ℕ) → test (to_report bytes) ≡ false) where
  sections_fail : (found : Findings) → list_any test (section_writes found.sections) ≡ false
  unfolding section_writes
  sections_fail found = none_mapped test section_write (λ section. fails _) found.sections

  globals_fail : (found : Findings) → list_any test (global_writes found.globals) ≡ false
  unfolding global_writes
  globals_fail found = none_mapped test global_write (λ global. fails _) found.globals

  names_fail : (found : Findings) (is_strong : Bool)
      → list_any test (name_writes found is_strong found.references) ≡ false
  unfolding name_writes
  names_fail found is_strong =
      none_mapped test name_write (λ name. fails _) (undefined_names found is_strong found.references)

  weak_fail : (names : List Write) → list_any test names ≡ false → list_any test (weak_writes names) ≡ false
  weak_fail [] e = refl
  weak_fail (name ∷ names) e = headed test (to_report (codes "WEAK\n")) (name ∷ names) (fails (codes "WEAK\n")) e

  last_fail : (found : Findings) → list_any test (last_writes found) ≡ false
  last_fail found =
      headed test (to_report (transfer_line found.transfer)) (to_report (limit_line found.bottom found.top) ∷ []) (fails _)
      (headed test (to_report (limit_line found.bottom found.top)) [] (fails _) refl)

  map_fails : (found : Findings) → list_any test (map_writes found) ≡ false
  unfolding map_writes
  map_fails found =
      let sections = to_report (codes "SECTIONS\n") ∷ section_writes found.sections in
      let globals = to_report (codes "GLOBALS\n") ∷ global_writes found.globals in
      let strong = to_report (codes "UNDEFINED\n") ∷ name_writes found true found.references in
      let weak = weak_writes (name_writes found false found.references) in
      none_both test sections (globals ++ (strong ++ (weak ++ last_writes found)))
      (headed test (to_report (codes "SECTIONS\n")) (section_writes found.sections) (fails _) (sections_fail found))
      (none_both test globals (strong ++ (weak ++ last_writes found))
      (headed test (to_report (codes "GLOBALS\n")) (global_writes found.globals) (fails _) (globals_fail found))
      (none_both test strong (weak ++ last_writes found)
      (headed test (to_report (codes "UNDEFINED\n")) (name_writes found true found.references) (fails _)
      (names_fail found true))
      (none_both test weak (last_writes found)
      (weak_fail (name_writes found false found.references) (names_fail found false)) (last_fail found))))

-- neither the messages about undefined globals nor the map contain a block of the tape
front_no_block : (found : Findings) → list_any is_block (front_writes found) ≡ false
unfolding front_writes undefined_writes
front_no_block found =
    none_both is_block (map undefined_write (undefined_names found true found.references)) (map_writes found)
    (none_mapped is_block undefined_write (λ name. refl) (undefined_names found true found.references))
    (map_fails is_block (λ bytes. refl) found)

all_messages : (names : List (ℕ × ℕ)) → filter is_message (map undefined_write names) ≡ map undefined_write names
all_messages [] = refl
all_messages (name ∷ names) = ap (λ writes. undefined_write name ∷ writes) (all_messages names)

nothing_more : (n : ℕ) → n + 0 ≡ n
nothing_more n = omega arith

front_messages : (found : Findings) → messages_in (front_writes found) ≡ undefined_count found
unfolding front_writes undefined_writes
front_messages found =
    let undefined = map undefined_write (undefined_names found true found.references) in
    ap length (filter-append is_message undefined (map_writes found))
    ∙ length-append (filter is_message undefined) (filter is_message (map_writes found))
    ∙ ap₂ (λ these those. length these + length those) (all_messages (undefined_names found true found.references))
    (none_pass is_message (map_writes found) (map_fails is_message (λ bytes. refl) found))
    ∙ nothing_more (length undefined)

-- ---- the laws

-- the writes of a link are the front, and then those of the parts and of the transfer block
following : (found : Findings) (parts : List Part) (done more : List Write) → done ++ more ≡ link_writes found parts
    → done ++ more ≡ front_writes found ++ (parts_writes found parts ++ to_product (tape_block found.transfer []) ∷ [])
following found parts done more e =
    e ∙ joined (front_writes found) (parts_writes found parts) (to_product (tape_block found.transfer []) ∷ [])
  where
    joined : (xs ys zs : List Write) → (xs ++ ys) ++ zs ≡ xs ++ (ys ++ zs)
    joined [] ys zs = refl
    joined (x ∷ xs) ys zs = ap (λ writes. x ∷ writes) (joined xs ys zs)

pub front_before_tape : (found : Findings) (parts : List Part) (done more : List Write)
    → done ++ more ≡ link_writes found parts → reach_tape done ≡ true → BeginsWith done (front_writes found)
front_before_tape found parts done more e t =
    let P : ℕ → Type 0 = λ n. n < length (filter is_block done) in
    past_front is_block (front_writes found) _ done more (following found parts done more e)
    (subst P (sym (ap length (none_pass is_block (front_writes found) (front_no_block found))))
    (some_pass is_block done t))

pub front_before_messages : (found : Findings) (parts : List Part) (done more : List Write)
    → done ++ more ≡ link_writes found parts → undefined_count found < messages_in done
    → BeginsWith done (front_writes found)
front_before_messages found parts done more e h =
    let P : ℕ → Type 0 = λ n. n < messages_in done in
    past_front is_message (front_writes found) _ done more (following found parts done more e)
    (subst P (sym (front_messages found)) h)

pub all_before_transfer : (found : Findings) (parts : List Part) (done : List Write) (next : Write) (more : List Write)
    → done ++ (next ∷ more) ≡ link_writes found parts
    → BeginsWith (front_writes found ++ parts_writes found parts) done
all_before_transfer found parts done next more e =
    lacks_last (front_writes found ++ parts_writes found parts) (to_product (tape_block found.transfer [])) done next more
    e

-- Memory ranges that are written word by word.
use Rattle.std.proofs.Common.{◌≡◌, ◌∙◌, ℕ, suc, ◌+◌, ◌-◌, ◌*◌, ◌<◌, ◌≤◌, List, [], ◌∷◌, ◌++◌, length, take, drop, get_or, append-nil, append_assoc, Option, Some, None, Ok, Err, refl, sym, subst, ap, arith}
use Rattle.std.proofs.lemmas.List.{take_all}
use Rattle.std.specs.Io.KnownBytes.{Appends}
use Rattle.m11_base.specs.Devices.{Rises}
use Rattle.m11_base.specs.Sink.{AppendsPrefix}
use Rattle.m11_base.proofs.Known.{Appends-Appends}
use Rattle.m11_cpu.specs.Messages.{PutsMessages}
use Rattle.m11_cpu.specs.declared.fault.SimFault.{SimFault}
use Rattle.m11_cpu.specs.declared.fault.SimFault.TheVariants.{Load, Write, NoMemory}
use Rattle.m11_trace.specs.Ranges.{before_rest, range_text, ranges_text, word_cell, words_from}
use Rattle.m11_trace.specs.Shots.{word_past}
use Rattle.m11_trace.specs.declared.ranges.Range.{Range}
use Rattle.m11_trace.proofs.Going.{appends_nothing, begins_after, begins_whole}

-- the words of a range before an index were written
pub record Putting (memory : List ℕ) (first index count : ℕ) (a b : Option (List ℕ)) (f g : ℕ) : Type 0 where
  pub shown : List ℕ
  pub put : Appends a b shown
  pub sound : g ≡ f
  pub all : shown ++ words_from memory first index (count - index) ≡ words_from memory first 0 count
  pub within : index ≤ count

pub none_put : (memory : List ℕ) (first count : ℕ) (a : Option (List ℕ)) (f : ℕ) → Putting memory first 0 count a a f f
none_put memory first count a f =
    let whole : count - 0 ≡ count = omega arith in
    record { shown = []; put = appends_nothing a; sound = refl; all = ap (words_from memory first 0) whole; within = omega arith }

module _ (memory : List ℕ) (first index count : ℕ) (a b : Option (List ℕ)) (f g : ℕ)
    (p : Putting memory first index count a b f g) where
  left_is : index < count → (found : Option ℕ) → found ≡ word_past memory first (2 * index)
      → words_from memory first index (count - index)
      ≡ before_rest first index found (words_from memory first (index + 1) (count - (index + 1)))
  left_is lt found is =
      let left : count - index ≡ suc (count - (index + 1)) = omega arith in
      let to : Option ℕ → List ℕ = λ o. before_rest first index o (words_from memory first (index + 1) (count - (index + 1))) in
      ap (words_from memory first index) left ∙ ap to (sym is)

  -- the words before the next index were written if the word at this index was
  pub one_put : (c : Option (List ℕ)) (h word : ℕ) → index < count → Some word ≡ word_past memory first (2 * index)
      → Appends b c (word_cell first index word) → h ≡ g → Putting memory first (index + 1) count a c f h
  one_put c h word lt is put sound =
      let cell : List ℕ = word_cell first index word in
      let rest : List ℕ = words_from memory first (index + 1) (count - (index + 1)) in
      record {
        shown = p.shown ++ cell;
        put = Appends-Appends a b c p.shown cell p.put put;
        sound = sound ∙ p.sound;
        all = append_assoc p.shown cell rest ∙ ap (λ (t : List ℕ). p.shown ++ t) (sym (left_is lt (Some word) is)) ∙ p.all;
        within = omega arith;
      }

  none_left : words_from memory first index (count - index) ≡ []
      → PutsMessages {A = Unit {0}} a b f g (words_from memory first 0 count) (Ok tt)
  none_left none =
      let whole = sym (append-nil p.shown) ∙ ap (λ (t : List ℕ). p.shown ++ t) (sym none) ∙ p.all in
      (subst (λ (t : List ℕ). Appends a b t) whole p.put, p.sound)

  pub all_put : count ≤ index → PutsMessages {A = Unit {0}} a b f g (words_from memory first 0 count) (Ok tt)
  all_put le = let none : count - index ≡ 0 = omega arith in none_left (ap (words_from memory first index) none)

  -- if the memory ends before the word at an index, the whole text of the range was written
  pub memory_ends : index < count → None ≡ word_past memory first (2 * index)
      → PutsMessages {A = Unit {0}} a b f g (words_from memory first 0 count) (Ok tt)
  memory_ends lt is = none_left (left_is lt None is)

  pub word_failed : (c : Option (List ℕ)) (h word : ℕ) (fault : SimFault) → index < count
      → Some word ≡ word_past memory first (2 * index)
      → PutsMessages {A = Unit {0}} b c g h (word_cell first index word) (Err fault)
      → PutsMessages {A = Unit {0}} a c f h (words_from memory first 0 count) (Err fault)
  word_failed c h word Write lt is put =
      let cell : List ℕ = word_cell first index word in
      let rest : List ℕ = words_from memory first (index + 1) (count - (index + 1)) in
      let whole = ap (λ (t : List ℕ). p.shown ++ t) (sym (left_is lt (Some word) is)) ∙ p.all in
      let begins = begins_after a b c p.shown (cell ++ rest) p.put (begins_whole b c cell rest put.0) in
      (subst (λ (t : List ℕ). AppendsPrefix a c t) whole begins, subst (λ (n : ℕ). Rises n h) p.sound put.1)
  word_failed c h word NoMemory lt is put = absurd put
  word_failed c h word (Load fault) lt is put = absurd put

-- the text of all ranges is that of the first range and then that of the others
pub first_first : (memory : List ℕ) (ranges : List Range) (d : Range) → 1 ≤ length ranges
    → range_text memory (get_or ranges 0 d) ++ ranges_text memory (take (length ranges - 1) (drop 1 ranges))
    ≡ ranges_text memory ranges
first_first memory [] d some = absurd (omega (arith, some))
first_first memory (range ∷ others) d some =
    ap (λ (s : List Range). range_text memory range ++ ranges_text memory s)
    (take_all (suc (length others) - 1) others (omega arith))

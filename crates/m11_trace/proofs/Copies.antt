-- A copy of the words of a memory, and the words that changed since it was made.
use Rattle.std.proofs.Common.{◌≡◌, ◌∙◌, ℕ, zero, suc, ◌+◌, ◌-◌, ◌*◌, ◌/◌, ◌<◌, ◌≤◌, ◌==◌, Bool, true, false, cond, not, List, [], ◌∷◌, ◌++◌, length, get_or, set, append-nil, append_assoc, Option, Ok, Err, refl, sym, subst, ap, ap₂, arith}
use borrow.Author.Count.{below_more}
use Rattle.std.specs.Prelude.{filter, flat_map, nat_le}
use Rattle.std.specs.Io.KnownBytes.{Appends}
use Rattle.std.proofs.lemmas.Bool.{eq-eqb, leb-true, ne_eqb}
use Rattle.std.proofs.lemmas.List.{get_or-set_other, get_or-set_same, get_or_past}
use Rattle.std.proofs.lemmas.List.Concat.{flat_map-append}
use Rattle.std.proofs.lemmas.List.Elements.{filter-append}
use Rattle.m11_base.specs.Devices.{Rises}
use Rattle.m11_base.specs.Sink.{AppendsPrefix}
use Rattle.m11_base.proofs.Known.{Appends-Appends}
use Rattle.m11_cpu.specs.Messages.{PutsMessages}
use Rattle.m11_cpu.specs.declared.fault.SimFault.{SimFault}
use Rattle.m11_cpu.specs.declared.fault.SimFault.TheVariants.{Load, Write, NoMemory}
use Rattle.m11_cpu_machine.specs.Memory.{bytes_of, most_words, word_at}
use Rattle.m11_cpu_machine.specs.declared.machine.Machine.{Machine}
use Rattle.m11_cpu_machine.proofs.WordsAsBytes.{whole_word}
use Rattle.m11_trace.specs.Changes.{AreAlike, HaveSameWords, CopyMatches, changed_among, changes_among, even_addresses, has_changed, memory_changes, word_text}
use Rattle.m11_trace.specs.Lines.{line_with, step_line}
use Rattle.m11_trace.specs.Shots.{shot_of}
use Rattle.m11_trace.specs.Taken.{line_from}
use Rattle.m11_trace.specs.declared.shots.Shot.{Shot}
use Rattle.m11_trace.specs.Known.{Known}
use Rattle.m11_trace.proofs.Going.{appends_nothing, begins_after, begins_whole}

-- past the end of a memory each word is 0
pub no_word : (memory : List ℕ) (address : ℕ) → length memory ≤ address → 0 ≡ word_at memory address
no_word memory address past =
    let low = get_or_past memory address 0 past in
    let high = get_or_past memory (address + 1) 0 (omega (arith, past)) in
    omega (arith, low, high)

-- the word at twice an index in the bytes of a copy is the copy's element at that index
pub copied : (words : List ℕ) (index : ℕ) → word_at (bytes_of words) (2 * index) ≡ get_or words index 0
copied words index =
    let half : 2 * index / 2 ≡ index = omega arith in
    whole_word words (2 * index) (omega arith) ∙ ap (λ (k : ℕ). get_or words k 0) half

pub same_words : (words memory : List ℕ) → ((k : ℕ) → k < most_words → get_or words k 0 ≡ word_at memory (2 * k))
    → HaveSameWords (bytes_of words) memory
same_words words memory each = λ k lt. copied words k ∙ each k lt

-- ---- the words that changed

-- the field of the word at an address, if it changed; otherwise nothing
abbrev pub change_at : List ℕ → List ℕ → ℕ → List ℕ
change_at before later address = cond (has_changed before later address) (word_text address (word_at later address)) []

if_changed : (b : Bool) (address : ℕ) (text : ℕ → List ℕ) → flat_map text (cond b (address ∷ []) []) ≡ cond b (text address) []
if_changed true address text = append-nil (text address)
if_changed false address text = refl

pub none_yet : (before later : List ℕ) → changes_among 0 before later ≡ []
unfolding changes_among changed_among even_addresses
none_yet before later = refl

-- the changes at one more address are the earlier ones and the change at that address
pub one_more : (count : ℕ) (before later : List ℕ)
    → changes_among (suc count) before later ≡ changes_among count before later ++ change_at before later (2 * count)
unfolding changes_among changed_among even_addresses
one_more count before later =
    let text : ℕ → List ℕ = λ address. word_text address (word_at later address) in
    let test : ℕ → Bool = has_changed before later in
    ap (flat_map text) (filter-append test (even_addresses count) (2 * count ∷ []))
    ∙ flat_map-append text (filter test (even_addresses count)) (filter test (2 * count ∷ []))
    ∙ ap (λ (t : List ℕ). flat_map text (filter test (even_addresses count)) ++ t) (if_changed (test (2 * count)) (2 * count) text)

-- the changes at the first addresses come before the rest
more_follow : (more count : ℕ) (before later : List ℕ)
    → (rest : List ℕ) × (changes_among (count + more) before later ≡ changes_among count before later ++ rest)
more_follow zero count before later =
    let same : count + 0 ≡ count = omega arith in
    ([], ap (λ (n : ℕ). changes_among n before later) same ∙ sym (append-nil (changes_among count before later)))
more_follow (suc more) count before later =
    let fewer = more_follow more count before later in
    let same : count + suc more ≡ suc (count + more) = omega arith in
    let last : List ℕ = change_at before later (2 * (count + more)) in (
      fewer.0 ++ last,
      ap (λ (n : ℕ). changes_among n before later) same ∙ one_more (count + more) before later
          ∙ ap (λ (t : List ℕ). t ++ last) fewer.1 ∙ append_assoc (changes_among count before later) fewer.0 last,
    )

begins_all : (count : ℕ) (before later : List ℕ) → count ≤ most_words
    → (rest : List ℕ) × (memory_changes before later ≡ changes_among count before later ++ rest)
begins_all count before later le =
    let whole : most_words ≡ count + (most_words - count) = omega arith in
    let rest = more_follow (most_words - count) count before later in
    (rest.0, ap (λ (n : ℕ). changes_among n before later) whole ∙ rest.1)

-- if two memories have the same words at the first addresses, the changes there from either to a later memory are the same
changes_since : (count : ℕ) (a b later : List ℕ) → ((k : ℕ) → k < count → word_at a (2 * k) ≡ word_at b (2 * k))
    → changes_among count a later ≡ changes_among count b later
changes_since zero a b later same = none_yet a later ∙ sym (none_yet b later)
changes_since (suc count) a b later same =
    let fewer = changes_since count a b later (λ k lt. same k (omega (arith, lt))) in
    let address : ℕ = 2 * count in
    let text : ℕ → List ℕ = λ w. cond (not (w == word_at later address)) (word_text address (word_at later address)) [] in
    one_more count a later
    ∙ ap₂ (λ (x y : List ℕ). x ++ y) fewer (ap text (same count (omega arith)))
    ∙ sym (one_more count b later)

pub changes_alike : (a b later : List ℕ) → HaveSameWords a b → memory_changes a later ≡ memory_changes b later
changes_alike a b later same = changes_since most_words a b later same

-- ---- the search for changed words

-- the words before an index were compared: the copy now has them, and those that changed were written
pub record Walked (copy words memory : List ℕ) (index : ℕ) (a b : Option (List ℕ)) (f g : ℕ) : Type 0 where
  pub done : (k : ℕ) → k < index → get_or words k 0 ≡ word_at memory (2 * k)
  pub left : (k : ℕ) → index ≤ k → get_or words k 0 ≡ get_or copy k 0
  pub put : Appends a b (changes_among index (bytes_of copy) memory)
  pub sound : g ≡ f

pub none_walked : (copy memory : List ℕ) (a : Option (List ℕ)) (f : ℕ) → Walked copy copy memory 0 a a f f
none_walked copy memory a f = record {
  done = λ k lt. absurd (omega (arith, lt));
  left = λ k le. refl;
  put = subst (λ (t : List ℕ). Appends a a t) (sym (none_yet (bytes_of copy) memory)) (appends_nothing a);
  sound = refl;
}

module _ (copy words memory : List ℕ) (index : ℕ) (a b : Option (List ℕ)) (f g : ℕ)
    (w : Walked copy words memory index a b f g) (inside : index < most_words) (word : ℕ)
    (is : word ≡ word_at memory (2 * index)) where
  before_is : word_at (bytes_of copy) (2 * index) ≡ get_or words index 0
  before_is = copied copy index ∙ sym (w.left index (omega arith))

  next : suc index ≡ index + 1
  next = omega arith

  -- the copy has the words of the memory before the next index
  up_to : (others : List ℕ) → ((k : ℕ) → k < index → get_or others k 0 ≡ word_at memory (2 * k)) → get_or others index 0 ≡ word
      → (k : ℕ) → k < index + 1 → get_or others k 0 ≡ word_at memory (2 * k)
  up_to others each here = below_more (λ k. get_or others k 0 ≡ word_at memory (2 * k)) index each (here ∙ is)

  -- the changes up to this word are the earlier ones, and the word's field if it changed
  by_test : (t : Bool) → (word_at (bytes_of copy) (2 * index) == word_at memory (2 * index)) ≡ t
      → changes_among index (bytes_of copy) memory ++ cond (not t) (word_text (2 * index) word) []
      ≡ changes_among (index + 1) (bytes_of copy) memory
  by_test t e =
      let done : List ℕ = changes_among index (bytes_of copy) memory in
      let text : Bool → ℕ → List ℕ = λ u v. cond (not u) (word_text (2 * index) v) [] in
      ap (λ (x : List ℕ). done ++ x) (ap₂ text (sym e) is) ∙ sym (one_more index (bytes_of copy) memory)
      ∙ ap (λ (n : ℕ). changes_among n (bytes_of copy) memory) next

  -- the search goes on after a word that hasn't changed
  pub one_kept : get_or words index 0 ≡ word → Walked copy words memory (index + 1) a b f g
  one_kept here =
      let all = sym (append-nil (changes_among index (bytes_of copy) memory)) ∙ by_test true (eq-eqb _ _ (before_is ∙ here ∙ is)) in
      record {
        done = up_to words w.done here;
        left = λ k le. w.left k (omega (arith, le));
        put = subst (λ (t : List ℕ). Appends a b t) all w.put;
        sound = w.sound;
      }

  module _ (changed : get_or words index 0 ≡ word → ⊥) (text : List ℕ) (text_is : text ≡ word_text (2 * index) word) where
    with_change : changes_among index (bytes_of copy) memory ++ text ≡ changes_among (index + 1) (bytes_of copy) memory
    with_change =
        ap (λ (t : List ℕ). changes_among index (bytes_of copy) memory ++ t) text_is
        ∙ by_test false (ne_eqb _ _ (λ e. changed (sym before_is ∙ e ∙ sym is)))

    -- the search goes on after a word that changed and was written
    pub one_changed : (c : Option (List ℕ)) (h : ℕ) → index < length words → Appends b c text → h ≡ g
        → Walked copy (set words index word) memory (index + 1) a c f h
    one_changed c h lt put sound =
        let new : List ℕ = set words index word in
        record {
          done = up_to new (λ k below. get_or-set_other words index k word 0 (λ e. omega (arith, e, below)) ∙ w.done k below)
              (get_or-set_same words index word 0 lt);
          left = λ k le. get_or-set_other words index k word 0 (λ e. omega (arith, e, le)) ∙ w.left k (omega (arith, le));
          put = subst (λ (t : List ℕ). Appends a c t) with_change
              (Appends-Appends a b c (changes_among index (bytes_of copy) memory) text w.put put);
          sound = sound ∙ w.sound;
        }

    -- if a changed word can't be written, only a prefix of all changes is written
    pub change_failed : (c : Option (List ℕ)) (h : ℕ) (fault : SimFault)
        → PutsMessages {A = Unit {0}} b c g h text (Err fault)
        → PutsMessages {A = Unit {0}} a c f h (memory_changes (bytes_of copy) memory) (Err fault)
    change_failed c h Write put =
        let done : List ℕ = changes_among index (bytes_of copy) memory in
        let all = begins_all (index + 1) (bytes_of copy) memory (omega (arith, inside)) in
        let whole = ap (λ (t : List ℕ). t ++ all.0) with_change ∙ sym all.1 in
        let begins = begins_whole a c (done ++ text) all.0 (begins_after a b c done text w.put put.0) in
        (subst (λ (t : List ℕ). AppendsPrefix a c t) whole begins, subst (λ (n : ℕ). Rises n h) w.sound put.1)
    change_failed c h NoMemory put = absurd put
    change_failed c h (Load fault) put = absurd put

-- the search goes on after words that equal those of the memory
pub alike_walked : (copy words memory : List ℕ) (n index to : ℕ) (a b : Option (List ℕ)) (f g : ℕ)
    → Walked copy words memory index a b f g → to ≡ index + n → to ≤ most_words → AreAlike words memory index to
    → Walked copy words memory to a b f g
alike_walked copy words memory zero index to a b f g w here inside alike =
    let same : index ≡ to = omega (arith, here) in
    let P : ℕ → Type 0 = λ k. Walked copy words memory k a b f g in subst P same w
alike_walked copy words memory (suc n) index to a b f g w here inside alike =
    let lt : index < to = omega (arith, here) in
    let next = one_kept copy words memory index a b f g w (omega (arith, lt, inside)) (word_at memory (2 * index)) refl
    (alike index (omega arith) lt) in
    alike_walked copy words memory n (index + 1) to a b f g next (omega (arith, here)) inside
    (λ k le below. alike k (omega (arith, le)) below)

pub all_walked : (copy words memory : List ℕ) (index : ℕ) (a b : Option (List ℕ)) (f g : ℕ)
    → Walked copy words memory index a b f g → index ≤ most_words → most_words ≤ index
    → PutsMessages {A = Unit {0}} a b f g (memory_changes (bytes_of copy) memory) (Ok tt)
all_walked copy words memory index a b f g w le ge =
    let all : index ≡ most_words = omega (arith, le, ge) in
    (subst (λ (n : ℕ). Appends a b (changes_among n (bytes_of copy) memory)) all w.put, w.sound)

-- ---- lines

line_as : (known : Known) (first number : ℕ) (shot : Shot) (words : List ℕ) (m m'' : Machine) → shot ≡ shot_of m m''
    → (first ≤ number → HaveSameWords (bytes_of words) m.memory)
    → line_from first number (line_with known number shot (memory_changes (bytes_of words) m''.memory))
    ≡ line_from first number (step_line known number m m'')
line_as known first number shot words m m'' is same =
    let by : (t : Bool) → (t ≡ true → HaveSameWords (bytes_of words) m.memory)
    → cond t (line_with known number shot (memory_changes (bytes_of words) m''.memory)) [] ≡ cond t (step_line known number m m'') [] =
    λ t. elim t as (λ v. (v ≡ true → HaveSameWords (bytes_of words) m.memory)
    → cond v (line_with known number shot (memory_changes (bytes_of words) m''.memory)) [] ≡ cond v (step_line known number m m'') []) [
      | true ↦ λ h. ap₂ (line_with known number) is (changes_alike (bytes_of words) m.memory m''.memory (h refl))
      | false ↦ λ h. refl
    ] in
    by (nat_le first number) (λ e. same (leb-true first number e))

-- a copy that keeps up with a memory keeps up with any equal one
pub keeps_up : (first count : ℕ) (words memory same : List ℕ) → memory ≡ same → CopyMatches first count words memory
    → CopyMatches first count words same
keeps_up first count words memory same is keeps = subst (λ (bytes : List ℕ). CopyMatches first count words bytes) is keeps

-- if the copy has the words of the memory before the step, the line with its changes is the line of the step
pub line_is : (known : Known) (first number : ℕ) (shot : Shot) (words earlier later : List ℕ) (m m'' : Machine) → earlier ≡ m.memory
    → later ≡ m''.memory → shot ≡ shot_of m m'' → (first ≤ number → HaveSameWords (bytes_of words) earlier)
    → line_from first number (line_with known number shot (memory_changes (bytes_of words) later))
    ≡ line_from first number (step_line known number m m'')
line_is known first number shot words earlier later m m'' earlier_is later_is is same =
    ap (λ (memory : List ℕ). line_from first number (line_with known number shot (memory_changes (bytes_of words) memory))) later_is
    ∙ line_as known first number shot words m m'' is
    (λ le. subst (λ (memory : List ℕ). HaveSameWords (bytes_of words) memory) earlier_is (same le))

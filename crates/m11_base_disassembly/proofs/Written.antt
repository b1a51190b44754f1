-- An operand as it is written means the operand and the word from which it was written.
use Rattle.std.proofs.Common.{◌≡◌, ◌∙◌, ℕ, zero, suc, ◌+◌, ◌*◌, ◌%◌, ◌≤◌, ◌<◌, List, [], ◌∷◌, ◌++◌, drop, length, slice_index, take, refl, sym, ap, ap₂, subst, take-add, arith}
use Rattle.std.proofs.lemmas.List.{length-take-le}
use Rattle.m11_base.specs.declared.operand.Mode.{Mode}
use Rattle.m11_base.specs.declared.operand.Mode.TheVariants as mode
use Rattle.m11_base.specs.declared.operand.Operand.{Operand}
use Rattle.m11_base.specs.declared.operand.Register.{Register}
use Rattle.m11_base.specs.declared.operand.Register.TheVariants.{R0, R1, R2, R3, R4, R5, Sp, Pc}
use Rattle.m11_base_disassembly.specs.Arguments.{argument, argument_by, by_counter, by_register, coded, distance, operand_meant, words_by, words_meant, words_of}
use Rattle.m11_base_disassembly.specs.Instructions.{first_argument, location_after, second_argument}
use Rattle.m11_base_disassembly.specs.Meaning.{AreWords, first_words, second_words}
use Rattle.m11_base_disassembly.specs.Texts.{words_written}

each_register : (P : Register → Type 0) → P R0 → P R1 → P R2 → P R3 → P R4 → P R5 → P Sp → P Pc → (r : Register) → P r
each_register P a b c d e f g h R0 = a
each_register P a b c d e f g h R1 = b
each_register P a b c d e f g h R2 = c
each_register P a b c d e f g h R3 = d
each_register P a b c d e f g h R4 = e
each_register P a b c d e f g h R5 = f
each_register P a b c d e f g h Sp = g
each_register P a b c d e f g h Pc = h

-- ---- the operand

by_register_again : (m : Mode) (r : Register) (word : ℕ) → operand_meant (by_register m r word) ≡ coded m r
by_register_again mode.Register r word = refl
by_register_again mode.RegisterDeferred r word = refl
by_register_again mode.Autoincrement r word = refl
by_register_again mode.AutoincrementDeferred r word = refl
by_register_again mode.Autodecrement r word = refl
by_register_again mode.AutodecrementDeferred r word = refl
by_register_again mode.Index r word = refl
by_register_again mode.IndexDeferred r word = refl

by_counter_again : (m : Mode) (after word : ℕ) → operand_meant (by_counter m after word) ≡ coded m Pc
by_counter_again mode.Register after word = refl
by_counter_again mode.RegisterDeferred after word = refl
by_counter_again mode.Autoincrement after word = refl
by_counter_again mode.AutoincrementDeferred after word = refl
by_counter_again mode.Autodecrement after word = refl
by_counter_again mode.AutodecrementDeferred after word = refl
by_counter_again mode.Index after word = refl
by_counter_again mode.IndexDeferred after word = refl

pub operand_again : (o : Operand) (after word : ℕ) → operand_meant (argument o after word) ≡ o
operand_again o after word =
    let m = o.mode in
    each_register (λ (r : Register). operand_meant (argument_by m r after word) ≡ coded m r)
    (by_register_again m R0 word) (by_register_again m R1 word) (by_register_again m R2 word) (by_register_again m R3 word)
    (by_register_again m R4 word) (by_register_again m R5 word) (by_register_again m Sp word)
    (by_counter_again m after word) o.register

-- ---- the word of the operand

distance_again : (after word : ℕ) → after < 65536 → word < 65536 → distance after ((after + word) % 65536) ≡ word
distance_again after word h k = omega arith

-- the operand as it is written has the word from which it was written, if it has one
abbrev IsItsWord : Mode → Register → ℕ → ℕ → Type 0
IsItsWord m r after word = words_meant after (argument_by m r after word) ≡ take (words_by m r) (word ∷ [])

words_again : (m : Mode) (r : Register) (after word : ℕ) → after < 65536 → word < 65536 → IsItsWord m r after word
words_again mode.Register r after word h k =
    each_register (λ (x : Register). IsItsWord mode.Register x after word) refl refl refl refl refl refl refl refl r
words_again mode.RegisterDeferred r after word h k =
    each_register (λ (x : Register). IsItsWord mode.RegisterDeferred x after word) refl refl refl refl refl refl refl refl r
words_again mode.Autoincrement r after word h k =
    each_register (λ (x : Register). IsItsWord mode.Autoincrement x after word) refl refl refl refl refl refl refl refl r
words_again mode.AutoincrementDeferred r after word h k =
    each_register (λ (x : Register). IsItsWord mode.AutoincrementDeferred x after word) refl refl refl refl refl refl refl refl r
words_again mode.Autodecrement r after word h k =
    each_register (λ (x : Register). IsItsWord mode.Autodecrement x after word) refl refl refl refl refl refl refl refl r
words_again mode.AutodecrementDeferred r after word h k =
    each_register (λ (x : Register). IsItsWord mode.AutodecrementDeferred x after word) refl refl refl refl refl refl refl refl r
words_again mode.Index r after word h k =
    each_register (λ (x : Register). IsItsWord mode.Index x after word) refl refl refl refl refl refl refl
    (ap (λ (w : ℕ). w ∷ []) (distance_again after word h k)) r
words_again mode.IndexDeferred r after word h k =
    each_register (λ (x : Register). IsItsWord mode.IndexDeferred x after word) refl refl refl refl refl refl refl
    (ap (λ (w : ℕ). w ∷ []) (distance_again after word h k)) r

few : (m : Mode) (r : Register) → words_by m r ≤ 1
few mode.Register r = omega arith
few mode.RegisterDeferred r = omega arith
few mode.Autoincrement r =
    each_register (λ (x : Register). words_by mode.Autoincrement x ≤ 1) (omega arith) (omega arith) (omega arith) (omega arith)
    (omega arith) (omega arith) (omega arith) (omega arith) r
few mode.AutoincrementDeferred r =
    each_register (λ (x : Register). words_by mode.AutoincrementDeferred x ≤ 1) (omega arith) (omega arith) (omega arith)
    (omega arith) (omega arith) (omega arith) (omega arith) (omega arith) r
few mode.Autodecrement r = omega arith
few mode.AutodecrementDeferred r = omega arith
few mode.Index r = omega arith
few mode.IndexDeferred r = omega arith

-- an operand as it is written has as many words as the operand from which it was written
abbrev HasItsWords : Mode → Register → ℕ → ℕ → Type 0
HasItsWords m r after word = words_written (argument_by m r after word) ≡ words_by m r

words_counted : (m : Mode) (r : Register) (after word : ℕ) → HasItsWords m r after word
words_counted mode.Register r after word =
    each_register (λ (x : Register). HasItsWords mode.Register x after word) refl refl refl refl refl refl refl refl r
words_counted mode.RegisterDeferred r after word =
    each_register (λ (x : Register). HasItsWords mode.RegisterDeferred x after word) refl refl refl refl refl refl refl refl r
words_counted mode.Autoincrement r after word =
    each_register (λ (x : Register). HasItsWords mode.Autoincrement x after word) refl refl refl refl refl refl refl refl r
words_counted mode.AutoincrementDeferred r after word =
    each_register (λ (x : Register). HasItsWords mode.AutoincrementDeferred x after word) refl refl refl refl refl refl refl refl r
words_counted mode.Autodecrement r after word =
    each_register (λ (x : Register). HasItsWords mode.Autodecrement x after word) refl refl refl refl refl refl refl refl r
words_counted mode.AutodecrementDeferred r after word =
    each_register (λ (x : Register). HasItsWords mode.AutodecrementDeferred x after word) refl refl refl refl refl refl refl refl r
words_counted mode.Index r after word =
    each_register (λ (x : Register). HasItsWords mode.Index x after word) refl refl refl refl refl refl refl refl r
words_counted mode.IndexDeferred r after word =
    each_register (λ (x : Register). HasItsWords mode.IndexDeferred x after word) refl refl refl refl refl refl refl refl r

pub words_written_are : (operand : Operand) (location : ℕ) (more : List ℕ)
    → words_written (first_argument location more operand) ≡ words_of operand
words_written_are operand location more =
    words_counted operand.mode operand.register (location_after location 4) (slice_index more 0)

-- ---- the words after the code

below : (more : List ℕ) (k : ℕ) → AreWords more → slice_index more k < 65536
below [] k all = omega arith
below (word ∷ more) zero all = all.0
below (word ∷ more) (suc k) all = below more k all.1

word_there : (n k : ℕ) (more : List ℕ) → n ≤ 1 → k + n ≤ length more → take n (slice_index more k ∷ []) ≡ take n (drop k more)
word_there zero k more few there = refl
word_there (suc n) zero [] few there = absurd (omega arith)
word_there (suc n) zero (word ∷ more) few there =
    let none : n ≡ 0 = omega arith in
    let P : ℕ → Type 0 = λ i. word ∷ take i [] ≡ word ∷ take i more in subst P (sym none) refl
word_there (suc n) (suc k) [] few there = absurd (omega arith)
word_there (suc n) (suc k) (word ∷ more) few there = word_there (suc n) k more few (omega arith)

location_below : (location bytes : ℕ) → location_after location bytes < 65536
location_below location bytes = omega arith

pub first_are : (location : ℕ) (more : List ℕ) (o : Operand) → AreWords more → words_of o ≤ length more
    → first_words location (first_argument location more o) ≡ take (words_of o) more
first_are location more o all there =
    words_again o.mode o.register (location_after location 4) (slice_index more 0) (location_below location 4) (below more 0 all)
    ∙ word_there (words_of o) 0 more (few o.mode o.register) (omega arith)

pub both_are : (location : ℕ) (more : List ℕ) (o p : Operand) → AreWords more → words_of o + words_of p ≤ length more
    → first_words location (first_argument location more o)
    ++ second_words location (first_argument location more o) (second_argument location more o p) ≡ take (words_of o + words_of p) more
both_are location more o p all there =
    let k = words_of o in
    let first = first_are location more o all (omega arith) in
    let long : length (first_words location (first_argument location more o)) ≡ k =
    ap length first ∙ length-take-le k more (omega arith) in
    let at = location_after location (4 + 2 * k) in
    let second : words_meant at (second_argument location more o p) ≡ take (words_of p) (drop k more) =
    words_again p.mode p.register at (slice_index more k) (location_below location (4 + 2 * k)) (below more k all)
    ∙ word_there (words_of p) k more (few p.mode p.register) there in
    let P : ℕ → Type 0 = λ n. words_meant (location_after location (4 + 2 * n)) (second_argument location more o p)
    ≡ take (words_of p) (drop k more) in
    ap₂ (λ (a b : List ℕ). a ++ b) first (subst P (sym long) second) ∙ sym (take-add k (words_of p) more)

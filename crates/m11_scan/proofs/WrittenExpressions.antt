-- An expression without missing terms or brackets is read up to its end.
use Rattle.std.proofs.Common.{◌≡◌, ◌≢◌, ℕ, suc, ◌+◌, ◌-◌, Bool, true, false, List, [], ◌∷◌, ◌++◌, length, Some, None, refl, ap, ◌∙◌, arith, eqb}
use Rattle.std.proofs.lemmas.Bool.{ne_eqb}
use Rattle.std.proofs.lemmas.List.{append_assoc, length-append}
use Rattle.m11_scan.specs.declared.expressions.Role.{Role}
use Rattle.m11_scan.specs.declared.expressions.Role.TheVariants.{Term, Prefix, Sign, Operator, Opens, Closes, Foreign}
use Rattle.m11_scan.specs.declared.expressions.Within.{Within}
use Rattle.m11_scan.specs.declared.sort.Sort.{Sort}
use Rattle.m11_scan.specs.declared.sort.Sort.TheVariants.{Less, Greater}
use Rattle.m11_scan.specs.Expressions.{count_from, expression_length, goes_on, role_of, taken}
use Rattle.m11_scan.specs.Grammar.{IsWritten, Single, Prefixed, Signed, Grouped, Alone, Added, Joined, MayFollow}

-- the states in which a term is due, and in which a term has just been read
due : ℕ → Within
due depth = record { depth = depth; is_due = true }

after : ℕ → Within
after depth = record { depth = depth; is_due = false }

-- if an expression continues with a token, it has this token and those with which it continues in the state after it
one_taken : (sort : Sort) (sorts : List Sort) (role : Role) (within next : Within) → role_of sort ≡ role
    → goes_on role within ≡ Some next → taken (sort ∷ sorts) within ≡ suc (taken sorts next)
one_taken sort sorts role within next is goes =
    ap (λ r. count_from (goes_on r within) (λ p. taken sorts p)) is ∙ ap (λ n. count_from n (λ p. taken sorts p)) goes

close_goes : (depth : ℕ) → goes_on Closes (after (depth + 1)) ≡ Some (after depth)
unfolding after
close_goes depth =
    let other : eqb (depth + 1) 0 ≡ false = ne_eqb (depth + 1) 0 (λ e. omega arith) in
    let less : depth + 1 - 1 ≡ depth = omega arith in
    rw (other, less) refl

joined_taken : (sort : Sort) (front sorts rest : List Sort) (depth : ℕ)
    → taken (front ++ sort ∷ (sorts ++ rest)) (due depth) ≡ length front + taken (sort ∷ (sorts ++ rest)) (after depth)
    → taken (sort ∷ (sorts ++ rest)) (after depth) ≡ suc (taken (sorts ++ rest) (due depth))
    → taken (sorts ++ rest) (due depth) ≡ length sorts + taken rest (after depth)
    → taken ((front ++ sort ∷ sorts) ++ rest) (due depth) ≡ length (front ++ sort ∷ sorts) + taken rest (after depth)
joined_taken sort front sorts rest depth a b c =
    let longer = length-append front (sort ∷ sorts) in
    ap (λ l. taken l (due depth)) (append_assoc front (sort ∷ sorts) rest) ∙ a ∙ omega arith

written_taken : {is_term : Bool} {sorts : List Sort} → IsWritten is_term sorts → (depth : ℕ) (rest : List Sort)
    → taken (sorts ++ rest) (due depth) ≡ length sorts + taken rest (after depth)
unfolding due after
written_taken (Single sort is) depth rest =
    one_taken sort rest Term (due depth) (after depth) is refl ∙ omega arith
written_taken (Prefixed sort sorts is w) depth rest =
    let more = written_taken w depth rest in
    one_taken sort (sorts ++ rest) Prefix (due depth) (due depth) is refl ∙ omega arith
written_taken (Signed sort sorts is w) depth rest =
    let more = written_taken w depth rest in
    one_taken sort (sorts ++ rest) Sign (due depth) (due depth) is refl ∙ omega arith
written_taken (Grouped sorts w) depth rest =
    let inner = written_taken w (depth + 1) (Greater ∷ rest) in
    let closed = one_taken Greater rest Closes (after (depth + 1)) (after depth) refl (close_goes depth) in
    let longer = length-append sorts (Greater ∷ []) in
    one_taken Less ((sorts ++ Greater ∷ []) ++ rest) Opens (due depth) (due (depth + 1)) refl refl
    ∙ ap (λ l. suc (taken l (due (depth + 1)))) (append_assoc sorts (Greater ∷ []) rest)
    ∙ omega arith
written_taken (Alone sorts w) depth rest = written_taken w depth rest
written_taken (Added front sort sorts w is v) depth rest =
    joined_taken sort front sorts rest depth (written_taken w depth (sort ∷ (sorts ++ rest)))
    (one_taken sort (sorts ++ rest) Sign (after depth) (due depth) is refl) (written_taken v depth rest)
written_taken (Joined front sort sorts w is v) depth rest =
    joined_taken sort front sorts rest depth (written_taken w depth (sort ∷ (sorts ++ rest)))
    (one_taken sort (sorts ++ rest) Operator (after depth) (due depth) is refl) (written_taken v depth rest)

-- after a term outside brackets, an expression ends before any token that is neither a sign nor an operator
role_stops : (role : Role) → role ≢ Sign → role ≢ Operator → goes_on role (after 0) ≡ None
unfolding after
role_stops Term a b = refl
role_stops Prefix a b = refl
role_stops Sign a b = absurd (a refl)
role_stops Operator a b = absurd (b refl)
role_stops Opens a b = refl
role_stops Closes a b = refl
role_stops Foreign a b = refl

rest_stops : (rest : List Sort) → MayFollow rest → taken rest (after 0) ≡ 0
rest_stops [] follows = refl
rest_stops (sort ∷ rest) follows =
    ap (λ n. count_from n (λ p. taken rest p)) (role_stops (role_of sort) follows.0 follows.1)

pub written_length : (sorts rest : List Sort) → IsWritten false sorts → MayFollow rest
    → expression_length (sorts ++ rest) ≡ length sorts
unfolding due after
written_length sorts rest written follows =
    let whole = written_taken written 0 rest in
    let stops = rest_stops rest follows in
    omega arith

-- Parts that are accepted one by one: a property that holds before them, and that each of them keeps, holds after all of them.
use Rattle.std.proofs.Common.{◌≡◌, ℕ, List, [], ◌∷◌, ◌++◌, append-nil, Option, Some, None, refl, sym, subst}
use Rattle.std.specs.Option.{option_or}
use Rattle.std.proofs.Math.Seq.{append_snoc}
use Rattle.m11_link_modules.specs.declared.fault.ModuleFault.{ModuleFault}
use Rattle.m11_link_modules.specs.Parts.{Part}
use Rattle.m11_link_modules.specs.Rules.{fault_of, first_fault}
use Rattle.m11_link_layout.specs.Tables.{LayoutTables, collected_after, collected_after_all}

pub head_none : (first rest : Option ModuleFault) → option_or first rest ≡ None → first ≡ None
head_none None rest e = refl
head_none (Some said) rest e = search

pub rest_none : (first rest : Option ModuleFault) → option_or first rest ≡ None → rest ≡ None
rest_none None rest e = e
rest_none (Some said) rest e = search

-- a property of parts and tables that each part without a fault keeps holds after parts without a fault
pub walked : (bottom : ℕ) (P : List Part → LayoutTables → Type 0)
    → ((before : List Part) (g : LayoutTables) (part : Part) → fault_of before part ≡ None → P before g
    → P (before ++ part ∷ []) (collected_after bottom g part))
    → (before parts : List Part) (g : LayoutTables) → first_fault before parts ≡ None → P before g
    → P (before ++ parts) (collected_after_all bottom g parts)
unfolding first_fault
walked bottom P step before [] g n p =
    let Q : List Part → Type 0 = λ all. P all g in subst Q (sym (append-nil before)) p
walked bottom P step before (part ∷ parts) g n p =
    let head = head_none (fault_of before part) (first_fault (before ++ part ∷ []) parts) n in
    let rest = rest_none (fault_of before part) (first_fault (before ++ part ∷ []) parts) n in
    let Q : List Part → Type 0 = λ all. P all (collected_after_all bottom (collected_after bottom g part) parts) in
    subst Q (append_snoc before part parts)
    (walked bottom P step (before ++ part ∷ []) parts (collected_after bottom g part) rest (step before g part head p))

-- a property of parts that each further part keeps holds after any parts
grown_after : (P : List Part → Type 0) → ((before : List Part) (part : Part) → P before → P (before ++ part ∷ []))
    → (before parts : List Part) → P before → P (before ++ parts)
grown_after P step before [] p = subst P (sym (append-nil before)) p
grown_after P step before (part ∷ parts) p =
    subst P (append_snoc before part parts) (grown_after P step (before ++ part ∷ []) parts (step before part p))

pub grown : (P : List Part → Type 0) → ((before : List Part) (part : Part) → P before → P (before ++ part ∷ []))
    → (parts : List Part)
    → P [] → P parts
grown P step parts p = grown_after P step [] parts p

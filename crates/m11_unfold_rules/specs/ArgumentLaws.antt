-- The local symbols that macro calls create.
use Rattle.std.specs.Prelude.{ℕ, zero, suc, if◌then◌else◌, List, [], ◌∷◌, ◌++◌, get_or, drop}
use Rattle.m11_base.specs.Devices.{Bytes}
use Rattle.m11_unfold_rules.specs.Filling.{created_after, creates, filled}
use Rattle.m11_unfold_rules.specs.declared.macros.MacroFormal.{MacroFormal}

-- a call: the formals of its macro, and the texts of its actuals
pub record Call : Type 0 where
  pub formals : List MacroFormal
  pub actuals : List Bytes

-- the created symbols among the texts that replace formals
abbrev pub created_among : List MacroFormal → List Bytes → List Bytes → List Bytes
created_among [] actuals texts = []
created_among (formal ∷ formals) actuals texts =
    (if creates formal (get_or actuals 0 []) then get_or texts 0 [] ∷ [] else [])
    ++ created_among formals (drop 1 actuals) (drop 1 texts)

-- the symbols created in successive calls; the first symbol has this number
abbrev pub created_in : List Call → ℕ → List Bytes
created_in [] number = []
created_in (call ∷ calls) number =
    created_among call.formals call.actuals (filled call.formals call.actuals number).texts
    ++ created_in calls (filled call.formals call.actuals number).created

-- this many consecutive numbers of created symbols, beginning with this one; 30000 follows 65535
abbrev pub numbers_from : ℕ → ℕ → List ℕ
numbers_from number zero = []
numbers_from number (suc count) = number ∷ numbers_from (created_after number) count

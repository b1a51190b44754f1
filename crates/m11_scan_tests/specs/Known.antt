-- The values of names in the tests of fields and of unfolding.
use Rattle.std.specs.Prelude.{◌==◌, if◌then◌else◌}
use Rattle.m11_base.specs.Rad50.{Name}
use Rattle.m11_scan_expressions.specs.declared.kinds.Kind.TheVariants.{Absolute}
use Rattle.m11_scan_expressions.specs.declared.names.Symbol.{Symbol}
use Rattle.m11_scan_expressions.specs.declared.names.Symbol.TheVariants.{Ordinary, Local, Counter}
use Rattle.m11_scan_expressions.specs.Quantities.{Quantity}

-- the value of an unknown symbol: 0, with the flag U
abbrev pub unknown : Quantity
unknown = record { number = 0; kind = Absolute; flags = 0o20000 }

abbrev pub of_name : Name → Quantity
of_name name = if name.0 == 0o113000 then record { number = 0o12; kind = Absolute; flags = 0 } else unknown

-- X is octal 12, and no other symbol is known
abbrev pub known : Symbol → Quantity
known (Ordinary name) = of_name name
known (Local number) = unknown
known Counter = unknown

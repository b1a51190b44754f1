-- Blank lines: empty ones, and those with only a comment. (MACRO-11 Language Reference Manual, "Source program format".)
use Rattle.std.specs.Prelude.{◌≡◌, []}
use Rattle.m11_base.specs.Devices.{Bytes}
use Rattle.m11_scan_statements.specs.Labels.{labels_at}
use Rattle.m11_scan_statements.specs.Statements.{body_of}
use Rattle.m11_scan_statements.specs.declared.bodies.Body.TheVariants.{Nothing}

-- a line has neither a label nor a statement; it may have a comment
pub record IsBlank (line : Bytes) : Type 0 where
  pub unlabelled : labels_at line ≡ []
  pub bodiless : body_of line ≡ Nothing

-- Facts of a directory with equal parts are equal.
use Rattle.std.proofs.Common.{◌≡◌, ◌∙◌, List, Option, ap}
use Rattle.m11_base.specs.Rad50.{Name}
use Rattle.m11_asm_directory.specs.FirstPass.{DirectoryFacts}
use Rattle.m11_asm_rules.specs.Tables.{Table}
use Rattle.m11_scan_expressions.specs.Quantities.{Quantity}

abbrev facts_of : Table → List Name → List Name → Option Name → Option Name → Option Quantity → DirectoryFacts
facts_of table referred weak title identification transfer = record {
  table = table;
  referred = referred;
  weak = weak;
  title = title;
  identification = identification;
  transfer = transfer;
}

pub same_facts : (table other_table : Table) (referred other_referred weak other_weak : List Name)
    → (title other_title identification other_identification : Option Name) (transfer other_transfer : Option Quantity)
    → table ≡ other_table → referred ≡ other_referred → weak ≡ other_weak → title ≡ other_title
    → identification ≡ other_identification → transfer ≡ other_transfer
    → facts_of table referred weak title identification transfer
    ≡ facts_of other_table other_referred other_weak other_title other_identification other_transfer
same_facts table other_table referred other_referred weak other_weak title other_title identification
    other_identification transfer other_transfer tables_are referred_are weak_are titles_are identifications_are transfers_are =
    ap (λ t. facts_of t referred weak title identification transfer) tables_are
    ∙ ap (λ r. facts_of other_table r weak title identification transfer) referred_are
    ∙ ap (λ w. facts_of other_table other_referred w title identification transfer) weak_are
    ∙ ap (λ t. facts_of other_table other_referred other_weak t identification transfer) titles_are
    ∙ ap (λ i. facts_of other_table other_referred other_weak other_title i transfer) identifications_are
    ∙ ap (λ t. facts_of other_table other_referred other_weak other_title other_identification t) transfers_are

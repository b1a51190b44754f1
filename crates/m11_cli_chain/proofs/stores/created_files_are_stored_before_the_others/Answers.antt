use Rattle.m11_cli_chain.proofs.FilesHandedOn.{handed_on}
use Rattle.m11_cli_chain.proofs.stores.created_files_are_stored_before_the_others.Goals as goal

pub returns : goal.returns
returns c = handed_on

use Rattle.m11_obj_laws.proofs.WholeTapes.{found, shown}
use Rattle.m11_obj_laws.proofs.tape_stops.tape_stops_are_shown.Goals as goal

pub returns-clause-shown : goal.returns-clause-shown
returns-clause-shown c = shown

pub returns-clause-found : goal.returns-clause-found
returns-clause-found c = found

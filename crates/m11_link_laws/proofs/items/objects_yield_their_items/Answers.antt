use Rattle.m11_link_laws.proofs.ItemsComputed.{object_alone, object_yields, objects_alone, objects_yield}
use Rattle.m11_link_laws.proofs.items.objects_yield_their_items.Goals as goal

pub returns-clause-yields : goal.returns-clause-yields
returns-clause-yields c = object_yields

pub returns-clause-alone : goal.returns-clause-alone
returns-clause-alone c = object_alone

pub returns-clause-all_yield : goal.returns-clause-all_yield
returns-clause-all_yield c = objects_yield

pub returns-clause-all_alone : goal.returns-clause-all_alone
returns-clause-all_alone c = objects_alone

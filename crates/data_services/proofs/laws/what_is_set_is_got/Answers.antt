use Rattle.data_services.proofs.Lawful.{memory_set_is_got, register_set_is_got}
use Rattle.data_services.proofs.laws.what_is_set_is_got.Goals as goal

pub returns : goal.returns
returns c = record {
  memory = memory_set_is_got;
  register = register_set_is_got;
}

use Rattle.channel_laws.proofs.Rest.AllCalls.{all_pend, all_stand}
use Rattle.channel_laws.proofs.Rest.AsSaid.{all_tell}
use Rattle.channel_laws.proofs.Rest.Levels.{all_let_out}
use Rattle.channel_laws.proofs.Rest.Making.{all_made}
use Rattle.channel_laws.proofs.TheLaws.{takes_as_said}
use Rattle.channel_laws.proofs.laws.an_end_stands_as_it_took.Goals as goal

pub returns-clause-taken : goal.returns-clause-taken
returns-clause-taken g c = takes_as_said

pub returns-clause-messages : goal.returns-clause-messages
returns-clause-messages g c = all_tell

pub returns-clause-commands : goal.returns-clause-commands
returns-clause-commands g c = all_made

pub returns-clause-pending : goal.returns-clause-pending
returns-clause-pending g c = all_pend

pub returns-clause-state : goal.returns-clause-state
returns-clause-state g c = all_stand

pub returns-clause-level : goal.returns-clause-level
returns-clause-level g c = all_let_out

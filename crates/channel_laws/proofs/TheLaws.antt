-- The laws of ends and hops, as terms.
use Rattle.channel_core.specs.ReceivingLaws.{WhereAQueueComes}
use Rattle.channel_core.specs.RunLaws.{AfterAllCalls}
use Rattle.channel_laws.specs.Asking.{AsksNothingWaitsForNothing}
use Rattle.channel_laws.specs.Faults.{EndsByItsCalls, FaultsAreThere}
use Rattle.channel_laws.specs.Filling.{EachPieceFillsSo}
use Rattle.channel_laws.specs.Hop.{LiveHopsStand}
use Rattle.channel_laws.specs.Meeting.{WhereAllIsAnswered, WhereNothingIsUnderWay}
use Rattle.channel_laws.specs.Numbering.{WhatComesIsNumbered}
use Rattle.channel_laws.specs.Redirects.{HoldsBehindRedirects}
use Rattle.channel_laws.specs.Rest.{HearsTheEnd, IsOverAtItsEnd, TakesAsSaid}
use Rattle.channel_laws.proofs.Faults.Calling.{all_by_calls}
use Rattle.channel_laws.proofs.Faults.Faulty.{all_are_there}
use Rattle.channel_laws.proofs.Filling.{fills_so}
use Rattle.channel_laws.proofs.Hop.Standing.{all_hops_stand}
use Rattle.channel_laws.proofs.Redirects.AllCalls.{all_hold_back}
use Rattle.channel_laws.proofs.Rest.Answering.{all_free}
use Rattle.channel_laws.proofs.Rest.AsSaid.{all_as_said}
use Rattle.channel_laws.proofs.Rest.Asking.{all_wait_for_nothing}
use Rattle.channel_laws.proofs.Rest.Ending.{all_hear, all_over_at_end}
use Rattle.channel_laws.proofs.Rest.Meeting.{all_rest_together}
use Rattle.channel_laws.proofs.Rest.Numbering.{all_numbered}

pub holds_behind_redirects : {T : Type 0} → AfterAllCalls {T = T} HoldsBehindRedirects
holds_behind_redirects = all_hold_back

pub faults_are_there : {T : Type 0} → WhereAQueueComes {T = T} FaultsAreThere
faults_are_there = all_are_there

pub ends_by_its_calls : {T : Type 0} → EndsByItsCalls T
ends_by_its_calls = all_by_calls

pub takes_as_said : {T : Type 0} → AfterAllCalls {T = T} TakesAsSaid
takes_as_said = all_as_said

pub hears_the_end : {T : Type 0} → WhereAQueueComes {T = T} HearsTheEnd
hears_the_end = all_hear

pub over_at_its_end : {T : Type 0} → IsOverAtItsEnd T
over_at_its_end = all_over_at_end

pub ends_rest_together : {T U : Type 0} → WhereNothingIsUnderWay T U
ends_rest_together = all_rest_together

pub answered_end_is_free : {T U : Type 0} → WhereAllIsAnswered T U
answered_end_is_free = all_free

pub what_comes_is_numbered : {T U : Type 0} → WhatComesIsNumbered T U
what_comes_is_numbered = all_numbered

pub asks_nothing_waits_for_nothing : {T : Type 0} → AsksNothingWaitsForNothing T
asks_nothing_waits_for_nothing = all_wait_for_nothing

pub live_hops_stand : {T U : Type 0} → LiveHopsStand T U
live_hops_stand = all_hops_stand

pub each_piece_fills_so : {T : Type 0} → EachPieceFillsSo T
each_piece_fills_so = fills_so

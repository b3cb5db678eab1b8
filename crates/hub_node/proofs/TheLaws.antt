-- The laws of a hub, as terms.
use Rattle.std.proofs.Common.{◌≡◌, ℕ, Bool, true, false, List, [], ◌∷◌, None, refl}
use Rattle.channel_core.specs.Closing.{is_closed}
use Rattle.channel_core.proofs.TheLaws.{ends_once}
use Rattle.list_laws.proofs.Flags.{not_both}
use Rattle.hub_node.specs.Calls.{AreNew, Call, IsNew}
use Rattle.hub_node.specs.Deeds.{hears}
use Rattle.hub_node.specs.Hub.{new_hub}
use Rattle.hub_node.specs.HubLaws.{AfterAllCalls, ClosesWithTheHub, EndsAreRuns, HearsWhatComes, SendsItsCommands, TellsEachItsOwn}
use Rattle.hub_node.specs.Runs.{HubRun, above_run, after_all, after_call, no_calls}
use Rattle.hub_node.specs.Relay.{hub_services}
use Rattle.hub_node.proofs.Boarding.{Boarded, boarded_first, boarded_step}
use Rattle.hub_node.proofs.Hearing.{HasHeard, heard_step}
use Rattle.hub_node.proofs.Holding.{Holds, ends_are_runs, holds_call, holds_first}
use Rattle.hub_node.proofs.Issuing.{AreIssued, issued_step, sent_front}
use Rattle.hub_node.proofs.Owning.{SendsOwn, own_front, own_step, stays_over, whole}
use Rattle.hub_node.proofs.Rightly.{AreRight, once, right_at, right_step}
use Rattle.hub_node.proofs.Shutting.{ClosesBelow, closes_step}
use Rattle.hub_node.proofs.Tells.{JoinsOnce, SendsNoCommand, Tells, joins_few, joins_step, leaves_closed, no_command_step, tells_step, told_is}
use Rattle.hub_node.proofs.Waits.{IsOpenUpper, few_sent}

pub are_runs : AfterAllCalls EndsAreRuns
are_runs = ends_are_runs

-- what each call keeps
record Keeps (j : ℕ) (r : HubRun) : Type 0 where
  holds : Holds j r
  issued : AreIssued r
  own : SendsOwn j r
  closes : ClosesBelow r
  heard : HasHeard r
  board : IsOpenUpper r → Boarded j r
  tells : Tells j r
  joined : JoinsOnce j r
  plain : SendsNoCommand r
  right : AreRight [] r.deeds

-- an upper end that is open was open before
was_open : (j : ℕ) (call : Call) (r : HubRun) → IsOpenUpper (after_call j call r) → IsOpenUpper r
was_open j call r still = by_flag (is_closed (above_run r).end.state) refl
  where
    by_flag : (flag : Bool) → is_closed (above_run r).end.state ≡ flag → flag ≡ false
    by_flag true over = absurd (not_both (stays_over j call r over) still)
    by_flag false opened = refl

keeps_call : (j : ℕ) (call : Call) (r : HubRun) → IsNew call r.hub → Keeps j r → Keeps j (after_call j call r)
keeps_call j call r new k =
    let tells = tells_step j call r k.holds k.issued k.closes k.board k.tells in record {
      holds = holds_call j call r k.holds;
      issued = issued_step j call r k.holds k.issued;
      own = own_step j call r k.holds k.own;
      closes = closes_step j call r k.holds k.closes;
      heard = heard_step j call r k.holds k.heard;
      board = λ still.
          let opened = was_open j call r still in boarded_step j call r k.holds k.issued k.own new (leaves_closed j call r k.tells tells) opened still (k.board opened);
      tells = tells;
      joined = joins_step j call r k.holds k.joined;
      plain = no_command_step j call r k.plain;
      right = right_step j call r k.holds k.issued k.heard k.right;
    }

keeps_all : (j : ℕ) (calls : List Call) (r : HubRun) → AreNew calls r.hub → Keeps j r → Keeps j (after_all j calls r)
keeps_all j [] r new k = k
keeps_all j (call ∷ calls) r new k = keeps_all j calls (after_call j call r) new.1 (keeps_call j call r new.0 k)

keeps_from_none : (j : ℕ) (calls : List Call) → AreNew calls new_hub → Keeps j (after_all j calls no_calls)
keeps_from_none j calls new =
    keeps_all j calls no_calls new (record {
      holds = holds_first j;
      issued = refl;
      own = whole refl;
      closes = λ begins over. let both : false ≡ true = begins in absurd cc;
      heard = record { bound = refl; heard = refl };
      board = λ opened. boarded_first j;
      tells = record { open_is = refl; told = refl };
      joined = refl;
      plain = refl;
      right = tt;
    })

pub sends_its_commands : AfterAllCalls SendsItsCommands
sends_its_commands calls new j =
    let k = keeps_from_none j calls new in
    record { sent = sent_front (after_all j calls no_calls) k.issued; own = own_front j (after_all j calls no_calls) k.own; few = few_sent (after_all j calls no_calls) k.issued }

pub closes_with_the_hub : AfterAllCalls ClosesWithTheHub
closes_with_the_hub calls new j =
    let r = after_all j calls no_calls in record { closes = (keeps_from_none j calls new).closes; once = ends_once hub_services None r.below }

pub hears_what_comes : AfterAllCalls HearsWhatComes
hears_what_comes calls new j = record { heard = (keeps_from_none j calls new).heard.heard }

pub tells_each_its_own : AfterAllCalls TellsEachItsOwn
tells_each_its_own calls new j =
    let r = after_all j calls no_calls in
    let k = keeps_from_none j calls new in
    record {
      each = λ before rest incoming is. right_at r.deeds before rest (hears incoming) k.right is;
      once = once r.deeds k.right;
      joined = joins_few j r k.joined;
      told = told_is j r k.plain k.tells;
    }

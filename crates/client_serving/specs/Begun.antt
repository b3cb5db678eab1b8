-- A client that has begun its script, and its run from there on.
use Rattle.std.specs.Prelude.{ℕ, ◌≡◌, List, [], ◌∷◌, ◌++◌, fold, Result, Ok, Err}
use Rattle.channel_core.specs.declared.held.Outgoing.{Outgoing}
use Rattle.client_serving.specs.Run.{RunsClient}
use Rattle.client_serving.specs.Serving.{begun, served_client, told}
use Rattle.client_serving.specs.ServingValue.{ServingValue}
use Rattle.client_serving.specs.declared.end.ClientEnd.{ClientEnd}
use Rattle.client_serving.specs.declared.end.ClientRun.{ClientRun}
use Rattle.serving_wires.specs.Going.{DoesAlone}
use Rattle.serving_wires.specs.Order.{queues}
use Rattle.serving_wires.specs.OutboxValue.{OutboxValue}
use Rattle.serving_wires.specs.Row.{Row}
use Rattle.serving_wires.specs.Sending.{ordered}
use Rattle.serving_wires.specs.Serve.{IsOpened}
use Rattle.serving_wires.specs.Turn.{Now}
use Rattle.tcf_schedules.specs.declared.script.ScriptLine.{ScriptLine}
use Rattle.tcf_wires.specs.declared.call.WireCall.{WireCall}
use Rattle.tcf_wires.specs.declared.call.WireCall.TheVariants.{Connected}
use Rattle.tcf_wires.specs.declared.event.WireRefusal.{WireRefusal}

-- all outboxes, once each of these is queued for the wire
abbrev pub all_queued : ℕ → List Outgoing → List (Row OutboxValue) → List (Row OutboxValue)
all_queued channel outs rows = fold (λ now out. ordered (queues channel out.bytes) now) rows outs

-- what it has to send is queued, without a call, and it stands so then
abbrev pub Tells : ServingValue → ServingValue → List (Row OutboxValue) → List (Row OutboxValue) → Type 0
Tells old new olds news = (peer : List ℕ) → DoesAlone peer (told old) new olds news

-- the client is connected on a channel, and has begun; no other calls were made
pub record IsBegun (script : List ScriptLine) (address : List ℕ) (now : Now ServingValue) (unused : ℕ) (calls : List WireCall) : Type 0 where
  pub channel : ℕ
  pub connects : calls ≡ Connected address (Ok channel) ∷ []
  pub begins : now.served ≡ begun address channel script
  pub opened : IsOpened (served_client address script) now unused calls

-- what the run of a client that stands so in the end comes to
abbrev pub ended_as : Result ClientEnd WireRefusal → ServingValue → Result ClientRun WireRefusal
ended_as (Ok end) s = Ok (record { end = end; client = s.client })
ended_as (Err refusal) s = Err refusal

-- Whichever script was begun, and at whichever address: the calls before and these are a run, which comes to this.
abbrev pub RunsOn : ℕ → Result ClientEnd WireRefusal → Now ServingValue → ServingValue → ℕ → List WireCall → Type 0
RunsOn turns result old new unused calls = (script : List ScriptLine) (address : List ℕ) (before : List WireCall)
    → IsBegun script address old unused before → RunsClient script address turns (ended_as result new) (before ++ calls)

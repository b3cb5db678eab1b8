-- What a hub does, in order: a lower channel joins or leaves, its command is sent above or a redirect of it is answered, a
-- message from above is passed on, and all ends.
use Rattle.std.specs.Prelude.{ℕ, Bool, if◌then◌else◌, List, [], ◌∷◌, Option, Some, None, Result, Ok}
use Rattle.std.specs.List.{flat_map}
use Rattle.channel_core.specs.EndValue.{EndValue}
use Rattle.channel_core.specs.Runs.{unless_refused}
use Rattle.channel_core.specs.Sending.{refusal_to}
use Rattle.channel_core.specs.Taking.{next_taken}
use Rattle.channel_core.specs.Wire.{is_redirect}
use Rattle.channel_core.specs.declared.held.Incoming.{Incoming}
use Rattle.channel_core.specs.declared.taking.Taken.{Taken}
use Rattle.channel_core.specs.declared.taking.Taken.TheVariants as taken
use Rattle.tcf_message.specs.Message.{MessageValue, command, reading}
use Rattle.tcf_message.specs.declared.message.MessageFault.{MessageFault}
use Rattle.hub_node.specs.Calls.{Call, opens, comes, bytes_end, turns, gives}
use Rattle.hub_node.specs.Relay.{next_below, opened_at}
use Rattle.hub_node.specs.RelayValue.{RelayValue}
use Rattle.hub_node.specs.declared.side.HubSide.TheVariants.{Above, Below}
use Rattle.hub_node.specs.declared.waiting.Tag.{Tag}

-- a command of a lower channel, as it was taken
pub record Asked : Type 0 where
  pub channel : ℕ
  pub token : List ℕ
  pub service : List ℕ
  pub name : List ℕ
  pub body : List ℕ
  pub mark : Option ℕ

pub data Deed : Type 0 where
  joins : (channel : ℕ) → Deed
  leaves : (channel : ℕ) → Deed
  forwards : (asked : Asked) → Deed
  answers : (asked : Asked) → Deed  -- a redirect
  hears : (incoming : Incoming) → Deed  -- an event, progress or an answer from above, the first Hello aside
  ends : Deed  -- all is closed

-- ---- what a call does

-- where a command is refused above, all is closed
abbrev pub forwarded_as : Asked → EndValue Tag → Deed
forwarded_as c upper = unless_refused (refusal_to c.service c.name c.body upper) ends (forwards c)

abbrev pub asked_deeds : ℕ → Option ℕ → Result MessageValue MessageFault → EndValue Tag → List Deed
asked_deeds j mark (Ok (command token service name body)) upper =
    let c : Asked = record { channel = j; token = token; service = service; name = name; body = body; mark = mark } in
    if is_redirect service name then answers c ∷ [] else forwarded_as c upper ∷ []
asked_deeds j mark _ upper = []

abbrev pub below_deeds : ℕ → Option (Taken Unit) → EndValue Tag → List Deed
below_deeds j None upper = []
below_deeds j (Some (taken.Hello incoming)) upper = []
below_deeds j (Some (taken.Command incoming)) upper = asked_deeds j incoming.mark (reading incoming.raw) upper
below_deeds j (Some (taken.Event incoming)) upper = []
below_deeds j (Some (taken.Progress token incoming)) upper = []
below_deeds j (Some (taken.Final tag incoming)) upper = []
below_deeds j (Some (taken.Closed cause)) upper = leaves j ∷ []

abbrev pub above_deeds : Bool → Option (Taken Tag) → List Deed
above_deeds is_bound None = []
above_deeds is_bound (Some (taken.Hello incoming)) = if is_bound then hears incoming ∷ [] else []
above_deeds is_bound (Some (taken.Command incoming)) = []
above_deeds is_bound (Some (taken.Event incoming)) = hears incoming ∷ []
above_deeds is_bound (Some (taken.Progress token incoming)) = hears incoming ∷ []
above_deeds is_bound (Some (taken.Final tag incoming)) = hears incoming ∷ []
above_deeds is_bound (Some (taken.Closed cause)) = ends ∷ []

abbrev pub joined_deeds : Bool → ℕ → List Deed
joined_deeds did j = if did then joins j ∷ [] else []

abbrev pub deeds_by : Call → RelayValue → List Deed
deeds_by (opens j) r = joined_deeds (opened_at j r).0 j
deeds_by (comes side piece mark) r = []
deeds_by (bytes_end side) r = []
deeds_by (turns key Above) r = above_deeds r.is_bound (next_taken r.upper).0
deeds_by (turns key (Below j)) r = below_deeds j (next_below j r).0 r.upper
deeds_by (gives side) r = []

-- ---- the commands that were sent above, and what was heard

abbrev pub sent_by : Deed → List Asked
sent_by (forwards c) = c ∷ []
sent_by _ = []

abbrev pub sent_in : List Deed → List Asked
sent_in deeds = flat_map sent_by deeds

abbrev pub heard_by : Deed → List Incoming
heard_by (hears incoming) = incoming ∷ []
heard_by _ = []

abbrev pub heard_in : List Deed → List Incoming
heard_in deeds = flat_map heard_by deeds

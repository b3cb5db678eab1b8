-- What is served is an agent.
use Rattle.std.proofs.Common.{◌≡◌, ℕ, ◌==◌, ◌⊎◌, inl, inr, Bool, true, false, cond, List, [], ◌∷◌, ◌++◌, Option, Some, None, refl, sym, ap, ◌∙◌, subst, append-nil, append_assoc, eqb-true}
use Rattle.std.specs.Prelude.{if◌then◌else◌}
use Rattle.std.specs.List.{AllByRecursion}
use Rattle.std.proofs.lemmas.Bool.{false≢true}
use Rattle.std.proofs.lemmas.Grind.{flat_map-append}
use Rattle.std.proofs.lemmas.Option.{none-some, same_Some}
use Rattle.channel_core.specs.declared.held.Outgoing.{Outgoing}
use Rattle.list_laws.proofs.AllLists.{all_weaker}
use Rattle.list_laws.specs.Fronts.{IsFront}
use Rattle.list_laws.proofs.Numbers.{number_itself, other_number}
use Rattle.target_contexts.specs.declared.process.Image.{Image}
use Rattle.tcf_wires.specs.declared.call.WireCall.{WireCall}
use Rattle.tcf_wires.specs.declared.event.WireEvent.{WireEvent}
use Rattle.tcf_wires.specs.declared.event.WireEvent.TheVariants as events
use Rattle.agent_node.specs.Agent.{new_agent, opened}
use Rattle.agent_node.specs.AgentValue.{AgentValue}
use Rattle.agent_node.specs.Runs.{Call, opens}
use Rattle.serving_wires.specs.Changes.{item_on}
use Rattle.serving_wires.specs.Order.{closes, queues}
use Rattle.serving_wires.specs.Process.{Process, and_then, done, tells}
use Rattle.serving_wires.specs.Row.{Row}
use Rattle.serving_wires.specs.Serving.{AreFronts}
use Rattle.serving_wires.specs.Standing.{AreApart, Heard, State, Wire, after, heard_in, is_resting, nodes_in, rests, sent_after, sent_in, sent_with, state_after, unused_wire, waits, wire_in, wires_with, with_piece, with_wire}
use Rattle.serving_wires.specs.declared.intake.Came.{Came}
use Rattle.serving_wires.specs.declared.intake.Came.TheVariants.{Piece, End}
use Rattle.serving_wires.proofs.Rows.{found, found_here, found_later, item_found}
use Rattle.serving_wires.proofs.Holding.{Holds, IsFresh, LeadsTo, NeverAsks, holds_so, leads_on, never_then, rests_always}
use Rattle.serving_wires.proofs.Waiting.{bytes_behind}
use Rattle.serving_wires.proofs.Wires.{Wires, found_new, piece_nowhere, piece_other, piece_own, wire_other, wire_own}
use Rattle.serving_wires.specs.Intake.{bytes_in, piece_bytes}
use Rattle.serving_wires.specs.Wired.{IsWired}
use Rattle.agent_serving.specs.Gathering.{agent_emptied, all_gathered, bytes_of, gathered, queue_on, sends}
use Rattle.agent_serving.specs.Passing.{Passed, passed_on}
use Rattle.agent_serving.specs.Served.{IsBehindWires, IsServed, IsWiredOn, ServesAnAgent, answers, given_out, got_by, got_on, queued_for}
use Rattle.agent_serving.specs.Serving.{acted, handled, heard_on, opened_as, opened_on, served_agent, told}
use Rattle.agent_serving.specs.ServingValue.{ServingValue}
use Rattle.agent_serving.specs.Ticking.{idled}
use Rattle.agent_serving.proofs.CallLists.{answers_more, given_more}
use Rattle.agent_serving.proofs.Doing.{Does, Silent, emptied_does, idled_silent, only_on, passed_on_does}
use Rattle.agent_serving.proofs.GivenOut.{tells_its_history}
use Rattle.agent_serving.proofs.Made.{Made, WereOpened, answered_now, made_first, made_more, made_opened, made_refused, opened_put, opened_without, own_put, own_without}
use Rattle.agent_serving.proofs.Rows.{Lines, Own, all_lack, found_push_other, found_push_own, found_put, found_put_other, found_without, found_without_other, goes_on_with, heard_first, heard_is, put_first, put_twice, put_without, without_first}

-- ---- the wire of a channel, by what its opening was answered, by the bytes that were given out there, and by those that were got

-- where it has a line, it was opened and isn't closed, and what came and wasn't got waits
abbrev IsOpenIf : Option (List Came) → Wire → Bool → List ℕ → Type 0
IsOpenIf None wire did got = IsFront got wire.came
IsOpenIf (Some waiting) wire did got = (wire.is_closed ≡ false) × (did ≡ true) × (wire.came ≡ got ++ bytes_in waiting)

data WireStands (answered : List Bool) (bytes got : List ℕ) : Option (List Came) → Option Wire → Type 0 where
  lacks : answered ≡ [] → bytes ≡ [] → got ≡ [] → WireStands answered bytes got None None
  has : (line : Option (List Came)) (wire : Wire) (did : Bool) → answered ≡ did ∷ [] → wire.queued ≡ queued_for (did ∷ []) bytes → wire.is_left ≡ false → IsOpenIf line wire did got
      → WireStands answered bytes got line (Some wire)

-- that of a channel, by these calls of a new agent
abbrev StandsOn : List Image → List Call → ℕ → Option (List Came) → Option Wire → Type 0
StandsOn images calls k line there = WireStands (answers k calls (new_agent images)) (bytes_of (given_out k calls (new_agent images))) (got_on k calls) line there

record Serves (images : List Image) (s : ServingValue) (sent : Wires) : Type 0 where
  calls : List Call
  made : Made images calls s
  stands : (k : ℕ) → StandsOn images calls k (found k s.lines) (found k sent)

-- that of a line
record IsOpen (answered : List Bool) (bytes got : List ℕ) (waiting : List Came) (there : Option Wire) : Type 0 where
  wire : Wire
  is : there ≡ Some wire
  opened_so : answered ≡ true ∷ []
  queued : wire.queued ≡ bytes
  left : wire.is_left ≡ false
  still : wire.is_closed ≡ false
  came : wire.came ≡ got ++ bytes_in waiting

is_open : (answered : List Bool) (bytes got : List ℕ) (waiting : List Came) (line : Option (List Came)) (there : Option Wire) → line ≡ Some waiting → WireStands answered bytes got line there
    → IsOpen answered bytes got waiting there
is_open answered bytes got waiting line there at (lacks none nothing nor) = absurd (none-some waiting at)
is_open answered bytes got waiting line there at (has None wire did answer queue left still) = absurd (none-some waiting at)
is_open answered bytes got waiting line there at (has (Some other) wire did answer queue left still) =
    record {
      wire = wire;
      is = refl;
      opened_so = answer ∙ ap (λ (b : Bool). b ∷ []) still.1;
      queued = queue ∙ ap (λ (b : Bool). queued_for (b ∷ []) bytes) still.1;
      left = left;
      still = still.0;
      came = still.2 ∙ ap (λ (cs : List Came). got ++ bytes_in cs) (same_Some other waiting at);
    }

open_stands : (answered : List Bool) (bytes got : List ℕ) (waiting : List Came) (line : Option (List Came)) (there : Option Wire) → line ≡ Some waiting → IsOpen answered bytes got waiting there
    → WireStands answered bytes got line there
open_stands answered bytes got waiting line there at o =
    rw (at, o.is) (has (Some waiting) o.wire true o.opened_so o.queued o.left (o.still, refl, o.came))

-- ---- some calls more, none of which opens a channel

goes_on : (images : List Image) (a next : AgentValue) (lines now : Lines) (sent later : Wires) (bytes got : ℕ → List ℕ) (old : Serves images (record { agent = a; lines = lines }) sent) → Does a next bytes got
    → Own now → WereOpened images old.calls now
    → ((k : ℕ) (answered : List Bool) (given had : List ℕ) → WireStands answered given had (found k lines) (found k sent) → WireStands answered (given ++ bytes k) (had ++ got k) (found k now) (found k later))
    → Serves images (record { agent = next; lines = now }) later
goes_on images a next lines now sent later bytes got old does own all keeps =
    let first = new_agent images in
    let calls = old.calls in
    record {
      calls = calls ++ does.more;
      made = made_more images calls does.more a next lines now old.made does.agent own all;
      stands = λ k.
          let answered_so : answers k (calls ++ does.more) first ≡ answers k calls first =
          answers_more k calls does.more first ∙ ap (λ (x : AgentValue). answers k calls first ++ answers k does.more x) (sym old.made.agent)
          ∙ ap (λ (bs : List Bool). answers k calls first ++ bs) (does.answers_are k) ∙ append-nil (answers k calls first) in
          let given_so : bytes_of (given_out k (calls ++ does.more) first) ≡ bytes_of (given_out k calls first) ++ bytes k =
          ap bytes_of (given_more k calls does.more first ∙ ap (λ (x : AgentValue). given_out k calls first ++ given_out k does.more x) (sym old.made.agent))
          ∙ flat_map-append (λ (out : Outgoing). out.bytes) (given_out k calls first) (given_out k does.more a)
          ∙ ap (λ (bs : List ℕ). bytes_of (given_out k calls first) ++ bs) (does.bytes_are k) in
          let got_so : got_on k (calls ++ does.more) ≡ got_on k calls ++ got k = flat_map-append (got_by k) calls does.more ∙ ap (λ (bs : List ℕ). got_on k calls ++ bs) (does.got_are k) in
          rw (answered_so, given_so, got_so) (keeps k (answers k calls first) (bytes_of (given_out k calls first)) (got_on k calls) (old.stands k));
    }

with_none : (answered : List Bool) (given had : List ℕ) (line : Option (List Came)) (there : Option Wire) → WireStands answered given had line there
    → WireStands answered (given ++ []) (had ++ []) line there
with_none answered given had line there stands = rw (append-nil given, append-nil had) stands

-- with nothing given out, and nothing got
silent_serves : (images : List Image) (a next : AgentValue) (lines : Lines) (sent : Wires) → Silent a next → Serves images (record { agent = a; lines = lines }) sent
    → Serves images (record { agent = next; lines = lines }) sent
silent_serves images a next lines sent silent old =
    goes_on images a next lines lines sent sent (λ k. []) (λ k. []) old silent old.made.own old.made.opened_all
    (λ k answered given had stands. with_none answered given had (found k lines) (found k sent) stands)

-- a fact of one channel and of the others
by_channel : (P : ℕ → Type 0) (k j : ℕ) → P k → ((k == j) ≡ false → P j) → P j
by_channel P k j here there = by_flag (k == j) refl
  where
    by_flag : (flag : Bool) → (k == j) ≡ flag → P j
    by_flag true is = subst P (eqb-true k j is) here
    by_flag false is = there is

-- ---- what the agent has for a channel is queued

record Grown (k : ℕ) (more : List ℕ) (wire : Wire) (sent later : Wires) : Type 0 where
  own : found k later ≡ Some (record wire { queued = wire.queued ++ more })
  others : (j : ℕ) → (k == j) ≡ false → found j later ≡ found j sent

queued_on : (k : ℕ) (bytes : List ℕ) (wire : Wire) → wire.is_closed ≡ false → sent_after (queues k bytes) wire ≡ record wire { queued = wire.queued ++ bytes }
queued_on k bytes wire still = ap (λ (b : Bool). if b then wire else record wire { queued = wire.queued ++ bytes }) still

sends_lead : (Q : AgentValue → Wires → Type 0) (k : ℕ) (outs : List Outgoing) (a : AgentValue) (sent : Wires) (wire : Wire) → found k sent ≡ Some wire → wire.is_closed ≡ false
    → ((later : Wires) → Grown k (bytes_of outs) wire sent later → Q a later) → LeadsTo Q (sends k outs a) sent
sends_lead Q k [] a sent wire there still so =
    so sent (record { own = there ∙ ap (λ (bs : List ℕ). Some (record wire { queued = bs })) (sym (append-nil wire.queued)); others = λ j apart. refl })
sends_lead Q k (out ∷ outs) a sent wire there still so =
    let one : Wire = record wire { queued = wire.queued ++ out.bytes } in
    sends_lead Q k outs a (sent_with (queues k out.bytes) sent) one
    (wire_own (queues k out.bytes) sent wire there ∙ ap (λ (w : Wire). Some w) (queued_on k out.bytes wire still)) still
    (λ later g. so later (record {
      own = g.own ∙ ap (λ (bs : List ℕ). Some (record wire { queued = bs })) (append_assoc wire.queued out.bytes (bytes_of outs));
      others = λ j apart. g.others j apart ∙ wire_other (queues k out.bytes) j sent apart;
    }))

grown_stands : (k : ℕ) (more : List ℕ) (wire : Wire) (sent later : Wires) (waiting : List Came) (lines : Lines) → found k sent ≡ Some wire → found k lines ≡ Some waiting → Grown k more wire sent later
    → (j : ℕ) (answered : List Bool) (given had : List ℕ) → WireStands answered given had (found j lines) (found j sent)
    → WireStands answered (given ++ only_on k more j) (had ++ []) (found j lines) (found j later)
grown_stands k more wire sent later waiting lines there at g j answered given had =
    by_channel (λ (n : ℕ). WireStands answered given had (found n lines) (found n sent) → WireStands answered (given ++ only_on k more n) (had ++ []) (found n lines) (found n later)) k j own others
  where
    own : WireStands answered given had (found k lines) (found k sent) → WireStands answered (given ++ only_on k more k) (had ++ []) (found k lines) (found k later)
    own stood =
        let o = is_open answered given had waiting (found k lines) (found k sent) at stood in
        let same : o.wire ≡ wire = same_Some o.wire wire (sym o.is ∙ there) in
        open_stands answered (given ++ only_on k more k) (had ++ []) waiting (found k lines) (found k later) at
        (record {
          wire = record wire { queued = wire.queued ++ more };
          is = g.own;
          opened_so = o.opened_so;
          queued = ap (λ (w : Wire). w.queued ++ more) (sym same) ∙ ap (λ (bs : List ℕ). bs ++ more) o.queued ∙ ap (λ (b : Bool). given ++ cond b more []) (sym (number_itself k));
          left = ap (λ (w : Wire). w.is_left) (sym same) ∙ o.left;
          still = ap (λ (w : Wire). w.is_closed) (sym same) ∙ o.still;
          came = ap (λ (w : Wire). w.came) (sym same) ∙ o.came ∙ ap (λ (bs : List ℕ). bs ++ bytes_in waiting) (sym (append-nil had));
        })

    others : (k == j) ≡ false → WireStands answered given had (found j lines) (found j sent) → WireStands answered (given ++ only_on k more j) (had ++ []) (found j lines) (found j later)
    others is stood = rw (g.others j is, is) (with_none answered given had (found j lines) (found j sent) stood)

-- of one that has a line
gathered_leads : (images : List Image) (k : ℕ) (waiting : List Came) (a : AgentValue) (lines : Lines) (sent : Wires) → found k lines ≡ Some waiting → Serves images (record { agent = a; lines = lines }) sent
    → LeadsTo (λ b now. Serves images (record { agent = b; lines = lines }) now) (gathered k a) sent
gathered_leads images k waiting a lines sent at old =
    let outs = queue_on k a in
    let o = is_open (answers k old.calls (new_agent images)) (bytes_of (given_out k old.calls (new_agent images))) (got_on k old.calls) waiting (found k lines) (found k sent) at (old.stands k) in
    sends_lead (λ b now. Serves images (record { agent = b; lines = lines }) now) k outs (agent_emptied k a) sent o.wire o.is o.still
    (λ later g. goes_on images a (agent_emptied k a) lines lines sent later (only_on k (bytes_of outs)) (λ j. []) old (emptied_does k outs a refl) old.made.own old.made.opened_all
    (grown_stands k (bytes_of outs) o.wire sent later waiting lines o.is at g))

-- of all lines
abbrev IsFoundIn : Lines → Row (List Came) → Type 0
IsFoundIn lines line = found line.channel lines ≡ Some line.item

each_found : (lines : Lines) → Own lines → AllByRecursion (IsFoundIn lines) lines
each_found [] own = tt
each_found (line ∷ lines) own = (
  found_here line.channel line lines (number_itself line.channel),
  all_lack (IsFoundIn lines) (IsFoundIn (line ∷ lines)) line.channel lines own.0 (λ other apart there. found_later other.channel line lines (other_number other.channel line.channel apart) ∙ there) (each_found lines own.1),
)

rest_leads : (images : List Image) (rest : Lines) (a : AgentValue) (lines : Lines) (sent : Wires) → AllByRecursion (IsFoundIn lines) rest → Serves images (record { agent = a; lines = lines }) sent
    → LeadsTo (λ b now. Serves images (record { agent = b; lines = lines }) now) (all_gathered rest a) sent
rest_leads images [] a lines sent all old = old
rest_leads images (line ∷ rest) a lines sent all old =
    let Q : AgentValue → Wires → Type 0 = λ b now. Serves images (record { agent = b; lines = lines }) now in
    leads_on Q Q (gathered line.channel a) (λ next. all_gathered rest next) sent (gathered_leads images line.channel line.item a lines sent all.0 old)
    (λ b now serves. rest_leads images rest b lines now all.1 serves)

told_leads : (images : List Image) (s : ServingValue) (sent : Wires) → Serves images s sent → LeadsTo (Serves images) (told s) sent
unfolding told
told_leads images s sent old =
    leads_on (λ b now. Serves images (record { agent = b; lines = s.lines }) now) (Serves images) (all_gathered s.lines s.agent) (λ b. done (record s { agent = b })) sent
    (rest_leads images s.lines s.agent s.lines sent (each_found s.lines old.made.own) old) (λ b now serves. serves)

-- ---- a channel opens

-- a wire that is new
new_to : (answered : List Bool) (bytes got : List ℕ) (line : Option (List Came)) (there : Option Wire) → there ≡ None → WireStands answered bytes got line there
    → (line ≡ None) × (answered ≡ []) × (bytes ≡ []) × (got ≡ [])
new_to answered bytes got line there missing (lacks none nothing nor) = (refl, none, nothing, nor)
new_to answered bytes got line there missing (has before wire did answer queue left still) = absurd (none-some wire (sym missing))

-- what comes of it, where the others stay as they are
opens_so : (images : List Image) (k : ℕ) (did : Bool) (s next : ServingValue) (sent later : Wires) (wire : Wire) → found k sent ≡ None → (opened k s.agent).0 ≡ did → (old : Serves images s sent)
    → Made images (old.calls ++ opens k ∷ []) next → found k later ≡ Some wire → wire.queued ≡ queued_for (did ∷ []) [] → wire.is_left ≡ false → IsOpenIf (found k next.lines) wire did []
    → ((j : ℕ) → (k == j) ≡ false → (found j later ≡ found j sent) × (found j next.lines ≡ found j s.lines)) → Serves images next later
opens_so images k did s next sent later wire missing is old made there queue left still others =
    record { calls = old.calls ++ opens k ∷ []; made = made; stands = λ j. by_channel (λ (n : ℕ). StandsOn images (old.calls ++ opens k ∷ []) n (found n next.lines) (found n later)) k j own (aside j) }
  where
    given_so : (j : ℕ) → bytes_of (given_out j (old.calls ++ opens k ∷ []) (new_agent images)) ≡ bytes_of (given_out j old.calls (new_agent images))
    given_so j = ap bytes_of (given_more j old.calls (opens k ∷ []) (new_agent images) ∙ append-nil (given_out j old.calls (new_agent images)))

    got_so : (j : ℕ) → got_on j (old.calls ++ opens k ∷ []) ≡ got_on j old.calls
    got_so j = flat_map-append (got_by j) old.calls (opens k ∷ []) ∙ append-nil (got_on j old.calls)

    answered_so : (j : ℕ) (flag : Bool) → (k == j) ≡ flag → answers j (old.calls ++ opens k ∷ []) (new_agent images) ≡ answers j old.calls (new_agent images) ++ cond flag (did ∷ []) []
    answered_so j flag same =
        answered_now images old.calls k j s old.made ∙ ap (λ (b : Bool). answers j old.calls (new_agent images) ++ cond (k == j) (b ∷ []) []) is
        ∙ ap (λ (b : Bool). answers j old.calls (new_agent images) ++ cond b (did ∷ []) []) same

    own : StandsOn images (old.calls ++ opens k ∷ []) k (found k next.lines) (found k later)
    own =
        let n = new_to (answers k old.calls (new_agent images)) (bytes_of (given_out k old.calls (new_agent images))) (got_on k old.calls) (found k s.lines) (found k sent) missing (old.stands k) in
        rw (answered_so k true (number_itself k), given_so k, got_so k, there, n.1, n.2, n.3) (has (found k next.lines) wire did refl queue left still)

    aside : (j : ℕ) → (k == j) ≡ false → StandsOn images (old.calls ++ opens k ∷ []) j (found j next.lines) (found j later)
    aside j apart =
        let o = others j apart in
        rw (answered_so j false apart ∙ append-nil (answers j old.calls (new_agent images)), given_so j, got_so j, o.0, o.1) (old.stands j)

push_new : (k : ℕ) (sent : Wires) (j : ℕ) → (k == j) ≡ false → found j (with_wire k sent) ≡ found j sent
push_new k sent j apart = found_push_other j sent _ apart

opened_leads : (did : Bool) (images : List Image) (k : ℕ) (s : ServingValue) (sent : Wires) → found k sent ≡ None → (opened k s.agent).0 ≡ did → Serves images s sent
    → LeadsTo (Serves images) (opened_as k (did, (opened k s.agent).1) s) (with_wire k sent)
opened_leads true images k s sent missing is old =
    let line : Row (List Came) = record { channel = k; item = [] } in
    let next : ServingValue = record { agent = (opened k s.agent).1; lines = s.lines ++ line ∷ [] } in
    let n = new_to (answers k old.calls (new_agent images)) (bytes_of (given_out k old.calls (new_agent images))) (got_on k old.calls) (found k s.lines) (found k sent) missing (old.stands k) in
    opens_so images k true s next sent (with_wire k sent) unused_wire missing is old (made_opened images old.calls k s old.made is) (found_new k sent missing) refl refl
    (subst (λ (o : Option (List Came)). IsOpenIf o unused_wire true []) (sym (found_push_own s.lines line n.0)) (refl, refl, refl))
    (λ j apart. (push_new k sent j apart, found_push_other j s.lines line apart))
opened_leads false images k s sent missing is old =
    let ending : List ℕ = 3 ∷ 2 ∷ [] in
    let queueing = queues k ending in
    let mid : Wires = sent_with queueing (with_wire k sent) in
    let last : Wire = sent_after (closes k) (sent_after queueing unused_wire) in
    let n = new_to (answers k old.calls (new_agent images)) (bytes_of (given_out k old.calls (new_agent images))) (got_on k old.calls) (found k s.lines) (found k sent) missing (old.stands k) in
    opens_so images k false s (record s { agent = (opened k s.agent).1 }) sent (sent_with (closes k) mid) last missing is old (made_refused images old.calls k s old.made)
    (wire_own (closes k) mid (sent_after queueing unused_wire) (wire_own queueing (with_wire k sent) unused_wire (found_new k sent missing))) refl refl
    (subst (λ (o : Option (List Came)). IsOpenIf o last false []) (sym n.0) ([], refl))
    (λ j apart. (wire_other (closes k) j mid apart ∙ wire_other queueing j (with_wire k sent) apart ∙ push_new k sent j apart, refl))

-- ---- something comes on a wire

record Comes (k : ℕ) (bytes : List ℕ) (sent later : Wires) : Type 0 where
  own : (wire : Wire) → found k sent ≡ Some wire → found k later ≡ Some (with_piece bytes wire)
  others : (j : ℕ) → ((k == j) ≡ false) ⊎ (found k sent ≡ None) → found j later ≡ found j sent

piece_comes : (k : ℕ) (bytes : List ℕ) (sent : Wires) → Comes k bytes sent (wires_with (events.Piece k bytes) sent)
piece_comes k bytes sent =
    record { own = λ wire there. piece_own k bytes sent wire there; others = λ j so. by_either j so }
  where
    by_either : (j : ℕ) → ((k == j) ≡ false) ⊎ (found k sent ≡ None) → found j (wires_with (events.Piece k bytes) sent) ≡ found j sent
    by_either j (inl apart) = piece_other k j bytes sent apart
    by_either j (inr missing) = ap (found j) (piece_nowhere k bytes sent missing)

none_comes : (k : ℕ) (sent : Wires) → Comes k [] sent sent
none_comes k sent = record { own = λ wire there. there ∙ ap (λ (bs : List ℕ). Some (record wire { came = bs })) (sym (append-nil wire.came)); others = λ j so. refl }

-- where the channel has no line it is dropped
dropped_stands : (k : ℕ) (bytes : List ℕ) (sent later : Wires) (lines : Lines) → Comes k bytes sent later → found k lines ≡ None → (j : ℕ) (answered : List Bool) (given had : List ℕ)
    → WireStands answered given had (found j lines) (found j sent) → WireStands answered given had (found j lines) (found j later)
dropped_stands k bytes sent later lines comes missing j answered given had =
    by_channel (λ (n : ℕ). WireStands answered given had (found n lines) (found n sent) → WireStands answered given had (found n lines) (found n later)) k j (own (found k sent) refl)
    (λ apart stood. subst (λ (o : Option Wire). WireStands answered given had (found j lines) o) (sym (comes.others j (inl apart))) stood)
  where
    more : (there : Option Wire) (wire : Wire) → there ≡ Some wire → WireStands answered given had None there → WireStands answered given had None (Some (with_piece bytes wire))
    more there wire is (lacks none nothing nor) = absurd (none-some wire is)
    more there wire is (has None other did answer queue left still) =
        let same : other ≡ wire = same_Some other wire is in
        subst (λ (w : Wire). WireStands answered given had None (Some (with_piece bytes w))) same
        (has None (with_piece bytes other) did answer queue left (still.0 ++ bytes, ap (λ (bs : List ℕ). bs ++ bytes) still.1 ∙ append_assoc had still.0 bytes))

    own : (there : Option Wire) → found k sent ≡ there → WireStands answered given had (found k lines) (found k sent) → WireStands answered given had (found k lines) (found k later)
    own None is stood = subst (λ (o : Option Wire). WireStands answered given had (found k lines) o) (sym (comes.others k (inr is))) stood
    own (Some wire) is stood = rw (missing, comes.own wire is) (more (found k sent) wire is (subst (λ (o : Option (List Came)). WireStands answered given had o (found k sent)) missing stood))

-- and else it waits
waits_stands : (k : ℕ) (what : Came) (waiting : List Came) (sent later : Wires) (lines : Lines) → Comes k (piece_bytes what) sent later → found k lines ≡ Some waiting
    → (j : ℕ) (answered : List Bool) (given had : List ℕ) → WireStands answered given had (found j lines) (found j sent)
    → WireStands answered given had (found j (put_first k (waiting ++ what ∷ []) lines)) (found j later)
waits_stands k what waiting sent later lines comes there j answered given had =
    by_channel (λ (n : ℕ). WireStands answered given had (found n lines) (found n sent) → WireStands answered given had (found n (put_first k (waiting ++ what ∷ []) lines)) (found n later)) k j own
    (λ apart stood. rw (found_put_other j k (waiting ++ what ∷ []) lines apart, comes.others j (inl apart)) stood)
  where
    own : WireStands answered given had (found k lines) (found k sent) → WireStands answered given had (found k (put_first k (waiting ++ what ∷ []) lines)) (found k later)
    own stood =
        let o = is_open answered given had waiting (found k lines) (found k sent) there stood in
        open_stands answered given had (waiting ++ what ∷ []) (found k (put_first k (waiting ++ what ∷ []) lines)) (found k later) (found_put k waiting (waiting ++ what ∷ []) lines there)
        (record {
          wire = with_piece (piece_bytes what) o.wire;
          is = comes.own o.wire o.is;
          opened_so = o.opened_so;
          queued = o.queued;
          left = o.left;
          still = o.still;
          came = ap (λ (bs : List ℕ). bs ++ piece_bytes what) o.came ∙ append_assoc had (bytes_in waiting) (piece_bytes what) ∙ ap (λ (bs : List ℕ). had ++ bs) (sym (bytes_behind waiting what));
        })

-- ---- and passes

-- the channels of the lines are the same
passes_stands : (k : ℕ) (waiting left : List Came) (bytes : List ℕ) (sent : Wires) (lines : Lines) → bytes_in waiting ≡ bytes ++ bytes_in left → found k lines ≡ Some waiting
    → (j : ℕ) (answered : List Bool) (given had : List ℕ) → WireStands answered given had (found j lines) (found j sent)
    → WireStands answered (given ++ []) (had ++ only_on k bytes j) (found j (put_first k left lines)) (found j sent)
passes_stands k waiting left bytes sent lines split there j answered given had =
    by_channel (λ (n : ℕ). WireStands answered given had (found n lines) (found n sent) → WireStands answered (given ++ []) (had ++ only_on k bytes n) (found n (put_first k left lines)) (found n sent)) k j own others
  where
    own : WireStands answered given had (found k lines) (found k sent) → WireStands answered (given ++ []) (had ++ only_on k bytes k) (found k (put_first k left lines)) (found k sent)
    own stood =
        let o = is_open answered given had waiting (found k lines) (found k sent) there stood in
        open_stands answered (given ++ []) (had ++ only_on k bytes k) left (found k (put_first k left lines)) (found k sent) (found_put k waiting left lines there)
        (record {
          wire = o.wire;
          is = o.is;
          opened_so = o.opened_so;
          queued = o.queued ∙ sym (append-nil given);
          left = o.left;
          still = o.still;
          came = o.came ∙ ap (λ (bs : List ℕ). had ++ bs) split ∙ sym (append_assoc had bytes (bytes_in left))
              ∙ ap (λ (b : Bool). (had ++ cond b bytes []) ++ bytes_in left) (sym (number_itself k));
        })

    others : (k == j) ≡ false → WireStands answered given had (found j lines) (found j sent)
        → WireStands answered (given ++ []) (had ++ only_on k bytes j) (found j (put_first k left lines)) (found j sent)
    others apart stood = rw (apart, found_put_other j k left lines apart) (with_none answered given had (found j lines) (found j sent) stood)

-- a wire that was closed, whose line is gone
closes_stands : (k : ℕ) (waiting : List Came) (lines : Lines) (sent : Wires) → Own lines → found k lines ≡ Some waiting → (j : ℕ) (answered : List Bool) (given had : List ℕ)
    → WireStands answered given had (found j lines) (found j sent) → WireStands answered given had (found j (without_first k lines)) (found j (sent_with (closes k) sent))
closes_stands k waiting lines sent own_lines there j answered given had =
    by_channel (λ (n : ℕ). WireStands answered given had (found n lines) (found n sent) → WireStands answered given had (found n (without_first k lines)) (found n (sent_with (closes k) sent))) k j own
    (λ apart stood. rw (found_without_other j k lines apart, wire_other (closes k) j sent apart) stood)
  where
    own : WireStands answered given had (found k lines) (found k sent) → WireStands answered given had (found k (without_first k lines)) (found k (sent_with (closes k) sent))
    own stood =
        let o = is_open answered given had waiting (found k lines) (found k sent) there stood in
        rw (found_without k lines own_lines, wire_own (closes k) sent o.wire o.is) (has None (sent_after (closes k) o.wire) true o.opened_so o.queued o.left (bytes_in waiting, o.came))

closes_serves : (images : List Image) (k : ℕ) (waiting : List Came) (a : AgentValue) (lines : Lines) (sent : Wires) → found k lines ≡ Some waiting → Serves images (record { agent = a; lines = lines }) sent
    → Serves images (record { agent = a; lines = without_first k lines }) (sent_with (closes k) sent)
closes_serves images k waiting a lines sent there old =
    record {
      calls = old.calls;
      made = record { agent = old.made.agent; own = own_without k lines old.made.own; opened_all = opened_without images old.calls k lines old.made.opened_all };
      stands = λ j. closes_stands k waiting lines sent old.made.own there j _ _ _ (old.stands j);
    }

with_leads : (over : Bool) (images : List Image) (k : ℕ) (p : Passed) (lines : Lines) (sent : Wires) → found k (put_first k p.waiting lines) ≡ Some p.waiting
    → Serves images (record { agent = p.agent; lines = put_first k p.waiting lines }) sent
    → LeadsTo (Serves images)
    (cond over (and_then (gathered k p.agent) (λ a. tells (closes k) (done (record { agent = a; lines = without_first k lines })))) (done (record { agent = p.agent; lines = put_first k p.waiting lines }))) sent
with_leads true images k p lines sent there old =
    let put = put_first k p.waiting lines in
    leads_on (λ b now. Serves images (record { agent = b; lines = put }) now) (Serves images) (gathered k p.agent) (λ a. tells (closes k) (done (record { agent = a; lines = without_first k lines }))) sent
    (gathered_leads images k p.waiting p.agent put sent there old)
    (λ b now serves. subst (λ (ls : Lines). Serves images (record { agent = b; lines = ls }) (sent_with (closes k) now)) (put_without k p.waiting lines) (closes_serves images k p.waiting b put now there serves))
with_leads false images k p lines sent there old = old

heard_by : (line : Option (List Came)) (images : List Image) (k : ℕ) (what : Came) (s : ServingValue) (sent later : Wires) → found k s.lines ≡ line → Comes k (piece_bytes what) sent later → Serves images s sent
    → LeadsTo (Serves images) (heard_first k what line s) later
heard_by None images k what s sent later is comes old =
    record { calls = old.calls; made = old.made; stands = λ j. dropped_stands k (piece_bytes what) sent later s.lines comes is j _ _ _ (old.stands j) }
heard_by (Some waiting) images k what s sent later is comes old =
    let all = waiting ++ what ∷ [] in
    let p = passed_on k all s.agent in
    let lines = put_first k all s.lines in
    let passes = passed_on_does k all s.agent in
    let ready : Serves images (record { agent = s.agent; lines = lines }) later =
    record {
      calls = old.calls;
      made = record { agent = old.made.agent; own = own_put k all s.lines old.made.own; opened_all = opened_put images old.calls k all s.lines old.made.opened_all };
      stands = λ j. waits_stands k what waiting sent later s.lines comes is j _ _ _ (old.stands j);
    } in
    let there = found_put k waiting all s.lines is in
    let passed : Serves images (record { agent = p.agent; lines = put_first k p.waiting lines }) later =
    goes_on images s.agent p.agent lines (put_first k p.waiting lines) later later (λ j. []) (only_on k passes.given_bytes) ready passes.does (own_put k p.waiting lines ready.made.own)
    (opened_put images ready.calls k p.waiting lines ready.made.opened_all) (passes_stands k all p.waiting passes.given_bytes later lines passes.split there) in
    with_leads p.is_over images k p s.lines later (found_put k waiting p.waiting s.lines is)
    (subst (λ (ls : Lines). Serves images (record { agent = p.agent; lines = ls }) later) (put_twice k all p.waiting s.lines) passed)

heard_leads : (images : List Image) (k : ℕ) (what : Came) (s : ServingValue) (sent later : Wires) → Comes k (piece_bytes what) sent later → Serves images s sent → LeadsTo (Serves images) (heard_on k what s) later
heard_leads images k what s sent later comes old =
    subst (λ (p : Process ServingValue). LeadsTo (Serves images) p later) (sym (heard_is k what s)) (heard_by (found k s.lines) images k what s sent later refl comes old)

-- ---- an event

acted_leads : (images : List Image) (event : WireEvent) (s : ServingValue) (sent : Wires) → IsFresh event sent → Serves images s sent → LeadsTo (Serves images) (acted event s) (wires_with event sent)
unfolding acted opened_on
acted_leads images (events.Opened channel) s sent fresh old = opened_leads (opened channel s.agent).0 images channel s sent fresh refl old
acted_leads images (events.Piece channel bytes) s sent fresh old = heard_leads images channel (Piece bytes) s sent (wires_with (events.Piece channel bytes) sent) (piece_comes channel bytes sent) old
acted_leads images (events.Ended channel) s sent fresh old = heard_leads images channel End s sent sent (none_comes channel sent) old
acted_leads images (events.Lost channel) s sent fresh old = heard_leads images channel End s sent sent (none_comes channel sent) old
acted_leads images events.Idle s sent fresh old = silent_serves images s.agent (idled s.agent) s.lines sent (idled_silent s.agent) old
acted_leads images events.Stop s sent fresh old = old

event_leads : (images : List Image) (event : WireEvent) (s : ServingValue) (sent : Wires) → IsFresh event sent → Serves images s sent → LeadsTo (Serves images) (handled event s) (wires_with event sent)
unfolding handled
event_leads images event s sent fresh old =
    leads_on (Serves images) (Serves images) (acted event s) told (wires_with event sent) (acted_leads images event s sent fresh old) (λ next now serves. told_leads images next now serves)

-- ---- it never asks for a connection

sends_never : (k : ℕ) (outs : List Outgoing) (a : AgentValue) → NeverAsks (sends k outs a)
sends_never k [] a = tt
sends_never k (out ∷ outs) a = sends_never k outs a

all_never : (lines : Lines) (a : AgentValue) → NeverAsks (all_gathered lines a)
all_never [] a = tt
all_never (line ∷ lines) a = never_then (gathered line.channel a) (λ next. all_gathered lines next) (sends_never line.channel (queue_on line.channel a) (agent_emptied line.channel a)) (λ next. all_never lines next)

opened_never : (did : Bool) (k : ℕ) (a : AgentValue) (s : ServingValue) → NeverAsks (opened_as k (did, a) s)
opened_never true k a s = tt
opened_never false k a s = tt

with_never : (over : Bool) (k : ℕ) (p : Passed) (lines : Lines)
    → NeverAsks (cond over (and_then (gathered k p.agent) (λ a. tells (closes k) (goes_on_with a (without_first k lines)))) (goes_on_with p.agent (put_first k p.waiting lines)))
with_never true k p lines =
    never_then (gathered k p.agent) (λ a. tells (closes k) (done (record { agent = a; lines = without_first k lines }))) (sends_never k (queue_on k p.agent) (agent_emptied k p.agent)) (λ a. tt)
with_never false k p lines = tt

heard_never : (line : Option (List Came)) (k : ℕ) (came : Came) (s : ServingValue) → NeverAsks (heard_first k came line s)
heard_never None k came s = tt
heard_never (Some waiting) k came s = let p = passed_on k (waiting ++ came ∷ []) s.agent in with_never p.is_over k p s.lines

on_never : (k : ℕ) (came : Came) (s : ServingValue) → NeverAsks (heard_on k came s)
on_never k came s = subst (λ (p : Process ServingValue). NeverAsks p) (sym (heard_is k came s)) (heard_never (found k s.lines) k came s)

acted_never : (event : WireEvent) (s : ServingValue) → NeverAsks (acted event s)
unfolding acted opened_on
acted_never (events.Opened channel) s = opened_never (opened channel s.agent).0 channel (opened channel s.agent).1 s
acted_never (events.Piece channel bytes) s = on_never channel (Piece bytes) s
acted_never (events.Ended channel) s = on_never channel End s
acted_never (events.Lost channel) s = on_never channel End s
acted_never events.Idle s = tt
acted_never events.Stop s = tt

pub event_never : (event : WireEvent) (s : ServingValue) → NeverAsks (handled event s)
unfolding handled told
event_never event s =
    never_then (acted event s) told (acted_never event s) (λ next. never_then (all_gathered next.lines next.agent) (λ a. done (record next { agent = a })) (all_never next.lines next.agent) (λ a. tt))

pub always_rests : (images : List Image) (heard : List Heard) → is_resting (after (served_agent images) heard) ≡ true
always_rests images heard = rests_always (served_agent images) event_never tt heard

-- ---- the law

wire_queued : (answered : List Bool) (bytes got : List ℕ) (line : Option (List Came)) (there : Option Wire) → WireStands answered bytes got line there → (wire_in there).queued ≡ queued_for answered bytes
wire_queued answered bytes got line there (lacks none nothing nor) = sym (ap (λ (bs : List Bool). queued_for bs bytes) none)
wire_queued answered bytes got line there (has before wire did answer queue left still) = queue ∙ sym (ap (λ (bs : List Bool). queued_for bs bytes) answer)

wire_left : (answered : List Bool) (bytes got : List ℕ) (line : Option (List Came)) (there : Option Wire) → WireStands answered bytes got line there → (wire_in there).is_left ≡ false
wire_left answered bytes got line there (lacks none nothing nor) = refl
wire_left answered bytes got line there (has before wire did answer queue left still) = left

wire_got : (answered : List Bool) (bytes got : List ℕ) (line : Option (List Came)) (there : Option Wire) → WireStands answered bytes got line there → IsFront got (wire_in there).came
wire_got answered bytes got line there (lacks none nothing nor) = ([], sym (append-nil got ∙ nor))
wire_got answered bytes got line there (has None wire did answer queue left still) = still
wire_got answered bytes got line there (has (Some waiting) wire did answer queue left still) = (bytes_in waiting, still.2)

line_wired : (images : List Image) (s : ServingValue) (sent : Wires) (serves : Serves images s sent) (line : Row (List Came)) → IsFoundIn s.lines line
    → IsWired line.channel sent (got_on line.channel serves.calls) (bytes_of (given_out line.channel serves.calls (new_agent images))) line.item true
line_wired images s sent serves line there =
    let k = line.channel in
    let o = is_open (answers k serves.calls (new_agent images)) (bytes_of (given_out k serves.calls (new_agent images))) (got_on k serves.calls) line.item (found k s.lines) (found k sent) there (serves.stands k) in
    record {
      wire = o.wire;
      there = item_found Wire k sent ∙ o.is;
      queued = o.queued;
      unheard = [];
      came = o.came ∙ ap (λ (bs : List ℕ). got_on k serves.calls ++ bs) (sym (append-nil (bytes_in line.item)));
      all = λ is. refl;
    }

state_serves : (images : List Image) (state : State ServingValue) → is_resting state ≡ true → Holds (Serves images) state → IsServed images state
state_serves images (rests s) is serves =
    let wire_is : (k : ℕ) → item_on k s.sent ≡ found k s.sent = λ k. item_found Wire k s.sent in
    record {
      calls = serves.calls;
      agent = serves.made.agent;
      queued = λ k. ap (λ (o : Option Wire). (wire_in o).queued) (wire_is k) ∙ wire_queued _ _ _ (found k s.served.lines) (found k s.sent) (serves.stands k);
      got = λ k. subst (λ (o : Option Wire). IsFront (got_on k serves.calls) (wire_in o).came) (sym (wire_is k)) (wire_got _ _ _ (found k s.served.lines) (found k s.sent) (serves.stands k));
      wired = all_weaker (IsFoundIn s.served.lines) (λ (line : Row (List Came)). IsWiredOn images serves.calls (rests s) line.channel line.item) s.served.lines (line_wired images s.served s.sent serves)
          (each_found s.served.lines serves.made.own);
      kept = λ k. ap (λ (o : Option Wire). (wire_in o).is_left) (wire_is k) ∙ wire_left _ _ _ (found k s.served.lines) (found k s.sent) (serves.stands k);
      tells = tells_its_history images serves.calls;
    }
state_serves images (waits s next) is serves = absurd (false≢true is)

pub serves_an_agent : ServesAnAgent
serves_an_agent images heard apart =
    state_serves images (after (served_agent images) heard) (always_rests images heard)
    (holds_so (served_agent images) (Serves images) (λ event s sent fresh old. event_leads images event s sent fresh old)
    (record { calls = []; made = made_first images; stands = λ k. lacks refl refl refl }) heard apart)

-- what the wires took of it
pub behind_wires : (images : List Image) (wires : List WireCall) → AreApart (sent_in (state_after (served_agent images) wires)) → AreFronts (nodes_in (state_after (served_agent images) wires)) wires
    → IsBehindWires images wires
behind_wires images wires apart fronts =
    let served = serves_an_agent images (heard_in wires) apart in
    record { served = served; taken = λ k. let front = fronts k in (front.0, sym (served.queued k) ∙ front.1) }

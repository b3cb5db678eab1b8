-- What the agent is once all that it tells is queued.
use Rattle.std.proofs.Common.{◌≡◌, ℕ, ◌-◌, ◌^◌, ◌==◌, Bool, true, false, cond, List, [], ◌∷◌, ◌++◌, Option, Some, None, refl, sym, ap, ◌∙◌, eqb-true}
use Rattle.std.specs.List.{AllByRecursion}
use Rattle.channel_core.specs.declared.held.Outgoing.{Outgoing}
use Rattle.agent_node.specs.Agent.{is_full}
use Rattle.agent_node.specs.AgentValue.{AgentValue}
use Rattle.agent_node.specs.Channels.{End, end_in}
use Rattle.agent_node.specs.Runs.{Call}
use Rattle.agent_node.proofs.Places.{found, place_found}
use Rattle.channel_list.specs.declared.channel.Channel.{Channel}
use Rattle.serving_wires.specs.Row.{Row}
use Rattle.serving_wires.specs.declared.intake.Came.{Came}
use Rattle.serving_wires.proofs.Coming.{ComesTo, comes_then}
use Rattle.agent_serving.specs.Gathering.{agent_emptied, all_gathered, emptied, gathered, queue_of, queue_on, sends}
use Rattle.agent_serving.proofs.Boxes.{entries}
use Rattle.agent_serving.proofs.CallLists.{run, run_more}
use Rattle.agent_serving.proofs.Doing.{emptied_does}
use Rattle.agent_serving.proofs.Queued.{changed_first, found_changed, in_first, mapped, none_queued}
use Rattle.agent_serving.proofs.Rooms.{boxes, kept_boxes}
use Rattle.agent_serving.proofs.Rows.{Lines}

-- ---- what a process that queues comes to

sends_come : (Q : AgentValue → Type 0) (k : ℕ) (outs : List Outgoing) (a : AgentValue) → Q a → ComesTo Q (sends k outs a)
sends_come Q k [] a so = so
sends_come Q k (out ∷ outs) a so = sends_come Q k outs a so

pub gathered_comes : (Q : AgentValue → Type 0) (k : ℕ) (a : AgentValue) → Q (agent_emptied k a) → ComesTo Q (gathered k a)
gathered_comes Q k a so = sends_come Q k (queue_on k a) (agent_emptied k a) so

-- with nothing left for any of these channels
abbrev pub all_emptied : Lines → AgentValue → AgentValue
all_emptied [] a = a
all_emptied (line ∷ lines) a = all_emptied lines (agent_emptied line.channel a)

pub all_come : (Q : AgentValue → Type 0) (lines : Lines) (a : AgentValue) → Q (all_emptied lines a) → ComesTo Q (all_gathered lines a)
all_come Q [] a so = so
all_come Q (line ∷ lines) a so =
    let Next : AgentValue → Type 0 = λ b. Q (all_emptied lines b) in
    comes_then Next Q (gathered line.channel a) (λ next. all_gathered lines next) (gathered_comes Next line.channel a so) (λ b now. all_come Q lines b now)

-- ---- that are calls of it

pub record IsRun (a b : AgentValue) : Type 0 where
  pub more : List Call
  pub is : b ≡ run more a

pub emptied_run : (k : ℕ) (a : AgentValue) → IsRun a (agent_emptied k a)
emptied_run k a = let d = emptied_does k (queue_on k a) a refl in record { more = d.more; is = d.agent }

pub run_then : (a b c : AgentValue) → IsRun a b → IsRun b c → IsRun a c
run_then a b c first second = record { more = first.more ++ second.more; is = second.is ∙ ap (run second.more) first.is ∙ sym (run_more first.more second.more a) }

pub all_run : (lines : Lines) (a : AgentValue) → IsRun a (all_emptied lines a)
all_run [] a = record { more = []; is = refl }
all_run (line ∷ lines) a = let next = agent_emptied line.channel a in run_then a next (all_emptied lines next) (emptied_run line.channel a) (all_run lines next)

-- ---- they leave what waits, the position and the target

pub record IsSame (a b : AgentValue) : Type 0 where
  pub waits : boxes b.channels ≡ boxes a.channels
  pub position : b.position ≡ a.position
  pub target : b.target ≡ a.target

pub emptied_same : (k : ℕ) (a : AgentValue) → IsSame a (agent_emptied k a)
emptied_same k a = record { waits = kept_boxes k emptied a.channels emptied_kept; position = refl; target = refl }
  where
    by_spent : (spent : Bool) (e : End) → entries (cond spent e (record e { queued = [] })) ≡ entries e
    by_spent true e = refl
    by_spent false e = refl

    emptied_kept : (e : End) → entries (emptied e) ≡ entries e
    emptied_kept e = by_spent e.is_spent e

pub all_same : (lines : Lines) (a : AgentValue) → IsSame a (all_emptied lines a)
all_same [] a = record { waits = refl; position = refl; target = refl }
all_same (line ∷ lines) a =
    let first = emptied_same line.channel a in
    let rest = all_same lines (agent_emptied line.channel a) in
    record { waits = rest.waits ∙ first.waits; position = rest.position ∙ first.position; target = rest.target ∙ first.target }

pub same_full : (a b : AgentValue) → IsSame a b → is_full b ≡ is_full a
same_full a b same = ap (λ (n : ℕ). n == 2 ^ 64 - 1) same.position

-- ---- nothing is left of it in the agent

found_other : (k j : ℕ) (change : End → End) (cs : List Channel) → (j == k) ≡ false → found k (in_first j change cs) ≡ found k cs
found_other k j change [] apart = refl
found_other k j change (c ∷ cs) apart = by_flag (c.number == j) refl (found_other k j change cs apart)
  where
    by_flag : (flag : Bool) → (c.number == j) ≡ flag → found k (in_first j change cs) ≡ found k cs
        → found k (cond flag (record c { end = change c.end } ∷ cs) (c ∷ in_first j change cs)) ≡ cond (c.number == k) (Some c) (found k cs)
    by_flag true is rest =
        let isnt : (c.number == k) ≡ false = ap (λ (n : ℕ). n == k) (eqb-true c.number j is) ∙ apart in
        ap (λ (b : Bool). cond b (Some (record c { end = change c.end })) (found k cs)) isnt ∙ sym (ap (λ (b : Bool). cond b (Some c) (found k cs)) isnt)
    by_flag false is rest = ap (λ (o : Option Channel). cond (c.number == k) (Some c) o) rest

queue_found : (k : ℕ) (a : AgentValue) → queue_on k a ≡ queue_of (end_in (found k a.channels))
queue_found k a = ap (λ (o : Option Channel). queue_of (end_in o)) (place_found k a.channels)

emptied_there : (there : Option Channel) → queue_of (end_in (mapped emptied there)) ≡ []
emptied_there None = refl
emptied_there (Some c) = none_queued c.end

emptied_told : (k : ℕ) (a : AgentValue) → queue_on k (agent_emptied k a) ≡ []
emptied_told k a =
    queue_found k (agent_emptied k a) ∙ ap (λ (cs : List Channel). queue_of (end_in (found k cs))) (changed_first k emptied a.channels)
    ∙ ap (λ (o : Option Channel). queue_of (end_in o)) (found_changed k emptied a.channels) ∙ emptied_there (found k a.channels)

stays_told : (k j : ℕ) (a : AgentValue) → queue_on k a ≡ [] → queue_on k (agent_emptied j a) ≡ []
stays_told k j a none = by_flag (j == k) refl
  where
    by_flag : (flag : Bool) → (j == k) ≡ flag → queue_on k (agent_emptied j a) ≡ []
    by_flag true is = ap (λ (n : ℕ). queue_on k (agent_emptied n a)) (eqb-true j k is) ∙ emptied_told k a
    by_flag false is =
        queue_found k (agent_emptied j a) ∙ ap (λ (cs : List Channel). queue_of (end_in (found k cs))) (changed_first j emptied a.channels)
        ∙ ap (λ (o : Option Channel). queue_of (end_in o)) (found_other k j emptied a.channels is) ∙ sym (queue_found k a) ∙ none

all_stay : (k : ℕ) (lines : Lines) (a : AgentValue) → queue_on k a ≡ [] → queue_on k (all_emptied lines a) ≡ []
all_stay k [] a none = none
all_stay k (line ∷ lines) a none = all_stay k lines (agent_emptied line.channel a) (stays_told k line.channel a none)

pub all_told : (lines : Lines) (a : AgentValue) → AllByRecursion (λ (line : Row (List Came)). queue_on line.channel (all_emptied lines a) ≡ []) lines
all_told [] a = tt
all_told (line ∷ lines) a = (all_stay line.channel lines (agent_emptied line.channel a) (emptied_told line.channel a), all_told lines (agent_emptied line.channel a))

-- Each put and each shutting of a flush is in its place, and on its wire.
use Rattle.std.proofs.Common.{◌≡◌, ℕ, ◌<◌, ◌⊎◌, inl, inr, Bool, true, false, ◌&&◌, List, [], ◌∷◌, ◌++◌, length, refl, sym, ap, ◌∙◌, subst, eq-eqb}
use Rattle.std.specs.Prelude.{fold, if◌then◌else◌}
use Rattle.std.specs.List.{list_all}
use Rattle.std.proofs.lemmas.List.Folds.{list_all-append}
use Rattle.std.proofs.lemmas.List.Sums.{fold-append}
use Rattle.tcf_wires.specs.Told.{taken_on}
use Rattle.tcf_wires.specs.declared.call.WireCall.{WireCall}
use Rattle.tcf_wires.specs.declared.call.WireCall.TheVariants.{Offered, Shut}
use Rattle.tcf_wires.specs.declared.event.Put.{Put}
use Rattle.serving_wires.specs.Calls.{events_in, put_on, shut_count}
use Rattle.serving_wires.specs.Following.{AreOn, Follows, is_on}
use Rattle.serving_wires.specs.Outbox.{Flushes, IsGivenUp, Puts, before_put, before_shut, is_due, lost as put_lost, none as put_none, nothing_left, taken as put_taken}
use Rattle.serving_wires.specs.OutboxValue.{OutboxValue}
use Rattle.serving_wires.specs.Serving.{EachBehind, IsInPlace, IsOffer, Nodes}
use Rattle.serving_wires.proofs.Carried.{put_channel}
use Rattle.serving_wires.proofs.Carrying.{due_parts, follows_put, not_lost, open_still}
use Rattle.serving_wires.proofs.Placing.{each_both, each_none, each_one}

offer : (nodes : Nodes) (all old : OutboxValue) (calls : List WireCall) → nodes.served (events_in calls) all.channel ≡ all.queued → 0 < length old.queued
    → Follows all old calls → IsOffer nodes all.channel old.queued calls
offer nodes all old calls served some f =
    let whole = not_lost old.is_lost all.queued (taken_on all.channel calls) old.queued f.split some in
    record {
      all = sym (served ∙ whole.1);
      some = some;
      kept = f.lost ∙ whole.0;
      open_still = f.shut ∙ ap (λ (b : Bool). if b then 1 else 0) (open_still all old calls f some);
    }

-- a put that offers all that is queued
put_there : (nodes : Nodes) (all old : OutboxValue) (calls more : List WireCall) (answer : Put) → nodes.served (events_in calls) all.channel ≡ all.queued → 0 < length old.queued
    → more ≡ Offered old.channel old.queued answer ∷ [] → Follows all old calls → EachBehind (IsInPlace nodes) calls more
put_there nodes all old calls more answer served some one f =
    let Fits = IsInPlace nodes in
    subst (λ (cs : List WireCall). EachBehind Fits calls cs) (sym one)
    (each_one Fits calls (Offered old.channel old.queued answer) (subst (λ (n : ℕ). IsOffer nodes n old.queued calls) (sym f.channel) (offer nodes all old calls served some f)))

put_in_place : (nodes : Nodes) (all old new : OutboxValue) (calls more : List WireCall) → nodes.served (events_in calls) all.channel ≡ all.queued
    → Follows all old calls → Puts old new more → EachBehind (IsInPlace nodes) calls more
put_in_place nodes all old new calls more served f (put_none nothing same no_calls) =
    subst (λ (cs : List WireCall). EachBehind (IsInPlace nodes) calls cs) (sym no_calls) (each_none (IsInPlace nodes) calls)
put_in_place nodes all old new calls more served f (put_taken count some within same one) = put_there nodes all old calls more _ served some one f
put_in_place nodes all old new calls more served f (put_lost some same one) = put_there nodes all old calls more _ served some one f

shut_by : (due : Bool) (nodes : Nodes) (all old : OutboxValue) (calls more : List WireCall) → is_due old ≡ due → more ≡ (if due then Shut old.channel ∷ [] else [])
    → Follows all old calls → EachBehind (IsInPlace nodes) calls more
shut_by true nodes all old calls more due one f =
    let none : shut_count all.channel calls ≡ 0 = f.shut ∙ ap (λ (b : Bool). if b then 1 else 0) (due_parts old.is_closed (nothing_left old) old.is_shut due).1 in
    subst (λ (cs : List WireCall). EachBehind (IsInPlace nodes) calls cs) (sym one)
    (each_one (IsInPlace nodes) calls (Shut old.channel) (subst (λ (n : ℕ). shut_count n calls ≡ 0) (sym f.channel) none))
shut_by false nodes all old calls more due one f = subst (λ (cs : List WireCall). EachBehind (IsInPlace nodes) calls cs) (sym one) (each_none (IsInPlace nodes) calls)

pub flush_in_place : (nodes : Nodes) (all old new : OutboxValue) (calls more : List WireCall) → nodes.served (events_in calls) all.channel ≡ all.queued
    → Follows all old calls → Flushes old new more → EachBehind (IsInPlace nodes) calls more
flush_in_place nodes all old new calls more served f s =
    subst (λ (cs : List WireCall). EachBehind (IsInPlace nodes) calls cs) (sym s.called)
    (each_both (IsInPlace nodes) calls s.puts s.shuts (put_in_place nodes all old s.mid calls s.puts served f s.put)
    (shut_by (is_due s.mid) nodes all s.mid (calls ++ s.puts) s.shuts refl s.shut.called (follows_put all old s.mid calls s.puts s.put f)))

pub give_up_in_place : (nodes : Nodes) (all old : OutboxValue) (calls more : List WireCall) → nodes.served (events_in calls) all.channel ≡ all.queued
    → Follows all old calls → IsGivenUp old more → EachBehind (IsInPlace nodes) calls more
give_up_in_place nodes all old calls more served f (before_put nothing) =
    subst (λ (cs : List WireCall). EachBehind (IsInPlace nodes) calls cs) (sym nothing) (each_none (IsInPlace nodes) calls)
give_up_in_place nodes all old calls more served f (before_shut mid put) = put_in_place nodes all old mid calls more served f put

-- ---- all calls are on the wire

one_on : (n : ℕ) (call : WireCall) (calls : List WireCall) → is_on n call ≡ true → calls ≡ call ∷ [] → AreOn n calls
one_on n call calls on one = ap (λ (cs : List WireCall). list_all (is_on n) cs) one ∙ ap (λ (b : Bool). b && true) on

none_on : (n : ℕ) (calls : List WireCall) → calls ≡ [] → AreOn n calls
none_on n calls nothing = ap (λ (cs : List WireCall). list_all (is_on n) cs) nothing

puts_on : (old new : OutboxValue) (calls : List WireCall) → Puts old new calls → AreOn old.channel calls
puts_on old new calls (put_none nothing same no_calls) = none_on old.channel calls no_calls
puts_on old new calls (put_taken count some within same one) = one_on old.channel _ calls (eq-eqb old.channel old.channel refl) one
puts_on old new calls (put_lost some same one) = one_on old.channel _ calls (eq-eqb old.channel old.channel refl) one

shuts_by : (due : Bool) (n : ℕ) (calls : List WireCall) → calls ≡ (if due then Shut n ∷ [] else []) → AreOn n calls
shuts_by true n calls one = one_on n _ calls (eq-eqb n n refl) one
shuts_by false n calls one = none_on n calls one

pub flush_on : (old new : OutboxValue) (calls : List WireCall) → Flushes old new calls → AreOn old.channel calls
flush_on old new calls s =
    let n = old.channel in
    let first : list_all (is_on n) s.puts ≡ true = puts_on old s.mid s.puts s.put in
    let rest : list_all (is_on n) s.shuts ≡ true = shuts_by (is_due s.mid) n s.shuts
    (subst (λ (m : ℕ). s.shuts ≡ (if is_due s.mid then Shut m ∷ [] else [])) (put_channel old s.mid s.puts s.put) s.shut.called) in
    ap (λ (cs : List WireCall). list_all (is_on n) cs) s.called ∙ list_all-append (is_on n) s.puts s.shuts
    ∙ ap (λ (b : Bool). b && list_all (is_on n) s.shuts) first ∙ rest

pub give_up_on : (old : OutboxValue) (calls : List WireCall) → IsGivenUp old calls → AreOn old.channel calls
give_up_on old calls (before_put nothing) = none_on old.channel calls nothing
give_up_on old calls (before_shut mid put) = puts_on old mid calls put

-- ---- of which one at most is a put

abbrev PutsOneAtMost : ℕ → List ℕ → List WireCall → Type 0
PutsOneAtMost n before calls = (fold put_on before calls ≡ before) ⊎ (fold put_on before calls ≡ before ++ n ∷ [])

puts_once : (old new : OutboxValue) (calls : List WireCall) (before : List ℕ) → Puts old new calls → PutsOneAtMost old.channel before calls
puts_once old new calls before (put_none nothing same no_calls) = inl (ap (λ (cs : List WireCall). fold put_on before cs) no_calls)
puts_once old new calls before (put_taken count some within same one) = inr (ap (λ (cs : List WireCall). fold put_on before cs) one)
puts_once old new calls before (put_lost some same one) = inr (ap (λ (cs : List WireCall). fold put_on before cs) one)

shuts_put_nothing : (due : Bool) (n : ℕ) (calls : List WireCall) (before : List ℕ) → calls ≡ (if due then Shut n ∷ [] else []) → fold put_on before calls ≡ before
shuts_put_nothing true n calls before one = ap (λ (cs : List WireCall). fold put_on before cs) one
shuts_put_nothing false n calls before one = ap (λ (cs : List WireCall). fold put_on before cs) one

then_shut : (n : ℕ) (before : List ℕ) (puts calls : List WireCall) → fold put_on before calls ≡ fold put_on before puts → PutsOneAtMost n before puts → PutsOneAtMost n before calls
then_shut n before puts calls same (inl none) = inl (same ∙ none)
then_shut n before puts calls same (inr one) = inr (same ∙ one)

pub flush_puts_once : (old new : OutboxValue) (calls : List WireCall) (before : List ℕ) → Flushes old new calls → PutsOneAtMost old.channel before calls
flush_puts_once old new calls before s =
    let same : fold put_on before calls ≡ fold put_on before s.puts =
    ap (λ (cs : List WireCall). fold put_on before cs) s.called ∙ fold-append put_on before s.puts s.shuts
    ∙ shuts_put_nothing (is_due s.mid) s.mid.channel s.shuts (fold put_on before s.puts) s.shut.called in
    then_shut old.channel before s.puts calls same (puts_once old s.mid s.puts before s.put)

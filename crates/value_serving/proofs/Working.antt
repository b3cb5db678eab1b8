-- A value-add on its way through an event: what is queued for its wires is what its sides gave out, and what came on them is what
-- they got and what waits.
use Rattle.std.proofs.Common.{◌≡◌, ℕ, zero, suc, ◌==◌, Bool, true, false, List, ◌∷◌, ◌++◌, Option, Some, None, refl, ap, ◌∙◌, subst}
use Rattle.std.specs.Prelude.{Ok, Err, if◌then◌else◌, option_map, option_to_list}
use Rattle.std.proofs.lemmas.Bool.{false≢true}
use Rattle.list_laws.proofs.Numbers.{other_number}
use Rattle.channel_core.specs.declared.taking.Taken.{Taken}
use Rattle.channel_core.specs.declared.taking.Taken.TheVariants as taken_as
use Rattle.channel_core.specs.Taking.{next_taken}
use Rattle.tcf_message.specs.Message.{MessageValue, command, reading}
use Rattle.tcf_message.specs.declared.message.MessageFault.{MessageFault}
use Rattle.std.specs.Prelude.{Result}
use Rattle.serving_wires.proofs.Rows.{found}
use Rattle.serving_wires.specs.Intake.{left_for, next_for}
use Rattle.serving_wires.specs.declared.intake.Came.{Came}
use Rattle.serving_wires.specs.declared.intake.Came.TheVariants.{Piece, End}
use Rattle.value_node.specs.ForwardedValue.{ForwardedValue}
use Rattle.value_node.specs.Own.{own_reply}
use Rattle.value_node.specs.Passing.{Upper}
use Rattle.value_node.specs.Runs.{Call, bytes_end, called, comes, fails, turns}
use Rattle.value_node.specs.Value.{answered as own_answered, asked, asked_in, awaits, is_free, takes_above, takes_below, took_any_above, took_any_below, turned, turned_above, turned_below, turned_on, with_lower}
use Rattle.value_node.specs.ValueValue.{ValueValue}
use Rattle.value_node.specs.declared.own.Own.{Own}
use Rattle.value_node.specs.declared.own.Own.TheVariants as own
use Rattle.value_node.specs.declared.relay.Relay.{Relay}
use Rattle.value_node.specs.declared.states.Bind.{Bind}
use Rattle.value_node.specs.declared.states.Bind.TheVariants.{Unbound, Opening, Bound, Closed}
use Rattle.value_node.specs.declared.states.Side.TheVariants.{Below, Above}
use Rattle.value_node.specs.declared.states.ValueTurn.{ValueTurn}
use Rattle.value_node.specs.declared.states.ValueTurn.TheVariants.{Nothing, Took, Connect}
use Rattle.value_serving.specs.Adds.{came_to, can_give, else_below, given_above, given_below, is_over, next_given, one_taken, waiting_on, with_node}
use Rattle.serving_wires.specs.Order.{leaves}
use Rattle.value_serving.specs.Passing.{after_giving, after_turn, answered, connected_on, count_of, given_so_many, leaving, passed_on, room_made, taken}
use Rattle.serving_wires.specs.Process.{Answer, Process, and_then, asks, done, tells}
use Rattle.value_serving.specs.Served.{Passed, bytes_of, nothing_passed, with_got}
use Rattle.value_serving.specs.Serving.{is_number}
use Rattle.serving_wires.proofs.Holding.{IsNew}
use Rattle.serving_wires.specs.Standing.{Wire, sent_with, unused_wire, wires_after, with_wire}
use Rattle.value_serving.specs.declared.add.Add.{Add}
use Rattle.value_serving.proofs.Making.{IsSilent, IsStill, Made, made_came, made_connected, made_still, over_is_free, silent_quiet, still_quiet}
use Rattle.serving_wires.proofs.Waiting.{next_and_left}
use Rattle.serving_wires.proofs.Wired.{OnWire, end_got, piece_got, wire_begins}
use Rattle.serving_wires.proofs.Wires.{Grows, Wires, found_push, grows_leaving, grows_wire, not_new, wire_other}
use Rattle.value_serving.proofs.Sparing.{Spares, spares_both}

-- ---- the wires of a value-add

abbrev pub SideOnWire : ℕ → Passed → List Came → Wires → Type 0
SideOnWire channel passed waiting sent = OnWire channel passed.got (bytes_of passed.gave) waiting sent

pub record IsUp (channel low : ℕ) (upper : Option Upper) (waiting : List Came) (high : Option Passed) (sent : Wires) : Type 0 where
  pub passed : Passed
  pub linked : high ≡ Some passed
  pub on : SideOnWire channel passed waiting sent
  pub silent : on.wire.is_closed ≡ true → IsSilent upper
  pub apart : (low == channel) ≡ false

abbrev pub UpWorks : Option ℕ → ℕ → Option Upper → List Came → Option Passed → Wires → Type 0
UpWorks None low upper waiting high sent = high ≡ None
UpWorks (Some channel) low upper waiting high sent = IsUp channel low upper waiting high sent

pub record Works (peer : List ℕ) (a : Add) (sent : Wires) : Type 0 where
  pub low : Passed
  pub high : Option Passed
  pub made : Made peer a.node low high
  pub lower : SideOnWire a.below low a.lower sent
  pub open_yet : lower.wire.is_closed ≡ false
  pub upper : UpWorks a.above a.below a.node.relay.upper a.upper high sent

up_silent : (up : Option ℕ) (low : ℕ) (one other : Option Upper) (waiting : List Came) (high : Option Passed) (sent : Wires) → (IsSilent one → IsSilent other) → UpWorks up low one waiting high sent
    → UpWorks up low other waiting high sent
up_silent None low one other waiting high sent so w = w
up_silent (Some channel) low one other waiting high sent so w =
    record { passed = w.passed; linked = w.linked; on = w.on; silent = λ shut. so (w.silent shut); apart = w.apart }

works_still : (peer : List ℕ) (call : Call) (a : Add) (sent : Wires) → IsStill call → Works peer a sent → Works peer (with_node (called call a.node) a) sent
works_still peer call a sent still w =
    record {
      low = w.low;
      high = w.high;
      made = made_still peer call a.node w.low w.high still w.made;
      lower = w.lower;
      open_yet = w.open_yet;
      upper = up_silent a.above a.below a.node.relay.upper (called call a.node).relay.upper a.upper w.high sent
          (λ old. silent_quiet peer call a.node w.low w.high (still_quiet call still) w.made old) w.upper;
    }

-- ---- what waits first comes to a side

works_below : (peer : List ℕ) (what : Came) (rest : List Came) (a : Add) (sent : Wires) → Works peer (record a { lower = what ∷ rest }) sent
    → Works peer (with_node (came_to Below what a.node) (record a { lower = rest })) sent
works_below peer (Piece bytes) rest a sent w =
    let call : Call = comes Below bytes None in
    record {
      low = with_got bytes w.low;
      high = w.high;
      made = made_came peer Below bytes a.node w.low w.high w.made;
      lower = piece_got a.below bytes w.low.got (bytes_of w.low.gave) rest sent w.lower;
      open_yet = w.open_yet;
      upper = up_silent a.above a.below a.node.relay.upper (called call a.node).relay.upper a.upper w.high sent (λ old. silent_quiet peer call a.node w.low w.high tt w.made old) w.upper;
    }
works_below peer End rest a sent w =
    works_still peer (bytes_end Below) (record a { lower = rest }) sent tt
    (record {
      low = w.low;
      high = w.high;
      made = w.made;
      lower = end_got a.below w.low.got (bytes_of w.low.gave) rest sent w.lower;
      open_yet = w.open_yet;
      upper = w.upper;
    })

up_got : (up : Option ℕ) (bytes : List ℕ) (rest : List Came) (low : ℕ) (one other : Option Upper) (high : Option Passed) (sent : Wires) → (IsSilent one → IsSilent other)
    → UpWorks up low one (Piece bytes ∷ rest) high sent → UpWorks up low other rest (option_map (with_got bytes) high) sent
up_got None bytes rest low one other high sent so w = ap (λ (s : Option Passed). option_map (with_got bytes) s) w
up_got (Some channel) bytes rest low one other high sent so w =
    record {
      passed = with_got bytes w.passed;
      linked = ap (λ (s : Option Passed). option_map (with_got bytes) s) w.linked;
      on = piece_got channel bytes w.passed.got (bytes_of w.passed.gave) rest sent w.on;
      silent = λ shut. so (w.silent shut);
      apart = w.apart;
    }

up_ended : (up : Option ℕ) (rest : List Came) (low : ℕ) (upper : Option Upper) (high : Option Passed) (sent : Wires) → UpWorks up low upper (End ∷ rest) high sent
    → UpWorks up low upper rest high sent
up_ended None rest low upper high sent w = w
up_ended (Some channel) rest low upper high sent w =
    record { passed = w.passed; linked = w.linked; on = end_got channel w.passed.got (bytes_of w.passed.gave) rest sent w.on; silent = w.silent; apart = w.apart }

works_above : (peer : List ℕ) (what : Came) (rest : List Came) (a : Add) (sent : Wires) → Works peer (record a { upper = what ∷ rest }) sent
    → Works peer (with_node (came_to Above what a.node) (record a { upper = rest })) sent
works_above peer (Piece bytes) rest a sent w =
    let call : Call = comes Above bytes None in
    record {
      low = w.low;
      high = option_map (with_got bytes) w.high;
      made = made_came peer Above bytes a.node w.low w.high w.made;
      lower = w.lower;
      open_yet = w.open_yet;
      upper = up_got a.above bytes rest a.below a.node.relay.upper (called call a.node).relay.upper w.high sent (λ old. silent_quiet peer call a.node w.low w.high tt w.made old) w.upper;
    }
works_above peer End rest a sent w =
    works_still peer (bytes_end Above) (record a { upper = rest }) sent tt
    (record {
      low = w.low;
      high = w.high;
      made = w.made;
      lower = w.lower;
      open_yet = w.open_yet;
      upper = up_ended a.above rest a.below a.node.relay.upper w.high sent w.upper;
    })

-- ---- a connection is made

abbrev left_with : Option ℕ → Wires → Wires
left_with None sent = sent
left_with (Some earlier) sent = sent_with (leaves earlier) sent

stays_there : (channel : ℕ) (wire : Wire) (up : Option ℕ) (sent : Wires) → is_number channel up ≡ false → found channel sent ≡ Some wire → found channel (left_with up sent) ≡ Some wire
stays_there channel wire None sent off is = is
stays_there channel wire (Some earlier) sent off is = wire_other (leaves earlier) channel sent off ∙ is

pub not_low : (up : Option ℕ) (low : ℕ) (upper : Option Upper) (waiting : List Came) (high : Option Passed) (sent : Wires) → UpWorks up low upper waiting high sent → is_number low up ≡ false
not_low None low upper waiting high sent w = refl
not_low (Some channel) low upper waiting high sent w = other_number low channel w.apart

not_up : (up : Option ℕ) (new low : ℕ) (upper : Option Upper) (waiting : List Came) (high : Option Passed) (sent : Wires) → found new sent ≡ None → UpWorks up low upper waiting high sent
    → is_number new up ≡ false
not_up None new low upper waiting high sent missing w = refl
not_up (Some channel) new low upper waiting high sent missing w = other_number new channel (not_new new channel sent w.on.wire missing w.on.there)

works_connected : (peer : List ℕ) (a : Add) (new : ℕ) (sent : Wires) → awaits a.node.relay ≡ true → found new sent ≡ None → Works peer a sent
    → Works peer (connected_on new a) (left_with a.above (with_wire new sent))
works_connected peer a new sent on missing w =
    let begins = wire_begins new sent missing in
    record {
      low = w.low;
      high = Some nothing_passed;
      made = made_connected peer a.node w.low w.high on w.made;
      lower = record {
        wire = w.lower.wire;
        there = stays_there a.below w.lower.wire a.above (with_wire new sent) (not_low a.above a.below a.node.relay.upper a.upper w.high sent w.upper)
            (found_push a.below sent _ w.lower.wire w.lower.there);
        queued = w.lower.queued;
        came = w.lower.came;
      };
      open_yet = w.open_yet;
      upper = record {
        passed = nothing_passed;
        linked = refl;
        on = record {
          wire = unused_wire;
          there = stays_there new unused_wire a.above (with_wire new sent) (not_up a.above new a.below a.node.relay.upper a.upper w.high sent missing w.upper) begins.there;
          queued = refl;
          came = refl;
        };
        silent = λ shut. absurd (false≢true shut);
        apart = other_number new a.below (not_new new a.below sent w.lower.wire missing w.lower.there);
      };
    }

spares_connected : (low new : ℕ) (up : Option ℕ) (sent : Wires) → found new sent ≡ None → Spares low up sent low (Some new) (left_with up (with_wire new sent))
spares_connected low new up sent missing = λ channel wire free is.
    (stays_there channel wire up (with_wire new sent) free.1 (found_push channel sent _ wire is), (free.0, not_new new channel sent wire missing is))

grows_left : (up : Option ℕ) (before later : Wires) → Grows before later → Grows before (left_with up later)
grows_left None before later g = g
grows_left (Some earlier) before later g = grows_leaving before later earlier g

-- ---- on its way

pub record OnItsWay (peer : List ℕ) (first : Add) (before : Wires) (a : Add) (sent : Wires) : Type 0 where
  pub works : Works peer a sent
  pub low_is : a.below ≡ first.below
  pub grows : Grows before sent
  pub spares : Spares first.below first.above before a.below a.above sent

-- whatever is answered, the process comes to this, and there is that where an answer is waited for
abbrev pub Leads : {A : Type 0} → (Wires → Type 0) → (A → Wires → Type 0) → Process A → Wires → Type 0
Leads M Q (done a) sent = Q a sent
Leads M Q (tells order p) sent = Leads M Q p (sent_with order sent)
Leads M Q (asks next) sent = M sent × ((answer : Answer) → IsNew answer sent → Leads M Q (next answer) (wires_after answer sent))

pub leads_then : {A B : Type 0} → (M : Wires → Type 0) (Q : A → Wires → Type 0) (R : B → Wires → Type 0) (p : Process A) (later : A → Process B) (sent : Wires) → Leads M Q p sent
    → ((a : A) (s : Wires) → Q a s → Leads M R (later a) s) → Leads M R (and_then p later) sent
leads_then M Q R (done a) later sent leads so = so a sent leads
leads_then M Q R (tells order p) later sent leads so = leads_then M Q R p later (sent_with order sent) leads so
leads_then M Q R (asks next) later sent leads so = (leads.0, λ answer new. leads_then M Q R (next answer) later (wires_after answer sent) (leads.1 answer new) so)

pub leads_weaker : {A : Type 0} → (M N : Wires → Type 0) (Q R : A → Wires → Type 0) (p : Process A) (sent : Wires) → ((s : Wires) → M s → N s) → ((a : A) (s : Wires) → Q a s → R a s)
    → Leads M Q p sent → Leads N R p sent
leads_weaker M N Q R (done a) sent mid so leads = so a sent leads
leads_weaker M N Q R (tells order p) sent mid so leads = leads_weaker M N Q R p (sent_with order sent) mid so leads
leads_weaker M N Q R (asks next) sent mid so leads = (mid sent leads.0, λ answer new. leads_weaker M N Q R (next answer) (wires_after answer sent) mid so (leads.1 answer new))

leads_leaving : {A : Type 0} → (M : Wires → Type 0) (Q : A → Wires → Type 0) (up : Option ℕ) (a : A) (sent : Wires) → Q a (left_with up sent) → Leads M Q (leaving up (done a)) sent
leads_leaving M Q None a sent so = so
leads_leaving M Q (Some earlier) a sent so = so

module _ (peer : List ℕ) (first : Add) (before : Wires) where
  abbrev Goes : Add → Wires → Type 0
  Goes a sent = OnItsWay peer first before a sent

  abbrev Comes : Process Add → Wires → Type 0
  Comes p sent = Leads (Grows before) Goes p sent

  still_goes : (call : Call) (a : Add) (sent : Wires) → IsStill call → Goes a sent → Goes (with_node (called call a.node) a) sent
  still_goes call a sent still g = record { works = works_still peer call a sent still g.works; low_is = g.low_is; grows = g.grows; spares = g.spares }

  answered_comes : (answer : Answer) (a : Add) (sent : Wires) → awaits a.node.relay ≡ true → IsNew answer sent → Goes a sent → Comes (answered answer a) (wires_after answer sent)
  answered_comes (Ok channel) a sent on new g =
      leads_leaving (Grows before) Goes a.above (connected_on channel a) (with_wire channel sent)
      (record {
        works = works_connected peer a channel sent on new g.works;
        low_is = g.low_is;
        grows = grows_left a.above before (with_wire channel sent) (grows_wire before sent channel g.grows);
        spares = spares_both first.below a.below a.below first.above a.above (Some channel) before sent (left_with a.above (with_wire channel sent)) g.spares (spares_connected a.below channel a.above sent new);
      })
  answered_comes (Err refusal) a sent on new g = still_goes fails a sent tt g

-- ---- a turn: a connection is asked for only where it is waited for

record TurnWorks (peer : List ℕ) (t : ValueTurn × ValueValue) (a : Add) (sent : Wires) : Type 0 where
  works : Works peer (with_node t.1 a) sent
  waits_so : t.0 ≡ Connect → awaits t.1.relay ≡ true

any_never : (what : Option (Taken ForwardedValue)) (v : Relay) → (took_any_above what v).0 ≡ Connect → ⊥
any_never None v is = absurd cc
any_never (Some what) v is = absurd cc

on_never : (upper : Option Upper) (v : Relay) → (turned_on upper v).0 ≡ Connect → ⊥
on_never None v is = absurd cc
on_never (Some e) v is = any_never (next_taken e).0 _ is

above_never : (v : Relay) → (turned_above v).0 ≡ Connect → ⊥
unfolding turned_above
above_never v = by_flag (takes_above v.bind)
  where
    by_flag : (flag : Bool) → (if flag then turned_on v.upper v else (Nothing, v)).0 ≡ Connect → ⊥
    by_flag true is = on_never v.upper v is
    by_flag false is = absurd cc

abbrev FreeWhenUnbound : Relay → Type 0
FreeWhenUnbound v = v.bind ≡ Unbound → is_free v.upper ≡ true

abbrev AwaitsIf : ValueTurn × Relay → Type 0
AwaitsIf t = t.0 ≡ Connect → awaits t.1 ≡ true

own_awaits : (token : List ℕ) (reply : Own) (v : Relay) → is_free v.upper ≡ true → AwaitsIf (own_answered token reply v)
own_awaits token own.Unknown v free = λ is. absurd cc
own_awaits token (own.Result body) v free = λ is. absurd cc
own_awaits token own.Connect v free = λ is. free

in_awaits : (bind : Bind) (token service name body : List ℕ) (mark : Option ℕ) (v : Relay) → v.bind ≡ bind → FreeWhenUnbound v → AwaitsIf (asked_in bind token service name body mark v)
in_awaits Unbound token service name body mark v is free = own_awaits token (own_reply v.peer service name body) v (free is)
in_awaits Opening token service name body mark v is free = λ so. absurd cc
in_awaits Bound token service name body mark v is free = λ so. absurd cc
in_awaits Closed token service name body mark v is free = λ so. absurd cc

asked_awaits : (m : Result MessageValue MessageFault) (mark : Option ℕ) (v : Relay) → FreeWhenUnbound v → AwaitsIf (asked m mark v)
asked_awaits (Ok (command token service name body)) mark v free = in_awaits v.bind token service name body mark v refl free
asked_awaits m mark v free = λ so. absurd cc

any_awaits : (what : Option (Taken Unit)) (v : Relay) → FreeWhenUnbound v → AwaitsIf (took_any_below what v)
any_awaits None v free = λ so. absurd cc
any_awaits (Some (taken_as.Hello incoming)) v free = λ so. absurd cc
any_awaits (Some (taken_as.Command incoming)) v free = asked_awaits (reading incoming.raw) incoming.mark v free
any_awaits (Some (taken_as.Event incoming)) v free = λ so. absurd cc
any_awaits (Some (taken_as.Progress token incoming)) v free = λ so. absurd cc
any_awaits (Some (taken_as.Final tag incoming)) v free = λ so. absurd cc
any_awaits (Some (taken_as.Closed cause)) v free = λ so. absurd cc

below_awaits : (v : Relay) → FreeWhenUnbound v → AwaitsIf (turned_below v)
unfolding turned_below
below_awaits v free = by_flag (takes_below v.bind v.upper)
  where
    by_flag : (flag : Bool) → AwaitsIf (if flag then took_any_below (next_taken v.lower).0 (with_lower (next_taken v.lower).1 v) else (Nothing, v))
    by_flag true = any_awaits (next_taken v.lower).0 (with_lower (next_taken v.lower).1 v) free
    by_flag false = λ is. absurd cc

turn_above : (peer : List ℕ) (a : Add) (sent : Wires) → Works peer a sent → TurnWorks peer (turned Above a.node) a sent
turn_above peer a sent w = record { works = works_still peer (turns Above) a sent tt w; waits_so = λ is. absurd (above_never a.node.relay is) }

turn_below : (peer : List ℕ) (a : Add) (sent : Wires) → Works peer a sent → TurnWorks peer (turned Below a.node) a sent
turn_below peer a sent w =
    record {
      works = works_still peer (turns Below) a sent tt w;
      waits_so = below_awaits a.node.relay (λ unbound. over_is_free peer a.node w.low w.high w.made (ap (is_over Above) unbound));
    }

else_works : (peer : List ℕ) (t : ValueTurn × ValueValue) (a : Add) (sent : Wires) → TurnWorks peer t a sent → TurnWorks peer (else_below t) a sent
else_works peer (Nothing, v) a sent t =
    let below = turn_below peer (with_node v a) sent t.works in record { works = below.works; waits_so = below.waits_so }
else_works peer (Took, v) a sent t = t
else_works peer (Connect, v) a sent t = t

one_works : (peer : List ℕ) (a : Add) (sent : Wires) → Works peer a sent → TurnWorks peer (one_taken a.node) a sent
unfolding one_taken
one_works peer a sent w = else_works peer (turned Above a.node) a sent (turn_above peer a sent w)

module _ (peer : List ℕ) (first : Add) (before : Wires) where
  abbrev Way : Add → Wires → Type 0
  Way a sent = OnItsWay peer first before a sent

  abbrev Ways : Process Add → Wires → Type 0
  Ways p sent = Leads (Grows before) Way p sent

  abbrev Follows : (Add → Process Add) → Type 0
  Follows later = (b : Add) (s : Wires) → Way b s → Ways (later b) s

  turn_comes : (t : ValueTurn × ValueValue) (a : Add) (later : Add → Process Add) (sent : Wires) → TurnWorks peer t a sent → a.below ≡ first.below → Grows before sent
      → Spares first.below first.above before a.below a.above sent → Follows later → Ways (after_turn t a later) sent
  turn_comes (Nothing, v) a later sent t low_is grows spares so = record { works = t.works; low_is = low_is; grows = grows; spares = spares }
  turn_comes (Took, v) a later sent t low_is grows spares so = so (with_node v a) sent (record { works = t.works; low_is = low_is; grows = grows; spares = spares })
  turn_comes (Connect, v) a later sent t low_is grows spares so =
      let b : Add = with_node v a in
      let g : Way b sent = record { works = t.works; low_is = low_is; grows = grows; spares = spares } in (
        grows,
        λ answer new.
            leads_then (Grows before) Way Way (answered answer b) later (wires_after answer sent) (answered_comes peer first before answer b sent (t.waits_so refl) new g) so,
      )

  unless_given : (flag : Bool) (count : ℕ) (a : Add) (sent : Wires) → Way a sent → Follows (λ next. taken count next)
      → Ways (if flag then done a else after_turn (one_taken a.node) a (λ next. taken count next)) sent
  unless_given true count a sent g so = g
  unless_given false count a sent g so =
      turn_comes (one_taken a.node) a (λ next. taken count next) sent (one_works peer a sent g.works) g.low_is g.grows g.spares so

  taken_comes : (count : ℕ) (a : Add) (sent : Wires) → Way a sent → Ways (taken count a) sent
  taken_comes zero a sent g = g
  taken_comes (suc count) a sent g = unless_given (can_give a) count a sent g (λ b s way. taken_comes count b s way)

  room_comes : (a : Add) (sent : Wires) → Way a sent → Ways (room_made a) sent
  unfolding room_made
  room_comes a sent g =
      leads_then (Grows before) Way Way (taken (waiting_on Above a) a) (λ next. taken (waiting_on Below a) next) sent (taken_comes (waiting_on Above a) a sent g)
      (λ b s way. taken_comes (waiting_on Below a) b s way)

  -- what waits first is given
  above_goes : (what : Option Came) (rest : List Came) (a : Add) (sent : Wires) → a.upper ≡ option_to_list what ++ rest → Way a sent
      → Way (given_above what (record a { upper = rest })).1 sent
  above_goes None rest a sent is g = subst (λ (waiting : List Came). Way (record a { upper = waiting }) sent) is g
  above_goes (Some what) rest a sent is g =
      record {
        works = works_above peer what rest a sent (subst (λ (waiting : List Came). Works peer (record a { upper = waiting }) sent) is g.works);
        low_is = g.low_is;
        grows = g.grows;
        spares = g.spares;
      }

  else_above : (a : Add) (sent : Wires) → Way a sent
      → Way (given_above (next_for (waiting_on Above a) a.upper) (record a { upper = left_for (waiting_on Above a) a.upper })).1 sent
  else_above a sent g = above_goes (next_for (waiting_on Above a) a.upper) (left_for (waiting_on Above a) a.upper) a sent (next_and_left (waiting_on Above a) a.upper) g

  below_goes : (what : Option Came) (rest : List Came) (a : Add) (sent : Wires) → a.lower ≡ option_to_list what ++ rest → Way a sent
      → Way (given_below what (record a { lower = rest })).1 sent
  below_goes None rest a sent is g = else_above (record a { lower = rest }) sent (subst (λ (waiting : List Came). Way (record a { lower = waiting }) sent) is g)
  below_goes (Some what) rest a sent is g =
      record {
        works = works_below peer what rest a sent (subst (λ (waiting : List Came). Works peer (record a { lower = waiting }) sent) is g.works);
        low_is = g.low_is;
        grows = g.grows;
        spares = g.spares;
      }

  given_goes : (a : Add) (sent : Wires) → Way a sent → Way (next_given a).1 sent
  unfolding next_given
  given_goes a sent g = below_goes (next_for (waiting_on Below a) a.lower) (left_for (waiting_on Below a) a.lower) a sent (next_and_left (waiting_on Below a) a.lower) g

  giving_comes : (g : Bool × Add) (later : Add → Process Add) (sent : Wires) → Way g.1 sent → Follows later → Ways (after_giving g later) sent
  giving_comes (false, a) later sent way so = way
  giving_comes (true, a) later sent way so = so a sent way

  so_many_come : (count : ℕ) (a : Add) (sent : Wires) → Way a sent → Ways (given_so_many count a) sent
  so_many_come zero a sent g = g
  so_many_come (suc count) a sent g =
      giving_comes (next_given a) (λ next. and_then (room_made next) (λ last. given_so_many count last)) sent (given_goes a sent g)
      (λ b s way. leads_then (Grows before) Way Way (room_made b) (λ last. given_so_many count last) s (room_comes b s way) (λ c r goes. so_many_come count c r goes))

  pub passed_comes : (a : Add) (sent : Wires) → Way a sent → Ways (passed_on a) sent
  unfolding passed_on
  passed_comes a sent g = so_many_come (count_of a) a sent g

-- Messages are taken until none can be, and what waits is given until nothing can be.
use Rattle.std.proofs.Common.{◌≡◌, ◌⊎◌, inl, inr, ℕ, zero, suc, ◌+◌, ◌<◌, ◌≤◌, Bool, true, false, List, [], ◌∷◌, length, nat_lt, Option, Some, None, refl, ap, sym, ◌∙◌, subst, arith}
use Rattle.std.specs.Prelude.{Ok, Err, ◌||◌, if◌then◌else◌, is_some, option_map}
use Rattle.std.specs.List.{AllByRecursion}
use Rattle.std.proofs.lemmas.Bool.{false≢true, ltb-true}
use Rattle.list_laws.proofs.AllLists.{all_push}
use Rattle.channel_laws.proofs.Entries.{all_counted, delivered_inbox, ended_inbox, entries, last_entry}
use Rattle.channel_core.specs.EndValue.{EndValue}
use Rattle.channel_core.specs.Receiving.{delivered, ended as end_ended, waiting_in}
use Rattle.serving_wires.specs.Intake.{left_for, next_for}
use Rattle.serving_wires.specs.declared.intake.Came.{Came}
use Rattle.serving_wires.specs.declared.intake.Came.TheVariants.{Piece, End}
use Rattle.value_node.specs.Passing.{Upper}
use Rattle.value_node.specs.Value.{connect_failed, ended_at, takes_below}
use Rattle.value_node.specs.ValueValue.{ValueValue}
use Rattle.value_node.specs.declared.relay.Relay.{Relay}
use Rattle.value_node.specs.declared.states.Bind.{Bind}
use Rattle.value_node.specs.declared.states.Bind.TheVariants.{Unbound, Opening, Bound, Closed}
use Rattle.value_node.specs.declared.states.Side.{Side}
use Rattle.value_node.specs.declared.states.Side.TheVariants.{Below, Above}
use Rattle.value_node.specs.declared.states.ValueTurn.{ValueTurn}
use Rattle.value_node.specs.declared.states.ValueTurn.TheVariants.{Nothing, Took, Connect}
use Rattle.value_serving.specs.Adds.{came_to, can_give, emptied, emptied_at, emptied_end, given_above, given_below, is_over, new_add, next_given, one_taken, waiting_on, waits, with_node}
use Rattle.value_serving.specs.Left.{NothingLeft}
use Rattle.value_serving.specs.Passing.{after_giving, after_turn, answered, closing, connected_on, count_of, gathered, given_so_many, heard, leaving, passed_on, room_made, sent_above, sent_on, taken}
use Rattle.serving_wires.specs.Process.{Answer, Process, and_then, done}
use Rattle.serving_wires.proofs.Coming.{ComesTo, comes_then, comes_weaker}
use Rattle.value_serving.specs.declared.add.Add.{Add}
use Rattle.value_serving.proofs.Idle.{IsIdle, OneTurn, Shrunk, connected_answered, failed_answered, high_entries, high_inbox, idle_turn, idles, one_turn, took, total}

-- ---- what waits are pieces of wires, and the inboxes hold no more than a count counts

abbrev pub Fits : Came → Type 0
Fits (Piece bytes) = length bytes ≤ 65536
Fits End = Unit {0}

pub record Fed (a : Add) : Type 0 where
  pub low_few : length a.node.relay.lower.inbox ≤ 65736
  pub high_few : high_inbox a.node.relay.upper ≤ 65736
  pub low_fit : AllByRecursion Fits a.lower
  pub high_fit : AllByRecursion Fits a.upper

low_counted : (a : Add) → Fed a → waiting_on Below a ≡ entries a.node.relay.lower
low_counted a fed = let last = last_entry a.node.relay.lower in all_counted a.node.relay.lower (omega (arith, last, fed.low_few))

high_counted_by : (upper : Option Upper) (v : Relay) → high_inbox upper ≤ 65736 → waiting_on Above (record { node = record { relay = record v { upper = upper }; is_spent = false }; below = 0; above = None; lower = []; upper = [] }) ≡ high_entries upper
high_counted_by None v few = refl
high_counted_by (Some e) v few = let last = last_entry e in all_counted e (omega (arith, last, few))

high_counted : (a : Add) → Fed a → waiting_on Above a ≡ high_entries a.node.relay.upper
high_counted a fed = high_counted_by a.node.relay.upper a.node.relay fed.high_few

-- ---- turns

abbrev Ready : Add → Type 0
Ready a = (can_give a ≡ true) ⊎ IsIdle a.node.relay

-- after so many turns, or as many as there could be
record Taking (most count waiting : ℕ) (b : Add) : Type 0 where
  fed : Fed b
  fewer : count_of b ≤ waiting
  post : (can_give b ≡ true) ⊎ (IsIdle b.node.relay ⊎ (total b.node.relay + count ≤ most))

one_later : (most next count waiting : ℕ) (b : Add) → next < most → Taking next count waiting b → Taking most (suc count) waiting b
one_later most next count waiting b less t = record { fed = t.fed; fewer = t.fewer; post = by_post t.post }
  where
    by_post : ((can_give b ≡ true) ⊎ (IsIdle b.node.relay ⊎ (total b.node.relay + count ≤ next))) → (can_give b ≡ true) ⊎ (IsIdle b.node.relay ⊎ (total b.node.relay + suc count ≤ most))
    by_post (inl gives) = inl gives
    by_post (inr (inl idle)) = inr (inl idle)
    by_post (inr (inr few)) = inr (inr (omega (arith, few, less)))

record Took1 (most waiting : ℕ) (b : Add) : Type 0 where
  fed : Fed b
  fewer : count_of b ≤ waiting
  few : total b.node.relay ≤ most

fed_with : (v : ValueValue) (a : Add) → Shrunk a.node.relay v.relay → Fed a → Fed (with_node v a)
fed_with v a shrunk fed = record { low_few = omega (arith, shrunk.0, fed.low_few); high_few = omega (arith, shrunk.1, fed.high_few); low_fit = fed.low_fit; high_fit = fed.high_fit }

leaving_comes : (Q : Add → Type 0) (up : Option ℕ) (a : Add) → Q a → ComesTo Q (leaving up (done a))
leaving_comes Q None a q = q
leaving_comes Q (Some earlier) a q = q

answered_comes : (answer : Answer) (most waiting : ℕ) (a : Add) → Took1 most waiting a → ComesTo (Took1 most waiting) (answered answer a)
answered_comes (Ok channel) most waiting a t =
    let n = connected_answered a.node in
    leaving_comes (Took1 most waiting) a.above (connected_on channel a)
    (record {
      fed = record { low_few = omega (arith, n.shrunk.0, t.fed.low_few); high_few = omega (arith, n.shrunk.1, t.fed.high_few); low_fit = t.fed.low_fit; high_fit = tt };
      fewer = omega (arith, t.fewer);
      few = omega (arith, n.fewer, t.few);
    })
answered_comes (Err refusal) most waiting a t =
    let n = failed_answered a.node in record { fed = fed_with (connect_failed a.node) a n.shrunk t.fed; fewer = t.fewer; few = omega (arith, n.fewer, t.few) }

same_node : (v w : ValueValue) (turn : ValueTurn) → ◌≡◌ {A = ValueTurn × ValueValue} (turn, w) (Nothing, v) → w ≡ v
same_node v w turn is = ap (λ (t : ValueTurn × ValueValue). t.1) is

same_turn : (v w : ValueValue) (turn : ValueTurn) → ◌≡◌ {A = ValueTurn × ValueValue} (turn, v) (Nothing, w) → turn ≡ Nothing
same_turn v w turn is = ap (λ (t : ValueTurn × ValueValue). t.0) is

took_something : Took ≡ Nothing → ⊥
took_something is = cc

connect_something : Connect ≡ Nothing → ⊥
connect_something is = cc

turn_comes : (most count waiting : ℕ) (a : Add) (t : ValueTurn × ValueValue) (later : Add → Process Add) → OneTurn a.node t → Fed a → count_of a ≤ waiting → total a.node.relay ≤ most
    → ((next : ℕ) (b : Add) → Took1 next waiting b → ComesTo (Taking next count waiting) (later b)) → ComesTo (Taking most (suc count) waiting) (after_turn t a later)
turn_comes most count waiting a (Nothing, v) later (idles eq idle) fed fewer few so =
    let same : v ≡ a.node = same_node a.node v Nothing eq in
    subst (λ (w : ValueValue). Taking most (suc count) waiting (with_node w a)) (sym same) (record { fed = fed; fewer = fewer; post = inr (inl idle) })
turn_comes most count waiting a (Nothing, v) later (took something busy less shrunk) fed fewer few so = absurd (something refl)
turn_comes most count waiting a (Took, v) later (idles eq idle) fed fewer few so = absurd (took_something (same_turn v a.node Took eq))
turn_comes most count waiting a (Took, v) later (took something busy less shrunk) fed fewer few so =
    comes_weaker (Taking (total v.relay) count waiting) (Taking most (suc count) waiting) (later (with_node v a))
    (λ b t. one_later most (total v.relay) count waiting b (omega (arith, less, few)) t)
    (so (total v.relay) (with_node v a) (record { fed = fed_with v a shrunk fed; fewer = fewer; few = omega arith }))
turn_comes most count waiting a (Connect, v) later (idles eq idle) fed fewer few so = absurd (connect_something (same_turn v a.node Connect eq))
turn_comes most count waiting a (Connect, v) later (took something busy less shrunk) fed fewer few so = λ answer.
    comes_then (Took1 (total v.relay) waiting) (Taking most (suc count) waiting) (answered answer (with_node v a)) later
    (answered_comes answer (total v.relay) waiting (with_node v a) (record { fed = fed_with v a shrunk fed; fewer = fewer; few = omega arith }))
    (λ b t1.
    comes_weaker (Taking (total v.relay) count waiting) (Taking most (suc count) waiting) (later b) (λ c t. one_later most (total v.relay) count waiting c (omega (arith, less, few)) t)
    (so (total v.relay) b t1))

unless_given : (flag : Bool) (count most waiting : ℕ) (a : Add) → can_give a ≡ flag → Took1 most waiting a
    → ((next : ℕ) (b : Add) → Took1 next waiting b → ComesTo (Taking next count waiting) (taken count b))
    → ComesTo (Taking most (suc count) waiting) (if flag then done a else after_turn (one_taken a.node) a (λ next. taken count next))
unless_given true count most waiting a is t so = record { fed = t.fed; fewer = t.fewer; post = inl is }
unless_given false count most waiting a is t so = turn_comes most count waiting a (one_taken a.node) (λ next. taken count next) (one_turn a.node) t.fed t.fewer t.few so

taken_comes : (count most waiting : ℕ) (a : Add) → Took1 most waiting a → ComesTo (Taking most count waiting) (taken count a)
taken_comes zero most waiting a t = record { fed = t.fed; fewer = t.fewer; post = inr (inr (omega (arith, t.few))) }
taken_comes (suc count) most waiting a t = unless_given (can_give a) count most waiting a refl t (λ next b t1. taken_comes count next waiting b t1)

-- ---- where something can be given, or nothing may be taken, nothing is

record Roomy (waiting : ℕ) (b : Add) : Type 0 where
  fed : Fed b
  fewer : count_of b ≤ waiting
  ready : Ready b

rest_roomy : (count waiting : ℕ) (a : Add) → Roomy waiting a → ComesTo (Roomy waiting) (taken count a)
rest_roomy zero waiting a r = r
rest_roomy (suc count) waiting a r = by_flag (can_give a) refl r.ready
  where
    idle_rests : IsIdle a.node.relay → ComesTo (Roomy waiting) (after_turn (one_taken a.node) a (λ next. taken count next))
    idle_rests idle = subst (λ (t : ValueTurn × ValueValue). ComesTo (Roomy waiting) (after_turn t a (λ next. taken count next))) (sym (idle_turn a.node idle)) r

    by_flag : (flag : Bool) → can_give a ≡ flag → Ready a → ComesTo (Roomy waiting) (if flag then done a else after_turn (one_taken a.node) a (λ next. taken count next))
    by_flag true is ready = r
    by_flag false is (inl gives) = absurd (false≢true (sym is ∙ gives))
    by_flag false is (inr idle) = idle_rests idle

empty_idle : (a : Add) → total a.node.relay ≡ 0 → IsIdle a.node.relay
empty_idle a none = (λ on. omega (arith, none), λ on. omega (arith, none))

taking_roomy : (most count waiting : ℕ) (b : Add) → most ≤ count → Taking most count waiting b → Roomy waiting b
taking_roomy most count waiting b all t = record { fed = t.fed; fewer = t.fewer; ready = by_post t.post }
  where
    by_post : ((can_give b ≡ true) ⊎ (IsIdle b.node.relay ⊎ (total b.node.relay + count ≤ most))) → Ready b
    by_post (inl gives) = inl gives
    by_post (inr (inl idle)) = inr idle
    by_post (inr (inr few)) = inr (empty_idle b (omega (arith, few, all)))

second_comes : (most first second waiting : ℕ) (b : Add) → most ≤ first + second → Taking most first waiting b → ComesTo (Roomy waiting) (taken second b)
second_comes most first second waiting b all t = by_post t.post
  where
    by_post : ((can_give b ≡ true) ⊎ (IsIdle b.node.relay ⊎ (total b.node.relay + first ≤ most))) → ComesTo (Roomy waiting) (taken second b)
    by_post (inl gives) = rest_roomy second waiting b (record { fed = t.fed; fewer = t.fewer; ready = inl gives })
    by_post (inr (inl idle)) = rest_roomy second waiting b (record { fed = t.fed; fewer = t.fewer; ready = inr idle })
    by_post (inr (inr few)) =
        comes_weaker (Taking (total b.node.relay) second waiting) (Roomy waiting) (taken second b)
        (λ c u. taking_roomy (total b.node.relay) second waiting c (omega (arith, few, all)) u)
        (taken_comes second (total b.node.relay) waiting b (record { fed = t.fed; fewer = t.fewer; few = omega arith }))

room_comes : (a : Add) → Fed a → ComesTo (Roomy (count_of a)) (room_made a)
unfolding room_made
room_comes a fed =
    let low = low_counted a fed in
    let high = high_counted a fed in
    comes_then (Taking (total a.node.relay) (waiting_on Above a) (count_of a)) (Roomy (count_of a)) (taken (waiting_on Above a) a) (λ next. taken (waiting_on Below a) next)
    (taken_comes (waiting_on Above a) (total a.node.relay) (count_of a) a (record { fed = fed; fewer = omega arith; few = omega arith }))
    (λ b t. second_comes (total a.node.relay) (waiting_on Above a) (waiting_on Below a) (count_of a) b (omega (arith, low, high)) t)

-- ---- what waits first

abbrev HasRoom : ℕ → Came → Type 0
HasRoom inbox (Piece bytes) = inbox < 200
HasRoom inbox End = Unit {0}

data NextOf (inbox : ℕ) (list : List Came) : Type 0 where
  none_is : next_for inbox list ≡ None → left_for inbox list ≡ list → NextOf inbox list
  one_is : (what : Came) (later : List Came) → next_for inbox list ≡ Some what → left_for inbox list ≡ later → list ≡ what ∷ later → HasRoom inbox what → NextOf inbox list

next_of_list : (inbox : ℕ) (list : List Came) → NextOf inbox list
next_of_list inbox [] = none_is refl refl
next_of_list inbox (Piece bytes ∷ later) = by_flag (nat_lt inbox 200) refl
  where
    by_flag : (flag : Bool) → nat_lt inbox 200 ≡ flag → NextOf inbox (Piece bytes ∷ later)
    by_flag true is =
        one_is (Piece bytes) later (ap (λ (b : Bool). if b then Some (Piece bytes) else None) is) (ap (λ (b : Bool). if b then later else Piece bytes ∷ later) is) refl (ltb-true inbox 200 is)
    by_flag false is = none_is (ap (λ (b : Bool). if b then Some (Piece bytes) else None) is) (ap (λ (b : Bool). if b then later else Piece bytes ∷ later) is)
next_of_list inbox (End ∷ later) = one_is End later refl refl refl tt

-- it is given

came_small : {T : Type 0} → (bytes : List ℕ) (mark : Option ℕ) (e : EndValue T) → length bytes ≤ 65536 → waiting_in e < 200 → length (delivered bytes mark e).inbox ≤ 65736
came_small bytes mark e fits room = let most = delivered_inbox bytes mark e in omega (arith, most, fits, room)

fed_low : (what : Came) (later : List Came) (a : Add) → Fits what → HasRoom (waiting_on Below a) what → AllByRecursion Fits later → Fed a
    → Fed (with_node (came_to Below what a.node) (record a { lower = later }))
fed_low (Piece bytes) later a fits room rest fed =
    record { low_few = came_small bytes None a.node.relay.lower fits room; high_few = fed.high_few; low_fit = rest; high_fit = fed.high_fit }
fed_low End later a fits room rest fed = by_spent a.node.is_spent
  where
    by_spent : (spent : Bool) → Fed (with_node (if spent then a.node else record a.node { relay = ended_at Below a.node.relay }) (record a { lower = later }))
    by_spent true = record { low_few = fed.low_few; high_few = fed.high_few; low_fit = rest; high_fit = fed.high_fit }
    by_spent false =
        let same = ap length (ended_inbox a.node.relay.lower) in
        record { low_few = omega (arith, same, fed.low_few); high_few = fed.high_few; low_fit = rest; high_fit = fed.high_fit }

high_came : (bytes : List ℕ) (upper : Option Upper) (v : Relay) → length bytes ≤ 65536
    → waiting_on Above (record { node = record { relay = record v { upper = upper }; is_spent = false }; below = 0; above = None; lower = []; upper = [] }) < 200
    → high_inbox (option_map (delivered bytes None) upper) ≤ 65736
high_came bytes None v fits room = omega arith
high_came bytes (Some e) v fits room = came_small bytes None e fits room

high_ended : (upper : Option Upper) → high_inbox (option_map end_ended upper) ≡ high_inbox upper
high_ended None = refl
high_ended (Some e) = ap length (ended_inbox e)

fed_high : (what : Came) (later : List Came) (a : Add) → Fits what → HasRoom (waiting_on Above a) what → AllByRecursion Fits later → Fed a
    → Fed (with_node (came_to Above what a.node) (record a { upper = later }))
fed_high (Piece bytes) later a fits room rest fed =
    record { low_few = fed.low_few; high_few = high_came bytes a.node.relay.upper a.node.relay fits room; low_fit = fed.low_fit; high_fit = rest }
fed_high End later a fits room rest fed = by_spent a.node.is_spent
  where
    by_spent : (spent : Bool) → Fed (with_node (if spent then a.node else record a.node { relay = ended_at Above a.node.relay }) (record a { upper = later }))
    by_spent true = record { low_few = fed.low_few; high_few = fed.high_few; low_fit = fed.low_fit; high_fit = rest }
    by_spent false =
        let same = high_ended a.node.relay.upper in
        record { low_few = fed.low_few; high_few = omega (arith, same, fed.high_few); low_fit = fed.low_fit; high_fit = rest }

data NextGiven (a : Add) : Type 0 where
  nothing : next_given a ≡ (false, a) → can_give a ≡ false → NextGiven a
  something : (b : Add) → next_given a ≡ (true, b) → Fed b → count_of b < count_of a → NextGiven a

given_is : (a : Add) → next_given a ≡ given_below (next_for (waiting_on Below a) a.lower) (record a { lower = left_for (waiting_on Below a) a.lower })
unfolding next_given
given_is a = refl

can_is : (a : Add) → can_give a ≡ (is_some (next_for (waiting_on Below a) a.lower) || is_some (next_for (waiting_on Above a) a.upper))
unfolding can_give
can_is a = refl

below_given : (a : Add) (what : Option Came) (left : List Came) → next_for (waiting_on Below a) a.lower ≡ what → left_for (waiting_on Below a) a.lower ≡ left
    → next_given a ≡ given_below what (record a { lower = left })
below_given a what left next rest =
    given_is a ∙ ap (λ (o : Option Came). given_below o (record a { lower = left_for (waiting_on Below a) a.lower })) next ∙ ap (λ (l : List Came). given_below what (record a { lower = l })) rest

above_given : (a : Add) (what : Option Came) (left : List Came) → next_for (waiting_on Above a) a.upper ≡ what → left_for (waiting_on Above a) a.upper ≡ left
    → given_below None a ≡ given_above what (record a { upper = left })
above_given a what left next rest =
    ap (λ (o : Option Came). given_above o (record a { upper = left_for (waiting_on Above a) a.upper })) next ∙ ap (λ (l : List Came). given_above what (record a { upper = l })) rest

parts_fit : (list : List Came) (what : Came) (later : List Came) → list ≡ what ∷ later → AllByRecursion Fits list → Fits what × AllByRecursion Fits later
parts_fit list what later is all = subst (AllByRecursion Fits) is all

high_given : (a : Add) → Fed a → next_for (waiting_on Below a) a.lower ≡ None → left_for (waiting_on Below a) a.lower ≡ a.lower → NextOf (waiting_on Above a) a.upper → NextGiven a
high_given a fed none stays (none_is next left) =
    nothing (below_given a None a.lower none stays ∙ above_given a None a.upper next left)
    (can_is a ∙ ap (λ (o : Option Came). is_some o || is_some (next_for (waiting_on Above a) a.upper)) none ∙ ap (λ (o : Option Came). is_some o) next)
high_given a fed none stays (one_is what later next left whole room) =
    let parts = parts_fit a.upper what later whole fed.high_fit in
    let one = ap (λ (list : List Came). length list) whole in
    something (with_node (came_to Above what a.node) (record a { upper = later })) (below_given a None a.lower none stays ∙ above_given a (Some what) later next left)
    (fed_high what later a parts.0 room parts.1 fed) (omega (arith, one))

low_given : (a : Add) → Fed a → NextOf (waiting_on Below a) a.lower → NextGiven a
low_given a fed (none_is next left) = high_given a fed next left (next_of_list (waiting_on Above a) a.upper)
low_given a fed (one_is what later next left whole room) =
    let parts = parts_fit a.lower what later whole fed.low_fit in
    let one = ap (λ (list : List Came). length list) whole in
    something (with_node (came_to Below what a.node) (record a { lower = later })) (below_given a (Some what) later next left)
    (fed_low what later a parts.0 room parts.1 fed) (omega (arith, one))

next_is_given : (a : Add) → Fed a → NextGiven a
next_is_given a fed = low_given a fed (next_of_list (waiting_on Below a) a.lower)

-- ---- so until nothing is left

pub record Good (a : Add) : Type 0 where
  pub fed : Fed a
  pub idle : IsIdle a.node.relay
  pub ungiven : can_give a ≡ false

good_when : (a : Add) → Fed a → Ready a → can_give a ≡ false → Good a
good_when a fed (inl gives) full = absurd (false≢true (sym full ∙ gives))
good_when a fed (inr idle) full = record { fed = fed; idle = idle; ungiven = full }

giving_comes : (count : ℕ) (a : Add) → Fed a → Ready a → count_of a ≤ suc count → NextGiven a
    → ((b : Add) → Fed b → count_of b ≤ count → ComesTo Good (and_then (room_made b) (λ last. given_so_many count last)))
    → ComesTo Good (after_giving (next_given a) (λ next. and_then (room_made next) (λ last. given_so_many count last)))
giving_comes count a fed ready few (nothing eq full) so =
    subst (λ (g : Bool × Add). ComesTo Good (after_giving g (λ next. and_then (room_made next) (λ last. given_so_many count last)))) (sym eq) (good_when a fed ready full)
giving_comes count a fed ready few (something b eq fed_then less) so =
    subst (λ (g : Bool × Add). ComesTo Good (after_giving g (λ next. and_then (room_made next) (λ last. given_so_many count last)))) (sym eq) (so b fed_then (omega (arith, less, few)))

none_can : (a : Add) → NextGiven a → count_of a ≡ 0 → can_give a ≡ false
none_can a (nothing eq full) none = full
none_can a (something b eq fed less) none = absurd (omega (arith, less, none))

so_many_come : (count : ℕ) (a : Add) → Fed a → Ready a → count_of a ≤ count → ComesTo Good (given_so_many count a)
so_many_come zero a fed ready few = good_when a fed ready (none_can a (next_is_given a fed) (omega (arith, few)))
so_many_come (suc count) a fed ready few =
    giving_comes count a fed ready few (next_is_given a fed)
    (λ b fed_then fewer.
    comes_then (Roomy (count_of b)) Good (room_made b) (λ last. given_so_many count last) (room_comes b fed_then)
    (λ c roomy. so_many_come count c roomy.fed roomy.ready (omega (arith, roomy.fewer, fewer))))

pub passed_comes : (a : Add) → Fed a → IsIdle a.node.relay → ComesTo Good (passed_on a)
unfolding passed_on
passed_comes a fed idle = so_many_come (count_of a) a fed (inr idle) (omega arith)

-- ---- what is queued leaves all as it is

-- the value-add with this upper end
abbrev with_up : Option Upper → Add → Add
with_up upper a = record a { node = record a.node { relay = record a.node.relay { upper = upper } } }

takes_same : (bind : Bind) (e : Upper) → takes_below bind (Some (emptied_end e)) ≡ takes_below bind (Some e)
takes_same Unbound e = refl
takes_same Opening e = refl
takes_same Bound e = refl
takes_same Closed e = refl

good_with_up : (upper : Option Upper) (a : Add) → Good (with_up upper a) → Good (with_up (option_map emptied_end upper) a)
good_with_up None a g = g
good_with_up (Some e) a g =
    let b = with_up (Some e) a in
    let c = with_up (Some (emptied_end e)) a in
    record {
      fed = record { low_few = g.fed.low_few; high_few = g.fed.high_few; low_fit = g.fed.low_fit; high_fit = g.fed.high_fit };
      idle = (g.idle.0, λ on. g.idle.1 (sym (takes_same a.node.relay.bind e) ∙ on));
      ungiven = can_is c ∙ sym (can_is b) ∙ g.ungiven;
    }

good_with_low : (a : Add) → Good a → Good (record a { node = record a.node { relay = emptied_at Below a.node.relay } })
good_with_low a g =
    let c : Add = record a { node = record a.node { relay = emptied_at Below a.node.relay } } in
    record {
      fed = record { low_few = g.fed.low_few; high_few = g.fed.high_few; low_fit = g.fed.low_fit; high_fit = g.fed.high_fit };
      idle = (g.idle.0, g.idle.1);
      ungiven = can_is c ∙ sym (can_is a) ∙ g.ungiven;
    }

emptied_is : (side : Side) (v : ValueValue) → emptied side v ≡ (if v.is_spent then v else record v { relay = emptied_at side v.relay })
unfolding emptied
emptied_is side v = refl

good_by : (spent : Bool) (side : Side) (a : Add) → Good a → Good (with_node (if spent then a.node else record a.node { relay = emptied_at side a.node.relay }) a)
good_by true side a g = g
good_by false Below a g = good_with_low a g
good_by false Above a g = good_with_up a.node.relay.upper a g

good_emptied : (side : Side) (a : Add) → Good a → Good (with_node (emptied side a.node) a)
good_emptied side a g = subst (λ (v : ValueValue). Good (with_node v a)) (sym (emptied_is side a.node)) (good_by a.node.is_spent side a g)

closing_comes : (flag : Bool) (channel : ℕ) (a : Add) → Good a → ComesTo Good (closing flag channel (done a))
closing_comes true channel a g = g
closing_comes false channel a g = g

sent_comes : (side : Side) (channel : ℕ) (a : Add) → Good a → ComesTo Good (sent_on side channel a)
sent_comes side channel a g = closing_comes (is_over side a.node.relay.bind) channel (with_node (emptied side a.node) a) (good_emptied side a g)

above_comes : (up : Option ℕ) (a : Add) → Good a → ComesTo Good (sent_above up a)
above_comes None a g = g
above_comes (Some channel) a g = sent_comes Above channel a g

pub gathered_comes : (a : Add) → Good a → ComesTo Good (gathered a)
unfolding gathered
gathered_comes a g = comes_then Good Good (sent_on Below a.below a) (λ next. sent_above next.above next) (sent_comes Below a.below a g) (λ b good. above_comes b.above b good)

-- ---- something comes on a side, and a connection comes

fed_waiting : (side : Side) (what : Came) (a : Add) → Fits what → Good a → ComesTo Good (passed_on (waits side what a))
fed_waiting Below what a fits g =
    passed_comes (waits Below what a)
    (record { low_few = g.fed.low_few; high_few = g.fed.high_few; low_fit = all_push Fits a.lower what g.fed.low_fit fits; high_fit = g.fed.high_fit }) g.idle
fed_waiting Above what a fits g =
    passed_comes (waits Above what a)
    (record { low_few = g.fed.low_few; high_few = g.fed.high_few; low_fit = g.fed.low_fit; high_fit = all_push Fits a.upper what g.fed.high_fit fits }) g.idle

pub heard_comes : (side : Side) (what : Came) (a : Add) → Fits what → Good a → ComesTo Good (heard side what a)
unfolding heard
heard_comes side what a fits g = comes_then Good Good (passed_on (waits side what a)) gathered (fed_waiting side what a fits g) (λ b good. gathered_comes b good)

pub new_good : (peer : List ℕ) (channel : ℕ) → Good (new_add peer channel)
new_good peer channel =
    record {
      fed = record { low_few = omega arith; high_few = omega arith; low_fit = tt; high_fit = tt };
      idle = (λ on. refl, λ on. refl);
      ungiven = can_is (new_add peer channel);
    }

pub good_left : (a : Add) → Good a → NothingLeft a
good_left a g =
    record {
      untaken = ap (λ (t : ValueTurn × ValueValue). t.0) (idle_turn a.node g.idle);
      ungiven = g.ungiven;
      above = λ on. high_counted a g.fed ∙ g.idle.0 on;
      below = λ on. low_counted a g.fed ∙ g.idle.1 on;
    }

-- The entries that wait on the channels of an agent, and how many of them pass.
use Rattle.std.proofs.Common.{◌≡◌, ℕ, zero, suc, ◌+◌, ◌-◌, ◌≤◌, ◌<◌, ◌^◌, ◌==◌, ◌⊎◌, inl, inr, Bool, true, false, cond, List, [], ◌∷◌, length, map, Option, Some, None, Result, Ok, Err, refl, sym, ap, ◌∙◌, subst, arith, eqb-true, lt-ltb}
use Rattle.std.specs.Prelude.{min, slice_get}
use Rattle.std.specs.List.{AllByRecursion}
use Rattle.std.proofs.Math.Nat.{min-eq_left, min-le_left}
use Rattle.std.proofs.lemmas.Bool.{false≢true}
use Rattle.channel_core.specs.EndValue.{unless_spent}
use Rattle.channel_core.specs.Receiving.{delivered as end_delivered, ended as end_ended}
use Rattle.channel_core.specs.Sending.{queued}
use Rattle.channel_core.specs.declared.taking.Taken.{Taken}
use Rattle.channel_core.specs.declared.taking.Taken.TheVariants as taken
use Rattle.list_laws.proofs.Flags.{not_both}
use Rattle.tcf_message.specs.Message.{MessageValue, command, event, final, flow, not_known, progress, reading}
use Rattle.tcf_message.specs.declared.message.MessageFault.{MessageFault}
use Rattle.target_hub.specs.Sent.{progress_data}
use Rattle.target_hub.specs.declared.done.Done.{Done}
use Rattle.tcf_values.specs.declared.event.EventData.{EventData}
use Rattle.agent_node.specs.Agent.{after_input, answered_to, asked, delivered, done_by, ended, executed, executed_read, going_tells, gone, heard, is_full, read_as, took, took_any, turned, turned_at, turned_on, waiting_at}
use Rattle.agent_node.specs.AgentValue.{AgentValue}
use Rattle.agent_node.specs.Channels.{End, answer_message, answer_queued, changed, changed_at, channel_at, event_message, event_queued, place_of, progress_queued, put_at, told_all, unless_closed}
use Rattle.agent_node.specs.declared.agent.Turned.{Turned}
use Rattle.agent_node.specs.declared.agent.Turned.TheVariants.{Nothing}
use Rattle.channel_list.specs.declared.channel.Channel.{Channel}
use Rattle.agent_node.proofs.Places.{found, next_end, place_found, taken_of}
use Rattle.serving_wires.specs.Intake.{next_for}
use Rattle.serving_wires.specs.declared.intake.Came.{Came}
use Rattle.serving_wires.specs.declared.intake.Came.TheVariants.{Piece, End as TheEnd}
use Rattle.agent_serving.specs.Passing.{Passed, after_turns, all_taken, came_to, can_be_given, end_is_taken, given_all, or_before, passed_on, room_turns, waiting_on}
use Rattle.agent_serving.proofs.Boxes.{delivered_few, ended_few, entries, next_less, next_none, queued_kept}
use Rattle.agent_serving.proofs.Queued.{changed_first, in_first}

-- ---- how many wait, channel by channel

abbrev pub Box : Type 0
Box = ℕ × ℕ

abbrev pub boxes : List Channel → List Box
boxes cs = map (λ (c : Channel). (c.number, entries c.end)) cs

abbrev pub first_count : ℕ → List Box → ℕ
first_count k [] = 0
first_count k (b ∷ bs) = cond (b.0 == k) b.1 (first_count k bs)

abbrev pub with_count : ℕ → ℕ → List Box → List Box
with_count k n [] = []
with_count k n (b ∷ bs) = cond (b.0 == k) ((b.0, n) ∷ bs) (b ∷ with_count k n bs)

abbrev pub AreNone : List Box → Type 0
AreNone bs = AllByRecursion (λ (b : Box). b.1 ≡ 0) bs

count_there : (k n : ℕ) (bs : List Box) → first_count k (with_count k n bs) ≤ n
count_there k n [] = omega arith
count_there k n (b ∷ bs) = by_flag (b.0 == k) refl (count_there k n bs)
  where
    by_flag : (flag : Bool) → (b.0 == k) ≡ flag → first_count k (with_count k n bs) ≤ n → first_count k (cond flag ((b.0, n) ∷ bs) (b ∷ with_count k n bs)) ≤ n
    by_flag true is rest = rw is (omega arith)
    by_flag false is rest = rw is rest

pub count_elsewhere : (k j n : ℕ) (bs : List Box) → (j == k) ≡ false → first_count k (with_count j n bs) ≡ first_count k bs
count_elsewhere k j n [] apart = refl
count_elsewhere k j n (b ∷ bs) apart = by_flag (b.0 == j) refl (count_elsewhere k j n bs apart)
  where
    by_flag : (flag : Bool) → (b.0 == j) ≡ flag → first_count k (with_count j n bs) ≡ first_count k bs
        → first_count k (cond flag ((b.0, n) ∷ bs) (b ∷ with_count j n bs)) ≡ cond (b.0 == k) b.1 (first_count k bs)
    by_flag true is rest =
        let isnt : (b.0 == k) ≡ false = ap (λ (m : ℕ). m == k) (eqb-true b.0 j is) ∙ apart in
        ap (λ (f : Bool). cond f n (first_count k bs)) isnt ∙ sym (ap (λ (f : Bool). cond f b.1 (first_count k bs)) isnt)
    by_flag false is rest = ap (λ (m : ℕ). cond (b.0 == k) b.1 m) rest

count_twice : (k n m : ℕ) (bs : List Box) → with_count k m (with_count k n bs) ≡ with_count k m bs
count_twice k n m [] = refl
count_twice k n m (b ∷ bs) = by_flag (b.0 == k) refl (count_twice k n m bs)
  where
    by_flag : (flag : Bool) → (b.0 == k) ≡ flag → with_count k m (with_count k n bs) ≡ with_count k m bs
        → with_count k m (cond flag ((b.0, n) ∷ bs) (b ∷ with_count k n bs)) ≡ cond flag ((b.0, m) ∷ bs) (b ∷ with_count k m bs)
    by_flag true is rest = ap (λ (f : Bool). cond f ((b.0, m) ∷ bs) ((b.0, n) ∷ with_count k m bs)) is
    by_flag false is rest = ap (λ (f : Bool). cond f ((b.0, m) ∷ with_count k n bs) (b ∷ with_count k m (with_count k n bs))) is ∙ ap (λ (xs : List Box). b ∷ xs) rest

count_itself : (k : ℕ) (bs : List Box) → with_count k (first_count k bs) bs ≡ bs
count_itself k [] = refl
count_itself k (b ∷ bs) = by_flag (b.0 == k) (count_itself k bs)
  where
    by_flag : (flag : Bool) → with_count k (first_count k bs) bs ≡ bs → cond flag ((b.0, cond flag b.1 (first_count k bs)) ∷ bs) (b ∷ with_count k (cond flag b.1 (first_count k bs)) bs) ≡ b ∷ bs
    by_flag true rest = refl
    by_flag false rest = ap (λ (xs : List Box). b ∷ xs) rest

pub none_counted : (k : ℕ) (bs : List Box) → AreNone bs → first_count k bs ≡ 0
none_counted k [] all = refl
none_counted k (b ∷ bs) all = by_flag (b.0 == k) (none_counted k bs all.1)
  where
    by_flag : (flag : Bool) → first_count k bs ≡ 0 → cond flag b.1 (first_count k bs) ≡ 0
    by_flag true rest = all.0
    by_flag false rest = rest

-- where the first of the channel gets none too, none has
none_with : (k n : ℕ) (bs : List Box) → AreNone bs → first_count k (with_count k n bs) ≡ 0 → AreNone (with_count k n bs)
none_with k n [] all none = tt
none_with k n (b ∷ bs) all none = by_flag (b.0 == k) refl none (none_with k n bs all.1)
  where
    by_flag : (flag : Bool) → (b.0 == k) ≡ flag → first_count k (cond flag ((b.0, n) ∷ bs) (b ∷ with_count k n bs)) ≡ 0 → (first_count k (with_count k n bs) ≡ 0 → AreNone (with_count k n bs))
        → AreNone (cond flag ((b.0, n) ∷ bs) (b ∷ with_count k n bs))
    by_flag true is here rest = (sym (ap (λ (f : Bool). cond f n (first_count k bs)) is) ∙ here, all.1)
    by_flag false is there rest = (all.0, rest (sym (ap (λ (f : Bool). cond f b.1 (first_count k (with_count k n bs))) is) ∙ there))

-- ---- of an agent

abbrev pub count_on : ℕ → AgentValue → ℕ
count_on k a = first_count k (boxes a.channels)

abbrev there_count : Option Channel → ℕ
there_count None = 0
there_count (Some c) = entries c.end

found_count : (k : ℕ) (cs : List Channel) → there_count (found k cs) ≡ first_count k (boxes cs)
found_count k [] = refl
found_count k (c ∷ cs) = by_flag (c.number == k) (found_count k cs)
  where
    by_flag : (flag : Bool) → there_count (found k cs) ≡ first_count k (boxes cs) → there_count (cond flag (Some c) (found k cs)) ≡ cond flag (entries c.end) (first_count k (boxes cs))
    by_flag true rest = refl
    by_flag false rest = rest

waiting_there : (there : Option Channel) → waiting_at there ≡ min (there_count there) (2 ^ 64 - 1)
waiting_there None = refl
waiting_there (Some c) = refl

pub waiting_is : (k : ℕ) (a : AgentValue) → waiting_on k a ≡ min (count_on k a) (2 ^ 64 - 1)
waiting_is k a = ap waiting_at (place_found k a.channels) ∙ waiting_there (found k a.channels) ∙ ap (λ (n : ℕ). min n (2 ^ 64 - 1)) (found_count k a.channels)

-- ---- the first channel of a number changes

abbrev changed_count : (End → End) → Option Channel → ℕ
changed_count f None = 0
changed_count f (Some c) = entries (f c.end)

changed_boxes : (k : ℕ) (f : End → End) (cs : List Channel) → boxes (in_first k f cs) ≡ with_count k (changed_count f (found k cs)) (boxes cs)
changed_boxes k f [] = refl
changed_boxes k f (c ∷ cs) = by_flag (c.number == k) (changed_boxes k f cs)
  where
    by_flag : (flag : Bool) → boxes (in_first k f cs) ≡ with_count k (changed_count f (found k cs)) (boxes cs)
        → boxes (cond flag (record c { end = f c.end } ∷ cs) (c ∷ in_first k f cs))
        ≡ cond flag ((c.number, changed_count f (cond flag (Some c) (found k cs))) ∷ boxes cs) ((c.number, entries c.end) ∷ with_count k (changed_count f (cond flag (Some c) (found k cs))) (boxes cs))
    by_flag true rest = refl
    by_flag false rest = ap (λ (bs : List Box). (c.number, entries c.end) ∷ bs) rest

changed_kept : (k : ℕ) (f : End → End) (cs : List Channel) → ((e : End) → entries (f e) ≡ entries e) → boxes (in_first k f cs) ≡ boxes cs
changed_kept k f [] keeps = refl
changed_kept k f (c ∷ cs) keeps = by_flag (c.number == k) (changed_kept k f cs keeps)
  where
    by_flag : (flag : Bool) → boxes (in_first k f cs) ≡ boxes cs → boxes (cond flag (record c { end = f c.end } ∷ cs) (c ∷ in_first k f cs)) ≡ (c.number, entries c.end) ∷ boxes cs
    by_flag true rest = ap (λ (n : ℕ). (c.number, n) ∷ boxes cs) (keeps c.end)
    by_flag false rest = ap (λ (bs : List Box). (c.number, entries c.end) ∷ bs) rest

pub kept_boxes : (k : ℕ) (f : End → End) (cs : List Channel) → ((e : End) → entries (f e) ≡ entries e) → boxes (changed k f cs) ≡ boxes cs
kept_boxes k f cs keeps = ap boxes (changed_first k f cs) ∙ changed_kept k f cs keeps

-- ---- only the entries of one channel change, and a full agent stays full

pub record Moves (k : ℕ) (a b : AgentValue) : Type 0 where
  pub count : ℕ
  pub boxes_are : boxes b.channels ≡ with_count k count (boxes a.channels)
  pub full : is_full a ≡ true → is_full b ≡ true

pub moves_none : (k : ℕ) (a b : AgentValue) → boxes b.channels ≡ boxes a.channels → (is_full a ≡ true → is_full b ≡ true) → Moves k a b
moves_none k a b same full = record { count = count_on k a; boxes_are = same ∙ sym (count_itself k (boxes a.channels)); full = full }

pub moves_then : (k : ℕ) (a b c : AgentValue) → Moves k a b → Moves k b c → Moves k a c
moves_then k a b c first second =
    record {
      count = second.count;
      boxes_are = second.boxes_are ∙ ap (with_count k second.count) first.boxes_are ∙ count_twice k first.count second.count (boxes a.channels);
      full = λ is. second.full (first.full is);
    }

-- unless it is full, so many entries wait at most
abbrev pub Has : ℕ → ℕ → AgentValue → Type 0
Has k n a = (is_full a ≡ true) ⊎ (count_on k a ≤ n)

has_more : (k n m : ℕ) (a : AgentValue) → n ≤ m → Has k n a → Has k m a
has_more k n m a more (inl full) = inl full
has_more k n m a more (inr few) = inr (omega (arith, more, few))

changed_moves : (k : ℕ) (f : End → End) (a b : AgentValue) → b.channels ≡ changed k f a.channels → (is_full a ≡ true → is_full b ≡ true) → Moves k a b
changed_moves k f a b is full =
    record { count = changed_count f (found k a.channels); boxes_are = ap boxes (is ∙ changed_first k f a.channels) ∙ changed_boxes k f a.channels; full = full }

more_there : (f : End → End) (more : ℕ) (there : Option Channel) → ((e : End) → entries (f e) ≤ entries e + more) → changed_count f there ≤ there_count there + more
more_there f more None each = omega arith
more_there f more (Some c) each = each c.end

less_there : (f : End → End) (there : Option Channel) → ((e : End) → entries (f e) ≤ entries e - 1) → changed_count f there ≤ there_count there - 1
less_there f None each = omega arith
less_there f (Some c) each = each c.end

changed_most : (k : ℕ) (f : End → End) (a b : AgentValue) → b.channels ≡ changed k f a.channels → count_on k b ≤ changed_count f (found k a.channels)
changed_most k f a b is =
    let same : boxes b.channels ≡ with_count k (changed_count f (found k a.channels)) (boxes a.channels) = ap boxes (is ∙ changed_first k f a.channels) ∙ changed_boxes k f a.channels in
    rw same (count_there k (changed_count f (found k a.channels)) (boxes a.channels))

-- ---- something comes

abbrev pub size_of : Came → ℕ
size_of (Piece bytes) = length bytes
size_of TheEnd = 0

came_moves : (k : ℕ) (came : Came) (a : AgentValue) → Moves k a (came_to k came a)
unfolding delivered ended
came_moves k (Piece bytes) a = changed_moves k (unless_closed (end_delivered bytes None)) a (delivered k bytes a) refl (λ is. is)
came_moves k TheEnd a = changed_moves k (λ e. unless_spent e e (end_ended e)) a (ended k a) refl (λ is. is)

came_has : (k n : ℕ) (came : Came) (a : AgentValue) → Has k n a → Has k (n + size_of came + 1) (came_to k came a)
unfolding delivered ended
came_has k n came a (inl full) = inl ((came_moves k came a).full full)
came_has k n (Piece bytes) a (inr few) =
    let most = changed_most k (unless_closed (end_delivered bytes None)) a (delivered k bytes a) refl in
    let more : changed_count (unless_closed (end_delivered bytes None)) (found k a.channels) ≤ there_count (found k a.channels) + (length bytes + 1) =
    more_there (unless_closed (end_delivered bytes None)) (length bytes + 1) (found k a.channels) (λ e. let one = delivered_few bytes e in omega (arith, one)) in
    let at = found_count k a.channels in
    inr (omega (arith, most, more, at, few))
came_has k n TheEnd a (inr few) =
    let most = changed_most k (λ e. unless_spent e e (end_ended e)) a (ended k a) refl in
    let more : changed_count (λ e. unless_spent e e (end_ended e)) (found k a.channels) ≤ there_count (found k a.channels) + 1 =
    more_there (λ e. unless_spent e e (end_ended e)) 1 (found k a.channels) ended_few in
    let at = found_count k a.channels in
    inr (omega (arith, most, more, at, few))

-- ---- what the target tells leaves the entries

told_one : (told : EventData) (position : ℕ) (cs : List Channel) → boxes (map (event_queued told position) cs) ≡ boxes cs
told_one told position [] = refl
told_one told position (c ∷ cs) =
    ap (λ (n : ℕ). (c.number, n) ∷ boxes (map (event_queued told position) cs)) (queued_kept (event_message told) (Some position) c.end) ∙ ap (λ (bs : List Box). (c.number, entries c.end) ∷ bs) (told_one told position cs)

pub told_kept : (events : List EventData) (position : ℕ) (cs : List Channel) → boxes (told_all events position cs) ≡ boxes cs
told_kept [] position cs = refl
told_kept (told ∷ events) position cs = told_kept events position (map (event_queued told position) cs) ∙ told_one told position cs

progress_kept : (token : List ℕ) (addresses : List ℕ) (position : ℕ) (e : End) → entries (progress_queued token addresses position e) ≡ entries e
progress_kept token [] position e = refl
progress_kept token (address ∷ addresses) position e =
    let message : MessageValue = progress token (progress_data address) in
    progress_kept token addresses position (queued message (Some position) e) ∙ queued_kept message (Some position) e

answer_kept : (token : List ℕ) (done : Done) (position : ℕ) (e : End) → entries (answer_queued token done position e) ≡ entries e
answer_kept token done position e = queued_kept (answer_message token done.answer) (Some position) (progress_queued token done.progress position e) ∙ progress_kept token done.progress position e

asked_kept : (k : ℕ) (m : Result MessageValue MessageFault) (a : AgentValue) → boxes (asked k m a).1.channels ≡ boxes a.channels
unfolding asked executed executed_read heard answered_to after_input
asked_kept k (Ok (command token service name body)) a =
    let done : Done = done_by k service name (read_as service name body) a.target in
    kept_boxes k (answer_queued token done (a.position + 1)) (told_all done.events (a.position + 1) a.channels) (λ e. answer_kept token done (a.position + 1) e)
    ∙ told_kept done.events (a.position + 1) a.channels
asked_kept k (Ok (final token body)) a = refl
asked_kept k (Ok (progress token body)) a = refl
asked_kept k (Ok (not_known token)) a = refl
asked_kept k (Ok (event service name body)) a = refl
asked_kept k (Ok (flow level)) a = refl
asked_kept k (Err fault) a = refl

took_kept : (k : ℕ) (what : Option (Taken Unit)) (a : AgentValue) → boxes (took_any k what a).1.channels ≡ boxes a.channels
unfolding took gone after_input
took_kept k None a = refl
took_kept k (Some (taken.Hello incoming)) a = refl
took_kept k (Some (taken.Command incoming)) a = asked_kept k (reading incoming.raw) a
took_kept k (Some (taken.Event incoming)) a = refl
took_kept k (Some (taken.Progress token incoming)) a = refl
took_kept k (Some (taken.Final tag incoming)) a = refl
took_kept k (Some (taken.Closed cause)) a = told_kept (going_tells k a.target) (a.position + 1) a.channels

-- ---- a turn

turned_there : (k place : ℕ) (there : Option Channel) (a : AgentValue) → turned_on k place there a ≡ took_any k (taken_of there) (record a { channels = put_at place next_end a.channels there })
turned_there k place None a = refl
turned_there k place (Some channel) a = refl

turned_placed : (k : ℕ) (place : Option ℕ) (a : AgentValue) → turned_at k place a ≡ took_any k (taken_of (channel_at place a.channels)) (record a { channels = changed_at place next_end a.channels })
turned_placed k None a = refl
turned_placed k (Some place) a = turned_there k place (slice_get a.channels place) a

abbrev with_next : ℕ → AgentValue → AgentValue
with_next k a = record a { channels = changed k next_end a.channels }

pub turned_full : (k : ℕ) (a : AgentValue) → is_full a ≡ true → turned k a ≡ (Nothing, a)
unfolding turned
turned_full k a is = ap (λ (b : Bool). cond b (Nothing, a) (turned_at k (place_of k a.channels) a)) is

turned_open : (k : ℕ) (a : AgentValue) → is_full a ≡ false → turned k a ≡ took_any k (taken_of (found k a.channels)) (with_next k a)
unfolding turned
turned_open k a is =
    ap (λ (b : Bool). cond b (Nothing, a) (turned_at k (place_of k a.channels) a)) is ∙ turned_placed k (place_of k a.channels) a
    ∙ ap (λ (o : Option Channel). took_any k (taken_of o) (with_next k a)) (place_found k a.channels)

turned_boxes : (k : ℕ) (a : AgentValue) → is_full a ≡ false → boxes (turned k a).1.channels ≡ with_count k (changed_count next_end (found k a.channels)) (boxes a.channels)
turned_boxes k a is =
    ap (λ (p : Turned × AgentValue). boxes p.1.channels) (turned_open k a is) ∙ took_kept k (taken_of (found k a.channels)) (with_next k a)
    ∙ ap boxes (changed_first k next_end a.channels) ∙ changed_boxes k next_end a.channels

turn_moves : (k : ℕ) (a : AgentValue) → Moves k a (turned k a).1
turn_moves k a = by_full (is_full a) refl
  where
    by_full : (full : Bool) → is_full a ≡ full → Moves k a (turned k a).1
    by_full true is =
        let same : (turned k a).1 ≡ a = ap (λ (p : Turned × AgentValue). p.1) (turned_full k a is) in
        moves_none k a (turned k a).1 (ap (λ (x : AgentValue). boxes x.channels) same) (λ full. ap is_full same ∙ full)
    by_full false is = record { count = changed_count next_end (found k a.channels); boxes_are = turned_boxes k a is; full = λ full. absurd (not_both full is) }

turn_has : (k n : ℕ) (a : AgentValue) → Has k n a → Has k (n - 1) (turned k a).1
turn_has k n a has = by_full (is_full a) refl has
  where
    by_full : (full : Bool) → is_full a ≡ full → Has k n a → Has k (n - 1) (turned k a).1
    by_full true is had = inl ((turn_moves k a).full is)
    by_full false is (inl full) = absurd (not_both full is)
    by_full false is (inr few) =
        let same = turned_boxes k a is in
        let most = count_there k (changed_count next_end (found k a.channels)) (boxes a.channels) in
        let less = less_there next_end (found k a.channels) next_less in
        let at = found_count k a.channels in
        inr (rw same (omega (arith, most, less, at, few)))

-- where none waits nothing is taken
none_taken_there : (k : ℕ) (there : Option Channel) (a : AgentValue) → there_count there ≡ 0 → (took_any k (taken_of there) a).0 ≡ Nothing
none_taken_there k None a none = refl
none_taken_there k (Some c) a none = ap (λ (o : Option (Taken Unit)). (took_any k o a).0) (next_none c.end none)

pub nothing_taken : (k : ℕ) (a : AgentValue) → count_on k a ≡ 0 → is_full a ≡ false → (turned k a).0 ≡ Nothing
nothing_taken k a none is =
    ap (λ (p : Turned × AgentValue). p.0) (turned_open k a is) ∙ none_taken_there k (found k a.channels) (with_next k a) (found_count k a.channels ∙ none)

turns_moves : (count k : ℕ) (a : AgentValue) → Moves k a (after_turns count k a)
turns_moves zero k a = moves_none k a a refl (λ is. is)
turns_moves (suc count) k a = moves_then k a (turned k a).1 (after_turns count k (turned k a).1) (turn_moves k a) (turns_moves count k (turned k a).1)

turns_has : (count k n : ℕ) (a : AgentValue) → Has k n a → Has k (n - count) (after_turns count k a)
turns_has zero k n a has = has_more k n (n - 0) a (omega arith) has
turns_has (suc count) k n a has =
    has_more k (n - 1 - count) (n - suc count) (after_turns count k (turned k a).1) (omega arith) (turns_has count k (n - 1) (turned k a).1 (turn_has k n a has))

turns_full : (count k : ℕ) (a : AgentValue) → is_full a ≡ true → after_turns count k a ≡ a
turns_full zero k a is = refl
turns_full (suc count) k a is = ap (λ (p : Turned × AgentValue). after_turns count k p.1) (turned_full k a is) ∙ turns_full count k a is

-- ---- room is made, and all are taken

waiting_few : (k : ℕ) (a : AgentValue) → count_on k a ≤ 100000 → waiting_on k a ≡ count_on k a
waiting_few k a few = waiting_is k a ∙ min-eq_left (omega (arith, few))

waiting_most : (k : ℕ) (a : AgentValue) → waiting_on k a ≤ count_on k a
waiting_most k a = let is = waiting_is k a in let most = min-le_left (count_on k a) (2 ^ 64 - 1) in omega (arith, is, most)

room_has : (k : ℕ) (a : AgentValue) → Has k 100000 a → Has k 199 (after_turns (room_turns k a) k a)
room_has k a (inl full) = inl ((turns_moves (room_turns k a) k a).full full)
room_has k a (inr few) =
    let same = waiting_few k a few in
    has_more k (count_on k a - room_turns k a) 199 (after_turns (room_turns k a) k a) (omega (arith, same)) (turns_has (room_turns k a) k (count_on k a) a (inr (omega arith)))

all_has : (k : ℕ) (a : AgentValue) → Has k 199 a → Has k 0 (after_turns (waiting_on k a) k a)
all_has k a (inl full) = inl ((turns_moves (waiting_on k a) k a).full full)
all_has k a (inr few) =
    let same = waiting_few k a (omega (arith, few)) in
    has_more k (count_on k a - waiting_on k a) 0 (after_turns (waiting_on k a) k a) (omega (arith, same)) (turns_has (waiting_on k a) k (count_on k a) a (inr (omega arith)))

-- ---- what waits is given

abbrev pub AreSmall : List Came → Type 0
AreSmall waiting = AllByRecursion (λ (came : Came). size_of came ≤ 65536) waiting

pub record Passes (k : ℕ) (a : AgentValue) (p : Passed) : Type 0 where
  pub moves : Moves k a p.agent
  pub left : next_for (waiting_on k p.agent) p.waiting ≡ None
  pub small : AreSmall p.waiting
  pub none : is_full p.agent ≡ false → count_on k p.agent ≡ 0
  pub done : is_full p.agent ≡ false → p.waiting ≡ []

none_left : (k : ℕ) (a : AgentValue) → Has k 0 a → is_full a ≡ false → count_on k a ≡ 0
none_left k a (inl full) is = absurd (not_both full is)
none_left k a (inr few) is = omega (arith, few)

taken_all : (k : ℕ) (a : AgentValue) → Has k 199 a → Passes k a (all_taken k [] a)
taken_all k a has =
    record {
      moves = turns_moves (waiting_on k a) k a;
      left = refl;
      small = tt;
      none = none_left k (after_turns (waiting_on k a) k a) (all_has k a has);
      done = λ is. refl;
    }

-- one that can't be given: the agent is full
can_then : (inbox : ℕ) (came : Came) → inbox < 200 → can_be_given inbox came ≡ true
can_then inbox (Piece bytes) few = lt-ltb inbox 200 few
can_then inbox TheEnd few = refl

none_next : (inbox : ℕ) (came : Came) (later : List Came) → can_be_given inbox came ≡ false → next_for inbox (came ∷ later) ≡ None
none_next inbox (Piece bytes) later cant = ap (λ (b : Bool). cond b (Some (Piece bytes)) None) cant
none_next inbox TheEnd later cant = absurd (false≢true (sym cant))

is_stuck : (k : ℕ) (came : Came) (a : AgentValue) → can_be_given (waiting_on k a) came ≡ false → Has k 199 a → is_full a ≡ true
is_stuck k came a cant (inl full) = full
is_stuck k came a cant (inr few) =
    let most = waiting_most k a in absurd (not_both (can_then (waiting_on k a) came (omega (arith, few, most))) cant)

stuck_passes : (k : ℕ) (came : Came) (later : List Came) (a : AgentValue) → AreSmall (came ∷ later) → can_be_given (waiting_on k a) came ≡ false → Has k 199 a → Passes k a (all_taken k (came ∷ later) a)
stuck_passes k came later a small cant has =
    let full = is_stuck k came a cant has in
    let same = turns_full (waiting_on k a) k a full in
    let still : is_full (after_turns (waiting_on k a) k a) ≡ true = ap is_full same ∙ full in
    record {
      moves = turns_moves (waiting_on k a) k a;
      left = ap (λ (x : AgentValue). next_for (waiting_on k x) (came ∷ later)) same ∙ none_next (waiting_on k a) came later cant;
      small = small;
      none = λ is. absurd (not_both still is);
      done = λ is. absurd (not_both still is);
    }

moved_passes : (k : ℕ) (a b : AgentValue) (over : Bool) (p : Passed) → Moves k a b → Passes k b p → Passes k a (or_before over p)
moved_passes k a b over p moves passes =
    record { moves = moves_then k a b p.agent moves passes.moves; left = passes.left; small = passes.small; none = passes.none; done = passes.done }

given_passes : (k : ℕ) (waiting : List Came) (a : AgentValue) → AreSmall waiting → Has k 199 a → Passes k a (given_all k waiting a)
given_passes k [] a small has = taken_all k a has
given_passes k (came ∷ later) a small has = by_flag (can_be_given (waiting_on k a) came) refl (given_passes k later roomy small.1 room)
  where
    next : AgentValue
    next = came_to k came a

    roomy : AgentValue
    roomy = after_turns (room_turns k (came_to k came a)) k (came_to k came a)

    room : Has k 199 (after_turns (room_turns k (came_to k came a)) k (came_to k came a))
    room = room_has k (came_to k came a) (has_more k (199 + size_of came + 1) 100000 (came_to k came a) (let few : size_of came ≤ 65536 = small.0 in omega (arith, few)) (came_has k 199 came a has))

    by_flag : (flag : Bool) → can_be_given (waiting_on k a) came ≡ flag → Passes k roomy (given_all k later roomy)
        → Passes k a (cond flag (or_before (end_is_taken (room_turns k next) k next) (given_all k later roomy)) (all_taken k (came ∷ later) a))
    by_flag true is later_passes =
        moved_passes k a roomy (end_is_taken (room_turns k next) k next) (given_all k later roomy)
        (moves_then k a next roomy (came_moves k came a) (turns_moves (room_turns k next) k next)) later_passes
    by_flag false is later_passes = stuck_passes k came later a small is has

pub passes_on : (k : ℕ) (waiting : List Came) (a : AgentValue) → AreSmall waiting → Has k 100000 a → Passes k a (passed_on k waiting a)
unfolding passed_on
passes_on k waiting a small has =
    let roomy = after_turns (room_turns k a) k a in
    moved_passes k a roomy (end_is_taken (room_turns k a) k a) (given_all k waiting roomy) (turns_moves (room_turns k a) k a) (given_passes k waiting roomy small (room_has k a has))

-- none has any then, where none had
pub none_after : (k : ℕ) (a b : AgentValue) → Moves k a b → AreNone (boxes a.channels) → count_on k b ≡ 0 → AreNone (boxes b.channels)
none_after k a b moves all none =
    let is = moves.boxes_are in
    subst AreNone (sym is) (none_with k moves.count (boxes a.channels) all (sym (ap (first_count k) is) ∙ none))

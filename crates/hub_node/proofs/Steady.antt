-- What leaves each lower end as open as it was, and the board as it stood.
use Rattle.std.proofs.Common.{◌≡◌, ℕ, ◌==◌, Bool, true, false, not, cond, List, [], ◌∷◌, ◌++◌, drop, map, Option, Some, None, refl, sym, ap, ap₂, subst, ◌∙◌, eqb-true}
use Rattle.std.specs.Prelude.{Result, Ok, Err}
use Rattle.std.specs.List.{AllByRecursion}
use Rattle.channel_core.specs.Closing.{is_closed}
use Rattle.channel_core.specs.EndValue.{unless_spent}
use Rattle.channel_core.specs.Receiving.{delivered as end_delivered, ended as end_ended, is_over, with_last}
use Rattle.channel_core.specs.Runs.{delivering, ending, putting_out}
use Rattle.channel_core.specs.Sending.{queued}
use Rattle.channel_core.specs.Wire.{said}
use Rattle.channel_core.specs.declared.states.Cause.TheVariants.{Ended}
use Rattle.channel_core.proofs.ClosingSo.{delivered_open}
use Rattle.channel_core.proofs.Keeping.{IsTidy, either_keeps}
use Rattle.channel_core.proofs.Tidy.{tidy_called}
use Rattle.channel_list.specs.Channels.{End, changed, channel_end, end_in, unless_closed, with_end}
use Rattle.channel_list.specs.declared.channel.Channel.{Channel}
use Rattle.channel_list.proofs.Differing.{Differ, has}
use Rattle.channel_list.proofs.Places.{at, changed_map, channel_number, found, none_found}
use Rattle.tcf_message.specs.Message.{MessageValue, command, event, final, flow, not_known, progress}
use Rattle.tcf_message.specs.declared.message.MessageFault.{MessageFault}
use Rattle.hub_node.specs.Redirects.{redirect_reply}
use Rattle.hub_node.specs.Relay.{after_giving_at, answered, came_at, ended_at, event_told, final_told, progress_told, refused_above}
use Rattle.hub_node.specs.RelayValue.{RelayValue}
use Rattle.hub_node.specs.WaitingValue.{WaitingValue}
use Rattle.hub_node.specs.declared.side.HubSide.TheVariants.{Above, Below}
use Rattle.hub_node.proofs.Lowers.{by, end_found}

-- ---- the numbers of channels, and whether they are open

abbrev pub Face : Type 0
Face = ℕ × Bool

abbrev pub face : Channel → Face
face c = (c.number, not (is_closed c.end.state))

abbrev pub faces : List Channel → List Face
faces cs = map face cs

abbrev pub AllTidy : List Channel → Type 0
AllTidy cs = AllByRecursion (λ c. IsTidy c.end) cs

-- ---- one end of a list is changed

-- what becomes of the faces, where this becomes of that of the one
pub faces_at : (i : ℕ) (f : End → End) (g : Face → Face) (cs : List Channel) → ((x : Face) → (x.0 == i) ≡ false → g x ≡ x)
    → ((c : Channel) → found i cs ≡ Some c → face (with_end (f c.end) c) ≡ g (face c)) → Differ channel_number cs → faces (map (at i f) cs) ≡ map g (faces cs)
faces_at i f g [] others its d = refl
faces_at i f g (c ∷ cs) others its d = by_flag (c.number == i) refl (λ its. faces_at i f g cs others its d.1)
  where
    by_flag : (flag : Bool) → (c.number == i) ≡ flag → (((x : Channel) → found i cs ≡ Some x → face (with_end (f x.end) x) ≡ g (face x)) → faces (map (at i f) cs) ≡ map g (faces cs))
        → face (cond flag (with_end (f c.end) c) c) ∷ faces (map (at i f) cs) ≡ g (face c) ∷ map g (faces cs)
    by_flag true is rest =
        let here : found i (c ∷ cs) ≡ Some c = ap (λ b. cond b (Some c) (found i cs)) is in
        let same : c.number ≡ i = eqb-true c.number i is in
        let none : found i cs ≡ None = none_found i cs (subst (λ n. has channel_number n cs ≡ false) same d.0) in
        ap₂ (λ x xs. x ∷ xs) (its c here) (rest (λ x there. absurd (let both : None ≡ Some x = sym none ∙ there in cc)))
    by_flag false isnt rest =
        ap₂ (λ x xs. x ∷ xs) (sym (others (face c) isnt)) (rest (λ x there. its x (ap (λ b. cond b (Some c) (found i cs)) isnt ∙ there)))

map_itself : (xs : List Face) → map (λ x. x) xs ≡ xs
map_itself [] = refl
map_itself (x ∷ xs) = ap (λ l. x ∷ l) (map_itself xs)

some_end : (o : Option Channel) (c : Channel) → o ≡ Some c → end_in o ≡ Some c.end
some_end o c is = ap end_in is

-- as open as it was
pub faces_same : (i : ℕ) (f : End → End) (cs : List Channel) → Differ channel_number cs → ((e : End) → channel_end i cs ≡ Some e → is_closed (f e).state ≡ is_closed e.state) → faces (changed i f cs) ≡ faces cs
faces_same i f cs d keeps =
    ap faces (changed_map i f cs d)
    ∙ faces_at i f (λ x. x) cs (λ x isnt. refl) (λ c there. ap (λ b. (c.number, not b)) (keeps c.end (end_found i cs ∙ some_end (found i cs) c there))) d ∙ map_itself (faces cs)

found_number : (i : ℕ) (cs : List Channel) (c : Channel) → found i cs ≡ Some c → (c.number == i) ≡ true
found_number i [] c there = absurd cc
found_number i (x ∷ cs) c there = by_flag (x.number == i) refl there (found_number i cs c)
  where
    by_flag : (flag : Bool) → (x.number == i) ≡ flag → cond flag (Some x) (found i cs) ≡ Some c → (found i cs ≡ Some c → (c.number == i) ≡ true) → (c.number == i) ≡ true
    by_flag true is there rest = let same : x ≡ c = cc in ap (λ (y : Channel). y.number == i) (sym same) ∙ is
    by_flag false is there rest = rest there

-- or closed
abbrev pub shut_at : ℕ → Face → Face
shut_at i x = cond (x.0 == i) (x.0, false) x

pub faces_shut : (i : ℕ) (f : End → End) (cs : List Channel) → Differ channel_number cs → ((e : End) → channel_end i cs ≡ Some e → is_closed (f e).state ≡ true)
    → faces (changed i f cs) ≡ map (shut_at i) (faces cs)
faces_shut i f cs d closes =
    ap faces (changed_map i f cs d)
    ∙ faces_at i f (shut_at i) cs (λ x isnt. ap (λ b. cond b (x.0, false) x) isnt)
    (λ c there.
    ap (λ b. (c.number, not b)) (closes c.end (end_found i cs ∙ some_end (found i cs) c there))
    ∙ sym (ap (λ b. cond b (c.number, false) (face c)) (found_number i cs c there))) d

tidy_at : (i : ℕ) (f : End → End) (cs : List Channel) → ((e : End) → IsTidy e → IsTidy (f e)) → AllTidy cs → AllTidy (map (at i f) cs)
tidy_at i f [] keeps all = tt
tidy_at i f (c ∷ cs) keeps all = (by_flag (c.number == i), tidy_at i f cs keeps all.1)
  where
    by_flag : (flag : Bool) → IsTidy (cond flag (with_end (f c.end) c) c).end
    by_flag true = keeps c.end all.0
    by_flag false = all.0

pub tidy_changed : (i : ℕ) (f : End → End) (cs : List Channel) → Differ channel_number cs → ((e : End) → IsTidy e → IsTidy (f e)) → AllTidy cs → AllTidy (changed i f cs)
tidy_changed i f cs d keeps all = subst AllTidy (sym (changed_map i f cs d)) (tidy_at i f cs keeps all)

-- ---- what leaves every end as open as it was, and tidy

pub record Steadies (f : End → End) : Type 0 where
  pub state : (e : End) → is_closed (f e).state ≡ is_closed e.state
  pub tidy : (e : End) → IsTidy e → IsTidy (f e)

pub record Steady (before after : RelayValue) : Type 0 where
  pub faces_are : faces after.lowers ≡ faces before.lowers
  pub tidy : AllTidy before.lowers → AllTidy after.lowers
  pub board : after.board ≡ before.board

pub as_it_was : (r : RelayValue) → Steady r r
as_it_was r = record { faces_are = refl; tidy = λ all. all; board = refl }

one_steady : (i : ℕ) (f : End → End) (r : RelayValue) → Differ channel_number r.lowers → Steadies f → Steady r (record r { lowers = changed i f r.lowers })
one_steady i f r d s = record {
  faces_are = faces_same i f r.lowers d (λ e there. s.state e);
  tidy = tidy_changed i f r.lowers d s.tidy;
  board = refl;
}

faces_by : (f : End → End) (cs : List Channel) → Steadies f → faces (map (by f) cs) ≡ faces cs
faces_by f [] s = refl
faces_by f (c ∷ cs) s = ap₂ (λ b l. (c.number, not b) ∷ l) (s.state c.end) (faces_by f cs s)

tidy_by : (f : End → End) (cs : List Channel) → Steadies f → AllTidy cs → AllTidy (map (by f) cs)
tidy_by f [] s all = tt
tidy_by f (c ∷ cs) s all = (s.tidy c.end all.0, tidy_by f cs s all.1)

all_steady : (f : End → End) (r : RelayValue) → Steadies f → Steady r (record r { lowers = map (by f) r.lowers })
all_steady f r s = record { faces_are = faces_by f r.lowers s; tidy = tidy_by f r.lowers s; board = refl }

-- ---- a message is queued, bytes come or have ended, and something goes out

either_state : (flag : Bool) (one other : End) (b : Bool) → is_closed one.state ≡ b → is_closed other.state ≡ b → is_closed (cond flag one other).state ≡ b
either_state true one other b is is_too = is
either_state false one other b is is_too = is_too

pub queues : (message : MessageValue) (mark : Option ℕ) → Steadies (queued message mark)
queues message mark = record {
  state = λ e. either_state (is_closed e.state) e (record e { queued = e.queued ++ said message mark ∷ [] }) (is_closed e.state) refl refl;
  tidy = λ e i. either_keeps IsTidy (is_closed e.state) e (record e { queued = e.queued ++ said message mark ∷ [] }) i (record { emptied = i.emptied; stopped = i.stopped });
}

delivers : (piece : List ℕ) (mark : Option ℕ) → Steadies (unless_closed (end_delivered piece mark))
delivers piece mark = record {
  state = λ e. by_flag e (is_closed e.state) refl;
  tidy = λ e i. either_keeps IsTidy (is_closed e.state) e (end_delivered piece mark e) i (tidy_called (delivering piece mark) e i);
}
  where
    by_flag : (e : End) (flag : Bool) → is_closed e.state ≡ flag → is_closed (cond flag e (end_delivered piece mark e)).state ≡ is_closed e.state
    by_flag e true is = refl
    by_flag e false is = delivered_open piece mark e is ∙ sym is

stops : Steadies (λ e. unless_spent e e (end_ended e))
stops = record {
  state = λ e.
      either_state e.is_spent e (end_ended e) (is_closed e.state) refl (either_state (is_over e) e (with_last Ended e) (is_closed e.state) refl refl);
  tidy = λ e i. either_keeps IsTidy e.is_spent e (end_ended e) i (tidy_called ending e i);
}

puts_out : Steadies (λ e. unless_spent e e (record e { queued = drop 1 e.queued }))
puts_out = record {
  state = λ e. either_state e.is_spent e (record e { queued = drop 1 e.queued }) (is_closed e.state) refl refl;
  tidy = λ e i. either_keeps IsTidy e.is_spent e (record e { queued = drop 1 e.queued }) i (tidy_called putting_out e i);
}

pub came_steady : (piece : List ℕ) (mark : Option ℕ) (r : RelayValue) → Steady r (came_at Above piece mark r)
unfolding came_at
came_steady piece mark r = record { faces_are = refl; tidy = λ all. all; board = refl }

pub came_below_steady : (i : ℕ) (piece : List ℕ) (mark : Option ℕ) (r : RelayValue) → Differ channel_number r.lowers → Steady r (came_at (Below i) piece mark r)
unfolding came_at
came_below_steady i piece mark r d = one_steady i (unless_closed (end_delivered piece mark)) r d (delivers piece mark)

pub ended_steady : (r : RelayValue) → Steady r (ended_at Above r)
unfolding ended_at
ended_steady r = record { faces_are = refl; tidy = λ all. all; board = refl }

pub ended_below_steady : (i : ℕ) (r : RelayValue) → Differ channel_number r.lowers → Steady r (ended_at (Below i) r)
unfolding ended_at
ended_below_steady i r d = one_steady i (λ e. unless_spent e e (end_ended e)) r d stops

pub gave_steady : (r : RelayValue) → Steady r (after_giving_at Above r)
unfolding after_giving_at
gave_steady r = record { faces_are = refl; tidy = λ all. all; board = refl }

pub gave_below_steady : (i : ℕ) (r : RelayValue) → Differ channel_number r.lowers → Steady r (after_giving_at (Below i) r)
unfolding after_giving_at
gave_below_steady i r d = one_steady i (λ e. unless_spent e e (record e { queued = drop 1 e.queued })) r d puts_out

-- ---- what was taken is told

pub event_steady : (mark : Option ℕ) (m : Result MessageValue MessageFault) (r : RelayValue) → Steady r (event_told mark m r)
unfolding event_told
event_steady mark (Ok (event service name body)) r = all_steady (queued (event service name body) mark) r (queues (event service name body) mark)
event_steady mark (Ok (command token service name body)) r = as_it_was r
event_steady mark (Ok (final token body)) r = as_it_was r
event_steady mark (Ok (progress token body)) r = as_it_was r
event_steady mark (Ok (not_known token)) r = as_it_was r
event_steady mark (Ok (flow level)) r = as_it_was r
event_steady mark (Err fault) r = as_it_was r

pub progress_steady : (w : Option WaitingValue) (mark : Option ℕ) (m : Result MessageValue MessageFault) (r : RelayValue) → Differ channel_number r.lowers → Steady r (progress_told w mark m r)
unfolding progress_told
progress_steady (Some w) mark (Ok (progress token body)) r d = one_steady w.channel (queued (progress w.token body) mark) r d (queues (progress w.token body) mark)
progress_steady (Some w) mark (Ok (command token service name body)) r d = as_it_was r
progress_steady (Some w) mark (Ok (final token body)) r d = as_it_was r
progress_steady (Some w) mark (Ok (event service name body)) r d = as_it_was r
progress_steady (Some w) mark (Ok (not_known token)) r d = as_it_was r
progress_steady (Some w) mark (Ok (flow level)) r d = as_it_was r
progress_steady (Some w) mark (Err fault) r d = as_it_was r
progress_steady None mark m r d = as_it_was r

pub final_steady : (w : Option WaitingValue) (mark : Option ℕ) (m : Result MessageValue MessageFault) (r : RelayValue) → Differ channel_number r.lowers → Steady r (final_told w mark m r)
unfolding final_told
final_steady (Some w) mark (Ok (final token body)) r d = one_steady w.channel (queued (final w.token body) mark) r d (queues (final w.token body) mark)
final_steady (Some w) mark (Ok (not_known token)) r d = one_steady w.channel (queued (not_known w.token) mark) r d (queues (not_known w.token) mark)
final_steady (Some w) mark (Ok (command token service name body)) r d = as_it_was r
final_steady (Some w) mark (Ok (progress token body)) r d = as_it_was r
final_steady (Some w) mark (Ok (event service name body)) r d = as_it_was r
final_steady (Some w) mark (Ok (flow level)) r d = as_it_was r
final_steady (Some w) mark (Err fault) r d = as_it_was r
final_steady None mark m r d = as_it_was r

pub refused_steady : (m : Result MessageValue MessageFault) (r : RelayValue) → Steady r (refused_above m r)
unfolding refused_above
refused_steady (Ok (command token service name body)) r = record { faces_are = refl; tidy = λ all. all; board = refl }
refused_steady (Ok (final token body)) r = as_it_was r
refused_steady (Ok (progress token body)) r = as_it_was r
refused_steady (Ok (event service name body)) r = as_it_was r
refused_steady (Ok (not_known token)) r = as_it_was r
refused_steady (Ok (flow level)) r = as_it_was r
refused_steady (Err fault) r = as_it_was r

pub answered_steady : (i : ℕ) (token service name body : List ℕ) (r : RelayValue) → Differ channel_number r.lowers → Steady r (answered i token service name body r)
unfolding answered
answered_steady i token service name body r d =
    one_steady i (queued (final token (redirect_reply service name body)) None) r d (queues (final token (redirect_reply service name body)) None)

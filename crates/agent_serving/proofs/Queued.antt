-- What an agent has queued for a channel goes out, one message after the other.
use Rattle.std.proofs.Common.{◌≡◌, ℕ, suc, ◌+◌, ◌<◌, ◌==◌, Bool, true, false, not, cond, nat_lt, List, [], ◌∷◌, length, Option, Some, None, refl, sym, ap, ◌∙◌, arith, subst, one-add, lt-ltb}
use Rattle.std.specs.Prelude.{drop}
use Rattle.std.proofs.lemmas.Option.{none-some, same_Some}
use Rattle.channel_core.specs.EndValue.{unless_spent}
use Rattle.channel_core.specs.declared.held.Outgoing.{Outgoing}
use Rattle.agent_node.specs.AgentValue.{AgentValue}
use Rattle.agent_node.specs.Agent.{after_giving, channel_of, first_of, given}
use Rattle.agent_node.specs.Channels.{End, changed, changed_at, channel_at, end_in, place_of, with_end}
use Rattle.channel_list.specs.declared.channel.Channel.{Channel}
use Rattle.serving_wires.proofs.Rows.{within}
use Rattle.agent_serving.specs.Gathering.{agent_emptied, emptied, queue_of}
use Rattle.agent_node.proofs.Places.{found, first_place, place_found, changed_behind}
use Rattle.list_laws.proofs.Numbers.{lt_more}

-- ---- The first channel of a number, by cases on the list

abbrev pub in_first : ℕ → (End → End) → List Channel → List Channel
in_first k change [] = []
in_first k change (c ∷ cs) = cond (c.number == k) (with_end (change c.end) c ∷ cs) (c ∷ in_first k change cs)

pub changed_first : (k : ℕ) (change : End → End) (cs : List Channel) → changed k change cs ≡ in_first k change cs
changed_first k change [] = refl
changed_first k change (c ∷ cs) = by_flag (c.number == k) (changed_first k change cs)
  where
    by_flag : (flag : Bool) → changed k change cs ≡ in_first k change cs
        → changed_at (within (nat_lt (cond (not flag) (1 + first_place k cs) 0) (suc (length cs))) (cond (not flag) (1 + first_place k cs) 0)) change (c ∷ cs)
        ≡ cond flag (with_end (change c.end) c ∷ cs) (c ∷ in_first k change cs)
    by_flag true rest = let first : nat_lt 0 (suc (length cs)) ≡ true = lt-ltb 0 (suc (length cs)) (omega arith) in rw first refl
    by_flag false rest =
        rw one-add
        (ap (λ b. changed_at (within b (suc (first_place k cs))) change (c ∷ cs)) (lt_more (first_place k cs) (length cs))
        ∙ changed_behind (nat_lt (first_place k cs) (length cs)) (first_place k cs) change c cs ∙ ap (λ xs. c ∷ xs) rest)

found_here : (k : ℕ) (c : Channel) (cs : List Channel) → (c.number == k) ≡ true → found k (c ∷ cs) ≡ Some c
found_here k c cs is = ap (λ b. cond b (Some c) (found k cs)) is

found_later : (k : ℕ) (c : Channel) (cs : List Channel) → (c.number == k) ≡ false → found k (c ∷ cs) ≡ found k cs
found_later k c cs is = ap (λ b. cond b (Some c) (found k cs)) is

first_here : (k : ℕ) (change : End → End) (c : Channel) (cs : List Channel) → (c.number == k) ≡ true → in_first k change (c ∷ cs) ≡ with_end (change c.end) c ∷ cs
first_here k change c cs is = ap (λ b. cond b (with_end (change c.end) c ∷ cs) (c ∷ in_first k change cs)) is

first_later : (k : ℕ) (change : End → End) (c : Channel) (cs : List Channel) → (c.number == k) ≡ false → in_first k change (c ∷ cs) ≡ c ∷ in_first k change cs
first_later k change c cs is = ap (λ b. cond b (with_end (change c.end) c ∷ cs) (c ∷ in_first k change cs)) is

-- changed twice
pub first_twice : (k : ℕ) (change then : End → End) (cs : List Channel) → in_first k then (in_first k change cs) ≡ in_first k (λ e. then (change e)) cs
first_twice k change then [] = refl
first_twice k change then (c ∷ cs) = by_flag (c.number == k) refl (first_twice k change then cs)
  where
    by_flag : (flag : Bool) → (c.number == k) ≡ flag → in_first k then (in_first k change cs) ≡ in_first k (λ e. then (change e)) cs
        → in_first k then (in_first k change (c ∷ cs)) ≡ in_first k (λ e. then (change e)) (c ∷ cs)
    by_flag true is rest =
        ap (in_first k then) (first_here k change c cs is) ∙ first_here k then (with_end (change c.end) c) cs is ∙ sym (first_here k (λ e. then (change e)) c cs is)
    by_flag false is rest =
        ap (in_first k then) (first_later k change c cs is) ∙ first_later k then c (in_first k change cs) is ∙ ap (λ xs. c ∷ xs) rest ∙ sym (first_later k (λ e. then (change e)) c cs is)

abbrev pub mapped : (End → End) → Option Channel → Option Channel
mapped change None = None
mapped change (Some c) = Some (with_end (change c.end) c)

pub found_changed : (k : ℕ) (change : End → End) (cs : List Channel) → found k (in_first k change cs) ≡ mapped change (found k cs)
found_changed k change [] = refl
found_changed k change (c ∷ cs) = by_flag (c.number == k) refl (found_changed k change cs)
  where
    by_flag : (flag : Bool) → (c.number == k) ≡ flag → found k (in_first k change cs) ≡ mapped change (found k cs)
        → found k (in_first k change (c ∷ cs)) ≡ mapped change (found k (c ∷ cs))
    by_flag true is rest =
        ap (found k) (first_here k change c cs is) ∙ found_here k (with_end (change c.end) c) cs is ∙ sym (ap (mapped change) (found_here k c cs is))
    by_flag false is rest =
        ap (found k) (first_later k change c cs is) ∙ found_later k c (in_first k change cs) is ∙ rest ∙ sym (ap (mapped change) (found_later k c cs is))

-- one that changes each end to the same does the same
pub first_same : (k : ℕ) (f g : End → End) → ((e : End) → f e ≡ g e) → (cs : List Channel) → in_first k f cs ≡ in_first k g cs
first_same k f g same [] = refl
first_same k f g same (c ∷ cs) =
    ap (λ e. cond (c.number == k) (with_end e c ∷ cs) (c ∷ in_first k f cs)) (same c.end)
    ∙ ap (λ xs. cond (c.number == k) (with_end (g c.end) c ∷ cs) (c ∷ xs)) (first_same k f g same cs)

-- and where the end that is found stays, all do
pub first_kept : (k : ℕ) (f : End → End) (cs : List Channel) → mapped f (found k cs) ≡ found k cs → in_first k f cs ≡ cs
first_kept k f [] kept = refl
first_kept k f (c ∷ cs) kept = by_flag (c.number == k) refl (λ there. first_kept k f cs there)
  where
    by_flag : (flag : Bool) → (c.number == k) ≡ flag → (mapped f (found k cs) ≡ found k cs → in_first k f cs ≡ cs) → in_first k f (c ∷ cs) ≡ c ∷ cs
    by_flag true is rest =
        let here : mapped f (Some c) ≡ Some c = sym (ap (mapped f) (found_here k c cs is)) ∙ kept ∙ found_here k c cs is in
        first_here k f c cs is ∙ ap (λ x. x ∷ cs) (same_Some (with_end (f c.end) c) c here)
    by_flag false is rest =
        let there : mapped f (found k cs) ≡ found k cs = sym (ap (mapped f) (found_later k c cs is)) ∙ kept ∙ found_later k c cs is in
        first_later k f c cs is ∙ ap (λ xs. c ∷ xs) (rest there)

-- ---- An end gives the first message that it has queued

abbrev without_first : End → End
without_first e = unless_spent e e (record e { queued = drop 1 e.queued })

abbrev with_queue : Bool → List Outgoing → End → End
with_queue spent queue e = record e { is_spent = spent; queued = queue }

once_emptied : (spent : Bool) (e : End) → emptied (without_first (record e { is_spent = spent })) ≡ emptied (record e { is_spent = spent })
once_emptied true e = refl
once_emptied false e = refl

pub emptied_after : (e : End) → emptied (without_first e) ≡ emptied e
emptied_after e = once_emptied e.is_spent e

none_by : (spent : Bool) (e : End) → queue_of (Some (emptied (record e { is_spent = spent }))) ≡ []
none_by true e = refl
none_by false e = refl

pub none_queued : (e : End) → queue_of (Some (emptied e)) ≡ []
none_queued e = none_by e.is_spent e

rest_by : (spent : Bool) (queue : List Outgoing) (c : Channel) (out : Outgoing) → first_of (Some (with_end (with_queue spent queue c.end) c)) ≡ Some out
    → queue_of (end_in (Some (with_end (with_queue spent queue c.end) c))) ≡ out ∷ queue_of (end_in (mapped without_first (Some (with_end (with_queue spent queue c.end) c))))
rest_by true queue c out gives = absurd (none-some out gives)
rest_by false [] c out gives = absurd (none-some out gives)
rest_by false (x ∷ xs) c out gives = ap (λ y. y ∷ xs) (same_Some x out gives)

rest_of : (there : Option Channel) (out : Outgoing) → first_of there ≡ Some out → queue_of (end_in there) ≡ out ∷ queue_of (end_in (mapped without_first there))
rest_of None out gives = absurd (none-some out gives)
rest_of (Some c) out gives = rest_by c.end.is_spent c.end.queued c out gives

abbrev IsEmpty : Option Channel → Type 0
IsEmpty there = (queue_of (end_in there) ≡ []) × (mapped emptied there ≡ there) × (mapped without_first there ≡ there)

empty_by : (spent : Bool) (queue : List Outgoing) (c : Channel) → first_of (Some (with_end (with_queue spent queue c.end) c)) ≡ None → IsEmpty (Some (with_end (with_queue spent queue c.end) c))
empty_by true queue c gives = (refl, refl, refl)
empty_by false [] c gives = (refl, refl, refl)
empty_by false (x ∷ xs) c gives = absurd (none-some x (sym gives))

empty_of : (there : Option Channel) → first_of there ≡ None → IsEmpty there
empty_of None gives = (refl, refl, refl)
empty_of (Some c) gives = empty_by c.end.is_spent c.end.queued c gives

-- ---- So does an agent

pub record GoesOn (k : ℕ) (a next : AgentValue) (out : Outgoing) : Type 0 where
  pub queue : queue_of (end_in (channel_of k a)) ≡ out ∷ queue_of (end_in (channel_of k next))
  pub same : agent_emptied k next ≡ agent_emptied k a
  pub fewer : length (queue_of (end_in (channel_of k next))) < length (queue_of (end_in (channel_of k a)))

one_fewer : (out : Outgoing) (outs all : List Outgoing) → all ≡ out ∷ outs → length outs < length all
one_fewer out outs all is = rw is (omega arith)

goes_on : (k : ℕ) (a : AgentValue) (out : Outgoing) → given k a ≡ Some out → GoesOn k a (after_giving k a) out
unfolding given after_giving
goes_on k a out gives =
    let cs = a.channels in
    let is = place_found k cs in
    let after : channel_at (place_of k (changed k without_first cs)) (changed k without_first cs) ≡ mapped without_first (found k cs) =
    place_found k (changed k without_first cs) ∙ ap (found k) (changed_first k without_first cs) ∙ found_changed k without_first cs in
    let queue : queue_of (end_in (channel_of k a)) ≡ out ∷ queue_of (end_in (channel_of k (after_giving k a))) =
    ap (λ o. queue_of (end_in o)) is ∙ rest_of (found k cs) out (sym (ap first_of is) ∙ gives)
    ∙ ap (λ o. out ∷ queue_of (end_in o)) (sym after) in
    record {
      queue = queue;
      same = ap (λ xs. record a { channels = xs })
          (changed_first k emptied (changed k without_first cs) ∙ ap (in_first k emptied) (changed_first k without_first cs)
          ∙ first_twice k without_first emptied cs ∙ first_same k (λ e. emptied (without_first e)) emptied emptied_after cs ∙ sym (changed_first k emptied cs));
      fewer = one_fewer out (queue_of (end_in (channel_of k (after_giving k a)))) (queue_of (end_in (channel_of k a))) queue;
    }

pub agent_goes_on : (k : ℕ) (a next : AgentValue) (out : Outgoing) → given k a ≡ Some out → next ≡ after_giving k a → GoesOn k a next out
agent_goes_on k a next out gives is = subst (λ x. GoesOn k a x out) (sym is) (goes_on k a out gives)

-- one that gives nothing has nothing queued
pub record IsDone (k : ℕ) (a next : AgentValue) : Type 0 where
  pub queue : queue_of (end_in (channel_of k a)) ≡ []
  pub same : next ≡ agent_emptied k a

done : (k : ℕ) (a : AgentValue) → given k a ≡ None → IsDone k a (after_giving k a)
unfolding given after_giving
done k a gives =
    let cs = a.channels in
    let is = place_found k cs in
    let none = empty_of (found k cs) (sym (ap first_of is) ∙ gives) in
    record {
      queue = ap (λ o. queue_of (end_in o)) is ∙ none.0;
      same = ap (λ xs. record a { channels = xs })
          (changed_first k without_first cs ∙ first_kept k without_first cs none.2 ∙ sym (changed_first k emptied cs ∙ first_kept k emptied cs none.1));
    }

pub agent_is_done : (k : ℕ) (a next : AgentValue) → given k a ≡ None → next ≡ after_giving k a → IsDone k a next
agent_is_done k a next gives is = subst (λ x. IsDone k a x) (sym is) (done k a gives)

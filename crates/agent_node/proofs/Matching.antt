-- The channels of an agent change with their pasts.
use Rattle.std.proofs.Common.{◌≡◌, ℕ, ◌==◌, Bool, true, false, cond, List, [], ◌∷◌, drop, map, Some, None, refl, sym, ap, ◌∙◌, subst}
use Rattle.channel_core.specs.Closing.{is_closed}
use Rattle.channel_core.specs.EndValue.{unless_spent}
use Rattle.channel_core.specs.Receiving.{delivered as end_delivered, ended as end_ended}
use Rattle.channel_core.specs.Runs.{Call as EndCall, called, delivering, ending, putting_out, sending, taking}
use Rattle.channel_core.specs.Sending.{queued}
use Rattle.target_hub.specs.declared.done.Answered.{Answered}
use Rattle.target_hub.specs.declared.done.Answered.TheVariants.{Unknown, Result}
use Rattle.target_hub.specs.declared.done.Done.{Done}
use Rattle.tcf_values.specs.declared.event.EventData.{EventData}
use Rattle.agent_node.specs.Channels.{End, answer_message, answer_queued, event_message, event_queued, progress_queued, told_all, unless_closed, with_end}
use Rattle.agent_node.specs.Runs.{Past, answer_calls, answer_of, event_call, on_number, on_open, progress_call, run_of, unless_over, with_calls}
use Rattle.channel_list.specs.declared.channel.Channel.{Channel}
use Rattle.agent_node.proofs.Calls.{end_more, ends, ends_append, sendings_none}
use Rattle.agent_node.proofs.Following.{answers_calls, events_calls}
use Rattle.agent_node.proofs.Places.{at, next_end}
use Rattle.agent_node.proofs.Standing.{IsGone, Match, Stands, closed_takes_none, run_unspent, stand_mapped}
use Rattle.agent_node.proofs.Tokens.{caller_unheld, event_unheld}

-- ---- One channel

abbrev pub DoesCalls : (End → End) → List (EndCall Unit) → Type 0
DoesCalls change calls = (past : Past) → change (run_of past).end ≡ ends calls (run_of past).end

abbrev pub KeepsGone : (Past → Past) → Type 0
KeepsGone g = (past : Past) → IsGone past → IsGone (g past)

-- the number is the past's own
one_match : (k : ℕ) (change : End → End) (calls : List (EndCall Unit)) → DoesCalls change calls → (c : Channel) (past : Past) → Match c past → Match (at k change c) (on_number k calls past)
one_match k change calls does c past m =
    let P : Bool → Type 0 = λ b. Match (cond b (with_end (change c.end) c) c) (on_number k calls past) in
    subst P (ap (λ n. n == k) (sym m.number)) (by_flag (past.number == k))
  where
    by_flag : (flag : Bool) → Match (cond flag (with_end (change c.end) c) c) (cond flag (with_calls calls past) past)
    by_flag true = record { number = m.number; end = ap change m.end ∙ does past ∙ sym (end_more calls past) }
    by_flag false = m

one_gone : (k : ℕ) (calls : List (EndCall Unit)) → KeepsGone (with_calls calls) → KeepsGone (on_number k calls)
one_gone k calls keeps past gone = by_flag (past.number == k)
  where
    by_flag : (flag : Bool) → IsGone (cond flag (with_calls calls past) past)
    by_flag true = keeps past gone
    by_flag false = gone

pub stand_one : (k : ℕ) (change : End → End) (calls : List (EndCall Unit)) → DoesCalls change calls → KeepsGone (with_calls calls) → {cs : List Channel} {pasts : List Past} → Stands cs pasts → Stands (map (at k change) cs) (map (on_number k calls) pasts)
stand_one k change calls does keeps stands = stand_mapped (at k change) (on_number k calls) (one_match k change calls does) (one_gone k calls keeps) stands

-- calls that leave a closed end as it is
gone_same : (calls : List (EndCall Unit)) (past : Past) → ends calls (run_of past).end ≡ (run_of past).end → IsGone past → IsGone (with_calls calls past)
gone_same calls past same gone =
    let is = end_more calls past ∙ same in record { closed = ap (λ e. is_closed e.state) is ∙ gone.closed; empty = ap (λ e. e.queued) is ∙ gone.empty }

-- ---- The calls

pub taking_gone : KeepsGone (with_calls (taking ∷ []))
taking_gone past gone = gone_same (taking ∷ []) past (ap (λ p. p.1) (closed_takes_none past gone.closed)) gone

pub taking_does : DoesCalls next_end (taking ∷ [])
taking_does past = refl

pub ending_gone : KeepsGone (with_calls (ending ∷ []))
ending_gone past gone = gone_same (ending ∷ []) past (same (run_of past).end gone.closed) gone
  where
    same : (e : End) → is_closed e.state ≡ true → end_ended e ≡ e
    same e closed = rw closed refl

pub ending_does : DoesCalls (λ end. unless_spent end end (end_ended end)) (ending ∷ [])
ending_does past = ap (λ b. cond b (run_of past).end (end_ended (run_of past).end)) (run_unspent past)

pub giving_gone : KeepsGone (with_calls (putting_out ∷ []))
giving_gone past gone = record { closed = ap (λ e. is_closed e.state) (end_more (putting_out ∷ []) past) ∙ gone.closed; empty = ap (λ e. e.queued) (end_more (putting_out ∷ []) past) ∙ ap (drop 1) gone.empty }

pub giving_does : DoesCalls (λ end. unless_spent end end (record end { queued = drop 1 end.queued })) (putting_out ∷ [])
giving_does past = ap (λ b. cond b (run_of past).end (record (run_of past).end { queued = drop 1 (run_of past).end.queued })) (run_unspent past)

-- ---- A piece, for an open end

open_match : (k : ℕ) (piece : List ℕ) (c : Channel) (past : Past) → Match c past → Match (at k (unless_closed (end_delivered piece None)) c) (on_open k (delivering piece None ∷ []) past)
open_match k piece c past m =
    let P : Bool → Type 0 = λ b. Match (cond b (with_end (unless_closed (end_delivered piece None) c.end) c) c) (on_open k (delivering piece None ∷ []) past) in
    subst P (ap (λ n. n == k) (sym m.number)) (by_flag (past.number == k))
  where
    by_state : (closed : Bool) → is_closed (run_of past).end.state ≡ closed → cond closed (run_of past).end (end_delivered piece None (run_of past).end) ≡ (run_of (unless_over closed (delivering piece None ∷ []) past)).end
    by_state true is = refl
    by_state false is = sym (end_more (delivering piece None ∷ []) past)

    over_number : (closed : Bool) → past.number ≡ (unless_over closed (delivering piece None ∷ []) past).number
    over_number true = refl
    over_number false = refl

    by_flag : (flag : Bool) → Match (cond flag (with_end (unless_closed (end_delivered piece None) c.end) c) c) (cond flag (unless_over (is_closed (run_of past).end.state) (delivering piece None ∷ []) past) past)
    by_flag true = record {
      number = m.number ∙ over_number (is_closed (run_of past).end.state);
      end = ap (unless_closed (end_delivered piece None)) m.end ∙ by_state (is_closed (run_of past).end.state) refl;
    }
    by_flag false = m

open_gone : (k : ℕ) (calls : List (EndCall Unit)) → KeepsGone (on_open k calls)
open_gone k calls past gone = by_flag (past.number == k)
  where
    by_flag : (flag : Bool) → IsGone (cond flag (unless_over (is_closed (run_of past).end.state) calls past) past)
    by_flag true = let P : Bool → Type 0 = λ b. IsGone (unless_over b calls past) in subst P (sym gone.closed) gone
    by_flag false = gone

pub stand_open : (k : ℕ) (piece : List ℕ) → {cs : List Channel} {pasts : List Past} → Stands cs pasts → Stands (map (at k (unless_closed (end_delivered piece None))) cs) (map (on_open k (delivering piece None ∷ [])) pasts)
stand_open k piece stands = stand_mapped (at k (unless_closed (end_delivered piece None))) (on_open k (delivering piece None ∷ [])) (open_match k piece) (open_gone k (delivering piece None ∷ [])) stands

-- ---- Events, for all

pub heard_all : List EventData → ℕ → Channel → Channel
heard_all [] position c = c
heard_all (told ∷ events) position c = heard_all events position (event_queued told position c)

mapped_twice : {A : Type 0} → (f g : A → A) (xs : List A) → map f (map g xs) ≡ map (λ x. f (g x)) xs
mapped_twice f g [] = refl
mapped_twice f g (x ∷ xs) = ap (λ ys. f (g x) ∷ ys) (mapped_twice f g xs)

heard_none : (position : ℕ) (cs : List Channel) → cs ≡ map (heard_all [] position) cs
unfolding heard_all
heard_none position [] = refl
heard_none position (c ∷ cs) = ap (λ xs. c ∷ xs) (heard_none position cs)

pub told_all_map : (events : List EventData) (position : ℕ) (cs : List Channel) → told_all events position cs ≡ map (heard_all events position) cs
unfolding heard_all
told_all_map [] position cs = heard_none position cs
told_all_map (told ∷ events) position cs =
    told_all_map events position (map (event_queued told position) cs) ∙ mapped_twice (heard_all events position) (event_queued told position) cs

heard_number : (events : List EventData) (position : ℕ) (c : Channel) → (heard_all events position c).number ≡ c.number
unfolding heard_all
heard_number [] position c = refl
heard_number (told ∷ events) position c = heard_number events position (event_queued told position c)

heard_end : (events : List EventData) (position : ℕ) (c : Channel) → (heard_all events position c).end ≡ ends (map (event_call position) events) c.end
unfolding heard_all event_message
heard_end [] position c = refl
heard_end (told ∷ events) position c = heard_end events position (event_queued told position c)

heard_match : (events : List EventData) (position : ℕ) (c : Channel) (past : Past) → Match c past → Match (heard_all events position c) (with_calls (map (event_call position) events) past)
heard_match events position c past m = record {
  number = heard_number events position c ∙ m.number;
  end = heard_end events position c ∙ ap (ends (map (event_call position) events)) m.end ∙ sym (end_more (map (event_call position) events) past);
}

heard_gone : (events : List EventData) (position : ℕ) → KeepsGone (with_calls (map (event_call position) events))
heard_gone events position past gone =
    gone_same (map (event_call position) events) past
    (ap (λ calls. ends calls (run_of past).end) (events_calls position events) ∙ sendings_none position (map event_unheld events) (run_of past).end gone.closed) gone

pub stand_heard : (events : List EventData) (position : ℕ) → {cs : List Channel} {pasts : List Past} → Stands cs pasts → Stands (told_all events position cs) (map (with_calls (map (event_call position) events)) pasts)
stand_heard events position {cs} {pasts} stands =
    let P : List Channel → Type 0 = λ xs. Stands xs (map (with_calls (map (event_call position) events)) pasts) in
    subst P (sym (told_all_map events position cs)) (stand_mapped (heard_all events position) (with_calls (map (event_call position) events)) (heard_match events position) (heard_gone events position) stands)

-- ---- The answer, for the caller

progress_does : (token : List ℕ) (position : ℕ) (progress : List ℕ) (e : End) → progress_queued token progress position e ≡ ends (map (progress_call token position) progress) e
progress_does token position [] e = refl
progress_does token position (address ∷ progress) e = progress_does token position progress (called (progress_call token position address) e)

abbrev sending_answer : List ℕ → ℕ → Answered → List (EndCall Unit)
sending_answer token position answer = sending (answer_of token answer) (Some position) ∷ []

answer_does : (token : List ℕ) (position : ℕ) (answer : Answered) (e : End) → queued (answer_message token answer) (Some position) e ≡ ends (sending_answer token position answer) e
answer_does token position Unknown e = refl
answer_does token position (Result body) e = refl

pub answers_do : (token : List ℕ) (position : ℕ) (done : Done) → DoesCalls (answer_queued token done position) (answer_calls token position done)
answers_do token position done past =
    ap (queued (answer_message token done.answer) (Some position)) (progress_does token position done.progress (run_of past).end)
    ∙ answer_does token position done.answer (ends (map (progress_call token position) done.progress) (run_of past).end)
    ∙ sym (ends_append (map (progress_call token position) done.progress) (sending_answer token position done.answer) (run_of past).end)

pub answers_gone : (token : List ℕ) (position : ℕ) (done : Done) → KeepsGone (with_calls (answer_calls token position done))
answers_gone token position done past gone =
    gone_same (answer_calls token position done) past
    (ap (λ calls. ends calls (run_of past).end) (answers_calls token position done) ∙ sendings_none position (caller_unheld token done.progress done.answer) (run_of past).end gone.closed) gone

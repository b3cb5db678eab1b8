-- What a channel is told, as messages one at a time, to one whose commands have these tokens.
use Rattle.std.proofs.Common.{◌≡◌, ℕ, ◌≤◌, List, [], ◌∷◌, ◌++◌, drop, length, map, Some, refl, ap, ap₂, sym, ◌∙◌, subst}
use Rattle.agent_node.specs.AgentLaws.{first_token, messages_told}
use Rattle.channel_core.specs.Arrivals.{Spoken}
use Rattle.channel_core.specs.Wire.{hello, locator}
use Rattle.target_contexts.specs.declared.process.Image.{Image}
use Rattle.list_laws.specs.Fronts.{IsFront}
use Rattle.list_laws.proofs.Fronts.{front_first, front_rest, no_front}
use Rattle.target_hub.specs.Sent.{ReadCommand, Told, event_at, final_at, hello_at, progress_at, unknown_at}
use Rattle.target_hub.specs.declared.input.Input.{Input}
use Rattle.target_truth.specs.Taught.{open_after}
use Rattle.tcf_message.specs.Message.{event, final, not_known, progress}
use Rattle.value_node.specs.Asked.{Asked}
use Rattle.chain_told.specs.Sent.{read_as}
use Rattle.chain_told.proofs.Agents.Answering.{AnswersSo, Come, Comes, FirstIs, IsNotKnown}
use Rattle.list_laws.proofs.Lists.{nothing_there}

-- ---- the messages

abbrev pub tokens_in : List Asked → List (List ℕ)
tokens_in commands = map (λ c. c.token) commands

abbrev pub spoken : List Asked → List Told → List Spoken
spoken left told = map (λ m. record { message = m.0; mark = m.1 }) (messages_told (tokens_in left) told)

-- one message, where these commands have no answer yet
abbrev pub one_told : List Asked → Told → Spoken
one_told left (hello_at place body) = record { message = event locator hello body; mark = Some place }
one_told left (event_at place service name body) = record { message = event service name body; mark = Some place }
one_told left (progress_at place body) = record { message = progress (first_token (tokens_in left)) body; mark = Some place }
one_told left (final_at place through body) = record { message = final (first_token (tokens_in left)) body; mark = Some place }
one_told left (unknown_at place through) = record { message = not_known (first_token (tokens_in left)); mark = Some place }

-- those that have none behind it
abbrev pub behind : Told → List Asked → List Asked
behind (hello_at place body) left = left
behind (event_at place service name body) left = left
behind (progress_at place body) left = left
behind (final_at place through body) left = drop 1 left
behind (unknown_at place through) left = drop 1 left

abbrev pub left_behind : List Told → List Asked → List Asked
left_behind [] left = left
left_behind (now ∷ told) left = left_behind told (behind now left)

pub spoken_first : (left : List Asked) (now : Told) (told : List Told) → spoken left (now ∷ told) ≡ one_told left now ∷ spoken (behind now left) told
spoken_first left (hello_at place body) told = refl
spoken_first left (event_at place service name body) told = refl
spoken_first left (progress_at place body) told = refl
spoken_first [] (final_at place through body) told = refl
spoken_first (c ∷ left) (final_at place through body) told = refl
spoken_first [] (unknown_at place through) told = refl
spoken_first (c ∷ left) (unknown_at place through) told = refl

pub spoken_append : (front more : List Told) (left : List Asked) → spoken left (front ++ more) ≡ spoken left front ++ spoken (left_behind front left) more
spoken_append [] more left = refl
spoken_append (now ∷ front) more left =
    spoken_first left now (front ++ more)
    ∙ ap (λ l. one_told left now ∷ l) (spoken_append front more (behind now left))
    ∙ ap (λ l. l ++ spoken (left_behind front (behind now left)) more) (sym (spoken_first left now front))

pub spoken_push : (front : List Told) (now : Told) (left : List Asked) → spoken left (front ++ now ∷ []) ≡ spoken left front ++ one_told (left_behind front left) now ∷ []
spoken_push front now left =
    spoken_append front (now ∷ []) left ∙ ap (λ l. spoken left front ++ l) (spoken_first (left_behind front left) now [])

-- ---- one of them

-- a message behind others is told behind what they tell
pub record Cut (left : List Asked) (told : List Told) (before : List Spoken) (s : Spoken) : Type 0 where
  pub front : List Told
  pub now : Told
  pub more : List Told
  pub split : told ≡ front ++ now ∷ more
  pub first : before ≡ spoken left front
  pub is : s ≡ one_told (left_behind front left) now

cut_on : (left : List Asked) (now : Told) (told : List Told) (before : List Spoken) (s b : Spoken) → b ≡ one_told left now → Cut (behind now left) told before s → Cut left (now ∷ told) (b ∷ before) s
cut_on left now told before s b head further = record {
  front = now ∷ further.front;
  now = further.now;
  more = further.more;
  split = ap (λ l. now ∷ l) further.split;
  first = ap₂ (λ a l. a ∷ l) head further.first ∙ sym (spoken_first left now further.front);
  is = further.is;
}

pub cut : (told : List Told) (left : List Asked) (before rest : List Spoken) (s : Spoken) → spoken left told ≡ before ++ s ∷ rest → Cut left told before s
cut [] left before rest s e = absurd (nothing_there before rest s e)
cut (now ∷ told) left [] rest s e =
    let whole : one_told left now ∷ spoken (behind now left) told ≡ s ∷ rest = sym (spoken_first left now told) ∙ e in
    let head : s ≡ one_told left now = cc in
    record { front = []; now = now; more = told; split = refl; first = refl; is = head }
cut (now ∷ told) left (b ∷ before) rest s e =
    let whole : one_told left now ∷ spoken (behind now left) told ≡ b ∷ (before ++ s ∷ rest) = sym (spoken_first left now told) ∙ e in
    let head : b ≡ one_told left now = cc in
    let tail : spoken (behind now left) told ≡ before ++ s ∷ rest = cc in
    cut_on left now told before s b head (cut told (behind now left) before rest s tail)

-- ---- what comes, by the commands of the one who hears it

abbrev pub ComesTo : List Image → List Input → List Asked → Told → Type 0
ComesTo images history left (hello_at place body) = place ≤ length history
ComesTo images history left (event_at place service name body) = place ≤ length history
ComesTo images history left (progress_at place body) = (place ≤ length history) × FirstIs (λ (c : Asked). Unit {0}) left
ComesTo images history left (final_at place through body) =
    (place ≤ length history) × FirstIs (λ (c : Asked). AnswersSo images history place through body (read_as c)) left
ComesTo images history left (unknown_at place through) = (place ≤ length history) × FirstIs (λ (c : Asked). IsNotKnown through (read_as c)) left

abbrev pub ComeTo : List Image → List Input → List Asked → List Told → Type 0
ComeTo images history left [] = Unit {0}
ComeTo images history left (now ∷ told) = ComesTo images history left now × ComeTo images history (behind now left) told

first_to : (P : ReadCommand → Type 0) (asked : List ReadCommand) (left : List Asked) → IsFront asked (map read_as left) → FirstIs P asked → FirstIs (λ (c : Asked). P (read_as c)) left
first_to P [] left front is = absurd is
first_to P (a ∷ asked) [] front is = absurd (no_front a asked front)
first_to P (a ∷ asked) (c ∷ left) front is = subst P (front_first a (read_as c) asked (map read_as left) front) is

first_any : (asked : List ReadCommand) (left : List Asked) → IsFront asked (map read_as left) → FirstIs (λ (c : ReadCommand). Unit {0}) asked → FirstIs (λ (c : Asked). Unit {0}) left
first_any [] left front is = absurd is
first_any (a ∷ asked) [] front is = absurd (no_front a asked front)
first_any (a ∷ asked) (c ∷ left) front is = tt

front_dropped : (asked : List ReadCommand) (left : List Asked) → IsFront asked (map read_as left) → IsFront (drop 1 asked) (map read_as (drop 1 left))
front_dropped [] left front = (map read_as (drop 1 left), refl)
front_dropped (a ∷ asked) [] front = absurd (no_front a asked front)
front_dropped (a ∷ asked) (c ∷ left) front =
    front_rest a (read_as c) asked (map read_as left) front

pub front_behind : (now : Told) (asked : List ReadCommand) (left : List Asked) → IsFront asked (map read_as left) → IsFront (open_after now asked) (map read_as (behind now left))
front_behind (hello_at place body) asked left front = front
front_behind (event_at place service name body) asked left front = front
front_behind (progress_at place body) asked left front = front
front_behind (final_at place through body) asked left front = front_dropped asked left front
front_behind (unknown_at place through) asked left front = front_dropped asked left front

comes_to : (images : List Image) (history : List Input) (now : Told) (asked : List ReadCommand) (left : List Asked) → IsFront asked (map read_as left) → Comes images history asked now
    → ComesTo images history left now
comes_to images history (hello_at place body) asked left front comes = comes
comes_to images history (event_at place service name body) asked left front comes = comes
comes_to images history (progress_at place body) asked left front comes = (comes.0, first_any asked left front comes.1)
comes_to images history (final_at place through body) asked left front comes = (comes.0, first_to (AnswersSo images history place through body) asked left front comes.1)
comes_to images history (unknown_at place through) asked left front comes = (comes.0, first_to (IsNotKnown through) asked left front comes.1)

pub come_to : (images : List Image) (history : List Input) (told : List Told) (asked : List ReadCommand) (left : List Asked) → IsFront asked (map read_as left) → Come images history asked told
    → ComeTo images history left told
come_to images history [] asked left front come = tt
come_to images history (now ∷ told) asked left front come =
    (comes_to images history now asked left front come.0, come_to images history told (open_after now asked) (behind now left) (front_behind now asked left front) come.1)

pub come_front : (images : List Image) (history : List Input) (front more : List Told) (left : List Asked) → ComeTo images history left (front ++ more) → ComeTo images history left front
come_front images history [] more left come = tt
come_front images history (now ∷ front) more left come = (come.0, come_front images history front more (behind now left) come.1)

pub come_at : (images : List Image) (history : List Input) (front more : List Told) (now : Told) (left : List Asked) → ComeTo images history left (front ++ now ∷ more)
    → ComesTo images history (left_behind front left) now
come_at images history [] more now left come = come.0
come_at images history (first ∷ front) more now left come = come_at images history front more now (behind first left) come.1

-- The messages that a channel is told: they can be read, answer each command, and answer each redirect with an error.
use Rattle.std.proofs.Common.{◌≡◌, ℕ, ◌≤◌, Bool, true, false, not, ◌&&◌, ◌||◌, List, [], ◌∷◌, map, Option, Some, refl, ap, arith}
use Rattle.std.specs.Prelude.{bytes_eq}
use Rattle.std.specs.List.{AllByRecursion}
use Rattle.std.proofs.lemmas.Slice.Eq.{bytes_eq-Decides}
use Rattle.std.proofs.lemmas.Bool.{or_left, or_from, or_right, and_left, and_right}
use Rattle.agent_node.specs.AgentLaws.{Asked, all_said, messages_told, read, tokens}
use Rattle.channel_core.specs.Arrivals.{AreSpoken, Spoken, all_said as all_spoken}
use Rattle.channel_core.specs.Wire.{event_said, hello, is_done, is_redirect, locator, said}
use Rattle.channel_laws.specs.Meeting.{answers_among, does_one, hello_behind, lacks_hello_behind}
use Rattle.target_hub.specs.Sent.{Told, event_at, final_at, hello_at, progress_at, unknown_at}
use Rattle.tcf_message.specs.Message.{IsToken, MessageValue, event, final, most_body, not_known, progress}
use Rattle.node_answers.proofs.Agents.Numbered.{IsApart, is_among}
use Rattle.node_answers.proofs.Agents.Telling.{Come}
use Rattle.list_laws.proofs.AllLists.{all_weaker}

abbrev pub spoken_of : List (MessageValue × Option ℕ) → List Spoken
spoken_of messages = map (λ m. record { message = m.0; mark = m.1 }) messages

-- what is told to a channel that asked so
abbrev pub told_to : List Asked → List Told → List Spoken
told_to commands told = spoken_of (messages_told (tokens commands) told)

pub said_spoken : (messages : List (MessageValue × Option ℕ)) → all_said messages ≡ all_spoken (spoken_of messages)
said_spoken [] = refl
said_spoken (m ∷ messages) = ap (λ os. said m.0 m.1 ∷ os) (said_spoken messages)

-- ---- They can be read

pub told_formed : (commands : List Asked) (told : List Told) → AllByRecursion (λ c. IsToken c.token) commands → Come (map read commands) told → AreSpoken (told_to commands told)
told_formed commands [] named come = tt
told_formed commands (hello_at position body ∷ told) named come = (come.0, told_formed commands told named come.1)
told_formed commands (event_at position service name body ∷ told) named come = (come.0, told_formed commands told named come.1)
told_formed [] (progress_at position body ∷ told) named come = absurd come.0.1
told_formed (c ∷ commands) (progress_at position body ∷ told) named come = ((named.0, come.0.0), told_formed (c ∷ commands) told named come.1)
told_formed [] (final_at position through body ∷ told) named come = absurd come.0.1
told_formed (c ∷ commands) (final_at position through body ∷ told) named come = ((named.0, come.0.0), told_formed commands told named.1 come.1)
told_formed [] (unknown_at position through ∷ told) named come = absurd come.0
told_formed (c ∷ commands) (unknown_at position through ∷ told) named come =
    let none : 0 ≤ most_body = omega arith in ((named.0, none), told_formed commands told named.1 come.1)

-- ---- Each command is answered

own_token : (token : List ℕ) → (bytes_eq token token || false) ≡ true
own_token token = or_left (bytes_eq token token) false ((bytes_eq-Decides token token).1 refl)

abbrev pub AreAnswered : List Spoken → List Asked → Type 0
AreAnswered spoken commands = AllByRecursion (λ c. answers_among c.token spoken ≡ true) commands

answered_behind : (s : Spoken) (spoken : List Spoken) (commands : List Asked) → AreAnswered spoken commands → AreAnswered (s ∷ spoken) commands
answered_behind s spoken commands each =
    all_weaker (λ c. answers_among c.token spoken ≡ true) (λ c. answers_among c.token (s ∷ spoken) ≡ true) commands (λ c is. or_right _ (answers_among c.token spoken) is) each

pub told_answered : (commands : List Asked) (told : List Told) → Come (map read commands) told → AreAnswered (told_to commands told) commands
told_answered [] told come = tt
told_answered (c ∷ commands) [] come = let none : read c ∷ map read commands ≡ [] = come in absurd cc
told_answered (c ∷ commands) (hello_at position body ∷ told) come =
    answered_behind (record { message = event locator hello body; mark = Some position }) (told_to (c ∷ commands) told) (c ∷ commands) (told_answered (c ∷ commands) told come.1)
told_answered (c ∷ commands) (event_at position service name body ∷ told) come =
    answered_behind (record { message = event service name body; mark = Some position }) (told_to (c ∷ commands) told) (c ∷ commands) (told_answered (c ∷ commands) told come.1)
told_answered (c ∷ commands) (progress_at position body ∷ told) come =
    answered_behind (record { message = progress c.token body; mark = Some position }) (told_to (c ∷ commands) told) (c ∷ commands) (told_answered (c ∷ commands) told come.1)
told_answered (c ∷ commands) (final_at position through body ∷ told) come = (
  or_left _ (answers_among c.token (told_to commands told)) (own_token c.token),
  answered_behind (record { message = final c.token body; mark = Some position }) (told_to commands told) commands (told_answered commands told come.1),
)
told_answered (c ∷ commands) (unknown_at position through ∷ told) come = (
  or_left _ (answers_among c.token (told_to commands told)) (own_token c.token),
  answered_behind (record { message = not_known c.token; mark = Some position }) (told_to commands told) commands (told_answered commands told come.1),
)

-- ---- No redirect is done

event_does_none : (redirects : List (List ℕ)) (flag : Bool) → does_one redirects (event_said flag) ≡ false
event_does_none redirects true = refl
event_does_none redirects false = refl

none_lacks : (does greeted lacks : Bool) → does ≡ false → lacks ≡ false → ((does && not greeted) || lacks) ≡ false
none_lacks does greeted lacks one two = or_from (does && not greeted) lacks (and_left does (not greeted) one) two

answer_does_none : (redirects : List (List ℕ)) (c : Asked) (body : List ℕ) → IsApart redirects c → (is_redirect c.service c.name ≡ true → is_done body ≡ false) → (is_done body && is_among c.token redirects) ≡ false
answer_does_none redirects c body apart undone = by_flag (is_redirect c.service c.name) refl
  where
    by_flag : (flag : Bool) → is_redirect c.service c.name ≡ flag → (is_done body && is_among c.token redirects) ≡ false
    by_flag true is = and_left (is_done body) (is_among c.token redirects) (undone is)
    by_flag false is = and_right (is_done body) (is_among c.token redirects) (apart is)

pub told_does_none : (redirects : List (List ℕ)) (commands : List Asked) (told : List Told) → AllByRecursion (IsApart redirects) commands → Come (map read commands) told
    → lacks_hello_behind redirects (told_to commands told) ≡ false
told_does_none redirects commands [] apart come = refl
told_does_none redirects commands (hello_at position body ∷ told) apart come =
    none_lacks _ (hello_behind (told_to commands told)) (lacks_hello_behind redirects (told_to commands told)) (event_does_none redirects _) (told_does_none redirects commands told apart come.1)
told_does_none redirects commands (event_at position service name body ∷ told) apart come =
    none_lacks _ (hello_behind (told_to commands told)) (lacks_hello_behind redirects (told_to commands told)) (event_does_none redirects _) (told_does_none redirects commands told apart come.1)
told_does_none redirects [] (progress_at position body ∷ told) apart come = absurd come.0.1
told_does_none redirects (c ∷ commands) (progress_at position body ∷ told) apart come = told_does_none redirects (c ∷ commands) told apart come.1
told_does_none redirects [] (final_at position through body ∷ told) apart come = absurd come.0.1
told_does_none redirects (c ∷ commands) (final_at position through body ∷ told) apart come =
    none_lacks _ (hello_behind (told_to commands told)) (lacks_hello_behind redirects (told_to commands told)) (answer_does_none redirects c body apart.0 come.0.1)
    (told_does_none redirects commands told apart.1 come.1)
told_does_none redirects [] (unknown_at position through ∷ told) apart come = absurd come.0
told_does_none redirects (c ∷ commands) (unknown_at position through ∷ told) apart come = told_does_none redirects commands told apart.1 come.1

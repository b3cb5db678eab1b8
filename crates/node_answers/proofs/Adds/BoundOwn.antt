-- What a value-add said itself before it was bound: each command that it took until then is answered, and it can be read.
use Rattle.std.proofs.Common.{◌≡◌, ℕ, true, false, List, [], ◌∷◌, refl, sym, ap, ◌∙◌, subst}
use Rattle.std.specs.Prelude.{bytes_eq}
use Rattle.std.specs.List.{AllByRecursion, list_any}
use Rattle.std.proofs.lemmas.Bool.{or_left, or_right}
use Rattle.tcf_message.specs.Message.{MessageValue, event}
use Rattle.channel_core.specs.Arrivals.{Spoken}
use Rattle.channel_core.specs.RunLaws.{token_in}
use Rattle.channel_core.specs.Wire.{hello, locator, said_by}
use Rattle.channel_laws.specs.Meeting.{answers_among}
use Rattle.channel_laws.proofs.Rest.Spelling.{AreSpelled, IsSpelled}
use Rattle.value_node.specs.Asked.{Asked}
use Rattle.value_node.specs.OwnMessages.{IsOwn, OwnStep, a_hello, a_result, an_unknown}
use Rattle.node_answers.proofs.Adds.BoundAsked.{IsWritten}
use Rattle.list_laws.proofs.AllLists.{all_then}
use Rattle.list_laws.proofs.Lists.{equal_bytes as alike}

-- ---- It is spelled so

hello_spelled : (body : List ℕ) → IsSpelled (event locator hello body)
unfolding locator hello
hello_spelled body = (refl, refl)

step_spelled : (commands : List Asked) (m : MessageValue) (left : List Asked) → AllByRecursion IsWritten commands → OwnStep commands m left → IsSpelled m × AllByRecursion IsWritten left
step_spelled commands m left written (a_hello body is same) = (subst IsSpelled (sym is) (hello_spelled body), subst (AllByRecursion IsWritten) (sym same) written)
step_spelled commands m left written (a_result c body is at own) = let all = subst (AllByRecursion IsWritten) own written in (subst IsSpelled (sym is) all.0.0.0.0, all.1)
step_spelled commands m left written (an_unknown c is own) = let all = subst (AllByRecursion IsWritten) own written in (subst IsSpelled (sym is) all.0.0.0.0, all.1)

pub own_spelled : (commands left : List Asked) (own : List Spoken) → AllByRecursion IsWritten commands → IsOwn commands own left → AreSpelled own
own_spelled commands left [] written is = tt
own_spelled commands left (s ∷ own) written is =
    let step = step_spelled commands s.message is.1.0 written is.1.1 in (step.0, own_spelled is.1.0 left own step.1 is.1.2)

-- ---- It answers each command

abbrev pub AreAnsweredIn : List Spoken → List Asked → Type 0
AreAnsweredIn spoken commands = AllByRecursion (λ c. answers_among c.token spoken ≡ true) commands

-- an answer is one under its own token
pub answered_here : (s : Spoken) (spoken : List Spoken) (token : List ℕ) → token_in (said_by s.message) ≡ token ∷ [] → answers_among token (s ∷ spoken) ≡ true
answered_here s spoken token is =
    or_left (list_any (λ text. bytes_eq text token) (token_in (said_by s.message))) (answers_among token spoken)
    (ap (λ texts. list_any (λ text. bytes_eq text token) texts) is ∙ or_left (bytes_eq token token) false (alike token token refl))

answered_behind : (s : Spoken) (own : List Spoken) (commands : List Asked) → AreAnsweredIn own commands → AreAnsweredIn (s ∷ own) commands
answered_behind s own commands all =
    all_then (λ (c : Asked). answers_among c.token own ≡ true) (λ (c : Asked). answers_among c.token (s ∷ own) ≡ true)
    (λ c is. or_right (list_any (λ text. bytes_eq text c.token) (token_in (said_by s.message))) (answers_among c.token own) is) commands all

answered_step : (s : Spoken) (own : List Spoken) (commands next : List Asked) → OwnStep commands s.message next → AreAnsweredIn own next → AreAnsweredIn (s ∷ own) commands
answered_step s own commands next (a_hello body is same) all = answered_behind s own commands (subst (AreAnsweredIn own) same all)
answered_step s own commands next (a_result c body is at first) all =
    subst (AreAnsweredIn (s ∷ own)) (sym first) (answered_here s own c.token (ap (λ m. token_in (said_by m)) is), answered_behind s own next all)
answered_step s own commands next (an_unknown c is first) all =
    subst (AreAnsweredIn (s ∷ own)) (sym first) (answered_here s own c.token (ap (λ m. token_in (said_by m)) is), answered_behind s own next all)

pub own_answers : (commands left : List Asked) (own : List Spoken) → IsOwn commands own left → left ≡ [] → AreAnsweredIn own commands
own_answers commands left [] is none = subst (AreAnsweredIn []) (sym (is ∙ none)) tt
own_answers commands left (s ∷ own) is none = answered_step s own commands is.1.0 is.1.1 (own_answers is.1.0 left own is.1.2 none)

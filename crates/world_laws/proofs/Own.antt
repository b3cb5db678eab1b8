-- What value-adds say themselves to a client: it answers the first of its commands, each once and in order.
use Rattle.std.proofs.Common.{◌≡◌, ℕ, suc, ◌+◌, ◌<◌, ◌≤◌, Bool, false, List, [], ◌∷◌, ◌++◌, length, map, refl, sym, ap, ◌∙◌, subst, arith}
use Rattle.std.specs.Prelude.{decimal, ◌^◌}
use Rattle.std.specs.List.{AllByRecursion}
use Rattle.std.proofs.lemmas.Fmt.{decimal_injective}
use Rattle.std.proofs.lemmas.List.{length-map}
use Rattle.channel_core.specs.Arrivals.{AreSpoken, Spoken}
use Rattle.channel_core.specs.Wire.{answers, greets, hello, is_done, locator, said_by, said_in, said_of}
use Rattle.tcf_message.specs.Message.{IsWellFormed, MessageValue, event, final, not_known, spelling}
use Rattle.tcf_text.specs.Lines.{Accepted}
use Rattle.chain_heard.specs.Heard.{asked_as}
use Rattle.value_node.specs.Asked.{Asked}
use Rattle.value_node.specs.OwnMessages.{IsOwn, OwnStep, a_hello, a_result, an_unknown}
use Rattle.tcf_message.proofs.TheLaws.{read_back}
use Rattle.world_laws.proofs.Accepted.{AreCounted}

-- ---- More commands stay left

step_more : (commands left more : List Asked) (m : MessageValue) → OwnStep commands m left → OwnStep (commands ++ more) m (left ++ more)
step_more commands left more m (a_hello body is same) = a_hello body is (ap (λ cs. cs ++ more) same)
step_more commands left more m (a_result c body is at split) = a_result c body is at (ap (λ cs. cs ++ more) split)
step_more commands left more m (an_unknown c is split) = an_unknown c is (ap (λ cs. cs ++ more) split)

pub own_more : (commands : List Asked) (spoken : List Spoken) (left more : List Asked) → IsOwn commands spoken left → IsOwn (commands ++ more) spoken (left ++ more)
own_more commands [] left more is = ap (λ cs. cs ++ more) is
own_more commands (s ∷ spoken) left more is =
    (is.0, (is.1.0 ++ more, step_more commands is.1.0 more s.message is.1.1, own_more is.1.0 spoken left more is.1.2))

-- ---- The last command is answered by the last message alone

step_fewer : (commands left : List Asked) (m : MessageValue) → OwnStep commands m left → length left ≤ length commands
step_fewer commands left m (a_hello body is same) = let many : length left ≡ length commands = ap length same in omega arith
step_fewer commands left m (a_result c body is at split) = let many : length commands ≡ suc (length left) = ap length split in omega arith
step_fewer commands left m (an_unknown c is split) = let many : length commands ≡ suc (length left) = ap length split in omega arith

own_fewer : (commands : List Asked) (spoken : List Spoken) (left : List Asked) → IsOwn commands spoken left → length left ≤ length commands
own_fewer commands [] left is = let many : length commands ≡ length left = ap length is in omega arith
own_fewer commands (s ∷ spoken) left is =
    let here = step_fewer commands is.1.0 s.message is.1.1 in
    let rest = own_fewer is.1.0 spoken left is.1.2 in omega arith

-- it is no answer to the command of this number
abbrev pub AnswersNot : ℕ → Spoken → Type 0
AnswersNot number s = (done : Bool) → said_in (spelling s.message) ≡ answers (decimal number) done → ⊥

greets_so : (body : List ℕ) → said_by (event locator hello body) ≡ greets
unfolding locator hello
greets_so body = refl

pub said_as : (m : MessageValue) → IsWellFormed m → said_in (spelling m) ≡ said_by m
said_as m formed = ap (λ r. said_of r) (read_back.1 m formed)

hello_not : (m : MessageValue) (body : List ℕ) (number : ℕ) (done : Bool) → IsWellFormed m → m ≡ event locator hello body → said_in (spelling m) ≡ answers (decimal number) done → ⊥
hello_not m body number done formed is same =
    let greets_is : answers (decimal number) done ≡ greets = sym same ∙ said_as m formed ∙ ap said_by is ∙ greets_so body in absurd cc

-- an answer to another command
answer_not : (token number : ℕ) (given done : Bool) → token < number → number < 2 ^ 64 → answers (decimal token) given ≡ answers (decimal number) done → ⊥
answer_not token number given done less small same =
    let texts : decimal token ≡ decimal number = cc in
    let below : token < 2 ^ 64 = omega arith in
    let equal : token ≡ number = decimal_injective token number below small texts in absurd (omega arith)

result_not : (m : MessageValue) (name body : List ℕ) (token number : ℕ) (done : Bool) → IsWellFormed m → m ≡ final name body → name ≡ decimal token → token < number → number < 2 ^ 64
    → said_in (spelling m) ≡ answers (decimal number) done → ⊥
result_not m name body token number done formed is named less small same =
    answer_not token number (is_done body) done less small (ap (λ (n : List ℕ). said_by (final n body)) (sym named) ∙ ap said_by (sym is) ∙ sym (said_as m formed) ∙ same)

unknown_not : (m : MessageValue) (name : List ℕ) (token number : ℕ) (done : Bool) → IsWellFormed m → m ≡ not_known name → name ≡ decimal token → token < number → number < 2 ^ 64
    → said_in (spelling m) ≡ answers (decimal number) done → ⊥
unknown_not m name token number done formed is named less small same =
    answer_not token number false done less small (ap (λ (n : List ℕ). said_by (not_known n)) (sym named) ∙ ap said_by (sym is) ∙ sym (said_as m formed) ∙ same)

unanswered_by : (token number : ℕ) (s : Spoken) (spoken : List Spoken) (next : List Asked) → IsWellFormed s.message → number < 2 ^ 64 → 1 ≤ length next
    → ((t : ℕ) (cs : List Accepted) → AreCounted t cs → t + length cs ≡ number + 1 → next ≡ map asked_as cs → AllByRecursion (AnswersNot number) spoken)
    → (commands : List Accepted) → AreCounted token commands → token + length commands ≡ number + 1 → OwnStep (map asked_as commands) s.message next → AllByRecursion (AnswersNot number) (s ∷ spoken)
unanswered_by token number s spoken next formed small some rest commands counted last (a_hello body said same) =
    (λ done is. hello_not s.message body number done formed said is, rest token commands counted last same)
unanswered_by token number s spoken next formed small some rest [] counted last (a_result asked body said at split) = absurd cc
unanswered_by token number s spoken next formed small some rest (x ∷ commands) counted last (a_result asked body said at split) =
    let head : asked_as x ≡ asked = cc in
    let tails : map asked_as commands ≡ next = cc in
    let size : length commands ≡ length next = sym (length-map commands asked_as) ∙ ap length tails in
    let more : (token + 1) + length commands ≡ number + 1 = omega arith in
    let less : token < number = omega arith in
    let named : asked.token ≡ decimal token = ap (λ a. a.token) (sym head) ∙ ap decimal counted.0 in
    (λ done is. result_not s.message asked.token body token number done formed said named less small is, rest (token + 1) commands counted.1 more (sym tails))
unanswered_by token number s spoken next formed small some rest [] counted last (an_unknown asked said split) = absurd cc
unanswered_by token number s spoken next formed small some rest (x ∷ commands) counted last (an_unknown asked said split) =
    let head : asked_as x ≡ asked = cc in
    let tails : map asked_as commands ≡ next = cc in
    let size : length commands ≡ length next = sym (length-map commands asked_as) ∙ ap length tails in
    let more : (token + 1) + length commands ≡ number + 1 = omega arith in
    let less : token < number = omega arith in
    let named : asked.token ≡ decimal token = ap (λ a. a.token) (sym head) ∙ ap decimal counted.0 in
    (λ done is. unknown_not s.message asked.token token number done formed said named less small is, rest (token + 1) commands counted.1 more (sym tails))

-- what is said while the command of this number, the last of these, is left
pub last_unanswered : (token number : ℕ) (commands : List Accepted) (spoken : List Spoken) (left : List Asked) → AreCounted token commands → token + length commands ≡ number + 1 → number < 2 ^ 64 → AreSpoken spoken
    → 1 ≤ length left → IsOwn (map asked_as commands) spoken left → AllByRecursion (AnswersNot number) spoken
last_unanswered token number commands [] left counted last small formed some is = tt
last_unanswered token number commands (s ∷ spoken) left counted last small formed some is =
    let fewer = own_fewer is.1.0 spoken left is.1.2 in
    let many : 1 ≤ length is.1.0 = omega arith in
    unanswered_by token number s spoken is.1.0 formed.0 small many
    (λ t cs c l same. last_unanswered t number cs spoken left c l small formed.1 some (subst (λ xs. IsOwn xs spoken left) same is.1.2)) commands counted last is.1.1

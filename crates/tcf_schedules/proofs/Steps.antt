-- The steps that lines say are those that a schedule can have.
use Rattle.std.proofs.Common.{◌≡◌, ℕ, ◌+◌, ◌||◌, Bool, true, false, List, [], ◌∷◌, map, refl, ◌∙◌, ap, subst, arith}
use Rattle.std.specs.Prelude.{Some, option_map, bytes_eq}
use Rattle.std.specs.List.{AllByRecursion, list_all, list_any}
use Rattle.std.proofs.lemmas.Bool.{and_parts}
use Rattle.std.proofs.lemmas.List.Quantifiers.{position-Some}
use Rattle.tcf_message.specs.Message.{HasNoZero, is_zero}
use Rattle.tcf_values.specs.NumberLaws.{number_found}
use Rattle.tcf_values.specs.OptionLaws.{some_same, and_then_found, map_found}
use Rattle.line_words.specs.Words.{is_inside, is_word}
use Rattle.tcf_schedules.specs.declared.schedule.ChainHead.{ChainHead}
use Rattle.tcf_schedules.specs.Plan.{Plan, opens as plan_opens, send as plan_send, deliver as plan_deliver, turn as plan_turn, tick as plan_tick, close as plan_close, cut as plan_cut, cached as plan_cached, rounds as plan_rounds, times as plan_times, adds_at, IsChain, IsHop, IsTurn, IsSingle, IsStep}
use Rattle.tcf_schedules.specs.Words.{data_of}
use Rattle.tcf_schedules.specs.Line.{PlainStep, opens, sends, delivers, turns, ticks, closes, cuts, asks, LineStep, once, rounds, times, IsPlainStep, IsLineStep}
use Rattle.tcf_schedules.specs.Schedule.{chain_of, hop_of, node_of, hop_in, node_in, plain_plan, plan_in}
use Rattle.list_laws.proofs.Lists.{nil_cons, cons_parts}

-- ---- Places

chain_is : (chains : List ChainHead) (name : List ℕ) (place : ℕ) → chain_of chains name ≡ Some place → IsChain chains place
chain_is chains name place e = (position-Some (λ (c : ChainHead). bytes_eq c.name name) chains place (record { name = []; adds = 0 }) e).0

hop_is : (chains : List ChainHead) (name digits : List ℕ) (at : ℕ × ℕ) → hop_in chains name digits ≡ Some at → IsHop chains at.0 at.1
hop_is chains name digits at e =
    let m = and_then_found (λ place. option_map (λ hop. (place, hop)) (hop_of chains place digits)) (chain_of chains name) at e in
    let k = map_found (λ hop. (m.0, hop)) (hop_of chains m.0 digits) at m.2 in
    subst (λ (a : ℕ × ℕ). IsHop chains a.0 a.1) k.2 (chain_is chains name m.0 m.1, (number_found 0 (adds_at chains m.0) digits k.0 k.1).2)

turn_at : (chains : List ChainHead) (place : ℕ) (up : Bool) (digits : List ℕ) (node : ℕ) → IsChain chains place → node_of chains place up digits ≡ Some node → IsTurn chains place node up
turn_at chains place true digits node is e =
    let found = number_found 1 (adds_at chains place + 1) digits node e in (is, found.1, found.2)
turn_at chains place false digits node is e = (is, (number_found 0 (adds_at chains place) digits node e).2)

turn_is : (chains : List ChainHead) (name digits : List ℕ) (up : Bool) (at : ℕ × ℕ) → node_in chains name up digits ≡ Some at → IsTurn chains at.0 at.1 up
turn_is chains name digits up at e =
    let m = and_then_found (λ place. option_map (λ node. (place, node)) (node_of chains place up digits)) (chain_of chains name) at e in
    let k = map_found (λ node. (m.0, node)) (node_of chains m.0 up digits) at m.2 in
    subst (λ (a : ℕ × ℕ). IsTurn chains a.0 a.1 up) k.2 (turn_at chains m.0 up digits k.0 (chain_is chains name m.0 m.1) k.1)

-- ---- Words

inside_nonzero : (byte : ℕ) → is_inside byte ≡ true → is_zero byte ≡ false
inside_nonzero byte is = grind arith

no_zero : (word : List ℕ) → list_all is_inside word ≡ true → HasNoZero word
no_zero [] all = refl
no_zero (b ∷ bs) all =
    let parts = and_parts (is_inside b) (list_all is_inside bs) all in
    ap (λ t. t || list_any is_zero bs) (inside_nonzero b parts.0) ∙ no_zero bs parts.1

pub word_no_zero : (word : List ℕ) → is_word word ≡ true → HasNoZero word
word_no_zero word is = no_zero word (and_parts _ _ is).1

-- ---- Steps

plain_is : (chains : List ChainHead) (x : PlainStep) (plan : Plan) → IsPlainStep x → plain_plan chains x ≡ Some plan → IsStep chains plan × IsSingle plan
plain_is chains (opens name) plan good e =
    let m = map_found plan_opens (chain_of chains name) plan e in
    subst (λ p. IsStep chains p × IsSingle p) m.2 (chain_is chains name m.0 m.1, tt)
plain_is chains (sends name service command args) plan good e =
    let m = map_found (λ place. plan_send place service command (data_of args)) (chain_of chains name) plan e in
    subst (λ p. IsStep chains p × IsSingle p) m.2 ((chain_is chains name m.0 m.1, word_no_zero service good.1, word_no_zero command good.2), tt)
plain_is chains (delivers name hop up count) plan good e =
    let m = map_found (λ (at : ℕ × ℕ). plan_deliver at.0 at.1 up count) (hop_in chains name hop) plan e in
    subst (λ p. IsStep chains p × IsSingle p) m.2 ((hop_is chains name hop m.0 m.1, good.2, good.3), tt)
plain_is chains (turns name node up) plan good e =
    let m = map_found (λ (at : ℕ × ℕ). plan_turn at.0 at.1 up) (node_in chains name up node) plan e in
    subst (λ p. IsStep chains p × IsSingle p) m.2 (turn_is chains name node up m.0 m.1, tt)
plain_is chains (ticks thread) plan good e = subst (λ p. IsStep chains p × IsSingle p) (some_same (plan_tick thread) plan e) (good, tt)
plain_is chains (closes name) plan good e =
    let m = map_found plan_close (chain_of chains name) plan e in
    subst (λ p. IsStep chains p × IsSingle p) m.2 (chain_is chains name m.0 m.1, tt)
plain_is chains (cuts name hop) plan good e =
    let m = map_found (λ (at : ℕ × ℕ). plan_cut at.0 at.1) (hop_in chains name hop) plan e in
    subst (λ p. IsStep chains p × IsSingle p) m.2 (hop_is chains name hop m.0 m.1, tt)
plain_is chains (asks name what) plan good e =
    let m = map_found (λ place. plan_cached place what) (chain_of chains name) plan e in
    subst (λ p. IsStep chains p × IsSingle p) m.2 ((chain_is chains name m.0 m.1, good.1), tt)

step_is : (chains : List ChainHead) (x : LineStep) (plan : Plan) → IsLineStep x → plan_in chains x ≡ Some plan → IsStep chains plan
step_is chains (once x) plan good e = (plain_is chains x plan good e).0
step_is chains (rounds count) plan good e = subst (IsStep chains) (some_same (plan_rounds count) plan e) good
step_is chains (times count x) plan good e =
    let m = map_found (plan_times count) (plain_plan chains x) plan e in
    let is = plain_is chains x m.0 good.2 m.1 in
    subst (IsStep chains) m.2 (good.0, good.1, is.1, is.0)

-- the steps of some lines
pub steps_are : (chains : List ChainHead) (xs : List LineStep) (plans : List Plan) → AllByRecursion IsLineStep xs → map (plan_in chains) xs ≡ map Some plans
    → AllByRecursion (IsStep chains) plans
steps_are chains xs [] good e = tt
steps_are chains [] (plan ∷ plans) good e = absurd (nil_cons (Some plan) (map Some plans) e)
steps_are chains (x ∷ xs) (plan ∷ plans) good e =
    let both = cons_parts (plan_in chains x) (Some plan) (map (plan_in chains) xs) (map Some plans) e in
    (step_is chains x plan good.0 both.0, steps_are chains xs plans good.1 both.1)

-- Each step of the schedule is said by a line.
use Rattle.std.proofs.Common.{◌≡◌, ℕ, zero, suc, ◌+◌, ◌*◌, ◌^◌, ◌<◌, ◌≤◌, Bool, true, false, cond, eqb, codes, List, [], ◌∷◌, ◌++◌, refl, ◌∙◌, ap, arith}
use Rattle.std.specs.Prelude.{Some, option_map, option_and_then, decimal}
use Rattle.std.specs.List.{AllByRecursion}
use Rattle.std.proofs.lemmas.Fmt.{decimal_digit}
use Rattle.std.proofs.lemmas.Nat.{mod_below}
use Rattle.tcf_values.specs.NumberLaws.{number_there}
use Rattle.tcf_values.specs.Spelling.{context_spelling}
use Rattle.tcf_values.specs.declared.ids.ContextId.TheVariants.{Thread}
use Rattle.line_words.specs.Words.{is_word, spaced}
use Rattle.tcf_schedules.specs.Line.{IsLineStep, LineStep, delivers, once, opens, rounds, sends, ticks, deliver_word, direction_word, down_word, joined, open_word, rounds_word, send_word, step_spelling, tick_word, up_word}
use Rattle.tcf_schedules.specs.Plan.{Plan, adds_at, deliver as plan_deliver, opens as plan_opens, rounds as plan_rounds, send as plan_send, step_size}
use Rattle.tcf_schedules.specs.Schedule.{chain_of, hop_of, is_skipped, plan_in}
use Rattle.tcf_schedules.specs.Words.{data_of, is_name, is_numeral}
use Rattle.load_schedules.specs.Draws.{after_draws, answer, draw}
use Rattle.load_schedules.specs.Drawn.{chain_heads, delivery, drawn_step, get_memory, get_state, given, hops_of, resume, sends as chain_sends, set_memory, suspend, ticked}
use Rattle.load_schedules.proofs.Words.{IsInside, decimal_word, inside_append, joined_inside, spaced_inside, word_inside}

-- the line of this value says the step
pub record Says (x : LineStep) (plan : Plan) : Type 0 where
  pub good : IsLineStep x
  pub inside : IsInside (step_spelling x)
  pub kept : is_skipped (step_spelling x) ≡ false
  pub means : plan_in chain_heads x ≡ Some plan

abbrev pub IsSaid : Plan → Type 0
IsSaid plan = (x : LineStep) × Says x plan

-- ---- The chains by their names

past : (chain : ℕ) → suc (suc (suc chain)) < 3 → ⊥
past chain is = omega arith

name_at : ℕ → List ℕ
name_at zero = codes "A"
name_at (suc zero) = codes "B"
name_at (suc (suc chain)) = codes "C"

chain_named : (chain : ℕ) → chain < 3 → chain_of chain_heads (name_at chain) ≡ Some chain
unfolding name_at
chain_named zero is = refl
chain_named (suc zero) is = refl
chain_named (suc (suc zero)) is = refl
chain_named (suc (suc (suc chain))) is = absurd (past chain is)

is_named : (chain : ℕ) → is_name (name_at chain) ≡ true
unfolding name_at
is_named zero = refl
is_named (suc zero) = refl
is_named (suc (suc chain)) = refl

name_inside : (chain : ℕ) → IsInside (name_at chain)
unfolding name_at
name_inside zero = word_inside (codes "A") refl
name_inside (suc zero) = word_inside (codes "B") refl
name_inside (suc (suc chain)) = word_inside (codes "C") refl

few_adds : (chain : ℕ) → adds_at chain_heads chain ≤ 2
few_adds zero = omega arith
few_adds (suc zero) = omega arith
few_adds (suc (suc zero)) = omega arith
few_adds (suc (suc (suc chain))) = omega arith

-- ---- Each form of a step

abbrev AreWords : List (List ℕ) → Type 0
AreWords words = AllByRecursion (λ word. is_word word ≡ true) words

pub sent_said : (chain : ℕ) (service name : List ℕ) (args : List (List ℕ)) → chain < 3 → is_word service ≡ true → is_word name ≡ true → AreWords args
    → IsSaid (chain_sends chain service name args)
unfolding send_word
sent_said chain service name args is service_is name_is args_are =
    let command = joined (name ∷ args) in
    let whole = spaced service command in (
      once (sends (name_at chain) service name args),
      record {
        good = (is_named chain, service_is, name_is, args_are);
        inside = spaced_inside send_word (spaced (name_at chain) whole) (word_inside send_word refl)
            (spaced_inside (name_at chain) whole (name_inside chain) (spaced_inside service command (word_inside service service_is) (joined_inside (name ∷ args) (name_is, args_are))));
        kept = refl;
        means = ap (option_map (λ (place : ℕ). plan_send place service name (data_of args))) (chain_named chain is);
      },
    )

pub opened_said : (chain : ℕ) → chain < 3 → IsSaid (plan_opens chain)
unfolding open_word
opened_said chain is = (
  once (opens (name_at chain)),
  record {
    good = is_named chain;
    inside = spaced_inside open_word (name_at chain) (word_inside open_word refl) (name_inside chain);
    kept = refl;
    means = ap (option_map plan_opens) (chain_named chain is);
  },
)

pub rounds_said : (count : ℕ) → 1 ≤ count → count ≤ 10000 → IsSaid (plan_rounds count)
unfolding rounds_word
rounds_said count some few = (
  rounds count,
  record {
    good = (some, few);
    inside = spaced_inside rounds_word (decimal count) (word_inside rounds_word refl) (word_inside (decimal count) (decimal_word count (omega arith)));
    kept = refl;
    means = refl;
  },
)

one_inside : IsInside (decimal 1)
one_inside = word_inside (decimal 1) (decimal_word 1 (omega arith))

ticked_said : IsSaid ticked
unfolding tick_word
ticked_said = (
  once (ticks (Thread 1 1)),
  record {
    good = omega arith;
    inside = spaced_inside tick_word (context_spelling (Thread 1 1)) (word_inside tick_word refl)
        (inside_append (codes "P") (decimal 1 ++ (codes "." ++ decimal 1)) (word_inside (codes "P") refl)
        (inside_append (decimal 1) (codes "." ++ decimal 1) one_inside (inside_append (codes ".") (decimal 1) (word_inside (codes ".") refl) one_inside)));
    kept = refl;
    means = refl;
  },
)

direction_inside : (up : Bool) → IsInside (direction_word up)
unfolding up_word down_word
direction_inside true = word_inside up_word refl
direction_inside false = word_inside down_word refl

one_numeral : (hop : ℕ) → hop < 3 → is_numeral ((48 + hop) ∷ []) ≡ true
one_numeral zero is = refl
one_numeral (suc zero) is = refl
one_numeral (suc (suc zero)) is = refl
one_numeral (suc (suc (suc hop))) is = absurd (past hop is)

hop_numeral : (hop : ℕ) → hop < 3 → is_numeral (decimal hop) ≡ true
hop_numeral hop is = ap is_numeral (decimal_digit hop (omega arith)) ∙ one_numeral hop is

pub delivered_said : (chain hop count : ℕ) (up : Bool) → chain < 3 → hop ≤ adds_at chain_heads chain → 1 ≤ count → count ≤ 65536 → IsSaid (plan_deliver chain hop up count)
unfolding deliver_word
delivered_said chain hop count up is there some few =
    let small : hop < 3 = omega (arith, few_adds chain) in
    let at_way = spaced (direction_word up) (decimal count) in
    let at_hop = spaced (decimal hop) at_way in (
      once (delivers (name_at chain) (decimal hop) up count),
      record {
        good = (is_named chain, hop_numeral hop small, some, few);
        inside = spaced_inside deliver_word (spaced (name_at chain) at_hop) (word_inside deliver_word refl)
            (spaced_inside (name_at chain) at_hop (name_inside chain)
            (spaced_inside (decimal hop) at_way (word_inside (decimal hop) (decimal_word hop (omega arith)))
            (spaced_inside (direction_word up) (decimal count) (direction_inside up) (word_inside (decimal count) (decimal_word count (omega arith))))));
        kept = refl;
        means = ap (λ o. option_map (λ (at : ℕ × ℕ). plan_deliver at.0 at.1 up count) (option_and_then (λ place. option_map (λ h. (place, h)) (hop_of chain_heads place (decimal hop))) o)) (chain_named chain is)
            ∙ ap (λ o. option_map (λ (at : ℕ × ℕ). plan_deliver at.0 at.1 up count) (option_map (λ h. (chain, h)) o))
            (number_there 0 (adds_at chain_heads chain) (decimal hop) hop refl (omega arith) there (omega arith));
      },
    )

-- ---- A drawn step

answer_below : (limit state : ℕ) → 0 < limit → answer limit state < limit
unfolding answer
answer_below limit state some = mod_below _ limit some

memory_said : (chain address : ℕ) → chain < 3 → address < 2 ^ 64 → IsSaid (get_memory chain address)
memory_said chain address is small =
    sent_said chain (codes "Memory") (codes "get") (codes "\"P1\"" ∷ decimal address ∷ codes "1" ∷ codes "16" ∷ codes "0" ∷ []) is refl refl
    (refl, (decimal_word address small, (refl, (refl, (refl, tt)))))

setting_said : (chain address : ℕ) → chain < 3 → address < 2 ^ 64 → IsSaid (set_memory chain address)
setting_said chain address is small =
    sent_said chain (codes "Memory") (codes "set") (codes "\"P1\"" ∷ decimal address ∷ codes "1" ∷ codes "4" ∷ codes "0" ∷ codes "\"BQAAAA==\"" ∷ []) is refl refl
    (refl, (decimal_word address small, (refl, (refl, (refl, (refl, tt))))))

resume_said : (chain : ℕ) → chain < 3 → IsSaid (resume chain)
resume_said chain is = sent_said chain (codes "RunControl") (codes "resume") (codes "\"P1.1\"" ∷ codes "0" ∷ codes "1" ∷ []) is refl refl (refl, (refl, (refl, tt)))

of_thread_said : (chain : ℕ) (name : List ℕ) → is_word name ≡ true → chain < 3 → IsSaid (chain_sends chain (codes "RunControl") name (codes "\"P1.1\"" ∷ []))
of_thread_said chain name name_is is = sent_said chain (codes "RunControl") name (codes "\"P1.1\"" ∷ []) is refl name_is (refl, tt)

delivery_said : (chain state : ℕ) → chain < 3 → IsSaid (delivery chain state)
delivery_said chain state is =
    let hop = answer_below (hops_of chain) (after_draws 1 state) (omega arith) in
    let count = answer_below 200 (after_draws 3 state) (omega arith) in
    delivered_said chain (draw 1 (hops_of chain) state) (1 + draw 3 200 state) (eqb (draw 2 2 state) 0) is (omega arith) (omega arith) (omega arith)

-- the step is said by a line, and counts as one
abbrev Fits : Plan → Type 0
Fits plan = IsSaid plan × (step_size plan ≡ 1)

-- one of two steps
either : (first : Bool) (x y : Plan) → Fits x → Fits y → Fits (cond first x y)
either true x y one other = one
either false x y one other = other

given_fits : (kind chain state : ℕ) → chain < 3 → Fits (given kind chain state)
given_fits kind chain state is =
    let low = answer_below 64 (after_draws 1 state) (omega arith) in
    either (eqb kind 0) (resume chain) _ (resume_said chain is, refl)
    (either (eqb kind 1) (suspend chain) _ (of_thread_said chain (codes "suspend") refl is, refl)
    (either (eqb kind 2) (get_state chain) _ (of_thread_said chain (codes "getState") refl is, refl)
    (either (eqb kind 3) (get_memory chain (4 * draw 1 64 state)) _ (memory_said chain (4 * draw 1 64 state) is (omega arith), refl)
    (either (eqb kind 4) (set_memory chain (1024 + 4 * draw 1 64 state)) _ (setting_said chain (1024 + 4 * draw 1 64 state) is (omega arith), refl)
    (either (eqb kind 5) ticked _ (ticked_said, refl)
    (either (eqb kind 6) (delivery chain state) (plan_rounds 1) (delivery_said chain state is, refl) (rounds_said 1 (omega arith) (omega arith), refl)))))))

pub drawn_fits : (state : ℕ) → Fits (drawn_step state)
unfolding drawn_step
drawn_fits state = given_fits (draw 2 8 state) (draw 1 3 state) (after_draws 2 state) (answer_below 3 (after_draws 1 state) (omega arith))

-- What serving does of an agent is some calls of it: passing and ticking give out nothing, and gathering all of a channel.
use Rattle.std.proofs.Common.{◌≡◌, ℕ, zero, suc, ◌==◌, Bool, true, false, cond, List, [], ◌∷◌, ◌++◌, Option, Some, None, refl, sym, ap, ◌∙◌, subst, append-nil, append_assoc}
use Rattle.std.specs.Prelude.{option_to_list}
use Rattle.std.proofs.lemmas.Grind.{flat_map-append}
use Rattle.channel_core.specs.declared.held.Outgoing.{Outgoing}
use Rattle.tcf_values.specs.declared.ids.ContextId.{ContextId}
use Rattle.agent_node.specs.Agent.{after_giving, given, ticked, turned}
use Rattle.agent_node.specs.AgentValue.{AgentValue}
use Rattle.agent_node.specs.Runs.{Call, bytes_end, comes, gives, ticks, turns}
use Rattle.serving_wires.specs.declared.intake.Came.{Came}
use Rattle.serving_wires.specs.declared.intake.Came.TheVariants.{Piece, End}
use Rattle.agent_serving.specs.Gathering.{agent_emptied, bytes_of, queue_on}
use Rattle.serving_wires.specs.Intake.{bytes_in, piece_bytes}
use Rattle.agent_serving.specs.Passing.{Passed, after_turns, all_taken, came_to, can_be_given, end_is_taken, given_all, or_before, passed_on, room_turns, waiting_on}
use Rattle.agent_serving.specs.Served.{answers, given_out, got_by, got_on}
use Rattle.agent_serving.specs.Ticking.{after_pass, after_passes, idled, left_by_pass, less_one, threads_of}
use Rattle.agent_serving.proofs.CallLists.{answers_more, given_more, run, run_more}
use Rattle.agent_serving.proofs.Queued.{agent_goes_on, agent_is_done}

-- some calls make the one agent of the other, and none opens a channel; in them these bytes were given out, and these got
pub record Does (a next : AgentValue) (bytes got : ℕ → List ℕ) : Type 0 where
  pub more : List Call
  pub agent : next ≡ run more a
  pub answers_are : (k : ℕ) → answers k more a ≡ []
  pub bytes_are : (k : ℕ) → bytes_of (given_out k more a) ≡ bytes k
  pub got_are : (k : ℕ) → got_on k more ≡ got k

-- the same by other names
pub does_same : (a next : AgentValue) (bytes bytes_now got got_now : ℕ → List ℕ) → ((k : ℕ) → bytes k ≡ bytes_now k) → ((k : ℕ) → got k ≡ got_now k) → Does a next bytes got → Does a next bytes_now got_now
does_same a next bytes bytes_now got got_now same also d =
    record { more = d.more; agent = d.agent; answers_are = d.answers_are; bytes_are = λ k. d.bytes_are k ∙ same k; got_are = λ k. d.got_are k ∙ also k }

-- one after the other
pub does_then : (a b c : AgentValue) (bytes bytes_then got got_then : ℕ → List ℕ) → Does a b bytes got → Does b c bytes_then got_then
    → Does a c (λ k. bytes k ++ bytes_then k) (λ k. got k ++ got_then k)
does_then a b c bytes bytes_then got got_then first second =
    record {
      more = first.more ++ second.more;
      agent = second.agent ∙ ap (run second.more) first.agent ∙ sym (run_more first.more second.more a);
      answers_are = λ k. answers_more k first.more second.more a ∙ ap (λ (x : AgentValue). answers k first.more a ++ answers k second.more x) (sym first.agent)
          ∙ ap (λ (bs : List Bool). bs ++ answers k second.more b) (first.answers_are k) ∙ second.answers_are k;
      bytes_are = λ k. ap bytes_of (given_more k first.more second.more a ∙ ap (λ (x : AgentValue). given_out k first.more a ++ given_out k second.more x) (sym first.agent))
          ∙ flat_map-append (λ (out : Outgoing). out.bytes) (given_out k first.more a) (given_out k second.more b)
          ∙ ap (λ (bs : List ℕ). bs ++ bytes_of (given_out k second.more b)) (first.bytes_are k) ∙ ap (λ (bs : List ℕ). bytes k ++ bs) (second.bytes_are k);
      got_are = λ k. flat_map-append (got_by k) first.more second.more ∙ ap (λ (bs : List ℕ). bs ++ got_on k second.more) (first.got_are k) ∙ ap (λ (bs : List ℕ). got k ++ bs) (second.got_are k);
    }

-- of one channel alone
abbrev pub only_on : ℕ → List ℕ → ℕ → List ℕ
only_on k bytes j = cond (k == j) bytes []

abbrev no_bytes : List ℕ
no_bytes = []

none_on : (flag : Bool) → no_bytes ≡ cond flag no_bytes no_bytes
none_on true = refl
none_on false = refl

two_parts : (flag : Bool) (first rest all : List ℕ) → first ++ rest ≡ all → cond flag first [] ++ cond flag rest [] ≡ cond flag all []
two_parts true first rest all is = is
two_parts false first rest all is = refl

-- ---- what gives out nothing, and gets nothing

abbrev pub Silent : AgentValue → AgentValue → Type 0
Silent a next = Does a next (λ k. []) (λ k. [])

silent_none : (a : AgentValue) → Silent a a
silent_none a = record { more = []; agent = refl; answers_are = λ k. refl; bytes_are = λ k. refl; got_are = λ k. refl }

silent_then : (a b c : AgentValue) → Silent a b → Silent b c → Silent a c
silent_then a b c first second = does_then a b c (λ k. []) (λ k. []) (λ k. []) (λ k. []) first second

turn_silent : (k : ℕ) (a : AgentValue) → Silent a (turned k a).1
turn_silent k a = record { more = turns k ∷ []; agent = refl; answers_are = λ j. refl; bytes_are = λ j. refl; got_are = λ j. refl }

tick_silent : (thread : ContextId) (a : AgentValue) → Silent a (ticked thread a).1
tick_silent thread a = record { more = ticks thread ∷ []; agent = refl; answers_are = λ j. refl; bytes_are = λ j. refl; got_are = λ j. refl }

turns_silent : (count k : ℕ) (a : AgentValue) → Silent a (after_turns count k a)
turns_silent zero k a = silent_none a
turns_silent (suc count) k a = silent_then a (turned k a).1 (after_turns count k (turned k a).1) (turn_silent k a) (turns_silent count k (turned k a).1)

-- ---- what waits is got, in order

came_does : (k : ℕ) (came : Came) (a : AgentValue) → Does a (came_to k came a) (λ j. []) (only_on k (piece_bytes came))
came_does k (Piece bytes) a =
    record { more = comes k bytes ∷ []; agent = refl; answers_are = λ j. refl; bytes_are = λ j. refl; got_are = λ j. append-nil (cond (k == j) bytes []) }
came_does k End a = record { more = bytes_end k ∷ []; agent = refl; answers_are = λ j. refl; bytes_are = λ j. refl; got_are = λ j. none_on (k == j) }

pub record PassesOn (k : ℕ) (waiting : List Came) (a : AgentValue) (p : Passed) : Type 0 where
  pub given_bytes : List ℕ
  pub split : bytes_in waiting ≡ given_bytes ++ bytes_in p.waiting
  pub does : Does a p.agent (λ j. []) (only_on k given_bytes)

none_passes : (k : ℕ) (waiting : List Came) (a : AgentValue) → PassesOn k waiting a (all_taken k waiting a)
none_passes k waiting a =
    record {
      given_bytes = [];
      split = refl;
      does = does_same a (after_turns (waiting_on k a) k a) (λ j. []) (λ j. []) (λ j. []) (only_on k []) (λ j. refl) (λ j. none_on (k == j)) (turns_silent (waiting_on k a) k a);
    }

-- some turns first
turns_pass : (count k : ℕ) (waiting : List Came) (a : AgentValue) (over : Bool) (p : Passed) → PassesOn k waiting (after_turns count k a) p → PassesOn k waiting a (or_before over p)
turns_pass count k waiting a over p rest =
    let next = after_turns count k a in
    record {
      given_bytes = rest.given_bytes;
      split = rest.split;
      does = does_then a next p.agent (λ j. []) (λ j. []) (λ j. []) (only_on k rest.given_bytes) (turns_silent count k a) rest.does;
    }

came_passes : (k : ℕ) (came : Came) (later : List Came) (a : AgentValue) (p : Passed) → PassesOn k later (came_to k came a) p → PassesOn k (came ∷ later) a p
came_passes k came later a p rest =
    let bytes = piece_bytes came in
    record {
      given_bytes = bytes ++ rest.given_bytes;
      split = ap (λ (bs : List ℕ). bytes ++ bs) rest.split ∙ sym (append_assoc bytes rest.given_bytes (bytes_in p.waiting));
      does = does_same a p.agent (λ j. []) (λ j. []) (λ j. only_on k bytes j ++ only_on k rest.given_bytes j) (only_on k (bytes ++ rest.given_bytes)) (λ j. refl)
          (λ j. two_parts (k == j) bytes rest.given_bytes (bytes ++ rest.given_bytes) refl)
          (does_then a (came_to k came a) p.agent (λ j. []) (λ j. []) (only_on k bytes) (only_on k rest.given_bytes) (came_does k came a) rest.does);
    }

given_passes : (k : ℕ) (waiting : List Came) (a : AgentValue) → PassesOn k waiting a (given_all k waiting a)
given_passes k [] a = none_passes k [] a
given_passes k (came ∷ later) a =
    by_flag (can_be_given (waiting_on k a) came)
    (came_passes k came later a (or_before (end_is_taken (room_turns k next) k next) (given_all k later (after_turns (room_turns k next) k next)))
    (turns_pass (room_turns k next) k later next (end_is_taken (room_turns k next) k next) (given_all k later (after_turns (room_turns k next) k next))
    (given_passes k later (after_turns (room_turns k next) k next))))
  where
    next : AgentValue
    next = came_to k came a

    by_flag : (flag : Bool)
        → PassesOn k (came ∷ later) a
        (or_before (end_is_taken (room_turns k (came_to k came a)) k (came_to k came a)) (given_all k later (after_turns (room_turns k (came_to k came a)) k (came_to k came a))))
        → PassesOn k (came ∷ later) a
        (cond flag
        (or_before (end_is_taken (room_turns k (came_to k came a)) k (came_to k came a)) (given_all k later (after_turns (room_turns k (came_to k came a)) k (came_to k came a))))
        (all_taken k (came ∷ later) a))
    by_flag true passes = passes
    by_flag false passes = none_passes k (came ∷ later) a

pub passed_on_does : (k : ℕ) (waiting : List Came) (a : AgentValue) → PassesOn k waiting a (passed_on k waiting a)
unfolding passed_on
passed_on_does k waiting a =
    turns_pass (room_turns k a) k waiting a (end_is_taken (room_turns k a) k a) (given_all k waiting (after_turns (room_turns k a) k a)) (given_passes k waiting (after_turns (room_turns k a) k a))

-- ---- threads go on

pass_silent : (threads : List ContextId) (left : ℕ) (a : AgentValue) → Silent a (after_pass threads left a)
pass_silent [] left a = silent_none a
pass_silent (thread ∷ threads) left a =
    by_flag (left == 0) (silent_then a (ticked thread a).1 next (tick_silent thread a) (pass_silent threads (less_one (ticked thread a).0 left) (ticked thread a).1))
  where
    next : AgentValue
    next = after_pass threads (less_one (ticked thread a).0 left) (ticked thread a).1

    by_flag : (flag : Bool) → Silent a (after_pass threads (less_one (ticked thread a).0 left) (ticked thread a).1)
        → Silent a (cond flag a (after_pass threads (less_one (ticked thread a).0 left) (ticked thread a).1))
    by_flag true goes = silent_none a
    by_flag false goes = goes

passes_silent : (passes left : ℕ) (a : AgentValue) → Silent a (after_passes passes left a)
unfolding after_passes
passes_silent zero left a = silent_none a
passes_silent (suc passes) left a =
    let next = after_pass (threads_of a) left a in
    silent_then a next (after_passes passes (left_by_pass (threads_of a) left a) next) (pass_silent (threads_of a) left a) (passes_silent passes (left_by_pass (threads_of a) left a) next)

pub idled_silent : (a : AgentValue) → Silent a (idled a)
unfolding idled
idled_silent a = passes_silent 256 256 a

-- ---- all that is queued for a channel is given out

one_given : (k : ℕ) (a : AgentValue) → Does a (after_giving k a) (only_on k (bytes_of (option_to_list (given k a)))) (λ j. [])
one_given k a = record { more = gives k ∷ []; agent = refl; answers_are = λ j. refl; bytes_are = λ j. by_flag (k == j); got_are = λ j. refl }
  where
    by_flag : (flag : Bool) → bytes_of (cond flag (option_to_list (given k a)) [] ++ []) ≡ cond flag (bytes_of (option_to_list (given k a))) []
    by_flag true = ap bytes_of (append-nil (option_to_list (given k a)))
    by_flag false = refl

pub emptied_does : (k : ℕ) (outs : List Outgoing) (a : AgentValue) → queue_on k a ≡ outs → Does a (agent_emptied k a) (only_on k (bytes_of outs)) (λ j. [])
emptied_does k [] a is = by_given (given k a) refl
  where
    by_given : (first : Option Outgoing) → given k a ≡ first → Does a (agent_emptied k a) (only_on k []) (λ j. [])
    by_given None none =
        let d = agent_is_done k a (after_giving k a) none refl in
        subst (λ (x : AgentValue). Does a x (only_on k []) (λ j. [])) d.same
        (does_same a (after_giving k a) (only_on k (bytes_of (option_to_list (given k a)))) (only_on k []) (λ j. []) (λ j. [])
        (λ j. ap (λ (o : Option Outgoing). only_on k (bytes_of (option_to_list o)) j) none) (λ j. refl) (one_given k a))
    by_given (Some out) gave = let goes = agent_goes_on k a (after_giving k a) out gave refl in let none = sym is ∙ goes.queue in cc
emptied_does k (x ∷ xs) a is = by_given (given k a) refl (λ rest. emptied_does k xs (after_giving k a) rest)
  where
    by_given : (first : Option Outgoing) → given k a ≡ first → (queue_on k (after_giving k a) ≡ xs → Does (after_giving k a) (agent_emptied k (after_giving k a)) (only_on k (bytes_of xs)) (λ j. []))
        → Does a (agent_emptied k a) (only_on k (bytes_of (x ∷ xs))) (λ j. [])
    by_given None none later = let d = agent_is_done k a (after_giving k a) none refl in let some = sym is ∙ d.queue in cc
    by_given (Some out) gave later =
        let goes = agent_goes_on k a (after_giving k a) out gave refl in
        let both : x ∷ xs ≡ out ∷ queue_on k (after_giving k a) = sym is ∙ goes.queue in
        let first : out ≡ x = cc in
        let rest : queue_on k (after_giving k a) ≡ xs = cc in
        subst (λ (y : AgentValue). Does a y (only_on k (bytes_of (x ∷ xs))) (λ j. [])) goes.same
        (does_same a (agent_emptied k (after_giving k a)) (λ j. only_on k (bytes_of (option_to_list (given k a))) j ++ only_on k (bytes_of xs) j) (only_on k (bytes_of (x ∷ xs))) (λ j. []) (λ j. [])
        (λ j. two_parts (k == j) (bytes_of (option_to_list (given k a))) (bytes_of xs) (bytes_of (x ∷ xs))
        (ap (λ (o : Option Outgoing). bytes_of (option_to_list o) ++ bytes_of xs) (gave ∙ ap (λ (o : Outgoing). Some o) first)
        ∙ sym (flat_map-append (λ (o : Outgoing). o.bytes) (x ∷ []) xs)))
        (λ j. refl)
        (does_then a (after_giving k a) (agent_emptied k (after_giving k a)) (only_on k (bytes_of (option_to_list (given k a)))) (only_on k (bytes_of xs)) (λ j. []) (λ j. []) (one_given k a) (later rest)))

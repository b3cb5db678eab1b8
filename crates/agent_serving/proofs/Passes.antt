-- A pass and then the others; none does anything once all instructions are executed, or no thread runs.
use Rattle.std.proofs.Common.{◌≡◌, ℕ, zero, suc, ◌+◌, ◌-◌, ◌<◌, ◌==◌, Bool, true, List, [], ◌∷◌, length, refl, sym, ap, ◌∙◌, arith, eqb-true}
use Rattle.agent_node.specs.AgentValue.{AgentValue}
use Rattle.agent_serving.specs.Ticking.{after_pass, after_passes, left_by_pass, threads_of}
use Rattle.tcf_values.specs.declared.ids.ContextId.{ContextId}

pub pass_of_none : (threads : List ContextId) (a : AgentValue) → after_pass threads 0 a ≡ a
pass_of_none [] a = refl
pass_of_none (thread ∷ threads) a = refl

pub none_is_left : (threads : List ContextId) (a : AgentValue) → left_by_pass threads 0 a ≡ 0
none_is_left [] a = refl
none_is_left (thread ∷ threads) a = refl

pub pass_ends : (threads rest : List ContextId) (most left : ℕ) (first now : AgentValue) → left ≡ 0 → after_pass threads most first ≡ after_pass rest left now
    → now ≡ after_pass threads most first
pass_ends threads rest most left first now none so = sym (so ∙ ap (λ (n : ℕ). after_pass rest n now) none ∙ pass_of_none rest now)

pub left_ends : (threads rest : List ContextId) (most left : ℕ) (first now : AgentValue) → left ≡ 0 → left_by_pass threads most first ≡ left_by_pass rest left now
    → left ≡ left_by_pass threads most first
left_ends threads rest most left first now none so = none ∙ sym (so ∙ ap (λ (n : ℕ). left_by_pass rest n now) none ∙ none_is_left rest now)

pub passes_of_none : (passes : ℕ) (a : AgentValue) → after_passes passes 0 a ≡ a
unfolding after_passes
passes_of_none zero a = refl
passes_of_none (suc passes) a =
    ap (λ (left : ℕ). after_passes passes left (after_pass (threads_of a) 0 a)) (none_is_left (threads_of a) a)
    ∙ ap (λ (b : AgentValue). after_passes passes 0 b) (pass_of_none (threads_of a) a) ∙ passes_of_none passes a

pub passes_over_none : (passes left : ℕ) (a : AgentValue) → threads_of a ≡ [] → after_passes passes left a ≡ a
unfolding after_passes
passes_over_none zero left a none = refl
passes_over_none (suc passes) left a none =
    ap (λ (threads : List ContextId). after_passes passes (left_by_pass threads left a) (after_pass threads left a)) none ∙ passes_over_none passes left a none

pub one_pass : (passes left : ℕ) (a : AgentValue) → after_passes (suc passes) left a ≡ after_passes passes (left_by_pass (threads_of a) left a) (after_pass (threads_of a) left a)
unfolding after_passes
one_pass passes left a = refl

no_pass : (left : ℕ) (a : AgentValue) → after_passes 0 left a ≡ a
unfolding after_passes
no_pass left a = refl

-- ---- so far

pub passes_go_on : (count done left left_then : ℕ) (first now then : AgentValue) (threads : List ContextId) → done < count → threads ≡ threads_of now
    → then ≡ after_pass threads left now → left_then ≡ left_by_pass threads left now → after_passes count count first ≡ after_passes (count - done) left now
    → after_passes count count first ≡ after_passes (count - (done + 1)) left_then then
passes_go_on count done left left_then first now then threads fewer all after left_is so =
    let less : count - done ≡ suc (count - (done + 1)) = omega (arith, fewer) in
    so ∙ ap (λ (n : ℕ). after_passes n left now) less ∙ one_pass (count - (done + 1)) left now
    ∙ ap (λ (ts : List ContextId). after_passes (count - (done + 1)) (left_by_pass ts left now) (after_pass ts left now)) (sym all)
    ∙ ap (λ (n : ℕ). after_passes (count - (done + 1)) n (after_pass threads left now)) (sym left_is)
    ∙ ap (λ (b : AgentValue). after_passes (count - (done + 1)) left_then b) (sym after)

pub passes_end_tired : (count done left : ℕ) (first now : AgentValue) → left ≡ 0 → after_passes count count first ≡ after_passes (count - done) left now → now ≡ after_passes count count first
passes_end_tired count done left first now none so = sym (so ∙ ap (λ (n : ℕ). after_passes (count - done) n now) none ∙ passes_of_none (count - done) now)

pub passes_end_idle : (count done left : ℕ) (first now : AgentValue) → threads_of now ≡ [] → after_passes count count first ≡ after_passes (count - done) left now → now ≡ after_passes count count first
passes_end_idle count done left first now none so = sym (so ∙ passes_over_none (count - done) left now none)

pub none_run : (all shown : List ContextId) (is_empty : Bool) (a : AgentValue) → shown ≡ all → is_empty ≡ (length shown == 0) → is_empty ≡ true → all ≡ threads_of a → threads_of a ≡ []
none_run [] shown is_empty a same test holds running = sym running
none_run (thread ∷ threads) [] is_empty a same test holds running = absurd cc
none_run (thread ∷ threads) (x ∷ xs) is_empty a same test holds running = absurd (omega (arith, eqb-true (length (x ∷ xs)) 0 (sym test ∙ holds)))

pub passes_end : (count done left : ℕ) (first now : AgentValue) → done ≡ count → after_passes count count first ≡ after_passes (count - done) left now → now ≡ after_passes count count first
passes_end count done left first now all so = sym (so ∙ ap (λ (n : ℕ). after_passes n left now) (omega (arith, all)) ∙ no_pass left now)

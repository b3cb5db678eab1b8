-- Who know the same facts still do when both learn the same; and what is true of what the one knows is so of what the other does.
use Rattle.std.proofs.Common.{◌≡◌, ◌⊎◌, inl, inr, ⊎_elim, ℕ, true, List, [], ◌∷◌, ◌++◌, Option, Some, None, is_some, refl, sym, ap, ◌∙◌}
use Rattle.value_store.specs.Lessons.{answer_message}
use Rattle.knowledge.specs.Facts.{Facts, IsGrounded, IsPart, byte_is, context_is, is_suspended, nothing, properties_are, register_is, state_is, status_is, threads_are}
use Rattle.knowledge.specs.Learning.{Message, learn, learn_all}
use Rattle.knowledge.specs.declared.state.StateFact.{StateFact}
use Rattle.target_contexts.specs.declared.process.Image.{Image}
use Rattle.target_hub.specs.Fresh.{target_at}
use Rattle.target_hub.specs.declared.input.Input.{Input}
use Rattle.target_hub.specs.HubValue.{TargetValue}
use Rattle.target_truth.specs.Holds.{Holds, IsStill}
use Rattle.target_truth.specs.Typed.{AreTyped}
use Rattle.tcf_values.specs.declared.command.Command.{Command}
use Rattle.chain_told.specs.Told.{AreTrueAt}
use Rattle.knowledge.proofs.TheLaws.{learning_is_monotone}
use Rattle.target_truth.proofs.Origins.{still_known}
use Rattle.chain_told.proofs.Keeping.{Keeps, answers_keep}

pub record Agree (some more : Facts) : Type 0 where
  pub part : IsPart some more
  pub back : IsPart more some

suspended_too : (o p : Option StateFact) → ((state : StateFact) → o ≡ Some state → p ≡ Some state) → is_suspended o ≡ true → is_suspended p ≡ true
suspended_too None p each is = absurd cc
suspended_too (Some state) p each is = ap is_suspended (each state refl) ∙ is

pub agree_grounded : (some more : Facts) → Agree some more → IsGrounded more → IsGrounded some
agree_grounded some more agree grounded process thread index value is =
    suspended_too (more.states process thread) (some.states process thread) (λ state known. agree.back (state_is process thread state) known)
    (grounded process thread index value (agree.part (register_is process thread index value) is))

agree_still : (some more : Facts) → Agree some more → IsStill more → IsStill some
agree_still some more agree still process addr byte is =
    still_known process more some agree.back (still process addr byte (agree.part (byte_is process addr byte) is))

agree_holds : (some more : Facts) (target : TargetValue) → Agree some more → Holds more target → Holds some target
agree_holds some more target agree holds =
    record {
      facts = λ fact knows. holds.facts fact (agree.part fact knows);
      grounded = agree_grounded some more agree holds.grounded;
      still = agree_still some more agree holds.still;
    }

-- where the images are typed, or nothing is known yet
abbrev pub IsSure : List Image → Option ℕ → Type 0
IsSure images mark = AreTyped images ⊎ (mark ≡ None)

pub agree_true : (images : List Image) (history : List Input) (mark : Option ℕ) (some more : Facts) → (IsSure images mark → Agree some more) → AreTrueAt images history mark more → AreTrueAt images history mark some
agree_true images history None some more agree true_it = λ fact knows. true_it fact ((agree (inr refl)).part fact knows)
agree_true images history (Some position) some more agree true_it = (true_it.0, λ typed. agree_holds some more (target_at images history position) (agree (inl typed)) (true_it.1 typed))

pub nothing_grounded : (known : Facts) → IsPart known nothing → IsGrounded known
nothing_grounded known part process thread index value is =
    let none : nothing.registers process thread index ≡ Some value = part (register_is process thread index value) is in absurd cc

pub true_grounded : (images : List Image) (history : List Input) (mark : Option ℕ) (known : Facts) → IsSure images mark → AreTrueAt images history mark known → IsGrounded known
true_grounded images history None known sure true_it = nothing_grounded known true_it
true_grounded images history (Some position) known sure true_it = ⊎_elim (λ typed. (true_it.1 typed).grounded) (λ none. absurd cc) sure

-- ---- They learn

pub agree_learn : (message : Message) (some more : Facts) → Agree some more → IsGrounded more → Agree (learn message some) (learn message more)
agree_learn message some more agree grounded =
    record {
      part = learning_is_monotone message some more (agree_grounded some more agree grounded) agree.part;
      back = learning_is_monotone message more some grounded agree.back;
    }

-- one message or none
abbrev pub AreFew : List Message → Type 0
AreFew [] = Unit {0}
AreFew (message ∷ []) = Unit {0}
AreFew (message ∷ other ∷ messages) = ⊥

pub agree_few : (messages : List Message) (some more : Facts) → AreFew messages → Agree some more → IsGrounded more → Agree (learn_all messages some) (learn_all messages more)
agree_few [] some more few agree grounded = agree
agree_few (message ∷ []) some more few agree grounded = agree_learn message some more agree grounded
agree_few (message ∷ other ∷ messages) some more few agree grounded = absurd few

pub learn_append : (xs ys : List Message) (known : Facts) → learn_all (xs ++ ys) known ≡ learn_all ys (learn_all xs known)
learn_append [] ys known = refl
learn_append (x ∷ xs) ys known = learn_append xs ys (learn x known)

-- ---- An answer by which nothing new is known leaves it as it is

known_again : {A : Type 0} → (o : Option A) (x : A) → is_some o ≡ true → ((y : A) → o ≡ Some y → Some y ≡ Some x) → o ≡ Some x
known_again None x is each = absurd cc
known_again (Some y) x is each = each y refl

is_there : {A : Type 0} → (o : Option A) (x : A) → o ≡ Some x → is_some o ≡ true
is_there o x is = ap is_some is

kept_agrees : (before now more : Facts) → Keeps before now → Agree before more → IsPart now more → Agree now more
kept_agrees before now more keeps agree part = record { part = part; back = back }
  where
    back : IsPart more now
    back (context_is id context) known =
        known_again (now.contexts id) context (keeps.contexts id (is_there _ context (agree.back (context_is id context) known)))
        (λ other is. sym (part (context_is id other) is) ∙ known)
    back (threads_are process ids) known =
        known_again (now.threads process) ids (keeps.threads process (is_there _ ids (agree.back (threads_are process ids) known)))
        (λ other is. sym (part (threads_are process other) is) ∙ known)
    back (state_is process thread state) known =
        known_again (now.states process thread) state (keeps.states process thread (is_there _ state (agree.back (state_is process thread state) known)))
        (λ other is. sym (part (state_is process thread other) is) ∙ known)
    back (register_is process thread index value) known =
        known_again (now.registers process thread index) value (keeps.registers process thread index (is_there _ value (agree.back (register_is process thread index value) known)))
        (λ other is. sym (part (register_is process thread index other) is) ∙ known)
    back (byte_is process addr byte) known = keeps.bytes process addr byte (agree.back (byte_is process addr byte) known)
    back (properties_are id properties) known =
        known_again (now.properties id) properties (keeps.properties id (is_there _ properties (agree.back (properties_are id properties) known)))
        (λ other is. sym (part (properties_are id other) is) ∙ known)
    back (status_is id status) known =
        known_again (now.statuses id) status (keeps.statuses id (is_there _ status (agree.back (status_is id status) known)))
        (λ other is. sym (part (status_is id other) is) ∙ known)

pub agree_answered : (command : Command) (body : List ℕ) (some more : Facts) → Agree some more → IsPart (learn (answer_message command body) some) more
    → Agree (learn (answer_message command body) some) more
agree_answered command body some more agree part = kept_agrees some (learn (answer_message command body) some) more (answers_keep command body some) agree part

-- A log's lines against a history, input by input.
use Rattle.std.proofs.Common.{◌≡◌, ℕ, ◌+◌, ◌≤◌, ◌||◌, ◌&&◌, not, Bool, true, false, List, [], ◌∷◌, ◌++◌, length, refl, sym, ◌∙◌, ap, subst, append_assoc, arith, length-append}
use Rattle.std.specs.Prelude.{◌↔◌, filter}
use Rattle.std.specs.List.{AllByRecursion}
use Rattle.std.proofs.lemmas.Bool.{false≢true}
use Rattle.std.proofs.lemmas.List.Elements.{filter-append}
use Rattle.list_laws.specs.Fronts.{IsFront}
use Rattle.list_laws.proofs.Fronts.{front_none}
use Rattle.journal_text.specs.Inputs.{InputIsRead}
use Rattle.target_contexts.specs.declared.process.Image.{Image}
use Rattle.target_hub.specs.History.{closes, input_after, inputs_after, is_live, opens, was_closed, was_opened}
use Rattle.target_hub.specs.HubValue.{HubValue, TargetValue, new_target, usable}
use Rattle.target_hub.specs.Ordered.{IsChannelOf, IsToldInOrder}
use Rattle.target_hub.specs.Received.{is_owed}
use Rattle.target_hub.specs.Sent.{Told, sent, sent_after, told_by, told_while_live}
use Rattle.target_hub.specs.declared.input.Input.{Input}
use Rattle.target_hub.specs.declared.input.Input.TheVariants.{Opened, Executed, Ticked, Closed}
use Rattle.tcf_text.specs.Lines.{Accepted, from_hello}
use Rattle.tcf_text.specs.declared.log.LogLine.{LogLine}
use Rattle.log_check.specs.Heard.{Hears, Mishears, given_by, owed_in, told_if, told_of_gift}
use Rattle.log_check.specs.Rules.{OnItsChannel}
use Rattle.log_check.specs.Sorts.{AreOfLog, as_accepted}
use Rattle.log_check.specs.declared.sorts.Command.{Command}
use Rattle.log_check.proofs.Legality.{after_more, any_more}
use Rattle.log_check.proofs.Opening.{one_channel}

-- what the inputs that are left tell
abbrev owed_after : ℕ → List Input → TargetValue → List Input → List Told
owed_after k before target left = filter is_owed (sent_after k before target left)

-- so many inputs were done, and so much of the log was told by them
pub record Stands (images : List Image) (k : ℕ) (commands : List Accepted) (inputs left : List Input) (lines rest : List LogLine) (opened closed : Bool) (position : ℕ) (hub : HubValue) : Type 0 where
  pub before : List Input
  pub whole : inputs ≡ before ++ left
  pub was_open : opened ≡ was_opened k before
  pub was_shut : closed ≡ was_closed k before
  pub place : position ≡ length before
  pub target : hub ≡ usable (inputs_after before (new_target images))
  pub read : AllByRecursion InputIsRead left
  pub front : IsFront (owed_in commands lines) (filter is_owed (sent images k inputs)) ↔ IsFront (owed_in commands rest) (owed_after k before hub.target left)

-- what is told of what an input gives
told_is_given : (k position : ℕ) (target : TargetValue) (input : Input) → told_of_gift k position (given_by input target) ≡ told_by k position target input
told_is_given k position target (Opened channel) = refl
told_is_given k position target (Executed channel reading service name) = refl
told_is_given k position target (Ticked thread) = refl
told_is_given k position target (Closed channel) = refl

-- what was heard, by its flags
told_here : (k : ℕ) (before : List Input) (target : TargetValue) (input : Input) (opened closed : Bool) (position : ℕ) (live : Bool) → live ≡ (opened && not closed)
    → opened ≡ was_opened k (before ++ input ∷ []) → closed ≡ was_closed k (before ++ input ∷ []) → position ≡ length before + 1
    → told_if live (told_of_gift k position (given_by input target)) ≡ told_while_live k before target input
told_here k before target input opened closed position live is was_open was_shut place =
    ap (λ b. told_if b (told_of_gift k position (given_by input target))) (is ∙ (ap (λ b. b && not closed) was_open ∙ ap (λ b. was_opened k (before ++ input ∷ []) && not b) was_shut))
    ∙ (ap (λ n. told_if (is_live k (before ++ input ∷ [])) (told_of_gift k n (given_by input target))) place
    ∙ ap (told_if (is_live k (before ++ input ∷ []))) (told_is_given k (length before + 1) target input))

-- what an input tells, before what those behind it tell
owed_more : (k : ℕ) (before : List Input) (target : TargetValue) (input : Input) (after : List Input)
    → owed_after k before target (input ∷ after) ≡ filter is_owed (told_while_live k before target input) ++ owed_after k (before ++ input ∷ []) (input_after input target) after
owed_more k before target input after =
    filter-append is_owed (told_while_live k before target input) (sent_after k (before ++ input ∷ []) (input_after input target) after)

-- before the first input
pub stands_first : (images : List Image) (k : ℕ) (commands : List Accepted) (inputs : List Input) (lines : List LogLine) (hub : HubValue) → hub ≡ usable (new_target images)
    → AllByRecursion InputIsRead inputs → Stands images k commands inputs inputs lines lines false false 0 hub
stands_first images k commands inputs lines hub is read =
    record {
      before = [];
      whole = refl;
      was_open = refl;
      was_shut = refl;
      place = refl;
      target = is;
      read = read;
      front = (
        (λ front. subst (λ (h : HubValue). IsFront (owed_in commands lines) (owed_after k [] h.target inputs)) (sym is) front),
        (λ front. subst (λ (h : HubValue). IsFront (owed_in commands lines) (owed_after k [] h.target inputs)) is front),
      );
    }

pub input_read : (left after : List Input) (input : Input) → AllByRecursion InputIsRead left → left ≡ input ∷ after → InputIsRead input
input_read left after input read is = (subst (AllByRecursion InputIsRead) is read).0

-- what the input tells is heard
pub stands_next : (images : List Image) (k : ℕ) (commands : List Accepted) (inputs left after : List Input) (lines rest next : List LogLine) (opened closed opened' closed' live : Bool)
    (position position' : ℕ) (hub hub' : HubValue) (input : Input) → Stands images k commands inputs left lines rest opened closed position hub → left ≡ input ∷ after
    → opened' ≡ (opened || opens k input) → closed' ≡ (closed || closes k input) → live ≡ (opened' && not closed') → position' ≡ position + 1 → hub' ≡ usable (input_after input hub.target)
    → Hears commands (told_if live (told_of_gift k position' (given_by input hub.target))) rest next
    → Stands images k commands inputs after lines next opened' closed' position' hub'
stands_next images k commands inputs left after lines rest next opened closed opened' closed' live position position' hub hub' input s is o c l p h hears =
    record {
      before = s.before ++ input ∷ [];
      whole = s.whole ∙ (ap (λ l. s.before ++ l) is ∙ sym (append_assoc s.before (input ∷ []) after));
      was_open = open_is;
      was_shut = shut_is;
      place = omega (arith, p, s.place, length-append s.before (input ∷ []));
      target = h ∙ (ap (λ (t : HubValue). usable (input_after input t.target)) s.target ∙ ap usable (sym (after_more s.before input (new_target images))));
      read = (subst (AllByRecursion InputIsRead) is s.read).1;
      front = (
        (λ front. to_next ((hears.before (later (input_after input hub.target))).0 (as_told (s.front.0 front)))),
        (λ front. s.front.1 (from_told ((hears.before (later (input_after input hub.target))).1 (from_next front)))),
      );
    }
  where
    later : TargetValue → List Told
    later target = owed_after k (s.before ++ input ∷ []) target after

    gift : List Told
    gift = told_if live (told_of_gift k position' (given_by input hub.target))

    open_is : opened' ≡ was_opened k (s.before ++ input ∷ [])
    open_is = o ∙ (ap (λ b. b || opens k input) s.was_open ∙ sym (any_more (opens k) s.before input))

    shut_is : closed' ≡ was_closed k (s.before ++ input ∷ [])
    shut_is = c ∙ (ap (λ b. b || closes k input) s.was_shut ∙ sym (any_more (closes k) s.before input))

    all_told : owed_after k s.before hub.target left ≡ filter is_owed gift ++ later (input_after input hub.target)
    all_told =
        ap (owed_after k s.before hub.target) is
        ∙ (owed_more k s.before hub.target input after
        ∙ ap (λ t. filter is_owed t ++ later (input_after input hub.target)) (sym (told_here k s.before hub.target input opened' closed' position' live l open_is shut_is (omega (arith, p, s.place)))))

    as_told : IsFront (owed_in commands rest) (owed_after k s.before hub.target left) → IsFront (owed_in commands rest) (filter is_owed gift ++ later (input_after input hub.target))
    as_told front = subst (IsFront (owed_in commands rest)) all_told front

    from_told : IsFront (owed_in commands rest) (filter is_owed gift ++ later (input_after input hub.target)) → IsFront (owed_in commands rest) (owed_after k s.before hub.target left)
    from_told front = subst (IsFront (owed_in commands rest)) (sym all_told) front

    to_next : IsFront (owed_in commands next) (later (input_after input hub.target)) → IsFront (owed_in commands next) (later hub'.target)
    to_next front = subst (λ (t : HubValue). IsFront (owed_in commands next) (later t.target)) (sym h) front

    from_next : IsFront (owed_in commands next) (later hub'.target) → IsFront (owed_in commands next) (later (input_after input hub.target))
    from_next front = subst (λ (t : HubValue). IsFront (owed_in commands next) (later t.target)) h front

no_flag : {A : Type 0} → (A → ⊥) → (false ≡ true) ↔ A
no_flag not = ((λ is. absurd (false≢true is)), (λ a. absurd (not a)))

-- the next input tells what the log doesn't say
pub stands_not : (images : List Image) (k : ℕ) (commands : List Accepted) (inputs left after : List Input) (lines rest : List LogLine) (opened closed opened' closed' live : Bool)
    (position position' : ℕ) (hub : HubValue) (input : Input) → Stands images k commands inputs left lines rest opened closed position hub → left ≡ input ∷ after
    → opened' ≡ (opened || opens k input) → closed' ≡ (closed || closes k input) → live ≡ (opened' && not closed') → position' ≡ position + 1
    → Mishears commands (told_if live (told_of_gift k position' (given_by input hub.target))) rest
    → (false ≡ true) ↔ IsFront (owed_in commands lines) (filter is_owed (sent images k inputs))
stands_not images k commands inputs left after lines rest opened closed opened' closed' live position position' hub input s is o c l p mishears =
    no_flag (λ front. mishears.never (owed_after k (s.before ++ input ∷ []) (input_after input hub.target) after) (subst (IsFront (owed_in commands rest)) all_told (s.front.0 front)))
  where
    open_is : opened' ≡ was_opened k (s.before ++ input ∷ [])
    open_is = o ∙ (ap (λ b. b || opens k input) s.was_open ∙ sym (any_more (opens k) s.before input))

    shut_is : closed' ≡ was_closed k (s.before ++ input ∷ [])
    shut_is = c ∙ (ap (λ b. b || closes k input) s.was_shut ∙ sym (any_more (closes k) s.before input))

    all_told : owed_after k s.before hub.target left
        ≡ filter is_owed (told_if live (told_of_gift k position' (given_by input hub.target))) ++ owed_after k (s.before ++ input ∷ []) (input_after input hub.target) after
    all_told =
        ap (owed_after k s.before hub.target) is
        ∙ (owed_more k s.before hub.target input after
        ∙ ap (λ t. filter is_owed t ++ owed_after k (s.before ++ input ∷ []) (input_after input hub.target) after)
        (sym (told_here k s.before hub.target input opened' closed' position' live l open_is shut_is (omega (arith, p, s.place)))))

-- behind the last input
front_or_none : (heard : List Told) (flag : Bool) → (flag ≡ true) ↔ (heard ≡ []) → (flag ≡ true) ↔ IsFront heard []
front_or_none heard flag is = ((λ e. subst (λ r. IsFront r []) (sym (is.0 e)) ([], refl)), (λ front. is.1 (front_none heard front)))

pub stands_last : (images : List Image) (k : ℕ) (commands : List Accepted) (inputs left : List Input) (lines rest : List LogLine) (opened closed : Bool) (position : ℕ) (hub : HubValue) (flag : Bool)
    → Stands images k commands inputs left lines rest opened closed position hub → left ≡ [] → (flag ≡ true) ↔ (owed_in commands rest ≡ [])
    → (flag ≡ true) ↔ IsFront (owed_in commands lines) (filter is_owed (sent images k inputs))
stands_last images k commands inputs left lines rest opened closed position hub flag s is none =
    let last = front_or_none (owed_in commands rest) flag none in
    let nothing : owed_after k s.before hub.target left ≡ [] = ap (owed_after k s.before hub.target) is in (
      (λ e. s.front.1 (subst (IsFront (owed_in commands rest)) (sym nothing) (last.0 e))),
      (λ front. last.1 (subst (IsFront (owed_in commands rest)) nothing (s.front.0 front))),
    )

pub counted_first : (most : ℕ) (inputs : List Input) → length inputs ≤ most → 0 + length inputs ≤ most
counted_first most inputs few = omega (arith, few)

-- ---- a whole log

pub no_channel : (inputs : List Input) (lines : List LogLine) (P : ℕ → Type 0) → ((k : ℕ) → IsChannelOf lines inputs k → ⊥) → (true ≡ true) ↔ OnItsChannel lines inputs P
no_channel inputs lines P none = ((λ e k on. absurd (none k on)), (λ on. refl))

pub on_one : (inputs : List Input) (lines : List LogLine) (k : ℕ) (P : ℕ → Type 0) (flag : Bool) → IsChannelOf lines inputs k → (flag ≡ true) ↔ P k → (flag ≡ true) ↔ OnItsChannel lines inputs P
on_one inputs lines k P flag on tells = ((λ e j other. subst P (one_channel lines inputs k j on other) (tells.0 e)), (λ all. tells.1 (all k on)))

told_in_order : (images : List Image) (inputs : List Input) (lines : List LogLine) (commands : List Command) (k : ℕ) (flag : Bool) → AreOfLog lines commands
    → (flag ≡ true) ↔ IsFront (owed_in (as_accepted commands) (from_hello lines)) (filter is_owed (sent images k inputs)) → (flag ≡ true) ↔ IsToldInOrder images inputs lines k
told_in_order images inputs lines commands k flag of tells =
    subst (λ (cs : List Accepted). (flag ≡ true) ↔ IsFront (owed_in cs (from_hello lines)) (filter is_owed (sent images k inputs))) of.accepted_are tells

pub on_channel : (images : List Image) (inputs : List Input) (lines from : List LogLine) (commands : List Command) (k : ℕ) (flag : Bool) → IsChannelOf lines inputs k → AreOfLog lines commands
    → from ≡ from_hello lines → (flag ≡ true) ↔ IsFront (owed_in (as_accepted commands) from) (filter is_owed (sent images k inputs))
    → (flag ≡ true) ↔ OnItsChannel lines inputs (IsToldInOrder images inputs lines)
on_channel images inputs lines from commands k flag on of is tells =
    on_one inputs lines k (IsToldInOrder images inputs lines) flag on
    (told_in_order images inputs lines commands k flag of (subst (λ f. (flag ≡ true) ↔ IsFront (owed_in (as_accepted commands) f) (filter is_owed (sent images k inputs))) is tells))

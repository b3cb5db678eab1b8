-- What a client keeps of the messages that it took is true of the target.
use Rattle.std.proofs.Common.{◌≡◌, ℕ, ◌<◌, ◌^◌, false, List, [], ◌∷◌, ◌++◌, length, map, filter, Option, Some, None, refl, ap, sym, ◌∙◌, subst}
use Rattle.std.specs.Prelude.{decimal, option_and_then}
use Rattle.std.specs.List.{AllByRecursion}
use Rattle.std.proofs.lemmas.List.{append_assoc}
use Rattle.std.proofs.lemmas.List.Elements.{filter-append}
use Rattle.cache_learning.specs.Kept.{kept}
use Rattle.channel_core.specs.Arrivals.{Spoken}
use Rattle.channel_core.specs.Wire.{locator}
use Rattle.client_log.specs.Lessons as log_lessons
use Rattle.client_node.specs.ClientValue.{ClientValue}
use Rattle.client_node.specs.Runs.{Past, TellsPast, tells}
use Rattle.knowledge.specs.Facts.{IsPart, byte_is, nothing}
use Rattle.knowledge.specs.Learning.{Message, learn_all, learned}
use Rattle.target_contexts.specs.declared.process.Image.{Image}
use Rattle.target_hub.specs.Fresh.{target_at}
use Rattle.target_hub.specs.declared.input.Input.{Input}
use Rattle.target_hub.specs.HubValue.{TargetValue}
use Rattle.target_truth.specs.Holds.{Holds}
use Rattle.target_truth.specs.Typed.{AreTyped}
use Rattle.tcf_text.specs.Lines.{Accepted, accepted, last_mark}
use Rattle.tcf_text.specs.Once.{Once}
use Rattle.tcf_text.specs.declared.log.LogLine.{LogLine}
use Rattle.value_node.specs.Asked.{Asked}
use Rattle.value_node.specs.OwnMessages.{IsOwn, OwnStep, a_hello, a_result, an_unknown}
use Rattle.chain_heard.specs.Coherent.{HeardIsCoherent, IsTrueThen, NoTargetHeardIsCoherent}
use Rattle.chain_heard.specs.Heard.{asked_as, heard_in}
use Rattle.chain_told.specs.Told.{AreToldRightly, AreTrueAt, IsToldRightly, command_under, lesson, lessons, mark_of}
use Rattle.value_node.specs.Store as value
use Rattle.value_node.specs.Deeds.{command_asked}
use Rattle.cache_learning.proofs.TheLaws.{kept_is_learned}
use Rattle.chain_heard.proofs.Filtered.{last_mark_told}
use Rattle.chain_heard.proofs.Heard.{FrontOf, front_of, none_asked, own_no_command, own_readable, taken_lines}
use Rattle.chain_heard.proofs.Known.{Counted}
use Rattle.chain_heard.proofs.Lessons.{Answering, AreAlike, found_under, front_taught}
use Rattle.chain_heard.proofs.Lines.{AreLinesOf, IsNoCommand, LinesCut, MessagesCut, line_mark, lines_cut, messages_cut}
use Rattle.chain_heard.proofs.Marks.{mark_now, own_unmarked}
use Rattle.chain_heard.proofs.Own.{First, first_of}
use Rattle.chain_heard.proofs.Placed.{bare_lines, last_bare, mark_pushed}
use Rattle.chain_told.proofs.Agreeing.{learn_append}
use Rattle.chain_through.proofs.OwnLessons.{TeachesNothing, hello_teaches, own_teaches}
use Rattle.chain_told.proofs.Doing.{IsReadable}
use Rattle.list_laws.proofs.AllLists.{all_left as all_front}
use Rattle.chain_through.proofs.OwnTold.{IsUnmarked}

-- ---- what is kept is a part of what was learned

kept_holds : (messages : List Message) (target : TargetValue) → Holds (learned messages) target → Holds (kept messages) target
kept_holds messages target true_then = record {
  facts = λ fact known. true_then.facts fact (kept_is_learned messages fact known);
  grounded = true_then.grounded;
  still = λ process addr byte known. true_then.still process addr byte (kept_is_learned messages (byte_is process addr byte) known);
}

-- ---- the last message

-- a list is empty, or has a last element
data Ending {A : Type 0} (xs : List A) : Type 0 where
  empty_list : xs ≡ [] → Ending xs
  last_is : (before : List A) (x : A) → xs ≡ before ++ x ∷ [] → Ending xs

later_end : {A : Type 0} → (y : A) (xs : List A) → Ending xs → Ending (y ∷ xs)
later_end y xs (empty_list is) = last_is [] y (ap (λ l. y ∷ l) is)
later_end y xs (last_is before x is) = last_is (y ∷ before) x (ap (λ l. y ∷ l) is)

ending : {A : Type 0} → (xs : List A) → Ending xs
ending [] = empty_list refl
ending (x ∷ xs) = later_end x xs (ending xs)

-- what is learned up to the last message is true at its position
record Reached (images : List Image) (history : List Input) (commands : List Asked) (heard : List Spoken) (messages : List LogLine) : Type 0 where
  true_here : AreTrueAt images history (mark_of heard) (learned (lessons commands heard))
  marked : (position : ℕ) → last_mark messages ≡ Some (Some position) → mark_of heard ≡ Some position
  last : (position : ℕ) → mark_of heard ≡ Some position → last_mark messages ≡ Some (Some position)

nothing_reached : (images : List Image) (history : List Input) (commands : List Asked) (messages : List LogLine) → AreLinesOf [] messages → Reached images history commands [] messages
nothing_reached images history commands [] are = record {
  true_here = λ fact known. known;
  marked = λ position is. absurd cc;
  last = λ position is. absurd cc;
}
nothing_reached images history commands (x ∷ messages) are = absurd are

one_reached : (images : List Image) (history : List Input) (commands : List Asked) (before : List Spoken) (s : Spoken) (messages first rest : List LogLine)
    → IsToldRightly images history commands before s → messages ≡ first ++ rest → AreLinesOf (s ∷ []) rest → Reached images history commands (before ++ s ∷ []) messages
one_reached images history commands before s messages first [] right split are = absurd are
one_reached images history commands before s messages first (x ∷ []) right split are =
    let here : mark_of (before ++ s ∷ []) ≡ s.mark = mark_now images history commands before s right in
    let line : last_mark messages ≡ Some s.mark = ap last_mark split ∙ mark_pushed first x s.mark (line_mark s.message s.mark x are.0) in
    record {
      true_here = right.true;
      marked = λ position is. let both : Some s.mark ≡ Some (Some position) = sym line ∙ is in let same : s.mark ≡ Some position = cc in here ∙ same;
      last = λ position is. line ∙ ap (λ m. Some m) (sym here ∙ is);
    }
one_reached images history commands before s messages first (x ∷ y ∷ rest) right split are = absurd are.1

reached_by : (images : List Image) (history : List Input) (commands : List Asked) (all heard rest : List Spoken) (messages : List LogLine) → AreToldRightly images history commands all
    → all ≡ heard ++ rest → AreLinesOf heard messages → Ending heard → Reached images history commands heard messages
reached_by images history commands all heard rest messages right split are (empty_list is) =
    subst (λ l. Reached images history commands l messages) (sym is) (nothing_reached images history commands messages (subst (λ l. AreLinesOf l messages) is are))
reached_by images history commands all heard rest messages right split are (last_is before s is) =
    let cut : MessagesCut before (s ∷ []) messages = messages_cut before (s ∷ []) messages (subst (λ l. AreLinesOf l messages) is are) in
    subst (λ l. Reached images history commands l messages) (sym is)
    (one_reached images history commands before s messages cut.front cut.rest
    (right before rest s (split ∙ ap (λ l. l ++ rest) is ∙ append_assoc before (s ∷ []) rest)) cut.split cut.second)

-- ---- a front of the log

then_true : (images : List Image) (history : List Input) (commands : List Asked) (front : List LogLine) (heard : List Spoken) → AreTyped images
    → learned (log_lessons.lessons front) ≡ learned (lessons commands heard) → Reached images history commands heard (filter tells front) → IsTrueThen front images history
then_true images history commands front heard typed same reached = record {
  holds = λ position is.
      let mark : mark_of heard ≡ Some position = reached.marked position (last_mark_told front ∙ is) in
      let here : AreTrueAt images history (Some position) (learned (lessons commands heard)) =
      subst (λ m. AreTrueAt images history m (learned (lessons commands heard))) mark reached.true_here in
      kept_holds (log_lessons.lessons front) (target_at images history position)
      (subst (λ known. Holds known (target_at images history position)) (sym same) (here.1 typed));
  empty = λ without. by_mark (mark_of heard) refl (λ position is. without position (sym (last_mark_told front) ∙ reached.last position is));
}
  where
    by_mark : (mark : Option ℕ) → mark_of heard ≡ mark → ((position : ℕ) → mark_of heard ≡ Some position → ⊥) → IsPart (kept (log_lessons.lessons front)) nothing
    by_mark None is none =
        let here : IsPart (learned (lessons commands heard)) nothing = subst (λ m. AreTrueAt images history m (learned (lessons commands heard))) is reached.true_here in
        λ fact known. subst (λ facts. IsPart facts nothing) (sym same) here fact (kept_is_learned (log_lessons.lessons front) fact known)
    by_mark (Some position) is none = absurd (none position is)

answering : (c : ClientValue) (p : Past) → TellsPast c p → Once false c.log → length p.commands < 2 ^ 64 → Answering c.log
answering c p past once few = record {
  counted = subst Counted (sym past.commands) (record { counted = past.counted; few = few });
  pending = once.answers;
}

told_parts : (log front back : List LogLine) → front ++ back ≡ log → filter tells log ≡ filter tells front ++ filter tells back
told_parts log front back whole = ap (filter tells) (sym whole) ∙ filter-append tells front back

pub heard_coherent : HeardIsCoherent
heard_coherent images history k position c p typed past once shown heard = record {
  shown = shown;
  always = λ front back whole.
      let commands : List Asked = map asked_as p.commands in
      let are = taken_lines c p past once heard.few heard.heard heard.are heard.readable (none_asked images history commands heard.heard heard.told) in
      let cut : LinesCut heard.heard (filter tells front) (filter tells back) =
      lines_cut heard.heard (filter tells front) (filter tells back) (subst (AreLinesOf heard.heard) (told_parts c.log front back whole) are) in
      let alike : AreAlike (log_lessons.lessons front) (lessons (map asked_as (accepted c.log)) cut.front) =
      front_taught c.log front back (answering c p past once heard.few) whole cut.front cut.first in
      then_true images history commands front cut.front typed (alike nothing ∙ ap (λ cs. learned (lessons (map asked_as cs) cut.front)) past.commands)
      (reached_by images history commands heard.heard cut.front cut.rest (filter tells front) heard.told cut.split cut.first (ending cut.front));
}

-- ---- nothing of the target

-- where nothing is known, nothing is known behind these messages
abbrev LeavesNothing : List Message → Type 0
LeavesNothing messages = learn_all messages nothing ≡ nothing

both_leave : (xs ys : List Message) → LeavesNothing xs → LeavesNothing ys → LeavesNothing (xs ++ ys)
both_leave xs ys first second = learn_append xs ys nothing ∙ ap (learn_all ys) first ∙ second

-- what value-adds say themselves teaches nothing
own_teach : (all done commands : List Accepted) (own : List Spoken) (asked left : List Asked) → Counted all → all ≡ done ++ commands → map asked_as commands ≡ asked → IsOwn asked own left
    → AllByRecursion (λ s. LeavesNothing (lesson (map asked_as all) s.message)) own
own_teach all done commands [] asked left counted split are is = tt
own_teach all done commands (s ∷ own) asked left counted split are is =
    by_step (subst (λ cs. OwnStep cs s.message is.1.0) (sym are) is.1.1)
    (λ further rest place same. own_teach all further rest own is.1.0 left counted place same is.1.2)
  where
    by_step : OwnStep (map asked_as commands) s.message is.1.0
        → ((further rest : List Accepted) → all ≡ further ++ rest → map asked_as rest ≡ is.1.0 → AllByRecursion (λ t. LeavesNothing (lesson (map asked_as all) t.message)) own)
        → AllByRecursion (λ t. LeavesNothing (lesson (map asked_as all) t.message)) (s ∷ own)
    by_step (a_hello body named same) behind =
        (subst (λ m. LeavesNothing (lesson (map asked_as all) m)) (sym named) (hello_teaches body), behind done commands split (sym same))
    by_step (a_result d body named at parts) behind =
        let first : First commands d is.1.0 = first_of commands d is.1.0 parts in
        let place : all ≡ done ++ first.command ∷ first.rest = split ∙ ap (λ l. done ++ l) first.split in
        let token : decimal first.command.number ≡ d.token = ap (λ (a : Asked). a.token) first.same in
        let service : first.command.service ≡ locator = ap (λ (a : Asked). a.service) first.same ∙ at in
        let under : command_under d.token (map asked_as all) ≡ Some (asked_as first.command) =
        subst (λ t. command_under t (map asked_as all) ≡ Some (asked_as first.command)) token (found_under all done first.rest first.command counted place) in
        let taught : TeachesNothing (value.lesson_of (command_asked (asked_as first.command)) body) = own_teaches (asked_as first.command) body service in (
          subst (λ m. LeavesNothing (lesson (map asked_as all) m)) (sym named)
              (subst (λ c. TeachesNothing (value.lesson_of (option_and_then command_asked c) body)) (sym under) taught),
          behind (done ++ first.command ∷ []) first.rest (place ∙ sym (append_assoc done (first.command ∷ []) first.rest)) first.behind,
        )
    by_step (an_unknown d named parts) behind =
        let first : First commands d is.1.0 = first_of commands d is.1.0 parts in
        let place : all ≡ done ++ first.command ∷ first.rest = split ∙ ap (λ l. done ++ l) first.split in (
          subst (λ m. LeavesNothing (lesson (map asked_as all) m)) (sym named) refl,
          behind (done ++ first.command ∷ []) first.rest (place ∙ sym (append_assoc done (first.command ∷ []) first.rest)) first.behind,
        )

all_leave : (commands : List Asked) (heard : List Spoken) → AllByRecursion (λ s. LeavesNothing (lesson commands s.message)) heard → LeavesNothing (lessons commands heard)
all_leave commands [] all = refl
all_leave commands (s ∷ heard) all = both_leave (lesson commands s.message) (lessons commands heard) all.0 (all_leave commands heard all.1)

-- where nothing was learned, and the last message has no position
nothing_true : (images : List Image) (history : List Input) (front : List LogLine) → LeavesNothing (log_lessons.lessons front)
    → ((position : ℕ) → last_mark front ≡ Some (Some position) → ⊥) → IsTrueThen front images history
nothing_true images history front none unmarked = record {
  holds = λ position is. absurd (unmarked position is);
  empty = λ without. subst (IsPart (kept (log_lessons.lessons front))) none (kept_is_learned (log_lessons.lessons front));
}

pub no_target_coherent : NoTargetHeardIsCoherent
no_target_coherent images history c p past once shown heard = record {
  shown = shown;
  always = λ front back whole.
      let f : FrontOf (heard_in p) heard.own = front_of (heard_in p) heard.own heard.told in
      let readable = all_front IsReadable f.heard f.rest (subst (AllByRecursion IsReadable) f.split (own_readable heard.own heard.readable)) in
      let no_commands =
      all_front (λ s. IsNoCommand s.message) f.heard f.rest (subst (AllByRecursion (λ s. IsNoCommand s.message)) f.split (own_no_command heard.own (map asked_as p.commands) heard.left heard.is_own)) in
      let are = taken_lines c p past once heard.few f.heard f.are readable no_commands in
      let cut : LinesCut f.heard (filter tells front) (filter tells back) =
      lines_cut f.heard (filter tells front) (filter tells back) (subst (AreLinesOf f.heard) (told_parts c.log front back whole) are) in
      let split : heard.own ≡ cut.front ++ (cut.rest ++ f.rest) = f.split ∙ ap (λ l. l ++ f.rest) cut.split ∙ append_assoc cut.front cut.rest f.rest in
      let bare = all_front IsUnmarked cut.front (cut.rest ++ f.rest) (subst (AllByRecursion IsUnmarked) split (own_unmarked heard.own (map asked_as p.commands) heard.left heard.is_own)) in
      let counted : Counted p.commands = record { counted = past.counted; few = heard.few } in
      let teach =
      all_front (λ (s : Spoken). LeavesNothing (lesson (map asked_as p.commands) s.message)) cut.front (cut.rest ++ f.rest)
      (subst (AllByRecursion (λ (s : Spoken). LeavesNothing (lesson (map asked_as p.commands) s.message))) split
      (own_teach p.commands [] p.commands heard.own (map asked_as p.commands) heard.left counted refl refl heard.is_own)) in
      let alike : AreAlike (log_lessons.lessons front) (lessons (map asked_as (accepted c.log)) cut.front) =
      front_taught c.log front back (answering c p past once heard.few) whole cut.front cut.first in
      let none : LeavesNothing (log_lessons.lessons front) =
      alike nothing ∙ ap (λ cs. learned (lessons (map asked_as cs) cut.front)) past.commands ∙ all_leave (map asked_as p.commands) cut.front teach in
      nothing_true images history front none
      (λ position is. last_bare (filter tells front) position (bare_lines cut.front (filter tells front) bare cut.first) (last_mark_told front ∙ is));
}

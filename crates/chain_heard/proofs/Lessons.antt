-- What the lines of a log teach is what is learned of the messages that they tell.
use Rattle.std.proofs.Common.{◌≡◌, ℕ, ◌+◌, ◌-◌, ◌<◌, ◌^◌, zero, suc, Bool, true, false, true≢false, cond, List, [], ◌∷◌, ◌++◌, length, map, filter, Option, Some, refl, ap, ap₂, sym, ◌∙◌, subst, arith, append-nil}
use Rattle.std.specs.Prelude.{bytes_eq, decimal, option_and_then, slice_get}
use Rattle.std.specs.List.{AllByRecursion, Contains, range_with_len}
use Rattle.std.proofs.lemmas.List.{append_assoc}
use Rattle.std.proofs.lemmas.List.Concat.{flat_map-append}
use Rattle.cache_learning.specs.Lessons.{final_message}
use Rattle.channel_core.specs.Arrivals.{Spoken}
use Rattle.client_log.specs.Lessons as log_lessons
use Rattle.client_log.specs.Lessons.{lesson_of, lessons_from, numbered, reading_as}
use Rattle.client_node.specs.Runs.{tells}
use Rattle.command_tables.specs.Reading.{reading_of}
use Rattle.command_tables.specs.declared.reading.Reading.{Reading}
use Rattle.command_tables.specs.declared.reading.Reading.TheVariants as readings
use Rattle.knowledge.specs.Facts.{Facts}
use Rattle.knowledge.specs.Learning.{Message, learn_all}
use Rattle.tcf_message.specs.Message.{MessageValue, final}
use Rattle.tcf_text.specs.Each.{Each}
use Rattle.tcf_text.specs.Lines.{Accepted, accepted, accepted_by}
use Rattle.tcf_text.specs.Once.{AnswersPending, IsPending, numbers}
use Rattle.tcf_text.specs.declared.log.LogLine.{LogLine}
use Rattle.tcf_text.specs.declared.log.LogLine.TheVariants as lines
use Rattle.value_node.specs.Asked.{Asked}
use Rattle.chain_heard.specs.Heard.{asked_as}
use Rattle.chain_told.specs.Told.{command_under, lesson, lessons}
use Rattle.value_node.specs.Store as value
use Rattle.value_node.specs.Barriers.{command_in}
use Rattle.value_node.specs.Deeds.{command_asked}
use Rattle.chain_heard.proofs.Known.{Counted, counted_few, number_at}
use Rattle.chain_heard.proofs.Lines.{AreFew, AreLinesOf, IsLineOf, IsOfFew, says_event, says_final, says_hello, says_progress, says_unknown}
use Rattle.chain_heard.proofs.Numbers.{InParts, in_parts, numbers_below}
use Rattle.chain_told.proofs.Agreeing.{learn_append}
use Rattle.list_laws.proofs.Numbers.{other_decimals as apart}
use Rattle.list_laws.proofs.Lists.{equal_itself as same_token}
use Rattle.list_laws.proofs.AllLists.{all_left as all_front, all_both as all_two}

-- ---- a command by its number

-- a log of which the commands are numbered from 1 on, and each answer stands behind its command
pub record Answering (log : List LogLine) : Type 0 where
  pub counted : Counted (accepted log)
  pub pending : Each AnswersPending log

record Numbered (commands : List Accepted) (number : ℕ) : Type 0 where
  done : List Accepted
  command : Accepted
  left : List Accepted
  split : commands ≡ done ++ command ∷ left
  number_is : number ≡ command.number

numbered_in : (commands : List Accepted) (number : ℕ) → Contains (numbers commands) number → Numbered commands number
numbered_in [] number (k, within, is) = absurd (omega arith)
numbered_in (c ∷ commands) number (zero, within, is) = record { done = []; command = c; left = commands; split = refl; number_is = sym is }
numbered_in (c ∷ commands) number (suc k, within, is) =
    let less : k < length (numbers commands) = omega arith in
    let more : Numbered commands number = numbered_in commands number (k, less, is) in
    record { done = c ∷ more.done; command = more.command; left = more.left; split = ap (λ l. c ∷ l) more.split; number_is = more.number_is }

got_at : (done left : List Accepted) (c : Accepted) → slice_get (done ++ c ∷ left) (length done) ≡ Some c
got_at [] left c = refl
got_at (d ∷ done) left c = got_at done left c

under_at : (done left : List Accepted) (c : Accepted) (token : List ℕ) → AllByRecursion (λ d. bytes_eq token (decimal d.number) ≡ false) done → token ≡ decimal c.number
    → command_under token (map asked_as (done ++ c ∷ left)) ≡ Some (asked_as c)
under_at [] left c token others named =
    ap (λ b. cond b (Some (asked_as c)) (command_under token (map asked_as left))) (ap (λ t. bytes_eq t (decimal c.number)) named ∙ same_token (decimal c.number))
under_at (d ∷ done) left c token others named =
    ap (λ b. cond b (Some (asked_as d)) (command_under token (map asked_as (done ++ c ∷ left)))) others.0 ∙ under_at done left c token others.1 named

-- it is found under its token
pub found_under : (all done left : List Accepted) (c : Accepted) → Counted all → all ≡ done ++ c ∷ left → command_under (decimal c.number) (map asked_as all) ≡ Some (asked_as c)
found_under all done left c counted split =
    let numbered_all : numbers (done ++ c ∷ left) ≡ range_with_len 1 (length (done ++ c ∷ left)) = subst (λ cs. numbers cs ≡ range_with_len 1 (length cs)) split counted.counted in
    let parts : InParts done (c ∷ left) 1 = in_parts done (c ∷ left) 1 numbered_all in
    let at : c.number ≡ 1 + length done = number_at done left c 1 (length (done ++ c ∷ left)) numbered_all in
    let few : AreFew (done ++ c ∷ left) = subst AreFew split (counted_few all counted) in
    let small : c.number < 2 ^ 64 = few_here done few in
    ap (λ cs. command_under (decimal c.number) (map asked_as cs)) split
    ∙ under_at done left c (decimal c.number)
    (all_two (λ d. d.number < 1 + length done) IsOfFew (λ d. bytes_eq (decimal c.number) (decimal d.number) ≡ false) done
    (λ d below tiny. apart c.number d.number small tiny (λ same. omega arith)) (numbers_below done 1 (length done) parts.first) (all_front IsOfFew done (c ∷ left) few))
    refl
  where
    few_here : (done : List Accepted) → AreFew (done ++ c ∷ left) → c.number < 2 ^ 64
    few_here [] few = few.0
    few_here (d ∷ more) few = few_here more few.1

record Found (log before : List LogLine) (number : ℕ) : Type 0 where
  command : Accepted
  there : numbered number (accepted before) ≡ Some command
  sent_as : command_under (decimal number) (map asked_as (accepted log)) ≡ Some (asked_as command)

found : (log before after : List LogLine) (x : LogLine) (number : ℕ) → Answering log → log ≡ before ++ x ∷ after → IsPending before number → Found log before number
found log before after x number facts split waits =
    let n : Numbered (accepted before) number = numbered_in (accepted before) number waits.accepted in
    let further : List Accepted = accepted (x ∷ after) in
    let all : accepted log ≡ n.done ++ n.command ∷ (n.left ++ further) =
    ap accepted split ∙ flat_map-append accepted_by before (x ∷ after) ∙ ap (λ l. l ++ further) n.split ∙ append_assoc n.done (n.command ∷ n.left) further in
    let at : n.command.number ≡ 1 + length n.done =
    number_at n.done (n.left ++ further) n.command 1 (length (accepted log)) (subst (λ cs. numbers cs ≡ range_with_len 1 (length (accepted log))) all facts.counted.counted) in
    let same : number ≡ n.command.number = n.number_is in
    let place : number - 1 ≡ length n.done = omega arith in
    record {
      command = n.command;
      there = ap₂ slice_get n.split place ∙ got_at n.done n.left n.command;
      sent_as =
          ap (λ m. command_under (decimal m) (map asked_as (accepted log))) same
          ∙ found_under (accepted log) n.done (n.left ++ further) n.command facts.counted all;
    }

-- ---- one line

-- both teach the same
abbrev pub AreAlike : List Message → List Message → Type 0
AreAlike xs ys = (known : Facts) → learn_all xs known ≡ learn_all ys known

same_alike : (xs ys : List Message) → xs ≡ ys → AreAlike xs ys
same_alike xs ys same known = ap (λ l. learn_all l known) same

final_by : (reading : Reading) (body : List ℕ) → final_message (Some reading) body ≡ value.lesson_of (command_in reading) body
final_by (readings.Known command) body = refl
final_by readings.Unknown body = refl
final_by (readings.Bad index code) body = refl

final_alike : (log before after : List LogLine) (number : ℕ) (mark : Option ℕ) (body : List ℕ) → Answering log → log ≡ before ++ lines.Final number mark body ∷ after
    → lesson_of (accepted before) (lines.Final number mark body) ≡ lesson (map asked_as (accepted log)) (final (decimal number) body)
final_alike log before after number mark body facts split =
    let f : Found log before number = found log before after (lines.Final number mark body) number facts split (facts.pending before after (lines.Final number mark body) split) in
    ap (λ c. final_message (reading_as c) body ∷ []) f.there
    ∙ ap (λ m. m ∷ []) (final_by (reading_of f.command.service f.command.name f.command.body) body)
    ∙ ap (λ c. value.lesson_of (option_and_then command_asked c) body ∷ []) (sym f.sent_as)

line_alike : (log before after : List LogLine) (m : MessageValue) (mark : Option ℕ) (x : LogLine) → Answering log → log ≡ before ++ x ∷ after → IsLineOf m mark x
    → AreAlike (lesson_of (accepted before) x) (lesson (map asked_as (accepted log)) m)
line_alike log before after m mark x facts split (says_hello body is says) =
    same_alike (lesson_of (accepted before) x) (lesson (map asked_as (accepted log)) m) (ap (lesson_of (accepted before)) says ∙ sym (ap (lesson (map asked_as (accepted log))) is))
line_alike log before after m mark x facts split (says_event service name body is plain says) =
    same_alike (lesson_of (accepted before) x) (lesson (map asked_as (accepted log)) m) (ap (lesson_of (accepted before)) says ∙ sym (ap (lesson (map asked_as (accepted log))) is))
line_alike log before after m mark x facts split (says_progress number body few is says) = λ known.
    ap (λ l. learn_all (lesson_of (accepted before) l) known) says ∙ sym (ap (λ n. learn_all (lesson (map asked_as (accepted log)) n) known) is)
line_alike log before after m mark x facts split (says_unknown number few is says) = λ known.
    ap (λ l. learn_all (lesson_of (accepted before) l) known) says ∙ sym (ap (λ n. learn_all (lesson (map asked_as (accepted log)) n) known) is)
line_alike log before after m mark x facts split (says_final number body few is says) =
    same_alike (lesson_of (accepted before) x) (lesson (map asked_as (accepted log)) m)
    (ap (lesson_of (accepted before)) says
    ∙ final_alike log before after number mark body facts (split ∙ ap (λ l. before ++ l ∷ after) says)
    ∙ sym (ap (lesson (map asked_as (accepted log))) is))

silent_lesson : (commands : List Accepted) (x : LogLine) → tells x ≡ false → lesson_of commands x ≡ []
silent_lesson commands (lines.Sent number service name body) silent = refl
silent_lesson commands (lines.Refused why) silent = refl
silent_lesson commands (lines.Closed number) silent = refl
silent_lesson commands (lines.Ended why) silent = refl
silent_lesson commands (lines.Cached what value) silent = refl
silent_lesson commands x silent = absurd (true≢false silent)

-- ---- the lines of a log

lessons_first : (before : List LogLine) (x : LogLine) (xs : List LogLine)
    → lessons_from (accepted before) (x ∷ xs) ≡ lesson_of (accepted before) x ++ lessons_from (accepted (before ++ x ∷ [])) xs
lessons_first before x xs =
    ap (λ cs. lesson_of (accepted before) x ++ lessons_from cs xs)
    (sym (flat_map-append accepted_by before (x ∷ []) ∙ ap (λ cs. accepted before ++ cs) (append-nil (accepted_by x))))

both_alike : (xs us ys vs : List Message) → AreAlike xs ys → AreAlike us vs → AreAlike (xs ++ us) (ys ++ vs)
both_alike xs us ys vs first second known =
    learn_append xs us known ∙ ap (learn_all us) (first known) ∙ second (learn_all ys known) ∙ sym (learn_append ys vs known)

-- these lines of the log tell these messages
abbrev AreTaught : (log before xs after : List LogLine) → Type 0
AreTaught log before xs after = (heard : List Spoken) → AreLinesOf heard (filter tells xs) → log ≡ before ++ (xs ++ after)
    → AreAlike (lessons_from (accepted before) xs) (lessons (map asked_as (accepted log)) heard)

told_first : (log before xs after : List LogLine) (x : LogLine) (heard : List Spoken) → Answering log → AreTaught log (before ++ x ∷ []) xs after
    → AreLinesOf heard (x ∷ filter tells xs) → log ≡ before ++ (x ∷ (xs ++ after))
    → AreAlike (lessons_from (accepted before) (x ∷ xs)) (lessons (map asked_as (accepted log)) heard)
told_first log before xs after x [] facts further are split = absurd are
told_first log before xs after x (s ∷ heard) facts further are split =
    let commands : List Asked = map asked_as (accepted log) in
    subst (λ messages. AreAlike messages (lesson commands s.message ++ lessons commands heard)) (sym (lessons_first before x xs))
    (both_alike (lesson_of (accepted before) x) (lessons_from (accepted (before ++ x ∷ [])) xs) (lesson commands s.message) (lessons commands heard)
    (line_alike log before (xs ++ after) s.message s.mark x facts split are.0)
    (further heard are.1 (split ∙ sym (append_assoc before (x ∷ []) (xs ++ after)))))

by_flag : (flag : Bool) (log before xs after : List LogLine) (x : LogLine) → Answering log → tells x ≡ flag → AreTaught log (before ++ x ∷ []) xs after
    → (heard : List Spoken) → AreLinesOf heard (cond flag (x ∷ filter tells xs) (filter tells xs)) → log ≡ before ++ (x ∷ (xs ++ after))
    → AreAlike (lessons_from (accepted before) (x ∷ xs)) (lessons (map asked_as (accepted log)) heard)
by_flag true log before xs after x facts is further heard are split = told_first log before xs after x heard facts further are split
by_flag false log before xs after x facts is further heard are split =
    subst (λ messages. AreAlike messages (lessons (map asked_as (accepted log)) heard))
    (sym (lessons_first before x xs ∙ ap (λ here. here ++ lessons_from (accepted (before ++ x ∷ [])) xs) (silent_lesson (accepted before) x is)))
    (further heard are (split ∙ sym (append_assoc before (x ∷ []) (xs ++ after))))

taught : (xs log before after : List LogLine) → Answering log → AreTaught log before xs after
taught [] log before after facts [] are split = λ known. refl
taught [] log before after facts (s ∷ heard) are split = absurd are
taught (x ∷ xs) log before after facts heard are split =
    by_flag (tells x) log before xs after x facts refl (taught xs log (before ++ x ∷ []) after facts) heard are split

-- what the front of a log teaches is what is learned of its messages
pub front_taught : (log front back : List LogLine) → Answering log → front ++ back ≡ log → (heard : List Spoken) → AreLinesOf heard (filter tells front)
    → AreAlike (log_lessons.lessons front) (lessons (map asked_as (accepted log)) heard)
front_taught log front back facts whole heard are = taught front log [] back facts heard are (sym whole)

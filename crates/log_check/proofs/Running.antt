-- Commands of a log against those that a channel executed.
use Rattle.std.proofs.Common.{◌≡◌, ℕ, ◌+◌, ◌==◌, Bool, true, false, cond, List, [], ◌∷◌, ◌++◌, drop, map, refl, sym, ◌∙◌, ap, subst, inl, inr, ◌⊎◌, ⊎_elim}
use Rattle.std.specs.Prelude.{◌↔◌, Option, Some, None, slice_get}
use Rattle.std.specs.List.{AllByRecursion, filter, flat_map}
use Rattle.std.proofs.lemmas.Bool.{cond-false, cond-true, eq-eqb, false≢true}
use Rattle.std.proofs.lemmas.List.Elements.{filter-append}
use Rattle.list_laws.specs.Fronts.{IsFront, IsSubsequenceOf}
use Rattle.list_laws.proofs.Fronts.{front_cons, front_first, front_rest, no_front}
use Rattle.command_tables.specs.Canonical.{IsReadable}
use Rattle.command_tables.specs.Reading.{IsReading, reading_of}
use Rattle.command_tables.specs.ReadingLaws.{KnownAreReadable}
use Rattle.command_tables.specs.declared.reading.Reading.{Reading}
use Rattle.command_tables.specs.declared.reading.Reading.TheVariants.{Known}
use Rattle.command_tables.specs.declared.writing.WrittenCommand.{WrittenCommand}
use Rattle.journal_text.specs.Inputs.{InputIsRead}
use Rattle.tcf_values.specs.declared.command.Command as values
use Rattle.tcf_text.specs.Lines.{Accepted, from_hello}
use Rattle.tcf_text.specs.Once.{numbers}
use Rattle.tcf_text.specs.declared.log.LogLine.{LogLine}
use Rattle.target_hub.specs.Ordered.{ExecutesItsCommands, IsChannelOf, through}
use Rattle.target_hub.specs.Received.{answer_of, read}
use Rattle.target_hub.specs.Sent.{ReadCommand, executed_by, executed_on, is_through}
use Rattle.target_hub.specs.declared.input.Input.{Input}
use Rattle.target_hub.specs.declared.input.Input.TheVariants.{Executed}
use Rattle.log_check.specs.Matching.{AreFront, AreLeft, Finds, IsNamedAlike, Matched, Misses, NumbersAreFront, as_read, passing, passing_numbers, read_as, through_by, through_on}
use Rattle.log_check.specs.Rules.{OnItsChannel}
use Rattle.log_check.specs.Sorts.{AreOfLog, IsSomeReading, accepted_as, as_accepted, passes}
use Rattle.log_check.specs.declared.executed.ExecutedCommand.{ExecutedCommand}
use Rattle.log_check.specs.declared.sorts.Command.{Command}
use Rattle.log_check.proofs.Sorting.{got_nothing, got_there, passing_of}
use Rattle.log_check.proofs.Standing.{on_one}

no_flag : {A : Type 0} → (A → ⊥) → (false ≡ true) ↔ A
no_flag not = ((λ is. absurd (false≢true is)), (λ a. absurd (not a)))

-- ---- what the channel executes by an input

pub executes_here : (k channel : ℕ) (reading : Reading) (service name : List ℕ) → channel ≡ k
    → executed_by k (Executed channel reading service name) ≡ record { reading = reading; service = service; name = name } ∷ []
executes_here k channel reading service name is = cond-true (channel == k) _ [] (eq-eqb channel k is)

pub executes_other : (k channel : ℕ) (reading : Reading) (service name : List ℕ) → (channel == k) ≡ false → executed_by k (Executed channel reading service name) ≡ []
executes_other k channel reading service name isnt = cond-false (channel == k) _ [] isnt

-- ---- whether two commands are the same

pub readable : KnownAreReadable → (command : values.Command) → IsSomeReading (Known command) → IsReadable command
readable law command some = (law some.0 some.1.0 command some.1.1).1

same_known : (one other : values.Command) → Known one ≡ Known other → one ≡ other
same_known one other e = cc

pub known_same : (one other : values.Command) (a b : WrittenCommand) (flag : Bool) → reading_of a.service a.name a.body ≡ Known one → reading_of b.service b.name b.body ≡ Known other
    → (one ≡ other → a ≡ b) → (flag ≡ true) ↔ (a ≡ b) → (flag ≡ true) ↔ (Known one ≡ Known other)
known_same one other a b flag a_read b_read written is =
    ((λ e. sym a_read ∙ (ap (λ (w : WrittenCommand). reading_of w.service w.name w.body) (is.0 e) ∙ b_read)), (λ same. is.1 (written (same_known one other same))))

abbrev one_as : Reading → List ℕ → List ℕ → ReadCommand
one_as reading service name = record { reading = reading; service = service; name = name }

pub some_reading : (service name : List ℕ) (reading : Reading) → IsReading service name reading → IsSomeReading reading
some_reading service name reading is = (service, (name, is))

pub some_read : (input : Input) (channel : ℕ) (reading : Reading) (service name : List ℕ) → InputIsRead input → input ≡ Executed channel reading service name → IsSomeReading reading
some_read input channel reading service name read is = (service, (name, subst InputIsRead is read))

pub same_read : (sent : Command) (e : ExecutedCommand) (reading : Reading) (alike flag : Bool) → (alike ≡ true) ↔ IsNamedAlike sent e → alike ≡ true
    → reading ≡ reading_of sent.service.now sent.name.now sent.body.now → (flag ≡ true) ↔ (reading ≡ e.reading.now) → (flag ≡ true) ↔ (read (accepted_as sent) ≡ read_as e)
same_read sent e reading alike flag named on is same =
    ((λ f. whole (sym is ∙ same.0 f) (named.0 on)), (λ all. same.1 (is ∙ ap (λ (c : ReadCommand). c.reading) all)))
  where
    whole : reading_of sent.service.now sent.name.now sent.body.now ≡ e.reading.now → IsNamedAlike sent e → read (accepted_as sent) ≡ read_as e
    whole here names =
        ap (λ r. one_as r sent.service.now sent.name.now) here ∙ (ap (λ n. one_as e.reading.now n sent.name.now) names.service ∙ ap (λ n. one_as e.reading.now e.service.now n) names.name)

pub other_names : (sent : Command) (e : ExecutedCommand) (alike : Bool) → (alike ≡ true) ↔ IsNamedAlike sent e → alike ≡ false → (false ≡ true) ↔ (read (accepted_as sent) ≡ read_as e)
other_names sent e alike named off =
    no_flag (λ all. false≢true (sym off ∙ named.1 (record { service = ap (λ (c : ReadCommand). c.service) all; name = ap (λ (c : ReadCommand). c.name) all })))

-- ---- matches

-- nothing is asked
meets_none : {A : Type 0} (R : List A → List A → Type 0) (all : List A) → Finds R [] all all
meets_none R all = record { before = λ later. ((λ r. r), (λ r. r)) }

matched_none : {A : Type 0} (R : List A → List A → Type 0) (xs all : List A) → xs ≡ [] → Finds R xs all all
matched_none R xs all is = subst (λ l. Finds R l all all) (sym is) (meets_none R all)

matched_same : {A : Type 0} (R : List A → List A → Type 0) (xs ys all : List A) (out : Option (List A)) → xs ≡ ys → Matched R ys all out → Matched R xs all out
matched_same R xs ys all out is matched = subst (λ l. Matched R l all out) (sym is) matched

-- ---- the next one

pub front_is : {A : Type 0} (x y : A) (all rest : List A) → all ≡ y ∷ rest → y ≡ x → Finds IsFront (x ∷ []) all rest
front_is x y all rest is same =
    record {
      before = λ later.
          ((λ front. front_rest x y later rest (subst (IsFront (x ∷ later)) is front)), (λ front. subst (IsFront (x ∷ later)) (sym is) (front_cons x y later rest (sym same) front)));
    }

front_isnt : {A : Type 0} (x y : A) (all rest : List A) → all ≡ y ∷ rest → (y ≡ x → ⊥) → Misses IsFront (x ∷ []) all
front_isnt x y all rest is other = record { never = λ later front. other (sym (front_first x y later rest (subst (IsFront (x ∷ later)) is front))) }

front_none : {A : Type 0} (x : A) (all : List A) → all ≡ [] → Misses IsFront (x ∷ []) all
front_none x all is = record { never = λ later front. no_front x later (subst (IsFront (x ∷ later)) is front) }

passing_is : (commands after : List Command) (c : Command) → filter passes commands ≡ c ∷ filter passes after → passing commands ≡ read (accepted_as c) ∷ passing after
passing_is commands after c is = ap as_read is

pub front_here : (commands after : List Command) (sent : Command) (executed : ReadCommand) (flag : Bool) → filter passes commands ≡ sent ∷ filter passes after → flag ≡ true
    → (flag ≡ true) ↔ (read (accepted_as sent) ≡ executed) → Finds AreFront (executed ∷ []) (passing commands) (passing after)
front_here commands after sent executed flag is flag_is same = front_is executed (read (accepted_as sent)) (passing commands) (passing after) (passing_is commands after sent is) (same.0 flag_is)

pub front_other : (commands after : List Command) (sent : Command) (executed : ReadCommand) (flag : Bool) → filter passes commands ≡ sent ∷ filter passes after → flag ≡ false
    → (flag ≡ true) ↔ (read (accepted_as sent) ≡ executed) → Misses AreFront (executed ∷ []) (passing commands)
front_other commands after sent executed flag is isnt same =
    front_isnt executed (read (accepted_as sent)) (passing commands) (passing after) (passing_is commands after sent is) (λ e. false≢true (sym isnt ∙ same.1 e))

pub front_nothing : (commands : List Command) (executed : ReadCommand) → filter passes commands ≡ [] → Misses AreFront (executed ∷ []) (passing commands)
front_nothing commands executed is = front_none executed (passing commands) (ap as_read is)

-- ---- those that go through

abbrev goes : ReadCommand → Bool
goes c = is_through c.reading

pub through_here : (executed : ReadCommand) (all : List ReadCommand) (out : Option (List ReadCommand)) (flag : Bool) → flag ≡ is_through executed.reading → flag ≡ true
    → Matched AreFront (executed ∷ []) all out → Matched AreFront (filter (λ c. is_through c.reading) (executed ∷ [])) all out
through_here executed all out flag is on matched =
    matched_same AreFront (filter goes (executed ∷ [])) (executed ∷ []) all out (cond-true (goes executed) (executed ∷ []) [] (sym is ∙ on)) matched

pub through_else : (executed : ReadCommand) (all : List ReadCommand) (flag : Bool) → flag ≡ is_through executed.reading → flag ≡ false
    → Finds AreFront (filter (λ c. is_through c.reading) (executed ∷ [])) all all
through_else executed all flag is off = matched_none AreFront (filter goes (executed ∷ [])) all (cond-false (goes executed) (executed ∷ []) [] (sym is ∙ off))

pub through_of : (k : ℕ) (input : Input) (executed : ReadCommand) (all : List ReadCommand) (out : Option (List ReadCommand)) → executed_by k input ≡ executed ∷ []
    → Matched AreFront (filter (λ c. is_through c.reading) (executed ∷ [])) all out → Matched AreFront (through_by k input) all out
through_of k input executed all out is matched = matched_same AreFront (through_by k input) (filter goes (executed ∷ [])) all out (ap (filter goes) is) matched

pub through_none : (k : ℕ) (input : Input) (all : List ReadCommand) → executed_by k input ≡ [] → Finds AreFront (through_by k input) all all
through_none k input all is = matched_none AreFront (through_by k input) all (ap (filter goes) is)

-- ---- input by input

pub first_read : (left after : List Input) (input : Input) → AllByRecursion InputIsRead left → left ≡ input ∷ after → InputIsRead input
first_read left after input all is = (subst (AllByRecursion InputIsRead) is all).0

pub rest_read : (left after : List Input) (input : Input) → AllByRecursion InputIsRead left → left ≡ input ∷ after → AllByRecursion InputIsRead after
rest_read left after input all is = (subst (AllByRecursion InputIsRead) is all).1

-- the inputs that are left against the rest of the commands, as all of both
pub record Against {A : Type 0} (R : List A → List A → Type 0) (xs all left rest : List A) : Type 0 where
  pub same : R xs all ↔ R left rest

against_next : {A : Type 0} (R : List A → List A → Type 0) (xs all left by after rest next : List A) → Against R xs all left rest → left ≡ by ++ after → Finds R by rest next → Against R xs all after next
against_next R xs all left by after rest next a is finds =
    record {
      same = (
        (λ r. (finds.before after).0 (subst (λ l. R l rest) is (a.same.0 r))),
        (λ r. a.same.1 (subst (λ l. R l rest) (sym is) ((finds.before after).1 r))),
      );
    }

against_not : {A : Type 0} (R : List A → List A → Type 0) (xs all left by after rest : List A) → Against R xs all left rest → left ≡ by ++ after → Misses R by rest → (false ≡ true) ↔ R xs all
against_not R xs all left by after rest a is misses = no_flag (λ r. misses.never after (subst (λ l. R l rest) is (a.same.0 r)))

through_cons : (k : ℕ) (left after : List Input) (input : Input) → left ≡ input ∷ after → through_on k left ≡ through_by k input ++ through_on k after
through_cons k left after input is = ap (through_on k) is ∙ filter-append goes (executed_by k input) (executed_on k after)

pub through_first : (k : ℕ) (inputs : List Input) (all : List ReadCommand) → Against AreFront (through_on k inputs) all (through_on k inputs) all
through_first k inputs all = record { same = ((λ r. r), (λ r. r)) }

pub through_next : (k : ℕ) (inputs left after : List Input) (input : Input) (all rest next : List ReadCommand) → Against AreFront (through_on k inputs) all (through_on k left) rest → left ≡ input ∷ after
    → Finds AreFront (through_by k input) rest next → Against AreFront (through_on k inputs) all (through_on k after) next
through_next k inputs left after input all rest next a is finds =
    against_next AreFront (through_on k inputs) all (through_on k left) (through_by k input) (through_on k after) rest next a (through_cons k left after input is) finds

pub through_not : (k : ℕ) (inputs left after : List Input) (input : Input) (all rest : List ReadCommand) → Against AreFront (through_on k inputs) all (through_on k left) rest → left ≡ input ∷ after
    → Misses AreFront (through_by k input) rest → (false ≡ true) ↔ AreFront (through_on k inputs) all
through_not k inputs left after input all rest a is misses =
    against_not AreFront (through_on k inputs) all (through_on k left) (through_by k input) (through_on k after) rest a (through_cons k left after input is) misses

pub through_last : (k : ℕ) (inputs left : List Input) (all rest : List ReadCommand) → Against AreFront (through_on k inputs) all (through_on k left) rest → left ≡ []
    → (true ≡ true) ↔ AreFront (through_on k inputs) all
through_last k inputs left all rest a is = ((λ e. a.same.1 (subst (λ l. AreFront (through_on k l) rest) (sym is) (rest, refl))), (λ r. refl))

-- ---- all that was executed was sent

rest_left : {A : Type 0} (x : A) (xs ys : List A) → IsSubsequenceOf (x ∷ xs) ys → IsSubsequenceOf xs ys
rest_left x [] ys left = tt
rest_left x (z ∷ xs) [] left = absurd left
rest_left x (z ∷ xs) (y ∷ ys) left = inr (⊎_elim (λ both. both.1) (λ more. rest_left x (z ∷ xs) ys more) left)

-- the first place serves as well as any later one
left_here : {A : Type 0} (x y : A) (all rest : List A) → all ≡ y ∷ rest → y ≡ x → (later : List A) → IsSubsequenceOf (x ∷ later) all ↔ IsSubsequenceOf later rest
left_here x y all rest is same later = (
  (λ left. ⊎_elim (λ both. both.1) (λ more. rest_left x later rest more) (subst (IsSubsequenceOf (x ∷ later)) is left)),
  (λ left. subst (IsSubsequenceOf (x ∷ later)) (sym is) (inl (sym same, left))),
)

-- one that is another is passed over
left_over : {A : Type 0} (x y : A) (all rest : List A) → all ≡ y ∷ rest → (y ≡ x → ⊥) → (later : List A) → IsSubsequenceOf (x ∷ later) all ↔ IsSubsequenceOf (x ∷ later) rest
left_over x y all rest is other later =
    ((λ left. passed (subst (IsSubsequenceOf (x ∷ later)) is left)), (λ left. subst (IsSubsequenceOf (x ∷ later)) (sym is) (inr left)))
  where
    passed : ((x ≡ y) × IsSubsequenceOf later rest) ⊎ IsSubsequenceOf (x ∷ later) rest → IsSubsequenceOf (x ∷ later) rest
    passed (inl both) = absurd (other (sym both.0))
    passed (inr more) = more

pub record SoughtSo {A : Type 0} (x : A) (all rest : List A) : Type 0 where
  pub same : (later : List A) → IsSubsequenceOf (x ∷ later) all ↔ IsSubsequenceOf (x ∷ later) rest

pub found_first : (executed : ReadCommand) (all : List ReadCommand) → SoughtSo executed all all
found_first executed all = record { same = λ later. ((λ l. l), (λ l. l)) }

pub found_next : (executed : ReadCommand) (all : List ReadCommand) (commands : List Command) (at at' : ℕ) (sent : Command) (flag : Bool) → SoughtSo executed all (as_read (drop at commands))
    → slice_get commands at ≡ Some sent → at' ≡ at + 1 → flag ≡ false → (flag ≡ true) ↔ (read (accepted_as sent) ≡ executed) → SoughtSo executed all (as_read (drop at' commands))
found_next executed all commands at at' sent flag s is one isnt same =
    let over = left_over executed (read (accepted_as sent)) (as_read (drop at commands)) (as_read (drop at' commands)) (ap as_read (got_there commands at sent is ∙ ap (λ n. sent ∷ drop n commands) (sym one))) (λ e. false≢true (sym isnt ∙ same.1 e)) in
    record { same = λ later. ((λ l. (over later).0 ((s.same later).0 l)), (λ l. (s.same later).1 ((over later).1 l))) }

pub found_here : (executed : ReadCommand) (all : List ReadCommand) (commands : List Command) (at at' : ℕ) (sent : Command) (flag : Bool) → SoughtSo executed all (as_read (drop at commands))
    → slice_get commands at ≡ Some sent → at' ≡ at + 1 → flag ≡ true → (flag ≡ true) ↔ (read (accepted_as sent) ≡ executed) → Finds AreLeft (executed ∷ []) all (as_read (drop at' commands))
found_here executed all commands at at' sent flag s is one flag_is same =
    let here = left_here executed (read (accepted_as sent)) (as_read (drop at commands)) (as_read (drop at' commands)) (ap as_read (got_there commands at sent is ∙ ap (λ n. sent ∷ drop n commands) (sym one))) (same.0 flag_is) in
    record { before = λ later. ((λ l. (here later).0 ((s.same later).0 l)), (λ l. (s.same later).1 ((here later).1 l))) }

pub found_nowhere : (executed : ReadCommand) (all : List ReadCommand) (commands : List Command) (at : ℕ) → SoughtSo executed all (as_read (drop at commands)) → slice_get commands at ≡ None
    → Misses AreLeft (executed ∷ []) all
found_nowhere executed all commands at s is =
    record { never = λ later left. subst (λ r. IsSubsequenceOf (executed ∷ later) (as_read r)) (got_nothing commands at is) ((s.same later).0 left) }

pub sent_of : (k : ℕ) (input : Input) (executed : ReadCommand) (all : List ReadCommand) (out : Option (List ReadCommand)) → executed_by k input ≡ executed ∷ []
    → Matched AreLeft (executed ∷ []) all out → Matched AreLeft (executed_by k input) all out
sent_of k input executed all out is matched = matched_same AreLeft (executed_by k input) (executed ∷ []) all out is matched

pub sent_none : (k : ℕ) (input : Input) (all : List ReadCommand) → executed_by k input ≡ [] → Finds AreLeft (executed_by k input) all all
sent_none k input all is = matched_none AreLeft (executed_by k input) all is

pub sent_first : (k : ℕ) (inputs : List Input) (all : List ReadCommand) → Against AreLeft (executed_on k inputs) all (executed_on k inputs) all
sent_first k inputs all = record { same = ((λ r. r), (λ r. r)) }

pub sent_next : (k : ℕ) (inputs left after : List Input) (input : Input) (all rest next : List ReadCommand) → Against AreLeft (executed_on k inputs) all (executed_on k left) rest → left ≡ input ∷ after
    → Finds AreLeft (executed_by k input) rest next → Against AreLeft (executed_on k inputs) all (executed_on k after) next
sent_next k inputs left after input all rest next a is finds =
    against_next AreLeft (executed_on k inputs) all (executed_on k left) (executed_by k input) (executed_on k after) rest next a (ap (executed_on k) is) finds

pub sent_not : (k : ℕ) (inputs left after : List Input) (input : Input) (all rest : List ReadCommand) → Against AreLeft (executed_on k inputs) all (executed_on k left) rest → left ≡ input ∷ after
    → Misses AreLeft (executed_by k input) rest → (false ≡ true) ↔ AreLeft (executed_on k inputs) all
sent_not k inputs left after input all rest a is misses =
    against_not AreLeft (executed_on k inputs) all (executed_on k left) (executed_by k input) (executed_on k after) rest a (ap (executed_on k) is) misses

pub sent_last : (k : ℕ) (inputs left : List Input) (all rest : List ReadCommand) → Against AreLeft (executed_on k inputs) all (executed_on k left) rest → left ≡ []
    → (true ≡ true) ↔ AreLeft (executed_on k inputs) all
sent_last k inputs left all rest a is = ((λ e. a.same.1 (subst (λ l. AreLeft (executed_on k l) rest) (sym is) tt)), (λ r. refl))

-- ---- the answers, line by line

pub answer_there : (number : ℕ) (flag : Bool) → flag ≡ true → cond flag (number ∷ []) [] ≡ number ∷ []
answer_there number flag is = cond-true flag (number ∷ []) [] is

pub answer_none : (number : ℕ) (flag : Bool) → flag ≡ false → cond flag (number ∷ []) [] ≡ []
answer_none number flag is = cond-false flag (number ∷ []) [] is

numbers_are : (commands after : List Command) (c : Command) → filter passes commands ≡ c ∷ filter passes after → passing_numbers commands ≡ c.number ∷ passing_numbers after
numbers_are commands after c is = ap (λ l. numbers (as_accepted l)) is

pub number_here : (commands after : List Command) (sent : Command) (number : ℕ) → filter passes commands ≡ sent ∷ filter passes after → sent.number ≡ number
    → Finds NumbersAreFront (number ∷ []) (passing_numbers commands) (passing_numbers after)
number_here commands after sent number is same = front_is number sent.number (passing_numbers commands) (passing_numbers after) (numbers_are commands after sent is) same

pub number_other : (commands after : List Command) (sent : Command) (number : ℕ) → filter passes commands ≡ sent ∷ filter passes after → (sent.number ≡ number → ⊥)
    → Misses NumbersAreFront (number ∷ []) (passing_numbers commands)
number_other commands after sent number is other = front_isnt number sent.number (passing_numbers commands) (passing_numbers after) (numbers_are commands after sent is) other

pub number_nothing : (commands : List Command) (number : ℕ) → filter passes commands ≡ [] → Misses NumbersAreFront (number ∷ []) (passing_numbers commands)
number_nothing commands number is = front_none number (passing_numbers commands) (ap (λ l. numbers (as_accepted l)) is)

pub answer_of_one : (commands : List Accepted) (line : LogLine) (number : ℕ) (all : List ℕ) (out : Option (List ℕ)) → answer_of commands line ≡ number ∷ []
    → Matched NumbersAreFront (number ∷ []) all out → Matched NumbersAreFront (answer_of commands line) all out
answer_of_one commands line number all out is matched = matched_same NumbersAreFront (answer_of commands line) (number ∷ []) all out is matched

pub answer_of_none : (commands : List Accepted) (line : LogLine) (all : List ℕ) → answer_of commands line ≡ [] → Finds NumbersAreFront (answer_of commands line) all all
answer_of_none commands line all is = matched_none NumbersAreFront (answer_of commands line) all is

abbrev answered_in : List Accepted → List LogLine → List ℕ
answered_in commands lines = flat_map (answer_of commands) lines

pub answered_first : (commands : List Accepted) (lines : List LogLine) (all : List ℕ)
    → Against NumbersAreFront (flat_map (answer_of commands) lines) all (flat_map (answer_of commands) lines) all
answered_first commands lines all = record { same = ((λ r. r), (λ r. r)) }

pub answered_next : (commands : List Accepted) (lines left after : List LogLine) (line : LogLine) (all rest next : List ℕ)
    → Against NumbersAreFront (flat_map (answer_of commands) lines) all (flat_map (answer_of commands) left) rest → left ≡ line ∷ after
    → Finds NumbersAreFront (answer_of commands line) rest next → Against NumbersAreFront (flat_map (answer_of commands) lines) all (flat_map (answer_of commands) after) next
answered_next commands lines left after line all rest next a is finds =
    against_next NumbersAreFront (answered_in commands lines) all (answered_in commands left) (answer_of commands line) (answered_in commands after) rest next a (ap (answered_in commands) is) finds

pub answered_not : (commands : List Accepted) (lines left after : List LogLine) (line : LogLine) (all rest : List ℕ)
    → Against NumbersAreFront (flat_map (answer_of commands) lines) all (flat_map (answer_of commands) left) rest → left ≡ line ∷ after
    → Misses NumbersAreFront (answer_of commands line) rest → (false ≡ true) ↔ NumbersAreFront (flat_map (answer_of commands) lines) all
answered_not commands lines left after line all rest a is misses =
    against_not NumbersAreFront (answered_in commands lines) all (answered_in commands left) (answer_of commands line) (answered_in commands after) rest a (ap (answered_in commands) is) misses

pub answered_last : (commands : List Accepted) (lines left : List LogLine) (all rest : List ℕ)
    → Against NumbersAreFront (flat_map (answer_of commands) lines) all (flat_map (answer_of commands) left) rest → left ≡ [] → (true ≡ true) ↔ NumbersAreFront (flat_map (answer_of commands) lines) all
answered_last commands lines left all rest a is = ((λ e. a.same.1 (subst (λ l. NumbersAreFront (answered_in commands l) rest) (sym is) (rest, refl))), (λ r. refl))

-- ---- a whole log

-- what the three tests say of a log and its commands
record IsTested (inputs : List Input) (lines : List LogLine) (commands : List Command) (k : ℕ) : Type 0 where
  pub executed : AreFront (through_on k inputs) (passing commands)
  pub answers : NumbersAreFront (flat_map (answer_of (as_accepted commands)) (from_hello lines)) (passing_numbers commands)
  pub accepted : AreLeft (executed_on k inputs) (as_read commands)

tested : (inputs : List Input) (lines : List LogLine) (commands : List Command) (k : ℕ) → AreOfLog lines commands → IsTested inputs lines commands k ↔ ExecutesItsCommands inputs lines k
tested inputs lines commands k of =
    let all = passing_of lines commands of in (
      (λ (t : IsTested inputs lines commands k). record {
        executed = subst (λ cs. AreFront (through_on k inputs) (map read cs)) all t.executed;
        answers = subst (λ cs. NumbersAreFront (flat_map (answer_of cs) (from_hello lines)) (numbers (through lines))) of.accepted_are (subst (λ cs. NumbersAreFront (flat_map (answer_of (as_accepted commands)) (from_hello lines)) (numbers cs)) all t.answers);
        accepted = subst (λ cs. AreLeft (executed_on k inputs) (map read cs)) of.accepted_are t.accepted;
      }),
      (λ (e : ExecutesItsCommands inputs lines k). record {
        executed = subst (λ cs. AreFront (through_on k inputs) (map read cs)) (sym all) e.executed;
        answers = subst (λ cs. NumbersAreFront (flat_map (answer_of (as_accepted commands)) (from_hello lines)) (numbers cs)) (sym all) (subst (λ cs. NumbersAreFront (flat_map (answer_of cs) (from_hello lines)) (numbers (through lines))) (sym of.accepted_are) e.answers);
        accepted = subst (λ cs. AreLeft (executed_on k inputs) (map read cs)) (sym of.accepted_are) e.accepted;
      }),
    )

flag_off : {A : Type 0} (flag : Bool) → flag ≡ false → (flag ≡ true) ↔ A → A → ⊥
flag_off flag off is a = false≢true (sym off ∙ is.1 a)

answers_at : (lines from : List LogLine) (commands : List Command) (flag : Bool) → from ≡ from_hello lines
    → (flag ≡ true) ↔ NumbersAreFront (flat_map (answer_of (as_accepted commands)) from) (passing_numbers commands)
    → (flag ≡ true) ↔ NumbersAreFront (flat_map (answer_of (as_accepted commands)) (from_hello lines)) (passing_numbers commands)
answers_at lines from commands flag is tells = subst (λ f. (flag ≡ true) ↔ NumbersAreFront (flat_map (answer_of (as_accepted commands)) f) (passing_numbers commands)) is tells

pub not_answered : (inputs : List Input) (lines from : List LogLine) (commands : List Command) (k : ℕ) (flag : Bool) → IsChannelOf lines inputs k → AreOfLog lines commands → from ≡ from_hello lines
    → flag ≡ false → (flag ≡ true) ↔ NumbersAreFront (flat_map (answer_of (as_accepted commands)) from) (passing_numbers commands)
    → (false ≡ true) ↔ OnItsChannel lines inputs (ExecutesItsCommands inputs lines)
not_answered inputs lines from commands k flag on of is off tells =
    no_flag (λ all. flag_off flag off (answers_at lines from commands flag is tells) ((tested inputs lines commands k of).1 (all k on)).answers)

pub not_through : (inputs : List Input) (lines : List LogLine) (commands : List Command) (k : ℕ) (flag : Bool) → IsChannelOf lines inputs k → AreOfLog lines commands
    → flag ≡ false → (flag ≡ true) ↔ AreFront (through_on k inputs) (passing commands) → (false ≡ true) ↔ OnItsChannel lines inputs (ExecutesItsCommands inputs lines)
not_through inputs lines commands k flag on of off tells =
    no_flag (λ all. flag_off flag off tells ((tested inputs lines commands k of).1 (all k on)).executed)

pub executes : (inputs : List Input) (lines from : List LogLine) (commands : List Command) (k : ℕ) (answered through flag : Bool) → IsChannelOf lines inputs k → AreOfLog lines commands → from ≡ from_hello lines
    → answered ≡ true → (answered ≡ true) ↔ NumbersAreFront (flat_map (answer_of (as_accepted commands)) from) (passing_numbers commands)
    → through ≡ true → (through ≡ true) ↔ AreFront (through_on k inputs) (passing commands)
    → (flag ≡ true) ↔ AreLeft (executed_on k inputs) (as_read commands) → (flag ≡ true) ↔ OnItsChannel lines inputs (ExecutesItsCommands inputs lines)
executes inputs lines from commands k answered through flag on of is answered_is answers through_is goes_through left =
    let t = tested inputs lines commands k of in
    on_one inputs lines k (ExecutesItsCommands inputs lines) flag on (
      (λ e. t.0 (record { executed = goes_through.0 through_is; answers = (answers_at lines from commands answered is answers).0 answered_is; accepted = left.0 e })),
      (λ x. left.1 (t.1 x).accepted),
    )

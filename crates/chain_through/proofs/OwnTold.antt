-- What value-adds say themselves to one who sent some commands: it is told rightly, without a position, and teaches nothing.
use Rattle.std.proofs.Common.{◌≡◌, ℕ, suc, ◌+◌, ◌^◌, ◌<◌, ◌≤◌, Bool, true, false, ◌||◌, ⊎_elim, List, [], ◌∷◌, ◌++◌, length, Option, Some, None, refl, sym, ap, ◌∙◌, subst, arith, append_assoc, length-append}
use Rattle.std.specs.Prelude.{bytes_eq, decimal, option_and_then}
use Rattle.std.specs.List.{AllByRecursion, Contains}
use Rattle.std.proofs.lemmas.Bool.{or_left, or_right}
use Rattle.std.proofs.lemmas.Slice.Eq.{bytes_eq-Decides}
use Rattle.channel_core.specs.Arrivals.{Spoken}
use Rattle.channel_core.specs.Wire.{Said, answers, asks, goes_on, greets, said_by, tells}
use Rattle.knowledge.specs.Facts.{Facts, IsPart, Knows, nothing}
use Rattle.knowledge.specs.Learning.{learn, learn_all, learned}
use Rattle.target_contexts.specs.declared.process.Image.{Image}
use Rattle.target_hub.specs.declared.input.Input.{Input}
use Rattle.tcf_message.specs.Message.{MessageValue, command, event, final, flow, not_known, progress}
use Rattle.value_node.specs.Asked.{Asked}
use Rattle.value_node.specs.Deeds.{command_asked, mark_after}
use Rattle.value_node.specs.OwnMessages.{IsOwn, OwnStep, a_hello, a_result, an_unknown}
use Rattle.value_node.specs.Store.{lesson_of}
use Rattle.chain_told.specs.Told.{AreToldRightly, AreTrueAt, ComesAt, IsAnswered, IsOwed, command_under, ends, is_ended, lesson, lessons, mark_from, mark_of, numbered, owed_in, owed_at}
use Rattle.chain_told.proofs.Agreeing.{learn_append}
use Rattle.chain_told.proofs.Decimals.{decimal_one}
use Rattle.chain_through.proofs.Found.{found_at}
use Rattle.chain_told.proofs.Numbered.{numbered_first, under}
use Rattle.chain_through.proofs.OwnLessons.{hello_teaches, own_teaches}
use Rattle.list_laws.proofs.Contained.{contains_cases}

-- ---- Parts

pub own_parts : (commands : List Asked) (first rest : List Spoken) (left : List Asked) → IsOwn commands (first ++ rest) left → (middle : List Asked) × IsOwn commands first middle × IsOwn middle rest left
own_parts commands [] rest left is = (commands, refl, is)
own_parts commands (s ∷ first) rest left is =
    let p = own_parts is.1.0 first rest left is.1.2 in (p.0, (is.0, (is.1.0, is.1.1, p.1)), p.2)

-- ---- The commands that are answered are the first ones

-- the token of an answer is that of a command before this number
abbrev pub AnswersBelow : ℕ → MessageValue → Type 0
AnswersBelow number (final token body) = (k : ℕ) × (token ≡ decimal k) × (k < number)
AnswersBelow number (not_known token) = (k : ℕ) × (token ≡ decimal k) × (k < number)
AnswersBelow number _ = Unit {0}

pub record IsDone (n : ℕ) (commands left : List Asked) (own : List Spoken) : Type 0 where
  pub done : List Asked
  pub behind : List Asked
  pub are : commands ≡ done ++ behind
  pub left_are : left ≡ numbered (n + length done) behind
  pub below : AllByRecursion (λ s. AnswersBelow (n + length done) s.message) own

step_done : (n : ℕ) (commands left next : List Asked) (m : MessageValue) (mark : Option ℕ) (own : List Spoken) → OwnStep (numbered n commands) m next
    → ((k : ℕ) (rest : List Asked) → next ≡ numbered k rest → IsDone k rest left own) → IsDone n commands left (record { message = m; mark = mark } ∷ own)
step_done n commands left next m mark own (a_hello body is same) rest =
    let r = rest n commands same in
    record { done = r.done; behind = r.behind; are = r.are; left_are = r.left_are; below = (subst (AnswersBelow (n + length r.done)) (sym is) tt, r.below) }
step_done n commands left next m mark own (a_result c body is at split) rest =
    let f = numbered_first n commands c next split in
    let r = rest (n + 1) f.rest f.others in
    let moved : (n + 1) + length r.done ≡ n + suc (length r.done) = omega arith in
    let under_it : n < n + suc (length r.done) = omega arith in
    record {
      done = f.first ∷ r.done;
      behind = r.behind;
      are = f.are ∙ ap (λ cs. f.first ∷ cs) r.are;
      left_are = r.left_are ∙ ap (λ k. numbered k r.behind) moved;
      below = (subst (AnswersBelow (n + suc (length r.done))) (sym is) (n, ap (λ x. x.token) f.is, under_it), subst (λ k. AllByRecursion (λ s. AnswersBelow k s.message) own) moved r.below);
    }
step_done n commands left next m mark own (an_unknown c is split) rest =
    let f = numbered_first n commands c next split in
    let r = rest (n + 1) f.rest f.others in
    let moved : (n + 1) + length r.done ≡ n + suc (length r.done) = omega arith in
    let under_it : n < n + suc (length r.done) = omega arith in
    record {
      done = f.first ∷ r.done;
      behind = r.behind;
      are = f.are ∙ ap (λ cs. f.first ∷ cs) r.are;
      left_are = r.left_are ∙ ap (λ k. numbered k r.behind) moved;
      below = (subst (AnswersBelow (n + suc (length r.done))) (sym is) (n, ap (λ x. x.token) f.is, under_it), subst (λ k. AllByRecursion (λ s. AnswersBelow k s.message) own) moved r.below);
    }

pub own_done : (n : ℕ) (commands left : List Asked) (own : List Spoken) → IsOwn (numbered n commands) own left → IsDone n commands left own
own_done n commands left [] is =
    let none : n ≡ n + 0 = omega arith in
    record { done = []; behind = commands; are = refl; left_are = sym is ∙ ap (λ k. numbered k commands) none; below = tt }
own_done n commands left (s ∷ own) is =
    step_done n commands left is.1.0 s.message s.mark own is.1.1 (λ k rest same. own_done k rest left own (subst (λ cs. IsOwn cs own left) same is.1.2))

-- ---- No other command is answered

other_token : (number : ℕ) (token : List ℕ) → number < 10 ^ 64 → (k : ℕ) × (token ≡ decimal k) × (k < number) → bytes_eq token (decimal number) ≡ false
other_token number token small below = by_flag (bytes_eq token (decimal number)) refl
  where
    by_flag : (flag : Bool) → bytes_eq token (decimal number) ≡ flag → flag ≡ false
    by_flag true is =
        let less : below.0 < number = below.2 in
        let same : below.0 ≡ number = decimal_one below.0 number (omega arith) small (sym below.1 ∙ (bytes_eq-Decides token (decimal number)).0 is) in
        absurd (omega arith)
    by_flag false is = refl

unended_by : (number : ℕ) (m : MessageValue) → number < 10 ^ 64 → AnswersBelow number m → ends (decimal number) m ≡ false
unended_by number (command token service name body) small below = refl
unended_by number (final token body) small below = other_token number token small below
unended_by number (progress token body) small below = refl
unended_by number (not_known token) small below = other_token number token small below
unended_by number (event service name body) small below = refl
unended_by number (flow level) small below = refl

raised : (low number : ℕ) (m : MessageValue) → low ≤ number → AnswersBelow low m → AnswersBelow number m
raised low number (command token service name body) more below = tt
raised low number (final token body) more below = let less : below.0 < low = below.2 in (below.0, below.1, omega arith)
raised low number (progress token body) more below = tt
raised low number (not_known token) more below = let less : below.0 < low = below.2 in (below.0, below.1, omega arith)
raised low number (event service name body) more below = tt
raised low number (flow level) more below = tt

pub unended : (low number : ℕ) (own : List Spoken) → low ≤ number → number < 10 ^ 64 → AllByRecursion (λ s. AnswersBelow low s.message) own → is_ended (decimal number) own ≡ false
unended low number [] more small below = refl
unended low number (s ∷ own) more small below =
    ap (λ b. b || is_ended (decimal number) own) (unended_by number s.message small (raised low number s.message more below.0)) ∙ unended low number own more small below.1

-- where none is left each one is answered
same_ends : (c d : Asked) (body : List ℕ) (m : MessageValue) → m ≡ final c.token body → c ≡ d → ends d.token m ≡ true
same_ends c d body m is same = ap (ends d.token) is ∙ (bytes_eq-Decides c.token d.token).1 (ap (λ x. x.token) same)

same_unknown : (c d : Asked) (m : MessageValue) → m ≡ not_known c.token → c ≡ d → ends d.token m ≡ true
same_unknown c d m is same = ap (ends d.token) is ∙ (bytes_eq-Decides c.token d.token).1 (ap (λ x. x.token) same)

step_ended : (commands next : List Asked) (m : MessageValue) (own : List Spoken) (d : Asked) → OwnStep commands m next → Contains commands d → (Contains next d → is_ended d.token own ≡ true)
    → (ends d.token m || is_ended d.token own) ≡ true
step_ended commands next m own d (a_hello body is same) among rest = or_right (ends d.token m) (is_ended d.token own) (rest (subst (λ cs. Contains cs d) (sym same) among))
step_ended commands next m own d (a_result c body is at split) among rest = ⊎_elim
    (λ here. or_left (ends d.token m) (is_ended d.token own) (same_ends c d body m is here))
    (λ there. or_right (ends d.token m) (is_ended d.token own) (rest there))
    (contains_cases c next d (subst (λ cs. Contains cs d) split among))
step_ended commands next m own d (an_unknown c is split) among rest = ⊎_elim
    (λ here. or_left (ends d.token m) (is_ended d.token own) (same_unknown c d m is here))
    (λ there. or_right (ends d.token m) (is_ended d.token own) (rest there))
    (contains_cases c next d (subst (λ cs. Contains cs d) split among))

pub own_ended : (commands : List Asked) (own : List Spoken) (d : Asked) → IsOwn commands own [] → Contains commands d → is_ended d.token own ≡ true
own_ended commands [] d is among = let none : Contains [] d = subst (λ cs. Contains cs d) is among in let within : none.0 < 0 = none.1 in absurd (omega arith)
own_ended commands (s ∷ own) d is among = step_ended commands is.1.0 s.message own d is.1.1 among (λ there. own_ended is.1.0 own d is.1.2 there)

-- ---- It has no position

abbrev pub IsUnmarked : Spoken → Type 0
IsUnmarked s = s.mark ≡ None

pub own_unmarked : (commands left : List Asked) (own : List Spoken) → IsOwn commands own left → AllByRecursion IsUnmarked own
own_unmarked commands left [] is = tt
own_unmarked commands left (s ∷ own) is = (is.0, own_unmarked is.1.0 left own is.1.2)

none_after : (said : Said) → mark_after said None None ≡ None
none_after greets = refl
none_after tells = refl
none_after asks = refl
none_after (goes_on token) = refl
none_after (answers token done) = refl

pub none_from : (own : List Spoken) → AllByRecursion IsUnmarked own → mark_from None own ≡ None
none_from [] unmarked = refl
none_from (s ∷ own) unmarked =
    ap (λ mark. mark_from (mark_after (said_by s.message) mark None) own) unmarked.0 ∙ ap (λ mark. mark_from mark own) (none_after (said_by s.message)) ∙ none_from own unmarked.1

none_placed : (said : Said) → ComesAt said None None
none_placed greets = refl
none_placed tells = refl
none_placed asks = refl
none_placed (goes_on token) = refl
none_placed (answers token done) = refl

none_answered : (images : List Image) (history : List Input) (commands : List Asked) (before : List Spoken) (m : MessageValue) → IsAnswered images history commands before m None
none_answered images history commands before (command token service name body) = tt
none_answered images history commands before (final token body) = tt
none_answered images history commands before (progress token body) = tt
none_answered images history commands before (not_known token) = tt
none_answered images history commands before (event service name body) = tt
none_answered images history commands before (flow level) = tt

pub owes_none : (commands : List Asked) (own : List Spoken) → AllByRecursion IsUnmarked own → owed_in commands own ≡ []
owes_none commands [] unmarked = refl
owes_none commands (s ∷ own) unmarked = ap (λ mark. owed_at commands s.message mark ++ owed_in commands own) unmarked.0 ∙ owes_none commands own unmarked.1

-- ---- It teaches nothing, and answers its own commands

module _ (whole : List Asked) (few : length whole < 10 ^ 64) where
  abbrev sent : List Asked
  sent = numbered 1 whole

  -- the command in a place
  found_here : (done rest : List Asked) (first c : Asked) → whole ≡ done ++ first ∷ rest → c ≡ under (1 + length done) first → command_under c.token sent ≡ Some c
  found_here done rest first c are is =
      let long : length whole ≡ length done + suc (length rest) = ap length are ∙ length-append done (first ∷ rest) in
      let small : 1 + length done < 10 ^ 64 = omega arith in
      ap (λ x. command_under x.token sent) is ∙ ap (λ cs. command_under (decimal (1 + length done)) (numbered 1 cs)) are ∙ found_at 1 done rest first small ∙ ap (λ x. Some x) (sym is)

  small_number : (done rest : List Asked) (first : Asked) → whole ≡ done ++ first ∷ rest → 1 + length done < 10 ^ 64
  small_number done rest first are = let long : length whole ≡ length done + suc (length rest) = ap length are ∙ length-append done (first ∷ rest) in omega arith

  step_teaches : (done commands next : List Asked) (m : MessageValue) → whole ≡ done ++ commands → OwnStep (numbered (1 + length done) commands) m next → learn_all (lesson sent m) nothing ≡ nothing
  step_teaches done commands next m are (a_hello body is same) = ap (λ x. learn_all (lesson sent x) nothing) is ∙ hello_teaches body
  step_teaches done commands next m are (a_result c body is at split) =
      let f = numbered_first (1 + length done) commands c next split in
      let found = found_here done f.rest f.first c (are ∙ ap (λ cs. done ++ cs) f.are) f.is in
      ap (λ x. learn_all (lesson sent x) nothing) is ∙ ap (λ found_one. learn (lesson_of (option_and_then command_asked found_one) body) nothing) found ∙ own_teaches c body at
  step_teaches done commands next m are (an_unknown c is split) = ap (λ x. learn_all (lesson sent x) nothing) is

  -- the commands that were answered behind one more message
  step_further : (done commands next : List Asked) (m : MessageValue) → whole ≡ done ++ commands → OwnStep (numbered (1 + length done) commands) m next
      → (further : List Asked) × (rest : List Asked) × (whole ≡ further ++ rest) × (next ≡ numbered (1 + length further) rest)
  step_further done commands next m are (a_hello body is same) = (done, commands, are, same)
  step_further done commands next m are (a_result c body is at split) =
      let f = numbered_first (1 + length done) commands c next split in
      let long : length (done ++ f.first ∷ []) ≡ length done + 1 = length-append done (f.first ∷ []) in
      let moved : (1 + length done) + 1 ≡ 1 + length (done ++ f.first ∷ []) = omega arith in
      (done ++ f.first ∷ [], f.rest, are ∙ ap (λ cs. done ++ cs) f.are ∙ sym (append_assoc done (f.first ∷ []) f.rest), f.others ∙ ap (λ n. numbered n f.rest) moved)
  step_further done commands next m are (an_unknown c is split) =
      let f = numbered_first (1 + length done) commands c next split in
      let long : length (done ++ f.first ∷ []) ≡ length done + 1 = length-append done (f.first ∷ []) in
      let moved : (1 + length done) + 1 ≡ 1 + length (done ++ f.first ∷ []) = omega arith in
      (done ++ f.first ∷ [], f.rest, are ∙ ap (λ cs. done ++ cs) f.are ∙ sym (append_assoc done (f.first ∷ []) f.rest), f.others ∙ ap (λ n. numbered n f.rest) moved)

  teaches_from : (done commands left : List Asked) (own : List Spoken) → whole ≡ done ++ commands → IsOwn (numbered (1 + length done) commands) own left → learn_all (lessons sent own) nothing ≡ nothing
  teaches_from done commands left [] are is = refl
  teaches_from done commands left (s ∷ own) are is =
      let next = step_further done commands is.1.0 s.message are is.1.1 in
      learn_append (lesson sent s.message) (lessons sent own) nothing ∙ ap (learn_all (lessons sent own)) (step_teaches done commands is.1.0 s.message are is.1.1)
      ∙ teaches_from next.0 next.1 left own next.2 (subst (λ cs. IsOwn cs own left) next.3 is.1.2)

  pub own_learned : (left : List Asked) (own : List Spoken) → IsOwn sent own left → IsPart (learned (lessons sent own)) nothing
  own_learned left own is = let same = teaches_from [] whole left own refl is in λ fact known. subst (λ (facts : Facts). Knows facts fact) same known

  step_owed : (done commands next : List Asked) (before : List Spoken) (m : MessageValue) → whole ≡ done ++ commands → AllByRecursion (λ s. AnswersBelow (1 + length done) s.message) before
      → OwnStep (numbered (1 + length done) commands) m next → IsOwed sent before m
  step_owed done commands next before m are below (a_hello body is same) = subst (IsOwed sent before) (sym is) tt
  step_owed done commands next before m are below (a_result c body is at split) =
      let f = numbered_first (1 + length done) commands c next split in
      let place : whole ≡ done ++ f.first ∷ f.rest = are ∙ ap (λ cs. done ++ cs) f.are in
      let open_still : is_ended c.token before ≡ false =
      ap (λ x. is_ended x.token before) f.is ∙ unended (1 + length done) (1 + length done) before (omega arith) (small_number done f.rest f.first place) below in
      subst (IsOwed sent before) (sym is) (record { command = c; sent = found_here done f.rest f.first c place f.is; unanswered = open_still })
  step_owed done commands next before m are below (an_unknown c is split) =
      let f = numbered_first (1 + length done) commands c next split in
      let place : whole ≡ done ++ f.first ∷ f.rest = are ∙ ap (λ cs. done ++ cs) f.are in
      let open_still : is_ended c.token before ≡ false =
      ap (λ x. is_ended x.token before) f.is ∙ unended (1 + length done) (1 + length done) before (omega arith) (small_number done f.rest f.first place) below in
      subst (IsOwed sent before) (sym is) (record { command = c; sent = found_here done f.rest f.first c place f.is; unanswered = open_still })

  -- ---- It is told rightly

  pub own_told : (images : List Image) (history : List Input) (left : List Asked) (own : List Spoken) → IsOwn sent own left → AreToldRightly images history sent own
  own_told images history left own is before rest s split =
      let p = own_parts sent before (s ∷ rest) left (subst (λ xs. IsOwn sent xs left) split is) in
      let d = own_done 1 whole p.0 before p.1 in
      let step : OwnStep (numbered (1 + length d.done) d.behind) s.message p.2.1.0 = subst (λ cs. OwnStep cs s.message p.2.1.0) d.left_are p.2.1.1 in
      let none : s.mark ≡ None = p.2.0 in
      let before_none : mark_of before ≡ None = none_from before (own_unmarked sent p.0 before p.1) in
      let q = own_parts sent (before ++ s ∷ []) rest left (subst (λ xs. IsOwn sent xs left) (split ∙ sym (append_assoc before (s ∷ []) rest)) is) in
      let first_none : mark_of (before ++ s ∷ []) ≡ None = none_from (before ++ s ∷ []) (own_unmarked sent q.0 (before ++ s ∷ []) q.1) in
      record {
        owed = step_owed d.done d.behind p.2.1.0 before s.message d.are d.below step;
        placed = subst (λ mark. ComesAt (said_by s.message) mark s.mark) (sym before_none) (subst (ComesAt (said_by s.message) None) (sym none) (none_placed (said_by s.message)));
        true = subst (λ mark. AreTrueAt images history mark (learned (lessons sent (before ++ s ∷ [])))) (sym first_none) (own_learned q.0 (before ++ s ∷ []) q.1);
        answered = subst (IsAnswered images history sent before s.message) (sym none) (none_answered images history sent before s.message);
      }

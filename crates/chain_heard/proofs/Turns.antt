-- The answers with positions go to the commands that go through, each in its turn.
use Rattle.std.proofs.Common.{◌≡◌, ℕ, ◌+◌, ◌<◌, ◌≤◌, ◌^◌, suc, Bool, true, false, ◌||◌, cond, true≢false, List, [], ◌∷◌, ◌++◌, length, map, filter, Some, refl, ap, ap₂, sym, ◌∙◌, subst, subst₂, arith}
use Rattle.std.specs.Prelude.{bytes_eq, decimal}
use Rattle.std.specs.List.{AllByRecursion, Contains, flat_map, range_with_len}
use Rattle.std.proofs.lemmas.List.{append_assoc, append-nil, map-append}
use Rattle.std.proofs.lemmas.List.Concat.{flat_map-append}
use Rattle.std.proofs.lemmas.List.Elements.{filter-append}
use Rattle.std.proofs.lemmas.List.Folds.{list_any-append}
use Rattle.channel_core.specs.Arrivals.{Spoken}
use Rattle.target_contexts.specs.declared.process.Image.{Image}
use Rattle.target_hub.specs.Received.{answer_of, goes_through, is_through_number}
use Rattle.target_hub.specs.declared.input.Input.{Input}
use Rattle.tcf_message.specs.Message.{final, not_known}
use Rattle.tcf_text.specs.Lines.{Accepted}
use Rattle.tcf_text.specs.Once.{numbers}
use Rattle.tcf_text.specs.declared.log.LogLine.{LogLine}
use Rattle.tcf_text.specs.declared.log.LogLine.TheVariants as lines
use Rattle.value_node.specs.Asked.{Asked}
use Rattle.chain_heard.specs.Heard.{asked_as}
use Rattle.chain_told.specs.Told as told
use Rattle.chain_told.specs.Told.{AreEndedBefore, AreToldRightly, ComesInTurn, IsAnswered, IsOpen, IsOwed, IsToldRightly, command_under, ends, is_ended}
use Rattle.chain_heard.proofs.Known.{Counted, IsKnown, Place, counted_few, known_at, known_number, number_is, through_same, under}
use Rattle.chain_heard.proofs.Lines.{AreFew, AreLinesOf, IsLineOf, IsOfFew, says_event, says_final, says_hello, says_progress, says_unknown}
use Rattle.list_laws.proofs.Splits.{filter_nothing}
use Rattle.chain_heard.proofs.Marks.{Rising}
use Rattle.chain_heard.proofs.Numbers.{InParts, in_parts, numbers_from}
use Rattle.chain_heard.proofs.Elements.{all_cuts, InOne, in_first, in_second, in_one_of}
use Rattle.list_laws.proofs.Numbers.{other_decimals as apart}
use Rattle.list_laws.proofs.Lists.{equal_itself as same_token}
use Rattle.list_laws.proofs.AllLists.{all_append, all_right as all_back, all_left as all_front, all_weaker, all_at, all_both as all_two}
use Rattle.list_laws.proofs.Flags.{or_false as or_none, or_true}
use Rattle.list_laws.proofs.Contained.{contains_at}

-- ---- commands before and behind one

pub later_numbers : (all done left : List Accepted) (c : Accepted) → Counted all → all ≡ done ++ c ∷ left → AllByRecursion (λ d. c.number + 1 ≤ d.number) left
later_numbers all done left c counted split =
    let parts : InParts done (c ∷ left) 1 = in_parts done (c ∷ left) 1 (subst (λ cs. numbers cs ≡ range_with_len 1 (length cs)) split counted.counted) in
    let second : c.number ∷ numbers left ≡ range_with_len (1 + length done) (suc (length left)) = parts.second in
    let head : c.number ≡ 1 + length done = cc in
    let tail : numbers left ≡ range_with_len ((1 + length done) + 1) (length left) = cc in
    all_weaker (λ d. (1 + length done) + 1 ≤ d.number) (λ d. c.number + 1 ≤ d.number) left (λ d above. omega arith) (numbers_from left ((1 + length done) + 1) (length left) tail)

abbrev pub IsEndedIf : (Asked → Bool) → List Spoken → Accepted → Type 0
IsEndedIf kind before c = kind (asked_as c) ≡ true → is_ended (decimal c.number) before ≡ true

-- the commands of a kind before one have their answers
pub ended_before : (kind : Asked → Bool) (all done left : List Accepted) (c : Accepted) (before : List Spoken) (token : List ℕ) → all ≡ done ++ c ∷ left → decimal c.number ≡ token
    → AreEndedBefore kind (map asked_as all) before token → AllByRecursion (IsEndedIf kind before) done
ended_before kind all done left c before token split named ended =
    let parts : map asked_as all ≡ map asked_as done ++ asked_as c ∷ map asked_as left = ap (map asked_as) split ∙ map-append asked_as done (c ∷ left) in
    all_cuts (IsEndedIf kind before) done
    (λ front back d cut is.
    ended (map asked_as done) (map asked_as left) (asked_as c) (asked_as d) parts named
    (subst (λ l. Contains l (asked_as d)) (sym (ap (map asked_as) cut ∙ map-append asked_as front (d ∷ back))) (contains_at (map asked_as front) (map asked_as back) (asked_as d))) is)

-- ---- what is answered so far

abbrev pub IsThroughEnded : List Spoken → Accepted → Type 0
IsThroughEnded before c = goes_through c ≡ true → is_ended (decimal c.number) before ≡ true

abbrev pub IsThroughOpen : List Spoken → Accepted → Type 0
IsThroughOpen before c = goes_through c ≡ true → is_ended (decimal c.number) before ≡ false

-- of the later commands that go through the first ones have their answer, in order, and the others have none
pub record Turn (answered later : List Accepted) (before : List Spoken) (xs : List LogLine) : Type 0 where
  pub done : List Accepted
  pub rest : List Accepted
  pub split : later ≡ done ++ rest
  pub ended : AllByRecursion (IsThroughEnded before) (answered ++ done)
  pub open_yet : AllByRecursion (IsThroughOpen before) rest
  pub answers : flat_map (answer_of (answered ++ later)) xs ≡ numbers (filter goes_through done)

pub ended_push : (token : List ℕ) (before : List Spoken) (s : Spoken) → is_ended token (before ++ s ∷ []) ≡ (is_ended token before || ends token s.message)
ended_push token before s =
    list_any-append (λ (t : Spoken). ends token t.message) before (s ∷ []) ∙ ap (λ b. is_ended token before || b) (or_none (ends token s.message))

still_ended : (token : List ℕ) (before : List Spoken) (s : Spoken) → is_ended token before ≡ true → is_ended token (before ++ s ∷ []) ≡ true
still_ended token before s ended = ended_push token before s ∙ ap (λ b. b || ends token s.message) ended

still_open : (token : List ℕ) (before : List Spoken) (s : Spoken) → is_ended token before ≡ false → ends token s.message ≡ false → is_ended token (before ++ s ∷ []) ≡ false
still_open token before s none other = ended_push token before s ∙ ap₂ (λ a b. a || b) none other

one_line : (all : List Accepted) (xs : List LogLine) (x : LogLine) (here : List ℕ) → answer_of all x ≡ here → flat_map (answer_of all) (xs ++ x ∷ []) ≡ flat_map (answer_of all) xs ++ here
one_line all xs x here is = flat_map-append (answer_of all) xs (x ∷ []) ∙ ap (λ l. flat_map (answer_of all) xs ++ l) (append-nil (answer_of all x) ∙ is)

-- behind a message that answers none of the others that go through
turn_over : (answered later : List Accepted) (before : List Spoken) (xs : List LogLine) (s : Spoken) (x : LogLine) → (t : Turn answered later before xs)
    → AllByRecursion (λ c. goes_through c ≡ true → ends (decimal c.number) s.message ≡ false) t.rest → answer_of (answered ++ later) x ≡ []
    → Turn answered later (before ++ s ∷ []) (xs ++ x ∷ [])
turn_over answered later before xs s x t others none = record {
  done = t.done;
  rest = t.rest;
  split = t.split;
  ended =
      all_weaker (IsThroughEnded before) (IsThroughEnded (before ++ s ∷ [])) (answered ++ t.done)
      (λ c ended through. still_ended (decimal c.number) before s (ended through)) t.ended;
  open_yet =
      all_two (IsThroughOpen before) (λ c. goes_through c ≡ true → ends (decimal c.number) s.message ≡ false) (IsThroughOpen (before ++ s ∷ [])) t.rest
      (λ c yet other through. still_open (decimal c.number) before s (yet through) (other through)) t.open_yet others;
  answers = one_line (answered ++ later) xs x [] none ∙ append-nil (flat_map (answer_of (answered ++ later)) xs) ∙ t.answers;
}

-- behind a message that answers nothing
turn_past : (answered later : List Accepted) (before : List Spoken) (xs : List LogLine) (s : Spoken) (x : LogLine) → Turn answered later before xs
    → ((token : List ℕ) → ends token s.message ≡ false) → answer_of (answered ++ later) x ≡ [] → Turn answered later (before ++ s ∷ []) (xs ++ x ∷ [])
turn_past answered later before xs s x t no_end none =
    turn_over answered later before xs s x t
    (all_weaker (IsThroughOpen before) (λ c. goes_through c ≡ true → ends (decimal c.number) s.message ≡ false) t.rest (λ c yet through. no_end (decimal c.number)) t.open_yet) none

-- ---- an answer

-- a message that answers the command of this number
record Answers (all : List Accepted) (before : List Spoken) (s : Spoken) (x : LogLine) (number : ℕ) : Type 0 where
  few : number < 2 ^ 64
  ends_it : (token : List ℕ) → ends token s.message ≡ bytes_eq (decimal number) token
  line : answer_of all x ≡ cond (is_through_number number all) (number ∷ []) []
  opened : IsOpen (map asked_as all) before (decimal number)
  turn : (c : Asked) → command_under (decimal number) (map asked_as all) ≡ Some c → ComesInTurn (map asked_as all) before c

-- to a storable command
answers_storable : (answered later : List Accepted) (before : List Spoken) (xs : List LogLine) (s : Spoken) (x : LogLine) (number : ℕ) → Counted (answered ++ later)
    → Answers (answered ++ later) before s x number → is_through_number number (answered ++ later) ≡ false → Turn answered later before xs
    → Turn answered later (before ++ s ∷ []) (xs ++ x ∷ [])
answers_storable answered later before xs s x number counted a storable t =
    let all : List Accepted = answered ++ later in
    let rest_known : AllByRecursion (IsKnown all) t.rest =
    all_back (IsKnown all) t.done t.rest (subst (AllByRecursion (IsKnown all)) t.split (all_back (IsKnown all) answered later
    (all_cuts (IsKnown all) all (λ front back c cut. known_at all front back c counted cut)))) in
    let rest_few : AllByRecursion IsOfFew t.rest =
    all_back IsOfFew t.done t.rest (subst AreFew t.split (all_back IsOfFew answered later (counted_few all counted))) in
    turn_over answered later before xs s x t
    (all_two (IsKnown all) IsOfFew (λ c. goes_through c ≡ true → ends (decimal c.number) s.message ≡ false) t.rest
    (λ c known few through.
    a.ends_it (decimal c.number)
    ∙ apart number c.number a.few few
    (λ same. true≢false (sym through ∙ sym known ∙ ap (λ n. is_through_number n all) (sym same) ∙ storable)))
    rest_known rest_few)
    (a.line ∙ ap (λ b. cond b (number ∷ []) []) storable)

-- to one that goes through, of those that have no answer yet
answers_first : (answered later : List Accepted) (before : List Spoken) (xs : List LogLine) (s : Spoken) (x : LogLine) (number : ℕ) → Counted (answered ++ later)
    → Answers (answered ++ later) before s x number → is_through_number number (answered ++ later) ≡ true → (t : Turn answered later before xs)
    → (front back between : List Accepted) (c : Accepted) → answered ++ later ≡ front ++ c ∷ back → number ≡ c.number → AllByRecursion (IsThroughEnded before) front
    → front ≡ (answered ++ t.done) ++ between → t.rest ≡ between ++ c ∷ back → Turn answered later (before ++ s ∷ []) (xs ++ x ∷ [])
answers_first answered later before xs s x number counted a through t front back between c place same earlier first second =
    let all : List Accepted = answered ++ later in
    let after : List Spoken = before ++ s ∷ [] in
    let one : is_through_number c.number all ≡ goes_through c = known_at all front back c counted place in
    let goes : goes_through c ≡ true = sym one ∙ ap (λ n. is_through_number n all) (sym same) ∙ through in
    let yet : AllByRecursion (IsThroughOpen before) (between ++ c ∷ back) = subst (AllByRecursion (IsThroughOpen before)) second t.open_yet in
    let over : AllByRecursion (IsThroughEnded before) between =
    all_back (IsThroughEnded before) (answered ++ t.done) between (subst (AllByRecursion (IsThroughEnded before)) first earlier) in
    let skipped : filter goes_through between ≡ [] =
    filter_nothing goes_through between
    (all_two (IsThroughEnded before) (IsThroughOpen before) (λ d. goes_through d ≡ false) between
    (λ d ended none. not_both (goes_through d) (is_ended (decimal d.number) before) ended none) over (all_front (IsThroughOpen before) between (c ∷ back) yet)) in
    let now : is_ended (decimal c.number) after ≡ true =
    ended_push (decimal c.number) before s
    ∙ ap (λ b. is_ended (decimal c.number) before || b) (a.ends_it (decimal c.number) ∙ ap (λ n. bytes_eq (decimal n) (decimal c.number)) same ∙ same_token (decimal c.number))
    ∙ or_true (is_ended (decimal c.number) before) in
    let ended_all : AllByRecursion (IsThroughEnded after) (front ++ c ∷ []) =
    all_append (IsThroughEnded after) front (c ∷ [])
    (all_weaker (IsThroughEnded before) (IsThroughEnded after) front (λ d ended is. still_ended (decimal d.number) before s (ended is)) earlier) ((λ is. now), tt) in
    let back_few : AllByRecursion IsOfFew back =
    let fits : AllByRecursion IsOfFew (c ∷ back) = all_back IsOfFew front (c ∷ back) (subst AreFew place (counted_few all counted)) in fits.1 in
    let back_yet : AllByRecursion (IsThroughOpen before) back =
    let parts : AllByRecursion (IsThroughOpen before) (c ∷ back) = all_back (IsThroughOpen before) between (c ∷ back) yet in parts.1 in
    let above : AllByRecursion (λ d. c.number + 1 ≤ d.number) back = later_numbers all front back c counted place in
    let others : AllByRecursion (λ d. ends (decimal d.number) s.message ≡ false) back =
    all_two (λ d. c.number + 1 ≤ d.number) IsOfFew (λ d. ends (decimal d.number) s.message ≡ false) back
    (λ d over few. a.ends_it (decimal d.number) ∙ apart number d.number a.few few (λ also. omega arith)) above back_few in
    record {
      done = t.done ++ (between ++ c ∷ []);
      rest = back;
      split =
          t.split ∙ ap (λ l. t.done ++ l) (second ∙ sym (append_assoc between (c ∷ []) back))
          ∙ sym (append_assoc t.done (between ++ c ∷ []) back);
      ended =
          subst (AllByRecursion (IsThroughEnded after))
          (ap (λ l. l ++ c ∷ []) first ∙ append_assoc (answered ++ t.done) between (c ∷ []) ∙ append_assoc answered t.done (between ++ c ∷ [])) ended_all;
      open_yet =
          all_two (IsThroughOpen before) (λ d. ends (decimal d.number) s.message ≡ false) (IsThroughOpen after) back
          (λ d none other is. still_open (decimal d.number) before s (none is) other) back_yet others;
      answers =
          one_line all xs x (c.number ∷ []) (a.line ∙ ap (λ b. cond b (number ∷ []) []) through ∙ ap (λ n. n ∷ []) same)
          ∙ ap (λ l. l ++ c.number ∷ []) t.answers
          ∙ sym (map-append (λ (d : Accepted). d.number) (filter goes_through t.done) (c ∷ []))
          ∙ ap (λ l. numbers (filter goes_through t.done ++ l)) (sym (filter-append goes_through between (c ∷ []) ∙ ap₂ (λ us vs. us ++ vs) skipped (ap (λ b. cond b (c ∷ []) []) goes)))
          ∙ ap numbers (sym (filter-append goes_through t.done (between ++ c ∷ [])));
    }
  where
    not_both : (flag ended : Bool) → (flag ≡ true → ended ≡ true) → (flag ≡ true → ended ≡ false) → flag ≡ false
    not_both true ended over none = absurd (true≢false (sym (over refl) ∙ none refl))
    not_both false ended over none = refl

placed_answer : (answered later : List Accepted) (before : List Spoken) (xs : List LogLine) (s : Spoken) (x : LogLine) (number : ℕ) → Counted (answered ++ later)
    → Answers (answered ++ later) before s x number → is_through_number number (answered ++ later) ≡ true → (t : Turn answered later before xs)
    → (front back : List Accepted) (c : Accepted) → answered ++ later ≡ front ++ c ∷ back → number ≡ c.number → AllByRecursion (IsThroughEnded before) front
    → InOne (answered ++ t.done) t.rest front back c → Turn answered later (before ++ s ∷ []) (xs ++ x ∷ [])
placed_answer answered later before xs s x number counted a through t front back c place same earlier (in_first us vs is) =
    let all : List Accepted = answered ++ later in
    let one : is_through_number c.number all ≡ goes_through c = known_at all front back c counted place in
    let goes : goes_through c ≡ true = sym one ∙ ap (λ n. is_through_number n all) (sym same) ∙ through in
    let ended : IsThroughEnded before c = all_at (IsThroughEnded before) us vs c (subst (AllByRecursion (IsThroughEnded before)) is t.ended) in
    absurd (true≢false (sym (ended goes) ∙ ap (λ n. is_ended (decimal n) before) (sym same) ∙ a.opened.unanswered))
placed_answer answered later before xs s x number counted a through t front back c place same earlier (in_second between first second) =
    answers_first answered later before xs s x number counted a through t front back between c place same earlier first second

answers_through : (answered later : List Accepted) (before : List Spoken) (xs : List LogLine) (s : Spoken) (x : LogLine) (number : ℕ) → Counted (answered ++ later)
    → Answers (answered ++ later) before s x number → is_through_number number (answered ++ later) ≡ true → Turn answered later before xs
    → Turn answered later (before ++ s ∷ []) (xs ++ x ∷ [])
answers_through answered later before xs s x number counted a through t =
    let all : List Accepted = answered ++ later in
    let c = a.opened.command in
    let p : Place all c (decimal number) = under all c (decimal number) a.opened.sent in
    let same : number ≡ p.command.number = number_is all c number counted a.few p in
    let goes : told.goes_through c ≡ true = sym (known_number all c number counted a.few a.opened.sent) ∙ through in
    let named : decimal p.command.number ≡ c.token = ap (λ (d : Asked). d.token) p.same in
    let earlier = ended_before told.goes_through all p.done p.left p.command before c.token p.split named (a.turn c a.opened.sent goes) in
    placed_answer answered later before xs s x number counted a through t p.done p.left p.command p.split same
    (all_weaker (IsEndedIf told.goes_through before) (IsThroughEnded before) p.done (λ d ended is. ended (through_same d ∙ is)) earlier)
    (in_one_of (answered ++ t.done) t.rest p.done p.left p.command
    (append_assoc answered t.done t.rest ∙ ap (λ l. answered ++ l) (sym t.split) ∙ p.split))

answer_by : (flag : Bool) (answered later : List Accepted) (before : List Spoken) (xs : List LogLine) (s : Spoken) (x : LogLine) (number : ℕ) → Counted (answered ++ later)
    → Answers (answered ++ later) before s x number → is_through_number number (answered ++ later) ≡ flag → Turn answered later before xs
    → Turn answered later (before ++ s ∷ []) (xs ++ x ∷ [])
answer_by true answered later before xs s x number counted a is t = answers_through answered later before xs s x number counted a is t
answer_by false answered later before xs s x number counted a is t = answers_storable answered later before xs s x number counted a is t

-- ---- one message

pub turn_pushed : (images : List Image) (history : List Input) (answered later : List Accepted) (before : List Spoken) (xs : List LogLine) (s : Spoken) (x : LogLine) (place : ℕ)
    → Counted (answered ++ later) → IsToldRightly images history (map asked_as (answered ++ later)) before s → s.mark ≡ Some place → IsLineOf s.message s.mark x
    → Turn answered later before xs → Turn answered later (before ++ s ∷ []) (xs ++ x ∷ [])
turn_pushed images history answered later before xs s x place counted right marked (says_hello body is says) t =
    turn_past answered later before xs s x t (λ token. ap (ends token) is) (ap (answer_of (answered ++ later)) says)
turn_pushed images history answered later before xs s x place counted right marked (says_event service name body is plain says) t =
    turn_past answered later before xs s x t (λ token. ap (ends token) is) (ap (answer_of (answered ++ later)) says)
turn_pushed images history answered later before xs s x place counted right marked (says_progress number body few is says) t =
    turn_past answered later before xs s x t (λ token. ap (ends token) is) (ap (answer_of (answered ++ later)) says)
turn_pushed images history answered later before xs s x place counted right marked (says_final number body few is says) t =
    let all : List Accepted = answered ++ later in
    let commands : List Asked = map asked_as all in
    let how : IsAnswered images history commands before (final (decimal number) body) (Some place) =
    subst₂ (IsAnswered images history commands before) is marked right.answered in
    answer_by (is_through_number number all) answered later before xs s x number counted (record {
      few = few;
      ends_it = λ token. ap (ends token) is;
      line = ap (answer_of all) (says ∙ ap (λ mark. lines.Final number mark body) marked);
      opened = subst (IsOwed commands before) is right.owed;
      turn = λ c under. (how c under).0;
    }) refl t
turn_pushed images history answered later before xs s x place counted right marked (says_unknown number few is says) t =
    let all : List Accepted = answered ++ later in
    let commands : List Asked = map asked_as all in
    let how : IsAnswered images history commands before (not_known (decimal number)) (Some place) =
    subst₂ (IsAnswered images history commands before) is marked right.answered in
    answer_by (is_through_number number all) answered later before xs s x number counted (record {
      few = few;
      ends_it = λ token. ap (ends token) is;
      line = ap (answer_of all) (says ∙ ap (λ mark. lines.Unknown number mark) marked);
      opened = subst (IsOwed commands before) is right.owed;
      turn = λ c under. (how c under).0;
    }) refl t

-- ---- messages behind the target's Hello

pub turns : (images : List Image) (history : List Input) (answered later : List Accepted) (heard : List Spoken) → Counted (answered ++ later)
    → AreToldRightly images history (map asked_as (answered ++ later)) heard → (told more before : List Spoken) (xs ys : List LogLine) (position : ℕ) → heard ≡ before ++ (told ++ more)
    → Rising position told → AreLinesOf told ys → Turn answered later before xs → Turn answered later (before ++ told) (xs ++ ys)
turns images history answered later heard counted right [] more before xs [] position split rises are t =
    subst₂ (Turn answered later) (sym (append-nil before)) (sym (append-nil xs)) t
turns images history answered later heard counted right [] more before xs (y ∷ ys) position split rises are t = absurd are
turns images history answered later heard counted right (s ∷ told) more before xs [] position split rises are t = absurd are
turns images history answered later heard counted right (s ∷ told) more before xs (y ∷ ys) position split rises are t =
    let here = right before (told ++ more) s split in
    let next : Turn answered later (before ++ s ∷ []) (xs ++ y ∷ []) =
    turn_pushed images history answered later before xs s y rises.0.place counted here rises.0.mark are.0 t in
    subst₂ (Turn answered later) (append_assoc before (s ∷ []) told) (append_assoc xs (y ∷ []) ys)
    (turns images history answered later heard counted right told more (before ++ s ∷ []) (xs ++ y ∷ []) ys rises.0.place
    (split ∙ sym (append_assoc before (s ∷ []) (told ++ more))) rises.1 are.1 next)

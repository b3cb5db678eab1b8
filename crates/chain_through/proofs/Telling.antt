-- What a bound value-add tells: until it first answers a command from its store it is what comes from above, under the tokens that
-- the commands have below.
use Rattle.std.proofs.Common.{◌≡◌, ℕ, suc, ◌+◌, ◌^◌, ◌<◌, ◌≤◌, ◌⊎◌, inl, inr, ⊎_elim, List, [], ◌∷◌, ◌++◌, length, map, Option, Some, None, Ok, refl, sym, ap, ◌∙◌, subst, arith, append_assoc, append-nil, length-append}
use Rattle.std.specs.Prelude.{IsSome}
use Rattle.std.specs.List.{AllByRecursion}
use Rattle.std.proofs.lemmas.List.{map-append}
use Rattle.channel_core.specs.Arrivals.{AreSpoken, Spoken}
use Rattle.channel_core.specs.Wire.{said}
use Rattle.channel_core.specs.declared.held.Incoming.{Incoming}
use Rattle.tcf_message.specs.Message.{MessageValue, command, event, final, flow, not_known, progress, reading, spelling}
use Rattle.value_node.specs.Asked.{Asked}
use Rattle.value_node.specs.Deeds.{Deed, answers, asked_in, forwards, heard_in, hears, mark_in, mark_of as mark_heard, sent_in}
use Rattle.value_node.specs.OwnMessages.{IsOwn, OwnStep, a_hello, a_result, an_unknown}
use Rattle.value_node.specs.RelayLaws.{IsOfItsCommand, passed_by, passed_in, told_from}
use Rattle.chain_told.specs.Told.{is_storable, numbered}
use Rattle.chain_told.specs.TellsOn.{IsWithoutSome, passed_as, tells, tells_from}
use Rattle.chain_through.specs.Through.{IsMarked}
use Rattle.chain_told.proofs.Decimals.{decimal_one}
use Rattle.chain_told.proofs.Doing.{asked_append, heard_append, sent_append}
use Rattle.chain_through.proofs.Doing.{AnswersFirst, AnswersStorable, IsNoAnswer, all_first, free_same, sent_without, until_answer, without_behind, without_same}
use Rattle.chain_through.proofs.Found.{below_more}
use Rattle.chain_through.proofs.Hearing.{AreReadable, map_parts, mark_same, unmarked_heard}
use Rattle.chain_told.proofs.Numbered.{numbered_first}
use Rattle.chain_through.proofs.OwnTold.{AnswersBelow, IsUnmarked, own_unmarked}
use Rattle.chain_through.proofs.Renaming.{each_marked, passed, passed_marked, passed_more, passed_spelled, renamed, say}
use Rattle.chain_through.proofs.Spelling.{AreSpelled, said_so}
use Rattle.chain_through.proofs.Taking.{IsWritten, come_as}
use Rattle.list_laws.proofs.AllLists.{all_append}
use Rattle.list_laws.specs.Fronts.{IsFront}

-- ---- As it is sent

said_with : (messages : List MessageValue) (mark : Option ℕ) → map (λ m. said m mark) messages ≡ map said_so (map (λ m. say m mark) messages)
said_with [] mark = refl
said_with (m ∷ messages) mark = ap (λ os. said m mark ∷ os) (said_with messages mark)

pub told_said : (commands : List Asked) (deeds : List Deed) → told_from commands deeds ≡ map said_so (tells_from commands deeds)
told_said commands [] = refl
told_said commands (forwards c ∷ deeds) = told_said (commands ++ c ∷ []) deeds
told_said commands (answers c reply mark ∷ deeds) = ap (λ os. said (final c.token reply) mark ∷ os) (told_said commands deeds)
told_said commands (hears incoming ∷ deeds) =
    ap (λ os. passed_by commands incoming ++ os) (told_said commands deeds)
    ∙ ap (λ os. os ++ map said_so (tells_from commands deeds)) (said_with (passed_in commands (reading incoming.raw)) incoming.mark)
    ∙ sym (map-append said_so (passed_as commands incoming) (tells_from commands deeds))

-- a message that was heard
passed_one : (commands : List Asked) (incoming : Incoming) (s : Spoken) → incoming ≡ come_as s → reading (spelling s.message) ≡ Ok s.message → passed_as commands incoming ≡ renamed commands s.message s.mark
passed_one commands incoming s is read = ap (passed_as commands) is ∙ ap (λ r. map (λ m. say m s.mark) (passed_in commands r)) read

pub tells_spelled : (commands : List Asked) (deeds : List Deed) (heard : List Spoken) → AllByRecursion IsWritten commands → AllByRecursion IsWritten (asked_in deeds) → heard_in deeds ≡ map come_as heard
    → AreSpoken heard → AreReadable heard → AreSpelled (tells_from commands deeds)
tells_spelled commands [] heard written asked are formed readable = tt
tells_spelled commands (forwards c ∷ deeds) heard written asked are formed readable =
    tells_spelled (commands ++ c ∷ []) deeds heard (all_append IsWritten commands (c ∷ []) written (asked.0, tt)) asked.1 are formed readable
tells_spelled commands (answers c reply mark ∷ deeds) heard written asked are formed readable = (asked.0.0.0.0, tells_spelled commands deeds heard written asked.1 are formed readable)
tells_spelled commands (hears incoming ∷ deeds) [] written asked are formed readable = absurd cc
tells_spelled commands (hears incoming ∷ deeds) (s ∷ heard) written asked are formed readable =
    let whole : incoming ∷ heard_in deeds ≡ come_as s ∷ map come_as heard = are in
    let one : incoming ≡ come_as s = cc in
    let tails : heard_in deeds ≡ map come_as heard = cc in
    let here : AreSpelled (renamed commands s.message s.mark) = subst AreSpelled (append-nil (renamed commands s.message s.mark)) (passed_spelled commands (s ∷ []) written (formed.0, tt)) in
    all_append _ (passed_as commands incoming) (tells_from commands deeds) (subst AreSpelled (sym (passed_one commands incoming s one readable.0)) here)
    (tells_spelled commands deeds heard written asked tails formed.1 readable.1)

-- ---- Parts

no_mark : (mark : Option ℕ) → mark ≡ None → IsSome mark → ⊥
no_mark None is some = absurd cc
no_mark (Some position) is some = absurd cc

pub tells_both : (commands : List Asked) (first more : List Deed) → tells_from commands (first ++ more) ≡ tells_from commands first ++ tells_from (commands ++ sent_in first) more
tells_both commands [] more = ap (λ cs. tells_from cs more) (sym (append-nil commands))
tells_both commands (forwards c ∷ first) more =
    tells_both (commands ++ c ∷ []) first more ∙ ap (λ cs. tells_from (commands ++ c ∷ []) first ++ tells_from cs more) (append_assoc commands (c ∷ []) (sent_in first))
tells_both commands (answers c reply mark ∷ first) more = ap (λ l. say (final c.token reply) mark ∷ l) (tells_both commands first more)
tells_both commands (hears incoming ∷ first) more =
    ap (λ l. passed_as commands incoming ++ l) (tells_both commands first more) ∙ sym (append_assoc (passed_as commands incoming) (tells_from commands first) (tells_from (commands ++ sent_in first) more))

-- ---- Each answer from the store has a position, and so has all that it tells where all that it heard does

abbrev pub AnswersMarked : Deed → Type 0
AnswersMarked (forwards c) = Unit {0}
AnswersMarked (answers c reply mark) = IsSome mark
AnswersMarked (hears incoming) = Unit {0}

tells_marked : (commands : List Asked) (deeds : List Deed) (heard : List Spoken) → AllByRecursion AnswersMarked deeds → heard_in deeds ≡ map come_as heard → AllByRecursion IsMarked heard
    → AllByRecursion IsMarked (tells_from commands deeds)
tells_marked commands [] heard each are marked = tt
tells_marked commands (forwards c ∷ deeds) heard each are marked = tells_marked (commands ++ c ∷ []) deeds heard each.1 are marked
tells_marked commands (answers c reply mark ∷ deeds) heard each are marked = (each.0, tells_marked commands deeds heard each.1 are marked)
tells_marked commands (hears incoming ∷ deeds) [] each are marked = absurd cc
tells_marked commands (hears incoming ∷ deeds) (s ∷ heard) each are marked =
    let whole : incoming ∷ heard_in deeds ≡ come_as s ∷ map come_as heard = are in
    let one : incoming ≡ come_as s = cc in
    let tails : heard_in deeds ≡ map come_as heard = cc in
    let same : incoming.mark ≡ s.mark = ap (λ (i : Incoming). i.mark) one in
    all_append IsMarked (passed_as commands incoming) (tells_from commands deeds) (each_marked (passed_in commands (reading incoming.raw)) incoming.mark (subst IsSome (sym same) marked.0))
    (tells_marked commands deeds heard each.1 tails marked.1)

-- ---- Lists in two parts each

-- one of two fronts is a front of the other
fronts_meet : {A : Type 0} → (xs ys us vs : List A) → xs ++ ys ≡ us ++ vs → IsFront xs us ⊎ ((rest : List A) × (xs ≡ us ++ rest) × (vs ≡ rest ++ ys))
fronts_meet [] ys us vs same = inl (us, refl)
fronts_meet (x ∷ xs) ys [] vs same = inr (x ∷ xs, refl, sym same)
fronts_meet (x ∷ xs) ys (u ∷ us) vs same =
    let whole : x ∷ (xs ++ ys) ≡ u ∷ (us ++ vs) = same in
    let one : x ≡ u = cc in
    let tails : xs ++ ys ≡ us ++ vs = cc in
    ⊎_elim
    (λ p. inl (p.0, ap (λ y. y ∷ us) (sym one) ∙ ap (λ l. x ∷ l) p.1))
    (λ p. inr (p.0, ap (λ y. y ∷ xs) one ∙ ap (λ l. u ∷ l) p.1, p.2))
    (fronts_meet xs ys us vs tails)

split_first : {A : Type 0} → (xs ys us vs : List A) → xs ++ ys ≡ us ++ vs → length us ≤ length xs → (rest : List A) × (xs ≡ us ++ rest) × (vs ≡ rest ++ ys)
split_first xs ys [] vs same few = (xs, refl, sym same)
split_first [] ys (u ∷ us) vs same few = absurd (omega arith)
split_first (x ∷ xs) ys (u ∷ us) vs same few =
    let whole : x ∷ (xs ++ ys) ≡ u ∷ (us ++ vs) = same in
    let one : x ≡ u = cc in
    let tails : xs ++ ys ≡ us ++ vs = cc in
    let p = split_first xs ys us vs tails (omega arith) in
    (p.0, ap (λ y. y ∷ xs) one ∙ ap (λ l. u ∷ l) p.1, p.2)

-- ---- The answers that were heard are those to commands that were sent before

step_sent : (n most : ℕ) (commands next : List Asked) (m : MessageValue) → OwnStep (numbered n commands) m next → n + length commands ≤ 10 ^ 64 → most < 10 ^ 64 → AnswersBelow (most + 1) m → n ≤ most + 1
    → ((k : ℕ) (rest : List Asked) → next ≡ numbered k rest → k + length rest ≡ n + length commands → k ≤ most + 1 → n + length commands ≤ most + 1) → n + length commands ≤ most + 1
step_sent n most commands next m (a_hello body is same) few small below some rest = rest n commands same refl some
step_sent n most commands next m (a_result c body is at split) few small below some rest =
    let f = numbered_first n commands c next split in
    let many : length commands ≡ suc (length f.rest) = ap length f.are in
    let b : AnswersBelow (most + 1) (final c.token body) = subst (AnswersBelow (most + 1)) is below in
    let under_most : b.0 < most + 1 = b.2 in
    let same : n ≡ b.0 = decimal_one n b.0 (omega arith) (omega arith) (sym (ap (λ x. x.token) f.is) ∙ b.1) in
    rest (n + 1) f.rest f.others (omega arith) (omega arith)
step_sent n most commands next m (an_unknown c is split) few small below some rest =
    let f = numbered_first n commands c next split in
    let many : length commands ≡ suc (length f.rest) = ap length f.are in
    let b : AnswersBelow (most + 1) (not_known c.token) = subst (AnswersBelow (most + 1)) is below in
    let under_most : b.0 < most + 1 = b.2 in
    let same : n ≡ b.0 = decimal_one n b.0 (omega arith) (omega arith) (sym (ap (λ x. x.token) f.is) ∙ b.1) in
    rest (n + 1) f.rest f.others (omega arith) (omega arith)

own_sent : (n most : ℕ) (commands : List Asked) (own : List Spoken) → IsOwn (numbered n commands) own [] → n + length commands ≤ 10 ^ 64 → most < 10 ^ 64
    → AllByRecursion (λ s. AnswersBelow (most + 1) s.message) own → n ≤ most + 1 → n + length commands ≤ most + 1
own_sent n most [] [] is few small below some = let same : n + 0 ≡ n = omega arith in omega arith
own_sent n most (c ∷ commands) [] is few small below some = absurd cc
own_sent n most commands (s ∷ own) is few small below some =
    step_sent n most commands is.1.0 s.message is.1.1 few small below.0 some
    (λ k rest same long more. subst (λ l. l ≤ most + 1) long
    (own_sent k most rest own (subst (λ cs. IsOwn cs own []) same is.1.2) (subst (λ l. l ≤ 10 ^ 64) (sym long) few) small below.1 more))

-- ---- The deeds of one value-add

module _ (all : List Deed) (owns : (before rest : List Deed) (incoming : Incoming) → all ≡ before ++ hears incoming ∷ rest → IsOfItsCommand before (reading incoming.raw)) where
  -- the command is found among those that were sent by then
  same_passed : (before : List Deed) (more : List Asked) (m : MessageValue) → IsOfItsCommand before (Ok m) → passed_in (sent_in before) (Ok m) ≡ passed_in (sent_in before ++ more) (Ok m)
  same_passed before more (command token service name body) o = refl
  same_passed before more (final token body) o =
      let high : o.number ≤ length (sent_in before) = o.sent in
      let within : o.number < 1 + length (sent_in before) = omega arith in
      ap (λ t. final t body ∷ []) (sym (below_more 1 o.number token (sent_in before) more o.numbered o.counted within))
  same_passed before more (progress token body) o =
      let high : o.number ≤ length (sent_in before) = o.sent in
      let within : o.number < 1 + length (sent_in before) = omega arith in
      ap (λ t. progress t body ∷ []) (sym (below_more 1 o.number token (sent_in before) more o.numbered o.counted within))
  same_passed before more (not_known token) o =
      let high : o.number ≤ length (sent_in before) = o.sent in
      let within : o.number < 1 + length (sent_in before) = omega arith in
      ap (λ t. not_known t ∷ []) (sym (below_more 1 o.number token (sent_in before) more o.numbered o.counted within))
  same_passed before more (event service name body) o = refl
  same_passed before more (flow level) o = refl

  -- where none is answered from the store all is passed on
  free_tells : (asked : List Asked) (before deeds after : List Deed) (later : List Asked) (heard : List Spoken) → all ≡ before ++ (deeds ++ after) → asked ≡ sent_in before ++ (sent_in deeds ++ later)
      → AllByRecursion IsNoAnswer deeds → heard_in deeds ≡ map come_as heard → AreReadable heard → tells_from (sent_in before) deeds ≡ passed asked heard
  free_tells asked before [] after later [] are sent free heard_are readable = refl
  free_tells asked before [] after later (s ∷ heard) are sent free heard_are readable = absurd cc
  free_tells asked before (forwards c ∷ deeds) after later heard are sent free heard_are readable =
      let pushed : sent_in (before ++ forwards c ∷ []) ≡ sent_in before ++ c ∷ [] = sent_append before (forwards c ∷ []) in
      let place : all ≡ (before ++ forwards c ∷ []) ++ (deeds ++ after) = are ∙ sym (append_assoc before (forwards c ∷ []) (deeds ++ after)) in
      let sent_now : asked ≡ sent_in (before ++ forwards c ∷ []) ++ (sent_in deeds ++ later) =
      sent ∙ sym (append_assoc (sent_in before) (c ∷ []) (sent_in deeds ++ later)) ∙ ap (λ cs. cs ++ (sent_in deeds ++ later)) (sym pushed) in
      subst (λ cs. tells_from cs deeds ≡ passed asked heard) pushed (free_tells asked (before ++ forwards c ∷ []) deeds after later heard place sent_now free.1 heard_are readable)
  free_tells asked before (answers c reply mark ∷ deeds) after later heard are sent free heard_are readable = absurd free.0
  free_tells asked before (hears incoming ∷ deeds) after later [] are sent free heard_are readable = absurd cc
  free_tells asked before (hears incoming ∷ deeds) after later (s ∷ heard) are sent free heard_are readable =
      let whole : incoming ∷ heard_in deeds ≡ come_as s ∷ map come_as heard = heard_are in
      let one : incoming ≡ come_as s = cc in
      let tails : heard_in deeds ≡ map come_as heard = cc in
      let pushed : sent_in (before ++ hears incoming ∷ []) ≡ sent_in before = sent_append before (hears incoming ∷ []) ∙ append-nil (sent_in before) in
      let place : all ≡ (before ++ hears incoming ∷ []) ++ (deeds ++ after) = are ∙ sym (append_assoc before (hears incoming ∷ []) (deeds ++ after)) in
      let sent_now : asked ≡ sent_in (before ++ hears incoming ∷ []) ++ (sent_in deeds ++ later) = sent ∙ ap (λ cs. cs ++ (sent_in deeds ++ later)) (sym pushed) in
      let rest = subst (λ cs. tells_from cs deeds ≡ passed asked heard) pushed (free_tells asked (before ++ hears incoming ∷ []) deeds after later heard place sent_now free.1 tails readable.1) in
      let its : IsOfItsCommand before (Ok s.message) = subst (IsOfItsCommand before) (ap (λ (i : Incoming). reading i.raw) one ∙ readable.0) (owns before (deeds ++ after) incoming are) in
      let here : passed_as (sent_in before) incoming ≡ renamed asked s.message s.mark =
      passed_one (sent_in before) incoming s one readable.0
      ∙ ap (λ ms. map (λ m. say m s.mark) ms) (same_passed before (sent_in deeds ++ later) s.message its ∙ ap (λ cs. passed_in cs (Ok s.message)) (sym sent)) in
      ap (λ l. l ++ tells_from (sent_in before) deeds) here ∙ ap (λ l. renamed asked s.message s.mark ++ l) rest

  -- the numbers of the commands that were answered from above
  below_sent : (most : ℕ) (before : List Deed) (m : MessageValue) → length (sent_in before) ≤ most → IsOfItsCommand before (Ok m) → AnswersBelow (most + 1) m
  below_sent most before (command token service name body) few o = tt
  below_sent most before (final token body) few o = let high : o.number ≤ length (sent_in before) = o.sent in (o.number, o.numbered, omega arith)
  below_sent most before (progress token body) few o = tt
  below_sent most before (not_known token) few o = let high : o.number ≤ length (sent_in before) = o.sent in (o.number, o.numbered, omega arith)
  below_sent most before (event service name body) few o = tt
  below_sent most before (flow level) few o = tt

  heard_below : (most : ℕ) (before deeds after : List Deed) (heard : List Spoken) → all ≡ before ++ (deeds ++ after) → length (sent_in before) + length (sent_in deeds) ≤ most → heard_in deeds ≡ map come_as heard
      → AreReadable heard → AllByRecursion (λ s. AnswersBelow (most + 1) s.message) heard
  heard_below most before [] after [] are few heard_are readable = tt
  heard_below most before [] after (s ∷ heard) are few heard_are readable = absurd cc
  heard_below most before (forwards c ∷ deeds) after heard are few heard_are readable =
      let pushed : length (sent_in (before ++ forwards c ∷ [])) ≡ length (sent_in before) + 1 = ap length (sent_append before (forwards c ∷ [])) ∙ length-append (sent_in before) (c ∷ []) in
      let place : all ≡ (before ++ forwards c ∷ []) ++ (deeds ++ after) = are ∙ sym (append_assoc before (forwards c ∷ []) (deeds ++ after)) in
      heard_below most (before ++ forwards c ∷ []) deeds after heard place (omega arith) heard_are readable
  heard_below most before (answers c reply mark ∷ deeds) after heard are few heard_are readable =
      let deed = answers c reply mark in
      let pushed : length (sent_in (before ++ deed ∷ [])) ≡ length (sent_in before) = ap length (sent_append before (deed ∷ []) ∙ append-nil (sent_in before)) in
      let place : all ≡ (before ++ deed ∷ []) ++ (deeds ++ after) = are ∙ sym (append_assoc before (deed ∷ []) (deeds ++ after)) in
      heard_below most (before ++ deed ∷ []) deeds after heard place (omega arith) heard_are readable
  heard_below most before (hears incoming ∷ deeds) after [] are few heard_are readable = absurd cc
  heard_below most before (hears incoming ∷ deeds) after (s ∷ heard) are few heard_are readable =
      let whole : incoming ∷ heard_in deeds ≡ come_as s ∷ map come_as heard = heard_are in
      let one : incoming ≡ come_as s = cc in
      let tails : heard_in deeds ≡ map come_as heard = cc in
      let pushed : length (sent_in (before ++ hears incoming ∷ [])) ≡ length (sent_in before) = ap length (sent_append before (hears incoming ∷ []) ∙ append-nil (sent_in before)) in
      let place : all ≡ (before ++ hears incoming ∷ []) ++ (deeds ++ after) = are ∙ sym (append_assoc before (hears incoming ∷ []) (deeds ++ after)) in
      let its : IsOfItsCommand before (Ok s.message) = subst (IsOfItsCommand before) (ap (λ (i : Incoming). reading i.raw) one ∙ readable.0) (owns before (deeds ++ after) incoming are) in
      (below_sent most before s.message (omega arith) its, heard_below most (before ++ hears incoming ∷ []) deeds after heard place (omega arith) tails readable.1)

-- ---- The own messages of the value-adds above are passed on before anything else comes down, or is answered from the store

-- The commands that were taken above were asked first, and of the others some weren't sent. Behind the own messages that are passed
-- on each one has a position.
pub record TellsOwnFirst (deeds : List Deed) (took behind : List Asked) (own over : List Spoken) : Type 0 where
  pub asked_behind : List Asked
  pub split : asked_in deeds ≡ took ++ asked_behind
  pub without : IsWithoutSome is_storable behind asked_behind
  pub target : List Spoken
  pub none : over ≡ [] → target ≡ []
  pub marked : AllByRecursion IsMarked target
  pub front : IsFront (tells deeds) (passed (asked_in deeds) own ++ target)

module _ (deeds : List Deed) (owns : (before rest : List Deed) (incoming : Incoming) → deeds ≡ before ++ hears incoming ∷ rest → IsOfItsCommand before (reading incoming.raw))
    (storable : AllByRecursion AnswersStorable deeds) (each_mark : AllByRecursion AnswersMarked deeds)
    (marks : (before rest : List Deed) (c : Asked) (reply : List ℕ) (mark : Option ℕ) → deeds ≡ before ++ answers c reply mark ∷ rest → mark ≡ mark_in before)
    (heard : List Spoken) (heard_are : heard_in deeds ≡ map come_as heard) (readable : AreReadable heard)
    (took behind left : List Asked) (own over : List Spoken) (sent_are : sent_in deeds ≡ took ++ behind) (is_own : IsOwn (numbered 1 took) own left) (over_marked : AllByRecursion IsMarked over)
    (comes : IsFront heard (own ++ over)) (all_left : (over ≡ []) ⊎ (left ≡ [])) (few : length (sent_in deeds) < 10 ^ 64) where
  abbrev asked : List Asked
  asked = asked_in deeds

  none_answered : AllByRecursion IsNoAnswer deeds → TellsOwnFirst deeds took behind own over
  none_answered free =
      let same : sent_in deeds ≡ asked = free_same deeds free in
      let told : tells deeds ≡ passed asked heard =
      free_tells deeds owns asked [] deeds [] [] heard (sym (append-nil deeds)) (sym same ∙ sym (append-nil (sent_in deeds))) free heard_are readable in
      record {
        asked_behind = behind;
        split = sym same ∙ sent_are;
        without = without_same is_storable behind;
        target = passed asked over;
        none = λ none. ap (passed asked) none;
        marked = passed_marked asked over over_marked;
        front = (
          passed asked comes.0,
          sym (passed_more asked own over) ∙ ap (passed asked) comes.1 ∙ passed_more asked heard comes.0 ∙ ap (λ l. l ++ passed asked comes.0) (sym told),
        );
      }

  module _ (first more : List Deed) (c : Asked) (reply : List ℕ) (mark : Option ℕ) (are : deeds ≡ first ++ answers c reply mark ∷ more) (free : AllByRecursion IsNoAnswer first) where
    abbrev others : List Deed
    others = answers c reply mark ∷ more

    abbrev Parts : Type 0
    Parts = (first_heard : List Spoken) × (rest_heard : List Spoken) × (heard ≡ first_heard ++ rest_heard) × (heard_in first ≡ map come_as first_heard) × (heard_in others ≡ map come_as rest_heard)

    heard_parts : Parts
    heard_parts = map_parts come_as (heard_in first) (heard_in others) heard (sym (heard_append first others) ∙ ap heard_in (sym are) ∙ heard_are)

    abbrev first_heard : List Spoken
    first_heard = heard_parts.0

    readable_parts : AreReadable first_heard × AreReadable heard_parts.1
    readable_parts = all_first _ first_heard heard_parts.1 (subst AreReadable heard_parts.2 readable)

    some_mark : IsSome mark
    some_mark = (all_first AnswersMarked first others (subst (AllByRecursion AnswersMarked) are each_mark)).1.0

    -- a position was heard
    heard_some : IsFront first_heard own → ⊥
    heard_some front =
        let unmarked : AllByRecursion IsUnmarked first_heard = (all_first IsUnmarked first_heard front.0 (subst (AllByRecursion IsUnmarked) front.1 (own_unmarked (numbered 1 took) left own is_own))).0 in
        let none : mark ≡ None =
        marks first more c reply mark are ∙ ap (λ l. mark_heard l None) heard_parts.3 ∙ mark_same first_heard readable_parts.0 None ∙ unmarked_heard first_heard unmarked in
        no_mark mark none some_mark

    module _ (none_left : left ≡ []) (rest : List Spoken) (first_are : first_heard ≡ own ++ rest) (over_are : over ≡ rest ++ (heard_parts.1 ++ comes.0)) where
      sent_first : length took ≤ length (sent_in first)
      sent_first =
          let most = length (sent_in first) in
          let long : length (sent_in deeds) ≡ length (sent_in first) + length (sent_in others) = ap length (ap sent_in are ∙ sent_append first others) ∙ length-append (sent_in first) (sent_in others) in
          let whole : length (sent_in deeds) ≡ length took + length behind = ap length sent_are ∙ length-append took behind in
          let below = heard_below deeds owns most [] first others first_heard are (omega arith) heard_parts.3 readable_parts.0 in
          let own_below = (all_first (λ s. AnswersBelow (most + 1) s.message) own rest (subst (AllByRecursion (λ s. AnswersBelow (most + 1) s.message)) first_are below)).0 in
          let within : 1 + length took ≤ most + 1 =
          own_sent 1 most took own (subst (λ l. IsOwn (numbered 1 took) own l) none_left is_own) (omega arith) (omega arith) own_below (omega arith) in
          omega arith

      commands_parts : (between : List Asked) × (sent_in first ≡ took ++ between) × (behind ≡ between ++ sent_in others)
      commands_parts = split_first (sent_in first) (sent_in others) took behind (sym (sent_append first others) ∙ ap sent_in (sym are) ∙ sent_are) sent_first

      answers_behind : TellsOwnFirst deeds took behind own over
      answers_behind =
          let between = commands_parts.0 in
          let same : sent_in first ≡ asked_in first = free_same first free in
          let asked_are : asked ≡ sent_in first ++ asked_in others = ap asked_in are ∙ asked_append first others ∙ ap (λ cs. cs ++ asked_in others) (sym same) in
          let rest_storable = (all_first AnswersStorable first others (subst (AllByRecursion AnswersStorable) are storable)).1 in
          let rest_marks = (all_first AnswersMarked first others (subst (AllByRecursion AnswersMarked) are each_mark)).1 in
          let over_parts = all_first IsMarked rest (heard_parts.1 ++ comes.0) (subst (AllByRecursion IsMarked) over_are over_marked) in
          let rest_heard = (all_first IsMarked heard_parts.1 comes.0 over_parts.1).0 in
          let told_first : tells_from [] first ≡ passed asked first_heard =
          free_tells deeds owns asked [] first others (asked_in others) first_heard are asked_are free heard_parts.3 readable_parts.0 in
          let told : tells deeds ≡ (passed asked own ++ passed asked rest) ++ tells_from (sent_in first) others =
          ap (tells_from []) are ∙ tells_both [] first others
          ∙ ap (λ l. l ++ tells_from (sent_in first) others) (told_first ∙ ap (passed asked) first_are ∙ passed_more asked own rest) in
          record {
            asked_behind = between ++ asked_in others;
            split = asked_are ∙ ap (λ cs. cs ++ asked_in others) commands_parts.1 ∙ append_assoc took between (asked_in others);
            without = subst (λ cs. IsWithoutSome is_storable cs (between ++ asked_in others)) (sym commands_parts.2) (without_behind is_storable between (sent_in others) (asked_in others) (sent_without others rest_storable));
            target = passed asked rest ++ tells_from (sent_in first) others;
            none = λ none.
                absurd (heard_some ([], sym (first_are ∙ ap (λ l. own ++ l) (none_first rest (heard_parts.1 ++ comes.0) (sym over_are ∙ none)) ∙ append-nil own) ∙ sym (append-nil first_heard)));
            marked = all_append IsMarked (passed asked rest) (tells_from (sent_in first) others) (passed_marked asked rest over_parts.0) (tells_marked (sent_in first) others heard_parts.1 rest_marks heard_parts.4 rest_heard);
            front = ([], sym (append_assoc (passed asked own) (passed asked rest) (tells_from (sent_in first) others)) ∙ sym told ∙ sym (append-nil (tells deeds)));
          }
        where
          none_first : {A : Type 0} → (xs ys : List A) → xs ++ ys ≡ [] → xs ≡ []
          none_first [] ys none = refl
          none_first (x ∷ xs) ys none = absurd cc

    some_answered : TellsOwnFirst deeds took behind own over
    some_answered =
        let meets : first_heard ++ (heard_parts.1 ++ comes.0) ≡ own ++ over =
        sym (append_assoc first_heard heard_parts.1 comes.0) ∙ ap (λ l. l ++ comes.0) (sym heard_parts.2) ∙ sym comes.1 in
        ⊎_elim
        (λ front. absurd (heard_some front))
        (λ p. ⊎_elim
        (λ none. absurd (heard_some ([], sym (p.1 ∙ ap (λ l. own ++ l) (none_before p.0 (heard_parts.1 ++ comes.0) (sym p.2 ∙ none)) ∙ append-nil own) ∙ sym (append-nil first_heard))))
        (λ none. answers_behind none p.0 p.1 p.2)
        all_left)
        (fronts_meet first_heard (heard_parts.1 ++ comes.0) own over meets)
      where
        none_before : {A : Type 0} → (xs ys : List A) → xs ++ ys ≡ [] → xs ≡ []
        none_before [] ys none = refl
        none_before (x ∷ xs) ys none = absurd cc

  pub tells_own_first : TellsOwnFirst deeds took behind own over
  tells_own_first = let p = until_answer deeds in by_others p.first p.others p.are p.free p.then
    where
      by_others : (first others : List Deed) → deeds ≡ first ++ others → AllByRecursion IsNoAnswer first → AnswersFirst others → TellsOwnFirst deeds took behind own over
      by_others first [] are free then = none_answered (subst (AllByRecursion IsNoAnswer) (sym (are ∙ append-nil first)) free)
      by_others first (forwards c ∷ more) are free then = absurd then
      by_others first (answers c reply mark ∷ more) are free then = some_answered first more c reply mark are free
      by_others first (hears incoming ∷ more) are free then = absurd then

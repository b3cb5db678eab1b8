-- The rest of a way, and below it a value-add that is bound: it tells what comes from above, and what it answers from its store.
use Rattle.std.proofs.Common.{◌≡◌, ℕ, ◌+◌, ◌-◌, ◌^◌, ◌<◌, ◌≤◌, ◌⊎◌, inl, inr, ⊎_elim, true, false, List, [], ◌∷◌, ◌++◌, drop, length, map, take, Option, Some, None, refl, sym, ap, ◌∙◌, subst, arith, append_assoc, append-nil, length-append}
use Rattle.std.specs.Prelude.{IsSome}
use Rattle.std.specs.List.{AllByRecursion, Contains}
use Rattle.std.proofs.lemmas.List.{map-append}
use Rattle.tcf_message.specs.Message.{IsWellFormed}
use Rattle.channel_core.specs.Arrivals.{AreSpoken, Spoken, comes_as}
use Rattle.knowledge.specs.Facts.{IsPart, nothing}
use Rattle.knowledge.specs.Learning.{learned}
use Rattle.target_contexts.specs.declared.process.Image.{Image}
use Rattle.target_hub.specs.History.{IsLegal}
use Rattle.target_hub.specs.declared.input.Input.{Input}
use Rattle.value_node.specs.Asked.{Asked}
use Rattle.value_node.specs.Deeds.{Deed, answers, asked_in, forwards, hears, lessons_in, sent_in}
use Rattle.value_node.specs.OwnLaws.{IsBoundBy}
use Rattle.value_node.specs.OwnMessages.{BeginsWithHello, IsOwn}
use Rattle.value_node.specs.RelayLaws.{PassesAllOn}
use Rattle.value_node.specs.Runs.{above}
use Rattle.chain_route.specs.Carrying.{Made, end_above, past_of, value_of}
use Rattle.chain_told.specs.Told.{AreToldRightly, AreTrueAt, IsToldRightly, is_ended, is_stored, numbered, owed_at, owed_in}
use Rattle.chain_told.specs.TellsOn.{Begins, IsWithoutSome, TellsSo, tells}
use Rattle.chain_through.specs.Calling.{entering}
use Rattle.chain_through.specs.Through.{GoUp, IsMarked, KnowsTruth, content, is_storable_content}
use Rattle.chain_told.proofs.TheLaws.{value_add_tells_on}
use Rattle.value_node.proofs.TheLaws.{answers_rightly, forwards_in_order, knows_what_it_heard, passes_all_on}
use Rattle.chain_through.proofs.Above.{CallsUp, asked_written}
use Rattle.chain_through.proofs.Below.{SaysBelow, Took, begins_more}
use Rattle.chain_through.proofs.Doing.{AnswersStorable, content_numbered, each_deed, few_sent, without_content, without_front, without_then}
use Rattle.chain_through.proofs.Facts.{deeds_of}
use Rattle.chain_through.proofs.Found.{IsNumbered}
use Rattle.list_laws.specs.Fronts.{IsFront}
use Rattle.list_laws.proofs.Fronts.{front_whole, front_flat, front_more, front_same, front_then}
use Rattle.chain_through.proofs.Hearing.{kept_true, true_in}
use Rattle.chain_told.proofs.Numbered.{AreParts, length_numbered, numbered_again, numbered_append, numbered_parts, under}
use Rattle.chain_through.proofs.Owning.{IsPassed, all_answered, bound_further, own_passed}
use Rattle.chain_through.proofs.OwnTold.{none_from, owes_none, own_done, own_ended, own_learned, own_told, own_unmarked, unended}
use Rattle.chain_through.proofs.Renaming.{passed, passed_formed}
use Rattle.chain_through.proofs.Telling.{AnswersMarked, TellsOwnFirst, tells_own_first}
use Rattle.chain_through.proofs.ToldLists.{told_front, told_more}
use Rattle.chain_through.proofs.Unknowing.{nothing_stored}
use Rattle.chain_through.proofs.Queues.{entering_formed}
use Rattle.chain_through.proofs.Ways.{Way, WayBound, are_bound, takes_all}
use Rattle.list_laws.proofs.Lists.{take_drop}
use Rattle.chain_route.proofs.Adds.{run_of}
use Rattle.list_laws.proofs.Contained.{contains_cases}
use Rattle.value_node.proofs.OwnInOrder.{own_behind, own_then}
use Rattle.list_laws.proofs.AllLists.{all_append}
use Rattle.chain_route.specs.Taking.{AreBound, TakesAll, TakesAllOf}

-- ---- Lists

-- a place in one of two lists
place_in : {A : Type 0} → (xs ys before rest : List A) (s : A) → xs ++ ys ≡ before ++ s ∷ rest
    → ((more : List A) × (xs ≡ before ++ s ∷ more)) ⊎ ((first : List A) × (before ≡ xs ++ first) × (ys ≡ first ++ s ∷ rest))
place_in [] ys before rest s same = inr (before, refl, same)
place_in (x ∷ xs) ys [] rest s same = let whole : x ∷ (xs ++ ys) ≡ s ∷ rest = same in let one : x ≡ s = cc in inl (xs, ap (λ z. z ∷ xs) one)
place_in (x ∷ xs) ys (b ∷ before) rest s same =
    let whole : x ∷ (xs ++ ys) ≡ b ∷ (before ++ s ∷ rest) = same in
    let one : x ≡ b = cc in
    let tails : xs ++ ys ≡ before ++ s ∷ rest = cc in
    ⊎_elim
    (λ p. inl (p.0, ap (λ z. z ∷ xs) one ∙ ap (λ l. b ∷ l) p.1))
    (λ p. inr (p.0, ap (λ z. z ∷ before) (sym one) ∙ ap (λ l. x ∷ l) p.1, p.2))
    (place_in xs ys before rest s tails)

contains_numbered : (n : ℕ) (commands : List Asked) (c : Asked) → Contains (numbered n commands) c → IsNumbered n (length commands) c.token
contains_numbered n [] c among = let within : among.0 < 0 = among.1 in absurd (omega arith)
contains_numbered n (d ∷ commands) c among = ⊎_elim
    (λ one. record { number = n; is = ap (λ x. x.token) (sym one); from = omega arith; below = omega arith })
    (λ more.
    let r = contains_numbered (n + 1) commands c more in
    let from : n + 1 ≤ r.number = r.from in
    let below : r.number < (n + 1) + length commands = r.below in
    record { number = r.number; is = r.is; from = omega arith; below = omega arith })
    (contains_cases (under n d) (numbered (n + 1) commands) c among)

some_mark : (mark : Option ℕ) → (mark ≡ None → ⊥) → IsSome mark
some_mark None not_none = absurd (not_none refl)
some_mark (Some position) not_none = refl

-- ---- A value-add

module _ (images : List Image) (history : List Input) (legal : IsLegal images history) (m : Made) (made : List Made) (commands given rest : List Asked) (said : List Spoken) (count : ℕ)
    (few : length commands < 2 ^ 64) (took : Took (past_of m) commands count) (given_are : given ≡ took.until ++ (took.since ++ rest)) (given_few : length given < 2 ^ 64) (up : CallsUp m)
    (w : Way images history (sent_in (deeds_of m)) (end_above (past_of m)) up.calls made said) (down : List Spoken) (b : SaysBelow m (entering w.down) down) (bound : (past_of m).is_bound ≡ true) where
  abbrev pub deeds : List Deed
  deeds = deeds_of m

  -- so many commands it answered itself, and so many were answered above it
  abbrev pub own_count : ℕ
  own_count = length took.until

  abbrev pub above_count : ℕ
  above_count = length w.took

  abbrev pub since : List Asked
  since = numbered (own_count + 1) took.since

  asked_are : asked_in deeds ≡ since
  asked_are = sym (forwards_in_order m.peer m.calls).asked ∙ took.since_are

  -- ---- How many they are

  commands_many : length commands ≡ own_count + (length took.since + length took.more)
  commands_many = ap length took.parts ∙ length-append took.until (took.since ++ took.more) ∙ ap (λ n. own_count + n) (length-append took.since took.more)

  asked_many : length (asked_in deeds) ≡ length took.since
  asked_many = ap length asked_are ∙ length_numbered (own_count + 1) took.since

  sent_small : length (sent_in deeds) < 10 ^ 64
  sent_small = let one = few_sent deeds in let two = asked_many in let three = commands_many in omega arith

  -- ---- What it did

  passes : PassesAllOn (run_of m) (deeds_of m)
  passes = passes_all_on m.peer m.calls

  -- what comes to it is told rightly
  heard_told : AreToldRightly images history (numbered 1 (sent_in deeds)) b.heard
  heard_told =
      let sent = sent_in deeds in
      let n = length (entering up.calls.spoken) - 1 in
      let parts : take n sent ++ drop n sent ≡ sent = take_drop n sent in
      let small : length (take n sent ++ drop n sent) < 10 ^ 64 = subst (λ cs. length cs < 10 ^ 64) (sym parts) sent_small in
      told_front images history (numbered 1 sent) b.heard (entering w.down) b.front
      (subst (λ cs. AreToldRightly images history (numbered 1 cs) (entering w.down)) parts (told_more images history (take n sent) (drop n sent) small (entering w.down) w.told))

  -- where it took all that was said above it, it heard all that comes to it
  heard_all : TakesAllOf (above (past_of m)) made said → b.heard ≡ entering w.down
  heard_all takes =
      let all : TakesAll (above (past_of m)) (entering w.down) = takes_all (above (past_of m)) made said (entering w.down) (entering_formed w.down w.formed) w.says_all takes in
      front_whole comes_as b.heard (entering w.down) b.front (sym b.are ∙ passes.heard ∙ all)

  -- an answer from the store has a position, since without one nothing is known
  marked_place : (front back : List Deed) (d : Deed) → deeds ≡ front ++ d ∷ back → AnswersMarked d
  marked_place front back (forwards c) are = tt
  marked_place front back (hears incoming) are = tt
  marked_place front back (answers c reply mark) are = some_mark mark (λ none.
      let r = answers_rightly m.peer m.calls front back c reply mark are in
      let true_there = true_in deeds passes.own images history front (answers c reply mark ∷ back) b.heard are b.are b.readable heard_told in
      let nothing_there : IsPart (learned (lessons_in front)) nothing = subst (λ k. AreTrueAt images history k (learned (lessons_in front))) (sym r.marked ∙ none) true_there in
      nothing_stored (lessons_in front) r.store r.command reply r.store_of nothing_there r.answer)

  storable_place : (front back : List Deed) (d : Deed) → deeds ≡ front ++ d ∷ back → AnswersStorable d
  storable_place front back (forwards c) are = tt
  storable_place front back (hears incoming) are = tt
  storable_place front back (answers c reply mark) are = let r = answers_rightly m.peer m.calls front back c reply mark are in ap is_stored r.read ∙ r.storable

  -- ---- What it says itself answers the commands until it was bound

  own_until : IsOwn (numbered 1 took.until) b.own.own []
  own_until =
      let is : IsOwn (numbered 1 took.until) b.own.own b.own.left = subst (λ cs. IsOwn cs b.own.own b.own.left) took.until_are b.own.is_own in
      let by : IsBoundBy b.own.own (numbered 1 took.until) = subst (λ cs. IsBoundBy b.own.own cs) took.until_are (b.own.bound_by bound) in
      subst (λ cs. IsOwn (numbered 1 took.until) b.own.own cs) (all_answered 1 took.until b.own.left b.own.own (run_of m).value.relay.redirect by b.own.left_are is) is

  -- ---- It tells on what it was told

  module _ (whole further : List Asked) (are : whole ≡ took.until ++ (took.since ++ further)) (small : length whole < 2 ^ 64) where
    whole_many : length whole ≡ own_count + (length took.since + length further)
    whole_many = ap length are ∙ length-append took.until (took.since ++ further) ∙ ap (λ n. own_count + n) (length-append took.since further)

    abbrev behind_own : List Asked
    behind_own = numbered (1 + own_count) (took.since ++ further)

    whole_parts : numbered 1 whole ≡ numbered 1 took.until ++ behind_own
    whole_parts = ap (λ cs. numbered 1 cs) are ∙ numbered_append 1 took.until (took.since ++ further)

    own_whole : IsOwn (numbered 1 whole) b.own.own behind_own
    own_whole = subst (λ cs. IsOwn cs b.own.own behind_own) (sym whole_parts) (own_behind (numbered 1 took.until) [] behind_own b.own.own own_until)

    unended_since : (c : Asked) → Contains (asked_in deeds) c → is_ended c.token b.own.own ≡ false
    unended_since c among =
        let n = contains_numbered (own_count + 1) took.since c (subst (λ cs. Contains cs c) asked_are among) in
        let d = own_done 1 took.until [] b.own.own own_until in
        let many : own_count ≡ length d.done + length d.behind = ap length d.are ∙ length-append d.done d.behind in
        let from : own_count + 1 ≤ n.number = n.from in
        let below : n.number < (own_count + 1) + length took.since = n.below in
        let all_many = whole_many in
        ap (λ t. is_ended t b.own.own) n.is ∙ unended (1 + length d.done) n.number b.own.own (omega arith) (omega arith) d.below

    begins_so : Begins whole b.own.own deeds
    begins_so =
        let place : 1 + own_count ≡ own_count + 1 = omega arith in
        let small_enough : length whole < 10 ^ 64 = omega arith in
        let unmarked = own_unmarked (numbered 1 took.until) [] b.own.own own_until in
        record {
          few = small_enough;
          first = numbered 1 took.until;
          later = numbered ((1 + own_count) + length took.since) further;
          parts =
              whole_parts ∙ ap (λ cs. numbered 1 took.until ++ cs) (numbered_append (1 + own_count) took.since further)
              ∙ ap (λ cs. numbered 1 took.until ++ (cs ++ numbered ((1 + own_count) + length took.since) further)) (ap (λ k. numbered k took.since) place ∙ sym asked_are);
          ended = λ c among. own_ended (numbered 1 took.until) b.own.own c own_until among;
          unended = unended_since;
          unmarked = none_from b.own.own unmarked;
          owes_nothing = owes_none (numbered 1 whole) b.own.own unmarked;
          teaches_nothing = own_learned whole small_enough behind_own b.own.own own_whole;
        }

    tells_so : TellsSo images history whole b.own.own deeds b.heard
    tells_so =
        value_add_tells_on images history legal whole b.own.own deeds b.heard begins_so (record { own = passes.own; rightly = answers_rightly m.peer m.calls }) (record { are = b.are; readable = b.readable }) sent_small heard_told

    told_whole : AreToldRightly images history (numbered 1 whole) down
    told_whole before more s split = ⊎_elim
        (λ p. own_told whole (omega arith) images history behind_own b.own.own own_whole before p.0 s p.1)
        (λ p. subst (λ l. IsToldRightly images history (numbered 1 whole) l s) (sym p.1) (tells_so.told p.0 more s p.2))
        (place_in b.own.own (tells deeds) before more s (sym b.says ∙ split))

    owed_whole : owed_in (numbered 1 whole) down ≡ owed_in (numbered 1 (sent_in deeds)) b.heard
    owed_whole = ap (owed_in (numbered 1 whole)) b.says ∙ tells_so.owed

  pub told_down : AreToldRightly images history (numbered 1 given) down
  told_down = told_whole given rest given_are given_few

  -- ---- What its store knows is true

  pub knows_truth : KnowsTruth images history (value_of m)
  knows_truth is =
      let k = knows_what_it_heard m.peer m.calls in
      let store = (run_of m).value.relay.store in
      let there = true_in deeds passes.own images history deeds [] b.heard (sym (append-nil deeds)) b.are b.readable heard_told in
      kept_true images history store.mark (lessons_in deeds) store (k.known is) (subst (λ mark. AreTrueAt images history mark (learned (lessons_in deeds))) (sym (k.marked is)) there)

  -- ---- What the value-adds above say themselves comes first

  first_own : (over : List Spoken) → AllByRecursion IsMarked over → IsFront (entering w.down) (w.own ++ over) → (over ≡ []) ⊎ (w.left ≡ []) → TellsOwnFirst deeds w.took w.behind w.own over
  first_own over marked front all_left =
      tells_own_first deeds passes.own (each_deed AnswersStorable [] deeds deeds refl storable_place) (each_deed AnswersMarked [] deeds deeds refl marked_place)
      (λ before more c reply mark are. (answers_rightly m.peer m.calls before more c reply mark are).marked) b.heard b.are b.readable w.took w.behind w.left w.own over w.split w.is_own marked
      (front_then b.heard (entering w.down) (w.own ++ over) b.front front) all_left sent_small

  pub record ComesFirst : Type 0 where
    pub over : List Spoken
    pub first : TellsOwnFirst deeds w.took w.behind w.own over
    pub none : (AreBound made → ⊥) → over ≡ []

  pub comes_first : ComesFirst
  comes_first = ⊎_elim
      (λ all. let g = w.bound all in record {
        over = g.comes_down.target;
        first = first_own g.comes_down.target g.comes_down.marked g.comes_down.front (inr g.all);
        none = λ none. absurd (none all);
      })
      (λ none. record {
        over = [];
        first = first_own [] tt (front_same (entering w.down) w.own (w.own ++ []) (sym (append-nil w.own)) (w.unbound none).comes_down) (inl refl);
        none = λ same. refl;
      })
      (are_bound made)

  abbrev pub t : TellsOwnFirst deeds w.took w.behind w.own comes_first.over
  t = comes_first.first

  -- ---- The parts of the commands

  pub parts : AreParts (own_count + 1) w.took t.asked_behind took.since
  parts = numbered_parts (own_count + 1) w.took t.asked_behind took.since (sym asked_are ∙ t.split)

  abbrev pub answered : List Asked
  answered = took.until ++ parts.front

  abbrev pub later : List Asked
  later = parts.behind ++ took.more

  pub split : commands ≡ answered ++ later
  split =
      took.parts ∙ ap (λ cs. took.until ++ (cs ++ took.more)) parts.are ∙ ap (λ cs. took.until ++ cs) (append_assoc parts.front parts.behind took.more)
      ∙ sym (append_assoc took.until parts.front later)

  took_many : length parts.front ≡ above_count
  took_many = sym (ap length parts.first ∙ length_numbered (own_count + 1) parts.front)

  parts_within : length parts.front ≤ length took.since
  parts_within = let both : length took.since ≡ length parts.front + length parts.behind = ap length parts.are ∙ length-append parts.front parts.behind in omega arith

  parts_small : length parts.front < 10 ^ 64
  parts_small = let one = parts_within in let two = commands_many in omega arith

  -- ---- Its own messages, and those of the value-adds above

  abbrev pub own : List Spoken
  own = b.own.own ++ passed since w.own

  pub own_since : IsPassed (own_count + 1) parts.front (passed since w.own) w.left
  own_since =
      let same : numbered 1 w.took ≡ numbered 1 parts.front = ap (λ cs. numbered 1 cs) parts.first ∙ numbered_again 1 (own_count + 1) parts.front in
      own_passed own_count took.since parts.front w.left w.own parts_within parts_small (subst (λ cs. IsOwn cs w.own w.left) same w.is_own)

  pub is_own : IsOwn (numbered 1 answered) own own_since.left_now
  is_own =
      let place : 1 + own_count ≡ own_count + 1 = omega arith in
      let next = numbered (own_count + 1) parts.front in
      let are : numbered 1 answered ≡ numbered 1 took.until ++ next = numbered_append 1 took.until parts.front ∙ ap (λ k. numbered 1 took.until ++ numbered k parts.front) place in
      subst (λ cs. IsOwn cs own own_since.left_now) (sym are)
      (own_then (numbered 1 took.until ++ next) next own_since.left_now b.own.own (passed since w.own) (own_behind (numbered 1 took.until) [] next b.own.own own_until) own_since.is_own)

  pub own_formed : AreSpoken own
  own_formed =
      all_append (λ s. IsWellFormed s.message) b.own.own (passed since w.own) b.own_formed
      (subst (λ cs. AreSpoken (passed cs w.own)) asked_are (passed_formed (asked_in deeds) w.own (asked_written m) w.own_formed))

  pub begins : BeginsWithHello own
  begins = begins_more b.own.own (passed since w.own) b.greets

  pub down_begins : BeginsWithHello down
  down_begins = subst BeginsWithHello (sym b.says) (begins_more b.own.own (tells deeds) b.greets)

  -- ---- What comes down

  down_front : IsFront down (own ++ t.target)
  down_front =
      let target_are : passed since w.own ++ t.target ≡ tells deeds ++ t.front.0 = ap (λ cs. passed cs w.own ++ t.target) (sym asked_are) ∙ t.front.1 in (
        t.front.0,
        append_assoc b.own.own (passed since w.own) t.target ∙ ap (λ l. b.own.own ++ l) target_are ∙ sym (append_assoc b.own.own (tells deeds) t.front.0) ∙ ap (λ l. l ++ t.front.0) (sym b.says),
      )

  abbrev Goes : Type 0
  Goes = WayBound (sent_in deeds) made w.took w.behind w.left w.top w.own said (entering w.down)

  bound_by : (made : List Made) → WayBound (sent_in deeds) made w.took w.behind w.left w.top w.own said (entering w.down) → IsBoundBy own (numbered 1 answered)
  bound_by [] g =
      let alone = g.alone refl in
      let by : IsBoundBy b.own.own (numbered 1 took.until) = subst (λ cs. IsBoundBy b.own.own cs) took.until_are (b.own.bound_by bound) in
      let none : parts.front ≡ [] = nothing_there parts.front (took_many ∙ ap length alone.0) in
      let own_is : own ≡ b.own.own = ap (λ xs. b.own.own ++ passed since xs) alone.1 ∙ append-nil b.own.own in
      let answered_is : answered ≡ took.until = ap (λ cs. took.until ++ cs) none ∙ append-nil took.until in
      subst (λ xs. IsBoundBy xs (numbered 1 answered)) (sym own_is) (subst (λ cs. IsBoundBy b.own.own (numbered 1 cs)) (sym answered_is) by)
    where
      nothing_there : (xs : List Asked) → length xs ≡ 0 → xs ≡ []
      nothing_there [] same = refl
      nothing_there (x ∷ xs) same = absurd (omega arith)
  bound_by (n ∷ made) g =
      let by : IsBoundBy w.own (numbered 1 w.took) = g.bound_by (λ none. absurd cc) in
      let same : numbered 1 w.took ≡ numbered 1 parts.front = ap (λ cs. numbered 1 cs) parts.first ∙ numbered_again 1 (own_count + 1) parts.front in
      bound_further own_count took.until parts.front took.since b.own.own w.own refl parts_within parts_small (subst (λ cs. IsBoundBy w.own cs) same by)

  -- of the commands behind those that were answered before it was bound all go up but some storable ones
  go_up : GoUp w.behind w.top → GoUp later w.top
  go_up g =
      let behind_is : map content t.asked_behind ≡ map content parts.behind = ap (λ cs. map content cs) parts.others ∙ content_numbered ((own_count + 1) + length parts.front) parts.behind in
      let here = without_content w.behind t.asked_behind t.without in
      let f = without_front is_storable_content g.asked g.front.0 (map content t.asked_behind) (subst (λ cs. IsWithoutSome is_storable_content cs (map content t.asked_behind)) g.front.1 here) in
      let first : IsFront f.all (map content parts.behind ++ map content took.more) =
      front_more f.all (map content parts.behind) (map content took.more) (front_same f.all (map content t.asked_behind) (map content parts.behind) behind_is f.is_front) in
      record {
        asked = f.all;
        front = front_same f.all (map content parts.behind ++ map content took.more) (map content later) (sym (map-append content parts.behind took.more)) first;
        sent = without_then is_storable_content (map content w.top) g.asked f.all g.sent f.without;
      }

  pub goes_through : Goes → WayBound commands (m ∷ made) answered later own_since.left_now w.top own said down
  goes_through g =
      let sent = numbered 1 (sent_in deeds) in
      let heard_owed : IsFront (owed_in sent b.heard) (owed_in sent (entering w.down)) = front_flat (λ s. owed_at sent s.message s.mark) b.heard (entering w.down) b.front in
      let owed : IsFront (owed_in sent b.heard) (owed_in (numbered 1 w.top) said) = front_then (owed_in sent b.heard) (owed_in sent (entering w.down)) (owed_in (numbered 1 w.top) said) heard_owed g.owed in
      record {
        all = own_since.all g.all;
        goes_up = go_up g.goes_up;
        comes_down = record { target = t.target; marked = t.marked; front = down_front };
        owed = subst (λ l. IsFront l (owed_in (numbered 1 w.top) said)) (sym (owed_whole commands took.more took.parts few)) owed;
        all_owed = λ takes. owed_whole commands took.more took.parts few ∙ ap (owed_in sent) (heard_all takes.0) ∙ g.all_owed takes.1;
        alone = λ none. absurd cc;
        bound_by = λ some. bound_by made g;
      }

  -- where one above isn't bound
  pub stops_through : (AreBound made → ⊥) → IsFront down own
  stops_through none =
      let nothing_more : t.target ≡ [] = t.none (comes_first.none none) in
      front_same down (own ++ t.target) own (ap (λ l. own ++ l) nothing_more ∙ append-nil own) down_front

-- Each deed of a value-add is crossings that are as they must be, behind those of the deeds before it.
use Rattle.std.proofs.Common.{◌≡◌, ℕ, zero, suc, ◌+◌, ◌-◌, ◌^◌, ◌<◌, ◌≤◌, true, false, true≢false, ◌||◌, List, [], ◌∷◌, ◌++◌, length, map, slice_get, Option, Some, None, Ok, is_some, refl, sym, ap, ap₂, ◌∙◌, subst, arith, append_assoc, append-nil, length-append}
use Rattle.std.specs.Prelude.{decimal, filter, option_and_then}
use Rattle.std.specs.List.{AllByRecursion, Contains, flat_map, list_any}
use Rattle.std.proofs.lemmas.List.{map-append}
use Rattle.std.proofs.lemmas.List.Concat.{flat_map-append}
use Rattle.std.proofs.lemmas.List.Folds.{list_any-append}
use Rattle.std.proofs.lemmas.List.Elements.{Contains-append_left, Contains-append_right}
use Rattle.std.proofs.Math.Bool.{or-false}
use Rattle.channel_core.specs.Arrivals.{Spoken, enters}
use Rattle.channel_core.specs.Wire.{said_by, said_of}
use Rattle.channel_core.specs.declared.held.Incoming.{Incoming}
use Rattle.knowledge.specs.Facts.{Knows}
use Rattle.list_laws.specs.Fronts.{IsFront}
use Rattle.value_store.specs.Taken.{AreTaken}
use Rattle.knowledge.specs.Learning.{learned}
use Rattle.tcf_message.specs.Message.{MessageValue, command, event, final, flow, not_known, progress, reading}
use Rattle.tcf_values.specs.Changing.{changes}
use Rattle.tcf_values.specs.Storable.{stores}
use Rattle.tcf_values.specs.declared.command.Command.{Command}
use Rattle.tcf_values.specs.declared.command.Command.TheVariants.{GetContext, GetState, BpProperties, BpGetStatus, MemGet, RegGet, RegGetm}
use Rattle.value_node.specs.Asked.{Asked}
use Rattle.value_node.specs.Barriers.{is_barrier}
use Rattle.value_node.specs.Deeds.{Deed, answers as answers_it, asked_in as commands_in, command_asked, ends_with, forwards as forwards_it, heard_in as incoming_in, hears as hears_it, is_ended_in, lessons_in, mark_after, mark_in, sent_in as forwarded_by_deeds, sent_under, taught_in}
use Rattle.value_node.specs.RelayLaws.{IsAnsweredRightly, IsOfItsCommand, IsOpen, passed_in as passed_as, token_below}
use Rattle.value_node.specs.Store.{lesson_of}
use Rattle.chain_told.specs.TellsOn.{AreDeeds}
use Rattle.chain_told.specs.Told.{bars, command_under, goes_through, is_ended, is_storable, is_stored, lesson, lessons, mark_of, numbered}
use Rattle.chain_told.specs.Told as told
use Rattle.relay_laws.specs.Relay.{ArePassedAs, Crossing, ForwardsInOrder, HaveOwnTokens, IsAscendingFrom, IsCommandOf, IsFinished, IsPassedAs, IsStoredAnswer, IsUnder, PassesAllOn, answered_by, answered_in, answers, asked_by, asked_in, asks, bare, facts_told, forwarded_by, forwarded_in, forwards, heard_by, heard_in, hears, passed_by, passed_in, passes, sent_in, taught_above}
use Rattle.relay_laws.specs.ValueTraffic.{crossing_heard}
use Rattle.chain_told.proofs.Doing.{asked_append, ended_more, heard_append, lessons_told, mark_more, sent_append}
use Rattle.chain_told.proofs.Doing as doing
use Rattle.chain_told.proofs.Numbered.{under}
use Rattle.chain_told.proofs.Splits.{get_split, split_at}
use Rattle.chain_told.proofs.Tokens.{below_at, under_at}
use Rattle.chain_told.proofs.Tokens as tokens
use Rattle.value_node.proofs.DeedLists.{mark_both}
use Rattle.relay_laws.proofs.Moments.{AreGood, IsGood}
use Rattle.relay_laws.proofs.Tokens.{AreFound, IsFound, are_found_more, get_more, lessons_more}
use Rattle.relay_laws.proofs.Value.Readable.{IsWhole}
use Rattle.relay_laws.proofs.Value.Rows.{IsStorableDeed, WasAsked, asked_at, numbered_own, rows_answer, rows_ascend, rows_below, rows_forward, rows_from, rows_hear, rows_own, rows_sent, rows_through, sent_at, storable_deeds, was_sent, was_stored}
use Rattle.relay_laws.proofs.Value.Telling.{are_taken, stored_tells}
use Rattle.list_laws.proofs.AllLists.{all_contains, all_left, all_push, all_then}
use Rattle.list_laws.proofs.Contained.{contains_first}
use Rattle.list_laws.proofs.Fronts.{front_filter, front_map}

-- ---- Commands

-- a storable command is no barrier
stores_unchanging : (c : Command) → stores c ≡ true → changes c ≡ false
stores_unchanging (GetContext id) is = refl
stores_unchanging (GetState id) is = refl
stores_unchanging (BpProperties id) is = refl
stores_unchanging (BpGetStatus id) is = refl
stores_unchanging (MemGet id addr word size mode) is = refl
stores_unchanging (RegGet id) is = refl
stores_unchanging (RegGetm list) is = refl
stores_unchanging _ is = cc

unbarring : (what : Option Command) → is_stored what ≡ true → is_barrier what ≡ false
unbarring None is = absurd (true≢false (sym is))
unbarring (Some c) is = stores_unchanging c is

get_contains : {A : Type 0} → (xs : List A) (i : ℕ) (x : A) → slice_get xs i ≡ Some x → Contains xs x
get_contains [] i x is = absurd cc
get_contains (y ∷ xs) zero x is = let same : y ≡ x = cc in subst (λ z. Contains (y ∷ xs) z) same (contains_first y xs)
get_contains (y ∷ xs) (suc i) x is = Contains-append_right (y ∷ []) xs x (get_contains xs i x is)

get_less : {A : Type 0} → (xs ys : List A) (i : ℕ) (x : A) → i < length xs → slice_get (xs ++ ys) i ≡ Some x → slice_get xs i ≡ Some x
get_less [] ys i x less is = absurd (omega (arith, less))
get_less (y ∷ xs) ys zero x less is = is
get_less (y ∷ xs) ys (suc i) x less is = get_less xs ys i x (omega (arith, less)) is

zero_plus : (k : ℕ) → 0 + k ≡ k
zero_plus k = omega arith

none_numbered : (numbers : List ℕ) (k : ℕ) → AllByRecursion (λ j. j < k) numbers → Contains numbers k → ⊥
none_numbered numbers k all there = let less : k < k = all_contains (λ j. j < k) numbers k all there in omega (arith, less)

-- ---- More crossings

under_more : (done xs : List Crossing) (token : List ℕ) (c : Asked) → IsUnder done token c → IsUnder (done ++ xs) token c
under_more done xs token c u = record {
  number = u.number;
  above = u.above;
  sent = subst (λ rows. Contains rows (u.number, u.above)) (sym (flat_map-append forwarded_by done xs)) (Contains-append_left (forwarded_in done) (forwarded_in xs) (u.number, u.above) u.sent);
  under = u.under;
  asked = ap (λ cs. slice_get cs u.number) (flat_map-append asked_by done xs) ∙ get_more (asked_in done) (asked_in xs) u.number c u.asked;
}

passed_more : (done xs : List Crossing) (above below : MessageValue) → IsPassedAs done above below → IsPassedAs (done ++ xs) above below
passed_more done xs (command token service name body) below is = is
passed_more done xs (final token body) below is = (is.0, under_more done xs token is.0 is.1, is.2)
passed_more done xs (progress token body) below is = (is.0, under_more done xs token is.0 is.1, is.2)
passed_more done xs (not_known token) below is = (is.0, under_more done xs token is.0 is.1, is.2)
passed_more done xs (event service name body) below is = is
passed_more done xs (flow level) below is = is

all_passed_more : (done xs : List Crossing) (above below : List Spoken) → ArePassedAs done above below → ArePassedAs (done ++ xs) above below
all_passed_more done xs [] [] are = tt
all_passed_more done xs [] (s ∷ below) are = are
all_passed_more done xs (h ∷ above) [] are = are
all_passed_more done xs (h ∷ above) (s ∷ below) are = (passed_more done xs h.message s.message are.0, are.1, all_passed_more done xs above below are.2)

passed_push : (done : List Crossing) (above below : List Spoken) (h s : Spoken) → ArePassedAs done above below → IsPassedAs done h.message s.message → s.mark ≡ h.mark
    → ArePassedAs done (above ++ h ∷ []) (below ++ s ∷ [])
passed_push done [] [] h s are is mark = (is, mark, tt)
passed_push done [] (t ∷ below) h s are is mark = absurd are
passed_push done (g ∷ above) [] h s are is mark = absurd are
passed_push done (g ∷ above) (t ∷ below) h s are is mark = (are.0, are.1, passed_push done above below h s are.2 is mark)

all_kept : (done xs : List Crossing) → heard_in xs ≡ [] → passed_in xs ≡ [] → PassesAllOn done → PassesAllOn (done ++ xs)
all_kept done xs heard passed all =
    let heard_same : heard_in (done ++ xs) ≡ heard_in done = flat_map-append heard_by done xs ∙ ap (λ hs. heard_in done ++ hs) heard ∙ append-nil (heard_in done) in
    let passed_same : passed_in (done ++ xs) ≡ passed_in done = flat_map-append passed_by done xs ∙ ap (λ ss. passed_in done ++ ss) passed ∙ append-nil (passed_in done) in
    subst (λ hs. ArePassedAs (done ++ xs) hs (passed_in (done ++ xs))) (sym heard_same)
    (subst (λ ss. ArePassedAs (done ++ xs) (heard_in done) ss) (sym passed_same) (all_passed_more done xs (heard_in done) (passed_in done) all))

pub kept_by : {A : Type 0} → (f : Crossing → List A) (done xs : List Crossing) → flat_map f xs ≡ [] → flat_map f (done ++ xs) ≡ flat_map f done
kept_by f done xs none = flat_map-append f done xs ∙ ap (λ ys. flat_map f done ++ ys) none ∙ append-nil (flat_map f done)

-- ---- What stands behind some deeds

pub record At (behind : List Deed) (done : List Crossing) : Type 0 where
  pub asked : asked_in done ≡ commands_in behind
  pub rows : forwarded_in done ≡ rows_from 0 1 behind
  pub all : PassesAllOn done
  pub answered : AllByRecursion (λ k. k < length (commands_in behind)) (answered_in done)
  pub found : AreFound (sent_in done) (heard_in done)
  pub taught : taught_above done ≡ lessons_in behind
  pub marked : mark_of (heard_in done) ≡ mark_in behind
  pub ended : (n : ℕ) → is_ended (decimal n) (heard_in done) ≡ is_ended_in n behind

pub at_first : At [] []
at_first = record { asked = refl; rows = refl; all = tt; answered = tt; found = tt; taught = refl; marked = refl; ended = λ n. refl }

-- these crossings are good behind those, and then more deeds stand there
pub record Goes (behind : List Deed) (done xs : List Crossing) : Type 0 where
  pub good : AreGood done xs
  pub at : At behind (done ++ xs)

module _ (deeds : List Deed) (right : AreDeeds deeds) (few : length (forwarded_by_deeds deeds) < 10 ^ 64) where
  few_in : (behind left : List Deed) → deeds ≡ behind ++ left → length (forwarded_by_deeds behind) < 10 ^ 64
  few_in behind left whole =
      let many : length (forwarded_by_deeds deeds) ≡ length (forwarded_by_deeds behind) + length (forwarded_by_deeds left) =
      ap length (ap forwarded_by_deeds whole ∙ sent_append behind left) ∙ length-append (forwarded_by_deeds behind) (forwarded_by_deeds left) in omega arith

  storable_in : (behind left : List Deed) → deeds ≡ behind ++ left → AllByRecursion IsStorableDeed behind
  storable_in behind left whole = all_left IsStorableDeed behind left (subst (AllByRecursion IsStorableDeed) whole all_storable)
    where
      all_storable : AllByRecursion IsStorableDeed deeds
      all_storable = storable_deeds [] deeds right.rightly

  -- the commands that were sent above are in order, where perhaps one more was asked
  pub order_of : (done : List Crossing) (behind left : List Deed) (more : List Asked) → deeds ≡ behind ++ left → asked_in done ≡ commands_in behind ++ more → forwarded_in done ≡ rows_from 0 1 behind
      → ForwardsInOrder done
  order_of done behind left more whole asked rows =
      let sent_is : sent_in done ≡ numbered 1 (forwarded_by_deeds behind) = ap (map (λ r. r.1)) rows ∙ rows_sent 0 1 behind in
      let same : map bare (filter goes_through (sent_in done)) ≡ map bare (filter goes_through (commands_in behind)) =
      ap (λ cs. map bare (filter goes_through cs)) sent_is ∙ rows_through 1 behind (storable_in behind left whole) in
      let front = front_map bare (filter goes_through (commands_in behind)) (filter goes_through (commands_in behind ++ more))
      (front_filter goes_through (commands_in behind) (commands_in behind ++ more) (more, refl)) in
      record {
        order = subst (λ rs. IsAscendingFrom 0 (map (λ r. r.0) rs)) (sym rows) (rows_ascend 0 0 1 behind (omega arith));
        own = subst (λ cs. AllByRecursion (IsCommandOf cs) (forwarded_in done)) (sym asked) (subst (AllByRecursion (IsCommandOf (commands_in behind ++ more))) (sym rows)
            (all_then (IsCommandOf (commands_in behind)) (IsCommandOf (commands_in behind ++ more))
            (λ r own. (own.0, get_more (commands_in behind) more r.0 own.0 own.1, own.2)) (rows_from 0 1 behind) (rows_own [] 1 behind)));
        tokens = subst HaveOwnTokens (sym sent_is) (numbered_own (forwarded_by_deeds behind) (few_in behind left whole));
        through = subst (λ cs. IsFront cs (map bare (filter goes_through (asked_in done)))) (sym same)
            (subst (λ cs. IsFront (map bare (filter goes_through (commands_in behind))) (map bare (filter goes_through cs))) (sym asked) front);
      }

  -- ---- A command from below

  module _ (behind left : List Deed) (done : List Crossing) (c : Asked) (at : At behind done) where
    abbrev n : ℕ
    n = length (commands_in behind)

    abbrev asking : List Crossing
    asking = done ++ asks c ∷ []

    asked_then : asked_in asking ≡ commands_in behind ++ c ∷ []
    asked_then = flat_map-append asked_by done (asks c ∷ []) ∙ ap (λ cs. cs ++ c ∷ []) at.asked

    asked_good : (rest : List Deed) → deeds ≡ behind ++ rest → IsGood done (asks c)
    asked_good rest whole = record {
      order = order_of asking behind rest (c ∷ []) whole asked_then (kept_by forwarded_by done (asks c ∷ []) refl ∙ at.rows);
      all = λ taken. at.all;
      now = λ tells. absurd (true≢false (sym tells));
      apart = tt;
    }

    further : AllByRecursion (λ k. k < length (commands_in behind)) (answered_in done) → AllByRecursion (λ k. k < length (commands_in behind) + 1) (answered_in done)
    further all = all_then (λ k. k < length (commands_in behind)) (λ k. k < length (commands_in behind) + 1) (λ k less. omega (arith, less)) (answered_in done) all

    -- it is sent above
    module _ (whole : deeds ≡ behind ++ forwards_it c ∷ left) where
      abbrev sent : Asked
      sent = under (1 + length (forwarded_by_deeds behind)) c

      abbrev xs : List Crossing
      xs = asks c ∷ forwards n sent ∷ []

      whole_next : deeds ≡ (behind ++ forwards_it c ∷ []) ++ left
      whole_next = whole ∙ sym (append_assoc behind (forwards_it c ∷ []) left)

      next_asked : asked_in (done ++ xs) ≡ commands_in (behind ++ forwards_it c ∷ [])
      next_asked = flat_map-append asked_by done xs ∙ ap (λ cs. cs ++ c ∷ []) at.asked ∙ sym (asked_append behind (forwards_it c ∷ []))

      next_rows : forwarded_in (done ++ xs) ≡ rows_from 0 1 (behind ++ forwards_it c ∷ [])
      next_rows = flat_map-append forwarded_by done xs ∙ ap (λ rs. rs ++ (n, sent) ∷ []) at.rows ∙ sym (rows_forward 0 1 behind c ∙ ap (λ m. rows_from 0 1 behind ++ (m, sent) ∷ []) (zero_plus n))

      sent_next : sent_in (done ++ xs) ≡ sent_in done ++ sent ∷ []
      sent_next = ap (map (λ r. r.1)) (flat_map-append forwarded_by done xs) ∙ map-append (λ r. r.1) (forwarded_in done) ((n, sent) ∷ [])

      heard_next : heard_in (done ++ xs) ≡ heard_in done
      heard_next = kept_by heard_by done xs refl

      longer : length (commands_in behind) + 1 ≡ length (commands_in (behind ++ forwards_it c ∷ []))
      longer = sym (length-append (commands_in behind) (c ∷ [])) ∙ sym (ap length (asked_append behind (forwards_it c ∷ [])))

      pub goes_up : Goes (behind ++ forwards_it c ∷ []) done xs
      goes_up = record {
        good = (
          asked_good (forwards_it c ∷ left) whole,
          (
            record {
              order = subst ForwardsInOrder (sym (append_assoc done (asks c ∷ []) (forwards n sent ∷ [])))
                  (order_of (done ++ xs) (behind ++ forwards_it c ∷ []) left [] whole_next (next_asked ∙ sym (append-nil (commands_in (behind ++ forwards_it c ∷ [])))) next_rows);
              all = λ taken. absurd (true≢false (sym taken));
              now = λ tells. absurd (true≢false (sym tells));
              apart = λ there. none_numbered (answered_in done) n at.answered (subst (λ ks. Contains ks n) (kept_by answered_by done (asks c ∷ []) refl) there);
            },
            tt,
          ),
        );
        at = record {
          asked = next_asked;
          rows = next_rows;
          all = all_kept done xs refl refl at.all;
          answered = subst (λ m. AllByRecursion (λ k. k < m) (answered_in (done ++ xs))) longer
              (subst (AllByRecursion (λ k. k < length (commands_in behind) + 1)) (sym (kept_by answered_by done xs refl)) (further at.answered));
          found = subst (λ cs. AreFound cs (heard_in (done ++ xs))) (sym sent_next) (subst (AreFound (sent_in done ++ sent ∷ [])) (sym heard_next)
              (are_found_more (sent_in done) (sent ∷ []) (heard_in done) at.found));
          taught = ap₂ (λ cs hs. lessons cs hs) sent_next heard_next ∙ lessons_more (sent_in done) (sent ∷ []) (heard_in done) at.found ∙ at.taught
              ∙ sym (doing.lessons_more behind (forwards_it c ∷ []) ∙ append-nil (lessons_in behind));
          marked = ap mark_of heard_next ∙ at.marked ∙ sym (mark_both behind (forwards_it c ∷ []));
          ended = λ k. ap (is_ended (decimal k)) heard_next ∙ at.ended k
              ∙ sym (ap (λ (hs : List Incoming). list_any (λ (i : Incoming). ends_with (decimal k) (reading i.raw)) hs) (heard_append behind (forwards_it c ∷ []) ∙ append-nil (incoming_in behind)));
        };
      }

    -- or answered from the store
    module _ (reply : List ℕ) (mark : Option ℕ) (whole : deeds ≡ behind ++ answers_it c reply mark ∷ left) where
      abbrev s : Spoken
      s = record { message = final c.token reply; mark = mark }

      abbrev ys : List Crossing
      ys = asks c ∷ answers n s ∷ []

      abbrev deed : Deed
      deed = answers_it c reply mark

      r : IsAnsweredRightly behind c reply mark
      r = right.rightly behind left c reply mark whole

      whole_then : deeds ≡ (behind ++ deed ∷ []) ++ left
      whole_then = whole ∙ sym (append_assoc behind (deed ∷ []) left)

      then_asked : asked_in (done ++ ys) ≡ commands_in (behind ++ deed ∷ [])
      then_asked = flat_map-append asked_by done ys ∙ ap (λ cs. cs ++ c ∷ []) at.asked ∙ sym (asked_append behind (deed ∷ []))

      then_rows : forwarded_in (done ++ ys) ≡ rows_from 0 1 (behind ++ deed ∷ [])
      then_rows = kept_by forwarded_by done ys refl ∙ at.rows ∙ sym (rows_answer 0 1 behind c reply mark)

      heard_then : heard_in (done ++ ys) ≡ heard_in done
      heard_then = kept_by heard_by done ys refl

      longer_then : length (commands_in behind) + 1 ≡ length (commands_in (behind ++ deed ∷ []))
      longer_then = sym (length-append (commands_in behind) (c ∷ [])) ∙ sym (ap length (asked_append behind (deed ∷ [])))

      rows_asking : forwarded_in asking ≡ rows_from 0 1 behind
      rows_asking = kept_by forwarded_by done (asks c ∷ []) refl ∙ at.rows

      heard_asking : heard_in asking ≡ heard_in done
      heard_asking = kept_by heard_by done (asks c ∷ []) refl

      is_so : is_storable c ≡ true
      is_so = ap is_stored r.read ∙ r.storable

      settled : (earlier : ℕ) (barrier : Asked) → earlier < n → slice_get (asked_in asking) earlier ≡ Some barrier → bars barrier ≡ true → IsFinished asking earlier
      settled earlier barrier less is barred =
          by_kind (asked_at 0 1 behind earlier barrier (storable_in behind (deed ∷ left) whole)
          (get_less (commands_in behind) (c ∷ []) earlier barrier less (ap (λ cs. slice_get cs earlier) (sym asked_then) ∙ is)))
        where
          by_kind : WasAsked 0 1 behind earlier barrier → IsFinished asking earlier
          by_kind (was_stored stored) = absurd (true≢false (sym barred ∙ unbarring (command_asked barrier) stored))
          by_kind (was_sent i row_is sent_is) =
              let next : i + 1 ≡ 1 + i = omega arith in
              record {
                above = under (1 + i) barrier;
                sent = subst (λ rs. Contains rs (earlier, under (1 + i) barrier)) (sym rows_asking) (get_contains (rows_from 0 1 behind) i (earlier, under (1 + i) barrier)
                    (row_is ∙ ap (λ m. Some (m, under (1 + i) barrier)) (zero_plus earlier)));
                ended = ap (is_ended (decimal (1 + i))) heard_asking ∙ at.ended (1 + i) ∙ ap (λ k. is_ended_in k behind) (sym next) ∙ r.settled i barrier sent_is barred;
              }

      taught_asking : taught_above asking ≡ lessons_in behind
      taught_asking = ap₂ (λ cs hs. lessons cs hs) (ap (map (λ row. row.1)) (kept_by forwarded_by done (asks c ∷ []) refl)) heard_asking ∙ at.taught

      stored : IsStoredAnswer asking asking n s
      stored = record {
        command = c;
        asked = ap (λ cs. slice_get cs n) asked_then ∙ get_split (commands_in behind) c [];
        storable = is_so;
        body = reply;
        answer = refl;
        unsent = λ there. none_numbered (map (λ row. row.0) (rows_from 0 1 behind)) n
            (subst (λ m. AllByRecursion (λ k. k < m) (map (λ row. row.0) (rows_from 0 1 behind))) (zero_plus n) (rows_below 0 1 behind)) (subst (λ rs. Contains (map (λ row. row.0) rs) n) rows_asking there);
        once = λ there. none_numbered (answered_in done) n at.answered (subst (λ ks. Contains ks n) (kept_by answered_by done (asks c ∷ []) refl) there);
        settled = settled;
        marked = r.marked ∙ sym at.marked ∙ sym (ap mark_of heard_asking);
        known =
            let taken = subst AreTaken at.taught (are_taken (sent_in done) (heard_in done)) in
            let tells = stored_tells (lessons_in behind) r.store r.command reply taken r.store_of r.answer in
            subst (λ ms. AllByRecursion (Knows (learned ms)) (facts_told (lesson_of (command_asked c) reply))) (sym taught_asking)
            (subst (λ what. AllByRecursion (Knows (learned (lessons_in behind))) (facts_told (lesson_of what reply))) (sym r.read) tells);
      }

      all_then_passed : PassesAllOn (done ++ ys)
      all_then_passed = all_kept done ys refl refl at.all

      pub goes_back : Goes (behind ++ deed ∷ []) done ys
      goes_back = record {
        good = (
          asked_good (deed ∷ left) whole,
          (
            record {
              order = subst ForwardsInOrder (sym (append_assoc done (asks c ∷ []) (answers n s ∷ [])))
                  (order_of (done ++ ys) (behind ++ deed ∷ []) left [] whole_then (then_asked ∙ sym (append-nil (commands_in (behind ++ deed ∷ [])))) then_rows);
              all = λ taken. absurd (true≢false (sym taken));
              now = λ tells. subst PassesAllOn (sym (append_assoc done (asks c ∷ []) (answers n s ∷ []))) all_then_passed;
              apart = stored;
            },
            tt,
          ),
        );
        at = record {
          asked = then_asked;
          rows = then_rows;
          all = all_then_passed;
          answered = subst (λ m. AllByRecursion (λ k. k < m) (answered_in (done ++ ys))) longer_then
              (subst (AllByRecursion (λ k. k < length (commands_in behind) + 1)) (sym (flat_map-append answered_by done ys))
              (all_push (λ k. k < length (commands_in behind) + 1) (answered_in done) n (further at.answered) (omega arith)));
          found = subst (λ cs. AreFound cs (heard_in (done ++ ys))) (sym (ap (map (λ row. row.1)) (kept_by forwarded_by done ys refl)))
              (subst (AreFound (sent_in done)) (sym heard_then) at.found);
          taught = ap₂ (λ cs hs. lessons cs hs) (ap (map (λ row. row.1)) (kept_by forwarded_by done ys refl)) heard_then ∙ at.taught
              ∙ sym (doing.lessons_more behind (deed ∷ []) ∙ append-nil (lessons_in behind));
          marked = ap mark_of heard_then ∙ at.marked ∙ sym (mark_both behind (deed ∷ []));
          ended = λ k. ap (is_ended (decimal k)) heard_then ∙ at.ended k
              ∙ sym (ap (λ (hs : List Incoming). list_any (λ (i : Incoming). ends_with (decimal k) (reading i.raw)) hs) (heard_append behind (deed ∷ []) ∙ append-nil (incoming_in behind)));
        };
      }

  -- ---- A message from above

  -- the command of its token
  pub record IsKnown (behind : List Deed) (done : List Crossing) (token : List ℕ) : Type 0 where
    pub item : Asked
    pub below : token_below 1 token (forwarded_by_deeds behind) ≡ item.token
    pub sent_so : sent_under 1 token (forwarded_by_deeds behind) ≡ Some item
    pub number : ℕ
    pub above : command_under token (sent_in done) ≡ Some (under number item)
    pub is : IsUnder done token item

  known_by : (behind left : List Deed) (done : List Crossing) (token : List ℕ) → deeds ≡ behind ++ left → At behind done → IsOpen behind token → IsKnown behind done token
  known_by behind left done token whole at o =
      let sent = forwarded_by_deeds behind in
      let low : 1 ≤ o.number = o.counted in
      let high : o.number ≤ length sent = o.sent in
      let f = split_at (o.number - 1) sent (omega arith) in
      let place : length f.front ≡ o.number - 1 = f.place in
      let number : o.number ≡ 1 + length f.front = omega arith in
      let is : token ≡ decimal (1 + length f.front) = o.numbered ∙ ap (λ k. decimal k) number in
      let little : length sent < 10 ^ 64 = few_in behind left whole in
      let small : 1 + length f.front < 10 ^ 64 = omega arith in
      let there : slice_get sent (length f.front) ≡ Some f.item = ap (λ cs. slice_get cs (length f.front)) f.are ∙ get_split f.front f.item f.back in
      let s = sent_at 0 1 behind (length f.front) f.item there in
      let sent_is : sent_in done ≡ numbered 1 sent = ap (map (λ row. row.1)) at.rows ∙ rows_sent 0 1 behind in
      record {
        item = f.item;
        below = ap (λ t. token_below 1 t sent) is ∙ ap (λ cs. token_below 1 (decimal (1 + length f.front)) cs) f.are ∙ below_at 1 f.front f.item f.back small;
        sent_so = ap (λ t. sent_under 1 t sent) is ∙ ap (λ cs. sent_under 1 (decimal (1 + length f.front)) cs) f.are ∙ tokens.sent_at 1 f.front f.item f.back small;
        number = 1 + length f.front;
        above = ap₂ (λ t cs. command_under t cs) is sent_is ∙ ap (λ cs. command_under (decimal (1 + length f.front)) (numbered 1 cs)) f.are ∙ under_at 1 f.front f.item f.back small;
        is = record {
          number = s.number;
          above = under (1 + length f.front) f.item;
          sent = subst (λ rs. Contains rs (s.number, under (1 + length f.front) f.item)) (sym at.rows)
              (get_contains (rows_from 0 1 behind) (length f.front) (s.number, under (1 + length f.front) f.item)
              (s.row_is ∙ ap (λ m. Some (m, under (1 + length f.front) f.item)) (zero_plus s.number)));
          under = sym is;
          asked = ap (λ cs. slice_get cs s.number) at.asked ∙ s.at;
        };
      }

  -- the message is passed on as this one, and teaches the same to those who know the commands of the deeds
  pub record IsPassed (behind : List Deed) (done : List Crossing) (m : MessageValue) : Type 0 where
    pub below : MessageValue
    pub are : passed_as (forwarded_by_deeds behind) (Ok m) ≡ below ∷ []
    pub is : IsPassedAs done m below
    pub found : IsFound (sent_in done) m
    pub teaches : lesson (sent_in done) m ≡ taught_in (forwarded_by_deeds behind) (Ok m)

  passed_final : (behind left : List Deed) (done : List Crossing) (token body : List ℕ) → deeds ≡ behind ++ left → At behind done → IsOpen behind token → IsPassed behind done (final token body)
  passed_final behind left done token body whole at o =
      let k = known_by behind left done token whole at o in
      record {
        below = final k.item.token body;
        are = ap (λ t. final t body ∷ []) k.below;
        is = (k.item, k.is, refl);
        found = ap is_some k.above;
        teaches = ap (λ found. lesson_of (option_and_then command_asked found) body ∷ []) k.above
            ∙ sym (ap (λ found. lesson_of (option_and_then command_asked found) body ∷ []) k.sent_so);
      }

  passed_progress : (behind left : List Deed) (done : List Crossing) (token body : List ℕ) → deeds ≡ behind ++ left → At behind done → IsOpen behind token → IsPassed behind done (progress token body)
  passed_progress behind left done token body whole at o =
      let k = known_by behind left done token whole at o in
      record { below = progress k.item.token body; are = ap (λ t. progress t body ∷ []) k.below; is = (k.item, k.is, refl); found = tt; teaches = refl }

  passed_unknown : (behind left : List Deed) (done : List Crossing) (token : List ℕ) → deeds ≡ behind ++ left → At behind done → IsOpen behind token → IsPassed behind done (not_known token)
  passed_unknown behind left done token whole at o =
      let k = known_by behind left done token whole at o in
      record { below = not_known k.item.token; are = ap (λ t. not_known t ∷ []) k.below; is = (k.item, k.is, refl); found = tt; teaches = refl }

  -- one deed more that hears
  module _ (behind left : List Deed) (done : List Crossing) (incoming : Incoming) (m : MessageValue) (whole : deeds ≡ behind ++ hears_it incoming ∷ left) (at : At behind done)
      (read : reading incoming.raw ≡ Ok m) where
    abbrev next : List Deed
    next = behind ++ hears_it incoming ∷ []

    whole_heard : deeds ≡ next ++ left
    whole_heard = whole ∙ sym (append_assoc behind (hears_it incoming ∷ []) left)

    asked_next : commands_in next ≡ commands_in behind
    asked_next = asked_append behind (hears_it incoming ∷ []) ∙ append-nil (commands_in behind)

    lessons_next : lessons_in next ≡ lessons_in behind ++ (taught_in (forwarded_by_deeds behind) (Ok m) ++ [])
    lessons_next = doing.lessons_more behind (hears_it incoming ∷ []) ∙ ap (λ what. lessons_in behind ++ (taught_in (forwarded_by_deeds behind) what ++ [])) read

    mark_next : mark_in next ≡ mark_after (said_by m) incoming.mark (mark_in behind)
    mark_next = mark_both behind (hears_it incoming ∷ []) ∙ ap (λ what. mark_after (said_of what) incoming.mark (mark_in behind)) read

    ends_same : (token : List ℕ) (message : MessageValue) → ends_with token (Ok message) ≡ told.ends token message
    ends_same token (command other service name body) = refl
    ends_same token (final other body) = refl
    ends_same token (progress other body) = refl
    ends_same token (not_known other) = refl
    ends_same token (event service name body) = refl
    ends_same token (flow level) = refl

    ended_next : (k : ℕ) → is_ended_in k next ≡ (is_ended_in k behind || told.ends (decimal k) m)
    ended_next k =
        ap (λ hs. list_any (λ (i : Incoming). ends_with (decimal k) (reading i.raw)) hs) (heard_append behind (hears_it incoming ∷ []))
        ∙ list_any-append (λ (i : Incoming). ends_with (decimal k) (reading i.raw)) (incoming_in behind) (incoming ∷ [])
        ∙ ap (λ b. is_ended_in k behind || b) (or-false (ends_with (decimal k) (reading incoming.raw)) ∙ ap (ends_with (decimal k)) read ∙ ends_same (decimal k) m)

    abbrev h : Spoken
    h = record { message = m; mark = incoming.mark }

    -- it is passed on
    module _ (p : IsPassed behind done m) where
      abbrev onward : Spoken
      onward = record { message = p.below; mark = incoming.mark }

      abbrev zs : List Crossing
      zs = hears h ∷ passes onward ∷ []

      asked_zs : asked_in (done ++ zs) ≡ commands_in next
      asked_zs = kept_by asked_by done zs refl ∙ at.asked ∙ sym asked_next

      rows_zs : forwarded_in (done ++ zs) ≡ rows_from 0 1 next
      rows_zs = kept_by forwarded_by done zs refl ∙ at.rows ∙ sym (rows_hear 0 1 behind incoming)

      heard_zs : heard_in (done ++ zs) ≡ heard_in done ++ h ∷ []
      heard_zs = flat_map-append heard_by done zs

      sent_zs : sent_in (done ++ zs) ≡ sent_in done
      sent_zs = ap (map (λ row. row.1)) (kept_by forwarded_by done zs refl)

      all_zs : PassesAllOn (done ++ zs)
      all_zs =
          subst (λ hs. ArePassedAs (done ++ zs) hs (passed_in (done ++ zs))) (sym heard_zs) (subst (λ ss. ArePassedAs (done ++ zs) (heard_in done ++ h ∷ []) ss) (sym (flat_map-append passed_by done zs))
          (passed_push (done ++ zs) (heard_in done) (passed_in done) h onward (all_passed_more done zs (heard_in done) (passed_in done) at.all) (passed_more done zs m p.below p.is) refl))

      pub goes_down : Goes next done zs
      goes_down = record {
        good = (
          record {
            order = order_of (done ++ hears h ∷ []) behind (hears_it incoming ∷ left) [] whole
                (kept_by asked_by done (hears h ∷ []) refl ∙ at.asked ∙ sym (append-nil (commands_in behind))) (kept_by forwarded_by done (hears h ∷ []) refl ∙ at.rows);
            all = λ taken. at.all;
            now = λ tells. absurd (true≢false (sym tells));
            apart = tt;
          },
          (
            record {
              order = subst ForwardsInOrder (sym (append_assoc done (hears h ∷ []) (passes onward ∷ [])))
                  (order_of (done ++ zs) next left [] whole_heard (asked_zs ∙ sym (append-nil (commands_in next))) rows_zs);
              all = λ taken. absurd (true≢false (sym taken));
              now = λ tells. subst PassesAllOn (sym (append_assoc done (hears h ∷ []) (passes onward ∷ []))) all_zs;
              apart = tt;
            },
            tt,
          ),
        );
        at = record {
          asked = asked_zs;
          rows = rows_zs;
          all = all_zs;
          answered = subst (λ cs. AllByRecursion (λ k. k < length cs) (answered_in (done ++ zs))) (sym asked_next)
              (subst (AllByRecursion (λ k. k < length (commands_in behind))) (sym (kept_by answered_by done zs refl)) at.answered);
          found = subst (λ cs. AreFound cs (heard_in (done ++ zs))) (sym sent_zs) (subst (AreFound (sent_in done)) (sym heard_zs)
              (all_push (λ (x : Spoken). IsFound (sent_in done) x.message) (heard_in done) h at.found p.found));
          taught = ap₂ (λ cs hs. lessons cs hs) sent_zs heard_zs ∙ lessons_told (sent_in done) (heard_in done) h
              ∙ ap₂ (λ ms ns. ms ++ (ns ++ [])) at.taught p.teaches ∙ sym lessons_next;
          marked = ap mark_of heard_zs ∙ mark_more None (heard_in done) h ∙ ap (mark_after (said_by m) incoming.mark) at.marked ∙ sym mark_next;
          ended = λ k. ap (is_ended (decimal k)) heard_zs ∙ ended_more (decimal k) (heard_in done) h ∙ ap (λ b. b || told.ends (decimal k) m) (at.ended k) ∙ sym (ended_next k);
        };
      }

    -- or it is a command, which isn't
    pub ignored : (token service name body : List ℕ) → m ≡ command token service name body → At next done
    ignored token service name body is = record {
      asked = at.asked ∙ sym asked_next;
      rows = at.rows ∙ sym (rows_hear 0 1 behind incoming);
      all = at.all;
      answered = subst (λ cs. AllByRecursion (λ k. k < length cs) (answered_in done)) (sym asked_next) at.answered;
      found = at.found;
      taught = at.taught ∙ sym (lessons_next ∙ ap (λ what. lessons_in behind ++ (taught_in (forwarded_by_deeds behind) (Ok what) ++ [])) is ∙ append-nil (lessons_in behind));
      marked = at.marked ∙ sym (mark_next ∙ ap (λ what. mark_after (said_by what) incoming.mark (mark_in behind)) is);
      ended = λ k. at.ended k ∙ sym (ended_next k ∙ ap (λ what. is_ended_in k behind || told.ends (decimal k) what) is ∙ or-false (is_ended_in k behind));
    }

  heard_as : (behind left : List Deed) (done : List Crossing) (incoming : Incoming) (m : MessageValue) → deeds ≡ behind ++ hears_it incoming ∷ left → At behind done
      → reading incoming.raw ≡ Ok m → enters m ≡ true → IsOfItsCommand behind (Ok m) → Goes (behind ++ hears_it incoming ∷ []) done (crossing_heard (forwarded_by_deeds behind) incoming.mark (Ok m))
  heard_as behind left done incoming (command token service name body) whole at read enter its = record {
    good = tt;
    at = subst (At (behind ++ hears_it incoming ∷ [])) (sym (append-nil done)) (ignored behind left done incoming (command token service name body) whole at read token service name body refl);
  }
  heard_as behind left done incoming (final token body) whole at read enter its =
      let p = passed_final behind (hears_it incoming ∷ left) done token body whole at its in
      subst (Goes (behind ++ hears_it incoming ∷ []) done) (sym (ap (flat_map (λ below. hears (record { message = final token body; mark = incoming.mark }) ∷ passes (record { message = below; mark = incoming.mark }) ∷ [])) p.are))
      (goes_down behind left done incoming (final token body) whole at read p)
  heard_as behind left done incoming (progress token body) whole at read enter its =
      let p = passed_progress behind (hears_it incoming ∷ left) done token body whole at its in
      subst (Goes (behind ++ hears_it incoming ∷ []) done) (sym (ap (flat_map (λ below. hears (record { message = progress token body; mark = incoming.mark }) ∷ passes (record { message = below; mark = incoming.mark }) ∷ [])) p.are))
      (goes_down behind left done incoming (progress token body) whole at read p)
  heard_as behind left done incoming (not_known token) whole at read enter its =
      let p = passed_unknown behind (hears_it incoming ∷ left) done token whole at its in
      subst (Goes (behind ++ hears_it incoming ∷ []) done) (sym (ap (flat_map (λ below. hears (record { message = not_known token; mark = incoming.mark }) ∷ passes (record { message = below; mark = incoming.mark }) ∷ [])) p.are))
      (goes_down behind left done incoming (not_known token) whole at read p)
  heard_as behind left done incoming (event service name body) whole at read enter its =
      goes_down behind left done incoming (event service name body) whole at read (record { below = event service name body; are = refl; is = refl; found = tt; teaches = refl })
  heard_as behind left done incoming (flow level) whole at read enter its = absurd (true≢false (sym enter))

  pub goes_heard : (behind left : List Deed) (done : List Crossing) (incoming : Incoming) → deeds ≡ behind ++ hears_it incoming ∷ left → At behind done → IsWhole incoming
      → Goes (behind ++ hears_it incoming ∷ []) done (crossing_heard (forwarded_by_deeds behind) incoming.mark (reading incoming.raw))
  goes_heard behind left done incoming whole at reads =
      let its : IsOfItsCommand behind (Ok reads.0) = subst (IsOfItsCommand behind) reads.1 (right.own behind left incoming whole) in
      subst (λ what. Goes (behind ++ hears_it incoming ∷ []) done (crossing_heard (forwarded_by_deeds behind) incoming.mark what)) (sym reads.1)
      (heard_as behind left done incoming reads.0 whole at reads.1 reads.2 its)

-- The command that an answer or progress from above is to: below, and among those that were sent.
use Rattle.std.proofs.Common.{◌≡◌, ℕ, suc, ◌+◌, ◌-◌, ◌^◌, ◌<◌, ◌≤◌, Bool, true, false, List, ◌∷◌, ◌++◌, length, Some, ⊎_elim, refl, sym, ap, ◌∙◌, subst, arith, append_assoc, length-append}
use Rattle.std.specs.Prelude.{bytes_eq, decimal}
use Rattle.std.specs.List.{AllByRecursion, Contains}
use Rattle.std.proofs.lemmas.List.Elements.{Contains-append_right, Contains-append_cases}
use Rattle.channel_core.specs.Arrivals.{Spoken}
use Rattle.target_contexts.specs.declared.process.Image.{Image}
use Rattle.target_hub.specs.declared.input.Input.{Input}
use Rattle.value_node.specs.Asked.{Asked}
use Rattle.value_node.specs.Deeds.{Deed, asked_in, forwards, sent_in, sent_under}
use Rattle.value_node.specs.RelayLaws.{IsOpen, token_below}
use Rattle.chain_told.specs.Told.{AreEndedBefore, command_under, is_ended, numbered}
use Rattle.chain_told.specs.TellsOn.{Begins}
use Rattle.chain_told.proofs.Doing.{SentBy, ended_in_heard, sent_append, sent_split, sent_was_asked}
use Rattle.chain_told.proofs.Numbered.{numbered_append, under}
use Rattle.chain_told.proofs.Splits.{Places, before, behind, found, one, places, split_at}
use Rattle.chain_told.proofs.Standing.{HasEnded, Stands, asked_apart, asked_parts, asked_placed, ended_or_sent, sent_apart}
use Rattle.chain_told.proofs.Tokens.{below_at, differ, same_place, sent_at, under_at, unlike}
use Rattle.list_laws.proofs.Contained.{contains_first}
use Rattle.list_laws.proofs.AllLists.{all_left}
use Rattle.list_laws.proofs.Lists.{equal_bytes as alike}

-- one of a list that is behind some of it
pub contains_behind : {A : Type 0} → (xs : List A) (x : A) (ys : List A) → Contains (xs ++ x ∷ ys) x
contains_behind xs x ys = Contains-append_right xs (x ∷ ys) x (contains_first x ys)

module _ (images : List Image) (history : List Input) (commands : List Asked) (own : List Spoken) (deeds : List Deed) (begins : Begins commands own deeds) (few : length (sent_in deeds) < 10 ^ 64) where
  abbrev StandsHere : List Deed → List Deed → List Asked → List Spoken → List Spoken → Type 0
  StandsHere done left sent heard told = Stands images history commands own deeds begins done left sent heard told

  pub record Addressed (done left : List Deed) (sent : List Asked) (heard told : List Spoken) (token : List ℕ) : Type 0 where
    pub front : List Asked
    pub asked : Asked
    pub back : List Asked
    pub are : sent ≡ front ++ asked ∷ back
    pub small : 1 + length front < 10 ^ 64
    pub is : token ≡ decimal (1 + length front)
    pub unanswered : is_ended asked.token told ≡ false
    pub known : command_under asked.token (numbered 1 commands) ≡ Some asked
    pub known_above : command_under token (numbered 1 (sent_in deeds)) ≡ Some (under (1 + length front) asked)
    pub below : token_below 1 token sent ≡ asked.token
    pub sent_so : sent_under 1 token sent ≡ Some asked

  all_sent : (done left : List Deed) (sent : List Asked) → deeds ≡ done ++ left → sent_in done ≡ sent → sent_in deeds ≡ sent ++ sent_in left
  all_sent done left sent whole is = ap sent_in whole ∙ sent_append done left ∙ ap (λ xs. xs ++ sent_in left) is

  pub few_sent : (done left : List Deed) (sent : List Asked) → deeds ≡ done ++ left → sent_in done ≡ sent → length sent < 10 ^ 64
  few_sent done left sent whole is =
      let many : length (sent_in deeds) ≡ length sent + length (sent_in left) = ap length (all_sent done left sent whole is) ∙ length-append sent (sent_in left) in omega arith

  pub addressed : (done left : List Deed) (sent : List Asked) (heard told : List Spoken) (token : List ℕ) → deeds ≡ done ++ left → StandsHere done left sent heard told → IsOpen done token
      → Addressed done left sent heard told token
  addressed done left sent heard told token whole st o =
      let low : 1 ≤ o.number = o.counted in
      let high : o.number ≤ length sent = subst (λ xs. o.number ≤ length xs) st.sent_is o.sent in
      let f = split_at (o.number - 1) sent (omega arith) in
      let place : length f.front ≡ o.number - 1 = f.place in
      let number : o.number ≡ 1 + length f.front = omega arith in
      let is : token ≡ decimal (1 + length f.front) = o.numbered ∙ ap (λ n. decimal n) number in
      let all = all_sent done left sent whole st.sent_is in
      let many = few_sent done left sent whole st.sent_is in
      let small : 1 + length f.front < 10 ^ 64 = omega arith in
      let s = sent_split done f.front f.item f.back (st.sent_is ∙ f.are) in
      let parts : deeds ≡ s.earlier ++ (forwards f.item ∷ (s.later ++ left)) = whole ∙ ap (λ ds. ds ++ left) s.are ∙ append_assoc s.earlier (forwards f.item ∷ s.later) left in
      let p = asked_placed images history commands own deeds begins s.earlier (forwards f.item ∷ (s.later ++ left)) f.item (asked_in (s.later ++ left)) parts refl in
      let spread : sent_in deeds ≡ f.front ++ f.item ∷ (f.back ++ sent_in left) = all ∙ ap (λ xs. xs ++ sent_in left) f.are ∙ append_assoc f.front (f.item ∷ f.back) (sent_in left) in
      record {
        front = f.front;
        asked = f.item;
        back = f.back;
        are = f.are;
        small = small;
        is = is;
        unanswered = st.ended f.front f.item f.back f.are ∙ ap (λ n. is_ended (decimal n) heard) (sym number) ∙ sym (ended_in_heard o.number done heard st.came st.readable) ∙ o.unanswered;
        known = p.found;
        known_above = ap (λ t. command_under t (numbered 1 (sent_in deeds))) is ∙ ap (λ xs. command_under (decimal (1 + length f.front)) (numbered 1 xs)) spread ∙ under_at 1 f.front f.item (f.back ++ sent_in left) small;
        below = ap (λ t. token_below 1 t sent) is ∙ ap (λ xs. token_below 1 (decimal (1 + length f.front)) xs) f.are ∙ below_at 1 f.front f.item f.back small;
        sent_so = ap (λ t. sent_under 1 t sent) is ∙ ap (λ xs. sent_under 1 (decimal (1 + length f.front)) xs) f.are ∙ sent_at 1 f.front f.item f.back small;
      }

  module _ (done left : List Deed) (sent : List Asked) (heard told : List Spoken) (token : List ℕ) (whole : deeds ≡ done ++ left) (st : StandsHere done left sent heard told) (a : Addressed done left sent heard told token) where
    -- an answer ends below the command that it ends above
    pub ends_alike : (xs : List Asked) (c : Asked) (ys : List Asked) → sent ≡ xs ++ c ∷ ys → bytes_eq a.asked.token c.token ≡ bytes_eq token (decimal (1 + length xs))
    ends_alike xs c ys are = by_places (places a.front a.asked a.back xs c ys (sym a.are ∙ are))
      where
        many : length sent < 10 ^ 64
        many = few_sent done left sent whole st.sent_is

        here : length sent ≡ length xs + (1 + length ys)
        here = let long : length sent ≡ length xs + length (c ∷ ys) = ap length are ∙ length-append xs (c ∷ ys) in let more : length (c ∷ ys) ≡ 1 + length ys = omega arith in omega arith

        by_places : Places a.front a.asked xs c → bytes_eq a.asked.token c.token ≡ bytes_eq token (decimal (1 + length xs))
        by_places (one o) = alike a.asked.token c.token (ap (λ x. x.token) o.item) ∙ sym (alike token (decimal (1 + length xs)) (a.is ∙ ap (λ zs. decimal (1 + length zs)) o.front))
        by_places (before o) =
            let count = many in
            let long = here in
            let far : length xs ≡ length a.front + suc (length o.between) = ap length o.are ∙ length-append a.front (a.asked ∷ o.between) in
            unlike a.asked.token c.token (sent_apart images history commands own deeds begins done left xs c ys a.asked whole (st.sent_is ∙ are) (subst (λ zs. Contains zs a.asked) (sym o.are) (contains_behind a.front a.asked o.between)))
            ∙ sym (ap (λ t. bytes_eq t (decimal (1 + length xs))) a.is ∙ differ (1 + length a.front) (1 + length xs) a.small (omega arith) (λ same. omega arith))
        by_places (behind o) =
            let count = many in
            let long = here in
            let far : length a.front ≡ length xs + suc (length o.between) = ap length o.are ∙ length-append xs (c ∷ o.between) in
            unlike a.asked.token c.token (λ same. sent_apart images history commands own deeds begins done left a.front a.asked a.back c whole (st.sent_is ∙ a.are) (subst (λ zs. Contains zs c) (sym o.are) (contains_behind xs c o.between)) (sym same))
            ∙ sym (ap (λ t. bytes_eq t (decimal (1 + length xs))) a.is ∙ differ (1 + length a.front) (1 + length xs) a.small (omega arith) (λ same. omega arith))

    pub ends_no_other : (c : Asked) → Contains (asked_in left) c → bytes_eq a.asked.token c.token ≡ false
    ends_no_other c there =
        let its : Contains (sent_in done) a.asked = subst (λ xs. Contains xs a.asked) (sym (st.sent_is ∙ a.are)) (contains_behind a.front a.asked a.back) in
        unlike a.asked.token c.token (asked_apart images history commands own deeds begins done left a.asked c whole (sent_was_asked done a.asked its) there)

    pub ends_none_later : (n : ℕ) → length sent < n → n < 10 ^ 64 → bytes_eq token (decimal n) ≡ false
    ends_none_later n far small =
        let long : length sent ≡ length a.front + suc (length a.back) = ap length a.are ∙ length-append a.front (a.asked ∷ a.back) in
        ap (λ t. bytes_eq t (decimal n)) a.is ∙ differ (1 + length a.front) n a.small small (λ same. omega arith)

    -- where each command of a kind that was sent above before this one has its answer there, each that was asked before it has
    pub ended_before : (kind : Asked → Bool) → ((n : ℕ) (c : Asked) → kind (under n c) ≡ kind c) → AreEndedBefore kind (numbered 1 (sent_in deeds)) heard (decimal (1 + length a.front))
        → AreEndedBefore kind (numbered 1 commands) told a.asked.token
    ended_before kind stays above_it earlier later c other are token_is there is =
        let s = sent_split done a.front a.asked a.back (st.sent_is ∙ a.are) in
        let parts : deeds ≡ s.earlier ++ (forwards a.asked ∷ (s.later ++ left)) = whole ∙ ap (λ ds. ds ++ left) s.are ∙ append_assoc s.earlier (forwards a.asked ∷ s.later) left in
        let mine = asked_parts images history commands own deeds begins s.earlier (forwards a.asked ∷ (s.later ++ left)) parts in
        let front : earlier ≡ begins.first ++ asked_in s.earlier =
        same_place commands earlier c later (begins.first ++ asked_in s.earlier) a.asked (asked_in (s.later ++ left) ++ begins.later) begins.few are mine token_is in
        let stored = all_left (HasEnded told) s.earlier (forwards a.asked ∷ s.later) (subst (AllByRecursion (HasEnded told)) s.are st.stored_ended) in
        ⊎_elim (λ first. st.first_ended other first)
        (λ asked. ⊎_elim (λ ended. ended) (λ sent_it. by_sending s sent_it) (ended_or_sent told s.earlier other stored asked))
        (Contains-append_cases begins.first (asked_in s.earlier) other (subst (λ xs. Contains xs other) front there))
      where
        by_sending : (s : SentBy done a.front a.asked a.back) → Contains (sent_in s.earlier) other → is_ended other.token told ≡ true
        by_sending s sent_it =
            let f = found (sent_in s.earlier) other sent_it in
            let front_is : a.front ≡ f.front ++ other ∷ f.back = sym s.before ∙ f.are in
            let sent_is : sent ≡ f.front ++ other ∷ (f.back ++ a.asked ∷ a.back) = a.are ∙ ap (λ xs. xs ++ a.asked ∷ a.back) front_is ∙ append_assoc f.front (other ∷ f.back) (a.asked ∷ a.back) in
            let all = all_sent done left sent whole st.sent_is in
            let spread : sent_in deeds ≡ a.front ++ a.asked ∷ (a.back ++ sent_in left) = all ∙ ap (λ xs. xs ++ sent_in left) a.are ∙ append_assoc a.front (a.asked ∷ a.back) (sent_in left) in
            let numbers : numbered 1 (sent_in deeds) ≡ numbered 1 a.front ++ under (1 + length a.front) a.asked ∷ numbered ((1 + length a.front) + 1) (a.back ++ sent_in left) =
            ap (λ xs. numbered 1 xs) spread ∙ numbered_append 1 a.front (a.asked ∷ (a.back ++ sent_in left)) in
            let earlier_is : numbered 1 a.front ≡ numbered 1 f.front ++ under (1 + length f.front) other ∷ numbered ((1 + length f.front) + 1) f.back =
            ap (λ xs. numbered 1 xs) front_is ∙ numbered_append 1 f.front (other ∷ f.back) in
            let there_above : Contains (numbered 1 a.front) (under (1 + length f.front) other) =
            subst (λ xs. Contains xs (under (1 + length f.front) other)) (sym earlier_is) (contains_behind (numbered 1 f.front) (under (1 + length f.front) other) (numbered ((1 + length f.front) + 1) f.back)) in
            st.ended f.front other (f.back ++ a.asked ∷ a.back) sent_is
            ∙ above_it (numbered 1 a.front) (numbered ((1 + length a.front) + 1) (a.back ++ sent_in left)) (under (1 + length a.front) a.asked) (under (1 + length f.front) other) numbers refl there_above
            (stays (1 + length f.front) other ∙ is)

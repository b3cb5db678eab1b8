-- In a round the agent takes all that waits in the channels of a chain, unless it is full.
use Rattle.std.proofs.Common.{◌≡◌, ℕ, zero, suc, ◌+◌, ◌<◌, ◌≤◌, Bool, true, false, cond, List, [], ◌∷◌, ◌++◌, Option, Some, None, IfSome, ◌⊎◌, inl, inr, refl, sym, ap, ◌∙◌, subst, arith, ltb-true, ltb-false}
use Rattle.std.specs.Prelude.{find, option_to_list, slice_get, sum_by}
use Rattle.std.specs.List.{AllByRecursion}
use Rattle.std.proofs.lemmas.List.Sums.{sum_by-cons}
use Rattle.agent_node.specs.Agent.{channel_of, is_full, turned, waiting_at}
use Rattle.agent_node.specs.AgentValue.{AgentValue}
use Rattle.agent_node.specs.declared.agent.Turned.{Turned}
use Rattle.channel_list.specs.declared.channel.Channel.{Channel}
use Rattle.agent_node.proofs.Places.{found, place_found}
use Rattle.target_hub.specs.declared.input.Input.{Input}
use Rattle.chain_world.specs.Chain.{agent_emptied, all_dropped, carried_down, carried_from, channels_of, emptied, turned_on, turning, turning_or, waiting_for, waiting_up, waits_at}
use Rattle.chain_world.specs.ChainValue.{ChainValue}
use Rattle.chain_world.specs.Until.{AgentTakesNoMore, most_counted}
use Rattle.chain_world.specs.World.{agent_taken, agent_turned, all_carried, carried, repeated, turn_of_agent, waiting_in_chain, with_input}
use Rattle.chain_world.specs.WorldValue.{WorldValue}
use Rattle.chain_world.proofs.AgentTurns.{HasTaken, NoneHasMore, emptied_less, full_takes_none, held, held_less, held_of, more_changed, more_same, more_then, turn_takes}
use Rattle.chain_world.proofs.Inboxes.{counted, counted_none, entries, none_counted, waiting_entries}

-- ---- The entries of all channels of a chain

abbrev held_on : Option ℕ → AgentValue → ℕ
held_on None a = 0
held_on (Some k) a = held k a.channels

abbrev all_held : List ℕ → AgentValue → ℕ
all_held earlier a = sum_by (λ k. held k a.channels) earlier

abbrev total : List ℕ → Option ℕ → AgentValue → ℕ
total earlier channel a = all_held earlier a + held_on channel a

-- it is full, or has so many at most
abbrev HasLeft : ℕ → List ℕ → Option ℕ → AgentValue → Type 0
HasLeft n earlier channel a = (is_full a ≡ true) ⊎ (total earlier channel a ≤ n)

found_is : (k : ℕ) (a : AgentValue) → channel_of k a ≡ found k a.channels
found_is k a = place_found k a.channels

none_waits : (k : ℕ) (a : AgentValue) → waits_at a k ≡ false → held k a.channels ≤ 0
none_waits k a none =
    by_there (found k a.channels) (subst (λ o. waiting_at o ≤ 0) (found_is k a) (ltb-false 0 (waiting_at (channel_of k a)) none))
  where
    by_there : (there : Option Channel) → waiting_at there ≤ 0 → held_of there ≤ 0
    by_there None few = omega arith
    by_there (Some c) few = counted_none c.end (by_count (waiting_at (Some c)) few)
      where
        by_count : (n : ℕ) → n ≤ 0 → n ≡ 0
        by_count n less = omega (arith, less)

some_waits : (k : ℕ) (a : AgentValue) → waits_at a k ≡ true → 0 < held k a.channels
some_waits k a some =
    by_there (found k a.channels) (subst (λ o. 0 < waiting_at o) (found_is k a) (ltb-true 0 (waiting_at (channel_of k a)) some))
  where
    by_there : (there : Option Channel) → 0 < waiting_at there → 0 < held_of there
    by_there None more = more
    by_there (Some c) more = by_count (waiting_at (Some c)) (entries c.end) more (waiting_entries c.end)
      where
        by_count : (n m : ℕ) → 0 < n → n ≤ m → 0 < m
        by_count n m p q = omega (arith, p, q)

-- ---- A turn takes one of them

module _ (a b : AgentValue) (less : NoneHasMore a.channels b.channels) where
  sum_less : (earlier : List ℕ) → all_held earlier b ≤ all_held earlier a
  sum_less [] = omega arith
  sum_less (k ∷ earlier) =
      by_count (held k b.channels) (held k a.channels) (all_held earlier b) (all_held earlier a) (all_held (k ∷ earlier) b) (all_held (k ∷ earlier) a)
      (held_less k a.channels b.channels less) (sum_less earlier) (sum_by-cons (λ j. held j b.channels) k earlier) (sum_by-cons (λ j. held j a.channels) k earlier)
    where
      by_count : (x y p q m n : ℕ) → x ≤ y → p ≤ q → m ≡ x + p → n ≡ y + q → m ≤ n
      by_count x y p q m n one two three four = omega (arith, one, two, three, four)

  sum_fewer : (k : ℕ) (earlier : List ℕ) → find (waits_at a) earlier ≡ Some k → suc (held k b.channels) ≤ held k a.channels → suc (all_held earlier b) ≤ all_held earlier a
  sum_fewer k [] is fewer = absurd cc
  sum_fewer k (j ∷ earlier) is fewer = by_flag (waits_at a j) is (λ same. sum_fewer k earlier same fewer)
    where
      by_count : (x y p q m n : ℕ) → suc (x + p) ≤ y + q → m ≡ x + p → n ≡ y + q → suc m ≤ n
      by_count x y p q m n one two three = omega (arith, one, two, three)

      first : (x y p q : ℕ) → suc x ≤ y → p ≤ q → suc (x + p) ≤ y + q
      first x y p q one two = omega (arith, one, two)

      second : (x y p q : ℕ) → x ≤ y → suc p ≤ q → suc (x + p) ≤ y + q
      second x y p q one two = omega (arith, one, two)

      sums : suc (held j b.channels + all_held earlier b) ≤ held j a.channels + all_held earlier a → suc (all_held (j ∷ earlier) b) ≤ all_held (j ∷ earlier) a
      sums one =
          by_count (held j b.channels) (held j a.channels) (all_held earlier b) (all_held earlier a) (all_held (j ∷ earlier) b) (all_held (j ∷ earlier) a) one
          (sum_by-cons (λ i. held i b.channels) j earlier) (sum_by-cons (λ i. held i a.channels) j earlier)

      by_flag : (flag : Bool) → cond flag (Some j) (find (waits_at a) earlier) ≡ Some k → (find (waits_at a) earlier ≡ Some k → suc (all_held earlier b) ≤ all_held earlier a) → suc (all_held (j ∷ earlier) b) ≤ all_held (j ∷ earlier) a
      by_flag true same rest =
          let one : j ≡ k = cc in
          sums (first (held j b.channels) (held j a.channels) (all_held earlier b) (all_held earlier a) (subst (λ i. suc (held i b.channels) ≤ held i a.channels) (sym one) fewer) (sum_less earlier))
      by_flag false same rest =
          sums (second (held j b.channels) (held j a.channels) (all_held earlier b) (all_held earlier a) (held_less j a.channels b.channels less) (rest same))

  on_less : (channel : Option ℕ) → held_on channel b ≤ held_on channel a
  on_less None = omega arith
  on_less (Some k) = held_less k a.channels b.channels less

-- where none waits in the earlier ones they have none
none_held : (a : AgentValue) (earlier : List ℕ) → find (waits_at a) earlier ≡ None → all_held earlier a ≤ 0
none_held a [] is = omega arith
none_held a (k ∷ earlier) is = by_flag (waits_at a k) refl is (none_held a earlier)
  where
    by_count : (x p m : ℕ) → x ≤ 0 → p ≤ 0 → m ≡ x + p → m ≤ 0
    by_count x p m one two three = omega (arith, one, two, three)

    by_flag : (flag : Bool) → waits_at a k ≡ flag → cond flag (Some k) (find (waits_at a) earlier) ≡ None → (find (waits_at a) earlier ≡ None → all_held earlier a ≤ 0) → all_held (k ∷ earlier) a ≤ 0
    by_flag true waits same rest = absurd cc
    by_flag false waits same rest =
        by_count (held k a.channels) (all_held earlier a) (all_held (k ∷ earlier) a) (none_waits k a waits) (rest same) (sum_by-cons (λ j. held j a.channels) k earlier)

found_waits : (a : AgentValue) (k : ℕ) (earlier : List ℕ) → find (waits_at a) earlier ≡ Some k → waits_at a k ≡ true
found_waits a k [] is = absurd cc
found_waits a k (j ∷ earlier) is = by_flag (waits_at a j) refl is (found_waits a k earlier)
  where
    by_flag : (flag : Bool) → waits_at a j ≡ flag → cond flag (Some j) (find (waits_at a) earlier) ≡ Some k → (find (waits_at a) earlier ≡ Some k → waits_at a k ≡ true) → waits_at a k ≡ true
    by_flag true waits same rest = let one : j ≡ k = cc in subst (λ i. waits_at a i ≡ true) one waits
    by_flag false waits same rest = rest same

module _ (n : ℕ) (earlier : List ℕ) (channel : Option ℕ) where
  -- a turn of this channel
  turn_left : (k : ℕ) (a : AgentValue) → is_full a ≡ false → total earlier channel a ≤ suc n → (chosen : Option ℕ) → find (waits_at a) earlier ≡ chosen → turning_or channel chosen ≡ Some k
      → total earlier channel (turned k a).1 ≤ n
  turn_left k a free few chosen is same = by_chosen chosen is same
    where
      b : AgentValue
      b = (turned k a).1

      taken : HasTaken k a.channels b.channels
      taken = turn_takes k a free

      by_count : (x p y q : ℕ) → suc x ≤ y → p ≤ q → y + q ≤ suc n → x + p ≤ n
      by_count x p y q one two three = omega (arith, one, two, three)

      none_more : (y h : ℕ) → 0 < h → h ≤ 0 → y ≤ n
      none_more y h one two = absurd (omega (arith, one, two))

      by_chosen : (there : Option ℕ) → find (waits_at a) earlier ≡ there → turning_or channel there ≡ Some k → total earlier channel b ≤ n
      by_chosen (Some j) sought chosen_is = by_one taken.one
        where
          found_k : find (waits_at a) earlier ≡ Some k
          found_k = sought ∙ chosen_is

          by_one : (suc (held k b.channels) ≤ held k a.channels) ⊎ (held k a.channels ≤ 0) → total earlier channel b ≤ n
          by_one (inl fewer) = by_count (all_held earlier b) (held_on channel b) (all_held earlier a) (held_on channel a) (sum_fewer a b taken.all k earlier found_k fewer) (on_less a b taken.all channel) few
          by_one (inr none) = none_more (total earlier channel b) (held k a.channels) (some_waits k a (found_waits a k earlier found_k)) none
      by_chosen None sought chosen_is = by_one taken.one
        where
          on : AgentValue → ℕ
          on x = held k x.channels

          on_is : (x : AgentValue) → held_on channel x ≡ held k x.channels
          on_is x = ap (λ o. held_on o x) chosen_is

          earlier_none : all_held earlier b ≤ 0
          earlier_none = less_none (all_held earlier b) (all_held earlier a) (sum_less a b taken.all earlier) (none_held a earlier sought)
            where
              less_none : (x y : ℕ) → x ≤ y → y ≤ 0 → x ≤ 0
              less_none x y p q = omega (arith, p, q)

          last_one : (x h g y t : ℕ) → x ≤ 0 → suc h ≤ g → y + t ≤ suc n → t ≡ g → x + h ≤ n
          last_one x h g y t p q r s = omega (arith, p, q, r, s)

          last_none : (x h g : ℕ) → x ≤ 0 → h ≤ g → g ≤ 0 → x + h ≤ n
          last_none x h g p q r = omega (arith, p, q, r)

          by_one : (suc (held k b.channels) ≤ held k a.channels) ⊎ (held k a.channels ≤ 0) → total earlier channel b ≤ n
          by_one (inl fewer) =
              subst (λ m. all_held earlier b + m ≤ n) (sym (on_is b))
              (last_one (all_held earlier b) (on b) (on a) (all_held earlier a) (held_on channel a) earlier_none fewer few (on_is a))
          by_one (inr none) =
              subst (λ m. all_held earlier b + m ≤ n) (sym (on_is b))
              (last_none (all_held earlier b) (on b) (on a) earlier_none (held_less k a.channels b.channels taken.all) none)

  turned_left : (a : AgentValue) → HasLeft (suc n) earlier channel a → HasLeft n earlier channel (turned_on (turning earlier channel a) a).1
  turned_left a has = by_chosen (find (waits_at a) earlier) refl
    where
      none_at_all : (x : ℕ) → x ≤ 0 → x + 0 ≤ n
      none_at_all x none = omega (arith, none)

      few_of : is_full a ≡ false → HasLeft (suc n) earlier channel a → total earlier channel a ≤ suc n
      few_of free (inl full) = let no : true ≡ false = sym full ∙ free in absurd cc
      few_of free (inr few) = few

      by_flag : (k : ℕ) (chosen : Option ℕ) (flag : Bool) → is_full a ≡ flag → find (waits_at a) earlier ≡ chosen → turning_or channel chosen ≡ Some k → HasLeft n earlier channel (turned k a).1
      by_flag k chosen true full is same = inl (ap (λ (x : Turned × AgentValue). is_full x.1) (full_takes_none k a full) ∙ full)
      by_flag k chosen false free is same = inr (turn_left k a free (few_of free has) chosen is same)

      by_turning : (chosen : Option ℕ) → find (waits_at a) earlier ≡ chosen → (turns : Option ℕ) → turning_or channel chosen ≡ turns → HasLeft n earlier channel (turned_on turns a).1
      by_turning chosen is (Some k) same = by_flag k chosen (is_full a) refl is same
      by_turning (Some j) is None same = absurd cc
      by_turning None is None same =
          inr (subst (λ o. all_held earlier a + held_on o a ≤ n) (sym same) (none_at_all (all_held earlier a) (none_held a earlier is)))

      by_chosen : (chosen : Option ℕ) → find (waits_at a) earlier ≡ chosen → HasLeft n earlier channel (turned_on (turning_or channel (find (waits_at a) earlier)) a).1
      by_chosen chosen is = subst (λ o. HasLeft n earlier channel (turned_on (turning_or channel o) a).1) (sym is) (by_turning chosen is (turning_or channel chosen) refl)

-- ---- What is queued goes out, and the chain stays

record GoesOn (a b : AgentValue) : Type 0 where
  full : is_full b ≡ is_full a
  less : NoneHasMore a.channels b.channels

on_then : (a b c : AgentValue) → GoesOn a b → GoesOn b c → GoesOn a c
on_then a b c p q = record { full = q.full ∙ p.full; less = more_then a.channels b.channels c.channels p.less q.less }

emptied_on : (k : ℕ) (a : AgentValue) → GoesOn a (agent_emptied k a)
emptied_on k a = record { full = refl; less = more_changed k emptied emptied_less a.channels }

dropped_on : (channels : List ℕ) (a : AgentValue) → GoesOn a (all_dropped channels a)
dropped_on [] a = record { full = refl; less = more_same a.channels }
dropped_on (k ∷ channels) a = let next = agent_emptied k a in on_then a next (all_dropped channels next) (emptied_on k a) (dropped_on channels next)

from_on : (channel : Option ℕ) (chain : ChainValue) (a : AgentValue) → GoesOn a (carried_from channel chain a).agent
from_on None chain a = record { full = refl; less = more_same a.channels }
from_on (Some k) chain a = emptied_on k a

down_on : (chain : ChainValue) (a : AgentValue) → GoesOn a (carried_down chain a).agent
down_on chain a =
    let next = all_dropped chain.earlier a in on_then a next (carried_from chain.channel chain next).agent (dropped_on chain.earlier a) (from_on chain.channel chain next)

all_on : (chains : List ChainValue) (a : AgentValue) → GoesOn a (all_carried chains a).agent
all_on [] a = record { full = refl; less = more_same a.channels }
all_on (c ∷ chains) a = let next = (carried_down c a).agent in on_then a next (all_carried chains next).agent (down_on c a) (all_on chains next)

module _ (earlier : List ℕ) (channel : Option ℕ) where
  left_on : (n : ℕ) (a b : AgentValue) → GoesOn a b → HasLeft n earlier channel a → HasLeft n earlier channel b
  left_on n a b on (inl full) = inl (on.full ∙ full)
  left_on n a b on (inr few) = inr (by_count (all_held earlier b) (all_held earlier a) (held_on channel b) (held_on channel a) (sum_less a b on.less earlier) (on_less a b on.less channel) few)
    where
      by_count : (x y p q : ℕ) → x ≤ y → p ≤ q → y + q ≤ n → x + p ≤ n
      by_count x y p q one two three = omega (arith, one, two, three)

  -- ---- The chain in its world

  record Has (n at : ℕ) (chains : List ChainValue) (a : AgentValue) : Type 0 where
    chain : ChainValue
    there : slice_get chains at ≡ Some chain
    earlier_is : chain.earlier ≡ earlier
    channel_is : chain.channel ≡ channel
    left : HasLeft n earlier channel a

  abbrev In : ℕ → ℕ → WorldValue → Type 0
  In n at w = Has n at w.chains w.agent

  record Same (chain next : ChainValue) : Type 0 where
    earlier_is : next.earlier ≡ chain.earlier
    channel_is : next.channel ≡ chain.channel

  from_same : (there : Option ℕ) (chain : ChainValue) (a : AgentValue) → Same chain (carried_from there chain a).chain
  from_same None chain a = record { earlier_is = refl; channel_is = refl }
  from_same (Some k) chain a = record { earlier_is = refl; channel_is = refl }

  record There (at : ℕ) (chain : ChainValue) (chains : List ChainValue) : Type 0 where
    next : ChainValue
    there : slice_get chains at ≡ Some next
    same : Same chain next

  all_there : (at : ℕ) (chain : ChainValue) (chains : List ChainValue) (a : AgentValue) → slice_get chains at ≡ Some chain → There at chain (all_carried chains a).chains
  all_there at chain [] a is = absurd cc
  all_there zero chain (c ∷ chains) a is =
      let one : c ≡ chain = cc in record { next = (carried_down c a).chain; there = refl; same = subst (λ x. Same x (carried_down c a).chain) one (from_same c.channel c (all_dropped c.earlier a)) }
  all_there (suc at) chain (c ∷ chains) a is =
      let rest = all_there at chain chains (carried_down c a).agent is in record { next = rest.next; there = rest.there; same = rest.same }

  carried_in : (n at : ℕ) (w : WorldValue) → In n at w → In n at (carried w)
  unfolding carried
  carried_in n at w h =
      let t = all_there at h.chain w.chains w.agent h.there in
      record {
        chain = t.next;
        there = t.there;
        earlier_is = t.same.earlier_is ∙ h.earlier_is;
        channel_is = t.same.channel_is ∙ h.channel_is;
        left = left_on n w.agent (all_carried w.chains w.agent).agent (all_on w.chains w.agent) h.left;
      }

  told_in : (n at : ℕ) (input : Option Input) (w : WorldValue) → In n at w → In n at (carried (with_input input w))
  told_in n at None w h = carried_in n at w h
  told_in n at (Some input) w h =
      carried_in n at (with_input (Some input) w) (record { chain = h.chain; there = h.there; earlier_is = h.earlier_is; channel_is = h.channel_is; left = h.left })

  turn_in : (n at : ℕ) (w : WorldValue) → In (suc n) at w → In n at (turn_of_agent at w)
  turn_in n at w h =
      let next = turned_on (turning h.chain.earlier h.chain.channel w.agent) w.agent in
      let left : HasLeft n earlier channel next.1 =
      subst (λ xs. HasLeft n earlier channel (turned_on (turning xs h.chain.channel w.agent) w.agent).1) (sym h.earlier_is)
      (subst (λ o. HasLeft n earlier channel (turned_on (turning earlier o w.agent) w.agent).1) (sym h.channel_is) (turned_left n earlier channel w.agent h.left)) in
      subst (λ o. In n at (agent_turned at o w)) (sym h.there)
      (told_in n at next.0 (record w { agent = next.1 }) (record { chain = h.chain; there = h.there; earlier_is = h.earlier_is; channel_is = h.channel_is; left = left }))

  turns_in : (n at : ℕ) (w : WorldValue) → In n at w → In 0 at (repeated n (turn_of_agent at) w)
  turns_in zero at w h = h
  turns_in (suc n) at w h = turns_in n at (turn_of_agent at w) (turn_in n at w h)

  -- ---- In the end

  sum_none : (a : AgentValue) (channels : List ℕ) → all_held channels a ≤ 0 → sum_by (λ k. waiting_at (channel_of k a)) channels ≡ 0
  sum_none a [] few = refl
  sum_none a (k ∷ channels) few =
      let all = sum_by-cons (λ j. held j a.channels) k channels in
      both_none (waiting_at (channel_of k a)) (sum_by (λ j. waiting_at (channel_of j a)) channels) (sum_by (λ j. waiting_at (channel_of j a)) (k ∷ channels))
      (one_none k a (omega (arith, few, all))) (sum_none a channels (omega (arith, few, all))) (sum_by-cons (λ j. waiting_at (channel_of j a)) k channels)
    where
      both_none : (x y m : ℕ) → x ≡ 0 → y ≡ 0 → m ≡ x + y → m ≡ 0
      both_none x y m one two three = omega (arith, one, two, three)

      by_there : (there : Option Channel) → held_of there ≤ 0 → waiting_at there ≡ 0
      by_there None none = refl
      by_there (Some c) none = none_counted c.end none

      one_none : (j : ℕ) (x : AgentValue) → held j x.channels ≤ 0 → waiting_at (channel_of j x) ≡ 0
      one_none j x none = ap waiting_at (found_is j x) ∙ by_there (found j x.channels) none

  last_none : (a : AgentValue) (there : Option ℕ) → held_on there a ≤ 0 → waiting_for there a ≡ 0
  last_none a None few = refl
  last_none a (Some k) few = ap waiting_at (found_is k a) ∙ by_there (found k a.channels) few
    where
      by_there : (o : Option Channel) → held_of o ≤ 0 → waiting_at o ≡ 0
      by_there None none = refl
      by_there (Some c) none = none_counted c.end none

  ends_so : (a : AgentValue) (chain : ChainValue) → chain.earlier ≡ earlier → chain.channel ≡ channel → HasLeft 0 earlier channel a → AgentTakesNoMore a chain
  ends_so a chain earlier_is channel_same (inl full) = inl full
  ends_so a chain earlier_is channel_same (inr few) =
      inr (ap (λ xs. waiting_up xs chain.channel a) earlier_is ∙ ap (λ o. waiting_up earlier o a) channel_same
      ∙ both_none (sum_by (λ k. waiting_at (channel_of k a)) earlier) (waiting_for channel a) (sum_none a earlier (first_none (all_held earlier a) (held_on channel a) few))
      (last_none a channel (second_none (all_held earlier a) (held_on channel a) few)))
    where
      both_none : (x y : ℕ) → x ≡ 0 → y ≡ 0 → x + y ≡ 0
      both_none x y one two = omega (arith, one, two)

      first_none : (x y : ℕ) → x + y ≤ 0 → x ≤ 0
      first_none x y less = omega (arith, less)

      second_none : (x y : ℕ) → x + y ≤ 0 → y ≤ 0
      second_none x y less = omega (arith, less)

-- ---- All that waits

abbrev AreFew : AgentValue → List ℕ → Type 0
AreFew a channels = AllByRecursion (λ k. waiting_at (channel_of k a) < most_counted) channels

held_counted : (k : ℕ) (a : AgentValue) → waiting_at (channel_of k a) < most_counted → held k a.channels ≤ waiting_at (channel_of k a)
held_counted k a few = subst (λ o. held_of (found k a.channels) ≤ waiting_at o) (sym (found_is k a)) (by_there (found k a.channels) (subst (λ o. waiting_at o < most_counted) (found_is k a) few))
  where
    by_there : (there : Option Channel) → waiting_at there < most_counted → held_of there ≤ waiting_at there
    by_there None less = omega arith
    by_there (Some c) less = counted c.end less

sum_counted : (a : AgentValue) (channels more : List ℕ) → AreFew a (channels ++ more) → all_held channels a ≤ sum_by (λ k. waiting_at (channel_of k a)) channels
sum_counted a [] more few = omega arith
sum_counted a (k ∷ channels) more few =
    let one = held_counted k a few.0 in
    let rest = sum_counted a channels more few.1 in
    let before = sum_by-cons (λ j. held j a.channels) k channels in
    let after = sum_by-cons (λ j. waiting_at (channel_of j a)) k channels in
    omega (arith, one, rest, before, after)

last_counted : (a : AgentValue) (channels : List ℕ) (channel : Option ℕ) → AreFew a (channels ++ option_to_list channel) → held_on channel a ≤ waiting_for channel a
last_counted a (k ∷ channels) channel few = last_counted a channels channel few.1
last_counted a [] None few = omega arith
last_counted a [] (Some k) few = held_counted k a few.0

pub agent_took_all : (at : ℕ) (w : WorldValue) → IfSome (slice_get w.chains at) (λ chain. AreFew w.agent (channels_of chain))
    → IfSome (slice_get (agent_taken at w).chains at) (AgentTakesNoMore (agent_taken at w).agent)
agent_took_all at w few = by_chain (slice_get w.chains at) refl
  where
    Turned_so : WorldValue → Type 0
    Turned_so v = IfSome (slice_get v.chains at) (AgentTakesNoMore v.agent)

    both_few : (x y p q : ℕ) → x ≤ p → y ≤ q → x + y ≤ p + q
    both_few x y p q one two = omega (arith, one, two)

    by_chain : (there : Option ChainValue) → slice_get w.chains at ≡ there → Turned_so (repeated (waiting_in_chain there w) (turn_of_agent at) w)
    by_chain None is = subst (λ o. IfSome o (AgentTakesNoMore w.agent)) (sym is) tt
    by_chain (Some chain) is =
        let n = waiting_up chain.earlier chain.channel w.agent in
        let have : AreFew w.agent (channels_of chain) = subst (λ o. IfSome o (λ c. AreFew w.agent (channels_of c))) is few in
        let first = sum_counted w.agent chain.earlier (option_to_list chain.channel) have in
        let last = last_counted w.agent chain.earlier chain.channel have in
        let h : In chain.earlier chain.channel n at w = record { chain = chain; there = is; earlier_is = refl; channel_is = refl; left = inr (both_few (all_held chain.earlier w.agent) (held_on chain.channel w.agent) (sum_by (λ k. waiting_at (channel_of k w.agent)) chain.earlier) (waiting_for chain.channel w.agent) first last) } in
        let v = repeated n (turn_of_agent at) w in
        let end : In chain.earlier chain.channel 0 at v = turns_in chain.earlier chain.channel n at w h in
        subst (λ o. IfSome o (AgentTakesNoMore v.agent)) (sym end.there) (ends_so chain.earlier chain.channel v.agent end.chain end.earlier_is end.channel_is end.left)

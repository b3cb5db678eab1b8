-- A traffic of which each crossing is as it must be, behind those before it, is that of a relay.
use Rattle.std.proofs.Common.{◌≡◌, ℕ, ⊎_elim, true, List, [], ◌∷◌, ◌++◌, map, refl, sym, ap, ◌∙◌, subst, append_assoc, append-nil}
use Rattle.std.specs.List.{Contains}
use Rattle.std.proofs.lemmas.List.Concat.{flat_map-append}
use Rattle.std.proofs.lemmas.List.{map-append}
use Rattle.std.proofs.lemmas.List.Elements.{Contains-append_right}
use Rattle.channel_core.specs.Arrivals.{Spoken}
use Rattle.value_node.specs.Asked.{Asked}
use Rattle.relay_laws.specs.Relay.{Crossing, ForwardsInOrder, IsRelay, IsStoredAnswer, PassesAllOn, answered_by, answered_in, answers, asks, ends, forwarded_by, forwarded_in, forwards, hears, passes, takes, tells, told_in}
use Rattle.chain_told.proofs.Splits.{Places, before, behind, one, places}
use Rattle.list_laws.proofs.Contained.{contains_cases, contains_first, none_in}

-- ---- Each crossing

abbrev pub IsApart : List Crossing → Crossing → Type 0
IsApart done (forwards number c) = Contains (answered_in done) number → ⊥
IsApart done (answers number s) = IsStoredAnswer done done number s
IsApart done _ = Unit {0}

pub record IsGood (done : List Crossing) (next : Crossing) : Type 0 where
  pub order : ForwardsInOrder (done ++ next ∷ [])
  pub all : takes next ≡ true → PassesAllOn done
  pub now : tells next ≡ true → PassesAllOn (done ++ next ∷ [])
  pub apart : IsApart done next

abbrev pub AreGood : List Crossing → List Crossing → Type 0
AreGood done [] = Unit {0}
AreGood done (next ∷ rest) = IsGood done next × AreGood (done ++ next ∷ []) rest

pub good_both : (done xs ys : List Crossing) → AreGood done xs → AreGood (done ++ xs) ys → AreGood done (xs ++ ys)
good_both done [] ys first second = subst (λ d. AreGood d ys) (append-nil done) second
good_both done (x ∷ xs) ys first second =
    (first.0, good_both (done ++ x ∷ []) xs ys first.1 (subst (λ d. AreGood d ys) (sym (append_assoc done (x ∷ []) xs)) second))

good_within : (front done rest : List Crossing) (next : Crossing) → AreGood front (done ++ next ∷ rest) → IsGood (front ++ done) next
good_within front [] rest next all = subst (λ d. IsGood d next) (sym (append-nil front)) all.0
good_within front (first ∷ done) rest next all =
    subst (λ d. IsGood d next) (append_assoc front (first ∷ []) done) (good_within (front ++ first ∷ []) done rest next all.1)

pub good_at : (traffic done rest : List Crossing) (next : Crossing) → AreGood [] traffic → traffic ≡ done ++ next ∷ rest → IsGood done next
good_at traffic done rest next all whole = good_within [] done rest next (subst (AreGood []) whole all)

-- ---- The command of a number that is sent above

record IsSent (traffic : List Crossing) (number : ℕ) : Type 0 where
  front : List Crossing
  command : Asked
  back : List Crossing
  are : traffic ≡ front ++ forwards number command ∷ back

sent_further : (x : Crossing) (traffic : List Crossing) (number : ℕ) → IsSent traffic number → IsSent (x ∷ traffic) number
sent_further x traffic number s = record { front = x ∷ s.front; command = s.command; back = s.back; are = ap (λ xs. x ∷ xs) s.are }

sent_where : (traffic : List Crossing) (number : ℕ) → Contains (map (λ row. row.0) (forwarded_in traffic)) number → IsSent traffic number
sent_where [] number there = absurd (none_in number there)
sent_where (asks c ∷ traffic) number there = sent_further (asks c) traffic number (sent_where traffic number there)
sent_where (forwards k c ∷ traffic) number there = ⊎_elim
    (λ same. record { front = []; command = c; back = traffic; are = ap (λ n. forwards n c ∷ traffic) same })
    (λ rest. sent_further (forwards k c) traffic number (sent_where traffic number rest))
    (contains_cases k (map (λ row. row.0) (forwarded_in traffic)) number there)
sent_where (hears h ∷ traffic) number there = sent_further (hears h) traffic number (sent_where traffic number there)
sent_where (passes s ∷ traffic) number there = sent_further (passes s) traffic number (sent_where traffic number there)
sent_where (answers k s ∷ traffic) number there = sent_further (answers k s) traffic number (sent_where traffic number there)
sent_where (ends ∷ traffic) number there = sent_further ends traffic number (sent_where traffic number there)

contains_number : (front : List Crossing) (number : ℕ) (c : Asked) (between : List Crossing) → Contains (map (λ row. row.0) (forwarded_in (front ++ forwards number c ∷ between))) number
contains_number front number c between =
    let are : map (λ row. row.0) (forwarded_in (front ++ forwards number c ∷ between)) ≡ map (λ row. row.0) (forwarded_in front) ++ number ∷ map (λ row. row.0) (forwarded_in between) =
    ap (map (λ row. row.0)) (flat_map-append forwarded_by front (forwards number c ∷ between)) ∙ map-append (λ row. row.0) (forwarded_in front) ((number, c) ∷ forwarded_in between) in
    subst (λ xs. Contains xs number) (sym are)
    (Contains-append_right (map (λ row. row.0) (forwarded_in front)) (number ∷ map (λ row. row.0) (forwarded_in between)) number (contains_first number (map (λ row. row.0) (forwarded_in between))))

contains_answered : (front : List Crossing) (number : ℕ) (s : Spoken) (between : List Crossing) → Contains (answered_in (front ++ answers number s ∷ between)) number
contains_answered front number s between =
    subst (λ xs. Contains xs number) (sym (flat_map-append answered_by front (answers number s ∷ between)))
    (Contains-append_right (answered_in front) (number ∷ answered_in between) number (contains_first number (answered_in between)))

-- ---- The relay

pub record IsLastOf (xs : List Crossing) : Type 0 where
  pub front : List Crossing
  pub last : Crossing
  pub are : xs ≡ front ++ last ∷ []

last_of : (x : Crossing) (xs : List Crossing) → IsLastOf (x ∷ xs)
last_of x [] = record { front = []; last = x; are = refl }
last_of x (y ∷ xs) = let rest = last_of y xs in record { front = x ∷ rest.front; last = rest.last; are = ap (λ zs. x ∷ zs) rest.are }

nothing_in_order : ForwardsInOrder []
nothing_in_order = record { order = tt; own = tt; tokens = λ i k c d one other same. absurd cc; through = ([], refl) }

module _ (traffic : List Crossing) (good : AreGood [] traffic) where
  in_order : (done rest : List Crossing) → traffic ≡ done ++ rest → ForwardsInOrder done
  in_order [] rest whole = nothing_in_order
  in_order (x ∷ xs) rest whole =
      let l = last_of x xs in
      let split : traffic ≡ l.front ++ l.last ∷ rest = whole ∙ ap (λ ys. ys ++ rest) l.are ∙ append_assoc l.front (l.last ∷ []) rest in
      subst ForwardsInOrder (sym l.are) (good_at traffic l.front rest l.last good split).order

  never_sent : (done rest : List Crossing) (number : ℕ) (s : Spoken) → traffic ≡ done ++ answers number s ∷ rest → IsStoredAnswer done done number s
      → Contains (map (λ row. row.0) (forwarded_in traffic)) number → ⊥
  never_sent done rest number s whole a there = by_places (sent_where traffic number there)
    where
      by_place : (w : IsSent traffic number) → Places done (answers number s) w.front (forwards number w.command) → ⊥
      by_place w (one o) = let same : answers number s ≡ forwards number w.command = o.item in absurd cc
      by_place w (before o) =
          let g = good_at traffic w.front w.back (forwards number w.command) good w.are in
          g.apart (subst (λ xs. Contains (answered_in xs) number) (sym o.are) (contains_answered done number s o.between))
      by_place w (behind o) = a.unsent (subst (λ xs. Contains (map (λ row. row.0) (forwarded_in xs)) number) (sym o.are) (contains_number w.front number w.command o.between))

      by_places : IsSent traffic number → ⊥
      by_places w = by_place w (places done (answers number s) rest w.front (forwards number w.command) w.back (sym whole ∙ w.are))

  pub relay_of : ((done rest : List Crossing) → traffic ≡ done ++ ends ∷ rest → told_in rest ≡ []) → IsRelay traffic
  relay_of stops = record {
    forwards_in_order = in_order;
    passes_all = λ done rest next whole taken. (good_at traffic done rest next good whole).all taken;
    passes_now = λ done rest last whole told. (good_at traffic done rest last good whole).now told;
    answers_rightly = λ done rest number s whole.
        let a = (good_at traffic done rest (answers number s) good whole).apart in
        record {
          command = a.command;
          asked = a.asked;
          storable = a.storable;
          body = a.body;
          answer = a.answer;
          unsent = never_sent done rest number s whole a;
          once = a.once;
          settled = a.settled;
          marked = a.marked;
          known = a.known;
        };
    stops = stops;
  }

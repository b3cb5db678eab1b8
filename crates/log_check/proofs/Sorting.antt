-- A log's commands, one by one.
use Rattle.std.proofs.Common.{◌≡◌, ℕ, zero, suc, ◌+◌, ◌-◌, ◌==◌, ◌||◌, ◌&&◌, not, Bool, true, false, cond, List, [], ◌∷◌, ◌++◌, drop, length, map, refl, sym, ◌∙◌, ap, ap₂, subst, append_assoc, append-nil, arith, inl, inr}
use Rattle.std.specs.Prelude.{Option, Some, None, slice_get}
use Rattle.std.specs.BTreeSet.{BTreeSet, contains}
use Rattle.std.specs.Ordering.{nat_cmp}
use Rattle.std.specs.List.{AllByRecursion, Contains, filter, flat_map, list_any, range_with_len}
use Rattle.std.proofs.lemmas.Bool.{cases_Bool, cond-false, cond-true, eq-eqb, eqb-true, false≢true, or_cases}
use Rattle.std.proofs.lemmas.List.{map-append}
use Rattle.std.proofs.lemmas.List.Concat.{flat_map-append}
use Rattle.std.proofs.lemmas.List.Folds.{list_any-append}
use Rattle.std.proofs.lemmas.List.Elements.{Contains-append_right}
use Rattle.list_laws.proofs.AllLists.{all_push}
use Rattle.list_laws.proofs.Contained.{contains_cases, contains_first, none_in}
use Rattle.list_laws.proofs.Flags.{or_false, or_true, same_flag}
use Rattle.command_tables.specs.declared.reading.Reading.{Reading}
use Rattle.command_tables.specs.declared.reading.Reading.TheVariants as readings
use Rattle.tcf_values.specs.Changing.{changes}
use Rattle.tcf_values.specs.Storable.{stores}
use Rattle.tcf_text.specs.Lines.{Accepted, accepted, accepted_by, bare_answer_of}
use Rattle.tcf_text.specs.Once.{AreCounted, numbers}
use Rattle.tcf_text.specs.declared.log.LogLine.{LogLine}
use Rattle.target_hub.specs.Ordered.{through}
use Rattle.target_hub.specs.Received.{goes_through, is_through_number, read}
use Rattle.target_hub.specs.Sent.{is_through}
use Rattle.log_check.specs.Sorts.{AreOfLog, AreSorted, HasItsSort, IsAnsweredIn, IsCommandIn, IsCommandOf, IsOfNone, accepted_as, as_accepted, is_bare, is_sent_on, passes, sort_by}
use Rattle.log_check.specs.declared.sorts.Command.{Command}
use Rattle.log_check.specs.declared.sorts.Sort.TheVariants.{Storable, Through, Barrier}

-- ---- the numbers of the messages without a position

pub record BareSo (lines left : List LogLine) (bare : BTreeSet ℕ) : Type 0 where
  pub before : List LogLine
  pub whole : lines ≡ before ++ left
  pub seen : (q : ℕ) → contains nat_cmp bare q ≡ is_bare before q

pub bare_first : (lines : List LogLine) (bare : BTreeSet ℕ) → ((q : ℕ) → contains nat_cmp bare q ≡ false) → BareSo lines lines bare
bare_first lines bare none = record { before = []; whole = refl; seen = none }

behind_one : {A : Type 0} (lines before left after : List A) (line : A) → lines ≡ before ++ left → left ≡ line ∷ after → lines ≡ (before ++ line ∷ []) ++ after
behind_one lines before left after line whole is = whole ∙ (ap (λ l. before ++ l) is ∙ sym (append_assoc before (line ∷ []) after))

bare_more : (before : List LogLine) (line : LogLine) (q : ℕ) → is_bare (before ++ line ∷ []) q ≡ (is_bare before q || list_any (λ n. n == q) (bare_answer_of line))
bare_more before line q =
    ap (λ l. list_any (λ n. n == q) l) (flat_map-append bare_answer_of before (line ∷ []) ∙ ap (λ l. flat_map bare_answer_of before ++ l) (append-nil (bare_answer_of line)))
    ∙ list_any-append (λ n. n == q) (flat_map bare_answer_of before) (bare_answer_of line)

pub bare_one : (lines left after : List LogLine) (line : LogLine) (number : ℕ) (bare new : BTreeSet ℕ) → BareSo lines left bare → left ≡ line ∷ after → bare_answer_of line ≡ number ∷ []
    → ((q : ℕ) → contains nat_cmp new q ≡ (contains nat_cmp bare q || (number == q))) → BareSo lines after new
bare_one lines left after line number bare new s is one more =
    record {
      before = s.before ++ line ∷ [];
      whole = behind_one lines s.before left after line s.whole is;
      seen = λ q.
          more q
          ∙ (ap₂ (λ x y. x || y) (s.seen q) (sym (or_false (number == q)))
          ∙ (ap (λ l. is_bare s.before q || list_any (λ n. n == q) l) (sym one) ∙ sym (bare_more s.before line q)));
    }

pub bare_other : (lines left after : List LogLine) (line : LogLine) (bare : BTreeSet ℕ) → BareSo lines left bare → left ≡ line ∷ after → bare_answer_of line ≡ [] → BareSo lines after bare
bare_other lines left after line bare s is none =
    record {
      before = s.before ++ line ∷ [];
      whole = behind_one lines s.before left after line s.whole is;
      seen = λ q. s.seen q ∙ (sym (or_false (is_bare s.before q)) ∙ (ap (λ l. is_bare s.before q || list_any (λ n. n == q) l) (sym none) ∙ sym (bare_more s.before line q)));
    }

pub bare_last : (lines left : List LogLine) (bare : BTreeSet ℕ) → BareSo lines left bare → left ≡ [] → (q : ℕ) → contains nat_cmp bare q ≡ is_bare lines q
bare_last lines left bare s is q = s.seen q ∙ ap (λ l. is_bare l q) (sym (s.whole ∙ (ap (λ l. s.before ++ l) is ∙ append-nil s.before)))

-- ---- the commands of a log

pub record OfSo (lines left : List LogLine) (commands : List Command) : Type 0 where
  pub before : List LogLine
  pub whole : lines ≡ before ++ left
  pub accepted_are : as_accepted commands ≡ accepted before
  pub sorts : AllByRecursion HasItsSort commands
  pub bare : AllByRecursion (IsAnsweredIn lines) commands

pub of_first : (lines : List LogLine) (commands : List Command) → commands ≡ [] → OfSo lines lines commands
of_first lines commands none =
    record {
      before = [];
      whole = refl;
      accepted_are = ap as_accepted none;
      sorts = subst (AllByRecursion HasItsSort) (sym none) tt;
      bare = subst (AllByRecursion (IsAnsweredIn lines)) (sym none) tt;
    }

accepted_more : (before : List LogLine) (line : LogLine) → accepted (before ++ line ∷ []) ≡ accepted before ++ accepted_by line
accepted_more before line = flat_map-append accepted_by before (line ∷ []) ∙ ap (λ l. accepted before ++ l) (append-nil (accepted_by line))

pub of_one : (lines left after : List LogLine) (line : LogLine) (commands new : List Command) (c : Command) (bare : BTreeSet ℕ) → OfSo lines left commands → left ≡ line ∷ after → IsCommandIn line (Some c)
    → c.is_bare ≡ contains nat_cmp bare c.number → ((q : ℕ) → contains nat_cmp bare q ≡ is_bare lines q) → new ≡ commands ++ c ∷ [] → OfSo lines after new
of_one lines left after line commands new c bare s is command answered seen pushed =
    record {
      before = s.before ++ line ∷ [];
      whole = behind_one lines s.before left after line s.whole is;
      accepted_are =
          ap as_accepted pushed ∙ (map-append accepted_as commands (c ∷ []) ∙ (ap (λ l. l ++ accepted_as c ∷ []) s.accepted_are ∙ (ap (λ l. accepted s.before ++ l) (sym command.0) ∙ sym (accepted_more s.before line))));
      sorts = subst (AllByRecursion HasItsSort) (sym pushed) (all_push HasItsSort commands c s.sorts command.1);
      bare = subst (AllByRecursion (IsAnsweredIn lines)) (sym pushed) (all_push (IsAnsweredIn lines) commands c s.bare (answered ∙ seen c.number));
    }

pub of_other : (lines left after : List LogLine) (line : LogLine) (commands : List Command) → OfSo lines left commands → left ≡ line ∷ after → IsCommandIn line None → OfSo lines after commands
of_other lines left after line commands s is none =
    record {
      before = s.before ++ line ∷ [];
      whole = behind_one lines s.before left after line s.whole is;
      accepted_are = s.accepted_are ∙ (sym (append-nil (accepted s.before)) ∙ (ap (λ l. accepted s.before ++ l) (sym none) ∙ sym (accepted_more s.before line)));
      sorts = s.sorts;
      bare = s.bare;
    }

pub of_other_by : (lines left after : List LogLine) (line : LogLine) (commands : List Command) (found : Option Command) → OfSo lines left commands → left ≡ line ∷ after → IsCommandIn line found
    → ((c : Command) → found ≡ Some c → ⊥) → OfSo lines after commands
of_other_by lines left after line commands None s is none not = of_other lines left after line commands s is none
of_other_by lines left after line commands (Some c) s is none not = absurd (not c refl)

pub of_last : (lines left : List LogLine) (commands : List Command) → OfSo lines left commands → left ≡ [] → AreOfLog lines commands
of_last lines left commands s is =
    let all : lines ≡ s.before = s.whole ∙ (ap (λ l. s.before ++ l) is ∙ append-nil s.before) in
    record { accepted_are = s.accepted_are ∙ ap accepted (sym all); sorts = s.sorts; bare = s.bare }

-- the commands of a log that numbers them
pub sorted : (log : List LogLine) (commands : List Command) → AreOfLog log commands → AreCounted (accepted log) → AreSorted commands
sorted log commands of counted = record { counted = subst AreCounted (sym of.accepted_are) counted; sorts = of.sorts }

-- ---- the command of a number

record IsAt {A : Type 0} (xs : List A) (x : A) : Type 0 where
  pub place : ℕ
  pub is : slice_get xs place ≡ Some x

is_at : {A : Type 0} → (xs : List A) (x : A) → Contains xs x → IsAt xs x
is_at [] x there = absurd (none_in x there)
is_at (y ∷ xs) x there =
    elim (contains_cases y xs x there) [
      | inl here ↦ record { place = 0; is = ap (λ z. Some z) here }
      | inr later ↦ let rest = is_at xs x later in record { place = suc rest.place; is = rest.is }
    ]

at_there : {A : Type 0} → (i : ℕ) (xs : List A) (x : A) → slice_get xs i ≡ Some x → Contains xs x
at_there i [] x is = absurd cc
at_there zero (y ∷ xs) x is = let same : y ≡ x = cc in subst (Contains (y ∷ xs)) same (contains_first y xs)
at_there (suc i) (y ∷ xs) x is = Contains-append_right (y ∷ []) xs x (at_there i xs x is)

get_mapped : {A B : Type 0} → (f : A → B) (i : ℕ) (xs : List A) (x : A) → slice_get xs i ≡ Some x → slice_get (map f xs) i ≡ Some (f x)
get_mapped f i [] x is = absurd cc
get_mapped f zero (y ∷ xs) x is = let same : y ≡ x = cc in ap (λ z. Some (f z)) same
get_mapped f (suc i) (y ∷ xs) x is = get_mapped f i xs x is

none_mapped : {A B : Type 0} → (f : A → B) (i : ℕ) (xs : List A) → slice_get xs i ≡ None → slice_get (map f xs) i ≡ None
none_mapped f i [] is = refl
none_mapped f zero (y ∷ xs) is = absurd cc
none_mapped f (suc i) (y ∷ xs) is = none_mapped f i xs is

-- the numbers rise from a number on, one by one
number_at : (from i : ℕ) (xs : List Accepted) (a : Accepted) → numbers xs ≡ range_with_len from (length xs) → slice_get xs i ≡ Some a → a.number ≡ from + i
number_at from i [] a counted is = absurd cc
number_at from zero (x ∷ xs) a counted is =
    let first : x.number ≡ from = cc in
    let same : x ≡ a = cc in
    let here : a.number ≡ x.number = ap (λ (y : Accepted). y.number) (sym same) in omega (arith, first, here)
number_at from (suc i) (x ∷ xs) a counted is =
    let others : numbers xs ≡ range_with_len (from + 1) (length xs) = cc in
    let rest = number_at (from + 1) i xs a others is in omega (arith, rest)

pub place_of : (xs : List Accepted) (a : Accepted) (number : ℕ) → AreCounted xs → Contains xs a → a.number ≡ number → (number ≡ 0 → ⊥) × (slice_get xs (number - 1) ≡ Some a)
place_of xs a number counted there numbered =
    let at = is_at xs a there in
    let is = number_at 1 at.place xs a counted at.is in
    let place : at.place ≡ number - 1 = omega (arith, is, numbered) in
    ((λ none. omega (arith, is, numbered, none)), subst (λ i. slice_get xs i ≡ Some a) place at.is)

pub zero_is_none : (commands : List Command) (number : ℕ) → AreSorted commands → number ≡ 0 → IsOfNone commands number
zero_is_none commands number s none = record { none = λ other there numbered. (place_of (as_accepted commands) other number s.counted there numbered).0 none }

pub none_there : (commands : List Command) (number : ℕ) → AreSorted commands → slice_get commands (number - 1) ≡ None → IsOfNone commands number
none_there commands number s none =
    record {
      none = λ other there numbered.
          no_some other (sym (none_mapped accepted_as (number - 1) commands none) ∙ (place_of (as_accepted commands) other number s.counted there numbered).1);
    }
  where
    no_some : (x : Accepted) → None ≡ Some x → ⊥
    no_some x is = cc

sort_there : (i : ℕ) (commands : List Command) (c : Command) → AllByRecursion HasItsSort commands → slice_get commands i ≡ Some c → HasItsSort c
sort_there i [] c all is = absurd cc
sort_there zero (d ∷ commands) c all is = let same : d ≡ c = cc in subst HasItsSort same all.0
sort_there (suc i) (d ∷ commands) c all is = sort_there i commands c all.1 is

pub command_there : (commands : List Command) (number : ℕ) (c : Command) → AreSorted commands → (number ≡ 0 → ⊥) → slice_get commands (number - 1) ≡ Some c → IsCommandOf commands number c
command_there commands number c s some is =
    let here = get_mapped accepted_as (number - 1) commands c is in
    let numbered = number_at 1 (number - 1) (as_accepted commands) (accepted_as c) s.counted here in
    record {
      there = at_there (number - 1) (as_accepted commands) (accepted_as c) here;
      numbered = omega (arith, numbered, some);
      sort = sort_there (number - 1) commands c s.sorts is;
      alone = λ other there same. same_some other (accepted_as c) (sym (place_of (as_accepted commands) other number s.counted there same).1 ∙ here);
    }
  where
    same_some : (x y : Accepted) → Some x ≡ Some y → x ≡ y
    same_some x y is = cc

-- ---- whether the target alone answers it

sent_on : (reading : Reading) → is_sent_on (sort_by reading) ≡ is_through reading
sent_on (readings.Known command) = by_flags (stores command) (changes command)
  where
    by_flags : (s c : Bool) → is_sent_on (cond s Storable (cond c Barrier Through)) ≡ not s
    by_flags true c = refl
    by_flags false true = refl
    by_flags false false = refl
sent_on readings.Unknown = refl
sent_on (readings.Bad index code) = refl

pub goes_as : (c : Command) → HasItsSort c → is_sent_on c.sort ≡ goes_through (accepted_as c)
goes_as c sort = ap is_sent_on sort ∙ sent_on (read (accepted_as c)).reading

abbrev goes_under : ℕ → Accepted → Bool
goes_under number c = cond (c.number == number) (goes_through c) false

any_there : (number : ℕ) (xs : List Accepted) (a : Accepted) → Contains xs a → goes_under number a ≡ true → list_any (goes_under number) xs ≡ true
any_there number [] a there goes = absurd (none_in a there)
any_there number (x ∷ xs) a there goes =
    elim (contains_cases x xs a there) [
      | inl here ↦ ap (λ b. b || list_any (goes_under number) xs) (ap (goes_under number) here ∙ goes)
      | inr later ↦ ap (λ b. goes_under number x || b) (any_there number xs a later goes) ∙ or_true (goes_under number x)
    ]

record IsUnder (number : ℕ) (xs : List Accepted) : Type 0 where
  pub a : Accepted
  pub there : Contains xs a
  pub numbered : a.number ≡ number
  pub goes : goes_through a ≡ true

under_parts : (n number : ℕ) (goes : Bool) → cond (n == number) goes false ≡ true → (n ≡ number) × (goes ≡ true)
under_parts n number goes is =
    elim (cases_Bool (n == number)) [
      | inl e ↦ (eqb-true n number e, sym (cond-true (n == number) goes false e) ∙ is)
      | inr e ↦ absurd (false≢true (sym (cond-false (n == number) goes false e) ∙ is))
    ]

there_any : (number : ℕ) (xs : List Accepted) → list_any (goes_under number) xs ≡ true → IsUnder number xs
there_any number [] is = absurd (false≢true is)
there_any number (x ∷ xs) is =
    elim (or_cases (goes_under number x) (list_any (goes_under number) xs) is) [
      | inl here ↦ let parts = under_parts x.number number (goes_through x) here in record { a = x; there = contains_first x xs; numbered = parts.0; goes = parts.1 }
      | inr later ↦
          let rest = there_any number xs later in record { a = rest.a; there = Contains-append_right (x ∷ []) xs rest.a rest.there; numbered = rest.numbered; goes = rest.goes }
    ]

pub through_there : (commands : List Command) (number : ℕ) (c : Command) → IsCommandOf commands number c → is_sent_on c.sort ≡ is_through_number number (as_accepted commands)
through_there commands number c of =
    same_flag (is_sent_on c.sort) (is_through_number number (as_accepted commands)) there back
  where
    there : is_sent_on c.sort ≡ true → is_through_number number (as_accepted commands) ≡ true
    there goes =
        any_there number (as_accepted commands) (accepted_as c) of.there (cond-true (c.number == number) (goes_through (accepted_as c)) false (eq-eqb c.number number of.numbered) ∙ (sym (goes_as c of.sort) ∙ goes))

    back : is_through_number number (as_accepted commands) ≡ true → is_sent_on c.sort ≡ true
    back any =
        let under = there_any number (as_accepted commands) any in
        goes_as c of.sort ∙ (ap goes_through (sym (of.alone under.a under.there under.numbered)) ∙ under.goes)

pub through_none : (commands : List Command) (number : ℕ) → IsOfNone commands number → false ≡ is_through_number number (as_accepted commands)
through_none commands number none =
    elim (cases_Bool (is_through_number number (as_accepted commands))) [
      | inl any ↦ let under = there_any number (as_accepted commands) any in absurd (none.none under.a under.there under.numbered)
      | inr isnt ↦ sym isnt
    ]

-- ---- those that go through

pub got_there : {A : Type 0} (xs : List A) (i : ℕ) (x : A) → slice_get xs i ≡ Some x → drop i xs ≡ x ∷ drop (i + 1) xs
got_there [] i x is = absurd cc
got_there (y ∷ xs) zero x is = let same : y ≡ x = cc in ap (λ z. z ∷ xs) same
got_there (y ∷ xs) (suc i) x is = got_there xs i x is ∙ ap (λ n. x ∷ drop n (y ∷ xs)) {x = suc (i + 1)} {y = suc i + 1} (omega arith)

pub got_nothing : {A : Type 0} (xs : List A) (i : ℕ) → slice_get xs i ≡ None → drop i xs ≡ []
got_nothing [] zero is = refl
got_nothing [] (suc i) is = refl
got_nothing (y ∷ xs) zero is = absurd cc
got_nothing (y ∷ xs) (suc i) is = got_nothing xs i is

pub passing_next : (commands : List Command) (done at at' : ℕ) (c : Command) → filter passes (drop done commands) ≡ filter passes (drop at commands) → slice_get commands at ≡ Some c → passes c ≡ false
    → at' ≡ at + 1 → filter passes (drop done commands) ≡ filter passes (drop at' commands)
passing_next commands done at at' c so is isnt one =
    so
    ∙ (ap (filter passes) (got_there commands at c is)
    ∙ (cond-false (passes c) (c ∷ filter passes (drop (at + 1) commands)) (filter passes (drop (at + 1) commands)) isnt ∙ ap (λ n. filter passes (drop n commands)) (sym one)))

pub passing_here : (commands : List Command) (done at at' : ℕ) (c : Command) → filter passes (drop done commands) ≡ filter passes (drop at commands) → slice_get commands at ≡ Some c → passes c ≡ true
    → at' ≡ at + 1 → filter passes (drop done commands) ≡ c ∷ filter passes (drop at' commands)
passing_here commands done at at' c so is here one =
    so
    ∙ (ap (filter passes) (got_there commands at c is)
    ∙ (cond-true (passes c) (c ∷ filter passes (drop (at + 1) commands)) (filter passes (drop (at + 1) commands)) here ∙ ap (λ n. c ∷ filter passes (drop n commands)) (sym one)))

pub passing_none : (commands : List Command) (done at : ℕ) → filter passes (drop done commands) ≡ filter passes (drop at commands) → slice_get commands at ≡ None → filter passes (drop done commands) ≡ []
passing_none commands done at so is = so ∙ ap (filter passes) (got_nothing commands at is)

-- those of a log
abbrev pub goes_in : List LogLine → Accepted → Bool
goes_in log c = goes_through c && not (list_any (λ number. number == c.number) (flat_map bare_answer_of log))

kept_by : (c : Command) (p g : Bool) (ps : List Command) (gs : List Accepted) → p ≡ g → as_accepted ps ≡ gs → as_accepted (cond p (c ∷ ps) ps) ≡ cond g (accepted_as c ∷ gs) gs
kept_by c true true ps gs same rest = ap (λ l. accepted_as c ∷ l) rest
kept_by c true false ps gs same rest = absurd (false≢true (sym same))
kept_by c false true ps gs same rest = absurd (false≢true same)
kept_by c false false ps gs same rest = rest

kept : (log : List LogLine) (cs : List Command) → AllByRecursion HasItsSort cs → AllByRecursion (IsAnsweredIn log) cs → as_accepted (filter passes cs) ≡ filter (goes_in log) (as_accepted cs)
kept log [] sorts bare = refl
kept log (c ∷ cs) sorts bare =
    kept_by c (passes c) (goes_in log (accepted_as c)) (filter passes cs) (filter (goes_in log) (as_accepted cs)) (ap₂ (λ x y. x && not y) (goes_as c sorts.0) bare.0) (kept log cs sorts.1 bare.1)

pub passing_of : (log : List LogLine) (commands : List Command) → AreOfLog log commands → as_accepted (filter passes commands) ≡ through log
passing_of log commands of = kept log commands of.sorts of.bare ∙ ap (filter (goes_in log)) of.accepted_are

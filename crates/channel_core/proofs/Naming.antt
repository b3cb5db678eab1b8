-- A pending command by its token and by its place: both name the same one.
use Rattle.std.proofs.Common.{◌≡◌, ◌≢◌, ℕ, zero, suc, ◌==◌, ◌+◌, ◌<◌, ◌≤◌, ◌^◌, Bool, true, false, cond, not, nat_lt, List, [], ◌∷◌, ◌++◌, length, drop, Some, None, inl, inr, refl, sym, ap, subst, ◌∙◌, arith, one-add}
use Rattle.std.specs.Prelude.{bytes_eq, decimal, find, option_map, slice_get, Option, remove}
use Rattle.std.specs.List.{AllByRecursion, position_or_len}
use Rattle.std.proofs.lemmas.Bool.{cases_Bool, cond-true, eqb-true, eqb-false, lt-ltb, false_from_ne_true}
use Rattle.std.proofs.lemmas.Slice.Eq.{bytes_eq-Decides}
use Rattle.std.specs.Prelude.{Result, Ok, IsUtf8}
use Rattle.std.specs.Str.{IsAscii}
use Rattle.std.specs.Str.Parse.{ParsesUnsigned}
use Rattle.std.proofs.lemmas.Fmt.{IsAscii-decimal, parse-decimal}
use Rattle.std.proofs.lemmas.List.Folds.{find_at}
use Rattle.std.proofs.lemmas.Str.{IsUtf8-from_ascii}
use Rattle.std.proofs.lemmas.Option.{slice_get_within}
use Rattle.list_laws.proofs.Numbers.{other_decimals, same_number}
use Rattle.link_pool.specs.Rows.{Absent, Distinct, item_at, without}
use Rattle.channel_core.specs.EndValue.{EndValue}
use Rattle.channel_core.specs.Level.{leveled}
use Rattle.channel_core.specs.Naming.{AreIssued, finished_by, token_at}
use Rattle.channel_core.specs.Taking.{answer_judged, answered, broken, finished, is_held, number_at, place_of, progress_judged, progressed, sent_at, sent_place, taken_as, unless_held}
use Rattle.channel_core.specs.declared.held.Held.{Held}
use Rattle.channel_core.specs.declared.held.Incoming.{Incoming}
use Rattle.channel_core.specs.declared.states.Reason.TheVariants.{Token}
use Rattle.channel_core.specs.declared.taking.Taken.TheVariants as taken
use Rattle.channel_core.proofs.Rows.{names}

-- ---- digits that are read as a number

pub utf8_of_decimal : (digits : List ℕ) (n : ℕ) → n < 2 ^ 64 → digits ≡ decimal n → IsUtf8 digits
utf8_of_decimal digits n small is = IsUtf8-from_ascii digits (subst IsAscii (sym is) (IsAscii-decimal n small))

pub read_as : {E : Type 0} (r : Result ℕ E) (text digits : List ℕ) (n : ℕ) → ParsesUnsigned 64 10 text r → text ≡ digits → n < 2 ^ 64 → digits ≡ decimal n → r ≡ Ok n
read_as r text digits n parses same small is = parse-decimal 64 n text r small small (same ∙ is) parses

pub read_once : {E : Type 0} (r : Result ℕ E) (k n : ℕ) (digits : List ℕ) → r ≡ Ok k → r ≡ Ok n → digits ≡ decimal n → bytes_eq digits (decimal k) ≡ false → ⊥
read_once r k n digits one two is other =
    let same : k ≡ n = cc in
    let named : bytes_eq digits (decimal k) ≡ true = (bytes_eq-Decides digits (decimal k)).1 (is ∙ ap decimal (sym same)) in cc

-- digits are those of a number exactly where they name it
named_alike : (token number : ℕ) → token < 2 ^ 64 → number < 2 ^ 64 → bytes_eq (decimal token) (decimal number) ≡ (number == token)
named_alike token number low high = elim (cases_Bool (number == token)) [
  | inl is ↦ (bytes_eq-Decides (decimal token) (decimal number)).1 (ap decimal (sym (eqb-true number token is))) ∙ sym is
  | inr isnt ↦ other_decimals token number low high (λ same. eqb-false number token isnt (sym same)) ∙ sym isnt
]

module _ {T : Type 0} where
  -- ---- tokens up to the last one

  abbrev AreSmall : List (ℕ × T) → Type 0
  AreSmall rows = AllByRecursion (λ row. row.0 < 2 ^ 64) rows

  pub issued_more : (last token : ℕ) (rows : List (ℕ × T)) (tag : T) → token ≡ last + 1 → AreIssued last rows → AreIssued token (rows ++ (token, tag) ∷ [])
  issued_more last token [] tag next all = (omega arith, tt)
  issued_more last token (row ∷ rows) tag next all = (let first = all.0 in omega (arith, next), issued_more last token rows tag next all.1)

  pub issued_first : (last : ℕ) (rows : List (ℕ × T)) → AreIssued last rows → AreIssued last (drop 1 rows)
  issued_first last [] all = tt
  issued_first last (row ∷ rows) all = all.1

  pub issued_without : (last token : ℕ) (rows : List (ℕ × T)) → AreIssued last rows → AreIssued last (without token rows)
  issued_without last token [] all = tt
  issued_without last token (row ∷ rows) all = by_flag (row.0 == token) (issued_without last token rows all.1)
    where
      by_flag : (flag : Bool) → AreIssued last (without token rows) → AreIssued last (cond (not flag) (row ∷ without token rows) (without token rows))
      by_flag true rest = rest
      by_flag false rest = (all.0, rest)

  issued_small : (last : ℕ) (rows : List (ℕ × T)) → last < 2 ^ 64 → AreIssued last rows → AreSmall rows
  issued_small last [] small all = tt
  issued_small last (row ∷ rows) small all = (let first = all.0 in omega (arith, small), issued_small last rows small all.1)

  pub none_issued : (last : ℕ) (rows : List (ℕ × T)) → rows ≡ [] → AreIssued last rows
  none_issued last [] is = tt
  none_issued last (row ∷ rows) is = absurd cc

  -- the next token isn't there
  pub next_unissued : (last token : ℕ) (rows : List (ℕ × T)) → token ≡ last + 1 → AreIssued last rows → item_at token rows ≡ None
  next_unissued last token [] next all = refl
  next_unissued last token (row ∷ rows) next all =
      let other : (row.0 == token) ≡ false = false_from_ne_true (row.0 == token) (λ is. let same = eqb-true row.0 token is in let first = all.0 in omega (arith, next)) in
      ap (λ flag. option_map (λ r. r.1) (cond flag (Some row) (find (λ r. r.0 == token) rows))) other ∙ next_unissued last token rows next all.1

  -- ---- digits name a row exactly where its token is theirs

  place_alike : (token : ℕ) (rows : List (ℕ × T)) → token < 2 ^ 64 → AreSmall rows
      → position_or_len (names (decimal token)) rows ≡ position_or_len (λ row. row.0 == token) rows
  place_alike token [] low all = refl
  place_alike token (row ∷ rows) low all =
      ap (λ flag. cond (not flag) (1 + position_or_len (names (decimal token)) rows) 0) (named_alike token row.0 low all.0)
      ∙ ap (λ place. cond (not (row.0 == token)) (1 + place) 0) (place_alike token rows low all.1)

  -- ---- and what comes of it

  abbrev placed_at : ℕ → List (ℕ × T) → Option ℕ
  placed_at place rows = cond (nat_lt place (length rows)) (Some place) None

  -- what stands at the place of a token
  found_there : (token : ℕ) (rows : List (ℕ × T)) → token < 2 ^ 64 → AreSmall rows
      → slice_get rows (position_or_len (names (decimal token)) rows) ≡ find (λ row. row.0 == token) rows
  found_there token rows low all = ap (slice_get rows) (place_alike token rows low all) ∙ sym (find_at (λ row. row.0 == token) rows)

  find_named : (token : ℕ) (rows : List (ℕ × T)) (row : ℕ × T) → find (λ r. r.0 == token) rows ≡ Some row → row.0 ≡ token
  find_named token [] row is = absurd cc
  find_named token (first ∷ rows) row is = by_flag (first.0 == token) refl is (find_named token rows row)
    where
      by_flag : (flag : Bool) → (first.0 == token) ≡ flag → cond flag (Some first) (find (λ r. r.0 == token) rows) ≡ Some row
          → (find (λ r. r.0 == token) rows ≡ Some row → row.0 ≡ token) → row.0 ≡ token
      by_flag true same is rest = let one : first ≡ row = cc in ap (λ r. r.0) (sym one) ∙ eqb-true first.0 token same
      by_flag false other is rest = rest is

  row_there : (token place : ℕ) (rows : List (ℕ × T)) (held : List Held) (row : ℕ × T) → row.0 ≡ token → slice_get rows place ≡ Some row
      → token_at (sent_at (placed_at place rows) rows held) rows ≡ cond (is_held token held) None (Some token)
  row_there token place rows held row same is =
      ap (λ found. token_at (sent_at found rows held) rows) (cond-true _ _ _ (lt-ltb place (length rows) (slice_get_within rows place row is)))
      ∙ ap (λ found. token_at (unless_held place found held) rows) is
      ∙ ap (λ n. token_at (cond (is_held n held) None (Some place)) rows) same
      ∙ by_flag (is_held token held)
    where
      by_flag : (flag : Bool) → token_at (cond flag None (Some place)) rows ≡ cond flag None (Some token)
      by_flag true = refl
      by_flag false = ap (option_map (λ r. r.0)) is ∙ ap Some same

  by_found : (token place : ℕ) (rows : List (ℕ × T)) (held : List Held) (found : Option (ℕ × T)) (tag : T) → slice_get rows place ≡ found
      → ((row : ℕ × T) → found ≡ Some row → row.0 ≡ token) → option_map (λ r. r.1) found ≡ Some tag
      → token_at (sent_at (placed_at place rows) rows held) rows ≡ cond (is_held token held) None (Some token)
  by_found token place rows held None tag is key there = absurd cc
  by_found token place rows held (Some row) tag is key there = row_there token place rows held row (key row refl) is

  -- the digits of a token that is there
  pub read_names_it : (digits : List ℕ) (token last : ℕ) (rows : List (ℕ × T)) (held : List Held) (tag : T) → digits ≡ decimal token → token < 2 ^ 64 → last < 2 ^ 64
      → AreIssued last rows → item_at token rows ≡ Some tag → token_at (sent_at (place_of digits rows) rows held) rows ≡ cond (is_held token held) None (Some token)
  read_names_it digits token last rows held tag read low bound issued there =
      let all : AreSmall rows = issued_small last rows bound issued in
      ap (λ text. token_at (sent_at (place_of text rows) rows held) rows) read
      ∙ by_found token (position_or_len (names (decimal token)) rows) rows held (find (λ r. r.0 == token) rows) tag
      (found_there token rows low all) (λ row is. find_named token rows row is) there

  none_found : (token place : ℕ) (rows : List (ℕ × T)) (held : List Held) (found : Option (ℕ × T)) → slice_get rows place ≡ found → option_map (λ r. r.1) found ≡ None
      → token_at (sent_at (placed_at place rows) rows held) rows ≡ None
  none_found token place rows held None is there = by_flag (nat_lt place (length rows))
    where
      by_flag : (flag : Bool) → token_at (sent_at (cond flag (Some place) None) rows held) rows ≡ None
      by_flag true = ap (λ found. token_at (unless_held place found held) rows) is
      by_flag false = refl
  none_found token place rows held (Some row) is there = absurd cc

  -- those of one that isn't
  pub read_names_none : (digits : List ℕ) (token last : ℕ) (rows : List (ℕ × T)) (held : List Held) → digits ≡ decimal token → token < 2 ^ 64 → last < 2 ^ 64
      → AreIssued last rows → item_at token rows ≡ None → token_at (sent_at (place_of digits rows) rows held) rows ≡ None
  read_names_none digits token last rows held read low bound issued there =
      let all : AreSmall rows = issued_small last rows bound issued in
      ap (λ text. token_at (sent_at (place_of text rows) rows held) rows) read
      ∙ none_found token (position_or_len (names (decimal token)) rows) rows held (find (λ r. r.0 == token) rows) (found_there token rows low all) there

  -- the row at the place of some digits is named by them
  named_there : (digits : List ℕ) (last : ℕ) (rows : List (ℕ × T)) (row : ℕ × T) → AreIssued last rows → slice_get rows (position_or_len (names digits) rows) ≡ Some row
      → (digits ≡ decimal row.0) × (row.0 ≤ last)
  named_there digits last [] row all is = absurd cc
  named_there digits last (first ∷ rows) row all is = by_flag (names digits first) refl is (λ rest. named_there digits last rows row all.1 rest)
    where
      by_flag : (flag : Bool) → names digits first ≡ flag → slice_get (first ∷ rows) (cond (not flag) (1 + position_or_len (names digits) rows) 0) ≡ Some row
          → (slice_get rows (position_or_len (names digits) rows) ≡ Some row → (digits ≡ decimal row.0) × (row.0 ≤ last)) → (digits ≡ decimal row.0) × (row.0 ≤ last)
      by_flag true named here rest =
          let one : first ≡ row = cc in
          subst (λ r. (digits ≡ decimal r.0) × (r.0 ≤ last)) one ((bytes_eq-Decides digits (decimal first.0)).0 named, all.0)
      by_flag false named here rest = rest (subst (λ n. slice_get (first ∷ rows) n ≡ Some row) (one-add (position_or_len (names digits) rows)) here)

  -- digits that are no token which was sent
  pub unsent_names_none : (digits : List ℕ) (last : ℕ) (rows : List (ℕ × T)) (held : List Held) → AreIssued last rows
      → ((n : ℕ) → n ≤ last → digits ≡ decimal n → is_held n held ≡ true) → token_at (sent_at (place_of digits rows) rows held) rows ≡ None
  unsent_names_none digits last rows held all unsent = by_row (slice_get rows place) refl
    where
      place : ℕ
      place = position_or_len (names digits) rows

      by_row : (found : Option (ℕ × T)) → slice_get rows place ≡ found → token_at (sent_at (placed_at place rows) rows held) rows ≡ None
      by_row None is = none_found 0 place rows held None is refl
      by_row (Some row) is =
          let named = named_there digits last rows row all is in
          row_there row.0 place rows held row refl is ∙ ap (λ flag. cond flag None (Some row.0)) (unsent row.0 named.1 named.0)

  -- ---- the row at a place is that of its token, and the others are left without it

  absent_at : (key place token : ℕ) (rows : List (ℕ × T)) → Absent key rows → number_at place rows ≡ Some token → token ≢ key
  absent_at key place token [] absent is same = absurd cc
  absent_at key zero token (row ∷ rows) absent is same = absent.0 (let here : row.0 ≡ token = cc in here ∙ same)
  absent_at key (suc place) token (row ∷ rows) absent is same = absent_at key place token rows absent.1 is same

  absent_without : (token : ℕ) (rows : List (ℕ × T)) → Absent token rows → without token rows ≡ rows
  absent_without token [] absent = refl
  absent_without token (row ∷ rows) absent =
      let other : (row.0 == token) ≡ false = false_from_ne_true (row.0 == token) (λ is. absent.0 (eqb-true row.0 token is)) in
      ap (λ flag. cond (not flag) (row ∷ without token rows) (without token rows)) other ∙ ap (λ rs. row ∷ rs) (absent_without token rows absent.1)

  abbrev with_token : ℕ → Option T → Option (ℕ × T)
  with_token token None = None
  with_token token (Some tag) = Some (token, tag)

  by_key : (token : ℕ) (row : ℕ × T) (rows : List (ℕ × T)) (flag : Bool) → (row.0 == token) ≡ flag
      → with_token token (item_at token (row ∷ rows)) ≡ with_token token (option_map (λ r. r.1) (cond flag (Some row) (find (λ r. r.0 == token) rows)))
  by_key token row rows flag is = ap (λ f. with_token token (option_map (λ r. r.1) (cond f (Some row) (find (λ r. r.0 == token) rows)))) is

  other_key : (token place : ℕ) (row : ℕ × T) (rows : List (ℕ × T)) → Distinct (row ∷ rows) → number_at place rows ≡ Some token → (row.0 == token) ≡ false
  other_key token place row rows distinct is =
      false_from_ne_true (row.0 == token) (λ same. absent_at row.0 place token rows distinct.0 is (sym (eqb-true row.0 token same)))

  pub item_there : (place token : ℕ) (rows : List (ℕ × T)) → Distinct rows → number_at place rows ≡ Some token
      → slice_get rows place ≡ with_token token (item_at token rows)
  item_there place token [] distinct is = absurd cc
  item_there zero token (row ∷ rows) distinct is =
      let here : row.0 ≡ token = cc in
      ap (λ n. Some (n, row.1)) here ∙ sym (by_key token row rows true (same_number row.0 token here))
  item_there (suc place) token (row ∷ rows) distinct is =
      item_there place token rows distinct.1 is ∙ sym (by_key token row rows false (other_key token place row rows distinct is))

  by_test : (token : ℕ) (row : ℕ × T) (rows : List (ℕ × T)) (flag : Bool) → (row.0 == token) ≡ flag → without token (row ∷ rows) ≡ cond (not flag) (row ∷ without token rows) (without token rows)
  by_test token row rows flag is = ap (λ f. cond (not f) (row ∷ without token rows) (without token rows)) is

  pub removed_there : (place token : ℕ) (rows : List (ℕ × T)) → Distinct rows → number_at place rows ≡ Some token → remove rows place ≡ without token rows
  removed_there place token [] distinct is = absurd cc
  removed_there zero token (row ∷ rows) distinct is =
      let here : row.0 ≡ token = cc in
      sym (by_test token row rows true (same_number row.0 token here) ∙ absent_without token rows (subst (λ key. Absent key rows) here distinct.0))
  removed_there (suc place) token (row ∷ rows) distinct is =
      ap (λ rs. row ∷ rs) (removed_there place token rows distinct.1 is) ∙ sym (by_test token row rows false (other_key token place row rows distinct is))

  -- ---- what a verdict makes of the end

  pub as_progress : (number : ℕ) (incoming : Incoming) (place : Option ℕ) (found : Option ℕ) (e : EndValue T) → token_at place e.pending ≡ found
      → taken_as number incoming (progress_judged place) e ≡ progressed number incoming found e
  as_progress number incoming None found e is = ap (λ f. progressed number incoming f e) is
  as_progress number incoming (Some place) found e is = ap (λ f. progressed number incoming f e) is

  finished_alike : (number : ℕ) (incoming : Incoming) (place token : ℕ) (done : Bool) (tag : Option T) (e : EndValue T) → remove e.pending place ≡ without token e.pending
      → finished number incoming place done (with_token token tag) e ≡ finished_by number incoming token done tag e
  finished_alike number incoming place token done None e left = refl
  finished_alike number incoming place token done (Some tag) e left =
      ap (λ rows. (Some (taken.Final tag incoming), answered token done (leveled (record e { pending = rows })))) left

  -- an answer that names no command that was sent
  as_unnamed : (number : ℕ) (incoming : Incoming) (done : Bool) (place : Option ℕ) (e : EndValue T) → token_at place e.pending ≡ None
      → taken_as number incoming (answer_judged done place) e ≡ broken number Token e
  as_unnamed number incoming done None e is = refl
  as_unnamed number incoming done (Some place) e is = by_row (slice_get e.pending place) is
    where
      by_row : (row : Option (ℕ × T)) → option_map (λ r. r.0) row ≡ None → finished number incoming place done row e ≡ broken number Token e
      by_row None none = refl
      by_row (Some row) none = absurd cc

  -- and one that names one
  as_named : (number : ℕ) (incoming : Incoming) (token : ℕ) (done : Bool) (place : Option ℕ) (e : EndValue T) → Distinct e.pending → token_at place e.pending ≡ Some token
      → taken_as number incoming (answer_judged done place) e ≡ finished_by number incoming token done (item_at token e.pending) e
  as_named number incoming token done None e distinct is = absurd cc
  as_named number incoming token done (Some place) e distinct is =
      ap (λ row. finished number incoming place done row e) (item_there place token e.pending distinct is)
      ∙ finished_alike number incoming place token done (item_at token e.pending) e (removed_there place token e.pending distinct is)

  pub as_unsent : (number : ℕ) (incoming : Incoming) (digits : List ℕ) (done : Bool) (e : EndValue T) → AreIssued e.last e.pending
      → ((n : ℕ) → n ≤ e.last → digits ≡ decimal n → is_held n e.held ≡ true)
      → taken_as number incoming (answer_judged done (sent_place digits e)) e ≡ broken number Token e
  as_unsent number incoming digits done e issued unsent =
      as_unnamed number incoming done (sent_place digits e) e (unsent_names_none digits e.last e.pending e.held issued unsent)

  pub as_answer : (number : ℕ) (incoming : Incoming) (digits : List ℕ) (token : ℕ) (done : Bool) (e : EndValue T) → Distinct e.pending → digits ≡ decimal token
      → token < 2 ^ 64 → e.last < 2 ^ 64 → AreIssued e.last e.pending → is_held token e.held ≡ false
      → taken_as number incoming (answer_judged done (sent_place digits e)) e ≡ finished_by number incoming token done (item_at token e.pending) e
  as_answer number incoming digits token done e distinct read small low issued sent = by_tag (item_at token e.pending) refl
    where
      by_tag : (tag : Option T) → item_at token e.pending ≡ tag
          → taken_as number incoming (answer_judged done (sent_place digits e)) e ≡ finished_by number incoming token done (item_at token e.pending) e
      by_tag None is =
          as_unnamed number incoming done (sent_place digits e) e (read_names_none digits token e.last e.pending e.held read small low issued is)
          ∙ sym (ap (λ tag. finished_by number incoming token done tag e) is)
      by_tag (Some tag) is =
          as_named number incoming token done (sent_place digits e) e distinct
          (read_names_it digits token e.last e.pending e.held tag read small low issued is ∙ ap (λ held. cond held None (Some token)) sent)

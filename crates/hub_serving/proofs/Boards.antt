-- What is kept of pending commands is the same under their numbers as under their keys.
use Rattle.std.proofs.Common.{◌≡◌, ◌≢◌, ℕ, zero, suc, ◌+◌, ◌<◌, ◌≤◌, ◌==◌, Bool, true, false, not, cond, List, [], ◌∷◌, ◌++◌, length, map, Option, Some, None, refl, sym, ap, ◌∙◌, subst, arith, eqb-true}
use Rattle.std.specs.Prelude.{find, filter, is_none, option_map, slice_index_or, slice_set}
use Rattle.std.specs.List.{AllByRecursion}
use Rattle.std.specs.Option.{option_or}
use Rattle.std.proofs.lemmas.Bool.{eq-eqb, ne_eqb}
use Rattle.link_pool.specs.Lists.{cleared, item_of, pushed, rows_of, unlinked}
use Rattle.link_pool.specs.Rows.{item_at, without, without_all}
use Rattle.hub_node.specs.Board.{dropped, found, if_own, kept, left, list_of, without_key}
use Rattle.hub_node.specs.BoardValue.{BoardValue}
use Rattle.hub_node.specs.WaitingValue.{WaitingValue}
use Rattle.hub_node.specs.declared.waiting.Tag.{Tag}
use Rattle.hub_serving.specs.Numbered.{AreKept, RowIsKept, numbered_board, numbered_row, numbered_tag}

abbrev pub Row : Type 0
Row = ℕ × WaitingValue

abbrev pub Lists : Type 0
Lists = List (List Row)

-- under their numbers
abbrev pub renamed : List Row → List Row
renamed rows = map numbered_row rows

abbrev pub all_renamed : Lists → Lists
all_renamed lists = map renamed lists

-- ---- lists

pub list_renamed : (list : ℕ) (lists : Lists) → rows_of list (all_renamed lists) ≡ renamed (rows_of list lists)
list_renamed list [] = refl
list_renamed zero (rows ∷ lists) = refl
list_renamed (suc list) (rows ∷ lists) = list_renamed list lists

set_renamed : (list : ℕ) (rows : List Row) (lists : Lists) → all_renamed (slice_set lists list rows) ≡ slice_set (all_renamed lists) list (renamed rows)
set_renamed list rows [] = refl
set_renamed zero rows (other ∷ lists) = refl
set_renamed (suc list) rows (other ∷ lists) = ap (λ (ls : Lists). renamed other ∷ ls) (set_renamed list rows lists)

push_renamed : (rows : List Row) (row : Row) → renamed (rows ++ row ∷ []) ≡ renamed rows ++ numbered_row row ∷ []
push_renamed [] row = refl
push_renamed (other ∷ rows) row = ap (λ (rs : List Row). numbered_row other ∷ rs) (push_renamed rows row)

-- ---- a command is kept

pub kept_renamed : (key : ℕ) (w : WaitingValue) (b : BoardValue) → numbered_board (kept key w b) ≡ kept w.serial w (numbered_board b)
kept_renamed key w b =
    let list = list_of w.channel b in
    ap (λ (ls : Lists). record b { lists = ls })
    (set_renamed list (rows_of list b.lists ++ (key, w) ∷ []) b.lists
    ∙ ap (slice_set (all_renamed b.lists) list)
    (push_renamed (rows_of list b.lists) (key, w) ∙ ap (λ (rs : List Row). rs ++ (w.serial, w) ∷ []) (sym (list_renamed list b.lists))))

-- ---- the row of a key is that of a number

-- in one row of the two that go together
same_test : (key_of number_of : ℕ → ℕ) (last key number : ℕ) (row : Row) → key ≡ key_of number → number_of key ≡ number → RowIsKept key_of number_of last row
    → (row.0 == key) ≡ (row.1.serial == number)
same_test key_of number_of last key number row keyed numbered k = by_flag (row.0 == key) refl
  where
    by_flag : (flag : Bool) → (row.0 == key) ≡ flag → flag ≡ (row.1.serial == number)
    by_flag true is =
        let same : row.1.serial ≡ number = k.number ∙ ap number_of (eqb-true row.0 key is) ∙ numbered in
        sym (ap (λ (n : ℕ). n == number) same ∙ eq-eqb number number refl)
    by_flag false is =
        sym (ne_eqb row.1.serial number (λ same.
        let here : row.0 ≡ key = k.key ∙ ap key_of same ∙ sym keyed in
        let both : true ≡ false = sym (ap (λ (n : ℕ). n == key) here ∙ eq-eqb key key refl) ∙ is in cc))

item_here : (key_of number_of : ℕ → ℕ) (last key number : ℕ) (rows : List Row) → key ≡ key_of number → number_of key ≡ number → AllByRecursion (RowIsKept key_of number_of last) rows
    → item_at number (renamed rows) ≡ item_at key rows
item_here key_of number_of last key number [] keyed numbered k = refl
item_here key_of number_of last key number (row ∷ rows) keyed numbered k =
    ap (λ (b : Bool). option_map (λ (r : Row). r.1) (cond b (Some (numbered_row row)) (find (λ r. r.0 == number) (renamed rows)))) (sym (same_test key_of number_of last key number row keyed numbered k.0))
    ∙ by_flag (row.0 == key) (item_here key_of number_of last key number rows keyed numbered k.1)
  where
    by_flag : (flag : Bool) → item_at number (renamed rows) ≡ item_at key rows
        → option_map (λ (r : Row). r.1) (cond flag (Some (numbered_row row)) (find (λ r. r.0 == number) (renamed rows)))
        ≡ option_map (λ (r : Row). r.1) (cond flag (Some row) (find (λ r. r.0 == key) rows))
    by_flag true rest = refl
    by_flag false rest = rest

item_there : (key_of number_of : ℕ → ℕ) (last key number : ℕ) (lists : Lists) → key ≡ key_of number → number_of key ≡ number → AreKept key_of number_of last lists
    → item_of number (all_renamed lists) ≡ item_of key lists
item_there key_of number_of last key number [] keyed numbered k = refl
item_there key_of number_of last key number (rows ∷ lists) keyed numbered k =
    ap (λ (o : Option WaitingValue). option_or o (item_of number (all_renamed lists))) (item_here key_of number_of last key number rows keyed numbered k.0)
    ∙ ap (option_or (item_at key rows)) (item_there key_of number_of last key number lists keyed numbered k.1)

without_here : (key_of number_of : ℕ → ℕ) (last key number : ℕ) (rows : List Row) → key ≡ key_of number → number_of key ≡ number → AllByRecursion (RowIsKept key_of number_of last) rows
    → without number (renamed rows) ≡ renamed (without key rows)
without_here key_of number_of last key number [] keyed numbered k = refl
without_here key_of number_of last key number (row ∷ rows) keyed numbered k =
    ap (λ (b : Bool). cond (not b) (numbered_row row ∷ without number (renamed rows)) (without number (renamed rows))) (sym (same_test key_of number_of last key number row keyed numbered k.0))
    ∙ by_flag (not (row.0 == key)) (without_here key_of number_of last key number rows keyed numbered k.1)
  where
    by_flag : (flag : Bool) → without number (renamed rows) ≡ renamed (without key rows)
        → cond flag (numbered_row row ∷ without number (renamed rows)) (without number (renamed rows)) ≡ renamed (cond flag (row ∷ without key rows) (without key rows))
    by_flag true rest = ap (λ (rs : List Row). numbered_row row ∷ rs) rest
    by_flag false rest = rest

without_there : (key_of number_of : ℕ → ℕ) (last key number : ℕ) (lists : Lists) → key ≡ key_of number → number_of key ≡ number → AreKept key_of number_of last lists
    → unlinked number (all_renamed lists) ≡ all_renamed (unlinked key lists)
without_there key_of number_of last key number [] keyed numbered k = refl
without_there key_of number_of last key number (rows ∷ lists) keyed numbered k =
    ap (λ (rs : List Row). rs ∷ unlinked number (all_renamed lists)) (without_here key_of number_of last key number rows keyed numbered k.0)
    ∙ ap (λ (ls : Lists). renamed (without key rows) ∷ ls) (without_there key_of number_of last key number lists keyed numbered k.1)

-- ---- a tag whose row is gone: its key may have another row, but its number has none

not_number : (key_of number_of : ℕ → ℕ) (last key number : ℕ) (rows : List Row) → key ≡ key_of number → number_of key ≢ number → AllByRecursion (RowIsKept key_of number_of last) rows
    → item_at number (renamed rows) ≡ None
not_number key_of number_of last key number [] keyed gone k = refl
not_number key_of number_of last key number (row ∷ rows) keyed gone k =
    let other : (row.1.serial == number) ≡ false =
    ne_eqb row.1.serial number (λ same. gone (ap number_of (keyed ∙ ap key_of (sym same) ∙ sym k.0.key) ∙ sym k.0.number ∙ same)) in
    ap (λ (b : Bool). option_map (λ (r : Row). r.1) (cond b (Some (numbered_row row)) (find (λ r. r.0 == number) (renamed rows)))) other
    ∙ not_number key_of number_of last key number rows keyed gone k.1

not_numbers : (key_of number_of : ℕ → ℕ) (last key number : ℕ) (lists : Lists) → key ≡ key_of number → number_of key ≢ number → AreKept key_of number_of last lists
    → item_of number (all_renamed lists) ≡ None
not_numbers key_of number_of last key number [] keyed gone k = refl
not_numbers key_of number_of last key number (rows ∷ lists) keyed gone k =
    ap (λ (o : Option WaitingValue). option_or o (item_of number (all_renamed lists))) (not_number key_of number_of last key number rows keyed gone k.0)
    ∙ not_numbers key_of number_of last key number lists keyed gone k.1

own_here : (key_of number_of : ℕ → ℕ) (last key number : ℕ) (rows : List Row) → number_of key ≢ number → AllByRecursion (RowIsKept key_of number_of last) rows → if_own number (item_at key rows) ≡ None
own_here key_of number_of last key number [] gone k = refl
own_here key_of number_of last key number (row ∷ rows) gone k = by_flag (row.0 == key) refl (own_here key_of number_of last key number rows gone k.1)
  where
    by_flag : (flag : Bool) → (row.0 == key) ≡ flag → if_own number (item_at key rows) ≡ None → if_own number (option_map (λ (r : Row). r.1) (cond flag (Some row) (find (λ r. r.0 == key) rows))) ≡ None
    by_flag true is rest =
        let other : (row.1.serial == number) ≡ false =
        ne_eqb row.1.serial number (λ same. gone (ap number_of (sym (eqb-true row.0 key is)) ∙ sym k.0.number ∙ same)) in
        ap (λ (b : Bool). cond b (Some row.1) None) other
    by_flag false is rest = rest

own_first : (number : ℕ) (one other : Option WaitingValue) → if_own number one ≡ None → if_own number other ≡ None → if_own number (option_or one other) ≡ None
own_first number None other first second = second
own_first number (Some w) other first second = first

own_there : (key_of number_of : ℕ → ℕ) (last key number : ℕ) (lists : Lists) → number_of key ≢ number → AreKept key_of number_of last lists → if_own number (item_of key lists) ≡ None
own_there key_of number_of last key number [] gone k = refl
own_there key_of number_of last key number (rows ∷ lists) gone k =
    own_first number (item_at key rows) (item_of key lists) (own_here key_of number_of last key number rows gone k.0) (own_there key_of number_of last key number lists gone k.1)

-- ---- what is found under a tag, and what is left

abbrev Found : Tag → BoardValue → Type 0
Found t b = (found (numbered_tag t) (numbered_board b) ≡ found t b) × (dropped (numbered_tag t) (numbered_board b) ≡ numbered_board (dropped t b))

dropped_by : (t : Tag) (b : BoardValue) (one : Option WaitingValue) → unlinked t.serial (all_renamed b.lists) ≡ all_renamed (unlinked t.key b.lists)
    → without_key t.serial one (numbered_board b) ≡ numbered_board (without_key t.key one b)
dropped_by t b None same = refl
dropped_by t b (Some w) same = ap (λ (ls : Lists). record b { lists = ls }) same

same_found : (key_of number_of : ℕ → ℕ) (last : ℕ) (t : Tag) (b : BoardValue) → t.key ≡ key_of t.serial → AreKept key_of number_of last b.lists → Found t b
same_found key_of number_of last t b keyed k = by_flag (number_of t.key == t.serial) refl
  where
    by_flag : (flag : Bool) → (number_of t.key == t.serial) ≡ flag → Found t b
    by_flag true is =
        let numbered : number_of t.key ≡ t.serial = eqb-true (number_of t.key) t.serial is in
        let same : found (numbered_tag t) (numbered_board b) ≡ found t b = ap (if_own t.serial) (item_there key_of number_of last t.key t.serial b.lists keyed numbered k) in (
          same,
          ap (λ (o : Option WaitingValue). without_key t.serial o (numbered_board b)) same
              ∙ dropped_by t b (found t b) (without_there key_of number_of last t.key t.serial b.lists keyed numbered k),
        )
    by_flag false is =
        let gone : number_of t.key ≢ t.serial = λ same. let both : true ≡ false = sym (ap (λ (n : ℕ). n == t.serial) same ∙ eq-eqb t.serial t.serial refl) ∙ is in cc in
        let here : found t b ≡ None = own_there key_of number_of last t.key t.serial b.lists gone k in
        let there : found (numbered_tag t) (numbered_board b) ≡ None = ap (if_own t.serial) (not_numbers key_of number_of last t.key t.serial b.lists keyed gone k) in (
          there ∙ sym here,
          ap (λ (o : Option WaitingValue). without_key t.serial o (numbered_board b)) there ∙ sym (ap (λ (o : Option WaitingValue). numbered_board (without_key t.key o b)) here),
        )

pub found_same : (key_of number_of : ℕ → ℕ) (last : ℕ) (t : Tag) (b : BoardValue) → t.key ≡ key_of t.serial → AreKept key_of number_of last b.lists
    → found (numbered_tag t) (numbered_board b) ≡ found t b
found_same key_of number_of last t b keyed k = (same_found key_of number_of last t b keyed k).0

pub dropped_same : (key_of number_of : ℕ → ℕ) (last : ℕ) (t : Tag) (b : BoardValue) → t.key ≡ key_of t.serial → AreKept key_of number_of last b.lists
    → dropped (numbered_tag t) (numbered_board b) ≡ numbered_board (dropped t b)
dropped_same key_of number_of last t b keyed k = (same_found key_of number_of last t b keyed k).1

-- ---- a channel closes

gone_here : (key_of number_of : ℕ → ℕ) (last : ℕ) (gone rows : List Row) → AllByRecursion (RowIsKept key_of number_of last) gone → AllByRecursion (RowIsKept key_of number_of last) rows
    → without_all (renamed gone) (renamed rows) ≡ renamed (without_all gone rows)
gone_here key_of number_of last gone [] g k = refl
gone_here key_of number_of last gone (row ∷ rows) g k =
    let same : item_at row.1.serial (renamed gone) ≡ item_at row.0 gone = item_here key_of number_of last row.0 row.1.serial gone k.0.key (sym k.0.number) g in
    ap (λ (o : Option WaitingValue). cond (is_none o) (numbered_row row ∷ without_all (renamed gone) (renamed rows)) (without_all (renamed gone) (renamed rows))) same
    ∙ by_flag (is_none (item_at row.0 gone)) (gone_here key_of number_of last gone rows g k.1)
  where
    by_flag : (flag : Bool) → without_all (renamed gone) (renamed rows) ≡ renamed (without_all gone rows)
        → cond flag (numbered_row row ∷ without_all (renamed gone) (renamed rows)) (without_all (renamed gone) (renamed rows))
        ≡ renamed (cond flag (row ∷ without_all gone rows) (without_all gone rows))
    by_flag true rest = ap (λ (rs : List Row). numbered_row row ∷ rs) rest
    by_flag false rest = rest

gone_there : (key_of number_of : ℕ → ℕ) (last : ℕ) (gone : List Row) (lists : Lists) → AllByRecursion (RowIsKept key_of number_of last) gone → AreKept key_of number_of last lists
    → map (without_all (renamed gone)) (all_renamed lists) ≡ all_renamed (map (without_all gone) lists)
gone_there key_of number_of last gone [] g k = refl
gone_there key_of number_of last gone (rows ∷ lists) g k =
    ap (λ (rs : List Row). rs ∷ map (without_all (renamed gone)) (all_renamed lists)) (gone_here key_of number_of last gone rows g k.0)
    ∙ ap (λ (ls : Lists). renamed (without_all gone rows) ∷ ls) (gone_there key_of number_of last gone lists g k.1)

pub list_kept : (key_of number_of : ℕ → ℕ) (last list : ℕ) (lists : Lists) → AreKept key_of number_of last lists → AllByRecursion (RowIsKept key_of number_of last) (rows_of list lists)
list_kept key_of number_of last list [] k = tt
list_kept key_of number_of last zero (rows ∷ lists) k = k.0
list_kept key_of number_of last (suc list) (rows ∷ lists) k = list_kept key_of number_of last list lists k.1

pub left_same : (key_of number_of : ℕ → ℕ) (last channel : ℕ) (b : BoardValue) → AreKept key_of number_of last b.lists → left channel (numbered_board b) ≡ numbered_board (left channel b)
left_same key_of number_of last channel b k =
    let list = list_of channel b in
    let owners = slice_set b.owners list None in
    ap (λ (ls : Lists). record { lists = ls; owners = owners })
    (ap (λ (gone : List Row). map (without_all gone) (all_renamed b.lists)) (list_renamed list b.lists)
    ∙ gone_there key_of number_of last (rows_of list b.lists) b.lists (list_kept key_of number_of last list b.lists k) k)

-- ---- what is kept stays so

filtered : (keep : Row → Bool) (P : Row → Type 0) (rows : List Row) → AllByRecursion P rows → AllByRecursion P (filter keep rows)
filtered keep P [] all = tt
filtered keep P (row ∷ rows) all = by_flag (keep row) (filtered keep P rows all.1)
  where
    by_flag : (flag : Bool) → AllByRecursion P (filter keep rows) → AllByRecursion P (cond flag (row ∷ filter keep rows) (filter keep rows))
    by_flag true rest = (all.0, rest)
    by_flag false rest = rest

all_filtered : (keep : Row → Bool) (P : Row → Type 0) (lists : Lists) → AllByRecursion (AllByRecursion P) lists → AllByRecursion (AllByRecursion P) (map (filter keep) lists)
all_filtered keep P [] all = tt
all_filtered keep P (rows ∷ lists) all = (filtered keep P rows all.0, all_filtered keep P lists all.1)

dropped_by_key : (P : Row → Type 0) (key : ℕ) (one : Option WaitingValue) (b : BoardValue) → AllByRecursion (AllByRecursion P) b.lists → AllByRecursion (AllByRecursion P) (without_key key one b).lists
dropped_by_key P key None b all = all
dropped_by_key P key (Some w) b all = all_filtered (λ row. not (row.0 == key)) P b.lists all

pub dropped_kept : (P : Row → Type 0) (t : Tag) (b : BoardValue) → AllByRecursion (AllByRecursion P) b.lists → AllByRecursion (AllByRecursion P) (dropped t b).lists
dropped_kept P t b all = dropped_by_key P t.key (found t b) b all

pub left_kept : (P : Row → Type 0) (channel : ℕ) (b : BoardValue) → AllByRecursion (AllByRecursion P) b.lists → AllByRecursion (AllByRecursion P) (left channel b).lists
left_kept P channel b all = all_filtered (λ row. is_none (item_at row.0 (rows_of (list_of channel b) b.lists))) P b.lists all

pushed_here : (P : Row → Type 0) (rows : List Row) (row : Row) → AllByRecursion P rows → P row → AllByRecursion P (rows ++ row ∷ [])
pushed_here P [] row all one = (one, tt)
pushed_here P (other ∷ rows) row all one = (all.0, pushed_here P rows row all.1 one)

set_kept : (P : Row → Type 0) (list : ℕ) (rows : List Row) (lists : Lists) → AllByRecursion (AllByRecursion P) lists → AllByRecursion P rows → AllByRecursion (AllByRecursion P) (slice_set lists list rows)
set_kept P list rows [] all one = tt
set_kept P zero rows (other ∷ lists) all one = (one, all.1)
set_kept P (suc list) rows (other ∷ lists) all one = (all.0, set_kept P list rows lists all.1 one)

one_list : (P : Row → Type 0) (list : ℕ) (lists : Lists) → AllByRecursion (AllByRecursion P) lists → AllByRecursion P (rows_of list lists)
one_list P list [] all = tt
one_list P zero (rows ∷ lists) all = all.0
one_list P (suc list) (rows ∷ lists) all = one_list P list lists all.1

pub kept_kept : (P : Row → Type 0) (key : ℕ) (w : WaitingValue) (b : BoardValue) → AllByRecursion (AllByRecursion P) b.lists → P (key, w) → AllByRecursion (AllByRecursion P) (kept key w b).lists
kept_kept P key w b all one =
    let list = list_of w.channel b in
    set_kept P list (rows_of list b.lists ++ (key, w) ∷ []) b.lists all (pushed_here P (rows_of list b.lists) (key, w) (one_list P list b.lists all) one)

-- no row has a key that nothing has

abbrev pub HasNot : ℕ → Row → Type 0
HasNot key row = row.0 ≢ key

none_here : (key : ℕ) (rows : List Row) → item_at key rows ≡ None → AllByRecursion (HasNot key) rows
none_here key [] none = tt
none_here key (row ∷ rows) none = by_flag (row.0 == key) refl none (λ rest. none_here key rows rest)
  where
    by_flag : (flag : Bool) → (row.0 == key) ≡ flag → option_map (λ (r : Row). r.1) (cond flag (Some row) (find (λ r. r.0 == key) rows)) ≡ None
        → (item_at key rows ≡ None → AllByRecursion (HasNot key) rows) → AllByRecursion (HasNot key) (row ∷ rows)
    by_flag true is none so = absurd cc
    by_flag false is none so = ((λ same. let both : true ≡ false = sym (ap (λ (n : ℕ). n == key) same ∙ eq-eqb key key refl) ∙ is in cc), so none)

none_first : (one other : Option WaitingValue) → option_or one other ≡ None → one ≡ None
none_first None other none = refl
none_first (Some w) other none = absurd cc

none_second : (one other : Option WaitingValue) → option_or one other ≡ None → other ≡ None
none_second None other none = none
none_second (Some w) other none = absurd cc

pub none_has : (key : ℕ) (lists : Lists) → item_of key lists ≡ None → AllByRecursion (AllByRecursion (HasNot key)) lists
none_has key [] none = tt
none_has key (rows ∷ lists) none =
    (none_here key rows (none_first (item_at key rows) (item_of key lists) none), none_has key lists (none_second (item_at key rows) (item_of key lists) none))

-- and the other way round
has_here : (key : ℕ) (rows : List Row) → AllByRecursion (HasNot key) rows → item_at key rows ≡ None
has_here key [] all = refl
has_here key (row ∷ rows) all =
    ap (λ (b : Bool). option_map (λ (r : Row). r.1) (cond b (Some row) (find (λ r. r.0 == key) rows))) (ne_eqb row.0 key all.0) ∙ has_here key rows all.1

pub has_none : (key : ℕ) (lists : Lists) → AllByRecursion (AllByRecursion (HasNot key)) lists → item_of key lists ≡ None
has_none key [] all = refl
has_none key (rows ∷ lists) all = ap (λ (o : Option WaitingValue). option_or o (item_of key lists)) (has_here key rows all.0) ∙ has_none key lists all.1

both_here : (P Q R : Row → Type 0) → ((row : Row) → P row → Q row → R row) → (rows : List Row) → AllByRecursion P rows → AllByRecursion Q rows → AllByRecursion R rows
both_here P Q R so [] one two = tt
both_here P Q R so (row ∷ rows) one two = (so row one.0 two.0, both_here P Q R so rows one.1 two.1)

pub both_kept : (P Q R : Row → Type 0) → ((row : Row) → P row → Q row → R row) → (lists : Lists) → AllByRecursion (AllByRecursion P) lists → AllByRecursion (AllByRecursion Q) lists
    → AllByRecursion (AllByRecursion R) lists
both_kept P Q R so [] one two = tt
both_kept P Q R so (rows ∷ lists) one two = (both_here P Q R so rows one.0 two.0, both_kept P Q R so lists one.1 two.1)

-- What is kept of the commands that are pending above: each tag of a live channel's command leads to its own row.
use Rattle.std.proofs.Common.{◌≡◌, ◌≢◌, ◌⊎◌, ℕ, zero, suc, ◌<◌, Bool, true, not, ◌==◌, List, [], ◌∷◌, ◌++◌, length, Option, Some, None, is_none, slice_get, slice_set, refl, sym, ap, subst, ◌∙◌, inl, inr, arith}
use Rattle.std.proofs.lemmas.Bool.{cases_eq, eq-eqb, ne_eqb}
use Rattle.std.proofs.lemmas.List.Elements.{Contains-append_cases}
use Rattle.list_laws.proofs.Contained.{in_one}
use Rattle.std.specs.List.{Contains}
use Rattle.link_pool.specs.Rows.{item_at, without, without_all}
use Rattle.link_pool.specs.Lists.{cleared, item_of, pushed, rows_of, unlinked}
use Rattle.hub_node.specs.Board.{dropped, found, without_key, free_list, if_own, joined, kept, left, list_of}
use Rattle.hub_node.specs.BoardValue.{BoardValue}
use Rattle.hub_node.specs.WaitingValue.{WaitingValue}
use Rattle.hub_node.specs.declared.waiting.Tag.{Tag}
use Rattle.hub_node.proofs.PoolRows.{Stands, item_dropped, item_kept, item_last, item_other, nowhere, option_cases, rows_mapped, rows_set, rows_unset, somewhere, there}

-- whose a command is, and its token there
pub record Asker : Type 0 where
  pub channel : ℕ
  pub token : List ℕ

abbrev pub asker_of : WaitingValue → Asker
asker_of w = record { channel = w.channel; token = w.token }

abbrev pub row_of : ℕ → Asker → WaitingValue
row_of serial a = record { serial = serial; channel = a.channel; token = a.token }

-- it is that of the command of its number, of those that were sent above
pub record IsRow (asked : List Asker) (w : WaitingValue) : Type 0 where
  pub place : ℕ
  pub serial : w.serial ≡ suc place
  pub asker : slice_get asked place ≡ Some (asker_of w)

pub record IsBoard (live : ℕ → Bool) (asked : List Asker) (pending : List (ℕ × Tag)) (b : BoardValue) : Type 0 where
  pub own : (list key : ℕ) (w : WaitingValue) → Stands list key w b.lists → IsRow asked w
  pub owner : (list key : ℕ) (w : WaitingValue) → Stands list key w b.lists → slice_get b.owners list ≡ Some (Some w.channel)
  -- a key stands in one list
  pub one : (list other key : ℕ) (w x : WaitingValue) → Stands list key w b.lists → Stands other key x b.lists → list ≡ other
  -- tags are numbered as tokens are
  pub numbered : (row : ℕ × Tag) → Contains pending row → row.1.serial ≡ row.0
  -- and lead to their commands, while their channels are live
  pub leads : (row : ℕ × Tag) (place : ℕ) (a : Asker) → Contains pending row → row.0 ≡ suc place → slice_get asked place ≡ Some a → live a.channel ≡ true
      → item_of row.1.key b.lists ≡ Some (row_of row.0 a)

-- ---- what is found

own_serial : (serial : ℕ) (o : Option WaitingValue) (w : WaitingValue) → o ≡ Some w → w.serial ≡ serial → if_own serial o ≡ Some w
own_serial serial None w is same = absurd (cc)
own_serial serial (Some x) w is same = let at : x ≡ w = cc in rw (at, eq-eqb w.serial serial same) refl

-- the row of a live channel's command
pub is_found : (live : ℕ → Bool) (asked : List Asker) (pending : List (ℕ × Tag)) (b : BoardValue) → IsBoard live asked pending b
    → (row : ℕ × Tag) (place : ℕ) (a : Asker) → Contains pending row → row.0 ≡ suc place → slice_get asked place ≡ Some a → live a.channel ≡ true
    → found row.1 b ≡ Some (row_of row.0 a)
is_found live asked pending b board row place a pends at asks lives =
    own_serial row.1.serial (item_of row.1.key b.lists) (row_of row.0 a) (board.leads row place a pends at asks lives) (sym (board.numbered row pends))

-- whatever is found is that of the command with the tag's number
found_own : (serial : ℕ) (o : Option WaitingValue) (w : WaitingValue) → if_own serial o ≡ Some w → (o ≡ Some w) × (w.serial ≡ serial)
found_own serial None w is = absurd (cc)
found_own serial (Some x) w is =
    elim (cases_eq x.serial serial) [
      | inl same ↦ let at : if_own serial (Some x) ≡ Some x = rw (eq-eqb x.serial serial same) refl in let e : x ≡ w = cc in (ap Some e, sym (ap (λ (w : WaitingValue). w.serial) e) ∙ same)
      | inr apart ↦ absurd (let at : if_own serial (Some x) ≡ None = rw (ne_eqb x.serial serial apart) refl in cc)
    ]

pub found_is_own : (live : ℕ → Bool) (asked : List Asker) (pending : List (ℕ × Tag)) (b : BoardValue) → IsBoard live asked pending b
    → (tag : Tag) (w : WaitingValue) → found tag b ≡ Some w → IsRow asked w × (w.serial ≡ tag.serial)
found_is_own live asked pending b board tag w is =
    let there_is = found_own tag.serial (item_of tag.key b.lists) w is in
    let s = somewhere tag.key w b.lists there_is.0 in
    (board.own s.list tag.key w s.stands, there_is.1)

-- ---- a channel closes

other_owner : (b : BoardValue) (list other channel another : ℕ) → slice_get b.owners list ≡ Some (Some channel) → slice_get b.owners other ≡ Some (Some another) → another ≢ channel → other ≢ list
other_owner b list other channel another mine its apart same =
    apart (let both : Some (Some another) ≡ Some (Some channel) = sym its ∙ ap (slice_get b.owners) same ∙ mine in cc)

gone_by : List (ℕ × WaitingValue) → ℕ → Bool
gone_by gone key = is_none (item_at key gone)

-- ---- lists

get_front : {A : Type 0} → (xs ys : List A) (i : ℕ) (x : A) → slice_get xs i ≡ Some x → slice_get (xs ++ ys) i ≡ Some x
get_front [] ys i x is = absurd (cc)
get_front (y ∷ xs) ys zero x is = is
get_front (y ∷ xs) ys (suc i) x is = get_front xs ys i x is

get_last : {A : Type 0} → (xs : List A) (x : A) → slice_get (xs ++ x ∷ []) (length xs) ≡ Some x
get_last [] x = refl
get_last (y ∷ xs) x = get_last xs x

get_inside : {A : Type 0} → (xs ys : List A) (i : ℕ) → i < length xs → slice_get (xs ++ ys) i ≡ slice_get xs i
get_inside [] ys i inside = absurd (omega (arith, inside))
get_inside (y ∷ xs) ys zero inside = refl
get_inside (y ∷ xs) ys (suc i) inside = get_inside xs ys i (omega (arith, inside))

get_unset : {A : Type 0} → (at other : ℕ) (x : A) (xs : List A) → at ≢ other → slice_get (slice_set xs at x) other ≡ slice_get xs other
get_unset at other x [] apart = refl
get_unset zero zero x (y ∷ xs) apart = absurd (apart refl)
get_unset zero (suc other) x (y ∷ xs) apart = refl
get_unset (suc at) zero x (y ∷ xs) apart = refl
get_unset (suc at) (suc other) x (y ∷ xs) apart = get_unset at other x xs (λ e. apart (ap suc e))

last_cases : {A : Type 0} → (xs : List A) (y z : A) → Contains (xs ++ y ∷ []) z → Contains xs z ⊎ (z ≡ y)
last_cases xs y z among = elim (Contains-append_cases xs (y ∷ []) z among) [ inl first ↦ inl first | inr last ↦ inr (in_one y z last) ]

-- where a key stands in one list, what stands there is there
one_there : (list key : ℕ) (w : WaitingValue) (lists : List (List (ℕ × WaitingValue))) → Stands list key w lists
    → ((other : ℕ) (x : WaitingValue) → Stands other key x lists → list ≡ other) → item_of key lists ≡ Some w
one_there list key w lists stands one =
    there list key w lists stands
    (λ other x at. let same : Stands list key x lists = subst (λ l. Stands l key x lists) (sym (one other x at)) at in let e : Some x ≡ Some w = sym same ∙ stands in cc)

-- ---- a command is sent above

pushed_here : (list key : ℕ) (w : WaitingValue) (lists : List (List (ℕ × WaitingValue))) → list < length lists → item_of key lists ≡ None → Stands list key w (pushed list None (key, w) lists)
pushed_here list key w lists inside fresh =
    ap (item_at key) (rows_set list (rows_of list lists ++ (key, w) ∷ []) lists inside) ∙ item_last key w (rows_of list lists) (nowhere key lists fresh list)

not_fresh : (list key k : ℕ) (x : WaitingValue) (lists : List (List (ℕ × WaitingValue))) → item_of key lists ≡ None → Stands list k x lists → key ≢ k
not_fresh list key k x lists fresh stands same =
    absurd (let none : item_at k (rows_of list lists) ≡ None = subst (λ n. item_at n (rows_of list lists) ≡ None) same (nowhere key lists fresh list) in cc)

stays_pushed : (list key : ℕ) (w : WaitingValue) (lists : List (List (ℕ × WaitingValue))) → list < length lists → item_of key lists ≡ None
    → (other k : ℕ) (x : WaitingValue) → Stands other k x lists → Stands other k x (pushed list None (key, w) lists)
stays_pushed list key w lists inside fresh other k x stands =
    elim (cases_eq list other) [
      | inl same ↦
          subst (λ l. Stands l k x (pushed list None (key, w) lists)) same
          (ap (item_at k) (rows_set list (rows_of list lists ++ (key, w) ∷ []) lists inside)
          ∙ item_other k key w (rows_of list lists) (not_fresh other key k x lists fresh stands)
          ∙ subst (λ l. item_at k (rows_of l lists) ≡ Some x) (sym same) stands)
      | inr apart ↦ ap (item_at k) (rows_unset list other (rows_of list lists ++ (key, w) ∷ []) lists apart) ∙ stands
    ]

-- it is one that stood there, or the new one
pub record IsNew (list key : ℕ) (w : WaitingValue) (other k : ℕ) (x : WaitingValue) : Type 0 where
  pub list_is : list ≡ other
  pub key_is : key ≡ k
  pub item_is : x ≡ w

was_pushed : (list key : ℕ) (w : WaitingValue) (lists : List (List (ℕ × WaitingValue))) → list < length lists → item_of key lists ≡ None
    → (other k : ℕ) (x : WaitingValue) → Stands other k x (pushed list None (key, w) lists) → Stands other k x lists ⊎ IsNew list key w other k x
was_pushed list key w lists inside fresh other k x stands =
    elim (cases_eq list other) [
      | inr apart ↦ inl (sym (ap (item_at k) (rows_unset list other (rows_of list lists ++ (key, w) ∷ []) lists apart)) ∙ stands)
      | inl same ↦
          let at : item_at k (rows_of list lists ++ (key, w) ∷ []) ≡ Some x =
          sym (ap (item_at k) (rows_set list (rows_of list lists ++ (key, w) ∷ []) lists inside))
          ∙ subst (λ l. Stands l k x (pushed list None (key, w) lists)) (sym same) stands in
          elim (cases_eq key k) [
            | inl key_same ↦
                let last : item_at k (rows_of list lists ++ (key, w) ∷ []) ≡ Some w =
                subst (λ n. item_at n (rows_of list lists ++ (key, w) ∷ []) ≡ Some w) key_same (item_last key w (rows_of list lists) (nowhere key lists fresh list)) in
                inr (record { list_is = same; key_is = key_same; item_is = let e : Some x ≡ Some w = sym at ∙ last in cc })
            | inr key_apart ↦
                inl (subst (λ l. Stands l k x lists) same (sym (item_other k key w (rows_of list lists) key_apart) ∙ at))
          ]
    ]

-- each pending command is one of those that were sent
abbrev pub AreFew : List Asker → List (ℕ × Tag) → Type 0
AreFew asked pending = (row : ℕ × Tag) (place : ℕ) → Contains pending row → row.0 ≡ suc place → place < length asked

module _ (live : ℕ → Bool) (asked : List Asker) (pending : List (ℕ × Tag)) (b : BoardValue) (h : IsBoard live asked pending b) where
  module _ (j : ℕ) (token : List ℕ) (key : ℕ) (fresh : item_of key b.lists ≡ None) (inside : list_of j b < length b.lists)
      (mine : slice_get b.owners (list_of j b) ≡ Some (Some j)) (few : AreFew asked pending) where
    abbrev number : ℕ
    number = suc (length asked)

    abbrev newest : WaitingValue
    newest = record { serial = number; channel = j; token = token }

    abbrev after : BoardValue
    after = kept key newest b

    abbrev now : List (List (ℕ × WaitingValue))
    now = pushed (list_of j b) None (key, newest) b.lists

    was : (other k : ℕ) (x : WaitingValue) → Stands other k x now → Stands other k x b.lists ⊎ IsNew (list_of j b) key newest other k x
    was other k x at = was_pushed (list_of j b) key newest b.lists inside fresh other k x at

    one_after : (list other k : ℕ) (x y : WaitingValue) → Stands list k x now → Stands other k y now → list ≡ other
    one_after list other k x y at too =
        elim (was list k x at) [
          | inl old ↦ elim (was other k y too) [
            | inl older ↦ h.one list other k x y old older
            | inr new ↦ absurd (not_fresh list key k x b.lists fresh old new.key_is)
          ]
          | inr new ↦ elim (was other k y too) [
            | inl older ↦ absurd (not_fresh other key k y b.lists fresh older new.key_is)
            | inr newer ↦ sym new.list_is ∙ newer.list_is
          ]
        ]

    still : (k : ℕ) (x : WaitingValue) → item_of k b.lists ≡ Some x → item_of k now ≡ Some x
    still k x is =
        let s = somewhere k x b.lists is in
        let at = stays_pushed (list_of j b) key newest b.lists inside fresh s.list k x s.stands in
        one_there s.list k x now at (λ other y too. one_after s.list other k x y at too)

    pub keeps_pushed : IsBoard live (asked ++ record { channel = j; token = token } ∷ []) (pending ++ (number, record { key = key; serial = number }) ∷ []) after
    keeps_pushed = record {
      own = λ list k x at.
          elim (was list k x at) [
            | inl old ↦ let r = h.own list k x old in record { place = r.place; serial = r.serial; asker = get_front asked _ r.place (asker_of x) r.asker }
            | inr new ↦
                subst (IsRow (asked ++ record { channel = j; token = token } ∷ [])) (sym new.item_is)
                (record { place = length asked; serial = refl; asker = get_last asked _ })
          ];
      owner = λ list k x at.
          elim (was list k x at) [
            | inl old ↦ h.owner list k x old
            | inr new ↦
                subst (λ l. slice_get b.owners l ≡ Some (Some x.channel)) new.list_is (mine ∙ ap (λ (w : WaitingValue). Some (Some w.channel)) (sym new.item_is))
          ];
      one = one_after;
      numbered = λ row among.
          elim (last_cases pending _ row among) [
            | inl old ↦ h.numbered row old
            | inr new ↦ rw new refl
          ];
      leads = λ row place a among at asks lives.
          elim (last_cases pending _ row among) [
            | inl old ↦ still row.1.key (row_of row.0 a) (h.leads row place a old at (sym (get_inside asked _ place (few row place old at)) ∙ asks) lives)
            | inr new ↦
                let place_is : length asked ≡ place = let e : suc (length asked) ≡ suc place = sym (ap (λ (r : ℕ × Tag). r.0) new) ∙ at in omega (arith, e) in
                let asker_is : record { channel = j; token = token } ≡ a =
                let e : Some (record { channel = j; token = token }) ≡ Some a = sym (get_last asked _) ∙ ap (slice_get (asked ++ record { channel = j; token = token } ∷ [])) place_is ∙ asks in cc in
                let here = pushed_here (list_of j b) key newest b.lists inside fresh in
                let found_new : item_of key now ≡ Some newest = one_there (list_of j b) key newest now here (λ other y too. one_after (list_of j b) other key newest y here too) in
                let key_is : row.1.key ≡ key = ap (λ (r : ℕ × Tag). r.1.key) new in
                let number_is : row.0 ≡ number = ap (λ (r : ℕ × Tag). r.0) new in
                subst (λ n. item_of n now ≡ Some (row_of row.0 a)) (sym key_is)
                (subst (λ n. item_of key now ≡ Some (row_of n a)) (sym number_is)
                (subst (λ (a : Asker). item_of key now ≡ Some (row_of number a)) asker_is found_new))
          ];
    }

  -- ---- a command has its answer

  module _ (tag : Tag) (left_over : List (ℕ × Tag)) (rest : (row : ℕ × Tag) → Contains left_over row → Contains pending row × (row.0 ≢ tag.serial)) where
    not_it : ℕ → Bool
    not_it n = not (n == tag.key)

    unlinked_at : (list : ℕ) → rows_of list (unlinked tag.key b.lists) ≡ without tag.key (rows_of list b.lists)
    unlinked_at list = rows_mapped (without tag.key) list b.lists refl

    was_left : (list k : ℕ) (x : WaitingValue) → Stands list k x (unlinked tag.key b.lists) → Stands list k x b.lists
    was_left list k x at =
        let here : item_at k (without tag.key (rows_of list b.lists)) ≡ Some x = sym (ap (item_at k) (unlinked_at list)) ∙ at in
        elim (cases_eq k tag.key) [
          | inl same ↦ absurd (let none = item_dropped (λ n. not (n == tag.key)) k (rows_of list b.lists) (rw (eq-eqb k tag.key same) refl) in cc)
          | inr apart ↦ sym (item_kept (λ n. not (n == tag.key)) k (rows_of list b.lists) (rw (ne_eqb k tag.key apart) refl)) ∙ here
        ]

    stays_left : (list k : ℕ) (x : WaitingValue) → k ≢ tag.key → Stands list k x b.lists → Stands list k x (unlinked tag.key b.lists)
    stays_left list k x apart at =
        ap (item_at k) (unlinked_at list) ∙ item_kept (λ n. not (n == tag.key)) k (rows_of list b.lists) (rw (ne_eqb k tag.key apart) refl) ∙ at

    pub keeps_without : (o : Option WaitingValue) → found tag b ≡ o → IsBoard live asked left_over (without_key tag.key o b)
    keeps_without None is = record {
      own = h.own;
      owner = h.owner;
      one = h.one;
      numbered = λ row among. h.numbered row (rest row among).0;
      leads = λ row place a among at asks lives. h.leads row place a (rest row among).0 at asks lives;
    }
    keeps_without (Some w) is = record {
      own = λ list k x at. h.own list k x (was_left list k x at);
      owner = λ list k x at. h.owner list k x (was_left list k x at);
      one = λ list other k x y at too. h.one list other k x y (was_left list k x at) (was_left other k y too);
      numbered = λ row among. h.numbered row (rest row among).0;
      leads = λ row place a among at asks lives.
          let led = h.leads row place a (rest row among).0 at asks lives in
          let own_one = found_own tag.serial (item_of tag.key b.lists) w is in
          let apart : row.1.key ≢ tag.key = λ same.
          let both : Some (row_of row.0 a) ≡ Some w = sym led ∙ ap (λ n. item_of n b.lists) same ∙ own_one.0 in
          let serial : row.0 ≡ w.serial = let e : row_of row.0 a ≡ w = cc in ap (λ (w : WaitingValue). w.serial) e in
          (rest row among).1 (serial ∙ own_one.1) in
          let s = somewhere row.1.key (row_of row.0 a) b.lists led in
          let stays = stays_left s.list row.1.key (row_of row.0 a) apart s.stands in
          one_there s.list row.1.key (row_of row.0 a) (unlinked tag.key b.lists) stays
          (λ other y too. h.one s.list other row.1.key (row_of row.0 a) y s.stands (was_left other row.1.key y too));
    }

    pub keeps_dropped : IsBoard live asked left_over (dropped tag b)
    keeps_dropped = keeps_without (found tag b) refl

  -- ---- a channel closes

  module _ (j : ℕ) (mine : slice_get b.owners (list_of j b) ≡ Some (Some j)) (later : ℕ → Bool)
      (fewer : (c : ℕ) → later c ≡ true → (live c ≡ true) × (c ≢ j)) where
    abbrev gone : List (ℕ × WaitingValue)
    gone = rows_of (list_of j b) b.lists

    cleared_at : (list : ℕ) → rows_of list (cleared (list_of j b) b.lists) ≡ without_all gone (rows_of list b.lists)
    cleared_at list = rows_mapped (without_all gone) list b.lists refl

    -- it stood there, and isn't one of those that are gone
    was_cleared : (list k : ℕ) (x : WaitingValue) → Stands list k x (cleared (list_of j b) b.lists) → Stands list k x b.lists × (item_at k gone ≡ None)
    was_cleared list k x at =
        let here : item_at k (without_all gone (rows_of list b.lists)) ≡ Some x = sym (ap (item_at k) (cleared_at list)) ∙ at in
        elim (option_cases (item_at k gone)) [
          | inl none ↦ (sym (item_kept (λ n. is_none (item_at n gone)) k (rows_of list b.lists) (ap is_none none)) ∙ here, none)
          | inr some ↦ absurd (let none = item_dropped (λ n. is_none (item_at n gone)) k (rows_of list b.lists) (ap is_none some.1) in cc)
        ]

    stays_cleared : (list k : ℕ) (x : WaitingValue) → item_at k gone ≡ None → Stands list k x b.lists → Stands list k x (cleared (list_of j b) b.lists)
    stays_cleared list k x none at =
        ap (item_at k) (cleared_at list) ∙ item_kept (λ n. is_none (item_at n gone)) k (rows_of list b.lists) (ap is_none none) ∙ at

    other_list : (list k : ℕ) (x : WaitingValue) → Stands list k x b.lists → item_at k gone ≡ None → list_of j b ≢ list
    other_list list k x at none same =
        absurd (let some : item_at k gone ≡ Some x = subst (λ l. item_at k (rows_of l b.lists) ≡ Some x) (sym same) at in cc)

    pub keeps_left : IsBoard later asked pending (left j b)
    keeps_left = record {
      own = λ list k x at. h.own list k x (was_cleared list k x at).0;
      owner = λ list k x at.
          let w = was_cleared list k x at in
          get_unset (list_of j b) list None b.owners (other_list list k x w.0 w.1) ∙ h.owner list k x w.0;
      one = λ list other k x y at too. h.one list other k x y (was_cleared list k x at).0 (was_cleared other k y too).0;
      numbered = h.numbered;
      leads = λ row place a among at asks lives.
          let lived = fewer a.channel lives in
          let led = h.leads row place a among at asks lived.0 in
          let s = somewhere row.1.key (row_of row.0 a) b.lists led in
          let owner = h.owner s.list row.1.key (row_of row.0 a) s.stands in
          let none : item_at row.1.key gone ≡ None =
          elim (option_cases (item_at row.1.key gone)) [
            | inl none ↦ none
            | inr some ↦
                let same = h.one (list_of j b) s.list row.1.key some.0 (row_of row.0 a) some.1 s.stands in
                absurd (lived.1 (let e : Some (Some a.channel) ≡ Some (Some j) = sym owner ∙ ap (slice_get b.owners) (sym same) ∙ mine in cc))
          ] in
          let stays = stays_cleared s.list row.1.key (row_of row.0 a) none s.stands in
          one_there s.list row.1.key (row_of row.0 a) (cleared (list_of j b) b.lists) stays
          (λ other y too. h.one s.list other row.1.key (row_of row.0 a) y s.stands (was_cleared other row.1.key y too).0);
    }

  -- ---- a channel opens

  module _ (j : ℕ) (free : slice_get b.owners (free_list b) ≡ Some None) (later : ℕ → Bool)
      (more : (c : ℕ) → later c ≡ true → (live c ≡ true) ⊎ ((place : ℕ) (a : Asker) → slice_get asked place ≡ Some a → a.channel ≢ c)) where
    pub keeps_joined : IsBoard later asked pending (joined j b)
    keeps_joined = record {
      own = h.own;
      owner = λ list k x at.
          let owner = h.owner list k x at in
          let apart : free_list b ≢ list = λ same. absurd (let e : Some (Some x.channel) ≡ Some None = sym owner ∙ ap (slice_get b.owners) (sym same) ∙ free in cc) in
          get_unset (free_list b) list (Some j) b.owners apart ∙ owner;
      one = h.one;
      numbered = h.numbered;
      leads = λ row place a among at asks lives.
          elim (more a.channel lives) [
            | inl lived ↦ h.leads row place a among at asks lived
            | inr stranger ↦ absurd (stranger place a asks refl)
          ];
    }

  -- ---- fewer are live, or pending

  module _ (later : ℕ → Bool) (left_over : List (ℕ × Tag)) (fewer : (c : ℕ) → later c ≡ true → live c ≡ true) (rest : (row : ℕ × Tag) → Contains left_over row → Contains pending row) where
    pub keeps_fewer : IsBoard later asked left_over b
    keeps_fewer = record {
      own = h.own;
      owner = h.owner;
      one = h.one;
      numbered = λ row among. h.numbered row (rest row among);
      leads = λ row place a among at asks lives. h.leads row place a (rest row among) at asks (fewer a.channel lives);
    }

-- The rows of pending commands, by token and by key.
use Rattle.std.proofs.Common.{◌≡◌, ◌≢◌, ◌⊎◌, ℕ, ◌+◌, ◌<◌, eqb, true, cond, List, [], ◌∷◌, ◌++◌, length, map, drop, slice_get, Option, Some, None, is_some, refl, sym, ap, subst, ◌∙◌, inl, inr, arith}
use Rattle.std.specs.Prelude.{nat_eq, Result, Ok, Err, IfOk, OnOk, if◌then◌else◌}
use Rattle.std.specs.Map.{lookup}
use Rattle.std.specs.Option.{option_or}
use Rattle.std.proofs.lemmas.Bool.{cases_eq, eq-eqb, ne_eqb}
use Rattle.indexmap.specs.IndexMap.{IndexMap, get, index_map_len, Updates}
use Rattle.link_pool.specs.Rows.{Absent, Distinct, first_key, item_at, without}
use Rattle.link_pool.specs.Lists.{IsWhole, item_of, pushed, rows_of, unlinked}
use Rattle.link_pool.specs.Tokens.{key_of, tokens_in}
use Rattle.link_pool.specs.Indexed.{IsIndexed}
use Rattle.link_pool.proofs.Rowed.{found, item_absent, item_split, without_absent, distinct_push}
use Rattle.link_pool.proofs.Unlinking.{unlinked_rows}

module _ {T : Type 0} where
  absent_from : (key : ℕ) (rows : List (ℕ × T)) → item_at key rows ≡ None → Absent key rows
  absent_from key rows none =
      elim (found key rows) [
        | inl a ↦ a
        | inr s ↦ absurd (let some : item_at key rows ≡ Some s.item = ap (item_at key) s.is ∙ item_split key s.front s.item s.back s.first_one in cc)
      ]

  absent_without : (k key : ℕ) (rows : List (ℕ × T)) → Absent k rows → Absent k (without key rows)
  absent_without k key [] a = tt
  absent_without k key (row ∷ rows) a = by_place (cases_eq row.0 key) (absent_without k key rows a.1)
    where
      by_place : (row.0 ≡ key) ⊎ (row.0 ≢ key) → Absent k (without key rows) → Absent k (without key (row ∷ rows))
      by_place (inl same) rest = rw (eq-eqb row.0 key same) rest
      by_place (inr apart) rest = rw (ne_eqb row.0 key apart) (a.0, rest)

  distinct_left : (key : ℕ) (rows : List (ℕ × T)) → Distinct rows → Distinct (without key rows)
  distinct_left key [] d = tt
  distinct_left key (row ∷ rows) d = by_place (cases_eq row.0 key) (distinct_left key rows d.1)
    where
      by_place : (row.0 ≡ key) ⊎ (row.0 ≢ key) → Distinct (without key rows) → Distinct (without key (row ∷ rows))
      by_place (inl same) rest = rw (eq-eqb row.0 key same) rest
      by_place (inr apart) rest = rw (ne_eqb row.0 key apart) (absent_without row.0 key rows d.0, rest)

  abbrev pub tokens : List (ℕ × (ℕ × T)) → List (ℕ × T)
  tokens rows = map (λ row. row.1) rows

  key_here : (token : ℕ) (row : ℕ × (ℕ × T)) (rows : List (ℕ × (ℕ × T))) → row.1.0 ≡ token → key_of token (row ∷ rows) ≡ Some row.0
  key_here token row rows same = rw (eq-eqb row.1.0 token same) refl

  key_later : (token : ℕ) (row : ℕ × (ℕ × T)) (rows : List (ℕ × (ℕ × T))) → row.1.0 ≢ token → key_of token (row ∷ rows) ≡ key_of token rows
  key_later token row rows apart = rw (ne_eqb row.1.0 token apart) refl

  item_here : (key : ℕ) (row : ℕ × T) (rows : List (ℕ × T)) → row.0 ≡ key → item_at key (row ∷ rows) ≡ Some row.1
  item_here key row rows same = rw (eq-eqb row.0 key same) refl

  item_later : (key : ℕ) (row : ℕ × T) (rows : List (ℕ × T)) → row.0 ≢ key → item_at key (row ∷ rows) ≡ item_at key rows
  item_later key row rows apart = rw (ne_eqb row.0 key apart) refl

  left_here : (key : ℕ) (row : ℕ × T) (rows : List (ℕ × T)) → row.0 ≡ key → without key (row ∷ rows) ≡ without key rows
  left_here key row rows same = rw (eq-eqb row.0 key same) refl

  left_later : (key : ℕ) (row : ℕ × T) (rows : List (ℕ × T)) → row.0 ≢ key → without key (row ∷ rows) ≡ row ∷ without key rows
  left_later key row rows apart = rw (ne_eqb row.0 key apart) refl

  key_absent : (token : ℕ) (rows : List (ℕ × (ℕ × T))) → Absent token (tokens rows) → key_of token rows ≡ None
  key_absent token [] a = refl
  key_absent token (row ∷ rows) a = key_later token row rows a.0 ∙ key_absent token rows a.1

  absent_key : (token : ℕ) (rows : List (ℕ × (ℕ × T))) → key_of token rows ≡ None → Absent token (tokens rows)
  absent_key token [] none = tt
  absent_key token (row ∷ rows) none = by_place (cases_eq row.1.0 token) (λ rest. absent_key token rows rest)
    where
      by_place : (row.1.0 ≡ token) ⊎ (row.1.0 ≢ token) → (key_of token rows ≡ None → Absent token (tokens rows)) → Absent token (tokens (row ∷ rows))
      by_place (inl same) more = absurd (let some = key_here token row rows same in cc)
      by_place (inr apart) more = (apart, more (sym (key_later token row rows apart) ∙ none))

module _ {T : Type 0} where
  pub item_none : (token : ℕ) (rows : List (ℕ × T)) → Absent token rows → None ≡ item_at token rows
  item_none token rows a = sym (item_absent token rows a)

  pub left_none : (token : ℕ) (rows : List (ℕ × T)) → Absent token rows → rows ≡ without token rows
  left_none token rows a = sym (without_absent token rows a)

  -- the row of a token has this key
  pub record Has (token key : ℕ) (rows : List (ℕ × (ℕ × T))) : Type 0 where
    pub item : T
    pub item_is : item_at token (tokens rows) ≡ Some item
    pub row_is : item_at key rows ≡ Some (token, item)
    pub left : tokens (without key rows) ≡ without token (tokens rows)
    pub keys : (q : ℕ) → key_of q (without key rows) ≡ cond (eqb token q) None (key_of q rows)
    pub fewer : length (without key rows) + 1 ≡ length rows

  has_here : (row : ℕ × (ℕ × T)) (rows : List (ℕ × (ℕ × T))) → Distinct (row ∷ rows) → Distinct (tokens (row ∷ rows)) → Has row.1.0 row.0 (row ∷ rows)
  has_here row rows apart differ =
      let rest : without row.0 (row ∷ rows) ≡ rows = left_here row.0 row rows refl ∙ without_absent row.0 rows apart.0 in
      record {
        item = row.1.1;
        item_is = item_here row.1.0 row.1 (tokens rows) refl;
        row_is = item_here row.0 row rows refl;
        left = ap tokens rest ∙ sym (left_here row.1.0 row.1 (tokens rows) refl ∙ without_absent row.1.0 (tokens rows) differ.0);
        keys = λ q. ap (key_of q) rest ∙ by_token q (cases_eq row.1.0 q);
        fewer = let many = ap length rest in omega (arith, many);
      }
    where
      by_token : (q : ℕ) → (row.1.0 ≡ q) ⊎ (row.1.0 ≢ q) → key_of q rows ≡ cond (eqb row.1.0 q) None (key_of q (row ∷ rows))
      by_token q (inl same) = rw (eq-eqb row.1.0 q same) (ap (λ t. key_of t rows) (sym same) ∙ key_absent row.1.0 rows differ.0)
      by_token q (inr other) = rw (ne_eqb row.1.0 q other) refl

  has_later : (token key : ℕ) (row : ℕ × (ℕ × T)) (rows : List (ℕ × (ℕ × T))) → row.1.0 ≢ token → Absent row.0 rows → Has token key rows → Has token key (row ∷ rows)
  has_later token key row rows other a h =
      let rest = left_later key row rows apart in
      record {
        item = h.item;
        item_is = item_later token row.1 (tokens rows) other ∙ h.item_is;
        row_is = item_later key row rows apart ∙ h.row_is;
        left = ap tokens rest ∙ ap (λ xs. row.1 ∷ xs) h.left ∙ sym (left_later token row.1 (tokens rows) other);
        keys = λ q. ap (key_of q) rest ∙ by_token q (cases_eq row.1.0 q);
        fewer = let many = ap length rest in let fewer = h.fewer in omega (arith, many, fewer);
      }
    where
      apart : row.0 ≢ key
      apart same = absurd (let some = h.row_is in let none = subst (λ k. item_at k rows ≡ None) same (item_absent row.0 rows a) in cc)

      by_token : (q : ℕ) → (row.1.0 ≡ q) ⊎ (row.1.0 ≢ q) → key_of q (row ∷ without key rows) ≡ cond (eqb token q) None (key_of q (row ∷ rows))
      by_token q (inl same) =
          key_here q row (without key rows) same ∙ sym (ap (cond (eqb token q) None) (key_here q row rows same) ∙ ap (λ b. cond b None (Some row.0)) (ne_eqb token q (λ e. other (same ∙ sym e))))
      by_token q (inr differs) =
          key_later q row (without key rows) differs ∙ h.keys q ∙ sym (ap (cond (eqb token q) None) (key_later q row rows differs))

  has_row : (token key : ℕ) (rows : List (ℕ × (ℕ × T))) → Distinct rows → Distinct (tokens rows) → key_of token rows ≡ Some key → Has token key rows
  has_row token key [] apart differ is = absurd (cc)
  has_row token key (row ∷ rows) apart differ is = by_place (cases_eq row.1.0 token) (λ rest. has_row token key rows apart.1 differ.1 rest)
    where
      by_place : (row.1.0 ≡ token) ⊎ (row.1.0 ≢ token) → (key_of token rows ≡ Some key → Has token key rows) → Has token key (row ∷ rows)
      by_place (inl same) more =
          let some = sym (key_here token row rows same) ∙ is in
          let key_is : row.0 ≡ key = cc in
          subst (λ t. Has t key (row ∷ rows)) same (subst (λ k. Has row.1.0 k (row ∷ rows)) key_is (has_here row rows apart differ))
      by_place (inr other) more = has_later token key row rows other apart.0 (more (sym (key_later token row rows other) ∙ is))

  pub tokens_left : (lists next : List (List (ℕ × (ℕ × T)))) (token key : ℕ) → Has token key (rows_of 0 lists) → next ≡ unlinked key lists → tokens_in next ≡ without token (tokens_in lists)
  tokens_left lists next token key h next_is = ap tokens (ap (rows_of 0) next_is ∙ unlinked_rows key 0 lists) ∙ h.left

  key_push : (token key : ℕ) (item : T) (rows : List (ℕ × (ℕ × T))) → Absent token (tokens rows) → (q : ℕ) → key_of q (rows ++ (key, (token, item)) ∷ []) ≡ cond (eqb token q) (Some key) (key_of q rows)
  key_push token key item [] a q = by_token (cases_eq token q)
    where
      by_token : (token ≡ q) ⊎ (token ≢ q) → key_of q ((key, (token, item)) ∷ []) ≡ cond (eqb token q) (Some key) None
      by_token (inl same) = rw (eq-eqb token q same) refl
      by_token (inr apart) = rw (ne_eqb token q apart) refl
  key_push token key item (row ∷ rows) a q = by_token (cases_eq row.1.0 q) (key_push token key item rows a.1 q)
    where
      by_token : (row.1.0 ≡ q) ⊎ (row.1.0 ≢ q) → key_of q (rows ++ (key, (token, item)) ∷ []) ≡ cond (eqb token q) (Some key) (key_of q rows) → key_of q ((row ∷ rows) ++ (key, (token, item)) ∷ []) ≡ cond (eqb token q) (Some key) (key_of q (row ∷ rows))
      by_token (inl same) rest =
          key_here q row (rows ++ (key, (token, item)) ∷ []) same
          ∙ sym (ap (cond (eqb token q) (Some key)) (key_here q row rows same) ∙ ap (λ b. cond b (Some key) (Some row.0)) (ne_eqb token q (λ e. a.0 (same ∙ sym e))))
      by_token (inr differs) rest =
          key_later q row (rows ++ (key, (token, item)) ∷ []) differs ∙ rest ∙ sym (ap (cond (eqb token q) (Some key)) (key_later q row rows differs))

  tokens_push : (key token : ℕ) (item : T) (rows : List (ℕ × (ℕ × T))) → tokens (rows ++ (key, (token, item)) ∷ []) ≡ tokens rows ++ (token, item) ∷ []
  tokens_push key token item [] = refl
  tokens_push key token item (row ∷ rows) = ap (λ xs. row.1 ∷ xs) (tokens_push key token item rows)

  length_push : (key token : ℕ) (item : T) (rows : List (ℕ × (ℕ × T))) → length (rows ++ (key, (token, item)) ∷ []) ≡ length rows + 1
  length_push key token item [] = omega arith
  length_push key token item (row ∷ rows) = let rest = length_push key token item rows in omega (arith, rest)

  rows_pushed : (row : ℕ × (ℕ × T)) (lists : List (List (ℕ × (ℕ × T)))) → length lists ≡ 1 → rows_of 0 (pushed 0 None row lists) ≡ rows_of 0 lists ++ row ∷ []
  rows_pushed row [] one = absurd (omega (arith, one))
  rows_pushed row (rows ∷ lists) one = refl

  first_there : (key : ℕ) (rows : List (ℕ × (ℕ × T))) → Some key ≡ first_key rows → is_some (item_at key rows) ≡ true
  first_there key [] first = absurd (cc)
  first_there key (row ∷ rows) first = let key_is : row.0 ≡ key = cc in ap is_some (item_here key row rows key_is)

  pub first_left : (lists next : List (List (ℕ × (ℕ × T)))) (key : ℕ) → tokens (without key (rows_of 0 lists)) ≡ drop 1 (tokens_in lists) → next ≡ unlinked key lists → tokens_in next ≡ drop 1 (tokens_in lists)
  first_left lists next key left next_is = ap tokens (ap (rows_of 0) next_is ∙ unlinked_rows key 0 lists) ∙ left

if_ok : {X E : Type 0} (r : Result X E) (v : X) (P : X → Type 0) → r ≡ Ok v → IfOk r P → P v
if_ok (Ok x) v P is p = let same : x ≡ v = cc in subst P same p
if_ok (Err e) v P is p = absurd (cc)

same_token : {S : Type 0} (old new : IndexMap ℕ ℕ S) (q : ℕ) → new.entries ≡ old.entries → get nat_eq new q ≡ get nat_eq old q
same_token old new q same = ap (lookup (nat_eq q)) same

-- one list is the whole pool
one_list : {R : Type 0} (lists : List (List (ℕ × R))) → length lists ≡ 1 → lists ≡ rows_of 0 lists ∷ []
one_list [] one = absurd (omega (arith, one))
one_list (rows ∷ []) one = refl
one_list (rows ∷ other ∷ lists) one = absurd (omega (arith, one))

or_none : {R : Type 0} (o : Option R) → option_or o None ≡ o
or_none None = refl
or_none (Some x) = refl

item_in : {R : Type 0} (key : ℕ) (lists : List (List (ℕ × R))) → length lists ≡ 1 → item_of key lists ≡ item_at key (rows_of 0 lists)
item_in key lists one = ap (item_of key) (one_list lists one) ∙ or_none (item_at key (rows_of 0 lists))

module _ {T S : Type 0} where
  -- the key that the map has for a token is that of its row
  pub has_token : (lists : List (List (ℕ × (ℕ × T)))) (keys : IndexMap ℕ ℕ S) (token key : ℕ) → IsIndexed lists keys → IsWhole lists → Some key ≡ get nat_eq keys token → Has token key (rows_of 0 lists)
  has_token lists keys token key i whole is =
      has_row token key (rows_of 0 lists) (whole.distinct 0) i.differ (sym (i.found token) ∙ sym is)

  -- a token that the map hasn't is in no row
  pub no_token : (lists : List (List (ℕ × (ℕ × T)))) (keys : IndexMap ℕ ℕ S) (token : ℕ) → IsIndexed lists keys → None ≡ get nat_eq keys token → Absent token (tokens_in lists)
  no_token lists keys token i none = absent_key token (rows_of 0 lists) (sym (i.found token) ∙ sym none)

  -- what the pool has at that key
  pub has_item : (lists : List (List (ℕ × (ℕ × T)))) (keys : IndexMap ℕ ℕ S) (token key : ℕ) → IsIndexed lists keys → (h : Has token key (rows_of 0 lists)) → item_of key lists ≡ Some (token, h.item)
  has_item lists keys token key i h = item_in key lists i.one ∙ h.row_is

  -- the row of a token goes
  pub indexed_left : (lists next : List (List (ℕ × (ℕ × T)))) (keys after : IndexMap ℕ ℕ S) (token key : ℕ) → IsIndexed lists keys → Has token key (rows_of 0 lists) → next ≡ unlinked key lists → length next ≡ length lists → ((q : ℕ) → get nat_eq after q ≡ cond (eqb token q) None (get nat_eq keys q)) → index_map_len after + 1 ≡ index_map_len keys → IsIndexed next after
  indexed_left lists next keys after token key i h next_is many updates less =
      let rows : rows_of 0 next ≡ without key (rows_of 0 lists) = ap (rows_of 0) next_is ∙ unlinked_rows key 0 lists in
      let seen : tokens_in next ≡ without token (tokens_in lists) = ap tokens rows ∙ h.left in
      let now = ap length rows in
      let fewer = h.fewer in
      let counted = i.counted in
      let few = i.few in
      record {
        one = many ∙ i.one;
        found = λ q. updates q ∙ ap (cond (eqb token q) None) (i.found q) ∙ sym (h.keys q) ∙ sym (ap (key_of q) rows);
        counted = omega (arith, now, fewer, counted, less);
        few = omega (arith, now, fewer, few);
        differ = subst Distinct (sym seen) (distinct_left token (tokens_in lists) i.differ);
      }

  -- a row more
  pub indexed_pushed : (lists next : List (List (ℕ × (ℕ × T)))) (keys after : IndexMap ℕ ℕ S) (token key : ℕ) (item : T) → IsIndexed lists keys → item_at token (tokens_in lists) ≡ None → next ≡ pushed 0 None (key, (token, item)) lists → length next ≡ length lists → ((q : ℕ) → get nat_eq after q ≡ cond (eqb token q) (Some key) (get nat_eq keys q)) → index_map_len after ≡ index_map_len keys + 1 → index_map_len keys < 1024 → IsIndexed next after
  indexed_pushed lists next keys after token key item i none next_is many updates more below =
      let a = absent_from token (tokens_in lists) none in
      let rows : rows_of 0 next ≡ rows_of 0 lists ++ (key, (token, item)) ∷ [] = ap (rows_of 0) next_is ∙ rows_pushed (key, (token, item)) lists i.one in
      let seen : tokens_in next ≡ tokens_in lists ++ (token, item) ∷ [] = ap tokens rows ∙ tokens_push key token item (rows_of 0 lists) in
      let now = ap length rows ∙ length_push key token item (rows_of 0 lists) in
      let counted = i.counted in
      record {
        one = many ∙ i.one;
        found = λ q. updates q ∙ ap (cond (eqb token q) (Some key)) (i.found q) ∙ sym (key_push token key item (rows_of 0 lists) a q) ∙ sym (ap (key_of q) rows);
        counted = omega (arith, now, counted, more);
        few = omega (arith, now, counted, below);
        differ = subst Distinct (sym seen) (distinct_push token item (tokens_in lists) a i.differ);
      }

  -- ---- the first row

  pub record First (token key : ℕ) (item : T) (lists : List (List (ℕ × (ℕ × T)))) (keys : IndexMap ℕ ℕ S) : Type 0 where
    pub has : Has token key (rows_of 0 lists)
    pub is : slice_get (tokens_in lists) 0 ≡ Some (token, item)
    pub left : tokens (without key (rows_of 0 lists)) ≡ drop 1 (tokens_in lists)
    pub mapped : get nat_eq keys token ≡ Some key

  first_by : (lists : List (List (ℕ × (ℕ × T)))) (keys : IndexMap ℕ ℕ S) (token key : ℕ) (item : T) (rows : List (ℕ × (ℕ × T))) → rows_of 0 lists ≡ rows → Distinct rows → Distinct (tokens rows) → ((q : ℕ) → get nat_eq keys q ≡ key_of q rows) → Some key ≡ first_key rows → Some (token, item) ≡ item_at key rows → First token key item lists keys
  first_by lists keys token key item [] rows_are apart differ mapped first is = absurd (cc)
  first_by lists keys token key item (row ∷ rows) rows_are apart differ mapped first is =
      let key_is : row.0 ≡ key = cc in
      let there : ◌≡◌ {A = Option (ℕ × T)} (Some (token, item)) (Some row.1) = is ∙ item_here key row rows key_is in
      let row_is : row.1 ≡ (token, item) = cc in
      let token_is : row.1.0 ≡ token = ap (λ (r : ℕ × T). r.0) row_is in
      record {
        has = subst (Has token key) (sym rows_are) (subst (λ t. Has t key (row ∷ rows)) token_is (subst (λ k. Has row.1.0 k (row ∷ rows)) key_is (has_here row rows apart differ)));
        is = ap (λ xs. slice_get (tokens xs) 0) rows_are ∙ ap Some row_is;
        left = ap (λ xs. tokens (without key xs)) rows_are
            ∙ ap tokens (left_here key row rows key_is ∙ without_absent key rows (subst (λ k. Absent k rows) key_is apart.0))
            ∙ sym (ap (λ xs. drop 1 (tokens xs)) rows_are);
        mapped = mapped token ∙ key_here token row rows token_is ∙ ap Some key_is;
      }

  pub first_has : (lists : List (List (ℕ × (ℕ × T)))) (keys : IndexMap ℕ ℕ S) (token key : ℕ) (item : T) → IsIndexed lists keys → IsWhole lists → Some key ≡ first_key (rows_of 0 lists) → Some (token, item) ≡ item_of key lists → First token key item lists keys
  first_has lists keys token key item i whole first is =
      first_by lists keys token key item (rows_of 0 lists) refl (whole.distinct 0) i.differ i.found first (is ∙ item_in key lists i.one)

  -- the pool has an item at its first key
  pub first_item : (lists : List (List (ℕ × (ℕ × T)))) (keys : IndexMap ℕ ℕ S) (key : ℕ) → IsIndexed lists keys → Some key ≡ first_key (rows_of 0 lists) → is_some (item_of key lists) ≡ true
  first_item lists keys key i first = ap is_some (item_in key lists i.one) ∙ first_there key (rows_of 0 lists) first

  -- ---- a token that goes into the map

  no_key : (lists : List (List (ℕ × (ℕ × T)))) (keys : IndexMap ℕ ℕ S) (token : ℕ) → IsIndexed lists keys → item_at token (tokens_in lists) ≡ None → get nat_eq keys token ≡ None
  no_key lists keys token i none = i.found token ∙ key_absent token (rows_of 0 lists) (absent_from token (tokens_in lists) none)

  pub indexed_issued : {E : Type 0} (lists next : List (List (ℕ × (ℕ × T)))) (keys wide after : IndexMap ℕ ℕ S) (token key : ℕ) (item : T) (given : Result (Option ℕ) E) (old : Option ℕ) → IsIndexed lists keys → item_at token (tokens_in lists) ≡ None → next ≡ pushed 0 None (key, (token, item)) lists → length next ≡ length lists → wide.entries ≡ keys.entries → given ≡ Ok old → IfOk given (λ o. o ≡ get nat_eq wide token) → OnOk given (Updates nat_eq wide after token (Some key)) → IfOk given (λ o. index_map_len after ≡ index_map_len wide + (if is_some o then 0 else 1)) → index_map_len keys < 1024 → IsIndexed next after
  indexed_issued lists next keys wide after token key item given old i none next_is many same ok was updates counts below =
      let updated = if_ok given old (λ o. Updates nat_eq wide after token (Some key)) ok updates in
      let old_is : old ≡ None = if_ok given old (λ o. o ≡ get nat_eq wide token) ok was ∙ same_token keys wide token same ∙ no_key lists keys token i none in
      let grown = subst (λ (o : Option ℕ). index_map_len after ≡ index_map_len wide + (if is_some o then 0 else 1)) old_is (if_ok given old (λ o. index_map_len after ≡ index_map_len wide + (if is_some o then 0 else 1)) ok counts) in
      let length_same = ap length same in
      indexed_pushed lists next keys after token key item i none next_is many
      (λ q. updated.0 q ∙ ap (cond (eqb token q) (Some key)) (same_token keys wide q same))
      (omega (arith, grown, length_same)) below

-- While the upper end is open, each open lower channel owns a list of the board, and as many are owned as channels are open.
use Rattle.std.proofs.Common.{◌≡◌, ◌≢◌, ◌<◌, ℕ, zero, suc, ◌+◌, ◌==◌, Bool, true, false, not, cond, ◌||◌, nat_le, List, [], ◌∷◌, ◌++◌, length, map, Option, Some, None, slice_get, slice_set, refl, sym, ap, subst, ◌∙◌, arith, eqb-true}
use Rattle.std.specs.List.{AllByRecursion, filter}
use Rattle.std.proofs.lemmas.Bool.{eqb-false, leb-false, or_parts}
use Rattle.std.proofs.lemmas.List.Recursion.{is_count_by}
use Rattle.channel_core.specs.Closing.{has_queued, is_closed}
use Rattle.channel_list.specs.Channels.{is_kept, is_open, live_count}
use Rattle.channel_list.specs.declared.channel.Channel.{Channel}
use Rattle.channel_list.proofs.Differing.{Differ, has}
use Rattle.channel_list.proofs.Places.{channel_number, found}
use Rattle.list_laws.proofs.Lists.{get_within, set_length}
use Rattle.hub_node.specs.Board.{free_list, joined, left, list_of}
use Rattle.hub_node.specs.BoardValue.{BoardValue}
use Rattle.hub_node.proofs.Owners.{free_is, one_joins, one_leaves, own_is, owned}
use Rattle.hub_node.proofs.Steady.{Face, face, faces, shut_at}

abbrev pub HasList : ℕ → List (Option ℕ) → Type 0
HasList number owners = (at : ℕ) × (slice_get owners at ≡ Some (Some number))

abbrev pub OwnsIfOpen : List (Option ℕ) → Face → Type 0
OwnsIfOpen owners x = x.1 ≡ true → HasList x.0 owners

abbrev pub open_count : List Face → ℕ
open_count [] = 0
open_count (x ∷ xs) = cond x.1 (1 + open_count xs) (open_count xs)

pub record Owns (xs : List Face) (b : BoardValue) : Type 0 where
  pub each : AllByRecursion (OwnsIfOpen b.owners) xs
  pub count : owned b.owners ≡ open_count xs
  pub owners : length b.owners ≡ 64
  pub lists : length b.lists ≡ 64

pub live_is : (cs : List Channel) → open_count (faces cs) ≡ live_count cs
unfolding is_open
live_is cs = is_count_by (λ cs. open_count (faces cs)) is_open refl (λ c cs. refl) cs

-- ---- a channel that is open

owns_found : (i : ℕ) (owners : List (Option ℕ)) (cs : List Channel) (c : Channel) → AllByRecursion (OwnsIfOpen owners) (faces cs) → found i cs ≡ Some c → is_closed c.end.state ≡ false → HasList i owners
owns_found i owners [] c all there opened = absurd cc
owns_found i owners (x ∷ cs) c all there opened = by_flag (x.number == i) refl there (λ there. owns_found i owners cs c all.1 there opened)
  where
    by_flag : (flag : Bool) → (x.number == i) ≡ flag → cond flag (Some x) (found i cs) ≡ Some c → (found i cs ≡ Some c → HasList i owners) → HasList i owners
    by_flag true is there rest =
        let same : x ≡ c = cc in
        let open_so : not (is_closed x.end.state) ≡ true = ap (λ (y : Channel). not (is_closed y.end.state)) same ∙ ap not opened in
        subst (λ n. HasList n owners) (eqb-true x.number i is) (all.0 open_so)
    by_flag false is there rest = rest there

-- its list is its own
pub own_list : (i : ℕ) (b : BoardValue) (cs : List Channel) (c : Channel) → Owns (faces cs) b → found i cs ≡ Some c → is_closed c.end.state ≡ false
    → slice_get b.owners (list_of i b) ≡ Some (Some i)
own_list i b cs c o there opened = let at = owns_found i b.owners cs c o.each there opened in own_is i at.0 b at.1

pub own_inside : (i : ℕ) (b : BoardValue) (xs : List Face) → Owns xs b → slice_get b.owners (list_of i b) ≡ Some (Some i) → list_of i b < length b.lists
own_inside i b xs o mine =
    let within = get_within (list_of i b) b.owners (Some i) mine in
    let owners = o.owners in
    let lists = o.lists in omega (arith, within, owners, lists)

-- ---- one joins

count_more : (xs : List Face) (x : Face) → open_count (xs ++ x ∷ []) ≡ open_count xs + cond x.1 1 0
count_more [] x = by_flag x.1
  where
    by_flag : (flag : Bool) → cond flag (1 + 0) 0 ≡ 0 + cond flag 1 0
    by_flag true = refl
    by_flag false = refl
count_more (y ∷ xs) x = by_flag y.1 (count_more xs x)
  where
    by_flag : (flag : Bool) → open_count (xs ++ x ∷ []) ≡ open_count xs + cond x.1 1 0
        → cond flag (1 + open_count (xs ++ x ∷ [])) (open_count (xs ++ x ∷ [])) ≡ cond flag (1 + open_count xs) (open_count xs) + cond x.1 1 0
    by_flag true rest = omega (arith, rest)
    by_flag false rest = rest

-- those that are forgotten are closed
kept_by : (keeps over queues : Bool) → (not over || queues) ≡ keeps → (n m : ℕ) → n ≡ m → cond keeps (cond (not over) (1 + n) n) n ≡ cond (not over) (1 + m) m
kept_by true true queues is n m same = same
kept_by true false queues is n m same = ap (λ k. 1 + k) same
kept_by false true queues is n m same = same
kept_by false false queues is n m same = let no : true ≡ false = is in absurd cc

kept_count : (cs : List Channel) → open_count (faces (filter is_kept cs)) ≡ open_count (faces cs)
unfolding is_open is_kept
kept_count [] = refl
kept_count (c ∷ cs) = choose (is_kept c) ∙ kept_by (is_kept c) (is_closed c.end.state) (has_queued c.end) refl (open_count (faces (filter is_kept cs))) (open_count (faces cs)) (kept_count cs)
  where
    choose : (flag : Bool) → open_count (faces (cond flag (c ∷ filter is_kept cs) (filter is_kept cs)))
        ≡ cond flag (cond (not (is_closed c.end.state)) (1 + open_count (faces (filter is_kept cs))) (open_count (faces (filter is_kept cs)))) (open_count (faces (filter is_kept cs)))
    choose true = refl
    choose false = refl

all_kept : (P : Face → Type 0) (cs : List Channel) → AllByRecursion P (faces cs) → AllByRecursion P (faces (filter is_kept cs))
all_kept P [] all = tt
all_kept P (c ∷ cs) all = by_flag (is_kept c) (all_kept P cs all.1)
  where
    by_flag : (flag : Bool) → AllByRecursion P (faces (filter is_kept cs)) → AllByRecursion P (faces (cond flag (c ∷ filter is_kept cs) (filter is_kept cs)))
    by_flag true rest = (all.0, rest)
    by_flag false rest = rest

get_other : (at place : ℕ) (o : Option ℕ) (owners : List (Option ℕ)) → at ≢ place → slice_get (slice_set owners place o) at ≡ slice_get owners at
get_other at place o [] apart = refl
get_other zero zero o (x ∷ owners) apart = absurd (apart refl)
get_other zero (suc place) o (x ∷ owners) apart = refl
get_other (suc at) zero o (x ∷ owners) apart = refl
get_other (suc at) (suc place) o (x ∷ owners) apart = get_other at place o owners (λ same. apart (ap suc same))

get_there : (place : ℕ) (o x : Option ℕ) (owners : List (Option ℕ)) → slice_get owners place ≡ Some x → slice_get (slice_set owners place o) place ≡ Some o
get_there place o x [] there = absurd cc
get_there zero o x (y ∷ owners) there = refl
get_there (suc place) o x (y ∷ owners) there = get_there place o x owners there

has_other : (n place : ℕ) (o x : Option ℕ) (owners : List (Option ℕ)) → slice_get owners place ≡ Some x → x ≢ Some n → HasList n owners → HasList n (slice_set owners place o)
has_other n place o x owners there apart h =
    let other : h.0 ≢ place = λ same. apart (let both : Some x ≡ Some (Some n) = sym there ∙ ap (slice_get owners) (sym same) ∙ h.1 in cc) in
    (h.0, get_other h.0 place o owners other ∙ h.1)

all_mapped : (P Q : Face → Type 0) (xs : List Face) → ((x : Face) → P x → Q x) → AllByRecursion P xs → AllByRecursion Q xs
all_mapped P Q [] each all = tt
all_mapped P Q (x ∷ xs) each all = (each x all.0, all_mapped P Q xs each all.1)

all_more : (P : Face → Type 0) (xs : List Face) (x : Face) → AllByRecursion P xs → P x → AllByRecursion P (xs ++ x ∷ [])
all_more P [] x all one = (one, tt)
all_more P (y ∷ xs) x all one = (all.0, all_more P xs x all.1 one)

faces_more : (cs : List Channel) (c : Channel) → faces (cs ++ c ∷ []) ≡ faces cs ++ face c ∷ []
faces_more [] c = refl
faces_more (d ∷ cs) c = ap (λ xs. face d ∷ xs) (faces_more cs c)

-- where fewer than 64 are open, a list is free
pub free_there : (b : BoardValue) (cs : List Channel) → Owns (faces cs) b → nat_le 64 (live_count cs) ≡ false → slice_get b.owners (free_list b) ≡ Some None
free_there b cs o few =
    let less : live_count cs < 64 = leb-false 64 (live_count cs) few in
    let count = o.count ∙ live_is cs in
    let owners = o.owners in free_is b (omega (arith, less, count, owners))

pub owns_joined : (i : ℕ) (b : BoardValue) (cs : List Channel) (c : Channel) → face c ≡ (i, true) → slice_get b.owners (free_list b) ≡ Some None → Owns (faces cs) b
    → Owns (faces (filter is_kept cs ++ c ∷ [])) (joined i b)
owns_joined i b cs c is free o = record {
  each = subst (AllByRecursion (OwnsIfOpen owners)) (sym faces_are)
      (all_more (OwnsIfOpen owners) (faces (filter is_kept cs)) (i, true)
      (all_kept (OwnsIfOpen owners) cs (all_mapped (OwnsIfOpen b.owners) (OwnsIfOpen owners) (faces cs) (λ x has opened. has_other x.0 (free_list b) (Some i) None b.owners free (λ same. cc) (has opened)) o.each))
      (λ opened. (free_list b, get_there (free_list b) (Some i) None b.owners free)));
  count = one_joins i (free_list b) b.owners free ∙ counted;
  owners = set_length (free_list b) b.owners (Some i) ∙ o.owners;
  lists = o.lists;
}
  where
    owners : List (Option ℕ)
    owners = slice_set b.owners (free_list b) (Some i)

    faces_are : faces (filter is_kept cs ++ c ∷ []) ≡ faces (filter is_kept cs) ++ (i, true) ∷ []
    faces_are = faces_more (filter is_kept cs) c ∙ ap (λ x. faces (filter is_kept cs) ++ x ∷ []) is

    counted : suc (owned b.owners) ≡ open_count (faces (filter is_kept cs ++ c ∷ []))
    counted =
        let kept = kept_count cs in
        let count = o.count in
        let more : open_count (faces (filter is_kept cs ++ c ∷ [])) ≡ open_count (faces (filter is_kept cs)) + 1 = ap open_count faces_are ∙ count_more (faces (filter is_kept cs)) (i, true) in
        omega (arith, kept, count, more)

-- ---- one leaves

shut_none : (i : ℕ) (cs : List Channel) → has channel_number i cs ≡ false → map (shut_at i) (faces cs) ≡ faces cs
shut_none i [] none = refl
shut_none i (c ∷ cs) none =
    let parts = or_parts (c.number == i) (has channel_number i cs) none in
    ap (λ b. cond b (c.number, false) (face c) ∷ map (shut_at i) (faces cs)) parts.0 ∙ ap (λ xs. face c ∷ xs) (shut_none i cs parts.1)

shut_count : (i : ℕ) (cs : List Channel) (c : Channel) → Differ channel_number cs → found i cs ≡ Some c → is_closed c.end.state ≡ false → suc (open_count (map (shut_at i) (faces cs))) ≡ open_count (faces cs)
shut_count i [] c d there opened = absurd cc
shut_count i (x ∷ cs) c d there opened = by_flag (x.number == i) refl there (λ there. shut_count i cs c d.1 there opened)
  where
    by_open : (flag : Bool) → suc (open_count (map (shut_at i) (faces cs))) ≡ open_count (faces cs)
        → suc (cond flag (1 + open_count (map (shut_at i) (faces cs))) (open_count (map (shut_at i) (faces cs)))) ≡ cond flag (1 + open_count (faces cs)) (open_count (faces cs))
    by_open true rest = omega (arith, rest)
    by_open false rest = rest

    by_flag : (flag : Bool) → (x.number == i) ≡ flag → cond flag (Some x) (found i cs) ≡ Some c → (found i cs ≡ Some c → suc (open_count (map (shut_at i) (faces cs))) ≡ open_count (faces cs))
        → suc (open_count (cond flag (x.number, false) (face x) ∷ map (shut_at i) (faces cs))) ≡ cond (not (is_closed x.end.state)) (1 + open_count (faces cs)) (open_count (faces cs))
    by_flag true is there rest =
        let same : x ≡ c = cc in
        let none : has channel_number i cs ≡ false = subst (λ n. has channel_number n cs ≡ false) (eqb-true x.number i is) d.0 in
        let open_so : not (is_closed x.end.state) ≡ true = ap (λ (y : Channel). not (is_closed y.end.state)) same ∙ ap not opened in
        let same_count : open_count (map (shut_at i) (faces cs)) ≡ open_count (faces cs) = ap open_count (shut_none i cs none) in
        let all : suc (open_count (map (shut_at i) (faces cs))) ≡ 1 + open_count (faces cs) = omega (arith, same_count) in
        all ∙ sym (ap (λ b. cond b (1 + open_count (faces cs)) (open_count (faces cs))) open_so)
    by_flag false is there rest = by_open (not (is_closed x.end.state)) (rest there)

length_mapped : {A B : Type 0} → (f : A → B) (xs : List A) → length (map f xs) ≡ length xs
length_mapped f [] = refl
length_mapped f (x ∷ xs) = ap suc (length_mapped f xs)

pub owns_left : (i : ℕ) (b : BoardValue) (cs : List Channel) (c : Channel) → Differ channel_number cs → found i cs ≡ Some c → is_closed c.end.state ≡ false → Owns (faces cs) b
    → Owns (map (shut_at i) (faces cs)) (left i b)
owns_left i b cs c d there opened o = record {
  each = each (faces cs) o.each;
  count =
      let fewer = one_leaves i (list_of i b) b.owners mine in
      let open_fewer = shut_count i cs c d there opened in
      let count = o.count in omega (arith, fewer, open_fewer, count);
  owners = set_length (list_of i b) b.owners None ∙ o.owners;
  lists = length_mapped _ b.lists ∙ o.lists;
}
  where
    mine : slice_get b.owners (list_of i b) ≡ Some (Some i)
    mine = own_list i b cs c o there opened

    owners : List (Option ℕ)
    owners = slice_set b.owners (list_of i b) None

    one : (flag : Bool) (x : Face) → (x.0 == i) ≡ flag → OwnsIfOpen b.owners x → OwnsIfOpen owners (cond flag (x.0, false) x)
    one true x is has opened = let no : false ≡ true = opened in absurd cc
    one false x isnt has opened =
        has_other x.0 (list_of i b) None (Some i) b.owners mine (λ same. let number : i ≡ x.0 = cc in absurd (eqb-false x.0 i isnt (sym number))) (has opened)

    each : (xs : List Face) → AllByRecursion (OwnsIfOpen b.owners) xs → AllByRecursion (OwnsIfOpen owners) (map (shut_at i) xs)
    each [] all = tt
    each (x ∷ xs) all = (one (x.0 == i) x refl all.0, each xs all.1)

-- ---- a command is kept

pub owns_kept : (xs : List Face) (b after : BoardValue) → after.owners ≡ b.owners → length after.lists ≡ length b.lists → Owns xs b → Owns xs after
owns_kept xs b after owners lists o = record {
  each = subst (λ os. AllByRecursion (OwnsIfOpen os) xs) (sym owners) o.each;
  count = ap owned owners ∙ o.count;
  owners = ap length owners ∙ o.owners;
  lists = lists ∙ o.lists;
}

-- The first channel of a number, where its end is changed.
use Rattle.std.proofs.Common.{◌≡◌, ℕ, suc, ◌+◌, ◌==◌, Bool, true, false, not, cond, nat_lt, List, [], ◌∷◌, length, Option, Some, None, refl, sym, ap, ◌∙◌, arith, one-add, lt-ltb, eqb-true}
use Rattle.std.proofs.lemmas.Option.{same_Some}
use Rattle.channel_list.specs.Channels.{End, changed, changed_at, channel_at, place_of, with_end}
use Rattle.channel_list.specs.declared.channel.Channel.{Channel}
use Rattle.channel_list.proofs.Places.{changed_behind, first_place, found, place_found}
use Rattle.list_laws.proofs.Numbers.{lt_more}
use Rattle.serving_wires.proofs.Rows.{within}

abbrev pub in_first : ℕ → (End → End) → List Channel → List Channel
in_first k change [] = []
in_first k change (c ∷ cs) = cond (c.number == k) (with_end (change c.end) c ∷ cs) (c ∷ in_first k change cs)

pub changed_first : (k : ℕ) (change : End → End) (cs : List Channel) → changed k change cs ≡ in_first k change cs
changed_first k change [] = refl
changed_first k change (c ∷ cs) = by_flag (c.number == k) (changed_first k change cs)
  where
    by_flag : (flag : Bool) → changed k change cs ≡ in_first k change cs
        → changed_at (within (nat_lt (cond (not flag) (1 + first_place k cs) 0) (suc (length cs))) (cond (not flag) (1 + first_place k cs) 0)) change (c ∷ cs)
        ≡ cond flag (with_end (change c.end) c ∷ cs) (c ∷ in_first k change cs)
    by_flag true rest = let first : nat_lt 0 (suc (length cs)) ≡ true = lt-ltb 0 (suc (length cs)) (omega arith) in rw first refl
    by_flag false rest =
        rw one-add
        (ap (λ b. changed_at (within b (suc (first_place k cs))) change (c ∷ cs)) (lt_more (first_place k cs) (length cs))
        ∙ changed_behind (nat_lt (first_place k cs) (length cs)) (first_place k cs) change c cs ∙ ap (λ xs. c ∷ xs) rest)

found_here : (k : ℕ) (c : Channel) (cs : List Channel) → (c.number == k) ≡ true → found k (c ∷ cs) ≡ Some c
found_here k c cs is = ap (λ b. cond b (Some c) (found k cs)) is

found_later : (k : ℕ) (c : Channel) (cs : List Channel) → (c.number == k) ≡ false → found k (c ∷ cs) ≡ found k cs
found_later k c cs is = ap (λ b. cond b (Some c) (found k cs)) is

first_here : (k : ℕ) (change : End → End) (c : Channel) (cs : List Channel) → (c.number == k) ≡ true → in_first k change (c ∷ cs) ≡ with_end (change c.end) c ∷ cs
first_here k change c cs is = ap (λ b. cond b (with_end (change c.end) c ∷ cs) (c ∷ in_first k change cs)) is

first_later : (k : ℕ) (change : End → End) (c : Channel) (cs : List Channel) → (c.number == k) ≡ false → in_first k change (c ∷ cs) ≡ c ∷ in_first k change cs
first_later k change c cs is = ap (λ b. cond b (with_end (change c.end) c ∷ cs) (c ∷ in_first k change cs)) is

-- changed twice
pub first_twice : (k : ℕ) (change then : End → End) (cs : List Channel) → in_first k then (in_first k change cs) ≡ in_first k (λ e. then (change e)) cs
first_twice k change then [] = refl
first_twice k change then (c ∷ cs) = by_flag (c.number == k) refl (first_twice k change then cs)
  where
    by_flag : (flag : Bool) → (c.number == k) ≡ flag → in_first k then (in_first k change cs) ≡ in_first k (λ e. then (change e)) cs
        → in_first k then (in_first k change (c ∷ cs)) ≡ in_first k (λ e. then (change e)) (c ∷ cs)
    by_flag true is rest =
        ap (in_first k then) (first_here k change c cs is) ∙ first_here k then (with_end (change c.end) c) cs is ∙ sym (first_here k (λ e. then (change e)) c cs is)
    by_flag false is rest =
        ap (in_first k then) (first_later k change c cs is) ∙ first_later k then c (in_first k change cs) is ∙ ap (λ xs. c ∷ xs) rest ∙ sym (first_later k (λ e. then (change e)) c cs is)

abbrev pub mapped : (End → End) → Option Channel → Option Channel
mapped change None = None
mapped change (Some c) = Some (with_end (change c.end) c)

pub found_changed : (k : ℕ) (change : End → End) (cs : List Channel) → found k (in_first k change cs) ≡ mapped change (found k cs)
found_changed k change [] = refl
found_changed k change (c ∷ cs) = by_flag (c.number == k) refl (found_changed k change cs)
  where
    by_flag : (flag : Bool) → (c.number == k) ≡ flag → found k (in_first k change cs) ≡ mapped change (found k cs)
        → found k (in_first k change (c ∷ cs)) ≡ mapped change (found k (c ∷ cs))
    by_flag true is rest =
        ap (found k) (first_here k change c cs is) ∙ found_here k (with_end (change c.end) c) cs is ∙ sym (ap (mapped change) (found_here k c cs is))
    by_flag false is rest =
        ap (found k) (first_later k change c cs is) ∙ found_later k c (in_first k change cs) is ∙ rest ∙ sym (ap (mapped change) (found_later k c cs is))

-- one that changes each end to the same does the same
pub first_same : (k : ℕ) (f g : End → End) → ((e : End) → f e ≡ g e) → (cs : List Channel) → in_first k f cs ≡ in_first k g cs
first_same k f g same [] = refl
first_same k f g same (c ∷ cs) =
    ap (λ e. cond (c.number == k) (with_end e c ∷ cs) (c ∷ in_first k f cs)) (same c.end)
    ∙ ap (λ xs. cond (c.number == k) (with_end (g c.end) c ∷ cs) (c ∷ xs)) (first_same k f g same cs)

-- and where the end that is found stays, all do
pub first_kept : (k : ℕ) (f : End → End) (cs : List Channel) → mapped f (found k cs) ≡ found k cs → in_first k f cs ≡ cs
first_kept k f [] kept = refl
first_kept k f (c ∷ cs) kept = by_flag (c.number == k) refl (λ there. first_kept k f cs there)
  where
    by_flag : (flag : Bool) → (c.number == k) ≡ flag → (mapped f (found k cs) ≡ found k cs → in_first k f cs ≡ cs) → in_first k f (c ∷ cs) ≡ c ∷ cs
    by_flag true is rest =
        let here : mapped f (Some c) ≡ Some c = sym (ap (mapped f) (found_here k c cs is)) ∙ kept ∙ found_here k c cs is in
        first_here k f c cs is ∙ ap (λ x. x ∷ cs) (same_Some (with_end (f c.end) c) c here)
    by_flag false is rest =
        let there : mapped f (found k cs) ≡ found k cs = sym (ap (mapped f) (found_later k c cs is)) ∙ kept ∙ found_later k c cs is in
        first_later k f c cs is ∙ ap (λ xs. c ∷ xs) (rest there)

-- what is found of it
pub found_at : (k : ℕ) (change : End → End) (cs : List Channel) → channel_at (place_of k (changed k change cs)) (changed k change cs) ≡ mapped change (channel_at (place_of k cs) cs)
found_at k change cs =
    place_found k (changed k change cs) ∙ ap (found k) (changed_first k change cs) ∙ found_changed k change cs ∙ ap (mapped change) (sym (place_found k cs))

-- changed twice, and by what changes nothing that is there
pub changed_twice : (k : ℕ) (change then also : End → End) (cs : List Channel) → ((e : End) → then (change e) ≡ also e) → changed k then (changed k change cs) ≡ changed k also cs
changed_twice k change then also cs same =
    changed_first k then (changed k change cs) ∙ ap (in_first k then) (changed_first k change cs) ∙ first_twice k change then cs
    ∙ first_same k (λ e. then (change e)) also same cs ∙ sym (changed_first k also cs)

pub changed_kept : (k : ℕ) (change : End → End) (cs : List Channel) → mapped change (channel_at (place_of k cs) cs) ≡ channel_at (place_of k cs) cs → changed k change cs ≡ cs
changed_kept k change cs kept =
    changed_first k change cs ∙ first_kept k change cs (ap (mapped change) (sym (place_found k cs)) ∙ kept ∙ place_found k cs)

-- ---- another channel

first_apart : (i j : ℕ) (change : End → End) (cs : List Channel) → (i == j) ≡ false → found j (in_first i change cs) ≡ found j cs
first_apart i j change [] off = refl
first_apart i j change (c ∷ cs) off = by_flag (c.number == i) refl (first_apart i j change cs off)
  where
    by_flag : (flag : Bool) → (c.number == i) ≡ flag → found j (in_first i change cs) ≡ found j cs → found j (in_first i change (c ∷ cs)) ≡ found j (c ∷ cs)
    by_flag true is rest =
        let away : (c.number == j) ≡ false = ap (λ (n : ℕ). n == j) (eqb-true c.number i is) ∙ off in
        ap (found j) (first_here i change c cs is) ∙ found_later j (with_end (change c.end) c) cs away ∙ sym (found_later j c cs away)
    by_flag false is rest = ap (found j) (first_later i change c cs is) ∙ ap (λ (o : Option Channel). cond (c.number == j) (Some c) o) rest

pub at_apart : (i j : ℕ) (change : End → End) (cs : List Channel) → (i == j) ≡ false → channel_at (place_of j (changed i change cs)) (changed i change cs) ≡ channel_at (place_of j cs) cs
at_apart i j change cs off =
    place_found j (changed i change cs) ∙ ap (found j) (changed_first i change cs) ∙ first_apart i j change cs off ∙ sym (place_found j cs)

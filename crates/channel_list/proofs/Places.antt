-- The channel of a number, as the first of a list that has it.
use Rattle.std.proofs.Common.{◌≡◌, ℕ, suc, ◌+◌, ◌==◌, Bool, true, false, not, cond, nat_lt, List, [], ◌∷◌, length, map, Option, Some, None, refl, sym, ap, ◌∙◌, subst, arith, eqb-true, one-add, lt-ltb}
use Rattle.std.specs.Prelude.{slice_get}
use Rattle.std.specs.List.{position_or_len}
use Rattle.std.proofs.lemmas.Bool.{or_parts}
use Rattle.channel_core.specs.Taking.{next_taken}
use Rattle.channel_core.specs.declared.taking.Taken.{Taken}
use Rattle.channel_list.specs.Channels.{End, changed, changed_at, channel_at, place_of, put_at, with_end}
use Rattle.channel_list.specs.declared.channel.Channel.{Channel}
use Rattle.channel_list.proofs.Differing.{Differ, has}
use Rattle.list_laws.proofs.Numbers.{lt_more}

abbrev pub channel_number : Channel → ℕ
channel_number c = c.number

abbrev pub found : ℕ → List Channel → Option Channel
found k [] = None
found k (c ∷ cs) = cond (c.number == k) (Some c) (found k cs)

-- the end of one channel is changed
abbrev pub at : ℕ → (End → End) → Channel → Channel
at k change c = cond (c.number == k) (with_end (change c.end) c) c

abbrev pub first_place : ℕ → List Channel → ℕ
first_place k cs = position_or_len (λ c. c.number == k) cs

-- ---- It is found

abbrev pub within : Bool → ℕ → Option ℕ
within flag place = cond flag (Some place) None

pub behind : (flag : Bool) (place : ℕ) (c : Channel) (cs : List Channel) → channel_at (within flag (suc place)) (c ∷ cs) ≡ channel_at (within flag place) cs
behind true place c cs = refl
behind false place c cs = refl

pub place_found : (k : ℕ) (cs : List Channel) → channel_at (place_of k cs) cs ≡ found k cs
place_found k [] = refl
place_found k (c ∷ cs) = by_flag (c.number == k) (place_found k cs)
  where
    by_flag : (flag : Bool) → channel_at (place_of k cs) cs ≡ found k cs
        → channel_at (within (nat_lt (cond (not flag) (1 + first_place k cs) 0) (suc (length cs))) (cond (not flag) (1 + first_place k cs) 0)) (c ∷ cs) ≡ cond flag (Some c) (found k cs)
    by_flag true rest = let first : nat_lt 0 (suc (length cs)) ≡ true = lt-ltb 0 (suc (length cs)) (omega arith) in rw first refl
    by_flag false rest =
        rw one-add
        (ap (λ b. channel_at (within b (suc (first_place k cs))) (c ∷ cs)) (lt_more (first_place k cs) (length cs)) ∙ behind (nat_lt (first_place k cs) (length cs)) (first_place k cs) c cs ∙ rest)

pub none_found : (k : ℕ) (cs : List Channel) → has channel_number k cs ≡ false → found k cs ≡ None
none_found k [] none = refl
none_found k (c ∷ cs) none =
    let parts = or_parts (c.number == k) (has channel_number k cs) none in
    ap (λ b. cond b (Some c) (found k cs)) parts.0 ∙ none_found k cs parts.1

-- ---- It is changed

none_at : (k : ℕ) (change : End → End) (cs : List Channel) → has channel_number k cs ≡ false → map (at k change) cs ≡ cs
none_at k change [] none = refl
none_at k change (c ∷ cs) none =
    let parts = or_parts (c.number == k) (has channel_number k cs) none in
    ap (λ b. cond b (with_end (change c.end) c) c ∷ map (at k change) cs) parts.0 ∙ ap (λ xs. c ∷ xs) (none_at k change cs parts.1)

pub put_behind : (place : ℕ) (change : End → End) (c : Channel) (cs : List Channel) (there : Option Channel) → put_at (suc place) change (c ∷ cs) there ≡ c ∷ put_at place change cs there
put_behind place change c cs None = refl
put_behind place change c cs (Some x) = refl

pub changed_behind : (flag : Bool) (place : ℕ) (change : End → End) (c : Channel) (cs : List Channel) → changed_at (within flag (suc place)) change (c ∷ cs) ≡ c ∷ changed_at (within flag place) change cs
changed_behind true place change c cs = put_behind place change c cs (slice_get cs place)
changed_behind false place change c cs = refl

pub changed_map : (k : ℕ) (change : End → End) (cs : List Channel) → Differ channel_number cs → changed k change cs ≡ map (at k change) cs
changed_map k change [] d = refl
changed_map k change (c ∷ cs) d = by_flag (c.number == k) refl (changed_map k change cs d.1)
  where
    by_flag : (flag : Bool) → (c.number == k) ≡ flag → changed k change cs ≡ map (at k change) cs
        → changed_at (within (nat_lt (cond (not flag) (1 + first_place k cs) 0) (suc (length cs))) (cond (not flag) (1 + first_place k cs) 0)) change (c ∷ cs)
        ≡ cond flag (with_end (change c.end) c) c ∷ map (at k change) cs
    by_flag true is rest =
        let first : nat_lt 0 (suc (length cs)) ≡ true = lt-ltb 0 (suc (length cs)) (omega arith) in
        let same : c.number ≡ k = eqb-true c.number k is in
        let P : ℕ → Type 0 = λ n. has channel_number n cs ≡ false in
        rw first (ap (λ xs. with_end (change c.end) c ∷ xs) (sym (none_at k change cs (subst P same d.0))))
    by_flag false is rest =
        rw one-add
        (ap (λ b. changed_at (within b (suc (first_place k cs))) change (c ∷ cs)) (lt_more (first_place k cs) (length cs))
        ∙ changed_behind (nat_lt (first_place k cs) (length cs)) (first_place k cs) change c cs ∙ ap (λ xs. c ∷ xs) rest)

-- ---- What its end takes next

abbrev pub next_end : End → End
next_end e = (next_taken e).1

abbrev pub taken_of : Option Channel → Option (Taken Unit)
taken_of None = None
taken_of (Some channel) = (next_taken channel.end).0

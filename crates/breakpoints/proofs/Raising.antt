-- Counts that are raised and dropped.
use Rattle.std.proofs.Common.{◌≡◌, ℕ, zero, suc, ◌+◌, ◌<◌, ◌≤◌, ◌^◌, ◌==◌, min, nat_lt, Bool, true, false, cond, not, List, [], ◌∷◌, ◌++◌, length, Option, Some, None, refl, sym, ap, ◌∙◌, arith, eqb-true}
use Rattle.std.specs.Prelude.{IfSome, find, position, slice_index_or, slice_set}
use Rattle.std.specs.List.{position_or_len}
use Rattle.std.specs.Option.{option_map_or}
use Rattle.std.proofs.lemmas.Bool.{eq-eqb, ltb-false, ltb-true}
use Rattle.breakpoints.specs.Counts.{AreCounts, count_of, one_more, raised, without}
use Rattle.breakpoints.specs.Laws.{DropsOne, RaisesOne}

-- ---- the place of a process

abbrev is_of : ℕ → ℕ × ℕ → Bool
is_of process entry = entry.0 == process

there_by : (process : ℕ) (e : ℕ × ℕ) (counts : List (ℕ × ℕ)) (b : Bool) (i : ℕ) (entry : ℕ × ℕ) → cond (not b) (1 + position_or_len (is_of process) counts) 0 ≡ i → i < length (e ∷ counts)
    → entry ≡ slice_index_or (e ∷ counts) i entry
    → ((j : ℕ) → position_or_len (is_of process) counts ≡ j → j < length counts → entry ≡ slice_index_or counts j entry → raised process counts ≡ slice_set counts j (entry.0, one_more entry.1))
    → cond b ((e.0, one_more e.1) ∷ counts) (e ∷ raised process counts) ≡ slice_set (e ∷ counts) i (entry.0, one_more entry.1)
there_by process e counts true zero entry at within item rest = ap (λ (x : ℕ × ℕ). (x.0, one_more x.1) ∷ counts) (sym item)
there_by process e counts true (suc i) entry at within item rest = absurd (omega (arith, at))
there_by process e counts false zero entry at within item rest = absurd (omega (arith, at))
there_by process e counts false (suc i) entry at within item rest = ap (λ (more : List (ℕ × ℕ)). e ∷ more) (rest i (omega (arith, at)) (omega (arith, within)) item)

raised_at : (process : ℕ) (counts : List (ℕ × ℕ)) (i : ℕ) (entry : ℕ × ℕ) → position_or_len (is_of process) counts ≡ i → i < length counts → entry ≡ slice_index_or counts i entry
    → raised process counts ≡ slice_set counts i (entry.0, one_more entry.1)
raised_at process [] i entry at within item = absurd (omega (arith, within))
raised_at process (e ∷ counts) i entry at within item =
    there_by process e counts (is_of process e) i entry at within item (λ j. raised_at process counts j entry)

-- what the search for the process gives
record IsPlace (place at len : ℕ) : Type 0 where
  within : place < len
  same : at ≡ place

place_by : (b : Bool) (place at len : ℕ) → nat_lt at len ≡ b → Some place ≡ cond b (Some at) None → IsPlace place at len
place_by true place at len is found = let same : at ≡ place = cc in record { within = omega (arith, same, ltb-true at len is); same = same }
place_by false place at len is found = absurd cc

pub raised_there : (process : ℕ) (counts : List (ℕ × ℕ)) (place : ℕ) (entry : ℕ × ℕ) → Some place ≡ position (λ (e : ℕ × ℕ). e.0 == process) counts → entry ≡ slice_index_or counts place entry
    → raised process counts ≡ slice_set counts place (entry.0, min (entry.1 + 1) 4294967295)
raised_there process counts place entry found item =
    let is = place_by (nat_lt (position_or_len (is_of process) counts) (length counts)) place (position_or_len (is_of process) counts) (length counts) refl found in
    raised_at process counts place entry is.same is.within item

pub place_within : (process : ℕ) (counts : List (ℕ × ℕ)) (found : Option ℕ) → found ≡ position (λ (e : ℕ × ℕ). e.0 == process) counts → IfSome found (λ place. place < length counts)
place_within process counts None is = tt
place_within process counts (Some place) is =
    (place_by (nat_lt (position_or_len (is_of process) counts) (length counts)) place (position_or_len (is_of process) counts) (length counts) refl is).within

new_by : (process : ℕ) (e : ℕ × ℕ) (counts : List (ℕ × ℕ)) (b : Bool) → length (e ∷ counts) ≤ cond (not b) (1 + position_or_len (is_of process) counts) 0
    → (length counts ≤ position_or_len (is_of process) counts → raised process counts ≡ counts ++ (process, 1) ∷ [])
    → cond b ((e.0, one_more e.1) ∷ counts) (e ∷ raised process counts) ≡ e ∷ (counts ++ (process, 1) ∷ [])
new_by process e counts true long rest = absurd (omega (arith, long))
new_by process e counts false long rest = ap (λ (more : List (ℕ × ℕ)). e ∷ more) (rest (omega (arith, long)))

raised_last : (process : ℕ) (counts : List (ℕ × ℕ)) → length counts ≤ position_or_len (is_of process) counts → raised process counts ≡ counts ++ (process, 1) ∷ []
raised_last process [] long = refl
raised_last process (e ∷ counts) long = new_by process e counts (is_of process e) long (raised_last process counts)

none_by : (b : Bool) (at len : ℕ) → nat_lt at len ≡ b → None ≡ cond b (Some at) None → len ≤ at
none_by true at len is none = absurd cc
none_by false at len is none = ltb-false at len is

pub raised_new : (process : ℕ) (counts : List (ℕ × ℕ)) → None ≡ position (λ (e : ℕ × ℕ). e.0 == process) counts → raised process counts ≡ counts ++ (process, 1) ∷ []
raised_new process counts none =
    raised_last process counts (none_by (nat_lt (position_or_len (is_of process) counts) (length counts)) (position_or_len (is_of process) counts) (length counts) refl none)

-- ---- counts stay of 32 bits

raised_by : (process : ℕ) (e : ℕ × ℕ) (counts : List (ℕ × ℕ)) (b : Bool) → AreCounts (e ∷ counts) → AreCounts (raised process counts) → AreCounts (cond b ((e.0, one_more e.1) ∷ counts) (e ∷ raised process counts))
raised_by process e counts true are rest = (omega arith, are.1)
raised_by process e counts false are rest = (are.0, rest)

pub raised_are : (process : ℕ) (counts : List (ℕ × ℕ)) → AreCounts counts → AreCounts (raised process counts)
raised_are process [] are = (omega arith, tt)
raised_are process (e ∷ counts) are = raised_by process e counts (is_of process e) are (raised_are process counts are.1)

-- ---- the count of one process

count_by : (b : Bool) (e : ℕ × ℕ) (rest : Option (ℕ × ℕ)) → option_map_or (λ (x : ℕ × ℕ). x.1) (cond b (Some e) rest) 0 ≡ cond b e.1 (option_map_or (λ (x : ℕ × ℕ). x.1) rest 0)
count_by true e rest = refl
count_by false e rest = refl

-- the first entry is that of the process, or the others have it
first : (other : ℕ) (e : ℕ × ℕ) (counts : List (ℕ × ℕ)) (o : Bool) → (e.0 == other) ≡ o → count_of other (e ∷ counts) ≡ cond o e.1 (count_of other counts)
first other e counts o is =
    let found : Option (ℕ × ℕ) = find (is_of other) counts in
    count_by (e.0 == other) e found ∙ ap (λ b. cond b e.1 (count_of other counts)) is

small_by : (o : Bool) (n rest : ℕ) (e : ℕ × ℕ) → n ≡ cond o e.1 rest → e.1 < 2 ^ 32 → rest < 2 ^ 32 → n < 2 ^ 32
small_by true n rest e is here behind = omega (arith, is, here)
small_by false n rest e is here behind = omega (arith, is, behind)

pub count_small : (process : ℕ) (counts : List (ℕ × ℕ)) → AreCounts counts → count_of process counts < 2 ^ 32
count_small process [] are = omega arith
count_small process (e ∷ counts) are = small_by (is_of process e) (count_of process (e ∷ counts)) (count_of process counts) e (first process e counts (is_of process e) refl) are.0 (count_small process counts are.1)

-- two numbers that one number equals are equal
not_other : (e process other : ℕ) → (e == process) ≡ true → (e == other) ≡ true → (process == other) ≡ false → ⊥
not_other e process other one two differ =
    let same : (process == other) ≡ true = eq-eqb process other (sym (eqb-true e process one) ∙ eqb-true e other two) in cc

not_same : (e process other : ℕ) → (e == process) ≡ true → (e == other) ≡ false → (process == other) ≡ true → ⊥
not_same e process other one two same =
    let also : (e == other) ≡ true = eq-eqb e other (eqb-true e process one ∙ eqb-true process other same) in cc

not_here : (e process other : ℕ) → (e == process) ≡ false → (e == other) ≡ true → (process == other) ≡ true → ⊥
not_here e process other one two same =
    let also : (e == process) ≡ true = eq-eqb e process (eqb-true e other two ∙ sym (eqb-true process other same)) in cc

raise_by : (process other : ℕ) (e : ℕ × ℕ) (counts : List (ℕ × ℕ)) (a o s : Bool) → (e.0 == process) ≡ a → (e.0 == other) ≡ o → (process == other) ≡ s
    → count_of other (raised process counts) ≡ cond s (one_more (count_of other counts)) (count_of other counts)
    → count_of other (cond a ((e.0, one_more e.1) ∷ counts) (e ∷ raised process counts)) ≡ cond s (one_more (count_of other (e ∷ counts))) (count_of other (e ∷ counts))
raise_by process other e counts true true true a o s rest = first other (e.0, one_more e.1) counts true o ∙ ap one_more (sym (first other e counts true o))
raise_by process other e counts true true false a o s rest = absurd (not_other e.0 process other a o s)
raise_by process other e counts true false true a o s rest = absurd (not_same e.0 process other a o s)
raise_by process other e counts true false false a o s rest = first other (e.0, one_more e.1) counts false o ∙ sym (first other e counts false o)
raise_by process other e counts false true true a o s rest = absurd (not_here e.0 process other a o s)
raise_by process other e counts false true false a o s rest = first other e (raised process counts) true o ∙ sym (first other e counts true o)
raise_by process other e counts false false true a o s rest =
    first other e (raised process counts) false o ∙ rest ∙ ap one_more (sym (first other e counts false o))
raise_by process other e counts false false false a o s rest =
    first other e (raised process counts) false o ∙ rest ∙ sym (first other e counts false o)

pub raises_one : RaisesOne
raises_one process other [] = first other (process, 1) [] (process == other) refl
raises_one process other (e ∷ counts) =
    raise_by process other e counts (e.0 == process) (e.0 == other) (process == other) refl refl refl (raises_one process other counts)

drop_by : (process other : ℕ) (e : ℕ × ℕ) (counts : List (ℕ × ℕ)) (a o s : Bool) → (e.0 == process) ≡ a → (e.0 == other) ≡ o → (process == other) ≡ s
    → count_of other (without process counts) ≡ cond s 0 (count_of other counts)
    → count_of other (cond (not a) (e ∷ without process counts) (without process counts)) ≡ cond s 0 (count_of other (e ∷ counts))
drop_by process other e counts true true true a o s rest = rest
drop_by process other e counts true true false a o s rest = absurd (not_other e.0 process other a o s)
drop_by process other e counts true false true a o s rest = rest
drop_by process other e counts true false false a o s rest = rest ∙ sym (first other e counts false o)
drop_by process other e counts false true true a o s rest = absurd (not_here e.0 process other a o s)
drop_by process other e counts false true false a o s rest = first other e (without process counts) true o ∙ sym (first other e counts true o)
drop_by process other e counts false false true a o s rest = first other e (without process counts) false o ∙ rest
drop_by process other e counts false false false a o s rest =
    first other e (without process counts) false o ∙ rest ∙ sym (first other e counts false o)

pub drops_one : DropsOne
drops_one process other [] = both_zero (process == other)
  where
    both_zero : (s : Bool) → ◌≡◌ {A = ℕ} 0 (cond s 0 0)
    both_zero true = refl
    both_zero false = refl
drops_one process other (e ∷ counts) =
    drop_by process other e counts (e.0 == process) (e.0 == other) (process == other) refl refl refl (drops_one process other counts)

-- The end of one channel, where one of a list is changed, or all are, or those that are done with are forgotten.
use Rattle.std.proofs.Common.{◌≡◌, ℕ, ◌==◌, Bool, true, false, cond, List, [], ◌∷◌, ◌++◌, map, Option, Some, None, option_map, refl, sym, ap, subst, ◌∙◌, inl, inr, eqb-true}
use Rattle.std.specs.List.{filter}
use Rattle.std.proofs.lemmas.Bool.{cases_eq, eq-eqb, ne_eqb, or_parts, or_from}
use Rattle.channel_list.specs.Channels.{End, changed, channel_end, end_in, is_kept, with_end}
use Rattle.channel_list.specs.declared.channel.Channel.{Channel}
use Rattle.channel_list.proofs.Differing.{Differ, differ_mapped, has, has_mapped}
use Rattle.channel_list.proofs.Places.{at, changed_map, channel_number, found, none_found, place_found}

-- one channel with its end changed
abbrev pub by : (End → End) → Channel → Channel
by f c = with_end (f c.end) c

end_by : (f : End → End) (o : Option Channel) → end_in (option_map (by f) o) ≡ option_map f (end_in o)
end_by f None = refl
end_by f (Some c) = refl

pub end_found : (j : ℕ) (cs : List Channel) → channel_end j cs ≡ end_in (found j cs)
end_found j cs = ap end_in (place_found j cs)

-- ---- all are changed

found_mapped : (j : ℕ) (f : End → End) (cs : List Channel) → found j (map (by f) cs) ≡ option_map (by f) (found j cs)
found_mapped j f [] = refl
found_mapped j f (c ∷ cs) = by_flag (c.number == j) (found_mapped j f cs)
  where
    by_flag : (flag : Bool) → found j (map (by f) cs) ≡ option_map (by f) (found j cs)
        → cond flag (Some (by f c)) (found j (map (by f) cs)) ≡ option_map (by f) (cond flag (Some c) (found j cs))
    by_flag true rest = refl
    by_flag false rest = rest

pub end_mapped : (j : ℕ) (f : End → End) (cs : List Channel) → channel_end j (map (by f) cs) ≡ option_map f (channel_end j cs)
end_mapped j f cs = end_found j (map (by f) cs) ∙ ap end_in (found_mapped j f cs) ∙ end_by f (found j cs) ∙ ap (option_map f) (sym (end_found j cs))

-- ---- one is changed

pub at_number : (i : ℕ) (f : End → End) (c : Channel) → channel_number (at i f c) ≡ channel_number c
at_number i f c = by_flag (c.number == i)
  where
    by_flag : (flag : Bool) → channel_number (cond flag (with_end (f c.end) c) c) ≡ channel_number c
    by_flag true = refl
    by_flag false = refl

-- that of this number, or another one
one_or : (i j : ℕ) (f : End → End) (c : Channel) → c.number ≡ j → at i f c ≡ cond (i == j) (by f c) c
one_or i j f c same =
    elim (cases_eq i j) [
      | inl its ↦ rw (eq-eqb i j its, eq-eqb c.number i (same ∙ sym its)) refl
      | inr apart ↦ rw (ne_eqb i j apart, ne_eqb c.number i (λ e. apart (sym e ∙ same))) refl
    ]

found_changed : (i j : ℕ) (f : End → End) (cs : List Channel) → found j (map (at i f) cs) ≡ cond (i == j) (option_map (by f) (found j cs)) (found j cs)
found_changed i j f [] = none (i == j)
  where
    none : (flag : Bool) → None ≡ cond flag (option_map (by f) None) None
    none true = refl
    none false = refl
found_changed i j f (c ∷ cs) =
    ap (λ n. cond (n == j) (Some (at i f c)) (found j (map (at i f) cs))) (at_number i f c) ∙ by_flag (c.number == j) refl (found_changed i j f cs)
  where
    some : (flag : Bool) → Some (cond flag (by f c) c) ≡ cond flag (option_map (by f) (Some c)) (Some c)
    some true = refl
    some false = refl

    by_flag : (flag : Bool) → (c.number == j) ≡ flag → found j (map (at i f) cs) ≡ cond (i == j) (option_map (by f) (found j cs)) (found j cs)
        → cond flag (Some (at i f c)) (found j (map (at i f) cs)) ≡ cond (i == j) (option_map (by f) (cond flag (Some c) (found j cs))) (cond flag (Some c) (found j cs))
    by_flag true is rest = ap Some (one_or i j f c (eqb-true c.number j is)) ∙ some (i == j)
    by_flag false is rest = rest

pub end_changed : (i j : ℕ) (f : End → End) (cs : List Channel) → Differ channel_number cs → channel_end j (changed i f cs) ≡ cond (i == j) (option_map f (channel_end j cs)) (channel_end j cs)
end_changed i j f cs d =
    end_found j (changed i f cs) ∙ ap (λ xs. end_in (found j xs)) (changed_map i f cs d) ∙ ap end_in (found_changed i j f cs) ∙ by_flag (i == j)
  where
    by_flag : (flag : Bool) → end_in (cond flag (option_map (by f) (found j cs)) (found j cs)) ≡ cond flag (option_map f (channel_end j cs)) (channel_end j cs)
    by_flag true = end_by f (found j cs) ∙ ap (option_map f) (sym (end_found j cs))
    by_flag false = sym (end_found j cs)

-- the numbers stay

pub differ_by : (f : End → End) (cs : List Channel) → Differ channel_number cs → Differ channel_number (map (by f) cs)
differ_by f cs d = differ_mapped channel_number (by f) (λ c. refl) cs d

pub has_by : (k : ℕ) (f : End → End) (cs : List Channel) → has channel_number k (map (by f) cs) ≡ has channel_number k cs
has_by k f cs = has_mapped channel_number (by f) (λ c. refl) k cs

pub differ_changed : (i : ℕ) (f : End → End) (cs : List Channel) → Differ channel_number cs → Differ channel_number (changed i f cs)
differ_changed i f cs d = subst (Differ channel_number) (sym (changed_map i f cs d)) (differ_mapped channel_number (at i f) (at_number i f) cs d)

pub has_changed : (k i : ℕ) (f : End → End) (cs : List Channel) → Differ channel_number cs → has channel_number k (changed i f cs) ≡ has channel_number k cs
has_changed k i f cs d = ap (has channel_number k) (changed_map i f cs d) ∙ has_mapped channel_number (at i f) (at_number i f) k cs

-- ---- those that are done with are forgotten

abbrev pub kept_if : Option Channel → Option Channel
kept_if None = None
kept_if (Some c) = cond (is_kept c) (Some c) None

pub has_filtered : (p : Channel → Bool) (k : ℕ) (cs : List Channel) → has channel_number k cs ≡ false → has channel_number k (filter p cs) ≡ false
has_filtered p k [] none = refl
has_filtered p k (c ∷ cs) none =
    let parts = or_parts (c.number == k) (has channel_number k cs) none in by_flag (p c) parts.0 (has_filtered p k cs parts.1)
  where
    by_flag : (flag : Bool) → (c.number == k) ≡ false → has channel_number k (filter p cs) ≡ false → has channel_number k (cond flag (c ∷ filter p cs) (filter p cs)) ≡ false
    by_flag true first rest = or_from (c.number == k) (has channel_number k (filter p cs)) first rest
    by_flag false first rest = rest

pub differ_filtered : (p : Channel → Bool) (cs : List Channel) → Differ channel_number cs → Differ channel_number (filter p cs)
differ_filtered p [] d = tt
differ_filtered p (c ∷ cs) d = by_flag (p c) (differ_filtered p cs d.1)
  where
    by_flag : (flag : Bool) → Differ channel_number (filter p cs) → Differ channel_number (cond flag (c ∷ filter p cs) (filter p cs))
    by_flag true rest = (has_filtered p c.number cs d.0, rest)
    by_flag false rest = rest

pub found_kept : (j : ℕ) (cs : List Channel) → Differ channel_number cs → found j (filter is_kept cs) ≡ kept_if (found j cs)
found_kept j [] d = refl
found_kept j (c ∷ cs) d = by_flags (is_kept c) refl (c.number == j) refl (found_kept j cs d.1)
  where
    by_flags : (kept : Bool) → is_kept c ≡ kept → (own : Bool) → (c.number == j) ≡ own → found j (filter is_kept cs) ≡ kept_if (found j cs)
        → found j (cond kept (c ∷ filter is_kept cs) (filter is_kept cs)) ≡ kept_if (cond own (Some c) (found j cs))
    by_flags true keeps true is rest = ap (λ b. cond b (Some c) (found j (filter is_kept cs))) is ∙ sym (ap (λ b. cond b (Some c) None) keeps)
    by_flags true keeps false is rest = ap (λ b. cond b (Some c) (found j (filter is_kept cs))) is ∙ rest
    by_flags false keeps true is rest =
        let same : c.number ≡ j = eqb-true c.number j is in
        let none : has channel_number j cs ≡ false = subst (λ (n : ℕ). has channel_number n cs ≡ false) same d.0 in
        rest ∙ ap kept_if (none_found j cs none) ∙ sym (ap (λ b. cond b (Some c) None) keeps)
    by_flags false keeps false is rest = rest

-- ---- one more behind them

pub found_more : (j : ℕ) (cs : List Channel) (c : Channel) → has channel_number c.number cs ≡ false → found j (cs ++ c ∷ []) ≡ cond (c.number == j) (Some c) (found j cs)
found_more j [] c none = refl
found_more j (x ∷ cs) c none =
    let parts = or_parts (x.number == c.number) (has channel_number c.number cs) none in
    by_flag parts.0 (x.number == j) refl (c.number == j) refl (found_more j cs c parts.1)
  where
    by_flag : (x.number == c.number) ≡ false → (first : Bool) → (x.number == j) ≡ first → (last : Bool) → (c.number == j) ≡ last
        → found j (cs ++ c ∷ []) ≡ cond (c.number == j) (Some c) (found j cs)
        → cond first (Some x) (found j (cs ++ c ∷ [])) ≡ cond last (Some c) (cond first (Some x) (found j cs))
    by_flag isnt true is true also rest =
        let same : x.number ≡ c.number = eqb-true x.number j is ∙ sym (eqb-true c.number j also) in
        absurd (let both : true ≡ false = sym (eq-eqb x.number c.number same) ∙ isnt in cc)
    by_flag isnt true is false also rest = refl
    by_flag isnt false is last also rest = rest ∙ ap (λ b. cond b (Some c) (found j cs)) also

-- Where a text is cut.
use Rattle.std.proofs.Common.{◌≡◌, ◌≢◌, ℕ, zero, suc, ◌+◌, ◌-◌, ◌<◌, ◌≤◌, ◌==◌, cond, not, List, [], ◌∷◌, ◌++◌, length, take, drop, get_or, refl, sym, ◌∙◌, ap, subst, inl, inr, arith}
use Rattle.std.specs.Prelude.{Some, None, option_map, position, nat_lt}
use Rattle.std.specs.List.{position_or_len}
use Rattle.std.proofs.lemmas.Bool.{eqb-true, eqb-false, ltb-false, eq-eqb, ne_eqb, cases_Bool, cond-true, cond-false}
use Rattle.std.proofs.lemmas.Bool.Decides.{eqb_tells}
use Rattle.std.proofs.lemmas.Option.{none-some}
use Rattle.std.proofs.lemmas.List.{take_rest, drop_more, length-take, get_or-take, take-append-drop}
use Rattle.std.proofs.lemmas.List.Quantifiers.{position-Some}
use Rattle.tcf_values.specs.Cut.{Lacks, IsCut, cut_of}
use Rattle.tcf_values.specs.OptionLaws.{some_same, map_found}

-- a text lacks a byte that no index has
pub lacks_by_index : (byte : ℕ) (text : List ℕ) → ((k : ℕ) → k < length text → get_or text k 0 ≢ byte) → Lacks byte text
lacks_by_index byte [] h = tt
lacks_by_index byte (b ∷ bs) h = (h zero (omega arith), lacks_by_index byte bs (λ k l. h (suc k) (omega arith)))

-- what stands before a place, where no earlier index has the byte, lacks it
lacks_before : (byte : ℕ) (text : List ℕ) (at : ℕ) → at < length text → ((k : ℕ) → k < at → get_or text k 0 ≢ byte) → Lacks byte (take at text)
lacks_before byte text at l h =
    lacks_by_index byte (take at text) (λ k k_l.
    let short : k < at = omega (arith, length-take at text) in
    rw (get_or-take at text k 0 short) (h k short))

-- the front before the first place
pub cut_at_place : (byte : ℕ) (text : List ℕ) (at : ℕ) → position (λ b. b == byte) text ≡ Some at
    → IsCut byte text (take at text) (take (length text - (at + 1)) (drop (at + 1) text))
cut_at_place byte text at e =
    let found = position-Some (λ b. b == byte) text at 0 e in (
      lacks_before byte text at found.0 (λ k l. eqb-false _ _ (found.2 k l)),
      rw take_rest (sym (take-append-drop at text) ∙ ap (λ t. take at text ++ t) (drop_more text at 0 found.0 ∙ ap (λ b. b ∷ drop (at + 1) text) (eqb-true _ _ found.1))),
    )

lacks_past : (byte : ℕ) (text : List ℕ) → length text ≤ position_or_len (λ b. b == byte) text → Lacks byte text
lacks_past byte [] l = tt
lacks_past byte (b ∷ bs) l =
    elim (eqb_tells b byte) [
      | inl w ↦ absurd (omega (arith, subst (λ t. suc (length bs) ≤ cond (not t) (1 + position_or_len (λ x. x == byte) bs) 0) w.0 l))
      | inr w ↦ (w.1, lacks_past byte bs (omega (arith, subst (λ t. suc (length bs) ≤ cond (not t) (1 + position_or_len (λ x. x == byte) bs) 0) w.0 l)))
    ]

pub lacks_without_place : (byte : ℕ) (text : List ℕ) → position (λ b. b == byte) text ≡ None → Lacks byte text
lacks_without_place byte text e = lacks_past byte text (elim (cases_Bool (nat_lt (position_or_len (λ b. b == byte) text) (length text))) [
  | inl w ↦ absurd (none-some _ (sym e ∙ cond-true _ _ _ w))
  | inr w ↦ ltb-false _ _ w
])

cut_here : (byte : ℕ) (front rest : List ℕ) → Lacks byte front → cut_of byte (front ++ byte ∷ rest) ≡ Some (front, rest)
cut_here byte [] rest lacks = cond-true _ _ _ (eq-eqb byte byte refl)
cut_here byte (b ∷ bs) rest lacks =
    cond-false _ _ _ (ne_eqb b byte lacks.0) ∙ ap (option_map (λ parts. (b ∷ parts.0, parts.1))) (cut_here byte bs rest lacks.1)

-- a cut is found
pub cut_there : (byte : ℕ) (text front rest : List ℕ) → IsCut byte text front rest → cut_of byte text ≡ Some (front, rest)
cut_there byte text front rest is = ap (cut_of byte) is.1 ∙ cut_here byte front rest is.0

-- a text that lacks the byte has no cut
pub cut_missing : (byte : ℕ) (text : List ℕ) → Lacks byte text → cut_of byte text ≡ None
cut_missing byte [] lacks = refl
cut_missing byte (b ∷ bs) lacks =
    cond-false _ _ _ (ne_eqb b byte lacks.0) ∙ ap (option_map (λ parts. (b ∷ parts.0, parts.1))) (cut_missing byte bs lacks.1)

-- what is found is a cut
pub cut_found : (byte : ℕ) (text : List ℕ) (parts : List ℕ × List ℕ) → cut_of byte text ≡ Some parts → text ≡ parts.0 ++ byte ∷ parts.1
cut_found byte [] parts e = absurd (none-some parts e)
cut_found byte (b ∷ bs) parts e =
    elim (eqb_tells b byte) [
      | inl w ↦
          let same : ◌≡◌ {A = List ℕ × List ℕ} ([], bs) parts = some_same _ _ (sym (cond-true _ _ _ w.0) ∙ e) in
          subst (λ (p : List ℕ × List ℕ). b ∷ bs ≡ p.0 ++ byte ∷ p.1) same (ap (λ x. x ∷ bs) w.1)
      | inr w ↦
          let rest = map_found (λ (p : List ℕ × List ℕ). (b ∷ p.0, p.1)) (cut_of byte bs) parts (sym (cond-false _ _ _ w.0) ∙ e) in
          subst (λ (p : List ℕ × List ℕ). b ∷ bs ≡ p.0 ++ byte ∷ p.1) rest.2 (ap (λ t. b ∷ t) (cut_found byte bs rest.0 rest.1))
    ]

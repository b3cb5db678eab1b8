-- The IDs of processes and threads.
use Rattle.std.proofs.Common.{◌≡◌, ℕ, ◌<◌, ◌^◌, List, [], ◌∷◌, ◌++◌, refl, sym, ◌∙◌, ap, subst, arith, inl, inr}
use Rattle.std.specs.Prelude.{Option, Some, None, option_map, option_and_then, IfSome, IfNone, decimal}
use Rattle.std.proofs.lemmas.Bool.{eq-eqb, cond-true, cond-false}
use Rattle.std.proofs.lemmas.Bool.Decides.{eqb_tells}
use Rattle.std.proofs.lemmas.Fmt.{decimal_is_IsNumeral}
use Rattle.std.proofs.lemmas.Option.{none-some}
use Rattle.std.proofs.lemmas.Str.Parse.{digit_at}
use Rattle.tcf_values.specs.Cut.{Lacks, cut_of}
use Rattle.tcf_values.specs.Ids.{behind_of, positive_of, process_of, thread_of, context_by, context_in, context_of, ContextRoundTrip}
use Rattle.tcf_values.specs.Spelling.{IsNumber, SpellsContext}
use Rattle.tcf_values.specs.declared.ids.ContextId.{ContextId}
use Rattle.tcf_values.specs.declared.ids.ContextId.TheVariants.{Process, Thread}
use Rattle.tcf_values.specs.CutLaws.{lacks_by_index, cut_there, cut_missing, cut_found}
use Rattle.tcf_values.specs.NumberLaws.{number_there, number_found}
use Rattle.tcf_values.specs.OptionLaws.{some_same, and_then_found, map_found, none_or_some}

-- digits have no dot
pub decimal_lacks_dot : (n : ℕ) → n < 2 ^ 32 → Lacks 46 (decimal n)
decimal_lacks_dot n small =
    let numeral = (decimal_is_IsNumeral n (omega arith)).0 in
    lacks_by_index 46 (decimal n) (λ k below is. let within = digit_at (decimal n) k numeral.1 below in omega (arith, within.0))

-- a number is read from its digits
pub positive_there : (n : ℕ) → IsNumber n → positive_of (decimal n) ≡ Some n
positive_there n is = number_there 1 4294967295 (decimal n) n refl is.0 (omega (arith, is.1)) is.1

-- what is read is a number, and these are its digits
pub positive_found : (digits : List ℕ) (n : ℕ) → positive_of digits ≡ Some n → IsNumber n × (digits ≡ decimal n)
positive_found digits n found = let is = number_found 1 4294967295 digits n found in ((is.1, is.3), is.0)

-- what follows a letter
pub behind_found : (letter : ℕ) (text rest : List ℕ) → behind_of letter text ≡ Some rest → text ≡ letter ∷ rest
behind_found letter [] rest found = absurd (none-some rest found)
behind_found letter (b ∷ bs) rest found =
    elim (eqb_tells b letter) [
      | inl w ↦ ap (λ x. x ∷ bs) w.1 ∙ ap (λ t. letter ∷ t) (some_same bs rest (sym (cond-true _ _ _ w.0) ∙ found))
      | inr w ↦ absurd (none-some rest (sym (cond-false _ _ _ w.0) ∙ found))
    ]

pub behind_there : (letter : ℕ) (rest : List ℕ) → behind_of letter (letter ∷ rest) ≡ Some rest
behind_there letter rest = cond-true _ _ _ (eq-eqb letter letter refl)

process_there : (p : ℕ) → IsNumber p → context_in (decimal p) ≡ Some (Process p)
process_there p is =
    ap (context_by (decimal p)) (cut_missing 46 (decimal p) (decimal_lacks_dot p is.1)) ∙ ap (option_map Process) (positive_there p is)

thread_there : (p t : ℕ) → IsNumber p → IsNumber t → context_in (decimal p ++ 46 ∷ decimal t) ≡ Some (Thread p t)
thread_there p t is other =
    ap (context_by (decimal p ++ 46 ∷ decimal t)) (cut_there 46 (decimal p ++ 46 ∷ decimal t) (decimal p) (decimal t) (decimal_lacks_dot p is.1, refl))
    ∙ (ap (option_and_then (λ n. option_map (Thread n) (positive_of (decimal t)))) (positive_there p is)
    ∙ ap (option_map (Thread p)) (positive_there t other))

context_there : (text : List ℕ) (id : ContextId) → SpellsContext text id → context_of text ≡ Some id
context_there text (Process p) spells =
    ap context_of spells.1 ∙ (ap (option_and_then context_in) (behind_there 80 (decimal p)) ∙ process_there p spells.0)
context_there text (Thread p t) spells =
    ap context_of spells.1
    ∙ (ap (option_and_then context_in) (behind_there 80 (decimal p ++ 46 ∷ decimal t)) ∙ thread_there p t spells.0.0 spells.0.1)

process_spells : (digits : List ℕ) (id : ContextId) → process_of digits ≡ Some id → SpellsContext (80 ∷ digits) id
process_spells digits id found =
    let read = map_found Process (positive_of digits) id found in
    let is = positive_found digits read.0 read.1 in
    subst (SpellsContext (80 ∷ digits)) read.2 (is.0, ap (λ t. 80 ∷ t) is.1)

thread_spells : (front back : List ℕ) (id : ContextId) → thread_of front back ≡ Some id → SpellsContext (80 ∷ (front ++ 46 ∷ back)) id
thread_spells front back id found =
    let first = and_then_found (λ n. option_map (Thread n) (positive_of back)) (positive_of front) id found in
    let second = map_found (Thread first.0) (positive_of back) id first.2 in
    let one = positive_found front first.0 first.1 in let other = positive_found back second.0 second.1 in
    subst (SpellsContext (80 ∷ (front ++ 46 ∷ back))) second.2 (
      (one.0, other.0),
      ap (λ t. 80 ∷ (t ++ 46 ∷ back)) one.1 ∙ ap (λ t. 80 ∷ (decimal first.0 ++ 46 ∷ t)) other.1,
    )

parts_spell : (digits : List ℕ) (cut : Option (List ℕ × List ℕ)) (id : ContextId) → cut_of 46 digits ≡ cut → context_by digits cut ≡ Some id
    → SpellsContext (80 ∷ digits) id
parts_spell digits None id is found = process_spells digits id found
parts_spell digits (Some parts) id is found =
    subst (λ t. SpellsContext (80 ∷ t) id) (sym (cut_found 46 digits parts is)) (thread_spells parts.0 parts.1 id found)

-- what is read is what the text spells
pub context_found : (text : List ℕ) (id : ContextId) → context_of text ≡ Some id → SpellsContext text id
context_found text id found =
    let behind = and_then_found context_in (behind_of 80 text) id found in
    subst (λ t. SpellsContext t id) (sym (behind_found 80 text behind.0 behind.1))
    (parts_spell behind.0 (cut_of 46 behind.0) id refl behind.2)

pub context_law : ContextRoundTrip
context_law text id = (context_found text id, context_there text id)

-- what is read, and where nothing is
pub context_read : (text : List ℕ) (r : Option ContextId) → r ≡ context_of text → IfSome r (SpellsContext text)
context_read text (Some id) is = context_found text id (sym is)
context_read text None is = tt

pub context_unread : (text : List ℕ) (r : Option ContextId) → r ≡ context_of text → IfNone r ((id : ContextId) → SpellsContext text id → ⊥)
context_unread text (Some id) is = tt
context_unread text None is = λ id spells. none_or_some (context_of text) id (sym is) (context_there text id spells)

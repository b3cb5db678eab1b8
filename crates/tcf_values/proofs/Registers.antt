-- The IDs of registers.
use Rattle.std.proofs.Common.{◌≡◌, ℕ, ◌≤◌, ◌==◌, List, ◌∷◌, ◌++◌, refl, sym, ◌∙◌, ap, subst, arith, inl, inr}
use Rattle.std.specs.Prelude.{Option, Some, None, option_map, option_and_then, IfSome, IfNone, decimal, codes, bytes_eq}
use Rattle.std.proofs.lemmas.Bool.{cases_Bool, ne_eqb, cond-true, cond-false}
use Rattle.std.proofs.lemmas.Bool.Decides.{eqb_tells}
use Rattle.std.proofs.lemmas.Slice.Eq.{bytes_eq-Decides}
use Rattle.tcf_values.specs.Cut.{cut_of}
use Rattle.tcf_values.specs.Ids.{behind_of, positive_of, index_of, register_from, register_in, register_of, RegisterRoundTrip}
use Rattle.tcf_values.specs.Number.{number_of}
use Rattle.tcf_values.specs.Spelling.{IsNumber, register_name, SpellsRegister}
use Rattle.tcf_values.specs.declared.ids.RegisterId.{RegisterId}
use Rattle.tcf_values.proofs.Contexts.{decimal_lacks_dot, positive_there, positive_found, behind_found, behind_there}
use Rattle.tcf_values.specs.CutLaws.{cut_there, cut_found}
use Rattle.tcf_values.specs.NumberLaws.{number_there, number_found}
use Rattle.tcf_values.specs.OptionLaws.{some_same, and_then_found, map_found, none_or_some}

small_index : (i : ℕ) → i ≤ 31 → index_of (120 ∷ decimal i) ≡ Some i
small_index i small =
    ap (option_and_then (number_of 0 31)) (behind_there 120 (decimal i)) ∙ number_there 0 31 (decimal i) i refl (omega arith) small (omega arith)

-- a register is read from its name
index_there : (i : ℕ) → i ≤ 32 → index_of (register_name i) ≡ Some i
index_there i small =
    elim (eqb_tells i 32) [
      | inl w ↦ ap index_of (cond-true (i == 32) (codes "pc") (120 ∷ decimal i) w.0) ∙ ap (λ n. Some n) (sym w.1)
      | inr w ↦ ap index_of (cond-false (i == 32) (codes "pc") (120 ∷ decimal i) w.0) ∙ small_index i (omega (arith, w.1))
    ]

named : (name : List ℕ) (i : ℕ) → name ≡ 120 ∷ decimal i → i ≤ 31 → (i ≤ 32) × (name ≡ register_name i)
named name i is small = (omega arith, is ∙ sym (cond-false (i == 32) (codes "pc") (120 ∷ decimal i) (ne_eqb i 32 (λ e. absurd (omega arith)))))

-- what is read is a register's index, and this is its name
index_found : (name : List ℕ) (i : ℕ) → index_of name ≡ Some i → (i ≤ 32) × (name ≡ register_name i)
index_found name i found =
    elim (cases_Bool (bytes_eq name (codes "pc"))) [
      | inl e ↦
          let is : 32 ≡ i = some_same 32 i (sym (cond-true _ _ _ e) ∙ found) in
          subst (λ n. (n ≤ 32) × (name ≡ register_name n)) is (omega arith, (bytes_eq-Decides name (codes "pc")).0 e)
      | inr e ↦
          let read = and_then_found (number_of 0 31) (behind_of 120 name) i (sym (cond-false _ _ _ e) ∙ found) in
          let is = number_found 0 31 read.0 i read.2 in
          named name i (behind_found 120 name read.0 read.1 ∙ ap (λ t. 120 ∷ t) is.0) is.2
    ]

made : ℕ → ℕ → ℕ → RegisterId
made p t i = record { process = p; thread = t; index = i }

tail_there : (id : RegisterId) → IsNumber id.process → IsNumber id.thread → id.index ≤ 32
    → register_from (decimal id.process) (decimal id.thread) (register_name id.index) ≡ Some id
unfolding made
tail_there id process thread index =
    ap (option_and_then (λ p. option_and_then (λ t. option_map (made p t) (index_of (register_name id.index))) (positive_of (decimal id.thread)))) (positive_there id.process process)
    ∙ (ap (option_and_then (λ t. option_map (made id.process t) (index_of (register_name id.index)))) (positive_there id.thread thread)
    ∙ ap (option_map (made id.process id.thread)) (index_there id.index index))

register_there : (text : List ℕ) (id : RegisterId) → SpellsRegister text id → register_of text ≡ Some id
register_there text id spells =
    let name : List ℕ = register_name id.index in
    let rest : List ℕ = decimal id.thread ++ 46 ∷ name in
    let digits : List ℕ = decimal id.process ++ 46 ∷ rest in
    ap register_of spells.1 ∙ (ap (option_and_then register_in) (behind_there 80 digits)
    ∙ (ap (option_and_then (λ (front : List ℕ × List ℕ). option_and_then (λ (back : List ℕ × List ℕ). register_from front.0 back.0 back.1) (cut_of 46 front.1)))
    (cut_there 46 digits (decimal id.process) rest (decimal_lacks_dot id.process spells.0.0.1, refl))
    ∙ (ap (option_and_then (λ (back : List ℕ × List ℕ). register_from (decimal id.process) back.0 back.1))
    (cut_there 46 rest (decimal id.thread) name (decimal_lacks_dot id.thread spells.0.1.1, refl))
    ∙ tail_there id spells.0.0 spells.0.1 spells.0.2)))

tail_spells : (process thread name : List ℕ) (id : RegisterId) → register_from process thread name ≡ Some id
    → SpellsRegister (80 ∷ (process ++ 46 ∷ (thread ++ 46 ∷ name))) id
unfolding made
tail_spells process thread name id found =
    let first = and_then_found (λ p. option_and_then (λ t. option_map (made p t) (index_of name)) (positive_of thread)) (positive_of process) id found in
    let second = and_then_found (λ t. option_map (made first.0 t) (index_of name)) (positive_of thread) id first.2 in
    let third = map_found (made first.0 second.0) (index_of name) id second.2 in
    let one = positive_found process first.0 first.1 in
    let two = positive_found thread second.0 second.1 in
    let three = index_found name third.0 third.1 in
    subst (SpellsRegister (80 ∷ (process ++ 46 ∷ (thread ++ 46 ∷ name)))) third.2 (
      (one.0, two.0, three.0),
      ap (λ t. 80 ∷ (t ++ 46 ∷ (thread ++ 46 ∷ name))) one.1
          ∙ (ap (λ t. 80 ∷ (decimal first.0 ++ 46 ∷ (t ++ 46 ∷ name))) two.1 ∙ ap (λ t. 80 ∷ (decimal first.0 ++ 46 ∷ (decimal second.0 ++ 46 ∷ t))) three.1),
    )

-- what is read is what the text spells
pub register_found : (text : List ℕ) (id : RegisterId) → register_of text ≡ Some id → SpellsRegister text id
register_found text id found =
    let behind = and_then_found register_in (behind_of 80 text) id found in
    let front = and_then_found (λ (front : List ℕ × List ℕ). option_and_then (λ (back : List ℕ × List ℕ). register_from front.0 back.0 back.1) (cut_of 46 front.1)) (cut_of 46 behind.0) id behind.2 in
    let back = and_then_found (λ (back : List ℕ × List ℕ). register_from front.0.0 back.0 back.1) (cut_of 46 front.0.1) id front.2 in
    let is : text ≡ 80 ∷ (front.0.0 ++ 46 ∷ (back.0.0 ++ 46 ∷ back.0.1)) =
    behind_found 80 text behind.0 behind.1 ∙ (ap (λ t. 80 ∷ t) (cut_found 46 behind.0 front.0 front.1)
    ∙ ap (λ t. 80 ∷ (front.0.0 ++ 46 ∷ t)) (cut_found 46 front.0.1 back.0 back.1)) in
    subst (λ t. SpellsRegister t id) (sym is) (tail_spells front.0.0 back.0.0 back.0.1 id back.2)

pub register_law : RegisterRoundTrip
register_law text id = (register_found text id, register_there text id)

-- what is read, and where nothing is
pub register_read : (text : List ℕ) (r : Option RegisterId) → r ≡ register_of text → IfSome r (SpellsRegister text)
register_read text (Some id) is = register_found text id (sym is)
register_read text None is = tt

pub register_unread : (text : List ℕ) (r : Option RegisterId) → r ≡ register_of text → IfNone r ((id : RegisterId) → SpellsRegister text id → ⊥)
register_unread text (Some id) is = tt
register_unread text None is = λ id spells. none_or_some (register_of text) id (sym is) (register_there text id spells)

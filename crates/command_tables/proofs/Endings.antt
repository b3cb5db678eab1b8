-- Whether data is ended, and what it is read as then.
use Rattle.std.proofs.Common.{◌≡◌, ◌≢◌, ℕ, ◌-◌, List, [], ◌∷◌, length, slice_get, true, false, not, refl, sym, ◌∙◌, ap, subst, inl, inr, arith}
use Rattle.std.specs.Prelude.{Some, Result, Ok, Err, IfOk, OnOk, IsSomeAnd}
use Rattle.std.proofs.lemmas.Bool.{ne_eqb, cond-true, cond-false}
use Rattle.std.proofs.lemmas.Bool.Decides.{eqb_tells}
use Rattle.json_args.specs.Parts.{IsUnended, parts_of}
use Rattle.json_args.specs.declared.fault.ArgFault.{ArgFault}
use Rattle.json_args.specs.declared.fault.ArgFault.TheVariants.{NoMemory, NotEnded}
use Rattle.service_names.specs.Commands.{name_in}
use Rattle.command_tables.specs.Reading.{bad_of, is_unended, reading_by, reading_in, reading_of}
use Rattle.command_tables.specs.Rows.{row_of}
use Rattle.service_names.specs.declared.commands.CommandName.{CommandName}
use Rattle.command_tables.specs.declared.reading.Reading.{Reading}
use Rattle.std.specs.declared.alloc.AllocError.{AllocError}

unended_by : (b : ℕ) (bs : List ℕ) → IsSomeAnd (slice_get (b ∷ bs) (length bs)) (λ last. last ≢ 0) → is_unended (b ∷ bs) ≡ true
unended_by b [] some = ap not (ne_eqb b 0 some)
unended_by b (c ∷ cs) some = unended_by c cs some

ended_by : (b : ℕ) (bs : List ℕ) → (IsSomeAnd (slice_get (b ∷ bs) (length bs)) (λ last. last ≢ 0) → ⊥) → is_unended (b ∷ bs) ≡ false
ended_by b [] none =
    elim (eqb_tells b 0) [
      | inl w ↦ ap not w.0
      | inr w ↦ absurd (none w.1)
    ]
ended_by b (c ∷ cs) none = ended_by c cs none

unended_is : (body : List ℕ) → IsUnended body → is_unended body ≡ true
unended_is [] some = absurd some
unended_is (b ∷ bs) some =
    let e : length (b ∷ bs) - 1 ≡ length bs = omega arith in
    unended_by b bs (subst (λ k. IsSomeAnd (slice_get (b ∷ bs) k) (λ last. last ≢ 0)) e some)

-- data that is ended isn't unended
pub ended_is : (body : List ℕ) → (IsUnended body → ⊥) → is_unended body ≡ false
ended_is [] none = refl
ended_is (b ∷ bs) none =
    let e : length (b ∷ bs) - 1 ≡ length bs = omega arith in
    ended_by b bs (λ some. none (subst (λ k. IsSomeAnd (slice_get (b ∷ bs) k) (λ last. last ≢ 0)) (sym e) some))

-- data that is ended is read by its row
pub ended_reading : (service name body : List ℕ) (command : CommandName) → name_in service name ≡ Some command → (IsUnended body → ⊥)
    → reading_of service name body ≡ reading_by (row_of command 0 (parts_of body))
ended_reading service name body command is none = ap (reading_in body) is ∙ cond-false _ _ _ (ended_is body none)

-- data that isn't ended is refused
pub unended_reading : (service name body : List ℕ) (command : CommandName) → name_in service name ≡ Some command → IsUnended body
    → reading_of service name body ≡ bad_of NotEnded
unended_reading service name body command is some = ap (reading_in body) is ∙ cond-true _ _ _ (unended_is body some)

-- a fault of the row is what the data is read as
pub fault_reading : (r : Result Reading AllocError) (fault : ArgFault) (wanted : Reading) → IfOk r (λ reading. reading ≡ bad_of fault) → OnOk r (fault ≢ NoMemory)
    → (fault ≢ NoMemory → wanted ≡ bad_of fault) → IfOk r (λ reading. reading ≡ wanted)
fault_reading (Ok x) fault wanted is known then = is ∙ sym (then known)
fault_reading (Err e) fault wanted is known then = tt

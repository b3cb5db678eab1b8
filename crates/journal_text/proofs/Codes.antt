-- The codes of refusals.
use Rattle.std.proofs.Common.{◌≡◌, ℕ, ◌<◌, ◌+◌, ◌^◌, List, [], ◌∷◌, refl, ◌∙◌, ap, arith, subst, inl, inr}
use Rattle.std.specs.Prelude.{Some, bytes_eq, codes, decimal}
use Rattle.std.proofs.lemmas.Fmt.{decimal_digit}
use Rattle.tcf_values.specs.OptionLaws.{some_same}
use Rattle.line_words.specs.Exact.{guarded, two_ways}
use Rattle.json_args.specs.declared.fault.ArgFault.{ArgFault}
use Rattle.json_args.specs.declared.fault.ArgFault.TheVariants.{NotEnded, Missing, Syntax, Shape, Base64, NoMemory}
use Rattle.command_tables.specs.Reading.{bad_of}
use Rattle.command_tables.specs.declared.reading.Reading.TheVariants as readings
use Rattle.journal_text.specs.Inputs.{code_said}

same_code : (i c index code : ℕ) → readings.Bad i c ≡ readings.Bad index code → c ≡ code
same_code i c index code is = cc

-- what holds of each code holds of the code of a fault
by_code : (P : ℕ → Type 0) → P 2 → P 3 → P 8 → (fault : ArgFault) (index code : ℕ) → bad_of fault ≡ readings.Bad index code → P code
by_code P two three eight NotEnded index code is = subst P (same_code 0 3 index code is) three
by_code P two three eight (Missing i) index code is = subst P (same_code i 3 index code is) three
by_code P two three eight (Syntax i) index code is = subst P (same_code i 2 index code is) two
by_code P two three eight (Shape i) index code is = subst P (same_code i 3 index code is) three
by_code P two three eight (Base64 i) index code is = subst P (same_code i 8 index code is) eight
by_code P two three eight NoMemory index code is = subst P (same_code 0 3 index code is) three

pub code_small : (fault : ArgFault) (index code : ℕ) → bad_of fault ≡ readings.Bad index code → code < 2 ^ 64
code_small fault index code is = by_code (λ c. c < 2 ^ 64) (omega arith) (omega arith) (omega arith) fault index code is

abbrev IsCode : ℕ → Type 0
IsCode c = code_said (decimal c) ≡ Some c

said : (c : ℕ) → c < 10 → code_said ((48 + c) ∷ []) ≡ Some c → IsCode c
said c small is = ap code_said (decimal_digit c small) ∙ is

-- a code that is written is read
pub code_back : (fault : ArgFault) (index code : ℕ) → bad_of fault ≡ readings.Bad index code → code_said (decimal code) ≡ Some code
unfolding code_said
code_back fault index code is = by_code IsCode (said 2 (omega arith) refl) (said 3 (omega arith) refl) (said 8 (omega arith) refl) fault index code is

-- a code that is read is that of a fault
pub code_fault : (word : List ℕ) (index code : ℕ) → code_said word ≡ Some code → (fault : ArgFault) × (bad_of fault ≡ readings.Bad index code)
unfolding code_said
code_fault word index code e =
    elim (two_ways (bytes_eq word (codes "2")) (Some 2) _ code e) [
      | inl w ↦ (Syntax index, ap (λ c. readings.Bad index c) (some_same 2 code w.1))
      | inr f ↦
          elim (two_ways (bytes_eq word (codes "3")) (Some 3) _ code f) [
            | inl w ↦ (Shape index, ap (λ c. readings.Bad index c) (some_same 3 code w.1))
            | inr g ↦ let k = guarded (bytes_eq word (codes "8")) (Some 8) code g in (Base64 index, ap (λ c. readings.Bad index c) (some_same 8 code k.1))
          ]
    ]

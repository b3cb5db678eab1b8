-- The spellings of processes are read exactly.
use Rattle.std.proofs.Common.{◌≡◌, List, ℕ, sym, ap, subst, arith}
use Rattle.std.specs.Prelude.{Some, option_and_then}
use Rattle.std.proofs.lemmas.Option.{none-some}
use Rattle.tcf_values.specs.Cut.{Lacks}
use Rattle.tcf_values.specs.Ids.{context_of}
use Rattle.tcf_values.specs.OptionLaws.{some_same, and_then_found}
use Rattle.tcf_values.specs.declared.ids.ContextId.{ContextId}
use Rattle.tcf_values.specs.declared.ids.ContextId.TheVariants.{Process, Thread}
use Rattle.line_words.specs.Exact.{IsExact, AreWords, itself, digits_lack}
use Rattle.cached_lines.specs.Asked.{IsProcess}
use Rattle.cached_lines.specs.Reading.{only_process, process_of}
use Rattle.tcf_values.proofs.TheLaws.{context_round_trip}

pub process_exact : IsExact (List ℕ) process_of IsProcess itself
unfolding process_of
process_exact = record { found = reads; there = spells }
  where
    by_kind : (t : List ℕ) (id : ContextId) (x : List ℕ) → context_of t ≡ Some id → only_process t id ≡ Some x → IsProcess x × (t ≡ x)
    by_kind t (Process p) x is e =
        let same = some_same t x e in
        (subst IsProcess same (p, (context_round_trip t (Process p)).0 is), same)
    by_kind t (Thread p q) x is e = absurd (none-some x e)

    reads : (t x : List ℕ) → process_of t ≡ Some x → IsProcess x × (t ≡ x)
    reads t x e = let m = and_then_found (only_process t) (context_of t) x e in by_kind t m.0 x m.1 m.2

    spells : (x : List ℕ) → IsProcess x → process_of x ≡ Some x
    spells x good = ap (option_and_then (only_process x)) ((context_round_trip x (Process good.0)).1 good.1)

pub process_words : AreWords (List ℕ) IsProcess itself
process_words x good =
    subst (Lacks 32) (sym good.1.1) ((λ is. absurd (omega arith)), digits_lack good.0 (omega (arith, good.1.0.1)))

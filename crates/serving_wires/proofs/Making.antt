-- Calls that were made, one part behind the other.
use Rattle.std.proofs.Common.{◌≡◌, ℕ, List, [], ◌∷◌, ◌++◌, Option, Some, None, refl, sym, ap, ◌∙◌, append-nil, append_assoc}
use Rattle.std.proofs.lemmas.Grind.{fold-append}
use Rattle.std.specs.Prelude.{option_map}
use Rattle.tcf_wires.specs.Told.{WiresSeen, faults_by, faults_through, unused_by, unused_through, with_calls}
use Rattle.tcf_wires.specs.declared.call.WireCall.{WireCall}
use Rattle.serving_wires.specs.Calls.{Makes}

-- what is seen is what is told, counted and given
seen_same : (first other : WiresSeen) → first.told ≡ other.told → first.faults ≡ other.faults → first.unused ≡ other.unused → first ≡ other
seen_same first other told faults unused =
    let one : Option (List WireCall) → ℕ → ℕ → WiresSeen = λ t n m. record { told = t; faults = n; unused = m } in
    ap (λ t. one t first.faults first.unused) told ∙ (ap (λ n. one other.told n first.unused) faults ∙ ap (λ m. one other.told other.faults m) unused)

abbrev told_with : List WireCall → Option (List WireCall) → Option (List WireCall)
told_with calls told = option_map (λ (earlier : List WireCall). earlier ++ calls) told

told_none : (told : Option (List WireCall)) → told ≡ told_with [] told
told_none None = refl
told_none (Some calls) = ap (λ (cs : List WireCall). Some cs) (sym (append-nil calls))

told_both : (first rest : List WireCall) (told : Option (List WireCall)) → told_with rest (told_with first told) ≡ told_with (first ++ rest) told
told_both first rest None = refl
told_both first rest (Some calls) = ap (λ (cs : List WireCall). Some cs) (append_assoc calls first rest)

pub faults_both : (first rest : List WireCall) (count : ℕ) → faults_through rest (faults_through first count) ≡ faults_through (first ++ rest) count
faults_both first rest count = sym (fold-append faults_by count first rest)

pub unused_both : (first rest : List WireCall) (unused : ℕ) → unused_through rest (unused_through first unused) ≡ unused_through (first ++ rest) unused
unused_both first rest unused = sym (fold-append unused_by unused first rest)

pub seen_none : (seen : WiresSeen) → seen ≡ with_calls [] seen
seen_none seen = seen_same seen (with_calls [] seen) (told_none seen.told) refl refl

pub seen_both : (first rest : List WireCall) (seen : WiresSeen) → with_calls rest (with_calls first seen) ≡ with_calls (first ++ rest) seen
seen_both first rest seen =
    seen_same (with_calls rest (with_calls first seen)) (with_calls (first ++ rest) seen)
    (told_both first rest seen.told) (faults_both first rest seen.faults) (unused_both first rest seen.unused)

-- nothing was called
pub makes_none : (Fits : List WireCall → Type 0) (seen : WiresSeen) → Fits [] → Makes Fits seen seen
makes_none Fits seen fits = record { calls = []; fits = fits; seen = seen_none seen }

-- nothing that is told was called, as where memory was wanting
pub makes_nothing : (Fits : List WireCall → Type 0) (seen_before seen_after : WiresSeen) → Fits [] → seen_after ≡ seen_before → Makes Fits seen_before seen_after
makes_nothing Fits seen_before seen_after fits same = record { calls = []; fits = fits; seen = same ∙ seen_none seen_before }

-- one call
pub makes_one : (Fits : List WireCall → Type 0) (call : WireCall) (seen_before seen_after : WiresSeen)
    → Fits (call ∷ []) → seen_after ≡ with_calls (call ∷ []) seen_before → Makes Fits seen_before seen_after
makes_one Fits call seen_before seen_after fits seen = record { calls = call ∷ []; fits = fits; seen = seen }

-- calls, and others behind them
pub makes_both : (First Rest Fits : List WireCall → Type 0) (seen_before seen_mid seen_after : WiresSeen)
    → ((first rest : List WireCall) → First first → Rest rest → Fits (first ++ rest))
    → Makes First seen_before seen_mid → Makes Rest seen_mid seen_after
    → Makes Fits seen_before seen_after
makes_both First Rest Fits seen_before seen_mid seen_after joined m n =
    record {
      calls = m.calls ++ n.calls;
      fits = joined m.calls n.calls m.fits n.fits;
      seen = n.seen ∙ ap (λ (s : WiresSeen). with_calls n.calls s) m.seen ∙ seen_both m.calls n.calls seen_before;
    }

-- the same calls, said otherwise
pub makes_so : (First Fits : List WireCall → Type 0) (seen_before seen_after : WiresSeen)
    → ((calls : List WireCall) → First calls → Fits calls) → Makes First seen_before seen_after → Makes Fits seen_before seen_after
makes_so First Fits seen_before seen_after otherwise m =
    record { calls = m.calls; fits = otherwise m.calls m.fits; seen = m.seen }

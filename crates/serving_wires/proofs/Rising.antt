-- A call of the wires that failed has raised the count of faults.
use Rattle.std.proofs.Common.{◌≡◌, ℕ, ◌-◌, ◌^◌, ◌<◌, ◌≤◌, ◌⊎◌, Bool, true, false, List, [], ◌∷◌, ◌++◌, refl, sym, ◌∙◌, subst, inl, inr, arith, ltb-true, ltb-false, nat_lt}
use Rattle.std.specs.Prelude.{Result, Ok, Err}
use Rattle.tcf_outside.specs.Faults.{Rose, raised}
use Rattle.tcf_wires.specs.Event.{faults_after, faults_after_put}
use Rattle.tcf_wires.specs.Told.{faults_by, faults_through}
use Rattle.tcf_wires.specs.declared.call.WireCall.{WireCall}
use Rattle.tcf_wires.specs.declared.call.WireCall.TheVariants.{Listened, Connected, Gave, Offered, Shut}
use Rattle.tcf_wires.specs.declared.event.Put.{Put}
use Rattle.tcf_wires.specs.declared.event.Put.TheVariants.{Took, Lost, NoMemory as NoRoom}
use Rattle.tcf_wires.specs.declared.event.WireRefusal.{WireRefusal}
use Rattle.tcf_wires.specs.declared.event.WireRefusal.TheVariants.{Failed, NoMemory}
use Rattle.serving_wires.proofs.Making.{faults_both}

-- it didn't fall, or stands at the end of its type
abbrev Kept : ℕ → ℕ → Type 0
Kept before after = (before ≤ after) ⊎ (after ≡ 2 ^ 64 - 1)

kept_raised : (before after : ℕ) → Kept before after → Kept before (raised after)
kept_raised before after (inr last) = inr (omega (arith, last))
kept_raised before after (inl kept) = by_flag (nat_lt after (2 ^ 64 - 1)) refl
  where
    by_flag : (flag : Bool) → nat_lt after (2 ^ 64 - 1) ≡ flag → Kept before (raised after)
    by_flag true is = let less : after < 2 ^ 64 - 1 = ltb-true after (2 ^ 64 - 1) is in inl (omega arith)
    by_flag false is = let more : 2 ^ 64 - 1 ≤ after = ltb-false after (2 ^ 64 - 1) is in inr (omega arith)

pub rose_raised : (before after : ℕ) → Kept before after → Rose before (raised after)
rose_raised before after (inr last) = inr (omega (arith, last))
rose_raised before after (inl kept) = by_flag (nat_lt after (2 ^ 64 - 1)) refl
  where
    by_flag : (flag : Bool) → nat_lt after (2 ^ 64 - 1) ≡ flag → Rose before (raised after)
    by_flag true is = let less : after < 2 ^ 64 - 1 = ltb-true after (2 ^ 64 - 1) is in inl (omega arith)
    by_flag false is = let more : 2 ^ 64 - 1 ≤ after = ltb-false after (2 ^ 64 - 1) is in inr (omega arith)

kept_answer : {A : Type 0} → (before after : ℕ) (answer : Result A WireRefusal) → Kept before after → Kept before (faults_after answer after)
kept_answer before after (Ok answer) kept = kept
kept_answer before after (Err Failed) kept = kept_raised before after kept
kept_answer before after (Err NoMemory) kept = kept

kept_put : (before after : ℕ) (answer : Put) → Kept before after → Kept before (faults_after_put answer after)
kept_put before after (Took count) kept = kept
kept_put before after Lost kept = kept_raised before after kept
kept_put before after NoRoom kept = kept

kept_call : (before after : ℕ) (call : WireCall) → Kept before after → Kept before (faults_by after call)
kept_call before after (Listened address answer) kept = kept_answer before after answer kept
kept_call before after (Connected peer answer) kept = kept_answer before after answer kept
kept_call before after (Gave answer) kept = kept_answer before after answer kept
kept_call before after (Offered channel piece answer) kept = kept_put before after answer kept
kept_call before after (Shut channel) kept = kept

kept_calls : (before after : ℕ) (calls : List WireCall) → Kept before after → Kept before (faults_through calls after)
kept_calls before after [] kept = kept
kept_calls before after (call ∷ calls) kept = kept_calls before (faults_by after call) calls (kept_call before after call kept)

-- calls of which the last one raised the count
pub last_rises : (count : ℕ) (earlier : List WireCall) (last : WireCall) → ((n : ℕ) → faults_by n last ≡ raised n) → Rose count (faults_through (earlier ++ last ∷ []) count)
last_rises count earlier last raises =
    subst (Rose count) (sym (sym (faults_both earlier (last ∷ []) count) ∙ raises (faults_through earlier count)))
    (rose_raised count (faults_through earlier count) (kept_calls count count earlier (inl (omega arith))))

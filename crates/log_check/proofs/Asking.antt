-- One line more of a log, and what it says of commands.
use Rattle.std.proofs.Common.{◌≡◌, ℕ, ◌+◌, ◌==◌, ◌||◌, ◌&&◌, not, Bool, true, false, List, [], ◌∷◌, length, refl, sym, ◌∙◌, ap, ap₂, arith}
use Rattle.std.specs.Prelude.{◌↔◌}
use Rattle.std.specs.List.{list_any}
use Rattle.std.proofs.lemmas.Bool.{false≢true}
use Rattle.tcf_text.specs.Lines.{accepted_by, final_of}
use Rattle.tcf_text.specs.Once.{CanStandAfterEnd, numbers}
use Rattle.tcf_text.specs.declared.log.LogLine.{LogLine}
use Rattle.tcf_text.specs.declared.log.LogLine.TheVariants.{Sent}
use Rattle.log_check.specs.Asked.{CanFollow, CanStand, IsAskedFor, IsCounted, is_asked}
use Rattle.log_check.specs.declared.once.Asked.{Asked}

-- ---- what becomes of the commands that are pending

with_one : (x e : Bool) → (x || e) ≡ ((x || (e || false)) && not false)
with_one true e = refl
with_one false true = refl
with_one false false = refl

without_one : (x e : Bool) → (x && not e) ≡ ((x || false) && not (e || false))
without_one true true = refl
without_one true false = refl
without_one false e = refl

with_none : (x : Bool) → x ≡ ((x || false) && not false)
with_none true = refl
with_none false = refl

-- a command was sent
pub sent_one : (number : ℕ) (service name body : List ℕ) (old new : Asked) → new.sent ≡ old.sent + 1 → ((q : ℕ) → is_asked new q ≡ (is_asked old q || (number == q)))
    → IsCounted (Sent number service name body) old new
sent_one number service name body old new sent pending =
    record { sent = sent; pending = λ q. pending q ∙ with_one (is_asked old q) (number == q) }

-- one was answered for good
pub answered_one : (line : LogLine) (number : ℕ) (old new : Asked) → final_of line ≡ number ∷ [] → accepted_by line ≡ [] → new.sent ≡ old.sent
    → ((q : ℕ) → is_asked new q ≡ (is_asked old q && not (number == q))) → IsCounted line old new
answered_one line number old new final none sent pending =
    record {
      sent = sent ∙ (sent_none old.sent ∙ sym (ap (λ l. old.sent + length l) none));
      pending = λ q.
          pending q
          ∙ (without_one (is_asked old q) (number == q)
          ∙ sym (ap₂ (λ l f. (is_asked old q || list_any (λ n. n == q) (numbers l)) && not (list_any (λ n. n == q) f)) none final));
    }
  where
    sent_none : (n : ℕ) → n ≡ n + 0
    sent_none n = omega arith

-- nothing was said of one
pub counted_none : (line : LogLine) (old new : Asked) → final_of line ≡ [] → accepted_by line ≡ [] → new ≡ old → IsCounted line old new
counted_none line old new final none same =
    record {
      sent = ap (λ (a : Asked). a.sent) same ∙ (sent_none old.sent ∙ sym (ap (λ l. old.sent + length l) none));
      pending = λ q.
          ap (λ (a : Asked). is_asked a q) same
          ∙ (with_none (is_asked old q)
          ∙ sym (ap₂ (λ l f. (is_asked old q || list_any (λ n. n == q) (numbers l)) && not (list_any (λ n. n == q) f)) none final));
    }
  where
    sent_none : (n : ℕ) → n ≡ n + 0
    sent_none n = omega arith

-- ---- whether the line can stand

pub can_stand : (asked : Asked) (line : LogLine) (a b c : Bool) → a ≡ true → (a ≡ true) ↔ (asked.ended ≡ true → CanStandAfterEnd line) → b ≡ true → (b ≡ true) ↔ CanFollow asked.closed line
    → c ≡ true → (c ≡ true) ↔ IsAskedFor asked line → (true ≡ true) ↔ CanStand asked line
can_stand asked line a b c a_is after_end b_is follows c_is asked_for =
    ((λ is_set. record { after_end = after_end.0 a_is; follows = follows.0 b_is; asked_for = asked_for.0 c_is }), (λ stands. refl))

no_flag : {A : Type 0} → (A → ⊥) → (false ≡ true) ↔ A
no_flag not = ((λ is. absurd (false≢true is)), (λ a. absurd (not a)))

pub not_after_end : (asked : Asked) (line : LogLine) (a : Bool) → a ≡ false → (a ≡ true) ↔ (asked.ended ≡ true → CanStandAfterEnd line) → (false ≡ true) ↔ CanStand asked line
not_after_end asked line a isnt after_end = no_flag (λ (s : CanStand asked line). false≢true (sym isnt ∙ after_end.1 s.after_end))

pub not_behind : (asked : Asked) (line : LogLine) (b : Bool) → b ≡ false → (b ≡ true) ↔ CanFollow asked.closed line → (false ≡ true) ↔ CanStand asked line
not_behind asked line b isnt follows = no_flag (λ (s : CanStand asked line). false≢true (sym isnt ∙ follows.1 s.follows))

pub not_asked_for : (asked : Asked) (line : LogLine) (c : Bool) → c ≡ false → (c ≡ true) ↔ IsAskedFor asked line → (false ≡ true) ↔ CanStand asked line
not_asked_for asked line c isnt asked_for = no_flag (λ (s : CanStand asked line). false≢true (sym isnt ∙ asked_for.1 s.asked_for))

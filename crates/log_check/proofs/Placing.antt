-- A log's lines, one by one, among the positions.
use Rattle.std.proofs.Common.{◌≡◌, ◌||◌, Bool, true, false, List, [], ◌∷◌, ◌++◌, refl, sym, ◌∙◌, ap, subst, append_assoc, append-nil}
use Rattle.std.specs.Prelude.{◌↔◌, Option, Some, None}
use Rattle.std.specs.List.{list_any}
use Rattle.std.proofs.lemmas.Bool.{false≢true}
use Rattle.std.proofs.lemmas.List.Folds.{list_any-append}
use Rattle.target_hub.specs.Ordered.{IsPlaced}
use Rattle.target_hub.specs.declared.input.Input.{Input}
use Rattle.tcf_text.specs.Each.{Each}
use Rattle.tcf_text.specs.Lines.{is_placed_hello, last_mark, later_or, mark_of}
use Rattle.tcf_text.specs.declared.log.LogLine.{LogLine}
use Rattle.tcf_text.specs.declared.log.LogLine.TheVariants.{Sent, Refused, Hello, Event, Progress, Final, Unknown, Closed, Ended, Cached}
use Rattle.log_check.specs.Placed.{PlacedBy}
use Rattle.log_check.specs.declared.positions.Marks.{Marks}
use Rattle.log_check.proofs.Eaches.{each_nothing, each_push}

-- so many lines have their places, and what they said of positions
pub record StandBefore (inputs : List Input) (lines left : List LogLine) (marks : Marks) : Type 0 where
  pub before : List LogLine
  pub whole : lines ≡ before ++ left
  pub placed : marks.placed ≡ list_any is_placed_hello before
  pub last : marks.last ≡ last_mark before
  pub met : Each (IsPlaced inputs) before

placed_is : (inputs : List Input) (before : List LogLine) (line : LogLine) → PlacedBy inputs (list_any is_placed_hello before) (last_mark before) line ↔ IsPlaced inputs before line
placed_is inputs before (Sent number service name body) = ((λ p. p), (λ p. p))
placed_is inputs before (Refused why) = ((λ p. p), (λ p. p))
placed_is inputs before (Hello None body) = ((λ p. p.0), (λ p. (p, tt)))
placed_is inputs before (Hello (Some position) body) = ((λ p. p), (λ p. p))
placed_is inputs before (Event mark service name body) = ((λ p. p), (λ p. p))
placed_is inputs before (Progress number mark body) = ((λ p. p), (λ p. p))
placed_is inputs before (Final number mark body) = ((λ p. p), (λ p. p))
placed_is inputs before (Unknown number mark) = ((λ p. p), (λ p. p))
placed_is inputs before (Closed number) = ((λ p. p), (λ p. p))
placed_is inputs before (Ended why) = ((λ p. p), (λ p. p))
placed_is inputs before (Cached what value) = ((λ p. p), (λ p. p))

by_marks : (inputs : List Input) (before : List LogLine) (line : LogLine) (marks : Marks) → marks.placed ≡ list_any is_placed_hello before → marks.last ≡ last_mark before
    → PlacedBy inputs marks.placed marks.last line ↔ IsPlaced inputs before line
by_marks inputs before line marks placed last =
    subst (λ b. PlacedBy inputs b marks.last line ↔ IsPlaced inputs before line) (sym placed)
    (subst (λ m. PlacedBy inputs (list_any is_placed_hello before) m line ↔ IsPlaced inputs before line) (sym last) (placed_is inputs before line))

or_false : (a b : Bool) → (a || (b || false)) ≡ (a || b)
or_false true true = refl
or_false true false = refl
or_false false true = refl
or_false false false = refl

later_none : {A : Type 0} (x : Option A) → x ≡ later_or x None
later_none None = refl
later_none (Some x) = refl

later_later : {A : Type 0} (x y z : Option A) → later_or (later_or x y) z ≡ later_or x (later_or y z)
later_later None y z = refl
later_later (Some x) y z = refl

pub last_push : (before : List LogLine) (line : LogLine) → last_mark (before ++ line ∷ []) ≡ later_or (mark_of line) (last_mark before)
last_push [] line = later_none (mark_of line)
last_push (b ∷ before) line = ap (λ m. later_or m (mark_of b)) (last_push before line) ∙ later_later (mark_of line) (last_mark before) (mark_of b)

pub stand_first : (inputs : List Input) (lines : List LogLine) (marks : Marks) → marks.placed ≡ false → marks.last ≡ None → StandBefore inputs lines lines marks
stand_first inputs lines marks placed last =
    record { before = []; whole = refl; placed = placed; last = last; met = each_nothing (IsPlaced inputs) }

pub stand_next : (inputs : List Input) (lines left after : List LogLine) (marks marks' : Marks) (line : LogLine) (flag : Bool) → StandBefore inputs lines left marks → left ≡ line ∷ after
    → flag ≡ true → (flag ≡ true) ↔ PlacedBy inputs marks.placed marks.last line
    → marks'.placed ≡ (marks.placed || is_placed_hello line) → marks'.last ≡ later_or (mark_of line) marks.last
    → StandBefore inputs lines after marks'
stand_next inputs lines left after marks marks' line flag s is is_set tells placed last =
    record {
      before = s.before ++ line ∷ [];
      whole = s.whole ∙ (ap (λ l. s.before ++ l) is ∙ sym (append_assoc s.before (line ∷ []) after));
      placed = placed ∙ (ap (λ b. b || is_placed_hello line) s.placed ∙ sym (list_any-append is_placed_hello s.before (line ∷ []) ∙ or_false (list_any is_placed_hello s.before) (is_placed_hello line)));
      last = last ∙ (ap (later_or (mark_of line)) s.last ∙ sym (last_push s.before line));
      met = each_push (IsPlaced inputs) s.before line s.met ((by_marks inputs s.before line marks s.placed s.last).0 (tells.0 is_set));
    }

no_flag : {A : Type 0} → (A → ⊥) → (false ≡ true) ↔ A
no_flag not = ((λ is. absurd (false≢true is)), (λ a. absurd (not a)))

flag_off : (flag : Bool) → flag ≡ false → flag ≡ true → ⊥
flag_off flag off on = false≢true (sym off ∙ on)

-- a line that hasn't its place
pub stand_not : (inputs : List Input) (lines left after : List LogLine) (marks : Marks) (line : LogLine) (flag : Bool) → StandBefore inputs lines left marks → left ≡ line ∷ after
    → flag ≡ false → (flag ≡ true) ↔ PlacedBy inputs marks.placed marks.last line → (false ≡ true) ↔ Each (IsPlaced inputs) lines
stand_not inputs lines left after marks line flag s is isnt tells =
    no_flag (λ each. flag_off flag isnt (tells.1 ((by_marks inputs s.before line marks s.placed s.last).1 (each s.before after line (s.whole ∙ ap (λ l. s.before ++ l) is)))))

pub stand_last : (inputs : List Input) (lines left : List LogLine) (marks : Marks) → StandBefore inputs lines left marks → left ≡ [] → (true ≡ true) ↔ Each (IsPlaced inputs) lines
stand_last inputs lines left marks s is =
    ((λ is_set. subst (Each (IsPlaced inputs)) (sym (s.whole ∙ (ap (λ l. s.before ++ l) is ∙ append-nil s.before))) s.met), (λ each. refl))

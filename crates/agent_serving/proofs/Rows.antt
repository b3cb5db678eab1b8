-- The line of a channel, by cases on the lines.
use Rattle.std.proofs.Common.{◌≡◌, ℕ, zero, suc, ◌==◌, inl, inr, Bool, true, false, cond, List, [], ◌∷◌, ◌++◌, Option, Some, None, refl, sym, ap, ◌∙◌, subst, eqb-true}
use Rattle.std.specs.Prelude.{option_map, remove}
use Rattle.std.specs.List.{AllByRecursion}
use Rattle.std.proofs.lemmas.Bool.{or_parts}
use Rattle.std.proofs.lemmas.Option.{none-some, same_Some}
use Rattle.list_laws.proofs.Numbers.{number_itself}
use Rattle.agent_node.specs.AgentValue.{AgentValue}
use Rattle.serving_wires.specs.Order.{closes}
use Rattle.serving_wires.specs.Process.{Process, and_then, done, tells}
use Rattle.serving_wires.specs.Row.{Row}
use Rattle.serving_wires.specs.Rows.{place_of, with_item, with_item_at}
use Rattle.serving_wires.specs.declared.intake.Came.{Came}
use Rattle.serving_wires.proofs.Rows.{HasPlace, changed_here, changed_later, first_changed, found, found_here, found_later, has_place, is_among, missing_if, numbers, position_step, with_behind}
use Rattle.agent_serving.specs.Gathering.{gathered}
use Rattle.agent_serving.specs.Passing.{Passed, passed_on}
use Rattle.agent_serving.specs.Serving.{heard_at, heard_on, passed_by, unless_over}
use Rattle.agent_serving.specs.ServingValue.{ServingValue}

abbrev pub Lines : Type 0
Lines = List (Row (List Came))

-- the lines with this waiting on the channel, and without that of the channel
abbrev pub put_first : ℕ → List Came → Lines → Lines
put_first k waiting lines = first_changed k (λ old. waiting) lines

abbrev pub without_first : ℕ → Lines → Lines
without_first k [] = []
without_first k (line ∷ lines) = cond (line.channel == k) lines (line ∷ without_first k lines)

-- ---- what is heard goes to the line of the channel

abbrev pub goes_on_with : AgentValue → Lines → Process ServingValue
goes_on_with a lines = done (record { agent = a; lines = lines })

-- its end was taken, or it goes on
abbrev pub heard_with : ℕ → Passed → Lines → Process ServingValue
heard_with k p lines =
    cond p.is_over (and_then (gathered k p.agent) (λ a. tells (closes k) (done (record { agent = a; lines = without_first k lines }))))
    (done (record { agent = p.agent; lines = put_first k p.waiting lines }))

abbrev pub heard_first : ℕ → Came → Option (List Came) → ServingValue → Process ServingValue
heard_first k came None s = done s
heard_first k came (Some waiting) s = heard_with k (passed_on k (waiting ++ came ∷ []) s.agent) s.lines

removed_there : (k at : ℕ) (waiting : List Came) (lines : Lines) → place_of k lines ≡ Some at → remove (with_item_at at waiting lines) at ≡ without_first k lines
removed_there k at waiting [] is = cc
removed_there k at waiting (line ∷ lines) is = by_flag (line.channel == k) at (sym (position_step (λ row. row.channel == k) line lines) ∙ is) (λ place there. removed_there k place waiting lines there)
  where
    by_flag : (flag : Bool) (place : ℕ) → cond flag (Some 0) (option_map suc (place_of k lines)) ≡ Some place
        → ((later : ℕ) → place_of k lines ≡ Some later → remove (with_item_at later waiting lines) later ≡ without_first k lines)
        → remove (with_item_at place waiting (line ∷ lines)) place ≡ cond flag lines (line ∷ without_first k lines)
    by_flag true zero here rest = refl
    by_flag true (suc place) here rest = absurd cc
    by_flag false place there rest = by_place (place_of k lines) refl place there
      where
        by_place : (found_at : Option ℕ) → place_of k lines ≡ found_at → (now : ℕ) → option_map suc found_at ≡ Some now → remove (with_item_at now waiting (line ∷ lines)) now ≡ line ∷ without_first k lines
        by_place None is now so = absurd (none-some now so)
        by_place (Some later) is zero so = absurd cc
        by_place (Some later) is (suc now) so =
            let same : later ≡ now = cc in
            ap (λ (rs : Lines). remove rs (suc now)) (with_behind now waiting line lines) ∙ ap (λ (rs : Lines). line ∷ rs) (rest now (is ∙ ap (λ (n : ℕ). Some n) same))

over_is : (over : Bool) (place k : ℕ) (a : AgentValue) (waiting : List Came) (lines put without : Lines) → with_item_at place waiting lines ≡ put → remove (with_item_at place waiting lines) place ≡ without
    → unless_over place k (over, record { agent = a; lines = with_item_at place waiting lines })
    ≡ cond over (and_then (gathered k a) (λ b. tells (closes k) (done (record { agent = b; lines = without })))) (done (record { agent = a; lines = put }))
over_is true place k a waiting lines put without changed removed =
    ap (λ (rs : Lines). and_then (gathered k a) (λ b. tells (closes k) (done (record { agent = b; lines = rs })))) removed
over_is false place k a waiting lines put without changed removed =
    ap (λ (rs : Lines). goes_on_with a rs) changed

heard_where : (k : ℕ) (came : Came) (s : ServingValue) → HasPlace (List Came) k s.lines → heard_at (place_of k s.lines) k came s ≡ heard_first k came (found k s.lines) s
heard_where k came s (inl none) = rw (none.0, none.1) refl
heard_where k came s (inr (place, waiting, there)) =
    let p = passed_on k (waiting ++ came ∷ []) s.agent in
    ap (λ (o : Option ℕ). heard_at o k came s) there.place ∙ ap (λ (o : Option (List Came)). unless_over place k (passed_by place k came o s)) there.there
    ∙ over_is p.is_over place k p.agent p.waiting s.lines (put_first k p.waiting s.lines) (without_first k s.lines) (there.changed (λ old. p.waiting)) (removed_there k place p.waiting s.lines there.place)
    ∙ sym (ap (λ (o : Option (List Came)). heard_first k came o s) there.finds)

pub heard_is : (k : ℕ) (came : Came) (s : ServingValue) → heard_on k came s ≡ heard_first k came (found k s.lines) s
unfolding heard_on
heard_is k came s = heard_where k came s (has_place (List Came) k s.lines)

-- ---- what is found then

pub found_push_other : {T : Type 0} → (k : ℕ) (rows : List (Row T)) (row : Row T) → (row.channel == k) ≡ false → found k (rows ++ row ∷ []) ≡ found k rows
found_push_other k [] row apart = found_later k row [] apart
found_push_other {T = T} k (first ∷ rows) row apart = ap (λ (o : Option T). cond (first.channel == k) (Some first.item) o) (found_push_other k rows row apart)

pub found_push_own : {T : Type 0} → (rows : List (Row T)) (row : Row T) → found row.channel rows ≡ None → found row.channel (rows ++ row ∷ []) ≡ Some row.item
found_push_own [] row missing = found_here row.channel row [] (number_itself row.channel)
found_push_own {T = T} (first ∷ rows) row missing = by_flag (first.channel == row.channel) missing (found_push_own rows row)
  where
    by_flag : (flag : Bool) → cond flag (Some first.item) (found row.channel rows) ≡ None → (found row.channel rows ≡ None → found row.channel (rows ++ row ∷ []) ≡ Some row.item)
        → cond flag (Some first.item) (found row.channel (rows ++ row ∷ [])) ≡ Some row.item
    by_flag true here later = absurd (none-some first.item (sym here))
    by_flag false there later = later there

pub found_put : (k : ℕ) (waiting next : List Came) (lines : Lines) → found k lines ≡ Some waiting → found k (put_first k next lines) ≡ Some next
found_put k waiting next [] there = absurd (none-some waiting there)
found_put k waiting next (line ∷ lines) there = by_flag (line.channel == k) refl there (found_put k waiting next lines)
  where
    by_flag : (flag : Bool) → (line.channel == k) ≡ flag → cond flag (Some line.item) (found k lines) ≡ Some waiting → (found k lines ≡ Some waiting → found k (put_first k next lines) ≡ Some next)
        → found k (put_first k next (line ∷ lines)) ≡ Some next
    by_flag true is here later = ap (found k) (changed_here k (λ old. next) line lines is) ∙ found_here k (with_item next line) lines is
    by_flag false is there later = ap (found k) (changed_later k (λ old. next) line lines is) ∙ found_later k line (put_first k next lines) is ∙ later there

pub found_put_other : (k j : ℕ) (next : List Came) (lines : Lines) → (j == k) ≡ false → found k (put_first j next lines) ≡ found k lines
found_put_other k j next [] apart = refl
found_put_other k j next (line ∷ lines) apart = by_flag (line.channel == j) refl (found_put_other k j next lines apart)
  where
    by_flag : (flag : Bool) → (line.channel == j) ≡ flag → found k (put_first j next lines) ≡ found k lines → found k (put_first j next (line ∷ lines)) ≡ found k (line ∷ lines)
    by_flag true is rest =
        let isnt : (line.channel == k) ≡ false = ap (λ (n : ℕ). n == k) (eqb-true line.channel j is) ∙ apart in
        ap (found k) (changed_here j (λ old. next) line lines is) ∙ found_later k (with_item next line) lines isnt ∙ sym (found_later k line lines isnt)
    by_flag false is rest = ap (found k) (changed_later j (λ old. next) line lines is) ∙ ap (λ (o : Option (List Came)). cond (line.channel == k) (Some line.item) o) rest

-- ---- each channel has one line

abbrev pub Own : Lines → Type 0
Own [] = Unit {0}
Own (line ∷ lines) = (is_among line.channel (numbers lines) ≡ false) × Own lines

pub found_without_other : (k j : ℕ) (lines : Lines) → (j == k) ≡ false → found k (without_first j lines) ≡ found k lines
found_without_other k j [] apart = refl
found_without_other k j (line ∷ lines) apart = by_flag (line.channel == j) refl (found_without_other k j lines apart)
  where
    by_flag : (flag : Bool) → (line.channel == j) ≡ flag → found k (without_first j lines) ≡ found k lines → found k (cond flag lines (line ∷ without_first j lines)) ≡ found k (line ∷ lines)
    by_flag true is rest = sym (found_later k line lines (ap (λ (n : ℕ). n == k) (eqb-true line.channel j is) ∙ apart))
    by_flag false is rest = ap (λ (o : Option (List Came)). cond (line.channel == k) (Some line.item) o) rest

pub found_without : (k : ℕ) (lines : Lines) → Own lines → found k (without_first k lines) ≡ None
found_without k [] own = refl
found_without k (line ∷ lines) own = by_flag (line.channel == k) refl (found_without k lines own.1)
  where
    by_flag : (flag : Bool) → (line.channel == k) ≡ flag → found k (without_first k lines) ≡ None → found k (cond flag lines (line ∷ without_first k lines)) ≡ None
    by_flag true is rest = missing_if k lines (ap (λ (n : ℕ). is_among n (numbers lines)) (sym (eqb-true line.channel k is)) ∙ own.0)
    by_flag false is rest = found_later k line (without_first k lines) is ∙ rest

-- changed twice
pub put_twice : (k : ℕ) (first next : List Came) (lines : Lines) → put_first k next (put_first k first lines) ≡ put_first k next lines
put_twice k first next [] = refl
put_twice k first next (line ∷ lines) = by_flag (line.channel == k) refl (put_twice k first next lines)
  where
    by_flag : (flag : Bool) → (line.channel == k) ≡ flag → put_first k next (put_first k first lines) ≡ put_first k next lines → put_first k next (put_first k first (line ∷ lines)) ≡ put_first k next (line ∷ lines)
    by_flag true is rest =
        ap (put_first k next) (changed_here k (λ old. first) line lines is) ∙ changed_here k (λ old. next) (with_item first line) lines is ∙ sym (changed_here k (λ old. next) line lines is)
    by_flag false is rest =
        ap (put_first k next) (changed_later k (λ old. first) line lines is) ∙ changed_later k (λ old. next) line (put_first k first lines) is ∙ ap (λ (ls : Lines). line ∷ ls) rest
        ∙ sym (changed_later k (λ old. next) line lines is)

without_here : (k : ℕ) (line : Row (List Came)) (lines : Lines) → (line.channel == k) ≡ true → without_first k (line ∷ lines) ≡ lines
without_here k line lines is = ap (λ (b : Bool). cond b lines (line ∷ without_first k lines)) is

without_later : (k : ℕ) (line : Row (List Came)) (lines : Lines) → (line.channel == k) ≡ false → without_first k (line ∷ lines) ≡ line ∷ without_first k lines
without_later k line lines is = ap (λ (b : Bool). cond b lines (line ∷ without_first k lines)) is

pub put_without : (k : ℕ) (next : List Came) (lines : Lines) → without_first k (put_first k next lines) ≡ without_first k lines
put_without k next [] = refl
put_without k next (line ∷ lines) = by_flag (line.channel == k) refl (put_without k next lines)
  where
    by_flag : (flag : Bool) → (line.channel == k) ≡ flag → without_first k (put_first k next lines) ≡ without_first k lines → without_first k (put_first k next (line ∷ lines)) ≡ without_first k (line ∷ lines)
    by_flag true is rest = ap (without_first k) (changed_here k (λ old. next) line lines is) ∙ without_here k (with_item next line) lines is ∙ sym (without_here k line lines is)
    by_flag false is rest =
        ap (without_first k) (changed_later k (λ old. next) line lines is) ∙ without_later k line (put_first k next lines) is ∙ ap (λ (ls : Lines). line ∷ ls) rest ∙ sym (without_later k line lines is)

-- ---- a fact of all lines

pub all_found : (P : ℕ → List Came → Type 0) (k : ℕ) (waiting : List Came) (lines : Lines) → found k lines ≡ Some waiting → AllByRecursion (λ (line : Row (List Came)). P line.channel line.item) lines → P k waiting
all_found P k waiting [] there all = absurd (none-some waiting there)
all_found P k waiting (line ∷ lines) there all = by_flag (line.channel == k) refl there (λ later. all_found P k waiting lines later all.1)
  where
    by_flag : (flag : Bool) → (line.channel == k) ≡ flag → cond flag (Some line.item) (found k lines) ≡ Some waiting → (found k lines ≡ Some waiting → P k waiting) → P k waiting
    by_flag true is here later = subst (P k) (same_Some line.item waiting here) (subst (λ (n : ℕ). P n line.item) (eqb-true line.channel k is) all.0)
    by_flag false is there later = later there

pub all_without : (P : Row (List Came) → Type 0) (k : ℕ) (lines : Lines) → AllByRecursion P lines → AllByRecursion P (without_first k lines)
all_without P k [] all = tt
all_without P k (line ∷ lines) all = by_flag (line.channel == k) (all_without P k lines all.1)
  where
    by_flag : (flag : Bool) → AllByRecursion P (without_first k lines) → AllByRecursion P (cond flag lines (line ∷ without_first k lines))
    by_flag true rest = all.1
    by_flag false rest = (all.0, rest)

-- of other channels than this one
abbrev pub IsElsewhere : (P Q : Row (List Came) → Type 0) → ℕ → Type 0
IsElsewhere P Q k = (line : Row (List Came)) → (line.channel == k) ≡ false → P line → Q line

pub all_lack : (P Q : Row (List Came) → Type 0) (k : ℕ) (lines : Lines) → is_among k (numbers lines) ≡ false → IsElsewhere P Q k → AllByRecursion P lines → AllByRecursion Q lines
all_lack P Q k [] lacks so all = tt
all_lack P Q k (line ∷ lines) lacks so all = let parts = or_parts (line.channel == k) (is_among k (numbers lines)) lacks in (so line parts.0 all.0, all_lack P Q k lines parts.1 so all.1)

pub all_others : (P Q : Row (List Came) → Type 0) (k : ℕ) (lines : Lines) → Own lines → IsElsewhere P Q k → AllByRecursion P lines → AllByRecursion Q (without_first k lines)
all_others P Q k [] own so all = tt
all_others P Q k (line ∷ lines) own so all = by_flag (line.channel == k) refl (all_others P Q k lines own.1 so all.1)
  where
    by_flag : (flag : Bool) → (line.channel == k) ≡ flag → AllByRecursion Q (without_first k lines) → AllByRecursion Q (cond flag lines (line ∷ without_first k lines))
    by_flag true is rest = all_lack P Q k lines (ap (λ (n : ℕ). is_among n (numbers lines)) (sym (eqb-true line.channel k is)) ∙ own.0) so all.1
    by_flag false is rest = (so line is all.0, rest)

pub all_put : (P Q : Row (List Came) → Type 0) (k : ℕ) (next : List Came) (lines : Lines) → Own lines → IsElsewhere P Q k → ((line : Row (List Came)) → line.channel ≡ k → Q (with_item next line))
    → AllByRecursion P lines → AllByRecursion Q (put_first k next lines)
all_put P Q k next [] own so here all = tt
all_put P Q k next (line ∷ lines) own so here all = by_flag (line.channel == k) refl (all_put P Q k next lines own.1 so here all.1)
  where
    by_flag : (flag : Bool) → (line.channel == k) ≡ flag → AllByRecursion Q (put_first k next lines) → AllByRecursion Q (cond flag (with_item next line ∷ lines) (line ∷ put_first k next lines))
    by_flag true is rest =
        let at : line.channel ≡ k = eqb-true line.channel k is in
        (here line at, all_lack P Q k lines (ap (λ (n : ℕ). is_among n (numbers lines)) (sym at) ∙ own.0) so all.1)
    by_flag false is rest = (so line is all.0, rest)

-- What the history tells a channel up to a position, and behind it; and how many answers of it go to commands that go through.
use Rattle.std.proofs.Common.{◌≡◌, ℕ, ◌+◌, ◌≤◌, Bool, true, false, cond, List, [], ◌∷◌, ◌++◌, length, filter, Some, None, refl, ap, sym, ◌∙◌, subst, arith, length-append}
use Rattle.std.specs.List.{AllByRecursion, flat_map}
use Rattle.std.proofs.lemmas.List.{append_assoc, append-nil}
use Rattle.std.proofs.lemmas.List.Elements.{filter-append}
use Rattle.target_contexts.specs.declared.process.Image.{Image}
use Rattle.target_hub.specs.History.{IsLegal, input_after, inputs_after, is_live}
use Rattle.target_hub.specs.HubValue.{TargetValue, new_target}
use Rattle.list_laws.specs.Fronts.{IsFront}
use Rattle.list_laws.proofs.Splits.{CutAt, cut_at, cut_past, cut_within, filter_mapped}
use Rattle.target_hub.specs.Received.{answer_of, is_owed, is_through_number, told_of}
use Rattle.target_hub.specs.Sent.{Told, event_at, executed_by, executed_on, final_at, hello_at, progress_at, sent, sent_after, told_by, told_while_live, unknown_at}
use Rattle.target_hub.specs.declared.input.Input.{Input}
use Rattle.target_truth.specs.Taught.{position_of}
use Rattle.target_truth.proofs.Positions.{last_at}
use Rattle.tcf_text.specs.Lines.{Accepted, mark_of}
use Rattle.tcf_text.specs.declared.log.LogLine.{LogLine}
use Rattle.tcf_text.specs.declared.log.LogLine.TheVariants as lines
use Rattle.chain_heard.proofs.Flags.{flag_of, flags_of, flags_sent}
use Rattle.chain_heard.proofs.Placed.{RisingLines}
use Rattle.chain_heard.proofs.Elements.{all_cuts, mapped_length, filter_length}
use Rattle.list_laws.proofs.AllLists.{all_append, all_filter, all_weaker, all_at, all_test}

-- ---- behind a position

here_all : (k position : ℕ) (target : TargetValue) (input : Input) → AllByRecursion (λ now. position_of now ≡ position) (told_by k position target input)
here_all k position target input =
    all_cuts (λ now. position_of now ≡ position) (told_by k position target input) (λ front rest last cut. last_at k position target input front rest last cut)

after_all : (k : ℕ) (inputs before : List Input) (target : TargetValue) (low : ℕ) → low ≤ length before + 1 → AllByRecursion (λ now. low ≤ position_of now) (sent_after k before target inputs)
after_all k [] before target low below = tt
after_all k (input ∷ inputs) before target low below =
    let longer : length (before ++ input ∷ []) ≡ length before + 1 = omega (arith, length-append before (input ∷ [])) in
    all_append (λ now. low ≤ position_of now) (told_while_live k before target input) (sent_after k (before ++ input ∷ []) (input_after input target) inputs)
    (all_test (λ now. low ≤ position_of now) (is_live k (before ++ input ∷ [])) (told_by k (length before + 1) target input) []
    (λ _. all_weaker (λ now. position_of now ≡ length before + 1) (λ now. low ≤ position_of now) (told_by k (length before + 1) target input)
    (λ now at. omega arith) (here_all k (length before + 1) target input))
    (λ _. tt))
    (after_all k inputs (before ++ input ∷ []) (input_after input target) low (omega arith))

sent_parts : (k : ℕ) (xs ys before : List Input) (target : TargetValue)
    → sent_after k before target (xs ++ ys) ≡ sent_after k before target xs ++ sent_after k (before ++ xs) (inputs_after xs target) ys
sent_parts k [] ys before target = ap (λ inputs. sent_after k inputs target ys) (sym (append-nil before))
sent_parts k (x ∷ xs) ys before target =
    ap (λ l. told_while_live k before target x ++ l)
    (sent_parts k xs ys (before ++ x ∷ []) (input_after x target)
    ∙ ap (λ inputs. sent_after k (before ++ x ∷ []) (input_after x target) xs ++ sent_after k inputs (inputs_after xs (input_after x target)) ys) (append_assoc before (x ∷ []) xs))
    ∙ sym (append_assoc (told_while_live k before target x) (sent_after k (before ++ x ∷ []) (input_after x target) xs)
    (sent_after k (before ++ x ∷ xs) (inputs_after (x ∷ xs) target) ys))

pub executed_parts : (k : ℕ) (xs ys : List Input) → executed_on k (xs ++ ys) ≡ executed_on k xs ++ executed_on k ys
executed_parts k [] ys = refl
executed_parts k (x ∷ xs) ys = ap (λ l. executed_by k x ++ l) (executed_parts k xs ys) ∙ sym (append_assoc (executed_by k x) (executed_on k xs) (executed_on k ys))

legal_front : (images : List Image) (xs ys : List Input) → IsLegal images (xs ++ ys) → IsLegal images xs
legal_front images xs ys legal before input rest split =
    legal before input (rest ++ ys) (ap (λ l. l ++ ys) split ∙ append_assoc before (input ∷ rest) ys)

-- ---- how many answers go to commands that go through

abbrev pub goes : Told → Bool
goes (hello_at place body) = false
goes (event_at place service name body) = false
goes (progress_at place body) = false
goes (final_at place through body) = through
goes (unknown_at place through) = through

abbrev pub answers_in : List Told → ℕ
answers_in told = length (filter goes told)

flag_kept : (flag : Bool) (now : Told) (more : List Told) → goes now ≡ flag → is_owed now ≡ flag → filter goes (cond flag (now ∷ more) more) ≡ cond flag (now ∷ filter goes more) (filter goes more)
flag_kept true now more is owed = ap (λ b. cond b (now ∷ filter goes more) (filter goes more)) is
flag_kept false now more is owed = refl

-- they are owed
owed_goes : (told : List Told) → filter goes (filter is_owed told) ≡ filter goes told
owed_goes [] = refl
owed_goes (hello_at place body ∷ told) = owed_goes told
owed_goes (event_at place service name body ∷ told) = owed_goes told
owed_goes (progress_at place body ∷ told) = owed_goes told
owed_goes (final_at place through body ∷ told) =
    flag_kept through (final_at place through body) (filter is_owed told) refl refl ∙ ap (λ l. cond through (final_at place through body ∷ l) l) (owed_goes told)
owed_goes (unknown_at place through ∷ told) =
    flag_kept through (unknown_at place through) (filter is_owed told) refl refl ∙ ap (λ l. cond through (unknown_at place through ∷ l) l) (owed_goes told)

one_counted : (flag : Bool) (now : Told) (told : List Told) (flags : List Bool) → length (filter goes told) ≡ length (filter (λ b. b) flags)
    → length (cond flag (now ∷ filter goes told) (filter goes told)) ≡ length (cond flag (flag ∷ filter (λ b. b) flags) (filter (λ b. b) flags))
one_counted true now told flags same = omega arith
one_counted false now told flags same = same

flags_counted : (told : List Told) → length (filter goes told) ≡ length (filter (λ b. b) (flat_map flags_of told))
flags_counted [] = refl
flags_counted (hello_at place body ∷ told) = flags_counted told
flags_counted (event_at place service name body ∷ told) = flags_counted told
flags_counted (progress_at place body ∷ told) = flags_counted told
flags_counted (final_at place through body ∷ told) = one_counted through (final_at place through body) told (flat_map flags_of told) (flags_counted told)
flags_counted (unknown_at place through ∷ told) = one_counted through (unknown_at place through) told (flat_map flags_of told) (flags_counted told)

-- there is one for each command that goes through
sent_counted : (images : List Image) (history : List Input) (k : ℕ) → IsLegal images history → answers_in (sent images k history) ≡ length (filter flag_of (executed_on k history))
sent_counted images history k legal =
    flags_counted (sent images k history) ∙ ap (λ flags. length (filter (λ b. b) flags)) (flags_sent images history k legal)
    ∙ ap length (filter_mapped (λ b. b) flag_of (executed_on k history)) ∙ mapped_length flag_of (filter flag_of (executed_on k history))

-- ---- what was told up to a position

cut_counted : (position : ℕ) (told first second rest : List Told) → AllByRecursion (λ now. position_of now ≤ position) told
    → AllByRecursion (λ now. position + 1 ≤ position_of now) second → CutAt told rest first second → length (filter goes told) ≤ length (filter goes first)
cut_counted position told first second rest up over (cut_within ws is) = filter_length goes told ws first is
cut_counted position told first second rest up over (cut_past [] is further) =
    let same : length (filter goes told) ≡ length (filter goes first) = ap (λ l. length (filter goes l)) (is ∙ append-nil first) in omega arith
cut_counted position told first second rest up over (cut_past (w ∷ ws) is further) =
    let low : position_of w ≤ position = all_at (λ now. position_of now ≤ position) first ws w (subst (AllByRecursion (λ now. position_of now ≤ position)) is up) in
    let high : AllByRecursion (λ now. position + 1 ≤ position_of now) ((w ∷ ws) ++ rest) = subst (AllByRecursion (λ now. position + 1 ≤ position_of now)) (sym further) over in
    let above : position + 1 ≤ position_of w = high.0 in
    absurd (omega arith)

-- of what is told the answers up to a position are those to commands that are executed up to it
pub early_answers : (images : List Image) (history first second : List Input) (k position : ℕ) (told : List Told) → IsLegal images history → history ≡ first ++ second → length first ≡ position
    → AllByRecursion (λ now. position_of now ≤ position) told → IsFront (filter is_owed told) (filter is_owed (sent images k history))
    → answers_in told ≤ length (filter flag_of (executed_on k first))
early_answers images history first second k position told legal split long up front =
    let one : List Told = sent images k first in
    let two : List Told = sent_after k first (inputs_after first (new_target images)) second in
    let legal_here : IsLegal images first = legal_front images first second (subst (IsLegal images) split legal) in
    let parts : sent images k history ≡ one ++ two = ap (λ (h : List Input). sent images k h) split ∙ sent_parts k first second [] (new_target images) in
    let whole : filter is_owed told ++ front.0 ≡ filter is_owed one ++ filter is_owed two =
    sym front.1 ∙ ap (filter is_owed) parts ∙ filter-append is_owed one two in
    let low : position + 1 ≤ length first + 1 = omega arith in
    let over = all_filter (λ now. position + 1 ≤ position_of now) is_owed two (after_all k second first (inputs_after first (new_target images)) (position + 1) low) in
    let less : length (filter goes (filter is_owed told)) ≤ length (filter goes (filter is_owed one)) =
    cut_counted position (filter is_owed told) (filter is_owed one) (filter is_owed two) front.0
    (all_filter (λ now. position_of now ≤ position) is_owed told up) over (cut_at (filter is_owed told) front.0 (filter is_owed one) (filter is_owed two) whole) in
    let here : length (filter goes (filter is_owed told)) ≡ answers_in told = ap length (owed_goes told) in
    let there : length (filter goes (filter is_owed one)) ≡ length (filter flag_of (executed_on k first)) = ap length (owed_goes one) ∙ sent_counted images first k legal_here in
    omega arith

-- ---- of the lines of a log

line_counted : (flag : Bool) (number : ℕ) (now : Told) (numbers : List ℕ) (told : List Told) → goes now ≡ flag → length numbers ≡ length (filter goes told)
    → length (cond flag (number ∷ []) [] ++ numbers) ≡ length (filter goes (now ∷ told))
line_counted true number now numbers told is same =
    let here : length (filter goes (now ∷ told)) ≡ length (now ∷ filter goes told) = ap (λ b. length (cond b (now ∷ filter goes told) (filter goes told))) is in omega arith
line_counted false number now numbers told is same =
    same ∙ sym (ap (λ b. length (cond b (now ∷ filter goes told) (filter goes told))) is)

pub lines_counted : (all : List Accepted) (ys : List LogLine) → length (flat_map (answer_of all) ys) ≡ answers_in (flat_map (told_of all) ys)
lines_counted all [] = refl
lines_counted all (lines.Hello None body ∷ ys) = lines_counted all ys
lines_counted all (lines.Hello (Some place) body ∷ ys) = lines_counted all ys
lines_counted all (lines.Event None service name body ∷ ys) = lines_counted all ys
lines_counted all (lines.Event (Some place) service name body ∷ ys) = lines_counted all ys
lines_counted all (lines.Progress number None body ∷ ys) = lines_counted all ys
lines_counted all (lines.Progress number (Some place) body ∷ ys) = lines_counted all ys
lines_counted all (lines.Final number None body ∷ ys) = lines_counted all ys
lines_counted all (lines.Final number (Some place) body ∷ ys) =
    line_counted (is_through_number number all) number (final_at place (is_through_number number all) body) (flat_map (answer_of all) ys) (flat_map (told_of all) ys) refl (lines_counted all ys)
lines_counted all (lines.Unknown number None ∷ ys) = lines_counted all ys
lines_counted all (lines.Unknown number (Some place) ∷ ys) =
    line_counted (is_through_number number all) number (unknown_at place (is_through_number number all)) (flat_map (answer_of all) ys) (flat_map (told_of all) ys) refl (lines_counted all ys)
lines_counted all (lines.Sent number service name body ∷ ys) = lines_counted all ys
lines_counted all (lines.Refused why ∷ ys) = lines_counted all ys
lines_counted all (lines.Closed number ∷ ys) = lines_counted all ys
lines_counted all (lines.Ended why ∷ ys) = lines_counted all ys
lines_counted all (lines.Cached what value ∷ ys) = lines_counted all ys

line_at : (all : List Accepted) (y : LogLine) (place : ℕ) → mark_of y ≡ Some (Some place) → AllByRecursion (λ now. position_of now ≡ place) (told_of all y)
line_at all (lines.Hello None body) place mark = tt
line_at all (lines.Hello (Some other) body) place mark = let same : other ≡ place = cc in (same, tt)
line_at all (lines.Event None service name body) place mark = tt
line_at all (lines.Event (Some other) service name body) place mark = let same : other ≡ place = cc in (same, tt)
line_at all (lines.Progress number None body) place mark = tt
line_at all (lines.Progress number (Some other) body) place mark = let same : other ≡ place = cc in (same, tt)
line_at all (lines.Final number None body) place mark = tt
line_at all (lines.Final number (Some other) body) place mark = let same : other ≡ place = cc in (same, tt)
line_at all (lines.Unknown number None) place mark = tt
line_at all (lines.Unknown number (Some other)) place mark = let same : other ≡ place = cc in (same, tt)
line_at all line place mark = tt

pub record LinesUp (all : List Accepted) (position last : ℕ) (ys : List LogLine) : Type 0 where
  pub below : position ≤ last
  pub up : AllByRecursion (λ now. position_of now ≤ last) (flat_map (told_of all) ys)

-- the positions before a line are up to that of the line
pub lines_up : (all : List Accepted) (ys zs : List LogLine) (x : LogLine) (position last : ℕ) → RisingLines position (ys ++ x ∷ zs) → mark_of x ≡ Some (Some last)
    → LinesUp all position last ys
lines_up all [] zs x position last rises mark =
    let here : Some (Some rises.0.place) ≡ Some (Some last) = sym rises.0.mark ∙ mark in
    let same : rises.0.place ≡ last = cc in
    let above : position ≤ rises.0.place = rises.0.above in
    record { below = omega arith; up = tt }
lines_up all (y ∷ ys) zs x position last rises mark =
    let more : LinesUp all rises.0.place last ys = lines_up all ys zs x rises.0.place last rises.1 mark in
    let above : position ≤ rises.0.place = rises.0.above in
    let further : rises.0.place ≤ last = more.below in
    record {
      below = omega arith;
      up =
          all_append (λ now. position_of now ≤ last) (told_of all y) (flat_map (told_of all) ys)
          (all_weaker (λ now. position_of now ≡ rises.0.place) (λ now. position_of now ≤ last) (told_of all y) (λ now at. omega arith) (line_at all y rises.0.place rises.0.mark))
          more.up;
    }

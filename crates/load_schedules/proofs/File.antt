-- A file says the schedule.
use Rattle.std.proofs.Common.{◌≡◌, ◌≢◌, ℕ, zero, suc, ◌<◌, ◌≤◌, false, not, codes, eqb, List, [], ◌∷◌, ◌++◌, get_or, map, refl, ◌∙◌, ap, arith}
use Rattle.std.specs.Prelude.{Some, decimal}
use Rattle.std.specs.List.{AllByRecursion, onto_first}
use Rattle.std.proofs.lemmas.Bool.{cond-false, cond-true, ne_eqb}
use Rattle.std.proofs.lemmas.List.Sums.{sum_by-append, sum_by-cons}
use Rattle.tcf_schedules.specs.Line.{IsHead, IsLineStep, LineHead, LineStep, chain, chain_word, head_spelling, image, image_word, step_spelling}
use Rattle.tcf_schedules.specs.Plan.{Plan, rounds, step_count, step_size}
use Rattle.tcf_schedules.specs.Schedule.{Accepts, AreDistinct, is_skipped, kept_lines, lines_of, plan_in}
use Rattle.tcf_schedules.specs.Words.{dash_word}
use Rattle.line_words.specs.Words.{spaced}
use Rattle.load_schedules.specs.Drawn.{after_step, chain_heads, drawn_step, drawn_steps}
use Rattle.load_schedules.specs.Generated.{GeneratesWithin, GeneratesWhatIsSaid, generated, loop_image, openings, redirect, redirects, start, starting}
use Rattle.tcf_schedules.proofs.TheLaws.{reads_what_is_said, reads_within}
use Rattle.load_schedules.proofs.Said.{IsSaid, drawn_fits, opened_said, rounds_said, sent_said}
use Rattle.load_schedules.proofs.Words.{IsInside, decimal_word, spaced_inside, word_inside}

-- ---- The text of some lines

text_of : List (List ℕ) → List ℕ
text_of [] = []
text_of (line ∷ lines) = line ++ 10 ∷ text_of lines

line_first : (line rest : List ℕ) → IsInside line → lines_of (line ++ 10 ∷ rest) ≡ line ∷ lines_of rest
line_first [] rest inside = refl
line_first (b ∷ bs) rest inside = cond-false (eqb b 10) _ _ (ne_eqb b 10 inside.0) ∙ ap (onto_first b) (line_first bs rest inside.1)

lines_back : (lines : List (List ℕ)) → AllByRecursion IsInside lines → lines_of (text_of lines) ≡ lines
unfolding text_of
lines_back [] inside = refl
lines_back (line ∷ lines) inside = line_first line (text_of lines) inside.0 ∙ ap (λ ls. line ∷ ls) (lines_back lines inside.1)

abbrev IsKept : List ℕ → Type 0
IsKept line = is_skipped line ≡ false

all_kept : (lines : List (List ℕ)) → AllByRecursion IsKept lines → kept_lines lines ≡ lines
all_kept [] kept = refl
all_kept (line ∷ lines) kept = cond-true (not (is_skipped line)) _ _ (ap not kept.0) ∙ ap (λ ls. line ∷ ls) (all_kept lines kept.1)

lines_append : (P : List ℕ → Type 0) (xs ys : List (List ℕ)) → AllByRecursion P xs → AllByRecursion P ys → AllByRecursion P (xs ++ ys)
lines_append P [] ys one two = two
lines_append P (x ∷ xs) ys one two = (one.0, lines_append P xs ys one.1 two)

-- ---- The lines of steps

record AreSaid (plans : List Plan) : Type 0 where
  steps : List LineStep
  good : AllByRecursion IsLineStep steps
  inside : AllByRecursion IsInside (map step_spelling steps)
  kept : AllByRecursion IsKept (map step_spelling steps)
  means : map (plan_in chain_heads) steps ≡ map Some plans

all_said : (plans : List Plan) → AllByRecursion IsSaid plans → AreSaid plans
all_said [] all = record { steps = []; good = tt; inside = tt; kept = tt; means = refl }
all_said (plan ∷ plans) all =
    let says = all.0.1 in
    let more = all_said plans all.1 in
    record {
      steps = all.0.0 ∷ more.steps;
      good = (says.good, more.good);
      inside = (says.inside, more.inside);
      kept = (says.kept, more.kept);
      means = ap (λ o. o ∷ map (plan_in chain_heads) more.steps) says.means ∙ ap (λ os. Some plan ∷ os) more.means;
    }

-- ---- The header

heads : List LineHead
heads = image (codes "loop") (codes "93801000130111006ff09fff") ∷ chain (codes "A") 0 ∷ chain (codes "B") 1 ∷ chain (codes "C") 2 ∷ []

heads_are : AllByRecursion IsHead heads
unfolding heads dash_word
heads_are = ((refl, refl), ((refl, omega arith), ((refl, omega arith), ((refl, omega arith), tt))))

head_inside : (name : List ℕ) (adds : ℕ) → IsInside name → adds < 3 → IsInside (head_spelling (chain name adds))
unfolding chain_word
head_inside name adds inside few =
    spaced_inside chain_word (spaced name (decimal adds)) (word_inside chain_word refl)
    (spaced_inside name (decimal adds) inside (word_inside (decimal adds) (decimal_word adds (omega arith))))

image_inside : (name digits : List ℕ) → IsInside name → IsInside digits → IsInside (head_spelling (image name digits))
unfolding image_word
image_inside name digits one other = spaced_inside image_word (spaced name digits) (word_inside image_word refl) (spaced_inside name digits one other)

heads_inside : AllByRecursion IsInside (map head_spelling heads)
unfolding heads
heads_inside = (
  image_inside (codes "loop") (codes "93801000130111006ff09fff") (word_inside (codes "loop") refl) (word_inside (codes "93801000130111006ff09fff") refl),
  (
    head_inside (codes "A") 0 (word_inside (codes "A") refl) (omega arith),
    (
      head_inside (codes "B") 1 (word_inside (codes "B") refl) (omega arith),
      (head_inside (codes "C") 2 (word_inside (codes "C") refl) (omega arith), tt),
    ),
  ),
)

heads_kept : AllByRecursion IsKept (map head_spelling heads)
unfolding heads image_word chain_word
heads_kept = (refl, (refl, (refl, (refl, tt))))

-- two names of one letter
letters_differ : (a b : ℕ) → a ≢ b → a ∷ [] ≢ b ∷ []
letters_differ a b differ is = differ (ap (λ (name : List ℕ). get_or name 0 0) is)

chains_differ : AreDistinct (codes "A" ∷ codes "B" ∷ codes "C" ∷ [])
chains_differ =
    ((letters_differ 66 65 (λ is. omega (arith, is)), (letters_differ 67 65 (λ is. omega (arith, is)), tt)), ((letters_differ 67 66 (λ is. omega (arith, is)), tt), (tt, tt)))

-- ---- The file

accepted : (plans : List Plan) → AreSaid plans → step_count plans ≤ 1000000
    → (file : List ℕ) × Accepts file (record { images = loop_image ∷ []; chains = chain_heads; plans = plans })
unfolding heads
accepted plans said few =
    let front = map head_spelling heads in
    let rest = map step_spelling said.steps in (
      text_of (front ++ rest),
      record {
        heads = heads;
        steps = said.steps;
        lines = ap kept_lines (lines_back (front ++ rest) (lines_append IsInside front rest heads_inside said.inside))
            ∙ all_kept (front ++ rest) (lines_append IsKept front rest heads_kept said.kept);
        heads_are = heads_are;
        steps_are = said.good;
        images = refl;
        chains = refl;
        plans = said.means;
        images_differ = (tt, tt);
        chains_differ = chains_differ;
        few = omega arith;
        within = few;
      },
    )

-- ---- The steps

drawn_are : (count state : ℕ) → AllByRecursion IsSaid (drawn_steps count state)
unfolding drawn_steps
drawn_are zero state = tt
drawn_are (suc count) state = ((drawn_fits state).0, drawn_are count (after_step state))

drawn_count : (count state : ℕ) → step_count (drawn_steps count state) ≡ count
unfolding drawn_steps
drawn_count zero state = refl
drawn_count (suc count) state =
    omega (arith, sum_by-cons step_size (drawn_step state) (drawn_steps count (after_step state)), (drawn_fits state).1, drawn_count count (after_step state))

steps_append : (xs ys : List Plan) → AllByRecursion IsSaid xs → AllByRecursion IsSaid ys → AllByRecursion IsSaid (xs ++ ys)
steps_append [] ys one two = two
steps_append (x ∷ xs) ys one two = (one.0, steps_append xs ys one.1 two)

one_round : IsSaid (rounds 1)
one_round = rounds_said 1 (omega arith) (omega arith)

openings_are : AllByRecursion IsSaid openings
openings_are = (opened_said 0 (omega arith), (opened_said 1 (omega arith), (opened_said 2 (omega arith), (one_round, tt))))

to_agent : (place : ℕ) → place < 3 → IsSaid (redirect place (codes "\"Agent\""))
to_agent place is = sent_said place (codes "Locator") (codes "redirect") (codes "\"Agent\"" ∷ []) is refl refl (refl, tt)

to_second : IsSaid (redirect 2 (codes "\"V2\""))
to_second = sent_said 2 (codes "Locator") (codes "redirect") (codes "\"V2\"" ∷ []) (omega arith) refl refl (refl, tt)

redirects_are : AllByRecursion IsSaid redirects
redirects_are = (to_agent 1 (omega arith), (to_second, (one_round, (to_agent 2 (omega arith), (one_round, tt)))))

start_is : IsSaid start
start_is =
    sent_said 0 (codes "Processes") (codes "start") (codes "\"\"" ∷ codes "\"loop\"" ∷ codes "[]" ∷ codes "[]" ∷ codes "true" ∷ []) (omega arith) refl refl
    (refl, (refl, (refl, (refl, (refl, tt)))))

starting_are : AllByRecursion IsSaid starting
starting_are = (start_is, (rounds_said 2 (omega arith) (omega arith), tt))

-- with so many drawn steps
file_of : (count number : ℕ) → count ≤ 20000
    → (file : List ℕ) × Accepts file (record { images = loop_image ∷ []; chains = chain_heads; plans = openings ++ redirects ++ starting ++ drawn_steps count number ++ rounds 40 ∷ [] })
file_of count number few =
    let drawn = drawn_steps count number in
    let last = rounds 40 ∷ [] in
    let said = steps_append openings (redirects ++ starting ++ drawn ++ last) openings_are
    (steps_append redirects (starting ++ drawn ++ last) redirects_are
    (steps_append starting (drawn ++ last) starting_are (steps_append drawn last (drawn_are count number) (rounds_said 40 (omega arith) (omega arith), tt)))) in
    accepted (openings ++ redirects ++ starting ++ drawn ++ last) (all_said (openings ++ redirects ++ starting ++ drawn ++ last) said)
    (omega (
      arith,
      sum_by-append step_size openings (redirects ++ starting ++ drawn ++ last),
      sum_by-append step_size redirects (starting ++ drawn ++ last),
      sum_by-append step_size starting (drawn ++ last),
      sum_by-append step_size drawn last,
      drawn_count count number,
    ))

pub generates_what_is_said : GeneratesWhatIsSaid
generates_what_is_said number =
    let file = file_of 20000 number (omega arith) in
    (file.0, (reads_what_is_said file.0 (generated number)).1 file.1)

pub generates_within : GeneratesWithin
generates_within number = let file = generates_what_is_said number in reads_within file.0 (generated number) file.1

-- What a file says is read.
use Rattle.std.proofs.Common.{◌≡◌, ℕ, ◌+◌, ◌≤◌, ◌<◌, Bool, true, false, not, cond, List, [], ◌∷◌, ◌++◌, map, length, refl, sym, ◌∙◌, ap, arith, inl, inr, subst, append_assoc}
use Rattle.std.specs.Prelude.{Option, Some, None, Result, Ok, Err, nat_le, nat_lt}
use Rattle.std.specs.List.{AllByRecursion}
use Rattle.std.proofs.lemmas.Bool.{cases_Bool, false≢true, cond-true, cond-false, leb-true, le-leb, lt-ltb, ltb-true}
use Rattle.std.proofs.lemmas.List.{append-nil, nil_from_length, map-append, length-append, length_push}
use Rattle.std.proofs.lemmas.List.Sums.{sum_by_push, sum_by-append, sum_by-cons}
use Rattle.tcf_schedules.specs.declared.schedule.ChainHead.{ChainHead}
use Rattle.tcf_schedules.specs.declared.schedule.NamedImage.{NamedImage}
use Rattle.tcf_schedules.specs.declared.schedule.TextFault.{TextFault}
use Rattle.tcf_schedules.specs.declared.schedule.TextFault.TheVariants.{Form, Late, Repeat, Unknown, Many}
use Rattle.tcf_schedules.specs.Plan.{Plan, step_size, step_count, AreSteps}
use Rattle.tcf_schedules.specs.Refusal.{BadLine}
use Rattle.tcf_schedules.specs.Line.{PlainStep, opens, sends, delivers, turns, ticks, closes, cuts, asks, LineStep, once, rounds, times, LineHead, image, chain, LineValue, head, step, IsHead, IsLineStep, image_word, chain_word, open_word, send_word, deliver_word, turn_word, tick_word, close_word, cut_word, cached_word, rounds_word, times_word, plain_spelling, step_spelling, head_spelling, spelling, Says}
use Rattle.tcf_schedules.specs.Reading.{value_of}
use Rattle.tcf_schedules.specs.Schedule.{lines_of, is_skipped, ScheduleValue, nothing, image_of, head_of, plan_in, has_step, is_image, is_chain, and_image, and_chain, and_plan, with_plan, after_head, after_value, after_said, after_line, at_line, going_on, after_lines, schedule_of, kept_lines, images_in, chains_in, AreDistinct, Accepts, ReadsWhatIsSaid}
use Rattle.tcf_schedules.proofs.Names.{IsNew, distinct_push, distinct_front, new_of, none_of}
use Rattle.tcf_schedules.proofs.Steps.{steps_are}
use Rattle.list_laws.proofs.Lists.{nil_cons, cons_parts}
use Rattle.tcf_schedules.proofs.Values.{reads_the_text}

-- ---- Outcomes

ok_same : (s t : ScheduleValue) → ◌≡◌ {A = Result ScheduleValue BadLine} (Ok s) (Ok t) → s ≡ t
ok_same s t e = cc

fault_ok : (what : TextFault) (s : ScheduleValue) → ◌≡◌ {A = Result ScheduleValue TextFault} (Err what) (Ok s) → ⊥
fault_ok what s e = cc

line_same : (s t : ScheduleValue) → ◌≡◌ {A = Result ScheduleValue TextFault} (Ok s) (Ok t) → s ≡ t
line_same s t e = cc

-- a test that has to succeed
guarded : (b : Bool) (r : Result ScheduleValue TextFault) (what : TextFault) (t : ScheduleValue) → cond b r (Err what) ≡ Ok t → (b ≡ true) × (r ≡ Ok t)
guarded true r what t e = (refl, e)
guarded false r what t e = absurd (fault_ok what t e)

-- a test that has to fail
unguarded : (b : Bool) (r : Result ScheduleValue TextFault) (what : TextFault) (t : ScheduleValue) → cond b (Err what) r ≡ Ok t → (b ≡ false) × (r ≡ Ok t)
unguarded true r what t e = absurd (fault_ok what t e)
unguarded false r what t e = (refl, e)

-- the outcome at some lines, of which the first may follow
pub goes_on : (f : ScheduleValue → Result ScheduleValue BadLine) (r : Result ScheduleValue TextFault) (k : ℕ) (t : ScheduleValue) → going_on f (at_line k r) ≡ Ok t
    → (next : ScheduleValue) × (r ≡ Ok next) × (f next ≡ Ok t)
goes_on f (Ok next) k t e = (next, refl, e)
goes_on f (Err what) k t e = absurd (cc)

-- one line of several, the outcome goes on from what it gives
pub one_line : (number : ℕ) (s next : ScheduleValue) (line : List ℕ) (lines : List (List ℕ)) → after_line s line ≡ Ok next
    → after_lines number s (line ∷ lines) ≡ after_lines (number + 1) next lines
one_line number s next line lines e = ap (λ r. going_on (λ n. after_lines (number + 1) n lines) (at_line number r)) e

-- two schedules of the same parts
same_parts : (s t : ScheduleValue) → s.images ≡ t.images → s.chains ≡ t.chains → s.plans ≡ t.plans → s ≡ t
same_parts s t images chains plans =
    ap (λ i. record { images = i; chains = s.chains; plans = s.plans }) images
    ∙ (ap (λ c. record { images = t.images; chains = c; plans = s.plans }) chains ∙ ap (λ p. record { images = t.images; chains = t.chains; plans = p }) plans)

-- ---- Lines that are skipped, and lines that aren't

pub skipping : (s : ScheduleValue) (line : List ℕ) → is_skipped line ≡ true → after_line s line ≡ Ok s
skipping s line skipped = cond-true (is_skipped line) _ _ skipped

pub kept_skipping : (line : List ℕ) (lines : List (List ℕ)) → is_skipped line ≡ true → kept_lines (line ∷ lines) ≡ kept_lines lines
kept_skipping line lines skipped = cond-false (not (is_skipped line)) _ _ (ap not skipped)

pub kept_more : (line : List ℕ) (lines : List (List ℕ)) → is_skipped line ≡ false → kept_lines (line ∷ lines) ≡ line ∷ kept_lines lines
kept_more line lines kept = cond-true (not (is_skipped line)) _ _ (ap not kept)

plain_kept : (x : PlainStep) → is_skipped (plain_spelling x) ≡ false
unfolding open_word send_word deliver_word turn_word tick_word close_word cut_word cached_word
plain_kept (opens name) = refl
plain_kept (sends name service command args) = refl
plain_kept (delivers name hop up count) = refl
plain_kept (turns name node up) = refl
plain_kept (ticks thread) = refl
plain_kept (closes name) = refl
plain_kept (cuts name hop) = refl
plain_kept (asks name what) = refl

step_kept : (x : LineStep) → is_skipped (step_spelling x) ≡ false
unfolding rounds_word times_word
step_kept (once x) = plain_kept x
step_kept (rounds count) = refl
step_kept (times count x) = refl

head_kept : (h : LineHead) → is_skipped (head_spelling h) ≡ false
unfolding image_word chain_word
head_kept (image name digits) = refl
head_kept (chain name adds) = refl

-- the text of a value is no line that is skipped
text_kept : (value : LineValue) → is_skipped (spelling value) ≡ false
text_kept (head h) = head_kept h
text_kept (step x) = step_kept x

-- a value that a line says, and that may follow
record Follows (s : ScheduleValue) (line : List ℕ) (next : ScheduleValue) : Type 0 where
  value : LineValue
  says : Says line value
  gives : after_value s value ≡ Ok next

follows : (s : ScheduleValue) (line : List ℕ) (next : ScheduleValue) → is_skipped line ≡ false → after_line s line ≡ Ok next → Follows s line next
follows s line next kept e = by_value (value_of line) refl (sym (cond-false (is_skipped line) _ _ kept) ∙ e)
  where
    by_value : (o : Option LineValue) → value_of line ≡ o → after_said s o ≡ Ok next → Follows s line next
    by_value None is gives = absurd (fault_ok Form next gives)
    by_value (Some value) is gives = record { value = value; says = (reads_the_text line value).0 is; gives = gives }

-- what a line says, taken
pub taking : (s : ScheduleValue) (line : List ℕ) (value : LineValue) → Says line value → after_line s line ≡ after_value s value
taking s line value says =
    cond-false (is_skipped line) _ _ (ap is_skipped says.1 ∙ text_kept value) ∙ ap (after_said s) ((reads_the_text line value).1 says)

-- ---- What holds of every schedule that is read

abbrev image_name : NamedImage → List ℕ
image_name i = i.name

abbrev chain_name : ChainHead → List ℕ
chain_name c = c.name

record IsFine (s : ScheduleValue) : Type 0 where
  images_differ : AreDistinct (map image_name s.images)
  chains_differ : AreDistinct (map chain_name s.chains)
  few : length s.chains ≤ 64
  within : step_count s.plans ≤ 1000000

nothing_fine : IsFine nothing
nothing_fine = record { images_differ = tt; chains_differ = tt; few = omega arith; within = omega arith }

-- the schedule with one more head
abbrev and_head : LineHead → ScheduleValue → ScheduleValue
and_head (image name digits) s = and_image name digits s
and_head (chain name adds) s = and_chain name adds s

names_push : {A : Type 0} (name_in : A → List ℕ) (items : List A) (item : A) → AreDistinct (map name_in items) → IsNew (name_in item) (map name_in items)
    → AreDistinct (map name_in (items ++ item ∷ []))
names_push name_in items item are new =
    subst AreDistinct (sym (map-append name_in items (item ∷ []))) (distinct_push (map name_in items) (name_in item) are new)

-- a head that is taken
record AddsHead (s : ScheduleValue) (h : LineHead) (next : ScheduleValue) : Type 0 where
  first : has_step s ≡ false
  fine : IsFine next
  next_is : next ≡ and_head h s

head_adds : (s : ScheduleValue) (h : LineHead) (next : ScheduleValue) → IsFine s → after_head s h ≡ Ok next → AddsHead s h next
head_adds s (image name digits) next fine e =
    let g = unguarded (has_step s) _ Late next e in
    let f = unguarded (is_image name s) _ Repeat next g.1 in
    let is : and_image name digits s ≡ next = line_same (and_image name digits s) next f.1 in
    record {
      first = g.0;
      fine = subst IsFine is (record {
        images_differ = names_push image_name s.images (image_of name digits) fine.images_differ (new_of image_name name s.images f.0);
        chains_differ = fine.chains_differ;
        few = fine.few;
        within = fine.within;
      });
      next_is = sym is;
    }
head_adds s (chain name adds) next fine e =
    let g = unguarded (has_step s) _ Late next e in
    let f = unguarded (is_chain name s) _ Repeat next g.1 in
    let r = guarded (nat_lt (length s.chains) 64) _ Many next f.1 in
    let is : and_chain name adds s ≡ next = line_same (and_chain name adds s) next r.1 in
    let below = ltb-true (length s.chains) 64 r.0 in
    record {
      first = g.0;
      fine = subst IsFine is (record {
        images_differ = fine.images_differ;
        chains_differ = names_push chain_name s.chains (head_of name adds) fine.chains_differ (new_of chain_name name s.chains f.0);
        few = omega (arith, below, length_push s.chains (head_of name adds));
        within = fine.within;
      });
      next_is = sym is;
    }

-- a step that is taken
record AddsStep (s : ScheduleValue) (x : LineStep) (next : ScheduleValue) : Type 0 where
  plan : Plan
  meant : plan_in s.chains x ≡ Some plan
  fine : IsFine next
  next_is : next ≡ and_plan plan s

step_adds : (s : ScheduleValue) (x : LineStep) (next : ScheduleValue) → IsFine s → after_value s (step x) ≡ Ok next → AddsStep s x next
step_adds s x next fine e = by_plan (plan_in s.chains x) refl e
  where
    by_plan : (o : Option Plan) → plan_in s.chains x ≡ o → with_plan o s ≡ Ok next → AddsStep s x next
    by_plan None meant gives = absurd (fault_ok Unknown next gives)
    by_plan (Some plan) meant gives =
        let g = guarded (nat_le (step_count s.plans + step_size plan) 1000000) _ Many next gives in
        let is : and_plan plan s ≡ next = line_same (and_plan plan s) next g.1 in
        let room = leb-true (step_count s.plans + step_size plan) 1000000 g.0 in
        record {
          plan = plan;
          meant = meant;
          fine = subst IsFine is (record {
            images_differ = fine.images_differ;
            chains_differ = fine.chains_differ;
            few = fine.few;
            within = subst (λ n. n ≤ 1000000) (sym (sum_by_push step_size s.plans plan)) room;
          });
          next_is = sym is;
        }

-- ---- What is read is said

-- what lines behind a schedule say, where they give another
record SaysMore (s : ScheduleValue) (lines : List (List ℕ)) (t : ScheduleValue) : Type 0 where
  heads : List LineHead
  steps : List LineStep
  more : List Plan
  texts : kept_lines lines ≡ map head_spelling heads ++ map step_spelling steps
  heads_are : AllByRecursion IsHead heads
  steps_are : AllByRecursion IsLineStep steps
  first : has_step s ≡ true → heads ≡ []
  images : t.images ≡ s.images ++ images_in heads
  chains : t.chains ≡ s.chains ++ chains_in heads
  plans : t.plans ≡ s.plans ++ more
  meant : map (plan_in t.chains) steps ≡ map Some more
  fine : IsFine t

says_no_more : (s : ScheduleValue) → IsFine s → SaysMore s [] s
says_no_more s fine =
    record {
      heads = [];
      steps = [];
      more = [];
      texts = refl;
      heads_are = tt;
      steps_are = tt;
      first = λ some. refl;
      images = sym (append-nil s.images);
      chains = sym (append-nil s.chains);
      plans = sym (append-nil s.plans);
      meant = refl;
      fine = fine;
    }

says_skipped : (s : ScheduleValue) (line : List ℕ) (lines : List (List ℕ)) (t : ScheduleValue) → is_skipped line ≡ true → SaysMore s lines t → SaysMore s (line ∷ lines) t
says_skipped s line lines t skipped r =
    record {
      heads = r.heads;
      steps = r.steps;
      more = r.more;
      texts = kept_skipping line lines skipped ∙ r.texts;
      heads_are = r.heads_are;
      steps_are = r.steps_are;
      first = r.first;
      images = r.images;
      chains = r.chains;
      plans = r.plans;
      meant = r.meant;
      fine = r.fine;
    }

images_head : (h : LineHead) (s : ScheduleValue) (heads : List LineHead) → (and_head h s).images ++ images_in heads ≡ s.images ++ images_in (h ∷ heads)
images_head (image name digits) s heads = append_assoc s.images (image_of name digits ∷ []) (images_in heads)
images_head (chain name adds) s heads = refl

chains_head : (h : LineHead) (s : ScheduleValue) (heads : List LineHead) → (and_head h s).chains ++ chains_in heads ≡ s.chains ++ chains_in (h ∷ heads)
chains_head (image name digits) s heads = refl
chains_head (chain name adds) s heads = append_assoc s.chains (head_of name adds ∷ []) (chains_in heads)

plans_head : (h : LineHead) (s : ScheduleValue) → (and_head h s).plans ≡ s.plans
plans_head (image name digits) s = refl
plans_head (chain name adds) s = refl

says_head : (s : ScheduleValue) (line : List ℕ) (lines : List (List ℕ)) (t : ScheduleValue) (h : LineHead) → is_skipped line ≡ false → Says line (head h) → has_step s ≡ false
    → SaysMore (and_head h s) lines t → SaysMore s (line ∷ lines) t
says_head s line lines t h kept says first r =
    record {
      heads = h ∷ r.heads;
      steps = r.steps;
      more = r.more;
      texts = kept_more line lines kept ∙ (ap (λ l. l ∷ kept_lines lines) says.1 ∙ ap (λ ls. head_spelling h ∷ ls) r.texts);
      heads_are = (says.0, r.heads_are);
      steps_are = r.steps_are;
      first = λ some. absurd (false≢true (sym first ∙ some));
      images = r.images ∙ images_head h s r.heads;
      chains = r.chains ∙ chains_head h s r.heads;
      plans = r.plans ∙ ap (λ ps. ps ++ r.more) (plans_head h s);
      meant = r.meant;
      fine = r.fine;
    }

-- a schedule with one more step has a step
has_more : (s : ScheduleValue) (plan : Plan) → has_step (and_plan plan s) ≡ true
has_more s plan = lt-ltb 0 (length (s.plans ++ plan ∷ [])) (omega (arith, length_push s.plans plan))

says_step : (s : ScheduleValue) (line : List ℕ) (lines : List (List ℕ)) (t : ScheduleValue) (x : LineStep) (plan : Plan) → is_skipped line ≡ false → Says line (step x)
    → plan_in s.chains x ≡ Some plan → SaysMore (and_plan plan s) lines t → SaysMore s (line ∷ lines) t
says_step s line lines t x plan kept says meant r =
    let none : r.heads ≡ [] = r.first (has_more s plan) in
    let images : t.images ≡ s.images ++ [] = r.images ∙ ap (λ hs. s.images ++ images_in hs) none in
    let chains : t.chains ≡ s.chains ++ [] = r.chains ∙ ap (λ hs. s.chains ++ chains_in hs) none in
    record {
      heads = [];
      steps = x ∷ r.steps;
      more = plan ∷ r.more;
      texts = kept_more line lines kept ∙ (ap (λ l. l ∷ kept_lines lines) says.1
          ∙ ap (λ ls. step_spelling x ∷ ls) (r.texts ∙ ap (λ hs. map head_spelling hs ++ map step_spelling r.steps) none));
      heads_are = tt;
      steps_are = (says.0, r.steps_are);
      first = λ some. refl;
      images = images;
      chains = chains;
      plans = r.plans ∙ append_assoc s.plans (plan ∷ []) r.more;
      meant = ap (λ p. p ∷ map (plan_in t.chains) r.steps) (ap (λ cs. plan_in cs x) (chains ∙ append-nil s.chains) ∙ meant) ∙ ap (λ ps. Some plan ∷ ps) r.meant;
      fine = r.fine;
    }

-- a value of a line that isn't skipped, before lines that say more
value_says : (s : ScheduleValue) (line : List ℕ) (lines : List (List ℕ)) (t : ScheduleValue) → IsFine s → is_skipped line ≡ false
    → (value : LineValue) → Says line value → (next : ScheduleValue) → after_value s value ≡ Ok next → (IsFine next → SaysMore next lines t) → SaysMore s (line ∷ lines) t
value_says s line lines t fine kept (head h) says next gives later =
    let a = head_adds s h next fine gives in
    says_head s line lines t h kept says a.first (subst (λ n. SaysMore n lines t) a.next_is (later a.fine))
value_says s line lines t fine kept (step x) says next gives later =
    let a = step_adds s x next fine gives in
    says_step s line lines t x a.plan kept says a.meant (subst (λ n. SaysMore n lines t) a.next_is (later a.fine))

lines_say : (number : ℕ) (s : ScheduleValue) (lines : List (List ℕ)) (t : ScheduleValue) → IsFine s → after_lines number s lines ≡ Ok t → SaysMore s lines t
lines_say number s [] t fine e = subst (SaysMore s []) (ok_same s t e) (says_no_more s fine)
lines_say number s (line ∷ lines) t fine e =
    let m = goes_on (λ next. after_lines (number + 1) next lines) (after_line s line) number t e in
    elim (cases_Bool (is_skipped line)) [
      | inl skipped ↦
          let same : s ≡ m.0 = line_same s m.0 (sym (skipping s line skipped) ∙ m.1) in
          says_skipped s line lines t skipped (lines_say (number + 1) s lines t fine (subst (λ n. after_lines (number + 1) n lines ≡ Ok t) (sym same) m.2))
      | inr kept ↦
          let f = follows s line m.0 kept m.1 in
          value_says s line lines t fine kept f.value f.says m.0 f.gives (λ next_fine. lines_say (number + 1) m.0 lines t next_fine m.2)
    ]

-- a schedule that is read is what the file says
said : (file : List ℕ) (s : ScheduleValue) → schedule_of file ≡ Ok s → Accepts file s
said file s e =
    let r = lines_say 1 nothing (lines_of file) s nothing_fine e in
    record {
      heads = r.heads;
      steps = r.steps;
      lines = r.texts;
      heads_are = r.heads_are;
      steps_are = r.steps_are;
      images = r.images;
      chains = r.chains;
      plans = r.meant ∙ ap (map Some) (sym r.plans);
      images_differ = r.fine.images_differ;
      chains_differ = r.fine.chains_differ;
      few = r.fine.few;
      within = r.fine.within;
    }

-- ---- What is said is read

-- a step whose place is there, and for which there is room
step_taken : (s : ScheduleValue) (line : List ℕ) (x : LineStep) (plan : Plan) → Says line (step x) → plan_in s.chains x ≡ Some plan
    → step_count (s.plans ++ plan ∷ []) ≤ 1000000 → after_line s line ≡ Ok (and_plan plan s)
step_taken s line x plan says meant room =
    taking s line (step x) says
    ∙ (ap (λ o. with_plan o s) meant
    ∙ cond-true (nat_le (step_count s.plans + step_size plan) 1000000) _ _ (le-leb (step_count s.plans + step_size plan) 1000000 (subst (λ n. n ≤ 1000000) (sum_by_push step_size s.plans plan) room)))

front_room : (plans more : List Plan) (plan : Plan) → step_count (plans ++ plan ∷ more) ≤ 1000000 → step_count (plans ++ plan ∷ []) ≤ 1000000
front_room plans more plan room =
    omega (arith, sum_by-append step_size plans (plan ∷ more), sum_by-cons step_size plan more, sum_by_push step_size plans plan)

-- lines of steps behind a schedule, which lead to another
record StepsLead (s : ScheduleValue) (lines : List (List ℕ)) (steps : List LineStep) (plans : List Plan) (t : ScheduleValue) : Type 0 where
  texts : kept_lines lines ≡ map step_spelling steps
  steps_are : AllByRecursion IsLineStep steps
  meant : map (plan_in s.chains) steps ≡ map Some plans
  images : t.images ≡ s.images
  chains : t.chains ≡ s.chains
  plans_are : t.plans ≡ s.plans ++ plans
  within : step_count t.plans ≤ 1000000

-- a line that isn't skipped, before lines of steps
step_leads : (number : ℕ) (s : ScheduleValue) (line : List ℕ) (lines : List (List ℕ)) (steps : List LineStep) (plans : List Plan) (t : ScheduleValue)
    → is_skipped line ≡ false → StepsLead s (line ∷ lines) steps plans t
    → ((next : ScheduleValue) (xs : List LineStep) (ps : List Plan) → StepsLead next lines xs ps t → after_lines (number + 1) next lines ≡ Ok t)
    → after_lines number s (line ∷ lines) ≡ Ok t
step_leads number s line lines [] plans t kept m later = absurd (nil_cons line (kept_lines lines) (sym m.texts ∙ kept_more line lines kept))
step_leads number s line lines (x ∷ xs) [] t kept m later = absurd (nil_cons (plan_in s.chains x) (map (plan_in s.chains) xs) (sym m.meant))
step_leads number s line lines (x ∷ xs) (p ∷ ps) t kept m later =
    let both = cons_parts line (step_spelling x) (kept_lines lines) (map step_spelling xs) (sym (kept_more line lines kept) ∙ m.texts) in
    let meant = cons_parts (plan_in s.chains x) (Some p) (map (plan_in s.chains) xs) (map Some ps) m.meant in
    let room : step_count (s.plans ++ p ∷ ps) ≤ 1000000 = subst (λ qs. step_count qs ≤ 1000000) m.plans_are m.within in
    one_line number s (and_plan p s) line lines (step_taken s line x p (m.steps_are.0, both.0) meant.0 (front_room s.plans ps p room))
    ∙ later (and_plan p s) xs ps (record {
      texts = both.1;
      steps_are = m.steps_are.1;
      meant = meant.1;
      images = m.images;
      chains = m.chains;
      plans_are = m.plans_are ∙ sym (append_assoc s.plans (p ∷ []) ps);
      within = m.within;
    })

steps_taken : (number : ℕ) (s : ScheduleValue) (lines : List (List ℕ)) (steps : List LineStep) (plans : List Plan) (t : ScheduleValue)
    → StepsLead s lines steps plans t → after_lines number s lines ≡ Ok t
steps_taken number s [] [] [] t l = ap Ok (same_parts s t (sym l.images) (sym l.chains) (sym (l.plans_are ∙ append-nil s.plans)))
steps_taken number s [] [] (plan ∷ plans) t l = absurd (nil_cons (Some plan) (map Some plans) l.meant)
steps_taken number s [] (x ∷ steps) plans t l = absurd (nil_cons (step_spelling x) (map step_spelling steps) l.texts)
steps_taken number s (line ∷ lines) steps plans t l =
    elim (cases_Bool (is_skipped line)) [
      | inl skipped ↦ one_line number s s line lines (skipping s line skipped)
          ∙ steps_taken (number + 1) s lines steps plans t (record {
            texts = sym (kept_skipping line lines skipped) ∙ l.texts;
            steps_are = l.steps_are;
            meant = l.meant;
            images = l.images;
            chains = l.chains;
            plans_are = l.plans_are;
            within = l.within;
          })
      | inr kept ↦ step_leads number s line lines steps plans t kept l (λ next xs ps m. steps_taken (number + 1) next lines xs ps t m)
    ]

-- lines of a header and of steps behind a schedule without a step, which lead to another
record HeadsLead (s : ScheduleValue) (lines : List (List ℕ)) (heads : List LineHead) (steps : List LineStep) (plans : List Plan) (t : ScheduleValue) : Type 0 where
  first : s.plans ≡ []
  texts : kept_lines lines ≡ map head_spelling heads ++ map step_spelling steps
  heads_are : AllByRecursion IsHead heads
  steps_are : AllByRecursion IsLineStep steps
  meant : map (plan_in t.chains) steps ≡ map Some plans
  images : t.images ≡ s.images ++ images_in heads
  chains : t.chains ≡ s.chains ++ chains_in heads
  plans_are : t.plans ≡ plans
  fine : IsFine t

-- a name of one more item is new
new_name : {A : Type 0} (name_in : A → List ℕ) (items more all : List A) (item : A) → AreDistinct (map name_in all) → all ≡ items ++ item ∷ more
    → IsNew (name_in item) (map name_in items)
new_name name_in items more all item are is =
    distinct_front (map name_in items) (map name_in more) (name_in item)
    (subst AreDistinct (ap (map name_in) is ∙ map-append name_in items (item ∷ more)) are)

no_step : (s : ScheduleValue) → s.plans ≡ [] → has_step s ≡ false
no_step s none = ap (λ ps. nat_lt 0 (length ps)) none

head_taken : (s : ScheduleValue) (h : LineHead) (heads : List LineHead) (t : ScheduleValue) → s.plans ≡ [] → t.images ≡ s.images ++ images_in (h ∷ heads)
    → t.chains ≡ s.chains ++ chains_in (h ∷ heads) → IsFine t → after_head s h ≡ Ok (and_head h s)
head_taken s (image name digits) heads t none images chains fine =
    cond-false (has_step s) _ _ (no_step s none)
    ∙ cond-false (is_image name s) _ _ (none_of image_name name s.images (new_name image_name s.images (images_in heads) t.images (image_of name digits) fine.images_differ images))
head_taken s (chain name adds) heads t none images chains fine =
    let few : length s.chains < 64 = omega (arith, fine.few, ap length chains, length-append s.chains (head_of name adds ∷ chains_in heads)) in
    cond-false (has_step s) _ _ (no_step s none)
    ∙ (cond-false (is_chain name s) _ _ (none_of chain_name name s.chains (new_name chain_name s.chains (chains_in heads) t.chains (head_of name adds) fine.chains_differ chains))
    ∙ cond-true (nat_lt (length s.chains) 64) _ _ (lt-ltb (length s.chains) 64 few))

-- a line that isn't skipped, before lines of a header and of steps
head_leads : (number : ℕ) (s : ScheduleValue) (line : List ℕ) (lines : List (List ℕ)) (h : LineHead) (heads : List LineHead) (steps : List LineStep) (plans : List Plan) (t : ScheduleValue)
    → is_skipped line ≡ false → HeadsLead s (line ∷ lines) (h ∷ heads) steps plans t
    → ((next : ScheduleValue) → HeadsLead next lines heads steps plans t → after_lines (number + 1) next lines ≡ Ok t)
    → after_lines number s (line ∷ lines) ≡ Ok t
head_leads number s line lines h heads steps plans t kept m later =
    let both = cons_parts line (head_spelling h) (kept_lines lines) (map head_spelling heads ++ map step_spelling steps) (sym (kept_more line lines kept) ∙ m.texts) in
    one_line number s (and_head h s) line lines (taking s line (head h) (m.heads_are.0, both.0) ∙ head_taken s h heads t m.first m.images m.chains m.fine)
    ∙ later (and_head h s) (record {
      first = plans_head h s ∙ m.first;
      texts = both.1;
      heads_are = m.heads_are.1;
      steps_are = m.steps_are;
      meant = m.meant;
      images = m.images ∙ sym (images_head h s heads);
      chains = m.chains ∙ sym (chains_head h s heads);
      plans_are = m.plans_are;
      fine = m.fine;
    })

-- no line of a header is left
steps_left : (s : ScheduleValue) (lines : List (List ℕ)) (steps : List LineStep) (plans : List Plan) (t : ScheduleValue) → HeadsLead s lines [] steps plans t → StepsLead s lines steps plans t
steps_left s lines steps plans t m =
    let chains : t.chains ≡ s.chains = m.chains ∙ append-nil s.chains in
    record {
      texts = m.texts;
      steps_are = m.steps_are;
      meant = ap (λ cs. map (plan_in cs) steps) (sym chains) ∙ m.meant;
      images = m.images ∙ append-nil s.images;
      chains = chains;
      plans_are = m.plans_are ∙ ap (λ ps. ps ++ plans) (sym m.first);
      within = m.fine.within;
    }

heads_taken : (number : ℕ) (s : ScheduleValue) (lines : List (List ℕ)) (heads : List LineHead) (steps : List LineStep) (plans : List Plan) (t : ScheduleValue)
    → HeadsLead s lines heads steps plans t → after_lines number s lines ≡ Ok t
heads_taken number s lines [] steps plans t m = steps_taken number s lines steps plans t (steps_left s lines steps plans t m)
heads_taken number s [] (h ∷ heads) steps plans t m = absurd (nil_cons (head_spelling h) (map head_spelling heads ++ map step_spelling steps) m.texts)
heads_taken number s (line ∷ lines) (h ∷ heads) steps plans t m =
    elim (cases_Bool (is_skipped line)) [
      | inl skipped ↦ one_line number s s line lines (skipping s line skipped)
          ∙ heads_taken (number + 1) s lines (h ∷ heads) steps plans t (record {
            first = m.first;
            texts = sym (kept_skipping line lines skipped) ∙ m.texts;
            heads_are = m.heads_are;
            steps_are = m.steps_are;
            meant = m.meant;
            images = m.images;
            chains = m.chains;
            plans_are = m.plans_are;
            fine = m.fine;
          })
      | inr kept ↦ head_leads number s line lines h heads steps plans t kept m (λ next n. heads_taken (number + 1) next lines heads steps plans t n)
    ]

-- what the file says is read
taken : (file : List ℕ) (s : ScheduleValue) → Accepts file s → schedule_of file ≡ Ok s
taken file s a =
    heads_taken 1 nothing (lines_of file) a.heads a.steps s.plans s (record {
      first = refl;
      texts = a.lines;
      heads_are = a.heads_are;
      steps_are = a.steps_are;
      meant = a.plans;
      images = a.images;
      chains = a.chains;
      plans_are = refl;
      fine = record { images_differ = a.images_differ; chains_differ = a.chains_differ; few = a.few; within = a.within };
    })

pub reads_what_is_said : ReadsWhatIsSaid
reads_what_is_said file s = (said file s, taken file s)

-- so the steps of a schedule that is read are those that its chains can have
pub steps_within : (file : List ℕ) (s : ScheduleValue) → schedule_of file ≡ Ok s → AreSteps s.chains s.plans
steps_within file s e = let a = (reads_what_is_said file s).0 e in (steps_are s.chains a.steps s.plans a.steps_are a.plans, a.within)

-- and so at the end of the file
pub steps_at_end : (file rest : List ℕ) (number : ℕ) (s : ScheduleValue) → schedule_of file ≡ after_lines number s (lines_of rest) → length rest ≡ 0 → AreSteps s.chains s.plans
steps_at_end file rest number s read end = steps_within file s (read ∙ ap (λ t. after_lines number s (lines_of t)) (nil_from_length rest end))

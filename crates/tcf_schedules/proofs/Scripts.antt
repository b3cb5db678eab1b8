-- What a script's lines say is read.
use Rattle.std.proofs.Common.{◌≡◌, ◌≢◌, ℕ, ◌+◌, false, not, List, [], ◌∷◌, ◌++◌, map, length, refl, sym, ◌∙◌, ap, subst, arith, inl, inr, append_assoc}
use Rattle.std.specs.Prelude.{Option, Some, None, option_map, Result, Ok, Err, IsSome, bytes_eq}
use Rattle.std.specs.List.{AllByRecursion}
use Rattle.std.proofs.lemmas.Bool.{cases_Bool, cond-true, cond-false, false≢true}
use Rattle.std.proofs.lemmas.List.{map-append}
use Rattle.std.proofs.lemmas.List.Elements.{filter-append}
use Rattle.std.proofs.lemmas.Option.{none-some}
use Rattle.tcf_values.specs.Cut.{cut_of}
use Rattle.tcf_values.specs.CutLaws.{cut_found}
use Rattle.tcf_values.specs.OptionLaws.{some_same, and_then_found, map_found}
use Rattle.line_words.specs.Words.{spaced, both, word_of}
use Rattle.line_words.specs.Exact.{guarded, two_ways, same_bytes, made}
use Rattle.cached_lines.specs.declared.what.CachedWhat.{CachedWhat}
use Rattle.cached_lines.specs.Asked.{IsAsked, cached_spelling}
use Rattle.cached_lines.specs.Reading.{cached_of}
use Rattle.tcf_schedules.specs.declared.schedule.TextFault.{TextFault}
use Rattle.tcf_schedules.specs.declared.schedule.TextFault.TheVariants.{Form}
use Rattle.tcf_schedules.specs.declared.script.ScriptLine.{ScriptLine}
use Rattle.tcf_schedules.specs.Line.{send_word, cached_word, close_word}
use Rattle.tcf_schedules.specs.Reading.{command_of}
use Rattle.tcf_schedules.specs.Refusal.{BadLine}
use Rattle.tcf_schedules.specs.Schedule.{lines_of, is_skipped, kept_lines}
use Rattle.tcf_schedules.specs.Script.{ScriptLineValue, sends, waits, asks, closes, IsScriptLine, wait_word, script_spelling, SaysInScript, script_sending, script_behind, script_value_of, script_line, added_by, before, from_line, script_from, script_of, SaysScript, IsFirstBadOfScript, ScriptWantsMemory, IsFit, ReadsTheScriptLine, ReadsTheScript, RefusesTheScript, ScriptsAreFit}
use Rattle.tcf_schedules.proofs.Schedules.{kept_skipping, kept_more}
use Rattle.tcf_schedules.proofs.Steps.{word_no_zero}
use Rattle.tcf_schedules.proofs.Values.{Serving, GoodServing, serving_text, serving_exact, cached_exact}
use Rattle.tcf_schedules.proofs.FirstBad.{bad_at}
use Rattle.list_laws.proofs.Lists.{nil_cons, cons_parts}

-- ---- What one line says

behind_found : (word rest : List ℕ) (value : ScriptLineValue) → script_behind word rest ≡ Some value → IsScriptLine value × (spaced word rest ≡ script_spelling value)
unfolding script_behind
behind_found word rest value e =
    elim (two_ways (bytes_eq word send_word) (option_map script_sending (both word_of command_of rest)) _ value e) [
      | inl w ↦ made Serving ScriptLineValue (both word_of command_of) GoodServing serving_text script_sending IsScriptLine script_spelling word send_word rest value serving_exact
          (λ y g. (g.0, g.1.0, g.1.1)) (λ y. refl) w.0 w.1
      | inr e ↦
          let g = guarded (bytes_eq word cached_word) (option_map asks (cached_of rest)) value e in
          made CachedWhat ScriptLineValue cached_of IsAsked cached_spelling asks IsScriptLine script_spelling word cached_word rest value cached_exact
          (λ y g. g) (λ y. refl) g.0 g.1
    ]

value_found : (line : List ℕ) (value : ScriptLineValue) → script_value_of line ≡ Some value → SaysInScript line value
unfolding script_value_of
value_found line value e =
    elim (two_ways (bytes_eq line wait_word) (Some waits) _ value e) [
      | inl w ↦ subst (SaysInScript line) (some_same waits value w.1) (tt, same_bytes line wait_word w.0)
      | inr e ↦ elim (two_ways (bytes_eq line close_word) (Some closes) _ value e) [
        | inl w ↦ subst (SaysInScript line) (some_same closes value w.1) (tt, same_bytes line close_word w.0)
        | inr e ↦
            let m = and_then_found (λ parts. script_behind parts.0 parts.1) (cut_of 32 line) value e in
            subst (λ t. SaysInScript t value) (sym (cut_found 32 line m.0 m.1)) (behind_found m.0.0 m.0.1 value m.2)
      ]
    ]

value_there : (value : ScriptLineValue) → IsScriptLine value → script_value_of (script_spelling value) ≡ Some value
unfolding script_value_of script_behind wait_word send_word cached_word close_word
value_there (sends service command args) good = ap (option_map script_sending) (serving_exact.there (service, (command, args)) (good.0, (good.1, good.2)))
value_there waits good = refl
value_there (asks what) good = ap (option_map asks) (cached_exact.there what good)
value_there closes good = refl

pub reads_the_script_line : ReadsTheScriptLine
reads_the_script_line line value =
    (value_found line value, λ says. subst (λ t. script_value_of t ≡ Some value) (sym says.1) (value_there value says.0))

-- the text of a value is no line that is skipped
text_kept : (value : ScriptLineValue) → is_skipped (script_spelling value) ≡ false
unfolding wait_word send_word cached_word close_word
text_kept (sends service command args) = refl
text_kept waits = refl
text_kept (asks what) = refl
text_kept closes = refl

-- ---- What one line adds

-- a line that is a value's text
adds_value : (line : List ℕ) (value : ScriptLineValue) → SaysInScript line value → added_by line ≡ Some (script_line value ∷ [])
adds_value line value says =
    cond-false (is_skipped line) _ _ (ap is_skipped says.1 ∙ text_kept value) ∙ ap (option_map (λ v. script_line v ∷ [])) ((reads_the_script_line line value).1 says)

adds_none : (line : List ℕ) → is_skipped line ≡ false → ((value : ScriptLineValue) → SaysInScript line value → ⊥) → added_by line ≡ None
adds_none line kept none = cond-false (is_skipped line) _ _ kept ∙ by_value (script_value_of line) refl
  where
    by_value : (o : Option ScriptLineValue) → script_value_of line ≡ o → option_map (λ v. script_line v ∷ []) o ≡ None
    by_value None is = refl
    by_value (Some value) is = absurd (none value ((reads_the_script_line line value).0 is))

-- a line that adds nothing, since it says nothing
bad_line : (line : List ℕ) → added_by line ≡ None → (is_skipped line ≡ false) × ((value : ScriptLineValue) → SaysInScript line value → ⊥)
bad_line line e =
    elim (cases_Bool (is_skipped line)) [
      | inl skipped ↦ absurd (none-some [] (sym e ∙ cond-true (is_skipped line) _ _ skipped))
      | inr kept ↦ (kept, λ value says. none-some (script_line value ∷ []) (sym e ∙ adds_value line value says))
    ]

nothing_said : SaysScript [] []
nothing_said = record { values = []; texts = refl; values_are = tt; means = refl }

one_said : (line : List ℕ) (more : List ScriptLine) → added_by line ≡ Some more → SaysScript (line ∷ []) more
one_said line more e =
    elim (cases_Bool (is_skipped line)) [
      | inl skipped ↦ record {
        values = [];
        texts = kept_skipping line [] skipped;
        values_are = tt;
        means = sym (some_same [] more (sym (cond-true (is_skipped line) _ _ skipped) ∙ e));
      }
      | inr kept ↦
          let m = map_found (λ v. script_line v ∷ []) (script_value_of line) more (sym (cond-false (is_skipped line) _ _ kept) ∙ e) in
          let says = (reads_the_script_line line m.0).0 m.1 in
          record {
            values = m.0 ∷ [];
            texts = kept_more line [] kept ∙ ap (λ l. l ∷ []) says.1;
            values_are = (says.0, tt);
            means = sym m.2;
          }
    ]

all_both : {A : Type 0} (P : A → Type 0) (xs ys : List A) → AllByRecursion P xs → AllByRecursion P ys → AllByRecursion P (xs ++ ys)
all_both P [] ys first second = second
all_both P (x ∷ xs) ys first second = (first.0, all_both P xs ys first.1 second)

both_said : (front lines : List (List ℕ)) (script more : List ScriptLine) → SaysScript front script → SaysScript lines more → SaysScript (front ++ lines) (script ++ more)
both_said front lines script more first second =
    record {
      values = first.values ++ second.values;
      texts = filter-append (λ line. not (is_skipped line)) front lines
          ∙ (ap (λ t. t ++ kept_lines lines) first.texts
          ∙ (ap (λ t. map script_spelling first.values ++ t) second.texts ∙ sym (map-append script_spelling first.values second.values)));
      values_are = all_both IsScriptLine first.values second.values first.values_are second.values_are;
      means = ap (λ t. t ++ more) first.means ∙ (ap (λ t. map script_line first.values ++ t) second.means ∙ sym (map-append script_line first.values second.values));
    }

-- ---- What is read is said

ok_same : (a b : List ScriptLine) → ◌≡◌ {A = Result (List ScriptLine) BadLine} (Ok a) (Ok b) → a ≡ b
ok_same a b e = cc

err_ok : (bad : BadLine) (s : List ScriptLine) → ◌≡◌ {A = Result (List ScriptLine) BadLine} (Err bad) (Ok s) → ⊥
err_ok bad s e = cc

before_found : (front : List ScriptLine) (later : Result (List ScriptLine) BadLine) (s : List ScriptLine) → before front later ≡ Ok s → (more : List ScriptLine) × (later ≡ Ok more) × (s ≡ front ++ more)
before_found front (Ok more) s e = (more, refl, sym (ok_same (front ++ more) s e))
before_found front (Err bad) s e = absurd (err_ok bad s e)

line_found : (number : ℕ) (added : Option (List ScriptLine)) (later : Result (List ScriptLine) BadLine) (s : List ScriptLine) → from_line number added later ≡ Ok s
    → (front : List ScriptLine) × (more : List ScriptLine) × (added ≡ Some front) × (later ≡ Ok more) × (s ≡ front ++ more)
line_found number None later s e = absurd (err_ok _ s e)
line_found number (Some front) later s e = let m = before_found front later s e in (front, m.0, refl, m.1, m.2)

lines_say : (number : ℕ) (lines : List (List ℕ)) (s : List ScriptLine) → script_from number lines ≡ Ok s → SaysScript lines s
lines_say number [] s e = subst (SaysScript []) (ok_same [] s e) nothing_said
lines_say number (line ∷ lines) s e =
    let m = line_found number (added_by line) (script_from (number + 1) lines) s e in
    subst (SaysScript (line ∷ lines)) (sym m.4)
    (both_said (line ∷ []) lines m.0 m.1 (one_said line m.0 m.2) (lines_say (number + 1) lines m.1 m.3))

-- ---- What is said is read

-- a line that adds these, before lines that are read
one_line : (number : ℕ) (line : List ℕ) (lines : List (List ℕ)) (front more : List ScriptLine) → added_by line ≡ Some front → script_from (number + 1) lines ≡ Ok more
    → script_from number (line ∷ lines) ≡ Ok (front ++ more)
one_line number line lines front more adds read =
    ap (λ a. from_line number a (script_from (number + 1) lines)) adds ∙ ap (before front) read

value_read : (number : ℕ) (line : List ℕ) (lines : List (List ℕ)) (values : List ScriptLineValue) → is_skipped line ≡ false
    → kept_lines (line ∷ lines) ≡ map script_spelling values → AllByRecursion IsScriptLine values
    → ((rest : List ScriptLineValue) → kept_lines lines ≡ map script_spelling rest → AllByRecursion IsScriptLine rest → script_from (number + 1) lines ≡ Ok (map script_line rest))
    → script_from number (line ∷ lines) ≡ Ok (map script_line values)
value_read number line lines [] kept texts are later = absurd (nil_cons line (kept_lines lines) (sym texts ∙ kept_more line lines kept))
value_read number line lines (value ∷ values) kept texts are later =
    let parts = cons_parts line (script_spelling value) (kept_lines lines) (map script_spelling values) (sym (kept_more line lines kept) ∙ texts) in
    one_line number line lines (script_line value ∷ []) (map script_line values) (adds_value line value (are.0, parts.0)) (later values parts.1 are.1)

values_read : (number : ℕ) (lines : List (List ℕ)) (values : List ScriptLineValue) → kept_lines lines ≡ map script_spelling values
    → AllByRecursion IsScriptLine values → script_from number lines ≡ Ok (map script_line values)
values_read number [] [] texts are = refl
values_read number [] (value ∷ values) texts are = absurd (nil_cons (script_spelling value) (map script_spelling values) texts)
values_read number (line ∷ lines) values texts are =
    elim (cases_Bool (is_skipped line)) [
      | inl skipped ↦ one_line number line lines [] (map script_line values) (cond-true (is_skipped line) _ _ skipped)
          (values_read (number + 1) lines values (sym (kept_skipping line lines skipped) ∙ texts) are)
      | inr kept ↦ value_read number line lines values kept texts are (λ rest t a. values_read (number + 1) lines rest t a)
    ]

lines_read : (number : ℕ) (lines : List (List ℕ)) (s : List ScriptLine) → SaysScript lines s → script_from number lines ≡ Ok s
lines_read number lines s says = values_read number lines says.values says.texts says.values_are ∙ ap Ok (sym says.means)

pub reads_the_script : ReadsTheScript
reads_the_script file script = (lines_say 1 (lines_of file) script, lines_read 1 (lines_of file) script)

-- ---- The first bad line

ok_err : (s : List ScriptLine) (bad : BadLine) → ◌≡◌ {A = Result (List ScriptLine) BadLine} (Ok s) (Err bad) → ⊥
ok_err s bad e = cc

-- where the lines stop: those before the bad one, what they say, and the bad one
record Stops (number : ℕ) (lines : List (List ℕ)) (place : ℕ) (what : TextFault) : Type 0 where
  front : List (List ℕ)
  script : List ScriptLine
  says : SaysScript front script
  line : List ℕ
  rest : List (List ℕ)
  parts : lines ≡ front ++ line ∷ rest
  at : place ≡ number + length front
  adds : added_by line ≡ None
  form : what ≡ Form

same_bad : (number place : ℕ) (why what : TextFault) → ◌≡◌ {A = Result (List ScriptLine) BadLine} (Err (bad_at number why)) (Err (bad_at place what)) → (place ≡ number) × (what ≡ why)
same_bad number place why what e =
    let same : bad_at number why ≡ bad_at place what = cc in
    (sym (ap (λ (b : BadLine). b.line) same), sym (ap (λ (b : BadLine). b.what) same))

err_found : (front : List ScriptLine) (later : Result (List ScriptLine) BadLine) (bad : BadLine) → before front later ≡ Err bad → later ≡ Err bad
err_found front (Ok more) bad e = absurd (ok_err (front ++ more) bad e)
err_found front (Err other) bad e = e

-- a bad line, or one before a later one
stops_at : (number : ℕ) (line : List ℕ) (lines : List (List ℕ)) (place : ℕ) (what : TextFault) (added : Option (List ScriptLine)) → added_by line ≡ added
    → from_line number added (script_from (number + 1) lines) ≡ Err (bad_at place what)
    → (script_from (number + 1) lines ≡ Err (bad_at place what) → Stops (number + 1) lines place what) → Stops number (line ∷ lines) place what
stops_at number line lines place what None adds stop later =
    let same = same_bad number place Form what stop in
    record {
      front = [];
      script = [];
      says = nothing_said;
      line = line;
      rest = lines;
      parts = refl;
      at = omega (arith, same.0);
      adds = adds;
      form = same.1;
    }
stops_at number line lines place what (Some front) adds stop later =
    let r = later (err_found front (script_from (number + 1) lines) (bad_at place what) stop) in
    record {
      front = line ∷ r.front;
      script = front ++ r.script;
      says = both_said (line ∷ []) r.front front r.script (one_said line front adds) r.says;
      line = r.line;
      rest = r.rest;
      parts = ap (λ ls. line ∷ ls) r.parts;
      at = omega (arith, r.at);
      adds = r.adds;
      form = r.form;
    }

stops : (number : ℕ) (lines : List (List ℕ)) (place : ℕ) (what : TextFault) → script_from number lines ≡ Err (bad_at place what) → Stops number lines place what
stops number [] place what e = absurd (ok_err [] (bad_at place what) e)
stops number (line ∷ lines) place what e =
    stops_at number line lines place what (added_by line) refl e (λ stop. stops (number + 1) lines place what stop)

-- a bad line behind lines that are read
stopped : (number : ℕ) (front : List (List ℕ)) (s : List ScriptLine) (line : List ℕ) (rest : List (List ℕ)) → script_from number front ≡ Ok s → added_by line ≡ None
    → script_from number (front ++ line ∷ rest) ≡ Err (bad_at (number + length front) Form)
stopped number [] s line rest read none =
    let same : number ≡ number + 0 = omega arith in
    ap (λ a. from_line number a (script_from (number + 1) rest)) none ∙ ap (λ n. Err (bad_at n Form)) same
stopped number (first ∷ front) s line rest read none =
    let m = line_found number (added_by first) (script_from (number + 1) front) s read in
    let place : number + 1 + length front ≡ number + length (first ∷ front) = omega arith in
    ap (λ a. from_line number a (script_from (number + 1) (front ++ line ∷ rest))) m.2
    ∙ (ap (before m.0) (stopped (number + 1) front m.1 line rest m.3 none) ∙ ap (λ n. Err (bad_at n Form)) place)

first_bad : (lines : List (List ℕ)) (number : ℕ) (what : TextFault) → script_from 1 lines ≡ Err (bad_at number what) → IsFirstBadOfScript lines number × (what ≡ Form)
first_bad lines number what e =
    let r = stops 1 lines number what e in
    let is = bad_line r.line r.adds in (
      record {
        front = r.front;
        script = r.script;
        says = r.says;
        line = r.line;
        rest = r.rest;
        parts = r.parts;
        place = omega (arith, r.at);
        kept = is.0;
        none = is.1;
      },
      r.form,
    )

the_first : (lines : List (List ℕ)) (number : ℕ) (what : TextFault) → IsFirstBadOfScript lines number × (what ≡ Form) → script_from 1 lines ≡ Err (bad_at number what)
the_first lines number what is =
    let bad = is.0 in
    let place : 1 + length bad.front ≡ number = let p = bad.place in omega (arith, p) in
    ap (script_from 1) bad.parts
    ∙ (stopped 1 bad.front bad.script bad.line bad.rest (lines_read 1 bad.front bad.script bad.says) (adds_none bad.line bad.kept bad.none)
    ∙ (ap (λ n. Err (bad_at n Form)) place ∙ ap (λ w. Err (bad_at number w)) (sym is.1)))

pub refuses_the_script : RefusesTheScript
refuses_the_script file number what = (first_bad (lines_of file) number what, the_first (lines_of file) number what)

-- ---- The lines that a script can have

value_fit : (value : ScriptLineValue) → IsScriptLine value → IsFit (script_line value)
value_fit (sends service command args) good = (word_no_zero service good.0, word_no_zero command good.1)
value_fit waits good = tt
value_fit (asks what) good = good
value_fit closes good = tt

values_fit : (values : List ScriptLineValue) → AllByRecursion IsScriptLine values → AllByRecursion IsFit (map script_line values)
values_fit [] good = tt
values_fit (value ∷ values) good = (value_fit value good.0, values_fit values good.1)

said_fit : (lines : List (List ℕ)) (script : List ScriptLine) → SaysScript lines script → AllByRecursion IsFit script
said_fit lines script says = subst (AllByRecursion IsFit) (sym says.means) (values_fit says.values says.values_are)

pub scripts_are_fit : ScriptsAreFit
scripts_are_fit file script e = said_fit (lines_of file) script (lines_say 1 (lines_of file) script e)

-- ---- The lines of a file, one after the other

-- the file's lines up to a rest, and the script that they say
pub record ReachedScript (file : List ℕ) (script : List ScriptLine) (rest : List ℕ) : Type 0 where
  pub front : List (List ℕ)
  pub parts : lines_of file ≡ front ++ lines_of rest
  pub says : SaysScript front script

pub script_first : (file : List ℕ) → ReachedScript file [] file
script_first file = record { front = []; parts = refl; says = nothing_said }

pub read_first : (file : List ℕ) → script_of file ≡ before [] (script_from 1 (lines_of file))
read_first file = by_outcome (script_from 1 (lines_of file))
  where
    by_outcome : (later : Result (List ScriptLine) BadLine) → later ≡ before [] later
    by_outcome (Ok more) = refl
    by_outcome (Err bad) = refl

before_both : (script more : List ScriptLine) (later : Result (List ScriptLine) BadLine) → before script (before more later) ≡ before (script ++ more) later
before_both script more (Ok last) = ap Ok (sym (append_assoc script more last))
before_both script more (Err bad) = refl

-- what the line adds, put behind a script
put_last : (script : List ScriptLine) (line : List ℕ) (next : List ScriptLine) → option_map (λ more. script ++ more) (added_by line) ≡ Some next
    → (more : List ScriptLine) × (added_by line ≡ Some more) × (script ++ more ≡ next)
put_last script line next e = map_found (λ more. script ++ more) (added_by line) next e

-- one more line
pub script_next : (file : List ℕ) (number : ℕ) (script next : List ScriptLine) (rest line after : List ℕ) → script_of file ≡ before script (script_from (number + 1) (lines_of rest))
    → lines_of rest ≡ line ∷ lines_of after → option_map (λ more. script ++ more) (added_by line) ≡ Some next
    → script_of file ≡ before next (script_from (number + 1 + 1) (lines_of after))
script_next file number script next rest line after read is e =
    let m = put_last script line next e in
    let later = script_from (number + 1 + 1) (lines_of after) in
    read
    ∙ (ap (λ ls. before script (script_from (number + 1) ls)) is
    ∙ (ap (λ a. before script (from_line (number + 1) a later)) m.1 ∙ (before_both script m.0 later ∙ ap (λ s. before s later) m.2)))

pub reached_script : (file : List ℕ) (script next : List ScriptLine) (rest line after : List ℕ) → ReachedScript file script rest → lines_of rest ≡ line ∷ lines_of after
    → option_map (λ more. script ++ more) (added_by line) ≡ Some next → ReachedScript file next after
reached_script file script next rest line after r is e =
    let m = put_last script line next e in
    record {
      front = r.front ++ line ∷ [];
      parts = r.parts ∙ (ap (λ ls. r.front ++ ls) is ∙ sym (append_assoc r.front (line ∷ []) (lines_of after)));
      says = subst (SaysScript (r.front ++ line ∷ [])) m.2 (both_said r.front (line ∷ []) script m.0 r.says (one_said line m.0 m.1));
    }

pub reached_fit : (file : List ℕ) (script : List ScriptLine) (rest : List ℕ) → ReachedScript file script rest → AllByRecursion IsFit script
reached_fit file script rest r = said_fit r.front script r.says

some_more : {A : Type 0} (o : Option A) → IsSome o → (x : A) × (o ≡ Some x)
some_more (Some x) is = (x, refl)
some_more None is = absurd (false≢true is)

some_behind : (script : List ScriptLine) (first : ScriptLine) → script ++ first ∷ [] ≢ []
some_behind [] first e = nil_cons first [] (sym e)
some_behind (line ∷ script) first e = nil_cons line (script ++ first ∷ []) (sym e)

-- a line that isn't skipped and says something, and memory is wanting
pub script_wants : (file : List ℕ) (script : List ScriptLine) (rest line after : List ℕ) → ReachedScript file script rest → lines_of rest ≡ line ∷ lines_of after
    → is_skipped line ≡ false → IsSome (added_by line) → ScriptWantsMemory file
script_wants file script rest line after r is kept some =
    let o = some_more (added_by line) some in
    let m = map_found (λ v. script_line v ∷ []) (script_value_of line) o.0 (sym (cond-false (is_skipped line) _ _ kept) ∙ o.1) in
    record {
      front = r.front ++ line ∷ [];
      script = script ++ o.0;
      says = both_said r.front (line ∷ []) script o.0 r.says (one_said line o.0 o.1);
      rest = lines_of after;
      parts = r.parts ∙ (ap (λ ls. r.front ++ ls) is ∙ sym (append_assoc r.front (line ∷ []) (lines_of after)));
      some = subst (λ t. script ++ t ≢ []) m.2 (some_behind script (script_line m.0));
    }

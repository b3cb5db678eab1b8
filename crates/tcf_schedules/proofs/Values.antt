-- What a line says is read.
use Rattle.std.proofs.Common.{◌≡◌, ℕ, Bool, List, refl, sym, ◌∙◌, ap, inl, inr, subst, lit<, arith}
use Rattle.std.specs.Prelude.{Some, option_map, option_and_then, bytes_eq, decimal}
use Rattle.tcf_values.specs.Cut.{cut_of}
use Rattle.tcf_values.specs.Number.{number_of}
use Rattle.tcf_values.specs.Spelling.{context_spelling}
use Rattle.tcf_values.specs.CutLaws.{cut_found}
use Rattle.tcf_values.specs.OptionLaws.{and_then_found, map_found}
use Rattle.tcf_values.specs.declared.ids.ContextId.{ContextId}
use Rattle.line_words.specs.Words.{spaced, is_word, both, word_of}
use Rattle.line_words.specs.Exact.{IsExact, both_exact, guarded, two_ways, made, Passes, itself, word_exact, word_words, InRange, number_exact, number_words}
use Rattle.cached_lines.specs.declared.what.CachedWhat.{CachedWhat}
use Rattle.cached_lines.specs.Asked.{IsAsked, cached_spelling}
use Rattle.cached_lines.specs.Reading.{cached_of}
use Rattle.tcf_schedules.specs.Plan.{IsThread}
use Rattle.tcf_schedules.specs.Words.{is_name, is_numeral, is_hex_word}
use Rattle.tcf_schedules.specs.Line.{PlainStep, opens, sends, delivers, turns, ticks, closes, cuts, asks, LineStep, once, rounds, times, LineHead, image, chain, LineValue, head, step, IsPlainStep, IsLineStep, IsHead, IsLine, image_word, chain_word, open_word, send_word, deliver_word, turn_word, tick_word, close_word, cut_word, cached_word, rounds_word, times_word, direction_word, plain_spelling, step_spelling, head_spelling, spelling, Says}
use Rattle.tcf_schedules.specs.Reading.{name_of, numeral_of, hex_of, direction_of, thread_of, command_of, sending_of, sending, delivery_of, delivering, turning_of, turning, cutting_of, cutting, asking_of, asking, imaging_of, imaging, chaining_of, chaining, plain_behind, plain_of, repetition_of, repeating, step_behind, value_behind, value_of, ReadsTheText}
use Rattle.cached_lines.proofs.TheLaws.{cached_round_trip}
use Rattle.tcf_schedules.proofs.Grammar.{name_exact, numeral_exact, hex_exact, name_words, numeral_words, Always, direction_exact, direction_words, thread_exact, GoodCommand, command_text, command_exact}

-- ---- What stands behind the first word

abbrev Sending : Type 0
Sending = List ℕ × (List ℕ × (List ℕ × List (List ℕ)))

abbrev GoodSending : Sending → Type 0
GoodSending s = Passes is_name s.0 × (Passes is_word s.1.0 × GoodCommand s.1.1)

abbrev sending_text : Sending → List ℕ
sending_text s = spaced s.0 (spaced s.1.0 (command_text s.1.1))

-- a command behind its service
abbrev pub Serving : Type 0
Serving = List ℕ × (List ℕ × List (List ℕ))

abbrev pub GoodServing : Serving → Type 0
GoodServing s = Passes is_word s.0 × GoodCommand s.1

abbrev pub serving_text : Serving → List ℕ
serving_text s = spaced s.0 (command_text s.1)

pub serving_exact : IsExact Serving (both word_of command_of) GoodServing serving_text
serving_exact =
    both_exact (List ℕ) (List ℕ × List (List ℕ)) word_of command_of (Passes is_word) GoodCommand itself command_text word_exact word_words command_exact

sending_exact : IsExact Sending sending_of GoodSending sending_text
sending_exact =
    both_exact (List ℕ) Serving name_of (both word_of command_of) (Passes is_name) GoodServing itself serving_text name_exact name_words serving_exact

abbrev Arrival : Type 0
Arrival = List ℕ × (Bool × ℕ)

abbrev GoodArrival : Arrival → Type 0
GoodArrival a = Passes is_numeral a.0 × (Always a.1.0 × InRange 1 65536 a.1.1)

abbrev arrival_text : Arrival → List ℕ
arrival_text a = spaced a.0 (spaced (direction_word a.1.0) (decimal a.1.1))

arrival_exact : IsExact Arrival (both numeral_of (both direction_of (number_of 1 65536))) GoodArrival arrival_text
arrival_exact =
    both_exact (List ℕ) (Bool × ℕ) numeral_of (both direction_of (number_of 1 65536)) (Passes is_numeral) (λ a. Always a.0 × InRange 1 65536 a.1)
    itself (λ a. spaced (direction_word a.0) (decimal a.1)) numeral_exact numeral_words
    (both_exact Bool ℕ direction_of (number_of 1 65536) Always (InRange 1 65536) direction_word decimal direction_exact direction_words (number_exact 1 65536 (lit< tt)))

delivery_exact : IsExact (List ℕ × Arrival) delivery_of (λ d. Passes is_name d.0 × GoodArrival d.1) (λ d. spaced d.0 (arrival_text d.1))
delivery_exact =
    both_exact (List ℕ) Arrival name_of (both numeral_of (both direction_of (number_of 1 65536))) (Passes is_name) GoodArrival itself arrival_text
    name_exact name_words arrival_exact

abbrev GoodWay : List ℕ × Bool → Type 0
GoodWay w = Passes is_numeral w.0 × Always w.1

abbrev way_text : List ℕ × Bool → List ℕ
way_text w = spaced w.0 (direction_word w.1)

turning_exact : IsExact (List ℕ × (List ℕ × Bool)) turning_of (λ t. Passes is_name t.0 × GoodWay t.1) (λ t. spaced t.0 (way_text t.1))
turning_exact =
    both_exact (List ℕ) (List ℕ × Bool) name_of (both numeral_of direction_of) (Passes is_name) GoodWay itself way_text name_exact name_words
    (both_exact (List ℕ) Bool numeral_of direction_of (Passes is_numeral) Always itself direction_word numeral_exact numeral_words direction_exact)

cutting_exact : IsExact (List ℕ × List ℕ) cutting_of (λ c. Passes is_name c.0 × Passes is_numeral c.1) (λ c. spaced c.0 c.1)
cutting_exact = both_exact (List ℕ) (List ℕ) name_of numeral_of (Passes is_name) (Passes is_numeral) itself itself name_exact name_words numeral_exact

pub cached_exact : IsExact CachedWhat cached_of IsAsked cached_spelling
cached_exact =
    record {
      found = λ t what e. (cached_round_trip t what).0 e;
      there = λ what good. (cached_round_trip (cached_spelling what) what).1 (good, refl);
    }

asking_exact : IsExact (List ℕ × CachedWhat) asking_of (λ a. Passes is_name a.0 × IsAsked a.1) (λ a. spaced a.0 (cached_spelling a.1))
asking_exact =
    both_exact (List ℕ) CachedWhat name_of cached_of (Passes is_name) IsAsked itself cached_spelling name_exact name_words cached_exact

imaging_exact : IsExact (List ℕ × List ℕ) imaging_of (λ i. Passes is_name i.0 × Passes is_hex_word i.1) (λ i. spaced i.0 i.1)
imaging_exact = both_exact (List ℕ) (List ℕ) name_of hex_of (Passes is_name) (Passes is_hex_word) itself itself name_exact name_words hex_exact

chaining_exact : IsExact (List ℕ × ℕ) chaining_of (λ c. Passes is_name c.0 × InRange 0 16 c.1) (λ c. spaced c.0 (decimal c.1))
chaining_exact =
    both_exact (List ℕ) ℕ name_of (number_of 0 16) (Passes is_name) (InRange 0 16) itself decimal name_exact name_words (number_exact 0 16 (lit< tt))

-- ---- What is read is spelled so

abbrev SaysPlain : List ℕ → List ℕ → PlainStep → Type 0
SaysPlain word rest x = IsPlainStep x × (spaced word rest ≡ plain_spelling x)

plain_found : (word rest : List ℕ) (x : PlainStep) → plain_behind word rest ≡ Some x → SaysPlain word rest x
unfolding plain_behind
plain_found word rest x e =
    elim (two_ways (bytes_eq word open_word) (option_map opens (name_of rest)) _ x e) [
      | inl w ↦ made (List ℕ) PlainStep name_of (Passes is_name) itself opens IsPlainStep plain_spelling word open_word rest x name_exact (λ y g. g) (λ y. refl) w.0 w.1
      | inr e ↦ elim (two_ways (bytes_eq word send_word) (option_map sending (sending_of rest)) _ x e) [
        | inl w ↦ made Sending PlainStep sending_of GoodSending sending_text sending IsPlainStep plain_spelling word send_word rest x sending_exact
            (λ y g. (g.0, g.1.0, g.1.1.0, g.1.1.1)) (λ y. refl) w.0 w.1
        | inr e ↦ elim (two_ways (bytes_eq word deliver_word) (option_map delivering (delivery_of rest)) _ x e) [
          | inl w ↦ made (List ℕ × Arrival) PlainStep delivery_of (λ d. Passes is_name d.0 × GoodArrival d.1) (λ d. spaced d.0 (arrival_text d.1)) delivering IsPlainStep plain_spelling
              word deliver_word rest x delivery_exact (λ y g. (g.0, g.1.0, g.1.1.1.0, g.1.1.1.1)) (λ y. refl) w.0 w.1
          | inr e ↦ elim (two_ways (bytes_eq word turn_word) (option_map turning (turning_of rest)) _ x e) [
            | inl w ↦ made (List ℕ × (List ℕ × Bool)) PlainStep turning_of (λ t. Passes is_name t.0 × GoodWay t.1) (λ t. spaced t.0 (way_text t.1)) turning IsPlainStep plain_spelling
                word turn_word rest x turning_exact (λ y g. (g.0, g.1.0)) (λ y. refl) w.0 w.1
            | inr e ↦ elim (two_ways (bytes_eq word tick_word) (option_map ticks (thread_of rest)) _ x e) [
              | inl w ↦ made ContextId PlainStep thread_of IsThread context_spelling ticks IsPlainStep plain_spelling word tick_word rest x thread_exact (λ y g. g) (λ y. refl) w.0 w.1
              | inr e ↦ elim (two_ways (bytes_eq word close_word) (option_map closes (name_of rest)) _ x e) [
                | inl w ↦ made (List ℕ) PlainStep name_of (Passes is_name) itself closes IsPlainStep plain_spelling word close_word rest x name_exact (λ y g. g) (λ y. refl) w.0 w.1
                | inr e ↦ elim (two_ways (bytes_eq word cut_word) (option_map cutting (cutting_of rest)) _ x e) [
                  | inl w ↦ made (List ℕ × List ℕ) PlainStep cutting_of (λ c. Passes is_name c.0 × Passes is_numeral c.1) (λ c. spaced c.0 c.1) cutting IsPlainStep plain_spelling
                      word cut_word rest x cutting_exact (λ y g. g) (λ y. refl) w.0 w.1
                  | inr e ↦
                      let g = guarded (bytes_eq word cached_word) (option_map asking (asking_of rest)) x e in
                      made (List ℕ × CachedWhat) PlainStep asking_of (λ a. Passes is_name a.0 × IsAsked a.1) (λ a. spaced a.0 (cached_spelling a.1)) asking IsPlainStep plain_spelling
                      word cached_word rest x asking_exact (λ y g. g) (λ y. refl) g.0 g.1
                ]
              ]
            ]
          ]
        ]
      ]
    ]

-- a step's first word, and what stands behind it
first_of : PlainStep → List ℕ
first_of (opens name) = open_word
first_of (sends name service command args) = send_word
first_of (delivers name hop up count) = deliver_word
first_of (turns name node up) = turn_word
first_of (ticks thread) = tick_word
first_of (closes name) = close_word
first_of (cuts name hop) = cut_word
first_of (asks name what) = cached_word

rest_of : PlainStep → List ℕ
rest_of (opens name) = name
rest_of (sends name service command args) = sending_text (name, (service, (command, args)))
rest_of (delivers name hop up count) = spaced name (arrival_text (hop, (up, count)))
rest_of (turns name node up) = spaced name (way_text (node, up))
rest_of (ticks thread) = context_spelling thread
rest_of (closes name) = name
rest_of (cuts name hop) = spaced name hop
rest_of (asks name what) = spaced name (cached_spelling what)

plain_cut : (x : PlainStep) → cut_of 32 (plain_spelling x) ≡ Some (first_of x, rest_of x)
unfolding first_of rest_of open_word send_word deliver_word turn_word tick_word close_word cut_word cached_word
plain_cut (opens name) = refl
plain_cut (sends name service command args) = refl
plain_cut (delivers name hop up count) = refl
plain_cut (turns name node up) = refl
plain_cut (ticks thread) = refl
plain_cut (closes name) = refl
plain_cut (cuts name hop) = refl
plain_cut (asks name what) = refl

plain_read : (x : PlainStep) → IsPlainStep x → plain_behind (first_of x) (rest_of x) ≡ Some x
unfolding first_of rest_of plain_behind open_word send_word deliver_word turn_word tick_word close_word cut_word cached_word
plain_read (opens name) good = ap (option_map opens) (name_exact.there name good)
plain_read (sends name service command args) good =
    ap (option_map sending) (sending_exact.there (name, (service, (command, args))) (good.0, (good.1, (good.2, good.3))))
plain_read (delivers name hop up count) good =
    ap (option_map delivering) (delivery_exact.there (name, (hop, (up, count))) (good.0, (good.1, (tt, (good.2, good.3)))))
plain_read (turns name node up) good = ap (option_map turning) (turning_exact.there (name, (node, up)) (good.0, (good.1, tt)))
plain_read (ticks thread) good = ap (option_map ticks) (thread_exact.there thread good)
plain_read (closes name) good = ap (option_map closes) (name_exact.there name good)
plain_read (cuts name hop) good = ap (option_map cutting) (cutting_exact.there (name, hop) good)
plain_read (asks name what) good = ap (option_map asking) (asking_exact.there (name, what) good)

plain_there : (x : PlainStep) → IsPlainStep x → plain_of (plain_spelling x) ≡ Some x
plain_there x good = ap (option_and_then (λ parts. plain_behind parts.0 parts.1)) (plain_cut x) ∙ plain_read x good

plain_exact : IsExact PlainStep plain_of IsPlainStep plain_spelling
plain_exact =
    record {
      found = λ t x e.
          let m = and_then_found (λ parts. plain_behind parts.0 parts.1) (cut_of 32 t) x e in
          let f = plain_found m.0.0 m.0.1 x m.2 in
          (f.0, cut_found 32 t m.0 m.1 ∙ f.1);
      there = plain_there;
    }

repetition_exact : IsExact (ℕ × PlainStep) repetition_of (λ r. InRange 1 10000 r.0 × IsPlainStep r.1) (λ r. spaced (decimal r.0) (plain_spelling r.1))
repetition_exact =
    both_exact ℕ PlainStep (number_of 1 10000) plain_of (InRange 1 10000) IsPlainStep decimal plain_spelling
    (number_exact 1 10000 (lit< tt)) (number_words 1 10000 (lit< tt)) plain_exact

rounds_exact : IsExact ℕ (number_of 1 10000) (InRange 1 10000) decimal
rounds_exact = number_exact 1 10000 (lit< tt)

step_found : (word rest : List ℕ) (x : LineStep) → step_behind word rest ≡ Some x → IsLineStep x × (spaced word rest ≡ step_spelling x)
unfolding step_behind
step_found word rest x e =
    elim (two_ways (bytes_eq word rounds_word) (option_map rounds (number_of 1 10000 rest)) _ x e) [
      | inl w ↦ made ℕ LineStep (number_of 1 10000) (InRange 1 10000) decimal rounds IsLineStep step_spelling word rounds_word rest x rounds_exact (λ y g. g) (λ y. refl) w.0 w.1
      | inr e ↦ elim (two_ways (bytes_eq word times_word) (option_map repeating (repetition_of rest)) _ x e) [
        | inl w ↦ made (ℕ × PlainStep) LineStep repetition_of (λ r. InRange 1 10000 r.0 × IsPlainStep r.1) (λ r. spaced (decimal r.0) (plain_spelling r.1)) repeating IsLineStep step_spelling
            word times_word rest x repetition_exact (λ y g. (g.0.0, g.0.1, g.1)) (λ y. refl) w.0 w.1
        | inr e ↦
            let m = map_found once (plain_behind word rest) x e in
            subst (λ y. IsLineStep y × (spaced word rest ≡ step_spelling y)) m.2 (plain_found word rest m.0 m.1)
      ]
    ]

behind_found : (word rest : List ℕ) (value : LineValue) → value_behind word rest ≡ Some value → Says (spaced word rest) value
unfolding value_behind
behind_found word rest value e =
    elim (two_ways (bytes_eq word image_word) (option_map (λ i. head (imaging i)) (imaging_of rest)) _ value e) [
      | inl w ↦ made (List ℕ × List ℕ) LineValue imaging_of (λ i. Passes is_name i.0 × Passes is_hex_word i.1) (λ i. spaced i.0 i.1) (λ i. head (imaging i)) IsLine spelling
          word image_word rest value imaging_exact (λ y g. g) (λ y. refl) w.0 w.1
      | inr e ↦ elim (two_ways (bytes_eq word chain_word) (option_map (λ c. head (chaining c)) (chaining_of rest)) _ value e) [
        | inl w ↦ made (List ℕ × ℕ) LineValue chaining_of (λ c. Passes is_name c.0 × InRange 0 16 c.1) (λ c. spaced c.0 (decimal c.1)) (λ c. head (chaining c)) IsLine spelling
            word chain_word rest value chaining_exact (λ y g. (g.0, g.1.1)) (λ y. refl) w.0 w.1
        | inr e ↦
            let m = map_found step (step_behind word rest) value e in
            subst (λ v. Says (spaced word rest) v) m.2 (step_found word rest m.0 m.1)
      ]
    ]

-- what is read is spelled so
value_found : (line : List ℕ) (value : LineValue) → value_of line ≡ Some value → Says line value
value_found line value e =
    let m = and_then_found (λ parts. value_behind parts.0 parts.1) (cut_of 32 line) value e in
    subst (λ t. Says t value) (sym (cut_found 32 line m.0 m.1)) (behind_found m.0.0 m.0.1 value m.2)

-- ---- What is spelled so is read

value_cut : (line word rest : List ℕ) → cut_of 32 line ≡ Some (word, rest) → value_of line ≡ value_behind word rest
value_cut line word rest e = ap (option_and_then (λ parts. value_behind parts.0 parts.1)) e

head_there : (h : LineHead) → IsHead h → value_of (head_spelling h) ≡ Some (head h)
unfolding image_word chain_word value_behind
head_there (image name digits) good =
    value_cut (head_spelling (image name digits)) image_word (spaced name digits) refl ∙ ap (option_map (λ i. head (imaging i))) (imaging_exact.there (name, digits) good)
head_there (chain name adds) good =
    value_cut (head_spelling (chain name adds)) chain_word (spaced name (decimal adds)) refl
    ∙ ap (option_map (λ c. head (chaining c))) (chaining_exact.there (name, adds) (good.0, (omega arith, good.1)))

-- the first word of a step is none of those of other lines
over_others : (x : PlainStep) (rest : List ℕ) → value_behind (first_of x) rest ≡ option_map step (option_map once (plain_behind (first_of x) rest))
unfolding first_of value_behind step_behind image_word chain_word rounds_word times_word open_word send_word deliver_word turn_word tick_word close_word cut_word cached_word
over_others (opens name) rest = refl
over_others (sends name service command args) rest = refl
over_others (delivers name hop up count) rest = refl
over_others (turns name node up) rest = refl
over_others (ticks thread) rest = refl
over_others (closes name) rest = refl
over_others (cuts name hop) rest = refl
over_others (asks name what) rest = refl

step_there : (x : LineStep) → IsLineStep x → value_of (step_spelling x) ≡ Some (step x)
unfolding rounds_word times_word image_word chain_word value_behind step_behind
step_there (once x) good =
    value_cut (plain_spelling x) (first_of x) (rest_of x) (plain_cut x)
    ∙ (over_others x (rest_of x) ∙ ap (λ o. option_map step (option_map once o)) (plain_read x good))
step_there (rounds count) good =
    value_cut (step_spelling (rounds count)) rounds_word (decimal count) refl ∙ ap (λ o. option_map step (option_map rounds o)) (rounds_exact.there count good)
step_there (times count x) good =
    value_cut (step_spelling (times count x)) times_word (spaced (decimal count) (plain_spelling x)) refl
    ∙ ap (λ o. option_map step (option_map repeating o)) (repetition_exact.there (count, x) ((good.0, good.1), good.2))

value_there : (value : LineValue) → IsLine value → value_of (spelling value) ≡ Some value
value_there (head h) good = head_there h good
value_there (step x) good = step_there x good

pub reads_the_text : ReadsTheText
reads_the_text line value =
    (value_found line value, λ says. subst (λ t. value_of t ≡ Some value) (sym says.1) (value_there value says.0))

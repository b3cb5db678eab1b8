-- Each answer with a position to a storable command is what the target answers there, behind all commands before it that may change the target.
use Rattle.std.proofs.Common.{◌≡◌, ℕ, ◌+◌, ◌≤◌, ◌<◌, ◌^◌, nat_lt, Bool, true, false, true≢false, List, [], ◌∷◌, ◌++◌, drop, length, map, filter, take, Option, Some, None, refl, ap, ap₂, sym, ◌∙◌, subst, subst₂, arith, length-take-le, take-append-drop, ltb→lt, ltb-false, T}
use Rattle.std.specs.Prelude.{Contains, decimal}
use Rattle.std.specs.List.{AllByRecursion, flat_map}
use Rattle.std.proofs.lemmas.List.{append_assoc, take-append-le}
use Rattle.std.proofs.lemmas.List.Concat.{flat_map-append}
use Rattle.std.proofs.lemmas.List.Elements.{filter-append}
use Rattle.channel_core.specs.Arrivals.{Spoken}
use Rattle.client_node.specs.Runs.{tells}
use Rattle.command_tables.specs.Reading.{reading_of}
use Rattle.command_tables.specs.declared.reading.Reading.{Reading}
use Rattle.command_tables.specs.declared.reading.Reading.TheVariants as readings
use Rattle.knowledge.specs.Learning.{learned}
use Rattle.target_contexts.specs.declared.process.Image.{Image}
use Rattle.target_hub.specs.Fresh.{AreBehind, Fresh, FreshLine, IsFresh, IsStorable, is_barrier}
use Rattle.target_hub.specs.Ordered.{through}
use Rattle.target_hub.specs.Received.{goes_through, is_owed, read, told_of}
use Rattle.target_hub.specs.Sent.{Told, agent_services, executed_on, hello_at, sent}
use Rattle.target_hub.specs.declared.input.Input.{Input}
use Rattle.target_hub.specs.declared.input.Input.TheVariants.{Executed}
use Rattle.target_truth.specs.Typed.{AreTyped}
use Rattle.tcf_message.specs.Message.{MessageValue, final, not_known}
use Rattle.tcf_text.specs.Lines.{Accepted, accepted, mark_of}
use Rattle.tcf_text.specs.declared.log.LogLine.{LogLine}
use Rattle.tcf_text.specs.declared.log.LogLine.TheVariants as lines
use Rattle.tcf_values.specs.declared.command.Command.{Command}
use Rattle.value_node.specs.Asked.{Asked}
use Rattle.chain_heard.specs.Heard.{HeardIsFresh, NoTargetHeardIsFresh, asked_as}
use Rattle.chain_told.specs.Told as told
use Rattle.chain_told.specs.Told.{AreEndedBefore, AreTrueAt, IsAnswered, IsOpen, IsOwed, IsToldRightly, bars, command_under, is_ended, is_storable, is_stored, lessons, mark_of as mark_told}
use Rattle.value_node.specs.Barriers as value
use Rattle.value_node.specs.Barriers.{command_in}
use Rattle.value_node.specs.Deeds.{command_asked}
use Rattle.chain_heard.proofs.Early.{LinesUp, answers_in, early_answers, executed_parts, lines_counted, lines_up}
use Rattle.chain_heard.proofs.Flags.{flag_of}
use Rattle.chain_heard.proofs.Followed.{Hears, Shape, answers_behind, shape_of, through_left, told_front, told_in, turn_behind}
use Rattle.chain_heard.proofs.Heard.{Hearing, HearsNothing, hearing, hears_nothing, its_channel, of_nothing, of_target}
use Rattle.chain_heard.proofs.Known.{Counted, Place, number_is, one_place, under}
use Rattle.chain_heard.proofs.Lines.{AreLinesOf, AtLine, IsLineOf, at_line, line_mark, messages_cut, says_event, says_final, says_hello, says_progress, says_unknown}
use Rattle.list_laws.specs.Fronts.{IsFront}
use Rattle.list_laws.proofs.Fronts.{front_filter, front_then}
use Rattle.chain_heard.proofs.Marks.{Rising, greeting, mark_now, own_unmarked}
use Rattle.chain_heard.proofs.Placed.{IsBare, RisingLines, bare_lines, rising_lines}
use Rattle.chain_heard.proofs.Turns.{IsEndedIf, IsThroughOpen, Turn, ended_before, later_numbers}
use Rattle.chain_heard.proofs.Elements.{all_cuts, all_kept, all_index, SameCut, Cut, contains_cut, InOne, in_first, in_second, in_one_of, mapped_length, filter_length}
use Rattle.list_laws.proofs.AllLists.{all_append, all_right as all_back, all_filter, all_weaker, all_at, all_both as all_two}
use Rattle.chain_through.proofs.OwnTold.{IsUnmarked}

-- ---- barriers

barrier_by : (reading : Reading) → value.is_barrier (command_in reading) ≡ is_barrier reading
barrier_by (readings.Known command) = refl
barrier_by readings.Unknown = refl
barrier_by (readings.Bad index code) = refl

bars_as : (c : Accepted) → bars (asked_as c) ≡ is_barrier (read c).reading
bars_as c = barrier_by (reading_of c.service c.name c.body)

-- a barrier with a smaller number has its answer
abbrev IsBelowEnded : ℕ → List Spoken → Accepted → Type 0
IsBelowEnded number before c = is_barrier (read c).reading ≡ true → c.number < number → is_ended (decimal c.number) before ≡ true

below_ended : (all done left : List Accepted) (c : Accepted) (number : ℕ) (before : List Spoken) (token : List ℕ) → Counted all → all ≡ done ++ c ∷ left → number ≡ c.number
    → decimal c.number ≡ token → AreEndedBefore bars (map asked_as all) before token → AllByRecursion (IsBelowEnded number before) all
below_ended all done left c number before token counted split same named settled =
    subst (AllByRecursion (IsBelowEnded number before)) (sym split)
    (all_append (IsBelowEnded number before) done (c ∷ left)
    (all_weaker (IsEndedIf bars before) (IsBelowEnded number before) done (λ d ended is less. ended (bars_as d ∙ is))
    (ended_before bars all done left c before token split named settled)) (
      (λ is less. absurd (omega arith)),
      all_weaker (λ d. c.number + 1 ≤ d.number) (IsBelowEnded number before) left (λ d above is less. absurd (omega arith)) (later_numbers all done left c counted split),
    ))

-- a command that isn't below
abbrev IsNotBelow : ℕ → Accepted → Type 0
IsNotBelow number c = is_barrier (read c).reading ≡ true → c.number < number → ⊥

-- so it is with those that go through and are left
none_below : (number : ℕ) (before : List Spoken) (rest : List Accepted) → AllByRecursion (IsBelowEnded number before) rest → AllByRecursion (IsThroughOpen before) rest
    → AllByRecursion (IsNotBelow number) (filter goes_through rest)
none_below number before rest ended none =
    let q : List Accepted = filter goes_through rest in
    all_two (λ c. goes_through c ≡ true) (λ c. goes_through c ≡ true → IsNotBelow number c) (IsNotBelow number) q (λ c goes other. other goes) (all_kept goes_through rest)
    (all_filter (λ c. goes_through c ≡ true → IsNotBelow number c) goes_through rest
    (all_two (IsBelowEnded number before) (IsThroughOpen before) (λ c. goes_through c ≡ true → IsNotBelow number c) rest
    (λ c first second goes is less. true≢false (sym (first is less) ∙ second goes)) ended none))

-- so a command below stands among those that are done
stands_among : (number : ℕ) (d e first later : List Accepted) (c : Accepted) → AllByRecursion (IsNotBelow number) e → d ++ e ≡ first ++ c ∷ later
    → is_barrier (read c).reading ≡ true → c.number < number → length first < length d
stands_among number [] e first later c none split is less = absurd (all_at (IsNotBelow number) first later c (subst (AllByRecursion (IsNotBelow number)) split none) is less)
stands_among number (a ∷ d) e [] later c none split is less = omega arith
stands_among number (a ∷ d) e (b ∷ first) later c none split is less =
    let tail : d ++ e ≡ first ++ c ∷ later = cc in
    let more : length first < length d = stands_among number d e first later c none tail is less in
    omega arith

-- what k executes up to a position that isn't beyond some inputs it executes in them
executed_front : (k position : ℕ) (before after : List Input) → position ≤ length before
    → length (filter flag_of (executed_on k (take position (before ++ after)))) ≤ length (filter flag_of (executed_on k before))
executed_front k position before after within =
    let left : take position (before ++ after) ≡ take position before = take-append-le position before after within in
    let parts : executed_on k (take position before) ++ executed_on k (drop position before) ≡ executed_on k before =
    sym (executed_parts k (take position before) (drop position before)) ∙ ap (executed_on k) (take-append-drop position before) in
    let less = filter_length flag_of (executed_on k (take position before)) (executed_on k (drop position before)) (executed_on k before) parts in
    subst (λ inputs. length (filter flag_of (executed_on k inputs)) ≤ length (filter flag_of (executed_on k before))) (sym left) less

-- what is answered so far was executed up to the position, so a command below stands there or before it
are_behind : (history : List Input) (k number position : ℕ) (log : List LogLine) (done rest later : List Accepted) (before : List Spoken) → through log ≡ filter goes_through later
    → later ≡ done ++ rest → AllByRecursion (IsBelowEnded number before) rest → AllByRecursion (IsThroughOpen before) rest
    → length (filter goes_through done) ≤ length (filter flag_of (executed_on k (take position history))) → AreBehind log history number position k
are_behind history k number position log done rest later before through_is parts ended none enough c place at is less = by_order (nat_lt position place) refl
  where
    input : Input
    input = Executed k (read c).reading c.service c.name

    whole : filter goes_through done ++ filter goes_through rest ≡ at.first ++ c ∷ at.later
    whole = sym (filter-append goes_through done rest) ∙ ap (filter goes_through) (sym parts) ∙ sym through_is ∙ at.among

    among : length at.first < length (filter goes_through done)
    among = stands_among number (filter goes_through done) (filter goes_through rest) at.first at.later c (none_below number before rest ended none) whole is less

    many : length (filter flag_of (executed_on k at.before)) ≡ length at.first
    many = ap length at.same ∙ mapped_length read at.first

    there : length (filter goes_through done) ≤ length (filter flag_of (executed_on k (take position (at.before ++ input ∷ at.after))))
    there = subst (λ inputs. length (filter goes_through done) ≤ length (filter flag_of (executed_on k (take position inputs)))) at.split enough

    by_order : (flag : Bool) → nat_lt position place ≡ flag → place ≤ position
    by_order false order = ltb-false position place order
    by_order true order =
        let over : position < place = ltb→lt position place (subst T (sym order) tt) in
        let stop = at.place in
        let within : position ≤ length at.before = omega arith in
        let few = executed_front k position at.before (input ∷ at.after) within in
        absurd (omega (arith, among, many, there))

-- ---- where the answer stands

-- it comes behind the target's Hello
abbrev IsNoMarkedAnswer : Spoken → Type 0
IsNoMarkedAnswer s = (token body : List ℕ) → s.message ≡ final token body → s.mark ≡ None

-- the answer among the messages behind the Hello
record Stands (log : List LogLine) (own rest before : List Spoken) (position : ℕ) (s : Spoken) : Type 0 where
  told : List Spoken
  more : List Spoken
  first : before ≡ (own ++ greeting position ∷ []) ++ told
  second : rest ≡ told ++ s ∷ more

stands_at : (log : List LogLine) (own rest before back : List Spoken) (position place : ℕ) (s : Spoken) (token body : List ℕ) → AllByRecursion IsUnmarked own
    → InOne (own ++ greeting position ∷ []) rest before back s → s.message ≡ final token body → s.mark ≡ Some place → Stands log own rest before position s
stands_at log own rest before back position place s token body none (in_first us vs is) message mark =
    let all : AllByRecursion IsNoMarkedAnswer (own ++ greeting position ∷ []) =
    all_append IsNoMarkedAnswer own (greeting position ∷ []) (all_weaker IsUnmarked IsNoMarkedAnswer own (λ t bare token text answer. bare) none) ((λ other text answer. absurd cc), tt) in
    let here : IsNoMarkedAnswer s = all_at IsNoMarkedAnswer us vs s (subst (AllByRecursion IsNoMarkedAnswer) is all) in
    let clash : None ≡ Some place = sym (here token body message) ∙ mark in
    absurd cc
stands_at log own rest before back position place s token body none (in_second told first second) message mark = record { told = told; more = back; first = first; second = second }

stands : (log : List LogLine) (images : List Image) (history : List Input) (k position : ℕ) (answered later : List Accepted) (hears : Hears log images history k position answered later)
    (before back : List Spoken) (place : ℕ) (s : Spoken) (token body : List ℕ) → hears.heard ≡ before ++ s ∷ back → s.message ≡ final token body → s.mark ≡ Some place
    → Stands log hears.own hears.rest before position s
stands log images history k position answered later hears before back place s token body split message mark =
    stands_at log hears.own hears.rest before back position place s token body (own_unmarked hears.own (map asked_as answered) [] hears.is_own)
    (in_one_of (hears.own ++ greeting position ∷ []) hears.rest before back s (append_assoc hears.own (greeting position ∷ []) hears.rest ∙ sym hears.split ∙ split)) message mark

rising_front : (position : ℕ) (told more : List Spoken) → Rising position (told ++ more) → Rising position told
rising_front position [] more rises = tt
rising_front position (s ∷ told) more rises = (rises.0, rising_front rises.0.place told more rises.1)

-- ---- one answer

behind_turn : (log : List LogLine) (images : List Image) (history : List Input) (k position : ℕ) (answered later : List Accepted) (hears : Hears log images history k position answered later)
    (shape : Shape (filter tells log) hears.own hears.rest position) (before : List Spoken) (xs : List LogLine) (place number : ℕ) (turn : Turn answered later before xs)
    → length (filter goes_through turn.done) ≤ length (filter flag_of (executed_on k (take place history)))
    → AllByRecursion (IsBelowEnded number before) (answered ++ later) → AreBehind log history number place k
behind_turn log images history k position answered later hears shape before xs place number turn enough ended =
    are_behind history k number place log turn.done turn.rest later before (through_left log images history k position answered later hears shape) turn.split
    (all_back (IsBelowEnded number before) turn.done turn.rest
    (subst (AllByRecursion (IsBelowEnded number before)) turn.split (all_back (IsBelowEnded number before) answered later ended))) turn.open_yet enough

-- the commands that were answered before it were executed up to its position
behind_at : (log : List LogLine) (images : List Image) (history : List Input) (k position : ℕ) (answered later : List Accepted) (hears : Hears log images history k position answered later)
    (before told more : List Spoken) (s : Spoken) (place number : ℕ) → before ≡ (hears.own ++ greeting position ∷ []) ++ told → hears.rest ≡ told ++ s ∷ more → s.mark ≡ Some place → place ≤ length history
    → AllByRecursion (IsBelowEnded number before) (answered ++ later) → AreBehind log history number place k
behind_at log images history k position answered later hears before told more s place number same split mark within ended =
    let all : List Accepted = answered ++ later in
    let shape = shape_of (filter tells log) hears.heard hears.own hears.rest position hears.split hears.lines_are in
    let none : AllByRecursion IsUnmarked hears.own = own_unmarked hears.own (map asked_as answered) [] hears.is_own in
    let bare : AllByRecursion IsBare shape.first = bare_lines hears.own shape.first none shape.first_are in
    let cut = messages_cut told (s ∷ more) shape.behind (subst (λ l. AreLinesOf l shape.behind) split shape.behind_are) in
    let rises : Rising position told = rising_front position told (s ∷ more) (subst (Rising position) split hears.rises) in
    let xs : List LogLine = (shape.first ++ lines.Hello (Some position) agent_services ∷ []) ++ cut.front in
    let turn : Turn answered later before xs = subst (λ b. Turn answered later b xs) (sym same)
    (turn_behind log images history k position answered later hears shape told (s ∷ more) cut.front split rises cut.first) in
    let line = first_line cut.rest cut.second in
    let up : LinesUp all position place cut.front =
    lines_up all cut.front line.1.0 line.0 position place
    (subst (RisingLines position) (cut.split ∙ ap (λ l. cut.front ++ l) line.1.1) (rising_lines hears.rest shape.behind position hears.rises shape.behind_are))
    (line_mark s.message s.mark line.0 line.1.2 ∙ ap (λ m. Some m) mark) in
    let all_told = told_in all position shape.behind in
    let first_told = told_in all position cut.front in
    let front : IsFront first_told all_told =
    (flat_map (told_of all) cut.rest, ap (λ l. told_of_hello position ∷ l) (ap (flat_map (told_of all)) cut.split ∙ flat_map-append (told_of all) cut.front cut.rest)) in
    let owed : IsFront (filter is_owed first_told) (filter is_owed (sent images k history)) =
    front_then (filter is_owed first_told) (filter is_owed all_told) (filter is_owed (sent images k history)) (front_filter is_owed first_told all_told front)
    (told_front log images history k position answered later hears shape) in
    let early : answers_in first_told ≤ length (filter flag_of (executed_on k (take place history))) =
    early_answers images history (take place history) (drop place history) k place first_told hears.legal (sym (take-append-drop place history)) (length-take-le place history within)
    (up.below, up.up) owed in
    let answers_are : length (filter goes_through turn.done) ≡ answers_in first_told =
    sym (mapped_length (λ (c : Accepted). c.number) (filter goes_through turn.done)) ∙ ap length (sym turn.answers)
    ∙ ap length (answers_behind all shape.first cut.front position bare) ∙ lines_counted all cut.front in
    let enough : length (filter goes_through turn.done) ≤ length (filter flag_of (executed_on k (take place history))) = omega arith in
    behind_turn log images history k position answered later hears shape before xs place number turn enough ended
  where
    first_line : (zs : List LogLine) → AreLinesOf (s ∷ more) zs → (x : LogLine) × ((ws : List LogLine) × (zs ≡ x ∷ ws) × IsLineOf s.message s.mark x)
    first_line [] are = absurd are
    first_line (x ∷ ws) are = (x, (ws, refl, are.0))

    told_of_hello : ℕ → Told
    told_of_hello place = hello_at place agent_services

-- the command of an answer is this storable one
storable_is : (log : List LogLine) (all : List Accepted) (number : ℕ) (command : Command) (c : Asked) → Counted all → accepted log ≡ all → number < 2 ^ 64
    → command_under (decimal number) (map asked_as all) ≡ Some c → IsStorable log number command → command_asked c ≡ Some command
storable_is log all number command c counted commands few sent_as is =
    let p : Place all c (decimal number) = under all c (decimal number) sent_as in
    let same : number ≡ p.command.number = number_is all c number counted few p in
    let cut : Cut all is.accepted_as = contains_cut all is.accepted_as (subst (λ cs. Contains cs is.accepted_as) commands is.there) in
    let one : SameCut p.done p.left cut.before cut.after p.command is.accepted_as =
    one_place all p.done p.left cut.before cut.after p.command is.accepted_as counted p.split cut.split (sym same ∙ sym is.numbered) in
    ap command_asked (sym p.same) ∙ ap (λ (d : Accepted). command_in (read d).reading) one.middle ∙ ap command_in is.known

fresh_answer : (log : List LogLine) (images : List Image) (history : List Input) (k position : ℕ) (answered later : List Accepted) → AreTyped images
    → (hears : Hears log images history k position answered later) → (before back : List Spoken) (s : Spoken) (number place : ℕ) (body : List ℕ) → hears.heard ≡ before ++ s ∷ back
    → s.message ≡ final (decimal number) body → s.mark ≡ Some place → number < 2 ^ 64 → (command : Command) → IsStorable log number command
    → IsFresh log images history number place command body
fresh_answer log images history k position answered later typed hears before back s number place body split message mark few command is =
    let all : List Accepted = answered ++ later in
    let commands : List Asked = map asked_as all in
    let right : IsToldRightly images history commands before s = hears.right before back s split in
    let how : IsAnswered images history commands before (final (decimal number) body) (Some place) = subst₂ (IsAnswered images history commands before) message mark right.answered in
    let opened : IsOpen commands before (decimal number) = subst (IsOwed commands before) message right.owed in
    let c = opened.command in
    let p : Place all c (decimal number) = under all c (decimal number) opened.sent in
    let same : number ≡ p.command.number = number_is all c number hears.counted few p in
    let named : decimal p.command.number ≡ c.token = ap (λ (a : Asked). a.token) p.same in
    let known : command_asked c ≡ Some command = storable_is log all number command c hears.counted hears.commands few opened.sent is in
    let fresh : told.IsFresh images history commands before c place body command = (how c opened.sent).1 command known is.storable in
    let here : mark_told (before ++ s ∷ []) ≡ Some place = mark_now images history commands before s right ∙ mark in
    let true_here : AreTrueAt images history (Some place) (learned (lessons commands (before ++ s ∷ []))) =
    subst (λ m. AreTrueAt images history m (learned (lessons commands (before ++ s ∷ [])))) here right.true in
    let at : Stands log hears.own hears.rest before position s = stands log images history k position answered later hears before back place s (decimal number) body split message mark in
    let ended : AllByRecursion (IsBelowEnded number before) all =
    below_ended all p.done p.left p.command number before c.token hears.counted p.split same named fresh.settled in
    let behind : AreBehind log history number place k =
    behind_at log images history k position answered later hears before at.told at.more s place number at.first at.second mark true_here.0 ended in
    record {
      within = true_here.0;
      same = fresh.same typed;
      behind = λ j channel. subst (AreBehind log history number place) (its_channel log images history k position answered later hears j channel) behind;
    }

fresh_unknown : (log : List LogLine) (images : List Image) (history : List Input) (k position : ℕ) (answered later : List Accepted)
    → (hears : Hears log images history k position answered later) → (before back : List Spoken) (s : Spoken) (number place : ℕ) → hears.heard ≡ before ++ s ∷ back
    → s.message ≡ not_known (decimal number) → s.mark ≡ Some place → number < 2 ^ 64 → (command : Command) → IsStorable log number command → ⊥
fresh_unknown log images history k position answered later hears before back s number place split message mark few command is =
    let all : List Accepted = answered ++ later in
    let commands : List Asked = map asked_as all in
    let right : IsToldRightly images history commands before s = hears.right before back s split in
    let how : IsAnswered images history commands before (not_known (decimal number)) (Some place) = subst₂ (IsAnswered images history commands before) message mark right.answered in
    let opened : IsOpen commands before (decimal number) = subst (IsOwed commands before) message right.owed in
    let c = opened.command in
    let known : command_asked c ≡ Some command = storable_is log all number command c hears.counted hears.commands few opened.sent is in
    let storable : is_storable c ≡ true = ap is_stored known ∙ is.storable in
    true≢false (sym storable ∙ (how c opened.sent).1)

-- ---- each line

-- what a line of an answer says
record SaysFinal (m : MessageValue) (mark : Option ℕ) (number : ℕ) (placed : Option ℕ) (body : List ℕ) : Type 0 where
  few : number < 2 ^ 64
  message : m ≡ final (decimal number) body
  marked : mark ≡ placed

said_final : (m : MessageValue) (mark : Option ℕ) (line : LogLine) (number : ℕ) (placed : Option ℕ) (body : List ℕ) → IsLineOf m mark line → line ≡ lines.Final number placed body
    → SaysFinal m mark number placed body
said_final m mark line number placed body (says_final other text few is says) also =
    let both : lines.Final other mark text ≡ lines.Final number placed body = sym says ∙ also in
    let first : other ≡ number = cc in
    let second : mark ≡ placed = cc in
    let third : text ≡ body = cc in
    record { few = subst (λ n. n < 2 ^ 64) first few; message = is ∙ ap₂ (λ n t. final (decimal n) t) first third; marked = second }
said_final m mark line number placed body (says_hello text is says) also = absurd cc
said_final m mark line number placed body (says_event service name text is plain says) also = absurd cc
said_final m mark line number placed body (says_progress other text few is says) also = absurd cc
said_final m mark line number placed body (says_unknown other few is says) also = absurd cc

record SaysUnknown (m : MessageValue) (mark : Option ℕ) (number : ℕ) (placed : Option ℕ) : Type 0 where
  few : number < 2 ^ 64
  message : m ≡ not_known (decimal number)
  marked : mark ≡ placed

said_unknown : (m : MessageValue) (mark : Option ℕ) (line : LogLine) (number : ℕ) (placed : Option ℕ) → IsLineOf m mark line → line ≡ lines.Unknown number placed
    → SaysUnknown m mark number placed
said_unknown m mark line number placed (says_unknown other few is says) also =
    let both : lines.Unknown other mark ≡ lines.Unknown number placed = sym says ∙ also in
    let first : other ≡ number = cc in
    let second : mark ≡ placed = cc in
    record { few = subst (λ n. n < 2 ^ 64) first few; message = is ∙ ap (λ n. not_known (decimal n)) first; marked = second }
said_unknown m mark line number placed (says_hello text is says) also = absurd cc
said_unknown m mark line number placed (says_event service name text is plain says) also = absurd cc
said_unknown m mark line number placed (says_progress other text few is says) also = absurd cc
said_unknown m mark line number placed (says_final other text few is says) also = absurd cc

target_line : (log : List LogLine) (images : List Image) (history : List Input) (k position : ℕ) (answered later : List Accepted) → AreTyped images
    → Hears log images history k position answered later → (front back : List LogLine) (x : LogLine) → log ≡ front ++ x ∷ back → FreshLine log images history x
target_line log images history k position answered later typed hears front back (lines.Final number (Some place) body) split = λ command is.
    let at : AtLine hears.heard (filter tells front) (lines.Final number (Some place) body) = at_line log front back (lines.Final number (Some place) body) hears.heard hears.lines_are split refl in
    let says = said_final at.s.message at.s.mark (lines.Final number (Some place) body) number (Some place) body at.is refl in
    fresh_answer log images history k position answered later typed hears at.before at.rest at.s number place body at.split says.message says.marked says.few command is
target_line log images history k position answered later typed hears front back (lines.Unknown number (Some place)) split = λ command is.
    let at : AtLine hears.heard (filter tells front) (lines.Unknown number (Some place)) = at_line log front back (lines.Unknown number (Some place)) hears.heard hears.lines_are split refl in
    let says = said_unknown at.s.message at.s.mark (lines.Unknown number (Some place)) number (Some place) at.is refl in
    fresh_unknown log images history k position answered later hears at.before at.rest at.s number place at.split says.message says.marked says.few command is
target_line log images history k position answered later typed hears front back (lines.Final number None body) split = tt
target_line log images history k position answered later typed hears front back (lines.Unknown number None) split = tt
target_line log images history k position answered later typed hears front back line split = tt

-- where nothing of the target was heard no line has a position
no_place : (log : List LogLine) → HearsNothing log → (front back : List LogLine) (x : LogLine) (place : ℕ) → log ≡ front ++ x ∷ back → tells x ≡ true → mark_of x ≡ Some (Some place) → ⊥
no_place log hears front back x place split telling mark =
    let at : AtLine hears.heard (filter tells front) x = at_line log front back x hears.heard hears.lines_are split telling in
    let bare : IsUnmarked at.s = all_at IsUnmarked at.before at.rest at.s (subst (AllByRecursion IsUnmarked) at.split hears.bare) in
    let clash : Some None ≡ Some (Some place) = ap (λ m. Some m) (sym bare) ∙ sym (line_mark at.s.message at.s.mark x at.is) ∙ mark in
    absurd cc

bare_line : (log : List LogLine) (images : List Image) (history : List Input) → HearsNothing log → (front back : List LogLine) (x : LogLine) → log ≡ front ++ x ∷ back
    → FreshLine log images history x
bare_line log images history hears front back (lines.Final number (Some place) body) split = λ command is.
    absurd (no_place log hears front back (lines.Final number (Some place) body) place split refl refl)
bare_line log images history hears front back (lines.Unknown number (Some place)) split = λ command is.
    no_place log hears front back (lines.Unknown number (Some place)) place split refl refl
bare_line log images history hears front back (lines.Final number None body) split = tt
bare_line log images history hears front back (lines.Unknown number None) split = tt
bare_line log images history hears front back line split = tt

-- ---- the laws

all_fresh : (log : List LogLine) (images : List Image) (history : List Input) → ((front back : List LogLine) (x : LogLine) → log ≡ front ++ x ∷ back → FreshLine log images history x)
    → Fresh log images history
all_fresh log images history each = all_index (FreshLine log images history) log (all_cuts (FreshLine log images history) log each)

either_fresh : (log : List LogLine) (images : List Image) (history : List Input) (k position : ℕ) (answered later : List Accepted) → AreTyped images
    → Hearing log images history k position answered later → Fresh log images history
either_fresh log images history k position answered later typed (of_nothing hears none) = all_fresh log images history (bare_line log images history hears)
either_fresh log images history k position answered later typed (of_target hears) =
    all_fresh log images history (target_line log images history k position answered later typed hears)

pub heard_fresh : HeardIsFresh
heard_fresh images history k position c p typed past once heard =
    either_fresh c.log images history k position heard.answered heard.later typed (hearing images history k position c p past once heard)

pub no_target_fresh : NoTargetHeardIsFresh
no_target_fresh images history c p past once heard = all_fresh c.log images history (bare_line c.log images history (hears_nothing c p past once heard))

-- What the log of a client owes to the history, by what the client heard.
use Rattle.std.proofs.Common.{◌≡◌, ℕ, ◌<◌, ◌^◌, inl, inr, Bool, true, false, true≢false, List, [], ◌∷◌, ◌++◌, length, map, filter, Option, Some, None, Ok, refl, ap, ap₂, sym, ◌∙◌, subst, arith}
use Rattle.std.specs.List.{AllByRecursion, Contains, list_any, range_with_len}
use Rattle.std.proofs.lemmas.Bool.Decides.{eqb_tells}
use Rattle.channel_core.specs.Arrivals.{Spoken, comes_as}
use Rattle.channel_core.specs.declared.held.Incoming.{Incoming}
use Rattle.client_node.specs.ClientValue.{ClientValue}
use Rattle.client_node.specs.Runs.{Past, TellsPast, tells}
use Rattle.target_contexts.specs.declared.process.Image.{Image}
use Rattle.target_hub.specs.Ordered.{AllCame, FollowsTarget, IsChannelOf, IsPlaced, OpensAt, Ordered, hello_position}
use Rattle.target_hub.specs.Sent.{agent_services, executed_on}
use Rattle.target_hub.specs.declared.input.Input.{Input}
use Rattle.target_hub.specs.declared.input.Input.TheVariants.{Opened}
use Rattle.tcf_message.specs.Message.{MessageValue, reading, spelling}
use Rattle.tcf_text.specs.Each.{Each}
use Rattle.tcf_text.specs.Lines.{Accepted, accepted, from_hello}
use Rattle.tcf_text.specs.Once.{Once, is_end, numbers}
use Rattle.tcf_text.specs.declared.log.LogLine.{LogLine}
use Rattle.value_node.specs.Asked.{Asked}
use Rattle.value_node.specs.OwnMessages.{BeginsWithHello, IsOwn, OwnStep, a_hello, a_result, an_unknown}
use Rattle.chain_heard.specs.Heard.{Heard, HeardAll, HeardAmongIsOrdered, HeardIsOrdered, HeardNoTarget, NoTargetHeardIsOrdered, asked_as, heard_in, incoming, messages_of}
use Rattle.chain_told.specs.Sent.{owed_by}
use Rattle.chain_told.specs.Told.{AreToldRightly, owed_in}
use Rattle.chain_heard.proofs.Filtered.{each_placed, from_hello_told, from_none, hello_position_told}
use Rattle.chain_heard.proofs.Followed.{Hears, came_all, follows, from_is, shape_of}
use Rattle.chain_heard.proofs.Known.{Counted}
use Rattle.chain_heard.proofs.Lines.{AreLinesOf, IsFew, IsNoCommand, lines_heard}
use Rattle.list_laws.specs.Fronts.{IsFront}
use Rattle.list_laws.proofs.Fronts.{front_first, front_rest, no_front}
use Rattle.list_laws.proofs.Contained.{in_one}
use Rattle.chain_heard.proofs.Marks.{Greeted, HeardSo, heard_so, no_command_heard, nothing_heard, own_unmarked, target_heard}
use Rattle.chain_heard.proofs.Numbers.{lines_few}
use Rattle.chain_heard.proofs.Placed.{IsBare, bare_first_placed, bare_lines, begins_front, greets_first, no_placed, rising_lines, told_behind_placed}
use Rattle.chain_heard.proofs.Elements.{all_cuts, SameCut, same_cut}
use Rattle.chain_told.proofs.Doing.{IsReadable}
use Rattle.list_laws.proofs.AllLists.{all_left as all_front}
use Rattle.chain_through.proofs.OwnTold.{IsUnmarked}

-- ---- nothing of the target

-- what is known of a log whose client heard messages without a position alone
pub record HearsNothing (log : List LogLine) : Type 0 where
  pub heard : List Spoken
  pub bare : AllByRecursion IsUnmarked heard
  pub begins : BeginsWithHello heard
  pub lines_are : AreLinesOf heard (filter tells log)

bare_ordered : (log : List LogLine) (images : List Image) (history : List Input) (channels : List ℕ) (quiet : Bool) → HearsNothing log
    → ((j : ℕ) → Contains channels j → executed_on j history ≡ []) → Ordered quiet log images history channels
bare_ordered log images history channels quiet hears silent =
    let bare : AllByRecursion IsBare (filter tells log) = bare_lines hears.heard (filter tells log) hears.bare hears.lines_are in
    let no_hello : hello_position (from_hello log) ≡ None =
    sym (hello_position_told (from_hello log)) ∙ ap hello_position (from_hello_told log) ∙ ap hello_position (from_none (filter tells log) (no_placed (filter tells log) bare)) in
    record {
      positions = each_placed history log (bare_first_placed history (filter tells log) bare (greets_first hears.heard (filter tells log) hears.bare hears.begins hears.lines_are));
      follows = λ j is. absurd (unplaced is.position (sym no_hello ∙ is.hello));
      all_when_quiet = λ resting open_yet j is. absurd (unplaced is.position (sym no_hello ∙ is.hello));
      others = λ j there other. silent j there;
    }
  where
    unplaced : (position : ℕ) → None ≡ Some position → ⊥
    unplaced position e = cc

-- ---- the target's Hello and what came behind it

pub same_channel : (history : List Input) (one other j k : ℕ) → OpensAt history one j → OpensAt history other k → one ≡ other → k ≡ j
same_channel history one other j k first second same =
    let here = first.place in
    let there = second.place in
    let long : length second.before ≡ length first.before = omega arith in
    let cut : SameCut second.before second.after first.before first.after (Opened k) (Opened j) =
    same_cut second.before second.after first.before first.after (Opened k) (Opened j) (sym second.split ∙ first.split) long in
    let inputs : Opened k ≡ Opened j = cut.middle in
    cc

pub hello_there : (log : List LogLine) (images : List Image) (history : List Input) (k position : ℕ) (answered later : List Accepted)
    → Hears log images history k position answered later → hello_position (from_hello log) ≡ Some position
hello_there log images history k position answered later hears =
    let shape = shape_of (filter tells log) hears.heard hears.own hears.rest position hears.split hears.lines_are in
    sym (hello_position_told (from_hello log)) ∙ ap hello_position (from_is log hears.own hears.rest position shape hears.rises)

-- the log was made on that channel alone
pub its_channel : (log : List LogLine) (images : List Image) (history : List Input) (k position : ℕ) (answered later : List Accepted)
    → Hears log images history k position answered later → (j : ℕ) → IsChannelOf log history j → k ≡ j
its_channel log images history k position answered later hears j is =
    same_channel history is.position position j k is.opened hears.opened
    (same_place is.position position (sym is.hello ∙ hello_there log images history k position answered later hears))
  where
    same_place : (one two : ℕ) → Some one ≡ Some two → one ≡ two
    same_place one two e = cc

something_ordered : (log : List LogLine) (images : List Image) (history : List Input) (k position : ℕ) (answered later : List Accepted) (channels : List ℕ) (quiet : Bool)
    → (hears : Hears log images history k position answered later) → ((j : ℕ) → Contains channels j → (j ≡ k → ⊥) → executed_on j history ≡ [])
    → (quiet ≡ true → list_any is_end log ≡ false → owed_in (map asked_as (answered ++ later)) hears.heard ≡ owed_by images k history)
    → Ordered quiet log images history channels
something_ordered log images history k position answered later channels quiet hears silent complete =
    let shape = shape_of (filter tells log) hears.heard hears.own hears.rest position hears.split hears.lines_are in
    let its : IsChannelOf log history k =
    record { position = position; hello = hello_there log images history k position answered later hears; opened = hears.opened } in
    let none = own_unmarked hears.own (map asked_as answered) [] hears.is_own in
    record {
      positions = each_placed history log (subst (Each (IsPlaced history)) (sym shape.messages_are)
          (told_behind_placed history k position agent_services shape.first shape.behind hears.opened
          (rising_lines hears.rest shape.behind position hears.rises shape.behind_are)
          (bare_lines hears.own shape.first none shape.first_are) (greets_first hears.own shape.first none hears.begins shape.first_are)));
      follows = λ j is.
          subst (FollowsTarget log images history) (its_channel log images history k position answered later hears j is)
          (follows log images history k position answered later hears);
      all_when_quiet = λ resting open_yet j is.
          subst (AllCame log images history) (its_channel log images history k position answered later hears j is)
          (came_all log images history k position answered later hears (complete resting open_yet));
      others = λ j there other. silent j there (λ same. other (subst (IsChannelOf log history) (sym same) its));
    }

-- ---- what was taken

-- the messages that a client took have the lines of its log
pub taken_lines : (c : ClientValue) (p : Past) → TellsPast c p → Once false c.log → length p.commands < 2 ^ 64 → (heard : List Spoken) → heard_in p ≡ map comes_as heard
    → AllByRecursion IsReadable heard → AllByRecursion (λ s. IsNoCommand s.message) heard → AreLinesOf heard (filter tells c.log)
taken_lines c p past once few heard are readable none =
    let numbered : numbers (accepted c.log) ≡ range_with_len 1 (length p.commands) = ap numbers past.commands ∙ past.counted in
    subst (AreLinesOf heard) (sym past.messages)
    (lines_heard p.taken heard are readable none past.fitting
    (subst (AllByRecursion IsFew) past.messages (lines_few c.log (length p.commands) numbered few once.answers)))

pub none_asked : (images : List Image) (history : List Input) (commands : List Asked) (heard : List Spoken) → AreToldRightly images history commands heard
    → AllByRecursion (λ s. IsNoCommand s.message) heard
none_asked images history commands heard right =
    all_cuts (λ s. IsNoCommand s.message) heard (λ front back s cut. no_command_heard commands front s.message (right front back s cut).owed)

-- either is known of the log
pub data Hearing (log : List LogLine) (images : List Image) (history : List Input) (k position : ℕ) (answered later : List Accepted) : Type 0 where
  of_nothing : HearsNothing log → executed_on k history ≡ [] → Hearing log images history k position answered later
  of_target : Hears log images history k position answered later → Hearing log images history k position answered later

module _ (images : List Image) (history : List Input) (k position : ℕ) (c : ClientValue) (p : Past) (past : TellsPast c p) (once : Once false c.log) (heard : Heard images history k position p) where
  heard_lines : AreLinesOf heard.heard (filter tells c.log)
  heard_lines = taken_lines c p past once heard.few heard.heard heard.are heard.readable (none_asked images history (map asked_as p.commands) heard.heard heard.told)

  nothing_so : (rest : List Spoken) → heard.own ≡ heard.heard ++ rest → HearsNothing c.log
  nothing_so rest split = record {
    heard = heard.heard;
    bare = all_front IsUnmarked heard.heard rest (subst (AllByRecursion IsUnmarked) split (own_unmarked heard.own (map asked_as heard.answered) [] heard.is_own));
    begins = begins_front heard.heard rest heard.own split heard.begins;
    lines_are = heard_lines;
  }

  target_so : Greeted heard.own heard.heard position → Hears c.log images history k position heard.answered heard.later
  target_so g =
      let asked = heard.commands in
      record {
        legal = heard.legal;
        opened = heard.opened;
        commands = past.commands ∙ asked;
        counted = subst Counted asked (record { counted = past.counted; few = heard.few });
        own = heard.own;
        is_own = heard.is_own;
        begins = heard.begins;
        heard = heard.heard;
        rest = g.rest;
        split = g.split;
        rises = g.rises;
        right = subst (λ commands. AreToldRightly images history (map asked_as commands) heard.heard) asked heard.told;
        lines_are = heard_lines;
        owed = subst (λ commands. IsFront (owed_in (map asked_as commands) heard.heard) (owed_by images k history)) asked heard.owed;
        asked = heard.asked;
        goes = heard.through;
      }

  hearing_so : HeardSo heard.own heard.heard position → Hearing c.log images history k position heard.answered heard.later
  hearing_so (nothing_heard rest split) = of_nothing (nothing_so rest split) (heard.greeted_first (rest, split))
  hearing_so (target_heard g) = of_target (target_so g)

  how_heard : HeardSo heard.own heard.heard position
  how_heard =
      heard_so images history k position (map asked_as p.commands) heard.heard heard.own heard.parts.target heard.legal heard.opened heard.told heard.owed
      (own_unmarked heard.own (map asked_as heard.answered) [] heard.is_own) heard.parts.marked heard.parts.front

  pub hearing : Hearing c.log images history k position heard.answered heard.later
  hearing = hearing_so how_heard

  -- ---- it follows the history

  module _ (channels : List ℕ) (quiet : Bool) (silent : (j : ℕ) → Contains channels j → (j ≡ k → ⊥) → executed_on j history ≡ [])
      (complete : quiet ≡ true → list_any is_end c.log ≡ false → HeardAll images history k p heard.heard) where
    ordered_so : HeardSo heard.own heard.heard position → Ordered quiet c.log images history channels
    unfolding target_so
    ordered_so (nothing_heard rest split) =
        bare_ordered c.log images history channels quiet (nothing_so rest split)
        (λ j there. elim (eqb_tells j k) as (λ _. executed_on j history ≡ [])
        [ inl is ↦ ap (λ n. executed_on n history) is.1 ∙ heard.greeted_first (rest, split) | inr is ↦ silent j there is.1 ])
    ordered_so (target_heard g) =
        something_ordered c.log images history k position heard.answered heard.later channels quiet (target_so g) silent
        (λ resting open_yet. subst (λ commands. owed_in (map asked_as commands) heard.heard ≡ owed_by images k history) heard.commands (complete resting open_yet))

    ordered : Ordered quiet c.log images history channels
    ordered = ordered_so how_heard

-- ---- where nothing of the target was heard

pub record FrontOf (xs : List Incoming) (own : List Spoken) : Type 0 where
  pub heard : List Spoken
  pub rest : List Spoken
  pub split : own ≡ heard ++ rest
  pub are : xs ≡ map comes_as heard

pub front_of : (xs : List Incoming) (own : List Spoken) → IsFront xs (map incoming (messages_of own)) → FrontOf xs own
front_of [] own front = record { heard = []; rest = own; split = refl; are = refl }
front_of (x ∷ xs) [] front = absurd (no_front x xs front)
front_of (x ∷ xs) (s ∷ own) front =
    let m : MessageValue × Option ℕ = (s.message, s.mark) in
    let head : x ≡ comes_as s = front_first x (incoming m) xs (map incoming (messages_of own)) front in
    let more : FrontOf xs own = front_of xs own (front_rest x (incoming m) xs (map incoming (messages_of own)) front) in
    record { heard = s ∷ more.heard; rest = more.rest; split = ap (λ l. s ∷ l) more.split; are = ap₂ (λ a l. a ∷ l) head more.are }

step_no_command : (commands left : List Asked) (s : Spoken) → OwnStep commands s.message left → IsNoCommand s.message
step_no_command commands left s (a_hello body is same) = subst IsNoCommand (sym is) tt
step_no_command commands left s (a_result c body is at split) = subst IsNoCommand (sym is) tt
step_no_command commands left s (an_unknown c is split) = subst IsNoCommand (sym is) tt

pub own_no_command : (own : List Spoken) (commands left : List Asked) → IsOwn commands own left → AllByRecursion (λ s. IsNoCommand s.message) own
own_no_command [] commands left is = tt
own_no_command (s ∷ own) commands left is = (step_no_command commands is.1.0 s is.1.1, own_no_command own is.1.0 left is.1.2)

pub own_readable : (own : List Spoken) → AllByRecursion (λ m. reading (spelling m.0) ≡ Ok m.0) (messages_of own) → AllByRecursion IsReadable own
own_readable [] all = tt
own_readable (s ∷ own) all = (all.0, own_readable own all.1)

pub hears_nothing : (c : ClientValue) (p : Past) → TellsPast c p → Once false c.log → HeardNoTarget p → HearsNothing c.log
hears_nothing c p past once heard =
    let f = front_of (heard_in p) heard.own heard.told in
    let readable = all_front IsReadable f.heard f.rest (subst (AllByRecursion IsReadable) f.split (own_readable heard.own heard.readable)) in
    let none =
    all_front (λ s. IsNoCommand s.message) f.heard f.rest (subst (AllByRecursion (λ s. IsNoCommand s.message)) f.split (own_no_command heard.own (map asked_as p.commands) heard.left heard.is_own)) in
    record {
      heard = f.heard;
      bare = all_front IsUnmarked f.heard f.rest (subst (AllByRecursion IsUnmarked) f.split (own_unmarked heard.own (map asked_as p.commands) heard.left heard.is_own));
      begins = begins_front f.heard f.rest heard.own f.split heard.begins;
      lines_are = taken_lines c p past once heard.few f.heard f.are readable none;
    }

-- ---- the laws

pub heard_among : HeardAmongIsOrdered
heard_among images history k position c p channels quiet past once heard silent complete = ordered images history k position c p past once heard channels quiet silent complete

pub heard_alone : HeardIsOrdered
heard_alone images history k position c p past once heard =
    heard_among images history k position c p (k ∷ []) false past once heard (λ j there other. absurd (other (in_one k j there))) (λ resting. absurd (true≢false (sym resting)))

pub no_target_ordered : NoTargetHeardIsOrdered
no_target_ordered images history c p channels quiet past once heard silent = bare_ordered c.log images history channels quiet (hears_nothing c p past once heard) silent

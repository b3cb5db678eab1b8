-- What is served is made of a new agent by some calls, and has one line for each channel that was opened and goes on.
use Rattle.std.proofs.Common.{◌≡◌, ℕ, ◌==◌, Bool, true, false, ◌||◌, cond, List, [], ◌∷◌, ◌++◌, refl, sym, ap, ◌∙◌, subst, append-nil, eqb-true}
use Rattle.std.specs.List.{AllByRecursion}
use Rattle.std.proofs.lemmas.Bool.{false_from_ne_true, or_parts}
use Rattle.std.proofs.lemmas.List.Folds.{list_any-append}
use Rattle.std.proofs.lemmas.List.{map-append}
use Rattle.list_laws.proofs.AllLists.{all_push, all_weaker}
use Rattle.list_laws.proofs.Flags.{not_both, or_true}
use Rattle.list_laws.proofs.Numbers.{number_itself, other_number}
use Rattle.target_contexts.specs.declared.process.Image.{Image}
use Rattle.agent_node.specs.Agent.{new_agent, opened}
use Rattle.agent_node.specs.AgentValue.{AgentValue}
use Rattle.agent_node.specs.Runs.{Call, no_calls, opens}
use Rattle.serving_wires.specs.Row.{Row}
use Rattle.serving_wires.specs.Rows.{with_item}
use Rattle.serving_wires.specs.declared.intake.Came.{Came}
use Rattle.serving_wires.proofs.Rows.{changed_numbers, is_among, numbers}
use Rattle.agent_serving.specs.Served.{answers}
use Rattle.agent_serving.specs.ServingValue.{ServingValue}
use Rattle.agent_serving.proofs.CallLists.{answers_more, any, refused_again, run, run_agent, run_more}
use Rattle.agent_serving.proofs.Rows.{Lines, Own, all_without, put_first, without_first}

abbrev pub WasOpened : List Image → List Call → ℕ → Type 0
WasOpened images calls k = any (answers k calls (new_agent images)) ≡ true

abbrev pub WereOpened : List Image → List Call → Lines → Type 0
WereOpened images calls lines = AllByRecursion (λ (line : Row (List Came)). WasOpened images calls line.channel) lines

-- by these calls
pub record Made (images : List Image) (calls : List Call) (s : ServingValue) : Type 0 where
  pub agent : s.agent ≡ run calls (new_agent images)
  pub own : Own s.lines
  pub opened_all : WereOpened images calls s.lines

pub made_first : (images : List Image) → Made images [] (record { agent = new_agent images; lines = [] })
made_first images = record { agent = refl; own = tt; opened_all = tt }

-- some calls more
was_opened_still : (images : List Image) (calls more : List Call) (k : ℕ) → WasOpened images calls k → WasOpened images (calls ++ more) k
was_opened_still images calls more k was =
    let first = new_agent images in
    ap any (answers_more k calls more first) ∙ list_any-append (λ (b : Bool). b) (answers k calls first) (answers k more (run calls first))
    ∙ ap (λ (b : Bool). b || any (answers k more (run calls first))) was

pub made_more : (images : List Image) (calls more : List Call) (a next : AgentValue) (lines now : Lines) → Made images calls (record { agent = a; lines = lines }) → next ≡ run more a
    → Own now → WereOpened images calls now → Made images (calls ++ more) (record { agent = next; lines = now })
made_more images calls more a next lines now m is own all =
    record {
      agent = is ∙ ap (run more) m.agent ∙ sym (run_more calls more (new_agent images));
      own = own;
      opened_all = all_weaker (λ (line : Row (List Came)). WasOpened images calls line.channel) (λ (line : Row (List Came)). WasOpened images (calls ++ more) line.channel) now
          (λ line was. was_opened_still images calls more line.channel was) all;
    }

-- ---- the lines change

pub own_put : (k : ℕ) (next : List Came) (lines : Lines) → Own lines → Own (put_first k next lines)
own_put k next [] own = tt
own_put k next (line ∷ lines) own = by_flag (line.channel == k) (own_put k next lines own.1)
  where
    by_flag : (flag : Bool) → Own (put_first k next lines) → Own (cond flag (with_item next line ∷ lines) (line ∷ put_first k next lines))
    by_flag true rest = own
    by_flag false rest = (ap (is_among line.channel) (changed_numbers k (λ old. next) lines) ∙ own.0, rest)

lacks_without : (j k : ℕ) (lines : Lines) → is_among j (numbers lines) ≡ false → is_among j (numbers (without_first k lines)) ≡ false
lacks_without j k [] lacks = refl
lacks_without j k (line ∷ lines) lacks =
    let parts = or_parts (line.channel == j) (is_among j (numbers lines)) lacks in by_flag (line.channel == k) parts.0 parts.1 (lacks_without j k lines parts.1)
  where
    by_flag : (flag : Bool) → (line.channel == j) ≡ false → is_among j (numbers lines) ≡ false → is_among j (numbers (without_first k lines)) ≡ false
        → is_among j (numbers (cond flag lines (line ∷ without_first k lines))) ≡ false
    by_flag true first later rest = later
    by_flag false first later rest = ap (λ (b : Bool). b || is_among j (numbers (without_first k lines))) first ∙ rest

pub own_without : (k : ℕ) (lines : Lines) → Own lines → Own (without_first k lines)
own_without k [] own = tt
own_without k (line ∷ lines) own = by_flag (line.channel == k) (own_without k lines own.1)
  where
    by_flag : (flag : Bool) → Own (without_first k lines) → Own (cond flag lines (line ∷ without_first k lines))
    by_flag true rest = own.1
    by_flag false rest = (lacks_without line.channel k lines own.0, rest)

pub own_push : (lines : Lines) (last : Row (List Came)) → is_among last.channel (numbers lines) ≡ false → Own lines → Own (lines ++ last ∷ [])
own_push [] last lacks own = (refl, tt)
own_push (line ∷ lines) last lacks own =
    let parts = or_parts (line.channel == last.channel) (is_among last.channel (numbers lines)) lacks in (
      ap (is_among line.channel) (map-append (λ (row : Row (List Came)). row.channel) lines (last ∷ []))
          ∙ list_any-append (λ (k : ℕ). k == line.channel) (numbers lines) (last.channel ∷ [])
          ∙ ap (λ (b : Bool). b || (last.channel == line.channel || false)) own.0
          ∙ ap (λ (b : Bool). b || false) (other_number line.channel last.channel parts.0),
      own_push lines last parts.1 own.1,
    )

pub opened_put : (images : List Image) (calls : List Call) (k : ℕ) (next : List Came) (lines : Lines) → WereOpened images calls lines → WereOpened images calls (put_first k next lines)
opened_put images calls k next [] all = tt
opened_put images calls k next (line ∷ lines) all = by_flag (line.channel == k) (opened_put images calls k next lines all.1)
  where
    by_flag : (flag : Bool) → WereOpened images calls (put_first k next lines) → WereOpened images calls (cond flag (with_item next line ∷ lines) (line ∷ put_first k next lines))
    by_flag true rest = all
    by_flag false rest = (all.0, rest)

pub opened_without : (images : List Image) (calls : List Call) (k : ℕ) (lines : Lines) → WereOpened images calls lines → WereOpened images calls (without_first k lines)
opened_without images calls k lines all = all_without (λ (line : Row (List Came)). WasOpened images calls line.channel) k lines all

-- ---- one that was opened isn't opened again

refused_there : (images : List Image) (calls : List Call) (k : ℕ) (s : ServingValue) → Made images calls s → WasOpened images calls k → (opened k s.agent).0 ≡ false
refused_there images calls k s m was =
    ap (λ (a : AgentValue). (opened k a).0) (m.agent ∙ sym (run_agent calls (no_calls images))) ∙ refused_again images calls k was

lacks_by : (images : List Image) (calls : List Call) (k : ℕ) (lines : Lines) → (WasOpened images calls k → ⊥) → WereOpened images calls lines → is_among k (numbers lines) ≡ false
lacks_by images calls k [] never all = refl
lacks_by images calls k (line ∷ lines) never all =
    ap (λ (b : Bool). b || is_among k (numbers lines))
    (false_from_ne_true (line.channel == k) (λ is. never (subst (WasOpened images calls) (eqb-true line.channel k is) all.0))) ∙ lacks_by images calls k lines never all.1

-- so a channel that opens has no line yet
opens_new : (images : List Image) (calls : List Call) (k : ℕ) (s : ServingValue) → Made images calls s → (opened k s.agent).0 ≡ true → is_among k (numbers s.lines) ≡ false
opens_new images calls k s m did = lacks_by images calls k s.lines (λ was. not_both did (refused_there images calls k s m was)) m.opened_all

-- what its opening was answered
pub answered_now : (images : List Image) (calls : List Call) (k j : ℕ) (s : ServingValue) → Made images calls s
    → answers j (calls ++ opens k ∷ []) (new_agent images) ≡ answers j calls (new_agent images) ++ cond (k == j) ((opened k s.agent).0 ∷ []) []
answered_now images calls k j s m =
    answers_more j calls (opens k ∷ []) (new_agent images)
    ∙ ap (λ (bs : List Bool). answers j calls (new_agent images) ++ bs)
    (append-nil (cond (k == j) ((opened k (run calls (new_agent images))).0 ∷ []) []) ∙ ap (λ (a : AgentValue). cond (k == j) ((opened k a).0 ∷ []) []) (sym m.agent))

opened_now : (images : List Image) (calls : List Call) (k : ℕ) (s : ServingValue) → Made images calls s → (opened k s.agent).0 ≡ true → WasOpened images (calls ++ opens k ∷ []) k
opened_now images calls k s m did =
    let before = answers k calls (new_agent images) in
    ap any
    (answered_now images calls k k s m ∙ ap (λ (b : Bool). before ++ cond b ((opened k s.agent).0 ∷ []) []) (number_itself k) ∙ ap (λ (b : Bool). before ++ b ∷ []) did)
    ∙ list_any-append (λ (b : Bool). b) before (true ∷ []) ∙ or_true (any before)

pub made_opened : (images : List Image) (calls : List Call) (k : ℕ) (s : ServingValue) → Made images calls s → (opened k s.agent).0 ≡ true
    → Made images (calls ++ opens k ∷ []) (record { agent = (opened k s.agent).1; lines = s.lines ++ (record { channel = k; item = [] }) ∷ [] })
made_opened images calls k s m did =
    let line : Row (List Came) = record { channel = k; item = [] } in
    let Was : Row (List Came) → Type 0 = λ row. WasOpened images (calls ++ opens k ∷ []) row.channel in
    record {
      agent = ap (λ (a : AgentValue). (opened k a).1) m.agent ∙ sym (run_more calls (opens k ∷ []) (new_agent images));
      own = own_push s.lines line (opens_new images calls k s m did) m.own;
      opened_all = all_push Was s.lines line
          (all_weaker (λ (row : Row (List Came)). WasOpened images calls row.channel) Was s.lines (λ row was. was_opened_still images calls (opens k ∷ []) row.channel was) m.opened_all)
          (opened_now images calls k s m did);
    }

pub made_refused : (images : List Image) (calls : List Call) (k : ℕ) (s : ServingValue) → Made images calls s → Made images (calls ++ opens k ∷ []) (record s { agent = (opened k s.agent).1 })
made_refused images calls k s m = made_more images calls (opens k ∷ []) s.agent (opened k s.agent).1 s.lines s.lines m refl m.own m.opened_all

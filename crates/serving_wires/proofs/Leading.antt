-- A process goes on part by part.
use Rattle.std.proofs.Common.{ℕ, List, [], ◌++◌}
use Rattle.tcf_wires.specs.Told.{WiresSeen}
use Rattle.serving_wires.proofs.Making.{makes_both, makes_none, makes_so}
use Rattle.serving_wires.specs.Calls.{Makes}
use Rattle.serving_wires.specs.OutboxValue.{OutboxValue}
use Rattle.serving_wires.specs.Row.{Row}
use Rattle.tcf_wires.specs.declared.call.WireCall.{WireCall}
use Rattle.serving_wires.specs.Going.{BreaksOff, Goes, answered, here, told}
use Rattle.serving_wires.specs.Process.{Process, done, and_then}

abbrev pub Rows : Type 0
Rows = List (Row OutboxValue)

pub goes_then : {A : Type 0} → (peer : List ℕ) (n m k : ℕ) (p q r : Process A) (olds mids news : Rows) (first rest : List WireCall)
    → Goes peer n m p q olds mids first → Goes peer m k q r mids news rest → Goes peer n k p r olds news (first ++ rest)
goes_then peer n m k p q r olds mids news first rest (here u p2 rows) more = more
goes_then peer n m k p q r olds mids news first rest (told u l order p2 q2 os ns cs goes) more =
    told n k order p2 r olds news (cs ++ rest) (goes_then peer n m k p2 q r _ mids news cs rest goes more)
goes_then peer n m k p q r olds mids news first rest (answered u l answer next q2 os ns cs fits goes) more =
    answered n k answer next r olds news (cs ++ rest) fits (goes_then peer _ m k (next answer) q r _ mids news cs rest goes more)

pub goes_bound : {A : Type 0} → {B : Type 0} → (peer : List ℕ) (n m : ℕ) (p q : Process A) (later : A → Process B) (olds news : Rows) (calls : List WireCall)
    → Goes peer n m p q olds news calls → Goes peer n m (and_then p later) (and_then q later) olds news calls
goes_bound peer n m p q later olds news calls (here u p2 rows) = here n (and_then p later) olds
goes_bound peer n m p q later olds news calls (told u l order p2 q2 os ns cs goes) =
    told n m order (and_then p2 later) (and_then q later) olds news cs (goes_bound peer n m p2 q later _ news cs goes)
goes_bound peer n m p q later olds news calls (answered u l answer next q2 os ns cs fits goes) =
    answered n m answer (λ a. and_then (next a) later) (and_then q later) olds news cs fits (goes_bound peer _ m (next answer) q later _ news cs goes)

pub goes_both : {A : Type 0} → {B : Type 0} → (peer : List ℕ) (n m k : ℕ) (p : Process A) (a : A) (later : A → Process B) (r : Process B) (olds mids news : Rows) (first rest : List WireCall)
    → Goes peer n m p (done a) olds mids first → Goes peer m k (later a) r mids news rest → Goes peer n k (and_then p later) r olds news (first ++ rest)
goes_both peer n m k p a later r olds mids news first rest one two =
    goes_then peer n m k (and_then p later) (later a) r olds mids news first rest (goes_bound peer n m p (done a) later olds mids first one) two

pub breaks_at_once : {A : Type 0} → (peer : List ℕ) (n : ℕ) (p : Process A) (olds : Rows) → BreaksOff peer n p olds []
breaks_at_once peer n p olds = record { later = n; to = p; news = olds; goes = here n p olds }

pub breaks_bound : {A : Type 0} → {B : Type 0} → (peer : List ℕ) (n : ℕ) (p : Process A) (later : A → Process B) (olds : Rows) (calls : List WireCall)
    → BreaksOff peer n p olds calls → BreaksOff peer n (and_then p later) olds calls
breaks_bound peer n p later olds calls b =
    record { later = b.later; to = and_then b.to later; news = b.news; goes = goes_bound peer n b.later p b.to later olds b.news calls b.goes }

pub breaks_then : {A : Type 0} → (peer : List ℕ) (n m : ℕ) (p q : Process A) (olds mids : Rows) (first rest : List WireCall)
    → Goes peer n m p q olds mids first → BreaksOff peer m q mids rest → BreaksOff peer n p olds (first ++ rest)
breaks_then peer n m p q olds mids first rest one b =
    record { later = b.later; to = b.to; news = b.news; goes = goes_then peer n m b.later p q b.to olds mids b.news first rest one b.goes }

pub breaks_both : {A : Type 0} → {B : Type 0} → (peer : List ℕ) (n m : ℕ) (p : Process A) (a : A) (later : A → Process B) (olds mids : Rows) (first rest : List WireCall)
    → Goes peer n m p (done a) olds mids first → BreaksOff peer m (later a) mids rest → BreaksOff peer n (and_then p later) olds (first ++ rest)
breaks_both peer n m p a later olds mids first rest one b =
    breaks_then peer n m (and_then p later) (later a) olds mids first rest (goes_bound peer n m p (done a) later olds mids first one) b

-- ---- so do the calls of the wires

pub made_then : {A : Type 0} → (peer : List ℕ) (n m k : ℕ) (p q r : Process A) (olds mids news : Rows) (seen seen1 seen2 : WiresSeen)
    → Makes (Goes peer n m p q olds mids) seen seen1 → Makes (Goes peer m k q r mids news) seen1 seen2 → Makes (Goes peer n k p r olds news) seen seen2
made_then peer n m k p q r olds mids news seen seen1 seen2 =
    makes_both (Goes peer n m p q olds mids) (Goes peer m k q r mids news) (Goes peer n k p r olds news) seen seen1 seen2
    (λ first rest one two. goes_then peer n m k p q r olds mids news first rest one two)

pub made_both : {A : Type 0} → {B : Type 0} → (peer : List ℕ) (n m k : ℕ) (p : Process A) (a : A) (later : A → Process B) (r : Process B) (olds mids news : Rows)
    (seen seen1 seen2 : WiresSeen)
    → Makes (Goes peer n m p (done a) olds mids) seen seen1 → Makes (Goes peer m k (later a) r mids news) seen1 seen2 → Makes (Goes peer n k (and_then p later) r olds news) seen seen2
made_both peer n m k p a later r olds mids news seen seen1 seen2 =
    makes_both (Goes peer n m p (done a) olds mids) (Goes peer m k (later a) r mids news) (Goes peer n k (and_then p later) r olds news) seen seen1 seen2
    (λ first rest one two. goes_both peer n m k p a later r olds mids news first rest one two)

pub made_behind : {A : Type 0} → {B : Type 0} → (peer : List ℕ) (n m : ℕ) (p : Process A) (a : A) (later : A → Process B) (r : Process B) (olds mids news : Rows)
    (seen seen1 : WiresSeen)
    → Makes (Goes peer n m p (done a) olds mids) seen seen1 → Goes peer m m (later a) r mids news [] → Makes (Goes peer n m (and_then p later) r olds news) seen seen1
made_behind peer n m p a later r olds mids news seen seen1 one two =
    made_both peer n m m p a later r olds mids news seen seen1 seen1 one (makes_none (Goes peer m m (later a) r mids news) seen1 two)

pub broken_at_once : {A : Type 0} → (peer : List ℕ) (n : ℕ) (p : Process A) (olds : Rows) (seen : WiresSeen) → Makes (BreaksOff peer n p olds) seen seen
broken_at_once peer n p olds seen = makes_none (BreaksOff peer n p olds) seen (breaks_at_once peer n p olds)

pub broken_bound : {A : Type 0} → {B : Type 0} → (peer : List ℕ) (n : ℕ) (p : Process A) (later : A → Process B) (olds : Rows) (seen seen1 : WiresSeen)
    → Makes (BreaksOff peer n p olds) seen seen1 → Makes (BreaksOff peer n (and_then p later) olds) seen seen1
broken_bound peer n p later olds seen seen1 =
    makes_so (BreaksOff peer n p olds) (BreaksOff peer n (and_then p later) olds) seen seen1 (λ calls b. breaks_bound peer n p later olds calls b)

pub broken_then : {A : Type 0} → (peer : List ℕ) (n m : ℕ) (p q : Process A) (olds mids : Rows) (seen seen1 seen2 : WiresSeen)
    → Makes (Goes peer n m p q olds mids) seen seen1 → Makes (BreaksOff peer m q mids) seen1 seen2 → Makes (BreaksOff peer n p olds) seen seen2
broken_then peer n m p q olds mids seen seen1 seen2 =
    makes_both (Goes peer n m p q olds mids) (BreaksOff peer m q mids) (BreaksOff peer n p olds) seen seen1 seen2
    (λ first rest one two. breaks_then peer n m p q olds mids first rest one two)

pub broken_both : {A : Type 0} → {B : Type 0} → (peer : List ℕ) (n m : ℕ) (p : Process A) (a : A) (later : A → Process B) (olds mids : Rows)
    (seen seen1 seen2 : WiresSeen)
    → Makes (Goes peer n m p (done a) olds mids) seen seen1 → Makes (BreaksOff peer m (later a) mids) seen1 seen2 → Makes (BreaksOff peer n (and_then p later) olds) seen seen2
broken_both peer n m p a later olds mids seen seen1 seen2 =
    makes_both (Goes peer n m p (done a) olds mids) (BreaksOff peer m (later a) mids) (BreaksOff peer n (and_then p later) olds) seen seen1 seen2
    (λ first rest one two. breaks_both peer n m p a later olds mids first rest one two)

-- done in part, and then memory was wanting
pub broken_behind : {A : Type 0} → (peer : List ℕ) (n m : ℕ) (p q : Process A) (olds mids : Rows) (seen seen1 : WiresSeen)
    → Makes (Goes peer n m p q olds mids) seen seen1 → Makes (BreaksOff peer n p olds) seen seen1
broken_behind peer n m p q olds mids seen seen1 =
    makes_so (Goes peer n m p q olds mids) (BreaksOff peer n p olds) seen seen1 (λ calls goes. record { later = m; to = q; news = mids; goes = goes })

pub broken_bound_behind : {A : Type 0} → {B : Type 0} → (peer : List ℕ) (n m : ℕ) (p : Process A) (a : A) (later : A → Process B) (olds mids : Rows) (seen seen1 : WiresSeen)
    → Makes (Goes peer n m p (done a) olds mids) seen seen1 → Makes (BreaksOff peer n (and_then p later) olds) seen seen1
broken_bound_behind peer n m p a later olds mids seen seen1 =
    makes_so (Goes peer n m p (done a) olds mids) (BreaksOff peer n (and_then p later) olds) seen seen1
    (λ calls goes. record { later = m; to = later a; news = mids; goes = goes_bound peer n m p (done a) later olds mids calls goes })

pub stays_here : {A : Type 0} → (peer : List ℕ) (n : ℕ) (p : Process A) (rows : Rows) (seen : WiresSeen) → Makes (Goes peer n n p p rows rows) seen seen
stays_here peer n p rows seen = makes_none (Goes peer n n p p rows rows) seen (here n p rows)

-- What is kept of each wire, by all that was ever queued for it.
use Rattle.std.proofs.Common.{◌≡◌, ℕ, ◌+◌, ◌<◌, ◌≤◌, ◌==◌, Bool, true, false, not, cond, List, [], ◌∷◌, ◌++◌, Some, None, refl, sym, ap, ◌∙◌, subst, arith, eqb-true, eq-eqb, ne_eqb}
use Rattle.std.specs.Prelude.{filter}
use Rattle.tcf_wires.specs.declared.call.WireCall.{WireCall}
use Rattle.serving_wires.specs.Calls.{events_in}
use Rattle.serving_wires.specs.Flushing.{HasOutbox, is_kept}
use Rattle.serving_wires.specs.Following.{IsFlushed, Spares}
use Rattle.serving_wires.specs.Outbox.{Flushes, IsGivenUp}
use Rattle.serving_wires.specs.OutboxValue.{OutboxValue}
use Rattle.serving_wires.specs.Row.{Row}
use Rattle.serving_wires.specs.Rows.{with_item}
use Rattle.serving_wires.specs.Serving.{EachBehind, IsInPlace, Nodes}
use Rattle.serving_wires.specs.WireLaws.{WireLaws}
use Rattle.serving_wires.proofs.Rows.{Below, changed_here, changed_later, first_changed, found, found_here, found_later, numbers}

-- how what is kept of a wire stands to what is known of all that was queued for it
pub record Relation (I T : Type 0) : Type 1 where
  pub has : HasOutbox T
  pub all : I → List ℕ
  pub Keeps : ℕ → I → T → List WireCall → Type 0

-- calls keep it
pub record KeepsOn {I T : Type 0} (r : Relation I T) : Type 0 where
  pub laws : WireLaws
  pub at : (channel : ℕ) (i : I) (t : T) (calls : List WireCall) → r.Keeps channel i t calls → (r.has.outbox t).channel ≡ channel
  pub others : (channel : ℕ) (i : I) (t : T) (calls more : List WireCall) → Spares channel more → r.Keeps channel i t calls → r.Keeps channel i t (calls ++ more)
  pub flushing : (channel : ℕ) (i : I) (t : T) (outbox : OutboxValue) (calls more : List WireCall) → Flushes (r.has.outbox t) outbox more → r.Keeps channel i t calls
      → r.Keeps channel i (r.has.with_outbox outbox t) (calls ++ more)
  pub flushed : (channel : ℕ) (i : I) (t : T) (outbox : OutboxValue) (calls more : List WireCall) → Flushes (r.has.outbox t) outbox more → r.Keeps channel i t calls
      → IsFlushed (r.has.outbox (r.has.with_outbox outbox t)) (calls ++ more)
  pub in_place : (nodes : Nodes) (channel : ℕ) (i : I) (t : T) (outbox : OutboxValue) (calls more : List WireCall) → nodes.served (events_in calls) channel ≡ r.all i
      → Flushes (r.has.outbox t) outbox more → r.Keeps channel i t calls → EachBehind (IsInPlace nodes) calls more
  pub gives_up : (nodes : Nodes) (channel : ℕ) (i : I) (t : T) (calls more : List WireCall) → nodes.served (events_in calls) channel ≡ r.all i
      → IsGivenUp (r.has.outbox t) more → r.Keeps channel i t calls → EachBehind (IsInPlace nodes) calls more

-- a row that is kept, and one that was forgotten, since its wire was shut
pub record IsKept {I T : Type 0} (r : Relation I T) (calls : List WireCall) (low : ℕ) (ideal : Row I) (real : Row T) : Type 0 where
  pub above : low ≤ ideal.channel
  pub same : real.channel ≡ ideal.channel
  pub keeps : r.Keeps ideal.channel ideal.item real.item calls

pub record IsGone {I T : Type 0} (r : Relation I T) (calls : List WireCall) (low : ℕ) (ideal : Row I) : Type 0 where
  pub above : low ≤ ideal.channel
  pub last : T
  pub shut : (r.has.outbox last).is_shut ≡ true
  pub keeps : r.Keeps ideal.channel ideal.item last calls

-- wire by wire, in rising order of the channels, from this number on
pub data Stand {I T : Type 0} (r : Relation I T) (calls : List WireCall) : ℕ → List (Row I) → List (Row T) → Type 0 where
  none : (low : ℕ) → Stand r calls low [] []
  kept : (low : ℕ) (ideal : Row I) (real : Row T) (ideals : List (Row I)) (reals : List (Row T)) → IsKept r calls low ideal real
      → Stand r calls (ideal.channel + 1) ideals reals → Stand r calls low (ideal ∷ ideals) (real ∷ reals)
  gone : (low : ℕ) (ideal : Row I) (ideals : List (Row I)) (reals : List (Row T)) → IsGone r calls low ideal
      → Stand r calls (ideal.channel + 1) ideals reals → Stand r calls low (ideal ∷ ideals) reals

-- the first wire, and the others
pub data NextStand {I T : Type 0} (r : Relation I T) (calls : List WireCall) (low : ℕ) (ideal : Row I) (ideals : List (Row I)) (reals : List (Row T)) : Type 0 where
  next_kept : (real : Row T) (rest : List (Row T)) → reals ≡ real ∷ rest → IsKept r calls low ideal real → Stand r calls (ideal.channel + 1) ideals rest
      → NextStand r calls low ideal ideals reals
  next_gone : IsGone r calls low ideal → Stand r calls (ideal.channel + 1) ideals reals → NextStand r calls low ideal ideals reals

pub next_stand : {I T : Type 0} → (r : Relation I T) (calls : List WireCall) (low : ℕ) (ideal : Row I) (ideals : List (Row I)) (reals : List (Row T)) → Stand r calls low (ideal ∷ ideals) reals
    → NextStand r calls low ideal ideals reals
next_stand r calls low ideal ideals reals (kept n i real is rs k rest) = next_kept real rs refl k rest
next_stand r calls low ideal ideals reals (gone n i is rs lost rest) = next_gone lost rest

pub no_stand : {I T : Type 0} → (r : Relation I T) (calls : List WireCall) (low : ℕ) (reals : List (Row T)) → Stand r calls low [] reals → reals ≡ []
no_stand r calls low reals (none n) = refl

-- ---- below the wires there is none

pub record IsMissing {I T : Type 0} (channel : ℕ) (ideals : List (Row I)) (reals : List (Row T)) : Type 0 where
  pub ideal : found channel ideals ≡ None
  pub real : found channel reals ≡ None

off : (m n : ℕ) → n < m → (m == n) ≡ false
off m n less = ne_eqb m n (λ same. absurd (omega (arith, less, same)))

pub missing_below : {I T : Type 0} → (r : Relation I T) (calls : List WireCall) (low : ℕ) (ideals : List (Row I)) (reals : List (Row T)) → Stand r calls low ideals reals
    → (channel : ℕ) → channel < low → IsMissing channel ideals reals
missing_below r calls low ideals reals (none n) channel less = record { ideal = refl; real = refl }
missing_below r calls low ideals reals (kept n ideal real is rs k rest) channel less =
    let later = missing_below r calls (ideal.channel + 1) is rs rest channel (omega (arith, less, k.above)) in
    record {
      ideal = found_later channel ideal is (off ideal.channel channel (omega (arith, less, k.above))) ∙ later.ideal;
      real = found_later channel real rs (off real.channel channel (omega (arith, less, k.above, k.same))) ∙ later.real;
    }
missing_below r calls low ideals reals (gone n ideal is rs lost rest) channel less =
    let later = missing_below r calls (ideal.channel + 1) is rs rest channel (omega (arith, less, lost.above)) in
    record {
      ideal = found_later channel ideal is (off ideal.channel channel (omega (arith, less, lost.above))) ∙ later.ideal;
      real = later.real;
    }

-- ---- the wire of a channel, in both

pub data Meets {I T : Type 0} (r : Relation I T) (calls : List WireCall) (low channel : ℕ) (ideals : List (Row I)) (reals : List (Row T)) : Type 0 where
  neither : IsMissing channel ideals reals → Meets r calls low channel ideals reals
  both : (i : I) (t : T) → found channel ideals ≡ Some i → found channel reals ≡ Some t → r.Keeps channel i t calls
      → ((change : I → I) (change_real : T → T) → r.Keeps channel (change i) (change_real t) calls
      → Stand r calls low (first_changed channel change ideals) (first_changed channel change_real reals))
      → Meets r calls low channel ideals reals
  shut : (i : I) (last : T) → found channel ideals ≡ Some i → found channel reals ≡ None → (r.has.outbox last).is_shut ≡ true → r.Keeps channel i last calls
      → ((change : I → I) → r.Keeps channel (change i) last calls → Stand r calls low (first_changed channel change ideals) reals)
      → Meets r calls low channel ideals reals

meets_kept : {I T : Type 0} → (r : Relation I T) (calls : List WireCall) (low channel : ℕ) (ideal : Row I) (real : Row T) (is : List (Row I)) (rs : List (Row T)) → IsKept r calls low ideal real
    → (ideal.channel == channel) ≡ true → Stand r calls (ideal.channel + 1) is rs → Meets r calls low channel (ideal ∷ is) (real ∷ rs)
meets_kept {I = I} {T = T} r calls low channel ideal real is rs k here rest =
    let at : ideal.channel ≡ channel = eqb-true ideal.channel channel here in
    let there : (real.channel == channel) ≡ true = eq-eqb real.channel channel (k.same ∙ at) in
    both ideal.item real.item (found_here channel ideal is here) (found_here channel real rs there) (subst (λ (n : ℕ). r.Keeps n ideal.item real.item calls) at k.keeps)
    (λ change change_real keeps.
    rw (changed_here channel change ideal is here, changed_here channel change_real real rs there)
    (kept low (with_item (change ideal.item) ideal) (with_item (change_real real.item) real) is rs
    (record { above = k.above; same = k.same; keeps = subst (λ (n : ℕ). r.Keeps n (change ideal.item) (change_real real.item) calls) (sym at) keeps }) rest))

later_kept : {I T : Type 0} → (r : Relation I T) (calls : List WireCall) (low channel : ℕ) (ideal : Row I) (real : Row T) (is : List (Row I)) (rs : List (Row T)) → IsKept r calls low ideal real
    → (ideal.channel == channel) ≡ false → Stand r calls (ideal.channel + 1) is rs → Meets r calls (ideal.channel + 1) channel is rs → Meets r calls low channel (ideal ∷ is) (real ∷ rs)
later_kept r calls low channel ideal real is rs k away rest (neither m) =
    let away_too : (real.channel == channel) ≡ false = ap (λ (n : ℕ). n == channel) k.same ∙ away in
    neither (record { ideal = found_later channel ideal is away ∙ m.ideal; real = found_later channel real rs away_too ∙ m.real })
later_kept r calls low channel ideal real is rs k away rest (both i t first second keeps goes) =
    let away_too : (real.channel == channel) ≡ false = ap (λ (n : ℕ). n == channel) k.same ∙ away in
    both i t (found_later channel ideal is away ∙ first) (found_later channel real rs away_too ∙ second) keeps
    (λ change change_real so.
    rw (changed_later channel change ideal is away, changed_later channel change_real real rs away_too)
    (kept low ideal real (first_changed channel change is) (first_changed channel change_real rs) k (goes change change_real so)))
later_kept r calls low channel ideal real is rs k away rest (shut i last first second done keeps goes) =
    let away_too : (real.channel == channel) ≡ false = ap (λ (n : ℕ). n == channel) k.same ∙ away in
    shut i last (found_later channel ideal is away ∙ first) (found_later channel real rs away_too ∙ second) done keeps
    (λ change so. rw (changed_later channel change ideal is away) (kept low ideal real (first_changed channel change is) rs k (goes change so)))

meets_gone : {I T : Type 0} → (r : Relation I T) (calls : List WireCall) (low channel : ℕ) (ideal : Row I) (is : List (Row I)) (rs : List (Row T)) → IsGone r calls low ideal
    → (ideal.channel == channel) ≡ true → Stand r calls (ideal.channel + 1) is rs → Meets r calls low channel (ideal ∷ is) rs
meets_gone r calls low channel ideal is rs lost here rest =
    let at : ideal.channel ≡ channel = eqb-true ideal.channel channel here in
    let none_there = missing_below r calls (ideal.channel + 1) is rs rest channel (omega (arith, at)) in
    shut ideal.item lost.last (found_here channel ideal is here) none_there.real lost.shut (subst (λ (n : ℕ). r.Keeps n ideal.item lost.last calls) at lost.keeps)
    (λ change keeps.
    rw (changed_here channel change ideal is here)
    (gone low (with_item (change ideal.item) ideal) is rs
    (record { above = lost.above; last = lost.last; shut = lost.shut; keeps = subst (λ (n : ℕ). r.Keeps n (change ideal.item) lost.last calls) (sym at) keeps }) rest))

later_gone : {I T : Type 0} → (r : Relation I T) (calls : List WireCall) (low channel : ℕ) (ideal : Row I) (is : List (Row I)) (rs : List (Row T)) → IsGone r calls low ideal
    → (ideal.channel == channel) ≡ false → Meets r calls (ideal.channel + 1) channel is rs → Meets r calls low channel (ideal ∷ is) rs
later_gone r calls low channel ideal is rs lost away (neither m) = neither (record { ideal = found_later channel ideal is away ∙ m.ideal; real = m.real })
later_gone r calls low channel ideal is rs lost away (both i t first second keeps goes) =
    both i t (found_later channel ideal is away ∙ first) second keeps
    (λ change change_real so.
    rw (changed_later channel change ideal is away) (gone low ideal (first_changed channel change is) (first_changed channel change_real rs) lost (goes change change_real so)))
later_gone r calls low channel ideal is rs lost away (shut i last first second done keeps goes) =
    shut i last (found_later channel ideal is away ∙ first) second done keeps
    (λ change so. rw (changed_later channel change ideal is away) (gone low ideal (first_changed channel change is) rs lost (goes change so)))

pub meets : {I T : Type 0} → (r : Relation I T) (calls : List WireCall) (low : ℕ) (ideals : List (Row I)) (reals : List (Row T)) → Stand r calls low ideals reals
    → (channel : ℕ) → Meets r calls low channel ideals reals
meets r calls low ideals reals (none n) channel = neither (record { ideal = refl; real = refl })
meets r calls low ideals reals (kept n ideal real is rs k rest) channel = by_flag (ideal.channel == channel) refl (meets r calls (ideal.channel + 1) is rs rest channel)
  where
    by_flag : (flag : Bool) → (ideal.channel == channel) ≡ flag → Meets r calls (ideal.channel + 1) channel is rs → Meets r calls low channel (ideal ∷ is) (real ∷ rs)
    by_flag true here later = meets_kept r calls low channel ideal real is rs k here rest
    by_flag false away later = later_kept r calls low channel ideal real is rs k away rest later
meets r calls low ideals reals (gone n ideal is rs lost rest) channel = by_flag (ideal.channel == channel) refl (meets r calls (ideal.channel + 1) is rs rest channel)
  where
    by_flag : (flag : Bool) → (ideal.channel == channel) ≡ flag → Meets r calls (ideal.channel + 1) channel is rs → Meets r calls low channel (ideal ∷ is) rs
    by_flag true here later = meets_gone r calls low channel ideal is rs lost here rest
    by_flag false away later = later_gone r calls low channel ideal is rs lost away later

-- ---- more calls, on no channel of these wires

pub stand_more : {I T : Type 0} → (r : Relation I T) → KeepsOn r → (calls more : List WireCall) (low : ℕ) (ideals : List (Row I)) (reals : List (Row T))
    → ((channel : ℕ) → low ≤ channel → Spares channel more) → Stand r calls low ideals reals → Stand r (calls ++ more) low ideals reals
stand_more r on calls more low ideals reals spares (none n) = none low
stand_more r on calls more low ideals reals spares (kept n ideal real is rs k rest) =
    kept low ideal real is rs
    (record { above = k.above; same = k.same; keeps = on.others ideal.channel ideal.item real.item calls more (spares ideal.channel k.above) k.keeps })
    (stand_more r on calls more (ideal.channel + 1) is rs (λ channel above. spares channel (omega (arith, above, k.above))) rest)
stand_more r on calls more low ideals reals spares (gone n ideal is rs lost rest) =
    gone low ideal is rs
    (record {
      above = lost.above;
      last = lost.last;
      shut = lost.shut;
      keeps = on.others ideal.channel ideal.item lost.last calls more (spares ideal.channel lost.above) lost.keeps;
    })
    (stand_more r on calls more (ideal.channel + 1) is rs (λ channel above. spares channel (omega (arith, above, lost.above))) rest)

-- ---- one more wire, above all

pub stand_push : {I T : Type 0} → (r : Relation I T) (calls : List WireCall) (low channel : ℕ) (i : I) (t : T) (ideals : List (Row I)) (reals : List (Row T)) → low ≤ channel
    → Below channel (numbers ideals) → r.Keeps channel i t calls → Stand r calls low ideals reals
    → Stand r calls low (ideals ++ (record { channel = channel; item = i }) ∷ []) (reals ++ (record { channel = channel; item = t }) ∷ [])
stand_push {I = I} {T = T} r calls low channel i t ideals reals above below keeps (none n) =
    let ideal : Row I = record { channel = channel; item = i } in
    let real : Row T = record { channel = channel; item = t } in
    kept low ideal real [] [] (record { above = above; same = refl; keeps = keeps }) (none (channel + 1))
stand_push {I = I} {T = T} r calls low channel i t ideals reals above below keeps (kept n ideal real is rs k rest) =
    let new_ideal : Row I = record { channel = channel; item = i } in
    let new_real : Row T = record { channel = channel; item = t } in
    kept low ideal real (is ++ new_ideal ∷ []) (rs ++ new_real ∷ []) k
    (stand_push r calls (ideal.channel + 1) channel i t is rs (omega (arith, below.0)) below.1 keeps rest)
stand_push {I = I} {T = T} r calls low channel i t ideals reals above below keeps (gone n ideal is rs lost rest) =
    let new_ideal : Row I = record { channel = channel; item = i } in
    let new_real : Row T = record { channel = channel; item = t } in
    gone low ideal (is ++ new_ideal ∷ []) (rs ++ new_real ∷ []) lost
    (stand_push r calls (ideal.channel + 1) channel i t is rs (omega (arith, below.0)) below.1 keeps rest)

-- ---- rows of wires that were shut are forgotten

filter_kept : {I T : Type 0} → (r : Relation I T) (calls : List WireCall) (low : ℕ) (ideal : Row I) (real : Row T) (is : List (Row I)) (rs : List (Row T)) (flag : Bool)
    → (r.has.outbox real.item).is_shut ≡ flag → IsKept r calls low ideal real
    → Stand r calls (ideal.channel + 1) is (filter (is_kept r.has) rs) → Stand r calls low (ideal ∷ is) (filter (is_kept r.has) (real ∷ rs))
filter_kept {I = I} {T = T} r calls low ideal real is rs true done k rest =
    subst (λ (rows : List (Row T)). Stand r calls low (ideal ∷ is) rows) (sym (ap (λ (b : Bool). cond (not b) (real ∷ filter (is_kept r.has) rs) (filter (is_kept r.has) rs)) done))
    (gone low ideal is (filter (is_kept r.has) rs) (record { above = k.above; last = real.item; shut = done; keeps = k.keeps }) rest)
filter_kept {I = I} {T = T} r calls low ideal real is rs false open_still k rest =
    subst (λ (rows : List (Row T)). Stand r calls low (ideal ∷ is) rows) (sym (ap (λ (b : Bool). cond (not b) (real ∷ filter (is_kept r.has) rs) (filter (is_kept r.has) rs)) open_still))
    (kept low ideal real is (filter (is_kept r.has) rs) k rest)

pub filter_keeps : {I T : Type 0} → (r : Relation I T) (calls : List WireCall) (low : ℕ) (ideals : List (Row I)) (reals : List (Row T)) → Stand r calls low ideals reals
    → Stand r calls low ideals (filter (is_kept r.has) reals)
filter_keeps r calls low ideals reals (none n) = none low
filter_keeps r calls low ideals reals (kept n ideal real is rs k rest) =
    filter_kept r calls low ideal real is rs (r.has.outbox real.item).is_shut refl k (filter_keeps r calls (ideal.channel + 1) is rs rest)
filter_keeps r calls low ideals reals (gone n ideal is rs lost rest) = gone low ideal is (filter (is_kept r.has) reals) lost (filter_keeps r calls (ideal.channel + 1) is reals rest)

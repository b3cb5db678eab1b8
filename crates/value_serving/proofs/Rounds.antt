-- What waits is given, one after the other: behind each fewer wait.
use Rattle.std.proofs.Common.{◌≡◌, ℕ, zero, suc, ◌+◌, ◌<◌, ◌≤◌, Bool, true, false, List, [], ◌∷◌, length, nat_lt, Option, Some, None, refl, sym, ap, ◌∙◌, subst, arith}
use Rattle.std.specs.Prelude.{Err, Ok, if◌then◌else◌}
use Rattle.std.proofs.lemmas.Option.{none-some}
use Rattle.tcf_wires.specs.Told.{WiresSeen}
use Rattle.tcf_wires.specs.declared.call.WireCall.{WireCall}
use Rattle.serving_wires.proofs.Making.{makes_both, makes_none, makes_so}
use Rattle.serving_wires.specs.Calls.{Makes}
use Rattle.serving_wires.specs.Intake.{left_for, next_for}
use Rattle.serving_wires.specs.declared.intake.Came.{Came}
use Rattle.serving_wires.specs.declared.intake.Came.TheVariants.{Piece, End}
use Rattle.value_node.specs.ValueValue.{ValueValue}
use Rattle.value_node.specs.declared.states.Side.TheVariants.{Below, Above}
use Rattle.value_node.specs.declared.states.ValueTurn.{ValueTurn}
use Rattle.value_node.specs.declared.states.ValueTurn.TheVariants.{Nothing, Took, Connect}
use Rattle.value_serving.specs.Adds.{can_give, given_above, given_below, next_given, one_taken, waiting_on, with_node}
use Rattle.serving_wires.specs.Going.{BreaksOff, Goes, answered as goes_answered, here, told}
use Rattle.value_serving.specs.Passing.{after_giving, after_turn, answered, count_of, given_so_many, leaving, passed_on, room_made, taken}
use Rattle.serving_wires.specs.Process.{Answer, Process, asks, done, tells, and_then}
use Rattle.value_serving.specs.declared.add.Add.{Add}
use Rattle.serving_wires.proofs.Leading.{breaks_bound, breaks_then, goes_bound, goes_then}
use Rattle.serving_wires.proofs.Leading.{Rows}

-- ---- what is given waits no more

shorter : (inbox : ℕ) (waiting : List Came) → length (left_for inbox waiting) ≤ length waiting
shorter inbox [] = omega arith
shorter inbox (Piece bytes ∷ later) = by_flag (nat_lt inbox 200)
  where
    by_flag : (flag : Bool) → length (if flag then later else Piece bytes ∷ later) ≤ length (Piece bytes ∷ later)
    by_flag true = omega arith
    by_flag false = omega arith
shorter inbox (End ∷ later) = omega arith

piece_given : (flag : Bool) (bytes : List ℕ) (later : List Came) (what : Came) → (if flag then Some (Piece bytes) else None) ≡ Some what
    → length (if flag then later else Piece bytes ∷ later) < length (Piece bytes ∷ later)
piece_given true bytes later what is = omega arith
piece_given false bytes later what is = absurd (none-some what is)

one_shorter : (inbox : ℕ) (waiting : List Came) (what : Came) → next_for inbox waiting ≡ Some what → length (left_for inbox waiting) < length waiting
one_shorter inbox [] what is = absurd (none-some what is)
one_shorter inbox (Piece bytes ∷ later) what is = piece_given (nat_lt inbox 200) bytes later what is
one_shorter inbox (End ∷ later) what is = omega arith

abbrev Fewer : Add → Bool × Add → Type 0
Fewer a (true, next) = count_of next < count_of a
Fewer a (false, next) = count_of next ≤ count_of a

above_fewer : (first a : Add) (what : Option Came) → next_for (waiting_on Above a) a.upper ≡ what → count_of a ≤ count_of first
    → Fewer first (given_above what (record a { upper = left_for (waiting_on Above a) a.upper }))
above_fewer first a None is less = let left = shorter (waiting_on Above a) a.upper in omega (arith, left, less)
above_fewer first a (Some what) is less = let left = one_shorter (waiting_on Above a) a.upper what is in omega (arith, left, less)

below_fewer : (a : Add) (what : Option Came) → next_for (waiting_on Below a) a.lower ≡ what
    → Fewer a (given_below what (record a { lower = left_for (waiting_on Below a) a.lower }))
below_fewer a None is =
    let left = shorter (waiting_on Below a) a.lower in
    let b : Add = record a { lower = left_for (waiting_on Below a) a.lower } in
    above_fewer a b (next_for (waiting_on Above b) b.upper) refl (omega (arith, left))
below_fewer a (Some what) is = let left = one_shorter (waiting_on Below a) a.lower what is in omega (arith, left)

given_fewer : (a : Add) → Fewer a (next_given a)
unfolding next_given
given_fewer a = below_fewer a (next_for (waiting_on Below a) a.lower) refl

pub fewer_wait : (flag : Bool) (a next : Add) → (flag, next) ≡ next_given a → flag ≡ true → count_of next < count_of a
fewer_wait true a next is so = subst (λ (x : Bool × Add). Fewer a x) (sym is) (given_fewer a)
fewer_wait false a next is so = absurd cc

-- where nothing waits nothing is given
none_wait_by : (lower upper : List Came) (a : Add) → length lower + length upper ≡ 0 → next_given (record a { lower = lower; upper = upper }) ≡ (false, record a { lower = lower; upper = upper })
unfolding next_given
none_wait_by [] [] a none = refl
none_wait_by [] (x ∷ xs) a none = absurd (omega (arith, none))
none_wait_by (x ∷ xs) upper a none = absurd (omega (arith, none))

none_wait : (a : Add) → count_of a ≡ 0 → next_given a ≡ (false, a)
none_wait a none = none_wait_by a.lower a.upper a none

-- ---- no process makes more wait

abbrev pub Within : ℕ → Process Add → Type 0
Within most (done a) = count_of a ≤ most
Within most (tells order p) = Within most p
Within most (asks next) = (answer : Answer) → Within most (next answer)

within_then : (most : ℕ) (p : Process Add) (later : Add → Process Add) → Within most p → ((a : Add) → count_of a ≤ most → Within most (later a)) → Within most (and_then p later)
within_then most (done a) later within so = so a within
within_then most (tells order p) later within so = within_then most p later within so
within_then most (asks next) later within so = λ answer. within_then most (next answer) later (within answer) so

within_left : (most : ℕ) (above : Option ℕ) (a : Add) → count_of a ≤ most → Within most (leaving above (done a))
within_left most None a less = less
within_left most (Some earlier) a less = less

within_answered : (most : ℕ) (answer : Answer) (a : Add) → count_of a ≤ most → Within most (answered answer a)
within_answered most (Ok channel) a less = within_left most a.above _ (omega (arith, less))
within_answered most (Err refusal) a less = less

within_turn : (most : ℕ) (turn : ValueTurn) (v : ValueValue) (a : Add) (later : Add → Process Add) → count_of a ≤ most → ((b : Add) → count_of b ≤ most → Within most (later b))
    → Within most (after_turn (turn, v) a later)
within_turn most Nothing v a later less so = less
within_turn most Took v a later less so = so (with_node v a) less
within_turn most Connect v a later less so = λ answer. within_then most (answered answer (with_node v a)) later (within_answered most answer (with_node v a) less) so

within_unless : (most : ℕ) (flag : Bool) (a : Add) (p : Process Add) → count_of a ≤ most → Within most p → Within most (if flag then done a else p)
within_unless most true a p less within = less
within_unless most false a p less within = within

within_taken : (most count : ℕ) (a : Add) → count_of a ≤ most → Within most (taken count a)
within_taken most zero a less = less
within_taken most (suc count) a less =
    within_unless most (can_give a) a (after_turn (one_taken a.node) a (λ next. taken count next)) less
    (within_turn most (one_taken a.node).0 (one_taken a.node).1 a (λ next. taken count next) less (λ b fewer. within_taken most count b fewer))

within_room : (a : Add) → Within (count_of a) (room_made a)
unfolding room_made
within_room a =
    within_then (count_of a) (taken (waiting_on Above a) a) (λ next. taken (waiting_on Below a) next) (within_taken (count_of a) (waiting_on Above a) a (omega arith))
    (λ b fewer. within_taken (count_of a) (waiting_on Below a) b fewer)

within_goes : (peer : List ℕ) (n m most : ℕ) (p q : Process Add) (olds news : Rows) (calls : List WireCall) → Goes peer n m p q olds news calls → Within most p → Within most q
within_goes peer n m most p q olds news calls (here u p2 rows) within = within
within_goes peer n m most p q olds news calls (told u l order p2 q2 os ns cs goes) within = within_goes peer n m most p2 q _ news cs goes within
within_goes peer n m most p q olds news calls (goes_answered u l answer next q2 os ns cs fits goes) within =
    within_goes peer _ m most (next answer) q _ news cs goes (within answer)

pub taken_within : (peer : List ℕ) (n m : ℕ) (a next : Add) (olds news : Rows) (seen seen1 : WiresSeen)
    → Makes (Goes peer n m (room_made a) (done next) olds news) seen seen1 → count_of next ≤ count_of a
taken_within peer n m a next olds news seen seen1 made = within_goes peer n m (count_of a) (room_made a) (done next) olds news made.calls made.fits (within_room a)

-- ---- as the code goes on

pub record PassesTo (peer : List ℕ) (n m : ℕ) (first now : Add) (olds news : Rows) (seen seen1 : WiresSeen) : Type 0 where
  pub rounds : ℕ
  pub enough : count_of now ≤ rounds
  pub goes : Makes (Goes peer n m (passed_on first) (given_so_many rounds now) olds news) seen seen1

pub pass_begins : (peer : List ℕ) (n : ℕ) (a : Add) (rows : Rows) (seen : WiresSeen) → PassesTo peer n n a a rows rows seen seen
unfolding passed_on
pass_begins peer n a rows seen =
    record {
      rounds = count_of a;
      enough = omega arith;
      goes = makes_none (Goes peer n n (passed_on a) (given_so_many (count_of a) a) rows rows) seen (here n (passed_on a) rows);
    }

-- one round more
abbrev round_of : ℕ → Add → Process Add
round_of rounds given = and_then (room_made given) (λ last. given_so_many rounds last)

one_round : (rounds : ℕ) (now given : Add) (flag : Bool) → (flag, given) ≡ next_given now → flag ≡ true → given_so_many (suc rounds) now ≡ round_of rounds given
one_round rounds now given flag is so =
    ap (λ (x : Bool × Add). after_giving x (λ next. round_of rounds next)) (sym is) ∙ ap (λ (b : Bool). after_giving (b, given) (λ next. round_of rounds next)) so

record NextRound (rounds : ℕ) (now given : Add) : Type 0 where
  rest : ℕ
  fewer : count_of given ≤ rest
  is : given_so_many rounds now ≡ round_of rest given

next_round : (rounds : ℕ) (now given : Add) (flag : Bool) → (flag, given) ≡ next_given now → flag ≡ true → count_of now ≤ rounds → NextRound rounds now given
next_round zero now given flag is so enough = absurd (let less = fewer_wait flag now given is so in omega (arith, less, enough))
next_round (suc rounds) now given flag is so enough =
    record { rest = rounds; fewer = (let less = fewer_wait flag now given is so in omega (arith, less, enough)); is = one_round rounds now given flag is so }

pub pass_next : (peer : List ℕ) (n m k : ℕ) (first now given next : Add) (flag : Bool) (olds mids news : Rows) (seen seen1 seen2 : WiresSeen)
    → (flag, given) ≡ next_given now → flag ≡ true → PassesTo peer n m first now olds mids seen seen1
    → Makes (Goes peer m k (room_made given) (done next) mids news) seen1 seen2 → PassesTo peer n k first next olds news seen seen2
pass_next peer n m k first now given next flag olds mids news seen seen1 seen2 is so passes made =
    let r = next_round passes.rounds now given flag is so passes.enough in
    record {
      rounds = r.rest;
      enough = (let less = taken_within peer m k given next mids news seen1 seen2 made in omega (arith, less, r.fewer));
      goes = makes_both (Goes peer n m (passed_on first) (given_so_many passes.rounds now) olds mids) (Goes peer m k (room_made given) (done next) mids news)
          (Goes peer n k (passed_on first) (given_so_many r.rest next) olds news) seen seen1 seen2
          (λ calls more one two.
          goes_then peer n m k (passed_on first) (given_so_many passes.rounds now) (given_so_many r.rest next) olds mids news calls more one
          (subst (λ (p : Process Add). Goes peer m k p (given_so_many r.rest next) mids news more) (sym r.is)
          (goes_bound peer m k (room_made given) (done next) (λ last. given_so_many r.rest last) mids news more two)))
          passes.goes made;
    }

pub pass_breaks : (peer : List ℕ) (n m : ℕ) (first now given : Add) (flag : Bool) (olds mids : Rows) (seen seen1 seen2 : WiresSeen)
    → (flag, given) ≡ next_given now → flag ≡ true → PassesTo peer n m first now olds mids seen seen1
    → Makes (BreaksOff peer m (room_made given) mids) seen1 seen2 → Makes (BreaksOff peer n (passed_on first) olds) seen seen2
pass_breaks peer n m first now given flag olds mids seen seen1 seen2 is so passes =
    let r = next_round passes.rounds now given flag is so passes.enough in
    makes_both (Goes peer n m (passed_on first) (given_so_many passes.rounds now) olds mids) (BreaksOff peer m (room_made given) mids) (BreaksOff peer n (passed_on first) olds) seen seen1 seen2
    (λ calls more one two.
    breaks_then peer n m (passed_on first) (given_so_many passes.rounds now) olds mids calls more one
    (subst (λ (p : Process Add). BreaksOff peer m p mids more) (sym r.is) (breaks_bound peer m (room_made given) (λ last. given_so_many r.rest last) mids more two)))
    passes.goes

pub pass_not_given : (peer : List ℕ) (n m : ℕ) (first now : Add) (olds mids : Rows) (seen seen1 : WiresSeen) → PassesTo peer n m first now olds mids seen seen1
    → Makes (BreaksOff peer n (passed_on first) olds) seen seen1
pass_not_given peer n m first now olds mids seen seen1 passes =
    makes_so (Goes peer n m (passed_on first) (given_so_many passes.rounds now) olds mids) (BreaksOff peer n (passed_on first) olds) seen seen1
    (λ calls goes. record { later = m; to = given_so_many passes.rounds now; news = mids; goes = goes }) passes.goes

last_round : (rounds : ℕ) (now given : Add) (flag : Bool) → (flag, given) ≡ next_given now → flag ≡ false → count_of now ≤ rounds → given_so_many rounds now ≡ done given
last_round zero now given flag is so enough =
    let none : count_of now ≡ 0 = omega (arith, enough) in
    ap (λ (x : Bool × Add). done x.1) (sym (is ∙ none_wait now none))
last_round (suc rounds) now given flag is so enough =
    ap (λ (x : Bool × Add). after_giving x (λ next. round_of rounds next)) (sym is) ∙ ap (λ (b : Bool). after_giving (b, given) (λ next. round_of rounds next)) so

pub pass_ends : (peer : List ℕ) (n m : ℕ) (first now given : Add) (flag : Bool) (olds news : Rows) (seen seen1 : WiresSeen)
    → (flag, given) ≡ next_given now → flag ≡ false → PassesTo peer n m first now olds news seen seen1 → Makes (Goes peer n m (passed_on first) (done given) olds news) seen seen1
pass_ends peer n m first now given flag olds news seen seen1 is so passes =
    makes_so (Goes peer n m (passed_on first) (given_so_many passes.rounds now) olds news) (Goes peer n m (passed_on first) (done given) olds news) seen seen1
    (λ calls goes. subst (λ (p : Process Add). Goes peer n m (passed_on first) p olds news calls) (last_round passes.rounds now given flag is so passes.enough) goes) passes.goes

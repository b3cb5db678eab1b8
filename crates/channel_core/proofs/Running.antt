-- What holds after every list of calls: each call keeps it.
use Rattle.std.proofs.Common.{ℕ, List, [], ◌∷◌, Option, refl, arith}
use Rattle.channel_core.specs.Beginning.{new_end}
use Rattle.channel_core.specs.EndValue.{EndValue}
use Rattle.channel_core.specs.Runs.{Call, Run, begun, after_call, after_calls}
use Rattle.channel_core.specs.ReceivingLaws.{CanBeRead, QueuesReadable, SendsReadable}
use Rattle.channel_core.specs.RunLaws.{AfterAllCalls, IsUnspent, QueuesInOrder, SendsInOrder, CountsAnswers, TakesOwnAnswers, EndsOnce, StaysClosed, HoldsNoneWhereFree, IsLoudAsTold}
use Rattle.channel_core.proofs.Keeping.{IsTidy}
use Rattle.channel_core.proofs.Tidy.{tidy_open, tidy_called}
use Rattle.channel_core.proofs.Fresh.{IsFresh, fresh_called}
use Rattle.channel_core.proofs.InOrder.{in_order}
use Rattle.channel_core.proofs.Free.{HoldsNone, free_called}
use Rattle.channel_core.proofs.Commands.{AreSplit, split_called, sends_in_order}
use Rattle.channel_core.proofs.Ends.{IsEndingRun, ending_open, ending_called, ends_once, stays_closed}
use Rattle.channel_core.proofs.Finals.{IsCountedRun, counted_called, counts_answers}
use Rattle.channel_core.proofs.Own.{takes_own_answers}
use Rattle.channel_core.proofs.Saying.{IsSayingRun, can_be_read, saying_called, saying_first}
use Rattle.channel_core.proofs.Levels.{IsLeveledRun, level_called, is_loud_as_told}

pub record Stands {T : Type 0} (r : Run T) : Type 0 where
  pub tidy : IsTidy r.end
  pub fresh : IsFresh r.end
  pub order : QueuesInOrder r
  pub free : HoldsNone r.end
  pub split : AreSplit r
  pub ending : IsEndingRun r
  pub counted : IsCountedRun r
  pub leveled : IsLeveledRun r

pub stands_at_first : {T : Type 0} → (hello : List ℕ) (mark : Option ℕ) → Stands (begun (new_end {T = T} hello mark))
stands_at_first {T = T} hello mark =
    let e : EndValue T = new_end hello mark in
    record {
      tidy = tidy_open e refl;
      fresh = refl;
      order = refl;
      free = λ _. refl;
      split = record { sent = []; waiting = []; parts = refl; held = refl; out = refl; commands = tt };
      ending = ending_open [] e refl refl tt;
      counted = record {
        tokens = refl;
        last = refl;
        most = omega arith;
        unborn = λ m above within. refl;
        left = [];
        pending = refl;
        drained = refl;
        still = λ _. refl;
      };
      leveled = record { told = refl; inbox = λ _. omega arith; commands = tt };
    }

pub stands_after : {T : Type 0} → (call : Call T) (r : Run T) → Stands r → Stands (after_call call r)
stands_after call r s = record {
  tidy = tidy_called call r.end s.tidy;
  fresh = fresh_called call r.end s.tidy s.fresh;
  order = in_order call r s.tidy s.order;
  free = free_called call r.end s.tidy s.free;
  split = split_called call r s.tidy s.free s.split;
  ending = ending_called call r s.tidy s.ending;
  counted = counted_called call r s.tidy s.counted;
  leveled = level_called call r s.tidy s.leveled;
}

stands : {T : Type 0} → (calls : List (Call T)) (r : Run T) → Stands r → Stands (after_calls calls r)
stands [] r s = s
stands (call ∷ calls) r s = stands calls (after_call call r) (stands_after call r s)

pub always : {T : Type 0} → (hello : List ℕ) (mark : Option ℕ) (calls : List (Call T)) → Stands (after_calls calls (begun (new_end hello mark)))
always hello mark calls = stands calls (begun (new_end hello mark)) (stands_at_first hello mark)

-- ---- The laws

pub all_unspent : {T : Type 0} → AfterAllCalls {T = T} IsUnspent
all_unspent hello mark calls = (always hello mark calls).fresh

pub all_in_order : {T : Type 0} → AfterAllCalls {T = T} QueuesInOrder
all_in_order hello mark calls = (always hello mark calls).order

pub all_sent_in_order : {T : Type 0} → AfterAllCalls {T = T} SendsInOrder
all_sent_in_order hello mark calls = let s = always hello mark calls in sends_in_order (after_calls calls (begun (new_end hello mark))) s.order s.split

pub all_counted : {T : Type 0} → AfterAllCalls {T = T} CountsAnswers
all_counted hello mark calls = counts_answers (after_calls calls (begun (new_end hello mark))) (always hello mark calls).counted

pub all_own : {T : Type 0} → AfterAllCalls {T = T} TakesOwnAnswers
all_own hello mark calls = let s = always hello mark calls in takes_own_answers (after_calls calls (begun (new_end hello mark))) s.tidy s.split s.counted

pub all_end_once : {T : Type 0} → AfterAllCalls {T = T} EndsOnce
all_end_once hello mark calls = let s = always hello mark calls in ends_once (after_calls calls (begun (new_end hello mark))) s.order s.tidy s.ending

pub all_stay_closed : {T : Type 0} → AfterAllCalls {T = T} StaysClosed
all_stay_closed hello mark calls = stays_closed (after_calls calls (begun (new_end hello mark))) (always hello mark calls).tidy

pub all_free : {T : Type 0} → AfterAllCalls {T = T} HoldsNoneWhereFree
all_free hello mark calls = (always hello mark calls).free

pub all_loud_as_told : {T : Type 0} → AfterAllCalls {T = T} IsLoudAsTold
all_loud_as_told hello mark calls = let s = always hello mark calls in is_loud_as_told (after_calls calls (begun (new_end hello mark))) s.order s.leveled

-- ---- What is queued

says : {T : Type 0} → (calls : List (Call T)) (r : Run T) → SendsReadable calls → Stands r → IsSayingRun r → CanBeRead (after_calls calls r)
says [] r readable s i = can_be_read r s.order i
says (call ∷ calls) r readable s i = says calls (after_call call r) readable.1 (stands_after call r s) (saying_called call r readable.0 s.tidy s.counted.most i)

pub all_can_be_read : {T : Type 0} → QueuesReadable T
all_can_be_read body mark calls formed readable = says calls (begun (new_end body mark)) readable (stands_at_first body mark) (saying_first body mark formed)

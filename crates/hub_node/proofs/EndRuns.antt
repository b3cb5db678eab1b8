-- What more calls of an end make of its run.
use Rattle.std.proofs.Common.{◌≡◌, List, [], ◌∷◌, ◌++◌, refl, ap, ◌∙◌}
use Rattle.channel_core.specs.EndValue.{EndValue}
use Rattle.channel_core.specs.Runs.{Call, Run, after_call, after_calls, called}

module _ {T : Type 0} where
  -- the end after calls
  abbrev pub ends : List (Call T) → EndValue T → EndValue T
  ends [] e = e
  ends (call ∷ calls) e = ends calls (called call e)

  pub ends_append : (calls more : List (Call T)) (e : EndValue T) → ends (calls ++ more) e ≡ ends more (ends calls e)
  ends_append [] more e = refl
  ends_append (call ∷ calls) more e = ends_append calls more (called call e)

  pub end_after : (calls : List (Call T)) (r : Run T) → (after_calls calls r).end ≡ ends calls r.end
  end_after [] r = refl
  end_after (call ∷ calls) r = end_after calls (after_call call r)

  pub run_more : (calls more : List (Call T)) (r : Run T) → after_calls (calls ++ more) r ≡ after_calls more (after_calls calls r)
  run_more [] more r = refl
  run_more (call ∷ calls) more r = run_more calls more (after_call call r)

  pub end_more : (calls more : List (Call T)) (r : Run T) → (after_calls (calls ++ more) r).end ≡ ends more (after_calls calls r).end
  end_more calls more r = ap (λ x. x.end) (run_more calls more r) ∙ end_after more (after_calls calls r)

-- Messages that answer some commands answer no other one.
use Rattle.std.proofs.Common.{◌≡◌, ℕ, Bool, true, false, ◌||◌, List, [], ◌∷◌, ◌++◌, refl, ap, ◌∙◌}
use Rattle.std.specs.Prelude.{bytes_eq}
use Rattle.std.specs.List.{list_any}
use Rattle.std.proofs.lemmas.List.Folds.{list_any-append}
use Rattle.channel_core.specs.Arrivals.{Spoken}
use Rattle.channel_core.specs.RunLaws.{token_in}
use Rattle.channel_core.specs.Wire.{Said, said_by}
use Rattle.channel_laws.specs.Meeting.{answers_among}
use Rattle.value_node.specs.Asked.{Asked}
use Rattle.node_answers.proofs.Adds.LeavingTokens.{AreOthers}
use Rattle.node_answers.proofs.Adds.Pairing.{AnswerEach}
use Rattle.list_laws.proofs.Lists.{equal_by as same_bytes}

unlike : (xs ys : List ℕ) → (xs ≡ ys → ⊥) → bytes_eq xs ys ≡ false
unlike xs ys differ = by_flag (bytes_eq xs ys) refl
  where
    by_flag : (flag : Bool) → bytes_eq xs ys ≡ flag → flag ≡ false
    by_flag true is = absurd (differ (same_bytes xs ys is))
    by_flag false is = refl

-- an answer under another token, and more of them behind it
pub unanswered_here : (s : Spoken) (spoken : List Spoken) (token other : List ℕ) → token_in (said_by s.message) ≡ other ∷ [] → (other ≡ token → ⊥) → answers_among token spoken ≡ false
    → answers_among token (s ∷ spoken) ≡ false
unanswered_here s spoken token other is differ rest =
    ap (λ texts. list_any (λ text. bytes_eq text token) texts || answers_among token spoken) is ∙ ap (λ b. (b || false) || answers_among token spoken) (unlike other token differ) ∙ rest

pub unanswered_both : (xs ys : List Spoken) (token : List ℕ) → answers_among token xs ≡ false → answers_among token ys ≡ false → answers_among token (xs ++ ys) ≡ false
unanswered_both xs ys token first second =
    list_any-append (λ s. list_any (λ text. bytes_eq text token) (token_in (said_by s.message))) xs ys ∙ ap (λ b. b || answers_among token ys) first ∙ second

pub each_others : (binds : Bool) (commands : List Asked) (spoken : List Spoken) (token : List ℕ) → AnswerEach binds commands spoken → AreOthers token commands → answers_among token spoken ≡ false
each_others binds [] [] token each others = refl
each_others binds [] (s ∷ spoken) token each others = absurd each
each_others binds (c ∷ commands) [] token each others = absurd each
each_others binds (c ∷ commands) (s ∷ spoken) token each others =
    unanswered_here s spoken token c.token (ap (λ (x : Said). token_in x) each.0.says) others.0 (each_others binds commands spoken token each.1 others.1)

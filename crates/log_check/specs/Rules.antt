-- The rules that a journal is asked: of a history of inputs over some images, and of one client's log.
use Rattle.std.specs.Prelude.{ℕ, Bool, false, List, [], ◌∷◌, Option, None, Some}
use Rattle.std.specs.List.{AllByRecursion}
use Rattle.target_contexts.specs.declared.process.Image.{Image}
use Rattle.tcf_text.specs.declared.log.LogLine.{LogLine}
use Rattle.tcf_text.specs.Each.{Each}
use Rattle.tcf_text.specs.Once.{Once}
use Rattle.target_hub.specs.Fresh.{Fresh}
use Rattle.target_hub.specs.History.{IsLegal}
use Rattle.target_hub.specs.Ordered.{ExecutesItsCommands, IsChannelOf, IsPlaced, IsToldInOrder, Ordered}
use Rattle.target_hub.specs.declared.input.Input.{Input}
use Rattle.log_check.specs.declared.rule.Rule.{Rule}
use Rattle.log_check.specs.declared.rule.Rule.TheVariants as rules

-- on the channel that the log was made on; where it was made on none, nothing is asked
abbrev pub OnItsChannel : List LogLine → List Input → (ℕ → Type 0) → Type 0
OnItsChannel log history P = (k : ℕ) → IsChannelOf log history k → P k

-- What each rule asks. That no answer has a position behind the last input follows: where `Order` is met, what was received
-- has positions that the target told, and of a storable command `Fresh` says it.
abbrev pub Meets : List Image → List Input → List LogLine → Rule → Type 0
Meets images history log rules.Legal = IsLegal images history
Meets images history log rules.Once = Once false log
Meets images history log rules.Positions = Each (IsPlaced history) log
Meets images history log rules.Order = OnItsChannel log history (IsToldInOrder images history log)
Meets images history log rules.Executed = OnItsChannel log history (ExecutesItsCommands history log)
Meets images history log rules.Fresh = Fresh log images history

-- the rules in the order in which they are asked, and those before one
abbrev pub all_rules : List Rule
all_rules = rules.Legal ∷ rules.Once ∷ rules.Positions ∷ rules.Order ∷ rules.Executed ∷ rules.Fresh ∷ []

abbrev pub rules_before : Rule → List Rule
rules_before rules.Legal = []
rules_before rules.Once = rules.Legal ∷ []
rules_before rules.Positions = rules.Legal ∷ rules.Once ∷ []
rules_before rules.Order = rules.Legal ∷ rules.Once ∷ rules.Positions ∷ []
rules_before rules.Executed = rules.Legal ∷ rules.Once ∷ rules.Positions ∷ rules.Order ∷ []
rules_before rules.Fresh = rules.Legal ∷ rules.Once ∷ rules.Positions ∷ rules.Order ∷ rules.Executed ∷ []

-- what a verdict says: all rules are met, or those before the first that isn't
abbrev pub IsJudged : List Image → List Input → List LogLine → Option Rule → Type 0
IsJudged images history log None = AllByRecursion (Meets images history log) all_rules
IsJudged images history log (Some rule) = AllByRecursion (Meets images history log) (rules_before rule) × (Meets images history log rule → ⊥)

-- the law: a log that is true to the history meets all rules, whatever the channels of its chain, and whether it is quiet
abbrev pub TrueLogsMeetTheRules : Type 0
TrueLogsMeetTheRules = (quiet : Bool) (images : List Image) (history : List Input) (log : List LogLine) (channels : List ℕ) → IsLegal images history → Once quiet log →
    Ordered quiet log images history channels → Fresh log images history → IsJudged images history log None

-- The line that sums up a chain's log.
use Rattle.std.specs.Prelude.{ℕ, Bool, true, false, List, [], ◌∷◌, ◌++◌, count_by, decimal}
use Rattle.tcf_text.specs.Log.{sent_word, result_word, unknown_word, closed_word, event_word}
use Rattle.tcf_text.specs.declared.log.LogLine.{LogLine}
use Rattle.tcf_text.specs.declared.log.LogLine.TheVariants.{Sent, Event, Final, Unknown, Closed}

abbrev pub is_sent : LogLine → Bool
is_sent (Sent number service name body) = true
is_sent line = false

abbrev pub is_result : LogLine → Bool
is_result (Final number mark body) = true
is_result line = false

abbrev pub is_unknown : LogLine → Bool
is_unknown (Unknown number mark) = true
is_unknown line = false

abbrev pub is_closed : LogLine → Bool
is_closed (Closed number) = true
is_closed line = false

-- a Hello is no such line
abbrev pub is_event : LogLine → Bool
is_event (Event mark service name body) = true
is_event line = false

-- a word and a number, each behind a blank
abbrev pub counted : List ℕ → ℕ → List ℕ
counted word count = 32 ∷ word ++ 32 ∷ decimal count

-- NAME sent N result N unknown N closed N event N, with how many such lines the log has
abbrev pub summary_line : List ℕ → List LogLine → List ℕ
summary_line name log =
    name ++ counted sent_word (count_by is_sent log) ++ counted result_word (count_by is_result log)
    ++ counted unknown_word (count_by is_unknown log) ++ counted closed_word (count_by is_closed log)
    ++ counted event_word (count_by is_event log) ++ 10 ∷ []

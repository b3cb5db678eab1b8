-- What RunControl tells of a process or a thread (TCF service RunControl, properties of contexts).
use Rattle.std.specs.Prelude.{ℕ, ◌<◌, ◌^◌, false, List, [], Option, option_map, option_and_then, codes}
use Rattle.serde_json.specs.Data.{Data, boolean, string, object, member, no_members}
use Rattle.serde_json.specs.Find.{as_bool, as_str}
use Rattle.json_values.specs.Members.{member_of, optional, or_else, member_if}
use Rattle.json_values.specs.Words.{word_json, word_in}
use Rattle.json_values.specs.declared.contexts.Powers.{Powers}
use Rattle.tcf_values.specs.declared.values.ContextData.{ContextData}

-- both numbers are of 32 bits
abbrev pub IsContext : ContextData → Type 0
IsContext context = (context.can_resume < 2 ^ 32) × (context.can_count < 2 ^ 32)

abbrev pub ArePowers : Powers → Type 0
ArePowers powers = (powers.can_resume < 2 ^ 32) × (powers.can_count < 2 ^ 32)

-- the keys in the order of their bytes; a name and a parent where there is one
abbrev pub context_json : ContextData → Data
context_json context =
    object (member (codes "CanCount") (word_json context.can_count)
    (member (codes "CanResume") (word_json context.can_resume)
    (member (codes "CanSuspend") (boolean context.can_suspend)
    (member (codes "CanTerminate") (boolean context.can_terminate)
    (member (codes "HasState") (boolean context.has_state)
    (member (codes "ID") (string context.id)
    (member (codes "IsContainer") (boolean context.container)
    (member_if (codes "Name") (option_map string context.name)
    (member_if (codes "ParentID") (option_map string context.parent)
    (member (codes "ProcessID") (string context.process) no_members))))))))))

-- what a context is and can: a flag that is absent is false, and a number that is absent is 0
abbrev pub powers_in : Data → Option Powers
powers_in d =
    option_and_then (λ container. option_and_then (λ has_state. option_and_then (λ can_suspend. option_and_then (λ can_terminate.
    option_and_then (λ can_resume. option_map (λ can_count.
    record { container = container; has_state = has_state; can_suspend = can_suspend; can_terminate = can_terminate; can_resume = can_resume; can_count = can_count })
    (or_else 0 word_in (member_of (codes "CanCount") d)))
    (or_else 0 word_in (member_of (codes "CanResume") d)))
    (or_else false as_bool (member_of (codes "CanTerminate") d)))
    (or_else false as_bool (member_of (codes "CanSuspend") d)))
    (or_else false as_bool (member_of (codes "HasState") d)))
    (or_else false as_bool (member_of (codes "IsContainer") d))

abbrev pub context_from : Powers → List ℕ → Option (List ℕ) → List ℕ → Option (List ℕ) → ContextData
context_from powers id parent process name =
    record {
      id = id;
      parent = parent;
      process = process;
      name = name;
      container = powers.container;
      has_state = powers.has_state;
      can_suspend = powers.can_suspend;
      can_terminate = powers.can_terminate;
      can_resume = powers.can_resume;
      can_count = powers.can_count;
    }

-- the context that an object tells of: an ID must be there, and a process that is absent is the empty text
abbrev pub context_in : Data → Option ContextData
context_in d =
    option_and_then (λ powers. option_and_then (λ id. option_and_then (λ parent. option_and_then (λ process. option_map (λ name.
    context_from powers id parent process name)
    (optional as_str (member_of (codes "Name") d)))
    (or_else [] as_str (member_of (codes "ProcessID") d)))
    (optional as_str (member_of (codes "ParentID") d)))
    (option_and_then as_str (member_of (codes "ID") d)))
    (powers_in d)

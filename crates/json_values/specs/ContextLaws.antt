-- What is written of a context is read as it; so also of processes, reports, ranges, instances and peers.
use Rattle.std.proofs.Common.{◌≡◌, ◌≤◌, rules}
use Rattle.std.specs.Prelude.{false, Some}
use Rattle.serde_json.specs.Data.{depth}
use Rattle.serde_json.specs.Written.{has_float}
use Rattle.json_values.specs.Contexts.{IsContext, context_json, context_in}
use Rattle.tcf_values.specs.declared.values.ContextData.{ContextData}

pub context_back : (context : ContextData) → IsContext context → context_in (context_json context) ≡ Some context
context_back context is = search rules

pub context_plain : (context : ContextData) → has_float (context_json context) ≡ false
context_plain context = search rules

pub context_shallow : (context : ContextData) → depth (context_json context) ≤ 1
context_shallow context = search rules

-- Who know the same but for bytes answer the same; no other command is answered.
use Rattle.std.proofs.Common.{◌≡◌, ℕ, ℤ, cond, ◌&&◌, List, [], ◌∷◌, ◌++◌, length, Option, Some, None, is_some, option_map, refl, ap, ◌∙◌}
use Rattle.std.specs.Prelude.{nat_le, option_and_then}
use Rattle.tcf_values.specs.Ids.{context_of, register_of}
use Rattle.tcf_values.specs.declared.answer.Answer.{Answer}
use Rattle.tcf_values.specs.declared.command.Command.TheVariants.{GetContext, GetState, BpProperties, BpGetStatus, MemGet, RegGet, RegGetm}
use Rattle.tcf_values.specs.declared.ids.ContextId.{ContextId}
use Rattle.tcf_values.specs.declared.ids.ContextId.TheVariants.{Process, Thread}
use Rattle.tcf_values.specs.declared.ids.RegisterId.{RegisterId}
use Rattle.tcf_values.specs.declared.values.Location.{Location}
use Rattle.knowledge.specs.Facts.{AreSame, Facts, is_suspended}
use Rattle.knowledge.specs.Laws.{OthersStayUnanswered, RangesStaySame, RepliesStaySame}
use Rattle.knowledge.specs.Reply.{are_parts_known, bytes_or_none, context_state_reply, memory_reply, part_bytes, part_known, parts_bytes, process_asked, range_asked, range_of, register_known, registers_reply, thread_reply, word_reply}
use Rattle.knowledge.specs.Rows.{is_part}

state_same : (known other : Facts) → AreSame known other → (context : Option ContextId) → context_state_reply known context ≡ context_state_reply other context
state_same known other same None = refl
state_same known other same (Some (Process process)) = refl
state_same known other same (Some (Thread process thread)) =
    ap (λ fact. thread_reply fact (known.registers process thread 32)) (same.states process thread)
    ∙ ap (thread_reply (other.states process thread)) (same.registers process thread 32)

register_same_by : (known other : Facts) → AreSame known other → (register : Option RegisterId)
    → option_and_then (λ r. known.registers r.process r.thread r.index) register ≡ option_and_then (λ r. other.registers r.process r.thread r.index) register
register_same_by known other same None = refl
register_same_by known other same (Some register) = same.registers register.process register.thread register.index

register_same : (known other : Facts) → AreSame known other → (id : List ℕ) → register_known id known ≡ register_known id other
register_same known other same id = register_same_by known other same (register_of id)

-- ---- parts of registers

part_same : (known other : Facts) → AreSame known other → (location : Location) → part_known known location ≡ part_known other location
part_same known other same location =
    ap (λ value. cond (is_part location) (option_map (part_bytes location) value) None) (register_same known other same location.register)

parts_same : (known other : Facts) → AreSame known other → (list : List Location) → parts_bytes known list ≡ parts_bytes other list
parts_same known other same [] = refl
parts_same known other same (location ∷ list) =
    ap (λ part. bytes_or_none part ++ parts_bytes known list) (part_same known other same location)
    ∙ ap (λ rest. bytes_or_none (part_known other location) ++ rest) (parts_same known other same list)

all_same : (known other : Facts) → AreSame known other → (list : List Location) → are_parts_known known list ≡ are_parts_known other list
all_same known other same [] = refl
all_same known other same (location ∷ list) =
    ap (λ part. is_some part && are_parts_known known list) (part_same known other same location)
    ∙ ap (λ rest. is_some (part_known other location) && rest) (all_same known other same list)

registers_same : (known other : Facts) → AreSame known other → (list : List Location) → registers_reply list known ≡ registers_reply list other
registers_same known other same list =
    ap (λ all. cond (nat_le 1 (length list) && nat_le (length list) 256 && all) (Some (Answer.Blob (parts_bytes known list))) None) (all_same known other same list)
    ∙ ap (λ bytes. cond (nat_le 1 (length list) && nat_le (length list) 256 && are_parts_known other list) (Some (Answer.Blob bytes)) None)
    (parts_same known other same list)

-- ---- memory

process_same : (known other : Facts) → AreSame known other → (context : Option ContextId)
    → option_and_then (process_asked known) context ≡ option_and_then (process_asked other) context
process_same known other same None = refl
process_same known other same (Some (Process process)) = refl
process_same known other same (Some (Thread process thread)) =
    ap (λ fact. cond (is_suspended fact) (Some process) None) (same.states process thread)

range_same : (known other : Facts) → AreSame known other → (id : List ℕ) (addr size : ℤ) → range_asked id addr size known ≡ range_asked id addr size other
range_same known other same id addr size = ap (option_and_then (range_of addr size)) (process_same known other same (context_of id))

-- ---- each command

pub same_replies : RepliesStaySame
same_replies (GetContext id) known other blocks same = ap (option_map Answer.Context) (same.contexts id)
same_replies (GetState id) known other blocks same = state_same known other same (context_of id)
same_replies (BpProperties id) known other blocks same = ap (option_map Answer.Bp) (same.properties id)
same_replies (BpGetStatus id) known other blocks same = ap (option_map Answer.Status) (same.statuses id)
same_replies (RegGet id) known other blocks same = ap (option_map word_reply) (register_same known other same id)
same_replies (RegGetm list) known other blocks same = registers_same known other same list
same_replies (MemGet id addr word size mode) known other blocks same = ap (λ asked. memory_reply asked blocks) (range_same known other same id addr size)
same_replies _ known other blocks same = refl

pub same_ranges : RangesStaySame
same_ranges (MemGet id addr word size mode) known other same = range_same known other same id addr size
same_ranges _ known other same = refl

pub others_unanswered : OthersStayUnanswered
others_unanswered (GetContext id) known blocks is = cc
others_unanswered (GetState id) known blocks is = cc
others_unanswered (BpProperties id) known blocks is = cc
others_unanswered (BpGetStatus id) known blocks is = cc
others_unanswered (RegGet id) known blocks is = cc
others_unanswered (RegGetm list) known blocks is = cc
others_unanswered (MemGet id addr word size mode) known blocks is = cc
others_unanswered _ known blocks is = refl

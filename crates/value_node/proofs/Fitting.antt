-- The answer to getPeers fits into a message, since a peer's name that it lists has at most 65,536 bytes.
use Rattle.std.proofs.Common.{◌≡◌, ◌≤◌, ℕ, Bool, true, false, List, [], ◌∷◌, ◌++◌, length, arith, lit≤, leb-true, length-append, refl}
use Rattle.std.specs.Prelude.{codes, if◌then◌else◌}
use Rattle.json.specs.Print.{quoted}
use Rattle.serde_json.specs.Data.{no_members, string}
use Rattle.serde_json.specs.Written.{comma_if, compact_text, members_text}
use Rattle.json_values.specs.Lists.{list_json}
use Rattle.json_values.specs.Peers.{peer_json}
use Rattle.json_values.specs.Sizes.{size_of}
use Rattle.json_values.specs.SizeLaws.{list_size, text_size}
use Rattle.reply_tables.specs.Written.{answer_data}
use Rattle.tcf_values.specs.declared.answer.Answer.TheVariants.{Peers}
use Rattle.tcf_values.specs.declared.command.Command.TheVariants.{GetPeers}
use Rattle.value_node.specs.Own.{Fits, is_name, peers_of}

peer_size : (peer : List ℕ) → length peer ≤ 65536 → size_of (peer_json peer) ≤ 393400
peer_size peer few =
    let behind = compact_text (string peer) ++ members_text true no_members in
    omega (
      arith,
      length-append (comma_if false) (quoted (codes "ID") ++ 58 ∷ behind),
      length-append (quoted (codes "ID")) (58 ∷ behind),
      length-append (compact_text (string peer)) (members_text true no_members),
      text_size 16 (codes "ID") (lit≤ tt),
      text_size 65536 peer few,
    )

peers_size : (peer : List ℕ) → length peer ≤ 65536 → size_of (list_json peer_json (peer ∷ [])) ≤ 393403
peers_size peer few = omega (arith, list_size peer_json 393400 (peer ∷ []) (peer_size peer few, tt))

peers_fit_by : (flag : Bool) (peer : List ℕ) → (flag ≡ true → length peer ≤ 65536) → Fits (answer_data GetPeers (Peers (if flag then peer ∷ [] else [])))
peers_fit_by true peer few = omega (arith, peers_size peer (few refl), length-append (compact_text (list_json peer_json (peer ∷ []))) (0 ∷ []))
peers_fit_by false peer few = lit≤ tt

pub peers_fit : (peer : List ℕ) → Fits (answer_data GetPeers (Peers (peers_of peer)))
peers_fit peer = peers_fit_by (is_name peer) peer (λ on. leb-true (length peer) 65536 on)

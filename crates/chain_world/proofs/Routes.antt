-- A hop of a way changes: what goes out on the client's hop, and on the agent's, and what arrives there.
use Rattle.std.proofs.Common.{◌≡◌, ℕ, ◌-◌, Bool, true, false, List, [], ◌∷◌, Option, Some, None, refl, sym, ap, ◌∙◌, append_assoc, append-nil}
use Rattle.std.specs.Prelude.{slice_get, slice_set}
use Rattle.channel_core.specs.declared.held.Outgoing.{Outgoing}
use Rattle.chain_route.specs.Hop as hop
use Rattle.chain_route.specs.Lane.{staying}
use Rattle.chain_route.specs.Route.{arrived_down, arrived_up, down_of, flight_down, flight_up, hop_put, last_of, on_hop, sent_down, sent_up, up_of}
use Rattle.chain_route.specs.RouteValue.{RouteValue}
use Rattle.chain_route.specs.declared.hop.Hop.{Hop}
use Rattle.chain_world.proofs.Lists.{set_twice}
use Rattle.list_laws.proofs.Lists.{get_set, set_length, set_same}

abbrev pub with_hops : List Hop → RouteValue → RouteValue
with_hops hops r = record r { hops = hops }

-- ---- A hop at a place changes

put_last : (change : Hop → Hop) (at : ℕ) (there : Option Hop) (r : RouteValue) → last_of (hop_put change at there r) ≡ last_of r
put_last change at None r = refl
put_last change at (Some h) r = ap (λ n. n - 1) (set_length at r.hops (change h))

pub hop_last : (change : Hop → Hop) (at : ℕ) (r : RouteValue) → last_of (on_hop change at r) ≡ last_of r
hop_last change at r = put_last change at (slice_get r.hops at) r

put_get : (change : Hop → Hop) (at : ℕ) (r : RouteValue) (h : Hop) → slice_get r.hops at ≡ Some h → slice_get (hop_put change at (Some h) r).hops at ≡ Some (change h)
put_get change at r h is = get_set at r.hops (change h) h is

put_twice : (f g : Hop → Hop) (at : ℕ) (r : RouteValue) (there : Option Hop) → slice_get r.hops at ≡ there → on_hop f at (hop_put g at there r) ≡ hop_put (λ h. f (g h)) at there r
put_twice f g at r None is = ap (λ o. hop_put f at o r) is
put_twice f g at r (Some h) is =
    ap (λ o. hop_put f at o (with_hops (slice_set r.hops at (g h)) r)) (put_get g at r h is) ∙ ap (λ hs. with_hops hs r) (set_twice at r.hops (g h) (f (g h)))

pub hop_twice : (f g : Hop → Hop) (at : ℕ) (r : RouteValue) → on_hop f at (on_hop g at r) ≡ on_hop (λ h. f (g h)) at r
hop_twice f g at r = put_twice f g at r (slice_get r.hops at) refl

put_alike : (f g : Hop → Hop) (at : ℕ) (there : Option Hop) (r : RouteValue) → ((h : Hop) → f h ≡ g h) → hop_put f at there r ≡ hop_put g at there r
put_alike f g at None r alike = refl
put_alike f g at (Some h) r alike = ap (λ x. with_hops (slice_set r.hops at x) r) (alike h)

pub hop_alike : (f g : Hop → Hop) (at : ℕ) (r : RouteValue) → ((h : Hop) → f h ≡ g h) → on_hop f at r ≡ on_hop g at r
hop_alike f g at r alike = put_alike f g at (slice_get r.hops at) r alike

put_still : (f : Hop → Hop) (at : ℕ) (there : Option Hop) (r : RouteValue) → slice_get r.hops at ≡ there → ((h : Hop) → there ≡ Some h → f h ≡ h) → hop_put f at there r ≡ r
put_still f at None r is still = refl
put_still f at (Some h) r is still =
    ap (λ x. with_hops (slice_set r.hops at x) r) (still h refl) ∙ ap (λ hs. with_hops hs r) (set_same at r.hops h is)

pub hop_still : (f : Hop → Hop) (at : ℕ) (r : RouteValue) → ((h : Hop) → slice_get r.hops at ≡ Some h → f h ≡ h) → on_hop f at r ≡ r
hop_still f at r still = put_still f at (slice_get r.hops at) r refl still

-- what is read of it there
put_read : {A : Type 0} → (read : Option Hop → A) (f : Hop → Hop) (at : ℕ) (r : RouteValue) (there : Option Hop) → slice_get r.hops at ≡ there → ((h : Hop) → read (Some (f h)) ≡ read (Some h))
    → read (slice_get (hop_put f at there r).hops at) ≡ read there
put_read read f at r None is same = ap read is
put_read read f at r (Some h) is same = ap read (put_get f at r h is) ∙ same h

pub hop_read : {A : Type 0} → (read : Option Hop → A) (f : Hop → Hop) (at : ℕ) (r : RouteValue) → ((h : Hop) → read (Some (f h)) ≡ read (Some h))
    → read (slice_get (on_hop f at r).hops at) ≡ read (slice_get r.hops at)
hop_read read f at r same = put_read read f at r (slice_get r.hops at) refl same

-- ---- What is sent

abbrev hop_of : (live shut : Bool) → List Outgoing → List Outgoing → Hop
hop_of live shut up down = record { is_live = live; is_refused = shut; up = up; down = down }

up_parts : (live shut : Bool) (up down outs : List Outgoing) (out : Outgoing) → hop.sent_up outs (hop.sent_up (out ∷ []) (hop_of live shut up down)) ≡ hop.sent_up (out ∷ outs) (hop_of live shut up down)
up_parts true true up down outs out = refl
up_parts true false up down outs out = ap (λ xs. hop_of true false xs down) (append_assoc up (out ∷ []) outs)
up_parts false shut up down outs out = refl

up_nothing : (live shut : Bool) (up down : List Outgoing) → hop.sent_up [] (hop_of live shut up down) ≡ hop_of live shut up down
up_nothing true true up down = refl
up_nothing true false up down = ap (λ xs. hop_of true false xs down) (append-nil up)
up_nothing false shut up down = refl

down_parts : (live shut : Bool) (up down outs : List Outgoing) (out : Outgoing) → hop.sent_down outs (hop.sent_down (out ∷ []) (hop_of live shut up down)) ≡ hop.sent_down (out ∷ outs) (hop_of live shut up down)
down_parts true shut up down outs out = ap (λ xs. hop_of true shut up xs) (append_assoc down (out ∷ []) outs)
down_parts false shut up down outs out = refl

down_nothing : (live shut : Bool) (up down : List Outgoing) → hop.sent_down [] (hop_of live shut up down) ≡ hop_of live shut up down
down_nothing true shut up down = ap (λ xs. hop_of true shut up xs) (append-nil down)
down_nothing false shut up down = refl

-- one message and then the others
pub sent_on : (out : Outgoing) (outs : List Outgoing) (r : RouteValue) → sent_up outs (sent_up (out ∷ []) r) ≡ sent_up (out ∷ outs) r
sent_on out outs r =
    hop_twice (hop.sent_up outs) (hop.sent_up (out ∷ [])) 0 r
    ∙ hop_alike (λ h. hop.sent_up outs (hop.sent_up (out ∷ []) h)) (hop.sent_up (out ∷ outs)) 0 r (λ h. up_parts h.is_live h.is_refused h.up h.down outs out)

pub none_sent : (r : RouteValue) → sent_up [] r ≡ r
none_sent r = hop_still (hop.sent_up []) 0 r (λ h is. up_nothing h.is_live h.is_refused h.up h.down)

pub sent_down_on : (out : Outgoing) (outs : List Outgoing) (r : RouteValue) → sent_down outs (sent_down (out ∷ []) r) ≡ sent_down (out ∷ outs) r
sent_down_on out outs r =
    let first = on_hop (hop.sent_down (out ∷ [])) (last_of r) r in
    ap (λ n. on_hop (hop.sent_down outs) n first) (hop_last (hop.sent_down (out ∷ [])) (last_of r) r)
    ∙ hop_twice (hop.sent_down outs) (hop.sent_down (out ∷ [])) (last_of r) r
    ∙ hop_alike (λ h. hop.sent_down outs (hop.sent_down (out ∷ []) h)) (hop.sent_down (out ∷ outs)) (last_of r) r (λ h. down_parts h.is_live h.is_refused h.up h.down outs out)

pub none_sent_down : (r : RouteValue) → sent_down [] r ≡ r
none_sent_down r = hop_still (hop.sent_down []) (last_of r) r (λ h is. down_nothing h.is_live h.is_refused h.up h.down)

-- ---- What is in flight the other way stays

down_by : (live shut : Bool) (up down outs : List Outgoing) → (hop.sent_up outs (hop_of live shut up down)).down ≡ down
down_by true true up down outs = refl
down_by true false up down outs = refl
down_by false shut up down outs = refl

up_by : (live shut : Bool) (up down outs : List Outgoing) → (hop.sent_down outs (hop_of live shut up down)).up ≡ up
up_by true shut up down outs = refl
up_by false shut up down outs = refl

pub down_kept : (outs : List Outgoing) (r : RouteValue) → flight_down (sent_up outs r) ≡ flight_down r
down_kept outs r = hop_read down_of (hop.sent_up outs) 0 r (λ h. down_by h.is_live h.is_refused h.up h.down outs)

pub up_kept : (outs : List Outgoing) (r : RouteValue) → flight_up (sent_down outs r) ≡ flight_up r
up_kept outs r =
    let next = sent_down outs r in
    ap (λ n. up_of (slice_get next.hops n)) (hop_last (hop.sent_down outs) (last_of r) r)
    ∙ hop_read up_of (hop.sent_down outs) (last_of r) r (λ h. up_by h.is_live h.is_refused h.up h.down outs)

-- ---- What arrives

down_put : (count : ℕ) (r : RouteValue) (there : Option Hop) → slice_get r.hops 0 ≡ there
    → down_of (slice_get (hop_put (λ h. record h { down = staying count h.down }) 0 there r).hops 0) ≡ staying count (down_of there)
down_put count r None is = ap down_of is
down_put count r (Some h) is = ap down_of (put_get (λ h. record h { down = staying count h.down }) 0 r h is)

pub down_stays : (count : ℕ) (r : RouteValue) → flight_down (arrived_down count r) ≡ staying count (flight_down r)
down_stays count r = down_put count r (slice_get r.hops 0) refl

up_put : (count at : ℕ) (r : RouteValue) (there : Option Hop) → slice_get r.hops at ≡ there
    → up_of (slice_get (hop_put (λ h. record h { up = staying count h.up }) at there r).hops at) ≡ staying count (up_of there)
up_put count at r None is = ap up_of is
up_put count at r (Some h) is = ap up_of (put_get (λ h. record h { up = staying count h.up }) at r h is)

pub up_stays : (count : ℕ) (r : RouteValue) → flight_up (arrived_up count r) ≡ staying count (flight_up r)
up_stays count r =
    let next = arrived_up count r in
    ap (λ n. up_of (slice_get next.hops n)) (hop_last (λ h. record h { up = staying count h.up }) (last_of r) r) ∙ up_put count (last_of r) r (slice_get r.hops (last_of r)) refl

-- where nothing is in flight nothing changes
down_empty : (h : Hop) (count : ℕ) → h.down ≡ [] → record h { down = staying count h.down } ≡ h
down_empty h count is = ap (λ xs. record h { down = staying count xs }) is ∙ ap (λ xs. record h { down = xs }) (sym is)

up_empty : (h : Hop) (count : ℕ) → h.up ≡ [] → record h { up = staying count h.up } ≡ h
up_empty h count is = ap (λ xs. record h { up = staying count xs }) is ∙ ap (λ xs. record h { up = xs }) (sym is)

pub none_arrives_down : (count : ℕ) (r : RouteValue) → flight_down r ≡ [] → arrived_down count r ≡ r
none_arrives_down count r none =
    hop_still (λ h. record h { down = staying count h.down }) 0 r (λ h is. down_empty h count (sym (ap down_of is) ∙ none))

pub none_arrives_up : (count : ℕ) (r : RouteValue) → flight_up r ≡ [] → arrived_up count r ≡ r
none_arrives_up count r none =
    hop_still (λ h. record h { up = staying count h.up }) (last_of r) r (λ h is. up_empty h count (sym (ap up_of is) ∙ none))

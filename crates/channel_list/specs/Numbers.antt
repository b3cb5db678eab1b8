-- Which numbers were given to channels.
use Rattle.std.specs.Prelude.{ℕ, ◌+◌, ◌==◌, Bool, false, ◌&&◌, ◌||◌, if◌then◌else◌, nat_le, [], ◌∷◌, ◌++◌, Option, None, Some}
use Rattle.std.specs.List.{list_any}
use Rattle.channel_list.specs.NumbersValue.{NumbersValue}
use Rattle.channel_list.specs.declared.numbers.Span.{Span}

abbrev pub no_numbers : NumbersValue
no_numbers = record { earlier = []; latest = None }

abbrev pub is_within : ℕ → Span → Bool
is_within number span = nat_le span.first number && nat_le number span.last

abbrev pub is_within_latest : ℕ → Option Span → Bool
is_within_latest number None = false
is_within_latest number (Some span) = is_within number span

-- the number was given
abbrev pub has_number : ℕ → NumbersValue → Bool
has_number number n = is_within_latest number n.latest || list_any (is_within number) n.earlier

abbrev pub only : ℕ → Span
only number = record { first = number; last = number }

-- a number that comes next lengthens the latest span, and any other begins a span of its own
abbrev pub lengthened : ℕ → Option Span → NumbersValue → NumbersValue
lengthened number None n = record n { latest = Some (only number) }
lengthened number (Some span) n =
    if span.last + 1 == number then record n { latest = Some (record span { last = number }) }
    else record { earlier = n.earlier ++ span ∷ []; latest = Some (only number) }

abbrev pub with_number : ℕ → NumbersValue → NumbersValue
with_number number n = lengthened number n.latest n

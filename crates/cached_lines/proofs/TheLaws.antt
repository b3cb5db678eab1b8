-- The law of cached texts, as a term.
use Rattle.cached_lines.specs.Reading.{CachedRoundTrip}
use Rattle.cached_lines.proofs.Values as values

pub cached_round_trip : CachedRoundTrip
cached_round_trip = values.cached_round_trip

-- Where the cached token of a change stream lies (change streams specification, "Updating the Cached Resume Token").
use Rattle.std.specs.Prelude.{Bool, true, false}
use Rattle.mg_steps.specs.declared.token.TokenPlace.{TokenPlace}
use Rattle.mg_steps.specs.declared.token.TokenPlace.TheVariants as place

-- behind an event that was given, by whether it was the last one of its batch, and whether the batch has a token
abbrev pub place_behind : Bool → Bool → TokenPlace
place_behind true true = place.Batch
place_behind true false = place.Event
place_behind false has_token = place.Event

-- behind an empty batch, by where it lay before, and whether the batch has a token
abbrev pub place_empty : TokenPlace → Bool → TokenPlace
place_empty before true = place.Batch
place_empty before false = before

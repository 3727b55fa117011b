-- The nodes of a flow by their numbers.
use Rattle.std.proofs.Common.{◌≡◌, ℕ, List, option_map, map, slice_get}
use Rattle.std.proofs.lemmas.Option.{slice_get-map}

pub got : {A B : Type 0} (view : A → B) (list : List A) (number : ℕ) → slice_get (map view list) number ≡ option_map view (slice_get list number)
got view list number = slice_get-map view list number

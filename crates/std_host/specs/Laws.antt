-- What calls have written, and one call more.
use Rattle.std.specs.Prelude.{◌≡◌, ℕ, List, [], ◌∷◌, ◌++◌, Option, Some}
use Rattle.ext_calls.specs.declared.call.Call.{Call}
use Rattle.shelf.specs.Sink.{Appended}
use Rattle.std_host.specs.Output.{output_of, out_of}

-- where the calls so far have written what `out_of` says of them, and one more writes its own bytes, all of them together have
-- written what `out_of` says of all
abbrev pub OneMoreWrites : Type 0
OneMoreWrites = (calls : List Call) (call : Call) (bytes more : List ℕ) (start before after : Option (List ℕ)) →
    out_of calls ≡ Some bytes → output_of call ≡ Some more → Appended bytes start before → Appended more before after →
    (out_of (calls ++ call ∷ []) ≡ Some (bytes ++ more)) × Appended (bytes ++ more) start after

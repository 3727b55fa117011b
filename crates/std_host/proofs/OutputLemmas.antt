-- What calls write, one after the other.
use Rattle.std.proofs.Common.{◌≡◌, ℕ, List, [], ◌∷◌, ◌++◌, Option, None, Some, refl, sym, ap, ◌∙◌, append_assoc, append-nil}
use Rattle.ext_calls.specs.declared.call.Call.{Call}
use Rattle.shelf.proofs.SinkLemmas.{Appended-append}
use Rattle.std_host.specs.Formats.{joined}
use Rattle.std_host.specs.Laws.{OneMoreWrites}
use Rattle.std_host.specs.Output.{output_of, out_of}

-- texts are joined in any grouping
joined_joined : (first second third : Option (List ℕ)) → joined (joined first second) third ≡ joined first (joined second third)
joined_joined None second third = refl
joined_joined (Some a) None third = refl
joined_joined (Some a) (Some b) None = refl
joined_joined (Some a) (Some b) (Some c) = ap (λ (all : List ℕ). Some all) (append_assoc a b c)

-- nothing may stand behind a text
joined_none : (first : Option (List ℕ)) → joined first (Some []) ≡ first
joined_none None = refl
joined_none (Some a) = ap (λ (all : List ℕ). Some all) (append-nil a)

joined_first : (first : Option (List ℕ)) → joined (Some []) first ≡ first
joined_first None = refl
joined_first (Some a) = refl

-- what calls write with one more behind them
out_of-more : (calls : List Call) (call : Call) → out_of (calls ++ call ∷ []) ≡ joined (out_of calls) (output_of call)
out_of-more [] call = joined_none (output_of call) ∙ sym (joined_first (output_of call))
out_of-more (first ∷ calls) call =
    ap (joined (output_of first)) (out_of-more calls call) ∙ sym (joined_joined (output_of first) (out_of calls) (output_of call))

pub one_more_writes : OneMoreWrites
one_more_writes calls call bytes more start before after so_far own first second = (
  out_of-more calls call ∙ ap (λ (o : Option (List ℕ)). joined o (output_of call)) so_far ∙ ap (joined (Some bytes)) own,
  Appended-append bytes more start before after first second,
)

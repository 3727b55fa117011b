-- Names that are declared again, one after the other.
use Rattle.std.proofs.Common.{◌≡◌, ℕ, List, [], ◌∷◌, ◌++◌, map, ap, sym, ◌∙◌, append_assoc}
use Rattle.std.proofs.Math.Seq.{drop-cons}
use Rattle.std.specs.Prelude.{drop, suc, length, get_or, ◌<◌}
use Rattle.cx_cursor.specs.Scopes.{bound}
use Rattle.cx_cursor.specs.declared.scope.Bound.{Bound}
use Rattle.cx_tree.specs.Names.{Binding}

pub next_declared : (declared : List Bound) (index next : ℕ) (one : Bound) (names later all : List Binding) → index < length declared → get_or declared index one ≡ one
    → next ≡ suc index → later ≡ names ++ bound one ∷ [] → names ++ map bound (drop index declared) ≡ all → later ++ map bound (drop next declared) ≡ all
next_declared declared index next one names later all within is e made before =
    let split : drop index declared ≡ one ∷ drop (suc index) declared = drop-cons declared index one within ∙ ap (λ (d : Bound). d ∷ drop (suc index) declared) is in
    ap (λ (n : ℕ). later ++ map bound (drop n declared)) e
    ∙ ap (λ (bs : List Binding). bs ++ map bound (drop (suc index) declared)) made
    ∙ append_assoc names (bound one ∷ []) (map bound (drop (suc index) declared))
    ∙ ap (λ (ds : List Bound). names ++ map bound ds) (sym split)
    ∙ before

-- The greatest alignment of fields.
use Rattle.std.proofs.Common.{◌≡◌, ℕ, ◌≤◌, List, [], ◌∷◌, drop, length, map, max, ap, sym, ◌∙◌, arith}
use Rattle.std.proofs.Math.ListN.{drop_of_length-le}
use Rattle.cx_core.specs.Trees.{CMember}
use Rattle.cx_core.specs.Views.{view_member}
use Rattle.cx_core.specs.declared.ty.Member.{Member}
use Rattle.rs_items.specs.Records.{fields_align}

pub some_align : (members : List CMember) → 1 ≤ fields_align members
some_align [] = omega arith
some_align (one ∷ others) = let more = some_align others in grind (arith, more)

all_found : (found all : ℕ) → 1 ≤ found → 1 ≤ all → max found 1 ≡ max 1 all → found ≡ all
all_found found all low least is = grind (arith, low, least, is)

pub greatest : (members : List Member) (found index : ℕ) → length members ≤ index → 1 ≤ found
    → max found (fields_align (map view_member (drop index members))) ≡ max 1 (fields_align (map view_member members)) → found ≡ fields_align (map view_member members)
greatest members found index end low is =
    all_found found (fields_align (map view_member members)) low (some_align (map view_member members))
    (ap (λ list. max found (fields_align (map view_member list))) (sym (drop_of_length-le members end)) ∙ is)

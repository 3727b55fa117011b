-- No member has the name of what has none.
use Rattle.std.proofs.Common.{◌≡◌, refl, false, List, [], ◌∷◌, None}
use Rattle.std.specs.List.{list_any}
use Rattle.cx_core.specs.Trees.{CMember}
use Rattle.cx_rules.specs.Rules.{has_name}

pub none_has : (members : List CMember) → list_any (has_name None) members ≡ false
none_has [] = refl
none_has (one ∷ others) = none_has others

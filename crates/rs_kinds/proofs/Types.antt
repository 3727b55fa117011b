-- Types as lists.
use Rattle.std.proofs.Common.{◌≡◌, refl, ap, List, [], ◌∷◌, Option, Some, None}
use Rattle.rs_text.specs.Tree.{Ty, tys, option_ty}
use Rattle.rs_mean.specs.Typing.{listed, pointed_result}

pub listed_tys : (types : List Ty) → listed (tys types) ≡ types
listed_tys [] = refl
listed_tys (ty ∷ types) = ap (λ others. ty ∷ others) (listed_tys types)

pub pointed_option : (ty : Option Ty) → pointed_result (option_ty ty) ≡ ty
pointed_option None = refl
pointed_option (Some ty) = refl

-- Lists of types and trees of them, and types that are compared with a type of the library.
use Rattle.std.proofs.Common.{◌≡◌, refl, ap, ◌∙◌, ℕ, zero, suc, ◌<◌, ◌≤◌, List, [], ◌∷◌, map, length, drop, false, nat_eq, arith}
use Rattle.std.proofs.lemmas.Bool.Decides.{nat_tests}
use Rattle.std.proofs.Math.ListN.{drop_of_length-le}
use Rattle.cx_core.specs.Externals.{params_in}
use Rattle.cx_core.specs.Trees.{CTy, listed, types_in, unqualified}
use Rattle.cx_core.specs.Views.{view_type, types_of}
use Rattle.cx_core.specs.declared.ty.Ty.{Ty}
use Rattle.cx_externals.specs.LibraryTypes.{types_of_library}
use Rattle.cx_externals.specs.declared.library.LibraryTy.{LibraryTy}
use Rattle.cx_externals.specs.Functions.{same_lists, takes_nothing}

pub listed_again : (types : List CTy) → types_in (types_of types) ≡ types
listed_again [] = refl
listed_again (first ∷ others) = ap (λ rest. first ∷ rest) (listed_again others)

pub params_listed : (types : List CTy) → params_in (listed (types_of types)) ≡ map unqualified types
params_listed types = ap (map unqualified) (listed_again types)

pub nothing_listed : (types : List Ty) → nat_eq (length types) 0 ≡ takes_nothing (listed (types_of (map view_type types)))
nothing_listed [] = refl
nothing_listed (first ∷ others) =
    let some : nat_eq (length (first ∷ others)) 0 ≡ false = grind (arith, nat_tests) in
    some

-- the parameters of a function of the library have all been seen
pub all_seen : (known : List LibraryTy) (index : ℕ) (params : List Ty) → length known ≤ index →
    nat_eq (length params) 0 ≡ same_lists (map unqualified (map view_type params)) (types_of_library (drop index known))
all_seen known index [] h = rw (drop_of_length-le known h) refl
all_seen known index (first ∷ others) h =
    let some : nat_eq (length (first ∷ others)) 0 ≡ false = grind (arith, nat_tests) in
    some ∙ rw (drop_of_length-le known h) refl

-- a function of the library has one parameter more
pub one_more : (known : List LibraryTy) (index : ℕ) (params : List Ty) → index < length known → length params < 1 →
    false ≡ same_lists (map unqualified (map view_type params)) (types_of_library (drop index known))
one_more known index (param ∷ params) h none = absurd (omega (arith, none))
one_more [] index [] h none = absurd (omega (arith, h))
one_more (one ∷ known) zero [] h none = refl
one_more (one ∷ known) (suc index) [] h none = let less : index < length known = omega (arith, h) in one_more known index [] less none

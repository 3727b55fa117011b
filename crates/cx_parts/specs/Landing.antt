-- Where something lands, seen through arrays first. Named by the contracts of parts alone.
use Rattle.std.specs.Prelude.{ℕ, ◌==◌, Bool, true, false, if◌then◌else◌, List, [], ◌∷◌, Option, None, Some}
use Rattle.cx_core.specs.Trees.{CTy, ty, CTyForm, array, record_type, CTypes}
use Rattle.cx_rules.specs.Initial.{CKind, stays, down}

-- a structure or union that has this number
abbrev pub is_numbered : ℕ → Option ℕ → Bool
is_numbered number None = false
is_numbered number (Some other) = number == other

-- the first elements of arrays of arrays that lead to what is no array, or at which what is given stays; and what they lead to
abbrev pub zeros : CTypes → CKind → CTy → List ℕ
zeros types kind (ty (array element length) is_const) = if stays types kind (ty (array element length) is_const) then [] else 0 ∷ zeros types kind element
zeros types kind (ty form is_const) = []

abbrev pub innermost : CTypes → CKind → CTy → CTy
innermost types kind (ty (array element length) is_const) =
    if stays types kind (ty (array element length) is_const) then ty (array element length) is_const else innermost types kind element
innermost types kind (ty form is_const) = ty form is_const

abbrev pub inner_lands : (ℕ → Option (List ℕ)) → Bool → CTy → Option (List ℕ)
inner_lands of_record it_stays (ty (record_type number) is_const) = down it_stays (of_record number)
inner_lands of_record it_stays (ty form is_const) = Some []

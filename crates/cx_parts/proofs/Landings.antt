-- Where something lands, seen through arrays first.
use Rattle.std.proofs.Common.{◌≡◌, refl, ap, sym, ◌∙◌, ℕ, Bool, true, false, Option, None, Some, List, [], ◌∷◌, ◌++◌, option_map}
use Rattle.std.specs.Prelude.{◌==◌, ◌&&◌, ◌||◌, is_some}
use Rattle.cx_core.specs.Compatible.{in_pairs, forms_agree}
use Rattle.cx_core.specs.Layouts.{completed_count}
use Rattle.cx_core.specs.Trees.{CTy, ty, CTyForm, void, basic, enum_type, pointer, array, record_type, function, CTypes}
use Rattle.cx_parts.specs.Landing.{is_numbered, zeros, innermost, inner_lands}
use Rattle.cx_rules.specs.Initial.{CKind, of_type, stays, down, lands_in, record_lands, landing}
use Rattle.cx_rules.specs.Types.{record_of, record_of_form}

-- ---- what stays

or_false : (a : Bool) → (a || false) ≡ a
or_false true = refl
or_false false = refl

numbered_form : (types : CTypes) (number : ℕ) (form : CTyForm) → forms_agree types (in_pairs []) (record_type number) form ≡ is_numbered number (record_of_form form)
numbered_form types number void = refl
numbered_form types number (basic which) = refl
numbered_form types number (enum_type other) = refl
numbered_form types number (pointer to) = refl
numbered_form types number (array element length) = refl
numbered_form types number (record_type other) = or_false (number == other)
numbered_form types number (function result params variadic) = refl

pub of_record : (types : CTypes) (type given : CTy) (number : ℕ) → record_of type ≡ Some number → stays types (of_type given) type ≡ is_numbered number (record_of given)
of_record types (ty (record_type other) is_const) (ty form given_const) number is =
    numbered_form types other form ∙ ap (λ n. is_numbered n (record_of_form form)) (let e : other ≡ number = cc in e)
of_record types (ty void is_const) given number is = cc
of_record types (ty (basic which) is_const) given number is = cc
of_record types (ty (enum_type other) is_const) given number is = cc
of_record types (ty (pointer to) is_const) given number is = cc
of_record types (ty (array element length) is_const) given number is = cc
of_record types (ty (function result params variadic) is_const) given number is = cc

pub of_none : (types : CTypes) (type given : CTy) → record_of type ≡ None → stays types (of_type given) type ≡ false
of_none types (ty (record_type other) is_const) given is = cc
of_none types (ty void is_const) given is = refl
of_none types (ty (basic which) is_const) given is = refl
of_none types (ty (enum_type other) is_const) given is = refl
of_none types (ty (pointer to) is_const) given is = refl
of_none types (ty (array element length) is_const) given is = refl
of_none types (ty (function result params variadic) is_const) given is = refl

-- ---- through arrays

module _ (types : CTypes) (kind : CKind) (of_record_at : ℕ → Option (List ℕ)) where
  abbrev claim : CTy → Type 0
  claim type = option_map (λ rest. zeros types kind type ++ rest) (inner_lands of_record_at (stays types kind (innermost types kind type)) (innermost types kind type))
      ≡ lands_in of_record_at types kind type

  none_in_front : (path : Option (List ℕ)) → option_map (λ (rest : List ℕ). [] ++ rest) path ≡ path
  none_in_front None = refl
  none_in_front (Some path) = refl

  one_in_front : (front : List ℕ) (path : Option (List ℕ)) → option_map (λ (rest : List ℕ). 0 ∷ (front ++ rest)) path ≡ option_map (λ rest. 0 ∷ rest) (option_map (λ rest. front ++ rest) path)
  one_in_front front None = refl
  one_in_front front (Some path) = refl

  array_by : (element : CTy) (length : Option ℕ) (is_const here : Bool) → stays types kind (ty (array element length) is_const) ≡ here → claim element → claim (ty (array element length) is_const)
  array_by element length is_const true is claimed = rw is refl
  array_by element length is_const false is claimed = rw is
      (one_in_front (zeros types kind element) (inner_lands of_record_at (stays types kind (innermost types kind element)) (innermost types kind element)) ∙ ap (option_map (λ path. 0 ∷ path)) claimed)

  pub lands_by : (type : CTy) → claim type
  lands_by (ty (array element length) is_const) = array_by element length is_const (stays types kind (ty (array element length) is_const)) refl (lands_by element)
  lands_by (ty (record_type number) is_const) = none_in_front (down (stays types kind (ty (record_type number) is_const)) (of_record_at number))
  lands_by (ty void is_const) = refl
  lands_by (ty (basic which) is_const) = refl
  lands_by (ty (enum_type number) is_const) = refl
  lands_by (ty (pointer to) is_const) = refl
  lands_by (ty (function result params variadic) is_const) = refl

pub landing_by : (types : CTypes) (kind : CKind) (depth : ℕ) (type : CTy) → depth ≡ completed_count types.records
    → lands_in (record_lands types kind depth) types kind type ≡ landing types kind type
unfolding landing
landing_by types kind depth type is = ap (λ d. lands_in (record_lands types kind d) types kind type) is

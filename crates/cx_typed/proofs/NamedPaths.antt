-- The paths of what initialisers store lead over named members alone (ISO C99, 6.7.8p9).
use Rattle.std.proofs.Common.{◌≡◌, ℕ, zero, suc, ◌+◌, Bool, true, false, if◌then◌else◌, List, [], ◌∷◌, ◌++◌, Option, None, Some, option_map, is_some, slice_get, refl, sym, ap, ◌∙◌, subst, arith}
use Rattle.std.specs.Prelude.{IfSome}
use Rattle.cx_core.specs.Layouts.{completed_count}
use Rattle.cx_core.specs.Trees.{CTy, ty, array, record_type, form_of_type, CMember, CTypes}
use Rattle.cx_core.specs.ValidTypes.{member_of, has_name}
use Rattle.cx_rules.specs.Initial.{members_of, is_union_of, record_at, has_element, part_type, first_named, behind, first_part, next_part, one_step, later_or, following_in, CKind, down, stays, lands_in, in_member, in_first, record_lands, landing, type_by, is_aggregate, first_path, is_called, called_from}
use Rattle.cx_typed.proofs.Stays.{both, together}
use Rattle.cx_typed.specs.Initialised.{is_named_by}

-- ---- members that are found by their names

abbrev pub IsNamedIn : List CMember → ℕ → Type 0
IsNamedIn members index = has_name (slice_get members index) ≡ true

abbrev after_first : List CMember → List CMember
after_first [] = []
after_first (one ∷ others) = others

get_behind : (from : ℕ) (members : List CMember) → slice_get (behind from members) 0 ≡ slice_get members from
get_behind zero members = refl
get_behind (suc n) [] = refl
get_behind (suc n) (one ∷ members) = get_behind n members

next_behind : (from : ℕ) (members : List CMember) → behind (suc from) members ≡ after_first (behind from members)
next_behind zero [] = refl
next_behind zero (one ∷ members) = refl
next_behind (suc n) [] = refl
next_behind (suc n) (one ∷ members) = next_behind n members

module _ (members : List CMember) where
  one_behind : (from : ℕ) (one : CMember) (others : List CMember) → behind from members ≡ one ∷ others → behind (from + 1) members ≡ others
  one_behind from one others is = let next : from + 1 ≡ suc from = omega arith in ap (λ n. behind n members) next ∙ (next_behind from members ∙ ap after_first is)

  one_here : (from : ℕ) (one : CMember) (others : List CMember) → behind from members ≡ one ∷ others → slice_get members from ≡ Some one
  one_here from one others is = sym (get_behind from members) ∙ ap (λ found. slice_get found 0) is

  if_found : (test : Bool) (from : ℕ) (later : Option ℕ) → (test ≡ true → IsNamedIn members from) → IfSome later (IsNamedIn members) → IfSome (if test then Some from else later) (IsNamedIn members)
  if_found true from later here held = here refl
  if_found false from later here held = held

  pub first_is_named : (rest : List CMember) (from : ℕ) → behind from members ≡ rest → IfSome (first_named from rest) (IsNamedIn members)
  first_is_named [] from is = tt
  first_is_named (one ∷ others) from is =
      if_found (is_some one.name) from (first_named (from + 1) others) (λ named. ap has_name (one_here from one others is) ∙ named) (first_is_named others (from + 1) (one_behind from one others is))

  some_name : (name : List ℕ) (found : Option (List ℕ)) → is_called name found ≡ true → is_some found ≡ true
  some_name name None is = absurd cc
  some_name name (Some other) is = refl

  pub called_is_named : (name : List ℕ) (rest : List CMember) (from : ℕ) → behind from members ≡ rest → IfSome (called_from from name rest) (IsNamedIn members)
  called_is_named name [] from is = tt
  called_is_named name (one ∷ others) from is =
      if_found (is_called name one.name) from (called_from (from + 1) name others) (λ called. ap has_name (one_here from one others is) ∙ some_name name one.name called)
      (called_is_named name others (from + 1) (one_behind from one others is))

module _ (types : CTypes) where
  -- ---- one path behind another

  named_nowhere : (path : List ℕ) → is_named_by types None path ≡ true
  named_nowhere [] = refl
  named_nowhere (index ∷ path) = refl

  pub named_behind : (found : Option CTy) (front behind : List ℕ) → is_named_by types found front ≡ true → is_named_by types (type_by types found front) behind ≡ true → is_named_by types found (front ++ behind) ≡ true
  named_behind None front behind one other = named_nowhere (front ++ behind)
  named_behind (Some type) [] behind one other = other
  named_behind (Some type) (index ∷ front) behind one other = together (both one).0 (named_behind (part_type types type index) front behind (both one).1 other)

  pub named_tail : (found : Option CTy) (front behind : List ℕ) → is_named_by types found (front ++ behind) ≡ true → is_named_by types (type_by types found front) behind ≡ true
  named_tail None [] behind is = named_nowhere behind
  named_tail None (index ∷ front) behind is = named_nowhere behind
  named_tail (Some type) [] behind is = is
  named_tail (Some type) (index ∷ front) behind is = named_tail (part_type types type index) front behind (both is).1

  -- ---- paths that may be none

  abbrev pub HaveNames : Option CTy → Option (List ℕ) → Type 0
  HaveNames found path = IfSome path (λ one. is_named_by types found one ≡ true)

  abbrev IsNamedPart : CTy → ℕ → Type 0
  IsNamedPart type index = has_name (member_of types (form_of_type type) index) ≡ true

  names_nowhere : (path : Option (List ℕ)) → HaveNames None path
  names_nowhere None = tt
  names_nowhere (Some path) = named_nowhere path

  names_inside : (type : CTy) (index : ℕ) (path : Option (List ℕ)) → IsNamedPart type index → HaveNames (part_type types type index) path → HaveNames (Some type) (option_map (λ rest. index ∷ rest) path)
  names_inside type index None here held = tt
  names_inside type index (Some path) here held = together here held

  either_names : (found : Option CTy) (one other : Option (List ℕ)) → HaveNames found one → HaveNames found other → HaveNames found (later_or one other)
  either_names found None other held more = more
  either_names found (Some path) other held more = held

  step_names : (type : CTy) (index : Option ℕ) → IfSome index (IsNamedPart type) → HaveNames (Some type) (one_step index)
  step_names type None held = tt
  step_names type (Some index) held = together held refl

  -- ---- the first part, and the next one (6.7.8p17)

  if_element : (P : ℕ → Type 0) (test : Bool) (index : ℕ) → P index → IfSome (if test then Some index else None) P
  if_element P true index held = held
  if_element P false index held = tt

  first_part_named : (type : CTy) → IfSome (first_part types type) (IsNamedPart type)
  first_part_named (ty (array element length) is_const) = if_element (IsNamedPart (ty (array element length) is_const)) (has_element types element length 0) 0 refl
  first_part_named (ty (record_type number) is_const) = first_is_named (members_of (record_at types number)) (members_of (record_at types number)) 0 refl
  first_part_named (ty form is_const) = tt

  if_no_union : (P : ℕ → Type 0) (test : Bool) (index : Option ℕ) → IfSome index P → IfSome (if test then None else index) P
  if_no_union P true index held = tt
  if_no_union P false index held = held

  next_part_named : (type : CTy) (index : ℕ) → IfSome (next_part types type index) (IsNamedPart type)
  next_part_named (ty (array element length) is_const) index = if_element (IsNamedPart (ty (array element length) is_const)) (has_element types element length (index + 1)) (index + 1) refl
  next_part_named (ty (record_type number) is_const) index =
      let members = members_of (record_at types number) in
      if_no_union (IsNamedPart (ty (record_type number) is_const)) (is_union_of (record_at types number)) (first_named (index + 1) (behind (index + 1) members))
      (first_is_named members (behind (index + 1) members) (index + 1) refl)
  next_part_named (ty form is_const) index = tt

  pub following_named : (found : Option CTy) (path : List ℕ) → is_named_by types found path ≡ true → HaveNames found (following_in types found path)
  following_named None [] is = tt
  following_named None (index ∷ path) is = tt
  following_named (Some type) [] is = tt
  following_named (Some type) (index ∷ path) is =
      either_names (Some type) (option_map (λ rest. index ∷ rest) (following_in types (part_type types type index) path)) (one_step (next_part types type index))
      (names_inside type index (following_in types (part_type types type index) path) (both is).0 (following_named (part_type types type index) path (both is).1))
      (step_names type (next_part types type index) (next_part_named type index))

  if_aggregate : (type : CTy) (test : Bool) (path : Option (List ℕ)) → HaveNames (Some type) path → HaveNames (Some type) (if test then path else Some [])
  if_aggregate type true path held = held
  if_aggregate type false path held = refl

  pub first_path_named : (type : CTy) → HaveNames (Some type) (first_path types type)
  first_path_named type = if_aggregate type (is_aggregate (form_of_type type)) (one_step (first_part types type)) (step_names type (first_part types type) (first_part_named type))

  -- ---- where a value lands (6.7.8p13, p14, p20)

  down_names : (type : CTy) (test : Bool) (path : Option (List ℕ)) → HaveNames (Some type) path → HaveNames (Some type) (down test path)
  down_names type true path held = refl
  down_names type false path held = held

  if_there : (test : Bool) (type : CTy) (path : Option (List ℕ)) → HaveNames (Some type) path → HaveNames (if test then Some type else None) path
  if_there true type path held = held
  if_there false type path held = names_nowhere path

  module _ (kind : CKind) where
    lands_named : (of_record : ℕ → Option (List ℕ)) → ((number : ℕ) (is_const : Bool) → HaveNames (Some (ty (record_type number) is_const)) (of_record number)) → (type : CTy)
        → HaveNames (Some type) (lands_in of_record types kind type)
    lands_named of_record held (ty (array element length) is_const) =
        let type = ty (array element length) is_const in
        let path = lands_in of_record types kind element in
        down_names type (stays types kind type) (option_map (λ rest. 0 ∷ rest) path)
        (names_inside type 0 path refl (if_there (has_element types element length 0) element path (lands_named of_record held element)))
    lands_named of_record held (ty (record_type number) is_const) =
        down_names (ty (record_type number) is_const) (stays types kind (ty (record_type number) is_const)) (of_record number) (held number is_const)
    lands_named of_record held (ty form is_const) = refl

    module _ (lands : CTy → Option (List ℕ)) (held : (type : CTy) → HaveNames (Some type) (lands type)) (number : ℕ) (is_const : Bool) where
      member_lands : (index : ℕ) (found : Option CMember) → slice_get (members_of (record_at types number)) index ≡ found → has_name found ≡ true
          → HaveNames (Some (ty (record_type number) is_const)) (in_member lands index found)
      member_lands index None e named = tt
      member_lands index (Some one) e named =
          names_inside (ty (record_type number) is_const) index (lands one.type) (ap has_name e ∙ named)
          (subst (λ found. HaveNames found (lands one.type)) (sym (ap (option_map (λ one. one.type)) e)) (held one.type))

      first_lands : (index : Option ℕ) → IfSome index (IsNamedIn (members_of (record_at types number)))
          → HaveNames (Some (ty (record_type number) is_const)) (in_first lands (members_of (record_at types number)) index)
      first_lands None named = tt
      first_lands (Some index) named = member_lands index (slice_get (members_of (record_at types number)) index) refl named

    record_lands_named : (depth number : ℕ) (is_const : Bool) → HaveNames (Some (ty (record_type number) is_const)) (record_lands types kind depth number)
    record_lands_named zero number is_const = tt
    record_lands_named (suc depth) number is_const =
        first_lands (lands_in (record_lands types kind depth) types kind) (lands_named (record_lands types kind depth) (record_lands_named depth)) number is_const
        (first_named 0 (members_of (record_at types number))) (first_is_named (members_of (record_at types number)) (members_of (record_at types number)) 0 refl)

    pub landing_named : (type : CTy) → HaveNames (Some type) (landing types kind type)
    unfolding landing
    landing_named type = lands_named (record_lands types kind (completed_count types.records)) (record_lands_named (completed_count types.records)) type

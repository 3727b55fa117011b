-- The parameters of a function of the crate, and the copies of structures and unions, are those of C, in order (ISO C99, 6.5.2.2p4 and 6.9.1p10).
use Rattle.std.proofs.Common.{◌≡◌, ◌≢◌, ℕ, ◌<◌, ◌==◌, ◌&&◌, not, Bool, true, false, if◌then◌else◌, List, [], ◌∷◌, ◌++◌, length, codes, Option, Some, None, is_some, refl, sym, ap, subst, ◌∙◌, inl, inr}
use Rattle.std.proofs.lemmas.List.Elements.{All-contains}
use Rattle.std.specs.List.{Contains, flat_map}
use Rattle.cx_core.specs.Layouts.{layouts_of}
use Rattle.cx_core.specs.Linked.{IsTypedObject}
use Rattle.cx_core.specs.Trees.{CFun, CObject, CTy, CTyForm, void, basic, enum_type, pointer, array, record_type, function, CProgram, form_of_type}
use Rattle.cx_core.specs.Typing.{object_with}
use Rattle.cx_mean.specs.Operands.{Frame as CFrame}
use Rattle.lift_calls.specs.Frames.{FunctionNames}
use Rattle.lift_calls.specs.Programs.{Setting}
use Rattle.lift_calls_entry.specs.Entry.{AllDiffer, AreParams, IsObjectLocal, IsPlainParam, IsRecordParam}
use Rattle.lift_exprs.specs.Names.{Names, kept_or}
use Rattle.lift_exprs.specs.Objects.{object_at}
use Rattle.lift_exprs.specs.Written.{copied}
use Rattle.lift_forms.proofs.SameTypes.{same_itself}
use Rattle.lift_forms.specs.Given.{address_of, pointed}
use Rattle.lift_forms.specs.Places.{Kept, object_place}
use Rattle.lift_held.specs.Held.{is_record_form}
use Rattle.rs_items.specs.Types.{rust_type}
use Rattle.rs_items_rules.proofs.Types.{complete_fits}
use Rattle.rs_items_sets.specs.Names.{rust_name}
use Rattle.rs_items_sets.specs.declared.scope.NameScope.TheVariants.{Function}
use Rattle.rs_mean.specs.Layout.{laid_at}
use Rattle.rs_text.specs.Tree.{Ty, Pointer, Local, AddressOf, Cast, Read, Place, Stmt, Stmts, LocalTree}
use Rattle.whole_bodies.specs.Bodies.{copy_of_passed}
use Rattle.whole_bodies.specs.Names.{locals_of, names_in, own_names, type_of_found}
use Rattle.whole_items.specs.Items.{WrittenBodies, is_param, is_plain_param, object_local, param_by, param_of, type_of_object}
use Rattle.whole_means.proofs.Entries.{local_there, tree_with}
use Rattle.whole_means.proofs.Keys.{number_same, number_self}
use Rattle.whole_means.proofs.Layouts.{all_kept}
use Rattle.whole_means.proofs.Lists.{Among, among_contains, find_there}
use Rattle.whole_means.proofs.Means.{laid_same, scalar_same, size_same}
use Rattle.whole_means.proofs.Modules.{modules_by}
use Rattle.whole_means.proofs.ParamObjects.{AreAllParams, IsParamOf, has_kind, record_kind_is}
use Rattle.whole_means.proofs.Whole.{objects_are}
use Rattle.whole_means.specs.FunctionNames.{kept_by, kept_found, kept_names}
use Rattle.whole_means.specs.Settings.{setting_with}
use Rattle.whole_means.specs.Written.{IsNamed}
use Rattle.whole_names.specs.FunctionNames.{a_local, a_passed, LocalName, WantedLocal, is_record, locals_from, object_is_record, object_name, wanted_param, wanted_params}
use Rattle.whole_names.specs.Kept.{NamedProgram, known_thing, local_among, no_locals, types_of}
use Rattle.whole_names.specs.ModuleNames.{name_or}
use Rattle.whole_items.specs.Items.{module_tree}

-- ---- one more parameter

module _ (s : Setting) (names : FunctionNames) (locals : List LocalTree) where
  one_plain : (number : ℕ) (numbers : List ℕ) (param : LocalTree) (params : List LocalTree) (copies : List Stmt) → IsPlainParam s names number param → AreParams s names locals numbers params copies →
      AreParams s names locals (number ∷ numbers) (param ∷ params) copies
  one_plain number numbers param params [] is are = (is, are)
  one_plain number numbers param params (copy ∷ copies) is are = inl (is, are)

apart_numbers : (one other : ℕ) → one ≢ other → (other == one) ≡ false
apart_numbers one other apart = by_test (other == one) refl
  where
    by_test : (t : Bool) → (other == one) ≡ t → t ≡ false
    by_test true e = absurd (apart (sym (number_same other one e)))
    by_test false e = refl

and_false : (b : Bool) → (b && false) ≡ false
and_false true = refl
and_false false = refl

same_record_form : (form : CTyForm) → is_record_form form ≡ is_record form
same_record_form void = refl
same_record_form (basic which) = refl
same_record_form (enum_type number) = refl
same_record_form (pointer to) = refl
same_record_form (array element length) = refl
same_record_form (record_type number) = refl
same_record_form (function result params variadic) = refl

-- ---- a function

module _ (whole : NamedProgram) (is : IsNamed whole) (bodies : WrittenBodies) (fun : CFun) (statics : CFrame) (has_dispatch : Bool) (statements : Stmts) where
  abbrev program : CProgram
  program = whole.program

  abbrev s : Setting
  s = setting_with whole (modules_by (module_tree whole bodies) 0 (length whole.module_names)) statics

  abbrev kept : FunctionNames
  kept = kept_names whole fun

  abbrev own : List LocalName
  own = own_names whole fun

  abbrev names : Names
  names = names_in whole fun.unit (locals_of whole fun)

  abbrev locals : List LocalTree
  locals = (tree_with whole fun has_dispatch statements).locals

  -- the parameters that names become, and the copies that are made of those of C
  abbrev params_in : List LocalName → List LocalTree
  params_in list = flat_map (param_of whole fun) list

  abbrev copies_for : List ℕ → List Stmt
  copies_for numbers = flat_map (copy_of_passed whole fun) numbers

  module _ (number : ℕ) (it : IsParamOf program number) where
    abbrev type : CTy
    type = it.one.type

    abbrev ty : Ty
    ty = rust_type (types_of whole) type

    number_is : it.one.object ≡ number
    number_is = let found = find_there (λ (one : CObject). one.object == number) program.objects it.one it.object_is in number_same it.one.object number found.1

    typed : IsTypedObject program None it.one
    typed =
        All-contains (IsTypedObject program None) program.objects it.one is.linked.objects
        (among_contains program.objects it.one (find_there (λ (one : CObject). one.object == number) program.objects it.one it.object_is).0)

    ty_is : type_of_object whole (object_with number program.objects) ≡ ty
    ty_is = ap (type_of_object whole) it.object_is

    record_is : object_is_record (object_with number program.objects) ≡ is_record (form_of_type type)
    record_is = ap object_is_record it.object_is

    kept_is : (x : List ℕ) → local_among (a_local number) own ≡ Some x → kept.objects number ≡ Some (record { place = Local x; ty = ty })
    kept_is x found =
        ap (kept_found whole fun) it.object_is ∙ ap (kept_by whole it.one) (ap (λ (n : ℕ). local_among (a_local n) own) number_is ∙ found)

    abbrev object_local_is : (x : List ℕ) → local_among (a_local number) own ≡ Some x → IsObjectLocal s kept number (record { name = x; ty = ty })
    object_local_is x found = record {
      one = it.one;
      object_is = it.object_is;
      laid = it.laid;
      laid_is = it.laid_is;
      crate_laid_is = laid_same whole is bodies fun.unit (locals_of whole fun) statics type it.laid it.laid_is;
      kept_is = kept_is x found;
    }

    plain_is : (x : List ℕ) → local_among (a_local number) own ≡ Some x → is_record (form_of_type type) ≡ false → IsPlainParam s kept number (record { name = x; ty = ty })
    plain_is x found plain =
        let kind = has_kind program it.one.unit type is.linked.types typed.type_in (ap is_some it.laid_is) it.form plain in
        record {
          object = object_local_is x found;
          kind = kind.kind;
          scalar = kind.scalar;
          c_kind_is = kind.plain_is;
          kind_is = kind.kind_is;
          param_kind_is = scalar_same whole type kind.kind kind.is;
        }

    -- the place of the local that is its copy
    place_is : (x : List ℕ) → local_among (a_local number) own ≡ Some x → object_at names type number ≡ Local x
    place_is x found =
        let there : Kept = record { place = Local x; ty = ty } in
        ap (λ (one : Option Kept). object_place (kept_or one) ty) (objects_are whole fun number there (kept_is x found))
        ∙ ap (λ (test : Bool). if test then Local x else pointed (Cast (address_of (Local x)) (Pointer ty))) (same_itself ty)

    abbrev copy_from : List ℕ → CTy → Stmt
    copy_from passed one = copied (Read (Local passed)) (address_of (object_at names one number)) (names.size_of one)

    copy_text : (passed x : List ℕ) → local_among (a_passed number) own ≡ Some passed → local_among (a_local number) own ≡ Some x → is_record (form_of_type type) ≡ true →
        copy_of_passed whole fun number ≡ copied (Read (Local passed)) (AddressOf (Local x)) it.laid.size ∷ []
    copy_text passed x passed_is local_is whole_record =
        ap (λ (one : CTy). if is_record_form (form_of_type one) then copy_from (name_or [] (local_among (a_passed number) own)) one ∷ [] else []) (ap type_of_found it.object_is)
        ∙ ap (λ (test : Bool). if test then copy_from (name_or [] (local_among (a_passed number) own)) type ∷ [] else []) (same_record_form (form_of_type type) ∙ whole_record)
        ∙ ap (λ (p : Option (List ℕ)). copy_from (name_or [] p) type ∷ []) passed_is
        ∙ ap (λ (p : Place). copied (Read (Local passed)) (address_of p) (names.size_of type) ∷ []) (place_is x local_is)
        ∙ ap (λ (n : ℕ). copied (Read (Local passed)) (AddressOf (Local x)) n ∷ []) (size_same whole is bodies fun.unit (locals_of whole fun) statics type it.laid it.laid_is)

    no_copy : is_record (form_of_type type) ≡ false → copy_of_passed whole fun number ≡ []
    no_copy plain =
        ap (λ (one : CTy). if is_record_form (form_of_type one) then copy_from (name_or [] (local_among (a_passed number) own)) one ∷ [] else []) (ap type_of_found it.object_is)
        ∙ ap (λ (test : Bool). if test then copy_from (name_or [] (local_among (a_passed number) own)) type ∷ [] else []) (same_record_form (form_of_type type) ∙ plain)

    no_plain : is_record (form_of_type type) ≡ true → is_plain_param whole fun number ≡ false
    no_plain whole_record =
        ap (λ (test : Bool). is_param fun.params number && not test) (record_is ∙ whole_record) ∙ and_false (is_param fun.params number)

    plain_so : is_param fun.params number ≡ true → is_record (form_of_type type) ≡ false → is_plain_param whole fun number ≡ true
    plain_so own_param plain = ap (λ (test : Bool). test && not (object_is_record (object_with number program.objects))) own_param ∙ ap not (record_is ∙ plain)

    some_bytes : 0 < it.laid.size
    some_bytes = (complete_fits (known_thing whole fun.unit no_locals) (laid_at s.modules) (layouts_of program.types) (all_kept whole is bodies fun.unit no_locals) type it.laid it.laid_is).some

    typed_local : (x : List ℕ) → object_local whole x number ≡ record { name = x; ty = ty } ∷ []
    typed_local x = ap (λ (one : Ty). record { name = x; ty = one } ∷ []) ty_is

    param_is : (x : List ℕ) → is_param fun.params number ≡ true → is_record (form_of_type type) ≡ false → param_by whole fun x (a_local number) ≡ record { name = x; ty = ty } ∷ []
    param_is x own_param plain = ap (λ (test : Bool). if test then object_local whole x number else []) (plain_so own_param plain) ∙ typed_local x

    passed_is_param : (passed x : List ℕ) → is_record (form_of_type type) ≡ true →
        param_by whole fun passed (a_passed number) ++ param_by whole fun x (a_local number) ≡ record { name = passed; ty = Pointer ty } ∷ []
    passed_is_param passed x whole_record =
        ap (λ (one : Ty). record { name = passed; ty = Pointer one } ∷ param_by whole fun x (a_local number)) ty_is
        ∙ ap (λ (test : Bool). record { name = passed; ty = Pointer ty } ∷ (if test then object_local whole x number else [])) (no_plain whole_record)

    local_is_there : (x : List ℕ) → local_among (a_local number) own ≡ Some x → is_record (form_of_type type) ≡ true → Contains locals (record { name = x; ty = ty })
    local_is_there x found whole_record =
        among_contains locals (record { name = x; ty = ty })
        (local_there whole fun has_dispatch statements (a_local number) x (record { name = x; ty = ty }) found
        (subst (λ (list : List LocalTree). Among list (record { name = x; ty = ty }))
        (sym (ap (λ (test : Bool). if test then [] else object_local whole x number) (no_plain whole_record) ∙ typed_local x)) (inl refl)))

    record_is_passed : (passed x : List ℕ) → local_among (a_local number) own ≡ Some x → is_record (form_of_type type) ≡ true →
        IsRecordParam s kept locals number (record { name = passed; ty = Pointer ty }) (copied (Read (Local passed)) (AddressOf (Local x)) it.laid.size)
    record_is_passed passed x found whole_record = record {
      local = record { name = x; ty = ty };
      among = local_is_there x found whole_record;
      object = object_local_is x found;
      kind_is = record_kind_is program type it.laid whole_record it.laid_is;
      some = some_bytes;
      to = ty;
      param_ty_is = refl;
      copy_is = refl;
    }

  -- ---- all of them

  module _ (after : List WantedLocal) (none_after : (taken : List (List ℕ)) → params_in (locals_from taken after) ≡ []) where
    abbrev rest_of : List (List ℕ) → List ℕ → List LocalName
    rest_of taken numbers = locals_from taken (wanted_params program numbers ++ after)

    -- what parameters are found as from here on
    abbrev AreFound : List LocalName → List ℕ → Type 0
    AreFound list numbers = (number : ℕ) → Among numbers number → (local_among (a_local number) own ≡ local_among (a_local number) list) × (local_among (a_passed number) own ≡ local_among (a_passed number) list)

    abbrev AreNamed : List LocalName → List ℕ → Type 0
    AreNamed list numbers = AreParams s kept locals numbers (params_in list) (copies_for numbers)

    module _ (number : ℕ) (numbers : List ℕ) (it : IsParamOf program number) (own_param : is_param fun.params number ≡ true) (apart : (other : ℕ) → Contains numbers other → number ≢ other)
        (more : (taken : List (List ℕ)) → AreFound (rest_of taken numbers) numbers → AreNamed (rest_of taken numbers) numbers) where
      abbrev name : List ℕ
      name = object_name (codes "arg") (object_with number program.objects)

      not_it : (other : ℕ) → Among numbers other → (other == number) ≡ false
      not_it other there = apart_numbers number other (apart other (among_contains numbers other there))

      -- a scalar
      plain_next : (taken : List (List ℕ)) → is_record (form_of_type it.one.type) ≡ false → AreFound (locals_from taken (record { key = a_local number; wanted = name } ∷ (wanted_params program numbers ++ after))) (number ∷ numbers) →
          AreNamed (locals_from taken (record { key = a_local number; wanted = name } ∷ (wanted_params program numbers ++ after))) (number ∷ numbers)
      plain_next taken plain found =
          let x = rust_name taken Function name in
          let rest = rest_of (taken ++ x ∷ []) numbers in
          let here : local_among (a_local number) own ≡ Some x = (found number (inl refl)).0 ∙ ap (λ t. if t then Some x else local_among (a_local number) rest) (number_self number) in
          let others : AreFound rest numbers = λ other there. (
            (found other (inr there)).0 ∙ ap (λ t. if t then Some x else local_among (a_local other) rest) (not_it other there),
            (found other (inr there)).1,
          ) in
          let param : param_by whole fun x (a_local number) ≡ record { name = x; ty = rust_type (types_of whole) it.one.type } ∷ [] = param_is number it x own_param plain in
          let copies : copies_for (number ∷ numbers) ≡ copies_for numbers = ap (λ (list : List Stmt). list ++ copies_for numbers) (no_copy number it plain) in
          subst (λ (list : List LocalTree). AreParams s kept locals (number ∷ numbers) (list ++ params_in rest) (copies_for (number ∷ numbers))) (sym param)
          (subst (λ (list : List Stmt). AreParams s kept locals (number ∷ numbers) (record { name = x; ty = rust_type (types_of whole) it.one.type } ∷ params_in rest) list) (sym copies)
          (one_plain s kept locals number numbers (record { name = x; ty = rust_type (types_of whole) it.one.type }) (params_in rest) (copies_for numbers) (plain_is number it x here plain) (more (taken ++ x ∷ []) others)))

      -- a structure or union
      record_next : (taken : List (List ℕ)) → is_record (form_of_type it.one.type) ≡ true →
          AreFound (locals_from taken (record { key = a_passed number; wanted = name } ∷ record { key = a_local number; wanted = name } ∷ (wanted_params program numbers ++ after))) (number ∷ numbers) →
          AreNamed (locals_from taken (record { key = a_passed number; wanted = name } ∷ record { key = a_local number; wanted = name } ∷ (wanted_params program numbers ++ after))) (number ∷ numbers)
      record_next taken whole_record found =
          let passed = rust_name taken Function name in
          let x = rust_name (taken ++ passed ∷ []) Function name in
          let rest = rest_of ((taken ++ passed ∷ []) ++ x ∷ []) numbers in
          let local_is : local_among (a_local number) own ≡ Some x = (found number (inl refl)).0 ∙ ap (λ t. if t then Some x else local_among (a_local number) rest) (number_self number) in
          let passed_is : local_among (a_passed number) own ≡ Some passed =
          (found number (inl refl)).1 ∙ ap (λ t. if t then Some passed else local_among (a_passed number) (record { key = a_local number; name = x } ∷ rest)) (number_self number) in
          let others : AreFound rest numbers = λ other there. (
            (found other (inr there)).0 ∙ ap (λ t. if t then Some x else local_among (a_local other) rest) (not_it other there),
            (found other (inr there)).1 ∙ ap (λ t. if t then Some passed else local_among (a_passed other) rest) (not_it other there),
          ) in
          let ty = rust_type (types_of whole) it.one.type in
          let param : param_by whole fun passed (a_passed number) ++ param_by whole fun x (a_local number) ≡ record { name = passed; ty = Pointer ty } ∷ [] = passed_is_param number it passed x whole_record in
          let copy : copy_of_passed whole fun number ≡ copied (Read (Local passed)) (AddressOf (Local x)) it.laid.size ∷ [] = copy_text number it passed x passed_is local_is whole_record in
          subst (λ (list : List LocalTree). AreParams s kept locals (number ∷ numbers) (list ++ params_in rest) (copies_for (number ∷ numbers))) (sym param)
          (subst (λ (list : List Stmt). AreParams s kept locals (number ∷ numbers) (record { name = passed; ty = Pointer ty } ∷ params_in rest) (list ++ copies_for numbers)) (sym copy)
          (inr (record_is_passed number it passed x local_is whole_record, more ((taken ++ passed ∷ []) ++ x ∷ []) others)))

      abbrev list_with : List (List ℕ) → List WantedLocal → List LocalName
      list_with taken wanted = locals_from taken ((wanted ++ wanted_params program numbers) ++ after)

      next : (taken : List (List ℕ)) → AreFound (rest_of taken (number ∷ numbers)) (number ∷ numbers) → AreNamed (rest_of taken (number ∷ numbers)) (number ∷ numbers)
      next taken found = by_record (is_record (form_of_type it.one.type)) refl
        where
          wanted_so : (test : Bool) → is_record (form_of_type it.one.type) ≡ test → wanted_param program number ≡
              (if test then record { key = a_passed number; wanted = name } ∷ record { key = a_local number; wanted = name } ∷ [] else record { key = a_local number; wanted = name } ∷ [])
          wanted_so test e =
              ap (λ (t : Bool). if t then record { key = a_passed number; wanted = name } ∷ record { key = a_local number; wanted = name } ∷ [] else record { key = a_local number; wanted = name } ∷ []) (record_is number it ∙ e)

          by_record : (test : Bool) → is_record (form_of_type it.one.type) ≡ test → AreNamed (rest_of taken (number ∷ numbers)) (number ∷ numbers)
          by_record true e =
              subst (λ (wanted : List WantedLocal). AreNamed (list_with taken wanted) (number ∷ numbers)) (sym (wanted_so true e))
              (record_next taken e (subst (λ (wanted : List WantedLocal). AreFound (list_with taken wanted) (number ∷ numbers)) (wanted_so true e) found))
          by_record false e =
              subst (λ (wanted : List WantedLocal). AreNamed (list_with taken wanted) (number ∷ numbers)) (sym (wanted_so false e))
              (plain_next taken e (subst (λ (wanted : List WantedLocal). AreFound (list_with taken wanted) (number ∷ numbers)) (wanted_so false e) found))

    pub all_named : (numbers : List ℕ) → AreAllParams program numbers → AllDiffer numbers → ((number : ℕ) → Among numbers number → is_param fun.params number ≡ true) → (taken : List (List ℕ)) →
        AreFound (rest_of taken numbers) numbers → AreNamed (rest_of taken numbers) numbers
    all_named [] are differ own_param taken found = subst (λ (list : List LocalTree). AreParams s kept locals [] list []) (sym (none_after taken)) tt
    all_named (number ∷ numbers) are differ own_param taken found =
        next number numbers are.0 (own_param number (inl refl)) differ.0 (λ later. all_named numbers are.1 differ.1 (λ other there. own_param other (inr there)) later) taken found

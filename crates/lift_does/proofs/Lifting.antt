-- What is written for an expression does what it does.
use Rattle.std.proofs.Common.{◌≡◌, ◌⊎◌, inl, inr, ℕ, ◌+◌, ◌≤◌, Bool, true, false, not, if◌then◌else◌, ◌&&◌, ◌||◌, ◌==◌, List, [], ◌∷◌, ◌++◌, length, Option, Some, None, refl, sym, ap, subst, ◌∙◌, ⊎_elim}
use Rattle.cr_base.specs.declared.layout.Spot.{Spot}
use Rattle.cr_base.specs.declared.refusal.Place.{Place}
use Rattle.cr_world.specs.World.{World}
use Rattle.cx_core.specs.Trees.{CTy, ty, CTyForm, CExpr, expr, CForm, whole, null, object, code, load, deref, member, address, convert, unary, binary, and, or, cond, assign, assign_by, step, call, call_by, comma, literal, type_of, CFun, CExprs, no_exprs, more_exprs}
use Rattle.cx_core.specs.Typing.{CHome, IsTyped, AreTyped, IsCallBy, IsLvalue, function_with, is_bit_field, width_of}
use Rattle.cx_core.specs.Conversions.{promoted}
use Rattle.cx_core.specs.Trees.{CTypes, CMember, void, basic, enum_type, pointer, array, record_type, function, form_of_type, CTy, ty, CTyForm, CExpr, expr, CForm, whole, null, object, code, load, deref, member, address, convert, unary, binary, and, or, cond, assign, assign_by, step, call, call_by, comma, literal, type_of}
use Rattle.cx_core.specs.ValidTypes.{member_of}
use Rattle.lift_does.proofs.ValueMembers.{value_member_owes}
use Rattle.cx_core.specs.declared.expr.Op2.{Op2}
use Rattle.cx_typed_work.proofs.Computing.{assigned_binary}
use Rattle.lift_does.proofs.CompoundAssignments.{assign_by_owes}
use Rattle.lift_does.proofs.StepsByOne.{by_one_owes}
use Rattle.lift_calls.specs.Frames.{FunctionNames}
use Rattle.lift_does.proofs.Around.{Around, At}
use Rattle.lift_does.proofs.Asking.{held_test, value_node, place_node, place_node_as}
use Rattle.lift_does.proofs.Assignments.{target_plain, assign_owes}
use Rattle.lift_does.proofs.Binary.{binary_owes}
use Rattle.lift_does.proofs.BinaryTypes.{binary_there}
use Rattle.lift_does.proofs.BitLoads.{load_bits_owes}
use Rattle.lift_does.proofs.BitAssignments.{target_bits, assign_bits_owes}
use Rattle.lift_does.proofs.BitCompounds.{assign_by_bits_owes, by_one_bits_owes}
use Rattle.lift_does.proofs.BitNodes.{bits_kind_is, bits_node, bits_node_as}
use Rattle.lift_does.proofs.BitPlaces.{member_bits_owes}
use Rattle.lift_does.proofs.Arguments.{EachOwes}
use Rattle.lift_does.proofs.CallNodes.{held_call, named_owes, defined_serves}
use Rattle.lift_does.proofs.OuterNodes.{outer_is_served}
use Rattle.lift_does.proofs.OuterZeroedNodes.{zeroed_is_served}
use Rattle.lift_does.proofs.PointedNodes.{pointed_owes}
use Rattle.lift_does.proofs.Choices.{choice_owes, part_is_taken}
use Rattle.lift_does.proofs.Records.{void_record}
use Rattle.lift_exprs.specs.Calls.{Called, Arguments, called_by_name, called_by_pointer, called_for_record, called_for_value, called_alone, called_with}
use Rattle.std.specs.Prelude.{IsSome}
use Rattle.lift_does.proofs.Commas.{comma_owes}
use Rattle.lift_does.proofs.Conversions.{convert_owes}
use Rattle.lift_does.proofs.Decided.{and_owes, or_owes}
use Rattle.lift_does.proofs.Held.{kept_front, kept_back}
use Rattle.lift_does.proofs.Leaves.{whole_owes, null_owes, code_owes, object_owes}
use Rattle.lift_does.proofs.Loads.{load_owes}
use Rattle.lift_does.proofs.Numbers.{IsNumbered, turn_numbered, three_numbered, rises, pair_for, operands_of, parts_of, change_for, numbered, form_numbered, args_numbered}
use Rattle.lift_does.proofs.Lvalues.{no_width, form_place, lvalue_kind_is}
use Rattle.lift_does.proofs.Members.{lvalue_is, member_owes}
use Rattle.lift_does.proofs.Lvalues.{holder_plain, no_width, form_place, lvalue_kind_is}
use Rattle.lift_does.proofs.LiteralFills.{EachPutOwes, literal_owes}
use Rattle.lift_does.proofs.LiteralNodes.{put_is_asked, puts_kept}
use Rattle.lift_does.proofs.Nodes.{PartOwes}
use Rattle.cx_typed_work.proofs.Puts.{IsLiteralAlive, literal_lives}
use Rattle.cr_world.specs.World.{blocks_of}
use Rattle.cx_core.specs.Trees.{put, CPuts, no_puts, more_puts}
use Rattle.cx_core.specs.Typing.{ArePuts}
use Rattle.lift_does.proofs.Around.{scope}
use Rattle.lift_exprs.specs.Objects.{object_at}
use Rattle.lift_does.proofs.Operands.{or_false}
use Rattle.lift_does.proofs.Places.{deref_owes, address_owes}
use Rattle.lift_does.proofs.RecordAssignments.{target_record, assign_record_owes}
use Rattle.lift_does.proofs.RecordTypes.{assign_by_no_record, step_no_record}
use Rattle.lift_does.proofs.Unary.{form_fixed, ExprOwes, FormOwes, unary_owes}
use Rattle.lift_does.proofs.Used.{scalar_has, unary_has, convert_has, left_has, right_has, lvalue_has, assigned_has, address_kind}
use Rattle.lift_does.specs.Agree.{AreKeptFrom}
use Rattle.lift_does.specs.Outers.{OuterItem, ZeroedItem}
use Rattle.lift_does.specs.Calls.{CalleeMeans, CallsMean, FormCallsMean, ArgumentsMean, PutCallsMean}
use Rattle.lift_does.specs.Does.{IsAsked, LiftingDoes, is_fixed}
use Rattle.lift_exprs.specs.Lifted.{lifted, lifted_args, lifted_puts, lifted_form, operand_of, joined_to, Deciding, where_true, where_false, decided_written, Choice, chosen_written}
use Rattle.lift_exprs.specs.Names.{Names, type_in}
use Rattle.lift_exprs.specs.Stores.{Target, a_scalar, a_structure, a_field, is_field, target_of, held_store, plain_store, old_value, stored, stored_value, Change, changed, changed_first, stepped, step_by_one, promoted_type, target_type}
use Rattle.lift_exprs.specs.Written.{Written, Both, both, in_turn, place_of_given, address_of_given, NodeKind, a_value, a_record, lvalue_kind, value_kind, kind_in, held_type, then_held, held_where}
use Rattle.lift_forms.specs.Given.{Given}
use Rattle.lift_forms.specs.Given as given_form
use Rattle.lift_forms.specs.Operators.{Operand}
use Rattle.lift_held.specs.Held.{is_void, is_record, is_lvalue, acts, is_lvalue_form, operand, operand_before, part_of, whole_of, holds_call, some_holds_call, value_for, is_steady}
use Rattle.lift_held.specs.declared.asked.Asked.{Asked}
use Rattle.lift_stands.specs.Stands.{Images}
use Rattle.rs_mean_frames.proofs.Framed.{all_behave}
use Rattle.rs_mean_frames.specs.Behave.{BodiesBehave}
use Rattle.rs_text.specs.Tree.{Ty, Expr, Read}

-- ---- the temporaries that are kept

abbrev kept_as : Names → FunctionNames → ℕ → Ty → Type 0
kept_as names_of kept number one = kept.temporaries number ≡ Some (record { name = names_of.temporary number; ty = one })

last_kept : (names_of : Names) (kept : FunctionNames) (temporaries : List Ty) (one : Ty) (next from : ℕ) → next ≡ from + length temporaries → AreKeptFrom names_of kept from (temporaries ++ (one ∷ [])) → kept_as names_of kept next one
last_kept names_of kept temporaries one next from is are = subst (λ (n : ℕ). kept_as names_of kept n one) (sym is) (kept_back names_of kept from temporaries (one ∷ []) are).0

where_kept : (test : Bool) (names_of : Names) (kept : FunctionNames) (kind : NodeKind) (written : Written) (from : ℕ) → IsNumbered written from → AreKeptFrom names_of kept from (held_where test names_of kind written).temporaries →
    AreKeptFrom names_of kept from written.temporaries × (test ≡ true → kept_as names_of kept written.next (held_type kind))
where_kept true names_of kept kind written from is are =
    (kept_front names_of kept from written.temporaries (held_type kind ∷ []) are, λ e. last_kept names_of kept written.temporaries (held_type kind) written.next from is are)
where_kept false names_of kept kind written from is are = (are, λ e. cc (e))

stored_kept_by : (test : Bool) (names_of : Names) (kept : FunctionNames) (used : Bool) (target : Target) (e : Expr) (written : Written) (from : ℕ) → IsNumbered written from →
    AreKeptFrom names_of kept from (if test then held_store names_of used target e written else plain_store target e written).temporaries →
    AreKeptFrom names_of kept from written.temporaries × (test ≡ true → kept_as names_of kept written.next (target_type target))
stored_kept_by true names_of kept used target e written from is are =
    (kept_front names_of kept from written.temporaries (target_type target ∷ []) are, λ same. last_kept names_of kept written.temporaries (target_type target) written.next from is are)
stored_kept_by false names_of kept used target e written from is are = (are, λ same. cc (same))

stored_kept : (names_of : Names) (kept : FunctionNames) (used : Bool) (target : Target) (e : Expr) (written : Written) (from : ℕ) → IsNumbered written from → AreKeptFrom names_of kept from (stored names_of used target e written).temporaries →
    AreKeptFrom names_of kept from written.temporaries × ((used || is_field target) ≡ true → kept_as names_of kept written.next (target_type target))
stored_kept names_of kept used target e written from is are = stored_kept_by (used || is_field target) names_of kept used target e written from is are

step_kept : (names_of : Names) (kept : FunctionNames) (used post : Bool) (target : Target) (change : Change) (written : Written) (from : ℕ) → IsNumbered written from →
    AreKeptFrom names_of kept from (stepped names_of used post target change written).temporaries →
    AreKeptFrom names_of kept from written.temporaries × ((used || is_field target) ≡ true → kept_as names_of kept written.next (target_type target))
step_kept names_of kept true true target change written from is are =
    (kept_front names_of kept from written.temporaries (target_type target ∷ []) are, λ same. last_kept names_of kept written.temporaries (target_type target) written.next from is are)
step_kept names_of kept true false target change written from is are = stored_kept names_of kept true target (changed change (target_type target) (old_value target)) written from is are
step_kept names_of kept false post target change written from is are = stored_kept names_of kept false target (changed change (target_type target) (old_value target)) written from is are

kept_used : (used : Bool) (M : Type 0) → ((used || false) ≡ true → M) → used ≡ true → M
kept_used used M all is = all (rw is refl)

kept_field : (used : Bool) (M : Type 0) → ((used || true) ≡ true → M) → M
kept_field true M all = all refl
kept_field false M all = all refl

second_kept : (names_of : Names) (kept : FunctionNames) (two : Both) (given : Given) (from : ℕ) → IsNumbered two.first from → AreKeptFrom names_of kept from (in_turn two given).temporaries → AreKeptFrom names_of kept two.first.next two.second.temporaries
second_kept names_of kept two given from is are = subst (λ (n : ℕ). AreKeptFrom names_of kept n two.second.temporaries) (sym is) (kept_back names_of kept from two.first.temporaries two.second.temporaries are)

decided_kept : (names_of : Names) (kept : FunctionNames) (used acting : Bool) (type : CTy) (which : Deciding) (test other : Operand) (two : Both) (from : ℕ) → IsNumbered two.first from → IsNumbered two.second two.first.next →
    AreKeptFrom names_of kept from (decided_written names_of used acting type which test other two).temporaries →
    AreKeptFrom names_of kept from (in_turn two given_form.nothing).temporaries × (used ≡ true → acting ≡ true → kept_as names_of kept two.second.next (type_in names_of type))
decided_kept names_of kept true true type which test other two from one more are =
    let list = two.first.temporaries ++ two.second.temporaries in
    (kept_front names_of kept from list (type_in names_of type ∷ []) are, λ used acting. last_kept names_of kept list (type_in names_of type) two.second.next from (turn_numbered two given_form.nothing from one more) are)
decided_kept names_of kept false true type which test other two from one more are = (are, λ used acting. cc (used))
decided_kept names_of kept used false type which test other two from one more are = (are, λ _ acting. cc (acting))

three_kept : (names_of : Names) (kept : FunctionNames) (three : Choice) (from : ℕ) → IsNumbered three.test from → IsNumbered three.first three.test.next →
    AreKeptFrom names_of kept from (three.test.temporaries ++ (three.first.temporaries ++ three.second.temporaries)) →
    AreKeptFrom names_of kept from three.test.temporaries × AreKeptFrom names_of kept three.test.next three.first.temporaries × AreKeptFrom names_of kept three.first.next three.second.temporaries
three_kept names_of kept three from one two are =
    let behind = subst (λ (n : ℕ). AreKeptFrom names_of kept n (three.first.temporaries ++ three.second.temporaries)) (sym one) (kept_back names_of kept from three.test.temporaries (three.first.temporaries ++ three.second.temporaries) are) in (
      kept_front names_of kept from three.test.temporaries (three.first.temporaries ++ three.second.temporaries) are,
      kept_front names_of kept three.test.next three.first.temporaries three.second.temporaries behind,
      subst (λ (n : ℕ). AreKeptFrom names_of kept n three.second.temporaries) (sym two) (kept_back names_of kept three.test.next three.first.temporaries three.second.temporaries behind),
    )

chosen_kept : (names_of : Names) (kept : FunctionNames) (used acting : Bool) (type : CTy) (test first second : Operand) (three : Choice) (from : ℕ) → IsNumbered three.test from → IsNumbered three.first three.test.next →
    IsNumbered three.second three.first.next → AreKeptFrom names_of kept from (chosen_written names_of used acting type test first second three).temporaries →
    AreKeptFrom names_of kept from three.test.temporaries × AreKeptFrom names_of kept three.test.next three.first.temporaries × AreKeptFrom names_of kept three.first.next three.second.temporaries
    × (used ≡ true → acting ≡ true → kept_as names_of kept three.second.next (type_in names_of type))
chosen_kept names_of kept true true type test first second three from one two more are =
    let list = three.test.temporaries ++ (three.first.temporaries ++ three.second.temporaries) in
    let all = three_kept names_of kept three from one two (kept_front names_of kept from list (type_in names_of type ∷ []) are) in
    (all.0, all.1, all.2, λ used acting. last_kept names_of kept list (type_in names_of type) three.second.next from (three_numbered three from one two more) are)
chosen_kept names_of kept false true type test first second three from one two more are = let all = three_kept names_of kept three from one two are in (all.0, all.1, all.2, λ used acting. cc (used))
chosen_kept names_of kept true false type test first second three from one two more are = let all = three_kept names_of kept three from one two are in (all.0, all.1, all.2, λ used acting. cc (acting))
chosen_kept names_of kept false false type test first second three from one two more are = let all = three_kept names_of kept three from one two are in (all.0, all.1, all.2, λ used acting. cc (used))

-- of a call, whose value may be held
calls_kept : (names_of : Names) (kept : FunctionNames) (asked : Asked) (type : CTy) (called : Called) (args : Arguments) (from : ℕ) → IsNumbered args.written from →
    AreKeptFrom names_of kept from (held_call names_of asked type (called_with names_of asked.used type called args)).temporaries →
    AreKeptFrom names_of kept from args.written.temporaries × ((is_record type || asked.used) ≡ true → is_void type ≡ false → kept_as names_of kept args.written.next (type_in names_of type))
calls_kept names_of kept asked type called args from count are = by (is_record type) asked.used (is_void type) asked.is_base are
  where
    list : List Ty
    list = args.written.temporaries

    one : Ty
    one = type_in names_of type

    by : (of_it used nothing base : Bool) →
        AreKeptFrom names_of kept from
        (held_where ((of_it || ((used && true) || (base && false))) && not of_it) names_of (if of_it then a_record one (names_of.size_of type) else a_value one)
        (if of_it then called_for_record names_of type called args else (if used && not nothing then called_for_value names_of type called args else called_alone called args))).temporaries →
        AreKeptFrom names_of kept from args.written.temporaries × ((of_it || used) ≡ true → nothing ≡ false → kept_as names_of kept args.written.next (type_in names_of type))
    by true used nothing base held =
        (kept_front names_of kept from args.written.temporaries (type_in names_of type ∷ []) held, λ e some. last_kept names_of kept args.written.temporaries (type_in names_of type) args.written.next from count held)
    by false true nothing base held = both nothing held
      where
        both : (none : Bool) → AreKeptFrom names_of kept from (then_held names_of (a_value (type_in names_of type)) (if not none then called_for_value names_of type called args else called_alone called args)).temporaries →
            AreKeptFrom names_of kept from args.written.temporaries × ((false || true) ≡ true → none ≡ false → kept_as names_of kept args.written.next (type_in names_of type))
        both false them = (kept_front names_of kept from args.written.temporaries (type_in names_of type ∷ []) them, λ e some. last_kept names_of kept args.written.temporaries (type_in names_of type) args.written.next from count them)
        both true them = (kept_front names_of kept from args.written.temporaries (type_in names_of type ∷ []) them, λ e some. cc (some))
    by false false nothing true held = (held, λ e some. cc (e))
    by false false nothing false held = (held, λ e some. cc (e))

-- ---- values and lvalues

typed_no_lvalue : (home : CHome) (e : CExpr) → IsTyped home e → is_lvalue e ≡ false
typed_no_lvalue home (expr type place (object own)) is = absurd is.1
typed_no_lvalue home (expr type place (literal own puts)) is = absurd is.1
typed_no_lvalue home (expr type place (deref from)) is = absurd is.1
typed_no_lvalue home (expr type place (member of spot)) is = typed_no_lvalue home of is.1.0
typed_no_lvalue home (expr type place (whole value)) is = refl
typed_no_lvalue home (expr type place null) is = refl
typed_no_lvalue home (expr type place (code own)) is = refl
typed_no_lvalue home (expr type place (load from)) is = refl
typed_no_lvalue home (expr type place (address of)) is = refl
typed_no_lvalue home (expr type place (convert value)) is = refl
typed_no_lvalue home (expr type place (unary op value)) is = refl
typed_no_lvalue home (expr type place (binary op left right)) is = refl
typed_no_lvalue home (expr type place (and left right)) is = refl
typed_no_lvalue home (expr type place (or left right)) is = refl
typed_no_lvalue home (expr type place (cond test first second)) is = refl
typed_no_lvalue home (expr type place (assign target value)) is = refl
typed_no_lvalue home (expr type place (assign_by op computes target value)) is = refl
typed_no_lvalue home (expr type place (step up post on)) is = refl
typed_no_lvalue home (expr type place (call callee args)) is = refl
typed_no_lvalue home (expr type place (call_by callee args)) is = refl
typed_no_lvalue home (expr type place (comma first second)) is = refl

used_part : (asked : Asked) (e : CExpr) → asked.is_base ≡ false → is_void (type_of e) ≡ false → IsAsked asked e
used_part asked e plainly has = record { used = λ _. has; base = λ same. let clash : true ≡ false = sym same ∙ plainly in cc (clash) }

used_base : (asked : Asked) (e : CExpr) → asked.used ≡ true → is_void (type_of e) ≡ false → IsAsked asked e
used_base asked e used has = record { used = λ _. has; base = λ _. used }

-- what has a member has a value
holder_has : (types : CTypes) (holder : CTy) (index : ℕ) (one : CMember) → member_of types (form_of_type holder) index ≡ Some one → is_void holder ≡ false
holder_has types (ty void is_const) index one e = cc (e)
holder_has types (ty (basic which) is_const) index one e = refl
holder_has types (ty (enum_type number) is_const) index one e = refl
holder_has types (ty (pointer to) is_const) index one e = refl
holder_has types (ty (array element length) is_const) index one e = refl
holder_has types (ty (record_type number) is_const) index one e = refl
holder_has types (ty (function result params variadic) is_const) index one e = refl

no_truth : false ≡ true → ⊥
no_truth e = cc (e)

-- what a bit-field stands in is held, or is a named object
base_held : (others base : Bool) → base ≡ true → ((others || base) && true) ≡ false → ⊥
base_held true true is e = cc (e)
base_held false true is e = cc (e)
base_held others false is e = cc (is)

base_lasts : (asked : Asked) (home : CHome) (type : CTy) (at : Place) (form : CForm) → asked.is_base ≡ true → IsLvalue home (expr type at form) → held_test asked type form ≡ false → form_fixed type form ≡ true
base_lasts asked home type at (object number) base is e = refl
base_lasts asked home type at (deref from) base is e = absurd (base_held (asked.used && (asked.pinned && not (is_steady from))) (asked.is_base && true) (rw (base) refl) e)
base_lasts asked home type at (member of spot) base is e =
    absurd (base_held (asked.used && (asked.pinned && not (is_steady of))) (asked.is_base && (is_lvalue of && true)) (rw (base, lvalue_is home (expr type at (member of spot)) is) refl) e)
base_lasts asked home type at (literal number puts) base is e = absurd (base_held (asked.used && (asked.pinned && true)) (asked.is_base && true) (rw (base) refl) e)
base_lasts asked home type at (whole value) base is e = absurd is.2
base_lasts asked home type at null base is e = absurd is.2
base_lasts asked home type at (code number) base is e = absurd is.2
base_lasts asked home type at (load from) base is e = absurd is.2
base_lasts asked home type at (address of) base is e = absurd is.2
base_lasts asked home type at (convert value) base is e = absurd is.2
base_lasts asked home type at (unary op value) base is e = absurd is.2
base_lasts asked home type at (binary op left right) base is e = absurd is.2
base_lasts asked home type at (and left right) base is e = absurd is.2
base_lasts asked home type at (or left right) base is e = absurd is.2
base_lasts asked home type at (cond test first second) base is e = absurd is.2
base_lasts asked home type at (assign target value) base is e = absurd is.2
base_lasts asked home type at (assign_by op computes target value) base is e = absurd is.2
base_lasts asked home type at (step up post on) base is e = absurd is.2
base_lasts asked home type at (call callee args) base is e = absurd is.2
base_lasts asked home type at (call_by callee args) base is e = absurd is.2
base_lasts asked home type at (comma first second) base is e = absurd is.2

-- a pointer to a function has a value
pointer_has : (types : CTypes) (type : CTy) (args : CExprs) (own : CTy) → IsCallBy types type args own → is_void own ≡ false
pointer_has types type args (ty (pointer to) is_const) is = refl
pointer_has types type args (ty void is_const) is = absurd is
pointer_has types type args (ty (basic which) is_const) is = refl
pointer_has types type args (ty (enum_type number) is_const) is = refl
pointer_has types type args (ty (array element count) is_const) is = refl
pointer_has types type args (ty (record_type number) is_const) is = refl
pointer_has types type args (ty (function back params variadic) is_const) is = refl

-- what a call gives that is held is no `void`
call_has : (asked : Asked) (type : CTy) (at : Place) (form : CForm) → IsAsked asked (expr type at form) → (is_record type || asked.used) ≡ true → is_void type ≡ false
call_has asked type at form asked_is = by (is_record type) refl
  where
    by : (of_it : Bool) → is_record type ≡ of_it → (of_it || asked.used) ≡ true → is_void type ≡ false
    by true of_it some = void_record type of_it
    by false of_it some = asked_is.used some

found_some : (found : Option CFun) → IsSome found → (one : CFun) × (found ≡ Some one)
found_some None none = cc (none)
found_some (Some one) some = (one, refl)

-- what isn't a call
abbrev IsNoCall : CForm → Type 0
IsNoCall (call callee args) = ⊥
IsNoCall (call_by callee args) = ⊥
IsNoCall form = Unit {0}

lvalue_no_call : (home : CHome) (type : CTy) (at : Place) (form : CForm) → IsLvalue home (expr type at form) → IsNoCall form
lvalue_no_call home type at (call callee args) typed = absurd typed.2
lvalue_no_call home type at (call_by callee args) typed = absurd typed.2
lvalue_no_call home type at _ typed = tt

module _ (x : Around) where
  kind_type : (record_type : Bool) (one : Ty) (size : ℕ) → held_type (if record_type then a_record one size else a_value one) ≡ one
  kind_type true one size = refl
  kind_type false one size = refl

  value_type_is : (type : CTy) (form : CForm) → is_lvalue_form form ≡ false → held_type (kind_in x.names type form) ≡ type_in x.names type
  value_type_is type form no_lvalue = ap (λ (lvalue : Bool). held_type (if lvalue then lvalue_kind x.names type form else value_kind x.names type)) no_lvalue ∙ kind_type (is_record type) (type_in x.names type) (x.names.size_of type)

  abbrev OwesAnywhere : (asked : Asked) (e : CExpr) (from : ℕ) → Type 0
  OwesAnywhere asked e from = (images : Images) (c_world world : World) → At x images c_world world → ExprOwes x asked e from images c_world world

  abbrev FormAnywhere : (asked : Asked) (type : CTy) (at : Place) (form : CForm) (from : ℕ) → Type 0
  FormAnywhere asked type at form from = (images : Images) (c_world world : World) → At x images c_world world → FormOwes x asked type at form from images c_world world

  value_owes : (asked : Asked) (type : CTy) (at : Place) (form : CForm) (from : ℕ) → IsAsked asked (expr type at form) → AreKeptFrom x.names x.kept from (lifted x.names asked (expr type at form) from).temporaries →
      IsTyped x.home (expr type at form) → (AreKeptFrom x.names x.kept from (lifted_form x.names asked type form from).temporaries → FormAnywhere asked type at form from) → OwesAnywhere asked (expr type at form) from
  value_owes asked type at form from asked_is are typed all =
      let one = lifted_form x.names asked type form from in
      let count = form_numbered x.names asked type form from in
      let own = where_kept (held_test asked type form) x.names x.kept (kind_in x.names type form) one from count are in
      let no_lvalue = typed_no_lvalue x.home (expr type at form) typed in
      λ images c_world world here.
      value_node x asked type at form from images c_world world here typed no_lvalue asked_is (rises one from count)
      (λ e. subst (kept_as x.names x.kept one.next) (value_type_is type form no_lvalue) (own.1 e)) (all own.0 images c_world world here)

  place_owes : (asked : Asked) (type : CTy) (at : Place) (form : CForm) (from : ℕ) → IsAsked asked (expr type at form) → AreKeptFrom x.names x.kept from (lifted x.names asked (expr type at form) from).temporaries →
      IsLvalue x.home (expr type at form) → is_bit_field (expr type at form) ≡ false → (AreKeptFrom x.names x.kept from (lifted_form x.names asked type form from).temporaries → FormAnywhere asked type at form from) → OwesAnywhere asked (expr type at form) from
  place_owes asked type at form from asked_is are typed plainly all =
      let one = lifted_form x.names asked type form from in
      let count = form_numbered x.names asked type form from in
      let own = where_kept (held_test asked type form) x.names x.kept (kind_in x.names type form) one from count are in
      let p = form_place x asked type at form from typed plainly in
      λ images c_world world here.
      place_node x asked type at form p.0 from images c_world world here typed plainly p.1 asked_is (rises one from count)
      (λ e. subst (λ (kind : NodeKind). kept_as x.names x.kept one.next (held_type kind)) (lvalue_kind_is x type at form (lvalue_is x.home (expr type at form) typed) plainly) (own.1 e)) (all own.0 images c_world world here)

  bits_owes : (asked : Asked) (type : CTy) (at : Place) (of : CExpr) (spot : Spot) (from : ℕ) → IsAsked asked (expr type at (member of spot)) → AreKeptFrom x.names x.kept from (lifted x.names asked (expr type at (member of spot)) from).temporaries →
      IsLvalue x.home (expr type at (member of spot)) → not (spot.width == 0) ≡ true → (AreKeptFrom x.names x.kept from (lifted_form x.names asked type (member of spot) from).temporaries → FormAnywhere asked type at (member of spot) from) →
      OwesAnywhere asked (expr type at (member of spot)) from
  bits_owes asked type at of spot from asked_is are typed bits all =
      let form = member of spot in
      let one = lifted_form x.names asked type form from in
      let count = form_numbered x.names asked type form from in
      let own = where_kept (held_test asked type form) x.names x.kept (kind_in x.names type form) one from count are in
      λ images c_world world here.
      bits_node x asked type at of spot from images c_world world here typed bits asked_is (rises one from count)
      (λ e. subst (λ (kind : NodeKind). kept_as x.names x.kept one.next (held_type kind)) (bits_kind_is x.names type at of spot (lvalue_is x.home (expr type at form) typed) bits) (own.1 e)) (all own.0 images c_world world here)

  lvalue_owes : (asked : Asked) (type : CTy) (at : Place) (form : CForm) (from : ℕ) → IsAsked asked (expr type at form) → AreKeptFrom x.names x.kept from (lifted x.names asked (expr type at form) from).temporaries →
      IsLvalue x.home (expr type at form) → (AreKeptFrom x.names x.kept from (lifted_form x.names asked type form from).temporaries → FormAnywhere asked type at form from) → OwesAnywhere asked (expr type at form) from
  lvalue_owes asked type at (member of spot) from asked_is are typed all = by (not (spot.width == 0)) refl
    where
      by : (bits : Bool) → not (spot.width == 0) ≡ bits → OwesAnywhere asked (expr type at (member of spot)) from
      by false plainly images c w here = place_owes asked type at (member of spot) from asked_is are typed plainly all images c w here
      by true bits images c w here = bits_owes asked type at of spot from asked_is are typed bits all images c w here
  lvalue_owes asked type at form from asked_is are typed all = place_owes asked type at form from asked_is are typed refl all

  node_owes : (asked : Asked) (type : CTy) (at : Place) (form : CForm) (from : ℕ) → IsAsked asked (expr type at form) → AreKeptFrom x.names x.kept from (lifted x.names asked (expr type at form) from).temporaries →
      IsTyped x.home (expr type at form) ⊎ IsLvalue x.home (expr type at form) → (AreKeptFrom x.names x.kept from (lifted_form x.names asked type form from).temporaries → FormAnywhere asked type at form from) → OwesAnywhere asked (expr type at form) from
  node_owes asked type at form from asked_is are (inl typed) all = value_owes asked type at form from asked_is are typed all
  node_owes asked type at form from asked_is are (inr typed) all = lvalue_owes asked type at form from asked_is are typed all

  -- given whatever is stored
  abbrev FixedAnywhere : (asked : Asked) (e : CExpr) (from : ℕ) → Type 0
  FixedAnywhere asked e from = (images : Images) (c_world world : World) → At x images c_world world → PartOwes x asked.used true e (lifted x.names asked e from) from images c_world world

  base_owes : (asked : Asked) (type : CTy) (at : Place) (form : CForm) (from : ℕ) → IsAsked asked (expr type at form) → AreKeptFrom x.names x.kept from (lifted x.names asked (expr type at form) from).temporaries →
      IsLvalue x.home (expr type at form) → asked.is_base ≡ true → (images : Images) (c w : World) → At x images c w → is_bit_field (expr type at form) ≡ false →
      (AreKeptFrom x.names x.kept from (lifted_form x.names asked type form from).temporaries → FormAnywhere asked type at form from) → PartOwes x asked.used true (expr type at form) (lifted x.names asked (expr type at form) from) from images c w
  base_owes asked type at form from asked_is are typed base images c w here plainly all =
      let one = lifted_form x.names asked type form from in
      let count = form_numbered x.names asked type form from in
      let own = where_kept (held_test asked type form) x.names x.kept (kind_in x.names type form) one from count are in
      let p = form_place x asked type at form from typed plainly in
      place_node_as x asked (form_fixed type form) true type at form p.0 from images c w here typed plainly p.1 asked_is (λ _ _ not_it. base_lasts asked x.home type at form base typed not_it) (rises one from count)
      (λ e. subst (λ (kind : NodeKind). kept_as x.names x.kept one.next (held_type kind)) (lvalue_kind_is x type at form (lvalue_is x.home (expr type at form) typed) plainly) (own.1 e)) (all own.0 images c w here)

  target_owes : (asked : Asked) (type : CTy) (at : Place) (of : CExpr) (spot : Spot) (from : ℕ) → IsAsked asked (expr type at (member of spot)) → AreKeptFrom x.names x.kept from (lifted x.names asked (expr type at (member of spot)) from).temporaries →
      IsLvalue x.home (expr type at (member of spot)) → not (spot.width == 0) ≡ true → (images : Images) (c w : World) → At x images c w →
      (AreKeptFrom x.names x.kept from (lifted_form x.names asked type (member of spot) from).temporaries → PartOwes x true true of (lifted x.names (whole_of spot) of from) from images c w) →
      PartOwes x asked.used true (expr type at (member of spot)) (lifted x.names asked (expr type at (member of spot)) from) from images c w
  target_owes asked type at of spot from asked_is are typed bits images c w here all =
      let form = member of spot in
      let one = lifted_form x.names asked type form from in
      let count = form_numbered x.names asked type form from in
      let own = where_kept (held_test asked type form) x.names x.kept (kind_in x.names type form) one from count are in
      bits_node_as x asked true true type at of spot from images c w here typed bits asked_is (λ _ _ _. refl) (rises one from count)
      (λ e. subst (λ (kind : NodeKind). kept_as x.names x.kept one.next (held_type kind)) (bits_kind_is x.names type at of spot (lvalue_is x.home (expr type at form) typed) bits) (own.1 e))
      (member_bits_owes x asked true true type at of spot from images c w here typed bits (λ _. refl) (rises (lifted x.names (whole_of spot) of from) from (numbered x.names (whole_of spot) of from)) (all own.0))

  -- ---- bit-fields, and other lvalues

  member_any : (asked : Asked) (type : CTy) (at : Place) (of : CExpr) (spot : Spot) (from : ℕ) (images : Images) (c w : World) → At x images c w → IsLvalue x.home (expr type at (member of spot)) → from ≤ (lifted x.names (whole_of spot) of from).next →
      ExprOwes x (whole_of spot) of from images c w → FormOwes x asked type at (member of spot) from images c w
  member_any asked type at of spot from images c w here typed up owes = by (not (spot.width == 0)) refl
    where
      by : (bits : Bool) → not (spot.width == 0) ≡ bits → FormOwes x asked type at (member of spot) from images c w
      by false plainly = member_owes x asked type at of spot from images c w here typed (no_width spot.width plainly) up owes
      by true bits = member_bits_owes x asked (form_fixed type (member of spot)) (is_fixed (whole_of spot) of) type at of spot from images c w here typed bits (or_false (is_steady of)) up owes

  load_any : (asked : Asked) (form : CTyForm) (is_const : Bool) (at : Place) (of : CExpr) (from : ℕ) (images : Images) (c w : World) → At x images c w → IsTyped x.home (expr (ty form is_const) at (load of)) → from ≤ (lifted x.names operand of from).next →
      ExprOwes x operand of from images c w → FormOwes x asked (ty form is_const) at (load of) from images c w
  load_any asked form is_const at (expr own here_at (member of spot)) from images c w here typed up owes = by (not (spot.width == 0)) refl
    where
      by : (bits : Bool) → not (spot.width == 0) ≡ bits → FormOwes x asked (ty form is_const) at (load (expr own here_at (member of spot))) from images c w
      by false plainly = load_owes x asked form is_const at (expr own here_at (member of spot)) from images c w here typed plainly up owes
      by true bits = load_bits_owes x asked form is_const at own here_at of spot from images c w here typed bits up owes
  load_any asked form is_const at (expr own here_at other) from images c w here typed up owes = load_owes x asked form is_const at (expr own here_at other) from images c w here typed refl up owes

  -- an assignment, by what its type is
  assign_plainly : (asked : Asked) (form : CTyForm) (is_const : Bool) (at : Place) (target value : CExpr) (from : ℕ) (images : Images) (c w : World) → At x images c w → IsTyped x.home (expr (ty form is_const) at (assign target value)) → is_bit_field target ≡ false →
      AreKeptFrom x.names x.kept from (lifted_form x.names asked (ty form is_const) (assign target value) from).temporaries →
      (AreKeptFrom x.names x.kept from (pair_for x.names target value from).first.temporaries → ExprOwes x (operand_before (holds_call value)) target from images c w) →
      (AreKeptFrom x.names x.kept (pair_for x.names target value from).first.next (pair_for x.names target value from).second.temporaries →
      (later : Images) (c1 w1 : World) → At x later c1 w1 → ExprOwes x operand value (pair_for x.names target value from).first.next later c1 w1) → FormOwes x asked (ty form is_const) at (assign target value) from images c w
  assign_plainly asked form is_const at target value from images c w here typed plainly are targets values = by (is_record (ty form is_const)) refl
    where
      first_count : IsNumbered (pair_for x.names target value from).first from
      first_count = numbered x.names (operand_before (holds_call value)) target from

      second_count : IsNumbered (pair_for x.names target value from).second (pair_for x.names target value from).first.next
      second_count = numbered x.names operand value (pair_for x.names target value from).first.next

      kept_two : (to : Target) → target_of x.names (ty form is_const) target (pair_for x.names target value from).first.given ≡ to →
          AreKeptFrom x.names x.kept from (in_turn (pair_for x.names target value from) given_form.nothing).temporaries
          × ((asked.used || is_field to) ≡ true → kept_as x.names x.kept (pair_for x.names target value from).second.next (target_type to))
      kept_two to same =
          let two = pair_for x.names target value from in
          stored_kept x.names x.kept asked.used to (stored_value to two.second.given) (in_turn two given_form.nothing) from (turn_numbered two given_form.nothing from first_count second_count)
          (subst (λ (target_is : Target). AreKeptFrom x.names x.kept from (stored x.names asked.used target_is (stored_value target_is two.second.given) (in_turn two given_form.nothing)).temporaries) same are)

      by : (record_type : Bool) → is_record (ty form is_const) ≡ record_type → FormOwes x asked (ty form is_const) at (assign target value) from images c w
      by false no_record =
          let two = pair_for x.names target value from in
          let kept_it = kept_two (a_scalar (place_of_given two.first.given) (type_in x.names (ty form is_const))) (target_plain x.names (ty form is_const) target two.first.given plainly no_record) in
          assign_owes x asked form is_const at target value from images c w here typed plainly no_record (rises two.first from first_count) (rises two.second two.first.next second_count)
          (kept_used asked.used (kept_as x.names x.kept two.second.next (type_in x.names (ty form is_const))) kept_it.1)
          (targets (kept_front x.names x.kept from two.first.temporaries two.second.temporaries kept_it.0)) (values (second_kept x.names x.kept two given_form.nothing from first_count kept_it.0))
      by true of_record =
          let two = pair_for x.names target value from in
          let kept_it = kept_two (a_structure (place_of_given two.first.given) (type_in x.names (ty form is_const)) (x.names.size_of (ty form is_const))) (target_record x.names (ty form is_const) target two.first.given plainly of_record) in
          assign_record_owes x asked form is_const at target value from images c w here typed plainly of_record (rises two.first from first_count) (rises two.second two.first.next second_count)
          (kept_used asked.used (kept_as x.names x.kept two.second.next (type_in x.names (ty form is_const))) kept_it.1)
          (targets (kept_front x.names x.kept from two.first.temporaries two.second.temporaries kept_it.0)) (values (second_kept x.names x.kept two given_form.nothing from first_count kept_it.0))

  -- in a bit-field, and elsewhere
  assign_any : (asked : Asked) (form : CTyForm) (is_const : Bool) (at : Place) (target value : CExpr) (from : ℕ) (images : Images) (c w : World) → At x images c w → IsTyped x.home (expr (ty form is_const) at (assign target value)) →
      AreKeptFrom x.names x.kept from (lifted_form x.names asked (ty form is_const) (assign target value) from).temporaries →
      (AreKeptFrom x.names x.kept from (pair_for x.names target value from).first.temporaries → ExprOwes x (operand_before (holds_call value)) target from images c w) →
      (is_bit_field target ≡ true → AreKeptFrom x.names x.kept from (pair_for x.names target value from).first.temporaries → PartOwes x true true target (pair_for x.names target value from).first from images c w) →
      (AreKeptFrom x.names x.kept (pair_for x.names target value from).first.next (pair_for x.names target value from).second.temporaries →
      (later : Images) (c1 w1 : World) → At x later c1 w1 → ExprOwes x operand value (pair_for x.names target value from).first.next later c1 w1) → FormOwes x asked (ty form is_const) at (assign target value) from images c w
  assign_any asked form is_const at (expr own here_at (member of spot)) value from images c w here typed are targets fixed_targets values = by (not (spot.width == 0)) refl
    where
      by : (bits : Bool) → not (spot.width == 0) ≡ bits → FormOwes x asked (ty form is_const) at (assign (expr own here_at (member of spot)) value) from images c w
      by false plainly = assign_plainly asked form is_const at (expr own here_at (member of spot)) value from images c w here typed plainly are targets values
      by true bits =
          let target = expr own here_at (member of spot) in
          let two = pair_for x.names target value from in
          let T = type_in x.names (ty form is_const) in
          let to = a_field (address_of_given two.first.given) spot T in
          let first_count = numbered x.names (operand_before (holds_call value)) target from in
          let second_count = numbered x.names operand value two.first.next in
          let kept_it = stored_kept x.names x.kept asked.used to (stored_value to two.second.given) (in_turn two given_form.nothing) from (turn_numbered two given_form.nothing from first_count second_count)
          (subst (λ (target_is : Target). AreKeptFrom x.names x.kept from (stored x.names asked.used target_is (stored_value target_is two.second.given) (in_turn two given_form.nothing)).temporaries)
          (target_bits x.names (ty form is_const) own here_at of spot two.first.given bits) are) in
          assign_bits_owes x asked form is_const at own here_at of spot value from images c w here typed bits (rises two.first from first_count) (rises two.second two.first.next second_count)
          (kept_field asked.used (kept_as x.names x.kept two.second.next T) kept_it.1)
          (fixed_targets bits (kept_front x.names x.kept from two.first.temporaries two.second.temporaries kept_it.0)) (values (second_kept x.names x.kept two given_form.nothing from first_count kept_it.0))
  assign_any asked form is_const at (expr own here_at other) value from images c w here typed are targets fixed_targets values = assign_plainly asked form is_const at (expr own here_at other) value from images c w here typed refl are targets values

  -- `op=`
  assign_by_plainly : (asked : Asked) (form : CTyForm) (is_const : Bool) (at : Place) (op : Op2) (computes : CTy) (target value : CExpr) (from : ℕ) (images : Images) (c w : World) → At x images c w →
      IsTyped x.home (expr (ty form is_const) at (assign_by op computes target value)) → is_bit_field target ≡ false →
      AreKeptFrom x.names x.kept from (lifted_form x.names asked (ty form is_const) (assign_by op computes target value) from).temporaries →
      (AreKeptFrom x.names x.kept from (pair_for x.names target value from).first.temporaries → ExprOwes x (operand_before (holds_call value)) target from images c w) →
      (AreKeptFrom x.names x.kept (pair_for x.names target value from).first.next (pair_for x.names target value from).second.temporaries →
      (later : Images) (c1 w1 : World) → At x later c1 w1 → ExprOwes x operand value (pair_for x.names target value from).first.next later c1 w1) → FormOwes x asked (ty form is_const) at (assign_by op computes target value) from images c w
  assign_by_plainly asked form is_const at op computes target value from images c w here typed plainly are targets values =
      let two = pair_for x.names target value from in
      let change = change_for x.names op computes value two.second.given in
      let no_record = assign_by_no_record x.home.program.types op (ty form is_const) computes target (type_of value) typed.1.2 in
      let first_count = numbered x.names (operand_before (holds_call value)) target from in
      let second_count = numbered x.names operand value two.first.next in
      let T = type_in x.names (ty form is_const) in
      let p = place_of_given two.first.given in
      let kept_two = stored_kept x.names x.kept asked.used (a_scalar p T) (changed change T (given_form.value (Read p))) (in_turn two given_form.nothing) from (turn_numbered two given_form.nothing from first_count second_count)
      (subst (λ (to : Target). AreKeptFrom x.names x.kept from (changed_first x.names asked.used to change (in_turn two given_form.nothing)).temporaries) (target_plain x.names (ty form is_const) target two.first.given plainly no_record) are) in
      assign_by_owes x asked form is_const at op computes target value from images c w here typed plainly no_record (rises two.first from first_count) (rises two.second two.first.next second_count)
      (kept_used asked.used (kept_as x.names x.kept two.second.next T) kept_two.1)
      (targets (kept_front x.names x.kept from two.first.temporaries two.second.temporaries kept_two.0))
      (values (second_kept x.names x.kept two given_form.nothing from first_count kept_two.0))

  assign_by_any : (asked : Asked) (form : CTyForm) (is_const : Bool) (at : Place) (op : Op2) (computes : CTy) (target value : CExpr) (from : ℕ) (images : Images) (c w : World) → At x images c w →
      IsTyped x.home (expr (ty form is_const) at (assign_by op computes target value)) →
      AreKeptFrom x.names x.kept from (lifted_form x.names asked (ty form is_const) (assign_by op computes target value) from).temporaries →
      (AreKeptFrom x.names x.kept from (pair_for x.names target value from).first.temporaries → ExprOwes x (operand_before (holds_call value)) target from images c w) →
      (is_bit_field target ≡ true → AreKeptFrom x.names x.kept from (pair_for x.names target value from).first.temporaries → PartOwes x true true target (pair_for x.names target value from).first from images c w) →
      (AreKeptFrom x.names x.kept (pair_for x.names target value from).first.next (pair_for x.names target value from).second.temporaries →
      (later : Images) (c1 w1 : World) → At x later c1 w1 → ExprOwes x operand value (pair_for x.names target value from).first.next later c1 w1) → FormOwes x asked (ty form is_const) at (assign_by op computes target value) from images c w
  assign_by_any asked form is_const at op computes (expr own here_at (member of spot)) value from images c w here typed are targets fixed_targets values = by (not (spot.width == 0)) refl
    where
      by : (bits : Bool) → not (spot.width == 0) ≡ bits → FormOwes x asked (ty form is_const) at (assign_by op computes (expr own here_at (member of spot)) value) from images c w
      by false plainly = assign_by_plainly asked form is_const at op computes (expr own here_at (member of spot)) value from images c w here typed plainly are targets values
      by true bits =
          let target = expr own here_at (member of spot) in
          let two = pair_for x.names target value from in
          let change = change_for x.names op computes value two.second.given in
          let T = type_in x.names (ty form is_const) in
          let to = a_field (address_of_given two.first.given) spot T in
          let first_count = numbered x.names (operand_before (holds_call value)) target from in
          let second_count = numbered x.names operand value two.first.next in
          let kept_it = stored_kept x.names x.kept asked.used to (changed change T (old_value to)) (in_turn two given_form.nothing) from (turn_numbered two given_form.nothing from first_count second_count)
          (subst (λ (target_is : Target). AreKeptFrom x.names x.kept from (changed_first x.names asked.used target_is change (in_turn two given_form.nothing)).temporaries)
          (target_bits x.names (ty form is_const) own here_at of spot two.first.given bits) are) in
          assign_by_bits_owes x asked form is_const at op computes own here_at of spot value from images c w here typed bits (rises two.first from first_count) (rises two.second two.first.next second_count)
          (kept_field asked.used (kept_as x.names x.kept two.second.next T) kept_it.1)
          (fixed_targets bits (kept_front x.names x.kept from two.first.temporaries two.second.temporaries kept_it.0)) (values (second_kept x.names x.kept two given_form.nothing from first_count kept_it.0))
  assign_by_any asked form is_const at op computes (expr own here_at other) value from images c w here typed are targets fixed_targets values =
      assign_by_plainly asked form is_const at op computes (expr own here_at other) value from images c w here typed refl are targets values

  -- `++` and `--`
  step_plainly : (asked : Asked) (form : CTyForm) (is_const : Bool) (at : Place) (up post : Bool) (on : CExpr) (from : ℕ) (images : Images) (c w : World) → At x images c w →
      IsTyped x.home (expr (ty form is_const) at (step up post on)) → is_bit_field on ≡ false → AreKeptFrom x.names x.kept from (lifted_form x.names asked (ty form is_const) (step up post on) from).temporaries →
      (AreKeptFrom x.names x.kept from (lifted x.names operand on from).temporaries → ExprOwes x operand on from images c w) → FormOwes x asked (ty form is_const) at (step up post on) from images c w
  step_plainly asked form is_const at up post on from images c w here typed plainly are owes =
      let one = lifted x.names operand on from in
      let count = numbered x.names operand on from in
      let no_record = step_no_record x.home.program.types (ty form is_const) typed.1.1.stepped in
      let T = type_in x.names (ty form is_const) in
      let kept_one = step_kept x.names x.kept asked.used post (a_scalar (place_of_given one.given) T) (step_by_one up (promoted_type T (width_of on))) one from count
      (subst (λ (to : Target). AreKeptFrom x.names x.kept from (stepped x.names asked.used post to (step_by_one up (promoted_type (target_type to) (width_of on))) one).temporaries)
      (target_plain x.names (ty form is_const) on one.given plainly no_record) are) in
      by_one_owes x asked form is_const at up post on from images c w here typed plainly no_record (rises one from count) (kept_used asked.used (kept_as x.names x.kept one.next T) kept_one.1) (owes kept_one.0)

  step_any : (asked : Asked) (form : CTyForm) (is_const : Bool) (at : Place) (up post : Bool) (on : CExpr) (from : ℕ) (images : Images) (c w : World) → At x images c w →
      IsTyped x.home (expr (ty form is_const) at (step up post on)) → AreKeptFrom x.names x.kept from (lifted_form x.names asked (ty form is_const) (step up post on) from).temporaries →
      (AreKeptFrom x.names x.kept from (lifted x.names operand on from).temporaries → ExprOwes x operand on from images c w) →
      (is_bit_field on ≡ true → AreKeptFrom x.names x.kept from (lifted x.names operand on from).temporaries → PartOwes x true true on (lifted x.names operand on from) from images c w) → FormOwes x asked (ty form is_const) at (step up post on) from images c w
  step_any asked form is_const at up post (expr own here_at (member of spot)) from images c w here typed are owes fixed_owes = by (not (spot.width == 0)) refl
    where
      by : (bits : Bool) → not (spot.width == 0) ≡ bits → FormOwes x asked (ty form is_const) at (step up post (expr own here_at (member of spot))) from images c w
      by false plainly = step_plainly asked form is_const at up post (expr own here_at (member of spot)) from images c w here typed plainly are owes
      by true bits =
          let on = expr own here_at (member of spot) in
          let one = lifted x.names operand on from in
          let count = numbered x.names operand on from in
          let T = type_in x.names (ty form is_const) in
          let kept_one = step_kept x.names x.kept asked.used post (a_field (address_of_given one.given) spot T) (step_by_one up (promoted_type T (width_of on))) one from count
          (subst (λ (to : Target). AreKeptFrom x.names x.kept from (stepped x.names asked.used post to (step_by_one up (promoted_type (target_type to) (width_of on))) one).temporaries)
          (target_bits x.names (ty form is_const) own here_at of spot one.given bits) are) in
          by_one_bits_owes x asked form is_const at up post own here_at of spot from images c w here typed bits (rises one from count) (kept_field asked.used (kept_as x.names x.kept one.next T) kept_one.1) (fixed_owes bits kept_one.0)
  step_any asked form is_const at up post (expr own here_at other) from images c w here typed are owes fixed_owes = step_plainly asked form is_const at up post (expr own here_at other) from images c w here typed refl are owes

  -- ---- calls

  -- the temporaries of the arguments, and that of the call, where there is one
  call_kept : (asked : Asked) (type : CTy) (at : Place) (callee : ℕ) (args : CExprs) (from : ℕ) → AreKeptFrom x.names x.kept from (lifted x.names asked (expr type at (call callee args)) from).temporaries →
      AreKeptFrom x.names x.kept from (lifted_args x.names args from).written.temporaries
      × ((is_record type || asked.used) ≡ true → is_void type ≡ false → kept_as x.names x.kept (lifted_args x.names args from).written.next (type_in x.names type))
  call_kept asked type at callee args from are = calls_kept x.names x.kept asked type (called_by_name x.names callee) (lifted_args x.names args from) from (args_numbered x.names args from) are

  named_any : (asked : Asked) (type : CTy) (at : Place) (callee : ℕ) (args : CExprs) (from : ℕ) (images : Images) (c w : World) → At x images c w → IsTyped x.home (expr type at (call callee args)) → IsAsked asked (expr type at (call callee args)) →
      CalleeMeans x.s x.names callee args → EachOwes x args from → ((is_record type || asked.used) ≡ true → is_void type ≡ false → kept_as x.names x.kept (lifted_args x.names args from).written.next (type_in x.names type)) →
      ExprOwes x asked (expr type at (call callee args)) from images c w
  named_any asked type at callee args from images c w here typed asked_is is owes kept_it =
      named_owes x asked type at callee args from images c w here typed owes
      (⊎_elim
      (λ (some : IsSome (function_with callee x.s.program.functions)).
      let found = found_some (function_with callee x.s.program.functions) some in
      defined_serves x asked type at callee args from images c w here typed owes found.0 found.1)
      (λ (outside : OuterItem x.s x.names callee args ⊎ ZeroedItem x.s x.names callee args).
      ⊎_elim (λ (item : OuterItem x.s x.names callee args). outer_is_served x asked type at callee args from images c w here typed owes item)
      (λ (item : ZeroedItem x.s x.names callee args). zeroed_is_served x asked type at callee args from images c w here typed owes item) outside) is) asked_is (rises (lifted_args x.names args from).written from (args_numbered x.names args from))
      (λ held. kept_it held (call_has asked type at (call callee args) asked_is held))

  mutual
    base_does : (asked : Asked) (e : CExpr) (from : ℕ) → IsAsked asked e → AreKeptFrom x.names x.kept from (lifted x.names asked e from).temporaries → IsLvalue x.home e → CallsMean x.s x.names e → asked.is_base ≡ true → (images : Images) (c w : World) → At x images c w →
        is_bit_field e ≡ false → PartOwes x asked.used true e (lifted x.names asked e from) from images c w
    base_does asked (expr type at form) from asked_is are typed is base images c w here plainly =
        base_owes asked type at form from asked_is are typed base images c w here plainly (λ own. form_does asked type at form from asked_is own (inr typed) is (lvalue_no_call x.home type at form typed))

    target_does : (asked : Asked) (e : CExpr) (from : ℕ) → IsAsked asked e → AreKeptFrom x.names x.kept from (lifted x.names asked e from).temporaries → IsLvalue x.home e → CallsMean x.s x.names e → is_bit_field e ≡ true → FixedAnywhere asked e from
    target_does asked (expr type at (member of spot)) from asked_is are typed is bits = λ images c w here.
        target_owes asked type at of spot from asked_is are typed bits images c w here (λ own.
        base_does (whole_of spot) of from (used_base (whole_of spot) of refl (lvalue_has x of typed.2.0)) own typed.2.0 is bits images c w here (holder_plain x.home type of spot here.typed.scene.linked.types typed.2.0 typed.2.1))
    target_does asked (expr type at other) from asked_is are typed is bits = absurd (no_truth bits)

    expr_does : (asked : Asked) (e : CExpr) (from : ℕ) → IsAsked asked e → AreKeptFrom x.names x.kept from (lifted x.names asked e from).temporaries → IsTyped x.home e ⊎ IsLvalue x.home e → CallsMean x.s x.names e → OwesAnywhere asked e from
    expr_does asked (expr type at (whole value)) from asked_is are typed is = node_owes asked type at (whole value) from asked_is are typed (λ own. form_does asked type at (whole value) from asked_is own typed is tt)
    expr_does asked (expr type at null) from asked_is are typed is = node_owes asked type at null from asked_is are typed (λ own. form_does asked type at null from asked_is own typed is tt)
    expr_does asked (expr type at (object number)) from asked_is are typed is = node_owes asked type at (object number) from asked_is are typed (λ own. form_does asked type at (object number) from asked_is own typed is tt)
    expr_does asked (expr type at (code number)) from asked_is are typed is = node_owes asked type at (code number) from asked_is are typed (λ own. form_does asked type at (code number) from asked_is own typed is tt)
    expr_does asked (expr type at (load of)) from asked_is are typed is = node_owes asked type at (load of) from asked_is are typed (λ own. form_does asked type at (load of) from asked_is own typed is tt)
    expr_does asked (expr type at (deref of)) from asked_is are typed is = node_owes asked type at (deref of) from asked_is are typed (λ own. form_does asked type at (deref of) from asked_is own typed is tt)
    expr_does asked (expr type at (member of spot)) from asked_is are typed is = node_owes asked type at (member of spot) from asked_is are typed (λ own. form_does asked type at (member of spot) from asked_is own typed is tt)
    expr_does asked (expr type at (address of)) from asked_is are typed is = node_owes asked type at (address of) from asked_is are typed (λ own. form_does asked type at (address of) from asked_is own typed is tt)
    expr_does asked (expr type at (convert of)) from asked_is are typed is = node_owes asked type at (convert of) from asked_is are typed (λ own. form_does asked type at (convert of) from asked_is own typed is tt)
    expr_does asked (expr type at (unary op of)) from asked_is are typed is = node_owes asked type at (unary op of) from asked_is are typed (λ own. form_does asked type at (unary op of) from asked_is own typed is tt)
    expr_does asked (expr type at (binary op left right)) from asked_is are typed is = node_owes asked type at (binary op left right) from asked_is are typed (λ own. form_does asked type at (binary op left right) from asked_is own typed is tt)
    expr_does asked (expr type at (and left right)) from asked_is are typed is = node_owes asked type at (and left right) from asked_is are typed (λ own. form_does asked type at (and left right) from asked_is own typed is tt)
    expr_does asked (expr type at (or left right)) from asked_is are typed is = node_owes asked type at (or left right) from asked_is are typed (λ own. form_does asked type at (or left right) from asked_is own typed is tt)
    expr_does asked (expr type at (cond test first second)) from asked_is are typed is = node_owes asked type at (cond test first second) from asked_is are typed (λ own. form_does asked type at (cond test first second) from asked_is own typed is tt)
    expr_does asked (expr type at (assign target value)) from asked_is are typed is = node_owes asked type at (assign target value) from asked_is are typed (λ own. form_does asked type at (assign target value) from asked_is own typed is tt)
    expr_does asked (expr type at (assign_by op computes target value)) from asked_is are typed is = node_owes asked type at (assign_by op computes target value) from asked_is are typed (λ own. form_does asked type at (assign_by op computes target value) from asked_is own typed is tt)
    expr_does asked (expr type at (step up post on)) from asked_is are typed is = node_owes asked type at (step up post on) from asked_is are typed (λ own. form_does asked type at (step up post on) from asked_is own typed is tt)
    expr_does asked (expr type at (comma first second)) from asked_is are typed is = node_owes asked type at (comma first second) from asked_is are typed (λ own. form_does asked type at (comma first second) from asked_is own typed is tt)
    expr_does asked (expr type at (call callee args)) from asked_is are (inl typed) is = λ images c w here.
        let kept_all = call_kept asked type at callee args from are in
        named_any asked type at callee args from images c w here typed asked_is is.0 (args_do args from kept_all.0 typed.1.0 is.1) kept_all.1
    expr_does asked (expr type at (call callee args)) from asked_is are (inr typed) is = absurd typed.2
    expr_does asked (expr type at (call_by callee args)) from asked_is are (inl typed) is = λ images c w here.
        let before = operand_before (some_holds_call args) in
        let pointer = lifted x.names before callee from in
        let others = lifted_args x.names args pointer.next in
        let two : Both = record { first = pointer; second = others.written } in
        let first_count = numbered x.names before callee from in
        let second_count = args_numbered x.names args pointer.next in
        let kept_all =
        calls_kept x.names x.kept asked type (called_by_pointer (operand_of x.names callee pointer.given)) (joined_to pointer others) from (turn_numbered two given_form.nothing from first_count second_count) are in
        pointed_owes x asked type at callee args from images c w here typed (rises pointer from first_count) (rises others.written pointer.next second_count)
        (expr_does before callee from (used_part before callee refl (pointer_has x.home.program.types type args (type_of callee) typed.1.2)) (kept_front x.names x.kept from pointer.temporaries others.written.temporaries kept_all.0) (inl typed.1.0) is.0 images c w here)
        (args_do args pointer.next (second_kept x.names x.kept two given_form.nothing from first_count kept_all.0) typed.1.1 is.1) asked_is
        (λ held. kept_all.1 held (call_has asked type at (call_by callee args) asked_is held))
    expr_does asked (expr type at (call_by callee args)) from asked_is are (inr typed) is = absurd typed.2
    expr_does asked (expr type at (literal number puts)) from asked_is are typed is = node_owes asked type at (literal number puts) from asked_is are typed (λ own. form_does asked type at (literal number puts) from asked_is own typed is tt)

    -- arguments, from the left
    args_do : (args : CExprs) (next : ℕ) → AreKeptFrom x.names x.kept next (lifted_args x.names args next).written.temporaries → AreTyped x.home args → ArgumentsMean x.s x.names args → EachOwes x args next
    args_do no_exprs next are typed is = tt
    args_do (more_exprs first others) next are typed is =
        let asked = operand_before (some_holds_call others) in
        let one = lifted x.names asked first next in
        let two : Both = record { first = one; second = (lifted_args x.names others one.next).written } in (
          λ images c w here. expr_does asked first next (used_part asked first refl is.0) (kept_front x.names x.kept next one.temporaries two.second.temporaries are) (inl typed.0) is.1 images c w here,
          args_do others one.next (second_kept x.names x.kept two given_form.nothing next (numbered x.names asked first next) are) typed.1 is.2,
        )

    form_does : (asked : Asked) (type : CTy) (at : Place) (form : CForm) (from : ℕ) → IsAsked asked (expr type at form) → AreKeptFrom x.names x.kept from (lifted_form x.names asked type form from).temporaries →
        IsTyped x.home (expr type at form) ⊎ IsLvalue x.home (expr type at form) → FormCallsMean x.s x.names form → IsNoCall form → FormAnywhere asked type at form from
    form_does asked type at (whole value) from asked_is are (inl typed) is alone = λ images c w here. whole_owes x asked type at value from images c w here typed
    form_does asked type at null from asked_is are (inl typed) is alone = λ images c w here. null_owes x asked type at from images c w here typed
    form_does asked type at (code number) from asked_is are (inl typed) is alone = λ images c w here. code_owes x asked type at number from images c w here typed
    form_does asked type at (object number) from asked_is are (inr typed) is alone = λ images c w here. object_owes x asked type at number from images c w here typed
    form_does asked (ty form is_const) at (load of) from asked_is are (inl typed) is alone = λ images c w here.
        load_any asked form is_const at of from images c w here typed (rises (lifted x.names operand of from) from (numbered x.names operand of from))
        (expr_does operand of from (used_part operand of refl (lvalue_has x of typed.1.0)) are (inr typed.1.0) is images c w here)
    form_does asked type at (deref of) from asked_is are (inr typed) is alone = λ images c w here.
        deref_owes x asked type at of from images c w here typed (rises (lifted x.names operand of from) from (numbered x.names operand of from))
        (expr_does operand of from (used_part operand of refl (ap is_void typed.2.1.pointer_is)) are (inl typed.2.0) is images c w here)
    form_does asked type at (member of spot) from asked_is are (inr typed) is alone = λ images c w here.
        member_any asked type at of spot from images c w here typed (rises (lifted x.names (whole_of spot) of from) from (numbered x.names (whole_of spot) of from))
        (expr_does (whole_of spot) of from (used_base (whole_of spot) of refl (lvalue_has x of typed.2.0)) are (inr typed.2.0) is images c w here)
    form_does asked type at (address of) from asked_is are (inl typed) is alone = λ images c w here.
        address_owes x asked type at of from images c w here typed (address_kind x type of typed.1.0 typed.1.1) (rises (lifted x.names operand of from) from (numbered x.names operand of from))
        (expr_does operand of from (used_part operand of refl (lvalue_has x of typed.1.0)) are (inr typed.1.0) is images c w here)
    form_does asked (ty form is_const) at (convert of) from asked_is are (inl typed) is alone = λ images c w here.
        convert_owes x asked form is_const at of from images c w here typed asked_is (rises (lifted x.names (part_of (not (is_void (ty form is_const)))) of from) from (numbered x.names (part_of (not (is_void (ty form is_const)))) of from))
        (expr_does (part_of (not (is_void (ty form is_const)))) of from (record { used = convert_has x.home.program.types (type_of of) (ty form is_const) typed.1.1; base = λ same. cc (same) }) are (inl typed.1.0) is images c w here)
    form_does asked type at (unary op of) from asked_is are (inl typed) is alone = λ images c w here.
        unary_owes x asked type at op of from images c w here typed (rises (lifted x.names operand of from) from (numbered x.names operand of from))
        (expr_does operand of from (used_part operand of refl (unary_has x.home.program.types op type (type_of of) typed.1.1)) are (inl typed.1.0) is images c w here)
    form_does asked type at (binary op left right) from asked_is are (inl typed) is alone = λ images c w here.
        binary_owes x asked type at op left right from images c w here typed (binary_there x images c w here op type (type_of left) (type_of right) typed.1.2)
        (rises (pair_for x.names left right from).first from (numbered x.names (operand_before (holds_call right)) left from))
        (rises (pair_for x.names left right from).second (pair_for x.names left right from).first.next (numbered x.names operand right (pair_for x.names left right from).first.next))
        (expr_does (operand_before (holds_call right)) left from (used_part (operand_before (holds_call right)) left refl (left_has x op type (type_of left) (type_of right) (binary_there x images c w here op type (type_of left) (type_of right) typed.1.2)))
        (kept_front x.names x.kept from (pair_for x.names left right from).first.temporaries (pair_for x.names left right from).second.temporaries are) (inl typed.1.0) is.0 images c w here)
        (λ later c1 w1 there. expr_does operand right (pair_for x.names left right from).first.next (used_part operand right refl (right_has x op type (type_of left) (type_of right) (binary_there x images c w here op type (type_of left) (type_of right) typed.1.2)))
        (second_kept x.names x.kept (pair_for x.names left right from) given_form.nothing from (numbered x.names (operand_before (holds_call right)) left from) are) (inl typed.1.1) is.1 later c1 w1 there)
    form_does asked (ty form is_const) at (assign target value) from asked_is are (inl typed) is alone = λ images c w here.
        assign_any asked form is_const at target value from images c w here typed are
        (λ kept_it. expr_does (operand_before (holds_call value)) target from (used_part (operand_before (holds_call value)) target refl (lvalue_has x target typed.1.0)) kept_it (inr typed.1.0) is.0 images c w here)
        (λ bits kept_it. target_does (operand_before (holds_call value)) target from (used_part (operand_before (holds_call value)) target refl (lvalue_has x target typed.1.0)) kept_it typed.1.0 is.0 bits images c w here)
        (λ kept_it later c1 w1 there. expr_does operand value (pair_for x.names target value from).first.next (used_part operand value refl (assigned_has x (ty form is_const) target value typed.1.0 typed.1.2)) kept_it (inl typed.1.1) is.1 later c1 w1 there)
    form_does asked (ty form is_const) at (assign_by op computes target value) from asked_is are (inl typed) is alone = λ images c w here.
        assign_by_any asked form is_const at op computes target value from images c w here typed are
        (λ kept_it. expr_does (operand_before (holds_call value)) target from (used_part (operand_before (holds_call value)) target refl (lvalue_has x target typed.1.0)) kept_it (inr typed.1.0) is.0 images c w here)
        (λ bits kept_it. target_does (operand_before (holds_call value)) target from (used_part (operand_before (holds_call value)) target refl (lvalue_has x target typed.1.0)) kept_it typed.1.0 is.0 bits images c w here)
        (λ kept_it later c1 w1 there. expr_does operand value (pair_for x.names target value from).first.next
        (used_part operand value refl (right_has x op computes computes (type_of value) (binary_there x images c w here op computes computes (type_of value)
        (assigned_binary x.home.program.types op computes (promoted x.home.program.types (type_of target) (width_of target)) (type_of value) typed.1.2.computed)))) kept_it (inl typed.1.1) is.1 later c1 w1 there)
    form_does asked (ty form is_const) at (step up post on) from asked_is are (inl typed) is alone = λ images c w here.
        step_any asked form is_const at up post on from images c w here typed are
        (λ kept_it. expr_does operand on from (used_part operand on refl (lvalue_has x on typed.1.0)) kept_it (inr typed.1.0) is images c w here)
        (λ bits kept_it. target_does operand on from (used_part operand on refl (lvalue_has x on typed.1.0)) kept_it typed.1.0 is bits images c w here)
    form_does asked type at (comma first second) from asked_is are (inl typed) is alone = λ images c w here.
        let two = both (λ number. lifted x.names (part_of false) first number) (λ number. lifted x.names (part_of asked.used) second number) from in
        let first_count = numbered x.names (part_of false) first from in
        comma_owes x asked type at first second from images c w here typed (rises two.first from first_count) (rises two.second two.first.next (numbered x.names (part_of asked.used) second two.first.next))
        (expr_does (part_of false) first from (record { used = λ same. cc (same); base = λ same. cc (same) }) (kept_front x.names x.kept from two.first.temporaries two.second.temporaries are) (inl typed.1.0) is.0 images c w here)
        (λ later c1 w1 there. expr_does (part_of asked.used) second two.first.next
        (record { used = λ same. subst (λ (t : CTy). is_void t ≡ false) typed.1.2 (asked_is.used same); base = λ same. cc (same) })
        (second_kept x.names x.kept two given_form.nothing from first_count are) (inl typed.1.1) is.1 later c1 w1 there)
    form_does asked type at (whole value) from asked_is are (inr typed) is alone = absurd typed.2
    form_does asked type at null from asked_is are (inr typed) is alone = absurd typed.2
    form_does asked type at (code number) from asked_is are (inr typed) is alone = absurd typed.2
    form_does asked type at (load of) from asked_is are (inr typed) is alone = absurd typed.2
    form_does asked type at (address of) from asked_is are (inr typed) is alone = absurd typed.2
    form_does asked type at (convert of) from asked_is are (inr typed) is alone = absurd typed.2
    form_does asked type at (unary op of) from asked_is are (inr typed) is alone = absurd typed.2
    form_does asked type at (binary op left right) from asked_is are (inr typed) is alone = absurd typed.2
    form_does asked type at (assign target value) from asked_is are (inr typed) is alone = absurd typed.2
    form_does asked type at (assign_by op computes target value) from asked_is are (inr typed) is alone = absurd typed.2
    form_does asked type at (step up post on) from asked_is are (inr typed) is alone = absurd typed.2
    form_does asked type at (comma first second) from asked_is are (inr typed) is alone = absurd typed.2
    form_does asked type at (object number) from asked_is are (inl typed) is alone = absurd typed.1
    form_does asked type at (deref of) from asked_is are (inl typed) is alone = absurd typed.1
    form_does asked (ty form is_const) at (member of spot) from asked_is are (inl typed) is alone = λ images c w here.
        value_member_owes x asked form is_const at of spot from images c w here typed (typed_no_lvalue x.home of typed.1.0) (rises (lifted x.names (whole_of spot) of from) from (numbered x.names (whole_of spot) of from))
        (expr_does (whole_of spot) of from (used_base (whole_of spot) of refl (holder_has x.home.program.types (type_of of) typed.1.1.member.index typed.1.1.member.one typed.1.1.member.member_is)) are (inl typed.1.0) is images c w here)
    form_does asked type at (and left right) from asked_is are (inl typed) is alone = λ images c w here.
        let two = operands_of x.names left right from in
        let first_count = numbered x.names operand left from in
        let second_count = numbered x.names operand right two.first.next in
        let kept_two = decided_kept x.names x.kept asked.used (acts true right) type where_true (operand_of x.names left two.first.given) (operand_of x.names right two.second.given) two from first_count second_count are in
        and_owes x asked type at left right from images c w here typed (rises two.first from first_count) (rises two.second two.first.next second_count) kept_two.1
        (expr_does operand left from (used_part operand left refl (scalar_has x.home.program.types (type_of left) typed.1.2.left_scalar)) (kept_front x.names x.kept from two.first.temporaries two.second.temporaries kept_two.0) (inl typed.1.0) is.0 images c w here)
        (λ later c1 w1 there. expr_does operand right two.first.next (used_part operand right refl (scalar_has x.home.program.types (type_of right) typed.1.2.right_scalar))
        (second_kept x.names x.kept two given_form.nothing from first_count kept_two.0) (inl typed.1.1) is.1 later c1 w1 there)
    form_does asked type at (and left right) from asked_is are (inr typed) is alone = absurd typed.2
    form_does asked type at (or left right) from asked_is are (inl typed) is alone = λ images c w here.
        let two = operands_of x.names left right from in
        let first_count = numbered x.names operand left from in
        let second_count = numbered x.names operand right two.first.next in
        let kept_two = decided_kept x.names x.kept asked.used (acts true right) type where_false (operand_of x.names left two.first.given) (operand_of x.names right two.second.given) two from first_count second_count are in
        or_owes x asked type at left right from images c w here typed (rises two.first from first_count) (rises two.second two.first.next second_count) kept_two.1
        (expr_does operand left from (used_part operand left refl (scalar_has x.home.program.types (type_of left) typed.1.2.left_scalar)) (kept_front x.names x.kept from two.first.temporaries two.second.temporaries kept_two.0) (inl typed.1.0) is.0 images c w here)
        (λ later c1 w1 there. expr_does operand right two.first.next (used_part operand right refl (scalar_has x.home.program.types (type_of right) typed.1.2.right_scalar))
        (second_kept x.names x.kept two given_form.nothing from first_count kept_two.0) (inl typed.1.1) is.1 later c1 w1 there)
    form_does asked type at (or left right) from asked_is are (inr typed) is alone = absurd typed.2
    form_does asked type at (cond test first second) from asked_is are (inl typed) is alone = λ images c w here.
        let three = parts_of x.names asked.used test first second from in
        let acting = (asked.used && is_record type) || (acts asked.used first || acts asked.used second) in
        let first_count = numbered x.names operand test from in
        let second_count = numbered x.names (part_of asked.used) first three.test.next in
        let third_count = numbered x.names (part_of asked.used) second three.first.next in
        let kept_three = chosen_kept x.names x.kept asked.used acting type (operand_of x.names test three.test.given) (operand_of x.names first three.first.given) (operand_of x.names second three.second.given) three from
        first_count second_count third_count are in
        choice_owes x asked type at test first second from images c w here typed asked_is.used (rises three.test from first_count) (rises three.first three.test.next second_count) (rises three.second three.first.next third_count)
        (λ used acts_it. (
          part_is_taken x type first three.first.given three.second.next typed.1.1 typed.1.3.first_is (asked_is.used used) (kept_three.3 used acts_it),
          part_is_taken x type second three.second.given three.second.next typed.1.2 typed.1.3.second_is (asked_is.used used) (kept_three.3 used acts_it),
        ))
        (expr_does operand test from (used_part operand test refl (scalar_has x.home.program.types (type_of test) typed.1.3.tested)) kept_three.0 (inl typed.1.0) is.0 images c w here)
        (λ later c1 w1 there. expr_does (part_of asked.used) first three.test.next
        (record { used = λ same. subst (λ (t : CTy). is_void t ≡ false) (sym typed.1.3.first_is) (asked_is.used same); base = λ same. cc (same) }) kept_three.1 (inl typed.1.1) is.1 later c1 w1 there)
        (λ later c1 w1 there. expr_does (part_of asked.used) second three.first.next
        (record { used = λ same. subst (λ (t : CTy). is_void t ≡ false) (sym typed.1.3.second_is) (asked_is.used same); base = λ same. cc (same) }) kept_three.2 (inl typed.1.2) is.2 later c1 w1 there)
    form_does asked type at (cond test first second) from asked_is are (inr typed) is alone = absurd typed.2
    form_does asked type at (call callee args) from asked_is are typed is alone = absurd alone
    form_does asked type at (call_by callee args) from asked_is are typed is alone = absurd alone
    form_does asked type at (literal number puts) from asked_is are (inr typed) is alone = λ images c w here.
        literal_owes x asked type at number puts from images c w here typed
        (puts_do type number (λ later c1 w1 there. literal_lives x.home (scope x) (blocks_of c1) type at number puts there.typed.scene typed) puts from are typed.2.1 is)
    form_does asked type at (literal number puts) from asked_is are (inl typed) is alone = absurd typed.1

    -- the values of a compound literal, from the left
    puts_do : (type : CTy) (number : ℕ) → ((images : Images) (c w : World) → At x images c w → IsLiteralAlive x.home (scope x) (blocks_of c) type number) → (puts : CPuts) (from : ℕ) →
        AreKeptFrom x.names x.kept from (lifted_puts x.names type (object_at x.names type number) puts from).temporaries → ArePuts x.home type puts → PutCallsMean x.s x.names puts → EachPutOwes x puts from
    puts_do type number lives no_puts from are typed is = tt
    puts_do type number lives (more_puts (put spot part value) others) from are typed is =
        let own = puts_kept x.names x.kept type (object_at x.names type number) spot part value others from are in (
          λ images c w here. expr_does (value_for spot) value from (put_is_asked x images c w type number spot part value here (lives images c w here) typed.0.1) own.0 (inl typed.0.0) is.0 images c w here,
          puts_do type number lives others (lifted x.names (value_for spot) value from).next own.1 typed.1 is.1,
        )

pub lifting_does : LiftingDoes
lifting_does s names_of kept home asked e from units steps means apart asked_is are typed is calls promise images c_frame frame c_world world here =
    expr_does (record {
      s = s;
      names = names_of;
      kept = kept;
      home = home;
      c_frame = c_frame;
      frame = frame;
      means = means;
      apart = apart;
      bodies = subst BodiesBehave (sym here.frames.bodies) (all_behave s.modules);
      typed_calls = calls;
      units = units;
      steps = steps;
      promise = promise;
    }) asked e from asked_is are typed is images c_world world here

-- Parameters and locals are those of the function.
use Rattle.std.proofs.Common.{◌≡◌, ℕ, suc, Bool, List, [], ◌∷◌, ◌++◌, flat_map, length, append_assoc, Option, refl, sym, ap, ◌∙◌}
use Rattle.std.proofs.lemmas.List.{append-nil}
use Rattle.cx_core.specs.Trees.{form_of_type, CFun}
use Rattle.rs_text.specs.Tree.{Ty, Stmts, LocalTree, FunctionTree, ItemTree, FunctionItem}
use Rattle.rs_text.specs.declared.attribute.Attribute.{Attribute}
use Rattle.whole_functions.specs.Locals.{body_with, local_with, locals_behind, params_behind}
use Rattle.whole_items.specs.Items.{WrittenBody, count_of, dispatch_local, function_attribute, function_tree, local_by, local_of, names_of_body, param_of, result_of_form, written_result}
use Rattle.whole_names.specs.FunctionNames.{LocalKey, a_result, a_passed, a_local, a_temporary, LocalName, gives_record, local_names}
use Rattle.whole_names.specs.Keys.{a_function}
use Rattle.whole_names.specs.Kept.{NamedProgram, name_in}

behind_params : (whole : NamedProgram) (fun : CFun) (names : List LocalName) (before : List LocalTree) → params_behind whole fun names before ≡ before ++ flat_map (param_of whole fun) names
behind_params whole fun [] before = sym (append-nil before)
behind_params whole fun (one ∷ others) before =
    behind_params whole fun others (before ++ param_of whole fun one) ∙ append_assoc before (param_of whole fun one) (flat_map (param_of whole fun) others)

pub params_are : (whole : NamedProgram) (fun : CFun) (names : List LocalName) (none params : List LocalTree) → none ≡ [] → params ≡ params_behind whole fun names none →
    params ≡ flat_map (param_of whole fun) names
params_are whole fun names none params empty e =
    e ∙ behind_params whole fun names none ∙ ap (λ (list : List LocalTree). list ++ flat_map (param_of whole fun) names) empty

behind_locals : (whole : NamedProgram) (fun : CFun) (types : List Ty) (names : List LocalName) (before : List LocalTree) →
    locals_behind whole fun types names before ≡ before ++ flat_map (local_with whole fun types) names
behind_locals whole fun types [] before = sym (append-nil before)
behind_locals whole fun types (one ∷ others) before =
    behind_locals whole fun types others (before ++ local_with whole fun types one) ∙ append_assoc before (local_with whole fun types one) (flat_map (local_with whole fun types) others)

pub locals_are : (whole : NamedProgram) (fun : CFun) (types : List Ty) (has_dispatch : Bool) (names : List LocalName) (none locals all : List LocalTree) → none ≡ [] →
    locals ≡ locals_behind whole fun types names none → all ≡ locals ++ dispatch_local has_dispatch → all ≡ flat_map (local_with whole fun types) names ++ dispatch_local has_dispatch
locals_are whole fun types has_dispatch names none locals all empty e f =
    f ∙ ap (λ (list : List LocalTree). list ++ dispatch_local has_dispatch)
    (e ∙ behind_locals whole fun types names none ∙ ap (λ (list : List LocalTree). list ++ flat_map (local_with whole fun types) names) empty)

-- locals depend on the types of temporaries alone
by_types : (whole : NamedProgram) (fun : CFun) (body : WrittenBody) (name : List ℕ) (key : LocalKey) → local_by whole fun (body_with body.temporaries) name key ≡ local_by whole fun body name key
by_types whole fun body name a_result = refl
by_types whole fun body name (a_passed number) = refl
by_types whole fun body name (a_local number) = refl
by_types whole fun body name (a_temporary number) = refl

pub body_locals : (whole : NamedProgram) (fun : CFun) (body : WrittenBody) (names : List LocalName) → flat_map (local_with whole fun body.temporaries) names ≡ flat_map (local_of whole fun body) names
body_locals whole fun body [] = refl
body_locals whole fun body (one ∷ others) =
    ap (λ (first : List LocalTree). first ++ flat_map (local_with whole fun body.temporaries) others) (by_types whole fun body one.name one.key)
    ∙ ap (λ (list : List LocalTree). local_of whole fun body one ++ list) (body_locals whole fun body others)

pub counted : {A : Type 0} (list : List A) → length list ≡ count_of list
counted [] = refl
counted (one ∷ others) = ap suc (counted others)

abbrev pub tree_by : Attribute → List ℕ → List LocalTree → Option Ty → List LocalTree → Stmts → FunctionTree
tree_by attribute name params result locals body = record { attribute = attribute; name = name; params = params; result = result; locals = locals; body = body }

pub tree_is : (whole : NamedProgram) (fun : CFun) (body : WrittenBody) (keys : List LocalName) (attribute : Attribute) (name : List ℕ) (params locals : List LocalTree) (result : Option Ty) →
    name ≡ name_in whole fun.unit (a_function fun.function) → attribute ≡ function_attribute fun name → keys ≡ local_names whole.program fun (length body.temporaries) →
    params ≡ flat_map (param_of whole fun) keys → result ≡ written_result whole (gives_record (form_of_type fun.type)) (result_of_form (form_of_type fun.type)) →
    locals ≡ flat_map (local_with whole fun body.temporaries) keys ++ dispatch_local body.has_dispatch →
    FunctionItem (tree_by attribute name params result locals body.statements) ≡ FunctionItem (function_tree whole fun body)
tree_is whole fun body keys attribute name params locals result is_name is_attribute is_keys is_params is_result is_locals =
    let its = name_in whole fun.unit (a_function fun.function) in
    let all : keys ≡ names_of_body whole fun body = is_keys ∙ ap (λ (n : ℕ). local_names whole.program fun n) (counted body.temporaries) in
    let given = written_result whole (gives_record (form_of_type fun.type)) (result_of_form (form_of_type fun.type)) in
    let dispatch = dispatch_local body.has_dispatch in
    ap (λ (a : Attribute). FunctionItem (tree_by a name params result locals body.statements)) (is_attribute ∙ ap (λ (n : List ℕ). function_attribute fun n) is_name)
    ∙ ap (λ (n : List ℕ). FunctionItem (tree_by (function_attribute fun its) n params result locals body.statements)) is_name
    ∙ ap (λ (list : List LocalTree). FunctionItem (tree_by (function_attribute fun its) its list result locals body.statements))
    (is_params ∙ ap (λ (names : List LocalName). flat_map (param_of whole fun) names) all)
    ∙ ap (λ (r : Option Ty). FunctionItem (tree_by (function_attribute fun its) its (flat_map (param_of whole fun) (names_of_body whole fun body)) r locals body.statements)) is_result
    ∙ ap (λ (list : List LocalTree). FunctionItem (tree_by (function_attribute fun its) its (flat_map (param_of whole fun) (names_of_body whole fun body)) given list body.statements))
    (is_locals ∙ ap (λ (list : List LocalTree). list ++ dispatch) (body_locals whole fun body keys ∙ ap (λ (names : List LocalName). flat_map (local_of whole fun body) names) all))

-- A thing with the numbers of the program, by its parts.
use Rattle.std.proofs.Common.{◌≡◌, ap, ◌∙◌, ℕ, List, map, Option, option_map}
use Rattle.cr_base.specs.declared.refusal.Place.{Place}
use Rattle.cx_core.specs.declared.expr.Put.{Put}
use Rattle.cx_core.specs.declared.program.CoreObject.{CoreObject}
use Rattle.cx_core.specs.declared.program.Fun.{Fun}
use Rattle.cx_core.specs.declared.program.Outer.{Outer}
use Rattle.cx_core.specs.declared.stmt.CoreStmt.{CoreStmt}
use Rattle.cx_core.specs.declared.ty.Ty.{Ty}
use Rattle.cx_core.specs.declared.unit.Does.{Does}
use Rattle.cx_core.specs.declared.unit.Mention.{Mention}
use Rattle.cx_core.specs.Trees.{CTy, CPuts, CStmt, CObject, CFun, COuter, CDoes, CMention}
use Rattle.cx_core.specs.Views.{view_does, view_function, view_mention, view_object, view_outer, view_puts, view_stmt, view_type}
use Rattle.cx_renumber.specs.Numbers.{CCounts, CNumbers, does_there, function_there, mention_there, object_there, outer_there, puts_there, stmt_there, type_there}

an_object : CoreObject → ℕ → Option (List ℕ) → CTy → Option CPuts → CObject
an_object one number name type puts =
    record { object = number; unit = one.unit; name = name; is_text = one.is_text; type = type; linkage = one.linkage; puts = puts }

pub same_object : (numbers : CNumbers) (one : CoreObject) (number : ℕ) (name : Option (List ℕ)) (type : Ty) (puts : Option (List Put)) →
    number ≡ numbers.object_for one.object → name ≡ one.name → view_type type ≡ type_there numbers.before (view_type one.ty) →
    option_map view_puts puts ≡ option_map (puts_there numbers) (option_map view_puts one.puts) →
    view_object (record { object = number; unit = one.unit; name = name; is_text = one.is_text; ty = type; linkage = one.linkage; puts = puts })
    ≡ object_there numbers (view_object one)
unfolding an_object
same_object numbers one number name type puts e0 e1 e2 e3 =
    ap (λ it. an_object one it name (view_type type) (option_map view_puts puts)) e0
    ∙ (ap (λ it. an_object one (numbers.object_for one.object) it (view_type type) (option_map view_puts puts)) e1
    ∙ (ap (λ it. an_object one (numbers.object_for one.object) one.name it (option_map view_puts puts)) e2
    ∙ ap (λ it. an_object one (numbers.object_for one.object) one.name (type_there numbers.before (view_type one.ty)) it) e3))

a_function : Fun → ℕ → List ℕ → CTy → List ℕ → CStmt → CFun
a_function one number name type params body =
    record { function = number; name = name; unit = one.unit; linkage = one.linkage; type = type; params = params; body = body }

pub same_function : (numbers : CNumbers) (one : Fun) (number : ℕ) (name : List ℕ) (type : Ty) (params : List ℕ) (body : CoreStmt) →
    number ≡ numbers.function_for one.function → name ≡ one.name → view_type type ≡ type_there numbers.before (view_type one.ty) →
    params ≡ map numbers.object_for one.params → view_stmt body ≡ stmt_there numbers (view_stmt one.body) →
    view_function (record { function = number; name = name; unit = one.unit; linkage = one.linkage; ty = type; params = params; body = body })
    ≡ function_there numbers (view_function one)
unfolding a_function
same_function numbers one number name type params body e0 e1 e2 e3 e4 =
    ap (λ it. a_function one it name (view_type type) params (view_stmt body)) e0
    ∙ (ap (λ it. a_function one (numbers.function_for one.function) it (view_type type) params (view_stmt body)) e1
    ∙ (ap (λ it. a_function one (numbers.function_for one.function) one.name it params (view_stmt body)) e2
    ∙ (ap (λ it. a_function one (numbers.function_for one.function) one.name (type_there numbers.before (view_type one.ty)) it (view_stmt body)) e3
    ∙ ap (λ it. a_function one (numbers.function_for one.function) one.name (type_there numbers.before (view_type one.ty)) (map numbers.object_for one.params) it) e4)))

an_outer : Outer → ℕ → List ℕ → CTy → COuter
an_outer one number name type = record { function = number; name = name; linkage = one.linkage; type = type }

pub same_outer : (numbers : CNumbers) (one : Outer) (number : ℕ) (name : List ℕ) (type : Ty) →
    number ≡ numbers.function_for one.function → name ≡ one.name → view_type type ≡ type_there numbers.before (view_type one.ty) →
    view_outer (record { function = number; name = name; linkage = one.linkage; ty = type }) ≡ outer_there numbers (view_outer one)
unfolding an_outer
same_outer numbers one number name type e0 e1 e2 =
    ap (λ it. an_outer one it name (view_type type)) e0
    ∙ (ap (λ it. an_outer one (numbers.function_for one.function) it (view_type type)) e1
    ∙ ap (λ it. an_outer one (numbers.function_for one.function) one.name it) e2)

a_mention : Mention → Place → List ℕ → CTy → CDoes → CMention
a_mention one place name type does = record { name = name; place = place; type = type; linkage = one.linkage; does = does }

pub same_mention : (before : CCounts) (unit : ℕ) (one : Mention) (name : List ℕ) (type : Ty) (does : Does) →
    name ≡ one.name → view_type type ≡ type_there before (view_type one.ty) → view_does does ≡ does_there before (view_does one.does) →
    view_mention (record { name = name; place = record { unit = unit; line = one.place.line }; ty = type; linkage = one.linkage; does = does })
    ≡ mention_there before unit (view_mention one)
unfolding a_mention
same_mention before unit one name type does e0 e1 e2 =
    ap (λ it. a_mention one (record { unit = unit; line = one.place.line }) it (view_type type) (view_does does)) e0
    ∙ (ap (λ it. a_mention one (record { unit = unit; line = one.place.line }) one.name it (view_does does)) e1
    ∙ ap (λ it. a_mention one (record { unit = unit; line = one.place.line }) one.name (type_there before (view_type one.ty)) it) e2)

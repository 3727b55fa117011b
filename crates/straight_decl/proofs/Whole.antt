-- The program of a unit is typed and linked.
use Rattle.std.proofs.Common.{◌≡◌, ℕ, Bool, true, false, ◌&&◌, List, [], ◌∷◌, ◌++◌, map, Option, Some, None, option_map, Result, Ok, Err, IfOk, refl, sym, ap, subst, ◌∙◌, arith, bytes_eq}
use Rattle.std.specs.List.{AllByRecursion, IsDistinct}
use Rattle.std.proofs.Math.Dec.{eqb}
use Rattle.std.proofs.lemmas.List.{append_assoc}
use Rattle.std.proofs.lemmas.List.Elements.{All-from_recursion}
use Rattle.straight_core.specs.Linked.{IsLinked, IsTypedObject, IsTypedFunction, IsTypedOuter, ArePuts, known_names, names_of_objects}
use Rattle.straight_core.specs.Trees.{CStmt, stmt, block, CPut, CObject, CFun, CProgram}
use Rattle.straight_core.specs.Typing.{IsScalarType}
use Rattle.straight_core.specs.Views.{stmts_of}
use Rattle.straight_tree.specs.Trees as tree
use Rattle.straight_tree.specs.Trees.{ExternalTree, SpecsTree, DeclaratorTree, StmtTree, ItemTree}
use Rattle.straight_decl.specs.CoreOf.{Scope, is_declared, int_type, place_in, with_object, scope_behind, no_scope, main_function, main_body, core_function, core_objects, core_stmts, items_in, is_int, declares_function, takes_nothing, and_main, parted, program_with, externals_of, main_name}
use Rattle.cr_base.specs.declared.refusal.Stop.{Stop}
use Rattle.straight_decl.specs.Given.{Gives}
use Rattle.straight_decl.proofs.Linking.{ArePutsOf, no_puts, one_put, AreDeclaredFrom, objects_are, map_some, cond_some}
use Rattle.straight_decl.proofs.Named.{numbers_differ, found_object, length-scope_behind, names_are, names_distinct}
use Rattle.straight_decl.proofs.Typed.{Finds, stmts_are, constant_is}

-- ---- objects

puts_typed : (program : CProgram) (unit : ℕ) (scope : Scope) (finds : Finds program scope) (puts : List CPut) → ArePutsOf puts → ArePuts program int_type 0 puts
puts_typed program unit scope finds [] no_puts = tt
puts_typed program unit scope finds _ (one_put place value small) = (
  omega arith,
  record {
    inside = omega arith;
    not_in_bits = (refl, refl);
    scalar = refl;
    constant = tt;
    typed = (constant_is program unit scope finds place value small).typed;
    type_is = refl;
  },
  tt,
)

objects_typed : (program : CProgram) (unit : ℕ) (here : Scope) (finds : Finds program here) (scope : Scope) (objects : List CObject) → AreDeclaredFrom unit scope objects → AllByRecursion (IsTypedObject program) objects
objects_typed program unit here finds scope [] are = tt
objects_typed program unit here finds scope (one ∷ others) are = (
  subst (IsTypedObject program) (sym are.0.is) (record { scalar = refl; puts = puts_typed program unit here finds are.0.puts are.0.stored }),
  objects_typed program unit here finds (with_object scope one) others are.1,
)

-- ---- the function `main`

pub record IsMain (program : CProgram) (unit : ℕ) (has_putchar : Bool) (main : CFun) : Type 0 where
  pub body : CStmt
  pub is : main_function unit has_putchar body ≡ main
  pub typed : IsTypedFunction program (main_function unit has_putchar body)

none_distinct : IsDistinct eqb []
unfolding IsDistinct
none_distinct = tt

body_typed : (program : CProgram) (unit : ℕ) (scope : Scope) (finds : Finds program scope) (statement : StmtTree) (made : CStmt) → main_body unit scope statement ≡ Some made → IsTypedFunction program (main_function unit scope.has_putchar made)
body_typed program unit scope finds (tree.Block items lines) made e =
    let parts = map_some (λ stmts. stmt (place_in unit lines) [] (block (stmts_of stmts))) (core_stmts unit scope (items_in items)) made e in
    subst (λ body. IsTypedFunction program (main_function unit scope.has_putchar body)) parts.2 (refl, tt, none_distinct, tt, (refl, stmts_are program unit scope finds (items_in items) parts.0 parts.1))
body_typed program unit scope finds (tree.ExprStmt e lines) made f = cc
body_typed program unit scope finds (tree.Return e lines) made f = cc

main_is : (program : CProgram) (unit : ℕ) (scope : Scope) (finds : Finds program scope) (part : ExternalTree) (main : CFun) → core_function unit scope part ≡ Some main → IsMain program unit scope.has_putchar main
main_is program unit scope finds (tree.Declaration d) main e = cc
main_is program unit scope finds (tree.Definition specs declarator statement lines) main e =
    let test = cond_some (is_int specs && declares_function main_name takes_nothing declarator) (option_map (main_function unit scope.has_putchar) (main_body unit scope statement)) main e in
    let parts = map_some (main_function unit scope.has_putchar) (main_body unit scope statement) main test.1 in
    record { body = parts.0; is = parts.2; typed = body_typed program unit scope finds statement parts.0 parts.1 }

-- ---- the whole

-- the names that are declared from the start
first_names : (has_putchar : Bool) → AllByRecursion (λ name. is_declared name (no_scope has_putchar) ≡ true) (main_name ∷ map (λ one. one.name) (externals_of has_putchar))
first_names true = (refl, (refl, tt))
first_names false = (refl, tt)

first_distinct : (has_putchar : Bool) → IsDistinct bytes_eq (main_name ∷ map (λ one. one.name) (externals_of has_putchar))
unfolding IsDistinct
first_distinct true = ((refl, tt), (tt, tt))
first_distinct false = (tt, tt)

functions_distinct : (unit : ℕ) (has_putchar : Bool) (body : CStmt) → IsDistinct eqb ((main_function unit has_putchar body).function ∷ map (λ one. one.function) (externals_of has_putchar))
unfolding IsDistinct
functions_distinct unit true body = ((refl, tt), (tt, tt))
functions_distinct unit false body = (tt, tt)

outers_typed : (has_putchar : Bool) → AllByRecursion IsTypedOuter (externals_of has_putchar)
unfolding known_names
outers_typed true = (record { opaque = (tt, All-from_recursion IsScalarType (int_type ∷ []) (refl, tt)); unknown = refl }, tt)
outers_typed false = tt

-- `kept` scopes have the flag of the first
flag_stays : (scope : Scope) (objects : List CObject) → (scope_behind scope objects).has_putchar ≡ scope.has_putchar
flag_stays scope [] = refl
flag_stays scope (one ∷ others) = flag_stays (with_object scope one) others

finds_all : (unit : ℕ) (has_putchar : Bool) (objects : List CObject) (are : AreDeclaredFrom unit (no_scope has_putchar) objects) (main : CFun) → Finds (program_with has_putchar (objects, main)) (scope_behind (no_scope has_putchar) objects)
finds_all unit has_putchar objects are main = record {
  objects = λ k less. found_object unit (no_scope has_putchar) objects are k (omega arith) (omega (arith, less, length-scope_behind unit (no_scope has_putchar) objects are));
  externals = ap externals_of (sym (flag_stays (no_scope has_putchar) objects));
}

linked_with : (unit : ℕ) (has_putchar : Bool) (objects : List CObject) (are : AreDeclaredFrom unit (no_scope has_putchar) objects) (body : CStmt) →
    IsTypedFunction (program_with has_putchar (objects, main_function unit has_putchar body)) (main_function unit has_putchar body) →
    IsLinked (program_with has_putchar (objects, main_function unit has_putchar body))
linked_with unit has_putchar objects are body typed =
    let main = main_function unit has_putchar body in
    let program = program_with has_putchar (objects, main) in
    record {
      objects_differ = numbers_differ unit (no_scope has_putchar) objects are;
      functions_differ = functions_distinct unit has_putchar body;
      names_differ = subst (IsDistinct bytes_eq)
          (ap (λ names. names ++ (main_name ∷ map (λ one. one.name) (externals_of has_putchar))) (sym (names_are unit (no_scope has_putchar) objects are)) ∙ sym (append_assoc (names_of_objects objects) (main_name ∷ []) (map (λ one. one.name) (externals_of has_putchar))))
          (names_distinct unit (no_scope has_putchar) objects are (main_name ∷ map (λ one. one.name) (externals_of has_putchar)) (first_names has_putchar) (first_distinct has_putchar));
      objects = All-from_recursion (IsTypedObject program) objects (objects_typed program unit (scope_behind (no_scope has_putchar) objects) (finds_all unit has_putchar objects are main) (no_scope has_putchar) objects are);
      functions = All-from_recursion (IsTypedFunction program) (main ∷ []) (typed, tt);
      externals = All-from_recursion IsTypedOuter (externals_of has_putchar) (outers_typed has_putchar);
      main_defined = refl;
      main_typed = (refl, refl);
    }

-- the program of objects and `main` is typed and linked
pub linked : (unit : ℕ) (has_putchar : Bool) (parts : List ExternalTree) (last : ExternalTree) (objects : List CObject) (main : CFun) → core_objects unit (no_scope has_putchar) parts ≡ Some objects → core_function unit (scope_behind (no_scope has_putchar) objects) last ≡ Some main →
    IsLinked (program_with has_putchar (objects, main))
linked unit has_putchar parts last objects main e f =
    let are = objects_are unit (no_scope has_putchar) parts objects e in
    let is = main_is (program_with has_putchar (objects, main)) unit (scope_behind (no_scope has_putchar) objects) (finds_all unit has_putchar objects are main) last main f in
    let made : main_function unit has_putchar is.body ≡ main = ap (λ flag. main_function unit flag is.body) (sym (flag_stays (no_scope has_putchar) objects)) ∙ is.is in
    subst (λ one. IsLinked (program_with has_putchar (objects, one))) made
    (linked_with unit has_putchar objects are is.body
    (subst (λ one. IsTypedFunction (program_with has_putchar (objects, one)) one) (sym made) (subst (IsTypedFunction (program_with has_putchar (objects, main))) is.is is.typed)))

-- the program of a unit's parts is typed and linked
pub parted_linked : (unit : ℕ) (has_putchar : Bool) (firsts : List ExternalTree) (last : ExternalTree) (program : CProgram) → parted unit has_putchar firsts last ≡ Some program → IsLinked program
parted_linked unit has_putchar firsts last program e =
    let parts = map_some (program_with has_putchar) (and_main unit (no_scope has_putchar) last (core_objects unit (no_scope has_putchar) firsts)) program e in
    subst IsLinked parts.2 (by_objects (core_objects unit (no_scope has_putchar) firsts) refl parts.0 parts.1)
  where
    by_objects : (found : Option (List CObject)) → core_objects unit (no_scope has_putchar) firsts ≡ found → (made : List CObject × CFun) → and_main unit (no_scope has_putchar) last found ≡ Some made → IsLinked (program_with has_putchar made)
    by_objects None was made f = cc
    by_objects (Some objects) was made f =
        let main = map_some (λ one. (objects, one)) (core_function unit (scope_behind (no_scope has_putchar) objects) last) made f in
        subst (λ pair. IsLinked (program_with has_putchar pair)) main.2 (linked unit has_putchar firsts last objects main.0 was main.1)

-- what is found is typed and linked where all that is meant is
pub found_linked : {X : Type 0} (view : X → CProgram) (unit : ℕ) (result : Result X Stop) (meant : Option CProgram) → Gives view unit result meant → ((program : CProgram) → meant ≡ Some program → IsLinked program) → IfOk result (λ whole. IsLinked (view whole))
found_linked view unit (Ok found) meant gives law = law (view found) gives
found_linked view unit (Err stop) meant gives law = tt

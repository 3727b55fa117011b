-- The program of a unit is straight.
use Rattle.std.proofs.Common.{◌≡◌, ℕ, Bool, true, false, cond, ◌&&◌, List, [], ◌∷◌, ◌++◌, Option, Some, None, option_map, refl, sym, ap, subst, ◌∙◌}
use Rattle.std.specs.Prelude.{All}
use Rattle.std.specs.List.{AllByRecursion}
use Rattle.std.proofs.lemmas.List.Elements.{All-from_recursion}
use Rattle.cr_base.specs.declared.refusal.Place.{Place}
use Rattle.straight_core.specs.Trees.{CExpr, CStmt, stmt, block, expression, returns, CObject, CFun, CProgram}
use Rattle.straight_core.specs.Views.{stmts_of}
use Rattle.straight_tree.specs.Trees as tree
use Rattle.straight_tree.specs.Trees.{ExprTree, ItemTree, StmtTree, ExternalTree, UnitTree}
use Rattle.straight_decl.specs.CoreOf.{Scope, place_in, place_of, no_scope, with_object, scope_behind, core_expr, core_expression, core_return, core_first, core_last, core_firsts, core_stmts, items_in, last_of, before_last, dropped, main_function, main_body, core_function, core_objects, and_main, parted, program_with, program_behind, program_of_parts, core_of, is_int, declares_function, takes_nothing, main_name, declares_putchar, both}
use Rattle.straight_decl.proofs.Linking.{IsDeclaredIn, AreDeclaredFrom, objects_are, both_some, map_some, cond_some, same}
use Rattle.straight_decl.proofs.Whole.{parted_linked}
use Rattle.straight_whole.specs.Straight.{IsPlainObject, IsExpression, GivesValue, IsStraightBody, IsStraight}

-- ---- objects

objects_plain : (scope : Scope) (objects : List CObject) → AreDeclaredFrom 0 scope objects → AllByRecursion IsPlainObject objects
objects_plain scope [] are = tt
objects_plain scope (one ∷ others) are = (subst IsPlainObject (sym are.0.is) (record { unit = refl; linkage = refl; named = refl; defined = refl }), objects_plain (with_object scope one) others are.1)

-- ---- the body

first_is : (unit : ℕ) (scope : Scope) (item : ItemTree) (made : CStmt) → core_first unit scope item ≡ Some made → IsExpression made
first_is unit scope (tree.StmtItem (tree.ExprStmt (Some e) lines)) made f =
    let parts = map_some (λ value. stmt (place_of unit e) [] (expression (dropped value))) (core_expr unit scope e) made f in
    subst IsExpression parts.2 tt
first_is unit scope (tree.StmtItem (tree.ExprStmt None lines)) made f = cc
first_is unit scope (tree.StmtItem (tree.Block items lines)) made f = cc
first_is unit scope (tree.StmtItem (tree.Return value lines)) made f = cc

last_is : (unit : ℕ) (scope : Scope) (item : ItemTree) (made : CStmt) → core_last unit scope item ≡ Some made → GivesValue made
last_is unit scope (tree.StmtItem (tree.Return (Some e) lines)) made f =
    let parts = map_some (λ value. stmt (place_in unit lines) [] (returns (Some value))) (core_expr unit scope e) made f in
    subst GivesValue parts.2 tt
last_is unit scope (tree.StmtItem (tree.Return None lines)) made f = cc
last_is unit scope (tree.StmtItem (tree.Block items lines)) made f = cc
last_is unit scope (tree.StmtItem (tree.ExprStmt e lines)) made f = cc

firsts_are : (unit : ℕ) (scope : Scope) (items : List ItemTree) (made : List CStmt) → core_firsts unit scope items ≡ Some made → AllByRecursion IsExpression made
firsts_are unit scope [] made f = subst (AllByRecursion IsExpression) (same [] made f) tt
firsts_are unit scope (item ∷ items) made f =
    let parts = both_some (core_first unit scope item) (core_firsts unit scope items) (λ one rest. one ∷ rest) made f in
    subst (AllByRecursion IsExpression) parts.made_is (first_is unit scope item parts.one parts.first_is, firsts_are unit scope items parts.other parts.second_is)

body_of : (unit : ℕ) (scope : Scope) (lines : List ℕ) (items : List ItemTree) (made : List CStmt) → core_stmts unit scope items ≡ Some made → IsStraightBody (stmt (place_in unit lines) [] (block (stmts_of made)))
body_of unit scope lines [] made f = cc
body_of unit scope lines (item ∷ items) made f =
    let parts = both_some (core_firsts unit scope (before_last item items)) (core_last unit scope (last_of item items)) (λ firsts last. firsts ++ last ∷ []) made f in
    record {
      place = place_in unit lines;
      firsts = parts.one;
      last = parts.other;
      is = ap (λ list. stmt (place_in unit lines) [] (block (stmts_of list))) (sym parts.made_is);
      expressions = All-from_recursion IsExpression parts.one (firsts_are unit scope (before_last item items) parts.one parts.first_is);
      gives = last_is unit scope (last_of item items) parts.other parts.second_is;
    }

body_is : (unit : ℕ) (scope : Scope) (statement : StmtTree) (made : CStmt) → main_body unit scope statement ≡ Some made → IsStraightBody made
body_is unit scope (tree.Block items lines) made f =
    let parts = map_some (λ stmts. stmt (place_in unit lines) [] (block (stmts_of stmts))) (core_stmts unit scope (items_in items)) made f in
    subst IsStraightBody parts.2 (body_of unit scope lines (items_in items) parts.0 parts.1)
body_is unit scope (tree.ExprStmt e lines) made f = cc
body_is unit scope (tree.Return e lines) made f = cc

-- the function `main`
record IsStraightMain (main : CFun) : Type 0 where
  unit : main.unit ≡ 0
  body : IsStraightBody main.body

main_is : (scope : Scope) (part : ExternalTree) (main : CFun) → core_function 0 scope part ≡ Some main → IsStraightMain main
main_is scope (tree.Declaration d) main e = cc
main_is scope (tree.Definition specs declarator statement lines) main e =
    let test = cond_some (is_int specs && declares_function main_name takes_nothing declarator) (option_map (main_function 0 scope.has_putchar) (main_body 0 scope statement)) main e in
    let parts = map_some (main_function 0 scope.has_putchar) (main_body 0 scope statement) main test.1 in
    subst IsStraightMain parts.2 (record { unit = refl; body = body_is 0 scope statement parts.0 parts.1 })

-- ---- the whole

parted_straight : (has_putchar : Bool) (firsts : List ExternalTree) (last : ExternalTree) (program : CProgram) → parted 0 has_putchar firsts last ≡ Some program → IsStraight program
parted_straight has_putchar firsts last program e =
    let parts = map_some (program_with has_putchar) (and_main 0 (no_scope has_putchar) last (core_objects 0 (no_scope has_putchar) firsts)) program e in
    by_objects (core_objects 0 (no_scope has_putchar) firsts) refl parts.0 parts.1 parts.2
  where
    by_objects : (found : Option (List CObject)) → core_objects 0 (no_scope has_putchar) firsts ≡ found → (made : List CObject × CFun) → and_main 0 (no_scope has_putchar) last found ≡ Some made → program_with has_putchar made ≡ program → IsStraight program
    by_objects None was made f g = cc
    by_objects (Some objects) was made f g =
        let main = map_some (λ one. (objects, one)) (core_function 0 (scope_behind (no_scope has_putchar) objects) last) made f in
        let is : program_with has_putchar (objects, main.0) ≡ program = ap (program_with has_putchar) main.2 ∙ g in
        let straight = main_is (scope_behind (no_scope has_putchar) objects) last main.0 main.1 in
        record {
          linked = parted_linked 0 has_putchar firsts last program e;
          objects = subst (λ (p : CProgram). All IsPlainObject p.objects) is (All-from_recursion IsPlainObject objects (objects_plain (no_scope has_putchar) objects (objects_are 0 (no_scope has_putchar) firsts objects was)));
          main = main.0;
          functions = ap (λ (p : CProgram). p.functions) (sym is);
          unit = straight.unit;
          body = straight.body;
        }

behind_straight : (has_putchar : Bool) (parts : List ExternalTree) (program : CProgram) → program_behind 0 has_putchar parts ≡ Some program → IsStraight program
behind_straight has_putchar [] program e = cc
behind_straight has_putchar (first ∷ others) program e = parted_straight has_putchar (before_last first others) (last_of first others) program e

-- the program of a unit with number 0 is straight
pub core_straight : (unit : UnitTree) (program : CProgram) → core_of 0 unit ≡ Some program → IsStraight program
core_straight unit program e = by_parts unit.parts e
  where
    by_test : (first : ExternalTree) (others : List ExternalTree) (test : Bool) → cond test (program_behind 0 true others) (program_behind 0 false (first ∷ others)) ≡ Some program → IsStraight program
    by_test first others true f = behind_straight true others program f
    by_test first others false f = behind_straight false (first ∷ others) program f

    by_parts : (parts : List ExternalTree) → program_of_parts 0 parts ≡ Some program → IsStraight program
    by_parts [] f = cc
    by_parts (first ∷ others) f = by_test first others (declares_putchar first) f

-- The objects of blocks and the parameters of a unit's functions are its own, and no two of a program of typed units have one number (ISO C99, 6.2.4p5).
use Rattle.std.proofs.Common.{◌≡◌, ℕ, suc, ◌+◌, ◌==◌, List, [], ◌∷◌, ◌++◌, map, All, Option, None, Some, slice_get, eqb, append_assoc, refl, sym, ap, ◌∙◌, subst}
use Rattle.std.specs.Prelude.{◌<◌, IsSome, IfSome}
use Rattle.std.specs.List.{IsDistinct}
use Rattle.std.proofs.lemmas.List.Elements.{All-nil, All-cons, All-head, All-tail, All-append}
use Rattle.cx_core.specs.declared.program.Linkage.TheVariants.{Nothing}
use Rattle.cx_core.specs.Linked.{program_of, is_external, block_objects, IsTypedFunction}
use Rattle.cx_core.specs.Statements.{objects_in, objects_in_form, objects_in_else, objects_in_list, CBody, with_objects, within_loop, within_switch, IsBlockObject, AreBlockObjects, IsParamObject, AreParams, AreParamsOf, IsDefinitionOf, IsTypedStmt, IsTypedStmtForm, IsTypedElse, AreTypedStmts}
use Rattle.cx_core.specs.Trees.{CTyForm, function, CParams, unlisted, listed, CTys, no_types, more_types, form_of_type, type_of, CStmt, stmt, CStmtForm, label, case, default, block, expression, if_then, switch, while, do_while, for_loop, goto, continue, break, returns, begin, COtherwise, no_else, else_do, CStmts, no_stmts, more_stmts, CObject, CFun, CProgram, CUnit}
use Rattle.cx_core.specs.Typing.{CHome, object_with}
use Rattle.cx_links.specs.Program.{counts_before, object_at, object_number, numbers_of, from_each, linked}
use Rattle.cx_renumber.specs.Numbers.{CNumbers, stmt_there, action_there, else_there, stmts_there, function_there}
use Rattle.cx_typed_links.proofs.Distinct.{all_made, units_differ}
use Rattle.cx_typed_links.proofs.FunctionNumbers.{moved_differ}
use Rattle.cx_typed_links.proofs.Listed.{map_joined}
use Rattle.cx_typed_links.proofs.Objects.{number_of, objects_in_unit, objects_before, own_number, all_own}
use Rattle.cx_typed_links.proofs.Places.{below_all, found_holds, same_number, units_apart}
use Rattle.cx_typed_links.proofs.Programs.{linked_functions}
use Rattle.cx_typed_links.proofs.Records.{all_mapped}
use Rattle.cx_typed_links.specs.Laws.{AreTypedUnits}

-- ---- objects of blocks have no linkage

-- an object of a program that has no linkage
pub record IsOfBlock (program : CProgram) (number : ℕ) : Type 0 where
  pub known : CObject
  pub found : object_with number program.objects ≡ Some known
  pub no_linkage : known.linkage ≡ Nothing

block_by : (program : CProgram) (number : ℕ) (P : CObject → Type 0) → ((known : CObject) → P known → known.linkage ≡ Nothing) → (found : Option CObject)
    → object_with number program.objects ≡ found → IsSome found → IfSome found P → IsOfBlock program number
block_by program number P goes None is some held = absurd cc
block_by program number P goes (Some known) is some held = record { known = known; found = is; no_linkage = goes known held }

of_blocks : (home : CHome) (objects : List ℕ) → AreBlockObjects home objects → All (IsOfBlock home.program) objects
of_blocks home [] held = All-nil (IsOfBlock home.program)
of_blocks home (number ∷ others) held =
    All-cons (IsOfBlock home.program) number others
    (block_by home.program number (IsBlockObject home) (λ known is. is.no_linkage) (object_with number home.program.objects) refl held.0 held.1)
    (of_blocks home others held.2)

mutual
  blocks_in : (body : CBody) (declares : List ℕ) (of : CStmt) → IsTypedStmt body declares of → All (IsOfBlock body.home.program) (objects_in of)
  blocks_in body declares (stmt place objects form) held =
      All-append (IsOfBlock body.home.program) objects (objects_in_form form) (of_blocks body.home objects held.0)
      (blocks_in_form (with_objects objects body) declares objects form held.1)

  blocks_in_form : (body : CBody) (declares objects : List ℕ) (form : CStmtForm) → IsTypedStmtForm body declares objects form
      → All (IsOfBlock body.home.program) (objects_in_form form)
  blocks_in_form body declares objects (label name inner) held = blocks_in body [] inner held
  blocks_in_form body declares objects (case value inner) held = blocks_in body [] inner held.1
  blocks_in_form body declares objects (default inner) held = blocks_in body [] inner held.1
  blocks_in_form body declares objects (block stmts) held = blocks_in_list body objects stmts held
  blocks_in_form body declares objects (expression value) held = All-nil (IsOfBlock body.home.program)
  blocks_in_form body declares objects (if_then test inner otherwise) held =
      All-append (IsOfBlock body.home.program) (objects_in inner) (objects_in_else otherwise) (blocks_in body [] inner held.1) (blocks_in_else body otherwise held.2)
  blocks_in_form body declares objects (switch value inner) held = blocks_in (within_switch (type_of value) body) [] inner held.2
  blocks_in_form body declares objects (while test inner) held = blocks_in (within_loop body) [] inner held.1
  blocks_in_form body declares objects (do_while inner test) held = blocks_in (within_loop body) [] inner held.0
  blocks_in_form body declares objects (for_loop first test next inner) held =
      All-append (IsOfBlock body.home.program) (objects_in_list first) (objects_in inner) (blocks_in_list body objects first held.1)
      (blocks_in (within_loop body) [] inner held.4)
  blocks_in_form body declares objects (goto name) held = All-nil (IsOfBlock body.home.program)
  blocks_in_form body declares objects continue held = All-nil (IsOfBlock body.home.program)
  blocks_in_form body declares objects break held = All-nil (IsOfBlock body.home.program)
  blocks_in_form body declares objects (returns value) held = All-nil (IsOfBlock body.home.program)
  blocks_in_form body declares objects (begin number puts) held = All-nil (IsOfBlock body.home.program)

  blocks_in_else : (body : CBody) (otherwise : COtherwise) → IsTypedElse body otherwise → All (IsOfBlock body.home.program) (objects_in_else otherwise)
  blocks_in_else body no_else held = All-nil (IsOfBlock body.home.program)
  blocks_in_else body (else_do inner) held = blocks_in body [] inner held

  blocks_in_list : (body : CBody) (declares : List ℕ) (stmts : CStmts) → AreTypedStmts body declares stmts → All (IsOfBlock body.home.program) (objects_in_list stmts)
  blocks_in_list body declares no_stmts held = All-nil (IsOfBlock body.home.program)
  blocks_in_list body declares (more_stmts first others) held =
      All-append (IsOfBlock body.home.program) (objects_in first) (objects_in_list others) (blocks_in body declares first held.0)
      (blocks_in_list body declares others held.1)

-- ---- parameters

of_params : (home : CHome) (params : List ℕ) (types : CTys) → AreParams home params types → All (IsOfBlock home.program) params
of_params home [] types held = All-nil (IsOfBlock home.program)
of_params home (number ∷ others) no_types held = absurd held
of_params home (number ∷ others) (more_types type types) held =
    All-cons (IsOfBlock home.program) number others
    (block_by home.program number (IsParamObject home type) (λ known is. is.object.no_linkage) (object_with number home.program.objects) refl held.0 held.1)
    (of_params home others types held.2)

of_params_of : (home : CHome) (params : List ℕ) (types : CParams) → AreParamsOf home params types → All (IsOfBlock home.program) params
of_params_of home params unlisted held = subst (All (IsOfBlock home.program)) (sym held) (All-nil (IsOfBlock home.program))
of_params_of home params (listed types) held = of_params home params types held

of_definition : (home : CHome) (one : CFun) (form : CTyForm) → IsDefinitionOf home one form → All (IsOfBlock home.program) (one.params ++ objects_in one.body)
of_definition home one (function result params variadic) held =
    All-append (IsOfBlock home.program) one.params (objects_in one.body) (of_params_of home one.params params held.params_are)
    (blocks_in _ [] one.body held.body)
of_definition home one form held = absurd held

of_functions : (program : CProgram) (functions : List CFun) (P : CFun → Type 0)
    → ((one : CFun) → P one → All (IsOfBlock program) (one.params ++ objects_in one.body)) → All P functions → All (IsOfBlock program) (block_objects functions)
of_functions program [] P goes all = All-nil (IsOfBlock program)
of_functions program (one ∷ others) P goes all =
    All-append (IsOfBlock program) (one.params ++ objects_in one.body) (block_objects others) (goes one (All-head P one others all))
    (of_functions program others P goes (All-tail P one others all))

-- ---- the objects of blocks, renumbered

module _ (numbers : CNumbers) where
  abbrev moved : List ℕ → List ℕ
  moved all = map numbers.object_for all

  joined_moved : (first second : List ℕ) (one other : List ℕ) → one ≡ moved first → other ≡ moved second → one ++ other ≡ moved (first ++ second)
  joined_moved first second one other is also =
      ap (λ all. all ++ other) is ∙ ap (λ all. moved first ++ all) also ∙ sym (map_joined numbers.object_for first second)

  mutual
    objects_go : (of : CStmt) → objects_in (stmt_there numbers of) ≡ moved (objects_in of)
    objects_go (stmt place objects form) =
        joined_moved objects (objects_in_form form) (moved objects) (objects_in_form (action_there numbers form)) refl (objects_go_form form)

    objects_go_form : (form : CStmtForm) → objects_in_form (action_there numbers form) ≡ moved (objects_in_form form)
    objects_go_form (label name inner) = objects_go inner
    objects_go_form (case value inner) = objects_go inner
    objects_go_form (default inner) = objects_go inner
    objects_go_form (block stmts) = objects_go_list stmts
    objects_go_form (expression value) = refl
    objects_go_form (if_then test inner otherwise) =
        joined_moved (objects_in inner) (objects_in_else otherwise) (objects_in (stmt_there numbers inner)) (objects_in_else (else_there numbers otherwise))
        (objects_go inner) (objects_go_else otherwise)
    objects_go_form (switch value inner) = objects_go inner
    objects_go_form (while test inner) = objects_go inner
    objects_go_form (do_while inner test) = objects_go inner
    objects_go_form (for_loop first test next inner) =
        joined_moved (objects_in_list first) (objects_in inner) (objects_in_list (stmts_there numbers first)) (objects_in (stmt_there numbers inner))
        (objects_go_list first) (objects_go inner)
    objects_go_form (goto name) = refl
    objects_go_form continue = refl
    objects_go_form break = refl
    objects_go_form (returns value) = refl
    objects_go_form (begin number puts) = refl

    objects_go_else : (otherwise : COtherwise) → objects_in_else (else_there numbers otherwise) ≡ moved (objects_in_else otherwise)
    objects_go_else no_else = refl
    objects_go_else (else_do inner) = objects_go inner

    objects_go_list : (stmts : CStmts) → objects_in_list (stmts_there numbers stmts) ≡ moved (objects_in_list stmts)
    objects_go_list no_stmts = refl
    objects_go_list (more_stmts first others) =
        joined_moved (objects_in first) (objects_in_list others) (objects_in (stmt_there numbers first)) (objects_in_list (stmts_there numbers others))
        (objects_go first) (objects_go_list others)

  blocks_go : (functions : List CFun) → block_objects (map (function_there numbers) functions) ≡ moved (block_objects functions)
  blocks_go [] = refl
  blocks_go (one ∷ others) =
      joined_moved (one.params ++ objects_in one.body) (block_objects others) (moved one.params ++ objects_in (stmt_there numbers one.body))
      (block_objects (map (function_there numbers) others))
      (joined_moved one.params (objects_in one.body) (moved one.params) (objects_in (stmt_there numbers one.body)) refl (objects_go one.body))
      (blocks_go others)

-- ---- of all units

blocks_joined : (first second : List CFun) → block_objects (first ++ second) ≡ block_objects first ++ block_objects second
blocks_joined [] second = refl
blocks_joined (one ∷ others) second =
    ap (λ all. (one.params ++ objects_in one.body) ++ all) (blocks_joined others second)
    ∙ sym (append_assoc (one.params ++ objects_in one.body) (block_objects others) (block_objects second))

itself : (numbers : List ℕ) → map (λ n. n) numbers ≡ numbers
itself [] = refl
itself (n ∷ others) = ap (λ rest. n ∷ rest) (itself others)

module _ (units : List CUnit) (typed : AreTypedUnits units) where
  abbrev blocks_of : CUnit → ℕ → List ℕ
  blocks_of one unit = map (object_number units one unit) (block_objects one.functions)

  blocks_are : (start : ℕ) (others : List CUnit)
      → block_objects (from_each (λ one unit. map (function_there (numbers_of units one unit)) one.functions) start others) ≡ from_each blocks_of start others
  blocks_are start [] = refl
  blocks_are start (one ∷ others) =
      blocks_joined (map (function_there (numbers_of units one start)) one.functions)
      (from_each (λ one unit. map (function_there (numbers_of units one unit)) one.functions) (suc start) others)
      ∙ ap (λ all. all ++ block_objects (from_each (λ one unit. map (function_there (numbers_of units one unit)) one.functions) (suc start) others))
      (blocks_go (numbers_of units one start) one.functions)
      ∙ ap (λ all. blocks_of one start ++ all) (blocks_are (suc start) others)

  record HasPlace (unit : ℕ) (number : ℕ) : Type 0 where
    home : CUnit
    own : ℕ
    unit_is : slice_get units unit ≡ Some home
    within : own < objects_in_unit home
    number_is : number ≡ object_at units unit own

  one_place : (first second number also : ℕ) → HasPlace first number → HasPlace second also → number ≡ also → first ≡ second
  one_place first second number also one other same =
      (units_apart objects_in_unit units first second one.home other.home one.own other.own one.unit_is one.within other.unit_is other.within
      (ap (λ n. n + one.own) (objects_before first units) ∙ sym one.number_is ∙ same ∙ other.number_is
      ∙ sym (ap (λ n. n + other.own) (objects_before second units)))).0

  module _ (unit : ℕ) (one : CUnit) (is : slice_get units unit ≡ Some one) where
    unit_blocks : All (IsOfBlock (program_of one)) (block_objects one.functions)
    unit_blocks =
        of_functions (program_of one) one.functions (IsTypedFunction (program_of one) (Some one.mentions))
        (λ known held. of_definition _ known (form_of_type known.type) held.definition) (typed unit one is).functions

    own_moved : (number : ℕ) → IsOfBlock (program_of one) number → object_number units one unit number ≡ object_at units unit number
    own_moved number held =
        let own = found_holds (λ other. object_with other.object one.objects ≡ Some other) (λ other. other.object == number) one.objects held.known
        (all_own units typed unit one is) held.found in
        subst (λ n. object_number units one unit n ≡ object_at units unit n) (same_number held.known.object number own.1)
        (own_number units unit one held.known own.0 (ap is_external held.no_linkage))

    blocks_at : All (HasPlace unit) (blocks_of one unit)
    blocks_at =
        all_mapped (IsOfBlock (program_of one)) (HasPlace unit) (object_number units one unit) (block_objects one.functions)
        (λ number held. record {
          home = one;
          own = number;
          unit_is = is;
          within = below_all number_of one.objects number held.known held.found;
          number_is = own_moved number held;
        }) unit_blocks

    blocks_within : IsDistinct eqb (map (λ n. n) (blocks_of one unit))
    blocks_within =
        moved_differ (counts_before unit units).objects (λ n. n) (λ n. n) (object_number units one unit) (block_objects one.functions)
        (all_made (IsOfBlock (program_of one)) (λ number. object_number units one unit number ≡ object_at units unit number) (block_objects one.functions)
        own_moved unit_blocks)
        (subst (IsDistinct eqb) (sym (itself (block_objects one.functions))) (typed unit one is).numbers.blocks_differ)

  pub all_blocks_differ : IsDistinct eqb (block_objects (linked units).functions)
  all_blocks_differ =
      subst (λ all. IsDistinct eqb (block_objects all)) (sym (linked_functions units))
      (subst (IsDistinct eqb) (sym (blocks_are 0 units))
      (subst (IsDistinct eqb) (itself (from_each blocks_of 0 units))
      (units_differ (λ n. n) blocks_of HasPlace units blocks_at blocks_within
      (λ first second x y one other same. one_place first second x y one other same))))

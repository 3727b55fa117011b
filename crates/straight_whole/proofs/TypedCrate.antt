-- The crate that is written for a straight program is well typed.
use Rattle.std.proofs.Common.{◌≡◌, ℕ, Bool, true, false, cond, not, List, [], ◌∷◌, ◌++◌, map, length, Option, Some, None, codes, bytes_eq, refl, sym, ap, subst, ◌∙◌, rules, arith, append_assoc, append-nil, is_some}
use Rattle.std.specs.Prelude.{All, IsSome, IfSome}
use Rattle.std.specs.List.{IsDistinct, AllByRecursion, list_any, list_all, filter, flat_map}
use Rattle.std.proofs.lemmas.List.Elements.{All-head, All-tail, All-filter, All-weaker, recursion_from_All}
use Rattle.straight_core.specs.Linked.{IsTypedOuter, IsTypedFunction, IsDefinitionOf, is_main, main_of, IsMainType}
use Rattle.straight_core.specs.Trees.{CTy, CTyForm, void, int, function, form_of_type, CStmt, stmt, block, expression, returns, CObject, COuter, CFun, CProgram}
use Rattle.straight_core.specs.Typing.{scalar_of, IsScalarType, IsTypedStmt}
use Rattle.straight_core.specs.Views.{stmts_of}
use Rattle.straight_mean.specs.State.{puts_in}
use Rattle.straight_lift.specs.Lifted.{Names, operand_expr, lift_of, lift_stmt, lift_stmts}
use Rattle.straight_rust_mean.specs.Typing.{Scope, stmts_typed, ends_with_value, names_typed, function_typed, outer_typed, item_typed, placed_in, WellTyped}
use Rattle.straight_rust_tree.specs.Names.{is_among, is_module_name}
use Rattle.straight_rust_tree.specs.Tree.{Ty, i32, Expr, Stmt, gives, stmts, FunctionTree, ItemTree, defined, ModuleTree, CrateTree}
use Rattle.straight_rust_tree.specs.Valid.{all_differ, item_names, valid_outer}
use Rattle.straight_whole.specs.Calls.{functions_of, called_by, calls_in_stmt}
use Rattle.straight_whole.specs.CrateOf.{names_of, static_of, outer_of, extern_of, local_of, main_of_body, store_of, initialiser_of, crate_of}
use Rattle.straight_whole.specs.Items.{name_or_empty}
use Rattle.straight_whole.specs.Named.{IsKept, AreNamesKept, module_names, IsApart, AreFresh}
use Rattle.straight_whole.specs.Straight.{GivesValue, IsStraightBody, IsStraight}
use Rattle.straight_whole.proofs.Lookups.{object_names, filtered}
use Rattle.straight_whole.proofs.TypedCount.{same_count}
use Rattle.straight_whole.proofs.TypedItems.{items_typed, names_are, distinct_filtered, declared_typed, declared_valid}
use Rattle.straight_whole.proofs.TypedLift.{and_true, all_append, IsStatement, AreKnown, body_lifted}
use Rattle.straight_whole.proofs.TypedNames.{DiffersFrom, split_all, AreApart, join_distinct, names_apart, none_among, among_none, differ_all}
use Rattle.straight_whole.proofs.TypedPuts.{stores_typed}
use Rattle.straight_whole.proofs.TypedScope.{object_place, all_found, temporary_is_place, function_is_callable}
use Rattle.straight_whole.proofs.ValidCrate.{stmts_valid, main_valid, initialiser_valid, crate_valid}

-- ---- the end of a body

-- statements end with a `return` of a value
record EndsWithValue (list : List Stmt) : Type 0 where
  pub before : List Stmt
  pub value : Expr
  pub is : list ≡ before ++ gives (Some value) ∷ []

behind : (xs ys : List Stmt) → EndsWithValue ys → EndsWithValue (xs ++ ys)
behind xs ys ends = record { before = xs ++ ends.before; value = ends.value; is = ap (λ list. xs ++ list) ends.is ∙ sym (append_assoc xs ends.before (gives (Some ends.value) ∷ [])) }

last_ends : (names : Names) (last : CStmt) (next : ℕ) → GivesValue last → EndsWithValue (lift_stmt names last next).stmts
last_ends names (stmt p objects (returns (Some value))) next is = record { before = (lift_of names value next).stmts; value = operand_expr names (lift_of names value next).value; is = refl }
last_ends names (stmt p objects (returns None)) next is = absurd is
last_ends names (stmt p objects (expression value)) next is = absurd is
last_ends names (stmt p objects (block list)) next is = absurd is

stmts_end : (names : Names) (firsts : List CStmt) (last : CStmt) (next : ℕ) → GivesValue last → EndsWithValue (lift_stmts names (stmts_of (firsts ++ last ∷ [])) next).stmts
stmts_end names [] last next is = record {
  before = (last_ends names last next is).before;
  value = (last_ends names last next is).value;
  is = append-nil (lift_stmt names last next).stmts ∙ (last_ends names last next is).is;
}
stmts_end names (first ∷ firsts) last next is =
    behind (lift_stmt names first next).stmts (lift_stmts names (stmts_of (firsts ++ last ∷ [])) (lift_stmt names first next).next).stmts
    (stmts_end names firsts last (lift_stmt names first next).next is)

value_at_end : (before : List Stmt) (value : Expr) → ends_with_value (stmts (before ++ gives (Some value) ∷ [])) ≡ true
value_at_end [] value = refl
value_at_end (one ∷ []) value = refl
value_at_end (one ∷ other ∷ others) value = value_at_end (other ∷ others) value

body_ends_with : (names : Names) (body : CStmt) → IsStraightBody body → ends_with_value (stmts (lift_stmt names body 0).stmts) ≡ true
body_ends_with names body straight =
    let ends = stmts_end names straight.firsts straight.last 0 straight.gives in
    ap (λ b. ends_with_value (stmts (lift_stmt names b 0).stmts)) straight.is
    ∙ ap (λ list. ends_with_value (stmts list)) ends.is ∙ value_at_end ends.before ends.value

-- ---- statements

statements_typed : (scope : Scope) (result : Option Ty) (list : List Stmt) → AllByRecursion (IsStatement scope result) list → stmts_typed scope result (stmts list) ≡ true
statements_typed scope result [] all = refl
statements_typed scope result (one ∷ others) all = and_true _ _ all.0.typed (statements_typed scope result others all.1)

-- ---- locals

local_names : (names : List (List ℕ)) → map (λ local. local.name) (map local_of names) ≡ names
local_names [] = refl
local_names (name ∷ names) = ap (λ rest. name ∷ rest) (local_names names)

no_local_among : (items : List (List ℕ)) (names : List (List ℕ)) → AllByRecursion (λ name. is_among items name ≡ false) names → not (list_any (λ local. is_among items local.name) (map local_of names)) ≡ true
no_local_among items [] all = refl
no_local_among items (name ∷ names) all = rw all.0 (no_local_among items names all.1)

-- ---- names

abbrev own_names : List (List ℕ)
own_names = codes "main_0" ∷ codes "run_static_initializers" ∷ []

own_differ : IsDistinct bytes_eq own_names
unfolding IsDistinct
own_differ = ((refl, tt), (tt, tt))

abbrev outer_names : List COuter → List (List ℕ)
outer_names outers = map (λ one. one.name) outers

-- a kept name is none of the two
kept_differs : (name : List ℕ) → IsKept name → DiffersFrom own_names name
kept_differs name kept = (kept.not_entry, (kept.not_initialiser, tt))

outers_differ : (outers : List COuter) → All (λ one. IsKept one.name) outers → AllByRecursion (DiffersFrom own_names) (outer_names outers)
outers_differ [] kept = tt
outers_differ (one ∷ others) kept =
    (kept_differs one.name (All-head (λ (o : COuter). IsKept o.name) one others kept), outers_differ others (All-tail (λ (o : COuter). IsKept o.name) one others kept))

-- names of objects differ from those of external functions that pass a test, and from the two
objects_differ : (test : COuter → Bool) (outers : List COuter) (objects : List CObject) → All (λ one. IsKept (name_or_empty one.name)) objects → AllByRecursion (DiffersFrom (outer_names outers)) (object_names objects) →
    AllByRecursion (DiffersFrom (outer_names (filter test outers) ++ own_names)) (object_names objects)
objects_differ test outers [] kept differ = tt
objects_differ test outers (one ∷ others) kept differ = (
  all_append (λ other. bytes_eq (name_or_empty one.name) other ≡ false) (outer_names (filter test outers)) own_names
      (filtered (λ other. bytes_eq (name_or_empty one.name) other ≡ false) (λ (o : COuter). o.name) test outers differ.0)
      (kept_differs (name_or_empty one.name) (All-head (λ (o : CObject). IsKept (name_or_empty o.name)) one others kept)),
  objects_differ test outers others (All-tail (λ (o : CObject). IsKept (name_or_empty o.name)) one others kept) differ.1,
)

-- the names of a module differ
module_differs : (test : COuter → Bool) (objects : List CObject) (outers : List COuter) → All (λ one. IsKept (name_or_empty one.name)) objects → All (λ one. IsKept one.name) outers →
    AreApart (object_names objects) (outer_names outers) → IsDistinct bytes_eq (object_names objects ++ (outer_names (filter test outers) ++ own_names))
module_differs test objects outers objects_kept outers_kept apart =
    join_distinct (object_names objects) (outer_names (filter test outers) ++ own_names) (record {
      first = apart.first;
      second = join_distinct (outer_names (filter test outers)) own_names (record {
        first = distinct_filtered test outers apart.second;
        second = own_differ;
        between = outers_differ (filter test outers) (All-filter test (λ (o : COuter). IsKept o.name) outers outers_kept);
      });
      between = objects_differ test outers objects objects_kept apart.between;
    })

-- a name that is none of all names is none of those that pass a test
still_apart : (test : COuter → Bool) (objects : List (List ℕ)) (outers : List COuter) (name : List ℕ) → IsApart (objects ++ (outer_names outers ++ own_names)) name →
    is_among (objects ++ (outer_names (filter test outers) ++ own_names)) name ≡ false
still_apart test objects outers name apart =
    let parts = split_all (λ other. bytes_eq other name ≡ false) objects (outer_names outers ++ own_names) (among_none (objects ++ (outer_names outers ++ own_names)) name apart) in
    let more = split_all (λ other. bytes_eq other name ≡ false) (outer_names outers) own_names parts.1 in
    none_among (objects ++ (outer_names (filter test outers) ++ own_names)) name
    (all_append (λ other. bytes_eq other name ≡ false) objects (outer_names (filter test outers) ++ own_names) parts.0
    (all_append (λ other. bytes_eq other name ≡ false) (outer_names (filter test outers)) own_names
    (filtered (λ other. bytes_eq other name ≡ false) (λ (o : COuter). o.name) test outers more.0) more.1))

-- ---- items

outers_typed : (outers : List COuter) → All (λ one. IsKept one.name) outers → All IsTypedOuter outers → list_all outer_typed (map outer_of outers) ≡ true
outers_typed [] kept typed = refl
outers_typed (one ∷ others) kept typed =
    and_true _ _ (declared_typed one.name (form_of_type one.type) (All-head (λ (o : COuter). IsKept o.name) one others kept).identifier (All-head IsTypedOuter one others typed).unknown)
    (outers_typed others (All-tail (λ (o : COuter). IsKept o.name) one others kept) (All-tail IsTypedOuter one others typed))

outers_valid : (outers : List COuter) → All (λ one. IsKept one.name) outers → list_all valid_outer (map outer_of outers) ≡ true
outers_valid [] kept = refl
outers_valid (one ∷ others) kept =
    and_true _ _ (declared_valid one.name (form_of_type one.type) (All-head (λ (o : COuter). IsKept o.name) one others kept).identifier)
    (outers_valid others (All-tail (λ (o : COuter). IsKept o.name) one others kept))

statics_typed : (whole : CrateTree) (unit : ModuleTree) (objects : List CObject) → AllByRecursion (λ item. item_typed whole unit item ≡ true) (map static_of objects)
statics_typed whole unit [] = tt
statics_typed whole unit (one ∷ others) = (refl, statics_typed whole unit others)

functions_typed : (whole : CrateTree) (unit : ModuleTree) (outers : List COuter) (main init : FunctionTree) → list_all outer_typed (map outer_of outers) ≡ true →
    function_typed whole unit main ≡ true → function_typed whole unit init ≡ true → AllByRecursion (λ item. item_typed whole unit item ≡ true) (extern_of outers ++ defined main ∷ defined init ∷ [])
functions_typed whole unit [] main init all one other = (one, (other, tt))
functions_typed whole unit (first ∷ others) main init all one other = (all, (one, (other, tt)))

-- ---- the body of `main`

pub record HasTypedBody (program : CProgram) (main : CFun) : Type 0 where
  pub result : CTy
  pub scalar : IsScalarType result
  pub typed : IsTypedStmt program result main.body

typed_body_of : (program : CProgram) (main : CFun) (form : CTyForm) → IsMainType form → IsDefinitionOf program main form → HasTypedBody program main
typed_body_of program main (function result params variadic) is typed = record { result = result; scalar = ap (λ f. is_some (scalar_of f)) is.0; typed = typed.4 }
typed_body_of program main void is typed = absurd is
typed_body_of program main int is typed = absurd is

main_has_type : (main : CFun) (test : Bool) → IsSome (cond test (Some main) None) → IfSome (cond test (Some main) None) (λ one. IsMainType (form_of_type one.type)) → IsMainType (form_of_type main.type)
main_has_type main true some is = is
main_has_type main false some is = absurd (search (rules, some))

pub typed_body : (program : CProgram) (straight : IsStraight program) → HasTypedBody program straight.main
typed_body program straight =
    typed_body_of program straight.main (form_of_type straight.main.type)
    (main_has_type straight.main (is_main straight.main)
    (subst (λ list. IsSome (main_of list)) straight.functions straight.linked.main_defined)
    (subst (λ list. IfSome (main_of list) (λ one. IsMainType (form_of_type one.type))) straight.functions straight.linked.main_typed))
    (All-head (IsTypedFunction program) straight.main [] (subst (All (IsTypedFunction program)) straight.functions straight.linked.functions))

-- ---- the crate

module _ (program : CProgram) (straight : IsStraight program) (home : List ℕ) (temporaries : List (List ℕ)) (is_home : is_module_name home ≡ true) (kept : AreNamesKept program) (fresh : AreFresh program straight.main.body temporaries) where
  abbrev written : CrateTree
  written = crate_of program straight.main.body home temporaries

  abbrev names : Names
  names = names_of program home temporaries

  abbrev scope : Scope
  scope = record { whole = written; locals = map local_of temporaries }

  abbrev main_function : FunctionTree
  main_function = main_of_body program straight.main.body home temporaries

  abbrev initialiser : FunctionTree
  initialiser = initialiser_of program home

  abbrev items : List ItemTree
  items = map static_of program.objects ++ (extern_of (called_by program 0) ++ defined main_function ∷ defined initialiser ∷ [])

  abbrev unit : ModuleTree
  unit = record { name = home; items = items }

  -- whether a function is called, and the names of the module's items
  abbrev is_called : COuter → Bool
  is_called outer = list_any (λ one. calls_in_stmt outer.function one.body) (functions_of program 0)

  abbrev module_items : List (List ℕ)
  module_items = object_names program.objects ++ (outer_names (filter is_called program.externals) ++ own_names)

  known : AreKnown program names scope (length temporaries)
  known = record {
    externals = straight.linked.externals;
    home = is_home;
    objects = object_place program straight.main.body home temporaries (map local_of temporaries) is_home kept.objects;
    temporaries = temporary_is_place written temporaries fresh.identifiers;
  }

  many : (lift_stmt names straight.main.body 0).next ≡ length temporaries
  many = same_count names (record { home = []; objects = λ n. []; functions = λ n. []; temporaries = λ n. [] }) straight.main.body ∙ sym fresh.many

  main_statements : AllByRecursion (IsStatement scope (Some i32)) (lift_stmt names straight.main.body 0).stmts
  main_statements =
      let body = typed_body program straight in
      body_lifted program names scope (length temporaries) known body.result straight.main.body body.scalar body.typed
      (λ number one calls found. function_is_callable program straight home temporaries (map local_of temporaries) kept.externals number one calls found)
      (omega (arith, many))

  initialiser_statements : AllByRecursion (IsStatement (record { whole = written; locals = [] }) None) (map (store_of program home) (puts_in program.objects))
  initialiser_statements =
      stores_typed program (names_of program home []) (record { whole = written; locals = [] })
      (object_place program straight.main.body home temporaries [] is_home kept.objects) program.objects straight.linked.objects (all_found program.objects)

  -- the names of the items
  item_names_are : flat_map item_names items ≡ object_names program.objects ++ (outer_names (called_by program 0) ++ own_names)
  item_names_are = names_are program.objects (called_by program 0) main_function initialiser

  names_differ : IsDistinct bytes_eq (flat_map item_names items)
  names_differ = subst (IsDistinct bytes_eq) (sym item_names_are)
      (module_differs is_called program.objects program.externals kept.objects kept.externals
      (names_apart program straight))

  locals_apart : AllByRecursion (λ name. is_among (flat_map item_names items) name ≡ false) temporaries
  locals_apart = subst (λ list. AllByRecursion (λ name. is_among list name ≡ false) temporaries) (sym item_names_are)
      (recursion_from_All (λ name. is_among module_items name ≡ false) temporaries
      (All-weaker (IsApart (module_names program)) (λ name. is_among module_items name ≡ false)
      (λ name apart. still_apart is_called (object_names program.objects) program.externals name apart) temporaries fresh.apart))

  -- the functions
  main_is_typed : function_typed written unit main_function ≡ true
  main_is_typed =
      let differ : all_differ (map (λ local. local.name) (map local_of temporaries)) ≡ true = ap all_differ (local_names temporaries) ∙ differ_all temporaries fresh.differ in
      let locals : names_typed unit (map local_of temporaries) ≡ true = and_true _ _ differ (no_local_among (flat_map item_names items) temporaries locals_apart) in
      and_true _ _ (and_true _ _ (and_true _ _ refl locals) (statements_typed scope (Some i32) (lift_stmt names straight.main.body 0).stmts main_statements))
      (body_ends_with names straight.main.body straight.body)

  initialiser_is_typed : function_typed written unit initialiser ≡ true
  initialiser_is_typed =
      and_true _ _ (and_true _ _ refl (statements_typed (record { whole = written; locals = [] }) None (map (store_of program home) (puts_in program.objects)) initialiser_statements)) refl

  called_kept : All (λ one. IsKept one.name) (called_by program 0)
  called_kept = All-filter is_called (λ (o : COuter). IsKept o.name) program.externals kept.externals

  items_are_typed : AllByRecursion (λ item. item_typed written unit item ≡ true) items
  items_are_typed =
      all_append (λ item. item_typed written unit item ≡ true) (map static_of program.objects) (extern_of (called_by program 0) ++ defined main_function ∷ defined initialiser ∷ [])
      (statics_typed written unit program.objects)
      (functions_typed written unit (called_by program 0) main_function initialiser
      (outers_typed (called_by program 0) called_kept (All-filter is_called IsTypedOuter program.externals straight.linked.externals)) main_is_typed initialiser_is_typed)

  none_new : (list : List (List ℕ)) → AllByRecursion (λ name. is_among [] name ≡ false) list
  none_new [] = tt
  none_new (name ∷ others) = (refl, none_new others)

  written_is_typed : WellTyped written
  written_is_typed = record {
    valid = crate_valid program straight.main.body home temporaries is_home kept.objects
        (outers_valid (called_by program 0) called_kept)
        (main_valid program straight.main.body home temporaries fresh.identifiers (stmts_valid scope (Some i32) (lift_stmt names straight.main.body 0).stmts main_statements))
        (initialiser_valid program home (stmts_valid (record { whole = written; locals = [] }) None (map (store_of program home) (puts_in program.objects)) initialiser_statements));
    typed = ap (λ found. placed_in 0 found None) (items_typed written unit [] 0 items names_differ (none_new (flat_map item_names items)) items_are_typed);
  }

-- the crate that is written for a straight program is well typed
pub well_typed : (program : CProgram) (straight : IsStraight program) (home : List ℕ) (temporaries : List (List ℕ)) → is_module_name home ≡ true → AreNamesKept program → AreFresh program straight.main.body temporaries →
    WellTyped (crate_of program straight.main.body home temporaries)
well_typed program straight home temporaries is_home kept fresh = written_is_typed program straight home temporaries is_home kept fresh

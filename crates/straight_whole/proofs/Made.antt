-- The crate that is made is the crate of its program.
use Rattle.std.proofs.Common.{◌≡◌, ℕ, zero, suc, Bool, true, false, cond, ◌==◌, ◌||◌, ◌&&◌, not, List, [], ◌∷◌, ◌++◌, map, get_or, Option, Some, None, bytes_eq, refl, sym, ap, subst, ◌∙◌, append_assoc}
use Rattle.std.proofs.Math.Path.{fun_ext}
use Rattle.std.specs.List.{filter, slice_get, list_all, list_any, IsDistinct, AllByRecursion}
use Rattle.std.proofs.lemmas.List.Elements.{All-from_recursion}
use Rattle.straight_core.specs.declared.program.CoreObject.{CoreObject}
use Rattle.straight_core.specs.declared.program.Fun.{Fun}
use Rattle.straight_core.specs.declared.program.Outer.{Outer}
use Rattle.straight_core.specs.declared.program.Parts.{Parts}
use Rattle.straight_core.specs.Trees.{CStmt, CPut, put, CObject, CFun, COuter, CProgram}
use Rattle.straight_core.specs.Typing.{object_with, outer_with}
use Rattle.straight_core.specs.Views.{view_object, view_outer, view_function, view_stmt, view_program}
use Rattle.straight_mean.specs.State.{StaticPut, puts_in}
use Rattle.straight_lift.specs.Coded.{known_name, nth_name, names_of as table_names}
use Rattle.straight_lift.specs.declared.names.NameTable.{NameTable}
use Rattle.straight_lift.specs.Lifted.{Names}
use Rattle.straight_rust_tree.specs.declared.tree.Function.{Function as RustFunction}
use Rattle.straight_rust_tree.specs.declared.tree.Item.{Item}
use Rattle.straight_rust_tree.specs.declared.tree.Item.TheVariants.{Function}
use Rattle.straight_rust_tree.specs.declared.tree.Module.{Module}
use Rattle.straight_rust_tree.specs.declared.tree.Outer.{Outer as RustOuter}
use Rattle.straight_rust_tree.specs.Names.{is_plain_identifier, is_raw_identifier, is_identifier, is_among}
use Rattle.straight_rust_tree.specs.Valid.{all_differ}
use Rattle.straight_rust_tree.specs.Tree.{Stmt, stmts, defined}
use Rattle.straight_rust_tree.specs.View.{item_view, outer_view, function_view, crate_view}
use Rattle.straight_whole.specs.Calls.{calls_in_stmt, called_by, functions_of}
use Rattle.straight_whole.specs.Coded.{known_object, known_outer, AreNames, IsTableOf, stores_of, main_with, initialiser_with, extern_block, module_items}
use Rattle.straight_whole.specs.CrateOf.{names_of, name_of_object, name_of_outer, static_of, outer_of, extern_of, store_in, temporaries_of, main_of_body, initialiser_of}
use Rattle.straight_whole.specs.Named.{IsApart, AreFresh, module_names}
use Rattle.straight_whole.specs.Right.{IsTranslatable, IsRight}
use Rattle.straight_whole.specs.Straight.{IsStraight}
use Rattle.straight_whole.proofs.Rights.{right_for}
use Rattle.straight_whole.proofs.TypedLift.{or_left}
use Rattle.straight_whole.proofs.TypedNames.{among_none, turned_back}

-- ---- names

object_known : (objects : List CoreObject) (number : ℕ) → known_name (map known_object objects) number ≡ name_of_object (object_with number (map view_object objects))
object_known [] number = refl
object_known (one ∷ others) number = by_test (one.object == number) (object_known others number)
  where
    by_test : (test : Bool) → known_name (map known_object others) number ≡ name_of_object (object_with number (map view_object others)) →
        cond test (known_object one).name (known_name (map known_object others) number) ≡ name_of_object (cond test (Some (view_object one)) (object_with number (map view_object others)))
    by_test true rest = refl
    by_test false rest = rest

outer_known : (externals : List Outer) (number : ℕ) → known_name (map known_outer externals) number ≡ name_of_outer (outer_with number (map view_outer externals))
outer_known [] number = refl
outer_known (one ∷ others) number = by_test (one.function == number) (outer_known others number)
  where
    by_test : (test : Bool) → known_name (map known_outer others) number ≡ name_of_outer (outer_with number (map view_outer others)) →
        cond test one.name (known_name (map known_outer others) number) ≡ name_of_outer (cond test (Some (view_outer one)) (outer_with number (map view_outer others)))
    by_test true rest = refl
    by_test false rest = rest

nth_is : (names : List (List ℕ)) (number : ℕ) → nth_name names number ≡ get_or names number []
nth_is [] number = refl
nth_is (first ∷ others) zero = refl
nth_is (first ∷ others) (suc number) = nth_is others number

names_are : (program : Parts) (home : List ℕ) (body : CStmt) (table : NameTable) → IsTableOf program home body table → table_names table ≡ names_of (view_program program) home table.temporaries
names_are program home body table is =
    ap (λ it. record { home = it; objects = known_name table.objects; functions = known_name table.functions; temporaries = nth_name table.temporaries }) is.home_is
    ∙ ap (λ it. record { home = home; objects = it; functions = known_name table.functions; temporaries = nth_name table.temporaries }) (ap known_name is.objects ∙ fun_ext (object_known program.objects))
    ∙ ap (λ it. record { home = home; objects = λ number. name_of_object (object_with number (map view_object program.objects)); functions = it; temporaries = nth_name table.temporaries }) (ap known_name is.functions ∙ fun_ext (outer_known program.externals))
    ∙ ap (λ it. record { home = home; objects = λ number. name_of_object (object_with number (map view_object program.objects)); functions = λ number. name_of_outer (outer_with number (map view_outer program.externals)); temporaries = it }) (fun_ext (nth_is table.temporaries))

-- ---- temporaries

and_parts : (a b : Bool) → (a && b) ≡ true → (a ≡ true) × (b ≡ true)
and_parts true true e = (refl, refl)
and_parts true false e = cc
and_parts false b e = cc

not_true : (b : Bool) → not b ≡ true → b ≡ false
not_true false e = refl
not_true true e = cc

all_plain : (names : List (List ℕ)) → list_all is_plain_identifier names ≡ true → AllByRecursion (λ name. is_identifier name ≡ true) names
all_plain [] all = tt
all_plain (first ∷ others) all =
    let parts = and_parts (is_plain_identifier first) (list_all is_plain_identifier others) all in
    (or_left (is_plain_identifier first) (is_raw_identifier first) parts.0, all_plain others parts.1)

all_apart : (taken names : List (List ℕ)) → list_all (λ name. not (is_among taken name)) names ≡ true → AllByRecursion (IsApart taken) names
all_apart taken [] all = tt
all_apart taken (first ∷ others) all =
    let parts = and_parts (not (is_among taken first)) (list_all (λ name. not (is_among taken name)) others) all in
    (not_true (is_among taken first) parts.0, all_apart taken others parts.1)

all_distinct : (names : List (List ℕ)) → all_differ names ≡ true → IsDistinct bytes_eq names
unfolding IsDistinct
all_distinct [] all = tt
all_distinct (first ∷ others) all =
    let parts = and_parts (not (is_among others first)) (all_differ others) all in
    (turned_back others first (among_none others first (not_true (is_among others first) parts.0)), all_distinct others parts.1)

are_fresh : (program : CProgram) (body : CStmt) (names : List (List ℕ)) → AreNames (module_names program) (temporaries_of body) names → AreFresh program body names
are_fresh program body names are = record {
  many = are.many;
  identifiers = All-from_recursion (λ name. is_identifier name ≡ true) names (all_plain names are.apart.identifiers);
  differ = all_distinct names are.apart.differ;
  apart = All-from_recursion (IsApart (module_names program)) names (all_apart (module_names program) names are.apart.apart);
}

-- ---- items

extern_is : (outers : List COuter) → extern_block (map outer_of outers) ≡ extern_of outers
extern_is [] = refl
extern_is (first ∷ others) = refl

-- the one function calls what its body calls
called_is : (program : CProgram) (straight : IsStraight program) → filter (λ one. calls_in_stmt one.function straight.main.body) program.externals ≡ called_by program 0
called_is program straight = ap (λ test. filter test program.externals) (fun_ext (λ one. or_false (calls_in_stmt one.function straight.main.body) ∙ sym (only_main one)))
  where
    or_false : (b : Bool) → b ≡ (b || false)
    or_false true = refl
    or_false false = refl

    only_main : (one : COuter) → list_any (λ f. calls_in_stmt one.function f.body) (functions_of program 0) ≡ (calls_in_stmt one.function straight.main.body || false)
    only_main one =
        ap (λ list. list_any (λ (f : CFun). calls_in_stmt one.function f.body) (filter (λ (f : CFun). f.unit == 0) list)) straight.functions
        ∙ ap (λ unit. list_any (λ (f : CFun). calls_in_stmt one.function f.body) (cond (unit == 0) (straight.main ∷ []) [])) straight.unit

store_same : (names other : Names) (number : ℕ) (one : CPut) → names.home ≡ other.home → names.objects ≡ other.objects → store_in names number one ≡ store_in other number one
store_same names other number (put spot type value) home objects = ap (λ h. store_in (record names { home = h }) number (put spot type value)) home ∙ ap (λ o. store_in (record names { home = other.home; objects = o }) number (put spot type value)) objects

stores_are : (names other : Names) (objects : List CObject) → names.home ≡ other.home → names.objects ≡ other.objects → stores_of names objects ≡ map (λ one. store_in other one.object one.stored) (puts_in objects)
stores_are names other [] home same = refl
stores_are names other (one ∷ others) home same = by_puts one.puts refl (stores_are names other others home same)
  where
    put_stores : (puts : List CPut) (rest : List StaticPut) (stores : List Stmt) → stores ≡ map (λ one. store_in other one.object one.stored) rest →
        map (store_in names one.object) puts ++ stores ≡ map (λ one. store_in other one.object one.stored) (map (λ stored. record { object = one.object; stored = stored }) puts ++ rest)
    put_stores [] rest stores e = e
    put_stores (first ∷ more) rest stores e =
        ap (λ s. s ∷ (map (store_in names one.object) more ++ stores)) (store_same names other one.object first home same) ∙ ap (λ list. store_in other one.object first ∷ list) (put_stores more rest stores e)

    by_puts : (puts : Option (List CPut)) → one.puts ≡ puts → stores_of names others ≡ map (λ one. store_in other one.object one.stored) (puts_in others) →
        stores_of names (one ∷ others) ≡ map (λ one. store_in other one.object one.stored) (puts_in (one ∷ others))
    by_puts None e rest = rw e rest
    by_puts (Some puts) e rest = rw e (put_stores puts (puts_in others) (stores_of names others) rest)

initialiser_is : (program : CProgram) (home : List ℕ) (temporaries : List (List ℕ)) → initialiser_with (names_of program home temporaries) program.objects ≡ initialiser_of program home
initialiser_is program home temporaries = ap (λ list. record (initialiser_of program home) { body = stmts list }) (stores_are (names_of program home temporaries) (names_of program home []) program.objects refl refl)

-- ---- the crate

items_are : (program : CProgram) (straight : IsStraight program) (home : List ℕ) (temporaries : List (List ℕ)) →
    module_items program (names_of program home temporaries) temporaries straight.main.body
    ≡ map static_of program.objects ++ (extern_of (called_by program 0) ++ defined (main_of_body program straight.main.body home temporaries) ∷ defined (initialiser_of program home) ∷ [])
items_are program straight home temporaries =
    let names = names_of program home temporaries in
    let outers = filter (λ one. calls_in_stmt one.function straight.main.body) program.externals in
    let main = defined (main_of_body program straight.main.body home temporaries) in
    append_assoc (map static_of program.objects ++ extern_block (map outer_of outers)) (main ∷ []) (defined (initialiser_with names program.objects) ∷ [])
    ∙ append_assoc (map static_of program.objects) (extern_block (map outer_of outers)) (main ∷ defined (initialiser_with names program.objects) ∷ [])
    ∙ ap (λ block. map static_of program.objects ++ (block ++ main ∷ defined (initialiser_with names program.objects) ∷ [])) (extern_is outers ∙ ap extern_of (called_is program straight))
    ∙ ap (λ init. map static_of program.objects ++ (extern_of (called_by program 0) ++ main ∷ defined init ∷ [])) (initialiser_is program home temporaries)

pub crate_is : (program : Parts) (home : List ℕ) (is : IsTranslatable (view_program program) home) (body : CStmt) (table : NameTable) (items : List Item) →
    body ≡ is.straight.main.body → IsTableOf program home body table → map item_view items ≡ module_items (view_program program) (table_names table) table.temporaries body →
    IsRight (view_program program) (home ∷ []) (crate_view (record { modules = record { name = home; items = items } ∷ []; entry = 0 }))
crate_is program home is body table items same named made =
    let straight = is.straight in
    let fresh = are_fresh (view_program program) straight.main.body table.temporaries (subst (λ b. AreNames (module_names (view_program program)) (temporaries_of b) table.temporaries) same named.temporaries) in
    let written : map item_view items ≡ map static_of (view_program program).objects ++ (extern_of (called_by (view_program program) 0) ++ defined (main_of_body (view_program program) straight.main.body home table.temporaries) ∷ defined (initialiser_of (view_program program) home) ∷ []) =
    made ∙ ap (λ names. module_items (view_program program) names table.temporaries body) (names_are program home body table named)
    ∙ ap (λ b. module_items (view_program program) (names_of (view_program program) home table.temporaries) table.temporaries b) same
    ∙ items_are (view_program program) straight home table.temporaries in
    subst (λ list. IsRight (view_program program) (home ∷ []) (record { modules = record { name = home; items = list } ∷ []; entry = 0 })) (sym written) (right_for (view_program program) home table.temporaries is fresh)

-- ---- items, as they are put together

map_append : {A B : Type 0} (f : A → B) (xs ys : List A) → map f (xs ++ ys) ≡ map f xs ++ map f ys
map_append f [] ys = refl
map_append f (x ∷ xs) ys = ap (λ list. f x ∷ list) (map_append f xs ys)

pub items_made : (program : Parts) (externals : List Outer) (names : NameTable) (body : CStmt) (statics blocks both one made : List Item) (outers : List RustOuter) (main init : RustFunction) →
    externals ≡ program.externals → map item_view statics ≡ map static_of (map view_object program.objects) → map outer_view outers ≡ map outer_of (filter (λ one. calls_in_stmt one.function body) (map view_outer externals)) →
    map item_view blocks ≡ extern_block (map outer_view outers) → both ≡ statics ++ blocks → function_view main ≡ main_with (table_names names) names.temporaries body → one ≡ both ++ Function main ∷ [] →
    function_view init ≡ initialiser_with (table_names names) (map view_object program.objects) → made ≡ one ++ Function init ∷ [] →
    map item_view made ≡ module_items (view_program program) (table_names names) names.temporaries body
items_made program externals names body statics blocks both one made outers main init all e f g h i j k l =
    ap (map item_view) l ∙ map_append item_view one (Function init ∷ []) ∙ ap (λ fun. map item_view one ++ defined fun ∷ []) k
    ∙ ap (λ list. list ++ defined (initialiser_with (table_names names) (map view_object program.objects)) ∷ [])
    (ap (map item_view) j ∙ map_append item_view both (Function main ∷ []) ∙ ap (λ fun. map item_view both ++ defined fun ∷ []) i
    ∙ ap (λ list. list ++ defined (main_with (table_names names) names.temporaries body) ∷ [])
    (ap (map item_view) h ∙ map_append item_view statics blocks ∙ ap (λ list. list ++ map item_view blocks) e
    ∙ ap (λ list. map static_of (map view_object program.objects) ++ list) (g ∙ ap extern_block (f ∙ ap (λ list. map outer_of (filter (λ one. calls_in_stmt one.function body) (map view_outer list))) all))))

-- the first function is the one that the program has
first_is : (program : CProgram) (straight : IsStraight program) (functions : List Fun) (main : Fun) → map view_function functions ≡ program.functions → slice_get functions 0 ≡ Some main → view_stmt main.body ≡ straight.main.body
first_is program straight [] main e f = cc
first_is program straight (first ∷ others) main e f =
    ap (λ (fun : Fun). view_stmt fun.body) (sym (same first main f)) ∙ ap (λ (fun : CFun). fun.body) (head_is (view_function first) straight.main (map view_function others) (e ∙ straight.functions))
  where
    same : (a b : Fun) → Some a ≡ Some b → a ≡ b
    same a b g = cc

    head_is : (a b : CFun) (rest : List CFun) → a ∷ rest ≡ b ∷ [] → a ≡ b
    head_is a b rest g = cc

pub crate_made : (program : Parts) (home copy : List ℕ) (is : IsTranslatable (view_program program) home) (functions : List Fun) (main : Fun) (table : NameTable) (items : List Item) (modules : List Module) →
    functions ≡ program.functions → slice_get functions 0 ≡ Some main → copy ≡ home → IsTableOf program copy (view_stmt main.body) table →
    map item_view items ≡ module_items (view_program program) (table_names table) table.temporaries (view_stmt main.body) → modules ≡ record { name = home; items = items } ∷ [] →
    IsRight (view_program program) (home ∷ []) (crate_view (record { modules = modules; entry = 0 }))
crate_made program home copy is functions main table items modules all first same named made whole =
    subst (λ list. IsRight (view_program program) (home ∷ []) (crate_view (record { modules = list; entry = 0 }))) (sym whole)
    (crate_is program home is (view_stmt main.body) table items (first_is (view_program program) is.straight functions main (ap (map view_function) all) first)
    (subst (λ name. IsTableOf program name (view_stmt main.body) table) same named) made)

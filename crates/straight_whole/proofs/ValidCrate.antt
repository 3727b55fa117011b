-- The written crate is one of the subset.
use Rattle.std.proofs.Common.{◌≡◌, ℕ, true, List, [], ◌∷◌, ◌++◌, map, Option, codes, bytes_eq, refl, ◌∙◌, lit<, lit≤}
use Rattle.std.specs.Prelude.{All}
use Rattle.std.specs.List.{AllByRecursion, list_any, list_all}
use Rattle.std.proofs.lemmas.List.Folds.{list_any-append, list_all-append}
use Rattle.std.proofs.lemmas.List.Elements.{All-head, All-tail}
use Rattle.straight_core.specs.Trees.{CStmt, CObject, COuter, CProgram}
use Rattle.straight_rust_mean.specs.Typing.{Scope}
use Rattle.straight_rust_tree.specs.Names.{keywords, path_words, is_identifier, is_module_name}
use Rattle.straight_rust_tree.specs.Tree.{Ty, Stmt, stmts, FunctionTree, ItemTree, extern, defined}
use Rattle.straight_rust_tree.specs.Valid.{valid_stmts, valid_local, valid_outer, valid_function, valid_item, are_in_order, ends_with_initialiser, is_entry, IsValid}
use Rattle.straight_whole.specs.Calls.{called_by}
use Rattle.straight_whole.specs.CrateOf.{static_of, outer_of, extern_of, local_of, main_of_body, initialiser_of, crate_of}
use Rattle.straight_whole.specs.Items.{name_or_empty}
use Rattle.straight_whole.specs.Named.{IsKept}
use Rattle.straight_whole.proofs.TypedLift.{and_true, or_right, IsStatement}

-- ---- functions

main_is_identifier : is_identifier (codes "main_0") ≡ true
unfolding keywords path_words
main_is_identifier = refl

initialiser_is_identifier : is_identifier (codes "run_static_initializers") ≡ true
unfolding keywords path_words
initialiser_is_identifier = refl

pub stmts_valid : (scope : Scope) (result : Option Ty) (list : List Stmt) → AllByRecursion (IsStatement scope result) list → valid_stmts (stmts list) ≡ true
stmts_valid scope result [] all = refl
stmts_valid scope result (one ∷ others) all = and_true _ _ all.0.valid (stmts_valid scope result others all.1)

locals_valid : (names : List (List ℕ)) → All (λ name. is_identifier name ≡ true) names → list_all valid_local (map local_of names) ≡ true
locals_valid [] all = refl
locals_valid (name ∷ names) all =
    and_true _ _ (All-head (λ n. is_identifier n ≡ true) name names all) (locals_valid names (All-tail (λ n. is_identifier n ≡ true) name names all))

pub main_valid : (program : CProgram) (body : CStmt) (home : List ℕ) (temporaries : List (List ℕ)) → All (λ name. is_identifier name ≡ true) temporaries →
    valid_stmts (main_of_body program body home temporaries).body ≡ true → valid_function (main_of_body program body home temporaries) ≡ true
main_valid program body home temporaries all valid = rw (main_is_identifier, locals_valid temporaries all, valid) refl

pub initialiser_valid : (program : CProgram) (home : List ℕ) → valid_stmts (initialiser_of program home).body ≡ true → valid_function (initialiser_of program home) ≡ true
initialiser_valid program home valid = rw (initialiser_is_identifier, valid) refl

-- ---- items

statics_valid : (objects : List CObject) → All (λ one. IsKept (name_or_empty one.name)) objects → list_all valid_item (map static_of objects) ≡ true
statics_valid [] kept = refl
statics_valid (one ∷ others) kept =
    and_true _ _ (All-head (λ (o : CObject). IsKept (name_or_empty o.name)) one others kept).identifier (statics_valid others (All-tail (λ (o : CObject). IsKept (name_or_empty o.name)) one others kept))

-- the block of external functions and the functions
functions_valid : (outers : List COuter) (main init : FunctionTree) → list_all valid_outer (map outer_of outers) ≡ true → valid_function main ≡ true → valid_function init ≡ true →
    list_all valid_item (extern_of outers ++ defined main ∷ defined init ∷ []) ≡ true
functions_valid [] main init all one other = rw (one, other) refl
functions_valid (first ∷ others) main init all one other = rw (all, one, other) refl

statics_in_order : (objects : List CObject) (rest : List ItemTree) → are_in_order (map static_of objects ++ rest) ≡ are_in_order rest
statics_in_order [] rest = refl
statics_in_order (one ∷ others) rest = statics_in_order others rest

functions_in_order : (outers : List COuter) (main init : FunctionTree) → are_in_order (extern_of outers ++ defined main ∷ defined init ∷ []) ≡ true
functions_in_order [] main init = refl
functions_in_order (first ∷ others) main init = refl

-- the last item of a list is that of its end
end_behind : (xs : List ItemTree) (item : ItemTree) (others : List ItemTree) → ends_with_initialiser (xs ++ item ∷ others) ≡ ends_with_initialiser (item ∷ others)
end_behind [] item others = refl
end_behind (x ∷ []) item others = refl
end_behind (x ∷ y ∷ xs) item others = end_behind (y ∷ xs) item others

functions_end : (objects : List CObject) (outers : List COuter) (main init : FunctionTree) →
    ends_with_initialiser (map static_of objects ++ (extern_of outers ++ defined main ∷ defined init ∷ [])) ≡ bytes_eq init.name (codes "run_static_initializers")
functions_end objects [] main init = end_behind (map static_of objects) (defined main) (defined init ∷ [])
functions_end objects (first ∷ others) main init = end_behind (map static_of objects) (extern (map outer_of (first ∷ others))) (defined main ∷ defined init ∷ [])

entry_behind : (outers : List COuter) (main init : FunctionTree) → bytes_eq main.name (codes "main_0") ≡ true → list_any is_entry (extern_of outers ++ defined main ∷ defined init ∷ []) ≡ true
entry_behind [] main init is = rw is refl
entry_behind (first ∷ others) main init is = rw is refl

-- ---- the crate

pub crate_valid : (program : CProgram) (body : CStmt) (home : List ℕ) (temporaries : List (List ℕ)) → is_module_name home ≡ true → All (λ one. IsKept (name_or_empty one.name)) program.objects →
    list_all valid_outer (map outer_of (called_by program 0)) ≡ true → valid_function (main_of_body program body home temporaries) ≡ true → valid_function (initialiser_of program home) ≡ true →
    IsValid (crate_of program body home temporaries)
crate_valid program body home temporaries is_home kept outers main init =
    let functions = extern_of (called_by program 0) ++ defined (main_of_body program body home temporaries) ∷ defined (initialiser_of program home) ∷ [] in
    let items = map static_of program.objects ++ functions in
    let all : list_all valid_item items ≡ true =
    list_all-append valid_item (map static_of program.objects) functions ∙ and_true _ _ (statics_valid program.objects kept)
    (functions_valid (called_by program 0) (main_of_body program body home temporaries) (initialiser_of program home) outers main init) in
    let order : are_in_order items ≡ true =
    statics_in_order program.objects functions ∙ functions_in_order (called_by program 0) (main_of_body program body home temporaries) (initialiser_of program home) in
    let ends : ends_with_initialiser items ≡ true = functions_end program.objects (called_by program 0) (main_of_body program body home temporaries) (initialiser_of program home) in
    let entry : list_any is_entry items ≡ true =
    list_any-append is_entry (map static_of program.objects) functions
    ∙ or_right (list_any is_entry (map static_of program.objects)) (list_any is_entry functions) (entry_behind (called_by program 0) (main_of_body program body home temporaries) (initialiser_of program home) refl) in
    record {
      modules = (lit< tt, lit≤ tt);
      names = refl;
      forms = and_true _ _ (and_true _ _ (and_true _ _ (and_true _ _ is_home all) order) ends) refl;
      entry = entry;
    }

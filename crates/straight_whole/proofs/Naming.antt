-- The tables of names hold what they are to hold.
use Rattle.std.proofs.Common.{◌≡◌, ℕ, List, [], ◌∷◌, ◌++◌, map, refl, ap, subst, ◌∙◌, codes, append_assoc}
use Rattle.straight_core.specs.declared.program.Outer.{Outer}
use Rattle.straight_core.specs.declared.program.Parts.{Parts}
use Rattle.straight_core.specs.Trees.{CStmt}
use Rattle.straight_core.specs.Views.{view_object, view_outer, view_program}
use Rattle.straight_lift.specs.Coded.{stmts_view}
use Rattle.straight_lift.specs.declared.names.Known.{Known}
use Rattle.straight_lift.specs.declared.written.WrittenStmts.{WrittenStmts}
use Rattle.straight_lift.specs.Lifted.{Names, LiftedStmts, lift_stmt}
use Rattle.straight_whole.specs.Coded.{known_object, known_outer, AreNames, IsTableOf}
use Rattle.straight_whole.specs.Items.{name_or_empty}
use Rattle.straight_whole.specs.Named.{module_names}
use Rattle.straight_whole.proofs.TypedCount.{same_count}

-- the names of external functions, on both sides
outer_names_are : (externals : List Outer) → map (λ one. one.name) externals ≡ map (λ one. one.name) (map view_outer externals)
outer_names_are [] = refl
outer_names_are (one ∷ others) = ap (λ names. one.name ∷ names) (outer_names_are others)

abbrev object_names_in : Parts → List (List ℕ)
object_names_in program = map (λ one. name_or_empty one.name) (map view_object program.objects)

pub taken_is : (program : Parts) (objects outers both one made : List (List ℕ)) (first last : List ℕ) →
    objects ≡ map (λ one. name_or_empty one.name) (map view_object program.objects) → outers ≡ map (λ one. one.name) program.externals → both ≡ objects ++ outers →
    one ≡ both ++ first ∷ [] → made ≡ one ++ last ∷ [] → first ≡ codes "main_0" → last ≡ codes "run_static_initializers" → made ≡ module_names (view_program program)
taken_is program objects outers both one made first last e f g h k main init =
    k ∙ ap (λ list. list ++ last ∷ []) (h ∙ ap (λ list. list ++ first ∷ []) (g ∙ ap (λ list. list ++ outers) e ∙ ap (λ list. object_names_in program ++ list) (f ∙ outer_names_are program.externals)))
    ∙ append_assoc (object_names_in program ++ map (λ one. one.name) (map view_outer program.externals)) (first ∷ []) (last ∷ [])
    ∙ append_assoc (object_names_in program) (map (λ one. one.name) (map view_outer program.externals)) (first ∷ last ∷ [])
    ∙ ap (λ name. object_names_in program ++ (map (λ one. one.name) (map view_outer program.externals) ++ name ∷ last ∷ [])) main
    ∙ ap (λ name. object_names_in program ++ (map (λ one. one.name) (map view_outer program.externals) ++ codes "main_0" ∷ name ∷ [])) init

-- the numbers of temporaries don't depend on names
counted : (written : WrittenStmts) (names : Names) (body : CStmt) → stmts_view written ≡ lift_stmt names body 0 → written.next ≡ (lift_stmt (record { home = []; objects = λ n. []; functions = λ n. []; temporaries = λ n. [] }) body 0).next
counted written names body e = ap (λ (lifted : LiftedStmts). lifted.next) e ∙ same_count names (record { home = []; objects = λ n. []; functions = λ n. []; temporaries = λ n. [] }) body

pub table_is : (program : Parts) (home : List ℕ) (body : CStmt) (names : Names) (written : WrittenStmts) (objects functions : List Known) (taken temporaries : List (List ℕ)) →
    objects ≡ map known_object program.objects → functions ≡ map known_outer program.externals → stmts_view written ≡ lift_stmt names body 0 → taken ≡ module_names (view_program program) → AreNames taken written.next temporaries →
    IsTableOf program home body (record { home = home; objects = objects; functions = functions; temporaries = temporaries })
table_is program home body names written objects functions taken temporaries e f g h are = record {
  home_is = refl;
  objects = e;
  functions = f;
  temporaries = subst (λ count. AreNames (module_names (view_program program)) count temporaries) (counted written names body g) (subst (λ list. AreNames list written.next temporaries) h are);
}

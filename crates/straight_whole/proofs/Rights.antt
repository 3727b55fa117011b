-- The written crate is a right translation.
use Rattle.std.proofs.Common.{◌≡◌, ℕ, Bool, true, false, cond, ◌==◌, ◌&&◌, List, [], ◌∷◌, ◌++◌, map, Some, None, codes, bytes_eq, refl, sym, ap, subst, ◌∙◌, rules}
use Rattle.std.specs.Prelude.{All, IsSome}
use Rattle.std.specs.List.{filter}
use Rattle.std.proofs.lemmas.List.Elements.{All-head, All-tail, All-weaker}
use Rattle.straight_core.specs.Linked.{main_of, is_main, is_external}
use Rattle.straight_core.specs.Trees.{CTyForm, void, int, function as fun, form_of_type, CObject, CFun, COuter, CProgram}
use Rattle.straight_mean.specs.State.{statics_in}
use Rattle.straight_mean.proofs.Statics.{statics_begin}
use Rattle.straight_rust_tree.specs.Tree.{ItemTree, defined, OuterTree}
use Rattle.straight_whole.specs.Calls.{called_by, functions_of}
use Rattle.straight_whole.specs.CrateOf.{static_of, declared_outer, outer_of, extern_of, main_of_body, initialiser_of, crate_of}
use Rattle.straight_whole.specs.Items.{object, externals, function, name_or_empty, function_name, objects_of, block_of, items_of, head_of, items_in}
use Rattle.straight_whole.specs.Named.{AreFresh}
use Rattle.straight_whole.specs.Right.{IsTranslatable, IsRight}
use Rattle.straight_whole.specs.Straight.{IsPlainObject, IsStraight}
use Rattle.straight_whole.proofs.Behaves.{behaves}
use Rattle.straight_whole.proofs.TypedCrate.{well_typed}

-- ---- the items

statics_heads : (objects : List CObject) (rest : List ItemTree) → map head_of (map static_of objects ++ rest) ≡ map (λ one. object (name_or_empty one.name)) objects ++ map head_of rest
statics_heads [] rest = refl
statics_heads (one ∷ others) rest = ap (λ heads. object (name_or_empty one.name) ∷ heads) (statics_heads others rest)

-- a function keeps its name
kept_name : (name : List ℕ) (form : CTyForm) → (declared_outer name form).name ≡ name
kept_name name void = refl
kept_name name int = refl
kept_name name (fun result params variadic) = refl

outer_names : (outers : List COuter) → map (λ one. one.name) (map outer_of outers) ≡ map (λ one. one.name) outers
outer_names [] = refl
outer_names (one ∷ others) = ap (λ name. name ∷ map (λ (o : OuterTree). o.name) (map outer_of others)) (kept_name one.name (form_of_type one.type)) ∙ ap (λ names. one.name ∷ names) (outer_names others)

extern_heads : (outers : List COuter) (rest : List ItemTree) → map head_of (extern_of outers ++ rest) ≡ block_of outers ++ map head_of rest
extern_heads [] rest = refl
extern_heads (first ∷ others) rest = ap (λ names. externals names ∷ map head_of rest) (outer_names (first ∷ others))

all_of_unit : (objects : List CObject) → All IsPlainObject objects → filter (λ one. one.unit == 0) objects ≡ objects
all_of_unit [] plain = refl
all_of_unit (one ∷ others) plain =
    ap (λ unit. cond (unit == 0) (one ∷ filter (λ (o : CObject). o.unit == 0) others) (filter (λ (o : CObject). o.unit == 0) others)) (All-head IsPlainObject one others plain).unit
    ∙ ap (λ list. one ∷ list) (all_of_unit others (All-tail IsPlainObject one others plain))

objects_are : (program : CProgram) → All IsPlainObject program.objects → objects_of program 0 ≡ program.objects
objects_are program plain =
    ap statics_in (all_of_unit program.objects plain)
    ∙ statics_begin.all_static program.objects (All-weaker IsPlainObject (λ (one : CObject). IsSome one.puts) (λ one is. is.defined) program.objects plain)

-- the one function is `main`
main_named : (main : CFun) → IsSome (cond (is_main main) (Some main) None) → bytes_eq main.name (codes "main") ≡ true
main_named main some = by_tests (bytes_eq main.name (codes "main")) (is_external main.linkage) some
  where
    by_tests : (named outside : Bool) → IsSome (cond (named && outside) (Some main) None) → named ≡ true
    by_tests true outside some = refl
    by_tests false outside some = absurd (search (rules, some))

functions_are : (program : CProgram) (straight : IsStraight program) → map (λ one. function (function_name one.name)) (functions_of program 0) ≡ function (codes "main_0") ∷ []
functions_are program straight =
    ap (λ list. map (λ (one : CFun). function (function_name one.name)) (filter (λ (one : CFun). one.unit == 0) list)) straight.functions
    ∙ ap (λ unit. map (λ (one : CFun). function (function_name one.name)) (cond (unit == 0) (straight.main ∷ []) [])) straight.unit
    ∙ ap (λ test. function (cond test (codes "main_0") straight.main.name) ∷ []) (main_named straight.main (subst (λ list. IsSome (main_of list)) straight.functions straight.linked.main_defined))

items_are : (program : CProgram) (straight : IsStraight program) (home : List ℕ) (temporaries : List (List ℕ)) → items_in (crate_of program straight.main.body home temporaries) ≡ items_of program (home ∷ [])
items_are program straight home temporaries =
    let rest = defined (main_of_body program straight.main.body home temporaries) ∷ defined (initialiser_of program home) ∷ [] in
    ap (λ heads. record { name = home; heads = heads } ∷ [])
    (statics_heads program.objects (extern_of (called_by program 0) ++ rest)
    ∙ ap (λ objects. map (λ (one : CObject). object (name_or_empty one.name)) objects ++ map head_of (extern_of (called_by program 0) ++ rest)) (sym (objects_are program straight.objects))
    ∙ ap (λ heads. map (λ (one : CObject). object (name_or_empty one.name)) (objects_of program 0) ++ heads) (extern_heads (called_by program 0) rest)
    ∙ ap (λ functions. map (λ (one : CObject). object (name_or_empty one.name)) (objects_of program 0) ++ (block_of (called_by program 0) ++ (functions ++ function (codes "run_static_initializers") ∷ []))) (sym (functions_are program straight)))

-- ---- the crate

pub right_for : (program : CProgram) (home : List ℕ) (temporaries : List (List ℕ)) (is : IsTranslatable program home) → AreFresh program is.straight.main.body temporaries →
    IsRight program (home ∷ []) (crate_of program is.straight.main.body home temporaries)
right_for program home temporaries is fresh = record {
  well_typed = well_typed program is.straight home temporaries is.named is.kept fresh;
  items = items_are program is.straight home temporaries;
  behaves = behaves program is.straight home temporaries is.kept fresh;
}

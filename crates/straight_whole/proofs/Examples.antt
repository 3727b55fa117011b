-- A worked example: a program is one that is translated today, and its crate has the items that it is to have.
use Rattle.std.proofs.Common.{◌≡◌, ℕ, pos, false, List, [], ◌∷◌, Some, codes, refl}
use Rattle.std.proofs.lemmas.List.Elements.{All-nil, All-cons}
use Rattle.straight_core.specs.Examples.{adds_answer, main_function, x_object, putchar_outer, at_line, number_at, read_at, two_at, set_at, putchar_at}
use Rattle.straight_core.specs.declared.program.Parts.{Parts}
use Rattle.straight_core.specs.Views.{view_program}
use Rattle.straight_core.specs.declared.expr.Op2.TheVariants.{Add, Subtract}
use Rattle.straight_core.specs.Linked.{IsLinked}
use Rattle.straight_core.specs.Trees.{ty, void, expr, convert, CStmt, stmt, expression, returns, CObject, COuter, CProgram}
use Rattle.straight_rust_tree.specs.Names.{keywords, path_words}
use Rattle.straight_rust_tree.specs.Tree.{i32, static_at, literal, assign, stmts}
use Rattle.straight_whole.specs.Calls.{called_by}
use Rattle.straight_whole.specs.CrateOf.{crate_of, initialiser_of}
use Rattle.straight_whole.specs.Items.{name_or_empty, object, externals, function, items_in, items_of}
use Rattle.straight_whole.specs.Named.{IsKept, AreNamesKept}
use Rattle.straight_whole.specs.Right.{IsTranslatable}
use Rattle.straight_whole.specs.Straight.{IsPlainObject, IsExpression}

-- `x = x + putchar(x + 5);`, and `return x - 125;`
abbrev assigns : CStmt
assigns = stmt (at_line 4) [] (expression (expr (ty void false) (at_line 4) (convert
    (set_at 4 (two_at 4 Add (read_at 4) (putchar_at 4 (two_at 4 Add (read_at 4) (number_at 4 (pos 5)))))))))

abbrev gives_back : CStmt
gives_back = stmt (at_line 5) [] (returns (Some (two_at 5 Subtract (read_at 5) (number_at 5 (pos 125)))))

kept : AreNamesKept adds_answer
unfolding keywords path_words
kept = record {
  objects = All-cons (λ (one : CObject). IsKept (name_or_empty one.name)) x_object [] (record { word = refl; identifier = refl; not_entry = refl; not_initialiser = refl }) (All-nil (λ (one : CObject). IsKept (name_or_empty one.name)));
  externals = All-cons (λ (one : COuter). IsKept one.name) putchar_outer [] (record { word = refl; identifier = refl; not_entry = refl; not_initialiser = refl }) (All-nil (λ (one : COuter). IsKept one.name));
}

pub translatable : IsLinked adds_answer → IsTranslatable adds_answer (codes "a")
unfolding keywords path_words
translatable linked = record {
  straight = record {
    linked = linked;
    objects = All-cons IsPlainObject x_object [] (record { unit = refl; linkage = refl; named = refl; defined = refl }) (All-nil IsPlainObject);
    main = main_function;
    functions = refl;
    unit = refl;
    body = record {
      place = at_line 3;
      firsts = assigns ∷ [];
      last = gives_back;
      is = refl;
      expressions = All-cons IsExpression assigns [] tt (All-nil IsExpression);
      gives = tt;
    };
  };
  kept = kept;
  named = refl;
}

-- parts that stand for the example
pub linked_as : (parts : Parts) → view_program parts ≡ adds_answer → IsLinked adds_answer → IsLinked (view_program parts)
linked_as parts same linked = rw same linked

pub translatable_as : (parts : Parts) → (name : List ℕ) → view_program parts ≡ adds_answer → name ≡ codes "a" →
    IsTranslatable adds_answer (codes "a") → IsTranslatable (view_program parts) name
translatable_as parts name same named right = rw (same, named) right

-- `main` calls `putchar`; another external function, which it doesn't call, isn't declared
calls_putchar : called_by adds_answer 0 ≡ putchar_outer ∷ []
calls_putchar = refl

abbrev uncalled : COuter
uncalled = record putchar_outer { function = 2; name = codes "getchar" }

abbrev with_uncalled : CProgram
with_uncalled = record adds_answer { externals = uncalled ∷ putchar_outer ∷ [] }

leaves_uncalled : called_by with_uncalled 0 ≡ putchar_outer ∷ []
leaves_uncalled = refl

-- the items: `x`, the block of `putchar`, `main_0`, and the initialiser, which stores 60 in `x`
abbrev temporaries : List (List ℕ)
temporaries = codes "t" ∷ codes "t_0" ∷ codes "t_1" ∷ codes "t_2" ∷ codes "t_3" ∷ codes "t_4" ∷ codes "t_5" ∷ []

has_items : items_in (crate_of adds_answer main_function.body (codes "a") temporaries) ≡ items_of adds_answer (codes "a" ∷ [])
has_items = refl

items_are : items_of adds_answer (codes "a" ∷ []) ≡ record {
  name = codes "a";
  heads = object (codes "x") ∷ externals (codes "putchar" ∷ []) ∷ function (codes "main_0") ∷ function (codes "run_static_initializers") ∷ [];
} ∷ []
items_are = refl

stores_sixty : (initialiser_of adds_answer (codes "a")).body ≡ stmts (assign (static_at (codes "a") (codes "x")) (literal (pos 60) i32) ∷ [])
stores_sixty = refl

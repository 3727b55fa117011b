-- What the initialiser of a module does.
use Rattle.std.proofs.Common.{◌≡◌, ◌∙◌, ℕ, ◌==◌, Bool, true, false, if◌then◌else◌, List, [], ◌∷◌, ◌++◌, flat_map, map, Option, Some, None, Result, Ok, Err, IfOk, refl, sym, ap}
use Rattle.cx_core.specs.Trees.{CPuts, CObject}
use Rattle.lift_exprs.specs.Names.{Names}
use Rattle.reloop.proofs.Sets.{same_number}
use Rattle.rs_text.specs.Tree.{Stmt, stmts}
use Rattle.rs_tree.specs.Views.{stmt_view}
use Rattle.rs_tree.specs.declared.stmt.RStmt.{RStmt}
use Rattle.whole_bodies.specs.Bodies.{stored_contents, stored_in_unit, initialiser}
use Rattle.whole_bodies.specs.Names.{module_names_in}
use Rattle.whole_names.specs.Kept.{NamedProgram}
use Rattle.whole_texts.specs.Statics.{stored_in, contents_in, unit_contents, initialiser_in}

module _ (program : NamedProgram) (unit : ℕ) where
  same_contents : (one : CObject) (puts : Option CPuts) → stored_in (module_names_in program one.unit) one puts ≡ stored_contents program one puts
  same_contents one None = refl
  same_contents one (Some puts) = refl

  same_in_unit : (one : CObject) → unit_contents (module_names_in program unit) unit one ≡ stored_in_unit program unit one
  same_in_unit one = by (one.unit == unit) refl
    where
      by : (is : Bool) → (one.unit == unit) ≡ is → (if is then contents_in (module_names_in program unit) one else []) ≡ (if is then stored_contents program one one.puts else [])
      by true is = ap (λ (n : ℕ). contents_in (module_names_in program n) one) (sym (same_number one.unit unit is)) ∙ same_contents one one.puts
      by false is = refl

  same_initialiser : (objects : List CObject) → initialiser_in (module_names_in program unit) unit objects ≡ flat_map (stored_in_unit program unit) objects
  same_initialiser [] = refl
  same_initialiser (one ∷ others) =
      ap (λ (list : List Stmt). list ++ initialiser_in (module_names_in program unit) unit others) (same_in_unit one)
      ∙ ap (λ (list : List Stmt). stored_in_unit program unit one ++ list) (same_initialiser others)

  initialiser_is : (names : Names) (objects : List CObject) (made : List Stmt) → made ≡ initialiser_in names unit objects → names ≡ module_names_in program unit → objects ≡ program.program.objects →
      stmts made ≡ initialiser program unit
  initialiser_is names objects made is same all =
      ap stmts (is ∙ ap (λ (it : Names). initialiser_in it unit objects) same ∙ same_initialiser objects ∙ ap (flat_map (stored_in_unit program unit)) all)

pub initialiser_made : {E : Type 0} (unit : ℕ) (names : Names) (objects : List CObject) (made : Result (List RStmt) E) → IfOk made (λ one. map stmt_view one ≡ initialiser_in names unit objects) →
    IfOk made (λ one. (program : NamedProgram) → names ≡ module_names_in program unit → objects ≡ program.program.objects → stmts (map stmt_view one) ≡ initialiser program unit)
initialiser_made unit names objects (Ok made) is = λ program same all. initialiser_is program unit names objects (map stmt_view made) is same all
initialiser_made unit names objects (Err why) is = tt

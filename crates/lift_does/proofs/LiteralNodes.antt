-- What is known of the values of a compound literal where the law of expressions is proved by their depth: each has a value, and its temporaries are kept (ISO C99, 6.5.2.5).
use Rattle.std.proofs.Common.{◌≡◌, ℕ, false, Some, refl, sym, ap, subst, ◌∙◌}
use Rattle.cr_base.specs.declared.layout.Laid.{Laid}
use Rattle.cr_base.specs.declared.layout.Spot.{Spot}
use Rattle.cr_world.specs.World.{World, blocks_of}
use Rattle.cx_core.specs.Layouts.{CLayouts, extent, layouts_of}
use Rattle.cx_core.specs.Trees.{CTy, ty, void, basic, enum_type, pointer, array, record_type, function, unqualified, CExpr, type_of, put, CPuts, more_puts}
use Rattle.cx_core.specs.Typing.{IsPutOf}
use Rattle.cx_typed_work.proofs.Parts.{placed_inside}
use Rattle.cx_typed_work.proofs.Puts.{IsLiteralAlive}
use Rattle.lift_calls.specs.Frames.{FunctionNames}
use Rattle.lift_does.proofs.Around.{Around, scope, At}
use Rattle.lift_does.proofs.Held.{kept_front, kept_back}
use Rattle.lift_does.proofs.Numbers.{numbered}
use Rattle.lift_does.specs.Agree.{AreKeptFrom}
use Rattle.lift_does.specs.Does.{IsAsked}
use Rattle.lift_exprs.specs.Lifted.{lifted, lifted_puts}
use Rattle.lift_exprs.specs.Names.{Names}
use Rattle.lift_held.specs.Held.{is_void, value_for}
use Rattle.lift_stands.specs.Stands.{Images}
use Rattle.rs_text.specs.Tree.{Place as RustPlace}

-- a complete type isn't `void`
pub complete_has : (type : CTy) (layouts : CLayouts) (laid : Laid) → extent layouts type ≡ Some laid → is_void (unqualified type) ≡ false
complete_has (ty void is_const) layouts laid is = absurd cc
complete_has (ty (basic which) is_const) layouts laid is = refl
complete_has (ty (enum_type number) is_const) layouts laid is = refl
complete_has (ty (pointer to) is_const) layouts laid is = refl
complete_has (ty (array element length) is_const) layouts laid is = refl
complete_has (ty (record_type number) is_const) layouts laid is = refl
complete_has (ty (function result params variadic) is_const) layouts laid is = refl

module _ (x : Around) where
  -- what is stored in a part of an object that lives has a value
  pub put_has : (images : Images) (c_world world : World) (type : CTy) (number : ℕ) (spot : Spot) (part : CTy) (value : CExpr) → At x images c_world world → IsLiteralAlive x.home (scope x) (blocks_of c_world) type number →
      IsPutOf x.home.program.types type spot part (type_of value) → is_void (type_of value) ≡ false
  put_has images c_world world type number spot part value here lives is =
      let placed = placed_inside x.home.program.types type part spot lives.alive.laid here.typed.scene.linked.types is.part lives.laid_is in
      ap is_void is.value_is ∙ complete_has part (layouts_of x.home.program.types) placed.laid placed.sized

  -- so it may be asked for its value
  pub put_is_asked : (images : Images) (c_world world : World) (type : CTy) (number : ℕ) (spot : Spot) (part : CTy) (value : CExpr) → At x images c_world world → IsLiteralAlive x.home (scope x) (blocks_of c_world) type number →
      IsPutOf x.home.program.types type spot part (type_of value) → IsAsked (value_for spot) value
  put_is_asked images c_world world type number spot part value here lives is = record { used = λ _. put_has images c_world world type number spot part value here lives is; base = λ _. refl }

-- the temporaries of a value, and of those behind it
pub puts_kept : (names_of : Names) (kept : FunctionNames) (filled : CTy) (p : RustPlace) (spot : Spot) (part : CTy) (value : CExpr) (others : CPuts) (from : ℕ) →
    AreKeptFrom names_of kept from (lifted_puts names_of filled p (more_puts (put spot part value) others) from).temporaries →
    AreKeptFrom names_of kept from (lifted names_of (value_for spot) value from).temporaries
    × AreKeptFrom names_of kept (lifted names_of (value_for spot) value from).next (lifted_puts names_of filled p others (lifted names_of (value_for spot) value from).next).temporaries
puts_kept names_of kept filled p spot part value others from are =
    let one = lifted names_of (value_for spot) value from in
    let rest = lifted_puts names_of filled p others one.next in (
      kept_front names_of kept from one.temporaries rest.temporaries are,
      subst (λ (n : ℕ). AreKeptFrom names_of kept n rest.temporaries) (sym (numbered names_of (value_for spot) value from)) (kept_back names_of kept from one.temporaries rest.temporaries are),
    )

-- A constant expression of a unit, renumbered, is one of the program (ISO C99, 6.6).
use Rattle.std.proofs.Common.{ℕ, List, Option}
use Rattle.cx_core.specs.Trees.{CTy, CExpr, expr, CForm, whole, null, object, code, deref, member, address, convert, unary, binary, and, or, cond, comma, CPuts, no_puts, more_puts, put, CProgram, CMention}
use Rattle.cx_core.specs.Typing.{CHome, IsTyped, IsTypedForm, IsLvalue, IsLvalueForm, ArePuts, IsConstant, IsConstantForm, IsFixed, IsFixedForm, AreConstantPuts}
use Rattle.cx_renumber.specs.Numbers.{CNumbers, expr_there, value_there, puts_there}
use Rattle.cx_typed_links.specs.Homes.{home_here, NamesHold}

module _ (unit : ℕ) (numbers : CNumbers) (mentions : Option (List CMention)) (one program : CProgram) (holds : NamesHold unit numbers mentions one program) where
  module _ (scope : List ℕ) where
    abbrev here : CHome
    here = home_here unit numbers mentions one program scope

    mutual
      pub constant_goes : (of : CExpr) → IsTyped here of → IsConstant one of → IsConstant program (expr_there numbers of)
      constant_goes (expr type place form) typed held = constant_form_goes type form typed.1 held

      constant_form_goes : (type : CTy) (form : CForm) → IsTypedForm here type form → IsConstantForm one form → IsConstantForm program (value_there numbers form)
      constant_form_goes type (whole value) typed held = held
      constant_form_goes type null typed held = held
      constant_form_goes type (code number) typed held = held
      constant_form_goes type (address of) typed held = fixed_goes of typed.0 held
      constant_form_goes type (convert value) typed held = constant_goes value typed.0 held
      constant_form_goes type (unary op value) typed held = constant_goes value typed.0 held
      constant_form_goes type (binary op left right) typed held = (constant_goes left typed.0 held.0, constant_goes right typed.1 held.1)
      constant_form_goes type (and left right) typed held = (constant_goes left typed.0 held.0, constant_goes right typed.1 held.1)
      constant_form_goes type (or left right) typed held = (constant_goes left typed.0 held.0, constant_goes right typed.1 held.1)
      constant_form_goes type (cond test first second) typed held =
          (constant_goes test typed.0 held.0, constant_goes first typed.1 held.1, constant_goes second typed.2 held.2)
      constant_form_goes type (comma first second) typed held = (constant_goes first typed.0 held.0, constant_goes second typed.1 held.1)
      constant_form_goes type form typed held = absurd held

      fixed_goes : (of : CExpr) → IsLvalue here of → IsFixed one of → IsFixed program (expr_there numbers of)
      fixed_goes (expr type place form) typed held = fixed_form_goes type form typed.2 held

      fixed_form_goes : (type : CTy) (form : CForm) → IsLvalueForm here type form → IsFixedForm one form → IsFixedForm program (value_there numbers form)
      fixed_form_goes type (object number) typed held = holds.statics number typed.0 held
      fixed_form_goes type (deref from) typed held = constant_goes from typed.0 held
      fixed_form_goes type (member of spot) typed held = fixed_goes of typed.0 held
      fixed_form_goes type form typed held = absurd held

    pub constant_puts_go : (holder : CTy) (puts : CPuts) → ArePuts here holder puts → AreConstantPuts one puts → AreConstantPuts program (puts_there numbers puts)
    constant_puts_go holder no_puts typed held = held
    constant_puts_go holder (more_puts (put spot type value) others) typed held =
        (constant_goes value typed.0.0 held.0, constant_puts_go holder others typed.1 held.1)

-- The walk over expressions, form by form: where no node is broken, what an expression means is typed (ISO C99, 6.5).
use Rattle.std.proofs.Common.{◌≡◌, ⊎_elim, ℕ, true, List, [], ◌∷◌, slice_get, refl, sym, ap, ◌∙◌, subst}
use Rattle.cx_core.specs.Conversions.{basic_of, IsIntegerType}
use Rattle.cx_core.specs.Trees.{CTy, ty, form_of_type, type_of, CTypes, CExpr}
use Rattle.cx_rules.specs.declared.kinds.OperandKind.{OperandKind}
use Rattle.cx_rules.specs.declared.kinds.OperandKind.TheVariants.{Value, Place, Function, VoidPlace}
use Rattle.cx_rules.specs.Nodes.{CNode}
use Rattle.cx_rules.specs.Operands.{COperand, value_of}
use Rattle.cx_rules.specs.Pieces.{at_line, is_name}
use Rattle.cx_rules.specs.Scope.{CMade, CScope}
use Rattle.cx_tree.specs.Trees.{ExprTree}
use Rattle.cx_typed.proofs.Growing.{some_stays, basic_grows, type_stays, complete_stays}
use Rattle.cx_typed.proofs.Numbered.{was_or_new, not_there, statics_stay}
use Rattle.cx_typed.proofs.Scopes.{part_of, passes_on, stays_itself}
use Rattle.cx_typed.specs.Constants.{IsOfNumbers, IsTypedConstant}
use Rattle.cx_typed.specs.Growth.{Grows, IsSettled, IsSettledForm}
use Rattle.cx_typed.specs.Nodes.{EachOf, CStanding, MeansTyped}
use Rattle.cx_typed.specs.Operands.{IsKnownType, IsOperandTypeBy, IsOperandType}
use Rattle.cx_typed.specs.Scopes.{Passes, Keeps, IsWellMade, AreTypedLiterals}
use Rattle.cx_typed.specs.Unbroken.{IsUnbroken}
use Rattle.cx_typed.specs.Walked.{IsGood, IsExpr, AreExprs}

-- no literal is made
pub makes_nothing : (opens : List ℕ) (before after : CScope) → after.literals ≡ before.literals → AreTypedLiterals opens before after
makes_nothing opens before after same = record {
  well = λ number one from is. absurd (not_there before.literals number one from (ap (λ all. slice_get all number) (sym same) ∙ is));
  typed = λ home serves number one from is. absurd (not_there before.literals number one from (ap (λ all. slice_get all number) (sym same) ∙ is));
}

pub well_stays : (opens : List ℕ) (before after : CTypes) → Grows opens before after → (one : CMade) → IsWellMade before one → IsWellMade after one
well_stays opens before after grows one held = record { complete = λ is. complete_stays opens before after grows one.type (held.complete is); no_text = held.no_text }

-- where a node stands
abbrev pub standing_of : List ℕ → CScope → ℕ → CStanding
standing_of opens scope line = record { unit = scope.unit; opens = opens; scope = scope; types = scope.types; at = at_line scope line }

-- ---- what is known of an operand stays

module _ (opens : List ℕ) (before after : CTypes) (grows : Grows opens before after) (unit : ℕ) where
  pub known_stays : (type : CTy) → IsKnownType opens before unit type → IsKnownType opens after unit type
  known_stays type held = record { type_in = type_stays opens before after grows unit type held.type_in; settled = held.settled }

  pub settled_form : (type : CTy) → IsSettled opens type → IsSettledForm opens (form_of_type type)
  settled_form (ty form is_const) held = held

  pub integer_stays : (type : CTy) → IsSettled opens type → IsIntegerType before type → IsIntegerType after type
  integer_stays type settled = some_stays (basic_of before (form_of_type type)) (basic_of after (form_of_type type)) (basic_grows opens before after grows (form_of_type type) (settled_form type settled))

  operand_by : (kind : OperandKind) (core : CExpr) → IsOperandTypeBy kind opens before unit core → IsOperandTypeBy kind opens after unit core
  operand_by Value core held = record { known = known_stays (type_of core) held.known; plain = held.plain; form = held.form }
  operand_by Place core held = record {
    known = known_stays (type_of core) held.known;
    object = held.object;
    bits = λ is. integer_stays (type_of core) held.known.settled (held.bits is);
    followed = held.followed;
  }
  operand_by Function core held = record { known = known_stays (type_of core) held.known; target = held.target }
  operand_by VoidPlace core held = record { known = known_stays (type_of core) held.known; target = held.target }

  operand_stays : (operand : COperand) → IsOperandType opens before unit operand → IsOperandType opens after unit operand
  operand_stays operand held = operand_by operand.kind operand.core held

module _ (opens : List ℕ) where
  -- in a later scope of the unit
  pub known_on : (before after : CScope) (operand : COperand) → Passes opens before after → IsOperandType opens before.types before.unit operand → IsOperandType opens after.types after.unit operand
  known_on before after operand passes held =
      subst (λ unit. IsOperandType opens after.types unit operand) (sym passes.unit_is) (operand_stays opens before.types after.types passes.grows before.unit operand held)

  pub type_on : (before after : CScope) (type : CTy) → Passes opens before after → IsKnownType opens before.types before.unit type → IsKnownType opens after.types after.unit type
  type_on before after type passes held =
      subst (λ unit. IsKnownType opens after.types unit type) (sym passes.unit_is) (known_stays opens before.types after.types passes.grows before.unit type held)

  pub passes_keep : (mentioned made : ℕ) (before after : CScope) → Passes opens before after → Keeps opens mentioned made before after
  passes_keep mentioned made before after passes = record {
    grows = passes.grows;
    mentions = λ number from x is. passes.mentions number x is;
    literals = λ number from x is. passes.literals number x is;
    statics = statics_stay before after passes.literals passes.rest_is;
  }

  -- ---- literals

  pub made_on : (before middle after : CScope) → Passes opens before middle → Passes opens middle after → AreTypedLiterals opens before middle → AreTypedLiterals opens middle after
      → AreTypedLiterals opens before after
  made_on before middle after one other first second = record {
    well = λ number made from is.
        ⊎_elim
        (λ was. well_stays opens middle.types after.types other.grows made (first.well number made from was))
        (λ new. second.well number made new is)
        (was_or_new middle.literals after.literals other.literals number made is);
    typed = λ home serves number made from is.
        ⊎_elim
        (λ was. first.typed home (part_of opens home before before middle after serves (stays_itself opens before) (passes_keep _ _ middle after other)) number made from was)
        (λ new. second.typed home (part_of opens home before middle after after serves one (passes_keep _ _ after after (stays_itself opens after))) number made new is)
        (was_or_new middle.literals after.literals other.literals number made is);
  }

  -- ---- expressions one behind the other

  pub none_are : (scope : CScope) → IsGood opens scope → AreExprs opens scope [] scope
  none_are scope good = record {
    good = good;
    passes = stays_itself opens scope;
    known = tt;
    typed = λ home serves. tt;
    made = makes_nothing opens scope scope refl;
    makes_none = λ each. refl;
  }

  pub one_more : (tree : ExprTree) (before middle after : CScope) (one : COperand) (others : List COperand) → IsExpr opens tree before one middle → AreExprs opens middle others after
      → AreExprs opens before (one ∷ others) after
  one_more tree before middle after one others first more = record {
    good = more.good;
    passes = passes_on opens before middle after first.passes more.passes;
    known = (known_on middle after one more.passes first.known, more.known);
    typed = λ home serves. (
      first.typed home (part_of opens home before before middle after serves (stays_itself opens before) (passes_keep _ _ middle after more.passes)),
      more.typed home (part_of opens home before middle after after serves first.passes (passes_keep _ _ after after (stays_itself opens after))),
    );
    made = made_on before middle after first.passes more.passes first.made more.made;
    makes_none = λ each. more.makes_none each.1 ∙ first.makes_none each.0;
  }

  pub just_one : (tree : ExprTree) (before after : CScope) (one : COperand) → IsExpr opens tree before one after → AreExprs opens before (one ∷ []) after
  just_one tree before after one first = one_more tree before after after one [] first (none_are after first.good)

  pub just_two : (tree other : ExprTree) (before middle after : CScope) (one two : COperand) → IsExpr opens tree before one middle → IsExpr opens other middle two after
      → AreExprs opens before (one ∷ two ∷ []) after
  just_two tree other before middle after one two first second = one_more tree before middle after one (two ∷ []) first (just_one other middle after two second)

  -- what a node means whose operands these are
  pub node_is : (tree : ExprTree) (before after : CScope) (line : ℕ) (node : CNode) (operands : List COperand) (meaning : COperand) → (is_name tree ≡ true → ⊥)
      → (IsOfNumbers (value_of meaning) → EachOf (λ one. IsOfNumbers (value_of one)) operands) → AreExprs opens before operands after
      → MeansTyped (standing_of opens after line) node operands meaning → IsUnbroken after after.types node → IsExpr opens tree before meaning after
  node_is tree before after line node operands meaning no_name numbers all means unbroken = record {
    good = all.good;
    passes = all.passes;
    known = means.known all.good.sound unbroken all.known;
    typed = λ home serves. means.typed home (serves.unit_is ∙ sym all.passes.unit_is) serves.grows all.good.sound unbroken all.known (all.typed home serves);
    named = λ is. absurd (no_name is);
    made = all.made;
    makes_none = λ is. all.makes_none (numbers is);
  }

  -- a constant, whatever was named before
  pub constant_is : (tree : ExprTree) (before after : CScope) (line : ℕ) (meaning : COperand) → (is_name tree ≡ true → ⊥) → IsGood opens after → Passes opens before after → after.literals ≡ before.literals
      → IsTypedConstant (standing_of opens after line) meaning → IsExpr opens tree before meaning after
  constant_is tree before after line meaning no_name good passes same made = record {
    good = good;
    passes = passes;
    known = made.known;
    typed = λ home serves. made.typed home;
    named = λ is. absurd (no_name is);
    made = makes_nothing opens before after same;
    makes_none = λ is. same;
  }

  -- something else stands before them, which makes no literals
  pub exprs_behind : (before middle after : CScope) (operands : List COperand) → Passes opens before middle → middle.literals ≡ before.literals → AreExprs opens middle operands after
      → AreExprs opens before operands after
  exprs_behind before middle after operands passes same all = record {
    good = all.good;
    passes = passes_on opens before middle after passes all.passes;
    known = all.known;
    typed = λ home serves. all.typed home (part_of opens home before middle after after serves passes (passes_keep _ _ after after (stays_itself opens after)));
    made = made_on before middle after passes all.passes (makes_nothing opens before middle same) all.made;
    makes_none = λ each. all.makes_none each ∙ same;
  }

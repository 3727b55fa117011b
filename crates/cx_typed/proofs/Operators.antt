-- All operators are typed.
use Rattle.std.proofs.Common.{◌≡◌, ℕ, List, [], ◌∷◌, sym, subst}
use Rattle.cx_core.specs.Typing.{CHome}
use Rattle.cx_rules.specs.Nodes.{CNode}
use Rattle.cx_rules.specs.Operands.{COperand, value_of}
use Rattle.cx_typed.proofs.Binary.{binary_known}
use Rattle.cx_typed.proofs.Casting.{index_known, index_typed, cast_known, cast_typed}
use Rattle.cx_typed.proofs.Choosing.{cond_known, cond_typed}
use Rattle.cx_typed.proofs.Computing.{binary_typed}
use Rattle.cx_typed.proofs.Parts.{dot_known, dot_typed, arrow_known, arrow_typed}
use Rattle.cx_typed.proofs.Promoted.{neither, not_not}
use Rattle.cx_typed.proofs.Single.{one_holds, unary_known, unary_typed, deref_known, deref_typed, address_known, address_typed, tests_known, tests_typed, comma_known, comma_typed}
use Rattle.cx_typed.proofs.Storing.{assign_known, assign_typed, assign_by_known, assign_by_typed, step_known, step_typed}
use Rattle.cx_typed.proofs.Values.{value_is, value_type_is}
use Rattle.cx_typed.specs.Growth.{Grows}
use Rattle.cx_typed.specs.Nodes.{EachOf, CStanding, MeansTyped, OperatorsAreTyped}
use Rattle.cx_typed.specs.Operands.{IsKnownType, IsOperandType, IsTypedOperand}
use Rattle.cx_typed.specs.Sound.{AreSound}
use Rattle.cx_typed.specs.Unbroken.{IsUnbroken}

module _ (s : CStanding) where
  -- what is said of the unit of a program holds of the unit of the node
  at_home : (home : CHome) → home.unit ≡ s.unit → (P : ℕ → Type 0) → P s.unit → P home.unit
  at_home home is P held = subst P (sym is) held

  means : (node : CNode) (operands : List COperand) (meaning : COperand)
      → ((unit : ℕ) → AreSound s.opens s.types unit → IsUnbroken s.scope s.types node → EachOf (IsOperandType s.opens s.types unit) operands → IsOperandType s.opens s.types unit meaning)
      → ((home : CHome) → Grows s.opens s.types home.program.types → AreSound s.opens s.types home.unit → IsUnbroken s.scope s.types node
      → EachOf (IsOperandType s.opens s.types home.unit) operands → EachOf (IsTypedOperand home) operands → IsTypedOperand home meaning)
      → MeansTyped s node operands meaning
  means node operands meaning known typed = record {
    known = λ sound unbroken held. known s.unit sound unbroken held;
    typed = λ home is grows sound unbroken held given.
        typed home grows (at_home home is (AreSound s.opens s.types) sound) unbroken (at_home home is (λ unit. EachOf (IsOperandType s.opens s.types unit) operands) held) given;
  }

  pub operators : OperatorsAreTyped s
  operators = record {
    unary = λ op on. means _ (on ∷ []) _ (λ unit sound unbroken held. unary_known s.opens s.scope s.types s.at unit op on held.0 unbroken)
        (λ home grows sound unbroken held given. unary_typed s.opens s.scope s.types s.at home grows op on held.0 unbroken given.0);
    follows = λ on. means _ (on ∷ []) _
        (λ unit sound unbroken held. deref_known s.opens s.scope s.types s.at unit (value_of on) (value_type_is s.opens s.types unit on held.0) (not_not (neither unbroken.k10).1))
        (λ home grows sound unbroken held given. deref_typed s.opens s.scope s.types s.at home grows (value_of on) (value_type_is s.opens s.types home.unit on held.0) (not_not (neither unbroken.k10).1)
        (value_is s.opens s.types home grows on held.0 (one_holds s.types on _ unbroken.k10) given.0));
    address = λ of. means _ (of ∷ []) _ (λ unit sound unbroken held. address_known s.opens s.scope s.types s.at unit of held.0 unbroken)
        (λ home grows sound unbroken held given. address_typed s.opens s.scope s.types s.at home grows of unbroken given.0);
    both = λ left right. means _ (left ∷ right ∷ []) _ (λ unit sound unbroken held. tests_known s.opens s.scope s.types s.at unit left right)
        (λ home grows sound unbroken held given. (tests_typed s.opens s.scope s.types s.at home grows left right held.0 held.1.0 unbroken given.0 given.1.0).0);
    either = λ left right. means _ (left ∷ right ∷ []) _ (λ unit sound unbroken held. tests_known s.opens s.scope s.types s.at unit left right)
        (λ home grows sound unbroken held given. (tests_typed s.opens s.scope s.types s.at home grows left right held.0 held.1.0 unbroken given.0 given.1.0).1);
    comma = λ first second. means _ (first ∷ second ∷ []) _ (λ unit sound unbroken held. comma_known s.opens s.scope s.types s.at unit first second held.1.0)
        (λ home grows sound unbroken held given. comma_typed s.opens s.scope s.types s.at home grows first second held.0 held.1.0 unbroken given.0 given.1.0);
    binary = λ op left right. means _ (left ∷ right ∷ []) _ (λ unit sound unbroken held. binary_known s.opens s.types unit s.at left right held.0 held.1.0 s.scope op unbroken)
        (λ home grows sound unbroken held given. binary_typed s.opens s.scope s.types home grows s.at op left right held.0 held.1.0 unbroken given.0 given.1.0);
    index = λ of index. means _ (of ∷ index ∷ []) _ (λ unit sound unbroken held. index_known s.opens s.scope s.types unit s.at of index held.0 held.1.0 unbroken)
        (λ home grows sound unbroken held given. index_typed s.opens s.scope s.types home grows s.at of index held.0 held.1.0 unbroken given.0 given.1.0);
    choice = λ test first second. means _ (test ∷ first ∷ second ∷ []) _
        (λ unit sound unbroken held. cond_known s.opens s.types unit first second held.1.0 held.1.1.0 s.scope s.at test unbroken)
        (λ home grows sound unbroken held given. cond_typed s.opens s.types home grows s.scope s.at test first second held.0 held.1.0 held.1.1.0 unbroken given.0 given.1.0 given.1.1.0);
    assign = λ target value. means _ (target ∷ value ∷ []) _ (λ unit sound unbroken held. assign_known s.opens s.types unit s.scope s.at target value held.0 unbroken)
        (λ home grows sound unbroken held given. assign_typed s.opens s.types home grows s.scope s.at target value held.0 held.1.0 unbroken given.0 given.1.0);
    assign_by = λ op plain target value. means _ (target ∷ value ∷ []) _ (λ unit sound unbroken held. assign_by_known s.opens s.types unit s.scope s.at op target value held.0 unbroken)
        (λ home grows sound unbroken held given. assign_by_typed s.opens s.types home grows s.scope s.at op plain target value held.0 held.1.0 unbroken given.0 given.1.0);
    step = λ up post on. means _ (on ∷ []) _ (λ unit sound unbroken held. step_known s.opens s.types unit s.scope s.at up post on held.0 unbroken)
        (λ home grows sound unbroken held given. step_typed s.opens s.types home grows s.scope s.at up post on held.0 unbroken given.0);
    cast = λ type known on. record {
      known = λ sound unbroken held. cast_known s.opens s.scope s.types s.unit s.at type on known unbroken;
      typed = λ home is grows sound unbroken held given.
          cast_typed s.opens s.types home grows s.scope s.at type on (at_home home is (λ unit. IsKnownType s.opens s.types unit type) known)
          (at_home home is (λ unit. IsOperandType s.opens s.types unit on) held.0) unbroken given.0;
    };
    dot = λ of name. means _ (of ∷ []) _ (λ unit sound unbroken held. dot_known s.opens s.types unit sound s.scope s.at of name held.0 unbroken)
        (λ home grows sound unbroken held given. dot_typed s.opens s.types home grows sound s.scope s.at of name held.0 unbroken given.0);
    arrow = λ of name. means _ (of ∷ []) _ (λ unit sound unbroken held. arrow_known s.opens s.types s.scope s.at name unit sound of held.0 unbroken)
        (λ home grows sound unbroken held given. arrow_typed s.opens s.types s.scope s.at name home grows sound of held.0 unbroken given.0);
  }

-- The walk over calls (ISO C99, 6.5.2.2).
use Rattle.std.proofs.Common.{◌≡◌, ℕ, ◌<◌, ◌≤◌, Bool, true, false, List, [], ◌∷◌, ◌++◌, length, Option, None, Some, refl, sym, ap, ◌∙◌, subst, arith}
use Rattle.cx_core.specs.declared.program.Linkage.{Linkage}
use Rattle.cx_core.specs.Trees.{CTy, uses}
use Rattle.cx_rules.specs.Lines.{expr_line}
use Rattle.cx_rules.specs.Meanings.{name_meaning, call_meaning, trailing_types}
use Rattle.cx_rules.specs.Nodes.{call_node}
use Rattle.cx_rules.specs.Operands.{COperand, is_designator}
use Rattle.cx_rules.specs.Pieces.{at_line, is_name, used, called, calls_by_name}
use Rattle.cx_rules.specs.Scope.{CMeant, an_object, a_function, a_type_name, an_enumerator, a_tag, CScope, ordinary, with_call, mention_of}
use Rattle.cx_tree.specs.Trees.{ExprTree, Call, ExprTrees}
use Rattle.cx_typed.proofs.Goes.{go_here_then, go_chain, go_changed}
use Rattle.cx_typed.proofs.Same.{both}
use Rattle.cx_typed.proofs.Called.{calls}
use Rattle.cx_typed.proofs.OfNumbers.{call_none}
use Rattle.cx_typed.proofs.Scopes.{grows_not, part_of, passes_on, used_passes, pushed_at, within, call_kept, called_served}
use Rattle.cx_typed.specs.Calls.{named_function}
use Rattle.cx_typed.specs.Operands.{IsOperandType}
use Rattle.cx_typed.specs.Scopes.{Passes, Keeps, AreTypedLiterals}
use Rattle.cx_typed.specs.Unbroken.{IsUnbroken}
use Rattle.cx_typed.proofs.Walked.{standing_of, one_more, node_is, known_on}
use Rattle.cx_typed.specs.Walked.{IsExpr, AreExprs, ExprGoes, ArgsGo}

-- the mention of a function that is called says with which arguments, and the others stay
module _ (opens : List ℕ) (scope middle after : CScope) (line : ℕ) (name : List ℕ) (number : ℕ) (type : CTy) (linkage : Linkage)
    (declared : ordinary name scope.declared ≡ Some (a_function number type linkage)) (middle_is : middle ≡ used line name (Some (a_function number type linkage)) scope)
    (of : ExprTree) (args : ExprTrees) (lines : List ℕ) (given : List COperand) (behind : AreExprs opens middle given after)
  where
    abbrev callee : COperand
    callee = named_function (at_line scope line) number type

    abbrev last : CScope
    last = with_call (length scope.mentions) (trailing_types after.types callee given) after

    first_passes : Passes opens scope middle
    first_passes = subst (Passes opens scope) (sym middle_is) (used_passes opens scope line name (Some (a_function number type linkage)))

    mention_behind : length scope.mentions < length middle.mentions
    mention_behind =
        subst (λ one. length scope.mentions < length one.mentions) (sym middle_is)
        (within (scope.mentions ++ mention_of scope name line type linkage uses ∷ []) (length scope.mentions) (mention_of scope name line type linkage uses)
        (pushed_at scope.mentions (mention_of scope name line type linkage uses)))

    differs : (low high : ℕ) → low < high → low ≡ high → ⊥
    differs low high less is = omega (arith, less, is)

    last_passes : Passes opens scope last
    last_passes =
        let passes = passes_on opens scope middle after first_passes behind.passes in
        record {
          unit_is = passes.unit_is;
          grows = passes.grows;
          declared = passes.declared;
          mentions = λ index one is.
              call_kept (length scope.mentions) (trailing_types after.types callee given) after index one (differs index (length scope.mentions) (within scope.mentions index one is)) (passes.mentions index one is);
          literals = passes.literals;
          front = passes.front;
          declared_is = passes.declared_is;
          begins_is = passes.begins_is;
          rest_is = passes.rest_is;
          numbers = record { grows = passes.numbers.grows; literals = passes.numbers.literals; in_order = passes.numbers.in_order };
        }

    after_kept : Keeps opens (length middle.mentions) (length middle.literals) after last
    after_kept = record {
      grows = grows_not opens after.types;
      mentions = λ index from one is.
          call_kept (length scope.mentions) (trailing_types after.types callee given) after index one
          (λ same. (let h : length scope.mentions < length middle.mentions = mention_behind in omega (arith, h, from, same))) is;
      literals = λ index from one is. is;
      statics = λ index is. is;
    }

    first_makes_none : middle.literals ≡ scope.literals
    first_makes_none = ap (λ one. one.literals) middle_is

    -- no literal is made by the name, and the call completes its mention alone
    last_made : AreTypedLiterals opens scope last
    last_made = record {
      well = λ index one from is. behind.made.well index one (subst (λ all. length all ≤ index) (sym first_makes_none) from) is;
      typed = λ home serves index one from is.
          behind.made.typed home (part_of opens home scope middle after last serves first_passes after_kept) index one (subst (λ all. length all ≤ index) (sym first_makes_none) from) is;
    }

    named_call : IsOperandType opens middle.types middle.unit callee → IsUnbroken after after.types (call_node callee given)
        → IsExpr opens (Call of args lines) scope (call_meaning (at_line after (expr_line of)) after.types true callee given) last
    named_call known unbroken =
        let made = (calls (standing_of opens after (expr_line of))).by_name (at_line scope line) number type given in
        let known_after = known_on opens middle after callee behind.passes known in
        record {
          good = record { sound = behind.good.sound; known = behind.good.known; tags = behind.good.tags };
          passes = last_passes;
          known = made.known behind.good.sound unbroken known_after behind.known;
          typed = λ home serves.
              made.typed home (serves.unit_is ∙ sym last_passes.unit_is) serves.grows behind.good.sound unbroken known_after behind.known
              (called_served opens home scope after line name number type linkage (at_line scope line) given declared (subst (λ one. Passes opens one after) middle_is behind.passes) serves)
              (behind.typed home (part_of opens home scope middle after last serves first_passes after_kept));
          named = λ is. absurd cc;
          made = last_made;
          makes_none = λ is. absurd (call_none after (at_line after (expr_line of)) after.types true callee given unbroken is);
        }

-- what a name means that names a function
module _ (opens : List ℕ) (of : ExprTree) (args : ExprTrees) (lines : List ℕ) (scope middle after : CScope) (callee : COperand) (given : List COperand)
    (held : IsExpr opens of scope callee middle) (behind : AreExprs opens middle given after) (unbroken : IsUnbroken after after.types (call_node callee given))
  where
    abbrev IsCallExpr : Bool → COperand → Type 0
    IsCallExpr by_name one =
        IsExpr opens (Call of args lines) scope (call_meaning (at_line after (expr_line of)) after.types by_name one given)
        (called by_name (length scope.mentions) (trailing_types after.types one given) after)

    abbrev Wanted : COperand → Type 0
    Wanted one = IsOperandType opens middle.types middle.unit one → IsUnbroken after after.types (call_node one given) → IsCallExpr true one

    by_found : (name : List ℕ) (line : ℕ) (found : Option CMeant) → ordinary name scope.declared ≡ found → callee ≡ name_meaning (at_line scope line) found → middle ≡ used line name found scope
        → is_designator callee ≡ true → IsCallExpr true callee
    by_found name line (Some (a_function number type linkage)) declared callee_is middle_is is =
        subst Wanted (sym callee_is) (named_call opens scope middle after line name number type linkage declared middle_is of args lines given behind) held.known unbroken
    by_found name line (Some (an_object number type is_register linkage)) declared callee_is middle_is is = absurd (let h : false ≡ true = sym (ap is_designator callee_is) ∙ is in cc)
    by_found name line (Some (an_enumerator value)) declared callee_is middle_is is = absurd (let h : false ≡ true = sym (ap is_designator callee_is) ∙ is in cc)
    by_found name line (Some (a_type_name type)) declared callee_is middle_is is = absurd (let h : false ≡ true = sym (ap is_designator callee_is) ∙ is in cc)
    by_found name line (Some (a_tag is_record is_open number)) declared callee_is middle_is is = absurd (let h : false ≡ true = sym (ap is_designator callee_is) ∙ is in cc)
    by_found name line None declared callee_is middle_is is = absurd (let h : false ≡ true = sym (ap is_designator callee_is) ∙ is in cc)

    call_by_name : (by_name : Bool) → calls_by_name of callee ≡ by_name → IsCallExpr by_name callee
    call_by_name true is =
        let parts : (is_name of ≡ true) × (is_designator callee ≡ true) = both is in
        let named = held.named parts.0 in
        by_found named.name named.line (ordinary named.name scope.declared) refl named.operand_is named.after_is parts.1
    call_by_name false is =
        node_is opens (Call of args lines) scope after (expr_line of) (call_node callee given) (callee ∷ given) _ (λ other. absurd cc) (λ numbers. absurd (call_none after (at_line after (expr_line of)) after.types false callee given unbroken numbers))
        (one_more opens of scope middle after callee given held behind) ((calls (standing_of opens after (expr_line of))).through callee given) unbroken

pub call_goes : (of : ExprTree) (args : ExprTrees) (lines : List ℕ) → ExprGoes of → ArgsGo args → ExprGoes (Call of args lines)
call_goes of args lines first second opens scope good =
    go_here_then _ _ scope _ (go_chain _ _ _ _ scope (IsExpr opens of scope) _ (first opens scope good) (λ callee middle held.
    go_chain _ _ _ _ middle (AreExprs opens middle) _ (second opens middle held.good) (λ given after behind.
    go_here_then _ _ after _ (go_changed _ after (expr_line of) _ _ _ after _ (λ unbroken.
    call_by_name opens of args lines scope middle after callee given held behind unbroken (calls_by_name of callee) refl)))))

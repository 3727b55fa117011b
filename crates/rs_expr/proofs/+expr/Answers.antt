use Rattle.std.proofs.Common.{rules, ◌-◌, ◌+◌, length, sym, subst, ◌∙◌, arith}
use Rattle.std.proofs.lemmas.Grind.{common_steps}
use Rattle.rs_expr.specs.Exprs.{expr}
use Rattle.rs_expr.proofs.Chosen.{base_at, between_at, expr_at, left_alone, name_at, other_base, other_expr, other_name}
use Rattle.rs_expr.specs.Reading.{Gives, part, ends_list}
use Rattle.rs_expr.specs.declared.sign.Sign.TheVariants as of
use Rattle.rs_tree.specs.Views.{expr_view}
use Rattle.rs_expr.proofs.Turns.{many_next, tails_next}
use Rattle.rs_expr.proofs.+expr.Goals as goal

pub atoms::args-loop-turn-preserved : goal.atoms::args-loop-turn-preserved
atoms::args-loop-turn-preserved t c =
    many_next ends_list (part (expr c.args.levels)) (length c.args.cursor.now - c.loop-turn._turn) (length c.args.cursor.now - (c.loop-turn._turn + 1)) _ _ _ _
    (omega (arith, c.loop-turn-test.true, c.len-turn-end.ensures)) (first_of (search rules, grind (arith, common_steps))) c.in_ok-list.ensures
    ∙ c.loop-turn.invariant

pub operands::tails-loop-turn-preserved : goal.operands::tails-loop-turn-preserved
operands::tails-loop-turn-preserved t c =
    tails_next (expr c.args.levels) (length c.args.cursor.now - c.loop-turn._turn) (length c.args.cursor.now - (c.loop-turn._turn + 1)) _ _ _ _
    (omega (arith, c.loop-turn-test.true, c.len-turn-end.ensures)) (first_of (search rules, grind (arith, common_steps))) c.in_ok-read.ensures
    ∙ c.loop-turn.invariant

pub exprs::expr_from-returns-in-If : goal.exprs::expr_from-returns-in-If
exprs::expr_from-returns-in-If t c =
    subst (λ read. Gives (λ e. expr_view e) c.choose.result c.choose.new.cursor read)
    (expr_at of.If (expr c.args.levels) c.args.cursor.now (sym c.peek.ensures ∙ c.in-If.is)) c.choose.ensures

pub exprs::expr_from-returns-in_default : goal.exprs::expr_from-returns-in_default
exprs::expr_from-returns-in_default t c =
    subst (λ read. Gives (λ e. expr_view e) c.between.result c.between.new.cursor read)
    (other_expr c.peek.result (expr c.args.levels) c.args.cursor.now c.in_default.not-If c.in_default.not-Minus c.in_default.not-Bang c.in_default.not-Star ∙ expr_at c.peek.result (expr c.args.levels) c.args.cursor.now (sym c.peek.ensures)) c.between.ensures

pub atoms::base-returns-in-Number : goal.atoms::base-returns-in-Number
atoms::base-returns-in-Number t c =
    subst (λ read. Gives (λ e. expr_view e) c.number.result c.number.new.cursor read)
    (base_at of.Number (expr c.args.levels) c.args.cursor.now (sym c.peek.ensures ∙ c.in-Number.is)) c.number.ensures

pub atoms::base-returns-in_default : goal.atoms::base-returns-in_default
atoms::base-returns-in_default t c =
    subst (λ read. Gives (λ e. expr_view e) c.named.result c.named.new.cursor read)
    (other_base c.peek.result (expr c.args.levels) c.args.cursor.now c.in_default.not-LeftParenthesis c.in_default.not-Number c.in_default.not-True c.in_default.not-False c.in_default.not-NoneWord c.in_default.not-Crate ∙ base_at c.peek.result (expr c.args.levels) c.args.cursor.now (sym c.peek.ensures)) c.named.ensures

pub atoms::named-returns-in-LeftParenthesis : goal.atoms::named-returns-in-LeftParenthesis
atoms::named-returns-in-LeftParenthesis t c =
    subst (λ read. Gives (λ e. expr_view e) c.some_function.result c.some_function.new.cursor read)
    (name_at of.LeftParenthesis (expr c.args.levels) c.args.cursor.now (sym c.peek_behind.ensures ∙ c.in-LeftParenthesis.is)) c.some_function.ensures

pub atoms::named-returns-in_default : goal.atoms::named-returns-in_default
atoms::named-returns-in_default t c =
    subst (λ read. Gives (λ e. expr_view e) c.local.result c.local.new.cursor read)
    (other_name c.peek_behind.result (expr c.args.levels) c.args.cursor.now c.in_default.not-PathMark c.in_default.not-LeftParenthesis ∙ name_at c.peek_behind.result (expr c.args.levels) c.args.cursor.now (sym c.peek_behind.ensures)) c.local.ensures

pub exprs::between-returns-in-As : goal.exprs::between-returns-in-As
exprs::between-returns-in-As t c =
    subst (λ read. Gives (λ e. expr_view e) c.cast.result c.cast.new.cursor read)
    (between_at of.As _ (expr c.args.levels) c.args.cursor.now _ c.in_ok-left.ensures (sym c.peek.ensures ∙ c.in-As.is)) c.cast.ensures

pub exprs::between-returns-in_default : goal.exprs::between-returns-in_default
exprs::between-returns-in_default t c =
    sym (left_alone c.peek.result _ (expr c.args.levels) _ c.in_default.not-As c.in_default.not-AndAnd c.in_default.not-OrOr c.in_default.not-Star c.in_default.not-Minus c.in_default.not-OtherMark
    ∙ between_at c.peek.result _ (expr c.args.levels) c.args.cursor.now _ c.in_ok-left.ensures (sym c.peek.ensures))

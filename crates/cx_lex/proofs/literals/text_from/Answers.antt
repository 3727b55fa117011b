use Rattle.std.proofs.Common.{◌≡◌, ℕ, ◌+◌, List, Ok, length, drop, sym, ap, ◌∙◌, subst, arith, length-drop}
use Rattle.std.proofs.lemmas.List.{take_rest}
use Rattle.cx_lex.specs.Literals.{text_from}
use Rattle.cx_lex.proofs.LiteralLemmas.{with_values, closes_at, breaks_at, member_at}
use Rattle.cx_lex.proofs.literals.text_from.Goals as goal

pub returns-in-Closes : goal.returns-in-Closes
returns-in-Closes c = (
  closes_at c.args.bytes.now c.loop-at.values.items c.loop-at.at c.loop-at.invariant.read (sym c.in-Closes.ensures.value)
      ∙ ap (λ (values : List ℕ). Ok (values, drop (c.loop-at.at + 1) c.args.bytes.now)) (sym c.of.ensures),
  omega arith,
)

pub returns-in-Breaks : goal.returns-in-Breaks
returns-in-Breaks c = breaks_at c.args.bytes.now c.loop-at.values.items c.loop-at.at c.loop-at.invariant.read c.in-Breaks.rule (sym c.in-Breaks.ensures.value)

pub loop-at-preserved : goal.loop-at-preserved
loop-at-preserved c =
    let bytes = c.args.bytes.now in
    let at = c.loop-at.at in
    let within = c.in-Member.ensures.within in
    record {
      read = subst (λ (values : List ℕ). with_values values (text_from 0 (drop (at + c.in-Member.size) bytes)) ≡ text_from 0 bytes)
          (sym c.in_ok-push-in-Member.ensures.items)
          (member_at bytes c.loop-at.values.items at c.loop-at.invariant.read c.in-Member.size c.in-Member.value (sym c.in-Member.ensures.value) within.0);
      within = omega (arith, within.1, ap length (take_rest bytes at), length-drop at bytes);
    }

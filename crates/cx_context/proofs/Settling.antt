-- Nodes that break a rule, and nodes that break none.
use Rattle.std.proofs.Common.{◌≡◌, sym, ap, ◌∙◌, ℕ, Option, None, Some, option_map, Err}
use Rattle.cr_base.specs.declared.refusal.Refusal.{Refusal}
use Rattle.cr_base.specs.declared.refusal.Stop.{Stop}
use Rattle.cr_base.specs.declared.refusal.Stop.TheVariants as stop
use Rattle.cr_base.specs.declared.rule.Rule.{Rule}
use Rattle.cx_context.specs.Checks.{Checks, refusal_of}
use Rattle.cx_core.specs.Trees.{CTypes}
use Rattle.cx_rules.specs.Nodes.{CNode, CPlaced}
use Rattle.cx_rules.specs.Pieces.{Done}
use Rattle.cx_rules.specs.Readings.{CChecked, stops, fine, Check, check_gives, check_behind, check_chain, check_here, check_becomes, check_by, check_look}
use Rattle.cx_rules.specs.Rules.{rule_at}
use Rattle.cx_rules.specs.Scope.{CScope}
use Rattle.cx_rules.specs.Walk as walk

-- a node at a line, in a scope with these types
abbrev placed : CTypes → CScope → ℕ → CNode → CPlaced
placed types scope line node = record { scope = record scope { types = types }; line = line; node = node }

same_refusal : (one other : Refusal) → stop.Refused one ≡ stop.Refused other → one ≡ other
same_refusal one other e = cc

-- a refusal that the walk gives
pub refused_step : {A B : Type 0} (view : A → B) (why : Stop) (after : CScope) (walked : CChecked B) (refusal : Refusal) →
    why ≡ stop.Refused refusal → walked ≡ stops refusal → Checks view (Err why) after walked
refused_step view why after walked refusal e w = λ other f. w ∙ ap stops (same_refusal refusal other (sym e ∙ f))

rule_is : (types : CTypes) (scope : CScope) (line : ℕ) (node : CNode) (found other : Option Rule) → types ≡ scope.types →
    found ≡ rule_at (placed types scope line node) → found ≡ other → rule_at (record { scope = scope; line = line; node = node }) ≡ other
rule_is types scope line node found other t e f = sym (e ∙ ap (λ these. rule_at (placed these scope line node)) t) ∙ f

pub settled_no : (A : Type 0) (types : CTypes) (scope : CScope) (line : ℕ) (node : CNode) (meaning : A) (found : Option Rule) (rule : Rule) → types ≡ scope.types →
    found ≡ rule_at (placed types scope line node) → found ≡ Some rule →
    walk.settled Check check_gives check_chain check_here check_becomes check_look scope line node meaning scope ≡ stops (refusal_of scope.unit line rule)
unfolding check_chain check_look check_gives
settled_no A types scope line node meaning found rule t e f =
    ap (λ broken. check_behind (check_by (option_map (λ one. record { rule = one; unit = scope.unit; line = line }) broken) scope) (λ _. check_gives A meaning))
    (rule_is types scope line node found (Some rule) t e f)

pub settled_ok : (A : Type 0) (types : CTypes) (scope : CScope) (line : ℕ) (node : CNode) (meaning : A) (found : Option Rule) → types ≡ scope.types →
    found ≡ rule_at (placed types scope line node) → found ≡ None →
    walk.settled Check check_gives check_chain check_here check_becomes check_look scope line node meaning scope ≡ fine meaning scope
unfolding check_chain check_look check_gives
settled_ok A types scope line node meaning found t e f =
    ap (λ broken. check_behind (check_by (option_map (λ one. record { rule = one; unit = scope.unit; line = line }) broken) scope) (λ _. check_gives A meaning))
    (rule_is types scope line node found None t e f)

pub changed_no : (A : Type 0) (types : CTypes) (scope : CScope) (line : ℕ) (node : CNode) (after : CScope) (meaning : A) (found : Option Rule) (rule : Rule) → types ≡ scope.types →
    found ≡ rule_at (placed types scope line node) → found ≡ Some rule →
    walk.changed Check check_gives check_chain check_here check_becomes check_look scope line node after meaning scope ≡ stops (refusal_of scope.unit line rule)
unfolding check_chain check_look check_gives check_becomes
changed_no A types scope line node after meaning found rule t e f =
    ap (λ broken. check_behind (check_by (option_map (λ one. record { rule = one; unit = scope.unit; line = line }) broken) scope)
    (λ _. check_chain Done A (check_becomes after) (λ _. check_gives A meaning)))
    (rule_is types scope line node found (Some rule) t e f)

pub changed_ok : (A : Type 0) (types : CTypes) (scope : CScope) (line : ℕ) (node : CNode) (after : CScope) (meaning : A) (found : Option Rule) → types ≡ scope.types →
    found ≡ rule_at (placed types scope line node) → found ≡ None →
    walk.changed Check check_gives check_chain check_here check_becomes check_look scope line node after meaning scope ≡ fine meaning after
unfolding check_chain check_look check_gives check_becomes
changed_ok A types scope line node after meaning found t e f =
    ap (λ broken. check_behind (check_by (option_map (λ one. record { rule = one; unit = scope.unit; line = line }) broken) scope)
    (λ _. check_chain Done A (check_becomes after) (λ _. check_gives A meaning)))
    (rule_is types scope line node found None t e f)

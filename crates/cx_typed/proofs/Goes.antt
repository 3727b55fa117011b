-- The rules by which a walk that finds no broken node ends.
use Rattle.std.proofs.Common.{◌≡◌, ℕ, Option, None, Some, option_map, refl, sym, ◌∙◌, subst}
use Rattle.cr_base.specs.declared.refusal.Refusal.{Refusal}
use Rattle.cr_base.specs.declared.rule.Rule.{Rule}
use Rattle.cx_rules.proofs.Verdicts.{broken_behind}
use Rattle.cx_rules.specs.Nodes.{CNode, CPlaced}
use Rattle.cx_rules.specs.Pieces.{Done}
use Rattle.cx_rules.specs.Readings.{Seen, seen_gives, seen_chain, seen_here, seen_becomes, seen_look, refusal_at, or_else, first_broken}
use Rattle.cx_rules.specs.Rules.{rule_at}
use Rattle.cx_rules.specs.Scope.{CScope}
use Rattle.cx_rules.specs.Walk as walk
use Rattle.cx_typed.proofs.Unbroken.{unbroken_node}
use Rattle.cx_typed.specs.Unbroken.{IsUnbroken}
use Rattle.cx_typed.specs.Walked.{Ends}

neither_refused : (one other : Option Refusal) → or_else one other ≡ None → (one ≡ None) × (other ≡ None)
neither_refused None other is = (refl, is)
neither_refused (Some refusal) other is = absurd cc

pub go_gives : {A : Type 0} (value : A) (scope : CScope) (Post : A → CScope → Type 0) → Post value scope → Ends (seen_gives A value) scope Post
unfolding seen_gives
go_gives value scope Post held = record { ends = λ fine. held }

pub go_here : (scope : CScope) (Post : CScope → CScope → Type 0) → Post scope scope → Ends seen_here scope Post
unfolding seen_here
go_here scope Post held = record { ends = λ fine. held }

pub go_becomes : (new scope : CScope) (Post : Done → CScope → Type 0) → Post tt new → Ends (seen_becomes new) scope Post
unfolding seen_becomes
go_becomes new scope Post held = record { ends = λ fine. held }

abbrev refused_as : CPlaced → Rule → Refusal
refused_as placed rule = record { rule = rule; unit = placed.scope.unit; line = placed.line }

no_rule : (placed : CPlaced) (found : Option Rule) → option_map (refused_as placed) found ≡ None → found ≡ None
no_rule placed None is = refl
no_rule placed (Some rule) is = absurd cc

pub go_look : (placed : CPlaced) (scope : CScope) (Post : Done → CScope → Type 0) → (IsUnbroken placed.scope placed.scope.types placed.node → Post tt scope) → Ends (seen_look placed) scope Post
unfolding seen_look first_broken
go_look placed scope Post held = record { ends = λ fine. held (unbroken_node placed (no_rule placed (rule_at placed) (neither_refused (refusal_at placed) None fine).0)) }

pub go_chain : (A B : Type 0) (first : Seen A) (next : A → Seen B) (scope : CScope) (Middle : A → CScope → Type 0) (Post : B → CScope → Type 0) → Ends first scope Middle
    → ((value : A) (middle : CScope) → Middle value middle → Ends (next value) middle Post) → Ends (seen_chain A B first next) scope Post
unfolding seen_chain
go_chain A B first next scope Middle Post one other = record {
  ends = λ fine.
      let parts = neither_refused (first_broken (first scope).nodes) (first_broken (next (first scope).meaning (first scope).scope).nodes)
      (sym (broken_behind (first scope).nodes (next (first scope).meaning (first scope).scope).nodes) ∙ fine) in
      (other (first scope).meaning (first scope).scope (one.ends parts.0)).ends parts.1;
}

-- a node that breaks no rule was looked at, and the scope is still this
record IsSeen (scope : CScope) (node : CNode) (start : CScope) (value : Done) (after : CScope) : Type 0 where
  unbroken : IsUnbroken scope scope.types node
  after_is : after ≡ start

looked : (scope : CScope) (line : ℕ) (node : CNode) (start : CScope) → Ends (seen_look (record { scope = scope; line = line; node = node })) start (IsSeen scope node start)
looked scope line node start = go_look (record { scope = scope; line = line; node = node }) start (IsSeen scope node start) (λ unbroken. record { unbroken = unbroken; after_is = refl })

pub go_settled : (A : Type 0) (scope : CScope) (line : ℕ) (node : CNode) (meaning : A) (start : CScope) (Post : A → CScope → Type 0)
    → (IsUnbroken scope scope.types node → Post meaning start) → Ends (walk.settled Seen seen_gives seen_chain seen_here seen_becomes seen_look scope line node meaning) start Post
go_settled A scope line node meaning start Post held =
    go_chain Done A _ _ start (IsSeen scope node start) Post (looked scope line node start)
    (λ value middle at. go_gives meaning middle Post (subst (Post meaning) (sym at.after_is) (held at.unbroken)))

pub go_changed : (A : Type 0) (scope : CScope) (line : ℕ) (node : CNode) (after : CScope) (meaning : A) (start : CScope) (Post : A → CScope → Type 0)
    → (IsUnbroken scope scope.types node → Post meaning after) → Ends (walk.changed Seen seen_gives seen_chain seen_here seen_becomes seen_look scope line node after meaning) start Post
go_changed A scope line node after meaning start Post held =
    go_chain Done A _ _ start (IsSeen scope node start) Post (looked scope line node start)
    (λ value middle at. go_chain Done A _ _ middle (λ done last. last ≡ after) Post (go_becomes after middle (λ done last. last ≡ after) refl)
    (λ done last is. go_gives meaning last Post (subst (Post meaning) (sym is) (held at.unbroken))))

-- what stands here is asked for first
pub go_here_then : (A : Type 0) (next : CScope → Seen A) (start : CScope) (Post : A → CScope → Type 0) → Ends (next start) start Post → Ends (seen_chain CScope A seen_here next) start Post
unfolding seen_chain seen_here
go_here_then A next start Post held = record { ends = λ fine. held.ends fine }

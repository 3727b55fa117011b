-- The two readings of the walk: one sees every node of a tree, and one stops at the first that breaks a rule.
use Rattle.std.specs.Prelude.{List, [], ◌∷◌, ◌++◌, Option, None, Some, option_map}
use Rattle.cr_base.specs.declared.refusal.Refusal.{Refusal}
use Rattle.cx_rules.specs.Nodes.{CPlaced}
use Rattle.cx_rules.specs.Rules.{rule_at}
use Rattle.cx_rules.specs.Scope.{CScope}
use Rattle.cx_rules.specs.Pieces.{Done}

-- ---- every node

-- what a tree means, the scope behind it, and all its nodes in the order in which they count
pub record CSeen (A : Type 0) : Type 0 where
  pub meaning : A
  pub scope : CScope
  pub nodes : List CPlaced

abbrev pub Seen : Type 0 → Type 0
Seen A = CScope → CSeen A

abbrev pub with_nodes : {A : Type 0} → List CPlaced → CSeen A → CSeen A
with_nodes nodes seen = record seen { nodes = nodes ++ seen.nodes }

unfoldable pub seen_gives : (A : Type 0) → A → Seen A
seen_gives A value scope = record { meaning = value; scope = scope; nodes = [] }

abbrev pub seen_behind : {A B : Type 0} → CSeen A → (A → Seen B) → CSeen B
seen_behind first next = with_nodes first.nodes (next first.meaning first.scope)

unfoldable pub seen_chain : (A B : Type 0) → Seen A → (A → Seen B) → Seen B
seen_chain A B first next scope = seen_behind (first scope) next

unfoldable pub seen_here : Seen CScope
seen_here scope = record { meaning = scope; scope = scope; nodes = [] }

unfoldable pub seen_becomes : CScope → Seen Done
seen_becomes new scope = record { meaning = tt; scope = new; nodes = [] }

unfoldable pub seen_look : CPlaced → Seen Done
seen_look placed scope = record { meaning = tt; scope = scope; nodes = placed ∷ [] }

-- ---- the first broken node

-- why a node is refused
abbrev pub refusal_at : CPlaced → Option Refusal
refusal_at placed = option_map (λ rule. record { rule = rule; unit = placed.scope.unit; line = placed.line }) (rule_at placed)

abbrev pub or_else : Option Refusal → Option Refusal → Option Refusal
or_else (Some refusal) other = Some refusal
or_else None other = other

-- the first broken node of a list
unfoldable pub first_broken : List CPlaced → Option Refusal
first_broken [] = None
first_broken (placed ∷ others) = or_else (refusal_at placed) (first_broken others)

-- ---- up to the first broken node

pub data CChecked (A : Type 0) : Type 0 where
  stops : Refusal → CChecked A
  fine : A → CScope → CChecked A

abbrev pub Check : Type 0 → Type 0
Check A = CScope → CChecked A

unfoldable pub check_gives : (A : Type 0) → A → Check A
check_gives A value scope = fine value scope

abbrev pub check_behind : {A B : Type 0} → CChecked A → (A → Check B) → CChecked B
check_behind (stops refusal) next = stops refusal
check_behind (fine value scope) next = next value scope

unfoldable pub check_chain : (A B : Type 0) → Check A → (A → Check B) → Check B
check_chain A B first next scope = check_behind (first scope) next

unfoldable pub check_here : Check CScope
check_here scope = fine scope scope

unfoldable pub check_becomes : CScope → Check Done
check_becomes new scope = fine tt new

abbrev pub check_by : Option Refusal → CScope → CChecked Done
check_by None scope = fine tt scope
check_by (Some refusal) scope = stops refusal

unfoldable pub check_look : CPlaced → Check Done
check_look placed scope = check_by (refusal_at placed) scope

-- ---- what the first reading says of the second

abbrev pub verdict_by : {A : Type 0} → CSeen A → Option Refusal → CChecked A
verdict_by seen None = fine seen.meaning seen.scope
verdict_by seen (Some refusal) = stops refusal

-- where nothing is broken, the meaning and the scope; else the first broken node
unfoldable pub verdict : {A : Type 0} → CSeen A → CChecked A
verdict seen = verdict_by seen (first_broken seen.nodes)

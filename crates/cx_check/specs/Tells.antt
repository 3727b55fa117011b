-- What calls of the checks answer, by all nodes of a tree.
use Rattle.std.specs.Prelude.{◌≡◌, ℕ, ℤ, [], Option, None, Some, Result, Ok, Err}
use Rattle.cr_base.specs.declared.refusal.Refusal.{Refusal}
use Rattle.cr_base.specs.declared.refusal.Stop.{Stop}
use Rattle.cr_base.specs.declared.refusal.Stop.TheVariants as stop
use Rattle.cr_base.specs.declared.rule.Rule.TheVariants as rule
use Rattle.cx_core.specs.Trees.{CTy}
use Rattle.cx_rules.specs.Operands.{COperand, value_of, constant_of}
use Rattle.cx_rules.specs.Readings.{CSeen, Seen, first_broken, or_else}
use Rattle.cx_rules.specs.Scope.{CScope}
use Rattle.cx_rules.specs.Units.{seen_type_name}
use Rattle.cx_tree.specs.Trees.{SpecTrees, DeclaratorTree, TypeName}

-- Either no node is broken, and the answer is what the tree means, with the scope behind it; or the answer is the first broken node.
-- Want of memory may come in place of both.
abbrev pub Tells : {A B : Type 0} → (A → B → Type 0) → Result A Stop → CScope → CSeen B → Type 0
Tells means (Ok value) after seen = (first_broken seen.nodes ≡ None) × (after ≡ seen.scope) × means value seen.meaning
Tells means (Err why) after seen = (refusal : Refusal) → why ≡ stop.Refused refusal → first_broken seen.nodes ≡ Some refusal

-- the value of an expression as an integer constant expression (6.6)
abbrev pub constant_in : CSeen COperand → Option ℤ
constant_in seen = constant_of seen.scope.types (value_of seen.meaning)

-- K17 at an expression that is no integer constant expression
abbrev pub needed : (line unit : ℕ) → Option ℤ → Option Refusal
needed line unit None = Some (record { rule = rule.K17; unit = unit; line = line })
needed line unit (Some value) = None

-- the first broken node of an expression, or K17 at the expression
abbrev pub broken_constant : (line : ℕ) → CSeen COperand → Option Refusal
broken_constant line seen = or_else (first_broken seen.nodes) (needed line seen.scope.unit (constant_in seen))

-- Either nothing is broken, and the answer is the constant, with the scope behind the expression; or the answer is what is broken first.
-- Want of memory may come in place of both.
abbrev pub TellsConstant : Result ℤ Stop → CScope → (line : ℕ) → CSeen COperand → Type 0
TellsConstant (Ok value) after line seen = (broken_constant line seen ≡ None) × (after ≡ seen.scope) × (constant_in seen ≡ Some value)
TellsConstant (Err why) after line seen = (refusal : Refusal) → why ≡ stop.Refused refusal → broken_constant line seen ≡ Some refusal

-- all nodes of the type to which specifiers and a declarator lead, as of a type name
unfoldable pub seen_type : SpecTrees → DeclaratorTree → Seen CTy
seen_type specs declarator = seen_type_name (TypeName specs declarator [])

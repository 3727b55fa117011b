-- The labels that a statement adds to those before it (ISO C99, 6.8.1, 6.8.4.2).
use Rattle.std.specs.Prelude.{◌≡◌, ℕ, ℤ, ◌+◌, Bool, true, false, List, [], ◌∷◌, bytes_eq}
use Rattle.std.specs.List.{IsDistinct, list_any}
use Rattle.std.specs.Ordering.{int_eq}
use Rattle.cx_core.specs.Statements.{labels_in, cases_in, defaults_in, labels_in_list, cases_in_list, defaults_in_list}
use Rattle.cx_core.specs.Trees.{CStmt, CStmts}
use Rattle.cx_rules.specs.Scope.{CLabels}

abbrev pub AreAmong : {A : Type 0} → (A → A → Bool) → List A → List A → Type 0
AreAmong equal all [] = Unit {0}
AreAmong equal all (one ∷ others) = (list_any (equal one) all ≡ true) × AreAmong equal all others

abbrev pub AreFresh : {A : Type 0} → (A → A → Bool) → List A → List A → Type 0
AreFresh equal all [] = Unit {0}
AreFresh equal all (one ∷ others) = (list_any (equal one) all ≡ false) × AreFresh equal all others

-- labels that weren't there before, and differ, are there behind
pub record Adds {A : Type 0} (equal : A → A → Bool) (before after new : List A) : Type 0 where
  pub kept : (one : A) → list_any (equal one) before ≡ true → list_any (equal one) after ≡ true
  pub among : AreAmong equal after new
  pub fresh : AreFresh equal before new
  pub differ : IsDistinct equal new

abbrev pub count_of : Bool → ℕ
count_of true = 1
count_of false = 0

pub record AddsLabels (before after : CLabels) (labels : List (List ℕ)) (cases : List ℤ) (defaults : ℕ) : Type 0 where
  pub labels_added : Adds bytes_eq before.labels after.labels labels
  pub cases_added : Adds int_eq before.cases after.cases cases
  pub defaults_added : count_of before.has_default + defaults ≡ count_of after.has_default

-- those of a statement, and of statements one behind the other
abbrev pub AddsOf : CLabels → CLabels → CStmt → Type 0
AddsOf before after one = AddsLabels before after (labels_in one) (cases_in one) (defaults_in one)

abbrev pub AddsOfList : CLabels → CLabels → CStmts → Type 0
AddsOfList before after all = AddsLabels before after (labels_in_list all) (cases_in_list all) (defaults_in_list all)

-- A node that breaks no rule.
use Rattle.std.specs.Prelude.{◌≡◌, false}
use Rattle.cx_core.specs.Trees.{CTypes}
use Rattle.cx_rules.specs.Nodes.{CNode}
use Rattle.cx_rules.specs.Rules.{broken_o3, broken_o4, broken_o5, broken_o6, broken_o7, broken_o8, broken_o9, broken_o10, broken_o11, broken_k1, broken_k2, broken_k3, broken_k4, broken_k5, broken_k6, broken_k7, broken_k8, broken_k9, broken_k10, broken_k11, broken_k12, broken_k13, broken_k14, broken_k15, broken_k16, broken_k17, broken_k18, broken_k19, broken_k20, broken_k21, broken_k22, broken_k23, broken_k24, broken_m3}
use Rattle.cx_rules.specs.Scope.{CScope}

-- it breaks none of the rules of nodes
pub record IsUnbroken (scope : CScope) (types : CTypes) (node : CNode) : Type 0 where
  pub o3 : broken_o3 types node ≡ false
  pub o4 : broken_o4 node ≡ false
  pub o5 : broken_o5 node ≡ false
  pub o6 : broken_o6 types node ≡ false
  pub o7 : broken_o7 types node ≡ false
  pub o8 : broken_o8 types node ≡ false
  pub o9 : broken_o9 node ≡ false
  pub o10 : broken_o10 node ≡ false
  pub o11 : broken_o11 types node ≡ false
  pub k1 : broken_k1 node ≡ false
  pub k2 : broken_k2 scope node ≡ false
  pub k3 : broken_k3 node ≡ false
  pub k4 : broken_k4 node ≡ false
  pub k5 : broken_k5 types node ≡ false
  pub k6 : broken_k6 types node ≡ false
  pub k7 : broken_k7 node ≡ false
  pub k8 : broken_k8 types node ≡ false
  pub k9 : broken_k9 types node ≡ false
  pub k10 : broken_k10 types node ≡ false
  pub k11 : broken_k11 types node ≡ false
  pub k12 : broken_k12 types node ≡ false
  pub k13 : broken_k13 types node ≡ false
  pub k14 : broken_k14 types node ≡ false
  pub k15 : broken_k15 node ≡ false
  pub k16 : broken_k16 types node ≡ false
  pub k17 : broken_k17 types node ≡ false
  pub k18 : broken_k18 types node ≡ false
  pub k19 : broken_k19 node ≡ false
  pub k20 : broken_k20 node ≡ false
  pub k21 : broken_k21 node ≡ false
  pub k22 : broken_k22 types node ≡ false
  pub k23 : broken_k23 node ≡ false
  pub k24 : broken_k24 types node ≡ false
  pub m3 : broken_m3 types node ≡ false

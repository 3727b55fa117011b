-- What no rule is found for breaks none.
use Rattle.std.proofs.Common.{◌≡◌, Bool, true, false, if◌then◌else◌, List, [], ◌∷◌, Option, None, Some, refl}
use Rattle.std.specs.List.{find}
use Rattle.cr_base.specs.declared.rule.Rule.{Rule}
use Rattle.cr_base.specs.declared.rule.Rule.TheVariants as rule
use Rattle.cx_rules.specs.Nodes.{CPlaced}
use Rattle.cx_rules.specs.Rules.{rule_at, breaks, breaks_in, node_rules}
use Rattle.cx_typed.specs.Unbroken.{IsUnbroken}

none_first : (test : Bool) (one : Rule) (others : Option Rule) → (if test then Some one else others) ≡ None → (test ≡ false) × (others ≡ None)
none_first true one others is = absurd cc
none_first false one others is = (refl, is)

module _ (test : Rule → Bool) where
  found_none : (one : Rule) (others : List Rule) → find test (one ∷ others) ≡ None → (test one ≡ false) × (find test others ≡ None)
  found_none one others is = none_first (test one) one (find test others) is

pub unbroken_node : (placed : CPlaced) → rule_at placed ≡ None → IsUnbroken placed.scope placed.scope.types placed.node
unfolding rule_at breaks node_rules
unbroken_node placed is =
    let test : Rule → Bool = λ one. breaks_in placed.scope placed.scope.types one placed.node in
    let h0 = found_none test rule.O3 (rule.O4 ∷ rule.O5 ∷ rule.O6 ∷ rule.O7 ∷ rule.O8 ∷ rule.O9 ∷ rule.O10 ∷ rule.O11 ∷ rule.K1 ∷ rule.K2 ∷ rule.K3 ∷ rule.K4 ∷ rule.K5 ∷ rule.K6 ∷ rule.K7 ∷ rule.K8 ∷ rule.K9 ∷ rule.K10 ∷ rule.K11 ∷ rule.K12 ∷ rule.K13 ∷ rule.K14 ∷ rule.K15 ∷ rule.K16 ∷ rule.K17 ∷ rule.K18 ∷ rule.K19 ∷ rule.K20 ∷ rule.K21 ∷ rule.K22 ∷ rule.K23 ∷ rule.K24 ∷ rule.M3 ∷ []) is in
    let h1 = found_none test rule.O4 (rule.O5 ∷ rule.O6 ∷ rule.O7 ∷ rule.O8 ∷ rule.O9 ∷ rule.O10 ∷ rule.O11 ∷ rule.K1 ∷ rule.K2 ∷ rule.K3 ∷ rule.K4 ∷ rule.K5 ∷ rule.K6 ∷ rule.K7 ∷ rule.K8 ∷ rule.K9 ∷ rule.K10 ∷ rule.K11 ∷ rule.K12 ∷ rule.K13 ∷ rule.K14 ∷ rule.K15 ∷ rule.K16 ∷ rule.K17 ∷ rule.K18 ∷ rule.K19 ∷ rule.K20 ∷ rule.K21 ∷ rule.K22 ∷ rule.K23 ∷ rule.K24 ∷ rule.M3 ∷ []) h0.1 in
    let h2 = found_none test rule.O5 (rule.O6 ∷ rule.O7 ∷ rule.O8 ∷ rule.O9 ∷ rule.O10 ∷ rule.O11 ∷ rule.K1 ∷ rule.K2 ∷ rule.K3 ∷ rule.K4 ∷ rule.K5 ∷ rule.K6 ∷ rule.K7 ∷ rule.K8 ∷ rule.K9 ∷ rule.K10 ∷ rule.K11 ∷ rule.K12 ∷ rule.K13 ∷ rule.K14 ∷ rule.K15 ∷ rule.K16 ∷ rule.K17 ∷ rule.K18 ∷ rule.K19 ∷ rule.K20 ∷ rule.K21 ∷ rule.K22 ∷ rule.K23 ∷ rule.K24 ∷ rule.M3 ∷ []) h1.1 in
    let h3 = found_none test rule.O6 (rule.O7 ∷ rule.O8 ∷ rule.O9 ∷ rule.O10 ∷ rule.O11 ∷ rule.K1 ∷ rule.K2 ∷ rule.K3 ∷ rule.K4 ∷ rule.K5 ∷ rule.K6 ∷ rule.K7 ∷ rule.K8 ∷ rule.K9 ∷ rule.K10 ∷ rule.K11 ∷ rule.K12 ∷ rule.K13 ∷ rule.K14 ∷ rule.K15 ∷ rule.K16 ∷ rule.K17 ∷ rule.K18 ∷ rule.K19 ∷ rule.K20 ∷ rule.K21 ∷ rule.K22 ∷ rule.K23 ∷ rule.K24 ∷ rule.M3 ∷ []) h2.1 in
    let h4 = found_none test rule.O7 (rule.O8 ∷ rule.O9 ∷ rule.O10 ∷ rule.O11 ∷ rule.K1 ∷ rule.K2 ∷ rule.K3 ∷ rule.K4 ∷ rule.K5 ∷ rule.K6 ∷ rule.K7 ∷ rule.K8 ∷ rule.K9 ∷ rule.K10 ∷ rule.K11 ∷ rule.K12 ∷ rule.K13 ∷ rule.K14 ∷ rule.K15 ∷ rule.K16 ∷ rule.K17 ∷ rule.K18 ∷ rule.K19 ∷ rule.K20 ∷ rule.K21 ∷ rule.K22 ∷ rule.K23 ∷ rule.K24 ∷ rule.M3 ∷ []) h3.1 in
    let h5 = found_none test rule.O8 (rule.O9 ∷ rule.O10 ∷ rule.O11 ∷ rule.K1 ∷ rule.K2 ∷ rule.K3 ∷ rule.K4 ∷ rule.K5 ∷ rule.K6 ∷ rule.K7 ∷ rule.K8 ∷ rule.K9 ∷ rule.K10 ∷ rule.K11 ∷ rule.K12 ∷ rule.K13 ∷ rule.K14 ∷ rule.K15 ∷ rule.K16 ∷ rule.K17 ∷ rule.K18 ∷ rule.K19 ∷ rule.K20 ∷ rule.K21 ∷ rule.K22 ∷ rule.K23 ∷ rule.K24 ∷ rule.M3 ∷ []) h4.1 in
    let h6 = found_none test rule.O9 (rule.O10 ∷ rule.O11 ∷ rule.K1 ∷ rule.K2 ∷ rule.K3 ∷ rule.K4 ∷ rule.K5 ∷ rule.K6 ∷ rule.K7 ∷ rule.K8 ∷ rule.K9 ∷ rule.K10 ∷ rule.K11 ∷ rule.K12 ∷ rule.K13 ∷ rule.K14 ∷ rule.K15 ∷ rule.K16 ∷ rule.K17 ∷ rule.K18 ∷ rule.K19 ∷ rule.K20 ∷ rule.K21 ∷ rule.K22 ∷ rule.K23 ∷ rule.K24 ∷ rule.M3 ∷ []) h5.1 in
    let h7 = found_none test rule.O10 (rule.O11 ∷ rule.K1 ∷ rule.K2 ∷ rule.K3 ∷ rule.K4 ∷ rule.K5 ∷ rule.K6 ∷ rule.K7 ∷ rule.K8 ∷ rule.K9 ∷ rule.K10 ∷ rule.K11 ∷ rule.K12 ∷ rule.K13 ∷ rule.K14 ∷ rule.K15 ∷ rule.K16 ∷ rule.K17 ∷ rule.K18 ∷ rule.K19 ∷ rule.K20 ∷ rule.K21 ∷ rule.K22 ∷ rule.K23 ∷ rule.K24 ∷ rule.M3 ∷ []) h6.1 in
    let h8 = found_none test rule.O11 (rule.K1 ∷ rule.K2 ∷ rule.K3 ∷ rule.K4 ∷ rule.K5 ∷ rule.K6 ∷ rule.K7 ∷ rule.K8 ∷ rule.K9 ∷ rule.K10 ∷ rule.K11 ∷ rule.K12 ∷ rule.K13 ∷ rule.K14 ∷ rule.K15 ∷ rule.K16 ∷ rule.K17 ∷ rule.K18 ∷ rule.K19 ∷ rule.K20 ∷ rule.K21 ∷ rule.K22 ∷ rule.K23 ∷ rule.K24 ∷ rule.M3 ∷ []) h7.1 in
    let h9 = found_none test rule.K1 (rule.K2 ∷ rule.K3 ∷ rule.K4 ∷ rule.K5 ∷ rule.K6 ∷ rule.K7 ∷ rule.K8 ∷ rule.K9 ∷ rule.K10 ∷ rule.K11 ∷ rule.K12 ∷ rule.K13 ∷ rule.K14 ∷ rule.K15 ∷ rule.K16 ∷ rule.K17 ∷ rule.K18 ∷ rule.K19 ∷ rule.K20 ∷ rule.K21 ∷ rule.K22 ∷ rule.K23 ∷ rule.K24 ∷ rule.M3 ∷ []) h8.1 in
    let h10 = found_none test rule.K2 (rule.K3 ∷ rule.K4 ∷ rule.K5 ∷ rule.K6 ∷ rule.K7 ∷ rule.K8 ∷ rule.K9 ∷ rule.K10 ∷ rule.K11 ∷ rule.K12 ∷ rule.K13 ∷ rule.K14 ∷ rule.K15 ∷ rule.K16 ∷ rule.K17 ∷ rule.K18 ∷ rule.K19 ∷ rule.K20 ∷ rule.K21 ∷ rule.K22 ∷ rule.K23 ∷ rule.K24 ∷ rule.M3 ∷ []) h9.1 in
    let h11 = found_none test rule.K3 (rule.K4 ∷ rule.K5 ∷ rule.K6 ∷ rule.K7 ∷ rule.K8 ∷ rule.K9 ∷ rule.K10 ∷ rule.K11 ∷ rule.K12 ∷ rule.K13 ∷ rule.K14 ∷ rule.K15 ∷ rule.K16 ∷ rule.K17 ∷ rule.K18 ∷ rule.K19 ∷ rule.K20 ∷ rule.K21 ∷ rule.K22 ∷ rule.K23 ∷ rule.K24 ∷ rule.M3 ∷ []) h10.1 in
    let h12 = found_none test rule.K4 (rule.K5 ∷ rule.K6 ∷ rule.K7 ∷ rule.K8 ∷ rule.K9 ∷ rule.K10 ∷ rule.K11 ∷ rule.K12 ∷ rule.K13 ∷ rule.K14 ∷ rule.K15 ∷ rule.K16 ∷ rule.K17 ∷ rule.K18 ∷ rule.K19 ∷ rule.K20 ∷ rule.K21 ∷ rule.K22 ∷ rule.K23 ∷ rule.K24 ∷ rule.M3 ∷ []) h11.1 in
    let h13 = found_none test rule.K5 (rule.K6 ∷ rule.K7 ∷ rule.K8 ∷ rule.K9 ∷ rule.K10 ∷ rule.K11 ∷ rule.K12 ∷ rule.K13 ∷ rule.K14 ∷ rule.K15 ∷ rule.K16 ∷ rule.K17 ∷ rule.K18 ∷ rule.K19 ∷ rule.K20 ∷ rule.K21 ∷ rule.K22 ∷ rule.K23 ∷ rule.K24 ∷ rule.M3 ∷ []) h12.1 in
    let h14 = found_none test rule.K6 (rule.K7 ∷ rule.K8 ∷ rule.K9 ∷ rule.K10 ∷ rule.K11 ∷ rule.K12 ∷ rule.K13 ∷ rule.K14 ∷ rule.K15 ∷ rule.K16 ∷ rule.K17 ∷ rule.K18 ∷ rule.K19 ∷ rule.K20 ∷ rule.K21 ∷ rule.K22 ∷ rule.K23 ∷ rule.K24 ∷ rule.M3 ∷ []) h13.1 in
    let h15 = found_none test rule.K7 (rule.K8 ∷ rule.K9 ∷ rule.K10 ∷ rule.K11 ∷ rule.K12 ∷ rule.K13 ∷ rule.K14 ∷ rule.K15 ∷ rule.K16 ∷ rule.K17 ∷ rule.K18 ∷ rule.K19 ∷ rule.K20 ∷ rule.K21 ∷ rule.K22 ∷ rule.K23 ∷ rule.K24 ∷ rule.M3 ∷ []) h14.1 in
    let h16 = found_none test rule.K8 (rule.K9 ∷ rule.K10 ∷ rule.K11 ∷ rule.K12 ∷ rule.K13 ∷ rule.K14 ∷ rule.K15 ∷ rule.K16 ∷ rule.K17 ∷ rule.K18 ∷ rule.K19 ∷ rule.K20 ∷ rule.K21 ∷ rule.K22 ∷ rule.K23 ∷ rule.K24 ∷ rule.M3 ∷ []) h15.1 in
    let h17 = found_none test rule.K9 (rule.K10 ∷ rule.K11 ∷ rule.K12 ∷ rule.K13 ∷ rule.K14 ∷ rule.K15 ∷ rule.K16 ∷ rule.K17 ∷ rule.K18 ∷ rule.K19 ∷ rule.K20 ∷ rule.K21 ∷ rule.K22 ∷ rule.K23 ∷ rule.K24 ∷ rule.M3 ∷ []) h16.1 in
    let h18 = found_none test rule.K10 (rule.K11 ∷ rule.K12 ∷ rule.K13 ∷ rule.K14 ∷ rule.K15 ∷ rule.K16 ∷ rule.K17 ∷ rule.K18 ∷ rule.K19 ∷ rule.K20 ∷ rule.K21 ∷ rule.K22 ∷ rule.K23 ∷ rule.K24 ∷ rule.M3 ∷ []) h17.1 in
    let h19 = found_none test rule.K11 (rule.K12 ∷ rule.K13 ∷ rule.K14 ∷ rule.K15 ∷ rule.K16 ∷ rule.K17 ∷ rule.K18 ∷ rule.K19 ∷ rule.K20 ∷ rule.K21 ∷ rule.K22 ∷ rule.K23 ∷ rule.K24 ∷ rule.M3 ∷ []) h18.1 in
    let h20 = found_none test rule.K12 (rule.K13 ∷ rule.K14 ∷ rule.K15 ∷ rule.K16 ∷ rule.K17 ∷ rule.K18 ∷ rule.K19 ∷ rule.K20 ∷ rule.K21 ∷ rule.K22 ∷ rule.K23 ∷ rule.K24 ∷ rule.M3 ∷ []) h19.1 in
    let h21 = found_none test rule.K13 (rule.K14 ∷ rule.K15 ∷ rule.K16 ∷ rule.K17 ∷ rule.K18 ∷ rule.K19 ∷ rule.K20 ∷ rule.K21 ∷ rule.K22 ∷ rule.K23 ∷ rule.K24 ∷ rule.M3 ∷ []) h20.1 in
    let h22 = found_none test rule.K14 (rule.K15 ∷ rule.K16 ∷ rule.K17 ∷ rule.K18 ∷ rule.K19 ∷ rule.K20 ∷ rule.K21 ∷ rule.K22 ∷ rule.K23 ∷ rule.K24 ∷ rule.M3 ∷ []) h21.1 in
    let h23 = found_none test rule.K15 (rule.K16 ∷ rule.K17 ∷ rule.K18 ∷ rule.K19 ∷ rule.K20 ∷ rule.K21 ∷ rule.K22 ∷ rule.K23 ∷ rule.K24 ∷ rule.M3 ∷ []) h22.1 in
    let h24 = found_none test rule.K16 (rule.K17 ∷ rule.K18 ∷ rule.K19 ∷ rule.K20 ∷ rule.K21 ∷ rule.K22 ∷ rule.K23 ∷ rule.K24 ∷ rule.M3 ∷ []) h23.1 in
    let h25 = found_none test rule.K17 (rule.K18 ∷ rule.K19 ∷ rule.K20 ∷ rule.K21 ∷ rule.K22 ∷ rule.K23 ∷ rule.K24 ∷ rule.M3 ∷ []) h24.1 in
    let h26 = found_none test rule.K18 (rule.K19 ∷ rule.K20 ∷ rule.K21 ∷ rule.K22 ∷ rule.K23 ∷ rule.K24 ∷ rule.M3 ∷ []) h25.1 in
    let h27 = found_none test rule.K19 (rule.K20 ∷ rule.K21 ∷ rule.K22 ∷ rule.K23 ∷ rule.K24 ∷ rule.M3 ∷ []) h26.1 in
    let h28 = found_none test rule.K20 (rule.K21 ∷ rule.K22 ∷ rule.K23 ∷ rule.K24 ∷ rule.M3 ∷ []) h27.1 in
    let h29 = found_none test rule.K21 (rule.K22 ∷ rule.K23 ∷ rule.K24 ∷ rule.M3 ∷ []) h28.1 in
    let h30 = found_none test rule.K22 (rule.K23 ∷ rule.K24 ∷ rule.M3 ∷ []) h29.1 in
    let h31 = found_none test rule.K23 (rule.K24 ∷ rule.M3 ∷ []) h30.1 in
    let h32 = found_none test rule.K24 (rule.M3 ∷ []) h31.1 in
    let h33 = found_none test rule.M3 ([]) h32.1 in
    record {
      o3 = h0.0;
      o4 = h1.0;
      o5 = h2.0;
      o6 = h3.0;
      o7 = h4.0;
      o8 = h5.0;
      o9 = h6.0;
      o10 = h7.0;
      o11 = h8.0;
      k1 = h9.0;
      k2 = h10.0;
      k3 = h11.0;
      k4 = h12.0;
      k5 = h13.0;
      k6 = h14.0;
      k7 = h15.0;
      k8 = h16.0;
      k9 = h17.0;
      k10 = h18.0;
      k11 = h19.0;
      k12 = h20.0;
      k13 = h21.0;
      k14 = h22.0;
      k15 = h23.0;
      k16 = h24.0;
      k17 = h25.0;
      k18 = h26.0;
      k19 = h27.0;
      k20 = h28.0;
      k21 = h29.0;
      k22 = h30.0;
      k23 = h31.0;
      k24 = h32.0;
      m3 = h33.0;
    }

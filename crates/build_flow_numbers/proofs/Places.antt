-- Places that are the same, and the paths at which they stand.
use Rattle.std.proofs.Common.{◌≡◌, ◌∙◌, ◌⊎◌, inl, inr, ℕ, zero, suc, ◌+◌, ◌<◌, ◌≤◌, ◌==◌, Bool, true, false, ◌&&◌, List, [], ◌∷◌, ◌++◌, length, Option, Some, None, refl, sym, ap, subst, arith}
use Rattle.std.proofs.lemmas.List.{length-append}
use Rattle.build_flow_nodes.specs.Points.{FlowPlace, at_part, on_edge, same_path, same_node, same_place}
use Rattle.cx_mean.specs.BodyGraph.{CNode, CPath, at_statement, at_test, at_third, at_end}
use Rattle.reloop.proofs.Sets.{same_number, equal_itself}

both_true : (a b : Bool) → (a && b) ≡ true → (a ≡ true) × (b ≡ true)
both_true true b is = (refl, is)
both_true false b is = absurd cc

same_path_is : (one other : CPath) → same_path one other ≡ true → one ≡ other
same_path_is [] [] is = refl
same_path_is (one ∷ others) (first ∷ rest) is =
    let both = both_true (one == first) (same_path others rest) is in
    let heads : one ≡ first = same_number one first both.0 in
    let tails : others ≡ rest = same_path_is others rest both.1 in
    cc
same_path_is [] (first ∷ rest) is = absurd cc
same_path_is (one ∷ others) [] is = absurd cc

same_path_itself : (path : CPath) → same_path path path ≡ true
same_path_itself [] = refl
same_path_itself (one ∷ others) = ap (λ (is : Bool). is && same_path others others) (equal_itself one) ∙ same_path_itself others

same_node_is : (one other : CNode) → same_node one other ≡ true → one ≡ other
same_node_is (at_statement one) (at_statement other) is = ap at_statement (same_path_is one other is)
same_node_is (at_test one) (at_test other) is = ap at_test (same_path_is one other is)
same_node_is (at_third one) (at_third other) is = ap at_third (same_path_is one other is)
same_node_is at_end at_end is = refl
same_node_is (at_statement one) other is = absurd cc
same_node_is (at_test one) other is = absurd cc
same_node_is (at_third one) other is = absurd cc
same_node_is at_end other is = absurd cc

same_node_itself : (node : CNode) → same_node node node ≡ true
same_node_itself (at_statement path) = same_path_itself path
same_node_itself (at_test path) = same_path_itself path
same_node_itself (at_third path) = same_path_itself path
same_node_itself at_end = refl

pub same_place_is : (one other : FlowPlace) → same_place one other ≡ true → one ≡ other
same_place_is (at_part one) (at_part other) is = ap at_part (same_node_is one other is)
same_place_is (on_edge one to) (on_edge other target) is =
    let both = both_true (same_path one other) (same_path to target) is in
    let choices : one ≡ other = same_path_is one other both.0 in
    let targets : to ≡ target = same_path_is to target both.1 in
    cc
same_place_is (at_part one) (on_edge other target) is = absurd cc
same_place_is (on_edge one to) (at_part other) is = absurd cc

pub same_place_itself : (place : FlowPlace) → same_place place place ≡ true
same_place_itself (at_part node) = same_node_itself node
same_place_itself (on_edge choice target) = ap (λ (is : Bool). is && same_path target target) (same_path_itself choice) ∙ same_path_itself target

-- a test is one or the other
pub tells : (is : Bool) → (is ≡ true) ⊎ (is ≡ false)
tells true = inl refl
tells false = inr refl

-- places that differ are told apart
pub differ : (one other : FlowPlace) → (one ≡ other → ⊥) → same_place one other ≡ false
differ one other apart = by (tells (same_place one other))
  where
    by : (same_place one other ≡ true) ⊎ (same_place one other ≡ false) → same_place one other ≡ false
    by (inl is) = absurd (apart (same_place_is one other is))
    by (inr is) = is

pub apart_back : (one other : FlowPlace) → same_place one other ≡ false → same_place other one ≡ false
apart_back one other is = differ other one (λ same. let no : same_place one other ≡ true = ap (λ (x : FlowPlace). same_place one x) same ∙ same_place_itself one in cc)

-- ---- paths

-- the path at which a place stands
abbrev pub path_of : FlowPlace → CPath
path_of (at_part (at_statement path)) = path
path_of (at_part (at_test path)) = path
path_of (at_part (at_third path)) = path
path_of (at_part at_end) = []
path_of (on_edge choice target) = choice

-- a path leads to one or through it
abbrev pub Through : CPath → CPath → Type 0
Through path long = (rest : List ℕ) × (long ≡ rest ++ path)

longer : (path rest : CPath) (number : ℕ) → path ≡ rest ++ number ∷ path → ⊥
longer path rest number is = let long : length path ≡ length (rest ++ number ∷ path) = ap length is in absurd (omega (arith, long, length-append rest (number ∷ path)))

pub not_itself : (path long : CPath) (number : ℕ) → long ≡ path → Through (number ∷ path) long → ⊥
not_itself path long number same through = longer path through.0 number (sym same ∙ through.1)

lengths_same : (first second path : List ℕ) (one other : ℕ) → first ++ one ∷ path ≡ second ++ other ∷ path → length first ≡ length second
lengths_same first second path one other is =
    let long : length (first ++ one ∷ path) ≡ length (second ++ other ∷ path) = ap length is in
    omega (arith, long, length-append first (one ∷ path), length-append second (other ∷ path))

ends_same : (first second path : List ℕ) (one other : ℕ) → length first ≡ length second → first ++ one ∷ path ≡ second ++ other ∷ path → one ≡ other
ends_same [] [] path one other long is = cc
ends_same (x ∷ first) (y ∷ second) path one other long is = ends_same first second path one other (omega (arith, long)) (cc)
ends_same [] (y ∷ second) path one other long is = absurd (omega (arith, long))
ends_same (x ∷ first) [] path one other long is = absurd (omega (arith, long))

-- it goes through one part alone
pub one_part : (path long : CPath) (one other : ℕ) → Through (one ∷ path) long → Through (other ∷ path) long → one ≡ other
one_part path long one other first second =
    let same : first.0 ++ one ∷ path ≡ second.0 ++ other ∷ path = sym first.1 ∙ second.1 in
    ends_same first.0 second.0 path one other (lengths_same first.0 second.0 path one other same) same

-- Lists that grow until memory runs out.
use Rattle.std.proofs.Common.{◌≡◌, ℕ, List, [], ◌∷◌, ◌++◌, Option, Some, None, sym, ap, subst, ◌∙◌, append_assoc, append-nil}
use Rattle.rs_text.specs.declared.line.Line.{Line}
use Rattle.rs_text.specs.Lines.{line}
use Rattle.rs_text.specs.Printing.{Appends, grown, AddsLine}

pub nothing_more : {A : Type 0} (a : Option (List A)) → Appends a a []
nothing_more None = tt
nothing_more (Some a) = sym (append-nil a)

pub then : {A : Type 0} (a b c : Option (List A)) (x y z : List A) → Appends a b x → Appends b c y → x ++ y ≡ z → Appends a c z
then a b None x y z first second same = tt
then a None (Some c) x y z first second same = absurd second
then None (Some b) (Some c) x y z first second same = absurd first
then (Some a) (Some b) (Some c) x y z first second same = second ∙ ap (λ l. l ++ y) first ∙ append_assoc a x y ∙ ap (λ l. a ++ l) same

-- the line of a text
pub added : (a b : Option (List Line)) (draft : Option (List ℕ)) (depth : ℕ) (text : List ℕ) →
    AddsLine a b depth draft → Appends (Some []) draft text → Appends a b (line depth text ∷ [])
added a b None depth text adds is = subst (λ after. Appends a after (line depth text ∷ [])) (sym adds) tt
added a b (Some written) depth text adds is = subst (λ of. Appends a b (line depth of ∷ [])) is adds

-- ---- loops: what is printed and what is left are the whole

pub loop_begins : {A : Type 0} (a : Option (List A)) (x y : List A) → x ≡ y → Appends a (grown a x) y
loop_begins None x y same = tt
loop_begins (Some a) x y same = ap (λ l. a ++ l) same

pub loop_goes_on : {A : Type 0} (a b c : Option (List A)) (rest more left all : List A) →
    Appends a (grown b rest) all → Appends b c more → rest ≡ more ++ left → Appends a (grown c left) all
loop_goes_on a b None rest more left all sofar step same = tt
loop_goes_on a None (Some c) rest more left all sofar step same = absurd step
loop_goes_on None (Some b) (Some c) rest more left all sofar step same = absurd sofar
loop_goes_on (Some a) (Some b) (Some c) rest more left all sofar step same =
    ap (λ l. l ++ left) step ∙ append_assoc b more left ∙ ap (λ l. b ++ l) (sym same) ∙ sofar

pub loop_ends : {A : Type 0} (a b c : Option (List A)) (rest more all : List A) → Appends a (grown b rest) all → Appends b c more → rest ≡ more → Appends a c all
loop_ends a b None rest more all sofar step same = tt
loop_ends a None (Some c) rest more all sofar step same = absurd step
loop_ends None (Some b) (Some c) rest more all sofar step same = absurd sofar
loop_ends (Some a) (Some b) (Some c) rest more all sofar step same = step ∙ ap (λ l. b ++ l) (sym same) ∙ sofar

pub ruleset growing = (nothing_more, then, loop_begins, loop_goes_on, loop_ends)

-- and the line that a text becomes
pub ruleset growing_lines = (growing, added)
